-- The text that a writer has written.
use Rattle.std.specs.Prelude.{◌≡◌, ℕ, false, Option, Some, List, [], Vec, unwrap_or}
use Rattle.std.specs.declared.alloc.Global.{Global}
use Rattle.csv.specs.Writing.{default_writer, fields_written, has_written, text_written, writer_setup}
use Rattle.csv.specs.declared.writer.Writer.{Writer}
use Rattle.csv.specs.Records.{Row, partial_of}

abbrev pub VecWriter : Type 0
VecWriter = Writer (Vec ℕ Global)

abbrev pub written_by : VecWriter → Option (List ℕ)
written_by writer = text_written (λ bytes. Some bytes.items) writer

abbrev pub text_by : VecWriter → List ℕ
text_by writer = unwrap_or (written_by writer) []

-- a writer with the default settings stands between two rows
pub record IsBetweenRows (writer : VecWriter) : Type 0 where
  pub setup : writer_setup writer ≡ default_writer
  pub fields : fields_written writer ≡ 0
  pub wrote : has_written writer ≡ false

-- each field of the row is ended
abbrev pub IsBetweenFields : Row → Type 0
IsBetweenFields row = partial_of row ≡ []
