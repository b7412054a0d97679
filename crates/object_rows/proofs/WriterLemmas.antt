-- What a writer has written.
use Rattle.std.proofs.Common.{◌≡◌, ℕ, ◌∙◌, false, List, [], ◌++◌, ap}
use Rattle.std.specs.Prelude.{Vec}
use Rattle.std.specs.declared.alloc.Global.{Global}
use Rattle.std.specs.Io.KnownBytes.{Appends}
use Rattle.csv.specs.Writing.{default_writer, fields_written, has_written, row_text, writer_pending, writer_setup, writer_under}
use Rattle.object_rows.specs.Writer.{IsBetweenRows, VecWriter, text_by, written_by}

pub record WritesRow (old new : VecWriter) (fields : List (List ℕ)) : Type 0 where
  pub between : IsBetweenRows new
  pub text : text_by new ≡ text_by old ++ row_text default_writer fields

pub row_written : (old new : VecWriter) (fields : List (List ℕ)) → IsBetweenRows old
    → Appends (written_by old) (written_by new) (row_text (writer_setup old) fields)
    → fields_written new ≡ 0 → has_written new ≡ false → writer_setup new ≡ writer_setup old → WritesRow old new fields
row_written old new fields was appends ended clean setup = record {
  between = record { setup = setup ∙ was.setup; fields = ended; wrote = clean };
  text = appends ∙ ap (λ cfg. text_by old ++ row_text cfg fields) was.setup;
}

pub record IsFresh (writer : VecWriter) : Type 0 where
  pub between : IsBetweenRows writer
  pub text : text_by writer ≡ []

pub fresh_writer : (writer : VecWriter) (bytes : Vec ℕ Global) → writer_under writer ≡ bytes → bytes.items ≡ [] → writer_pending writer ≡ []
    → writer_setup writer ≡ default_writer → fields_written writer ≡ 0 → has_written writer ≡ false → IsFresh writer
fresh_writer writer bytes under none pending setup fields wrote = record {
  between = record { setup = setup; fields = fields; wrote = wrote };
  text = ap (λ (v : Vec ℕ Global). v.items ++ writer_pending writer) under ∙ ap (λ xs. xs ++ writer_pending writer) none ∙ pending;
}
