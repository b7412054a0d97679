-- The records that a reader of a text has left.
use Rattle.std.specs.Prelude.{◌≡◌, ℕ, ◌+◌, false, Option, Some, List, [], length, unwrap_or}
use Rattle.std.specs.Borrow.{Bor}
use Rattle.csv.specs.Machine.{ends_at_end}
use Rattle.csv.specs.Reading.{Ready, default_config, reader_config, reader_state, reader_trim, records_from, source_of}
use Rattle.csv.specs.declared.reader.Reader.{Reader}
use Rattle.csv.specs.declared.reader.Trim.TheVariants as trims

abbrev pub SliceReader : Type 0
SliceReader = Reader (Bor (List ℕ))

abbrev pub unread_in : SliceReader → Option (List ℕ)
unread_in reader = source_of (λ bytes. Some bytes.now) reader

abbrev pub left_in : SliceReader → List (List (List ℕ))
left_in reader =
    let text = unwrap_or (unread_in reader) [] in
    records_from default_config (length text + 1) (reader_state reader) text

-- a reader with the default settings stands before a record, or at the end
pub record IsBetweenRecords (reader : SliceReader) : Type 0 where
  pub config : reader_config reader ≡ default_config
  pub trim : reader_trim reader ≡ trims.None
  pub ready : Ready reader
  pub state : ends_at_end (reader_state reader) ≡ false
  pub text : List ℕ
  pub known : unread_in reader ≡ Some text
