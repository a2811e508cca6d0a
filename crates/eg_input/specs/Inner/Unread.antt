-- What a reader of records has not read yet.
use Rattle.std.specs.Prelude.{◌≡◌, ℕ, ◌+◌, true, false, List, length, Some}
use Rattle.std.specs.Borrow.{Bor}
use Rattle.csv.specs.Machine.{ends_at_end}
use Rattle.csv.specs.Reading.{records_from, default_config, source_of, is_flexible, reader_config, reader_trim, reader_state, Ready}
use Rattle.csv.specs.declared.reader.Reader.{Reader}
use Rattle.csv.specs.declared.parser.State.{State}
use Rattle.csv.specs.declared.reader.Trim.TheVariants as trim
use Rattle.eg_input.specs.Records.{Record}

-- the records of a text from a state of the reader
abbrev pub records_after : State → List ℕ → List Record
records_after state text = records_from default_config (length text + 1) state text

-- A reader over bytes in memory stands between two records, and these are the records that it has not read
-- yet. The reader takes no record for a header, trims nothing, and refuses no record for its number of
-- fields.
pub record HasUnread (reader : Reader (Bor (List ℕ))) (left : List Record) : Type 0 where
  pub config : reader_config reader ≡ default_config
  pub trim : reader_trim reader ≡ trim.None
  pub flexible : is_flexible reader ≡ true
  pub ready : Ready reader
  pub between : ends_at_end (reader_state reader) ≡ false
  pub text : List ℕ
  pub source : source_of (λ s. Some s.now) reader ≡ Some text
  pub are_left : records_after (reader_state reader) text ≡ left
