-- A reader of `csv` over bytes in memory, and the records that it has yet to give.
use Rattle.std.specs.Prelude.{◌≡◌, ℕ, ◌+◌, Bool, true, false, List, [], ◌∷◌, length, Option, Some, None}
use Rattle.csv.specs.Reading.{Ready, default_config, has_failed, names_headers, reader_config, reader_headers, reader_state, reader_trim, records_from, source_of, strip_bom}
use Rattle.csv.specs.declared.parser.State.{State}
use Rattle.csv.specs.declared.parser.State.TheVariants as st
use Rattle.csv.specs.declared.reader.Reader.{Reader}
use Rattle.csv.specs.declared.reader.Trim.TheVariants as trim
use Rattle.model.specs.Definitions.Records.{Fields}

-- the bytes that are left, which are known
abbrev pub known : List ℕ → Option (List ℕ)
known = Some

-- it takes no header row, trims nothing, and has all of the bytes before it
pub record IsAtStart (bytes : List ℕ) (rows : Reader (List ℕ)) : Type 0 where
  pub trim : reader_trim rows ≡ trim.None
  pub config : reader_config rows ≡ default_config
  pub has_headers : names_headers rows ≡ false
  pub headers : reader_headers rows ≡ None
  pub state : reader_state rows ≡ st.StartRecord
  pub works : has_failed rows ≡ false
  pub source : source_of known rows ≡ Some (strip_bom bytes)

-- it trims nothing, its next read is of a record, and it has not failed
pub record IsReading (rows : Reader (List ℕ)) : Type 0 where
  pub trim : reader_trim rows ≡ trim.None
  pub config : reader_config rows ≡ default_config
  pub ready : Ready rows
  pub works : has_failed rows ≡ false

-- every record from a state on, where the bytes from there on are known
abbrev pub records_after : State → Option (List ℕ) → List Fields
records_after s None = []
records_after s (Some xs) = records_from default_config (length xs + 1) s xs

-- the records that a reader has yet to give
abbrev pub rows_left : Reader (List ℕ) → List Fields
rows_left rows = records_after (reader_state rows) (source_of known rows)

-- the same behind a record that it gave, if it gave one
abbrev pub with_row : Bool → Fields → Reader (List ℕ) → List Fields
with_row true row rows = row ∷ rows_left rows
with_row false row rows = []
