-- A reader of `csv` over bytes in memory, and the records that it has yet to give.
use Rattle.std.proofs.Common.{◌≡◌, ◌∙◌, List, ℕ, ◌+◌, [], ◌∷◌, length, take, drop, ◌++◌, Bool, true, false, not, ◌&&◌, ◌==◌, Some, refl, sym, ap, inl, inr, arith}
use Rattle.csv.specs.Reading.{Reached, ReadRecord, default_config, has_failed, reader_state, records_from, source_of, strip_bom, took_first}
use Rattle.csv.specs.declared.reader.Reader.{Reader}
use Rattle.csv.proofs.ReadFacts.{rows-end, rows-more}
use Rattle.model.specs.Definitions.Records.{Fields, records_of}
use Rattle.trace.specs.Rows.{known, IsAtStart, IsReading, records_after, rows_left, with_row}
use Rattle.trace.proofs.Counted.{first_record, no_record}

-- the bytes that a reader has left, which are known until it fails
record HasLeft (rows : Reader (List ℕ)) : Type 0 where
  pub left : List ℕ
  pub source : source_of known rows ≡ Some left

has_left : (rows : Reader (List ℕ)) → has_failed rows ≡ false → HasLeft rows
has_left rows works = by (not rows.bom_checked && (rows.at == 0) && (rows.filled == 0)) refl
  where
    by : (b : Bool) → (not rows.bom_checked && (rows.at == 0) && (rows.filled == 0)) ≡ b → HasLeft rows
    by true is = record { left = strip_bom rows.rdr; source = rw (works, is) refl }
    by false is = record { left = drop rows.at (take rows.filled rows.buffer) ++ rows.rdr; source = rw (works, is) refl }

-- a reader at the start has every record to give
pub at_start : {bytes : List ℕ} (rows : Reader (List ℕ)) → IsAtStart bytes rows → rows_left rows ≡ records_of bytes
at_start rows start = rw (start.state, start.source) refl

pub reading_at_start : {bytes : List ℕ} (rows : Reader (List ℕ)) → IsAtStart bytes rows → IsReading rows
reading_at_start rows start = record { trim = start.trim; config = start.config; ready = inr (inr (start.has_headers, start.headers)); works = start.works }

-- a read gives the first of the records that are left
pub row_read : (old new : Reader (List ℕ)) (found : Bool) (row : Fields) → IsReading old → ReadRecord known old new found row → rows_left old ≡ with_row found row new
unfolding Reached
row_read old new true row reading step =
    let had = has_left old reading.works in
    let more = rows-more known old new row default_config (reader_state old) had.left had.left [] reading.config had.source (refl, refl) step in
    let read = more.2 in
    let first = first_record default_config (length had.left + 1) (reader_state old) had.left read.0 (omega arith) read.1 in
    ap (records_after (reader_state old)) had.source
    ∙ first
    ∙ (λ i. sym read.2 i ∷ records_from default_config (length (read.3.1 i) + 1) (read.3.0 i) (read.3.1 i))
    ∙ ap (λ s. row ∷ records_after (reader_state new) s) (sym more.1)
row_read old new false row reading step =
    let had = has_left old reading.works in
    ap (records_after (reader_state old)) had.source
    ∙ no_record default_config (length had.left + 1) (reader_state old) had.left (rows-end known old new row default_config had.left reading.config had.source step)

-- and the reader reads on
pub reads_on : (old new : Reader (List ℕ)) (found : Bool) (row : Fields) → IsReading old → ReadRecord known old new found row → took_first new ≡ true → has_failed new ≡ has_failed old → IsReading new
reads_on old new found row reading step first same = record { trim = step.3 ∙ reading.trim; config = step.2 ∙ reading.config; ready = inl first; works = same ∙ reading.works }
