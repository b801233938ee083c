-- A trace that is read record by record.
use Rattle.std.proofs.Common.{◌≡◌, ℕ, List, [], ◌∷◌, ◌++◌, map, Option, Some, None, IfSome, sym, ap, ◌∙◌, subst, append_assoc, append-nil}
use Rattle.std.specs.Prelude.{MatchOption}
use Rattle.std.proofs.lemmas.List.{map-append}
use Rattle.model.specs.Definitions.Calls.{Limits}
use Rattle.model.specs.Definitions.Records.{Fields, Version, header_fields, records_of}
use Rattle.trace.specs.Meaning.{TraceRecord}
use Rattle.trace.specs.Trace.{of_version}
use Rattle.trace.specs.Unread.{Unread, past, IsOpened}

-- the bytes are a header, the records so far, and those that are left
pub record SoFar (bytes : List ℕ) (version : Version) (limits : Limits) (records : List TraceRecord) (left : List Fields) : Type 0 where
  pub header : Fields
  pub done : List Fields
  pub whole : records_of bytes ≡ header ∷ (done ++ left)
  pub names : header_fields header ≡ Some (record { version = version; limits = limits })
  pub are : records ≡ map (of_version version) done

pub so_far-start : (bytes : List ℕ) (u : Unread) → IsOpened bytes u → (limits : Limits) → limits ≡ u.limits → (records : List TraceRecord) → records ≡ [] → SoFar bytes u.version limits records u.records
so_far-start bytes u is limits same records none = record { header = is.header; done = []; whole = is.records; names = rw same is.names; are = none }

pub so_far-more : {bytes : List ℕ} {version : Version} {limits : Limits} {records : List TraceRecord} {left : List Fields} → SoFar bytes version limits records left
    → (taken : TraceRecord) (rest : List Fields) (more : List TraceRecord) → left ≡ taken.fields ∷ rest → taken.version ≡ version → more ≡ records ++ taken ∷ [] → SoFar bytes version limits more rest
so_far-more {bytes} {version} {limits} {records} {left} s taken rest more next same are = record {
  header = s.header;
  done = s.done ++ taken.fields ∷ [];
  whole = s.whole ∙ ap (λ l. s.header ∷ (s.done ++ l)) next ∙ ap (λ l. s.header ∷ l) (sym (append_assoc s.done (taken.fields ∷ []) rest));
  names = s.names;
  are = are ∙ (λ i. s.are i ++ record { version = same i; fields = taken.fields } ∷ []) ∙ sym (map-append (of_version version) s.done (taken.fields ∷ []));
}

pub so_far-taken : {bytes : List ℕ} {limits : Limits} {records : List TraceRecord} (old new : Unread) → SoFar bytes old.version limits records old.records
    → (next : Option TraceRecord) (taken : TraceRecord) → next ≡ Some taken → MatchOption next (old.records ≡ []) (λ t. old.records ≡ t.fields ∷ new.records)
    → IfSome next (λ t. t.version ≡ old.version) → MatchOption next (new ≡ old) (λ t. new ≡ past 1 old)
    → (more : List TraceRecord) → more ≡ records ++ taken ∷ [] → SoFar bytes new.version limits more new.records
so_far-taken old new s None taken is next same stands more are = absurd (cc is)
so_far-taken {bytes} {limits} {records} old new s (Some t) taken is next same stands more are =
    let told : t ≡ taken = cc is in
    let version : new.version ≡ old.version = ap (λ (u : Unread). u.version) stands in
    let P : Version → Type 0 = λ v. SoFar bytes v limits more new.records in
    subst P (sym version) (so_far-more s t new.records more next same (are ∙ ap (λ (r : TraceRecord). records ++ r ∷ []) (sym told)))

pub so_far-end : {bytes : List ℕ} {version : Version} {limits : Limits} {records : List TraceRecord} {left : List Fields} (s : SoFar bytes version limits records left) → left ≡ [] → records_of bytes ≡ s.header ∷ s.done
so_far-end {bytes} {version} {limits} {records} s none = s.whole ∙ ap (λ l. s.header ∷ (s.done ++ l)) none ∙ ap (λ l. s.header ∷ l) (append-nil s.done)
