-- What pieces found out, gathered in the order of their numbers.
use Rattle.std.specs.Prelude.{◌≡◌, ℕ, ◌==◌, nat_le, Bool, not, List, [], ◌∷◌, map, Option, Some, None, if◌then◌else◌}
use Rattle.std.specs.List.{list_any, flat_map, range_with_len}
use Rattle.fpage.specs.Rights.{no_rights, join}
use Rattle.fpage.specs.declared.rights.Rights.{Rights}
use Rattle.space.specs.Slices.{nodes_of}
use Rattle.pieces.specs.Distinct.{is_none_of, are_distinct}
use Rattle.pieces.specs.Values.{Value, no_value}
use Rattle.pieces.specs.Dones.{DoneContent}
use Rattle.pieces.specs.declared.gathering.GatherFault.{GatherFault}
use Rattle.pieces.specs.declared.gathering.GatherFault.TheVariants.{Stranger, Twice, Missing}
use Rattle.pieces.specs.declared.gathering.Gathered.{Gathered}

-- the numbers of the pieces that were done
abbrev pub numbers_of : List DoneContent → List ℕ
numbers_of ds = map (λ d. d.number) ds

-- whether a number is that of none of so many pieces
abbrev pub has_stranger : ℕ → List DoneContent → Bool
has_stranger n ds = list_any (λ d. nat_le n d.number) ds

-- whether one of so many pieces is not there
abbrev pub is_missing : ℕ → List DoneContent → Bool
is_missing n ds = list_any (is_none_of (numbers_of ds)) (range_with_len 0 n)

-- why they are no results of so many pieces: the first that fits
abbrev pub fault_in : ℕ → List DoneContent → Option GatherFault
fault_in n ds =
    if has_stranger n ds then Some Stranger
    else if not (are_distinct (numbers_of ds)) then Some Twice
    else if is_missing n ds then Some Missing
    else None

-- what the piece of a number found out
abbrev pub found_by : ℕ → List DoneContent → Value
found_by k [] = no_value
found_by k (d ∷ ds) = if d.number == k then d.found else found_by k ds

-- what so many pieces found out, in the order of their numbers
abbrev pub all_found : ℕ → List DoneContent → List Value
all_found n ds = map (λ k. found_by k ds) (range_with_len 0 n)

-- the union of some status
abbrev pub union_of : List Rights → Rights
union_of [] = no_rights
union_of (s ∷ ss) = join s (union_of ss)

-- kept nodes and answers in this order, and the union of the status
pub record IsGathered (vs : List Value) (g : Gathered) : Type 0 where
  pub slices : nodes_of g.slices.items ≡ map (λ v. v.kept) vs
  pub status : g.status ≡ union_of (map (λ v. v.status) vs)
  pub answers : g.answers.items ≡ flat_map (λ v. v.answers) vs
