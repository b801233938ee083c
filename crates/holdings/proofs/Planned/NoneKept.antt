-- Runs of which no place has an entry, frame after frame.
use Rattle.std.proofs.Common.{◌≡◌, ℕ, ◌+◌, ◌<◌, true, not, List, drop, length, get_or, sym, ap, ◌∙◌, subst}
use Rattle.std.specs.List.{All, list_all}
use Rattle.std.proofs.lemmas.Bool.{and_parts}
use Rattle.std.proofs.lemmas.List.Folds.{list_all-append}
use Rattle.space.specs.declared.shards.Shards.{Shards}
use Rattle.maptree.specs.Origins.{Shape}
use Rattle.pieces.specs.declared.runs.FrameRuns.{FrameRuns}
use Rattle.holdings.specs.Inner.Held.{links_in, has_entry}
use Rattle.holdings.specs.Inner.StripPlans.{AllCanBePruned, in_runs, in_frames}
use Rattle.holdings.proofs.Planned.Trees.{ArePrunedUpTo, drop_here}

-- none of the next frame's runs has one, and none of the others
pub gone_next : (s : Shards) (fs : List FrameRuns) (n : ℕ) (now : List Shape) (d : FrameRuns) → n < length fs → list_all (λ p. not (has_entry s p)) (in_frames now (drop n fs)) ≡ true
    → (list_all (λ p. not (has_entry s p)) (in_runs (links_in now (get_or fs n d).frame) (get_or fs n d).runs) ≡ true) × (list_all (λ p. not (has_entry s p)) (in_frames now (drop (n + 1) fs)) ≡ true)
gone_next s fs n now d less gone =
    let f = get_or fs n d in
    and_parts _ _ (sym (list_all-append (λ p. not (has_entry s p)) (in_runs (links_in now f.frame) f.runs) (in_frames now (drop (n + 1) fs)))
    ∙ ap (λ gs. list_all (λ p. not (has_entry s p)) (in_frames now gs)) (sym (drop_here n fs d less)) ∙ gone)

-- the others are other frames
pub differ_next : (s : Shards) (fs : List FrameRuns) (old : List Shape) (n : ℕ) (now : List Shape) (d : FrameRuns) → ArePrunedUpTo s fs old n now → n < length fs → All (λ f. f.frame ≡ (get_or fs n d).frame → ⊥) (drop (n + 1) fs)
differ_next s fs old n now d so_far less = (subst (AllCanBePruned s now) (drop_here n fs d less) so_far.rest).2
