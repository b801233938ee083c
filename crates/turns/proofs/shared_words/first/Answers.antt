use Rattle.std.proofs.Common.{◌≡◌, ℕ, zero, suc, ◌<◌, false, List, [], ◌∷◌, length, drop, Some, ap, ◌∙◌, arith}
use Rattle.std.proofs.lemmas.Option.{slice_get-get_or}
use Rattle.pieces.specs.Distinct.{is_none_of}
use Rattle.turns.proofs.shared_words.first.Goals as goal

some_left : (at : List ℕ) (i x : ℕ) → is_none_of (drop i at) x ≡ false → i < length at
some_left [] zero x h = absurd (cc)
some_left [] (suc i) x h = absurd (cc)
some_left (y ∷ at) zero x h = omega arith
some_left (y ∷ at) (suc i) x h = let m = some_left at i x h in omega arith

pub returns : goal.returns
returns c = slice_get-get_or c.args.at.now c.loop-i.i 0 (some_left c.args.at.now c.loop-i.i c.args.index c.loop-i.invariant.1) ∙ ap Some c.loop-i-test.false
