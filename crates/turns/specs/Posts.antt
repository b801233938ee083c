-- A piece at work: its number, and how many of its steps were done.
use Rattle.std.specs.Prelude.{◌≡◌, ℕ, ◌≤◌, [], ◌∷◌, Option, Some}
use Rattle.atomic_table.specs.Seated.{TableId}
use Rattle.atomic_table.specs.Table.{Me}
use Rattle.pieces.specs.Effects.{Effect, writes}
use Rattle.turns.specs.Rules.{next_step, word_in}
use Rattle.turns.specs.SharedWords.{SharedContent, IsSeat}
use Rattle.turns.specs.declared.view.View.{View}

-- at which shared words, the number of the piece, and how many of its steps were done
pub record PostContent : Type 0 where
  pub shared : SharedContent
  pub number : ℕ
  pub steps : ℕ

-- a seat that has this piece alone
pub record IsPost (p : PostContent) (table : TableId) (me : Me (Unit {0}) View) : Type 0 where
  pub seat : IsSeat p.shared table me
  pub counts : me.0.counts ≡ (p.number, p.steps) ∷ []

-- what the piece does next, if it has a step left
abbrev pub next_of : PostContent → Option Effect
next_of p = next_step p.shared.opening ((p.number, p.steps) ∷ [])

-- what a step of it finds: the word with some steps of other pieces, and with those of its own piece that were done
pub record IsFound (p : PostContent) (i word : ℕ) : Type 0 where
  pub counts : ℕ → ℕ
  pub own : counts p.number ≡ p.steps
  pub found : word ≡ word_in p.shared.opening counts i

-- the next step of it, or a later one, writes the word at an index
pub record IsToWrite (p : PostContent) (i : ℕ) : Type 0 where
  pub step : ℕ
  pub word : ℕ
  pub later : p.steps ≤ step
  pub to_write : next_step p.shared.opening ((p.number, step) ∷ []) ≡ Some (writes i word)
