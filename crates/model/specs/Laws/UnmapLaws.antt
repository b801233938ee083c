-- What an unmap takes, and what it answers.
use Rattle.std.specs.Prelude.{◌≡◌, ℕ, ◌+◌, ◌/◌, ◌≤◌, ◌<◌, Bool, List, [], ◌∷◌, ◌++◌, IsTrue, Decides}
use Rattle.fpage.specs.Rights.{of_bits, has}
use Rattle.fpage.specs.Fpage.{Flexpage}
use Rattle.fpage.specs.declared.rights.Access.{Access}
use Rattle.space.specs.declared.place.Place.{Place}
use Rattle.model.specs.Definitions.Holdings.{Holdings}
use Rattle.model.specs.Definitions.Lawful.{is_lawful}
use Rattle.model.specs.Definitions.Calls.{Named}
use Rattle.model.specs.Definitions.Answers.{pages_in, UnmapAnswer, unmap_answer}
use Rattle.model.specs.Laws.IsolationLaws.{Isolates}
use Rattle.model.specs.Laws.StatusLaws.{HasBit}

-- a page of a space that an fpage names
pub record IsPageIn (space : ℕ) (f : Flexpage) (p : Place) : Type 0 where
  pub own : p.space ≡ space
  pub low : f.first ≤ p.page
  pub high : p.page < f.first + f.count

-- an unmap names pages of the caller alone
abbrev pub UnmapNamesItsOwn : Type 0
UnmapNamesItsOwn = (space : ℕ) (f : Flexpage) (p : Place) → Decides (pages_in space f p) (IsPageIn space f p)

-- what one word of an unmap is answered, and what it leaves
pub record IsUnmapped (h : Holdings) (space : ℕ) (f : Bool) (w : Named) (given : UnmapAnswer) : Type 0 where
  pub word : ℕ
  -- it is answered by one word
  pub one : given.words ≡ word ∷ []
  -- all bits but the lowest three are as given
  pub same : word / 8 ≡ w.0 / 8
  -- the lowest three are the status of the pages that it names, and of all that derives from them
  pub status : (b : Access) → Decides (has (of_bits word) b) (HasBit h (pages_in space w.1) b)
  -- those pages, if f is set, and all that derives from them lose the rights of the word, and no other page loses one
  pub left : Isolates h given.left (pages_in space w.1) w.1.rights f

-- of any word
abbrev pub UnmapSays : Type 0
UnmapSays = (h : Holdings) → IsTrue (is_lawful h) → (space : ℕ) (f : Bool) (w : Named) → IsUnmapped h space f w (unmap_answer space f (w ∷ []) h)

-- some words, and then others from what the first left
abbrev pub then_words : UnmapAnswer → (Holdings → UnmapAnswer) → UnmapAnswer
then_words first others = let rest = others first.left in record { words = first.words ++ rest.words; left = rest.left }

-- an unmap of some words and then others is both, one after the other
abbrev pub UnmapsJoin : Type 0
UnmapsJoin =
    (space : ℕ) (f : Bool) (ws vs : List Named) (h : Holdings)
    → unmap_answer space f (ws ++ vs) h ≡ then_words (unmap_answer space f ws h) (unmap_answer space f vs)
