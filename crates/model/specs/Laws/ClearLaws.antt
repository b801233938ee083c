-- What a clear takes, and what it answers.
use Rattle.std.specs.Prelude.{◌≡◌, ℕ, ◌+◌, ◌≤◌, ◌<◌, true, [], ◌∷◌, IsTrue, Decides, None}
use Rattle.fpage.specs.Rights.{all_rights, has}
use Rattle.fpage.specs.Fpage.{Flexpage}
use Rattle.fpage.specs.Control.{with_status}
use Rattle.fpage.specs.declared.rights.Access.{Access}
use Rattle.space.specs.declared.place.Place.{Place}
use Rattle.model.specs.Definitions.Holdings.{Holdings, is_held, at}
use Rattle.model.specs.Definitions.Lawful.{is_lawful}
use Rattle.model.specs.Definitions.Answers.{in_space, ClearAnswer, clear_answer, unmap_answer}
use Rattle.model.specs.Laws.DerivationLaws.{LeadsInto}
use Rattle.model.specs.Laws.IsolationLaws.{Isolates}
use Rattle.model.specs.Laws.StatusLaws.{HasBit}

-- what a clear is answered, and what it leaves
pub record IsCleared (h : Holdings) (space : ℕ) (given : ClearAnswer) : Type 0 where
  -- the status of the pages of the space, and of all that derives from them
  pub status : (b : Access) → Decides (has given.status b) (HasBit h (in_space space) b)
  -- no page of the space is held any more
  pub empty : (p : Place) → p.space ≡ space → at given.left p ≡ None
  -- nor is one that derives from a page of the space
  pub gone : (p : Place) → LeadsInto h 0 (in_space space) p → at given.left p ≡ None
  -- each other page keeps its frame, its rights and its origin
  pub others : Isolates h given.left (in_space space) all_rights true

-- of any space
abbrev pub ClearSays : Type 0
ClearSays = (h : Holdings) → IsTrue (is_lawful h) → (space : ℕ) → IsCleared h space (clear_answer space h)

-- an fpage has all rights, and names every page of a space that is held
pub record IsOfWholeSpace (h : Holdings) (space : ℕ) (f : Flexpage) : Type 0 where
  pub rights : f.rights ≡ all_rights
  pub low : (p : Place) → IsTrue (is_held h p) → p.space ≡ space → f.first ≤ p.page
  pub high : (p : Place) → IsTrue (is_held h p) → p.space ≡ space → p.page < f.first + f.count

-- a clear takes and tells what an unmap with f does whose one word names the whole space with all rights
abbrev pub ClearIsUnmap : Type 0
ClearIsUnmap =
    (h : Holdings) → IsTrue (is_lawful h) → (space word : ℕ) (f : Flexpage) → IsOfWholeSpace h space f
    → let cleared = clear_answer space h in
    unmap_answer space true ((word, f) ∷ []) h ≡ record { words = with_status word cleared.status ∷ []; left = cleared.left }
