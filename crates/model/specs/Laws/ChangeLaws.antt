-- What changes are, and that page tables that follow them are those of what is held.
use Rattle.std.specs.Prelude.{◌≡◌, Bool, ◌||◌, ◌↔◌, IsTrue, IsFalse, List, map, Some, Ok}
use Rattle.std.specs.List.{All, AllPairs, list_any}
use Rattle.fpage.specs.Rights.{has}
use Rattle.fpage.specs.declared.rights.Rights.{Rights}
use Rattle.fpage.specs.declared.rights.Access.{Access}
use Rattle.space.specs.declared.place.Place.{Place}
use Rattle.space.specs.Place.{same_place}
use Rattle.model.specs.Definitions.Holdings.{Holdings, PlaceSet, is_held}
use Rattle.model.specs.Definitions.Lawful.{is_lawful}
use Rattle.model.specs.Definitions.Strip.{strip}
use Rattle.model.specs.Definitions.Calls.{Limits, Request, access}
use Rattle.model.specs.Definitions.Answers.{answer}
use Rattle.model.specs.Definitions.Replay.{start, replay}
use Rattle.model.specs.Definitions.Changes.{TableEntry, Tables, tables_of, Change, change_to, changes, apply, follow, AreChanged}
use Rattle.model.specs.Laws.IsolationLaws.{Loses}

-- these are the tables of what is held
abbrev pub AreTablesOf : Holdings → Tables → Type 0
AreTablesOf h t = (p : Place) → t p ≡ tables_of h p

-- what changes from some holdings to others
pub record AreAllChanges (old new : Holdings) (cs : List Change) : Type 0 where
  -- a page is among them exactly where its entry differs
  pub differ : (p : Place) → IsTrue (list_any (λ c. same_place p c.place) cs) ↔ (tables_of new p ≡ tables_of old p → ⊥)
  -- each tells the entry of its page afterwards
  pub now : All (λ c. c.now ≡ tables_of new c.place) cs
  -- each is of a page that was held before or is held afterwards
  pub held : All (λ c. IsTrue (is_held old c.place || is_held new c.place)) cs

-- of any holdings
abbrev pub ChangesSay : Type 0
ChangesSay = (old new : Holdings) → AreAllChanges old new (changes old new)

-- no page is told twice
abbrev pub ChangesTellEachOnce : Type 0
ChangesTellEachOnce =
    (old new : Holdings) → IsTrue (is_lawful old) → IsTrue (is_lawful new)
    → AllPairs (λ c d. c.place ≡ d.place → ⊥) (changes old new)

-- the pages of the changes are enough to tell what changed
abbrev pub ChangesMissNoPage : Type 0
ChangesMissNoPage = (old new : Holdings) → AreChanged old new (map (λ c. c.place) (changes old new))

-- tables in which the entries of any pages that are enough are set, in any order and however often, are those of what is
-- held
abbrev pub ChangesAreEnough : Type 0
ChangesAreEnough =
    (old new : Holdings) (pages : List Place) → AreChanged old new pages
    → (t : Tables) → AreTablesOf old t → AreTablesOf new (apply (map (change_to new) pages) t)

-- an access changes no table
abbrev pub AccessChangesNoTable : Type 0
AccessChangesNoTable =
    (limits : Limits) (h : Holdings) → IsTrue (is_lawful h) → (p : Place) (a : Access)
    → AreTablesOf h (tables_of (answer limits h (Ok (access p a))).left)

-- after any requests, tables that followed the changes of each are those of what is held
abbrev pub TablesFollow : Type 0
TablesFollow =
    (limits : Limits) (h : Holdings) (requests : List Request) (t : Tables) → AreTablesOf h t
    → AreTablesOf (replay (answer limits) h requests).last (follow limits h requests t)

-- hence from the start
abbrev pub TablesFollowFromStart : Type 0
TablesFollowFromStart =
    (limits : Limits) (requests : List Request)
    → AreTablesOf (replay (answer limits) (start limits) requests).last (follow limits (start limits) requests (tables_of (start limits)))

-- after a strip and its changes, no entry of a page that loses allows a right that was taken
abbrev pub RevokedIsInNoTable : Type 0
RevokedIsInNoTable =
    (h : Holdings) → IsTrue (is_lawful h) → (set : PlaceSet) (a : Rights) (f : Bool) (t : Tables) → AreTablesOf h t
    → (p : Place) (e : TableEntry) → Loses h set f p → apply (changes h (strip h set a f)) t p ≡ Some e
    → (r : Access) → IsTrue (has a r) → IsFalse (has e.rights r)
