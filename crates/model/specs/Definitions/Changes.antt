-- What a kernel has to do to its page tables after a call: the pages whose frame or rights differ, and what they hold now.
use Rattle.std.specs.Prelude.{◌≡◌, IsTrue, ℕ, Bool, true, false, not, ◌==◌, ◌&&◌, ◌||◌, List, [], ◌∷◌, ◌++◌, map, filter, Option, Some, None, option_map, if◌then◌else◌}
use Rattle.std.specs.List.{All, list_any}
use Rattle.fpage.specs.Rights.{number}
use Rattle.fpage.specs.declared.rights.Rights.{Rights}
use Rattle.space.specs.declared.place.Place.{Place}
use Rattle.space.specs.Place.{same_place}
use Rattle.model.specs.Definitions.Holdings.{Held, Holdings, PlaceSet, at, is_held, places}
use Rattle.model.specs.Definitions.Calls.{Limits, Request}
use Rattle.model.specs.Definitions.Answers.{answer}

-- what a page table says of a page: which frame it is, and which kinds of access are allowed. Status and origin are not in it
pub record TableEntry : Type 0 where
  pub frame : ℕ
  pub rights : Rights

-- the page tables of all spaces
abbrev pub Tables : Type 0
Tables = Place → Option TableEntry

-- the entry of what a place holds
abbrev pub entry_for : Held → TableEntry
entry_for m = record { frame = m.frame; rights = m.rights }

-- the tables of what is held
abbrev pub tables_of : Holdings → Tables
tables_of h p = option_map entry_for (at h p)

-- whether two entries are one
abbrev pub is_same_entry : Option TableEntry → Option TableEntry → Bool
is_same_entry None None = true
is_same_entry None (Some b) = false
is_same_entry (Some a) None = false
is_same_entry (Some a) (Some b) = (a.frame == b.frame) && (number a.rights == number b.rights)

-- the pages whose entries differ
abbrev pub is_changed : Holdings → Holdings → PlaceSet
is_changed old new p = not (is_same_entry (tables_of old p) (tables_of new p))

-- a page, and its entry now
pub record Change : Type 0 where
  pub place : Place
  pub now : Option TableEntry

abbrev pub change_to : Holdings → Place → Change
change_to new p = record { place = p; now = tables_of new p }

-- the pages that are held before or after, each once
abbrev pub held_in_either : Holdings → Holdings → List Place
held_in_either old new = places old ++ filter (λ p. not (is_held old p)) (places new)

-- what changes from some holdings to others: each page whose entry differs, with its entry after it
abbrev pub changes : Holdings → Holdings → List Change
changes old new = map (change_to new) (filter (is_changed old new) (held_in_either old new))

-- one entry is set, or taken away
abbrev pub set_entry : Change → Tables → Tables
set_entry c t p = if same_place c.place p then c.now else t p

-- changes in their order
abbrev pub apply : List Change → Tables → Tables
apply [] t = t
apply (c ∷ cs) t = apply cs (set_entry c t)

-- the changes of requests, one after another
abbrev pub follow : Limits → Holdings → List Request → Tables → Tables
follow limits h [] t = t
follow limits h (r ∷ rs) t = let left = (answer limits h r).left in follow limits left rs (apply (changes h left) t)

-- pages enough to tell what changed: every other page has the entry that it had, and each of them is held before or after
pub record AreChanged (old new : Holdings) (pages : List Place) : Type 0 where
  pub others : (p : Place) → list_any (same_place p) pages ≡ false → tables_of new p ≡ tables_of old p
  pub held : All (λ p. IsTrue (is_held old p || is_held new p)) pages
