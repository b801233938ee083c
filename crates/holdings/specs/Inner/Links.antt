-- The new mappings of an item, put into the trees before the words say so.
use Rattle.std.specs.List.{list_any, All}
use Rattle.std.specs.Prelude.{◌≡◌, ℕ, ◌+◌, ◌-◌, ◌<◌, ◌≤◌, nat_lt, not, true, List, length, Option, Some, None, ◌==◌, ◌&&◌, Bool, false, [], ◌∷◌, option_map, ◌||◌, IsFalse, if◌then◌else◌, count_by}
use Rattle.fpage.specs.Rights.{no_rights, meet}
use Rattle.fpage.specs.declared.rights.Rights.{Rights}
use Rattle.space.specs.Place.{same_place}
use Rattle.space.specs.Shards.{IsPlace, entry_at, is_taken, IsSetAt, IsLaidOutAs}
use Rattle.space.specs.declared.place.Entry.{Entry}
use Rattle.space.specs.declared.place.Place.{Place}
use Rattle.space.specs.declared.shards.Shards.{Shards}
use Rattle.space.specs.Entries as word
use Rattle.maptree.specs.Origins.{Origins, Shape, origin_in}
use Rattle.holdings.specs.Inner.Derivation.{IsDerived}
use Rattle.holdings.specs.Inner.Held.{links_in, is_listed}
use Rattle.holdings.specs.declared.link.Link.{Link}
use Rattle.holdings.specs.declared.transfer.Transfer.{Transfer}

-- a new mapping for a transfer whose source holds this, in front of others
abbrev pub link_of : Transfer → Option Entry → List Link → List Link
link_of t None ls = ls
link_of t (Some e) ls = if t.extends then ls else record { frame = e.frame; source = t.source; target = t.target } ∷ ls

-- the new mappings of transfers, as the words stand
abbrev pub links_of : Shards → List Transfer → List Link
links_of shards [] = []
links_of shards (t ∷ ts) = link_of t (entry_at shards t.source) (links_of shards ts)

-- a place gets a new mapping
abbrev pub is_new_in : List Link → Place → Bool
is_new_in ls p = list_any (λ l. same_place p l.target) ls

-- a place gets a new mapping of the frame
abbrev pub is_new_of : List Link → ℕ → Place → Bool
is_new_of ls f p = list_any (λ l. l.frame == f && same_place p l.target) ls

-- trees gained the targets, each the tree of its frame
pub record AreLinked (ls : List Link) (old new : List Shape) : Type 0 where
  pub count : length new ≡ length old
  pub stands : (f : ℕ) (p : Place) → is_listed new f p ≡ (is_new_of ls f p || is_listed old f p)
  pub elsewhere : (f : ℕ) (p : Place) → is_new_of ls f p ≡ false → origin_in (links_in new f) p ≡ origin_in (links_in old f) p
  pub there : All (λ l. origin_in (links_in new l.frame) l.target ≡ Some l.source) ls

-- its tree is one of so many from one on
abbrev pub is_between : ℕ → ℕ → Link → Bool
is_between start count l = not (nat_lt l.frame start) && nat_lt l.frame (start + count)

-- the same, where trees are counted from that one on
abbrev pub counted_from : ℕ → Link → Link
counted_from start l = record { frame = l.frame - start; source = l.source; target = l.target }

-- those whose trees are so many from one on, where trees are counted from that one on
abbrev pub links_between : ℕ → ℕ → List Link → List Link
links_between start count [] = []
links_between start count (l ∷ ls) = if is_between start count l then counted_from start l ∷ links_between start count ls else links_between start count ls

-- each can be put into the tree of its frame: its source stands there, its target in no tree, and no two have one target
pub record AreLinkable (trees : List Shape) (ls : List Link) : Type 0 where
  pub once : (p : Place) → count_by (λ l. same_place p l.target) ls ≤ 1
  pub frames : All (λ l. l.frame < length trees) ls
  pub sources : All (λ l. is_listed trees l.frame l.source ≡ true) ls
  pub targets : All (λ l. (f : ℕ) → is_listed trees f l.target ≡ false) ls

-- the word of a target after one page of a MapItem, where the source holds this
abbrev pub word_after : Rights → Transfer → Entry → Option Entry → Option Entry
word_after rights t e old = if t.extends then option_map (word.extended (meet e.rights rights)) old else Some (record { frame = e.frame; rights = meet e.rights rights; status = no_rights })

-- the words after one page of a MapItem, whose source holds this
pub record IsPageMapped (old new : Shards) (rights : Rights) (t : Transfer) (e : Entry) : Type 0 where
  pub set : IsSetAt old new t.target (word_after rights t e (entry_at old t.target))
  pub present : IsFalse (is_taken new)
  pub layout : IsLaidOutAs old new

-- the tree of this frame became another, and no other did
pub record IsTreeSet (old new : List Shape) (frame : ℕ) (links : Origins) : Type 0 where
  pub count : length new ≡ length old
  pub there : links_in new frame ≡ links
  pub elsewhere : (f : ℕ) → (f ≡ frame → ⊥) → links_in new f ≡ links_in old f

-- a page became a mapping of another: its word was set, and it was put into the tree of the frame
pub record IsLinked (old new : Shards) (trees new_trees : List Shape) (source target : Place) (e : Entry) : Type 0 where
  pub links : Origins
  pub set : IsSetAt old new target (Some (record e { status = no_rights }))
  pub present : IsFalse (is_taken new)
  pub layout : IsLaidOutAs old new
  pub tree : IsTreeSet trees new_trees e.frame links
  pub derived : IsDerived (links_in trees e.frame) links source target

-- the target that the last of these with a source tells
abbrev pub last_target : List Link → Place → Option Place → Option Place
last_target [] p last = last
last_target (l ∷ ls) p last = last_target ls p (if same_place p l.source then Some l.target else last)

-- each source has its target
abbrev pub AreTargets : List Link → (Place → Option Place) → Type 0
AreTargets ls new = (p : Place) → new p ≡ last_target ls p None

-- new mappings can be put into a part of the trees, which begins at the tree of this number: those whose frame has its tree there
pub record CanBePut (s : Shards) (ts : List Transfer) (start : ℕ) (part : List Shape) : Type 0 where
  pub present : IsFalse (is_taken s)
  pub places : All (λ t. IsPlace s t.source) ts
  pub linkable : AreLinkable part (links_between start (length part) (links_of s ts))

-- they were put there
abbrev pub ArePut : Shards → List Transfer → ℕ → List Shape → List Shape → Type 0
ArePut s ts start old new = AreLinked (links_between start (length old) (links_of s ts)) old new
