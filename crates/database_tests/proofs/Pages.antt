-- What the words of a phase say of a page is frame and rights of what it holds.
use Rattle.std.proofs.Common.{◌≡◌, ℕ, List, Option, None, Some, option_map, refl, ap, ◌∙◌}
use Rattle.fpage.specs.declared.rights.Rights.{Rights}
use Rattle.space.specs.declared.place.Entry.{Entry}
use Rattle.space.specs.declared.place.Place.{Place}
use Rattle.model.specs.Definitions.Holdings.{Held, Holdings, at}
use Rattle.pieces.specs.Applied.{before}
use Rattle.mapdb.specs.Held.{entry_of, Layout, index_in, SayWhatIsHeld}
use Rattle.database_tests.specs.Monitors.{found_in}

-- frame and rights of an entry
abbrev of_entry : Option Entry → Option (ℕ × Rights)
of_entry e = option_map (λ e. (e.frame, e.rights)) e

-- are those of what is held
same : (m : Option Held) → of_entry (option_map entry_of m) ≡ option_map {U = ℕ × Rights} (λ held. (held.frame, held.rights)) m
same None = refl
same (Some m) = refl

pub found : (layout : Layout) (h : Holdings) (words : List ℕ) → SayWhatIsHeld layout h words → (p : Place) (i : ℕ) → index_in layout p ≡ Some i → before words i ≡ found_in h p
found layout h words say p i has = ap of_entry (say.entries p i has) ∙ same (at h p)
