-- Which rights the nodes of a run lose (L4 X.2, Unmap).
use Rattle.std.specs.Prelude.{ℕ, zero, suc, Bool, List, [], ◌∷◌, replicate, if◌then◌else◌}
use Rattle.fpage.specs.Rights.{no_rights}
use Rattle.fpage.specs.declared.rights.Rights.{Rights}

-- the masks of so many nodes of a run, one after another: all lose the rights. But the first node of an outermost run is a named
-- page, which derives from no other: it is spared where there is no flush
abbrev pub masks_of : Bool → Rights → ℕ → List Rights
masks_of spared revoked zero = []
masks_of spared revoked (suc n) = (if spared then no_rights else revoked) ∷ replicate n revoked
