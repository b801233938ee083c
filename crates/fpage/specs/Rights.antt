-- Rights and status: sets of r, w, x (L4 X.2, Fpage).
use Rattle.std.specs.Prelude.{ℕ, ◌+◌, ◌/◌, ◌%◌, Bool, true, false, ◌&&◌, ◌||◌, ◌==◌, not, if◌then◌else◌}
use Rattle.fpage.specs.declared.rights.Rights.{Rights}
use Rattle.fpage.specs.declared.rights.Access.{Access}
use Rattle.fpage.specs.declared.rights.Access.TheVariants.{Read, Write, Execute}

-- r, w and x
abbrev pub all_rights : Rights
all_rights = record { read = true; write = true; execute = true }

-- the empty set
abbrev pub no_rights : Rights
no_rights = record { read = false; write = false; execute = false }

-- the set that bits 0 to 2 of a word spell: r is bit 2, w is bit 1, x is bit 0 (Fpage)
abbrev pub of_bits : ℕ → Rights
of_bits word = record { read = word / 4 % 2 == 1; write = word / 2 % 2 == 1; execute = word % 2 == 1 }

-- the number of a set: 4 for r, 2 for w, 1 for x, added up
abbrev pub number : Rights → ℕ
number a = (if a.read then 4 else 0) + (if a.write then 2 else 0) + (if a.execute then 1 else 0)

-- what is in both sets
abbrev pub meet : Rights → Rights → Rights
meet a b = record { read = a.read && b.read; write = a.write && b.write; execute = a.execute && b.execute }

-- what is in either set
abbrev pub join : Rights → Rights → Rights
join a b = record { read = a.read || b.read; write = a.write || b.write; execute = a.execute || b.execute }

-- what is in the first set and not in the second
abbrev pub without : Rights → Rights → Rights
without a b = record { read = a.read && not b.read; write = a.write && not b.write; execute = a.execute && not b.execute }

-- whether nothing is in the set
abbrev pub is_empty : Rights → Bool
is_empty a = not (a.read || a.write || a.execute)

-- whether each right of the first set is in the second
abbrev pub is_within : Rights → Rights → Bool
is_within a b = is_empty (without a b)

-- whether the set has the right that an access needs
abbrev pub has : Rights → Access → Bool
has a Read = a.read
has a Write = a.write
has a Execute = a.execute

-- the status that an access leaves (profile): a read sets R, a write R and W, an execute R and X
abbrev pub marks : Access → Rights
marks Read = record { read = true; write = false; execute = false }
marks Write = record { read = true; write = true; execute = false }
marks Execute = record { read = true; write = false; execute = true }
