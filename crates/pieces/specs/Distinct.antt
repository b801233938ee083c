-- Lists in which no number comes twice.
use Rattle.std.specs.Prelude.{ℕ, ◌==◌, Bool, true, ◌&&◌, not, List, [], ◌∷◌}
use Rattle.std.specs.List.{list_all}

-- whether a number is none of these
abbrev pub is_none_of : List ℕ → ℕ → Bool
is_none_of is i = list_all (λ j. not (j == i)) is

-- whether no number comes twice
abbrev pub are_distinct : List ℕ → Bool
are_distinct [] = true
are_distinct (i ∷ is) = is_none_of is i && are_distinct is
