-- What seats know: how many steps were done of the pieces that they have.
use Rattle.std.specs.Prelude.{ℕ, ◌+◌, ◌≤◌, ◌==◌, true, false, List, [], ◌∷◌, ◌++◌, length, map, if◌then◌else◌}
use Rattle.std.specs.List.{All, range_with_len}
use Rattle.turns.specs.declared.view.Opening.{Opening}
use Rattle.turns.specs.declared.view.View.{View}

-- ---- counts: pieces by their numbers, each with how many of its steps were done

-- how many steps of a piece are counted
abbrev pub count_in : ℕ → List (ℕ × ℕ) → ℕ
count_in p [] = 0
count_in p (c ∷ cs) = (if c.0 == p then c.1 else 0) + count_in p cs

-- how often a piece is named
abbrev pub names_in : ℕ → List (ℕ × ℕ) → ℕ
names_in p [] = 0
names_in p (c ∷ cs) = (if c.0 == p then 1 else 0) + names_in p cs

-- one step more of the first piece
abbrev pub one_more : List (ℕ × ℕ) → List (ℕ × ℕ)
one_more [] = []
one_more (c ∷ cs) = (c.0, c.1 + 1) ∷ cs

-- the first piece alone
abbrev pub first_of : List (ℕ × ℕ) → List (ℕ × ℕ)
first_of [] = []
first_of (c ∷ cs) = c ∷ []

-- the others
abbrev pub behind_first : List (ℕ × ℕ) → List (ℕ × ℕ)
behind_first [] = []
behind_first (c ∷ cs) = cs

-- so many pieces, with no step done
abbrev pub none_done : ℕ → List (ℕ × ℕ)
none_done n = map (λ p. (p, 0)) (range_with_len 0 n)

-- what was noted is so: at least so many steps are done
abbrev pub AtLeast : List (ℕ × ℕ) → (ℕ → ℕ) → Type 0
AtLeast notes counts = All (λ n. n.1 ≤ counts n.0) notes

-- by these notes at least so many steps of a piece are done
abbrev pub IsNoted : List (ℕ × ℕ) → ℕ → ℕ → Type 0
IsNoted notes p k = (counts : ℕ → ℕ) → AtLeast notes counts → k ≤ counts p

-- ---- views

-- how many steps of a piece all seats together count
abbrev pub counted : List View → ℕ → ℕ
counted [] p = 0
counted (v ∷ vs) p = count_in p v.counts + counted vs p

-- how often all seats together name it
abbrev pub named : List View → ℕ → ℕ
named [] p = 0
named (v ∷ vs) p = names_in p v.counts + named vs p

-- the first seat: it has all pieces
abbrev pub first_view : Opening → View
first_view o = record { opening = o; counts = none_done (length o.pieces); notes = []; live = true }

-- a seat that made a step of its first piece
abbrev pub raised : View → View
raised v = record v { counts = one_more v.counts }

-- a seat is dealt: it gets the first piece, and the other seat keeps the rest
abbrev pub first_only : View → View
first_only v = record v { counts = first_of v.counts; notes = [] }

abbrev pub others_of : View → View
others_of v = record v { counts = behind_first v.counts }

-- a seat takes back what another has
abbrev pub joined : View → View → View
joined v w = record v { counts = v.counts ++ w.counts; notes = v.notes ++ w.notes }

-- a seat is dealt that has no piece, and knows what the other counts
abbrev pub told : View → View
told v = record v { counts = []; notes = v.notes ++ v.counts }

-- a seat that has no piece yet
abbrev pub entered : View → View
entered v = record v { counts = [] }

-- a phase of nothing
abbrev pub no_opening : Opening
no_opening = record { words = []; pieces = []; indexes = []; watchers = 0 }

-- what that other is left with
abbrev pub spent : View
spent = record { opening = no_opening; counts = []; notes = []; live = false }

-- no piece is named twice by one seat
abbrev pub HasOnce : View → Type 0
HasOnce v = (p : ℕ) → names_in p v.counts ≤ 1
