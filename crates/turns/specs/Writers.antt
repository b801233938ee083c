-- How many steps write at an index, and how many add bits there.
use Rattle.std.specs.Prelude.{◌≡◌, ℕ, ◌+◌, ◌<◌, ◌≤◌, ◌==◌, List, [], ◌∷◌, if◌then◌else◌}
use Rattle.pieces.specs.Effects.{Effect, keeps, adds, writes}

-- 1 where a step writes at an index
abbrev pub writes_here : ℕ → Effect → ℕ
writes_here i (keeps j) = 0
writes_here i (adds j bits) = 0
writes_here i (writes j word) = if j == i then 1 else 0

-- 1 where it adds bits there
abbrev pub adds_here : ℕ → Effect → ℕ
adds_here i (keeps j) = 0
adds_here i (adds j bits) = if j == i then 1 else 0
adds_here i (writes j word) = 0

-- how many of some steps write at an index
abbrev pub writers : ℕ → List Effect → ℕ
writers i [] = 0
writers i (e ∷ es) = writes_here i e + writers i es

-- how many add bits there
abbrev pub adders : ℕ → List Effect → ℕ
adders i [] = 0
adders i (e ∷ es) = adds_here i e + adders i es

-- how many steps of all these lists write at an index
abbrev pub all_writers : ℕ → List (List Effect) → ℕ
all_writers i [] = 0
all_writers i (es ∷ ess) = writers i es + all_writers i ess

-- how many add bits there
abbrev pub all_adders : ℕ → List (List Effect) → ℕ
all_adders i [] = 0
all_adders i (es ∷ ess) = adders i es + all_adders i ess

-- a step that writes a word is alone with it
pub record AreApart (ess : List (List Effect)) : Type 0 where
  pub one : (i : ℕ) → all_writers i ess ≤ 1
  pub alone : (i : ℕ) → 0 < all_writers i ess → all_adders i ess ≡ 0
