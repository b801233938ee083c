-- The last node that is less deep than a number.
use Rattle.std.proofs.Common.{◌≡◌, ℕ, zero, suc, ◌+◌, ◌<◌, ◌≤◌, true, false, Bool, nat_lt, List, [], ◌∷◌, ◌++◌, length, take, drop, get_or, Option, Some, None, refl, ap, ◌∙◌, subst, arith}
use Rattle.std.proofs.lemmas.Bool.{lt-ltb, le-ltb, ltb-true, ltb-false}
use Rattle.std.proofs.lemmas.List.{take_more, length-take-le}
use Rattle.space.specs.declared.node.Node.{Node}
use Rattle.maptree.specs.Nodes.{last_less, one_on}
use Rattle.maptree.proofs.Runs.{depth_of}

-- ---- a search from the back

-- it ends at a node that is less deep
pub last_at : (depth : ℕ) (ns : List Node) (i : ℕ) (d : Node) → i < length ns → (get_or ns i d).depth < depth → last_less depth (drop (suc i) ns) ≡ None → last_less depth ns ≡ Some i
last_at depth [] i d within low rest = absurd (omega (arith, within))
last_at depth (n ∷ ns) zero d within low rest = rw (rest, lt-ltb n.depth depth low) refl
last_at depth (n ∷ ns) (suc i) d within low rest = rw (last_at depth ns i d (omega (arith, within)) low rest) refl

-- it goes on at another
pub last_on : (depth : ℕ) (ns : List Node) (i : ℕ) (d : Node) → i < length ns → depth ≤ (get_or ns i d).depth → last_less depth (drop (suc i) ns) ≡ None → last_less depth (drop i ns) ≡ None
last_on depth [] i d within deep rest = absurd (omega (arith, within))
last_on depth (n ∷ ns) zero d within deep rest = rw (rest, le-ltb n.depth depth deep) refl
last_on depth (n ∷ ns) (suc i) d within deep rest = last_on depth ns i d (omega (arith, within)) deep rest

pub last_of_none : (depth : ℕ) (ns : List Node) (i : ℕ) → length ns ≤ i → last_less depth (drop i ns) ≡ None
last_of_none depth [] zero upto = refl
last_of_none depth [] (suc i) upto = refl
last_of_none depth (n ∷ ns) zero upto = absurd (omega (arith, upto))
last_of_none depth (n ∷ ns) (suc i) upto = last_of_none depth ns i (omega (arith, upto))

-- ---- of two lists, one behind the other

-- the last of the second, or else of the first
abbrev pub later : ℕ → Option ℕ → Option ℕ → Option ℕ
later n (Some r) front = Some (n + r)
later n None front = front

on_later : (here : Bool) (n : ℕ) (back front : Option ℕ) → one_on here (later n back front) ≡ later (suc n) back (one_on here front)
on_later here n None front = refl
on_later here n (Some r) front = ap Some (omega arith)

pub last_append : (depth : ℕ) (xs ys : List Node) → last_less depth (xs ++ ys) ≡ later (length xs) (last_less depth ys) (last_less depth xs)
last_append depth [] ys = by (last_less depth ys)
  where
    by : (back : Option ℕ) → back ≡ later 0 back None
    by None = refl
    by (Some r) = ap Some (omega arith)
last_append depth (x ∷ xs) ys =
    ap (one_on (nat_lt x.depth depth)) (last_append depth xs ys) ∙ on_later (nat_lt x.depth depth) (length xs) (last_less depth ys) (last_less depth xs)

-- ---- what it says by positions

-- where there is none, none is less deep
pub none_says : (depth : ℕ) (ns : List Node) → last_less depth ns ≡ None → (k : ℕ) → k < length ns → depth ≤ depth_of ns k
none_says depth [] is k within = absurd (omega (arith, within))
none_says depth (n ∷ ns) is k within = by (last_less depth ns) (none_says depth ns) is k within
  where
    low : (b : Bool) → one_on b None ≡ None → b ≡ false
    low true is = absurd (cc is)
    low false is = refl

    by : (rest : Option ℕ) → (rest ≡ None → (k : ℕ) → k < length ns → depth ≤ depth_of ns k) → one_on (nat_lt n.depth depth) rest ≡ None → (k : ℕ) → k < suc (length ns) → depth ≤ depth_of (n ∷ ns) k
    by (Some r) says is k within = absurd (cc is)
    by None says is zero within = ltb-false n.depth depth (low (nat_lt n.depth depth) is)
    by None says is (suc k) within = says refl k (omega (arith, within))

-- what the last is
pub record IsLastLess (depth : ℕ) (ns : List Node) (r : ℕ) : Type 0 where
  pub within : r < length ns
  pub low : depth_of ns r < depth
  pub behind : (k : ℕ) → r < k → k < length ns → depth ≤ depth_of ns k

pub some_says : (depth : ℕ) (ns : List Node) (r : ℕ) → last_less depth ns ≡ Some r → IsLastLess depth ns r
some_says depth [] r is = absurd (cc is)
some_says depth (n ∷ ns) r is = by (last_less depth ns) refl (some_says depth ns) is
  where
    here : (b : Bool) → nat_lt n.depth depth ≡ b → one_on b None ≡ Some r → last_less depth ns ≡ None → IsLastLess depth (n ∷ ns) r
    here false same is none = absurd (cc is)
    here true same is none =
        let first : 0 ≡ r = cc is in
        let low = ltb-true n.depth depth same in
        subst (IsLastLess depth (n ∷ ns)) first (record { within = omega arith; low = low; behind = behind })
      where
        behind : (k : ℕ) → 0 < k → k < suc (length ns) → depth ≤ depth_of (n ∷ ns) k
        behind zero more within = absurd (omega (arith, more))
        behind (suc k) more within = none_says depth ns none k (omega (arith, within))

    next : (q : ℕ) → IsLastLess depth ns q → IsLastLess depth (n ∷ ns) (suc q)
    next q rest = record { within = omega (arith, rest.within); low = rest.low; behind = behind }
      where
        behind : (k : ℕ) → suc q < k → k < suc (length ns) → depth ≤ depth_of (n ∷ ns) k
        behind zero more within = absurd (omega (arith, more))
        behind (suc k) more within = rest.behind k (omega (arith, more)) (omega (arith, within))

    by : (rest : Option ℕ) → last_less depth ns ≡ rest → ((q : ℕ) → last_less depth ns ≡ Some q → IsLastLess depth ns q) → one_on (nat_lt n.depth depth) rest ≡ Some r → IsLastLess depth (n ∷ ns) r
    by None same says is = here (nat_lt n.depth depth) refl is same
    by (Some q) same says is = let one : suc q ≡ r = cc is in subst (IsLastLess depth (n ∷ ns)) one (next q (says q same))

-- ---- one node more

pub last_more_low : (depth : ℕ) (ns : List Node) (i : ℕ) (d : Node) → i < length ns → (get_or ns i d).depth < depth → last_less depth (take (i + 1) ns) ≡ Some i
last_more_low depth ns i d within low =
    let size : length (take i ns) + 0 ≡ i = let l = length-take-le i ns (omega (arith, within)) in omega (arith, l) in
    ap (last_less depth) (take_more ns i d within) ∙ last_append depth (take i ns) (get_or ns i d ∷ [])
    ∙ ap (λ b. later (length (take i ns)) (one_on b None) (last_less depth (take i ns))) (lt-ltb (get_or ns i d).depth depth low) ∙ ap Some size

pub last_more_deep : (depth : ℕ) (ns : List Node) (i : ℕ) (d : Node) → i < length ns → depth ≤ (get_or ns i d).depth → last_less depth (take (i + 1) ns) ≡ last_less depth (take i ns)
last_more_deep depth ns i d within deep =
    ap (last_less depth) (take_more ns i d within) ∙ last_append depth (take i ns) (get_or ns i d ∷ [])
    ∙ ap (λ b. later (length (take i ns)) (one_on b None) (last_less depth (take i ns))) (le-ltb (get_or ns i d).depth depth deep)
