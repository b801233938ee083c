-- Each use of a deque keeps its rule.
use Rattle.std.proofs.Common.{◌≡◌, ◌≢◌, ℕ, zero, suc, ◌+◌, ◌-◌, ◌<◌, ◌≤◌, List, [], ◌∷◌, ◌++◌, length, set, refl, ap, ◌∙◌, sym, subst, arith, zero-add, ⊎_elim}
use Rattle.std.specs.List.{All}
use mathlib.Core.Option.{some, some-ne-none, some-injective}
use lib.ListN.{get_elem?}
use Rattle.std.proofs.lemmas.List.Elements.{All-append}
use Rattle.crossbeam_deque.specs.Tasks.{Pushes, Takes, Finds, Forks, Merges}
use Rattle.crossbeam_deque.proofs.Lists.{at_set, set_else}
use Rattle.turns.specs.Closing.{numbers_of}
use Rattle.turns.specs.Posts.{PostContent}
use Rattle.turns.specs.SharedWords.{SharedContent}
use Rattle.crew.specs.declared.hand.Hand.{Hand}
use Rattle.crew.specs.Hands.{all_parts, hand, weigh, total, IsFresh, Balanced, IsTaken, IsWithin, WasEmpty}

-- ---- weights

pub weigh_append : (h : ℕ → ℕ) (ms ns : List ℕ) → weigh h (ms ++ ns) ≡ weigh h ms + weigh h ns
weigh_append h [] ns = sym (zero-add (weigh h ns))
weigh_append h (m ∷ ms) ns = let a : ℕ = h m in let b : ℕ = weigh h (ms ++ ns) in let c : ℕ = weigh h ms in let d : ℕ = weigh h ns in let e : b ≡ c + d = weigh_append h ms ns in omega arith

pub weigh_one : (h : ℕ → ℕ) (n : ℕ) → weigh h (n ∷ []) ≡ h n
weigh_one h n = let a : ℕ = h n in omega arith

-- each number weighs 1
pub weigh_length : (ns : List ℕ) → weigh (λ _. 1) ns ≡ length ns
weigh_length [] = refl
weigh_length (n ∷ ns) = let a : ℕ = weigh (λ _. 1) ns in let b : ℕ = length ns in let e : a ≡ b = weigh_length ns in omega arith

pub numbers_append : (ts us : List PostContent) → numbers_of (ts ++ us) ≡ numbers_of ts ++ numbers_of us
numbers_append [] us = refl
numbers_append (t ∷ ts) us = ap (λ ns. t.number ∷ ns) (numbers_append ts us)

-- ---- totals

-- one view changes
pub total_set : (f : Hand → ℕ) (vs : List Hand) (k : ℕ) (v w : Hand) → get_elem? vs k ≡ some v → total f (set vs k w) + f v ≡ total f vs + f w
total_set f [] k v w at = absurd (some-ne-none v (sym at))
total_set f (u ∷ vs) zero v w at =
    let a : ℕ = f w in let b : ℕ = total f vs in let c : ℕ = f u in let d : ℕ = f v in let is : c ≡ d = ap f (some-injective u v at) in omega arith
total_set f (u ∷ vs) (suc k) v w at =
    let a : ℕ = f u in let b : ℕ = total f (set vs k w) in let c : ℕ = f v in let d : ℕ = total f vs in let e : ℕ = f w in let m : b + c ≡ d + e = total_set f vs k v w at in omega arith

-- one view more
total_snoc : (f : Hand → ℕ) (vs : List Hand) (w : Hand) → total f (vs ++ w ∷ []) ≡ total f vs + f w
total_snoc f [] w = let a : ℕ = f w in omega arith
total_snoc f (v ∷ vs) w = let a : ℕ = f v in let b : ℕ = total f (vs ++ w ∷ []) in let c : ℕ = total f vs in let d : ℕ = f w in let m : b ≡ c + d = total_snoc f vs w in omega arith

-- one view is within the total
total_at : (f : Hand → ℕ) (vs : List Hand) (k : ℕ) (v : Hand) → get_elem? vs k ≡ some v → f v ≤ total f vs
total_at f [] k v at = absurd (some-ne-none v (sym at))
total_at f (u ∷ vs) zero v at = let a : ℕ = f u in let b : ℕ = f v in let c : ℕ = total f vs in let is : a ≡ b = ap f (some-injective u v at) in omega arith
total_at f (u ∷ vs) (suc k) v at = let a : ℕ = f u in let b : ℕ = f v in let c : ℕ = total f vs in let m : b ≤ c = total_at f vs k v at in omega arith

-- a number that is 0 of all views but one
total_only : (f : Hand → ℕ) (vs : List Hand) (k : ℕ) (v : Hand) → get_elem? vs k ≡ some v → ((j : ℕ) (u : Hand) → get_elem? vs j ≡ some u → j ≢ k → f u ≡ 0) → total f vs ≡ f v
total_only f [] k v at others = absurd (some-ne-none v (sym at))
total_only f (u ∷ vs) zero v at others =
    let a : ℕ = f u in let b : ℕ = f v in let c : ℕ = total f vs in let is : a ≡ b = ap f (some-injective u v at) in
    let none : c ≡ 0 = nothing vs (λ j w at'. others (suc j) w at' (λ e. omega (arith, e))) in omega arith
  where
    nothing : (ws : List Hand) → ((j : ℕ) (w : Hand) → get_elem? ws j ≡ some w → f w ≡ 0) → total f ws ≡ 0
    nothing [] each = refl
    nothing (w ∷ ws) each = let a : ℕ = f w in let b : ℕ = total f ws in let here : a ≡ 0 = each 0 w refl in let there : b ≡ 0 = nothing ws (λ j x at'. each (suc j) x at') in omega arith
total_only f (u ∷ vs) (suc k) v at others =
    let a : ℕ = f u in let b : ℕ = total f vs in let c : ℕ = f v in let here : a ≡ 0 = others 0 u refl (λ e. omega (arith, e)) in
    let there : b ≡ c = total_only f vs k v at (λ j w at' apart. others (suc j) w at' (λ e. apart (omega (arith, e)))) in omega arith

-- ---- views

-- a fact of each view and its position, when one changes
all_set : (F : ℕ → Hand → Type 0) (vs : List Hand) (k : ℕ) (w : Hand) → F k w → ((j : ℕ) (u : Hand) → get_elem? vs j ≡ some u → F j u) → (j : ℕ) (u : Hand) → get_elem? (set vs k w) j ≡ some u → F j u
all_set F vs k w mine others j u at =
    ⊎_elim (λ (x : (j ≡ k) × (w ≡ u)). subst (λ (y : ℕ × Hand). F y.0 y.1) (λ i. (sym x.0 i, x.1 i)) mine) (λ (x : (j ≢ k) × (get_elem? vs j ≡ some u)). others j u x.1) (at_set vs k j w u at)

-- the view that changes
changed : (vs : List Hand) (k : ℕ) (v w : Hand) → get_elem? vs k ≡ some v → get_elem? (set vs k w) k ≡ some w
changed [] k v w at = absurd (some-ne-none v (sym at))
changed (u ∷ vs) zero v w at = refl
changed (u ∷ vs) (suc k) v w at = changed vs k v w at

-- and when one comes
all_snoc : (F : ℕ → Hand → Type 0) (vs : List Hand) (w : Hand) → F (length vs) w → ((j : ℕ) (u : Hand) → get_elem? vs j ≡ some u → F j u) → (j : ℕ) (u : Hand) → get_elem? (vs ++ w ∷ []) j ≡ some u → F j u
all_snoc F [] w mine others zero u at = subst (F 0) (some-injective w u at) mine
all_snoc F [] w mine others (suc j) u at = absurd (some-ne-none u (sym at))
all_snoc F (v ∷ vs) w mine others zero u at = others zero u at
all_snoc F (v ∷ vs) w mine others (suc j) u at = all_snoc (λ k. F (suc k)) vs w mine (λ k x. others (suc k) x) j u at

-- ---- the rule

pub begins : (s : SharedContent) → Balanced s [] (hand all_parts [] [] ∷ [])
begins s = record {
  fresh = λ k d less. absurd (omega (arith, less));
  weights = λ h. refl;
  parts = refl;
  idle = λ k v at none. first k v at none;
  owner = λ k v at behind. later k v at behind;
}
  where
    first : (k : ℕ) (v : Hand) → get_elem? (hand all_parts [] [] ∷ []) k ≡ some v → v.parts ≡ 0 → v.taken ≡ []
    first zero v at none = ap (λ (x : Hand). x.taken) (sym (some-injective (hand all_parts [] []) v at))
    first (suc k) v at none = absurd (some-ne-none v (sym at))

    later : (k : ℕ) (v : Hand) → get_elem? (hand all_parts [] [] ∷ []) k ≡ some v → 0 < k → v.put ≡ []
    later zero v at behind = absurd (omega (arith, behind))
    later (suc k) v at behind = absurd (some-ne-none v (sym at))

-- a turn is put
pub puts : (s : SharedContent) (v : Hand) (x : PostContent) → 0 < v.parts → IsFresh s x → Pushes (Balanced s) 0 v (x ∷ []) (λ w. w ≡ hand v.parts (v.put ++ numbers_of (x ∷ [])) v.taken)
puts s v x has fresh items views rule at =
    let w : Hand = hand v.parts (v.put ++ x.number ∷ []) v.taken in (
      w,
      record {
        fresh = All-append (IsFresh s) items (x ∷ []) rule.fresh (only x fresh);
        weights =
            λ h.
            let a : ℕ = total (λ u. weigh h u.put) (set views 0 w) in let b : ℕ = weigh h v.put in let c : ℕ = total (λ u. weigh h u.put) views in let d : ℕ = weigh h (v.put ++ x.number ∷ []) in
            let e : a + b ≡ c + d = total_set (λ u. weigh h u.put) views 0 v w at in
            let f : ℕ = total (λ u. weigh h u.taken) (set views 0 w) in let g : ℕ = weigh h v.taken in let i : ℕ = total (λ u. weigh h u.taken) views in
            let j : f + g ≡ i + g = total_set (λ u. weigh h u.taken) views 0 v w at in
            let k : ℕ = weigh h (numbers_of items) in let l : c ≡ i + k = rule.weights h in
            let m : ℕ = h x.number in let n : d ≡ b + (m + 0) = weigh_append h v.put (x.number ∷ []) in
            let o : ℕ = weigh h (numbers_of (items ++ x ∷ [])) in
            let p : o ≡ k + (m + 0) = ap (weigh h) (numbers_append items (x ∷ [])) ∙ weigh_append h (numbers_of items) (x.number ∷ []) in
            let goal : a ≡ f + o = omega arith in
            goal;
        parts =
            let a : ℕ = total (λ u. u.parts) (set views 0 w) in let b : ℕ = v.parts in let c : ℕ = total (λ u. u.parts) views in
            let e : a + b ≡ c + b = total_set (λ u. u.parts) views 0 v w at in let p : c ≡ all_parts = rule.parts in let goal : a ≡ all_parts = omega arith in goal;
        idle = all_set (λ _ u. u.parts ≡ 0 → u.taken ≡ []) views 0 w (λ none. absurd (omega (arith, none, has))) rule.idle;
        owner = all_set (λ k u. 0 < k → u.put ≡ []) views 0 w (λ behind. absurd (omega (arith, behind))) rule.owner;
      },
      refl,
    )
  where
    only : (t : PostContent) → IsFresh s t → All (IsFresh s) (t ∷ [])
    only t is zero d less = is
    only t is (suc k) d less = absurd (omega (arith, less))

-- ---- lists of turns

first_fresh : (s : SharedContent) (t : PostContent) (ts : List PostContent) → IsFresh s t → All (IsFresh s) ts → All (IsFresh s) (t ∷ ts)
first_fresh s t ts is all zero d less = is
first_fresh s t ts is all (suc k) d less = all k d (omega (arith, less))

split_fresh : (s : SharedContent) (ts us : List PostContent) → All (IsFresh s) (ts ++ us) → All (IsFresh s) ts × All (IsFresh s) us
split_fresh s [] us all = ((λ k d less. absurd (omega (arith, less))), all)
split_fresh s (t ∷ ts) us all =
    let behind = split_fresh s ts us (λ k d less. all (suc k) d (omega (arith, less))) in (first_fresh s t ts (all 0 t (omega arith)) behind.0, behind.1)

-- turns are taken
taken : (s : SharedContent) (port : ℕ) (v : Hand) (xs items : List PostContent) (views : List Hand) → 0 < v.parts → Balanced s (xs ++ items) views → get_elem? views port ≡ some v
    → Balanced s items (set views port (hand v.parts v.put (v.taken ++ numbers_of xs)))
taken s port v xs items views has rule at =
    let w : Hand = hand v.parts v.put (v.taken ++ numbers_of xs) in
    record {
      fresh = (split_fresh s xs items rule.fresh).1;
      weights =
          λ h.
          let a : ℕ = total (λ u. weigh h u.put) (set views port w) in let b : ℕ = weigh h v.put in let c : ℕ = total (λ u. weigh h u.put) views in
          let e : a + b ≡ c + b = total_set (λ u. weigh h u.put) views port v w at in
          let f : ℕ = total (λ u. weigh h u.taken) (set views port w) in let g : ℕ = weigh h v.taken in let i : ℕ = total (λ u. weigh h u.taken) views in let d : ℕ = weigh h (v.taken ++ numbers_of xs) in
          let j : f + g ≡ i + d = total_set (λ u. weigh h u.taken) views port v w at in
          let k : ℕ = weigh h (numbers_of (xs ++ items)) in let l : c ≡ i + k = rule.weights h in
          let m : ℕ = weigh h (numbers_of xs) in let n : d ≡ g + m = weigh_append h v.taken (numbers_of xs) in
          let o : ℕ = weigh h (numbers_of items) in
          let p : k ≡ m + o = ap (weigh h) (numbers_append xs items) ∙ weigh_append h (numbers_of xs) (numbers_of items) in
          let goal : a ≡ f + o = omega arith in
          goal;
      parts =
          let a : ℕ = total (λ u. u.parts) (set views port w) in let b : ℕ = v.parts in let c : ℕ = total (λ u. u.parts) views in
          let e : a + b ≡ c + b = total_set (λ u. u.parts) views port v w at in let p : c ≡ all_parts = rule.parts in let goal : a ≡ all_parts = omega arith in goal;
      idle = all_set (λ _ u. u.parts ≡ 0 → u.taken ≡ []) views port w (λ none. absurd (omega (arith, none, has))) rule.idle;
      owner = all_set (λ k u. 0 < k → u.put ≡ []) views port w (λ behind. rule.owner port v at behind) rule.owner;
    }

-- what was taken is no more than what the worker put
within : (s : SharedContent) (v : Hand) (items : List PostContent) (views : List Hand) → Balanced s items views → get_elem? views 0 ≡ some v → length v.taken ≤ length v.put
within s v items views rule at =
    let a : ℕ = total (λ u. weigh (λ _. 1) u.put) views in let b : ℕ = weigh (λ _. 1) v.put in
    let e : a ≡ b = total_only (λ u. weigh (λ _. 1) u.put) views 0 v at (λ j u at' apart. ap (weigh (λ _. 1)) (rule.owner j u at' (positive j apart))) in
    let c : ℕ = total (λ u. weigh (λ _. 1) u.taken) views in let d : ℕ = weigh (λ _. 1) v.taken in
    let f : d ≤ c = total_at (λ u. weigh (λ _. 1) u.taken) views 0 v at in
    let g : ℕ = weigh (λ _. 1) (numbers_of items) in let i : a ≡ c + g = rule.weights (λ _. 1) in
    let k : d ≡ length v.taken = weigh_length v.taken in let l : b ≡ length v.put = weigh_length v.put in
    omega arith
  where
    positive : (j : ℕ) → j ≢ 0 → 0 < j
    positive zero apart = absurd (apart refl)
    positive (suc j) apart = omega arith

-- its worker takes a turn
pub takes : (s : SharedContent) (v : Hand) → 0 < v.parts → Takes (Balanced s) 0 v 1 (λ xs w. IsTaken s v xs w × IsWithin w)
takes s v has xs items views _ _ rule at =
    let w : Hand = hand v.parts v.put (v.taken ++ numbers_of xs) in
    let after = taken s 0 v xs items views has rule at in
    (w, after, ((refl, (split_fresh s xs items rule.fresh).0), within s w items (set views 0 w) after (changed views 0 v w at)))

-- another worker does
pub steals : (s : SharedContent) (port : ℕ) (v : Hand) → 0 < v.parts → Takes (Balanced s) port v 1 (IsTaken s v)
steals s port v has xs items views _ _ rule at =
    let w : Hand = hand v.parts v.put (v.taken ++ numbers_of xs) in (w, taken s port v xs items views has rule at, (refl, (split_fresh s xs items rule.fresh).0))

-- its worker finds none
pub finds : (s : SharedContent) (v : Hand) → Finds (Balanced s) 0 v (WasEmpty s v)
finds s v views rule at = (views, rule, at)

-- who has all parts then has taken all that was put
pub all_taken : (s : SharedContent) (v : Hand) → WasEmpty s v → v.parts ≡ all_parts → (h : ℕ → ℕ) → weigh h v.put ≡ weigh h v.taken
all_taken s v seen all h =
    let views = seen.0 in let rule = seen.1 in let at = seen.2 in
    let a : ℕ = total (λ u. weigh h u.put) views in let b : ℕ = weigh h v.put in
    let e : a ≡ b = total_only (λ u. weigh h u.put) views 0 v at (λ j u at' apart. ap (weigh h) (rule.owner j u at' (positive j apart))) in
    let c : ℕ = total (λ u. weigh h u.taken) views in let d : ℕ = weigh h v.taken in
    let f : c ≡ d = total_only (λ u. weigh h u.taken) views 0 v at (λ j u at' apart. ap (weigh h) (rule.idle j u at' (none_left j u at' apart))) in
    let i : a ≡ c + 0 = rule.weights h in
    omega arith
  where
    positive : (j : ℕ) → j ≢ 0 → 0 < j
    positive zero apart = absurd (apart refl)
    positive (suc j) apart = omega arith

    none_left : (j : ℕ) (u : Hand) → get_elem? seen.0 j ≡ some u → j ≢ 0 → u.parts ≡ 0
    none_left j u at' apart =
        let views = seen.0 in
        let w : Hand = hand 0 [] [] in
        let a : ℕ = total (λ x. x.parts) (set views 0 w) in let b : ℕ = v.parts in let c : ℕ = total (λ x. x.parts) views in
        let e : a + b ≡ c + 0 = total_set (λ x. x.parts) views 0 v w seen.2 in
        let p : c ≡ all_parts = seen.1.parts in let q : b ≡ all_parts = all in
        let f : u.parts ≤ a = total_at (λ x. x.parts) (set views 0 w) j u (set_else views 0 j w apart ∙ at') in
        omega arith

-- a part is handed out
pub hands_out : (s : SharedContent) (v : Hand) → 1 < v.parts → Forks (Balanced s) 0 v (hand (v.parts - 1) v.put v.taken) (hand 1 [] [])
hands_out s v has items views rule at =
    let l : Hand = hand (v.parts - 1) v.put v.taken in let r : Hand = hand 1 [] [] in let vs : List Hand = set views 0 l in
    record {
      fresh = rule.fresh;
      weights =
          λ h.
          let a : ℕ = total (λ u. weigh h u.put) (vs ++ r ∷ []) in let b : ℕ = total (λ u. weigh h u.put) vs in let c : ℕ = total (λ u. weigh h u.put) views in let d : ℕ = weigh h v.put in
          let e : a ≡ b + 0 = total_snoc (λ u. weigh h u.put) vs r in let f : b + d ≡ c + d = total_set (λ u. weigh h u.put) views 0 v l at in
          let a' : ℕ = total (λ u. weigh h u.taken) (vs ++ r ∷ []) in let b' : ℕ = total (λ u. weigh h u.taken) vs in let c' : ℕ = total (λ u. weigh h u.taken) views in let d' : ℕ = weigh h v.taken in
          let e' : a' ≡ b' + 0 = total_snoc (λ u. weigh h u.taken) vs r in let f' : b' + d' ≡ c' + d' = total_set (λ u. weigh h u.taken) views 0 v l at in
          let g : ℕ = weigh h (numbers_of items) in let i : c ≡ c' + g = rule.weights h in
          let goal : a ≡ a' + g = omega arith in
          goal;
      parts =
          let a : ℕ = total (λ u. u.parts) (vs ++ r ∷ []) in let b : ℕ = total (λ u. u.parts) vs in let c : ℕ = total (λ u. u.parts) views in let d : ℕ = v.parts in
          let e : a ≡ b + 1 = total_snoc (λ u. u.parts) vs r in let f : b + d ≡ c + (d - 1) = total_set (λ u. u.parts) views 0 v l at in
          let p : c ≡ all_parts = rule.parts in let q : 1 < d = has in let goal : a ≡ all_parts = omega arith in goal;
      idle = all_snoc (λ _ u. u.parts ≡ 0 → u.taken ≡ []) vs r (λ none. refl) (all_set (λ _ u. u.parts ≡ 0 → u.taken ≡ []) views 0 l (λ none. absurd (omega (arith, none, has))) rule.idle);
      owner = all_snoc (λ k u. 0 < k → u.put ≡ []) vs r (λ behind. refl) (all_set (λ k u. 0 < k → u.put ≡ []) views 0 l (λ behind. absurd (omega (arith, behind))) rule.owner);
    }

-- what another knew is taken back
pub takes_back : (s : SharedContent) (v : Hand) (other : ℕ) (w : Hand) → 0 < v.parts → Merges (Balanced s) 0 v other w (hand (v.parts + w.parts) v.put (v.taken ++ w.taken)) (hand 0 [] [])
takes_back s v other w has items views rule at apart at' =
    let both : Hand = hand (v.parts + w.parts) v.put (v.taken ++ w.taken) in let spent : Hand = hand 0 [] [] in let vs : List Hand = set views 0 both in let us : List Hand = set vs other spent in
    let was : get_elem? views other ≡ some w = sym (set_else views 0 other both apart) ∙ at' in
    let puts_none : w.put ≡ [] = rule.owner other w was (positive other apart) in
    record {
      fresh = rule.fresh;
      weights =
          λ h.
          let a : ℕ = total (λ u. weigh h u.put) us in let b : ℕ = total (λ u. weigh h u.put) vs in let c : ℕ = total (λ u. weigh h u.put) views in let d : ℕ = weigh h v.put in let e : ℕ = weigh h w.put in
          let none : e ≡ 0 = ap (weigh h) puts_none in
          let f : b + d ≡ c + d = total_set (λ u. weigh h u.put) views 0 v both at in let g : a + e ≡ b + 0 = total_set (λ u. weigh h u.put) vs other w spent at' in
          let a' : ℕ = total (λ u. weigh h u.taken) us in let b' : ℕ = total (λ u. weigh h u.taken) vs in let c' : ℕ = total (λ u. weigh h u.taken) views in let d' : ℕ = weigh h v.taken in let e' : ℕ = weigh h w.taken in
          let k : ℕ = weigh h (v.taken ++ w.taken) in let l : k ≡ d' + e' = weigh_append h v.taken w.taken in
          let f' : b' + d' ≡ c' + k = total_set (λ u. weigh h u.taken) views 0 v both at in let g' : a' + e' ≡ b' + 0 = total_set (λ u. weigh h u.taken) vs other w spent at' in
          let m : ℕ = weigh h (numbers_of items) in let i : c ≡ c' + m = rule.weights h in
          let goal : a ≡ a' + m = omega arith in
          goal;
      parts =
          let a : ℕ = total (λ u. u.parts) us in let b : ℕ = total (λ u. u.parts) vs in let c : ℕ = total (λ u. u.parts) views in let d : ℕ = v.parts in let e : ℕ = w.parts in
          let f : b + d ≡ c + (d + e) = total_set (λ u. u.parts) views 0 v both at in let g : a + e ≡ b + 0 = total_set (λ u. u.parts) vs other w spent at' in
          let p : c ≡ all_parts = rule.parts in let goal : a ≡ all_parts = omega arith in goal;
      idle = all_set (λ _ u. u.parts ≡ 0 → u.taken ≡ []) vs other spent (λ none. refl) (all_set (λ _ u. u.parts ≡ 0 → u.taken ≡ []) views 0 both (λ none. absurd (omega (arith, none, has))) rule.idle);
      owner = all_set (λ k u. 0 < k → u.put ≡ []) vs other spent (λ behind. refl) (all_set (λ k u. 0 < k → u.put ≡ []) views 0 both (λ behind. absurd (omega (arith, behind))) rule.owner);
    }
  where
    positive : (j : ℕ) → j ≢ 0 → 0 < j
    positive zero apart = absurd (apart refl)
    positive (suc j) apart = omega arith
