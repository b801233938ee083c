-- Jobs: two spaces, and pairs whose sources and whose targets are distinct; the six counts of an item add up.
use Rattle.std.proofs.Common.{◌≡◌, ℕ, zero, suc, ◌+◌, ◌≤◌, ◌<◌, true, false, Bool, cond, ◌&&◌, [], ◌∷◌, List, length, filter, nat_le, nat_lt, ◌==◌, eq-or-lt_of_le, refl, sym, ap, ◌∙◌, subst, arith, ◌⊎◌, inl, inr}
use Rattle.std.specs.List.{list_any}
use Rattle.std.proofs.lemmas.Bool.{and_parts, and_from, or_cases, or_left, or_right, leb-true, ltb-true, le-leb, lt-ltb, eqb-true, eq-eqb}
use Rattle.fpage.specs.Fpage.{Flexpage}
use Rattle.fpage.specs.declared.item.Item.{Item}
use Rattle.fpage.specs.Item.{pairs_of, is_pair_of}
use Rattle.space.specs.declared.place.Place.{Place}
use Rattle.space.specs.Place.{same_place}
use Rattle.model.specs.Definitions.Holdings.{Holdings, is_held}
use Rattle.model.specs.Definitions.Items.{Job, Pair, next_page, pairs_from, job_of, Fate, absent, norights, to_origin, extends, goes, fate, going, flush, sources_of, targets_of, Counts, add_counts, counts_of, counts_from, counts}
use Rattle.model.specs.Laws.SendLaws.{In, total}
use Rattle.space.proofs.Places.{same_is, same_self}

-- ---- the pairs of a list

module _ (test : Pair → Bool) where
  -- what a filter keeps is of the list and passes
  pub in_filter : (es : List Pair) (e : Pair) → In e (filter test es) → In e es × (test e ≡ true)
  in_filter [] e k = absurd k
  in_filter (d ∷ es) e k = by (test d) refl k (in_filter es e)
    where
      by : (b : Bool) → test d ≡ b → In e (cond b (d ∷ filter test es) (filter test es)) → (In e (filter test es) → In e es × (test e ≡ true)) → In e (d ∷ es) × (test e ≡ true)
      by true is (inl same) rest = (inl same, rw same is)
      by true is (inr k) rest = let r = rest k in (inr r.0, r.1)
      by false is k rest = let r = rest k in (inr r.0, r.1)

  -- a filter keeps what passes
  pub in_filter_from : (es : List Pair) (e : Pair) → In e es → test e ≡ true → In e (filter test es)
  in_filter_from [] e k passes = absurd k
  in_filter_from (d ∷ es) e k passes = by (test d) refl k (λ k. in_filter_from es e k passes)
    where
      by : (b : Bool) → test d ≡ b → In e (d ∷ es) → (In e es → In e (filter test es)) → In e (cond b (d ∷ filter test es) (filter test es))
      by true is (inl same) rest = inl same
      by true is (inr k) rest = inr (rest k)
      by false is (inl same) rest = absurd (cc (is, passes, ap test same))
      by false is (inr k) rest = rest k

  -- some pair passes
  pub any_in : (es : List Pair) → list_any test es ≡ true → (e : Pair) × In e es × (test e ≡ true)
  any_in [] any = absurd (cc any)
  any_in (d ∷ es) any = by (or_cases (test d) (list_any test es) any) (any_in es)
    where
      by : (test d ≡ true) ⊎ (list_any test es ≡ true) → (list_any test es ≡ true → (e : Pair) × In e es × (test e ≡ true)) → (e : Pair) × In e (d ∷ es) × (test e ≡ true)
      by (inl here) rest = (d, inl refl, here)
      by (inr there) rest = let r = rest there in (r.0, inr r.1, r.2)

  -- a pair of the list that passes is enough
  pub in_any : (es : List Pair) (e : Pair) → In e es → test e ≡ true → list_any test es ≡ true
  in_any [] e k passes = absurd k
  in_any (d ∷ es) e (inl same) passes = or_left (test d) (list_any test es) (sym (ap test same) ∙ passes)
  in_any (d ∷ es) e (inr k) passes = or_right (test d) (list_any test es) (in_any es e k passes)

-- a source of a list is the source of one of its pairs
pub source_in : (es : List Pair) (p : Place) → sources_of es p ≡ true → (e : Pair) × In e es × (e.0 ≡ p)
source_in es p is = let r = any_in (λ e. same_place e.0 p) es is in (r.0, r.1, same_is r.0.0 p r.2)

-- the source of each pair is a source of the list
pub in_sources : (es : List Pair) (e : Pair) → In e es → sources_of es e.0 ≡ true
in_sources es e k = in_any (λ d. same_place d.0 e.0) es e k (same_self e.0)

-- a target of a list is the target of one of its pairs
pub target_in : (es : List Pair) (q : Place) → targets_of es q ≡ true → (e : Pair) × In e es × (e.1 ≡ q)
target_in es q is = let r = any_in (λ e. same_place e.1 q) es is in (r.0, r.1, same_is r.0.1 q r.2)

-- the target of each pair is a target of the list
pub in_targets : (es : List Pair) (e : Pair) → In e es → targets_of es e.1 ≡ true
in_targets es e k = in_any (λ d. same_place d.1 e.1) es e k (same_self e.1)

-- ---- jobs

-- the pair's source and target are those of no pair of the list
abbrev pub IsApart : Pair → List Pair → Type 0
IsApart e es = (d : Pair) → In d es → (d.0 ≡ e.0 → ⊥) × (d.1 ≡ e.1 → ⊥)

-- sources lie in one space, targets in another, and no two pairs share either
abbrev pub ArePaired : ℕ → ℕ → List Pair → Type 0
ArePaired from to [] = Unit {0}
ArePaired from to (e ∷ es) = (e.0.space ≡ from) × (e.1.space ≡ to) × IsApart e es × ArePaired from to es

-- a job between two spaces
pub record IsJob (job : Job) : Type 0 where
  pub from : ℕ
  pub to : ℕ
  pub differ : from ≡ to → ⊥
  pub paired : ArePaired from to job.pairs

module _ (from to : ℕ) where
  pub source_space_of : (es : List Pair) → ArePaired from to es → (e : Pair) → In e es → e.0.space ≡ from
  source_space_of [] paired e k = absurd k
  source_space_of (d ∷ es) paired e (inl same) = rw same (paired.0)
  source_space_of (d ∷ es) paired e (inr k) = source_space_of es paired.3 e k

  target_space_of : (es : List Pair) → ArePaired from to es → (e : Pair) → In e es → e.1.space ≡ to
  target_space_of [] paired e k = absurd k
  target_space_of (d ∷ es) paired e (inl same) = rw same (paired.1)
  target_space_of (d ∷ es) paired e (inr k) = target_space_of es paired.3 e k

  one_source_of : (es : List Pair) → ArePaired from to es → (d e : Pair) → In d es → In e es → d.0 ≡ e.0 → d ≡ e
  one_source_of [] paired d e in_d in_e same = absurd in_d
  one_source_of (f ∷ es) paired d e (inl is_d) (inl is_e) same = is_d ∙ sym is_e
  one_source_of (f ∷ es) paired d e (inl is_d) (inr in_e) same = absurd ((paired.2 e in_e).0 (sym same ∙ ap (λ x. x.0) is_d))
  one_source_of (f ∷ es) paired d e (inr in_d) (inl is_e) same = absurd ((paired.2 d in_d).0 (same ∙ ap (λ x. x.0) is_e))
  one_source_of (f ∷ es) paired d e (inr in_d) (inr in_e) same = one_source_of es paired.3 d e in_d in_e same

  pub one_target_of : (es : List Pair) → ArePaired from to es → (d e : Pair) → In d es → In e es → d.1 ≡ e.1 → d ≡ e
  one_target_of [] paired d e in_d in_e same = absurd in_d
  one_target_of (f ∷ es) paired d e (inl is_d) (inl is_e) same = is_d ∙ sym is_e
  one_target_of (f ∷ es) paired d e (inl is_d) (inr in_e) same = absurd ((paired.2 e in_e).1 (sym same ∙ ap (λ x. x.1) is_d))
  one_target_of (f ∷ es) paired d e (inr in_d) (inl is_e) same = absurd ((paired.2 d in_d).1 (same ∙ ap (λ x. x.1) is_e))
  one_target_of (f ∷ es) paired d e (inr in_d) (inr in_e) same = one_target_of es paired.3 d e in_d in_e same

module _ (job : Job) (j : IsJob job) where
  -- two pairs with one source are one
  pub one_source : (d e : Pair) → In d job.pairs → In e job.pairs → d.0 ≡ e.0 → d ≡ e
  one_source = one_source_of j.from j.to job.pairs j.paired

  -- two pairs with one target are one
  pub one_target : (d e : Pair) → In d job.pairs → In e job.pairs → d.1 ≡ e.1 → d ≡ e
  one_target = one_target_of j.from j.to job.pairs j.paired

  -- no source is a target
  pub source_no_target : (d e : Pair) → In d job.pairs → In e job.pairs → d.0 ≡ e.1 → ⊥
  source_no_target d e in_d in_e same =
      j.differ (sym (source_space_of j.from j.to job.pairs j.paired d in_d) ∙ ap (λ (p : Place). p.space) same ∙ target_space_of j.from j.to job.pairs j.paired e in_e)

-- ---- the pairs from a source and a target on

-- a pair of these: its source is one of so many pages from the first source on, and its target lies as far from the first target
pub record IsFrom (n : ℕ) (source target : Place) (e : Pair) : Type 0 where
  pub source_space : e.0.space ≡ source.space
  pub target_space : e.1.space ≡ target.space
  pub low : source.page ≤ e.0.page
  pub high : e.0.page < source.page + n
  pub level : e.0.page + target.page ≡ e.1.page + source.page

-- what a pair of these is
pub in_pairs_from : (n : ℕ) (source target : Place) (e : Pair) → In e (pairs_from n source target) → IsFrom n source target e
in_pairs_from zero source target e k = absurd k
in_pairs_from (suc n) source target e (inl same) =
    subst (IsFrom (suc n) source target) (sym same) (record { source_space = refl; target_space = refl; low = omega arith; high = omega arith; level = omega arith })
in_pairs_from (suc n) source target e (inr k) =
    let r = in_pairs_from n (next_page source) (next_page target) e k in
    record { source_space = r.source_space; target_space = r.target_space; low = omega (arith, r.low); high = omega (arith, r.high); level = omega (arith, r.level) }

-- each such pair is one of these
pub pairs_from_in : (n : ℕ) (source target : Place) (e : Pair) → IsFrom n source target e → In e (pairs_from n source target)
pairs_from_in zero source target e r = none_between source.page e.0.page r.low r.high
  where
    none_between : (a b : ℕ) → a ≤ b → b < a + 0 → ⊥
    none_between a b low high = omega arith
pairs_from_in (suc n) source target e r = by (eq-or-lt_of_le r.low) (pairs_from_in n (next_page source) (next_page target) e)
  where
    by : (source.page ≡ e.0.page) ⊎ (source.page < e.0.page) → (IsFrom n (next_page source) (next_page target) e → In e (pairs_from n (next_page source) (next_page target))) → In e (pairs_from (suc n) source target)
    by (inl first) rest =
        let last : e.1.page ≡ target.page = omega (arith, first, r.level) in
        inl (λ i. (record { space = r.source_space i; page = sym first i }, record { space = r.target_space i; page = last i }))
    by (inr more) rest = inr (rest (record { source_space = r.source_space; target_space = r.target_space; low = omega (arith, more); high = omega (arith, r.high); level = omega (arith, r.level) }))

later_apart : (n : ℕ) (source target : Place) → IsApart (source, target) (pairs_from n (next_page source) (next_page target))
later_apart n source target d k =
    let r = in_pairs_from n (next_page source) (next_page target) d k in
    (λ same. not_first source.page d.0.page (ap (λ (p : Place). p.page) same) r.low, λ same. not_first target.page d.1.page (ap (λ (p : Place). p.page) same) (later_target source.page target.page d.0.page d.1.page r.low r.level))
  where
    not_first : (a b : ℕ) → b ≡ a → a + 1 ≤ b → ⊥
    not_first a b same later = omega arith

    later_target : (a b c d : ℕ) → a + 1 ≤ c → c + (b + 1) ≡ d + (a + 1) → b + 1 ≤ d
    later_target a b c d later level = omega arith

-- sources and targets of these are distinct
pub paired_from : (n : ℕ) (source target : Place) → ArePaired source.space target.space (pairs_from n source target)
paired_from zero source target = tt
paired_from (suc n) source target = (refl, refl, later_apart n source target, paired_from n (next_page source) (next_page target))

-- the item of a send from one space to another is such a job
pub job_is : (from to : ℕ) (window : Flexpage) (item : Item) → (from ≡ to → ⊥) → IsJob (job_of from to window item)
job_is from to window item differ =
    let runs = pairs_of item window in
    record { from = from; to = to; differ = differ; paired = paired_from runs.count (record { space = from; page = runs.source }) (record { space = to; page = runs.target }) }

module _ (from to : ℕ) (window : Flexpage) (item : Item) (e : Pair) where
  -- a pair of the item of a send is one that the two runs list
  pub job_pair_is : In e (job_of from to window item).pairs → (e.0.space ≡ from) × (e.1.space ≡ to) × (is_pair_of (pairs_of item window) e.0.page e.1.page ≡ true)
  job_pair_is k =
      let runs = pairs_of item window in
      let r = in_pairs_from runs.count (record { space = from; page = runs.source }) (record { space = to; page = runs.target }) e k in
      (r.source_space, r.target_space, and_from _ _ (and_from _ _ (le-leb runs.source e.0.page r.low) (lt-ltb e.0.page (runs.source + runs.count) r.high)) (eq-eqb (e.0.page + runs.target) (e.1.page + runs.source) r.level))

  -- each pair of places of the two spaces that the two runs list is a pair of the item
  pub job_pair_in : e.0.space ≡ from → e.1.space ≡ to → is_pair_of (pairs_of item window) e.0.page e.1.page ≡ true → In e (job_of from to window item).pairs
  job_pair_in source_space target_space is =
      let runs = pairs_of item window in
      let both = and_parts (nat_le runs.source e.0.page && nat_lt e.0.page (runs.source + runs.count)) (e.0.page + runs.target == e.1.page + runs.source) is in
      let range = and_parts (nat_le runs.source e.0.page) (nat_lt e.0.page (runs.source + runs.count)) both.0 in
      pairs_from_in runs.count (record { space = from; page = runs.source }) (record { space = to; page = runs.target }) e (record {
        source_space = source_space;
        target_space = target_space;
        low = leb-true runs.source e.0.page range.0;
        high = ltb-true e.0.page (runs.source + runs.count) range.1;
        level = eqb-true (e.0.page + runs.target) (e.1.page + runs.source) both.1;
      })

-- ---- the six counts

total_one : (f : Fate) (kept : Bool) → total (counts_of f kept) ≡ 1
total_one absent kept = refl
total_one norights kept = refl
total_one to_origin kept = refl
total_one extends true = refl
total_one extends false = refl
total_one goes true = refl
total_one goes false = refl

pub total_add : (a b : Counts) → total (add_counts a b) ≡ total a + total b
total_add a b = omega arith

total_from : (h flushed : Holdings) (job : Job) (es : List Pair) → total (counts_from h flushed job es) ≡ length es
total_from h flushed job [] = refl
total_from h flushed job (e ∷ es) =
    total_add (counts_of (fate h job e) (is_held flushed e.0)) (counts_from h flushed job es)
    ∙ one_more (total_one (fate h job e) (is_held flushed e.0)) (total_from h flushed job es)
  where
    one_more : {a b n : ℕ} → a ≡ 1 → b ≡ n → a + b ≡ suc n
    one_more one rest = omega arith

-- each pair of an item has one outcome
pub total_counts : (h : Holdings) (job : Job) → total (counts h job) ≡ length job.pairs
total_counts h job = total_from h (flush h (going h job)) job job.pairs
