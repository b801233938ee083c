-- The outcome of a pair is that of the first line that fits, and each pair enters one count.
use Rattle.std.proofs.Common.{◌≡◌, ℕ, ◌+◌, ◌≤◌, ◌==◌, true, false, Bool, cond, ◌&&◌, List, [], ◌∷◌, length, filter, zero-add, add_assoc, length-append, Decides, Option, Some, None, refl, sym, ap, ◌∙◌, subst, arith, ◌⊎◌, inl, inr, if◌then◌else◌}
use Rattle.std.specs.Option.{is_some, option_map_or, option_and_then}
use Rattle.std.proofs.lemmas.Bool.{eqb-true, eqb-false, and_parts, and_from, false_from_ne_true}
use Rattle.fpage.specs.Rights.{is_empty, meet, has}
use Rattle.fpage.specs.Fpage.{Flexpage}
use Rattle.fpage.specs.declared.item.Item.{Item}
use Rattle.fpage.specs.declared.item.ItemKind.{ItemKind}
use Rattle.fpage.specs.declared.item.ItemKind.TheVariants.{Map, Grant}
use Rattle.space.specs.declared.place.Place.{Place}
use Rattle.space.specs.Place.{same_place}
use Rattle.model.specs.Definitions.Holdings.{Held, Holdings, only, at, is_held}
use Rattle.model.specs.Definitions.Derived.{is_under, is_below}
use Rattle.model.specs.Definitions.Items.{Job, Pair, job_of, Fate, absent, norights, to_origin, extends, goes, is_map, has_origin, fate, fate_of, going, flush, Counts, no_counts, add_counts, counts_of, counts_from, counts}
use Rattle.model.specs.Definitions.Calls.{send, Refusal, sent}
use Rattle.model.specs.Definitions.Answers.{call_refusal, unless_refused, call_answer, after_job, send_answer}
use Rattle.model.specs.Laws.SendLaws.{IsReplaced, total}
use Rattle.model.specs.Laws.FateLaws.{IsAbsent, SharesNoRight, DerivesFromTarget, WasMappedBefore, IsFirstFit, FateSays, CountsSay, SendsJoin, pairs_of_items, RepliesAddUp}
use Rattle.space.proofs.Places.{same_is, same_self}
use Rattle.fpage.proofs.RightSets.{has-meet, empty_has, empty_from}
use Rattle.model.proofs.LawfulParts.{IsLawful, lawful_parts}
use Rattle.model.proofs.Derivations.{under_leads, leads_under}
use Rattle.model.proofs.Flushes.{held_targets, flushed_kept}
use Rattle.model.proofs.MapOutcomes.{below_replaced, replaced_gone}
use Rattle.model.proofs.Jobs.{total_add, total_counts}

-- ---- the first line that fits

-- the outcome of a held source, by the three tests
abbrev chosen : Bool → Bool → Bool → Fate
chosen empty named widens = if empty then norights else if named then to_origin else if widens then extends else goes

no_absent : (a b c : Bool) → chosen a b c ≡ absent → ⊥
no_absent true b c is = cc is
no_absent false true c is = cc is
no_absent false false true is = cc is
no_absent false false false is = cc is

at_norights : (a b c : Bool) → chosen a b c ≡ norights → a ≡ true
at_norights true b c is = refl
at_norights false true c is = absurd (cc is)
at_norights false false true is = absurd (cc is)
at_norights false false false is = absurd (cc is)

at_origin : (a b c : Bool) → chosen a b c ≡ to_origin → (a ≡ false) × (b ≡ true)
at_origin true b c is = absurd (cc is)
at_origin false true c is = (refl, refl)
at_origin false false true is = absurd (cc is)
at_origin false false false is = absurd (cc is)

at_extends : (a b c : Bool) → chosen a b c ≡ extends → (a ≡ false) × (b ≡ false) × (c ≡ true)
at_extends true b c is = absurd (cc is)
at_extends false true c is = absurd (cc is)
at_extends false false true is = (refl, refl, refl)
at_extends false false false is = absurd (cc is)

at_goes : (a b c : Bool) → chosen a b c ≡ goes → (a ≡ false) × (b ≡ false) × (c ≡ false)
at_goes true b c is = absurd (cc is)
at_goes false true c is = absurd (cc is)
at_goes false false true is = absurd (cc is)
at_goes false false false is = (refl, refl, refl)

-- a test that fails, and what it tests
none_of : {P : Type 0} (b : Bool) → Decides b P → b ≡ false → P → ⊥
none_of b decides is p = cc (is, decides.1 p)

no_such : {P : Type 0} (b : Bool) → Decides b P → (P → ⊥) → b ≡ false
no_such b decides none = false_from_ne_true b (λ is. none (decides.0 is))

some_held : (o : Option Held) → is_some o ≡ true → (m : Held) × (o ≡ Some m)
some_held None is = absurd (cc is)
some_held (Some m) is = (m, refl)

module _ (h : Holdings) (l : IsLawful h) (job : Job) (e : Pair) where
  target_test : Decides (is_held h e.1 && is_under h (only e.1) e.0) (DerivesFromTarget h e)
  target_test = (to, λ d. and_from _ _ (ap is_some d.is) (leads_under h l (only e.1) e.0 d.derives))
    where
      to : (is_held h e.1 && is_under h (only e.1) e.0) ≡ true → DerivesFromTarget h e
      to both =
          let parts = and_parts (is_held h e.1) (is_under h (only e.1) e.0) both in
          let m = some_held (at h e.1) parts.0 in
          record { target = m.0; is = m.1; derives = under_leads h l (only e.1) e.0 parts.1 }

  maps : (k : ItemKind) → is_map k ≡ true → k ≡ Map
  maps Map is = refl
  maps Grant is = absurd (cc is)

  mapped_test : Decides (is_map job.kind && has_origin h e.1 e.0) (WasMappedBefore h job e)
  mapped_test = (to, λ w. and_from _ _ (ap is_map w.maps) (rw (w.is, w.origin) (same_self e.0)))
    where
      by : (m : Option Held) → at h e.1 ≡ m → option_map_or (same_place e.0) (option_and_then (λ k. k.origin) m) false ≡ true → (m : Held) × (at h e.1 ≡ Some m) × (m.origin ≡ Some e.0)
      by None is from = absurd (cc from)
      by (Some m) is from = (m, is, origin m.origin from)
        where
          origin : (o : Option Place) → option_map_or (same_place e.0) o false ≡ true → o ≡ Some e.0
          origin None from = absurd (cc from)
          origin (Some o) from = ap Some (sym (same_is e.0 o from))

      to : (is_map job.kind && has_origin h e.1 e.0) ≡ true → WasMappedBefore h job e
      to both =
          let parts = and_parts (is_map job.kind) (has_origin h e.1 e.0) both in
          let m = by (at h e.1) refl parts.1 in
          record { maps = maps job.kind parts.0; target = m.0; is = m.1; origin = m.2 }

  rights_test : (source : Held) → at h e.0 ≡ Some source → Decides (is_empty (meet source.rights job.rights)) (SharesNoRight h job e)
  rights_test source held = (
    λ empty. record { source = source; is = held; none = λ r in_source in_job. cc (empty_has (meet source.rights job.rights) r empty, has-meet source.rights job.rights r ∙ and_from _ _ in_source in_job) },
    λ s. empty_from (meet source.rights job.rights) (λ r. false_from_ne_true _ (λ both.
        let parts = and_parts (has source.rights r) (has job.rights r) (sym (has-meet source.rights job.rights r) ∙ both) in
        let same : source ≡ s.source = cc (held, s.is) in
        s.none r (subst (λ m. has m.rights r ≡ true) same parts.0) parts.1)),
  )

  fate_none : at h e.0 ≡ None → IsFirstFit h job e absent
  fate_none none = record {
    absent = (λ _. none, λ _. refl);
    norights = (λ is. absurd (cc is), λ c. absurd (c.0 none));
    to_origin = (λ is. absurd (cc is), λ c. absurd (c.0 none));
    extends = (λ is. absurd (cc is), λ c. absurd (c.0 none));
    goes = (λ is. absurd (cc is), λ c. absurd (c.0 none));
  }

  fate_some : (source : Held) → at h e.0 ≡ Some source → (a b c : Bool) → Decides a (SharesNoRight h job e) → Decides b (DerivesFromTarget h e) → Decides c (WasMappedBefore h job e)
      → IsFirstFit h job e (chosen a b c)
  fate_some source held a b c rights target mapped = record {
    absent = (λ is. absurd (no_absent a b c is), λ none. absurd (there none));
    norights = (λ is. (there, rights.0 (at_norights a b c is)), λ x. rw (rights.1 x.1) refl);
    to_origin = (λ is. let t = at_origin a b c is in (there, none_of a rights t.0, target.0 t.1), λ x. rw (no_such a rights x.1, target.1 x.2) refl);
    extends = (λ is. let t = at_extends a b c is in (there, none_of a rights t.0, none_of b target t.1, mapped.0 t.2), λ x. rw (no_such a rights x.1, no_such b target x.2, mapped.1 x.3) refl);
    goes = (λ is. let t = at_goes a b c is in (there, none_of a rights t.0, none_of b target t.1, none_of c mapped t.2), λ x. rw (no_such a rights x.1, no_such b target x.2, no_such c mapped x.3) refl);
  }
    where
      there : IsAbsent h e → ⊥
      there none = cc (none, held)

  first_fit : (m : Option Held) → at h e.0 ≡ m → IsFirstFit h job e (fate_of h job e m)
  first_fit None none = fate_none none
  first_fit (Some source) held = fate_some source held _ _ _ (rights_test source held) target_test mapped_test

pub fate_says : FateSays
fate_says h lawful job e = first_fit h (lawful_parts h lawful) job e (at h e.0) refl

-- ---- counts

length_kept : (b : Bool) (e : Pair) (es : List Pair) → length (cond b (e ∷ es) es) ≡ cond b 1 0 + length es
length_kept true e es = omega arith
length_kept false e es = omega arith

-- a pair enters one count, once
once : (f : Fate) (kept : Bool) → total (counts_of f kept) ≡ 1
once absent kept = refl
once norights kept = refl
once to_origin kept = refl
once extends true = refl
once extends false = refl
once goes true = refl
once goes false = refl

none_or_one : (n : ℕ) → n ≤ 1 → n ≡ cond (n == 1) 1 0
none_or_one n small = by (n == 1) refl
  where
    by : (x : Bool) → (n == 1) ≡ x → n ≡ cond x 1 0
    by true is = eqb-true n 1 is
    by false is = omega (arith, small, eqb-false n 1 is)

-- whether a pair enters a count, by its outcome and whether its source is kept
abbrev enters : (Counts → ℕ) → Fate → Bool → Bool
enters get f kept = get (counts_of f kept) == 1

-- a count is the number of the pairs that enter it
module _ (get : Counts → ℕ) (none : get no_counts ≡ 0) (adds : (a b : Counts) → get (add_counts a b) ≡ get a + get b) (within : (c : Counts) → get c ≤ total c) where
  counted : (h flushed : Holdings) (job : Job) (es : List Pair) → get (counts_from h flushed job es) ≡ length (filter (λ e. enters get (fate h job e) (is_held flushed e.0)) es)
  counted h flushed job [] = none
  counted h flushed job (e ∷ es) =
      let f = fate h job e in
      let kept = is_held flushed e.0 in
      let small : get (counts_of f kept) ≤ 1 = omega (arith, within (counts_of f kept), once f kept) in
      adds (counts_of f kept) (counts_from h flushed job es)
      ∙ (λ i. none_or_one (get (counts_of f kept)) small i + counted h flushed job es i)
      ∙ sym (length_kept (enters get f kept) e (filter (λ e. enters get (fate h job e) (is_held flushed e.0)) es))

-- ---- which pairs they are

module _ (h : Holdings) (l : IsLawful h) (job : Job) (e : Pair) where
  -- a source is held
  held_source : (f : Fate) → fate h job e ≡ f → (f ≡ goes) ⊎ (f ≡ extends) → (m : Held) × (at h e.0 ≡ Some m)
  held_source f is there = by (at h e.0) refl
    where
      by : (m : Option Held) → at h e.0 ≡ m → (m : Held) × (at h e.0 ≡ Some m)
      by None none = absurd (not_there there)
        where
          is_absent : f ≡ absent
          is_absent = sym is ∙ ap (fate_of h job e) none

          not_there : (f ≡ goes) ⊎ (f ≡ extends) → ⊥
          not_there (inl goes_it) = cc (is_absent, goes_it)
          not_there (inr extends_it) = cc (is_absent, extends_it)
      by (Some m) held = (m, held)

  -- it is flushed exactly where it is replaced
  flushed_replaced : (m : Held) → at h e.0 ≡ Some m → is_held (flush h (going h job)) e.0 ≡ false → IsReplaced h job e.0
  flushed_replaced m held gone = by (is_below h (held_targets h (going h job)) e.0) refl
    where
      by : (b : Bool) → is_below h (held_targets h (going h job)) e.0 ≡ b → IsReplaced h job e.0
      by true below = below_replaced h job l e.0 m held below
      by false outside = absurd (cc (gone, ap is_some (flushed_kept h (going h job) l e.0 m held outside)))

  replaced_flushed : IsReplaced h job e.0 → is_held (flush h (going h job)) e.0 ≡ false
  replaced_flushed replaced = ap is_some (replaced_gone h job l e.0 replaced)

  kept_stays : (kept : Bool) → is_held (flush h (going h job)) e.0 ≡ kept → kept ≡ true → IsReplaced h job e.0 → ⊥
  kept_stays kept is stays replaced = cc (is, stays, replaced_flushed replaced)

  test_absent : (f : Fate) (kept : Bool) → Decides (enters (λ c. c.absent) f kept) (f ≡ absent)
  test_absent absent kept = (λ _. refl, λ _. refl)
  test_absent norights kept = (λ is. absurd (cc is), λ is. absurd (cc is))
  test_absent to_origin kept = (λ is. absurd (cc is), λ is. absurd (cc is))
  test_absent extends true = (λ is. absurd (cc is), λ is. absurd (cc is))
  test_absent extends false = (λ is. absurd (cc is), λ is. absurd (cc is))
  test_absent goes true = (λ is. absurd (cc is), λ is. absurd (cc is))
  test_absent goes false = (λ is. absurd (cc is), λ is. absurd (cc is))

  test_norights : (f : Fate) (kept : Bool) → Decides (enters (λ c. c.norights) f kept) (f ≡ norights)
  test_norights absent kept = (λ is. absurd (cc is), λ is. absurd (cc is))
  test_norights norights kept = (λ _. refl, λ _. refl)
  test_norights to_origin kept = (λ is. absurd (cc is), λ is. absurd (cc is))
  test_norights extends true = (λ is. absurd (cc is), λ is. absurd (cc is))
  test_norights extends false = (λ is. absurd (cc is), λ is. absurd (cc is))
  test_norights goes true = (λ is. absurd (cc is), λ is. absurd (cc is))
  test_norights goes false = (λ is. absurd (cc is), λ is. absurd (cc is))

  test_origin : (f : Fate) (kept : Bool) → Decides (enters (λ c. c.origin) f kept) (f ≡ to_origin)
  test_origin absent kept = (λ is. absurd (cc is), λ is. absurd (cc is))
  test_origin norights kept = (λ is. absurd (cc is), λ is. absurd (cc is))
  test_origin to_origin kept = (λ _. refl, λ _. refl)
  test_origin extends true = (λ is. absurd (cc is), λ is. absurd (cc is))
  test_origin extends false = (λ is. absurd (cc is), λ is. absurd (cc is))
  test_origin goes true = (λ is. absurd (cc is), λ is. absurd (cc is))
  test_origin goes false = (λ is. absurd (cc is), λ is. absurd (cc is))

  neither : (f : Fate) → (f ≡ goes → ⊥) → (f ≡ extends → ⊥) → (f ≡ goes) ⊎ (f ≡ extends) → ⊥
  neither f not_goes not_extends (inl is) = not_goes is
  neither f not_goes not_extends (inr is) = not_extends is

  -- a source that is not kept is replaced
  gone_one : (f : Fate) → fate h job e ≡ f → (f ≡ goes) ⊎ (f ≡ extends) → is_held (flush h (going h job)) e.0 ≡ false → IsReplaced h job e.0
  gone_one f is there gone = let m = held_source f is there in flushed_replaced m.0 m.1 gone

  test_lost : (f : Fate) (kept : Bool) → fate h job e ≡ f → is_held (flush h (going h job)) e.0 ≡ kept → Decides (enters (λ c. c.lost) f kept) (((f ≡ goes) ⊎ (f ≡ extends)) × IsReplaced h job e.0)
  test_lost absent kept is is_kept = (λ no. absurd (cc no), λ x. absurd (neither absent (λ y. cc y) (λ y. cc y) x.0))
  test_lost norights kept is is_kept = (λ no. absurd (cc no), λ x. absurd (neither norights (λ y. cc y) (λ y. cc y) x.0))
  test_lost to_origin kept is is_kept = (λ no. absurd (cc no), λ x. absurd (neither to_origin (λ y. cc y) (λ y. cc y) x.0))
  test_lost extends true is is_kept = (λ no. absurd (cc no), λ x. absurd (kept_stays true is_kept refl x.1))
  test_lost extends false is is_kept = (λ _. (inr refl, gone_one extends is (inr refl) is_kept), λ _. refl)
  test_lost goes true is is_kept = (λ no. absurd (cc no), λ x. absurd (kept_stays true is_kept refl x.1))
  test_lost goes false is is_kept = (λ _. (inl refl, gone_one goes is (inl refl) is_kept), λ _. refl)

  test_extended : (f : Fate) (kept : Bool) → fate h job e ≡ f → is_held (flush h (going h job)) e.0 ≡ kept → Decides (enters (λ c. c.extended) f kept) ((f ≡ extends) × (IsReplaced h job e.0 → ⊥))
  test_extended absent kept is is_kept = (λ no. absurd (cc no), λ x. absurd (cc (x.0)))
  test_extended norights kept is is_kept = (λ no. absurd (cc no), λ x. absurd (cc (x.0)))
  test_extended to_origin kept is is_kept = (λ no. absurd (cc no), λ x. absurd (cc (x.0)))
  test_extended extends true is is_kept = (λ _. (refl, kept_stays true is_kept refl), λ _. refl)
  test_extended extends false is is_kept = (λ no. absurd (cc no), λ x. absurd (x.1 (gone_one extends is (inr refl) is_kept)))
  test_extended goes true is is_kept = (λ no. absurd (cc no), λ x. absurd (cc (x.0)))
  test_extended goes false is is_kept = (λ no. absurd (cc no), λ x. absurd (cc (x.0)))

  test_linked : (f : Fate) (kept : Bool) → fate h job e ≡ f → is_held (flush h (going h job)) e.0 ≡ kept → Decides (enters (λ c. c.linked) f kept) ((f ≡ goes) × (IsReplaced h job e.0 → ⊥))
  test_linked absent kept is is_kept = (λ no. absurd (cc no), λ x. absurd (cc (x.0)))
  test_linked norights kept is is_kept = (λ no. absurd (cc no), λ x. absurd (cc (x.0)))
  test_linked to_origin kept is is_kept = (λ no. absurd (cc no), λ x. absurd (cc (x.0)))
  test_linked extends true is is_kept = (λ no. absurd (cc no), λ x. absurd (cc (x.0)))
  test_linked extends false is is_kept = (λ no. absurd (cc no), λ x. absurd (cc (x.0)))
  test_linked goes true is is_kept = (λ _. (refl, kept_stays true is_kept refl), λ _. refl)
  test_linked goes false is is_kept = (λ no. absurd (cc no), λ x. absurd (x.1 (gone_one goes is (inl refl) is_kept)))

pub counts_say : CountsSay
counts_say h lawful job =
    let l = lawful_parts h lawful in
    let flushed = flush h (going h job) in
    record {
      absent = record {
        test = λ e. enters (λ c. c.absent) (fate h job e) (is_held flushed e.0);
        decides = λ e k. test_absent h l job e (fate h job e) (is_held flushed e.0);
        count = counted (λ c. c.absent) refl (λ a b. refl) (λ c. omega arith) h flushed job job.pairs;
      };
      norights = record {
        test = λ e. enters (λ c. c.norights) (fate h job e) (is_held flushed e.0);
        decides = λ e k. test_norights h l job e (fate h job e) (is_held flushed e.0);
        count = counted (λ c. c.norights) refl (λ a b. refl) (λ c. omega arith) h flushed job job.pairs;
      };
      origin = record {
        test = λ e. enters (λ c. c.origin) (fate h job e) (is_held flushed e.0);
        decides = λ e k. test_origin h l job e (fate h job e) (is_held flushed e.0);
        count = counted (λ c. c.origin) refl (λ a b. refl) (λ c. omega arith) h flushed job job.pairs;
      };
      lost = record {
        test = λ e. enters (λ c. c.lost) (fate h job e) (is_held flushed e.0);
        decides = λ e k. test_lost h l job e (fate h job e) (is_held flushed e.0) refl refl;
        count = counted (λ c. c.lost) refl (λ a b. refl) (λ c. omega arith) h flushed job job.pairs;
      };
      extended = record {
        test = λ e. enters (λ c. c.extended) (fate h job e) (is_held flushed e.0);
        decides = λ e k. test_extended h l job e (fate h job e) (is_held flushed e.0) refl refl;
        count = counted (λ c. c.extended) refl (λ a b. refl) (λ c. omega arith) h flushed job job.pairs;
      };
      linked = record {
        test = λ e. enters (λ c. c.linked) (fate h job e) (is_held flushed e.0);
        decides = λ e k. test_linked h l job e (fate h job e) (is_held flushed e.0) refl refl;
        count = counted (λ c. c.linked) refl (λ a b. refl) (λ c. omega arith) h flushed job job.pairs;
      };
    }

-- ---- sends

counts_none : (c : Counts) → add_counts no_counts c ≡ c
counts_none c = λ i. record { absent = zero-add c.absent i; norights = zero-add c.norights i; origin = zero-add c.origin i; lost = zero-add c.lost i; extended = zero-add c.extended i; linked = zero-add c.linked i }

counts_assoc : (a b c : Counts) → add_counts (add_counts a b) c ≡ add_counts a (add_counts b c)
counts_assoc a b c = λ i. record {
  absent = add_assoc a.absent b.absent c.absent i;
  norights = add_assoc a.norights b.norights c.norights i;
  origin = add_assoc a.origin b.origin c.origin i;
  lost = add_assoc a.lost b.lost c.lost i;
  extended = add_assoc a.extended b.extended c.extended i;
  linked = add_assoc a.linked b.linked c.linked i;
}

pub sends_join : SendsJoin
sends_join from to window [] others h = let rest = send_answer from to window others h in λ i. record { counts = sym (counts_none rest.counts) i; left = rest.left }
sends_join from to window (item ∷ items) others h =
    let job = job_of from to window item in
    let between = after_job job.kind h job in
    let first = send_answer from to window items between in
    let rest = send_answer from to window others first.left in
    let join = sends_join from to window items others between in
    λ i. record { counts = (ap (λ x. add_counts (counts h job) x.counts) join ∙ sym (counts_assoc (counts h job) first.counts rest.counts)) i; left = (join i).left }

total_sent : (from to : ℕ) (window : Flexpage) (items : List Item) (h : Holdings) → total (send_answer from to window items h).counts ≡ length (pairs_of_items from to window items)
total_sent from to window [] h = refl
total_sent from to window (item ∷ items) h =
    let job = job_of from to window item in
    let rest = send_answer from to window items (after_job job.kind h job) in
    total_add (counts h job) rest.counts ∙ (λ i. total_counts h job i + total_sent from to window items (after_job job.kind h job) i)
    ∙ sym (length-append job.pairs (pairs_of_items from to window items))

pub replies_add_up : RepliesAddUp
replies_add_up limits h from to window items c is = by (call_refusal limits (send from to window items)) is
  where
    by : (why : Option Refusal) → (unless_refused why h (call_answer h (send from to window items))).reply ≡ sent c → total c ≡ length (pairs_of_items from to window items)
    by None is = let same : (send_answer from to window items h).counts ≡ c = cc is in ap total (sym same) ∙ total_sent from to window items h
    by (Some r) is = absurd (cc is)
