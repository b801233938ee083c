-- The outcomes of the pages so far, and those of the pages to come.
use Rattle.std.proofs.Common.{◌≡◌, ℕ, zero, suc, ◌+◌, ◌-◌, ◌<◌, ◌≤◌, List, [], ◌∷◌, ◌++◌, length, None, refl, sym, ap, ◌∙◌, subst, arith}
use Rattle.std.proofs.lemmas.List.{append_assoc, append-nil}
use Rattle.space.specs.declared.place.Place.{Place}
use Rattle.model.specs.Definitions.Holdings.{Holdings, at}
use Rattle.model.specs.Definitions.Items.{Job, Pair, next_page, pairs_from, Fate, absent, norights, to_origin, extends, goes, fate, fate_of, Counts, no_counts, add_counts}
use Rattle.model.specs.Laws.SendLaws.{total}
use Rattle.holdings.specs.declared.transfer.Transfer.{Transfer}
use Rattle.holdings.specs.Sending.{page_on}
use Rattle.holdings.proofs.CountSums.{add_assoc, add_none, none_add, total_sum}
use Rattle.mapdb.specs.Sending.{transfer_of, transfers_of, count_before_flush, counts_before_flush, AreDecided}

-- ---- pages

-- the pages from the i-th on
pub pairs_on : (n i : ℕ) (source target : Place) → i < n
    → pairs_from (n - i) (page_on source i) (page_on target i) ≡ (page_on source i, page_on target i) ∷ pairs_from (n - (i + 1)) (page_on source (i + 1)) (page_on target (i + 1))
pairs_on n i source target less =
    let more : n - i ≡ suc (n - (i + 1)) = omega (arith, less) in
    let on : (p : ℕ) → p + i + 1 ≡ p + (i + 1) = λ p. omega arith in
    ap (λ k. pairs_from k (page_on source i) (page_on target i)) more
    ∙ (λ j. (page_on source i, page_on target i) ∷ pairs_from (n - (i + 1)) (record source { page = on source.page j }) (record target { page = on target.page j }))

transfers_before : (e : Pair) (f : Fate) (ts : List Transfer) → transfer_of e f ts ≡ transfer_of e f [] ++ ts
transfers_before e absent ts = refl
transfers_before e norights ts = refl
transfers_before e to_origin ts = refl
transfers_before e extends ts = refl
transfers_before e goes ts = refl

pub decided_one : (f : Fate) → total (count_before_flush f) ≤ 1
decided_one absent = omega arith
decided_one norights = omega arith
decided_one to_origin = omega arith
decided_one extends = omega arith
decided_one goes = omega arith

module _ (h : Holdings) (job : Job) (n : ℕ) (source target : Place) where
  pub none_decided : AreDecided h job n 0 source target no_counts []
  none_decided =
      let same : (p : ℕ) → p + 0 ≡ p = λ p. omega arith in
      let zero_less : (n : ℕ) → n - 0 ≡ n = λ n. omega arith in
      let all : pairs_from (n - 0) (page_on source 0) (page_on target 0) ≡ pairs_from n source target = λ j. pairs_from (zero_less n j) (record source { page = same source.page j }) (record target { page = same target.page j }) in
      record { counts_are = none_add (counts_before_flush h job (pairs_from (n - 0) (page_on source 0) (page_on target 0))) ∙ ap (counts_before_flush h job) all; transfers_are = ap (transfers_of h job) all; few = omega arith }

  pub one_decided : (i : ℕ) (counts more : Counts) (ts new : List Transfer) (f : Fate) → i < n → AreDecided h job n i source target counts ts → f ≡ fate h job (page_on source i, page_on target i)
      → more ≡ add_counts counts (count_before_flush f) → new ≡ ts ++ transfer_of (page_on source i, page_on target i) f [] → AreDecided h job n (i + 1) source target more new
  one_decided i counts more ts new f less so_far is more_is new_is =
      let rest = pairs_from (n - (i + 1)) (page_on source (i + 1)) (page_on target (i + 1)) in
      let e : Pair = (page_on source i, page_on target i) in
      let one = decided_one f in
      record {
        counts_are = ap (λ c. add_counts c (counts_before_flush h job rest)) more_is ∙ add_assoc counts (count_before_flush f) (counts_before_flush h job rest)
            ∙ ap (λ g. add_counts counts (add_counts (count_before_flush g) (counts_before_flush h job rest))) is
            ∙ sym (ap (λ es. add_counts counts (counts_before_flush h job es)) (pairs_on n i source target less)) ∙ so_far.counts_are;
        transfers_are = ap (λ xs. xs ++ transfers_of h job rest) new_is ∙ append_assoc ts (transfer_of e f []) (transfers_of h job rest)
            ∙ ap (λ xs. ts ++ xs) (sym (transfers_before e f (transfers_of h job rest)) ∙ ap (λ g. transfer_of e g (transfers_of h job rest)) is)
            ∙ sym (ap (λ es. ts ++ transfers_of h job es) (pairs_on n i source target less)) ∙ so_far.transfers_are;
        few = subst (λ c. total c ≤ i + 1) (sym more_is) (subst (λ k. k ≤ i + 1) (sym (total_sum counts (count_before_flush f))) (omega (arith, one, so_far.few)));
      }

  -- some pages more, whose sources are absent
  pub absent_decided : (m i : ℕ) (counts : Counts) (ts : List Transfer) → i + m ≤ n → AreDecided h job n i source target counts ts → ((k : ℕ) → i ≤ k → k < i + m → at h (page_on source k) ≡ None)
      → AreDecided h job n (i + m) source target (add_counts counts (record no_counts { absent = m })) ts
  absent_decided zero i counts ts most so_far none =
      let same : i ≡ i + 0 = omega arith in
      subst (λ c. AreDecided h job n (i + 0) source target c ts) (sym (add_none counts)) (subst (λ k. AreDecided h job n k source target counts ts) same so_far)
  absent_decided (suc m) i counts ts most so_far none =
      let e : Pair = (page_on source i, page_on target i) in
      let is : absent ≡ fate h job e = sym (ap (fate_of h job e) (none i (omega arith) (omega arith))) in
      let one = one_decided i counts (add_counts counts (count_before_flush absent)) ts ts absent (omega (arith, most)) so_far is refl (sym (append-nil ts)) in
      let rest = absent_decided m (i + 1) (add_counts counts (count_before_flush absent)) ts (omega (arith, most)) one (λ k low high. none k (omega (arith, low)) (omega (arith, high))) in
      let on : i + 1 + m ≡ i + suc m = omega arith in
      let more : 1 + m ≡ suc m = omega arith in
      subst (λ k. AreDecided h job n k source target (add_counts counts (record no_counts { absent = suc m })) ts) on
      (subst (λ c. AreDecided h job n (i + 1 + m) source target c ts) (add_assoc counts (count_before_flush absent) (record no_counts { absent = m }) ∙ (λ j. add_counts counts (record no_counts { absent = more j }))) rest)

  pub all_decided : (i : ℕ) (counts : Counts) (ts : List Transfer) → n ≤ i → AreDecided h job n i source target counts ts → (counts ≡ counts_before_flush h job (pairs_from n source target)) × (ts ≡ transfers_of h job (pairs_from n source target))
  all_decided i counts ts past so_far =
      let none : n - i ≡ 0 = omega (arith, past) in
      let nothing : pairs_from (n - i) (page_on source i) (page_on target i) ≡ [] = ap (λ k. pairs_from k (page_on source i) (page_on target i)) none in (
        sym (add_none counts) ∙ sym (ap (λ es. add_counts counts (counts_before_flush h job es)) nothing) ∙ so_far.counts_are,
        sym (append-nil ts) ∙ sym (ap (λ es. ts ++ transfers_of h job es) nothing) ∙ so_far.transfers_are,
      )

-- the pages of a longer list have no more transfers than pages
pub transfers_few : (h : Holdings) (job : Job) (es : List Pair) → length (transfers_of h job es) ≤ length es
transfers_few h job [] = omega arith
transfers_few h job (e ∷ es) = by (fate h job e) (transfers_few h job es)
  where
    by : (f : Fate) → length (transfers_of h job es) ≤ length es → length (transfer_of e f (transfers_of h job es)) ≤ length (e ∷ es)
    by absent few = omega (arith, few)
    by norights few = omega (arith, few)
    by to_origin few = omega (arith, few)
    by extends few = omega (arith, few)
    by goes few = omega (arith, few)

pub pairs_length : (n : ℕ) (source target : Place) → length (pairs_from n source target) ≡ n
pairs_length zero source target = refl
pairs_length (suc n) source target = ap suc (pairs_length n (next_page source) (next_page target))
