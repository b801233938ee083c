-- Where batches of pages begin.
use Rattle.std.proofs.Common.{◌≡◌, ℕ, zero, suc, ◌+◌, ◌-◌, ◌<◌, ◌≤◌, ◌==◌, true, List, [], ◌∷◌, ◌++◌, length, drop, get_or, slice_index, ⊎_elim, refl, sym, ap, ◌∙◌, subst, arith}
use Rattle.std.specs.List.{list_all, slice_range}
use Rattle.std.proofs.lemmas.List.{length-append, length-drop, length-take-le, get_or-take, get_or-drop, get_or_append_left, get_or_at}
use Rattle.std.proofs.lemmas.Bool.{cases_lt}
use Rattle.holdings.specs.declared.pages.HeldPage.{HeldPage}
use Rattle.holdings.specs.Inner.StripPlans.{AreCuts, IsCut}
use Rattle.holdings.proofs.Planned.Groups.{same_frames}

module _ (pages : List HeldPage) (at end : ℕ) (less : at < end) (upto : end ≤ length pages) (d : HeldPage)
    (same : list_all (λ h. h.frame == (get_or pages at d).frame) (slice_range pages at end) ≡ true) where
  -- the pages of a group are of one frame
  one_frame : (i : ℕ) → at ≤ i → i < end → (get_or pages i d).frame ≡ (get_or pages at d).frame
  one_frame i from before =
      let k = i - at in
      let back : at + k ≡ i = omega (arith, from) in
      let rest = length-drop at pages in
      let long : length (slice_range pages at end) ≡ end - at = length-take-le (end - at) (drop at pages) (omega (arith, rest, upto)) in
      let here : get_or (slice_range pages at end) k d ≡ get_or pages i d =
      get_or-take (end - at) (drop at pages) k d (omega (arith, from, before)) ∙ get_or-drop at pages k d ∙ ap (λ n. get_or pages n d) back in
      ap (λ (h : HeldPage). h.frame) (sym here) ∙ same_frames (slice_range pages at end) (get_or pages at d).frame same k d (omega (arith, long, from, before))

  -- so none goes past a cut
  pub not_past : (cut : ℕ) → at < cut → cut ≤ length pages → IsCut pages cut → end ≤ cut
  not_past cut before within is = ⊎_elim past not (cases_lt cut end)
    where
      past : cut < end → end ≤ cut
      past more =
          let before_it = one_frame (cut - 1) (omega (arith, before)) (omega (arith, more, before)) in
          let here = one_frame cut (omega (arith, before)) more in
          absurd (is d (omega (arith, before)) (omega (arith, more, upto)) (before_it ∙ sym here))

      not : end ≤ cut → end ≤ cut
      not least = least

  -- and where it ends is one
  pub ends_at_cut : ((e : HeldPage) → end < length pages → (get_or pages end e).frame ≡ (get_or pages at e).frame → ⊥) → IsCut pages end
  ends_at_cut ends = λ e some within equal. ends d within (ap (λ (h : HeldPage). h.frame) (read end e within) ∙ sym equal ∙ ap (λ (h : HeldPage). h.frame) (read' (end - 1) e (omega (arith, less, upto))) ∙ one_frame (end - 1) (omega (arith, less)) (omega (arith, less)))
    where
      default : (xs : List HeldPage) (i : ℕ) (a b : HeldPage) → i < length xs → get_or xs i a ≡ get_or xs i b
      default [] i a b w = absurd (omega (arith, w))
      default (x ∷ xs) zero a b w = refl
      default (x ∷ xs) (suc i) a b w = default xs i a b (omega (arith, w))

      read : (i : ℕ) (e : HeldPage) → i < length pages → get_or pages i d ≡ get_or pages i e
      read i e w = default pages i d e w

      read' : (i : ℕ) (e : HeldPage) → i < length pages → get_or pages i e ≡ get_or pages i d
      read' i e w = default pages i e d w

module _ (pages : List HeldPage) where
  -- the first cut
  pub first_cut : (cuts : List ℕ) → cuts ≡ 0 ∷ [] → AreCuts pages cuts 0
  first_cut cuts is = subst (λ cs. AreCuts pages cs 0) (sym is) (record {
    some = omega arith;
    first = refl;
    last = refl;
    rising = λ k less. absurd (omega (arith, less));
    within = λ k less. one k less;
    cut = λ k less d some within equal. let none = at_0 k less in absurd (omega (arith, none, some));
  })
    where
      at_0 : (k : ℕ) → k < 1 → slice_index (0 ∷ []) k ≡ 0
      at_0 zero less = refl
      at_0 (suc k) less = absurd (omega (arith, less))

      one : (k : ℕ) → k < 1 → slice_index (0 ∷ []) k ≤ length pages
      one k less = let none = at_0 k less in omega (arith, none)

  -- the end of all pages is one
  pub end_is_cut : IsCut pages (length pages)
  end_is_cut = λ d some within equal. absurd (omega (arith, within))

  -- one cut more
  pub next_cut : (cuts more : List ℕ) (end cut : ℕ) → AreCuts pages cuts end → more ≡ cuts ++ cut ∷ [] → end ≤ cut → cut ≤ length pages → IsCut pages cut → AreCuts pages more cut
  next_cut cuts more end cut are is rises within is_cut = subst (λ cs. AreCuts pages cs cut) (sym is) (record {
    some = omega (arith, long);
    first = earlier 0 are.some ∙ are.first;
    last = let at : length (cuts ++ cut ∷ []) - 1 ≡ length cuts = omega (arith, long) in ap (slice_index (cuts ++ cut ∷ [])) at ∙ newest;
    rising = λ k less. ⊎_elim
        (λ (low : k + 1 < length cuts). let a = earlier k (omega (arith, low)) in let b = earlier (k + 1) low in let r = are.rising k low in omega (arith, a, b, r))
        (λ (high : length cuts ≤ k + 1).
        let k_is : k ≡ length cuts - 1 = omega (arith, high, less, long, are.some) in
        let next_is : k + 1 ≡ length cuts = omega (arith, high, less, long) in
        let a = earlier k (omega (arith, k_is, are.some)) ∙ ap (slice_index cuts) k_is ∙ are.last in
        let b = ap (slice_index (cuts ++ cut ∷ [])) next_is ∙ newest in
        omega (arith, a, b, rises))
        (cases_lt (k + 1) (length cuts));
    within = λ k less. each (λ n. n ≤ length pages) within are.within k less;
    cut = λ k less. each (IsCut pages) is_cut are.cut k less;
  })
    where
      long : length (cuts ++ cut ∷ []) ≡ length cuts + 1
      long = length-append cuts (cut ∷ [])

      earlier : (k : ℕ) → k < length cuts → slice_index (cuts ++ cut ∷ []) k ≡ slice_index cuts k
      earlier k low = get_or_append_left cuts (cut ∷ []) 0 k low

      newest : slice_index (cuts ++ cut ∷ []) (length cuts) ≡ cut
      newest = get_or_at cuts cut [] 0 (length cuts) refl

      each : (P : ℕ → Type 0) → P cut → ((k : ℕ) → k < length cuts → P (slice_index cuts k)) → (k : ℕ) → k < length (cuts ++ cut ∷ []) → P (slice_index (cuts ++ cut ∷ []) k)
      each P new old k less =
          ⊎_elim
          (λ (low : k < length cuts). subst P (sym (earlier k low)) (old k low))
          (λ (high : length cuts ≤ k). let last : k ≡ length cuts = omega (arith, high, less, long) in subst P (sym (ap (slice_index (cuts ++ cut ∷ [])) last ∙ newest)) new)
          (cases_lt k (length cuts))
