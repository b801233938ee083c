-- The pages of an item lie in the fpages that it names.
use Rattle.std.proofs.Common.{◌≡◌, ℕ, zero, suc, ◌+◌, ◌*◌, ◌<◌, ◌≤◌, true, false, Bool, ◌&&◌, ◌==◌, nat_le, nat_lt, if◌then◌else◌, refl, sym, ap, ◌∙◌, subst, arith}
use Rattle.std.specs.Prelude.{min}
use Rattle.std.proofs.lemmas.Bool.Decides.{nat_tests}
use Rattle.fpage.specs.Fpage.{Flexpage, IsFpageOf, pages_of_space, is_page_of}
use Rattle.fpage.specs.Item.{is_pair, is_pair_of, pairs_of, run_start, block_of}
use Rattle.fpage.specs.declared.item.Item.{Item}
use Rattle.fpage.specs.declared.pairing.Pairing.{Pairing}

module _ (bits : ℕ) (item : Item) (window : Flexpage) (runs : Pairing) (is : runs ≡ pairs_of item window) (pairs : (p q : ℕ) → is_pair_of runs p q ≡ is_pair item window p q)
    (some : 0 < window.count) (window_within : IsFpageOf bits window) (sent_within : IsFpageOf bits item.sent) where
  last_is : (s t c : ℕ) → (nat_le s (s + c) && nat_lt (s + c) (s + suc c) && (s + c + t == t + c + s)) ≡ true
  last_is s t c = grind (arith, nat_tests)

  both_pages : (a b c d e : Bool) → (a && b && c && d && e) ≡ true → (a ≡ true) × (b ≡ true)
  both_pages true true c d e all = (refl, refl)
  both_pages true false c d e all = absurd (cc all)
  both_pages false b c d e all = absurd (cc all)

  last_page : (f : Flexpage) → IsFpageOf bits f → (s c : ℕ) → is_page_of f (s + c) ≡ true → s + suc c ≤ pages_of_space bits
  last_page f within s c is = by f.first f.count (pages_of_space bits) within is
    where
      by : (first count most : ℕ) → first + count ≤ most → (nat_le first (s + c) && nat_lt (s + c) (first + count)) ≡ true → s + suc c ≤ most
      by first count most less page = grind (arith, nat_tests)

  first_page : (f : Flexpage) → IsFpageOf bits f → run_start item.base f 0 + 0 ≤ pages_of_space bits
  first_page f within = by f.first f.count (pages_of_space bits) (nat_lt 0 f.count) (block_of item.base f 0) within
    where
      by : (first count most : ℕ) (b : Bool) (block : ℕ) → first + count ≤ most → (if b then first + 0 * block else first) + 0 ≤ most
      by first count most true block less = omega (arith, less)
      by first count most false block less = omega (arith, less)

  no_more : (n : ℕ) → n ≡ runs.count → (runs.source + n ≤ pages_of_space bits) × (runs.target + n ≤ pages_of_space bits)
  no_more zero none =
      let size : min item.sent.count window.count ≡ 0 = ap (λ (r : Pairing). r.count) (sym is) ∙ sym none in
      let source : runs.source ≡ run_start item.base item.sent 0 = ap (λ (r : Pairing). r.source) is ∙ ap (run_start item.base item.sent) size in
      let target : runs.target ≡ run_start item.base window 0 = ap (λ (r : Pairing). r.target) is ∙ ap (run_start item.base window) size in
      (subst (λ s. s + 0 ≤ pages_of_space bits) (sym source) (first_page item.sent sent_within), subst (λ s. s + 0 ≤ pages_of_space bits) (sym target) (first_page window window_within))
  no_more (suc c) same =
      let listed : is_pair_of runs (runs.source + c) (runs.target + c) ≡ true =
      ap (λ n. nat_le runs.source (runs.source + c) && nat_lt (runs.source + c) (runs.source + n) && (runs.source + c + runs.target == runs.target + c + runs.source)) (sym same) ∙ last_is runs.source runs.target c in
      let pages = both_pages (is_page_of item.sent (runs.source + c)) (is_page_of window (runs.target + c)) _ _ _ (sym (pairs (runs.source + c) (runs.target + c)) ∙ listed) in
      (last_page item.sent sent_within runs.source c pages.0, last_page window window_within runs.target c pages.1)

  pub pages_within : (runs.source + runs.count ≤ pages_of_space bits) × (runs.target + runs.count ≤ pages_of_space bits)
  pages_within = no_more runs.count refl
