-- How many pages a send has outcomes for.
use Rattle.std.proofs.Common.{◌≡◌, ℕ, zero, suc, ◌+◌, ◌-◌, ◌*◌, ◌^◌, ◌≤◌, List, [], ◌∷◌, length, refl, sym, ap, ◌∙◌, subst, arith, pow_mono}
use Rattle.std.specs.List.{All}
use Rattle.std.proofs.lemmas.List.Elements.{All-head, All-tail}
use Rattle.fpage.specs.Fpage.{Flexpage, IsFpageOf}
use Rattle.fpage.specs.declared.item.Item.{Item}
use Rattle.fpage.specs.Item.{pairs_of}
use Rattle.space.specs.declared.place.Place.{Place}
use Rattle.model.specs.Definitions.Answers.{item_answer, send_answer}
use Rattle.model.specs.Definitions.Holdings.{Holdings}
use Rattle.model.specs.Definitions.Items.{Counts, add_counts, job_of, next_page, pairs_from}
use Rattle.model.specs.Laws.SendLaws.{total}
use Rattle.model.proofs.Jobs.{total_counts}

pairs_length : (n : ℕ) (source target : Place) → length (pairs_from n source target) ≡ n
pairs_length zero source target = refl
pairs_length (suc n) source target = ap suc (pairs_length n (next_page source) (next_page target))

total_sum : (a b : Counts) → total (add_counts a b) ≡ total a + total b
total_sum a b = omega arith

-- an item has at most as many pairs as a space has pages
item_total : (bits : ℕ) → bits ≤ 32 → (from to : ℕ) (window : Flexpage) (item : Item) (h : Holdings) → IsFpageOf bits item.sent → total (item_answer h (job_of from to window item)).counts ≤ 2 ^ 20
item_total bits high from to window item h within =
    let job = job_of from to window item in
    let runs = pairs_of item window in
    let count = total_counts h job ∙ pairs_length runs.count (record { space = from; page = runs.source }) (record { space = to; page = runs.target }) in
    let few : bits - 12 ≤ 20 = omega (arith, high) in
    let pages : 2 ^ (bits - 12) ≤ 2 ^ 20 = pow_mono few in
    subst (λ n. n ≤ 2 ^ 20) (sym count) (omega (arith, pages, within))

-- all items together
pub send_total : (bits : ℕ) → bits ≤ 32 → (from to : ℕ) (window : Flexpage) (items : List Item) (h : Holdings) → All (λ item. IsFpageOf bits item.sent) items → total (send_answer from to window items h).counts ≤ 2 ^ 20 * length items
send_total bits high from to window [] h within = omega arith
send_total bits high from to window (item ∷ items) h within =
    let P : Item → Type 0 = λ i. IsFpageOf bits i.sent in
    let first = item_answer h (job_of from to window item) in
    let others = send_answer from to window items first.left in
    let one = item_total bits high from to window item h (All-head P item items within) in
    let rest = send_total bits high from to window items first.left (All-tail P item items within) in
    subst (λ n. n ≤ 2 ^ 20 * suc (length items)) (sym (total_sum first.counts others.counts)) (omega (arith, one, rest))
