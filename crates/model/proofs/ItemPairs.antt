-- The pairs of an item.
use Rattle.std.proofs.Common.{◌≡◌, ℕ, true, false, Bool, Result, Ok, Err, refl, sym, ◌∙◌, if◌then◌else◌}
use Rattle.fpage.specs.Fpage.{Flexpage, read_fpage}
use Rattle.fpage.specs.Item.{is_item_word, item_with, read_item, is_pair, is_pair_of, pairs_of}
use Rattle.fpage.specs.declared.item.Item.{Item}
use Rattle.fpage.specs.declared.error.FpageError.{FpageError}
use Rattle.fpage.specs.declared.error.FpageError.TheVariants.{NotAnItem}
use Rattle.fpage.proofs.Pairings.{same_pairs}
use Rattle.fpage.proofs.ReadFpages.{aligned_read}
use Rattle.model.specs.Definitions.Items.{Pair}
use Rattle.model.specs.Laws.SendLaws.{PairsOfAnItem}
use Rattle.model.proofs.Jobs.{job_pair_is, job_pair_in}

-- the send fpage of an item was read
sent_read : (bits first second : ℕ) (item : Item) → read_item bits first second ≡ Ok item → read_fpage bits second ≡ Ok item.sent
sent_read bits first second item is = by (is_item_word first) (read_fpage bits second) refl is
  where
    by : (b : Bool) (r : Result Flexpage FpageError) → read_fpage bits second ≡ r → (if b then item_with first r else Err NotAnItem) ≡ Ok item → read_fpage bits second ≡ Ok item.sent
    by true (Ok f) read is = read ∙ cc is
    by true (Err e) read is = absurd (cc is)
    by false r read is = absurd (cc is)

pub pairs_of_an_item : PairsOfAnItem
pairs_of_an_item bits first second third item window item_is window_is from to e = (
  λ k. let c = job_pair_is from to window item e k in (c.0, c.1, same e ∙ c.2),
  λ c. job_pair_in from to window item e c.0 c.1 (sym (same e) ∙ c.2),
)
  where
    same : (e : Pair) → is_pair item window e.0.page e.1.page ≡ is_pair_of (pairs_of item window) e.0.page e.1.page
    same e = same_pairs item window e.0.page e.1.page (aligned_read bits second item.sent (sent_read bits first second item item_is)) (aligned_read bits third window window_is)
