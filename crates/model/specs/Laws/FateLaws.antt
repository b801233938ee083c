-- What becomes of a pair of an item, by what is held and by chains of origins, and where it is counted.
use Rattle.std.specs.Prelude.{◌≡◌, ℕ, Bool, ◌⊎◌, ◌↔◌, List, ◌++◌, length, filter, IsTrue, Decides, Some, None, Ok}
use Rattle.std.specs.List.{flat_map}
use Rattle.fpage.specs.Rights.{has}
use Rattle.fpage.specs.Fpage.{Flexpage}
use Rattle.fpage.specs.declared.rights.Access.{Access}
use Rattle.fpage.specs.declared.item.Item.{Item}
use Rattle.fpage.specs.declared.item.ItemKind.TheVariants.{Map}
use Rattle.model.specs.Definitions.Holdings.{Held, Holdings, only, at}
use Rattle.model.specs.Definitions.Lawful.{is_lawful}
use Rattle.model.specs.Definitions.Items.{Job, Pair, job_of, Fate, absent, norights, to_origin, extends, goes, fate, Counts, add_counts, counts}
use Rattle.model.specs.Definitions.Calls.{Limits, send, sent}
use Rattle.model.specs.Definitions.Answers.{SendAnswer, send_answer, answer}
use Rattle.model.specs.Laws.DerivationLaws.{LeadsInto}
use Rattle.model.specs.Laws.SendLaws.{In, IsReplaced, total}

-- ---- outcomes

-- the source of a pair is not held
abbrev pub IsAbsent : Holdings → Pair → Type 0
IsAbsent h e = at h e.0 ≡ None

-- the source is held, and has no right in common with the send fpage
pub record SharesNoRight (h : Holdings) (job : Job) (e : Pair) : Type 0 where
  pub source : Held
  pub is : at h e.0 ≡ Some source
  pub none : (r : Access) → IsTrue (has source.rights r) → IsTrue (has job.rights r) → ⊥

-- the target is held, and the source derives from it, at any distance
pub record DerivesFromTarget (h : Holdings) (e : Pair) : Type 0 where
  pub target : Held
  pub is : at h e.1 ≡ Some target
  pub derives : LeadsInto h 1 (only e.1) e.0

-- the item maps, and the target is held with the source as its origin
pub record WasMappedBefore (h : Holdings) (job : Job) (e : Pair) : Type 0 where
  pub maps : job.kind ≡ Map
  pub target : Held
  pub is : at h e.1 ≡ Some target
  pub origin : target.origin ≡ Some e.0

-- an outcome is that of the first line that fits
pub record IsFirstFit (h : Holdings) (job : Job) (e : Pair) (outcome : Fate) : Type 0 where
  pub absent : (outcome ≡ absent) ↔ IsAbsent h e
  pub norights : (outcome ≡ norights) ↔ ((IsAbsent h e → ⊥) × SharesNoRight h job e)
  pub to_origin : (outcome ≡ to_origin) ↔ ((IsAbsent h e → ⊥) × (SharesNoRight h job e → ⊥) × DerivesFromTarget h e)
  pub extends : (outcome ≡ extends) ↔ ((IsAbsent h e → ⊥) × (SharesNoRight h job e → ⊥) × (DerivesFromTarget h e → ⊥) × WasMappedBefore h job e)
  pub goes : (outcome ≡ goes) ↔ ((IsAbsent h e → ⊥) × (SharesNoRight h job e → ⊥) × (DerivesFromTarget h e → ⊥) × (WasMappedBefore h job e → ⊥))

-- of every pair of any item
abbrev pub FateSays : Type 0
FateSays = (h : Holdings) → IsTrue (is_lawful h) → (job : Job) (e : Pair) → IsFirstFit h job e (fate h job e)

-- ---- counts

-- so many pairs of a list have a property: those that a test of it lets through
pub record AreThose (n : ℕ) (es : List Pair) (P : Pair → Type 0) : Type 0 where
  pub test : Pair → Bool
  pub decides : (e : Pair) → In e es → Decides (test e) (P e)
  pub count : n ≡ length (filter test es)

-- a pair goes or extends
abbrev pub GoesOrExtends : Holdings → Job → Pair → Type 0
GoesOrExtends h job e = (fate h job e ≡ goes) ⊎ (fate h job e ≡ extends)

-- which pairs of an item enter which count: a pair that goes or extends is lost exactly where its source is replaced
pub record IsCounted (h : Holdings) (job : Job) (c : Counts) : Type 0 where
  pub absent : AreThose c.absent job.pairs (λ e. fate h job e ≡ absent)
  pub norights : AreThose c.norights job.pairs (λ e. fate h job e ≡ norights)
  pub origin : AreThose c.origin job.pairs (λ e. fate h job e ≡ to_origin)
  pub lost : AreThose c.lost job.pairs (λ e. GoesOrExtends h job e × IsReplaced h job e.0)
  pub extended : AreThose c.extended job.pairs (λ e. (fate h job e ≡ extends) × (IsReplaced h job e.0 → ⊥))
  pub linked : AreThose c.linked job.pairs (λ e. (fate h job e ≡ goes) × (IsReplaced h job e.0 → ⊥))

-- of any item
abbrev pub CountsSay : Type 0
CountsSay = (h : Holdings) → IsTrue (is_lawful h) → (job : Job) → IsCounted h job (counts h job)

-- some items, and then others from what the first left, with the counts of both
abbrev pub then_others : SendAnswer → (Holdings → SendAnswer) → SendAnswer
then_others first others = let rest = others first.left in record { counts = add_counts first.counts rest.counts; left = rest.left }

-- a send of some items and then others is both, one after the other
abbrev pub SendsJoin : Type 0
SendsJoin =
    (from to : ℕ) (window : Flexpage) (items others : List Item) (h : Holdings)
    → send_answer from to window (items ++ others) h ≡ then_others (send_answer from to window items h) (send_answer from to window others)

-- the pairs of all items of a send
abbrev pub pairs_of_items : ℕ → ℕ → Flexpage → List Item → List Pair
pairs_of_items from to window items = flat_map (λ item. (job_of from to window item).pairs) items

-- the reply of a send counts each pair of each of its items once
abbrev pub RepliesAddUp : Type 0
RepliesAddUp =
    (limits : Limits) (h : Holdings) (from to : ℕ) (window : Flexpage) (items : List Item) (c : Counts)
    → (answer limits h (Ok (send from to window items))).reply ≡ sent c → total c ≡ length (pairs_of_items from to window items)
