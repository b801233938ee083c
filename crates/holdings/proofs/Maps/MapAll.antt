-- The pages of a MapItem so far, and those to come.
use Rattle.std.proofs.Common.{◌≡◌, ℕ, ◌+◌, ◌<◌, ◌≤◌, false, [], ◌∷◌, List, length, drop, get_or, refl, sym, ap, ◌∙◌, subst}
use Rattle.std.specs.List.{All}
use Rattle.std.proofs.lemmas.List.{drop_more, drop_all}
use Rattle.std.proofs.lemmas.List.Elements.{All-cons, All-head, All-tail, All-nil}
use Rattle.fpage.specs.declared.rights.Rights.{Rights}
use Rattle.fpage.specs.declared.item.ItemKind.TheVariants.{Map}
use Rattle.space.specs.declared.place.Place.{Place}
use Rattle.space.specs.declared.shards.Shards.{Shards}
use Rattle.space.specs.Place.{same_place}
use Rattle.maptree.specs.Origins.{Shape}
use Rattle.model.specs.Definitions.Holdings.{Holdings, at}
use Rattle.model.specs.Definitions.Calls.{Limits}
use Rattle.model.specs.Definitions.Items.{Job, Fate, absent, norights, to_origin, extends, goes}
use Rattle.model.specs.Definitions.Map.{map_pair, link, extend}
use Rattle.model.proofs.Puts.{apart_places}
use Rattle.model.proofs.Maps.{pair_other}
use Rattle.holdings.specs.declared.transfer.Transfer.{Transfer}
use Rattle.holdings.specs.Inner.Held.{limits_in, holdings_in}
use Rattle.holdings.specs.Inner.Sound.{AreSound}
use Rattle.holdings.specs.Sending.{IsReady, ArePaired, fate_in, pair_of, map_transfers}

-- ---- lists of transfers

-- the sources of paired transfers lie in one space
pub sources_in : (from to : ℕ) (ts : List Transfer) → ArePaired from to ts → All (λ t. t.source.space ≡ from) ts
sources_in from to [] paired = All-nil (λ t. t.source.space ≡ from)
sources_in from to (t ∷ ts) paired = All-cons (λ t. t.source.space ≡ from) t ts paired.0 (sources_in from to ts paired.3)

-- where each test holds of both lists of facts
pub All-both : {A : Type 0} (P Q R : A → Type 0) (xs : List A) → ((x : A) → P x → Q x → R x) → All P xs → All Q xs → All R xs
All-both P Q R xs step p q i d within = step (get_or xs i d) (p i d within) (q i d within)

-- ---- what both holdings say of a pair is the same

abbrev pub AgreeOn : Holdings → Holdings → Transfer → Type 0
AgreeOn h now t = (at now t.source ≡ at h t.source) × (at now t.target ≡ at h t.target)

module _ (h now : Holdings) (rights : Rights) (t : Transfer) (agree : AgreeOn h now t) where
  abbrev the_job : Job
  the_job = record { kind = Map; rights = rights; pairs = [] }

  pub ready_now : IsReady h rights t → IsReady now rights t
  ready_now ready = record {
    some = λ m held. ready.some m (sym agree.0 ∙ held);
    free = λ going. agree.1 ∙ ready.free going;
    derived = λ m extending held. let d = ready.derived m extending (sym agree.0 ∙ held) in (d.0, agree.1 ∙ d.1, d.2);
  }

  pub same_pair : (f : Fate) → map_pair now the_job (pair_of t) f now ≡ map_pair h the_job (pair_of t) f now
  same_pair absent = refl
  same_pair norights = refl
  same_pair to_origin = refl
  same_pair extends = λ i. extend the_job (pair_of t) (agree.0 i) (agree.1 i) now
  same_pair goes = ap (λ m. link the_job (pair_of t) m now) agree.0

-- ---- the pages so far

pub record AreMapped (limits : Limits) (h : Holdings) (rights : Rights) (from to : ℕ) (ts : List Transfer) (i : ℕ) (shards : Shards) (trees : List Shape) : Type 0 where
  pub sound : AreSound shards trees
  pub same_limits : limits_in shards trees ≡ limits
  pub left : map_transfers h (record { kind = Map; rights = rights; pairs = [] }) (drop i ts) (holdings_in shards trees) ≡ map_transfers h (record { kind = Map; rights = rights; pairs = [] }) ts h
  pub paired : ArePaired from to (drop i ts)
  pub agree : All (AgreeOn h (holdings_in shards trees)) (drop i ts)

module _ (limits : Limits) (h : Holdings) (rights : Rights) (from to : ℕ) (differ : from ≡ to → ⊥) (ts : List Transfer) where
  pub none_mapped : (shards : Shards) (trees : List Shape) → AreSound shards trees → limits_in shards trees ≡ limits → holdings_in shards trees ≡ h → ArePaired from to ts → AreMapped limits h rights from to ts 0 shards trees
  none_mapped shards trees sound same_limits same paired = record {
    sound = sound;
    same_limits = same_limits;
    left = ap (map_transfers h (record { kind = Map; rights = rights; pairs = [] }) ts) same;
    paired = paired;
    agree = λ k d within. (ap (λ g. at g (get_or ts k d).source) same, ap (λ g. at g (get_or ts k d).target) same);
  }

  module _ (i : ℕ) (d : Transfer) (within : i < length ts) (shards : Shards) (trees : List Shape) (so_far : AreMapped limits h rights from to ts i shards trees) where
    abbrev t : Transfer
    t = get_or ts i d

    abbrev rest : List Transfer
    rest = drop (i + 1) ts

    first_and_rest : drop i ts ≡ t ∷ rest
    first_and_rest = drop_more ts i d within

    pub agree_here : AgreeOn h (holdings_in shards trees) t
    agree_here = All-head (AgreeOn h (holdings_in shards trees)) t rest (subst (All (AgreeOn h (holdings_in shards trees))) first_and_rest so_far.agree)

    paired_here : ArePaired from to (t ∷ rest)
    paired_here = subst (ArePaired from to) first_and_rest so_far.paired

    pub one_mapped : (next : Shards) (next_trees : List Shape) → AreSound next next_trees → limits_in next next_trees ≡ limits_in shards trees
        → holdings_in next next_trees ≡ map_pair (holdings_in shards trees) (record { kind = Map; rights = rights; pairs = [] }) (pair_of t) (fate_in t) (holdings_in shards trees)
        → AreMapped limits h rights from to ts (i + 1) next next_trees
    one_mapped next next_trees sound same_limits left =
        let job : Job = record { kind = Map; rights = rights; pairs = [] } in
        let now = holdings_in shards trees in
        let after : holdings_in next next_trees ≡ map_pair h job (pair_of t) (fate_in t) now = left ∙ same_pair h now rights t agree_here (fate_in t) in
        let others = subst (All (AgreeOn h now)) first_and_rest so_far.agree in
        record {
          sound = sound;
          same_limits = same_limits ∙ so_far.same_limits;
          left = ap (map_transfers h job rest) after ∙ sym (ap (λ xs. map_transfers h job xs now) first_and_rest) ∙ so_far.left;
          paired = paired_here.3;
          agree = All-both (AgreeOn h now) (λ x. (x.source.space ≡ from) × (same_place x.target t.target ≡ false)) (AgreeOn h (holdings_in next next_trees)) rest
              (λ x was apart.
              let elsewhere : same_place x.source t.target ≡ false = apart_places x.source t.target (λ same. differ (sym apart.0 ∙ ap (λ (p : Place). p.space) same ∙ paired_here.1)) in (
                ap (λ g. at g x.source) after ∙ pair_other job (pair_of t) now x.source elsewhere h (fate_in t) ∙ was.0,
                ap (λ g. at g x.target) after ∙ pair_other job (pair_of t) now x.target apart.1 h (fate_in t) ∙ was.1,
              ))
              (All-tail (AgreeOn h now) t rest others)
              (All-both (λ x. x.source.space ≡ from) (λ x. (same_place x.source t.source ≡ false) × (same_place x.target t.target ≡ false)) (λ x. (x.source.space ≡ from) × (same_place x.target t.target ≡ false)) rest
              (λ x space apart. (space, apart.1)) (sources_in from to rest paired_here.3) paired_here.2);
        }

  pub all_mapped : (i : ℕ) (shards : Shards) (trees : List Shape) → length ts ≤ i → AreMapped limits h rights from to ts i shards trees
      → holdings_in shards trees ≡ map_transfers h (record { kind = Map; rights = rights; pairs = [] }) ts h
  all_mapped i shards trees past so_far =
      let none : drop i ts ≡ [] = drop_all i ts past in
      sym (ap (λ xs. map_transfers h (record { kind = Map; rights = rights; pairs = [] }) xs (holdings_in shards trees)) none) ∙ so_far.left
