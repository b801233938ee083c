-- The outcome of a pair, from words and trees.
use Rattle.std.proofs.Common.{◌≡◌, List, true, false, Bool, ◌&&◌, [], Option, Some, None, refl, sym, ap, ◌∙◌, if◌then◌else◌}
use Rattle.std.specs.Prelude.{Decides}
use Rattle.std.specs.Option.{option_and_then, option_map_or, is_some}
use Rattle.std.proofs.lemmas.Bool.{false_from_ne_true}
use Rattle.std.proofs.lemmas.Option.{same_Some}
use Rattle.std.proofs.Math.Bool.{and-false}
use Rattle.fpage.specs.Rights.{is_empty, meet}
use Rattle.fpage.specs.declared.rights.Rights.{Rights}
use Rattle.fpage.specs.declared.item.ItemKind.{ItemKind}
use Rattle.space.specs.declared.place.Place.{Place}
use Rattle.space.specs.declared.place.Entry.{Entry}
use Rattle.space.specs.declared.shards.Shards.{Shards}
use Rattle.space.specs.Place.{same_place}
use Rattle.space.specs.Shards.{entry_at}
use Rattle.space.proofs.Places.{same_is}
use Rattle.maptree.specs.Origins.{Origins, Shape, origin_in, LeadsTo}
use Rattle.model.specs.Definitions.Holdings.{only, is_held, origin_at}
use Rattle.model.specs.Definitions.Derived.{is_under}
use Rattle.model.specs.Laws.DerivationLaws.{LeadsInto}
use Rattle.model.specs.Definitions.Items.{Job, Fate, absent, norights, to_origin, extends, goes, is_map, has_origin, fate_of, fate}
use Rattle.model.proofs.Derivations.{under_is_a_chain}
use Rattle.holdings.specs.Places.{IsWithin}
use Rattle.holdings.specs.Inner.Held.{links_in, limits_in, holdings_in}
use Rattle.holdings.specs.Inner.Sound.{AreSound}
use Rattle.holdings.specs.Sending.{fate_of_outcome}
use Rattle.holdings.specs.Inner.Outcomes.{IsOutcomeIn}
use Rattle.holdings.specs.declared.outcome.Outcome.{Outcome}
use Rattle.holdings.specs.declared.outcome.Outcome.TheVariants as outcome
use Rattle.holdings.proofs.Contents.Holders.{absent_within, present_within, origin_within}
use Rattle.holdings.proofs.Trees.Chains.{chains_agree}
use Rattle.holdings.proofs.Trees.Under.{same_frame, leads_there, leads_back}
use Rattle.holdings.proofs.Stripping.Frames.{loose_from}

-- ---- in one tree

module _ (os : Origins) (kind : ItemKind) (source target : Place) where
  abbrev widens : Bool
  widens = is_map kind && option_map_or (same_place source) (origin_in os target) false

  pub is_origin_found : (b : Bool) → Decides b (LeadsTo os 1 source target) → b ≡ true → IsOutcomeIn os kind source target outcome.Origin
  is_origin_found b decides is = record { origin = λ to. refl; extends = λ none both. absurd (none (decides.0 is)); replaces = λ none both. absurd (none (decides.0 is)) }

  pub extends_found : (b c : Bool) → Decides b (LeadsTo os 1 source target) → b ≡ false → c ≡ widens → c ≡ true → IsOutcomeIn os kind source target outcome.Extends
  extends_found b c decides is_not same is = record { origin = λ to. absurd (cc (decides.1 to, is_not)); extends = λ none both. refl; replaces = λ none both. absurd (cc (both, same, is)) }

  pub replaces_found : (b c : Bool) → Decides b (LeadsTo os 1 source target) → b ≡ false → c ≡ widens → c ≡ false → IsOutcomeIn os kind source target outcome.Replaces
  replaces_found b c decides is_not same is = record { origin = λ to. absurd (cc (decides.1 to, is_not)); extends = λ none both. absurd (cc (both, same, is)); replaces = λ none both. refl }

-- ---- from words and trees

-- the outcome, by the tests in their order
abbrev chosen : Bool → Bool → Bool → Fate
chosen empty named widens = if empty then norights else if named then to_origin else if widens then extends else goes

module _ (shards : Shards) (trees : List Shape) (sound : AreSound shards trees) (kind : ItemKind) (rights : Rights) (source target : Place)
    (source_within : IsWithin (limits_in shards trees) source) (target_within : IsWithin (limits_in shards trees) target) where
  abbrev the_job : Job
  the_job = record { kind = kind; rights = rights; pairs = [] }

  abbrev the_fate : Fate
  the_fate = fate (holdings_in shards trees) the_job (source, target)

  -- whether the target holds something
  pub target_free : entry_at shards target ≡ None → is_held (holdings_in shards trees) target ≡ false
  target_free none = ap is_some (absent_within (limits_in shards trees) shards trees target target_within none)

  pub target_held : (k : Entry) → entry_at shards target ≡ Some k → is_held (holdings_in shards trees) target ≡ true
  target_held k replaced = ap is_some (present_within (limits_in shards trees) shards trees target target_within k replaced)

  pub source_absent : entry_at shards source ≡ None → absent ≡ the_fate
  source_absent none = sym (ap (fate_of (holdings_in shards trees) the_job (source, target)) (absent_within (limits_in shards trees) shards trees source source_within none))

  module _ (e : Entry) (stood : entry_at shards source ≡ Some e) where
    held_fate : the_fate ≡ chosen (is_empty (meet e.rights rights)) (is_held (holdings_in shards trees) target && is_under (holdings_in shards trees) (only target) source) (is_map kind && has_origin (holdings_in shards trees) target source)
    held_fate = ap (fate_of (holdings_in shards trees) the_job (source, target)) (present_within (limits_in shards trees) shards trees source source_within e stood)

    pub without_rights : is_empty (meet e.rights rights) ≡ true → norights ≡ the_fate
    without_rights empty = sym (held_fate ∙ rw empty refl)

    module _ (some : is_empty (meet e.rights rights) ≡ false) where
      goes_from : (is_held (holdings_in shards trees) target && is_under (holdings_in shards trees) (only target) source) ≡ false → has_origin (holdings_in shards trees) target source ≡ false → goes ≡ the_fate
      goes_from apart other = sym (held_fate ∙ rw (some, apart, other) (neither (is_map kind)))
        where
          neither : (b : Bool) → (if b && false then extends else goes) ≡ goes
          neither true = refl
          neither false = refl

      pub target_absent : entry_at shards target ≡ None → goes ≡ the_fate
      target_absent none =
          let free = absent_within (limits_in shards trees) shards trees target target_within none in
          goes_from (ap (λ m. is_some m && is_under (holdings_in shards trees) (only target) source) free) (ap (λ m. option_map_or (same_place source) (option_and_then (λ m. m.origin) m) false) free)

      module _ (k : Entry) (replaced : entry_at shards target ≡ Some k) where
        origin_frame : has_origin (holdings_in shards trees) target source ≡ true → e.frame ≡ k.frame
        origin_frame is = by (origin_at (holdings_in shards trees) target) refl is
          where
            by : (o : Option Place) → origin_at (holdings_in shards trees) target ≡ o → option_map_or (same_place source) o false ≡ true → e.frame ≡ k.frame
            by None from is = absurd (cc is)
            by (Some o) from is =
                let last = (chains_agree shards trees (loose_from shards trees sound) 1 target k target_within replaced).1 o (ap (option_and_then Some) from) in
                let one = same_Some e last.0 (sym stood ∙ ap (entry_at shards) (same_is source o is) ∙ last.1) in
                ap (λ (x : Entry). x.frame) one ∙ last.2

        pub other_frame : (k.frame ≡ e.frame → ⊥) → goes ≡ the_fate
        other_frame differ =
            let under = under_is_a_chain (holdings_in shards trees) sound.kept.lawful (only target) source in
            let not_under : is_under (holdings_in shards trees) (only target) source ≡ false = false_from_ne_true _ (λ is. differ (same_frame shards trees sound source target source_within e stood k replaced (under.0 is))) in
            goes_from (rw not_under (and-false (is_held (holdings_in shards trees) target))) (false_from_ne_true _ (λ is. differ (sym (origin_frame is))))

        -- with one frame the tree tells
        pub from_tree : k.frame ≡ e.frame → (o : Outcome) → IsOutcomeIn (links_in trees e.frame) kind source target o → fate_of_outcome o ≡ the_fate
        from_tree same o is =
            let h = holdings_in shards trees in
            let held = target_held k replaced in
            let from : has_origin h target source ≡ option_map_or (same_place source) (origin_in (links_in trees e.frame) target) false =
            ap (λ x. option_map_or (same_place source) x false) (origin_within (limits_in shards trees) shards trees target target_within k replaced ∙ ap (λ f. origin_in (links_in trees f) target) same) in
            by (is_under h (only target) source) (under_is_a_chain h sound.kept.lawful (only target) source) refl (option_map_or (same_place source) (origin_in (links_in trees e.frame) target) false) refl held from
          where
            not_both : false ≡ true → ⊥
            not_both same = cc same

            by : (under : Bool) → Decides under (LeadsInto (holdings_in shards trees) 1 (only target) source) → is_under (holdings_in shards trees) (only target) source ≡ under
                → (widens : Bool) → option_map_or (same_place source) (origin_in (links_in trees e.frame) target) false ≡ widens
                → is_held (holdings_in shards trees) target ≡ true → has_origin (holdings_in shards trees) target source ≡ option_map_or (same_place source) (origin_in (links_in trees e.frame) target) false → fate_of_outcome o ≡ the_fate
            by true decides under widens wide held from = ap fate_of_outcome (is.origin (leads_there shards trees sound source target source_within e stood (decides.0 refl))) ∙ sym (held_fate ∙ rw (some, held, under) refl)
            by false decides under widens wide held from =
                let none = λ (to : LeadsTo (links_in trees e.frame) 1 source target). not_both (decides.1 (leads_back shards trees sound source target source_within e stood to)) in
                next (is_map kind && option_map_or (same_place source) (origin_in (links_in trees e.frame) target) false) refl none
              where
                next : (b : Bool) → (is_map kind && option_map_or (same_place source) (origin_in (links_in trees e.frame) target) false) ≡ b → (LeadsTo (links_in trees e.frame) 1 source target → ⊥) → fate_of_outcome o ≡ the_fate
                next true both none = ap fate_of_outcome (is.extends none both) ∙ sym (held_fate ∙ rw (some, held, under, from, both) refl)
                next false both none = ap fate_of_outcome (is.replaces none both) ∙ sym (held_fate ∙ rw (some, held, under, from, both) refl)
