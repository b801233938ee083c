-- An access of a page whose shard is there is answered by the next answer, another by a fault.
use Rattle.std.proofs.Common.{◌≡◌, ◌∙◌, ◌+◌, ◌<◌, ◌++◌, ◌∷◌, [], Bool, List, ℕ, length, drop, get_or, map, true, false, sym, ap, arith}
use Rattle.std.proofs.lemmas.Bool.{ltb_from_iff}
use Rattle.std.proofs.lemmas.List.{append_assoc, drop_more, drop-drop, get_or-drop}
use Rattle.fpage.specs.declared.rights.Access.{Access}
use Rattle.space.specs.declared.place.Place.{Place}
use Rattle.space.specs.declared.shards.Shards.{Shards}
use Rattle.holdings.specs.Inner.Faults.{is_there, with_faults}
use Rattle.holdings.proofs.Phases.Batches.{no_faults}
use Rattle.holdings.proofs.access.with_faults.Goals.{then-has+in_ok-push, else-has+in_ok-push-2}
use Rattle.holdings.proofs.access.with_faults.Goals as goal

module _ (s : Shards) (accesses : List (Place × Access)) (made : List Bool) (i next : ℕ) (d : Place × Access) (less : i < length accesses) (so_far all : List Bool) (is : so_far ++ with_faults (map (is_there s) (drop i accesses)) (drop next made) ≡ all) where
  abbrev flags : List Bool
  flags = map (is_there s) (drop (i + 1) accesses)

  -- with the access at hand in front
  ahead : (b : Bool) → is_there s (get_or accesses i d) ≡ b → so_far ++ with_faults (b ∷ flags) (drop next made) ≡ all
  ahead b there =
      ap (λ (h : Bool). so_far ++ with_faults (h ∷ flags) (drop next made)) (sym there)
      ∙ ap (λ l. so_far ++ with_faults (map (is_there s) l) (drop next made)) (sym (drop_more accesses i d less)) ∙ is

  answered : is_there s (get_or accesses i d) ≡ true → (so_far ++ get_or made next false ∷ []) ++ with_faults flags (drop (next + 1) made) ≡ all
  answered there =
      append_assoc so_far (get_or made next false ∷ []) (with_faults flags (drop (next + 1) made))
      ∙ (λ j. so_far ++ sym front j ∷ with_faults flags (sym (drop-drop 1 next made) j))
      ∙ ahead true there
    where
      front : get_or (drop next made) 0 false ≡ get_or made next false
      front = get_or-drop next made 0 false ∙ ap (λ k. get_or made k false) (omega arith)

  faulted : is_there s (get_or accesses i d) ≡ false → (so_far ++ false ∷ []) ++ with_faults flags (drop next made) ≡ all
  faulted there = append_assoc so_far (false ∷ []) (with_faults flags (drop next made)) ∙ ahead false there

pub loop-place-preserved : goal.loop-place-preserved
loop-place-preserved c =
    let s = c.args.shards.now in
    let made = c.args.made.items in
    let i = c.loop-place.place-index in
    let next = c.loop-place.next in
    let so_far = c.loop-place.answers.items in
    let flags = map (is_there s) (drop (i + 1) c.args.accesses.now) in
    let there : is_there s (get_or c.args.accesses.now i _) ≡ c.has.result = sym (ltb_from_iff c.has.ensures.there) in
    elim c.if-has.branch [
      | then-has+in_ok-push w ↦
          record {
            all =
                (λ j. (w.answers-is j).items ++ with_faults flags (drop (w.next-is j) made))
                ∙ ap (λ l. l ++ with_faults flags (drop (next + 1) made)) (w.in_ok-push.ensures.items ∙ ap (λ b. so_far ++ b ∷ []) (w.answer_at.ensures ∙ ap (λ bs. get_or bs next false) w.deref.ensures.value))
                ∙ answered s c.args.accesses.now made i next _ c.loop-place-test.true so_far _ c.loop-place.invariant.all (there ∙ w.if-has.true);
            few = omega (arith, w.next-is, c.loop-place.invariant.few);
          }
      | else-has+in_ok-push-2 w ↦
          record {
            all =
                (λ j. (w.answers-is j).items ++ with_faults flags (drop (w.next-is j) made))
                ∙ ap (λ l. l ++ with_faults flags (drop next made)) w.in_ok-push-2.ensures.items
                ∙ faulted s c.args.accesses.now made i next _ c.loop-place-test.true so_far _ c.loop-place.invariant.all (there ∙ w.if-has.false);
            few = omega (arith, w.next-is, c.loop-place.invariant.few);
          }
    ]

pub returns-then-len-accesses : goal.returns-then-len-accesses
returns-then-len-accesses c = no_faults c.args.shards.now c.args.accesses.now c.args.made.items (sym c.args.made.ok.0 ∙ sym c.len.ensures ∙ c.if-len-accesses.true) c.requires.each
