-- One turn more is taken back; at the end all are.
use Rattle.std.proofs.Common.{rules, ◌≡◌, ℕ, ◌<◌, ◌≤◌, ◌++◌, ◌∷◌, [], length, ◌∙◌, ap, sym, subst, arith, append-nil, map-id}
use Rattle.std.specs.List.{All, flat_map}
use Rattle.std.specs.Option.{option_to_list}
use Rattle.std.proofs.lemmas.Iterator.Adapters.{YieldsList-from_vec}
use Rattle.std.proofs.lemmas.Iterator.Consumers.{YieldsList-end}
use Rattle.turns.specs.Posts.{PostContent}
use Rattle.turns.specs.SharedWords.{SharedContent, IsSeat}
use Rattle.turns.specs.Closing.{counts_of, unended_of, AreAll}
use Rattle.turns.specs.Turns.{done_of}
use Rattle.turns.specs.Views.{names_in}
use Rattle.turns.proofs.Ending.{counts_more, below_more, done_more, unended_more, room_for, is_done, not_done, named_all}
use Rattle.turns.proofs.HandedIn.{AreWhole, whole}
use Rattle.turns.proofs.open.Open.close.Goals as goal
use Rattle.turns.proofs.open.Open.close.Goals.{After-learn_has_once, After-drop-self-inside-2}

-- the counts of the seat, with those of the turn
counts_now : (c : After-learn_has_once) → c.learn_has_once.new.seat.me.0.counts ≡ counts_of (c.loop-turn.yielded ++ c.in-Some.turn ∷ [])
counts_now c =
    ap (λ m. m.0.counts) c.learn_has_once.ensures.same.1 ∙ c.collect.ensures.1 ∙ ap (λ cs. cs ++ c.end-other.result.0.me.0.counts) c.loop-turn.invariant.counts
    ∙ ap (λ cs. counts_of c.loop-turn.yielded ++ cs) c.end-other.ensures.seat.1 ∙ sym (counts_more c.loop-turn.yielded c.in-Some.turn)

-- none is there twice
once_now : (c : After-learn_has_once) → (p : ℕ) → names_in p (counts_of (c.loop-turn.yielded ++ c.in-Some.turn ∷ [])) ≤ 1
once_now c p = subst (λ cs. names_in p cs ≤ 1) (counts_now c) (c.learn_has_once.ensures.once p)

room : (c : After-learn_has_once) → (length (flat_map done_of c.loop-turn.yielded) < length c.self.inside.shared.opening.pieces) × (length (flat_map unended_of c.loop-turn.yielded) < length c.self.inside.shared.opening.pieces)
room c =
    room_for (length c.self.inside.shared.opening.pieces) c.loop-turn.yielded c.in-Some.turn (below_more (length c.self.inside.shared.opening.pieces) c.loop-turn.yielded c.in-Some.turn c.loop-turn.invariant.below c.end-other.ensures.below)
    (once_now c)

pub push_reserved-requires : goal.push_reserved-requires
push_reserved-requires c =
    let there = room ((goal.at.push_reserved-requires c).After-learn_has_once) in
    let few : length c.loop-turn.dones.items < length c.self.inside.shared.opening.pieces = subst (λ ds. length ds < length c.self.inside.shared.opening.pieces) (sym c.loop-turn.invariant.done) there.0 in
    omega (arith, few, c.loop-turn.invariant.room_done, c.loop-turn.dones.ok.0)

pub loop-turn-preserved-in-Some-done : goal.loop-turn-preserved-in-Some-done
loop-turn-preserved-in-Some-done c =
    let now = counts_now ((goal.at.loop-turn-preserved-in-Some-done c).After-learn_has_once) in
    let s = c.self.inside.shared in
    let ts = c.loop-turn.yielded in
    let t = c.in-Some.turn in
    record {
      seat = subst (λ m. IsSeat s c.learn_has_once.new.seat.table_id m) (sym c.learn_has_once.ensures.same.1) (subst (λ id. IsSeat s id c.collect.new.seat.me) (sym c.learn_has_once.ensures.same.0) c.collect.ensures.0);
      counts = now;
      below = below_more (length s.opening.pieces) ts t c.loop-turn.invariant.below c.end-other.ensures.below;
      once = once_now ((goal.at.loop-turn-preserved-in-Some-done c).After-learn_has_once);
      done =
          c.push_reserved.ensures.items ∙ ap (λ ds. ds ++ c.in-Some-done.done ∷ []) c.loop-turn.invariant.done
          ∙ ap (λ ds. flat_map done_of ts ++ ds) (sym (ap option_to_list c.in-Some-done.is) ∙ c.end-other.ensures.done) ∙ sym (done_more ts t);
      some_unended =
          c.loop-turn.invariant.some_unended ∙ sym (append-nil (flat_map unended_of ts)) ∙ ap (λ us. flat_map unended_of ts ++ us) (sym (is_done t c.end-other.result.1 c.in-Some-done.done c.in-Some-done.is c.end-other.ensures.done)) ∙ sym (unended_more ts t);
      room_done = subst (λ n. length s.opening.pieces ≤ n) (sym c.push_reserved.ensures.capacity) c.loop-turn.invariant.room_done;
      room_unended = c.loop-turn.invariant.room_unended;
    }

pub push_reserved-requires-in-None-done : goal.push_reserved-requires-in-None-done
push_reserved-requires-in-None-done c =
    let there = room ((goal.at.push_reserved-requires-in-None-done c).After-learn_has_once) in
    let few : length c.loop-turn.unended.items < length c.self.inside.shared.opening.pieces = subst (λ us. length us < length c.self.inside.shared.opening.pieces) (sym c.loop-turn.invariant.some_unended) there.1 in
    omega (arith, few, c.loop-turn.invariant.room_unended, c.loop-turn.unended.ok.0)

pub loop-turn-preserved : goal.loop-turn-preserved
loop-turn-preserved c =
    let now = counts_now ((goal.at.loop-turn-preserved c).After-learn_has_once) in
    let s = c.self.inside.shared in
    let ts = c.loop-turn.yielded in
    let t = c.in-Some.turn in
    record {
      seat = subst (λ m. IsSeat s c.learn_has_once.new.seat.table_id m) (sym c.learn_has_once.ensures.same.1) (subst (λ id. IsSeat s id c.collect.new.seat.me) (sym c.learn_has_once.ensures.same.0) c.collect.ensures.0);
      counts = now;
      below = below_more (length s.opening.pieces) ts t c.loop-turn.invariant.below c.end-other.ensures.below;
      once = once_now ((goal.at.loop-turn-preserved c).After-learn_has_once);
      done =
          c.loop-turn.invariant.done ∙ sym (append-nil (flat_map done_of ts)) ∙ ap (λ ds. flat_map done_of ts ++ ds) (sym (ap option_to_list c.in-None-done.is) ∙ c.end-other.ensures.done) ∙ sym (done_more ts t);
      some_unended =
          c.push_reserved-in-None-done.ensures.items ∙ ap (λ us. us ++ record { piece = c.piece-piece.result; steps = c.steps-steps.result } ∷ []) c.loop-turn.invariant.some_unended
          ∙ (λ i. flat_map unended_of ts ++ record { piece = c.piece-piece.ensures.number i; steps = c.steps-steps.ensures i } ∷ [])
          ∙ ap (λ us. flat_map unended_of ts ++ us) (sym (not_done t c.end-other.result.1 c.in-None-done.is c.end-other.ensures.done c.piece-piece.ensures.below)) ∙ sym (unended_more ts t);
      room_done = c.loop-turn.invariant.room_done;
      room_unended = subst (λ n. length s.opening.pieces ≤ n) (sym c.push_reserved-in-None-done.ensures.capacity) c.loop-turn.invariant.room_unended;
    }

pub finish-requires-clause-all : goal.finish-requires-clause-all
finish-requires-clause-all c =
    let road = YieldsList-from_vec c.args.turns.items (search rules) (search rules) in
    let end = YieldsList-end road c.loop-turn.yielded c.loop-turn.turn-iterator c.loop-turn.yielded_by c.next.result c.next.new.self c.in-None.is c.next.ensures.steps in
    let all = subst (AreAll c.self.inside.shared) c.deref.ensures.value (c.is_one_wanting.ensures.no c.if-is_one_wanting.false) in
    let given : c.loop-turn.yielded ≡ c.args.turns.items = sym (map-id c.loop-turn.yielded) ∙ end.0 in
    λ p less.
    subst (λ cs. 0 < names_in p cs) (sym (c.loop-turn.invariant.counts ∙ ap counts_of given)) (named_all c.self.inside.shared c.args.turns.items all p less)

-- each piece is in one of the two lists
handed : (c : After-drop-self-inside-2) → AreWhole (length c.args.self.opening.pieces) c.loop-turn.dones.items c.loop-turn.unended.items
handed c =
    let road = YieldsList-from_vec c.args.turns.items (search rules) (search rules) in
    let end = YieldsList-end road c.loop-turn.yielded c.loop-turn.turn-iterator c.loop-turn.yielded_by c.next.result c.next.new.self c.in-None.is c.next.ensures.steps in
    let ts = c.loop-turn.yielded in
    let n = length c.args.self.opening.pieces in
    let given : ts ≡ c.args.turns.items = sym (map-id ts) ∙ end.0 in
    let all = subst (AreAll c.self.inside.shared) (c.deref.ensures.value ∙ sym given) (c.is_one_wanting.ensures.no c.if-is_one_wanting.false) in
    let lists = whole c.args.self ts
    (subst (All (λ (t : PostContent). t.shared ≡ c.args.self)) (sym given) c.requires.of)
    (subst (λ (s : SharedContent). All (λ k. k.0 < length s.opening.pieces) (counts_of ts)) c.self.view_is c.loop-turn.invariant.below)
    c.loop-turn.invariant.once
    (subst (λ (s : SharedContent). AreAll s ts) c.self.view_is all) in
    subst (λ us. AreWhole n c.loop-turn.dones.items us) (sym c.loop-turn.invariant.some_unended) (subst (λ ds. AreWhole n ds (flat_map unended_of ts)) (sym c.loop-turn.invariant.done) lists)

pub returns-clause-once : goal.returns-clause-once
returns-clause-once c = (handed c).once

pub returns-clause-each : goal.returns-clause-each
returns-clause-each c = (handed c).each

pub returns-clause-how_many : goal.returns-clause-how_many
returns-clause-how_many c = (handed c).many
