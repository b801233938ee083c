-- One turn more, of the first of the pieces that are left.
use Rattle.std.proofs.Common.{◌≡◌, ℕ, zero, suc, ◌+◌, ◌-◌, ◌<◌, ◌≤◌, ◌++◌, List, ◌∷◌, [], length, drop, Some, ◌∙◌, ap, sym, subst, arith}
use Rattle.std.specs.Prelude.{slice_get}
use Rattle.std.proofs.lemmas.List.{length-append}
use Rattle.std.specs.List.{All}
use Rattle.pieces.specs.declared.piece.Piece.{Piece}
use Rattle.turns.specs.Posts.{PostContent}
use Rattle.turns.specs.Turns.{new_turns}
use Rattle.turns.proofs.Dealing.{left, all_left, first_left, others_left, turns_more, turns_of}
use Rattle.turns.proofs.open.deal.Goals as goal

-- the first of what is left of a list
first_is : (ps : List Piece) (k : ℕ) (p : Piece) (rest : List Piece) → drop k ps ≡ p ∷ rest → (k < length ps) × (slice_get ps k ≡ Some p) × (drop (k + 1) ps ≡ rest)
first_is [] zero p rest is = absurd (cc is)
first_is [] (suc k) p rest is = absurd (cc is)
first_is (q ∷ qs) zero p rest is = (omega arith, cc is, cc is)
first_is (q ∷ qs) (suc k) p rest is =
    let more = first_is qs k p rest is in
    let next : suc k + 1 ≡ suc (k + 1) = omega arith in
    (omega (arith, more.0), more.1, ap (λ m. drop m (q ∷ qs)) next ∙ more.2)

-- where nothing is left of it
none_is : (ps : List Piece) (k : ℕ) → drop k ps ≡ [] → length ps ≤ k
none_is [] k is = omega arith
none_is (q ∷ qs) zero is = absurd (cc is)
none_is (q ∷ qs) (suc k) is = let rest = none_is qs k is in omega (arith, rest)

pub loop-piece-init : goal.loop-piece-init
loop-piece-init c =
    let none : length c.in_ok-turns.turns.items ≡ 0 = ap length c.in_ok-turns.ensures.items in (
      c.requires.seat,
      c.requires.all ∙ sym (all_left (length c.args.pieces.items)) ∙ ap (λ k. left k (length c.args.pieces.items - k)) (sym none),
      c.in_ok-turns.ensures.items ∙ ap (new_turns c.args.shared.now) (sym none),
      ap (λ k. drop k c.args.pieces.items) none ∙ sym c.new-left.ensures,
      omega (arith, none),
    )

pub new-requires-clause-first : goal.new-requires-clause-first
new-requires-clause-first c =
    let k = length c.loop-piece.turns.items in
    let first = first_is c.args.pieces.items k c.in-Some.piece c.next.new.self (c.loop-piece.invariant.3 ∙ c.in-Some.ensures) in
    let number = c.len-number.ensures ∙ c.loop-piece.turns.ok.0 in
    c.deal-own.ensures.first.1 ∙ first_left c.loop-piece.seat.me.0.counts k (length c.args.pieces.items) c.loop-piece.invariant.1 first.0 ∙ ap (λ n. (n, 0) ∷ []) (sym number)

pub new-requires-clause-piece : goal.new-requires-clause-piece
new-requires-clause-piece c =
    let k = length c.loop-piece.turns.items in
    let first = first_is c.args.pieces.items k c.in-Some.piece c.next.new.self (c.loop-piece.invariant.3 ∙ c.in-Some.ensures) in
    let number = c.len-number.ensures ∙ c.loop-piece.turns.ok.0 in
    ap (λ ps. slice_get ps c.len-number.result) c.requires.pieces ∙ ap (slice_get c.args.pieces.items) number ∙ first.1

pub loop-piece-preserved : goal.loop-piece-preserved
loop-piece-preserved c =
    let n = length c.args.pieces.items in
    let k = length c.loop-piece.turns.items in
    let first = first_is c.args.pieces.items k c.in-Some.piece c.next.new.self (c.loop-piece.invariant.3 ∙ c.in-Some.ensures) in
    let number = c.len-number.ensures ∙ c.loop-piece.turns.ok.0 in
    let more : length c.push.new.self.items ≡ k + 1 = ap length c.in_ok-push.ensures.items ∙ length-append c.loop-piece.turns.items (c.in_ok-new.field-0 ∷ []) in (
      c.deal-own.ensures.others.0,
      c.deal-own.ensures.others.1 ∙ others_left c.loop-piece.seat.me.0.counts k n c.loop-piece.invariant.1 first.0 ∙ ap (λ m. left m (n - m)) (sym more),
      c.in_ok-push.ensures.items ∙ ap (λ ts. ts ++ c.in_ok-new.field-0 ∷ []) c.loop-piece.invariant.2
          ∙ ap (λ t. new_turns c.args.shared.now k ++ t ∷ []) (c.in_ok-new.ensures ∙ ap (λ m. record { shared = c.args.shared.now; number = m; steps = 0 }) number)
          ∙ sym (turns_more c.args.shared.now k) ∙ ap (new_turns c.args.shared.now) (sym more),
      ap (λ m. drop m c.args.pieces.items) more ∙ first.2,
      omega (arith, more, first.0),
    )

pub loop-piece-smaller : goal.loop-piece-smaller
loop-piece-smaller c = let is = ap length c.in-Some.ensures in omega (arith, is)

pub returns-clause-turns : goal.returns-clause-turns
returns-clause-turns c =
    let past = none_is c.args.pieces.items (length c.loop-piece.turns.items) (c.loop-piece.invariant.3 ∙ c.in_default.ensures.0) in
    let all : length c.loop-piece.turns.items ≡ length c.args.pieces.items = omega (arith, past, c.loop-piece.invariant.4) in
    c.loop-piece.invariant.2 ∙ ap (new_turns c.args.shared.now) all

pub returns-clause-of : goal.returns-clause-of
returns-clause-of c = subst (All (λ (t : PostContent). t.shared ≡ c.args.shared.now)) (sym c.loop-piece.invariant.2) (turns_of c.args.shared.now 0 (length c.loop-piece.turns.items))
