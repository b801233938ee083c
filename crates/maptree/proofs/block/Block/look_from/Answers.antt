-- A place that is found behind a position, or before it, stands there.
use Rattle.std.proofs.Common.{◌≡◌, ℕ, ◌+◌, true, List, length, take, get_or, Option, Some, None, get_or-drop, sym, ap, ◌∙◌, subst, arith}
use Rattle.std.specs.Prelude.{position, IfSome}
use Rattle.std.proofs.lemmas.List.{get_or-take}
use Rattle.std.proofs.lemmas.List.Quantifiers.{position-Some}
use Rattle.space.specs.declared.place.Place.{Place}
use Rattle.space.specs.Place.{same_place}
use Rattle.space.specs.declared.node.Node.{Node}
use Rattle.maptree.proofs.block.Block.look_from.Goals as goal

pub returns-in-Some-clause-there : goal.returns-in-Some-clause-there
returns-in-Some-clause-there c = λ d.
    let p = c.args.place in
    let list = c.deref.result.now in
    let i = c.in-Some.i in
    let same : list ≡ c.args.self.now = c.deref.ensures.value ∙ c.self.view_is in
    let at = position-Some (λ (n : Node). same_place p n.place) c.split_at.result.1.now i d (sym c.placed.ensures ∙ c.in-Some.is) in
    let read : get_or c.split_at.result.1.now i d ≡ get_or c.args.self.now (length c.split_at.result.0.now + i) d =
    ap (λ xs. get_or xs i d) c.split_at.ensures.back ∙ get_or-drop c.min.result list i d ∙ (λ k. get_or (same k) (sym c.split_at.ensures.front_len k + i) d) in
    sym (ap (λ (n : Node). same_place p n.place) read) ∙ at.1

-- what is found in the front of a list
in_front : (list : List Node) (p : Place) (m : ℕ) (o : Option ℕ) → position (λ n. same_place p n.place) (take m list) ≡ o → length (take m list) ≡ m
    → (d : Node) → IfSome o (λ i. same_place p (get_or list i d).place ≡ true)
in_front list p m None found size d = tt
in_front list p m (Some i) found size d =
    let at = position-Some (λ (n : Node). same_place p n.place) (take m list) i d found in
    let within = at.0 in
    ap (λ (n : Node). same_place p n.place) (sym (get_or-take m list i d (omega (arith, within, size)))) ∙ at.1

pub returns-clause-there : goal.returns-clause-there
returns-clause-there c = λ d.
    let p = c.args.place in
    let list = c.deref.result.now in
    let same : list ≡ c.args.self.now = c.deref.ensures.value ∙ c.self.view_is in
    let front = c.split_at.ensures.front in
    subst (λ xs. IfSome c.placed-2.result (λ i. same_place p (get_or xs i d).place ≡ true)) same
    (in_front list p c.min.result c.placed-2.result (sym (c.placed-2.ensures ∙ ap (position (λ n. same_place p n.place)) front)) (sym (ap length front) ∙ c.split_at.ensures.front_len) d)
