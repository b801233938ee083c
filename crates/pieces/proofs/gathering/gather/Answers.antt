-- The nodes go to the places that were found for them.
use Rattle.std.proofs.Common.{arith, ◌∙◌, sym, ap, length, map, []}
use Rattle.std.specs.List.{flat_map}
use Rattle.std.proofs.lemmas.List.{with_items_is}
use Rattle.space.specs.Slices.{nodes_of}
use Rattle.pieces.specs.Values.{Value}
use Rattle.pieces.specs.Gathering.{all_found, has_stranger, fault_in, union_of}
use Rattle.pieces.proofs.Placed.{no_stranger, slices_length}
use Rattle.pieces.proofs.gathering.gather.Goals as goal

pub take_slices-requires-clause-within : goal.take_slices-requires-clause-within
take_slices-requires-clause-within c =
    let l = slices_length c.args.pieces c.in-Ok.gathered.slices.items c.in-Ok.ensures.slices in
    ap (λ n. has_stranger n c.args.given.items) (ap length c.deref_mut.ensures.value ∙ l)
    ∙ no_stranger c.args.pieces c.args.given.items (sym (ap (fault_in c.args.pieces) c.deref.ensures.value) ∙ c.in-Ok.ensures.ok)

pub take_slices-requires-clause-empty : goal.take_slices-requires-clause-empty
take_slices-requires-clause-empty c =
    let l = slices_length c.args.pieces c.in-Ok.gathered.slices.items c.in-Ok.ensures.slices in
    ap nodes_of c.deref_mut.ensures.value ∙ c.in-Ok.ensures.slices ∙ sym (ap (λ n. map (λ (v : Value). v.kept) (all_found n [])) (ap length c.deref_mut.ensures.value ∙ l))

pub returns-in-Ok-clause-gathered : goal.returns-in-Ok-clause-gathered
returns-in-Ok-clause-gathered c =
    let l = slices_length c.args.pieces c.in-Ok.gathered.slices.items c.in-Ok.ensures.slices in
    let given = c.deref.ensures.value in
    let items = with_items_is c.in-Ok.gathered.slices c.take_slices.new.slices (omega (arith, c.take_slices.auto.slices, c.deref_mut.ensures.len)) in
    record {
      slices = ap nodes_of items ∙ c.take_slices.ensures ∙ ap (λ n. map (λ (v : Value). v.kept) (all_found n c.args.given.items)) (ap length c.deref_mut.ensures.value ∙ l);
      status = c.in-Ok.ensures.status ∙ ap (λ ds. union_of (map (λ (v : Value). v.status) (all_found c.args.pieces ds))) given;
      answers = c.in-Ok.ensures.answers ∙ ap (λ ds. flat_map (λ (v : Value). v.answers) (all_found c.args.pieces ds)) given;
    }
