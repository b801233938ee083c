-- One record more is counted, and told where it is refused.
use Rattle.std.proofs.Common.{◌≡◌, ◌∷◌, List, sym, ap, subst, ◌∙◌, refl}
use Rattle.mapdb.specs.Held.{limits_of}
use Rattle.model.specs.Definitions.Records.{Fields, Version}
use Rattle.trace.specs.Unread.{Unread}
use Rattle.l4trace_checks.specs.Check.{is_refused_record}
use Rattle.l4trace_checks.proofs.Counting.{Counted, counted_one}
use Rattle.l4trace_checks.proofs.check.check_records.Goals as goal

pub loop-places-preserved : goal.loop-places-preserved
loop-places-preserved g c =
    let version = c.args.reader.now.version in
    let limits = limits_of c.args.limits.now in
    let row = c.in-Some.record.fields in
    let next : c.loop-places.reader.records ≡ row ∷ c.next_record.new.self.records = rw c.in-Some.is at c.in_ok-record.ensures.next in
    let taken = rw c.in-Some.is at c.in_ok-record.ensures.taken in
    let its_version : c.in-Some.record.version ≡ version = rw c.in-Some.is at c.in_ok-record.ensures.version ∙ c.loop-places.invariant.version in
    let P : List Fields → Type 0 = λ rows. Counted version limits c.args.reader.now.records rows c.loop-places.records c.loop-places.refused in
    let so_far : P (row ∷ c.next_record.new.self.records) = subst P next c.loop-places.invariant.counted in
    let is = ap (λ (v : Version). is_refused_record v limits row) (sym its_version) ∙ sym c.in_ok-is_refused.ensures in
    record {
      counted = rw c.with_one-refused.ensures (counted_one version limits c.args.reader.now.records c.next_record.new.self.records row c.loop-places.records c.loop-places.refused c.in_ok-is_refused.is_refused is so_far);
      version = ap (λ (u : Unread). u.version) taken ∙ c.loop-places.invariant.version;
    }
