-- The iterator gives the field at its place.
use Rattle.std.proofs.Common.{List, ℕ, drop, sym, ap, subst, Bor}
use Rattle.csv.specs.Records.{Row, fields_of}
use Rattle.trace.specs.Parts.{Takes}
use Rattle.trace.proofs.Taking.{taken}
use Rattle.trace.proofs.records.Fields.take.Goals as goal

pub returns : goal.returns
returns c =
    let old = c.self.inside.rest in
    let new = c.next.new.self in
    let step = c.next.ensures.steps in
    let left = taken (fields_of old.row.now) old.at new.at c.next.result step.1 step.2 in
    let same = ap (λ (row : Bor Row). drop new.at (fields_of row.now)) (sym step.0) in
    subst (λ (fields : List (List ℕ)). Takes fields c.next.result (drop new.at (fields_of new.row.now))) c.self.view_is
    (subst (λ (fields : List (List ℕ)). Takes (drop old.at (fields_of old.row.now)) c.next.result fields) same left)
