-- The first record asks for what was answered; accesses are answered as one after another.
use Rattle.std.proofs.Common.{rules, ◌≡◌, ◌∙◌, ap, Ok, Some}
use Rattle.fpage.specs.declared.rights.Access.{Access}
use Rattle.space.specs.declared.place.Place.{Place}
use Rattle.mapdb.specs.Held.{access_answers, touched_all}
use Rattle.mapdb.specs.State.{State}
use Rattle.mapdb.specs.declared.call.Call.TheVariants.{Access as CallAccess}
use Rattle.trace.specs.Meaning.{request_of}
use Rattle.trace.specs.Unread.{Unread}
use Rattle.replay.specs.Steps.{asked}
use Rattle.replay.proofs.Answering.{accesses_are_told, first_answered}
use Rattle.replay.proofs.answer.answer_first.Goals as goal

pub returns-in_ok-answers-in-Ok-Access-clause-within : goal.returns-in_ok-answers-in-Ok-Access-clause-within
returns-in_ok-answers-in-Ok-Access-clause-within g c =
    let s : State = c.args.database.now in
    let next : Unread = c.next_call.new.self in
    let first : Place × Access = (c.in-Ok-Access.place, c.in-Ok-Access.access) in
    let is : c.in_ok-asked.asked ≡ Ok (CallAccess c.in-Ok-Access.place c.in-Ok-Access.access) = search rules in
    let asks = rw c.limits-limits.ensures.limits at c.in_ok-asked.ensures.request in
    let read = c.in_ok-read_accesses-in-Ok-Access.ensures in
    let answered = c.in_ok-answers-in-Ok-Access.ensures.ok ∙ ap (access_answers s.holdings) c.deref.ensures.value in
    let left = ap (λ (t : State). t.holdings) c.in_ok-answers-in-Ok-Access.ensures.left ∙ ap (touched_all s.holdings) c.deref.ensures.value in
    (first_answered s.limits s.holdings c.args.trace.now next c.read_accesses.new.trace (asked first) _ c.access_pages.new.database.holdings (asks ∙ ap (λ a. Some (request_of a)) is) c.in_ok-asked.ensures.taken
    (accesses_are_told next.version s.limits s.holdings next c.read_accesses.new.trace first c.read_accesses.new.accesses.items (rw c.limits-limits.ensures.limits at read.asked) read.taken
    c.in_ok-answers-in-Ok-Access.answers.items answered c.access_pages.new.database.holdings left)).within

pub returns-in_ok-answers-in-Ok-Access-clause-taken : goal.returns-in_ok-answers-in-Ok-Access-clause-taken
returns-in_ok-answers-in-Ok-Access-clause-taken g c =
    let s : State = c.args.database.now in
    let next : Unread = c.next_call.new.self in
    let first : Place × Access = (c.in-Ok-Access.place, c.in-Ok-Access.access) in
    let is : c.in_ok-asked.asked ≡ Ok (CallAccess c.in-Ok-Access.place c.in-Ok-Access.access) = search rules in
    let asks = rw c.limits-limits.ensures.limits at c.in_ok-asked.ensures.request in
    let read = c.in_ok-read_accesses-in-Ok-Access.ensures in
    let answered = c.in_ok-answers-in-Ok-Access.ensures.ok ∙ ap (access_answers s.holdings) c.deref.ensures.value in
    let left = ap (λ (t : State). t.holdings) c.in_ok-answers-in-Ok-Access.ensures.left ∙ ap (touched_all s.holdings) c.deref.ensures.value in
    (first_answered s.limits s.holdings c.args.trace.now next c.read_accesses.new.trace (asked first) _ c.access_pages.new.database.holdings (asks ∙ ap (λ a. Some (request_of a)) is) c.in_ok-asked.ensures.taken
    (accesses_are_told next.version s.limits s.holdings next c.read_accesses.new.trace first c.read_accesses.new.accesses.items (rw c.limits-limits.ensures.limits at read.asked) read.taken
    c.in_ok-answers-in-Ok-Access.answers.items answered c.access_pages.new.database.holdings left)).taken

pub returns-in_ok-answers-in-Ok-Access-clause-told : goal.returns-in_ok-answers-in-Ok-Access-clause-told
returns-in_ok-answers-in-Ok-Access-clause-told g c =
    let s : State = c.args.database.now in
    let next : Unread = c.next_call.new.self in
    let first : Place × Access = (c.in-Ok-Access.place, c.in-Ok-Access.access) in
    let is : c.in_ok-asked.asked ≡ Ok (CallAccess c.in-Ok-Access.place c.in-Ok-Access.access) = search rules in
    let asks = rw c.limits-limits.ensures.limits at c.in_ok-asked.ensures.request in
    let read = c.in_ok-read_accesses-in-Ok-Access.ensures in
    let answered = c.in_ok-answers-in-Ok-Access.ensures.ok ∙ ap (access_answers s.holdings) c.deref.ensures.value in
    let left = ap (λ (t : State). t.holdings) c.in_ok-answers-in-Ok-Access.ensures.left ∙ ap (touched_all s.holdings) c.deref.ensures.value in
    (first_answered s.limits s.holdings c.args.trace.now next c.read_accesses.new.trace (asked first) _ c.access_pages.new.database.holdings (asks ∙ ap (λ a. Some (request_of a)) is) c.in_ok-asked.ensures.taken
    (accesses_are_told next.version s.limits s.holdings next c.read_accesses.new.trace first c.read_accesses.new.accesses.items (rw c.limits-limits.ensures.limits at read.asked) read.taken
    c.in_ok-answers-in-Ok-Access.answers.items answered c.access_pages.new.database.holdings left)).told
