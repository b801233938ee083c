use Rattle.std.proofs.Common.{◌<◌, ◌∷◌, [], get_or, length, ◌∙◌, ap, sym, subst, arith}
use Rattle.std.proofs.lemmas.List.{length-set}
use Rattle.std.specs.Prelude.{slice_get}
use Rattle.pieces.proofs.Packs.{page_of}
use Rattle.pieces.specs.declared.touch.WordAccess.{WordAccess}
use Rattle.turns.specs.Rules.{next_step}
use Rattle.turns.specs.SharedWords.{SharedContent, IsPhase}
use Rattle.turns.proofs.TouchSteps.{fits, see_next, access_within, saw_answered, saw_steps, saw_last, page_found, same_answer}
use Rattle.turns.proofs.touch_work.TouchWork.see.Goals as goal

pub look-found-requires-clause-next : goal.look-found-requires-clause-next
look-found-requires-clause-next c =
    ap (λ (s : SharedContent). next_step s.opening ((c.args.post.now.number, c.args.post.now.steps) ∷ [])) c.requires.of
    ∙ see_next c.args.shared.now.opening c.learn_can_be_worked.ensures c.args.post.now.number c.args.post.now.steps c.args.self.now c.requires.piece c.requires.work c.requires.marks c.requires.left c.access-access.result c.access-access.ensures

pub look-found-requires-clause-fits : goal.look-found-requires-clause-fits
look-found-requires-clause-fits c =
    fits c.args.shared.now.opening c.learn_can_be_worked.ensures c.args.post.now.number c.args.post.now.steps c.args.self.now c.requires.piece c.requires.work c.args.self.now.answers.small (omega (arith, c.args.self.now.answers.ok.0, c.args.self.now.answers.ok.1))

pub permits-may-requires : goal.permits-may-requires
permits-may-requires c =
    let o = c.args.shared.now.opening in
    let within = access_within o c.learn_can_be_worked.ensures c.args.post.now.number c.args.post.now.steps c.args.self.now c.requires.piece c.requires.work c.args.self.now.seen c.access-access.result c.requires.left c.access-access.ensures in
    (page_found c.args.post.now (subst (λ (s : SharedContent). IsPhase s.opening) (sym c.requires.of) c.learn_can_be_worked.ensures) c.args.self.now.touch
    (ap (λ (s : SharedContent). slice_get s.opening.pieces c.args.post.now.number) c.requires.of ∙ c.requires.piece) c.access-access.result.index c.look-found.result
    (subst (λ (s : SharedContent). c.access-access.result.index < length s.opening.words) (sym c.requires.of) within) c.look-found.ensures.found).0

pub returns-clause-work : goal.returns-clause-work
returns-clause-work c =
    let o = c.args.shared.now.opening in
    let t : WordAccess = c.access-access.result in
    let within = access_within o c.learn_can_be_worked.ensures c.args.post.now.number c.args.post.now.steps c.args.self.now c.requires.piece c.requires.work c.args.self.now.seen t c.requires.left c.access-access.ensures in
    let page = (page_found c.args.post.now (subst (λ (s : SharedContent). IsPhase s.opening) (sym c.requires.of) c.learn_can_be_worked.ensures) c.args.self.now.touch
    (ap (λ (s : SharedContent). slice_get s.opening.pieces c.args.post.now.number) c.requires.of ∙ c.requires.piece) t.index c.look-found.result
    (subst (λ (s : SharedContent). t.index < length s.opening.words) (sym c.requires.of) within) c.look-found.ensures.found).1 in
    let is = same_answer o.words t c.look-found.result c.permits-may.result (page ∙ ap (λ (s : SharedContent). page_of (get_or s.opening.words t.index 0)) c.requires.of) c.permits-may.ensures in
    record {
      many = length-set c.args.self.now.answers.items c.args.self.now.seen c.permits-may.result ∙ c.requires.work.many;
      within = omega (arith, c.requires.left);
      answered = saw_answered o c.learn_can_be_worked.ensures c.args.post.now.number c.args.post.now.steps c.args.self.now c.requires.piece c.requires.work c.requires.left c.requires.marks t c.access-access.ensures c.permits-may.result is;
      steps = saw_steps o c.learn_can_be_worked.ensures c.args.post.now.number c.args.post.now.steps c.args.self.now c.requires.piece c.requires.work c.requires.left c.requires.marks t c.access-access.ensures c.permits-may.result is;
      last = saw_last o c.learn_can_be_worked.ensures c.args.post.now.number c.args.post.now.steps c.args.self.now c.requires.piece c.requires.work c.requires.left c.requires.marks t c.access-access.ensures c.permits-may.result is;
    }
