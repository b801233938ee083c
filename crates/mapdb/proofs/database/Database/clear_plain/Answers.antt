-- What is held is lawful, so the recursion and strip give and leave the same.
use Rattle.std.proofs.Common.{true, ap}
use Rattle.fpage.specs.Rights.{all_rights}
use Rattle.model.specs.Definitions.Answers.{in_space, clear_answer}
use Rattle.model.specs.Definitions.Recursion.{Visited, recur}
use Rattle.model.proofs.Recursions.{recursion_is_strip}
use Rattle.mapdb.specs.State.{left_with}
use Rattle.mapdb.proofs.PlainWords.{on_lawful, if_lawful}
use Rattle.mapdb.proofs.database.Database.clear_plain.Goals as goal

pub returns-clause-recursion_status : goal.returns-clause-recursion_status
returns-clause-recursion_status c =
    if_lawful c.args.self.now.holdings c.clear_noted.result (λ s. s) (λ h. (clear_answer c.args.space h).status) (λ h. (recur h (in_space c.args.space) all_rights true).word)
    (λ lawful. ap (λ (v : Visited). v.word) (recursion_is_strip c.args.self.now.holdings lawful (in_space c.args.space) all_rights true)) c.clear_noted.ensures.lawful c.clear_noted.ensures.status

pub returns-clause-recursion_left : goal.returns-clause-recursion_left
returns-clause-recursion_left c =
    on_lawful c.args.self.now.holdings c.clear_noted.result c.clear_noted.new.self (λ h. left_with c.args.self.now (clear_answer c.args.space h).left) (λ h. left_with c.args.self.now (recur h (in_space c.args.space) all_rights true).left)
    (λ lawful. ap (λ (v : Visited). left_with c.args.self.now v.left) (recursion_is_strip c.args.self.now.holdings lawful (in_space c.args.space) all_rights true)) c.clear_noted.ensures.lawful c.clear_noted.ensures.left
