-- What is held is lawful, so the recursion and strip give and leave the same.
use Rattle.std.proofs.Common.{ap}
use Rattle.mapdb.specs.State.{left_with, plain_status, plain_left, unmap_status, unmap_left}
use Rattle.mapdb.proofs.PlainWords.{on_lawful, if_lawful, plain_status_is, plain_left_is}
use Rattle.mapdb.proofs.database.Database.unmap_plain.Goals as goal

pub returns-clause-recursion_status : goal.returns-clause-recursion_status
returns-clause-recursion_status c =
    if_lawful c.args.self.now.holdings c.unmap_all.result (λ v. v.items) (unmap_status c.args.space c.args.control.flush c.args.fpages.now) (plain_status c.args.space c.args.control.flush c.args.fpages.now)
    (λ lawful. plain_status_is c.args.space c.args.control.flush c.args.fpages.now c.args.self.now.holdings lawful) c.unmap_all.ensures.lawful c.unmap_all.ensures.status

pub returns-clause-recursion_left : goal.returns-clause-recursion_left
returns-clause-recursion_left c =
    on_lawful c.args.self.now.holdings c.unmap_all.result c.unmap_all.new.self (λ h. left_with c.args.self.now (unmap_left c.args.space c.args.control.flush c.args.fpages.now h)) (λ h. left_with c.args.self.now (plain_left c.args.space c.args.control.flush c.args.fpages.now h))
    (λ lawful. ap (left_with c.args.self.now) (plain_left_is c.args.space c.args.control.flush c.args.fpages.now c.args.self.now.holdings lawful)) c.unmap_all.ensures.lawful c.unmap_all.ensures.left
