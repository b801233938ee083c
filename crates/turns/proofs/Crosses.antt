-- Turns go from thread to thread.
use Rattle.std.proofs.Common.{rules}
use denote.Param.Send.{IsSend, IsSync, sendable, view_send, view_sync}
use denote.Param.SendFields.{declared_send, declared_sync, variants_send}
use Rattle.std.proofs.Crossing.{crosses}
use Rattle.pieces.specs.contracts.masks.Masks as masks
use Rattle.pieces.specs.contracts.link.Link as link
use Rattle.pieces.specs.contracts.moving.Move as moving
use Rattle.pieces.specs.contracts.touch.Touch as touch
use Rattle.turns.specs.contracts.strip_work.StripWork as strip_work
use Rattle.turns.specs.contracts.touch_work.TouchWork as touch_work
use denote.Builtin.{unit, u64}
use Rattle.std.specs.contracts.alloc.Global as global
use Rattle.std.specs.contracts.impls.GlobalAllocator.TheImpl as heaps
use Rattle.atomic_table.specs.contracts.owned.Table as table
use Rattle.atomic_table.proofs.shared.Shared.TheSendSync.{the_sync as shared_sync}
use Rattle.atomic_table.proofs.send_lease.SendLease.TheSendSync.{the_sync as lease_sync}
use Rattle.turns.specs.contracts.view.View as view
use Rattle.turns.specs.contracts.rule.Fixed as fixed
use Rattle.turns.specs.contracts.rule.Rule as rule
use Rattle.turns.specs.contracts.rule.RuleTableRuleUnitViewFixed.TheImpl as rules_of
use Rattle.turns.specs.contracts.open.Open as shared
use Rattle.turns.specs.contracts.open.Open.TheInside as shared_inside
use Rattle.turns.specs.contracts.shared_words.SharedWords as shared_words
use Rattle.turns.specs.contracts.shared_words.SharedWords.TheInside as words_inside
use Rattle.turns.specs.contracts.starts.Starts as starts
use Rattle.turns.specs.contracts.post.Post as post
use Rattle.turns.specs.contracts.work.Work as work
use Rattle.turns.specs.contracts.turn.Job as job
use Rattle.turns.specs.contracts.turn.Turn as turn
use Rattle.turns.specs.contracts.watcher.Watcher as watcher
use Rattle.turns.specs.contracts.receipt.Receipt as receipt
use Rattle.turns.specs.contracts.turn.Turn.TheInside as inside

pub post_send : IsSend post.the_row
unfolding types.Keyed.entry denote.Memory.part_of
post_send = search rules

masks_send : IsSend masks.the_row
masks_send = search (sendable, crosses) depth 20

link_send : IsSend link.the_row
link_send = search (sendable, crosses) depth 20

move_send : IsSend moving.the_row
move_send = search (sendable, crosses) depth 20

touch_send : IsSend touch.the_row
touch_send = search (sendable, crosses) depth 20

strip_send : IsSend strip_work.the_row
strip_send = search (masks_send, sendable, crosses) depth 20

touch_work_send : IsSend touch_work.the_row
touch_work_send = search (touch_send, sendable, crosses) depth 20

pub work_send : IsSend work.the_row
work_send = variants_send work.enum ((strip_send, tt), ((link_send, (search sendable, tt)), ((move_send, (search sendable, tt)), ((touch_work_send, tt), tt))))

job_send : IsSend job.the_row
job_send = declared_send job.the_type (post_send, (search (work_send, sendable, crosses) depth 20, (search sendable, tt)))

inside_send : IsSend inside.the_row
inside_send = declared_send inside.the_type (search (job_send, sendable, crosses) depth 20, tt)

pub turn_send : IsSend turn.the_row
turn_send = search (inside_send, view_send)

table_sync : IsSync (table.the_row unit view.the_row fixed.the_row rule.the_row global.the_row rules_of.ghosts heaps.ghosts)
table_sync =
    declared_sync (table.the_type unit view.the_row fixed.the_row rule.the_row global.the_row rules_of.ghosts heaps.ghosts)
    (shared_sync unit view.the_row fixed.the_row rule.the_row rules_of.ghosts (search sendable), (search sendable, (search sendable, (lease_sync u64 global.the_row heaps.ghosts (search sendable) (search (sendable, crosses)), (lease_sync unit global.the_row heaps.ghosts (search sendable) (search (sendable, crosses)), (search (sendable, crosses) depth 20, tt))))))

starts_sync : IsSync starts.the_row
starts_sync = search (sendable, crosses) depth 20

words_inside_sync : IsSync words_inside.the_row
words_inside_sync = declared_sync words_inside.the_type (table_sync, (search (sendable, crosses) depth 20, (search (sendable, crosses) depth 20, (search sendable, (starts_sync, tt)))))

pub words_sync : IsSync shared_words.the_row
words_sync = search (words_inside_sync, view_sync)

open_inside_sync : IsSync shared_inside.the_row
open_inside_sync = declared_sync shared_inside.the_type (words_sync, (search (sendable, crosses) depth 20, (search (sendable, crosses) depth 20, (search (sendable, crosses) depth 20, (search (sendable, crosses) depth 20, (search (sendable, crosses) depth 20, tt))))))

pub open_sync : IsSync shared.the_row
open_sync = search (open_inside_sync, view_sync)

pub watcher_send : IsSend watcher.the_row
unfolding types.Keyed.entry denote.Memory.part_of
watcher_send = search rules

pub receipt_send : IsSend receipt.the_row
unfolding types.Keyed.entry denote.Memory.part_of
receipt_send = search rules
