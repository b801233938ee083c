-- Workers go from thread to thread with all that they hold.
use mathlib.Core.List.{[], ◌∷◌}
use denote.RattleType.{RattleType}
use mir.Syntax.{Lifetime, Sym}
use base.Fml.{Lft}
use denote.Ref.{NamedLft, ShrRef}
use denote.Param.Send.{IsSend, IsSync, sendable, view_send, view_sync}
use denote.Param.SendFields.{declared_send, declared_sync}
use Rattle.std.proofs.Crossing.{crosses, send, sync, frees}
use Rattle.std.proofs.marker.PhantomData.TheSendSync as phantom
use Rattle.std.proofs.option.Option.TheSendSync as option
use Rattle.crossbeam_deque.proofs.handles.Worker.TheSendSync as worker
use Rattle.crossbeam_deque.proofs.handles.Stealer.TheSendSync as stealer
use Rattle.atomic_blocks.proofs.rows.shared.Seat.TheSendSync as seat
use Rattle.std.specs.contracts.alloc.Global as global
use Rattle.std.specs.contracts.impls.GlobalAllocator.TheImpl.{ghosts}
use denote.Struct.Tuple.{Tuple, TupleAt, type_at}
use Rattle.turns.specs.contracts.turn.Turn as turn
use Rattle.turns.specs.contracts.watcher.Watcher as watcher
use Rattle.turns.specs.contracts.open.Open as shared
use Rattle.turns.proofs.Crosses.{turn_send, watcher_send, open_sync}
use Rattle.crew.specs.declared.hand.Which as Which
use Rattle.crew.specs.declared.own_deque.Crewed as Crewed
use Rattle.crew.specs.contracts.hand.Hand as hand
use Rattle.crew.specs.contracts.hand.Fair as fair
use Rattle.crew.specs.contracts.hand.FairProtocolTurnHand.TheImpl as rule
use Rattle.crew.specs.contracts.own_deque.OwnDeque as own
use Rattle.crew.specs.contracts.own_deque.OwnDeque.TheInside as own_inside
use Rattle.crew.specs.contracts.own_deque.StealPass as pass
use Rattle.crew.specs.contracts.own_deque.StealPass.TheInside as pass_inside
use Rattle.crew.specs.contracts.worker.Worker as crew_worker
use Rattle.crew.specs.contracts.worker.Worker.TheInside as crew_worker_inside
use Rattle.crew.specs.contracts.worker.Emptied as emptied
use Rattle.crew.specs.contracts.worker.Emptied.TheInside as emptied_inside
use Rattle.crew.specs.contracts.shared_state.SharedState as state
use Rattle.crew.specs.contracts.shared_state.SharedState.TheInside as state_inside

module _ (T T' : RattleType) (g : Which.Ghosts T.Denot) (g' : Crewed.Ghosts T'.Denot) where
  own_inside_send : IsSend (own_inside.the_row T T' g g')
  own_inside_send = declared_send (own_inside.the_type T T' g g') (worker.the_send turn.the_row global.the_row hand.the_row (fair.the_row T) ghosts (rule.ghosts T g rule.no_dict) turn_send send sync frees, (search sendable, (phantom.the_send T', tt)))

  pub own_send : IsSend (own.the_row T T' g g')
  own_send = search (own_inside_send, view_send)

  pass_inside_send : IsSend (pass_inside.the_row T T' g g')
  pass_inside_send = declared_send (pass_inside.the_type T T' g g') (seat.the_send _ _ _ _ (option.the_send _ turn_send) send frees, (search sendable, (phantom.the_send (Tuple (T ∷ T' ∷ [])), tt)))

  pub pass_send : IsSend (pass.the_row T T' g g')
  pass_send = search (pass_inside_send, view_send)

  worker_inside_send : IsSend (crew_worker_inside.the_row T T' g g')
  worker_inside_send = declared_send (crew_worker_inside.the_type T T' g g') (own_send, (search (pass_send, crosses), (search (turn_send, crosses), tt)))

  pub worker_send : IsSend (crew_worker.the_row T T' g g')
  worker_send = search (worker_inside_send, view_send)

  emptied_inside_send : IsSend (emptied_inside.the_row T T' g g')
  emptied_inside_send = declared_send (emptied_inside.the_type T T' g g') (worker_send, tt)

  pub emptied_send : IsSend (emptied.the_row T T' g g')
  emptied_send = search (emptied_inside_send, view_send)

module _ (a : NamedLft) (T T' T'' : RattleType) (g : Which.Ghosts T.Denot) (g' : Crewed.Ghosts T'.Denot) where
  state_inside_sync : IsSync T'' → IsSync (state_inside.the_row a T T' T'' g g')
  state_inside_sync y = declared_sync (state_inside.the_type a T T' T'' g g') (search (open_sync, sendable), (search (y, sendable), (search (stealer.the_sync, turn_send, send, sync, frees, crosses), (phantom.the_sync T', tt))))

  pub state_sync : IsSync T'' → IsSync (state.the_row a T T' T'' g g')
  state_sync y = search (state_inside_sync y, view_sync)

  -- what a worker's thread begins with
  pub closure_send : IsSync T'' → (ν : Sym) (ℓ : Lifetime) (κ : Lft) → IsSend (TupleAt ν (crew_worker.the_row T T' g g' ∷ ShrRef ℓ κ (state.the_row a T T' T'' g g') ∷ []))
  closure_send y ν ℓ κ = declared_send (type_at ν (crew_worker.the_row T T' g g' ∷ ShrRef ℓ κ (state.the_row a T T' T'' g g') ∷ [])) (search (worker_send T T' g g', sendable), (search (state_sync y, sendable), tt))

-- what an observer's thread begins with
module _ (T : RattleType) where
  pub observer_send : IsSync T → (ν : Sym) (ℓ ℓ' : Lifetime) (κ κ' : Lft) → IsSend (TupleAt ν (ShrRef ℓ κ T ∷ watcher.the_row ∷ ShrRef ℓ' κ' shared.the_row ∷ []))
  observer_send y ν ℓ ℓ' κ κ' = declared_send (type_at ν (ShrRef ℓ κ T ∷ watcher.the_row ∷ ShrRef ℓ' κ' shared.the_row ∷ [])) (search (y, sendable), (search (watcher_send, sendable), (search (open_sync, sendable), tt)))
