-- What comes of a send, which may make words.
use Rattle.std.specs.Prelude.{◌≡◌, false, Option, Some, None}
use Rattle.model.specs.Definitions.Calls.{Limits, Request}
use Rattle.mapdb.specs.Held.{Layout, OnlyGrows}
use Rattle.mapdb.specs.State.{State, laid_out}
use Rattle.c_handle.specs.Called.{After, IsCalled, is_accepted, unchanged}
use Rattle.c_handle.specs.Codes.{is_empty}
use Rattle.c_handle.specs.Replied.{counts_told}
use Rattle.c_handle.specs.declared.send.SendReply.{SendReply}

-- what may come of a send of a database: what comes of any call, but for the layout
pub record IsSent (request : Request) (s : State) (lent : SendReply) (after : After SendReply) : Type 0 where
  -- the layout that it leaves, if it does not run out of memory
  pub layout : Layout
  -- words are made, and none moves
  pub grows : OnlyGrows s.layout layout
  -- a send that is not accepted makes none
  pub stays : is_accepted request s ≡ false → layout ≡ s.layout
  -- all else is as after any call
  pub called : IsCalled counts_told request (laid_out s layout) lent after

-- the same of a handle
abbrev pub IsSentOf : (Limits → Request) → Option State → SendReply → After SendReply → Type 0
IsSentOf request None lent after = after ≡ unchanged is_empty None lent
IsSentOf request (Some s) lent after = IsSent (request s.limits) s lent after
