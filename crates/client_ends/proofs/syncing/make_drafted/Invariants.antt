use Rattle.std.proofs.Common.{◌+◌, ◌<◌, vec_len}
use Rattle.std.specs.Prelude.{vec_capacity}
use Rattle.std.specs.VecDeque.{deque_len}
use Rattle.client_ends.specs.Drafts.{DraftSyncedPart, drafted_calls}
use Rattle.client_ends.proofs.syncing.make_drafted.Given as goal

-- the calls that are gone were made
abbrev pub invariant-making : goal.invariant-making
invariant-making g l = record {
  far : DraftSyncedPart l.fn.client l.client (drafted_calls l.key l.fn.calls.items) (drafted_calls l.key l.calls.items) l.part.replies.items
      l.part.made.items;
  replies_room : vec_len l.part.replies + deque_len l.calls < vec_capacity l.part.replies;
  made_room : vec_len l.part.made + deque_len l.calls < vec_capacity l.part.made;
}

abbrev pub decreases-making : goal.decreases-making
decreases-making g l = deque_len l.calls
