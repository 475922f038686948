use Rattle.client_ends.specs.Drafts.{drafted_calls}
use Rattle.client_ends.proofs.DraftLaws.{far_on}
use Rattle.client_ends.proofs.syncing.make_drafted.Goals as goal

pub making-preserved : goal.making-preserved
making-preserved g c =
    let now = c.making in
    let new = c.make_first.new in
    record {
      far = far_on c.args.client.now now.client new.client c.args.key (drafted_calls c.args.key c.args.calls.now.items)
          now.calls.items new.calls.items now.part.replies.items new.part.replies.items now.part.made.items new.part.made.items
          now.invariant.far c.in_ok-make_first.ensures.synced;
      replies_room = c.make_first.ensures.replies_room;
      made_room = c.make_first.ensures.made_room;
    }
