-- The tests of the order of answers, by the refusals that they give.
use Rattle.std.specs.Prelude.{ℕ, ◌&&◌, nat_le, Option}
use Rattle.sm_names.specs.declared.messages.Call.{Call}
use Rattle.sm_names.specs.declared.messages.Reply.{Reply}
use Rattle.sm_names.specs.declared.outcomes.Refusal.{Refusal}
use Rattle.sm_names.specs.Answers.{Readings, end_in_transit, makes_collection, makes_node, makes_tracker, no_end}
use Rattle.sm_names.specs.Answers.{no_handle, refused_if, shut_client, too_many_handles, unknown_client, wrong_kind}
use Rattle.sm_names.specs.Bounds.{Bound}

-- the test that gives this refusal: no other gives it
abbrev pub failed_test : Bound → Readings → ℕ → Call → Refusal → Option Reply
failed_test limits r client call Refusal.NoSuchClient = unknown_client r client call
failed_test limits r client call Refusal.ClientShut = shut_client r client call
failed_test limits r client call Refusal.NoSuchEnd = no_end r client call
failed_test limits r client call Refusal.InTransit = end_in_transit r call
failed_test limits r client call Refusal.WrongKind = wrong_kind r call
failed_test limits r client call Refusal.NoSuchHandle = no_handle r client call
failed_test limits r client call Refusal.TooManyNodes =
    refused_if (makes_node call && nat_le limits.nodes r.kept_nodes) Refusal.TooManyNodes
failed_test limits r client call Refusal.TooManyCollections =
    refused_if (makes_collection call && nat_le limits.collections r.kept_collections) Refusal.TooManyCollections
failed_test limits r client call Refusal.TrackersFull =
    refused_if (makes_tracker call && nat_le limits.trackers r.unfired) Refusal.TrackersFull
failed_test limits r client call Refusal.TooManyHandles =
    refused_if (too_many_handles limits r call) Refusal.TooManyHandles
