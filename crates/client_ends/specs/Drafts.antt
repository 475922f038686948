-- Drafted calls, the entries that they make, and the ends that these give.
use Rattle.std.specs.Prelude.{◌≡◌, List, [], ◌∷◌, ◌++◌, ℕ, map, flat_map}
use Rattle.sm_names.specs.declared.keys.NodeKey.{NodeKey}
use Rattle.sm_names.specs.declared.messages.Call.{Call}
use Rattle.sm_names.specs.declared.messages.Reply.{Reply}
use Rattle.client_ends.specs.declared.draft.Drafted.{Drafted}
use Rattle.client_ends.specs.Clients.{Made, MadeAll, Seen, Tag}

-- a draft: its token, and the calls that are still to be made, in order
pub record Sketch : Type 0 where
  pub token : Tag
  pub calls : List Call

-- the call of the node that was drafted
abbrev pub drafted_call : NodeKey → Drafted → Call
drafted_call key Drafted.Duplicate = Call.Duplicate key
drafted_call key Drafted.SetDispensable = Call.SetDispensable key
drafted_call key Drafted.SetWeak = Call.SetWeak key
drafted_call key (Drafted.SetWeakOk children) = Call.SetWeakOk key children

-- all of them, in order
abbrev pub drafted_calls : NodeKey → List Drafted → List Call
drafted_calls key drafted = map (drafted_call key) drafted

-- the draft with one call more
abbrev pub with_call : Sketch → Call → Sketch
with_call draft call = record draft { calls = draft.calls ++ call ∷ [] }

-- the token that the reply tells of, which is the client's
abbrev pub token_told : ℕ → Reply → List Tag
token_told client (Reply.Token key collection) = record { client = client; key = key; collection = collection } ∷ []
token_told client _ = []

-- the client made one event for each of these calls, in this order: these are the replies, and the ends of those
-- that tell of a token, in order
pub record DraftSynced (old new : Seen) (calls : List Call) (replies : List Reply) (ends : List Tag) : Type 0 where
  pub made : MadeAll old new calls replies
  pub tokens : ends ≡ flat_map (token_told old.id) replies

-- it made one event of this call, whose reply and end came behind those before
pub record DraftSyncedNext (old new : Seen) (call : Call) (before after : List Reply) (ends further : List Tag) : Type 0 where
  pub reply : Reply
  pub made : Made old new call reply
  pub replies : after ≡ before ++ reply ∷ []
  pub tokens : further ≡ ends ++ token_told old.id reply

-- it made the first of the drafted calls so, and that one is no longer among them
pub record DraftSyncedFirst (old new : Seen) (key : NodeKey) (drafted left : List Drafted) (before after : List Reply)
    (ends further : List Tag) : Type 0 where
  pub first : Drafted
  pub more : drafted ≡ first ∷ left
  pub synced : DraftSyncedNext old new (drafted_call key first) before after ends further

-- it made the first of all calls so, and these are left
pub record DraftSyncedPart (old new : Seen) (all left : List Call) (replies : List Reply) (ends : List Tag) : Type 0 where
  pub calls : List Call
  pub first : calls ++ left ≡ all
  pub synced : DraftSynced old new calls replies ends

-- the draft was made whole, and then one Sync; its token came back
pub record IsSynced (old new : Seen) (draft : Sketch) (back : Tag) (replies : List Reply) (ends : List Tag) : Type 0 where
  pub token : back ≡ draft.token
  pub synced : DraftSynced old new (draft.calls ++ Call.Sync draft.token.key ∷ []) replies ends

-- the first calls of the draft were made, and the draft that came back has the others
pub record DraftStopped (old new : Seen) (draft rest : Sketch) (replies : List Reply) (ends : List Tag) : Type 0 where
  pub token : rest.token ≡ draft.token
  pub far : DraftSyncedPart old new draft.calls rest.calls replies ends
