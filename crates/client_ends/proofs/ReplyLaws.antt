-- Trackers that were just told of, and replies that bring no handle.
use Rattle.std.proofs.Common.{ℕ, ◌≡◌, refl, Bool, true, false, ◌==◌, ◌||◌, List, [], ◌∷◌, ◌++◌, None}
use Rattle.std.proofs.lemmas.Bool.{eq-eqb}
use Rattle.sm_names.specs.declared.keys.BufferName.{BufferName}
use Rattle.sm_names.specs.declared.keys.Strength.{Strength}
use Rattle.sm_names.specs.declared.messages.Call.{Call}
use Rattle.sm_names.specs.declared.messages.Reply.{Reply}
use Rattle.trackers.specs.Table.{is_untaken}
use Rattle.service_lock.specs.Accounts.{gained, is_done}
use Rattle.client_ends.specs.Clients.{is_collect_reply}

-- the tracker that was told of last is still to be taken
pub untaken_last : (ids : List ℕ) (id : ℕ) → is_untaken (ids ++ id ∷ []) id ≡ true
untaken_last [] id = rw (eq-eqb id id refl) refl
untaken_last (i ∷ ids) id = let rest : is_untaken (ids ++ id ∷ []) id ≡ true = untaken_last ids id in
    either (i == id) rest
  where
    -- by cases on the test
    either : (b : Bool) → is_untaken (ids ++ id ∷ []) id ≡ true → (b || is_untaken (ids ++ id ∷ []) id) ≡ true
    either true so = refl
    either false so = so

-- a double that was not answered Done brings none
pub none_doubled : (buffer : BufferName) (strength : Strength) (reply : Reply) → is_done reply ≡ false →
    gained (Call.DupHandle buffer strength) reply ≡ None
none_doubled buffer strength Reply.Done other = cc
none_doubled buffer strength _ other = refl

-- a Collect brings none unless a handle was collected
pub none_collected : (reply : Reply) → is_collect_reply reply ≡ false → gained Call.Collect reply ≡ None
none_collected (Reply.CollectedHandle buffer strength) other = cc
none_collected _ other = refl
