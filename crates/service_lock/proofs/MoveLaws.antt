-- How many handles an event can open or move.
use Rattle.service_lock.proofs.Common.{Call, Called, Entry, List, Reply, Strength, [], anyone, arith, inl, inr, length, moves_by, opened}
use Rattle.service_lock.proofs.Common.{opened_at, refl, sum_by-cons, ◌+◌, ◌∷◌, ◌≡◌, ◌≤◌}
use Rattle.std.proofs.Common.{◌*◌, ◌⊎◌}
use Rattle.sm_names.specs.declared.rules.TheConstants.{MAX_BUFFERS}
use Rattle.sm_names.specs.Marks.{Mark}
use Rattle.sm_names.specs.Sameness.{same_strength}
use Rattle.event_laws.specs.ByEvent.{entry_mark}
use Rattle.event_laws.specs.HandleSums.{indices_in}
use Rattle.event_laws.proofs.SetLaws.{indices_most, cond-le}
use Rattle.service_lock.specs.Units.{needed}

-- so a mark opens no more
opened_most : (strength : Strength) (mark : Mark) → opened_at anyone strength mark ≤ MAX_BUFFERS
opened_most strength (Called client (Reply.Taken collection taken set) (Call.Take key)) =
    cond-le (same_strength taken strength) (length (indices_in set)) MAX_BUFFERS (indices_most set)
opened_most strength (Called client Reply.Done (Call.DupHandle name dup)) = cond-le (same_strength dup strength) 1 MAX_BUFFERS (omega arith)
opened_most strength _ = omega arith

-- and a record no more for each entry
pub opened_le : (strength : Strength) (history : List Entry) → opened anyone strength history ≤ length history * MAX_BUFFERS
opened_le strength [] = omega arith
opened_le strength (e ∷ es) =
    omega (
      arith,
      sum_by-cons (λ (x : Entry). opened_at anyone strength (entry_mark x)) e es,
      opened_most strength (entry_mark e),
      opened_le strength es,
    )

-- what the event takes from its client, the client had
pub lost_le_needed : (strength : Strength) (call : Call) (reply : Reply) →
    (moves_by strength call reply).dropped + (moves_by strength call reply).sent ≤ needed strength call
lost_le_needed strength (Call.DropHandle buffer dropped) Reply.Done = omega arith
lost_le_needed strength (Call.GiveHandle buffer given to) Reply.Done = omega arith
lost_le_needed strength (Call.Take key) (Reply.Taken collection taken set) = omega arith
lost_le_needed strength (Call.DupHandle buffer dup) Reply.Done = omega arith
lost_le_needed strength Call.Collect (Reply.CollectedHandle buffer got) = omega arith
lost_le_needed strength _ _ = omega arith

-- no event both puts a handle into a parcel and takes one out
pub got_or_sent : (strength : Strength) (call : Call) (reply : Reply) → ((moves_by strength call reply).got ≡ 0) ⊎
    ((moves_by strength call reply).sent ≡ 0)
got_or_sent strength (Call.GiveHandle buffer given to) Reply.Done = inl refl
got_or_sent strength (Call.Take key) (Reply.Taken collection taken set) = inl refl
got_or_sent strength (Call.DupHandle buffer dup) Reply.Done = inl refl
got_or_sent strength (Call.DropHandle buffer dropped) Reply.Done = inl refl
got_or_sent strength Call.Collect (Reply.CollectedHandle buffer got) = inr refl
got_or_sent strength _ _ = inl refl
