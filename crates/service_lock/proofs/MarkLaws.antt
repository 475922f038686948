-- What an event moves is what its mark opens, drops, gives and collects for anyone.
use Rattle.service_lock.proofs.Common.{Call, Called, Entry, HandleMoves, List, Reply, Strength, [], anyone, ap, arith, moves_by, opened}
use Rattle.service_lock.proofs.Common.{opened_at, refl, sum_by-cons, ℕ, ◌++◌, ◌+◌, ◌∷◌, ◌≡◌}
use Rattle.std.proofs.lemmas.List.Sums.{sum_by-append}
use Rattle.std.specs.List.{sum_by}
use Rattle.event_laws.specs.HandleSums.{dropped_at, sent_at, got_at, dropped, sent, got}

-- what the mark of an event does
abbrev at_mark : Strength → ℕ → Reply → Call → HandleMoves
at_mark strength client reply call = record {
  opened = opened_at anyone strength (Called client reply call);
  dropped = dropped_at anyone strength (Called client reply call);
  sent = sent_at anyone strength (Called client reply call);
  got = got_at anyone strength (Called client reply call);
}

-- is what the event does: the mark is asked for its reply first, the event for its call
moves_are : (strength : Strength) (client : ℕ) (reply : Reply) (call : Call) →
    moves_by strength call reply ≡ at_mark strength client reply call
moves_are strength client (Reply.Taken collection taken set) (Call.Take key) = refl
moves_are strength client (Reply.CollectedHandle buffer got) Call.Collect = refl
moves_are strength client Reply.Done (Call.DupHandle buffer dup) = refl
moves_are strength client Reply.Done (Call.DropHandle buffer dropped) = refl
moves_are strength client Reply.Done (Call.GiveHandle buffer given to) = refl
moves_are strength client reply (Call.Take key) = refl
moves_are strength client reply (Call.DupHandle buffer dup) = refl
moves_are strength client reply (Call.DropHandle buffer dropped) = refl
moves_are strength client reply (Call.GiveHandle buffer given to) = refl
moves_are strength client reply Call.Collect = refl
moves_are strength client reply _ = refl

-- one more entry adds its own
sum_by-push : (f : Entry → ℕ) (history : List Entry) (e : Entry) → sum_by f (history ++ e ∷ []) ≡ sum_by f history + f e
sum_by-push f history e = omega (arith, sum_by-append f history (e ∷ []), sum_by-cons f e [])

module _ (strength : Strength) (client : ℕ) (call : Call) (reply : Reply) (history : List Entry) where
  -- the history with the record's call and reply appended
  abbrev more : List Entry
  more = history ++ (client, call, reply) ∷ []

  -- the handles that a record opened
  pub opened_push : opened anyone strength more ≡ opened anyone strength history + (moves_by strength call reply).opened
  opened_push =
      let same = ap (λ (m : HandleMoves). m.opened) (moves_are strength client reply call) in
      omega (arith, same, sum_by-push (λ e. opened_at anyone strength (Called e.0 e.2 e.1)) history (client, call, reply))

  -- that it dropped
  pub dropped_push : dropped anyone strength more ≡ dropped anyone strength history + (moves_by strength call reply).dropped
  dropped_push =
      let same = ap (λ (m : HandleMoves). m.dropped) (moves_are strength client reply call) in
      omega (arith, same, sum_by-push (λ e. dropped_at anyone strength (Called e.0 e.2 e.1)) history (client, call, reply))

  -- that it put into parcels
  pub sent_push : sent anyone strength more ≡ sent anyone strength history + (moves_by strength call reply).sent
  sent_push =
      let same = ap (λ (m : HandleMoves). m.sent) (moves_are strength client reply call) in
      omega (arith, same, sum_by-push (λ e. sent_at anyone strength (Called e.0 e.2 e.1)) history (client, call, reply))

  -- and that it took out
  pub got_push : got anyone strength more ≡ got anyone strength history + (moves_by strength call reply).got
  got_push =
      let same = ap (λ (m : HandleMoves). m.got) (moves_are strength client reply call) in
      omega (arith, same, sum_by-push (λ e. got_at anyone strength (Called e.0 e.2 e.1)) history (client, call, reply))
