-- The books go on with the record.
use Rattle.service_lock.proofs.Common.{Bound, Call, Entry, HandleMoves, IsLegal, List, Reply, Shows, State, StateInvariant, Strength}
use Rattle.service_lock.proofs.Common.{Strong, Weak, [], ap, arith, inl, inr, length, length-append, moves_by, subst, sym, ℕ, ◌++◌, ◌+◌}
use Rattle.service_lock.proofs.Common.{◌∙◌, ◌∷◌, ◌≡◌, ◌≤◌}
use Rattle.std.proofs.Common.{◌<◌, ◌^◌}
use Rattle.sm_names.specs.Timelines.{timeline}
use Rattle.event_laws.specs.HandleSums.{all_moving, all_open}
use Rattle.event_laws.proofs.HandleSumLaws.{all_moving_adds, all_open_adds}
use Rattle.service_lock.specs.States.{CountsHandles}
use Rattle.service_lock.specs.Units.{BookSums, Written}
use Rattle.service_lock.proofs.ComingLaws.{came_first}
use Rattle.service_lock.proofs.MarkLaws.{dropped_push, got_push, opened_push, sent_push}
use Rattle.service_lock.proofs.MoveLaws.{got_or_sent, opened_le}

-- a record that was kept, and got one entry more
pub pushed : (old kept new : List Entry) (e : Entry) → kept ≡ old → new ≡ kept ++ e ∷ [] → new ≡ old ++ e ∷ []
pushed old kept new e same more = more ∙ ap (λ (l : List Entry). l ++ e ∷ []) same

-- before the first mark there are no handles
none_counted : (strength : Strength) (sums : BookSums) → sums.total ≡ 0 → sums.carried ≡ 0 → CountsHandles [] strength sums
unfolding all_open all_moving
none_counted strength sums none left = record { standing = none; carried = left }

-- an empty record, a core that shows it and empty books fit together
pub begins : (pages : ℕ) (asked : Bound) (core : State) (limits : Bound) (history : List Entry) (events strong weak : BookSums) →
    history ≡ [] → Shows core [] → core.pool ≡ pages → limits ≡ asked → core.limits ≡ limits →
    events.total ≡ 0 → strong.total ≡ 0 → strong.carried ≡ 0 → weak.total ≡ 0 → weak.carried ≡ 0 →
    strong.left ≡ events.left → weak.left ≡ events.left →
    StateInvariant pages asked core limits history events strong weak
begins pages asked core limits history events strong weak none shows paged as_asked limited no_event no_strong
    no_strong_parcel no_weak no_weak_parcel strong_cut weak_cut =
    let start : StateInvariant pages asked core limits [] events strong weak = record {
      asked = (paged, as_asked);
      shown = shows;
      came = came_first core shows;
      limited = limited;
      counted = no_event;
      cut = (strong_cut, weak_cut);
      strong = none_counted Strong strong no_strong no_strong_parcel;
      weak = none_counted Weak weak no_weak no_weak_parcel;
    } in
    subst (λ (h : List Entry). StateInvariant pages asked core limits h events strong weak) (sym none) start

-- the book holds what the event opens
pub fits : (pool : ℕ) (limits : Bound) (strength : Strength) (client : ℕ) (call : Call) (reply : Reply) (history : List Entry)
    (moves : HandleMoves) (sums : BookSums) (most : ℕ) →
    IsLegal pool limits history → moves ≡ moves_by strength call reply → CountsHandles (timeline pool history) strength sums →
    length history < most → most < 2 ^ 53 → sums.total + moves.opened < 2 ^ 64
fits pool limits strength client call reply history moves sums most legal is counts few small =
    omega (
      arith,
      counts.standing,
      few,
      small,
      ap (λ (m : HandleMoves). m.opened) is,
      all_open_adds pool limits history legal strength,
      opened_push strength client call reply history,
      opened_le strength (history ++ (client, call, reply) ∷ []),
      length-append history ((client, call, reply) ∷ []),
    )

module _ (was pool : ℕ) (before now : Bound) (strength : Strength) (client : ℕ) (call : Call) (reply : Reply) (history : List Entry)
    (moves : HandleMoves)
    (same : pool ≡ was) (legal : IsLegal was before history) (next : IsLegal pool now (history ++ (client, call, reply) ∷ []))
    (is : moves ≡ moves_by strength call reply) where
  -- the record with the event
  abbrev more : List Entry
  more = history ++ (client, call, reply) ∷ []

  -- the record before it is legal for the pool as it is now
  legal_here : IsLegal pool before history
  legal_here = subst (λ (p : ℕ). IsLegal p before history) (sym same) legal

  module _ (old : BookSums) (counts : CountsHandles (timeline was history) strength old) where
    -- and what was counted then is counted so
    counts_here : CountsHandles (timeline pool history) strength old
    counts_here = subst (λ (p : ℕ). CountsHandles (timeline p history) strength old) (sym same) counts

    -- what the event takes out of a parcel is in one
    pub there : moves.got ≤ old.carried
    there = elim (got_or_sent strength call reply) [
      | inl none ↦ omega (arith, ap (λ (m : HandleMoves). m.got) is, none)
      | inr none ↦
          omega (
            arith,
            none,
            counts_here.carried,
            all_moving_adds pool before history legal_here strength,
            all_moving_adds pool now more next strength,
            ap (λ (m : HandleMoves). m.got) is,
            got_push strength client call reply history,
            sent_push strength client call reply history,
          )
    ]

    -- once its moves are written, the record with the event is counted
    pub written : (new : BookSums) → Written old new moves → CountsHandles (timeline pool more) strength new
    written new goes = record {
      standing = omega (
        arith,
        counts_here.standing,
        goes.total,
        ap (λ (m : HandleMoves). m.dropped) is,
        ap (λ (m : HandleMoves). m.opened) is,
        all_open_adds pool before history legal_here strength,
        all_open_adds pool now more next strength,
        dropped_push strength client call reply history,
        opened_push strength client call reply history,
      );
      carried = omega (
        arith,
        counts_here.carried,
        goes.carried,
        ap (λ (m : HandleMoves). m.got) is,
        ap (λ (m : HandleMoves). m.sent) is,
        all_moving_adds pool before history legal_here strength,
        all_moving_adds pool now more next strength,
        got_push strength client call reply history,
        sent_push strength client call reply history,
      );
    }
