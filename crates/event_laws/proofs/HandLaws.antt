-- Marks that are no event leave handles, parcels, ends and clients as they are.
use Rattle.event_laws.proofs.Common.{Allocated, AreAnswers-last, Bound, Called, Ended, Entry, Grows, IsAnswer, IsLegal, List, Loss, Mark}
use Rattle.event_laws.proofs.Common.{SameHands, Stays, Timeline, [], after, entry_mark, false, is_event, kept-after, readings, refl}
use Rattle.event_laws.proofs.Common.{subst, sym, timeline, timeline-push, ℕ, ◌++◌, ◌∙◌, ◌∷◌, ◌≡◌}
use Rattle.history_laws.proofs.GrowthLaws.{grows_history}

-- such a mark leaves them
pub same_handle_moves : (marks : Timeline) (mark : Mark) → is_event mark ≡ false → SameHands marks (mark ∷ marks)
same_handle_moves marks (Called client reply call) h = cc
same_handle_moves marks (Loss origin cause) h =
    record {
      born = refl;
      joined = refl;
      shut = refl;
      had = refl;
      in_parcels = refl;
      in_all = refl;
      waiting = refl;
      over = refl;
      under_way = refl;
      holders = refl;
      kinds = refl;
    }
same_handle_moves marks (Allocated head) h =
    record {
      born = refl;
      joined = refl;
      shut = refl;
      had = refl;
      in_parcels = refl;
      in_all = refl;
      waiting = refl;
      over = refl;
      under_way = refl;
      holders = refl;
      kinds = refl;
    }
same_handle_moves marks (Ended top) h =
    record {
      born = refl;
      joined = refl;
      shut = refl;
      had = refl;
      in_parcels = refl;
      in_all = refl;
      waiting = refl;
      over = refl;
      under_way = refl;
      holders = refl;
      kinds = refl;
    }

-- what two timelines leave one after the other, both leave
then_same : (first mid last : Timeline) → SameHands first mid → SameHands mid last → SameHands first last
then_same first mid last s on = record {
  born = on.born ∙ s.born;
  joined = on.joined ∙ s.joined;
  shut = on.shut ∙ s.shut;
  had = on.had ∙ s.had;
  in_parcels = on.in_parcels ∙ s.in_parcels;
  in_all = on.in_all ∙ s.in_all;
  waiting = on.waiting ∙ s.waiting;
  over = on.over ∙ s.over;
  under_way = on.under_way ∙ s.under_way;
  holders = on.holders ∙ s.holders;
  kinds = on.kinds ∙ s.kinds;
}

-- so any number of such marks leave them
still_same : (first marks : Timeline) (mark : Mark) → is_event mark ≡ false → SameHands first marks → SameHands first (mark ∷ marks)
still_same first marks mark h s = then_same first marks (mark ∷ marks) s (same_handle_moves marks mark h)

-- so all marks that an event forces leave them as its own mark does
pub same_after : (pool : ℕ) (marks : Timeline) (entry : Entry) → SameHands (entry_mark entry ∷ marks) (after pool marks entry)
same_after pool marks entry =
    kept-after (SameHands (entry_mark entry ∷ marks)) (still_same (entry_mark entry ∷ marks)) pool marks entry
    (record {
      born = refl;
      joined = refl;
      shut = refl;
      had = refl;
      in_parcels = refl;
      in_all = refl;
      waiting = refl;
      over = refl;
      under_way = refl;
      holders = refl;
      kinds = refl;
    })

-- a legal history with one more event
pub record NextEvent (pool : ℕ) (limits : Bound) (history : List Entry) (entry : Entry) : Type 0 where
  pub grown : Grows pool limits [] (timeline pool history)
  pub answer : IsAnswer limits (readings (timeline pool history)) entry.0 entry.1 entry.2
  pub same : SameHands (entry_mark entry ∷ timeline pool history) (timeline pool (history ++ entry ∷ []))

-- what is known of it
pub next_event : (pool : ℕ) (limits : Bound) (history : List Entry) (entry : Entry) → IsLegal pool limits (history ++ entry ∷ []) →
    NextEvent pool limits history entry
next_event pool limits history entry legal =
    let r = AreAnswers-last pool limits [] history entry legal.answers in
    record {
      grown = grows_history pool limits [] [] history Stays r.0;
      answer = r.1;
      same = subst (SameHands (entry_mark entry ∷ timeline pool history)) (sym (timeline-push pool history entry))
          (same_after pool (timeline pool history) entry);
    }
