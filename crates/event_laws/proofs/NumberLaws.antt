-- A tracker bears the number of the event that attached it.
use Rattle.event_laws.proofs.Common.{All, All-cons, All-nil, Bound, Call, Called, Entry, Grows, In, In-reverse, In_new, IsAnswer, List}
use Rattle.event_laws.proofs.Common.{Mark, None, Option, Reply, Some, Timeline, Tracked, [], ap, arith, events, false, inl, inr, is_event}
use Rattle.event_laws.proofs.Common.{kept-grown, none_key, readings, refl, reverse, reverse-append, subst, sym, took_effect_all, tracked}
use Rattle.event_laws.proofs.Common.{tracked_at, tracker_made, ℕ, ◌++◌, ◌+◌, ◌<◌, ◌∙◌, ◌∷◌, ◌≡◌, ◌≤◌}
use Rattle.std.proofs.lemmas.List.Quantifiers.{all_pairs_push}
use Rattle.std.specs.List.{AllPairs}
use Rattle.event_laws.proofs.MomentLaws.{only_events}
use Rattle.std.proofs.lemmas.List.Elements.{All-head, All-tail}

-- ---- elements

-- what holds of each element holds of all
pub all-In : {A : Type 0} (P : A → Type 0) (xs : List A) → ((x : A) → In x xs → P x) → All P xs
all-In P [] each = All-nil P
all-In P (x ∷ xs) each = All-cons P x xs (each x (inl refl)) (all-In P xs (λ y on. each y (inr on)))

-- and what holds of all holds of each
pub In-all : {A : Type 0} (P : A → Type 0) (xs : List A) → All P xs → (x : A) → In x xs → P x
In-all P [] all x on = absurd on
In-all P (y ∷ ys) all x (inl is) = subst P (sym is) (All-head P y ys all)
In-all P (y ∷ ys) all x (inr on) = In-all P ys (All-tail P y ys all) x on

-- ---- ids

-- the event that attaches a tracker gives it its number
pub made_id : (limits : Bound) (before : Timeline) (client : ℕ) (reply : Reply) (call : Call) (t : Tracked) →
    IsAnswer limits (readings before) client call reply → tracked_at before (Called client reply call) ≡ Some t →
    t.id ≡ events before + 1
made_id limits before client (Reply.Tracker id) (Call.TrackNode key) t answer h =
    let told : Reply.Tracker id ≡ Reply.Tracker (events before + 1) =
    (took_effect_all limits (readings before) client none_key (Call.TrackNode key) (Reply.Tracker id) refl refl answer.told).answered in
    let is : id ≡ events before + 1 = cc in
    let of_it : id ≡ t.id = cc in
    sym of_it ∙ is
made_id limits before client (Reply.Tracker id) (Call.TrackLifetime key most) t answer h =
    let told : Reply.Tracker id ≡ Reply.Tracker (events before + 1) =
    (took_effect_all limits (readings before) client none_key (Call.TrackLifetime key most) (Reply.Tracker id) refl refl
    answer.told).answered in
    let is : id ≡ events before + 1 = cc in
    let of_it : id ≡ t.id = cc in
    sym of_it ∙ is
made_id limits before client (Reply.Tracker id) (Call.TrackWeak buffer) t answer h =
    let told : Reply.Tracker id ≡ Reply.Tracker (events before + 1) =
    (took_effect_all limits (readings before) client none_key (Call.TrackWeak buffer) (Reply.Tracker id) refl refl
    answer.told).answered in
    let is : id ≡ events before + 1 = cc in
    let of_it : id ≡ t.id = cc in
    sym of_it ∙ is
made_id limits before client reply call t answer h = cc

-- the first has the smaller id
abbrev pub IsBefore : Tracked → Tracked → Type 0
IsBefore s t = s.id < t.id

-- the ids are numbers of events, and rise
pub record AreNumbered (marks : Timeline) : Type 0 where
  pub early : (t : Tracked) → In t (tracked marks) → t.id ≤ events marks
  pub rising : AllPairs IsBefore (reverse (tracked marks))

-- no trackers
numbered_nothing : AreNumbered []
numbered_nothing = record { early = λ t on. absurd on; rising = λ i j d less within. absurd (omega (arith, within)) }

-- each answer keeps them so
numbered_called : (limits : Bound) (marks : Timeline) (client : ℕ) (reply : Reply) (call : Call) →
    IsAnswer limits (readings marks) client call reply → AreNumbered marks → AreNumbered (Called client reply call ∷ marks)
numbered_called limits marks client reply call answer old = with_new (tracked_at marks (Called client reply call)) refl
  where
    -- by cases: a new tracker has the number of this event, which is greater than all before
    with_new : (o : Option Tracked) → tracked_at marks (Called client reply call) ≡ o → AreNumbered (Called client reply call ∷ marks)
    with_new None e = record {
      early = rw e (λ t on. let x : t.id ≤ events marks = old.early t on in omega (arith, x));
      rising = rw e old.rising;
    }
    with_new (Some new) e =
        let is : new.id ≡ events marks + 1 = made_id limits marks client reply call new answer e in
        let before : All (λ (s : Tracked). IsBefore s new) (reverse (tracked marks)) =
        all-In (λ (s : Tracked). IsBefore s new) (reverse (tracked marks))
        (λ s on. let x : s.id ≤ events marks = old.early s (In-reverse (tracked marks) s on) in omega (arith, is, x)) in
        let pushed : AllPairs IsBefore (reverse (tracked marks) ++ new ∷ []) =
        all_pairs_push IsBefore (reverse (tracked marks)) new old.rising before in
        record {
          early = rw e (λ t on. elim on [
            | inl here ↦ let same : t.id ≡ new.id = ap (λ (x : Tracked). x.id) here in omega (arith, is, same)
            | inr there ↦ let x : t.id ≤ events marks = old.early t there in omega (arith, x)
          ]);
          rising = rw e (subst (AllPairs IsBefore) (sym (reverse-append (new ∷ []) (tracked marks))) pushed);
        }

-- and so does each other mark
numbered_mark : (marks : Timeline) (mark : Mark) → is_event mark ≡ false → AreNumbered marks → AreNumbered (mark ∷ marks)
numbered_mark marks mark quiet old =
    let same : tracked (mark ∷ marks) ≡ tracked marks = only_events marks mark quiet in
    record {
      early = λ t on. let x : t.id ≤ events marks = old.early t (subst (In t) same on) in rw quiet x;
      rising = subst (λ (ts : List Tracked). AllPairs IsBefore (reverse ts)) (sym same) old.rising;
    }

-- so they are in each timeline that grows from nothing
pub numbered : (pool : ℕ) (limits : Bound) (marks : Timeline) → Grows pool limits [] marks → AreNumbered marks
numbered pool limits = kept-grown AreNumbered numbered_nothing pool limits (numbered_called limits) numbered_mark

-- the tracker that an event attaches bears its number
pub made_numbered : (limits : Bound) (marks : Timeline) (entry : Entry) (t : Tracked) →
    IsAnswer limits (readings marks) entry.0 entry.1 entry.2 → In t (tracker_made marks entry) → t.id ≡ events marks + 1
made_numbered limits marks entry t answer on = elim (In_new (tracked_at marks (Called entry.0 entry.2 entry.1)) [] t on) [
  | inl e ↦ made_id limits marks entry.0 entry.2 entry.1 t answer e
  | inr none ↦ absurd none
]
