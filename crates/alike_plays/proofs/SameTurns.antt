-- Plays by the same turns are alike, and closed ways are closed positions.
use Rattle.alike_plays.proofs.Common.{Asks, Begins, Calls, HasToWait, In, IsClosed, IsMet, IsSimulation, Leaves, List, PassOn, Passes}
use Rattle.alike_plays.proofs.Common.{Position, Reached, Rests, Setup, Turn, [], all_rest, ap, further, inl, inr, reached_on, refl}
use Rattle.alike_plays.proofs.Common.{slice_get_within, subst, sym, ℕ, ◌++◌, ◌∷◌, ◌≡◌, ◌⊎◌}
use Rattle.actor_plays.specs.Positions.{ReachedBy}
use Rattle.actor_plays.proofs.PositionLaws.{by_turns}
use Rattle.alike_plays.specs.Ways.{AreClosedWays, IsAt, IsCallTried, LeadsBack}
use Rattle.alike_plays.proofs.Closing.{rested_met}
use Rattle.alike_plays.proofs.Passing.{call_on, leave_on, meets}

-- ---- turns

-- The actor of a turn.
abbrev mover : Turn → ℕ
mover (Turn.Step actor) = actor
mover (Turn.Leave actor) = actor

-- Equal lists have equal last elements, and are equal before them.
pub last_same : {A : Type 0} (xs ys : List A) (x y : A) → xs ++ x ∷ [] ≡ ys ++ y ∷ [] → (xs ≡ ys) × (x ≡ y)
last_same [] [] x y same = (refl, cc)
last_same [] (b ∷ []) x y same = cc
last_same [] (b ∷ c ∷ ys) x y same = cc
last_same (a ∷ []) [] x y same = cc
last_same (a ∷ c ∷ xs) [] x y same = cc
last_same (a ∷ xs) (b ∷ ys) x y same =
    let tails : xs ++ x ∷ [] ≡ ys ++ y ∷ [] = cc in
    let heads : a ≡ b = cc in
    let more = last_same xs ys x y tails in
    ((λ i. heads i ∷ more.0 i), more.1)

-- No list with a last element is empty.
pub last_none : {A : Type 0} {X : Type 0} (xs : List A) (x : A) → xs ++ x ∷ [] ≡ [] → X
last_none [] x same = cc
last_none (y ∷ xs) x same = cc

module _ (setup : Setup) (Like : Position → Position → Type 0) (like : IsSimulation setup Like) where
  -- both pass on to what is alike
  record Meet (p q : Position) : Type 0 where
    one : Position
    other : Position
    on : PassOn setup p one
    over : PassOn setup q other
    alike : Like one other

  -- The first passed a step more: so does the second, if that is no step of those that it passes on by.
  left_pass : (actor : ℕ) (old new q : Position) → Reached setup old → Reached setup q → Passes setup actor old new → Meet old q →
      Meet new q
  left_pass actor old new q here there pass m = by (meets setup old m.one m.on actor new pass)
    where
      -- by whether the step is among these
      by : PassOn setup new m.one ⊎ ((later : Position) × Passes setup actor m.one later × PassOn setup new later) → Meet new q
      by (inl on) = record { one = m.one; other = m.other; on = on; over = m.over; alike = m.alike }
      by (inr more) =
          let step = like.passes actor m.one m.other (reached_on setup old m.one m.on here) (reached_on setup q m.other m.over there)
          m.alike more.0 more.1 in
          record {
            one = more.0;
            other = step.0;
            on = more.2;
            over = further setup q m.other step.0 m.over (PassOn.Further actor m.other step.0 step.0 step.1 (PassOn.Stays step.0));
            alike = step.2;
          }

  -- And so it is the other way round.
  right_pass : (actor : ℕ) (p old new : Position) → Reached setup p → Reached setup old → Passes setup actor old new → Meet p old →
      Meet p new
  right_pass actor p old new here there pass m = by (meets setup old m.other m.over actor new pass)
    where
      -- by whether the step is among these
      by : PassOn setup new m.other ⊎ ((later : Position) × Passes setup actor m.other later × PassOn setup new later) → Meet p new
      by (inl over) = record { one = m.one; other = m.other; on = m.on; over = over; alike = m.alike }
      by (inr more) =
          let step = like.back actor m.one m.other (reached_on setup p m.one m.on here) (reached_on setup old m.other m.over there)
          m.alike more.0 more.1 in
          record {
            one = step.0;
            other = more.0;
            on = further setup p m.one step.0 m.on (PassOn.Further actor m.one step.0 step.0 step.1 (PassOn.Stays step.0));
            over = more.2;
            alike = step.2;
          }

  -- Both made the same call.
  both_call : (actor : ℕ) (old new before after : Position) → Reached setup old → Reached setup before → Calls setup actor old new →
      Calls setup actor before after → Meet old before → Meet new after
  both_call actor old new before after here there call again m =
      let one = call_on setup old m.one m.on actor new call in
      let other = call_on setup before m.other m.over actor after again in
      record {
        one = one.0;
        other = other.0;
        on = one.2;
        over = other.2;
        alike = like.calls actor m.one m.other one.0 other.0 (reached_on setup old m.one m.on here)
            (reached_on setup before m.other m.over there) m.alike one.1 other.1;
      }

  -- Both left by the same call.
  both_leave : (actor : ℕ) (old new before after : Position) → Reached setup old → Reached setup before → Leaves setup actor old new →
      Leaves setup actor before after → Meet old before → Meet new after
  both_leave actor old new before after here there leave again m =
      let one = leave_on setup old m.one m.on actor new leave in
      let other = leave_on setup before m.other m.over actor after again in
      record {
        one = one.0;
        other = other.0;
        on = one.2;
        over = other.2;
        alike = like.leaves actor m.one m.other one.0 other.0 (reached_on setup old m.one m.on here)
            (reached_on setup before m.other m.over there) m.alike one.1 other.1;
      }

  -- The first play began: so did the second, but for passes.
  from_start : (p : Position) → Begins setup p → (turns : List Turn) (q : Position) → ReachedBy setup turns q → [] ≡ turns → Meet p q
  from_start p begins _ _ (ReachedBy.Starts q begun) same =
      record { one = p; other = q; on = PassOn.Stays p; over = PassOn.Stays q; alike = like.starts p q begins begun }
  from_start p begins _ _ (ReachedBy.ByPass actor turns old new before pass) same =
      right_pass actor p old new (Reached.Starts p begins) (by_turns setup turns old before) pass
      (from_start p begins turns old before same)
  from_start p begins _ _ (ReachedBy.ByCall actor turns old new before call) same = last_none turns (Turn.Step actor) (sym same)
  from_start p begins _ _ (ReachedBy.ByLeave actor turns old new before leave) same = last_none turns (Turn.Leave actor) (sym same)

  -- The last turn of the first was a call: so was that of the second.
  from_call : (actor : ℕ) (turns : List Turn) (old new : Position) → ReachedBy setup turns old → Calls setup actor old new →
      ((others : List Turn) (q : Position) → ReachedBy setup others q → turns ≡ others → Meet old q) →
      (others : List Turn) (q : Position) → ReachedBy setup others q → turns ++ Turn.Step actor ∷ [] ≡ others → Meet new q
  from_call actor turns old new here call more _ _ (ReachedBy.Starts q begun) same = last_none turns (Turn.Step actor) same
  from_call actor turns old new here call more _ _ (ReachedBy.ByPass j others before after there pass) same =
      right_pass j new before after (Reached.ByCall actor old new (by_turns setup turns old here) call)
      (by_turns setup others before there) pass (from_call actor turns old new here call more others before there same)
  from_call actor turns old new here call more _ _ (ReachedBy.ByCall j others before after there again) same =
      let equal = last_same turns others (Turn.Step actor) (Turn.Step j) same in
      both_call actor old new before after (by_turns setup turns old here) (by_turns setup others before there) call
      (subst (λ (k : ℕ). Calls setup k before after) (sym (ap mover equal.1)) again) (more others before there equal.0)
  from_call actor turns old new here call more _ _ (ReachedBy.ByLeave j others before after there leave) same =
      let equal : Turn.Step actor ≡ Turn.Leave j = (last_same turns others (Turn.Step actor) (Turn.Leave j) same).1 in cc

  -- The last turn of the first was one by which an actor leaves: so was that of the second.
  from_leave : (actor : ℕ) (turns : List Turn) (old new : Position) → ReachedBy setup turns old → Leaves setup actor old new →
      ((others : List Turn) (q : Position) → ReachedBy setup others q → turns ≡ others → Meet old q) →
      (others : List Turn) (q : Position) → ReachedBy setup others q → turns ++ Turn.Leave actor ∷ [] ≡ others → Meet new q
  from_leave actor turns old new here leave more _ _ (ReachedBy.Starts q begun) same = last_none turns (Turn.Leave actor) same
  from_leave actor turns old new here leave more _ _ (ReachedBy.ByPass j others before after there pass) same =
      right_pass j new before after (Reached.ByLeave actor old new (by_turns setup turns old here) leave)
      (by_turns setup others before there) pass (from_leave actor turns old new here leave more others before there same)
  from_leave actor turns old new here leave more _ _ (ReachedBy.ByCall j others before after there call) same =
      let equal : Turn.Leave actor ≡ Turn.Step j = (last_same turns others (Turn.Leave actor) (Turn.Step j) same).1 in cc
  from_leave actor turns old new here leave more _ _ (ReachedBy.ByLeave j others before after there again) same =
      let equal = last_same turns others (Turn.Leave actor) (Turn.Leave j) same in
      both_leave actor old new before after (by_turns setup turns old here) (by_turns setup others before there) leave
      (subst (λ (k : ℕ). Leaves setup k before after) (sym (ap mover equal.1)) again) (more others before there equal.0)

  -- By induction on the turns and passes of both.
  both_meet : (turns : List Turn) (p : Position) → ReachedBy setup turns p → (others : List Turn) (q : Position) →
      ReachedBy setup others q → turns ≡ others → Meet p q
  both_meet _ _ (ReachedBy.Starts p begins) = from_start p begins
  both_meet _ _ (ReachedBy.ByPass actor turns old new before pass) = λ others q there same.
      left_pass actor old new q (by_turns setup turns old before) (by_turns setup others q there) pass
      (both_meet turns old before others q there same)
  both_meet _ _ (ReachedBy.ByCall actor turns old new before call) =
      from_call actor turns old new before call (both_meet turns old before)
  both_meet _ _ (ReachedBy.ByLeave actor turns old new before leave) =
      from_leave actor turns old new before leave (both_meet turns old before)

  -- Who has passed what it can passes nothing more.
  pub same_turns : (way : List Turn) (p q : Position) → IsAt setup way p → IsAt setup way q → Like p q
  same_turns way p q one other =
      let m = both_meet way p one.reached way q other.reached refl in
      subst (λ (x : Position). Like x q) (all_rest setup p m.one m.on one.rests)
      (subst (λ (x : Position). Like m.one x) (all_rest setup q m.other m.over other.rests) m.alike)

  -- ---- closed ways

  -- where each of these ways leads
  abbrev places : (ways : List (List Turn)) → ((way : List Turn) → In way ways → (p : Position) × IsAt setup way p) → List Position
  places [] real = []
  places (way ∷ ways) real = (real way (inl refl)).0 ∷ places ways (λ w on. real w (inr on))

  -- A way leads to each of them.
  place_way : (ways : List (List Turn)) (real : (way : List Turn) → In way ways → (p : Position) × IsAt setup way p) (p : Position) →
      In p (places ways real) → (way : List Turn) × In way ways × IsAt setup way p
  place_way [] real p on = absurd on
  place_way (way ∷ ways) real p (inl is) =
      (way, inl refl, subst (IsAt setup way) (sym is) (real way (inl refl)).1)
  place_way (way ∷ ways) real p (inr on) =
      let more = place_way ways (λ w there. real w (inr there)) p on in
      (more.0, inr more.1, more.2)

  -- Each way leads to one of them.
  way_place : (ways : List (List Turn)) (real : (way : List Turn) → In way ways → (p : Position) × IsAt setup way p) (way : List Turn) →
      In way ways → (p : Position) × In p (places ways real) × IsAt setup way p
  way_place [] real way on = absurd on
  way_place (first ∷ ways) real way (inl is) = (
    (real first (inl refl)).0,
    inl refl,
    subst (λ (w : List Turn). IsAt setup w (real first (inl refl)).0) (sym is)
        (real first (inl refl)).1,
  )
  way_place (first ∷ ways) real way (inr on) =
      let more = way_place ways (λ w there. real w (inr there)) way on in
      (more.0, inr more.1, more.2)

  module _ (ways : List (List Turn)) (closed : AreClosedWays setup Like ways) where
    -- the positions to which they lead
    abbrev rows : List Position
    rows = places ways closed.real

    -- What leads back to a way was met.
    back_met : (p : Position) → LeadsBack setup Like ways p → IsMet setup Like rows p
    back_met p back =
        let row = way_place ways closed.real back.way back.met in
        record {
          rested = back.rested;
          row = row.0;
          passes = back.passes;
          met = row.1;
          alike = like.composes back.rested back.row row.0 back.alike (same_turns back.way back.row row.0 back.is_at row.2);
        }

    -- Closed ways are closed positions.
    ways_closed : IsClosed setup Like rows
    ways_closed = record {
      real = λ p on. let way = place_way ways closed.real p on in by_turns setup way.0 p way.2.reached;
      rest = λ p on. let way = place_way ways closed.real p on in way.2.rests;
      start = (closed.start.0, closed.start.1, back_met closed.start.0 closed.start.2);
      calls = λ p on actor asks.
          let way = place_way ways closed.real p on in
          let tried = closed.calls way.0 way.1 actor (slice_get_within setup.clients actor asks.client asks.caller) in
          record {
            tried = tried.tried;
            reached = by_turns setup way.0 tried.tried tried.is_at.reached;
            alike = same_turns way.0 p tried.tried way.2 tried.is_at;
            turn = λ again. called way.0 actor tried again (tried.turn again);
          };
      leaves = λ p on actor goes.
          let way = place_way ways closed.real p on in
          let tried = closed.leaves way.0 way.1 actor (slice_get_within setup.clients actor goes.client goes.caller) in
          record {
            tried = tried.tried;
            reached = by_turns setup way.0 tried.tried tried.is_at.reached;
            alike = same_turns way.0 p tried.tried way.2 tried.is_at;
            turn = λ again. let turn = tried.turn again in (turn.0, turn.1, back_met turn.0 turn.2);
          };
    }
      where
        -- by whether it has to wait
        called : (way : List Turn) (actor : ℕ) (tried : IsCallTried setup Like ways way actor) → (asks : Asks setup actor tried.tried) →
            HasToWait setup actor tried.tried asks
            ⊎ ((new : Position) × Calls setup actor tried.tried new × LeadsBack setup Like ways new) →
            HasToWait setup actor tried.tried asks
            ⊎ ((new : Position) × Calls setup actor tried.tried new × IsMet setup Like rows new)
        called way actor tried asks (inl waits) = inl waits
        called way actor tried asks (inr turn) = inr (turn.0, turn.1, back_met turn.0 turn.2)

    -- A play in which all have passed what they can is like one by one of these ways.
    pub way_met : (p : Position) → Reached setup p → ((actor : ℕ) → Rests setup p actor) →
        (way : List Turn) × In way ways × ((row : Position) × IsAt setup way row × Like p row)
    way_met p reached rests =
        let met = rested_met setup Like like rows ways_closed p reached rests in
        let way = place_way ways closed.real met.0 met.1 in
        (way.0, way.1, (met.0, way.2, met.2))
