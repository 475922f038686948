-- Where no turn leads out of what a search met, and each play of it that is over ends as one of these outcomes says, none is missing.
use Rattle.play_search.proofs.Common.{AlikeIn, AreAlikeAhead, AreClosedIn, AreRowsEnded, Bool, Found, IsAt, IsOnWay, IsOver, List}
use Rattle.play_search.proofs.Common.{NoneIsMissing, Plan, Play, Position, Reached, Rests, Row, Setting, Setup, TakesTurn, Turn, Turned}
use Rattle.play_search.proofs.Common.{Vanishing, all_rest, began_early, both_ways, is_made, length, must_leave, position_of, reached_seen}
use Rattle.play_search.proofs.Common.{same_turns, setup_of, stages_of, subst, true, way_met, way_to, ways_of, ℕ, ◌∙◌, ◌≡◌}
use Rattle.actor_plays.specs.Positions.{Calls}
use Rattle.actor_plays.proofs.PositionLaws.{by_turns}
use Rattle.alike_plays.proofs.Ending.{ends-same}
use Rattle.play_search.specs.Ends.{EndsAsOne, HasToLeave}
use Rattle.play_search.proofs.ClosingLaws.{do_the_same, in_way}
use Rattle.play_search.proofs.EndLaws.{all_vanished, over_alike}

-- What ends the second play ends the first: they end the same, and the same ones left before their end.
pub ends_as_alike : (setup : Setup) (at_end : Bool) (p r : Position) → Reached setup p →
    AreAlikeAhead (began_early at_end setup.plans) p r → (outcomes : List Found) → EndsAsOne at_end setup.plans outcomes r →
    EndsAsOne at_end setup.plans outcomes p
ends_as_alike setup at_end p r reached like outcomes one = (
  one.0,
  one.1,
  record {
    ends = one.2.ends ∙ ends-same (began_early at_end setup.plans) p r (reached_seen setup p reached) like;
    vanished_are = one.2.vanished_are ∙ all_vanished at_end setup.plans p r like;
  },
)

module _ (plans : List Plan) (vanishing : Vanishing) (setting : Setting) (rows : List Row) (outcomes : List Found) where
  -- Each play that is over is like one of a row, which is over then, and ends as one of the outcomes says.
  pub none_missing : AreClosedIn plans vanishing setting rows →
      AreRowsEnded plans vanishing setting rows outcomes (length rows) →
      NoneIsMissing vanishing.at_end (setup_of plans vanishing setting) outcomes
  none_missing closed ended p reached rests over =
      let met = way_met (setup_of plans vanishing setting) (AlikeIn plans vanishing) (do_the_same plans vanishing setting) (ways_of rows)
      closed p reached rests in
      let at = in_way rows (length rows) met.0 met.1 in
      let mine = ended at.0 at.1 in
      let same : AlikeIn plans vanishing met.2.0 mine.end =
      same_turns (setup_of plans vanishing setting) (AlikeIn plans vanishing) (do_the_same plans vanishing setting) (way_to rows at.0)
      met.2.0 mine.end
      (subst (λ (w : List Turn). IsAt (setup_of plans vanishing setting) w met.2.0) at.2 met.2.1) mine.is_at in
      let like : AlikeIn plans vanishing p mine.end =
      (do_the_same plans vanishing setting).composes p met.2.0 mine.end met.2.2 same in
      let there = by_turns (setup_of plans vanishing setting) (way_to rows at.0) mine.end mine.is_at.reached in
      ends_as_alike (setup_of plans vanishing setting) vanishing.at_end p mine.end reached like outcomes
      (mine.ends (over_alike (began_early vanishing.at_end plans) p mine.end like vanishing.at_end (setup_of plans vanishing setting)
      reached there over))

module _ (plans : List Plan) (vanishing : Vanishing) (setting : Setting) (old : Play) where
  -- A play is not over where an actor must leave.
  pub left_open : HasToLeave vanishing.at_end plans (stages_of old) →
      IsOver vanishing.at_end (setup_of plans vanishing setting) (position_of old) → ⊥
  left_open there over =
      both_ways (must_leave vanishing.at_end plans there.0 there.1.0) there.1.2 (over.stays there.0 there.1.0 there.1.1)

  -- Nor is it where an actor makes the call of its next step, if all have passed what they can.
  made_on : (new : Play) (actor : ℕ) → IsOnWay plans vanishing setting old →
      ((k : ℕ) → Rests (setup_of plans vanishing setting) (position_of old) k) → TakesTurn plans old new actor Turned.Made →
      IsOver vanishing.at_end (setup_of plans vanishing setting) (position_of old) → ⊥
  made_on new actor way rests takes over =
      let turn = takes (setup_of plans vanishing setting) way.setup_is in
      let calls : Calls (setup_of plans vanishing setting) actor (position_of old) (position_of new) =
      subst (λ (q : Position). Calls (setup_of plans vanishing setting) actor q (position_of new))
      (all_rest (setup_of plans vanishing setting) (position_of old) turn.mid turn.passes rests) turn.comes in
      let here : IsAt (setup_of plans vanishing setting) old.turns.items (position_of old) =
      record { reached = way.reached; rests = rests } in
      let reached = by_turns (setup_of plans vanishing setting) old.turns.items (position_of old) way.reached in
      (do_the_same plans vanishing setting).waits actor (position_of old) (position_of old) (position_of new) reached reached
      (same_turns (setup_of plans vanishing setting) (AlikeIn plans vanishing) (do_the_same plans vanishing setting) old.turns.items
      (position_of old) (position_of old) here here) calls calls.asks (over.waits actor calls.asks)

  -- By what came of the turn.
  pub turned_on : (new : Play) (actor : ℕ) (turned : Turned) → IsOnWay plans vanishing setting old →
      ((k : ℕ) → Rests (setup_of plans vanishing setting) (position_of old) k) → TakesTurn plans old new actor turned →
      is_made turned ≡ true → IsOver vanishing.at_end (setup_of plans vanishing setting) (position_of old) → ⊥
  turned_on new actor Turned.Made way rests takes made = made_on new actor way rests takes
  turned_on new actor Turned.Waits way rests takes made = cc
  turned_on new actor Turned.Rests way rests takes made = cc
