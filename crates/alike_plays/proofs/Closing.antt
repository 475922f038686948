-- Where no turn leads out of what was met, each play comes to what was met, but for names.
use Rattle.alike_plays.proofs.Common.{AreAlikeAll, AreAlikeCores, AreAlikePlays, Asks, Begins, Bool, Calls, Collection, Entry, Fired}
use Rattle.alike_plays.proofs.Common.{GoneNode, HasToWait, In, IsClosed, IsMet, IsSimulation, KnownCall, List, NodeKey, PassOn, Position}
use Rattle.alike_plays.proofs.Common.{Reached, Rests, Setup, Shows, Stage, State, StepCall, [], all_rest, answer, ap, both_ways}
use Rattle.alike_plays.proofs.Common.{collection_renamed, fall_renamed, fault_fallen, first_stage, further, given, inl, inr, is_wait}
use Rattle.alike_plays.proofs.Common.{joins, map, no_key, option_map, reached_on, readings_of, refl, subst, sym, true, undated, ℕ, ◌&&◌}
use Rattle.alike_plays.proofs.Common.{◌∙◌, ◌∷◌, ◌≡◌, ◌≤◌}
use Rattle.sm_names.specs.Answers.{key_told}
use Rattle.sm_names.specs.Timelines.{timeline}
use Rattle.sm_names.specs.Trackers.{Tracked}
use Rattle.core_state.specs.Shown.{IsAfter, collection_after, kept_ids, tracked_as}
use Rattle.core_state.specs.State.{HandleCounts}
use Rattle.alike_cores.specs.Cores.{tracker_renamed}
use Rattle.alike_cores.specs.Mixed.{Mixed}
use Rattle.alike_cores.proofs.Composing.{alike-same}
use Rattle.alike_plays.proofs.Composing.{plays-composed}
use Rattle.alike_plays.proofs.Passing.{call_on, leave_on, past}
use Rattle.alike_plays.proofs.Reaching.{IsSeen, asks_known, reached_seen}
use Rattle.alike_plays.proofs.Turning.{AskAlike, asks_both, calls_alike, leaves_alike, names_old, other_asks, other_goes, pass_alike}
use Rattle.alike_plays.proofs.Turning.{pass_back}
use Rattle.alike_plays.proofs.Waiting.{waits_alike}

-- ---- the start

-- Cores with one pool and one set of limits that show one history are alike: all that this speaks of is told by the history.
shown_alike : (s t : State) (history : List Entry) → Shows s history → Shows t history → t.pool ≡ s.pool → t.limits ≡ s.limits →
    AreAlikeCores (λ key. key) (λ id. id) (λ n. n) s t
shown_alike s t history one other pool limits = record {
  pool = pool;
  limits = limits;
  clients = (there.clients ∙ sym one.shown.clients) ∙ own.clients;
  collections = subst (λ (cs : List Collection). Mixed (map (collection_renamed (λ key. key) (λ id. id)) s.forest.collections)
      (map undated cs))
      (one.shown.collections
      ∙ (ap (λ (p : ℕ). map (collection_after p (timeline s.pool history)) (kept_ids (timeline s.pool history))) (sym pool)
      ∙ sym there.collections))
      own.collections;
  open_of = λ client b strength. ap (λ (h : HandleCounts). h.of client b strength) (there.handles ∙ sym one.shown.handles);
  total = λ b strength. ap (λ (h : HandleCounts). h.total b strength) (there.handles ∙ sym one.shown.handles);
  unfired = subst (λ (ts : List Tracked).
      Mixed (map (λ w. tracker_renamed (λ key. key) (λ id. id) (λ n. n) (tracked_as w)) s.trackers.unfired) ts)
      (one.shown.trackers.waiting ∙ sym there.trackers.waiting) own.unfired;
  fired = subst (λ (fs : List Fired). Mixed (map (λ (f : Fired). f.tracker) s.trackers.fired) (map (λ (f : Fired). f.tracker) fs))
      (one.shown.trackers.fired ∙ sym there.trackers.fired) own.fired;
}
  where
    -- it is alike to itself
    own : AreAlikeCores (λ key. key) (λ id. id) (λ n. n) s s
    own = alike-same s

    -- the other is what the same marks make of it
    there : IsAfter t (timeline s.pool history)
    there = subst (λ (p : ℕ). IsAfter t (timeline p history)) pool other.shown

-- No actor knows anything at the start.
first_alike : (to : NodeKey → NodeKey) (id number : ℕ → ℕ) (clients : List ℕ) →
    AreAlikeAll to id number (map (λ (client : ℕ). first_stage) clients) (map (λ (client : ℕ). first_stage) clients)
first_alike to id number [] = tt
first_alike to id number (c ∷ cs) = (
  record {
    at = refl;
    known = record {
      nodes = λ label. refl;
      trackers = λ label. refl;
      objects = refl;
      spots = λ key. refl;
      handles = λ strength b. refl;
    };
    made = refl;
    vanish = refl;
  },
  first_alike to id number cs,
)

-- Two starts are alike.
pub starts_alike : (setup : Setup) (one other : Position) → Begins setup one → Begins setup other → AreAlikePlays one other
starts_alike setup one other a b = record {
  to = λ key. key;
  id = λ i. i;
  number = λ n. n;
  keeps = λ x y. refl;
  kept = λ x y. refl;
  counted = λ x y. refl;
  cores = shown_alike one.core other.core (joins setup.clients) a.shows b.shows (b.pool ∙ sym a.pool) (b.limits ∙ sym a.limits);
  stages = subst (λ (ss : List Stage). AreAlikeAll (λ key. key) (λ i. i) (λ n. n) ss other.stages) (sym a.stages)
      (subst (AreAlikeAll (λ key. key) (λ i. i) (λ n. n) (map (λ (client : ℕ). first_stage) setup.clients)) (sym b.stages)
      (first_alike (λ key. key) (λ i. i) (λ n. n) setup.clients));
  fallen = λ key. ap (λ (falls : List GoneNode). fault_fallen falls key) b.falls
      ∙ sym (ap (λ (falls : List GoneNode). option_map (fall_renamed (λ k. k)) (fault_fallen falls key)) a.falls);
}

module _ (setup : Setup) where
  -- A step that makes a turn does not have to wait in the play that was met.
  pub no_wait : (actor : ℕ) (p row new : Position) (alike : AreAlikePlays p row) → IsSeen p → IsSeen row →
      (c : Calls setup actor p new) (b : Asks setup actor row) → HasToWait setup actor row b → ⊥
  no_wait actor p row new alike seen seen_too c b waits =
      both_ways (c.asks.next.waits && is_wait c.reply) (sym same ∙ waits) c.waits
    where
      -- both ask for the same
      old : AskAlike setup actor p row alike.to alike.id alike.number c.asks b
      old = asks_both setup actor p row alike.to alike.id alike.number alike.stages c.asks b

      -- so both wait, or none does
      same : (b.next.waits && is_wait (answer row.core.limits (readings_of row.core) b.client no_key b.asked.call))
          ≡ (c.asks.next.waits && is_wait c.reply)
      same = (λ i. (old.next i).waits
          && is_wait (answer row.core.limits (readings_of row.core) (old.client i) no_key (old.asked i).call))
          ∙ ap (λ (w : Bool). c.asks.next.waits && w)
          (waits_alike alike.to alike.id alike.number alike.keeps alike.kept alike.counted p.core row.core seen.history seen_too.history
          seen.shows seen_too.shows alike.cores c.asks.client c.asks.asked.call
          (names_old alike.to alike.id p.core row.core c.asks.asked.call (asks_known setup p seen actor c.asks)
          (subst (λ (x : StepCall). KnownCall (λ key. given row.core.forest key ≡ true) (λ i. i ≤ row.core.events) x.call) old.asked
          (asks_known setup row seen_too actor b)))
          (key_told c.reply)
          ∙ ap is_wait (sym c.made.answer.told))

  -- Plays that are alike but for names do the same.
  pub alike_simulates : IsSimulation setup AreAlikePlays
  alike_simulates = record {
    starts = starts_alike setup;
    composes = plays-composed;
    passes = λ actor one other reached reached_too alike. pass_alike setup actor one other alike;
    back = λ actor one other reached reached_too alike. pass_back setup actor one other alike;
    asks = λ actor one other reached reached_too alike. other_asks setup actor one other alike;
    waits = λ actor one other new reached reached_too alike. no_wait actor one other new alike (reached_seen setup one reached)
        (reached_seen setup other reached_too);
    calls = λ actor one other new again reached reached_too alike. calls_alike setup actor one other alike
        (reached_seen setup one reached) (reached_seen setup other reached_too) new again;
    goes = λ actor one other reached reached_too alike g. other_goes setup actor one other alike
        (λ again pass. let step = pass_back setup actor one other alike again pass in g.rests step.0 step.1) g;
    leaves = λ actor one other new again reached reached_too alike. leaves_alike setup actor one other alike
        (reached_seen setup one reached) (reached_seen setup other reached_too) new again;
  }

module _ (setup : Setup) (Like : Position → Position → Type 0) (like : IsSimulation setup Like) where
  -- Pass by pass, the first goes on as the second.
  back_on : (other again : Position) → PassOn setup other again → Reached setup other → (one : Position) → Reached setup one →
      Like one other → (new : Position) × PassOn setup one new × Like new again
  back_on _ _ (PassOn.Stays other) there one here alike = (one, PassOn.Stays one, alike)
  back_on _ _ (PassOn.Further actor other mid again first on) there one here alike =
      let step = like.back actor one other here there alike mid first in
      let more = back_on mid again on (Reached.ByPass actor other mid there first) step.0 (Reached.ByPass actor one step.0 here step.1)
      step.2 in
      (more.0, PassOn.Further actor one step.0 more.0 step.1 more.1, more.2)

  -- Where the second rests, the first does.
  rests_like : (actor : ℕ) (one other : Position) → Reached setup one → Reached setup other → Like one other →
      Rests setup other actor → Rests setup one actor
  rests_like actor one other here there alike rests new pass =
      let step = like.passes actor one other here there alike new pass in
      rests step.0 step.1

  module _ (rows : List Position) (closed : IsClosed setup Like rows) where
    -- What passes on to what is like what was met, was met.
    lands : (p one other : Position) → PassOn setup p one → Reached setup one → Reached setup other → Like one other →
        IsMet setup Like rows other → IsMet setup Like rows p
    lands p one other on here there alike met =
        let back = back_on other met.rested met.passes there one here alike in
        record {
          rested = back.0;
          row = met.row;
          passes = further setup p one back.0 on back.1;
          met = met.met;
          alike = like.composes back.0 met.rested met.row back.2 met.alike;
        }

    -- By induction on the turns.
    pub all_met : (p : Position) → Reached setup p → IsMet setup Like rows p
    all_met _ (Reached.Starts p begins) =
        lands p p closed.start.0 (PassOn.Stays p) (Reached.Starts p begins) (Reached.Starts closed.start.0 closed.start.1)
        (like.starts p closed.start.0 begins closed.start.1) closed.start.2
    all_met _ (Reached.ByPass actor old new before pass) =
        let m = all_met old before in
        record {
          rested = m.rested;
          row = m.row;
          passes = past setup old m.rested m.passes actor
              (rests_like actor m.rested m.row (reached_on setup old m.rested m.passes before) (closed.real m.row m.met) m.alike
              (closed.rest m.row m.met actor)) new pass;
          met = m.met;
          alike = m.alike;
        }
    all_met _ (Reached.ByCall actor old new before call) =
        let m = all_met old before in
        let on = call_on setup old m.rested m.passes actor new call in
        let here = reached_on setup old m.rested m.passes before in
        let tried = closed.calls m.row m.met actor
        (like.asks actor m.rested m.row here (closed.real m.row m.met) m.alike on.1.asks) in
        let same = like.composes m.rested m.row tried.tried m.alike tried.alike in
        let asks = like.asks actor m.rested tried.tried here tried.reached same on.1.asks in
        elim (tried.turn asks) [
          | inl waits ↦ absurd (like.waits actor m.rested tried.tried on.0 here tried.reached same on.1 asks waits)
          | inr turn ↦ lands new on.0 turn.0 on.2 (Reached.ByCall actor m.rested on.0 here on.1)
              (Reached.ByCall actor tried.tried turn.0 tried.reached turn.1)
              (like.calls actor m.rested tried.tried on.0 turn.0 here tried.reached same on.1 turn.1) turn.2
        ]
    all_met _ (Reached.ByLeave actor old new before leave) =
        let m = all_met old before in
        let on = leave_on setup old m.rested m.passes actor new leave in
        let here = reached_on setup old m.rested m.passes before in
        let tried = closed.leaves m.row m.met actor
        (like.goes actor m.rested m.row here (closed.real m.row m.met) m.alike on.1.goes) in
        let same = like.composes m.rested m.row tried.tried m.alike tried.alike in
        let turn = tried.turn (like.goes actor m.rested tried.tried here tried.reached same on.1.goes) in
        lands new on.0 turn.0 on.2 (Reached.ByLeave actor m.rested on.0 here on.1)
        (Reached.ByLeave actor tried.tried turn.0 tried.reached turn.1)
        (like.leaves actor m.rested tried.tried on.0 turn.0 here tried.reached same on.1 turn.1) turn.2

    -- A play in which all have passed what they can is like one that was met.
    pub rested_met : (p : Position) → Reached setup p → ((actor : ℕ) → Rests setup p actor) →
        (row : Position) × In row rows × Like p row
    rested_met p reached rest =
        let m = all_met p reached in (
          m.row,
          m.met,
          subst (λ (x : Position). Like x m.row) (all_rest setup p m.rested m.passes rest) m.alike,
        )
