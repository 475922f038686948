-- What is told of the fates of nodes where a play came.
use Rattle.fate_laws.proofs.Common.{Birth, Bool, Call, Entry, GoneNode, List, Node, NodeKey, None, Option, Plays, Reply, Shows, Some}
use Rattle.fate_laws.proofs.Common.{State, Timeline, Turn, [], after, ap, birth_is, birth_of, births, cond, false, fault, gone, is_kept}
use Rattle.fate_laws.proofs.Common.{is_some-find, joins, legal_grows, node_after, option_map, option_map_or, refl, same_key, subst, sym}
use Rattle.fate_laws.proofs.Common.{timeline, true, was_born, ℕ, ◌++◌, ◌∙◌, ◌∷◌, ◌≡◌}
use Rattle.std.proofs.Common.{is_some}
use Rattle.std.specs.List.{fold}
use Rattle.sm_names.specs.Losses.{allocated, released}
use Rattle.history_laws.proofs.HistoryLaws.{timeline-push}
use Rattle.forest_store.specs.Forest.{node_at}
use Rattle.core_state.specs.Theorem.{Makes}
use Rattle.core_state.proofs.theorem.GoesOn.{goes_on}
use Rattle.core_state.proofs.views.Nodes.{node_is}
use Rattle.explore_model.specs.declared.outcome.StepPlace.{StepPlace}
use Rattle.actor_plays.specs.Endings.{fate_by, fate_gone, fate_of, fate_there}
use Rattle.actor_plays.specs.Positions.{Begins, Calls, Fell, Leaves, Passes, Position, ReachedBy, Setup}
use Rattle.fate_laws.specs.Fates.{fate_after}
use Rattle.fate_laws.proofs.Events.{event_told}
use Rattle.fate_laws.proofs.Fell.{AreToldOf, fell}

-- ---- fates

module _ (s : State) (history : List Entry) (shows : Shows s history) (falls : List GoneNode)
    (told : AreToldOf falls (timeline s.pool history)) (maker : NodeKey → Option StepPlace) where
  -- the marks
  abbrev marks : Timeline
  marks = timeline s.pool history

  -- A node that is kept is as the marks make it; one that is not is told of, if it was ever born.
  pub fate_is : (key : NodeKey) → fate_by maker s falls key ≡ fate_after maker (timeline s.pool history) key
  fate_is key =
      (λ i. option_map_or (λ (n : Node). Some (fate_of maker n)) (kept i) (option_map (fate_gone maker) (told key i)))
      ∙ by (is_kept marks key) (gone marks key) (birth_of marks key) refl refl refl
    where
      -- how it is kept
      kept : node_at s.forest key ≡ cond (is_kept marks key) (option_map (node_after marks) (birth_of marks key)) None
      kept = node_is s marks shows.shown s.limits (legal_grows s.pool s.limits history shows.legal) key

      -- it was born
      born : (b : Birth) → birth_of marks key ≡ Some b → was_born (births marks) key ≡ true
      born b e = sym (is_some-find (λ (b : Birth). same_key b.node key) (births marks)) ∙ ap is_some e

      -- by cases on whether it is kept, is gone and was born
      by : (k g : Bool) (o : Option Birth) → is_kept marks key ≡ k → gone marks key ≡ g → birth_of marks key ≡ o →
          option_map_or (λ (n : Node). Some (fate_of maker n)) (cond k (option_map (node_after marks) o) None)
          (option_map (fate_gone maker) (cond g (Some (fault marks key)) None))
          ≡ fate_after maker marks key
      by true true None k g o = rw g refl
      by false true o k g e = rw g refl
      by true true (Some b) k g e =
          let same : b.node ≡ key = (birth_is marks key b e).1 in
          rw (ap (gone marks) same ∙ g, g) (ap (λ (x : NodeKey). Some (fate_gone maker (fault marks x))) same)
      by true false None k g o =
          rw (g, sym (is_some-find (λ (b : Birth). same_key b.node key) (births marks)) ∙ ap is_some o) refl
      by true false (Some b) k g e =
          let same : b.node ≡ key = (birth_is marks key b e).1 in
          rw (ap (gone marks) same ∙ g, g, born b e)
          (ap (λ (x : NodeKey). Some (fate_there (released marks x) (allocated marks x))) same)
      by false false o k g e = cc

-- ---- where a play came

-- the turns made this history, which the core shows, and in which these nodes fell
pub record IsTold (setup : Setup) (turns : List Turn) (p : Position) : Type 0 where
  pub history : List Entry
  pub plays : Plays setup.plans setup.clients turns history p.stages
  pub shows : Shows p.core history
  pub told : AreToldOf p.falls (timeline p.core.pool history)

-- No join takes a node.
joined_gone : (pool : ℕ) (clients : List ℕ) (before : Timeline) (key : NodeKey) → gone before key ≡ false →
    gone (fold (after pool) before (joins clients)) key ≡ false
joined_gone pool [] before key here = here
joined_gone pool (c ∷ cs) before key here = joined_gone pool cs (after pool before (0, Call.Join, Reply.Joined c)) key here

-- One event more is told.
told_more : (old new : Position) (history : List Entry) (client : ℕ) (call : Call) (reply : Reply) → Shows old.core history →
    Makes old.core new.core (client, call, reply) → Fell old new client call reply →
    AreToldOf old.falls (timeline old.core.pool history) →
    AreToldOf new.falls (timeline new.core.pool (history ++ (client, call, reply) ∷ []))
told_more old new history client call reply shows makes fell told =
    subst (λ (pool : ℕ). AreToldOf new.falls (timeline pool (history ++ (client, call, reply) ∷ []))) (sym makes.after.pool)
    (subst (AreToldOf new.falls) (sym (timeline-push old.core.pool history (client, call, reply)))
    (subst (λ (l : List GoneNode). AreToldOf l (after old.core.pool (timeline old.core.pool history) (client, call, reply))) (sym
    fell.falls)
    (event_told old.core new.core history client call reply shows makes.answer makes.after fell.marks fell.are old.falls told)))

module _ (setup : Setup) where
  -- At the start no node fell.
  begins_told : (p : Position) → Begins setup p → IsTold setup [] p
  begins_told p b = record {
    history = joins setup.clients;
    plays = subst (Plays setup.plans setup.clients [] (joins setup.clients)) (sym b.stages) (Plays.Starts b.count);
    shows = b.shows;
    told = subst (λ (l : List GoneNode). AreToldOf l (timeline p.core.pool (joins setup.clients))) (sym b.falls)
        (λ key. rw (joined_gone p.core.pool setup.clients [] key refl) refl);
  }

  -- A pass makes no event.
  pass_told : (turns : List Turn) (actor : ℕ) (old new : Position) → IsTold setup turns old → Passes setup actor old new →
      IsTold setup turns new
  pass_told turns actor old new t pass = subst (IsTold setup turns) (sym pass.after) (record {
    history = t.history;
    plays = Plays.Passes turns t.history old.stages actor pass.stage pass.next old.core t.plays pass.at pass.step pass.silent t.shows
        pass.looks;
    shows = t.shows;
    told = t.told;
  })

  -- A call makes one.
  call_told : (turns : List Turn) (actor : ℕ) (old new : Position) → IsTold setup turns old → Calls setup actor old new →
      IsTold setup (turns ++ Turn.Step actor ∷ []) new
  call_told turns actor old new t c = record {
    history = t.history ++ (c.asks.client, c.asks.asked.call, c.reply) ∷ [];
    plays = subst (Plays setup.plans setup.clients (turns ++ Turn.Step actor ∷ [])
        (t.history ++ (c.asks.client, c.asks.asked.call, c.reply) ∷ [])) (sym c.stages)
        (Plays.Calls turns t.history old.stages actor c.asks.client c.asks.stage c.asks.next c.asks.asked c.reply t.plays c.asks.at
        c.asks.step c.asks.call c.asks.caller c.waits);
    shows = goes_on old.core new.core c.asks.client c.asks.asked.call c.reply c.made.answer c.made.after c.made.room t.history t.shows;
    told = told_more old new t.history c.asks.client c.asks.asked.call c.reply t.shows c.made c.fell t.told;
  }

  -- And so does one by which an actor leaves.
  leave_told : (turns : List Turn) (actor : ℕ) (old new : Position) → IsTold setup turns old → Leaves setup actor old new →
      IsTold setup (turns ++ Turn.Leave actor ∷ []) new
  leave_told turns actor old new t l = record {
    history = t.history ++ (l.goes.client, l.goes.call, l.reply) ∷ [];
    plays = subst (Plays setup.plans setup.clients (turns ++ Turn.Leave actor ∷ [])
        (t.history ++ (l.goes.client, l.goes.call, l.reply) ∷ [])) (sym l.stages)
        (Plays.Leaves turns t.history old.stages actor l.goes.client l.goes.stage l.goes.call l.reply t.plays l.goes.at l.goes.by
        l.goes.caller);
    shows = goes_on old.core new.core l.goes.client l.goes.call l.reply l.made.answer l.made.after l.made.room t.history t.shows;
    told = told_more old new t.history l.goes.client l.goes.call l.reply t.shows l.made l.fell t.told;
  }

  -- By induction on the turns.
  pub reached_told : (turns : List Turn) (p : Position) → ReachedBy setup turns p → IsTold setup turns p
  reached_told _ _ (ReachedBy.Starts p begins) = begins_told p begins
  reached_told _ _ (ReachedBy.ByPass actor turns old new before pass) = pass_told turns actor old new (reached_told turns old before) pass
  reached_told _ _ (ReachedBy.ByCall actor turns old new before call) = call_told turns actor old new (reached_told turns old before) call
  reached_told _ _ (ReachedBy.ByLeave actor turns old new before leave) =
      leave_told turns actor old new (reached_told turns old before) leave
