-- The mark that a call makes itself is that of its change.
use Rattle.forced_marks.proofs.Common.{Bool, Bound, Call, Cause, Change, Collection, Effect, Grows, List, Loss, Mark, Node, NodeKey, None}
use Rattle.forced_marks.proofs.Common.{Option, Reply, Some, State, Timeline, Work, [], ap, collection_at, cons_option, false, gone}
use Rattle.forced_marks.proofs.Common.{laid_on, not, own_loss, own_mark, refl, some-injective, sym, when, work_of, ℕ, ◌∙◌, ◌≡◌}
use Rattle.std.specs.Option.{option_map}
use Rattle.sm_names.specs.declared.outcomes.Misuse.{Misuse}
use Rattle.sm_names.specs.Timelines.{key_of}
use Rattle.sm_names.proofs.SamenessLaws.{and_then-Some, map-Some}
use Rattle.forest_store.specs.Forest.{node_at}
use Rattle.core_state.specs.Shown.{IsAfter}
use Rattle.core_state.specs.Steps.{at_collection, at_node}
use Rattle.core_state.proofs.forced.Dropping.{took_last}
use Rattle.core_state.proofs.forced.Losing.{IsLosing, losing, no_work}
use Rattle.core_state.proofs.views.Nodes.{node_there}
use Rattle.core_state.proofs.answers.Changes.{own_misused}

module _ (s : State) (marks : Timeline) (shown : IsAfter s marks) (limits : Bound) (grown : Grows s.pool limits [] marks) where
  -- an effect is no mark
  own_effect : (key : NodeKey) (effect : Effect) (w : Work) → at_node s.forest key (λ n. Change.Effect key effect) ≡ Some w →
      None ≡ own_mark w.change
  own_effect key effect w e =
      let t = map-Some (λ (n : Node). record { collection = n.collection; change = Change.Effect key effect }) (node_at s.forest key) w e in
      ap (λ (x : Work). own_mark x.change) t.2

  -- nor is a drop
  own_drop : (id : ℕ) (w : Work) → at_collection s.forest id Change.Nothing ≡ Some w → None ≡ own_mark w.change
  own_drop id w e =
      let t = map-Some (λ (c : Collection). record { collection = id; change = Change.Nothing }) (collection_at s.forest id) w e in
      ap (λ (x : Work). own_mark x.change) t.2

  -- a Close loses a node that is not gone
  own_close : (client : ℕ) (key : NodeKey) (w : Work) → work_of s client (Call.Close key) Reply.Done ≡ Some w →
      own_loss marks (Call.Close key) Reply.Done ≡ own_mark w.change
  own_close client key w e =
      let l : IsLosing s.forest key Cause.Lost w = losing s.forest key Cause.Lost w e in
      let r = node_there s marks shown limits grown key l.node l.at in
      let here : gone marks key ≡ false = ap (gone marks) (sym r.2) ∙ (ap (λ (n : Node). n.gone) (sym r.4) ∙ l.here) in
      let t = map-Some (λ (n : Node). record { collection = n.collection; change = Change.Loss key Cause.Lost })
      (node_at s.forest key) w l.work_at in
      ap (λ (b : Bool). when (not b) (Loss key Cause.Lost)) here ∙ ap (λ (x : Work). own_mark x.change) t.2

  -- and a misuse the node that is named
  own_misuse : (client : ℕ) (call : Call) (m : Misuse) (w : Work) → work_of s client call (Reply.Misused m) ≡ Some w →
      own_loss marks call (Reply.Misused m) ≡ own_mark w.change
  own_misuse client call m w e =
      let t = and_then-Some (λ key. at_node s.forest key (λ n. Change.Loss key (Cause.Misused m))) (key_of call) w e in
      let u = map-Some (λ (n : Node). record { collection = n.collection; change = Change.Loss t.0 (Cause.Misused m) })
      (node_at s.forest t.0) w t.2 in
      own_misused marks call m
      ∙ (ap (option_map (λ key. Loss key (Cause.Misused m))) t.1 ∙ ap (λ (x : Work). own_mark x.change) u.2)

  -- what is answered Done
  own_done : (client : ℕ) (call : Call) (w : Work) → work_of s client call Reply.Done ≡ Some w →
      own_loss marks call Reply.Done ≡ own_mark w.change
  own_done client (Call.Close key) w e = own_close client key w e
  own_done client (Call.Bind key) w e = own_effect key Effect.Bound w e
  own_done client (Call.SetDispensable key) w e = own_effect key Effect.Dispensable w e
  own_done client (Call.SetWeak key) w e = own_effect key Effect.Weak w e
  own_done client (Call.SetWeakOk key children) w e = own_effect key (Effect.WeakOk children) w e
  own_done client (Call.SetConstraints key demand) w e = own_effect key (Effect.Constrained demand) w e
  own_done client (Call.Release key) w e = own_effect key Effect.Released w e
  own_done client (Call.DropHandle buffer strength) w e = own_drop buffer.collection w (took_last s buffer strength w e)
  own_done client _ w e = no_work e

  -- so the loss that a call makes itself is that of its change
  pub own_is : (client : ℕ) (reply : Reply) (call : Call) (w : Work) → work_of s client call reply ≡ Some w →
      own_loss marks call reply ≡ own_mark w.change
  own_is client (Reply.Misused m) call w e = own_misuse client call m w e
  own_is client Reply.Done call w e = own_done client call w e
  own_is client (Reply.Token key collection) Call.OpenRoot w e = ap (λ (x : Work). own_mark x.change) (some-injective _ w e)
  own_is client (Reply.Token key collection) (Call.Duplicate above) w e = ap (λ (x : Work). own_mark x.change) (some-injective _ w e)
  own_is client (Reply.Token key collection) (Call.AttachToken above) w e = ap (λ (x : Work). own_mark x.change) (some-injective _ w e)
  own_is client (Reply.Taken collection strength set) (Call.Take key) w e = own_effect key Effect.Taken w e
  own_is client (Reply.Tracker id) (Call.TrackNode key) w e = own_effect key Effect.Tracked w e
  own_is client _ _ w e = no_work e

-- marks in front of an own one are marks in front of it
pub laid_own : (own : Option Mark) (ms : List Mark) (marks : Timeline) →
    laid_on ms (cons_option own marks) ≡ laid_on (cons_option own ms) marks
laid_own None ms marks = refl
laid_own (Some mark) ms marks = refl
