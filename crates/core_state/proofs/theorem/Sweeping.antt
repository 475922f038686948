-- Which trackers an event has to look at: a tracker elsewhere is not due.
use Rattle.core_state.proofs.Common.{All, Birth, Bool, Bound, Call, Called, Collection, Condition, Forest, GainsTracker, Grows, Handles}
use Rattle.core_state.proofs.Common.{In, In-all, In-map-back, IsAfter, IsAnswer, IsOf, Node, NodeKey, None, Option, Reply, Some, State}
use Rattle.core_state.proofs.Common.{Stays, Strength, Timeline, TrackerTable, Waiting, Work, Worked, [], after, ap, false, false≢true}
use Rattle.core_state.proofs.Common.{grows_after, holds, inl, inr, is_due, is_some, looked_in, map-Some, members_of, new_key, next_forced}
use Rattle.core_state.proofs.Common.{node_at, not, option_map_or, readings, recalled_due, refl, some_strong_live, subst, sym, total}
use Rattle.core_state.proofs.Common.{tracked_as, tracker_by, trackers_to_test, work_of, world_in, ℕ, ◌&&◌, ◌==◌, ◌∙◌, ◌∷◌, ◌≡◌}
use Rattle.std.proofs.Common.{option_map}
use Rattle.event_laws.proofs.ConcernLaws.{others_not_due}
use Rattle.forest_store.specs.Forest.{collection_at as collection_told}
use Rattle.core_state.proofs.answers.Changes.{idle, starts}
use Rattle.core_state.proofs.firing.Fields.{attached_from, new_elsewhere}
use Rattle.core_state.proofs.firing.NextTrackers.{AreAsked, are_asked, tracker_is}
use Rattle.core_state.proofs.forced.CallStep.{IsIdle}
use Rattle.core_state.proofs.theorem.Follows.{Counts}
use Rattle.core_state.proofs.theorem.GoesOn.{seen_later}
use Rattle.core_state.proofs.theorem.OfHistory.{undue_of}
use Rattle.core_state.proofs.views.Ends.{totals_are}
use Rattle.core_state.proofs.views.ForTrackers.{recalled}
use Rattle.core_state.proofs.views.Nodes.{node_there}

module _ (s : State) (marks : Timeline) (shown : IsAfter s marks) (limits : Bound) (grown : Grows s.pool limits [] marks) where
  -- a node that is found is of its collection
  found_in : (key : NodeKey) (n : Node) → node_at s.forest key ≡ Some n → IsOf marks n.collection (Condition.Node key)
  found_in key n at =
      let b = node_there s marks shown limits grown key n at in
      ap (option_map (λ (x : Birth). x.collection)) b.1 ∙ ap (λ (x : Node). Some x.collection) (sym b.4)

  -- a tracker that an event attaches is filed under the collection that it concerns
  pub made_filed : (c : Call) (r : Reply) (t : Waiting) → tracker_by s.forest c r ≡ Some t → IsOf marks t.collection t.condition
  made_filed (Call.TrackNode key) (Reply.Tracker id) t is =
      let n = map-Some (λ (n : Node). record { id = id; collection = n.collection; condition = Condition.Node key })
      (node_at s.forest key) t is in
      subst (λ (w : Waiting). IsOf marks w.collection w.condition) n.2 (found_in key n.0 n.1)
  made_filed (Call.TrackLifetime key most) (Reply.Tracker id) t is =
      let n = map-Some (λ (n : Node). record { id = id; collection = n.collection; condition = Condition.Lifetime key n.collection most })
      (node_at s.forest key) t is in
      subst (λ (w : Waiting). IsOf marks w.collection w.condition) n.2 (refl, found_in key n.0 n.1)
  made_filed (Call.TrackWeak buffer) (Reply.Tracker id) t is = subst (λ (w : Waiting). IsOf marks w.collection w.condition) (one is) refl
    where
      one : {w : Waiting} → Some w ≡ Some t → w ≡ t
      one h = cc
  made_filed _ _ t is = absurd (false≢true (ap is_some is))

  module _ (filed : All (λ (t : Waiting). IsOf marks t.collection t.condition) s.trackers.unfired) (client : ℕ) (reply : Reply)
      (call : Call) (attached : TrackerTable) (gains : GainsTracker s.trackers (tracker_by s.forest call reply) attached) where
    -- each that waits once the event attached its own is filed so
    pub filed_now : (t : Waiting) → In t attached.unfired → IsOf marks t.collection t.condition
    filed_now t on = elim (attached_from s.trackers attached (tracker_by s.forest call reply) gains t on) [
      | inl there ↦ In-all (λ (x : Waiting). IsOf marks x.collection x.condition) s.trackers.unfired filed t there
      | inr made ↦ made_filed call reply t made
    ]

    module _ (answer : IsAnswer limits (readings marks) client call reply) (rests : (collection : ℕ) →
        next_forced s.pool collection marks ≡ None) (handles : Handles) (counts : Counts handles (Called client reply call ∷ marks))
        (worked : Forest) (work : Worked s handles (work_of s client call reply) (new_key reply) worked) where
      -- where nothing is changed, what trackers look at is the same
      same_holds : IsIdle marks client reply call → (condition : Condition) →
          holds (world_in s.forest handles) condition ≡ holds (world_in s.forest (total s.holds)) condition
      same_holds i (Condition.Node key) = refl
      same_holds i (Condition.Lifetime key its most) = refl
      same_holds i (Condition.Weak buffer) =
          ap (λ (none : Bool). option_map_or (λ (c : Collection). is_some c.buffers && (none && not (some_strong_live
          (members_of c.nodes)))) (collection_told s.forest buffer.collection) false)
          (ap (λ (n : ℕ). n == 0) (counts buffer Strength.Strong) ∙ (i.opens_alike buffer Strength.Strong
          ∙ ap (λ (h : Handles). h buffer Strength.Strong == 0) (sym (totals_are s marks shown limits grown))))

      -- a tracker that is not looked for is not due
      pub elsewhere : (t : Waiting) → In t attached.unfired →
          (looked_in (world_in worked handles) (option_map (λ (w : Work). w.collection) (work_of s client call reply))
          (tracker_by s.forest call reply) ≡ Some t.collection → ⊥) →
          is_due (world_in worked handles) t ≡ false
      elsewhere t on = by (work_of s client call reply) refl work
        where
          by : (o : Option Work) → work_of s client call reply ≡ o → Worked s handles o (new_key reply) worked →
              (looked_in (world_in worked handles) (option_map (λ (w : Work). w.collection) o) (tracker_by s.forest call reply)
              ≡ Some t.collection → ⊥) →
              is_due (world_in worked handles) t ≡ false
          by None e same other =
              let i : IsIdle marks client reply call = idle s marks shown limits grown client reply call answer e in
              elim (attached_from s.trackers attached (tracker_by s.forest call reply) gains t on) [
                | inl there ↦
                    rw same (same_holds i t.condition ∙ In-all (λ (x : Waiting). is_due (world_in s.forest (total s.holds)) x ≡ false)
                    s.trackers.unfired (undue_of s marks shown limits grown filed) t there)
                | inr made ↦ new_elsewhere (world_in worked handles) None (tracker_by s.forest call reply) t made (λ id is. absurd
                    (false≢true (ap is_some is))) other
              ]
          by (Some w) e settled other =
              let asks : AreAsked s marks shown limits grown client reply call answer attached =
              are_asked s marks shown limits grown client reply call answer attached (tracker_by s.forest call reply) gains
              (tracker_is s marks shown limits grown client reply call answer) in
              let asked : In (tracked_as t) (trackers_to_test marks (client, call, reply)) =
              subst (In (tracked_as t)) asks.waiting (In-map-back tracked_as attached.unfired t on) in
              let of = (starts s marks shown limits grown client reply call answer w e).of in
              recalled_due s.pool limits marks (after s.pool marks (client, call, reply))
              (client, call, reply) (world_in worked handles) grown
              (grows_after s.pool limits marks marks (client, call, reply) Stays answer) answer
              (recalled s.pool limits marks grown (client, call, reply) worked handles
              (seen_later s marks shown limits grown client reply call answer rests handles counts worked work)) (tracked_as t) asked
              ∙ others_not_due s.pool limits marks (client, call, reply) t.collection grown answer (λ is. other (sym of ∙ is))
              (tracked_as t) asked (filed_now t on)
