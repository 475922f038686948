-- After the work of an event the forest has what trackers look at.
use Rattle.core_state.proofs.Common.{Birth, Bool, Bound, Call, Called, Collection, EndPlace, Forest, Grows, Handles, In, In-filter}
use Rattle.core_state.proofs.Common.{In-filter-back, In-map, In-map-back, In_old, Interval, IsAfter, IsAnswer, List, Node, None, Option}
use Rattle.core_state.proofs.Common.{Reply, Settled, State, Timeline, Work, [], after, allocated, ap, beside, birth_at, births, births_in}
use Rattle.core_state.proofs.Common.{both_ways, buffers_of, collection_after, cond, end_by, eqb-true, events, false, given_back, gone}
use Rattle.core_state.proofs.Common.{held_after, inl, inr, is_kept, is_kept_collection, is_unkept, kept-after, length, map, members}
use Rattle.core_state.proofs.Common.{members_of, new_key, next_forced, node_after, nodes_after, not, or_cases, or_none_left}
use Rattle.core_state.proofs.Common.{or_none_right, place_of, readings, refl, some_strong_live, strong-left, subst, sym, true, whole, ℕ}
use Rattle.core_state.proofs.Common.{◌+◌, ◌==◌, ◌||◌, ◌∙◌, ◌∷◌, ◌≡◌}
use Rattle.core_state.proofs.forced.CallStep.{IsIdle}
use Rattle.core_state.proofs.ends.NotRead.{placed_in, placed_node, members_placed}
use Rattle.core_state.proofs.handles.HeldNames.{held_left}
use Rattle.core_state.proofs.collections.Ids.{ids, kept_are, root_id}
use Rattle.core_state.proofs.forced.NothingForced.{comes_to, follows_called, held_same, idle_after}
use Rattle.core_state.proofs.nodes.Ancestors.{nodes_kept}
use Rattle.core_state.proofs.theorem.Follows.{Counts, Matches, members_match}
use Rattle.core_state.proofs.nodes.Members.{in_order}
use Rattle.core_state.proofs.collections.Replacing.{with_new}
use Rattle.core_state.proofs.views.Ends.{strong_live_is}
use Rattle.core_state.proofs.views.Nodes.{not_unkept}
use Rattle.core_state.proofs.collections.Roots.{HasRoot, kept_root}
use Rattle.core_state.proofs.views.Forests.{AreStanding, Stands, standing_seen}
use Rattle.core_state.proofs.views.ForTrackers.{IsSeen}
use Rattle.core_state.proofs.forced.Settled.{counts_on}
use Rattle.core_state.proofs.forced.Work.{Starts, grown_later, kept_elsewhere, out_held, out_listed, out_matches, same_elsewhere}
use Rattle.core_state.proofs.forced.Work.{worked_are}

module _ (s : State) (marks : Timeline) (shown : IsAfter s marks) (limits : Bound) (grown : Grows s.pool limits [] marks) (client : ℕ)
    (reply : Reply) (call : Call)
    (answer : IsAnswer limits (readings marks) client call reply) where
  -- the marks after the event
  abbrev later : Timeline
  later = after s.pool marks (client, call, reply)

  -- the end that is put elsewhere
  abbrev moved : Option EndPlace
  moved = end_by client call reply

  -- a node that was born stays so
  still_born : (b : Birth) → In b (births marks) → In b (births (after s.pool marks (client, call, reply)))
  still_born b on =
      kept-after (λ m. In b (births m)) (λ m mark quiet there. In_old (birth_at (events m + 1) mark) (births m) b there) s.pool marks
      (client, call, reply)
      (In_old (birth_at (events marks + 1) (Called client reply call)) (births marks) b on)

  -- a collection that is kept has a root, whose id it is
  kept_listed : (bs : List Birth) → ((b : Birth) → In b (births marks) → In b bs) → (id : ℕ) → is_kept_collection marks id ≡ true →
      In id (ids bs)
  kept_listed bs among id kept =
      let r : HasRoot (births marks) id = kept_root marks id (whole s.pool limits marks grown).together kept in
      subst (λ (n : ℕ). In n (ids bs)) r.ours (root_id bs r.root (among r.root r.there) r.is_root)

  -- handles are open still after all that the event forces
  counts_later : (handles : Handles) → Counts handles (Called client reply call ∷ marks) →
      Counts handles (after s.pool marks (client, call, reply))
  counts_later handles counts =
      kept-after (Counts handles) (λ m mark quiet c. counts_on handles m mark quiet c) s.pool marks (client, call, reply) counts

  -- ---- a collection

  -- a node that the marks make is as they tell
  as_told : (n : Node) (b : Birth) → n ≡ node_after (after s.pool marks (client, call, reply)) b →
      (n.gone ≡ gone (after s.pool marks (client, call, reply)) n.key) ×
      (n.allocated ≡ allocated (after s.pool marks (client, call, reply)) n.key)
  as_told n b is = subst (λ (x : Node). (x.gone ≡ gone later x.key) × (x.allocated ≡ allocated later x.key)) (sym is) (refl, refl)

  -- one that follows the marks once the end is put elsewhere stands
  matches_stands : (others : List Interval) (c : Collection) →
      Matches s.pool (is_kept marks) (after s.pool marks (client, call, reply)) others (placed_in (place_of (end_by client call reply)) c) →
      c.held ≡ held_after s.pool (after s.pool marks (client, call, reply)) c.id →
      Stands marks (after s.pool marks (client, call, reply)) c.id c
  matches_stands others c m held = record {
    there = record {
      same_id = refl;
      buffers = m.buffers;
      held = ap length held ∙ held_left s.pool limits later (grown_later s marks shown limits grown client reply call answer) c.id;
      strong = ap some_strong_live (sym (members_placed (place_of moved) c.nodes)
          ∙ members_match s.pool limits (is_kept marks) later others (placed_in (place_of moved) c) (grown_later s marks shown limits grown
          client reply call answer) m)
          ∙ strong-left (members later c.id);
    };
    told = λ n on.
        let there : In (put n) (nodes_kept (is_kept marks) later c.id) = subst (In (put n)) m.nodes (In-map-back put c.nodes n on) in
        let b = In-map (node_after later) (births_in later c.id) (put n) (In-filter (λ (x : Node).
        is_kept marks x.key) (nodes_after later c.id) (put n) there).0 in
        as_told (put n) b.0 b.2;
    found = λ b on ours kept.
        let there : In (node_after later b) (nodes_after later c.id) =
        In-map-back (node_after later) (births_in later c.id) b (in_order later c.id b (still_born b on) ours) in
        let left : In (node_after later b) (nodes_kept (is_kept marks) later c.id) =
        In-filter-back (λ (x : Node). is_kept marks x.key) (nodes_after later c.id) (node_after later b) there kept in
        let n = In-map put c.nodes (node_after later b) (subst (In (node_after later b)) (sym m.nodes) left) in
        (n.0, n.1, sym (ap (λ (x : Node). x.key) n.2));
  }
    where
      put : Node → Node
      put = placed_node (place_of (end_by client call reply))

  -- so does one that is as it was
  same_stands : (id : ℕ) → collection_after s.pool (after s.pool marks (client, call, reply)) id ≡ collection_after s.pool marks id →
      Stands marks (after s.pool marks (client, call, reply)) id (collection_after s.pool marks id)
  same_stands id same = record {
    there = record {
      same_id = refl;
      buffers = ap (λ (c : Collection). c.buffers) (sym same);
      held = ap (λ (c : Collection). length c.held) (sym same)
          ∙ held_left s.pool limits later (grown_later s marks shown limits grown client reply call answer) id;
      strong = ap (λ (c : Collection). some_strong_live (members_of c.nodes)) (sym same) ∙ strong_live_is s.pool later id;
    };
    told = λ n on.
        let there : In n (nodes_after later id) =
        (In-filter (λ n. not (is_unkept n)) (nodes_after later id) n (subst (λ (c : Collection). In n c.nodes) (sym same) on)).0 in
        let b = In-map (node_after later) (births_in later id) n there in
        as_told n b.0 b.2;
    found = λ b on ours kept.
        let there : In (node_after marks b) (nodes_after marks id) =
        In-map-back (node_after marks) (births_in marks id) b (in_order marks id b on ours) in (
          node_after marks b,
          In-filter-back (λ n. not (is_unkept n)) (nodes_after marks id) (node_after marks b) there (not_unkept marks b
              ∙ kept),
          refl,
        );
  }

  -- ---- events

  -- an idle event leaves what trackers look at
  pub idle_seen : IsIdle marks client reply call → ((collection : ℕ) → next_forced s.pool collection marks ≡ None) → (handles : Handles) →
      Counts handles (Called client reply call ∷ marks) →
      IsSeen s.forest handles marks (after s.pool marks (client, call, reply))
  idle_seen idle rests handles counts = standing_seen marks later s.forest standing handles (counts_later handles counts)
    where
      now : after s.pool marks (client, call, reply) ≡ Called client reply call ∷ marks
      now = idle_after s marks shown limits grown client reply call answer idle rests

      follows : (id : ℕ) → Matches s.pool (is_kept marks) (after s.pool marks (client, call, reply)) (beside s.forest id)
          (placed_in (place_of (end_by client call reply)) (collection_after s.pool marks id))
      follows id =
          subst (λ (t : Timeline). Matches s.pool (is_kept marks) t (beside s.forest id)
          (placed_in (place_of moved) (collection_after s.pool marks id))) (sym now)
          (follows_called s marks shown limits grown client reply call answer idle rests id)

      standing : AreStanding marks (after s.pool marks (client, call, reply)) s.forest
      standing = record {
        ids = ids (births marks);
        has = is_kept_collection marks;
        at = collection_after s.pool marks;
        are = shown.collections ∙ ap (map (collection_after s.pool marks)) (kept_are marks);
        listed = kept_listed (births marks) (λ b on. on);
        stands = λ id has. matches_stands (beside s.forest id) (collection_after s.pool marks id) (follows id)
            (held_same s marks shown limits grown client reply call answer idle rests id
            ∙ ap (λ (t : Timeline). held_after s.pool t id) (sym now));
        over = λ id other. record {
          before = other;
          now = ap (λ (t : Timeline). is_kept_collection t id) now
              ∙ (elim (comes_to s marks shown limits grown client reply call answer idle rests id) [
                | inl here ↦ both_ways (is_kept_collection marks id) here.0 other
                | inr none ↦ none.1
              ]);
          given = ap (λ (t : Timeline). buffers_of t id) now;
        };
      }

  -- and one that changes a collection
  pub work_seen : (work : Work) (starts : Starts s marks shown limits grown client reply call answer work) (handles : Handles)
      (counts : Counts handles (Called client reply call ∷ marks)) (worked : Forest) →
      Settled s.pool handles s.forest worked work.collection work.change (new_key reply) →
      IsSeen worked handles marks (after s.pool marks (client, call, reply))
  work_seen work starts handles counts worked settled = standing_seen marks later worked standing handles (counts_later handles counts)
    where
      out : Collection
      out = given_back handles settled.after

      same : (id : ℕ) → (id == (given_back handles settled.after).id) ≡ false →
          collection_after s.pool (after s.pool marks (client, call, reply)) id ≡ collection_after s.pool marks id
      same = same_elsewhere s marks shown limits grown client reply call answer work starts handles counts worked settled

      stands_at : (id : ℕ) (b : Bool) → (id == (given_back handles settled.after).id) ≡ b →
          Stands marks (after s.pool marks (client, call, reply)) id (cond b (given_back handles settled.after)
          (collection_after s.pool marks id))
      stands_at id true e =
          subst (λ (k : ℕ). Stands marks later k out) (sym (eqb-true id out.id e))
          (matches_stands (beside s.forest work.collection) out (out_matches s marks shown limits grown client reply call answer work starts
          handles counts worked settled)
          (out_held s marks shown limits grown client reply call answer work starts handles counts worked settled))
      stands_at id false e = same_stands id (same id e)

      standing : AreStanding marks (after s.pool marks (client, call, reply)) worked
      standing = record {
        ids = ids (births later);
        has = λ id. id == out.id || is_kept_collection marks id;
        at = with_new (collection_after s.pool marks) (λ id. refl) out;
        are = worked_are s marks shown limits grown client reply call answer work starts handles counts worked settled;
        listed = λ id has. elim (or_cases (id == out.id) _ has) [
          | inl e ↦ subst (λ (k : ℕ). In k (ids (births later))) (sym (eqb-true id out.id e)) (out_listed s marks shown limits grown client
              reply call answer work starts handles counts worked settled)
          | inr kept ↦ kept_listed (births later) still_born id kept
        ];
        stands = λ id has. stands_at id (id == out.id) refl;
        over = λ id other.
            let away : (id == out.id) ≡ false = or_none_left (id == out.id) _ other in
            let lost : is_kept_collection marks id ≡ false = or_none_right (id == out.id) _ other in
            record {
              before = lost;
              now = kept_elsewhere s marks shown limits grown client reply call answer work starts handles counts worked settled id away
                  ∙ lost;
              given = ap (λ (c : Collection). c.buffers) (same id away);
            };
      }
