-- Which trackers fire in cores that are alike.
use Rattle.alike_cores.proofs.Common.{Bool, BufferName, Collection, Condition, CountsAlike, Fired, Forest, Handles, KeepsIds, KeepsKeys}
use Rattle.alike_cores.proofs.Common.{List, Mixed, Mixes, Node, NodeKey, None, Option, Some, Strength, Tracked, TrackerTable, Waiting, []}
use Rattle.alike_cores.proofs.Common.{ap, buffer_renamed, collection_at, collection_renamed, cond, condition_renamed, false, filter}
use Rattle.alike_cores.proofs.Common.{firings, held_renamed, is_doomed, length, map, map-append, map-map, members_of, nat_le, node_at}
use Rattle.alike_cores.proofs.Common.{node_renamed, node_undated, not, option_map, option_map_or, refl, some-injective, some_strong_live}
use Rattle.alike_cores.proofs.Common.{still_waiting, subst, sym, tracked_as, tracker_renamed, true, undated, world_in, ℕ, ◌&&◌, ◌++◌, ◌∙◌}
use Rattle.alike_cores.proofs.Common.{◌∷◌, ◌≡◌}
use Rattle.std.proofs.Common.{is_some}
use Rattle.sm_names.specs.Trackers.{World, holds}
use Rattle.trackers.specs.Table.{firing, is_due}
use Rattle.core_state.specs.Steps.{GainsTracker}
use Rattle.alike_cores.proofs.Answering.{length-renamed}
use Rattle.alike_cores.proofs.Forcings.{filter_alike, strong-renamed}
use Rattle.alike_cores.proofs.Renamings.{members-renamed}
use Rattle.alike_cores.proofs.Finding.{found_collection, found_node}
use Rattle.alike_cores.proofs.FoundAlike.{read_or-alike}
use Rattle.alike_cores.proofs.Mixing.{mixed-before, mixed-behind, mixed-filter, mixed-map}
use Rattle.alike_cores.proofs.Worked.{AreWorked}

-- ---- what trackers look at

-- A member keeps its flags under its new key.
strong-alike : (to : NodeKey → NodeKey) (id : ℕ → ℕ) → KeepsKeys to → (nodes : List Node) →
    some_strong_live (members_of (map (node_renamed to id) nodes)) ≡ some_strong_live (members_of nodes)
strong-alike to id keeps nodes = ap some_strong_live (members-renamed to id keeps nodes) ∙ strong-renamed to (members_of nodes)

module _ (to : NodeKey → NodeKey) (id : ℕ → ℕ) (keeps : KeepsKeys to) (kept : KeepsIds id) (left right : Forest)
    (worked : AreWorked to id left.collections right.collections) (before after : Handles) (counts : CountsAlike id before after) where
  -- the node of the new key is the renamed one
  node_there : (key : NodeKey) → option_map node_undated (node_at right (to key)) ≡ option_map (node_renamed to id) (node_at left key)
  node_there key = found_node to id keeps kept left.collections right.collections worked.alike worked.apart key

  -- the collection of the new id is the renamed one
  collection_there : (i : ℕ) → option_map undated (collection_at right (id i))
      ≡ option_map (collection_renamed to id) (collection_at left i)
  collection_there i = found_collection to id keeps kept left.collections right.collections worked.alike worked.apart i

  -- A node is gone or not under any key.
  gone-alike : (key : NodeKey) → (world_in right after).gone (to key) ≡ (world_in left before).gone key
  gone-alike key = read_or-alike node_undated (node_renamed to id) (λ (n : Node). n.gone) true (node_at right (to key)) (node_at left key)
      (node_there key)

  -- And so is its unit allocated.
  allocated-alike : (key : NodeKey) → (world_in right after).allocated (to key) ≡ (world_in left before).allocated key
  allocated-alike key = read_or-alike node_undated (node_renamed to id) (λ (n : Node). n.allocated) true (node_at right (to key))
      (node_at left key) (node_there key)

  -- As many buffers of a collection are not home.
  left-alike : (i : ℕ) → (world_in right after).left (id i) ≡ (world_in left before).left i
  left-alike i =
      sym (λ j. option_map_or (λ (c : Collection). length-renamed (held_renamed (λ k. k)) c.held j) (collection_at right (id i)) 0)
      ∙ (read_or-alike undated (collection_renamed to id) (λ (c : Collection). length c.held) 0 (collection_at right (id i))
      (collection_at left i) (collection_there i)
      ∙ (λ j. option_map_or (λ (c : Collection). length-renamed (held_renamed id) c.held j) (collection_at left i) 0))

  -- A buffer is doomed or not under any name.
  doomed-alike : (b : BufferName) → (world_in right after).doomed (buffer_renamed id b) ≡ (world_in left before).doomed b
  doomed-alike b =
      sym (λ j. option_map_or
      (λ (c : Collection). is_some c.buffers
      && is_doomed (after (buffer_renamed id b) Strength.Strong) (strong-alike (λ k. k) (λ k. k) (λ x y. refl) c.nodes j))
      (collection_at right (id b.collection)) false)
      ∙ (read_or-alike undated (collection_renamed to id)
      (λ (c : Collection). is_some c.buffers
      && is_doomed (after (buffer_renamed id b) Strength.Strong) (some_strong_live (members_of c.nodes)))
      false (collection_at right (id b.collection)) (collection_at left b.collection) (collection_there b.collection)
      ∙ (λ j. option_map_or
      (λ (c : Collection). is_some c.buffers && is_doomed (counts b Strength.Strong j) (strong-alike to id keeps c.nodes j))
      (collection_at left b.collection) false))

  -- By the condition.
  holds-alike : (c : Condition) → holds (world_in right after) (condition_renamed to id c) ≡ holds (world_in left before) c
  holds-alike (Condition.Node key) = gone-alike key
  holds-alike (Condition.Lifetime key collection most) =
      λ i. cond (allocated-alike key i) (nat_le (left-alike collection i) most) (gone-alike key i)
  holds-alike (Condition.Weak buffer) = doomed-alike buffer

  module _ (number : ℕ → ℕ) (one other : List Waiting)
      (mixed : Mixed (map (λ w. tracker_renamed to id number (tracked_as w)) one) (map tracked_as other)) where
    -- By the test of what they wait for, which is alike.
    tested-alike : (first later : World → Condition → Bool) →
        ((c : Condition) → later (world_in right after) (condition_renamed to id c) ≡ first (world_in left before) c) →
        Mixed (map (λ w. tracker_renamed to id number (tracked_as w))
        (filter (λ (w : Waiting). first (world_in left before) w.condition) one))
        (map tracked_as (filter (λ (w : Waiting). later (world_in right after) w.condition) other))
    tested-alike first later same =
        subst (λ (l : List Tracked). Mixed l (map tracked_as (filter (λ (w : Waiting). later (world_in right after) w.condition) other)))
        (filter_alike (λ (t : Tracked). later (world_in right after) t.condition)
        (λ (w : Waiting). first (world_in left before) w.condition) (λ w. tracker_renamed to id number (tracked_as w))
        (λ w. same w.condition) one)
        (subst (Mixed (filter (λ (t : Tracked). later (world_in right after) t.condition)
        (map (λ w. tracker_renamed to id number (tracked_as w)) one)))
        (filter_alike (λ (t : Tracked). later (world_in right after) t.condition)
        (λ (w : Waiting). later (world_in right after) w.condition) tracked_as (λ w. refl) other)
        (mixed-filter (λ (t : Tracked). later (world_in right after) t.condition)
        (map (λ w. tracker_renamed to id number (tracked_as w)) one) (map tracked_as other) mixed))

    -- those that wait on are alike
    pub still-alike : Mixed (map (λ w. tracker_renamed to id number (tracked_as w)) (still_waiting (world_in left before) one))
        (map tracked_as (still_waiting (world_in right after) other))
    still-alike = tested-alike (λ w c. not (holds w c)) (λ w c. not (holds w c)) (λ c. ap not (holds-alike c))

    -- those that are due are alike
    due-alike : Mixed (map (λ w. tracker_renamed to id number (tracked_as w)) (filter (is_due (world_in left before)) one))
        (map tracked_as (filter (is_due (world_in right after)) other))
    due-alike = tested-alike holds holds holds-alike

    -- and so the numbers of those that fire
    pub firings-alike : (event later : ℕ) →
        Mixed (map (λ (f : Fired). number f.tracker) (firings (world_in left before) event one))
        (map (λ (f : Fired). f.tracker) (firings (world_in right after) later other))
    firings-alike event later =
        subst (λ (l : List ℕ). Mixed l (map (λ (f : Fired). f.tracker) (firings (world_in right after) later other)))
        (map-map (λ (t : Tracked). t.id) (λ w. tracker_renamed to id number (tracked_as w)) (filter (is_due (world_in left before)) one)
        ∙ sym (map-map (λ (f : Fired). number f.tracker) (firing event) (filter (is_due (world_in left before)) one)))
        (subst (Mixed (map (λ (t : Tracked). t.id)
        (map (λ w. tracker_renamed to id number (tracked_as w)) (filter (is_due (world_in left before)) one))))
        (map-map (λ (t : Tracked). t.id) tracked_as (filter (is_due (world_in right after)) other)
        ∙ sym (map-map (λ (f : Fired). f.tracker) (firing later) (filter (is_due (world_in right after)) other)))
        (mixed-map (λ (t : Tracked). t.id)
        (map (λ w. tracker_renamed to id number (tracked_as w)) (filter (is_due (world_in left before)) one))
        (map tracked_as (filter (is_due (world_in right after)) other)) due-alike))

-- ---- a tracker that is made

module _ (to : NodeKey → NodeKey) (id number : ℕ → ℕ) (old again : TrackerTable)
    (mixed : Mixed (map (λ w. tracker_renamed to id number (tracked_as w)) old.unfired) (map tracked_as again.unfired)) where
  -- One more stands last.
  one_more : (w v : Waiting) → tracked_as v ≡ tracker_renamed to id number (tracked_as w) →
      Mixed (map (λ x. tracker_renamed to id number (tracked_as x)) (old.unfired ++ w ∷ [])) (map tracked_as (again.unfired ++ v ∷ []))
  one_more w v same =
      subst (λ (l : List Tracked). Mixed l (map tracked_as (again.unfired ++ v ∷ [])))
      (sym (map-append (λ x. tracker_renamed to id number (tracked_as x)) old.unfired (w ∷ [])))
      (subst (Mixed (map (λ x. tracker_renamed to id number (tracked_as x)) old.unfired
      ++ tracker_renamed to id number (tracked_as w) ∷ []))
      (sym (map-append tracked_as again.unfired (v ∷ [])))
      (subst (λ (t : Tracked). Mixed (map (λ x. tracker_renamed to id number (tracked_as x)) old.unfired
      ++ tracker_renamed to id number (tracked_as w) ∷ []) (map tracked_as again.unfired ++ t ∷ [])) (sym same)
      (mixed-before (map (λ x. tracker_renamed to id number (tracked_as x)) old.unfired) (map tracked_as again.unfired)
      (tracker_renamed to id number (tracked_as w) ∷ []) mixed)))

  -- By whether one is made.
  pub gains-alike : (o p : Option Waiting) →
      option_map tracked_as p ≡ option_map (λ w. tracker_renamed to id number (tracked_as w)) o → (new later : TrackerTable) →
      GainsTracker old o new → GainsTracker again p later →
      Mixed (map (λ w. tracker_renamed to id number (tracked_as w)) new.unfired) (map tracked_as later.unfired)
  gains-alike None None same new later one other =
      subst (λ (x : TrackerTable). Mixed (map (λ w. tracker_renamed to id number (tracked_as w)) x.unfired) (map tracked_as later.unfired))
      (sym one)
      (subst (λ (x : TrackerTable). Mixed (map (λ w. tracker_renamed to id number (tracked_as w)) old.unfired) (map tracked_as x.unfired))
      (sym other) mixed)
  gains-alike None (Some v) same new later one other = cc
  gains-alike (Some w) None same new later one other = cc
  gains-alike (Some w) (Some v) same new later one other =
      subst (λ (x : TrackerTable). Mixed (map (λ y. tracker_renamed to id number (tracked_as y)) x.unfired) (map tracked_as later.unfired))
      (sym one.next)
      (subst (λ (x : TrackerTable). Mixed (map (λ y. tracker_renamed to id number (tracked_as y)) (old.unfired ++ w ∷ []))
      (map tracked_as x.unfired)) (sym other.next)
      (one_more w v (some-injective (tracked_as v) (tracker_renamed to id number (tracked_as w)) same)))

-- By whether one is made: none fires by that.
pub gains_fired : (old : TrackerTable) (o : Option Waiting) (new : TrackerTable) → GainsTracker old o new → new.fired ≡ old.fired
gains_fired old None new gains = ap (λ (x : TrackerTable). x.fired) gains
gains_fired old (Some w) new gains = ap (λ (x : TrackerTable). x.fired) gains.next

-- Those that fired before, and those that fire now.
pub more_fired : (number : ℕ → ℕ) (one more other again : List Fired) →
    Mixed (map (λ (f : Fired). number f.tracker) one) (map (λ (f : Fired). f.tracker) other) →
    Mixed (map (λ (f : Fired). number f.tracker) more) (map (λ (f : Fired). f.tracker) again) →
    Mixed (map (λ (f : Fired). number f.tracker) (one ++ more)) (map (λ (f : Fired). f.tracker) (other ++ again))
more_fired number one more other again before now =
    subst (λ (l : List ℕ). Mixed l (map (λ (f : Fired). f.tracker) (other ++ again)))
    (sym (map-append (λ (f : Fired). number f.tracker) one more))
    (subst (Mixed (map (λ (f : Fired). number f.tracker) one ++ map (λ (f : Fired). number f.tracker) more))
    (sym (map-append (λ (f : Fired). f.tracker) other again))
    (Mixes (map (λ (f : Fired). number f.tracker) one ++ map (λ (f : Fired). number f.tracker) more)
    (map (λ (f : Fired). f.tracker) other ++ map (λ (f : Fired). number f.tracker) more)
    (map (λ (f : Fired). f.tracker) other ++ map (λ (f : Fired). f.tracker) again)
    (mixed-before (map (λ (f : Fired). number f.tracker) one) (map (λ (f : Fired). f.tracker) other)
    (map (λ (f : Fired). number f.tracker) more) before)
    (mixed-behind (map (λ (f : Fired). f.tracker) other) (map (λ (f : Fired). number f.tracker) more)
    (map (λ (f : Fired). f.tracker) again) now)))
