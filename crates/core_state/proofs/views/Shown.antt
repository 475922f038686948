-- What is read and seen of a state that shows a history.
use Rattle.core_state.proofs.Common.{Bool, BufferName, Cause, Client, Collection, Entry, Fault, Grows, HandleCounts, Interval, List}
use Rattle.core_state.proofs.Common.{NodeKey, None, Option, Shows, Some, State, Strength, [], all_nodes, ap, beside, birth_of, buffers_in}
use Rattle.core_state.proofs.Common.{buffers_of, client_after, clients, collection_after, collection_at, cond, false, fault, fault_in}
use Rattle.core_state.proofs.Common.{filter, flat_map, flat_map-map, free_pages, held_by_page, is_kept, is_kept_collection, is_live_in}
use Rattle.core_state.proofs.Common.{kept_ids, legal_grows, length, live, live_keys, live_nodes, map, moving_count, node_after, node_at}
use Rattle.core_state.proofs.Common.{not, of, open_of, open_total, option_map, option_map_or, pages_in, refl, reverse, timeline, total}
use Rattle.core_state.proofs.Common.{true, views_of, ℕ, ◌++◌, ◌==◌, ◌∙◌, ◌∷◌, ◌≡◌}
use Rattle.sm_names.specs.Handles.{moving as moving_of}
use Rattle.forest_store.specs.Forest.{held_by_page as held_in}
use Rattle.core_state.specs.Shown.{all_kept_nodes, pages_beside_after}
use Rattle.core_state.proofs.theorem.EventCount.{events-timeline}
use Rattle.core_state.proofs.views.Seen.{free_is}
use Rattle.core_state.proofs.views.Held.{HavePages, held_by_page_is}
use Rattle.core_state.proofs.views.Live.{live_is, fault_is, live_keys_are}
use Rattle.core_state.proofs.views.Nodes.{collection_is, node_is}

-- why and where, as a pair
abbrev pub told_of : Fault → Cause × NodeKey
told_of f = (f.cause, f.origin)

module _ (s : State) (history : List Entry) (shows : Shows s history) where
  -- the history is legal, so its timeline grows from nothing
  pub grown : Grows s.pool s.limits [] (timeline s.pool history)
  grown = legal_grows s.pool s.limits history shows.legal

  -- how many events there were
  pub events_shown : s.events ≡ length history
  events_shown = shows.shown.events ∙ events-timeline s.pool history

  -- which nodes are live
  pub live_shown : (key : NodeKey) → is_live_in s key ≡ live (timeline s.pool history) key
  live_shown = live_is s (timeline s.pool history) shows.shown s.limits grown

  -- why and where a node failed
  pub cause_shown : (key : NodeKey) → option_map told_of (fault_in s key)
      ≡ cond (is_kept (timeline s.pool history) key) (option_map told_of (fault (timeline s.pool history) key)) None
  cause_shown key =
      ap (option_map told_of) (fault_is s (timeline s.pool history) shows.shown s.limits grown key)
      ∙ inside (is_kept (timeline s.pool history) key) (fault (timeline s.pool history) key)
    where
      inside : (k : Bool) (o : Option Fault) → option_map told_of (cond k o None) ≡ cond k (option_map told_of o) None
      inside true o = refl
      inside false o = refl

  -- the live nodes
  pub live_keys_shown : live_keys s.forest ≡ live_nodes (timeline s.pool history)
  live_keys_shown = live_keys_are s (timeline s.pool history) shows.shown s.limits grown

  -- the held buffers, where each has a page
  pub held_shown : HavePages s.forest → held_in s.forest ≡ held_by_page s.pool (timeline s.pool history)
  held_shown paged = held_by_page_is s (timeline s.pool history) shows.shown s.limits grown paged

  -- the free pages
  pub free_shown : (views_of s).free ≡ free_pages s.pool (timeline s.pool history)
  free_shown = free_is s (timeline s.pool history) shows.shown s.limits grown

  -- the kept nodes
  pub nodes_shown : all_nodes s.forest ≡ all_kept_nodes (timeline s.pool history)
  nodes_shown =
      ap (flat_map (λ (c : Collection). c.nodes)) shows.shown.collections
      ∙ flat_map-map (λ (c : Collection). c.nodes) (collection_after s.pool (timeline s.pool history)) (kept_ids (timeline s.pool history))

  -- the pages beside a collection
  pub beside_shown : (id : ℕ) → beside s.forest id ≡ pages_beside_after s.pool (timeline s.pool history) id
  beside_shown id =
      ap (λ (cs : List Collection). flat_map pages_in (filter (λ (c : Collection). not (c.id == id)) cs)) shows.shown.collections
      ∙ others (kept_ids (timeline s.pool history))
    where
      of : ℕ → Collection
      of = collection_after s.pool (timeline s.pool history)

      others : (ns : List ℕ) → flat_map pages_in (filter (λ (c : Collection). not (c.id == id)) (map of ns))
          ≡ flat_map (λ n. pages_in (of n)) (filter (λ n. not (n == id)) ns)
      others [] = refl
      others (n ∷ ns) = elim (n == id) as (λ b.
          flat_map pages_in (cond (not b) (of n ∷ filter (λ (c : Collection). not (c.id == id)) (map of ns))
          (filter (λ (c : Collection). not (c.id == id)) (map of ns)))
          ≡ flat_map (λ m. pages_in (of m)) (cond (not b) (n ∷ filter (λ m. not (m == id)) ns) (filter (λ m. not (m == id)) ns))) [
            | true ↦ others ns
            | false ↦ ap (λ (is : List Interval). pages_in (of n) ++ is) (others ns)
          ]

  -- what is read of a collection, if it is kept
  pub collection_shown : {X : Type 0} (read : Option Collection → X) (id : ℕ) → read (collection_at s.forest id)
      ≡ cond (is_kept_collection (timeline s.pool history) id) (read (Some (collection_after s.pool (timeline s.pool history) id))) (read None)
  collection_shown read id =
      ap read (collection_is s (timeline s.pool history) shows.shown s.limits grown id)
      ∙ inside (is_kept_collection (timeline s.pool history) id)
    where
      -- by cases
      inside : (k : Bool) → read (cond k (Some (collection_after s.pool (timeline s.pool history) id)) None)
          ≡ cond k (read (Some (collection_after s.pool (timeline s.pool history) id))) (read None)
      inside true = refl
      inside false = refl

  -- what a collection was given
  pub given_shown : (id : ℕ) → buffers_in s id
      ≡ cond (is_kept_collection (timeline s.pool history) id) (buffers_of (timeline s.pool history) id) None
  given_shown = collection_shown (λ o. option_map_or (λ (c : Collection). c.buffers) o None)

  -- the clients
  pub clients_shown : map (λ (c : Client). c.id) s.clients ≡ reverse (clients (timeline s.pool history))
  clients_shown = ap (map (λ (c : Client). c.id)) shows.shown.clients ∙ ids (reverse (clients (timeline s.pool history)))
    where
      ids : (ns : List ℕ) → map (λ (c : Client). c.id) (map (client_after (timeline s.pool history)) ns) ≡ ns
      ids [] = refl
      ids (n ∷ ns) = ap (λ (l : List ℕ). n ∷ l) (ids ns)

  -- the handles that a client has open
  pub open_shown : (client : ℕ) (buffer : BufferName) (strength : Strength) →
      of s.holds client buffer strength ≡ open_of (timeline s.pool history) client buffer strength
  open_shown client buffer strength = ap (λ (h : HandleCounts). h.of client buffer strength) shows.shown.handles

  -- the handles that are in parcels
  pub moving_shown : (buffer : BufferName) (strength : Strength) →
      moving_count s.holds buffer strength ≡ moving_of (timeline s.pool history) buffer strength
  moving_shown buffer strength = ap (λ (h : HandleCounts). h.moving buffer strength) shows.shown.handles

  -- the handles that are open
  pub total_shown : (buffer : BufferName) (strength : Strength) →
      total s.holds buffer strength ≡ open_total (timeline s.pool history) buffer strength
  total_shown buffer strength = ap (λ (h : HandleCounts). h.total buffer strength) shows.shown.handles

  -- a node, if it is kept
  pub node_shown : (key : NodeKey) → node_at s.forest key
      ≡ cond (is_kept (timeline s.pool history) key)
      (option_map (node_after (timeline s.pool history)) (birth_of (timeline s.pool history) key)) None
  node_shown key = node_is s (timeline s.pool history) shows.shown s.limits grown key
