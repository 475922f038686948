-- The links of a tree, and how failures went along them.
use Rattle.std.specs.Prelude.{ℕ, ◌≡◌, ◌+◌, ◌-◌, ◌^◌, min, nat_lt, Bool, false, ◌&&◌, not, if◌then◌else◌}
use Rattle.std.specs.Prelude.{List, [], ◌∷◌, ◌++◌, length, map, replicate, reverse, set, take, Option, is_some}
use Rattle.std.specs.List.{filter, find, fold, list_any, slice_get}
use Rattle.std.specs.Option.{option_and_then, option_map, option_map_or}
use Rattle.sm_names.specs.declared.keys.NodeKey.{NodeKey}
use Rattle.sm_names.specs.Sameness.{same_key}
use Rattle.forest_store.specs.declared.node.Node.{Node}
use Rattle.forest_store.specs.Nodes.{above_among, node_of}
use Rattle.forest_store.specs.Questions.{blocks_here}
use Rattle.forced_marks.specs.declared.decision.Forced.{Forced}
use Rattle.forced_marks.specs.declared.moment.Moment.{Moment}
use Rattle.forced_marks.specs.Explanations.{climb}
use Rattle.event_facts.specs.declared.key_maps.KeyMap.{KeyMap}
use Rattle.event_facts.specs.Facts.{is_lost_with}
use Rattle.event_facts.specs.KeyMaps.{value_at}
use Rattle.picture_model.specs.PictureStates.{top_of}
use Rattle.picture_model.specs.declared.failure_view.Reached.{Reached}
use Rattle.picture_model.specs.declared.failure_view.Trail.{Trail}
use Rattle.picture_model.specs.declared.failure_view.Travel.{Travel}
use Rattle.picture_model.specs.declared.failure_view.TravelWay.{TravelWay}

-- it is the link of this node
abbrev pub is_link_of : NodeKey → Travel → Bool
is_link_of key t = same_key t.node key

-- the link of each node is found among these by its key
abbrev pub FindsTravels : KeyMap Travel → List Travel → Type 0
FindsTravels map travels = (node : NodeKey) → value_at map node ≡ find (is_link_of node) travels

-- how a failure went along the link of the node
abbrev pub way_in : List Travel → NodeKey → Option TravelWay
way_in travels key = option_map (λ (t : Travel). t.way) (find (is_link_of key) travels)

-- the node hangs on this one
abbrev pub is_child_of : NodeKey → Node → Bool
is_child_of above n = option_map_or (same_key above) n.parent false

-- ---- how failures go

-- the links that failures followed so far, and the last step. Where a link stands twice, the first counts
pub record Trace : Type 0 where
  pub links : List Travel
  pub step : ℕ

-- what a trail of the code has
abbrev pub trace_in : Trail → Trace
trace_in t = record { links = t.travels.items; step = t.step }

-- the sum of two numbers of steps, or the greatest number
abbrev pub steps_and : ℕ → ℕ → ℕ
steps_and a b = min (a + b) (2 ^ 64 - 1)

-- ---- up

-- the failure climbs from the node, one step later
unfoldable pub climbed : Trace → NodeKey → Trace
climbed t node = record {
  links = t.links ++ record { node = node; way = TravelWay.Up (steps_and t.step 1) } ∷ [];
  step = steps_and t.step 1;
}

-- the node with this key has a parent
abbrev pub has_parent : List Node → NodeKey → Bool
has_parent nodes key = option_map_or (λ (n : Node). is_some n.parent) (node_of nodes key) false

-- it stopped at the node, unless that is a root
unfoldable pub stopped : List Node → NodeKey → Trace → Trace
stopped nodes top t =
    let links = if has_parent nodes top then t.links ++ record { node = top; way = TravelWay.Stop } ∷ [] else t.links in
    record { links = links; step = t.step }

-- ---- down

-- each of these nodes is found by its key with its generation: how many links it is below the top one
abbrev pub generation_in : List Reached → NodeKey → Option ℕ
generation_in known key = option_map (λ (r : Reached). r.generation) (find (λ (r : Reached). same_key r.node key) known)

-- the map has for each key the generation that the list gives it
abbrev pub FindsReached : KeyMap ℕ → List Reached → Type 0
FindsReached map known = (key : NodeKey) → value_at map key ≡ generation_in known key

-- one generation more than the parent, if that is among these, and else 0
abbrev pub generation_below : List Reached → Node → ℕ
generation_below known n = option_map_or (λ g. steps_and g 1) (option_and_then (generation_in known) n.parent) 0

-- the nodes, which stand by birth, each with its generation
abbrev pub with_generation : List Reached → Node → List Reached
with_generation known n = known ++ record { node = n.key; generation = generation_below known n } ∷ []

-- the generation of each node, by birth: one more than its parent's
abbrev pub generations_of : List Node → List Reached
generations_of nodes = fold with_generation [] nodes

-- the node is below the top one, and not one of these
abbrev pub is_past : (NodeKey → Bool) → Reached → Bool
is_past passed r = nat_lt 0 r.generation && not (passed r.node)

-- those of the nodes to which the failure falls: below the top one, but for those by which it came up
abbrev pub fallen_to : List NodeKey → List Node → List Reached
fallen_to way taken = filter (is_past (λ key. list_any (same_key key) way)) (generations_of taken)

-- the numbers with 1 at this place, if there is such a place
abbrev pub with_one : List ℕ → ℕ → List ℕ
with_one ones at = if nat_lt at (length ones) then set ones at 1 else ones

-- for each of this many generations 1, if some of these nodes are of it, and else 0
abbrev pub ones_of : ℕ → List Reached → List ℕ
ones_of count reached = fold (λ ones (r : Reached). with_one ones r.generation) (replicate count 0) reached

-- the sum of all up to each place, and the last sum
pub record Sums : Type 0 where
  pub steps : List ℕ
  pub last : ℕ

-- the sums with this last one
abbrev pub sums_of : List ℕ → ℕ → Sums
sums_of steps last = record { steps = steps; last = last }

-- the sums with one more
abbrev pub summed : Sums → ℕ → Sums
summed s one = sums_of (s.steps ++ steps_and s.last one ∷ []) (steps_and s.last one)

-- the number at this place, or 0
abbrev pub number_at : List ℕ → ℕ → ℕ
number_at numbers at = option_map_or (λ n. n) (slice_get numbers at) 0

-- the failure falls to the node at the step of its generation
abbrev pub link_down : List ℕ → Reached → Travel
link_down steps r = record { node = r.node; way = TravelWay.Down (number_at steps r.generation) }

-- it falls to these, one generation a step, where this many generations are taken
unfoldable pub fallen_on : ℕ → List Reached → Trace → Trace
fallen_on count reached t =
    let sums = fold summed (sums_of [] t.step) (ones_of count reached) in
    record { links = t.links ++ map (link_down sums.steps) reached; step = sums.last }

-- the trace, once a failure took these nodes by this way
abbrev pub fallen : List Node → List NodeKey → Trace → Trace
fallen taken way t = fallen_on (length taken) (fallen_to way taken) t

-- ---- both

-- the failure of the node goes up, stops, and falls to all that it takes
unfoldable pub failed : List Node → NodeKey → Trace → Trace
failed nodes origin t =
    let way = climb (λ k. list_any (blocks_here k) nodes) origin (above_among (reverse nodes) origin) in
    let top = top_of origin way in
    fallen (filter (is_lost_with nodes top) nodes) way
    (stopped nodes top (fold climbed t (take (length way - 1) way)))

-- a mark that is a failure goes on
unfoldable pub marked_on : List Node → Forced → Trace → Trace
marked_on nodes (Forced.Loss fault) t = failed nodes fault.origin t
marked_on nodes (Forced.Allocated head) t = t
marked_on nodes (Forced.Ended top) t = t

-- the trace after one more mark of the event
abbrev pub followed : Trace → Moment → Trace
followed t m = marked_on m.before.nodes.items m.mark t

-- the links that the failures among these marks followed, in the order of their steps but for stops
abbrev pub travels_of : List Moment → List Travel
travels_of moments = (fold followed (record { links = []; step = 0 }) moments).links
