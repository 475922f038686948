-- What a change forces, under other names.
use Rattle.alike_cores.proofs.Common.{Allocated, Bool, BufferName, Buffers, Called, Collection, CountsAlike, Ended, Forces, Handles}
use Rattle.alike_cores.proofs.Common.{HeldBuffer, Interval, KeepsKeys, List, Loss, Mark, Member, Node, NodeKey, None, Option, Rests}
use Rattle.alike_cores.proofs.Common.{Settles, Some, Standing, Strength, [], after_allocation, after_loss, ap, asked, buffer_renamed}
use Rattle.alike_cores.proofs.Common.{collection_renamed, cond, ended, false, filter, forced, given_back, given_buffers, held_renamed}
use Rattle.alike_cores.proofs.Common.{is_home, is_home_in, is_root_of, is_under, laid_out, list_any, made, map, map-append, mark_renamed}
use Rattle.alike_cores.proofs.Common.{member_of, member_renamed, members_of, names, nat_lt, node_of, node_renamed, not, option_map}
use Rattle.alike_cores.proofs.Common.{option_map_or, pages_in, pages_of, places, refl, same_key, some_strong_live, standing}
use Rattle.alike_cores.proofs.Common.{standing_renamed, subst, sym, true, with_nodes, ℕ, ◌&&◌, ◌++◌, ◌||◌, ◌∙◌, ◌∷◌, ◌≡◌}
use Rattle.std.specs.List.{range_with_len}
use Rattle.std.specs.Option.{is_none}
use Rattle.sm_names.specs.Timelines.{layout}
use Rattle.forest_store.specs.Nodes.{after_end}
use Rattle.forest_store.specs.Settling.{buffer_names}
use Rattle.alike_cores.proofs.Renamings.{any-renamed, loss-renamed, member-renamed, members-renamed, node_of-renamed}
use Rattle.alike_cores.proofs.Forcings.{any_alike, asked-renamed, filter_alike, forced-renamed, strong-renamed}

-- ---- buffers and their pages

-- A renamed buffer keeps its pages.
pub pages-renamed : (id : ℕ → ℕ) (hs : List HeldBuffer) →
    map (λ (h : HeldBuffer). h.pages) (map (held_renamed id) hs) ≡ map (λ (h : HeldBuffer). h.pages) hs
pages-renamed id [] = refl
pages-renamed id (h ∷ hs) = ap (λ (l : List Interval). h.pages ∷ l) (pages-renamed id hs)

-- Buffer by buffer: the index stays.
pub names-renamed : (id : ℕ → ℕ) (collection count : ℕ) →
    names (id collection) count ≡ map (buffer_renamed id) (names collection count)
names-renamed id collection count = each (range_with_len 0 count)
  where
    -- by induction on the indexes
    each : (is : List ℕ) → map (λ (i : ℕ). record { collection = id collection; index = i }) is
        ≡ map (buffer_renamed id) (map (λ (i : ℕ). record { collection = collection; index = i }) is)
    each [] = refl
    each (i ∷ is) = ap (λ (l : List BufferName). record { collection = id collection; index = i } ∷ l) (each is)

-- Buffer by buffer, with its start.
laid-renamed : (id : ℕ → ℕ) (pages : ℕ) (bs : List BufferName) (starts : List ℕ) →
    laid_out pages (map (buffer_renamed id) bs) starts ≡ map (held_renamed id) (laid_out pages bs starts)
laid-renamed id pages [] starts = refl
laid-renamed id pages (b ∷ bs) [] = refl
laid-renamed id pages (b ∷ bs) (start ∷ starts) =
    ap (λ (l : List HeldBuffer). record { buffer = buffer_renamed id b; pages = record { start = start; pages = pages } } ∷ l)
    (laid-renamed id pages bs starts)

-- Places depend on sizes and held pages alone.
layout-renamed : (id : ℕ → ℕ) (pool collection : ℕ) (b : Buffers) (held : List Interval) →
    layout pool (id collection) b held ≡ map (held_renamed id) (layout pool collection b held)
layout-renamed id pool collection b held =
    ap (λ (bs : List BufferName). option_map_or (laid_out (pages_of b.size) bs) (places pool (pages_of b.size) b.count held) [])
    (names-renamed id collection b.count)
    ∙ from (places pool (pages_of b.size) b.count held)
  where
    -- by cases: without places nothing is laid out
    from : (o : Option (List ℕ)) → option_map_or (laid_out (pages_of b.size) (map (buffer_renamed id) (names collection b.count))) o []
        ≡ map (held_renamed id) (option_map_or (laid_out (pages_of b.size) (names collection b.count)) o [])
    from None = refl
    from (Some starts) = laid-renamed id (pages_of b.size) (names collection b.count) starts

-- ---- marks

-- Element by element.
pub map_alike : {A : Type 0} (f g : A → A) (r : A → A) → ((x : A) → f (r x) ≡ r (g x)) → (xs : List A) →
    map f (map r xs) ≡ map r (map g xs)
map_alike f g r same [] = refl
map_alike f g r same (x ∷ xs) = λ i. same x i ∷ map_alike f g r same xs i

-- A node gets buffers iff its head is the key.
allocation-renamed : (to : NodeKey → NodeKey) (id : ℕ → ℕ) → KeepsKeys to → (head : NodeKey) (nodes : List Node) →
    after_allocation (to head) (map (node_renamed to id) nodes) ≡ map (node_renamed to id) (after_allocation head nodes)
allocation-renamed to id keeps head nodes = map_alike (given_buffers (to head)) (given_buffers head) (node_renamed to id)
    (λ n i. record (node_renamed to id n) { allocated = keeps head n.head i || n.allocated }) nodes

-- A node ends iff the top is on its way up.
end-renamed : (to : NodeKey → NodeKey) (id : ℕ → ℕ) → KeepsKeys to → (top : NodeKey) (nodes : List Node) →
    after_end (to top) (map (node_renamed to id) nodes) ≡ map (node_renamed to id) (after_end top nodes)
end-renamed to id keeps top nodes = map_alike (ended (map (node_renamed to id) nodes) (to top)) (ended nodes top) (node_renamed to id)
    (λ n i. record (node_renamed to id n) { gone = under n i || n.gone }) nodes
  where
    -- since the keys above are the new names of those above
    under : (n : Node) → is_under (to top) (member_of (map (node_renamed to id) nodes) (node_renamed to id n))
        ≡ is_under top (member_of nodes n)
    under n = ap (is_under (to top)) (member-renamed to id keeps nodes n) ∙ any-renamed to keeps top (n.key ∷ (member_of nodes n).above)

-- The node of that key has no parent.
root_of-renamed : (to : NodeKey → NodeKey) (id : ℕ → ℕ) → KeepsKeys to → (c : Collection) (key : NodeKey) →
    is_root_of (collection_renamed to id c) (to key) ≡ is_root_of c key
root_of-renamed to id keeps c key =
    ap (λ (o : Option Node). option_map_or (λ (n : Node). is_none n.parent) o false) (node_of-renamed to id keeps c.nodes key)
    ∙ from (node_of c.nodes key)
  where
    -- by cases on the parent
    parent : (o : Option NodeKey) → is_none (option_map to o) ≡ is_none o
    parent None = refl
    parent (Some p) = refl

    -- by cases on the node
    from : (o : Option Node) → option_map_or (λ (n : Node). is_none n.parent) (option_map (node_renamed to id) o) false
        ≡ option_map_or (λ (n : Node). is_none n.parent) o false
    from None = refl
    from (Some n) = parent n.parent

-- Members ask for the same under any names.
members_asked : (to : NodeKey → NodeKey) (id : ℕ → ℕ) → KeepsKeys to → (nodes : List Node) →
    asked (members_of (map (node_renamed to id) nodes)) ≡ asked (members_of nodes)
members_asked to id keeps nodes = ap asked (members-renamed to id keeps nodes) ∙ asked-renamed to keeps (members_of nodes)

-- a mark makes of the renamed collection what it makes of the collection, renamed
pub made-renamed : (to : NodeKey → NodeKey) (id : ℕ → ℕ) → KeepsKeys to →
    (pool : ℕ) (others : List Interval) (mark : Mark) (c : Collection) →
    made pool others (mark_renamed to mark) (collection_renamed to id c) ≡ collection_renamed to id (made pool others mark c)
made-renamed to id keeps pool others (Called client reply call) c = refl
made-renamed to id keeps pool others (Loss origin cause) c =
    λ i. record (collection_renamed to id c) { nodes = loss-renamed to id keeps (record { cause = cause; origin = origin }) c.nodes i }
made-renamed to id keeps pool others (Ended top) c =
    λ i. record (collection_renamed to id c) { nodes = end-renamed to id keeps top c.nodes i }
made-renamed to id keeps pool others (Allocated head) c =
    let first : Buffers → List Interval → List Node → Collection = λ want held ns. record {
      id = id c.id;
      nodes = ns;
      buffers = Some want;
      held = layout pool (id c.id) want (held ++ others) ++ map (held_renamed id) c.held;
    } in
    let later : List Node → Collection = λ ns. record (collection_renamed to id c) { nodes = ns } in
    (λ i. cond (root_of-renamed to id keeps c head i)
    (first (members_asked to id keeps c.nodes i) (pages-renamed id c.held i) (allocation-renamed to id keeps head c.nodes i))
    (later (allocation-renamed to id keeps head c.nodes i)))
    ∙ ap (λ (hs : List HeldBuffer). cond (is_root_of c head) (record {
      id = id c.id;
      nodes = map (node_renamed to id) (after_allocation head c.nodes);
      buffers = Some (asked (members_of c.nodes));
      held = hs ++ map (held_renamed id) c.held;
    }) (later (map (node_renamed to id) (after_allocation head c.nodes)))) (layout-renamed id pool c.id
    (asked (members_of c.nodes)) (pages_in c ++ others))
    ∙ inside (is_root_of c head)
  where
    -- by cases: a root is given buffers of the new id, and any other node changes no buffer
    inside : (b : Bool) →
        cond b (record {
          id = id c.id;
          nodes = map (node_renamed to id) (after_allocation head c.nodes);
          buffers = Some (asked (members_of c.nodes));
          held = map (held_renamed id) (layout pool c.id (asked (members_of c.nodes)) (pages_in c ++ others)) ++ map
              (held_renamed id) c.held;
        })
        (record (collection_renamed to id c) { nodes = map (node_renamed to id) (after_allocation head c.nodes) })
        ≡ collection_renamed to id (cond b (record {
          id = c.id;
          nodes = after_allocation head c.nodes;
          buffers = Some (asked (members_of c.nodes));
          held = layout pool c.id (asked (members_of c.nodes)) (pages_in c ++ others) ++ c.held;
        })
        (with_nodes (after_allocation head) c))
    inside true = λ i. record {
      id = id c.id;
      nodes = map (node_renamed to id) (after_allocation head c.nodes);
      buffers = Some (asked (members_of c.nodes));
      held = sym (map-append (held_renamed id) (layout pool c.id (asked (members_of c.nodes)) (pages_in c ++ others)) c.held) i;
    }
    inside false = refl

-- ---- the collection as it stands

-- As many handles are open on each buffer under its new name.
pub strong_open-renamed : (id : ℕ → ℕ) (before after : Handles) → CountsAlike id before after →
    (collection : ℕ) (o : Option Buffers) →
    list_any (λ (b : BufferName). nat_lt 0 (after b Strength.Strong)) (option_map_or (λ (b : Buffers). names (id collection) b.count) o [])
    ≡ list_any (λ (b : BufferName). nat_lt 0 (before b Strength.Strong)) (option_map_or (λ (b : Buffers). names collection b.count) o [])
strong_open-renamed id before after alike collection None = refl
strong_open-renamed id before after alike collection (Some b) =
    ap (list_any (λ (b : BufferName). nat_lt 0 (after b Strength.Strong))) (names-renamed id collection b.count)
    ∙ any_alike (λ (b : BufferName). nat_lt 0 (after b Strength.Strong))
    (λ (b : BufferName). nat_lt 0 (before b Strength.Strong)) (buffer_renamed id)
    (λ b. ap (nat_lt 0) (alike b Strength.Strong)) (names collection b.count)

-- Part by part: members, held pages, open handles.
pub standing-renamed : (to : NodeKey → NodeKey) (id : ℕ → ℕ) → KeepsKeys to → (before after : Handles) → CountsAlike id before after →
    (others : List Interval) (c : Collection) →
    standing after others (collection_renamed to id c) ≡ standing_renamed to (standing before others c)
standing-renamed to id keeps before after alike others c = λ i. record {
  members = members-renamed to id keeps c.nodes i;
  buffers = c.buffers;
  strong_open = strong_open-renamed id before after alike c.id c.buffers i;
  held = pages-renamed id c.held i ++ others;
}

-- ---- the forced steps, until none applies

-- By the steps: each is forced alike, and makes the renamed collection.
pub settles-renamed : (to : NodeKey → NodeKey) (id : ℕ → ℕ) → KeepsKeys to → (pool : ℕ) (before after : Handles) →
    CountsAlike id before after →
    (others : List Interval) (c last : Collection) → Settles pool before others c last →
    Settles pool after others (collection_renamed to id c) (collection_renamed to id last)
settles-renamed to id keeps pool before after alike others c _ (Rests _ none) =
    Rests (collection_renamed to id c) (ap (forced pool) (standing-renamed to id keeps before after alike others c)
    ∙ forced-renamed to keeps pool (standing before others c) ∙ ap (option_map (mark_renamed to)) none)
settles-renamed to id keeps pool before after alike others c _ (Forces _ last mark some next) =
    Forces (collection_renamed to id c) (collection_renamed to id last) (mark_renamed to mark)
    (ap (forced pool) (standing-renamed to id keeps before after alike others c)
    ∙ forced-renamed to keeps pool (standing before others c) ∙ ap (option_map (mark_renamed to)) some)
    (subst (λ (d : Collection). Settles pool after others d (collection_renamed to id last))
    (sym (made-renamed to id keeps pool others mark c))
    (settles-renamed to id keeps pool before after alike others (made pool others mark c) last next))
