-- A unit is allocated: its nodes have their buffers then, and no other node changes.
use Rattle.forest_steps.proofs.Common.{◌≡◌, ◌≢◌, ◌==◌, refl, ap, sym, ◌∙◌, subst, Bool, true, false, not, ◌&&◌, ◌||◌, ◌⊎◌, inl, inr}
use Rattle.forest_steps.proofs.Common.{List, [], ◌∷◌, map, Option, Some, None, option_map, eqb-false, eqb-true, not-true, AllByRecursion}
use Rattle.forest_steps.proofs.Common.{list_all, list_any, option_map_or, NodeKey, Buffers, same_key, In, In-find, In-list_any, In-map}
use Rattle.forest_steps.proofs.Common.{and_both, and_left, and_right, both_ways, either_way, false_if, or_cases, same_key-true, In-any}
use Rattle.forest_steps.proofs.Common.{Table, node_at, Entry, Node, Unit, AreUnits, lives_in, waits_in, with_nodes, IsStored, IsWhole}
use Rattle.forest_steps.proofs.Common.{CollectionRow, collection_in, is_filed, nodes_with, row_of, is_of, is_next_node, is_head, find}
use Rattle.forest_steps.proofs.Common.{HeldBuffer, map-In, hangs_in, given_all, after_allocation, is_allocated_node, IsGivenAt, given_at}
use Rattle.forest_steps.proofs.Common.{GoTogether, any_map, all-In, looked-of, after_all, IsBareHead, in_all, looked_there, IsSameNode}
use Rattle.forest_steps.proofs.Common.{all_at, arith, or_false, IsUnitListed, AreClosed, are_held_except, hangs_in_some, holds_unit}
use Rattle.forest_steps.proofs.Common.{is_coming, is_held, is_next_except, looked-map, all_in, kept-with, one_row}
use Rattle.forest_store.proofs.quiescence.Together.{together_given}
use Rattle.forest_store.proofs.lists.Lookups.{same_key-swap}
use Rattle.forest_steps.proofs.allocation.Giving.{given_in, given_other, given_out, kept_given, same_given}
use Rattle.forest_store.proofs.tables.Writing.{IsWhole-map, collections-map}
use Rattle.forest_store.proofs.tallies.Slots.{units_with}
use Rattle.forest_steps.proofs.turns.Gifts.{ready_same, closed_mapped}
use Rattle.forest_steps.proofs.mid_event.Listed.{key_within, of_unit}
use Rattle.forest_steps.proofs.tables.OfRow.{of_it}

-- ---- lists

-- by induction: no element changes
pub still_map : (f : Node → Node) (xs : List Node) → ((x : Node) → In x xs → f x ≡ x) → map f xs ≡ xs
still_map f [] same = refl
still_map f (x ∷ xs) same = λ i. same x (inl refl) i ∷ still_map f xs (λ y on. same y (inr on)) i

-- by induction: each element passes as it did before the map
pub all_mapped : (p q : Node → Bool) (f : Node → Node) (ns : List Node) →
    ((n : Node) → p (f n) ≡ q n) → list_all p (map f ns) ≡ list_all q ns
all_mapped p q f [] same = refl
all_mapped p q f (n ∷ ns) same = λ i. same n i && all_mapped p q f ns same i

-- by cases on the option
was_by : (g : Node → Node) (o : Option Node) {n : Node} → option_map g o ≡ Some n → (m : Node) × (o ≡ Some m) × (g m ≡ n)
was_by g None is = cc
was_by g (Some m) is = (m, refl, cc)

-- a node that is found was found before
pub was_there : (g : Node → Node) (t now : Table Node) → ((key : NodeKey) → node_at now key ≡ option_map g (node_at t key)) →
    (key : NodeKey) {n : Node} → node_at now key ≡ Some n → (m : Node) × (node_at t key ≡ Some m) × (g m ≡ n)
was_there g t now look key is = was_by g _ (sym (look key) ∙ is)

-- ---- the nodes once a unit is allocated

-- the node, once the unit with this head is allocated
abbrev pub f : NodeKey → Node → Node
f k = given_all (k ∷ [])

-- the nodes, once the unit with this head is allocated
abbrev pub served : NodeKey → List Node → List Node
served k nodes = after_all (k ∷ []) nodes

-- the list has one head alone
pub given_is : (k : NodeKey) (nodes : List Node) → served k nodes ≡ after_allocation k nodes
given_is k nodes = map-In _ _ _ (λ n on. λ i. record n {
  allocated = ((λ j. or_false (same_key n.head k) j) ∙ same_key-swap _ k) i || n.allocated;
})

-- units go together through an allocation
pub together_then : (k : NodeKey) {nodes : List Node} → GoTogether nodes → GoTogether (served k nodes)
together_then k old = subst GoTogether (sym (given_is k _)) (together_given k _ old)

-- what holds the units is the same
hangs_same : (k : NodeKey) (nodes : List Node) (head : NodeKey) (n : Node) → hangs_in (served k nodes) head (f k n) ≡ hangs_in nodes head n
hangs_same k nodes head n = λ i. option_map_or (λ p. any_map (λ (q : Node). is_of p q && same_key q.head head)
    (λ (q : Node). is_of p q && same_key q.head head) (f k) nodes (λ q. refl) i) n.parent false

-- allocation changes nothing of what holds a unit
pub held_then : (k : NodeKey) (nodes : List Node) → are_held_except [] nodes ≡ true → are_held_except [] (served k nodes) ≡ true
held_then k nodes held = all_mapped (is_held (served k nodes)) _ (f k) nodes (λ n.
    ap (λ b. n.gone || (not (is_head n) || b)) (any_map (holds_unit (served k nodes) n.key) _ (f k) nodes (λ m.
    ap (λ b. not m.gone && ((same_key m.head n.key && not m.released) || (m.attached && b))) (hangs_same k nodes n.key m))))
    ∙ held

-- ---- what may come to its turn then

-- one that may come to its turn might before: it is as ready as it was
pub coming_was : (k : NodeKey) (nodes : List Node) (n : Node) → is_coming (served k nodes) (f k n) ≡ true → is_coming nodes n ≡ true
coming_was k nodes n h = grind (arith, ready_same)

-- a unit that is coming after was coming before, and hangs as it did
pub closed_given : (k : NodeKey) (nodes : List Node) (hs : List NodeKey) → AreClosed nodes hs → AreClosed (served k nodes) hs
closed_given k nodes hs closed =
    closed_mapped (f k) (λ m. record { key = refl; parent = refl; attached = refl; collection = refl; head = refl }) nodes hs
    (λ n on. coming_was k nodes n) closed

-- one whose parent has its buffers now had it so, or hangs right below the unit
turn_was : (k : NodeKey) (nodes : List Node) (n : Node) (o : Option NodeKey) → n.parent ≡ o →
    option_map_or (λ p. list_any (is_allocated_node p) (served k nodes)) o false ≡ true →
    (hangs_in_some nodes (k ∷ []) n ≡ true) ⊎ (option_map_or (λ p. list_any (is_allocated_node p) nodes) n.parent false ≡ true)
turn_was k nodes n None is h = let no : false ≡ true = h in absurd (cc)
turn_was k nodes n (Some p) is h =
    let x = In-list_any (is_allocated_node p) (served k nodes) h in
    let y = In-map (f k) nodes x.0 x.1 in
    let m : Node = y.0 in
    let was : is_allocated_node p (f k m) ≡ true = ap (is_allocated_node p) (sym y.2) ∙ x.2 in
    let both : ((list_any (same_key m.head) (k ∷ []) || m.allocated) && same_key m.key p) ≡ true = and_right _ _ was in
    let key : same_key m.key p ≡ true = and_right _ _ both in
    elim (or_cases (list_any (same_key m.head) (k ∷ [])) m.allocated
    (and_left (list_any (same_key m.head) (k ∷ []) || m.allocated) _ both)) [
      | inl h ↦ inl
          (ap (λ o. option_map_or (λ q. list_any (λ (r : Node). is_of q r && list_any (same_key r.head) (k ∷ [])) nodes)
          o false) is ∙ In-any (λ (r : Node). is_of p r && list_any (same_key r.head) (k ∷ [])) nodes m y.1
          (and_both _ _ key h))
      | inr h ↦ inr
          (ap (λ o. option_map_or (λ p. list_any (is_allocated_node p) nodes) o false) is
          ∙ In-any (is_allocated_node p) nodes m y.1 (and_both _ _ (and_left _ _ was) (and_both _ _ h key)))
    ]

-- a node is next where it is coming, and the unit above has its buffers
next_is : (nodes : List Node) (n : Node) → is_coming nodes n ≡ true →
    option_map_or (λ p. list_any (is_allocated_node p) nodes) n.parent false ≡ true → is_next_node nodes n ≡ true
next_is nodes n coming above = grind arith

-- and is both, where it is next
pub next_parts : (nodes : List Node) (n : Node) → is_next_node nodes n ≡ true →
    (is_coming nodes n ≡ true) × (option_map_or (λ p. list_any (is_allocated_node p) nodes) n.parent false ≡ true)
next_parts nodes n h = grind arith

-- only these are next then, if those that hang right below the unit are among them, and those that were next
pub next_then : (k : NodeKey) (nodes : List Node) (hs : List NodeKey) →
    ((n : Node) → In n nodes → is_coming (served k nodes) (f k n) ≡ true → is_coming nodes n ≡ true →
    hangs_in_some nodes (k ∷ []) n ≡ true → list_any (same_key n.key) hs ≡ true) →
    ((n : Node) → In n nodes → is_coming (served k nodes) (f k n) ≡ true → is_next_node nodes n ≡ true →
    list_any (same_key n.key) hs ≡ true) →
    list_any (is_next_except hs (served k nodes)) (served k nodes) ≡ false
next_then k nodes hs counted_above was = false_if (list_any (is_next_except hs (served k nodes)) (served k nodes)) (λ h.
    let x = In-list_any (is_next_except hs (served k nodes)) (served k nodes) h in
    let y = In-map (f k) nodes x.0 x.1 in
    let is : is_next_except hs (served k nodes) (f k y.0) ≡ true = ap (is_next_except hs (served k nodes)) (sym y.2) ∙ x.2 in
    both_ways (list_any (same_key y.0.key) hs) (among y.0 y.1 (and_left (is_next_node (served k nodes) (f k y.0)) _ is))
    (not-true _ (and_right (is_next_node (served k nodes) (f k y.0)) _ is)))
  where
    -- since it was next, or hangs right below the unit
    among : (n : Node) → In n nodes → is_next_node (served k nodes) (f k n) ≡ true → list_any (same_key n.key) hs ≡ true
    among n on h = grind (arith, coming_was, next_is, next_parts, turn_was)

-- ---- the table

-- the unit with this head, of the collection of the entry, is allocated: its nodes had no buffers, all of them have them then, and the
-- collections beside stay
pub record IsUnitGiven (t now : Table Node) (e : Entry) (k : NodeKey) : Type 0 where
  pub bare : (m : Node) → In m (nodes_with t e.keys.items) → m.head ≡ k → m.allocated ≡ false
  pub nodes : nodes_with now e.keys.items ≡ served k (nodes_with t e.keys.items)
  pub others : (x : CollectionRow) → x.id ≢ e.id → list_all (is_filed t x.id) x.keys ≡ true → collection_in now x ≡ collection_in t x
  pub stored : (buffers : Option Buffers) (held : List HeldBuffer) (ss : List CollectionRow) → IsStored t ss →
      find (λ (x : CollectionRow). x.id == e.id) ss ≡ Some (record { id = e.id; keys = e.keys.items; buffers = buffers; held = held }) →
      IsStored now ss
  pub units : (us : List Unit) (ss : List CollectionRow) → AreUnits us (map (collection_in t) ss) → AreUnits us (map (collection_in now) ss)

module _ {t now : Table Node} {ss : List CollectionRow} (e : Entry) {k : NodeKey} (kept : IsStored t ss)
    (found : find (λ (x : CollectionRow). x.id == e.id) ss ≡ Some (row_of e)) (formed : IsWhole (collection_in t (row_of e)))
    (top : IsBareHead (nodes_with t e.keys.items) k) {ks : List NodeKey} (listed : IsUnitListed t k ks)
    (given : IsGivenAt t now (k ∷ []) ks)
  where
    -- the collection's nodes before the allocation
    abbrev nodes : List Node
    nodes = nodes_with t e.keys.items

    -- the list with one head: that of the unit
    abbrev hs : List NodeKey
    hs = k ∷ []

    -- a node after the allocation, which gives buffers to the unit's listed nodes alone
    abbrev g : Node → Node
    g = given_at (k ∷ []) ks

    -- the node keeps its place
    same_g : (m : Node) → IsSameNode (g m) m
    same_g m = same_given hs ks m

    -- the nodes of the unit go together with its head
    unit_bare : (m : Node) → In m nodes → m.head ≡ k → (m.allocated ≡ false) × (m.gone ≡ false)
    unit_bare m on own = (
      formed.together.alike m top.head on top.on (own ∙ sym top.key) (top.own ∙ sym top.key) top.here ∙ top.waits,
      formed.together.spared m top.head on top.on (own ∙ sym top.key) (top.own ∙ sym top.key) top.here top.waits,
    )

    -- each node of the unit was listed, so it is given
    each_given : (m : Node) → In m nodes → g m ≡ f k m
    each_given m on = elim (either_way (list_any (same_key m.key) ks)) [
      | inl h ↦ given_in hs ks m h
      | inr out ↦ given_out hs ks m out ∙ given_other hs m (false_if _ (λ h.
          let own : m.head ≡ k = same_key-true _ k (sym (or_false _) ∙ h) in
          both_ways _ (of_unit kept found top listed m on (unit_bare m on own).1 own) out))
    ]

    -- the keys are looked up one by one
    nodes_then : nodes_with now e.keys.items ≡ served k (nodes_with t e.keys.items)
    nodes_then = looked-map g _ _ given.look _ ∙ map-In g _ _ each_given

    -- the nodes of other collections are of other units
    others_stay : (x : CollectionRow) → x.id ≢ e.id → list_all (is_filed t x.id) x.keys ≡ true → collection_in now x ≡ collection_in t x
    others_stay x differ filed = λ i. record (collection_in t x) { nodes = stay i }
      where
        apart : (m : Node) → In m (nodes_with t x.keys) → g m ≡ m
        apart m there = given_out hs ks m (false_if _ (λ h.
            let is : node_at t m.key ≡ Some m = in_all _ _ (looked_there t kept.named _) m there in
            let own : In m nodes = key_within kept found top listed is h in
            differ (sym (eqb-true _ _ (all-In _ _ m there (looked-of t _ _ filed))) ∙ of_it kept found m own)))

        stay : nodes_with now x.keys ≡ nodes_with t x.keys
        stay = looked-map g _ _ given.look _ ∙ still_map g _ apart

    -- this collection is whole, the others stay, and each node keeps its place
    stored_on : (buffers : Option Buffers) (held : List HeldBuffer) {xs : List CollectionRow} → IsStored t xs →
        find (λ (x : CollectionRow). x.id == e.id) xs ≡ Some (record { id = e.id; keys = e.keys.items; buffers = buffers; held = held }) →
        IsStored now xs
    stored_on buffers held {xs} old there =
        kept-with g same_g (λ m h. sym (kept_given (λ (x : Node). x.gone) hs (λ x. refl) ks m) ∙ h) t now
        given.same.first given.same.nexts given.same.len given.look given.parents xs whole_then old
      where
        own : CollectionRow
        own = record { id = e.id; keys = e.keys.items; buffers = buffers; held = held }

        on_list : In own xs
        on_list = (In-find _ xs own there).0

        then : collection_in now own ≡ with_nodes (after_all hs) (collection_in t own)
        then = λ i. record (collection_in t own) { nodes = nodes_then i }

        whole_then : AllByRecursion (λ (x : CollectionRow). IsWhole (collection_in now x)) xs
        whole_then = all_in _ xs (λ x on. elim (either_way (x.id == e.id)) [
          | inl h ↦
              rw (one_row xs old.rising x own on on_list (eqb-true _ _ h))
              (subst IsWhole (sym then)
              (IsWhole-map _ (λ m. record { key = refl; parent = refl; attached = refl; collection = refl; head = refl })
              (λ m. refl) _ (together_then k) (all_at _ xs old.whole own on_list)))
          | inr h ↦
              subst IsWhole (sym (others_stay x (eqb-false x.id e.id h) (all-In _ xs x on old.filed)))
              (all_at _ xs old.whole x on)
        ])

    -- allocation changes none of the counts of units
    units_on : (us : List Unit) (xs : List CollectionRow) → AreUnits us (map (collection_in t) xs) →
        AreUnits us (map (collection_in now) xs)
    units_on us xs all = subst (AreUnits us) (sym (collections-map g same_g t now given.look xs))
        (units_with us g same_g (λ m. kept_given (λ x. x.gone) hs (λ x. refl) ks m)
        (λ j m. kept_given (lives_in j) hs (λ x. refl) ks m)
        (λ j m. kept_given (waits_in j) hs (λ x. refl) ks m) _ all)

    -- each of these
    pub unit_given : IsUnitGiven t now e k
    unit_given = record {
      bare = λ m on own. (unit_bare m on own).0;
      nodes = nodes_then;
      others = others_stay;
      stored = stored_on;
      units = units_on;
    }
