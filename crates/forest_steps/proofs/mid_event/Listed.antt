-- What a walk over one unit finds: each of its nodes, so that what these ask for is what the unit asks for.
use Rattle.forest_steps.proofs.Common.{◌≡◌, ℕ, ◌==◌, refl, ap, sym, ◌∙◌, subst, Bool, true, false, not, ◌&&◌, inl, inr, List, Option}
use Rattle.forest_steps.proofs.Common.{Some, None, arith, not-true, find, list_any, sum_by, option_map_or, NodeKey, Buffers, Demand}
use Rattle.forest_steps.proofs.Common.{same_key, In, and_left, and_right, both_ways, either_way, false_if, same_key-true, Table}
use Rattle.forest_steps.proofs.Common.{node_at, parent_at, Effect, Node, affected, IsStored, CollectionRow, nodes_with, reserved_count}
use Rattle.forest_steps.proofs.Common.{same_key-equal, Contains-from_any, list_any-from_Contains, filter_map, greatest, Writes}
use Rattle.forest_steps.proofs.Common.{Below, Top, Within, stopped_at, RemovalKind, late_failure, demands_of, is_in_unit, same_affected}
use Rattle.forest_steps.proofs.Common.{in_looked, IsBareHead, key_listed, head_own, in_all, looked_there, in_row, camped_sum}
use Rattle.forest_steps.proofs.Common.{and-false, ◌↔◌, Contains, refusal, IsUnitListed, asked_there, parents-written, amount_within}
use Rattle.forest_steps.proofs.tables.Upward.{own_head, by_unit}
use Rattle.std.specs.Option.{option_map}
use Rattle.forest_steps.proofs.failures.Ties.{key_equivalence}
use Rattle.forest_steps.proofs.allocation.Sums.{asked_back, asked_of, asks_passes, joined, greatest_same}
use Rattle.forest_steps.proofs.mid_event.Affecting.{look_here}
use Rattle.forest_steps.proofs.tables.Rows.{child_node}
use Rattle.forest_steps.proofs.tables.OfRow.{whole, linked, at_key, of_it}

module _ {t : Table Node} {ss : List CollectionRow} (kept : IsStored t ss) {s : CollectionRow}
    (found : find (λ (x : CollectionRow). x.id == s.id) ss ≡ Some s)
    {k : NodeKey} (top : IsBareHead (nodes_with t s.keys) k) {ks : List NodeKey} (listed : IsUnitListed t k ks) where
  -- the nodes that the table has under the row's keys
  abbrev nodes : List Node
  nodes = nodes_with t s.keys

  -- whether a node other than the head stops the walk: it is attached
  abbrev stopped : NodeKey → Bool
  stopped = stopped_at (λ (n : Node). n.attached) t k

  -- the walk down from the head reaches the key
  abbrev Inside : NodeKey → Type 0
  Inside key = Within (parent_at t) stopped k key

  -- the walk lists each key that it reaches
  inside_key : (key : NodeKey) → Inside key → list_any (same_key key) ks ≡ true
  inside_key key reach = list_any-from_Contains key_equivalence key ks ((listed.within key).1 reach)

  -- the walk reaches what it lists
  key_inside : (key : NodeKey) → list_any (same_key key) ks ≡ true → Inside key
  key_inside key there = (listed.within key).0 (Contains-from_any same_key-true key ks there)

  -- ---- all of the unit are listed

  -- a node of the unit doesn't stop the walk
  goes_on : (n : Node) → In n nodes → n.head ≡ k → stopped n.key ≡ false
  goes_on n on own =
      ap (λ o. not (same_key n.key k) && option_map_or (λ (m : Node). m.attached) o false) (at_key kept found n on)
      ∙ elim (either_way n.attached) [
        | inl e ↦
            let same : same_key n.key k ≡ true = same_key-equal _ _ (sym (head_own _ (whole kept found).sound n on e) ∙ own) in
            rw same refl
        | inr e ↦ rw e (and-false _)
      ]

  -- so it lists each node of the unit: it walks down from the head within it
  pub of_unit : (n : Node) → In n nodes → n.gone ≡ false → n.head ≡ k → list_any (same_key n.key) ks ≡ true
  of_unit = by_unit (whole kept found) (λ n. n.head ≡ k → list_any (same_key n.key) ks ≡ true)
      (λ n on here head own. rw (sym (own_head (whole kept found) n on head) ∙ own) (inside_key k Top))
      (λ n x on here inner there up same listed own. inside_key n.key (Below x.key n.key (key_inside x.key (listed (same ∙ own)))
      (goes_on x there (same ∙ own)) (linked kept found n on here ∙ up)))

  -- what it does not list is not of the unit
  outside : (n : Node) → In n nodes → list_any (same_key n.key) ks ≡ false → is_in_unit k n ≡ false
  outside n on out = false_if _ (λ h. both_ways _
      (of_unit n on (not-true _ (and_left _ _ h)) (same_key-true _ k (and_right _ _ h))) out)

  -- ---- all that are listed are of the collection

  -- the walk begins in the collection, and a child is of the collection of its parent
  inside_node : (key : NodeKey) → Inside key → (n : Node) × (node_at t key ≡ Some n) × (n.collection ≡ s.id)
  inside_node _ Top = (
    top.head,
    ap (node_at t) (sym top.key) ∙ at_key kept found _ top.on,
    of_it kept found _ top.on,
  )
  inside_node _ (Below over child reach open_above up) =
      let q = inside_node _ reach in
      let n = child_node t _ up in
      (n.0, n.1, sym (kept.kin child over n.0 q.0 n.1 up q.1) ∙ q.2)

  -- what it lists is of the collection
  within : (n : Node) → In n (nodes_with t ks) → In n nodes
  within n on =
      let is : node_at t n.key ≡ Some n = in_all _ _ (looked_there t kept.named ks) n on in
      let m = inside_node _ (key_inside _ (key_listed t kept.named ks n on)) in
      let both : Some n ≡ Some m.0 = sym is ∙ m.1 in
      let same : n ≡ m.0 = cc in
      in_row t ss kept _ s found _ n is (ap (λ (x : Node). x.collection) same ∙ m.2)

  -- the same, said of a key
  pub key_within : {n : Node} → node_at t n.key ≡ Some n → list_any (same_key n.key) ks ≡ true → In n nodes
  key_within {n} is h = within n (in_looked t kept.named RemovalKind.Leaves ks n is h)

  -- ---- what they ask for

  -- the demands of those listed nodes that are of the unit and not gone
  abbrev pub asked : List Demand
  asked = filter_map (asked_there t k) ks

  -- the demands are looked up one by one
  below_asks : asked ≡ demands_of (is_in_unit k) (nodes_with t ks)
  below_asks = joined _ _ ks

  -- only nodes of the unit are added, and these are all listed
  pub sum_is : sum_by (λ (d : Demand). d.camping) asked ≡ sum_by (λ (d : Demand). d.camping) (demands_of (is_in_unit k) nodes)
  sum_is = grind (arith, amount_within, at_key kept found, below_asks, camped_sum, outside, (whole kept found).sound.distinct, within)

  -- each demand of the unit is that of a listed node
  fewer : (d : Demand) → In d (demands_of (is_in_unit k) nodes) → In d asked
  fewer d on =
      let x = asked_of _ _ d on in
      let listed_there : list_any (same_key x.0.key) ks ≡ true = elim (either_way (list_any (same_key x.0.key) ks)) [
        | inl e ↦ e
        | inr e ↦ both_ways _ (asks_passes _ _ x.2) (outside x.0 x.1 e)
      ] in
      rw below_asks (asked_back _ _ x.0 (in_looked t kept.named RemovalKind.Leaves ks x.0 (at_key kept found x.0 x.1) listed_there) x.2)

  -- each listed demand is that of a node of the unit
  more : (d : Demand) → In d asked → In d (demands_of (is_in_unit k) nodes)
  more d on =
      let x = asked_of _ _ d (rw below_asks at on) in
      asked_back _ _ x.0 (within x.0 x.1) x.2

  -- each list has what the other has, so the greatest is one
  pub greatest_is : (f : Demand → ℕ) → greatest f asked ≡ greatest f (demands_of (is_in_unit k) nodes)
  greatest_is f = greatest_same f _ _ more fewer

  -- so these tell why the buffers are not enough for the unit
  pub refusal_is : (b : Buffers) (reserved camping at_least size : ℕ) → reserved ≡ reserved_count nodes →
      camping ≡ sum_by (λ (d : Demand). d.camping) asked → at_least ≡ greatest (λ (d : Demand). d.at_least) asked →
      size ≡ greatest (λ (d : Demand). d.size) asked → refusal b reserved camping at_least size ≡ late_failure k nodes b
  refusal_is b reserved camping at_least size er ec ea es = grind (arith, greatest_is, sum_is)

-- ---- an effect

-- the walk over a unit is the same once an effect is made on a node, which writes neither links nor what stops the walk
pub listed_written : {t now : Table Node} {key : NodeKey} (effect : Effect) {n : Node} → node_at t key ≡ Some n →
    ((k : NodeKey) (m : Node) → node_at t k ≡ Some m → m.key ≡ k) → Writes t now key (affected key effect n) → {head : NodeKey}
    {keys : List NodeKey} → IsUnitListed t head keys → IsUnitListed now head keys
listed_written {t} {now} {key} effect was named writes {head} {keys} listed = record {
  within = λ k. subst (λ stops. Contains keys k ↔ Within (parent_at now) stops head k) (λ i x. sym (stopped x) i)
      (subst (λ up. Contains keys k ↔ Within up (stopped_at (λ (m : Node). m.attached) t head) head k)
      (λ i x. sym (parents-written t now key _ writes x) i) (listed.within k));
  once = listed.once;
}
  where
    -- by cases on the node: the effect does not write it
    attached : (o : Option Node) → option_map_or (λ (m : Node). m.attached) (option_map (affected key effect) o) false
        ≡ option_map_or (λ (m : Node). m.attached) o false
    attached None = refl
    attached (Some m) = (same_affected key _ m).attached

    -- since the effect writes neither links nor whether a node is attached
    stopped : (x : NodeKey) → stopped_at (λ (m : Node). m.attached) now head x ≡ stopped_at (λ (m : Node). m.attached) t head x
    stopped x =
        ap (λ b. not (same_key x head) && b)
        (ap (λ o. option_map_or (λ (m : Node). m.attached) o false) (look_here _ was named writes x)
        ∙ attached (node_at t x))
