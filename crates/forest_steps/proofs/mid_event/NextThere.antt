-- Whether an attached unit is next, which its head, the node above it and the counts tell, while forced steps are being made.
use Rattle.forest_steps.proofs.Common.{◌≡◌, ℕ, refl, ap, sym, ◌∙◌, subst, Bool, true, false, not, inl, inr, List, [], ◌∷◌, Option}
use Rattle.forest_steps.proofs.Common.{Some, None, eq-eqb, not-true, list_all, list_any, option_map_or, NodeKey, same_key, times, In}
use Rattle.forest_steps.proofs.Common.{In-list_any, and_both, and_left, and_right, both_ways, either_way, false_if, same_key-true}
use Rattle.forest_steps.proofs.Common.{all_on, In-any, Table, node_at, parent_at, Entry}
use Rattle.forest_steps.proofs.Common.{Node, Unit, unit_at, waits_in, waiting, CollectionRow}
use Rattle.forest_steps.proofs.Common.{nodes_with, is_next_node, is_ready_node, same_key-equal, row_at, unit_of, is_allocated_node}
use Rattle.forest_steps.proofs.Common.{is_waiting_head, count_none, arith, or_first, IsSome, PendingUnit, has_turn_at, is_next_there}
use Rattle.forest_steps.proofs.Common.{MidEvent, is_head_left, is_next_except, turn_heads, waits_among, or_left}
use Rattle.forest_store.specs.UnitAllocation.{has_buffers_there}
use Rattle.forest_steps.proofs.turns.Gifts.{not_this}
use Rattle.forest_steps.proofs.mid_event.Ready.{none_next, under_with, unit_told}
use Rattle.forest_steps.proofs.tables.OfRow.{at_key}

-- ---- which are due

-- the root waits for none but these
pub wait_among : (nodes : List Node) (pending : List NodeKey) → waiting nodes ≡ None → waits_among pending nodes ≡ true
wait_among nodes pending none = ap (λ o. option_map_or (λ (n : Node). list_any (same_key n.key) pending) o true) none

-- none waits, since none is due
pub none_waits : (nodes : List Node) → waits_among [] nodes ≡ true → waiting nodes ≡ None
none_waits nodes h = grind arith

-- only these are next, where only these were but for some that are not
pub next_fewer : (nodes : List Node) (pending few : List NodeKey) → list_any (is_next_except pending nodes) nodes ≡ false →
    ((n : Node) → In n nodes → is_next_node nodes n ≡ true → list_any (same_key n.key) pending ≡ true →
    list_any (same_key n.key) few ≡ true) →
    list_any (is_next_except few nodes) nodes ≡ false
next_fewer nodes pending few next each = false_if _ (λ h.
    let x = In-list_any _ _ h in
    let is : is_next_node nodes x.0 ≡ true = and_left _ _ x.2 in
    let other : list_any (same_key x.0.key) pending ≡ false =
    false_if _ (λ e. both_ways _ (each x.0 x.1 is e) (not-true _ (and_right _ _ x.2))) in
    not_this _ _ x.0 next x.1 (and_both _ _ is (ap not other)))

-- ---- what the counts tell

module _ {t : Table Node} {us : List Unit} {ss : List CollectionRow} {e : Entry} {unheld pending : List NodeKey}
    (u : MidEvent t us ss e unheld pending) (k : NodeKey) (head : Node) (head_on : In head (nodes_with t e.keys.items))
    (head_key : head.key ≡ k) where
  -- the nodes that the table has under the entry's keys
  abbrev nodes : List Node
  nodes = nodes_with t e.keys.items

  -- the head stands in the table under its key
  pub head_is : node_at t k ≡ Some head
  head_is = ap (node_at t) (sym head_key) ∙ at_key u.store.kept u.store.found _ head_on

  -- the slot of the head has the counts of its unit
  unit_is : unit_at us k.slot ≡ unit_of nodes k
  unit_is = rw head_key at (unit_told u _ head_on)

  -- the counts tell whether it is ready
  pub ready_by : (unit_at us k.slot).unready ≡ 0 → list_all (is_ready_node k) nodes ≡ true
  ready_by none = all_on _ nodes (λ m there. elim (either_way (is_ready_node k m)) [
    | inl r ↦ r
    | inr r ↦ both_ways _ (In-any (waits_in k) nodes m there (ap not r))
        (count_none (waits_in k) nodes (sym (ap (λ (x : Unit). x.unready) unit_is) ∙ none))
  ])

  -- where it is next it is found to be
  pub next_told : is_next_node nodes head ≡ true → is_next_there t us k ≡ true
  next_told h =
      let attached = and_left head.attached _ h in
      let a = and_right head.attached _ h in
      let b = and_right (not head.gone) _ a in
      let c = and_right (not head.allocated) _ b in
      let here : head.gone ≡ false = not-true _ (and_left (not head.gone) _ a) in
      let ready : list_all (is_ready_node k) nodes ≡ true =
      subst (λ j. list_all (is_ready_node j) nodes ≡ true) head_key (and_right _ _ c) in
      let waits : is_waiting_head head ≡ true = and_both _ _ attached
      (and_both (not head.gone) _ (and_left (not head.gone) _ a) (and_left (not head.allocated) _ b)) in
      let up : parent_at t k ≡ head.parent = u.store.kept.linked k head head_is here in
      let turn : has_turn_at t k ≡ true = and_both _ _
      (ap (λ o. option_map_or is_waiting_head o false) head_is ∙ waits)
      (ap (λ o. option_map_or (has_buffers_there t) o false) up ∙ served head.parent (and_left _ _ c)) in
      and_both _ _ turn (eq-eqb _ 0 (ap (λ (x : Unit). x.unready) unit_is ∙ none nodes ready))
    where
      served : (o : Option NodeKey) → option_map_or (λ p. list_any (is_allocated_node p) nodes) o false ≡ true →
          option_map_or (has_buffers_there t) o false ≡ true
      served o h = grind (arith, In-list_any, at_key u.store.kept u.store.found, same_key-true)

      none : (ns : List Node) → list_all (is_ready_node k) ns ≡ true → times (waits_in k) ns ≡ 0
      none [] all = refl
      none (n ∷ ns) all =
          let is : is_ready_node k n ≡ true = and_left _ _ all in
          rw is (none ns (and_right _ _ all))

  -- where it is found to be, its head is left
  pub told_left : is_next_there t us k ≡ true → is_head_left nodes k ≡ true
  told_left told = grind (arith, In-any, head_is, same_key-equal)

-- the counts that were read are those that are kept
pub next_by : (t : Table Node) (k : NodeKey) (read us : List Unit) (r b : Bool) → r ≡ is_next_there t read k → read ≡ us → r ≡ b →
    is_next_there t us k ≡ b
next_by t k read us r b told same is = ap (λ xs. is_next_there t xs k) (sym same) ∙ (sym told ∙ is)

-- ---- one unit

-- a unit that is found to be next is there
pub told_there : (t : Table Node) (us : List Unit) (k : NodeKey) → is_next_there t us k ≡ true → IsSome (row_at t k)
told_there t us k told = grind arith

module _ {t : Table Node} {us : List Unit} {ss : List CollectionRow} {e : Entry} {k : NodeKey} (u : MidEvent t us ss e [] (k ∷ []))
    (no_wait : waits_among [] (nodes_with t e.keys.items) ≡ true) where
  -- the nodes that the table has under the entry's keys
  abbrev nodes_one : List Node
  nodes_one = nodes_with t e.keys.items

  -- where it is not found to be next, none is due
  pub none_due : is_next_there t us k ≡ false → MidEvent t us ss e [] []
  none_due out = under_with u u.held (next_fewer _ (k ∷ []) [] u.next (λ n on next pending.
      both_ways _ (next_told u k n on (same_key-true _ k (or_first _ _ pending refl)) next) out)) no_wait

  -- nor where no buffers were given
  pub none_bare : e.buffers ≡ None → MidEvent t us ss e [] []
  none_bare none = under_with u u.held (next_fewer nodes_one (k ∷ []) [] u.next (λ n on next pending.
      absurd (not_this (is_next_node nodes_one) nodes_one n (none_next nodes_one (u.bare none)) on next))) no_wait

  -- more may be due
  pub more_due : (pending : List NodeKey) → MidEvent t us ss e [] (k ∷ pending)
  more_due pending = under_with u u.held
      (next_fewer nodes_one (k ∷ []) (k ∷ pending) u.next
      (λ n on next one. or_left (same_key n.key k) (list_any (same_key n.key) pending) (or_first _ _ one refl)))
      (wait_among nodes_one (k ∷ pending) (none_waits nodes_one no_wait))

  -- so where a list begins with it, those that are listed
  pub listed_due : (ws : List PendingUnit) (place : ℕ) (rest : List PendingUnit) → ws ≡ record { place = place; head = k } ∷ rest →
      MidEvent t us ss e [] (turn_heads ws)
  listed_due ws place rest is = rw is (more_due _)
