-- Where nothing holds a unit, the counts tell how far up nothing but the unit below holds one, and the highest of those ends.
use Rattle.forest_steps.proofs.Common.{◌≡◌, ℕ, zero, suc, ◌≤◌, refl, ap, sym, ◌∙◌, subst, Bool, true, false, ◌||◌, ◌==◌, is_some, inl}
use Rattle.forest_steps.proofs.Common.{inr, List, [], ◌∷◌, ◌++◌, length, reverse, Option, Some, None, option_map, arith, eq-eqb, eqb-true}
use Rattle.forest_steps.proofs.Common.{not-true, cons_option, find, list_any, option_and_then, Interval, NodeKey, forced, same_key, times}
use Rattle.forest_steps.proofs.Common.{when, In, In-find, In-list_any, and_both, and_left, and_right, either_way, or_right, same_key-true}
use Rattle.forest_steps.proofs.Common.{all_on, Table, node_at, Entry, Node, Unit, lives_in, unit_at, Collection, CollectionRow, all_keys}
use Rattle.forest_steps.proofs.Common.{collection_in, nodes_with, row_of, is_deserted_node, Handles, Settles, standing, is_head}
use Rattle.forest_steps.proofs.Common.{ltb-false, or_none_left, or_none_right, table_len, heads_below, is_held_by, unit_of, Ends, decided}
use Rattle.forest_steps.proofs.Common.{mark_of, pages_in, after_end, is_below, Forces, forced_made, all-In, in_all, looked_there}
use Rattle.forest_steps.proofs.Common.{distinct_one, left_in, left_node, left_parent, length-reverse, Ended, climbed, AfterSteps}
use Rattle.forest_steps.proofs.Common.{MidEvent, AfterRemoval, MayGo, are_held_except, holds_unit, is_head_left, is_held, below_held}
use Rattle.forest_steps.proofs.Common.{either_holds, lives_held, above_short, when-Some, ◌+◌, ◌⊎◌, option_map_or, ◌-◌}
use Rattle.forest_steps.specs.Climbing.{unit_over, is_held_once}
use Rattle.forest_steps.proofs.tables.Upward.{line, step, shorter, in_unit_below, head_there}
use Rattle.std.proofs.lemmas.List.{length-append}
use Rattle.forest_steps.proofs.mid_event.Ending.{AreLoose, begins, climbs, first_deserted, held_now, is_one}
use Rattle.forest_steps.proofs.mid_event.Ready.{under_with, whole_under, unit_told}
use Rattle.forest_steps.proofs.mid_event.Leading.{led_none}
use Rattle.forest_steps.proofs.tables.OfRow.{linked}

module _ (t : Table Node) (us : List Unit) where
  -- it ends where there is no next one
  pub stays : (n : ℕ) (head : NodeKey) → unit_over t us head ≡ None → climbed n t us head ≡ head
  stays zero head none = refl
  stays (suc n) head none = ap (λ o. option_map_or (climbed n t us) o head) none

  -- and continues there where there is
  pub goes_on : (n : ℕ) (head : NodeKey) {over : NodeKey} → unit_over t us head ≡ Some over →
      climbed (suc n) t us head ≡ climbed n t us over
  goes_on n head is = ap (λ o. option_map_or (climbed n t us) o head) is

  -- one step more was made
  pub one_more : (i : ℕ) (top : NodeKey) {over : NodeKey} (head : NodeKey) → ((n : ℕ) → climbed n t us top ≡ climbed (i + n) t us head) →
      unit_over t us top ≡ Some over → (n : ℕ) → climbed n t us over ≡ climbed (i + 1 + n) t us head
  one_more i top head so_far is n =
      let more : i + suc n ≡ i + 1 + n = omega arith in
      sym (goes_on n top is) ∙ so_far (suc n) ∙ ap (λ k. climbed k t us head) more

  -- where no step is left, or none of those that are left can be made
  pub all_made : (i all : ℕ) (top head : NodeKey) → ((n : ℕ) → climbed n t us top ≡ climbed (i + n) t us head) → i ≤ all →
      (unit_over t us top ≡ None) ⊎ (i ≡ all) → top ≡ climbed all t us head
  all_made i all top head so_far few (inl none) =
      let rest : i + (all - i) ≡ all = omega arith in
      sym (stays _ top none) ∙ so_far (all - i) ∙ ap (λ k. climbed k t us head) rest
  all_made i all top head so_far few (inr is) =
      let rest : i + 0 ≡ all = omega arith in
      so_far 0 ∙ ap (λ k. climbed k t us head) rest

-- ---- lengths

-- a row has no more keys than all of them
few_keys : (ss : List CollectionRow) (s : CollectionRow) → In s ss → length s.keys ≤ length (all_keys ss)
few_keys [] s on = absurd on
few_keys (x ∷ xs) s (inl is) =
    let same : length s.keys ≡ length x.keys = ap (λ (y : CollectionRow). length y.keys) is in
    omega (arith, length-append x.keys (all_keys xs))
few_keys (x ∷ xs) s (inr there) =
    let rest = few_keys xs s there in
    omega (arith, length-append x.keys (all_keys xs))

-- keys find no more nodes than they are
few_nodes : (t : Table Node) (keys : List NodeKey) → length (nodes_with t keys) ≤ length keys
few_nodes t [] = omega arith
few_nodes t (k ∷ ks) = from (node_at t k) (few_nodes t ks)
  where
    -- by cases: a key that finds no node adds none
    from : (o : Option Node) → length (nodes_with t ks) ≤ length ks → length (cons_option o (nodes_with t ks)) ≤ length (k ∷ ks)
    from None few = omega arith
    from (Some n) few = omega arith

-- a head that is not gone
pub record IsHeadLeft (nodes : List Node) (key : NodeKey) : Type 0 where
  pub node : Node
  pub on : In node nodes
  pub is : node.key ≡ key
  pub here : node.gone ≡ false
  pub head : is_head node ≡ true

-- a node with the key passes the test, and has each of its parts
pub head_left : (nodes : List Node) (key : NodeKey) → is_head_left nodes key ≡ true → IsHeadLeft nodes key
head_left nodes key h =
    let x = In-list_any _ _ h in
    let rest = and_right _ _ x.2 in
    record {
      node = x.0;
      on = x.1;
      is = same_key-true _ key (and_left _ _ x.2);
      here = not-true _ (and_left _ _ rest);
      head = and_right _ _ rest;
    }

-- the unit above one that the counts tell nothing else holds
pub record IsAbove (nodes : List Node) (h : Node) (over : NodeKey) : Type 0 where
  pub above : Node
  pub above_on : In above nodes
  pub up : h.parent ≡ Some above.key
  pub above_here : above.gone ≡ false
  pub node : Node
  pub on : In node nodes
  pub here : node.gone ≡ false
  pub head : is_head node ≡ true
  pub of : node.key ≡ above.head
  pub is : node.key ≡ over
  pub live : times (lives_in node.key) nodes ≡ 0
  pub below : times (heads_below nodes node.key) nodes ≡ 1

-- where this many steps from a head come to
pub record IsTop (nodes : List Node) (t : Table Node) (us : List Unit) (first : NodeKey) (n : ℕ) (from : NodeKey) : Type 0 where
  pub top : Node
  pub keys : List NodeKey
  pub unheld : AreLoose nodes top keys
  pub own : is_one keys first ≡ true
  pub is : climbed n t us from ≡ top.key
  pub last : unit_over t us top.key ≡ None

module _ {t : Table Node} {us : List Unit} {ss : List CollectionRow} {e : Entry} {first : NodeKey} {pending : List NodeKey}
    (ok : MidEvent t us ss e (first ∷ []) pending) where
  -- the nodes that the table has under the entry's keys
  abbrev nodes : List Node
  nodes = nodes_with t e.keys.items

  -- the collection that the table and the entry hold
  abbrev c : Collection
  c = collection_in t (row_of e)

  -- the row is found among them
  on_row : In (row_of e) ss
  on_row = (In-find _ ss _ ok.store.found).0

  -- the keys above a key, from its parent up to the root
  abbrev above : NodeKey → List NodeKey
  above = line (whole_under ok)

  -- each node stands in the table under its key
  at : (m : Node) → In m nodes → node_at t m.key ≡ Some m
  at m on = in_all _ _ (looked_there t ok.store.kept.named _) m on

  -- the line above a key is no longer than the collection, nor that than the table
  short : (key : NodeKey) → length (above key) ≤ table_len t
  short key =
      let a = above_short (reverse nodes) key in
      let b : length (reverse nodes) ≡ length nodes = length-reverse nodes in
      let d = few_nodes t e.keys.items in
      let f = few_keys ss (row_of e) on_row in
      omega (arith, a, b, d, f, ok.store.kept.counted)

  -- ---- the climb

  -- the head of the unit right above
  abbrev unkept_at : Option Node → Option NodeKey
  unkept_at o = option_and_then (λ (n : Node). when (is_held_once t us n) n.head) o

  -- the parent in the table is the one of the node
  over_by : (h : Node) → In h nodes → h.gone ≡ false →
      unit_over t us h.key ≡ option_and_then (λ p. unkept_at (node_at t p)) h.parent
  over_by h on here = ap (λ o. option_and_then (λ p. unkept_at (node_at t p)) o) (linked ok.store.kept ok.store.found h on here)

  -- the climb leads to a unit that is there
  opened : (h : Node) → In h nodes → h.gone ≡ false → {over : NodeKey} → unit_over t us h.key ≡ Some over → IsAbove nodes h over
  opened h on here {over} is = from h.parent refl (sym (over_by h on here) ∙ is)
    where
      from : (o : Option NodeKey) → h.parent ≡ o → option_and_then (λ p. unkept_at (node_at t p)) o ≡ Some over → IsAbove nodes h over
      from None none h = cc
      from (Some p) counted_above h =
          let x = left_node _ p (left_parent _ (whole_under ok).rooted _ p on here counted_above) in
          let w = when-Some _ _ _ (sym (ap unkept_at (ap (node_at t) (sym x.is) ∙ at _ x.on)) ∙ h) in
          let once = and_right _ _ w.0 in
          let r = head_there (whole_under ok) _ x.on x.here in
          let known = unit_told ok r.0 r.1 in
          record {
            above = x.node;
            above_on = x.on;
            up = counted_above ∙ ap Some (sym x.is);
            above_here = x.here;
            node = r.0;
            on = r.1;
            here = r.3;
            head = r.4;
            of = r.2;
            is = r.2 ∙ w.1;
            live = sym (ap (λ (u : Unit). u.live) known) ∙ (ap (λ (k : NodeKey). (unit_at us k.slot).live) r.2
                ∙ eqb-true _ 0 (and_left _ _ once));
            below = sym (ap (λ (u : Unit). u.below) known) ∙ (ap (λ (k : NodeKey). (unit_at us k.slot).below) r.2
                ∙ eqb-true _ 1 (and_right _ _ once));
          }

  -- and ends there only where something else holds the unit above
  closed : (top : Node) → In top nodes → top.gone ≡ false → unit_over t us top.key ≡ None → (y q : Node) → In y nodes → In q nodes →
      top.parent ≡ Some q.key → q.head ≡ y.key → times (lives_in y.key) nodes ≡ 0 → times (heads_below nodes y.key) nodes ≡ 1 → ⊥
  closed top on here last y q y_on q_on counted_above unit live below =
      let there : is_some (node_at t q.head) ≡ true = ap is_some (ap (node_at t) unit ∙ at y y_on) in
      let counts : unit_at us q.head.slot ≡ unit_of nodes y.key = ap (λ (k : NodeKey). unit_at us k.slot) unit ∙ unit_told ok y y_on in
      let none_live : ((unit_at us q.head.slot).live == 0) ≡ true =
      eq-eqb _ 0 (ap (λ (u : Unit). u.live) counts ∙ live) in
      let one_below : ((unit_at us q.head.slot).below == 1) ≡ true =
      eq-eqb _ 1 (ap (λ (u : Unit). u.below) counts ∙ below) in
      let once : is_held_once t us q ≡ true = and_both _ _ there (and_both _ _ none_live one_below) in
      let some : unit_over t us top.key ≡ Some q.head =
      over_by top on here ∙ ap (option_and_then (λ p. unkept_at (node_at t p))) counted_above ∙ ap unkept_at (at q q_on)
      ∙ ap (λ b. when b q.head) once in
      let no : Some q.head ≡ None = sym some ∙ last in
      cc

  -- so with enough steps it reaches the highest
  reach : (n : ℕ) {h : Node} {keys : List NodeKey} → AreLoose nodes h keys → is_one keys first ≡ true → length (above h.key) ≤ n →
      IsTop nodes t us first n h.key
  reach zero {h} {keys} unheld own few = record {
    top = h;
    keys = keys;
    unheld = unheld;
    own = own;
    is = refl;
    last = over_by h unheld.on unheld.here ∙ from h.parent refl;
  }
    where
      from : (o : Option NodeKey) → h.parent ≡ o → option_and_then (λ p. unkept_at (node_at t p)) o ≡ None
      from None is = refl
      from (Some p) is =
          let long : length (above h.key) ≡ length (p ∷ above p) =
          ap length (step (whole_under ok) h unheld.on unheld.here is) in
          absurd (omega (arith, few, long))
  reach (suc n) {h} {keys} unheld own few = from (unit_over t us h.key) refl (λ o ks l w f. reach n l w f)
    where
      from : (o : Option NodeKey) → unit_over t us h.key ≡ o →
          ((m : Node) (ks : List NodeKey) → AreLoose nodes m ks → is_one ks first ≡ true → length (above m.key) ≤ n →
          IsTop nodes t us first n m.key) →
          IsTop nodes t us first (suc n) h.key
      from None is on = record {
        top = h;
        keys = keys;
        unheld = unheld;
        own = own;
        is = stays t us (suc n) _ is;
        last = is;
      }
      from (Some over) is on =
          let x = opened h unheld.on unheld.here is in
          let high : is_below nodes x.node.key x.above.key ≡ true =
          subst (λ k. is_below nodes k x.above.key ≡ true) (sym x.of)
          (in_unit_below (whole_under ok) x.above x.above_on x.above_here) in
          let shorter : length (above x.node.key) ≤ length (above x.above.key) =
          shorter (whole_under ok) _ _ (left_in _ x.node x.on x.here) (left_in _ x.above x.above_on x.above_here) high in
          let long : length (above h.key) ≡ length (x.above.key ∷ above x.above.key) =
          ap length (step (whole_under ok) h unheld.on unheld.here x.up) in
          let next = on x.node (x.node.key ∷ keys)
          (climbs (whole_under ok) unheld x.above x.above_on x.up x.node x.on
          x.here x.head x.of x.live x.below)
          (or_right (same_key first x.node.key) (is_one keys first) own) (omega (arith, few, long, shorter)) in
          record {
            top = next.top;
            keys = next.keys;
            unheld = next.unheld;
            own = next.own;
            is = goes_on t us n h.key is ∙ (ap (climbed n t us) (sym x.is) ∙ next.is);
            last = next.last;
          }

  -- ---- where something holds it

  module _ (left : is_head_left nodes first ≡ true) where
    -- the head is left
    head : IsHeadLeft nodes first
    head = head_left _ _ left

    -- the slot of the head has the counts of its unit
    first_told : unit_at us first.slot ≡ unit_of nodes first
    first_told = rw head.is at (unit_told ok _ head.on)

    module _ (some : is_held_by (unit_at us first.slot) ≡ true) where
      -- a live node holds it, or a head right below
      holds : list_any (holds_unit nodes first) nodes ≡ true
      holds = grind (arith, below_held, either_holds, first_told, lives_held)

      -- the one unit that was loose is held
      all_held : are_held_except [] nodes ≡ true
      all_held = all_on _ nodes (λ m there. elim (either_way (is_one (first ∷ []) m.key)) [
        | inl is ↦ own m (same_key m.key first) refl is
        | inr other ↦ rw other at (all-In (λ (n : Node). is_one (first ∷ []) n.key || is_held nodes n) nodes m there ok.held)
      ])
        where
          own : (m : Node) (b : Bool) → same_key m.key first ≡ b → (b || false) ≡ true → is_held nodes m ≡ true
          own m false is h = cc
          own m true is h =
              or_right _ _ (or_right _ _
              (subst (λ k. list_any (holds_unit nodes k) nodes ≡ true) (sym (same_key-true _ _ is)) holds))

      -- nothing changes
      pub held_led : (handles : Handles) → AfterSteps handles t t us ss e e [] pending
      held_led handles = led_none _ (under_with ok all_held ok.next ok.root)

    -- ---- where nothing does

    module _ (none : is_held_by (unit_at us first.slot) ≡ false) where
      -- nothing holds the unit, by its counts, so it alone is loose
      begun : AreLoose nodes head.node (head.node.key ∷ [])
      begun =
          let is : is_held_by (unit_of nodes head.node.key) ≡ false =
          ap is_held_by (sym (unit_told ok _ head.on)) ∙ (ap (λ (k : NodeKey). is_held_by (unit_at us k.slot)) head.is ∙ none) in
          let live : times (lives_in head.node.key) nodes ≤ 0 =
          ltb-false 0 (times (lives_in head.node.key) nodes)
          (or_none_left _ _ is) in
          let below : times (heads_below nodes head.node.key) nodes ≤ 0 =
          ltb-false 0 (times (heads_below nodes head.node.key) nodes)
          (or_none_right _ _ is) in
          begins (whole_under ok) _ head.on head.here head.head
          (omega arith) (omega arith)

      -- the climb continues while the counts allow, so it ends at the top of what is loose
      made_top : IsTop nodes t us first (table_len t) head.node.key
      made_top = reach _ begun (ap (λ k. is_one (head.node.key ∷ []) k) (sym head.is) ∙ begun.own) (short _)

      -- the highest head that the climb from the first head reaches
      abbrev top : Node
      top = made_top.top

      -- the climb is the one that the code makes
      top_is : (key : NodeKey) → key ≡ climbed (table_len t) t us first → top.key ≡ key
      top_is key is = sym (is ∙ (ap (climbed (table_len t) t us) (sym head.is) ∙ made_top.is))

      -- the top is left, and heads its unit
      pub may_end : (key : NodeKey) → key ≡ climbed (table_len t) t us first → MayGo nodes key None
      may_end key is = grind (arith, at, distinct_one, head, left_in, made_top, top_is, (whole_under ok))

      -- the top is the first head below which nothing lives
      first_is : find (is_deserted_node nodes) nodes ≡ Some top
      first_is =
          first_deserted (whole_under ok) made_top.unheld _
          made_top.own ok.held (closed top made_top.unheld.on made_top.unheld.here made_top.last)

      -- what held each other unit is not below the top
      held_then : are_held_except [] (after_end top.key nodes) ≡ true
      held_then =
          held_now (whole_under ok) made_top.unheld _
          made_top.own ok.held (closed top made_top.unheld.on made_top.unheld.here made_top.last)

      -- a deserted unit is decided first
      decided_is : (strong_open : Bool) → decided nodes c.buffers strong_open ≡ Some (Ends top.key)
      decided_is strong_open = rw first_is refl

      -- what is decided is what is forced
      forced_is : (pool : ℕ) (handles : Handles) (others : List Interval) → forced pool (standing handles others c) ≡ Some (Ended top.key)
      forced_is pool handles others =
          forced_made handles _ others c ∙ ap (option_map (mark_of pool (pages_in c ++ others))) (decided_is _)

      -- the highest ends, as it is forced to, and something holds each unit then
      pub ended_led : (handles : Handles) {key : NodeKey} → key ≡ climbed (table_len t) t us first → {now : Table Node} {after : List Unit}
          {new : Entry} {over : Option NodeKey} → AfterRemoval t now after ss e new key None over (first ∷ []) pending →
          AfterSteps handles t now after ss e new [] pending
      ended_led handles {key} is {now} went = record {
        under = under_with went.under (subst (λ ns. are_held_except [] ns ≡ true)
            (sym (ap (λ (s : CollectionRow). nodes_with now s.keys) went.row ∙ went_is)) held_then) went.under.next went.under.root;
        row = went.row;
        leads = λ pool others last settles. Forces c last (Ended top.key) (forced_is pool handles others)
            (subst (λ d. Settles pool handles others d last) (λ i. record c { nodes = went_is i }) settles);
        beside = went.beside;
      }
        where
          went_is : nodes_with now e.keys.items ≡ after_end top.key nodes
          went_is = went.nodes ∙ ap (λ (k : NodeKey). after_end k nodes) (sym (top_is key is))
