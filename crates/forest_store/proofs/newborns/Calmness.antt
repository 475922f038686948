-- A birth leaves a calm collection calm.
use Rattle.forest_store.proofs.Common.{arith, ◌≡◌, ℕ, ap, refl, sym, subst, ◌∙◌, Bool, true, false, not, ◌&&◌, List, [], ◌∷◌, ◌++◌}
use Rattle.forest_store.proofs.Common.{Option, Some, None, option_map, is_some, find, list_any, option_and_then, option_map_or, NodeKey}
use Rattle.forest_store.proofs.Common.{Buffers, Cause, when, Change, Node, Collection, is_of, members_of, node_of, Standing, is_next_head}
use Rattle.forest_store.proofs.Common.{logical_failure, outcome, Ended, Loss, Mark, Member, demands, reserved, some_strong_live, unit}
use Rattle.forest_store.proofs.Common.{map-None, AtRest, none_is, IsQuiescent, member_of, new_child, new_root, changed}
use Rattle.forest_store.proofs.quiescence.Calming.{calm_none, later, none_calm, wait_tie}
use Rattle.forest_store.proofs.quiescence.Forcing.{deserted_tie, next_tie}
use Rattle.forest_store.proofs.newborns.Members.{IsNewborn, rests_with}
use Rattle.forest_store.proofs.newborns.NothingForced.{HaveOthers, childless, members_more}

-- ---- calm, as the definitions of the forced steps have it

-- the collection while a strong handle is open
abbrev pub kept_open : Collection → Standing
kept_open c = record { members = members_of c.nodes; buffers = c.buffers; strong_open = true; held = [] }

module _ (c : Collection) where
  -- the members of the collection: its nodes that are not gone
  abbrev ms : List Member
  ms = members_of c.nodes

  -- it is not abandoned
  not_abandoned : (o : Option Member) →
      option_and_then (λ (root : Member). when (root.allocated && (not (some_strong_live ms) && false)) (Loss root.key Cause.NoStrong)) o
      ≡ None
  not_abandoned o = grind arith

  -- the allocation of an attached unit
  abbrev served : Option Buffers → Option Mark
  served o = option_and_then (λ (b : Buffers). option_map (λ (head : Member).
      outcome head.key (logical_failure (demands (unit head.key ms)) (reserved ms) b)) (find (is_next_head ms) ms)) o

  -- without buffers nothing is served; with them no head is next
  none_served : (o : Option Buffers) → later c.nodes o ≡ None → served o ≡ None
  none_served None h = refl
  none_served (Some b) h = rw (next_tie c.nodes ∙ ap (option_map (member_of c.nodes)) (map-None _ _ h)) refl

  -- the same from the members to the nodes
  none_later : (o : Option Buffers) → served o ≡ None → later c.nodes o ≡ None
  none_later None h = refl
  none_later (Some b) h = rw (map-None _ _ (sym (next_tie c.nodes) ∙ map-None _ _ h)) refl

  -- no step is left in the collection, so none is among its members
  pub calm_rest : IsQuiescent c → AtRest (kept_open c)
  calm_rest calm =
      let none = none_calm c calm in
      record {
        none_ends = ap (option_map (λ (m : Member). Ended m.key)) (deserted_tie c.nodes ∙ ap (option_map (member_of c.nodes)) none.no_end);
        none_abandoned = not_abandoned _;
        none_waits = wait_tie c.nodes ∙ ap is_some none.no_root;
        no_head = none_served _ none.no_head;
      }

  -- no step is left among the members, so none is in the collection
  pub rest_calm : AtRest (kept_open c) → IsQuiescent c
  rest_calm rest =
      calm_none c (record {
        no_end = map-None _ _ (sym (deserted_tie c.nodes) ∙ map-None _ _ rest.none_ends);
        no_root = none_is _ (sym (wait_tie c.nodes) ∙ rest.none_waits);
        no_head = none_later _ rest.no_head;
      })

-- ---- births

module _ (c : Collection) (calm : IsQuiescent c) where
  -- the birth of this node leaves it calm
  node_calm : (b : Node) → list_any (is_of b.key) c.nodes ≡ false → b.gone ≡ false →
      IsNewborn (members_of c.nodes) (member_of (c.nodes ++ b ∷ []) b) → IsQuiescent (record c { nodes = c.nodes ++ b ∷ [] })
  node_calm b fresh here newborn =
      let grown : Collection = record c { nodes = c.nodes ++ b ∷ [] } in
      let is : kept_open grown ≡ record (kept_open c) { members = members_of c.nodes ++ member_of (c.nodes ++ b ∷ []) b ∷ [] } =
      (λ i. record (kept_open c) { members = members_more _ b fresh here i }) in
      rest_calm grown (subst AtRest (sym is) (rests_with _ _ newborn (calm_rest c calm)))

  -- a birth leaves it calm: its key is none of the nodes'
  pub births_calm : (parent : Option NodeKey) (attached : Bool) (client event : ℕ) (key : NodeKey) →
      list_any (is_of key) c.nodes ≡ false → HaveOthers c.nodes key →
      IsQuiescent (changed (Change.Birth parent attached client event) key c)
  births_calm None attached client event key fresh parents = node_calm _ fresh refl
      (record {
        live = refl;
        asks_nothing = refl;
        heads = λ e. refl;
        waits = λ e. refl;
        childless = childless _ (new_root key c.id event client) fresh parents;
      })
  births_calm (Some above) attached client event key fresh parents = from (node_of c.nodes above)
    where
      from : (o : Option Node) →
          IsQuiescent (option_map_or (λ n. record c { nodes = c.nodes ++ new_child attached key event client n ∷ [] }) o c)
      from None = calm
      from (Some n) = node_calm _ fresh refl
          (record {
            live = refl;
            asks_nothing = refl;
            heads = λ e. rw e refl;
            waits = λ e. cc;
            childless = childless _ (new_child attached key event client n) fresh parents;
          })
