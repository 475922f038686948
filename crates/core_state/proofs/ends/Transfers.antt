-- An end is moved to another client or to a parcel.
use Rattle.core_state.proofs.Common.{Bool, CanCarry, Collection, End, EndPlace, Forest, HeldBuffer, In, In-filter, In-map, IsSound}
use Rattle.core_state.proofs.Common.{IsTidy, List, Node, NodeKey, None, Option, SameKeys, Some, [], all_held, ap, false, filter}
use Rattle.core_state.proofs.Common.{filter-all, flat_map, if◌then◌else◌, is_spent, is_unkept, length-map, map, node_at, not, not-true}
use Rattle.core_state.proofs.Common.{refl, same_key, subst, sym, true, with_end, with_nodes, with_place, without_unkept, ◌&&◌, ◌++◌, ◌∷◌}
use Rattle.core_state.proofs.Common.{◌≡◌}
use Rattle.core_state.proofs.collections.ById.{all_tidy}

module _ (key : NodeKey) (end : End) (unspent : is_spent end ≡ false) where
  -- the collection with the end there
  abbrev placed_in : Collection → Collection
  placed_in c = with_nodes (map (with_end key end)) c

  -- and the pages
  placed_held : (cs : List Collection) → flat_map (λ (c : Collection). c.held) (map placed_in cs) ≡ flat_map (λ (c : Collection). c.held) cs
  placed_held [] = refl
  placed_held (c ∷ cs) = ap (λ (hs : List HeldBuffer). c.held ++ hs) (placed_held cs)

  -- a node that was not over is not over
  still_there : (n : Node) → is_unkept n ≡ false → is_unkept (with_end key end n) ≡ false
  still_there n before = by n.gone (same_key key n.key) before
    where
      by : (gone same : Bool) → (gone && is_spent n.end) ≡ false → (gone && is_spent (if same then end else n.end)) ≡ false
      by false same before = refl
      by true true before = unspent
      by true false before = before

  -- nodes of which none was over
  none_unkept : (nodes : List Node) → filter (λ (n : Node). not (is_unkept n)) nodes ≡ nodes →
      filter (λ (n : Node). not (is_unkept n)) (map (with_end key end) nodes) ≡ map (with_end key end) nodes
  none_unkept nodes tidy = filter-all (λ (n : Node). not (is_unkept n)) (map (with_end key end) nodes) (λ n there.
      let from = In-map (with_end key end) nodes n there in
      let before = In-filter (λ (m : Node). not (is_unkept m)) nodes from.0 (subst (In from.0) (sym tidy) from.1) in
      let after : is_unkept (with_end key end from.0) ≡ false = still_there from.0 (not-true (is_unkept from.0) before.1) in
      rw (from.2, after) refl)

  -- a tidy collection stays tidy
  placed_tidy : (c : Collection) → IsTidy c → IsTidy (placed_in c)
  placed_tidy c tidy = record {
    tidied = λ i. record c { nodes = none_unkept c.nodes (ap (λ (d : Collection). d.nodes) tidy.tidied) i };
    kept = rw (length-map c.nodes) tidy.kept;
  }

module _ (f : Forest) (sound : IsSound f) (key : NodeKey) (end : End) (here : Node) (at : node_at f key ≡ Some here)
    (was : is_spent here.end ≡ false) (unspent : is_spent end ≡ false) where
  -- the forest with the end there
  abbrev g : Forest
  g = with_place (Some (record { key = key; end = end })) f

  -- nothing is over
  pub carried_tidy : g.collections ≡ without_unkept g.collections
  carried_tidy = sym (all_tidy g.collections (λ c on.
      let from = In-map (placed_in key end unspent) f.collections c on in
      subst IsTidy (sym from.2) (placed_tidy key end unspent from.0 (sound.tidy from.0 from.1))))

  -- no page was given back
  pub carried_held : all_held g ≡ all_held f
  carried_held = placed_held key end unspent f.collections

-- the forest once the end that is moved, if one is, has its new holder
pub record Carries (f g : Forest) : Type 0 where
  pub tidy : g.collections ≡ without_unkept g.collections
  pub held : all_held g ≡ all_held f
  pub same : SameKeys f g

-- the move of an end keeps the forest sound and tidy, and its held buffers, its keys and its ids
pub carries : (f : Forest) (carried : Option EndPlace) → IsSound f → CanCarry f carried → Carries f (with_place carried f)
carries f None sound can = record {
  tidy = sym (all_tidy f.collections sound.tidy);
  held = refl;
  same = record { limit = refl; keys = λ key. refl };
}
carries f (Some c) sound can = record {
  tidy = carried_tidy f sound c.key c.end can.0 can.1 can.2 can.3;
  held = carried_held f sound c.key c.end can.0 can.1 can.2 can.3;
  same = record { limit = refl; keys = λ key. refl };
}
