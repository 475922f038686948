-- An effect that was worked out, and forces nothing by its counts, is all that is made.
use Rattle.forest_steps.proofs.Common.{◌≡◌, ℕ, refl, ap, sym, ◌∙◌, subst, true, false, List, [], map, get_or, set, Option, Some}
use Rattle.forest_steps.proofs.Common.{None, NodeKey, Table, node_at, Change, Effect, Entry, Node, Unit, with_nodes, waiting}
use Rattle.forest_steps.proofs.Common.{CollectionRow, collection_in, forest_of, nodes_with, place_in, row_of, rows_of, affected}
use Rattle.forest_steps.proofs.Common.{Handles, get_or-set_same, Holdings, Writes, table_with_node, IsPoolOf, starts_differ}
use Rattle.forest_steps.proofs.Common.{is_kept_by, StoreAgrees, none_calm, place_is, set-set, EffectCounts, is_plain}
use Rattle.forest_steps.proofs.Common.{after_effect, Closes, EffectMade, MidEvent, PropagatedFrom, AreCountsThen, KeepsCounts}
use Rattle.forest_steps.proofs.Common.{IsOutcomeAt, IsReadyAt, tracker_room, plain_affected, may_force, strong_then}
use Rattle.forest_store.specs.declared.store.NodeStore.{NodeStore}
use Rattle.forest_steps.specs.declared.node_effect.NodeEffect.{NodeEffect}
use Rattle.forest_steps.specs.NodeEffects.{IsWorkedOut, MayMake, keeps_counts}
use Rattle.forest_store.proofs.quiescence.Calming.{calm_map}
use Rattle.forest_steps.proofs.mid_event.Closing.{closes_kept}
use Rattle.forest_steps.proofs.mid_event.Stepping.{begins_at, may_finish, outcome_there, pool_there, node_there, own_id, row_there}
use Rattle.forest_steps.proofs.mid_event.Ready.{counted_under}
use Rattle.forest_steps.proofs.mid_event.Changing.{still_played, still_kept}

-- an effect of these kinds changes none of the counts: no live node changes by it, nor what is waited for
pub counts_kept : (effect : Effect) → keeps_counts effect ≡ true → KeepsCounts effect
counts_kept Effect.Bound is = record { plain = refl; strong = λ key n. refl }
counts_kept Effect.Dispensable is = record { plain = refl; strong = λ key n. refl }
counts_kept Effect.Weak is = cc
counts_kept (Effect.WeakOk children) is = record { plain = refl; strong = λ key n. refl }
counts_kept (Effect.Constrained demand) is = cc
counts_kept Effect.Taken is = record { plain = refl; strong = λ key n. refl }
counts_kept Effect.Released is = cc
counts_kept Effect.Tracked is = record { plain = refl; strong = λ key n. refl }

-- an effect that changes no count makes no unit ready, so the root's does not wait for its buffers
pub waits_plain : {t : Table Node} {us : List Unit} {ss : List CollectionRow} {e : Entry} → MidEvent t us ss e [] [] → (key : NodeKey)
    (effect : Effect) → is_plain effect ≡ true → waiting (map (affected key effect) (nodes_with t e.keys.items)) ≡ None
waits_plain {t} {e} under key effect plain =
    let c = collection_in t (row_of e) in
    (none_calm (with_nodes (map (affected key effect)) c)
    (calm_map c _ (plain_affected key _ plain) (counted_under under).calm)).no_root

-- ---- the whole event

-- an effect that may be made as a change, and is worked out, may be made on its node
pub may_make : (s : NodeStore) {es : List Entry} {at : ℕ} (made : NodeEffect) (e : Entry) →
    IsReadyAt s.table es s.units.items at (Change.Effect made.key made.effect) → IsWorkedOut s e made → MayMake s e made
may_make s made e may worked = record {
  there = row_there may.ready.kept _ _ may.ready.change.named;
  room = λ n found. tracker_room _ _ may.ready.kept _ _
      (λ m x there. may.ready.change.trackers made.key m (ap (Change.Effect made.key) x) there) _ n found;
  worked = worked;
}

-- an effect that forces nothing was made on a node of the collection at this place: that is all
module _ (handles : Handles) {t : Table Node} {us : List Unit} {es : List Entry} {at : ℕ} (e : Entry) (is : e ≡ get_or es at e)
    (key : NodeKey) (effect : Effect) (may : IsReadyAt t es us at (Change.Effect key effect)) (now : Table Node) (after : List Unit)
    (new : Entry) (becomes : (n : Node) → node_at t key ≡ Some n → now ≡ table_with_node t key (affected key effect n))
    (writes : (n : Node) → node_at t key ≡ Some n → Writes t now key (affected key effect n))
    (made : (n : Node) → node_at t key ≡ Some n → n.gone ≡ false → n.collection ≡ e.id → StoreAgrees t us (rows_of es) e →
    EffectMade t now after (rows_of es) e new key effect n.head)
    (counts : Option EffectCounts) (worked : AreCountsThen t us e key effect counts) (out : may_force counts ≡ false)
    (kept : is_kept_by handles t (row_of e) (strong_then e counts) ≡ true) where
  -- the node is there, not gone, and of the collection
  there : (n : Node) × (node_at t key ≡ Some n) × (n.gone ≡ false) × (n.collection ≡ may.id)
  there = node_there may.ready.kept _ key may.ready.change.named

  -- it is of the entry's
  own_there : there.0.collection ≡ e.id
  own_there = there.3 ∙ sym (own_id handles e may.place is may.ready refl)

  -- the collection is under way, with nothing loose and nothing due
  under_there : MidEvent t us (rows_of es) e [] []
  under_there = begins_at handles e is may refl

  -- the store agrees again
  made_own : EffectMade t now after (rows_of es) e new key effect there.0.head
  made_own = made there.0 there.1 there.2 own_there under_there.store

  -- nothing more is forced
  played : PropagatedFrom handles (after_effect key effect (nodes_with t e.keys.items)) t now after (rows_of es) e new
  played = still_played there.1 own_there under_there made_own there.2 (becomes there.0 there.1) (writes there.0 there.1) _ _
      worked out

  -- the collection is kept then
  kept_now : is_kept_by handles now (row_of new) new.strong ≡ true
  kept_now = still_kept there.1 own_there under_there made_own there.2 (becomes there.0 there.1) (writes there.0 there.1) handles _
      worked kept

  -- the entry stands where it was set
  is_new : (id : ℕ) → place_in id es ≡ Some at → new ≡ get_or (set es at new) at new
  is_new id told = sym (get_or-set_same es at new new (place_is id es at told).within)

  -- the collection stays kept and nothing is forced, so the effect is the whole outcome
  pub outcome_still : (pool : Holdings) → starts_differ pool.held ≡ true → IsPoolOf pool (forest_of t (rows_of es)) →
      IsOutcomeAt true handles pool pool t now es (set es at new) after at (Change.Effect key effect)
  outcome_still pool parted of =
      outcome_there handles e is may refl refl played
      pool pool now (set es at new) after
      (λ id told. subst (λ xs. Closes handles pool pool now now (set es at new) xs after id) (set-set es at new new)
      (closes_kept
      (may_finish handles e is may refl refl played)
      id told new (is_new may.id may.place) kept_now pool parted
      (pool_there handles e is may refl refl played
      pool of))) refl
