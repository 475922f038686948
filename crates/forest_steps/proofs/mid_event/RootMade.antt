-- An effect makes the root's unit ready: what is forced then.
use Rattle.forest_steps.proofs.Common.{◌≡◌, ℕ, refl, ap, sym, ◌∙◌, subst, Bool, true, false, not, ◌||◌, inl, inr, is_none, ◌⊎◌}
use Rattle.forest_steps.proofs.Common.{List, [], ◌∷◌, ◌++◌, map, Option, Some, None, find, list_any, HeldBuffer, Interval}
use Rattle.forest_steps.proofs.Common.{NodeKey, Buffers, Cause, same_key, when, either_way, same_key-true, all_on, Table}
use Rattle.forest_steps.proofs.Common.{Entry, Node, Unit, has_strong, Collection, CollectionRow, nodes_with, is_deserted_node, Failure}
use Rattle.forest_steps.proofs.Common.{outcome, names, places, pages_of, first_some, Holdings, with_buffers, Decision, Loses}
use Rattle.forest_steps.proofs.Common.{Places, decided, first_step, mark_of, wanted_by, pages_in, after_allocation, IsSound}
use Rattle.forest_steps.proofs.Common.{by_page, made, all-In, arith, Result, Ok, Err, laid_out, AllocationOutcome, IsPlacing}
use Rattle.forest_steps.proofs.Common.{IsComing, IsAllocationOutcome, first_made, wants_of, MidEvent, holds_unit, is_held}
use Rattle.std.specs.Option.{IfSome}
use Rattle.forest_store.specs.Decisions.{IsStep}
use Rattle.forest_store.proofs.quiescence.Steps.{decided_steps}
use Rattle.forest_steps.proofs.intervals.Placings.{placed_made, places_sorted, pool_laid, scene_laid}
use Rattle.forest_steps.proofs.mid_event.RootLost.{ready_root}
use Rattle.forest_steps.proofs.mid_event.Ready.{under_with}

-- where something holds the unit with this head, it is not loose
module _ {t : Table Node} {us : List Unit} {ss : List CollectionRow} {e : Entry} {head : NodeKey}
    (unheld : List NodeKey) {pending : List NodeKey}
    (some : list_any (holds_unit (nodes_with t e.keys.items) head) (nodes_with t e.keys.items) ≡ true)
    (under : MidEvent t us ss e (head ∷ unheld) pending) where
  -- the nodes that the table has under the entry's keys
  abbrev ns : List Node
  ns = nodes_with t e.keys.items

  -- by cases
  top : (a b c : Bool) → (a || (b || (not c || true))) ≡ true
  top a b c = grind arith

  -- the unit that was loose is held, and the others were
  by : (n : Node) → (same_key n.key head ≡ true) ⊎ (same_key n.key head ≡ false) →
      (list_any (same_key n.key) (head ∷ unheld) || is_held ns n) ≡ true →
      (list_any (same_key n.key) unheld || is_held ns n) ≡ true
  by n (inl e) held =
      let own : list_any (holds_unit ns n.key) ns ≡ true = rw (same_key-true n.key head e) some in
      rw own (top (list_any (same_key n.key) unheld) n.gone (is_none n.parent || n.attached))
  by n (inr e) held = rw e at held

  -- one unit less is loose
  pub under_held : MidEvent t us ss e unheld pending
  under_held = under_with under (all_on _ ns (λ n on. by n (either_way (same_key n.key head)) (all-In _ ns n on under.held)))
      under.next under.root

-- ---- what is forced

-- the third of four is the first, where the others before it are none
third : (a b c d : Option Decision) {step : Decision} → a ≡ None → b ≡ None → c ≡ Some step → first_some (a ∷ b ∷ c ∷ d ∷ []) ≡ Some step
third a b c d first second is = rw (first, second, is) refl

-- a root that waits is allocated or lost
pub coming_decided : {nodes : List Node} (buffers : Option Buffers) (strong_open : Bool) {head : NodeKey} → IsComing nodes head →
    find (is_deserted_node nodes) nodes ≡ None → decided nodes buffers strong_open ≡ Some (first_step nodes head)
coming_decided {nodes} buffers strong_open coming no_end = grind (arith, ready_root, third)

-- what the step is made by
module _ {c : Collection} (sound : IsSound c) {head : NodeKey} (coming : IsComing c.nodes head)
    (no_end : find (is_deserted_node c.nodes) c.nodes ≡ None) (before after : Holdings) (others : List Interval)
    (beside_is : before.held ≡ by_page (pages_in c ++ others)) (wants : Result Buffers Failure)
    (wants_is : wants ≡ wants_of (has_strong c.nodes) (wanted_by head c.nodes)) (verdict : AllocationOutcome)
    (found : IsAllocationOutcome before after c.id c.held wants verdict) where
  -- the number and the size of the buffers that the nodes of the unit ask for
  abbrev want : Buffers
  want = wanted_by head c.nodes

  -- the number of pages that one of these buffers takes
  abbrev pages : ℕ
  pages = pages_of (wanted_by head c.nodes).size

  -- nothing is placed, and the root's loss is the step
  lost_so : (why : Failure) → wants ≡ Err why →
      (made before.size others (mark_of before.size (pages_in c ++ others) (Loses head (Cause.Failed why))) c ≡ first_made head verdict c)
      × (after.held ≡ by_page (pages_in (first_made head verdict c) ++ others))
  lost_so why is = grind arith

  -- the pool holds the same intervals in another order
  found_none : places before.size pages want.count before.held ≡ None → places before.size pages want.count (pages_in c ++ others) ≡ None
  found_none none = grind (arith, places_sorted)

  -- the buffers are placed, or the pool is full, which is the step
  given_so : wants ≡ Ok want → first_step c.nodes head ≡ Places head want → (v : AllocationOutcome) → verdict ≡ v →
      IsAllocationOutcome before after c.id c.held (Ok want) v →
      (made before.size others (mark_of before.size (pages_in c ++ others) (Places head want)) c ≡ first_made head v c)
      × (after.held ≡ by_page (pages_in (first_made head v c) ++ others))
  given_so is placing_step (AllocationOutcome.Fails why) v_is told = (
    ap (λ (o : Option (List ℕ)). made before.size others (outcome head (when (is_none o) Failure.PoolFull)) c) (found_none told.1)
        ∙ ap (λ (w : Failure). first_made head (AllocationOutcome.Fails w) c) (sym told.0),
    ap (λ (h : Holdings). h.held) told.2 ∙ beside_is,
  )
  given_so is placing_step (AllocationOutcome.Given buffers held) v_is told =
      let laid = told.1 in
      let placing : IsPlacing c head want = subst (λ (o : Option Decision). IfSome o (IsStep c))
      (coming_decided c.buffers false coming no_end ∙ ap Some placing_step) (decided_steps c sound false) in
      let found_places : places before.size pages want.count (pages_in c ++ others) ≡ Some laid.starts =
      sym (places_sorted before.size pages want.count (pages_in c ++ others))
      ∙ (ap (places before.size pages want.count) (sym beside_is) ∙ laid.found) in
      let held_is : held.items ≡ laid_out pages (names c.id want.count) laid.starts ++ c.held =
      laid.lies ∙ scene_laid c.id pages want.count laid.starts c.held laid.many in (
        placed_made before.size others c head want placing found_places
            ∙ (λ i. record {
              id = c.id;
              nodes = after_allocation head c.nodes;
              buffers = Some (sym told.0 i);
              held = sym held_is i;
            }),
        laid.pool ∙ (ap (with_buffers pages laid.starts) beside_is
            ∙ (pool_laid c.id pages want.count laid.starts c.held others laid.many
            ∙ ap (λ (hs : List HeldBuffer). by_page (map (λ (h : HeldBuffer). h.pages) hs ++ others)) (sym held_is))),
      )

  -- the mark makes of the collection what the verdict says, and the pool holds its pages then
  pub step_made : (made before.size others (mark_of before.size (pages_in c ++ others) (first_step c.nodes head)) c
      ≡ first_made head verdict c)
      × (after.held ≡ by_page (pages_in (first_made head verdict c) ++ others))
  step_made = grind (arith, given_so, lost_so)
