-- A root whose unit becomes ready, and is lost instead.
use Rattle.forest_steps.proofs.Common.{◌≡◌, refl, ap, sym, ◌∙◌, subst, true, false, not, ◌&&◌, inl, List, [], ◌∷◌, Option}
use Rattle.forest_steps.proofs.Common.{Some, None, not-true, find, list_all, option_and_then, NodeKey, Cause, when, In}
use Rattle.forest_steps.proofs.Common.{In-find, and_left, and_right, Table, Entry, Node, Unit, waiting, with_nodes, CollectionRow}
use Rattle.forest_steps.proofs.Common.{collection_in, nodes_with, put_row, row_of, is_ready_node, is_root_left, Handles}
use Rattle.forest_steps.proofs.Common.{Failure, after_loss, found_put, left_in, arith, AllocationOutcome, IsComing, IsRooted}
use Rattle.forest_steps.proofs.Common.{MidEvent, AfterRemoval, MayGo, when-Some, none_if, map, and_both, In-map, is_some, drop}
use Rattle.forest_steps.proofs.failures.AllGone.{AreGone, held_gone, next_gone, root_gone}
use Rattle.forest_steps.proofs.mid_event.Ready.{whole_under, under_with}
use Rattle.forest_steps.proofs.mid_event.Roots.{all_lost}
use Rattle.forest_steps.proofs.allocation.RootUnit.{root_found}

-- ---- the root that waits

-- a root whose unit waits for its buffers alone
pub record IsReadyRoot (nodes : List Node) (root : Node) : Type 0 where
  pub found : find is_root_left nodes ≡ Some root
  pub on : In root nodes
  pub top : root.parent ≡ None
  pub here : root.gone ≡ false
  pub bare : root.allocated ≡ false
  pub ready : list_all (is_ready_node root.key) nodes ≡ true

-- the root that waits is found, and passes each test
pub ready_root : (nodes : List Node) {root : Node} → waiting nodes ≡ Some root → IsReadyRoot nodes root
ready_root nodes {root} waits = from (find is_root_left nodes) refl waits
  where
    -- by cases: without a root none waits, and one that waits passed each test
    from : (o : Option Node) → find is_root_left nodes ≡ o →
        option_and_then (λ (r : Node). when (not r.allocated && list_all (is_ready_node r.key) nodes) r) o ≡ Some root →
        IsReadyRoot nodes root
    from None is h = let no : None ≡ Some root = h in absurd (cc)
    from (Some r) is h =
        let both = when-Some (not r.allocated && list_all (is_ready_node r.key) nodes) r root h in
        let found : find is_root_left nodes ≡ Some root = is ∙ ap Some both.1 in
        let x = In-find _ _ _ found in
        record {
          found = found;
          on = x.0;
          top = none_if root.parent (and_left _ _ x.1);
          here = not-true _ (and_right _ _ x.1);
          bare = ap (λ (m : Node). m.allocated) (sym both.1)
              ∙ not-true _ (and_left _ _ both.0);
          ready = ap (λ (m : Node). list_all (is_ready_node m.key) nodes) (sym both.1)
              ∙ and_right _ _ both.0;
        }

-- a root that waits once nodes changed waited before, where the node that it was passed each of the tests
pub waits_was : (f : Node → Node) (nodes : List Node) → list_all (λ (n : Node). is_some n.parent) (drop 1 nodes) ≡ true → {r : Node} →
    waiting (map f nodes) ≡ Some r →
    ((m : Node) → In m nodes → r ≡ f m → IsReadyRoot (map f nodes) (f m) →
    (is_root_left m ≡ true) × (m.allocated ≡ false) × (list_all (is_ready_node m.key) nodes ≡ true)) →
    (m : Node) × In m nodes × (r ≡ f m) × (waiting nodes ≡ Some m)
waits_was f nodes one {r} waits each =
    let root = ready_root _ waits in
    let y = In-map f _ r root.on in
    let was = each y.0 y.1 y.2 (subst (IsReadyRoot (map f nodes)) y.2 root) in (
      y.0,
      y.1,
      y.2,
      ap (option_and_then (λ (m : Node). when (not m.allocated && list_all (is_ready_node m.key) nodes) m))
          (root_found _ one y.0 y.1 was.0) ∙ ap (λ b. when b y.0) (and_both _ _ (ap not was.1) was.2),
    )

-- in a collection that is gone nothing is loose and nothing is due
pub all_gone_under : {t : Table Node} {us : List Unit} {ss : List CollectionRow} {e : Entry} {unheld pending : List NodeKey} →
    AreGone (nodes_with t e.keys.items) → MidEvent t us ss e unheld pending → MidEvent t us ss e [] []
all_gone_under gone under = under_with under (held_gone [] _ gone) (next_gone [] _ gone) (root_gone [] _ gone)

-- ---- the loss

module _ {t : Table Node} {us : List Unit} {ss : List CollectionRow} {e : Entry} {head : NodeKey} (why : Failure)
    (under : MidEvent t us ss e [] (head ∷ [])) (coming : IsComing (nodes_with t e.keys.items) head) where
  -- the root that waits is left
  root : IsReadyRoot (nodes_with t e.keys.items) coming.root
  root = ready_root _ coming.waits

  -- it may go
  pub root_goes : MayGo (nodes_with t e.keys.items) head (Some (record { cause = Cause.Failed why; origin = head }))
  root_goes = grind (arith, left_in, root)

  module _ (handles : Handles) {now : Table Node} {after : List Unit} {new : Entry} {above : Option NodeKey}
      (went : AfterRemoval t now after ss e new head (Some (record { cause = Cause.Failed why; origin = head })) above [] (head ∷ [])) where
    -- the root's loss takes all that is left
    gone : AreGone (nodes_with now e.keys.items)
    gone =
        subst AreGone (sym went.nodes)
        (all_lost (whole_under under) _ root.on root.here root.top _ (sym coming.own))

    -- the new entry has the same keys
    gone_new : AreGone (nodes_with now new.keys.items)
    gone_new = subst (λ (s : CollectionRow). AreGone (nodes_with now s.keys)) (sym went.row) gone

    -- the row has the same place
    same_rows : put_row (row_of new) ss ≡ ss
    same_rows = found_put _ ss went.under.store.kept.rising went.under.store.found

    -- only the nodes change
    lost_is : with_nodes (after_loss (record { cause = Cause.Failed why; origin = head })) (collection_in t (row_of e))
        ≡ collection_in now (row_of new)
    lost_is = grind arith

    -- all are gone, and no step is left
    pub rooted_lost : IsRooted handles t now after ss e new head (AllocationOutcome.Fails why)
    rooted_lost = record {
      pending = [];
      under = rw same_rows (all_gone_under gone_new went.under);
      row = went.row;
      leads = λ pool others last settles. rw lost_is settles;
      beside = went.beside;
      out = inl refl;
    }
