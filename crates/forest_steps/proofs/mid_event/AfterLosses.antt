-- What a fault takes is removed from its collection, and what nothing holds then ends.
use Rattle.forest_steps.proofs.Common.{◌≡◌, ap, sym, ◌∙◌, subst, true, false, inl, is_some, List, [], Option, Some, None}
use Rattle.forest_steps.proofs.Common.{NodeKey, Table, node_at, Entry, Node, Unit, with_nodes, CollectionRow, collection_in}
use Rattle.forest_steps.proofs.Common.{nodes_with, row_of, Handles, Settles, Fault, after_loss, in_all, looked_there}
use Rattle.forest_steps.proofs.Common.{option_copied, AreOrEnd, AfterLoss, AfterSteps, AfterRemoval, Reaches, is_head_left}
use Rattle.std.proofs.Common.{Bor}
use Rattle.forest_steps.proofs.tables.Rows.{same_on}
use Rattle.forest_steps.proofs.mid_event.EndAbove.{head_left}

-- a head that is left is there
pub head_row : (t : Table Node) → ((key : NodeKey) (n : Node) → node_at t key ≡ Some n → n.key ≡ key) → (keys : List NodeKey)
    (head : NodeKey) → is_head_left (nodes_with t keys) head ≡ true → (n : Node) × (node_at t head ≡ Some n)
head_row t named keys head left =
    let h = head_left _ head left in
    (h.node, ap (node_at t) (sym h.is) ∙ in_all _ (nodes_with t keys) (looked_there t named keys) h.node h.on)

-- what is lent is there
pub lent_there : (o : Option (Bor Node)) {n : Node} → option_copied o ≡ Some n → is_some o ≡ false → ⊥
lent_there None h out = cc
lent_there (Some b) h out = cc

module _ (handles : Handles) {t mid : Table Node} {us : List Unit} {ss : List CollectionRow} {e e1 : Entry} {fault : Fault} {pending
    : List NodeKey}
    {above : Option NodeKey} (went : AfterRemoval t mid us ss e e1 fault.origin (Some fault) above [] pending) where
  -- the row of the entry before the loss
  abbrev s : CollectionRow
  s = row_of e

  -- only the nodes change
  lost_is : collection_in mid s ≡ with_nodes (after_loss fault) (collection_in t s)
  lost_is = λ i. record (collection_in t s) { nodes = went.nodes i }

  -- nothing is above what fell, or else that ends too
  pub after_fall_on : {now : Table Node} {new : List Unit} {e2 : Entry} → AfterSteps handles mid now new ss e1 e2 [] pending →
      AreOrEnd (nodes_with mid e1.keys.items) (nodes_with now e1.keys.items) → AfterLoss handles t now new ss e e2 fault pending
  after_fall_on {now} led ends = record {
    under = led.under;
    row = led.row ∙ went.row;
    leads = λ pool others after on. rw lost_is at
        (subst (λ x. Reaches pool handles others (collection_in mid x) (collection_in now x)) went.row (led.leads pool others)
        after on);
    beside = record {
      same = same_on went.beside.same led.beside.same;
      others = λ x there differ.
          led.beside.others x there (λ is. differ (is ∙ ap (λ (y : CollectionRow). y.id) went.row)) ∙ went.beside.others x there differ;
    };
    nodes = rw went.nodes at
        (subst (λ (x : CollectionRow). AreOrEnd (nodes_with mid x.keys) (nodes_with now x.keys)) went.row ends);
  }

-- nothing hung on what fell, so no unit lost what held it
pub after_fall_alone : (handles : Handles) {t now : Table Node} {us : List Unit} {ss : List CollectionRow} {e new : Entry} {fault : Fault}
    {pending : List NodeKey} → AfterRemoval t now us ss e new fault.origin (Some fault) None [] pending →
    AfterLoss handles t now us ss e new fault pending
after_fall_alone handles {t} {e} went = record {
  under = went.under;
  row = went.row;
  leads = λ pool others after on. subst (λ c. Settles pool handles others c after)
      (λ i. record (collection_in t (row_of e)) { nodes = went.nodes i }) on;
  beside = went.beside;
  nodes = inl went.nodes;
}
