-- A Close that loses its node.
use Rattle.core_state.proofs.Common.{Bool, Cause, Change, Forest, Node, NodeKey, None, Some, Work, and_then-Some, ap, at_node, cond}
use Rattle.core_state.proofs.Common.{either_way, false, inl, inr, loss_at, node_at, option_map, sym, ◌∙◌, ◌≡◌}

-- what is lost is there, and not gone
pub record IsLosing (f : Forest) (key : NodeKey) (cause : Cause) (work : Work) : Type 0 where
  pub node : Node
  pub at : node_at f key ≡ Some node
  pub here : node.gone ≡ false
  pub work_at : at_node f key (λ n. Change.Loss key cause) ≡ Some work

-- what is not there is nothing
pub no_work : {A : Type 0} {w : Work} → None ≡ Some w → A
no_work e = absurd (cc)

module _ (f : Forest) (key : NodeKey) (cause : Cause) where
  -- the loss of this node
  abbrev loss_of : Node → Work
  loss_of n = record { collection = n.collection; change = Change.Loss key cause }

  -- a loss that does work names a node that the forest holds and that is not gone
  pub losing : (work : Work) → loss_at f key cause ≡ Some work → IsLosing f key cause work
  losing work e =
      let t = and_then-Some (λ (n : Node). cond n.gone None (Some (loss_of n))) (node_at f key) work e in
      elim (either_way t.0.gone) [
        | inl g ↦ no_work (ap (λ (b : Bool). cond b None (Some (loss_of t.0))) (sym g) ∙ t.2)
        | inr g ↦ record {
          node = t.0;
          at = t.1;
          here = g;
          work_at = ap (option_map loss_of) t.1 ∙ (ap (λ (b : Bool). cond b None (Some (loss_of t.0))) (sym g) ∙ t.2);
        }
      ]
