-- The node and the end that a call names.
use Rattle.lifetime_core.proofs.Common.{Call, NodeKey, None, Option, Some, State, ap, node_at, readings_of, refl, ◌∙◌, ◌≡◌}
use Rattle.std.specs.Option.{option_and_then}
use Rattle.sm_names.specs.Answers.{end_named}
use Rattle.sm_names.specs.Timelines.{key_of}
use Rattle.forest_store.specs.declared.node.Node.{Node}
use Rattle.core_state.specs.Reads.{end_in, node_named, open_end_in}

module _ (s : State) (call : Call) (named : Option NodeKey) (there : Option Node) (key : named ≡ key_of call)
    (is : there ≡ option_and_then (node_at s.forest) named) where
  -- the node is the one that the call names
  pub names_it : there ≡ node_named s call
  names_it = is ∙ ap (option_and_then (node_at s.forest)) key

  -- the end that the call names is that of the node
  pub end_is : end_named (readings_of s) call ≡ option_and_then (open_end_in s) there
  end_is = rw (← key, is) (by named)
    where
      by : (o : Option NodeKey) → option_and_then (end_in s) o ≡ option_and_then (open_end_in s) (option_and_then (node_at s.forest) o)
      by None = refl
      by (Some k) = refl
