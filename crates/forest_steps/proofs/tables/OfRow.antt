-- The nodes of a collection that is kept, in the table.
use Rattle.forest_steps.proofs.Common.{◌≡◌, ◌==◌, false, List, Some, find, In, Table, node_at, parent_at, Node}
use Rattle.forest_steps.proofs.Common.{IsStored, IsWhole, CollectionRow, collection_in, nodes_with, IsTied, found_whole, in_all}
use Rattle.forest_steps.proofs.Common.{looked_there, list_all, is_filed, found_filed, eqb-true, all-In, looked-of, true}
use Rattle.forest_store.proofs.tables.Hanging.{looked_above, looked_tied}

module _ {t : Table Node} {ss : List CollectionRow} {s : CollectionRow} (kept : IsStored t ss)
    (found : find (λ (x : CollectionRow). x.id == s.id) ss ≡ Some s) where
  -- the nodes that the table has under the row's keys
  abbrev pub nodes : List Node
  nodes = nodes_with t s.keys

  -- each collection is whole
  pub whole : IsWhole (collection_in t s)
  whole = found_whole t _ ss s kept.whole found

  -- its keys are filed
  pub filed : list_all (is_filed t s.id) s.keys ≡ true
  filed = found_filed t _ ss s kept.filed found

  -- the nodes are linked as the table links them
  pub tied : IsTied t nodes
  tied = looked_tied t kept.named _ (looked_above t kept.named kept.linked _ whole.rooted)

  -- each node stands in the table under its key
  pub at_key : (n : Node) → In n nodes → node_at t n.key ≡ Some n
  at_key n on = in_all _ _ (looked_there t kept.named _) n on

  -- the table links each node that is not gone to its parent
  pub linked : (n : Node) → In n nodes → n.gone ≡ false → parent_at t n.key ≡ n.parent
  linked n on here = kept.linked n.key n (at_key n on) here

  -- each node is of the collection
  pub of_it : (n : Node) → In n nodes → n.collection ≡ s.id
  of_it n on = eqb-true _ _ (all-In _ _ n on (looked-of t _ _ filed))
