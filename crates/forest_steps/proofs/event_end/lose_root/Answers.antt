-- The first node is the root, which is lost with all that is left.
use Rattle.forest_steps.proofs.Common.{◌≡◌, ◌∙◌, sym, ap, [], List, Some, NodeKey, slice_get}
use Rattle.forest_steps.proofs.mid_event.Counted.{closed_lost, may_go}
use Rattle.forest_steps.proofs.event_end.lose_root.Goals as goal

pub returns : goal.returns
returns c =
    let first : slice_get c.args.entry.now.keys.items 0 ≡ Some c.in-Some.root =
    ap (λ (ks : List NodeKey). slice_get ks 0) (sym c.as_slice.ensures.items) ∙ sym c.first.ensures.value ∙ sym c.copied.ensures
    ∙ c.in-Some.is in
    record {
      closed = λ handles ss pending under abandoned.
          closed_lost handles under abandoned first
          (c.remove_subtree.ensures.went ss [] pending under (may_go handles under abandoned first));
    }
