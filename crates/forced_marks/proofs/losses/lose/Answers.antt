use Rattle.forced_marks.proofs.Common.{NodeKey, above_among, ap, blocks_here, has, is_below, list_any, lost, map, reverse, sym, ◌∙◌, ◌≡◌}
use Rattle.sm_names.specs.Losses.{top as topmost}
use Rattle.forced_marks.proofs.Takings.{highest_of, lost_there, lost_nowhere}
use Rattle.forced_marks.proofs.losses.lose.Goals as goal

-- nobody is lost where the fault began nowhere
pub returns-then-not-has_node-clause-made : goal.returns-then-not-has_node-clause-made
returns-then-not-has_node-clause-made c =
    lost_nowhere c.args.nodes.now c.args.fault (sym c.has_node.ensures ∙ c.if-not-has_node.true)

-- those are lost that are under the highest one
pub returns-clause-made : goal.returns-clause-made
returns-clause-made c =
    let nodes = c.args.nodes.now in
    let blocking : (k : NodeKey) → has c.in_ok-blocking.blocking k ≡ list_any (blocks_here k) nodes = c.in_ok-blocking.ensures in
    let under : (k : NodeKey) → has c.in_ok-under.under k ≡ is_below nodes c.highest-top.result k = c.in_ok-under.ensures in
    let top : c.highest-top.result ≡ highest_of nodes c.args.fault.origin =
    c.highest-top.ensures
    ∙ (λ i. topmost (λ k. blocking k i) c.args.fault.origin (above_among (reverse nodes) c.args.fault.origin)) in
    c.fail_all.ensures
    ∙ ((λ i. map (lost (λ n. under n.key i) c.args.fault) nodes)
    ∙ (ap (λ (t : NodeKey). map (lost (λ n. is_below nodes t n.key) c.args.fault) nodes) top
    ∙ lost_there nodes c.args.fault (sym c.has_node.ensures ∙ c.if-not-has_node.false)))
