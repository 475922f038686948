use Rattle.play_search.proofs.Common.{[], ap, arith, subst, sym, way_to, ◌++◌, ◌+◌, ◌∙◌, ◌∷◌}
use Rattle.play_search.proofs.WayLaws.{IsPart, part_end, part_first, part_further, part_missing, part_none}
use Rattle.play_search.proofs.graph.Graph.path_back.Goals as goal

-- nothing is gone back
pub rows-init : goal.rows-init
rows-init c =
    let rows = c.args.self.now.rows.items in
    subst (λ turns. IsPart rows 0 c.args.place turns (way_to rows c.args.place)) (sym c.new-turns.ensures.items)
    (part_none rows c.args.place)

-- one turn more is gone back
pub rows-preserved : goal.rows-preserved
rows-preserved c =
    let rows = c.args.self.now.rows.items in
    subst (λ turns. IsPart rows (c.rows.counter + 1) c.in-Some.row.parent turns (way_to rows c.args.place))
    (sym (c.in_ok-push.ensures.items ∙ ap (λ turn. c.rows.turns.items ++ turn ∷ []) c.turn_of.ensures))
    (part_further rows c.rows.counter c.rows.at c.in-Some.row c.rows.turns.items (way_to rows c.args.place)
    (omega (arith, c.rows-test.true, c.len-end.ensures, c.args.self.now.rows.ok.0)) c.if-at-eq0.false
    (sym c.row.ensures ∙ c.in-Some.is) c.rows.invariant)

-- the first value is reached
pub returns-then-at-eq0 : goal.returns-then-at-eq0
returns-then-at-eq0 c =
    part_first c.args.self.now.rows.items c.rows.counter c.rows.at c.rows.turns.items
    (way_to c.args.self.now.rows.items c.args.place) c.if-at-eq0.true c.rows.invariant

-- no value was met there
pub returns-in_default : goal.returns-in_default
returns-in_default c =
    part_missing c.args.self.now.rows.items c.rows.counter c.rows.at c.rows.turns.items
    (way_to c.args.self.now.rows.items c.args.place) (sym c.row.ensures ∙ c.in_default.is) c.rows.invariant

-- all rows are gone back
pub returns : goal.returns
returns c =
    part_end c.args.self.now.rows.items c.rows.counter c.rows.at c.rows.turns.items
    (way_to c.args.self.now.rows.items c.args.place)
    (omega (arith, c.rows-test.false, c.len-end.ensures, c.args.self.now.rows.ok.0)) c.rows.invariant
