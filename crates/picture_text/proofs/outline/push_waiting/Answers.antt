use Rattle.std.proofs.Common.{◌≡◌, ◌∙◌, ap, sym, ℕ, ◌+◌, ◌-◌, ◌<◌, ◌≤◌, List, [], ◌∷◌, ◌++◌, arith, map, reverse, take}
use Rattle.std.proofs.lemmas.List.{map-append}
use Rattle.picture_text.specs.declared.outline.Branch.{Branch}
use Rattle.picture_text.specs.Outlines.{Line, Twig, branch_of, line_of_row, outline_from}
use Rattle.picture_text.proofs.Branches.{line_more, lines_end, none_waits}
use Rattle.picture_text.proofs.outline.push_waiting.Goals as goal

-- no line yet
pub loop-at-init : goal.loop-at-init
loop-at-init c =
    let all : c.args.count - 0 ≡ c.args.count = omega arith in
    λ nodes finds. ap (λ (n : ℕ). map line_of_row c.args.rows.now.items ++ outline_from n nodes
    (reverse (map branch_of c.args.waiting.now.items))) all

-- one more line
pub loop-at-preserved : goal.loop-at-preserved
loop-at-preserved c =
    let t : Twig = branch_of c.in-Some.next in
    let within : c.loop-at.at < c.args.count = omega arith in
    let top : map branch_of c.loop-at.waiting.items ≡ map branch_of c.pop.new.self.items ++ t ∷ [] =
    ap (map branch_of) c.in-Some.ensures.items ∙ map-append branch_of c.pop.new.self.items (c.in-Some.next ∷ []) in
    λ nodes finds.
    ap (λ (l : List Line). l ++ outline_from (c.args.count - (c.loop-at.at + 1)) nodes
    (reverse (map branch_of c.push_next.new.waiting.items)))
    c.in_ok-push_next.ensures.row
    ∙ (line_more c.args.count nodes c.loop-at.at (map line_of_row c.loop-at.rows.items) t (map branch_of c.loop-at.waiting.items)
    (map branch_of c.pop.new.self.items) (map branch_of c.push_next.new.waiting.items) within top
    (c.in_ok-push_next.ensures.below nodes finds)
    ∙ c.loop-at.invariant nodes finds)

-- no node waits
pub returns-in_default : goal.returns-in_default
returns-in_default c =
    let none : c.loop-at.waiting.items ≡ [] =
    c.in_default.ensures.items
    ∙ ap (λ (l : List Branch). l ++ [])
    (c.in_default.ensures.rest ∙ ap (λ (n : ℕ). take (n - 1) c.loop-at.waiting.items) c.in_default.ensures.cases.0) in
    λ nodes finds.
    sym (none_waits (c.args.count - c.loop-at.at) nodes (map line_of_row c.loop-at.rows.items) (map branch_of c.loop-at.waiting.items)
    (ap (map branch_of) none))
    ∙ c.loop-at.invariant nodes finds

-- there are this many lines
pub returns : goal.returns
returns c =
    let all : c.args.count ≤ c.loop-at.at = omega arith in
    λ nodes finds.
    sym (lines_end c.args.count nodes c.loop-at.at (map line_of_row c.loop-at.rows.items)
    (reverse (map branch_of c.loop-at.waiting.items)) all)
    ∙ c.loop-at.invariant nodes finds
