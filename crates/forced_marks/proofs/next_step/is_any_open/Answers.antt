use Rattle.forced_marks.proofs.Common.{Bool, BufferName, Strength, ap, arith, false, list_any, map, nat_lt, range_with_len, sym, total, ℕ}
use Rattle.forced_marks.proofs.Common.{◌+◌, ◌-◌, ◌<◌, ◌||◌, ◌∙◌, ◌≡◌}
use Rattle.forest_steps.proofs.lists.Ranges.{any_from}
use Rattle.forced_marks.proofs.next_step.is_any_open.Goals as goal

-- this one is not open
pub loop-index-preserved : goal.loop-index-preserved
loop-index-preserved c =
    let test : BufferName → Bool = λ b. nat_lt 0 (total c.args.holds.now b Strength.Strong) in
    let name : ℕ → BufferName = λ i. record { collection = c.args.id; index = i } in
    let i : ℕ = c.loop-index.index in
    let more : i < c.args.count = omega arith in
    let shut : test (name i) ≡ false = sym c.is_open.ensures ∙ c.if-is_open.false in
    sym (any_from test name i c.args.count more
    ∙ ap (λ (b : Bool). b || list_any test (map name (range_with_len (i + 1) (c.args.count - (i + 1))))) shut)
    ∙ c.loop-index.invariant
