use Rattle.std.proofs.Common.{◌≡◌, ◌∙◌, sym, ℕ, ◌<◌, ◌≤◌, List, [], ◌∷◌, ◌++◌, arith, length, Option}
use Rattle.picture_layout.specs.Layouts.{column_of, parent_place, taken_columns}
use Rattle.picture_layout.proofs.Places.{column-more, columns-end}
use Rattle.picture_layout.proofs.layout.columns_of.Goals as goal

-- one more column
pub loop-at-preserved : goal.loop-at-preserved
loop-at-preserved c =
    let parents : List (Option ℕ) = c.args.parents.now.items in
    let at : ℕ = c.loop-at.at in
    let free : List ℕ = c.loop-at.free.items in
    let columns : List ℕ = c.loop-at.columns.items in
    let within : at < length parents = omega arith in
    let pushed : c.push.new.self.items ≡ columns ++ column_of free (parent_place parents at) ∷ [] = grind arith in
    let taken : c.take_columns.new.free.items ≡ taken_columns parents c.args.widths.now at free = grind arith in
    column-more parents c.args.widths.now
    (length parents) at free c.take_columns.new.free.items columns c.push.new.self.items within pushed taken
    ∙ c.loop-at.invariant

-- none is left
pub returns : goal.returns
returns c =
    let all : length c.args.parents.now.items ≤ c.loop-at.at = omega arith in
    sym (columns-end c.args.parents.now.items c.args.widths.now (length c.args.parents.now.items) c.loop-at.at c.loop-at.free.items
    c.loop-at.columns.items all)
    ∙ c.loop-at.invariant
