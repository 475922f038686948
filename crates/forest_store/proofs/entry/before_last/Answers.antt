-- The ids rise, so all smaller ones stand before the last.
use Rattle.forest_store.proofs.Common.{◌≡◌, ◌<◌, Entry, subst, arith}
use Rattle.forest_store.proofs.rows.Entries.{before_equal, before_greater, read_through}
use Rattle.forest_store.proofs.entry.before_last.Goals as goal

pub returns-then-greatest-id : goal.returns-then-greatest-id
returns-then-greatest-id c =
    let es = c.args.entries.now in
    let at = c.in_ok-last.last in
    before_greater c.args.id es at c.get.result.now c.requires (omega arith)
    (subst (λ (e : Entry). e.id < c.args.id) (read_through es at c.get.ensures c.index-entries-last.is) c.if-greatest-id.true)

pub returns-then-greatest-id-2 : goal.returns-then-greatest-id-2
returns-then-greatest-id-2 c =
    let es = c.args.entries.now in
    let at = c.in_ok-last.last in
    before_equal c.args.id es at c.get.result.now c.requires (omega arith)
    (subst (λ (e : Entry). e.id ≡ c.args.id) (read_through es at c.get.ensures c.index-entries-last.is) c.if-greatest-id-2.true)
