-- The ids rise: the entry with the id is the last, or stands where it is guessed, or where a search ends.
use Rattle.forest_store.proofs.Common.{◌≡◌, ◌<◌, Entry, subst, sym, arith}
use Rattle.forest_store.proofs.rows.Entries.{read_through, stands_at, stands_nowhere}
use Rattle.forest_store.proofs.entry.place_of.Goals as goal

pub returns-then-greatest-id : goal.returns-then-greatest-id
returns-then-greatest-id c =
    let es = c.args.entries.now in
    let at = c.in_ok-last.last in
    sym (stands_at c.args.id es at c.get.result.now c.requires (omega (arith, c.in_ok-last.ensures))
    (subst (λ (e : Entry). e.id ≡ c.args.id) (read_through es at c.get.ensures c.index-entries-last.is) c.if-greatest-id.true))

-- the last has a smaller id, and so have all
pub returns-then-greatest-id-2 : goal.returns-then-greatest-id-2
returns-then-greatest-id-2 c =
    let es = c.args.entries.now in
    let at = c.in_ok-last.last in
    sym (stands_nowhere c.args.id es at c.get.result.now c.requires (omega (arith, c.in_ok-last.ensures))
    (subst (λ (e : Entry). e.id < c.args.id) (read_through es at c.get.ensures c.index-entries-last.is) c.if-greatest-id-2.true))
