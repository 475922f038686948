-- The entry with the id can only stand behind all smaller ones.
use Rattle.forest_store.proofs.Common.{◌≡◌, ◌∙◌, Entry, ap, subst, sym, arith, get_or, get_or_default}
use Rattle.forest_store.proofs.entry.searched_place.Goals.{else-at-entries-via-then-at-entries+else-get-id}
use Rattle.forest_store.proofs.entry.searched_place.Goals.{else-at-entries-via-else-at-entries}
use Rattle.forest_store.proofs.rows.Entries.{place_found, place_none, read_through}
use Rattle.forest_store.proofs.entry.searched_place.Goals as goal

pub returns-then-get-id : goal.returns-then-get-id
returns-then-get-id c =
    let at = c.searched-at.ensures in
    let same : (get_or c.args.entries.now c.searched-at.result c.get.result.now).id ≡ c.args.id =
    subst (λ (e : Entry). e.id ≡ c.args.id) (read_through c.args.entries.now c.searched-at.result c.get.ensures
    c.index-entries-at.is) c.if-get-id.true in
    rw at (sym (place_found _ _ _ c.requires (rw at at c.if-at-entries.true) (rw at at same)))

pub returns-else-at-entries : goal.returns-else-at-entries
returns-else-at-entries c =
    sym (place_none _ _ c.requires (elim c.else-at-entries.branch [
      | else-at-entries-via-then-at-entries+else-get-id w ↦ λ d within same.
          w.if-get-id.false (ap (λ (e : Entry). e.id)
          (read_through c.args.entries.now c.searched-at.result w.get.ensures w.index-entries-at.is
          ∙ (ap (λ n. get_or c.args.entries.now n w.get.result.now) c.searched-at.ensures
          ∙ get_or_default _ _ _ d within))
          ∙ same)
      | else-at-entries-via-else-at-entries w ↦ λ d within same. absurd (omega arith)
    ]))
