-- The entry takes its place.
use Rattle.forest_store.proofs.Common.{◌≡◌, sym, ◌∙◌, ap, arith, rows_of, insert}
use Rattle.forest_store.proofs.rows.Counted.{rows_put}
use Rattle.forest_store.proofs.rows.Entries.{place_within, before, before_within, set_put, insert_put}
use Rattle.forest_store.proofs.store.put_entry.Goals as goal

pub index_mut-requires : goal.index_mut-requires
index_mut-requires c = omega (arith, place_within _ _ _ _ _ c.deref.ensures.value c.place_of.ensures c.in-Some.is)

pub insert_at-requires : goal.insert_at-requires
insert_at-requires c =
    omega (
      arith,
      rw c.deref-in-None.ensures.value at c.entries_before-at.ensures,
      before_within c.get.result.now.id
          c.args.entries.now.items,
    )

pub returns-in-Some-clause-items : goal.returns-in-Some-clause-items
returns-in-Some-clause-items c =
    set_put _ _ _ c.requires.rising (sym (rw (c.deref.ensures.value, c.get.ensures) at c.place_of.ensures)
    ∙ c.in-Some.is)

pub returns-in-Some-clause-rows : goal.returns-in-Some-clause-rows
returns-in-Some-clause-rows c =
    ap rows_of (set_put _ _ _ c.requires.rising
    (sym (rw (c.deref.ensures.value, c.get.ensures) at c.place_of.ensures) ∙ c.in-Some.is))
    ∙ rows_put c.args.entry c.args.entries.now.items

pub returns-in-None-clause-items : goal.returns-in-None-clause-items
returns-in-None-clause-items c =
    let at : c.entries_before-at.result ≡ before c.args.entry.id c.args.entries.now.items =
    rw (c.deref-in-None.ensures.value, c.get.ensures) at c.entries_before-at.ensures in
    let told = sym (rw (c.deref.ensures.value, c.get.ensures) at c.place_of.ensures) ∙ c.in-None.is in
    (c.insert_at.ensures ∙ ap (λ n. insert c.args.entries.now.items n c.args.entry) at)
    ∙ insert_put _ _ c.requires.rising told

pub returns-in-None-clause-rows : goal.returns-in-None-clause-rows
returns-in-None-clause-rows c = ap rows_of (returns-in-None-clause-items c) ∙ rows_put c.args.entry c.args.entries.now.items
