-- What the last goals of `drop_without_strong` have in common: the entry that was read is the one that is changed, and nothing is forced.
use Rattle.forest_steps.proofs.Common.{◌≡◌, ◌∙◌, ◌&&◌, ◌++◌, ℕ, List, nat_lt, not, None, Handles, Node, Table, inr, refl, set}
use Rattle.forest_steps.proofs.Common.{get_or, subst, sym, ap, filter, total}
use Rattle.forest_steps.proofs.Common.{Entry, forest_of, nodes_with, rows_of, get_or_default, AreCounted}
use Rattle.forest_steps.proofs.Common.{IsCounted, decided, has_given_root, beside}
use Rattle.forest_steps.proofs.Common.{by_page, is_held_strongly, is_out, pages_held, counted_set}
use Rattle.forest_steps.proofs.changes.Dropped.{IsReturned, decides_none, one_entry, pool_at}
use Rattle.forest_store.proofs.rows.Entries.{read_through}
use Rattle.forest_steps.proofs.dropped.drop_without_strong.Goals.{After-assert_disjoint-2}

module _ (c : After-assert_disjoint-2) where
  -- the open handles
  abbrev handles : Handles
  handles = total c.args.holds.now

  -- the table of nodes
  abbrev t : Table Node
  t = c.args.table.now

  -- the collections
  abbrev es : List Entry
  es = c.args.entries.now.items

  -- the collection of the buffer
  abbrev id : ℕ
  id = c.args.buffer.collection

  -- the place of the collection
  abbrev at : ℕ
  at = c.args.at

  -- the collection as it was
  abbrev old : Entry
  old = c.get_mut.result.now

  -- it stands at the place
  lent : old ≡ get_or es at old
  lent = read_through es at c.get_mut.ensures.value c.index_mut.ensures.value

  -- the collection without the buffer's pages
  abbrev new : Entry
  new = record (c.get_mut.result.now) { held = c.free_if_home.new.held }

  -- only the held buffers change, by those that are home
  pub returned : IsReturned handles old new
  returned = record {
    id = refl;
    keys = refl;
    buffers = refl;
    held = c.free_if_home.ensures.held
        ∙ ap (λ n. filter (is_out handles (nat_lt 0 n)) old.held.items) (sym (c.requires.strong old lent));
  }

  -- no step is forced: the buffers are not abandoned
  pub none : decided (nodes_with t old.keys.items) old.buffers (is_held_strongly handles old.id old.buffers) ≡ None
  none =
      let read = read_through es at c.get.ensures c.index.ensures in
      let same : c.get.result.now ≡ old = one_entry es id _ old c.requires.place read lent in
      decides_none handles es id old c.requires.place lent c.requires.kept c.requires.counted
      (inr (ap (λ (e : Entry). has_given_root t e.keys.items && not (is_held_strongly handles e.id e.buffers)) (sym same)
      ∙ (sym c.is_abandoned.ensures ∙ c.if-is_abandoned.false)))

  -- the pool holds the buffers of the collection and those of the others
  pub held_before : c.args.pool.now.held ≡ by_page (pages_held old.held.items ++ beside (forest_of t (rows_of es)) old.id)
  held_before =
      pool_at handles es id old c.requires.place lent c.requires.kept c.requires.counted _ c.assert_disjoint.ensures
      c.requires.pool

  -- the held buffers are no part of what is counted
  pub counted_now : AreCounted t (set es at new)
  counted_now =
      counted_set _ es at new (λ within was.
      let then = subst (IsCounted t) (get_or_default es at new old within ∙ sym lent) was in
      record { calm = then.calm; strong = then.strong; reserved = then.reserved; unkept_known = then.unkept_known }) c.requires.counted
