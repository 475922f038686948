-- What a sweep leaves, from what its walk did.
use Rattle.trackers.proofs.Common.{AllByRecursion, Fired, List, TableInvariant, TrackerRow, WaitIndex, World, ap, arith, cell_of_row}
use Rattle.trackers.proofs.Common.{filter, filter_map, fires, if◌then◌else◌, is_waiter_due, map, not, row_after, still_waiting, table_of}
use Rattle.trackers.proofs.Common.{untaken_of_row, waiters_of, waiting_of_row, ℕ, ◌++◌, ◌==◌, ◌∙◌, ◌≡◌, ◌≤◌}
use Rattle.trackers.proofs.IndexLemmas.{Elsewhere, indexed_dropped}
use Rattle.trackers.proofs.FoundLemmas.{table_with}
use Rattle.trackers.proofs.HeldLemmas.{count_after, held_after, cells_after, untaken_after, unfired_after}

module _ (w : World) (e : ℕ) (rows rows' : List TrackerRow) (over : rows' ≡ map (row_after w e) rows) where
  -- of what the table shows those that wait and the firings change
  pub swept_rest : (limit : ℕ) (fired fired' : List Fired) →
      table_of limit rows' fired' ≡ record (table_of limit rows fired) { unfired = filter_map waiting_of_row rows'; fired = fired' }
  swept_rest limit fired fired' =
      ap (λ l. table_with limit l (filter_map waiting_of_row rows') (filter_map untaken_of_row rows') fired') (ap (map cell_of_row) over
      ∙ cells_after w e rows)
      ∙ ap (λ l. table_with limit (map cell_of_row rows) (filter_map waiting_of_row rows') l fired') (ap (filter_map untaken_of_row) over
      ∙ untaken_after w e rows)

  -- those wait that are not due
  pub swept_unfired : filter_map waiting_of_row rows' ≡ still_waiting w (filter_map waiting_of_row rows)
  swept_unfired = ap (filter_map waiting_of_row) over ∙ unfired_after w e rows

  module _ (limit capacity capacity' spare spare' : ℕ) (fired fired' : List Fired) (old : WaitIndex)
      (sound : TableInvariant limit rows fired capacity
      spare old) (grown : fired' ≡ fired ++ filter_map (fires w e) rows) (same : capacity' ≡ capacity) (more : spare ≤ spare') where
    -- the table is right once what holds was taken out under the place
    pub swept_dropped : (new : WaitIndex) (place : ℕ) → AllByRecursion (Elsewhere w place) (filter_map waiting_of_row rows) →
        ((c : ℕ) → waiters_of new c ≡ (if c == place then filter (λ waiter. not (is_waiter_due w waiter)) (waiters_of old c)
        else waiters_of old c)) →
        TableInvariant limit rows' fired' capacity' spare' new
    swept_dropped new place all dropped = rw (over, grown, same) record {
      held = held_after w e limit fired capacity rows sound.held;
      indexed = rw (unfired_after w e rows) (indexed_dropped w place (filter_map waiting_of_row rows) all old sound.indexed new dropped);
      spare_room = omega (arith, sound.spare_room, more, count_after w e rows);
    }
