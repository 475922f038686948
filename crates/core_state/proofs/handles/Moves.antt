-- What an event makes of the counts of handles.
use Rattle.core_state.proofs.Common.{Bool, Counts, GoesBy, HandleCounts, Mark, MovesHandles, anyone, arith, counts_of, drops, gains}
use Rattle.core_state.proofs.Common.{handles_by, lands, lifts, loses, moving_count, of, one_if, only, opens, subst, sym, total, ℕ, ◌+◌}
use Rattle.core_state.proofs.Common.{◌-◌, ◌≡◌}

-- other rows with the same counts
pub moves_to : (old new other : Counts) (mark : Mark) → MovesHandles old new mark → counts_of other ≡ counts_of new →
    MovesHandles old other mark
moves_to old new other mark moves same = record {
  each = λ client buffer strength. subst (λ (h : HandleCounts). GoesBy (of old client buffer strength) (h.of client buffer strength)
      (gains (only client) buffer strength mark) (loses (only client) buffer strength mark)) (sym same) (moves.each client buffer strength);
  in_parcels = λ buffer strength. subst (λ (h : HandleCounts). GoesBy (moving_count old buffer strength) (h.moving buffer strength)
      (lifts anyone buffer strength mark) (lands anyone buffer strength mark)) (sym same) (moves.in_parcels buffer strength);
  in_all = λ buffer strength. subst (λ (h : HandleCounts). GoesBy (total old buffer strength) (h.total buffer strength)
      (opens anyone buffer strength mark) (drops anyone buffer strength mark)) (sym same) (moves.in_all buffer strength);
}

-- what came and went tells what there is
goes : (before after : ℕ) (came went : Bool) → GoesBy before after came went → after ≡ (before + one_if came) - one_if went
goes before after came went by = let sum : after + one_if went ≡ before + one_if came = by.adds_up in omega arith

-- the counts are those that the mark makes
pub moved : (old new : Counts) (mark : Mark) → MovesHandles old new mark → counts_of new ≡ handles_by mark (counts_of old)
moved old new mark moves = λ i. record {
  of = λ client buffer strength. goes (of old client buffer strength) (of new client buffer strength) (gains (only client) buffer strength
      mark) (loses (only client) buffer strength mark) (moves.each client buffer strength) i;
  moving = λ buffer strength. goes (moving_count old buffer strength) (moving_count new buffer strength) (lifts anyone buffer strength mark)
      (lands anyone buffer strength mark) (moves.in_parcels buffer strength) i;
  total = λ buffer strength. goes (total old buffer strength) (total new buffer strength) (opens anyone buffer strength mark)
      (drops anyone buffer strength mark) (moves.in_all buffer strength) i;
}
