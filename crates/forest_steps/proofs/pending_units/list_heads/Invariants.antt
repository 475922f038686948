use Rattle.forest_steps.proofs.Common.{◌≡◌, ◌≤◌, length, take, is_head_at, vec_capacity, ArePlacedIfThere, turn_heads}
use Rattle.std.proofs.Common.{filter}
use Rattle.forest_steps.proofs.pending_units.list_heads.Given as goal

-- so far the heads among these keys are listed
abbrev pub invariant-loop-key : goal.invariant-loop-key
invariant-loop-key l = record {
  heads : turn_heads l.turns.items ≡ filter (is_head_at l.table l.units l.entry.id l.fn.head) (take l.key-index l.walked);
  placed : ArePlacedIfThere l.entry.keys.items l.turns.items;
  few : length l.turns.items ≤ l.key-index;
  room : length l.walked ≤ vec_capacity l.turns;
}
