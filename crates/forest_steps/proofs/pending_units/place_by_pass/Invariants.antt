use Rattle.forest_steps.proofs.Common.{◌≡◌, false, take, list_any, same_key}
use Rattle.forest_steps.proofs.pending_units.place_by_pass.Given as goal

-- none so far is the key
abbrev pub invariant-loop-at : goal.invariant-loop-at
invariant-loop-at l = list_any (same_key l.key) (take l.at l.keys) ≡ false
