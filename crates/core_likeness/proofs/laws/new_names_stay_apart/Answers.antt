use Rattle.core_likeness.proofs.Swapping.{ids-apart, keys-apart, numbers-apart}
use Rattle.core_likeness.proofs.laws.new_names_stay_apart.Goals as goal

-- by the laws of swaps
pub returns : goal.returns
returns c = record { keys = keys-apart; ids = ids-apart; numbers = numbers-apart }
