-- Tests that say the same.
use Rattle.forest_store.proofs.Common.{◌≡◌, Bool, ◌&&◌, ◌||◌, not, arith}

-- the same behind another
pub and_again_behind : (a r b : Bool) → (a && (r && (a && b))) ≡ (r && (a && b))
and_again_behind a r b = grind arith

-- the same in front of a pair
pub and_again_pair : (a b c : Bool) → (a && ((a && b) && c)) ≡ ((a && b) && c)
and_again_pair a b c = grind arith

-- the same, with the others in another order
pub and_again_swap : (a u r : Bool) → (a && (u && (a && r))) ≡ ((a && r) && u)
and_again_swap a u r = grind arith

-- what need not be settled twice
pub settled_once : (gone apart settled : Bool) →
    (not (not gone) || (not apart || (gone || settled))) ≡ (gone || (not apart || settled))
settled_once gone apart settled = grind arith
