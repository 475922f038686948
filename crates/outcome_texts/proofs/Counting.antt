-- Tests of the numbers below another.
use Rattle.outcome_texts.proofs.Common.{Bool, add-one, any_below, arith, common_steps, ℕ, ◌+◌, ◌≡◌}
use Rattle.std.specs.Prelude.{◌||◌}

-- one more number is below
pub any_more : (test : ℕ → Bool) (at : ℕ) (found more result : Bool) → result ≡ (found || more) → found ≡ any_below test at →
    more ≡ test at → result ≡ any_below test (at + 1)
any_more test at found more result is so here = grind (arith, common_steps, add-one)
