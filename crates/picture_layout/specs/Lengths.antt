-- Numbers of units, which stop at the greatest.
use Rattle.std.specs.Prelude.{ℕ, ◌+◌, ◌*◌, ◌-◌, ◌^◌, min}

-- the sum and the product, or the greatest number
abbrev pub capped_sum : ℕ → ℕ → ℕ
capped_sum a b = min (a + b) (2 ^ 64 - 1)

-- the product, or the greatest number of 64 bits
abbrev pub capped_product : ℕ → ℕ → ℕ
capped_product a b = min (a * b) (2 ^ 64 - 1)
