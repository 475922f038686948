use Rattle.lifetime_core.proofs.Common.{ap, arith, pow-succ', suc, ℕ, ◌*◌, ◌<◌, ◌^◌, ◌∙◌, ◌≡◌}
use Rattle.std.proofs.Common.{◌-◌, ◌%◌, ◌≤◌}
use Rattle.std.proofs.Math.Pow.{pow_mono}
use Rattle.lifetime_core.proofs.opening.full_set.Goals as goal

-- the bit of the last of this many buffers fits, and twice that bit is one more than the set of all
half : (count : ℕ) → 0 < count → count ≤ 64 → (2 ^ count ≡ 2 * 2 ^ (count - 1)) × (1 ≤ 2 ^ (count - 1)) × (2 ^ (count - 1) ≤ 2 ^ 63) ×
    (1 * 2 ^ (count - 1) % 2 ^ 64 ≡ 2 ^ (count - 1))
half count some few =
    let same : count ≡ suc (count - 1) = omega arith in
    let least : 2 ^ 0 ≤ 2 ^ (count - 1) = pow_mono {i = 0} {j = count - 1} (omega arith) in
    let most : 2 ^ (count - 1) ≤ 2 ^ 63 = pow_mono {i = count - 1} {j = 63} (omega arith) in
    (ap (λ k. 2 ^ k) same ∙ pow-succ' 2 (count - 1), omega (arith, least), most, omega (arith, most))

pub returns : goal.returns
returns c = let h = half c.args.count (omega arith) (omega arith) in omega (arith, h.0, h.1, h.2, h.3)
