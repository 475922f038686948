-- Where a byte stands first.
use Rattle.std.proofs.Common.{ℕ, ◌≡◌, ◌<◌, ◌==◌, true, false, List, Option, Some, None, nat_lt, length, arith, refl, get_or}
use Rattle.std.specs.List.{position, position_or_len}
use Rattle.std.proofs.lemmas.List.Sums.{position_or_len_is}
use Rattle.std.proofs.lemmas.Grind.{common_steps}
use Rattle.std.proofs.lemmas.Bool.{false_from_ne_true}
use Rattle.memchr.specs.Find.{IsFirstByte, is_byte}

-- the first place of a byte is its position
pub first_is_position : (a : ℕ) (bytes : List ℕ) (r : Option ℕ) → IsFirstByte (is_byte a) bytes r → r ≡ position (λ b. b == a) bytes
first_is_position a bytes None none =
    let no : position_or_len (λ b. b == a) bytes ≡ length bytes =
    position_or_len_is (λ b. b == a) bytes (length bytes) 0 (omega arith)
    (λ k lt. false_from_ne_true (get_or bytes k 0 == a) (none k (omega arith) lt))
    (λ lt. absurd (omega (arith, lt))) in
    let never : nat_lt (length bytes) (length bytes) ≡ false = grind (arith, common_steps) in
    rw (no, never) refl
first_is_position a bytes (Some k) first =
    let at : position_or_len (λ b. b == a) bytes ≡ k =
    position_or_len_is (λ b. b == a) bytes k 0 (omega (arith, first.0.high))
    (λ j lt. false_from_ne_true (get_or bytes j 0 == a) (first.0.before j (omega arith) lt)) (λ lt. first.1) in
    let within : k < length bytes = first.0.high in
    let before : nat_lt k (length bytes) ≡ true = grind (arith, common_steps) in
    rw (at, before) refl
