-- The bytes of a label as digits to the base 256.
use Rattle.std.proofs.Common.{◌≡◌, ◌∙◌, ap, refl, sym, arith, append_assoc, append-nil, set, drop, ℕ, zero}
use Rattle.std.proofs.Common.{suc, ◌+◌, ◌*◌, ◌/◌, ◌%◌, ◌^◌, ◌<◌, ◌≤◌, ◌==◌, ◌||◌, ◌&&◌, nat_le, ◌⊎◌, inl, inr}
use Rattle.std.proofs.Common.{Bool, true, false, if◌then◌else◌, List, [], ◌∷◌, ◌++◌, get_or, length, take}
use Rattle.std.specs.List.{list_all}
use Rattle.std.proofs.lemmas.Bool.{and_parts, both_ways, leb-true, or_cases, true_from_ne_false}
use Rattle.std.proofs.lemmas.Bool.Decides.{nat_tests}
use Rattle.std.proofs.lemmas.Grind.{pow_more}
use Rattle.std.proofs.lemmas.List.Folds.{list_all_at}
use Rattle.std.proofs.lemmas.List.Sums.{fold_more}
use Rattle.std.proofs.lemmas.List.{drop-set}
use Rattle.std.proofs.lemmas.Nat.{div-mul-add, mod-mul-add}
use Rattle.std.proofs.Math.Nat.{pow-le-pow_right}
use Rattle.std.proofs.Math.Seq.{take-length, take-suc}
use Rattle.script_lines.specs.Labels.{is_digit, is_label, is_letter, packed, spelled, with_byte}

-- one more byte fits, where there are sixteen at most
pub fits-one-more : (code byte count : ℕ) → code < 256 ^ count → byte < 256 → count + 1 ≤ 16 → code * 256 + byte < 2 ^ 128
fits-one-more code byte count small low within =
    let more : 256 ^ (count + 1) ≡ 256 ^ count * 256 = pow_more 256 count in
    let whole : 256 ^ (count + 1) ≤ 256 ^ 16 = pow-le-pow_right (omega arith) within in
    omega (arith, small, low, more, whole)

-- no digit is left
spelled-none : (most : ℕ) (behind : List ℕ) → spelled most 0 behind ≡ behind
spelled-none zero behind = refl
spelled-none (suc most) behind = refl

-- the lowest digit
spelled-one : (most code byte : ℕ) (behind : List ℕ) → 0 < byte → byte < 256 →
    spelled (suc most) (code * 256 + byte) behind ≡ spelled most code (byte ∷ behind)
spelled-one most code byte behind some low =
    let test : (code * 256 + byte == 0) ≡ false = grind (arith, nat_tests) in
    ap (λ none. if none then behind else spelled most ((code * 256 + byte) / 256) ((code * 256 + byte) % 256 ∷ behind)) test
    ∙ ap (λ rest. spelled most rest ((code * 256 + byte) % 256 ∷ behind)) (div-mul-add code 256 byte low)
    ∙ ap (λ digit. spelled most code (digit ∷ behind)) (mod-mul-add code 256 byte low)

-- the digits of a front are its bytes
spelled-front : (most i : ℕ) (word behind : List ℕ) → i ≤ most → i ≤ length word →
    ((j : ℕ) → j < length word → (0 < get_or word j 0) × (get_or word j 0 < 256)) →
    spelled most (packed (take i word)) behind ≡ take i word ++ behind
spelled-front most zero word behind few within bytes = spelled-none most behind
spelled-front zero (suc i) word behind few within bytes = absurd (omega (arith, few))
spelled-front (suc most) (suc i) word behind few within bytes =
    let byte : ℕ = get_or word i 0 in
    let inside : i < length word = omega (arith, within) in
    let more : suc i ≡ i + 1 = omega arith in
    ap (λ count. spelled (suc most) (packed (take count word)) behind) more
    ∙ ap (λ code. spelled (suc most) code behind) (fold_more with_byte 0 word i 0 inside)
    ∙ spelled-one most (packed (take i word)) byte behind (bytes i inside).0 (bytes i inside).1
    ∙ spelled-front most i word (byte ∷ behind) (omega (arith, few)) (omega (arith, within)) bytes
    ∙ sym (append_assoc (take i word) (byte ∷ []) behind)
    ∙ ap (λ front. front ++ behind) (sym (take-suc word i 0 inside))

-- a letter or a digit is a byte, and not 0
byte-from : (byte : ℕ) → (is_letter byte ≡ true) ⊎ (is_digit byte ≡ true) → (0 < byte) × (byte < 256)
byte-from byte (inl letter) =
    let ends = and_parts (nat_le 97 byte) (nat_le byte 122) letter in
    (omega (arith, leb-true 97 byte ends.0), omega (arith, leb-true byte 122 ends.1))
byte-from byte (inr digit) =
    let ends = and_parts (nat_le 48 byte) (nat_le byte 57) digit in
    (omega (arith, leb-true 48 byte ends.0), omega (arith, leb-true byte 57 ends.1))

-- so are all bytes of a label
label-bytes : (word : List ℕ) → is_label word ≡ true → (j : ℕ) → j < length word →
    (0 < get_or word j 0) × (get_or word j 0 < 256)
label-bytes [] good j within = absurd (omega (arith, within))
label-bytes (first ∷ others) good zero within =
    let test : ℕ → Bool = λ byte. is_letter byte || is_digit byte in
    let front = (and_parts (is_letter first && nat_le (length others) 15) (list_all test others) good).0 in
    byte-from first (inl (and_parts (is_letter first) (nat_le (length others) 15) front).0)
label-bytes (first ∷ others) good (suc j) within =
    let test : ℕ → Bool = λ byte. is_letter byte || is_digit byte in
    let all : list_all test others ≡ true = (and_parts (is_letter first && nat_le (length others) 15) (list_all test others) good).1 in
    let inside : j < length others = omega (arith, within) in
    let passes : test (get_or others j 0) ≡ true =
    true_from_ne_false (test (get_or others j 0)) (λ fails. both_ways (list_all test others) (list_all_at test others j 0 inside fails)
    all) in
    byte-from (get_or others j 0) (or_cases (is_letter (get_or others j 0)) (is_digit (get_or others j 0)) passes)

-- a label has sixteen bytes at most
label-length : (word : List ℕ) → is_label word ≡ true → length word ≤ 16
label-length [] good = omega arith
label-length (first ∷ others) good =
    let test : ℕ → Bool = λ byte. is_letter byte || is_digit byte in
    let front = (and_parts (is_letter first && nat_le (length others) 15) (list_all test others) good).0 in
    let few = leb-true (length others) 15 (and_parts (is_letter first) (nat_le (length others) 15) front).1 in
    omega (arith, few)

-- a label is spelled as its word was
pub spelled-word : (word : List ℕ) → is_label word ≡ true → spelled 16 (packed word) [] ≡ word
spelled-word word good =
    let few : length word ≤ 16 = label-length word good in
    ap (λ whole. spelled 16 (packed whole) []) (sym (take-length word))
    ∙ spelled-front 16 (length word) word [] few (omega arith) (label-bytes word good)
    ∙ append-nil (take (length word) word)
    ∙ take-length word

-- one more digit goes in front of those behind
pub spelled-more : (start code : ℕ) (bytes : List ℕ) → start < length bytes → 0 < code →
    spelled start (code / 256) (drop start (set bytes start (code % 256))) ≡ spelled (start + 1) code (drop (start + 1) bytes)
spelled-more start code bytes within some =
    let test : (code == 0) ≡ false = grind (arith, nat_tests) in
    let more : suc start ≡ start + 1 = omega arith in
    ap (λ behind. spelled start (code / 256) behind) (drop-set bytes start (code % 256) within)
    ∙ ap (λ none. if none then drop (start + 1) bytes else spelled start (code / 256) (code % 256 ∷ drop (start + 1) bytes)) (sym test)
    ∙ ap (λ count. spelled count code (drop (start + 1) bytes)) more
