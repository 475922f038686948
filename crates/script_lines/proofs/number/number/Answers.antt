use Rattle.std.proofs.Common.{◌≡◌, ◌∙◌, ℕ, ◌+◌, ◌*◌, ◌-◌, ◌^◌, ◌<◌, ◌≤◌, ◌&&◌, Bool, true, false, List, [], ◌∷◌, get_or}
use Rattle.std.proofs.Common.{take, drop, length, nat_lt, refl, sym, ap, arith, if◌then◌else◌, Some, None, take-append-drop}
use Rattle.std.specs.List.{fold}
use Rattle.std.proofs.lemmas.Bool.Decides.{nat_tests}
use Rattle.std.proofs.lemmas.List.Sums.{fold-append, fold_more}
use Rattle.script_lines.specs.Numbers.{is_numeral, number_of, value, with_digit}
use Rattle.script_lines.proofs.number.number.Goals as goal

-- digits don't make a number less
grows : (number : ℕ) (digits : List ℕ) → number ≤ fold with_digit number digits
grows number [] = omega arith
grows number (d ∷ digits) =
    let on : number * 10 + (d - 48) ≤ fold with_digit (number * 10 + (d - 48)) digits =
    grows (number * 10 + (d - 48)) digits in
    omega arith

-- a front that is too large makes the word none
none_beyond : (word : List ℕ) (i : ℕ) → i < length word → 2 ^ 32 ≤ with_digit (value (take i word)) (get_or word i 0) →
    None ≡ number_of word
none_beyond word i within large =
    let front : value (take (i + 1) word) ≡ with_digit (value (take i word)) (get_or word i 0) =
    fold_more with_digit 0 word i 0 within in
    let whole : value word ≡ fold with_digit (value (take (i + 1) word)) (drop (i + 1) word) =
    ap value (sym (take-append-drop (i + 1) word)) ∙ fold-append with_digit 0 (take (i + 1) word) (drop (i + 1) word) in
    let more : value (take (i + 1) word) ≤ fold with_digit (value (take (i + 1) word)) (drop (i + 1) word) =
    grows (value (take (i + 1) word)) (drop (i + 1) word) in
    let beyond : 2 ^ 32 ≤ value word = rw whole (omega (arith, front, more, large)) in
    let test : nat_lt (value word) (2 ^ 32) ≡ false = grind (arith, nat_tests) in
    none_so (is_numeral word) (nat_lt (value word) (2 ^ 32)) (value word) test
  where
    none_so : (a b : Bool) (n : ℕ) → b ≡ false → None ≡ (if a && b then Some n else None)
    none_so a b n e = elim a as (λ v. None ≡ (if v && b then Some n else None)) [ true ↦ rw e refl | false ↦ refl ]

pub returns-then-next : goal.returns-then-next
returns-then-next c =
    none_beyond c.args.word.now c.loop-byte.byte-index (omega (arith, c.loop-byte-test.true))
    (rw (← c.loop-byte.invariant) (omega (arith, c.if-next.true)))
