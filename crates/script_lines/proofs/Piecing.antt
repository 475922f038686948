-- The lines of bytes that come in pieces.
use Rattle.std.proofs.Common.{◌≡◌, ℕ, suc, ◌+◌, ◌==◌, Bool, true, false, cond, not, nat_lt, if◌then◌else◌, List, [], ◌∷◌, ◌++◌}
use Rattle.std.proofs.Common.{length, take, drop, append_assoc, append-nil, refl, sym, ap, ◌∙◌, subst, Some, None, arith}
use Rattle.std.specs.List.{position, position_or_len}
use Rattle.std.proofs.lemmas.Bool.Decides.{nat_tests}
use Rattle.script_lines.specs.Pieces.{lines_from, rest_from}
use Rattle.script_lines.proofs.Splits.{found_is, none_is}

-- the byte ends a line
abbrev pub is_end : ℕ → Bool
is_end byte = byte == 10

-- the rest of two pieces is that of the second, where the rest of the first came before it
pub rest-append : (front xs ys : List ℕ) → rest_from front (xs ++ ys) ≡ rest_from (rest_from front xs) ys
rest-append front [] ys = refl
rest-append front (x ∷ xs) ys =
    elim (x == 10) as (λ t. (if t then rest_from [] (xs ++ ys) else rest_from (front ++ x ∷ []) (xs ++ ys))
    ≡ rest_from (if t then rest_from [] xs else rest_from (front ++ x ∷ []) xs) ys) [
      | true ↦ rest-append [] xs ys
      | false ↦ rest-append (front ++ x ∷ []) xs ys
    ]

-- the lines of two pieces are those of the first, then those that the second ends
pub lines-append : (front xs ys : List ℕ) → lines_from front (xs ++ ys) ≡ lines_from front xs ++ lines_from (rest_from front xs) ys
lines-append front [] ys = refl
lines-append front (x ∷ xs) ys =
    elim (x == 10) as (λ t. (if t then front ∷ lines_from [] (xs ++ ys) else lines_from (front ++ x ∷ []) (xs ++ ys))
    ≡ (if t then front ∷ lines_from [] xs else lines_from (front ++ x ∷ []) xs)
    ++ lines_from (if t then rest_from [] xs else rest_from (front ++ x ∷ []) xs) ys) [
      | true ↦ ap (λ ls. front ∷ ls) (lines-append [] xs ys)
      | false ↦ lines-append (front ++ x ∷ []) xs ys
    ]

-- a line that is ended in these bytes, at their first end
pub record Ends (front xs : List ℕ) (at : ℕ) : Type 0 where
  pub lines : lines_from front xs ≡ (front ++ take at xs) ∷ lines_from [] (drop (at + 1) xs)
  pub rest : rest_from front xs ≡ rest_from [] (drop (at + 1) xs)

-- one byte more in front
ends-behind : (front : List ℕ) (x : ℕ) (xs : List ℕ) (at : ℕ) → (x == 10) ≡ false → Ends (front ++ x ∷ []) xs at →
    Ends front (x ∷ xs) (1 + at)
ends-behind front x xs at other ends =
    let one : 1 + at ≡ suc at = omega arith in
    let two : (1 + at) + 1 ≡ suc (at + 1) = omega arith in
    let text : (front ++ x ∷ []) ++ take at xs ≡ front ++ take (1 + at) (x ∷ xs) =
    append_assoc front (x ∷ []) (take at xs) ∙ ap (λ n. front ++ take n (x ∷ xs)) (sym one) in
    record {
      lines = rw other (ends.lines ∙ ap (λ line. line ∷ lines_from [] (drop (at + 1) xs)) text
          ∙ ap (λ n. (front ++ take (1 + at) (x ∷ xs)) ∷ lines_from [] (drop n (x ∷ xs))) (sym two));
      rest = rw other (ends.rest ∙ ap (λ n. rest_from [] (drop n (x ∷ xs))) (sym two));
    }

-- the first byte that ends a line ends the one that the front began, by induction on the bytes
ends_at_first : (front xs : List ℕ) → nat_lt (position_or_len is_end xs) (length xs) ≡ true → Ends front xs (position_or_len is_end xs)
ends_at_first front [] within = absurd (cc)
ends_at_first front (x ∷ xs) within = by (ends_at_first (front ++ x ∷ []) xs) (x == 10) refl within
  where
    -- by cases: this byte ends the line, or one behind it does
    by : (nat_lt (position_or_len is_end xs) (length xs) ≡ true → Ends (front ++ x ∷ []) xs (position_or_len is_end xs)) →
        (t : Bool) → (x == 10) ≡ t → nat_lt (cond (not t) (1 + position_or_len is_end xs) 0) (length (x ∷ xs)) ≡ true →
        Ends front (x ∷ xs) (cond (not t) (1 + position_or_len is_end xs) 0)
    by others true is within = record {
      lines = rw is (ap (λ line. line ∷ lines_from [] xs) (sym (append-nil front)));
      rest = rw is refl;
    }
    by others false is within =
        let inside : nat_lt (position_or_len is_end xs) (length xs) ≡ true = grind (arith, nat_tests) in
        ends-behind front x xs (position_or_len is_end xs) is (others inside)

-- the first end that is found ends a line
pub ends_found : (front xs : List ℕ) (at : ℕ) → position is_end xs ≡ Some at → Ends front xs at
ends_found front xs at found =
    let both = found_is (nat_lt (position_or_len is_end xs) (length xs)) (position_or_len is_end xs) at found in
    subst (Ends front xs) both.1 (ends_at_first front xs both.0)

-- no line is ended
pub record Unended (front xs : List ℕ) : Type 0 where
  pub lines : lines_from front xs ≡ []
  pub rest : rest_from front xs ≡ front ++ xs

-- bytes without an end of a line extend the front and end no line, by induction on the bytes
unended_where_none : (front xs : List ℕ) → nat_lt (position_or_len is_end xs) (length xs) ≡ false → Unended front xs
unended_where_none front [] beyond = record { lines = refl; rest = sym (append-nil front) }
unended_where_none front (x ∷ xs) beyond = by (unended_where_none (front ++ x ∷ []) xs) (x == 10) refl beyond
  where
    -- by cases: this byte would end the line, so it extends the front
    by : (nat_lt (position_or_len is_end xs) (length xs) ≡ false → Unended (front ++ x ∷ []) xs) →
        (t : Bool) → (x == 10) ≡ t → nat_lt (cond (not t) (1 + position_or_len is_end xs) 0) (length (x ∷ xs)) ≡ false →
        Unended front (x ∷ xs)
    by behind true is beyond = absurd (grind (arith, nat_tests))
    by behind false is beyond =
        let outside : nat_lt (position_or_len is_end xs) (length xs) ≡ false = grind (arith, nat_tests) in
        let others = behind outside in
        record {
          lines = rw is others.lines;
          rest = rw is (others.rest ∙ append_assoc front (x ∷ []) xs);
        }

-- bytes among which a search finds no end of a line end no line
pub unended_none : (front xs : List ℕ) → position is_end xs ≡ None → Unended front xs
unended_none front xs none =
    unended_where_none front xs (none_is (nat_lt (position_or_len is_end xs) (length xs)) (position_or_len is_end xs) none)
