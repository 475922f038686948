-- Intervals in blocks, joined to one list.
use Rattle.buffer_pool.proofs.Common.{HALF, Interval, List, [], add-one, all_in, ap, append-nil, append_assoc, arith, drop, drop-set-lt}
use Rattle.buffer_pool.proofs.Common.{drop_at, drop_more, get_or, get_or-set_same, insert, length, length-append, length-insert}
use Rattle.buffer_pool.proofs.Common.{length-remove, length-set, length-take-le, refl, remove, set, set_split, subst, suc, sym, take}
use Rattle.buffer_pool.proofs.Common.{take-append-drop, take-append-le, take-set, take-take, take_more, take_more_set, zero, ℕ, ◌++◌, ◌+◌}
use Rattle.buffer_pool.proofs.Common.{◌-◌, ◌<◌, ◌∙◌, ◌∷◌, ◌≡◌, ◌≤◌}
use Rattle.std.proofs.Math.Seq.{take-append-add, drop-append-add}
use Rattle.std.proofs.lemmas.List.{drop-append-le, set-append_left, set-append_right}
use Rattle.std.proofs.lemmas.List.Edits.{insert-append_left, insert-append_right, get_or-insert_below, get_or-insert_at}
use Rattle.std.proofs.lemmas.List.Concat.{flat_map-append, get_or-flat_map}

-- intervals in blocks, as the list of the blocks
abbrev Lists : Type 0
Lists = List (List Interval)

-- the intervals of two lists of blocks in a row are those of the first and then of the second
pub all-append : (us vs : Lists) → all_in (us ++ vs) ≡ all_in us ++ all_in vs
all-append us vs = flat_map-append (λ (b : List Interval). b) us vs

-- what lies before a block, in it and behind it
pub parts : (L : Lists) (b : ℕ) → b < length L →
    all_in L ≡ all_in (take b L) ++ (get_or L b [] ++ all_in (drop (b + 1) L))
parts L b lt =
    ap all_in (sym (take-append-drop b L)) ∙ all-append (take b L) (drop b L)
    ∙ ap (λ (r : Lists). all_in (take b L) ++ all_in r) (drop_more L b [] lt)

-- the same with another block in its place
pub parts-set : (L : Lists) (b : ℕ) (B : List Interval) → b < length L →
    all_in (set L b B) ≡ all_in (take b L) ++ (B ++ all_in (drop (b + 1) L))
parts-set L b B lt =
    ap all_in (set_split L b B lt) ∙ all-append (take b L) (B ∷ drop (suc b) L)
    ∙ ap (λ n. all_in (take b L) ++ (B ++ all_in (drop n L))) (sym (add-one b))

-- a sum less its first term is its second term
none-left : (n m : ℕ) → n + m - n ≡ m
none-left n m = omega arith

-- a change within a block
pub insert_in : (L : Lists) (b o : ℕ) (x : Interval) → b < length L → o ≤ length (get_or L b []) →
    all_in (set L b (insert (get_or L b []) o x)) ≡ insert (all_in L) (length (all_in (take b L)) + o) x
insert_in L b o x lt le =
    let P : List Interval = all_in (take b L) in
    let B : List Interval = get_or L b [] in
    let S : List Interval = all_in (drop (b + 1) L) in
    parts-set L b (insert B o x) lt
    ∙ sym (ap (λ r. P ++ r) (insert-append_left B S o x le))
    ∙ sym (ap (λ n. P ++ insert (B ++ S) n x) (none-left (length P) o))
    ∙ sym (insert-append_right P (B ++ S) (length P) (length P + o) x refl (omega arith))
    ∙ sym (ap (λ ys. insert ys (length P + o) x) (parts L b lt))

-- the removal of an interval in a block removes it from the whole list, offset by the blocks before
pub remove_in : (L : Lists) (b o : ℕ) → b < length L → o < length (get_or L b []) →
    all_in (set L b (remove (get_or L b []) o)) ≡ remove (all_in L) (length (all_in (take b L)) + o)
remove_in L b o lt le =
    let P : List Interval = all_in (take b L) in
    let B : List Interval = get_or L b [] in
    let S : List Interval = all_in (drop (b + 1) L) in
    let next : length P + suc o ≡ suc (length P + o) = omega arith in
    parts-set L b (remove B o) lt
    ∙ ap (λ r. P ++ r) (append_assoc (take o B) (drop (suc o) B) S)
    ∙ sym (append_assoc P (take o B) (drop (suc o) B ++ S))
    ∙ sym (λ i. (P ++ take-append-le o B S (omega arith) i) ++ drop-append-le (suc o) B S (omega arith) i)
    ∙ sym (λ i. take-append-add P (B ++ S) o i ++ drop-append-add P (B ++ S) (suc o) i)
    ∙ ap (λ n. take (length P + o) (P ++ (B ++ S)) ++ drop n (P ++ (B ++ S))) next
    ∙ sym (ap (λ ys. remove ys (length P + o)) (parts L b lt))

-- an update in a block is an update in the whole list, offset by the blocks before
pub set_in : (L : Lists) (b o : ℕ) (x : Interval) → b < length L → o < length (get_or L b []) →
    all_in (set L b (set (get_or L b []) o x)) ≡ set (all_in L) (length (all_in (take b L)) + o) x
set_in L b o x lt le =
    let P : List Interval = all_in (take b L) in
    let B : List Interval = get_or L b [] in
    let S : List Interval = all_in (drop (b + 1) L) in
    parts-set L b (set B o x) lt
    ∙ sym (ap (λ r. P ++ r) (set-append_left B S o x le))
    ∙ sym (ap (λ n. P ++ set (B ++ S) n x) (none-left (length P) o))
    ∙ sym (set-append_right P (B ++ S) (length P) (length P + o) x refl (omega arith))
    ∙ sym (ap (λ ys. set ys (length P + o) x) (parts L b lt))

-- the interval at a place of a block
pub get_in : (L : Lists) (b o : ℕ) (d : Interval) → b < length L → o < length (get_or L b []) →
    get_or (get_or L b []) o d ≡ get_or (all_in L) (length (all_in (take b L)) + o) d
get_in L b o d lt le = sym (get_or-flat_map (λ (b : List Interval). b) L b o [] d lt le)

-- a block more, of one
pub begin_in : (L : Lists) (b : ℕ) (x : Interval) → b ≤ length L →
    all_in (insert L b (x ∷ [])) ≡ insert (all_in L) (length (all_in (take b L))) x
begin_in L b x le =
    let P : List Interval = all_in (take b L) in
    let D : List Interval = all_in (drop b L) in
    let whole : all_in L ≡ P ++ D = ap all_in (sym (take-append-drop b L)) ∙ all-append (take b L) (drop b L) in
    let none : length P - length P ≡ 0 = omega arith in
    all-append (take b L) ((x ∷ []) ∷ drop b L)
    ∙ sym (ap (λ n. P ++ insert D n x) none)
    ∙ sym (insert-append_right P D (length P) (length P) x refl (omega arith))
    ∙ sym (ap (λ ys. insert ys (length P) x) whole)

-- a block of none less
pub without_none : (L : Lists) (b : ℕ) → b < length L → get_or L b [] ≡ [] → all_in (remove L b) ≡ all_in L
without_none L b lt none =
    all-append (take b L) (drop (suc b) L)
    ∙ ap (λ n. all_in (take b L) ++ all_in (drop n L)) (sym (add-one b))
    ∙ sym (parts L b lt ∙ ap (λ (B : List Interval). all_in (take b L) ++ (B ++ all_in (drop (b + 1) L))) none)

-- a block in place of two, or two in place of one
two-one : (L : Lists) (b : ℕ) (Y Z : List Interval) → b < length L →
    all_in (insert (set L b Y) (b + 1) Z) ≡ all_in (take b L) ++ ((Y ++ Z) ++ all_in (drop (b + 1) L))
two-one L b Y Z lt =
    let front : take (b + 1) (set L b Y) ≡ take b L ++ Y ∷ [] = take_more_set L b Y lt in
    let back : drop (b + 1) (set L b Y) ≡ drop (b + 1) L = drop-set-lt (b + 1) L b Y (omega arith) in
    let P : List Interval = all_in (take b L) in
    let S : List Interval = all_in (drop (b + 1) L) in
    all-append (take (b + 1) (set L b Y)) (Z ∷ drop (b + 1) (set L b Y))
    ∙ (λ i. all_in (front i) ++ (Z ++ all_in (back i)))
    ∙ ap (λ r. r ++ (Z ++ S)) (all-append (take b L) (Y ∷ []) ∙ ap (λ r. P ++ r) (append-nil Y))
    ∙ append_assoc P Y (Z ++ S)
    ∙ ap (λ r. P ++ r) (sym (append_assoc Y Z S))

-- a block is cut in two
pub cut_in : (L : Lists) (b : ℕ) → b < length L →
    all_in (insert (set L b (take HALF (get_or L b []))) (b + 1) (drop HALF (get_or L b []))) ≡ all_in L
cut_in L b lt =
    let B : List Interval = get_or L b [] in
    two-one L b (take HALF B) (drop HALF B) lt
    ∙ ap (λ (Y : List Interval). all_in (take b L) ++ (Y ++ all_in (drop (b + 1) L))) (take-append-drop HALF B)
    ∙ sym (parts L b lt)

-- two are made one
pub merge_in : (L : Lists) (b : ℕ) → b + 1 < length L →
    all_in (set (remove L (b + 1)) b (get_or L b [] ++ get_or L (b + 1) [])) ≡ all_in L
merge_in L b lt =
    let B : List Interval = get_or L b [] in
    let C : List Interval = get_or L (b + 1) [] in
    let K : Lists = remove L (b + 1) in
    let P : List Interval = all_in (take b L) in
    let S : List Interval = all_in (drop (b + 1 + 1) L) in
    let there : b < length K = omega (arith, length-remove L (b + 1) lt) in
    let size : length (take (b + 1) L) ≡ b + 1 = length-take-le (b + 1) L (omega arith) in
    let front : take b K ≡ take b L = take-append-le b (take (b + 1) L) (drop (suc (b + 1)) L) (omega arith) ∙ take-take b (b + 1) L
    (omega arith) in
    let back : drop (b + 1) K ≡ drop (b + 1 + 1) L =
    drop_at (take (b + 1) L) (drop (suc (b + 1)) L) (b + 1) size ∙ ap (λ n. drop n L) (sym (add-one (b + 1))) in
    let behind : all_in (drop (b + 1) L) ≡ C ++ S = ap all_in (drop_more L (b + 1) [] lt) in
    parts-set K b (B ++ C) there
    ∙ (λ i. all_in (front i) ++ ((B ++ C) ++ all_in (back i)))
    ∙ ap (λ r. P ++ r) (append_assoc B C S)
    ∙ ap (λ r. P ++ (B ++ r)) (sym behind)
    ∙ sym (parts L b (omega arith))

-- how many lie before the next block
pub before-next : (L : Lists) (b : ℕ) → b < length L →
    length (all_in (take (b + 1) L)) ≡ length (all_in (take b L)) + length (get_or L b [])
before-next L b lt =
    ap (λ (r : Lists). length (all_in r)) (take_more L b [] lt)
    ∙ ap length (all-append (take b L) (get_or L b [] ∷ []) ∙ ap (λ r. all_in (take b L) ++ r) (append-nil (get_or L b [])))
    ∙ length-append (all_in (take b L)) (get_or L b [])

-- a place in a block is a place of the whole
pub within-all : (L : Lists) (b : ℕ) → b < length L →
    length (all_in (take b L)) + length (get_or L b []) + length (all_in (drop (b + 1) L)) ≡ length (all_in L)
within-all L b lt =
    let P : List Interval = all_in (take b L) in
    let B : List Interval = get_or L b [] in
    let S : List Interval = all_in (drop (b + 1) L) in
    omega (arith, ap length (parts L b lt), length-append P (B ++ S), length-append B S)

-- the fronts of changed lists
pub take-insert : (L : Lists) (b k : ℕ) (B : List Interval) → k ≤ b → b ≤ length L → take k (insert L b B) ≡ take k L
take-insert L b k B le within =
    let size : length (take b L) ≡ b = length-take-le b L within in
    take-append-le k (take b L) (B ∷ drop b L) (omega arith) ∙ take-take k b L le

-- the removal of a block leaves the blocks before it as they are
pub take-remove : (L : Lists) (b k : ℕ) → k ≤ b → b ≤ length L → take k (remove L b) ≡ take k L
take-remove L b k le within =
    let size : length (take b L) ≡ b = length-take-le b L within in
    take-append-le k (take b L) (drop (suc b) L) (omega arith) ∙ take-take k b L le

-- what cutting a block leaves
pub record IsCut (L : Lists) (b : ℕ) (M : Lists) : Type 0 where
  pub all : all_in M ≡ all_in L
  pub front : take b M ≡ take b L
  pub here : get_or M b [] ≡ take HALF (get_or L b [])
  pub next : get_or M (b + 1) [] ≡ drop HALF (get_or L b [])
  pub count : length M ≡ length L + 1
  pub before : length (all_in (take (b + 1) M)) ≡ length (all_in (take b L)) + length (take HALF (get_or L b []))

-- a block that is cut in two keeps its intervals in order, in two blocks side by side
pub is_cut : (L : Lists) (b : ℕ) (M : Lists) → b < length L →
    M ≡ insert (set L b (take HALF (get_or L b []))) (b + 1) (drop HALF (get_or L b [])) → IsCut L b M
is_cut L b M lt is =
    let Y : List Interval = take HALF (get_or L b []) in
    let Z : List Interval = drop HALF (get_or L b []) in
    let K : Lists = set L b Y in
    let long : length K ≡ length L = length-set L b Y in
    let size : b + 1 ≤ length K = omega arith in
    let count : length (insert K (b + 1) Z) ≡ length L + 1 = length-insert K (b + 1) Z size ∙ ap (λ n. n + 1) long in
    let front : take b (insert K (b + 1) Z) ≡ take b L = take-insert K (b + 1) b Z (omega arith) size ∙ take-set L b Y in
    let here : get_or (insert K (b + 1) Z) b [] ≡ Y =
    get_or-insert_below K (b + 1) Z [] b (omega arith) size ∙ get_or-set_same L b Y [] lt in
    let there : b < length (insert K (b + 1) Z) = omega arith in
    subst (IsCut L b) (sym is)
    (record {
      all = cut_in L b lt;
      front = front;
      here = here;
      next = get_or-insert_at K (b + 1) Z [] size;
      count = count;
      before = before-next (insert K (b + 1) Z) b there ∙ (λ i. length (all_in (front i)) + length (here i));
    })

-- ---- blocks of the same lengths

-- if a block is replaced by one of its length, each block begins where it began
pub same-place : (L : Lists) (b k : ℕ) (Y : List Interval) → length Y ≡ length (get_or L b []) →
    length (all_in (take k (set L b Y))) ≡ length (all_in (take k L))
same-place [] b k Y is = refl
same-place (B ∷ L) b zero Y is = refl
same-place (B ∷ L) zero (suc k) Y is = omega (arith, length-append Y (all_in (take k L)), length-append B (all_in (take k L)))
same-place (B ∷ L) (suc b) (suc k) Y is =
    let r = same-place L b k Y is in
    omega (arith, length-append B (all_in (take k (set L b Y))), length-append B (all_in (take k L)))

-- if a block is replaced by one of its length, each block is as long as it was
pub same-size : (L : Lists) (b k : ℕ) (Y : List Interval) → length Y ≡ length (get_or L b []) →
    length (get_or (set L b Y) k []) ≡ length (get_or L k [])
same-size [] b k Y is = refl
same-size (B ∷ L) zero zero Y is = is
same-size (B ∷ L) zero (suc k) Y is = refl
same-size (B ∷ L) (suc b) zero Y is = refl
same-size (B ∷ L) (suc b) (suc k) Y is = same-size L b k Y is

-- a taken spot is a place of the whole
pub place-within : (L : Lists) (b o : ℕ) → b < length L → o < length (get_or L b []) →
    length (all_in (take b L)) + o < length (all_in L)
place-within L b o lt less = omega (arith, within-all L b lt)

-- an interval is replaced before the next is taken out
remove-suc : (xs : List Interval) (at : ℕ) (y : Interval) → suc at < length xs → remove (set xs at y) (suc at) ≡ set (remove xs (suc at))
    at y
remove-suc [] at y lt = absurd (omega arith)
remove-suc (x ∷ xs) zero y lt = refl
remove-suc (x ∷ xs) (suc at) y lt = ap (λ r. x ∷ r) (remove-suc xs at y (omega arith))

-- an update commutes with the removal of the next interval
pub remove-next : (xs : List Interval) (at : ℕ) (y : Interval) → at + 1 < length xs →
    remove (set xs at y) (at + 1) ≡ set (remove xs (at + 1)) at y
remove-next xs at y lt =
    subst (λ n. remove (set xs at y) n ≡ set (remove xs n) at y) (sym (add-one at)) (remove-suc xs at y (omega arith))
