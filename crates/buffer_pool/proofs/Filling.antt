-- What stays true while buffers are placed block after block.
use Rattle.buffer_pool.proofs.Common.{All, All-drop, All-take, Interval, IsPassed, IsSane, List, MAX_PAGES, Reach, [], all_in, ap, arith}
use Rattle.buffer_pool.proofs.Common.{cases_lt, drop, drop-set-lt, drop_at, drop_more, get_or, get_or-set_same, holes_after, inl, inr}
use Rattle.buffer_pool.proofs.Common.{length, length-remove, length-set, length-take-le, looks_in, min, mul-add, mul-le-mul_left, refl}
use Rattle.buffer_pool.proofs.Common.{remove, rooms, set, starts_in, subst, suc, sym, take, take-set, take-set-le, zero, ℕ, ◌*◌, ◌++◌}
use Rattle.buffer_pool.proofs.Common.{◌+◌, ◌-◌, ◌<◌, ◌∙◌, ◌∷◌, ◌≡◌, ◌≤◌}
use Rattle.std.proofs.lemmas.List.{take_at, take_all}
use Rattle.buffer_pool.proofs.Blocking.{remove-set}
use Rattle.buffer_pool.proofs.Joins.{parts, parts-set, before-next, within-all, without_none, take-remove}
use Rattle.buffer_pool.proofs.Passing.{rooms-next}
use Rattle.buffer_pool.proofs.Placing.{looks_in-bounds}
use Rattle.buffer_pool.proofs.Taking.{more, passing, fitting, rooms-after, length-after}

-- so many buffers of at most so many are placed, and the search stands at a block before which no other has room
pub record IsFilling (pages most n : ℕ) (L0 : List (List Interval)) (from now : Reach) (L : List (List Interval)) : Type 0 where
  pub holes : holes_after pages n (all_in L0) ≡ all_in L
  pub few : n ≤ most
  pub within : now.block ≤ length L
  pub before : now.before ≡ length (all_in (take now.block L))
  pub passed : n < most → rooms pages (all_in (take now.block L)) ≡ 0
  pub sane : All IsSane (all_in (drop now.block L))
  pub after : from.block ≤ now.block
  pub front : take from.block L ≡ take from.block L0

-- before the first buffer the search stands where it starts
pub filling-start : (pages most : ℕ) (from : Reach) (L : List (List Interval)) → IsPassed pages from L → All IsSane (all_in L) →
    IsFilling pages most 0 L from from L
filling-start pages most from L k sane =
    record {
      holes = refl;
      few = omega arith;
      within = k.within;
      before = k.before;
      passed = λ less. k.passed;
      sane = later from.block L sane;
      after = omega arith;
      front = refl;
    }
  where
    -- by induction on the block: what holds of all holds of those in later blocks
    later : (b : ℕ) (M : List (List Interval)) → All IsSane (all_in M) → All IsSane (all_in (drop b M))
    later zero M all = all
    later (suc b) [] all = all
    later (suc b) (B ∷ M) all =
        later b M (subst (All IsSane) (drop_at B (all_in M) (length B) refl) (All-drop IsSane (length B) (B ++ all_in M) all))

-- a search looks at each hole once at most for each buffer
pub block-looks : (pages k before : ℕ) (B : List Interval) → 1 ≤ pages → k ≤ rooms pages B → before + length B ≤ MAX_PAGES →
    k * before + looks_in pages k B ≤ k * MAX_PAGES
block-looks pages k before B one le few =
    omega (arith, (looks_in-bounds pages k B one le).1, mul-add k before (length B), mul-le-mul_left k few)

module _ (pages most n : ℕ) (L0 : List (List Interval)) (from now : Reach) (L : List (List Interval)) (one : 1 ≤ pages)
    (enough : most ≤ rooms pages (all_in L0)) (lt : n < most) (f : IsFilling pages most n L0 from now L) where
  -- a block is left, since some buffer is and has room
  pub block-left : now.block < length L
  block-left =
      elim (cases_lt now.block (length L)) [
        | inl less ↦ less
        | inr past ↦
            let none : rooms pages (all_in L) ≡ 0 =
            ap (λ (r : List (List Interval)). rooms pages (all_in r)) (sym (take_all now.block L past)) ∙ f.passed lt in
            absurd (omega (arith, rooms-after pages n (all_in L0) one (omega arith), ap (rooms pages) f.holes))
      ]

  -- what holds of the holes that are left holds of those of the block and of those behind it
  sane_parts : All IsSane (get_or L now.block []) × All IsSane (all_in (drop (now.block + 1) L))
  sane_parts =
      let B : List Interval = get_or L now.block [] in
      let S : List Interval = all_in (drop (now.block + 1) L) in
      let whole : all_in (drop now.block L) ≡ B ++ S = ap all_in (drop_more L now.block [] block-left) in
      let all : All IsSane (B ++ S) = subst (All IsSane) whole f.sane in (
        subst (All IsSane) (take_at B S (length B) refl) (All-take IsSane (length B) (B ++ S) all),
        subst (All IsSane) (drop_at B S (length B) refl) (All-drop IsSane (length B) (B ++ S) all),
      )

  -- the holes of the block
  pub block-sane : All IsSane (get_or L now.block [])
  block-sane = sane_parts.0

  -- there are no more holes than before
  pub block-few : length (all_in L0) ≤ MAX_PAGES → now.before + length (get_or L now.block []) ≤ MAX_PAGES
  block-few few =
      omega (arith, within-all L now.block block-left, f.before, length-after pages n (all_in L0), ap length f.holes)

  -- what taking from the block makes
  pub record IsFilled (k : ℕ) (X : List Interval) : Type 0 where
    pub starts : starts_in pages (n + k) (all_in L0) ≡ starts_in pages n (all_in L0) ++ starts_in pages k (get_or L now.block [])
    pub looks : looks_in pages (n + k) (all_in L0)
        ≡ looks_in pages n (all_in L0) + (k * now.before + looks_in pages k (get_or L now.block []))
    pub kept : IsFilling pages most (n + k) L0 from (record { block = now.block + 1; before = now.before + length X })
        (set L now.block X)
    pub gone : X ≡ [] → IsFilling pages most (n + k) L0 from now (remove (set L now.block X) now.block)

  -- the buffers that have room in the block are taken from it, since those before have none
  pub filled : (k : ℕ) (X : List Interval) → k ≡ min (most - n) (rooms pages (get_or L now.block [])) →
      X ≡ holes_after pages k (get_or L now.block []) → IsFilled k X
  filled k X is left =
      let b : ℕ = now.block in
      let P : List Interval = all_in (take b L) in
      let B : List Interval = get_or L b [] in
      let S : List Interval = all_in (drop (b + 1) L) in
      let there : b < length L = block-left in
      let le : k ≤ rooms pages B = omega arith in
      let m = more pages n k (all_in L0) in
      let all : holes_after pages n (all_in L0) ≡ P ++ (B ++ S) = f.holes ∙ parts L b there in
      let p = passing pages k P (B ++ S) one (f.passed lt) in
      let q = fitting pages k B S one le in
      let long : length (set L b X) ≡ length L = length-set L b X in
      let here : get_or (set L b X) b [] ≡ X = get_or-set_same L b X [] there in
      let first : take b (set L b X) ≡ take b L = take-set L b X in
      let behind : drop (b + 1) (set L b X) ≡ drop (b + 1) L = drop-set-lt (b + 1) L b X (omega arith) in
      let holes : holes_after pages (n + k) (all_in L0) ≡ all_in (set L b X) =
      m.holes ∙ ap (holes_after pages k) all ∙ p.holes ∙ ap (λ r. P ++ r) q.holes
      ∙ ap (λ Y. P ++ (Y ++ S)) (sym left) ∙ sym (parts-set L b X there) in
      let front : take from.block (set L b X) ≡ take from.block L0 = take-set-le from.block L b X f.after ∙ f.front in
      let room : n + k < most → rooms pages X ≡ 0 =
      λ less. omega (arith, rooms-after pages k B one le, ap (rooms pages) left) in
      let at : k * now.before ≡ k * length P = ap (λ x. k * x) f.before in
      let looks : looks_in pages k (holes_after pages n (all_in L0)) ≡ k * length P + looks_in pages k B =
      ap (looks_in pages k) all ∙ p.looks ∙ ap (λ l. k * length P + l) (q.looks ∙ omega arith) in
      record {
        starts = m.starts ∙ ap (λ s. starts_in pages n (all_in L0) ++ s) (ap (starts_in pages k) all ∙ p.starts ∙ q.starts);
        looks = omega (arith, m.looks);
        kept = record {
          holes = holes;
          few = omega arith;
          within = omega (arith, there);
          before = omega (
            arith,
            before-next (set L b X) b (omega (arith, there)),
            ap length here,
            ap (λ (r : List (List Interval)). length (all_in r)) first,
            f.before,
          );
          passed = λ less.
              omega (
                arith,
                rooms-next pages b (set L b X) (omega (arith, there)),
                ap (rooms pages) here,
                room less,
                ap (λ (r : List (List Interval)). rooms pages (all_in r)) first,
                f.passed lt,
              );
          sane = subst (λ (r : List (List Interval)). All IsSane (all_in r)) (sym behind) sane_parts.1;
          after = omega (arith, f.after);
          front = front;
        };
        gone = λ none.
            let same : remove (set L b X) b ≡ remove L b = remove-set L b X in
            let size : length (take b L) ≡ b = length-take-le b L (omega (arith, there)) in
            let next : suc b ≡ b + 1 = omega arith in
            let stay : take b (remove L b) ≡ take b L = take-remove L b b (omega arith) (omega (arith, there)) in
            let rest : drop b (remove L b) ≡ drop (b + 1) L =
            drop_at (take b L) (drop (suc b) L) b size ∙ ap (λ (x : ℕ). drop x L) next in
            subst (IsFilling pages most (n + k) L0 from now) (sym same)
            (record {
              holes = holes ∙ sym (without_none (set L b X) b (omega (arith, there)) (here ∙ none)) ∙ ap all_in same;
              few = omega arith;
              within = omega (arith, there, length-remove L b there);
              before = f.before ∙ ap (λ (r : List (List Interval)). length (all_in r)) (sym stay);
              passed = λ less. ap (λ (r : List (List Interval)). rooms pages (all_in r)) stay ∙ f.passed lt;
              sane = subst (λ (r : List (List Interval)). All IsSane (all_in r)) (sym rest) sane_parts.1;
              after = f.after;
              front = sym (ap (take from.block) same) ∙ take-remove (set L b X) b from.block f.after (omega (arith, there)) ∙ front;
            });
      }
