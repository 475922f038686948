-- Where a search among blocks can start.
use Rattle.buffer_pool.proofs.Common.{Interval, IsPassed, List, Reach, [], all_in, ap, append-nil, arith, drop, drop_more, get_or, length}
use Rattle.buffer_pool.proofs.Common.{length-take-le, refl, rooms, sym, take, take-append-drop, take-take, take_more, ℕ, ◌++◌, ◌+◌, ◌<◌}
use Rattle.buffer_pool.proofs.Common.{◌∙◌, ◌∷◌, ◌≡◌, ◌≤◌}
use Rattle.std.proofs.lemmas.List.{length-take}
use Rattle.buffer_pool.proofs.Joins.{all-append, before-next}
use Rattle.buffer_pool.proofs.Taking.{rooms-append, rooms-more}

-- the room of the first blocks and of the next
pub rooms-next : (pages b : ℕ) (L : List (List Interval)) → b < length L →
    rooms pages (all_in (take (b + 1) L)) ≡ rooms pages (all_in (take b L)) + rooms pages (get_or L b [])
rooms-next pages b L lt =
    ap (λ (r : List (List Interval)). rooms pages (all_in r)) (take_more L b [] lt)
    ∙ ap (rooms pages) (all-append (take b L) (get_or L b [] ∷ []) ∙ ap (λ r. all_in (take b L) ++ r) (append-nil (get_or L b [])))
    ∙ rooms-append pages (all_in (take b L)) (get_or L b [])

-- a block that has no room is passed
pub passed-next : (pages b before : ℕ) (L : List (List Interval)) → b < length L → rooms pages (get_or L b []) ≡ 0 →
    IsPassed pages (record { block = b; before = before }) L →
    IsPassed pages (record { block = b + 1; before = before + length (get_or L b []) }) L
passed-next pages b before L lt none k =
    record {
      some = k.some;
      within = omega arith;
      before = omega (arith, before-next L b lt, k.before);
      passed = omega (arith, rooms-next pages b L lt, k.passed);
    }

-- what is passed for fewer pages is passed for more
pub passed-more : (known pages : ℕ) (r : Reach) (L : List (List Interval)) → known ≤ pages → IsPassed known r L → IsPassed pages r L
passed-more known pages r L le k =
    record {
      some = omega (arith, k.some);
      within = k.within;
      before = k.before;
      passed = rooms-more known pages (all_in (take r.block L)) k.some le k.passed;
    }

-- the first block can be where a search starts
pub passed-start : (pages : ℕ) (L : List (List Interval)) → 1 ≤ pages → IsPassed pages (record { block = 0; before = 0 }) L
passed-start pages L one = record { some = one; within = omega arith; before = refl; passed = refl }

-- where the first blocks stay, a search can start where it could
pub passed-kept : (pages b : ℕ) (r : Reach) (L M : List (List Interval)) → r.block ≤ b → b ≤ length L → take b M ≡ take b L →
    IsPassed pages r L → IsPassed pages r M
passed-kept pages b r L M le within same k =
    let front : take r.block M ≡ take r.block L =
    sym (take-take r.block b M le) ∙ ap (take r.block) same ∙ take-take r.block b L le in
    let count : length (take b M) ≡ b = ap length same ∙ length-take-le b L within in
    record {
      some = k.some;
      within = omega (arith, length-take b M, count);
      before = k.before ∙ ap (λ (x : List (List Interval)). length (all_in x)) (sym front);
      passed = ap (λ (x : List (List Interval)). rooms pages (all_in x)) front ∙ k.passed;
    }

-- the room of the blocks from one on is that of all, where those before have none
pub rooms-drop : (pages b : ℕ) (L : List (List Interval)) → rooms pages (all_in (take b L)) ≡ 0 →
    rooms pages (all_in (drop b L)) ≡ rooms pages (all_in L)
rooms-drop pages b L none =
    let whole : all_in L ≡ all_in (take b L) ++ all_in (drop b L) = ap all_in (sym (take-append-drop b L)) ∙ all-append (take b L) (drop b L) in
    omega (arith, ap (rooms pages) whole, rooms-append pages (all_in (take b L)) (all_in (drop b L)))

-- the room of the blocks from one on is that of it and of those behind it
pub rooms-rest : (pages b : ℕ) (L : List (List Interval)) → b < length L →
    rooms pages (all_in (drop b L)) ≡ rooms pages (get_or L b []) + rooms pages (all_in (drop (b + 1) L))
rooms-rest pages b L lt =
    ap (λ (r : List (List Interval)). rooms pages (all_in r)) (drop_more L b [] lt)
    ∙ rooms-append pages (get_or L b []) (all_in (drop (b + 1) L))
