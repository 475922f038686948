-- Held buffers in order of page: each ends before the next one begins.
use Rattle.core_state.proofs.Common.{Forest, HeldBuffer, Holdings, Interval, IsPoolOf, List, [], all_held, and_left, and_right, arith}
use Rattle.core_state.proofs.Common.{end_of, in_order, leb-true, map, nat_le, nat_lt, subst, true, ℕ, ◌+◌, ◌∙◌, ◌∷◌, ◌≡◌, ◌≤◌}
use Rattle.std.proofs.lemmas.List.Elements.{All-cons}
use Rattle.std.proofs.lemmas.List.Kept.{AllPairs-cons}
use Rattle.std.specs.Prelude.{All}
use Rattle.std.specs.List.{AllPairs}
use Rattle.buffer_pool.specs.Holdings.{IsSound}
use Rattle.forest_store.specs.Forest.{held_by_page}
use Rattle.core_state.proofs.lists.Sorted.{sorted_by-map}

-- the first ends before the second begins
abbrev pub EndsBefore : HeldBuffer → HeldBuffer → Type 0
EndsBefore a b = a.pages.start + a.pages.pages ≤ b.pages.start

-- buffers in order from a page on begin there or later
all_after : (low low' high : ℕ) (hs : List HeldBuffer) → low' ≤ low → in_order low high (map (λ (h : HeldBuffer). h.pages) hs) ≡ true →
    All (λ (b : HeldBuffer). low' ≤ b.pages.start) hs
all_after low low' high [] le h = λ k d lt. absurd (omega arith)
all_after low low' high (x ∷ xs) le h =
    let from : low ≤ x.pages.start = leb-true low x.pages.start (and_left (nat_le low x.pages.start) _ h) in
    let rest : in_order (end_of x.pages) high (map (λ (h : HeldBuffer). h.pages) xs) ≡ true =
    and_right (nat_lt 0 x.pages.pages) _ (and_right (nat_le low x.pages.start) _ h) in
    All-cons (λ (b : HeldBuffer). low' ≤ b.pages.start) x xs (omega arith) (all_after (end_of x.pages) low' high
    xs (omega arith) rest)

-- each of them ends before the next ones begin
pairs_in_order : (low high : ℕ) (hs : List HeldBuffer) → in_order low high (map (λ (h : HeldBuffer). h.pages) hs) ≡ true →
    AllPairs EndsBefore hs
pairs_in_order low high [] h = λ j k d less lt. absurd (omega arith)
pairs_in_order low high (x ∷ xs) h =
    let rest : in_order (end_of x.pages) high (map (λ (h : HeldBuffer). h.pages) xs) ≡ true =
    and_right (nat_lt 0 x.pages.pages) _ (and_right (nat_le low x.pages.start) _ h) in
    AllPairs-cons EndsBefore x xs (all_after (end_of x.pages) (end_of x.pages) high xs (omega arith) rest)
    (pairs_in_order (end_of x.pages) high xs rest)

-- so do the held buffers of a forest whose pages lie in a pool
pub held_in_order : (pool : Holdings) (f : Forest) → IsPoolOf pool f → IsSound pool → AllPairs EndsBefore (held_by_page f)
held_in_order pool f is sound =
    let same : pool.held ≡ map (λ (h : HeldBuffer). h.pages) (held_by_page f) =
    is ∙ sorted_by-map (λ (i : Interval). i.start) (λ (h : HeldBuffer). h.pages) (all_held f) in
    pairs_in_order 0 pool.size (held_by_page f) (subst (λ (is : List Interval). in_order 0 pool.size is ≡ true) same sound.in_order)
