-- The buffers of a collection are laid out in their order, so as many are held as are left.
use Rattle.core_state.proofs.Common.{Allocated, Allocates, Answers, Bool, Bound, BufferName, Buffers, Ends, Grows, HeldBuffer, In, In-map}
use Rattle.core_state.proofs.Common.{In-map-back, List, Loses, Mark, None, Option, Some, Stays, Timeline, [], ap, append-nil, arith}
use Rattle.core_state.proofs.Common.{buffer_names, buffers_of, cond, either_way, eqb-true, false, filter, filter-all, filter-append}
use Rattle.core_state.proofs.Common.{filter-none, filter-swap, forced_why, held_after, home, inl, inr, laid_out, left, length}
use Rattle.core_state.proofs.Common.{length-filter, length-map, map, map-append, names, not, option_map_or, pages_of, placed}
use Rattle.core_state.proofs.Common.{range_with_len, refl, subst, sym, true, ℕ, ◌++◌, ◌==◌, ◌∙◌, ◌∷◌, ◌≡◌, ◌⊎◌}
use Rattle.std.proofs.lemmas.List.FromFn.{length-map-range_with_len}
use Rattle.history_laws.proofs.HeldLaws.{Lays, Nothing_new, New, allocation_lays}
use Rattle.history_laws.proofs.PageLaws.{placed_apart}
use Rattle.core_state.proofs.lists.Maps.{filter-map}

-- the buffer of the pages
abbrev buffer_at : HeldBuffer → BufferName
buffer_at h = h.buffer

-- they are of a buffer of this collection
abbrev is_ours : ℕ → HeldBuffer → Bool
is_ours id h = h.buffer.collection == id

-- what is laid out is laid out for these buffers
laid_names : (pages : ℕ) (bs : List BufferName) (starts : List ℕ) → length starts ≡ length bs →
    map buffer_at (laid_out pages bs starts) ≡ bs
laid_names pages [] [] h = refl
laid_names pages [] (s ∷ ss) h = absurd (omega arith)
laid_names pages (b ∷ bs) [] h = absurd (omega arith)
laid_names pages (b ∷ bs) (s ∷ ss) h =
    let e : length ss ≡ length bs = omega arith in ap (λ (l : List BufferName). b ∷ l) (laid_names pages bs ss e)

-- a name is of its collection
pub named_in : (collection count : ℕ) (x : BufferName) → In x (names collection count) → x.collection ≡ collection
named_in collection count x on = let m =
    In-map (λ i. record { collection = collection; index = i }) (range_with_len 0 count) x on in ap (λ (y : BufferName). y.collection) m.2

module _ (pool : ℕ) (before : Timeline) (mark : Mark) (id : ℕ)
    (old : map buffer_at (filter (is_ours id) (placed pool before)) ≡ buffer_names before id) where
  -- one more mark lays out those of the collection that it gives
  named_by : Lays pool before mark → map buffer_at (filter (is_ours id) (placed pool (mark ∷ before))) ≡ buffer_names (mark ∷ before) id
  named_by (Nothing_new e same) =
      ap (λ (l : List HeldBuffer). map buffer_at (filter (is_ours id) (l ++ placed pool before))) e
      ∙ (old ∙ ap (λ (o : Option Buffers). option_map_or (λ (b : Buffers). names id b.count) o []) (sym (same id)))
  named_by (New collection buffers starts e there fresh given) =
      ap (λ (l : List HeldBuffer). map buffer_at (filter (is_ours id) (l ++ placed pool before))) e
      ∙ (ap (map buffer_at) (filter-append (is_ours id) laid (placed pool before))
      ∙ (map-append buffer_at (filter (is_ours id) laid) (filter (is_ours id) (placed pool before))
      ∙ (ap (λ (l : List BufferName). map buffer_at (filter (is_ours id) laid) ++ l) old
      ∙ (by (either_way (collection == id)) ∙ ap (λ (o : Option Buffers). option_map_or (λ (b : Buffers). names id b.count) o [])
      (sym (given id))))))
    where
      ns : List BufferName
      ns = names collection buffers.count

      laid : List HeldBuffer
      laid = laid_out (pages_of buffers.size) (names collection buffers.count) starts

      all : map buffer_at (laid_out (pages_of buffers.size) (names collection buffers.count) starts) ≡ names collection buffers.count
      all = laid_names (pages_of buffers.size) ns starts
          ((placed_apart pool (pages_of buffers.size) buffers.count _ starts there).many
          ∙ sym (length-map-range_with_len (λ i. record { collection = collection; index = i }) 0 buffers.count))

      of_it : (h : HeldBuffer) → In h (laid_out (pages_of buffers.size) (names collection buffers.count) starts) →
          h.buffer.collection ≡ collection
      of_it h on = named_in collection buffers.count h.buffer (subst (In h.buffer) all (In-map-back buffer_at laid h on))

      by : ((collection == id) ≡ true) ⊎ ((collection == id) ≡ false) →
          map buffer_at (filter (is_ours id) (laid_out (pages_of buffers.size) (names collection buffers.count) starts)) ++ buffer_names
          before id
          ≡ option_map_or (λ (b : Buffers). names id b.count) (cond (collection == id) (Some buffers) (buffers_of before id)) []
      by (inl e) =
          let same : collection ≡ id = eqb-true collection id e in
          let none : buffers_of before id ≡ None = ap (buffers_of before) (sym same) ∙ fresh in
          let each : filter (is_ours id) laid ≡ laid = filter-all (is_ours id) laid (λ h on. ap (λ (n : ℕ). n == id) (of_it h on) ∙ e) in
          rw (e, none) (append-nil (map buffer_at (filter (is_ours id) laid))
          ∙ (ap (map buffer_at) each ∙ (all ∙ ap (λ (n : ℕ). names n buffers.count) same)))
      by (inr e) =
          let none : filter (is_ours id) laid ≡ [] = filter-none (is_ours id) laid (λ h on. ap (λ (n : ℕ). n == id) (of_it h on) ∙ e) in
          rw (e, none) refl

-- so the buffers of a collection were laid out in their order
placed_names : (pool : ℕ) (limits : Bound) (marks : Timeline) → Grows pool limits [] marks → (id : ℕ) →
    map buffer_at (filter (is_ours id) (placed pool marks)) ≡ buffer_names marks id
placed_names pool limits _ Stays id = refl
placed_names pool limits _ (Answers before client reply call g answer) id = placed_names pool limits before g id
placed_names pool limits _ (Loses before origin cause g born) id = placed_names pool limits before g id
placed_names pool limits _ (Ends before collection top g e) id = placed_names pool limits before g id
placed_names pool limits _ (Allocates before collection head g e) id =
    named_by pool before (Allocated head) id (placed_names pool limits before g id) (allocation_lays pool limits before collection g head
    (forced_why pool collection before (Allocated head) e))

-- and as many are held as are left
pub held_left : (pool : ℕ) (limits : Bound) (marks : Timeline) → Grows pool limits [] marks → (id : ℕ) →
    length (held_after pool marks id) ≡ left marks id
held_left pool limits marks g id =
    let is_out : BufferName → Bool = λ b. not (home marks b) in
    ap length (filter-swap (is_ours id) (λ (h : HeldBuffer). not (home marks h.buffer)) (placed pool marks))
    ∙ (sym (length-map (filter (λ (h : HeldBuffer). not (home marks h.buffer)) (filter (is_ours id) (placed pool marks))) buffer_at)
    ∙ (ap length (sym (filter-map is_out buffer_at (filter (is_ours id) (placed pool marks)))
    ∙ ap (filter is_out) (placed_names pool limits marks g id))
    ∙ length-filter is_out (buffer_names marks id)))
