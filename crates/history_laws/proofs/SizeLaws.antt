-- Each held buffer has the pages that its collection's buffers take.
use Rattle.history_laws.proofs.Common.{Allocated, Bound, BufferName, Buffers, Called, Ended, HeldBuffer, In, In-append, In-filter, In-map}
use Rattle.history_laws.proofs.Common.{List, Loss, Mark, None, Some, Timeline, [], ap, buffers_of, cond, either_way, eq-eqb, eqb-true}
use Rattle.history_laws.proofs.Common.{false, held, home, inl, inr, laid_out, list_all, names, not, option_map_or, pages_of, placed}
use Rattle.history_laws.proofs.Common.{range_with_len, refl, subst, sym, true, ℕ, ◌++◌, ◌==◌, ◌∙◌, ◌∷◌, ◌≡◌, ◌⊎◌}
use Rattle.history_laws.proofs.GrowthLaws.{Grows, Stays, Answers, Loses, Allocates, Ends}
use Rattle.history_laws.proofs.HeldLaws.{Lays, Nothing_new, New, allocation_lays}
use Rattle.sm_names.proofs.ListLaws.{all_on}
use Rattle.history_laws.proofs.SettledLaws.{forced_why}

-- the buffers of its collection take as many pages as it has
abbrev IsSized : Timeline → HeldBuffer → Type 0
IsSized marks h = (b : Buffers) × (buffers_of marks h.buffer.collection ≡ Some b) × (h.pages.pages ≡ pages_of b.size)

-- so it is of each buffer that was ever given pages
abbrev AreSized : ℕ → Timeline → Type 0
AreSized pool marks = (h : HeldBuffer) → In h (placed pool marks) → IsSized marks h

-- what is laid out is one of the buffers, with this many pages
laid_out-In : (pages : ℕ) (bs : List BufferName) (starts : List ℕ) (h : HeldBuffer) → In h (laid_out pages bs starts) →
    In h.buffer bs × (h.pages.pages ≡ pages)
laid_out-In pages [] starts h on = absurd on
laid_out-In pages (b ∷ bs) [] h on = absurd on
laid_out-In pages (b ∷ bs) (s ∷ ss) h (inl is) = (inl (ap (λ (k : HeldBuffer). k.buffer) is), ap (λ (k : HeldBuffer). k.pages.pages) is)
laid_out-In pages (b ∷ bs) (s ∷ ss) h (inr on) = let r = laid_out-In pages bs ss h on in (inr r.0, r.1)

-- a mark that lays out buffers of a new collection, or none, keeps them so
sized_by : (pool : ℕ) (before : Timeline) (mark : Mark) → AreSized pool before → Lays pool before mark → AreSized pool (mark ∷ before)
sized_by pool before mark old (Nothing_new e same) h on =
    let was : IsSized before h = old h (subst (λ (l : List HeldBuffer). In h (l ++ placed pool before)) e on) in
    (was.0, same h.buffer.collection ∙ was.1, was.2)
sized_by pool before mark old (New collection buffers starts e there fresh given) h on =
    elim (In-append (laid_out (pages_of buffers.size) (names collection buffers.count) starts) (placed pool before) h
    (subst (λ (l : List HeldBuffer). In h (l ++ placed pool before)) e on)) [
      | inl new ↦
          let r = laid_out-In (pages_of buffers.size) (names collection buffers.count) starts h new in
          let n = In-map (λ i. record { collection = collection; index = i }) (range_with_len 0 buffers.count) h.buffer r.0 in
          let is : collection ≡ h.buffer.collection = sym (ap (λ (x : BufferName). x.collection) n.2) in
          (buffers, given h.buffer.collection ∙ rw (eq-eqb collection h.buffer.collection is) refl, r.1)
      | inr there ↦
          let was : IsSized before h = old h there in
          (was.0, given h.buffer.collection ∙ still was (either_way (collection == h.buffer.collection)), was.2)
    ]
  where
    -- the collection is not the new one, which had no buffers, so its buffers stay
    still : (was : IsSized before h) → ((collection == h.buffer.collection) ≡ true) ⊎ ((collection == h.buffer.collection) ≡ false) →
        cond (collection == h.buffer.collection) (Some buffers) (buffers_of before h.buffer.collection) ≡ Some was.0
    still was (inl e) =
        let is : collection ≡ h.buffer.collection = eqb-true collection h.buffer.collection e in
        let none : None ≡ Some was.0 = sym fresh ∙ (ap (buffers_of before) is ∙ was.1) in
        cc
    still was (inr e) = rw e was.1

-- so it is in each timeline that grows from nothing
are_sized : (pool : ℕ) (limits : Bound) (marks : Timeline) → Grows pool limits [] marks → AreSized pool marks
are_sized pool limits _ Stays = λ h on. absurd on
are_sized pool limits _ (Answers before client reply call g answer) =
    sized_by pool before (Called client reply call) (are_sized pool limits before g) (Nothing_new refl (λ c. refl))
are_sized pool limits _ (Loses before origin cause g born) =
    sized_by pool before (Loss origin cause) (are_sized pool limits before g) (Nothing_new refl (λ c. refl))
are_sized pool limits _ (Ends before c top g e) =
    sized_by pool before (Ended top) (are_sized pool limits before g) (Nothing_new refl (λ c. refl))
are_sized pool limits _ (Allocates before c head g e) =
    sized_by pool before (Allocated head) (are_sized pool limits before g) (allocation_lays pool limits before c g head
    (forced_why pool c before (Allocated head) e))

-- so it is for each held buffer
pub held_sized : (pool : ℕ) (limits : Bound) (marks : Timeline) → Grows pool limits [] marks →
    list_all (λ (h : HeldBuffer). option_map_or (λ (b : Buffers). h.pages.pages == pages_of b.size) (buffers_of marks h.buffer.collection)
    false) (held pool marks) ≡ true
held_sized pool limits marks g =
    all_on (λ (h : HeldBuffer). option_map_or (λ (b : Buffers). h.pages.pages == pages_of b.size) (buffers_of marks h.buffer.collection)
    false) (held pool marks)
    (λ h on.
    let s : IsSized marks h =
    are_sized pool limits marks g h (In-filter (λ (k : HeldBuffer). not (home marks k.buffer)) (placed pool marks) h on).0 in
    rw s.1 (eq-eqb h.pages.pages (pages_of s.0.size) s.2))
