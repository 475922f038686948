-- What an allocation lays out is of the collection whose root it is.
use Rattle.history_laws.proofs.Common.{Allocated, Birth, Bool, BufferName, Buffers, Called, Ended, HeldBuffer, In, In-append, In-map}
use Rattle.history_laws.proofs.Common.{Interval, List, Loss, Mark, None, Option, Some, Timeline, [], ap, asked, birth_of, buffers_of}
use Rattle.history_laws.proofs.Common.{cond, eq-eqb, false, inl, inr, is_initial, is_none, is_some, laid_out, layout_at, map, members}
use Rattle.history_laws.proofs.Common.{names, option_map_or, pages_of, placed, places, refl, still_out, sym, true, ℕ, ◌&&◌, ◌==◌, ◌∙◌}
use Rattle.history_laws.proofs.Common.{◌∷◌, ◌≡◌}
use Rattle.sm_names.specs.Timelines.{layout}

-- what is laid out bears the name of its collection
laid_in : (collection pages : ℕ) (bs : List BufferName) (starts : List ℕ) → ((b : BufferName) → In b bs → b.collection ≡ collection) →
    (h : HeldBuffer) → In h (laid_out pages bs starts) → h.buffer.collection ≡ collection
laid_in collection pages [] starts named h on = absurd on
laid_in collection pages (b ∷ bs) [] named h on = absurd on
laid_in collection pages (b ∷ bs) (start ∷ starts) named h (inl is) = ap (λ (x : HeldBuffer). x.buffer.collection) is ∙ named b (inl refl)
laid_in collection pages (b ∷ bs) (start ∷ starts) named h (inr on) =
    laid_in collection pages bs starts (λ c there. named c (inr there)) h on

-- what an allocation lays out is of the collection whose root it is
pub layout_given : (pool : ℕ) (before : Timeline) (out : List Interval) (mark : Mark) (h : HeldBuffer) →
    In h (layout_at pool before out mark) → is_initial before h.buffer.collection mark ≡ true
layout_given pool before out (Called client reply call) h on = absurd on
layout_given pool before out (Loss origin cause) h on = absurd on
layout_given pool before out (Ended top) h on = absurd on
layout_given pool before out (Allocated head) h on = from (birth_of before head) on
  where
    -- by cases on the places: what is laid out has names of the collection
    starts_given : (b : Birth) (g : Buffers) (o : Option (List ℕ)) →
        In h (option_map_or (laid_out (pages_of g.size) (names b.collection g.count)) o []) → h.buffer.collection ≡ b.collection
    starts_given b g None on = absurd on
    starts_given b g (Some starts) on =
        laid_in b.collection (pages_of g.size) (names b.collection g.count) starts
        (λ name there. let r = In-map (λ i. record { collection = b.collection; index = i }) _ name there in
        ap (λ (x : BufferName). x.collection) r.2) h on

    -- by cases: only a root lays out anything, and that is of its own collection
    of_root : (b : Birth) (root : Bool) → In h (cond root (layout pool b.collection (asked (members before b.collection)) out) []) →
        (root && b.collection == h.buffer.collection) ≡ true
    of_root b true on =
        let g : Buffers = asked (members before b.collection) in
        eq-eqb b.collection h.buffer.collection (sym (starts_given b g (places pool (pages_of g.size) g.count out) on))
    of_root b false on = absurd on

    -- by cases on the birth: without one nothing is laid out
    from : (o : Option Birth) → In h (option_map_or (λ (b : Birth).
        cond (is_none b.parent) (layout pool b.collection (asked (members before b.collection)) out) []) o []) →
        option_map_or (λ (b : Birth). is_none b.parent && b.collection == h.buffer.collection) o false ≡ true
    from None on = absurd on
    from (Some b) on = of_root b (is_none b.parent) on

-- a buffer that was placed is one of a collection that was given some
pub placed_given : (pool : ℕ) (marks : Timeline) (h : HeldBuffer) → In h (placed pool marks) →
    is_some (buffers_of marks h.buffer.collection) ≡ true
placed_given pool [] h on = absurd on
placed_given pool (mark ∷ before) h on =
    elim (In-append (layout_at pool before (map (λ h. h.pages) (still_out before (placed pool before))) mark) (placed pool before) h on) [
      | inl new ↦ rw (layout_given pool before (map (λ h. h.pages) (still_out before (placed pool before))) mark h new) refl
      | inr old ↦ was (is_initial before h.buffer.collection mark) (placed_given pool before h old)
    ]
  where
    -- by cases: the collection is given buffers by this mark, or had them
    was : (b : Bool) → is_some (buffers_of before h.buffer.collection) ≡ true →
        is_some (cond b (Some (asked (members before h.buffer.collection))) (buffers_of before h.buffer.collection)) ≡ true
    was true e = refl
    was false e = e
