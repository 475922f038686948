-- A buffer that gives its pages back leaves those of the others in order.
use Rattle.forest_steps.proofs.Common.{ℕ, ◌+◌, ◌≡◌, ◌<◌, refl, ap, sym, ◌∙◌, subst, Bool, true, false, ◌&&◌, ◌==◌, nat_lt, cond}
use Rattle.forest_steps.proofs.Common.{List, [], ◌∷◌, ◌++◌, length, take, drop, get_or, inl, inr, arith, eq-eqb, not-true, filter}
use Rattle.forest_steps.proofs.Common.{Interval, and_both, and_left, either_way, HeldBuffer, by_page, pages_held, list_any, or_left}
use Rattle.forest_steps.proofs.Common.{or_right, list_any-append, Contains-from_any, Contains, append_assoc, at_drop_more, in_order}
use Rattle.forest_steps.proofs.Common.{any_sorted, starts_differ, parted-sorted, parted-in_order, or_none_left, or_none_right}
use Rattle.buffer_pool.specs.Holdings.{without}
use Rattle.forest_store.proofs.lists.ByPage.{put_in, front, behind}
use Rattle.forest_store.specs.Starts.{begins_with}
use Rattle.forest_store.proofs.lists.SameIntervals.{Alike-shift}
use Rattle.std.proofs.lemmas.List.Elements.{filter_more}

-- ---- one that is removed

-- where none begins at the page, all stay
kept_all : (x : Interval) (is : List Interval) → list_any (begins_with x) is ≡ false → without x.start is ≡ is
kept_all x [] none = refl
kept_all x (i ∷ is) none =
    let other : (i.start == x.start) ≡ false = or_none_left _ _ none in
    rw other (ap (λ l. i ∷ l) (kept_all x is (or_none_right _ _ none)))

-- an interval that was put among others is removed again, and these stay
put_removed : (x : Interval) (is : List Interval) → list_any (begins_with x) is ≡ false → without x.start (put_in x is) ≡ is
put_removed x [] none =
    let here : (x.start == x.start) ≡ true = eq-eqb _ _ refl in
    rw here refl
put_removed x (i ∷ is) none =
    let here : (x.start == x.start) ≡ true = eq-eqb _ _ refl in
    let other : (i.start == x.start) ≡ false = or_none_left _ _ none in
    elim (either_way (nat_lt i.start x.start)) [
      | inl e ↦ ap (without x.start) (behind x i is e) ∙ rw other (ap (λ l. i ∷ l) (put_removed x is (or_none_right _ _ none)))
      | inr e ↦ ap (without x.start) (front x i is e) ∙ rw here (kept_all x (i ∷ is) none)
    ]

-- ---- buffers

-- the pages of buffers, one of which is shown
pages_around : (front rest : List HeldBuffer) (h : HeldBuffer) (others : List Interval) →
    pages_held (front ++ h ∷ rest) ++ others ≡ pages_held front ++ h.pages ∷ (pages_held rest ++ others)
pages_around [] rest h others = refl
pages_around (g ∷ front) rest h others = ap (λ l. g.pages ∷ l) (pages_around front rest h others)

-- by induction over the first list
pages_beside : (front rest : List HeldBuffer) (others : List Interval) →
    pages_held (front ++ rest) ++ others ≡ pages_held front ++ (pages_held rest ++ others)
pages_beside [] rest others = refl
pages_beside (g ∷ front) rest others = ap (λ l. g.pages ∷ l) (pages_beside front rest others)

-- without its interval those of the others are held
pub one_returned : (size : ℕ) (held : List Interval) (front rest : List HeldBuffer) (h : HeldBuffer) (others : List Interval) →
    in_order 0 size held ≡ true →
    held ≡ by_page (pages_held (front ++ h ∷ rest) ++ others) →
    without h.pages.start held ≡ by_page (pages_held (front ++ rest) ++ others)
one_returned size held front rest h others order holds =
    let is : held ≡ by_page (pages_held front ++ h.pages ∷ (pages_held rest ++ others)) = holds
    ∙ ap by_page (pages_around front rest h others) in
    let alike = Alike-shift (pages_held front) (h.pages ∷ []) (pages_held rest ++ others) in
    let parted : starts_differ (pages_held front ++ h.pages ∷ (pages_held rest ++ others)) ≡ true =
    sym (parted-sorted (pages_held front ++ h.pages ∷ (pages_held rest ++ others)))
    ∙ (ap starts_differ (sym is) ∙ parted-in_order 0 size held order) in
    ap (without h.pages.start) (is ∙ alike.sorted parted)
    ∙ (put_removed h.pages (by_page (pages_held front ++ (pages_held rest ++ others)))
    (any_sorted (begins_with h.pages) (pages_held front ++ (pages_held rest ++ others))
    ∙ not-true _ (and_left _ _ (sym alike.parted ∙ parted)))
    ∙ ap by_page (sym (pages_beside front rest others)))

-- an interval is told by its start and its pages
abbrev same : Interval → Interval → Bool
same a b = a.start == b.start && a.pages == b.pages

-- each field is equal
same-true : (a b : Interval) → same a b ≡ true → a ≡ b
same-true a b h = grind arith

-- what stands between two lists is among them
among : (x : Interval) (xs ys : List Interval) → list_any (same x) (xs ++ x ∷ ys) ≡ true
among x xs ys = list_any-append (same x) xs (x ∷ ys)
    ∙ or_right _ _ (or_left _ _ (and_both _ _ (eq-eqb x.start _ refl) (eq-eqb x.pages _ refl)))

-- the pool holds the pages of a buffer
pub holds_one : (held : List Interval) (front rest : List HeldBuffer) (h : HeldBuffer) (others : List Interval) →
    held ≡ by_page (pages_held (front ++ h ∷ rest) ++ others) → Contains held h.pages
holds_one held front rest h others is =
    subst (λ (l : List Interval). Contains l h.pages) (sym (is ∙ ap by_page (pages_around front rest h others)))
    (Contains-from_any same-true h.pages (by_page (pages_held front ++ h.pages ∷ (pages_held rest ++ others)))
    (any_sorted (same h.pages) (pages_held front ++ h.pages ∷ (pages_held rest ++ others))
    ∙ among h.pages (pages_held front) (pages_held rest ++ others)))

-- the loop handles one more buffer
pub kept_here : (out : HeldBuffer → Bool) (held : List HeldBuffer) (i : ℕ) (h : HeldBuffer) → i < length held →
    filter out (take i held) ++ drop i held ≡ filter out (take i held) ++ get_or held i h ∷ drop (i + 1) held
kept_here out held i h within = at_drop_more (λ l. filter out (take i held) ++ l) held i h within

-- and past it
pub kept_past : (out : HeldBuffer → Bool) (held : List HeldBuffer) (i : ℕ) (h : HeldBuffer) → i < length held →
    filter out (take (i + 1) held) ++ drop (i + 1) held
    ≡ cond (out (get_or held i h)) (filter out (take i held) ++ get_or held i h ∷ drop (i + 1) held)
    (filter out (take i held) ++ drop (i + 1) held)
kept_past out held i h within =
    ap (λ l. l ++ drop (i + 1) held) (filter_more out held i h within)
    ∙ (append_assoc (filter out (take i held)) (cond (out (get_or held i h)) (get_or held i h ∷ []) []) (drop (i + 1) held)
    ∙ from (out (get_or held i h)))
  where
    -- by cases: the buffer passes, or is left out
    from : (b : Bool) → filter out (take i held) ++ (cond b (get_or held i h ∷ []) [] ++ drop (i + 1) held)
        ≡ cond b (filter out (take i held) ++ get_or held i h ∷ drop (i + 1) held)
        (filter out (take i held) ++ drop (i + 1) held)
    from true = refl
    from false = refl
