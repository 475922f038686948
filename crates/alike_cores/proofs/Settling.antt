-- What a change forces in renamed collections, beside the same pages.
use Rattle.alike_cores.proofs.Common.{Allocated, Bool, Buffers, Called, Collection, CountsAlike, Ended, Failure, Forces, Handles, In}
use Rattle.alike_cores.proofs.Common.{Interval, Keeps, KeepsIds, KeepsKeys, List, Loss, MAX_BUFFERS, Mark, Member, Mixed, Mixes, NodeKey}
use Rattle.alike_cores.proofs.Common.{None, Option, Rests, Rise, Settles, Some, Standing, Swaps, [], abandoned, after_allocation, ap}
use Rattle.alike_cores.proofs.Common.{arith, asked, collection_renamed, cond, either_way, ending, eqb-true, false, false_if, filter}
use Rattle.alike_cores.proofs.Common.{first_some, flat_map, forced, ids, inl, inr, is_ready, is_root_of, laid_out, list_any}
use Rattle.alike_cores.proofs.Common.{logical_allocation, made, map, members_of, names, nat_lt, not, option_and_then, option_map_or}
use Rattle.alike_cores.proofs.Common.{outcome, pages_in, pages_of, put, refl, root_left, some-injective, some_strong_live, standing}
use Rattle.alike_cores.proofs.Common.{subst, sym, undated, when, with_nodes, ℕ, ◌&&◌, ◌++◌, ◌<◌, ◌==◌, ◌||◌, ◌∙◌, ◌∷◌, ◌≡◌}
use Rattle.std.proofs.Common.{is_none}
use Rattle.std.proofs.lemmas.Bool.{ltb-true}
use Rattle.std.specs.List.{AllByRecursion}
use Rattle.sm_names.proofs.ListLaws.{filter-all}
use Rattle.sm_names.proofs.PlaceLaws.{places_same}
use Rattle.alike_cores.proofs.Forcings.{filter_alike}
use Rattle.alike_cores.proofs.Settlings.{pages-renamed, settles-renamed}
use Rattle.alike_cores.proofs.Mixing.{any-mixed, mixed-back, mixed-filter, mixed-flat_map, mixed-map, mixed-same}

-- ---- the pages of the others

-- the same pages, in whatever order
abbrev pub SamePages : List Interval → List Interval → Type 0
SamePages others again = (test : Interval → Bool) → list_any test others ≡ list_any test again

-- Page by page of those in front.
pages_behind : (front others again : List Interval) → SamePages others again → SamePages (front ++ others) (front ++ again)
pages_behind [] others again same test = same test
pages_behind (p ∷ front) others again same test = ap (λ (b : Bool). test p || b) (pages_behind front others again same test)

-- Only the room for the buffers of a root depends on the pages of the others.
pub forced-others : (pool : ℕ) (handles : Handles) (others again : List Interval) → SamePages others again → (c : Collection) →
    forced pool (standing handles others c) ≡ forced pool (standing handles again c)
forced-others pool handles others again same c =
    ap (λ (o : Option Mark).
    first_some (ending here ∷ abandoned here ∷ o ∷ logical_allocation here ∷ []))
    (ap (λ (room : Option (List ℕ)). option_and_then (λ (root : Member).
    when (not root.allocated && is_ready root.key ms) (outcome root.key (first_some (
    when (not (some_strong_live ms)) Failure.NoStrong
    ∷ when (want.count == 0) Failure.NoBuffers
    ∷ when (nat_lt MAX_BUFFERS want.count) Failure.TooManyBuffers
    ∷ when (is_none room) Failure.PoolFull
    ∷ [])))) (root_left ms))
    (places_same pool (pages_of want.size) want.count (pages_in c ++ others) (pages_in c ++ again)
    (pages_behind (pages_in c) others again same)))
  where
    here : Standing
    here = standing handles others c

    ms : List Member
    ms = members_of c.nodes

    want : Buffers
    want = asked (members_of c.nodes)

-- And where they are laid out.
pub made-others : (pool : ℕ) (others again : List Interval) → SamePages others again → (mark : Mark) (c : Collection) →
    made pool others mark c ≡ made pool again mark c
made-others pool others again same (Called client reply call) c = refl
made-others pool others again same (Loss origin cause) c = refl
made-others pool others again same (Ended top) c = refl
made-others pool others again same (Allocated head) c =
    ap (λ (room : Option (List ℕ)).
    cond (is_root_of c head)
    (record {
      id = c.id;
      nodes = after_allocation head c.nodes;
      buffers = Some (asked (members_of c.nodes));
      held = option_map_or (laid_out (pages_of (asked (members_of c.nodes)).size) (names c.id (asked (members_of c.nodes)).count)) room []
          ++ c.held;
    })
    (with_nodes (after_allocation head) c))
    (places_same pool (pages_of (asked (members_of c.nodes)).size) (asked (members_of c.nodes)).count (pages_in c ++ others)
    (pages_in c ++ again) (pages_behind (pages_in c) others again same))

-- Step by step.
settles-others : (pool : ℕ) (handles : Handles) (others again : List Interval) → SamePages others again → (c last : Collection) →
    Settles pool handles others c last → Settles pool handles again c last
settles-others pool handles others again same c _ (Rests _ none) =
    Rests c (sym (forced-others pool handles others again same c) ∙ none)
settles-others pool handles others again same c _ (Forces _ last mark some next) =
    Forces c last mark (sym (forced-others pool handles others again same c) ∙ some)
    (subst (λ (d : Collection). Settles pool handles again d last) (made-others pool others again same mark c)
    (settles-others pool handles others again same (made pool others mark c) last next))

-- ---- one end

-- Each forced step is one, so that the collection in which none applies is one.
settles-once : (pool : ℕ) (handles : Handles) (others : List Interval) (c one other : Collection) →
    Settles pool handles others c one → Settles pool handles others c other → one ≡ other
settles-once pool handles others c _ _ (Rests _ none) (Rests _ again) = refl
settles-once pool handles others c _ _ (Rests _ none) (Forces _ last mark some next) = let no : None ≡ Some mark = sym none ∙ some in cc
settles-once pool handles others c _ _ (Forces _ last mark some next) (Rests _ none) = let no : None ≡ Some mark = sym none ∙ some in cc
settles-once pool handles others c _ _ (Forces _ last mark some next) (Forces _ other again also more) =
    settles-once pool handles others (made pool others mark c) last other next
    (subst (λ (m : Mark). Settles pool handles others (made pool others m c) other)
    (some-injective again mark (sym also ∙ some)) more)

-- Collections that are alike settle to collections that are alike.
pub settled-alike : (to : NodeKey → NodeKey) (id : ℕ → ℕ) → KeepsKeys to → (pool : ℕ) (before after : Handles) →
    CountsAlike id before after → (others again : List Interval) → SamePages others again → (c d last end : Collection) →
    collection_renamed to id c ≡ undated d → Settles pool before others c last → Settles pool after again d end →
    collection_renamed to id last ≡ undated end
settled-alike to id keeps pool before after counts others again same c d last end start first second =
    settles-once pool after again (undated d) (collection_renamed to id last) (undated end)
    (settles-others pool after others again same (undated d) (collection_renamed to id last)
    (subst (λ (e : Collection). Settles pool after others e (collection_renamed to id last)) start
    (settles-renamed to id keeps pool before after counts others c last first)))
    (settles-renamed (λ key. key) (λ i. i) (λ a b. refl) pool after after (λ b strength. refl) again d end second)

-- ---- the collections beside one

-- Renamed collections hold the same pages.
pub pages-flat : (to : NodeKey → NodeKey) (id : ℕ → ℕ) (cs : List Collection) →
    flat_map pages_in (map (collection_renamed to id) cs) ≡ flat_map pages_in cs
pages-flat to id [] = refl
pages-flat to id (c ∷ cs) = λ i. pages-renamed id c.held i ++ pages-flat to id cs i

-- Those beside the collection of the new id hold the pages of those beside the old one.
pub beside-alike : (to : NodeKey → NodeKey) (id : ℕ → ℕ) → KeepsIds id → (cs ds : List Collection) →
    Mixed (map (collection_renamed to id) cs) (map undated ds) → (i : ℕ) →
    SamePages (flat_map pages_in (filter (λ (c : Collection). not (c.id == i)) cs))
    (flat_map pages_in (filter (λ (c : Collection). not (c.id == id i)) ds))
beside-alike to id ids cs ds alike i test =
    ap (list_any test) (sym (pages-flat to id (filter (λ (c : Collection). not (c.id == i)) cs))
    ∙ ap (flat_map pages_in) (sym (filter_alike (λ (c : Collection). not (c.id == id i)) (λ (c : Collection). not (c.id == i))
    (collection_renamed to id) (λ c. ap not (ids c.id i)) cs)))
    ∙ (any-mixed test (flat_map pages_in (filter (λ (c : Collection). not (c.id == id i)) (map (collection_renamed to id) cs)))
    (flat_map pages_in (filter (λ (c : Collection). not (c.id == id i)) (map undated ds)))
    (mixed-flat_map pages_in (filter (λ (c : Collection). not (c.id == id i)) (map (collection_renamed to id) cs))
    (filter (λ (c : Collection). not (c.id == id i)) (map undated ds))
    (mixed-filter (λ (c : Collection). not (c.id == id i)) (map (collection_renamed to id) cs) (map undated ds) alike))
    ∙ ap (list_any test) (ap (flat_map pages_in) (filter_alike (λ (c : Collection). not (c.id == id i))
    (λ (c : Collection). not (c.id == id i)) undated (λ c. refl) ds)
    ∙ pages-flat (λ key. key) (λ k. k) (filter (λ (c : Collection). not (c.id == id i)) ds)))

-- ---- a collection that is put

-- Each later collection has a greater id.
above : (n : ℕ) (cs : List Collection) → AllByRecursion (λ m. n < m) (ids cs) → (c : Collection) → In c cs → n < c.id
above n [] all c there = absurd there
above n (d ∷ cs) all c (inl is) = subst (λ (e : Collection). n < e.id) (sym is) all.0
above n (d ∷ cs) all c (inr on) = above n cs all.1 c on

-- so that none of them has one that is not greater
none-above : (n k : ℕ) → (cs : List Collection) → AllByRecursion (λ m. n < m) (ids cs) → ((m : ℕ) → n < m → (m == k) ≡ false) →
    filter (λ (c : Collection). not (c.id == k)) cs ≡ cs
none-above n k cs all apart =
    filter-all (λ (c : Collection). not (c.id == k)) cs (λ c there. ap not (apart c.id (above n cs all c there)))

-- It stands beside all others, wherever its id puts it.
pub put-mixed : (new : Collection) (cs : List Collection) → Rise (ids cs) →
    Mixed (put new cs) (new ∷ filter (λ (c : Collection). not (c.id == new.id)) cs)
put-mixed new [] rise = mixed-same (new ∷ [])
put-mixed new (c ∷ cs) rise =
    elim (either_way (c.id == new.id)) [
      | inl same ↦
          let is : c.id ≡ new.id = eqb-true c.id new.id same in
          rw (
            same,
            none-above c.id new.id cs rise.0 (λ m less. false_if (m == new.id) (λ e.
                let equal : m ≡ new.id = eqb-true m new.id e in omega arith)),
          )
          (mixed-same (new ∷ cs))
      | inr apart ↦ elim (either_way (nat_lt new.id c.id)) [
        | inl before ↦
            let less : new.id < c.id = ltb-true new.id c.id before in
            rw (
              apart,
              before,
              none-above c.id new.id cs rise.0 (λ m more. false_if (m == new.id) (λ e.
                  let equal : m ≡ new.id = eqb-true m new.id e in omega arith)),
            )
            (mixed-same (new ∷ c ∷ cs))
        | inr behind ↦
            rw (apart, behind)
            (Mixes (c ∷ put new cs) (c ∷ new ∷ filter (λ (d : Collection). not (d.id == new.id)) cs)
            (new ∷ c ∷ filter (λ (d : Collection). not (d.id == new.id)) cs)
            (Keeps c (put new cs) (new ∷ filter (λ (d : Collection). not (d.id == new.id)) cs) (put-mixed new cs rise.1))
            (Swaps c new (filter (λ (d : Collection). not (d.id == new.id)) cs)))
      ]
    ]

-- Collections that are alike are put beside collections that are alike.
pub put-alike : (to : NodeKey → NodeKey) (id : ℕ → ℕ) → KeepsIds id → (new again : Collection) →
    collection_renamed to id new ≡ undated again → (cs ds : List Collection) → Rise (ids cs) → Rise (ids ds) →
    Mixed (map (collection_renamed to id) cs) (map undated ds) →
    Mixed (map (collection_renamed to id) (put new cs)) (map undated (put again ds))
put-alike to id ids_kept new again same cs ds rise rises alike =
    Mixes (map (collection_renamed to id) (put new cs))
    (map (collection_renamed to id) (new ∷ filter (λ (c : Collection). not (c.id == new.id)) cs))
    (map undated (put again ds))
    (mixed-map (collection_renamed to id) (put new cs) (new ∷ filter (λ (c : Collection). not (c.id == new.id)) cs)
    (put-mixed new cs rise))
    (Mixes (map (collection_renamed to id) (new ∷ filter (λ (c : Collection). not (c.id == new.id)) cs))
    (map undated (again ∷ filter (λ (c : Collection). not (c.id == again.id)) ds))
    (map undated (put again ds)) others
    (mixed-map undated (again ∷ filter (λ (c : Collection). not (c.id == again.id)) ds) (put again ds)
    (mixed-back (put again ds) (again ∷ filter (λ (c : Collection). not (c.id == again.id)) ds) (put-mixed again ds rises))))
  where
    -- the ids are alike
    its_id : id new.id ≡ again.id
    its_id = ap (λ (c : Collection). c.id) same

    -- the new one is alike, and so are the others
    others : Mixed (map (collection_renamed to id) (new ∷ filter (λ (c : Collection). not (c.id == new.id)) cs))
        (map undated (again ∷ filter (λ (c : Collection). not (c.id == again.id)) ds))
    others =
        subst (λ (l : List Collection). Mixed (collection_renamed to id new ∷ l)
        (undated again ∷ map undated (filter (λ (c : Collection). not (c.id == again.id)) ds)))
        (filter_alike (λ (c : Collection). not (c.id == again.id)) (λ (c : Collection). not (c.id == new.id)) (collection_renamed to id)
        (λ c. ap (λ (k : ℕ). not (id c.id == k)) (sym its_id) ∙ ap not (ids_kept c.id new.id)) cs)
        (subst (λ (l : List Collection). Mixed
        (collection_renamed to id new ∷ filter (λ (c : Collection). not (c.id == again.id)) (map (collection_renamed to id) cs))
        (undated again ∷ l))
        (filter_alike (λ (c : Collection). not (c.id == again.id)) (λ (c : Collection). not (c.id == again.id)) undated (λ c. refl) ds)
        (subst (λ (e : Collection). Mixed
        (collection_renamed to id new ∷ filter (λ (c : Collection). not (c.id == again.id)) (map (collection_renamed to id) cs))
        (e ∷ filter (λ (c : Collection). not (c.id == again.id)) (map undated ds))) same
        (Keeps (collection_renamed to id new)
        (filter (λ (c : Collection). not (c.id == again.id)) (map (collection_renamed to id) cs))
        (filter (λ (c : Collection). not (c.id == again.id)) (map undated ds))
        (mixed-filter (λ (c : Collection). not (c.id == again.id)) (map (collection_renamed to id) cs) (map undated ds) alike))))
