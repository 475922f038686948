-- The forced steps of renamed nodes.
use Rattle.alike_cores.proofs.Common.{Bool, Buffers, Cause, Ended, Failure, KeepsKeys, List, Loss, MAX_BUFFERS, Member, NodeKey, None}
use Rattle.alike_cores.proofs.Common.{Option, Some, Standing, [], abandoned, ap, asked, cond, cons_option, ending, false, filter, find}
use Rattle.alike_cores.proofs.Common.{first_some, forced, is_ready, is_under, list_any, logical_allocation, map, mark_renamed}
use Rattle.alike_cores.proofs.Common.{member_renamed, nat_lt, not, option_and_then, option_map, option_map_or, outcome, pages_of, places}
use Rattle.alike_cores.proofs.Common.{refl, root_left, same_key, some_strong_live, standing_renamed, sum_by, true, when, ℕ, ◌&&◌, ◌==◌}
use Rattle.alike_cores.proofs.Common.{◌||◌, ◌∙◌, ◌∷◌, ◌≡◌}
use Rattle.std.proofs.Common.{max}
use Rattle.std.specs.List.{list_all}
use Rattle.std.specs.Option.{is_none}
use Rattle.sm_names.specs.Demands.{Demand}
use Rattle.sm_names.specs.Forced.{is_deserted, initial_failure, initial_allocation, logical_failure, is_allocated, is_next_head}
use Rattle.sm_names.specs.Members.{demands, greatest, is_live, is_root, is_settled, reserved, root_unit, some_live, subtree, unit, wanted}
use Rattle.alike_cores.proofs.Renamings.{any-renamed}
use Rattle.forest_store.proofs.quiescence.Forcing.{first_made, when_made}

-- ---- lists whose elements pass alike

-- By the list: the first element that passes is at the same place.
pub find_alike : {A B : Type 0} (p : B → Bool) (q : A → Bool) (f : A → B) → ((x : A) → p (f x) ≡ q x) → (xs : List A) →
    find p (map f xs) ≡ option_map f (find q xs)
find_alike p q f same [] = refl
find_alike p q f same (x ∷ xs) = rw (same x) (
    elim (q x) as (λ (b : Bool). cond b (Some (f x)) (find p (map f xs)) ≡ option_map f (cond b (Some x) (find q xs)))
    [ true ↦ refl | false ↦ find_alike p q f same xs ])

-- By the list: the same elements stay.
pub filter_alike : {A B : Type 0} (p : B → Bool) (q : A → Bool) (f : A → B) → ((x : A) → p (f x) ≡ q x) → (xs : List A) →
    filter p (map f xs) ≡ map f (filter q xs)
filter_alike p q f same [] = refl
filter_alike {B = B} p q f same (x ∷ xs) = rw (same x) (
    elim (q x) as (λ (b : Bool). cond b (f x ∷ filter p (map f xs)) (filter p (map f xs)) ≡ map f (cond b (x ∷ filter q xs) (filter q xs)))
    [ true ↦ ap (λ (l : List B). f x ∷ l) (filter_alike p q f same xs) | false ↦ filter_alike p q f same xs ])

-- By the list.
pub any_alike : {A B : Type 0} (p : B → Bool) (q : A → Bool) (f : A → B) → ((x : A) → p (f x) ≡ q x) → (xs : List A) →
    list_any p (map f xs) ≡ list_any q xs
any_alike p q f same [] = refl
any_alike p q f same (x ∷ xs) = λ i. same x i || any_alike p q f same xs i

-- By the list.
all_alike : {A B : Type 0} (p : B → Bool) (q : A → Bool) (f : A → B) → ((x : A) → p (f x) ≡ q x) → (xs : List A) →
    list_all p (map f xs) ≡ list_all q xs
all_alike p q f same [] = refl
all_alike p q f same (x ∷ xs) = λ i. same x i && all_alike p q f same xs i

-- ---- what is asked of members

-- A member is of the unit iff its head is the key.
unit-renamed : (to : NodeKey → NodeKey) → KeepsKeys to → (head : NodeKey) (ms : List Member) →
    unit (to head) (map (member_renamed to) ms) ≡ map (member_renamed to) (unit head ms)
unit-renamed to keeps head ms =
    filter_alike (λ (m : Member). same_key m.head (to head)) (λ (m : Member). same_key m.head head)
    (member_renamed to) (λ m. keeps m.head head) ms

-- A member is below the top iff the way up has its key.
subtree-renamed : (to : NodeKey → NodeKey) → KeepsKeys to → (top : NodeKey) (ms : List Member) →
    subtree (to top) (map (member_renamed to) ms) ≡ map (member_renamed to) (subtree top ms)
subtree-renamed to keeps top ms =
    filter_alike (is_under (to top)) (is_under top) (member_renamed to) (λ m. any-renamed to keeps top (m.key ∷ m.above)) ms

-- A member is live by its flags.
live-renamed : (to : NodeKey → NodeKey) (ms : List Member) → some_live (map (member_renamed to) ms) ≡ some_live ms
live-renamed to ms = any_alike is_live is_live (member_renamed to) (λ m. refl) ms

-- A member is live and strong by its flags.
pub strong-renamed : (to : NodeKey → NodeKey) (ms : List Member) →
    some_strong_live (map (member_renamed to) ms) ≡ some_strong_live ms
strong-renamed to ms =
    any_alike (λ (m : Member). is_live m && not m.weak) (λ (m : Member). is_live m && not m.weak) (member_renamed to) (λ m. refl) ms

-- A root is a member without a parent.
root-renamed : (to : NodeKey → NodeKey) (m : Member) → is_root (member_renamed to m) ≡ is_root m
root-renamed to m = from m.parent
  where
    -- by cases on the parent
    from : (o : Option NodeKey) → is_none (option_map to o) ≡ is_none o
    from None = refl
    from (Some p) = refl

-- The first root that is left is at the same place.
root_left-renamed : (to : NodeKey → NodeKey) (ms : List Member) →
    root_left (map (member_renamed to) ms) ≡ option_map (member_renamed to) (root_left ms)
root_left-renamed to ms = find_alike (λ (m : Member). is_root m && not m.gone) (λ (m : Member). is_root m && not m.gone) (member_renamed to)
    (λ m. ap (λ (b : Bool). b && not m.gone) (root-renamed to m)) ms

-- What members ask for is no name.
demands-renamed : (to : NodeKey → NodeKey) (ms : List Member) → demands (map (member_renamed to) ms) ≡ demands ms
demands-renamed to [] = refl
demands-renamed to (m ∷ ms) = ap (cons_option (cond m.gone None m.constraints)) (demands-renamed to ms)

-- It is the unit of the root that is left.
root_unit-renamed : (to : NodeKey → NodeKey) → KeepsKeys to → (ms : List Member) →
    root_unit (map (member_renamed to) ms) ≡ map (member_renamed to) (root_unit ms)
root_unit-renamed to keeps ms =
    ap (λ (o : Option Member). option_map_or (λ (root : Member). unit root.key (map (member_renamed to) ms)) o []) (root_left-renamed to ms)
    ∙ from (root_left ms)
  where
    -- by cases on the root
    from : (o : Option Member) →
        option_map_or (λ (root : Member). unit root.key (map (member_renamed to) ms)) (option_map (member_renamed to) o) []
        ≡ map (member_renamed to) (option_map_or (λ (root : Member). unit root.key ms) o [])
    from None = refl
    from (Some root) = unit-renamed to keeps root.key ms

-- what is wanted and camped on by demands
abbrev wanted_of : List Demand → Buffers
wanted_of ds = record {
  count = max (sum_by (λ (d : Demand). d.camping) ds) (greatest (λ d. d.at_least) ds);
  size = greatest (λ d. d.size) ds;
}

-- how many buffers the demands camp on
abbrev camped : List Demand → ℕ
camped ds = sum_by (λ (d : Demand). d.camping) ds

-- It is the sum of what the members of the root unit ask for.
pub asked-renamed : (to : NodeKey → NodeKey) → KeepsKeys to → (ms : List Member) → asked (map (member_renamed to) ms) ≡ asked ms
asked-renamed to keeps ms = ap wanted (root_unit-renamed to keeps ms) ∙ same
  where
    -- since the demands are the same
    same : wanted (map (member_renamed to) (root_unit ms)) ≡ wanted (root_unit ms)
    same = λ i. wanted_of (demands-renamed to (root_unit ms) i)

-- A unit is ready by what its members said.
ready-renamed : (to : NodeKey → NodeKey) → KeepsKeys to → (head : NodeKey) (ms : List Member) →
    is_ready (to head) (map (member_renamed to) ms) ≡ is_ready head ms
ready-renamed to keeps head ms = ap (list_all is_settled) (unit-renamed to keeps head ms)
    ∙ all_alike is_settled is_settled (member_renamed to) (λ m. refl) (unit head ms)

-- What members camp on is no name.
reserved-renamed : (to : NodeKey → NodeKey) (ms : List Member) → reserved (map (member_renamed to) ms) ≡ reserved ms
reserved-renamed to ms =
    ap camped (ap demands (filter_alike (λ (m : Member). m.allocated) (λ (m : Member). m.allocated) (member_renamed to) (λ m. refl) ms)
    ∙ demands-renamed to (filter (λ (m : Member). m.allocated) ms))

-- ---- the forced steps

-- No member at or below it is live.
deserted-renamed : (to : NodeKey → NodeKey) → KeepsKeys to → (ms : List Member) (m : Member) →
    is_deserted (map (member_renamed to) ms) (member_renamed to m) ≡ is_deserted ms m
deserted-renamed to keeps ms m =
    let lives : some_live (subtree (to m.key) (map (member_renamed to) ms)) ≡ some_live (subtree m.key ms) =
    ap some_live (subtree-renamed to keeps m.key ms) ∙ live-renamed to (subtree m.key ms) in
    λ i. (root-renamed to m i || m.attached) && (not m.gone && not (lives i))

-- By the two cases of the failure.
outcome-renamed : (to : NodeKey → NodeKey) (head : NodeKey) (why : Option Failure) →
    outcome (to head) why ≡ mark_renamed to (outcome head why)
outcome-renamed to head None = refl
outcome-renamed to head (Some why) = refl

-- The first deserted member is at the same place.
ending-renamed : (to : NodeKey → NodeKey) → KeepsKeys to → (s : Standing) →
    ending (standing_renamed to s) ≡ option_map (mark_renamed to) (ending s)
ending-renamed to keeps s =
    ap (option_map (λ (top : Member). Ended top.key))
    (find_alike (is_deserted (map (member_renamed to) s.members)) (is_deserted s.members) (member_renamed to)
    (deserted-renamed to keeps s.members) s.members)
    ∙ from (find (is_deserted s.members) s.members)
  where
    -- by cases on the member
    from : (o : Option Member) → option_map (λ (top : Member). Ended top.key) (option_map (member_renamed to) o)
        ≡ option_map (mark_renamed to) (option_map (λ (top : Member). Ended top.key) o)
    from None = refl
    from (Some top) = refl

-- It depends on the root that is left and on flags.
abandoned-renamed : (to : NodeKey → NodeKey) (s : Standing) →
    abandoned (standing_renamed to s) ≡ option_map (mark_renamed to) (abandoned s)
abandoned-renamed to s =
    (λ i. option_and_then (λ (root : Member). when (root.allocated && (not (strong-renamed to s.members i) && not s.strong_open))
    (Loss root.key Cause.NoStrong))
    (root_left-renamed to s.members i))
    ∙ from (root_left s.members)
  where
    -- by cases on the root: the test reads flags alone
    from : (o : Option Member) →
        option_and_then (λ (root : Member). when (root.allocated && (not (some_strong_live s.members) && not s.strong_open))
        (Loss root.key Cause.NoStrong))
        (option_map (member_renamed to) o)
        ≡ option_map (mark_renamed to) (option_and_then
        (λ (root : Member). when (root.allocated && (not (some_strong_live s.members) && not s.strong_open))
        (Loss root.key Cause.NoStrong)) o)
    from None = refl
    from (Some root) =
        when_made (mark_renamed to) (root.allocated && (not (some_strong_live s.members) && not s.strong_open))
        (Loss root.key Cause.NoStrong)

-- The reasons are numbers and flags.
failure-renamed : (to : NodeKey → NodeKey) (pool : ℕ) (s : Standing) (b : Buffers) →
    initial_failure pool (standing_renamed to s) b ≡ initial_failure pool s b
failure-renamed to pool s b = λ i. first_some (
    when (not (strong-renamed to s.members i)) Failure.NoStrong
    ∷ when (b.count == 0) Failure.NoBuffers
    ∷ when (nat_lt MAX_BUFFERS b.count) Failure.TooManyBuffers
    ∷ when (is_none (places pool (pages_of b.size) b.count s.held)) Failure.PoolFull
    ∷ [])

-- The root unit is ready alike, and fails for the same reason.
first-renamed : (to : NodeKey → NodeKey) → KeepsKeys to → (pool : ℕ) (s : Standing) →
    initial_allocation pool (standing_renamed to s) ≡ option_map (mark_renamed to) (initial_allocation pool s)
first-renamed to keeps pool s =
    ap (option_and_then (λ (root : Member). when (not root.allocated && is_ready root.key (map (member_renamed to) s.members))
    (outcome root.key (initial_failure pool (standing_renamed to s) (asked (map (member_renamed to) s.members))))))
    (root_left-renamed to s.members)
    ∙ from (root_left s.members)
  where
    -- by cases on the root: its unit is ready and fails as under the new names
    from : (o : Option Member) →
        option_and_then (λ (root : Member). when (not root.allocated && is_ready root.key (map (member_renamed to) s.members))
        (outcome root.key (initial_failure pool (standing_renamed to s) (asked (map (member_renamed to) s.members)))))
        (option_map (member_renamed to) o)
        ≡ option_map (mark_renamed to) (option_and_then (λ (root : Member). when (not root.allocated && is_ready root.key s.members)
        (outcome root.key (initial_failure pool s (asked s.members)))) o)
    from None = refl
    from (Some root) =
        (λ i. when (not root.allocated && ready-renamed to keeps root.key s.members i)
        (outcome (to root.key) (failure-renamed to pool s (asked-renamed to keeps s.members i) i)))
        ∙ ap (when (not root.allocated && is_ready root.key s.members))
        (outcome-renamed to root.key (initial_failure pool s (asked s.members)))
        ∙ when_made (mark_renamed to) (not root.allocated && is_ready root.key s.members)
        (outcome root.key (initial_failure pool s (asked s.members)))

-- The member of that key has its flag.
allocated-renamed : (to : NodeKey → NodeKey) → KeepsKeys to → (ms : List Member) (key : NodeKey) →
    is_allocated (map (member_renamed to) ms) (to key) ≡ is_allocated ms key
allocated-renamed to keeps ms key =
    any_alike (λ (m : Member). m.allocated && same_key m.key (to key))
    (λ (m : Member). m.allocated && same_key m.key key) (member_renamed to)
    (λ m. ap (λ (b : Bool). m.allocated && b) (keeps m.key key)) ms

-- A head is next by its flags, and by those of its parent.
next-renamed : (to : NodeKey → NodeKey) → KeepsKeys to → (ms : List Member) (m : Member) →
    is_next_head (map (member_renamed to) ms) (member_renamed to m) ≡ is_next_head ms m
next-renamed to keeps ms m =
    λ i. m.attached && (not m.gone && (not m.allocated && (above m.parent i && ready-renamed to keeps m.key ms i)))
  where
    -- by cases on the parent: it is allocated as under its new key
    above : (o : Option NodeKey) →
        option_map_or (is_allocated (map (member_renamed to) ms)) (option_map to o) false ≡ option_map_or (is_allocated ms) o false
    above None = refl
    above (Some p) = allocated-renamed to keeps ms p

-- The first head that is next is at the same place.
later-renamed : (to : NodeKey → NodeKey) → KeepsKeys to → (s : Standing) →
    logical_allocation (standing_renamed to s) ≡ option_map (mark_renamed to) (logical_allocation s)
later-renamed to keeps s = by s.buffers
  where
    -- by cases on the head: its unit fails for the same reason
    from : (b : Buffers) (o : Option Member) →
        option_map (λ (head : Member). outcome head.key (logical_failure (demands (unit head.key (map (member_renamed to) s.members)))
        (reserved (map (member_renamed to) s.members)) b)) (option_map (member_renamed to) o)
        ≡ option_map (mark_renamed to) (option_map (λ (head : Member). outcome head.key (logical_failure (demands (unit head.key s.members))
        (reserved s.members) b)) o)
    from b None = refl
    from b (Some head) =
        let asks : demands (unit (to head.key) (map (member_renamed to) s.members)) ≡ demands (unit head.key s.members) =
        ap demands (unit-renamed to keeps head.key s.members) ∙ demands-renamed to (unit head.key s.members) in
        (λ i. Some (outcome (to head.key) (logical_failure (asks i) (reserved-renamed to s.members i) b)))
        ∙ ap Some (outcome-renamed to head.key (logical_failure (demands (unit head.key s.members)) (reserved s.members) b))

    -- by cases on the buffers
    by : (o : Option Buffers) →
        option_and_then (λ (b : Buffers). option_map
        (λ (head : Member). outcome head.key (logical_failure (demands (unit head.key (map (member_renamed to) s.members)))
        (reserved (map (member_renamed to) s.members)) b)) (find (is_next_head (map (member_renamed to) s.members))
        (map (member_renamed to) s.members))) o
        ≡ option_map (mark_renamed to) (option_and_then (λ (b : Buffers). option_map (λ (head : Member). outcome head.key
        (logical_failure (demands (unit head.key s.members)) (reserved s.members) b)) (find (is_next_head s.members) s.members)) o)
    by None = refl
    by (Some b) =
        ap (option_map (λ (head : Member). outcome head.key (logical_failure (demands (unit head.key (map (member_renamed to) s.members)))
        (reserved (map (member_renamed to) s.members)) b)))
        (find_alike (is_next_head (map (member_renamed to) s.members)) (is_next_head s.members)
        (member_renamed to) (next-renamed to keeps s.members) s.members)
        ∙ from b (find (is_next_head s.members) s.members)

-- the next step that is forced
pub forced-renamed : (to : NodeKey → NodeKey) → KeepsKeys to → (pool : ℕ) (s : Standing) →
    forced pool (standing_renamed to s) ≡ option_map (mark_renamed to) (forced pool s)
forced-renamed to keeps pool s =
    (λ i. first_some (ending-renamed to keeps s i ∷ abandoned-renamed to s i ∷ first-renamed
    to keeps pool s i ∷ later-renamed to keeps s i ∷ []))
    ∙ first_made (mark_renamed to) (ending s ∷ abandoned s ∷ initial_allocation pool s ∷ logical_allocation s ∷ [])
