-- The buffers that a Take opens, one after another.
use Rattle.core_state.proofs.Common.{Bool, BufferName, Buffers, Collection, In-find, List, None, Option, Some, State, Strength, [], ap}
use Rattle.core_state.proofs.Common.{arith, buffers_in, collection_at, cond, eqb-true, false, filter, is_doomed, list_any, map}
use Rattle.core_state.proofs.Common.{members_of, not, option_map_or, range_with_len, refl, set_of, some_strong_live, suc, sum_by-cons}
use Rattle.core_state.proofs.Common.{to_open_in, total, true, ℕ, ◌&&◌, ◌+◌, ◌-◌, ◌<◌, ◌==◌, ◌^◌, ◌||◌, ◌∙◌, ◌∷◌, ◌≡◌, ◌≤◌}
use Rattle.std.proofs.Common.{◌*◌, ◌%◌}
use Rattle.std.proofs.Math.Nat.{pow-succ'}
use Rattle.std.proofs.Math.Pow.{pow_mono}
use Rattle.forest_store.specs.Settling.{buffer_names}

-- a strong node of the collection is live
abbrev pub strong_live_in : State → ℕ → Bool
strong_live_in s id = option_map_or (λ (c : Collection). some_strong_live (members_of c.nodes)) (collection_at s.forest id) false

-- the buffer is not doomed
abbrev pub keeps_buffer : State → Bool → BufferName → Bool
keeps_buffer s strong_live b = not (is_doomed (total s.holds b Strength.Strong) strong_live)

-- those of n buffers that are not doomed, from this one on
abbrev pub kept_from : State → ℕ → Bool → ℕ → ℕ → List BufferName
kept_from s id strong_live i n =
    filter (keeps_buffer s strong_live) (map (λ i. record { collection = id; index = i }) (range_with_len i (n - i)))

-- all that are not doomed are opened
pub all_to_open : (s : State) (id : ℕ) (given : Buffers) → buffers_in s id ≡ Some given →
    kept_from s id (strong_live_in s id) 0 given.count ≡ to_open_in s id
all_to_open s id given there =
    by (collection_at s.forest id) (λ c is. eqb-true c.id id (In-find (λ (x : Collection). x.id == id) s.forest.collections c is).1) there
  where
    -- by cases: a collection that is not there has no buffers
    by : (o : Option Collection) → ((c : Collection) → o ≡ Some c → c.id ≡ id) →
        option_map_or (λ (c : Collection). c.buffers) o None ≡ Some given →
        kept_from s id (option_map_or (λ (c : Collection). some_strong_live (members_of c.nodes)) o false) 0 given.count
        ≡ option_map_or (λ (c : Collection). filter (keeps_buffer s (some_strong_live (members_of c.nodes))) (buffer_names c)) o []
    by None found is = absurd (cc)
    by (Some c) found is = let whole : given.count - 0 ≡ given.count = omega arith in rw (is, found c refl, whole) refl

-- the next one, and those after it
next_kept : (s : State) (id : ℕ) (strong_live : Bool) (i n : ℕ) → i < n →
    let name : BufferName = record { collection = id; index = i } in
    let on : List BufferName = kept_from s id strong_live (i + 1) n in
    kept_from s id strong_live i n ≡ cond (keeps_buffer s strong_live name) (name ∷ on) on
next_kept s id strong_live i n more =
    let left : n - i ≡ suc (n - (i + 1)) = omega arith in
    ap (λ k. filter (keeps_buffer s strong_live) (map (λ i. record { collection = id; index = i }) (range_with_len i k))) left

-- one passes the test exactly if the next one does, or one of those after it
pub next_passes : (test : BufferName → Bool) (s : State) (id : ℕ) (strong_live : Bool) (i n : ℕ) → i < n →
    let name : BufferName = record { collection = id; index = i } in
    list_any test (kept_from s id strong_live i n) ≡ ((keeps_buffer s strong_live name && test name) || list_any test
    (kept_from s id strong_live (i + 1) n))
next_passes test s id strong_live i n more =
    ap (list_any test) (next_kept s id strong_live i n more) ∙ by (keeps_buffer s strong_live (record { collection = id; index = i }))
  where
    -- by cases: the next one is kept, or left out
    by : (b : Bool) → let name : BufferName =
        record { collection = id; index = i } in let on : List BufferName = kept_from s id strong_live (i + 1) n in
        list_any test (cond b (name ∷ on) on) ≡ ((b && test name) || list_any test on)
    by true = refl
    by false = refl

-- the next one adds its bit, if it is not doomed
pub next_bit : (s : State) (id : ℕ) (strong_live : Bool) (i n : ℕ) → i < n →
    set_of (kept_from s id strong_live i n)
    ≡ cond (keeps_buffer s strong_live (record { collection = id; index = i })) (2 ^ i) 0 + set_of (kept_from s id strong_live (i + 1) n)
next_bit s id strong_live i n more =
    ap set_of (next_kept s id strong_live i n more) ∙ by (keeps_buffer s strong_live (record { collection = id; index = i }))
  where
    -- by cases: the next one is kept and adds its bit, or left out
    by : (b : Bool) → let name : BufferName =
        record { collection = id; index = i } in let on : List BufferName = kept_from s id strong_live (i + 1) n in
        set_of (cond b (name ∷ on) on) ≡ cond b (2 ^ i) 0 + set_of on
    by true = sum_by-cons (λ (b : BufferName). 2 ^ b.index) (record { collection = id; index = i }) (kept_from s id strong_live (i + 1) n)
    by false = omega arith

-- after the last one there is none
pub none_kept : (s : State) (id : ℕ) (strong_live : Bool) (i n : ℕ) → n ≤ i → kept_from s id strong_live i n ≡ []
none_kept s id strong_live i n last = let none : n - i ≡ 0 = omega arith in rw none refl

-- the bit of a buffer fits beside those before it
pub bit_fits : (set i : ℕ) → set < 2 ^ i → i < 64 → (1 * 2 ^ i % 2 ^ 64 ≡ 2 ^ i) × (set + 2 ^ i < 2 ^ (i + 1)) × (2 ^ (i + 1) ≤ 2 ^ 64)
bit_fits set i small few =
    let same : i + 1 ≡ suc i = omega arith in
    let next : 2 ^ (i + 1) ≡ 2 * 2 ^ i = ap (λ k. 2 ^ k) same ∙ pow-succ' 2 i in
    let within : 2 ^ (i + 1) ≤ 2 ^ 64 = pow_mono {i = i + 1} {j = 64} (omega arith) in
    (omega (arith, small, next, within), omega (arith, small, next), within)
