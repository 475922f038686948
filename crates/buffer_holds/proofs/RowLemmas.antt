-- What a change of one entry of a map does to its entries.
use Rattle.std.proofs.Common.{◌≡◌, ◌+◌, ◌≤◌, ◌<◌, refl, sym, ap, subst, ◌∙◌, ℕ, zero, suc, Bool, true, false, cond, List, [], ◌∷◌, Option}
use Rattle.std.proofs.Common.{Some, None, arith, sum_by, IsSome, length, get_or, slice_get, unwrap_or, Bor, MutBor, IfSome}
use Rattle.std.proofs.lemmas.List.Sums.{sum_by-cons, sum_by-append, sum_by-swap_remove}
use Rattle.std.proofs.lemmas.Map.Entries.{lookup_from_place}
use Rattle.std.proofs.lemmas.Option.{get_or_from_slice_get, slice_get_within, slice_get-map}
use Rattle.std.specs.Cmp.{IsEquivalence}
use Rattle.std.specs.List.{IsDistinct, swap_remove}
use Rattle.std.specs.Option.{option_copied_mut, option_map}
use Rattle.std.specs.Map.{lookup, remove_entry}
use Rattle.std.specs.Map.Iter.{deref_pair}
use Rattle.std.specs.HashMap.{HashMap, get, values, IsUnique, Updates}
use Rattle.indexmap.specs.IndexMap.{insert_entry, set_value_at, with_value_at}
use Rattle.indexmap.proofs.CallerLemmas.{insert_entry-new, keys-with_value_at, updates-with_value_at}
use Rattle.buffer_holds.specs.Rows.{weight_at, Resets}

-- ---- sums over the entries
module _ {K X : Type 0} (weight : K × X → ℕ) (test : K → Bool) (key : K) (one : (other : K) → test other ≡ true → key ≡ other) where
  -- without the entry
  sum_by-remove_entry-key : (es : List (K × X)) → sum_by weight (remove_entry test es) + weight_at weight key (lookup test es) ≡ sum_by
      weight es
  sum_by-remove_entry-key [] = refl
  sum_by-remove_entry-key (e ∷ es) =
      elim (test e.0) as (λ b. test e.0 ≡ b →
      sum_by weight (cond b es (e ∷ remove_entry test es)) + weight_at weight key (cond b (Some e.1) (lookup test es)) ≡ sum_by weight
      (e ∷ es)) [
        | true ↦ λ hit.
            let here : key ≡ e.0 = one e.0 hit in
            let old : weight (key, e.1) ≡ weight e = λ i. weight (here i, e.1) in
            omega (arith, sum_by-cons weight e es)
        | false ↦ λ miss. omega (arith, sum_by-remove_entry-key es, sum_by-cons weight e (remove_entry test es), sum_by-cons weight e es)
      ] refl

  -- an entry weighs at most what all weigh
  pub weight_at-le-sum_by : (es : List (K × X)) → weight_at weight key (lookup test es) ≤ sum_by weight es
  weight_at-le-sum_by es = omega (arith, sum_by-remove_entry-key es)

-- ---- calls of a map, whose test of keys is the specs' own
module _ {K X S : Type 0} (eq same : K → K → Bool) (is : eq ≡ same) (m n : HashMap K X S) (key : K) where
  -- by the map's test, and so by the specs' own
  told : (was now : Option X) → Resets eq m.entries n.entries key was now →
      Resets same m.entries n.entries key (lookup (same key) m.entries) now
  told was now resets =
      subst (λ s. Resets s m.entries n.entries key (lookup (s key) m.entries) now) is (subst (λ o. Resets eq m.entries n.entries key o now)
      (sym resets.had) resets)

  -- what the map's own search finds
  pub lookup_found : (found : Option X) → found ≡ get eq m key → lookup (same key) m.entries ≡ found
  lookup_found found is_found = subst (λ s. lookup (s key) m.entries ≡ found) is (sym is_found)

-- ---- calls of a map by place
module _ {K X : Type 0} where
  -- a value at a place
  sum_by-set_value_at : (weight : K × X → ℕ) (es : List (K × X)) (place : ℕ) (w : X) (d : K × X) → place < length es
      → sum_by weight (set_value_at es place w) + weight (get_or es place d) ≡ sum_by weight es + weight ((get_or es place d).0, w)
  sum_by-set_value_at weight [] place w d within = absurd (omega (arith, within))
  sum_by-set_value_at weight (e ∷ es) zero w d within = omega (arith, sum_by-cons weight (e.0, w) es, sum_by-cons weight e es)
  sum_by-set_value_at weight (e ∷ es) (suc place) w d within =
      omega (
        arith,
        sum_by-set_value_at weight es place w d (omega (arith, within)),
        sum_by-cons weight e (set_value_at es place w),
        sum_by-cons weight e es,
      )

  -- a value that is written back
  set_value_at-get_or : (es : List (K × X)) (place : ℕ) (d : K × X) → set_value_at es place (get_or es place d).1 ≡ es
  set_value_at-get_or [] place d = refl
  set_value_at-get_or (e ∷ es) zero d = refl
  set_value_at-get_or (e ∷ es) (suc place) d = ap (λ rest. e ∷ rest) (set_value_at-get_or es place d)

  -- writing the value that an entry already has leaves the list as it is
  pub set_value_at-same : (es : List (K × X)) (place : ℕ) (key : K) (v : X) → slice_get es place ≡ Some (key, v) →
      set_value_at es place v ≡ es
  set_value_at-same es place key v stands =
      subst (λ (e : K × X). set_value_at es place e.1 ≡ es) (get_or_from_slice_get es place (key, v) (key, v) stands)
      (set_value_at-get_or es place (key, v))

-- what is lent at a place
module _ {K X S : Type 0} (m : HashMap K X S) (place : ℕ) (key : K) (v : X) (stands : slice_get m.entries place ≡ Some (key, v))
    (lent : Option (MutBor X))
    (value : option_copied_mut lent ≡ slice_get (values m) place) where
  -- the lent value is that of the entry, since the values stand in the order of the entries
  is_value : option_copied_mut lent ≡ Some v
  is_value = value ∙ slice_get-map (λ (e : K × X). e.1) m.entries place ∙ ap (option_map (λ (e : K × X). e.1)) stands

  -- the map lends a value, since an entry stands at the place
  pub IsSome-lent_at : IsSome lent
  IsSome-lent_at = some lent is_value
    where
      some : (o : Option (MutBor X)) → option_copied_mut o ≡ Some v → IsSome o
      some None e = cc
      some (Some r) e = refl

  -- a borrow from the place has the value of the entry that stands there
  pub value_lent_at : (r : MutBor X) → lent ≡ Some r → r.now ≡ v
  value_lent_at r is = injected (sym (ap option_copied_mut is) ∙ is_value)
    where
      injected : Some r.now ≡ Some v → r.now ≡ v
      injected e = cc

-- what is read at a place
module _ {K X S : Type 0} (eq : K → K → Bool) (m : HashMap K X S) (place : ℕ) (key : K) (v : X)
    (stands : slice_get m.entries place ≡ Some (key, v)) (lent : Option (Bor K × Bor X))
    (entry : option_map deref_pair lent ≡ slice_get m.entries place) (value : IfSome lent (λ p. get eq m p.0.now ≡ Some p.1.now))
    (read : Bor K × Bor X) (is_read : lent ≡ Some read) where
  -- the entry at the place consists of the key and the value that were read
  pair : slice_get m.entries place ≡ Some (read.0.now, read.1.now)
  pair = sym entry ∙ ap (option_map deref_pair) is_read

  -- the key that was read is the key of the place, since one entry stands there
  this : read.0.now ≡ key
  this = ap (λ (o : Option (K × X)). (unwrap_or o (key, v)).0) (sym pair ∙ stands)

  -- the value that was read stands at the place under the given key
  pub stands_read_at : slice_get m.entries place ≡ Some (key, read.1.now)
  stands_read_at = pair ∙ ap (λ k. Some (k, read.1.now)) this

  -- a look-up of the key finds the value that was read at its place
  pub lookup_read_at : lookup (eq key) m.entries ≡ Some read.1.now
  lookup_read_at =
      subst (λ k. lookup (eq k) m.entries ≡ Some read.1.now) this (subst (λ o. IfSome o (λ p. get eq m p.0.now ≡ Some p.1.now)) is_read
      value)

module _ {K X S : Type 0} (eq same : K → K → Bool) (is : eq ≡ same) (one : (a b : K) → same a b ≡ true → a ≡ b) (itself : (a : K) →
    same a a ≡ true) (m n : HashMap K X S) (key : K) where
  -- the map's comparison is an equivalence, since it holds exactly of equal keys
  laws : IsEquivalence eq
  laws = subst IsEquivalence (sym is) (record {
    refl = itself;
    symm = λ a b. alike (same a b) (same b a) (λ e. subst (λ x. same x a ≡ true) (one a b e) (itself a)) (λ e.
        subst (λ x. same x b ≡ true) (one b a e) (itself b));
    congr = λ a b c e. ap (λ x. same x c) (one a b e);
  })
    where
      alike : (p q : Bool) → (p ≡ true → q ≡ true) → (q ≡ true → p ≡ true) → p ≡ q
      alike true q there back = sym (there refl)
      alike false true there back = back refl
      alike false false there back = refl

  -- the entry of the key stands at a place
  module _ (place : ℕ) (v : X) (stands : slice_get m.entries place ≡ Some (key, v)) where
    -- the place is less than the length, since an entry stands there
    within : place < length m.entries
    within = slice_get_within m.entries place (key, v) stands

    -- reading the place with any default gives the entry that stands there
    here : get_or m.entries place (key, v) ≡ (key, v)
    here = get_or_from_slice_get m.entries place (key, v) (key, v) stands

    module _ (unique : IsUnique eq m) where
      -- a look-up with the map's own comparison finds the value, since no other entry has the key
      found : lookup (eq key) m.entries ≡ Some v
      found = lookup_from_place laws m.entries place key v unique stands

      -- a look-up finds it
      pub lookup_placed : lookup (same key) m.entries ≡ Some v
      lookup_placed = subst (λ s. lookup (s key) m.entries ≡ Some v) is found

      -- a value written there
      pub resets_placed : (w : X) → Resets same m.entries (set_value_at m.entries place w) key (lookup (same key) m.entries) (Some w)
      resets_placed w =
          let written = with_value_at m place w in
          told eq same is m written key (Some v) (Some w) (record {
            had = found;
            finds = (updates-with_value_at m place w laws unique key v stands).0;
            weighs = λ weight. subst (λ (e : K × X). sum_by weight (set_value_at m.entries place w) + weight e ≡ sum_by weight
                m.entries + weight (e.0, w)) here (sum_by-set_value_at weight m.entries place w (key, v) within);
            distinct = subst (IsDistinct eq) (sym (keys-with_value_at m place w)) unique;
          })

    -- the entry taken out
    pub resets_taken : lookup (eq key) m.entries ≡ Some v → (taken : Option (K × X)) → taken ≡ slice_get m.entries place
        → IfSome taken (λ e. n.entries ≡ swap_remove m.entries place e) → IfSome taken (λ e. Updates eq m n e.0 None) → IsUnique eq n
        → Resets same m.entries n.entries key (lookup (same key) m.entries) None
    resets_taken had taken entry left updates distinct =
        let entry' : taken ≡ Some (key, v) = entry ∙ stands in
        let left' = subst (λ o. IfSome o (λ e. n.entries ≡ swap_remove m.entries place e)) entry' left in
        let updates' = subst (λ o. IfSome o (λ e. Updates eq m n e.0 None)) entry' updates in
        told eq same is m n key (Some v) None (record {
          had = had;
          finds = updates'.0;
          weighs = λ weight. subst (λ (e : K × X). sum_by weight n.entries + weight e ≡ sum_by weight m.entries + 0) here
              (omega (arith, ap (sum_by weight) left', sum_by-swap_remove weight m.entries place (key, v) within));
          distinct = distinct;
        })

  -- a new entry
  pub resets_added : (w : X) → lookup (same key) m.entries ≡ None → n.entries ≡ insert_entry eq m.entries key w →
      Updates eq m n key (Some w) → IsUnique eq n
      → Resets same m.entries n.entries key (lookup (same key) m.entries) (Some w)
  resets_added w absent added updates distinct =
      let none : lookup (eq key) m.entries ≡ None = subst (λ s. lookup (s key) m.entries ≡ None) (sym is) absent in
      let last = added ∙ insert_entry-new eq m key w none in
      told eq same is m n key None (Some w) (record {
        had = none;
        finds = updates.0;
        weighs = λ weight. omega (
          arith,
          ap (sum_by weight) last,
          sum_by-append weight m.entries ((key, w) ∷ []),
          sum_by-cons weight (key, w) [],
        );
        distinct = distinct;
      })
