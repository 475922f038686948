-- The children of a key, met one after the other.
use Rattle.node_table.proofs.Common.{Appends, Contains, Contains-append_right, IsForest, List, NodeKey, None, Option, Some, Table, [], ap}
use Rattle.node_table.proofs.Common.{arith, children_at, cond, first_key, length, length-append, next_key, option_map_or, parent_at, refl}
use Rattle.node_table.proofs.Common.{siblings_at, subst, sym, ◌++◌, ◌+◌, ◌<◌, ◌∙◌, ◌∷◌, ◌≡◌, ◌≢◌}
use Rattle.std.proofs.lemmas.List.{append_assoc, append-nil}
use Rattle.std.proofs.Math.Seq.{append_snoc}
use Rattle.node_table.proofs.Keys.{same_key-equal, same_key-apart}
use Rattle.node_table.proofs.Lists.{AllDiffer, AllDiffer-tail, Contains-head, head_differs}

-- where no key stands twice, what follows a key is what was found after it
pub next_key-after : (done : List NodeKey) (key : NodeKey) (rest : List NodeKey) → AllDiffer (done ++ key ∷ rest) →
    next_key key (done ++ key ∷ rest) ≡ first_key rest
next_key-after [] key rest differ = ap (λ b. cond b (first_key rest) (next_key key rest)) (same_key-equal key key refl)
next_key-after (head ∷ done) key rest differ =
    let there : Contains (done ++ key ∷ rest) key = Contains-append_right done (key ∷ rest) key (Contains-head key rest) in
    let apart : key ≢ head = λ same. head_differs head key (done ++ key ∷ rest) differ there (sym same) in
    ap (λ b. cond b (first_key (done ++ key ∷ rest)) (next_key key (done ++ key ∷ rest))) (same_key-apart key head apart)
    ∙ next_key-after done key rest (AllDiffer-tail head (done ++ key ∷ rest) differ)

-- before the first of them
pub appends-none : (children old : List NodeKey) (next : Option NodeKey) → next ≡ first_key children → Appends children old old next
appends-none children old next is = record { done = []; rest = children; all = refl; items = sym (append-nil old); next_is = is }

module _ {N : Type 0} (t : Table N) (forest : IsForest t) (key : NodeKey) where
  -- the next of them is a child
  pub appends-child : (old now : List NodeKey) (at : Option NodeKey) (child : NodeKey) → Appends (children_at t key) old now at →
      at ≡ Some child → parent_at t child ≡ Some key
  appends-child old now at child so is = by_rest so.rest so.all so.next_is
    where
      by_rest : (rest : List NodeKey) → children_at t key ≡ so.done ++ rest → at ≡ first_key rest → parent_at t child ≡ Some key
      by_rest [] all first = absurd (cc)
      by_rest (k ∷ rest) all first =
          let same : k ≡ child = let both : Some k ≡ Some child = sym first ∙ is in cc in
          (forest.linked key child).1 (subst (λ keys. Contains keys child) (sym (all ∙ ap (λ j. so.done ++ j ∷ rest) same))
          (Contains-append_right so.done (child ∷ rest) child (Contains-head child rest)))

  -- one more was appended, and the next is its sibling
  pub appends-more : (old now : List NodeKey) (at next : Option NodeKey) (child : NodeKey) → Appends (children_at t key) old now at →
      at ≡ Some child → next ≡ next_key child (siblings_at t child)
      → Appends (children_at t key) old (now ++ child ∷ []) next
  appends-more old now at next child so is then = by_rest so.rest so.all so.next_is
    where
      -- the children still to come begin with the appended child, so the rest is their tail
      by_rest : (rest : List NodeKey) → children_at t key ≡ so.done ++ rest → at ≡ first_key rest →
          Appends (children_at t key) old (now ++ child ∷ []) next
      by_rest [] all first = absurd (cc)
      by_rest (k ∷ rest) all first =
          let same : k ≡ child = let both : Some k ≡ Some child = sym first ∙ is in cc in
          let list : children_at t key ≡ so.done ++ child ∷ rest = all ∙ ap (λ j. so.done ++ j ∷ rest) same in
          let there : Contains (children_at t key) child =
          subst (λ keys. Contains keys child) (sym list) (Contains-append_right so.done (child ∷ rest) child (Contains-head child rest)) in
          let above : parent_at t child ≡ Some key = (forest.linked key child).1 there in
          let siblings : siblings_at t child ≡ children_at t key = ap (λ o. option_map_or (children_at t) o []) above in
          record {
            done = so.done ++ child ∷ [];
            rest = rest;
            all = list ∙ sym (append_snoc so.done child rest);
            items = ap (λ keys. keys ++ child ∷ []) so.items ∙ append_assoc old so.done (child ∷ []);
            next_is = then ∙ (ap (next_key child) (siblings ∙ list)
                ∙ next_key-after so.done child rest (subst AllDiffer list (forest.once key)));
          }

  -- where none is left to come, all were appended
  pub appends-all : (old now : List NodeKey) (at : Option NodeKey) → Appends (children_at t key) old now at → at ≡ None →
      now ≡ old ++ children_at t key
  appends-all old now at so none = by_rest so.rest so.all so.next_is
    where
      by_rest : (rest : List NodeKey) → children_at t key ≡ so.done ++ rest → at ≡ first_key rest → now ≡ old ++ children_at t key
      by_rest [] all first = so.items ∙ ap (λ keys. old ++ keys) (sym (all ∙ append-nil so.done))
      by_rest (k ∷ rest) all first = absurd (cc)

-- a child that is still to come has its place in room for all
pub appends-within : (children old now : List NodeKey) (at : Option NodeKey) (child : NodeKey) → Appends children old now at →
    at ≡ Some child → length now < length old + length children
appends-within children old now at child so is = by_rest so.rest so.all so.next_is
  where
    -- by cases on the children that are still to come: there is one, so not all have come
    by_rest : (rest : List NodeKey) → children ≡ so.done ++ rest → at ≡ first_key rest → length now < length old + length children
    by_rest [] all first = absurd (cc)
    by_rest (k ∷ rest) all first =
        let all_size : length children ≡ length so.done + length (k ∷ rest) = ap length all ∙ length-append so.done (k ∷ rest) in
        let size : length now ≡ length old + length so.done = ap length so.items ∙ length-append old so.done in
        omega arith
