-- What is reserved, node by node: what each camps on is added up.
use Rattle.forest_store.proofs.Common.{filter_map-append, ◌≡◌, ◌≢◌, ℕ, ◌+◌, Bool, true, false, if◌then◌else◌, inl, inr, List, []}
use Rattle.forest_store.proofs.Common.{◌∷◌, ◌++◌, map, Option, Some, None, refl, sym, ap, ◌∙◌, arith, cons_option, filter}
use Rattle.forest_store.proofs.Common.{list_any, sum_by, option_map_or, NodeKey, Demand, same_key, In, either_way, Table, node_at}
use Rattle.forest_store.proofs.Common.{Node, nodes_with, reserved_count, are_distinct, AllPairs, demands_of, has_buffers, camped}
use Rattle.std.proofs.lemmas.List.Sums.{sum_by-append, sum_by-cons}
use Rattle.forest_store.proofs.tallies.Amounts.{amount_but, amount_changed, amount_filter, amount_of, amount_same, taken_amount}
pub use Rattle.forest_store.proofs.tallies.Amounts.{amount_map}

-- ---- the sum, node by node

-- how many buffers this node camps on, if it passes
abbrev pub camped_if : (Node → Bool) → Node → ℕ
camped_if test n = option_map_or (λ (d : Demand). d.camping) (if test n then n.constraints else None) 0

-- by induction: what those camp on that pass, each adds what it camps on
pub camped_sum : (test : Node → Bool) (ns : List Node) →
    sum_by (λ (d : Demand). d.camping) (demands_of test ns) ≡ amount_of (camped_if test) ns
camped_sum test [] = refl
camped_sum test (n ∷ ns) = by (if test n then n.constraints else None) (camped_sum test ns)
  where
    -- by cases: a demand adds what it camps on, and none adds nothing
    by : (o : Option Demand) → sum_by (λ (d : Demand). d.camping) (demands_of test ns) ≡ amount_of (camped_if test) ns →
        sum_by (λ (d : Demand). d.camping) (cons_option o (demands_of test ns))
        ≡ option_map_or (λ (d : Demand). d.camping) o 0 + amount_of (camped_if test) ns
    by None on = on ∙ omega arith
    by (Some d) on = sum_by-cons (λ (d : Demand). d.camping) d (demands_of test ns) ∙ ap (λ (k : ℕ). d.camping + k) on

-- a sum over the demands is a sum over the nodes
pub reserved_is : (ns : List Node) → reserved_count ns ≡ amount_of camped ns
reserved_is ns = camped_sum _ ns

-- a node that is gone camps on nothing
pub camped_gone : (n : Node) → n.gone ≡ true → camped n ≡ 0
camped_gone n e = rw e refl

-- a node without a demand camps on nothing
pub reserved_one : (n : Node) → n.constraints ≡ None → reserved_count (n ∷ []) ≡ 0
reserved_one n none = reserved_is (n ∷ []) ∙ rw none (from (has_buffers n))
  where
    -- by cases on the test
    from : (b : Bool) → option_map_or (λ (d : Demand). d.camping) (if b then None else None) 0 + 0 ≡ 0
    from true = refl
    from false = refl

-- a sum over two lists is the sum of both
pub reserved_append : (xs ys : List Node) → reserved_count (xs ++ ys) ≡ reserved_count xs + reserved_count ys
reserved_append xs ys = grind (arith, filter_map-append, sum_by-append)

-- ---- nodes that are changed

-- how much of each kind together
pub amount_both : (a b c : Node → ℕ) (ns : List Node) → ((n : Node) → In n ns → c n ≡ a n + b n) →
    amount_of c ns ≡ amount_of a ns + amount_of b ns
amount_both a b c [] same = refl
amount_both a b c (n ∷ ns) same = omega (arith, same n (inl refl), amount_both a b c ns (λ m on. same m (inr on)))

-- nothing of nodes of which each is nothing
amount_none : (amount : Node → ℕ) (ns : List Node) → ((n : Node) → In n ns → amount n ≡ 0) → amount_of amount ns ≡ 0
amount_none amount [] none = refl
amount_none amount (n ∷ ns) none = omega (arith, none n (inl refl), amount_none amount ns (λ m on. none m (inr on)))

-- where each camps on as much as before
pub reserved_map : (f : Node → Node) → ((n : Node) → camped (f n) ≡ camped n) → (ns : List Node) →
    reserved_count (map f ns) ≡ reserved_count ns
reserved_map f same ns = reserved_is _ ∙ amount_map camped f ns ∙ amount_same _ _ ns (λ n on. same n) ∙ sym (reserved_is ns)

-- and where one alone changed
pub reserved_changed : (f : Node → Node) (ns : List Node) (n : Node) → are_distinct ns ≡ true → In n ns →
    ((m : Node) → In m ns → same_key n.key m.key ≡ false → f m ≡ m) →
    reserved_count (map f ns) + camped n ≡ reserved_count ns + camped (f n)
reserved_changed f ns n distinct on alone = grind (arith, amount_changed, reserved_is)

-- nodes that are gone are not missed
pub reserved_filter : (p : Node → Bool) (ns : List Node) → ((n : Node) → In n ns → p n ≡ false → n.gone ≡ true) →
    reserved_count (filter p ns) ≡ reserved_count ns
reserved_filter p ns over = reserved_is _ ∙ amount_filter p camped ns (λ n on out. camped_gone n (over n on out)) ∙ sym (reserved_is ns)

-- ---- nodes that fall

-- what it camps on so
abbrev pub camped_but : List NodeKey → Node → ℕ
camped_but ks n = amount_but camped ks n

module _ (t : Table Node) (nodes : List Node) (distinct : are_distinct nodes ≡ true) (at_key : (n : Node) → In n nodes →
    node_at t n.key ≡ Some n) (named : (key : NodeKey) (n : Node) → node_at t key ≡ Some n → n.key ≡ key) where
  module _ (amount : Node → ℕ) where
    -- where the others are nothing, those of these keys are all
    pub amount_within : (ks : List NodeKey) → AllPairs (λ (a b : NodeKey). a ≢ b) ks → ((n : Node) → In n (nodes_with t ks) → In n nodes) →
        ((n : Node) → In n nodes → list_any (same_key n.key) ks ≡ false → amount n ≡ 0) →
        amount_of amount (nodes_with t ks) ≡ amount_of amount nodes
    amount_within ks once within none =
        let rest = amount_none (amount_but amount ks) nodes (λ n on. elim (either_way (list_any (same_key n.key) ks)) [
          | inl e ↦ rw e refl
          | inr e ↦ rw e (none n on e)
        ]) in
        omega (arith, taken_amount t nodes distinct at_key named amount ks once within)

  -- where those of these keys camp on nothing any more
  pub reserved_left : (f : Node → Node) (ks : List NodeKey) → ((n : Node) → camped (f n) ≡ camped_but ks n) →
      AllPairs (λ (a b : NodeKey). a ≢ b) ks → ((n : Node) → In n (nodes_with t ks) → In n nodes) →
      reserved_count (map f nodes) + reserved_count (nodes_with t ks) ≡ reserved_count nodes
  reserved_left f ks is once within =
      let c = reserved_is (nodes_with t ks) in
      let e = taken_amount t nodes distinct at_key named camped ks once within in
      let same = amount_same (λ n. camped (f n)) (camped_but ks) nodes (λ n on. is n) in
      omega (arith, reserved_is (map f nodes), amount_map camped f nodes, reserved_is nodes)
