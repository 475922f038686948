-- Which nodes a collection has after a change and all that it forces.
use Rattle.alike_cores.proofs.Common.{Allocated, AreOnce, Bool, Called, Change, Collection, Effect, Ended, Forces, Handles, In, In-append}
use Rattle.alike_cores.proofs.Common.{In-map, Interval, List, Loss, Mark, Node, NodeKey, None, Option, Rests, Settles, Some, [], affected}
use Rattle.alike_cores.proofs.Common.{ap, changed, ended, false, given_buffers, inl, inr, is_birth, is_root_of, is_taken, lost, made, map}
use Rattle.alike_cores.proofs.Common.{new_child, new_root, node_of, option_map_or, refl, sym, true, ℕ, ◌++◌, ◌∙◌, ◌∷◌, ◌≡◌, ◌⊎◌}
use Rattle.forest_store.proofs.tallies.Slots.{made_id}

-- no key stands twice in the new nodes if none does in the old ones, and each new node has the key of an old one
pub record KeepsNodes (old new : List Node) : Type 0 where
  pub once : AreOnce old → AreOnce new
  pub from : (n : Node) → In n new → (m : Node) × In m old × (m.key ≡ n.key)

-- The same nodes.
keeps_same : (ns : List Node) → KeepsNodes ns ns
keeps_same ns = record { once = λ h. h; from = λ n there. (n, there, refl) }

-- One change of the nodes after another.
keeps_both : (xs ys zs : List Node) → KeepsNodes xs ys → KeepsNodes ys zs → KeepsNodes xs zs
keeps_both xs ys zs one other = record {
  once = λ h. other.once (one.once h);
  from = λ n there.
      let y = other.from n there in
      let x = one.from y.0 y.1 in
      (x.0, x.1, x.2 ∙ y.2);
}

-- Node by node, where each keeps its key.
keeps_map : (f : Node → Node) → ((n : Node) → (f n).key ≡ n.key) → (ns : List Node) → KeepsNodes ns (map f ns)
keeps_map f key ns = record {
  once = λ h a b a_in b_in same.
      let x = In-map f ns a a_in in
      let y = In-map f ns b b_in in
      let is : x.0.key ≡ y.0.key =
      sym (key x.0) ∙ (sym (ap (λ (n : Node). n.key) x.2) ∙ (same ∙ (ap (λ (n : Node). n.key) y.2 ∙ key y.0))) in
      x.2 ∙ (ap f (h x.0 y.0 x.1 y.1 is) ∙ sym y.2);
  from = λ n there.
      let x = In-map f ns n there in
      (x.0, x.1, sym (key x.0) ∙ sym (ap (λ (m : Node). m.key) x.2));
}

-- ---- the forced steps

-- By the mark: it changes nodes, and adds none.
made_keeps : (pool : ℕ) (others : List Interval) (mark : Mark) (c : Collection) → KeepsNodes c.nodes (made pool others mark c).nodes
made_keeps pool others (Called client reply call) c = keeps_same c.nodes
made_keeps pool others (Loss origin cause) c =
    keeps_map (lost (is_taken c.nodes origin) (record { cause = cause; origin = origin })) (λ n. refl) c.nodes
made_keeps pool others (Ended top) c = keeps_map (ended c.nodes top) (λ n. refl) c.nodes
made_keeps pool others (Allocated head) c = by (is_root_of c head) refl
  where
    -- by cases: buffers are laid out or not
    by : (b : Bool) → is_root_of c head ≡ b → KeepsNodes c.nodes (made pool others (Allocated head) c).nodes
    by true root = rw root (keeps_map (given_buffers head) (λ n. refl) c.nodes)
    by false other = rw other (keeps_map (given_buffers head) (λ n. refl) c.nodes)

-- Step by step.
pub settles_keep : (pool : ℕ) (handles : Handles) (others : List Interval) (c last : Collection) → Settles pool handles others c last →
    KeepsNodes c.nodes last.nodes
settles_keep pool handles others c _ (Rests _ none) = keeps_same c.nodes
settles_keep pool handles others c _ (Forces _ last mark some next) =
    keeps_both c.nodes (made pool others mark c).nodes last.nodes (made_keeps pool others mark c)
    (settles_keep pool handles others (made pool others mark c) last next)

-- Step by step.
pub settles_id : (pool : ℕ) (handles : Handles) (others : List Interval) (c last : Collection) → Settles pool handles others c last →
    last.id ≡ c.id
settles_id pool handles others c _ (Rests _ none) = refl
settles_id pool handles others c _ (Forces _ last mark some next) =
    settles_id pool handles others (made pool others mark c) last next ∙ made_id pool others mark c

-- ---- the change

-- no key stands twice in the new nodes if none does in the old ones and the new key is none of theirs, and each new node has the
-- key of an old one, or is new
pub record Starts (change : Change) (key : NodeKey) (old new : List Node) : Type 0 where
  pub once : (is_birth change ≡ true → (n : Node) → In n old → n.key ≡ key → ⊥) → AreOnce old → AreOnce new
  pub from : (n : Node) → In n new → ((is_birth change ≡ true) × (n.key ≡ key)) ⊎ ((m : Node) × In m old × (m.key ≡ n.key))

-- One that keeps the nodes.
starts_kept : (change : Change) (key : NodeKey) (old new : List Node) → KeepsNodes old new → Starts change key old new
starts_kept change key old new keeps = record { once = λ fresh h. keeps.once h; from = λ n there. inr (keeps.from n there) }

-- A birth, by which one node is added.
starts_born : (change : Change) (key : NodeKey) (old : List Node) (x : Node) → is_birth change ≡ true → x.key ≡ key →
    Starts change key old (old ++ x ∷ [])
starts_born change key old x birth is = record {
  once = λ fresh h n m n_in m_in same.
      both (fresh birth) h n m (In-append old (x ∷ []) n n_in) (In-append old (x ∷ []) m m_in) same;
  from = λ n there. one n (In-append old (x ∷ []) n there);
}
  where
    -- by where the two stand
    both : ((n : Node) → In n old → n.key ≡ key → ⊥) → AreOnce old → (n m : Node) → In n old ⊎ In n (x ∷ []) → In m old ⊎ In m (x ∷ []) →
        n.key ≡ m.key → n ≡ m
    both fresh h n m (inl a) (inl b) same = h n m a b same
    both fresh h n m (inl a) (inr (inl b)) same = absurd (fresh n a (same ∙ (ap (λ (e : Node). e.key) b ∙ is)))
    both fresh h n m (inr (inl a)) (inl b) same = absurd (fresh m b (sym same ∙ (ap (λ (e : Node). e.key) a ∙ is)))
    both fresh h n m (inr (inl a)) (inr (inl b)) same = a ∙ sym b
    both fresh h n m (inl a) (inr (inr none)) same = absurd none
    both fresh h n m (inr (inl a)) (inr (inr none)) same = absurd none
    both fresh h n m (inr (inr none)) b same = absurd none

    -- by where it stands
    one : (n : Node) → In n old ⊎ In n (x ∷ []) → ((is_birth change ≡ true) × (n.key ≡ key)) ⊎ ((m : Node) × In m old × (m.key ≡ n.key))
    one n (inl a) = inr (n, a, refl)
    one n (inr (inl a)) = inl (birth, ap (λ (e : Node). e.key) a ∙ is)
    one n (inr (inr none)) = absurd none

-- By the change.
pub starts : (change : Change) (key : NodeKey) (c : Collection) → Starts change key c.nodes (changed change key c).nodes
starts (Change.Birth None attached client event) key c =
    starts_born (Change.Birth None attached client event) key c.nodes (new_root key c.id event client) refl refl
starts (Change.Birth (Some above) attached client event) key c = by (node_of c.nodes above)
  where
    -- by cases on the parent
    by : (o : Option Node) → Starts (Change.Birth (Some above) attached client event) key c.nodes
        (option_map_or (λ n. record c { nodes = c.nodes ++ new_child attached key event client n ∷ [] }) o c).nodes
    by None = starts_kept (Change.Birth (Some above) attached client event) key c.nodes c.nodes (keeps_same c.nodes)
    by (Some n) =
        starts_born (Change.Birth (Some above) attached client event) key c.nodes (new_child attached key event client n) refl refl
starts (Change.Effect on effect) key c =
    starts_kept (Change.Effect on effect) key c.nodes (map (affected on effect) c.nodes)
    (keeps_map (affected on effect) (its_key effect) c.nodes)
  where
    -- by the effect: it leaves the key
    its_key : (e : Effect) (n : Node) → (affected on e n).key ≡ n.key
    its_key Effect.Bound n = refl
    its_key _ n = refl
starts (Change.Loss origin cause) key c =
    starts_kept (Change.Loss origin cause) key c.nodes
    (map (lost (is_taken c.nodes origin) (record { cause = cause; origin = origin })) c.nodes)
    (keeps_map (lost (is_taken c.nodes origin) (record { cause = cause; origin = origin })) (λ n. refl) c.nodes)
starts Change.Nothing key c = starts_kept Change.Nothing key c.nodes c.nodes (keeps_same c.nodes)

-- By the change.
pub changed_id : (change : Change) (key : NodeKey) (c : Collection) → (changed change key c).id ≡ c.id
changed_id (Change.Birth None attached client event) key c = refl
changed_id (Change.Birth (Some above) attached client event) key c = by (node_of c.nodes above)
  where
    -- by cases on the parent
    by : (o : Option Node) →
        (option_map_or (λ n. record c { nodes = c.nodes ++ new_child attached key event client n ∷ [] }) o c).id ≡ c.id
    by None = refl
    by (Some n) = refl
changed_id (Change.Effect on effect) key c = refl
changed_id (Change.Loss origin cause) key c = refl
changed_id Change.Nothing key c = refl

-- By the change: only a birth reads the key.
pub any_key : (change : Change) (one other : NodeKey) (c : Collection) → is_birth change ≡ false →
    changed change one c ≡ changed change other c
any_key (Change.Birth parent attached client event) one other c none = cc
any_key (Change.Effect on effect) one other c none = refl
any_key (Change.Loss origin cause) one other c none = refl
any_key Change.Nothing one other c none = refl
