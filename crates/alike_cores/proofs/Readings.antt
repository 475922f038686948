-- What answers read of cores that are alike.
use Rattle.alike_cores.proofs.Common.{AreAlike, AreAlikeCores, BufferName, Collection, Fault, KeepsIds, KeepsKeys, List, Mixed, Node}
use Rattle.alike_cores.proofs.Common.{NodeKey, None, OpenEnd, Option, Some, State, Strength, [], ap, buffer_renamed, client_renamed}
use Rattle.alike_cores.proofs.Common.{collection_at, collection_renamed, cond, end_in, end_renamed, fault_renamed, filter, flat_map}
use Rattle.alike_cores.proofs.Common.{is_doomed, is_spent, length, map, members_of, node_at, not, open_end_in, open_end_of}
use Rattle.alike_cores.proofs.Common.{option_and_then, option_map, option_map_or, readings_of, refl, some_strong_live, sym, total}
use Rattle.alike_cores.proofs.Common.{tracked_as, tracker_renamed, undated, ℕ, ◌∙◌, ◌∷◌, ◌≡◌}
use Rattle.forest_store.specs.Settling.{buffer_names}
use Rattle.alike_cores.proofs.Answering.{length-renamed}
use Rattle.alike_cores.proofs.Reading.{readings-renamed}
use Rattle.alike_cores.proofs.Finding.{AreApart, collections_mixed, nodes_mixed, renamed_apart}
use Rattle.alike_cores.proofs.Mixing.{length-mixed, mixed-flat_map}

-- ---- an end under its own names

-- By cases on the fault.
own_fault : (o : Option Fault) → option_map (fault_renamed (λ key. key)) o ≡ o
own_fault None = refl
own_fault (Some fault) = refl

-- Buffer by buffer.
own_buffers : (bs : List BufferName) → map (buffer_renamed (λ id. id)) bs ≡ bs
own_buffers [] = refl
own_buffers (b ∷ bs) = ap (λ (l : List BufferName). b ∷ l) (own_buffers bs)

-- By cases on the end.
own_end : (o : Option OpenEnd) → option_map (end_renamed (λ key. key) (λ id. id)) o ≡ o
own_end None = refl
own_end (Some e) = λ i. Some (record e { fault = own_fault e.fault i; to_open = own_buffers e.to_open i })

-- ---- the same collections in another order

module _ (w u : State) (mixed : Mixed u.forest.collections w.forest.collections) (apart : AreApart u.forest.collections)
    (holds : w.holds ≡ u.holds) where
  -- the same collection is found
  there : (i : ℕ) → collection_at w.forest i ≡ collection_at u.forest i
  there i = sym (collections_mixed u.forest.collections w.forest.collections mixed apart i)

  -- the end of a node says the same
  same_end : (n : Node) → open_end_of w n ≡ open_end_of u n
  same_end n = λ i. record (open_end_of w n) {
    buffers = cond n.allocated (option_map_or (λ (c : Collection). c.buffers) (there n.collection i) None) None;
    to_open = cond n.allocated (option_map_or
        (λ (c : Collection).
        filter (λ b. not (is_doomed (total (holds i) b Strength.Strong) (some_strong_live (members_of c.nodes)))) (buffer_names c))
        (there n.collection i) []) [];
  }

  -- and is that of the same node
  pub mixed_end : (key : NodeKey) → end_in w key ≡ end_in u key
  mixed_end key =
      ap (option_and_then (open_end_in w)) (sym (nodes_mixed u.forest.collections w.forest.collections mixed apart key))
      ∙ from (node_at u.forest key)
    where
      -- by cases: there is none, or its end is spent, or says the same
      from : (o : Option Node) → option_and_then (open_end_in w) o ≡ option_and_then (open_end_in u) o
      from None = refl
      from (Some n) = ap (λ (e : OpenEnd). cond (is_spent n.end) None (Some e)) (same_end n)

-- ---- cores that are alike

module _ (to : NodeKey → NodeKey) (id number : ℕ → ℕ) (keeps : KeepsKeys to) (ids : KeepsIds id) (s t : State)
    (alike : AreAlikeCores to id number s t) (apart : AreApart s.forest.collections) where
  -- the second core without dates
  abbrev bare : State
  bare = record t {
    clients = map (client_renamed (λ key. key) (λ id. id)) t.clients;
    forest = record t.forest { collections = map undated t.forest.collections };
  }

  -- with the collections in the order of the first
  abbrev turned : State
  turned = record t { forest = record t.forest { collections = map (collection_renamed to id) s.forest.collections } }

  -- it is the second one under its own names
  is_bare : AreAlike (λ key. key) (λ id. id) (readings_of t) (readings_of bare)
  is_bare = readings-renamed (λ key. key) (λ id. id) (λ a b. refl) (λ a b. refl) t bare (record {
    clients = refl;
    collections = refl;
    open_of = λ client b strength. refl;
    total = λ b strength. refl;
    unfired = refl;
  })

  -- as many trackers wait
  same_unfired : length t.trackers.unfired ≡ length s.trackers.unfired
  same_unfired =
      sym (length-renamed tracked_as t.trackers.unfired)
      ∙ (sym (length-mixed (map (λ w. tracker_renamed to id number (tracked_as w)) s.trackers.unfired) (map tracked_as t.trackers.unfired)
      alike.unfired)
      ∙ length-renamed (λ w. tracker_renamed to id number (tracked_as w)) s.trackers.unfired)

  -- it is the first one under other names
  is_turned : AreAlike to id (readings_of s) (readings_of turned)
  is_turned = readings-renamed to id keeps ids s turned (record {
    clients = alike.clients;
    collections = refl;
    open_of = alike.open_of;
    total = alike.total;
    unfired = same_unfired;
  })

  -- all that answers read is alike
  pub readings-alike : AreAlike to id (readings_of s) (readings_of t)
  readings-alike = record {
    joined = is_turned.joined;
    shut = is_turned.shut;
    ends = λ key. sym (own_end (end_in t (to key))) ∙ (sym (is_bare.ends (to key))
        ∙ (mixed_end bare turned alike.collections (renamed_apart to id keeps ids s.forest.collections apart) refl (to key)
        ∙ is_turned.ends key));
    waiting = is_turned.waiting;
    open_of = alike.open_of;
    total = alike.total;
    nodes = sym is_bare.nodes ∙ (sym (length-mixed (flat_map (λ (c : Collection). c.nodes) turned.forest.collections)
        (flat_map (λ (c : Collection). c.nodes) bare.forest.collections)
        (mixed-flat_map (λ (c : Collection). c.nodes) turned.forest.collections bare.forest.collections alike.collections))
        ∙ is_turned.nodes);
    collections = sym is_bare.collections ∙ (sym (length-mixed turned.forest.collections bare.forest.collections alike.collections)
        ∙ is_turned.collections);
    unfired = same_unfired;
  }
