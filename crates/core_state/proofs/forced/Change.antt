-- What the change of a task leaves of the forest.
use Rattle.core_state.proofs.Common.{CanFinish, Change, EventTask, Forest, Handles, IfSome, IsAmid, IsSound, MayDo, Node, NodeKey, None}
use Rattle.core_state.proofs.Common.{Option, Reworked, Settled, Some, is_some, map-Some, node_at, option_map, refl, subst, sym, true}
use Rattle.core_state.proofs.Common.{work_in, ℕ, ◌∙◌, ◌≡◌}
use Rattle.core_state.proofs.forced.Forest.{IsThere, amid_same, amid_settled, key_is_there, node_with_key}

-- the end that the task spends is of a node of its collection
pub may_spend : (f : Forest) (t : EventTask) → IsSound f → MayDo f t → IsThere f t.collection t.spends
may_spend f t sound may key is =
    let at : option_map (λ (n : Node). n.collection) (node_at f key) ≡ Some t.collection =
    subst (λ (o : Option NodeKey). IfSome o (λ k. option_map (λ (n : Node). n.collection) (node_at f k) ≡ Some t.collection)) is
    may.there in
    let n = map-Some (λ (x : Node). x.collection) (node_at f key) t.collection at in
    let c = node_with_key f key n.0 n.1 in
    (c.0, n.0, c.1, c.2, c.3, sym (sound.fit c.0 c.1 n.0 c.2).collection ∙ n.2)

-- the forest once the change is made, and all that it forces
pub amid_worked : (pool : ℕ) (handles : Handles) (f worked : Forest) (t : EventTask) (key : Option NodeKey) → IsSound f → MayDo f t →
    Reworked pool handles f (work_in (Some t)) key worked →
    IsAmid worked t.collection t.spends
amid_worked pool handles f worked t key sound may work = by t.change refl
  where
    -- by cases: without a change the forest is as it was, and with one it is settled after it
    by : (o : Option Change) → t.change ≡ o → IsAmid worked t.collection t.spends
    by None is =
        let same : worked ≡ f =
        (subst (λ (o : Option Change). Reworked pool handles f (option_map (λ x. record { collection = t.collection; change = x }) o)
        key worked) is work).0 in
        subst (λ (x : Forest). IsAmid x t.collection t.spends) (sym same) (amid_same f t.collection t.spends sound
        (may_spend f t sound may))
    by (Some change) is =
        let settled : Settled pool handles f worked t.collection change key =
        subst (λ (o : Option Change). Reworked pool handles f (option_map (λ x. record { collection = t.collection; change = x }) o) key
        worked) is work in
        amid_settled pool handles f worked t.collection change key t.spends sound (may_spend f t sound may) settled

-- the end that is about to be spent is there
pub end_is_there : (f : Forest) (id : ℕ) (leaving : Option NodeKey) (key : NodeKey) → IsAmid f id leaving → leaving ≡ Some key →
    is_some (node_at f key) ≡ true
end_is_there f id leaving key amid is =
    let it = amid.there key is in
    key_is_there f it.0 it.1 key it.2 it.3 it.4

-- so is each that is to be spent
pub ends_are_there : (f : Forest) (id : ℕ) (leaving : Option NodeKey) → IsAmid f id leaving →
    IfSome leaving (λ key. is_some (node_at f key) ≡ true)
ends_are_there f id None amid = tt
ends_are_there f id (Some key) amid = end_is_there f id (Some key) key amid refl

-- the event can be finished
pub can_finish : (pool : ℕ) (handles : Handles) (f worked : Forest) (task : Option EventTask) (key : Option NodeKey) → IsSound f →
    IfSome task (MayDo f) →
    Reworked pool handles f (work_in task) key worked → CanFinish worked task
can_finish pool handles f worked None key sound may work = subst IsSound (sym work.0) sound
can_finish pool handles f worked (Some t) key sound may work = amid_worked pool handles f worked t key sound may work
