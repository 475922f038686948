-- A forced step leaves a collection sound, and so does a change that fits.
use Rattle.forced_marks.proofs.Common.{Allocates, Bool, Buffers, Cause, Change, Collection, Decision, Effect, Ends, Failure, Fault}
use Rattle.forced_marks.proofs.Common.{Interval, IsSound, IsStep, List, Loses, Mark, MayChange, Node, NodeKey, None, Option, Places, Some}
use Rattle.forced_marks.proofs.Common.{[], affected, after_allocation, after_end, after_loss, and_left, and_right, ap, asked, changed}
use Rattle.forced_marks.proofs.Common.{collection_at, collection_or_new, drop, ended, false, given_buffers, has_collection, is_birth}
use Rattle.forced_marks.proofs.Common.{is_none, is_of, is_some, is_taken, list_all, list_any, lost, made, mark_of, members_of, nat_le}
use Rattle.forced_marks.proofs.Common.{new_child, node_of, not, not-true, option_map_or, outcome, pages_of, places, refl, same_key-refl}
use Rattle.forced_marks.proofs.Common.{subst, sym, true, unwrap_or, when, with_birth, with_nodes, ℕ, ◌++◌, ◌∙◌, ◌∷◌, ◌≡◌}
use Rattle.std.proofs.lemmas.Bool.{le-leb}
use Rattle.sm_names.specs.declared.rules.TheConstants.{MAX_BUFFERS}
use Rattle.forest_store.specs.Forest.{Forest}
use Rattle.forest_store.specs.Scenes.{heads_itself}
use Rattle.forest_store.proofs.tables.Writing.{IsSameNode, IsSound-map}
use Rattle.forest_store.proofs.changes.Altering.{same_affected}
use Rattle.forest_store.proofs.newborns.Newborn.{distinct-more}

-- what leaves the place of a node in its tree
same : (f : Node → Node) → ((n : Node) → (f n).key ≡ n.key) → ((n : Node) → (f n).parent ≡ n.parent) →
    ((n : Node) → (f n).attached ≡ n.attached) → ((n : Node) → (f n).collection ≡ n.collection) → ((n : Node) → (f n).head ≡ n.head) →
    (n : Node) → IsSameNode (f n) n
same f key parent attached collection head n =
    record { key = key n; parent = parent n; attached = attached n; collection = collection n; head = head n }

-- an end does
ended_sound : (top : NodeKey) (c : Collection) → IsSound c → IsSound (with_nodes (after_end top) c)
ended_sound top c sound = IsSound-map (ended c.nodes top)
    (same (ended c.nodes top) (λ n. refl) (λ n. refl) (λ n. refl) (λ n. refl) (λ n. refl)) c sound

-- a loss
lost_sound : (fault : Fault) (c : Collection) → IsSound c → IsSound (with_nodes (after_loss fault) c)
lost_sound fault c sound = IsSound-map (lost (is_taken c.nodes fault.origin) fault)
    (same (lost (is_taken c.nodes fault.origin) fault) (λ n. refl) (λ n. refl) (λ n. refl) (λ n. refl) (λ n. refl)) c sound

-- an allocation
given_sound : (head : NodeKey) (c : Collection) → IsSound c → IsSound (with_nodes (after_allocation head) c)
given_sound head c sound = IsSound-map (given_buffers head)
    (same (given_buffers head) (λ n. refl) (λ n. refl) (λ n. refl) (λ n. refl) (λ n. refl)) c sound

-- the step that is made
pub step_sound : (pool : ℕ) (others held : List Interval) (c : Collection) (step : Decision) → IsStep c step → IsSound c →
    (mark : Mark) → mark ≡ mark_of pool held step → IsSound (made pool others mark c)
step_sound pool others held c (Ends top) is sound mark e =
    subst (λ (m : Mark). IsSound (made pool others m c)) (sym e) (ended_sound top c sound)
step_sound pool others held c (Loses origin cause) is sound mark e =
    subst (λ (m : Mark). IsSound (made pool others m c)) (sym e) (lost_sound (record { cause = cause; origin = origin }) c sound)
step_sound pool others held c (Allocates head) is sound mark e =
    subst (λ (m : Mark). IsSound (made pool others m c)) (sym e) (rw is.attached (given_sound head c sound))
step_sound pool others held c (Places head wants) is sound mark e =
    subst (λ (m : Mark). IsSound (made pool others m c)) (sym e)
    (by (is_none (places pool (pages_of wants.size) wants.count held)))
  where
    -- by cases: a failure keeps the collection sound, and an allocation gives it few buffers
    by : (full : Bool) → IsSound (made pool others (outcome head (when full Failure.PoolFull)) c)
    by true = lost_sound (record { cause = Cause.Failed Failure.PoolFull; origin = head }) c sound
    by false =
        let few : nat_le (asked (members_of c.nodes)).count MAX_BUFFERS ≡ true =
        ap (λ (b : Buffers). nat_le b.count MAX_BUFFERS) is.asked_for ∙ le-leb wants.count MAX_BUFFERS is.count.1 in
        let rest : IsSound (with_nodes (after_allocation head) c) = given_sound head c sound in
        rw is.root (record { distinct = rest.distinct; heads = rest.heads; one_root = rest.one_root; few = few })

-- ---- the change

-- what holds of all holds with another behind
all_more : (test : Node → Bool) (ns : List Node) (node : Node) → list_all test ns ≡ true → test node ≡ true →
    list_all test (ns ++ node ∷ []) ≡ true
all_more test [] node all one = rw one refl
all_more test (n ∷ ns) node all one =
    rw (and_left (test n) (list_all test ns) all) (all_more test ns node (and_right (test n) (list_all test ns) all) one)

-- a child leaves only the first a root
one_root_more : (ns : List Node) (node : Node) → is_some node.parent ≡ true →
    list_all (λ (n : Node). is_some n.parent) (drop 1 ns) ≡ true →
    list_all (λ (n : Node). is_some n.parent) (drop 1 (ns ++ node ∷ [])) ≡ true
one_root_more [] node child ok = refl
one_root_more (n ∷ ns) node child ok = all_more (λ (x : Node). is_some x.parent) ns node ok child

-- a child heads its unit itself where it has to
child_heads : (attached : Bool) (key : NodeKey) (event client : ℕ) (above : Node) →
    heads_itself (new_child attached key event client above) ≡ true
child_heads true key event client above = same_key-refl key
child_heads false key event client above = refl

-- with a child that is new it stays sound
child_sound : (c : Collection) (attached : Bool) (key : NodeKey) (event client : ℕ) (above : Node) → IsSound c →
    list_any (is_of key) c.nodes ≡ false → IsSound (record c { nodes = c.nodes ++ new_child attached key event client above ∷ [] })
child_sound c attached key event client above ok fresh = record {
  distinct = distinct-more c.nodes (new_child attached key event client above) fresh ok.distinct;
  heads = all_more heads_itself c.nodes (new_child attached key event client above) ok.heads (child_heads attached key event client above);
  one_root = one_root_more c.nodes (new_child attached key event client above) refl ok.one_root;
  few = ok.few;
}

-- with a root that is new an empty one is
root_sound : (f : Forest) (id event client : ℕ) (key : NodeKey) → not (has_collection f id) ≡ true →
    IsSound (with_birth None false client event key (collection_or_new f id))
root_sound f id event client key new = by (collection_at f id) (not-true (has_collection f id) new)
  where
    -- by cases: no collection was there, and one root alone is sound
    by : (o : Option Collection) → is_some o ≡ false →
        IsSound (with_birth None false client event key (unwrap_or o (record { id = id; nodes = []; buffers = None; held = [] })))
    by None none = record { distinct = refl; heads = rw (same_key-refl key) refl; one_root = refl; few = refl }
    by (Some c) none = absurd (cc)

-- a child of a node that is there, or none
birth_sound : (c : Collection) (above : NodeKey) (attached : Bool) (client event : ℕ) (key : NodeKey) → IsSound c →
    list_any (is_of key) c.nodes ≡ false → IsSound (with_birth (Some above) attached client event key c)
birth_sound c above attached client event key ok fresh = by (node_of c.nodes above)
  where
    -- by cases: without the node above nothing is born
    by : (o : Option Node) → IsSound (option_map_or (λ n. record c { nodes = c.nodes ++ new_child attached key event client n ∷ [] }) o c)
    by None = ok
    by (Some n) = child_sound c attached key event client n ok fresh

-- the change that is made, where a new node has a key that no node of the collection has
pub changed_sound : (f : Forest) (id : ℕ) (change : Change) (key : NodeKey) → MayChange f id change → IsSound (collection_or_new f id) →
    (is_birth change ≡ true → list_any (is_of key) (collection_or_new f id).nodes ≡ false) →
    IsSound (changed change key (collection_or_new f id))
changed_sound f id (Change.Birth None true client event) key may ok fresh = let bad : true ≡ false = may.heads in absurd (cc)
changed_sound f id (Change.Birth None false client event) key may ok fresh = root_sound f id event client key may.named
changed_sound f id (Change.Birth (Some above) attached client event) key may ok fresh =
    birth_sound (collection_or_new f id) above attached client event key ok (fresh refl)
changed_sound f id (Change.Effect on effect) key may ok fresh =
    IsSound-map (affected on effect) (same_affected on effect) (collection_or_new f id) ok
changed_sound f id (Change.Loss origin cause) key may ok fresh =
    lost_sound (record { cause = cause; origin = origin }) (collection_or_new f id) ok
changed_sound f id Change.Nothing key may ok fresh = ok
