-- The collection that a call changes, copied before it.
use Rattle.event_facts.proofs.Common.{Collection, IsSound, IsStart, List, Node, NodeKey, None, Option, Some, Start, Work, [], ap, changed}
use Rattle.event_facts.proofs.Common.{collection_of, false, is_of, leaves_tracker_room, list_any, option_map, option_map_or, refl, subst}
use Rattle.event_facts.proofs.Common.{sym, total, unwrap_or, work_of, ℕ, ◌∙◌, ◌≡◌}
use Rattle.std.proofs.Common.{true, Result, Ok, Err, IfOk, IfSome}
use Rattle.std.specs.Result.{result_ok}
use Rattle.sm_names.specs.declared.keys.Interval.{Interval}
use Rattle.sm_names.specs.declared.messages.Call.{Call}
use Rattle.sm_names.specs.declared.messages.Reply.{Reply}
use Rattle.sm_names.specs.declared.outcomes.Cause.{Cause}
use Rattle.sm_names.specs.Answers.{IsAnswer, new_key}
use Rattle.sm_names.specs.Bounds.{Bound}
use Rattle.sm_names.specs.Timelines.{key_of}
use Rattle.sm_names.proofs.SamenessLaws.{both_ways, some-injective, and_then-Some, map-Some}
use Rattle.forest_store.specs.declared.change.Change.{Change}
use Rattle.forest_store.specs.declared.change.Effect.{Effect}
use Rattle.forest_store.specs.Forest.{beside, collection_at, given, node_at}
use Rattle.forest_store.specs.Settling.{Handles, collection_or_new, is_birth, no_key}
use Rattle.core_state.specs.Reads.{readings_of}
use Rattle.core_state.specs.State.{State}
use Rattle.core_state.specs.Steps.{Follows, at_collection, at_node}
use Rattle.core_state.proofs.forced.Dropping.{took_last}
use Rattle.core_state.proofs.forced.Losing.{losing, no_work}
use Rattle.forced_marks.specs.Marks.{SettlesInStages, Stage, StagesIn, StagesOf, own_stage}
use Rattle.event_facts.specs.Walks.{IsCopied}
use Rattle.forced_marks.proofs.Sound.{changed_sound}
use Rattle.forced_marks.proofs.Unforced.{unforced}

-- a work as a pair
abbrev pub pair : Work → ℕ × Change
pair w = (w.collection, w.change)

-- nothing is told where there is no work
pub none_paired : (o : Option Work) → None ≡ option_map pair o → o ≡ None
none_paired None e = refl
none_paired (Some w) e = cc

-- and what is told is the work that there is
pub some_paired : (o : Option Work) (id : ℕ) (change : Change) → Some (id, change) ≡ option_map pair o →
    o ≡ Some (record { collection = id; change = change })
some_paired None id change e = cc
some_paired (Some w) id change e =
    ap (λ (p : ℕ × Change). Some (record { collection = p.0; change = p.1 })) (sym (some-injective (id, change) (pair w) e))

-- a copy of some collection is one before this work
pub copied : (s : State) (o : Option Work) (id : ℕ) (b : Start) → o ≡ Some (record { collection = id; change = b.change }) →
    IsCopied s (record { collection = id; change = b.change }) b → IsStart s o (Some b)
copied s o id b is copy = subst (λ (x : Option Work). IsStart s x (Some b)) (sym is) copy

-- what an effect is, is no birth
no_birth_effect : (s : State) (key : NodeKey) (effect : Effect) (w : Work) → at_node s.forest key (λ n. Change.Effect key effect) ≡ Some w →
    is_birth w.change ≡ false
no_birth_effect s key effect w e =
    let t = map-Some (λ (n : Node). record { collection = n.collection; change = Change.Effect key effect }) (node_at s.forest key) w e in
    ap (λ (x : Work). is_birth x.change) (sym t.2)

-- nor is a loss
no_birth_loss : (s : State) (key : NodeKey) (cause : Cause) (w : Work) → at_node s.forest key (λ n. Change.Loss key cause) ≡ Some w →
    is_birth w.change ≡ false
no_birth_loss s key cause w e =
    let t = map-Some (λ (n : Node). record { collection = n.collection; change = Change.Loss key cause }) (node_at s.forest key) w e in
    ap (λ (x : Work). is_birth x.change) (sym t.2)

-- nor a drop
no_birth_drop : (s : State) (id : ℕ) (w : Work) → at_collection s.forest id Change.Nothing ≡ Some w → is_birth w.change ≡ false
no_birth_drop s id w e =
    let t = map-Some (λ (c : Collection). record { collection = id; change = Change.Nothing }) (collection_at s.forest id) w e in
    ap (λ (x : Work). is_birth x.change) (sym t.2)

-- so no call that is answered Done makes a node
no_birth_done : (s : State) (client : ℕ) (call : Call) (w : Work) → work_of s client call Reply.Done ≡ Some w → is_birth w.change ≡ false
no_birth_done s client (Call.Close key) w e = no_birth_loss s key Cause.Lost w (losing s.forest key Cause.Lost w e).work_at
no_birth_done s client (Call.Bind key) w e = no_birth_effect s key Effect.Bound w e
no_birth_done s client (Call.SetDispensable key) w e = no_birth_effect s key Effect.Dispensable w e
no_birth_done s client (Call.SetWeak key) w e = no_birth_effect s key Effect.Weak w e
no_birth_done s client (Call.SetWeakOk key children) w e = no_birth_effect s key (Effect.WeakOk children) w e
no_birth_done s client (Call.SetConstraints key demand) w e = no_birth_effect s key (Effect.Constrained demand) w e
no_birth_done s client (Call.Release key) w e = no_birth_effect s key Effect.Released w e
no_birth_done s client (Call.DropHandle buffer strength) w e = no_birth_drop s buffer.collection w (took_last s buffer strength w e)
no_birth_done s client _ w e = no_work e

-- a birth tells of a key that was given to none
birth_keyed : (s : State) (client : ℕ) (call : Call) (reply : Reply) (w : Work) → work_of s client call reply ≡ Some w →
    is_birth w.change ≡ true → option_map_or (given s.forest) (new_key reply) false ≡ false →
    given s.forest (unwrap_or (new_key reply) no_key) ≡ false
birth_keyed s client call (Reply.Token key collection) w e birth fresh = fresh
birth_keyed s client call (Reply.Misused m) w e birth fresh =
    let t = and_then-Some (λ key. at_node s.forest key (λ n. Change.Loss key (Cause.Misused m))) (key_of call) w e in
    absurd (both_ways (is_birth w.change) birth (no_birth_loss s t.0 (Cause.Misused m) w t.2))
birth_keyed s client call Reply.Done w e birth fresh = absurd (both_ways (is_birth w.change) birth (no_birth_done s client call w e))
birth_keyed s client (Call.Take key) (Reply.Taken collection strength set) w e birth fresh =
    absurd (both_ways (is_birth w.change) birth (no_birth_effect s key Effect.Taken w e))
birth_keyed s client (Call.TrackNode key) (Reply.Tracker id) w e birth fresh =
    absurd (both_ways (is_birth w.change) birth (no_birth_effect s key Effect.Tracked w e))
birth_keyed s client _ _ w e birth fresh = no_work e

-- the copy, once it is changed as the reply says, is sound
pub changed_copy : (s : State) (limits : Bound) (client : ℕ) (call : Call) (reply : Reply) (b : Start) →
    IsAnswer limits (readings_of s) client call reply → IsStart s (work_of s client call reply) (Some b) →
    IsSound (changed b.change (unwrap_or (new_key reply) no_key) (collection_of b.scene))
changed_copy s limits client call reply b answer before = by (work_of s client call reply) refl before
  where
    -- by cases: with work the changed collection fits, since the copy shows it
    by : (o : Option Work) → work_of s client call reply ≡ o → IsStart s o (Some b) →
        IsSound (changed b.change (unwrap_or (new_key reply) no_key) (collection_of b.scene))
    by None e absent = absurd absent
    by (Some w) e copy =
        let key : NodeKey = unwrap_or (new_key reply) no_key in
        let fresh : is_birth w.change ≡ true → list_any (is_of key) (collection_or_new s.forest w.collection).nodes ≡ false =
        λ birth. ap (λ (c : Collection). list_any (is_of key) c.nodes) (sym copy.scene)
        ∙ copy.fresh key (birth_keyed s client call reply w e birth answer.is_new) in
        let sound : IsSound (changed w.change key (collection_or_new s.forest w.collection)) =
        changed_sound s.forest w.collection w.change key copy.may (subst (λ (c : Collection). IsSound c) copy.scene copy.sound) fresh in
        subst (λ (c : Collection). IsSound (changed b.change key c)) (sym copy.scene)
        (subst (λ (x : Change). IsSound (changed x key (collection_or_new s.forest w.collection))) (sym copy.change) sound)

-- there is room for its trackers
pub roomy_copy : (s : State) (o : Option Work) (b : Start) → IsStart s o (Some b) → leaves_tracker_room b.change b.scene.nodes.items ≡ true
roomy_copy s None b absent = absurd absent
roomy_copy s (Some w) b copy = copy.room

-- the stages of the walk over the copy are those of the event
pub walked : (old new : State) (reply : Reply) (o : Option Work) (b : Start) (st : List Stage) → new.pool ≡ old.pool →
    IsStart old o (Some b) → StagesOf new.pool (total new.holds) b.others.items b.change (collection_of b.scene)
    (changed b.change (unwrap_or (new_key reply) no_key) (collection_of b.scene)) st →
    StagesIn old (total new.holds) reply o st
walked old new reply None b st same absent by = absurd absent
walked old new reply (Some w) b st same copy by =
    subst (λ (x : Change). StagesOf old.pool (total new.holds) (beside old.forest w.collection) x
    (collection_or_new old.forest w.collection)
    (changed x (unwrap_or (new_key reply) no_key) (collection_or_new old.forest w.collection)) st) copy.change
    (subst (λ (c : Collection). StagesOf old.pool (total new.holds) (beside old.forest w.collection) b.change c
    (changed b.change (unwrap_or (new_key reply) no_key) c) st) copy.scene
    (subst (λ (is : List Interval). StagesOf old.pool (total new.holds) is b.change (collection_of b.scene)
    (changed b.change (unwrap_or (new_key reply) no_key) (collection_of b.scene)) st) copy.others
    (subst (λ (pool : ℕ). StagesOf pool (total new.holds) b.others.items b.change (collection_of b.scene)
    (changed b.change (unwrap_or (new_key reply) no_key) (collection_of b.scene)) st) same by)))

-- and where nothing was copied, there is none: nothing is changed, or nothing forced
pub unwalked : (old new : State) (client : ℕ) (call : Call) (reply : Reply) → Follows old new client call reply → (o : Option Work) →
    work_of old client call reply ≡ o → IsStart old o None → StagesIn old (total new.holds) reply o []
unwalked old new client call reply follows None is none = refl
unwalked old new client call reply follows (Some w) is none =
    unforced old new none.gone none.history client call reply none.shows follows w is none.may none.still

-- what a walk made of equal things are the stages of the change
pub stages_walked : (pool size : ℕ) (counted handles : Handles) (others beyond : List Interval) (change : Change)
    (c from start left : Collection) (own st : List Stage) → pool ≡ size → counted ≡ handles → others ≡ beyond → from ≡ start →
    own ≡ own_stage change c → SettlesInStages pool counted others from left own st → StagesOf size handles beyond change c start st
stages_walked pool size counted handles others beyond change c from start left own st pools counts pages starts owns by = (
  left,
  subst (λ (p : ℕ). SettlesInStages p handles beyond start left (own_stage change c) st) pools
      (subst (λ (h : Handles). SettlesInStages pool h beyond start left (own_stage change c) st) counts
      (subst (λ (is : List Interval). SettlesInStages pool counted is start left (own_stage change c) st) pages
      (subst (λ (x : Collection). SettlesInStages pool counted others x left (own_stage change c) st) starts
      (subst (λ (o : List Stage). SettlesInStages pool counted others from left o st) owns by)))),
)

-- what holds where a result is there holds of it as an option
pub if_ok_some : {A E : Type 0} (P Q : A → Type 0) (r : Result A E) → ((x : A) → P x → Q x) → IfOk r P → IfSome (result_ok r) Q
if_ok_some P Q (Ok x) on h = on x h
if_ok_some P Q (Err e) on h = tt
