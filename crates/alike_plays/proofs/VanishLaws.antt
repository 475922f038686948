-- How actors that are alike leave, and go on.
use Rattle.alike_plays.proofs.Common.{ActorObject, AreAlikeKnown, AreAlikeStages, Bool, Call, Fired, KeepsIds, KeepsKeys, Known, Leave}
use Rattle.alike_plays.proofs.Common.{List, NodeKey, None, Option, Plan, Planned, Reply, Some, Stage, Step, StepCall, [], all_objects, ap}
use Rattle.alike_plays.proofs.Common.{asked_renamed, call_renamed, cond, false, flat_map, has_fired, is_silent, is_some, leave_after}
use Rattle.alike_plays.proofs.Common.{leave_call, leave_renamed, leaves_by, left, made_of, made_renamed, map, map-append, new_objects}
use Rattle.alike_plays.proofs.Common.{next_step, not, object_renamed, option_and_then, option_map, option_map_or, passed, polls, refl}
use Rattle.alike_plays.proofs.Common.{reply_renamed, slice_get, slice_get-map, stage_after, steps_of, sym, tells_made, true}
use Rattle.alike_plays.proofs.Common.{vanishing_call, ℕ, ◌&&◌, ◌++◌, ◌+◌, ◌-◌, ◌==◌, ◌∙◌, ◌∷◌, ◌≡◌}
use Rattle.std.proofs.lemmas.List.Elements.{filter-append}
use Rattle.actor_plays.specs.Leaves.{waiting_told}
use Rattle.alike_plays.proofs.Knowing.{gives-renamed, knows-alike}

-- ---- with what an actor parts

-- it is an end
abbrev pub is_end : ActorObject → Bool
is_end (ActorObject.Token key collection) = true
is_end (ActorObject.Collection key collection) = true
is_end (ActorObject.Handle buffer strength) = false

-- it is a token
abbrev pub is_token : ActorObject → Bool
is_token (ActorObject.Token key collection) = true
is_token (ActorObject.Collection key collection) = false
is_token (ActorObject.Handle buffer strength) = false

-- it is a collection
abbrev pub is_collection : ActorObject → Bool
is_collection (ActorObject.Token key collection) = false
is_collection (ActorObject.Collection key collection) = true
is_collection (ActorObject.Handle buffer strength) = false

-- it is a handle
abbrev pub is_handle : ActorObject → Bool
is_handle (ActorObject.Token key collection) = false
is_handle (ActorObject.Collection key collection) = false
is_handle (ActorObject.Handle buffer strength) = true

-- the object, if it passes
abbrev pub picked : (ActorObject → Bool) → ActorObject → List ActorObject
picked test object = cond (test object) (object ∷ []) []

-- what lies in a slot, if it passes
abbrev pub picked_there : (ActorObject → Bool) → Option ActorObject → List ActorObject
picked_there test slot = option_map_or (picked test) slot []

-- By the definition: the ends that were collected, the tokens, the collections, the handles that were collected, the handles.
pub parts_with : (collected : List ActorObject) (slots : List (Option ActorObject)) →
    all_objects collected slots
    ≡ flat_map (picked is_end) collected ++ (flat_map (picked_there is_token) slots
    ++ (flat_map (picked_there is_collection) slots
    ++ (flat_map (picked is_handle) collected ++ flat_map (picked_there is_handle) slots)))
parts_with collected slots = refl

module _ (to : NodeKey → NodeKey) (id : ℕ → ℕ) where
  -- a test that reads no names
  abbrev IsBlind : (ActorObject → Bool) → Type 0
  IsBlind test = (object : ActorObject) → test (object_renamed to id object) ≡ test object

  -- By the object.
  blind_end : IsBlind is_end
  blind_end (ActorObject.Token key collection) = refl
  blind_end (ActorObject.Collection key collection) = refl
  blind_end (ActorObject.Handle buffer strength) = refl

  -- By the object.
  blind_token : IsBlind is_token
  blind_token (ActorObject.Token key collection) = refl
  blind_token (ActorObject.Collection key collection) = refl
  blind_token (ActorObject.Handle buffer strength) = refl

  -- By the object.
  blind_collection : IsBlind is_collection
  blind_collection (ActorObject.Token key collection) = refl
  blind_collection (ActorObject.Collection key collection) = refl
  blind_collection (ActorObject.Handle buffer strength) = refl

  -- By the object.
  blind_handle : IsBlind is_handle
  blind_handle (ActorObject.Token key collection) = refl
  blind_handle (ActorObject.Collection key collection) = refl
  blind_handle (ActorObject.Handle buffer strength) = refl

  -- By whether it passes.
  picked-renamed : (test : ActorObject → Bool) → IsBlind test → (object : ActorObject) →
      picked test (object_renamed to id object) ≡ map (object_renamed to id) (picked test object)
  picked-renamed test blind object =
      ap (λ (b : Bool). cond b (object_renamed to id object ∷ []) []) (blind object) ∙ from (test object)
    where
      -- by the two cases
      from : (b : Bool) → cond b (object_renamed to id object ∷ []) [] ≡ map (object_renamed to id) (cond b (object ∷ []) [])
      from true = refl
      from false = refl

  -- By whether something lies in the slot.
  there-renamed : (test : ActorObject → Bool) → IsBlind test → (slot : Option ActorObject) →
      picked_there test (option_map (object_renamed to id) slot) ≡ map (object_renamed to id) (picked_there test slot)
  there-renamed test blind None = refl
  there-renamed test blind (Some object) = picked-renamed test blind object

  -- Part by part.
  flat-renamed : {A B : Type 0} (f : B → List ActorObject) (g : A → List ActorObject) (r : A → B) →
      ((x : A) → f (r x) ≡ map (object_renamed to id) (g x)) → (xs : List A) →
      flat_map f (map r xs) ≡ map (object_renamed to id) (flat_map g xs)
  flat-renamed f g r same [] = refl
  flat-renamed f g r same (x ∷ xs) =
      (λ i. same x i ++ flat-renamed f g r same xs i) ∙ sym (map-append (object_renamed to id) (g x) (flat_map g xs))

  -- Two parts, of which each is renamed.
  both-renamed : (xs ys us vs : List ActorObject) → us ≡ map (object_renamed to id) xs → vs ≡ map (object_renamed to id) ys →
      us ++ vs ≡ map (object_renamed to id) (xs ++ ys)
  both-renamed xs ys us vs one other = (λ i. one i ++ other i) ∙ sym (map-append (object_renamed to id) xs ys)

  -- Those that were collected and pass.
  collected-renamed : (test : ActorObject → Bool) → IsBlind test → (collected : List ActorObject) →
      flat_map (picked test) (map (object_renamed to id) collected)
      ≡ map (object_renamed to id) (flat_map (picked test) collected)
  collected-renamed test blind collected =
      flat-renamed (picked test) (picked test) (object_renamed to id) (picked-renamed test blind) collected

  -- Those in slots that pass.
  slots-renamed : (test : ActorObject → Bool) → IsBlind test → (slots : List (Option ActorObject)) →
      flat_map (picked_there test) (map (option_map (object_renamed to id)) slots)
      ≡ map (object_renamed to id) (flat_map (picked_there test) slots)
  slots-renamed test blind slots =
      flat-renamed (picked_there test) (picked_there test) (option_map (object_renamed to id)) (there-renamed test blind) slots

  -- An actor parts with the same objects, in order.
  pub all-renamed : (collected : List ActorObject) (slots : List (Option ActorObject)) →
      all_objects (map (object_renamed to id) collected) (map (option_map (object_renamed to id)) slots)
      ≡ map (object_renamed to id) (all_objects collected slots)
  all-renamed collected slots =
      both-renamed (flat_map (picked is_end) collected) _ (flat_map (picked is_end) (map (object_renamed to id) collected)) _
      (collected-renamed is_end blind_end collected)
      (both-renamed (flat_map (picked_there is_token) slots) _
      (flat_map (picked_there is_token) (map (option_map (object_renamed to id)) slots)) _ (slots-renamed is_token blind_token slots)
      (both-renamed (flat_map (picked_there is_collection) slots) _
      (flat_map (picked_there is_collection) (map (option_map (object_renamed to id)) slots)) _
      (slots-renamed is_collection blind_collection slots)
      (both-renamed (flat_map (picked is_handle) collected) (flat_map (picked_there is_handle) slots)
      (flat_map (picked is_handle) (map (object_renamed to id) collected))
      (flat_map (picked_there is_handle) (map (option_map (object_renamed to id)) slots))
      (collected-renamed is_handle blind_handle collected) (slots-renamed is_handle blind_handle slots))))

  -- By the object.
  vanish_calls-renamed : (object : ActorObject) → vanishing_call (object_renamed to id object) ≡ call_renamed to id (vanishing_call object)
  vanish_calls-renamed (ActorObject.Token key collection) = refl
  vanish_calls-renamed (ActorObject.Collection key collection) = refl
  vanish_calls-renamed (ActorObject.Handle buffer strength) = refl

  -- By how far it is: it is shut, collects, or parts with an object.
  leave-renamed : (slots : List (Option ActorObject)) (o : Option Leave) →
      leave_call (map (option_map (object_renamed to id)) slots) (option_map (leave_renamed to id) o)
      ≡ option_map (call_renamed to id) (leave_call slots o)
  leave-renamed slots None = refl
  leave-renamed slots (Some l) =
      ap (λ (p : Option ActorObject). cond (l.waiting == 0) (option_map vanishing_call p) (Some Call.Collect))
      (ap (λ (objects : List ActorObject). slice_get objects l.parted) (all-renamed l.collected slots)
      ∙ slice_get-map (object_renamed to id) (all_objects l.collected slots) l.parted)
      ∙ from (l.waiting == 0) (slice_get (all_objects l.collected slots) l.parted)
    where
      -- by cases
      from : (b : Bool) (p : Option ActorObject) →
          cond b (option_map vanishing_call (option_map (object_renamed to id) p)) (Some Call.Collect)
          ≡ option_map (call_renamed to id) (cond b (option_map vanishing_call p) (Some Call.Collect))
      from true None = refl
      from true (Some object) = ap Some (vanish_calls-renamed object)
      from false p = refl

-- By the reply.
waiting-renamed : (to : NodeKey → NodeKey) (id number : ℕ → ℕ) (reply : Reply) →
    waiting_told (reply_renamed to id number reply) ≡ waiting_told reply
waiting-renamed to id number Reply.Done = refl
waiting-renamed to id number _ = refl

-- By how far it is.
left-renamed : (to : NodeKey → NodeKey) (id number : ℕ → ℕ) (o : Option Leave) (reply : Reply) →
    leave_after (option_map (leave_renamed to id) o) (reply_renamed to id number reply) ≡ leave_renamed to id (leave_after o reply)
left-renamed to id number None reply = λ i. record { waiting = waiting-renamed to id number reply i; collected = []; parted = 0 }
left-renamed to id number (Some l) reply =
    ap (λ (objects : List ActorObject). cond (l.waiting == 0) (record (leave_renamed to id l) { parted = l.parted + 1 })
    (record (leave_renamed to id l) { waiting = l.waiting - 1; collected = objects }))
    ((λ i. map (object_renamed to id) l.collected ++ gives-renamed to id number None Call.Collect reply i)
    ∙ sym (map-append (object_renamed to id) l.collected (new_objects None Call.Collect reply)))
    ∙ from (l.waiting == 0)
  where
    -- by cases: it parts with an object, or collects one
    from : (b : Bool) → cond b (record (leave_renamed to id l) { parted = l.parted + 1 })
        (record (leave_renamed to id l) {
          waiting = l.waiting - 1;
          collected = map (object_renamed to id) (l.collected ++ new_objects None Call.Collect reply);
        })
        ≡ leave_renamed to id (cond b (record l { parted = l.parted + 1 })
        (record l { waiting = l.waiting - 1; collected = l.collected ++ new_objects None Call.Collect reply }))
    from true = refl
    from false = refl

-- ---- stages

-- By the reply: it tells of what was made, or not.
made-more : (to : NodeKey → NodeKey) (id number : ℕ → ℕ) (made again : List (ℕ × Reply)) →
    made_of again ≡ map (made_renamed to id number) (made_of made) → (at place : ℕ) → place ≡ at → (reply : Reply) →
    made_of (again ++ (place, reply_renamed to id number reply) ∷ [])
    ≡ map (made_renamed to id number) (made_of (made ++ (at, reply) ∷ []))
made-more to id number made again same at place is reply =
    filter-append (λ (m : ℕ × Reply). tells_made m.1) again ((place, reply_renamed to id number reply) ∷ [])
    ∙ ((λ i. same i ++ (ap (λ (n : ℕ). made_of ((n, reply_renamed to id number reply) ∷ [])) is ∙ by reply) i)
    ∙ (sym (map-append (made_renamed to id number) (made_of made) (made_of ((at, reply) ∷ [])))
    ∙ ap (map (made_renamed to id number))
    (sym (filter-append (λ (m : ℕ × Reply). tells_made m.1) made ((at, reply) ∷ [])))))
  where
    -- by the reply
    by : (r : Reply) → made_of ((at, reply_renamed to id number r) ∷ []) ≡ map (made_renamed to id number) (made_of ((at, r) ∷ []))
    by (Reply.Token key collection) = refl
    by (Reply.Tracker tracker) = refl
    by _ = refl

module _ (to : NodeKey → NodeKey) (id number : ℕ → ℕ) (one other : Stage) (alike : AreAlikeStages to id number one other) where
  -- The next step is that at the same place, unless the actor leaves.
  pub next-alike : (plans : List Plan) (actor : ℕ) → next_step plans actor other ≡ next_step plans actor one
  next-alike plans actor = λ i. cond (leaves i) None
      (option_and_then (λ (plan : Plan). slice_get (steps_of plan) (alike.at i)) (slice_get plans actor))
    where
      -- by cases on how far it is
      from : (o : Option Leave) → is_some (option_map (leave_renamed to id) o) ≡ is_some o
      from None = refl
      from (Some l) = refl

      -- both leave, or none does
      leaves : is_some other.vanish ≡ is_some one.vanish
      leaves = ap is_some alike.vanish ∙ from one.vanish

  -- The call by which it leaves is the renamed one.
  pub leaves-alike : leaves_by other ≡ option_map (call_renamed to id) (leaves_by one)
  leaves-alike = (λ i. leave_call (alike.known.objects i) (alike.vanish i)) ∙ leave-renamed to id one.known.objects one.vanish

  -- A step is passed.
  pub passed-alike : AreAlikeStages to id number (passed one) (passed other)
  passed-alike = record { at = ap (λ n. n + 1) alike.at; known = alike.known; made = alike.made; vanish = alike.vanish }

  -- A call is answered.
  pub after-alike : KeepsKeys to → KeepsIds id → (next : Planned) (asked : StepCall) (reply : Reply) →
      AreAlikeStages to id number (stage_after one next asked reply)
      (stage_after other next (asked_renamed to id asked) (reply_renamed to id number reply))
  after-alike keeps kept next asked reply = record {
    at = ap (λ n. n + 1) alike.at;
    known = knows-alike to id number keeps kept one.known other.known alike.known next.step asked reply;
    made = made-more to id number one.made other.made alike.made one.at other.at alike.at reply;
    vanish = alike.vanish;
  }

  -- A call by which it leaves is answered.
  pub left-alike : (reply : Reply) →
      AreAlikeStages to id number (left one reply) (left other (reply_renamed to id number reply))
  left-alike reply = record {
    at = alike.at;
    known = alike.known;
    made = alike.made;
    vanish = ap Some (ap (λ (o : Option Leave). leave_after o (reply_renamed to id number reply)) alike.vanish
        ∙ left-renamed to id number one.vanish reply);
  }

-- By the step: it looks at a tracker that fired in both or in none.
pub polls-alike : (to : NodeKey → NodeKey) (id number : ℕ → ℕ) (one other : Known) → AreAlikeKnown to id number one other →
    (first later : List Fired) → ((n : ℕ) → has_fired later (number n) ≡ has_fired first n) → (next : Planned) →
    polls later other next ≡ polls first one next
polls-alike to id number one other alike first later same next = ap (λ (b : Bool). next.waits && b) (by next.step)
  where
    -- by cases on what the label stands for
    from : (o : Option ℕ) → option_map_or (λ n. not (has_fired later n)) (option_map number o) false
        ≡ option_map_or (λ n. not (has_fired first n)) o false
    from None = refl
    from (Some n) = ap not (same n)

    -- by the step
    by : (step : Step) → is_silent later other step ≡ is_silent first one step
    by (Step.Ask r) = refl
    by (Step.Poll label) =
        ap (λ (o : Option ℕ). option_map_or (λ n. not (has_fired later n)) o false) (alike.trackers label) ∙ from (one.trackers label)
