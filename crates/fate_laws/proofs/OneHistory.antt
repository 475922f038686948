-- The turns of a play, and how far its actors are then, determine its history.
use Rattle.fate_laws.proofs.Common.{Bound, Call, Entry, IsAnswer, List, NodeKey, None, Option, Plays, Reply, Some, Turn, [], ap}
use Rattle.fate_laws.proofs.Common.{both_ways, either_way, eqb-true, inl, inr, joins, map, map-Some, option_map, readings, refl, subst}
use Rattle.fate_laws.proofs.Common.{sym, timeline, ℕ, ◌++◌, ◌∙◌, ◌∷◌, ◌≡◌}
use Rattle.std.proofs.Common.{◌==◌, slice_get, slice_set}
use Rattle.std.proofs.lemmas.Bool.{eq-eqb}
use Rattle.sm_names.specs.Answers.{Readings, answer, key_told}
use Rattle.sm_names.specs.Legality.{AreAnswers}
use Rattle.sm_names.proofs.SamenessLaws.{some-injective}
use Rattle.history_laws.proofs.GrowthLaws.{AreAnswers-append}
use Rattle.actor_scripts.specs.declared.object.ActorObject.{ActorObject}
use Rattle.actor_scripts.specs.declared.object.StepCall.{StepCall}
use Rattle.actor_scripts.specs.ActorStates.{Known, step_call}
use Rattle.explore_model.specs.declared.plan.Plan.{Plan}
use Rattle.explore_model.specs.declared.plan.Planned.{Planned}
use Rattle.actor_plays.specs.Leaves.{Leave, all_objects, leave_after, leave_call, vanishing_call}
use Rattle.actor_plays.specs.Plays.{Stage, first_stage, leaves_by, left, next_step, passed, stage_after}
use Rattle.actor_plays.proofs.PositionLaws.{get-other, get-set}

-- ---- lists

-- lists with one element more are equal if their parts are
snoc-parts : {A : Type 0} (xs ys : List A) (x y : A) → xs ++ x ∷ [] ≡ ys ++ y ∷ [] → (xs ≡ ys) × (x ≡ y)
snoc-parts [] [] x y e = (refl, cc)
snoc-parts [] (b ∷ []) x y e = cc
snoc-parts [] (b ∷ c ∷ ys) x y e = cc
snoc-parts (a ∷ []) [] x y e = cc
snoc-parts (a ∷ c ∷ xs) [] x y e = cc
snoc-parts {A = A} (a ∷ xs) (b ∷ ys) x y e =
    let first : a ≡ b = cc in
    let rest : xs ++ x ∷ [] ≡ ys ++ y ∷ [] = cc in
    let on = snoc-parts xs ys x y rest in
    ((λ i. first i ∷ on.0 i), on.1)

-- no list with one element more is empty
snoc-not-nil : {A : Type 0} (xs : List A) (x : A) → xs ++ x ∷ [] ≡ [] → ⊥
snoc-not-nil [] x e = cc
snoc-not-nil (y ∷ ys) x e = cc

-- ---- what is read of the stages of two plays

-- at each place the same is read
abbrev Agree : {X : Type 0} → (Stage → X) → List Stage → List Stage → Type 0
Agree read xs ys = (place : ℕ) → option_map read (slice_get xs place) ≡ option_map read (slice_get ys place)

module _ {X : Type 0} (read : Stage → X) where
  -- so it is at a place where there are stages
  agree_at : (xs ys : List Stage) (i : ℕ) (x y : Stage) → Agree read xs ys → slice_get xs i ≡ Some x → slice_get ys i ≡ Some y →
      read x ≡ read y
  agree_at xs ys i x y same at too =
      some-injective (read x) (read y) (sym (ap (option_map read) at) ∙ (same i ∙ ap (option_map read) too))

  -- stages that read the same take the place of those there
  agree_put : (xs ys : List Stage) (i : ℕ) (x y new more : Stage) → slice_get xs i ≡ Some x → slice_get ys i ≡ Some y →
      Agree read xs ys → read new ≡ read more → Agree read (slice_set xs i new) (slice_set ys i more)
  agree_put xs ys i x y new more at too same put j = elim (either_way (i == j)) [
    | inl e ↦
        let is : i ≡ j = eqb-true i j e in
        subst (λ (k : ℕ). option_map read (slice_get (slice_set xs i new) k) ≡ option_map read (slice_get (slice_set ys i more) k)) is
        (ap (option_map read) (get-set xs i x new at) ∙ (ap Some put ∙ sym (ap (option_map read) (get-set ys i y more too))))
    | inr e ↦
        let apart : i ≡ j → ⊥ = λ is. both_ways (i == j) (eq-eqb i j is) e in
        ap (option_map read) (get-other xs i j new apart)
        ∙ (same j ∙ sym (ap (option_map read) (get-other ys i j more apart)))
  ]

  -- and those that were there
  agree_back : (xs ys : List Stage) (i : ℕ) (x y new more : Stage) → slice_get xs i ≡ Some x → slice_get ys i ≡ Some y →
      Agree read (slice_set xs i new) (slice_set ys i more) → read x ≡ read y → Agree read xs ys
  agree_back xs ys i x y new more at too same was j = elim (either_way (i == j)) [
    | inl e ↦
        let is : i ≡ j = eqb-true i j e in
        subst (λ (k : ℕ). option_map read (slice_get xs k) ≡ option_map read (slice_get ys k)) is
        (ap (option_map read) at ∙ (ap Some was ∙ sym (ap (option_map read) too)))
    | inr e ↦
        let apart : i ≡ j → ⊥ = λ is. both_ways (i == j) (eq-eqb i j is) e in
        sym (ap (option_map read) (get-other xs i j new apart))
        ∙ (same j ∙ ap (option_map read) (get-other ys i j more apart))
  ]

  -- one that reads the same as the one there changes nothing
  agree_same : (xs : List Stage) (i : ℕ) (x new : Stage) → slice_get xs i ≡ Some x → read new ≡ read x →
      Agree read (slice_set xs i new) xs
  agree_same xs i x new at put j = elim (either_way (i == j)) [
    | inl e ↦
        subst (λ (k : ℕ). option_map read (slice_get (slice_set xs i new) k) ≡ option_map read (slice_get xs k)) (eqb-true i j e)
        (ap (option_map read) (get-set xs i x new at) ∙ (ap Some put ∙ sym (ap (option_map read) at)))
    | inr e ↦ ap (option_map read) (get-other xs i j new (λ is. both_ways (i == j) (eq-eqb i j is) e))
  ]

-- what the actor knows, what its calls made, and how far it is in leaving
abbrev core : Stage → Known × List (ℕ × Reply) × Option Leave
core stage = (stage.known, stage.made, stage.vanish)

-- what its calls made
abbrev made : Stage → List (ℕ × Reply)
made stage = stage.made

-- where all is the same, so is what calls made
made_of : (xs ys : List Stage) → Agree core xs ys → Agree made xs ys
made_of xs ys same j = sym (by (slice_get xs j)) ∙ (ap (option_map (λ (c : Known × List (ℕ × Reply) × Option Leave). c.1)) (same j)
    ∙ by (slice_get ys j))
  where
    -- it is read of the whole
    by : (o : Option Stage) → option_map (λ (c : Known × List (ℕ × Reply) × Option Leave). c.1) (option_map core o) ≡ option_map made o
    by None = refl
    by (Some s) = refl

-- ---- the last turn

module _ (plans : List Plan) (clients : List ℕ) where
  -- how the play came to its last turn, after which actors only passed steps
  data Last : List Turn → List Entry → List Stage → Type 0 where
    Begun : (stages : List Stage) → Agree core (map (λ client. first_stage) clients) stages → Last [] (joins clients) stages
    Called : (turns : List Turn) (history : List Entry) (before stages : List Stage) (actor client : ℕ) (stage : Stage) (next : Planned)
        (asked : StepCall) (reply : Reply) →
        Plays plans clients turns history before → slice_get before actor ≡ Some stage → next_step plans actor stage ≡ Some next →
        step_call clients stage.known next.step ≡ Some asked → slice_get clients actor ≡ Some client →
        Agree core (slice_set before actor (stage_after stage next asked reply)) stages →
        Last (turns ++ Turn.Step actor ∷ []) (history ++ (client, asked.call, reply) ∷ []) stages
    Gone : (turns : List Turn) (history : List Entry) (before stages : List Stage) (actor client : ℕ) (stage : Stage) (call : Call)
        (reply : Reply) →
        Plays plans clients turns history before → slice_get before actor ≡ Some stage → leaves_by stage ≡ Some call →
        slice_get clients actor ≡ Some client → Agree core (slice_set before actor (left stage reply)) stages →
        Last (turns ++ Turn.Leave actor ∷ []) (history ++ (client, call, reply) ∷ []) stages

  -- other stages that read the same
  last_on : (turns : List Turn) (history : List Entry) (stages more : List Stage) → Last turns history stages → Agree core stages more →
      Last turns history more
  last_on _ _ _ more (Begun stages same) on = Begun more (λ j. same j ∙ on j)
  last_on _ _ _ more (Called turns history before stages actor client stage next asked reply p at step call caller same) on =
      Called turns history before more actor client stage next asked reply p at step call caller (λ j. same j ∙ on j)
  last_on _ _ _ more (Gone turns history before stages actor client stage call reply p at by caller same) on =
      Gone turns history before more actor client stage call reply p at by caller (λ j. same j ∙ on j)

  -- each play has one
  last : (turns : List Turn) (history : List Entry) (stages : List Stage) → Plays plans clients turns history stages →
      Last turns history stages
  last _ _ _ (Plays.Starts count) = Begun (map (λ client. first_stage) clients) (λ j. refl)
  last _ _ _ (Plays.Passes turns history stages actor stage next s p at step silent shows looks) =
      last_on turns history stages (slice_set stages actor (passed stage)) (last turns history stages p)
      (λ j. sym (agree_same core stages actor stage (passed stage) at refl j))
  last _ _ _ (Plays.Calls turns history stages actor client stage next asked reply p at step call caller waits) =
      Called turns history stages (slice_set stages actor (stage_after stage next asked reply)) actor client stage next asked reply p
      at step
      call caller (λ j. refl)
  last _ _ _ (Plays.Leaves turns history stages actor client stage call reply p at by caller) =
      Gone turns history stages (slice_set stages actor (left stage reply)) actor client stage call reply p at by caller (λ j. refl)

-- ---- the answer to a call by which an actor leaves

-- it has no new node: a Shut, a Collect, a Close or a drop
keyless : (limits : Bound) (r : Readings) (client : ℕ) (slots : List (Option ActorObject)) (l : Option Leave) (call : Call) →
    leave_call slots l ≡ Some call → (one other : NodeKey) → answer limits r client one call ≡ answer limits r client other call
keyless limits r client slots None call by one other =
    subst (λ (c : Call). answer limits r client one c ≡ answer limits r client other c) (some-injective Call.Shut call by) refl
keyless limits r client slots (Some l) call by one other = elim (either_way (l.waiting == 0)) [
  | inl e ↦
      let t = map-Some vanishing_call (slice_get (all_objects l.collected slots) l.parted) call (rw e at by) in
      subst (λ (c : Call). answer limits r client one c ≡ answer limits r client other c) t.2 (parts t.0)
  | inr e ↦ subst (λ (c : Call). answer limits r client one c ≡ answer limits r client other c)
      (some-injective Call.Collect call (rw e at by)) refl
]
  where
    -- it parts with an object
    parts : (o : ActorObject) → answer limits r client one (vanishing_call o) ≡ answer limits r client other (vanishing_call o)
    parts (ActorObject.Token key collection) = refl
    parts (ActorObject.Collection key collection) = refl
    parts (ActorObject.Handle buffer strength) = refl

-- ---- one history

module _ (plans : List Plan) (clients : List ℕ) (pool : ℕ) (limits : Bound) where
  -- a play by these turns that came so far has this history
  abbrev IsOne : List Turn → List Entry → List Stage → Type 0
  IsOne turns history stages = (other : List Entry) (more : List Stage) → Plays plans clients turns other more →
      AreAnswers pool limits [] history → AreAnswers pool limits [] other → Agree made stages more →
      (history ≡ other) × Agree core stages more

  -- the play came to its last turn by this history
  module _ (turns : List Turn) (history : List Entry) (stages : List Stage) (actor client : ℕ) (stage : Stage)
      (at : slice_get stages actor ≡ Some stage) (caller : slice_get clients actor ≡ Some client) (one : IsOne turns history stages) where
    -- the same step makes the same call
    same_call : (next : Planned) (asked : StepCall) (reply : Reply) → next_step plans actor stage ≡ Some next →
        step_call clients stage.known next.step ≡ Some asked → AreAnswers pool limits [] (history ++ (client, asked.call, reply) ∷ []) →
        (h : List Entry) (before more : List Stage) (c : ℕ) (s : Stage) (n : Planned) (a : StepCall) (r : Reply) →
        Plays plans clients turns h before → slice_get before actor ≡ Some s → next_step plans actor s ≡ Some n →
        step_call clients s.known n.step ≡ Some a → slice_get clients actor ≡ Some c →
        Agree core (slice_set before actor (stage_after s n a r)) more → AreAnswers pool limits [] (h ++ (c, a.call, r) ∷ []) →
        Agree made (slice_set stages actor (stage_after stage next asked reply)) more →
        (history ++ (client, asked.call, reply) ∷ [] ≡ h ++ (c, a.call, r) ∷ [])
        × Agree core (slice_set stages actor (stage_after stage next asked reply)) more
    same_call next asked reply step call legal h before more c s n a r p there steps calls called on too same =
        let both : Agree made (slice_set stages actor (stage_after stage next asked reply)) (slice_set before actor (stage_after s n a r)) =
        λ j. same j ∙ sym (made_of (slice_set before actor (stage_after s n a r)) more on j) in
        let parts = snoc-parts stage.made s.made (stage.at, reply) (s.at, r)
        (agree_at made (slice_set stages actor (stage_after stage next asked reply)) (slice_set before actor (stage_after s n a r)) actor
        (stage_after stage next asked reply) (stage_after s n a r) both (get-set stages actor stage (stage_after stage next asked reply) at)
        (get-set before actor s (stage_after s n a r) there)) in
        let back = one h before p (AreAnswers-append pool limits [] history ((client, asked.call, reply) ∷ []) legal).0
        (AreAnswers-append pool limits [] h ((c, a.call, r) ∷ []) too).0
        (agree_back made stages before actor stage s (stage_after stage next asked reply) (stage_after s n a r) at there both parts.0) in
        let here : core stage ≡ core s = agree_at core stages before actor stage s back.1 at there in
        let is : stage ≡ s = λ i. record { at = (parts.1 i).0; known = (here i).0; made = (here i).1; vanish = (here i).2 } in
        let is_next : next ≡ n = some-injective next n (sym step ∙ (ap (next_step plans actor) is ∙ steps)) in
        let is_asked : asked ≡ a = some-injective asked a
        (sym call ∙ ((λ i. step_call clients (is i).known (is_next i).step) ∙ calls)) in
        let is_reply : reply ≡ r = ap (λ (m : ℕ × Reply). m.1) parts.1 in
        let is_client : client ≡ c = some-injective client c (sym caller ∙ called) in (
          (λ i. back.0 i ++ (is_client i, (is_asked i).call, is_reply i) ∷ []),
          λ j. agree_put core stages before actor stage s (stage_after stage next asked reply) (stage_after s n a r) at there back.1
              (λ i. core (stage_after (is i) (is_next i) (is_asked i) (is_reply i))) j ∙ on j,
        )

    -- an actor that leaves makes the same call, which is answered the same
    same_leave : (call : Call) (reply : Reply) → leaves_by stage ≡ Some call →
        AreAnswers pool limits [] (history ++ (client, call, reply) ∷ []) →
        (h : List Entry) (before more : List Stage) (c : ℕ) (s : Stage) (a : Call) (r : Reply) →
        Plays plans clients turns h before → slice_get before actor ≡ Some s → leaves_by s ≡ Some a → slice_get clients actor ≡ Some c →
        Agree core (slice_set before actor (left s r)) more → AreAnswers pool limits [] (h ++ (c, a, r) ∷ []) →
        Agree made (slice_set stages actor (left stage reply)) more →
        (history ++ (client, call, reply) ∷ [] ≡ h ++ (c, a, r) ∷ []) × Agree core (slice_set stages actor (left stage reply)) more
    same_leave call reply by legal h before more c s a r p there goes called on too same =
        let both : Agree made (slice_set stages actor (left stage reply)) (slice_set before actor (left s r)) =
        λ j. same j ∙ sym (made_of (slice_set before actor (left s r)) more on j) in
        let first = AreAnswers-append pool limits [] history ((client, call, reply) ∷ []) legal in
        let second = AreAnswers-append pool limits [] h ((c, a, r) ∷ []) too in
        let back = one h before p first.0 second.0
        (agree_back made stages before actor stage s (left stage reply) (left s r) at there both
        (agree_at made (slice_set stages actor (left stage reply)) (slice_set before actor (left s r)) actor (left stage reply) (left s r)
        both (get-set stages actor stage (left stage reply) at) (get-set before actor s (left s r) there))) in
        let here : core stage ≡ core s = agree_at core stages before actor stage s back.1 at there in
        let is_call : call ≡ a = some-injective call a
        (sym by ∙ ((λ i. leave_call (here i).0.objects (here i).2) ∙ goes)) in
        let is_client : client ≡ c = some-injective client c (sym caller ∙ called) in
        let other : IsAnswer limits (readings (timeline pool history)) client call r =
        subst (λ (m : Call). IsAnswer limits (readings (timeline pool history)) client m r) (sym is_call)
        (subst (λ (k : ℕ). IsAnswer limits (readings (timeline pool history)) k a r) (sym is_client)
        (subst (λ (l : List Entry). IsAnswer limits (readings (timeline pool l)) c a r) (sym back.0) second.1.0)) in
        let is_reply : reply ≡ r = first.1.0.told
        ∙ (keyless limits (readings (timeline pool history)) client stage.known.objects stage.vanish call by (key_told reply) (key_told r)
        ∙ sym other.told) in (
          (λ i. back.0 i ++ (is_client i, is_call i, is_reply i) ∷ []),
          λ j. agree_put core stages before actor stage s (left stage reply) (left s r) at there back.1
              (λ i. ((here i).0, (here i).1, Some (leave_after (here i).2 (is_reply i)))) j ∙ on j,
        )

    -- the last turn of the other play is that call
    call_last : (next : Planned) (asked : StepCall) (reply : Reply) → next_step plans actor stage ≡ Some next →
        step_call clients stage.known next.step ≡ Some asked → AreAnswers pool limits [] (history ++ (client, asked.call, reply) ∷ []) →
        (all : List Turn) (other : List Entry) (more : List Stage) → all ≡ turns ++ Turn.Step actor ∷ [] →
        Last plans clients all other more → AreAnswers pool limits [] other →
        Agree made (slice_set stages actor (stage_after stage next asked reply)) more →
        (history ++ (client, asked.call, reply) ∷ [] ≡ other)
        × Agree core (slice_set stages actor (stage_after stage next asked reply)) more
    call_last next asked reply step call legal _ _ more e (Begun _ on) too same = absurd (snoc-not-nil turns (Turn.Step actor) (sym e))
    call_last next asked reply step call legal _ _ more e (Gone ts h before _ b c s a r p there goes called on) too same =
        let parts = snoc-parts ts turns (Turn.Leave b) (Turn.Step actor) e in
        let clash : Turn.Leave b ≡ Turn.Step actor = parts.1 in
        cc
    call_last next asked reply step call legal _ _ more e (Called ts h before _ b c s n a r p there steps calls called on) too same =
        let parts = snoc-parts ts turns (Turn.Step b) (Turn.Step actor) e in
        let turn : Turn.Step b ≡ Turn.Step actor = parts.1 in
        let place : b ≡ actor = cc in
        same_call next asked reply step call legal h before more c s n a r
        (subst (λ (l : List Turn). Plays plans clients l h before) parts.0 p)
        (subst (λ (k : ℕ). slice_get before k ≡ Some s) place there) (subst (λ (k : ℕ). next_step plans k s ≡ Some n) place steps) calls
        (subst (λ (k : ℕ). slice_get clients k ≡ Some c) place called)
        (subst (λ (k : ℕ). Agree core (slice_set before k (stage_after s n a r)) more) place on) too same

    -- and so is that by which an actor leaves
    leave_last : (call : Call) (reply : Reply) → leaves_by stage ≡ Some call →
        AreAnswers pool limits [] (history ++ (client, call, reply) ∷ []) →
        (all : List Turn) (other : List Entry) (more : List Stage) → all ≡ turns ++ Turn.Leave actor ∷ [] →
        Last plans clients all other more → AreAnswers pool limits [] other → Agree made (slice_set stages actor (left stage reply)) more →
        (history ++ (client, call, reply) ∷ [] ≡ other) × Agree core (slice_set stages actor (left stage reply)) more
    leave_last call reply by legal _ _ more e (Begun _ on) too same = absurd (snoc-not-nil turns (Turn.Leave actor) (sym e))
    leave_last call reply by legal _ _ more e (Called ts h before _ b c s n a r p there steps calls called on) too same =
        let parts = snoc-parts ts turns (Turn.Step b) (Turn.Leave actor) e in
        let clash : Turn.Step b ≡ Turn.Leave actor = parts.1 in
        cc
    leave_last call reply by legal _ _ more e (Gone ts h before _ b c s a r p there goes called on) too same =
        let parts = snoc-parts ts turns (Turn.Leave b) (Turn.Leave actor) e in
        let turn : Turn.Leave b ≡ Turn.Leave actor = parts.1 in
        let place : b ≡ actor = cc in
        same_leave call reply by legal h before more c s a r (subst (λ (l : List Turn). Plays plans clients l h before) parts.0 p)
        (subst (λ (k : ℕ). slice_get before k ≡ Some s) place there) goes (subst (λ (k : ℕ). slice_get clients k ≡ Some c) place called)
        (subst (λ (k : ℕ). Agree core (slice_set before k (left s r)) more) place on) too same

  -- a play without a turn has the joins alone
  begun_last : (all : List Turn) (other : List Entry) (more : List Stage) → all ≡ [] → Last plans clients all other more →
      (joins clients ≡ other) × Agree core (map (λ client. first_stage) clients) more
  begun_last _ _ more e (Begun _ on) = (refl, on)
  begun_last _ _ more e (Called ts h before _ b c s n a r p there steps calls called on) = absurd (snoc-not-nil ts (Turn.Step b) e)
  begun_last _ _ more e (Gone ts h before _ b c s a r p there goes called on) = absurd (snoc-not-nil ts (Turn.Leave b) e)

  -- By induction on the turns: the calls are those of the same steps, and answered the same.
  pub one_history : (turns : List Turn) (history : List Entry) (stages : List Stage) → Plays plans clients turns history stages →
      IsOne turns history stages
  one_history _ _ _ (Plays.Starts count) other more q legal too same = begun_last [] other more refl (last plans clients [] other more q)
  one_history _ _ _ (Plays.Passes turns history stages actor stage next s p at step silent shows looks) other more q legal too same =
      let on = one_history turns history stages p other more q legal too
      (λ j. sym (agree_same made stages actor stage (passed stage) at refl j) ∙ same j) in
      (on.0, λ j. agree_same core stages actor stage (passed stage) at refl j ∙ on.1 j)
  one_history _ _ _ (Plays.Calls turns history stages actor client stage next asked reply p at step call caller waits) other more q legal
      too same = call_last turns history stages actor client stage at caller (λ h m. one_history turns history stages p h m) next
      asked reply
      step call legal (turns ++ Turn.Step actor ∷ []) other more refl (last plans clients (turns ++ Turn.Step actor ∷ []) other more q) too
      same
  one_history _ _ _ (Plays.Leaves turns history stages actor client stage call reply p at by caller) other more q legal too same =
      leave_last turns history stages actor client stage at caller (λ h m. one_history turns history stages p h m) call reply by legal
      (turns ++ Turn.Leave actor ∷ []) other more refl (last plans clients (turns ++ Turn.Leave actor ∷ []) other more q) too same
