-- Which names an actor knows where it is, and that it never asks to join.
use Rattle.alike_plays.proofs.Common.{ActorObject, Bool, BufferName, Call, Called, Fits, FitsThere, In, In-append, Known, KnownActor}
use Rattle.alike_plays.proofs.Common.{KnownCall, KnownObject, KnownReply, KnownStage, Leave, List, NodeKey, None, Option, Planned, Reply}
use Rattle.alike_plays.proofs.Common.{Some, Stage, Step, StepCall, [], all_objects, ap, call_at, cond, false, first_stage, fits_step}
use Rattle.alike_plays.proofs.Common.{flat_map, inl, inr, is_bound, joined_at, leave_after, leave_call, leaves_by, left, new_objects}
use Rattle.alike_plays.proofs.Common.{node_label, object_at, option_map, option_map_or, passed, refl, slice_get, some-injective}
use Rattle.alike_plays.proofs.Common.{stage_after, step_call, subst, sym, tracker_label, true, vanishing_call, ℕ, ◌++◌, ◌+◌, ◌-◌, ◌==◌}
use Rattle.alike_plays.proofs.Common.{◌∙◌, ◌∷◌, ◌≡◌}
use Rattle.alike_cores.proofs.Known.{In-flat}
use Rattle.alike_plays.proofs.VanishLaws.{is_collection, is_end, is_handle, is_token, parts_with, picked, picked_there}
use Rattle.alike_plays.proofs.Names.{at_in}
use Rattle.alike_plays.proofs.NamesAfter.{after_known, gives_known}

-- ---- what was known is known

module _ (Key Later : NodeKey → Type 0) (Id Next Num Count : ℕ → Type 0) (keys : (key : NodeKey) → Key key → Later key)
    (ids : (i : ℕ) → Id i → Next i) (numbers : (n : ℕ) → Num n → Count n) where
  -- By the object.
  object_later : (o : ActorObject) → KnownObject Key Id o → KnownObject Later Next o
  object_later (ActorObject.Token key collection) known = (keys key known.0, ids collection known.1)
  object_later (ActorObject.Collection key collection) known = (keys key known.0, ids collection known.1)
  object_later (ActorObject.Handle buffer strength) known = ids buffer.collection known

  -- By the reply.
  reply_later : (r : Reply) → KnownReply Key Id Num r → KnownReply Later Next Count r
  reply_later (Reply.Joined client) known = numbers client known
  reply_later (Reply.Token key collection) known = (keys key known.0, ids collection known.1)
  reply_later (Reply.Collected key kind collection) known = (keys key known.0, ids collection known.1)
  reply_later (Reply.CollectedHandle buffer strength) known = ids buffer.collection known
  reply_later (Reply.Taken collection strength set) known = ids collection known
  reply_later (Reply.Tracker tracker) known = numbers tracker known
  reply_later (Reply.PeerClosed cause origin) known = keys origin known
  reply_later _ known = known

  -- Part by part.
  actor_later : (k : Known) → KnownActor Key Id Num k → KnownActor Later Next Count k
  actor_later k known = record {
    nodes = λ label place is. let was = known.nodes label place is in (keys place.0 was.0, ids place.1 was.1);
    trackers = λ label n is. numbers n (known.trackers label n is);
    objects = λ o there. object_later o (known.objects o there);
    spots = λ key none. known.spots key (λ is. none (keys key is));
    handles = λ strength b none. known.handles strength b (λ is. none (ids b.collection is));
  }

  -- And so of how far it is.
  pub stage_later : (stage : Stage) → KnownStage Key Id Num stage → KnownStage Later Next Count stage
  stage_later stage known = record {
    known = actor_later stage.known known.known;
    made = λ m there. reply_later m.1 (known.made m there);
    vanish = λ l is o there. object_later o (known.vanish l is o there);
  }

-- ---- where an actor is

module _ (Key : NodeKey → Type 0) (Id Num : ℕ → Type 0) where
  -- At first it knows nothing.
  pub first_known : KnownStage Key Id Num first_stage
  first_known = record {
    known = record {
      nodes = λ label place is. cc;
      trackers = λ label n is. cc;
      objects = λ o there. absurd there;
      spots = λ key none. refl;
      handles = λ strength b none. refl;
    };
    made = λ m there. absurd there;
    vanish = λ l is. cc;
  }

  -- A step that is passed tells nothing.
  pub passed_known : (stage : Stage) → KnownStage Key Id Num stage → KnownStage Key Id Num (passed stage)
  passed_known stage known = record { known = known.known; made = known.made; vanish = known.vanish }

  -- By the reply.
  pub called_known : (stage : Stage) (next : Planned) (asked : StepCall) (reply : Reply) → KnownStage Key Id Num stage →
      KnownCall Key Id asked.call → KnownReply Key Id Num reply → KnownStage Key Id Num (stage_after stage next asked reply)
  called_known stage next asked reply known named told = record {
    known = after_known Key Id Num stage.known known.known next.step asked named reply told;
    made = λ m there. elim (In-append stage.made ((stage.at, reply) ∷ []) m there) [
      | inl old ↦ known.made m old
      | inr new ↦ elim new [
        | inl is ↦ subst (λ (x : ℕ × Reply). KnownReply Key Id Num x.1) (sym is) told
        | inr none ↦ absurd none
      ]
    ];
    vanish = known.vanish;
  }

  -- By the reply: it collected what that gave.
  pub left_known : (stage : Stage) (reply : Reply) → KnownStage Key Id Num stage → KnownReply Key Id Num reply →
      KnownStage Key Id Num (left stage reply)
  left_known stage reply known told = record {
    known = known.known;
    made = known.made;
    vanish = λ l is o there. by stage.vanish known.vanish o
        (subst (λ (x : Leave). In o x.collected) (sym (some-injective (leave_after stage.vanish reply) l is)) there);
  }
    where
      -- by whether it parts with something or collects
      goes : (l : Leave) → ((o : ActorObject) → In o l.collected → KnownObject Key Id o) → (b : Bool) → (o : ActorObject) →
          In o (cond b (record l { parted = l.parted + 1 })
          (record l { waiting = l.waiting - 1; collected = l.collected ++ new_objects None Call.Collect reply })).collected →
          KnownObject Key Id o
      goes l old true o there = old o there
      goes l old false o there = elim (In-append l.collected (new_objects None Call.Collect reply) o there) [
        | inl here ↦ old o here
        | inr new ↦
            gives_known Key Id Num None (λ object is. cc) Call.Collect (λ key is. cc, λ b is. cc) reply told o new
      ]

      -- by how far it was in leaving
      by : (p : Option Leave) → ((l : Leave) → p ≡ Some l → (o : ActorObject) → In o l.collected → KnownObject Key Id o) →
          (o : ActorObject) → In o (leave_after p reply).collected → KnownObject Key Id o
      by None old o there = absurd there
      by (Some l) old o there = goes l (old l refl) (l.waiting == 0) o there

  -- ---- with what it parts

  -- By the test.
  picked_in : (b : Bool) (x o : ActorObject) → In o (cond b (x ∷ []) []) → o ≡ x
  picked_in true x o (inl is) = is
  picked_in true x o (inr none) = absurd none
  picked_in false x o none = absurd none

  -- Those that pass a test are among all that were collected.
  those_in : (test : ActorObject → Bool) (collected : List ActorObject) → ((o : ActorObject) → In o collected → KnownObject Key Id o) →
      (o : ActorObject) → In o (flat_map (picked test) collected) → KnownObject Key Id o
  those_in test collected known o there =
      let x = In-flat (picked test) collected o there in
      subst (KnownObject Key Id) (sym (picked_in (test x.0) x.0 o x.2)) (known x.0 x.1)

  -- And so are those in slots.
  there_in : (test : ActorObject → Bool) (slots : List (Option ActorObject)) →
      ((o : ActorObject) → In (Some o) slots → KnownObject Key Id o) →
      (o : ActorObject) → In o (flat_map (picked_there test) slots) → KnownObject Key Id o
  there_in test slots known o there =
      let x = In-flat (picked_there test) slots o there in
      by x.0 x.1 x.2
    where
      -- by what lies in the slot
      by : (slot : Option ActorObject) → In slot slots → In o (option_map_or (picked test) slot []) → KnownObject Key Id o
      by None on none = absurd none
      by (Some x) on has = subst (KnownObject Key Id) (sym (picked_in (test x) x o has)) (known x on)

  -- By the sorts.
  pub parts_known : (collected : List ActorObject) (slots : List (Option ActorObject)) →
      ((o : ActorObject) → In o collected → KnownObject Key Id o) → ((o : ActorObject) → In (Some o) slots → KnownObject Key Id o) →
      (o : ActorObject) → In o (all_objects collected slots) → KnownObject Key Id o
  parts_known collected slots known lying o among =
      elim (In-append (flat_map (picked is_end) collected) _ o (subst (In o) (parts_with collected slots) among)) [
        | inl ends ↦ those_in is_end collected known o ends
        | inr a ↦ elim (In-append (flat_map (picked_there is_token) slots) _ o a) [
          | inl tokens ↦ there_in is_token slots lying o tokens
          | inr b ↦ elim (In-append (flat_map (picked_there is_collection) slots) _ o b) [
            | inl collections ↦ there_in is_collection slots lying o collections
            | inr c ↦ elim (In-append (flat_map (picked is_handle) collected) _ o c) [
              | inl handles ↦ those_in is_handle collected known o handles
              | inr others ↦ there_in is_handle slots lying o others
            ]
          ]
        ]
      ]

  -- By the object.
  vanishing_known : (o : ActorObject) → KnownObject Key Id o → KnownCall Key Id (vanishing_call o)
  vanishing_known (ActorObject.Token key collection) known =
      (λ k is. subst Key (some-injective key k is) known.0, λ b is. cc)
  vanishing_known (ActorObject.Collection key collection) known =
      (λ k is. subst Key (some-injective key k is) known.0, λ b is. cc)
  vanishing_known (ActorObject.Handle buffer strength) known =
      (λ k is. cc, λ b is. subst (λ (x : BufferName). Id x.collection) (some-injective buffer b is) known)

  -- The call by which an actor leaves names only what it knows.
  pub vanish_known : (stage : Stage) → KnownStage Key Id Num stage → (call : Call) → leaves_by stage ≡ Some call →
      KnownCall Key Id call
  vanish_known stage known call = by stage.vanish known.vanish
    where
      -- by what it parts with next
      parts : (l : Leave) → ((o : ActorObject) → In o l.collected → KnownObject Key Id o) → (o : Option ActorObject) →
          slice_get (all_objects l.collected stage.known.objects) l.parted ≡ o → option_map vanishing_call o ≡ Some call →
          KnownCall Key Id call
      parts l old None at is = cc
      parts l old (Some o) at is = subst (KnownCall Key Id) (some-injective (vanishing_call o) call is)
          (vanishing_known o (parts_known l.collected stage.known.objects old known.known.objects o
          (at_in (all_objects l.collected stage.known.objects) l.parted o at)))

      -- by whether it collects
      goes : (l : Leave) → ((o : ActorObject) → In o l.collected → KnownObject Key Id o) → (b : Bool) →
          cond b (option_map vanishing_call (slice_get (all_objects l.collected stage.known.objects) l.parted)) (Some Call.Collect)
          ≡ Some call → KnownCall Key Id call
      goes l old true is = parts l old (slice_get (all_objects l.collected stage.known.objects) l.parted) refl is
      goes l old false is = subst (KnownCall Key Id) (some-injective Call.Collect call is) (λ key at. cc, λ b at. cc)

      -- by how far it is in leaving
      by : (p : Option Leave) → ((l : Leave) → p ≡ Some l → (o : ActorObject) → In o l.collected → KnownObject Key Id o) →
          leave_call stage.known.objects p ≡ Some call → KnownCall Key Id call
      by None old is = subst (KnownCall Key Id) (some-injective Call.Shut call is) (λ key at. cc, λ b at. cc)
      by (Some l) old is = goes l (old l refl) (l.waiting == 0) is

-- ---- no actor joins

-- Only a Join joins a client.
joinless : (client : ℕ) (call : Call) (reply : Reply) → (call ≡ Call.Join → ⊥) → joined_at (Called client reply call) ≡ None
joinless client call (Reply.Joined made) other = by call other
  where
    -- by the call
    by : (c : Call) → (c ≡ Call.Join → ⊥) → joined_at (Called client (Reply.Joined made) c) ≡ None
    by Call.Join join = absurd (join refl)
    by _ join = refl
joinless client call _ other = refl

-- Nothing that an actor has takes a Join.
fits_none : (objects : List (Option ActorObject)) (slot : Option ℕ) → Fits objects slot Call.Join → ⊥
fits_none objects None fits = fits
fits_none objects (Some slot) fits = by (object_at objects slot) fits
  where
    -- by what lies there
    by : (o : Option ActorObject) → FitsThere o Call.Join → ⊥
    by None fits = fits
    by (Some (ActorObject.Token key collection)) fits = fits
    by (Some (ActorObject.Collection key collection)) fits = fits
    by (Some (ActorObject.Handle buffer strength)) fits = fits

-- No step joins.
pub step_joinless : (clients : List ℕ) (k : Known) (step : Step) (asked : StepCall) (client : ℕ) (reply : Reply) →
    step_call clients k step ≡ Some asked → joined_at (Called client reply asked.call) ≡ None
step_joinless clients k step asked client reply is = joinless client asked.call reply (λ join.
    fits_none k.objects asked.slot (subst (Fits k.objects asked.slot) join
    (fits_step clients k step asked (by (is_bound k.nodes (node_label step)) (is_bound k.trackers (tracker_label step)) is))))
  where
    -- by cases: a label stands for something already, or the call is made
    by : (a b : Bool) → cond a None (cond b None (call_at clients k step)) ≡ Some asked → call_at clients k step ≡ Some asked
    by true b is = cc
    by false true is = cc
    by false false made = made

-- No actor leaves by a Join.
pub leave_joinless : (stage : Stage) (call : Call) (client : ℕ) (reply : Reply) → leaves_by stage ≡ Some call →
    joined_at (Called client reply call) ≡ None
leave_joinless stage call client reply is = joinless client call reply (λ join. by stage.vanish (is ∙ ap Some join))
  where
    -- by what it parts with
    parts : (o : Option ActorObject) → option_map vanishing_call o ≡ Some Call.Join → ⊥
    parts None is = cc
    parts (Some (ActorObject.Token key collection)) is = cc
    parts (Some (ActorObject.Collection key collection)) is = cc
    parts (Some (ActorObject.Handle buffer strength)) is = cc

    -- by whether it collects
    goes : (b : Bool) (o : Option ActorObject) → cond b (option_map vanishing_call o) (Some Call.Collect) ≡ Some Call.Join → ⊥
    goes true o is = parts o is
    goes false o is = cc

    -- by how far it is in leaving
    by : (p : Option Leave) → leave_call stage.known.objects p ≡ Some Call.Join → ⊥
    by None is = cc
    by (Some l) is = goes (l.waiting == 0) (slice_get (all_objects l.collected stage.known.objects) l.parted) is
