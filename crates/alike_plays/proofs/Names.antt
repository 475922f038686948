-- Which names an actor knows: those that replies told it.
use Rattle.alike_plays.proofs.Common.{ActorObject, Argument, Bool, BufferName, Call, Fits, FitsThere, In, Known, KnownActor, KnownCall}
use Rattle.alike_plays.proofs.Common.{KnownObject, List, NodeKey, None, Option, Some, Step, StepCall, Strength, Target, ap, buffer_of}
use Rattle.alike_plays.proofs.Common.{call_at, cond, false, fits_step, is_bound, node_label, object_at, refl, row_for, slice_get}
use Rattle.alike_plays.proofs.Common.{slice_get_within, some-injective, step_call, subst, sym, tracker_label, true, ℕ, ◌∙◌, ◌≡◌}
use Rattle.std.proofs.Common.{get_or}
use Rattle.sm_names.specs.declared.call_parts.Object.{Object as Named}
use Rattle.sm_names.specs.declared.call_parts.Product.{Product}
use Rattle.sm_names.specs.CallRows.{object_buffer, object_key, parts_of}
use Rattle.sm_names.proofs.ListLaws.{In-get_or}
use Rattle.sm_names.proofs.SamenessLaws.{and_then-Some}
use Rattle.std.proofs.lemmas.Option.{slice_get-get_or}
use Rattle.sm_names.specs.Timelines.{key_of}
use Rattle.actor_scripts.specs.ActorStates.{FitsAToken, FitsACollection, FitsAnyEnd, FitsObject, NamesHandle, NamesNothing}

-- ---- calls

-- By the objects that it is made on: it is the node.
end_named : (key : NodeKey) (on : Target) (object : Named NodeKey BufferName) → FitsAnyEnd key on object → object ≡ Named.Node key
end_named key Target.End (Named.Node node) fits = ap Named.Node fits
end_named key Target.End (Named.Buffer buffer) fits = absurd fits
end_named key Target.End Named.Nothing fits = absurd fits
end_named key _ object fits = absurd fits

-- By the objects that it is made on: it is the node of the token.
token_named : (key : NodeKey) (on : Target) (object : Named NodeKey BufferName) → FitsAToken key on object → object ≡ Named.Node key
token_named key Target.Token (Named.Node node) fits = ap Named.Node fits
token_named key Target.Token (Named.Buffer buffer) fits = absurd fits
token_named key Target.Token Named.Nothing fits = absurd fits
token_named key Target.End object fits = end_named key Target.End object fits
token_named key Target.Collection object fits = absurd fits
token_named key Target.Handle object fits = absurd fits
token_named key Target.Nothing object fits = absurd fits

-- By the objects that it is made on: it is the node of the collection.
collection_named : (key : NodeKey) (on : Target) (object : Named NodeKey BufferName) → FitsACollection key on object →
    object ≡ Named.Node key
collection_named key Target.Collection (Named.Node node) fits = ap Named.Node fits
collection_named key Target.Collection (Named.Buffer buffer) fits = absurd fits
collection_named key Target.Collection Named.Nothing fits = absurd fits
collection_named key Target.End object fits = end_named key Target.End object fits
collection_named key Target.Token object fits = absurd fits
collection_named key Target.Handle object fits = absurd fits
collection_named key Target.Nothing object fits = absurd fits

-- By what is named, and what is said: it is the buffer of the handle.
handle_named : (b : BufferName) (strength : Strength) (object : Named NodeKey BufferName) (argument : Argument ℕ) →
    NamesHandle b strength object argument → object ≡ Named.Buffer b
handle_named b strength (Named.Buffer other) (Argument.Strength held) fits = ap Named.Buffer fits.0
handle_named b strength (Named.Buffer other) (Argument.Gift held receiver) fits = ap Named.Buffer fits.0
handle_named b strength (Named.Buffer other) _ fits = ap Named.Buffer fits
handle_named b strength (Named.Node key) argument fits = absurd fits
handle_named b strength Named.Nothing argument fits = absurd fits

-- By what the call brings: it is nothing.
none_named : (product : Product) (object : Named NodeKey BufferName) → NamesNothing product object → object ≡ Named.Nothing
none_named Product.Client object fits = absurd fits
none_named _ Named.Nothing fits = refl
none_named _ (Named.Node key) fits = absurd fits
none_named _ (Named.Buffer b) fits = absurd fits

-- By the call.
key_part : (call : Call) → key_of call ≡ object_key (parts_of call).object
key_part Call.Join = refl
key_part _ = refl

-- By the call.
buffer_part : (call : Call) → buffer_of call ≡ object_buffer (parts_of call).object
buffer_part Call.Join = refl
buffer_part _ = refl

-- What stands at a place is an element.
pub at_in : {A : Type 0} (xs : List A) (i : ℕ) (x : A) → slice_get xs i ≡ Some x → In x xs
at_in xs i x is =
    let within = slice_get_within xs i x is in
    subst (λ y. In y xs) (some-injective (get_or xs i x) x (sym (slice_get-get_or xs i x within) ∙ is)) (In-get_or xs i x within)

-- What lies in a slot is one of the objects.
pub lying_in : (objects : List (Option ActorObject)) (slot : ℕ) (o : ActorObject) → object_at objects slot ≡ Some o → In (Some o) objects
lying_in objects slot o is =
    let found = and_then-Some (λ (t : Option ActorObject). t) (slice_get objects slot) o is in
    at_in objects slot (Some o) (found.1 ∙ ap Some found.2)

module _ (Key : NodeKey → Type 0) (Id Num : ℕ → Type 0) where
  -- By what is named.
  call_named : (call : Call) (object : Named NodeKey BufferName) → (parts_of call).object ≡ object →
      ((key : NodeKey) → object ≡ Named.Node key → Key key) → ((b : BufferName) → object ≡ Named.Buffer b → Id b.collection) →
      KnownCall Key Id call
  call_named call object is keys ids = (
    λ key at. by_key object key keys (sym (key_part call ∙ ap object_key is) ∙ at),
    λ b at. by_buffer object b ids (sym (buffer_part call ∙ ap object_buffer is) ∙ at),
  )
    where
      -- by cases
      by_key : (o : Named NodeKey BufferName) (key : NodeKey) → ((k : NodeKey) → o ≡ Named.Node k → Key k) → object_key o ≡ Some key →
          Key key
      by_key (Named.Node k) key keys at = subst Key (some-injective k key at) (keys k refl)
      by_key (Named.Buffer b) key keys at = cc
      by_key Named.Nothing key keys at = cc

      -- by cases
      by_buffer : (o : Named NodeKey BufferName) (b : BufferName) → ((x : BufferName) → o ≡ Named.Buffer x → Id x.collection) →
          object_buffer o ≡ Some b → Id b.collection
      by_buffer (Named.Buffer x) b ids at = subst (λ (y : BufferName). Id y.collection) (some-injective x b at) (ids x refl)
      by_buffer (Named.Node k) b ids at = cc
      by_buffer Named.Nothing b ids at = cc

  -- By the object that takes it.
  object_call : (o : ActorObject) → KnownObject Key Id o → (call : Call) → FitsObject o call → KnownCall Key Id call
  object_call (ActorObject.Token key collection) known call fits =
      call_named call (Named.Node key) (token_named key (row_for call).on (parts_of call).object fits)
      (λ k is. let same : key ≡ k = cc in subst Key same known.0) (λ b is. cc)
  object_call (ActorObject.Collection key collection) known call fits =
      call_named call (Named.Node key) (collection_named key (row_for call).on (parts_of call).object fits)
      (λ k is. let same : key ≡ k = cc in subst Key same known.0) (λ b is. cc)
  object_call (ActorObject.Handle buffer strength) known call fits =
      call_named call (Named.Buffer buffer) (handle_named buffer strength (parts_of call).object (parts_of call).argument fits)
      (λ k is. cc) (λ b is. let same : buffer ≡ b = cc in subst (λ (x : BufferName). Id x.collection) same known)

  -- By what it is made on: something that the actor has, or nothing.
  pub asked_known : (k : Known) → KnownActor Key Id Num k → (clients : List ℕ) (step : Step) (asked : StepCall) →
      call_at clients k step ≡ Some asked → KnownCall Key Id asked.call
  asked_known k known clients step asked is = by asked.slot (fits_step clients k step asked is)
    where
      -- by what lies there
      lying : (slot : ℕ) (o : Option ActorObject) → object_at k.objects slot ≡ o → FitsThere o asked.call → KnownCall Key Id asked.call
      lying slot None at fits = absurd fits
      lying slot (Some o) at fits =
          object_call o (known.objects o (lying_in k.objects slot o at)) asked.call fits

      -- by the slot
      by : (slot : Option ℕ) → Fits k.objects slot asked.call → KnownCall Key Id asked.call
      by None fits = call_named asked.call Named.Nothing (none_named (row_for asked.call).brings (parts_of asked.call).object fits)
          (λ key at. cc) (λ b at. cc)
      by (Some slot) fits = lying slot (object_at k.objects slot) refl fits

  -- The step makes that call, or none.
  pub step_known : (k : Known) → KnownActor Key Id Num k → (clients : List ℕ) (step : Step) (asked : StepCall) →
      step_call clients k step ≡ Some asked → KnownCall Key Id asked.call
  step_known k known clients step asked = by (is_bound k.nodes (node_label step)) (is_bound k.trackers (tracker_label step))
    where
      -- by cases: a label stands for something already, or the call is made
      by : (a b : Bool) → cond a None (cond b None (call_at clients k step)) ≡ Some asked → KnownCall Key Id asked.call
      by true b is = cc
      by false true is = cc
      by false false is = asked_known k known clients step asked is
