-- What a step's call is made on takes it.
use Rattle.actor_scripts.proofs.Common.{ActorObject, Bool, BufferName, Known, List, None, Option, Some, Step, StepCall, Strength, ap}
use Rattle.actor_scripts.proofs.Common.{false, if◌then◌else◌, option_and_then, option_map, refl, subst, sym, true, ℕ, ◌≡◌}
use Rattle.std.proofs.lemmas.Bool.{false≢true}
use Rattle.std.proofs.Common.{is_some}
use Rattle.std.specs.Prelude.{IfSome}
use Rattle.sm_names.specs.declared.call_parts.Argument.{Argument}
use Rattle.sm_names.specs.declared.call_parts.CallParts.{CallParts}
use Rattle.sm_names.specs.declared.call_parts.Object.{Object as Named}
use Rattle.sm_names.specs.declared.call_parts.Product.{Product}
use Rattle.sm_names.specs.declared.call_parts.Target.{Target}
use Rattle.sm_names.specs.declared.call_rows.CallKind.{CallKind}
use Rattle.sm_names.specs.declared.keys.NodeKey.{NodeKey}
use Rattle.sm_names.specs.declared.messages.Call.{Call}
use Rattle.sm_names.specs.CallRows.{call_of, parts, row_of}
use Rattle.sm_names.proofs.CallLaws.{made}
use Rattle.script_lines.specs.declared.line.Request.{Request}
use Rattle.actor_scripts.specs.declared.step.StepBuffer.{StepBuffer}
use Rattle.actor_scripts.specs.ActorStates.{Fits, FitsACollection, FitsAToken, FitsNone, FitsObject, FitsThere, NamesHandle, NamesNode}
use Rattle.actor_scripts.specs.ActorStates.{NamesNothing, argument_at, argument_held, asked_strength, bare_call, call_at, call_for}
use Rattle.actor_scripts.specs.ActorStates.{call_on, end_slot, handle_slot, is_join, object_at, slot_call, target_of, with_strength}

-- what holds of the one holds of the other
pub takes : {A : Type 0} (P : A → Type 0) (made call : A) → Some made ≡ Some call → P made → P call
takes P made call is so = let same : made ≡ call = cc in subst P same so

-- ---- the object that the call is made on

-- a token is one for calls on tokens, and for those on ends
token_target : (key : NodeKey) (collection : ℕ) (on : Target) (target : Named NodeKey BufferName) →
    target_of on (ActorObject.Token key collection) ≡ Some target → FitsAToken key on target
token_target key collection Target.Token target is = takes (NamesNode key) (Named.Node key) target is refl
token_target key collection Target.End target is = takes (NamesNode key) (Named.Node key) target is refl
token_target key collection _ target is = absurd (false≢true (ap is_some is))

-- so is a collection
collection_target : (key : NodeKey) (collection : ℕ) (on : Target) (target : Named NodeKey BufferName) →
    target_of on (ActorObject.Collection key collection) ≡ Some target → FitsACollection key on target
collection_target key collection Target.Collection target is = takes (NamesNode key) (Named.Node key) target is refl
collection_target key collection Target.End target is = takes (NamesNode key) (Named.Node key) target is refl
collection_target key collection _ target is = absurd (false≢true (ap is_some is))

-- a handle is asked for by its own strength
own_strength : (buffer : BufferName) (held : Strength) (argument : Argument ℕ) →
    NamesHandle buffer held (Named.Buffer buffer) (with_strength held argument)
own_strength buffer held (Argument.Strength strength) = (refl, refl)
own_strength buffer held (Argument.Gift strength to) = (refl, refl)
own_strength buffer held _ = refl

-- so it is one for calls on handles
handle_target : (buffer : BufferName) (held : Strength) (argument : Argument ℕ) (on : Target) (target : Named NodeKey BufferName) →
    target_of on (ActorObject.Handle buffer held) ≡ Some target → NamesHandle buffer held target (with_strength held argument)
handle_target buffer held argument Target.Handle target is =
    takes (λ (t : Named NodeKey BufferName). NamesHandle buffer held t (with_strength held argument)) (Named.Buffer buffer) target is
    (own_strength buffer held argument)
handle_target buffer held argument _ target is = absurd (false≢true (ap is_some is))

-- ---- calls

-- the object takes a call that is made of parts for it
fits_parts : (object : ActorObject) (kind : CallKind) (target : Named NodeKey BufferName) (argument : Argument ℕ) (call : Call) →
    target_of (row_of kind).on object ≡ Some target → call_of (parts kind target (argument_held object argument)) ≡ Some call →
    FitsObject object call
fits_parts (ActorObject.Token key collection) kind target argument call on is =
    subst (λ (p : CallParts). FitsAToken key (row_of p.kind).on p.object) (sym (made kind target argument call is))
    (token_target key collection (row_of kind).on target on)
fits_parts (ActorObject.Collection key collection) kind target argument call on is =
    subst (λ (p : CallParts). FitsACollection key (row_of p.kind).on p.object) (sym (made kind target argument call is))
    (collection_target key collection (row_of kind).on target on)
fits_parts (ActorObject.Handle buffer held) kind target argument call on is =
    subst (λ (p : CallParts). NamesHandle buffer held p.object p.argument)
    (sym (made kind target (with_strength held argument) call is)) (handle_target buffer held argument (row_of kind).on target on)

module _ (clients : List ℕ) (r : Request ℕ StepBuffer) where
  -- where the clients that it names are there
  fits_argument : (object : ActorObject) (target : Named NodeKey BufferName) → target_of (row_of r.kind).on object ≡ Some target →
      (said : Option (Argument ℕ)) (call : Call) →
      option_and_then (λ argument. call_of (parts r.kind target (argument_held object argument))) said ≡ Some call →
      FitsObject object call
  fits_argument object target on None call is = cc
  fits_argument object target on (Some argument) call is = fits_parts object r.kind target argument call on is

  -- and where it is made on such objects
  fits_target : (object : ActorObject) (target : Option (Named NodeKey BufferName)) → target_of (row_of r.kind).on object ≡ target →
      (call : Call) → option_and_then (λ t. option_and_then (λ argument. call_of (parts r.kind t (argument_held object argument)))
      (argument_at clients r.argument)) target ≡ Some call → FitsObject object call
  fits_target object None on call is = cc
  fits_target object (Some target) on call is = fits_argument object target on (argument_at clients r.argument) call is

  -- an object takes the call that is asked for on it
  pub fits_on : (object : ActorObject) (call : Call) → call_on clients r object ≡ Some call → FitsObject object call
  fits_on object call is = fits_target object (target_of (row_of r.kind).on object) refl call is

  -- a call that is no join and names nothing is made on nothing
  no_join : (product : Product) → is_join product ≡ false → NamesNothing product Named.Nothing
  no_join Product.Client is = cc
  no_join _ is = tt

  -- a call that makes no client and names nothing fits without an object, whatever its argument is
  bare_argument : is_join (row_of r.kind).brings ≡ false → (said : Option (Argument ℕ)) (call : Call) →
      option_and_then (λ argument. call_of (parts r.kind Named.Nothing argument)) said ≡ Some call → FitsNone call
  bare_argument apart None call is = cc
  bare_argument apart (Some argument) call is =
      subst (λ (p : CallParts). NamesNothing (row_of p.kind).brings p.object) (sym (made r.kind Named.Nothing argument call is))
      (no_join (row_of r.kind).brings apart)

  -- a join yields no bare call, and a bare call of any other kind fits without an object
  bare_if : (join : Bool) → is_join (row_of r.kind).brings ≡ join → (call : Call) →
      (if join then None else option_and_then (λ argument. call_of (parts r.kind Named.Nothing argument)) (argument_at clients r.argument))
      ≡ Some call → FitsNone call
  bare_if true is call made = cc
  bare_if false is call made = bare_argument is (argument_at clients r.argument) call made

  -- so is the call that is asked for on nothing
  pub fits_bare : (call : Call) → bare_call clients r ≡ Some call → FitsNone call
  fits_bare call is = bare_if (is_join (row_of r.kind).brings) refl call is

module _ (objects : List (Option ActorObject)) where
  -- a call on nothing
  pub fits_nothing : (made : Option Call) (asked : StepCall) → ((call : Call) → made ≡ Some call → FitsNone call) →
      option_map (λ (c : Call). record { call = c; slot = None }) made ≡ Some asked → Fits objects asked.slot asked.call
  fits_nothing None asked fits is = cc
  fits_nothing (Some call) asked fits is =
      takes (λ (a : StepCall). Fits objects a.slot a.call) (record { call = call; slot = None }) asked is (fits call refl)

module _ (objects : List (Option ActorObject)) (f : ActorObject → Option Call)
    (fits : (object : ActorObject) (call : Call) → f object ≡ Some call →
    FitsObject object call) where
  -- the call that was made of an object
  pub fits_made : (slot : ℕ) (object : ActorObject) (made : Option Call) (asked : StepCall) →
      object_at objects slot ≡ Some object → f object ≡ made →
      option_map (λ (c : Call). record { call = c; slot = Some slot }) made ≡ Some asked → Fits objects asked.slot asked.call
  fits_made slot object None asked there is so = cc
  fits_made slot object (Some call) asked there is so =
      takes (λ (a : StepCall). Fits objects a.slot a.call) (record { call = call; slot = Some slot }) asked so
      (subst (λ (t : Option ActorObject). FitsThere t call) (sym there) (fits object call is))

  -- of what lies in the slot
  pub fits_lying : (slot : ℕ) (there : Option ActorObject) (asked : StepCall) → object_at objects slot ≡ there →
      option_and_then (λ (object : ActorObject). option_map (λ (c : Call). record { call = c; slot = Some slot }) (f object)) there
      ≡ Some asked →
      Fits objects asked.slot asked.call
  fits_lying slot None asked is so = cc
  fits_lying slot (Some object) asked is so = fits_made slot object (f object) asked is refl so

  -- of what lies in some slot
  pub fits_slot : (slot : Option ℕ) (asked : StepCall) → option_and_then (slot_call objects f) slot ≡ Some asked →
      Fits objects asked.slot asked.call
  fits_slot None asked so = cc
  fits_slot (Some slot) asked so = fits_lying slot (object_at objects slot) asked refl so

-- the call that is asked for, by what it is to be made on
fits_asked : (clients : List ℕ) (state : Known) (r : Request ℕ StepBuffer) (object : Named ℕ StepBuffer) (asked : StepCall) →
    call_for clients state r object ≡ Some asked → Fits state.objects asked.slot asked.call
fits_asked clients state r Named.Nothing asked is =
    fits_nothing state.objects (bare_call clients r) asked (fits_bare clients r) is
fits_asked clients state r (Named.Node node) asked is =
    fits_slot state.objects (call_on clients r) (fits_on clients r) (end_slot state node) asked is
fits_asked clients state r (Named.Buffer buffer) asked is =
    fits_slot state.objects (call_on clients r) (fits_on clients r)
    (handle_slot state (asked_strength r.argument) buffer.node buffer.index) asked is

-- the call of a step
pub fits_step : (clients : List ℕ) (state : Known) (step : Step) (asked : StepCall) → call_at clients state step ≡ Some asked →
    Fits state.objects asked.slot asked.call
fits_step clients state (Step.Ask r) asked is = fits_asked clients state r r.object asked is
fits_step clients state (Step.Poll tracker) asked is = cc

-- if it makes one
pub fits_if : (clients : List ℕ) (state : Known) (step : Step) (asked : Option StepCall) → asked ≡ call_at clients state step →
    IfSome asked (λ a. Fits state.objects a.slot a.call)
fits_if clients state step None is = tt
fits_if clients state step (Some asked) is = fits_step clients state step asked (sym is)
