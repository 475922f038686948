-- Calls that pass the derived test are one, and so are replies.
use Rattle.std.proofs.Common.{◌≡◌, ◌==◌, ◌&&◌, ap, refl, Bool, true, false, ℕ, List, [], ◌∷◌, inl, inr}
use Rattle.std.proofs.lemmas.Bool.{eqb-true, and_parts, false≢true}
use denote.Struct.Field.{Field}
use denote.Enum.Bare.{same_true}
use denote.Enum.Compared.{Each, by}
use denote.Enum.Declared.{values_one}
use Rattle.sm_names.specs.contracts.keys.Kind as kind_type
use Rattle.sm_names.specs.contracts.keys.Strength as strength_type
use Rattle.sm_names.specs.contracts.messages.Call as call_type
use Rattle.sm_names.specs.contracts.messages.Reply as reply_type
use Rattle.sm_names.specs.contracts.outcomes.Cause as cause_type
use Rattle.sm_names.specs.contracts.outcomes.Failure as failure_type
use Rattle.sm_names.specs.contracts.outcomes.Misuse as misuse_type
use Rattle.sm_names.specs.contracts.outcomes.Refusal as refusal_type
use Rattle.sm_names.specs.contracts.keys.BufferNamePartialEq.TheImpl as buffer
use Rattle.sm_names.specs.contracts.keys.NodeKeyPartialEq.TheImpl as key
use Rattle.sm_names.specs.contracts.keys.KindPartialEq.TheImpl as kind
use Rattle.sm_names.specs.contracts.keys.StrengthPartialEq.TheImpl as strength
use Rattle.sm_names.specs.contracts.demands.ConstraintsPartialEq.TheImpl as demand
use Rattle.sm_names.specs.contracts.outcomes.FailurePartialEq.TheImpl as failure
use Rattle.sm_names.specs.contracts.outcomes.MisusePartialEq.TheImpl as misuse
use Rattle.sm_names.specs.contracts.outcomes.RefusalPartialEq.TheImpl as refusal
use Rattle.sm_names.specs.contracts.messages.CallPartialEq.TheImpl as call
use Rattle.sm_names.specs.contracts.messages.ReplyPartialEq.TheImpl as reply
use Rattle.sm_names.specs.contracts.outcomes.CausePartialEq.TheImpl as cause
use Rattle.std.specs.contracts.prelude.BoolPartialEq.TheImpl as switch
use Rattle.sm_names.specs.Demands.{Demand}

-- the test passes only what is one
abbrev Tells : {A : Type 0} → (A → A → Bool) → Type 0
Tells {A} test = (a b : A) → test a b ≡ true → a ≡ b

-- so do the tests of the fields of each variant
abbrev TellEach : (fields : List (List Field)) → Each Bool fields → Type 0
TellEach [] tests = Unit {0}
TellEach (own ∷ others) tests = Tells tests.0 × TellEach others tests.1

-- both, where a row of tests is written
infixr 5 ◌also◌
abbrev ◌also◌ : {A B : Type 0} → A → B → A × B
a also b = (a, b)

-- then two choices that pass are one: the test passes no two of different variants
choice_one : (fields : List (List Field)) (tests : Each Bool fields) → TellEach fields tests → Tells (by false false fields tests)
choice_one [] tests all a b e = absurd a
choice_one (own ∷ others) tests all (inl a) (inl b) e = ap inl (all.0 a b e)
choice_one (own ∷ others) tests all (inl a) (inr b) e = absurd (false≢true e)
choice_one (own ∷ others) tests all (inr a) (inl b) e = absurd (false≢true e)
choice_one (own ∷ others) tests all (inr a) (inr b) e = ap inr (choice_one others tests.1 all.1 a b e)

-- a number or a switch that passes is the other
number_one : Tells (λ (a b : ℕ). a == b)
number_one a b e = eqb-true a b e

-- by cases on both switches
switch_one : Tells (switch.eq-value).it
switch_one true true e = refl
switch_one false false e = refl
switch_one true false e = absurd (false≢true e)
switch_one false true e = absurd (false≢true e)

-- nothing is nothing; a lone field, two and three fields are one if each is
none : (a b : Unit {0}) → true ≡ true → a ≡ b
none a b e = refl

-- by the field, since nothing is behind it
lone : {A : Type 0} {E : A → A → Bool} → Tells E → (a b : A × Unit {0}) → E a.0 b.0 ≡ true → a ≡ b
lone one a b e = λ i. (one a.0 b.0 e i, tt)

-- by the first field and the lone second
two : {A B : Type 0} {E : A → A → Bool} {F : B → B → Bool} → Tells E → Tells F → (a b : A × (B × Unit {0})) →
    (E a.0 b.0 && F a.1.0 b.1.0) ≡ true → a ≡ b
two {A} {B} {E} {F} one other a b e =
    let each = and_parts (E a.0 b.0) (F a.1.0 b.1.0) e in
    λ i. (one a.0 b.0 each.0 i, (other a.1.0 b.1.0 each.1 i, tt))

-- by the first field and the two behind it
three : {A B C : Type 0} {E : A → A → Bool} {F : B → B → Bool} {G : C → C → Bool} → Tells E → Tells F → Tells G →
    (a b : A × (B × (C × Unit {0}))) → (E a.0 b.0 && (F a.1.0 b.1.0 && G a.1.1.0 b.1.1.0)) ≡ true → a ≡ b
three {A} {B} {C} {E} {F} {G} one other last a b e =
    let each = and_parts (E a.0 b.0) (F a.1.0 b.1.0 && G a.1.1.0 b.1.1.0) e in
    λ i. (one a.0 b.0 each.0 i, two other last a.1 b.1 each.1 i)

-- keys that pass have the same slot and the same generation
key_one : Tells (key.eq-value).it
key_one a b e =
    let fields = and_parts (a.slot == b.slot) (a.generation == b.generation) e in
    λ i. record { slot = eqb-true a.slot b.slot fields.0 i; generation = eqb-true a.generation b.generation fields.1 i }

-- buffer names that pass have the same collection and the same index
buffer_one : Tells (buffer.eq-value).it
buffer_one a b e =
    let fields = and_parts (a.collection == b.collection) (a.index == b.index) e in
    λ i. record { collection = eqb-true a.collection b.collection fields.0 i; index = eqb-true a.index b.index fields.1 i }

-- demands that pass have the same three fields
demand_one : (a b : Demand) → (demand.eq-value).it a b ≡ true → a ≡ b
demand_one a b e =
    let fields = and_parts (a.camping == b.camping) (a.at_least == b.at_least && a.size == b.size) e in
    let last = and_parts (a.at_least == b.at_least) (a.size == b.size) fields.1 in
    λ i. record {
      camping = eqb-true a.camping b.camping fields.0 i;
      at_least = eqb-true a.at_least b.at_least last.0 i;
      size = eqb-true a.size b.size last.1 i;
    }

-- names alone that pass are one
strength_one : Tells (strength.eq-value).it
strength_one = same_true strength_type.the_type tt

-- since kinds of ends are names alone
kind_one : Tells (kind.eq-value).it
kind_one = same_true kind_type.the_type tt

-- since causes of failure are names alone
failure_one : Tells (failure.eq-value).it
failure_one = same_true failure_type.the_type tt

-- since misuses are names alone
misuse_one : Tells (misuse.eq-value).it
misuse_one = same_true misuse_type.the_type tt

-- since refusals are names alone
refusal_one : Tells (refusal.eq-value).it
refusal_one = same_true refusal_type.the_type tt

-- causes that pass are one
cause_one : Tells (cause.eq-value).it
cause_one a b e =
    values_one cause_type.enum a b
    (choice_one cause_type.the_parts _ (none also lone misuse_one also lone failure_one also none also tt)
    (cause_type.as_values a) (cause_type.as_values b) e)

-- so are calls: the fields of each kind, in the order of Call
pub call_one : Tells (call.eq-value).it
call_one a b e =
    values_one call_type.enum a b
    (choice_one call_type.the_parts _ (none also none also none also lone key_one also lone key_one also lone key_one also
    two key_one number_one also none also lone key_one also lone key_one also lone key_one also two key_one switch_one also
    two key_one demand_one also lone key_one also lone key_one also lone key_one also lone key_one also
    two buffer_one strength_one also two buffer_one strength_one also three buffer_one strength_one number_one also
    lone key_one also two key_one number_one also lone buffer_one also tt)
    (call_type.as_values a) (call_type.as_values b) e)

-- and replies, in the order of Reply
pub reply_one : Tells (reply.eq-value).it
reply_one a b e =
    values_one reply_type.enum a b
    (choice_one reply_type.the_parts _ (none also lone number_one also lone number_one also two key_one number_one also
    three key_one kind_one number_one also two buffer_one strength_one also none also none also two number_one number_one also
    three number_one strength_one number_one also lone number_one also lone refusal_one also lone misuse_one also
    two cause_one key_one also tt)
    (reply_type.as_values a) (reply_type.as_values b) e)
