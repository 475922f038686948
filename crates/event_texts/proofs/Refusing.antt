-- A refused call failed the test that gives its refusal.
use Rattle.event_texts.proofs.Common.{Bool, Bound, Buffers, Call, List, None, Option, Refusal, Reply, Some, [], ap, false}
use Rattle.event_texts.proofs.Common.{option_and_then, option_map, refl, sym, true, ℕ, ◌∙◌, ◌∷◌, ◌≡◌}
use Rattle.std.proofs.Common.{◌&&◌, nat_le}
use Rattle.std.specs.Option.{option_map_or, unwrap_or}
use Rattle.sm_names.specs.declared.keys.NodeKey.{NodeKey}
use Rattle.sm_names.specs.declared.messages.Parcel.{Parcel}
use Rattle.sm_names.specs.declared.outcomes.Fault.{Fault}
use Rattle.sm_names.specs.declared.outcomes.Misuse.{Misuse}
use Rattle.sm_names.specs.Answers.{OpenEnd, Readings, answers_first, closing, collected, effect, end_named, has_none, is_anothers}
use Rattle.sm_names.specs.Answers.{misuse_of, misused_if, no_handle, refused_if, set_of, strength_of, unknown_client}
use Rattle.sm_names.specs.Timelines.{key_of}
use Rattle.sm_names.specs.Words.{first_some}
use Rattle.event_texts.specs.FailedTests.{failed_test}

-- where the answer is this refusal, it is this one
abbrev Only : Refusal → Option Reply → Type 0
Only x o = (y : Refusal) → o ≡ Some (Reply.Refused y) → x ≡ y

-- where there is no answer
only_none : (x : Refusal) → Only x None
only_none x y h = cc

-- a refusal under a test
only_if : (b : Bool) (x : Refusal) → Only x (refused_if b x)
only_if true x y h = cc
only_if false x y h = cc

-- or of something that is there
only_then : {A : Type 0} (x : Refusal) (f : A → Option Reply) → ((a : A) → Only x (f a)) → (o : Option A) → Only x (option_and_then f o)
only_then x f each None y h = cc
only_then x f each (Some a) y h = each a y h

-- the test of the caller and the receiver
only_unknown : (r : Readings) (client : ℕ) (call : Call) → Only Refusal.NoSuchClient (unknown_client r client call)
only_unknown r client Call.Join = only_if _ _
only_unknown r client _ = only_if _ _

-- and that of the handle
only_handle : (r : Readings) (client : ℕ) (call : Call) → Only Refusal.NoSuchHandle (no_handle r client call)
only_handle r client (Call.DupHandle buffer strength) = only_if _ _
only_handle r client (Call.DropHandle buffer strength) = only_if _ _
only_handle r client (Call.GiveHandle buffer strength to) = only_if _ _
only_handle r client (Call.TrackWeak buffer) = only_if _ _
only_handle r client _ = only_none _

module _ (failed : Refusal → Option Reply) where
  -- if the answer is a refusal, its test failed
  abbrev Fails : Option Reply → Type 0
  Fails o = (y : Refusal) → o ≡ Some (Reply.Refused y) → failed y ≡ Some (Reply.Refused y)

  -- the answer is that of the test
  fails_own : (x : Refusal) (o : Option Reply) → failed x ≡ o → Only x o → Fails o
  fails_own x o its only y h = let same : x ≡ y = only y h in ap failed (sym same) ∙ (its ∙ h)

  -- where there is none
  fails_none : Fails None
  fails_none y h = cc

  -- or it is never a refusal
  fails_misused : (b : Bool) (m : Misuse) → Fails (misused_if b m)
  fails_misused true m y h = cc
  fails_misused false m y h = cc

  -- nor is what is told of something that is there, if that is so of each
  fails_then : {A : Type 0} (f : A → Option Reply) → ((a : A) → Fails (f a)) → (o : Option A) → Fails (option_and_then f o)
  fails_then f each None y h = cc
  fails_then f each (Some a) y h = each a y h

  -- nor is the fault of a node
  fails_closed : (o : Option Fault) → Fails (option_map (λ (f : Fault). Reply.PeerClosed f.cause f.origin) o)
  fails_closed None y h = cc
  fails_closed (Some f) y h = cc

  -- nor is that of a Close
  fails_closing : (call : Call) → Fails (closing call)
  fails_closing (Call.Close key) y h = cc
  fails_closing _ y h = cc

  -- nor is a misuse of an end
  fails_misuse : (e : OpenEnd) (call : Call) → Fails (misuse_of e call)
  fails_misuse e (Call.SetConstraints key demand) = fails_misused _ _
  fails_misuse e (Call.SetWeak key) = fails_misused _ _
  fails_misuse e (Call.SetWeakOk key children) = fails_misused _ _
  fails_misuse e (Call.Take key) = fails_misused _ _
  fails_misuse e (Call.TrackNode key) = fails_misused _ _
  fails_misuse e _ = fails_none

  -- so is it of all
  abbrev AllFail : List (Option Reply) → Type 0
  AllFail [] = Unit {0}
  AllFail (o ∷ os) = Fails o × AllFail os

  -- the first answer that there is, or else the last
  first_fails : (os : List (Option Reply)) (e : Reply) (y : Refusal) → AllFail os →
      (e ≡ Reply.Refused y → failed y ≡ Some (Reply.Refused y)) →
      Reply.Refused y ≡ unwrap_or (first_some os) e → failed y ≡ Some (Reply.Refused y)
  first_fails [] e y all last is = last (sym is)
  first_fails (None ∷ os) e y all last is = first_fails os e y all.1 last is
  first_fails (Some x ∷ os) e y all last is = all.0 y (ap Some (sym is))

  -- what is made from an end that is there is no refusal
  from_end : (client : ℕ) (o : Option OpenEnd) (answer : OpenEnd → Reply) (y : Refusal) →
      failed Refusal.NoSuchEnd ≡ refused_if (option_map_or (is_anothers client) o true) Refusal.NoSuchEnd →
      ((e : OpenEnd) → answer e ≡ Reply.Refused y → failed y ≡ Some (Reply.Refused y)) →
      option_map_or answer o (Reply.Refused Refusal.NoSuchEnd) ≡ Reply.Refused y → failed y ≡ Some (Reply.Refused y)
  from_end client None answer y its each is = let same : Refusal.NoSuchEnd ≡ y = cc in rw (← same) its
  from_end client (Some e) answer y its each is = each e is

  -- nor is what is told of buffers
  from_buffers : (o : Option Buffers) (e : Reply) (told : Buffers → Reply) (y : Refusal) →
      ((b : Buffers) → told b ≡ Reply.Refused y → failed y ≡ Some (Reply.Refused y)) →
      option_map_or told o Reply.Pending ≡ Reply.Refused y → failed y ≡ Some (Reply.Refused y)
  from_buffers None e told y each is = cc
  from_buffers (Some b) e told y each is = each b is

  -- nor is what is collected
  from_found : (o : Option OpenEnd) (key : NodeKey) (y : Refusal) →
      option_map_or (λ (e : OpenEnd). Reply.Collected key e.kind e.collection) o Reply.Empty ≡ Reply.Refused y →
      failed y ≡ Some (Reply.Refused y)
  from_found None key y is = cc
  from_found (Some e) key y is = cc

  -- nor is that of all parcels that wait
  from_parcels : (r : Readings) (waiting : List Parcel) (y : Refusal) →
      collected r waiting ≡ Reply.Refused y → failed y ≡ Some (Reply.Refused y)
  from_parcels r [] y is = cc
  from_parcels r (Parcel.Handle buffer strength ∷ more) y is = cc
  from_parcels r (Parcel.End key ∷ more) y is = from_found (r.end_of key) key y is

-- an effect is no refusal, but for that of a call on an end that is not there
effect_fails : (limits : Bound) (r : Readings) (client : ℕ) (new : NodeKey) (call : Call) (y : Refusal) →
    effect r client new call ≡ Reply.Refused y → failed_test limits r client call y ≡ Some (Reply.Refused y)
effect_fails limits r client new Call.Join y is = cc
effect_fails limits r client new Call.Shut y is = cc
effect_fails limits r client new Call.OpenRoot y is = cc
effect_fails limits r client new (Call.Duplicate key) y is =
    from_end (failed_test limits r client (Call.Duplicate key)) client (r.end_of key) (λ (e : OpenEnd). Reply.Token new e.collection) y refl
    (λ e h. cc) is
effect_fails limits r client new (Call.AttachToken key) y is =
    from_end (failed_test limits r client (Call.AttachToken key)) client (r.end_of key)
    (λ (e : OpenEnd). Reply.Token new e.collection) y refl
    (λ e h. cc) is
effect_fails limits r client new Call.Collect y is = from_parcels (failed_test limits r client Call.Collect) r (r.waiting client) y is
effect_fails limits r client new (Call.Check key) y is =
    from_end (failed_test limits r client (Call.Check key)) client (r.end_of key)
    (λ (e : OpenEnd). option_map_or (λ (b : Buffers). Reply.Allocated b.count b.size) e.buffers Reply.Pending) y refl
    (λ e h. from_buffers (failed_test limits r client (Call.Check key)) e.buffers Reply.Pending
    (λ (b : Buffers). Reply.Allocated b.count b.size) y (λ b g. cc) h) is
effect_fails limits r client new (Call.Take key) y is =
    from_end (failed_test limits r client (Call.Take key)) client (r.end_of key)
    (λ (e : OpenEnd). option_map_or
    (λ (b : Buffers). Reply.Taken e.collection (strength_of e.weak) (set_of e.to_open)) e.buffers Reply.Pending)
    y refl
    (λ e h. from_buffers (failed_test limits r client (Call.Take key)) e.buffers Reply.Pending
    (λ (b : Buffers). Reply.Taken e.collection (strength_of e.weak) (set_of e.to_open)) y (λ b g. cc) h) is
effect_fails limits r client new (Call.TrackNode key) y is = cc
effect_fails limits r client new (Call.TrackLifetime key most) y is = cc
effect_fails limits r client new (Call.TrackWeak buffer) y is = cc
effect_fails limits r client new _ y is = cc

-- each test gives its own refusal, or none
all_fail : (limits : Bound) (r : Readings) (client : ℕ) (call : Call) →
    AllFail (failed_test limits r client call) (answers_first limits r client call)
all_fail limits r client call = (
  fails_own (failed_test limits r client call) Refusal.NoSuchClient _ refl (only_unknown r client call),
  (
    fails_own (failed_test limits r client call) Refusal.ClientShut _ refl (only_if _ _),
    (
      fails_own (failed_test limits r client call) Refusal.NoSuchEnd _ refl (only_then _ _ (λ key. only_if _ _) (key_of call)),
      (
        fails_own (failed_test limits r client call) Refusal.InTransit _ refl
            (only_then _ _ (λ (e : OpenEnd). only_if _ _) (end_named r call)),
        (
          fails_closing (failed_test limits r client call) call,
          (
            fails_then (failed_test limits r client call) _ (λ (e : OpenEnd). fails_closed (failed_test limits r client call) e.fault)
                (end_named r call),
            (
              fails_own (failed_test limits r client call) Refusal.WrongKind _ refl
                  (only_then _ _ (λ (e : OpenEnd). only_if _ _) (end_named r call)),
              (
                fails_then (failed_test limits r client call) _
                    (λ (e : OpenEnd). fails_misuse (failed_test limits r client call) e call) (end_named r call),
                (
                  fails_own (failed_test limits r client call) Refusal.NoSuchHandle _ refl (only_handle r client call),
                  (
                    fails_own (failed_test limits r client call) Refusal.TooManyNodes _ refl (only_if _ _),
                    (
                      fails_own (failed_test limits r client call) Refusal.TooManyCollections _ refl (only_if _ _),
                      (
                        fails_own (failed_test limits r client call) Refusal.TrackersFull _ refl (only_if _ _),
                        (fails_own (failed_test limits r client call) Refusal.TooManyHandles _ refl (only_if _ _), tt),
                      ),
                    ),
                  ),
                ),
              ),
            ),
          ),
        ),
      ),
    ),
  ),
)

-- a refused call failed the test of its refusal
pub test_failed : (limits : Bound) (r : Readings) (client : ℕ) (new : NodeKey) (call : Call) (y : Refusal) →
    Reply.Refused y ≡ unwrap_or (first_some (answers_first limits r client call)) (effect r client new call) →
    failed_test limits r client call y ≡ Some (Reply.Refused y)
test_failed limits r client new call y is =
    first_fails (failed_test limits r client call) (answers_first limits r client call) (effect r client new call) y
    (all_fail limits r client call) (effect_fails limits r client new call y) is
