-- Units of handles, and what events do to them.
use Rattle.service_lock.proofs.Common.{Call, NodeKey, None, Option, Reply, SameHandles, Some, Strength, Strong, Weak, ap, arith}
use Rattle.service_lock.proofs.Common.{no_amounts, with_gain, ◌+◌, ◌∙◌, ◌≡◌}
use Rattle.std.proofs.Common.{Bool, true, cond}
use Rattle.service_lock.specs.Units.{Amounts, CountsEvent, HasUnitFor, with_one}
use Rattle.service_lock.specs.Accounts.{gained, is_done, lets_go, may_gain, handle_unit}
use Rattle.service_lock.specs.Takes.{told_taken, units_by}

-- a handle that moves between clients is no event for the giver
pub same_events : (strength : Strength) (old new : Amounts) → old ≡ with_one strength new → new.events ≡ old.events
same_events Strong old new is = omega (arith, ap (λ (u : Amounts). u.events) is)
same_events Weak old new is = omega (arith, ap (λ (u : Amounts). u.events) is)

-- nor for the receiver
pub more_events : (strength : Strength) (old new : Amounts) → new ≡ with_one strength old → new.events ≡ old.events
more_events Strong old new is = ap (λ (u : Amounts). u.events) is
more_events Weak old new is = ap (λ (u : Amounts). u.events) is

-- the holder of a handle's unit may drop the handle
pub has_unit : (strength : Strength) (call : Call) (units : Amounts) → lets_go call ≡ Some strength →
    HasUnitFor call (with_one strength units)
has_unit Strong (Call.DropHandle buffer Strong) units is = record { strong = omega arith; weak = omega arith }
has_unit Weak (Call.DropHandle buffer Weak) units is = record { strong = omega arith; weak = omega arith }
has_unit Strong (Call.GiveHandle buffer Strong to) units is = record { strong = omega arith; weak = omega arith }
has_unit Weak (Call.GiveHandle buffer Weak to) units is = record { strong = omega arith; weak = omega arith }
has_unit _ _ units is = cc

-- whose unit went is left with nothing
pub none_left_of : (strength : Strength) (units : Amounts) → handle_unit strength ≡ with_one strength units → units ≡ no_amounts
none_left_of Strong units is =
    let events : units.events ≡ 0 = omega (arith, ap (λ (u : Amounts). u.events) is) in
    let strong : units.strong ≡ 0 = omega (arith, ap (λ (u : Amounts). u.strong) is) in
    let weak : units.weak ≡ 0 = omega (arith, ap (λ (u : Amounts). u.weak) is) in
    λ i. record { events = events i; strong = strong i; weak = weak i }
none_left_of Weak units is =
    let events : units.events ≡ 0 = omega (arith, ap (λ (u : Amounts). u.events) is) in
    let strong : units.strong ≡ 0 = omega (arith, ap (λ (u : Amounts). u.strong) is) in
    let weak : units.weak ≡ 0 = omega (arith, ap (λ (u : Amounts). u.weak) is) in
    λ i. record { events = events i; strong = strong i; weak = weak i }

-- the handles, with the one that was to go unless it went
abbrev pub left_with : Bool → Strength → Amounts → Amounts
left_with done strength units = cond done units (with_one strength units)

-- a handle is dropped if the answer is Done, and stays if it is not
pub after_letting_go : (strength : Strength) (call : Call) (reply : Reply) (units new : Amounts) → lets_go call ≡ Some strength →
    CountsEvent (with_one strength units) new call reply → SameHandles new (left_with (is_done reply) strength units)
after_letting_go Strong (Call.DropHandle buffer Strong) Reply.Done units new is counts =
    (omega (arith, counts.strong), omega (arith, counts.weak))
after_letting_go Weak (Call.DropHandle buffer Weak) Reply.Done units new is counts =
    (omega (arith, counts.strong), omega (arith, counts.weak))
after_letting_go Strong (Call.GiveHandle buffer Strong to) Reply.Done units new is counts =
    (omega (arith, counts.strong), omega (arith, counts.weak))
after_letting_go Weak (Call.GiveHandle buffer Weak to) Reply.Done units new is counts =
    (omega (arith, counts.strong), omega (arith, counts.weak))
after_letting_go Strong (Call.DropHandle buffer Strong) _ units new is counts = (omega (arith, counts.strong), omega (arith, counts.weak))
after_letting_go Weak (Call.DropHandle buffer Weak) _ units new is counts = (omega (arith, counts.strong), omega (arith, counts.weak))
after_letting_go Strong (Call.GiveHandle buffer Strong to) _ units new is counts =
    (omega (arith, counts.strong), omega (arith, counts.weak))
after_letting_go Weak (Call.GiveHandle buffer Weak to) _ units new is counts = (omega (arith, counts.strong), omega (arith, counts.weak))
after_letting_go _ _ reply units new is counts = cc

-- a client that may gain a handle needs none
pub needs_none : (call : Call) (units : Amounts) → may_gain call ≡ true → HasUnitFor call units
needs_none (Call.DupHandle buffer strength) units is = record { strong = omega arith; weak = omega arith }
needs_none Call.Collect units is = record { strong = omega arith; weak = omega arith }
needs_none _ units is = cc

-- and has afterwards the one that was brought
pub after_gaining : (call : Call) (reply : Reply) (units new : Amounts) → may_gain call ≡ true → CountsEvent units new call reply →
    SameHandles new (with_gain (gained call reply) units)
after_gaining (Call.DupHandle buffer Strong) Reply.Done units new is counts = (omega (arith, counts.strong), omega (arith, counts.weak))
after_gaining (Call.DupHandle buffer Weak) Reply.Done units new is counts = (omega (arith, counts.strong), omega (arith, counts.weak))
after_gaining Call.Collect (Reply.CollectedHandle buffer Strong) units new is counts =
    (omega (arith, counts.strong), omega (arith, counts.weak))
after_gaining Call.Collect (Reply.CollectedHandle buffer Weak) units new is counts =
    (omega (arith, counts.strong), omega (arith, counts.weak))
after_gaining (Call.DupHandle buffer Strong) reply units new is counts = (omega (arith, counts.strong), omega (arith, counts.weak))
after_gaining (Call.DupHandle buffer Weak) reply units new is counts = (omega (arith, counts.strong), omega (arith, counts.weak))
after_gaining Call.Collect reply units new is counts = (omega (arith, counts.strong), omega (arith, counts.weak))
after_gaining call reply units new is counts = cc

-- a client that had none has the new one, and no other
pub has_gained : (call : Call) (reply : Reply) (units new : Amounts) → may_gain call ≡ true → SameHandles units no_amounts →
    CountsEvent units new call reply → SameHandles new (with_gain (gained call reply) no_amounts)
has_gained call reply units new is none counts = alone (gained call reply) (after_gaining call reply units new is counts)
  where
    -- by cases on what is gained
    alone : (gain : Option Strength) → SameHandles new (with_gain gain units) → SameHandles new (with_gain gain no_amounts)
    alone None same = (same.0 ∙ none.0, same.1 ∙ none.1)
    alone (Some Strong) same = (same.0 ∙ ap (λ n. n + 1) none.0, same.1 ∙ none.1)
    alone (Some Weak) same = (same.0 ∙ none.0, same.1 ∙ ap (λ n. n + 1) none.1)

-- the new one is dropped, and none is left
pub gives_gain : (strength : Strength) (old new : Amounts) → SameHandles old (handle_unit strength) → old ≡ with_one strength new →
    SameHandles new no_amounts
gives_gain Strong old new has passed =
    (omega (arith, has.0, ap (λ (u : Amounts). u.strong) passed), omega (arith, has.1, ap (λ (u : Amounts). u.weak) passed))
gives_gain Weak old new has passed =
    (omega (arith, has.0, ap (λ (u : Amounts). u.strong) passed), omega (arith, has.1, ap (λ (u : Amounts). u.weak) passed))

-- a client that had no handle has those that it took
pub after_taking : (key : NodeKey) (reply : Reply) (units new : Amounts) → SameHandles units no_amounts →
    CountsEvent units new (Call.Take key) reply →
    SameHandles new (units_by (told_taken reply))
after_taking key (Reply.Taken collection Strong set) units new none counts =
    (omega (arith, none.0, counts.strong), omega (arith, none.1, counts.weak))
after_taking key (Reply.Taken collection Weak set) units new none counts =
    (omega (arith, none.0, counts.strong), omega (arith, none.1, counts.weak))
after_taking key _ units new none counts = (omega (arith, none.0, counts.strong), omega (arith, none.1, counts.weak))
