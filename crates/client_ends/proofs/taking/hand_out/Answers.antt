use Rattle.std.proofs.Common.{◌≡◌, ◌<◌, ◌++◌, ◌∷◌, [], ◌∙◌, true, false, ◌==◌, ap, arith, length, refl, sym}
use Rattle.std.specs.Int.{bit_at}
use Rattle.sm_names.specs.declared.rules.TheConstants.{MAX_BUFFERS}
use Rattle.client_ends.specs.Clients.{Grip}
use Rattle.client_ends.specs.Taking.{grips_at}
use Rattle.event_laws.specs.HandleSums.{indices_in}
use Rattle.client_ends.proofs.TakeLaws.{grips_all, grips_first, grips_with, grips_without, none_left}
use Rattle.client_ends.proofs.TakeLaws.{unit_there, units_behind, units_first, units_stay}
use Rattle.service_lock.proofs.UnitLaws.{same_events}
use Rattle.client_ends.proofs.taking.hand_out.Goals as goal
use Rattle.client_ends.proofs.taking.hand_out.Goals.{then-has_buffer, else-has_buffer}

pub handing-init : goal.handing-init
handing-init g c = record {
  units = units_first c.args.account.now.units c.args.taken.now c.requires.units;
  events = refl;
  own = refl;
  handles = grips_first c.args.client c.args.taken.now c.args.handles.now.items c.requires.none;
  few = omega (arith, c.args.handles.now.ok, ap length c.requires.none);
  room = c.requires.room;
  parts = omega (arith, ap length c.requires.none, c.args.handles.now.ok);
}

pub hand_one-handle-requires-clause-unit : goal.hand_one-handle-requires-clause-unit
hand_one-handle-requires-clause-unit g c =
    unit_there c.handing.index c.args.taken.now.set c.args.taken.now.strength c.handing.account.units c.handing-test.true
    (sym c.has_buffer.ensures ∙ c.if-has_buffer.true) c.handing.invariant.units

pub handing-preserved : goal.handing-preserved
handing-preserved g c =
    let i = c.handing.index in
    let taken = c.args.taken.now in
    let so = c.handing.invariant in
    let low : i < MAX_BUFFERS = c.handing-test.true in
    let all = grips_at c.args.client taken (indices_in taken.set) in
    let items = c.handing.handles.items in
    elim c.if-has_buffer.branch [
      | then-has_buffer w ↦
          let bit : (bit_at taken.set i == 1) ≡ true = sym c.has_buffer.ensures ∙ w.if-has_buffer.true in
          let passed = w.hand_one-handle.ensures.units in
          let pushed = w.push_reserved.ensures.items ∙ ap (λ (h : Grip). items ++ h ∷ []) w.hand_one-handle.ensures.handle in
          record {
            units = rw w.account-is (units_behind i taken.set taken.strength c.handing.account.units
                w.hand_one-handle.new.account.units low bit so.units
                passed);
            events = rw w.account-is (same_events taken.strength c.handing.account.units w.hand_one-handle.new.account.units passed
                ∙ so.events);
            own = rw w.account-is (w.hand_one-handle.ensures.own ∙ so.own);
            handles = rw w.handles-is (rw pushed (grips_with i taken.set c.args.client taken items all low bit so.handles));
            few = rw w.handles-is (omega (arith, w.push_reserved.ensures.len, so.few));
            room = rw w.handles-is (omega (arith, w.push_reserved.ensures.capacity, so.room));
            parts = rw w.handles-is (rw w.state-is (omega (
              arith,
              w.push_reserved.ensures.len,
              ap (λ s. s.parts) w.hand_one-handle.ensures.part,
              so.parts,
            )));
          }
      | else-has_buffer w ↦
          let bit : (bit_at taken.set i == 1) ≡ false = sym c.has_buffer.ensures ∙ w.if-has_buffer.false in
          record {
            units = rw w.account-is (units_stay i taken.set taken.strength c.handing.account.units low bit so.units);
            events = rw w.account-is so.events;
            own = rw w.account-is so.own;
            handles = rw w.handles-is (grips_without i taken.set c.args.client taken items all low bit so.handles);
            few = rw w.handles-is (omega (arith, so.few));
            room = rw w.handles-is so.room;
            parts = rw w.handles-is (rw w.state-is so.parts);
          }
    ]

pub returns-clause-units : goal.returns-clause-units
returns-clause-units g c =
    let all : c.handing.index ≡ MAX_BUFFERS = omega (arith, c.handing-test.false, c.handing.auto.index-end) in
    none_left c.handing.index c.args.taken.now.set c.args.taken.now.strength c.handing.account.units all c.handing.invariant.units

pub returns-clause-handles : goal.returns-clause-handles
returns-clause-handles g c =
    let all : c.handing.index ≡ MAX_BUFFERS = omega (arith, c.handing-test.false, c.handing.auto.index-end) in
    grips_all c.handing.index c.args.taken.now.set c.args.client c.args.taken.now c.handing.handles.items
    (grips_at c.args.client c.args.taken.now (indices_in c.args.taken.now.set)) all c.handing.invariant.handles

pub hand_one-handle-requires-clause-part : goal.hand_one-handle-requires-clause-part
hand_one-handle-requires-clause-part g c =
    omega (arith, c.handing.invariant.parts, c.handing.invariant.few, c.handing-test.true, c.requires.parts)
