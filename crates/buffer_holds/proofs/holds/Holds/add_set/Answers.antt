use Rattle.buffer_holds.proofs.Common.{AddsSet, ap, arith, bit_at, refl, subst, sym, true, ◌<◌, ◌^◌, ◌∙◌}
use Rattle.std.proofs.Common.{rules}
use Rattle.buffer_holds.proofs.SetLemmas.{adds_by, adds_none, empty_below, fewer_by, room_by, there_by}
use Rattle.buffer_holds.proofs.holds.Holds.add_set.Goals as goal

-- an empty set opens nothing
pub returns-then-set-eq0-clause-opened : goal.returns-then-set-eq0-clause-opened
returns-then-set-eq0-clause-opened c =
    let a = c.args in
    subst (λ n. AddsSet a.self.now a.self.now a.client a.collection a.strength n 64) (sym c.if-set-eq0.true)
    (adds_none a.client a.collection a.strength 0 64 a.self.now a.self.now refl (empty_below a.collection a.strength 64))

-- the cells of a set are those of a page
pub gain-requires-clause-there : goal.gain-requires-clause-there
gain-requires-clause-there c =
    there_by c.args.client c.args.collection c.args.strength 1 (omega arith) c.owner_of-owner.ensures c.slot_of-slot.ensures.value

pub gain-requires-2-clause-there : goal.gain-requires-2-clause-there
gain-requires-2-clause-there c =
    let fits : c.args.set < 2 ^ 64 = search rules in
    there_by c.args.client c.args.collection c.args.strength c.args.set fits c.owner_of-owner.ensures c.slot_of-slot.ensures.value

-- and fewer than may be are open of each
pub gain-requires-clause-fewer : goal.gain-requires-clause-fewer
gain-requires-clause-fewer c =
    fewer_by c.args.client c.args.collection c.args.strength 1 (omega arith) c.owner_of-owner.ensures c.slot_of-slot.ensures.value
    c.args.self.now (λ index bit. c.requires index (ap (λ n. bit_at n index) c.if-set-eq1.true ∙ bit))

pub gain-requires-2-clause-fewer : goal.gain-requires-2-clause-fewer
gain-requires-2-clause-fewer c =
    let fits : c.args.set < 2 ^ 64 = search rules in
    fewer_by c.args.client c.args.collection c.args.strength c.args.set fits c.owner_of-owner.ensures c.slot_of-slot.ensures.value
    c.args.self.now c.requires

pub returns-in-Ok-clause-opened : goal.returns-in-Ok-clause-opened
returns-in-Ok-clause-opened c =
    subst (λ n. AddsSet c.args.self.now c.gain.new.self c.args.client c.args.collection c.args.strength n 64) (sym c.if-set-eq1.true)
    (adds_by c.args.client c.args.collection c.args.strength 1 (omega arith) c.owner_of-owner.ensures c.slot_of-slot.ensures.value
    c.args.self.now c.gain.new.self c.in-Ok.ensures.gained)

pub returns-in-Ok-gain-clause-opened : goal.returns-in-Ok-gain-clause-opened
returns-in-Ok-gain-clause-opened c =
    let fits : c.args.set < 2 ^ 64 = search rules in
    adds_by c.args.client c.args.collection c.args.strength c.args.set fits c.owner_of-owner.ensures c.slot_of-slot.ensures.value
    c.args.self.now c.gain-2.new.self c.in-Ok-gain.ensures.gained

-- a client with room on each buffer has memory
pub returns-in-Err-clause-room : goal.returns-in-Err-clause-room
returns-in-Err-clause-room c =
    let fits : c.args.set < 2 ^ 64 = search rules in
    room_by c.args.client c.args.collection c.args.strength c.args.set fits c.owner_of-owner.ensures c.slot_of-slot.ensures.value
    c.args.self.now (omega (arith, c.if-set-eq0.false)) c.in-Err.ensures.room

pub returns-in-Err-gain-clause-room : goal.returns-in-Err-gain-clause-room
returns-in-Err-gain-clause-room c =
    let fits : c.args.set < 2 ^ 64 = search rules in
    room_by c.args.client c.args.collection c.args.strength c.args.set fits c.owner_of-owner.ensures c.slot_of-slot.ensures.value
    c.args.self.now (omega (arith, c.if-set-eq0.false)) c.in-Err-gain.ensures.room
