use Rattle.core_likeness.proofs.Common.{BufferName, Entry, IsCounted, Opening, Strength, arith, is_opened, length, new_id, opening_by}
use Rattle.core_likeness.proofs.Common.{refl, subst, sym, true, ◌<◌, ◌≡◌, ◌≤◌}
use Rattle.core_likeness.proofs.HandleLaws.{counted-all, counted-more}
use Rattle.core_likeness.proofs.handles.are_counted.Goals as goal

-- one entry more is counted
pub loop-entry-preserved : goal.loop-entry-preserved
loop-entry-preserved c =
    let within : c.loop-entry.entry-index < length c.args.entries.now = omega arith in
    counted-more c.args.sides.now.one.now.holds c.args.sides.now.other.now.holds (new_id c.args.sides.now.names.now)
    c.args.sides.now.is_old c.args.entries.now
    c.loop-entry.entry-index c.entry-item.result within c.loop-entry.invariant
    (subst (λ (x : Entry). (buffer : BufferName) (strength : Strength) → is_opened (opening_by x.1 x.2) buffer ≡ true →
    IsCounted c.args.sides.now.one.now.holds c.args.sides.now.other.now.holds (new_id c.args.sides.now.names.now)
    c.args.sides.now.is_old x.0 buffer strength) c.entry-item.is
    (λ buffer strength h. c.if-not-is_opening_counted.ensures refl buffer strength
    (subst (λ (o : Opening). is_opened o buffer ≡ true) (sym c.opening_of-opening.ensures) h)))

-- all are
pub returns : goal.returns
returns c = λ _.
    let all : length c.args.entries.now ≤ c.loop-entry.entry-index = omega arith in
    counted-all c.args.sides.now.one.now.holds c.args.sides.now.other.now.holds (new_id c.args.sides.now.names.now)
    c.args.sides.now.is_old c.args.entries.now
    c.loop-entry.entry-index all
    c.loop-entry.invariant
