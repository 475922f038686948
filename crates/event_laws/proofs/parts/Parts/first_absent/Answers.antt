use Rattle.event_laws.proofs.Common.{arith, common_steps, false, is_among, length, makes_client, sym, true, ◌+◌, ◌∙◌, ◌≡◌}
use Rattle.event_laws.proofs.NumberLaws.{marked_there, read_next}
use Rattle.event_laws.proofs.parts.Parts.first_absent.Goals.{else-makes_client-via-then-makes_client+else-not-index}
use Rattle.event_laws.proofs.parts.Parts.first_absent.Goals.{else-makes_client-via-else-makes_client}
use Rattle.event_laws.proofs.parts.Parts.first_absent.Goals as goal

pub loop-entry-preserved : goal.loop-entry-preserved
loop-entry-preserved c =
    let so = c.loop-entry.invariant in
    let on = c.in-Some.ensures.cases.0 in
    let more : length c.loop-entry.rest.now ≡ length c.in-Some.later.now + 1 = rw on (omega arith) in
    let there : makes_client c.in-Some.entry.now ≡ true → is_among c.args.ids.now (c.loop-entry.at + 1) ≡ true =
    elim c.else-makes_client.branch [
      | else-makes_client-via-then-makes_client+else-not-index w ↦
          λ join. marked_there _ c.args.ids.now c.loop-entry.at w.index.result.now so.marks
          (omega (arith, so.many, so.at, more)) w.index.ensures w.if-not-index.false
      | else-makes_client-via-else-makes_client w ↦ λ join. let no : makes_client c.in-Some.entry.now ≡ false =
          sym c.makes_client.ensures ∙ w.if-makes_client.false in cc
    ]
    in
    record {
      marks = so.marks;
      many = so.many;
      read = read_next c.args.ids.now (c.loop-entry.at + 1) c.in-Some.entry.now c.loop-entry.rest.now c.in-Some.later.now c.args.self.now on
          there so.read;
      at = omega (arith, so.at, more);
    }

pub loop-entry-init : goal.loop-entry-init
loop-entry-init c = grind (arith, common_steps)

pub returns : goal.returns
returns c = grind (arith, common_steps)
