use Rattle.actor_scripts.proofs.Common.{Known, MAX_BUFFERS, ap, arith, bit_at, false, known, sym, true, with_objects, ◌<◌, ◌==◌, ◌∙◌, ◌≡◌}
use Rattle.actor_scripts.proofs.TableLaws.{at_end, behind, step_with, step_without}
use Rattle.actor_scripts.proofs.actor_state.ActorState.push_handles.Goals.{then-has_buffer+in_ok-push, else-has_buffer}
use Rattle.actor_scripts.proofs.actor_state.ActorState.push_handles.Goals as goal

pub pushing-preserved : goal.pushing-preserved
pushing-preserved c =
    let i = c.pushing.index in
    let low : i < MAX_BUFFERS = c.pushing-test.true in
    let so = c.pushing.invariant in
    let rest = behind c.args.collection c.args.strength c.args.set i in
    elim c.if-has_buffer.branch [
      | then-has_buffer+in_ok-push w ↦
          let bit : (bit_at c.args.set i == 1) ≡ true = sym c.has_buffer.ensures ∙ w.if-has_buffer.true in
          rw w.self-is
          (ap (λ (d : Known). with_objects d rest) w.in_ok-push.ensures
          ∙ (sym (ap (with_objects (known c.pushing.self)) (step_with c.args.collection c.args.strength c.args.set i low bit)) ∙ so))
      | else-has_buffer w ↦
          let bit : (bit_at c.args.set i == 1) ≡ false = sym c.has_buffer.ensures ∙ w.if-has_buffer.false in
          rw w.self-is
          (sym (ap (with_objects (known c.pushing.self)) (step_without c.args.collection c.args.strength c.args.set i low bit)) ∙ so)
    ]

pub returns : goal.returns
returns c =
    let all : c.pushing.index ≡ MAX_BUFFERS = omega (arith, c.pushing-test.false, c.pushing.auto.index-end) in
    sym (ap (with_objects (known c.pushing.self)) (at_end c.args.collection c.args.strength c.args.set c.pushing.index all))
    ∙ c.pushing.invariant
