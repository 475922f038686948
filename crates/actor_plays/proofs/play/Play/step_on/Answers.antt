use Rattle.actor_plays.proofs.Common.{Actor, ap, map, passed, stage_of, ◌∙◌}
use Rattle.std.specs.Prelude.{slice_set}
use Rattle.actor_plays.proofs.PlayLaws.{set_same, set_there}
use Rattle.actor_plays.proofs.play.Play.step_on.Goals as goal

pub returns-clause-stages : goal.returns-clause-stages
returns-clause-stages c = λ yes.
    set_there c.args.self.now.actors.items c.args.actor c.index_mut.result.now c.pass.new.self passed c.index_mut.ensures.value
    (c.pass.ensures.stage yes)

pub returns-clause-none : goal.returns-clause-none
returns-clause-none c = λ no.
    ap (λ (a : Actor). map stage_of (slice_set c.args.self.now.actors.items c.args.actor a)) (c.pass.ensures.same no)
    ∙ ap (map stage_of) (set_same c.args.self.now.actors.items c.args.actor c.index_mut.result.now c.index_mut.ensures.value)
