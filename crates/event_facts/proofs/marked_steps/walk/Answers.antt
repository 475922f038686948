use Rattle.event_facts.proofs.Common.{Collection, IsSound, NodeKey, ap, changed, collection_of, map, stage_of, subst, sym, total, ◌∙◌}
use Rattle.std.proofs.lemmas.Result.{IfOk-weaker}
use Rattle.event_facts.proofs.Copied.{stages_walked}
use Rattle.event_facts.proofs.marked_steps.walk.Goals as goal

-- the copy is changed as the reply says
pub settle-requires : goal.settle-requires
settle-requires c =
    subst (λ (x : Collection). IsSound x)
    (sym (c.in_ok-apply.ensures
    ∙ ap (λ (k : NodeKey). changed c.args.before.change k (collection_of c.args.before.scene)) c.key_told.ensures))
    c.requires.sound

-- and its stages are those of the change and of what it forces
pub returns : goal.returns
returns c =
    IfOk-weaker c.settle.result _ _
    (λ all by. stages_walked c.pages.result c.args.core.now.pool (total c.holds.result.now) (total c.args.core.now.holds) c.deref.result.now
    c.args.before.others.items c.args.before.change (collection_of c.args.before.scene) (collection_of c.apply.new.scene) _
    (collection_of c.settle.new.scene) (map stage_of c.in_ok-moments.moments.items) (map stage_of all.items) c.pages.ensures
    (ap total c.holds.ensures) c.deref.ensures.value
    (c.in_ok-apply.ensures ∙ ap (λ (k : NodeKey). changed c.args.before.change k (collection_of c.args.before.scene)) c.key_told.ensures)
    c.in_ok-moments.ensures by)
    c.settle.ensures
