use Rattle.play_likeness.proofs.Common.{Actor, AreAlikeAll, AreAlikeStages, List, Ok, Stage, ahead_of, ap, arith, get_or, length, map}
use Rattle.play_likeness.proofs.Common.{new_id, new_key, new_number, stage_of, subst, sym, ◌<◌, ◌≤◌}
use Rattle.sm_names.proofs.ListLaws.{map-map}
use Rattle.play_likeness.proofs.StageLaws.{all-done, all-more}
use Rattle.play_likeness.proofs.plays.are_alike_ahead.Goals as goal

-- one actor more
pub loop-at-preserved : goal.loop-at-preserved
loop-at-preserved c =
    let within : c.loop-at.at < length c.args.one.now = omega arith in
    let there : c.loop-at.at < length c.args.other.now = omega arith in
    all-more (new_key c.args.names.now) (new_id c.args.names.now) (new_number c.args.names.now) (λ (a : Actor). ahead_of (stage_of a))
    c.args.one.now c.args.other.now c.loop-at.at c.index-one-at.result c.index-other-at.result within there c.loop-at.invariant
    (subst (λ (a : Actor). AreAlikeStages (new_key c.args.names.now) (new_id c.args.names.now) (new_number c.args.names.now) (ahead_of
    (stage_of a))
    (ahead_of (stage_of (get_or c.args.other.now c.loop-at.at c.index-other-at.result)))) c.index-one-at.is
    (subst (λ (a : Actor). AreAlikeStages (new_key c.args.names.now) (new_id c.args.names.now) (new_number c.args.names.now)
    (ahead_of (stage_of c.index-one-at.result)) (ahead_of (stage_of a))) c.index-other-at.is
    (c.in_ok-is_alike_ahead.ensures (ap Ok c.if-not-branch.false))))

-- all of them
pub returns : goal.returns
returns c = λ _.
    let all : length c.args.one.now ≤ c.loop-at.at = omega arith in
    let both : length c.args.other.now ≤ c.loop-at.at = omega arith in
    let done = all-done (new_key c.args.names.now) (new_id c.args.names.now) (new_number c.args.names.now) (λ (a : Actor). ahead_of
    (stage_of a))
    c.args.one.now c.args.other.now c.loop-at.at all both c.loop-at.invariant in
    subst (λ (l : List Stage). AreAlikeAll (new_key c.args.names.now) (new_id c.args.names.now) (new_number c.args.names.now) l
    (map ahead_of (map stage_of c.args.other.now))) (sym (map-map ahead_of stage_of c.args.one.now))
    (subst (AreAlikeAll (new_key c.args.names.now) (new_id c.args.names.now) (new_number c.args.names.now)
    (map (λ (a : Actor). ahead_of (stage_of a)) c.args.one.now)) (sym (map-map ahead_of stage_of c.args.other.now)) done)
