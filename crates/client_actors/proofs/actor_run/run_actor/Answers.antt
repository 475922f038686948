use Rattle.client_actors.proofs.Common.{HasRunSome, RunsPatiently, Seen, ap, held_in, known, lies, pairs_of, subst, ◌∙◌, ◌≡◌}
use Rattle.client_actors.proofs.ScriptLaws.{broken_id, has_broken, has_finished, has_stopped, runs_none}
use Rattle.client_actors.proofs.actor_run.run_actor.Goals as goal

pub run_steps-ran-requires-clause-none : goal.run_steps-ran-requires-clause-none
run_steps-ran-requires-clause-none g c =
    runs_none c.args.playing.now.clients.now c.args.playing.now.most c.new-actor.result (ap (λ (s : Seen). s.own) c.new-actor.ensures.client
    ∙ c.requires) c.new-actor.ensures.state

-- the actor is that client's
same_client : (left ran made client : Seen) → left ≡ ran → ran.id ≡ made.id → made ≡ client → left.id ≡ client.id
same_client left ran made client is same new = ap (λ (s : Seen). s.id) is ∙ (same ∙ ap (λ (s : Seen). s.id) new)

pub returns-in-Ok-vanish : goal.returns-in-Ok-vanish
returns-in-Ok-vanish g c =
    let actor = c.run_steps-ran.new.actor in
    let steps = c.args.script.now.steps.items in
    let left = c.leave-client in
    let gone = c.in-Ok-vanish.ensures.gone in
    let runs = subst (λ l. RunsPatiently c.args.playing.now.clients.now c.args.playing.now.most l
    (pairs_of actor.client.own) (known actor.state))
    c.as_slice-steps.ensures.value
    c.in-Ok.ensures.runs in (
      gone.goes.made.id ∙ same_client left.result.0 actor.client c.new-actor.result.client c.args.client left.ensures.client
          c.run_steps-ran.ensures.id c.new-actor.ensures.client,
      has_finished c.args.playing.now.clients.now c.args.playing.now.most steps actor left.result.0 c.in-Ok-vanish.wreck
          (held_in left.result.1) left.ensures.client runs
          c.in-Ok.ensures.aware
          c.run_steps-ran.ensures.sound left.ensures.held gone,
    )

pub returns-in-Err-vanish : goal.returns-in-Err-vanish
returns-in-Err-vanish g c =
    let actor = c.run_steps-ran.new.actor in
    let steps = c.args.script.now.steps.items in
    let left = c.leave-client in
    let back = c.in-Err-vanish in
    let runs = subst (λ l. RunsPatiently c.args.playing.now.clients.now c.args.playing.now.most l
    (pairs_of actor.client.own) (known actor.state))
    c.as_slice-steps.ensures.value
    c.in-Ok.ensures.runs in (
      broken_id left.result.0 back.client (held_in left.result.1) (held_in back.held) back.ensures.fault
          ∙ same_client left.result.0 actor.client c.new-actor.result.client c.args.client left.ensures.client
          c.run_steps-ran.ensures.id c.new-actor.ensures.client,
      has_broken c.args.playing.now.clients.now c.args.playing.now.most steps actor left.result.0 back.client
          (held_in left.result.1) (held_in back.held) left.ensures.client
          runs
          c.in-Ok.ensures.aware c.run_steps-ran.ensures.sound left.ensures.held back.ensures.fault back.ensures.own,
    )

pub returns-in-Err : goal.returns-in-Err
returns-in-Err g c =
    let actor = c.run_steps-ran.new.actor in
    let steps = c.args.script.now.steps.items in
    let left = c.leave-client in
    let some = subst (λ l. HasRunSome c.args.playing.now.clients.now c.args.playing.now.most l actor.client
    (lies actor.slots.items)) c.as_slice-steps.ensures.value
    c.in-Err.ensures.some in (
      same_client left.result.0 actor.client c.new-actor.result.client c.args.client left.ensures.client c.run_steps-ran.ensures.id
          c.new-actor.ensures.client,
      has_stopped c.args.playing.now.clients.now c.args.playing.now.most steps actor left.result.0
          (held_in left.result.1) left.ensures.client some
          c.run_steps-ran.ensures.sound left.ensures.held left.ensures.owned,
    )
