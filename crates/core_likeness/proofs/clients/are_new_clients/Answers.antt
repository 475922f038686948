use Rattle.core_likeness.proofs.Common.{ap, arith, client_after, client_renamed, length, new_id, new_key, timeline, ℕ, ◌<◌, ◌≤◌}
use Rattle.std.proofs.Common.{Ok}
use Rattle.core_likeness.proofs.Steps.{alike-all, alike-more}
use Rattle.core_likeness.proofs.clients.are_new_clients.Goals as goal

-- one client more stands alike
pub loop-client-preserved : goal.loop-client-preserved
loop-client-preserved c = λ pool size.
    let within : c.loop-client.client-index < length c.args.clients.now = omega arith in
    alike-more (client_after (timeline size c.args.second.now))
    (λ (client : ℕ). client_renamed (new_key c.args.names.now) (new_id c.args.names.now) (client_after (timeline pool
    c.args.first.now) client))
    c.args.clients.now c.args.clients.now c.loop-client.client-index 0 0 within within (c.loop-client.invariant pool size)
    (c.in_ok-is_new_client.ensures (ap Ok c.if-not-branch.false) pool size)

-- all do
pub returns : goal.returns
returns c = λ _ pool size.
    let all : length c.args.clients.now ≤ c.loop-client.client-index = omega arith in
    alike-all (client_after (timeline size c.args.second.now))
    (λ (client : ℕ). client_renamed (new_key c.args.names.now) (new_id c.args.names.now) (client_after (timeline pool
    c.args.first.now) client))
    c.args.clients.now c.args.clients.now c.loop-client.client-index all all (c.loop-client.invariant pool size)
