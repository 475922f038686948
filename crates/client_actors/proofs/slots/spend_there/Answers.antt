use Rattle.client_actors.proofs.Common.{MadeOr, Why, rules, spends_object, ◌≡◌}
use Rattle.client_actors.proofs.ObjectCallLaws.{kept_back}
use Rattle.client_actors.proofs.slots.spend_there.Goals as goal

pub returns-in-Reply-clause-did : goal.returns-in-Reply-clause-did
returns-in-Reply-clause-did g c =
    let so : MadeOr (spends_object c.args.call) c.args.client.now c.spend.new.client c.args.call (Why.Reply c.in-Reply.field-0) =
    search rules in
    let same : c.put_back.new.on ≡ c.args.on.now = search rules in
    kept_back c.args.client.now c.spend.new.client c.args.call c.args.on.now c.put_back.new.on c.in-Reply.field-0 c.requires.spends so same
