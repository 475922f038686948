use Rattle.actor_plays.proofs.Common.{Call, Makes, Reply, [], ap, subst, ◌++◌, ◌∙◌, ◌∷◌}
use Rattle.actor_plays.proofs.PlayLaws.{joined}
use Rattle.actor_plays.proofs.play.Play.join.Goals as goal

pub returns-clause-joining : goal.returns-clause-joining
returns-clause-joining c =
    joined c.args.self.now c.make_call.new.self c.add_actor.new.self c.in-Joined.client c.requires c.in_ok-reply.ensures.shows
    (subst (λ (r : Reply). Makes c.args.self.now.core c.make_call.new.self.core (0, Call.Join, r)) c.in-Joined.is
    c.in_ok-reply.ensures.makes)
    (c.in_ok-reply.ensures.entries ∙ ap (λ r. c.args.self.now.entries.items ++ (0, Call.Join, r) ∷ []) c.in-Joined.is)
    c.in_ok-reply.ensures.rest c.in_ok-add_actor.ensures.clients c.in_ok-add_actor.ensures.stages c.in_ok-add_actor.ensures.rest
