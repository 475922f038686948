-- What the goals of `commit` have in common: the state before the call, and what the call begins with.
use Rattle.lifetime_core.proofs.Common.{State, core_known, sym, true, ◌∙◌, ◌≡◌}
use Rattle.core_state.specs.Tasks.{Parts}
use Rattle.core_state.proofs.forced.Known.{IsKnown}
use Rattle.core_state.proofs.theorem.EventParts.{Begins, begins}
use Rattle.core_state.proofs.theorem.Idle.{Idles, idles}
use Rattle.lifetime_core.proofs.machine.Core.commit.Goals.{After-changes_nothing, In-Ok}

-- the state before the call
abbrev pub before : After-changes_nothing → State
before c = record {
  pool = c.self.inside.contents.pool.size;
  limits = c.self.inside.limits;
  events = c.self.inside.events;
  clients = c.self.inside.contents.clients.items;
  forest = c.self.inside.contents.forest;
  holds = c.self.inside.contents.holds;
  trackers = c.self.inside.contents.trackers;
}

-- what is known of its fields
pub known : (c : After-changes_nothing) → IsKnown (before c).limits (before c)
known c = core_known c.self.inside.contents.pool (before c) c.self.invariant

-- the call begins there with what was asked: each premise is one of the function's
pub begun : (c : After-changes_nothing) →
    Begins (before c) c.args.client c.args.call.now c.args.decision.reply c.args.decision.task c.args.decision.tracking
begun c = begins (before c) c.args.self.now c.args.client c.args.call.now c.args.decision.reply
    c.args.decision.task c.args.decision.tracking c.self.view_is (known c) c.requires.reply c.requires.work
    c.requires.spends c.requires.there c.requires.some c.requires.tracking

-- a call that changes nothing leaves the state, but for the number of events: the test is what the definition says
pub idle : (c : After-changes_nothing) → c.changes_nothing.result ≡ true →
    Idles (before c) c.args.client c.args.call.now c.args.decision.reply
idle c nothing = idles (before c) c.args.self.now c.args.client c.args.call.now
    c.args.decision.reply c.self.view_is (known c) c.requires.reply (sym c.changes_nothing.ensures ∙ nothing)

-- what the effect of the call left
abbrev pub made : In-Ok → Parts
made c = record {
  clients = c.take_effect.new.contents.clients.items;
  forest = c.take_effect.new.contents.forest;
  holds = c.take_effect.new.contents.holds;
  trackers = c.take_effect.new.contents.trackers;
}
