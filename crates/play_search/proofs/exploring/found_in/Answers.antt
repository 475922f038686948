use Rattle.play_search.proofs.Common.{HaveNoTurn, IsReplay, ap, changes, length, subst, sym, true, ◌∙◌, ◌≡◌}
use Rattle.play_search.specs.Vanishings.{is_allowed}
use Rattle.play_search.proofs.exploring.found_in.Goals as goal

-- its turns are those of the goal, and those that vanished are those of the play
pub returns : goal.returns
returns c =
    let plans = c.args.ground.now.plans.now in
    let vanishing = c.args.ground.now.vanishing in
    let setting = c.args.ground.now.setting in
    let play = c.args.play.now in
    let shown = c.in_ok-found_of.ensures in
    record {
      play = play;
      replay = subst (λ turns. IsReplay plans vanishing setting turns play) (sym shown.turns) c.requires.replay;
      told = c.requires.told;
      outcome = shown.outcome;
      ended = subst (λ turns. HaveNoTurn plans vanishing setting turns (length plans)) (sym shown.turns) c.requires.ended;
      entries = shown.entries;
      steps = shown.steps;
      vanished_are = shown.vanished ∙ c.in_ok-vanished.ensures.are;
      allowed = subst (λ places. is_allowed vanishing places ≡ true) (sym shown.vanished) c.in_ok-vanished.ensures.allowed;
      changes_are = shown.changes ∙ ap changes (sym shown.turns);
    }
