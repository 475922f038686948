use Rattle.client_actors.proofs.OnceLaws.{runs-once}
use Rattle.client_actors.proofs.laws.a_run_without_patience_makes_each_step_once.Goals as goal

pub returns : goal.returns
returns c clients steps made state runs = runs-once clients steps made state runs
