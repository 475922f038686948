-- How far a run has come. No public clause cites this module.
use Rattle.std.specs.Prelude.{◌≡◌, ℕ, ◌+◌, Bool, true, List, length}
use Rattle.report_io.specs.declared.fault.ReportFault.{ReportFault}
use Rattle.sm_script.specs.declared.player.Player.{Player}
use Rattle.sm_script.specs.Runs.{IsWhy}
use Rattle.sm_script.specs.Scenes.{LeadsTo, Plays, Scene, Setting, first_scene}
use Rattle.sm_script.specs.Sessions.{IsAt, setting_of}

-- these lines were answered with this text
pub record IsAnswered (setting : Setting) (player : Player) (lines : List (List ℕ)) (text : List ℕ) : Type 0 where
  pub pool : player.session.core.pool ≡ setting.pool
  pub limits : player.session.core.limits ≡ setting.limits
  pub scene : Scene
  pub plays : Plays setting.pool first_scene lines text scene
  pub is_at : IsAt player.session scene

-- the same, by a player that was this one at first; it takes more lines
abbrev pub Took : Player → Player → Bool → List (List ℕ) → List ℕ → Type 0
Took first now more lines text = (more ≡ true) × IsAnswered (setting_of first.session) now lines text

-- these lines have this text, and the line behind them is not answered for this reason
abbrev pub Refuses : Player → Player → List (List ℕ) → List ℕ → List ℕ → ReportFault → Type 0
Refuses first now lines text line fault =
    (scene : Scene) × LeadsTo (setting_of first.session) lines text scene × IsWhy (setting_of first.session) scene line (length lines + 1) fault
