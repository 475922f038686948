-- Where a session stands.
use Rattle.std.specs.Prelude.{ℕ, ◌≡◌, ◌≤◌, List, ◌++◌, ⊤, None, Some}
use Rattle.sm_names.specs.declared.messages.Call.{Call}
use Rattle.sm_names.specs.Marks.{events}
use Rattle.sm_names.specs.Timelines.{timeline}
use Rattle.core_state.specs.Shown.{Shows}
use Rattle.script_labels.specs.declared.act.Act.{Act}
use Rattle.script_labels.specs.declared.act.Binds.{Binds}
use Rattle.sm_script.specs.declared.session.Session.{Session}
use Rattle.script_labels.specs.declared.stop.LineStop.{LineStop}
use Rattle.script_labels.specs.Names.{act_in}
use Rattle.sm_script.specs.Scenes.{Scene, Setting, Answers, ActGives}
use Rattle.script_labels.specs.Tables.{Keeps}

-- the core shows the scene's history, and the tables keep its names
pub record IsAt (session : Session) (scene : Scene) : Type 0 where
  pub shows : Shows session.core scene.history
  pub keeps : Keeps session.tables scene.names

-- the pool and the limits of the session's core
abbrev pub setting_of : Session → Setting
setting_of session = record { pool = session.core.pool; limits = session.core.limits }

-- the session has the same setting
pub record IsSameSetting (old new : Session) : Type 0 where
  pub pool : new.core.pool ≡ old.core.pool
  pub limits : new.core.limits ≡ old.core.limits

-- the act put its text behind what was there, and led to the next scene
pub record Gains (old new : Session) (act : Act) (before after : List ℕ) (scene : Scene) : Type 0 where
  pub setting : IsSameSetting old new
  pub text : List ℕ
  pub gained : after ≡ before ++ text
  pub next : Scene
  pub gives : ActGives old.core.pool scene act text next
  pub is_at : IsAt new next

-- the line was answered with this text
pub record Advances (old new : Session) (line text : List ℕ) (scene : Scene) : Type 0 where
  pub setting : IsSameSetting old new
  pub next : Scene
  pub answers : Answers old.core.pool scene line text next
  pub is_at : IsAt new next

-- why the line was not answered
abbrev pub IsStopped : Session → List ℕ → Scene → LineStop → Type 0
IsStopped session line scene LineStop.BadLine = act_in scene.names line ≡ None
IsStopped session line scene LineStop.HistoryFull =
    (client : ℕ) × (call : Call) × (binds : Binds)
    × (act_in scene.names line ≡ Some (Act.Ask client call binds)) ×
    (session.core.limits.events ≤ events (timeline session.core.pool scene.history))
IsStopped session line scene LineStop.NoMemory = ⊤
