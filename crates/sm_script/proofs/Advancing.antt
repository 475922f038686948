-- A session that advances by one line.
use Rattle.std.proofs.Common.{◌≡◌, ◌≢◌, ◌≤◌, ℕ, List, [], ◌++◌, refl, sym, ap, ◌∙◌, subst, Some}
use Rattle.sm_names.specs.declared.messages.Call.{Call}
use Rattle.script_labels.specs.declared.act.Act.{Act}
use Rattle.script_labels.specs.declared.act.Binds.{Binds}
use Rattle.sm_script.specs.declared.session.Session.{Session}
use Rattle.script_labels.specs.declared.stop.LineStop.{LineStop}
use Rattle.script_labels.specs.Names.{act_in}
use Rattle.sm_script.specs.Scenes.{Scene, ActGives}
use Rattle.sm_script.specs.Sessions.{IsAt, Advances, Gains, IsStopped}

-- an act of a line answers the line, where nothing was there before its text
pub gains-answer : (old new : Session) (line before after : List ℕ) (act : Act) (scene : Scene) →
    act_in scene.names line ≡ Some act → before ≡ [] → Gains old new act before after scene →
    Advances old new line after scene
gains-answer old new line before after act scene good empty gains =
    let text : after ≡ gains.text = gains.gained ∙ ap (λ front. front ++ gains.text) empty in
    record {
      setting = gains.setting;
      next = gains.next;
      answers = record {
        act = act;
        good = good;
        gives = subst (λ t. ActGives old.core.pool scene act t gains.next) (sym text) gains.gives;
      };
      is_at = gains.is_at;
    }

-- a call that was not answered
pub call-stopped : (session : Session) (line : List ℕ) (scene : Scene) (client : ℕ) (call : Call) (binds : Binds) (stop : LineStop) →
    act_in scene.names line ≡ Some (Act.Ask client call binds) → IsAt session scene →
    (stop ≢ LineStop.BadLine) × (stop ≡ LineStop.HistoryFull → session.core.limits.events ≤ session.core.events) →
    IsStopped session line scene stop
call-stopped session line scene client call binds LineStop.BadLine good at why = absurd (why.0 refl)
call-stopped session line scene client call binds LineStop.HistoryFull good at why =
    (client, call, binds, good, subst (λ made. session.core.limits.events ≤ made) at.shows.shown.events (why.1 refl))
call-stopped session line scene client call binds LineStop.NoMemory good at why = tt
