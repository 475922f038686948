-- What a session says of its setting.
use Rattle.std.proofs.Common.{◌≡◌, ℕ, ◌≤◌, List, None, subst}
use Rattle.sm_names.specs.Bounds.{Bound}
use Rattle.sm_names.specs.Legality.{IsLegal}
use Rattle.sm_names.specs.Marks.{events}
use Rattle.sm_names.specs.Timelines.{timeline}
use Rattle.sm_script.specs.declared.session.Session.{Session}
use Rattle.script_labels.specs.declared.stop.LineStop.{LineStop}
use Rattle.script_labels.specs.Names.{act_in}
use Rattle.report_io.specs.declared.fault.ReportFault.{ReportFault}
use Rattle.report_io.specs.Faults.{GivesReason, IsFaultOf}
use Rattle.sm_script.specs.Runs.{IsUnkept, IsWhy}
use Rattle.sm_script.specs.Scenes.{Scene, Setting}
use Rattle.sm_script.specs.Sessions.{IsAt, IsStopped}

-- a session that a full history stops is over in the setting
pub over-in : (setting : Setting) (session : Session) (scene : Scene) (line : List ℕ) → session.core.pool ≡ setting.pool →
    session.core.limits ≡ setting.limits → IsStopped session line scene LineStop.HistoryFull → IsUnkept setting scene line
over-in setting session scene line pool limits why = record {
  client = why.0;
  call = why.1;
  binds = why.2;
  asks = why.3;
  full =
      subst (λ (p : ℕ). setting.limits.events ≤ events (timeline p scene.history)) pool
      (subst (λ (l : Bound). l.events ≤ events (timeline session.core.pool scene.history)) limits why.4);
}

-- the history that the session shows is legal in the setting
pub legal-in : (setting : Setting) (session : Session) (scene : Scene) → session.core.pool ≡ setting.pool →
    session.core.limits ≡ setting.limits → IsAt session scene → IsLegal setting.pool setting.limits scene.history
legal-in setting session scene pool limits at =
    subst (λ (l : Bound). IsLegal setting.pool l scene.history) limits
    (subst (λ (p : ℕ). IsLegal p session.core.limits scene.history) pool at.shows.legal)

-- the fault that is told of a line that the session did not answer says why
pub why-in : (setting : Setting) (session : Session) (scene : Scene) (line : List ℕ) → session.core.pool ≡ setting.pool →
    session.core.limits ≡ setting.limits → (number : ℕ) (stop : LineStop) (fault : ReportFault) →
    IsStopped session line scene stop → IsFaultOf number stop fault →
    (stop ≡ LineStop.BadLine → act_in scene.names line ≡ None → GivesReason scene.names line fault) →
    IsWhy setting scene line number fault
why-in setting session scene line pool limits number stop (ReportFault.BadLine n reason) stopped is reasoned =
    let bad : act_in scene.names line ≡ None = subst (IsStopped session line scene) is.0 stopped in
    (bad, is.1, reasoned is.0 bad)
why-in setting session scene line pool limits number stop ReportFault.HistoryFull stopped is reasoned =
    over-in setting session scene line pool limits (subst (IsStopped session line scene) is stopped)
why-in setting session scene line pool limits number stop ReportFault.NoMemory stopped is reasoned = tt
why-in setting session scene line pool limits number stop (ReportFault.WriteFault fault) stopped is reasoned = absurd is
why-in setting session scene line pool limits number stop ReportFault.ReadFault stopped is reasoned = absurd is
why-in setting session scene line pool limits number stop ReportFault.TooLong stopped is reasoned = absurd is
why-in setting session scene line pool limits number stop (ReportFault.Missing sought n) stopped is reasoned = absurd is
