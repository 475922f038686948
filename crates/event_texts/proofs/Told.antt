-- A line that was answered, and whose facts were told.
use Rattle.event_texts.proofs.Common.{Act, Call, Calls, Event, EventWriter, IsAt, Keeps, KeptLines, Labels, List, Names, Recalls, Scene}
use Rattle.event_texts.proofs.Common.{Session, Some, TellsFacts, act_in, ap, as_line, failures, next_scene, refl, reply_text, subst, sym}
use Rattle.event_texts.proofs.Common.{timeline, with_event, ℕ, ◌∙◌, ◌≡◌}
use Rattle.script_labels.specs.declared.act.Binds.{Binds}
use Rattle.sm_script.specs.Scenes.{ActGives}
use Rattle.sm_script.specs.Sessions.{Advances, IsSameSetting}
use Rattle.event_texts.specs.Called.{Knows}
use Rattle.event_texts.specs.EventLines.{IsEventOf, TellsAct, TellsLine}
use Rattle.event_texts.proofs.Losing.{recalls-same}

module _ (old new : EventWriter) (number : ℕ) (line reply facts : List ℕ) (scene : Scene) (lines : KeptLines) (knows : Knows old scene)
    (recalls : Recalls old lines) where
  -- the line made a call, and the facts of its event were told
  pub told-call : (mid : EventWriter) (client : ℕ) (call : Call) (binds : Binds) (event : Event) →
      act_in scene.names line ≡ Some (Act.Ask client call binds) → IsSameSetting old.session mid.session →
      reply ≡ as_line (reply_text scene.names binds event.reply) → Knows mid (next_scene scene client call binds event.reply) →
      IsEventOf old.session.core client call event → mid.losses ≡ old.losses → mid.deeds ≡ old.deeds →
      mid.limits ≡ old.limits → new.session ≡ mid.session → new.labels ≡ mid.labels →
      new.failures ≡ mid.failures →
      ((ls : KeptLines) → Recalls mid ls → Recalls new (with_event (number, line) event ls)) →
      ((names : Names) (ls : KeptLines) → Keeps mid.session.tables names → Calls mid.labels names → Recalls mid ls →
      TellsFacts names (with_event (number, line) event ls) mid.session.core event facts) →
      TellsLine old new number line reply facts scene lines
  told-call mid client call binds event good setting text after is losses deeds limits session labels counted noted told =
      let next : Scene = next_scene scene client call binds event.reply in
      let later : KeptLines = with_event (number, line) event lines in
      let kept : Recalls mid lines = recalls-same old mid lines losses deeds limits setting.limits recalls in
      record {
        advances = record {
          setting = subst (λ (s : Session). IsSameSetting old.session s) (sym session) setting;
          next = next;
          answers = record { act = Act.Ask client call binds; good = good; gives = (event.reply, text, refl) };
          is_at = subst (λ (s : Session). IsAt s next) (sym session) after.is_at;
        };
        calls = subst (λ (l : Labels). Calls l next.names) (sym labels) after.calls;
        failed = counted ∙ (after.failed
            ∙ ap (λ (s : Session). failures (timeline s.core.pool next.history)) (sym session));
        later = later;
        recalls = noted lines kept;
        tells = (
          event.reply,
          refl,
          record {
            event = event;
            is_event = is;
            answered = refl;
            noted = refl;
            tells = subst (λ (s : Session). TellsFacts next.names later s.core event facts) (sym session)
                (told next.names lines after.is_at.keeps after.calls kept);
          },
        );
      }

  -- the line made no call, and has no facts
  pub told-look : (act : Act) → act_in scene.names line ≡ Some act →
      ((pool : ℕ) (text : List ℕ) (next : Scene) → ActGives pool scene act text next → next ≡ scene) →
      Advances old.session new.session line reply scene → new.labels ≡ old.labels → new.losses ≡ old.losses → new.deeds ≡ old.deeds →
      new.limits ≡ old.limits → new.failures ≡ old.failures →
      ((next : Scene) → TellsAct old.session.core new.session.core scene next number line act lines lines facts) →
      TellsLine old new number line reply facts scene lines
  told-look act good stays step labels losses deeds limits counted none =
      let same : step.answers.act ≡ act = let both : Some step.answers.act ≡ Some act = sym step.answers.good ∙ good in cc in
      let gives : ActGives old.session.core.pool scene act reply step.next =
      subst (λ (a : Act). ActGives old.session.core.pool scene a reply step.next) same step.answers.gives in
      let here : step.next ≡ scene = stays old.session.core.pool reply step.next gives in
      record {
        advances = record {
          setting = step.setting;
          next = step.next;
          answers = record { act = act; good = good; gives = gives };
          is_at = step.is_at;
        };
        calls = subst (λ (s : Scene). Calls new.labels s.names) (sym here)
            (subst (λ (l : Labels). Calls l scene.names) (sym labels) knows.calls);
        failed = counted ∙ (knows.failed
            ∙ (ap (λ (p : ℕ). failures (timeline p scene.history)) (sym step.setting.pool)
            ∙ ap (λ (s : Scene). failures (timeline new.session.core.pool s.history)) (sym here)));
        later = lines;
        recalls = recalls-same old new lines losses deeds limits step.setting.limits recalls;
        tells = none step.next;
      }
