-- A line that was answered and told, in a pool of this many pages.
use Rattle.std.proofs.Common.{◌≡◌, ℕ, List, subst}
use Rattle.sm_script.specs.Scenes.{ActGives, Answers, Scene}
use Rattle.sm_script.specs.Sessions.{Advances, IsAt}
use Rattle.event_texts.specs.declared.event_writer.EventWriter.{EventWriter}
use Rattle.event_texts.specs.Deeds.{KeptLines}
use Rattle.event_texts.specs.EventLines.{Tells, TellsAct, TellsLine}

module _ (pool : ℕ) (event_writer next : EventWriter) where
  -- the line was answered, since the pool is that of the core
  abbrev pub answers-in : (line reply : List ℕ) (scene : Scene) → event_writer.session.core.pool ≡ pool →
      (step : Advances event_writer.session next.session line reply scene) → Answers pool scene line reply step.next
  answers-in line reply scene is step = record {
    act = step.answers.act;
    good = step.answers.good;
    gives = subst (λ (n : ℕ). ActGives n scene step.answers.act reply step.next) is step.answers.gives;
  }

  -- its facts were told, since the cores before and behind it show the two scenes
  pub tells-in : (number : ℕ) (line reply facts : List ℕ) (scene : Scene) (kept : KeptLines) (place : ℕ) →
      event_writer.session.core.pool ≡ pool → IsAt event_writer.session scene → number ≡ place →
      (told : TellsLine event_writer next number line reply facts scene kept) →
      Tells pool scene told.advances.next place line told.advances.answers.act kept told.later facts
  tells-in number line reply facts scene kept place is at numbered told = record {
    old = event_writer.session.core;
    new = next.session.core;
    pool_is = is;
    shows = at.shows;
    shows_next = told.advances.is_at.shows;
    tells = subst
        (λ (n : ℕ). TellsAct event_writer.session.core next.session.core scene told.advances.next n line told.advances.answers.act kept
        told.later facts) numbered told.tells;
  }
