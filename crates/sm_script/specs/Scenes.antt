-- What the lines of a script make happen, one after another.
use Rattle.std.specs.Prelude.{ℕ, ◌≡◌, ◌⊎◌, List, [], ◌∷◌, ◌++◌, codes, Some}
use Rattle.std.specs.List.{Contains}
use Rattle.sm_names.specs.declared.messages.Call.{Call}
use Rattle.sm_names.specs.declared.messages.Reply.{Reply}
use Rattle.sm_names.specs.Bounds.{Bound}
use Rattle.sm_names.specs.Legality.{IsLegal}
use Rattle.sm_names.specs.Marks.{Entry, Timeline}
use Rattle.sm_names.specs.Timelines.{timeline}
use Rattle.sm_names.specs.Trackers.{fired}
use Rattle.script_labels.specs.declared.act.Act.{Act}
use Rattle.script_labels.specs.declared.act.Binds.{Binds}
use Rattle.script_labels.specs.Names.{Names, no_names, names_after, act_in}
use Rattle.script_labels.specs.Texts.{reply_text, poll_text, view_text}

-- what happened so far, and what the labels stand for
pub record Scene : Type 0 where
  pub history : List Entry
  pub names : Names

-- nothing happened, and no label stands for anything
abbrev pub first_scene : Scene
first_scene = record { history = []; names = no_names }

-- one more event
abbrev pub next_scene : Scene → ℕ → Call → Binds → Reply → Scene
next_scene scene client call binds reply =
    record { history = scene.history ++ (client, call, reply) ∷ []; names = names_after scene.names binds reply }

-- the text, as a line
abbrev pub as_line : List ℕ → List ℕ
as_line text = text ++ 10 ∷ []

-- what a poll of the tracker may read after these marks, without the end of its line: that it fired, at the event at
-- which it did, or nothing yet. That a reader sees each firing is no law of its cell
abbrev pub IsPolled : Timeline → ℕ → List ℕ → Type 0
IsPolled marks tracker text = (text ≡ codes "quiet")
    ⊎ (event : ℕ) × Contains (fired marks) (record { tracker = tracker; event = event }) × (text ≡ poll_text event)

-- the act gives this text and leads to the next scene: a call gives the text of its reply, a poll that of what is read, and
-- a view that of what is seen
abbrev pub ActGives : ℕ → Scene → Act → List ℕ → Scene → Type 0
ActGives pool scene Act.Nothing text next = (text ≡ []) × (next ≡ scene)
ActGives pool scene (Act.Ask client call binds) text next = (reply : Reply)
    × (text ≡ as_line (reply_text scene.names binds reply)) × (next ≡ next_scene scene client call binds reply)
ActGives pool scene (Act.Poll tracker) text next =
    (read : List ℕ) × IsPolled (timeline pool scene.history) tracker read × (text ≡ as_line read) × (next ≡ scene)
ActGives pool scene (Act.Show view) text next =
    (text ≡ as_line (view_text pool (timeline pool scene.history) scene.names view)) × (next ≡ scene)

-- the line is good, gives this text and leads to the next scene
pub record Answers (pool : ℕ) (scene : Scene) (line text : List ℕ) (next : Scene) : Type 0 where
  pub act : Act
  pub good : act_in scene.names line ≡ Some act
  pub gives : ActGives pool scene act text next

-- the lines, one after another, give these texts and lead to the last scene
pub data Plays (pool : ℕ) : Scene → List (List ℕ) → List ℕ → Scene → Type 0 where
  Rests : (scene : Scene) → Plays pool scene [] [] scene
  Goes : (scene next last : Scene) (line text : List ℕ) (lines : List (List ℕ)) (texts : List ℕ) →
      Answers pool scene line text next → Plays pool next lines texts last →
      Plays pool scene (line ∷ lines) (text ++ texts) last

-- a pool of this many pages, and the limits
pub record Setting : Type 0 where
  pub pool : ℕ
  pub limits : Bound

-- the lines give these texts in a history that is legal, and lead to this scene
pub record LeadsTo (setting : Setting) (lines : List (List ℕ)) (texts : List ℕ) (scene : Scene) : Type 0 where
  pub plays : Plays setting.pool first_scene lines texts scene
  pub legal : IsLegal setting.pool setting.limits scene.history
