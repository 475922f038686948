-- The text of a script that is explained.
use Rattle.std.specs.Prelude.{◌≡◌, ℕ, ◌+◌, ◌==◌, Bool, true, false, ◌&&◌, ◌||◌}
use Rattle.std.specs.Prelude.{not, if◌then◌else◌, List, [], ◌∷◌, ◌++◌, codes, decimal, drop, length}
use Rattle.std.specs.List.{flat_map}
use Rattle.sm_names.specs.Timelines.{timeline}
use Rattle.report_io.specs.IndentedLines.{indented, is_indented}
use Rattle.sm_script.specs.Scenes.{Answers, Scene, as_line}
use Rattle.event_texts.specs.Failing.{failures}
use Rattle.event_texts.specs.Deeds.{KeptLines, no_lines}
use Rattle.event_texts.specs.EventLines.{Tells}

-- what stands before a reply: two spaces, if there is one
abbrev pub indent : List ℕ → List ℕ
indent [] = []
indent (byte ∷ more) = codes "  "

-- the line, and below it its reply
abbrev pub line_with_reply : List ℕ → List ℕ → List ℕ
line_with_reply line reply = line ++ codes "\n" ++ indent reply ++ reply

-- the line, its reply, and the facts, each line of them behind four spaces
abbrev pub told_line : List ℕ → List ℕ → List ℕ → List ℕ
told_line line reply facts = line_with_reply line reply ++ indented facts

-- the facts, behind a line with the numbers of their event and of its line; nothing where there are none
abbrev pub numbered_facts : ℕ → ℕ → List ℕ → List ℕ
numbered_facts event number [] = []
numbered_facts event number (byte ∷ more) =
    codes "event   " ++ decimal event ++ codes ", line " ++ decimal number ++ codes "\n" ++ byte ∷ more

-- what a line comes to between these scenes is told; if only failures are told, then only if a node failed in its event
abbrev pub is_told : Bool → ℕ → Scene → Scene → Bool
is_told only pool scene next = not only || not (failures (timeline pool next.history) == failures (timeline pool scene.history))

-- the text, if it is told
abbrev pub if_told : Bool → List ℕ → List ℕ
if_told told text = if told then text else []

-- the replies among these lines, each with its end: the lines that begin with two spaces and no more, without these
abbrev pub replies_in : List (List ℕ) → List ℕ
replies_in lines = flat_map
    (λ line. if is_indented line && not (is_indented (drop 2 line)) then as_line (drop 2 line) else []) lines

-- these lines, one after another, are explained by this text, give these replies, and lead to the last scene, where these lines
-- made nodes fail. An indented line is passed over; any other is answered as a line of a script is, and the facts of its event are
-- told, or nothing is, where only failures are told and no node failed in it
pub data ExplainsLines (pool : ℕ) (only : Bool) (first : Scene) : List (List ℕ) → List ℕ → List ℕ → Scene → KeptLines → Type 0 where
  Begins : ExplainsLines pool only first [] [] [] first no_lines
  Passes : (lines : List (List ℕ)) (line text replies : List ℕ) (scene : Scene) (kept : KeptLines) →
      ExplainsLines pool only first lines text replies scene kept → is_indented line ≡ true →
      ExplainsLines pool only first (lines ++ line ∷ []) text replies scene kept
  Goes : (lines : List (List ℕ)) (line text replies reply facts : List ℕ) (scene next : Scene) (kept later : KeptLines) →
      ExplainsLines pool only first lines text replies scene kept → is_indented line ≡ false →
      (answers : Answers pool scene line reply next) →
      Tells pool scene next (length lines + 1) line answers.act kept later facts →
      ExplainsLines pool only first (lines ++ line ∷ [])
      (text ++ if_told (is_told only pool scene next) (told_line line reply (numbered_facts (length next.history) (length lines + 1)
      facts)))
      (replies ++ reply) next later
