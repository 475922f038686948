-- The text of a report. Each of its lines begins with the same front.
use Rattle.std.specs.Prelude.{ℕ, List, [], ◌∷◌, ◌++◌, codes}
use Rattle.std.specs.Fmt.{decimal}
use Rattle.std.specs.List.{flat_map, zip}
use Rattle.event_laws.specs.declared.line.ClientLine.{ClientLine}
use Rattle.script_lines.specs.declared.label.Label.{Label}
use Rattle.script_lines.specs.Labels.{text_of_label}

-- a client: its label, how many events it made after its join, and its open handles of each strength
abbrev pub client_line_text : List ℕ → Label → ClientLine → List ℕ
client_line_text front label line = front ++ text_of_label label ++ codes " events " ++ decimal line.events ++ codes " strong "
    ++ decimal line.strong ++ codes " weak " ++ decimal line.weak ++ 10 ∷ []

-- the first line is of the first label, and so on
abbrev pub lines_text : List ℕ → List Label → List ClientLine → List ℕ
lines_text front labels lines = flat_map (λ (told : Label × ClientLine). client_line_text front told.0 told.1) (zip labels lines)

-- all events, then each client, and that all was gathered
abbrev pub report_text : List ℕ → List Label → ℕ → List ClientLine → List ℕ
report_text front labels events lines =
    (front ++ codes "events " ++ decimal events ++ 10 ∷ []) ++ lines_text front labels lines ++ front
    ++ codes "gather ok" ++ 10 ∷ []
