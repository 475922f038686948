use Rattle.std.proofs.Common.{ℕ, List, ◌∷◌, [], ◌++◌, OnErr, OnOk, ap, ◌∙◌}
use Rattle.std.proofs.lemmas.Fmt.{contents_after_writes}
use Rattle.std.specs.Io.KnownBytes.{Appends}
use Rattle.script_lines.specs.Written.{WritesPart}
use Rattle.script_lines.proofs.Telling.{of_line}
use Rattle.script_lines.proofs.writing.write_line.Goals as goal

pub returns-in-Ok-clause-ok : goal.returns-in-Ok-clause-ok
returns-in-Ok-clause-ok g c =
    of_line (g.D.Display.output c.args.told) c.as_bytes.result.now
    (λ (line : List ℕ). OnOk c.write_out.result (Appends (g.W.Write.contents c.args.writer.now) (g.W.Write.contents c.write_out.new.writer)
    line))
    (λ text is. c.as_bytes.ensures.value
    ∙ (c.as_str.ensures.value ∙ (contents_after_writes _ (λ s. s.bytes) (λ w bs v e. e) _ _ _ (rw is at c.in-Ok.ensures.writes)
    ∙ ap (λ (front : List ℕ). front ++ (text ++ 10 ∷ [])) c.new-line.ensures)))
    c.write_out.ensures.ok

pub returns-in-Ok-clause-part : goal.returns-in-Ok-clause-part
returns-in-Ok-clause-part g c =
    of_line (g.D.Display.output c.args.told) c.as_bytes.result.now
    (λ (line : List ℕ). OnErr c.write_out.result (WritesPart (g.W.Write.contents c.args.writer.now)
    (g.W.Write.contents c.write_out.new.writer) line))
    (λ text is. c.as_bytes.ensures.value
    ∙ (c.as_str.ensures.value ∙ (contents_after_writes _ (λ s. s.bytes) (λ w bs v e. e) _ _ _ (rw is at c.in-Ok.ensures.writes)
    ∙ ap (λ (front : List ℕ). front ++ (text ++ 10 ∷ [])) c.new-line.ensures)))
    c.write_out.ensures.part
