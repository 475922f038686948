use Rattle.std.proofs.Common.{◌≡◌, ◌++◌, [], List, ℕ, true, arith, append-nil, refl, sym, ap, ◌∙◌}
use Rattle.report_io.specs.IndentedLines.{indented}
use Rattle.script_explain.specs.Comparisons.{told_difference}
use Rattle.script_explain.proofs.Comparing.{far-differs, far-reply, far-unasked}
use Rattle.script_explain.proofs.check.Comparison.compare.Goals as goal

pub returns-then-is_line_of-clause-ok : goal.returns-then-is_line_of-clause-ok
returns-then-is_line_of-clause-ok c = λ setting lines line whole records so_far numbered. (
  [],
  sym (append-nil _),
  (
    append-nil whole ∙ so_far.0,
    far-reply setting c.args.self.now lines so_far.1 _ line c.args.recorded.now c.args.number records numbered c.requires
        (sym c.deref.ensures.value ∙ c.is_line_of.ensures.0 c.if-is_line_of.true) refl refl refl refl refl refl
        c.saturating_add-self.ensures,
  ),
)

pub returns-then-self-eq0-clause-err : goal.returns-then-self-eq0-clause-err
returns-then-self-eq0-clause-err c = λ setting lines line whole records so_far numbered.
    far-unasked setting c.args.self.now lines so_far.1 whole line c.args.recorded.now c.args.number c.bad_line.result so_far.0 records
    (omega (arith, c.if-self-eq0.true)) c.bad_line.ensures.line c.bad_line.ensures.reason numbered

pub returns-in-Ok-clause-ok : goal.returns-in-Ok-clause-ok
returns-in-Ok-clause-ok c = λ setting lines line whole records so_far numbered.
    let told : List ℕ = told_difference c.args.self.now.number c.args.self.now.line.items c.args.self.now.reply.items c.args.recorded.now
    ++ indented c.args.self.now.facts.items in (
      told,
      c.in-Ok.ensures.ok,
      far-differs setting c.args.self.now lines so_far.1 line c.args.recorded.now (whole ++ told) records
          (λ same. let found : c.is_line_of.result ≡ true = c.is_line_of.ensures.1 (c.deref.ensures.value ∙ same) in absurd (cc))
          (omega (arith, c.if-self-eq0.false)) (ap (λ front. front ++ told) so_far.0),
    )
