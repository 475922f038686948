use Rattle.std.proofs.Common.{List, ℕ, refl, inl, inr, subst}
use Rattle.std.proofs.KnownBytes.{Appends-nil}
use Rattle.script_explain.specs.Comparisons.{IsSaid}
use Rattle.script_explain.specs.Progress.{comparison_place}
use Rattle.script_explain.proofs.check.Comparison.agree.Goals as goal

pub returns-in-Ok-put_out : goal.returns-in-Ok-put_out
returns-in-Ok-put_out g c = λ scene kept. record {
  text = c.push_verdict.new.text.items;
  is = subst (λ (blank : List ℕ). IsSaid c.in-Ok.verdict (comparison_place c.args.self.now scene kept) blank c.push_verdict.new.text.items)
      c.new-text.ensures.items (c.in-Ok.ensures scene kept);
  written = rw c.deref.ensures.value at c.in-Ok-put_out.ensures.ok;
}

pub returns-in-Ok : goal.returns-in-Ok
returns-in-Ok g c = λ scene kept. inl (
  c.in-Err-put_out.ensures.err.0,
  c.in-Ok.verdict,
  record {
    text = c.push_verdict.new.text.items;
    is = subst (λ (blank : List ℕ). IsSaid c.in-Ok.verdict (comparison_place c.args.self.now scene kept) blank c.push_verdict.new.text.items)
        c.new-text.ensures.items (c.in-Ok.ensures scene kept);
    written = rw c.deref.ensures.value at c.in-Err-put_out.ensures.err.1;
  },
)

pub returns : goal.returns
returns g c = λ scene kept. inr (refl, Appends-nil _)
