use Rattle.std.proofs.Common.{ℕ, List, Option, refl, sym, subst, codes}
use Rattle.std.specs.Prelude.{option_map}
use Rattle.std.specs.Str.Parse.{ExplainsUnsignedError, HasUnsignedDigitsIfOk, ParsesUnsigned}
use Rattle.clap.specs.Words.{found_of, one_text}
use Rattle.script_lines.specs.declared.pages.Pages.{Pages}
use Rattle.command_line.specs.Asked.{AreAsked}
use Rattle.command_line.proofs.Asking.{its_text, unread, was_read}
use Rattle.command_line.proofs.request.pages_of.Goals as goal

pub returns-in_err-get_one : goal.returns-in_err-get_one
returns-in_err-get_one c =
    let inner = c.in_ok-inner.inner.now in
    let none : AreAsked (one_text (found_of inner) (codes "pages")) (option_map (λ (pages : Pages).
    pages.count) c.from_residual-in_err-get_one.result) =
    rw c.from_residual-in_err-get_one.ensures
    (unread (λ t r. ParsesUnsigned 32 10 t r × ExplainsUnsignedError 10 t r × HasUnsignedDigitsIfOk t r) (λ t r h.
    h.0) (one_text (found_of inner) (codes "pages")) c.get_one.result c.get_one.ensures.none c.get_one.ensures.value
    c.in_err-get_one.was) in
    subst (λ (text : Option (List ℕ)). AreAsked text (option_map (λ (pages : Pages). pages.count) c.from_residual-in_err-get_one.result))
    (sym (its_text (codes "pages") c.args.matches.now inner _ c.in_ok-inner.ensures.rows refl)) none

pub returns : goal.returns
returns c =
    let inner = c.in_ok-inner.inner.now in
    subst (λ (text : Option (List ℕ)). AreAsked text (option_map (λ (pages : Pages). pages.count) c.new.result))
    (sym (its_text (codes "pages") c.args.matches.now inner _ c.in_ok-inner.ensures.rows refl))
    (was_read (λ t r. ParsesUnsigned 32 10 t r × ExplainsUnsignedError 10 t r × HasUnsignedDigitsIfOk t r) (λ t r h.
    h.0) (one_text (found_of inner) (codes "pages")) c.get_one.result c.in_ok-get_one.field-0 (option_map (λ (pages : Pages).
    pages.count) c.new.result)
    c.get_one.ensures.none c.get_one.ensures.value c.in_ok-get_one.was c.new.ensures)
