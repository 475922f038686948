use Rattle.std.proofs.Common.{Option, List, ℕ, refl, sym, subst, codes}
use Rattle.command_line.specs.Asked.{IsFlag, IsFormat}
use Rattle.command_line.proofs.Asking.{first_text, its_text, search-same, until-same, vanishing-same}
use Rattle.command_line.proofs.task.task_of.Goals as goal

-- each text is read of the subcommand's own matches
pub returns-then-eq-3-clause-format : goal.returns-then-eq-3-clause-format
returns-then-eq-3-clause-format c =
    subst (λ (text : Option (List ℕ)). IsFormat text c.view_of.result.format)
    (sym (first_text (codes "format") c.args.matches.now c.in-Some.inner.now _ c.in-Some.ensures.rows refl))
    c.view_of.ensures.format

pub returns-then-eq-3-clause-until : goal.returns-then-eq-3-clause-until
returns-then-eq-3-clause-until c =
    until-same _ _ _ _ _ _ c.view_of.result.until
    (its_text (codes "at") c.args.matches.now c.in-Some.inner.now _ c.in-Some.ensures.rows refl)
    (its_text (codes "line") c.args.matches.now c.in-Some.inner.now _ c.in-Some.ensures.rows refl)
    (its_text (codes "failure") c.args.matches.now c.in-Some.inner.now _ c.in-Some.ensures.rows refl)
    c.view_of.ensures.until

pub returns-then-eq-clause-record : goal.returns-then-eq-clause-record
returns-then-eq-clause-record c =
    subst (λ (text : Option (List ℕ)). IsFlag text c.get_flag.result)
    (sym (its_text (codes "record") c.args.matches.now c.in-Some.inner.now _ c.in-Some.ensures.rows refl))
    (record {
      none = c.get_flag.ensures.none;
      set = c.get_flag.ensures.value;
      unset = c.get_flag.ensures.other;
    })

pub returns-then-eq-clause-patience : goal.returns-then-eq-clause-patience
returns-then-eq-clause-patience c =
    subst (λ (text : Option (List ℕ)). IsFlag text c.get_flag-then-eq.result)
    (sym (its_text (codes "patient") c.args.matches.now c.in-Some.inner.now _ c.in-Some.ensures.rows refl))
    (record {
      none = c.get_flag-then-eq.ensures.none;
      set = c.get_flag-then-eq.ensures.value;
      unset = c.get_flag-then-eq.ensures.other;
    })

pub returns-then-eq-2-clause-failures : goal.returns-then-eq-2-clause-failures
returns-then-eq-2-clause-failures c =
    subst (λ (text : Option (List ℕ)). IsFlag text c.get_flag-then-eq-2.result)
    (sym (its_text (codes "failures") c.args.matches.now c.in-Some.inner.now _ c.in-Some.ensures.rows refl))
    (record {
      none = c.get_flag-then-eq-2.ensures.none;
      set = c.get_flag-then-eq-2.ensures.value;
      unset = c.get_flag-then-eq-2.ensures.other;
    })

pub returns-then-eq-2-clause-summary : goal.returns-then-eq-2-clause-summary
returns-then-eq-2-clause-summary c =
    subst (λ (text : Option (List ℕ)). IsFlag text c.get_flag-then-eq-2-2.result)
    (sym (its_text (codes "summary") c.args.matches.now c.in-Some.inner.now _ c.in-Some.ensures.rows refl))
    (record {
      none = c.get_flag-then-eq-2-2.ensures.none;
      set = c.get_flag-then-eq-2-2.ensures.value;
      unset = c.get_flag-then-eq-2-2.ensures.other;
    })

pub returns-then-eq-4-clause-search : goal.returns-then-eq-4-clause-search
returns-then-eq-4-clause-search c = (
  subst (λ (text : Option (List ℕ)). IsFlag text c.search_of.result.once)
      (sym (its_text (codes "once") c.args.matches.now c.in-Some.inner.now _ c.in-Some.ensures.rows refl))
      c.search_of.ensures.once,
  search-same _ _ _ _ c.search_of.result
      (its_text (codes "outcome") c.args.matches.now c.in-Some.inner.now _ c.in-Some.ensures.rows refl)
      (its_text (codes "states") c.args.matches.now c.in-Some.inner.now _ c.in-Some.ensures.rows refl)
      c.search_of.ensures.search,
)

pub returns-then-eq-4-clause-patience : goal.returns-then-eq-4-clause-patience
returns-then-eq-4-clause-patience c =
    subst (λ (text : Option (List ℕ)). IsFlag text c.search_of.result.is_patient)
    (sym (its_text (codes "patient") c.args.matches.now c.in-Some.inner.now _ c.in-Some.ensures.rows refl))
    c.search_of.ensures.patience

pub returns-then-eq-4-clause-certified : goal.returns-then-eq-4-clause-certified
returns-then-eq-4-clause-certified c =
    subst (λ (text : Option (List ℕ)). IsFlag text c.search_of.result.certifies)
    (sym (its_text (codes "certify") c.args.matches.now c.in-Some.inner.now _ c.in-Some.ensures.rows refl))
    c.search_of.ensures.certified

pub returns-then-eq-4-clause-listed : goal.returns-then-eq-4-clause-listed
returns-then-eq-4-clause-listed c =
    subst (λ (text : Option (List ℕ)). IsFlag text c.search_of.result.lists)
    (sym (its_text (codes "list") c.args.matches.now c.in-Some.inner.now _ c.in-Some.ensures.rows refl))
    c.search_of.ensures.listed

pub returns-then-eq-4-clause-vanishing : goal.returns-then-eq-4-clause-vanishing
returns-then-eq-4-clause-vanishing c = (
  subst (λ (text : Option (List ℕ)). IsFlag text c.search_of.result.at_end)
      (sym (its_text (codes "end") c.args.matches.now c.in-Some.inner.now _ c.in-Some.ensures.rows refl))
      c.search_of.ensures.end,
  vanishing-same _ _ _ _ c.search_of.result
      (first_text (codes "vanish") c.args.matches.now c.in-Some.inner.now _ c.in-Some.ensures.rows refl)
      (its_text (codes "most") c.args.matches.now c.in-Some.inner.now _ c.in-Some.ensures.rows refl)
      c.search_of.ensures.vanishing,
)
