use Rattle.buffer_holds.proofs.Common.{ap, count_in, page_in, raised, subst, sym, ◌+◌, ◌<◌, ◌^◌, ◌∙◌}
use Rattle.buffer_holds.proofs.RowLemmas.{IsSome-lent_at}
use Rattle.buffer_holds.proofs.Written.{page_lent, page_written}
use Rattle.buffer_holds.proofs.rows.raise.Goals as goal

-- the page stands there
pub unwrap-page-requires : goal.unwrap-page-requires
unwrap-page-requires c =
    let found = c.requires.stands in
    IsSome-lent_at c.args.rows.now c.args.place c.args.owner found.0 found.1 c.get_index_mut.result c.get_index_mut.ensures.value

pub raise-requires-clause-fits : goal.raise-requires-clause-fits
raise-requires-clause-fits c = λ at is.
    subst (λ p. count_in p at + 1 < 2 ^ 32) (page_lent c.args.rows.now c.args.place c.args.owner c.requires.stands c.get_index_mut.ensures.value
    c.get_index_mut.ensures.unique c.unwrap-page.ensures) (c.requires.fits at is)

-- its cells are raised
pub returns-clause-raised : goal.returns-clause-raised
returns-clause-raised c =
    page_written c.args.rows.now c.args.place c.args.owner c.requires.stands c.get_index_mut.ensures.value c.get_index_mut.ensures.unique c.unwrap-page.ensures
    c.raise.new.self (raised (page_in c.args.rows.now.entries c.args.owner) c.args.first c.args.set)
    (λ at. c.raise.ensures.raised at
    ∙ ap (λ p. raised p c.args.first c.args.set at) (sym (page_lent c.args.rows.now c.args.place c.args.owner c.requires.stands c.get_index_mut.ensures.value
    c.get_index_mut.ensures.unique c.unwrap-page.ensures)))
