use Rattle.outcome_texts.proofs.Common.{Entry, ◌∙◌}
use Rattle.std.proofs.Common.{rules, tests}
use Rattle.std.proofs.lemmas.Iterator.{YieldsList-from_slice}
use Rattle.std.proofs.lemmas.Iterator.Consumers.{YieldsList-from_filter, count_from_yields_List}
use Rattle.std.proofs.lemmas.List.Sums.{length-filter}
use Rattle.outcome_texts.specs.Leaves.{is_collect}
use Rattle.outcome_texts.proofs.leaves.collects_in.Goals as goal

-- they are those that pass
pub returns : goal.returns
returns c = count_from_yields_List _ _ c.count.ensures.ran
    (YieldsList-from_filter _ (λ (e : Entry). is_collect e) (YieldsList-from_slice c.args.entries.now cc) c.filter.ensures.closure
    (λ x r q k. search (rules, tests)))
    ∙ length-filter (λ (e : Entry). is_collect e) c.args.entries.now
