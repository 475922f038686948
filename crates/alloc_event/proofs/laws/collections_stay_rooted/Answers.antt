use Rattle.forest_store.proofs.tables.KeptRoots.{rooted_changed, rooted_settled}
use Rattle.forest_store.proofs.tables.Rooted.{distinct_one}
use Rattle.alloc_event.proofs.laws.collections_stay_rooted.Goals as goal

pub returns-clause-changed : goal.returns-clause-changed
returns-clause-changed c change key col fit distinct rooted =
    (rooted_changed _ key col fit (record { one = distinct_one _ distinct; rooted = rooted })).rooted

pub returns-clause-settled : goal.returns-clause-settled
returns-clause-settled c pool handles others col after distinct rooted settles =
    (rooted_settled _ _ _ col _ (record { one = distinct_one _ distinct; rooted = rooted }) settles).rooted
