-- What is left is the same, whether all are looked at or those that are noted.
use Rattle.forest_store.proofs.Common.{◌∙◌, ap, left_at}
use Rattle.forest_store.proofs.unkept.take_all_unkept.Goals as goal

pub returns-then-known-clause-look : goal.returns-then-known-clause-look
returns-then-known-clause-look c k = c.remove_unkept.ensures.look k ∙ (c.requires.known c.if-known.true).left k

pub returns-then-known-clause-keys : goal.returns-then-known-clause-keys
returns-then-known-clause-keys c =
    let all = c.requires.known c.if-known.true in
    c.drop_keys.ensures ∙ all.found c.remove_unkept.new.table (λ k. c.remove_unkept.ensures.look k ∙ all.left k)

pub returns-else-known-clause-look : goal.returns-else-known-clause-look
returns-else-known-clause-look c k =
    c.remove_unkept-else-known.ensures.look k ∙ ap (λ keys. left_at c.args.table.now keys k) c.as_slice.ensures.items
