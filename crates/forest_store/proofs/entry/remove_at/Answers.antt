-- Nothing stands behind the last entry.
use Rattle.std.proofs.lemmas.List.{append-nil, drop_all}
use Rattle.forest_store.proofs.Common.{List, suc, take, ◌∙◌, ◌++◌, ap, arith, sym}
use Rattle.forest_store.specs.declared.entry.Entry.{Entry}
use Rattle.forest_store.proofs.entry.remove_at.Goals as goal

pub returns-then-at-len : goal.returns-then-at-len
returns-then-at-len c =
    let es = c.args.entries.now.items in
    let at = c.args.at in
    c.pop.ensures.rest
    ∙ ap (λ n. take n es) (omega (arith, c.if-at-len.true, c.len.ensures))
    ∙ sym (append-nil (take at es))
    ∙ ap (λ (l : List Entry). take at es ++ l) (sym (drop_all (suc at) es (omega (arith, c.if-at-len.true, c.len.ensures))))
