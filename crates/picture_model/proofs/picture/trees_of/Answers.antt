use Rattle.picture_model.proofs.Common.{Event, Family, List, Option, State, TreeLists, [], ap, append-nil, append_assoc, collection_at}
use Rattle.picture_model.proofs.Common.{filter, filter-append, is_shown, is_some, lists_of, map, option_map, sym, tree_in, trees_of, ◌++◌}
use Rattle.picture_model.proofs.Common.{◌∙◌, ◌∷◌}
use Rattle.picture_model.proofs.picture.trees_of.Goals as goal

-- one more tree comes last, if it is shown
pub loop-id-preserved : goal.loop-id-preserved
loop-id-preserved c =
    let s : State = c.args.core.now in
    let e : Option Event = option_map (λ e. e.now) c.args.event in
    let f : Family = (c.in-Some.id.now, c.in-Some.nodes.now) in
    let old : List TreeLists = map lists_of c.loop-id.trees.items in
    let rest : List Family = c.next.new.self in
    let lists = c.in_ok-kept.ensures.lists in
    record {
      seen = c.in_ok-add_shown.ensures.seen s c.loop-id.invariant.seen c.in_ok-kept.ensures.seen;
      trees = ap (λ (ts : List TreeLists). ts ++ trees_of s e rest)
          (c.in_ok-add_shown.ensures.shown s
          (c.in_ok-kept.ensures.kept ∙ ap (λ (t : TreeLists). is_some (collection_at s.forest t.id)) (sym lists))
          ∙ ap (λ (t : TreeLists). old ++ filter (is_shown s) (t ∷ [])) lists)
          ∙ (append_assoc old (filter (is_shown s) (tree_in s e f.0 f.1.items ∷ [])) (trees_of s e rest)
          ∙ (ap (λ (ts : List TreeLists). old ++ ts)
          (sym (filter-append (is_shown s) (tree_in s e f.0 f.1.items ∷ []) (map (λ (g : Family). tree_in s e g.0 g.1.items) rest)))
          ∙ (ap (λ (fs : List Family). old ++ trees_of s e fs) (sym c.in-Some.ensures.steps) ∙ c.loop-id.invariant.trees)));
    }

-- no tree is left
pub returns-clause-trees : goal.returns-clause-trees
returns-clause-trees c =
    let s : State = c.args.core.now in
    let e : Option Event = option_map (λ e. e.now) c.args.event in
    let old : List TreeLists = map lists_of c.loop-id.trees.items in
    sym (append-nil old)
    ∙ (ap (λ (fs : List Family). old ++ trees_of s e fs) (sym c.in-None.ensures.steps.0) ∙ c.loop-id.invariant.trees)
