use Rattle.picture_model.proofs.Common.{List, Reached, ap, filter, is_past, list_any, not, same_key, ◌&&◌, ◌∙◌}
use Rattle.std.proofs.Common.{nat_lt}
use Rattle.picture_model.proofs.failure_view.reached_below.Goals as goal

-- those by which the failure came up are those on the way
pub returns : goal.returns
returns c =
    c.in_ok-reached.ensures
    ∙ ((λ i. filter (λ (r : Reached). nat_lt 0 r.generation && not (c.in_ok-passed.ensures r.node i)) c.in_ok-all.all.items)
    ∙ ap (λ (rs : List Reached). filter (is_past (λ key. list_any (same_key key) c.args.way.now)) rs) c.in_ok-all.ensures)
