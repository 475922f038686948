use Rattle.core_vanish.proofs.Common.{HeldBuffer, List, [], ap, arith, births, held, sum_by, timeline, ◌-◌, ◌∙◌, ◌≡◌}
use Rattle.history_laws.proofs.EndLaws.{no_live_nodes, none_held}
use Rattle.history_laws.proofs.SettledLaws.{In-was_born}
use Rattle.core_vanish.proofs.AllGone.{all_spent, none_open}
use Rattle.core_vanish.proofs.laws.vanishings_free_all.Goals as goal

pub returns-clause-live : goal.returns-clause-live
returns-clause-live c pool limits history legal all =
    no_live_nodes pool limits history legal
    (λ b on. all_spent pool limits history legal all b.node (In-was_born (births (timeline pool history)) b on))

pub returns-clause-held : goal.returns-clause-held
returns-clause-held c pool limits history legal all =
    none_held pool limits history legal
    (λ b on. all_spent pool limits history legal all b.node (In-was_born (births (timeline pool history)) b on))
    (none_open pool limits history legal all)

pub returns-clause-free : goal.returns-clause-free
returns-clause-free c pool limits history legal all =
    let e : held pool (timeline pool history) ≡ [] =
    none_held pool limits history legal
    (λ b on. all_spent pool limits history legal all b.node (In-was_born (births (timeline pool history)) b on))
    (none_open pool limits history legal all) in
    let whole : pool - 0 ≡ pool = omega arith in
    ap (λ (l : List HeldBuffer). pool - sum_by (λ (h : HeldBuffer). h.pages.pages) l) e ∙ whole
