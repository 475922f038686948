use Rattle.std.proofs.Common.{◌∙◌, ◌++◌, List, [], ap, sym, codes, decimal, ℕ}
use Rattle.std.proofs.lemmas.Result.{on_ok_weaker}
use Rattle.std.specs.List.{flat_map}
use Rattle.sm_names.specs.Timelines.{timeline}
use Rattle.script_labels.specs.Texts.{held_text, node_text, view_text}
use Rattle.sm_script.proofs.views.push_view.Goals as goal

-- the view is that of the history, since the core forgot no firing
pub returns-in-Ok : goal.returns-in-Ok
returns-in-Ok c = on_ok_weaker c.push_nodes.result (λ told names history keeps shows.
    told names keeps
    ∙ ap (λ nodes. c.args.text.now.items ++ (codes "live" ++ flat_map (node_text names) nodes))
    (c.as_slice.ensures.value ∙ c.in-Ok.ensures.shown [] history shows)
    ∙ ap (λ view. c.args.text.now.items ++ view_text c.args.core.now.pool (timeline c.args.core.now.pool history) names view)
    (sym c.in-Live.is))
    c.push_nodes.ensures

pub returns-in-Ok-held : goal.returns-in-Ok-held
returns-in-Ok-held c = on_ok_weaker c.push_buffers.result (λ told names history keeps shows.
    told names keeps
    ∙ ap (λ buffers. c.args.text.now.items ++ (codes "held" ++ flat_map (held_text names) buffers))
    (c.as_slice-in-Ok-held.ensures.value ∙ c.in-Ok-held.ensures.shown [] history shows)
    ∙ ap (λ view. c.args.text.now.items ++ view_text c.args.core.now.pool (timeline c.args.core.now.pool history) names view)
    (sym c.in-Held.is))
    c.push_buffers.ensures

pub returns-in-Free : goal.returns-in-Free
returns-in-Free c = on_ok_weaker c.push_free.result (λ told names history keeps shows.
    told
    ∙ ap (λ (pages : ℕ). c.args.text.now.items ++ (codes "free " ++ decimal pages))
    (c.free_pages.ensures.shown [] history shows)
    ∙ ap (λ view. c.args.text.now.items ++ view_text c.args.core.now.pool (timeline c.args.core.now.pool history) names view)
    (sym c.in-Free.is))
    c.push_free.ensures
