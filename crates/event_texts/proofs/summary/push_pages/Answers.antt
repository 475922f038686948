use Rattle.std.proofs.Common.{◌≡◌, ◌∙◌, ◌-◌, ap, ℕ}
use Rattle.core_state.specs.Reads.{views_of}
use Rattle.event_texts.specs.SummaryTexts.{pages_text}
use Rattle.event_texts.proofs.summary.push_pages.Goals as goal

-- as many are held as are not free
pub returns : goal.returns
unfolding pages_text
returns c =
    let s = c.args.core.now in
    let held : c.saturating_sub-held.result ≡ s.pool - (views_of s).free =
    c.saturating_sub-held.ensures ∙ ap (λ (n : ℕ). n - c.free_pages.result) c.pages-pages.ensures
    ∙ ap (λ (n : ℕ). s.pool - n) c.free_pages.ensures.value in
    rw c.pages-pages.ensures at (rw held at c.push_parts.ensures)
