use Rattle.lifetime_core.proofs.Common.{HeldBuffer, Interval, ap, arith, map, recalling, ◌∙◌, ◌≡◌}
use Rattle.std.specs.List.{sum_by}
use Rattle.forest_store.specs.Forest.{all_held}
use Rattle.core_state.specs.Reads.{views_of}
use Rattle.core_state.proofs.views.Shown.{free_shown}
use Rattle.core_state.proofs.collections.Pages.{sum-sorted, sum-map}
use Rattle.lifetime_core.proofs.machine.Core.free_pages.Goals as goal

-- the pool's pages are those of the buffers, in another order
pub returns : goal.returns
returns c =
    let all : sum_by (λ (i : Interval). i.pages) c.self.inside.contents.pool.held ≡ sum_by (λ (h : HeldBuffer).
    h.pages.pages) (all_held c.self.inside.contents.forest) =
    ap (sum_by (λ (i : Interval). i.pages)) c.self.invariant.whole.pages
    ∙ (sum-sorted (λ (i : Interval). i.pages) (λ (i : Interval). i.start)
    (map (λ (h : HeldBuffer). h.pages) (all_held c.self.inside.contents.forest))
    ∙ sum-map (λ (i : Interval). i.pages) (λ (h : HeldBuffer). h.pages) (all_held c.self.inside.contents.forest)) in
    let value : c.free_pages.result ≡ (views_of c.args.self.now).free =
    rw (← c.self.view_is) (omega (arith, c.free_pages.ensures.free, all)) in
    record {
      value = value;
      shown = λ gone history shows. value ∙ free_shown (recalling gone c.args.self.now) history shows;
    }
