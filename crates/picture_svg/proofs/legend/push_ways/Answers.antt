use Rattle.picture_svg.proofs.Common.{MARGIN, after, codes, last, on_ok_weaker}
use Rattle.std.specs.Prelude.{◌+◌, Some}
use Rattle.picture_model.specs.declared.features.LinkStyle.{LinkStyle}
use Rattle.picture_model.specs.declared.failure_view.TravelWay.{TravelWay}
use Rattle.picture_svg.specs.Legend.{sample_line, stop_sample, way_signs}
use Rattle.picture_svg.proofs.legend.push_ways.Goals as goal

-- one link behind the other, and the bar
pub returns : goal.returns
unfolding way_signs
returns c =
    let y = c.args.y in
    on_ok_weaker c.push_stop_sample.result
    (λ put. after _ (sample_line (MARGIN + 346) y LinkStyle.Normal (Some (TravelWay.Up 1))
    (codes "failure up")) _ _ _ c.in_ok-push_sample_line.ensures
    (after _ (sample_line (MARGIN + 476) y LinkStyle.Normal (Some (TravelWay.Down 2))
    (codes "failure down")) _ _ _ c.in_ok-push_sample_line-2.ensures
    (last _ (stop_sample y) _ put)))
    c.push_stop_sample.ensures
