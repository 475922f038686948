use Rattle.picture_svg.proofs.Common.{MARGIN, after, codes, last, on_ok_weaker}
use Rattle.std.specs.Prelude.{◌+◌, ◌∷◌}
use Rattle.picture_model.specs.declared.features.Class.{Class}
use Rattle.picture_svg.specs.Legend.{kept_signs, sample_text}
use Rattle.picture_svg.proofs.legend.push_kept_boxes.Goals as goal

-- one box behind the other
pub returns : goal.returns
unfolding kept_signs
returns c =
    let y = c.args.y in
    on_ok_weaker c.push_sample-3.result
    (λ put. after _ (sample_text MARGIN y Class.Live (codes "live")) _ _ _ c.in_ok-push_sample.ensures
    (after _ (sample_text (MARGIN + 78) y Class.Orphan (226 ∷ 151 ∷ 139 ∷ codes " released")) _ _ _ c.in_ok-push_sample-2.ensures
    (last _ (sample_text (MARGIN + 188) y Class.Origin (226 ∷ 156 ∷ 151 ∷ codes " failed, origin")) _ put)))
    c.push_sample-3.ensures
