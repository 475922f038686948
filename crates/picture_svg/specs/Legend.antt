-- What the signs of a vector graphic stand for.
use Rattle.std.specs.Prelude.{ℕ, ◌+◌, false, List, [], ◌∷◌, ◌++◌, codes, decimal, Option, Some, None}
use Rattle.event_texts.specs.FactTexts.{concat}
use Rattle.picture_model.specs.declared.features.Class.{Class}
use Rattle.picture_model.specs.declared.features.LinkStyle.{LinkStyle}
use Rattle.picture_model.specs.declared.failure_view.TravelWay.{TravelWay}
use Rattle.picture_model.specs.Colors.{edge_text, fill_text}
use Rattle.picture_layout.specs.Lengths.{capped_sum}
use Rattle.picture_svg.specs.declared.elements.TheConstants.{MARGIN}
use Rattle.picture_svg.specs.Elements.{Paint, look, rect_text, words_text}
use Rattle.picture_svg.specs.Links.{svg_line, svg_stop}
use Rattle.picture_svg.specs.Trees.{dashes_text}

-- ---- boxes

-- how a small box of this class looks
abbrev pub sample_paint : Class → Paint
sample_paint class = record {
  rounded = 3;
  fill = fill_text class;
  stroke = edge_text class;
  stroke_width = codes "1.8";
  dashes = dashes_text class;
}

-- that box, and the word for it
unfoldable pub sample_text : ℕ → ℕ → Class → List ℕ → List ℕ
sample_text x y class word = concat (
    rect_text x y 18 14 (sample_paint class)
    ∷ words_text (capped_sum x 26) (capped_sum y 12) (look 12 false (codes "#222222") false) word
    ∷ []
    )

-- the boxes of nodes that are live, released, or the origin of a failure; the first numbers are the bytes of `sign_text`
unfoldable pub kept_signs : ℕ → List ℕ
kept_signs y = concat (
    sample_text MARGIN y Class.Live (codes "live")
    ∷ sample_text (MARGIN + 78) y Class.Orphan (226 ∷ 151 ∷ 139 ∷ codes " released")
    ∷ sample_text (MARGIN + 188) y Class.Origin (226 ∷ 156 ∷ 151 ∷ codes " failed, origin")
    ∷ []
    )

-- the boxes of nodes that failed along or ended, and what a thick edge means
unfoldable pub gone_signs : ℕ → List ℕ
gone_signs y = concat (
    sample_text (MARGIN + 346) y Class.Taken (226 ∷ 156 ∷ 151 ∷ codes " failed")
    ∷ sample_text (MARGIN + 446) y Class.Ended (194 ∷ 183 ∷ codes " ended")
    ∷ words_text (MARGIN + 540) (capped_sum y 12) (look 12 false (codes "#222222") false) (codes "thick: gone now")
    ∷ []
    )

-- a small box for each thing that a node is drawn as, with its sign
unfoldable pub box_signs : ℕ → List ℕ
box_signs y = concat (kept_signs y ∷ gone_signs y ∷ [])

-- ---- links

-- the begin of a line in this row, from one column to another
unfoldable pub sample_path : ℕ → ℕ → ℕ → List ℕ
sample_path x y right = concat (codes "<path d=\"M" ∷ decimal x ∷ codes " " ∷ decimal y ∷ codes " H" ∷ decimal right ∷ [])

-- its end, with an arrow where a failure went along it
abbrev pub sample_end : Option TravelWay → List ℕ
sample_end (Some (TravelWay.Up step)) = codes " marker-end=\"url(#a)\"/>\n"
sample_end (Some (TravelWay.Down step)) = codes " marker-end=\"url(#a)\"/>\n"
sample_end (Some TravelWay.Stop) = codes "/>\n"
sample_end None = codes "/>\n"

-- a short link of this kind, along which a failure went so, and the word for it
unfoldable pub sample_line : ℕ → ℕ → LinkStyle → Option TravelWay → List ℕ → List ℕ
sample_line x y link way word = concat (
    sample_path x (capped_sum y 8) (capped_sum x 26)
    ∷ svg_line link way
    ∷ sample_end way
    ∷ words_text (capped_sum x 38) (capped_sum y 12) (look 12 false (codes "#222222") false) word
    ∷ []
    )

-- the bar where a failure stops
unfoldable pub stop_sample : ℕ → List ℕ
stop_sample y = svg_stop (MARGIN + 622) (capped_sum y 8) (MARGIN + 646) (MARGIN + 654) (capped_sum y 12)

-- a link of each kind
unfoldable pub plain_signs : ℕ → List ℕ
plain_signs y = concat (
    sample_line MARGIN y LinkStyle.Normal None (codes "child")
    ∷ sample_line (MARGIN + 94) y LinkStyle.Attached None (codes "attached")
    ∷ sample_line (MARGIN + 210) y LinkStyle.Dispensable None (codes "dispensable")
    ∷ []
    )

-- a link for each way of a failure, and the bar where it stops
unfoldable pub way_signs : ℕ → List ℕ
way_signs y = concat (
    sample_line (MARGIN + 346) y LinkStyle.Normal (Some (TravelWay.Up 1)) (codes "failure up")
    ∷ sample_line (MARGIN + 476) y LinkStyle.Normal (Some (TravelWay.Down 2)) (codes "failure down")
    ∷ stop_sample y
    ∷ []
    )

-- a link of each kind, and one for each way of a failure
unfoldable pub link_signs : ℕ → List ℕ
link_signs y = concat (plain_signs y ∷ way_signs y ∷ [])

-- what the signs of boxes stand for, in this row, and those of links below it
unfoldable pub legend_text : ℕ → List ℕ
legend_text y = concat (box_signs y ∷ link_signs (capped_sum y 22) ∷ [])
