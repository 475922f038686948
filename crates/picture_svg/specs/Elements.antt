-- The elements of a vector graphic.
use Rattle.std.specs.Prelude.{ℕ, ◌==◌, nat_lt, Bool, if◌then◌else◌, List, [], ◌∷◌, codes, decimal, length}
use Rattle.event_texts.specs.FactTexts.{concat}
use Rattle.picture_svg.specs.declared.elements.Rect.{Rect}
use Rattle.picture_svg.specs.declared.elements.Style.{Style}

-- an attribute with this value, if it has one
abbrev pub attribute : List ℕ → List ℕ → List ℕ
attribute name value = if length value == 0 then [] else concat (codes " " ∷ name ∷ codes "=\"" ∷ value ∷ codes "\"" ∷ [])

-- ---- words

-- how words look
pub record Look : Type 0 where
  pub size : ℕ
  pub bold : Bool
  pub fill : List ℕ
  pub middle : Bool

-- how a text of this style looks
abbrev pub look_of : Style → Look
look_of s = record { size = s.size; bold = s.bold; fill = s.fill.now; middle = s.middle }

-- the look with this size, weight, color and anchor
abbrev pub look : ℕ → Bool → List ℕ → Bool → Look
look size bold fill middle = record { size = size; bold = bold; fill = fill; middle = middle }

-- the end of a text's size, with its weight
abbrev pub weight_text : Bool → List ℕ
weight_text bold = if bold then codes "\" font-weight=\"bold\"" else codes "\""

-- the end of a text's tag, with its anchor
abbrev pub anchor_text : Bool → List ℕ
anchor_text middle = if middle then codes "\" text-anchor=\"middle\">" else codes "\">"

-- words that begin at this place, or have it in their middle
unfoldable pub words_text : ℕ → ℕ → Look → List ℕ → List ℕ
words_text x y l words = concat (
    codes "<text x=\""
    ∷ decimal x
    ∷ codes "\" y=\""
    ∷ decimal y
    ∷ codes "\" font-size=\""
    ∷ decimal l.size
    ∷ weight_text l.bold
    ∷ codes " fill=\""
    ∷ l.fill
    ∷ anchor_text l.middle
    ∷ words
    ∷ codes "</text>\n"
    ∷ []
    )

-- ---- rectangles

-- how a rectangle looks
pub record Paint : Type 0 where
  pub rounded : ℕ
  pub fill : List ℕ
  pub stroke : List ℕ
  pub stroke_width : List ℕ
  pub dashes : List ℕ

-- how a rectangle of the code is painted
abbrev pub paint_of : Rect → Paint
paint_of r = record {
  rounded = r.rounded;
  fill = r.fill.now;
  stroke = r.stroke.now;
  stroke_width = r.stroke_width.now;
  dashes = r.dashes.now;
}

-- the attribute for round corners, or none
abbrev pub rounded_text : ℕ → List ℕ
rounded_text rounded = if nat_lt 0 rounded then concat (codes " rx=\"" ∷ decimal rounded ∷ codes "\"" ∷ []) else []

-- the attributes of a shape: corners, colors, width of its line, dashes
unfoldable pub paint_text : Paint → List ℕ
paint_text p = concat (
    rounded_text p.rounded
    ∷ attribute (codes "fill") p.fill
    ∷ attribute (codes "stroke") p.stroke
    ∷ attribute (codes "stroke-width") p.stroke_width
    ∷ attribute (codes "stroke-dasharray") p.dashes
    ∷ codes "/>\n"
    ∷ []
    )

-- the place and the size of a rectangle
unfoldable pub corner_text : ℕ → ℕ → ℕ → ℕ → List ℕ
corner_text x y width height = concat (
    codes "<rect x=\""
    ∷ decimal x
    ∷ codes "\" y=\""
    ∷ decimal y
    ∷ codes "\" width=\""
    ∷ decimal width
    ∷ codes "\" height=\""
    ∷ decimal height
    ∷ codes "\""
    ∷ []
    )

-- a rectangle with this corner, so wide and so high, that looks so
unfoldable pub rect_text : ℕ → ℕ → ℕ → ℕ → Paint → List ℕ
rect_text x y width height paint = concat (corner_text x y width height ∷ paint_text paint ∷ [])

-- ---- the number of a step, in a circle

-- a circle with the number of a step
unfoldable pub circle_text : ℕ → ℕ → ℕ → ℕ → List ℕ
circle_text x y below step = concat (
    codes "<circle cx=\""
    ∷ decimal x
    ∷ codes "\" cy=\""
    ∷ decimal y
    ∷ codes "\" r=\"9\" fill=\"#FFFFFF\" stroke=\""
    ∷ codes "#D55E00"
    ∷ codes "\"/>\n<text x=\""
    ∷ decimal x
    ∷ codes "\" y=\""
    ∷ decimal below
    ∷ codes "\" font-size=\"12\" font-weight=\"bold\" fill=\""
    ∷ codes "#D55E00"
    ∷ codes "\" text-anchor=\"middle\">"
    ∷ decimal step
    ∷ codes "</text>\n"
    ∷ []
    )
