-- The colours of a node's box.
use Rattle.std.specs.Prelude.{ℕ, List, codes}
use Rattle.picture_model.specs.declared.features.Class.{Class}

-- the colours of its ground, its border and its words
abbrev pub fill_text : Class → List ℕ
fill_text Class.Live = codes "#D6E9F5"
fill_text Class.Orphan = codes "#FFFFFF"
fill_text Class.Origin = codes "#A84300"
fill_text Class.Taken = codes "#FBE0CC"
fill_text Class.Ended = codes "#EDEDED"

-- the color of the edge of a box
abbrev pub edge_text : Class → List ℕ
edge_text Class.Live = codes "#0072B2"
edge_text Class.Orphan = codes "#0072B2"
edge_text Class.Origin = codes "#A84300"
edge_text Class.Taken = codes "#D55E00"
edge_text Class.Ended = codes "#808080"

-- the color of the words in a box
abbrev pub ink_text : Class → List ℕ
ink_text Class.Live = codes "#222222"
ink_text Class.Orphan = codes "#222222"
ink_text Class.Origin = codes "#FFFFFF"
ink_text Class.Taken = codes "#222222"
ink_text Class.Ended = codes "#222222"
