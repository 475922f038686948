-- A list of units that got slots which count nothing: what it counts stays.
use Rattle.alloc_event.proofs.Common.{AllByRecursion, AreUnits, Collection, Entry, IsForest, List, Node, Table, Unit, [], arith}
use Rattle.alloc_event.proofs.Common.{collection_in, map, rows_of, ◌∙◌, ◌∷◌}
use Rattle.forest_store.specs.Counts.{Extends, HasUnit}

-- the slots count what they did
counts_stay : (us next : List Unit) → Extends us next → (whole xs : List Node) → AllByRecursion (HasUnit us whole) xs →
    AllByRecursion (HasUnit next whole) xs
counts_stay us next longer whole [] all = tt
counts_stay us next longer whole (n ∷ ns) all =
    ((omega (arith, longer.longer, all.0.0), longer.same n.key.slot ∙ all.0.1), counts_stay us next longer whole ns all.1)

-- so of each collection
units_stay : (us next : List Unit) → Extends us next → (cs : List Collection) → AreUnits us cs → AreUnits next cs
units_stay us next longer [] all = tt
units_stay us next longer (c ∷ cs) all = (counts_stay us next longer c.nodes c.nodes all.0, units_stay us next longer cs all.1)

-- slots that count nothing keep what holds of a forest
pub forest_longer : (t : Table Node) (es : List Entry) (us next : List Unit) → IsForest t es us → Extends us next → IsForest t es next
forest_longer t es us next forest longer = record {
  kept = forest.kept;
  counted = forest.counted;
  units = units_stay us next longer (map (collection_in t) (rows_of es)) forest.units;
  given = forest.given;
}
