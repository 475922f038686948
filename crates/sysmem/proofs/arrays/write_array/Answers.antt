-- An element of the items, told, is the element of the words at its place.
use Rattle.sysmem.proofs.Common.{arith, get_or, length, map, ◌<◌, ◌∙◌}
use Rattle.std.proofs.Common.{◌≡◌, sym, ap}
use Rattle.std.proofs.lemmas.List.{get_or-map, length-map}
use Rattle.sysmem.proofs.FirstPlaces.{write_more}
use Rattle.sysmem.proofs.arrays.write_array.Goals as goal

pub loop-i-preserved : goal.loop-i-preserved
loop-i-preserved g c =
    let encoded = g.W.Encode.encoded in let items = c.args.items.now in let places = c.args.out.now in
    let i = c.loop-i.i in let item = c.index-items-i.result in
    let in_words : i < length (map encoded items) = omega (arith, c.loop-i-test.true, c.min-room.ensures, length-map items encoded) in
    let in_items : i < length items = omega (arith, c.loop-i-test.true, c.min-room.ensures, length-map items encoded) in
    let in_places : i < length places = omega (arith, c.loop-i-test.true, c.min-room.ensures, length-map items encoded) in
    let told : c.encode.result ≡ get_or (map encoded items) i (encoded item) =
    c.encode.ensures ∙ ap encoded c.index-items-i.is ∙ sym (get_or-map encoded items i item (encoded item) in_items) in
    write_more (map encoded items) places c.loop-i.out i c.encode.result (encoded item) in_words in_places told c.loop-i.invariant
