-- The signs of pages, one more at a time.
use Rattle.std.proofs.Common.{◌≡◌, ◌∙◌, ap, append-nil, arith, ℕ, ◌+◌, List, [], ◌∷◌, ◌++◌, map}
use Rattle.std.specs.List.{range_with_len}
use Rattle.std.proofs.lemmas.Grind.{flat_map-append}
use Rattle.std.proofs.lemmas.List.FromFn.{map-range_with_len_more}
use Rattle.sm_names.specs.declared.keys.HeldBuffer.{HeldBuffer}
use Rattle.event_texts.specs.FactTexts.{concat}
use Rattle.picture_text.specs.TextPictures.{sign_of_page, signs_of_pages}

-- one more page
pub signs-more : (held : List HeldBuffer) (page : ℕ) →
    signs_of_pages held (page + 1) ≡ signs_of_pages held page ++ sign_of_page held page
signs-more held page =
    ap concat (map-range_with_len_more (sign_of_page held) 0 page page (omega arith))
    ∙ flat_map-append (λ text. text) (map (sign_of_page held) (range_with_len 0 page)) (sign_of_page held page ∷ [])
    ∙ ap (λ text. signs_of_pages held page ++ text) (append-nil (sign_of_page held page))
