-- What is not among the keys of a table is not in it.
use Rattle.actor_scripts.proofs.Common.{Bool, List, None, [], false, keys_of, list_any, lookup, refl, ◌∷◌, ◌≡◌}
use Rattle.sm_names.proofs.SamenessLaws.{or_none_left, or_none_right}

-- Key by key.
pub not_listed : {K X : Type 0} (test : K → Bool) (entries : List (K × X)) → list_any test (keys_of entries) ≡ false →
    lookup test entries ≡ None
not_listed test [] none = refl
not_listed test (e ∷ es) none =
    let here : test e.0 ≡ false = or_none_left (test e.0) (list_any test (keys_of es)) none in
    let more = not_listed test es (or_none_right (test e.0) (list_any test (keys_of es)) none) in
    rw here more
