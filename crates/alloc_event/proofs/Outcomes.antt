-- What an answer tells where a change was made.
use Rattle.alloc_event.proofs.Common.{Err, Ok, Result, refl, true, ◌≡◌}
use Rattle.std.proofs.Common.{OnOk, is_ok}

-- what an answer tells where it was made
pub on_ok : {T E : Type 0} {P : Type 0} (r : Result T E) → (is_ok r ≡ true → P) → OnOk r P
on_ok (Ok x) told = told refl
on_ok (Err e) told = tt
