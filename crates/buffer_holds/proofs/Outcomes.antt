-- What holds at each outcome of a call.
use Rattle.std.proofs.Common.{◌≡◌, refl, Option, Some, None, IfNone, Result, Ok, Err, IsOk, IsErr, IfOk, OnOk, OnErr}

module _ {T E : Type 0} where
  -- by the outcome
  pub by_outcome : {G : Type 0} (result : Result T E) → (IsOk result → G) → (IsErr result → G) → G
  by_outcome (Ok value) ok err = ok refl
  by_outcome (Err fault) ok err = err refl

  -- what holds on `Ok`, at an `Ok`
  pub at_ok : (P : Type 0) (result : Result T E) → IsOk result → OnOk result P → P
  at_ok P (Ok value) is holds = holds
  at_ok P (Err fault) is holds = cc

  -- what holds of the value on `Ok`, at an `Ok`
  pub ok_value : (P Q : T → Type 0) (result : Result T E) → IsOk result → IfOk result P → IfOk result Q → (value : T) × P value × Q value
  ok_value P Q (Ok value) is first second = (value, first, second)
  ok_value P Q (Err fault) is first second = cc

  -- what holds on `Err`, at an `Err`
  pub at_err : (P : Type 0) (result : Result T E) → IsErr result → OnErr result P → P
  at_err P (Ok value) is holds = cc
  at_err P (Err fault) is holds = holds

  -- and back
  pub on_ok : (P : Type 0) (result : Result T E) → (IsOk result → P) → OnOk result P
  on_ok P (Ok value) holds = holds refl
  on_ok P (Err fault) holds = _

  -- an `Ok` is no `Err`
  pub ok-not-err : (result : Result T E) (fault : E) → IsOk result → result ≡ Err fault → ⊥
  ok-not-err (Ok value) fault is same = cc
  ok-not-err (Err other) fault is same = cc

-- what follows from what holds at `None`
pub at_none : {T : Type 0} {P Q : Type 0} (o : Option T) → (P → Q) → IfNone o P → IfNone o Q
at_none None f p = f p
at_none (Some value) f p = p
