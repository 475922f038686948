-- What a row weighs.
use Rattle.buffer_holds.proofs.Common.{Bool, HandleKind, Hold, None, Option, Some, ap, cond, false, refl, same_handle_kind, share, true}
use Rattle.buffer_holds.proofs.Common.{unwrap_or, weight_at, ℕ, ◌≡◌}

-- what a row weighs, by whether it is of the kind
pub weight_at-share : (kind : HandleKind) (hold : Hold) (row : Option ℕ) (b : Bool) → same_handle_kind hold.kind kind ≡ b →
    weight_at (share kind) hold row ≡ cond b (unwrap_or row 0) 0
weight_at-share kind hold None true e = refl
weight_at-share kind hold None false e = refl
weight_at-share kind hold (Some count) b e = ap (λ v. cond v count 0) e
