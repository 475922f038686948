-- The tests of keys that are derived are those of the specs, and keys that pass them are one.
use Rattle.buffer_holds.proofs.Common.{HandleKind, Hold, and_parts, arith, common_steps, eqb-true, same_handle_kind, same_hold}
use Rattle.buffer_holds.proofs.Common.{same_strength, same_strength-refl, same_strength-true, true, ◌==◌, ◌≡◌}
use Rattle.sm_names.specs.Sameness.{same_buffer}
use Rattle.sm_names.proofs.SamenessLaws.{same_buffer-true}

-- kinds that are the same are one
pub same_kind-one : (a b : HandleKind) → same_handle_kind a b ≡ true → a ≡ b
same_kind-one a b e =
    let both = and_parts (same_buffer a.buffer b.buffer) (same_strength a.strength b.strength) e in
    λ i. record { buffer = same_buffer-true a.buffer b.buffer both.0 i; strength = same_strength-true a.strength b.strength both.1 i }

-- holds that are the same are one
pub same_hold-one : (a b : Hold) → same_hold a b ≡ true → a ≡ b
same_hold-one a b e =
    let both = and_parts (a.client == b.client) (same_handle_kind a.kind b.kind) e in
    λ i. record { client = eqb-true a.client b.client both.0 i; kind = same_kind-one a.kind b.kind both.1 i }

-- a kind is the same as itself
pub same_kind-refl : (a : HandleKind) → same_handle_kind a a ≡ true
same_kind-refl a = grind (arith, common_steps, same_strength-refl a.strength)

-- a hold is the same as itself
pub same_hold-refl : (a : Hold) → same_hold a a ≡ true
same_hold-refl a = grind (arith, common_steps, same_kind-refl a.kind)
