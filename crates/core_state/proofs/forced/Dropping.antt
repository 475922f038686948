-- A drop of a handle.
use Rattle.core_state.proofs.Common.{Bool, BufferName, Change, None, Option, Some, State, Strength, Work, ap, at_collection, cond}
use Rattle.core_state.proofs.Common.{drop_at, either_way, inl, inr, leb-true, nat_le, sym, total, ◌∙◌, ◌≡◌, ◌≤◌, ◌⊎◌}
use Rattle.core_state.proofs.forced.Losing.{no_work}

module _ (s : State) (buffer : BufferName) (strength : Strength) where
  -- what a drop of the last handle changes
  abbrev last : Option Work
  last = at_collection s.forest buffer.collection Change.Nothing

  -- where it is work, it is that
  pub took_last : (work : Work) → drop_at s buffer strength ≡ Some work →
      at_collection s.forest buffer.collection Change.Nothing ≡ Some work
  took_last work e = elim (either_way (nat_le 2 (total s.holds buffer strength))) [
    | inl more ↦ no_work (ap (λ (b : Bool). cond b None last) (sym more) ∙ e)
    | inr one ↦ ap (λ (b : Bool). cond b None last) (sym one) ∙ e
  ]

  -- where it is none, another handle stays open, or the collection is not there
  pub stays : drop_at s buffer strength ≡ None →
      (2 ≤ total s.holds buffer strength) ⊎ (at_collection s.forest buffer.collection Change.Nothing ≡ None)
  stays e = elim (either_way (nat_le 2 (total s.holds buffer strength))) [
    | inl more ↦ inl (leb-true 2 (total s.holds buffer strength) more)
    | inr one ↦ inr (ap (λ (b : Bool). cond b None last) (sym one) ∙ e)
  ]
