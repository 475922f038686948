-- Buffers and their holders, one more at a time.
use Rattle.event_texts.proofs.Common.{HeldBuffer, List, Names, ap, append_assoc, between_buffers, buffer_text, codes, kept_behind, sym, ℕ}
use Rattle.event_texts.proofs.Common.{◌++◌, ◌∙◌, ◌∷◌, ◌≡◌}
use Rattle.event_texts.specs.EventTexts.{kept_from}

module _ (names : Names) (who : HeldBuffer → List ℕ) where
  -- the first buffer, and those behind it
  pub first-kept : (h : HeldBuffer) (later : List HeldBuffer) (row old t u v : List ℕ) → row ≡ who h → t ≡ old ++ codes "kept   " →
      u ≡ t ++ buffer_text names h.buffer → v ≡ u ++ kept_behind names who row later → v ≡ old ++ kept_from names who h later
  first-kept h later row old t u v is one next last =
      last
      ∙ ap (λ (r : List ℕ). u ++ kept_behind names who r later) is
      ∙ ap (λ (front : List ℕ). front ++ kept_behind names who (who h) later) (next
      ∙ ap (λ (front : List ℕ). front ++ buffer_text names h.buffer) one)
      ∙ append_assoc (old ++ codes "kept   ") (buffer_text names h.buffer) (kept_behind names who (who h) later)
      ∙ append_assoc old (codes "kept   ") (buffer_text names h.buffer ++ kept_behind names who (who h) later)

  -- one more buffer
  pub next-kept : (row next : List ℕ) (h : HeldBuffer) (later rest : List HeldBuffer) (old new : List ℕ) → next ≡ who h →
      rest ≡ h ∷ later → new ≡ old ++ (between_buffers row next ++ buffer_text names h.buffer) →
      new ++ kept_behind names who next later ≡ old ++ kept_behind names who row rest
  next-kept row next h later rest old new is split put =
      ap (λ (t : List ℕ). t ++ kept_behind names who next later) put
      ∙ append_assoc old (between_buffers row next ++ buffer_text names h.buffer) (kept_behind names who next later)
      ∙ ap (λ (t : List ℕ). old ++ t)
      (append_assoc (between_buffers row next) (buffer_text names h.buffer) (kept_behind names who next later))
      ∙ ap (λ (n : List ℕ). old ++ (between_buffers row n ++ (buffer_text names h.buffer ++ kept_behind names who n later))) is
      ∙ ap (λ (r : List HeldBuffer). old ++ kept_behind names who row r) (sym split)
