-- On which buffers nothing was opened.
use Rattle.core_likeness.proofs.Common.{Allocated, Bool, BufferName, Call, Called, Ended, Entry, In-any, List, Loss, Mark, Reply}
use Rattle.core_likeness.proofs.Common.{Strength, and_left, and_right, arith, bit_at, entry_mark, false, false_if, is_event, is_opened}
use Rattle.core_likeness.proofs.Common.{list_any, opening_by, refl, sym, timeline, times, true, ℕ, ◌&&◌, ◌==◌, ◌∙◌, ◌≡◌}
use Rattle.std.proofs.Common.{◌-◌}
use Rattle.sm_names.specs.Handles.{lands, open_of, open_total, opens}
use Rattle.sm_names.specs.Sameness.{same_buffer, same_strength}
use Rattle.sm_names.proofs.ListLaws.{times-zero}
use Rattle.sm_names.proofs.SamenessLaws.{and_both}
use Rattle.core_likeness.proofs.Calls.{counted}

module _ (who : ℕ → Bool) (b : BufferName) (s : Strength) where
  -- What is forced opens nothing,
  opens-quiet : (mark : Mark) → is_event mark ≡ false → opens who b s mark ≡ false
  opens-quiet (Called caller reply call) quiet = cc
  opens-quiet (Loss origin cause) quiet = refl
  opens-quiet (Allocated head) quiet = refl
  opens-quiet (Ended top) quiet = refl

  -- and takes nothing out of a parcel.
  lands-quiet : (mark : Mark) → is_event mark ≡ false → lands who b s mark ≡ false
  lands-quiet (Called caller reply call) quiet = cc
  lands-quiet (Loss origin cause) quiet = refl
  lands-quiet (Allocated head) quiet = refl
  lands-quiet (Ended top) quiet = refl

  -- A Take opens handles on a set, and a DupHandle one.
  opens-told : (client : ℕ) (reply : Reply) (call : Call) → opens who b s (Called client reply call) ≡ true →
      (who client && is_opened (opening_by call reply) b) ≡ true
  opens-told client (Reply.Taken collection taken set) (Call.Take key) h =
      let more = and_right (who client) (collection == b.collection && (same_strength taken s && bit_at set b.index == 1)) h in
      and_both (who client) (collection == b.collection && bit_at set b.index == 1) (and_left (who client) _ h)
      (and_both (collection == b.collection) (bit_at set b.index == 1) (and_left (collection == b.collection) _ more)
      (and_right (same_strength taken s) (bit_at set b.index == 1) (and_right (collection == b.collection) _ more)))
  opens-told client Reply.Done (Call.DupHandle name dup) h =
      and_both (who client) (same_buffer name b) (and_left (who client) _ h)
      (and_left (same_buffer name b) (same_strength dup s) (and_right (who client) _ h))
  opens-told client reply call h = cc

  -- A Collect takes one out of a parcel.
  lands-told : (client : ℕ) (reply : Reply) (call : Call) → lands who b s (Called client reply call) ≡ true →
      (who client && is_opened (opening_by call reply) b) ≡ true
  lands-told client (Reply.CollectedHandle name given) Call.Collect h =
      and_both (who client) (same_buffer name b) (and_left (who client) _ h)
      (and_left (same_buffer name b) (same_strength given s) (and_right (who client) _ h))
  lands-told client reply call h = cc

  -- it is among the entries of such a client that open handles on the buffer
  abbrev pub touches : Entry → Bool
  touches e = who e.0 && is_opened (opening_by e.1 e.2) b

  -- Where no entry touches the buffer,
  module _ (history : List Entry) (untouched : list_any touches history ≡ false) where
    -- none passes a test that only those pass;
    none : (p : Entry → Bool) → ((e : Entry) → p e ≡ true → touches e ≡ true) → times p history ≡ 0
    none p only = times-zero p history (λ e there. false_if (p e) (λ h.
        let yes : true ≡ false = sym (In-any touches history e there (only e h)) ∙ untouched in cc))

    -- so none opens a handle on it,
    pub none_opens : (pool : ℕ) → times (opens who b s) (timeline pool history) ≡ 0
    none_opens pool = counted (opens who b s) opens-quiet pool history ∙ none (λ e. opens who b s (entry_mark e))
        (λ e h. opens-told e.0 e.2 e.1 h)

    -- and none takes one out of a parcel.
    pub none_lands : (pool : ℕ) → times (lands who b s) (timeline pool history) ≡ 0
    none_lands pool = counted (lands who b s) lands-quiet pool history ∙ none (λ e. lands who b s (entry_mark e))
        (λ e h. lands-told e.0 e.2 e.1 h)

-- So a client whose entries do not touch the buffer has no handle of it.
pub none_open : (client : ℕ) (b : BufferName) (s : Strength) (history : List Entry) →
    list_any (touches (λ c. c == client) b s) history ≡ false → (pool : ℕ) → open_of (timeline pool history) client b s ≡ 0
none_open client b s history untouched pool =
    let a : times (opens (λ c. c == client) b s) (timeline pool history) ≡ 0 = none_opens (λ c. c == client) b s history untouched pool in
    let l : times (lands (λ c. c == client) b s) (timeline pool history) ≡ 0 = none_lands (λ c. c == client) b s history untouched pool in
    omega (arith, a, l)

-- And where no entry touches it, nobody has one.
pub none_in_all : (b : BufferName) (s : Strength) (history : List Entry) →
    list_any (touches (λ c. true) b s) history ≡ false → (pool : ℕ) → open_total (timeline pool history) b s ≡ 0
none_in_all b s history untouched pool =
    let a : times (opens (λ c. true) b s) (timeline pool history) ≡ 0 = none_opens (λ c. true) b s history untouched pool in
    omega (arith, a)
