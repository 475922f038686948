-- What an event does to the counts of handles, and how it is undone.
use Rattle.core_state.proofs.Common.{Bool, BufferName, Call, Called, Counts, Err, GoesBy, Mark, MovesHandles, NodeKey, Ok, OnOk, Opens}
use Rattle.core_state.proofs.Common.{Reply, Result, SET_BITS, Sets, Strength, anyone, ap, arith, bit_at, cases_lt, collects_handle}
use Rattle.core_state.proofs.Common.{common_steps, counts_of, false, false≢true, idle_drops, idle_gains, idle_lands, idle_lifts}
use Rattle.core_state.proofs.Common.{idle_loses, idle_opens, inl, inr, is_about_handles, is_in_set_below, is_the, moving_count, nat_lt}
use Rattle.core_state.proofs.Common.{of, one_if, only, or_false, refl, same_strength, still, sym, total, up, ℕ, ◌&&◌, ◌+◌, ◌-◌, ◌<◌, ◌==◌}
use Rattle.core_state.proofs.Common.{◌^◌, ◌↔◌, ◌∙◌, ◌≡◌, ◌≤◌, ◌⊎◌}
use Rattle.std.proofs.Common.{IsErrOf, IsOkUnless}
use Rattle.std.proofs.lemmas.Nat.Bits.{bit_at_above}
use Rattle.buffer_holds.specs.declared.fault.HoldFault.{HoldFault}
use Rattle.core_state.proofs.handles.Opening.{same_counts, down, one_hold, one_kind, of-le-total}

-- ---- one count

-- it grows by what is gained
goes_up : {old new : ℕ} (x y : Bool) → y ≡ x → new ≡ old + one_if x → GoesBy old new y false
goes_up x y is more = record { adds_up = rw is (omega arith); was_there = λ h. cc; not_both = λ h. cc }

-- and down by what is lost
goes_down : {old new : ℕ} (x y : Bool) → y ≡ x → old ≡ new + one_if x → GoesBy old new false y
goes_down x y is less = record {
  adds_up = rw is (omega arith);
  was_there = λ h. let one : one_if x ≡ 1 = ap one_if (sym is ∙ h) in omega arith;
  not_both = λ h. refl;
}

-- and stays where nothing is
goes_not : {old new : ℕ} → new ≡ old → GoesBy old new false false
goes_not is = record { adds_up = ap (λ n. n + 0) is; was_there = λ h. cc; not_both = λ h. refl }

-- what was gained
gained : {old new : ℕ} (x y : Bool) → y ≡ x → GoesBy old new y false → new ≡ old + one_if x
gained x y is goes = let more = rw is at goes.adds_up in omega arith

-- what was lost
lost : {old new : ℕ} (x y : Bool) → y ≡ x → GoesBy old new false y → old ≡ new + one_if x
lost x y is goes = let less = rw is at goes.adds_up in omega arith

-- nothing was
neither : {old new : ℕ} → GoesBy old new false false → new ≡ old
neither goes = let same = goes.adds_up in omega arith

-- so too where no test holds
unmoved : {old new : ℕ} {gains loses : Bool} → gains ≡ false → loses ≡ false → GoesBy old new gains loses → new ≡ old
unmoved none neither goes = let same = goes.adds_up in let n = ap one_if none in let m = ap one_if neither in omega arith

-- ---- handles of a Take

-- a number of 64 bits has no bit but those below the 64th
all_below : (collection : ℕ) (strength : Strength) (set : ℕ) → set < 2 ^ 64 → (b : BufferName) (s : Strength) →
    (collection == b.collection && (same_strength strength s && bit_at set b.index == 1))
    ≡ is_in_set_below collection strength set SET_BITS b s
all_below collection strength set fits b s =
    ap (λ t. collection == b.collection && (same_strength strength s && t)) (by (cases_lt b.index SET_BITS))
  where
    -- by cases: past the 64th each bit is 0
    by : (b.index < SET_BITS) ⊎ (SET_BITS ≤ b.index) → (bit_at set b.index == 1) ≡ (bit_at set b.index == 1 && nat_lt b.index SET_BITS)
    by (inl below) = grind (arith, common_steps)
    by (inr above) = let none : bit_at set b.index ≡ 0 = bit_at_above set SET_BITS b.index fits above in rw none refl

module _ (client : ℕ) (key : NodeKey) (collection : ℕ) (strength : Strength) (set : ℕ) (fits : set < 2 ^ 64) where
  -- a Take opens one on each buffer of its set
  pub moves_taken : (old new : Counts) → Opens old new client (is_in_set_below collection strength set SET_BITS) →
      MovesHandles old new (Called client (Reply.Taken collection strength set) (Call.Take key))
  moves_taken old new opened = record {
    each = λ c b s. goes_up (client == c && is_in_set_below collection strength set SET_BITS b s) _ (or_false _
        ∙ ap (λ t. client == c && t) (all_below collection strength set fits b s)) (opened.counts c b s);
    in_parcels = λ b s. goes_not (opened.parcels b s);
    in_all = λ b s. goes_up (is_in_set_below collection strength set SET_BITS b s) _
        (all_below collection strength set fits b s) (opened.totals b s);
  }

  -- and no other
  pub taken_opens : (old new : Counts) → MovesHandles old new (Called client (Reply.Taken collection strength set) (Call.Take key)) →
      Opens old new client (is_in_set_below collection strength set SET_BITS)
  taken_opens old new moves = record {
    counts = λ c b s. gained (client == c && is_in_set_below collection strength set SET_BITS b s) _ (or_false _
        ∙ ap (λ t. client == c && t) (all_below collection strength set fits b s)) (moves.each c b s);
    parcels = λ b s. neither (moves.in_parcels b s);
    totals = λ b s. gained (is_in_set_below collection strength set SET_BITS b s) _
        (all_below collection strength set fits b s) (moves.in_all b s);
  }

-- ---- one handle

module _ (client : ℕ) (buffer : BufferName) (strength : Strength) where
  -- the handles are these
  abbrev is_its : ℕ → BufferName → Strength → Bool
  is_its c b s = client == c && is_the buffer strength b s

  -- a DupHandle opens one, and no other
  pub doubled_opens : (old new : Counts) → MovesHandles old new (Called client Reply.Done (Call.DupHandle buffer strength)) →
      Opens old new client (is_the buffer strength)
  doubled_opens old new moves = record {
    counts = λ c b s. gained (is_its c b s) _ (or_false _) (moves.each c b s);
    parcels = λ b s. neither (moves.in_parcels b s);
    totals = λ b s. gained (is_the buffer strength b s) _ refl (moves.in_all b s);
  }

  -- a DropHandle drops one
  pub moves_dropped : (old new : Counts) → 0 < of old client buffer strength →
      Sets old new client buffer strength (of old client buffer strength - 1)
      (moving_count old buffer strength) (total old buffer strength - 1) →
      MovesHandles old new (Called client Reply.Done (Call.DropHandle buffer strength))
  moves_dropped old new some sets = record {
    each = λ c b s. goes_down (is_its c b s) _ (or_false _) (down (is_its c b s) some (sets.counts c b s) (one_hold client buffer strength
        (of old) c b s));
    in_parcels = λ b s. goes_not
        (still (is_the buffer strength b s) (sets.parcels b s) (one_kind client buffer strength (moving_count old) b s));
    in_all = λ b s. goes_down (is_the buffer strength b s) _ refl
        (down (is_the buffer strength b s) (omega (arith, of-le-total old client buffer strength)) (sets.totals b s)
        (one_kind client buffer strength (total old) b s));
  }

  -- and is undone by one more
  pub undrops : (before old new : Counts) → MovesHandles before old (Called client Reply.Done (Call.DropHandle buffer strength)) →
      Sets old new client buffer strength (of old client buffer strength + 1)
      (moving_count old buffer strength) (total old buffer strength + 1) →
      counts_of new ≡ counts_of before
  undrops before old new moves sets = same_counts before new
      (λ c b s. up (is_its c b s) (sets.counts c b s) (one_hold client buffer strength (of old) c b s)
      ∙ sym (lost (is_its c b s) _ (or_false _) (moves.each c b s)))
      (λ b s. still (is_the buffer strength b s) (sets.parcels b s) (one_kind client buffer strength (moving_count old) b s)
      ∙ neither (moves.in_parcels b s))
      (λ b s. up (is_the buffer strength b s) (sets.totals b s) (one_kind client buffer strength (total old) b s)
      ∙ sym (lost (is_the buffer strength b s) _ refl (moves.in_all b s)))

  -- a GiveHandle puts one into a parcel
  pub moves_given : (to : ℕ) (old new : Counts) → 0 < of old client buffer strength →
      Sets old new client buffer strength (of old client buffer strength - 1)
      (moving_count old buffer strength + 1) (total old buffer strength) →
      MovesHandles old new (Called client Reply.Done (Call.GiveHandle buffer strength to))
  moves_given to old new some sets = record {
    each = λ c b s. goes_down (is_its c b s) _ refl (down (is_its c b s) some (sets.counts c b s) (one_hold client buffer strength (of old)
        c b s));
    in_parcels =
        λ b s. goes_up (is_the buffer strength b s) _ refl (up (is_the buffer strength b s) (sets.parcels b s)
        (one_kind client buffer strength (moving_count old) b s));
    in_all = λ b s. goes_not (still (is_the buffer strength b s) (sets.totals b s) (one_kind client buffer strength (total old) b s));
  }

  -- and is undone by taking one out
  pub ungives : (to : ℕ) (before old new : Counts) → 0 < moving_count old buffer strength →
      MovesHandles before old (Called client Reply.Done (Call.GiveHandle buffer strength to)) →
      Sets old new client buffer strength (of old client buffer strength + 1)
      (moving_count old buffer strength - 1) (total old buffer strength) →
      counts_of new ≡ counts_of before
  ungives to before old new some moves sets = same_counts before new
      (λ c b s. up (is_its c b s) (sets.counts c b s) (one_hold client buffer strength (of old) c b s)
      ∙ sym (lost (is_its c b s) _ refl (moves.each c b s)))
      (λ b s. let e = down (is_the buffer strength b s) some (sets.parcels b s) (one_kind client buffer strength (moving_count old) b s) in
      let g = gained (is_the buffer strength b s) _ refl (moves.in_parcels b s) in
      omega arith)
      (λ b s. still (is_the buffer strength b s) (sets.totals b s) (one_kind client buffer strength (total old) b s)
      ∙ neither (moves.in_all b s))

  -- a Collect takes one out of a parcel
  pub moves_collected : (old new : Counts) → 0 < moving_count old buffer strength →
      Sets old new client buffer strength (of old client buffer strength + 1)
      (moving_count old buffer strength - 1) (total old buffer strength) →
      MovesHandles old new (Called client (Reply.CollectedHandle buffer strength) Call.Collect)
  moves_collected old new some sets = record {
    each = λ c b s. goes_up (is_its c b s) _ refl (up (is_its c b s) (sets.counts c b s) (one_hold client buffer strength (of old) c b s));
    in_parcels = λ b s. goes_down (is_the buffer strength b s) _ refl (down (is_the buffer strength b s) some (sets.parcels b s)
        (one_kind client buffer strength (moving_count old) b s));
    in_all = λ b s. goes_not (still (is_the buffer strength b s) (sets.totals b s) (one_kind client buffer strength (total old) b s));
  }

-- ---- an event that is about no handles

module _ (mark : Mark) (idle : is_about_handles mark ≡ false) where
  -- it leaves nothing to undo
  pub moved_none : (before old : Counts) → MovesHandles before old mark → counts_of old ≡ counts_of before
  moved_none before old moves = same_counts before old
      (λ c b s. unmoved (idle_gains (only c) b s mark idle) (idle_loses (only c) b s mark idle) (moves.each c b s))
      (λ b s. unmoved (idle_lifts anyone b s mark idle) (idle_lands anyone b s mark idle) (moves.in_parcels b s))
      (λ b s. unmoved (idle_opens anyone b s mark idle) (idle_drops anyone b s mark idle) (moves.in_all b s))

-- ---- which events are about no handles

module _ (client : ℕ) (reply : Reply) where
  -- a Take that was answered otherwise
  pub not_taken : (key : NodeKey) → ((collection : ℕ) (strength : Strength) (set : ℕ) → reply ≡ Reply.Taken collection strength set → ⊥) →
      is_about_handles (Called client reply (Call.Take key)) ≡ false
  not_taken key no_set = by reply no_set
    where
      -- among the replies to a Take, only `Taken` is about handles
      by : (reply : Reply) → ((collection : ℕ) (strength : Strength) (set : ℕ) → reply ≡ Reply.Taken collection strength set → ⊥) →
          is_about_handles (Called client reply (Call.Take key)) ≡ false
      by (Reply.Taken collection strength set) no_set = absurd (no_set collection strength set refl)
      by _ no_set = refl

  -- a DupHandle that opened none
  pub not_doubled : (buffer : BufferName) (strength : Strength) → (reply ≡ Reply.Done → ⊥) →
      is_about_handles (Called client reply (Call.DupHandle buffer strength)) ≡ false
  not_doubled buffer strength undone = by reply undone
    where
      by : (reply : Reply) → (reply ≡ Reply.Done → ⊥) → is_about_handles (Called client reply (Call.DupHandle buffer strength)) ≡ false
      by Reply.Done undone = absurd (undone refl)
      by _ undone = refl

  -- a DropHandle that dropped none
  pub not_dropped : (buffer : BufferName) (strength : Strength) → (reply ≡ Reply.Done → ⊥) →
      is_about_handles (Called client reply (Call.DropHandle buffer strength)) ≡ false
  not_dropped buffer strength undone = by reply undone
    where
      by : (reply : Reply) → (reply ≡ Reply.Done → ⊥) → is_about_handles (Called client reply (Call.DropHandle buffer strength)) ≡ false
      by Reply.Done undone = absurd (undone refl)
      by _ undone = refl

  -- a GiveHandle that gave none
  pub not_handed : (buffer : BufferName) (strength : Strength) (to : ℕ) → (reply ≡ Reply.Done → ⊥) →
      is_about_handles (Called client reply (Call.GiveHandle buffer strength to)) ≡ false
  not_handed buffer strength to undone = by reply undone
    where
      by : (reply : Reply) → (reply ≡ Reply.Done → ⊥) → is_about_handles (Called client reply (Call.GiveHandle buffer strength to)) ≡ false
      by Reply.Done undone = absurd (undone refl)
      by _ undone = refl

  -- any other call, but for a Collect of a handle
  pub not_handles : (call : Call) → ((key : NodeKey) → call ≡ Call.Take key → ⊥) → ((buffer : BufferName) (strength : Strength) →
      call ≡ Call.DupHandle buffer strength → ⊥) →
      ((buffer : BufferName) (strength : Strength) → call ≡ Call.DropHandle buffer strength → ⊥) →
      ((buffer : BufferName) (strength : Strength) (to : ℕ) → call ≡ Call.GiveHandle buffer strength to → ⊥) →
      collects_handle call reply ≡ false → is_about_handles (Called client reply call) ≡ false
  not_handles call no_take no_dup no_drop no_give stands = by reply call no_take no_dup no_drop no_give stands
    where
      by : (reply : Reply) (call : Call) → ((key : NodeKey) → call ≡ Call.Take key → ⊥) → ((buffer : BufferName) (strength : Strength) →
          call ≡ Call.DupHandle buffer strength → ⊥) →
          ((buffer : BufferName) (strength : Strength) → call ≡ Call.DropHandle buffer strength → ⊥) →
          ((buffer : BufferName) (strength : Strength) (to : ℕ) → call ≡ Call.GiveHandle buffer strength to → ⊥) →
          collects_handle call reply ≡ false → is_about_handles (Called client reply call) ≡ false
      by (Reply.Taken collection strength set) (Call.Take key) no_take no_dup no_drop no_give stands = absurd (no_take key refl)
      by Reply.Done (Call.DupHandle buffer strength) no_take no_dup no_drop no_give stands = absurd (no_dup buffer strength refl)
      by Reply.Done (Call.DropHandle buffer strength) no_take no_dup no_drop no_give stands = absurd (no_drop buffer strength refl)
      by Reply.Done (Call.GiveHandle buffer strength to) no_take no_dup no_drop no_give stands = absurd (no_give buffer strength to refl)
      by (Reply.CollectedHandle buffer strength) Call.Collect no_take no_dup no_drop no_give stands = absurd (false≢true (sym stands))
      by _ _ no_take no_dup no_drop no_give stands = refl

-- with room for it, and below the limit, a handle is opened
pub opened : {P : Type 0} (result : Result (Unit {0}) HoldFault) (now limit : ℕ) → IsErrOf result HoldFault.TooMany ↔ (now ≡ limit) →
    now < limit → IsOkUnless result HoldFault.TooMany → OnOk result P → P
opened (Ok done) now limit full fewer room gives = gives
opened (Err HoldFault.NoMemory) now limit full fewer room gives = absurd cc
opened (Err HoldFault.TooMany) now limit full fewer room gives = let same : now ≡ limit = full.0 refl in absurd (omega arith)
