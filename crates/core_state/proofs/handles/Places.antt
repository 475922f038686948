-- The places for the handles in parcels, after a change of one count.
use Rattle.core_state.proofs.Common.{AddsSet, Bool, BufferName, Counts, Err, HasPlaces, Mark, MovesHandles, Ok, OnOk, Result, Sets}
use Rattle.core_state.proofs.Common.{Strength, Tidies, ap, arith, false, moving_count, subst, sym, true, ℕ, ◌+◌, ◌-◌, ◌<◌, ◌≡◌}
use Rattle.std.proofs.Common.{OnErr}
use Rattle.std.specs.Bool.{OnTrue, OnFalse}
use Rattle.buffer_holds.specs.Counts.{sent}

-- the same counts have the same places
pub same_places : (old new : Counts) → new ≡ old → HasPlaces old → HasPlaces new
same_places old new same has = subst HasPlaces (sym same) has

module _ (old new : Counts) (client : ℕ) (buffer : BufferName) (strength : Strength) (held all : ℕ) where
  -- a handle is opened or closed: no parcel changes
  pub places_beside : Sets old new client buffer strength held (moving_count old buffer strength) all → new.places ≡ old.places →
      HasPlaces old → HasPlaces new
  places_beside sets same has = omega (arith, sets.sent, same, has)

  -- a handle is closed, if there was one
  pub places_closed : (had : Bool) → OnTrue had (Sets old new client buffer strength held (moving_count old buffer strength) all) →
      OnFalse had (new ≡ old) → new.places ≡ old.places → HasPlaces old → HasPlaces new
  places_closed true sets same kept has = places_beside sets kept has
  places_closed false sets same kept has = same_places old new same has

  -- a handle is opened, or refused
  pub places_opened : {E : Type 0} (result : Result (Unit {0}) E) →
      OnOk result (Sets old new client buffer strength held (moving_count old buffer strength) all) → OnErr result (new ≡ old) →
      new.places ≡ old.places → HasPlaces old → HasPlaces new
  places_opened (Ok done) sets same kept has = places_beside sets kept has
  places_opened (Err fault) sets same kept has = same_places old new same has

  -- one more handle is in a parcel, and there is a place more
  pub places_given : (before : Counts) → old ≡ record before { places = before.places + 1 } →
      Sets old new client buffer strength held (moving_count old buffer strength + 1) all → new.places ≡ old.places → HasPlaces before →
      HasPlaces new
  places_given before reserved sets same has =
      omega (arith, sets.sent, same, has, ap sent reserved, ap (λ (counts : Counts). counts.places) reserved)

  -- one handle less is in a parcel, and there is a place less
  pub places_landed : 0 < moving_count old buffer strength →
      Sets old new client buffer strength held (moving_count old buffer strength - 1) all → new.places ≡ old.places - 1 → HasPlaces old →
      HasPlaces new
  places_landed some sets less has = omega (arith, some, sets.sent, less, has)

-- a room is taken back: neither parcels nor places change
pub places_tidied : (old new : Counts) (client : ℕ) (buffer : BufferName) (strength : Strength) → Tidies old new client buffer strength →
    HasPlaces old → HasPlaces new
places_tidied old new client buffer strength tidies has = omega (arith, tidies.sent, tidies.places, has)

-- handles are opened on a set of buffers: no parcel changes
pub places_set : (old new : Counts) (client collection : ℕ) (strength : Strength) (set end : ℕ) →
    AddsSet old new client collection strength set end → HasPlaces old → HasPlaces new
places_set old new client collection strength set end adds has = omega (arith, adds.sent, adds.places, has)

-- a place more changes no count
pub moves_reserved : (before old new : Counts) (mark : Mark) → old ≡ record before { places = before.places + 1 } →
    MovesHandles old new mark →
    MovesHandles before new mark
moves_reserved before old new mark reserved moves =
    let there = subst (λ (counts : Counts). MovesHandles counts new mark) reserved moves in
    record { each = there.each; in_parcels = there.in_parcels; in_all = there.in_all }
