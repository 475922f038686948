-- The handles of a Take, and their units.
use Rattle.std.proofs.Common.{ℕ, suc, ◌≡◌, ◌<◌, ◌+◌, ◌-◌, ◌∙◌, refl, ap, sym, subst, true, false}
use Rattle.std.proofs.Common.{◌==◌, List, [], ◌∷◌, ◌++◌, length, append_assoc, append-nil, arith}
use Rattle.std.specs.Int.{bit_at}
use Rattle.std.specs.List.{filter, range_with_len}
use Rattle.sm_names.specs.declared.rules.TheConstants.{MAX_BUFFERS}
use Rattle.sm_names.specs.declared.keys.NodeKey.{NodeKey}
use Rattle.sm_names.specs.declared.keys.Strength.{Strength}
use Rattle.sm_names.specs.declared.keys.Strength.TheVariants.{Strong, Weak}
use Rattle.sm_names.specs.declared.messages.Call.{Call}
use Rattle.sm_names.specs.declared.messages.Reply.{Reply}
use Rattle.event_laws.specs.HandleSums.{indices_in}
use Rattle.service_lock.specs.Units.{Amounts, HasOne, with_one}
use Rattle.service_lock.specs.declared.taken.TakenHandles.{TakenHandles}
use Rattle.service_lock.specs.Accounts.{SameHandles, no_amounts}
use Rattle.service_lock.specs.Takes.{handful, told_taken}
use Rattle.client_ends.specs.Clients.{Grip, Made, Seen}
use Rattle.client_ends.specs.Taking.{Took, grip_at, grips_at, grips_by}

-- the Take that was answered so brought these handles
pub took : (old mid new : Seen) (key : NodeKey) (reply : Reply) (collection : ℕ) (strength : Strength) (set : ℕ) (handles : List Grip) →
    old ≡ mid →
    Made mid new (Call.Take key) reply → reply ≡ Reply.Taken collection strength set → handles ≡ grips_by mid.id (told_taken reply) →
    Took old new key handles
took old mid new key reply collection strength set handles is made tells brought =
    let taken : TakenHandles = record { collection = collection; strength = strength; set = set } in record {
      taken = taken;
      made = subst (λ (o : Seen). Made o new (Call.Take key) (Reply.Taken collection strength set)) (sym is)
          (subst (λ (r : Reply). Made mid new (Call.Take key) r) tells made);
      brought = brought
          ∙ (ap (λ (r : Reply). grips_by mid.id (told_taken r)) tells
          ∙ ap (λ (o : Seen). grips_at o.id taken (indices_in set)) (sym is));
    }

-- the buffers of a set among this many from this one on
unfoldable pub indices_from : ℕ → ℕ → ℕ → List ℕ
indices_from start count set = filter (λ i. bit_at set i == 1) (range_with_len start count)

-- from the first on they are all
pub from_first : (set : ℕ) → indices_from 0 MAX_BUFFERS set ≡ indices_in set
unfolding indices_from indices_in
from_first set = refl

-- of none there are none
pub from_none : (start set : ℕ) → indices_from start 0 set ≡ []
unfolding indices_from
from_none start set = refl

-- one that the set has
pub from_with : (start count set : ℕ) → (bit_at set start == 1) ≡ true →
    indices_from start (suc count) set ≡ start ∷ indices_from (start + 1) count set
unfolding indices_from
from_with start count set is = rw is refl

-- one that it has not
pub from_without : (start count set : ℕ) → (bit_at set start == 1) ≡ false →
    indices_from start (suc count) set ≡ indices_from (start + 1) count set
unfolding indices_from
from_without start count set is = rw is refl

module _ (index set : ℕ) where
  -- the buffers from this one on
  abbrev pub rest_from : List ℕ
  rest_from = indices_from index (MAX_BUFFERS - index) set

  -- and those behind it
  abbrev pub behind : List ℕ
  behind = indices_from (index + 1) (MAX_BUFFERS - (index + 1)) set

  -- behind one that the set has
  pub step_with : index < MAX_BUFFERS → (bit_at set index == 1) ≡ true → rest_from ≡ index ∷ behind
  step_with low is =
      let e : MAX_BUFFERS - index ≡ suc (MAX_BUFFERS - (index + 1)) = omega arith in
      ap (λ n. indices_from index n set) e ∙ from_with index (MAX_BUFFERS - (index + 1)) set is

  -- behind one that it has not
  pub step_without : index < MAX_BUFFERS → (bit_at set index == 1) ≡ false → rest_from ≡ behind
  step_without low is =
      let e : MAX_BUFFERS - index ≡ suc (MAX_BUFFERS - (index + 1)) = omega arith in
      ap (λ n. indices_from index n set) e ∙ from_without index (MAX_BUFFERS - (index + 1)) set is

  -- at the end there are none
  pub at_end : index ≡ MAX_BUFFERS → rest_from ≡ []
  at_end is =
      let e : MAX_BUFFERS - index ≡ 0 = omega arith in
      ap (λ n. indices_from index n set) e ∙ from_none index set

  -- the unit of the next handle is there
  pub unit_there : (strength : Strength) (units : Amounts) → index < MAX_BUFFERS → (bit_at set index == 1) ≡ true →
      SameHandles units (handful strength (length rest_from)) → HasOne strength units
  unit_there Strong units low is same = let more = step_with low is in omega (arith, ap length more, same.0)
  unit_there Weak units low is same = let more = step_with low is in omega (arith, ap length more, same.1)

  -- and without it there are those of the handles behind
  pub units_behind : (strength : Strength) (old new : Amounts) → index < MAX_BUFFERS → (bit_at set index == 1) ≡ true →
      SameHandles old (handful strength (length rest_from)) → old ≡ with_one strength new →
      SameHandles new (handful strength (length behind))
  units_behind Strong old new low is same passed =
      let more = ap length (step_with low is) in
      let strong = ap (λ (u : Amounts). u.strong) passed in
      let weak = ap (λ (u : Amounts). u.weak) passed in
      (omega (arith, more, strong, same.0), omega (arith, weak, same.1))
  units_behind Weak old new low is same passed =
      let more = ap length (step_with low is) in
      let strong = ap (λ (u : Amounts). u.strong) passed in
      let weak = ap (λ (u : Amounts). u.weak) passed in
      (omega (arith, strong, same.0), omega (arith, more, weak, same.1))

  -- the units stay where the set has not the buffer
  pub units_stay : (strength : Strength) (units : Amounts) → index < MAX_BUFFERS → (bit_at set index == 1) ≡ false →
      SameHandles units (handful strength (length rest_from)) → SameHandles units (handful strength (length behind))
  units_stay strength units low is same =
      subst (λ (l : List ℕ). SameHandles units (handful strength (length l))) (step_without low is) same

  -- at the end none is left
  pub none_left : (strength : Strength) (units : Amounts) → index ≡ MAX_BUFFERS → SameHandles units (handful strength (length rest_from)) →
      SameHandles units no_amounts
  none_left Strong units is same = let none = ap length (at_end is) in (omega (arith, none, same.0), same.1)
  none_left Weak units is same = let none = ap length (at_end is) in (same.0, omega (arith, none, same.1))

  module _ (client : ℕ) (taken : TakenHandles) (items all : List Grip) where
    -- one handle more was handed out
    pub grips_with : index < MAX_BUFFERS → (bit_at set index == 1) ≡ true → items ++ grips_at client taken rest_from ≡ all →
        (items ++ grip_at client taken index ∷ []) ++ grips_at client taken behind ≡ all
    grips_with low is so =
        append_assoc items (grip_at client taken index ∷ []) (grips_at client taken behind)
        ∙ (ap (λ (l : List ℕ). items ++ grips_at client taken l) (sym (step_with low is)) ∙ so)

    -- or none
    pub grips_without : index < MAX_BUFFERS → (bit_at set index == 1) ≡ false → items ++ grips_at client taken rest_from ≡ all →
        items ++ grips_at client taken behind ≡ all
    grips_without low is so = ap (λ (l : List ℕ). items ++ grips_at client taken l) (sym (step_without low is)) ∙ so

    -- in the end all were
    pub grips_all : index ≡ MAX_BUFFERS → items ++ grips_at client taken rest_from ≡ all → items ≡ all
    grips_all is so =
        sym (append-nil items) ∙ (ap (λ (l : List ℕ). items ++ grips_at client taken l) (sym (at_end is)) ∙ so)

-- at first all are still to come
pub grips_first : (client : ℕ) (taken : TakenHandles) (items : List Grip) → items ≡ [] →
    items ++ grips_at client taken (indices_from 0 MAX_BUFFERS taken.set) ≡ grips_at client taken (indices_in taken.set)
grips_first client taken items none =
    ap (λ (l : List Grip). l ++ grips_at client taken (indices_from 0 MAX_BUFFERS taken.set)) none
    ∙ ap (λ (l : List ℕ). grips_at client taken l) (from_first taken.set)

-- with their units
pub units_first : (units : Amounts) (taken : TakenHandles) → SameHandles units (handful taken.strength (length (indices_in taken.set))) →
    SameHandles units (handful taken.strength (length (indices_from 0 MAX_BUFFERS taken.set)))
units_first units taken same =
    subst (λ (l : List ℕ). SameHandles units (handful taken.strength (length l))) (sym (from_first taken.set)) same
