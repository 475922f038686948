-- Pages of cells, and the entries that are in them.
use Rattle.std.specs.Int.{bit_at}
use Rattle.std.specs.Prelude.{◌≡◌, ℕ, zero, suc, ◌+◌, ◌-◌, ◌*◌, ◌/◌, ◌%◌, ◌==◌, ◌&&◌}
use Rattle.std.specs.Prelude.{Bool, true, not, if◌then◌else◌, List, [], ◌∷◌, Option, Some, None, get_or, length, unwrap_or, nat_lt}
use Rattle.sm_names.specs.declared.keys.Strength.{Strength}
use Rattle.sm_names.specs.declared.keys.Strength.TheVariants.{Strong, Weak}
use Rattle.buffer_holds.specs.declared.kinds.HandleKind.{HandleKind}
use Rattle.buffer_holds.specs.declared.kinds.Hold.{Hold}
use Rattle.buffer_holds.specs.declared.names.Owner.{Owner}
use Rattle.buffer_holds.specs.declared.names.Part.{Part}

-- how many cells a page has
abbrev pub page_size : ℕ
page_size = 128

-- the cell of this index, empty behind the last
abbrev pub cell_at : {X : Type 0} → List (Option X) → ℕ → Option X
cell_at page at = get_or page at None

-- the entry of a cell, before others
abbrev pub cell : {K X : Type 0} → K → Option X → List (K × X) → List (K × X)
cell key None rest = rest
cell key (Some value) rest = (key, value) ∷ rest

-- the cells are the old ones but for this one, which is now so
abbrev pub SetsCell : {X : Type 0} → List (Option X) → List (Option X) → ℕ → Option X → Type 0
SetsCell old new at now = (other : ℕ) → cell_at new other ≡ (if at == other then now else cell_at old other)

-- nothing is in the cells
abbrev pub IsBlank : {X : Type 0} → List (Option X) → Type 0
IsBlank page = (at : ℕ) → cell_at page at ≡ None

-- the count in a cell, 0 where it is empty
abbrev pub count_in : List (Option ℕ) → ℕ → ℕ
count_in page at = unwrap_or (cell_at page at) 0

-- the cell is one of a set: bit i stands for the cell that is i behind the first
abbrev pub is_in : (first set at : ℕ) → Bool
is_in first set at = not (nat_lt at first) && bit_at set (at - first) == 1

abbrev pub IsIn : (first set at : ℕ) → Type 0
IsIn first set at = is_in first set at ≡ true

-- the cell is one of a run
abbrev pub in_run : (first size at : ℕ) → Bool
in_run first size at = not (nat_lt at first) && nat_lt at (first + size)

-- the cell counts one more if it is in the set
abbrev pub raised : List (Option ℕ) → (first set at : ℕ) → Option ℕ
raised page first set at = if is_in first set at then Some (count_in page at + 1) else cell_at page at

-- one handle more is counted in each cell of the set
abbrev pub RaisesSet : List (Option ℕ) → List (Option ℕ) → (first set : ℕ) → Type 0
RaisesSet old new first set = (at : ℕ) → cell_at new at ≡ raised old first set at

-- a cell of 0 is emptied
abbrev pub tidied : Option ℕ → Option ℕ
tidied cell = if unwrap_or cell 0 == 0 then None else cell

-- the cells of these counts: one without its bit is empty
abbrev pub masked : ℕ → List ℕ → List (Option ℕ)
masked rows [] = []
masked rows (count ∷ counts) = (if rows % 2 == 1 then Some count else None) ∷ masked (rows / 2) counts

-- a page has a count for each cell, and that of an empty one is 0
abbrev pub IsMasked : ℕ → List ℕ → Type 0
IsMasked rows counts = (length counts ≡ page_size) × ((at : ℕ) → bit_at rows at ≡ 0 → get_or counts at 0 ≡ 0)

-- the page, and one without cells where there is none
abbrev pub page_of : {X : Type 0} → Option (List (Option X)) → List (Option X)
page_of page = unwrap_or page []

module _ {P K X : Type 0} (key : P → ℕ → K) where
  -- the entries of the first cells of a page, before others
  unfoldable pub cells : P → ℕ → List (Option X) → List (K × X) → List (K × X)
  cells name zero page rest = rest
  cells name (suc n) page rest = cell (key name n) (cell_at page n) (cells name n page rest)

  -- the entries of all pages, which have this many cells each
  unfoldable pub flat : ℕ → List (P × List (Option X)) → List (K × X)
  flat size [] = []
  flat size (e ∷ es) = cells e.0 size e.1 (flat size es)

-- the strength of the handles that this cell counts
abbrev pub strength_at : ℕ → Strength
strength_at at = if nat_lt at 64 then Strong else Weak

-- the kind of the handles that this cell of the part counts
abbrev pub kind_at : Part → ℕ → HandleKind
kind_at part at = record {
  buffer = record { collection = part.collection; index = part.number * 64 + at % 64 };
  strength = strength_at at;
}

-- the hold that this cell of the owner's page counts
abbrev pub hold_at : Owner → ℕ → Hold
hold_at owner at = record { client = owner.client; kind = kind_at owner.part at }

-- the part that has the kind
abbrev pub part_of : HandleKind → Part
part_of kind = record { collection = kind.buffer.collection; number = kind.buffer.index / 64 }

-- whose page counts the hold
abbrev pub owner_of : Hold → Owner
owner_of hold = record { client = hold.client; part = part_of hold.kind }

-- the cell of this strength, for the buffer at this place of the part
abbrev pub slot_for : ℕ → Strength → ℕ
slot_for place Strong = place
slot_for place Weak = place + 64

-- the cell that counts the kind
abbrev pub slot_of : HandleKind → ℕ
slot_of kind = slot_for (kind.buffer.index % 64) kind.strength

-- the parts are one
abbrev pub same_part : Part → Part → Bool
same_part a b = a.collection == b.collection && a.number == b.number

-- the owners are one
abbrev pub same_owner : Owner → Owner → Bool
same_owner a b = a.client == b.client && same_part a.part b.part

-- the handles that clients have open, by hold
abbrev pub rows_in : List (Owner × List (Option ℕ)) → List (Hold × ℕ)
rows_in pages = flat hold_at page_size pages
