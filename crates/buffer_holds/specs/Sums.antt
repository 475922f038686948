-- The rows and sums of all pages, and what becomes of them when one changes.
use Rattle.std.specs.List.{IsDistinct}
use Rattle.std.specs.Map.{lookup, keys_of}
use Rattle.std.specs.Prelude.{◌≡◌, ◌<◌, ◌≤◌, ◌+◌, ℕ, Bool, if◌then◌else◌, List, [], Option, None, is_some, map, Some, slice_get, sum_by, unwrap_or}
use Rattle.buffer_holds.specs.declared.kinds.HandleKind.{HandleKind}
use Rattle.buffer_holds.specs.declared.names.Owner.{Owner}
use Rattle.buffer_holds.specs.declared.names.Part.{Part}
use Rattle.buffer_holds.specs.declared.sums.Sum.{Sum}
use Rattle.buffer_holds.specs.Pages.{cell_at, count_in, flat, kind_at, page_of, page_size, same_owner, same_part, IsBlank}
use Rattle.buffer_holds.specs.Rows.{Resets}

-- the pages of clients, and the sums of parts
abbrev pub Pages : Type 0
Pages = List (Owner × List (Option ℕ))

abbrev pub Sums : Type 0
Sums = List (Part × Sum)

-- the page of this owner, and one without cells where there is none
abbrev pub page_in : Pages → Owner → List (Option ℕ)
page_in rows owner = page_of (lookup (same_owner owner) rows)

-- a sum of nothing
abbrev pub no_sum : Sum
no_sum = record { clients = 0; totals = []; moving = [] }

abbrev pub sum_of : Option Sum → Sum
sum_of sum = unwrap_or sum no_sum

-- the sum of this part
abbrev pub sum_in : Sums → Part → Sum
sum_in sums part = sum_of (lookup (same_part part) sums)

-- the pages of what is in parcels
abbrev pub parcel_pages : Sums → List (Part × List (Option ℕ))
parcel_pages sums = map (λ e. (e.0, e.1.moving)) sums

-- the handles in parcels, by kind
abbrev pub parcels_in : Sums → List (HandleKind × ℕ)
parcels_in sums = flat kind_at page_size (parcel_pages sums)

-- what a page has in this cell of the part
abbrev pub held : Part → ℕ → Owner × List (Option ℕ) → ℕ
held part at e = if same_part e.0.part part then count_in e.1 at else 0

-- 1 for a page of the part
abbrev pub of_part : Part → Owner × List (Option ℕ) → ℕ
of_part part e = if same_part e.0.part part then 1 else 0

-- 1 where there is a page
abbrev pub one_page : Bool → ℕ
one_page there = if there then 1 else 0

-- no part of a newer collection has a sum
abbrev pub IsNewest : ℕ → Sums → Type 0
IsNewest newest sums = (part : Part) → newest < part.collection → lookup (same_part part) sums ≡ None

-- each sum is that of the pages
pub record Agrees (newest : ℕ) (rows : Pages) (sums : Sums) : Type 0 where
  pub rows_distinct : IsDistinct same_owner (keys_of rows)
  pub sums_distinct : IsDistinct same_part (keys_of sums)
  pub totals : (part : Part) (at : ℕ) → count_in (sum_in sums part).totals at ≡ sum_by (held part at) rows + count_in (sum_in sums part).moving at
  pub clients : (part : Part) → (sum_in sums part).clients ≡ sum_by (of_part part) rows
  pub newer : IsNewest newest sums

-- no more than this many of one kind are open
abbrev pub AreUpTo : ℕ → Sums → Type 0
AreUpTo most sums = (part : Part) (at : ℕ) → count_in (sum_in sums part).totals at ≤ most

-- the page of this owner alone changed: whether it is there, and its cells
pub record PageBecomes (old new : Pages) (owner : Owner) (there : Bool) (cells : ℕ → Option ℕ) : Type 0 where
  pub now : Option (List (Option ℕ))
  pub resets : Resets same_owner old new owner (lookup (same_owner owner) old) now
  pub is_there : is_some now ≡ there
  pub cells_are : (at : ℕ) → cell_at (page_of now) at ≡ cells at

-- the sum of this part alone changed: how many clients have a page, and its counts
pub record SumBecomes (old new : Sums) (part : Part) (clients : ℕ) (totals moving : ℕ → ℕ) : Type 0 where
  pub now : Option Sum
  pub resets : Resets same_part old new part (lookup (same_part part) old) now
  pub clients_are : (sum_of now).clients ≡ clients
  pub totals_are : (at : ℕ) → count_in (sum_of now).totals at ≡ totals at
  pub moving_are : (at : ℕ) → count_in (sum_of now).moving at ≡ moving at

-- all counts are as they were, and so is who has a row
pub record IsAlike (rows rows' : Pages) (sums sums' : Sums) : Type 0 where
  pub cells : (owner : Owner) (at : ℕ) → cell_at (page_in rows' owner) at ≡ cell_at (page_in rows owner) at
  pub totals : (part : Part) (at : ℕ) → count_in (sum_in sums' part).totals at ≡ count_in (sum_in sums part).totals at
  pub moving : (part : Part) (at : ℕ) → count_in (sum_in sums' part).moving at ≡ count_in (sum_in sums part).moving at
  pub sent : sum_by (λ (p : HandleKind × ℕ). p.1) (parcels_in sums') ≡ sum_by (λ (p : HandleKind × ℕ). p.1) (parcels_in sums)

-- a page without counts stands at this place
abbrev pub StandsBlank : Pages → ℕ → Owner → Type 0
StandsBlank pages place owner = (page : List (Option ℕ)) × (slice_get pages place ≡ Some (owner, page)) × IsBlank page

-- the sum of one client of whom nothing is open stands at this place
abbrev pub StandsLast : Sums → ℕ → Part → Type 0
StandsLast sums place part =
    (sum : Sum) × (slice_get sums place ≡ Some (part, sum)) × (sum.clients ≡ 1) × IsBlank sum.totals × IsBlank sum.moving
