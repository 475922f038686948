-- What callers see of intervals that lie in blocks.
use Rattle.std.specs.Prelude.{◌≡◌, ℕ, ◌+◌, ◌-◌, ◌*◌, ◌<◌, ◌≤◌, List, [], All, length, take, get_or}
use Rattle.std.specs.List.{flat_map}
use Rattle.buffer_pool.specs.declared.block.TheConstants.{HALF, FULL}
use Rattle.sm_names.specs.declared.keys.Interval.{Interval}
use Rattle.buffer_pool.specs.declared.blocks.Spot.{Spot}
use Rattle.buffer_pool.specs.declared.blocks.Reach.{Reach}
use Rattle.buffer_pool.specs.Fitting.{rooms}
use Rattle.buffer_pool.specs.Holes.{end_of}

-- the intervals, and how many there can be before there have to be more blocks
pub record BlockRows : Type 0 where
  pub items : List Interval
  pub capacity : ℕ

-- the intervals by blocks, and how many blocks are spare
pub record Blocked : Type 0 where
  pub lists : List (List Interval)
  pub spares : ℕ

-- how many intervals there can be before there have to be more blocks: while one more is put in, a block is spare, or two can be made one
abbrev pub capacity_of : Blocked → ℕ
capacity_of b = (length b.lists + b.spares - 1) * HALF

-- all intervals, block by block
abbrev pub all_in : List (List Interval) → List Interval
all_in lists = flat_map (λ (b : List Interval). b) lists

-- how many intervals lie before a spot
abbrev pub spot_index : List (List Interval) → Spot → ℕ
spot_index lists spot = length (all_in (take spot.block lists)) + spot.offset

-- an interval lies at the spot
abbrev pub HasIntervalAt : List (List Interval) → Spot → Type 0
HasIntervalAt lists spot = (spot.block < length lists) × (spot.offset < length (get_or lists spot.block []))

-- an interval can be put in before the spot: in a block, or in a new one behind the last
abbrev pub IsInsertSpot : List (List Interval) → Spot → Type 0
IsInsertSpot lists spot = (spot.block ≤ length lists) × (spot.offset ≤ length (get_or lists spot.block []))

-- an interval lies at the spot, or none lies behind it
pub record IsNextOrEnd (lists : List (List Interval)) (spot : Spot) : Type 0 where
  pub within : IsInsertSpot lists spot
  pub taken : spot_index lists spot < length (all_in lists) → HasIntervalAt lists spot

-- a change at a spot made these intervals, and left the blocks before it alone
pub record IsChanged (old new : Blocked) (spot : Spot) (items : List Interval) : Type 0 where
  pub items_are : all_in new.lists ≡ items
  pub front : take spot.block new.lists ≡ take spot.block old.lists
  pub capacity : capacity_of new ≡ capacity_of old

-- the interval has a page, and its end is a number of 32 bits
abbrev pub IsSane : Interval → Type 0
IsSane i = (0 < i.pages) × (end_of i < 4294967296)

-- what the fields of a block keep true
pub record IsBlock (greatest room : ℕ) (items : List Interval) : Type 0 where
  pub has_room : FULL ≤ room
  pub few : length items ≤ FULL
  pub bound : All (λ h. h.pages ≤ greatest) items

-- what the fields of intervals in blocks keep true
pub record AreBlocks (used spare : List (List Interval)) (used_room spare_room : ℕ) : Type 0 where
  pub some : All (λ b. 0 < length b) used
  pub empty : All (λ b. b ≡ []) spare
  pub has_used_room : length used + length spare ≤ used_room
  pub has_spare_room : length used + length spare ≤ spare_room

-- where a search can start: it is known how many intervals lie in the blocks before, and none there has this many pages
pub record IsPassed (pages : ℕ) (reach : Reach) (lists : List (List Interval)) : Type 0 where
  pub some : 1 ≤ pages
  pub within : reach.block ≤ length lists
  pub before : reach.before ≡ length (all_in (take reach.block lists))
  pub passed : rooms pages (all_in (take reach.block lists)) ≡ 0
