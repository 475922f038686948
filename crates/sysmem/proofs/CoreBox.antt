-- A box with a core, and a place that keeps one: they own the same.
use Rattle.sysmem.proofs.Common.{Bx, RattleType, [], dnil, plain, tnil}
use mir.Syntax.{impl}
use denote.Signature.{Slot}
use Rattle.std_heap.specs.contracts.GlobalAllocator.TheImpl.{ghosts, dict}
use Rattle.std_heap.specs.contracts.Global as heap
use Rattle.std_heap.proofs.Global.TheLaws as heap_laws
use Rattle.lifetime_core.specs.contracts.machine.Core as core
use Rattle.lifetime_core.proofs.machine.Core.TheLaws as core_laws
use Rattle.sysmem.specs.contracts.place.CorePlace as place
use Rattle.sysmem.specs.contracts.raw.Unboxed as unboxed

-- a box of a core: the row of the core, its laws, and the allocator that frees the box
abbrev pub E : Bx
E = record {
  row = core.the_row;
  laws = core_laws.the_row_laws;
  al = record { row = heap.the_row; laws = heap_laws.the_row_laws; g = ghosts; d = dict; drops = impl [] tnil dnil };
}

-- the type of a handle of the allocator
abbrev pub Handle : RattleType
Handle = heap.the_row

-- the type of a place, which keeps a core or nothing
abbrev pub Kept : RattleType
Kept = place.the_row

-- the type of a box of a core that is taken apart into its pointer and its allocator
abbrev pub Loosened : RattleType
Loosened = unboxed.the_row core.the_row heap.the_row ghosts

-- the slot of a signature for a handle of the allocator
abbrev pub a_handle : Slot 0
a_handle = plain (λ _. Handle)

-- the slot of a signature for a place
abbrev pub a_place : Slot 0
a_place = plain (λ _. Kept)

-- the slot of a signature for a box that is taken apart
abbrev pub a_loosened : Slot 0
a_loosened = plain (λ _. Loosened)
