-- What a place owns: the core that is kept there, and the right to free its block.
use Rattle.std.specs.Prelude.{Option, Some, None}
use base.Fml.{Fml, ftrue}
use base.Stored.{Coded}
use denote.RawPtr.{Ptr}
use Rattle.std.specs.Box.Ownership.{box_owns}
use Rattle.std.specs.Coded.{coded_option}
use Rattle.std.specs.Global.{Global}
use Rattle.std.specs.contracts.impls.GlobalAllocator.TheImpl.{ghosts}
use Rattle.core_state.specs.State.{State}
use Rattle.lifetime_core.specs.contracts.machine.Core.{the_row}

-- a core that is kept is owned as a box owns it; where none is kept, nothing is
abbrev pub owns_core : Global → Ptr → Option State → Fml
owns_core alloc at None = ftrue
owns_core alloc at (Some state) = box_owns (ghosts.dealloc_token alloc) the_row at state

-- how the logic stores the state of a core, or none
abbrev pub state_coded : Coded (Option State)
state_coded = coded_option the_row.coded
