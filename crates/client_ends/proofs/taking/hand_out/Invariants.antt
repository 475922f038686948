use Rattle.std.proofs.Common.{◌≡◌, ◌≤◌, ◌+◌, ◌-◌, ◌++◌, length, vec_len}
use Rattle.std.specs.Prelude.{vec_capacity}
use Rattle.sm_names.specs.declared.rules.TheConstants.{MAX_BUFFERS}
use Rattle.event_laws.specs.HandleSums.{indices_in}
use Rattle.service_lock.specs.Accounts.{SameHandles}
use Rattle.service_lock.specs.Takes.{handful}
use Rattle.client_ends.specs.Taking.{grips_at}
use Rattle.client_ends.proofs.TakeLaws.{indices_from}
use Rattle.client_ends.proofs.taking.hand_out.Given as goal

-- the units of the handles that are still to come are there, and the handles before them were handed out
abbrev pub invariant-handing : goal.invariant-handing
invariant-handing g l = record {
  units : SameHandles l.account.units (handful l.taken.strength (length (indices_from l.index (MAX_BUFFERS - l.index) l.taken.set)));
  events : l.account.units.events ≡ l.fn.account.units.events;
  own : l.account.own ≡ l.fn.account.own;
  handles : l.handles.items ++ grips_at l.client l.taken (indices_from l.index (MAX_BUFFERS - l.index) l.taken.set)
      ≡ grips_at l.client l.taken
      (indices_in l.taken.set);
  few : vec_len l.handles ≤ l.index;
  room : MAX_BUFFERS ≤ vec_capacity l.handles;
  parts : l.state.parts + vec_len l.handles ≡ l.fn.state.parts;
}
