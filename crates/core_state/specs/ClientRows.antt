-- What an event does to the row of one client. No public clause cites this module.
use Rattle.std.specs.Prelude.{ℕ, Bool, true, false, ◌==◌, if◌then◌else◌, List, [], ◌∷◌, ◌++◌, map, drop}
use Rattle.std.specs.List.{cons_option}
use Rattle.sm_names.specs.declared.messages.Parcel.{Parcel}
use Rattle.core_state.specs.declared.clients.Queue.{Queue}
use Rattle.core_state.specs.declared.clients.Standing.{Standing}
use Rattle.core_state.specs.declared.clients.Standing.TheVariants.{Open, OpenWith, Shut, ShutWith}
use Rattle.core_state.specs.State.{Client}

-- the rows, where that of this client was changed so
abbrev pub with_client : ℕ → (Client → Client) → List Client → List Client
with_client client change clients = map (λ c. if c.id == client then change c else c) clients

-- the client, shut
abbrev pub now_shut : Client → Client
now_shut c = record c { shut = true }

-- the client, with one more parcel behind those that wait
abbrev pub with_parcel : Parcel → Client → Client
with_parcel parcel c = record c { waiting = c.waiting ++ parcel ∷ [] }

-- the client, without the first parcel that waited
abbrev pub without_first : Client → Client
without_first c = record c { waiting = drop 1 c.waiting }

-- a client that stands so is shut
abbrev pub is_shut_so : Standing → Bool
is_shut_so Open = false
is_shut_so (OpenWith queue) = false
is_shut_so Shut = true
is_shut_so (ShutWith queue) = true

-- the parcels of a queue
abbrev pub queued : Queue → List Parcel
queued queue = cons_option queue.first queue.rest.items

-- the parcels that wait for it
abbrev pub parcels_in : Standing → List Parcel
parcels_in Open = []
parcels_in (OpenWith queue) = queued queue.value
parcels_in Shut = []
parcels_in (ShutWith queue) = queued queue.value
