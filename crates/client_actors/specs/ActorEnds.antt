-- Actors that run side by side.
use Rattle.std.specs.Prelude.{ℕ, ◌≡◌, List, [], map, Option, Some, None, slice_index_or}
use Rattle.std.specs.List.{AllZip}
use Rattle.client_ends.specs.Clients.{Seen}
use Rattle.client_vanish.specs.declared.gathering.Holding.{Holding}
use Rattle.client_vanish.specs.Vanishings.{held_in, sorted}
use Rattle.actor_scripts.specs.declared.step.ActorScript.{ActorScript}
use Rattle.client_actors.specs.declared.gate.ActorEnd.{ActorEnd}
use Rattle.client_actors.specs.ActorSteps.{HasFinished, HasStopped}

-- the client joined, and made no event since
pub record HasJoined (client : Seen) : Type 0 where
  pub own : client.own ≡ []
  pub share : client.share ≡ 1

-- the id of its client
abbrev pub end_id : {E S W : Type 0} → ActorEnd E S W → ℕ
end_id (ActorEnd.Wrecked wreck) = wreck.client.id
end_id (ActorEnd.Stopped client held fault) = client.id
end_id (ActorEnd.NotStarted client) = client.id

-- it is gone and has run the script, each step at most so many times more, or was stopped in it, or did not start. Labels stand for these
-- clients
abbrev pub IsEndOf : {E S W : Type 0} → List ℕ → ℕ → ActorScript → ActorEnd E S W → Type 0
IsEndOf clients most script (ActorEnd.Wrecked wreck) = HasFinished clients most script.steps.items wreck
IsEndOf clients most script (ActorEnd.Stopped client held fault) = HasStopped clients most script.steps.items client (held_in held)
IsEndOf clients most script (ActorEnd.NotStarted client) = HasJoined client

-- one end for each script, in order, where labels stand for the clients of these ends
abbrev pub HaveRun : {E S W : Type 0} → ℕ → List ActorScript → List (ActorEnd E S W) → Type 0
HaveRun most scripts ends = AllZip (IsEndOf (map end_id ends) most) scripts ends

-- its client joined, made no event since, and holds nothing
abbrev pub IsIdle : {E S W : Type 0} → Holding E S W → Type 0
IsIdle (Holding.Present client held) = HasJoined client × (held_in held ≡ sorted [])
IsIdle (Holding.Wrecked wreck) = ⊥

-- it did not start yet
abbrev pub Waits : {E S W : Type 0} → ActorEnd E S W → Type 0
Waits (ActorEnd.Wrecked wreck) = ⊥
Waits (ActorEnd.Stopped client held fault) = ⊥
Waits (ActorEnd.NotStarted client) = HasJoined client

-- an actor lies there, and did not start yet
abbrev pub CanStart : {E S W : Type 0} → Option (ActorEnd E S W) → Type 0
CanStart None = ⊥
CanStart (Some end) = Waits end

-- whose actor lies there
abbrev pub id_there : {E S W : Type 0} → Option (ActorEnd E S W) → ℕ
id_there None = 0
id_there (Some end) = end_id end

-- the end of this script lies there
abbrev pub IsEndThere : {E S W : Type 0} → List ℕ → ℕ → ActorScript → Option (ActorEnd E S W) → Type 0
IsEndThere clients most script None = ⊥
IsEndThere clients most script (Some end) = IsEndOf clients most script end

-- the end of the script of this number lies there
pub record IsEndAt {E S W : Type 0} (clients : List ℕ) (most : ℕ) (scripts : List ActorScript) (number : ℕ)
    (there : Option (ActorEnd E S W)) : Type 0 where
  pub end : (d : ActorScript) → IsEndThere clients most (slice_index_or scripts number d) there
