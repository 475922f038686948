-- All parts, against the record.
use Rattle.std.specs.Prelude.{ℕ, ◌≡◌, ◌≤◌, ◌<◌, List, map, length, Option, Some, None, ◌⊎◌, ◌-◌, ⊤}
use Rattle.std.specs.List.{All, Contains, count_by, sum_by}
use Rattle.sm_names.specs.declared.keys.Strength.{Strength}
use Rattle.sm_names.specs.declared.keys.Strength.TheVariants.{Strong, Weak}
use Rattle.sm_names.specs.Legality.{IsLegal}
use Rattle.sm_names.specs.Marks.{Entry}
use Rattle.sm_names.specs.Sameness.{same_strength}
use Rattle.sm_names.specs.Timelines.{timeline}
use Rattle.event_laws.specs.HandleSums.{all_open}
use Rattle.event_laws.specs.Lines.{lines_of}
use Rattle.event_laws.specs.declared.own.Own.{Own}
use Rattle.event_laws.specs.Members.{AreAmong, IsFirstAbsent, joined}
use Rattle.event_laws.specs.Parts.{DifferAt, part}
use Rattle.service_lock.specs.States.{View}
use Rattle.client_ends.specs.Clients.{Grip}
use Rattle.client_vanish.specs.declared.fault.GatherFault.{GatherFault}
use Rattle.client_vanish.specs.declared.gathering.Holding.{Holding}
use Rattle.client_vanish.specs.declared.gathering.Report.{Report}

-- whose part it is
abbrev pub id_of : {E S W : Type 0} → Holding E S W → ℕ
id_of (Holding.Present client held) = client.id
id_of (Holding.Wrecked wreck) = wreck.client.id

-- its client's own list
abbrev pub own_of : {E S W : Type 0} → Holding E S W → List Own
own_of (Holding.Present client held) = client.own
own_of (Holding.Wrecked wreck) = wreck.client.own

-- the handles of this strength that are there
abbrev pub present_handles : {E S W : Type 0} → Strength → Holding E S W → ℕ
present_handles strength (Holding.Present client held) =
    count_by (λ (h : Grip). same_strength strength h.strength) held.handles.items
present_handles strength (Holding.Wrecked wreck) =
    count_by (λ (h : Grip). same_strength strength h.strength) wreck.refused.handles

-- of all parts
abbrev pub all_present_handles : {E S W : Type 0} → Strength → List (Holding E S W) → ℕ
all_present_handles strength parts = sum_by (present_handles strength) parts

-- whose parts they are
abbrev pub ids_of : {E S W : Type 0} → List (Holding E S W) → List ℕ
ids_of parts = map id_of parts

-- the own list is the client's part of the record
abbrev pub Matches : {E S W : Type 0} → List Entry → Holding E S W → Type 0
Matches history p = own_of p ≡ part (id_of p) history

-- of two, that of the lesser client
abbrev pub IsFound : Option (ℕ × ℕ) → ℕ → ℕ → ℕ × ℕ → Type 0
IsFound None client event now = now ≡ (client, event)
IsFound (Some found) client event now =
    ((found.0 ≤ client) × (now ≡ found)) ⊎ ((client < found.0) × (now ≡ (client, event)))

-- the own list of one that is here is not its client's part, this is the first event where they differ, and the own list
-- of each with a lesser id is its client's part
pub record IsFirstMismatch {E S W : Type 0} (history : List Entry) (parts : List (Holding E S W)) (event : ℕ) : Type 0 where
  pub its : Holding E S W
  pub there : Contains parts its
  pub differs : DifferAt event (own_of its) (part (id_of its) history)
  pub before : All (λ p. id_of p < id_of its → Matches history p) parts

-- all open handles of both strengths are here
abbrev pub AllHere : {E S W : Type 0} → View → List (Holding E S W) → Type 0
AllHere s parts =
    (all_present_handles Strong parts ≡ all_open (timeline s.pool s.history) Strong)
    × (all_present_handles Weak parts ≡ all_open (timeline s.pool s.history) Weak)

-- the record is a legal history, all clients that joined are here, and so are all open handles, each own list is its
-- client's part, and the report says what is on record
pub record IsGatherReport {E S W : Type 0} (s : View) (all : List (Holding E S W)) (report : Report) : Type 0 where
  pub legal : IsLegal s.pool s.limits s.history
  pub events : report.events ≡ length s.history
  pub members : AreAmong (ids_of all) (joined s.history)
  pub own_lists : All (Matches s.history) all
  pub lines : report.lines.items ≡ lines_of s.history
  pub strong : report.strong ≡ all_open (timeline s.pool s.history) Strong
  pub weak : report.weak ≡ all_open (timeline s.pool s.history) Weak
  pub handles : AllHere s all

-- this many are open and not here, 0 if more are here than are open
abbrev pub not_here : {E S W : Type 0} → View → Strength → List (Holding E S W) → ℕ
not_here s strength parts = all_open (timeline s.pool s.history) strength - all_present_handles strength parts

-- all clients that joined are here, but their handles are not just the open ones: these are missing
pub record AreOpen {E S W : Type 0} (s : View) (all : List (Holding E S W)) (strong weak : ℕ) : Type 0 where
  pub members : AreAmong (ids_of all) (joined s.history)
  pub strong_is : strong ≡ not_here s Strong all
  pub weak_is : weak ≡ not_here s Weak all
  pub some : AllHere s all → ⊥

-- all clients that joined and all open handles are here, but some own list is not its client's part
pub record IsMismatch {E S W : Type 0} (s : View) (all : List (Holding E S W)) (event : ℕ) : Type 0 where
  pub members : AreAmong (ids_of all) (joined s.history)
  pub handles : AllHere s all
  pub first : IsFirstMismatch s.history all event

-- what each fault asserts holds
abbrev pub IsSo : {E S W : Type 0} → View → List (Holding E S W) → GatherFault → Type 0
IsSo s parts GatherFault.NoMemory = ⊤
IsSo s parts (GatherFault.MissingClient client) = IsFirstAbsent (ids_of parts) s.history client
IsSo s parts (GatherFault.OpenValues strong weak) = AreOpen s parts strong weak
IsSo s parts (GatherFault.RecordMismatch event) = IsMismatch s parts event
