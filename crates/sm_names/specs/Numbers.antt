-- The numbers and the names of refusals and misuses. Both are this profile's own.
use Rattle.std.specs.Prelude.{ℕ, List, codes}
use Rattle.sm_names.specs.declared.outcomes.Misuse.{Misuse}
use Rattle.sm_names.specs.declared.outcomes.Refusal.{Refusal}

-- the number of the refusal
abbrev pub refusal_number : Refusal → ℕ
refusal_number Refusal.NoSuchClient = 1
refusal_number Refusal.ClientShut = 2
refusal_number Refusal.NoSuchEnd = 3
refusal_number Refusal.InTransit = 4
refusal_number Refusal.WrongKind = 5
refusal_number Refusal.TooManyNodes = 6
refusal_number Refusal.TooManyCollections = 7
refusal_number Refusal.TrackersFull = 8
refusal_number Refusal.NoSuchHandle = 9
refusal_number Refusal.TooManyHandles = 10

-- the name of the refusal, as its bytes
abbrev pub refusal_name : Refusal → List ℕ
refusal_name Refusal.NoSuchClient = codes "NoSuchClient"
refusal_name Refusal.ClientShut = codes "ClientShut"
refusal_name Refusal.NoSuchEnd = codes "NoSuchEnd"
refusal_name Refusal.InTransit = codes "InTransit"
refusal_name Refusal.WrongKind = codes "WrongKind"
refusal_name Refusal.TooManyNodes = codes "TooManyNodes"
refusal_name Refusal.TooManyCollections = codes "TooManyCollections"
refusal_name Refusal.TrackersFull = codes "TrackersFull"
refusal_name Refusal.NoSuchHandle = codes "NoSuchHandle"
refusal_name Refusal.TooManyHandles = codes "TooManyHandles"

-- the number of the misuse
abbrev pub misuse_number : Misuse → ℕ
misuse_number Misuse.SecondConstraints = 1
misuse_number Misuse.LateWeak = 2
misuse_number Misuse.LateWeakOk = 3
misuse_number Misuse.WeakNotOk = 4
misuse_number Misuse.TooManyNodeTrackers = 5

-- the name of the misuse, as its bytes
abbrev pub misuse_name : Misuse → List ℕ
misuse_name Misuse.SecondConstraints = codes "SecondConstraints"
misuse_name Misuse.LateWeak = codes "LateWeak"
misuse_name Misuse.LateWeakOk = codes "LateWeakOk"
misuse_name Misuse.WeakNotOk = codes "WeakNotOk"
misuse_name Misuse.TooManyNodeTrackers = codes "TooManyNodeTrackers"
