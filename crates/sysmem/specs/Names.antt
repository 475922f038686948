-- The names of codes, refusals, misuses and causes, as their bytes.
use Rattle.std.specs.Prelude.{ℕ, ◌==◌, if◌then◌else◌, List, [], codes, Option, Some, None}
use Rattle.std.specs.Option.{option_map_or}
use Rattle.sm_names.specs.declared.outcomes.Misuse.{Misuse}
use Rattle.sm_names.specs.declared.outcomes.Refusal.{Refusal}
use Rattle.sm_names.specs.Numbers.{misuse_name, refusal_name}

-- the name of the code, or nothing
abbrev pub code_name : ℕ → List ℕ
code_name number =
    if number == 0 then codes "done" else
    (if number == 1 then codes "not open" else
    (if number == 2 then codes "already open" else
    (if number == 3 then codes "bad limits" else
    (if number == 4 then codes "bad call" else
    (if number == 5 then codes "history full" else
    (if number == 6 then codes "no memory" else
    (if number == 7 then codes "not failed" else
    (if number == 8 then codes "no name" else
    (if number == 9 then codes "no client" else [])))))))))

-- the refusal with this number
abbrev pub refusal_at : ℕ → Option Refusal
refusal_at number =
    if number == 1 then Some Refusal.NoSuchClient else
    (if number == 2 then Some Refusal.ClientShut else
    (if number == 3 then Some Refusal.NoSuchEnd else
    (if number == 4 then Some Refusal.InTransit else
    (if number == 5 then Some Refusal.WrongKind else
    (if number == 6 then Some Refusal.TooManyNodes else
    (if number == 7 then Some Refusal.TooManyCollections else
    (if number == 8 then Some Refusal.TrackersFull else
    (if number == 9 then Some Refusal.NoSuchHandle else
    (if number == 10 then Some Refusal.TooManyHandles else None)))))))))

-- the misuse with this number
abbrev pub misuse_at : ℕ → Option Misuse
misuse_at number =
    if number == 1 then Some Misuse.SecondConstraints else
    (if number == 2 then Some Misuse.LateWeak else
    (if number == 3 then Some Misuse.LateWeakOk else
    (if number == 4 then Some Misuse.WeakNotOk else
    (if number == 5 then Some Misuse.TooManyNodeTrackers else None))))

-- the name of the cause, or nothing
abbrev pub cause_name : ℕ → List ℕ
cause_name number =
    if number == 0 then codes "lost" else
    (if number == 1 then codes "nostrong" else
    (if number == 11 then codes "misused SecondConstraints" else
    (if number == 12 then codes "misused LateWeak" else
    (if number == 13 then codes "misused LateWeakOk" else
    (if number == 14 then codes "misused WeakNotOk" else
    (if number == 15 then codes "misused TooManyNodeTrackers" else
    (if number == 20 then codes "failed NoStrong" else
    (if number == 21 then codes "failed NoBuffers" else
    (if number == 22 then codes "failed TooManyBuffers" else
    (if number == 23 then codes "failed PoolFull" else
    (if number == 24 then codes "failed TooFew" else
    (if number == 25 then codes "failed TooSmall" else []))))))))))))

-- the name of the number of a code, a refusal, a misuse or a cause, or nothing
abbrev pub name : ℕ → ℕ → List ℕ
name about number =
    if about == 0 then code_name number else
    (if about == 1 then option_map_or refusal_name (refusal_at number) [] else
    (if about == 2 then option_map_or misuse_name (misuse_at number) [] else
    (if about == 3 then cause_name number else [])))
