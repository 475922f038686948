-- Functions on lists and options that the other files share.
use Rattle.std.specs.Prelude.{ℕ, ◌+◌, Bool, nat_lt, if◌then◌else◌, List, [], ◌∷◌, Option, Some, None}
use Rattle.std.specs.Option.{option_map_or}

-- how many elements pass the test. A new first element is one more step
abbrev pub times : {A : Type 0} → (A → Bool) → List A → ℕ
times test [] = 0
times test (x ∷ xs) = if test x then times test xs + 1 else times test xs

-- the first value that is there
abbrev pub first_some : {A : Type 0} → List (Option A) → Option A
first_some [] = None
first_some (o ∷ os) = option_map_or Some o (first_some os)

-- the value, where the test holds
abbrev pub when : {A : Type 0} → Bool → A → Option A
when b x = if b then Some x else None

-- the last element that passes the test
abbrev pub last_match : {A : Type 0} → (A → Bool) → List A → Option A
last_match test [] = None
last_match test (x ∷ xs) = option_map_or Some (last_match test xs) (if test x then Some x else None)

-- the list with the element before the first one whose number is no smaller
abbrev pub insert_by : {A : Type 0} → (A → ℕ) → A → List A → List A
insert_by number x [] = x ∷ []
insert_by number x (y ∷ ys) =
    if nat_lt (number y) (number x) then y ∷ insert_by number x ys else x ∷ y ∷ ys

-- the elements, sorted by their numbers
abbrev pub sorted_by : {A : Type 0} → (A → ℕ) → List A → List A
sorted_by number [] = []
sorted_by number (x ∷ xs) = insert_by number x (sorted_by number xs)
