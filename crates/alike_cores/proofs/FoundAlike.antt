-- What is read alike of what is found alike.
use Rattle.alike_cores.proofs.Common.{None, Option, Some, ap, option_and_then, option_map, option_map_or, refl, sym, ◌∙◌, ◌≡◌}

-- By cases: both are there, and read so, or neither is.
pub read-alike : {A B : Type 0} (one other : A → A) (read : A → B) (o p : Option A) → option_map one o ≡ option_map other p →
    option_map (λ x. read (one x)) o ≡ option_map (λ x. read (other x)) p
read-alike {A = A} {B = B} one other read o p same = sym (twice one o) ∙ (ap (option_map read) same ∙ twice other p)
  where
    -- by cases on the option
    twice : (f : A → A) (q : Option A) → option_map read (option_map f q) ≡ option_map (λ x. read (f x)) q
    twice f None = refl
    twice f (Some x) = refl

-- The same where nothing may be read.
pub read_then-alike : {A B : Type 0} (one other : A → A) (read : A → Option B) (o p : Option A) → option_map one o ≡ option_map other p →
    option_and_then (λ x. read (one x)) o ≡ option_and_then (λ x. read (other x)) p
read_then-alike {A = A} {B = B} one other read o p same = sym (twice one o) ∙ (ap (option_and_then read) same ∙ twice other p)
  where
    -- by cases on the option
    twice : (f : A → A) (q : Option A) → option_and_then read (option_map f q) ≡ option_and_then (λ x. read (f x)) q
    twice f None = refl
    twice f (Some x) = refl

-- And where something else is read if nothing is there.
pub read_or-alike : {A B : Type 0} (one other : A → A) (read : A → B) (none : B) (o p : Option A) → option_map one o ≡ option_map other p →
    option_map_or (λ x. read (one x)) o none ≡ option_map_or (λ x. read (other x)) p none
read_or-alike {A = A} {B = B} one other read none o p same =
    sym (twice one o) ∙ (ap (λ (q : Option A). option_map_or read q none) same ∙ twice other p)
  where
    -- by cases on the option
    twice : (f : A → A) (q : Option A) → option_map_or read (option_map f q) none ≡ option_map_or (λ x. read (f x)) q none
    twice f None = refl
    twice f (Some x) = refl
