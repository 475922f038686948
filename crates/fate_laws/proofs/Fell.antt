-- How nodes fell, by the marks and by what is told of them.
use Rattle.fate_laws.proofs.Common.{Birth, Bool, Called, Ended, Fault, GoneNode, List, Loss, Mark, Node, NodeKey, None, Option, Some}
use Rattle.fate_laws.proofs.Common.{Timeline, [], ap, cond, either_way, false, fault, fault_fallen, filter, gone, inl, inr, list_any, map}
use Rattle.fate_laws.proofs.Common.{not, option_map, option_map_or, refl, same_key, sym, true, ◌&&◌, ◌++◌, ◌∙◌, ◌∷◌, ◌≡◌}
use Rattle.std.proofs.lemmas.List.Folds.{find-append}
use Rattle.std.specs.List.{find}
use Rattle.std.specs.Option.{option_or}
use Rattle.sm_names.specs.Marks.{Allocated}
use Rattle.sm_names.proofs.SamenessLaws.{same_key-true}
use Rattle.history_laws.proofs.GoneLaws.{gone_stays}

-- how the node fell by the marks, if it did: by its fault, or without one
abbrev pub fell : Timeline → NodeKey → Option (Option Fault)
fell marks key = cond (gone marks key) (Some (fault marks key)) None

-- the nodes that are told of fell as the marks say, and no other did
abbrev pub AreToldOf : List GoneNode → Timeline → Type 0
AreToldOf falls marks = (key : NodeKey) → fault_fallen falls key ≡ fell marks key

-- ---- one mark more

-- a fault is made only of a node that was not gone
same_fault : (r : Bool) (g : Bool) (x : Fault) (o : Option Fault) → g ≡ true →
    option_map_or Some (cond (r && not g) (Some x) None) o ≡ o
same_fault true true x o e = refl
same_fault false true x o e = refl
same_fault r false x o e = cc

-- a node that was gone has the fault that it had
gone_same : (mark : Mark) (marks : Timeline) (key : NodeKey) → gone marks key ≡ true → fault (mark ∷ marks) key ≡ fault marks key
gone_same (Called client reply call) marks key e = refl
gone_same (Loss origin cause) marks key e =
    same_fault _ (gone marks key) (record { cause = cause; origin = origin }) (fault marks key) e
gone_same (Allocated head) marks key e = refl
gone_same (Ended top) marks key e = refl

-- so where those are told of that the mark takes, all are
pub told_on : (falls more : List GoneNode) (mark : Mark) (marks : Timeline) → AreToldOf falls marks →
    ((key : NodeKey) → gone marks key ≡ false → fault_fallen more key ≡ fell (mark ∷ marks) key) →
    AreToldOf (falls ++ more) (mark ∷ marks)
told_on falls more mark marks before now key =
    ap (option_map (λ (f : GoneNode). f.fault)) (find-append (λ (f : GoneNode). same_key f.key key) falls more)
    ∙ (either (find (λ (f : GoneNode). same_key f.key key) falls) (find (λ (f : GoneNode). same_key f.key key) more)
    ∙ (ap (λ (o : Option (Option Fault)). option_or o (fault_fallen more key)) (before key) ∙ by (gone marks key) refl))
  where
    -- the first that is found tells
    either : (o p : Option GoneNode) → option_map (λ (f : GoneNode). f.fault) (option_or o p)
        ≡ option_or (option_map (λ (f : GoneNode). f.fault) o) (option_map (λ (f : GoneNode). f.fault) p)
    either None p = refl
    either (Some f) p = refl

    -- a node that was gone fell before
    by : (g : Bool) → gone marks key ≡ g → option_or (cond g (Some (fault marks key)) None) (fault_fallen more key)
        ≡ fell (mark ∷ marks) key
    by true e = sym (rw (gone_stays mark marks key e, gone_same mark marks key e) refl)
    by false e = now key e

-- ---- what is told of the nodes of births

-- of these births those pass whose nodes pass the test, and each is told with the fault of its node
pub told_of_births : (bs : List Birth) (f : Birth → Node) (test : Node → Bool) (told : Node → GoneNode) (passes : NodeKey → Bool)
    (why : NodeKey → Option Fault) → ((b : Birth) → test (f b) ≡ passes b.node) →
    ((b : Birth) → told (f b) ≡ record { key = b.node; fault = why b.node }) → (key : NodeKey) →
    fault_fallen (map told (filter test (map f bs))) key
    ≡ cond (list_any (λ (b : Birth). same_key b.node key) bs && passes key) (Some (why key)) None
told_of_births [] f test told passes why tests tells key = refl
told_of_births (b ∷ bs) f test told passes why tests tells key =
    let on = told_of_births bs f test told passes why tests tells key in
    elim (either_way (passes b.node)) [
      | inl e ↦ elim (either_way (same_key b.node key)) [
        | inl is ↦
            let same : b.node ≡ key = same_key-true b.node key is in
            rw (tests b, e, tells b, is, sym (ap passes same) ∙ e) (ap (λ (k : NodeKey). Some (why k)) same)
        | inr other ↦ rw (tests b, e, tells b, other) on
      ]
      | inr e ↦ elim (either_way (same_key b.node key)) [
        | inl is ↦
            let out : passes key ≡ false = sym (ap passes (same_key-true b.node key is)) ∙ e in
            rw (tests b, e, is, out) (on ∙ rw out (nothing (list_any (λ (b : Birth). same_key b.node key) bs)))
        | inr other ↦ rw (tests b, e, other) on
      ]
    ]
  where
    -- what does not pass is not told
    nothing : (x : Bool) → cond (x && false) (Some (why key)) None ≡ None
    nothing true = refl
    nothing false = refl
