-- An end that a client holds, as it is read, is one that is there, in no parcel, and the client's.
use Rattle.core_vanish.proofs.Common.{Birth, Bool, FreeEnd, NodeKey, None, OpenEnd, Option, Some, Timeline, and_both, and_left, and_right}
use Rattle.core_vanish.proofs.Common.{ap, birth_is, birth_of, births, cond, eq-eqb, eqb-true, false, holder, holds_end, in_transit}
use Rattle.core_vanish.proofs.Common.{is_some-find, not, open_end, option_map_or, readings, refl, same_key, some_is, spent, subst, true}
use Rattle.core_vanish.proofs.Common.{ℕ, ◌&&◌, ◌==◌, ◌∙◌, ◌≡◌}
use Rattle.std.specs.Option.{option_map}
use Rattle.history_laws.proofs.BirthLaws.{birth_was_born}

-- what is not so fails
pub not_so : (b : Bool) → not b ≡ true → b ≡ false
not_so true h = cc
not_so false h = refl

-- an end that is read as the client's is there, in no parcel, and the client's
pub holds_free : (marks : Timeline) (client : ℕ) (key : NodeKey) → holds_end (readings marks) client key ≡ true → FreeEnd marks client key
holds_free marks client key h = from (spent marks key) (birth_of marks key) refl refl h
  where
    -- by cases: a spent end and an unborn node are not read
    from : (s : Bool) (o : Option Birth) → spent marks key ≡ s → birth_of marks key ≡ o →
        option_map_or (λ (e : OpenEnd). e.holder == client && not e.in_transit) (cond s None (option_map (open_end marks) o)) false ≡ true →
        FreeEnd marks client key
    from true o e f h = cc
    from false None e f h = cc
    from false (Some b) e f h =
        let is : b.node ≡ key = (birth_is marks key b f).1 in
        let held : (holder marks b.node == client) ≡ true = and_left _ _ h in
        let still : not (in_transit marks b.node) ≡ true = and_right (holder marks b.node == client) _ h in
        record {
          born = birth_was_born marks key b f;
          unspent = e;
          resting = subst (λ (k : NodeKey). in_transit marks k ≡ false) is (not_so (in_transit marks b.node) still);
          held = subst (λ (k : NodeKey). holder marks k ≡ client) is (eqb-true (holder marks b.node) client held);
        }

-- and such an end is read so
pub free_holds : (marks : Timeline) (client : ℕ) (key : NodeKey) → FreeEnd marks client key → holds_end (readings marks) client key ≡ true
free_holds marks client key f =
    let b = some_is (birth_of marks key) (is_some-find (λ (x : Birth). same_key x.node key) (births marks) ∙ f.born) in
    let is : b.0.node ≡ key = (birth_is marks key b.0 b.1).1 in
    let held : (holder marks b.0.node == client) ≡ true = eq-eqb (holder marks b.0.node) client (ap (holder marks) is ∙ f.held) in
    let still : not (in_transit marks b.0.node) ≡ true = ap not (ap (in_transit marks) is ∙ f.resting) in
    rw (f.unspent, b.1) (and_both (holder marks b.0.node == client) (not (in_transit marks b.0.node)) held still)
