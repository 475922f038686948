-- Lists that begin alike.
use Rattle.event_laws.proofs.Common.{List, Own, [], ap, append_assoc, arith, length, refl, sym, ℕ, ◌++◌, ◌∙◌, ◌∷◌, ◌≡◌}
use Rattle.event_laws.specs.Parts.{BeginApart, DifferAt}

-- both lists begin with the same, and go on with these
pub record Alike (own part left rest : List Own) : Type 0 where
  pub same : List Own
  pub own_is : own ≡ same ++ left
  pub part_is : part ≡ same ++ rest

-- once one more is the same
pub alike_more : (own part left rest more later : List Own) (mine told : Own) → Alike own part left rest → left ≡ mine ∷ more →
    rest ≡ told ∷ later → mine ≡ told →
    Alike own part more later
alike_more own part left rest more later mine told so goes_on told_on one = record {
  same = so.same ++ mine ∷ [];
  own_is = so.own_is ∙ (ap (λ l. so.same ++ l) goes_on ∙ sym (append_assoc so.same (mine ∷ []) more));
  part_is = so.part_is
      ∙ (ap (λ l. so.same ++ l) (told_on ∙ ap (λ o. o ∷ later) (sym one)) ∙ sym (append_assoc so.same (mine ∷ []) later));
}

-- and where they go on otherwise
pub apart_at : (event : ℕ) (own part left rest mine told : List Own) → Alike own part left rest → left ≡ mine → rest ≡ told →
    BeginApart event mine told → DifferAt event own part
apart_at event own part left rest mine told so goes_on told_on apart = record {
  same = so.same;
  mine = mine;
  told = told;
  own_is = so.own_is ∙ ap (λ l. so.same ++ l) goes_on;
  part_is = so.part_is ∙ ap (λ l. so.same ++ l) told_on;
  apart = apart;
}

-- a list with no element
pub none_left : (left : List Own) → length left ≡ 0 → left ≡ []
none_left [] none = refl
none_left (o ∷ os) none = absurd (omega (arith, none))
