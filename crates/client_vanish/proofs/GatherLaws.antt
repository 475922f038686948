-- Parts, one after another.
use Rattle.client_vanish.proofs.Common.{All, DifferAt, IsFound, List, [], ap, append-nil, append_assoc, arith, inl, inr, length, own_of}
use Rattle.client_vanish.proofs.Common.{part, refl, subst, sym, ℕ, ◌++◌, ◌∙◌, ◌∷◌, ◌≡◌}
use Rattle.std.proofs.Common.{◌<◌}
use Rattle.std.proofs.lemmas.List.Elements.{All-push, All-weaker, Contains-append_left, Contains-append_right}
use Rattle.client_vanish.specs.declared.gathering.Holding.{Holding}
use Rattle.client_vanish.specs.Gatherings.{IsFirstMismatch, Matches, id_of}
use Rattle.sm_names.specs.Marks.{Entry}
use Rattle.std.specs.List.{Contains}
use Rattle.std.specs.Prelude.{Option, Some, None}

-- the own list of this client is not its part, and those of lesser clients are
pub record Mismatch {E S W : Type 0} (history : List Entry) (seen : List (Holding E S W)) (client event : ℕ) : Type 0 where
  pub its : Holding E S W
  pub is : id_of its ≡ client
  pub there : Contains seen its
  pub differs : DifferAt event (own_of its) (part client history)
  pub before : All (λ p. id_of p < client → Matches history p) seen

-- what was found: nothing, and the lists are the parts, or the mismatch of the least client
abbrev pub Found : {E S W : Type 0} → List Entry → List (Holding E S W) → Option (ℕ × ℕ) → Type 0
Found history seen None = All (Matches history) seen
Found history seen (Some at) = Mismatch history seen at.0 at.1

-- what was found among the first parts, and what is left to be looked at
pub record FoundSoFar {E S W : Type 0} (history : List Entry) (parts rest : List (Holding E S W)) (found : Option (ℕ × ℕ)) : Type 0 where
  pub seen : List (Holding E S W)
  pub all : parts ≡ seen ++ rest
  pub is : Found history seen found

-- a part whose list is its client's part changes nothing
pub found_same : {E S W : Type 0} (history : List Entry) (parts rest others : List (Holding E S W)) (p : Holding E S W) (found : Option (ℕ ×
    ℕ)) → FoundSoFar history parts rest found → rest ≡ p ∷ others →
    Matches history p → FoundSoFar history parts others found
found_same history parts rest others p found so on same = record {
  seen = so.seen ++ p ∷ [];
  all = so.all ∙ (ap (λ l. so.seen ++ l) on ∙ sym (append_assoc so.seen (p ∷ []) others));
  is = still found so.is;
}
  where
    -- by cases: what was found so far is found still, with one part more
    still : (o : Option (ℕ × ℕ)) → Found history so.seen o → Found history (so.seen ++ p ∷ []) o
    still None all = All-push (Matches history) so.seen p all same
    still (Some at) m = record {
      its = m.its;
      is = m.is;
      there = Contains-append_left so.seen (p ∷ []) m.its m.there;
      differs = m.differs;
      before = All-push (λ q. id_of q < at.0 → Matches history q) so.seen p m.before (λ _. same);
    }

-- one whose list is not leaves the one of the lesser client
pub found_other : {E S W : Type 0} (history : List Entry) (parts rest others : List (Holding E S W)) (p : Holding E S W) (event : ℕ)
    (found : Option (ℕ × ℕ)) (now : ℕ × ℕ) →
    FoundSoFar history parts rest found → rest ≡ p ∷ others → DifferAt event (own_of p) (part (id_of p) history) →
    IsFound found (id_of p) event now → FoundSoFar history parts others (Some now)
found_other history parts rest others p event found now so on differs is = record {
  seen = so.seen ++ p ∷ [];
  all = so.all ∙ (ap (λ l. so.seen ++ l) on ∙ sym (append_assoc so.seen (p ∷ []) others));
  is = other found so.is is;
}
  where
    -- since each part before it has a lesser client, or matches
    mine : All (λ q. id_of q < id_of p → Matches history q) so.seen → Mismatch history (so.seen ++ p ∷ []) (id_of p) event
    mine before = record {
      its = p;
      is = refl;
      there = Contains-append_right so.seen (p ∷ []) p (0, omega arith, refl);
      differs = differs;
      before = All-push (λ q. id_of q < id_of p → Matches history q) so.seen p before (λ less. absurd (omega (arith, less)));
    }

    -- by cases: what was found so far stays if its client is less
    other : (o : Option (ℕ × ℕ)) → Found history so.seen o → IsFound o (id_of p) event now → Found history (so.seen ++ p ∷ []) (Some now)
    other None all first =
        subst (λ (n : ℕ × ℕ). Mismatch history (so.seen ++ p ∷ []) n.0 n.1) (sym first)
        (mine (All-weaker (Matches history) (λ q. id_of q < id_of p → Matches history q) (λ q m less. m) so.seen all))
    other (Some at) m (inl kept) =
        let still : Mismatch history (so.seen ++ p ∷ []) at.0 at.1 = record {
          its = m.its;
          is = m.is;
          there = Contains-append_left so.seen (p ∷ []) m.its m.there;
          differs = m.differs;
          before = All-push (λ q. id_of q < at.0 → Matches history q) so.seen p m.before (λ less. absurd (omega (arith, less, kept.0)));
        } in
        subst (λ (n : ℕ × ℕ). Mismatch history (so.seen ++ p ∷ []) n.0 n.1) (sym kept.1) still
    other (Some at) m (inr less) =
        subst (λ (n : ℕ × ℕ). Mismatch history (so.seen ++ p ∷ []) n.0 n.1) (sym less.1)
        (mine (All-weaker (λ q. id_of q < at.0 → Matches history q) (λ q. id_of q < id_of p → Matches history q) (λ q was below.
        was (omega (arith, below, less.0))) so.seen m.before))

-- the mismatch that was found is the first of all parts once no part is left to compare
pub found_first : {E S W : Type 0} (history : List Entry) (parts rest : List (Holding E S W)) (at : ℕ × ℕ) → length rest ≡ 0 →
    FoundSoFar history parts rest (Some at) → IsFirstMismatch history parts at.1
found_first history parts [] at none so =
    let all = sym (so.all ∙ append-nil so.seen) in
    record {
      its = so.is.its;
      there = subst (λ l. Contains l so.is.its) all so.is.there;
      differs = subst (λ i. DifferAt at.1 (own_of so.is.its) (part i history)) (sym so.is.is) so.is.differs;
      before = subst (λ i. All (λ p. id_of p < i → Matches history p) parts) (sym so.is.is)
          (subst (All (λ p. id_of p < at.0 → Matches history p)) all so.is.before);
    }
found_first history parts (p ∷ ps) at none so = absurd (omega (arith, none))
