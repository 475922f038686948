-- Nodes that fell alike did so under names that know what is new.
use Rattle.alike_plays.proofs.Common.{Fault, FellAlike, GoneNode, In, In-find, KeepsKeys, KnownGone, List, NodeKey, None, Option, Some}
use Rattle.alike_plays.proofs.Common.{ap, fall_renamed, fault_fallen, fault_renamed, find, inl, inr, keys_moved, keys_same, none_or_some}
use Rattle.alike_plays.proofs.Common.{option_map, refl, same_key, same_key-true, some-injective, subst, sym, ◌∙◌, ◌≡◌, ◌⊎◌}
use Rattle.alike_plays.proofs.Renaming.{far_keys}

module _ (Key : NodeKey → Type 0) (falls : List GoneNode) (known : (g : GoneNode) → In g falls → KnownGone Key g) (key : NodeKey) where
  -- the first of that key
  abbrev found : Option GoneNode
  found = find (λ (f : GoneNode). same_key f.key key) falls

  -- A key that is not known fell nowhere.
  fell_nowhere : (Key key → ⊥) → fault_fallen falls key ≡ None
  fell_nowhere other = by (none_or_some found)
    where
      -- by whether it fell
      by : (found ≡ None) ⊎ ((g : GoneNode) × (found ≡ Some g)) → fault_fallen falls key ≡ None
      by (inl none) = ap (option_map (λ (f : GoneNode). f.fault)) none
      by (inr fell) =
          let at = In-find (λ (f : GoneNode). same_key f.key key) falls fell.0 fell.1 in
          absurd (other (subst Key (same_key-true fell.0.key key at.1) (known fell.0 at.0).key))

  -- The node at which a failure began is known.
  origin_known : (fault : Fault) → fault_fallen falls key ≡ Some (Some fault) → Key fault.origin
  origin_known fault failed = by (none_or_some found)
    where
      -- by whether it fell
      by : (found ≡ None) ⊎ ((g : GoneNode) × (found ≡ Some g)) → Key fault.origin
      by (inl none) = let no : None ≡ Some (Some fault) = sym (ap (option_map (λ (f : GoneNode). f.fault)) none) ∙ failed in cc
      by (inr fell) =
          let at = In-find (λ (f : GoneNode). same_key f.key key) falls fell.0 fell.1 in
          (known fell.0 at.0).origin fault
          (some-injective fell.0.fault (Some fault) (sym (ap (option_map (λ (f : GoneNode). f.fault)) fell.1) ∙ failed))

-- Names of new nodes make no difference to what fell before.
pub fell-agrees : (to : NodeKey → NodeKey) → KeepsKeys to → (o p : Option NodeKey) (Key Other : NodeKey → Type 0) →
    ((key : NodeKey) → o ≡ Some key → Key key → ⊥) → ((key : NodeKey) → p ≡ Some key → Other key → ⊥) →
    (falls later : List GoneNode) → ((g : GoneNode) → In g falls → KnownGone Key g) → ((g : GoneNode) → In g later → KnownGone Other g) →
    FellAlike to falls later → FellAlike (keys_moved to o p) falls later
fell-agrees to keeps o p Key Other new new_too falls later known known_too alike key =
    far_keys to keeps o p Key Other new new_too (λ k. option_map (fall_renamed to) (fault_fallen falls k)) (fault_fallen later) alike
    (λ k none. ap (option_map (fall_renamed to)) (fell_nowhere Key falls known k none)) (λ k none. fell_nowhere Other later known_too k none)
    key
    ∙ by (fault_fallen falls key) refl
  where
    -- the node at which a failure began keeps its name
    origin : (fault : Fault) → fault_fallen falls key ≡ Some (Some fault) → keys_moved to o p fault.origin ≡ to fault.origin
    origin fault failed = keys_same to keeps o p fault.origin
        (λ is. new fault.origin is (origin_known Key falls known key fault failed))
        (λ is. new_too (to fault.origin) is (origin_known Other later known_too (to key) (fault_renamed to fault)
        (alike key ∙ ap (option_map (fall_renamed to)) failed)))

    -- by how it fell
    by : (f : Option (Option Fault)) → fault_fallen falls key ≡ f →
        option_map (fall_renamed to) (fault_fallen falls key) ≡ option_map (fall_renamed (keys_moved to o p)) (fault_fallen falls key)
    by None is = ap (option_map (fall_renamed to)) is ∙ sym (ap (option_map (fall_renamed (keys_moved to o p))) is)
    by (Some None) is = ap (option_map (fall_renamed to)) is ∙ sym (ap (option_map (fall_renamed (keys_moved to o p))) is)
    by (Some (Some fault)) is =
        ap (option_map (fall_renamed to)) is
        ∙ ((λ i. Some (Some (record fault { origin = sym (origin fault is) i })))
        ∙ sym (ap (option_map (fall_renamed (keys_moved to o p))) is))
