-- A property that each mark preserves is preserved by an event and by a longer history.
use Rattle.history_laws.proofs.Common.{Called, Entry, List, Mark, None, Option, Some, Timeline, [], after, births, collection_of}
use Rattle.history_laws.proofs.Common.{cons_option, false, fold, fold-append, inl, inr, is_event, length, next_forced, none_or_some}
use Rattle.history_laws.proofs.Common.{option_map_or, own_loss, refl, settled, settled_within, subst, suc, sym, timeline, zero, ℕ, ◌*◌}
use Rattle.history_laws.proofs.Common.{◌++◌, ◌∷◌, ◌≡◌}
use Rattle.history_laws.proofs.LegalLaws.{own_loss_no_event}
use Rattle.history_laws.proofs.SettledLaws.{forced_no_event}

-- what each mark that is no event keeps, the marks that an event forces keep
module _ (P : Timeline → Type 0) (each : (marks : Timeline) (mark : Mark) → is_event mark ≡ false → P marks → P (mark ∷ marks)) where
  -- the marks that are forced
  pub kept-settled : (pool collection most : ℕ) (marks : Timeline) → P marks → P (settled_within pool collection most marks)
  kept-settled pool collection zero marks p = p
  kept-settled pool collection (suc most) marks p =
      elim (none_or_some (next_forced pool collection marks)) [
        | inl e ↦ rw e p
        | inr some ↦
            rw some.1 (kept-settled pool collection most (some.0 ∷ marks) (each marks some.0 (forced_no_event pool collection marks some.0
            some.1) p))
      ]

  -- those of the event, if it names a collection
  pub kept-rest : (pool : ℕ) (o : Option ℕ) (marks : Timeline) → P marks →
      P (option_map_or (λ collection. settled pool collection marks) o marks)
  kept-rest pool None marks p = p
  kept-rest pool (Some collection) marks p = kept-settled pool collection (2 * length (births marks)) marks p

  -- all marks of an event
  pub kept-after : (pool : ℕ) (marks : Timeline) (entry : Entry) → P (Called entry.0 entry.2 entry.1 ∷ marks) → P (after pool marks entry)
  kept-after pool marks entry p =
      kept-rest pool (collection_of (Called entry.0 entry.2 entry.1 ∷ marks) entry.1 entry.2) (cons_option (own_loss marks entry.1 entry.2)
      (Called entry.0 entry.2 entry.1 ∷ marks)) (loses (own_loss marks entry.1 entry.2) refl)
    where
      loses : (o : Option Mark) → own_loss marks entry.1 entry.2 ≡ o → P (cons_option o (Called entry.0 entry.2 entry.1 ∷ marks))
      loses None e = p
      loses (Some mark) e = each (Called entry.0 entry.2 entry.1 ∷ marks) mark (own_loss_no_event marks entry.1 entry.2 mark e) p

-- and what each mark keeps, a longer history keeps
module _ (P : Timeline → Type 0) (each : (marks : Timeline) (mark : Mark) → P marks → P (mark ∷ marks)) (pool : ℕ) where
  -- the events one after another
  kept-fold : (marks : Timeline) (more : List Entry) → P marks → P (fold (after pool) marks more)
  kept-fold marks [] p = p
  kept-fold marks (entry ∷ more) p =
      kept-fold (after pool marks entry) more (kept-after P (λ m mark _. each m mark) pool marks entry
      (each marks (Called entry.0 entry.2 entry.1) p))

  -- a longer history preserves it
  pub kept-on : (history more : List Entry) → P (timeline pool history) → P (timeline pool (history ++ more))
  kept-on history more p = subst P (sym (fold-append (after pool) [] history more)) (kept-fold (timeline pool history) more p)
