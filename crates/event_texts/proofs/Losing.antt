-- The lines that an event writer keeps with losses.
use Rattle.event_texts.proofs.Common.{Bool, EventWriter, KeptLines, List, LossLines, Moment, NumberedLine, Option, Recalls, RecallsDeeds}
use Rattle.event_texts.proofs.Common.{RecallsLosses, Some, ap, cond, false, kept_line, lookup, option_map, same_deed, same_key, sym, true}
use Rattle.event_texts.proofs.Common.{with_losses, ◌∙◌, ◌≡◌}
use Rattle.event_texts.specs.Deeds.{DeedLines}

-- a value in the place of those of a key
pub mapped-cond : {A B : Type 0} (f : A → B) (test : Bool) (a : A) (b : B) (o : Option A) (p : Option B) → f a ≡ b → option_map f o ≡ p →
    option_map f (cond test (Some a) o) ≡ cond test (Some b) p
mapped-cond f true a b o p is rest = ap Some is
mapped-cond f false a b o p is rest = rest

-- the same lines with losses are kept
pub losses-same : (old new : EventWriter) (lines : LossLines) → new.losses ≡ old.losses → RecallsLosses old lines → RecallsLosses new lines
losses-same old new lines same recalls node =
    ap (λ losses. option_map kept_line (lookup (same_key node) losses.entries)) same ∙ recalls node

-- the same lines with deeds are kept
pub deeds-same : (old new : EventWriter) (lines : DeedLines) → new.deeds ≡ old.deeds → RecallsDeeds old lines → RecallsDeeds new lines
deeds-same old new lines same recalls deed =
    ap (λ deeds. option_map kept_line (lookup (same_deed deed) deeds.entries)) same ∙ recalls deed

-- the same lines and limits are kept, and the core has the same limits
pub recalls-same : (old new : EventWriter) (lines : KeptLines) → new.losses ≡ old.losses → new.deeds ≡ old.deeds →
    new.limits ≡ old.limits → new.session.core.limits ≡ old.session.core.limits → Recalls old lines → Recalls new lines
recalls-same old new lines losses deeds limits core recalls = record {
  losses = losses-same old new lines.losses losses recalls.losses;
  deeds = deeds-same old new lines.deeds deeds recalls.deeds;
  limits = limits ∙ recalls.limits ∙ sym core;
}

-- some marks were noted, and these are left of all
pub record NotesOn (line : NumberedLine) (left all : List Moment) (old new : EventWriter) (lines : LossLines) : Type 0 where
  pub so_far : LossLines
  pub recalls : RecallsLosses new so_far
  pub rest : with_losses line left so_far ≡ with_losses line all lines
