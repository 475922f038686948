-- How much a part can bring.
use Rattle.event_laws.proofs.Common.{Bool, Call, Entry, List, MAX_BUFFERS, Own, Reply, Strength, [], arith, false, gained_by, indices_in}
use Rattle.event_laws.proofs.Common.{is_own, length, losses, lost_by, part_from, refl, same_strength, sum_by-cons, true, ℕ, ◌+◌, ◌∷◌, ◌≡◌}
use Rattle.event_laws.proofs.Common.{◌≤◌}
use Rattle.std.proofs.Common.{◌*◌}
use Rattle.event_laws.specs.Lines.{gains}
use Rattle.event_laws.proofs.SetLaws.{indices_most, cond-le}

-- an event brings at most a handle of each buffer
gained_most : (strength : Strength) (call : Call) (reply : Reply) → gained_by strength call reply ≤ MAX_BUFFERS
gained_most strength (Call.Take key) (Reply.Taken collection taken set) =
    cond-le (same_strength taken strength) (length (indices_in set)) MAX_BUFFERS (indices_most set)
gained_most strength (Call.DupHandle buffer dup) Reply.Done = cond-le (same_strength dup strength) 1 MAX_BUFFERS (omega arith)
gained_most strength Call.Collect (Reply.CollectedHandle buffer got) = cond-le (same_strength got strength) 1 MAX_BUFFERS (omega arith)
gained_most strength _ _ = omega arith

-- and takes one
lost_most : (strength : Strength) (call : Call) (reply : Reply) → lost_by strength call reply ≤ MAX_BUFFERS
lost_most strength (Call.DropHandle buffer dropped) Reply.Done = cond-le (same_strength dropped strength) 1 MAX_BUFFERS (omega arith)
lost_most strength (Call.GiveHandle buffer given to) Reply.Done = cond-le (same_strength given strength) 1 MAX_BUFFERS (omega arith)
lost_most strength _ _ = omega arith

-- so a list of events brings no more for each
pub gains_most : (strength : Strength) (own : List Own) → gains strength own ≤ length own * MAX_BUFFERS
gains_most strength [] = omega arith
gains_most strength (o ∷ os) =
    omega (
      arith,
      sum_by-cons (λ (x : Own). gained_by strength x.call x.reply) o os,
      gained_most strength o.call o.reply,
      gains_most strength os,
    )

-- and takes no more
pub losses_most : (strength : Strength) (own : List Own) → losses strength own ≤ length own * MAX_BUFFERS
losses_most strength [] = omega arith
losses_most strength (o ∷ os) =
    omega (
      arith,
      sum_by-cons (λ (x : Own). lost_by strength x.call x.reply) o os,
      lost_most strength o.call o.reply,
      losses_most strength os,
    )

-- a part is no longer than the record
pub part_most : (client event : ℕ) (history : List Entry) → length (part_from client event history) ≤ length history
part_most client event [] = omega arith
part_most client event (e ∷ es) = either (part_most client (event + 1) es) (is_own client event e) refl
  where
    -- by cases: an own event adds one, and any other adds nothing
    either : length (part_from client (event + 1) es) ≤ length es → (b : Bool) → is_own client event e ≡ b →
        length (part_from client event (e ∷ es)) ≤ length (e ∷ es)
    either on true own = rw own (omega arith)
    either on false other = rw other (omega arith)

-- what is counted so far, and what is still to be counted
pub record IsCounted (strength : Strength) (gained lost : ℕ) (rest whole : List Own) : Type 0 where
  pub gained_is : gained + gains strength rest ≡ gains strength whole
  pub lost_is : lost + losses strength rest ≡ losses strength whole

-- and fits a number
pub fits_more : (strength : Strength) (gained lost : ℕ) (rest whole later : List Own) (own : Own) →
    IsCounted strength gained lost rest whole → rest ≡ own ∷ later →
    (gained + gained_by strength own.call own.reply ≤ length whole * MAX_BUFFERS) ×
    (lost + lost_by strength own.call own.reply ≤ length whole * MAX_BUFFERS)
fits_more strength gained lost rest whole later own so on =
    let one : gains strength rest ≡ gained_by strength own.call own.reply + gains strength later =
    rw on (sum_by-cons (λ (x : Own). gained_by strength x.call x.reply) own later) in
    let two : losses strength rest ≡ lost_by strength own.call own.reply + losses strength later =
    rw on (sum_by-cons (λ (x : Own). lost_by strength x.call x.reply) own later) in
    (omega (arith, so.gained_is, one, gains_most strength whole), omega (arith, so.lost_is, two, losses_most strength whole))
