use Rattle.core_likeness.proofs.Common.{IsCounted, Strength, arith, bit_at, eq-eqb, false, new_id, refl, sym, true, ◌==◌, ◌∙◌, ◌≡◌}
use Rattle.std.proofs.Common.{below_more}
use Rattle.std.proofs.lemmas.Bool.{false≢true}
use Rattle.core_likeness.proofs.HandleLaws.{set-counted}
use Rattle.core_likeness.proofs.handles.is_set_counted.Goals.{then-has_buffer+else-not-is_counted, else-has_buffer}
use Rattle.core_likeness.proofs.handles.is_set_counted.Goals as goal

-- one more is counted, or is not of the set
pub counting-preserved : goal.counting-preserved
counting-preserved c =
    below_more (λ n. bit_at c.args.set n ≡ 1 → (strength : Strength) →
    IsCounted c.args.sides.now.one.now.holds c.args.sides.now.other.now.holds (new_id c.args.sides.now.names.now)
    c.args.sides.now.is_old c.args.client
    (record { collection = c.args.collection; index = n }) strength) c.counting.index c.counting.invariant
    (λ bit. elim c.if-has_buffer.branch [
      | then-has_buffer+else-not-is_counted w ↦ w.if-not-is_counted.ensures refl
      | else-has_buffer w ↦
          let set : (bit_at c.args.set c.counting.index == 1) ≡ true = eq-eqb (bit_at c.args.set c.counting.index) 1 bit in
          let no : false ≡ true = sym w.if-has_buffer.false ∙ (c.has_buffer.ensures ∙ set) in
          absurd (false≢true no)
    ])

-- no buffer of the set is left
pub returns : goal.returns
returns c = λ _.
    set-counted c.args.sides.now.one.now.holds c.args.sides.now.other.now.holds (new_id c.args.sides.now.names.now)
    c.args.sides.now.is_old c.args.client c.args.collection
    c.args.set
    (omega arith) (λ n less. c.counting.invariant n (omega arith))
