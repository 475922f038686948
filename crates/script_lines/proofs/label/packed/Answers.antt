use Rattle.std.proofs.Common.{arith, rules, slice_index_or}
use Rattle.script_lines.proofs.Digits.{fits-one-more}
use Rattle.script_lines.proofs.label.packed.Goals as goal

pub overflow_mul-code : goal.overflow_mul-code
overflow_mul-code c =
    omega (
      arith,
      fits-one-more c.loop-byte.code 0 c.loop-byte.byte-index c.loop-byte.invariant.1 (omega arith)
          (omega (arith, c.loop-byte-test.true, c.requires)),
    )

pub overflow_add-code : goal.overflow_add-code
overflow_add-code c = omega (
  arith,
  fits-one-more c.loop-byte.code (slice_index_or c.args.word.now c.loop-byte.byte-index 0) c.loop-byte.byte-index c.loop-byte.invariant.1
      (search rules)
      (omega (arith, c.loop-byte-test.true, c.requires)),
)
