-- Why the buffers are refused to an attached unit that becomes ready. No public clause of `alloc_event` cites this module.
use Rattle.std.specs.Prelude.{ℕ, ◌+◌, ◌||◌, nat_lt, [], ◌∷◌, Option}
use Rattle.sm_names.specs.declared.outcomes.Buffers.{Buffers}
use Rattle.sm_names.specs.declared.outcomes.Failure.{Failure}
use Rattle.sm_names.specs.Words.{first_some, when}

-- why this many buffers of this size are not enough, where this many are reserved, this many camped on besides, and they are to be so
-- many at least, and of this size
abbrev pub refusal : Buffers → ℕ → ℕ → ℕ → ℕ → Option Failure
refusal buffers reserved camping at_least size = first_some (
    when (nat_lt buffers.count (reserved + camping) || nat_lt buffers.count at_least) Failure.TooFew
    ∷ when (nat_lt buffers.size size) Failure.TooSmall
    ∷ [])
