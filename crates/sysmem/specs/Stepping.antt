-- What a call from C makes of a core.
use Rattle.std.specs.Prelude.{ℕ, ◌≡◌, ◌∷◌, ◌++◌, [], true, Option, Some, None, IsSomeAnd}
use Rattle.std.specs.List.{cons_option}
use Rattle.sm_names.specs.declared.messages.Call.{Call}
use Rattle.sm_names.specs.declared.messages.Reply.{Reply}
use Rattle.sm_names.specs.Answers.{IsAnswer}
use Rattle.core_state.specs.Kinds.{fits_call}
use Rattle.core_state.specs.Reads.{readings_of}
use Rattle.core_state.specs.State.{IsSame, State}
use Rattle.core_state.specs.Steps.{Follows}
use Rattle.core_state.specs.Theorem.{tracker_told}
use Rattle.core_vanish.specs.Vanishing.{GoesOnBut, StaysBut}
use Rattle.sysmem.specs.declared.words.CallWords.{CallWords}
use Rattle.sysmem.specs.declared.words.ReplyWords.{ReplyWords}
use Rattle.sysmem.specs.Words.{said, reply_words}

-- the words say a call, the core took it as `step` does, and the other words are those of its reply: this is the answer to the call, and
-- each legal history that the core shows, but for the firings that it forgot, goes on by it
pub record IsCoreCall (old new : State) (client : ℕ) (asked : CallWords) (told : ReplyWords) : Type 0 where
  pub call : Call
  pub reply : Reply
  pub says : said asked ≡ Some call
  pub tells : told ≡ reply_words reply
  pub answer : IsAnswer old.limits (readings_of old) client call reply
  pub kind : fits_call call reply ≡ true
  pub follows : Follows old new client call reply
  pub goes_on : GoesOnBut old new ((client, call, reply) ∷ [])
  pub untaken : new.trackers.untaken ≡ old.trackers.untaken ++ cons_option (tracker_told reply) []

-- the core is as it was, but for the order of its rows of handles, and shows each history that it showed, but for the firings that it
-- forgot
pub record StaysAs (old new : State) : Type 0 where
  pub same : IsSame old new
  pub shows : StaysBut old new

-- where there was a core it stays as it was, and where there was none there is none
abbrev pub IsCoreUnchanged : Option State → Option State → Type 0
IsCoreUnchanged None after = after ≡ None
IsCoreUnchanged (Some old) after = IsSomeAnd after (StaysAs old)
