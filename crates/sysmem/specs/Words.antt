-- What the numbers of a call and of a reply say.
use Rattle.std.specs.Prelude.{ℕ, ◌+◌, ◌==◌, ◌&&◌, nat_le, not, if◌then◌else◌, Option, Some, None}
use Rattle.std.specs.Option.{option_and_then, option_map}
use Rattle.sm_names.specs.declared.rules.TheConstants.{MAX_AT_LEAST, MAX_CAMPING, MAX_SIZE}
use Rattle.sm_names.specs.declared.call_parts.Argument.{Argument}
use Rattle.sm_names.specs.declared.call_parts.ArgumentForm.{ArgumentForm}
use Rattle.sm_names.specs.declared.call_parts.Object.{Object}
use Rattle.sm_names.specs.declared.call_parts.Target.{Target}
use Rattle.sm_names.specs.declared.call_rows.CallKind.{CallKind}
use Rattle.sm_names.specs.declared.keys.Kind.{Kind}
use Rattle.sm_names.specs.declared.keys.BufferName.{BufferName}
use Rattle.sm_names.specs.declared.keys.NodeKey.{NodeKey}
use Rattle.sm_names.specs.declared.keys.Strength.{Strength}
use Rattle.sm_names.specs.declared.messages.Call.{Call}
use Rattle.sm_names.specs.declared.messages.Reply.{Reply}
use Rattle.sm_names.specs.declared.outcomes.Cause.{Cause}
use Rattle.sm_names.specs.declared.outcomes.Failure.{Failure}
use Rattle.sm_names.specs.CallRows.{call_of, kind_at, parts, row_of}
use Rattle.sm_names.specs.Demands.{Demand}
use Rattle.sm_names.specs.Numbers.{misuse_number, refusal_number}
use Rattle.sysmem.specs.declared.words.CallWords.{CallWords}
use Rattle.sysmem.specs.declared.words.ReplyWords.{ReplyWords}

-- the number of the strength
abbrev pub strength_number : Strength → ℕ
strength_number Strength.Strong = 0
strength_number Strength.Weak = 1

-- the number of the kind
abbrev pub kind_number : Kind → ℕ
kind_number Kind.Token = 0
kind_number Kind.Collection = 1

-- the number of the failure
abbrev pub failure_number : Failure → ℕ
failure_number Failure.NoStrong = 0
failure_number Failure.NoBuffers = 1
failure_number Failure.TooManyBuffers = 2
failure_number Failure.PoolFull = 3
failure_number Failure.TooFew = 4
failure_number Failure.TooSmall = 5

-- the number of the cause: misuses from 11 on, failures from 20 on
abbrev pub cause_number : Cause → ℕ
cause_number Cause.Lost = 0
cause_number Cause.NoStrong = 1
cause_number (Cause.Misused misuse) = 10 + misuse_number misuse
cause_number (Cause.Failed failure) = 20 + failure_number failure

-- the strength that the number says
abbrev pub said_strength : ℕ → Option Strength
said_strength number = if number == 0 then Some Strength.Strong else (if number == 1 then Some Strength.Weak else None)

-- the constraints that the numbers say, if they are in range
abbrev pub said_constraints : ℕ → ℕ → ℕ → Option Demand
said_constraints camping at_least size =
    if nat_le camping MAX_CAMPING && nat_le at_least MAX_AT_LEAST && nat_le 1 size && nat_le size MAX_SIZE
    then Some (record { camping = camping; at_least = at_least; size = size }) else None

-- what the words name that a call is made on
abbrev pub object_said : CallWords → Target → Object NodeKey BufferName
object_said w Target.Nothing = Object.Nothing
object_said w Target.Handle = Object.Buffer (record { collection = w.collection; index = w.index })
object_said w _ = Object.Node (record { slot = w.slot; generation = w.generation })

-- what else they say; a strength that is none, and constraints out of range say nothing
abbrev pub argument_said : CallWords → ArgumentForm → Option (Argument ℕ)
argument_said w ArgumentForm.Nothing = Some Argument.Nothing
argument_said w ArgumentForm.Client = Some (Argument.Client w.client)
argument_said w ArgumentForm.Children = Some (Argument.Children (not (w.children == 0)))
argument_said w ArgumentForm.Constraints =
    option_map Argument.Constraints (said_constraints w.camping w.at_least w.size)
argument_said w ArgumentForm.Most = Some (Argument.Most w.left)
argument_said w ArgumentForm.Strength = option_map Argument.Strength (said_strength w.strength)
argument_said w ArgumentForm.Gift = option_map (λ s. Argument.Gift s w.client) (said_strength w.strength)

-- the call of this kind that the words say
abbrev pub said_of_kind : CallWords → CallKind → Option Call
said_of_kind w kind = option_and_then
    (λ argument. call_of (parts kind (object_said w (row_of kind).on) argument))
    (argument_said w (row_of kind).says)

-- the call that the words say, by the number of its kind; a number that is none says no call
abbrev pub said : CallWords → Option Call
said w = option_and_then (said_of_kind w) (kind_at w.kind)

-- a reply that has nothing to tell
abbrev pub blank_reply : ReplyWords
blank_reply = record { kind = 0; slot = 0; generation = 0; detail = 0; id = 0; set = 0; count = 0; size = 0; index = 0 }

-- the words of the reply: the number of its kind and what it tells, and 0 elsewhere
abbrev pub reply_words : Reply → ReplyWords
reply_words Reply.Done = blank_reply
reply_words (Reply.Joined id) = record blank_reply { kind = 1; id = id }
reply_words (Reply.Shut left) = record blank_reply { kind = 2; id = left }
reply_words (Reply.Token key collection) = record blank_reply { kind = 3; slot = key.slot; generation = key.generation; id = collection }
reply_words (Reply.Collected key kind collection) =
    record blank_reply { kind = 4; slot = key.slot; generation = key.generation; detail = kind_number kind; id = collection }
reply_words (Reply.CollectedHandle buffer strength) =
    record blank_reply { kind = 5; detail = strength_number strength; id = buffer.collection; index = buffer.index }
reply_words Reply.Empty = record blank_reply { kind = 6 }
reply_words Reply.Pending = record blank_reply { kind = 7 }
reply_words (Reply.Allocated count size) = record blank_reply { kind = 8; count = count; size = size }
reply_words (Reply.Taken collection strength set) =
    record blank_reply { kind = 9; detail = strength_number strength; id = collection; set = set }
reply_words (Reply.Tracker id) = record blank_reply { kind = 10; id = id }
reply_words (Reply.Refused refusal) = record blank_reply { kind = 11; detail = refusal_number refusal }
reply_words (Reply.Misused misuse) = record blank_reply { kind = 12; detail = misuse_number misuse }
reply_words (Reply.PeerClosed cause origin) =
    record blank_reply { kind = 13; slot = origin.slot; generation = origin.generation; detail = cause_number cause }
