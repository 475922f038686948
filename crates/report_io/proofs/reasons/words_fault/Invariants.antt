use Rattle.std.proofs.Common.{◌≡◌, length, option_map}
use Rattle.script_lines.specs.Words.{words_left}
use Rattle.script_labels.specs.Names.{Names}
use Rattle.report_io.specs.Reasons.{KeepsIf, names_if, words_reason}
use Rattle.report_io.proofs.reasons.words_fault.Given as goal

-- the words that are left have the reason of all
abbrev pub invariant-words : goal.invariant-words
invariant-words l = (names : Names) → KeepsIf (option_map (λ t. t.now) l.tables) names →
    words_reason (names_if (option_map (λ t. t.now) l.tables) names) l.last l.more (words_left l.left)
    ≡ words_reason (names_if (option_map (λ t. t.now) l.tables) names) l.fn.verb l.fn.wanted (words_left l.fn.rest)

abbrev pub decreases-words : goal.decreases-words
decreases-words l = length l.more
