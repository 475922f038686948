use Rattle.std.proofs.Common.{◌≡◌, length}
use Rattle.std.specs.List.{list_any}
use Rattle.script_lines.specs.Words.{words, words_left}
use Rattle.report_io.specs.Reasons.{is_empty}
use Rattle.report_io.proofs.words.has_empty_word.Given as goal

-- a word of the line has no byte exactly where one that is left has none
abbrev pub invariant-words : goal.invariant-words
invariant-words l = list_any is_empty (words_left l.left) ≡ list_any is_empty (words l.line)

abbrev pub decreases-words : goal.decreases-words
decreases-words l = length (words_left l.left)
