-- What the next line of a script leads to.
use Rattle.actor_scripts.proofs.Common.{IsScriptFault, List, None, Option, Reading, Some, [], ap, script_actors_from, take, ℕ, ◌+◌, ◌∙◌}
use Rattle.actor_scripts.proofs.Common.{◌∷◌, ◌≡◌}
use Rattle.std.proofs.Common.{drop}
use Rattle.std.specs.Prelude.{Err}
use Rattle.std.specs.List.{position}
use Rattle.std.specs.Option.{option_map_or}
use Rattle.script_lines.proofs.Piecing.{is_end, ends_found, unended_none}
use Rattle.script_lines.specs.Pieces.{lines_from, rest_from}
use Rattle.actor_scripts.specs.declared.halt.Halt.{Halt}
use Rattle.actor_scripts.specs.ActorLists.{Halts, after_line, after_lines, actors_at_end, actors_after}
use Rattle.actor_scripts.specs.Reads.{line_fault}

module _ (so_far : Reading) (rest : List ℕ) where
  -- where a line is ended
  module _ (at : ℕ) (found : position is_end rest ≡ Some at) where
    -- the reader takes the first line, then reads the rest from the reading that it leads to
    by_line : script_actors_from so_far rest ≡ actors_after (rest_from [] (drop (at + 1) rest))
        (option_map_or (λ next. after_lines next (lines_from [] (drop (at + 1) rest)))
        (after_line so_far (take at rest)) (Err (so_far.lines + 1)))
    by_line =
        let ends = ends_found [] rest at found in
        ap (λ (ls : List (List ℕ)). actors_after (rest_from [] rest) (after_lines so_far ls)) ends.lines
        ∙ ap (λ (last : List ℕ). actors_after last (after_lines so_far (take at rest ∷ lines_from [] (drop (at + 1) rest)))) ends.rest

    -- a good one
    pub goes-on : (next : Reading) → after_line so_far (take at rest) ≡ Some next →
        script_actors_from so_far rest ≡ script_actors_from next (drop (at + 1) rest)
    goes-on next good = by_line ∙ ap (λ (led : Option Reading). actors_after (rest_from [] (drop (at + 1) rest))
        (option_map_or (λ n. after_lines n (lines_from [] (drop (at + 1) rest))) led (Err (so_far.lines + 1)))) good

    -- a bad one
    goes-wrong : after_line so_far (take at rest) ≡ None → script_actors_from so_far rest ≡ Err (so_far.lines + 1)
    goes-wrong bad = by_line ∙ ap (λ (led : Option Reading). actors_after (rest_from [] (drop (at + 1) rest))
        (option_map_or (λ n. after_lines n (lines_from [] (drop (at + 1) rest))) led (Err (so_far.lines + 1)))) bad

    -- one that is not read
    pub goes-no-further : (halt : Halt) → Halts (after_line so_far (take at rest)) halt →
        IsScriptFault (script_actors_from so_far rest) (line_fault (so_far.lines + 1) halt)
    goes-no-further Halt.BadLine bad = goes-wrong bad
    goes-no-further Halt.NoMemory why = tt

  -- where none is
  pub goes-out : position is_end rest ≡ None → script_actors_from so_far rest ≡ actors_at_end rest so_far
  goes-out none =
      let unended = unended_none [] rest none in
      ap (λ (ls : List (List ℕ)). actors_after (rest_from [] rest) (after_lines so_far ls)) unended.lines
      ∙ ap (λ (last : List ℕ). actors_at_end last so_far) unended.rest
