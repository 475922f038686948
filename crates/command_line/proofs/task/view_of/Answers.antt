use Rattle.std.proofs.Common.{List, ℕ, codes}
use Rattle.std.specs.Str.Parse.{ExplainsUnsignedError, HasUnsignedDigitsIfOk, ParsesUnsigned}
use Rattle.clap.specs.Words.{found_of, one_text}
use Rattle.command_line.proofs.Asking.{is_read}
use Rattle.command_line.proofs.task.view_of.Goals as goal

-- each number is what u64 reads
pub returns-clause-until : goal.returns-clause-until
returns-clause-until c =
    let text : List ℕ → _ = λ id. one_text (found_of c.args.matches.now) id in
    record {
      event_number = c.get_one-event.result;
      line_number = c.get_one-line.result;
      failure_number = c.get_one-failure.result;
      event_read = is_read (λ t r. ParsesUnsigned 64 10 t r × ExplainsUnsignedError 10 t r × HasUnsignedDigitsIfOk t r) (λ t r h. h.0)
          (text (codes "at")) c.get_one-event.result c.get_one-event.ensures.none c.get_one-event.ensures.value;
      line_read = is_read (λ t r. ParsesUnsigned 64 10 t r × ExplainsUnsignedError 10 t r × HasUnsignedDigitsIfOk t r) (λ t r h. h.0)
          (text (codes "line")) c.get_one-line.result c.get_one-line.ensures.none c.get_one-line.ensures.value;
      failure_read = is_read (λ t r. ParsesUnsigned 64 10 t r × ExplainsUnsignedError 10 t r × HasUnsignedDigitsIfOk t r) (λ t r h. h.0)
          (text (codes "failure")) c.get_one-failure.result c.get_one-failure.ensures.none c.get_one-failure.ensures.value;
      is = c.until_of.ensures;
    }
