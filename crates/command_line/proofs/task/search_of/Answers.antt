use Rattle.std.proofs.Common.{List, ℕ, codes}
use Rattle.std.specs.Str.Parse.{ExplainsUnsignedError, HasUnsignedDigitsIfOk, ParsesUnsigned}
use Rattle.clap.specs.Words.{found_of, one_text}
use Rattle.command_line.proofs.Asking.{is_read}
use Rattle.command_line.proofs.task.search_of.Goals as goal

pub returns-clause-once : goal.returns-clause-once
returns-clause-once c = record {
  none = c.get_flag.ensures.none;
  set = c.get_flag.ensures.value;
  unset = c.get_flag.ensures.other;
}

pub returns-clause-patience : goal.returns-clause-patience
returns-clause-patience c = record {
  none = c.get_flag-2.ensures.none;
  set = c.get_flag-2.ensures.value;
  unset = c.get_flag-2.ensures.other;
}

-- each number is what u64 reads
pub returns-clause-search : goal.returns-clause-search
returns-clause-search c =
    let text : List ℕ → _ = λ id. one_text (found_of c.args.matches.now) id in
    record {
      outcome_read = is_read (λ t r. ParsesUnsigned 64 10 t r × ExplainsUnsignedError 10 t r × HasUnsignedDigitsIfOk t r) (λ t r h. h.0)
          (text (codes "outcome")) c.get_one-outcome.result c.get_one-outcome.ensures.none c.get_one-outcome.ensures.value;
      states_number = c.get_one-states.result;
      states_read = is_read (λ t r. ParsesUnsigned 64 10 t r × ExplainsUnsignedError 10 t r × HasUnsignedDigitsIfOk t r) (λ t r h. h.0)
          (text (codes "states")) c.get_one-states.result c.get_one-states.ensures.none c.get_one-states.ensures.value;
      states_is = c.states_of.ensures;
    }

pub returns-clause-end : goal.returns-clause-end
returns-clause-end c = record {
  none = c.get_flag-3.ensures.none;
  set = c.get_flag-3.ensures.value;
  unset = c.get_flag-3.ensures.other;
}

pub returns-clause-certified : goal.returns-clause-certified
returns-clause-certified c = record {
  none = c.get_flag-4.ensures.none;
  set = c.get_flag-4.ensures.value;
  unset = c.get_flag-4.ensures.other;
}

pub returns-clause-listed : goal.returns-clause-listed
returns-clause-listed c = record {
  none = c.get_flag-5.ensures.none;
  set = c.get_flag-5.ensures.value;
  unset = c.get_flag-5.ensures.other;
}

pub returns-clause-vanishing : goal.returns-clause-vanishing
returns-clause-vanishing c =
    let text : List ℕ → _ = λ id. one_text (found_of c.args.matches.now) id in
    record {
      clients = c.get_str.ensures;
      most_number = c.get_one-most.result;
      most_read = is_read (λ t r. ParsesUnsigned 64 10 t r × ExplainsUnsignedError 10 t r × HasUnsignedDigitsIfOk t r) (λ t r h. h.0)
          (text (codes "most")) c.get_one-most.result c.get_one-most.ensures.none c.get_one-most.ensures.value;
      most_is = c.most_of.ensures;
    }
