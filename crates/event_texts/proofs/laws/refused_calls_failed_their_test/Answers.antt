use Rattle.sm_names.specs.Answers.{key_told}
use Rattle.sm_names.specs.declared.messages.Reply.{Reply}
use Rattle.event_texts.proofs.Refusing.{test_failed}
use Rattle.event_texts.proofs.laws.refused_calls_failed_their_test.Goals as goal

pub returns : goal.returns
returns c limits r client call refusal answered =
    test_failed limits r client (key_told (Reply.Refused refusal)) call refusal answered.told
