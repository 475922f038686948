use Rattle.std.proofs.Common.{[]}
use Rattle.history_laws.proofs.LegalLaws.{sound_history}
use Rattle.history_laws.proofs.histories.births_are_sound.Goals as goal

pub returns : goal.returns
returns c pool limits history legal = sound_history pool limits [] history legal.answers tt
