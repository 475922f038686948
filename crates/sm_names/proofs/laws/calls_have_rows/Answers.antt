use Rattle.sm_names.proofs.CallLaws.{made}
use Rattle.sm_names.proofs.laws.calls_have_rows.Goals as goal

pub returns-clause-parts : goal.returns-clause-parts
returns-clause-parts c parts call is = made parts.kind parts.object parts.argument call is
