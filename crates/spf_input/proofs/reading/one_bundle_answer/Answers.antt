use Rattle.spf_input.proofs.OneBundle.{one_bundle, one_whole_bundle}
use Rattle.spf_input.proofs.reading.one_bundle_answer.Goals as goal

pub returns-clause-kernel : goal.returns-clause-kernel
returns-clause-kernel c = one_bundle

pub returns-clause-bundle : goal.returns-clause-bundle
returns-clause-bundle c = one_whole_bundle
