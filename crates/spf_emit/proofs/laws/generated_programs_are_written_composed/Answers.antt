use Rattle.spf_emit.proofs.Same.{program_same}
use Rattle.spf_emit.proofs.laws.generated_programs_are_written_composed.Goals as goal

pub returns : goal.returns
returns c = program_same
