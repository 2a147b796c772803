use Rattle.spf_kernel.proofs.kernel.one_answer.Goals as goal
use Rattle.spf_kernel.proofs.OneKernel.{one_answer}

pub returns : goal.returns
returns c = λ tokens from next tree answer parses is. one_answer tokens from next tree parses answer is
