use Rattle.spf_lex.specs.BundleWords.{bundle_words}
use Rattle.spf_lex.proofs.Finding.{one_stands, no_syntax_fault}
use Rattle.spf_script.specs.Productions.{script}
use Rattle.spf_script.proofs.Scripts.{kinds_exact, script_clear, script_closed}
use Rattle.spf_script.proofs.script.one_script_stands.Goals as goal

pub returns-clause-one : goal.returns-clause-one
returns-clause-one c = λ tokens. one_stands kinds_exact script script_clear bundle_words tokens script_closed

pub returns-clause-no_fault : goal.returns-clause-no_fault
returns-clause-no_fault c = λ tokens. no_syntax_fault kinds_exact script script_clear bundle_words tokens script_closed
