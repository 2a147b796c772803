-- The language of calculator texts is LL(1).
use Rattle.std.proofs.Common.{◌≡◌, true, Result, refl}
use Rattle.spf_lex.proofs.WholeTexts.{reads_whole}
use Rattle.spf_lex.specs.Grammar.{IsExact}
use Rattle.spf_lex.specs.LookAhead.{is_clear, nullable, first, extension}
use Rattle.spf_lex.specs.Standing.{ReadsAllBy, ReadsWhole}
use Rattle.spf_lex.specs.Tokens.{Tokenized}
use Rattle.spf_lex.specs.declared.parts.PartFault.{PartFault}
use denote.Enum.Bare.{same_true, true_same}
use Rattle.spf_reltext.specs.CalcWords.{calc_words, same_kind}
use Rattle.spf_reltext.specs.Productions as literal_is
use Rattle.spf_reltext.specs.contracts.kind.CalcKind.{the_type}
use Rattle.spf_calc.specs.Productions.{operation, nothing, leaf, two, inverse, nested, exp, binding, show, function, statement, calc}
use Rattle.spf_calc.specs.declared.raw.RawCalc.{RawCalc}

pub kinds_exact : IsExact same_kind
kinds_exact = λ a b. (same_true the_type tt a b, true_same the_type a b)

pub calc_clear : is_clear same_kind calc.shape.grammar ≡ true
unfolding is_clear nullable first extension literal_is.name literal_is.number literal_is.numbered literal_is.mono literal_is.first_mono literal_is.next_mono literal_is.sum literal_is.subscripted literal_is.atom literal_is.ix literal_is.compare literal_is.constraint literal_is.names literal_is.tuple literal_is.inner literal_is.constraints literal_is.literal literal_is.literals operation nothing leaf two inverse nested exp binding show function statement calc
calc_clear = refl

pub calc_read : (tokens : Tokenized) (result : Result RawCalc PartFault) → ReadsAllBy calc_words tokens calc.read result → ReadsWhole calc_words calc tokens result
calc_read tokens result found = reads_whole kinds_exact calc calc_clear calc_words tokens result found
