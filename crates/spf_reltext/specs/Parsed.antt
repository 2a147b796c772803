-- The sets and relations that a text holds, and what reading one answers.
use Rattle.std.specs.Prelude.{ℕ, ◌≡◌, List, None, Some, Result, Ok, Err, ⊤}
use Rattle.spf_lex.specs.Grammar.{IsReading}
use Rattle.spf_lex.specs.Language.{kinds}
use Rattle.spf_lex.specs.Standing.{StandsAt, IsSyntaxFault, tokens_from}
use Rattle.spf_lex.specs.Tokens.{Tokenized}
use Rattle.spf_lex.specs.declared.parts.PartFault.{PartFault}
use Rattle.spf_lex.specs.declared.parts.PartFault.TheVariants as part
use Rattle.spf_rel.specs.declared.relation.Rel.{Rel}
use Rattle.spf_rel.specs.declared.relation.Set.{Set}
use Rattle.spf_reltext.specs.CalcWords.{calc_words}
use Rattle.spf_reltext.specs.Names.{names_of}
use Rattle.spf_reltext.specs.Productions.{literals}
use Rattle.spf_reltext.specs.Resolved.{rel_of, set_of}
use Rattle.spf_reltext.specs.Rules.{least_rule, shape_of_all}
use Rattle.spf_reltext.specs.declared.literal.Literals.{Literals}
use Rattle.spf_reltext.specs.declared.names.RelNames.{RelNames}
use Rattle.spf_reltext.specs.declared.parse.RelTextFault.{RelTextFault}
use Rattle.spf_reltext.specs.declared.parse.RelTextFault.TheVariants.{Syntax, Rule, Memory}
use Rattle.spf_reltext.specs.declared.raw.RawLiteral.{RawLiteral}
use Rattle.spf_reltext.specs.declared.rules.Shape.{Shape}
use Rattle.spf_reltext.specs.declared.rules.Wanted.{Wanted}
use Rattle.spf_reltext.specs.declared.rules.Wanted.TheVariants as wanted

abbrev pub fault_of : PartFault → RelTextFault
fault_of (part.Syntax place kind) = Syntax place kind
fault_of part.Memory = Memory

-- what testing the rules on literals answers; out of memory is free
abbrev pub IsTested : Wanted → Literals → ℕ → Result (Literals × ℕ) RelTextFault → Type 0
IsTested wanted read next (Ok (same, at)) = (same ≡ read) × (at ≡ next) × (least_rule wanted read.list ≡ None)
IsTested wanted read next (Err (Syntax place kind)) = ⊥
IsTested wanted read next (Err (Rule rule at shape)) = (at ≡ next) × (least_rule wanted read.list ≡ Some rule) × (shape ≡ shape_of_all read.list)
IsTested wanted read next (Err Memory) = ⊤

module _ (tokens : Tokenized) (from : ℕ) where
  -- these literals stand there, and no text of literals goes on behind them with token `next`
  pub record AreRead (next : ℕ) (read : Literals) : Type 0 where
    pub stands : StandsAt calc_words literals tokens from next read
    pub longest : IsReading literals.shape.grammar (kinds (tokens_from calc_words tokens from)) (Ok (kinds (tokens_from calc_words tokens next)))

  -- literals stand there that break this rule, and none before it; this is the shape of the first one
  pub record IsRuleFault (wanted : Wanted) (rule next : ℕ) (shape : Shape) : Type 0 where
    pub read : Literals
    pub are_read : AreRead next read
    pub broken : least_rule wanted read.list ≡ Some rule
    pub shape_is : shape ≡ shape_of_all read.list

  -- what looking for literals that break no rule answers; out of memory is free
  abbrev pub IsLiteralsAnswer : Wanted → Result (Literals × ℕ) RelTextFault → Type 0
  IsLiteralsAnswer wanted (Ok (read, next)) = AreRead next read × (least_rule wanted read.list ≡ None)
  IsLiteralsAnswer wanted (Err (Syntax place kind)) = IsSyntaxFault calc_words literals tokens from place kind
  IsLiteralsAnswer wanted (Err (Rule rule next shape)) = IsRuleFault wanted rule next shape
  IsLiteralsAnswer wanted (Err Memory) = ⊤

  module _ (old new : RelNames) where
    -- literals stand there that break no rule; the names grew by theirs, and by these they mean the value
    pub record ParsesTo {A : Type 0} (wanted : Wanted) (meaning : RelNames → List RawLiteral → A) (next : ℕ) (value : A) : Type 0 where
      pub read : Literals
      pub are_read : AreRead next read
      pub unbroken : least_rule wanted read.list ≡ None
      pub names : new ≡ names_of old read.list
      pub means : value ≡ meaning new read.list

    -- a refusal, after which the names are as before
    abbrev pub IsRefusal : Wanted → RelTextFault → Type 0
    IsRefusal wanted (Syntax place kind) = IsSyntaxFault calc_words literals tokens from place kind × (new ≡ old)
    IsRefusal wanted (Rule rule next shape) = IsRuleFault wanted rule next shape × (new ≡ old)
    IsRefusal wanted Memory = new ≡ old

    -- what `parse_rel` answers; when memory runs out is free
    abbrev pub IsRelAnswer : Result (Rel × ℕ) RelTextFault → Type 0
    IsRelAnswer (Ok (rel, next)) = ParsesTo wanted.Relation rel_of next rel
    IsRelAnswer (Err fault) = IsRefusal wanted.Relation fault

    -- what `parse_set` answers; when memory runs out is free
    abbrev pub IsSetAnswer : Result (Set × ℕ) RelTextFault → Type 0
    IsSetAnswer (Ok (set, next)) = ParsesTo wanted.Set set_of next set
    IsSetAnswer (Err fault) = IsRefusal wanted.Set fault
