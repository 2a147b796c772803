-- The language of literals is LL(1).
use Rattle.std.proofs.Common.{◌≡◌, ℕ, zero, suc, ap, ◌<◌, ◌-◌, true, List, Result, Ok, Err, refl, arith}
use Rattle.spf_lex.proofs.Finding.{finds, read_ok}
use Rattle.spf_lex.specs.Grammar.{IsExact}
use Rattle.spf_lex.specs.Language.{Lexed}
use Rattle.spf_lex.specs.LookAhead.{is_clear, nullable, first, extension}
use Rattle.spf_lex.specs.Standing.{FindsBy, tokens_from}
use Rattle.spf_lex.specs.Tokens.{Tokenized}
use Rattle.spf_lex.specs.declared.parts.PartFault.{PartFault}
use Rattle.spf_lex.specs.declared.parts.PartFault.TheVariants.{Syntax, Memory}
use denote.Enum.Bare.{same_true, true_same}
use Rattle.spf_reltext.specs.CalcWords.{calc_words, same_kind}
use Rattle.spf_reltext.specs.Parsed.{AreRead, IsLiteralsAnswer, IsTested, fault_of}
use Rattle.spf_reltext.specs.Productions.{name, number, numbered, mono, first_mono, next_mono, sum, subscripted, atom, ix, compare, constraint, names, tuple, inner, constraints, literal, literals}
use Rattle.spf_reltext.specs.contracts.kind.CalcKind.{the_type}
use Rattle.spf_reltext.specs.declared.kind.CalcKind.{CalcKind}
use Rattle.spf_reltext.specs.declared.literal.Literals.{Literals}
use Rattle.spf_reltext.specs.declared.parse.RelTextFault.{RelTextFault}
use Rattle.spf_reltext.specs.declared.rules.Wanted.{Wanted}

pub kinds_exact : IsExact same_kind
kinds_exact = λ a b. (same_true the_type tt a b, true_same the_type a b)

pub literals_clear : is_clear same_kind literals.shape.grammar ≡ true
unfolding is_clear nullable first extension name number numbered mono first_mono next_mono sum subscripted atom ix compare constraint names tuple inner constraints literal literals
literals_clear = refl

pub atom_deep : (depth : ℕ) (tokens : List (Lexed CalcKind)) → 0 < depth → (atom depth).read tokens ≡ (subscripted (ix (depth - 1))).read tokens
unfolding atom ix
atom_deep zero tokens deep = absurd (omega arith)
atom_deep (suc depth) tokens deep =
    let e : depth ≡ suc depth - 1 = omega arith in
    ap (λ (n : ℕ). (subscripted (ix n)).read tokens) e

module _ (tokens : Tokenized) (from : ℕ) where
  pub literals_read : (read : Literals) (next : ℕ) → FindsBy calc_words tokens literals.read from (Ok (read, next)) → AreRead tokens from next read
  literals_read read next found =
      let part = read_ok kinds_exact literals literals_clear (tokens_from calc_words tokens from) (tokens_from calc_words tokens next) read found.1 in
      record { stands = record { front = part.front; splits = part.splits; within = found.0; yields = part.yields }; longest = part.reading }

  pub literals_fault : (wanted : Wanted) (fault : PartFault) → FindsBy calc_words tokens literals.read from (Err fault) → IsLiteralsAnswer tokens from wanted (Err (fault_of fault))
  literals_fault wanted (Syntax place kind) found = finds kinds_exact literals literals_clear calc_words tokens from (Err (Syntax place kind)) found
  literals_fault wanted Memory found = tt

  -- the rules are tested on what was read
  pub tested_read : (wanted : Wanted) (read : Literals) (next : ℕ) (result : Result (Literals × ℕ) RelTextFault) → AreRead tokens from next read → IsTested wanted read next result → IsLiteralsAnswer tokens from wanted result
  tested_read wanted read next (Ok (same, at)) is tested = rw (tested.0, tested.1) (is, tested.2)
  tested_read wanted read next (Err (RelTextFault.Syntax place kind)) is tested = absurd tested
  tested_read wanted read next (Err (RelTextFault.Rule rule at shape)) is tested = rw tested.0 (record { read = read; are_read = is; broken = tested.1; shape_is = tested.2 })
  tested_read wanted read next (Err RelTextFault.Memory) is tested = tt
