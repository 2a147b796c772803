-- The sets and relations whose text, where it is read again, has the same meaning.
use Rattle.std.specs.Prelude.{ℕ, ◌≡◌, ◌≢◌, ◌<◌, ◌^◌, ℤ, false, List, [], length, All, codes, unsigned_abs, None, Result, Ok, Err, ⊤}
use Rattle.std.specs.List.{list_any}
use Rattle.spf_base.specs.Word.{IsName}
use Rattle.spf_lex.specs.Language.{lookup}
use Rattle.spf_lex.specs.Tokens.{HasTokens, Tokenized}
use Rattle.spf_rel.specs.Meaning.{IsFormed, IsSameRelation, IsSameSet}
use Rattle.spf_rel.specs.declared.relation.Conj.{Conj}
use Rattle.spf_rel.specs.declared.relation.Rel.{Rel}
use Rattle.spf_rel.specs.declared.relation.Set.{Set}
use Rattle.spf_reltext.specs.CalcWords.{quoted_texts}
use Rattle.spf_reltext.specs.Parsed.{AreRead}
use Rattle.spf_reltext.specs.Printed.{name_at, numbered}
use Rattle.spf_reltext.specs.Rules.{breaks_limits}
use Rattle.spf_reltext.specs.declared.literal.Literals.{Literals}
use Rattle.spf_reltext.specs.declared.names.RelNames.{RelNames}
use Rattle.spf_reltext.specs.declared.parse.RelTextFault.{RelTextFault}
use Rattle.spf_reltext.specs.declared.parse.RelTextFault.TheVariants.{Memory}
use Rattle.spf_term.specs.declared.term.Atom.{Atom}
use Rattle.spf_term.specs.declared.term.Term.{Term, Term', Row_of-Mono, end_of-Mono, more_of-Mono}

-- a word that the grammar doesn't quote, and not how a variable is printed
pub record IsFree (name : List ℕ) : Type 0 where
  pub word : IsName name
  pub unquoted : lookup quoted_texts name ≡ None
  pub no_input : (n : ℕ) → name ≢ numbered (codes "X") n
  pub no_output : (n : ℕ) → name ≢ numbered (codes "Y") n
  pub no_inner : (n : ℕ) → name ≢ numbered (codes "E") n

-- such words, no two of them the same
pub record AreFree (names : List (List ℕ)) : Type 0 where
  pub each : All IsFree names
  pub distinct : (d e : ℕ) → d < e → e < length names → name_at names d ≢ name_at names e

-- below 2^63 without its sign; rule 24 allows no number nearly as large
abbrev pub IsShort : ℤ → Type 0
IsShort number = unsigned_abs number < 2 ^ 63

module _ (names : RelNames) where
  -- such names for parameters, and for functions
  pub record HasFreeNames : Type 0 where
    pub params : AreFree names.params
    pub funs : AreFree names.funs

  -- each parameter and function of the term has a name, in arguments too, and its numbers are short
  abbrev mutual
    pub IsNamed : Term → Type 0
    IsNamed (Term' shape monos constant) = AreNamed monos × IsShort constant

    pub AreNamed : {n : _} → Row_of-Mono n → Type 0
    AreNamed end_of-Mono = ⊤
    AreNamed (more_of-Mono coef atom others) = IsShort coef × AtomIsNamed atom × AreNamed others

    pub AtomIsNamed : Atom → Type 0
    AtomIsNamed (Atom.Var number) = ⊤
    AtomIsNamed (Atom.Param number) = number < length names.params
    AtomIsNamed (Atom.App fun arg) = (fun < length names.funs) × IsNamed arg

  -- the same of all its constraints
  pub record HasNames (conj : Conj) : Type 0 where
    pub equal : All IsNamed conj.equal
    pub least : All IsNamed conj.least

  -- conjunctions, one at least, behind so many inputs and outputs: well-formed, with free names for what they mention
  pub record IsPrintable (outer : ℕ) (conjs : List Conj) : Type 0 where
    pub some : conjs ≢ []
    pub formed : All (IsFormed outer) conjs
    pub named : All HasNames conjs
    pub free : HasFreeNames

-- the text has these tokens, and they are literals within rule 24
pub record IsWithinLimits (tokens : Tokenized) : Type 0 where
  pub tokenized : HasTokens tokens.text tokens.spans
  pub read : Literals
  pub are_read : AreRead tokens 0 (length tokens.spans) read
  pub within : list_any breaks_limits read.list ≡ false

-- what reading the tokens by these names answers, which are `new` then: all was read, the names stayed, and what was read has the same meaning; or memory ran out
module _ (tokens : Tokenized) (names new : RelNames) where
  abbrev pub IsSameRelAnswer : Rel → Result (Rel × ℕ) RelTextFault → Type 0
  IsSameRelAnswer rel (Ok (made, next)) = (next ≡ length tokens.spans) × (new ≡ names) × IsSameRelation rel made
  IsSameRelAnswer rel (Err fault) = (fault ≡ Memory) × (new ≡ names)

  abbrev pub IsSameSetAnswer : Set → Result (Set × ℕ) RelTextFault → Type 0
  IsSameSetAnswer set (Ok (made, next)) = (next ≡ length tokens.spans) × (new ≡ names) × IsSameSet set made
  IsSameSetAnswer set (Err fault) = (fault ≡ Memory) × (new ≡ names)
