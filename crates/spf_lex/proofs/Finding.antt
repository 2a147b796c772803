-- What a production's reader finds is right: the text that stands there, or the fault behind the longest prefix; and of texts that end by themselves one stands.
use Rattle.std.proofs.Common.{◌≡◌, ℕ, ◌-◌, Bool, true, List, [], ◌++◌, length, Result, Ok, Err, sym, ap, subst, ◌∙◌, arith}
use Rattle.std.proofs.lemmas.List.{length-append, length-drop, length-map, map-append}
use Rattle.spf_base.specs.declared.place.Place.{Place}
use Rattle.spf_lex.specs.Derivation.{Derivation, Outcome, made, derive, IsDerivation}
use Rattle.spf_lex.specs.Grammar.{In, IsExact, IsReading}
use Rattle.spf_lex.specs.Language.{Language, Lexed, kind_of, kinds, tokens_of}
use Rattle.spf_lex.specs.LookAhead.{extension, is_clear}
use Rattle.spf_lex.specs.Production.{Production}
use Rattle.spf_lex.specs.Standing.{tokens_from, Yields, FindsBy, StandsAt, IsSyntaxFault, FindsAt}
use Rattle.spf_lex.specs.Tokens.{Tokenized, texts}
use Rattle.spf_lex.specs.declared.parts.PartFault.{PartFault}
use Rattle.spf_lex.specs.declared.parts.PartFault.TheVariants.{Syntax, Memory}
use Rattle.spf_lex.specs.declared.text_kind.TextKind.{TextKind}
use Rattle.spf_lex.proofs.Alone.{same_front, no_fault}
use Rattle.spf_lex.proofs.Derivations.{is_derivation}
use Rattle.spf_lex.proofs.Derived.{one_derivation, spelled_in, same_split}
use Rattle.spf_lex.proofs.Numbered.{numbered_length}

module _ {K A : Type 0} {same : K → K → Bool} {empty : Bool} (exact : IsExact same) (p : Production same empty A) (clear : is_clear same p.shape.grammar ≡ true) where
  -- what was read is a text in front of the rest
  pub record Read (tokens rest : List (Lexed K)) (a : A) : Type 0 where
    pub front : List (Lexed K)
    pub splits : tokens ≡ front ++ rest
    pub yields : Yields p front a
    pub reading : IsReading p.shape.grammar (kinds tokens) (Ok (kinds rest))

  value_or : A → Outcome (Lexed K) A → A
  value_or other (Ok x) = x.0
  value_or other (Err rest) = other

  left_of : Outcome (Lexed K) A → List (Lexed K)
  left_of (Ok x) = x.1
  left_of (Err rest) = rest

  ok_derived : (tokens rest : List (Lexed K)) (a : A) (o : Outcome (Lexed K) (Derivation (Lexed K) p.shape.grammar)) → IsDerivation kind_of p.shape.grammar tokens o → made p.make o ≡ Ok (a, rest) → Read tokens rest a
  unfolding value_or left_of
  ok_derived tokens rest a (Ok x) d e =
      let is_value : p.make x.0 ≡ a = ap (value_or a) e in
      let is_rest : x.1 ≡ rest = ap left_of e in
      record {
        front = d.derives.0;
        splits = d.derives.1 ∙ ap (λ (ts : List (Lexed K)). d.derives.0 ++ ts) is_rest;
        yields = (x.0, d.derives.2, sym is_value);
        reading = subst (λ (ts : List (Lexed K)). IsReading p.shape.grammar (kinds tokens) (Ok (kinds ts))) is_rest d.reading;
      }
  ok_derived tokens rest a (Err left) d e = absurd cc

  err_derived : (tokens rest : List (Lexed K)) (o : Outcome (Lexed K) (Derivation (Lexed K) p.shape.grammar)) → IsDerivation kind_of p.shape.grammar tokens o → made p.make o ≡ Err rest → IsReading p.shape.grammar (kinds tokens) (Err (kinds rest))
  err_derived tokens rest (Ok x) d e = absurd cc
  err_derived tokens rest (Err left) d e =
      let is_rest : left ≡ rest = cc in
      subst (λ (ts : List (Lexed K)). IsReading p.shape.grammar (kinds tokens) (Err (kinds ts))) is_rest d.reading

  derivation_of : (tokens : List (Lexed K)) → IsDerivation kind_of p.shape.grammar tokens (derive same kind_of p.shape.grammar tokens)
  derivation_of tokens = is_derivation same exact kind_of p.shape.grammar clear tokens

  pub read_ok : (tokens rest : List (Lexed K)) (a : A) → p.read tokens ≡ Ok (a, rest) → Read tokens rest a
  read_ok tokens rest a e = ok_derived tokens rest a (derive same kind_of p.shape.grammar tokens) (derivation_of tokens) (sym (p.agrees tokens) ∙ e)

  pub read_err : (tokens rest : List (Lexed K)) → p.read tokens ≡ Err rest → IsReading p.shape.grammar (kinds tokens) (Err (kinds rest))
  read_err tokens rest e = err_derived tokens rest (derive same kind_of p.shape.grammar tokens) (derivation_of tokens) (sym (p.agrees tokens) ∙ e)

  -- tokens yield one thing
  pub one_yield : (tokens : List (Lexed K)) (a b : A) → Yields p tokens a → Yields p tokens b → a ≡ b
  one_yield tokens a b x y =
      let derivations : x.0 ≡ y.0 = one_derivation kind_of same exact p.shape.grammar clear tokens x.0 y.0 x.1 y.1 in
      x.2 ∙ ap p.make derivations ∙ sym y.2

  pub yields_text : (tokens : List (Lexed K)) (a : A) → Yields p tokens a → In p.shape.grammar (kinds tokens)
  yields_text tokens a y = spelled_in kind_of p.shape.grammar tokens y.0 y.1

  module _ (language : Language K) (tokens : Tokenized) where
    pub finds : (from : ℕ) (result : Result (A × ℕ) PartFault) → FindsBy language tokens p.read from result → FindsAt language p tokens from result
    finds from (Ok (a, next)) found =
        let read = read_ok (tokens_from language tokens from) (tokens_from language tokens next) a found.1 in
        record { front = read.front; splits = read.splits; within = found.0; yields = read.yields }
    finds from (Err (Syntax place kind)) found = record {
      at = found.0;
      within = found.1;
      reading = read_err (tokens_from language tokens from) (tokens_from language tokens found.0) found.2;
      place_is = found.3;
      kind_is = found.4;
    }
    finds from (Err Memory) found = tt

    -- ---- texts that end by themselves

    module _ (closed : extension p.shape.grammar ≡ []) where
      same_parts : (a b c d : List (Lexed K)) → a ++ b ≡ c ++ d → In p.shape.grammar (kinds a) → In p.shape.grammar (kinds c) → (a ≡ c) × (b ≡ d)
      same_parts a b c d e text other =
          let split : kinds a ++ kinds b ≡ kinds c ++ kinds d = sym (map-append kind_of a b) ∙ ap kinds e ∙ map-append kind_of c d in
          let front : kinds a ≡ kinds c = same_front same exact p.shape.grammar clear closed (kinds a) (kinds c) (kinds b) (kinds d) text other split in
          let count : length a ≡ length c = sym (length-map a kind_of) ∙ ap length front ∙ length-map c kind_of in
          same_split kind_of same exact a b c d e (omega (arith, count, ap length e, length-append a b, length-append c d))

      pub one_stands : (from n m : ℕ) (a b : A) → StandsAt language p tokens from n a → StandsAt language p tokens from m b → (n ≡ m) × (a ≡ b)
      one_stands from n m a b s t =
          let all = tokens_of language (texts tokens) in
          let parts = same_parts s.front (tokens_from language tokens n) t.front (tokens_from language tokens m) (sym s.splits ∙ t.splits) (yields_text s.front a s.yields) (yields_text t.front b t.yields) in
          let many : length all ≡ length (texts tokens) = numbered_length language 0 (texts tokens) in
          let rests : length all - n ≡ length all - m = sym (length-drop n all) ∙ ap length parts.1 ∙ length-drop m all in
          (omega (arith, rests, many, s.within, t.within), one_yield t.front a b (subst (λ (ts : List (Lexed K)). Yields p ts a) parts.0 s.yields) t.yields)

      pub no_syntax_fault : (from n : ℕ) (a : A) (place : Place) (kind : TextKind) → StandsAt language p tokens from n a → ¬ IsSyntaxFault language p tokens from place kind
      no_syntax_fault from n a place kind s fault =
          let split : kinds (tokens_from language tokens from) ≡ kinds s.front ++ kinds (tokens_from language tokens n) = ap kinds s.splits ∙ map-append kind_of s.front (tokens_from language tokens n) in
          no_fault same exact p.shape.grammar clear closed (kinds s.front) (kinds (tokens_from language tokens n)) (kinds (tokens_from language tokens fault.at)) (yields_text s.front a s.yields)
          (rw split at fault.reading)
