-- What reading all tokens of a text answers is right.
use Rattle.std.proofs.Common.{◌≡◌, ℕ, ◌≤◌, ◌<◌, Bool, true, List, [], ◌∷◌, ◌++◌, length, take, drop, Result, Ok, Err, refl, sym, ap, subst, ◌∙◌, arith, inl, inr, append_assoc, append-nil}
use Rattle.std.proofs.lemmas.List.{length-drop, length-map, map-append, take-append-drop}
use Rattle.spf_base.specs.declared.place.Place.{Place}
use Rattle.spf_lex.specs.Grammar.{Grammar, In, Begins, IsExact, IsReading, rest_of}
use Rattle.spf_lex.specs.Language.{Language, Lexed, kind_of, kinds, tokens_of}
use Rattle.spf_lex.specs.LookAhead.{is_clear}
use Rattle.spf_lex.specs.Production.{Production}
use Rattle.spf_lex.specs.Standing.{tokens_from, place_from, kind_from, Yields, StopsAt, ReadsAllBy, IsWholeFault, ReadsWhole}
use Rattle.spf_lex.specs.declared.text_kind.TextKind.{TextKind}
use Rattle.spf_lex.proofs.Numbered.{numbered_length}
use Rattle.std.proofs.lemmas.List.{append_cancel_right}
use Rattle.spf_lex.specs.Tokens.{Tokenized, texts}
use Rattle.spf_lex.specs.declared.parts.PartFault.{PartFault}
use Rattle.spf_lex.specs.declared.parts.PartFault.TheVariants.{Syntax, Memory}
use Rattle.spf_lex.proofs.Finding.{read_ok, read_err}

-- where reading stopped at a fault, or in front of a kind, the whole list is no text
no_whole : {K : Type 0} (g : Grammar K) (all : List K) (o : Result (List K) (List K)) → IsReading g all o → (In g all → rest_of o ≡ [] → ⊥) → ¬ In g all
no_whole g all o reading at_end text = by (rest_of o) refl where
  by : (rest : List _) → rest_of o ≡ rest → ⊥
  by [] e = at_end text e
  by (k ∷ more) e =
      reading.longest k more e (more, rw append_assoc (subst (In g) (reading.splits ∙ ap (λ (ks : List _). reading.front ++ ks) e) text))

module _ {K A : Type 0} {same : K → K → Bool} {empty : Bool} (exact : IsExact same) (p : Production same empty A) (clear : is_clear same p.shape.grammar ≡ true) (language : Language K) (tokens : Tokenized) where
  abbrev all : List (Lexed K)
  all = tokens_of language (texts tokens)

  -- a reading of all tokens that left those from `at` on took those before it
  front_is : (at : ℕ) (front : List K) → kinds all ≡ front ++ kinds (drop at all) → front ≡ kinds (take at all)
  front_is at front splits =
      append_cancel_right front (kinds (take at all)) (kinds (drop at all))
      (sym splits ∙ ap kinds (sym (take-append-drop at all)) ∙ map-append kind_of (take at all) (drop at all))

  module _ (at : ℕ) (o : Result (List K) (List K)) (reading : IsReading p.shape.grammar (kinds all) o) (left : rest_of o ≡ kinds (drop at all)) where
    before : reading.front ≡ kinds (take at all)
    before = front_is at reading.front (reading.splits ∙ ap (λ (ks : List K). reading.front ++ ks) left)

    begun : Begins p.shape.grammar (kinds (take at all))
    begun = subst (Begins p.shape.grammar) before reading.begins

    no_longer : (next : Lexed K) (others : List (Lexed K)) → tokens_from language tokens at ≡ next ∷ others → ¬ Begins p.shape.grammar (kinds (take at all) ++ next.kind ∷ [])
    no_longer next others is longer = reading.longest next.kind (kinds others) (left ∙ ap kinds is) (rw (← before) at longer)

    whole_fault : (place : Place) (kind : TextKind) → at ≤ length (texts tokens) → (In p.shape.grammar (kinds all) → rest_of o ≡ [] → ⊥) → place ≡ place_from tokens at → kind ≡ kind_from tokens at → IsWholeFault language p tokens place kind
    whole_fault place kind within at_end place_is kind_is = record {
      at = at;
      within = within;
      begins = begun;
      longest = no_longer;
      no_text = no_whole p.shape.grammar (kinds all) o reading at_end;
      place_is = place_is;
      kind_is = kind_is;
    }

  -- where nothing is left behind a fault, all tokens were taken, and they are no text
  none_left : (at : ℕ) (reading : IsReading p.shape.grammar (kinds all) (Err (kinds (drop at all)))) → In p.shape.grammar (kinds all) → kinds (drop at all) ≡ [] → ⊥
  none_left at reading text e = reading.verdict (subst (In p.shape.grammar) (reading.splits ∙ ap (λ (ks : List K). reading.front ++ ks) e ∙ append-nil reading.front) text)

  some_left : (at : ℕ) → at < length (texts tokens) → kinds (drop at all) ≡ [] → ⊥
  some_left at inside e =
      absurd (omega (arith, ap length e, length-map (drop at all) kind_of, length-drop at all, numbered_length language 0 (texts tokens)))

  pub reads_whole : (result : Result A PartFault) → ReadsAllBy language tokens p.read result → ReadsWhole language p tokens result
  reads_whole (Ok a) found =
      let read = read_ok exact p clear all [] a found in
      subst (λ (ts : List (Lexed K)). Yields p ts a) (sym (read.splits ∙ append-nil read.front)) read.yields
  reads_whole (Err (Syntax place kind)) (at, within, stops, place_is, kind_is) = by stops where
    by : StopsAt language tokens p.read at → IsWholeFault language p tokens place kind
    by (inl failed) =
        let reading = read_err exact p clear all (drop at all) failed in
        whole_fault at (Err (kinds (drop at all))) reading refl place kind within (none_left at reading) place_is kind_is
    by (inr (a, inside, took)) =
        let read = read_ok exact p clear all (drop at all) a took in
        whole_fault at (Ok (kinds (drop at all))) read.reading refl place kind within (λ text e. some_left at inside e) place_is kind_is
  reads_whole (Err Memory) found = tt
