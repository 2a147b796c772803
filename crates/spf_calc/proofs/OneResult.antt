-- A text has one result: statements determine what they leave behind.
use Rattle.std.proofs.Common.{◌≡◌, ◌⊎◌, ℕ, ◌+◌, ◌≤◌, ◌<◌, ℤ, Option, None, Some, Result, Ok, Err, List, [], ◌∷◌, length, refl, sym, ap, ◌∙◌, subst, inl, inr, arith}
use Rattle.spf_lex.proofs.Finding.{one_yield, yields_text}
use Rattle.spf_lex.proofs.TokenReadings.{no_reading_and_fault, one_reading}
use Rattle.spf_lex.specs.Language.{tokens_of}
use Rattle.spf_lex.specs.Standing.{IsWhole}
use Rattle.spf_lex.specs.Tokens.{Tokenized, texts}
use Rattle.spf_rel.specs.Function.{HasOutcome, IsFunction, function_of}
use Rattle.spf_rel.specs.Simplified.{IsSimplification}
use Rattle.spf_rel.specs.declared.relation.Conj.{Conj}
use Rattle.spf_rel.specs.declared.relation.Rel.{Rel}
use Rattle.spf_term.specs.declared.fault.TermFault.TheVariants.{Wide}
use Rattle.spf_term.specs.declared.term.Term.{Term}
use Rattle.spf_reltext.specs.CalcWords.{calc_words}
use Rattle.spf_reltext.specs.Rules.{shape_of_all}
use Rattle.spf_reltext.specs.declared.names.RelNames.{RelNames}
use Rattle.spf_calc.specs.Answer.{AreResults, IsCalcAnswer, IsCalcText, IsResultOf}
use Rattle.spf_calc.specs.Evaluated.{Gives, meant, names_of, no_names}
use Rattle.spf_calc.specs.Productions.{calc}
use Rattle.spf_calc.specs.Rules.{exp_of, least_rule, value_named}
use Rattle.spf_calc.specs.Situation.{Situation, start, with_line, with_name}
use Rattle.spf_calc.specs.Statements.{AreSteps, IsStep, Leaves, LeavesFunction, Runs, function_text}
use Rattle.spf_calc.specs.Values.{Becomes, InverseBecomes, IsSimple, IsTooWide, MadeBecomes, ResultBecomes, combined, empty, inverted}
use Rattle.spf_calc.specs.declared.fault.CalcFault.{CalcFault}
use Rattle.spf_calc.specs.declared.fault.CalcFault.TheVariants.{Text, Rule, Memory}
use Rattle.spf_calc.specs.declared.raw.Operation.{Operation}
use Rattle.spf_calc.specs.declared.raw.RawCalc.{RawCalc}
use Rattle.spf_calc.specs.declared.raw.RawExp.{RawExp, Inverse', Two', more_of-RawExp, end_of-RawExp}
use Rattle.spf_calc.specs.declared.raw.RawExp.TheVariants.{Named, Literals, Nothing}
use Rattle.spf_calc.specs.declared.raw.RawStatement.{RawStatement}
use Rattle.spf_calc.specs.declared.raw.RawStatement.TheVariants.{Let, Show, Function}
use Rattle.spf_calc.specs.declared.value.Binding.{Binding}
use Rattle.spf_calc.specs.declared.value.Value.{Value}
use Rattle.spf_calc.specs.declared.value.Value.TheVariants.{Points, Pairs}
use Rattle.spf_calc.proofs.CalcTexts.{calc_clear, kinds_exact}

-- ---- a text has one raw tree

one_text : (text : List ℕ) (a b : RawCalc) → IsCalcText text a → IsCalcText text b → a ≡ b
one_text text a b is is_too =
    let spans : is_too.tokens.spans ≡ is.tokens.spans = one_reading text is_too.tokens.spans is.tokens.spans is_too.lexed is.lexed in
    let same : is_too.tokens ≡ is.tokens = λ i. record { text = (is_too.text_is ∙ sym is.text_is) i; spans = spans i } in
    one_yield kinds_exact calc calc_clear (tokens_of calc_words (texts is.tokens)) a b is.whole (subst (λ (tokens : Tokenized). IsWhole calc_words calc tokens b) same is_too.whole)

-- ---- values

-- there is but one simplification
abbrev One : Type 0
One = (outer : ℕ) (conjs made other : List Conj) → IsSimplification outer conjs made → IsSimplification outer conjs other → made ≡ other

module _ (one : One) where
  one_simple : (value made other : Value) → IsSimple value made → IsSimple value other → made ≡ other
  one_simple (Points s) (Points a) (Points b) x y = λ i. Points (record { arity = (x.0 ∙ sym y.0) i; conjs = one s.arity s.conjs a.conjs b.conjs x.1 y.1 i })
  one_simple (Points s) (Points a) (Pairs b) x y = absurd y
  one_simple (Points s) (Pairs a) b x y = absurd x
  one_simple (Pairs r) (Pairs a) (Pairs b) x y = λ i. Pairs (record { ins = (x.0 ∙ sym y.0) i; outs = (x.1 ∙ sym y.1) i; conjs = one (r.ins + r.outs) r.conjs a.conjs b.conjs x.2 y.2 i })
  one_simple (Pairs r) (Pairs a) (Points b) x y = absurd y
  one_simple (Pairs r) (Points a) b x y = absurd x

  not_wide : (value made : Value) → Becomes value (Some made) → ¬ IsTooWide value
  not_wide value made becomes (inl many) = omega (arith, many, becomes.0)
  not_wide (Points s) (Points a) becomes (inr (number, wide)) = let e = sym wide ∙ becomes.1.1.solved in absurd cc
  not_wide (Points s) (Pairs a) becomes (inr wide) = becomes.1
  not_wide (Pairs r) (Pairs a) becomes (inr (number, wide)) = let e = sym wide ∙ becomes.1.2.solved in absurd cc
  not_wide (Pairs r) (Points a) becomes (inr wide) = becomes.1

  one_becomes : (value : Value) (a b : Option Value) → Becomes value a → Becomes value b → a ≡ b
  one_becomes value None None x y = refl
  one_becomes value None (Some b) x y = absurd (not_wide value b y x)
  one_becomes value (Some a) None x y = absurd (not_wide value a x y)
  one_becomes value (Some a) (Some b) x y = ap Some (one_simple value a b x.1 y.1)

  one_made : (made : Option Value) (a b : Option Value) → MadeBecomes made a → MadeBecomes made b → a ≡ b
  one_made None a b x y = absurd x
  one_made (Some value) a b x y = one_becomes value a b x y

  one_inverse : (inside : Option Value) (a b : Option Value) → InverseBecomes inside a → InverseBecomes inside b → a ≡ b
  one_inverse None a b x y = x ∙ sym y
  one_inverse (Some value) a b x y = one_made (inverted value) a b x y

  one_combined : (operation : Operation) (first second : Option Value) (a b : Option Value) → ResultBecomes operation first second a → ResultBecomes operation first second b → a ≡ b
  one_combined operation None second a b x y = x ∙ sym y
  one_combined operation (Some first) None a b x y = x ∙ sym y
  one_combined operation (Some first) (Some second) a b x y = one_made (combined operation first second) a b x y

  -- ---- expressions and statements

  module _ (names : RelNames) where
    one_gives : (bindings : List Binding) (exp : RawExp) (a b : Option Value) → Gives names bindings exp a → Gives names bindings exp b → a ≡ b
    one_gives bindings (Named name) a b x y = one_made (value_named bindings name) a b x y
    one_gives bindings (Literals literals) a b x y = one_becomes (meant names (shape_of_all literals.list) literals.list) a b x y
    one_gives bindings (Nothing ins outs) a b x y = one_becomes (empty ins outs) a b x y
    one_gives bindings (Inverse' shape (more_of-RawExp exp end_of-RawExp)) a b x y =
        one_inverse x.0 a b x.2 (subst (λ (inside : Option Value). InverseBecomes inside b) (one_gives bindings exp y.0 x.0 y.1 x.1) y.2)
    one_gives bindings (Two' operation shape (more_of-RawExp first end_of-RawExp) other (more_of-RawExp second end_of-RawExp)) a b x y =
        let left : y.0 ≡ x.0 = one_gives bindings first y.0 x.0 y.2 x.2 in
        let right : y.1 ≡ x.1 = one_gives bindings second y.1 x.1 y.3 x.3 in
        one_combined operation x.0 x.1 a b x.4 (subst (λ (inside : Option Value). ResultBecomes operation x.0 inside b) right (subst (λ (inside : Option Value). ResultBecomes operation inside y.1 b) left y.4))

    one_outcome : (rel : Rel) (a b : Result (Option (List Term)) ℤ) → HasOutcome rel a → HasOutcome rel b → a ≡ b
    one_outcome rel a b x y =
        sym x.outcome ∙ ap (function_of rel.ins rel.outs) (one (rel.ins + rel.outs) rel.conjs x.simplified y.simplified x.is y.is) ∙ y.outcome

    not_both : (rel : Rel) (found : Option (List Term)) (number : ℤ) → IsFunction rel (Ok found) → ¬ IsFunction rel (Err (Wide number))
    not_both rel found number is (inl wide) = let e = sym wide ∙ is.is.solved in absurd cc
    not_both rel found number is (inr has) = let e = one_outcome rel (Ok found) (Err number) is has in absurd cc

    same_found : (a b : Option (List Term)) → ◌≡◌ {A = Result (Option (List Term)) ℤ} (Ok a) (Ok b) → a ≡ b
    same_found a b e = cc

    one_function : (state : Situation) (value : Value) (a b : Option Situation) → LeavesFunction names state value a → LeavesFunction names state value b → a ≡ b
    one_function state (Points set) a b x y = absurd x
    one_function state (Pairs rel) None None x y = refl
    one_function state (Pairs rel) None (Some b) x y = absurd (not_both rel y.0 x.0 y.1 x.1)
    one_function state (Pairs rel) (Some a) None x y = absurd (not_both rel x.0 y.0 x.1 y.1)
    one_function state (Pairs rel) (Some a) (Some b) x y =
        let found : x.0 ≡ y.0 = same_found x.0 y.0 (one_outcome rel (Ok x.0) (Ok y.0) x.1 y.1) in
        ap Some (x.2 ∙ ap (λ (of : Option (List Term)). with_line state (function_text names rel.ins of)) found ∙ sym y.2)

    one_leaves : (state : Situation) (statement : RawStatement) (value : Value) (a b : Option Situation) → Leaves names state statement value a → Leaves names state statement value b → a ≡ b
    one_leaves state (Let name exp) value a b x y = x ∙ sym y
    one_leaves state (Show exp) value a b x y = x ∙ sym y
    one_leaves state (Function exp) value a b x y = one_function state value a b x y

    module _ (state : Situation) (statement : RawStatement) where
      same_value : (a b : Value) → Gives names state.bindings (exp_of statement) (Some a) → Gives names state.bindings (exp_of statement) (Some b) → a ≡ b
      same_value a b x y = let e = one_gives state.bindings (exp_of statement) (Some a) (Some b) x y in cc

      one_runs : (a b : Situation) → Runs names state statement (Some a) → Runs names state statement (Some b) → a ≡ b
      one_runs a b x y =
          let value : y.0 ≡ x.0 = same_value y.0 x.0 y.1 x.1 in
          let e = one_leaves state statement x.0 (Some a) (Some b) x.2 (subst (λ (value : Value). Leaves names state statement value (Some b)) value y.2) in
          cc

      not_none : (next : Situation) → Runs names state statement (Some next) → ¬ Runs names state statement None
      not_none next runs (inl wide) = let e = one_gives state.bindings (exp_of statement) (Some runs.0) None runs.1 wide in absurd cc
      not_none next runs (inr (value, gives, leaves)) =
          let same : value ≡ runs.0 = same_value value runs.0 gives runs.1 in
          let e = one_leaves state statement runs.0 (Some next) None runs.2 (subst (λ (value : Value). Leaves names state statement value None) same leaves) in
          absurd cc

      not_broken : (number at rule : ℕ) (next : Situation) → IsStep names number state statement (Ok next) → ¬ IsStep names number state statement (Err (Rule at rule))
      not_broken number at rule next step (_, inl broken) = let e = sym step.0 ∙ broken in absurd cc
      not_broken number at rule next step (_, inr (_, _, runs)) = not_none next step.1 runs

    -- ---- statements one behind another

    one_end : (statements : List RawStatement) (number : ℕ) (state end other : Situation) → AreSteps names number state statements (Ok end) → AreSteps names number state statements (Ok other) → end ≡ other
    one_end [] number state end other x y = x ∙ sym y
    one_end (statement ∷ statements) number state end other (next, step, later) (next_too, step_too, later_too) =
        let same : next_too ≡ next = one_runs state statement next_too next step_too.1 step.1 in
        one_end statements (number + 1) next end other later (subst (λ (of : Situation). AreSteps names (number + 1) of statements (Ok other)) same later_too)

    no_fault : (statements : List RawStatement) (number : ℕ) (state end : Situation) (at rule : ℕ) → AreSteps names number state statements (Ok end) → ¬ AreSteps names number state statements (Err (Rule at rule))
    no_fault [] number state end at rule x y = y
    no_fault (statement ∷ statements) number state end at rule (next, step, later) (inl broken) = not_broken state statement number at rule next step broken
    no_fault (statement ∷ statements) number state end at rule (next, step, later) (inr (next_too, step_too, fault)) =
        let same : next_too ≡ next = one_runs state statement next_too next step_too.1 step.1 in
        no_fault statements (number + 1) next end at rule later (subst (λ (of : Situation). AreSteps names (number + 1) of statements (Err (Rule at rule))) same fault)

  -- ---- texts

  pub one_result : (text results : List ℕ) (answer : Result (List ℕ) CalcFault) → IsResultOf text results → IsCalcAnswer text answer → (answer ≡ Ok results) ⊎ (answer ≡ Err Memory)
  one_result text results (Ok other) is is_too =
      let raw : is_too.raw ≡ is.raw = one_text text is_too.raw is.raw is_too.is_text is.is_text in
      let steps : AreResults is.raw (Ok is_too.end) = subst (λ (of : RawCalc). AreResults of (Ok is_too.end)) raw is_too.steps in
      let end : is_too.end ≡ is.end = one_end (names_of no_names is.raw.statements) is.raw.statements 1 start is_too.end is.end steps is.steps in
      inl (ap Ok (is_too.results_are ∙ ap (λ (of : Situation). of.shown) end ∙ sym is.results_are))
  one_result text results (Err (Text place kind)) is (inl (lacks, _)) = absurd (no_reading_and_fault text is.is_text.tokens.spans lacks.0 is.is_text.lexed lacks.1)
  one_result text results (Err (Text place kind)) is (inr fault) =
      let spans = one_reading text fault.tokens.spans is.is_text.tokens.spans fault.lexed is.is_text.lexed in
      let same : is.is_text.tokens ≡ fault.tokens = λ i. record { text = (is.is_text.text_is ∙ sym fault.text_is) i; spans = sym spans i } in
      let whole : IsWhole calc_words calc fault.tokens is.raw = subst (λ (tokens : Tokenized). IsWhole calc_words calc tokens is.raw) same is.is_text.whole in
      absurd (fault.stops.no_text (yields_text kinds_exact calc calc_clear (tokens_of calc_words (texts fault.tokens)) is.raw whole))
  one_result text results (Err (Rule at rule)) is fault =
      let raw : fault.raw ≡ is.raw = one_text text fault.raw is.raw fault.is_text is.is_text in
      absurd (no_fault (names_of no_names is.raw.statements) is.raw.statements 1 start is.end at rule is.steps (subst (λ (of : RawCalc). AreResults of (Err (Rule at rule))) raw fault.steps))
  one_result text results (Err Memory) is free = inr refl
