-- What bytes answer is one thing, so that nothing but want of memory keeps a text from being written.
use Rattle.std.proofs.Common.{◌≡◌, ℕ, ◌*◌, ◌≤◌, List, length, drop, Option, None, Some, IfSome, Result, Ok, Err, refl, sym, ap, subst, ◌∙◌, inl, inr, arith}
use Rattle.std.specs.Prelude.{◌⊎◌, ◌∷◌, [], if◌then◌else◌, nat_eq, slice_index_or}
use Rattle.std.proofs.lemmas.Bool.{cases_lt}
use Rattle.std.proofs.lemmas.List.{length-append, take-append-drop}
use Rattle.spf_io.specs.Stream.{Takes}
use Rattle.spf_space.specs.Layout.{iterations, limit}
use Rattle.spf_space.specs.declared.shape.LoopShape.{LoopShape}
use Rattle.spf_space.specs.declared.shape.Shape.{Shape}
use Rattle.spf_touch.specs.declared.touch.Touch.{Touch}
use Rattle.spf_store.specs.Shaped.{IsShapeAnswer, loops_of, size}
use Rattle.spf_store.specs.declared.shapes.ShapeFault.{ShapeFault}
use Rattle.spf_store.specs.declared.shapes.ShapeFault.TheVariants as shape_is
use Rattle.spf_access.specs.Answer.{IsAccessAnswer}
use Rattle.spf_calc.specs.Answer.{IsCalcAnswer, IsResultOf}
use Rattle.spf_calc.specs.declared.fault.CalcFault.{CalcFault}
use Rattle.spf_calc.specs.declared.fault.CalcFault.TheVariants as calc_is
use Rattle.spf_access.specs.declared.access_fault.AccessFault.TheVariants as access_is
use Rattle.spf_script.specs.Resolved.{IsResolveAnswer}
use Rattle.spf_script.specs.declared.resolved.Step.{Step}
use Rattle.spf_script.specs.declared.resolving.ScriptFault.{ScriptFault}
use Rattle.spf_script.specs.declared.resolving.ScriptFault.TheVariants as script_is
use Rattle.spf_script.specs.declared.step.TextStep.{TextStep}
use Rattle.spf_plan.specs.Planned.{Planned}
use Rattle.spf_plan.specs.Taken.{IsPlanAnswer}
use Rattle.spf_plan.specs.declared.plan_fault.PlanFault.{PlanFault}
use Rattle.spf_plan.specs.declared.plan_fault.PlanFault.TheVariants as plan_is
use Rattle.spf_input.specs.Answer.{IsBundleAnswer}
use Rattle.spf_input.specs.Stage.{OneAnswer, ◌then◌, with_given}
use Rattle.spf_input.specs.declared.reading.Bundle.{Bundle}
use Rattle.spf_input.specs.declared.fault.InputFault.{InputFault}
use Rattle.spf_input.specs.declared.fault.InputFault.TheVariants as input_is
use Rattle.spf_input.proofs.OneBundle.{one_whole_bundle}
use Rattle.spf_input.proofs.Stages.{one_then}
use Rattle.spf_top.specs.declared.outcome.Outcome.{Outcome}
use Rattle.spf_top.specs.declared.outcome.Outcome.TheVariants.{Done, Memory, Usage, ReadFault, WriteFault, Text, Kernel, Input, Range, Script, Illegal, Limit}
use Rattle.spf_top.specs.declared.outcome.What.TheVariants.{Bytes}
use Rattle.spf_top.specs.Outcome.{calc_refused, plan_refused, refused, script_refused, shape_refused, walk_refused}
use Rattle.spf_top.specs.Words.{AsksFor, IsAccepted, IsRefusedAt, word_of}
use Rattle.spf_top.specs.declared.words.Asked.{Asked}
use Rattle.spf_top.specs.declared.words.Asked.TheVariants as asked_is
use Rattle.spf_top.specs.declared.words.Goal.{Goal}
use Rattle.spf_top.specs.declared.words.Goal.TheVariants.{Run, Plan, Emit}
use Rattle.spf_top.specs.Command.{AnswersWords, AnswersInput, HasLoopsOf, IsDoneOrMemory, IsOfBytes, answers, calculates, carries_out, compiles, emits, executes, finishes, fits, makes, measures, plans, reads, refusing, resolves, shows, walks}
use Rattle.spf_top.proofs.PlanTexts.{one_plan_text}
use Rattle.spf_top.proofs.Shapes.{same_shape}

-- accepted words are refused at no word
not_refused : (words : List (List ℕ)) (word : ℕ) → IsAccepted words → IsRefusedAt words word → ⊥
not_refused words word accepted refused =
    elim (cases_lt (length words) word) [
      | inl past ↦ refused.behind (omega (arith, refused.last)) accepted
      | inr within ↦ refused.here within (drop word words, (accepted.0, take-append-drop word words ∙ accepted.1))
    ]

-- the command whose word begins as the first one
abbrev by_letter : List (List ℕ) → Asked
by_letter words = if nat_eq (slice_index_or (slice_index_or words 0 []) 0 0) 99 then asked_is.Calc else if nat_eq (slice_index_or (slice_index_or words 0 []) 0 0) 112 then asked_is.Bundle Plan else if nat_eq (slice_index_or (slice_index_or words 0 []) 0 0) 101 then asked_is.Bundle Emit else asked_is.Bundle Run

spelled : (asked : Asked) → by_letter (word_of asked ∷ []) ≡ asked
spelled (asked_is.Bundle Run) = refl
spelled (asked_is.Bundle Plan) = refl
spelled (asked_is.Bundle Emit) = refl
spelled asked_is.Calc = refl

-- no words ask for two commands
one_command : (words : List (List ℕ)) (asked other : Asked) → AsksFor words asked → AsksFor words other → asked ≡ other
one_command words asked other is is_too = sym (spelled asked) ∙ ap by_letter (sym is ∙ is_too) ∙ spelled other

-- ---- each stage has one answer

one_fits : OneAnswer Memory fits
one_fits bytes same (Ok other) fit fit_too = inl (ap Ok (fit_too.0 ∙ sym fit.0))
one_fits bytes same (Err refusal) fit long = absurd (omega (arith, fit.1, long.1))

-- nothing but one fault is answered besides a value; told as outcomes, nothing but one outcome
module _ {S B : Type 0} (free : S) where
  same_value : (b other : B) (answer : Result B S) → answer ≡ Ok other → (answer ≡ Ok b) ⊎ (answer ≡ Err free) → other ≡ b
  same_value b other answer is (inl e) = cc
  same_value b other answer is (inr e) = absurd cc

  same_fault : (b : B) (fault : S) (answer : Result B S) → answer ≡ Err fault → (answer ≡ Ok b) ⊎ (answer ≡ Err free) → fault ≡ free
  same_fault b fault answer is (inl e) = absurd cc
  same_fault b fault answer is (inr e) = cc

module _ {S A B : Type 0} (free : S) (refuse : S → Outcome) (p : A → Result B S → Type 0) where
  one_refusing : OneAnswer free p → OneAnswer (refuse free) (refusing refuse p)
  one_refusing one a b (Ok other) is is_too = inl (ap Ok (same_value free b other (Ok other) refl (one a b (Ok other) is is_too)))
  one_refusing one a b (Err refusal) is (fault, failed, same) = inr (ap Err (same ∙ ap refuse (same_fault free b fault (Err fault) refl (one a b (Err fault) is failed))))

-- a stage that answers what it was given too
one_with_given : {A B : Type 0} (p : A → Result B Outcome → Type 0) → OneAnswer Memory p → OneAnswer Memory (with_given p)
one_with_given p one a (same, b) (Ok (other, c)) (is, found) (is_too, found_too) = inl (λ i. Ok ((is_too ∙ sym is) i, same_value Memory b c (Ok c) refl (one a b (Ok c) found found_too) i))
one_with_given p one a (same, b) (Err refusal) (is, found) failed = inr (ap Err (same_fault Memory b refusal (Err refusal) refl (one a b (Err refusal) found failed)))

-- of two answers of which neither is out of memory, each is the other
by_law : {S B : Type 0} (free : S) (b : B) (result : Result B S) → (result ≡ Ok b) ⊎ ((result ≡ Err free) ⊎ (Ok b ≡ Err free)) → (result ≡ Ok b) ⊎ (result ≡ Err free)
by_law free b result (inl e) = inl e
by_law free b result (inr (inl e)) = inr e
by_law free b result (inr (inr e)) = absurd cc

pub one_reads : OneAnswer Memory reads
one_reads = one_refusing input_is.Memory refused IsBundleAnswer one_whole_bundle

one_shape : OneAnswer shape_is.Memory (λ (bundle : Bundle). IsShapeAnswer bundle.env bundle.kernel)
one_shape bundle b (Ok other) is is_too = inl (ap Ok (same_shape other b (is_too.steps ∙ sym is.steps) (is_too.loops ∙ sym is.loops) (is_too.arrays ∙ sym is.arrays)))
one_shape bundle b (Err (shape_is.Units count)) is many =
    let few : size bundle.env bundle.kernel.steps * iterations (loops_of bundle.env bundle.kernel) ≤ limit = subst (λ (units : ℕ). units ≤ limit) (λ i. is.steps i * iterations (is.loops i)) b.layout.units in
    absurd (omega (arith, few, many.units, many.many))
one_shape bundle b (Err shape_is.Memory) is free = inr refl

one_access : OneAnswer access_is.Memory (λ (given : Bundle × Shape). IsAccessAnswer given.0.env given.0.kernel given.1.steps)
one_access given b (Ok other) is is_too = inl (ap Ok (is_too.1 ∙ sym is.1))
one_access given b (Err (access_is.Range loop_no iteration site value)) is some = let e = sym is.0 ∙ some in absurd cc
one_access given b (Err (access_is.Visits count)) is some = let e = sym is.0 ∙ some in absurd cc
one_access given b (Err access_is.Memory) is free = inr refl

one_executes : OneAnswer Memory executes
one_executes given text (Ok other) ran ran_too = inl (ap Ok (ran_too ∙ sym ran))
one_executes given text (Err refusal) ran free = inr (ap Err free)

one_shows : OneAnswer Memory shows
one_shows given text (Ok other) shown shown_too = inl (ap Ok (one_plan_text given.0.0.1 given.0.0.0.1 given.1 other text shown_too shown))
one_shows given text (Err refusal) shown free = inr (ap Err free)

one_emits : OneAnswer Memory emits
one_emits given text (Ok other) emitted emitted_too = inl (ap Ok (emitted_too ∙ sym emitted))
one_emits given text (Err refusal) emitted free = inr (ap Err free)

one_finishes : (goal : Goal) → OneAnswer Memory (finishes goal)
one_finishes Run = one_executes
one_finishes Plan = one_shows
one_finishes Emit = one_emits

-- each may find no memory
pub out_of_memory : (goal : Goal) (given : (((Bundle × Shape) × List (List Touch)) × List Step) × Planned) (refusal : Outcome) → refusal ≡ Memory → finishes goal given (Err refusal)
out_of_memory Run given refusal free = free
out_of_memory Plan given refusal free = free
out_of_memory Emit given refusal free = free

-- the laws of the layers below
pub record Laws : Type 0 where
  pub resolve : (shape : Shape) (plugs : ℕ) (script : List TextStep) (a b : Result (List Step) ScriptFault) → IsResolveAnswer shape plugs script a → IsResolveAnswer shape plugs script b →
      (a ≡ b) ⊎ ((a ≡ Err script_is.Memory) ⊎ (b ≡ Err script_is.Memory))
  pub plan : (touches : List (List Touch)) (shape : Shape) (steps : List Step) (a b : Result Planned PlanFault) → IsPlanAnswer touches shape steps a → IsPlanAnswer touches shape steps b →
      (a ≡ b) ⊎ ((a ≡ Err plan_is.Memory) ⊎ (b ≡ Err plan_is.Memory))
  pub calculation : (text results : List ℕ) (answer : Result (List ℕ) CalcFault) → IsResultOf text results → IsCalcAnswer text answer → (answer ≡ Ok results) ⊎ (answer ≡ Err calc_is.Memory)

module _ (laws : Laws) where
  one_resolves : OneAnswer Memory resolves
  one_resolves = one_refusing script_is.Memory script_refused _ (λ given b result is is_too. by_law script_is.Memory b result (laws.resolve given.0.1 0 given.0.0.script result (Ok b) is_too is))

  one_plans : OneAnswer Memory plans
  one_plans = one_refusing plan_is.Memory plan_refused _ (λ given b result is is_too. by_law plan_is.Memory b result (laws.plan given.0.1 given.0.0.1 given.1 result (Ok b) is_too is))

  one_carries_out : (goal : Goal) → OneAnswer Memory (carries_out goal)
  one_carries_out goal =
      one_then Memory (with_given walks) (with_given resolves then (with_given plans then finishes goal)) (one_with_given walks (one_refusing access_is.Memory walk_refused _ one_access))
      (one_then Memory (with_given resolves) (with_given plans then finishes goal) (one_with_given resolves one_resolves) (one_then Memory (with_given plans) (finishes goal) (one_with_given plans one_plans) (one_finishes goal)))

  one_makes : (asked : Asked) → OneAnswer Memory (makes asked)
  one_makes (asked_is.Bundle goal) =
      one_then Memory reads (compiles goal) one_reads
      (one_then Memory (with_given measures) (carries_out goal) (one_with_given measures (one_refusing shape_is.Memory shape_refused _ one_shape)) (one_carries_out goal))
  one_makes asked_is.Calc = one_refusing calc_is.Memory calc_refused IsCalcAnswer laws.calculation

  one_answers : (asked : Asked) → OneAnswer Memory (answers asked)
  unfolding answers
  one_answers asked = one_then Memory fits (makes asked) one_fits (one_makes asked)

-- bytes for which a text is written are refused for want of memory alone
refused_for_memory : Laws → (asked : Asked) (bytes text : List ℕ) (refusal : Outcome) → answers asked bytes (Ok text) → answers asked bytes (Err refusal) → refusal ≡ Memory
refused_for_memory laws asked bytes text refusal wrote refused = same_fault Memory text refusal (Err refusal) refl (one_answers laws asked bytes text (Err refusal) wrote refused)

-- ---- the names of loops

-- the bytes are one bundle, so that loops that are right for it are the right ones
pub has_loops : (bytes : List ℕ) (bundle : Bundle) (outcome : Outcome) (loops : List LoopShape) → reads bytes (Ok bundle) → loops ≡ loops_of bundle.env bundle.kernel → HasLoopsOf bytes outcome loops
has_loops bytes bundle outcome loops is same names other is_too =
    subst (λ (given : Bundle). loops ≡ loops_of given.env given.kernel) (same_value Memory other bundle (Ok bundle) refl (one_reads bytes other (Ok bundle) is_too is)) same

-- a text that is no bundle isn't refused in a loop, and neither is one with too many units
pub no_loops : (bytes : List ℕ) (fault : InputFault) (loops : List LoopShape) → HasLoopsOf bytes (refused fault) loops
no_loops bytes (input_is.Text place kind) loops names = absurd names
no_loops bytes (input_is.Kernel place rule) loops names = absurd names
no_loops bytes (input_is.Input given place rule) loops names = absurd names
no_loops bytes input_is.Memory loops names = absurd names

pub no_loops_measured : (bytes : List ℕ) (bundle : Bundle) (refusal : Outcome) (loops : List LoopShape) → measures bundle (Err refusal) → HasLoopsOf bytes refusal loops
no_loops_measured bytes bundle refusal loops (fault, failed, same) = subst (λ (outcome : Outcome). HasLoopsOf bytes outcome loops) (sym same) (by fault) where
  by : (fault : ShapeFault) → HasLoopsOf bytes (shape_refused fault) loops
  by (shape_is.Units count) names = absurd names
  by shape_is.Memory names = absurd names

-- neither is one without results
pub no_loops_calculated : (bytes : List ℕ) (refusal : Outcome) (loops : List LoopShape) → calculates bytes (Err refusal) → HasLoopsOf bytes refusal loops
no_loops_calculated bytes refusal loops (fault, failed, same) = subst (λ (outcome : Outcome). HasLoopsOf bytes outcome loops) (sym same) (by fault) where
  by : (fault : CalcFault) → HasLoopsOf bytes (calc_refused fault) loops
  by (calc_is.Text place kind) names = absurd names
  by (calc_is.Rule statement rule) names = absurd names
  by calc_is.Memory names = absurd names

-- ---- the call

module _ (laws : Laws) (asked : Asked) (words : List (List ℕ)) (bytes : List ℕ) (before after : Option (List ℕ)) (R W : Type 0) where
  by_outcome : (outcome : Outcome) → AnswersWords words outcome → AnswersInput asked bytes before after outcome → (outcome ≡ ReadFault → R) → (outcome ≡ WriteFault → W) → AsksFor words asked
      → (text : List ℕ) → answers asked bytes (Ok text) → ¬ R → ¬ W → IsDoneOrMemory outcome
  by_outcome Done told input read write asks text wrote not_read not_write = tt
  by_outcome Memory told input read write asks text wrote not_read not_write = tt
  by_outcome (Usage word) told input read write asks text wrote not_read not_write = absurd (not_refused words word (asked, asks) told)
  by_outcome ReadFault told input read write asks text wrote not_read not_write = absurd (not_read (read refl))
  by_outcome WriteFault told input read write asks text wrote not_read not_write = absurd (not_write (write refl))
  by_outcome (Text place kind) told input read write asks text wrote not_read not_write = let e = refused_for_memory laws asked bytes text (Text place kind) wrote input in absurd cc
  by_outcome (Kernel place rule) told input read write asks text wrote not_read not_write = let e = refused_for_memory laws asked bytes text (Kernel place rule) wrote input in absurd cc
  by_outcome (Input name place rule) told input read write asks text wrote not_read not_write = let e = refused_for_memory laws asked bytes text (Input name place rule) wrote input in absurd cc
  by_outcome (Range loop_no iteration site value) told input read write asks text wrote not_read not_write = let e = refused_for_memory laws asked bytes text (Range loop_no iteration site value) wrote input in absurd cc
  by_outcome (Script step rule) told input read write asks text wrote not_read not_write = let e = refused_for_memory laws asked bytes text (Script step rule) wrote input in absurd cc
  by_outcome (Illegal step p q) told input read write asks text wrote not_read not_write = let e = refused_for_memory laws asked bytes text (Illegal step p q) wrote input in absurd cc
  by_outcome (Limit what count) told input read write asks text wrote not_read not_write = let e = refused_for_memory laws asked bytes text (Limit what count) wrote input in absurd cc

pub completes : Laws → (asked : Asked) (words : List (List ℕ)) (held before after : Option (List ℕ)) (read_rose write_rose : Type 0) (outcome : Outcome) → AnswersWords words outcome → IfSome held (λ bytes. (asked : Asked) → AsksFor words asked → AnswersInput asked bytes before after outcome)
    → (outcome ≡ ReadFault → read_rose) → (outcome ≡ WriteFault → write_rose) → AsksFor words asked
    → IfSome held (λ bytes. (text : List ℕ) → answers asked bytes (Ok text) → ¬ read_rose → ¬ write_rose → IsDoneOrMemory outcome)
completes laws asked words None before after R W outcome told input read write asks = tt
completes laws asked words (Some bytes) before after R W outcome told input read write asks = by_outcome laws asked words bytes before after R W outcome told (input asked asks) read write asks

-- what is known of the bytes that were read is known of those that were held
pub of_whole : (held : Option (List ℕ)) (bytes : List ℕ) → IfSome held (λ told. told ≡ bytes) → (P : List ℕ → Type 0) → P bytes → IfSome held P
of_whole None bytes e P h = tt
of_whole (Some told) bytes e P h = subst P (sym e) h

-- what is known of the command that the words ask for is known of each that they ask for
pub of_asked : (words : List (List ℕ)) (asked : Asked) → AsksFor words asked → (P : Asked → Type 0) → P asked → (other : Asked) → AsksFor words other → P other
of_asked words asked is P h other is_too = subst P (one_command words asked other is is_too) h

-- a refusal of the bytes is their answer
pub refusal_answers : (asked : Asked) (bytes : List ℕ) (before after : Option (List ℕ)) (refusal : Outcome) → IsOfBytes refusal → answers asked bytes (Err refusal) → AnswersInput asked bytes before after refusal
refusal_answers asked bytes before after Done own refused = absurd own
refusal_answers asked bytes before after Memory own refused = tt
refusal_answers asked bytes before after (Usage word) own refused = absurd own
refusal_answers asked bytes before after ReadFault own refused = absurd own
refusal_answers asked bytes before after WriteFault own refused = absurd own
refusal_answers asked bytes before after (Text place kind) own refused = refused
refusal_answers asked bytes before after (Kernel place rule) own refused = refused
refusal_answers asked bytes before after (Input name place rule) own refused = refused
refusal_answers asked bytes before after (Range loop_no iteration site value) own refused = refused
refusal_answers asked bytes before after (Script step rule) own refused = refused
refusal_answers asked bytes before after (Illegal step p q) own refused = refused
refusal_answers asked bytes before after (Limit what count) own refused = refused

-- and the words that asked for it are accepted
pub words_accepted : (words : List (List ℕ)) (refusal : Outcome) → IsOfBytes refusal → IsAccepted words → AnswersWords words refusal
words_accepted words Done own accepted = accepted
words_accepted words Memory own accepted = accepted
words_accepted words (Usage word) own accepted = absurd own
words_accepted words ReadFault own accepted = accepted
words_accepted words WriteFault own accepted = accepted
words_accepted words (Text place kind) own accepted = accepted
words_accepted words (Kernel place rule) own accepted = accepted
words_accepted words (Input name place rule) own accepted = accepted
words_accepted words (Range loop_no iteration site value) own accepted = accepted
words_accepted words (Script step rule) own accepted = accepted
words_accepted words (Illegal step p q) own accepted = accepted
words_accepted words (Limit what count) own accepted = accepted

-- a source from which one byte too many was taken held too many
pub too_many : (words : List (List ℕ)) (held rest : Option (List ℕ)) (front : List ℕ) → length front ≡ 67108865 → Takes held front rest → IfSome held (λ bytes. (asked : Asked) → AsksFor words asked → answers asked bytes (Err (Limit Bytes 67108865)))
unfolding answers
too_many words held None front long taken = rw taken tt
too_many words held (Some rest) front long taken = rw taken (λ asked asks. inl (refl, omega (arith, long, length-append front rest)))
