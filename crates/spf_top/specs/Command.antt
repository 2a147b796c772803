-- What one call of `command` means.
use Rattle.std.specs.Prelude.{ℕ, ◌≡◌, ◌≤◌, ◌<◌, List, length, take, Option, Result, Ok, Err, ⊤}
use Rattle.spf_access.specs.Answer.{IsAccessAnswer}
use Rattle.spf_calc.specs.Answer.{IsCalcAnswer}
use Rattle.spf_emit.specs.ComposedText.{composed_text}
use Rattle.spf_input.specs.Answer.{IsBundleAnswer}
use Rattle.spf_input.specs.Stage.{◌then◌, with_given}
use Rattle.spf_input.specs.declared.reading.Bundle.{Bundle}
use Rattle.spf_io.specs.Stream.{Appends}
use Rattle.spf_job.specs.PlanMoves.{moved_of}
use Rattle.spf_plan.specs.Planned.{Planned}
use Rattle.spf_plan.specs.Taken.{IsPlanAnswer}
use Rattle.spf_script.specs.Resolved.{IsResolveAnswer}
use Rattle.spf_script.specs.declared.resolved.Step.{Step}
use Rattle.spf_space.specs.declared.shape.LoopShape.{LoopShape}
use Rattle.spf_space.specs.declared.shape.Shape.{Shape}
use Rattle.spf_store.specs.Shaped.{IsShapeAnswer, loops_of}
use Rattle.spf_touch.specs.declared.touch.Touch.{Touch}
use Rattle.spf_top.specs.declared.outcome.Outcome.{Outcome}
use Rattle.spf_top.specs.declared.outcome.Outcome.TheVariants.{Done, Memory, Usage, ReadFault, WriteFault, Limit, Range, Illegal}
use Rattle.spf_top.specs.declared.outcome.What.TheVariants.{Bytes}
use Rattle.spf_top.specs.Outcome.{calc_refused, plan_refused, refused, script_refused, shape_refused, walk_refused}
use Rattle.spf_top.specs.PlanText.{IsPlanText}
use Rattle.spf_top.specs.Texts.{text_of}
use Rattle.spf_top.specs.Words.{IsAccepted, IsRefusedAt}
use Rattle.spf_top.specs.declared.words.Asked.{Asked}
use Rattle.spf_top.specs.declared.words.Asked.TheVariants as asked_is
use Rattle.spf_top.specs.declared.words.Goal.{Goal}
use Rattle.spf_top.specs.declared.words.Goal.TheVariants.{Run, Plan, Emit}

-- ---- stages: each goes on with what it answers, or says why the bytes are refused

-- the stage of a layer, whose faults are told as outcomes
abbrev pub refusing : {S A B : Type 0} → (S → Outcome) → (A → Result B S → Type 0) → A → Result B Outcome → Type 0
refusing refuse p a (Ok b) = p a (Ok b)
refusing {S = S} refuse p a (Err refusal) = (fault : S) × p a (Err fault) × (refusal ≡ refuse fault)

-- the bytes are few enough, or one more than may be was met
abbrev pub fits : List ℕ → Result (List ℕ) Outcome → Type 0
fits bytes (Ok same) = (same ≡ bytes) × (length bytes ≤ 67108864)
fits bytes (Err refusal) = (refusal ≡ Limit Bytes 67108865) × (67108864 < length bytes)

-- the bundle that the bytes are, whose kernel and input keep their rules
abbrev pub reads : List ℕ → Result Bundle Outcome → Type 0
reads = refusing refused IsBundleAnswer

-- the shape of its loops and arrays, if there are few enough units
abbrev pub measures : Bundle → Result Shape Outcome → Type 0
measures = refusing shape_refused (λ bundle. IsShapeAnswer bundle.env bundle.kernel)

-- what each iteration touches, if nothing is refused on the walk
abbrev pub walks : Bundle × Shape → Result (List (List Touch)) Outcome → Type 0
walks = refusing walk_refused (λ given. IsAccessAnswer given.0.env given.0.kernel given.1.steps)

-- the steps of the script, with loops and arrays by their numbers; no partitioner is handed in
abbrev pub resolves : (Bundle × Shape) × List (List Touch) → Result (List Step) Outcome → Type 0
resolves = refusing script_refused (λ given. IsResolveAnswer given.0.1 0 given.0.0.script)

-- the plan that the steps make, if each of them is legal
abbrev pub plans : ((Bundle × Shape) × List (List Touch)) × List Step → Result Planned Outcome → Type 0
plans = refusing plan_refused (λ given. IsPlanAnswer given.0.1 given.0.0.1 given.1)

-- the text of the source result, whatever the plan
abbrev pub executes : (((Bundle × Shape) × List (List Touch)) × List Step) × Planned → Result (List ℕ) Outcome → Type 0
executes given (Ok text) = text ≡ text_of given.0.0.0.0
executes given (Err refusal) = refusal ≡ Memory

-- the text of the plan
abbrev pub shows : (((Bundle × Shape) × List (List Touch)) × List Step) × Planned → Result (List ℕ) Outcome → Type 0
shows given (Ok text) = IsPlanText given.0.0.1 given.0.0.0.1 given.1 text
shows given (Err refusal) = refusal ≡ Memory

-- the text of the executor of the plan, in composed and packed terms
abbrev pub emits : (((Bundle × Shape) × List (List Touch)) × List Step) × Planned → Result (List ℕ) Outcome → Type 0
emits given (Ok text) = text ≡ composed_text given.0.0.0.0.kernel (moved_of given.1) given.1.count given.0.0.0.1.steps
emits given (Err refusal) = refusal ≡ Memory

-- what is done with a plan
abbrev pub finishes : Goal → (((Bundle × Shape) × List (List Touch)) × List Step) × Planned → Result (List ℕ) Outcome → Type 0
finishes Run = executes
finishes Plan = shows
finishes Emit = emits

-- what is made of a bundle of this shape, and of a bundle
abbrev pub carries_out : Goal → Bundle × Shape → Result (List ℕ) Outcome → Type 0
carries_out goal = with_given walks then (with_given resolves then (with_given plans then finishes goal))

abbrev pub compiles : Goal → Bundle → Result (List ℕ) Outcome → Type 0
compiles goal = with_given measures then carries_out goal

-- the results of a calculator text
abbrev pub calculates : List ℕ → Result (List ℕ) Outcome → Type 0
calculates = refusing calc_refused IsCalcAnswer

-- what a command makes of few enough bytes
abbrev pub makes : Asked → List ℕ → Result (List ℕ) Outcome → Type 0
makes (asked_is.Bundle goal) = reads then compiles goal
makes asked_is.Calc = calculates

-- what a command writes for these bytes, or why it refuses them: the stages in the order of refusals
unfoldable pub answers : Asked → List ℕ → Result (List ℕ) Outcome → Type 0
answers asked = fits then makes asked

-- ---- the call

-- the words are accepted, or the outcome is `Usage` with the first one that isn't
abbrev pub AnswersWords : List (List ℕ) → Outcome → Type 0
AnswersWords words (Usage word) = IsRefusedAt words word
AnswersWords words outcome = IsAccepted words

-- What was appended to the output is the text of these bytes at `Done`, and a front of it at `WriteFault`; each refusal of
-- the bytes is theirs.
abbrev pub AnswersInput : Asked → List ℕ → Option (List ℕ) → Option (List ℕ) → Outcome → Type 0
AnswersInput asked bytes before after Done = (text : List ℕ) × answers asked bytes (Ok text) × Appends before text after
AnswersInput asked bytes before after WriteFault = (text : List ℕ) × answers asked bytes (Ok text) × (n : ℕ) × (n ≤ length text) × Appends before (take n text) after
AnswersInput asked bytes before after Memory = ⊤
AnswersInput asked bytes before after (Usage word) = ⊤
AnswersInput asked bytes before after ReadFault = ⊤
AnswersInput asked bytes before after refusal = answers asked bytes (Err refusal)

-- the outcome is told with the names of loops
abbrev pub NamesLoops : Outcome → Type 0
NamesLoops (Range loop_no iteration site value) = ⊤
NamesLoops (Illegal step p q) = ⊤
NamesLoops outcome = ⊥

-- where loops are named, these are the loops of the bundle that the bytes are
abbrev pub HasLoopsOf : List ℕ → Outcome → List LoopShape → Type 0
HasLoopsOf bytes outcome loops = NamesLoops outcome → (bundle : Bundle) → reads bytes (Ok bundle) → loops ≡ loops_of bundle.env bundle.kernel

-- the outcome is a refusal of the bytes, or memory ran out
abbrev pub IsOfBytes : Outcome → Type 0
IsOfBytes Done = ⊥
IsOfBytes (Usage word) = ⊥
IsOfBytes ReadFault = ⊥
IsOfBytes WriteFault = ⊥
IsOfBytes refusal = ⊤

-- nothing is written on the output
abbrev pub IsQuiet : Outcome → Type 0
IsQuiet Done = ⊥
IsQuiet WriteFault = ⊥
IsQuiet outcome = ⊤

-- the text was written, or memory ran out
abbrev pub IsDoneOrMemory : Outcome → Type 0
IsDoneOrMemory Done = ⊤
IsDoneOrMemory Memory = ⊤
IsDoneOrMemory outcome = ⊥
