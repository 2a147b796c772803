-- What an outcome is told by: an exit status, and a line on standard error.
use Rattle.std.specs.Prelude.{ℕ, ℤ, pos, ◌+ℤ◌, List, [], ◌++◌, codes, decimal, slice_index_or}
use Rattle.std.specs.Fmt.{signed_decimal}
use Rattle.spf_space.specs.declared.shape.LoopShape.{LoopShape}
use Rattle.spf_space.specs.declared.unit.Unit.{Unit}
use Rattle.spf_access.specs.declared.access_fault.AccessFault.{AccessFault}
use Rattle.spf_access.specs.declared.access_fault.AccessFault.TheVariants as access
use Rattle.spf_store.specs.declared.shapes.ShapeFault.{ShapeFault}
use Rattle.spf_store.specs.declared.shapes.ShapeFault.TheVariants as shape
use Rattle.spf_script.specs.declared.resolving.ScriptFault.{ScriptFault}
use Rattle.spf_script.specs.declared.resolving.ScriptFault.TheVariants as script
use Rattle.spf_plan.specs.declared.plan_fault.PlanFault.{PlanFault}
use Rattle.spf_plan.specs.declared.plan_fault.PlanFault.TheVariants as plan
use Rattle.spf_base.specs.declared.place.Place.{Place}
use Rattle.spf_lex.specs.declared.text_kind.TextKind.{TextKind}
use Rattle.spf_lex.specs.declared.text_kind.TextKind.TheVariants as kind
use Rattle.spf_calc.specs.declared.fault.CalcFault.{CalcFault}
use Rattle.spf_calc.specs.declared.fault.CalcFault.TheVariants as calc
use Rattle.spf_input.specs.declared.fault.InputFault.{InputFault}
use Rattle.spf_input.specs.declared.fault.InputFault.TheVariants as input
use Rattle.spf_top.specs.declared.outcome.Outcome.{Outcome}
use Rattle.spf_top.specs.declared.outcome.Outcome.TheVariants.{Done, Memory, Usage, ReadFault, WriteFault, Text, Kernel, Input, Range, Script, Illegal, Limit}
use Rattle.spf_top.specs.declared.outcome.What.{What}
use Rattle.spf_top.specs.declared.outcome.What.TheVariants.{Bytes, Units, Visits, Tiles}

-- the outcome of a text that is no bundle
abbrev pub refused : InputFault → Outcome
refused (input.Text place kind) = Text place kind
refused (input.Kernel place rule) = Kernel place rule
refused (input.Input name place rule) = Input name place rule
refused input.Memory = Memory

-- the outcome of a bundle that has too many units
abbrev pub shape_refused : ShapeFault → Outcome
shape_refused (shape.Units count) = Limit Units count
shape_refused shape.Memory = Memory

-- the outcome of a bundle in which something is refused on the walk
abbrev pub walk_refused : AccessFault → Outcome
walk_refused (access.Range loop_no iteration site value) = Range loop_no iteration site value
walk_refused (access.Visits count) = Limit Visits count
walk_refused access.Memory = Memory

-- the outcome of a script that breaks a rule, or has too many parts
abbrev pub script_refused : ScriptFault → Outcome
script_refused (script.Rule step rule) = Script step rule
script_refused (script.Tiles count) = Limit Tiles count
script_refused script.Memory = Memory

-- the outcome of a script of which a step is refused
abbrev pub plan_refused : PlanFault → Outcome
plan_refused (plan.Illegal step p q) = Illegal step p q
plan_refused plan.Memory = Memory

-- the outcome of a text that has no results
abbrev pub calc_refused : CalcFault → Outcome
calc_refused (calc.Text place kind) = Text place kind
calc_refused (calc.Rule statement rule) = Script statement rule
calc_refused calc.Memory = Memory

abbrev pub status_of : Outcome → ℕ
status_of Done = 0
status_of Memory = 1
status_of (Usage word) = 2
status_of ReadFault = 3
status_of WriteFault = 4
status_of (Text place kind) = 5
status_of (Kernel place rule) = 6
status_of (Input name place rule) = 7
status_of (Range loop_no iteration site value) = 8
status_of (Script step rule) = 9
status_of (Illegal step p q) = 10
status_of (Limit what count) = 12

-- line, colon, column
abbrev pub place_text : Place → List ℕ
place_text place = decimal place.line ++ (codes ":" ++ decimal place.column)

abbrev pub kind_text : TextKind → List ℕ
kind_text kind.Token = codes "token"
kind_text kind.Unexpected = codes "unexpected"
kind_text kind.End = codes "end"

abbrev pub what_text : What → List ℕ
what_text Bytes = codes "bytes"
what_text Units = codes "units"
what_text Visits = codes "visits"
what_text Tiles = codes "tiles"

-- the loop with this number, and one without a name where there is none
abbrev pub loop_at : List LoopShape → ℕ → LoopShape
loop_at loops number = slice_index_or loops number (record { name = []; lower = pos 0; extent = 0 })

-- an iteration: the name of its loop, and its variable's value
abbrev pub iteration_text : List ℕ → ℤ → List ℕ
iteration_text name iteration = name ++ (codes " " ++ signed_decimal iteration)

-- a unit: its step, its loop and its iteration
abbrev pub unit_text : List LoopShape → Unit → List ℕ
unit_text loops unit = decimal unit.step ++ (codes " " ++ iteration_text (loop_at loops unit.loop_no).name ((loop_at loops unit.loop_no).lower +ℤ pos unit.position))

-- the line on standard error, with its line feed, where these are the loops
abbrev pub line_of : List LoopShape → Outcome → List ℕ
line_of loops Done = []
line_of loops Memory = codes "memory\n"
line_of loops (Usage word) = codes "usage: word " ++ (decimal word ++ codes "\n")
line_of loops ReadFault = codes "read fault\n"
line_of loops WriteFault = codes "write fault\n"
line_of loops (Text place kind) = codes "text: " ++ (place_text place ++ (codes " " ++ (kind_text kind ++ codes "\n")))
line_of loops (Kernel place rule) = codes "kernel: " ++ (place_text place ++ (codes " rule " ++ (decimal rule ++ codes "\n")))
line_of loops (Input name place rule) = codes "input: " ++ (name ++ (codes " " ++ (decimal place ++ (codes " rule " ++ (decimal rule ++ codes "\n")))))
line_of loops (Range loop_no iteration site value) =
    codes "range: " ++ (iteration_text (loop_at loops loop_no).name iteration ++ (codes " site " ++ (decimal site ++ (codes " value " ++ (signed_decimal value ++ codes "\n")))))
line_of loops (Script step rule) = codes "script: step " ++ (decimal step ++ (codes " rule " ++ (decimal rule ++ codes "\n")))
line_of loops (Illegal step p q) = codes "illegal: step " ++ (decimal step ++ (codes " reverses " ++ (unit_text loops p ++ (codes " and " ++ (unit_text loops q ++ codes "\n")))))
line_of loops (Limit what count) = codes "limit: " ++ (what_text what ++ (codes " " ++ (decimal count ++ codes "\n")))
