-- How the variables, parameters and functions of a program's terms are written.
use Rattle.std.specs.Prelude.{ℕ, ◌==◌, if◌then◌else◌, List, ◌++◌, codes, map}
use Rattle.spf_kernel.specs.TreeNames.{name_at, names_in}
use Rattle.spf_kernel.specs.declared.tree.Loop.{Loop}
use Rattle.spf_kernel.specs.declared.tree.Tree.{Tree}
use Rattle.spf_reltext.specs.Printed as printed
use Rattle.spf_emit.specs.declared.names.Names.{Names}

-- P is the position, and J the inner variable
abbrev pub variable_text : ℕ → List ℕ
variable_text number = if number == 0 then codes "P" else codes "J"

-- the order of a loop, from position to iteration
abbrev pub order_name : Loop → List ℕ
order_name loop = codes "O_" ++ loop.name

-- the packing of a data array
abbrev pub packing_name : List ℕ → List ℕ
packing_name array = codes "R_" ++ array

-- index arrays are functions by their own names, and come first; then the orders of the loops, and then the packings of the
-- data arrays
abbrev pub names_of : Tree → Names
names_of tree =
    let declared = names_in tree.decls in
    record { params = declared.params; functions = declared.tables ++ map order_name tree.loops ++ map packing_name declared.arrays; arrays = declared.arrays }

abbrev pub naming_of : Names → printed.Naming
naming_of names = record { variable = variable_text; param = name_at names.params; fun = name_at names.functions }
