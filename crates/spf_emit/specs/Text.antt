-- The text of a program. Each place of a body takes the term of its number, which is how many places come before it.
use Rattle.std.specs.Prelude.{ℕ, ◌+◌, pos, List, [], ◌∷◌, ◌++◌, codes, decimal, flat_map, replicate, slice_index_or}
use Rattle.std.specs.List.{sum_by}
use Rattle.spf_term.specs.declared.term.Term.{Term, roll-Term}
use Rattle.spf_kernel.specs.Signs.{becomes_word}
use Rattle.spf_kernel.specs.TreeNames.{name_at}
use Rattle.spf_kernel.specs.printing.Printed.{compare_word}
use Rattle.spf_kernel.specs.declared.tree.Value.{Value, Value', Row_of-Prod, end_of-Prod, more_of-Prod, Row_of-Factor, end_of-Factor, more_of-Factor}
use Rattle.spf_kernel.specs.declared.tree.Factor.{Factor}
use Rattle.spf_kernel.specs.declared.tree.Factor.TheVariants as factor_is
use Rattle.spf_kernel.specs.declared.tree.Prod.{Prod}
use Rattle.spf_kernel.specs.declared.tree.Assign.{Assign}
use Rattle.spf_kernel.specs.declared.tree.Cond.{Cond}
use Rattle.spf_kernel.specs.declared.tree.Guard.{Guard}
use Rattle.spf_kernel.specs.declared.tree.Part.{Part}
use Rattle.spf_kernel.specs.declared.tree.Part.TheVariants as part_is
use Rattle.spf_kernel.specs.declared.tree.Item.{Item}
use Rattle.spf_kernel.specs.declared.tree.Item.TheVariants as item_is
use Rattle.spf_kernel.specs.declared.tree.Loop.{Loop}
use Rattle.spf_kernel.specs.declared.tree.Tree.{Tree}
use Rattle.spf_reltext.specs.Printed.{lead, sign_text, term_text}
use Rattle.spf_exec.specs.Composed.{variable}
use Rattle.spf_exec.specs.declared.program.Body.{Body}
use Rattle.spf_exec.specs.declared.program.Program.{Program}
use Rattle.spf_emit.specs.Naming.{names_of, naming_of}
use Rattle.spf_emit.specs.Places.{assign_places, cond_places, fact_places, facts_places, item_places, part_places}
use Rattle.spf_emit.specs.declared.names.Names.{Names}

-- ---- lists

-- parts of a list or sum, of which the first is part n and has its first place at this number
abbrev pub parts_text : {A : Type 0} → (A → ℕ) → (ℕ → ℕ → A → List ℕ) → ℕ → ℕ → List A → List ℕ
parts_text places print n at [] = []
parts_text places print n at (x ∷ xs) = print n at x ++ parts_text places print (n + 1) (at + places x) xs

-- statements, of which the first has its first place at this number
abbrev pub lines_text : {A : Type 0} → (A → ℕ) → (ℕ → A → List ℕ) → ℕ → List A → List ℕ
lines_text places print at [] = []
lines_text places print at (x ∷ xs) = print at x ++ lines_text places print (at + places x) xs

-- two spaces for each depth
abbrev pub indent : ℕ → List ℕ
indent depth = flat_map (λ space. space ∷ space ∷ []) (replicate depth 32)

-- the line that closes an `if` or a `for` of this depth
abbrev pub close : ℕ → List ℕ
close depth = indent depth ++ codes "}\n"

-- ---- bodies

-- the terms of a body's places, each by its number and by what the source has there: a bound, side or loop variable, an entry
-- of an index array, or the subscript of a data array
pub record Placed : Type 0 where
  pub index : ℕ → Term → Term
  pub entry : ℕ → ℕ → Term → Term
  pub cell : ℕ → ℕ → Term → Term

abbrev pub term_at : List Term → ℕ → Term
term_at terms at = slice_index_or terms at (roll-Term (record { monos = []; constant = pos 0 }))

-- each place takes the term of its number, whatever the source has there
abbrev pub by_number : List Term → Placed
by_number terms = record { index = λ at term. term_at terms at; entry = λ at array sub. term_at terms at; cell = λ at array sub. term_at terms at }

abbrev pub place_text : Names → Term → List ℕ
place_text names = term_text (naming_of names)

-- an element of a data array, whose subscript takes this term
abbrev pub cell_text : Names → ℕ → Term → List ℕ
cell_text names array term = name_at names.arrays array ++ codes "[" ++ place_text names term ++ codes "]"

module _ (names : Names) (placed : Placed) where
  abbrev mutual
    pub value_text : ℕ → Value → List ℕ
    value_text at (Value' shape prods) = prods_text 0 at prods

    pub prods_text : {n : _} → ℕ → ℕ → Row_of-Prod n → List ℕ
    prods_text n at end_of-Prod = []
    prods_text n at (more_of-Prod minus shape facts others) = (sign_text n minus ++ facts_text 0 at facts) ++ prods_text (n + 1) (at + facts_places facts) others

    pub facts_text : {n : _} → ℕ → ℕ → Row_of-Factor n → List ℕ
    facts_text n at end_of-Factor = []
    facts_text n at (more_of-Factor fact others) = (lead [] (codes " * ") n ++ fact_text at fact) ++ facts_text (n + 1) (at + fact_places fact) others

    pub fact_text : ℕ → Factor → List ℕ
    fact_text at (factor_is.Number number) = decimal number
    fact_text at (factor_is.Paren inside) = codes "(" ++ value_text at inside ++ codes ")"
    fact_text at (factor_is.Param number) = name_at names.params number
    fact_text at (factor_is.Var number) = codes "(" ++ place_text names (placed.index at (variable number)) ++ codes ")"
    fact_text at (factor_is.Index array sub) = place_text names (placed.entry at array sub)
    fact_text at (factor_is.Cell array sub) = cell_text names array (placed.cell at array sub)

  -- part n of a product
  abbrev pub fact_part : ℕ → ℕ → Factor → List ℕ
  fact_part n at fact = lead [] (codes " * ") n ++ fact_text at fact

  abbrev pub prod_text : ℕ → Prod → List ℕ
  prod_text at prod = parts_text fact_places fact_part 0 at prod.facts

  -- part n of a sum
  abbrev pub prod_part : ℕ → ℕ → Prod → List ℕ
  prod_part n at prod = sign_text n prod.minus ++ prod_text at prod

  abbrev pub cond_text : ℕ → Cond → List ℕ
  cond_text at cond = place_text names (placed.index at cond.left) ++ codes " " ++ compare_word cond.sign ++ codes " " ++ place_text names (placed.index (at + 1) cond.right)

  -- part n of a guard
  abbrev pub cond_part : ℕ → ℕ → Cond → List ℕ
  cond_part n at cond = lead [] (codes " and ") n ++ cond_text at cond

  -- ---- statements, whose lines have this depth

  abbrev pub assign_text : ℕ → ℕ → Assign → List ℕ
  assign_text depth at assign = indent depth ++ cell_text names assign.array (placed.cell at assign.array assign.sub) ++ codes " " ++ becomes_word assign.sign ++ codes " " ++ value_text (at + 1) assign.value ++ codes ";\n"

  abbrev pub guard_text : ℕ → ℕ → Guard → List ℕ
  guard_text depth at guard =
      indent depth ++ codes "if " ++ parts_text cond_places cond_part 0 at guard.conds ++ codes " {\n"
      ++ lines_text assign_places (assign_text (depth + 1)) (at + sum_by cond_places guard.conds) guard.body ++ close depth

  abbrev pub part_text : ℕ → ℕ → Part → List ℕ
  part_text depth at (part_is.Assign assign) = assign_text depth at assign
  part_text depth at (part_is.Branch guard) = guard_text depth at guard

  -- a `for` whose bounds take these terms, over these parts
  abbrev pub inner_text : ℕ → ℕ → Term → Term → List Part → List ℕ
  inner_text depth at low high parts =
      indent depth ++ codes "for J in " ++ place_text names low ++ codes " .. " ++ place_text names high ++ codes " {\n"
      ++ lines_text part_places (part_text (depth + 1)) (at + 2) parts ++ close depth

  abbrev pub item_text : ℕ → ℕ → Item → List ℕ
  item_text depth at (item_is.Assign assign) = assign_text depth at assign
  item_text depth at (item_is.Branch guard) = guard_text depth at guard
  item_text depth at (item_is.Inner var low high parts) = inner_text depth at (placed.index at low) (placed.index (at + 1) high) parts

  -- the name of a loop, and its body
  abbrev pub loop_text : Loop → List ℕ
  loop_text loop = codes "loop " ++ loop.name ++ codes "\n" ++ lines_text item_places (item_text 1) 0 loop.items

-- ---- programs

-- of each loop, with the terms of its body
abbrev pub loops_text : Names → List Body → List Loop → List ℕ
loops_text names (body ∷ bodies) (loop ∷ loops) = loop_text names (by_number body.terms) loop ++ loops_text names bodies loops
loops_text names bodies loops = []

-- how many tiles and steps there are
abbrev pub heading : ℕ → ℕ → List ℕ
heading tiles steps = codes "tiles " ++ decimal tiles ++ codes "\nsteps " ++ decimal steps ++ codes "\n"

-- the numbers of tiles and steps, and the loops
abbrev pub emit_text : Program → Tree → ℕ → ℕ → List ℕ
emit_text program tree tiles steps = heading tiles steps ++ loops_text (names_of tree) program.loops tree.loops
