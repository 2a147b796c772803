-- The terms of a program stand where their numbers say, so that each place takes what becomes of the source there.
use Rattle.std.proofs.Common.{◌≡◌, ℕ, ◌+◌, ◌-◌, ◌<◌, List, [], ◌∷◌, ◌++◌, codes, length, refl, ap, ◌∙◌, arith, length-append}
use Rattle.std.proofs.Math.Seq.{get_or-append_right}
use Rattle.std.proofs.lemmas.List.{get_or_append_left}
use Rattle.std.specs.List.{flat_map, sum_by}
use Rattle.spf_term.specs.declared.term.Term.{Term}
use Rattle.spf_kernel.specs.Signs.{becomes_word}
use Rattle.spf_kernel.specs.printing.Printed.{compare_word}
use Rattle.spf_kernel.specs.declared.tree.Value.{Value, Value', Row_of-Prod, end_of-Prod, more_of-Prod, Row_of-Factor, end_of-Factor, more_of-Factor}
use Rattle.spf_kernel.specs.declared.tree.Factor.{Factor}
use Rattle.spf_kernel.specs.declared.tree.Factor.TheVariants as factor_is
use Rattle.spf_kernel.specs.declared.tree.Assign.{Assign}
use Rattle.spf_kernel.specs.declared.tree.Cond.{Cond}
use Rattle.spf_kernel.specs.declared.tree.Guard.{Guard}
use Rattle.spf_kernel.specs.declared.tree.Part.{Part}
use Rattle.spf_kernel.specs.declared.tree.Part.TheVariants as part_is
use Rattle.spf_kernel.specs.declared.tree.Item.{Item}
use Rattle.spf_kernel.specs.declared.tree.Item.TheVariants as item_is
use Rattle.spf_kernel.specs.declared.tree.Loop.{Loop}
use Rattle.spf_kernel.specs.declared.tree.Tree.{Tree}
use Rattle.spf_reltext.specs.Printed.{lead, sign_text}
use Rattle.spf_exec.specs.BodyTerms.{assign_terms, cond_terms, fact_terms, facts_terms, guard_terms, item_terms, part_terms, prods_terms, value_terms}
use Rattle.spf_exec.specs.Generated.{bodies_from, program_of}
use Rattle.spf_exec.specs.Rewritten.{Rewriting, composing}
use Rattle.spf_exec.specs.declared.program.Moved.{Moved}
use Rattle.spf_emit.specs.ComposedText.{by_source, composed_loops, composed_text}
use Rattle.spf_emit.specs.Naming.{names_of}
use Rattle.spf_emit.specs.Places.{assign_places, cond_places, fact_places, facts_places, item_places, part_places}
use Rattle.spf_emit.specs.Text.{assign_text, by_number, cell_text, close, cond_part, cond_text, emit_text, fact_text, facts_text, guard_text, heading, indent, item_text, lines_text, loops_text, part_text, parts_text, place_text, prods_text, term_at, value_text}
use Rattle.spf_emit.specs.declared.names.Names.{Names}
use Rattle.spf_emit.proofs.Counted.{all, assign_counted, fact_counted, facts_counted, item_counted, part_counted}

-- from this number on stand these terms
record IsAt (terms : List Term) (at : ℕ) (part : List Term) : Type 0 where
  each : (k : ℕ) → k < length part → term_at terms (at + k) ≡ term_at part k

module _ (terms : List Term) where
  whole : IsAt terms 0 terms
  whole = record { each = λ k inside. let e : 0 + k ≡ k = omega arith in ap (term_at terms) e }

  module _ (at : ℕ) where
    first : (one : Term) (others : List Term) → IsAt terms at (one ∷ others) → term_at terms at ≡ one
    first one others is = let e : at ≡ at + 0 = omega arith in ap (term_at terms) e ∙ is.each 0 (omega arith)

    left : (xs ys : List Term) → IsAt terms at (xs ++ ys) → IsAt terms at xs
    left xs ys is = record { each = λ k inside. is.each k (omega (arith, inside, length-append xs ys)) ∙ get_or_append_left xs ys _ k inside }

    right : (xs ys : List Term) {count : ℕ} → length xs ≡ count → IsAt terms at (xs ++ ys) → IsAt terms (at + count) ys
    right xs ys {count} counted is = record {
      each = λ k inside.
          let e : at + count + k ≡ at + (length xs + k) = omega (arith, counted) in
          let back : length xs + k - length xs ≡ k = omega arith in
          ap (term_at terms) e ∙ is.each (length xs + k) (omega (arith, inside, length-append xs ys)) ∙ get_or-append_right xs ys (length xs + k) _ (omega arith) ∙ ap (term_at ys) back;
    }

  -- ---- lists of parts

  module _ {A : Type 0} (source : A → List Term) (places : A → ℕ) (counted : (x : A) → length (source x) ≡ places x) where
    parts_same : (print print' : ℕ → ℕ → A → List ℕ) → ((n at : ℕ) (x : A) → IsAt terms at (source x) → print n at x ≡ print' n at x) → (n at : ℕ) (xs : List A) → IsAt terms at (flat_map source xs) →
        parts_text places print n at xs ≡ parts_text places print' n at xs
    parts_same print print' same n at [] is = refl
    parts_same print print' same n at (x ∷ xs) is =
        let here = same n at x (left at (source x) (flat_map source xs) is) in
        let more = parts_same print print' same (n + 1) (at + places x) xs (right at (source x) (flat_map source xs) (counted x) is) in
        λ i. here i ++ more i

    lines_same : (print print' : ℕ → A → List ℕ) → ((at : ℕ) (x : A) → IsAt terms at (source x) → print at x ≡ print' at x) → (at : ℕ) (xs : List A) → IsAt terms at (flat_map source xs) →
        lines_text places print at xs ≡ lines_text places print' at xs
    lines_same print print' same at [] is = refl
    lines_same print print' same at (x ∷ xs) is =
        let here = same at x (left at (source x) (flat_map source xs) is) in
        let more = lines_same print print' same (at + places x) xs (right at (source x) (flat_map source xs) (counted x) is) in
        λ i. here i ++ more i

  -- ---- bodies

  module _ (names : Names) (to : Rewriting) where
    mutual
      value_same : (at : ℕ) (value : Value) → IsAt terms at (value_terms to value) → value_text names (by_number terms) at value ≡ value_text names (by_source to) at value
      value_same at (Value' shape prods) is = prods_same 0 at prods is

      prods_same : {n : _} (k at : ℕ) (row : Row_of-Prod n) → IsAt terms at (prods_terms to row) → prods_text names (by_number terms) k at row ≡ prods_text names (by_source to) k at row
      prods_same k at end_of-Prod is = refl
      prods_same k at (more_of-Prod minus shape facts others) is =
          let here = facts_same 0 at facts (left at (facts_terms to facts) (prods_terms to others) is) in
          let more = prods_same (k + 1) (at + facts_places facts) others (right at (facts_terms to facts) (prods_terms to others) (facts_counted to facts) is) in
          λ i. (sign_text k minus ++ here i) ++ more i

      facts_same : {n : _} (k at : ℕ) (row : Row_of-Factor n) → IsAt terms at (facts_terms to row) → facts_text names (by_number terms) k at row ≡ facts_text names (by_source to) k at row
      facts_same k at end_of-Factor is = refl
      facts_same k at (more_of-Factor fact others) is =
          let here = fact_same at fact (left at (fact_terms to fact) (facts_terms to others) is) in
          let more = facts_same (k + 1) (at + fact_places fact) others (right at (fact_terms to fact) (facts_terms to others) (fact_counted to fact) is) in
          λ i. (lead [] (codes " * ") k ++ here i) ++ more i

      fact_same : (at : ℕ) (fact : Factor) → IsAt terms at (fact_terms to fact) → fact_text names (by_number terms) at fact ≡ fact_text names (by_source to) at fact
      fact_same at (factor_is.Number number) is = refl
      fact_same at (factor_is.Paren inside) is = ap (λ (text : List ℕ). codes "(" ++ text ++ codes ")") (value_same at inside is)
      fact_same at (factor_is.Param number) is = refl
      fact_same at (factor_is.Var number) is = ap (λ (term : Term). codes "(" ++ place_text names term ++ codes ")") (first at _ [] is)
      fact_same at (factor_is.Index array sub) is = ap (place_text names) (first at _ [] is)
      fact_same at (factor_is.Cell array sub) is = ap (cell_text names array) (first at _ [] is)

    assign_same : (depth at : ℕ) (assign : Assign) → IsAt terms at (assign_terms to assign) → assign_text names (by_number terms) depth at assign ≡ assign_text names (by_source to) depth at assign
    assign_same depth at assign is =
        let target = first at (to.cell assign.array assign.sub) (value_terms to assign.value) is in
        let value = value_same (at + 1) assign.value (right at (to.cell assign.array assign.sub ∷ []) (value_terms to assign.value) refl is) in
        λ i. indent depth ++ cell_text names assign.array (target i) ++ codes " " ++ becomes_word assign.sign ++ codes " " ++ value i ++ codes ";\n"

    cond_same : (at : ℕ) (cond : Cond) → IsAt terms at (cond_terms to cond) → cond_text names (by_number terms) at cond ≡ cond_text names (by_source to) at cond
    cond_same at cond is =
        let before = first at (to.index cond.left) (to.index cond.right ∷ []) is in
        let after = first (at + 1) (to.index cond.right) [] (right at (to.index cond.left ∷ []) (to.index cond.right ∷ []) refl is) in
        λ i. place_text names (before i) ++ codes " " ++ compare_word cond.sign ++ codes " " ++ place_text names (after i)

    guard_same : (depth at : ℕ) (guard : Guard) → IsAt terms at (guard_terms to guard) → guard_text names (by_number terms) depth at guard ≡ guard_text names (by_source to) depth at guard
    guard_same depth at guard is =
        let conds_terms = flat_map (cond_terms to) guard.conds in
        let body_terms = flat_map (assign_terms to) guard.body in
        let conds = parts_same (cond_terms to) cond_places (λ cond. refl) (cond_part names (by_number terms)) (cond_part names (by_source to))
        (λ n at cond is. ap (λ (text : List ℕ). lead [] (codes " and ") n ++ text) (cond_same at cond is)) 0 at guard.conds (left at conds_terms body_terms is) in
        let body = lines_same (assign_terms to) assign_places (assign_counted to) (assign_text names (by_number terms) (depth + 1)) (assign_text names (by_source to) (depth + 1))
        (assign_same (depth + 1)) (at + sum_by cond_places guard.conds) guard.body (right at conds_terms body_terms (all (cond_terms to) cond_places (λ cond. refl) guard.conds) is) in
        λ i. indent depth ++ codes "if " ++ conds i ++ codes " {\n" ++ body i ++ close depth

    part_same : (depth at : ℕ) (part : Part) → IsAt terms at (part_terms to part) → part_text names (by_number terms) depth at part ≡ part_text names (by_source to) depth at part
    part_same depth at (part_is.Assign assign) is = assign_same depth at assign is
    part_same depth at (part_is.Branch guard) is = guard_same depth at guard is

    item_same : (depth at : ℕ) (item : Item) → IsAt terms at (item_terms to item) → item_text names (by_number terms) depth at item ≡ item_text names (by_source to) depth at item
    item_same depth at (item_is.Assign assign) is = assign_same depth at assign is
    item_same depth at (item_is.Branch guard) is = guard_same depth at guard is
    item_same depth at (item_is.Inner var low high parts) is =
        let parts_terms = flat_map (part_terms to) parts in
        let from = first at (to.index low) (to.index high ∷ parts_terms) is in
        let below = first (at + 1) (to.index high) parts_terms (right at (to.index low ∷ []) (to.index high ∷ parts_terms) refl is) in
        let body = lines_same (part_terms to) part_places (part_counted to) (part_text names (by_number terms) (depth + 1)) (part_text names (by_source to) (depth + 1))
        (part_same (depth + 1)) (at + 2) parts (right at (to.index low ∷ to.index high ∷ []) parts_terms refl is) in
        λ i. indent depth ++ codes "for J in " ++ place_text names (from i) ++ codes " .. " ++ place_text names (below i) ++ codes " {\n" ++ body i ++ close depth

-- ---- programs

module _ (tree : Tree) (moved : Moved) where
  loops_same : (loop_no : ℕ) (loops : List Loop) → loops_text (names_of tree) (bodies_from tree moved loop_no loops) loops ≡ composed_loops tree moved loop_no loops
  loops_same loop_no [] = refl
  loops_same loop_no (loop ∷ loops) =
      let names = names_of tree in
      let to = composing tree moved loop_no loop in
      let terms = flat_map (item_terms to) loop.items in
      let here = lines_same terms (item_terms to) item_places (item_counted to) (item_text names (by_number terms) 1) (item_text names (by_source to) 1) (item_same terms names to 1) 0 loop.items (whole terms) in
      let more = loops_same (loop_no + 1) loops in
      λ i. (codes "loop " ++ loop.name ++ codes "\n" ++ here i) ++ more i

  pub program_same : (tiles steps : ℕ) → emit_text (program_of tree moved) tree tiles steps ≡ composed_text tree moved tiles steps
  program_same tiles steps = ap (λ (text : List ℕ). heading tiles steps ++ text) (loops_same 0 tree.loops)
