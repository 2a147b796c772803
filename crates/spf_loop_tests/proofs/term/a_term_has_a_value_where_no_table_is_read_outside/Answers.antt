use Rattle.std.proofs.Common.{pos, negsuc, List, [], ◌∷◌, None, Some, lit<, refl}
use Rattle.std.specs.List.{AllByRecursion}
use Rattle.std.proofs.lemmas.List.Elements.{All-from_recursion}
use Rattle.spf_term.specs.Value.{IsSmall}
use Rattle.spf_loop_tests.specs.declared.term.Case.{Case}
use Rattle.spf_loop_tests.proofs.SmallTerms.{small_reading, small_nested, as_is}
use Rattle.spf_loop_tests.proofs.term.a_term_has_a_value_where_no_table_is_read_outside.Goals as goal

pub have_values-requires : goal.have_values-requires
have_values-requires c = λ c'.
    let cases : List Case =
    record { term = c'.in_ok-negative.negative; value = Some (negsuc 54) } ∷
    record { term = c'.in_ok-last.last; value = Some (pos 30) } ∷
    record { term = c'.in_ok-behind.behind; value = None } ∷
    record { term = c'.in_ok-below.below; value = None } ∷
    record { term = c'.in_ok-far_below.far_below; value = None } ∷
    record { term = c'.in_ok-missing.missing; value = None } ∷
    record { term = c'.in_ok-least.least; value = Some (negsuc 9223372036854775807) } ∷
    record { term = c'.in_ok-inside.inside; value = Some (pos 30) } ∷
    record { term = c'.in_ok-nested_below.nested_below; value = None } ∷ [] in
    let each : AllByRecursion (λ (case : Case). IsSmall c'.in_ok-env.env [] case.term) cases = (
      as_is c'.in_ok-env.ensures c'.in_ok-negative.ensures (small_reading (negsuc 2) 0 (pos 1) (pos 5) (record { sfits = lit< tt }) (record { sfits = lit< tt })),
      (
        as_is c'.in_ok-env.ensures c'.in_ok-last.ensures (small_reading (pos 1) 0 (pos 2) (pos 0) (record { sfits = lit< tt }) (record { sfits = lit< tt })),
        (
          as_is c'.in_ok-env.ensures c'.in_ok-behind.ensures (small_reading (pos 1) 0 (pos 3) (pos 0) (record { sfits = lit< tt }) (record { sfits = lit< tt })),
          (
            as_is c'.in_ok-env.ensures c'.in_ok-below.ensures (small_reading (pos 1) 0 (negsuc 0) (pos 0) (record { sfits = lit< tt }) (record { sfits = lit< tt })),
            (
              as_is c'.in_ok-env.ensures c'.in_ok-far_below.ensures (small_reading (pos 1) 0 (negsuc 9223372036854775807) (pos 0) (record { sfits = lit< tt }) (record { sfits = lit< tt })),
              (
                as_is c'.in_ok-env.ensures c'.in_ok-missing.ensures (small_reading (pos 1) 9 (pos 0) (pos 4) (record { sfits = lit< tt }) (record { sfits = lit< tt })),
                (
                  as_is c'.in_ok-env.ensures c'.in_ok-least.ensures (small_reading (pos 9223372036854775807) 1 (pos 1) (negsuc 0) (record { sfits = lit< tt }) (record { sfits = lit< tt })),
                  (
                    as_is c'.in_ok-env.ensures c'.in_ok-inside.ensures (small_nested (pos 0) (pos 2) (record { sfits = lit< tt }) (record { sfits = lit< tt }) refl (record { sfits = lit< tt })),
                    (
                      as_is c'.in_ok-env.ensures c'.in_ok-nested_below.ensures (small_nested (pos 1) (negsuc 0) (record { sfits = lit< tt }) (record { sfits = lit< tt }) refl (record { sfits = lit< tt })),
                      tt,
                    ),
                  ),
                ),
              ),
            ),
          ),
        ),
      ),
    ) in
    All-from_recursion (λ (case : Case). IsSmall c'.in_ok-env.env [] case.term) cases each
