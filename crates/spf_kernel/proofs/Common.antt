-- The names that the proofs cite, passed on from one place. Declares nothing.
pub use Rattle.indexmap.specs.IndexSet.{insert_key}
pub use Rattle.spf_base.specs.Word.{IsName}
unfoldable pub use Rattle.spf_base.specs.Wrap.{wrap}
pub use Rattle.spf_kernel.specs.check.Before.{IsBelow}
unfoldable pub use Rattle.spf_kernel.specs.check.Before.{before_of, counts_of, once}
pub use Rattle.spf_kernel.specs.check.Checked.{Checked, IsFirst, Leads, first_broken}
unfoldable pub use Rattle.spf_kernel.specs.check.Checked.{least_rule}
pub use Rattle.spf_kernel.specs.Facts.{Fact, fact_of, fact_with, facts_of, text_of, variables_in}
pub use Rattle.spf_kernel.specs.Kept.{KeepFactors, KeepProds, KeepsAssign, KeepsCond, KeepsDecl, KeepsFactor, KeepsGuard, KeepsItem, KeepsLoop, KeepsPart, KeepsValue, Property}
pub use Rattle.spf_kernel.specs.Named.{IsNamedTerm, NameCounts}
pub use Rattle.spf_kernel.specs.Names.{IsShort, Names, names_of, number_of}
pub use Rattle.spf_kernel.specs.Notes.{assign_notes, atom_monomials, atom_notes, body_notes, bound_notes, cells_notes, cond_notes, conds_head, decl_notes, excess_notes, expression_notes, fact_notes, facts_notes, guard_notes, head_notes, inside_notes, item_notes, ix_head, ix_monomials, ix_notes, mark, mono_monomials, mono_notes, monomial_limit, nested_notes, note, number_limit, number_notes, param_note, part_notes, steps_monomials, steps_notes, subscript_notes, summands_notes, value_notes}
unfoldable pub use Rattle.spf_kernel.specs.Notes.{kernel_notes, loop_notes}
pub use Rattle.spf_kernel.specs.Parsed.{IsAnswer, IsParsed, IsRuleFault, IsTextOf, IsVerdict, ParsesTo, meaning}
pub use Rattle.spf_kernel.specs.printing.Printed.{array_words, assign_words, atom_words, block, compare_word, cond_words, decl_words, fact_words, further_mono, further_number, guard_words, item_words, lead_words, limit, loop_words, mono_words, only_number, part_words, pieces, prod_words, range_words, sign_word, sized_words, term_words, trend_words, value_words, words_of, words_with}
pub use Rattle.spf_kernel.specs.Productions.{Syntax, named}
unfoldable pub use Rattle.spf_kernel.specs.Productions.{atom, decl, fact, index, inner, item, ix, kernel, nested, next_step, next_summand, number, one_loop, params, range, sized, subscripted, value, values}
pub use Rattle.spf_kernel.specs.Resolved.{AreNames, alone_of, assign_of, atom_of, bare_atom, bare_factor, cond_of, constant_of, data_array_of, data_decl_of, decl_of, factor_at, factor_of, guard_of, head_of, is_data_array, item_of, loop_of, monomial, monos_of, more_factors, more_monos, more_prods, part_of, product, signed, table_of, term_of, tree_of, value_of, variable_of}
pub use Rattle.spf_kernel.specs.Rules.{IsUnbroken, count_that, declares, fits, is_condition, is_data, is_factor, is_guard, is_in_scope, is_known, is_loop, is_naming, is_param, is_site, is_table, is_target, names_that, since, takes_data, takes_table, tokens_that}
pub use Rattle.spf_kernel.specs.Scopes.{inside, nothing, within}
pub use Rattle.spf_kernel.specs.Sites.{Weights, assign_sites, cond_sites, data_sites, fact_sites, facts_sites, guard_sites, item_sites, loop_sites, of_data, part_sites, prod_sites, prods_sites, value_sites}
pub use Rattle.spf_kernel.specs.read.Stands.{IsKernel, IsSyntaxFault, StandsAt}
pub use Rattle.spf_kernel.specs.TreeNames.{arrays_of, name_at, names_in, params_of, tables_of}
pub use Rattle.spf_kernel.specs.Signs.{becomes_word}
pub use Rattle.spf_kernel.specs.Types.{roll-Mono, Guard, Assign, Becomes, Compare, Loop, Item, Span, TextKind, Unkept, Cond, Place, Note, Says, Scope, Spot, RawAssign, RawAtom, RawAtom', RawAtom-at-None', RawAtom-at-Some', end_of-RawIx, more_of-RawIx, RawCond, RawDecl, Paren', RawFactor, Row_of-RawValue, end_of-RawValue, more_of-RawValue, RawGuard, RawItem, RawIx, RawIx', Row_of-RawStep, end_of-RawStep, more_of-RawStep, RawKernel, RawLoop, Number', RawMono, RawMono-Number-1-None', RawMono-Number-1-Some', RawPart, RawRange, RawSized, RawStep, RawSummand, RawValue, RawValue', Row_of-RawFactor, Row_of-RawSummand, end_of-RawFactor, end_of-RawSummand, more_of-RawFactor, more_of-RawSummand, DataDecl, Decl, Factor, Prod, Tree, Trend, Row_of-Factor, Row_of-Prod, Value, Value', end_of-Factor, end_of-Prod, more_of-Factor, more_of-Prod, roll-Value, TreeNames, Token, Kind, Mono, Row_of-Mono, Term, Term', end_of-Mono, more_of-Mono, roll-Term}
pub use Rattle.spf_kernel.specs.declared.check.before.Before.{Before}
pub use Rattle.spf_kernel.specs.declared.note.Says.TheVariants.{Declared, Excess, Large, Used, Variable}
pub use Rattle.spf_kernel.specs.declared.note.Sort.{Sort}
pub use Rattle.spf_kernel.specs.declared.raw.RawAtom.{Row_of-RawIx, out-roll-RawAtom}
unfoldable pub use Rattle.spf_kernel.specs.declared.raw.RawAtom.{out-RawAtom}
pub use Rattle.spf_kernel.specs.declared.raw.RawDecl.TheVariants.{Index, Params, Values}
pub use Rattle.spf_kernel.specs.declared.raw.RawIx.{items-the_row-RawStep, items_shown-the_row-RawStep-1, out-roll-RawIx, roll-RawIx}
unfoldable pub use Rattle.spf_kernel.specs.declared.raw.RawIx.{out-RawIx}
pub use Rattle.spf_kernel.specs.declared.raw.RawValue.{items-the_row-RawFactor, items-the_row-RawSummand, items_shown-the_row-RawFactor-1, items_shown-the_row-RawSummand-2, out-roll-RawValue, roll-RawValue}
unfoldable pub use Rattle.spf_kernel.specs.declared.raw.RawValue.{out-RawValue}
pub use Rattle.spf_kernel.specs.declared.check.rules.Breach.{Breach}
pub use Rattle.spf_kernel.specs.declared.tree.Factor.TheBlock.{shown-the_row-Factor-0}
pub use Rattle.spf_kernel.specs.declared.tree.Part.{Part}
pub use Rattle.spf_kernel.specs.declared.tree.Value.{items-the_row-Factor, items-the_row-Prod, items_shown-the_row-Factor-0, items_shown-the_row-Prod-1, out-roll-Value, the_lemmas}
unfoldable pub use Rattle.spf_kernel.specs.declared.tree.Value.{out-Value}
pub use Rattle.spf_lex.proofs.FixedWords.{IsFixed, number_fixed, number_value, small_fixed, symbol_fixed}
unfoldable pub use Rattle.spf_lex.proofs.Leaves.{Leaves}
pub use Rattle.spf_lex.proofs.Leaves.{join_each, split_each}
pub use Rattle.spf_lex.proofs.PrintedWords.{Holds, IsText, absent, behind_part, behind_word, enclosed, holds_all, holds_both, in_words, no_words, none_more, on_left, on_right, one_more, stands_inside, word_alone}
pub use Rattle.spf_lex.proofs.Repeating.{Rest, from_parts, goes_on}
pub use Rattle.spf_lex.proofs.Spans.{each_text}
pub use Rattle.spf_lex.proofs.StandingLeaves.{standing_leaves}
pub use Rattle.spf_lex.specs.BundleWords.{bundle_words, same_kind}
pub use Rattle.spf_lex.specs.Derivation.{Derivation, made}
pub use Rattle.spf_lex.specs.Grammar.{Grammar, IsExact, Many, One, Then}
pub use Rattle.spf_lex.specs.Joined.{joined}
pub use Rattle.spf_lex.specs.Language.{Lexed, kind_of, tokens_of, value_in}
unfoldable pub use Rattle.spf_lex.specs.Language.{lexed}
pub use Rattle.spf_lex.specs.Production.{Production, and_more, begins, behind, between, flag, last, many, one_of, optional, production, separated, token, ◌<$>◌, ◌>>=◌, ◌or◌}
pub use Rattle.spf_lex.specs.Reader.{further, repeat, sees}
pub use Rattle.spf_lex.specs.Tokens.{IsTokenText, IsTokenized, Tokenized, texts}
pub use Rattle.spf_lex.specs.declared.kind.Kind.TheVariants.{Star}
pub use Rattle.spf_term.specs.Value.{applications, atom_applications, sum_applications}
pub use Rattle.spf_term.specs.declared.term.Atom.{Atom}
pub use Rattle.spf_term.specs.declared.term.Term.{items-the_row-Mono, items_shown-the_row-Mono-0, out-roll-Term}
unfoldable pub use Rattle.spf_term.specs.declared.term.Term.{out-Term}
pub use Rattle.std.proofs.Common.{All, Bool, Err, List, None, Ok, Option, Result, Some, [], ap, append-nil, append_assoc, arith, codes, cond, count_by, decimal, drop, drop_of_length-le, false, filter, flat_map, fold, get_or, inl, inr, is_some, length, length-append, map, min, nat_le, nat_lt, neg_ℤ, negsuc, not, pos, position, refl, replicate, reverse, rules, slice_get, subst, suc, sym, take, take_while, true, true≢false, unsigned_abs, w64, zero, ℕ, ℤ, ⊎_elim, ◌%◌, ◌&&◌, ◌*◌, ◌++◌, ◌+ℤ◌, ◌+◌, ◌-ℤ◌, ◌-◌, ◌/◌, ◌<◌, ◌==◌, ◌^◌, ◌||◌, ◌∙◌, ◌∷◌, ◌≡◌, ◌≤◌, ◌⊎◌}
pub use Rattle.std.proofs.lemmas.Bool.Decides.{nat_tests}
pub use Rattle.std.proofs.lemmas.Bool.{false_from_ne_true, le-ltb, leb-true, ltb-false, ltb-true}
pub use Rattle.std.proofs.lemmas.Grind.{common_steps, flat_map-append}
pub use Rattle.std.proofs.lemmas.Int.{fits_signed_from_abs, int_wrap-add_left, int_wrap-add_right, int_wrap-sub_right, int_wrap_fits, ints}
pub use Rattle.std.proofs.lemmas.List.Elements.{All-cons, All-from_recursion, All-nil, filter-append, recursion_from_All}
pub use Rattle.std.proofs.lemmas.List.Folds.{list_any-append, sum_by-replicate}
pub use Rattle.std.proofs.lemmas.List.Sums.{count_by-le-length, fold_push, length-filter, prefix_len-le-length, sum_by-append, sum_by-cons, sum_by-take-le, sum_by_push}
pub use Rattle.std.proofs.lemmas.List.{get_or-append-add, get_or_append_left, length-drop, length-map, length-replicate, length-reverse, length-take, length-take-le, map-append, map_push, reverse-append, take-append-drop, take_all, take_more}
pub use Rattle.std.proofs.lemmas.Option.{get_or_from_slice_get, slice_get-map, slice_get_past, slice_get_read, slice_get_within}
pub use Rattle.std.proofs.lemmas.Result.{IfOk-weaker, on_ok_weaker}
pub use Rattle.std.proofs.lemmas.Slice.Eq.{bytes_eq-Decides}
pub use Rattle.std.specs.Int.{cast_signed, is_negative}
unfoldable pub use Rattle.std.specs.Int.{int_wrap}
pub use Rattle.std.specs.List.{AllByRecursion, list_all, list_any, position_or_len, prefix_len, sum, sum_by}
pub use Rattle.std.specs.Option.{option_map, option_or, unwrap_or}
pub use Rattle.std.specs.Prelude.{if◌then◌else◌, ⊤}
pub use Rattle.std.specs.Str.{bytes_eq}
