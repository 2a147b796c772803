-- Loops are written again, and what stands in their bodies.
use Rattle.spf_kernel.proofs.Common.{Item, Loop, Spot, Says, Sort, Kind, ◌≡◌, ℕ, List, [], ◌∷◌, map, flat_map, refl, ap, sym, ◌∙◌, codes, bundle_words, ◌<$>◌, many, Token, small_fixed, symbol_fixed, RawRange, RawPart, RawItem, RawLoop, text_of, fact_with, Names, names_of, part_notes, item_notes, part_words, item_words, loop_words, part_of, item_of, loop_of, nothing, within, inside, Part, loop_notes, block}
use Rattle.spf_kernel.specs.Productions as syntax
use Rattle.spf_kernel.proofs.Written.{in_source, Source, Context, shown, Meaning, AreWritten}
use Rattle.spf_kernel.proofs.WrittenParts.{Behind, either_written, ◌&◌, then_by, led_by, enclosed_by, repeated, a_name, made_of}
use Rattle.spf_kernel.proofs.WrittenStatements.{Range, braced, a_part, a_range}

-- ---- loops

module _ (s : Source) where
  -- no variable is in scope, those of a loop, or those of both loops
  abbrev pub outside : Context
  outside = record { texts = s.texts; written = s.written; facts = s.facts; scope = nothing; again = nothing; scoped = refl }

  abbrev names : Names
  names = names_of s.facts

  module _ (outer outer_again : Token) (same_outer : text_of s.written outer_again ≡ text_of s.texts outer) where
    abbrev outer_vars : List (List ℕ)
    outer_vars = text_of s.texts outer ∷ []

    abbrev one_loop : Context
    one_loop = record { texts = s.texts; written = s.written; facts = s.facts; scope = within outer; again = within outer_again; scoped = λ i. same_outer i ∷ [] }

    abbrev two_loops : (inner inner_again : Token) → text_of s.written inner_again ≡ text_of s.texts inner → Context
    two_loops inner inner_again same = record {
      texts = s.texts;
      written = s.written;
      facts = s.facts;
      scope = inside outer inner;
      again = inside outer_again inner_again;
      scoped = λ i. same_outer i ∷ same i ∷ [];
    }

    abbrev item_as : Meaning RawItem Item
    item_as = record { means = item_of s.texts names outer; means_again = item_of s.written names outer_again; notes = item_notes outer; notes_again = item_notes outer_again; words = item_words (shown names) outer_vars }

    -- ---- a part of an inner body, as one of an outer body

    abbrev as_item : Part → Item
    as_item (Part.Assign assign) = Item.Assign assign
    as_item (Part.Branch guard) = Item.Branch guard

    part_as_item : (texts : List (List ℕ)) (outer : Token) (x : RawPart) → item_of texts names outer (RawItem.Part x) ≡ as_item (part_of texts names (within outer) x)
    part_as_item texts outer (RawPart.Assign x) = refl
    part_as_item texts outer (RawPart.Guard x) = refl

    part_words_of_item : (x : Part) → item_words (shown names) outer_vars (as_item x) ≡ part_words (shown names) outer_vars x
    part_words_of_item (Part.Assign x) = refl
    part_words_of_item (Part.Branch x) = refl

    item_part_written : AreWritten s (RawItem.Part <$> syntax.part) item_as
    item_part_written = made_of (a_part one_loop) item_as RawItem.Part (record {
      fit = λ r fit. fit;
      words = λ r fit. ap (item_words (shown names) outer_vars) (part_as_item s.texts outer r) ∙ part_words_of_item (part_of s.texts names (within outer) r);
      means = λ r again same. part_as_item s.written outer_again again ∙ ap as_item same ∙ sym (part_as_item s.texts outer r);
      same = λ r again same facts. facts;
    })

    -- ---- inner loops

    abbrev inner_body : Behind RawRange (List RawPart) Range (List Part)
    inner_body = record {
      means = λ range. map (part_of s.texts names (inside outer range.var));
      means_again = λ range. map (part_of s.written names (inside outer_again range.var));
      notes = λ range. flat_map (part_notes (inside outer range.var));
      notes_again = λ range. flat_map (part_notes (inside outer_again range.var));
      words = λ range. block (part_words (shown names) (text_of s.texts outer ∷ range.0 ∷ []));
    }

    inner_written : AreWritten s syntax.inner item_as
    unfolding syntax.inner
    inner_written =
        made_of (led_by (small_fixed bundle_words Kind.For (codes "for") refl refl) (then_by (a_range one_loop Spot.Body refl) (syntax.braced (many syntax.part)) inner_body (λ r again same. (braced (repeated (a_part (two_loops r.var again.var (λ i. (same i).0))))).again))) item_as
        (λ x. RawItem.Inner x.0 x.1)
        (record {
          fit = λ r fit. fit.1;
          words = λ r fit. refl;
          means = λ r again same i. Item.Inner (same i).0.0 (same i).0.1.0 (same i).0.1.1 (same i).1;
          same = λ r again same facts i. fact_with Says.Variable (same i).0.0 (same_outer i ∷ []) ∷ facts i;
        })

    item_written : AreWritten s syntax.item item_as
    unfolding syntax.item
    item_written = either_written (RawItem.Part <$> syntax.part) syntax.inner item_as item_part_written inner_written

  -- ---- outer loops

  abbrev pub loop_as : Meaning RawLoop Loop
  loop_as = in_source s loop_of loop_notes loop_words

  abbrev outer_body : Behind RawRange (List RawItem) Range (List Item)
  outer_body = record {
    means = λ range. map (item_of s.texts names range.var);
    means_again = λ range. map (item_of s.written names range.var);
    notes = λ range. flat_map (item_notes range.var);
    notes_again = λ range. flat_map (item_notes range.var);
    words = λ range. block (item_words (shown names) (range.0 ∷ []));
  }

  pub loop_written : AreWritten s syntax.one_loop loop_as
  unfolding syntax.one_loop loop_notes
  loop_written =
      made_of
      (led_by (small_fixed bundle_words Kind.Loop (codes "loop") refl refl) (a_name & then_by (enclosed_by (symbol_fixed bundle_words Kind.OpenParenthesis (codes "(") refl refl) (symbol_fixed bundle_words Kind.CloseParenthesis (codes ")") refl refl) (a_range outside Spot.Bound refl)) (syntax.braced (many syntax.item)) outer_body
      (λ r again same. (braced (repeated (record { form = syntax.item; of = item_as r.var again.var (λ i. (same i).0); again = item_written r.var again.var (λ i. (same i).0) }))).again)))
      loop_as (λ x. record { name = x.0; range = x.1.0; items = x.1.1 })
      (record {
        fit = λ r fit. fit.1.1;
        words = λ r fit. refl;
        means = λ r again same i. record { name = (same i).0; var = (same i).1.0.0; low = (same i).1.0.1.0; high = (same i).1.0.1.1; items = (same i).1.1 };
        same = λ r again same facts i. fact_with (Says.Declared Sort.Loop) (same i).0 [] ∷ fact_with Says.Variable (same i).1.0.0 [] ∷ facts i;
      })
