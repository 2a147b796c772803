-- Where the blocks of a renumbering go, and what stands there.
use Rattle.std.proofs.Common.{◌≡◌, ℕ, ◌+◌, ◌-◌, ◌<◌, ◌≤◌, inl, inr, ℤ, pos, List, [], ◌++◌, length, get_or, ap, sym, ◌∙◌, arith, length-append}
use Rattle.std.proofs.lemmas.Bool.{cases_lt}
use Rattle.std.proofs.lemmas.Bool.Decides.{nat_tests}
use Rattle.std.proofs.lemmas.List.{get_or_append_left, get_or-append-add, get_or-append_right}
use Rattle.spf_rel.specs.Renumbering.{moved}
use Rattle.spf_rel.specs.declared.renumber.Blocks.{Blocks}

module _ (blocks : Blocks) (number : ℕ) where
  pub in_first : number < blocks.first → moved blocks number ≡ blocks.to_first + number
  in_first h = grind (arith, nat_tests)

  pub in_second : blocks.first ≤ number → number - blocks.first < blocks.second → moved blocks number ≡ blocks.to_second + (number - blocks.first)
  in_second h k = grind (arith, nat_tests)

  pub in_others : blocks.first ≤ number → blocks.second ≤ number - blocks.first → moved blocks number ≡ blocks.to_others + (number - blocks.first - blocks.second)
  in_others h k = grind (arith, nat_tests)

  -- each block ends below the bound
  pub moved_below : (others bound : ℕ) → blocks.to_first + blocks.first ≤ bound → blocks.to_second + blocks.second ≤ bound → blocks.to_others + others ≤ bound
      → number < blocks.first + blocks.second + others → moved blocks number < bound
  moved_below others bound h k l inside = grind (arith, nat_tests)

-- the numbers stand in the list, from this place on
pub record At (values : List ℤ) (start : ℕ) (part : List ℤ) : Type 0 where
  pub each : (k : ℕ) → k < length part → get_or values (start + k) (pos 0) ≡ get_or part k (pos 0)

pub at_first : (part rest : List ℤ) → At (part ++ rest) 0 part
at_first part rest = record { each = λ k inside. ap (λ place. get_or (part ++ rest) place (pos 0)) (omega arith) ∙ get_or_append_left part rest (pos 0) k inside }

pub at_later : (before values : List ℤ) (start : ℕ) (part : List ℤ) → At values start part → At (before ++ values) (length before + start) part
at_later before values start part at = record {
  each = λ k inside. ap (λ place. get_or (before ++ values) place (pos 0)) (omega arith) ∙ get_or-append-add before values (start + k) (pos 0) ∙ at.each k inside;
}

pub at_longer : (values rest : List ℤ) (start : ℕ) (part : List ℤ) → start + length part ≤ length values → At values start part → At (values ++ rest) start part
at_longer values rest start part within at = record { each = λ k inside. get_or_append_left values rest (pos 0) (start + k) (omega arith) ∙ at.each k inside }

pub at_nothing : (values : List ℤ) (start : ℕ) → At values start []
at_nothing values start = record { each = λ k inside. absurd (omega arith) }

-- three lists stand where the blocks go
module _ (blocks : Blocks) (values first second others : List ℤ)
    (are_first : length first ≡ blocks.first) (are_second : length second ≡ blocks.second)
    (at_first' : At values blocks.to_first first) (at_second : At values blocks.to_second second) (at_others : At values blocks.to_others others) where
  pub moved_value : (number : ℕ) → number < blocks.first + blocks.second + length others → get_or values (moved blocks number) (pos 0) ≡ get_or ((first ++ second) ++ others) number (pos 0)
  moved_value number inside = elim (cases_lt number blocks.first) [
    | inl here ↦
        ap (λ place. get_or values place (pos 0)) (in_first blocks number here) ∙ at_first'.each number (omega arith)
        ∙ sym (get_or_append_left (first ++ second) others (pos 0) number (omega (arith, length-append first second)) ∙ get_or_append_left first second (pos 0) number (omega arith))
    | inr past ↦ elim (cases_lt (number - blocks.first) blocks.second) [
      | inl here ↦
          ap (λ place. get_or values place (pos 0)) (in_second blocks number past here) ∙ at_second.each (number - blocks.first) (omega arith)
          ∙ sym (get_or_append_left (first ++ second) others (pos 0) number (omega (arith, length-append first second)) ∙ get_or-append_right first second blocks.first number (pos 0) are_first past)
      | inr beyond ↦
          ap (λ place. get_or values place (pos 0)) (in_others blocks number past beyond) ∙ at_others.each (number - blocks.first - blocks.second) (omega arith)
          ∙ sym (get_or-append_right (first ++ second) others (blocks.first + blocks.second) number (pos 0) (omega (arith, length-append first second)) (omega arith)
          ∙ ap (λ place. get_or others place (pos 0)) (omega arith))
    ]
  ]
