-- The value of a term, added up from the front: no sum passes 128 bits.
use Rattle.std.proofs.Common.{◌≡◌, inl, inr, ℕ, ◌+◌, ◌*◌, ◌<◌, ◌≤◌, ◌^◌, ℤ, pos, negsuc, ◌+ℤ◌, ◌*ℤ◌, List, [], ◌∷◌, None, length, get_or, drop, refl, ap, sym, ◌∙◌, subst, arith, unsigned_abs, FitsSigned}
use Rattle.std.proofs.lemmas.Bool.{cases_lt}
use Rattle.std.proofs.lemmas.Int.{fits_signed_from_abs, ints}
use Rattle.std.proofs.lemmas.List.{drop_all, get_or_past}
use Rattle.std.proofs.lemmas.List.Elements.{All-from_recursion, All-nil}
use Rattle.std.specs.Int.{w128}
use Rattle.std.specs.List.{All}
use Rattle.spf_term.specs.Bounded.{AreWithin, IsWithin}
use Rattle.spf_term.specs.Environment.{Environment}
use Rattle.spf_term.specs.NumberRule.{AtomKeepsRule, excess}
use Rattle.spf_term.specs.Value.{atom_value, number_at, table_at, value}
use Rattle.spf_term.specs.declared.term.Atom.{Atom, Var, Param, App}
use Rattle.spf_term.specs.declared.term.Mono.{Mono}
use Rattle.spf_term.specs.declared.term.Term.{Term, out-Term}
use Rattle.spf_term.proofs.Monos.{drop_next, list_value, value_is}
use Rattle.spf_rel.proofs.SmallTerms.{AreSmall, IsSmallMono, few_monos, small_constant, small_monos, times_within}

abbrev pub Near : ℤ → Type 0
Near number = IsWithin (2 ^ 22) number

near_zero : Near (pos 0)
near_zero = omega (arith, ints)

near_at : (numbers : List ℤ) (place : ℤ) → All Near numbers → Near (number_at numbers place)
near_at numbers (pos place) h = elim (cases_lt place (length numbers)) [
  | inl inside ↦ h place (pos 0) inside
  | inr past ↦ subst Near (sym (get_or_past numbers place (pos 0) past)) near_zero
]
near_at numbers (negsuc below) h = near_zero

-- the sum so far, and what is still to be added
pub record Summing (env : Environment) (variables : List ℤ) (term : Term) (monos : List Mono) (index : ℕ) (sum : ℤ) : Type 0 where
  pub same : sum +ℤ list_value env variables (drop index monos) ≡ value env variables term
  pub near : IsWithin (2 ^ 62 + index * 2 ^ 84) sum

module _ (env : Environment) (variables : List ℤ) (small : AreWithin env variables) where
  near_table : (number : ℕ) → All Near (table_at env number)
  near_table number = elim (cases_lt number (length env.tables)) [
    | inl inside ↦ small.tables number [] inside
    | inr past ↦ subst (All Near) (sym (get_or_past env.tables number [] past)) (All-nil Near)
  ]

  near_atom : (atom : Atom) → Near (atom_value env variables atom)
  near_atom (Var number) = near_at variables (pos number) small.values
  near_atom (Param number) = near_at env.params (pos number) small.params
  near_atom (App fun arg) = near_at (table_at env fun) (value env variables arg) (near_table fun)

  module _ (term : Term) (keeps : excess term ≡ None) (monos : List Mono) (are : monos ≡ (out-Term term).monos) where
    pub begun : Summing env variables term monos 0 (out-Term term).constant
    begun =
        let last = small_constant term keeps in
        let is = value_is env variables term in
        let all = ap (list_value env variables) are in
        record { same = omega (arith, ints, is, all); near = omega (arith, last) }

    module _ (index : ℕ) (sum : ℤ) (h : Summing env variables term monos index sum) where
      pub summed : length monos ≤ index → sum ≡ value env variables term
      summed past =
          let none = ap (list_value env variables) (drop_all index monos past) in
          let same = h.same in
          omega (arith, ints, none, same)

      module _ (mono : Mono) (inside : index < length monos) (at : mono ≡ get_or monos index mono) where
        abbrev more : ℤ
        more = mono.coef *ℤ atom_value env variables mono.atom

        near_more : IsWithin (2 ^ 62 * 2 ^ 22) more
        near_more =
            let each = All-from_recursion IsSmallMono monos (subst AreSmall (sym are) (small_monos term keeps)) in
            times_within mono.coef (atom_value env variables mono.atom) (subst IsSmallMono (sym at) (each index mono inside)).0 (near_atom mono.atom)

        summed_on : Summing env variables term monos (index + 1) (sum +ℤ more)
        summed_on =
            let split = ap (list_value env variables) (drop_next monos index mono inside at) in
            let same = h.same in
            let near = h.near in
            let step = near_more in
            record { same = omega (arith, ints, split, same); near = omega (arith, ints, near, step) }

        small_sum : FitsSigned w128 (sum +ℤ more)
        small_sum =
            let near = summed_on.near in
            let few = few_monos term keeps in
            let all = ap (λ (of : List Mono). length of) are in
            fits_signed_from_abs w128 (sum +ℤ more) (omega (arith, near, few, all, inside))

        -- with the value of the atom, and the new sum
        module _ (number : ℤ) (number_is : number ≡ atom_value env variables mono.atom) where
          pub fits : FitsSigned w128 (sum +ℤ (mono.coef *ℤ number))
          fits = subst (λ of. FitsSigned w128 (sum +ℤ (mono.coef *ℤ of))) (sym number_is) small_sum

          pub next : (new : ℤ) → new ≡ sum +ℤ (mono.coef *ℤ number) → Summing env variables term monos (index + 1) new
          next new is = subst (Summing env variables term monos (index + 1)) (sym (is ∙ ap (λ of. sum +ℤ (mono.coef *ℤ of)) number_is)) summed_on

        pub keeps_in : AtomKeepsRule mono.atom
        keeps_in =
            let each = All-from_recursion IsSmallMono monos (subst AreSmall (sym are) (small_monos term keeps)) in
            (subst IsSmallMono (sym at) (each index mono inside)).1
