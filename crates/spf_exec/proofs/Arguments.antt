-- The arguments of a term's applications, nested ones too: where each of their values has 64 bits.
use Rattle.std.proofs.Common.{◌≡◌, ℕ, ◌+◌, ◌≤◌, ℤ, ◌+ℤ◌, pos, Bool, true, false, List, [], ◌∷◌, FitsSigned, w64, ap, sym, subst}
use Rattle.std.specs.Prelude.{⊤, if◌then◌else◌}
use Rattle.std.specs.List.{AllByRecursion}
use Rattle.std.specs.Ordering.{int_eq}
use Rattle.std.specs.declared.cmp.Ordering.{Ordering}
use Rattle.std.specs.declared.cmp.Ordering.TheVariants.{Less, Equal, Greater}
use Rattle.std.proofs.lemmas.List.Elements.{All-from_recursion, recursion_from_All}
use Rattle.spf_term.specs.Environment.{Environment}
use Rattle.spf_term.specs.Normal.{added, by_order, kept, normal, normal_atom, normal_monos}
use Rattle.spf_term.specs.Order.{atom_cmp}
use Rattle.spf_term.specs.Substitution.{is_variable, scaled, substituted, substituted_atom, substituted_constants, substituted_monos}
use Rattle.spf_term.specs.Value.{HasSmallPlace, IsSmall, applications, atom_applications, atom_entries, entries, sum_entries, value}
use Rattle.spf_term.specs.declared.term.Atom.{Atom, Var, Param, App}
use Rattle.spf_term.specs.declared.term.Mono.{Mono}
use Rattle.spf_term.specs.declared.term.Term.{Term, Term', out-Term, roll-Term, out-roll-Term, Row_of-Mono, end_of-Mono, more_of-Mono, items-the_row-Mono, items_shown-the_row-Mono-0}
use Rattle.spf_exec.proofs.Alike.{join_each, split_each}

-- ---- something holds of each atom

abbrev pub AllAtoms : (Atom → Type 0) → List Mono → Type 0
AllAtoms P monos = AllByRecursion (λ (mono : Mono). P mono.atom) monos

module _ (P : Atom → Type 0) where
  kept_atoms : (coef : ℤ) (atom : Atom) (monos : List Mono) → P atom → AllAtoms P monos → AllAtoms P (kept coef atom monos)
  kept_atoms coef atom monos first rest = choose (int_eq coef (pos 0)) where
    choose : (none : Bool) → AllAtoms P (if none then monos else record { coef = coef; atom = atom } ∷ monos)
    choose true = rest
    choose false = (first, rest)

  ordered_atoms : (order : Ordering) (less equal greater : List Mono) → AllAtoms P less → AllAtoms P equal → AllAtoms P greater → AllAtoms P (by_order order less equal greater)
  ordered_atoms Less less equal greater p q r = p
  ordered_atoms Equal less equal greater p q r = q
  ordered_atoms Greater less equal greater p q r = r

  added_atoms : (coef : ℤ) (atom : Atom) (monos : List Mono) → P atom → AllAtoms P monos → AllAtoms P (added coef atom monos)
  added_atoms coef atom [] first rest = kept_atoms coef atom [] first rest
  added_atoms coef atom (mono ∷ monos) first rest =
      ordered_atoms (atom_cmp atom mono.atom) (kept coef atom (mono ∷ monos)) (kept (coef +ℤ mono.coef) mono.atom monos) (mono ∷ added coef atom monos)
      (kept_atoms coef atom (mono ∷ monos) first rest) (kept_atoms (coef +ℤ mono.coef) mono.atom monos rest.0 rest.1) (rest.0, added_atoms coef atom monos first rest.1)

  scaled_atoms : (coef : ℤ) (monos : List Mono) → AllAtoms P monos → AllAtoms P (scaled coef monos)
  scaled_atoms coef [] each = tt
  scaled_atoms coef (mono ∷ monos) each = (each.0, scaled_atoms coef monos each.1)

  pub either_atoms : (is : Bool) (monos others : List Mono) → AllAtoms P monos → AllAtoms P others → AllAtoms P (if is then monos else others)
  either_atoms true monos others first second = first
  either_atoms false monos others first second = second

-- ---- arguments whose values have 64 bits

module _ (env : Environment) (variables : List ℤ) where
  abbrev mutual
    pub HasSmallArguments : Term → Type 0
    HasSmallArguments (Term' shape monos constant) = HaveSmallArguments monos

    pub HaveSmallArguments : {n : _} → Row_of-Mono n → Type 0
    HaveSmallArguments end_of-Mono = ⊤
    HaveSmallArguments (more_of-Mono coef atom others) = AtomHasSmallArguments atom × HaveSmallArguments others

    pub AtomHasSmallArguments : Atom → Type 0
    AtomHasSmallArguments (Var number) = ⊤
    AtomHasSmallArguments (Param number) = ⊤
    AtomHasSmallArguments (App fun arg) = FitsSigned w64 (value env variables arg) × HasSmallArguments arg

  row_small : {n : _} (row : Row_of-Mono n) → AllAtoms AtomHasSmallArguments (items-the_row-Mono n row) → HaveSmallArguments row
  row_small end_of-Mono each = tt
  row_small (more_of-Mono coef atom others) each = (each.0, row_small others each.1)

  small_row : {n : _} (row : Row_of-Mono n) → HaveSmallArguments row → AllAtoms AtomHasSmallArguments (items-the_row-Mono n row)
  small_row end_of-Mono each = tt
  small_row (more_of-Mono coef atom others) each = (each.0, small_row others each.1)

  pub arguments_in : (term : Term) → AllAtoms AtomHasSmallArguments (out-Term term).monos → HasSmallArguments term
  unfolding out-Term denote.Hole.Carrier.out
  arguments_in (Term' shape monos constant) each = row_small monos (subst (AllAtoms AtomHasSmallArguments) (items_shown-the_row-Mono-0 shape monos) each)

  pub arguments_of : (term : Term) → HasSmallArguments term → AllAtoms AtomHasSmallArguments (out-Term term).monos
  unfolding out-Term denote.Hole.Carrier.out
  arguments_of (Term' shape monos constant) each = subst (AllAtoms AtomHasSmallArguments) (sym (items_shown-the_row-Mono-0 shape monos)) (small_row monos each)

  pub rolled_arguments : (monos : List Mono) (constant : ℤ) → AllAtoms AtomHasSmallArguments monos → HasSmallArguments (roll-Term (record { monos = monos; constant = constant }))
  rolled_arguments monos constant each =
      arguments_in (roll-Term (record { monos = monos; constant = constant }))
      (subst (AllAtoms AtomHasSmallArguments) (sym (ap (λ term. term.monos) (out-roll-Term (record { monos = monos; constant = constant })))) each)

  -- the places that are read are the arguments' values
  mutual
    places_small : (site : ℕ) (term : Term) → HasSmallArguments term → AllByRecursion HasSmallPlace (entries env variables site term)
    places_small site (Term' shape monos constant) small = row_places site monos small

    row_places : {n : _} (site : ℕ) (row : Row_of-Mono n) → HaveSmallArguments row → AllByRecursion HasSmallPlace (sum_entries env variables site row)
    row_places site end_of-Mono small = tt
    row_places site (more_of-Mono coef atom others) small =
        join_each HasSmallPlace (atom_entries env variables site atom) (sum_entries env variables (site + atom_applications atom) others) (atom_places site atom small.0) (row_places (site + atom_applications atom) others small.1)

    atom_places : (site : ℕ) (atom : Atom) → AtomHasSmallArguments atom → AllByRecursion HasSmallPlace (atom_entries env variables site atom)
    atom_places site (Var number) small = tt
    atom_places site (Param number) small = tt
    atom_places site (App fun arg) small =
        join_each HasSmallPlace (entries env variables (site + 1) arg) (record { site = site; table = fun; place = value env variables arg } ∷ []) (places_small (site + 1) arg small.1) (small.0, tt)

  mutual
    arguments_small : (site : ℕ) (term : Term) → AllByRecursion HasSmallPlace (entries env variables site term) → HasSmallArguments term
    arguments_small site (Term' shape monos constant) each = row_arguments site monos each

    row_arguments : {n : _} (site : ℕ) (row : Row_of-Mono n) → AllByRecursion HasSmallPlace (sum_entries env variables site row) → HaveSmallArguments row
    row_arguments site end_of-Mono each = tt
    row_arguments site (more_of-Mono coef atom others) each =
        let parts = split_each HasSmallPlace (atom_entries env variables site atom) (sum_entries env variables (site + atom_applications atom) others) each in
        (atom_arguments site atom parts.0, row_arguments (site + atom_applications atom) others parts.1)

    atom_arguments : (site : ℕ) (atom : Atom) → AllByRecursion HasSmallPlace (atom_entries env variables site atom) → AtomHasSmallArguments atom
    atom_arguments site (Var number) each = tt
    atom_arguments site (Param number) each = tt
    atom_arguments site (App fun arg) each =
        let parts = split_each HasSmallPlace (entries env variables (site + 1) arg) (record { site = site; table = fun; place = value env variables arg } ∷ []) each in
        (parts.1.0, arguments_small (site + 1) arg parts.0)

  -- a small term has small arguments, and with a small value and few applications such a term is small
  pub small_arguments : (term : Term) → IsSmall env variables term → HasSmallArguments term
  small_arguments term small = arguments_small 0 term (recursion_from_All HasSmallPlace (entries env variables 0 term) (small.places 0))

  pub small_by : (term : Term) → FitsSigned w64 (value env variables term) → HasSmallArguments term → applications term ≤ 16384 → IsSmall env variables term
  small_by term fits small few = record { value = fits; places = λ site. All-from_recursion HasSmallPlace (entries env variables site term) (places_small site term small); few = few }

  -- normal forms
  module _ (normal_keeps : (term : Term) → value env variables (normal term) ≡ value env variables term) where
    mutual
      pub normal_arguments : (term : Term) → HasSmallArguments term → HasSmallArguments (normal term)
      normal_arguments (Term' shape monos constant) small = rolled_arguments (normal_monos monos) constant (normal_row monos small)

      normal_row : {n : _} (row : Row_of-Mono n) → HaveSmallArguments row → AllAtoms AtomHasSmallArguments (normal_monos row)
      normal_row end_of-Mono small = tt
      normal_row (more_of-Mono coef atom others) small = added_atoms AtomHasSmallArguments coef (normal_atom atom) (normal_monos others) (normal_small atom small.0) (normal_row others small.1)

      normal_small : (atom : Atom) → AtomHasSmallArguments atom → AtomHasSmallArguments (normal_atom atom)
      normal_small (Var number) small = tt
      normal_small (Param number) small = tt
      normal_small (App fun arg) small = (subst (FitsSigned w64) (sym (normal_keeps arg)) small.0, normal_arguments arg small.1)

-- ---- a term in place of a variable

module _ (env : Environment) (here source : List ℤ) (var : ℕ) (by : Term) (by_small : HasSmallArguments env here by)
    (same : (term : Term) → value env here (substituted var by term) ≡ value env source term) where
  mutual
    pub substituted_arguments : (term : Term) → HasSmallArguments env source term → HasSmallArguments env here (substituted var by term)
    substituted_arguments (Term' shape monos constant) small = rolled_arguments env here (substituted_monos var by monos) (constant +ℤ substituted_constants var by monos) (substituted_row monos small)

    substituted_row : {n : _} (row : Row_of-Mono n) → HaveSmallArguments env source row → AllAtoms (AtomHasSmallArguments env here) (substituted_monos var by row)
    substituted_row end_of-Mono small = tt
    substituted_row (more_of-Mono coef atom others) small =
        join_each (λ (mono : Mono). AtomHasSmallArguments env here mono.atom) (if is_variable var atom then scaled coef (out-Term by).monos else record { coef = coef; atom = substituted_atom var by atom } ∷ [])
        (substituted_monos var by others)
        (either_atoms (AtomHasSmallArguments env here) (is_variable var atom) (scaled coef (out-Term by).monos) (record { coef = coef; atom = substituted_atom var by atom } ∷ [])
        (scaled_atoms (AtomHasSmallArguments env here) coef (out-Term by).monos (arguments_of env here by by_small)) (substituted_small atom small.0, tt))
        (substituted_row others small.1)

    substituted_small : (atom : Atom) → AtomHasSmallArguments env source atom → AtomHasSmallArguments env here (substituted_atom var by atom)
    substituted_small (Var number) small = tt
    substituted_small (Param number) small = tt
    substituted_small (App fun arg) small = (subst (FitsSigned w64) (sym (same arg)) small.0, substituted_arguments arg small.1)
