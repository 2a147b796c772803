-- The order of terms, said of their monomials as lists.
use Rattle.std.proofs.Common.{◌≡◌, ℕ, ◌<◌, ◌≤◌, List, [], length, drop, refl, ap, sym, ◌∙◌}
use Rattle.std.proofs.lemmas.List.{drop_all, drop_more}
use Rattle.std.specs.Cmp.Lexicographic.{slice_cmp}
use Rattle.std.specs.Ordering.{int_cmp, ordering_then}
use Rattle.std.specs.declared.cmp.Ordering.{Ordering}
use Rattle.std.specs.declared.cmp.Ordering.TheVariants.{Less, Equal, Greater}
use Rattle.spf_term.specs.Order.{atom_cmp, monos_cmp, term_cmp}
use Rattle.spf_term.specs.declared.term.Mono.{Mono}
use Rattle.spf_term.specs.declared.term.Term.{Term, Term', out-Term, Row_of-Mono, end_of-Mono, more_of-Mono, items-the_row-Mono, items_shown-the_row-Mono-0}

abbrev pub mono_cmp : Mono → Mono → Ordering
mono_cmp a b = ordering_then (atom_cmp a.atom b.atom) (int_cmp a.coef b.coef)

then_grouped : (a b c : Ordering) → ordering_then a (ordering_then b c) ≡ ordering_then (ordering_then a b) c
then_grouped Less b c = refl
then_grouped Equal b c = refl
then_grouped Greater b c = refl

rows_cmp : {m n : _} (a : Row_of-Mono m) (b : Row_of-Mono n) → monos_cmp a b ≡ slice_cmp mono_cmp (items-the_row-Mono m a) (items-the_row-Mono n b)
rows_cmp end_of-Mono end_of-Mono = refl
rows_cmp end_of-Mono (more_of-Mono coef' atom' others') = refl
rows_cmp (more_of-Mono coef atom others) end_of-Mono = refl
rows_cmp (more_of-Mono coef atom others) (more_of-Mono coef' atom' others') =
    ap (λ rest. ordering_then (atom_cmp atom atom') (ordering_then (int_cmp coef coef') rest)) (rows_cmp others others')
    ∙ then_grouped (atom_cmp atom atom') (int_cmp coef coef') _

pub term_cmp_is : (a b : Term) → term_cmp a b ≡ ordering_then (slice_cmp mono_cmp (out-Term a).monos (out-Term b).monos) (int_cmp (out-Term a).constant (out-Term b).constant)
unfolding out-Term denote.Hole.Carrier.out
term_cmp_is (Term' shape monos constant) (Term' shape' monos' constant') =
    ap (λ rest. ordering_then rest (int_cmp constant constant'))
    (rows_cmp monos monos' ∙ (λ i. slice_cmp mono_cmp (sym (items_shown-the_row-Mono-0 shape monos) i) (sym (items_shown-the_row-Mono-0 shape' monos') i)))

-- ---- the first list ends before the second

pub shorter : {X : Type 0} (R : X → X → Ordering) (xs ys : List X) (i : ℕ) (d : X) → length xs ≤ i → i < length ys → slice_cmp R (drop i xs) (drop i ys) ≡ Less
shorter R xs ys i d past inside = ap (λ rest. slice_cmp R rest (drop i ys)) (drop_all i xs past) ∙ ap (slice_cmp R []) (drop_more ys i d inside)
