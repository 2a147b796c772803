-- The order of atoms and terms is total.
use Rattle.std.proofs.Common.{◌≡◌, refl, ap, sym, ◌∙◌}
use Rattle.std.specs.Cmp.{IsTotalOrder, then_flip}
use Rattle.std.specs.Ordering.{int_cmp, nat_cmp, ordering_reverse, ordering_then}
use Rattle.std.specs.declared.cmp.Ordering.{Ordering}
use Rattle.std.specs.declared.cmp.Ordering.TheVariants.{Less, Equal, Greater}
use Rattle.std.proofs.lemmas.Cmp.{alike_right, int_cmp_total, nat_cmp_total}
use Rattle.spf_term.specs.Order.{atom_cmp, monos_cmp, term_cmp}
use Rattle.spf_term.specs.declared.term.Atom.{Atom, Var, Param, App}
use Rattle.spf_term.specs.declared.term.Term.{Term, Term', Row_of-Mono, end_of-Mono, more_of-Mono}

-- how x compares to y, y to z and x to z
pub record Chain (first second both : Ordering) : Type 0 where
  pub less : first ≡ Less → second ≡ Less → both ≡ Less
  pub left : first ≡ Equal → both ≡ second
  pub right : second ≡ Equal → both ≡ first

low : (second : Ordering) → Chain Less second Less
low second = record { less = λ p q. refl; left = λ p. cc; right = λ p. refl }

high : (second : Ordering) → Chain Greater second Greater
high second = record { less = λ p q. cc; left = λ p. cc; right = λ p. refl }

before : (first : Ordering) → Chain first Less Less
before first = record { less = λ p q. refl; left = λ p. refl; right = λ p. cc }

after : (first : Ordering) → Chain first Greater Greater
after first = record { less = λ p q. cc; left = λ p. refl; right = λ p. cc }

turned : (both : Ordering) → Chain Less Greater both
turned both = record { less = λ p q. cc; left = λ p. cc; right = λ p. cc }

turned_back : (both : Ordering) → Chain Greater Less both
turned_back both = record { less = λ p q. cc; left = λ p. cc; right = λ p. cc }

chain_of : {K : Type 0} {R : K → K → Ordering} (total : IsTotalOrder R) (x y z : K) → Chain (R x y) (R y z) (R x z)
chain_of total x y z = record { less = total.trans x y z; left = total.congr x y z; right = λ p. sym (alike_right total y z x p) }

-- by one order, and then by another
then_by : (a b c a' b' c' : Ordering) → Chain a b c → Chain a' b' c' → Chain (ordering_then a a') (ordering_then b b') (ordering_then c c')
then_by Less Less c a' b' c' h k = let e : c ≡ Less = h.less refl refl in record { less = λ p q. ap (λ o. ordering_then o c') e; left = λ p. cc; right = λ p. cc }
then_by Less Equal c a' b' c' h k = let e : c ≡ Less = h.right refl in record { less = λ p q. ap (λ o. ordering_then o c') e; left = λ p. cc; right = λ p. ap (λ o. ordering_then o c') e }
then_by Less Greater c a' b' c' h k = turned (ordering_then c c')
then_by Equal Less c a' b' c' h k = let e : c ≡ Less = h.left refl in record { less = λ p q. ap (λ o. ordering_then o c') e; left = λ p. ap (λ o. ordering_then o c') e; right = λ p. cc }
then_by Equal Equal c a' b' c' h k =
    let e : ordering_then c c' ≡ c' = ap (λ o. ordering_then o c') (h.left refl) in
    record { less = λ p q. e ∙ k.less p q; left = λ p. e ∙ k.left p; right = λ p. e ∙ k.right p }
then_by Equal Greater c a' b' c' h k = let e : c ≡ Greater = h.left refl in record { less = λ p q. cc; left = λ p. ap (λ o. ordering_then o c') e; right = λ p. cc }
then_by Greater Less c a' b' c' h k = turned_back (ordering_then c c')
then_by Greater Equal c a' b' c' h k = let e : c ≡ Greater = h.right refl in record { less = λ p q. cc; left = λ p. cc; right = λ p. ap (λ o. ordering_then o c') e }
then_by Greater Greater c a' b' c' h k = record { less = λ p q. cc; left = λ p. cc; right = λ p. cc }

chain_then : {a b c a' b' c' : Ordering} → Chain a b c → Chain a' b' c' → Chain (ordering_then a a') (ordering_then b b') (ordering_then c c')
chain_then {a = a} {b = b} {c = c} {a' = a'} {b' = b'} {c' = c'} h k = then_by a b c a' b' c' h k

mutual
  pub atom_chain : (x y z : Atom) → Chain (atom_cmp x y) (atom_cmp y z) (atom_cmp x z)
  atom_chain (Var a) (Var b) (Var c) = chain_of nat_cmp_total a b c
  atom_chain (Var a) (Var b) (Param c) = before _
  atom_chain (Var a) (Var b) (App c c_arg) = before _
  atom_chain (Var a) (Param b) (Var c) = turned _
  atom_chain (Var a) (Param b) (Param c) = low _
  atom_chain (Var a) (Param b) (App c c_arg) = low Less
  atom_chain (Var a) (App b b_arg) (Var c) = turned _
  atom_chain (Var a) (App b b_arg) (Param c) = turned _
  atom_chain (Var a) (App b b_arg) (App c c_arg) = low _
  atom_chain (Param a) (Var b) (Var c) = high _
  atom_chain (Param a) (Var b) (Param c) = turned_back _
  atom_chain (Param a) (Var b) (App c c_arg) = turned_back _
  atom_chain (Param a) (Param b) (Var c) = after _
  atom_chain (Param a) (Param b) (Param c) = chain_of nat_cmp_total a b c
  atom_chain (Param a) (Param b) (App c c_arg) = before _
  atom_chain (Param a) (App b b_arg) (Var c) = turned _
  atom_chain (Param a) (App b b_arg) (Param c) = turned _
  atom_chain (Param a) (App b b_arg) (App c c_arg) = low _
  atom_chain (App a a_arg) (Var b) (Var c) = high _
  atom_chain (App a a_arg) (Var b) (Param c) = turned_back _
  atom_chain (App a a_arg) (Var b) (App c c_arg) = turned_back _
  atom_chain (App a a_arg) (Param b) (Var c) = high Greater
  atom_chain (App a a_arg) (Param b) (Param c) = high _
  atom_chain (App a a_arg) (Param b) (App c c_arg) = turned_back _
  atom_chain (App a a_arg) (App b b_arg) (Var c) = after _
  atom_chain (App a a_arg) (App b b_arg) (Param c) = after _
  atom_chain (App a a_arg) (App b b_arg) (App c c_arg) = chain_then (chain_of nat_cmp_total a b c) (term_chain a_arg b_arg c_arg)

  monos_chain : {l m n : _} (x : Row_of-Mono l) (y : Row_of-Mono m) (z : Row_of-Mono n) → Chain (monos_cmp x y) (monos_cmp y z) (monos_cmp x z)
  monos_chain end_of-Mono end_of-Mono end_of-Mono = record { less = λ p q. cc; left = λ p. refl; right = λ p. refl }
  monos_chain end_of-Mono end_of-Mono (more_of-Mono c a xs) = before Equal
  monos_chain end_of-Mono (more_of-Mono d b ys) end_of-Mono = turned Equal
  monos_chain end_of-Mono (more_of-Mono d b ys) (more_of-Mono e c zs) = low _
  monos_chain (more_of-Mono c a xs) end_of-Mono end_of-Mono = high Equal
  monos_chain (more_of-Mono c a xs) end_of-Mono (more_of-Mono e b zs) = turned_back _
  monos_chain (more_of-Mono c a xs) (more_of-Mono d b ys) end_of-Mono = after _
  monos_chain (more_of-Mono k a xs) (more_of-Mono l b ys) (more_of-Mono m c zs) = chain_then (atom_chain a b c) (chain_then (chain_of int_cmp_total k l m) (monos_chain xs ys zs))

  term_chain : (x y z : Term) → Chain (term_cmp x y) (term_cmp y z) (term_cmp x z)
  term_chain (Term' s xs k) (Term' t ys l) (Term' u zs m) = chain_then (monos_chain xs ys zs) (chain_of int_cmp_total k l m)

reversed : (a b c d : Ordering) → a ≡ ordering_reverse b → c ≡ ordering_reverse d → ordering_then a c ≡ ordering_reverse (ordering_then b d)
reversed a b c d h k = (λ i. ordering_then (h i) (k i)) ∙ then_flip b d

mutual
  pub atom_turned : (x y : Atom) → atom_cmp x y ≡ ordering_reverse (atom_cmp y x)
  atom_turned (Var a) (Var b) = nat_cmp_total.antisymm a b
  atom_turned (Var a) (Param b) = refl
  atom_turned (Var a) (App b b_arg) = refl
  atom_turned (Param a) (Var b) = refl
  atom_turned (Param a) (Param b) = nat_cmp_total.antisymm a b
  atom_turned (Param a) (App b b_arg) = refl
  atom_turned (App a a_arg) (Var b) = refl
  atom_turned (App a a_arg) (Param b) = refl
  atom_turned (App a a_arg) (App b b_arg) = reversed (nat_cmp a b) (nat_cmp b a) _ _ (nat_cmp_total.antisymm a b) (term_turned a_arg b_arg)

  monos_turned : {m n : _} (x : Row_of-Mono m) (y : Row_of-Mono n) → monos_cmp x y ≡ ordering_reverse (monos_cmp y x)
  monos_turned end_of-Mono end_of-Mono = refl
  monos_turned end_of-Mono (more_of-Mono d b ys) = refl
  monos_turned (more_of-Mono c a xs) end_of-Mono = refl
  monos_turned (more_of-Mono c a xs) (more_of-Mono d b ys) = reversed (atom_cmp a b) (atom_cmp b a) _ _ (atom_turned a b) (reversed (int_cmp c d) (int_cmp d c) _ _ (int_cmp_total.antisymm c d) (monos_turned xs ys))

  term_turned : (x y : Term) → term_cmp x y ≡ ordering_reverse (term_cmp y x)
  term_turned (Term' s xs k) (Term' t ys l) = reversed (monos_cmp xs ys) (monos_cmp ys xs) _ _ (monos_turned xs ys) (int_cmp_total.antisymm k l)

pub atoms_total : IsTotalOrder atom_cmp
atoms_total = record {
  antisymm = atom_turned;
  trans = λ x y z. (atom_chain x y z).less;
  congr = λ x y z. (atom_chain x y z).left;
}

pub terms_total : IsTotalOrder term_cmp
terms_total = record { antisymm = term_turned; trans = λ x y z. (term_chain x y z).less; congr = λ x y z. (term_chain x y z).left }
