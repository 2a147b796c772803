-- How far a walk has come in a term.
use Rattle.std.proofs.Common.{◌≡◌, ℕ, ◌+◌, ◌^◌, ◌<◌, ℤ, pos, ◌+ℤ◌, ◌*ℤ◌, List, [], ◌∷◌, ◌++◌, refl, ap, sym, ◌∙◌, subst, arith, append_assoc, append-nil, length, drop, get_or, ◌≤◌, FitsSigned, w64}
use Rattle.std.proofs.lemmas.Int.{ints, int_wrap_fits, int_wrap-add_left, int_wrap-add_right, int_wrap-add_same}
use Rattle.std.proofs.lemmas.List.{drop_all}
use Rattle.std.specs.Int.{int_wrap}
use Rattle.std.specs.List.{All}
use Rattle.spf_base.specs.Wrap.{wrap}
use Rattle.spf_term.specs.declared.term.Term.{Term, out-Term}
use Rattle.spf_term.specs.declared.term.Mono.{Mono}
use Rattle.spf_term.specs.declared.term.Atom.{Atom, App}
use Rattle.spf_term.specs.Environment.{Environment}
use Rattle.spf_term.specs.Value.{Entry, HasSmallPlace, applications, atom_applications, value, atom_value, entries, atom_entries, number_at, table_at}
use Rattle.spf_term.specs.Walk.{Through, StopsAt}
use Rattle.spf_term.proofs.WalkParts.{all_first, all_second, through_both, stop_in_front, stop_behind}
use Rattle.spf_term.proofs.Monos.{drop_next, list_applications, applications_are, list_value, value_is, list_entries, entries_are}

-- ---- numbers

pub wrap_of_small : (z : ℤ) → FitsSigned w64 z → wrap z ≡ z
unfolding wrap
wrap_of_small z fits = int_wrap_fits w64 z fits

wrap_step : (sum product rest : ℤ) → wrap (wrap (sum +ℤ wrap product) +ℤ rest) ≡ wrap (sum +ℤ (product +ℤ rest))
unfolding wrap
wrap_step sum product rest =
    let regrouped : (sum +ℤ product) +ℤ rest ≡ sum +ℤ (product +ℤ rest) = omega (arith, ints) in
    int_wrap-add_left w64 (sum +ℤ int_wrap w64 product) rest ∙ int_wrap-add_same w64 (sum +ℤ int_wrap w64 product) (sum +ℤ product) rest (int_wrap-add_right w64 sum product) ∙ ap (int_wrap w64) regrouped

pub split_small : (a b : List Entry) → All HasSmallPlace (a ++ b) → All HasSmallPlace a × All HasSmallPlace b
split_small a b small = (all_first HasSmallPlace a b small, all_second HasSmallPlace a b small)

-- ---- at an application

module _ (env : Environment) (variables : List ℤ) (site : ℕ) {atom : Atom} {fun : ℕ} {arg : Term} (is : atom ≡ App fun arg) (small : All HasSmallPlace (atom_entries env variables site atom)) where
  -- the entries of the argument
  abbrev first : List Entry
  first = entries env variables (site + 1) arg

  abbrev entry_at : ℤ → Entry
  entry_at place = record { site = site; table = fun; place = place }

  are_small : All HasSmallPlace first × All HasSmallPlace (entry_at (value env variables arg) ∷ [])
  are_small = split_small first (entry_at (value env variables arg) ∷ []) (subst (λ (events : List Entry). All HasSmallPlace events) (ap (atom_entries env variables site) is) small)

  pub argument_is_small : All HasSmallPlace first
  argument_is_small = are_small.0

  pub argument_stopped : {S R : Type 0} {accepts : S → Entry → S → Type 0} {refuses : S → Entry → R → Type 0} {before : S} {stop : R} → StopsAt accepts refuses before first stop
      → StopsAt accepts refuses before (atom_entries env variables site atom) stop
  argument_stopped {accepts = accepts} {refuses = refuses} {before = before} {stop = stop} at =
      subst (λ (events : List Entry). StopsAt accepts refuses before events stop) (sym (ap (atom_entries env variables site) is)) (stop_in_front accepts refuses first (entry_at (value env variables arg) ∷ []) before stop at)

  module _ {place : ℤ} (wraps : place ≡ wrap (value env variables arg)) where
    place_is : place ≡ value env variables arg
    place_is = wraps ∙ wrap_of_small (value env variables arg) (are_small.1 0 (entry_at (value env variables arg)) (omega arith))

    they_are_both : atom_entries env variables site atom ≡ first ++ entry_at place ∷ []
    they_are_both = ap (atom_entries env variables site) is ∙ ap (λ (of : ℤ). first ++ entry_at of ∷ []) (sym place_is)

    pub entry_value : {table : List ℤ} {number : ℤ} → table ≡ table_at env fun → number ≡ number_at table place → number ≡ atom_value env variables atom
    entry_value is_table is_number = is_number ∙ (λ i. number_at (is_table i) (place_is i)) ∙ sym (ap (atom_value env variables) is)

    module _ {S : Type 0} (accepts : S → Entry → S → Type 0) (before between : S) (through : Through accepts before first between) where
      pub entry_accepted : (after : S) → accepts between (entry_at place) after → Through accepts before (atom_entries env variables site atom) after
      entry_accepted after accepted = subst (λ (events : List Entry). Through accepts before events after) (sym they_are_both)
          (through_both accepts first (entry_at place ∷ []) before between after through (after, accepted, refl))

      pub entry_refused : {R : Type 0} (refuses : S → Entry → R → Type 0) (stop : R) → refuses between (entry_at place) stop → StopsAt accepts refuses before (atom_entries env variables site atom) stop
      entry_refused refuses stop refused = record { accepted = first; event = entry_at place; rest = []; splits = they_are_both; state = between; through = through; refused = refused }

-- ---- in a term

module _ {S : Type 0} (accepts : S → Entry → S → Type 0) (env : Environment) (variables : List ℤ) (site : ℕ) (term : Term) (before : S) where
  -- these monomials are still to come, with this reader, sum and next number
  pub record Progress (monos : List Mono) (now : S) (sum : ℤ) (next : ℕ) : Type 0 where
    pub done : List Entry
    pub splits : entries env variables site term ≡ done ++ list_entries env variables next monos
    pub through : Through accepts before done now
    pub sums : wrap (sum +ℤ list_value env variables monos) ≡ wrap (value env variables term)
    pub numbers : next + list_applications monos ≡ site + applications term
    pub small : All HasSmallPlace (list_entries env variables next monos)

  pub begun : {monos : List Mono} {sum : ℤ} → monos ≡ (out-Term term).monos → sum ≡ (out-Term term).constant → All HasSmallPlace (entries env variables site term) → Progress monos before sum site
  begun are is small =
      let turned : (z w : ℤ) → z +ℤ w ≡ w +ℤ z = λ z w. omega (arith, ints) in
      let splits = entries_are env variables site term ∙ ap (list_entries env variables site) (sym are) in
      let sums = ap wrap ((λ i. is i +ℤ list_value env variables (are i)) ∙ turned (out-Term term).constant (list_value env variables (out-Term term).monos) ∙ sym (value_is env variables term)) in
      let numbers = ap (λ (count : ℕ). site + count) (ap list_applications are ∙ sym (applications_are term)) in
      record { done = []; splits = splits; through = refl; sums = sums; numbers = numbers; small = subst (λ (events : List Entry). All HasSmallPlace events) splits small }

module _ {S : Type 0} {accepts : S → Entry → S → Type 0} {env : Environment} {variables : List ℤ} {site : ℕ} {term : Term} {before now : S} {sum : ℤ} {next : ℕ} (items : List Mono) (index : ℕ)
    (progress : Progress accepts env variables site term before (drop index items) now sum next) where
  abbrev Goes : List Mono → S → ℤ → ℕ → Type 0
  Goes = Progress accepts env variables site term before

  module _ (mono : Mono) (inside : index < length items) (at : mono ≡ get_or items index mono) where
    abbrev others : List Mono
    others = drop (index + 1) items

    abbrev one : List Entry
    one = atom_entries env variables next mono.atom

    abbrev rest : List Entry
    rest = list_entries env variables (next + atom_applications mono.atom) others

    here : Goes (mono ∷ others) now sum next
    here = subst (λ (monos : List Mono). Goes monos now sum next) (drop_next items index mono inside at) progress

    pub next_is_small : All HasSmallPlace one
    next_is_small = (split_small one rest here.small).0

    pub next_numbered : site + applications term < 2 ^ 32 → next + atom_applications mono.atom < 2 ^ 32
    next_numbered low = omega (arith, low, here.numbers)

    pub gone_on : {after : S} {number total : ℤ} {last : ℕ} → Through accepts now one after → number ≡ atom_value env variables mono.atom
        → total ≡ wrap (sum +ℤ wrap (mono.coef *ℤ number)) → last ≡ next + atom_applications mono.atom → Goes others after total last
    gone_on {after = after} {number = number} through is_number is_total is_last =
        let splits = here.splits ∙ sym (append_assoc here.done one rest) in
        let whole = through_both accepts here.done one before now after here.through through in
        let sums = wrap_step sum (mono.coef *ℤ number) (list_value env variables others) ∙ ap (λ of. wrap (sum +ℤ ((mono.coef *ℤ of) +ℤ list_value env variables others))) is_number ∙ here.sums in
        let numbers : (next + atom_applications mono.atom) + list_applications others ≡ site + applications term = omega (arith, here.numbers) in
        rw (is_total, is_last) (record { done = here.done ++ one; splits = splits; through = whole; sums = sums; numbers = numbers; small = (split_small one rest here.small).1 })

    pub stopped : {R : Type 0} {refuses : S → Entry → R → Type 0} {stop : R} → StopsAt accepts refuses now one stop → StopsAt accepts refuses before (entries env variables site term) stop
    stopped {refuses = refuses} {stop = stop} at_stop = subst (λ (events : List Entry). StopsAt accepts refuses before events stop) (sym here.splits)
        (stop_behind accepts refuses here.done (one ++ rest) before now stop here.through (stop_in_front accepts refuses one rest now stop at_stop))

  module _ (at_end : length items ≤ index) where
    ended : Goes [] now sum next
    ended = subst (λ (monos : List Mono). Goes monos now sum next) (drop_all index items at_end) progress

    pub gone_through : Through accepts before (entries env variables site term) now
    gone_through = subst (λ (events : List Entry). Through accepts before events now) (sym (ended.splits ∙ append-nil ended.done)) ended.through

    pub sum_is_value : FitsSigned w64 sum → sum ≡ wrap (value env variables term)
    sum_is_value fits = let same : sum ≡ sum +ℤ pos 0 = omega (arith, ints) in sym (wrap_of_small sum fits) ∙ ap wrap same ∙ ended.sums

    pub next_is_last : next ≡ site + applications term
    next_is_last = omega (arith, ended.numbers)
