-- How the state of a check goes on.
use Rattle.spf_kernel.proofs.Common.{◌≡◌, ℕ, ◌+◌, ◌-◌, ◌<◌, ◌^◌, List, [], ◌∷◌, ◌++◌, length, None, refl, ap, sym, ◌∙◌, subst, arith, append_assoc, append-nil, length-append, map_push, Token, Note, Fact, Before, fact_of, facts_of, before_of, IsFirst, excess_notes}
use Rattle.spf_kernel.specs.check.State.{State, IsBehind, Takes}
use Rattle.spf_kernel.proofs.NoteEquations.{excess_append}
use Rattle.spf_kernel.proofs.Unbroken.{none_unbroken}

pub begun : (texts : List (List ℕ)) (before : Before) → before ≡ before_of [] → IsBehind [] (record { texts = texts; before = before; best = None; taken = 0 })
begun texts before is = record { before = is; best = none_unbroken texts; taken = refl; few = omega arith }

pub none : (a b : State) (notes : List Note) → a ≡ b → notes ≡ [] → Takes a notes b
unfolding Takes
none a b notes same empty = (
  ap (λ (state : State). state.texts) (sym same),
  λ seen is.
      let all : seen ≡ seen ++ notes = sym (ap (λ (others : List Note). seen ++ others) empty ∙ append-nil seen) in
      subst (λ (state : State). IsBehind (seen ++ notes) state) same (subst (λ (front : List Note). IsBehind front a) all is),
)

pub then : (a b c : State) (xs ys : List Note) → Takes a xs b → Takes b ys c → Takes a (xs ++ ys) c
unfolding Takes
then a b c xs ys first second = (
  second.0 ∙ first.0,
  λ seen is. subst (λ (notes : List Note). IsBehind notes c) (append_assoc seen xs ys) (second.1 (seen ++ xs) (first.1 seen is)),
)

pub first : (a b c : State) (note : Note) (notes : List Note) → Takes a (note ∷ []) b → Takes b notes c → Takes a (note ∷ notes) c
first a b c note notes = then a b c (note ∷ []) notes

pub more_excess : (a b c : State) (room left : ℕ) (xs ys : List Token) → Takes a (excess_notes room xs) b → left ≡ room - length xs → Takes b (excess_notes left ys) c
    → Takes a (excess_notes room (xs ++ ys)) c
more_excess a b c room left xs ys first less second =
    subst (λ (notes : List Note). Takes a notes c) (ap (λ n. excess_notes room xs ++ excess_notes n ys) less ∙ sym (excess_append room xs ys))
    (then a b c (excess_notes room xs) (excess_notes left ys) first second)

-- by one note, where what the rules ask and the first breach do
pub one_more : (old new : State) (note : Note) → new.texts ≡ old.texts → new.taken ≡ old.taken + 1 → old.taken + 1 < 2 ^ 30
    → ((facts : List Fact) → old.before ≡ before_of facts → new.before ≡ before_of (facts ++ fact_of old.texts note ∷ []))
    → ((notes : List Note) → old.before ≡ before_of (facts_of old.texts notes) → IsFirst old.texts notes old.best → IsFirst old.texts (notes ++ note ∷ []) new.best)
    → Takes old (note ∷ []) new
unfolding Takes
one_more old new note texts taken few before best = (
  texts,
  λ seen is. record {
    before =
        subst (λ (all : List (List ℕ)). new.before ≡ before_of (facts_of all (seen ++ note ∷ []))) (sym texts)
        (before (facts_of old.texts seen) is.before ∙ ap before_of (sym (map_push (fact_of old.texts) seen note)));
    best = subst (λ (all : List (List ℕ)). IsFirst all (seen ++ note ∷ []) new.best) (sym texts) (best seen is.before is.best);
    taken = omega (arith, taken, is.taken, length-append seen (note ∷ []));
    few = omega (arith, few, is.taken, length-append seen (note ∷ []));
  },
)
