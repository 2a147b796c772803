-- The first breach of the notes, with one note more.
use Rattle.spf_kernel.proofs.Common.{◌≡◌, ℕ, ◌+◌, ◌≤◌, Bool, true, false, List, [], ◌∷◌, ◌++◌, length, slice_get, Option, None, Some, refl, ap, sym, ◌∙◌, subst, zero, suc, if◌then◌else◌, ◌⊎◌, inl, inr, ⊎_elim, append_assoc, length-append, arith, Note, Before, Breach, IsFirst, before_of, counts_of, Fact, fact_of, facts_of, IsUnbroken, option_or, first_broken, least_rule, Leads}
use Rattle.spf_kernel.proofs.Adding.{counts_before}
use Rattle.spf_kernel.specs.Rules.{rules, name_rules, limit_rules, has_capital, is_taken, is_unknown, is_misused, Breaks, IsFirstBreach}

-- a split of a list with one element more is at that element, or a split of the list
splits : {X : Type 0} (xs : List X) (new : X) (before : List X) (x : X) (after : List X) → xs ++ new ∷ [] ≡ before ++ x ∷ after → ((before ≡ xs) × (x ≡ new)) ⊎ ((left : List X) × (xs ≡ before ++ x ∷ left))
splits [] new [] x after e = inl (refl, cc)
splits [] new (y ∷ ys) x after e = absurd (omega (arith, ap length e, length-append ys (x ∷ after)))
splits (z ∷ zs) new [] x after e = inr (zs, cc)
splits (z ∷ zs) new (y ∷ ys) x after e =
    let heads : z ≡ y = cc in
    let tails : zs ++ new ∷ [] ≡ ys ++ x ∷ after = cc in
    ⊎_elim (λ last. inl ((λ i. sym heads i ∷ last.0 i), last.1)) (λ inside. inr (inside.0, λ i. heads i ∷ inside.1 i)) (splits zs new ys x after tails)

leads_on : (a b c : Breach) → Leads a b → Leads b c → Leads a c
leads_on a b c first second = (omega (arith, first.0, second.0), behind) where
  behind : a.place ≡ c.place → a.rule ≤ c.rule
  behind same =
      let here : a.place ≡ b.place = omega (arith, first.0, second.0, same) in
      omega (arith, first.1 here, second.1 (sym here ∙ same))

-- ---- the first of some rules that is broken

abbrev Rule : Type 0
Rule = List Fact → Fact → Bool

module _ (before : List Fact) (fact : Fact) where
  -- the rule of this number is broken, and none before it; or none is
  abbrev IsFirstOf : ℕ → List Rule → Option ℕ → Type 0
  IsFirstOf n rules None = (k : ℕ) (test : Rule) → slice_get rules k ≡ Some test → test before fact ≡ true → ⊥
  IsFirstOf n rules (Some number) =
      (place : ℕ) × (number ≡ n + place) × ((test : Rule) × (slice_get rules place ≡ Some test) × (test before fact ≡ true))
      × ((k : ℕ) (other : Rule) → slice_get rules k ≡ Some other → other before fact ≡ true → place ≤ k)

  first_of : (n : ℕ) (rules : List Rule) → IsFirstOf n rules (first_broken n rules before fact)
  first_of n [] = λ k test there broken. cc
  first_of n (rule ∷ rules) = by (rule before fact) refl (first_broken (n + 1) rules before fact) (first_of (n + 1) rules) where
    none : rule before fact ≡ false → IsFirstOf (n + 1) rules None → IsFirstOf n (rule ∷ rules) None
    none e rest zero test there broken = cc
    none e rest (suc k) test there broken = rest k test there broken

    least : rule before fact ≡ false → (place : ℕ) → ((k : ℕ) (other : Rule) → slice_get rules k ≡ Some other → other before fact ≡ true → place ≤ k)
        → (k : ℕ) (other : Rule) → slice_get (rule ∷ rules) k ≡ Some other → other before fact ≡ true → suc place ≤ k
    least e place rest zero other there broken = absurd cc
    least e place rest (suc k) other there broken = omega (arith, rest k other there broken)

    by : (b : Bool) → rule before fact ≡ b → (rest : Option ℕ) → IsFirstOf (n + 1) rules rest → IsFirstOf n (rule ∷ rules) (if b then Some n else rest)
    by true e rest first = (0, omega arith, (rule, refl, e), λ k other there broken. omega arith)
    by false e None first = none e first
    by false e (Some number) first = (suc first.0, omega (arith, first.1), first.2, least e first.0 first.3)

  -- where no rule about names is broken, the others come
  names_first : option_or (first_broken 1 name_rules before fact) (first_broken 5 limit_rules before fact) ≡ least_rule before fact
  unfolding least_rule
  names_first = by (has_capital before fact) (is_taken before fact) (is_unknown before fact) (is_misused before fact) where
    rest : Option ℕ
    rest = first_broken 5 limit_rules before fact

    by : (a b c d : Bool) → option_or (if a then Some 1 else (if b then Some 2 else (if c then Some 3 else (if d then Some 4 else None)))) rest
        ≡ (if a then Some 1 else (if b then Some 2 else (if c then Some 3 else (if d then Some 4 else rest))))
    by true b c d = refl
    by false true c d = refl
    by false false true d = refl
    by false false false true = refl
    by false false false false = refl

module _ (texts : List (List ℕ)) where
  -- the note breaks the rule, behind those before
  record Broken (before : List Note) (note : Note) (rule : ℕ) : Type 0 where
    test : List Fact → Fact → Bool
    number : (n : ℕ) × (rule ≡ n + 1) × (slice_get rules n ≡ Some test)
    broken : test (facts_of texts before) (fact_of texts note) ≡ true

  module _ (notes : List Note) (note : Note) where
    abbrev seen : List Fact
    seen = facts_of texts notes

    abbrev fact : Fact
    fact = fact_of texts note

    -- the first of the two rules that were found is the least that is broken
    pub least_of : (before : Before) → before ≡ before_of seen → (name limit rule : Option ℕ) → rule ≡ option_or name limit → ((facts : List Fact) → before ≡ before_of facts → name ≡ first_broken 1 name_rules facts fact)
        → ((texts : List (List ℕ)) (facts : List Fact) → before.counts ≡ counts_of facts → limit ≡ first_broken 5 limit_rules facts (fact_of texts note)) → least_rule seen fact ≡ rule
    least_of before e name limit rule is by_name by_limit =
        sym (is ∙ (λ i. option_or (by_name seen e i) (by_limit texts seen (counts_before seen before e) i)) ∙ names_first seen fact)

    breaks_here : (rule : ℕ) → Broken notes note rule → Breaks texts (notes ++ note ∷ []) note.token.at rule
    breaks_here rule b = record { before = notes; note = note; after = []; splits = refl; there = refl; test = b.test; number = b.number; broken = b.broken }

    breaks_still : (place rule : ℕ) → Breaks texts notes place rule → Breaks texts (notes ++ note ∷ []) place rule
    breaks_still place rule b = record {
      before = b.before;
      note = b.note;
      after = b.after ++ note ∷ [];
      splits = ap (λ (ns : List Note). ns ++ note ∷ []) b.splits ∙ append_assoc b.before (b.note ∷ b.after) (note ∷ []);
      there = b.there;
      test = b.test;
      number = b.number;
      broken = b.broken;
    }

    breaks_either : (place rule : ℕ) → Breaks texts (notes ++ note ∷ []) place rule → Breaks texts notes place rule ⊎ ((place ≡ note.token.at) × Broken notes note rule)
    breaks_either place rule b = by (splits notes note b.before b.note b.after b.splits)
      where
        by : ((b.before ≡ notes) × (b.note ≡ note)) ⊎ ((left : List Note) × (notes ≡ b.before ++ b.note ∷ left)) → Breaks texts notes place rule ⊎ ((place ≡ note.token.at) × Broken notes note rule)
        by (inl (p, q)) = inr (sym b.there ∙ ap (λ (n : Note). n.token.at) q, record { test = b.test; number = b.number; broken = (λ i. b.test (facts_of texts (sym p i)) (fact_of texts (sym q i))) ∙ b.broken })
        by (inr (after, p)) = inl (record { before = b.before; note = b.note; after = after; splits = p; there = b.there; test = b.test; number = b.number; broken = b.broken })

    none_broken : least_rule seen fact ≡ None → (rule : ℕ) → ¬ Broken notes note rule
    unfolding least_rule
    none_broken none rule b = subst (IsFirstOf seen fact 1 rules) none (first_of seen fact 1 rules) b.number.0 b.test b.number.2 b.broken

    least_broken : (least : ℕ) → least_rule seen fact ≡ Some least → Broken notes note least × ((rule : ℕ) → Broken notes note rule → least ≤ rule)
    unfolding least_rule
    least_broken least some =
        let first = subst (IsFirstOf seen fact 1 rules) some (first_of seen fact 1 rules) in (
          record { test = first.2.0; number = (first.0, omega (arith, first.1), first.2.1); broken = first.2.2 },
          λ rule b. omega (arith, first.1, b.number.1, first.3 b.number.0 b.test b.number.2 b.broken),
        )

    abbrev at_note : ℕ → Breach
    at_note rule = record { place = note.token.at; rule = rule }

    here_leads : (least : ℕ) → ((rule : ℕ) → Broken notes note rule → least ≤ rule) → (p r : ℕ) → (p ≡ note.token.at) × Broken notes note r → Leads (at_note least) (record { place = p; rule = r })
    here_leads least lesser p r h = (omega (arith, h.0), λ same. lesser r h.1)

    -- the first breach is one that leads all others
    first_by : (a : Breach) → Breaks texts (notes ++ note ∷ []) a.place a.rule → ((p r : ℕ) → Breaks texts (notes ++ note ∷ []) p r → Leads a (record { place = p; rule = r })) → IsFirstBreach texts (notes ++ note ∷ []) a.place a.rule
    first_by a breaks leads = record { breaks = breaks; least_place = λ p r b. (leads p r b).0; least_rule = λ r b. (leads a.place r b).1 refl }

    leads_all : (a : Breach) → IsFirstBreach texts notes a.place a.rule → (p r : ℕ) → Breaks texts notes p r → Leads a (record { place = p; rule = r })
    leads_all a first p r b = (first.least_place p r b, λ same. first.least_rule r (subst (λ place. Breaks texts notes place r) (sym same) b))

    pub still_first : (best : Option Breach) → IsFirst texts notes best → least_rule seen fact ≡ None → IsFirst texts (notes ++ note ∷ []) best
    still_first None unbroken none = λ place rule b. ⊎_elim (unbroken place rule) (λ here. none_broken none rule here.1) (breaks_either place rule b)
    still_first (Some best) first none =
        first_by best (breaks_still best.place best.rule first.breaks) (λ p r b. ⊎_elim (leads_all best first p r) (λ here. absurd (none_broken none r here.1)) (breaks_either p r b))

    pub first_one : IsUnbroken texts notes → (least : ℕ) → least_rule seen fact ≡ Some least → IsFirstBreach texts (notes ++ note ∷ []) note.token.at least
    first_one unbroken least some =
        let here = least_broken least some in
        first_by (at_note least) (breaks_here least here.0) (λ p r b. ⊎_elim (λ was. absurd (unbroken p r was)) (here_leads least here.1 p r) (breaks_either p r b))

    pub first_of_two : (best : Breach) → IsFirstBreach texts notes best.place best.rule → (least : ℕ) → least_rule seen fact ≡ Some least → (c : Breach)
        → ((c ≡ best) ⊎ (c ≡ at_note least)) × Leads c best × Leads c (at_note least) → IsFirstBreach texts (notes ++ note ∷ []) c.place c.rule
    first_of_two best first least some c is =
        let here = least_broken least some in
        let broken = λ (b : Breach) (e : c ≡ b). subst (λ (b : Breach). Breaks texts (notes ++ note ∷ []) b.place b.rule) (sym e) in
        first_by c (⊎_elim (λ e. broken best e (breaks_still best.place best.rule first.breaks)) (λ e. broken (at_note least) e (breaks_here least here.0)) is.0)
        (λ p r b. ⊎_elim (λ was. leads_on c best (record { place = p; rule = r }) is.1 (leads_all best first p r was))
        (λ h. leads_on c (at_note least) (record { place = p; rule = r }) is.2 (here_leads least here.1 p r h)) (breaks_either p r b))
