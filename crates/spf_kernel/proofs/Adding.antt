-- What the rules ask of the facts, with one fact more.
use Rattle.spf_kernel.proofs.Common.{Note, fact_of, ◌≡◌, ℕ, ◌+◌, ◌<◌, ◌≤◌, Bool, true, false, not, List, [], ◌∷◌, ◌++◌, length, take, refl, ap, sym, ◌∙◌, arith, common_steps, length-take, sum_by_push, sum_by-cons, Says, IsBelow, Fact, is_param, is_table, is_data, is_loop, is_site, count_that, map, filter, append-nil, subst, map_push, map-append, bytes_eq, insert_key, Before, names_that, cond, reverse, take_while, reverse-append, length-reverse, prefix_len, count_by-le-length, fold_push, counts_of, is_target, is_factor, is_guard, is_condition, since, filter-append, once, before_of}
use Rattle.spf_kernel.specs.declared.check.counts.Counts.{Counts}

-- one more, where the test holds
abbrev pub more : Bool → ℕ → ℕ
more counted n = cond counted (n + 1) n

added : (b : Bool) (n : ℕ) → n + cond b 1 0 ≡ more b n
added true n = refl
added false n = omega arith

added_first : (b : Bool) (n : ℕ) → cond b 1 0 + n ≡ more b n
added_first true n = omega arith
added_first false n = omega arith

kept_or_not : {X : Type 0} (b : Bool) (n : ℕ) (x : X) (xs : List X) → take (cond b (1 + n) 0) (x ∷ xs) ≡ cond b (x ∷ take n xs) []
kept_or_not true n x xs = grind (arith, common_steps)
kept_or_not false n x xs = refl

-- the longest front that passes, from the first element on
take_while_first : (test : Fact → Bool) (fact : Fact) (facts : List Fact) → take_while test (fact ∷ facts) ≡ cond (test fact) (fact ∷ take_while test facts) []
take_while_first test fact facts = kept_or_not (test fact) (prefix_len test facts) fact facts

module _ (test : Says → Bool) where
  pub count_more : (before : List Fact) (fact : Fact) → count_that test (before ++ fact ∷ []) ≡ more (test fact.says) (count_that test before)
  count_more before fact = sum_by_push (λ (x : Fact). cond (test x.says) 1 0) before fact ∙ added (test fact.says) (count_that test before)

  pub first_more : (fact : Fact) (others : List Fact) → count_that test (fact ∷ others) ≡ more (test fact.says) (count_that test others)
  first_more fact others = sum_by-cons (λ (x : Fact). cond (test x.says) 1 0) fact others ∙ added_first (test fact.says) (count_that test others)

  begun : (b : Bool) (fact : Fact) (others : List Fact) → count_that test (cond (not b) (fact ∷ others) []) ≡ cond b 0 (more (test fact.says) (count_that test others))
  begun true fact others = refl
  begun false fact others = first_more fact others

  pub since_more : (stop : Says → Bool) (before : List Fact) (fact : Fact)
      → count_that test (since stop (before ++ fact ∷ [])) ≡ cond (stop fact.says) 0 (more (test fact.says) (count_that test (since stop before)))
  since_more stop before fact =
      rw (reverse-append before (fact ∷ []), take_while_first (λ (x : Fact). not (stop x.says)) fact (reverse before))
      (begun (stop fact.says) fact (since stop before))

  pub since_within : (stop : Says → Bool) (before : List Fact) → count_that test (since stop before) ≤ length before
  since_within stop before =
      let few = count_by-le-length (λ (x : Fact). test x.says) (since stop before) in
      let front = length-take (prefix_len (λ (x : Fact). not (stop x.says)) (reverse before)) (reverse before) in
      let same = length-reverse before in
      omega arith

-- the counts after a fact that says this
abbrev pub counted : Counts → Says → Counts
counted counts says = record {
  params = more (is_param says) counts.params;
  tables = more (is_table says) counts.tables;
  data_arrays = more (is_data says) counts.data_arrays;
  loops = more (is_loop says) counts.loops;
  targets = cond (is_loop says) 0 (more (is_target says) counts.targets);
  factors = cond (is_target says) 0 (more (is_factor says) counts.factors);
  conditions = cond (is_guard says) 0 (more (is_condition says) counts.conditions);
  sites = more (is_site says) counts.sites;
}

pub counts_more : (before : List Fact) (fact : Fact) → counts_of (before ++ fact ∷ []) ≡ counted (counts_of before) fact.says
unfolding counts_of
counts_more before fact =
    let params = count_more is_param before fact in
    let tables = count_more is_table before fact in
    let data_arrays = count_more is_data before fact in
    let loops = count_more is_loop before fact in
    let targets = since_more is_target is_loop before fact in
    let factors = since_more is_factor is_target before fact in
    let conditions = since_more is_condition is_guard before fact in
    let sites = count_more is_site before fact in
    cc

-- what is the counts with a fact more, where it is told by what the fact says
pub counts_after : (before : List Fact) (fact : Fact) (counts next : Counts) → counts ≡ counts_of before → next ≡ counted counts fact.says → next ≡ counts_of (before ++ fact ∷ [])
counts_after before fact counts next e step = step ∙ (ap (λ (c : Counts). counted c fact.says) e ∙ sym (counts_more before fact))

pub counts_below : (limit : ℕ) (before : List Fact) → length before < limit → IsBelow limit (counts_of before)
unfolding counts_of
counts_below limit before short =
    let plain = λ (test : Says → Bool). count_by-le-length (λ (x : Fact). test x.says) before in
    record {
      params = omega (arith, plain is_param);
      tables = omega (arith, plain is_table);
      data_arrays = omega (arith, plain is_data);
      loops = omega (arith, plain is_loop);
      targets = omega (arith, since_within is_target is_loop before);
      factors = omega (arith, since_within is_factor is_target before);
      conditions = omega (arith, since_within is_condition is_guard before);
      sites = omega (arith, plain is_site);
    }

pub once_more : (names : List (List ℕ)) (name : List ℕ) → once (names ++ name ∷ []) ≡ insert_key bytes_eq (once names) name
unfolding once
once_more names name = fold_push (insert_key bytes_eq) [] names name

same : (a b : Before) → a.counts ≡ b.counts → a.params ≡ b.params → a.tables ≡ b.tables → a.data_arrays ≡ b.data_arrays → a.loops ≡ b.loops → a ≡ b
same a b counts params tables data_arrays loops = λ i. record { counts = counts i; params = params i; tables = tables i; data_arrays = data_arrays i; loops = loops i }

pub names_append : (test : Says → Bool) (a b : List Fact) → names_that test (a ++ b) ≡ names_that test a ++ names_that test b
names_append test a b =
    ap (map (λ (x : Fact). x.name)) (filter-append (λ (x : Fact). test x.says) a b) ∙ map-append (λ (x : Fact). x.name) (filter (λ (x : Fact). test x.says) a) (filter (λ (x : Fact). test x.says) b)

pub names_more : (test : Says → Bool) (before : List Fact) (fact : Fact)
    → names_that test (before ++ fact ∷ []) ≡ cond (test fact.says) (names_that test before ++ fact.name ∷ []) (names_that test before)
names_more test before fact = ap names (filter-append (λ (x : Fact). test x.says) before (fact ∷ [])) ∙ by (test fact.says) where
  names : List Fact → List (List ℕ)
  names facts = map (λ (x : Fact). x.name) facts

  found : List Fact
  found = filter (λ (x : Fact). test x.says) before

  by : (b : Bool) → names (found ++ cond b (fact ∷ []) []) ≡ cond b (names found ++ fact.name ∷ []) (names found)
  by true = map_push (λ (x : Fact). x.name) found fact
  by false = ap names (append-nil found)

-- the names with that of the fact, if it has this role
abbrev pub with_name : Bool → List (List ℕ) → List ℕ → List (List ℕ)
with_name named names name = cond named (insert_key bytes_eq names name) names

pub once_names_more : (test : Says → Bool) (before : List Fact) (fact : Fact)
    → once (names_that test (before ++ fact ∷ [])) ≡ with_name (test fact.says) (once (names_that test before)) fact.name
once_names_more test before fact = ap once (names_more test before fact) ∙ by (test fact.says)
  where
    by : (b : Bool) → once (cond b (names_that test before ++ fact.name ∷ []) (names_that test before)) ≡ with_name b (once (names_that test before)) fact.name
    by true = once_more (names_that test before) fact.name
    by false = refl

pub counts_before : (facts : List Fact) (before : Before) → before ≡ before_of facts → before.counts ≡ counts_of facts
unfolding before_of
counts_before facts before e = ap (λ (b : Before). b.counts) e

pub counts_short : (limit : ℕ) (facts : List Fact) (before : Before) → before ≡ before_of facts → length facts < limit → IsBelow limit before.counts
counts_short limit facts before e short = subst (IsBelow limit) (sym (counts_before facts before e)) (counts_below limit facts short)

-- what stands before the fact behind this one
pub record Adds (old new : Before) (fact : Fact) : Type 0 where
  pub params : new.params ≡ with_name (is_param fact.says) old.params fact.name
  pub tables : new.tables ≡ with_name (is_table fact.says) old.tables fact.name
  pub data_arrays : new.data_arrays ≡ with_name (is_data fact.says) old.data_arrays fact.name
  pub loops : new.loops ≡ with_name (is_loop fact.says) old.loops fact.name

pub before_after : (texts : List (List ℕ)) (note : Note) (old new : Before)
    → ((texts : List (List ℕ)) (facts : List Fact) → old.counts ≡ counts_of facts → new.counts ≡ counts_of (facts ++ fact_of texts note ∷ [])) → Adds old new (fact_of texts note)
    → (facts : List Fact) → old ≡ before_of facts → new ≡ before_of (facts ++ fact_of texts note ∷ [])
unfolding before_of
before_after texts note old new counts adds facts e =
    let fact = fact_of texts note in
    same new (before_of (facts ++ fact ∷ [])) (counts texts facts (counts_before facts old e))
    (adds.params ∙ (ap (λ (b : Before). with_name (is_param fact.says) b.params fact.name) e ∙ sym (once_names_more is_param facts fact)))
    (adds.tables ∙ (ap (λ (b : Before). with_name (is_table fact.says) b.tables fact.name) e ∙ sym (once_names_more is_table facts fact)))
    (adds.data_arrays ∙ (ap (λ (b : Before). with_name (is_data fact.says) b.data_arrays fact.name) e ∙ sym (once_names_more is_data facts fact)))
    (adds.loops ∙ (ap (λ (b : Before). with_name (is_loop fact.says) b.loops fact.name) e ∙ sym (once_names_more is_loop facts fact)))
