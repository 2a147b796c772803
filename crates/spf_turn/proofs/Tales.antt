-- Prefixes, and the entries of one pass.
use Rattle.std.proofs.Common.{◌≡◌, ◌≢◌, ℕ, ◌≤◌, ◌==◌, nat_lt, Bool, true, false, List, [], ◌∷◌, ◌++◌, length, if◌then◌else◌, All, refl, sym, ap, ◌∙◌, arith, length-append}
use Rattle.std.proofs.lemmas.List.{append-nil}
use Rattle.std.proofs.lemmas.List.Elements.{All-head, All-tail, filter-append}
use Rattle.std.proofs.lemmas.Bool.Decides.{nat_tests}
use mathlib.Core.List.{IsPrefix}
use base.Growing.{prefix_trans}
use Rattle.spf_turn.specs.Tale.{entries_of}
use Rattle.spf_turn.specs.Steps.{longer}

module _ {E : Type 0} where
  pub prefix_grows : (seen tale tale' added : List E) → tale' ≡ tale ++ added → IsPrefix seen tale → IsPrefix seen tale'
  prefix_grows seen tale tale' added grown p = prefix_trans seen tale tale' p (added, sym grown)

  -- a prefix that is as long as the list is the list
  pub prefix_whole : (xs ys : List E) → IsPrefix xs ys → length ys ≤ length xs → xs ≡ ys
  prefix_whole xs ys ([], e) le = sym (append-nil xs) ∙ e
  prefix_whole xs ys (z ∷ zs, e) le = absurd (omega (arith, length-append xs (z ∷ zs), ap length e))

  prefix_length : (xs ys : List E) → IsPrefix xs ys → length xs ≤ length ys
  prefix_length xs ys p = omega (arith, length-append xs p.0, ap length p.1)

  longer_either : (P : List E → Type 0) (xs ys : List E) → P xs → P ys → P (longer xs ys)
  longer_either P xs ys p q = elim (nat_lt (length xs) (length ys)) as (λ b. P (if b then ys else xs)) [ true ↦ q | false ↦ p ]

  longer_least : (xs ys : List E) → (length xs ≤ length (longer xs ys)) × (length ys ≤ length (longer xs ys))
  longer_least xs ys = least (nat_lt (length xs) (length ys)) refl
    where
      least : (b : Bool) → nat_lt (length xs) (length ys) ≡ b → (length xs ≤ length (if b then ys else xs)) × (length ys ≤ length (if b then ys else xs))
      least true e = (grind (arith, nat_tests), omega arith)
      least false e = (omega arith, grind (arith, nat_tests))

  -- the longer of two prefixes is a prefix, and is the whole list where one of them is
  pub longer_prefix : (xs ys tale : List E) → IsPrefix xs tale → IsPrefix ys tale → IsPrefix (longer xs ys) tale
  longer_prefix xs ys tale p q = longer_either (λ zs. IsPrefix zs tale) xs ys p q

  pub longer_whole : (xs ys tale zs : List E) → IsPrefix xs tale → IsPrefix ys tale → zs ≡ tale → length zs ≤ length (longer xs ys) → longer xs ys ≡ tale
  longer_whole xs ys tale zs p q e le = prefix_whole (longer xs ys) tale (longer_prefix xs ys tale p q) (omega (arith, ap length e))

  pub longer_first : (xs ys : List E) → length xs ≤ length (longer xs ys)
  longer_first xs ys = (longer_least xs ys).0

  pub longer_second : (xs ys : List E) → length ys ≤ length (longer xs ys)
  longer_second xs ys = (longer_least xs ys).1

  module _ (who : E → ℕ) (number : ℕ) where
    entries_all : (added : List E) → All (λ e. who e ≡ number) added → entries_of who number added ≡ added
    entries_all [] a = refl
    entries_all (e ∷ es) a =
        let is : (who e == number) ≡ true = (let h = All-head (λ x. who x ≡ number) e es a in grind (arith, nat_tests)) in
        let rest = entries_all es (All-tail (λ x. who x ≡ number) e es a) in rw is (ap (λ zs. e ∷ zs) rest)

    entries_none : (other : ℕ) → other ≢ number → (added : List E) → All (λ e. who e ≡ number) added → entries_of who other added ≡ []
    entries_none other ne [] a = refl
    entries_none other ne (e ∷ es) a =
        let is : (who e == other) ≡ false = (let h = All-head (λ x. who x ≡ number) e es a in grind (arith, nat_tests)) in
        rw is (entries_none other ne es (All-tail (λ x. who x ≡ number) e es a))

    -- entries of one pass are added to its own, and to no other's
    pub own_grows : (tale tale' added own : List E) → tale' ≡ tale ++ added → All (λ e. who e ≡ number) added → entries_of who number tale ≡ own → entries_of who number tale' ≡ own ++ added
    own_grows tale tale' added own grown a is =
        ap (entries_of who number) grown ∙ (filter-append (λ e. who e == number) tale added ∙ (λ i. is i ++ entries_all added a i))

    pub own_stays : (other : ℕ) → other ≢ number → (tale tale' added : List E) → tale' ≡ tale ++ added → All (λ e. who e ≡ number) added → entries_of who other tale' ≡ entries_of who other tale
    own_stays other ne tale tale' added grown a =
        ap (entries_of who other) grown ∙ (filter-append (λ e. who e == other) tale added ∙ (ap (λ zs. entries_of who other tale ++ zs) (entries_none other ne added a) ∙ append-nil (entries_of who other tale)))

    -- a pass that comes after all of these has none
    pub none_yet : (tale : List E) → All (λ e. who e ≢ number) tale → entries_of who number tale ≡ []
    none_yet [] a = refl
    none_yet (e ∷ es) a =
        let is : (who e == number) ≡ false = (let h = All-head (λ x. who x ≢ number) e es a in grind (arith, nat_tests)) in
        rw is (none_yet es (All-tail (λ x. who x ≢ number) e es a))
