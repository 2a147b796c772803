-- What the tiles before lesser tiles say of those before the next one.
use Rattle.std.proofs.Common.{◌≡◌, ℕ, zero, suc, ◌+◌, ◌<◌, ◌≤◌, ◌↔◌, true, List, [], ◌∷◌, ◌++◌, length, get_or, inl, inr, refl, arith}
use Rattle.std.proofs.lemmas.Bool.{cases_lt}
use Rattle.std.proofs.Math.Seq.{get_or-append_seam}
use Rattle.std.proofs.lemmas.List.{get_or_append_left, get_or_default, get_or_past}
use Rattle.std.proofs.lemmas.List.Elements.{All-append}
use Rattle.std.specs.List.{All, AllPairs}
use Rattle.spf_touch.specs.Ordered.{is_in}
use Rattle.spf_touch.proofs.Members.{in_at}
use Rattle.spf_core.specs.History.{is_before}
use Rattle.spf_tiles.specs.Before.{IsChain, Leads}
use Rattle.spf_tiles.specs.Links.{IsReached, Rises}
use Rattle.spf_tiles.specs.TileSets.{AreAdded, Has}
use Rattle.spf_tiles.proofs.Chains.{chain_rises, leads_more}

pub leads_rises : (links : List ℕ) (a b : ℕ) → Leads (Rises links) a b → a < b
leads_rises links a b (n, chain) = chain_rises (Rises links) (λ c d link. link.0) a n b chain

-- the rows of the tiles below b
module _ (links before : List ℕ) (b : ℕ) (few : b < 1024) (known : (a m : ℕ) → a < 1024 → m < b → Has before a m ↔ Leads (Rises links) a m) where
  reached_leads : (a : ℕ) → a < 1024 → IsReached links before b b a → Leads (Rises links) a b
  reached_leads a low (m, less, (link, inl same)) = (0, rw same (less, few, link))
  reached_leads a low (m, less, (link, inr there)) = leads_more (Rises links) a m b ((known a m low less).0 there) (less, few, link)

  chain_reached : (a n : ℕ) → a < 1024 → IsChain (Rises links) n a b → IsReached links before b b a
  chain_reached a zero low (less, inside, link) = (a, less, (link, inl refl))
  chain_reached a (suc n) low (m, chain, (less, inside, link)) = (m, less, (link, inr ((known a m low less).1 (n, chain))))

  pub chains_more : (new row : List ℕ) → ((a m : ℕ) → a < 1024 → b ≤ m → Has before a m → ⊥) → ((a : ℕ) → a < 1024 → Has row a 0 ↔ IsReached links before b b a) →
      AreAdded before new (λ a m. (m ≡ b) × Has row a 0) → (a m : ℕ) → a < 1024 → m < b + 1 → Has new a m ↔ Leads (Rises links) a m
  chains_more new row rest reached added a m low less = elim (cases_lt m b) [
    | inl inside ↦ (
      λ h. (known a m low inside).0 (elim ((added a m low).0 h) [ inl was ↦ was | inr new' ↦ (let same = new'.0 in absurd (omega arith)) ]),
      λ h. (added a m low).1 (inl ((known a m low inside).1 h)),
    )
    | inr last ↦
        let same : m ≡ b = omega arith in (
          λ h. elim ((added a m low).0 h) [ inl was ↦ absurd (rest a m low last was) | inr new' ↦ rw same (reached_leads a low ((reached a low).0 new'.1)) ],
          λ h. let chain : Leads (Rises links) a b = rw same at h in (added a m low).1 (inr (same, (reached a low).1 (chain_reached a chain.0 low chain.1))),
        )
  ]

-- the lists of the tiles below b
module _ (links : List ℕ) (lists : List (List ℕ)) (b : ℕ) (size : length lists ≡ b) (known : (a m : ℕ) → m < b → (is_before lists a m ≡ true) ↔ Leads (Rises links) a m) where
  before_below : (a m : ℕ) → is_before lists a m ≡ true → a < b
  before_below a m h = elim (cases_lt m b) [
    | inl inside ↦ omega (arith, leads_rises links a m ((known a m inside).0 h))
    | inr past ↦ let out : length lists ≤ m = omega arith in let none : is_in [] a ≡ true = rw (get_or_past lists m [] out) at h in cc
  ]

  pub all_below : All (All (λ a. a < b)) lists
  all_below k d inside j e there =
      before_below (get_or (get_or lists k d) j e) k (rw (get_or_default lists k [] d inside) (in_at (get_or lists k d) j e there))

  pub known_more : (row : List ℕ) → ((a : ℕ) → (is_in row a ≡ true) ↔ Leads (Rises links) a b) → (a m : ℕ) → m < b + 1 → (is_before (lists ++ row ∷ []) a m ≡ true) ↔ Leads (Rises links) a m
  known_more row new a m less = elim (cases_lt m b) [
    | inl inside ↦ let there : m < length lists = omega arith in rw (get_or_append_left lists (row ∷ []) [] m there) (known a m inside)
    | inr last ↦
        let same : m ≡ length lists = omega arith in
        let end : length lists ≡ b = size in
        rw (same, get_or-append_seam lists row [] [], end) (new a)
  ]

pub rising_more : (lists : List (List ℕ)) (row : List ℕ) → AllPairs (λ (x y : ℕ). x < y) row → All (AllPairs (λ (x y : ℕ). x < y)) lists → All (AllPairs (λ (x y : ℕ). x < y)) (lists ++ row ∷ [])
rising_more lists row one all = All-append (AllPairs (λ (x y : ℕ). x < y)) lists (row ∷ []) all (λ k d inside. let first : k ≡ 0 = omega arith in rw first one)
