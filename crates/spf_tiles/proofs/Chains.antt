-- Chains of links.
use Rattle.std.proofs.Common.{ℕ, zero, suc, ◌<◌, arith}
use Rattle.spf_tiles.specs.Before.{IsChain, Leads}

module _ (R : ℕ → ℕ → Type 0) where
  pub leads_more : (a b c : ℕ) → Leads R a b → R b c → Leads R a c
  leads_more a b c (n, chain) link = (suc n, (b, chain, link))

  pub chain_join : (a b n c : ℕ) → Leads R a b → IsChain R n b c → Leads R a c
  chain_join a b zero c first link = leads_more a b c first link
  chain_join a b (suc n) c first (m, chain, link) = leads_more a m c (chain_join a b n m first chain) link

  pub leads_join : (a b c : ℕ) → Leads R a b → Leads R b c → Leads R a c
  leads_join a b c first (n, chain) = chain_join a b n c first chain

  pub chain_last : (a n b : ℕ) → IsChain R n a b → (m : ℕ) × R m b
  chain_last a zero b link = (a, link)
  chain_last a (suc n) b (m, chain, link) = (m, link)

  pub chain_rises : ((c d : ℕ) → R c d → c < d) → (a n b : ℕ) → IsChain R n a b → a < b
  chain_rises rises a zero b link = rises a b link
  chain_rises rises a (suc n) b (m, chain, link) = omega (arith, rises m b link, chain_rises rises a n m chain)

-- where each link is a chain of other links, so is each chain
pub chain_like : (R S : ℕ → ℕ → Type 0) → ((c d : ℕ) → R c d → Leads S c d) → (a n b : ℕ) → IsChain R n a b → Leads S a b
chain_like R S each a zero b link = each a b link
chain_like R S each a (suc n) b (m, chain, link) = leads_join S a m b (chain_like R S each a n m chain) (each m b link)
