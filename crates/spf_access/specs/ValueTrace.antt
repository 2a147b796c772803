-- The events of a product.
use Rattle.std.specs.Prelude.{ℕ, ℤ, List}
use Rattle.spf_term.specs.Environment.{Environment}
use Rattle.spf_kernel.specs.declared.tree.Prod.{Prod}
use Rattle.spf_kernel.specs.BodySites.{fact_sites}
use Rattle.spf_store.specs.Event.{Event}
use Rattle.spf_store.specs.Trace.{fact_trace, one_by_one}

abbrev pub prod_trace : Environment → List ℤ → ℕ → Prod → List Event
prod_trace env variables site prod = one_by_one fact_sites (fact_trace env variables) site prod.facts
