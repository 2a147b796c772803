use Rattle.spf_tiles.specs.Before.{Link}
use Rattle.spf_tiles.proofs.Chains.{chain_rises, leads_join}
use Rattle.spf_tiles.proofs.Graph.{link_rises}
use Rattle.spf_tiles.proofs.laws.before_rises.Goals as goal

pub returns-clause-transitive : goal.returns-clause-transitive
returns-clause-transitive c touches tiles x y z first next = leads_join (Link touches tiles) x y z first next

pub returns-clause-rises : goal.returns-clause-rises
returns-clause-rises c touches steps loops tiles orders places legal x y before =
    chain_rises (Link touches tiles) (link_rises steps loops tiles orders places touches legal) x before.0 y before.1
