use Rattle.spf_store.proofs.SmallItems.{item_small}
use Rattle.spf_store.proofs.numbers.bounded_items_are_small.Goals as goal

pub returns : goal.returns
returns c env variables items within bounded = λ k d inside. item_small c.bounded_terms_are_small.ensures env variables within _ (bounded k d inside)
