use Rattle.std.proofs.Common.{◌≡◌, ℕ, sym, ◌∙◌, subst, IfOk, unwrap_or}
use Rattle.std.specs.Str.{bytes_eq}
use Rattle.spf_reltext.specs.Names.{number_of}
use Rattle.spf_reltext.proofs.NameLists.{place-map}
use Rattle.spf_reltext.proofs.name_set.NameSet.number_of.Goals as goal

pub returns : goal.returns
returns c =
    let place = c.unwrap_or.ensures ∙ (λ i. unwrap_or (c.get_index_of-place.ensures.index i) (c.len.ensures.len i))
    ∙ sym (place-map (λ name. name.items) (bytes_eq c.bytes.result.now) c.self.inside.names.keys) ∙ (λ i. number_of (c.self.view_is i) (c.bytes.ensures.bytes i)) in
    subst (λ (n : ℕ). IfOk c.number.result (λ number. number ≡ n)) place c.number.ensures
