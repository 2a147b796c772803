use Rattle.std.proofs.Common.{◌≡◌, ℕ, ◌+◌, ◌++◌, [], ◌∷◌, length, slice_index_or, List, rules, arith}
use Rattle.std.proofs.lemmas.Option.{get_or_from_slice_get}
use Rattle.spf_group.specs.Keys.{key_of, places_of}
use Rattle.spf_group.proofs.Cuts.{made_cut, made_more}
use Rattle.spf_group.proofs.keys.Keys.of.Goals as goal

ends : (starts new parts : List ℕ) (end : ℕ) → new ≡ starts ++ end ∷ [] → end ≡ length parts → new ≡ starts ++ length parts ∷ []
ends starts new parts end is long = cc

pub loop-position-preserved : goal.loop-position-preserved
loop-position-preserved c =
    let wanted = λ (position : ℕ). key_of c.args.column.key (places_of c.args.column.start c.args.column.now.now (slice_index_or c.args.touches.now (c.args.first + position) [])) in
    let touched = get_or_from_slice_get c.args.touches.now (c.args.first + c.loop-position.position) c.of.result.now [] c.of.ensures.list in
    let more : c.push_key.new.parts.items ≡ c.loop-position.parts.items ++ wanted c.loop-position.position = rw touched c.in_ok-push_key.ensures in
    let starts : c.push-in-loop-position.new.self.items ≡ c.loop-position.starts.items ++ length c.push_key.new.parts.items ∷ [] = ends c.loop-position.starts.items c.push-in-loop-position.new.self.items c.push_key.new.parts.items c.len.result c.in_ok-push-2.ensures.items (search rules) in
    rw starts (made_more wanted c.loop-position.position c.loop-position.parts.items c.loop-position.starts.items c.push_key.new.parts.items more c.loop-position.invariant)

pub returns : goal.returns
returns c =
    let wanted = λ (position : ℕ). key_of c.args.column.key (places_of c.args.column.start c.args.column.now.now (slice_index_or c.args.touches.now (c.args.first + position) [])) in
    let all : c.loop-position.position ≡ c.args.count = omega arith in
    rw all at (made_cut wanted c.loop-position.position c.loop-position.parts.items c.loop-position.starts.items c.loop-position.invariant)
