use Rattle.std.proofs.Common.{◌≡◌, ◌++◌, ◌∷◌, [], codes, flat_map, take}
use Rattle.spf_lex.proofs.words.Words.push_names.Given as goal

abbrev pub invariant-loop-name : goal.invariant-loop-name
invariant-loop-name l = l.self ≡ l.initial.self ++ flat_map (λ next. codes "," ∷ next ∷ []) (take l.name-index l.others)
