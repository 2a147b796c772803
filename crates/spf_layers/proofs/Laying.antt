-- How far a chain is laid out.
use Rattle.std.proofs.Common.{◌≡◌, ℕ, ◌+◌, ◌-◌, ◌<◌, ◌≤◌, List, [], ◌∷◌, ◌++◌, length, get_or, take, drop, map, refl, sym, ap, ◌∙◌, subst, arith}
use Rattle.std.proofs.lemmas.List.{append-nil, drop_at, length-append, take_at}
use Rattle.std.proofs.lemmas.List.FromFn.{map-range_with_len_more}
use Rattle.std.proofs.lemmas.Option.{get_or_from_slice_get}
use Rattle.std.specs.List.{range_with_len}
use mathlib.Core.Path.{fun_ext}
use Rattle.spf_touch.specs.declared.touch.Touch.{Touch}
use Rattle.spf_layers.specs.Chains.{AreChained, AreChains, Entry, entries, grouped_entries}
use Rattle.spf_layers.specs.Flat.{AreEnds, behind, parts}
use Rattle.spf_layers.specs.Groups.{Group, groups_at}
use Rattle.spf_layers.specs.declared.chains.Node.{Node}
use Rattle.spf_layers.proofs.Behind.{behind_all, entries_groups, from_first}
use Rattle.spf_layers.proofs.Chaining.{chained_within}
use Rattle.spf_layers.proofs.Parts.{parts-push}

-- behind the groups before stand those of the entries gone through, and the chain goes on with the entries left
pub record AreLaying (nodes : List Node) (number : ℕ) (before groups : List Group) (whole : List Entry) : Type 0 where
  pub current : List Group
  pub left : List Entry
  pub chained : AreChained nodes number left
  pub laid : groups ≡ before ++ current
  pub rest : behind_all current left ≡ grouped_entries whole

pub laying_first : (nodes : List Node) (head : ℕ) (before : List Group) (whole : List Entry) → AreChained nodes head whole → AreLaying nodes head before before whole
laying_first nodes head before whole h = record { current = []; left = whole; chained = h; laid = sym (append-nil before); rest = from_first whole }

more : (nodes : List Node) (number start : ℕ) (before groups current : List Group) (whole left : List Entry) (node : Node) →
    AreChained nodes number left → groups ≡ before ++ current → behind_all current left ≡ grouped_entries whole →
    start ≡ length before → 0 < number → get_or nodes (number - 1) node ≡ node →
    AreLaying nodes node.next before (take start groups ++ behind node.unit node.class (drop start groups)) whole
more nodes number start before groups current whole [] node h laid rest at low read = let e : number ≡ 0 = h in absurd (omega arith)
more nodes number start before groups current whole (x ∷ xs) node h laid rest at low read =
    let is : record { unit = x.unit; class = x.class; next = h.0 } ≡ node = sym (get_or_from_slice_get nodes (number - 1) _ node h.2) ∙ read in
    record {
      current = behind node.unit node.class current;
      left = xs;
      chained = subst (λ n. AreChained nodes n xs) (ap (λ (n : Node). n.next) is) h.3;
      laid = rw (laid, take_at before current start (sym at), drop_at before current start (sym at)) refl;
      rest = ap (λ (n : Node). behind_all (behind n.unit n.class current) xs) (sym is) ∙ rest;
    }

pub laying_more : (nodes : List Node) (number start : ℕ) (before groups : List Group) (whole : List Entry) (node : Node) → AreLaying nodes number before groups whole →
    start ≡ length before → 0 < number → get_or nodes (number - 1) node ≡ node →
    AreLaying nodes node.next before (take start groups ++ behind node.unit node.class (drop start groups)) whole
laying_more nodes number start before groups whole node laying =
    more nodes number start before groups laying.current whole laying.left node laying.chained laying.laid laying.rest

ended : (nodes : List Node) (number : ℕ) (current : List Group) (whole left : List Entry) → AreChained nodes number left → number ≡ 0 → behind_all current left ≡ grouped_entries whole → current ≡ grouped_entries whole
ended nodes number current whole [] h z rest = rest
ended nodes number current whole (x ∷ xs) h z rest = let low = h.1 in absurd (omega arith)

pub laying_last : (nodes : List Node) (number : ℕ) (before groups : List Group) (whole : List Entry) → AreLaying nodes number before groups whole → number ≡ 0 → groups ≡ before ++ grouped_entries whole
laying_last nodes number before groups whole laying z =
    laying.laid ∙ ap (λ gs. before ++ gs) (ended nodes number laying.current whole laying.left laying.chained z laying.rest)

-- the groups of one element more
pub element_more : (groups more : List Group) (ends : List ℕ) (end e : ℕ) (of : ℕ → List Entry) → AreEnds (length groups) 0 ends → end ≡ length more →
    more ≡ groups ++ grouped_entries (of e) → parts groups 0 ends ≡ map (λ e. grouped_entries (of e)) (range_with_len 0 e) →
    parts more 0 (ends ++ end ∷ []) ≡ map (λ e. grouped_entries (of e)) (range_with_len 0 (e + 1))
element_more groups more ends end e of lasts at is before =
    let whole : end ≡ length groups + length (grouped_entries (of e)) = omega (arith, ap length is, length-append groups (grouped_entries (of e))) in
    ap (λ gs. parts gs 0 (ends ++ end ∷ [])) is ∙ parts-push groups (grouped_entries (of e)) 0 ends end lasts whole ∙
    ap (λ ps. ps ++ grouped_entries (of e) ∷ []) before ∙ sym (map-range_with_len_more (λ e. grouped_entries (of e)) 0 e e (omega arith))

-- the groups of all chains are the exact groups
pub built : (touches : ℕ → List Touch) (n count len cells : ℕ) → n ≡ count → len ≡ cells →
    map (λ e. grouped_entries (entries touches e (range_with_len 0 n))) (range_with_len 0 len) ≡ map (groups_at touches count) (range_with_len 0 cells)
built touches n count len cells units elements =
    rw (units, elements) (ap (λ f. map f (range_with_len 0 cells)) (fun_ext (λ e. entries_groups touches e (range_with_len 0 count))))

pub heads_within : (nodes : List Node) (heads : List ℕ) (of : ℕ → List Entry) → AreChains nodes heads of → (e : ℕ) → e < length heads → get_or heads e 0 ≤ length nodes
heads_within nodes heads of chains e lt = chained_within nodes (get_or heads e 0) (of e) (chains.each e lt)
