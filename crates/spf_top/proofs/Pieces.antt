-- Pieces that are appended one behind another, up to a fault.
use Rattle.std.proofs.Common.{◌≡◌, ℕ, ◌+◌, ◌<◌, ◌≤◌, List, ◌∷◌, ◌++◌, length, take, drop, get_or, Option, None, Some, Bor, sym, ap, ◌∙◌, append_assoc, length-append, arith}
use Rattle.std.specs.Prelude.{flat_map}
use Rattle.std.proofs.lemmas.List.{drop_more, take-append-drop, take-append-le}
use Rattle.std.proofs.Math.Seq.{take-append-add}
use Rattle.std.proofs.lemmas.Grind.{flat_map-append}
use Rattle.spf_io.specs.Stream.{Appends, Rose}
use Rattle.spf_top.specs.Report.{AppendsOrFails}

-- what was appended in two goes
appended_twice : (start mid last : Option (List ℕ)) (front back : List ℕ) → Appends start front mid → Appends mid back last → Appends start (front ++ back) last
appended_twice None mid last front back a b = rw a at b
appended_twice (Some bytes) mid last front back a b = (rw a at b) ∙ ap (λ (bs : List ℕ). Some bs) (append_assoc bytes front back)

take_within : (front piece rest : List ℕ) (n : ℕ) → n ≤ length piece → take (length front + n) (front ++ (piece ++ rest)) ≡ front ++ take n piece
take_within front piece rest n le = take-append-add front (piece ++ rest) n ∙ ap (λ (bs : List ℕ). front ++ bs) (take-append-le n piece rest le)

all_pieces : (pieces : List (Bor (List ℕ))) (i : ℕ) (d : Bor (List ℕ)) → i < length pieces
    → flat_map (λ p. p.now) pieces ≡ flat_map (λ p. p.now) (take i pieces) ++ ((get_or pieces i d).now ++ flat_map (λ p. p.now) (drop (i + 1) pieces))
all_pieces pieces i d lt =
    ap (flat_map (λ (p : Bor (List ℕ)). p.now)) (sym (take-append-drop i pieces) ∙ ap (λ (ps : List (Bor (List ℕ))). take i pieces ++ ps) (drop_more pieces i d lt))
    ∙ flat_map-append (λ (p : Bor (List ℕ)). p.now) (take i pieces) (get_or pieces i d ∷ drop (i + 1) pieces)

-- a piece of which a front was appended
pub failed_front : (pieces : List (Bor (List ℕ))) (i : ℕ) (d : Bor (List ℕ)) (start mid last : Option (List ℕ)) (faults before after n : ℕ) → i < length pieces → Appends start (flat_map (λ p. p.now) (take i pieces)) mid → faults ≤ before
    → n ≤ length (get_or pieces i d).now → Appends mid (take n (get_or pieces i d).now) last → Rose before after → AppendsOrFails start faults (flat_map (λ p. p.now) pieces) last after
failed_front pieces i d start mid last faults before after n lt so_far le within appends rose =
    let front = flat_map (λ (p : Bor (List ℕ)). p.now) (take i pieces) in
    let piece = (get_or pieces i d).now in
    let rest = flat_map (λ (p : Bor (List ℕ)). p.now) (drop (i + 1) pieces) in
    let whole : flat_map (λ p. p.now) pieces ≡ front ++ (piece ++ rest) = all_pieces pieces i d lt in
    (length front + n, rw (whole, length-append, length-append) (omega arith), rw (whole, take_within front piece rest n within) (appended_twice start mid last front (take n piece) so_far appends), λ _. omega (arith, rose, le))
