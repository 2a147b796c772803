-- How far a walk has come among pieces that stand one behind the other.
use Rattle.std.proofs.Common.{◌≡◌, ℕ, ◌+◌, ◌<◌, ◌^◌, List, [], ◌∷◌, All, refl, ap, sym, ◌∙◌, subst, arith, length, drop, get_or}
use Rattle.std.proofs.lemmas.List.{drop_more}
use Rattle.std.proofs.lemmas.List.Sums.{sum_by-cons}
use Rattle.std.specs.List.{sum_by}
use Rattle.spf_term.specs.Walk.{Through, StopsAt}
use Rattle.spf_store.specs.Event.{Event}
use Rattle.spf_store.specs.Trace.{one_by_one}
use Rattle.spf_store.proofs.OnTheWay.{OnTheWay, Stays, arrived, part_may, set_out, stopped, went_on}

module _ {S A : Type 0} (accepts : S → Event → S → Type 0) (may : S → Event → Type 0) (sites : A → ℕ) (trace : ℕ → A → List Event) (before : S) (site : ℕ) (pieces : List A) where
  abbrev whole : List Event
  whole = one_by_one sites trace site pieces

  -- these pieces are still to come, the first of them at this site
  pub record AmongPieces (now : S) (next : ℕ) (rest : List A) : Type 0 where
    pub way : OnTheWay accepts may before whole (one_by_one sites trace next rest) now
    pub number : next + sum_by sites rest ≡ site + sum_by sites pieces

  pub at_first : All (may before) whole → AmongPieces before site pieces
  at_first may = record { way = set_out accepts _ may; number = refl }

  module _ {now : S} {next : ℕ} (piece : A) (rest : List A) (among : AmongPieces now next (piece ∷ rest)) where
    abbrev others : List Event
    others = one_by_one sites trace (next + sites piece) rest

    pub may_piece : All (may now) (trace next piece)
    may_piece = part_may accepts may (trace next piece) others among.way

    pub behind_piece : {after : S} → Stays accepts may → Through accepts now (trace next piece) after → AmongPieces after (next + sites piece) rest
    behind_piece stays through = record {
      way = went_on accepts may stays (trace next piece) others among.way through;
      number = omega (arith, among.number, sum_by-cons sites piece rest);
    }

    pub stopped_in : {R : Type 0} {refuses : S → Event → R → Type 0} {stop : R} → StopsAt accepts refuses now (trace next piece) stop → StopsAt accepts refuses before whole stop
    stopped_in at = stopped accepts may (trace next piece) others among.way at

    pub piece_numbered : site + sum_by sites pieces < 2 ^ 32 → next + sites piece < 2 ^ 32
    piece_numbered low = omega (arith, low, among.number, sum_by-cons sites piece rest)

  pub at_last : {after : S} {next : ℕ} → AmongPieces after next [] → Through accepts before whole after
  at_last among = arrived accepts may among.way

  -- the same of a list that a loop goes over
  module _ {now : S} {next : ℕ} (index : ℕ) (piece : A) (inside : index < length pieces) (at : piece ≡ get_or pieces index piece)
      (among : AmongPieces now next (drop index pieces)) where
    here : AmongPieces now next (piece ∷ drop (index + 1) pieces)
    here = subst (AmongPieces now next) (drop_more pieces index piece inside ∙ ap (λ (first : A). first ∷ drop (index + 1) pieces) (sym at)) among

    pub gone_past : {after : S} {last : ℕ} → Stays accepts may → Through accepts now (trace next piece) after → last ≡ next + sites piece →
        AmongPieces after last (drop (index + 1) pieces)
    gone_past {after = after} stays through is =
        subst (λ (number : ℕ). AmongPieces after number (drop (index + 1) pieces)) (sym is) (behind_piece piece (drop (index + 1) pieces) here stays through)

    pub stopped_at : {R : Type 0} {refuses : S → Event → R → Type 0} {stop : R} → StopsAt accepts refuses now (trace next piece) stop → StopsAt accepts refuses before whole stop
    stopped_at at = stopped_in piece (drop (index + 1) pieces) here at
