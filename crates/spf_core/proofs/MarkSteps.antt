-- The marks after one more event.
use Rattle.std.proofs.Common.{◌≡◌, ℕ, ◌+◌, ◌-◌, ◌*◌, ◌<◌, ◌≤◌, Bool, true, false, not, Option, None, Some, List, [], ◌∷◌, ◌++◌, length, get_or, set, take, replicate, inl, inr, refl, sym, ap, ◌∙◌, subst, arith, cond}
use Rattle.std.proofs.lemmas.Bool.{and_from, cases_eq, cases_lt, eq-eqb, eqb-true, false_from_ne_true, false≢true, ne_eqb, or_left, or_right}
use Rattle.std.proofs.lemmas.List.{append-nil, append_assoc, get_or-replicate, get_or_read, get_or-set_other, get_or-set_same, get_or_past, length-replicate, length-set, length_push, take_more}
use Rattle.std.proofs.lemmas.List.Sums.{count_by-le-length, sum_by-set}
use Rattle.std.specs.List.{count_by}
use Rattle.std.specs.Prelude.{is_some}
use Rattle.spf_touch.specs.Ordered.{is_in}
use Rattle.spf_touch.proofs.Members.{in_append}
use Rattle.spf_core.specs.History.{IsAllowed, IsHistory, IsHistoryAfter, MayClaim, claimed_tiles, holds, published_tiles}
use Rattle.spf_core.specs.Marked.{Chronicle, IsMarked, is_held}
use Rattle.spf_core.specs.declared.event.Event.{Event}
use Rattle.spf_core.specs.declared.event.Event.TheVariants.{Claim, Publish}
use Rattle.spf_core.proofs.Events.{claimed-claim, claimed-publish, has_claimed-claim, has_claimed-publish, or_false, published-claim, published-publish}
use Rattle.spf_core.proofs.Marks.{Marks, holds-claim, holds-publish, holds_from, holds_parts, in_new, in_push, marks_claim, marks_publish, no_marks}

after_parts : (order : List (List ℕ)) (workers : ℕ) (past es : List Event) (e : Event) → IsHistoryAfter order workers past (es ++ e ∷ []) →
    IsHistoryAfter order workers past es × IsAllowed order workers (past ++ es) e
after_parts order workers past [] e h = (tt, rw append-nil h.0)
after_parts order workers past (x ∷ es) e h =
    let rest = after_parts order workers (past ++ x ∷ []) es e h.1 in
    ((h.0, rest.0), rw (← append_assoc past (x ∷ []) es) rest.1)

after_more : (order : List (List ℕ)) (workers : ℕ) (past es : List Event) (e : Event) → IsHistoryAfter order workers past es → IsAllowed order workers (past ++ es) e →
    IsHistoryAfter order workers past (es ++ e ∷ [])
after_more order workers past [] e h a = (rw append-nil at a, tt)
after_more order workers past (x ∷ es) e h a = (h.0, after_more order workers (past ++ x ∷ []) es e h.1 (rw (append_assoc past (x ∷ []) es) a))

pub history_parts : (order : List (List ℕ)) (workers : ℕ) (es : List Event) (e : Event) → IsHistory order workers (es ++ e ∷ []) → IsHistory order workers es × IsAllowed order workers es e
history_parts order workers es e h = after_parts order workers [] es e h

pub history_more : (order : List (List ℕ)) (workers : ℕ) (es : List Event) (e : Event) → IsHistory order workers es → IsAllowed order workers es e → IsHistory order workers (es ++ e ∷ [])
history_more order workers es e h a = after_more order workers [] es e h a

marks_next : (order : List (List ℕ)) (workers : ℕ) (es : List Event) (e : Event) → Marks order workers es → IsAllowed order workers es e → Marks order workers (es ++ e ∷ [])
marks_next order workers es (Claim w t) m a = marks_claim order workers es m w t a
marks_next order workers es (Publish w t) m a = marks_publish order workers es m w t a

marks_from : (order : List (List ℕ)) (workers : ℕ) (past es : List Event) → Marks order workers past → IsHistoryAfter order workers past es → Marks order workers (past ++ es)
marks_from order workers past [] m h = rw append-nil m
marks_from order workers past (e ∷ es) m h = rw (← append_assoc past (e ∷ []) es) (marks_from order workers (past ++ e ∷ []) es (marks_next order workers past e m h.0) h.1)

-- what is known of the tiles of a history
pub marks_of : (order : List (List ℕ)) (workers : ℕ) (es : List Event) → IsHistory order workers es → Marks order workers es
marks_of order workers es h = marks_from order workers [] es (no_marks order workers) h

pub seat_at : (w : ℕ) → 1 ≤ w → (w - 1) + 1 ≡ w
seat_at w h = omega arith

-- two tests that imply each other are one
pub same_test : (a b : Bool) → (a ≡ true → b ≡ true) → (b ≡ true → a ≡ true) → a ≡ b
same_test true b f g = sym (f refl)
same_test false true f g = g refl
same_test false false f g = refl

in_push_other : (xs : List ℕ) (x n : ℕ) → (n ≡ x → ⊥) → is_in (xs ++ x ∷ []) n ≡ is_in xs n
in_push_other xs x n other = in_append xs (x ∷ []) n ∙ (rw (ne_eqb n x other) (sym (or_false (is_in xs n))))

-- a mark that is set stands for one more tile
mark_set : (marks : List Bool) (tiles : List ℕ) (t : ℕ) → t < length marks → ((s : ℕ) → get_or marks s false ≡ is_in tiles s) →
    (s : ℕ) → get_or (set marks t true) s false ≡ is_in (tiles ++ t ∷ []) s
mark_set marks tiles t inside inv s = elim (cases_eq s t) [
  | inl same ↦ rw same (get_or-set_same marks t true false inside ∙ sym (in_new tiles t))
  | inr other ↦ get_or-set_other marks t s true false other ∙ inv s ∙ sym (in_push_other tiles t s other)
]

count_set : (marks : List Bool) (t : ℕ) → t < length marks → get_or marks t false ≡ false → count_by not (set marks t true) + 1 ≡ count_by not marks
count_set marks t inside h =
    let one : ◌≡◌ {A = ℕ} (cond (not (get_or marks t false)) 1 0) 1 = rw h refl in
    omega (arith, sum_by-set (λ b. cond (not b) 1 0) marks t true false inside, one)

-- a worker and a tile that an event may be of, a mark that it sets, and room for it
pub record Eventful (past : Chronicle) (marks : List Bool) (room w t : ℕ) : Type 0 where
  pub worker : (1 ≤ w) × (w ≤ past.workers)
  pub tile : t < length marks
  pub fresh : get_or marks t false ≡ false
  pub spare : length past.events < room

module _ (past : Chronicle) (claimed published : List Bool) (held : List (Option ℕ)) (room w t : ℕ) (m : IsMarked past claimed published held room) where
  marks : Marks past.order past.workers past.events
  marks = marks_of past.order past.workers past.events m.history

  abbrev after : Event → Chronicle
  after e = record past { events = past.events ++ e ∷ [] }

  pub seated : (o : Option ℕ) → 1 ≤ w → w - 1 < length held → o ≡ get_or held (w - 1) o → (s : ℕ) → is_held o s ≡ holds past.events w s
  seated o one inside e s =
      ap (λ x. is_held x s) (get_or_read held (w - 1) o inside e None) ∙ m.who_holds (w - 1) s ∙ ap (λ v. holds past.events v s) (seat_at w one)

  pub claimable : IsHistory past.order past.workers (past.events ++ Claim w t ∷ []) → Eventful past claimed room w t
  claimable h =
      let may = (history_parts past.order past.workers past.events (Claim w t) h).1 in
      let tile : t < length claimed = rw m.claims may.tile in
      let fresh : get_or claimed t false ≡ false = m.is_claimed t ∙ may.unclaimed in
      record { worker = may.worker; tile = tile; fresh = fresh; spare = let n = count_set claimed t tile fresh in let e = m.enough in omega arith }

  claim_seat : MayClaim past.order past.workers past.events w t → (k s : ℕ) →
      is_held (get_or (set held (w - 1) (Some t)) k None) s ≡ holds (past.events ++ Claim w t ∷ []) (k + 1) s
  claim_seat may k s = elim (cases_eq k (w - 1)) [
    | inl mine ↦
        let seat : k + 1 ≡ w = let one = may.worker.0 in omega arith in
        let inside : w - 1 < length held = let top = may.worker.1 in let one = may.worker.0 in let seats = m.seats in omega arith in
        rw (mine, seat_at w may.worker.0) (ap (λ o. is_held o s) (get_or-set_same held (w - 1) (Some t) None inside) ∙
        same_test _ _
        (λ same. rw (eqb-true s t same) (holds_from (past.events ++ Claim w t ∷ []) w t
        (has_claimed-claim past.events w t w t ∙ or_right _ _ (and_from _ _ (eq-eqb w w refl) (eq-eqb t t refl)))
        (ap (λ l. is_in l t) (published-claim past.events w t) ∙ false_from_ne_true _ (λ b. false≢true (sym may.unclaimed ∙ marks.given t b)))))
        (λ h. elim (holds-claim past.events w t w s h) [
          | inl old ↦ absurd (false≢true (sym (may.idle s) ∙ old))
          | inr new ↦ eq-eqb s t new.1
        ]))
    | inr other ↦
        ap (λ o. is_held o s) (get_or-set_other held (w - 1) k (Some t) None other) ∙ m.who_holds k s ∙
        same_test _ _
        (λ h. let parts = holds_parts past.events (k + 1) s h in
        holds_from (past.events ++ Claim w t ∷ []) (k + 1) s (has_claimed-claim past.events w t (k + 1) s ∙ or_left _ _ parts.0) (ap (λ l. is_in l s) (published-claim past.events w t) ∙ parts.1))
        (λ h. elim (holds-claim past.events w t (k + 1) s h) [
          | inl old ↦ old
          | inr new ↦ absurd (other (let e = new.0 in omega arith))
        ])
  ]

  pub marked_claim : IsHistory past.order past.workers (past.events ++ Claim w t ∷ []) →
      IsMarked (after (Claim w t)) (set claimed t true) published (set held (w - 1) (Some t)) room
  marked_claim h =
      let may = (history_parts past.order past.workers past.events (Claim w t) h).1 in
      let c = claimable h in
      record {
        history = h;
        claims = length-set claimed t true ∙ m.claims;
        publications = m.publications;
        seats = length-set held (w - 1) (Some t) ∙ m.seats;
        is_claimed = λ s. mark_set claimed (claimed_tiles past.events) t c.tile m.is_claimed s ∙ ap (λ l. is_in l s) (sym (claimed-claim past.events w t));
        is_published = λ s. m.is_published s ∙ ap (λ l. is_in l s) (sym (published-claim past.events w t));
        who_holds = claim_seat may;
        enough = let n = count_set claimed t c.tile c.fresh in let e = m.enough in let l = length_push past.events (Claim w t) in omega arith;
      }

  pub publishable : IsHistory past.order past.workers (past.events ++ Publish w t ∷ []) → Eventful past published room w t
  publishable h =
      let held_now = (history_parts past.order past.workers past.events (Publish w t) h).1 in
      let parts = holds_parts past.events w t held_now in
      let tile : t < length published = rw m.publications (marks.inside t (marks.taken w t parts.0)) in
      let fresh : get_or published t false ≡ false = m.is_published t ∙ parts.1 in
      record { worker = marks.ranged w t parts.0; tile = tile; fresh = fresh; spare = let n = count_set published t tile fresh in let e = m.enough in omega arith }

  publish_seat : holds past.events w t ≡ true → (1 ≤ w) × (w ≤ past.workers) → (k s : ℕ) →
      is_held (get_or (set held (w - 1) None) k None) s ≡ holds (past.events ++ Publish w t ∷ []) (k + 1) s
  publish_seat held_now worker k s = elim (cases_eq k (w - 1)) [
    | inl mine ↦
        let inside : w - 1 < length held = let top = worker.1 in let one = worker.0 in let seats = m.seats in omega arith in
        rw (mine, seat_at w worker.0) (ap (λ o. is_held o s) (get_or-set_same held (w - 1) None None inside) ∙
        sym (false_from_ne_true _ (λ h. let old = holds-publish past.events w t w s h in old.1 (marks.single w s t old.0 held_now))))
    | inr other ↦
        ap (λ o. is_held o s) (get_or-set_other held (w - 1) k None None other) ∙ m.who_holds k s ∙
        same_test _ _
        (λ h. let parts = holds_parts past.events (k + 1) s h in
        let apart : s ≡ t → ⊥ = λ same. other (let e = marks.sole (k + 1) w t (rw same at parts.0) (holds_parts past.events w t held_now).0 in omega arith) in
        holds_from (past.events ++ Publish w t ∷ []) (k + 1) s (has_claimed-publish past.events w t (k + 1) s ∙ parts.0)
        (ap (λ l. is_in l s) (published-publish past.events w t) ∙ in_push_other (published_tiles past.events) t s apart ∙ parts.1))
        (λ h. (holds-publish past.events w t (k + 1) s h).0)
  ]

  pub marked_publish : IsHistory past.order past.workers (past.events ++ Publish w t ∷ []) →
      IsMarked (after (Publish w t)) claimed (set published t true) (set held (w - 1) None) room
  marked_publish h =
      let held_now = (history_parts past.order past.workers past.events (Publish w t) h).1 in
      let c = publishable h in
      record {
        history = h;
        claims = m.claims;
        publications = length-set published t true ∙ m.publications;
        seats = length-set held (w - 1) None ∙ m.seats;
        is_claimed = λ s. m.is_claimed s ∙ ap (λ l. is_in l s) (sym (claimed-publish past.events w t));
        is_published = λ s. mark_set published (published_tiles past.events) t c.tile m.is_published s ∙ ap (λ l. is_in l s) (sym (published-publish past.events w t));
        who_holds = publish_seat held_now c.worker;
        enough = let n = count_set published t c.tile c.fresh in let e = m.enough in let l = length_push past.events (Publish w t) in omega arith;
      }

get_replicate : {X : Type 0} (n k : ℕ) (x : X) → get_or (replicate n x) k x ≡ x
get_replicate n k x = elim (cases_lt k n) [
  | inl inside ↦ get_or-replicate n k x x inside
  | inr past ↦ get_or_past (replicate n x) k x (rw length-replicate past)
]

-- what may come next, at another name of the past
pub renamed : (past now : Chronicle) (e : Event) → past ≡ now → IsHistory now.order now.workers (now.events ++ e ∷ []) → IsHistory past.order past.workers (past.events ++ e ∷ [])
renamed past now e same h = subst (λ (p : Chronicle). IsHistory p.order p.workers (p.events ++ e ∷ [])) (sym same) h

-- nobody but a worker holds a tile
pub nobody : (order : List (List ℕ)) (workers : ℕ) (es : List Event) (w : ℕ) → IsHistory order workers es → ((1 ≤ w) × (w ≤ workers) → ⊥) → (s : ℕ) → false ≡ holds es w s
nobody order workers es w h out s = sym (false_from_ne_true _ (λ k. out ((marks_of order workers es h).ranged w s (holds_parts es w s k).0)))

pub seated_at : (past now : Chronicle) (claimed published : List Bool) (held : List (Option ℕ)) (room w : ℕ) → IsMarked past claimed published held room → past ≡ now →
    (o : Option ℕ) → 1 ≤ w → w - 1 < length held → o ≡ get_or held (w - 1) o → (s : ℕ) → is_held o s ≡ holds now.events w s
seated_at past now claimed published held room w m same o one inside e s =
    seated past claimed published held room w 0 m o one inside e s ∙ ap (λ (p : Chronicle). holds p.events w s) same

-- a seat is empty where its worker holds nothing
pub empty_seat : (o : Option ℕ) (held : ℕ → Bool) → ((t : ℕ) → is_held o t ≡ held t) → is_some o ≡ false → (t : ℕ) → held t ≡ false
empty_seat None held e h t = sym (e t)
empty_seat (Some s) held e h t = cc

pub idle_seat : (o : Option ℕ) (held : ℕ → Bool) → ((t : ℕ) → is_held o t ≡ held t) → ((t : ℕ) → held t ≡ false) → is_some o ≡ false
idle_seat None held e h = refl
idle_seat (Some s) held e h = absurd (false≢true (sym (h s) ∙ sym (e s) ∙ eq-eqb s s refl))

-- a loop over tiles that are marked, one step on
pub marked_more : (tiles : List ℕ) (marks : List Bool) (i d : ℕ) → i < length tiles → get_or marks (get_or tiles i d) false ≡ true →
    ((t : ℕ) → is_in (take i tiles) t ≡ true → get_or marks t false ≡ true) → (t : ℕ) → is_in (take (i + 1) tiles) t ≡ true → get_or marks t false ≡ true
marked_more tiles marks i d inside now so_far t h = elim (in_push (take i tiles) (get_or tiles i d) t (rw (take_more tiles i d inside) at h)) [
  | inl old ↦ so_far t old
  | inr new ↦ rw new now
]

-- before any event
pub marked_start : (order : List (List ℕ)) (workers room : ℕ) → 2 * length order ≤ room →
    IsMarked (record { order = order; workers = workers; events = [] }) (replicate (length order) false) (replicate (length order) false) (replicate workers None) room
marked_start order workers room enough = record {
  history = tt;
  claims = length-replicate (length order) false;
  publications = length-replicate (length order) false;
  seats = length-replicate workers None;
  is_claimed = λ t. get_replicate (length order) t false;
  is_published = λ t. get_replicate (length order) t false;
  who_holds = λ k t. ap (λ o. is_held o t) (get_replicate workers k None);
  enough =
      let n = count_by-le-length not (replicate (length order) false) in
      let l = length-replicate (length order) false in
      omega arith;
}
