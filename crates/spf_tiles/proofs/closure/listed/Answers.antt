use Rattle.std.proofs.Common.{◌≡◌, ℕ, ◌<◌, get_or, inl, inr, rules, arith}
use Rattle.std.proofs.lemmas.Bool.{cases_lt}
use Rattle.std.proofs.lemmas.List.Quantifiers.{all_pairs_push}
use Rattle.spf_touch.proofs.Members.{in_at}
use Rattle.spf_tiles.proofs.Adding.{is_in_push}
use Rattle.spf_tiles.proofs.closure.listed.Goals as goal
use Rattle.spf_tiles.proofs.closure.listed.Goals.{then-contains+in_ok-push, else-contains}

pub loop-other-preserved : goal.loop-other-preserved
loop-other-preserved c =
    let n = c.loop-other.other in
    let list = c.loop-other.list.items in
    let was = c.loop-other.invariant in
    elim c.if-contains.branch [
      | then-contains+in_ok-push w ↦
          record {
            rising = rw (w.list-is, w.in_ok-push.ensures.items) (all_pairs_push (λ (a b : ℕ). a < b) list n was.rising (λ k d inside. ((was.listed (get_or list k d)).0 (in_at list k d inside)).0));
            listed = rw (w.list-is, w.in_ok-push.ensures.items) (λ a.
                let push = is_in_push list n a in (
                  λ h. elim (push.0 h) [
                    | inl old ↦ (let r = (was.listed a).0 old in (omega (arith, r.0), r.1))
                    | inr same ↦ (omega arith, rw same (c.contains.ensures.0 (search rules)))
                  ],
                  λ h. push.1 (elim (cases_lt a n) [ inl less ↦ inl ((was.listed a).1 (less, h.1)) | inr more ↦ (let low = h.0 in inr (omega arith)) ]),
                ));
          }
      | else-contains w ↦ rw w.list-is (record {
        rising = was.rising;
        listed = λ a. (
          λ h. (let r = (was.listed a).0 h in (omega (arith, r.0), r.1)),
          λ h. elim (cases_lt a n) [
            | inl less ↦ (was.listed a).1 (less, h.1)
            | inr more ↦ (let low = h.0 in let same : a ≡ n = omega arith in let yes = c.contains.ensures.1 (rw same at h.1) in search rules)
          ],
        );
      })
    ]
