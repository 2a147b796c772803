use Rattle.std.proofs.Common.{inl, inr, refl, rules, arith}
use Rattle.spf_tiles.specs.Links.{IsFollowed}
use Rattle.spf_tiles.specs.TileSets.{Has}
use Rattle.spf_tiles.proofs.Adding.{grown_first, kept}
use Rattle.spf_tiles.proofs.TileSets.{none_has}
use Rattle.spf_tiles.proofs.closure.reached.Goals as goal
use Rattle.spf_tiles.proofs.closure.reached.Goals.{then-contains, else-contains}

pub loop-other-init : goal.loop-other-init
loop-other-init c = record {
  size = refl;
  reached = λ a low. (λ h. absurd (none_has 16 a 0 h), λ h. let no = h.1 in absurd (omega arith));
}

pub loop-other-preserved : goal.loop-other-preserved
loop-other-preserved c =
    let other = c.loop-other.other in
    let tile = c.args.tile in
    let was = c.loop-other.invariant in
    elim c.if-contains.branch [
      | then-contains w ↦
          let link : Has c.args.links.now other tile = c.contains.ensures.0 (search rules) in
          record {
            size = search rules;
            reached = rw w.reached-is (λ a low.
                let one = w.insert.ensures a 0 low in
                let two = w.unite.ensures a 0 low in
                grown_first other (IsFollowed c.args.links.now c.args.before.now tile a) _ _ (was.reached a low) (
                  λ h. elim (two.0 h) [
                    | inl mid ↦ elim (one.0 mid) [ inl old ↦ inl old | inr same ↦ inr (link, inl same.1) ]
                    | inr there ↦ inr (link, inr there.1)
                  ],
                  λ h. two.1 (elim h [
                    | inl old ↦ inl (one.1 (inl old))
                    | inr e ↦ elim e.1 [ inl same ↦ inl (one.1 (inr (refl, same))) | inr there ↦ inr (refl, there) ]
                  ]),
                ));
          }
      | else-contains w ↦
          let no : Has c.args.links.now other tile → ⊥ = λ h. let yes = c.contains.ensures.1 h in search rules in
          record {
            size = search rules;
            reached = rw w.reached-is (λ a low. grown_first other (IsFollowed c.args.links.now c.args.before.now tile a) _ _ (was.reached a low) (kept _ _ (λ e. absurd (no e.0))));
          }
    ]
