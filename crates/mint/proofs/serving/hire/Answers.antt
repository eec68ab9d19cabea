use Rattle.std.proofs.Common.{rules, ◌≡◌, ◌<◌, All, ◌++◌, ◌∷◌, [], map, length, ap, ◌∙◌, sym, subst, refl}
use Rattle.mt_server.specs.declared.workers.Worker.{Worker}
use Rattle.mt_server.specs.declared.workers.WorkerEnd.TheVariants.{Ready}
use Rattle.mint.proofs.HiringLemmas.{first_off, of_first, of_rest, of_more, moved_over}
use Rattle.mint.proofs.serving.hire.Goals as goal

pub loop-acceptors-preserved : goal.loop-acceptors-preserved
loop-acceptors-preserved g c =
    let h = c.loop-acceptors.invariant in
    let some : 0 < length c.loop-acceptors.acceptors.items = search rules in
    let someone : 0 < length c.loop-acceptors.viewers.items = search rules in
    let off : c.remove-acceptor.result ∷ c.remove-acceptor.new.self.items ≡ c.loop-acceptors.acceptors.items =
    ap (λ l. c.remove-acceptor.result ∷ l) c.remove-acceptor.ensures.items
    ∙ first_off c.loop-acceptors.acceptors.items c.remove-acceptor.result some c.remove-acceptor.ensures.value in
    let w : Worker g.row.A.Denot g.row.A-Line.Denot =
    record { acceptor = c.remove-acceptor.result; viewer = c.remove-viewer.result; left = c.args.connections; end = Ready } in
    let more : c.push_reserved.new.self.items ≡ c.loop-acceptors.workers.items ++ w ∷ [] = c.push_reserved.ensures.items in (
      ap (λ ws. map (λ w. w.acceptor) ws ++ c.remove-acceptor.new.self.items) more
          ∙ (moved_over (λ w. w.acceptor) c.loop-acceptors.workers.items w c.loop-acceptors.acceptors.items c.remove-acceptor.new.self.items off ∙ h.0),
      search rules,
      search rules,
      subst (All (λ w. w.left ≡ c.args.connections)) (sym more) (of_more (λ w. w.left ≡ c.args.connections) c.loop-acceptors.workers.items w h.3 refl),
      λ p all.
          let t = h.4 p all in (
            subst (All (λ v. v.publication ≡ p)) (sym c.remove-viewer.ensures.items) (of_rest (λ v. v.publication ≡ p) c.loop-acceptors.viewers.items t.0),
            subst (All (λ w. w.viewer.publication ≡ p)) (sym more)
                (of_more (λ w. w.viewer.publication ≡ p) c.loop-acceptors.workers.items w t.1
                (of_first (λ v. v.publication ≡ p) c.loop-acceptors.viewers.items c.remove-viewer.result someone c.remove-viewer.ensures.value t.0)),
          ),
    )
