use Rattle.std.proofs.Common.{rules, arith, ◌≡◌, ◌+◌, ◌∙◌, true, false, IsTrue, length, sym, subst}
use Rattle.mt_derive.specs.Events.{imports_of, IsLive, entries_of}
use Rattle.mt_derive.specs.Nodes.{import_node}
use Rattle.mt_derive.specs.Trees.{entry_at}
use Rattle.mt_derive.proofs.EntryLemmas.{entries_length}
use Rattle.mt_table.specs.Fixed.{StandsOn}
use Rattle.mt_table.specs.Works.{Accepts}
use Rattle.mt_table.proofs.FixedLemmas.{start_stands, stands_accepted, stands_skipped}
use Rattle.mt_table.proofs.ListLemmas.{live_entry}
use Rattle.mt_table.proofs.StartLemmas.{start_propagated}
use Rattle.mt_table.proofs.StepLemmas.{start_spent, spent_more, spent_high}
use Rattle.mt_table.proofs.work.Work.rebuild.Goals as goal
use Rattle.mt_table.proofs.work.Work.rebuild.Goals.{then-live, else-live}

pub propagate-count-requires : goal.propagate-count-requires
propagate-count-requires g c = start_propagated c.restart.new.self c.restart.ensures.start

pub loop-earlier-init : goal.loop-earlier-init
loop-earlier-init g c =
    let done = c.propagate-count.ensures in (
      done.propagates.bounds ∙ c.restart.ensures.bounds,
      done.propagates.rules ∙ c.restart.ensures.rules,
      start_stands c.restart.new.self c.propagate-count.new.self (entries_of c.args.imports.now.events) c.restart.ensures.start done.propagates,
      done.counted,
      start_spent c.restart.new.self c.propagate-count.new.self c.propagate-count.result c.restart.ensures.start done.propagates.bounds done.pays,
    )

pub overflow_add-count : goal.overflow_add-count
overflow_add-count g c =
    omega (
      arith,
      spent_high c.accept-count.new.self (c.loop-earlier.count + c.accept-count.result)
          (spent_more c.loop-earlier.self c.accept-count.new.self c.loop-earlier.count c.accept-count.result c.accept-count.ensures.accepts.bounds c.loop-earlier.invariant.4 c.accept-count.ensures.tries),
    )

pub loop-earlier-preserved : goal.loop-earlier-preserved
loop-earlier-preserved g c =
    let v = c.loop-earlier.self in
    let E = c.args.imports.now.events in
    let n = c.loop-earlier.earlier + 1 in
    let old = c.loop-earlier.invariant in elim c.if-live.branch [
      | then-live w ↦
          let now = w.accept-count.new.self in
          let live : IsLive E n = c.live.ensures.0 w.if-live.true in
          let is : (entry_at (entries_of E) n).live ≡ true = live_entry E n live.0 live.1 ∙ live.2 in
          let accepts : Accepts v now (import_node (entries_of E) n) = rw w.node.ensures at w.accept-count.ensures.accepts in
          rw (w.self-is, w.steps-is, w.count-is) (
            accepts.bounds ∙ old.0,
            accepts.rules ∙ old.1,
            stands_accepted v now (entries_of E) n old.2 live.0 (omega (arith, live.1, entries_length E)) is accepts,
            omega (arith, old.3, w.accept-count.ensures.counted),
            spent_more v now c.loop-earlier.count w.accept-count.result accepts.bounds old.4 w.accept-count.ensures.tries,
          )
      | else-live w ↦
          rw (w.self-is, w.steps-is, w.count-is) (
            old.0,
            old.1,
            stands_skipped v (entries_of E) n old.2 (λ is.
                let yes : IsTrue c.live.result = c.live.ensures.1 (
                  omega arith,
                  omega (arith, c.loop-earlier-test.true, c.len-earlier-end.ensures),
                  sym (live_entry E n (omega arith) (omega (arith, c.loop-earlier-test.true, c.len-earlier-end.ensures))) ∙ is,
                ) in
                let no : c.live.result ≡ false = w.if-live.false in
                cc (yes, no)),
            old.3,
            old.4,
          )
    ]

pub returns-clause-stands : goal.returns-clause-stands
returns-clause-stands g c =
    let E = c.args.imports.now.events in
    let all : c.loop-earlier.earlier ≡ length (imports_of E) = search rules in
    subst (λ m. StandsOn c.loop-earlier.self (entries_of E) (m + 1)) (all ∙ sym (entries_length E)) c.loop-earlier.invariant.2
