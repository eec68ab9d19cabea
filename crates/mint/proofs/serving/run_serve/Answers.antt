use Rattle.std.proofs.Common.{◌≡◌, ◌≢◌, ◌<◌, ◌∙◌, ℕ, length, map, string_bytes, get_or, inl, refl, sym, ap, subst, arith}
use Rattle.std.proofs.lemmas.List.{get_or-map, length-map}
use Rattle.mt_cells.specs.declared.bounds.Bounds.{Bounds}
use Rattle.mt_publish.specs.States.{Publication}
use Rattle.mt_table.specs.declared.published.Base.{Base}
use Rattle.mt_service.specs.Records.{IsKept}
use Rattle.mt_service.specs.Texts.{open_text}
use Rattle.mt_server.specs.Workers.{Worked}
use Rattle.mint.specs.declared.status.Status.{Status}
use Rattle.mint.specs.declared.status.Status.TheVariants.{Words, BadStore}
use Rattle.mint.specs.Serving.{IsTurnedAway}
use Rattle.mint.specs.Statuses.{ending, GivenUp}
use Rattle.mint.specs.Texts.{usage_text}
use Rattle.mint.proofs.ChainLemmas.{left_same}
use Rattle.mint.proofs.ServingLemmas.{loaded_kept, refusal_away, refusal_left}
use Rattle.mint.proofs.serving.run_serve.Goals as goal

pub returns-in_default-clause-cut : goal.returns-in_default-clause-cut
returns-in_default-clause-cut g c = λ e. (Words, usage_text, inl (c.in_default.ensures, refl, refl, refl), c.write_answer.ensures.cut e)

pub returns-in-Ok-open-clause-opened : goal.returns-in-Ok-open-clause-opened
returns-in-Ok-open-clause-opened g c = λ began tell.
    let s = c.in-Some.serving in
    let desk = c.in-Ok-open.field-0.desk in (
      s.bounds,
      s.workers,
      s.connections,
      (s.port, c.in-Some.ensures.0),
      (
        desk.history.accepted,
        loaded_kept s.bounds (g.K.Keeper.records c.args.keeper) (g.K.Keeper.records desk.history.keeper) desk.history.accepted (tell desk.history.keeper)
            c.in-Ok-open.ensures.accepted,
      ),
    )

pub returns-in_default-with_capacity-clause-given_up : goal.returns-in_default-with_capacity-clause-given_up
returns-in_default-with_capacity-clause-given_up g c = λ e.
    let s = c.in-Some.serving in (s.bounds, s.workers, s.connections, (s.port, c.in-Some.ensures.0), left_same (g.K.Keeper.records c.args.keeper), refl)

pub hire-workers-requires-clause-count : goal.hire-workers-requires-clause-count
hire-workers-requires-clause-count g c =
    let s = c.in-Some.serving in
    c.in-Ok-open.field-0.viewers.ok.0 ∙ c.in-Ok-open.ensures.count ∙ sym (c.requires s.bounds s.workers s.connections (s.port, c.in-Some.ensures.0))

pub staffed-end-requires-clause-few : goal.staffed-end-requires-clause-few
staffed-end-requires-clause-few g c κs within =
    let s = c.in-Some.serving in
    let workers = c.hire-workers.result in
    let count : length c.args.acceptors.items ≡ length workers.items =
    ap length (sym c.hire-workers.ensures.acceptors) ∙ length-map workers.items (λ w. w.acceptor) in
    omega (arith, workers.ok.0, count, c.args.acceptors.ok.0, c.requires s.bounds s.workers s.connections (s.port, c.in-Some.ensures.0), c.in-Some.ensures.2)

pub staffed-end-requires-clause-publication : goal.staffed-end-requires-clause-publication
staffed-end-requires-clause-publication g c κs within =
    c.hire-workers.ensures.publication c.in-Ok-open.field-0.desk.history.publication (λ k d h. (c.in-Ok-open.ensures.viewers k d h).0)

pub returns-in-Ok-open-clause-served : goal.returns-in-Ok-open-clause-served
returns-in-Ok-open-clause-served g c = λ began.
    let s = c.in-Some.serving in
    let workers = c.hire-workers.result.items in
    let same = c.hire-workers.ensures.acceptors in
    let served = c.staffed-end.result.1.history in
    let within = ap (λ (p : Publication Base). p.base.bounds) c.staffed-end.ensures.publication ∙ c.in-Ok-open.ensures.bounds in
    let count : length c.args.acceptors.items ≡ length workers = ap length (sym same) ∙ length-map workers (λ w. w.acceptor) in (
      s.bounds,
      s.workers,
      s.connections,
      (s.port, c.in-Some.ensures.0),
      (
        served.accepted,
        subst (λ (b : Bounds). IsKept b (g.K.Keeper.records c.close-keeper.result.0) served.accepted) within c.close-keeper.ensures.kept,
      ),
      λ i d l.
          let here : i < length workers = subst (λ (k : ℕ). i < k) count l in
          let w = get_or workers i d in
          let v = get_or c.staffed-end.result.2.items i d in
          let a : w.acceptor ≡ get_or c.args.acceptors.items i d.acceptor =
          sym (get_or-map (λ w. w.acceptor) workers i d d.acceptor here) ∙ ap (λ l. get_or l i d.acceptor) same in
          let left : w.left ≡ s.connections = c.hire-workers.ensures.left i d here in
          subst
          (λ (z : ℕ × g.row.A.Denot). Worked z.0 v.left (g.A.Acceptor.accepted z.1) (g.A.Acceptor.accepted v.acceptor) (g.A.Acceptor.faults z.1)
          (g.A.Acceptor.faults v.acceptor) v.end)
          (λ k. (left k, a k)) (c.staffed-end.ensures.each i d here),
    )

pub returns-in-Ok-open-clause-untouched : goal.returns-in-Ok-open-clause-untouched
returns-in-Ok-open-clause-untouched g c = λ none. let s = c.in-Some.serving in absurd (none s.bounds s.workers s.connections (s.port, c.in-Some.ensures.0))

pub returns-in-Err-clause-done : goal.returns-in-Err-clause-done
returns-in-Err-clause-done g c = λ e unbegun.
    let s = c.in-Some.serving in
    let words = map string_bytes c.args.words.now in
    let why = c.in-Err.field-0.why in
    let before = g.K.Keeper.records c.args.keeper in
    let after = g.K.Keeper.records c.in-Err.field-0.keeper in
    let done = c.write_refusal.ensures.done e in
    let going : ending c.write_refusal.result ≢ GivenUp = λ z. cc (e, z) in
    let known = c.write_refusal.ensures.known going in (
      open_text why,
      subst (λ (status : Status). IsTurnedAway words before after status (open_text why)) (sym done.0)
          (refusal_away words s.bounds s.workers s.connections before after why (s.port, c.in-Some.ensures.0) c.in-Err.ensures.refused known.0 known.1),
      done.1,
    )

pub returns-in-Err-clause-cut : goal.returns-in-Err-clause-cut
returns-in-Err-clause-cut g c = λ e.
    let s = c.in-Some.serving in
    let why = c.in-Err.field-0.why in
    let going : ending c.write_refusal.result ≢ GivenUp = λ z. cc (e, z) in
    let known = c.write_refusal.ensures.known going in (
      BadStore,
      open_text why,
      refusal_away (map string_bytes c.args.words.now) s.bounds s.workers s.connections (g.K.Keeper.records c.args.keeper) (g.K.Keeper.records c.in-Err.field-0.keeper) why
          (s.port, c.in-Some.ensures.0) c.in-Err.ensures.refused known.0 known.1,
      c.write_refusal.ensures.cut e,
    )

pub returns-in-Err-clause-given_up : goal.returns-in-Err-clause-given_up
returns-in-Err-clause-given_up g c = λ e.
    let s = c.in-Some.serving in (
      s.bounds,
      s.workers,
      s.connections,
      (s.port, c.in-Some.ensures.0),
      refusal_left s.bounds (g.K.Keeper.records c.args.keeper) (g.K.Keeper.records c.in-Err.field-0.keeper) c.in-Err.field-0.why c.in-Err.ensures.refused,
      c.write_refusal.ensures.unwritten e,
    )

pub returns-in-Err-clause-untouched : goal.returns-in-Err-clause-untouched
returns-in-Err-clause-untouched g c = λ none. let s = c.in-Some.serving in absurd (none s.bounds s.workers s.connections (s.port, c.in-Some.ensures.0))
