use Rattle.std.proofs.Common.{◌≡◌, ◌∙◌, ap}
use Rattle.mt_server.proofs.DeskLemmas.{outstanding_event, behind_after, published_after, front_after}
use Rattle.mt_server.proofs.history.History.catch_up.Goals as goal

pub publish-requires : goal.publish-requires
publish-requires g c =
    let p = c.self.inside.publisher in
    let s = c.self.inside.service in
    let x = outstanding_event s.bounds p.list s.events _ _ _ _ _ c.in_ok-event.event c.self.invariant.2 c.front-front.ensures.front.1 c.len.ensures c.version-version.ensures
    (ap (λ t. t.events) c.table.ensures) (c.imports.ensures.events ∙ ap (λ t. t.events) c.table-then-len-version.ensures) c.if-len-version.true c.in_ok-event.ensures in
    rw (c.front-front.ensures.same, c.self.invariant.0) x.0

pub invariant_of-self-then-len-version : goal.invariant_of-self-then-len-version
invariant_of-self-then-len-version g c =
    let p = c.self.inside.publisher in
    let s = c.self.inside.service in
    let x = outstanding_event s.bounds p.list s.events _ _ _ _ _ c.in_ok-event.event c.self.invariant.2 c.front-front.ensures.front.1 c.len.ensures c.version-version.ensures
    (ap (λ t. t.events) c.table.ensures) (c.imports.ensures.events ∙ ap (λ t. t.events) c.table-then-len-version.ensures) c.if-len-version.true c.in_ok-event.ensures in
    let one : c.publish.new.self.publication ≡ p.publication = c.publish.ensures.publication ∙ ap (λ q. q.publication) c.front-front.ensures.same in (
      ap (λ q. q.base.bounds) one ∙ c.self.invariant.0,
      ap (λ q. q.base.rules) one ∙ c.self.invariant.1,
      behind_after s.bounds _ p.list s.events c.publish.new.self.list c.in_ok-event.event x.1 (ap (λ q. q.list) c.front-front.ensures.same) c.publish.result c.self.invariant.2 c.publish.ensures.list,
      c.self.invariant.3,
    )

pub returns-then-len-version-clause-front : goal.returns-then-len-version-clause-front
returns-then-len-version-clause-front g c =
    let p = c.self.inside.publisher in
    let s = c.self.inside.service in
    let x = outstanding_event s.bounds p.list s.events _ _ _ _ _ c.in_ok-event.event c.self.invariant.2 c.front-front.ensures.front.1 c.len.ensures c.version-version.ensures
    (ap (λ t. t.events) c.table.ensures) (c.imports.ensures.events ∙ ap (λ t. t.events) c.table-then-len-version.ensures) c.if-len-version.true c.in_ok-event.ensures in
    let one = c.publish.ensures.publication ∙ (ap (λ q. q.publication) c.front-front.ensures.same ∙ ap (λ h. h.publication) c.self.view_is) in
    front_after _ p.list s.events c.publish.new.self.list c.args.self.now.accepted c.in_ok-event.event c.publish.new.self.publication c.args.self.now.publication c.publish.result x.1
    (ap (λ q. q.list) c.front-front.ensures.same) (ap (λ h. h.accepted) c.self.view_is) one c.publish.ensures.list c.publish.ensures.front

pub returns-then-len-version-clause-published : goal.returns-then-len-version-clause-published
returns-then-len-version-clause-published g c =
    let p = c.self.inside.publisher in
    let s = c.self.inside.service in
    let x = outstanding_event s.bounds p.list s.events _ _ _ _ _ c.in_ok-event.event c.self.invariant.2 c.front-front.ensures.front.1 c.len.ensures c.version-version.ensures
    (ap (λ t. t.events) c.table.ensures) (c.imports.ensures.events ∙ ap (λ t. t.events) c.table-then-len-version.ensures) c.if-len-version.true c.in_ok-event.ensures in
    published_after s.bounds _ p.list s.events c.publish.new.self.list c.in_ok-event.event x.1 (ap (λ q. q.list) c.front-front.ensures.same) c.publish.result c.args.self.now.accepted c.args.self.now.published
    (ap (λ h. h.accepted) c.self.view_is) (ap (λ h. h.published) c.self.view_is) c.publish.ensures.list
