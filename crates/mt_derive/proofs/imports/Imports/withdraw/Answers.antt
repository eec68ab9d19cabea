use Rattle.std.proofs.Common.{false, ◌-◌, sym, subst, arith}
use Rattle.std.proofs.lemmas.List.{length-set}
use Rattle.mt_derive.specs.declared.events.Event.TheVariants.{Withdraw}
use Rattle.mt_derive.specs.Events.{IsLive}
use Rattle.mt_derive.specs.Imports.{ImportList}
use Rattle.mt_derive.proofs.EventLemmas.{follow_push, flags_withdraw, events_room}
use Rattle.mt_derive.proofs.imports.Imports.withdraw.Goals as goal

pub push_reserved-requires : goal.push_reserved-requires
push_reserved-requires c =
    let live : IsLive c.self.inside.events.items c.args.n = subst (λ (v : ImportList). IsLive v.events c.args.n) (sym c.self.view_is) c.requires in
    omega (arith, events_room c.self.inside.events.items c.self.inside.live.items c.args.n c.self.invariant.1 live, c.self.invariant.2, c.self.invariant.3)

pub invariant_of-self : goal.invariant_of-self
invariant_of-self c =
    let live : IsLive c.self.inside.events.items c.args.n = subst (λ (v : ImportList). IsLive v.events c.args.n) (sym c.self.view_is) c.requires in
    rw c.push_reserved.ensures.items (
      follow_push c.self.inside.bounds c.self.inside.events.items (Withdraw c.args.n) c.self.invariant.0 live,
      flags_withdraw c.self.inside.events.items c.self.inside.live.items c.args.n c.self.invariant.1 live,
      omega (arith, length-set c.self.inside.live.items (c.args.n - 1) false, c.self.invariant.2),
      omega (arith, c.push_reserved.ensures.capacity, c.self.invariant.3),
      c.self.invariant.4,
      c.self.invariant.5,
    )
