use Rattle.std.proofs.Common.{◌≡◌, ◌-◌, length, ap, subst, arith}
use Rattle.mt_derive.specs.declared.events.Event.TheVariants.{Import, Withdraw}
use Rattle.mt_derive.specs.Imports.{ImportList}
use Rattle.mt_derive.specs.Places.{IsAt}
use Rattle.mt_derive.proofs.EventLemmas.{event_here}
use Rattle.mt_derive.proofs.imports.Imports.event_of.Goals as goal

pub returns-in_ok-fresh-in-Import : goal.returns-in_ok-fresh-in-Import
returns-in_ok-fresh-in-Import c =
    let E = c.self.inside.events.items in
    let is : E ≡ c.args.self.now.events = ap (λ (v : ImportList). v.events) c.self.view_is in
    let at : IsAt E (c.args.n - 1) (Import c.in-Import.entry) = event_here E (c.args.n - 1) c.index.result.now _ (omega (arith, ap length is, c.requires.from, c.requires.to)) c.index.ensures c.in-Import.is in
    subst (λ F. IsAt F (c.args.n - 1) (Import c.in_ok-fresh-in-Import.field-0)) is (rw (c.in_ok-fresh-in-Import.ensures, c.claim.ensures.value) at)

pub returns-in-Withdraw : goal.returns-in-Withdraw
returns-in-Withdraw c =
    let E = c.self.inside.events.items in
    let is : E ≡ c.args.self.now.events = ap (λ (v : ImportList). v.events) c.self.view_is in
    let at : IsAt E (c.args.n - 1) (Withdraw c.in-Withdraw.number) = event_here E (c.args.n - 1) c.index.result.now _ (omega (arith, ap length is, c.requires.from, c.requires.to)) c.index.ensures c.in-Withdraw.is in
    subst (λ F. IsAt F (c.args.n - 1) (Withdraw c.in-Withdraw.number)) is at
