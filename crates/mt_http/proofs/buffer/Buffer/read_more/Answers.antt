use Rattle.std.proofs.Common.{◌+◌, take, subst, arith, Ok}
use Rattle.mt_io.specs.declared.Failed.{Failed}
use Rattle.mt_http.specs.Awaiting.{IsRead}
use Rattle.mt_http.specs.Buffers.{Held}
use Rattle.mt_http.proofs.BufferLemmas.{read_is}
use Rattle.mt_http.proofs.buffer.Buffer.read_more.Goals as goal

pub returns-clause-read : goal.returns-clause-read
returns-clause-read g c =
    let inside = c.self.inside in
    let new = c.read_past.new.bytes.items in
    let n = c.in_ok-count.count in
    let before = g.S.Source.left c.args.source.now in
    let after = g.S.Source.left c.read_past.new.source in
    let is : IsRead {E = Failed} (take inside.len inside.bytes.items) before (Ok n) (take (inside.len + n) new) after =
    read_is inside.bytes.items new inside.len n before after c.read_past.ensures.prefix c.in_ok-count.ensures.count (omega (arith, inside.bytes.ok.0))
    c.in_ok-count.ensures.takes in
    subst (λ (b : Held). IsRead {E = Failed} b.bytes before (Ok n) (take (inside.len + n) new) after) c.self.view_is is
