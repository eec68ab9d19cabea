use Rattle.std.proofs.Common.{[], ◌∷◌, decimal}
use Rattle.std.proofs.lemmas.Result.{on_ok_weaker}
use Rattle.mt_answer.proofs.tables.push_values.Goals as goal

pub returns : goal.returns
returns c =
    let fields = decimal c.args.s ∷ decimal c.value-net_k.result ∷ decimal c.saturating_sub-net_t.result ∷ decimal c.value-oa_k.result ∷ decimal c.saturating_sub-seq_t.result ∷ [] in
    on_ok_weaker c.push.result (λ e. (
      fields,
      record {
        net_k = c.value-net_k.result;
        net = c.value-net_k.ensures;
        oa_k = c.value-oa_k.result;
        oa = c.value-oa_k.ensures;
        seq_k = c.value-seq_k.result;
        seq = c.value-seq_k.ensures;
        fields_are = cc (c.saturating_sub-net_t.ensures, c.saturating_sub-seq_t.ensures);
      },
      e,
    ))
    c.push.ensures
