use Rattle.std.proofs.Common.{ℕ, ◌+◌, ap, ◌∙◌}
use Rattle.std.proofs.lemmas.List.{take_rest}
use Rattle.mt_http.specs.Bytes.{blank_len}
use Rattle.mt_http.proofs.HeadLemmas.{blank_behind}
use Rattle.mt_http.proofs.heads.blank_len_from.Goals as goal

pub returns : goal.returns
returns c =
    let bytes = c.args.bytes.now in
    ap (λ (n : ℕ). c.args.known + n) (c.blank_len.ensures ∙ ap blank_len (take_rest bytes c.args.known))
    ∙ blank_behind bytes c.args.known c.requires
