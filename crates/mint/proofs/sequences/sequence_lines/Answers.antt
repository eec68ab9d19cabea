use Rattle.std.proofs.Common.{◌≡◌, ◌-◌, [], codes, ap, ◌∙◌, arith}
use Rattle.std.proofs.lemmas.Result.{IfOk-weaker}
use Rattle.mt_system.specs.declared.claims.Form.TheVariants.{Seq}
use Rattle.mt_system.specs.Statements.{statement_of}
use Rattle.mt_import.specs.Canonical.{canonical_text}
use Rattle.mint.specs.Run.{IsSequenceText}
use Rattle.mint.proofs.SequenceLemmas.{niederreiter_is_name, sequence_fits}
use Rattle.mint.proofs.sequences.sequence_lines.Goals as goal

pub unreachable-requires : goal.unreachable-requires
unreachable-requires c = absurd (let no = c.in_default.ensures.taken.1 niederreiter_is_name in cc)

pub unreachable-requires-in-None : goal.unreachable-requires-in-None
unreachable-requires-in-None c =
    let fits = sequence_fits c.args.order c.args.m c.args.s c.saturating_sub-strength.result c.in_ok-system.system c.in_ok-system.ensures.rows (omega arith) in
    absurd (let no = c.in-None.ensures.taken.1 fits in cc)

pub returns : goal.returns
returns c =
    let quality = c.in_ok-quality.ensures in
    let strength : c.saturating_sub-strength.result ≡ c.args.m - quality.0 = omega (arith, quality.2) in
    let told : statement_of c.in-Some-new.claim ≡ record { form = Seq; name = codes "niederreiter"; note = []; k = c.args.m - quality.0; system = c.in_ok-system.system } =
    cc (c.in-Some-new.ensures.form, c.in-Some-new.ensures.name, c.in-Some.ensures.value, c.in-Some-new.ensures.note, c.in-Some-new.ensures.strength, strength, c.in-Some-new.ensures.system) in
    IfOk-weaker c.print_import.result _ (λ text. IsSequenceText c.args.order c.args.m c.args.s text.items)
    (λ text e. record { system = c.in_ok-system.system; made = c.in_ok-system.ensures.rows; t = quality.0; quality = quality.1; strength = c.in_ok-system.ensures.strength quality.0 quality.1; output_is = e ∙ ap canonical_text told })
    c.print_import.ensures.text
