use Rattle.std.proofs.Common.{arith}
use Rattle.mt_http.proofs.FieldLemmas.{digit_fits}
use Rattle.mt_http.proofs.fields.digits_value.Goals as goal

pub overflow_mul-value : goal.overflow_mul-value
overflow_mul-value c = omega (arith, digit_fits c.args.text.now c.loop-digit.digit-index c.requires c.loop-digit-test.true)

pub overflow_add-value : goal.overflow_add-value
overflow_add-value c = omega (arith, digit_fits c.args.text.now c.loop-digit.digit-index c.requires c.loop-digit-test.true)

pub loop-digit-preserved : goal.loop-digit-preserved
loop-digit-preserved c = omega (arith, digit_fits c.args.text.now c.loop-digit.digit-index c.requires c.loop-digit-test.true)
