use Rattle.std.proofs.Common.{suc, ◌<◌, sym, subst, arith}
use Rattle.mt_linear.specs.Field.{number_of}
use Rattle.mt_poly.specs.Polynomials.{product_at}
use Rattle.mt_poly.proofs.ListLemmas.{whole, product_past}
use Rattle.mt_poly.proofs.PolynomialBridge.{sum_to_lt}
use Rattle.mt_poly.proofs.lists.product.Goals as goal

pub returns-clause-product : goal.returns-clause-product
returns-clause-product c =
    whole c.loop-n.product.items c.loop-n.n (product_at c.args.order c.args.a.now c.args.b.now) c.loop-n.invariant.size c.loop-n.invariant.done
    (λ k l. product_past c.args.order c.args.a.now c.args.b.now k (omega arith))

pub returns-clause-elements : goal.returns-clause-elements
returns-clause-elements c = λ k. subst (λ x. x < number_of c.args.order) (sym (returns-clause-product c k)) (sum_to_lt c.args.order (suc k) _)
