use Rattle.std.proofs.Common.{◌≡◌, ◌≤◌, ◌+◌, List, length, map, sym, ap, ◌∙◌, subst, arith}
use Rattle.std.proofs.lemmas.List.{length-map, length_push, map_push}
use Rattle.mt_system.specs.Statements.{Statement, statement_of}
use Rattle.mt_strength.specs.Statements.{Holds}
use Rattle.mt_strength.specs.Checks.{choices_by}
use Rattle.mt_gen.specs.Generated.{state_after, words_of, IsGenerated, AreGenerated}
use Rattle.mt_gen.proofs.ListLemmas.{end_of, end_of-push, AreGenerated-push, each_has, names_differ}
use Rattle.mt_gen.proofs.DrawnLemmas.{within_bounds, few_of_claim, claim_holds}
use Rattle.mt_gen.proofs.claims.generated.Goals as goal

pub loop-before-preserved : goal.loop-before-preserved
loop-before-preserved c =
    let seed = c.args.seed in let b = c.args.bounds in
    let old = c.loop-before.claims.items in let claim = c.in_ok-next_claim.field-0 in
    let cs : List Statement = map statement_of old in
    let number : c.loop-before.before + 1 ≡ 1 + length cs = omega (arith, length-map old statement_of, c.loop-before.invariant.size) in
    let is : IsGenerated seed b (1 + length cs) (end_of seed cs) (statement_of claim) =
    subst (λ n. IsGenerated seed b n (end_of seed cs) (statement_of claim)) number
    (subst (λ x. IsGenerated seed b (c.loop-before.before + 1) x (statement_of claim)) c.loop-before.invariant.stream c.in_ok-next_claim.ensures.claim) in
    rw c.in_ok-push.ensures.items record {
      size = omega (arith, length_push old claim, c.loop-before.invariant.size);
      claims = subst (AreGenerated seed b 1 seed) (sym (map_push statement_of old claim))
          (AreGenerated-push seed b 1 seed cs (statement_of claim) c.loop-before.invariant.claims is);
      stream = c.in_ok-next_claim.ensures.stream
          ∙ ap (λ x. state_after x (words_of claim.system)) c.loop-before.invariant.stream
          ∙ sym (end_of-push seed cs (statement_of claim)) ∙ ap (end_of seed) (sym (map_push statement_of old claim));
    }

pub returns-clause-hold : goal.returns-clause-hold
returns-clause-hold c =
    each_has Holds c.args.seed c.args.bounds (claim_holds c.args.seed c.args.bounds)
    1 c.args.seed (map statement_of c.loop-before.claims.items) c.loop-before.invariant.claims

pub returns-clause-within : goal.returns-clause-within
returns-clause-within c =
    let b = c.args.bounds in
    each_has (λ d. (d.system.columns ≤ b.m_max) × (d.system.coordinates ≤ b.s_max)) c.args.seed b (λ n x d is. within_bounds b x d.system is.system)
    1 c.args.seed (map statement_of c.loop-before.claims.items) c.loop-before.invariant.claims

pub returns-clause-names : goal.returns-clause-names
returns-clause-names c =
    let items = c.loop-before.claims.items in
    names_differ c.args.seed c.args.bounds 1 c.args.seed (map statement_of items)
    (omega (arith, length-map items statement_of, c.loop-before.invariant.size, c.ranges.count.fits, c.loop-before.auto.before-end)) c.loop-before.invariant.claims

pub returns-clause-choices : goal.returns-clause-choices
returns-clause-choices c =
    each_has (λ d. choices_by d.form d.system d.k ≤ 3003) c.args.seed c.args.bounds (few_of_claim c.args.seed c.args.bounds)
    1 c.args.seed (map statement_of c.loop-before.claims.items) c.loop-before.invariant.claims
