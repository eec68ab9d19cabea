use Rattle.std.proofs.Common.{sym, ◌∙◌, subst}
use Rattle.mt_system.specs.Claims.{IsName}
use Rattle.mt_gen.specs.Generated.{name_of}
use Rattle.mt_gen.proofs.NameLemmas.{IsName-name_of}
use Rattle.mt_gen.proofs.claims.claim_name.Goals as goal

pub unwrap-requires : goal.unwrap-requires
unwrap-requires c =
    let is : IsName (name_of c.args.seed c.args.number) = IsName-name_of c.args.seed c.args.number c.ranges.seed.fits c.ranges.number.fits in
    c.of.ensures.taken.1 (subst IsName (sym (c.as_bytes.ensures.value ∙ c.in_ok-text.ensures.ok)) is)
