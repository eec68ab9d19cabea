use Rattle.mt_service.proofs.BodyLemmas.{reads_name}
use Rattle.mt_service.proofs.bodies.name_text.Goals as goal

pub unwrap-requires : goal.unwrap-requires
unwrap-requires c = reads_name c.from_utf8.result _ _ _ _ c.bytes.ensures.form c.bytes.ensures.value c.from_utf8.ensures.cases
