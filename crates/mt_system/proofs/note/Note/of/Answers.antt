use Rattle.mt_system.specs.Notes.{IsNote}
use Rattle.mt_system.specs.declared.note.TheConstants.{MOST_NOTE_BYTES}
use Rattle.mt_system.proofs.KeptLemmas.{IsKept-append}
use Rattle.mt_system.proofs.note.Note.of.Goals as goal

pub invariant_of-result : goal.invariant_of-result
invariant_of-result c =
    rw c.copy_from_slice.ensures.after (IsKept-append IsNote MOST_NOTE_BYTES c.args.bytes.now (c.is_note.ensures.0 c.if-not-is_note.false))
