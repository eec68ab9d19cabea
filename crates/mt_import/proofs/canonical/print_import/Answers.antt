use Rattle.std.proofs.Common.{◌≡◌, ℕ, ◌*◌, ◌∷◌, ◌++◌, length, flat_map, decimal, append_assoc, rules, sym, ap, ap₂, ◌∙◌, List}
use Rattle.mt_system.specs.Statements.{statement_of}
use Rattle.mt_system.specs.Forms.{form_word}
use Rattle.mt_import.specs.Headers.{numbers_by}
use Rattle.mt_import.specs.Canonical.{source_text, rows_text, canonical_text, header_of}
use Rattle.mt_import.proofs.CanonicalLemmas.{canonical_is_import, join_with_byte-header}
use Rattle.mt_import.proofs.canonical.print_import.Goals as goal

pub returns : goal.returns
returns c =
    let claim = c.args.claim.now in
    let a = claim.system in
    let n = a.coordinates * a.depth in
    let ns = numbers_by claim.form (header_of (statement_of claim)) in
    let source = source_text claim.note in
    let rows = rows_text a.columns n a.digits in
    let system = c.digits.ensures.system in
    let size : length c.digits.result.now ≡ n * c.m.result = ap length c.digits.ensures.value ∙ system.size ∙ ap (λ m. n * m) (sym c.m.ensures.value) in
    let added : c.push_rows.new.text.items ≡ c.push_source.new.text.items ++ rows =
    c.in_ok-push_rows.ensures n size ∙ ap₂ (λ m (ds : List ℕ). c.push_source.new.text.items ++ rows_text m n ds) c.m.ensures.value c.digits.ensures.value in
    let parts : c.push_rows.new.text.items ≡ (form_word claim.form ++ (flat_map (λ n. 32 ∷ decimal n) ns ++ 32 ∷ claim.name)) ++ 10 ∷ (source ++ rows) = search (rules, append_assoc) in
    let text : c.push_rows.new.text.items ≡ canonical_text (statement_of claim) =
    parts ∙ ap (λ (line : List ℕ). line ++ 10 ∷ (source ++ rows)) (sym (join_with_byte-header (form_word claim.form) ns claim.name)) in
    record {
      text = text;
      reads = canonical_is_import claim c.push_rows.new.text.items (record { name = c.bytes.ensures.form; note = c.push_source.ensures.form; system = system }) text;
    }
