-- The claim of a text that is within the bounds.
use Rattle.std.proofs.Common.{◌≡◌, ℕ, ◌≤◌, List, sym, subst}
use Rattle.mt_system.specs.Statements.{Statement}
use Rattle.mt_import.specs.declared.headers.Header.{Header}
use Rattle.mt_import.specs.Texts.{IsImport}
use Rattle.mt_import.specs.Canonical.{header_of}
use Rattle.mt_cells.specs.declared.bounds.Bounds.{Bounds}
use Rattle.mt_service.specs.Gate.{IsTextWithin}

-- the claim has what the text says
pub read_within : (b : Bounds) (text : List ℕ) (h : Header) (note digits : List ℕ) → IsImport text h note digits → (h.m ≤ b.m_max) × (h.s ≤ b.s_max)
    → (c : Statement) → header_of c ≡ h → c.note ≡ note → c.system.digits ≡ digits → IsTextWithin b text c
read_within b text h note digits import within c header_is note_is digits_are = record {
  text_of =
      subst (λ (x : Header). IsImport text x c.note c.system.digits) (sym header_is)
      (subst (λ (x : List ℕ). IsImport text h x c.system.digits) (sym note_is) (subst (λ (x : List ℕ). IsImport text h note x) (sym digits_are) import));
  columns = subst (λ (x : Header). x.m ≤ b.m_max) (sym header_is) within.0;
  coordinates = subst (λ (x : Header). x.s ≤ b.s_max) (sym header_is) within.1;
}
