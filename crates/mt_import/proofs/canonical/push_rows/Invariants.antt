use Rattle.std.proofs.Common.{◌≡◌, ℕ, ◌*◌, ◌<◌, ◌++◌, length, All}
use Rattle.std.specs.Slice.Iter.{chunks_rest, chunks_size}
use Rattle.mt_import.specs.Canonical.{rows_text}
use Rattle.mt_import.proofs.canonical.push_rows.Given as goal

abbrev pub invariant-loop-row : goal.invariant-loop-row
invariant-loop-row l = record {
  next : goal.iterator-loop-row.can_next l.row-iterator;
  finite : goal.iterator-loop-row.is_finite l.row-iterator;
  columns : chunks_size l.row-iterator ≡ l.m;
  small : All (λ d. d < 10) (chunks_rest l.row-iterator);
  printed : (n : ℕ) → length l.digits ≡ n * l.m → (left : ℕ)
      × (length (chunks_rest l.row-iterator) ≡ left * l.m)
      × (l.text.items ++ rows_text l.m left (chunks_rest l.row-iterator) ≡ l.initial.text.items ++ rows_text l.m n l.digits);
}
