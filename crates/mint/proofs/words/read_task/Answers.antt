use Rattle.std.proofs.Common.{◌≡◌, codes, map, string_bytes, sym, subst}
use Rattle.mint.proofs.WordLemmas.{IsOther, value_is_other, tree_is_other, matrix_is_other, asks_for_none}
use Rattle.mint.proofs.words.read_task.Goals as goal

pub returns-in_err-read_asked-in-value : goal.returns-in_err-read_asked-in-value
returns-in_err-read_asked-in-value c =
    let word : c.in_ok-word.word.now ≡ codes "value" = c.in-value.is in
    rw c.from_residual-in_err-read_asked-in-value.ensures
    (asks_for_none (map string_bytes c.args.words.now) c.in_ok-word.word.now (map string_bytes c.in_ok-word.words.now) c.in_ok-word.ensures c.in_err-read_asked-in-value.ensures
    (subst IsOther (sym word) value_is_other))

pub returns-in_err-read_asked-in-tree : goal.returns-in_err-read_asked-in-tree
returns-in_err-read_asked-in-tree c =
    let word : c.in_ok-word.word.now ≡ codes "tree" = c.in-tree.is in
    rw c.from_residual-in_err-read_asked-in-tree.ensures
    (asks_for_none (map string_bytes c.args.words.now) c.in_ok-word.word.now (map string_bytes c.in_ok-word.words.now) c.in_ok-word.ensures c.in_err-read_asked-in-tree.ensures
    (subst IsOther (sym word) tree_is_other))

pub returns-in_err-read_asked-in-matrix : goal.returns-in_err-read_asked-in-matrix
returns-in_err-read_asked-in-matrix c =
    let word : c.in_ok-word.word.now ≡ codes "matrix" = c.in-matrix.is in
    rw c.from_residual-in_err-read_asked-in-matrix.ensures
    (asks_for_none (map string_bytes c.args.words.now) c.in_ok-word.word.now (map string_bytes c.in_ok-word.words.now) c.in_ok-word.ensures c.in_err-read_asked-in-matrix.ensures
    (subst IsOther (sym word) matrix_is_other))
