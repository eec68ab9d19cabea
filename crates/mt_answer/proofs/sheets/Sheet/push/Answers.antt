use Rattle.std.proofs.Common.{◌≡◌, ◌++◌, map, OnOk, subst, arith}
use Rattle.mt_answer.proofs.FieldLemmas.{numbers_plain, fields_row}
use Rattle.mt_answer.proofs.sheets.Sheet.push.Goals as goal

pub returns : goal.returns
returns c =
    let row = fields_row (map (λ f. f.now) c.args.words.now) c.args.numbers.now c.requires.plain (numbers_plain c.args.numbers.now (λ i. omega (arith, c.type_inv.numbers i))) c.requires.some in
    subst (λ z. OnOk c.push_row.result (c.push_row.new.self ≡ c.args.self.now ++ z)) row c.push_row.ensures
