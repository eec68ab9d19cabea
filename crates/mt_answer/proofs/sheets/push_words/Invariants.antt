use Rattle.std.proofs.Common.{◌≡◌, [], ◌++◌, map, take}
use Rattle.csv.specs.Records.{fields_of, partial_of}
use Rattle.mt_answer.proofs.sheets.push_words.Given as goal

abbrev pub invariant-loop-word : goal.invariant-loop-word
invariant-loop-word l = record {
  fields : fields_of l.row ≡ fields_of l.initial.row ++ map (λ f. f.now) (take l.word-index l.words);
  partial : partial_of l.row ≡ [];
}
