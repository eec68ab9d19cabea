use Rattle.std.proofs.Common.{◌≡◌, ◌<◌, ◌∷◌, [], ◌++◌, List, ℕ, length, length-set, map, take, decimal, sym, ap, ◌∙◌, arith, append_assoc}
use Rattle.std.proofs.lemmas.List.{length-take-le, take_more_set, map_push}
use Rattle.std.proofs.lemmas.List.Elements.{All-set}
use Rattle.mt_import.specs.Lines.{words_of}
use Rattle.mt_import.proofs.HeaderLemmas.{next_number}
use Rattle.mt_import.proofs.headers.read_numbers.Goals as goal

pub returns-in_err-word : goal.returns-in_err-word
returns-in_err-word c =
    let numbers = c.loop-i.numbers in
    let i = c.loop-i.i in
    let whole : length (take i numbers) ≡ i = length-take-le i numbers (omega (arith, c.loop-i.invariant.numbers.size)) in
    rw c.from_residual.ensures (λ ns words are e.
    let next = next_number (take i numbers) ns (words_of c.loop-i.rest.now) words (omega (arith, are.size)) are.small (sym c.loop-i.invariant.words ∙ e) in
    let none : words_of c.loop-i.rest.now ≡ [] = c.in_err-word.ensures in
    let some : words_of c.loop-i.rest.now ≡ decimal next.0 ∷ next.2.0 = next.2.1 in
    cc)

pub returns-in_err-numbers : goal.returns-in_err-numbers
returns-in_err-numbers c =
    let numbers = c.loop-i.numbers in
    let i = c.loop-i.i in
    let whole : length (take i numbers) ≡ i = length-take-le i numbers (omega (arith, c.loop-i.invariant.numbers.size)) in
    rw c.from_residual-in_err-numbers.ensures (λ ns words are e.
    let next = next_number (take i numbers) ns (words_of c.loop-i.rest.now) words (omega (arith, are.size)) are.small (sym c.loop-i.invariant.words ∙ e) in
    let first : words_of c.loop-i.rest.now ≡ c.in_ok-word.word.now ∷ words_of c.in_ok-word.behind.now = c.in_ok-word.ensures in
    let some : words_of c.loop-i.rest.now ≡ decimal next.0 ∷ next.2.0 = next.2.1 in
    c.in_err-numbers.ensures next.0 next.1 (cc))

pub loop-i-preserved : goal.loop-i-preserved
loop-i-preserved c =
    let numbers = c.loop-i.numbers in
    let i = c.loop-i.i in
    let n = c.in_ok-numbers.field-0 in
    let are = c.loop-i.invariant.numbers in
    let rest = words_of c.in_ok-word.behind.now in
    let more = take_more_set numbers i n (omega (arith, are.size)) in
    let first : words_of c.loop-i.rest.now ≡ decimal n ∷ rest = c.in_ok-word.ensures ∙ ap (λ (w : List ℕ). w ∷ rest) c.in_ok-numbers.ensures.1 in
    record {
      numbers = record {
        size = length-set numbers i n ∙ are.size;
        small = All-set (λ n. n < 1000) numbers i n c.in_ok-numbers.ensures.0 are.small;
      };
      words = c.loop-i.invariant.words ∙ ap (λ (ws : List (List ℕ)). map decimal (take i numbers) ++ ws) first
          ∙ sym (append_assoc (map decimal (take i numbers)) (decimal n ∷ []) rest)
          ∙ ap (λ (ws : List (List ℕ)). ws ++ rest) (sym (ap (map decimal) more ∙ map_push decimal (take i numbers) n));
    }
