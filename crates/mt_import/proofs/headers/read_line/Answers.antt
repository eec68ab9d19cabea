use Rattle.std.proofs.Common.{◌≡◌, ◌∷◌, [], ◌++◌, List, ℕ, take, map, decimal, ap, ◌∙◌, sym, ap₂, ◌<◌, ◌≤◌, arith}
use Rattle.std.proofs.lemmas.List.{length-take-le}
use Rattle.std.proofs.lemmas.List.Elements.{All-take}
use Rattle.mt_system.specs.declared.claims.Form.{Form}
use Rattle.mt_system.specs.declared.claims.Form.TheVariants.{Ooa, Net, Seq}
use Rattle.mt_import.specs.Lines.{words_of}
use Rattle.mt_import.specs.HeaderParts.{count_of, AreNumbers}
use Rattle.mt_import.proofs.HeaderLemmas.{IsHeaderOf-line}
use Rattle.mt_import.proofs.headers.read_line.Goals as goal

count_of-le : (f : Form) → count_of f ≤ 5
count_of-le Ooa = omega arith
count_of-le Net = omega arith
count_of-le Seq = omega arith

pub returns : goal.returns
returns c =
    let line = c.args.line.now in
    let form = c.in_ok-form.form in
    let numbers = c.in_ok-numbers.numbers in
    let are : AreNumbers 5 numbers = c.in_ok-numbers.ensures.0 in
    let ns = take (count_of form) numbers in
    let named : words_of c.in_ok-numbers.line.now ≡ c.in_ok-word-2.word.now ∷ [] = c.in_ok-word-2.ensures ∙ ap (λ (ws : List (List ℕ)). c.in_ok-word-2.word.now ∷ ws) c.in-None.ensures in
    let few = count_of-le form in
    IsHeaderOf-line form ns c.in_ok-name.name line (record {
      numbers = record {
        size = length-take-le (count_of form) numbers (omega (arith, are.size));
        small = All-take (λ n. n < 1000) (count_of form) numbers are.small;
      };
      words = c.in_ok-word.ensures
          ∙ ap₂ (λ (w : List ℕ) (ws : List (List ℕ)). w ∷ ws) c.in_ok-form.ensures
          (c.in_ok-numbers.ensures.1
          ∙ ap₂ (λ n (ws : List (List ℕ)). map decimal (take n numbers) ++ ws) c.count_numbers.ensures (named ∙ ap (λ (w : List ℕ). w ∷ []) (sym c.in_ok-name.ensures.value)));
    }) c.header_of.result c.header_of.ensures
