use Rattle.std.proofs.Common.{◌+◌, true, false, cond, [], ◌∷◌, ◌++◌, take, append-nil, sym, ap, ◌∙◌, rules, arith}
use Rattle.std.proofs.Output.{has_written_append, has_written_of_eq, has_written_to_eq}
use Rattle.std.proofs.lemmas.List.{take_all}
use Rattle.std.proofs.lemmas.Str.{encode_ascii}
use Rattle.text.specs.Fields.{letters_from}
use Rattle.text.proofs.Flags.{letters_more, labels_are}
use Rattle.printing.proofs.labels.LettersDisplay.fmt.Goals as goal
use Rattle.printing.proofs.labels.LettersDisplay.fmt.Goals.{then-there+in_ok-write, else-there}

-- no flag is set: the dash
pub returns-then-not-contains-clause-writes : goal.returns-then-not-contains-clause-writes
returns-then-not-contains-clause-writes g c = λ plain ok.
    has_written_of_eq _ _ _ _ _ (labels_are c.args.self.now.0.now.letters false (sym c.if-not-contains.true ∙ c.contains.ensures.value)) (c.write.ensures.writes plain ok)

-- the letters so far, with the next where its flag is set
pub loop-index-preserved : goal.loop-index-preserved
loop-index-preserved g c = λ plain.
    let flags = c.args.self.now.0.now.letters in
    let i = c.loop-index.index in
    let before = c.loop-index.invariant plain in
    let more = letters_more 97 flags i (omega arith) in
    let so_far = letters_from 97 (take i flags) in
    elim c.if-there.branch [
      | then-there+in_ok-write w ↦
          let ascii = encode_ascii (97 + i) (omega arith) in
          has_written_of_eq _ _ _ _ _ (sym (more ∙ ap (λ flag. so_far ++ cond flag ((97 + i) ∷ []) []) w.if-there.true)) (has_written_append _ _ _ _ _ _ before (search (rules, has_written_to_eq, before, ascii)))
      | else-there w ↦
          has_written_of_eq _ _ _ _ _ (sym (more ∙ ap (λ flag. so_far ++ cond flag ((97 + i) ∷ []) []) w.if-there.false ∙ append-nil so_far)) (has_written_to_eq _ _ _ _ _ w.f-is before)
    ]

-- all letters, and there are some
pub returns-clause-writes : goal.returns-clause-writes
returns-clause-writes g c = λ plain ok.
    let flags = c.args.self.now.0.now.letters in
    has_written_of_eq _ _ _ _ _
    (ap (letters_from 97) (take_all c.loop-index.index flags (omega arith)) ∙ labels_are flags true (sym c.if-not-contains.false ∙ c.contains.ensures.value))
    (c.loop-index.invariant plain)
