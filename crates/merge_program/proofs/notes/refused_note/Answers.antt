-- The words are those of the fault, behind its number.
use Rattle.std.proofs.Common.{Option, [], ap, append_assoc, codes, string_bytes, subst, unwrap_or, ℕ, ◌++◌, ◌∙◌, ◌∷◌, ◌≡◌}
use Rattle.std.specs.Fmt.{decimal}
use Rattle.merge_schema.specs.Faults.{number_of, words_of}
use Rattle.merge_program.proofs.notes.refused_note.Goals as goal

pub returns : goal.returns
returns c =
    let number : c.unwrap_or-number.result ≡ unwrap_or (number_of c.args.fault.now) 0 = c.unwrap_or-number.ensures ∙ ap (λ (o : Option ℕ). unwrap_or o 0) c.number.ensures in
    subst (λ (n : ℕ). string_bytes c.in_ok-format.field-0 ≡ codes "publication refused: " ++ decimal n ++ 32 ∷ words_of c.args.fault.now ++ 10 ∷ []) number (simp append_assoc (c.in_ok-format.ensures.ok))
