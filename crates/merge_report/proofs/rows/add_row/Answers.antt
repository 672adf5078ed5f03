use Rattle.std.proofs.Common.{ℕ, List, [], ◌∷◌, ◌++◌, ap, sym, ◌∙◌, string_bytes}
use Rattle.std.specs.List.{flat_map}
use Rattle.merge_types.specs.Rows.{row_text}
use Rattle.merge_types.specs.declared.values.Value.{Value}
use Rattle.merge_report.specs.Words.{value_word}
use Rattle.merge_report.proofs.Words.{line_of_row, three_added}
use Rattle.merge_report.proofs.rows.add_row.Goals as goal

pub returns : goal.returns
returns c =
    let row = c.args.row.now in
    let values = c.as_slice.result.now in
    let identifier = c.in_ok-write.ensures.bytes ∙ ap (λ (word : List ℕ). string_bytes c.args.text.now ++ word) c.in_ok-text.ensures.text in
    let whole = line_of_row row ∙ sym (ap (λ (values : List Value). row_text row.row.0 ++ (flat_map value_word values ++ 10 ∷ [])) c.as_slice.ensures) in
    three_added (string_bytes c.args.text.now) (row_text row.row.0) (flat_map value_word values) (10 ∷ []) identifier c.in_ok-add_values.ensures c.in_ok-writeln.ensures.bytes whole
