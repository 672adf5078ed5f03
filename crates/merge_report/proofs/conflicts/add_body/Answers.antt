use Rattle.std.proofs.Common.{List, ap, codes, string_bytes, sym, ◌∙◌}
use Rattle.merge_units.specs.declared.version.Cell.{Cell}
use Rattle.merge_units.specs.declared.version.Body.{Body}
use Rattle.merge_units.specs.declared.version.Body.TheVariants.{Live}
use Rattle.merge_model.specs.Script.Text.{body_words}
use Rattle.merge_report.specs.Words.{cells_text, spaced_words}
use Rattle.merge_report.proofs.Words.{two_added, words_of_live}
use Rattle.merge_report.proofs.conflicts.add_body.Goals as goal

pub returns-in_ok-add_cells-in-Live : goal.returns-in_ok-add_cells-in-Live
returns-in_ok-add_cells-in-Live c =
    let cells = c.as_slice.result.now in
    let of_cells = ap (λ (cells : List Cell). spaced_words (body_words (Live cells))) c.as_slice.ensures in
    let whole = ap (λ (body : Body). spaced_words (body_words body)) c.in-Live.is ∙ (sym of_cells ∙ words_of_live cells) in
    two_added (string_bytes c.args.text.now) (codes " live") (cells_text cells) c.in_ok-write-in-Live.ensures.bytes c.in_ok-add_cells-in-Live.ensures whole
