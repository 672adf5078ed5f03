use Rattle.std.proofs.Common.{[], ◌∷◌, ◌++◌, refl, string_bytes}
use Rattle.merge_model.specs.Script.Play.{names_of}
use Rattle.merge_model.specs.Script.Text.{body_words, joined_words}
use Rattle.merge_report.specs.Words.{lost_words, reason_words, spaced_words}
use Rattle.merge_report.proofs.Words.{line_of_conflict, three_added, two_added}
use Rattle.merge_report.proofs.conflicts.add_conflict.Goals as goal

pub returns : goal.returns
returns c =
    let row = c.args.row.now in
    let names = names_of c.args.publication.now in
    let lost = joined_words (lost_words names row) in
    let reason = spaced_words (reason_words row) in
    let before = two_added (string_bytes c.args.text.now) lost reason c.in_ok-add_lost_row.ensures c.in_ok-add_reason.ensures refl in
    three_added (string_bytes c.args.text.now) (lost ++ reason) (spaced_words (body_words row.losing.body)) (10 ∷ []) before c.in_ok-add_body.ensures c.in_ok-writeln.ensures.bytes (line_of_conflict names row)
