use Rattle.std.proofs.Common.{◌≤◌, length, arith, Err, subst, sym}
use Rattle.merge_filter.specs.declared.fault.FilterFault.{FilterFault}
use Rattle.merge_filter.specs.Form.{many}
use Rattle.merge_filter.proofs.UniqueAnswers.{IsAnswerOr, words_answer, token_answer, no_other}
use Rattle.merge_filter.proofs.parsing.parse.Goals as goal

pub returns-in-Ok-clause-only : goal.returns-in-Ok-clause-only
returns-in-Ok-clause-only c =
    let columns = c.args.columns.now in
    let text = c.args.text.now in
    let fits : length text ≤ many = omega arith in
    no_other columns text c.filter_of.result fits (words_answer columns text c.in-Ok.tokens.words.items c.in-Ok.tokens.places.items c.filter_of.result c.in-Ok.ensures.ok c.filter_of.ensures.answer)

pub returns-in-Err-clause-only : goal.returns-in-Err-clause-only
returns-in-Err-clause-only c =
    let columns = c.args.columns.now in
    let text = c.args.text.now in
    let fits : length text ≤ many = omega arith in
    no_other columns text (Err c.token_fault.result) fits
    (subst (λ (f : FilterFault). IsAnswerOr columns text (Err f)) (sym c.token_fault.ensures) (token_answer columns text c.in-Err.fault c.in-Err.ensures.err))
