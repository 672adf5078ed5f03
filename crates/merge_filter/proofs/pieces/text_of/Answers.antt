use Rattle.std.proofs.Common.{option_map, sym, ap, ◌∙◌}
use Rattle.std.proofs.lemmas.Result.{IfOk-weaker}
use Rattle.merge_filter.proofs.QuotingLemmas.{quoted_word, no_word}
use Rattle.merge_filter.proofs.pieces.text_of.Goals as goal

pub returns-in-Some : goal.returns-in-Some
returns-in-Some c =
    let e = sym c.in_ok-bytes.ensures ∙ ap (option_map (λ v. v.items)) c.in-Some.is in
    let w = rw c.deref.ensures.value at c.text_word.ensures in
    IfOk-weaker c.text_word.result _ _ (λ o h. quoted_word c.args.piece.now c.in-Some.bytes.items o e h) w

pub returns-in-None : goal.returns-in-None
returns-in-None c =
    let e = sym c.in_ok-bytes.ensures ∙ ap (option_map (λ v. v.items)) c.in-None.is in
    no_word c.args.piece.now e
