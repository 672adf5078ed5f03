use Rattle.std.proofs.Common.{length, refl, rules, sym, ◌∙◌, ◌≡◌}
use Rattle.std.proofs.lemmas.List.{length-map}
use Rattle.merge_program.proofs.Ends.{played-ends, played-part, refused-by, short-script}
use Rattle.merge_program.proofs.play.play_input.Goals as goal

pub play_publication-requires-clause-short : goal.play_publication-requires-clause-short
play_publication-requires-clause-short g c = short-script _ _ c.cut_input.ensures.script _ c.requires

pub returns-in-Ok-clause-ends : goal.returns-in-Ok-clause-ends
returns-in-Ok-clause-ends g c =
    let counted : c.len.result ≡ length c.args.resolvers.now.items = search rules in
    played-ends _ _ _ c.requires _ (counted ∙ sym (length-map _ _)) _ c.cut_input.ensures.publication _ c.in-Ok.ensures.answer _ c.cut_input.ensures.script _ _ _ _ _ c.play_publication.ensures.ends

pub returns-in-Ok-clause-part : goal.returns-in-Ok-clause-part
returns-in-Ok-clause-part g c =
    let counted : c.len.result ≡ length c.args.resolvers.now.items = search rules in
    played-part _ _ _ c.requires _ (counted ∙ sym (length-map _ _)) _ c.cut_input.ensures.publication _ c.in-Ok.ensures.answer _ c.cut_input.ensures.script c.play_publication.ensures.part

pub returns-in-Err-clause-ends : goal.returns-in-Err-clause-ends
returns-in-Err-clause-ends g c =
    let counted : c.len.result ≡ length c.args.resolvers.now.items = search rules in
    refused-by _ _ _ _ _ _ _ c.requires _ _ c.refused.ensures _ (counted ∙ sym (length-map _ _)) _ c.cut_input.ensures.publication c.in-Err.ensures.answer

pub returns-in-Ok-clause-others : goal.returns-in-Ok-clause-others
returns-in-Ok-clause-others g c = c.play_publication.ensures.others

pub returns-in-Err-clause-others : goal.returns-in-Err-clause-others
returns-in-Err-clause-others g c = λ s p other. refl
