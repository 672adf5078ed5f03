-- The sites were started for the publication, and nothing was counted.
use Rattle.std.proofs.Common.{inr, refl, ◌∙◌}
use Rattle.merge_program.specs.Stores.{at_no_path}
use Rattle.merge_program.proofs.Plays.{empty-of, ends-of, part-of, unstarted-ends, unstarted-of}
use Rattle.merge_program.proofs.Untold.{own-publication, own-publisher, own-subscribers, own-valid}
use Rattle.merge_program.proofs.play.play_publication.Goals as goal

pub play_started-requires-clause-publisher : goal.play_started-requires-clause-publisher
play_started-requires-clause-publisher g c = own-publisher c.args.publication.now c.in-Ok.started.0 c.in-Ok.ensures.publisher

pub play_started-requires-clause-subscribers : goal.play_started-requires-clause-subscribers
play_started-requires-clause-subscribers g c = own-subscribers c.args.publication.now c.in-Ok.started.0 c.in-Ok.ensures.publisher c.in-Ok.started.1.items c.in-Ok.ensures.subscribers

pub play_started-requires-clause-valid : goal.play_started-requires-clause-valid
play_started-requires-clause-valid g c = own-valid c.args.publication.now c.in-Ok.started.0 c.in-Ok.ensures.publisher c.requires.valid

pub returns-in-Ok-clause-part : goal.returns-in-Ok-clause-part
returns-in-Ok-clause-part g c = inr (part-of _ _ (own-publication c.args.publication.now c.in-Ok.started.0 c.in-Ok.ensures.publisher) _ _ c.in-Ok.ensures.kept _ _ _ _ _ c.play_started.ensures.part)

pub returns-in-Ok-clause-ends : goal.returns-in-Ok-clause-ends
returns-in-Ok-clause-ends g c =
    let same = own-publication c.args.publication.now c.in-Ok.started.0 c.in-Ok.ensures.publisher in
    ends-of c.play_started.result _ _ same _ _ c.in-Ok.ensures.kept _ c.no_path-path.ensures _ _ _ _ _ (at_no_path (g.E.Outside.told c.args.outside.now)) (g.E.Outside.told c.play_started.new.outside) _ _
    (c.play_started.ensures.ends (at_no_path (g.E.Outside.told c.args.outside.now)) (empty-of _ _ same _ c.no_path-path.ensures (g.E.Outside.told c.args.outside.now) c.in-Ok.ensures.empty))

pub returns-clause-ends : goal.returns-clause-ends
returns-clause-ends g c =
    unstarted-ends _ _ _ _ _ _ _ (at_no_path (g.E.Outside.told c.args.outside.now)) (at_no_path (g.E.Outside.told c.start.new.outside)) _ _ c.in-Err.ending
    (unstarted-of c.args.publication.now c.args.publication.now refl _ c.no_path-path.ensures (g.E.Outside.told c.args.outside.now) c.in-Err.ending _ _ c.in-Err.ensures.ends) refl

pub returns-in-Ok-clause-others : goal.returns-in-Ok-clause-others
returns-in-Ok-clause-others g c = λ s p other.
    c.play_started.ensures.others s p (λ is. other (is ∙ c.no_path-path.ensures)) ∙ c.in-Ok.ensures.others s p (λ is. other (is ∙ c.no_path-path.ensures))

pub returns-clause-others : goal.returns-clause-others
returns-clause-others g c = λ s p other. c.in-Err.ensures.others s p (λ is. other (is ∙ c.no_path-path.ensures))
