use Rattle.std.proofs.Common.{Err, Ok, ap, ◌∙◌}
use Rattle.merge_model.specs.World.Parts.{letter_in_pool}
use Rattle.merge_world.proofs.Deliveries.{handles, handling-fails, has-no-letter, moves-so, takes-here, takes-nowhere}
use Rattle.merge_world.proofs.world.Sites.deliver_with_room.Goals as goal

pub returns-in-None : goal.returns-in-None
returns-in-None g c = has-no-letter _ c.args.number _ (c.in-None.ensures ∙ ap (λ l. letter_in_pool l c.args.number) c.as_slice.ensures.value)

pub returns-in-Ok : goal.returns-in-Ok
returns-in-Ok g c = moves-so _ _ _ _ _ _ _ _ c.post.ensures.pool c.post.ensures.number
    (handles _ _ _ (g.P.PublisherSite.view c.args.self.now.publisher) (g.P.PublisherSite.view c.handle.new.self) _ _ c.args.number c.in-Some.letter.now _ c.in-Ok.ensures.publication c.in-Ok.ensures.steady (c.in-Some.ensures ∙ ap (λ l. letter_in_pool l c.args.number) c.as_slice.ensures.value) c.in-Asks.is
    c.in-Ok.reply c.in-Ok.ensures.called c.in-Ok.ensures.counted)

pub returns-in-Err : goal.returns-in-Err
returns-in-Err g c = handling-fails _ _ _ (g.P.PublisherSite.view c.args.self.now.publisher) (g.P.PublisherSite.view c.handle.new.self) _ _ c.args.number c.in-Some.letter.now _ c.in-Err.ensures.publication c.in-Err.ensures.steady (c.in-Some.ensures ∙ ap (λ l. letter_in_pool l c.args.number) c.as_slice.ensures.value) c.in-Asks.is
    c.in-Err.refusal c.in-Err.ensures.called c.in-Err.ensures.counted

pub returns-in-None-place_in : goal.returns-in-None-place_in
returns-in-None-place_in g c = takes-nowhere g.S.SubscriberSite.view (g.P.PublisherSite.view c.args.self.now.publisher) _ _ _ c.args.number c.in-Some.letter.now _ _ (c.in-Some.ensures ∙ ap (λ l. letter_in_pool l c.args.number) c.as_slice.ensures.value) c.in-Replies.is c.in-None-place_in.ensures.place

pub returns-in-Ok-take_reply : goal.returns-in-Ok-take_reply
returns-in-Ok-take_reply g c = takes-here g.S.SubscriberSite.view (g.P.PublisherSite.view c.args.self.now.publisher) _ _ _ c.args.number c.in-Some.letter.now _ _ c.in-Some-place_in.place c.index_mut.result.now c.take_reply.new.self c.requires.ordered
    (c.in-Some.ensures ∙ ap (λ l. letter_in_pool l c.args.number) c.as_slice.ensures.value) c.in-Replies.is c.in-Some-place_in.ensures.place c.index_mut.ensures.value
    c.in-Ok-take_reply.ensures.site c.in-Ok-take_reply.ensures.publication (Ok c.in-Ok-take_reply.taken) c.in-Ok-take_reply.ensures.called

pub returns-in-Err-take_reply : goal.returns-in-Err-take_reply
returns-in-Err-take_reply g c = takes-here g.S.SubscriberSite.view (g.P.PublisherSite.view c.args.self.now.publisher) _ _ _ c.args.number c.in-Some.letter.now _ _ c.in-Some-place_in.place c.index_mut.result.now c.take_reply.new.self c.requires.ordered
    (c.in-Some.ensures ∙ ap (λ l. letter_in_pool l c.args.number) c.as_slice.ensures.value) c.in-Replies.is c.in-Some-place_in.ensures.place c.index_mut.ensures.value
    c.in-Err-take_reply.ensures.site c.in-Err-take_reply.ensures.publication (Err c.in-Err-take_reply.refusal) c.in-Err-take_reply.ensures.called
