use Rattle.std.proofs.Common.{◌≡◌, false, subst, sym, true, ◌∙◌}
use Rattle.std.specs.Prelude.{Ok}
use Rattle.merge_model.specs.Judge.ByNumbers.{by_rows}
use Rattle.merge_model.specs.World.Calls.{reply_commits}
use Rattle.merge_model.specs.Subscriber.Taking.{take_reply}
use Rattle.merge_model.specs.declared.outcome.Taken.{Taken}
use Rattle.merge_sub.specs.Held.{tables_of}
use Rattle.merge_world.specs.Views.{SubscriberView}
use Rattle.merge_site.proofs.SubscriberCalls.{reply-made, sub-called, taken-same}
use Rattle.merge_site.proofs.subscriber.KeptSubscriber.take_reply.Goals as goal

pub returns-in-Some-clause-called : goal.returns-in-Some-clause-called
returns-in-Some-clause-called g c =
    let made = reply-made _ (tables_of c.self.inside.subscriber) c.in_ok-draft.draft c.in-Some.draft c.in_ok-draft.taken c.in-Some.is c.in_ok-draft.ensures.made in
    sub-called _ c.self.inside.subscriber c.draft_reply.new.self c.finish.new.subscriber (g.K.Keeper.count c.self.inside.keeper) (g.K.Keeper.count c.finish.new.keeper) c.self.view_is c.draft_reply.ensures.same (λ publication s. take_reply publication (by_rows s) c.args.now c.args.reply.now s) (λ s taken. reply_commits c.args.reply.now taken) c.reply_commits-acts.result (Ok (c.in-Some.draft, c.in_ok-draft.taken)) c.finish.result made (λ why no. absurd cc) c.finish.ensures.called
    (λ acts. sym c.reply_commits-acts.ensures ∙ acts)

-- a reply that changes no record takes no memory
pub returns-in_err-draft-clause-nothing : goal.returns-in_err-draft-clause-nothing
returns-in_err-draft-clause-nothing g c = λ s done took quiet.
    let here = subst (λ (v : SubscriberView). take_reply v.publication (by_rows v.tables) c.args.now c.args.reply.now v.tables ≡ Ok (s, done)) (sym c.self.view_is) took in
    let no : false ≡ true = c.in_err-draft.ensures.nothing s done here quiet in
    absurd cc

pub returns-in-Some-clause-nothing : goal.returns-in-Some-clause-nothing
returns-in-Some-clause-nothing g c = λ s done took quiet.
    let here = subst (λ (v : SubscriberView). take_reply v.publication (by_rows v.tables) c.args.now c.args.reply.now v.tables ≡ Ok (s, done)) (sym c.self.view_is) took in
    let same = taken-same _ s _ done c.in_ok-draft.taken here c.in_ok-draft.ensures.made in
    let none = c.in_ok-draft.ensures.none (subst (λ (t : Taken). reply_commits c.args.reply.now t ≡ false) same quiet) in
    let is = c.in-Some.is in
    absurd cc
