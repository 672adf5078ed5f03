use Rattle.std.proofs.Common.{◌≡◌, ◌∙◌, ap, inr}
use Rattle.std.specs.Prelude.{Ok}
use Rattle.std.proofs.lemmas.Result.{IfOk-at_ok}
use Rattle.merge_sub.specs.Drafts.{drafted_if_any}
use Rattle.merge_sub.specs.Held.{tables_of}
use Rattle.merge_site.proofs.subscriber_commit.finish_message.Goals as goal

pub returns-in-Some-clause-called : goal.returns-in-Some-clause-called
returns-in-Some-clause-called g c by out =
    let made = IfOk-at_ok (λ d. by ≡ Ok (drafted_if_any (tables_of c.args.subscriber.now) d)) c.in_ok-worked.was out.done in
    let is = c.in-Some.is in
    c.finish_made.ensures.called by (rw is at made)

pub returns-in-Some-clause-nothing : goal.returns-in-Some-clause-nothing
returns-in-Some-clause-nothing g c = λ why was. inr ((c.in-Some.draft, c.in-Some.message), c.in_ok-worked.was ∙ ap (λ made. Ok made) c.in-Some.is)
