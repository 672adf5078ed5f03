use Rattle.std.proofs.Common.{◌≡◌, false, sym, true, ◌∙◌}
use Rattle.merge_sub.proofs.Replies.{acted-commits, reply-broken, reply-commits, reply-drafted}
use Rattle.merge_sub.proofs.subscriber.Subscriber.draft_reply.Goals as goal

pub returns-clause-made : goal.returns-clause-made
returns-clause-made c =
    reply-drafted _ _ c.self.view_is c.args.now c.args.reply.now c.in-Some.seq c.in-Some-outstanding.own c.in-Some-outstanding.sent (sym c.seq.ensures ∙ c.in-Some.is)
    c.in-Some-outstanding.is c.if-own-seq.false c.in_ok-check_reply.ensures.ok c.later-latest.result c.later-latest.ensures c.in_ok-draft.draft.changes c.in_ok-draft.ensures.made

pub returns-clause-none : goal.returns-clause-none
returns-clause-none c = λ quiet.
    let acts = acted-commits c.args.reply.now c.in-Some.seq (sym c.seq.ensures ∙ c.in-Some.is) in
    let no : true ≡ false = sym acts ∙ quiet in
    absurd cc

pub returns-in_err-check_reply-clause-nothing : goal.returns-in_err-check_reply-clause-nothing
returns-in_err-check_reply-clause-nothing c = λ s taken took quiet.
    absurd (reply-broken _ _ c.self.view_is c.args.now c.args.reply.now c.in-Some.seq c.in-Some-outstanding.own c.in-Some-outstanding.sent (sym c.seq.ensures ∙ c.in-Some.is)
    c.in-Some-outstanding.is c.if-own-seq.false _ c.in_err-check_reply.ensures.err s taken took)

pub returns-in_err-draft-clause-nothing : goal.returns-in_err-draft-clause-nothing
returns-in_err-draft-clause-nothing c = λ s taken took quiet.
    let acts = reply-commits _ _ c.self.view_is c.args.now c.args.reply.now c.in-Some.seq c.in-Some-outstanding.own c.in-Some-outstanding.sent (sym c.seq.ensures ∙ c.in-Some.is)
    c.in-Some-outstanding.is c.if-own-seq.false c.in_ok-check_reply.ensures.ok s taken took in
    let no : true ≡ false = sym acts ∙ quiet in
    absurd cc

pub returns-in_err-draft-clause-joined : goal.returns-in_err-draft-clause-joined
returns-in_err-draft-clause-joined c = λ joined is why was. let no : false ≡ true = c.in_err-draft.ensures.joined joined is in absurd cc
