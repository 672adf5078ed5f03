-- Each end of an exchange, by what its calls did.
use Rattle.std.proofs.lemmas.Result.{err_from_is_err_and}
use Rattle.merge_batch.specs.Heads.{kind_of}
use Rattle.merge_world.specs.Messages.{sending_of}
use Rattle.merge_agent.specs.Texts.{request_text}
use Rattle.merge_agent.proofs.Exchanging.{advances, carried-text, made-some, tells-of, turns, uncarried, unmade, unread, untaken, unwritten}
use Rattle.merge_agent.proofs.Passing.{gives-one}
use Rattle.merge_agent.proofs.exchange.exchange.Goals as goal

pub returns-in_err-request-clause-exchanges : goal.returns-in_err-request-clause-exchanges
returns-in_err-request-clause-exchanges g c =
    let p = err_from_is_err_and c.from_residual.result c.from_residual.ensures.1 in
    rw (p.1, p.2)
    (unmade c.args.address.now (sending_of c.args.sending) c.now-made.result (g.S.SubscriberSite.view c.args.site.now) (g.S.SubscriberSite.view c.make_message.new.site) (g.N.Link.coming c.args.link.now) (g.N.Link.exchanges c.args.link.now) (g.N.Link.count c.args.link.now) (g.C.Clock.told c.args.clock.now) (g.C.Clock.told c.now-made.new.self) c.make_message.ensures.publication (gives-one (g.C.Clock.told c.args.clock.now) (g.C.Clock.told c.now-made.new.self) c.now-made.result c.now-made.ensures.moment c.now-made.ensures.later) c.in_err-request.field-0.0 c.in_err-request.ensures.made)

pub returns-in_err-bytes-clause-exchanges : goal.returns-in_err-bytes-clause-exchanges
returns-in_err-bytes-clause-exchanges g c =
    let p = err_from_is_err_and c.from_residual-in_err-bytes.result c.from_residual-in_err-bytes.ensures.1 in
    rw p.1
    (unwritten c.args.address.now (sending_of c.args.sending) c.now-made.result (g.S.SubscriberSite.view c.args.site.now) (g.S.SubscriberSite.view c.make_message.new.site) (g.N.Link.coming c.args.link.now) (g.N.Link.exchanges c.args.link.now) (g.N.Link.count c.args.link.now) (g.C.Clock.told c.args.clock.now) (g.C.Clock.told c.now-made.new.self) c.make_message.ensures.publication (gives-one (g.C.Clock.told c.args.clock.now) (g.C.Clock.told c.now-made.new.self) c.now-made.result c.now-made.ensures.moment c.now-made.ensures.later)
    c.in-Some.request (made-some (sending_of c.args.sending) c.now-made.result (g.S.SubscriberSite.view c.args.site.now) (g.S.SubscriberSite.view c.make_message.new.site) c.in_ok-request.field-0 c.in-Some.request c.in-Some.is c.in_ok-request.ensures.made) p.0 p.2)

pub returns-in_err-response-clause-exchanges : goal.returns-in_err-response-clause-exchanges
returns-in_err-response-clause-exchanges g c =
    let p = err_from_is_err_and c.from_residual-in_err-response.result c.from_residual-in_err-response.ensures.1 in
    rw (p.1, p.2)
    (uncarried c.args.address.now (sending_of c.args.sending) c.now-made.result (g.S.SubscriberSite.view c.args.site.now) (g.S.SubscriberSite.view c.make_message.new.site) (g.N.Link.coming c.args.link.now) (g.N.Link.exchanges c.args.link.now) (g.N.Link.count c.args.link.now) (g.C.Clock.told c.args.clock.now) (g.C.Clock.told c.now-made.new.self) c.make_message.ensures.publication (gives-one (g.C.Clock.told c.args.clock.now) (g.C.Clock.told c.now-made.new.self) c.now-made.result c.now-made.ensures.moment c.now-made.ensures.later)
    c.in-Some.request (made-some (sending_of c.args.sending) c.now-made.result (g.S.SubscriberSite.view c.args.site.now) (g.S.SubscriberSite.view c.make_message.new.site) c.in_ok-request.field-0 c.in-Some.request c.in-Some.is c.in_ok-request.ensures.made)
    (g.N.Link.coming c.ask.new.self) (g.N.Link.exchanges c.ask.new.self) (g.N.Link.count c.ask.new.self) c.in_err-response.field-0.0 c.in_err-response.ensures.waiting c.in_err-response.ensures.same c.in_err-response.ensures.cause)

pub returns-in_err-told-clause-exchanges : goal.returns-in_err-told-clause-exchanges
returns-in_err-told-clause-exchanges g c =
    let p = err_from_is_err_and c.from_residual-in_err-told.result c.from_residual-in_err-told.ensures.1 in
    rw p.1
    (unread c.args.address.now (sending_of c.args.sending) c.now-made.result (g.S.SubscriberSite.view c.args.site.now) (g.S.SubscriberSite.view c.make_message.new.site) (g.N.Link.coming c.args.link.now) (g.N.Link.exchanges c.args.link.now) (g.N.Link.count c.args.link.now) (g.C.Clock.told c.args.clock.now) (g.C.Clock.told c.now-made.new.self) c.make_message.ensures.publication (gives-one (g.C.Clock.told c.args.clock.now) (g.C.Clock.told c.now-made.new.self) c.now-made.result c.now-made.ensures.moment c.now-made.ensures.later)
    c.in-Some.request (made-some (sending_of c.args.sending) c.now-made.result (g.S.SubscriberSite.view c.args.site.now) (g.S.SubscriberSite.view c.make_message.new.site) c.in_ok-request.field-0 c.in-Some.request c.in-Some.is c.in_ok-request.ensures.made)
    c.in_ok-response.response (g.N.Link.coming c.ask.new.self) (g.N.Link.exchanges c.ask.new.self) (g.N.Link.count c.ask.new.self) c.now-now.result (g.C.Clock.told c.now-now.new.self) c.in_ok-response.ensures.response
    (carried-text (g.N.Link.exchanges c.args.link.now) (g.N.Link.exchanges c.ask.new.self) c.as_slice.result.now c.in_ok-bytes.bytes (request_text c.args.address.now c.in-Some.request) c.in_ok-response.response c.in_ok-response.ensures.exchange c.as_slice.ensures c.in_ok-bytes.ensures.text) c.in_ok-response.ensures.cause.later (gives-one (g.C.Clock.told c.now-made.new.self) (g.C.Clock.told c.now-now.new.self) c.now-now.result c.now-now.ensures.moment c.now-now.ensures.later) c.in_ok-bytes.ensures.readable p.0 p.2)

pub returns-in_err-reply-clause-exchanges : goal.returns-in_err-reply-clause-exchanges
returns-in_err-reply-clause-exchanges g c =
    let p = err_from_is_err_and c.from_residual-in_err-reply.result c.from_residual-in_err-reply.ensures.1 in
    rw (p.1, p.2)
    (untaken c.args.address.now (sending_of c.args.sending) c.now-made.result (g.S.SubscriberSite.view c.args.site.now) (g.S.SubscriberSite.view c.make_message.new.site) (g.N.Link.coming c.args.link.now) (g.N.Link.exchanges c.args.link.now) (g.N.Link.count c.args.link.now) (g.C.Clock.told c.args.clock.now) (g.C.Clock.told c.now-made.new.self) c.make_message.ensures.publication (gives-one (g.C.Clock.told c.args.clock.now) (g.C.Clock.told c.now-made.new.self) c.now-made.result c.now-made.ensures.moment c.now-made.ensures.later)
    c.in-Some.request (made-some (sending_of c.args.sending) c.now-made.result (g.S.SubscriberSite.view c.args.site.now) (g.S.SubscriberSite.view c.make_message.new.site) c.in_ok-request.field-0 c.in-Some.request c.in-Some.is c.in_ok-request.ensures.made)
    c.in_ok-response.response (g.N.Link.coming c.ask.new.self) (g.N.Link.exchanges c.ask.new.self) (g.N.Link.count c.ask.new.self) c.now-now.result (g.C.Clock.told c.now-now.new.self) c.in_ok-response.ensures.response
    (carried-text (g.N.Link.exchanges c.args.link.now) (g.N.Link.exchanges c.ask.new.self) c.as_slice.result.now c.in_ok-bytes.bytes (request_text c.args.address.now c.in-Some.request) c.in_ok-response.response c.in_ok-response.ensures.exchange c.as_slice.ensures c.in_ok-bytes.ensures.text) c.in_ok-response.ensures.cause.later (gives-one (g.C.Clock.told c.now-made.new.self) (g.C.Clock.told c.now-now.new.self) c.now-now.result c.now-now.ensures.moment c.now-now.ensures.later) c.in_ok-bytes.ensures.readable
    c.in_ok-told.told (tells-of c.kind.result (kind_of c.in-Some.request) c.as_slice-2.result.now c.in_ok-response.response c.in_ok-told.told c.kind.ensures c.as_slice-2.ensures c.in_ok-told.ensures) (g.S.SubscriberSite.view c.take.new.site) c.take.ensures.publication
    c.in_err-reply.field-0.0 c.in_err-reply.ensures.stepped)

pub returns-clause-advances : goal.returns-clause-advances
returns-clause-advances g c =
    advances c.args.address.now (sending_of c.args.sending) c.now-made.result (g.S.SubscriberSite.view c.args.site.now) (g.S.SubscriberSite.view c.make_message.new.site) (g.N.Link.coming c.args.link.now) (g.N.Link.exchanges c.args.link.now) (g.N.Link.count c.args.link.now) (g.C.Clock.told c.args.clock.now) (g.C.Clock.told c.now-made.new.self) c.make_message.ensures.publication (gives-one (g.C.Clock.told c.args.clock.now) (g.C.Clock.told c.now-made.new.self) c.now-made.result c.now-made.ensures.moment c.now-made.ensures.later)
    c.in-Some.request (made-some (sending_of c.args.sending) c.now-made.result (g.S.SubscriberSite.view c.args.site.now) (g.S.SubscriberSite.view c.make_message.new.site) c.in_ok-request.field-0 c.in-Some.request c.in-Some.is c.in_ok-request.ensures.made)
    c.in_ok-response.response (g.N.Link.coming c.ask.new.self) (g.N.Link.exchanges c.ask.new.self) (g.N.Link.count c.ask.new.self) c.now-now.result (g.C.Clock.told c.now-now.new.self) c.in_ok-response.ensures.response
    (carried-text (g.N.Link.exchanges c.args.link.now) (g.N.Link.exchanges c.ask.new.self) c.as_slice.result.now c.in_ok-bytes.bytes (request_text c.args.address.now c.in-Some.request) c.in_ok-response.response c.in_ok-response.ensures.exchange c.as_slice.ensures c.in_ok-bytes.ensures.text) c.in_ok-response.ensures.cause.later (gives-one (g.C.Clock.told c.now-made.new.self) (g.C.Clock.told c.now-now.new.self) c.now-now.result c.now-now.ensures.moment c.now-now.ensures.later) c.in_ok-bytes.ensures.readable
    c.in_ok-told.told (tells-of c.kind.result (kind_of c.in-Some.request) c.as_slice-2.result.now c.in_ok-response.response c.in_ok-told.told c.kind.ensures c.as_slice-2.ensures c.in_ok-told.ensures) (g.S.SubscriberSite.view c.take.new.site) c.take.ensures.publication
    c.in_ok-reply.reply c.in_ok-reply.ensures.stepped

pub returns-clause-exchanges : goal.returns-clause-exchanges
returns-clause-exchanges g c =
    turns c.args.address.now (sending_of c.args.sending) c.now-made.result (g.S.SubscriberSite.view c.args.site.now) (g.S.SubscriberSite.view c.make_message.new.site) (g.N.Link.coming c.args.link.now) (g.N.Link.exchanges c.args.link.now) (g.N.Link.count c.args.link.now) (g.C.Clock.told c.args.clock.now) (g.C.Clock.told c.now-made.new.self) c.make_message.ensures.publication (gives-one (g.C.Clock.told c.args.clock.now) (g.C.Clock.told c.now-made.new.self) c.now-made.result c.now-made.ensures.moment c.now-made.ensures.later)
    c.in-Some.request (made-some (sending_of c.args.sending) c.now-made.result (g.S.SubscriberSite.view c.args.site.now) (g.S.SubscriberSite.view c.make_message.new.site) c.in_ok-request.field-0 c.in-Some.request c.in-Some.is c.in_ok-request.ensures.made)
    c.in_ok-response.response (g.N.Link.coming c.ask.new.self) (g.N.Link.exchanges c.ask.new.self) (g.N.Link.count c.ask.new.self) c.now-now.result (g.C.Clock.told c.now-now.new.self) c.in_ok-response.ensures.response
    (carried-text (g.N.Link.exchanges c.args.link.now) (g.N.Link.exchanges c.ask.new.self) c.as_slice.result.now c.in_ok-bytes.bytes (request_text c.args.address.now c.in-Some.request) c.in_ok-response.response c.in_ok-response.ensures.exchange c.as_slice.ensures c.in_ok-bytes.ensures.text) c.in_ok-response.ensures.cause.later (gives-one (g.C.Clock.told c.now-made.new.self) (g.C.Clock.told c.now-now.new.self) c.now-now.result c.now-now.ensures.moment c.now-now.ensures.later) c.in_ok-bytes.ensures.readable
    c.in_ok-told.told (tells-of c.kind.result (kind_of c.in-Some.request) c.as_slice-2.result.now c.in_ok-response.response c.in_ok-told.told c.kind.ensures c.as_slice-2.ensures c.in_ok-told.ensures) (g.S.SubscriberSite.view c.take.new.site) c.take.ensures.publication
    c.in_ok-reply.reply c.in_ok-reply.ensures.stepped
