-- What is written is the text of the rows.
use Rattle.std.proofs.lemmas.Result.{on_err_weaker, on_ok_weaker}
use Rattle.std.proofs.Common.{List, map, ℕ}
use Rattle.std.specs.Io.KnownBytes.{Appends}
use Rattle.merge_ports.specs.Parts.{AppendsFront}
use Rattle.merge_model.specs.declared.answer.Answer.TheVariants.{Rows as Shows}
use Rattle.merge_world.specs.Views.{SitesView, sites_view}
use Rattle.merge_command.proofs.Showings.{rows-written, shown}
use Rattle.merge_command.proofs.show.show_rows.Goals as goal

pub returns-in-Rows-clause-ok : goal.returns-in-Rows-clause-ok
returns-in-Rows-clause-ok g c = λ place named.
    let v : SitesView = sites_view (g.P.PublisherSite.view c.args.sites.now.publisher) (map g.S.SubscriberSite.view c.args.sites.now.subscribers.items) c.args.sites.now.pool.items c.args.sites.now.moment in
    on_ok_weaker c.write_answer.result (λ more. rows-written v c.args.site place (Shows c.in-Rows.field-0) c.publication.result.now (λ (t : List ℕ). Appends (g.O.Sink.written c.args.output.now) (g.O.Sink.written c.write_answer.new.output) t)
    (shown v c.args.site c.args.article.now place c.requires.known named v c.show_event-answer.result c.in-Rows.field-0 c.in-Rows.is c.show_event-answer.ensures.happened) c.publication.ensures more) c.write_answer.ensures.ok

pub returns-in-Rows-clause-part : goal.returns-in-Rows-clause-part
returns-in-Rows-clause-part g c = λ place named.
    let v : SitesView = sites_view (g.P.PublisherSite.view c.args.sites.now.publisher) (map g.S.SubscriberSite.view c.args.sites.now.subscribers.items) c.args.sites.now.pool.items c.args.sites.now.moment in
    on_err_weaker c.write_answer.result (λ more. rows-written v c.args.site place (Shows c.in-Rows.field-0) c.publication.result.now (λ (t : List ℕ). AppendsFront (g.O.Sink.written c.args.output.now) (g.O.Sink.written c.write_answer.new.output) t)
    (shown v c.args.site c.args.article.now place c.requires.known named v c.show_event-answer.result c.in-Rows.field-0 c.in-Rows.is c.show_event-answer.ensures.happened) c.publication.ensures more) c.write_answer.ensures.part
