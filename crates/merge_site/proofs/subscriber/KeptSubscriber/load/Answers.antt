use Rattle.std.proofs.Common.{◌≡◌, ◌∙◌, Ok, ap, inl, refl}
use Rattle.std.proofs.lemmas.Result.{IfErr-weaker}
use Rattle.merge_keeper.specs.SubscriberStart.{subscriber_loaded}
use Rattle.merge_model.specs.Publisher.{new_holders}
use Rattle.merge_model.specs.Tables.{SubscriberTables}
use Rattle.merge_world.specs.Views.{SubscriberView}
use Rattle.merge_site.specs.Kept.{IsKept}
use Rattle.merge_site.specs.Loading.{IsRead}
use Rattle.merge_site.specs.Subscribers.{records_of, stored_tables, subscriber_stored}
use Rattle.merge_site.proofs.Called.{ok-same}
use Rattle.merge_site.proofs.SubscriberStarted.{started}
use Rattle.merge_site.proofs.subscriber.KeptSubscriber.load.Goals as goal

pub resume-requires-clause-stands : goal.resume-requires-clause-stands
resume-requires-clause-stands g c =
    let s = started c.args.publication c.requires c.args.site c.number_fits.ensures _ c.in-Ok.tables c.in-Ok.ensures.ok (stored_tables c.in-Ok.tables) refl in
    s.stands

pub resume-requires-clause-kept : goal.resume-requires-clause-kept
resume-requires-clause-kept g c =
    let s = started c.args.publication c.requires c.args.site c.number_fits.ensures _ c.in-Ok.tables c.in-Ok.ensures.ok (stored_tables c.in-Ok.tables) refl in
    rw c.load_subscriber.ensures.same s.kept

pub returns-in-Ok-clause-tables : goal.returns-in-Ok-clause-tables
returns-in-Ok-clause-tables g c =
    ok-same (λ (s : SubscriberView). s.tables) (λ (t : SubscriberTables). IsRead (subscriber_loaded c.args.publication c.args.site (new_holders c.args.publication)) (g.K.Keeper.told c.args.keeper) (Ok (subscriber_stored t))) c.resume.result (stored_tables c.in-Ok.tables) c.in-Ok.ensures.ok c.resume.ensures.tables

pub returns-in-Ok-clause-kept : goal.returns-in-Ok-clause-kept
returns-in-Ok-clause-kept g c =
    let s = started c.args.publication c.requires c.args.site c.number_fits.ensures _ c.in-Ok.tables c.in-Ok.ensures.ok (stored_tables c.in-Ok.tables) refl in
    ok-same (λ (s : SubscriberView). s.tables) (λ (t : SubscriberTables). IsKept (records_of t) (g.K.Keeper.told c.args.keeper)) c.resume.result (stored_tables c.in-Ok.tables) s.kept.kept c.resume.ensures.tables

pub returns-in-Ok-clause-site : goal.returns-in-Ok-clause-site
returns-in-Ok-clause-site g c =
    let s = started c.args.publication c.requires c.args.site c.number_fits.ensures _ c.in-Ok.tables c.in-Ok.ensures.ok (stored_tables c.in-Ok.tables) refl in
    ok-same (λ (s : SubscriberView). s.tables) (λ (t : SubscriberTables). t.site ≡ c.args.site) c.resume.result (stored_tables c.in-Ok.tables) s.own c.resume.ensures.tables

-- a keeper that is given back counts what it counted before
pub returns-in-Ok-clause-err : goal.returns-in-Ok-clause-err
returns-in-Ok-clause-err g c = IfErr-weaker c.resume.result _ _ (λ n back. inl (inl (back.0, ap g.K.Keeper.count back.1 ∙ c.in-Ok.ensures.count))) c.resume.ensures.err
