-- What a reply to a download removes fits: the row was made, so its article exists, and by no change of the site that it did not make.
use Rattle.std.specs.List.{AllByRecursion, list_all}
use Rattle.std.specs.Prelude.{Bool, None, Option, Some, false, is_some, refl, true, ℕ, ◌&&◌, ◌==◌, ◌≡◌, ◌≤◌}
use Rattle.std.proofs.Common.{ap, arith, subst, sym, ◌∙◌}
use Rattle.std.proofs.lemmas.Bool.Decides.{nat_tests}
use Rattle.merge_types.specs.declared.identifiers.Dot.{Dot}
use Rattle.merge_types.specs.declared.identifiers.SiteId.{SiteId}
use Rattle.merge_types.specs.declared.row_key.RowKey.{RowKey as Key}
use Rattle.merge_schema.specs.declared.publication.Publication.{Publication}
use Rattle.merge_batch.specs.Articles.{has_article}
use Rattle.merge_batch.specs.Makers.{maker_of}
use Rattle.merge_batch.specs.Replies.{maker_fits, was_made}
use Rattle.merge_batch.specs.declared.reply.Act.{Act as Order}
use Rattle.merge_batch.specs.declared.reply.Act.TheVariants as order
use Rattle.merge_batch.specs.declared.reply.DownloadItem.{DownloadItem}
use Rattle.merge_batch.specs.declared.reply.Downloaded.{Downloaded}
use Rattle.merge_batch.specs.declared.reply.Reply.TheVariants as reply
use Rattle.merge_model.specs.World.Faults.{standing_of}
use Rattle.merge_model.specs.Tables.Keys.{at_number}
use Rattle.merge_model.specs.History.Model.{Model}
use Rattle.merge_model.specs.Failing.Runs.{model_behind}
use Rattle.merge_model.specs.Tables.{SubscriberTables}
use Rattle.merge_model.specs.Subscriber.Taking.{key_of_download}
use Rattle.merge_model.specs.declared.letter.Letter.{Letter}
use Rattle.merge_model.specs.declared.letter.Message.TheVariants.{Replies}
use Rattle.merge_model.proofs.Lists.Finding.{all-weaker, pool-at}
use Rattle.merge_laws.specs.Facts.Knowledge.{changes_of, is_made}
use Rattle.merge_laws.specs.Laws.{OfEveryValidRun}
use Rattle.merge_laws.proofs.Makers.MakerChanges.{made-below}
use Rattle.merge_laws.proofs.Told.ToldSites.{Every}
use Rattle.merge_owed.proofs.VersionKept.{holds-always}
use Rattle.merge_honest.specs.Replied.{IsReply, RemovalsFit, removal_fits}
use Rattle.merge_honest.proofs.ArticlesExist.{AllExist, exist-always}
use Rattle.merge_honest.proofs.ItemFacts.{was-made}
use Rattle.merge_honest.proofs.KnownItems.{all-true}
use Rattle.merge_honest.proofs.MadeKeys.{ItemsMade, KeyIsMade, MadeKeys, keys-always}
use Rattle.merge_honest.proofs.Named.{HasMaker, IsCarried}
use Rattle.merge_honest.proofs.NumberRules.{counted-low}
use Rattle.merge_honest.proofs.PutRows.{counted-here, own-made}
use Rattle.merge_honest.proofs.RowRules.{found-exists}
use Rattle.merge_honest.proofs.RowsFit.{AllTook, IsRight, right-goes_on}
use Rattle.merge_honest.proofs.Rules.{Known, known-always}
use Rattle.merge_honest.proofs.TookValues.{took-always}

module _ (publication : Publication) (m : Model) (k : Known publication m) (exist : AllExist publication m.history.made) (rights : Every (IsRight publication m.history.made) m.world m.history) (took : AllTook publication m.history.made) where
  made-low : (key : Key) (dot : Dot) → is_made m.history.made key dot ≡ true → dot.number ≤ changes_of m.world dot.site.0
  made-low key dot is = made-below (changes_of m.world) m.history key dot k.whole.0.0.known.numbered is

  pub made-carried : (key : Key) (dot : Dot) → is_made m.history.made key dot ≡ true → IsCarried dot
  made-carried key dot is =
      let was = was-made publication m k key dot is in
      let up = made-low key dot is in
      let limit = counted-low publication m k dot.site.0 in
      record { site = (let low = was.low in omega (arith, low)); from_one = was.numbered; fits = omega (arith, up, limit) }

  maker-by : (s : SubscriberTables) → changes_of m.world s.site.0 ≡ s.changes → (key : Key) (found : Option Dot) → maker_of key.row.0 ≡ found → ((maker : Dot) → maker_of key.row.0 ≡ Some maker → is_made m.history.made key maker ≡ true) → maker_fits (standing_of s) found ≡ true
  maker-by s counted key None is made = refl
  maker-by s counted key (Some maker) is made = own-made publication m k s counted maker (maker.site.0 == s.site.0) refl (made-low key maker (made maker is))

  removal-by : (s : SubscriberTables) → changes_of m.world s.site.0 ≡ s.changes → (item : DownloadItem) (act : Order) → KeyIsMade m.history.made (key_of_download item) → removal_fits publication (standing_of s) item.article item.row.0 act ≡ true
  removal-by s counted item act is = by-act act
    where
      both : HasMaker (key_of_download item) × ((maker : Dot) → maker_of item.row.0 ≡ Some maker → is_made m.history.made (key_of_download item) maker ≡ true)
      both = is (made-carried (key_of_download item))

      exists : has_article publication item.article ≡ true
      exists = found-exists publication m k exist rights took (key_of_download item) (maker_of item.row.0) refl both.0 both.1

      maker : maker_fits (standing_of s) (maker_of item.row.0) ≡ true
      maker = maker-by s counted (key_of_download item) (maker_of item.row.0) refl both.1

      by-act : (a : Order) → removal_fits publication (standing_of s) item.article item.row.0 a ≡ true
      by-act (order.Put lineage live) = refl
      by-act order.RemoveDeleted = grind (arith, exists, maker)
      by-act order.RemoveLeft = grind (arith, exists, maker)

  removals-in : (number : ℕ) (site : SiteId) (d : Downloaded) (s : SubscriberTables) → IsReply m number site (reply.Downloaded d) → at_number m.world.subscribers site.0 ≡ Some s → MadeKeys m.history.made m.world.publisher.mappings m.world.pool
      → list_all (λ (item : DownloadItem). removal_fits publication (standing_of s) item.article item.row.0 item.act) d.items ≡ true
  removals-in number site d s at there keys =
      all-true (λ (item : DownloadItem). removal_fits publication (standing_of s) item.article item.row.0 item.act) d.items
      (all-weaker (λ (item : DownloadItem). KeyIsMade m.history.made (key_of_download item)) (λ (item : DownloadItem). removal_fits publication (standing_of s) item.article item.row.0 item.act ≡ true)
      (λ item is. removal-by s (counted-here publication m k site s there) item item.act is) d.items
      (pool-at (λ (letter : Letter). ItemsMade m.history.made letter.message) m.world number (record { site = site; message = Replies (reply.Downloaded d) }) at keys.letters))

pub removals-fit : OfEveryValidRun RemovalsFit
removals-fit resolvers publication valid says tallies slips events number site d s at there =
    let m : Model = model_behind publication says tallies slips events in
    removals-in publication m (known-always publication says tallies slips events (resolvers, valid)) (exist-always publication says tallies slips events (resolvers, valid))
    (holds-always publication (IsRight publication) (right-goes_on resolvers publication valid) says tallies slips events (resolvers, valid)).1.0 (took-always publication says tallies slips events (resolvers, valid)) number site d s at there
    (keys-always publication says tallies slips events (resolvers, valid))
