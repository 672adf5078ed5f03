-- What is kept of a site that begins: of its records there is but the state.
use Rattle.std.proofs.Common.{◌≡◌, ℕ, ◌+◌, ◌^◌, ◌<◌, ◌≤◌, List, [], ◌∷◌, ◌++◌, inl, inr, length, map, filter, refl, sym, ap, subst, arith}
use Rattle.std.specs.declared.option.Option.{Option}
use Rattle.std.specs.declared.option.Option.TheVariants.{None, Some}
use Rattle.merge_types.specs.declared.identifiers.SiteId.{SiteId}
use Rattle.merge_table.specs.Edits.{rows_after_all}
use Rattle.merge_units.specs.declared.site_row.PublisherRow.{PublisherRow}
use Rattle.merge_units.specs.declared.site_row.SubscriberRow.{SubscriberRow}
use Rattle.merge_ident.specs.Holders.{Holder}
use Rattle.merge_schema.specs.Valid.{IsValid}
use Rattle.merge_schema.specs.declared.publication.Article.{Article}
use Rattle.merge_schema.specs.declared.publication.Identity.{Identity}
use Rattle.merge_schema.specs.declared.publication.Publication.{Publication}
use Rattle.merge_model.specs.Tables.Publications.{identities}
use Rattle.merge_model.specs.Publisher.{empty_publisher, holder_for, new_holders}
use Rattle.merge_model.specs.Subscriber.{empty_subscriber}
use Rattle.merge_model.specs.Tables.{PublisherTables, SubscriberTables}
use Rattle.merge_ports.specs.Entries.{Map, entry_cmp}
use Rattle.merge_keeper.specs.Encoded.{AllKeys, encoded_entries}
use Rattle.merge_keeper.specs.Entries.{held_key, held_value, state_key, was_received}
use Rattle.merge_keeper.specs.Stored.{IsPublisherKeyed, IsSubscriberKeyed, publisher_state, subscriber_state}
use Rattle.merge_sub.specs.Begin.{holders_from}
use Rattle.merge_sub.proofs.Begun.{holders-ascend, holders-step, with_article}
use Rattle.merge_site.specs.Beginning.{IsEmptyStore}
use Rattle.merge_site.specs.Kept.{HasRecords, IsBare, IsFreshState, IsKept}
use Rattle.merge_site.specs.Publishers as publisher
use Rattle.merge_site.specs.Publishers.{IsKeptPublisher, publisher_stored}
use Rattle.merge_site.specs.Subscribers as subscriber
use Rattle.merge_site.specs.Subscribers.{IsKeptSubscriber, subscriber_stored}
use Rattle.merge_site.proofs.Printed.{none-lost, none-printable}

-- of no article a range was received
pub none_received : (xs : List (ℕ × Identity)) → filter was_received (map holder_for xs) ≡ []
none_received [] = refl
none_received (x ∷ xs) = none_received xs

article_keys : (m number : ℕ) (identity : Option Identity) (rest : List (ℕ × Holder)) → number < m → AllKeys (λ n. n < m) rest → AllKeys (λ n. n < m) (with_article number identity rest)
article_keys m number None rest less h = h
article_keys m number (Some identity) rest less h = (less, h)

holders_keys : (m number : ℕ) (articles : List Article) → number + length articles ≤ m → AllKeys (λ n. n < m) (holders_from number articles)
holders_keys m number [] few = tt
holders_keys m number (article ∷ articles) few =
    rw (holders-step number article articles article.identity refl) (article_keys m number article.identity (holders_from (number + 1) articles) (omega (arith, few)) (holders_keys m (number + 1) articles (omega (arith, few))))

pub new_keys : (publication : Publication) → length publication.articles ≤ 32 → AllKeys (λ n. n < 2 ^ 8) (new_holders publication)
new_keys publication few = holders_keys 256 0 publication.articles (omega (arith, few))

-- nothing is stored
bare_kept : (records : Map) (state : List ℕ) → records ≡ (state_key, state) ∷ [] → IsFreshState state → (told : Option Map) → IsEmptyStore told → IsKept records told
unfolding IsKept HasRecords
bare_kept records state alone fresh None empty = tt
bare_kept records state alone fresh (Some stored) empty = inr (record { empty = empty; state = state; alone = alone; fresh = fresh })

subscriber_keyed : (publication : Publication) (site : SiteId) → length publication.articles ≤ 32 → subscriber.AreKeyed (empty_subscriber publication site)
unfolding subscriber.AreKeyed
subscriber_keyed publication site few = record {
  rows = tt;
  closings = tt;
  conflicts = tt;
  held = new_keys publication few;
  sorted = holders-ascend 0 publication.articles;
}

subscriber_alone : (publication : Publication) (site : SiteId) → subscriber.records_of (empty_subscriber publication site) ≡ (state_key, subscriber_state (subscriber_stored (empty_subscriber publication site))) ∷ []
unfolding subscriber.records_of
subscriber_alone publication site =
    ap (λ (l : List (ℕ × Holder)). (let m : Map = (state_key, subscriber_state (subscriber_stored (empty_subscriber publication site))) ∷ encoded_entries held_key held_value l in m)) (none_received (identities publication))

subscriber_fresh : (publication : Publication) (site : SiteId) → IsFreshState (subscriber_state (subscriber_stored (empty_subscriber publication site)))
subscriber_fresh publication site = inr (site, refl)

pub subscriber_begun : (publication : Publication) (site : SiteId) → ((resolvers : ℕ) × IsValid resolvers publication) → (s : SubscriberTables) → s ≡ empty_subscriber publication site → (told : Option Map) → IsEmptyStore told → IsKeptSubscriber s told
subscriber_begun publication site valid s is told empty =
    let v = valid.1 in
    rw is (record { keyed = subscriber_keyed publication site v.some_articles.1; kept = bare_kept _ _ (subscriber_alone publication site) (subscriber_fresh publication site) told empty; printable = none-printable (λ (row : SubscriberRow). row.version); lost = none-lost })

publisher_keyed : (publication : Publication) → length publication.articles ≤ 32 → publisher.AreKeyed (empty_publisher publication)
unfolding publisher.AreKeyed
publisher_keyed publication few = record {
  rows = tt;
  mappings = tt;
  closings = tt;
  conflicts = tt;
  grants = tt;
  held = new_keys publication few;
  sorted = holders-ascend 0 publication.articles;
  sites = tt;
}

publisher_alone : (publication : Publication) → publisher.records_of (empty_publisher publication) ≡ (state_key, publisher_state (publisher_stored (empty_publisher publication))) ∷ []
unfolding publisher.records_of
publisher_alone publication =
    ap (λ (l : List (ℕ × Holder)). (let m : Map = (state_key, publisher_state (publisher_stored (empty_publisher publication))) ∷ (rows_after_all entry_cmp (encoded_entries held_key held_value l) [] ++ []) in m)) (none_received (identities publication))

publisher_fresh : (publication : Publication) → IsFreshState (publisher_state (publisher_stored (empty_publisher publication)))
publisher_fresh publication = inl refl

pub publisher_begun : (publication : Publication) → ((resolvers : ℕ) × IsValid resolvers publication) → (p : PublisherTables) → p ≡ empty_publisher publication → (told : Option Map) → IsEmptyStore told → IsKeptPublisher p told
publisher_begun publication valid p is told empty =
    let v = valid.1 in
    rw is (record { keyed = publisher_keyed publication v.some_articles.1; kept = bare_kept _ _ (publisher_alone publication) (publisher_fresh publication) told empty; printable = none-printable (λ (row : PublisherRow). row.version); lost = none-lost })
