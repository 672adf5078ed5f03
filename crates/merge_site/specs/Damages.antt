-- Records of a site's store that are damaged.
use Rattle.std.specs.Prelude.{List, None, Ok, ℕ, ◌≡◌}
use Rattle.merge_batch.specs.declared.refusal.Refusal.TheVariants.{Damaged}
use Rattle.merge_keeper.specs.PublisherStart.{publisher_loaded}
use Rattle.merge_keeper.specs.Stored.{publisher_records, subscriber_records}
use Rattle.merge_keeper.specs.SubscriberStart.{subscriber_loaded}
use Rattle.merge_model.specs.Publisher.{new_holders}
use Rattle.merge_world.specs.Views.{PublisherView, SubscriberView}
use Rattle.merge_site.specs.Loading.{IsDamage}
use Rattle.merge_site.specs.Publishers.{publisher_stored}
use Rattle.merge_site.specs.Subscribers.{subscriber_stored}

-- The store of a publisher does not load, and the record that is named is the one with this key. Where the records of its tables load,
-- that is so of no store that is told.
pub record IsPublisherDamage (p : PublisherView) (table : ℕ) (key : List ℕ) : Type 0 where
  pub damage : IsDamage (publisher_loaded p.publication (new_holders p.publication)) p.told (Damaged table key)
  pub untold : publisher_loaded p.publication (new_holders p.publication) (publisher_records (publisher_stored p.tables)) ≡ Ok (publisher_stored p.tables) → p.told ≡ None

-- and that of a subscriber
pub record IsSubscriberDamage (s : SubscriberView) (table : ℕ) (key : List ℕ) : Type 0 where
  pub damage : IsDamage (subscriber_loaded s.publication s.tables.site (new_holders s.publication)) s.told (Damaged table key)
  pub untold : subscriber_loaded s.publication s.tables.site (new_holders s.publication) (subscriber_records (subscriber_stored s.tables)) ≡ Ok (subscriber_stored s.tables) → s.told ≡ None
