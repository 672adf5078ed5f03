-- In which order the lists of tables stand.
use Rattle.std.specs.Prelude.{map}
use Rattle.std.specs.List.Sorted.{IsStrictlySortedBy}
use Rattle.std.specs.Map.{keys_of}
use Rattle.std.specs.Ordering.{nat_cmp}
use Rattle.merge_types.specs.RowKeys.{key_cmp}
use Rattle.merge_gens.specs.Moves.{row_site_cmp}
use Rattle.merge_ident.specs.Grants.{AreInOrder}
use Rattle.merge_keeper.specs.Entries.{closing_pair, conflict_pair}
use Rattle.merge_keeper.specs.declared.stored.PublisherStored.{PublisherStored}
use Rattle.merge_keeper.specs.declared.stored.SubscriberStored.{SubscriberStored}

-- every list ascends: rows by article and row, closed generations and conflicts by number, what is held by article
pub record IsSubscriberOrdered (t : SubscriberStored) : Type 0 where
  pub rows : IsStrictlySortedBy key_cmp (keys_of t.rows)
  pub closings : IsStrictlySortedBy nat_cmp (keys_of (map closing_pair t.closings))
  pub conflicts : IsStrictlySortedBy nat_cmp (keys_of (map conflict_pair t.conflicts))
  pub held : IsStrictlySortedBy nat_cmp (keys_of t.held)

-- and so do mappings, by row and site, and subscriptions, by site. Grants stand by article and begin
pub record IsPublisherOrdered (t : PublisherStored) : Type 0 where
  pub rows : IsStrictlySortedBy key_cmp (keys_of t.rows)
  pub mappings : IsStrictlySortedBy row_site_cmp (keys_of t.mappings)
  pub closings : IsStrictlySortedBy nat_cmp (keys_of (map closing_pair t.closings))
  pub conflicts : IsStrictlySortedBy nat_cmp (keys_of (map conflict_pair t.conflicts))
  pub grants : AreInOrder t.grants
  pub held : IsStrictlySortedBy nat_cmp (keys_of t.held)
  pub sites : IsStrictlySortedBy nat_cmp (keys_of t.sites)
