-- What a site's keeper tells of its records.
use Rattle.std.specs.Prelude.{IfSome, List, Option, [], map, ℕ, ◌∷◌, ◌≡◌, ◌⊎◌}
use Rattle.merge_types.specs.declared.identifiers.SiteId.{SiteId}
use Rattle.merge_table.specs.Edits.{rows_after_all}
use Rattle.merge_table.specs.declared.edit.Edit.{Edit}
use Rattle.merge_table.specs.declared.edit.Edit.TheVariants.{Put}
use Rattle.merge_ports.specs.Entries.{Map, change_of, entry_cmp}
use Rattle.merge_ports.specs.declared.entry.EntryEdit.{EntryEdit}
use Rattle.merge_ports.specs.declared.entry.EntryKey.{EntryKey}
use Rattle.merge_keeper.specs.Entries.{state_key}
use Rattle.merge_keeper.specs.PublisherStart as publisher
use Rattle.merge_keeper.specs.Stored.{publisher_state, subscriber_state}
use Rattle.merge_keeper.specs.SubscriberStart as subscriber

-- the state of a site that has committed nothing: the publisher's, or a subscriber's
abbrev pub IsFreshState : List ℕ → Type 0
IsFreshState state = (state ≡ publisher_state (publisher.tables_with [] publisher.no_state)) ⊎ ((site : SiteId) × (state ≡ subscriber_state (subscriber.tables_with site [] (subscriber.no_state site))))

-- nothing is stored, and of the records none is there but the state's, which is that of a site that has committed nothing
pub record IsBare (records stored : Map) : Type 0 where
  pub empty : stored ≡ []
  pub state : List ℕ
  pub alone : records ≡ (state_key, state) ∷ []
  pub fresh : IsFreshState state

-- a store has these records; or it has none, and they are those of a site that has committed nothing
unfoldable pub HasRecords : Map → Map → Type 0
HasRecords records stored = (stored ≡ records) ⊎ IsBare records stored

-- so it is where a keeper tells its map
unfoldable pub IsKept : Map → Option Map → Type 0
IsKept records told = IfSome told (HasRecords records)

-- the first of the edits puts the state
pub record PutsState (edits : List (Edit EntryKey (List ℕ))) : Type 0 where
  pub value : List ℕ
  pub rest : List (Edit EntryKey (List ℕ))
  pub is : edits ≡ Put state_key value ∷ rest

-- edits make these records of those, and put the state
pub record LeadTo (edits : List EntryEdit) (old new : Map) : Type 0 where
  pub follow : rows_after_all entry_cmp old (map change_of edits) ≡ new
  pub state : PutsState (map change_of edits)
