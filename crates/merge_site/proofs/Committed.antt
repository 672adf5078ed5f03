-- What a keeper tells after a commit.
use Rattle.std.proofs.Common.{◌≡◌, ◌∙◌, ℕ, List, [], ◌∷◌, ◌⊎◌, inl, inr, map, refl, sym, ap, subst}
use Rattle.std.specs.declared.option.Option.{Option}
use Rattle.std.specs.declared.option.Option.TheVariants.{None, Some}
use Rattle.merge_units.specs.declared.site_row.PublisherRow.{PublisherRow}
use Rattle.merge_units.specs.declared.site_row.SubscriberRow.{SubscriberRow}
use Rattle.merge_model.specs.Tables.{PublisherTables, SubscriberTables}
use Rattle.merge_table.specs.Edits.{rows_after_all}
use Rattle.merge_table.specs.declared.edit.Edit.{Edit}
use Rattle.merge_table.specs.declared.edit.Edit.TheVariants.{Put}
use Rattle.merge_ports.specs.Entries.{Map, change_of, entry_cmp, map_after, told_after}
use Rattle.merge_ports.specs.declared.entry.EntryEdit.{EntryEdit}
use Rattle.merge_ports.specs.declared.entry.EntryKey.{EntryKey}
use Rattle.merge_keeper.specs.Entries.{state_key}
use Rattle.merge_world.specs.Printable.{AreLostPrintable, ArePrintable}
use Rattle.merge_site.specs.Kept.{HasRecords, IsBare, IsKept, LeadTo}
use Rattle.merge_site.specs.Publishers as publisher
use Rattle.merge_site.specs.Publishers.{IsKeptPublisher}
use Rattle.merge_site.specs.Subscribers as subscriber
use Rattle.merge_site.specs.Subscribers.{IsKeptSubscriber}

-- where the state is put first, it does not matter whether it was there
state_put : (before value : List ℕ) (rest : List (Edit EntryKey (List ℕ))) → rows_after_all entry_cmp [] (Put state_key value ∷ rest) ≡ rows_after_all entry_cmp ((state_key, before) ∷ []) (Put state_key value ∷ rest)
state_put before value rest = refl

records_after : (old new stored : Map) (edits : List EntryEdit) → LeadTo edits old new → (stored ≡ old) ⊎ IsBare old stored → map_after edits stored ≡ new
records_after old new stored edits lead (inl same) = ap (λ (m : Map). map_after edits m) same ∙ lead.follow
records_after old new stored edits lead (inr bare) =
    let puts = lead.state in
    ap (λ (m : Map). map_after edits m) bare.empty
    ∙ ap (rows_after_all entry_cmp []) puts.is
    ∙ state_put bare.state puts.value puts.rest
    ∙ sym (ap (rows_after_all entry_cmp ((state_key, bare.state) ∷ [])) puts.is)
    ∙ sym (ap (λ (m : Map). map_after edits m) bare.alone)
    ∙ lead.follow

kept_after : (old new : Map) (told : Option Map) (edits : List EntryEdit) → LeadTo edits old new → IsKept old told → IsKept new (told_after edits told)
unfolding IsKept HasRecords
kept_after old new None edits lead h = tt
kept_after old new (Some stored) edits lead h = inl (records_after old new stored edits lead h)

-- what a keeper tells after a commit
pub kept-after : (old new : Map) (told now : Option Map) (items edits : List EntryEdit) → IsKept old told → LeadTo items old new → edits ≡ items → now ≡ told_after edits told → IsKept new now
kept-after old new told now items edits kept lead same after = rw (after, same) (kept_after old new told items lead kept)

-- so it is of a subscriber, and where the commit failed its tables and what is told are as before
pub subscriber-settled : (s made new : SubscriberTables) (told now : Option Map) (items edits : List EntryEdit) → IsKeptSubscriber s told → LeadTo items (subscriber.records_of s) (subscriber.records_of made) → subscriber.AreKeyed made → ArePrintable (λ (row : SubscriberRow). row.version) made.rows → AreLostPrintable made.conflicts → edits ≡ items
    → now ≡ told_after edits told → new ≡ made → IsKeptSubscriber new now
subscriber-settled s made new told now items edits kept lead keyed printable lost same after is =
    rw is (record { keyed = keyed; kept = kept-after (subscriber.records_of s) (subscriber.records_of made) told now items edits kept.kept lead same after; printable = printable; lost = lost })

pub subscriber-same : (s new : SubscriberTables) (told now : Option Map) → IsKeptSubscriber s told → new ≡ s → now ≡ told → IsKeptSubscriber new now
subscriber-same s new told now kept is same = rw (is, same) kept

-- and of a publisher
pub publisher-settled : (p made : PublisherTables) (told now : Option Map) (items edits : List EntryEdit) → IsKeptPublisher p told → LeadTo items (publisher.records_of p) (publisher.records_of made) → publisher.AreKeyed made → ArePrintable (λ (row : PublisherRow). row.version) made.rows → AreLostPrintable made.conflicts → edits ≡ items
    → now ≡ told_after edits told → IsKeptPublisher made now
publisher-settled p made told now items edits kept lead keyed printable lost same after =
    record { keyed = keyed; kept = kept-after (publisher.records_of p) (publisher.records_of made) told now items edits kept.kept lead same after; printable = printable; lost = lost }

pub publisher-same : (p new : PublisherTables) (told now : Option Map) → IsKeptPublisher p told → new ≡ p → now ≡ told → IsKeptPublisher new now
publisher-same p new told now kept is same = rw (is, same) kept
