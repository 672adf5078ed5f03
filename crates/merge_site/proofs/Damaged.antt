-- A record that is told as damaged is, and of a store that is told none is where the records of the tables load.
use Rattle.std.proofs.Common.{◌≡◌, ◌∙◌, ◌⊎◌, ℕ, List, [], inl, inr, ap, refl, subst, sym}
use Rattle.std.specs.Prelude.{Err, None, Ok, Option, Result, Some}
use Rattle.merge_schema.specs.declared.publication.Publication.{Publication}
use Rattle.merge_batch.specs.declared.refusal.Refusal.{Refusal}
use Rattle.merge_batch.specs.declared.refusal.Refusal.TheVariants.{Damaged}
use Rattle.merge_keeper.specs.PublisherStart as publisher
use Rattle.merge_keeper.specs.Start.{Loaded}
use Rattle.merge_keeper.specs.Stored.{publisher_records, subscriber_records}
use Rattle.merge_keeper.specs.SubscriberStart as subscriber
use Rattle.merge_model.specs.Publisher.{new_holders}
use Rattle.merge_model.specs.Tables.{PublisherTables, SubscriberTables}
use Rattle.merge_ports.specs.Entries.{Map}
use Rattle.merge_ports.specs.declared.entry.EntryKey.{EntryKey}
use Rattle.merge_site.specs.Kept.{HasRecords, IsBare, IsKept}
use Rattle.merge_site.specs.Loading.{IsDamage, LoadsNot}
use Rattle.merge_site.specs.Publishers as of_publisher
use Rattle.merge_site.specs.Publishers.{publisher_stored}
use Rattle.merge_site.specs.Subscribers as of_subscriber
use Rattle.merge_site.specs.Subscribers.{subscriber_stored}

-- of what stops a load, damage alone is told as damage
damage-met : {T : Type 0} (load : Map → Loaded T) (told : Option Map) (why : Refusal) (before after : ℕ) → LoadsNot load told why before after → (table : ℕ) (key : List ℕ) → why ≡ Damaged table key → IsDamage load told (Damaged table key)
damage-met load told why before after (inl (inl (is, still))) table key same = absurd (cc (is, same))
damage-met load told why before after (inl (inr (is, more))) table key same = absurd (cc (is, same))
damage-met load told why before after (inr (still, damage)) table key same = subst (λ (r : Refusal). IsDamage load told r) same damage

abbrev error_in : {T E : Type 0} → Result T E → E → E
error_in (Ok done) other = other
error_in (Err why) other = why

-- the error that was met is the one that is returned
same-error : {T E : Type 0} (r : Result T E) (y e d : E) → r ≡ Err y → y ≡ e → r ≡ Err d → e ≡ d
same-error {T} {E} r y e d met same is = sym same ∙ ap (λ (x : Result T E). error_in x y) (sym met ∙ is)

-- a load that is told as damage, by what is stored behind it
pub damaged-at : {T : Type 0} (load other : Map → Loaded T) → load ≡ other → (old now : Option Map) → now ≡ old → (r : Result Unit Refusal) (y why : Refusal) → r ≡ Err y → y ≡ why → (before after : ℕ) → LoadsNot load old why before after
    → (table : ℕ) (key : List ℕ) → r ≡ Err (Damaged table key) → IsDamage other now (Damaged table key)
damaged-at {T} load other same old now stays r y why met is before after fails table key told =
    subst (λ (l : Map → Loaded T). IsDamage l now (Damaged table key)) same
    (subst (λ (t : Option Map). IsDamage load t (Damaged table key)) (sym stays)
    (damage-met load old why before after fails table key (same-error r y why (Damaged table key) met is told)))

-- Entries of a store that has records load where these do, and where none do.
apart : {T E : Type 0} (r : Result T E) (t : T) (e : E) → r ≡ Ok t → r ≡ Err e → ⊥
apart r t e good bad = cc (good, bad)

no-damage : {T : Type 0} (load : Map → Loaded T) (records stored entries : Map) (first t : T) (key : EntryKey) → load [] ≡ Ok first → load records ≡ Ok t → (stored ≡ records) ⊎ IsBare records stored → entries ≡ stored → load entries ≡ Err key → ⊥
no-damage load records stored entries first t key empty loads (inl same) read fails = apart (load entries) t key (ap load (read ∙ same) ∙ loads) fails
no-damage load records stored entries first t key empty loads (inr bare) read fails = apart (load entries) first key (ap load (read ∙ bare.empty) ∙ empty) fails

untold-by : {T : Type 0} (load : Map → Loaded T) (records : Map) (told : Option Map) (first t : T) → load [] ≡ Ok first → load records ≡ Ok t → IsKept records told → (why : Refusal) → IsDamage load told why → told ≡ None
unfolding IsKept HasRecords
untold-by load records None first t empty loads kept why damage = refl
untold-by load records (Some stored) first t empty loads kept why damage = absurd (no-damage load records stored damage.2.entries first t damage.0 empty loads kept damage.2.are_told damage.2.load_to)

-- so it is of a site whose keeper has the records of its tables, and tells behind the load what it told
pub publisher-untold : (publication : Publication) (p : PublisherTables) (old now : Option Map) → now ≡ old → IsKept (of_publisher.records_of p) old → (why : Refusal) → IsDamage (publisher.publisher_loaded publication (new_holders publication)) now why
    → publisher.publisher_loaded publication (new_holders publication) (publisher_records (publisher_stored p)) ≡ Ok (publisher_stored p) → now ≡ None
unfolding of_publisher.records_of
publisher-untold publication p old now same kept why damage loads =
    untold-by (publisher.publisher_loaded publication (new_holders publication)) (publisher_records (publisher_stored p)) now (publisher.tables_with (new_holders publication) publisher.no_state) (publisher_stored p) refl loads
    (subst (λ (told : Option Map). IsKept (publisher_records (publisher_stored p)) told) (sym same) kept) why damage

pub subscriber-untold : (publication : Publication) (s : SubscriberTables) (old now : Option Map) → now ≡ old → IsKept (of_subscriber.records_of s) old → (why : Refusal) → IsDamage (subscriber.subscriber_loaded publication s.site (new_holders publication)) now why
    → subscriber.subscriber_loaded publication s.site (new_holders publication) (subscriber_records (subscriber_stored s)) ≡ Ok (subscriber_stored s) → now ≡ None
unfolding of_subscriber.records_of
subscriber-untold publication s old now same kept why damage loads =
    untold-by (subscriber.subscriber_loaded publication s.site (new_holders publication)) (subscriber_records (subscriber_stored s)) now (subscriber.tables_with s.site (new_holders publication) (subscriber.no_state s.site)) (subscriber_stored s) refl loads
    (subst (λ (told : Option Map). IsKept (subscriber_records (subscriber_stored s)) told) (sym same) kept) why damage
