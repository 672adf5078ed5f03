-- What is known of a local change before it is made: its number is new, and where it makes a row, no change is of that row.
use Rattle.std.specs.Prelude.{◌≡◌, ◌≤◌, ◌<◌, ◌==◌, ◌^◌, List, Bool, true, false, Option, Some, None, refl, is_some, length}
use Rattle.std.specs.List.{AllByRecursion}
use Rattle.std.proofs.Common.{arith, sym, ap, ◌∙◌}
use Rattle.std.proofs.lemmas.Bool.Decides.{nat_tests}
use Rattle.merge_types.specs.Rows.{IsMadeBy, row_number}
use Rattle.merge_types.specs.declared.changes.Change.{Change}
use Rattle.merge_types.specs.declared.changes.Change.TheVariants.{Delete, Insert, Update}
use Rattle.merge_types.specs.declared.identifiers.Dot.{Dot}
use Rattle.merge_schema.specs.declared.publication.Publication.{Publication}
use Rattle.merge_batch.proofs.Makers.{maker_of-made}
use Rattle.merge_batch.specs.Makers.{maker_of}
use Rattle.merge_model.specs.Tables.Changes.{change_refusal, is_insert, key_of, no_row}
use Rattle.merge_model.specs.History.{History, MadeChange, has}
use Rattle.merge_model.specs.Tables.Keys.{row_at, same_key}
use Rattle.merge_model.specs.Publisher.{counters}
use Rattle.merge_model.specs.Publisher.PublisherLocal.{local_refusal, next_dot, version_at}
use Rattle.merge_model.specs.Tables.Refusals.{counter_end}
use Rattle.merge_model.specs.Subscriber.{is_joining, subscriber_counters, subscriber_local_refusal, subscriber_next_dot, subscriber_version_at}
use Rattle.merge_types.specs.declared.row_key.RowKey.{RowKey as Key}
use Rattle.merge_units.specs.declared.site_row.PublisherRow.{PublisherRow}
use Rattle.merge_units.specs.declared.site_row.SubscriberRow.{SubscriberRow}
use Rattle.merge_model.specs.Tables.{PublisherTables, SubscriberTables}
use Rattle.merge_model.specs.World.{World, subscriber_at}
use Rattle.merge_laws.specs.Facts.Knowledge.{Knowledge, Known, Knows, changes_of, is_made}
use Rattle.merge_laws.specs.Facts.LetterNumbers.{AreNamed}
use Rattle.merge_laws.proofs.Received.Arrivals.{not-refused}
use Rattle.merge_model.proofs.Runs.Refusals.{first-none}
use Rattle.merge_model.proofs.Lists.KeyLookUps.{keys-same}
use Rattle.merge_laws.proofs.Known.Knowing.{IsFresh, fresh-above, fresh-any}
use Rattle.merge_laws.proofs.Known.KnownCounts.{own-count}
use Rattle.merge_model.proofs.Lists.{all-both}
use Rattle.merge_laws.proofs.Own.OwnKnowing.{NoneOf}
use Rattle.merge_laws.proofs.Own.OwnRows.{held-there}
use Rattle.merge_laws.proofs.Walking.{here}

-- each change knows the change that made its row
abbrev pub KnowsMaker : MadeChange → Type 0
KnowsMaker change = (maker : Dot) → maker_of change.key.row.0 ≡ Some maker → has change.past.known maker ≡ true

-- Where a change is new, no change is of the row that it makes.
other-row : (made : List MadeChange) (key : Key) (dot : Dot) (x : MadeChange) (b : Bool) → maker_of key.row.0 ≡ Some dot → IsFresh made dot → KnowsMaker x → Knows made x.key x.past.known → same_key key x.key ≡ b → b ≡ false
other-row made key dot x true makes fresh knows well is =
    let same : key ≡ x.key = keys-same key x.key is in
    let there : is_made made x.key dot ≡ true = well.made_here dot (knows dot (ap (λ (k : Key). maker_of k.row.0) (sym same) ∙ makes)) in
    absurd (grind (arith, there, fresh-any made x.key dot fresh))
other-row made key dot x false makes fresh knows well is = refl

pub insert-none : (h : History) (dot : Dot) (change : Change) → IsMadeBy (row_number dot.site.0 dot.number) dot.site.0 dot.number → IsFresh h.made dot → AllByRecursion KnowsMaker h.made → Knowledge h → is_insert change ≡ true → NoneOf h.made (key_of dot change)
insert-none h dot (Insert article values) by fresh makers k is =
    let key : Key = key_of dot (Insert article values) in
    all-both KnowsMaker (λ (x : MadeChange). Knows h.made x.key x.past.known) (λ (x : MadeChange). same_key key x.key ≡ false)
    (λ x knows well. other-row h.made key dot x (same_key key x.key) (maker_of-made (row_number dot.site.0 dot.number) dot.site.0 dot.number by) fresh knows well refl) h.made makers k.making
insert-none h dot (Update article row values) by fresh makers k is = absurd (grind (arith, is))
insert-none h dot (Delete article row) by fresh makers k is = absurd (grind (arith, is))

-- a counter is within its bound where nothing is refused

sub-counted : (s : SubscriberTables) → counter_end (subscriber_counters s) ≡ None → s.changes < 2 ^ 61
sub-counted s e = let low = not-refused _ _ e in grind (arith, nat_tests, low)

own-counted : (p : PublisherTables) → counter_end (counters p) ≡ None → p.changes < 2 ^ 61
own-counted p e = let low = not-refused _ _ e in grind (arith, nat_tests, low)

-- A change of a subscriber.

module _ (publication : Publication) (w : World) (h : History) (s : SubscriberTables) (change : Change) (k : Known (changes_of w) h) (at : subscriber_at w s.site ≡ Some s) (named : s.site.0 ≡ 0 → ⊥) where
  pub sub-count : s.changes ≡ changes_of w s.site.0
  sub-count = own-count w s (s.site.0 == 0) refl named at

  pub sub-fresh : IsFresh h.made (subscriber_next_dot s)
  sub-fresh = fresh-above (changes_of w) h (subscriber_next_dot s) k.numbered (let count = sub-count in omega (arith, count))

  pub sub-none : AreNamed w.subscribers → AllByRecursion KnowsMaker h.made → subscriber_local_refusal publication change s ≡ None → is_insert change ≡ true → NoneOf h.made (key_of (subscriber_next_dot s) change)
  sub-none names makers fine is =
      let joins = first-none (is_joining s) _ fine in
      let counters = first-none (counter_end (subscriber_counters s)) _ joins.1 in
      let low : s.changes < 2 ^ 61 = sub-counted s counters.0 in
      let site : s.site.0 ≤ 63 = names s.site.0 s at in
      insert-none h (subscriber_next_dot s) change (record { site_fits = grind (arith, nat_tests, site); from_one = omega arith; fits = grind (arith, nat_tests, low); same = refl }) sub-fresh makers k.knowledge is

  pub sub-held : subscriber_local_refusal publication change s ≡ None → is_insert change ≡ false → is_some (row_at s.rows (key_of (subscriber_next_dot s) change)) ≡ true
  sub-held fine other =
      let joins = first-none (is_joining s) _ fine in
      let counters = first-none (counter_end (subscriber_counters s)) _ joins.1 in
      let found : Option SubscriberRow = row_at s.rows (key_of (subscriber_next_dot s) change) in
      let refused = first-none (change_refusal publication (subscriber_next_dot s) change (subscriber_version_at s (key_of (subscriber_next_dot s) change)) (length s.rows)) _ counters.1 in
      held-there (λ (row : SubscriberRow). row.version) change found other (first-none (no_row change (subscriber_version_at s (key_of (subscriber_next_dot s) change))) _ refused.0).0

-- A change of the publisher.

module _ (publication : Publication) (w : World) (h : History) (change : Change) (k : Known (changes_of w) h) where
  pub own-fresh : IsFresh h.made (next_dot (here w))
  own-fresh = fresh-above (changes_of w) h (next_dot (here w)) k.numbered (omega arith)

  pub own-none : AllByRecursion KnowsMaker h.made → local_refusal publication change w.publisher ≡ None → is_insert change ≡ true → NoneOf h.made (key_of (next_dot (here w)) change)
  own-none makers fine is =
      let first = first-none (counter_end (counters w.publisher)) _ fine in
      let low : w.publisher.changes < 2 ^ 61 = own-counted w.publisher first.0 in
      insert-none h (next_dot (here w)) change (record { site_fits = grind (arith, nat_tests); from_one = omega arith; fits = grind (arith, nat_tests, low); same = refl }) own-fresh makers k.knowledge is

  pub own-held : local_refusal publication change w.publisher ≡ None → is_insert change ≡ false → is_some (row_at w.publisher.rows (key_of (next_dot (here w)) change)) ≡ true
  own-held fine other =
      let first = first-none (counter_end (counters w.publisher)) _ fine in
      let key : Key = key_of (next_dot w.publisher) change in
      let refused = first-none (change_refusal publication (next_dot w.publisher) change (version_at w.publisher key) (length w.publisher.rows)) _ first.1 in
      held-there (λ (row : PublisherRow). row.version) change (row_at w.publisher.rows key) other (first-none (no_row change (version_at w.publisher key)) _ refused.0).0
