-- A change knows the change that made its row, and is no earlier than it.
use Rattle.std.specs.Prelude.{◌≡◌, ◌≤◌, ◌<◌, ◌+◌, ◌^◌, ◌∷◌, ℕ, [], Bool, true, false, not, Option, Some, None, refl, is_some, length, max, nat_le, nat_lt, option_map}
use Rattle.std.proofs.Common.{arith, ap}
use Rattle.std.proofs.lemmas.Bool.Decides.{nat_tests}
use Rattle.merge_types.specs.Rows.{row_number}
use Rattle.merge_types.specs.declared.changes.Change.{Change}
use Rattle.merge_types.specs.declared.changes.Change.TheVariants.{Delete, Insert, Update}
use Rattle.merge_types.specs.declared.identifiers.Dot.{Dot}
use Rattle.merge_types.specs.declared.values.Value.{Value}
use Rattle.merge_units.specs.declared.version.Version.{Version}
use Rattle.merge_batch.proofs.Makers.{made-maker_of}
use Rattle.merge_batch.specs.Makers.{maker_of}
use Rattle.merge_batch.specs.declared.refusal.Refusal.TheVariants.{CounterEnd, NoRow}
use Rattle.merge_schema.specs.declared.publication.Publication.{Publication}
use Rattle.merge_model.specs.Tables.Changes.{change_refusal, is_insert, key_of, lives, no_row, row_of_dot}
use Rattle.merge_model.specs.History.{History, Past, has}
use Rattle.merge_model.specs.Tables.Keys.{row_at}
use Rattle.merge_model.specs.History.Noting
use Rattle.merge_model.specs.History.Pasts.{past_after}
use Rattle.merge_model.specs.Publisher.{counters, last_closed}
use Rattle.merge_model.specs.Publisher.PublisherLocal.{local_refusal, next_dot, version_at}
use Rattle.merge_types.specs.Limits.{counter_limit}
use Rattle.merge_model.specs.Tables.Refusals.{counter_end}
use Rattle.merge_model.specs.Subscriber.{is_joining, subscriber_counters, subscriber_last_closed, subscriber_local_refusal, subscriber_next_dot, subscriber_version_at}
use Rattle.merge_types.specs.declared.row_key.RowKey.{RowKey as Key}
use Rattle.merge_units.specs.declared.site_row.PublisherRow.{PublisherRow}
use Rattle.merge_units.specs.declared.site_row.SubscriberRow.{SubscriberRow}
use Rattle.merge_model.specs.Tables.{PublisherTables, SubscriberTables}
use Rattle.merge_laws.specs.Facts.Knowledge.{AreNumbered, Knows, is_made}
use Rattle.merge_laws.specs.Invariants.KnownMakers.{IsAfterMaker, KnowsMaker}
use Rattle.merge_laws.proofs.Received.Arrivals.{not-refused}
use Rattle.merge_model.proofs.Runs.Refusals.{first-none}
use Rattle.merge_laws.proofs.Known.Knowing.{fresh-above, fresh-any}

-- An insert makes the row that is named by its dot.

rows-same : (s n t m : ℕ) → n < 2 ^ 62 → m < 2 ^ 62 → row_number s n ≡ row_number t m → (s ≡ t) × (n ≡ m)
rows-same s n t m a b e = (omega (arith, a, b, e), omega (arith, a, b, e))

made-dot : (dot maker : Dot) → dot.number < 2 ^ 62 → maker_of (row_of_dot dot).0 ≡ Some maker → (dot.site.0 ≡ maker.site.0) × (dot.number ≡ maker.number)
made-dot dot maker small e =
    let by = made-maker_of (row_number dot.site.0 dot.number) maker e in
    rows-same dot.site.0 dot.number maker.site.0 maker.number small by.fits by.same

same-has : (dot maker : Dot) → dot.site.0 ≡ maker.site.0 → dot.number ≡ maker.number → has (dot ∷ []) maker ≡ true
same-has dot maker site number = grind (arith, nat_tests, site, number)

pub knows-after : (publication : Publication) (dot : Dot) (change : Change) (past : Past) → dot.number < 2 ^ 62 → (is_insert change ≡ false → KnowsMaker (key_of dot change) past.known)
    → KnowsMaker (key_of dot change) (past_after publication dot change past).known
knows-after publication dot (Insert article values) past small old maker e = (let same = made-dot dot maker small e in same-has dot maker same.0 same.1)
knows-after publication dot (Update article row values) past small old maker e = (let was = old refl maker e in grind (arith, was))
knows-after publication dot (Delete article row) past small old maker e = (let was = old refl maker e in grind (arith, was))

-- What was made has a number up to the count of its site.

below-step : (count : ℕ → ℕ) (h : History) (key : Key) (dot : Dot) (b : Bool) → nat_lt (count dot.site.0) dot.number ≡ b → AreNumbered count h → is_made h.made key dot ≡ true → dot.number ≤ count dot.site.0
below-step count h key dot true above numbered is =
    let high : count dot.site.0 < dot.number = grind (arith, nat_tests, above) in
    let none = fresh-any h.made key dot (fresh-above count h dot numbered high) in absurd (grind (arith, none, is))
below-step count h key dot false above numbered is = grind (arith, nat_tests, above)

pub made-below : (count : ℕ → ℕ) (h : History) (key : Key) (dot : Dot) → AreNumbered count h → is_made h.made key dot ≡ true → dot.number ≤ count dot.site.0
made-below count h key dot numbered is = below-step count h key dot (nat_lt (count dot.site.0) dot.number) refl numbered is

known-before : (count : ℕ → ℕ) (h : History) (key : Key) (dot maker : Dot) → AreNumbered count h → dot.number ≡ count dot.site.0 + 1 → maker.site.0 ≡ dot.site.0 → is_made h.made key maker ≡ true → maker.number ≤ dot.number
known-before count h key dot maker numbered next site is =
    let below = made-below count h key maker numbered is in
    let same = ap count site in
    omega (arith, below, same, next)

pub after-maker : (count : ℕ → ℕ) (publication : Publication) (dot : Dot) (generation : ℕ) (change : Change) (value : Value) (past : Past) (h : History) → dot.number < 2 ^ 62 → AreNumbered count h → dot.number ≡ count dot.site.0 + 1
    → Knows h.made (key_of dot change) past.known → (is_insert change ≡ false → KnowsMaker (key_of dot change) past.known)
    → IsAfterMaker (Noting.made_change publication dot generation change value (key_of dot change) (past_after publication dot change past))
after-maker count publication dot generation (Insert article values) value past h small numbered next knows old maker e site = (let same = (made-dot dot maker small e).1 in omega (arith, same))
after-maker count publication dot generation (Update article row values) value past h small numbered next knows old maker e site =
    known-before count h (key_of dot (Update article row values)) dot maker numbered next site (knows.made_here maker (old refl maker e))
after-maker count publication dot generation (Delete article row) value past h small numbered next knows old maker e site =
    known-before count h (key_of dot (Delete article row)) dot maker numbered next site (knows.made_here maker (old refl maker e))

-- What a local change is not refused for.

counters-low : (limit changes a b : ℕ) → nat_le limit (max (max (max 0 changes) a) b) ≡ false → changes < limit
counters-low limit changes a b low = grind (arith, nat_tests, low)

sub-counters-low : (limit changes a b c : ℕ) → nat_le limit (max (max (max (max 0 changes) a) b) c) ≡ false → changes < limit
sub-counters-low limit changes a b c low = grind (arith, nat_tests, low)

small-next : (changes : ℕ) → changes < counter_limit → changes + 1 < 2 ^ 62
small-next changes low = omega (arith, low)

lives-some : (found : Option Version) → lives found ≡ true → is_some found ≡ true
lives-some None is = absurd (grind (arith, is))
lives-some (Some version) is = refl

not-false : (b : Bool) → not b ≡ false → b ≡ true
not-false true is = refl
not-false false is = absurd (grind (arith, is))

row-lives : (change : Change) (found : Option Version) → no_row change found ≡ None → is_insert change ≡ false → is_some found ≡ true
row-lives (Insert article values) found none is = absurd (grind (arith, is))
row-lives (Update article row values) found none is = lives-some found (not-false (lives found) (not-refused (not (lives found)) NoRow none))
row-lives (Delete article row) found none is = lives-some found (not-false (lives found) (not-refused (not (lives found)) NoRow none))

some-row : {A B : Type 0} (f : A → B) (found : Option A) → is_some (option_map f found) ≡ true → is_some found ≡ true
some-row f None is = absurd (grind (arith, is))
some-row f (Some a) is = refl

pub own-small : (publication : Publication) (change : Change) (p : PublisherTables) → local_refusal publication change p ≡ None → p.changes + 1 < 2 ^ 62
own-small publication change p fine =
    let first = first-none (counter_end (counters p)) _ fine in
    let greatest : ℕ = max (max (max 0 p.changes) (last_closed p)) p.conflict_count in
    small-next p.changes (counters-low counter_limit p.changes (last_closed p) p.conflict_count (not-refused (nat_le counter_limit greatest) (CounterEnd greatest) first.0))

pub own-held : (publication : Publication) (change : Change) (p : PublisherTables) → local_refusal publication change p ≡ None → is_insert change ≡ false → is_some (row_at p.rows (key_of (next_dot p) change)) ≡ true
own-held publication change p fine is =
    let first = first-none (counter_end (counters p)) _ fine in
    let dot : Dot = next_dot p in
    let found : Option Version = version_at p (key_of dot change) in
    let refused = first-none (change_refusal publication dot change found (length p.rows)) _ first.1 in
    some-row (λ (row : PublisherRow). row.version) (row_at p.rows (key_of dot change)) (row-lives change found (first-none (no_row change found) _ refused.0).0 is)

pub sub-small : (publication : Publication) (change : Change) (s : SubscriberTables) → subscriber_local_refusal publication change s ≡ None → s.changes + 1 < 2 ^ 62
sub-small publication change s fine =
    let joins = first-none (is_joining s) _ fine in
    let first = first-none (counter_end (subscriber_counters s)) _ joins.1 in
    let greatest : ℕ = max (max (max (max 0 s.changes) (subscriber_last_closed s)) s.seq) s.conflict_count in
    small-next s.changes (sub-counters-low counter_limit s.changes (subscriber_last_closed s) s.seq s.conflict_count (not-refused (nat_le counter_limit greatest) (CounterEnd greatest) first.0))

pub sub-held : (publication : Publication) (change : Change) (s : SubscriberTables) → subscriber_local_refusal publication change s ≡ None → is_insert change ≡ false → is_some (row_at s.rows (key_of (subscriber_next_dot s) change)) ≡ true
sub-held publication change s fine is =
    let joins = first-none (is_joining s) _ fine in
    let first = first-none (counter_end (subscriber_counters s)) _ joins.1 in
    let dot : Dot = subscriber_next_dot s in
    let found : Option Version = subscriber_version_at s (key_of dot change) in
    let refused = first-none (change_refusal publication dot change found (length s.rows)) _ first.1 in
    some-row (λ (row : SubscriberRow). row.version) (row_at s.rows (key_of dot change)) (row-lives change found (first-none (no_row change found) _ refused.0).0 is)
