-- The reply to an ask is true of the publisher as it is: each row that was touched in its interval is in it, as it is to be held.
use Rattle.std.specs.Prelude.{◌≡◌, ◌≤◌, ◌<◌, ◌||◌, ◌&&◌, ℕ, List, [], ◌∷◌, Bool, true, false, Option, Some, None, refl, if◌then◌else◌, cond, filter, filter_map, is_some, map, nat_le, nat_lt, option_map, unwrap_or}
use Rattle.std.specs.List.{cons_option}
use Rattle.std.proofs.Common.{arith, sym, ap, ◌∙◌}
use Rattle.std.proofs.lemmas.Bool.Decides.{nat_tests}
use Rattle.merge_types.specs.declared.identifiers.SiteId.{SiteId}
use Rattle.merge_units.specs.Version.{cells_of, is_live}
use Rattle.merge_units.specs.declared.version.Body.{Body}
use Rattle.merge_units.specs.declared.version.Body.TheVariants.{Dead, Live}
use Rattle.merge_units.specs.declared.version.Version.{Version}
use Rattle.merge_schema.specs.declared.publication.Publication.{Publication}
use Rattle.merge_batch.specs.declared.reply.Act.{Act as Order}
use Rattle.merge_batch.specs.declared.reply.Act.TheVariants as order
use Rattle.merge_batch.specs.declared.reply.Downloaded.{Downloaded}
use Rattle.merge_batch.specs.declared.request.Download.{Download}
use Rattle.merge_model.specs.Judge.ByHistory.{by_past, last_line, moved_rows_by_line, touch_by_line, touched_outside}
use Rattle.merge_model.specs.Judge.ByNumbers.{received_by_number, touch_by_mapping}
use Rattle.merge_model.specs.Publisher.Entries
use Rattle.merge_model.specs.History.{History, Line, MadeChange, Past}
use Rattle.merge_model.specs.Judge.{PublisherJudge}
use Rattle.merge_model.specs.Tables.Keys.{has_key, row_at, same_key}
use Rattle.merge_model.specs.History.Model.{Model}
use Rattle.merge_model.specs.Publisher.{last_closed}
use Rattle.merge_model.specs.Publisher.PublisherDownload.{TouchedRow, inside_keys, is_between, item_of, reply_to, tables_after_download, touched_row}
use Rattle.merge_batch.specs.Orders.{order_by}
use Rattle.merge_model.specs.Publisher.PublisherLocal.{version_at}
use Rattle.merge_types.specs.declared.row_key.RowKey.{RowKey as Key}
use Rattle.merge_units.specs.declared.site_row.PublisherRow.{PublisherRow}
use Rattle.merge_model.specs.Tables.{PublisherTables, SubscriberTables}
use Rattle.merge_model.specs.World.{World}
use Rattle.merge_laws.specs.Facts.Settled.{ReplyHolds, SiteView, held_by, owed_at, said_of, said_over, site_view, touched_at}
use Rattle.merge_model.proofs.Entries.Downloads.{inside-held}
use Rattle.merge_laws.proofs.Runs.Ground.{Ground}
use Rattle.merge_model.proofs.Lists.KeyLookUps.{keys-same}
use Rattle.merge_model.proofs.Lists.KeyLists.{keys-once}
use Rattle.merge_laws.proofs.LastLines.LastLineGone.{told-of}
use Rattle.merge_laws.proofs.LastLines.LastLineReads.{inside-by-line, outside-by-line}
use Rattle.merge_laws.proofs.Received.Publishing.{asked-same}
use Rattle.merge_laws.proofs.Received.Sendings.{batch-begin, batch-bound}
use Rattle.merge_laws.proofs.Settled.SettledRows.{IsLiveAt, inside-is-live}
use Rattle.merge_model.proofs.Lists.Tests.{or-second}
use Rattle.merge_model.proofs.Entries.StepParts.{keys-held}
use Rattle.merge_laws.proofs.Walking.{here}
use Rattle.merge_laws.proofs.Received.Worlds.{received-is}

-- What a reply says of rows that are picked from a list of keys.
module _ (key : Key) (order_at : Key → Option Order) where
  both-none : (there : Bool) → (let said : Option Order = if there then None else None in said) ≡ None
  both-none true = refl
  both-none false = refl

  said-other : (said : Option Order) (o : Order) → said_over said false o ≡ said
  said-other None o = refl
  said-other (Some later) o = refl

  -- a key of which nothing is told
  none-here : (k : Key) (same there : Bool) (said : Option Order) → same_key key k ≡ same → order_at k ≡ None → said ≡ (if there then order_at key else None) → said ≡ (if same || there then order_at key else None)
  none-here k true there said is none h =
      let e : order_at key ≡ None = ap order_at (keys-same key k is) ∙ none in
      h ∙ ap (λ (x : Option Order). if there then x else None) e ∙ both-none there ∙ sym e
  none-here k false there said is none h = h

  over-some : (there : Bool) (found : Option Order) (o : Order) → found ≡ Some o → said_over (if there then found else None) true o ≡ Some o
  over-some true found o is = ap (λ (x : Option Order). said_over x true o) is
  over-some false found o is = refl

  some-here : (k : Key) (o : Order) (same there : Bool) (said : Option Order) → same_key key k ≡ same → order_at k ≡ Some o → said ≡ (if there then order_at key else None) → said_over said same o ≡ (if same || there then order_at key else None)
  some-here k o true there said is some h =
      let e : order_at key ≡ Some o = ap order_at (keys-same key k is) ∙ some in
      ap (λ (x : Option Order). said_over x true o) h ∙ over-some there (order_at key) o e ∙ sym e
  some-here k o false there said is some h = said-other said o ∙ h

module _ (judge : PublisherJudge) (site : SiteId) (inside : List Key) (q : PublisherTables) (from to : ℕ) where
  abbrev order_if : Key → Option ℕ → Option Order
  order_if key None = None
  order_if key (Some generation) = if nat_lt from generation && nat_le generation to then Some (order_by (has_key inside key) (version_at q key)) else None

  abbrev order_at : Key → Option Order
  order_at key = order_if key (judge.touch key site.0 (has_key inside key))

  abbrev said_in : Key → List TouchedRow → Option Order
  said_in key rows = said_of (map (item_of q) (filter (is_between from to) rows)) key

  if-none : (b : Bool) (o : Order) → b ≡ false → (let found : Option Order = if b then Some o else None in found) ≡ None
  if-none b o is = ap (λ (x : Bool). (let found : Option Order = if x then Some o else None in found)) is

  if-some : (b : Bool) (o : Order) → b ≡ true → (let found : Option Order = if b then Some o else None in found) ≡ Some o
  if-some b o is = ap (λ (x : Bool). (let found : Option Order = if x then Some o else None in found)) is

  between-step : (key k : Key) (generation : ℕ) (rest : List TouchedRow) (there within : Bool) → (nat_lt from generation && nat_le generation to) ≡ within → judge.touch k site.0 (has_key inside k) ≡ Some generation → said_in key rest ≡ (if there then order_at key else None)
      → (let row : TouchedRow = record { key = k; is_in = has_key inside k; generation = generation } in
      let rows : List TouchedRow = cond within (row ∷ filter (is_between from to) rest) (filter (is_between from to) rest) in said_of (map (item_of q) rows) key) ≡ (if same_key key k || there then order_at key else None)
  between-step key k generation rest there true is touch h =
      some-here key order_at k (order_by (has_key inside k) (version_at q k)) (same_key key k) there (said_in key rest) refl (ap (order_if k) touch ∙ if-some (nat_lt from generation && nat_le generation to) (order_by (has_key inside k) (version_at q k)) is) h
  between-step key k generation rest there false is touch h =
      none-here key order_at k (same_key key k) there (said_in key rest) refl (ap (order_if k) touch ∙ if-none (nat_lt from generation && nat_le generation to) (order_by (has_key inside k) (version_at q k)) is) h

  said-step : (key k : Key) (touch : Option ℕ) (rest : List TouchedRow) (there : Bool) → judge.touch k site.0 (has_key inside k) ≡ touch → said_in key rest ≡ (if there then order_at key else None)
      → said_in key (cons_option (option_map (λ (generation : ℕ). (let row : TouchedRow = record { key = k; is_in = has_key inside k; generation = generation } in row)) touch) rest) ≡ (if same_key key k || there then order_at key else None)
  said-step key k None rest there touch h = none-here key order_at k (same_key key k) there (said_in key rest) refl (ap (order_if k) touch) h
  said-step key k (Some generation) rest there touch h = between-step key k generation rest there (nat_lt from generation && nat_le generation to) refl touch h

  said-all : (key : Key) (keys : List Key) → said_in key (filter_map (touched_row judge site inside) keys) ≡ (if has_key keys key then order_at key else None)
  said-all key [] = refl
  said-all key (k ∷ keys) = said-step key k (judge.touch k site.0 (has_key inside k)) (filter_map (touched_row judge site inside) keys) (has_key keys key) refl (said-all key keys)

-- What an order leaves held is what is owed.

live-version : (version : Version) (body : Body) → version.body ≡ body → is_live body ≡ true → (let put : Version = record { lineage = version.lineage; body = Live (cells_of version.body) } in put) ≡ version
live-version version (Dead top) is live = absurd (grind (arith, live))
live-version version (Live cells) is live =
    ap (λ (b : Body). (let put : Version = record { lineage = version.lineage; body = Live (cells_of b) } in put)) is ∙ ap (λ (b : Body). (let put : Version = record { lineage = version.lineage; body = b } in put)) (sym is)

removes : (b : Bool) → (let o : Order = if b then order.RemoveLeft else order.RemoveDeleted in held_by o) ≡ None
removes true = refl
removes false = refl

order-out : (found : Option Version) → held_by (order_by false found) ≡ None
order-out None = refl
order-out (Some version) = removes (is_live version.body)

order-in : (found : Option PublisherRow) → IsLiveAt found → held_by (order_by true (option_map (λ (row : PublisherRow). row.version) found)) ≡ option_map (λ (row : PublisherRow). row.version) found
order-in found live =
    ap (λ (x : Option PublisherRow). held_by (order_by true (option_map (λ (row : PublisherRow). row.version) x))) live.1.0
    ∙ ap (λ (version : Version). (let held : Option Version = Some version in held)) (live-version live.0.version live.0.version.body refl live.1.1)
    ∙ ap (λ (x : Option PublisherRow). option_map (λ (row : PublisherRow). row.version) x) (sym live.1.0)

order-owed : (inn : Bool) (found : Option PublisherRow) → (inn ≡ true → IsLiveAt found) → held_by (order_by inn (option_map (λ (row : PublisherRow). row.version) found)) ≡ (if inn then option_map (λ (row : PublisherRow). row.version) found else None)
order-owed true found live = order-in found (live refl)
order-owed false found live = order-out (option_map (λ (row : PublisherRow). row.version) found)

-- What is touched is among the keys that are gone over.

some-line : (found : Option Line) (generation : ℕ) → touched_outside found ≡ Some generation → is_some found ≡ true
some-line None generation is = absurd (grind (arith, is))
some-line (Some line) generation is = refl

module _ (publication : Publication) (w : World) (h : History) (g : Ground publication w h) (site : SiteId) where
  abbrev p : PublisherTables
  p = w.publisher

  abbrev reached : Model
  reached = record { world = w; history = h }

  abbrev in_it : Key → Bool
  in_it key = has_key (inside_keys publication site p) key

  touch-is : (key : Key) (inn : Bool) → in_it key ≡ inn → touch_by_line h key site.0 inn ≡ touch_by_mapping p key site.0 inn
  touch-is key true is = sym (inside-by-line publication reached g.lines key site.0 (inside-held publication site p key is))
  touch-is key false is = sym (outside-by-line publication reached g.lines key site.0)

  touched-there : (key : Key) (inn : Bool) (generation : ℕ) → in_it key ≡ inn → touch_by_line h key site.0 inn ≡ Some generation → has_key (Entries.keys_of p.rows (moved_rows_by_line h site.0)) key ≡ true
  touched-there key true generation is touch = keys-held p.rows (moved_rows_by_line h site.0) key ∙ ap (λ (b : Bool). b || has_key (moved_rows_by_line h site.0) key) (inside-held publication site p key is)
  touched-there key false generation is touch = keys-held p.rows (moved_rows_by_line h site.0) key
      ∙ or-second (is_some (row_at p.rows key)) (has_key (moved_rows_by_line h site.0) key) (sym (keys-once (moved_rows_by_line h site.0) key) ∙ told-of h.lines key site.0 ∙ some-line (last_line h key site.0) generation touch)

-- The reply.
module _ (publication : Publication) (w : World) (h : History) (g : Ground publication w h) (incoming : List (Key × Past)) (m : Download) where
  abbrev q : PublisherTables
  q = tables_after_download m (here w)

  abbrev judge : PublisherJudge
  judge = by_past h incoming

  abbrev told : Downloaded
  told = reply_to publication judge m q

  abbrev is_in : Key → Bool
  is_in key = has_key (inside_keys publication m.site w.publisher) key

  abbrev v : List MadeChange → SiteView
  v made = site_view publication q made m.site.0

  abbrev keys : List Key
  keys = Entries.keys_of w.publisher.rows (moved_rows_by_line h m.site.0)

  said-is : (key : Key) → said_of told.items key ≡ (if has_key keys key then order_at judge m.site (inside_keys publication m.site w.publisher) q m.from told.to key else None)
  said-is key = said-all judge m.site (inside_keys publication m.site w.publisher) q m.from told.to key keys

  abbrev order_here : Key → Option ℕ → Option Order
  order_here key touch = order_if judge m.site (inside_keys publication m.site w.publisher) q m.from told.to key touch

  now-told : (key : Key) (touch : Option ℕ) → touch_by_mapping w.publisher key m.site.0 (is_in key) ≡ touch → m.from < unwrap_or touch 0 → unwrap_or touch 0 ≤ told.to → option_map held_by (said_of told.items key) ≡ Some (owed_at publication w.publisher m.site key)
  now-told key None is above up = absurd (omega (arith, above))
  now-told key (Some generation) is above up =
      let line : touch_by_line h key m.site.0 (is_in key) ≡ Some generation = touch-is publication w h g m.site key (is_in key) refl ∙ is in
      let there : has_key keys key ≡ true = touched-there publication w h g m.site key (is_in key) generation refl line in
      let within : (nat_lt m.from generation && nat_le generation told.to) ≡ true = grind (arith, nat_tests, above, up) in
      let picked : order_here key (Some generation) ≡ Some (order_by (is_in key) (version_at q key)) = if-some judge m.site (inside_keys publication m.site w.publisher) q m.from told.to (nat_lt m.from generation && nat_le generation told.to) (order_by (is_in key) (version_at q key)) within in
      ap (λ (o : Option Order). option_map held_by o) (said-is key ∙ ap (λ (b : Bool). if b then order_here key (touch_by_line h key m.site.0 (is_in key)) else None) there ∙ ap (order_here key) line ∙ picked)
      ∙ ap (λ (held : Option Version). (let found : Option (Option Version) = Some held in found)) (order-owed (is_in key) (row_at w.publisher.rows key) (λ inn. inside-is-live publication m.site w.publisher key g.sorted inn))

  only-told : (key : Key) (touch : Option ℕ) (there : Bool) (item : Order) → (let found : Option Order = if there then order_here key touch else None in found ≡ Some item) → m.from < unwrap_or touch 0
  only-told key touch false item is = absurd (grind (arith, is))
  only-told key None true item is = absurd (grind (arith, is))
  only-told key (Some generation) true item is = grind (arith, nat_tests, is)

  only-said : (key : Key) (item : Order) → said_of told.items key ≡ Some item → m.from < touched_at publication w.publisher m.site key
  only-said key item is =
      let line = touch-is publication w h g m.site key (is_in key) refl in
      only-told key (touch_by_mapping w.publisher key m.site.0 (is_in key)) (has_key keys key) item
      (ap (λ (touch : Option ℕ). (let found : Option Order = if has_key keys key then order_here key touch else None in found)) (sym line) ∙ sym (said-is key) ∙ is)

  received-told : told.received ≡ received_by_number q m.site.0
  received-told = received-is h w.publisher m.site.0 g.received.done ∙ sym ((asked-same m (here w)).received m.site.0)

  pub reply-holds : (made : List MadeChange) (s : SubscriberTables) → m.seq ≤ s.seq → m.from ≤ last_closed q → ReplyHolds (v made) s told
  reply-holds made s seq from = record {
    made = seq;
    up = batch-begin _ m.from (last_closed q);
    to = batch-bound _ m.from (last_closed q) from;
    fits = λ live joins out. record {
      now = λ key above up. now-told key (touch_by_mapping w.publisher key m.site.0 (is_in key)) refl above up;
      only = λ key item is. only-said key item is;
      later = λ key above up. (let same = received-told in absurd (omega (arith, above, up, same)));
    };
  }
