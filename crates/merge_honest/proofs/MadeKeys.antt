-- Rows of which the publisher keeps a move, and rows of which a reply tells, were made by a change, which their identifiers carry.
use Rattle.std.specs.List.{AllByRecursion, fold, list_any}
use Rattle.std.specs.Option.{option_to_list}
use Rattle.std.specs.Prelude.{Bool, List, None, Ok, Option, Some, [], false, filter, filter_map, flat_map, is_some, map, not, option_map, refl, true, ℕ, ◌++◌, ◌+◌, ◌&&◌, ◌≡◌, ◌∷◌}
use Rattle.std.proofs.Common.{ap, arith, inl, inr, subst, sym, ◌∙◌}
use Rattle.std.specs.BTreeMap.{is_at}
use Rattle.merge_types.specs.RowKeys.{key_cmp}
use Rattle.merge_types.specs.declared.changes.Change.{Change}
use Rattle.merge_types.specs.declared.changes.Change.TheVariants.{Delete, Insert, Update}
use Rattle.merge_types.specs.declared.identifiers.Dot.{Dot}
use Rattle.merge_types.specs.declared.identifiers.SiteId.{SiteId}
use Rattle.merge_types.specs.declared.row_key.RowKey.{RowKey as Key}
use Rattle.merge_types.specs.declared.values.Value.{Value}
use Rattle.merge_units.specs.declared.result.Decision.{Decision}
use Rattle.merge_units.specs.declared.site_row.PublisherRow.{PublisherRow}
use Rattle.merge_units.specs.declared.version.Version.{Version}
use Rattle.merge_gens.specs.declared.moves.Mapping.{Mapping}
use Rattle.merge_gens.specs.declared.moves.RowSite.{RowSite}
use Rattle.merge_ident.specs.Holders.{Holder}
use Rattle.merge_schema.specs.Valid.{IsValid}
use Rattle.merge_schema.specs.declared.publication.Publication.{Publication}
use Rattle.merge_batch.proofs.Makers.{maker_of-made}
use Rattle.merge_batch.specs.LocalChanges.{is_insert, key_of, version_after}
use Rattle.merge_batch.specs.Makers.{maker_of}
use Rattle.merge_batch.specs.declared.reply.DownloadItem.{DownloadItem}
use Rattle.merge_batch.specs.declared.reply.Reply.{Reply}
use Rattle.merge_batch.specs.declared.reply.Reply.TheVariants as reply
use Rattle.merge_batch.specs.declared.request.Download.{Download}
use Rattle.merge_batch.specs.declared.request.Outstanding.TheVariants as ask
use Rattle.merge_batch.specs.declared.request.Request.TheVariants as request
use Rattle.merge_batch.specs.declared.request.Upload.{Upload}
use Rattle.merge_batch.specs.declared.request.UploadItem.{UploadItem}
use Rattle.merge_model.specs.Publisher.Acts.{Act, act_of, acting_items, acts_from, acts_of, key_of_item, left_by, made_by, version_by, version_of_act, versions_of}
use Rattle.merge_model.specs.Judge.ByHistory.{by_made, by_past, last_line, touch_by_line, touched_outside}
use Rattle.merge_model.specs.Publisher.Entries as entry
use Rattle.merge_model.specs.Failing.{Slips, faulty}
use Rattle.merge_model.specs.History.{History, Line, MadeChange, Past, has, past_at, past_in, pasts_with}
use Rattle.merge_model.specs.Judge.{PublisherJudge, SubscriberJudge}
use Rattle.merge_model.specs.Tables.Keys.{at_row_site, has_key, row_at, same_key}
use Rattle.merge_model.specs.History.Model.{Model, empty_model, model}
use Rattle.merge_model.specs.History.Noting
use Rattle.merge_model.specs.History.Pasts.{past_after}
use Rattle.merge_model.specs.Tables.Publications.{by_site}
use Rattle.merge_model.specs.Publisher.{last_closed, tables_after_close}
use Rattle.merge_model.specs.Publisher.PublisherDownload.{TouchedRow, batch_end, inside_keys, is_between, item_of, reply_to, tables_after_download, touched_row, touched_rows}
use Rattle.merge_model.specs.Publisher.PublisherJoin.{is_left_of, join_taken}
use Rattle.merge_model.specs.Publisher.PublisherLocal.{Drawn, changing_locally, draw_for_change, local_refusal, made_locally, next_dot, version_at, with_draw}
use Rattle.merge_model.specs.Publisher.PublisherPurge.{is_old_left, purge}
use Rattle.merge_model.specs.Publisher.PublisherRanges.{plans, reply_to_ranges, with_grants}
use Rattle.merge_model.specs.Publisher.PublisherUpload.{changing_by, taken_in, with_acts}
use Rattle.merge_model.specs.Subscriber.Reinit.{discarded_versions, result_of_reinit}
use Rattle.merge_model.specs.Failing.Runs.{model_behind}
use Rattle.merge_model.specs.Subscriber.Sending.{join_of, upload_sent, want_of, with_message}
use Rattle.merge_model.specs.World.Steps.{kept_decisions, upload_questions}
use Rattle.merge_model.specs.Subscriber.{subscriber_at_moment, subscriber_closed, subscriber_last_closed, subscriber_made_locally, subscriber_next_dot}
use Rattle.merge_model.specs.Tables.{PublisherTables, SubscriberTables}
use Rattle.merge_model.specs.Subscriber.Taking.{key_of_download, tables_after_reply}
use Rattle.merge_model.specs.World.{Saying, World, with_publisher, with_subscriber}
use Rattle.merge_model.specs.declared.event.Event.{Event}
use Rattle.merge_model.specs.declared.letter.Letter.{Letter}
use Rattle.merge_model.specs.declared.letter.Message.{Message}
use Rattle.merge_model.specs.declared.letter.Message.TheVariants.{Asks, Replies}
use Rattle.merge_model.proofs.Entries.Downloads.{inside-held}
use Rattle.merge_model.proofs.Lists.Finding.{all-more, all-weaker, letter-zip}
use Rattle.merge_model.proofs.Failing.KeptFailing.{runs-keep}
use Rattle.merge_model.proofs.Lists.KeyLists.{some-head}
use Rattle.merge_model.proofs.Lists.KeyLookUps.{key-itself, key-test}
use Rattle.merge_model.proofs.Lists.{OfSome, all-both, all-filter, all-filter_map, all-unit}
use Rattle.merge_laws.specs.Facts.Knowledge.{Knows, is_made, same_dot}
use Rattle.merge_laws.specs.Invariants.KnownMakers.{KnowsMaker}
use Rattle.merge_laws.specs.Laws.LastLines.{move_told}
use Rattle.merge_laws.specs.Facts.LineagesStand.{OfMessage}
use Rattle.merge_laws.proofs.Accounts.AccountElements.{IsIn, any-out}
use Rattle.merge_laws.proofs.Pasts.DotTests.{dot-itself}
use Rattle.merge_laws.proofs.Runs.Ground.{Ground}
use Rattle.merge_laws.proofs.Known.KnownRows.{held-knows, letter-knows, past-knows}
use Rattle.merge_laws.proofs.Lineages.LineagesAlways.{Kept, ground, kept-always, kept-step, kept-tallied}
use Rattle.merge_laws.proofs.Makers.MakerChanges.{own-held}
use Rattle.merge_laws.proofs.Walking.Noted.{acts-own}
use Rattle.merge_laws.proofs.Walking.NotesLeave.{fold-leave, reply-leave}
use Rattle.merge_laws.proofs.Told.ToldLetters.{letter-fits}
use Rattle.merge_laws.proofs.Told.ToldWalk.{every-keeps}
use Rattle.merge_laws.proofs.Walking.{Sends, StepsKeep, acts_in, comes, here, join_noted, own_noted, step-keeps, told_by, uploaded_world}
use Rattle.merge_owed.proofs.MadeStays.{AreAmong, acts-stay, join-stays, lines-stay}
use Rattle.merge_honest.proofs.EntryKeys.{MappingsHave, RowsHave, changed-have, place-has, row-has}
use Rattle.merge_honest.proofs.Named.{AllNamed, AreCarried, HasMaker, IsCarried, IsNamed, named-always, named-goes_on}
use Rattle.merge_honest.proofs.TookValues.{lines-on}

-- the identifier carries a change that made the row, where those of its changes that were made can be carried
abbrev pub KeyIsMade : List MadeChange → Key → Type 0
KeyIsMade made key = ((dot : Dot) → is_made made key dot ≡ true → IsCarried dot) → HasMaker key × ((maker : Dot) → maker_of key.row.0 ≡ Some maker → is_made made key maker ≡ true)

in-any : {X : Type 0} (test : X → Bool) (xs : List X) (x : X) → IsIn x xs → test x ≡ true → list_any test xs ≡ true
in-any test [] x inside is = absurd inside
in-any test (y ∷ xs) x (inl same) is = (let first : test y ≡ true = ap test same ∙ is in grind (arith, first))
in-any {X = X} test (y ∷ xs) x (inr later) is = (let rest = in-any {X = X} test xs x later is in grind (arith, rest))

still-made : (made more : List MadeChange) → AreAmong made more → (key : Key) (dot : Dot) → is_made made key dot ≡ true → is_made more key dot ≡ true
still-made made more among key dot is = any-out (is_made more key dot ≡ true) (λ (change : MadeChange). same_dot change.dot dot && same_key key change.key) made is
    (λ c inside passes. in-any (λ (change : MadeChange). same_dot change.dot dot && same_key key change.key) more c (among c inside) passes)

key-more : (made more : List MadeChange) → AreAmong made more → (key : Key) → KeyIsMade made key → KeyIsMade more key
key-more made more among key is carried =
    let both = is (λ dot there. carried dot (still-made made more among key dot there)) in
    (both.0, λ maker at. still-made made more among key maker (both.1 maker at))

-- a version that knows its maker
known-made : (made : List MadeChange) (key : Key) (known : List Dot) → Knows made key known → KnowsMaker key known → (AreCarried known → HasMaker key) → KeyIsMade made key
known-made made key known knows maker named carried = (named (λ dot is. carried dot (knows.made_here dot is)), λ dot at. knows.made_here dot (maker dot at))

-- the change that makes it
new-made : (publication : Publication) (dot : Dot) (generation : ℕ) (article : ℕ) (values : _) (value : Value) (past : Past) (made : List MadeChange)
    → (let key : Key = key_of dot (Insert article values) in KeyIsMade (Noting.made_change publication dot generation (Insert article values) value key past ∷ made) key)
new-made publication dot generation article values value past made carried =
    let key : Key = key_of dot (Insert article values) in
    let all : List MadeChange = Noting.made_change publication dot generation (Insert article values) value key past ∷ made in
    let there : is_made all key dot ≡ true = grind (arith, dot-itself dot, key-itself key) in
    let c : IsCarried dot = carried dot there in
    let is : maker_of key.row.0 ≡ Some dot = maker_of-made _ dot.site.0 dot.number (record { site_fits = c.site; from_one = c.from_one; fits = c.fits; same = refl }) in (
      ap (λ (found : Option Dot). is_some found) is,
      λ maker at. (let same : dot ≡ maker = (let both : (let found : Option Dot = Some dot in found) ≡ Some maker = sym is ∙ at in cc) in subst (λ (x : Dot). is_made all key x ≡ true) same there),
    )

abbrev pub ItemsMade : List MadeChange → Message → Type 0
ItemsMade made (Replies (reply.Downloaded m)) = AllByRecursion (λ (item : DownloadItem). KeyIsMade made (key_of_download item)) m.items
ItemsMade made message = Unit {0}

items-more : (made more : List MadeChange) → AreAmong made more → (message : Message) → ItemsMade made message → ItemsMade more message
items-more made more among (Replies (reply.Downloaded m)) all = all-weaker (λ (item : DownloadItem). KeyIsMade made (key_of_download item)) (λ (item : DownloadItem). KeyIsMade more (key_of_download item)) (λ item is. key-more made more among (key_of_download item) is) m.items all
items-more made more among (Replies (reply.Joined m)) all = tt
items-more made more among (Replies (reply.Uploaded m)) all = tt
items-more made more among (Replies (reply.Ranged m)) all = tt
items-more made more among (Replies (reply.Refused number values)) all = tt
items-more made more among (Asks m) all = tt

pub record MadeKeys (made : List MadeChange) (mappings : List (RowSite × Mapping)) (pool : List Letter) : Type 0 where
  pub moves : MappingsHave (KeyIsMade made) mappings
  pub letters : AllByRecursion (λ (letter : Letter). ItemsMade made letter.message) pool

made-on : (made more : List MadeChange) (mappings : List (RowSite × Mapping)) (pool : List Letter) → AreAmong made more → MadeKeys made mappings pool → MadeKeys more mappings pool
made-on made more mappings pool among i = record {
  moves = all-weaker (λ (e : RowSite × Mapping). KeyIsMade made e.0.key) (λ (e : RowSite × Mapping). KeyIsMade more e.0.key) (λ e is. key-more made more among e.0.key is) mappings i.moves;
  letters = all-weaker (λ (letter : Letter). ItemsMade made letter.message) (λ (letter : Letter). ItemsMade more letter.message) (λ letter is. items-more made more among letter.message is) pool i.letters;
}

same-on : (made more : List MadeChange) (mappings : List (RowSite × Mapping)) (pool : List Letter) → more ≡ made → MadeKeys made mappings pool → MadeKeys more mappings pool
same-on made more mappings pool same i = subst (λ (xs : List MadeChange). MadeKeys xs mappings pool) (sym same) i

posts-on : (made : List MadeChange) (mappings : List (RowSite × Mapping)) (pool : List Letter) (site : SiteId) (message : Message) → ItemsMade made message → MadeKeys made mappings pool → MadeKeys made mappings (pool ++ record { site = site; message = message } ∷ [])
posts-on made mappings pool site message new i = record { moves = i.moves; letters = all-more (λ (letter : Letter). ItemsMade made letter.message) pool (record { site = site; message = message }) i.letters new }

moves-on : (made : List MadeChange) (mappings others : List (RowSite × Mapping)) (pool : List Letter) → MappingsHave (KeyIsMade made) others → MadeKeys made mappings pool → MadeKeys made others pool
moves-on made mappings others pool moves i = record { moves = moves; letters = i.letters }

-- The rows of an upload's acts.

module _ (P : Key → Type 0) where
  acts-have : (judge : PublisherJudge) (site : SiteId) (p : PublisherTables) (number : ℕ) (decisions : List Decision) (items : List UploadItem) → AllByRecursion (λ (item : UploadItem). P (key_of_item item)) items
      → AllByRecursion (λ (act : Act). P act.key) (acts_from judge site p number decisions items)
  acts-have judge site p number decisions [] all = tt
  acts-have judge site p number decisions (item ∷ items) all =
      (let act : Act = act_of judge site p number decisions item in (all.0, acts-have judge site p (number + made_by act.fate) (left_by act.fate decisions) items all.1))

  act-version : (key : Key) (found : Option Version) → P key → OfSome (λ (row : Key × Version). P row.0) (let row : Option (Key × Version) = elim found [ None ↦ None | Some version ↦ Some (key, version) ] in row)
  act-version key None here = tt
  act-version key (Some version) here = here

  versions-have : (acts : List Act) → AllByRecursion (λ (act : Act). P act.key) acts → RowsHave P (versions_of acts)
  versions-have acts all = all-filter_map (λ (act : Act). P act.key) (λ (row : Key × Version). P row.0) version_of_act (λ act here. act-version act.key (version_by act.incoming act.fate) here) acts all

  keys-acted : (acts : List Act) → AllByRecursion (λ (act : Act). P act.key) acts → AllByRecursion P (map (λ (act : Act). act.key) acts)
  keys-acted [] all = tt
  keys-acted (act ∷ acts) all = (all.0, keys-acted acts all.1)

  version-one : (key : Key) (found : Option Version) → P key → RowsHave P (map (λ (version : Version). (let row : Key × Version = (key, version) in row)) (option_to_list found))
  version-one key None here = tt
  version-one key (Some version) here = (here, tt)

  -- the rows that are told
  items-have : (p : PublisherTables) (rows : List TouchedRow) → AllByRecursion (λ (row : TouchedRow). P row.key) rows → AllByRecursion (λ (item : DownloadItem). P (key_of_download item)) (map (item_of p) rows)
  items-have p [] all = tt
  items-have p (row ∷ rows) all = (all.0, items-have p rows all.1)

  touched-some : (key : Key) (is_in : Bool) (found : Option ℕ) → ((generation : ℕ) → found ≡ Some generation → P key) → OfSome (λ (row : TouchedRow). P row.key) (option_map (λ (generation : ℕ). (let row : TouchedRow = record { key = key; is_in = is_in; generation = generation } in row)) found)
  touched-some key is_in None each = tt
  touched-some key is_in (Some generation) each = each generation refl

told-some : (found : Option Line) (generation : ℕ) → touched_outside found ≡ Some generation → is_some (move_told found) ≡ true
told-some None generation is = absurd cc
told-some (Some line) generation is = by-kind line.kind line.generation is
  where
    by-kind : (kind : _) (at : ℕ) → touched_outside (Some (record { key = line.key; kind = kind; generation = at })) ≡ Some generation → is_some (move_told (Some (record { key = line.key; kind = kind; generation = at }))) ≡ true
    by-kind kind at is = grind (arith, is)

-- each of its rows is found at its key
found-each : (rows : List (Key × PublisherRow)) → AllByRecursion (λ (row : Key × PublisherRow). is_some (row_at rows row.0) ≡ true) rows
found-each [] = tt
found-each (row ∷ rows) = (
  (let here = some-head (is_at (key_cmp row.0) row.0) row.1 (row_at rows row.0) in let test = key-test row.0 row.0 in let itself = key-itself row.0 in grind (arith, here, test, itself)),
  all-weaker (λ (other : Key × PublisherRow). is_some (row_at rows other.0) ≡ true) (λ (other : Key × PublisherRow). is_some (row_at (row ∷ rows) other.0) ≡ true)
      (λ other is. (let there = some-head (is_at (key_cmp other.0) row.0) row.1 (row_at rows other.0) in grind (arith, there, is))) rows (found-each rows),
)

module _ (publication : Publication) where
  abbrev Base : World → History → Type 0
  Base w h = Kept publication (record { world = w; history = h }) × AllNamed (record { world = w; history = h })

  abbrev OfNamed : World → History → Type 0
  OfNamed w h = AllNamed (record { world = w; history = h })

  abbrev In : World → History → Type 0
  In w h = MadeKeys h.made w.publisher.mappings w.pool

  rows-made : (w : World) (h : History) → Base w h → RowsHave (KeyIsMade h.made) w.publisher.rows
  rows-made w h b =
      let m : Model = record { world = w; history = h } in
      all-both (λ (row : Key × PublisherRow). IsNamed row.0 row.1.version (past_at h 0 row.0)) (λ (row : Key × PublisherRow). is_some (row_at w.publisher.rows row.0) ≡ true) (λ (row : Key × PublisherRow). KeyIsMade h.made row.0)
      (λ row named found. known-made h.made row.0 (past_at h 0 row.0).known (held-knows h 0 row.0 (ground publication m b.0).known.knowledge) (b.0.accepted.makers.here row.0 found) named) w.publisher.rows b.1.publisher (found-each w.publisher.rows)

  items-made : (w : World) (h : History) (number : ℕ) (site : SiteId) (u : Upload) → Base w h → comes w number site (Asks (request.Upload u)) → AllByRecursion (λ (item : UploadItem). KeyIsMade h.made (key_of_item item)) u.items
  items-made w h number site u b at =
      let m : Model = record { world = w; history = h } in
      let letter : Letter = record { site = site; message = Asks (request.Upload u) } in
      let pasts : List (Key × Past) = pasts_with h number in
      all-both (λ (item : UploadItem). KnowsMaker (key_of_item item) (past_in pasts (key_of_item item)).known) (λ (item : UploadItem). IsNamed (key_of_item item) item.version (past_in pasts (key_of_item item))) (λ (item : UploadItem). KeyIsMade h.made (key_of_item item))
      (λ item maker named. known-made h.made (key_of_item item) (past_in pasts (key_of_item item)).known (past-knows h.made (key_of_item item) pasts (letter-knows h number (ground publication m b.0).known.knowledge)) maker named) u.items
      (letter-zip (λ (x : Letter) (ps : List (Key × Past)). OfMessage (λ (key : Key) (version : Version) (past : Past). KnowsMaker key past.known) ps x.message) w h number letter b.0.accepted.makers.letters at)
      (letter-fits IsNamed w h number letter at b.1.letters)

  -- A reply tells of rows that are held, or that moved.
  touched-made : (w : World) (h : History) (judge : PublisherJudge) (site : SiteId) (p : PublisherTables) → p.rows ≡ w.publisher.rows → judge.touch ≡ touch_by_line h → Base w h → In w h → (key : Key) (is_in : Bool) → has_key (inside_keys publication site p) key ≡ is_in
      → (generation : ℕ) → touch_by_line h key site.0 is_in ≡ Some generation → KeyIsMade h.made key
  touched-made w h judge site p same touch b i key true is generation at =
      row-has (KeyIsMade h.made) w.publisher.rows key (rows-made w h b) (subst (λ (rows : List (Key × PublisherRow)). is_some (row_at rows key) ≡ true) same (inside-held publication site p key is))
  touched-made w h judge site p same touch b i key false is generation at =
      let m : Model = record { world = w; history = h } in
      let place : RowSite = record { key = key; site = site.0 } in
      let told : is_some (at_row_site w.publisher.mappings place) ≡ true = ap (λ (found : Option Mapping). is_some found) ((ground publication m b.0).lines.moves key site.0) ∙ told-some (last_line h key site.0) generation at in
      place-has (KeyIsMade h.made) w.publisher.mappings place i.moves told

  reply-made : (w : World) (h : History) (number : ℕ) (m : Download) → Base w h → In w h → (let q : PublisherTables = tables_after_download m (here w) in ItemsMade h.made (Replies (reply.Downloaded (reply_to publication (by_past h (pasts_with h number)) m q))))
  reply-made w h number m b i =
      let judge : PublisherJudge = by_past h (pasts_with h number) in
      let q : PublisherTables = tables_after_download m (here w) in
      let inside : List Key = inside_keys publication m.site q in
      let keys : List Key = entry.keys_of q.rows (judge.moved_rows m.site.0) in
      let sent = reply_to publication judge m q in
      items-have (KeyIsMade h.made) q (filter (is_between m.from sent.to) (touched_rows publication judge m.site q))
      (all-filter (λ (row : TouchedRow). KeyIsMade h.made row.key) (is_between m.from sent.to) (touched_rows publication judge m.site q)
      (all-filter_map (λ (key : Key). Unit {0}) (λ (row : TouchedRow). KeyIsMade h.made row.key) (touched_row judge m.site inside)
      (λ key unit. touched-some (KeyIsMade h.made) key (has_key inside key) (judge.touch key m.site.0 (has_key inside key)) (λ generation at. touched-made w h judge m.site q refl refl b i key (has_key inside key) refl generation at)) keys (all-unit keys)))

  module _ (says : Saying) where
    -- a local change at the publisher
    own-key : (w : World) (h : History) (change : Change) (d : Drawn) → Base w h → local_refusal publication change w.publisher ≡ None
        → (let p : PublisherTables = here w in let dot : Dot = next_dot p in KeyIsMade (Noting.with_change publication dot (last_closed p + 1) change d.value h).made (key_of dot change))
    own-key w h (Insert article values) d b fine = new-made publication (next_dot (here w)) (last_closed w.publisher + 1) article values d.value (past_after publication (next_dot (here w)) (Insert article values) (past_at h 0 (key_of (next_dot (here w)) (Insert article values)))) h.made
    own-key w h (Update article row values) d b fine = key-more h.made (Noting.with_change publication (next_dot (here w)) (last_closed (here w) + 1) (Update article row values) d.value h).made (λ c is. inr is) (key_of (next_dot (here w)) (Update article row values))
        (row-has (KeyIsMade h.made) w.publisher.rows (key_of (next_dot (here w)) (Update article row values)) (rows-made w h b) (own-held publication (Update article row values) w.publisher fine refl))
    own-key w h (Delete article row) d b fine = key-more h.made (Noting.with_change publication (next_dot (here w)) (last_closed (here w) + 1) (Delete article row) d.value h).made (λ c is. inr is) (key_of (next_dot (here w)) (Delete article row))
        (row-has (KeyIsMade h.made) w.publisher.rows (key_of (next_dot (here w)) (Delete article row)) (rows-made w h b) (own-held publication (Delete article row) w.publisher fine refl))

    own-on : (w : World) (h : History) (change : Change) (d : Drawn) → Base w h → In w h → local_refusal publication change w.publisher ≡ None
        → (let judge : PublisherJudge = by_past h (pasts_with h 0) in In (with_publisher (made_locally publication judge change d (here w)).0 w) (own_noted publication judge change d (here w) h))
    own-on w h change d b i fine =
        let judge : PublisherJudge = by_past h (pasts_with h 0) in
        let p : PublisherTables = here w in
        let dot : Dot = next_dot p in
        let k : History = Noting.with_change publication dot (last_closed p + 1) change d.value h in
        let grown : MadeKeys k.made w.publisher.mappings w.pool = made-on h.made k.made w.publisher.mappings w.pool (λ c is. inr is) i in
        let rows : RowsHave (KeyIsMade k.made) p.rows = all-weaker (λ (row : Key × PublisherRow). KeyIsMade h.made row.0) (λ (row : Key × PublisherRow). KeyIsMade k.made row.0) (λ row is. key-more h.made k.made (λ c is_in. inr is_in) row.0 is) w.publisher.rows (rows-made w h b) in
        let versions = version-one (KeyIsMade k.made) (key_of dot change) (version_after publication dot d.value change (version_at (here w) (key_of dot change))) (own-key w h change d b fine) in
        let moves = changed-have (KeyIsMade k.made) publication judge (changing_locally publication change d.value p) (with_draw d p) rows versions tt grown.moves in
        same-on k.made (own_noted publication judge change d p h).made (made_locally publication judge change d p).0.mappings w.pool (lines-on (Noting.lines_of_entries (last_closed p + 1) (Noting.drawn_entries publication judge change p d)) k)
        (moves-on k.made w.publisher.mappings (made_locally publication judge change d p).0.mappings w.pool moves grown)

    upload-on : (w : World) (h : History) (number : ℕ) (m : Upload) → Base w h → In w h → comes w number m.site (Asks (request.Upload m))
        → (let judge : PublisherJudge = by_past h (pasts_with h number) in let q : PublisherTables = taken_in publication judge m (acts_in publication says judge m w) (here w) in
        MadeKeys (Noting.with_acts_noted publication judge m (acts_in publication says judge m w) (pasts_with h number) (here w) h).made q.mappings w.pool)
    upload-on w h number m b i at =
        let judge : PublisherJudge = by_past h (pasts_with h number) in
        let decisions : List Decision = kept_decisions says w.tallies (upload_questions publication judge w.moment m w.publisher) in
        let acts : List Act = acts_in publication says judge m w in
        let q : PublisherTables = taken_in publication judge m acts (here w) in
        let have : AllByRecursion (λ (act : Act). KeyIsMade h.made act.key) acts = acts-have (KeyIsMade h.made) judge m.site (here w) (w.publisher.changes + 1) decisions (acting_items judge m)
        (all-filter (λ (item : UploadItem). KeyIsMade h.made (key_of_item item)) (λ (item : UploadItem). not (judge.has_acted m.site.0 item.generation)) m.items (items-made w h number m.site m b at)) in
        let moves = changed-have (KeyIsMade h.made) publication judge (changing_by m acts) (with_acts publication m acts (here w)) (rows-made w h b) (versions-have (KeyIsMade h.made) acts have) (keys-acted (KeyIsMade h.made) acts have) i.moves in
        made-on h.made (Noting.with_acts_noted publication judge m acts (pasts_with h number) (here w) h).made q.mappings w.pool (acts-stay publication judge m acts (pasts_with h number) (here w) h (acts-own judge m decisions (here w)))
        (moves-on h.made w.publisher.mappings q.mappings w.pool moves i)

    keys-keep : StepsKeep publication says Base In
    keys-keep = record {
      moment = λ w h now b i. i;
      own_change = λ w h change d b i fine is. own-on w h change d b i fine;
      own_closing = λ w h b i. i;
      forgetting = λ w h b i. (
          let judge : PublisherJudge = by_past h (pasts_with h 0) in
          let p : PublisherTables = here w in
          let keys : List Key = Noting.old_tombstones publication p in
          let lines : List Line = map (Noting.gone_line (last_closed p + 1)) (flat_map (Noting.old_left publication judge p) (map Noting.site_of_subscription (by_site publication))) in
          let left : List (RowSite × Mapping) = (purge publication w.moment w.publisher).0.mappings in
          same-on h.made (Noting.noted_purge publication judge p h).made left w.pool (lines-on lines (fold Noting.with_purged h keys) ∙ fold-leave (λ (x : History). x.made) Noting.with_purged (λ x key. refl) keys h)
          (moves-on h.made w.publisher.mappings left w.pool (all-filter (λ (e : RowSite × Mapping). KeyIsMade h.made e.0.key) (λ (e : RowSite × Mapping). not (is_old_left publication p e)) w.publisher.mappings i.moves) i));
      same = λ w h s b i at. i;
      subscriber_change = λ w h s change d b i at named fine is. made-on h.made (Noting.with_change publication (subscriber_next_dot s) (subscriber_last_closed s + 1) change d.0 h).made w.publisher.mappings w.pool (λ c inside. inr inside) i;
      subscriber_closing = λ w h s b i at. i;
      anew = λ w h s b i at. (let judge : SubscriberJudge = by_made h s.site in
          same-on h.made (Noting.noted_anew judge s h).made w.publisher.mappings w.pool (fold-leave (λ (x : History). x.made) (Noting.with_discarded s.site) (λ x row. refl) (discarded_versions judge s) h) i);
      sends_join = λ w h s b i at joining. posts-on h.made w.publisher.mappings w.pool s.site (Asks (request.Join (join_of s))) tt i;
      sends_upload = λ w h s b i at fine. posts-on h.made w.publisher.mappings w.pool s.site (Asks (request.Upload (upload_sent (by_made h s.site) (subscriber_closed (subscriber_at_moment w.moment s))).1)) tt i;
      sends_ranges = λ w h s b i at fine. posts-on h.made w.publisher.mappings w.pool s.site (Asks (request.Ranges (record { site = s.site; seq = s.seq + 1; wants = map want_of s.held }))) tt i;
      sends_ask = λ w h s b i at fine. posts-on h.made w.publisher.mappings w.pool s.site (Asks (request.Download (record { site = s.site; seq = s.seq + 1; from = s.watermark }))) tt i;
      joins = λ w h number m b i at fine acts. (
          let k : History = join_noted (by_past h (pasts_with h number)) m w.publisher h in
          let left : List (RowSite × Mapping) = (join_taken m (here w)).mappings in
          posts-on k.made left w.pool m.site (Replies (reply.Joined (record { seq = m.seq }))) tt
          (made-on h.made k.made left w.pool (join-stays (by_past h (pasts_with h number)) m w.publisher h)
          (moves-on h.made w.publisher.mappings left w.pool (all-filter (λ (e : RowSite × Mapping). KeyIsMade h.made e.0.key) (λ (e : RowSite × Mapping). not (is_left_of m.site e)) w.publisher.mappings i.moves) i)));
      joins_again = λ w h number m b i at acts. posts-on h.made w.publisher.mappings w.pool m.site (Replies (reply.Joined (record { seq = m.seq }))) tt i;
      uploads = λ w h number m b i at fine news. (let judge : PublisherJudge = by_past h (pasts_with h number) in
          posts-on (Noting.with_acts_noted publication judge m (acts_in publication says judge m w) (pasts_with h number) (here w) h).made (taken_in publication judge m (acts_in publication says judge m w) (here w)).mappings w.pool m.site (Replies (reply.Uploaded (told_by judge m))) tt
          (upload-on w h number m b i at));
      uploads_again = λ w h number m b i at old. posts-on h.made w.publisher.mappings w.pool m.site (Replies (reply.Uploaded (told_by (by_past h (pasts_with h number)) m))) tt i;
      answers_ranges = λ w h site m b i. posts-on h.made w.publisher.mappings w.pool site (Replies (reply.Ranged (reply_to_ranges m (plans publication m w.publisher)))) tt i;
      answers_ask = λ w h number site m b i at fine. posts-on h.made w.publisher.mappings w.pool site (Replies (reply.Downloaded (reply_to publication (by_past h (pasts_with h number)) m (tables_after_download m (here w))))) (reply-made w h number m b i) i;
      replies = λ w h s number m sent b i at there out fits. (let judge : SubscriberJudge = by_made h s.site in
          same-on h.made (Noting.noted_reply judge s.site (pasts_with h number) m h).made w.publisher.mappings w.pool (reply-leave (λ (x : History). x.made) (λ x pasts. refl) judge s.site (pasts_with h number) m h) i);
    }

    pub keys-always : (tallies : List ℕ) (slips : Slips) (events : List Event) → (resolvers : ℕ) × IsValid resolvers publication → (let m : Model = model_behind publication says tallies slips events in In m.world m.history)
    keys-always tallies slips events valid = (runs-keep publication (model publication says) (λ (m : Model). (Kept publication m × AllNamed m) × In m.world m.history)
        (λ m action both. ((kept-step publication m both.0.0 says action, step-keeps publication says (Ground publication) OfNamed (λ w h g. g.received) (every-keeps publication says IsNamed (named-goes_on publication)) m action (ground publication m both.0.0) both.0.1), step-keeps publication says Base In (λ w h b. (ground publication (record { world = w; history = h }) b.0).received) keys-keep m action both.0 both.1))
        (λ m others both. ((kept-tallied publication m others both.0.0, record { publisher = both.0.1.publisher; subscribers = both.0.1.subscribers; letters = both.0.1.letters; conflicts = both.0.1.conflicts; discards = both.0.1.discards }), record { moves = both.1.moves; letters = both.1.letters })) events
        (faulty (empty_model publication tallies) slips)
        ((kept-always publication valid says tallies [] [], named-always publication says tallies [] [] valid), record { moves = tt; letters = tt })).1
