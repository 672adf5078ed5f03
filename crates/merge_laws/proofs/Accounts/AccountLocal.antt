-- A local change at a subscriber keeps what is accounted for.
use Rattle.std.specs.Prelude.{◌≡◌, ◌≤◌, ◌<◌, ◌+◌, ℕ, List, [], ◌∷◌, Bool, true, false, Option, Some, None, refl, if◌then◌else◌, is_some, length}
use Rattle.std.proofs.Common.{arith, subst, sym, ap, ◌∙◌}
use Rattle.std.proofs.lemmas.Bool.Decides.{nat_tests}
use Rattle.merge_types.specs.declared.changes.Change.{Change}
use Rattle.merge_types.specs.declared.identifiers.Dot.{Dot}
use Rattle.merge_types.specs.declared.identifiers.SiteId.{SiteId}
use Rattle.merge_types.specs.declared.values.Value.{Value}
use Rattle.merge_units.specs.declared.version.Version.{Version}
use Rattle.merge_table.proofs.Sorted.{sorted_put}
use Rattle.merge_ident.specs.Holders.{Holder}
use Rattle.merge_schema.specs.declared.publication.Publication.{Publication}
use Rattle.merge_batch.specs.declared.request.Request.TheVariants as request
use Rattle.merge_model.proofs.Publishers.Sorted.{key_total}
use Rattle.merge_model.specs.Judge.ByNumbers.{received_by_number}
use Rattle.merge_model.specs.Tables.Changes.{change_refusal, is_insert, key_of, no_row, version_after}
use Rattle.merge_model.specs.History.{History, MadeChange, Past, has, past_at, past_in, pasts_at}
use Rattle.merge_types.specs.RowKeys.{key_cmp}
use Rattle.merge_model.specs.Tables.Keys.{at_number, put_number, put_row, same_key}
use Rattle.merge_model.specs.History.Noting
use Rattle.merge_model.specs.History.Pasts.{cell_count}
use Rattle.merge_model.specs.Publisher.PublisherLocal.{version_at}
use Rattle.merge_model.specs.Tables.Refusals.{counter_end}
use Rattle.merge_model.specs.Subscriber.{generations_at, is_joining, subscriber_at_moment, subscriber_counters, subscriber_last_closed, subscriber_local_refusal, subscriber_made_locally, subscriber_next_dot, subscriber_version_at, with_open, with_version, with_version_if}
use Rattle.merge_types.specs.declared.row_key.RowKey.{RowKey as Key}
use Rattle.merge_units.specs.declared.site_row.SubscriberRow.{SubscriberRow}
use Rattle.merge_model.specs.Tables.{SubscriberTables}
use Rattle.merge_model.specs.World.{World, subscriber_at, with_subscriber}
use Rattle.merge_model.specs.declared.letter.Message.TheVariants.{Asks, Replies}
use Rattle.merge_model.specs.declared.letter.Letter.{Letter}
use Rattle.merge_model.specs.declared.letter.Message.{Message}
use Rattle.merge_laws.specs.Facts.Accounts.{Accounts, GrownAlone, OfAccounts, SendsAll, Traced, is_settled}
use Rattle.merge_laws.specs.Facts.Knowledge.{is_made}
use Rattle.merge_laws.specs.Facts.LineagesStand.{is_of}
use Rattle.merge_laws.specs.Facts.Received.{LetterFits, MessageFits, joined_at}
use Rattle.merge_laws.specs.Facts.Standing.{Told}
use Rattle.merge_laws.proofs.Accounts.AccountBase.{Base, held-told}
use Rattle.merge_laws.proofs.Accounts.AccountChains.{alone-later}
use Rattle.merge_laws.proofs.Accounts.AccountFits.{ChangeFits, IsHeld, change-fits, made_of}
use Rattle.merge_laws.proofs.Accounts.AccountHistory.{traced-new}
use Rattle.merge_laws.proofs.Accounts.AccountSending.{received-safe, site-away}
use Rattle.merge_laws.proofs.Accounts.AccountSites.{held-made, received-own, sent-made, sub-accounts}
use Rattle.merge_model.proofs.Runs.Refusals.{first-none}
use Rattle.merge_model.proofs.Lists.Finding.{all-weaker, some_same}
use Rattle.merge_laws.proofs.Runs.Ground.{Ground}
use Rattle.merge_model.proofs.Lists.KeyLookUps.{key-itself, keys-same}
use Rattle.merge_laws.proofs.Known.Knowing.{IsFresh}
use Rattle.merge_laws.proofs.Known.KnownRows.{held-knows}
use Rattle.merge_model.proofs.Lists.{zip-first}
use Rattle.merge_laws.proofs.Own.OwnKnowing.{NoneOf}
use Rattle.merge_laws.proofs.Own.OwnLocal.{sub-fresh, sub-none}
use Rattle.merge_laws.proofs.Pasts.PastLookUps.{past-put}
use Rattle.merge_laws.proofs.Numbered.Telling.{version-there}
use Rattle.merge_laws.proofs.Told.ToldRows.{found-put, rows-found}

-- nothing is known of a row of which no change was made
pub none-made : (made : List MadeChange) (key : Key) (dot : Dot) → NoneOf made key → is_made made key dot ≡ false
none-made [] key dot none = refl
none-made (c ∷ made) key dot none = grind (arith, none.0, none-made made key dot none.1)

-- with a version that there is
pub with-some : {A : Type 0} (P : Option A → Type 0) (found : Option A) → is_some found ≡ true → ((x : A) → found ≡ Some x → P (Some x)) → P found
with-some P None there each = absurd cc
with-some P (Some x) there each = each x refl

-- An upload that was made before has no change of an open generation.
sends-later : (joined : ℕ) (site : SiteId) (found : Option SubscriberTables) (made : List MadeChange) (c : MadeChange) (pasts : List (Key × Past)) (message : Message)
    → ((s : SubscriberTables) → found ≡ Some s → c.dot.site.0 ≡ site.0 → subscriber_last_closed s < c.generation) → MessageFits joined site found message → SendsAll made pasts message → SendsAll (c ∷ made) pasts message
sends-later joined site None made c pasts (Asks (request.Upload m)) closed fits all = absurd fits
sends-later joined site (Some s) made c pasts (Asks (request.Upload m)) closed fits all = (
  λ own low high. absurd (
      let same : c.dot.site.0 ≡ site.0 = (let mine : c.dot.site.0 ≡ m.site.0 = grind (arith, nat_tests, own) in mine ∙ ap (λ (x : SiteId). x.0) fits.0) in
      let above = closed s refl same in
      let up : m.to ≤ subscriber_last_closed s = fits.1 in
      omega (arith, above, up, high)
      ),
  all,
)
sends-later joined site found made c pasts (Asks (request.Join m)) closed fits all = tt
sends-later joined site found made c pasts (Asks (request.Ranges m)) closed fits all = tt
sends-later joined site found made c pasts (Asks (request.Download m)) closed fits all = tt
sends-later joined site found made c pasts (Replies m) closed fits all = tt

-- At a subscriber.
module _ (publication : Publication) (w : World) (h : History) (s : SubscriberTables) (change : Change) (d : Value × List (ℕ × Holder)) (b : Base publication w h) (a : OfAccounts publication w h) (at : subscriber_at w s.site ≡ Some s)
    (fine : subscriber_local_refusal publication change s ≡ None) where
  abbrev g : Ground publication w h
  g = b.0

  away : s.site.0 ≡ 0 → ⊥
  away = site-away publication w h s b a at

  abbrev dot : Dot
  dot = subscriber_next_dot s

  abbrev key : Key
  key = key_of dot change

  abbrev past : Past
  past = past_at h s.site.0 key

  abbrev c : MadeChange
  c = made_of publication dot (subscriber_last_closed s + 1) change d.0 past

  abbrev after : History
  after = Noting.with_change publication dot (subscriber_last_closed s + 1) change d.0 h

  abbrev v : SubscriberTables
  v = record (subscriber_at_moment w.moment s) { changes = s.changes + 1; held = d.1 }

  fresh : IsFresh h.made dot
  fresh = sub-fresh publication w h s change g.known at away

  refused : change_refusal publication dot change (subscriber_version_at s key) (length s.rows) ≡ None
  refused =
      let joins = first-none (is_joining s) _ fine in
      let counted = first-none (counter_end (subscriber_counters s)) _ joins.1 in
      (first-none (change_refusal publication dot change (subscriber_version_at s key) (length s.rows)) [] counted.1).0

  new-nothing : is_insert change ≡ true → (other : Dot) → has past.known other ≡ false
  new-nothing is other = nothing (has past.known other) refl
    where
      nothing : (x : Bool) → has past.known other ≡ x → x ≡ false
      nothing true e =
          let there = held-made h g.known.knowledge s.site.0 key other e in
          let none = none-made h.made key other (sub-none publication w h s change g.known at away a.named b.1.1.counts.makers fine is) in
          absurd (grind (arith, there, none))
      nothing false e = refl

  held : IsHeld publication h key past (subscriber_version_at s key)
  held = record {
    grown = λ version is. (a.subscribers s.site.0 s key version at is).0;
    tops = λ version is. (held-told (subscriber_version_at s key) version key past is (rows-found (λ (row : SubscriberRow). row.version) (λ (k : Key) (x : Version) (p : Past). Told x p.known) (past_at h s.site.0) s.rows (b.1.0.subscribers s.site.0 s at) key)).tops;
    closed = (held-knows h s.site.0 key g.known.knowledge).closed;
    traced = a.held s.site.0 key;
  }

  module _ (version : Version) (is : version_after publication dot d.0 change (subscriber_version_at s key) ≡ Some version) where
    fits : ChangeFits publication h key past c version
    fits = change-fits publication h dot (subscriber_last_closed s + 1) d.0 fresh past change (subscriber_version_at s key) (length s.rows) refused new-nothing held version is

    abbrev t : SubscriberTables
    t = with_version key version v

    abbrev rows : List (Key × Past)
    rows = put_row (pasts_at h s.site.0) key c.past

    own-past : (q : Key) → same_key q key ≡ true → past_in rows q ≡ c.past
    own-past q same = past-put (pasts_at h s.site.0) key c.past q ∙ ap (λ (x : Bool). if x then c.past else past_at h s.site.0 q) same

    other-past : (q : Key) → same_key q key ≡ false → past_in rows q ≡ past_at h s.site.0 q
    other-past q differs = past-put (pasts_at h s.site.0) key c.past q ∙ ap (λ (x : Bool). if x then c.past else past_at h s.site.0 q) differs

    found-is : (q : Key) (x : Bool) → same_key q key ≡ x → subscriber_version_at t q ≡ (let o : Option Version = if x then Some version else subscriber_version_at s q in o)
    found-is q x same = found-put (λ (row : SubscriberRow). row.version) s.rows key (record { version = version; generations = with_open (subscriber_last_closed v + 1) (generations_at v key) }) q
        ∙ ap (λ (y : Bool). (let o : Option Version = if y then Some version else subscriber_version_at s q in o)) same

    grown-by : (q : Key) (x : Version) (y : Bool) → same_key q key ≡ y → subscriber_version_at t q ≡ Some x → GrownAlone (cell_count publication q.article) (c ∷ h.made) q x.body (past_in rows q).chains
    grown-by q x true same found =
        let one : version ≡ x = some_same version x (sym (found-is q true same) ∙ found) in
        subst (λ (p : Past). GrownAlone (cell_count publication q.article) (c ∷ h.made) q x.body p.chains) (sym (own-past q same))
        (subst (λ (z : Version). GrownAlone (cell_count publication q.article) (c ∷ h.made) q z.body c.past.chains) one
        (subst (λ (k : Key). GrownAlone (cell_count publication k.article) (c ∷ h.made) k version.body c.past.chains) (sym (keys-same q key same)) fits.grown))
    grown-by q x false differs found =
        subst (λ (p : Past). GrownAlone (cell_count publication q.article) (c ∷ h.made) q x.body p.chains) (sym (other-past q differs))
        (alone-later c (cell_count publication q.article) h.made q x.body (past_at h s.site.0 q).chains (a.subscribers s.site.0 s q x at (sym (found-is q false differs) ∙ found)))

    traced-by : (q : Key) (y : Bool) → same_key q key ≡ y → Traced (c ∷ h.made) h.lost h.purged (past_at h 0 q) q (past_in rows q)
    traced-by q true same =
        subst (λ (p : Past). Traced (c ∷ h.made) h.lost h.purged (past_at h 0 q) q p) (sym (own-past q same))
        (subst (λ (k : Key). Traced (c ∷ h.made) h.lost h.purged (past_at h 0 k) k c.past) (sym (keys-same q key same)) (record { holds = fits.holds; ends = fits.ends }))
    traced-by q false differs =
        subst (λ (p : Past). Traced (c ∷ h.made) h.lost h.purged (past_at h 0 q) q p) (sym (other-past q differs))
        (traced-new (Some c) h.made h.lost h.purged (past_at h 0 q) q (past_at h s.site.0 q) fresh (held-made h g.known.knowledge s.site.0 q) (a.held s.site.0 q))

    unsent-by : (x : MadeChange) (y : Bool) → same_key x.key key ≡ y → has (past_at h s.site.0 x.key).known x.dot ≡ true → has (past_in rows x.key).known x.dot ≡ true
    unsent-by x true same old = subst (λ (p : Past). has p.known x.dot ≡ true) (sym (own-past x.key same)) (fits.grows x.dot (subst (λ (k : Key). has (past_at h s.site.0 k).known x.dot ≡ true) (keys-same x.key key same) old))
    unsent-by x false differs old = subst (λ (p : Past). has p.known x.dot ≡ true) (sym (other-past x.key differs)) old

    -- the change stands in the open generation
    new-open : is_settled (put_number w.subscribers s.site.0 t) h c ≡ true → ⊥
    new-open settled =
        let fits_site = g.received.subscribers s.site.0 s at in
        let taken : received_by_number w.publisher s.site.0 ≤ subscriber_last_closed s = fits_site.taken in
        let own : s.received ≤ subscriber_last_closed s = fits_site.own in
        let done = g.received.done s.site.0 (subscriber_last_closed s + 1) (omega arith) in
        let received = received-own w.subscribers s.site.0 t in
        absurd (grind (arith, nat_tests, settled, taken, own, done, received, away))

    closed-before : (site : SiteId) (u : SubscriberTables) → at_number w.subscribers site.0 ≡ Some u → c.dot.site.0 ≡ site.0 → subscriber_last_closed u < c.generation
    closed-before site u there same =
        let one : s ≡ u = some_same s u (sym at ∙ ap (λ (n : ℕ). at_number w.subscribers n) same ∙ there) in
        subst (λ (x : SubscriberTables). subscriber_last_closed x < subscriber_last_closed s + 1) one (omega arith)

    sub-with : Accounts publication (version_at w.publisher) (put_number w.subscribers s.site.0 t) w.pool after
    sub-with = sub-accounts publication (version_at w.publisher) w.subscribers w.pool h a s.site.0 away s t at (Some c) rows h.lost (λ k place other kept. kept) (held-made h g.known.knowledge) (sent-made h g.known.knowledge) fresh refl
        (sorted_put key_cmp key_total key c.past (pasts_at h s.site.0) (a.sorted s.site.0)) (λ q x found. grown-by q x (same_key q key) refl found) (λ q. traced-by q (same_key q key) refl) (
          λ own above. subst (λ (p : Past). has p.known c.dot ≡ true) (sym (own-past key (key-itself key))) fits.knows,
          all-weaker (λ (x : MadeChange). is_of s.site.0 x ≡ true → s.received < x.generation → has (past_at h s.site.0 x.key).known x.dot ≡ true) (λ (x : MadeChange). is_of s.site.0 x ≡ true → s.received < x.generation → has (past_in rows x.key).known x.dot ≡ true)
              (λ x old own above. unsent-by x (same_key x.key key) refl (old own above)) h.made (a.unsent s.site.0 s at),
        )
        (received-safe publication w h s b a at)
        (zip-first (LetterFits w.subscribers w.publisher) (λ (letter : Letter) (pasts : List (Key × Past)). SendsAll h.made pasts letter.message) (λ (letter : Letter) (pasts : List (Key × Past)). SendsAll (c ∷ h.made) pasts letter.message)
        (λ letter pasts known all. sends-later (joined_at w.publisher letter.site) letter.site (at_number w.subscribers letter.site.0) h.made c pasts letter.message (λ u there same. closed-before letter.site u there same) known all) w.pool h.letters g.received.letters a.uploads)
        (λ settled. absurd (new-open settled))

  pub sub-change-accounts : OfAccounts publication (with_subscriber (subscriber_made_locally publication change d (subscriber_at_moment w.moment s)).0 w) after
  sub-change-accounts = with-some (λ (found : Option Version). Accounts publication (version_at w.publisher) (put_number w.subscribers (with_version_if key found v).site.0 (with_version_if key found v)) w.pool after)
      (version_after publication dot d.0 change (subscriber_version_at s key)) (version-there publication dot d.0 change (subscriber_version_at s key) (first-none (no_row change (subscriber_version_at s key)) _ refused).0) (λ version is. sub-with version is)
