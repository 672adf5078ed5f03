-- What each step notes of the pasts of rows.
use Rattle.std.specs.Prelude.{◌≡◌, ◌==◌, ◌+◌, ◌++◌, ◌&&◌, ◌||◌, ℕ, List, [], ◌∷◌, Bool, true, false, Option, Some, None, refl, if◌then◌else◌, is_some}
use Rattle.std.specs.List.{AllByRecursion, cons_option, fold, list_any}
use Rattle.std.proofs.Common.{arith, subst, sym, ap, ◌∙◌}
use Rattle.std.proofs.lemmas.List.Folds.{list_any-append}
use Rattle.merge_types.specs.declared.identifiers.Dot.{Dot}
use Rattle.merge_types.specs.declared.identifiers.SiteId.{SiteId}
use Rattle.merge_units.specs.declared.case.Case.{Case}
use Rattle.merge_units.specs.declared.result.Decision.{Decision}
use Rattle.merge_units.specs.declared.result.Decision.TheVariants.{Custom, KeepPublisher, TakeSubscriber}
use Rattle.merge_units.specs.declared.version.Version.{Version}
use Rattle.merge_batch.specs.declared.reply.Act.{Act as Order}
use Rattle.merge_batch.specs.declared.reply.Act.TheVariants as order
use Rattle.merge_batch.specs.declared.reply.DownloadItem.{DownloadItem}
use Rattle.merge_batch.specs.declared.request.UploadItem.{UploadItem}
use Rattle.merge_model.specs.Publisher.Acts.{Act, Fate, Met, New, Unknown, act_of, acts_from, key_of_item, left_by, made_by, version_by, versions_of}
use Rattle.merge_units.specs.Cases.{is_conflict}
use Rattle.merge_model.specs.Publisher.Entries.{Entries}
use Rattle.merge_model.specs.History.{History, Past, has, past_at, past_in, pasts_at}
use Rattle.merge_model.specs.Judge.{PublisherJudge, SubscriberJudge}
use Rattle.merge_model.specs.Tables.Keys.{drop_row, has_key, put_number, put_row, same_key}
use Rattle.merge_model.specs.History.Noting
use Rattle.merge_model.specs.History.Pasts.{decided_dots, past_by}
use Rattle.merge_types.specs.declared.row_key.RowKey.{RowKey as Key}
use Rattle.merge_model.specs.Tables.{PublisherTables}
use Rattle.merge_model.specs.Subscriber.Taking.{key_of_download}
use Rattle.merge_laws.specs.Invariants.KnownMakers.{Ascend, KnowsMaker}
use Rattle.merge_model.proofs.Lists.KeyLookUps.{keys-same}
use Rattle.merge_laws.proofs.Walking.Noted.{DecidesAsOwn}
use Rattle.merge_laws.proofs.Walking.NotesLeave.{loser-leaves}
use Rattle.merge_laws.proofs.Pasts.PastLists.{drop-ascends}
use Rattle.merge_laws.proofs.Pasts.PastLookUps.{all-sites, past-dropped, past-put, put-here, put-there, rows_in}
use Rattle.merge_model.proofs.Lists.Tests.{if-false, if-true}

-- A purge drops the pasts of old tombstones.

pub record Purged (keys : List Key) (before after : List (ℕ × List (Key × Past))) : Type 0 where
  pub sorted : (n : ℕ) → Ascend (rows_in after n)
  pub here : (q : Key) → has_key keys q ≡ false → past_in (rows_in after 0) q ≡ past_in (rows_in before 0) q
  pub there : (n : ℕ) → (n ≡ 0 → ⊥) → rows_in after n ≡ rows_in before n

head-other : (b more : Bool) → (b || more) ≡ false → (b ≡ false) × (more ≡ false)
head-other true more is = absurd (grind (arith, is))
head-other false more is = (refl, is)

pub purged-pasts : (keys : List Key) (h : History) → ((n : ℕ) → Ascend (pasts_at h n)) → Purged keys h.pasts (fold Noting.with_purged h keys).pasts
purged-pasts [] h sorted = record { sorted = sorted; here = λ q none. refl; there = λ n named. refl }
purged-pasts (key ∷ keys) h sorted =
    let rows : List (Key × Past) = drop_row (pasts_at h 0) key in
    let rest = purged-pasts keys (Noting.with_purged h key) (all-sites (λ (n : ℕ) (found : List (Key × Past)). Ascend found) h.pasts 0 rows (drop-ascends (pasts_at h 0) key (sorted 0)) sorted) in record {
      sorted = rest.sorted;
      here = λ q none. (let parts = head-other (same_key q key) (has_key keys q) none in
          rest.here q parts.1 ∙ ap (λ (found : List (Key × Past)). past_in found q) (put-here h.pasts 0 rows) ∙ past-dropped (pasts_at h 0) key q (sorted 0) ∙ if-false (same_key q key) _ (past_in (pasts_at h 0) q) parts.0);
      there = λ n named. rest.there n named ∙ put-there h.pasts 0 rows n named;
    }

-- A reply puts and drops pasts of its addressee's rows.
module _ (S : ℕ → List (Key × Past) → Type 0) (judge : SubscriberJudge) (received n : ℕ) (incoming : List (Key × Past))
    (put : (key : Key) (rows : List (Key × Past)) → S n rows → S n (put_row rows key (past_in incoming key))) (drop : (key : Key) (rows : List (Key × Past)) → S n rows → S n (drop_row rows key)) where
  order-pasts : (key : Key) (o : Order) (h : History) → ((m : ℕ) → S m (pasts_at h m)) → (m : ℕ) → S m (pasts_at (Noting.with_order_past n incoming key o h) m)
  order-pasts key (order.Put lineage live) h all = all-sites S h.pasts n (put_row (pasts_at h n) key (past_in incoming key)) (put key (pasts_at h n) (all n)) all
  order-pasts key order.RemoveDeleted h all = all-sites S h.pasts n (drop_row (pasts_at h n) key) (drop key (pasts_at h n) (all n)) all
  order-pasts key order.RemoveLeft h all = all-sites S h.pasts n (drop_row (pasts_at h n) key) (drop key (pasts_at h n) (all n)) all

  if-pasts : (b : Bool) (x y : History) → ((m : ℕ) → S m (pasts_at x m)) → ((m : ℕ) → S m (pasts_at y m)) → (m : ℕ) → S m (pasts_at (if b then x else y) m)
  if-pasts true x y one other = one
  if-pasts false x y one other = other

  pub reply-pasts : (items : List DownloadItem) (h : History) → ((m : ℕ) → S m (pasts_at h m)) → (m : ℕ) → S m (pasts_at (fold (Noting.with_item_past judge received n incoming) h items) m)
  reply-pasts [] h all = all
  reply-pasts (item ∷ items) h all = reply-pasts items (Noting.with_item_past judge received n incoming h item)
      (if-pasts (judge.is_unsent received (key_of_download item)) h (Noting.with_order_past n incoming (key_of_download item) item.act h) all (order-pasts (key_of_download item) item.act h all))

-- An upload's act puts the past that its row gets.

abbrev pub fate_past : Fate → Past → Past → Option Past
fate_past New ours theirs = Some theirs
fate_past Unknown ours theirs = None
fate_past (Met held case decision dot) ours theirs = Some (past_by case decision dot ours theirs)

abbrev pub put_by : List (Key × Past) → Key → Option Past → List (Key × Past)
put_by rows key None = rows
put_by rows key (Some past) = put_row rows key past

abbrev pub put_site : List (ℕ × List (Key × Past)) → Key → Option Past → List (ℕ × List (Key × Past))
put_site pasts key None = pasts
put_site pasts key (Some past) = put_number pasts 0 (put_row (rows_in pasts 0) key past)

if-part : {X : Type 0} (part : History → X) (b : Bool) (x y : History) (v : X) → part x ≡ v → part y ≡ v → part (if b then x else y) ≡ v
if-part part true x y v one other = one
if-part part false x y v one other = other

decided-pasts : (decision : Decision) (dot : Dot) (generation : ℕ) (key : Key) (case : Case) (past : Past) (h : History) → dot.site.0 ≡ 0 → (Noting.with_decided decision dot generation key case past h).pasts ≡ put_number h.pasts 0 (put_row (pasts_at h 0) key past)
decided-pasts KeepPublisher dot generation key case past h own = refl
decided-pasts TakeSubscriber dot generation key case past h own = refl
decided-pasts (Custom values) dot generation key case past h own = ap (λ (n : ℕ). put_number h.pasts n (put_row (pasts_at h n) key past)) own

pub fate-pasts : (fate : Fate) (generation : ℕ) (key : Key) (theirs : Past) (h : History) → DecidesAsOwn fate → (Noting.with_fate fate generation key theirs h).pasts ≡ put_site h.pasts key (fate_past fate (past_at h 0 key) theirs)
fate-pasts New generation key theirs h own = refl
fate-pasts Unknown generation key theirs h own = refl
fate-pasts (Met held case decision dot) generation key theirs h own =
    let past : Past = past_by case decision dot (past_at h 0 key) theirs in
    let after : History = Noting.with_decided decision dot generation key case past h in
    let same = decided-pasts decision dot generation key case past h own in
    if-part (λ (x : History). x.pasts) (is_conflict case) (Noting.with_loser decision key (past_at h 0 key) theirs after) after (put_number h.pasts 0 (put_row (pasts_at h 0) key past)) (loser-leaves (λ (x : History). x.pasts) (λ x lost. refl) decision key (past_at h 0 key) theirs after ∙ same) same

site-by : (S : ℕ → List (Key × Past) → Type 0) (pasts : List (ℕ × List (Key × Past))) (key : Key) (found : Option Past) → ((m : ℕ) → S m (rows_in pasts m)) → S 0 (put_by (rows_in pasts 0) key found) → (m : ℕ) → S m (rows_in (put_site pasts key found) m)
site-by S pasts key None all new = all
site-by S pasts key (Some past) all new = all-sites S pasts 0 (put_row (rows_in pasts 0) key past) new all

module _ (S : ℕ → List (Key × Past) → Type 0) (incoming : List (Key × Past)) (entries : Entries) where
  -- the act keeps what is said of the publisher's pasts
  abbrev pub ActKeeps : Act → Type 0
  ActKeeps act = (rows : List (Key × Past)) → S 0 rows → S 0 (put_by rows act.key (fate_past act.fate (past_in rows act.key) (past_in incoming act.key)))

  pub acts-pasts : (acts : List Act) (h : History) → AllByRecursion (λ (act : Act). DecidesAsOwn act.fate) acts → AllByRecursion ActKeeps acts → ((m : ℕ) → S m (pasts_at h m)) → (m : ℕ) → S m (pasts_at (fold (Noting.with_act incoming entries) h acts) m)
  acts-pasts [] h own keeps all = all
  acts-pasts (act ∷ acts) h own keeps all =
      let theirs : Past = past_in incoming act.key in
      let same = fate-pasts act.fate (Noting.entry_generation entries act.key) act.key theirs h own.0 in
      let after = site-by S h.pasts act.key (fate_past act.fate (past_at h 0 act.key) theirs) all (keeps.0 (pasts_at h 0) (all 0)) in
      acts-pasts acts (Noting.with_act incoming entries h act) own.1 keeps.1 (λ m. subst (λ (pasts : List (ℕ × List (Key × Past))). S m (rows_in pasts m)) (sym same) (after m))

-- what items say, their acts say
pub acts-items : (P : Key → Type 0) (judge : PublisherJudge) (site : SiteId) (p : PublisherTables) (number : ℕ) (decisions : List Decision) (items : List UploadItem)
    → AllByRecursion (λ (item : UploadItem). P (key_of_item item)) items → AllByRecursion (λ (act : Act). P act.key) (acts_from judge site p number decisions items)
acts-items P judge site p number decisions [] all = tt
acts-items P judge site p number decisions (item ∷ items) all =
    let act : Act = act_of judge site p number decisions item in
    (all.0, acts-items P judge site p (number + made_by act.fate) (left_by act.fate decisions) items all.1)

-- Merges know what both sides knew.
pub by-knows : (case : Case) (decision : Decision) (dot other : Dot) (ours theirs : Past) → has (past_by case decision dot ours theirs).known other ≡ ((has (decided_dots decision dot) other || has ours.known other) || has theirs.known other)
by-knows case decision dot other ours theirs =
    let test : Dot → Bool = λ x. (x.site.0 == other.site.0) && (x.number == other.number) in
    list_any-append test (decided_dots decision dot ++ ours.known) theirs.known ∙ ap (λ (b : Bool). b || has theirs.known other) (list_any-append test (decided_dots decision dot) ours.known)

pub by-maker : (key : Key) (case : Case) (decision : Decision) (dot : Dot) (ours theirs : Past) → KnowsMaker key theirs.known → KnowsMaker key (past_by case decision dot ours theirs).known
by-maker key case decision dot ours theirs knows maker e = (let is = by-knows case decision dot maker ours theirs in let was = knows maker e in grind (arith, is, was))

-- A row that an act puts, or that knew its maker before, knows it.

abbrev pub puts_row : Key → Act → Bool
puts_row q act = same_key q act.key && is_some (version_by act.incoming act.fate)

put-either : (q key : Key) (b more : Bool) (rows : List (Key × Past)) (past : Past) (same : Bool) → same_key q key ≡ same → KnowsMaker key past.known → (b ≡ true → KnowsMaker q (past_in rows q).known) → (b || (same_key q key && more)) ≡ true
    → KnowsMaker q (if same_key q key then past else past_in rows q).known
put-either q key b more rows past true same new old is =
    let q_is : q ≡ key = keys-same q key same in
    subst (λ (x : Past). KnowsMaker q x.known) (sym (if-true (same_key q key) past (past_in rows q) same)) (subst (λ (k : Key). KnowsMaker k past.known) (sym q_is) new)
put-either q key b more rows past false differs new old is =
    subst (λ (x : Past). KnowsMaker q x.known) (sym (if-false (same_key q key) past (past_in rows q) differs)) (old (grind (arith, is, differs)))

put-knows : (q key : Key) (b more : Bool) (rows : List (Key × Past)) (past : Past) → KnowsMaker key past.known → (b ≡ true → KnowsMaker q (past_in rows q).known) → (b || (same_key q key && more)) ≡ true → KnowsMaker q (past_in (put_row rows key past) q).known
put-knows q key b more rows past new old is =
    subst (λ (x : Past). KnowsMaker q x.known) (sym (past-put rows key past q))
    (put-either q key b more rows past (same_key q key) refl new old is)

fate-knows : (q key : Key) (b : Bool) (incoming : Version) (fate : Fate) (rows : List (Key × Past)) (theirs : Past) → KnowsMaker key theirs.known → (b ≡ true → KnowsMaker q (past_in rows q).known)
    → (b || (same_key q key && is_some (version_by incoming fate))) ≡ true → KnowsMaker q (past_in (put_by rows key (fate_past fate (past_in rows key) theirs)) q).known
fate-knows q key b incoming New rows theirs new old is = put-knows q key b true rows theirs new old is
fate-knows q key b incoming Unknown rows theirs new old is = old (grind (arith, is))
fate-knows q key b incoming (Met held case decision dot) rows theirs new old is = put-knows q key b true rows (past_by case decision dot (past_in rows key) theirs) (by-maker key case decision dot (past_in rows key) theirs new) old is

site-row : (pasts : List (ℕ × List (Key × Past))) (key : Key) (found : Option Past) → rows_in (put_site pasts key found) 0 ≡ put_by (rows_in pasts 0) key found
site-row pasts key None = refl
site-row pasts key (Some past) = put-here pasts 0 (put_row (rows_in pasts 0) key past)

pub acts-know : (q : Key) (incoming : List (Key × Past)) (entries : Entries) (b : Bool) (acts : List Act) (h : History) → AllByRecursion (λ (act : Act). DecidesAsOwn act.fate) acts → AllByRecursion (λ (act : Act). KnowsMaker act.key (past_in incoming act.key).known) acts
    → (b ≡ true → KnowsMaker q (past_at h 0 q).known) → (b || list_any (puts_row q) acts) ≡ true → KnowsMaker q (past_at (fold (Noting.with_act incoming entries) h acts) 0 q).known
acts-know q incoming entries b [] h own came old is = old (grind (arith, is))
acts-know q incoming entries b (act ∷ acts) h own came old is =
    let theirs : Past = past_in incoming act.key in
    let same = fate-pasts act.fate (Noting.entry_generation entries act.key) act.key theirs h own.0 in
    let found : Option Past = fate_past act.fate (past_at h 0 act.key) theirs in
    let rows : List (Key × Past) = put_by (pasts_at h 0) act.key found in
    let is_rows : pasts_at (Noting.with_act incoming entries h act) 0 ≡ rows = ap (λ (pasts : List (ℕ × List (Key × Past))). rows_in pasts 0) same ∙ site-row h.pasts act.key found in
    acts-know q incoming entries (b || puts_row q act) acts (Noting.with_act incoming entries h act) own.1 came.1
    (λ some. subst (λ (x : List (Key × Past)). KnowsMaker q (past_in x q).known) (sym is_rows) (fate-knows q act.key b act.incoming act.fate (pasts_at h 0) theirs came.0 old some))
    (grind (arith, is))

version-any : (q key : Key) (found : Option Version) (rest : List (Key × Version)) (b : Bool) → list_any (λ (row : Key × Version). same_key q row.0) rest ≡ b
    → list_any (λ (row : Key × Version). same_key q row.0) (cons_option (let some : Option (Key × Version) = elim found [ None ↦ None | Some version ↦ Some (key, version) ] in some) rest) ≡ ((same_key q key && is_some found) || b)
version-any q key None rest b same = grind (arith, same)
version-any q key (Some version) rest b same = grind (arith, same)

pub versions-any : (q : Key) (acts : List Act) → list_any (λ (row : Key × Version). same_key q row.0) (versions_of acts) ≡ list_any (puts_row q) acts
versions-any q [] = refl
versions-any q (act ∷ acts) = version-any q act.key (version_by act.incoming act.fate) (versions_of acts) (list_any (puts_row q) acts) (versions-any q acts)
