-- An upload, a join and a reply keep that each version of a row, and each change of it, knows the change that made the row.
use Rattle.std.specs.Prelude.{◌≡◌, ◌≤◌, ◌<◌, ◌+◌, ◌||◌, ℕ, List, [], ◌∷◌, Bool, true, false, not, Option, Some, None, refl, if◌then◌else◌, is_some, map}
use Rattle.std.specs.List.{AllByRecursion, AllZip, fold}
use Rattle.std.proofs.Common.{arith, subst, sym, ap, ◌∙◌}
use Rattle.merge_types.specs.declared.identifiers.Dot.{Dot}
use Rattle.merge_types.specs.declared.identifiers.SiteId.{SiteId}
use Rattle.merge_units.specs.declared.case.Case.{Case}
use Rattle.merge_units.specs.declared.result.Decision.{Decision}
use Rattle.merge_units.specs.declared.result.Decision.TheVariants.{Custom, KeepPublisher, TakeSubscriber}
use Rattle.merge_units.specs.declared.version.Version.{Version}
use Rattle.merge_schema.specs.declared.publication.Publication.{Publication}
use Rattle.merge_batch.specs.declared.reply.Downloaded.{Downloaded}
use Rattle.merge_batch.specs.declared.reply.Reply.TheVariants as reply
use Rattle.merge_batch.specs.declared.request.Join.{Join}
use Rattle.merge_batch.specs.declared.request.Request.TheVariants as request
use Rattle.merge_batch.specs.declared.request.Upload.{Upload}
use Rattle.merge_batch.specs.declared.request.UploadItem.{UploadItem}
use Rattle.merge_model.specs.Publisher.Acts.{Act, Fate, Met, New, Unknown, act_of, acting_items, acts_from, fate_by, is_new_row, key_of_item, left_by, made_by}
use Rattle.merge_model.specs.Judge.ByHistory.{by_made, by_past}
use Rattle.merge_units.specs.Cases.{is_conflict}
use Rattle.merge_model.specs.Publisher.Entries.{Entries}
use Rattle.merge_model.specs.History.{History, Line, MadeChange, Past, has, past_at, past_in, pasts_at, pasts_with}
use Rattle.merge_model.specs.Judge.{PublisherJudge, SubscriberJudge}
use Rattle.merge_model.specs.Tables.Keys.{put_number, row_at}
use Rattle.merge_model.specs.History.Noting
use Rattle.merge_model.specs.History.Pasts.{past_by}
use Rattle.merge_model.specs.Publisher.{last_closed}
use Rattle.merge_model.specs.Publisher.PublisherJoin.{join_taken}
use Rattle.merge_model.specs.Publisher.PublisherUpload.{changing_by, taken_in, with_acts}
use Rattle.merge_model.specs.World.Steps.{kept_decisions, upload_questions}
use Rattle.merge_types.specs.declared.row_key.RowKey.{RowKey as Key}
use Rattle.merge_units.specs.declared.site_row.PublisherRow.{PublisherRow}
use Rattle.merge_model.specs.Tables.{PublisherTables, SubscriberTables}
use Rattle.merge_model.specs.Subscriber.Taking.{row_above, tables_after_reply}
use Rattle.merge_model.specs.World.{Saying, World, subscriber_at, with_publisher, with_subscriber}
use Rattle.merge_model.specs.declared.letter.Message.TheVariants.{Asks, Replies}
use Rattle.merge_model.specs.declared.letter.Letter.{Letter}
use Rattle.merge_model.specs.Laws.{SubscriberIsSorted}
use Rattle.merge_laws.specs.Facts.Knowledge.{changes_of}
use Rattle.merge_laws.specs.Invariants.KnownMakers.{Ascend, HeldKnow, IsAfterMaker, KnownMakers, KnowsMaker}
use Rattle.merge_laws.specs.Facts.LineagesStand.{OfMessage}
use Rattle.merge_model.proofs.Lists.Finding.{found-named, letter-zip}
use Rattle.merge_laws.proofs.Runs.Ground.{Ground}
use Rattle.merge_laws.proofs.Pasts.HeldRows.{changed-held}
use Rattle.merge_laws.proofs.Makers.KnownMakers.{makers-of-parts, publisher-makers}
use Rattle.merge_laws.proofs.Known.KnownRows.{letter-knows, past-knows}
use Rattle.merge_model.proofs.Lists.{all-both, all-filter, all-of}
use Rattle.merge_laws.proofs.Makers.MakerChanges.{made-below}
use Rattle.merge_laws.proofs.Makers.MakerSites.{Beside, above-know, reply-beside}
use Rattle.merge_laws.proofs.Walking.Noted.{DecidesAsOwn, NotesKeep, acts-keep, acts-own}
use Rattle.merge_laws.proofs.Walking.NotesLeave.{fold-leave, items-leave}
use Rattle.merge_laws.proofs.Pasts.PastLists.{drop-ascends, put-ascends}
use Rattle.merge_laws.proofs.Pasts.PastNotes.{ActKeeps, acts-items, acts-know, acts-pasts, by-maker, fate_past, put_by, reply-pasts, versions-any}
use Rattle.merge_model.proofs.Lists.Tests.{if-both}
use Rattle.merge_laws.proofs.Unsent.Unsending.{received-sorted}
use Rattle.merge_laws.proofs.Unsent.UnsentKept.{all-found}
use Rattle.merge_laws.proofs.Walking.{acts_in, comes, here, join_noted}
use Rattle.merge_laws.proofs.Pasts.WorldLists.{all-subscribers}

-- What the acts of an upload make.

-- a decided change passes, where the act makes one
abbrev pub FateMakes : (MadeChange → Type 0) → Key → Past → Fate → Type 0
FateMakes P key theirs New = Unit {0}
FateMakes P key theirs Unknown = Unit {0}
FateMakes P key theirs (Met held case decision dot) = (generation : ℕ) (ours : Past) → P (Noting.decided_change dot generation key case (past_by case decision dot ours theirs))

loser-made : (P : MadeChange → Type 0) (decision : Decision) (key : Key) (ours theirs : Past) (h : History) → AllByRecursion P h.made → AllByRecursion P (Noting.with_loser decision key ours theirs h).made
loser-made P KeepPublisher key ours theirs h all = all
loser-made P TakeSubscriber key ours theirs h all = all
loser-made P (Custom values) key ours theirs h all = all

decided-made : (P : MadeChange → Type 0) (decision : Decision) (dot : Dot) (generation : ℕ) (key : Key) (case : Case) (past : Past) (h : History) → P (Noting.decided_change dot generation key case past) → AllByRecursion P h.made → AllByRecursion P (Noting.with_decided decision dot generation key case past h).made
decided-made P KeepPublisher dot generation key case past h new all = all
decided-made P TakeSubscriber dot generation key case past h new all = all
decided-made P (Custom values) dot generation key case past h new all = (new, all)

fate-made : (P : MadeChange → Type 0) (fate : Fate) (generation : ℕ) (key : Key) (theirs : Past) (h : History) → FateMakes P key theirs fate → AllByRecursion P h.made → AllByRecursion P (Noting.with_fate fate generation key theirs h).made
fate-made P New generation key theirs h new all = all
fate-made P Unknown generation key theirs h new all = all
fate-made P (Met held case decision dot) generation key theirs h new all =
    let past : Past = past_by case decision dot (past_at h 0 key) theirs in
    let after : History = Noting.with_decided decision dot generation key case past h in
    let made : AllByRecursion P after.made = decided-made P decision dot generation key case past h (new generation (past_at h 0 key)) all in
    if-both (λ (k : History). AllByRecursion P k.made) (is_conflict case) (Noting.with_loser decision key (past_at h 0 key) theirs after) after (loser-made P decision key (past_at h 0 key) theirs after made) made

pub acts-made : (P : MadeChange → Type 0) (incoming : List (Key × Past)) (entries : Entries) (acts : List Act) (h : History) → AllByRecursion (λ (act : Act). FateMakes P act.key (past_in incoming act.key) act.fate) acts → AllByRecursion P h.made
    → AllByRecursion P (fold (Noting.with_act incoming entries) h acts).made
acts-made P incoming entries [] h new all = all
acts-made P incoming entries (act ∷ acts) h new all = acts-made P incoming entries acts (Noting.with_act incoming entries h act) new.1 (fate-made P act.fate (Noting.entry_generation entries act.key) act.key (past_in incoming act.key) h new.0 all)

-- the decided changes have numbers above the publisher's count
abbrev pub FateAbove : ℕ → Fate → Type 0
FateAbove count New = Unit {0}
FateAbove count Unknown = Unit {0}
FateAbove count (Met held case decision dot) = (dot.site.0 ≡ 0) × (count < dot.number)

fate-above : (count number : ℕ) (judge : PublisherJudge) (site : SiteId) (decisions : List Decision) (item : UploadItem) (found : Option PublisherRow) → count < number → FateAbove count (fate_by judge site number decisions item found)
fate-above count number judge site decisions item None up = elim (is_new_row judge site (key_of_item item)) as (λ (b : Bool). FateAbove count (if b then New else Unknown)) [
  | true ↦ tt
  | false ↦ tt
]
fate-above count number judge site decisions item (Some held) up = (refl, up)

pub from-above : (count : ℕ) (judge : PublisherJudge) (site : SiteId) (p : PublisherTables) (number : ℕ) (decisions : List Decision) (items : List UploadItem) → count < number → AllByRecursion (λ (act : Act). FateAbove count act.fate) (acts_from judge site p number decisions items)
from-above count judge site p number decisions [] up = tt
from-above count judge site p number decisions (item ∷ items) up =
    let act : Act = act_of judge site p number decisions item in
    (fate-above count number judge site decisions item (row_at p.rows (key_of_item item)) up, from-above count judge site p (number + made_by act.fate) (left_by act.fate decisions) items (omega (arith, up)))

knows-makes : (key : Key) (theirs : Past) (fate : Fate) → KnowsMaker key theirs.known → FateMakes (λ (change : MadeChange). KnowsMaker change.key change.past.known) key theirs fate
knows-makes key theirs New knows = tt
knows-makes key theirs Unknown knows = tt
knows-makes key theirs (Met held case decision dot) knows = λ generation ours. by-maker key case decision dot ours theirs knows

later-makes : (w : World) (key : Key) (theirs : Past) (fate : Fate) → KnowsMaker key theirs.known → ((maker : Dot) → has theirs.known maker ≡ true → maker.number ≤ changes_of w maker.site.0) → FateAbove w.publisher.changes fate → FateMakes IsAfterMaker key theirs fate
later-makes w key theirs New knows below above = tt
later-makes w key theirs Unknown knows below above = tt
later-makes w key theirs (Met held case decision dot) knows below above = λ generation ours maker e site. (
    let up = below maker (knows maker e) in
    let zero : changes_of w maker.site.0 ≡ w.publisher.changes = ap (λ (n : ℕ). changes_of w n) (site ∙ above.0) in
    let high = above.1 in
    omega (arith, up, zero, high))

by-ascends : (rows : List (Key × Past)) (key : Key) (found : Option Past) → Ascend rows → Ascend (put_by rows key found)
by-ascends rows key None sorted = sorted
by-ascends rows key (Some past) sorted = put-ascends rows key past sorted

-- letters stay as they are
pub letters-stay : (h : History) → NotesKeep (λ (x : History). x.letters ≡ h.letters)
letters-stay h = record {
  of_lines = λ k lines same. same;
  of_pasts = λ k pasts same. same;
  of_lost = λ k lost same. same;
  of_accepted = λ k accepted same. same;
  of_purged = λ k purged same. same;
  of_made = λ k change own same. same;
}

-- An upload.

pub upload-makers : (publication : Publication) (says : Saying) (w : World) (h : History) (number : ℕ) (m : Upload) → Ground publication w h → KnownMakers w h → comes w number m.site (Asks (request.Upload m))
    → (let judge : PublisherJudge = by_past h (pasts_with h number) in
    KnownMakers (with_publisher (taken_in publication judge m (acts_in publication says judge m w) (here w)) w) (Noting.with_acts_noted publication judge m (acts_in publication says judge m w) (pasts_with h number) (here w) h))
upload-makers publication says w h number m g i at =
    let judge : PublisherJudge = by_past h (pasts_with h number) in
    let incoming : List (Key × Past) = pasts_with h number in
    let p : PublisherTables = here w in
    let decisions : List Decision = kept_decisions says w.tallies (upload_questions publication judge w.moment m w.publisher) in
    let acts : List Act = acts_in publication says judge m w in
    let entries : Entries = Noting.acts_entries publication judge m acts p in
    let lines : List Line = Noting.lines_of_entries (last_closed p + 1) entries in
    let acted : History = fold (Noting.with_act incoming entries) h acts in
    let v : World = with_publisher (taken_in publication judge m acts p) w in
    let own : AllByRecursion (λ (act : Act). DecidesAsOwn act.fate) acts = acts-own judge m decisions p in
    let letter : Letter = record { site = m.site; message = Asks (request.Upload m) } in
    let items : AllByRecursion (λ (item : UploadItem). KnowsMaker (key_of_item item) (past_in incoming (key_of_item item)).known) m.items =
    letter-zip (λ (x : Letter) (pasts : List (Key × Past)). OfMessage (λ (key : Key) (version : Version) (past : Past). KnowsMaker key past.known) pasts x.message) w h number letter i.letters at in
    let came : AllByRecursion (λ (act : Act). KnowsMaker act.key (past_in incoming act.key).known) acts =
    acts-items (λ (key : Key). KnowsMaker key (past_in incoming key).known) judge m.site p (p.changes + 1) decisions (acting_items judge m)
    (all-filter (λ (item : UploadItem). KnowsMaker (key_of_item item) (past_in incoming (key_of_item item)).known) (λ (item : UploadItem). not (judge.has_acted m.site.0 item.generation)) m.items items) in
    let above : AllByRecursion (λ (act : Act). FateAbove w.publisher.changes act.fate) acts = from-above w.publisher.changes judge m.site p (p.changes + 1) decisions (acting_items judge m) (omega arith) in
    let below : (key : Key) (maker : Dot) → has (past_in incoming key).known maker ≡ true → maker.number ≤ changes_of w maker.site.0 =
    λ key maker is. made-below (changes_of w) h key maker g.known.numbered ((past-knows h.made key incoming (letter-knows h number g.known.knowledge)).made_here maker is) in
    let done : KnownMakers v acted = record {
      sorted = acts-pasts (λ (n : ℕ) (x : List (Key × Past)). Ascend x) incoming entries acts h own
          (all-of (ActKeeps (λ (n : ℕ) (x : List (Key × Past)). Ascend x) incoming entries) (λ act rows sorted. by-ascends rows act.key (fate_past act.fate (past_in rows act.key) (past_in incoming act.key)) sorted) acts) i.sorted;
      makers = acts-made (λ (change : MadeChange). KnowsMaker change.key change.past.known) incoming entries acts h
          (all-both (λ (act : Act). KnowsMaker act.key (past_in incoming act.key).known) (λ (act : Act). FateAbove w.publisher.changes act.fate) (λ (act : Act). FateMakes (λ (change : MadeChange). KnowsMaker change.key change.past.known) act.key (past_in incoming act.key) act.fate)
          (λ act knows up. knows-makes act.key (past_in incoming act.key) act.fate knows) acts came above) i.makers;
      firsts = acts-made IsAfterMaker incoming entries acts h
          (all-both (λ (act : Act). KnowsMaker act.key (past_in incoming act.key).known) (λ (act : Act). FateAbove w.publisher.changes act.fate) (λ (act : Act). FateMakes IsAfterMaker act.key (past_in incoming act.key) act.fate)
          (λ act knows up. later-makes w act.key (past_in incoming act.key) act.fate knows (below act.key) up) acts came above) i.firsts;
      here = λ q is. acts-know q incoming entries (is_some (row_at w.publisher.rows q)) acts h own came (i.here q)
          (ap (λ (b : Bool). is_some (row_at w.publisher.rows q) || b) (sym (versions-any q acts)) ∙ changed-held publication judge (changing_by m acts) (with_acts publication m acts p) q is);
      there = λ n s found. subst (λ (x : List (Key × Past)). HeldKnow s.rows x)
          (sym (acts-pasts (λ (k : ℕ) (x : List (Key × Past)). (k ≡ 0 → ⊥) → x ≡ pasts_at h k) incoming entries acts h own
          (all-of (ActKeeps (λ (k : ℕ) (x : List (Key × Past)). (k ≡ 0 → ⊥) → x ≡ pasts_at h k) incoming entries) (λ act rows old named. absurd (named refl)) acts) (λ k named. refl) n (found-named w.subscribers n s g.none found))) (i.there n s found);
      letters = subst (λ (x : List (List (Key × Past))). AllZip (λ (l : Letter) (ps : List (Key × Past)). OfMessage (λ (key : Key) (version : Version) (past : Past). KnowsMaker key past.known) ps l.message) w.pool x)
          (sym (acts-keep (λ (x : History). x.letters ≡ h.letters) (letters-stay h) incoming entries acts h own refl)) i.letters;
    } in
    makers-of-parts v acted (Noting.with_acts_noted publication judge m acts incoming p h) (fold-leave (λ (x : History). x.made) Noting.with_line (λ x line. refl) lines acted) (fold-leave (λ (x : History). x.letters) Noting.with_line (λ x line. refl) lines acted)
    (fold-leave (λ (x : History). x.pasts) Noting.with_line (λ x line. refl) lines acted) done

-- A join.

pub join-makers : (judge : PublisherJudge) (w : World) (h : History) (m : Join) → KnownMakers w h → KnownMakers (with_publisher (join_taken m (here w)) w) (join_noted judge m w.publisher h)
join-makers judge w h m i =
    let v : World = with_publisher (join_taken m (here w)) w in
    let based : History = record (Noting.with_done m.site.0 0 m.generation h) { bases = put_number h.bases m.site.0 (last_closed w.publisher) } in
    let lines : List Line = map (Noting.gone_line (last_closed w.publisher + 1)) (map (Noting.gone_for m.site) (Noting.left_rows judge m.site)) in
    makers-of-parts v h (join_noted judge m w.publisher h) (fold-leave (λ (x : History). x.made) Noting.with_line (λ x line. refl) lines based) (fold-leave (λ (x : History). x.letters) Noting.with_line (λ x line. refl) lines based)
    (fold-leave (λ (x : History). x.pasts) Noting.with_line (λ x line. refl) lines based) (publisher-makers w h (join_taken m (here w)) refl i)

-- A reply to a download.

pub reply-makers : (publication : Publication) (w : World) (h : History) (s : SubscriberTables) (number : ℕ) (m : Downloaded) → Ground publication w h → KnownMakers w h → subscriber_at w s.site ≡ Some s → comes w number s.site (Replies (reply.Downloaded m))
    → (let judge : SubscriberJudge = by_made h s.site in KnownMakers (with_subscriber (tables_after_reply judge w.moment (reply.Downloaded m) s) w) (Noting.noted_reply judge s.site (pasts_with h number) (reply.Downloaded m) h))
reply-makers publication w h s number m g i at came =
    let judge : SubscriberJudge = by_made h s.site in
    let n : ℕ = s.site.0 in
    let incoming : List (Key × Past) = pasts_with h number in
    let k : History = fold (Noting.with_item_past judge m.received n incoming) h m.items in
    let t : SubscriberTables = tables_after_reply judge w.moment (reply.Downloaded m) s in
    let named : n ≡ 0 → ⊥ = found-named w.subscribers n s g.none at in
    let letter : Letter = record { site = s.site; message = Replies (reply.Downloaded m) } in
    let all = letter-zip (λ (x : Letter) (pasts : List (Key × Past)). OfMessage (λ (key : Key) (version : Version) (past : Past). KnowsMaker key past.known) pasts x.message) w h number letter i.letters came in
    let sub : SubscriberIsSorted s = all-found SubscriberIsSorted w.subscribers n s g.rows at in
    let b : Beside n t.rows k = reply-beside judge m.received n incoming m.items (map (row_above m.received) s.rows) h all
    (record { rows_sorted = received-sorted m.received s.rows sub.rows_ascend; sorted = i.sorted n; know = above-know m.received s.rows (pasts_at h n) (i.there n s at) }) in
    let others : (x : ℕ) → (x ≡ n → ⊥) → pasts_at k x ≡ pasts_at h x =
    reply-pasts (λ (x : ℕ) (rows : List (Key × Past)). (x ≡ n → ⊥) → rows ≡ pasts_at h x) judge m.received n incoming (λ key rows old differs. absurd (differs refl)) (λ key rows old differs. absurd (differs refl)) m.items h (λ x differs. refl) in
    let made : k.made ≡ h.made = items-leave (λ (x : History). x.made) judge m.received n incoming (λ x pasts. refl) m.items h in
    let letters : k.letters ≡ h.letters = items-leave (λ (x : History). x.letters) judge m.received n incoming (λ x pasts. refl) m.items h in
    record {
      sorted = reply-pasts (λ (x : ℕ) (rows : List (Key × Past)). Ascend rows) judge m.received n incoming (λ key rows sorted. put-ascends rows key (past_in incoming key) sorted) (λ key rows sorted. drop-ascends rows key sorted) m.items h i.sorted;
      makers = subst (λ (x : List MadeChange). AllByRecursion (λ (change : MadeChange). KnowsMaker change.key change.past.known) x) (sym made) i.makers;
      firsts = subst (λ (x : List MadeChange). AllByRecursion IsAfterMaker x) (sym made) i.firsts;
      here = subst (λ (x : List (Key × Past)). HeldKnow w.publisher.rows x) (sym (others 0 (λ e. named (sym e)))) i.here;
      there = all-subscribers (λ (x : ℕ) (v : SubscriberTables). HeldKnow v.rows (pasts_at k x)) w.subscribers n t b.know
          (λ x v differs found. subst (λ (rows : List (Key × Past)). HeldKnow v.rows rows) (sym (others x differs)) (i.there x v found));
      letters = subst (λ (x : List (List (Key × Past))). AllZip (λ (l : Letter) (ps : List (Key × Past)). OfMessage (λ (key : Key) (version : Version) (past : Past). KnowsMaker key past.known) ps l.message) w.pool x) (sym letters) i.letters;
    }
