-- An upload that acts accepts what its items know: what the publisher knows then is accepted, nothing is given up, and the inserts have acted.
use Rattle.std.specs.Prelude.{◌≡◌, ◌≤◌, ◌<◌, ◌==◌, ◌+◌, ◌&&◌, ℕ, zero, suc, List, [], ◌∷◌, Bool, true, false, not, Some, None, refl}
use Rattle.std.specs.List.{AllByRecursion, AllZip, fold, list_any}
use Rattle.std.proofs.Common.{arith, subst, sym, ap, ◌∙◌}
use Rattle.std.proofs.lemmas.Bool.Decides.{nat_tests}
use Rattle.merge_types.specs.declared.identifiers.Dot.{Dot}
use Rattle.merge_units.specs.declared.result.Decision.{Decision}
use Rattle.merge_units.specs.declared.result.Decision.TheVariants.{Custom, KeepPublisher, TakeSubscriber}
use Rattle.merge_schema.specs.declared.publication.Publication.{Publication}
use Rattle.merge_batch.specs.Makers.{maker_of}
use Rattle.merge_batch.specs.declared.request.Request.TheVariants as request
use Rattle.merge_batch.specs.declared.request.Upload.{Upload}
use Rattle.merge_batch.specs.declared.request.UploadItem.{UploadItem}
use Rattle.merge_model.specs.Publisher.Acts.{Act, Fate, Met, New, Unknown, acting_items, key_of_item}
use Rattle.merge_model.specs.Judge.ByHistory.{by_past}
use Rattle.merge_model.specs.Judge.ByNumbers.{received_by_number}
use Rattle.merge_model.specs.Publisher.Entries.{Entries}
use Rattle.merge_model.specs.History.{History, Line, MadeChange, Past, has, is_accepted, is_done, past_in, pasts_at, pasts_with}
use Rattle.merge_model.specs.Judge.{PublisherJudge}
use Rattle.merge_model.specs.History.Noting
use Rattle.merge_model.specs.History.Pasts.{decided_dots, past_by}
use Rattle.merge_model.specs.Publisher.{last_closed}
use Rattle.merge_model.specs.Publisher.PublisherUpload.{brings_news, upload_refusal}
use Rattle.merge_model.specs.World.Steps.{kept_decisions, upload_questions}
use Rattle.merge_types.specs.declared.row_key.RowKey.{RowKey as Key}
use Rattle.merge_model.specs.Tables.{PublisherTables}
use Rattle.merge_model.specs.World.{Saying, World, letter_at, with_publisher}
use Rattle.merge_model.specs.declared.letter.Message.TheVariants.{Asks, Replies}
use Rattle.merge_model.specs.declared.letter.Letter.{Letter}
use Rattle.merge_model.specs.declared.letter.Message.{Message}
use Rattle.merge_laws.specs.Invariants.Accepted.{Accepted, IsUpTo, SendsAccepted, SendsInserts}
use Rattle.merge_laws.specs.Facts.Knowledge.{AllKnow, changes_of, was_made}
use Rattle.merge_laws.specs.Invariants.KnownMakers.{KnownMakers, KnowsMaker}
use Rattle.merge_model.specs.Laws.Promises.{is_given_up}
use Rattle.merge_laws.specs.Facts.LineagesStand.{OwnKnown, UploadCounts, OthersAccepted}
use Rattle.merge_laws.proofs.Accepted.AcceptedChanges.{inserts-on, new-up-to}
use Rattle.merge_laws.proofs.Accepted.AcceptedNews.{accepts-items, accepts-more, after, noted, placed, reaches, upload-counts}
use Rattle.merge_laws.proofs.Accepted.AcceptedParts.{CountsGo, PastFits, SiteFits, accepted-fits, all-fit, counts-go, past-among, send-on}
use Rattle.merge_laws.proofs.Known.ChangeDots.{IsAlone, are-alone}
use Rattle.merge_model.proofs.Lists.Finding.{all-at, all-weaker, found-named, letter-zip}
use Rattle.merge_laws.proofs.Accepted.GivenUp.{knows_of, upload-accepts}
use Rattle.merge_laws.proofs.Runs.Ground.{Ground}
use Rattle.merge_laws.proofs.Known.Knowing.{made-was}
use Rattle.merge_laws.proofs.Known.KnownRows.{held-knows, letter-knows, past-knows}
use Rattle.merge_model.proofs.Lists.{all-both, all-every, all-of, all-three, any-among, zip-second}
use Rattle.merge_laws.proofs.Makers.MakerUploads.{FateAbove, FateMakes, acts-made, from-above, letters-stay, upload-makers}
use Rattle.merge_laws.proofs.Walking.Noted.{DecidesAsOwn, NotesKeep, acts-keep, acts-own, lines-keep}
use Rattle.merge_laws.proofs.Walking.NotesLeave.{fold-leave}
use Rattle.merge_laws.proofs.Own.OwnItems.{InsertActed}
use Rattle.merge_laws.proofs.Pasts.PastLists.{each-put}
use Rattle.merge_laws.proofs.Pasts.PastLookUps.{rows_in}
use Rattle.merge_laws.proofs.Pasts.PastNotes.{ActKeeps, acts-items, acts-pasts, by-knows, fate_past, put_by}
use Rattle.merge_laws.proofs.Received.Publishing.{done-joins, upload-joined}
use Rattle.merge_laws.proofs.Numbered.Tellings.{lined, uploaded-alike}
use Rattle.merge_model.proofs.Lists.Tests.{either}
use Rattle.merge_laws.proofs.Walking.{acts_in, comes, here}

-- The publisher's pasts, as an item acts whose past is accepted.

decided-other : (decision : Decision) (dot other : Dot) → dot.site.0 ≡ 0 → (other.site.0 ≡ 0 → ⊥) → has (decided_dots decision dot) other ≡ false
decided-other KeepPublisher dot other own named = refl
decided-other TakeSubscriber dot other own named = refl
decided-other (Custom values) dot other own named = grind (arith, nat_tests, own, named)

fate-fits : (p : PublisherTables) (k : History) (fate : Fate) (key : Key) (rows : List (Key × Past)) (theirs : Past) → DecidesAsOwn fate → ((dot : Dot) → has theirs.known dot ≡ true → is_accepted k dot ≡ true) → SiteFits p k 0 rows → SiteFits p k 0 (put_by rows key (fate_past fate (past_in rows key) theirs))
fate-fits p k New key rows theirs own brings old = each-put (λ (q : Key) (x : Past). PastFits p k 0 x) rows key theirs (accepted-fits p k 0 theirs brings) old
fate-fits p k Unknown key rows theirs own brings old = old
fate-fits p k (Met held case decision dot) key rows theirs own brings old = each-put (λ (q : Key) (x : Past). PastFits p k 0 x) rows key (past_by case decision dot (past_in rows key) theirs) (
  (λ other is named. (
      let parts = by-knows case decision dot other (past_in rows key) theirs in
      let none = decided-other decision dot other own named in
      either (is_accepted k other ≡ true) (has (past_in rows key).known other) (has theirs.known other) (grind (arith, parts, none, is)) (λ ours. (old key).0 other ours named) (brings other))),
  (λ low. absurd (omega (arith, low))),
) old

-- each item that acts is one of them
item-any : (test : UploadItem → Bool) (items : List UploadItem) → AllByRecursion (λ (item : UploadItem). test item ≡ true → list_any test items ≡ true) items
item-any test [] = tt
item-any test (item ∷ items) = ((λ is. grind (arith, is)), all-weaker (λ (x : UploadItem). test x ≡ true → list_any test items ≡ true) (λ (x : UploadItem). test x ≡ true → list_any test (item ∷ items) ≡ true) (λ x more is. (let rest = more is in grind (arith, rest))) items (item-any test items))

-- from items with all changes to changes with all items
turned : (P : UploadItem → MadeChange → Type 0) (items : List UploadItem) (made : List MadeChange) → AllByRecursion (λ (item : UploadItem). AllByRecursion (P item) made) items → AllByRecursion (λ (c : MadeChange). AllByRecursion (λ (item : UploadItem). P item c) items) made
turned P items [] all = tt
turned P items (c ∷ made) all = (
  all-weaker (λ (item : UploadItem). AllByRecursion (P item) (c ∷ made)) (λ (item : UploadItem). P item c) (λ item both. both.0) items all,
  turned P items made (all-weaker (λ (item : UploadItem). AllByRecursion (P item) (c ∷ made)) (λ (item : UploadItem). AllByRecursion (P item) made) (λ item both. both.1) items all),
)

inserts-at : (w : World) (made : List MadeChange) (number : ℕ) (letter : Letter) → AllByRecursion (λ (x : Letter). SendsInserts made x.message) w.pool → letter_at w number ≡ Some letter → SendsInserts made letter.message
inserts-at w made zero letter all at = absurd (grind (arith, at))
inserts-at w made (suc k) letter all at = all-at (λ (x : Letter). SendsInserts made x.message) w.pool k letter at all

-- changes stay made
pub made-grow : (dot : Dot) → NotesKeep (λ (x : History). was_made x.made dot ≡ true)
made-grow dot = record {
  of_lines = λ h lines is. is;
  of_pasts = λ h pasts is. is;
  of_lost = λ h lost is. is;
  of_accepted = λ h accepted is. is;
  of_purged = λ h purged is. is;
  of_made = λ h change own is. grind (arith, is);
}

own-inserts : (k : History) (key : Key) (theirs : Past) (fate : Fate) → DecidesAsOwn fate → FateMakes (InsertActed k) key theirs fate
own-inserts k key theirs New own = tt
own-inserts k key theirs Unknown own = tt
own-inserts k key theirs (Met held case decision dot) own = λ generation ours maker accepted named. absurd (named own)

new-inserts : (w : World) (h : History) (pasts : List (Key × Past)) (site to : ℕ) (item key : Key) (theirs : Past) (fate : Fate) → AllKnow h.made pasts → KnowsMaker item (past_in pasts item).known → ((c : MadeChange) → changes_of w c.dot.site.0 < c.dot.number → IsUpTo site to item c)
    → FateAbove w.publisher.changes fate → FateMakes (IsUpTo site to item) key theirs fate
new-inserts w h pasts site to item key theirs New sent knows new above = tt
new-inserts w h pasts site to item key theirs Unknown sent knows new above = tt
new-inserts w h pasts site to item key theirs (Met held case decision dot) sent knows new above = λ generation ours. new (Noting.decided_change dot generation key case (past_by case decision dot ours theirs))
    (let zero : changes_of w dot.site.0 ≡ w.publisher.changes = ap (λ (n : ℕ). changes_of w n) above.0 in let high = above.1 in omega (arith, zero, high))

module _ (publication : Publication) (says : Saying) (w : World) (h : History) (number : ℕ) (m : Upload) (g : Ground publication w h) (o : OwnKnown (record { world = w; history = h })) (makers : KnownMakers w h) (i : Accepted w h)
    (at : comes w number m.site (Asks (request.Upload m))) (fine : upload_refusal publication (by_past h (pasts_with h number)) w.moment m w.publisher ≡ None) (news : brings_news (by_past h (pasts_with h number)) m ≡ true) where
  abbrev judge : PublisherJudge
  judge = by_past h (pasts_with h number)

  abbrev incoming : List (Key × Past)
  incoming = pasts_with h number

  abbrev acts : List Act
  acts = acts_in publication says judge m w

  abbrev entries : Entries
  entries = Noting.acts_entries publication judge m acts (here w)

  abbrev acted : History
  acted = fold (Noting.with_act incoming entries) h acts

  abbrev lines : List Line
  lines = Noting.lines_of_entries (last_closed (here w) + 1) entries

  abbrev q : PublisherTables
  q = after publication says w h number m g o at fine news

  abbrev k : History
  k = noted publication says w h number m g o at fine news

  abbrev v : World
  v = with_publisher q w

  own : AllByRecursion (λ (act : Act). DecidesAsOwn act.fate) acts
  own = acts-own judge m (kept_decisions says w.tallies (upload_questions publication judge w.moment m w.publisher)) (here w)

  above : AllByRecursion (λ (act : Act). FateAbove w.publisher.changes act.fate) acts
  above = from-above w.publisher.changes judge m.site (here w) (w.publisher.changes + 1) (kept_decisions says w.tallies (upload_questions publication judge w.moment m w.publisher)) (acting_items judge m) (omega arith)

  made-is : k.made ≡ acted.made
  made-is = fold-leave (λ (x : History). x.made) Noting.with_line (λ x line. refl) lines acted

  pasts-is : k.pasts ≡ acted.pasts
  pasts-is = fold-leave (λ (x : History). x.pasts) Noting.with_line (λ x line. refl) lines acted

  letters-is : k.letters ≡ h.letters
  letters-is = fold-leave (λ (x : History). x.letters) Noting.with_line (λ x line. refl) lines acted ∙ acts-keep (λ (x : History). x.letters ≡ h.letters) (letters-stay h) incoming entries acts h own refl

  more : (dot : Dot) → is_accepted h dot ≡ true → is_accepted k dot ≡ true
  more dot is = accepts-more publication says w h number m g o at fine news dot is

  counted : (dot : Dot) → was_made h.made dot ≡ true → is_given_up w.publisher h dot ≡ false → is_given_up q k dot ≡ false
  counted dot made not_given = upload-counts publication says w h number m g o at fine news dot made not_given

  -- the pasts

  brings : AllByRecursion (λ (act : Act). (dot : Dot) → has (past_in incoming act.key).known dot ≡ true → is_accepted k dot ≡ true) acts
  brings = acts-items (λ (key : Key). (dot : Dot) → has (past_in incoming key).known dot ≡ true → is_accepted k dot ≡ true) judge m.site (here w) (w.publisher.changes + 1)
      (kept_decisions says w.tallies (upload_questions publication judge w.moment m w.publisher)) (acting_items judge m)
      (all-every (λ (dot : Dot) (item : UploadItem). has (past_in incoming (key_of_item item)).known dot ≡ true → is_accepted k dot ≡ true) (acting_items judge m)
      (λ dot. all-weaker (λ (item : UploadItem). knows_of incoming dot (key_of_item item) ≡ true → list_any (λ (x : UploadItem). knows_of incoming dot (key_of_item x)) (acting_items judge m) ≡ true) (λ (item : UploadItem). has (past_in incoming (key_of_item item)).known dot ≡ true → is_accepted k dot ≡ true)
      (λ item some is. (let accepted = accepts-items publication says w h number m g o at fine news dot (some is) in grind (arith, accepted))) (acting_items judge m) (item-any (λ (x : UploadItem). knows_of incoming dot (key_of_item x)) (acting_items judge m))))

  before-fits : (n : ℕ) → SiteFits q k n (pasts_at h n)
  before-fits n key =
      let fits = all-fit w h i n key in
      ((λ dot is other. more dot (fits.0 dot is other)), (λ low dot is. counted dot (made-was h.made key dot ((held-knows h n key g.known.knowledge).made_here dot is)) (fits.1 low dot is)))

  acted-fits : (n : ℕ) → SiteFits q k n (pasts_at acted n)
  acted-fits = acts-pasts (λ (n : ℕ) (rows : List (Key × Past)). SiteFits q k n rows) incoming entries acts h own
      (all-both (λ (act : Act). DecidesAsOwn act.fate) (λ (act : Act). (dot : Dot) → has (past_in incoming act.key).known dot ≡ true → is_accepted k dot ≡ true) (ActKeeps (λ (n : ℕ) (rows : List (Key × Past)). SiteFits q k n rows) incoming entries)
      (λ act site accepted rows old. fate-fits q k act.fate act.key rows (past_in incoming act.key) site accepted old) acts own brings) before-fits

  fits : (n : ℕ) → SiteFits q k n (pasts_at k n)
  fits n = subst (λ (pasts : List (ℕ × List (Key × Past))). SiteFits q k n (rows_in pasts n)) (sym pasts-is) (acted-fits n)

  others : (n : ℕ) → (n ≡ 0 → ⊥) → pasts_at k n ≡ pasts_at h n
  others n named = ap (λ (pasts : List (ℕ × List (Key × Past))). rows_in pasts n) pasts-is
      ∙ acts-pasts (λ (x : ℕ) (rows : List (Key × Past)). (x ≡ 0 → ⊥) → rows ≡ pasts_at h x) incoming entries acts h own
      (all-of (ActKeeps (λ (x : ℕ) (rows : List (Key × Past)). (x ≡ 0 → ⊥) → rows ≡ pasts_at h x) incoming entries) (λ act rows old other. absurd (other refl)) acts) (λ x other. refl) n named

  -- letters

  message-goes : (pasts : List (Key × Past)) (message : Message) → AllKnow h.made pasts → CountsGo w v h k pasts message
  message-goes pasts (Asks (request.Upload u)) all = λ acts_now. (
    (let same = upload-joined m acts w.publisher.sites u.site.0 in grind (arith, same, acts_now)),
    (λ key dot is not_given. counted dot (made-was h.made key dot ((past-knows h.made key pasts all).made_here dot is)) not_given),
  )
  message-goes pasts (Asks (request.Join u)) all = tt
  message-goes pasts (Asks (request.Ranges u)) all = tt
  message-goes pasts (Asks (request.Download u)) all = tt
  message-goes pasts (Replies u) all = tt

  letters-count : AllZip (λ (x : Letter) (pasts : List (Key × Past)). UploadCounts (record { world = v; history = k }) pasts x.message) w.pool k.letters
  letters-count = subst (λ (x : List (List (Key × Past))). AllZip (λ (y : Letter) (pasts : List (Key × Past)). UploadCounts (record { world = v; history = k }) pasts y.message) w.pool x) (sym letters-is)
      (zip-second (λ (x : Letter) (pasts : List (Key × Past)). UploadCounts (record { world = w; history = h }) pasts x.message) (λ (x : Letter) (pasts : List (Key × Past)). UploadCounts (record { world = v; history = k }) pasts x.message) (AllKnow h.made)
      (λ x pasts all old. counts-go w v h k pasts x.message (message-goes pasts x.message all) old) w.pool h.letters g.known.knowledge.sent i.counts.counts)

  -- what has acted

  done-before : (n generation : ℕ) → is_done h n generation ≡ true → is_done k n generation ≡ true
  done-before n generation is =
      let r = reaches publication says w h number m g o at fine news in
      let begins = r.begins in
      let goes = r.goes in
      let joins = done-joins (lined publication says judge m incoming w h) m.site.0 m.from m.to n generation (omega (arith, begins, goes)) in
      let same = ap (λ (x : List (ℕ × ℕ)). list_any (λ (entry : ℕ × ℕ). (entry.0 == n) && (entry.1 == generation)) x) (uploaded-alike publication says judge m incoming w h).done in
      grind (arith, joins, same, is)

  done-now : (n generation : ℕ) → n ≡ m.site.0 → 1 ≤ generation → generation ≤ m.to → is_done k n generation ≡ true
  done-now n generation own_site from up =
      let r = reaches publication says w h number m g o at fine news in
      let begins = r.begins in
      let goes = r.goes in
      let joins = done-joins (lined publication says judge m incoming w h) m.site.0 m.from m.to n generation (omega (arith, begins, goes)) in
      let same = ap (λ (x : List (ℕ × ℕ)). list_any (λ (entry : ℕ × ℕ). (entry.0 == n) && (entry.1 == generation)) x) (uploaded-alike publication says judge m incoming w h).done in
      let was = g.received.done n generation from in
      let received = ap (λ (x : ℕ). received_by_number w.publisher x) own_site in
      grind (arith, nat_tests, joins, same, was, received, begins, own_site, from, up)

  items-sent : AllByRecursion (λ (row : Key × Past). OthersAccepted h m.site.0 row.1.known) incoming
  items-sent = letter-zip (λ (x : Letter) (pasts : List (Key × Past)). SendsAccepted h pasts x.message) w h number (record { site = m.site; message = Asks (request.Upload m) }) i.sent at

  item-acted : (c : MadeChange) (item : UploadItem) (b : Bool) → (c.dot.site.0 == m.site.0) ≡ b → IsAlone h.made c → InsertActed h c → ((c.dot.site.0 == m.site.0) ≡ true → 1 ≤ c.generation) → IsUpTo m.site.0 m.to (key_of_item item) c
      → maker_of c.key.row.0 ≡ Some c.dot → (c.dot.site.0 ≡ 0 → ⊥) → knows_of incoming c.dot (key_of_item item) ≡ true → is_done k c.dot.site.0 c.generation ≡ true
  item-acted c item true is one acted_before from up_to maker named knows =
      let site : c.dot.site.0 ≡ m.site.0 = grind (arith, nat_tests, is) in
      let here_made = (past-knows h.made (key_of_item item) incoming (letter-knows h number g.known.knowledge)).made_here c.dot knows in
      done-now c.dot.site.0 c.generation site (from is) (up_to (one (key_of_item item) here_made) maker site)
  item-acted c item false is one acted_before from up_to maker named knows =
      let differs : c.dot.site.0 ≡ m.site.0 → ⊥ = λ same. grind (arith, nat_tests, is, same) in
      let accepted : is_accepted h c.dot ≡ true = past-among (λ (past : Past). OthersAccepted h m.site.0 past.known) (λ dot none other. absurd (grind (arith, none))) incoming items-sent (key_of_item item) c.dot knows differs in
      done-before c.dot.site.0 c.generation (acted_before maker accepted named)

  insert-acted : (c : MadeChange) → IsAlone h.made c → InsertActed h c → ((c.dot.site.0 == m.site.0) ≡ true → 1 ≤ c.generation) → AllByRecursion (λ (item : UploadItem). IsUpTo m.site.0 m.to (key_of_item item) c) m.items → InsertActed k c
  insert-acted c one acted_before from up_to maker accepted named =
      either (is_done k c.dot.site.0 c.generation ≡ true) (has h.accepted c.dot) (list_any (λ (item : UploadItem). knows_of incoming c.dot (key_of_item item)) (acting_items judge m))
      (let is = upload-accepts publication says judge m incoming w h c.dot in grind (arith, nat_tests, accepted, is, named))
      (λ before. done-before c.dot.site.0 c.generation (acted_before maker (grind (arith, before)) named))
      (λ some. any-among (λ (item : UploadItem). knows_of incoming c.dot (key_of_item item)) (λ (item : UploadItem). not (judge.has_acted m.site.0 item.generation)) (is_done k c.dot.site.0 c.generation ≡ true) m.items
      (all-weaker (λ (item : UploadItem). IsUpTo m.site.0 m.to (key_of_item item) c) (λ (item : UploadItem). knows_of incoming c.dot (key_of_item item) ≡ true → is_done k c.dot.site.0 c.generation ≡ true)
      (λ item up knows. item-acted c item (c.dot.site.0 == m.site.0) refl one acted_before from up maker named knows) m.items up_to) some)

  made-acted : AllByRecursion (InsertActed k) h.made
  made-acted =
      let up_to : AllByRecursion (λ (c : MadeChange). AllByRecursion (λ (item : UploadItem). IsUpTo m.site.0 m.to (key_of_item item) c) m.items) h.made =
      turned (λ (item : UploadItem) (c : MadeChange). IsUpTo m.site.0 m.to (key_of_item item) c) m.items h.made (inserts-at w h.made number (record { site = m.site; message = Asks (request.Upload m) }) i.inserts at) in
      all-three (λ (c : MadeChange). IsAlone h.made c × InsertActed h c) (λ (c : MadeChange). (c.dot.site.0 == m.site.0) ≡ true → 1 ≤ c.generation) (λ (c : MadeChange). AllByRecursion (λ (item : UploadItem). IsUpTo m.site.0 m.to (key_of_item item) c) m.items) (InsertActed k)
      (λ c one two three. insert-acted c one.0 one.1 two three) h.made
      (all-three (IsAlone h.made) (InsertActed h) (IsAlone h.made) (λ (c : MadeChange). IsAlone h.made c × InsertActed h c) (λ c one two three. (one, two)) h.made (are-alone (changes_of w) h g.known.numbered) i.counts.inserts (are-alone (changes_of w) h g.known.numbered))
      (all-weaker _ (λ (c : MadeChange). (c.dot.site.0 == m.site.0) ≡ true → 1 ≤ c.generation) (λ c place is. (place is).1.0) h.made (placed publication says w h number m g o at fine news)) up_to

  -- what was made

  grows : (dot : Dot) → was_made h.made dot ≡ true → was_made k.made dot ≡ true
  grows dot is = lines-keep (λ (x : History). was_made x.made dot ≡ true) (made-grow dot) lines acted (acts-keep (λ (x : History). was_made x.made dot ≡ true) (made-grow dot) incoming entries acts h own is)

  accepted-made : (dot : Dot) → has k.accepted dot ≡ true → was_made k.made dot ≡ true
  accepted-made dot is = grows dot (either (was_made h.made dot ≡ true) (has h.accepted dot) (list_any (λ (item : UploadItem). knows_of incoming dot (key_of_item item)) (acting_items judge m))
      (let accepts = upload-accepts publication says judge m incoming w h dot in grind (arith, accepts, is)) (i.made dot)
      (λ some. any-among (λ (item : UploadItem). knows_of incoming dot (key_of_item item)) (λ (item : UploadItem). not (judge.has_acted m.site.0 item.generation)) (was_made h.made dot ≡ true) m.items
      (all-of (λ (item : UploadItem). knows_of incoming dot (key_of_item item) ≡ true → was_made h.made dot ≡ true)
      (λ item knows. made-was h.made (key_of_item item) dot ((past-knows h.made (key_of_item item) incoming (letter-knows h number g.known.knowledge)).made_here dot knows)) m.items) some))

  pub upload-accepted : Accepted v k
  upload-accepted = record {
    counts = record {
      here = λ key. (fits 0 key).0;
      there = λ n key low. (fits n key).0;
      holds = λ n key dot low is. (fits n key).1 low dot is;
      counts = letters-count;
      joining = i.counts.joining;
      makers = (upload-makers publication says w h number m g makers at).makers;
      inserts = subst (λ (x : List MadeChange). AllByRecursion (InsertActed k) x) (sym made-is)
          (acts-made (InsertActed k) incoming entries acts h (all-weaker (λ (act : Act). DecidesAsOwn act.fate) (λ (act : Act). FateMakes (InsertActed k) act.key (past_in incoming act.key) act.fate) (λ act site. own-inserts k act.key (past_in incoming act.key) act.fate site) acts own) made-acted);
    };
    bare = λ n s found joins. others n (found-named w.subscribers n s g.none found) ∙ i.bare n s found joins;
    sent = send-on w v h k more refl letters-is i.sent;
    made = accepted-made;
    inserts = inserts-on w h (changes_of w) k.made g.known makers
        (λ pasts site to key sent knows old. subst (λ (x : List MadeChange). AllByRecursion (IsUpTo site to key) x) (sym made-is)
        (acts-made (IsUpTo site to key) incoming entries acts h
        (all-weaker (λ (act : Act). FateAbove w.publisher.changes act.fate) (λ (act : Act). FateMakes (IsUpTo site to key) act.key (past_in incoming act.key) act.fate)
        (λ act up. new-inserts w h pasts site to key act.key (past_in incoming act.key) act.fate sent knows (λ c high. new-up-to (changes_of w) h pasts site to key c g.known.numbered sent knows high) up) acts above) old)) i.inserts;
  }
