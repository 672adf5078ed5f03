-- What is accepted stays so, where a step leaves the changes that were made and the pasts alone, and where a letter is posted.
use Rattle.std.specs.Prelude.{◌≡◌, ◌≤◌, ◌==◌, ◌++◌, ℕ, zero, suc, List, [], ◌∷◌, Bool, true, false, Option, Some, refl, cond, filter_map, map, unwrap_or}
use Rattle.std.specs.List.{AllByRecursion, AllZip}
use Rattle.std.specs.BTreeMap.{is_at}
use Rattle.std.proofs.Common.{arith, subst, sym}
use Rattle.std.proofs.lemmas.Bool.Decides.{nat_tests}
use Rattle.merge_types.specs.declared.identifiers.Dot.{Dot}
use Rattle.merge_types.specs.declared.identifiers.Moment.{Moment}
use Rattle.merge_types.specs.declared.identifiers.SiteId.{SiteId}
use Rattle.merge_batch.specs.declared.reply.Act.{Act as Order}
use Rattle.merge_batch.specs.declared.reply.Act.TheVariants as order
use Rattle.merge_batch.specs.declared.reply.DownloadItem.{DownloadItem}
use Rattle.merge_batch.specs.declared.reply.Reply.TheVariants as reply
use Rattle.merge_batch.specs.declared.request.Request.TheVariants as request
use Rattle.merge_batch.specs.declared.request.UploadItem.{UploadItem}
use Rattle.merge_model.specs.Publisher.Acts.{key_of_item}
use Rattle.merge_model.specs.History.{History, Line, Past, has, is_accepted, no_past, past_in, pasts_at}
use Rattle.merge_types.specs.RowKeys.{key_cmp}
use Rattle.merge_model.specs.Tables.Keys.{put_number, row_at}
use Rattle.merge_model.specs.History.Model.{past_of_item, pasts_in, put_past, with_letter}
use Rattle.merge_model.specs.History.Noting
use Rattle.merge_types.specs.declared.row_key.RowKey.{RowKey as Key}
use Rattle.merge_model.specs.Tables.{PublisherTables, SubscriberTables}
use Rattle.merge_model.specs.Subscriber.Taking.{key_of_download}
use Rattle.merge_model.specs.World.{World, subscriber_at, with_publisher, with_subscriber}
use Rattle.merge_model.specs.declared.letter.Message.TheVariants.{Asks, Replies}
use Rattle.merge_model.specs.declared.letter.Letter.{Letter}
use Rattle.merge_model.specs.declared.letter.Message.{Message}
use Rattle.merge_laws.specs.Invariants.Accepted.{Accepted, SendsAccepted, SendsInserts}
use Rattle.merge_model.specs.Laws.Promises.{is_given_up}
use Rattle.merge_laws.specs.Facts.LineagesStand.{UploadCounts, can_act, OthersAccepted}
use Rattle.merge_laws.specs.Facts.Received.{joined_at}
use Rattle.merge_model.proofs.Lists.Finding.{all-more, all-weaker}
use Rattle.merge_model.proofs.Lists.{zip-more, zip-weaker}
use Rattle.merge_laws.proofs.Received.Publishing.{SameNumbers}
use Rattle.merge_laws.proofs.Pasts.WorldLists.{all-subscribers}

-- What a past knows: of other sites only what is accepted, and at a subscriber nothing that is given up.

abbrev pub PastFits : PublisherTables → History → ℕ → Past → Type 0
PastFits p h n past = OthersAccepted h n past.known × (1 ≤ n → (dot : Dot) → has past.known dot ≡ true → is_given_up p h dot ≡ false)

abbrev pub SiteFits : PublisherTables → History → ℕ → List (Key × Past) → Type 0
SiteFits p h n rows = (key : Key) → PastFits p h n (past_in rows key)

pub all-fit : (w : World) (h : History) → Accepted w h → (n : ℕ) → SiteFits w.publisher h n (pasts_at h n)
all-fit w h i zero key = (i.counts.here key, λ low. absurd (omega (arith, low)))
all-fit w h i (suc n) key = (i.counts.there (suc n) key (omega arith), λ low dot is. i.counts.holds (suc n) key dot low is)

pub nothing-fits : (p : PublisherTables) (h : History) (n : ℕ) → PastFits p h n no_past
nothing-fits p h n = ((λ dot is other. absurd (grind (arith, is))), (λ low dot is. absurd (grind (arith, is))))

pub fits-on : (p q : PublisherTables) (h k : History) (n : ℕ) (past : Past) → ((dot : Dot) → is_accepted h dot ≡ true → is_accepted k dot ≡ true) → ((dot : Dot) → is_given_up p h dot ≡ false → is_given_up q k dot ≡ false) → PastFits p h n past → PastFits q k n past
fits-on p q h k n past more keep fits = ((λ dot is other. more dot (fits.0 dot is other)), (λ low dot is. keep dot (fits.1 low dot is)))

-- where all that is known is accepted
pub accepted-fits : (p : PublisherTables) (h : History) (n : ℕ) (past : Past) → ((dot : Dot) → has past.known dot ≡ true → is_accepted h dot ≡ true) → PastFits p h n past
accepted-fits p h n past all = ((λ dot is other. all dot is), (λ low dot is. (let accepted = all dot is in grind (arith, accepted))))

zero-step : (h : History) (dot : Dot) (b : Bool) → (dot.site.0 == 0) ≡ b → ((dot.site.0 ≡ 0 → ⊥) → is_accepted h dot ≡ true) → is_accepted h dot ≡ true
zero-step h dot true is other = grind (arith, is)
zero-step h dot false is other = other (λ zero. grind (arith, nat_tests, is, zero))

pub others-zero : (h : History) (known : List Dot) → OthersAccepted h 0 known → (dot : Dot) → has known dot ≡ true → is_accepted h dot ≡ true
others-zero h known others dot is = zero-step h dot (dot.site.0 == 0) refl (λ named. others dot is named)

-- Letters.

pub sent-on : (h k : History) → ((dot : Dot) → is_accepted h dot ≡ true → is_accepted k dot ≡ true) → (pasts : List (Key × Past)) (message : Message) → SendsAccepted h pasts message → SendsAccepted k pasts message
sent-on h k more pasts (Asks (request.Upload m)) all = all-weaker (λ (row : Key × Past). OthersAccepted h m.site.0 row.1.known) (λ (row : Key × Past). OthersAccepted k m.site.0 row.1.known) (λ row others dot is other. more dot (others dot is other)) pasts all
sent-on h k more pasts (Asks (request.Join m)) all = tt
sent-on h k more pasts (Asks (request.Ranges m)) all = tt
sent-on h k more pasts (Asks (request.Download m)) all = tt
sent-on h k more pasts (Replies (reply.Downloaded m)) all = all-weaker (λ (row : Key × Past). OthersAccepted h 0 row.1.known) (λ (row : Key × Past). OthersAccepted k 0 row.1.known) (λ row others dot is other. more dot (others dot is other)) pasts all
sent-on h k more pasts (Replies (reply.Joined m)) all = tt
sent-on h k more pasts (Replies (reply.Uploaded m)) all = tt
sent-on h k more pasts (Replies (reply.Ranged m)) all = tt
sent-on h k more pasts (Replies (reply.Refused number values)) all = tt

-- of an upload that can act afterwards: it could before, and what its items know counts on
abbrev pub CountsGo : World → World → History → History → List (Key × Past) → Message → Type 0
CountsGo w v h k pasts (Asks (request.Upload m)) = can_act (record { world = v; history = k }) m ≡ true
    → (can_act (record { world = w; history = h }) m ≡ true) × ((key : Key) (dot : Dot) → has (past_in pasts key).known dot ≡ true → is_given_up w.publisher h dot ≡ false → is_given_up v.publisher k dot ≡ false)
CountsGo w v h k pasts message = Unit {0}

items-go : (w v : World) (h k : History) (pasts : List (Key × Past)) → ((key : Key) (dot : Dot) → has (past_in pasts key).known dot ≡ true → is_given_up w.publisher h dot ≡ false → is_given_up v.publisher k dot ≡ false)
    → (items : List UploadItem) → AllByRecursion (λ (item : UploadItem). (dot : Dot) → has (past_in pasts (key_of_item item)).known dot ≡ true → is_given_up w.publisher h dot ≡ false) items
    → AllByRecursion (λ (item : UploadItem). (dot : Dot) → has (past_in pasts (key_of_item item)).known dot ≡ true → is_given_up v.publisher k dot ≡ false) items
items-go w v h k pasts goes [] all = tt
items-go w v h k pasts goes (item ∷ items) all = ((λ dot is. goes (key_of_item item) dot is (all.0 dot is)), items-go w v h k pasts goes items all.1)

pub counts-go : (w v : World) (h k : History) (pasts : List (Key × Past)) (message : Message) → CountsGo w v h k pasts message → UploadCounts (record { world = w; history = h }) pasts message → UploadCounts (record { world = v; history = k }) pasts message
counts-go w v h k pasts (Asks (request.Upload m)) goes all = λ acts. (let both = goes acts in items-go w v h k pasts both.1 m.items (all both.0))
counts-go w v h k pasts (Asks (request.Join m)) goes all = tt
counts-go w v h k pasts (Asks (request.Ranges m)) goes all = tt
counts-go w v h k pasts (Asks (request.Download m)) goes all = tt
counts-go w v h k pasts (Replies m) goes all = tt

pub goes-where : (w v : World) (h k : History) → ((site : SiteId) → joined_at w.publisher site ≤ joined_at v.publisher site) → ((dot : Dot) → is_given_up w.publisher h dot ≡ false → is_given_up v.publisher k dot ≡ false) → (pasts : List (Key × Past)) (message : Message) → CountsGo w v h k pasts message
goes-where w v h k up keep pasts (Asks (request.Upload m)) = λ acts. ((let rises = up m.site in grind (arith, nat_tests, acts, rises)), (λ key dot is counted. keep dot counted))
goes-where w v h k up keep pasts (Asks (request.Join m)) = tt
goes-where w v h k up keep pasts (Asks (request.Ranges m)) = tt
goes-where w v h k up keep pasts (Asks (request.Download m)) = tt
goes-where w v h k up keep pasts (Replies m) = tt

abbrev pub LettersCount : World → History → Type 0
LettersCount w h = AllZip (λ (letter : Letter) (pasts : List (Key × Past)). UploadCounts (record { world = w; history = h }) pasts letter.message) w.pool h.letters

abbrev pub LettersSend : World → History → Type 0
LettersSend w h = AllZip (λ (letter : Letter) (pasts : List (Key × Past)). SendsAccepted h pasts letter.message) w.pool h.letters

pub count-on : (w v : World) (h k : History) → ((site : SiteId) → joined_at w.publisher site ≤ joined_at v.publisher site) → ((dot : Dot) → is_given_up w.publisher h dot ≡ false → is_given_up v.publisher k dot ≡ false) → v.pool ≡ w.pool → k.letters ≡ h.letters → LettersCount w h → LettersCount v k
count-on w v h k up keep pool letters all =
    let R : Letter → List (Key × Past) → Type 0 = λ letter pasts. UploadCounts (record { world = v; history = k }) pasts letter.message in
    let here : AllZip R w.pool h.letters = zip-weaker (λ (letter : Letter) (pasts : List (Key × Past)). UploadCounts (record { world = w; history = h }) pasts letter.message) R
    (λ letter pasts old. counts-go w v h k pasts letter.message (goes-where w v h k up keep pasts letter.message) old) w.pool h.letters all in
    subst (λ (x : List Letter). AllZip R x k.letters) (sym pool) (subst (λ (x : List (List (Key × Past))). AllZip R w.pool x) (sym letters) here)

pub send-on : (w v : World) (h k : History) → ((dot : Dot) → is_accepted h dot ≡ true → is_accepted k dot ≡ true) → v.pool ≡ w.pool → k.letters ≡ h.letters → LettersSend w h → LettersSend v k
send-on w v h k more pool letters all =
    let R : Letter → List (Key × Past) → Type 0 = λ letter pasts. SendsAccepted k pasts letter.message in
    let here : AllZip R w.pool h.letters = zip-weaker (λ (letter : Letter) (pasts : List (Key × Past)). SendsAccepted h pasts letter.message) R (λ letter pasts old. sent-on h k more pasts letter.message old) w.pool h.letters all in
    subst (λ (x : List Letter). AllZip R x k.letters) (sym pool) (subst (λ (x : List (List (Key × Past))). AllZip R w.pool x) (sym letters) here)

-- Steps that leave changes and pasts alone.

pub others-accepted : (w : World) (h : History) (lines : List Line) (lost : List (ℕ × (Key × Past))) (purged : List Key) (bases : List (ℕ × ℕ)) → Accepted w h → Accepted w (record h { lines = lines; lost = lost; purged = purged; bases = bases })
others-accepted w h lines lost purged bases i =
    let k : History = record h { lines = lines; lost = lost; purged = purged; bases = bases } in record {
      counts = record {
        here = i.counts.here;
        there = i.counts.there;
        holds = i.counts.holds;
        counts = count-on w w h k (λ site. omega arith) (λ dot counted. counted) refl refl i.counts.counts;
        joining = i.counts.joining;
        makers = i.counts.makers;
        inserts = i.counts.inserts;
      };
      bare = i.bare;
      sent = send-on w w h k (λ dot is. is) refl refl i.sent;
      made = i.made;
      inserts = i.inserts;
    }

pub lines-accept : (w : World) (lines : List Line) (h : History) → Accepted w h → Accepted w (Noting.with_lines lines h)
lines-accept w [] h i = i
lines-accept w (line ∷ lines) h i = lines-accept w lines (Noting.with_line h line) (others-accepted w h (line ∷ h.lines) h.lost h.purged h.bases i)

same-given : (p q : PublisherTables) (h : History) (dot : Dot) → SameNumbers p q → is_given_up p h dot ≡ false → is_given_up q h dot ≡ false
same-given p q h dot same counted = (let e = same.number dot.site.0 in grind (arith, e, counted))

pub publisher-accepted : (w : World) (h : History) (q : PublisherTables) → SameNumbers w.publisher q → Accepted w h → Accepted (with_publisher q w) h
publisher-accepted w h q same i =
    let v : World = with_publisher q w in
    let keep : (dot : Dot) → is_given_up w.publisher h dot ≡ false → is_given_up q h dot ≡ false = λ dot counted. same-given w.publisher q h dot same counted in record {
      counts = record {
        here = i.counts.here;
        there = i.counts.there;
        holds = λ n key dot low is. keep dot (i.counts.holds n key dot low is);
        counts = count-on w v h h (λ site. (let e = same.joined site in omega (arith, e))) keep refl refl i.counts.counts;
        joining = i.counts.joining;
        makers = i.counts.makers;
        inserts = i.counts.inserts;
      };
      bare = i.bare;
      sent = i.sent;
      made = i.made;
      inserts = i.inserts;
    }

pub tallies-accepted : (w : World) (h : History) (tallies : List ℕ) → Accepted w h → Accepted (record w { tallies = tallies }) h
tallies-accepted w h tallies i = record {
  counts = record {
    here = i.counts.here;
    there = i.counts.there;
    holds = i.counts.holds;
    counts = count-on w (record w { tallies = tallies }) h h (λ site. omega arith) (λ dot counted. counted) refl refl i.counts.counts;
    joining = i.counts.joining;
    makers = i.counts.makers;
    inserts = i.counts.inserts;
  };
  bare = i.bare;
  sent = i.sent;
  made = i.made;
  inserts = i.inserts;
}

pub moment-accepted : (w : World) (h : History) (now : Moment) → Accepted w h → Accepted (record w { moment = now }) h
moment-accepted w h now i = record {
  counts = record {
    here = i.counts.here;
    there = i.counts.there;
    holds = i.counts.holds;
    counts = count-on w (record w { moment = now }) h h (λ site. omega arith) (λ dot counted. counted) refl refl i.counts.counts;
    joining = i.counts.joining;
    makers = i.counts.makers;
    inserts = i.counts.inserts;
  };
  bare = i.bare;
  sent = i.sent;
  made = i.made;
  inserts = i.inserts;
}

-- a site that is joining afterwards was so before, and gets no row
pub subscriber-accepted : (w : World) (h : History) (s t : SubscriberTables) → subscriber_at w s.site ≡ Some s → t.site.0 ≡ s.site.0 → (t.is_joined ≡ false → (s.is_joined ≡ false) × (s.rows ≡ [] → t.rows ≡ [])) → Accepted w h → Accepted (with_subscriber t w) h
subscriber-accepted w h s t at site waits i =
    let v : World = record w { subscribers = put_number w.subscribers s.site.0 t } in
    subst (λ (m : ℕ). Accepted (record w { subscribers = put_number w.subscribers m t }) h) (sym site) (record {
      counts = record {
        here = i.counts.here;
        there = i.counts.there;
        holds = i.counts.holds;
        counts = count-on w v h h (λ x. omega arith) (λ dot counted. counted) refl refl i.counts.counts;
        joining = all-subscribers (λ (n : ℕ) (u : SubscriberTables). u.is_joined ≡ false → u.rows ≡ []) w.subscribers s.site.0 t (λ none. (let was = waits none in was.1 (i.counts.joining s.site.0 s at was.0))) (λ n u differs found. i.counts.joining n u found);
        makers = i.counts.makers;
        inserts = i.counts.inserts;
      };
      bare = all-subscribers (λ (n : ℕ) (u : SubscriberTables). u.is_joined ≡ false → pasts_at h n ≡ []) w.subscribers s.site.0 t (λ none. i.bare s.site.0 s at (waits none).0) (λ n u differs found. i.bare n u found);
      sent = i.sent;
      made = i.made;
      inserts = i.inserts;
    })

-- A letter is posted.

pub post-accepted : (w : World) (h : History) (site : SiteId) (message : Message) → UploadCounts (record { world = w; history = h }) (pasts_in h site message) message → SendsAccepted h (pasts_in h site message) message → SendsInserts h.made message → Accepted w h
    → (let letter : Letter = record { site = site; message = message } in Accepted (record w { pool = w.pool ++ letter ∷ [] }) (with_letter letter h))
post-accepted w h site message counts sent inserts i =
    let letter : Letter = record { site = site; message = message } in
    let v : World = record w { pool = w.pool ++ letter ∷ [] } in
    let k : History = with_letter letter h in
    let R : Letter → List (Key × Past) → Type 0 = λ x pasts. UploadCounts (record { world = v; history = k }) pasts x.message in
    let S : Letter → List (Key × Past) → Type 0 = λ x pasts. SendsAccepted k pasts x.message in
    let old : AllZip R w.pool h.letters = zip-weaker (λ (x : Letter) (pasts : List (Key × Past)). UploadCounts (record { world = w; history = h }) pasts x.message) R
    (λ x pasts was. counts-go w v h k pasts x.message (goes-where w v h k (λ at. omega arith) (λ dot counted. counted) pasts x.message) was) w.pool h.letters i.counts.counts in
    let told : AllZip S w.pool h.letters = zip-weaker (λ (x : Letter) (pasts : List (Key × Past)). SendsAccepted h pasts x.message) S (λ x pasts was. sent-on h k (λ dot is. is) pasts x.message was) w.pool h.letters i.sent in
    record {
      counts = record {
        here = i.counts.here;
        there = i.counts.there;
        holds = i.counts.holds;
        counts = zip-more R w.pool h.letters letter (pasts_in h site message) old (counts-go w v h k (pasts_in h site message) message (goes-where w v h k (λ at. omega arith) (λ dot counted. counted) (pasts_in h site message) message) counts);
        joining = i.counts.joining;
        makers = i.counts.makers;
        inserts = i.counts.inserts;
      };
      bare = i.bare;
      sent = zip-more S w.pool h.letters letter (pasts_in h site message) told (sent-on h k (λ dot is. is) (pasts_in h site message) message sent);
      made = i.made;
      inserts = all-more (λ (x : Letter). SendsInserts h.made x.message) w.pool letter i.inserts inserts;
    }

-- What is said of the pasts of a site is said of those that a message takes with it.

pub sent-rows : (Q : Past → Type 0) (pasts : List (Key × Past)) → ((key : Key) → Q (past_in pasts key)) → (items : List UploadItem) → AllByRecursion (λ (row : Key × Past). Q row.1) (map (past_of_item pasts) items)
sent-rows Q pasts each [] = tt
sent-rows Q pasts each (item ∷ items) = (each (key_of_item item), sent-rows Q pasts each items)

put-row : (Q : Past → Type 0) (pasts : List (Key × Past)) → ((key : Key) → Q (past_in pasts key)) → (item : DownloadItem) (act : Order) (items : List DownloadItem) → AllByRecursion (λ (row : Key × Past). Q row.1) (filter_map (put_past pasts) items)
    → AllByRecursion (λ (row : Key × Past). Q row.1) (filter_map (put_past pasts) (record item { act = act } ∷ items))
put-row Q pasts each item (order.Put lineage live) items rest = (each (key_of_download item), rest)
put-row Q pasts each item order.RemoveDeleted items rest = rest
put-row Q pasts each item order.RemoveLeft items rest = rest

pub put-rows : (Q : Past → Type 0) (pasts : List (Key × Past)) → ((key : Key) → Q (past_in pasts key)) → (items : List DownloadItem) → AllByRecursion (λ (row : Key × Past). Q row.1) (filter_map (put_past pasts) items)
put-rows Q pasts each [] = tt
put-rows Q pasts each (item ∷ items) = put-row Q pasts each item item.act items (put-rows Q pasts each items)

among-step : (Q : Past → Type 0) (b : Bool) (past : Past) (rest : Option Past) → Q past → Q (unwrap_or rest no_past) → Q (unwrap_or (let found : Option Past = cond b (Some past) rest in found) no_past)
among-step Q true past rest here more = here
among-step Q false past rest here more = more

pub past-among : (Q : Past → Type 0) → Q no_past → (rows : List (Key × Past)) → AllByRecursion (λ (row : Key × Past). Q row.1) rows → (key : Key) → Q (past_in rows key)
past-among Q none [] all key = none
past-among Q none (row ∷ rows) all key = among-step Q (is_at (key_cmp key) row.0) row.1 (row_at rows key) all.0 (past-among Q none rows all.1 key)
