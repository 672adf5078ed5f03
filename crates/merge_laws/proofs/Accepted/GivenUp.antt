-- What was given up stays given up, by every step: received change numbers do not fall, and nothing that was given up is accepted.
use Rattle.std.specs.Prelude.{◌≡◌, ◌≤◌, ◌<◌, ◌==◌, ◌++◌, ◌+◌, ◌&&◌, ◌||◌, ℕ, List, [], ◌∷◌, Bool, true, false, not, Option, Some, None, refl, if◌then◌else◌, is_some, nat_le, nat_lt, unwrap_or}
use Rattle.std.specs.List.{AllByRecursion, AllZip, fold, list_any}
use Rattle.std.proofs.Common.{arith, subst, sym, ap, ◌∙◌}
use Rattle.std.proofs.lemmas.Bool.Decides.{nat_tests}
use Rattle.std.proofs.lemmas.List.Folds.{list_any-append}
use Rattle.merge_types.specs.declared.identifiers.Dot.{Dot}
use Rattle.merge_types.specs.declared.identifiers.Moment.{Moment}
use Rattle.merge_types.specs.declared.identifiers.SiteId.{SiteId}
use Rattle.merge_units.specs.declared.result.Decision.{Decision}
use Rattle.merge_gens.specs.declared.sites.SiteState.{SiteState}
use Rattle.merge_schema.specs.declared.publication.Publication.{Publication}
use Rattle.merge_batch.specs.declared.refusal.Refusal.TheVariants.{Expired, Stale}
use Rattle.merge_batch.specs.declared.request.Download.{Download}
use Rattle.merge_batch.specs.declared.request.Join.{Join}
use Rattle.merge_batch.specs.declared.request.Request.TheVariants as request
use Rattle.merge_batch.specs.declared.request.Upload.{Upload}
use Rattle.merge_batch.specs.declared.request.UploadItem.{UploadItem}
use Rattle.merge_gens.specs.Retention.{is_expired}
use Rattle.merge_model.specs.Publisher.Acts.{Act, act_of, acting_items, acts_from, key_of_item, left_by, made_by}
use Rattle.merge_model.specs.Judge.ByHistory.{by_past}
use Rattle.merge_model.specs.Judge.ByNumbers.{received_by_number, received_number_by_number}
use Rattle.merge_model.specs.Publisher.Entries.{Entries}
use Rattle.merge_model.specs.History.{History, MadeChange, Past, has, is_accepted, made_at, past_in, pasts_with}
use Rattle.merge_model.specs.Judge.{PublisherJudge}
use Rattle.merge_model.specs.Tables.Keys.{at_number}
use Rattle.merge_model.specs.History.Noting
use Rattle.merge_model.specs.Publisher.{last_closed, later, no_state, site_refusal, state_refusal, unknown_site}
use Rattle.merge_model.specs.Publisher.PublisherDownload.{tables_after_download}
use Rattle.merge_model.specs.Publisher.PublisherJoin.{join_acts, join_taken}
use Rattle.merge_model.specs.Publisher.PublisherUpload.{brings_news, taken_in, upload_refusal}
use Rattle.merge_model.specs.Tables.Refusals.{refused_if}
use Rattle.merge_model.specs.World.Steps.{kept_decisions, upload_questions}
use Rattle.merge_types.specs.declared.row_key.RowKey.{RowKey as Key}
use Rattle.merge_model.specs.Tables.{PublisherTables, SubscriberTables}
use Rattle.merge_model.specs.World.{Saying, World}
use Rattle.merge_model.specs.declared.letter.Message.TheVariants.{Asks}
use Rattle.merge_model.specs.declared.letter.Letter.{Letter}
use Rattle.merge_model.specs.Laws.Promises.{is_given_up}
use Rattle.merge_laws.specs.Facts.LineagesStand.{UploadCounts, can_act, counts_in}
use Rattle.merge_laws.specs.Facts.Numbered.{JoinTells, Numbered, last_of}
use Rattle.merge_laws.specs.Facts.Received.{Received}
use Rattle.merge_laws.proofs.Received.Arrivals.{not-refused, upload-known}
use Rattle.merge_model.proofs.Runs.Refusals.{first-none}
use Rattle.merge_laws.proofs.Received.Deliveries.{news-above}
use Rattle.merge_model.proofs.Lists.Finding.{letter-zip}
use Rattle.merge_model.proofs.Lists.{any-among}
use Rattle.merge_laws.proofs.Received.MessageFacts.{acts-later, join-up, letter-fits}
use Rattle.merge_laws.proofs.Walking.NotesLeave.{fate-leaves, lines-accepted}
use Rattle.merge_laws.proofs.Numbered.Numbers.{letter-tells, upload-says}
use Rattle.merge_laws.proofs.Received.Publishing.{asked-same, joined-change, upload-change}
use Rattle.merge_laws.proofs.Received.Subscribing.{number-decided, same_number}
use Rattle.merge_laws.proofs.Numbered.Through.{last-rises}
use Rattle.merge_laws.proofs.Walking.{acts_in, comes, here}
use Rattle.merge_laws.proofs.Received.Worlds.{no-gap}

-- Of two publishers with their histories.

pub given-stays : (p q : PublisherTables) (h k : History) (dot : Dot) → received_number_by_number p dot.site.0 ≤ received_number_by_number q dot.site.0 → (is_accepted k dot ≡ true → is_given_up p h dot ≡ false) → is_given_up p h dot ≡ true → is_given_up q k dot ≡ true
given-stays p q h k dot up anew given = grind (arith, nat_tests, up, anew, given)

abbrev pub StaysGivenUp : PublisherTables → History → PublisherTables → History → Type 0
StaysGivenUp p h q k = (dot : Dot) → is_given_up p h dot ≡ true → is_given_up q k dot ≡ true

-- what counts afterwards counted before
pub counts-before : (w v : World) (h k : History) → StaysGivenUp w.publisher h v.publisher k → (change : MadeChange) → counts_in (record { world = v; history = k }) change ≡ true → counts_in (record { world = w; history = h }) change ≡ true
counts-before w v h k stays change counts = grind (arith, stays change.dot, counts)

-- where nothing is accepted anew
accepted-same : (h k : History) (dot : Dot) → k.accepted ≡ h.accepted → is_accepted k dot ≡ is_accepted h dot
accepted-same h k dot same = ap (λ (dots : List Dot). (dot.site.0 == 0) || has dots dot) same

pub stays-where : (p q : PublisherTables) (h k : History) → ((n : ℕ) → received_number_by_number p n ≤ received_number_by_number q n) → k.accepted ≡ h.accepted → StaysGivenUp p h q k
stays-where p q h k up same dot given = given-stays p q h k dot (up dot.site.0) (λ now. (let was = accepted-same h k dot same in grind (arith, now, was))) given

-- What a step accepts.

-- an upload accepts what the items know that act
abbrev pub knows_of : List (Key × Past) → Dot → Key → Bool
knows_of incoming dot key = has (past_in incoming key).known dot

act-accepted : (incoming : List (Key × Past)) (entries : Entries) (act : Act) (h : History) (dot : Dot) → has (Noting.with_act incoming entries h act).accepted dot ≡ (has h.accepted dot || knows_of incoming dot act.key)
act-accepted incoming entries act h dot =
    let known : List Dot = (past_in incoming act.key).known in
    ap (λ (dots : List Dot). has (dots ++ known) dot) (fate-leaves (λ (x : History). x.accepted) (λ x lost. refl) (λ x made pasts. refl) act.fate (Noting.entry_generation entries act.key) act.key (past_in incoming act.key) h)
    ∙ list_any-append (λ (x : Dot). (x.site.0 == dot.site.0) && (x.number == dot.number)) h.accepted known

acts-accepted : (incoming : List (Key × Past)) (entries : Entries) (acts : List Act) (h : History) (dot : Dot)
    → has (fold (Noting.with_act incoming entries) h acts).accepted dot ≡ (has h.accepted dot || list_any (λ (act : Act). knows_of incoming dot act.key) acts)
acts-accepted incoming entries [] h dot = grind (arith)
acts-accepted incoming entries (act ∷ acts) h dot =
    let rest = acts-accepted incoming entries acts (Noting.with_act incoming entries h act) dot in
    let first = act-accepted incoming entries act h dot in
    grind (arith, rest, first)

from-items : (test : Key → Bool) (judge : PublisherJudge) (site : SiteId) (p : PublisherTables) (number : ℕ) (decisions : List Decision) (items : List UploadItem)
    → list_any (λ (act : Act). test act.key) (acts_from judge site p number decisions items) ≡ list_any (λ (item : UploadItem). test (key_of_item item)) items
from-items test judge site p number decisions [] = refl
from-items test judge site p number decisions (item ∷ items) =
    let act : Act = act_of judge site p number decisions item in
    ap (λ (b : Bool). test (key_of_item item) || b) (from-items test judge site p (number + made_by act.fate) (left_by act.fate decisions) items)

pub upload-accepts : (publication : Publication) (says : Saying) (judge : PublisherJudge) (m : Upload) (incoming : List (Key × Past)) (w : World) (h : History) (dot : Dot)
    → has (Noting.with_acts_noted publication judge m (acts_in publication says judge m w) incoming (here w) h).accepted dot ≡ (has h.accepted dot || list_any (λ (item : UploadItem). knows_of incoming dot (key_of_item item)) (acting_items judge m))
upload-accepts publication says judge m incoming w h dot =
    let acts : List Act = acts_in publication says judge m w in
    let entries : Entries = Noting.acts_entries publication judge m acts (here w) in
    ap (λ (dots : List Dot). has dots dot) (lines-accepted (Noting.lines_of_entries (last_closed (here w) + 1) entries) (fold (Noting.with_act incoming entries) h acts))
    ∙ acts-accepted incoming entries acts h dot
    ∙ ap (λ (b : Bool). has h.accepted dot || b)
    (from-items (knows_of incoming dot) judge m.site (here w) (w.publisher.changes + 1) (kept_decisions says w.tallies (upload_questions publication judge w.moment m w.publisher)) (acting_items judge m))

-- Received change numbers do not fall.

join-says : (made : List MadeChange) (found : Option SubscriberTables) (m : Join) → JoinTells made m found → m.number ≡ last_of m.generation made
join-says made None m tells = absurd tells
join-says made (Some s) m tells = tells.1

join-number-step : (w : World) (m : Join) (n : ℕ) (b : Bool) → same_number n m.site.0 b → received_number_by_number w.publisher m.site.0 ≤ m.number → received_number_by_number w.publisher n ≤ received_number_by_number (join_taken m (here w)) n
join-number-step w m n true same up = let is = joined-change m (here w) n true same in let below = subst (λ (k : ℕ). received_number_by_number w.publisher k ≤ m.number) (sym same) up in omega (arith, is, below)
join-number-step w m n false differs up = let is = joined-change m (here w) n false differs in omega (arith, is)

pub join-numbers : (w : World) (h : History) (number : ℕ) (m : Join) → Received w h → Numbered w h → comes w number m.site (Asks (request.Join m)) → join_acts m w.publisher ≡ true
    → (n : ℕ) → received_number_by_number w.publisher n ≤ received_number_by_number (join_taken m (here w)) n
join-numbers w h number m r i at acts n =
    let letter : Letter = record { site = m.site; message = Asks (request.Join m) } in
    let up : received_by_number w.publisher m.site.0 ≤ m.generation = join-up w h m (at_number w.subscribers m.site.0) r refl (letter-fits w h number letter r at) (acts-later m w.publisher acts) in
    let says : m.number ≡ last_of m.generation (made_at h m.site.0) = join-says (made_at h m.site.0) (at_number w.subscribers m.site.0) m (letter-tells w h r i number letter at) in
    let below : last_of (received_by_number w.publisher m.site.0) (made_at h m.site.0) ≤ last_of m.generation (made_at h m.site.0) = last-rises (received_by_number w.publisher m.site.0) m.generation (made_at h m.site.0) up in
    let taken = i.taken m.site.0 in
    let rises : received_number_by_number w.publisher m.site.0 ≤ m.number = omega (arith, taken, below, says) in
    join-number-step w m n (n == m.site.0) (number-decided n m.site.0) rises

-- an upload that acts begins at the received generation, or before, and goes beyond it
pub record Reaches (w : World) (m : Upload) (through : ℕ) : Type 0 where
  pub begins : m.from ≤ received_by_number w.publisher m.site.0
  pub goes : received_by_number w.publisher m.site.0 < m.to
  pub known : is_some (at_number w.publisher.sites m.site.0) ≡ true
  pub says : m.through ≡ through

pub upload-reaches : (publication : Publication) (w : World) (h : History) (number : ℕ) (m : Upload) → Received w h → Numbered w h → comes w number m.site (Asks (request.Upload m))
    → (let judge : PublisherJudge = by_past h (pasts_with h number) in upload_refusal publication judge w.moment m w.publisher ≡ None → brings_news judge m ≡ true → Reaches w m (last_of m.to (made_at h m.site.0)))
upload-reaches publication w h number m r i at fine news =
    let judge : PublisherJudge = by_past h (pasts_with h number) in
    let facts = upload-known publication judge w.moment m w.publisher fine in
    let begins : m.from ≤ received_by_number w.publisher m.site.0 = no-gap h w.publisher m.site.0 m.from r.done facts.1 in
    let goes : received_by_number w.publisher m.site.0 < m.to = news-above w h r (pasts_with h number) m news in
    record { begins = begins; goes = goes; known = facts.0; says = upload-says w h r i number m.site m at (omega (arith, begins, goes)) }

pub upload-number : (publication : Publication) (judge : PublisherJudge) (w : World) (m : Upload) (acts : List Act) (n : ℕ)
    → received_number_by_number (taken_in publication judge m acts (here w)) n ≡ (if (n == m.site.0) && is_some (at_number w.publisher.sites n) then m.through else received_number_by_number w.publisher n)
upload-number publication judge w m acts n = upload-change m acts w.publisher.sites n

if-rises : (n site : ℕ) (b same : Bool) (through : ℕ) (numbers : ℕ → ℕ) (x : ℕ) → (n == site) ≡ same → x ≡ (if (n == site) && b then through else numbers n) → numbers site ≤ through → numbers n ≤ x
if-rises n site b true through numbers x decided is up =
    let equal : n ≡ site = grind (arith, nat_tests, decided) in
    let below : numbers n ≤ through = subst (λ (k : ℕ). numbers k ≤ through) (sym equal) up in
    grind (arith, decided, is, below)
if-rises n site b false through numbers x decided is up = grind (arith, decided, is)

pub upload-numbers : (publication : Publication) (judge : PublisherJudge) (w : World) (h : History) (m : Upload) (acts : List Act) → Numbered w h → Reaches w m (last_of m.to (made_at h m.site.0))
    → (n : ℕ) → received_number_by_number w.publisher n ≤ received_number_by_number (taken_in publication judge m acts (here w)) n
upload-numbers publication judge w h m acts i f n =
    let below = last-rises (received_by_number w.publisher m.site.0) m.to (made_at h m.site.0) (let goes = f.goes in omega (arith, goes)) in
    let taken = i.taken m.site.0 in
    let says = f.says in
    if-rises n m.site.0 (is_some (at_number w.publisher.sites n)) (n == m.site.0) m.through (λ (k : ℕ). received_number_by_number w.publisher k) (received_number_by_number (taken_in publication judge m acts (here w)) n) refl (upload-number publication judge w m acts n) (omega (arith, below, taken, says))

-- An upload that is not refused can act.

state-later : (publication : Publication) (seq : ℕ) (now : Moment) (found : Option SiteState) → state_refusal publication seq now found ≡ None → nat_lt (unwrap_or found no_state).joined_at seq ≡ true
state-later publication seq now None e = absurd (grind (arith, e))
state-later publication seq now (Some state) e =
    let all = first-none (refused_if (is_expired (record { 0 = state.last_sync }) now publication.retention_days) (Expired (record { 0 = state.last_sync }) now)) (refused_if (nat_le seq state.joined_at) (Stale seq state.joined_at) ∷ []) e in
    let last = first-none (refused_if (nat_le seq state.joined_at) (Stale seq state.joined_at)) [] all.1 in
    let low = not-refused (nat_le seq state.joined_at) (Stale seq state.joined_at) last.0 in
    grind (arith, nat_tests, low)

pub upload-can-act : (publication : Publication) (judge : PublisherJudge) (w : World) (h : History) (m : Upload) → upload_refusal publication judge w.moment m w.publisher ≡ None → can_act (record { world = w; history = h }) m ≡ true
upload-can-act publication judge w h m fine =
    let all = first-none (site_refusal publication m.site m.seq w.moment w.publisher) _ fine in
    let site = first-none (unknown_site publication m.site) _ all.0 in
    let state = first-none (state_refusal publication m.seq (later w.moment w.publisher.latest) (at_number w.publisher.sites m.site.0)) [] site.1 in
    state-later publication m.seq (later w.moment w.publisher.latest) (at_number w.publisher.sites m.site.0) state.0

-- The steps.

pub ask-given : (w : World) (h : History) (m : Download) → StaysGivenUp w.publisher h (tables_after_download m (here w)) h
ask-given w h m = let same = asked-same m (here w) in stays-where w.publisher (tables_after_download m (here w)) h h (λ n. (let e = same.number n in omega (arith, e))) refl

known-each : (w : World) (h : History) (incoming : List (Key × Past)) (dot : Dot) (items : List UploadItem) → AllByRecursion (λ (item : UploadItem). (other : Dot) → has (past_in incoming (key_of_item item)).known other ≡ true → is_given_up w.publisher h other ≡ false) items
    → AllByRecursion (λ (item : UploadItem). knows_of incoming dot (key_of_item item) ≡ true → is_given_up w.publisher h dot ≡ false) items
known-each w h incoming dot [] all = tt
known-each w h incoming dot (item ∷ items) all = (all.0 dot, known-each w h incoming dot items all.1)

accepted-by : (w : World) (h : History) (dot : Dot) (accepted some : Bool) → ((dot.site.0 == 0) || accepted) ≡ true → accepted ≡ (has h.accepted dot || some) → (some ≡ true → is_given_up w.publisher h dot ≡ false) → is_given_up w.publisher h dot ≡ false
accepted-by w h dot accepted some now is from = grind (arith, now, is, from)

-- an upload accepts nothing that is given up, since its items know nothing that is
pub upload-given : (publication : Publication) (says : Saying) (w : World) (h : History) (number : ℕ) (m : Upload) → Received w h → Numbered w h
    → AllZip (λ (letter : Letter) (pasts : List (Key × Past)). UploadCounts (record { world = w; history = h }) pasts letter.message) w.pool h.letters → comes w number m.site (Asks (request.Upload m))
    → (let judge : PublisherJudge = by_past h (pasts_with h number) in upload_refusal publication judge w.moment m w.publisher ≡ None → brings_news judge m ≡ true
    → StaysGivenUp w.publisher h (taken_in publication judge m (acts_in publication says judge m w) (here w)) (Noting.with_acts_noted publication judge m (acts_in publication says judge m w) (pasts_with h number) (here w) h))
upload-given publication says w h number m r i counts at fine news dot given =
    let judge : PublisherJudge = by_past h (pasts_with h number) in
    let incoming : List (Key × Past) = pasts_with h number in
    let q : PublisherTables = taken_in publication judge m (acts_in publication says judge m w) (here w) in
    let k : History = Noting.with_acts_noted publication judge m (acts_in publication says judge m w) incoming (here w) h in
    let letter : Letter = record { site = m.site; message = Asks (request.Upload m) } in
    let all = letter-zip (λ (x : Letter) (pasts : List (Key × Past)). UploadCounts (record { world = w; history = h }) pasts x.message) w h number letter counts at (upload-can-act publication judge w h m fine) in
    let up = upload-numbers publication judge w h m (acts_in publication says judge m w) i (upload-reaches publication w h number m r i at fine news) dot.site.0 in
    given-stays w.publisher q h k dot up (λ now. accepted-by w h dot (has k.accepted dot) (list_any (λ (item : UploadItem). knows_of incoming dot (key_of_item item)) (acting_items judge m)) now (upload-accepts publication says judge m incoming w h dot)
    (λ some. any-among (λ (item : UploadItem). knows_of incoming dot (key_of_item item)) (λ (item : UploadItem). not (judge.has_acted m.site.0 item.generation)) (is_given_up w.publisher h dot ≡ false) m.items (known-each w h incoming dot m.items all) some)) given
