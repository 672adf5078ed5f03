-- A join gives up changes that nobody holds who can bring them: its site holds nothing, and its uploads can act no more.
use Rattle.std.specs.Prelude.{◌≡◌, ◌≤◌, ◌<◌, ◌==◌, ◌+◌, ℕ, zero, suc, List, [], ◌∷◌, Bool, true, false, Option, Some, None, refl, map}
use Rattle.std.specs.List.{AllByRecursion, AllZip}
use Rattle.std.proofs.Common.{arith, subst, sym, ap, ◌∙◌}
use Rattle.std.proofs.lemmas.Bool.Decides.{nat_tests}
use Rattle.merge_types.specs.declared.identifiers.Dot.{Dot}
use Rattle.merge_types.specs.declared.identifiers.SiteId.{SiteId}
use Rattle.merge_schema.specs.declared.publication.Publication.{Publication}
use Rattle.merge_batch.specs.declared.request.Join.{Join}
use Rattle.merge_batch.specs.declared.request.Request.TheVariants as request
use Rattle.merge_batch.specs.declared.request.Upload.{Upload}
use Rattle.merge_model.specs.History.{History, Past, is_accepted, is_done, past_in, pasts_at}
use Rattle.merge_model.specs.Judge.{PublisherJudge}
use Rattle.merge_model.specs.Tables.Keys.{at_number, put_number}
use Rattle.merge_model.specs.History.Noting
use Rattle.merge_model.specs.Publisher.{last_closed}
use Rattle.merge_model.specs.Publisher.PublisherJoin.{join_acts, join_taken}
use Rattle.merge_types.specs.declared.row_key.RowKey.{RowKey as Key}
use Rattle.merge_model.specs.Tables.{PublisherTables, SubscriberTables}
use Rattle.merge_model.specs.World.{World, letter_at, with_publisher}
use Rattle.merge_model.specs.declared.letter.Message.TheVariants.{Asks, Replies}
use Rattle.merge_model.specs.declared.letter.Letter.{Letter}
use Rattle.merge_model.specs.declared.letter.Message.{Message}
use Rattle.merge_laws.specs.Invariants.Accepted.{Accepted, SendsAccepted}
use Rattle.merge_laws.specs.Invariants.LetterOrder.{JoinIsLater, LetterOrder, last_upload, upload_seq}
use Rattle.merge_model.specs.Laws.Promises.{is_given_up}
use Rattle.merge_laws.specs.Facts.LineagesStand.{UploadCounts, OthersAccepted}
use Rattle.merge_laws.specs.Facts.Received.{JoinFits, LetterFits, MessageFits, joined_at}
use Rattle.merge_laws.proofs.Accepted.AcceptedParts.{CountsGo, PastFits, SiteFits, all-fit, counts-go, lines-accept, nothing-fits, past-among, send-on}
use Rattle.merge_model.proofs.Lists.Finding.{all-at, all-weaker}
use Rattle.merge_laws.proofs.Runs.Ground.{Ground}
use Rattle.merge_laws.proofs.Letters.LetterOrder.{all-up-to}
use Rattle.merge_laws.proofs.Received.MessageFacts.{acts-later, letter-fits, upload-site}
use Rattle.merge_laws.proofs.Own.OwnItems.{InsertActed}
use Rattle.merge_laws.proofs.Received.Publishing.{done-joins, joined-change, joined-joined}
use Rattle.merge_laws.proofs.Received.Subscribing.{number-decided, same_number}
use Rattle.merge_laws.proofs.Walking.{comes, here, join_noted}

-- the site of a join that acts is joining
waits-found : (joined : ℕ) (m : Join) (found : Option SubscriberTables) → JoinFits joined m.site m found → joined < m.seq → (s : SubscriberTables) × ((found ≡ Some s) × (s.is_joined ≡ false))
waits-found joined m None fits later = absurd fits
waits-found joined m (Some s) fits later = (s, (refl, (fits.2 later).0))

later-at : (w : World) (number : ℕ) (letter : Letter) → LetterOrder w → letter_at w number ≡ Some letter → JoinIsLater (joined_at w.publisher letter.site) (last_upload letter.site.0 w.pool) letter.message
later-at w zero letter o at = absurd (grind (arith, at))
later-at w (suc k) letter o at = all-at (λ (x : Letter). JoinIsLater (joined_at w.publisher x.site) (last_upload x.site.0 w.pool) x.message) w.pool k letter at o.joins

module _ (publication : Publication) (judge : PublisherJudge) (w : World) (h : History) (number : ℕ) (m : Join) (g : Ground publication w h) (o : LetterOrder w) (i : Accepted w h) (at : comes w number m.site (Asks (request.Join m))) (acts : join_acts m w.publisher ≡ true) where
  abbrev q : PublisherTables
  q = join_taken m (here w)

  abbrev v : World
  v = with_publisher q w

  abbrev k : History
  k = record (Noting.with_done m.site.0 0 m.generation h) { bases = put_number h.bases m.site.0 (last_closed w.publisher) }

  waits : (s : SubscriberTables) × ((at_number w.subscribers m.site.0 ≡ Some s) × (s.is_joined ≡ false))
  waits = waits-found (joined_at w.publisher m.site) m (at_number w.subscribers m.site.0) (letter-fits w h number (record { site = m.site; message = Asks (request.Join m) }) g.received at) (acts-later m w.publisher acts)

  -- no upload of the site was made since
  older : last_upload m.site.0 w.pool < m.seq
  older = later-at w number (record { site = m.site; message = Asks (request.Join m) }) o at (acts-later m w.publisher acts)

  given-step : (dot : Dot) (b : Bool) → same_number dot.site.0 m.site.0 b → (dot.site.0 ≡ m.site.0 → is_accepted h dot ≡ true) → is_given_up w.publisher h dot ≡ false → is_given_up q k dot ≡ false
  given-step dot true same accepted counted = (let is = accepted same in grind (arith, is))
  given-step dot false differs accepted counted = (let same = joined-change m (here w) dot.site.0 false differs in grind (arith, same, counted))

  keep : (dot : Dot) → (dot.site.0 ≡ m.site.0 → is_accepted h dot ≡ true) → is_given_up w.publisher h dot ≡ false → is_given_up q k dot ≡ false
  keep dot accepted counted = given-step dot (dot.site.0 == m.site.0) (number-decided dot.site.0 m.site.0) accepted counted

  site-fits : (n : ℕ) (b : Bool) → same_number n m.site.0 b → SiteFits q k n (pasts_at h n)
  site-fits n true same key =
      let bare : pasts_at h n ≡ [] = ap (λ (x : ℕ). pasts_at h x) same ∙ i.bare m.site.0 waits.0 waits.1.0 waits.1.1 in
      subst (λ (rows : List (Key × Past)). PastFits q k n (past_in rows key)) (sym bare) (nothing-fits q k n)
  site-fits n false differs key =
      let fits = all-fit w h i n key in
      (fits.0, λ low dot is. keep dot (λ same. fits.0 dot is (λ own. differs (sym own ∙ same))) (fits.1 low dot is))

  can-act-step : (pasts : List (Key × Past)) (site : SiteId) (u : Upload) (b : Bool) → same_number u.site.0 m.site.0 b → u.site ≡ site → (site.0 ≡ m.site.0 → u.seq ≤ last_upload m.site.0 w.pool) → SendsAccepted h pasts (Asks (request.Upload u)) → CountsGo w v h k pasts (Asks (request.Upload u))
  can-act-step pasts site u true same own bound sent acts_now =
      let joined = joined-joined m (here w) u.site true same in
      let up : u.seq ≤ last_upload m.site.0 w.pool = bound (ap (λ (x : SiteId). x.0) (sym own) ∙ same) in
      let high : m.seq < u.seq = grind (arith, nat_tests, acts_now, joined) in
      let low = older in
      absurd (omega (arith, up, high, low))
  can-act-step pasts site u false differs own bound sent acts_now =
      let joined = joined-joined m (here w) u.site false differs in (
        (grind (arith, nat_tests, acts_now, joined)),
        (λ key dot is counted. keep dot (λ same. past-among (λ (past : Past). OthersAccepted h u.site.0 past.known) (λ x none other. absurd (grind (arith, none))) pasts sent key dot is (λ mine. differs (sym mine ∙ same))) counted),
      )

  message-goes : (pasts : List (Key × Past)) (site : SiteId) (message : Message) → MessageFits (joined_at w.publisher site) site (at_number w.subscribers site.0) message → (site.0 ≡ m.site.0 → upload_seq message ≤ last_upload m.site.0 w.pool) → SendsAccepted h pasts message → CountsGo w v h k pasts message
  message-goes pasts site (Asks (request.Upload u)) fits bound sent = can-act-step pasts site u (u.site.0 == m.site.0) (number-decided u.site.0 m.site.0) (upload-site u site (at_number w.subscribers site.0) fits) bound sent
  message-goes pasts site (Asks (request.Join u)) fits bound sent = tt
  message-goes pasts site (Asks (request.Ranges u)) fits bound sent = tt
  message-goes pasts site (Asks (request.Download u)) fits bound sent = tt
  message-goes pasts site (Replies u) fits bound sent = tt

  letters-go : (pool : List Letter) (letters : List (List (Key × Past))) → AllByRecursion (LetterFits w.subscribers w.publisher) pool → AllByRecursion (λ (x : Letter). x.site.0 ≡ m.site.0 → upload_seq x.message ≤ last_upload m.site.0 w.pool) pool
      → AllZip (λ (x : Letter) (pasts : List (Key × Past)). SendsAccepted h pasts x.message) pool letters → AllZip (λ (x : Letter) (pasts : List (Key × Past)). UploadCounts (record { world = w; history = h }) pasts x.message) pool letters
      → AllZip (λ (x : Letter) (pasts : List (Key × Past)). UploadCounts (record { world = v; history = k }) pasts x.message) pool letters
  letters-go [] [] fits bound sent counts = tt
  letters-go [] (pasts ∷ letters) fits bound sent counts = absurd sent
  letters-go (x ∷ pool) [] fits bound sent counts = absurd sent
  letters-go (x ∷ pool) (pasts ∷ letters) fits bound sent counts =
      (counts-go w v h k pasts x.message (message-goes pasts x.site x.message fits.0 bound.0 sent.0) counts.0, letters-go pool letters fits.1 bound.1 sent.1 counts.1)

  done-stays : (n generation : ℕ) → is_done h n generation ≡ true → is_done k n generation ≡ true
  done-stays n generation done = (let is = done-joins h m.site.0 0 m.generation n generation (omega arith) in grind (arith, is, done))

  pub join-accepts : Accepted v (join_noted judge m w.publisher h)
  join-accepts =
      let fits : (n : ℕ) → SiteFits q k n (pasts_at h n) = λ n. site-fits n (n == m.site.0) (number-decided n m.site.0) in
      let done : Accepted v k = record {
        counts = record {
          here = λ x. (fits 0 x).0;
          there = λ n x low. (fits n x).0;
          holds = λ n x other low is. (fits n x).1 low other is;
          counts = letters-go w.pool h.letters g.received.letters (all-up-to m.site.0 (last_upload m.site.0 w.pool) w.pool (omega arith)) i.sent i.counts.counts;
          joining = i.counts.joining;
          makers = i.counts.makers;
          inserts = all-weaker (InsertActed h) (InsertActed k) (λ c acted maker accepted named. done-stays c.dot.site.0 c.generation (acted maker accepted named)) h.made i.counts.inserts;
        };
        bare = i.bare;
        sent = send-on w v h k (λ x is. is) refl refl i.sent;
        made = i.made;
        inserts = i.inserts;
      } in
      lines-accept v (map (Noting.gone_line (last_closed w.publisher + 1)) (map (Noting.gone_for m.site) (Noting.left_rows judge m.site))) k done
