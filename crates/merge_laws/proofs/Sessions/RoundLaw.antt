-- A round settles every site: uploads leave what other sites sent, and downloads what other sites hold.
use Rattle.std.specs.Prelude.{◌≡◌, ◌==◌, ◌-◌, ◌+◌, ◌⊎◌, ℕ, zero, suc, List, [], ◌∷◌, Bool, true, false, Option, None, if◌then◌else◌, nat_le, refl}
use Rattle.std.proofs.Common.{arith, subst, sym, ap, ◌∙◌, inl, inr}
use Rattle.merge_types.specs.declared.identifiers.Moment.{Moment}
use Rattle.merge_types.specs.declared.identifiers.SiteId.{SiteId}
use Rattle.merge_gens.specs.declared.sites.SiteState.{SiteState}
use Rattle.merge_schema.specs.declared.publication.Publication.{Publication}
use Rattle.merge_batch.specs.declared.reply.Downloaded.{Downloaded}
use Rattle.merge_model.specs.History.{MadeChange}
use Rattle.merge_model.specs.Tables.Keys.{at_number}
use Rattle.merge_model.specs.History.Model.{Model, model}
use Rattle.merge_model.specs.Laws.Promises.{IsSettled}
use Rattle.merge_model.specs.Publisher.{last_closed}
use Rattle.merge_model.specs.Failing.Runs.{model_behind_actions}
use Rattle.merge_model.specs.World.Session.{ask as asking}
use Rattle.merge_model.specs.World.Session.{Session, after_download, downloads_up_to, exchange, unsent_generations, uploads_up_to, with_answer, with_upload}
use Rattle.merge_model.specs.World.Steps.{SendDownload, SendUpload}
use Rattle.merge_model.specs.Subscriber.{subscriber_last_closed}
use Rattle.merge_model.specs.Tables.{SubscriberTables}
use Rattle.merge_model.specs.World.{Saying}
use Rattle.merge_model.proofs.Lists.Finding.{found-named, some_same}
use Rattle.merge_laws.specs.Laws.{OfEveryValidActions}
use Rattle.merge_laws.specs.Laws.Rounds.{AllComplete, Completes, HasSubscribers, RoundSettles, downloaded_by, is_among, new_session, uploaded_by}
use Rattle.merge_laws.proofs.Sessions.RoundStays.{AskStays, Stays, Unmoved, answered-both, asks-then, download-stays, stays-itself, stays-then, stays-unmoved, upload-stays}
use Rattle.merge_laws.proofs.Sessions.SessionChanges.{NoneBetween}
use Rattle.merge_laws.proofs.Sessions.SessionExchanges.{DownloadLeaves, UploadLeaves, UploadRests, download-leaves, upload-leaves}
use Rattle.merge_laws.proofs.Sessions.SessionLaw.{At, Fetched, Joins, Known, Settles, Uploaded, at_next, downloads-settle, ends-here, exchange-settles, fetch-settles, if-settles, own, same-site, settled, uploads-settle}
use Rattle.merge_laws.proofs.Settled.SettledExpired.{expired_in}
use Rattle.merge_laws.proofs.Settled.SettledLaw.{settled-by-actions}
use Rattle.merge_laws.proofs.Received.Subscribing.{number-decided, same_number}
use Rattle.merge_laws.proofs.Walking.{same-sites}

module _ (publication : Publication) (says : Saying) (site : SiteId) where
  -- What uploads of a site leave.
  uploading-stays : (start : Model) (count : ℕ) (u : Session Model) → Joins publication says site u.world → Stays site start u.world → Settles publication says site (Stays site start) (uploads_up_to (model publication says) site count u)
  uploading-stays start zero u j s = λ none. s
  uploading-stays start (suc count) u j s =
      let k : Model = u.world in
      let a : At publication says site k = j.at in
      let t : SubscriberTables = a.tables in
      let Acts : Model → Type 0 = λ (n : Model). UploadLeaves k t n × Stays t.site k n in
      let Rests : Model → Type 0 = λ (n : Model). UploadRests t n × Unmoved k n in
      exchange-settles publication says site Acts Rests (Stays site start) SendUpload u (with_upload (model publication says) site) (uploads_up_to (model publication says) site count)
      (ends-here publication says site Acts Rests SendUpload k a
      (answered-both publication says (UploadLeaves k t) (Stays t.site k) (UploadRests t) (Unmoved k) t.site (asking (model publication says) t.site SendUpload k)
      (upload-leaves publication says k t (own publication says site k a) (a.known.0.subscribers site.0 t a.here).own (a.known.1.subscribers t.site.0 t (own publication says site k a)).named)
      (upload-stays publication says k t (own publication says site k a))))
      a.known
      (λ v g l. uploading-stays start count v (record { at = at_next publication says site k v.world a l.0.tables g l.0.here; joined = l.0.joined ∙ j.joined })
      (stays-then site start k v.world s (subst (λ (x : SiteId). Stays x k v.world) (same-site publication says site k a) l.1)))
      (λ n g r. stays-unmoved site start k n s r.1)

  uploads-stay : (m : Model) → Joins publication says site m → (uploaded_by publication says site m).stop ≡ None → Stays site m (uploaded_by publication says site m).world
  uploads-stay m j ended = uploading-stays m (unsent_generations (model publication says) site m) (new_session m) j (stays-itself site m) ended

  -- What downloads of a site leave.
  one-download : (Q : Model → Type 0) (u : Session Model) (j : Joins publication says site u.world) (next : Downloaded → Session Model → Session Model)
      → ((v : Session Model) (d : Downloaded) → Joins publication says site v.world → AskStays site u.world v.world → Settles publication says site Q (next d v))
      → Settles publication says site Q (exchange (model publication says) site SendDownload (with_answer (model publication says) site) (after_download (model publication says) site next) u)
  one-download Q u j next more =
      let k : Model = u.world in
      let a : At publication says site k = j.at in
      let t : SubscriberTables = a.tables in
      let Acts : Model → Type 0 = λ (n : Model). DownloadLeaves publication k t n × AskStays t.site k n in
      let Rests : Model → Type 0 = λ (n : Model). ⊥ × ⊥ in
      exchange-settles publication says site Acts Rests Q SendDownload u (with_answer (model publication says) site) (after_download (model publication says) site next)
      (ends-here publication says site Acts Rests SendDownload k a
      (answered-both publication says (DownloadLeaves publication k t) (AskStays t.site k) (λ n. ⊥) (λ n. ⊥) t.site (asking (model publication says) t.site SendDownload k)
      (download-leaves publication says k t (own publication says site k a))
      (download-stays publication says k t (own publication says site k a))))
      a.known
      (λ v g l. fetch-settles publication says site Q next v l.0.told l.0.posted
      (more v l.0.told (record { at = at_next publication says site k v.world a l.0.tables g l.0.here; joined = l.0.joined ∙ j.joined }) (subst (λ (x : SiteId). AskStays x k v.world) (same-site publication says site k a) l.1)))
      (λ n g r. absurd r.0)

  downloading-stays : (start : Model) (count target : ℕ) (u : Session Model) → Joins publication says site u.world → AskStays site start u.world → Settles publication says site (AskStays site start) (downloads_up_to (model publication says) site count target u)
  downloading-stays start zero target u j s = λ none. s
  downloading-stays start (suc count) target u j s = one-download (AskStays site start) u j
      (λ (d : Downloaded) (t : Session Model). if nat_le target d.from then t else downloads_up_to (model publication says) site count target t)
      (λ v d joins stays. (let all : AskStays site start v.world = asks-then site start u.world v.world s stays in
      if-settles publication says site (AskStays site start) (nat_le target d.from) v (downloads_up_to (model publication says) site count target v) (λ is none. all) (λ is. downloading-stays start count target v joins all)))

  downloads-stay : (m : Model) → Joins publication says site m → (downloaded_by publication says site m).stop ≡ None → AskStays site m (downloaded_by publication says site m).world
  downloads-stay m j ended = one-download (AskStays site m) (new_session m) j
      (λ (d : Downloaded) (t : Session Model). if nat_le d.last d.from then t else downloads_up_to (model publication says) site (d.last + 1 - d.from) d.last t)
      (λ v d joins stays. if-settles publication says site (AskStays site m) (nat_le d.last d.from) v (downloads_up_to (model publication says) site (d.last + 1 - d.from) d.last v)
      (λ is none. stays) (λ is. downloading-stays m (d.last + 1 - d.from) d.last v joins stays)) ended

module _ (publication : Publication) (says : Saying) where
  -- What is known of a site stays where another one has its turn.

  back-at : (a b : SiteId) (k n : Model) → (a.0 ≡ b.0 → ⊥) → Stays b k n → Known publication says b k → At publication says a n → At publication says a k
  back-at a b k n differs s g t = record { tables = t.tables; known = g; here = sym (s.others a.0 differs) ∙ t.here }

  carry-uploaded : (a b : SiteId) (k n : Model) → (a.0 ≡ b.0 → ⊥) → (a.0 ≡ 0 → ⊥) → Stays b k n → Known publication says b n → Uploaded publication says a k → Uploaded publication says a n
  carry-uploaded a b k n differs named s g up = record {
    joins = record { at = record { tables = up.joins.at.tables; known = g; here = s.others a.0 differs ∙ up.joins.at.here }; joined = up.joins.joined };
    none = subst (λ (made : List MadeChange). NoneBetween up.joins.at.tables.received (subscriber_last_closed up.joins.at.tables + 1) made) (sym (s.made a.0 named)) up.none;
  }

  carry-fetched : (a b : SiteId) (k n : Model) → (a.0 ≡ b.0 → ⊥) → (a.0 ≡ 0 → ⊥) → AskStays b k n → Known publication says b n → Fetched publication says a k → Fetched publication says a n
  unfolding carry-uploaded
  carry-fetched a b k n differs named s g f =
      let same : last_closed n.world.publisher ≡ last_closed k.world.publisher = s.still f.fetches.empty in
      let marks = f.fetches.marks in
      record {
        fetches = record {
          uploaded = carry-uploaded a b k n differs named s.stays g f.fetches.uploaded;
          closed = refl;
          empty = s.empty;
          in_time = ap (λ (now : Moment). expired_in publication now (at_number n.world.publisher.sites a.0)) s.moment ∙ ap (λ (found : Option SiteState). expired_in publication k.world.moment found) (s.states a.0 differs) ∙ f.fetches.in_time;
          marks = omega (arith, marks, same);
        };
        held = f.held ∙ sym same;
      }

  among-rest : (a b : SiteId) (sites : List SiteId) → (b.0 == a.0) ≡ false → is_among a (b ∷ sites) ≡ true → is_among a sites ≡ true
  among-rest a b sites other is = grind (arith, other, is)

  -- Uploads, one site after the other.

  abbrev NoZero : Model → Type 0
  NoZero m = at_number m.world.subscribers 0 ≡ None

  abbrev AllKnown : Model → Type 0
  AllKnown m = (a : SiteId) → Known publication says a m

  abbrev Ups : Model → Type 0
  Ups m = (a : SiteId) → At publication says a m → Uploaded publication says a m

  abbrev Sent : Model → List SiteId → Type 0
  Sent m sites = (a : SiteId) → At publication says a m → Uploaded publication says a m ⊎ (is_among a sites ≡ true)

  here-named : (a : SiteId) (m : Model) → NoZero m → At publication says a m → a.0 ≡ 0 → ⊥
  here-named a m none at is = found-named m.world.subscribers a.0 at.tables none at.here is

  module _ (b : SiteId) (m n : Model) (none : NoZero m) (g : Known publication says b m) (up : Uploaded publication says b n) (stays : Stays b m n) where
    still-none : NoZero m → At publication says b m → NoZero n
    still-none empty at = stays.others 0 (λ is. here-named b m empty at (sym is)) ∙ empty

    -- by whether a site is the one that had its turn
    sent-by : (sites : List SiteId) → Sent m (b ∷ sites) → (a : SiteId) (c : Bool) → (b.0 == a.0) ≡ c → same_number b.0 a.0 c → At publication says a n → Uploaded publication says a n ⊎ (is_among a sites ≡ true)
    sent-by sites sent a true is same at = inl (subst (λ (x : SiteId). Uploaded publication says x n) (same-sites b a same) up)
    sent-by sites sent a false is differs at =
        let before : At publication says a m = back-at a b m n (λ e. differs (sym e)) stays g at in
        elim (sent a before) [
          | inl was ↦ inl (carry-uploaded a b m n (λ e. differs (sym e)) (here-named a m none before) stays up.joins.at.known was)
          | inr among ↦ inr (among-rest a b sites is among)
        ]

  uploads-through : (sites : List SiteId) (m k : Model) → NoZero m → AllKnown m → Sent m sites → AllComplete (uploaded_by publication says) sites m k
      → NoZero k × (AllKnown k × Ups k)
  uploads-through [] m k none g sent same = subst (λ (n : Model). NoZero n × (AllKnown n × Ups n)) same (
    none,
    (
      g,
      λ a at. elim (sent a at) [
        | inl was ↦ was
        | inr among ↦ absurd (cc among)
      ],
    ),
  )
  uploads-through (b ∷ sites) m k none g sent all =
      let c : Completes (uploaded_by publication says) b m = all.0 in
      let at : At publication says b m = record { tables = c.tables; known = g b; here = c.here } in
      let j : Joins publication says b m = record { at = at; joined = c.joined } in
      let n : Model = (uploaded_by publication says b m).world in
      let up : Uploaded publication says b n = uploads-settle publication says b (new_session m) j c.ended in
      let stays : Stays b m n = uploads-stay publication says b m j c.ended in
      uploads-through sites n k (still-none b m n none (g b) up stays none at) (λ a. up.joins.at.known) (λ a at_next. sent-by b m n none (g b) up stays sites sent a (b.0 == a.0) refl (number-decided b.0 a.0) at_next) all.1

  -- Downloads, one site after the other.

  abbrev Got : Model → List SiteId → Type 0
  Got m sites = (a : SiteId) → At publication says a m → Fetched publication says a m ⊎ (is_among a sites ≡ true)

  module _ (b : SiteId) (m n : Model) (none : NoZero m) (g : Known publication says b m) (f : Fetched publication says b n) (stays : AskStays b m n) (ups : Ups m) where
    ups-by : (a : SiteId) (c : Bool) → same_number b.0 a.0 c → At publication says a n → Uploaded publication says a n
    ups-by a true same at = subst (λ (x : SiteId). Uploaded publication says x n) (same-sites b a same) f.fetches.uploaded
    ups-by a false differs at =
        let before : At publication says a m = back-at a b m n (λ e. differs (sym e)) stays.stays g at in
        carry-uploaded a b m n (λ e. differs (sym e)) (here-named a m none before) stays.stays f.fetches.uploaded.joins.at.known (ups a before)

    got-by : (sites : List SiteId) → Got m (b ∷ sites) → (a : SiteId) (c : Bool) → (b.0 == a.0) ≡ c → same_number b.0 a.0 c → At publication says a n → Fetched publication says a n ⊎ (is_among a sites ≡ true)
    got-by sites got a true is same at = inl (subst (λ (x : SiteId). Fetched publication says x n) (same-sites b a same) f)
    got-by sites got a false is differs at =
        let before : At publication says a m = back-at a b m n (λ e. differs (sym e)) stays.stays g at in
        elim (got a before) [
          | inl was ↦ inl (carry-fetched a b m n (λ e. differs (sym e)) (here-named a m none before) stays f.fetches.uploaded.joins.at.known was)
          | inr among ↦ inr (among-rest a b sites is among)
        ]

  downloads-through : (sites : List SiteId) (m k : Model) → NoZero m → AllKnown m → Ups m → Got m sites → AllComplete (downloaded_by publication says) sites m k
      → AllKnown k × ((a : SiteId) → At publication says a k → Fetched publication says a k)
  downloads-through [] m k none g ups got same = subst (λ (n : Model). AllKnown n × ((a : SiteId) → At publication says a n → Fetched publication says a n)) same (
    g,
    λ a at. elim (got a at) [
      | inl was ↦ was
      | inr among ↦ absurd (cc among)
    ],
  )
  downloads-through (b ∷ sites) m k none g ups got all =
      let c : Completes (downloaded_by publication says) b m = all.0 in
      let at : At publication says b m = record { tables = c.tables; known = g b; here = c.here } in
      let up : Uploaded publication says b m = ups b at in
      let n : Model = (downloaded_by publication says b m).world in
      let f : Fetched publication says b n = downloads-settle publication says b (new_session m) up c.ended in
      let stays : AskStays b m n = downloads-stay publication says b m up.joins c.ended in
      let empty : NoZero n = stays.stays.others 0 (λ is. here-named b m none at (sym is)) ∙ none in
      downloads-through sites n k empty (λ a. f.fetches.uploaded.joins.at.known) (λ a next. ups-by b m n none (g b) f stays ups a (b.0 == a.0) (number-decided b.0 a.0) next)
      (λ a next. got-by b m n none (g b) f stays ups sites got a (b.0 == a.0) refl (number-decided b.0 a.0) next) all.1

  -- Every subscriber is among the sites.
  subscriber-among : (m : Model) (sites : List SiteId) → HasSubscribers m sites → (a : SiteId) → At publication says a m → is_among a sites ≡ true
  subscriber-among m sites has a at = subst (λ (x : SiteId). is_among x sites ≡ true) (same-site publication says a m at) (has at.tables (own publication says a m at))

  round-here : (m : Model) → NoZero m → AllKnown m → RoundSettles publication says m
  round-here m none g uploading downloading sent done up down uploads downloads s here =
      let first = uploads-through uploading m sent none g (λ a at. inr (subscriber-among m uploading up a at)) uploads in
      let last = downloads-through downloading sent done first.0 first.1.0 first.1.1 (λ a at. inr (subscriber-among sent downloading down a at)) downloads in
      let f : Fetched publication says s.site done = last.1 s.site (record { tables = s; known = last.0 s.site; here = here }) in
      subst (λ (x : SubscriberTables). IsSettled publication done x) (some_same f.fetches.uploaded.joins.at.tables s (sym f.fetches.uploaded.joins.at.here ∙ here)) (settled publication says s.site done f)

pub round-settles : OfEveryValidActions RoundSettles
round-settles resolvers publication valid says tallies slips actions =
    let g = (settled-by-actions publication says tallies slips actions (resolvers, valid)).0 in
    round-here publication says (model_behind_actions publication says tallies slips actions) g.none (λ a. (g.received, g.numbered))
