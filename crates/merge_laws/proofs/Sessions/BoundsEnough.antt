-- A session's uploads and downloads end before their bounds.
use Rattle.std.specs.Prelude.{◌≡◌, ◌≤◌, ◌<◌, ◌-◌, ◌+◌, ℕ, zero, suc, List, [], ◌∷◌, Bool, true, false, Option, Some, None, if◌then◌else◌, nat_le, option_map, unwrap_or, refl}
use Rattle.std.proofs.Common.{arith, subst, sym, ap, ◌∙◌}
use Rattle.std.proofs.lemmas.Bool.Decides.{nat_tests}
use Rattle.merge_types.specs.declared.identifiers.SiteId.{SiteId}
use Rattle.merge_types.specs.declared.row_key.RowKey.{RowKey as Key}
use Rattle.merge_schema.specs.declared.publication.Publication.{Publication}
use Rattle.merge_batch.specs.declared.reply.Downloaded.{Downloaded}
use Rattle.merge_batch.specs.declared.reply.Reply.TheVariants as reply
use Rattle.merge_batch.specs.declared.request.Request.TheVariants as request
use Rattle.merge_batch.specs.declared.request.Upload.{Upload}
use Rattle.merge_model.specs.Judge.ByHistory.{by_made}
use Rattle.merge_model.specs.History.{MadeChange, made_at}
use Rattle.merge_model.specs.History.Model.{Model, model, model_step}
use Rattle.merge_model.specs.Publisher.{last_closed}
use Rattle.merge_model.specs.Failing.Runs.{model_behind_actions}
use Rattle.merge_model.specs.Subscriber.Sending.{sending_refusal, unsent_rows, upload_made, upload_sent}
use Rattle.merge_model.specs.World.Session.{Session, after_download, all_downloads, all_uploads, answered_as, ask, downloaded_in, downloads_up_to, exchange, last_message, session_after_reply, unsent_generations, uploads_up_to, with_answer, with_upload}
use Rattle.merge_model.specs.World.Steps.{Deliver, Send, SendDownload, SendUpload, Sending, post_if_made}
use Rattle.merge_model.specs.Subscriber.{subscriber_at_moment, subscriber_closed, subscriber_last_closed}
use Rattle.merge_model.specs.Tables.{SubscriberTables}
use Rattle.merge_model.specs.World.{Saying, World, subscriber_at}
use Rattle.merge_model.specs.declared.letter.Message.{Message}
use Rattle.merge_model.specs.declared.letter.Message.TheVariants.{Replies}
use Rattle.merge_model.specs.declared.outcome.Outcome.{Outcome}
use Rattle.merge_model.specs.declared.outcome.Outcome.TheVariants.{NoPost, Posted, Refuses, Took}
use Rattle.merge_model.proofs.Lists.Finding.{found-named}
use Rattle.merge_laws.specs.Laws.Bounds.{DownloadsAreEnough, UploadsAreEnough, more_downloads, more_uploads, under_way}
use Rattle.merge_laws.specs.Laws.{OfEveryValidActions}
use Rattle.merge_laws.proofs.Sessions.SessionChanges.{NoneBetween, UpTo, none-nothing, order-up, up-none}
use Rattle.merge_laws.proofs.Sessions.SessionExchanges.{DownloadLeaves, UploadLeaves, UploadRests, download-leaves, upload-leaves}
use Rattle.merge_laws.proofs.Sessions.SessionLaw.{At, Joins, Known, at_next, deliver-known, ends-here, own, same-site, step-known}
use Rattle.merge_laws.proofs.Sessions.SessionSteps.{After, Answered, Ends, Sent, send-step, unless-step}
use Rattle.merge_laws.proofs.Settled.SettledLaw.{settled-by-actions}

module _ (publication : Publication) (says : Saying) (site : SiteId) where
  -- Two ways to go on that are the same where an exchange acts.
  arrived-same : (Acts Rests : Model → Type 0) (v : Session Model) (done : Model × Outcome) (next other : Session Model → Session Model) → Ends Acts Rests done → Known publication says site done.0
      → ((x : Session Model) → Known publication says site x.world → Acts x.world → next x ≡ other x) → session_after_reply (model publication says) site next v done ≡ session_after_reply (model publication says) site other v done
  arrived-same Acts Rests v (k, Took taken) next other ends g same = same (record v { world = k }) g ends
  arrived-same Acts Rests v (k, Refuses refusal) next other ends g same = refl
  arrived-same Acts Rests v (k, NoPost) next other ends g same = refl
  arrived-same Acts Rests v (k, outcome) next other ends g same = absurd ends

  answered-same : (Acts Rests : Model → Type 0) (u : Session Model) (done : Model × Outcome) (counted next other : Session Model → Session Model) → Answered publication says Acts Rests site done → Known publication says site done.0
      → ((x : Session Model) → Known publication says site x.world → Acts x.world → next x ≡ other x) → answered_as (model publication says) site counted next u done ≡ answered_as (model publication says) site counted other u done
  answered-same Acts Rests u (k, Posted number) counted next other ends g same =
      arrived-same Acts Rests (counted (record u { world = k })) (model_step publication says k (Deliver number)) next other ends (step-known publication says site k (Deliver number) g) same
  answered-same Acts Rests u (k, Refuses refusal) counted next other ends g same = refl
  answered-same Acts Rests u (k, NoPost) counted next other ends g same = refl
  answered-same Acts Rests u (k, outcome) counted next other ends g same = absurd ends

  pub exchange-same : (Acts Rests : Model → Type 0) (sending : Sending) (u : Session Model) (counted next other : Session Model → Session Model) → Answered publication says Acts Rests site (ask (model publication says) site sending u.world) → Known publication says site u.world
      → ((x : Session Model) → Known publication says site x.world → Acts x.world → next x ≡ other x) → exchange (model publication says) site sending counted next u ≡ exchange (model publication says) site sending counted other u
  exchange-same Acts Rests sending u counted next other ends g same = answered-same Acts Rests u (ask (model publication says) site sending u.world) counted next other ends
      (deliver-known publication says site (model_step publication says u.world (Send site sending)) (step-known publication says site u.world (Send site sending) g)) same

  -- Where nothing is unsent, no upload is made.
  nothing-sent : (k : Model) (s : SubscriberTables) → subscriber_at k.world s.site ≡ Some s → unsent_rows (by_made k.history s.site) s ≡ [] → Answered publication says (λ n. ⊥) (λ n. Unit {0}) s.site (ask (model publication says) s.site SendUpload k)
  nothing-sent k s at nothing =
      let made : SubscriberTables × Upload = upload_sent (by_made k.history s.site) (subscriber_closed (subscriber_at_moment k.world.moment s)) in
      let act : Option (SubscriberTables × Upload) → World × Outcome = post_if_made s.site (λ (y : Upload). request.Upload y) k.world in
      let rows : List (Key × ℕ) → Type 0 = λ (unsent : List (Key × ℕ)). (let sent : Option (SubscriberTables × Upload) = elim unsent [ [] ↦ None | row ∷ rest ↦ Some made ] in After (Sent publication says (λ n. ⊥) (λ n. Unit {0}) s.site) (act sent) k.history k.history) in
      send-step publication says (λ n. ⊥) (λ n. Unit {0}) s.site k s SendUpload at
      (unless-step (Sent publication says (λ n. ⊥) (λ n. Unit {0}) s.site) k.world k.history (λ why. tt) (sending_refusal s) (upload_made (by_made k.history s.site) k.world.moment s) act k.history (λ fine. subst rows (sym nothing) tt))

  -- Uploads.

  one-more : (count more : ℕ) → suc count + more ≡ suc (count + more)
  one-more count more = omega arith

  module _ (bound : ℕ) where
    -- one turn, where the later ones are the same
    upload-turn : (count more : ℕ) (u : Session Model) (j : Joins publication says site u.world) → UpTo bound (made_at u.world.history site.0) → bound + 1 ≤ j.at.tables.received + suc count
        → ((v : Session Model) (e : Joins publication says site v.world) → UpTo bound (made_at v.world.history site.0) → 1 ≤ count → bound + 1 ≤ e.at.tables.received + count → uploads_up_to (model publication says) site (count + more) v ≡ uploads_up_to (model publication says) site count v)
        → (b : Bool) → nat_le bound j.at.tables.received ≡ b → uploads_up_to (model publication says) site (suc (count + more)) u ≡ uploads_up_to (model publication says) site (suc count) u
    upload-turn count more u j all enough later true is =
        let k : Model = u.world in
        let a : At publication says site k = j.at in
        let s : SubscriberTables = a.tables in
        let up : bound ≤ s.received = grind (arith, nat_tests, is) in
        let none : NoneBetween s.received (subscriber_last_closed s + 1) (made_at k.history s.site.0) = subst (λ (x : SiteId). NoneBetween s.received (subscriber_last_closed s + 1) (made_at k.history x.0)) (sym (same-site publication says site k a)) (up-none bound s.received (subscriber_last_closed s + 1) (made_at k.history site.0) up all) in
        exchange-same (λ n. ⊥) (λ n. Unit {0}) SendUpload u (with_upload (model publication says) site) (uploads_up_to (model publication says) site (count + more)) (uploads_up_to (model publication says) site count)
        (ends-here publication says site (λ n. ⊥) (λ n. Unit {0}) SendUpload k a (nothing-sent k s (own publication says site k a) (none-nothing k.history s none)))
        a.known (λ x g never. absurd never)
    upload-turn count more u j all enough later false is =
        let k : Model = u.world in
        let a : At publication says site k = j.at in
        let s : SubscriberTables = a.tables in
        let low : s.received < bound = grind (arith, nat_tests, is) in
        exchange-same (UploadLeaves k s) (UploadRests s) SendUpload u (with_upload (model publication says) site) (uploads_up_to (model publication says) site (count + more)) (uploads_up_to (model publication says) site count)
        (ends-here publication says site (UploadLeaves k s) (UploadRests s) SendUpload k a
        (upload-leaves publication says k s (own publication says site k a) (a.known.0.subscribers site.0 s a.here).own (a.known.1.subscribers s.site.0 s (own publication says site k a)).named))
        a.known (λ v g l. (
        let up = l.received in
        let made : made_at v.world.history site.0 ≡ made_at k.history site.0 = subst (λ (x : SiteId). made_at v.world.history x.0 ≡ made_at k.history x.0) (same-site publication says site k a) l.made in
        later v (record { at = at_next publication says site k v.world a l.tables g l.here; joined = l.joined ∙ j.joined })
        (subst (λ (changes : List MadeChange). UpTo bound changes) (sym made) all) (omega (arith, low, enough)) (omega (arith, up, enough))))

    uploading-same : (count more : ℕ) (u : Session Model) (j : Joins publication says site u.world) → UpTo bound (made_at u.world.history site.0) → 1 ≤ count → bound + 1 ≤ j.at.tables.received + count
        → uploads_up_to (model publication says) site (count + more) u ≡ uploads_up_to (model publication says) site count u
    uploading-same zero more u j all some enough = absurd (omega (arith, some))
    uploading-same (suc count) more u j all some enough =
        ap (λ (n : ℕ). uploads_up_to (model publication says) site n u) (one-more count more)
        ∙ upload-turn count more u j all enough (λ v e up one left. uploading-same count more v e up one left) (nat_le bound j.at.tables.received) refl

  -- Downloads.

  -- the publisher's generations have closed up to this one, and the site has still to ask for some
  record Asks (target : ℕ) (k : Model) : Type 0 where
    pub at : At publication says site k
    pub closed : last_closed k.world.publisher ≡ target
    pub empty : k.world.publisher.gens.filling.filled ≡ 0
    pub marks : at.tables.watermark ≤ target

  fetch-same : (next other : Downloaded → Session Model → Session Model) (u : Session Model) (d : Downloaded) → last_message (model publication says) site u.world ≡ Some (Replies (reply.Downloaded d)) → next d u ≡ other d u
      → after_download (model publication says) site next u ≡ after_download (model publication says) site other u
  fetch-same next other u d last same =
      subst (λ (found : Option Message). (let v : Session Model = elim (downloaded_in (model publication says) site found) [ None ↦ u | Some m ↦ next m u ] in v) ≡ (let v : Session Model = elim (downloaded_in (model publication says) site found) [ None ↦ u | Some m ↦ other m u ] in v)) (sym last) same

  if-same : (b : Bool) (x y z : Session Model) → (b ≡ false → y ≡ z) → (if b then x else y) ≡ (if b then x else z)
  if-same true x y z same = refl
  if-same false x y z same = same refl

  asks-after : (target : ℕ) (k n : Model) (a : At publication says site k) → Known publication says site n → (l : DownloadLeaves publication k a.tables n) → last_closed n.world.publisher ≡ target → Asks target n
  asks-after target k n a g l closed = record {
    at = at_next publication says site k n a l.tables g l.here;
    closed = closed;
    empty = l.empty;
    marks = (let held = l.held in let within = l.within in let last = l.last in omega (arith, held, within, last, closed));
  }

  downloading-same : (count more target : ℕ) (u : Session Model) (f : Asks target u.world) → target + 1 ≤ f.at.tables.watermark + count
      → downloads_up_to (model publication says) site (count + more) target u ≡ downloads_up_to (model publication says) site count target u
  unfolding asks-after
  downloading-same zero more target u f enough = (let marks = f.marks in absurd (omega (arith, marks, enough)))
  downloading-same (suc count) more target u f enough =
      let k : Model = u.world in
      let a : At publication says site k = f.at in
      let next : ℕ → Downloaded → Session Model → Session Model = λ (n : ℕ) (d : Downloaded) (t : Session Model). if nat_le target d.from then t else downloads_up_to (model publication says) site n target t in
      ap (λ (n : ℕ). downloads_up_to (model publication says) site n target u) (one-more count more)
      ∙ exchange-same (DownloadLeaves publication k a.tables) (λ n. ⊥) SendDownload u (with_answer (model publication says) site) (after_download (model publication says) site (next (count + more))) (after_download (model publication says) site (next count))
      (ends-here publication says site (DownloadLeaves publication k a.tables) (λ n. ⊥) SendDownload k a (download-leaves publication says k a.tables (own publication says site k a)))
      a.known (λ v g l. (
      let still : last_closed v.world.world.publisher ≡ target = l.still f.empty ∙ f.closed in
      let last = l.last in let onward = l.onward in let held = l.held in let from = l.from in
      fetch-same (next (count + more)) (next count) v l.told l.posted
      (if-same (nat_le target l.told.from) v (downloads_up_to (model publication says) site (count + more) target v) (downloads_up_to (model publication says) site count target v)
      (λ is. (let low : l.told.from < target = grind (arith, nat_tests, is) in let on = onward (omega (arith, low, last, still)) in
      downloading-same count more target v (asks-after target k v.world a g l still) (omega (arith, on, held, from, enough)))))))

  downloads-same : (more : ℕ) (u : Session Model) (a : At publication says site u.world) → more_downloads (model publication says) site more u ≡ all_downloads (model publication says) site u
  unfolding asks-after
  downloads-same more u a =
      let k : Model = u.world in
      let next : Downloaded → Session Model → Session Model = λ (d : Downloaded) (t : Session Model). if nat_le d.last d.from then t else downloads_up_to (model publication says) site (d.last + 1 - d.from + more) d.last t in
      let whole : Downloaded → Session Model → Session Model = λ (d : Downloaded) (t : Session Model). if nat_le d.last d.from then t else downloads_up_to (model publication says) site (d.last + 1 - d.from) d.last t in
      exchange-same (DownloadLeaves publication k a.tables) (λ n. ⊥) SendDownload u (with_answer (model publication says) site) (after_download (model publication says) site next) (after_download (model publication says) site whole)
      (ends-here publication says site (DownloadLeaves publication k a.tables) (λ n. ⊥) SendDownload k a (download-leaves publication says k a.tables (own publication says site k a)))
      a.known (λ v g l. (
      let onward = l.onward in let held = l.held in
      let enough : ℕ = l.told.last + 1 - l.told.from in
      fetch-same next whole v l.told l.posted
      (if-same (nat_le l.told.last l.told.from) v (downloads_up_to (model publication says) site (enough + more) l.told.last v) (downloads_up_to (model publication says) site enough l.told.last v)
      (λ is. (let low : l.told.from < l.told.last = grind (arith, nat_tests, is) in let on = onward low in
      downloading-same enough more l.told.last v (asks-after l.told.last k v.world a g l (sym l.last)) (omega (arith, low, on, held)))))))

module _ (publication : Publication) (says : Saying) (m : Model) (s : SubscriberTables) (at : subscriber_at m.world s.site ≡ Some s) (known : Known publication says s.site m) where
  here : At publication says s.site m
  here = record { tables = s; known = known; here = at }

  uploads-here : s.is_joined ≡ true → (s.site.0 ≡ 0 → ⊥) → (uploads downloads more : ℕ) → more_uploads (model publication says) s.site more (under_way m uploads downloads) ≡ all_uploads (model publication says) s.site (under_way m uploads downloads)
  unfolding here
  uploads-here joined named uploads downloads more =
      let u : Session Model = under_way m uploads downloads in
      let bound : ℕ = subscriber_last_closed s + 1 in
      let below = (known.0.subscribers s.site.0 s at).own in
      let all : UpTo bound (made_at m.history s.site.0) = order-up s.changes bound (made_at m.history s.site.0) ((known.1.subscribers s.site.0 s at).order named) in
      let count : ℕ = subscriber_last_closed s + 2 - s.received in
      let is : unsent_generations (model publication says) s.site m ≡ count = ap (λ (found : Option SubscriberTables). unwrap_or (option_map (λ (x : SubscriberTables). x.gens.filling.last_closed + 2 - x.received) found) 0) at in
      ap (λ (n : ℕ). uploads_up_to (model publication says) s.site (n + more) u) is
      ∙ uploading-same publication says s.site bound count more u (record { at = here; joined = joined }) all (omega (arith, below)) (omega (arith, below))
      ∙ ap (λ (n : ℕ). uploads_up_to (model publication says) s.site n u) (sym is)

pub uploads-enough : OfEveryValidActions UploadsAreEnough
uploads-enough resolvers publication valid says tallies slips actions s uploads downloads more at joined =
    let m : Model = model_behind_actions publication says tallies slips actions in
    let g = (settled-by-actions publication says tallies slips actions (resolvers, valid)).0 in
    uploads-here publication says m s at (g.received, g.numbered) joined (found-named m.world.subscribers s.site.0 s g.none at) uploads downloads more

pub downloads-enough : OfEveryValidActions DownloadsAreEnough
downloads-enough resolvers publication valid says tallies slips actions s uploads downloads more at joined =
    let m : Model = model_behind_actions publication says tallies slips actions in
    let g = (settled-by-actions publication says tallies slips actions (resolvers, valid)).0 in
    downloads-same publication says s.site more (under_way m uploads downloads) (here publication says m s at (g.received, g.numbered))
