-- Every step keeps that sites hold what they are to hold.
use Rattle.std.specs.Prelude.{◌≡◌, ◌≤◌, ◌<◌, ◌==◌, ◌+◌, ◌++◌, ℕ, List, [], ◌∷◌, Bool, true, false, Option, Some, None, refl, if◌then◌else◌, map, option_map}
use Rattle.std.proofs.Common.{arith, subst, sym, ap, ◌∙◌}
use Rattle.std.proofs.lemmas.Bool.Decides.{nat_tests}
use Rattle.merge_types.specs.declared.changes.Change.{Change}
use Rattle.merge_types.specs.declared.identifiers.SiteId.{SiteId}
use Rattle.merge_types.specs.declared.values.Value.{Value}
use Rattle.merge_units.specs.declared.result.Decision.{Decision}
use Rattle.merge_units.specs.declared.version.Version.{Version}
use Rattle.merge_ident.specs.Holders.{Holder}
use Rattle.merge_schema.specs.declared.publication.Publication.{Publication}
use Rattle.merge_batch.specs.declared.reply.Reply.{Reply}
use Rattle.merge_batch.specs.declared.reply.Reply.TheVariants as reply
use Rattle.merge_batch.specs.declared.request.Download.{Download}
use Rattle.merge_batch.specs.declared.request.Join.{Join}
use Rattle.merge_batch.specs.declared.request.Outstanding.{Outstanding}
use Rattle.merge_batch.specs.declared.request.Outstanding.TheVariants as ask
use Rattle.merge_batch.specs.declared.request.Request.TheVariants as request
use Rattle.merge_batch.specs.declared.request.Upload.{Upload}
use Rattle.merge_model.specs.Judge.ByHistory.{by_made, by_past}
use Rattle.merge_model.specs.Judge.ByNumbers.{received_by_number}
use Rattle.merge_model.specs.Tables.Changes.{key_of, version_after}
use Rattle.merge_model.specs.World.Faults.{reply_fault}
use Rattle.merge_model.specs.History.{History, MadeChange, made_at, no_history, past_at, pasts_with}
use Rattle.merge_model.specs.Judge.{PublisherJudge, SubscriberJudge}
use Rattle.merge_model.specs.Tables.Keys.{at_number, has_key, put_number, same_key}
use Rattle.merge_model.specs.Laws.{SubscriberIsSorted}
use Rattle.merge_model.specs.History.Noting
use Rattle.merge_model.specs.History.Pasts.{past_after}
use Rattle.merge_model.specs.Laws.Promises.{base_of}
use Rattle.merge_model.specs.Publisher.{tables_after_close}
use Rattle.merge_model.specs.Publisher.PublisherDownload.{download_refusal, inside_keys, reply_to, tables_after_download}
use Rattle.merge_model.specs.Publisher.PublisherJoin.{join_acts, join_taken}
use Rattle.merge_model.specs.Publisher.PublisherLocal.{made_locally, version_at}
use Rattle.merge_model.specs.Publisher.PublisherPurge.{purge}
use Rattle.merge_model.specs.Publisher.PublisherRanges.{plans, reply_to_ranges, with_grants}
use Rattle.merge_model.specs.Publisher.PublisherUpload.{taken_in, upload_refusal}
use Rattle.merge_model.specs.Subscriber.Reinit.{result_of_reinit}
use Rattle.merge_model.specs.Subscriber.Sending.{join_of, upload_end, upload_sent, want_of, with_message}
use Rattle.merge_model.specs.World.Steps.{kept_decisions, upload_questions}
use Rattle.merge_model.specs.Subscriber.{is_joining, subscriber_at_moment, subscriber_closed, subscriber_last_closed, subscriber_local_refusal, subscriber_made_locally, subscriber_next_dot, subscriber_version_at, with_version_if}
use Rattle.merge_types.specs.declared.row_key.RowKey.{RowKey as Key}
use Rattle.merge_units.specs.declared.site_row.SubscriberRow.{SubscriberRow}
use Rattle.merge_model.specs.Tables.{PublisherTables, SubscriberTables}
use Rattle.merge_model.specs.Subscriber.Taking.{seq_of, tables_after_reply}
use Rattle.merge_model.specs.World.{Saying, World, empty_subscribers, empty_world, subscriber_at, with_publisher, with_subscriber}
use Rattle.merge_model.specs.declared.letter.Message.TheVariants.{Asks, Replies}
use Rattle.merge_model.specs.declared.letter.Letter.{Letter}
use Rattle.merge_model.specs.declared.letter.Message.{Message}
use Rattle.merge_model.proofs.Publishers.Sorted.{closed_filling-rises}
use Rattle.merge_laws.specs.Facts.Received.{JoinFits, LetterFits, joined_at}
use Rattle.merge_laws.specs.Facts.Settled.{LetterSettles, MessageSettles, OfPublisher, OfSites, SendsChanged, SiteHolds, SitesSettle, TouchedInOrder, changed_of, held_at, live_only, made_in, site_view, touched_at}
use Rattle.merge_laws.specs.Facts.Watermarks.{AskHolds, LetterHolds, StateHolds, state_in}
use Rattle.merge_model.proofs.Runs.Refusals.{first-none}
use Rattle.merge_model.proofs.Lists.Finding.{pool-at}
use Rattle.merge_laws.proofs.Runs.Ground.{Ground}
use Rattle.merge_model.proofs.Lists.KeyLookUps.{row-put}
use Rattle.merge_laws.proofs.Received.Models.{begins-with}
use Rattle.merge_laws.proofs.Walking.Noted.{anew-keep, own-keep, purge-keep, reply-keep}
use Rattle.merge_laws.proofs.Numbered.Numbers.{Alike, alike-itself, alike-notes, made-other, made-same}
use Rattle.merge_laws.proofs.Settled.SettledActs.{asked-onward, closing-onward, granted-onward, here-onward, join-onward, own-onward, purge-forgets, upload-onward}
use Rattle.merge_laws.proofs.Settled.SettledExpired.{ask-begins}
use Rattle.merge_laws.proofs.Settled.SettledReplied.{reply-keeps}
use Rattle.merge_laws.proofs.Settled.SettledReplies.{reply-holds}
use Rattle.merge_laws.proofs.Settled.SettledRows.{version_in}
use Rattle.merge_laws.proofs.Settled.SettledSeen.{Keeps, forgets-keeps, joining-keeps, onward-keeps}
use Rattle.merge_laws.proofs.Settled.SettledSent.{upload-sends}
use Rattle.merge_laws.proofs.Settled.SettledTakes.{anew-keeps, change-keeps, message-quiets, quiet-keeps, same-quiet}
use Rattle.merge_laws.proofs.Settled.SettledWorlds.{if-any, if-found, posted-on, publisher-on, subscriber-on}
use Rattle.merge_laws.proofs.Received.Steps.{joined-flag}
use Rattle.merge_laws.proofs.Received.Subscribing.{number-decided, same_number}
use Rattle.merge_laws.proofs.Numbered.Tellings.{joined-alike, uploaded-alike}
use Rattle.merge_model.proofs.Lists.Tests.{if-false}
use Rattle.merge_laws.proofs.Unsent.UnsentKept.{all-found, reply-site, version-site}
use Rattle.merge_laws.proofs.Walking.{StepsKeep, acts_in, comes, here, join_noted, own_noted, told_by}

-- what is known besides
abbrev pub Known : Publication → World → History → Type 0
Known publication w h = Ground publication w h × OfPublisher publication w h

-- what was never touched is not in the partition
if-none : (b : Bool) (touched : ℕ) (found : Option Version) → (b ≡ true → 1 ≤ touched) → touched ≤ 0 → (let owed : Option Version = if b then found else None in owed) ≡ None
if-none true touched found live low = (let some = live refl in absurd (omega (arith, some, low)))
if-none false touched found live low = refl

-- The tables after a local change, as far as the change does not matter.
record Versioned (key : Key) (s t : SubscriberTables) : Type 0 where
  held : (q : Key) → same_key q key ≡ false → held_at t q ≡ held_at s q
  flag : t.is_joined ≡ s.is_joined
  mark : t.watermark ≡ s.watermark
  seq : t.seq ≡ s.seq
  sent : t.outstanding ≡ s.outstanding

versioned : (key : Key) (found : Option Version) (s u : SubscriberTables) → u.rows ≡ s.rows → u.is_joined ≡ s.is_joined → u.watermark ≡ s.watermark → u.seq ≡ s.seq → u.outstanding ≡ s.outstanding → Versioned key s (with_version_if key found u)
versioned key None s u rows flag mark seq sent = record { held = λ q differs. ap (λ (rs : List (Key × SubscriberRow)). live_only (version_in rs q)) rows; flag = flag; mark = mark; seq = seq; sent = sent }
versioned key (Some version) s u rows flag mark seq sent = record {
  held = λ q differs. ap (λ (found : Option SubscriberRow). live_only (option_map (λ (row : SubscriberRow). row.version) found)) (row-put u.rows key _ q ∙ if-false (same_key q key) _ _ differs)
      ∙ ap (λ (rs : List (Key × SubscriberRow)). live_only (version_in rs q)) rows;
  flag = flag;
  mark = mark;
  seq = seq;
  sent = sent;
}

module _ (publication : Publication) (says : Saying) where
  module _ (w : World) (h : History) (g : Ground publication w h) where
    named : (n : ℕ) (s : SubscriberTables) → at_number w.subscribers n ≡ Some s → n ≡ 0 → ⊥
    named n s at is = (let same = ap (λ (k : ℕ). at_number w.subscribers k) is in let none = g.none in grind (arith, same, at, none))

    -- the publisher goes on, and the history with changes of its own
    publisher-goes : (q : PublisherTables) (k : History) → ((n : ℕ) → (n ≡ 0 → ⊥) → made_at k n ≡ made_at h n)
        → ((n : ℕ) (s : SubscriberTables) → at_number w.subscribers n ≡ Some s → Keeps (site_view publication w.publisher (made_in h.made n) n) (site_view publication q (made_in h.made n) n) s s) → OfSites publication w h → OfSites publication (with_publisher q w) k
    publisher-goes q k same each i = publisher-on publication w.publisher q h.made k.made w.subscribers w.pool g.received.letters
        (λ n s at. subst (λ (made : List MadeChange). Keeps (site_view publication w.publisher (made_in h.made n) n) (site_view publication q made n) s s) (sym (same n (named n s at))) (each n s at)) i

    -- a subscriber goes on that makes no change
    goes : (s t : SubscriberTables) (k : History) → ((n : ℕ) → (n ≡ 0 → ⊥) → made_at k n ≡ made_at h n) → subscriber_at w s.site ≡ Some s → t.site.0 ≡ s.site.0
        → (let v = site_view publication w.publisher (made_in h.made s.site.0) s.site.0 in Keeps v v s t) → OfSites publication w h → OfSites publication (with_subscriber t w) k
    goes s t k same at site keeps i = subscriber-on publication w.publisher h.made k.made w.subscribers w.pool s t at g.none (λ n other differs. same n other) g.received.letters
        (subst (λ (made : List MadeChange). Keeps (site_view publication w.publisher (made_in h.made s.site.0) s.site.0) (site_view publication w.publisher made s.site.0) s t) (sym (same s.site.0 (named s.site.0 s at))) keeps) i site

    quietly : (s t : SubscriberTables) → subscriber_at w s.site ≡ Some s → t.site.0 ≡ s.site.0 → t.is_joined ≡ s.is_joined → t.rows ≡ s.rows → t.watermark ≡ s.watermark → t.seq ≡ s.seq → t.outstanding ≡ s.outstanding → OfSites publication w h → OfSites publication (with_subscriber t w) h
    quietly s t at site flag rows mark seq sent i = goes s t h (λ n other. refl) at site (quiet-keeps (site_view publication w.publisher (made_in h.made s.site.0) s.site.0) s t (same-quiet s t flag rows mark seq sent)) i

    -- what it did is none but a message
    posted : (p : PublisherTables) (made : List MadeChange) (subscribers : List (ℕ × SubscriberTables)) (site : SiteId) (message : Message) → ((s : SubscriberTables) → at_number subscribers site.0 ≡ Some s → MessageSettles (site_view publication p (made_in made site.0) site.0) s message)
        → SitesSettle publication p made subscribers w.pool → SitesSettle publication p made subscribers (w.pool ++ record { site = site; message = message } ∷ [])
    posted p made subscribers site message new i = posted-on publication p made subscribers w.pool (record { site = site; message = message })
        (if-any (λ s. MessageSettles (site_view publication p (made_in made site.0) site.0) s message) (at_number subscribers site.0) new) i

    -- A local change.
    change-settles : (s : SubscriberTables) (change : Change) (d : Value × List (ℕ × Holder)) → subscriber_at w s.site ≡ Some s → subscriber_local_refusal publication change s ≡ None → OfSites publication w h
        → OfSites publication (with_subscriber (subscriber_made_locally publication change d (subscriber_at_moment w.moment s)).0 w) (Noting.with_change publication (subscriber_next_dot s) (subscriber_last_closed s + 1) change d.0 h)
    change-settles s change d at fine i =
        let n : ℕ = s.site.0 in
        let key : Key = key_of (subscriber_next_dot s) change in
        let c : MadeChange = Noting.made_change publication (subscriber_next_dot s) (subscriber_last_closed s + 1) change d.0 key (past_after publication (subscriber_next_dot s) change (past_at h n key)) in
        let k : History = Noting.with_change publication (subscriber_next_dot s) (subscriber_last_closed s + 1) change d.0 h in
        let u : SubscriberTables = record (subscriber_at_moment w.moment s) { changes = s.changes + 1; held = d.1 } in
        let found : Option Version = version_after publication (subscriber_next_dot s) d.0 change (subscriber_version_at s key) in
        let t : SubscriberTables = with_version_if key found u in
        let f : Versioned key s t = versioned key found s u refl refl refl refl refl in
        let joined : s.is_joined ≡ true = joined-flag s (first-none (is_joining s) _ fine).0 in
        let taken = (g.received.subscribers n s at).taken in
        let keeps : Keeps (site_view publication w.publisher (made_in h.made n) n) (site_view publication w.publisher (c ∷ made_in h.made n) n) s t =
        change-keeps publication w.publisher (made_in h.made n) n c s t (omega (arith, taken)) (omega arith) joined f.held (f.flag ∙ joined) f.mark f.seq f.sent in
        subscriber-on publication w.publisher h.made k.made w.subscribers w.pool s t at g.none (λ m other differs. made-other h c m differs) g.received.letters
        (subst (λ (made : List MadeChange). Keeps (site_view publication w.publisher (made_in h.made n) n) (site_view publication w.publisher made n) s t) (sym (made-same h c)) keeps) i (version-site key found u)

    -- An upload is made.
    abbrev closed_subscriber : SubscriberTables → SubscriberTables
    closed_subscriber s = subscriber_closed (subscriber_at_moment w.moment s)

    upload-settles : (s : SubscriberTables) → subscriber_at w s.site ≡ Some s → OfSites publication w h
        → (let made : SubscriberTables × Upload = upload_sent (by_made h s.site) (closed_subscriber s) in
        SitesSettle publication w.publisher h.made (put_number w.subscribers s.site.0 made.0) (w.pool ++ record { site = s.site; message = Asks (request.Upload made.1) } ∷ []))
    upload-settles s at i =
        let judge : SubscriberJudge = by_made h s.site in
        let c : SubscriberTables = closed_subscriber s in
        let made : SubscriberTables × Upload = upload_sent judge c in
        let to : ℕ = upload_end judge c in
        let sends : SendsChanged (changed_of (made_at h s.site.0)) made.1 =
        upload-sends c judge (made_at h s.site.0) s.changes (subscriber_last_closed s + 1) to refl ((g.numbered.subscribers s.site.0 s at).order (named s.site.0 s at)) (g.unsent s.site.0 s (named s.site.0 s at) at) in
        posted w.publisher h.made (put_number w.subscribers s.site.0 made.0) s.site (Asks (request.Upload made.1)) (λ x there. sends)
        (goes s made.0 h (λ n other. refl) at refl (quiet-keeps (site_view publication w.publisher (made_in h.made s.site.0) s.site.0) s made.0 (message-quiets (ask.Upload c.received to) s c refl refl refl refl)) i)

    -- another message
    message-settles : (sent : Outstanding) (s : SubscriberTables) (message : Message) → subscriber_at w s.site ≡ Some s → ((x : SubscriberTables) → MessageSettles (site_view publication w.publisher (made_in h.made s.site.0) s.site.0) x message) → OfSites publication w h
        → SitesSettle publication w.publisher h.made (put_number w.subscribers s.site.0 (with_message sent s)) (w.pool ++ record { site = s.site; message = message } ∷ [])
    message-settles sent s message at new i = posted w.publisher h.made (put_number w.subscribers s.site.0 (with_message sent s)) s.site message (λ x there. new x)
        (goes s (with_message sent s) h (λ n other. refl) at refl (quiet-keeps (site_view publication w.publisher (made_in h.made s.site.0) s.site.0) s (with_message sent s) (message-quiets sent s s refl refl refl refl)) i)

    -- A join comes in: its site is joining.
    join-site : (m : Join) (found : Option SubscriberTables) (s : SubscriberTables) → found ≡ Some s → JoinFits (joined_at w.publisher m.site) m.site m found → joined_at w.publisher m.site < m.seq → s.is_joined ≡ false
    join-site m None s is fits later = absurd fits
    join-site m (Some x) s is fits later = (let same : x ≡ s = cc in subst (λ (y : SubscriberTables). y.is_joined ≡ false) same (fits.2 later).0)

    join-keeps : (m : Join) (n : ℕ) (s : SubscriberTables) (b : Bool) → same_number n m.site.0 b → at_number w.subscribers n ≡ Some s → JoinFits (joined_at w.publisher m.site) m.site m (at_number w.subscribers m.site.0) → joined_at w.publisher m.site < m.seq
        → Keeps (site_view publication w.publisher (made_in h.made n) n) (site_view publication (join_taken m (here w)) (made_in h.made n) n) s s
    join-keeps m n s true same at fits later =
        let there : at_number w.subscribers m.site.0 ≡ Some s = ap (λ (k : ℕ). at_number w.subscribers k) (sym same) ∙ at in
        joining-keeps (site_view publication w.publisher (made_in h.made n) n) (site_view publication (join_taken m (here w)) (made_in h.made n) n) s (join-site m (at_number w.subscribers m.site.0) s there fits later) (omega arith) (λ key. refl)
    join-keeps m n s false differs at fits later =
        onward-keeps (site_view publication w.publisher (made_in h.made n) n) (site_view publication (join_taken m (here w)) (made_in h.made n) n) (join-onward publication says w h g m (made_in h.made n) n differs) s

    join-settles : (number : ℕ) (m : Join) → comes w number m.site (Asks (request.Join m)) → join_acts m w.publisher ≡ true → OfSites publication w h → OfSites publication (with_publisher (join_taken m (here w)) w) (join_noted (by_past h (pasts_with h number)) m w.publisher h)
    join-settles number m came acts i =
        let judge : PublisherJudge = by_past h (pasts_with h number) in
        let fits = pool-at (LetterFits w.subscribers w.publisher) w number (record { site = m.site; message = Asks (request.Join m) }) came g.received.letters in
        let later : joined_at w.publisher m.site < m.seq = grind (arith, nat_tests, acts) in
        publisher-goes (join_taken m (here w)) (join_noted judge m w.publisher h) (joined-alike publication says h judge m w.publisher).made (λ n s at. join-keeps m n s (n == m.site.0) (number-decided n m.site.0) at fits later) i

    -- An upload comes in.
    upload-keeps : (number : ℕ) (m : Upload) (n : ℕ) (s : SubscriberTables) → comes w number m.site (Asks (request.Upload m)) → (let judge : PublisherJudge = by_past h (pasts_with h number) in upload_refusal publication judge w.moment m w.publisher ≡ None
        → at_number w.subscribers n ≡ Some s → OfSites publication w h
        → Keeps (site_view publication w.publisher (made_in h.made n) n) (site_view publication (taken_in publication judge m (acts_in publication says judge m w) (here w)) (made_in h.made n) n) s s)
    upload-keeps number m n s came fine at i =
        let judge : PublisherJudge = by_past h (pasts_with h number) in
        let decisions : List Decision = kept_decisions says w.tallies (upload_questions publication judge w.moment m w.publisher) in
        let letter : Letter = record { site = m.site; message = Asks (request.Upload m) } in
        let settles = pool-at (LetterSettles publication w.publisher h.made w.subscribers) w number letter came i.letters in
        onward-keeps (site_view publication w.publisher (made_in h.made n) n) (site_view publication (taken_in publication judge m (acts_in publication says judge m w) (here w)) (made_in h.made n) n)
        (upload-onward publication says w h g (pasts_with h number) m decisions fine (made_in h.made n) n (n == m.site.0) (number-decided n m.site.0)
        (λ same. subst (λ (k : ℕ). SendsChanged (changed_of (made_in h.made k)) m) (sym same)
        (if-found (λ x. MessageSettles (site_view publication w.publisher (made_in h.made m.site.0) m.site.0) x (Asks (request.Upload m))) (at_number w.subscribers m.site.0) s (ap (λ (k : ℕ). at_number w.subscribers k) (sym same) ∙ at) settles))) s

    -- Tables of the publisher that no site's generations act in.
    here-settles : OfSites publication w h → OfSites publication (with_publisher (here w) w) h
    here-settles i = publisher-goes (here w) h (λ n other. refl) (λ n s at. onward-keeps (site_view publication w.publisher (made_in h.made n) n) (site_view publication (here w) (made_in h.made n) n) (here-onward publication says w h g (made_in h.made n) n) s) i

    -- An ask comes in.
    ask-settles : (number : ℕ) (site : SiteId) (m : Download) → comes w number site (Asks (request.Download m)) → download_refusal publication w.moment m w.publisher ≡ None → OfSites publication w h
        → (let told = reply_to publication (by_past h (pasts_with h number)) m (tables_after_download m (here w)) in
        SitesSettle publication (tables_after_download m (here w)) h.made w.subscribers (w.pool ++ record { site = site; message = Replies (reply.Downloaded told) } ∷ []))
    ask-settles number site m came fine i =
        let q : PublisherTables = tables_after_download m (here w) in
        let holds = pool-at (LetterHolds w.subscribers w.publisher.sites) w number (record { site = site; message = Asks (request.Download m) }) came g.watermarks.letters in
        let same : m.site ≡ site = holds.0 in
        let from = ask-begins publication w.moment m w.publisher fine in
        let rises = closed_filling-rises w.publisher.gens.filling in
        let told = reply_to publication (by_past h (pasts_with h number)) m q in
        posted q h.made w.subscribers site (Replies (reply.Downloaded told))
        (λ s at. (
        let asks : AskHolds (state_in w.publisher.sites site.0).joined_at m s = if-found (AskHolds (state_in w.publisher.sites site.0).joined_at m) (at_number w.subscribers site.0) s at holds.1 in
        subst (λ (x : SiteId). MessageSettles (site_view publication q (made_in h.made x.0) x.0) s (Replies (reply.Downloaded told))) same
        (reply-holds publication w h g (pasts_with h number) m (made_in h.made m.site.0) s asks.made (omega (arith, from, rises)))))
        (publisher-goes q h (λ n other. refl) (λ n s at. onward-keeps (site_view publication w.publisher (made_in h.made n) n) (site_view publication q (made_in h.made n) n) (asked-onward publication says w h g m fine (made_in h.made n) n) s) i)

    module _ (o : OfPublisher publication w h) where
      -- what the publisher keeps for a site, by its number
      order-of : (n : ℕ) (s : SubscriberTables) → at_number w.subscribers n ≡ Some s → TouchedInOrder publication w.publisher (base_of h (record { 0 = n })) (record { 0 = n })
      order-of n s at =
          let keyed : s.site ≡ record { 0 = n } = ap (λ (k : ℕ). (let site : SiteId = record { 0 = k } in site)) (g.received.subscribers n s at).keyed in
          subst (λ (x : SiteId). TouchedInOrder publication w.publisher (base_of h x) x) keyed (if-found (λ x. TouchedInOrder publication w.publisher (base_of h x.site) x.site) (at_number w.subscribers n) s at (o n))

      holds-of : (n : ℕ) (s : SubscriberTables) → at_number w.subscribers n ≡ Some s → StateHolds (state_in w.publisher.sites n) s
      holds-of n s at = if-found (StateHolds (state_in w.publisher.sites n)) (at_number w.subscribers n) s at (g.watermarks.sites n)

      -- A purge.
      purge-settles : OfSites publication w h → OfSites publication (with_publisher (purge publication w.moment w.publisher).0 w) (Noting.noted_purge publication (by_past h (pasts_with h 0)) (here w) h)
      purge-settles i =
          let judge : PublisherJudge = by_past h (pasts_with h 0) in
          publisher-goes (purge publication w.moment w.publisher).0 (Noting.noted_purge publication judge (here w) h) (purge-keep (λ (x : History). Alike h x) (alike-notes h) publication judge (here w) h (alike-itself h)).made
          (λ n s at. forgets-keeps (site_view publication w.publisher (made_in h.made n) n) (site_view publication (purge publication w.moment w.publisher).0 (made_in h.made n) n) s
          (λ joins. purge-forgets publication says w h g (made_in h.made n) n s (order-of n s at) ((holds-of n s at).behind joins)) (omega arith) (λ key. refl) (holds-of n s at).asked) i

      -- A reply is taken.
      reply-settles : (s : SubscriberTables) (number : ℕ) (m : Reply) (sent : Outstanding) → subscriber_at w s.site ≡ Some s → comes w number s.site (Replies m) → s.outstanding ≡ Some (seq_of m, sent) → reply_fault publication sent m s ≡ None → OfSites publication w h
          → (let judge : SubscriberJudge = by_made h s.site in OfSites publication (with_subscriber (tables_after_reply judge w.moment m s) w) (Noting.noted_reply judge s.site (pasts_with h number) m h))
      reply-settles s number m sent at came out fits i =
          let n : ℕ = s.site.0 in
          let judge : SubscriberJudge = by_made h s.site in
          let v = site_view publication w.publisher (made_in h.made n) n in
          let settles = pool-at (LetterSettles publication w.publisher h.made w.subscribers) w number (record { site = s.site; message = Replies m }) came i.letters in
          let order = order-of n s at in
          let sorted : SubscriberIsSorted s = all-found SubscriberIsSorted w.subscribers n s g.rows at in
          goes s (tables_after_reply judge w.moment m s) (Noting.noted_reply judge s.site (pasts_with h number) m h) (reply-keep (λ (x : History). Alike h x) (alike-notes h) judge s.site (pasts_with h number) m h (alike-itself h)).made at (reply-site judge w.moment m s)
          (reply-keeps publication v judge w.moment (made_in h.made n) (received_by_number w.publisher n) (joined_at w.publisher (record { 0 = n })) sent m s (record {
            unseen = λ key low. if-none (has_key (inside_keys publication (record { 0 = n }) w.publisher) key) (touched_at publication w.publisher (record { 0 = n }) key) (version_at w.publisher key) (order.live key) low;
            changes = λ key. refl;
            judges = λ key up. refl;
            sorted = sorted.rows_ascend;
            behind = g.behind.subscribers n s at;
            asked = (holds-of n s at).asked;
            out = out;
            fits = fits;
            settles = if-found (λ x. MessageSettles v x (Replies m)) (at_number w.subscribers n) s at settles;
          })) i

  pub sites-keep : StepsKeep publication says (Known publication) (OfSites publication)
  sites-keep = record {
    moment = λ w h now b i. i;
    own_change = λ w h change d b i fine is. (let judge : PublisherJudge = by_past h (pasts_with h 0) in let q : PublisherTables = (made_locally publication judge change d (here w)).0 in
        publisher-goes w h b.0 q (own_noted publication judge change d (here w) h) (own-keep (λ (x : History). Alike h x) (alike-notes h) publication judge change d (here w) h (alike-itself h)).made
        (λ n s at. onward-keeps (site_view publication w.publisher (made_in h.made n) n) (site_view publication q (made_in h.made n) n) (own-onward publication says w h b.0 judge change d (made_in h.made n) n) s) i);
    own_closing = λ w h b i. publisher-goes w h b.0 (tables_after_close (here w)) h (λ n other. refl)
        (λ n s at. onward-keeps (site_view publication w.publisher (made_in h.made n) n) (site_view publication (tables_after_close (here w)) (made_in h.made n) n) (closing-onward publication says w h b.0 (made_in h.made n) n) s) i;
    forgetting = λ w h b i. purge-settles w h b.0 b.1 i;
    same = λ w h s b i at. quietly w h b.0 s s at refl refl refl refl refl refl i;
    subscriber_change = λ w h s change d b i at other fine is. change-settles w h b.0 s change d at fine i;
    subscriber_closing = λ w h s b i at. quietly w h b.0 s (subscriber_closed (subscriber_at_moment w.moment s)) at refl refl refl refl refl refl i;
    anew = λ w h s b i at. (let judge : SubscriberJudge = by_made h s.site in
        goes w h b.0 s (result_of_reinit judge (subscriber_at_moment w.moment s)).0 (Noting.noted_anew judge s h) (anew-keep (λ (x : History). Alike h x) (alike-notes h) judge s h (alike-itself h)).made at refl
        (anew-keeps (site_view publication w.publisher (made_in h.made s.site.0) s.site.0) judge w.moment s) i);
    sends_join = λ w h s b i at joining. message-settles w h b.0 ask.Join s (Asks (request.Join (join_of s))) at (λ x. tt) i;
    sends_upload = λ w h s b i at fine. upload-settles w h b.0 s at i;
    sends_ranges = λ w h s b i at fine. message-settles w h b.0 ask.Ranges s (Asks (request.Ranges (record { site = s.site; seq = s.seq + 1; wants = map want_of s.held }))) at (λ x. tt) i;
    sends_ask = λ w h s b i at fine. message-settles w h b.0 (ask.Download s.watermark) s (Asks (request.Download (record { site = s.site; seq = s.seq + 1; from = s.watermark }))) at (λ x. tt) i;
    joins = λ w h number m b i came fine acts. posted w h b.0 (join_taken m (here w)) (join_noted (by_past h (pasts_with h number)) m w.publisher h).made w.subscribers m.site (Replies (reply.Joined (record { seq = m.seq }))) (λ s at. tt) (join-settles w h b.0 number m came acts i);
    joins_again = λ w h number m b i came acts. posted w h b.0 (here w) h.made w.subscribers m.site (Replies (reply.Joined (record { seq = m.seq }))) (λ s at. tt) (here-settles w h b.0 i);
    uploads = λ w h number m b i came fine news. (let judge : PublisherJudge = by_past h (pasts_with h number) in let q : PublisherTables = taken_in publication judge m (acts_in publication says judge m w) (here w) in
        let k : History = Noting.with_acts_noted publication judge m (acts_in publication says judge m w) (pasts_with h number) (here w) h in
        posted w h b.0 q k.made w.subscribers m.site (Replies (reply.Uploaded (told_by judge m))) (λ s at. tt)
        (publisher-goes w h b.0 q k (uploaded-alike publication says judge m (pasts_with h number) w h).made (λ n s at. upload-keeps w h b.0 number m n s came fine at i) i));
    uploads_again = λ w h number m b i came none. posted w h b.0 (here w) h.made w.subscribers m.site (Replies (reply.Uploaded (told_by (by_past h (pasts_with h number)) m))) (λ s at. tt) (here-settles w h b.0 i);
    answers_ranges = λ w h site m b i. (let q : PublisherTables = with_grants (plans publication m w.publisher) (here w) in
        posted w h b.0 q h.made w.subscribers site (Replies (reply.Ranged (reply_to_ranges m (plans publication m w.publisher)))) (λ s at. tt)
        (publisher-goes w h b.0 q h (λ n other. refl) (λ n s at. onward-keeps (site_view publication w.publisher (made_in h.made n) n) (site_view publication q (made_in h.made n) n) (granted-onward publication says w h b.0 (plans publication m w.publisher) (made_in h.made n) n) s) i));
    answers_ask = λ w h number site m b i came fine. ask-settles w h b.0 number site m came fine i;
    replies = λ w h s number m sent b i at came out none. reply-settles w h b.0 b.1 s number m sent at came out none i;
  }

-- How it begins: nobody has joined, and there is no message.
pub sites-begin : (publication : Publication) (tallies : List ℕ) → OfSites publication (empty_world publication tallies) no_history
sites-begin publication tallies = record {
  sites = λ n. if-any (SiteHolds (site_view publication (empty_world publication tallies).publisher [] n)) (at_number (empty_subscribers publication) n) (λ s at.
      begins-with publication (λ (k : ℕ) (t : SubscriberTables). SiteHolds (site_view publication (empty_world publication tallies).publisher [] k) t) (λ k site keyed. record {
        equal = λ live joins. absurd (grind (arith, joins));
        empty = λ none. refl;
        unmarked = λ none. refl;
        marks = omega arith;
      }) n s at);
  letters = tt;
}
