-- Two rounds of sessions settle every site. Behind the first nobody has anything to send, and then each session settles its site and
-- leaves those settled that were.
use Rattle.std.specs.Prelude.{Bool, List, None, Option, Some, [], false, filter, option_map, refl, suc, true, unwrap_or, zero, ℕ, ◌+◌, ◌==◌, ◌∷◌, ◌≡◌, ◌⊎◌}
use Rattle.std.specs.List.{fold}
use Rattle.std.proofs.Common.{ap, arith, inl, inr, subst, sym, ◌∙◌}
use Rattle.merge_types.specs.declared.identifiers.Moment.{Moment}
use Rattle.merge_types.specs.declared.identifiers.SiteId.{SiteId}
use Rattle.merge_types.specs.declared.row_key.RowKey.{RowKey as Key}
use Rattle.merge_gens.specs.declared.sites.SiteState.{SiteState}
use Rattle.merge_schema.specs.declared.publication.Publication.{Publication}
use Rattle.merge_model.specs.Failing.Runs.{model_behind}
use Rattle.merge_model.specs.History.{MadeChange}
use Rattle.merge_model.specs.History.Model.{Model, model}
use Rattle.merge_model.specs.Judge.ByHistory.{by_made, is_between_made, with_change_of}
use Rattle.merge_model.specs.Laws.Promises.{IsSettled}
use Rattle.merge_model.specs.Subscriber.Sending.{unsent_rows}
use Rattle.merge_model.specs.Subscriber.{subscriber_last_closed}
use Rattle.merge_model.specs.Tables.Keys.{at_number}
use Rattle.merge_model.specs.Tables.{SubscriberTables}
use Rattle.merge_model.specs.World.Session.{Session, all_uploads, as_it_is, exchange, is_joined_in, join_if_due, unless_stopped, unsent_generations, uploads_up_to, with_upload}
use Rattle.merge_model.specs.World.Session.{ask as asking}
use Rattle.merge_model.specs.World.Steps.{SendDownload, SendJoin, SendRanges, SendUpload}
use Rattle.merge_model.specs.World.{Saying, subscriber_at}
use Rattle.merge_model.proofs.Lists.Finding.{found-named}
use Rattle.merge_laws.specs.Laws.{OfEveryValidRun}
use Rattle.merge_laws.specs.Laws.Rounds.{is_among, new_session}
use Rattle.merge_laws.proofs.Lineages.LineagesAlways.{ground, kept-always}
use Rattle.merge_laws.proofs.Received.Subscribing.{number-decided, same_number}
use Rattle.merge_laws.proofs.Sessions.RoundStays.{Stays, Unmoved, stays-itself, stays-then}
use Rattle.merge_laws.proofs.Sessions.SessionLaw.{At, Known, Settles, exchange-settles, if-settles, own, same-site, session-leaves-settled}
use Rattle.merge_laws.proofs.Sessions.SessionSteps.{Answered}
use Rattle.merge_laws.proofs.Settled.SettledExpired.{expired_in}
use Rattle.merge_laws.proofs.Walking.{same-sites}
use Rattle.merge_promises.specs.Syncs.{AllSync, Syncs, TwoRoundsSettle, session_of}
use Rattle.merge_promises.proofs.SyncStays.{Calm, calm-itself, calm-then, calm-unmoved, download-calm, goes, leaves-others, nothing-sent, ranges-calm}
use Rattle.merge_promises.proofs.SyncWalk.{Gone, rest-goes, session-goes, stopped-goes}

-- the site has joined, and has nothing to send
pub record IsQuiet (k : Model) (s : SubscriberTables) : Type 0 where
  pub joined : s.is_joined ≡ true
  pub nothing : unsent_rows (by_made k.history s.site) s ≡ []

module _ (publication : Publication) (says : Saying) where
  -- One session.
  module _ (site : SiteId) (m : Model) (a : At publication says site m) where
    -- it settles its site
    settles : (session_of publication says site m).stop ≡ None → (s : SubscriberTables) → subscriber_at (session_of publication says site m).world.world site ≡ Some s → IsSettled publication (session_of publication says site m).world s
    settles ended s there = subst (λ (x : SiteId). (session_of publication says x m).stop ≡ None → subscriber_at (session_of publication says x m).world.world x ≡ Some s → IsSettled publication (session_of publication says x m).world s) (same-site publication says site m a)
        (λ stop here. session-leaves-settled publication says m a.known.0 a.known.1 a.tables s (own publication says site m a) stop here) ended there

    -- and leaves the tables of the others, and what they made
    others-stay : (session_of publication says site m).stop ≡ None → Gone publication says site (Stays site) (stays-then site) m (session_of publication says site m).world
    others-stay = session-goes publication says site (Stays site) (stays-then site) (λ sending k known. goes publication says Stays sending (λ n s at. leaves-others publication says n s at sending) site k known) m (a.known, stays-itself site m)

    -- Where it has nothing to send, it makes no upload.
    module _ (quiet : IsQuiet m a.tables) where
      none-sent : Answered publication says (λ k. ⊥) (Unmoved m) site (asking (model publication says) site SendUpload m)
      none-sent = subst (λ (x : SiteId). Answered publication says (λ k. ⊥) (Unmoved m) x (asking (model publication says) x SendUpload m)) (same-site publication says site m a) (nothing-sent publication says m a.tables (own publication says site m a) quiet.nothing)

      uploads-calm : (count : ℕ) (v : Session Model) → v.world ≡ m → Settles publication says site (Gone publication says site (Calm site) (calm-then site) m) (uploads_up_to (model publication says) site count v)
      uploads-calm zero v same = λ none. subst (Gone publication says site (Calm site) (calm-then site) m) (sym same) (a.known, calm-itself site m)
      uploads-calm (suc count) v same = exchange-settles publication says site (λ k. ⊥) (Unmoved m) (Gone publication says site (Calm site) (calm-then site) m) SendUpload v (with_upload (model publication says) site) (uploads_up_to (model publication says) site count)
          (subst (λ (k : Model). Answered publication says (λ n. ⊥) (Unmoved m) site (asking (model publication says) site SendUpload k)) (sym same) none-sent)
          (subst (Known publication says site) (sym same) a.known) (λ x known never. absurd never) (λ k known unmoved. (known, calm-unmoved site m k unmoved))

      is-joined : is_joined_in (model publication says) site m ≡ true
      is-joined = ap (λ (found : Option SubscriberTables). unwrap_or (option_map (λ (s : SubscriberTables). s.is_joined) found) true) a.here ∙ quiet.joined

      -- so the session is calm
      session-calm : (session_of publication says site m).stop ≡ None → Gone publication says site (Calm site) (calm-then site) m (session_of publication says site m).world
      session-calm =
          let begun : Session Model = new_session m in
          let as_is : Session Model → Session Model = as_it_is (model publication says) site in
          let joined : Session Model = join_if_due (model publication says) site begun in
          rest-goes publication says site (Calm site) (calm-then site)
          (λ k known. goes publication says Calm SendRanges (λ n s at. ranges-calm publication says n s at) site k known) (λ k known. goes publication says Calm SendDownload (λ n s at. download-calm publication says n s at) site k known)
          m (unless_stopped (model publication says) site (all_uploads (model publication says) site) joined)
          (stopped-goes publication says site (λ (k : Model). k ≡ m) (Gone publication says site (Calm site) (calm-then site) m) (all_uploads (model publication says) site) joined joined.stop refl
          (if-settles publication says site (λ (k : Model). k ≡ m) (is_joined_in (model publication says) site m) begun (exchange (model publication says) site SendJoin as_is as_is begun) (λ is none. refl) (λ is. absurd (cc (is, is-joined))))
          (λ v same. uploads-calm (unsent_generations (model publication says) site v.world) v same))

  -- What is said of another site stays.

  abbrev NoZero : Model → Type 0
  NoZero m = at_number m.world.subscribers 0 ≡ None

  found-back : (b : SiteId) (k n : Model) (s : SubscriberTables) → (s.site.0 ≡ b.0 → ⊥) → Stays b k n → subscriber_at n.world s.site ≡ Some s → subscriber_at k.world s.site ≡ Some s
  found-back b k n s differs stays at = sym (stays.others s.site.0 differs) ∙ at

  still-nothing : (b : SiteId) (k n : Model) (s : SubscriberTables) → (s.site.0 ≡ 0 → ⊥) → Stays b k n → unsent_rows (by_made k.history s.site) s ≡ [] → unsent_rows (by_made n.history s.site) s ≡ []
  still-nothing b k n s named stays nothing =
      ap (λ (made : List MadeChange). (let changed : List (Key × ℕ) = fold with_change_of [] (filter (is_between_made s.received (subscriber_last_closed s + 1)) made) in changed)) (stays.made s.site.0 named) ∙ nothing

  still-quiet : (b : SiteId) (k n : Model) (s : SubscriberTables) → (s.site.0 ≡ 0 → ⊥) → Stays b k n → IsQuiet k s → IsQuiet n s
  still-quiet b k n s named stays quiet = record { joined = quiet.joined; nothing = still-nothing b k n s named stays quiet.nothing }

  still-settled : (b : SiteId) (k n : Model) (s : SubscriberTables) → (s.site.0 ≡ b.0 → ⊥) → (s.site.0 ≡ 0 → ⊥) → Calm b k n → subscriber_at n.world s.site ≡ Some s → IsSettled publication k s → IsSettled publication n s
  still-settled b k n s differs named calm at is =
      let opened = calm.open_stays is.none_open in
      record {
        is_here = at;
        joined = is.joined;
        in_time = ap (λ (now : Moment). expired_in publication now (at_number n.world.publisher.sites s.site.0)) calm.moment ∙ ap (λ (found : Option SiteState). expired_in publication k.world.moment found) (calm.states s.site.0 differs) ∙ is.in_time;
        nothing_unsent = still-nothing b k n s named calm.stays is.nothing_unsent;
        all_held = is.all_held ∙ sym opened.1;
        none_open = opened.0;
      }

  among-rest : (a b : SiteId) (sites : List SiteId) → (b.0 == a.0) ≡ false → is_among a (b ∷ sites) ≡ true → is_among a sites ≡ true
  among-rest a b sites other is = grind (arith, other, is)

  -- Of each subscriber that is not among the sites that are to come.
  abbrev Each : (Model → SubscriberTables → Type 0) → List SiteId → Model → Type 0
  Each Holds sites m = (s : SubscriberTables) → subscriber_at m.world s.site ≡ Some s → Holds m s ⊎ (is_among s.site sites ≡ true)

  pub record Stand (m : Model) : Type 0 where
    pub none : NoZero m
    pub known : (site : SiteId) → Known publication says site m

  -- one session more
  module _ (Holds : Model → SubscriberTables → Type 0) (b : SiteId) (m : Model) (stand : Stand m) (y : Syncs publication says b m) where
    abbrev n : Model
    n = (session_of publication says b m).world

    at : At publication says b m
    at = record { tables = y.tables; known = stand.known b; here = y.here }

    gone : Gone publication says b (Stays b) (stays-then b) m n
    gone = others-stay b m at y.ended

    stands-then : Stand n
    stands-then = record {
      none = gone.1.others 0 (λ is. found-named m.world.subscribers b.0 y.tables stand.none y.here (sym is)) ∙ stand.none;
      known = λ site. gone.0;
    }

    module _ (of_settled : (s : SubscriberTables) → IsSettled publication n s → Holds n s) (of_other : (s : SubscriberTables) → (s.site.0 ≡ b.0 → ⊥) → (s.site.0 ≡ 0 → ⊥) → subscriber_at n.world s.site ≡ Some s → Holds m s → Holds n s) where
      each-by : (sites : List SiteId) → Each Holds (b ∷ sites) m → (s : SubscriberTables) (c : Bool) → (b.0 == s.site.0) ≡ c → same_number b.0 s.site.0 c → subscriber_at n.world s.site ≡ Some s → Holds n s ⊎ (is_among s.site sites ≡ true)
      each-by sites each s true is same found = inl (of_settled s (settles b m at y.ended s (subst (λ (x : SiteId). subscriber_at n.world x ≡ Some s) (sym (same-sites b s.site same)) found)))
      each-by sites each s false is differs found =
          let before : subscriber_at m.world s.site ≡ Some s = found-back b m n s (λ e. differs (sym e)) gone.1 found in
          elim (each s before) [
            | inl was ↦ inl (of_other s (λ e. differs (sym e)) (found-named m.world.subscribers s.site.0 s stand.none before) found was)
            | inr among ↦ inr (among-rest s.site b sites is among)
          ]

      each-then : (sites : List SiteId) → Each Holds (b ∷ sites) m → Each Holds sites n
      each-then sites each s found = each-by sites each s (b.0 == s.site.0) refl (number-decided b.0 s.site.0) found

  -- The first round.
  first-round : (sites : List SiteId) (m k : Model) → Stand m → Each IsQuiet sites m → AllSync publication says sites m k → Stand k × Each IsQuiet [] k
  first-round [] m k stand each same = subst (λ (x : Model). Stand x × Each IsQuiet [] x) same (stand, each)
  first-round (b ∷ sites) m k stand each all =
      first-round sites (n IsQuiet b m stand all.0) k (stands-then IsQuiet b m stand all.0)
      (each-then IsQuiet b m stand all.0 (λ s is. record { joined = is.joined; nothing = is.nothing_unsent })
      (λ s differs named found was. still-quiet b m (n IsQuiet b m stand all.0) s named (gone IsQuiet b m stand all.0).1 was) sites each) all.1

  -- The second.
  abbrev Quiets : Model → Type 0
  Quiets m = (s : SubscriberTables) → subscriber_at m.world s.site ≡ Some s → IsQuiet m s

  abbrev Settled : Model → SubscriberTables → Type 0
  Settled m s = IsSettled publication m s

  quiet-all : (m : Model) → Each IsQuiet [] m → Quiets m
  quiet-all m each s found = elim (each s found) [
    | inl quiet ↦ quiet
    | inr among ↦ absurd (cc among)
  ]

  module _ (b : SiteId) (m : Model) (stand : Stand m) (quiets : Quiets m) (y : Syncs publication says b m) where
    abbrev later : Model
    later = (session_of publication says b m).world

    abbrev here : At publication says b m
    here = record { tables = y.tables; known = stand.known b; here = y.here }

    calm : Calm b m later
    calm = (session-calm b m here (quiets y.tables (own publication says b m here)) y.ended).1

    quiets-then : Quiets later
    quiets-then = quiet-all later (each-then IsQuiet b m stand y (λ s is. record { joined = is.joined; nothing = is.nothing_unsent }) (λ s differs named found was. still-quiet b m later s named calm.stays was) [] (λ s found. inl (quiets s found)))

  second-round : (sites : List SiteId) (m k : Model) → Stand m → Quiets m → Each Settled sites m → AllSync publication says sites m k → Each Settled [] k
  second-round [] m k stand quiets each same = subst (λ (x : Model). Each Settled [] x) same each
  second-round (b ∷ sites) m k stand quiets each all =
      let c : Calm b m (session_of publication says b m).world = calm b m stand quiets all.0 in
      second-round sites (session_of publication says b m).world k (stands-then Settled b m stand all.0) (quiets-then b m stand quiets all.0)
      (each-then Settled b m stand all.0 (λ s is. is) (λ s differs named found was. still-settled b m (session_of publication says b m).world s differs named c found was) sites each) all.1

  rounds-settle : (m : Model) → Stand m → TwoRoundsSettle publication says m
  rounds-settle m stand first second between end firsts seconds one other s found =
      let sent = first-round first m between stand (λ t at. inr (firsts t at)) one in
      elim (second-round second between end sent.0 (quiet-all between sent.1) (λ t at. inr (seconds t at)) other s found) [
        | inl is ↦ is
        | inr among ↦ absurd (cc among)
      ]

pub two-rounds : OfEveryValidRun TwoRoundsSettle
two-rounds resolvers publication valid says tallies slips events =
    let m : Model = model_behind publication says tallies slips events in
    let g = ground publication m (kept-always publication (resolvers, valid) says tallies slips events) in
    rounds-settle publication says m (record { none = g.none; known = λ site. (g.received, g.numbered) })
