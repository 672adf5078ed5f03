-- A round of uploads and downloads settles every site, also where steps may fail: a part of a session that nothing refused is the plain one.
use Rattle.std.specs.Prelude.{Bool, List, None, Option, Some, [], false, if◌then◌else◌, nat_le, refl, suc, true, zero, ℕ, ◌+◌, ◌-◌, ◌∷◌, ◌≡◌}
use Rattle.std.proofs.Common.{ap, inl, inr, subst, sym, ◌∙◌}
use Rattle.merge_types.specs.declared.identifiers.SiteId.{SiteId}
use Rattle.merge_schema.specs.declared.publication.Publication.{Publication}
use Rattle.merge_batch.specs.declared.reply.Downloaded.{Downloaded}
use Rattle.merge_model.specs.Failing.{Faulty, faulty, faulty_stepping}
use Rattle.merge_model.specs.Failing.Runs.{model_behind_actions}
use Rattle.merge_model.specs.History.Model.{Model, model}
use Rattle.merge_model.specs.Laws.SlipLaws.{is_slip, refused_for}
use Rattle.merge_model.specs.World.Session.{Session, Stepping, after_download, all_downloads, all_uploads, answered_as, ask, downloaded_in, downloads_up_to, exchange, last_message, session_after_reply, then_deliver, unsent_generations, uploads_up_to, with_answer, with_download, with_upload}
use Rattle.merge_model.specs.World.Steps.{Deliver, Send, SendDownload, SendUpload, Sending}
use Rattle.merge_model.specs.World.{Saying}
use Rattle.merge_model.specs.declared.outcome.Outcome.{Outcome}
use Rattle.merge_model.specs.declared.outcome.Outcome.TheVariants.{Posted, Refuses, Took}
use Rattle.merge_model.proofs.Failing.NoSlips.{Same, acts-or}
use Rattle.merge_model.proofs.Runs.Alike.{BothOr}
use Rattle.merge_laws.specs.Laws.{OfEveryValidActions}
use Rattle.merge_laws.specs.Laws.Rounds.{AllComplete, Completes, downloaded_by, uploaded_by}
use Rattle.merge_laws.proofs.Sessions.RoundLaw.{round-settles}
use Rattle.merge_promises.specs.Syncs.{AllCompleteFailing, FailingRoundSettles, downloaded_failing, new_failing_session, uploaded_failing}

-- the session of the plain model
abbrev forgets : Session (Faulty Model) → Session Model
forgets s = record { world = s.world.world; uploads = s.uploads; downloads = s.downloads; stop = s.stop }

module _ (publication : Publication) (says : Saying) (site : SiteId) where
  abbrev plain : Stepping Model
  plain = model publication says

  abbrev fails : Stepping (Faulty Model)
  fails = faulty_stepping publication (model publication says)

  -- Of a step comes what comes of the plain one, or it fails.
  abbrev Agrees : Faulty Model × Outcome → Model × Outcome → Type 0
  Agrees x y = BothOr (Same publication (model publication says)) (refused_for is_slip) x y

  posted : (f : Faulty Model) (m : Model) (outcome : Outcome) → Same publication (model publication says) f m → Agrees (then_deliver fails site (f, outcome)) (then_deliver plain site (m, outcome))
  posted f m (Posted number) same = acts-or publication plain f m (Deliver number) same
  posted f m outcome same = inl (refl, same)

  posted-off : (x : Faulty Model × Outcome) → refused_for is_slip x.1 ≡ true → refused_for is_slip (then_deliver fails site x).1 ≡ true
  posted-off (f, Refuses refusal) is = is
  posted-off (f, outcome) is = absurd (cc is)

  delivers : (x : Faulty Model × Outcome) (y : Model × Outcome) → Agrees x y → Agrees (then_deliver fails site x) (then_deliver plain site y)
  delivers x y (inl b) = subst (λ (o : Outcome). Agrees (then_deliver fails site x) (then_deliver plain site (y.0, o))) b.0 (posted x.0 y.0 x.1 b.1)
  delivers x y (inr is) = inr (posted-off x is)

  asks : (sending : Sending) (f : Faulty Model) → Agrees (ask fails site sending f) (ask plain site sending f.world)
  asks sending f = delivers (fails.act f (Send site sending)) (plain.act f.world (Send site sending)) (acts-or publication plain f f.world (Send site sending) refl)

  -- A part of a session behind which nothing was refused is the plain one.
  abbrev Plainly : (Session (Faulty Model) → Session (Faulty Model)) → (Session Model → Session Model) → Type 0
  Plainly part other = (s : Session (Faulty Model)) → (part s).stop ≡ None → forgets (part s) ≡ other (forgets s)

  arrives-by : (next : Session (Faulty Model) → Session (Faulty Model)) (onward : Session Model → Session Model) → Plainly next onward → (s : Session (Faulty Model)) (f : Faulty Model) (outcome : Outcome) → (session_after_reply fails site next s (f, outcome)).stop ≡ None
      → forgets (session_after_reply fails site next s (f, outcome)) ≡ session_after_reply plain site onward (forgets s) (f.world, outcome)
  arrives-by next onward each s f (Took taken) ended = each (record s { world = f }) ended
  arrives-by next onward each s f (Refuses refusal) ended = refl
  arrives-by next onward each s f outcome ended = refl

  arrived-off : (next : Session (Faulty Model) → Session (Faulty Model)) (s : Session (Faulty Model)) (x : Faulty Model × Outcome) → refused_for is_slip x.1 ≡ true → (session_after_reply fails site next s x).stop ≡ None → ⊥
  arrived-off next s (f, Refuses refusal) is ended = absurd (cc ended)
  arrived-off next s (f, outcome) is ended = absurd (cc is)

  arrives : (next : Session (Faulty Model) → Session (Faulty Model)) (onward : Session Model → Session Model) → Plainly next onward → (s : Session (Faulty Model)) (x : Faulty Model × Outcome) (y : Model × Outcome) → Agrees x y
      → (session_after_reply fails site next s x).stop ≡ None → forgets (session_after_reply fails site next s x) ≡ session_after_reply plain site onward (forgets s) y
  arrives next onward each s (f, outcome) (m, other) (inl b) ended = subst (λ (k : Model). forgets (session_after_reply fails site next s (f, outcome)) ≡ session_after_reply plain site onward (forgets s) (k, other)) b.1
      (subst (λ (o : Outcome). forgets (session_after_reply fails site next s (f, outcome)) ≡ session_after_reply plain site onward (forgets s) (f.world, o)) b.0 (arrives-by next onward each s f outcome ended))
  arrives next onward each s x y (inr is) ended = absurd (arrived-off next s x is ended)

  -- an exchange, whose answer is counted
  module _ (counted next : Session (Faulty Model) → Session (Faulty Model)) (counts onward : Session Model → Session Model) (counting : (s : Session (Faulty Model)) → forgets (counted s) ≡ counts (forgets s)) (each : Plainly next onward) where
    answers-by : (s : Session (Faulty Model)) (f : Faulty Model) (outcome : Outcome) → (answered_as fails site counted next s (f, outcome)).stop ≡ None
        → forgets (answered_as fails site counted next s (f, outcome)) ≡ answered_as plain site counts onward (forgets s) (f.world, outcome)
    answers-by s f (Posted number) ended =
        arrives next onward each (counted (record s { world = f })) (fails.act f (Deliver number)) (plain.act f.world (Deliver number)) (acts-or publication plain f f.world (Deliver number) refl) ended
        ∙ ap (λ (t : Session Model). session_after_reply plain site onward t (plain.act f.world (Deliver number))) (counting (record s { world = f }))
    answers-by s f (Refuses refusal) ended = refl
    answers-by s f outcome ended = refl

    answered-off : (s : Session (Faulty Model)) (x : Faulty Model × Outcome) → refused_for is_slip x.1 ≡ true → (answered_as fails site counted next s x).stop ≡ None → ⊥
    answered-off s (f, Refuses refusal) is ended = absurd (cc ended)
    answered-off s (f, outcome) is ended = absurd (cc is)

    answers : (s : Session (Faulty Model)) (x : Faulty Model × Outcome) (y : Model × Outcome) → Agrees x y → (answered_as fails site counted next s x).stop ≡ None → forgets (answered_as fails site counted next s x) ≡ answered_as plain site counts onward (forgets s) y
    answers s (f, outcome) (m, other) (inl b) ended = subst (λ (k : Model). forgets (answered_as fails site counted next s (f, outcome)) ≡ answered_as plain site counts onward (forgets s) (k, other)) b.1
        (subst (λ (o : Outcome). forgets (answered_as fails site counted next s (f, outcome)) ≡ answered_as plain site counts onward (forgets s) (f.world, o)) b.0 (answers-by s f outcome ended))
    answers s x y (inr is) ended = absurd (answered-off s x is ended)

    exchanges : (sending : Sending) → Plainly (exchange fails site sending counted next) (exchange plain site sending counts onward)
    exchanges sending s ended = answers s (ask fails site sending s.world) (ask plain site sending s.world.world) (asks sending s.world) ended

  -- Uploads.

  uploading-plain : (count : ℕ) → Plainly (uploads_up_to fails site count) (uploads_up_to plain site count)
  uploading-plain zero s ended = refl
  uploading-plain (suc count) s ended = exchanges (with_upload fails site) (uploads_up_to fails site count) (with_upload plain site) (uploads_up_to plain site count) (λ t. refl) (uploading-plain count) SendUpload s ended

  uploads-all : Plainly (all_uploads fails site) (all_uploads plain site)
  uploads-all s ended = uploading-plain (unsent_generations plain site s.world.world) s ended

  -- Downloads.

  answer-counts : (s : Session (Faulty Model)) → forgets (with_answer fails site s) ≡ with_answer plain site (forgets s)
  answer-counts s = by (downloaded_in plain site (last_message plain site s.world.world))
    where
      by : (found : Option Downloaded) → (let u : Session (Faulty Model) = elim found [ None ↦ s | Some m ↦ with_download fails site m s ] in let v : Session Model = elim found [ None ↦ forgets s | Some m ↦ with_download plain site m (forgets s) ] in forgets u ≡ v)
      by None = refl
      by (Some m) = refl

  goes-on : (one : Downloaded → Session (Faulty Model) → Session (Faulty Model)) (other : Downloaded → Session Model → Session Model) → ((m : Downloaded) → Plainly (one m) (other m)) → Plainly (after_download fails site one) (after_download plain site other)
  goes-on one other each s = by (downloaded_in plain site (last_message plain site s.world.world))
    where
      by : (found : Option Downloaded) → (let u : Session (Faulty Model) = elim found [ None ↦ s | Some m ↦ one m s ] in let v : Session Model = elim found [ None ↦ forgets s | Some m ↦ other m (forgets s) ] in u.stop ≡ None → forgets u ≡ v)
      by None = λ ended. refl
      by (Some m) = each m s

  chosen : (b : Bool) (s x : Session (Faulty Model)) (y : Session Model) → (x.stop ≡ None → forgets x ≡ y)
      → (let u : Session (Faulty Model) = if b then s else x in let v : Session Model = if b then forgets s else y in u.stop ≡ None → forgets u ≡ v)
  chosen true s x y each = λ ended. refl
  chosen false s x y each = each

  downloading-plain : (count target : ℕ) → Plainly (downloads_up_to fails site count target) (downloads_up_to plain site count target)
  downloading-plain zero target s ended = refl
  downloading-plain (suc count) target s ended =
      let one : Downloaded → Session (Faulty Model) → Session (Faulty Model) = λ (m : Downloaded) (t : Session (Faulty Model)). if nat_le target m.from then t else downloads_up_to fails site count target t in
      let other : Downloaded → Session Model → Session Model = λ (m : Downloaded) (t : Session Model). if nat_le target m.from then t else downloads_up_to plain site count target t in
      exchanges (with_answer fails site) (after_download fails site one) (with_answer plain site) (after_download plain site other) answer-counts
      (goes-on one other (λ m t. chosen (nat_le target m.from) t (downloads_up_to fails site count target t) (downloads_up_to plain site count target (forgets t)) (downloading-plain count target t))) SendDownload s ended

  downloads-all : Plainly (all_downloads fails site) (all_downloads plain site)
  downloads-all s ended =
      let one : Downloaded → Session (Faulty Model) → Session (Faulty Model) = λ (m : Downloaded) (t : Session (Faulty Model)). if nat_le m.last m.from then t else downloads_up_to fails site (m.last + 1 - m.from) m.last t in
      let other : Downloaded → Session Model → Session Model = λ (m : Downloaded) (t : Session Model). if nat_le m.last m.from then t else downloads_up_to plain site (m.last + 1 - m.from) m.last t in
      exchanges (with_answer fails site) (after_download fails site one) (with_answer plain site) (after_download plain site other) answer-counts
      (goes-on one other (λ m t. chosen (nat_le m.last m.from) t (downloads_up_to fails site (m.last + 1 - m.from) m.last t) (downloads_up_to plain site (m.last + 1 - m.from) m.last (forgets t)) (downloading-plain (m.last + 1 - m.from) m.last t))) SendDownload s ended

-- So it is of one site after the other.
module _ (part : SiteId → Faulty Model → Session (Faulty Model)) (plainly : SiteId → Model → Session Model) (agree : (site : SiteId) (f : Faulty Model) → (part site f).stop ≡ None → forgets (part site f) ≡ plainly site f.world) where
  all-complete : (sites : List SiteId) (f g : Faulty Model) → AllCompleteFailing part sites f g → AllComplete plainly sites f.world g.world
  all-complete [] f g same = ap (λ (h : Faulty Model). h.world) same
  all-complete (site ∷ sites) f g all =
      let same : forgets (part site f) ≡ plainly site f.world = agree site f all.0.ended in
      let here : Completes plainly site f.world = record { tables = all.0.tables; here = all.0.here; joined = all.0.joined; ended = sym (ap (λ (t : Session Model). t.stop) same) ∙ all.0.ended } in
      (here, subst (λ (m : Model). AllComplete plainly sites m g.world) (ap (λ (t : Session Model). t.world) same) (all-complete sites (part site f).world g all.1))

pub failing-rounds : OfEveryValidActions FailingRoundSettles
failing-rounds resolvers publication valid says tallies slips actions later uploading downloading sent done up down first second =
    round-settles resolvers publication valid says tallies slips actions uploading downloading sent.world done.world up down
    (all-complete (uploaded_failing publication says) (uploaded_by publication says) (λ site f ended. uploads-all publication says site (new_failing_session f) ended) uploading (faulty (model_behind_actions publication says tallies slips actions) later) sent first)
    (all-complete (downloaded_failing publication says) (downloaded_by publication says) (λ site f ended. downloads-all publication says site (new_failing_session f) ended) downloading sent done second)
