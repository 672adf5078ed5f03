-- Every list of events keeps a register of what was made of cells, so cells with one top have one list of values.
use Rattle.std.specs.List.{AllByRecursion}
use Rattle.std.specs.Prelude.{Bool, List, None, Option, Some, [], cond, false, find, if◌then◌else◌, map, refl, true, ◌&&◌, ◌+◌, ◌==◌, ◌≡◌, ◌∷◌, ℕ}
use Rattle.std.proofs.Common.{ap, arith, inl, inr, subst, sym, ◌∙◌}
use Rattle.std.proofs.lemmas.Bool.Decides.{nat_tests}
use Rattle.merge_types.specs.declared.changes.Change.{Change}
use Rattle.merge_types.specs.declared.changes.Change.TheVariants.{Delete, Insert, Update}
use Rattle.merge_types.specs.declared.changes.Setting.{Setting}
use Rattle.merge_types.specs.declared.identifiers.Dot.{Dot}
use Rattle.merge_types.specs.declared.row_key.RowKey.{RowKey as Key}
use Rattle.merge_types.specs.declared.values.Value.{Value}
use Rattle.merge_units.specs.Cases.{case_by}
use Rattle.merge_units.specs.Changes.{cells_after}
use Rattle.merge_units.specs.Results.{case_body}
use Rattle.merge_units.specs.Version.{cells_of, has_news, tops_of}
use Rattle.merge_units.specs.declared.case.Case.{Case}
use Rattle.merge_units.specs.declared.result.Decision.{Decision}
use Rattle.merge_units.specs.declared.version.Body.{Body}
use Rattle.merge_units.specs.declared.version.Body.TheVariants.{Dead, Live}
use Rattle.merge_units.specs.declared.version.Cell.{Cell}
use Rattle.merge_units.specs.declared.version.Version.{Version}
use Rattle.merge_ident.specs.Holders.{Holder}
use Rattle.merge_schema.specs.declared.publication.Publication.{Publication}
use Rattle.merge_batch.specs.LocalChanges.{key_of, new_values, tracking_at, version_after}
use Rattle.merge_batch.specs.declared.reply.Reply.TheVariants as reply
use Rattle.merge_batch.specs.declared.request.Outstanding.TheVariants as ask
use Rattle.merge_batch.specs.declared.request.Request.TheVariants as request
use Rattle.merge_batch.specs.declared.request.Upload.{Upload}
use Rattle.merge_model.specs.Publisher.Acts.{Act, Fate, Met, New, Unknown, acting_items, version_by}
use Rattle.merge_model.specs.Judge.ByHistory.{by_made, by_past}
use Rattle.merge_model.specs.Failing.{Slips, faulty}
use Rattle.merge_model.specs.History.{History, MadeChange, Past, has, past_at, past_in, pasts_with}
use Rattle.merge_model.specs.Judge.{PublisherJudge}
use Rattle.merge_model.specs.Tables.Keys.{same_key}
use Rattle.merge_model.specs.History.Model.{Model, empty_model, model}
use Rattle.merge_model.specs.History.Noting
use Rattle.merge_model.specs.History.Pasts.{past_after}
use Rattle.merge_model.specs.Publisher.{tables_after_close}
use Rattle.merge_model.specs.Publisher.PublisherJoin.{join_taken}
use Rattle.merge_model.specs.Publisher.PublisherLocal.{Drawn, made_locally, next_dot, version_at}
use Rattle.merge_model.specs.Publisher.PublisherRanges.{plans, reply_to_ranges, with_grants}
use Rattle.merge_model.specs.Publisher.PublisherUpload.{taken_in, upload_refusal}
use Rattle.merge_model.specs.Failing.Runs.{model_after_actions, model_behind_actions}
use Rattle.merge_model.specs.Subscriber.Sending.{join_of, want_of, with_message}
use Rattle.merge_model.specs.World.Steps.{Action, kept_decisions, upload_questions}
use Rattle.merge_model.specs.Subscriber.{subscriber_at_moment, subscriber_closed, subscriber_last_closed, subscriber_made_locally, subscriber_next_dot, subscriber_version_at}
use Rattle.merge_model.specs.Tables.{PublisherTables, SubscriberTables}
use Rattle.merge_model.specs.World.{Saying, World, subscriber_at, with_publisher, with_subscriber}
use Rattle.merge_model.specs.declared.letter.Message.TheVariants.{Asks, Replies}
use Rattle.merge_model.proofs.Lists.Finding.{all-weaker}
use Rattle.merge_model.proofs.Lists.KeyLookUps.{key-itself, keys-same}
use Rattle.merge_model.proofs.Lists.{all-both}
use Rattle.merge_model.proofs.Runs.Actions.{failing-actions-keep}
use Rattle.merge_laws.specs.Facts.Knowledge.{changes_of, is_made, same_dot}
use Rattle.merge_laws.specs.Laws.{OfEveryValidActions}
use Rattle.merge_laws.proofs.Accounts.AccountElements.{IsIn, any-out}
use Rattle.merge_laws.proofs.Pasts.DotTests.{dot-itself, dots-same}
use Rattle.merge_laws.proofs.Known.KnownCounts.{own-count}
use Rattle.merge_laws.proofs.Lineages.LineagesAlways.{Kept, ground, kept-always, kept-step, kept-tallied}
use Rattle.merge_laws.proofs.Makers.MakerUploads.{FateAbove, from-above}
use Rattle.merge_laws.proofs.Walking.Noted.{acts-own, anew-keep, own-keep, purge-keep, reply-keep}
use Rattle.merge_laws.proofs.Told.ToldItems.{ActsApart, acts-apart}
use Rattle.merge_laws.proofs.Told.ToldRows.{HeldFits}
use Rattle.merge_laws.proofs.Told.ToldSites.{Every, letter-goes, publisher-stays, world-stays}
use Rattle.merge_laws.proofs.Told.ToldWalk.{every-begins}
use Rattle.merge_laws.proofs.Walking.{StepsKeep, acts_in, comes, here, join_noted, own_noted, step-keeps, told_by, uploaded_world}
use Rattle.merge_owed.specs.Values.{BodiesAgree, CellsAgree, ValuesStandForGood, ValuesStandForGoodByActions}
use Rattle.merge_owed.proofs.EveryVersions.{TopsMade, every-both, is_later, made-before, tops-made}
use Rattle.merge_owed.proofs.MadeStays.{AreAmong, acts-stay, every-weaker, join-stays, notes-stay}
use Rattle.merge_owed.proofs.ValuesFit.{BodyIs, CellsAre, Register, body-before, case-is, inserted-is, updated-is, values_at, with_later}
use Rattle.merge_owed.proofs.VersionActs.{ActMakes, FateMakes}
use Rattle.merge_owed.proofs.VersionSteps.{anew, answers-ask, forgets, joins, own-change, replies, sends-upload, stays, sub-change, uploads}
use Rattle.merge_laws.proofs.Runs.OfActions.{of-later-events}

abbrev Has : Register → Key → Version → Past → Type 0
Has f key version past = BodyIs f key version.body

abbrev cells_in : Option Version → List Cell
cells_in None = []
cells_in (Some version) = cells_of version.body

-- A local change: what it made.
module _ (publication : Publication) (later : Dot → Bool) (dot : Dot) (is_new : later dot ≡ true) (value : Value) (f : Register) where
  abbrev made_by_change : Change → Option Version → Key → ℕ → List Value
  made_by_change change held key n = values_at (cells_in (version_after publication dot value change held)) n

  live-is : (g : Key → ℕ → List Value) (key : Key) (article : ℕ) (settings : List Setting) (body : Body) → ((j : ℕ) → g key j ≡ values_at (cells_after (tracking_at publication article) dot settings (cells_of body)) j) → BodyIs (with_later later g f) key body
      → BodyIs (with_later later g f) key (Live (cells_after (tracking_at publication article) dot settings (cells_of body)))
  live-is g key article settings (Live cells) says are = updated-is later g f key dot is_new (tracking_at publication article) settings cells says are
  live-is g key article settings (Dead top) says are = updated-is later g f key dot is_new (tracking_at publication article) settings [] says tt

  change-is : (change : Change) (held : Option Version) (past : Past) → (let after : Register = with_later later (made_by_change change held) f in HeldFits (Has after) (key_of dot change) held past
      → HeldFits (Has after) (key_of dot change) (version_after publication dot value change held) (past_after publication dot change past))
  change-is (Insert article settings) held past fits =
      inserted-is later (made_by_change (Insert article settings) held) f (key_of dot (Insert article settings)) dot is_new (tracking_at publication article) (new_values publication article value settings) (λ j. refl)
  change-is (Update article row settings) None past fits = tt
  change-is (Update article row settings) (Some held) past fits = live-is (made_by_change (Update article row settings) (Some held)) (key_of dot (Update article row settings)) article settings held.body (λ j. refl) fits
  change-is (Delete article row) None past fits = tt
  change-is (Delete article row) (Some held) past fits = tt

-- The acts of an upload: what each decided of its row.
abbrev version_of : Option Act → Option Version
version_of None = None
version_of (Some act) = version_by act.incoming act.fate

abbrev made_by_acts : List Act → Key → ℕ → List Value
made_by_acts acts key n = values_at (cells_in (version_of (find (λ (act : Act). same_key key act.key) acts))) n

abbrev IsFound : List Act → Act → Type 0
IsFound acts act = find (λ (other : Act). same_key act.key other.key) acts ≡ Some act

found-first : (b : Bool) (act : Act) (rest : Option Act) → b ≡ true → (let found : Option Act = cond b (Some act) rest in found) ≡ Some act
found-first true act rest is = refl
found-first false act rest is = absurd cc

found-behind : (b : Bool) (act other : Act) (rest : Option Act) → b ≡ false → rest ≡ Some act → (let found : Option Act = cond b (Some other) rest in found) ≡ Some act
found-behind true act other rest is there = absurd cc
found-behind false act other rest is there = there

acts-found : (acts : List Act) → ActsApart acts → AllByRecursion (IsFound acts) acts
acts-found [] apart = tt
acts-found (act ∷ acts) apart = (
  found-first (same_key act.key act.key) act (find (λ (other : Act). same_key act.key other.key) acts) (key-itself act.key),
  all-both (λ (other : Act). same_key other.key act.key ≡ false) (IsFound acts) (IsFound (act ∷ acts)) (λ other differs there. found-behind (same_key other.key act.key) other act (find (λ (x : Act). same_key other.key x.key) acts) differs there) acts apart.0 (acts-found acts apart.1),
)

module _ (later : Dot → Bool) (acts : List Act) (f : Register) where
  abbrev acted : Register
  acted = with_later later (made_by_acts acts) f

  abbrev FateLater : Fate → Type 0
  FateLater New = Unit {0}
  FateLater Unknown = Unit {0}
  FateLater (Met held case decision dot) = later dot ≡ true

  result-is : (key : Key) (held incoming : Version) (case : Case) (decision : Decision) (dot : Dot) (past other : Past) → IsFound acts (record { key = key; incoming = incoming; fate = Met held case decision dot }) → later dot ≡ true
      → case ≡ case_by (has past.known) (has other.known) held.body incoming.body → BodyIs acted key held.body → BodyIs acted key incoming.body → BodyIs acted key (case_body dot decision case held.body incoming.body)
  result-is key held incoming case decision dot past other found is_new is one two =
      let says : (j : ℕ) → made_by_acts acts key j ≡ values_at (cells_of (case_body dot decision case held.body incoming.body)) j = λ j. ap (λ (act : Option Act). values_at (cells_in (version_of act)) j) found in
      subst (λ (c : Case). ((j : ℕ) → made_by_acts acts key j ≡ values_at (cells_of (case_body dot decision c held.body incoming.body)) j) → BodyIs acted key (case_body dot decision c held.body incoming.body)) (sym is)
      (λ says. case-is later (made_by_acts acts) f key dot is_new (has past.known) (has other.known) decision (has_news (has other.known) held.body) (has_news (has past.known) incoming.body) held.body incoming.body one two says) says

  fate-is : (key : Key) (incoming : Version) (other : Past) (fate : Fate) → IsFound acts (record { key = key; incoming = incoming; fate = fate }) → FateLater fate → FateMakes (Has acted) key incoming other fate
  fate-is key incoming other New found is_new = tt
  fate-is key incoming other Unknown found is_new = tt
  fate-is key incoming other (Met held case decision dot) found is_new = λ past is keeps one two. result-is key held incoming case decision dot past other found is_new is one two

  acts-are : (incoming : List (Key × Past)) → AllByRecursion (IsFound acts) acts → AllByRecursion (λ (act : Act). FateLater act.fate) acts → AllByRecursion (ActMakes (Has acted) incoming) acts
  acts-are incoming found new = all-both (IsFound acts) (λ (act : Act). FateLater act.fate) (ActMakes (Has acted) incoming) (λ act is new. fate-is act.key act.incoming (past_in incoming act.key) act.fate is new) acts found new

above-later : (count : ℕ) (acts : List Act) (f : Register) (fate : Fate) → FateAbove count fate → FateLater (is_later 0 count) acts f fate
above-later count acts f New above = tt
above-later count acts f Unknown above = tt
above-later count acts f (Met held case decision dot) above = grind (arith, nat_tests, above.0, above.1)

-- The register, which has what it had of changes that were made before.
record Registered (known : List MadeChange) (before : Register) (w : World) (h : History) : Type 0 where
  register : Register
  every : Every (Has register) w h
  same : (change : MadeChange) → IsIn change known → (key : Key) (n : ℕ) → register key n change.dot ≡ before key n change.dot
  among : AreAmong known h.made

in-made : (made : List MadeChange) (change : MadeChange) → IsIn change made → is_made made change.key change.dot ≡ true
in-made [] change is = absurd is
in-made (c ∷ made) change (inl same) = subst (λ (x : MadeChange). is_made (c ∷ made) x.key x.dot ≡ true) same (grind (arith, dot-itself c.dot, key-itself c.key))
in-made (c ∷ made) change (inr later) = (let rest = in-made made change later in grind (arith, rest))

as-it-was : (b : Bool) (one other : List Value) → b ≡ false → (if b then one else other) ≡ other
as-it-was true one other is = absurd cc
as-it-was false one other is = refl

abbrev Base : Publication → World → History → Type 0
Base publication w h = Kept publication (record { world = w; history = h })

module _ (publication : Publication) (known : List MadeChange) (before : Register) where
  abbrev Holds : World → History → Type 0
  Holds w h = Registered known before w h

  on : (v : World) (h k : History) (w : World) (r : Holds w h) → AreAmong h.made k.made → Every (Has r.register) v k → Holds v k
  on v h k w r among e = record { register = r.register; every = e; same = r.same; among = λ change is. among change (r.among change is) }

  -- with what later changes of a site make
  module _ (w : World) (h : History) (b : Base publication w h) (r : Holds w h) (n : ℕ) (g : Key → ℕ → List Value) where
    abbrev m : Model
    m = record { world = w; history = h }

    abbrev later : Dot → Bool
    later = is_later n (changes_of w n)

    abbrev register_after : Register
    register_after = with_later later g r.register

    none-later : (key : Key) (version : Version) (past : Past) → Has r.register key version past → TopsMade h.made key version past → Has register_after key version past
    none-later key version past is made =
        body-before later g r.register key version.body
        (all-weaker (λ (top : Dot). is_made h.made key top ≡ true) (λ (top : Dot). later top ≡ false) (λ top there. made-before (changes_of w) h n key top (ground publication m b).known.numbered there) (tops_of version.body) made) is

    stays-with : Every (Has register_after) w h
    stays-with = every-both (Has r.register) (TopsMade h.made) (Has register_after) none-later w h r.every (tops-made m (ground publication m b).known.knowledge b.told)

    goes-on : (v : World) (k : History) → AreAmong h.made k.made → Every (Has register_after) v k → Holds v k
    goes-on v k among e = record {
      register = register_after;
      every = e;
      same = λ change is key place. as-it-was (later change.dot) (g key place) (r.register key place change.dot)
          (made-before (changes_of w) h n change.key change.dot (ground publication m b).known.numbered (in-made h.made change (r.among change is))) ∙ r.same change is key place;
      among = λ change is. among change (r.among change is);
    }

  module _ (says : Saying) where
    own-holds : (w : World) (h : History) (change : Change) (d : Drawn) → Base publication w h → Holds w h
        → (let judge : PublisherJudge = by_past h (pasts_with h 0) in Holds (with_publisher (made_locally publication judge change d (here w)).0 w) (own_noted publication judge change d (here w) h))
    own-holds w h change d b r =
        let judge : PublisherJudge = by_past h (pasts_with h 0) in
        let dot : Dot = next_dot (here w) in
        let held : Option Version = version_at w.publisher (key_of dot change) in
        let is_new : is_later 0 (changes_of w 0) dot ≡ true = grind (arith, nat_tests) in
        let g : Key → ℕ → List Value = made_by_change publication (is_later 0 (changes_of w 0)) dot is_new d.value r.register change held in
        goes-on w h b r 0 g (with_publisher (made_locally publication judge change d (here w)).0 w) (own_noted publication judge change d (here w) h)
        (own-keep (λ (k : History). AreAmong h.made k.made) (notes-stay h.made) publication judge change d (here w) h (λ x is. is))
        (own-change publication says (Has (register_after w h b r 0 g)) w h (ground publication (record { world = w; history = h }) b) (stays-with w h b r 0 g) change d
        (change-is publication (is_later 0 (changes_of w 0)) dot is_new d.value r.register change held (past_at h 0 (key_of dot change))))

    sub-holds : (w : World) (h : History) (s : SubscriberTables) (change : Change) (d : Value × List (ℕ × Holder)) → Base publication w h → Holds w h → subscriber_at w s.site ≡ Some s → (s.site.0 ≡ 0 → ⊥)
        → Holds (with_subscriber (subscriber_made_locally publication change d (subscriber_at_moment w.moment s)).0 w) (Noting.with_change publication (subscriber_next_dot s) (subscriber_last_closed s + 1) change d.0 h)
    sub-holds w h s change d b r at named =
        let dot : Dot = subscriber_next_dot s in
        let held : Option Version = subscriber_version_at s (key_of dot change) in
        let count : s.changes ≡ changes_of w s.site.0 = own-count w s (s.site.0 == 0) refl named at in
        let is_new : is_later s.site.0 (changes_of w s.site.0) dot ≡ true = grind (arith, nat_tests, count) in
        let g : Key → ℕ → List Value = made_by_change publication (is_later s.site.0 (changes_of w s.site.0)) dot is_new d.0 r.register change held in
        goes-on w h b r s.site.0 g (with_subscriber (subscriber_made_locally publication change d (subscriber_at_moment w.moment s)).0 w) (Noting.with_change publication dot (subscriber_last_closed s + 1) change d.0 h) (λ x is. inr is)
        (sub-change publication says (Has (register_after w h b r s.site.0 g)) w h (ground publication (record { world = w; history = h }) b) (stays-with w h b r s.site.0 g) s at change d
        (change-is publication (is_later s.site.0 (changes_of w s.site.0)) dot is_new d.0 r.register change held (past_at h s.site.0 (key_of dot change))))

    upload-holds : (w : World) (h : History) (number : ℕ) (m : Upload) → Base publication w h → Holds w h → comes w number m.site (Asks (request.Upload m))
        → (let judge : PublisherJudge = by_past h (pasts_with h number) in upload_refusal publication judge w.moment m w.publisher ≡ None
        → Holds (with_publisher (taken_in publication judge m (acts_in publication says judge m w) (here w)) w) (Noting.with_acts_noted publication judge m (acts_in publication says judge m w) (pasts_with h number) (here w) h))
    upload-holds w h number m b r at fine =
        let judge : PublisherJudge = by_past h (pasts_with h number) in
        let decisions : List Decision = kept_decisions says w.tallies (upload_questions publication judge w.moment m w.publisher) in
        let acts : List Act = acts_in publication says judge m w in
        let count : ℕ = changes_of w 0 in
        let above : AllByRecursion (λ (act : Act). FateAbove count act.fate) acts = from-above count judge m.site (here w) (w.publisher.changes + 1) decisions (acting_items judge m) (omega arith) in
        let new : AllByRecursion (λ (act : Act). FateLater (is_later 0 count) acts r.register act.fate) acts = all-weaker (λ (act : Act). FateAbove count act.fate) (λ (act : Act). FateLater (is_later 0 count) acts r.register act.fate) (λ act is. above-later count acts r.register act.fate is) acts above in
        goes-on w h b r 0 (made_by_acts acts) (with_publisher (taken_in publication judge m acts (here w)) w) (Noting.with_acts_noted publication judge m acts (pasts_with h number) (here w) h)
        (acts-stay publication judge m acts (pasts_with h number) (here w) h (acts-own judge m decisions (here w)))
        (uploads publication says (Has (register_after w h b r 0 (made_by_acts acts))) w h (ground publication (record { world = w; history = h }) b) (stays-with w h b r 0 (made_by_acts acts)) number m at fine
        (acts-are (is_later 0 count) acts r.register (pasts_with h number) (acts-found acts (acts-apart publication judge w.moment m decisions w.publisher (here w) fine)) new))

    holds-keep : StepsKeep publication says (Base publication) Holds
    holds-keep = record {
      moment = λ w h now b r. on (record w { moment = now }) h h w r (λ x is. is) (world-stays (Has r.register) w (record w { moment = now }) h refl refl refl r.every);
      own_change = λ w h change d b r fine is. own-holds w h change d b r;
      own_closing = λ w h b r. on _ h h w r (λ x is. is) (publisher-stays (Has r.register) w h (tables_after_close (here w)) refl refl r.every);
      forgetting = λ w h b r. on _ h (Noting.noted_purge publication (by_past h (pasts_with h 0)) (here w) h) w r (purge-keep (λ (k : History). AreAmong h.made k.made) (notes-stay h.made) publication (by_past h (pasts_with h 0)) (here w) h (λ x is. is))
          (forgets publication says (Has r.register) w h (ground publication (record { world = w; history = h }) b) r.every);
      same = λ w h s b r at. on _ h h w r (λ x is. is) (stays publication says (Has r.register) w h (ground publication (record { world = w; history = h }) b) r.every s at s refl refl refl);
      subscriber_change = λ w h s change d b r at named fine is. sub-holds w h s change d b r at named;
      subscriber_closing = λ w h s b r at. on _ h h w r (λ x is. is) (stays publication says (Has r.register) w h (ground publication (record { world = w; history = h }) b) r.every s at (subscriber_closed (subscriber_at_moment w.moment s)) refl refl refl);
      anew = λ w h s b r at. on _ h (Noting.noted_anew (by_made h s.site) s h) w r (anew-keep (λ (k : History). AreAmong h.made k.made) (notes-stay h.made) (by_made h s.site) s h (λ x is. is))
          (anew publication says (Has r.register) w h (ground publication (record { world = w; history = h }) b) r.every s at);
      sends_join = λ w h s b r at joining. (let u : SubscriberTables = with_message ask.Join s in
          on _ h _ w r (λ x is. is) (letter-goes (Has r.register) (with_subscriber u w) h s.site (Asks (request.Join (join_of s))) tt (stays publication says (Has r.register) w h (ground publication (record { world = w; history = h }) b) r.every s at u refl refl refl)));
      sends_upload = λ w h s b r at fine. on _ h _ w r (λ x is. is) (sends-upload publication says (Has r.register) w h (ground publication (record { world = w; history = h }) b) r.every s at);
      sends_ranges = λ w h s b r at fine. (let u : SubscriberTables = with_message ask.Ranges s in
          on _ h _ w r (λ x is. is) (letter-goes (Has r.register) (with_subscriber u w) h s.site (Asks (request.Ranges (record { site = s.site; seq = s.seq + 1; wants = map want_of s.held }))) tt (stays publication says (Has r.register) w h (ground publication (record { world = w; history = h }) b) r.every s at u refl refl refl)));
      sends_ask = λ w h s b r at fine. (let u : SubscriberTables = with_message (ask.Download s.watermark) s in
          on _ h _ w r (λ x is. is) (letter-goes (Has r.register) (with_subscriber u w) h s.site (Asks (request.Download (record { site = s.site; seq = s.seq + 1; from = s.watermark }))) tt (stays publication says (Has r.register) w h (ground publication (record { world = w; history = h }) b) r.every s at u refl refl refl)));
      joins = λ w h number m b r at fine acts. (let judge : PublisherJudge = by_past h (pasts_with h number) in
          let k : History = join_noted judge m w.publisher h in
          on _ h _ w r (join-stays judge m w.publisher h) (letter-goes (Has r.register) (with_publisher (join_taken m (here w)) w) k m.site (Replies (reply.Joined (record { seq = m.seq }))) tt (joins publication says (Has r.register) w h (ground publication (record { world = w; history = h }) b) r.every number m)));
      joins_again = λ w h number m b r at acts. on _ h _ w r (λ x is. is) (letter-goes (Has r.register) (with_publisher (here w) w) h m.site (Replies (reply.Joined (record { seq = m.seq }))) tt (publisher-stays (Has r.register) w h (here w) refl refl r.every));
      uploads = λ w h number m b r at fine news. (let judge : PublisherJudge = by_past h (pasts_with h number) in
          let acts : List Act = acts_in publication says judge m w in
          let q : PublisherTables = taken_in publication judge m acts (here w) in
          let k : History = Noting.with_acts_noted publication judge m acts (pasts_with h number) (here w) h in
          let v : World = uploaded_world publication says judge m q w in
          let all = upload-holds w h number m b r at fine in
          on _ k _ (with_publisher q w) all (λ x is. is) (letter-goes (Has all.register) v k m.site (Replies (reply.Uploaded (told_by judge m))) tt (world-stays (Has all.register) (with_publisher q w) v k refl refl refl all.every)));
      uploads_again = λ w h number m b r at none. (let judge : PublisherJudge = by_past h (pasts_with h number) in
          let v : World = uploaded_world publication says judge m (here w) w in
          on _ h _ w r (λ x is. is) (letter-goes (Has r.register) v h m.site (Replies (reply.Uploaded (told_by judge m))) tt (world-stays (Has r.register) (with_publisher (here w) w) v h refl refl refl (publisher-stays (Has r.register) w h (here w) refl refl r.every))));
      answers_ranges = λ w h site m b r. (let q : PublisherTables = with_grants (plans publication m w.publisher) (here w) in
          on _ h _ w r (λ x is. is) (letter-goes (Has r.register) (with_publisher q w) h site (Replies (reply.Ranged (reply_to_ranges m (plans publication m w.publisher)))) tt (publisher-stays (Has r.register) w h q refl refl r.every)));
      answers_ask = λ w h number site m b r at fine. on _ h _ w r (λ x is. is) (answers-ask publication says (Has r.register) w h (ground publication (record { world = w; history = h }) b) r.every number site m);
      replies = λ w h s number m sent b r at there out none. on _ h (Noting.noted_reply (by_made h s.site) s.site (pasts_with h number) m h) w r
          (reply-keep (λ (k : History). AreAmong h.made k.made) (notes-stay h.made) (by_made h s.site) s.site (pasts_with h number) m h (λ x is. is))
          (replies publication says (Has r.register) w h (ground publication (record { world = w; history = h }) b) r.every s at (by_made h s.site) number m there);
    }

    abbrev Whole : Model → Type 0
    Whole m = Kept publication m × Holds m.world m.history

    holds-after : (m : Model) (slips : Slips) (actions : List Action) → Whole m → Whole (model_after_actions publication says m slips actions)
    holds-after m slips actions whole = failing-actions-keep publication (model publication says) Whole
        (λ n action k. (kept-step publication n k.0 says action, step-keeps publication says (Base publication) Holds (λ w h b. (ground publication (record { world = w; history = h }) b).received) holds-keep n action k.0 k.1))
        (λ n others k. (kept-tallied publication n others k.0, on (record n.world { tallies = others }) n.history n.history n.world k.1 (λ x is. is) (world-stays (Has k.1.register) n.world (record n.world { tallies = others }) n.history refl refl refl k.1.every))) actions (faulty m slips) whole

-- Two versions with what the registers say, which say the same of the first one's tops.

cells-agree : (f f_too : Register) (key : Key) (n : ℕ) (ours theirs : List Cell) → AllByRecursion (λ (top : Dot). (k : ℕ) → f_too key k top ≡ f key k top) (map (λ (cell : Cell). cell.top) ours) → CellsAre f key n ours → CellsAre f_too key n theirs → CellsAgree ours theirs
cells-agree f f_too key n [] theirs same one other = tt
cells-agree f f_too key n (cell ∷ ours) [] same one other = tt
cells-agree f f_too key n (cell ∷ ours) (there ∷ theirs) same one other = (
  (λ is. one.0 ∙ sym (same.0 n) ∙ ap (f_too key n) is ∙ sym other.0),
  cells-agree f f_too key (n + 1) ours theirs same.1 one.1 other.1,
)

bodies-agree : (f f_too : Register) (key : Key) (ours theirs : Body) → AllByRecursion (λ (top : Dot). (k : ℕ) → f_too key k top ≡ f key k top) (tops_of ours) → BodyIs f key ours → BodyIs f_too key theirs → BodiesAgree ours theirs
bodies-agree f f_too key (Live ours) (Live theirs) same one other = cells-agree f f_too key 0 ours theirs same one other
bodies-agree f f_too key (Live ours) (Dead top) same one other = tt
bodies-agree f f_too key (Dead top) theirs same one other = tt

-- a change that was made has this dot
made-same : (f f_too : Register) (key : Key) (made : List MadeChange) → ((change : MadeChange) → IsIn change made → (at : Key) (k : ℕ) → f_too at k change.dot ≡ f at k change.dot) → (top : Dot) → is_made made key top ≡ true → (k : ℕ) → f_too key k top ≡ f key k top
made-same f f_too key made same top is k = any-out (f_too key k top ≡ f key k top) (λ (change : MadeChange). same_dot change.dot top && same_key key change.key) made is
    (λ change inside here. (let one : change.dot ≡ top = dots-same change.dot top (grind (arith, here)) in subst (λ (dot : Dot). f_too key k dot ≡ f key k dot) one (same change inside key k)))

agree-in : (m n : Model) (f : Register) (r : Registered m.history.made f n.world n.history) (key : Key) (version : Version) (past : Past) → Has f key version past → TopsMade m.history.made key version past
    → Every (λ (other : Key) (there : Version) (known : Past). same_key key other ≡ true → BodiesAgree version.body there.body) n.world n.history
agree-in m n f r key version past is made =
    every-weaker (Has r.register) (λ (other : Key) (there : Version) (known : Past). same_key key other ≡ true → BodiesAgree version.body there.body)
    (λ other there known are same. (
    let one : key ≡ other = keys-same key other same in
    bodies-agree f r.register key version.body there.body
    (all-weaker (λ (top : Dot). is_made m.history.made key top ≡ true) (λ (top : Dot). (k : ℕ) → r.register key k top ≡ f key k top) (λ top was. made-same f r.register key m.history.made r.same top was) (tops_of version.body) made)
    is (subst (λ (x : Key). BodyIs r.register x there.body) (sym one) are))) n.world n.history r.every

pub values-stand-by-actions : OfEveryValidActions ValuesStandForGoodByActions
values-stand-by-actions resolvers publication valid says tallies slips actions others more =
    let m : Model = model_behind_actions publication says tallies slips actions in
    let n : Model = model_after_actions publication says m others more in
    let nothing : Register = λ key k dot. [] in
    let here = holds-after publication [] nothing says (empty_model publication tallies) slips actions
    (kept-always publication (resolvers, valid) says tallies [] [], record { register = nothing; every = every-begins (Has nothing) publication tallies; same = λ change is key k. refl; among = λ change is. is }) in
    let there = holds-after publication m.history.made here.1.register says m others more (here.0, record { register = here.1.register; every = here.1.every; same = λ change is key k. refl; among = λ change is. is }) in
    every-both (Has here.1.register) (TopsMade m.history.made) (λ (key : Key) (version : Version) (past : Past). Every (λ (other : Key) (known : Version) (old : Past). same_key key other ≡ true → BodiesAgree version.body known.body) n.world n.history)
    (λ key version past is made. agree-in m n here.1.register there.1 key version past is made) m.world m.history here.1.every (tops-made m (ground publication m here.0).known.knowledge here.0.told)

-- so where events come afterwards
pub values-stand : OfEveryValidActions ValuesStandForGood
values-stand resolvers publication valid says tallies slips actions others more =
    let m : Model = model_behind_actions publication says tallies slips actions in
    of-later-events publication says m others more (λ (n : Model). Every (λ (key : Key) (version : Version) (past : Past). Every (λ (other : Key) (there : Version) (known : Past). same_key key other ≡ true → BodiesAgree version.body there.body) n.world n.history) m.world m.history)
    (values-stand-by-actions resolvers publication valid says tallies slips actions others)
