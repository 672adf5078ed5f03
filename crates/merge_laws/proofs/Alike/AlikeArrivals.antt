-- An upload that comes in is refused alike, and does the same, by two ways to decide that agree on the sites and on its items.
use Rattle.std.specs.Prelude.{◌≡◌, ◌+◌, ℕ, List, [], ◌∷◌, Bool, true, Option, Some, None, Result, refl, if◌then◌else◌, is_some, map, max, nat_lt, option_map, filter_map}
use Rattle.std.specs.List.{AllByRecursion}
use Rattle.std.proofs.Common.{ap, ◌∙◌}
use Rattle.merge_types.specs.declared.identifiers.Moment.{Moment}
use Rattle.merge_types.specs.declared.identifiers.SiteId.{SiteId}
use Rattle.merge_units.specs.declared.result.Decision.{Decision}
use Rattle.merge_gens.specs.declared.sites.SiteState.{SiteState}
use Rattle.merge_resolve.specs.Asked.{tallies_after}
use Rattle.merge_schema.specs.declared.publication.Publication.{Publication}
use Rattle.merge_batch.specs.Known.{Known}
use Rattle.merge_batch.specs.Uploads.{broken_by_upload}
use Rattle.merge_batch.specs.declared.refusal.Refusal.{Refusal}
use Rattle.merge_batch.specs.declared.refusal.Refusal.TheVariants.{Gap}
use Rattle.merge_batch.specs.declared.reply.Reply.TheVariants as reply
use Rattle.merge_batch.specs.declared.reply.Uploaded.{Uploaded}
use Rattle.merge_batch.specs.declared.request.Upload.{Upload}
use Rattle.merge_batch.specs.declared.request.UploadItem.{UploadItem}
use Rattle.merge_model.specs.Publisher.Acts.{Act, acting_items, acts_from, acts_of, question_of}
use Rattle.merge_resolve.specs.declared.asking.Question.{Question}
use Rattle.merge_model.specs.Publisher.Entries.{Changing, changed_by}
use Rattle.merge_model.specs.World.Faults.{fault_of, judged_state, known_by, upload_fault}
use Rattle.merge_model.specs.Judge.{PublisherJudge}
use Rattle.merge_model.specs.Tables.Keys.{at_number}
use Rattle.merge_model.specs.Publisher.{at_moment, counters, site_refusal}
use Rattle.merge_model.specs.Publisher.PublisherUpload.{brings_news, changing_by, tables_after_upload, taken_in, too_many_new, upload_refusal, with_acts}
use Rattle.merge_model.specs.Tables.Refusals.{counter_end, first_refusal, refused_if, unless}
use Rattle.merge_model.specs.World.Steps.{deliver_upload, kept_decisions, post, unless_refused, upload_questions}
use Rattle.merge_resolve.specs.Questions.{question_of as asked_of}
use Rattle.merge_model.specs.declared.outcome.Outcome.{Outcome}
use Rattle.merge_types.specs.declared.row_key.RowKey.{RowKey as Key}
use Rattle.merge_model.specs.Tables.{PublisherTables}
use Rattle.merge_model.specs.World.{Saying, World}
use Rattle.merge_model.specs.declared.letter.Message.TheVariants.{Replies}
use Rattle.merge_laws.proofs.Alike.AlikeUploads.{ItemAgrees, acting-same, acts-from-same, questions-same}
use Rattle.merge_model.proofs.Runs.Refusals.{first-none}
use Rattle.merge_model.proofs.Lists.{all-filter}

-- What two ways to decide agree on, of the sites that have joined and of moves.
pub record SitesAgree (sites : List (ℕ × SiteState)) (one other : PublisherJudge) : Type 0 where
  pub received : (site : ℕ) → one.received site ≡ other.received site
  pub received_number : (site : ℕ) → one.received_number site ≡ other.received_number site
  pub seen : (site : ℕ) → is_some (at_number sites site) ≡ true → one.seen site ≡ other.seen site
  pub is_gap : (site from : ℕ) → one.is_gap site from ≡ other.is_gap site from
  pub has_left : (key : Key) (site : ℕ) → one.has_left key site ≡ other.has_left key site

-- Steps ask of moves alone.
pub changed-same : (publication : Publication) (one other : PublisherJudge) (changing : Changing) (p : PublisherTables) → ((key : Key) (site : ℕ) → one.has_left key site ≡ other.has_left key site)
    → changed_by publication one changing p ≡ changed_by publication other changing p
changed-same publication one other changing p same = ap (λ (left : Key → ℕ → Bool). (let judge : PublisherJudge = record one { has_left = left } in changed_by publication judge changing p)) (λ i key site. same key site i)

first-later : (refusal : Option Refusal) (xs ys : List (Option Refusal)) → (refusal ≡ None → first_refusal xs ≡ first_refusal ys) → first_refusal (refusal ∷ xs) ≡ first_refusal (refusal ∷ ys)
first-later (Some why) xs ys same = refl
first-later None xs ys same = same refl

-- an upload that is not refused is of a site that can make it, and breaks no rule
pub not-refused : (publication : Publication) (judge : PublisherJudge) (now : Moment) (m : Upload) (p : PublisherTables) → upload_refusal publication judge now m p ≡ None → (site_refusal publication m.site m.seq now p ≡ None) × (upload_fault publication judge m p ≡ None)
not-refused publication judge now m p none =
    let site = first-none (site_refusal publication m.site m.seq now p) _ none in
    let gap = first-none (refused_if (judge.is_gap m.site.0 m.from) (Gap m.from (judge.received m.site.0))) _ site.1 in
    let fault = first-none (upload_fault publication judge m p) _ gap.1 in
    (site.0, fault.0)

module _ (publication : Publication) (one other : PublisherJudge) (m : Upload) (p : PublisherTables) (agree : SitesAgree p.sites one other) where
  state-same : (site : ℕ) (found : Option SiteState) → at_number p.sites site ≡ found → option_map (judged_state one site) found ≡ option_map (judged_state other site) found
  state-same site None at = refl
  state-same site (Some state) at =
      ap (λ (n : ℕ). (let found : Option SiteState = Some (record (judged_state one site state) { received = n }) in found)) (agree.received site)
      ∙ ap (λ (n : ℕ). (let found : Option SiteState = Some (record state { received = other.received site; received_number = n; seen = one.seen site }) in found)) (agree.received_number site)
      ∙ ap (λ (n : ℕ). (let found : Option SiteState = Some (record (judged_state other site state) { seen = n }) in found)) (agree.seen site (ap (λ (found : Option SiteState). is_some found) at))

  known-same : known_by publication one p ≡ known_by publication other p
  known-same = ap (λ (state : ℕ → Option SiteState). (let known : Known = record (known_by publication one p) { state = state } in known)) (λ i site. state-same site (at_number p.sites site) refl i)

  fault-same : upload_fault publication one m p ≡ upload_fault publication other m p
  fault-same = ap (λ (known : Known). fault_of (broken_by_upload publication known m)) known-same

  gap-same : refused_if (one.is_gap m.site.0 m.from) (Gap m.from (one.received m.site.0)) ≡ refused_if (other.is_gap m.site.0 m.from) (Gap m.from (other.received m.site.0))
  gap-same = ap (λ (gap : Bool). refused_if gap (Gap m.from (one.received m.site.0))) (agree.is_gap m.site.0 m.from) ∙ ap (λ (n : ℕ). refused_if (other.is_gap m.site.0 m.from) (Gap m.from n)) (agree.received m.site.0)

  abbrev Items : Type 0
  Items = AllByRecursion (ItemAgrees one other m.site p.rows) m.items

  -- the same tables at a later moment have the same rows and sites
  acts-same : (now : Moment) (decisions : List Decision) → Items → acts_of one m decisions (at_moment now p) ≡ acts_of other m decisions (at_moment now p)
  acts-same now decisions all =
      let q : PublisherTables = at_moment now p in
      ap (λ (items : List UploadItem). acts_from one m.site q (q.changes + 1) decisions items) (acting-same publication one other m.site q m.items all)
      ∙ acts-from-same publication one other m.site q (acting_items other m) (q.changes + 1) decisions (all-filter (ItemAgrees one other m.site p.rows) _ m.items all)

  first-acts-same : Items → acts_of one m [] p ≡ acts_of other m [] p
  first-acts-same all =
      ap (λ (items : List UploadItem). acts_from one m.site p (p.changes + 1) [] items) (acting-same publication one other m.site p m.items all)
      ∙ acts-from-same publication one other m.site p (acting_items other m) (p.changes + 1) [] (all-filter (ItemAgrees one other m.site p.rows) _ m.items all)

  asked-same : (now : Moment) → Items → upload_questions publication one now m p ≡ upload_questions publication other now m p
  asked-same now all =
      let q : PublisherTables = at_moment now p in
      ap (λ (items : List UploadItem). (let questions : List Question = filter_map (question_of publication one m.site q) items in questions)) (acting-same publication one other m.site q m.items all)
      ∙ questions-same publication one other m.site q (acting_items other m) (all-filter (ItemAgrees one other m.site p.rows) _ m.items all)

  taken-same : (now : Moment) (decisions : List Decision) → Items → (let q : PublisherTables = at_moment now p in taken_in publication one m (acts_of other m decisions q) q ≡ taken_in publication other m (acts_of other m decisions q) q)
  taken-same now decisions all =
      let q : PublisherTables = at_moment now p in
      let acts : List Act = acts_of other m decisions q in
      changed-same publication one other (changing_by m acts) (with_acts publication m acts q) agree.has_left

  uploaded-same : (now : Moment) (decisions : List Decision) → Items → tables_after_upload publication one m decisions (at_moment now p) ≡ tables_after_upload publication other m decisions (at_moment now p)
  uploaded-same now decisions all =
      let q : PublisherTables = at_moment now p in
      ap (λ (n : ℕ). if nat_lt n m.to then taken_in publication one m (acts_of one m decisions q) q else q) (agree.received m.site.0)
      ∙ ap (λ (acts : List Act). if brings_news other m then taken_in publication one m acts q else q) (acts-same now decisions all)
      ∙ ap (λ (taken : PublisherTables). if brings_news other m then taken else q) (taken-same now decisions all)

  -- where the site and the message are in order, the items agree
  refusal-same : (now : Moment) → (site_refusal publication m.site m.seq now p ≡ None → upload_fault publication other m p ≡ None → Items) → upload_refusal publication one now m p ≡ upload_refusal publication other now m p
  refusal-same now items =
      let site : Option Refusal = site_refusal publication m.site m.seq now p in
      let gap : Option Refusal = refused_if (other.is_gap m.site.0 m.from) (Gap m.from (other.received m.site.0)) in
      let fault : Option Refusal = upload_fault publication other m p in
      let rest : List (Option Refusal) = too_many_new (acts_of one m [] p) p ∷ counter_end (counters p) ∷ [] in
      let others : List (Option Refusal) = too_many_new (acts_of other m [] p) p ∷ counter_end (counters p) ∷ [] in
      ap (λ (refusal : Option Refusal). first_refusal (site ∷ refusal ∷ upload_fault publication one m p ∷ rest)) gap-same
      ∙ ap (λ (refusal : Option Refusal). first_refusal (site ∷ gap ∷ refusal ∷ rest)) fault-same
      ∙ first-later site (gap ∷ fault ∷ rest) (gap ∷ fault ∷ others) (λ fine. first-later gap (fault ∷ rest) (fault ∷ others) (λ goes. first-later fault rest others
      (λ sound. ap (λ (acts : List Act). first_refusal (too_many_new acts p ∷ counter_end (counters p) ∷ [])) (first-acts-same (items fine sound)))))

-- The whole step.
module _ (publication : Publication) (says : Saying) (one other : PublisherJudge) (site : SiteId) (m : Upload) (w : World) (agree : SitesAgree w.publisher.sites one other) where
  abbrev p : PublisherTables
  p = w.publisher

  abbrev decided : List Question → List Decision
  decided questions = kept_decisions says w.tallies questions

  abbrev answer : Option Refusal → List Question → PublisherTables → ℕ → World × Outcome
  answer refusal questions taken received = (let done : Result (PublisherTables × Uploaded) Refusal = unless refusal (taken, record { seq = m.seq; received = max m.to received }) in
      unless_refused w done (λ (made : PublisherTables × Uploaded). post site (Replies (reply.Uploaded made.1)) (record w { publisher = made.0; tallies = tallies_after w.tallies (map asked_of questions) })))

  answer-same : (refusal : Option Refusal) (questions others : List Question) (taken after : PublisherTables) (received : ℕ) → (refusal ≡ None → questions ≡ others) → (refusal ≡ None → taken ≡ after)
      → answer refusal questions taken received ≡ answer refusal others after received
  answer-same (Some why) questions others taken after received asked did = refl
  answer-same None questions others taken after received asked did = ap (λ (qs : List Question). answer None qs taken received) (asked refl) ∙ ap (λ (q : PublisherTables). answer None others q received) (did refl)

  pub deliver-same : (site_refusal publication m.site m.seq w.moment p ≡ None → upload_fault publication other m p ≡ None → AllByRecursion (ItemAgrees one other m.site p.rows) m.items)
      → deliver_upload publication says one site m w ≡ deliver_upload publication says other site m w
  deliver-same items =
      let asked : List Question = upload_questions publication one w.moment m p in
      let others : List Question = upload_questions publication other w.moment m p in
      let taken : PublisherTables = tables_after_upload publication one m (decided asked) (at_moment w.moment p) in
      let after : PublisherTables = tables_after_upload publication other m (decided others) (at_moment w.moment p) in
      let agreed = λ (none : upload_refusal publication other w.moment m p ≡ None). (let fine = not-refused publication other w.moment m p none in items fine.0 fine.1) in
      ap (λ (refusal : Option Refusal). answer refusal asked taken (one.received m.site.0)) (refusal-same publication one other m p agree w.moment items)
      ∙ ap (λ (n : ℕ). answer (upload_refusal publication other w.moment m p) asked taken n) (agree.received m.site.0)
      ∙ answer-same (upload_refusal publication other w.moment m p) asked others taken after (other.received m.site.0)
      (λ none. asked-same publication one other m p agree w.moment (agreed none))
      (λ none. ap (λ (questions : List Question). tables_after_upload publication one m (decided questions) (at_moment w.moment p)) (asked-same publication one other m p agree w.moment (agreed none))
      ∙ uploaded-same publication one other m p agree w.moment (decided others) (agreed none))
