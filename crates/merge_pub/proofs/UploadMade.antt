-- An upload by its parts is that of the model.
use Rattle.std.specs.List.{fold}
use Rattle.std.specs.Prelude.{◌≡◌, ◌+◌, ◌++◌, ◌==◌, ◌∷◌, ℕ, Bool, true, false, List, [], Option, Some, None, Result, Ok, Err, filter, filter_map, if◌then◌else◌, length, map, max, nat_lt, refl, take}
use Rattle.std.proofs.Common.{arith, sym, ap, ◌∙◌, subst}
use Rattle.merge_types.specs.declared.identifiers.Moment.{Moment}
use Rattle.merge_types.specs.declared.row_key.RowKey.{RowKey as Key}
use Rattle.merge_lineage.specs.Lineage.{number_of}
use Rattle.merge_units.specs.declared.result.Decision.{Decision}
use Rattle.merge_units.specs.declared.version.Version.{Version}
use Rattle.merge_gens.specs.declared.sites.SiteState.{SiteState}
use Rattle.merge_conflict.specs.declared.row.ConflictRow.{ConflictRow}
use Rattle.merge_resolve.specs.Asked.{tallies_after}
use Rattle.merge_resolve.specs.Questions.{question_of as asked_of}
use Rattle.merge_resolve.specs.declared.asking.Question.{Question}
use Rattle.merge_schema.specs.declared.publication.Publication.{Publication}
use Rattle.merge_batch.specs.declared.refusal.Refusal.{Refusal}
use Rattle.merge_batch.specs.declared.reply.Uploaded.{Uploaded}
use Rattle.merge_batch.specs.declared.request.Upload.{Upload}
use Rattle.merge_batch.specs.declared.request.UploadItem.{UploadItem}
use Rattle.merge_model.specs.Publisher.Acts.{Act, act_of, acts_from, acts_of, left_by, made_by, question_of}
use Rattle.merge_model.specs.Judge.ByNumbers.{by_numbers}
use Rattle.merge_model.specs.Publisher.Entries.{changed_by}
use Rattle.merge_model.specs.Publisher.{at_moment, later}
use Rattle.merge_model.specs.Publisher.PublisherUpload.{changing_by, seen_in, state_seeing, tables_after_upload, taken_in, upload_refusal, with_acts, with_taken}
use Rattle.merge_model.specs.Tables.Refusals.{unless}
use Rattle.merge_model.specs.World.Steps.{kept_decisions, upload_questions}
use Rattle.merge_model.specs.Tables.{PublisherTables}
use Rattle.merge_model.specs.World.{Saying}
use Rattle.merge_pub.specs.Uploaded.{acted_tables, arrival_of, asked_on, decided_on, none_acted, taken_tables, upload_by}
use Rattle.merge_steps.specs.Uploading.{AskedSome, Pass, acts_in, after_items, pass_at, questions_in, seen_by, seen_with, sites_with, state_with}
use Rattle.merge_steps.specs.declared.acting.Acting.{Acting}
use Rattle.merge_steps.specs.declared.acting.Arrival.{Arrival}
use Rattle.merge_pub.proofs.Asked.{made-unless, refused-unless}
use Rattle.merge_pub.proofs.UploadPass.{passed, questions-same, with_acts_from}

module _ (publication : Publication) (now : Moment) (m : Upload) (p : PublisherTables) where
  abbrev the_arrival : Arrival
  the_arrival = arrival_of now m p

  abbrev acts_with : ℕ → List Decision → List UploadItem → List Act
  acts_with number decisions items = acts_from (by_numbers p) m.site (at_moment now p) number decisions (filter (acts_in the_arrival) items)

  -- What the sites have.

  abbrev most_of : ℕ → List Act → ℕ → ℕ
  most_of site acts seen = fold (λ (most : ℕ) (act : Act). max most (number_of act.incoming.lineage site)) seen acts

  seen-cons : (site number : ℕ) (decisions : List Decision) (item : UploadItem) (items : List UploadItem) (b : Bool) → acts_in the_arrival item ≡ b
      → ((n : ℕ) (ds : List Decision) (seen : ℕ) → fold (seen_with the_arrival site) seen items ≡ most_of site (acts_with n ds items) seen)
      → (seen : ℕ) → fold (seen_with the_arrival site) seen (item ∷ items) ≡ most_of site (acts_with number decisions (item ∷ items)) seen
  seen-cons site number decisions item items false is goes seen = rw is (goes number decisions seen)
  seen-cons site number decisions item items true is goes seen =
      let act : Act = act_of (by_numbers p) m.site (at_moment now p) number decisions item in
      rw is (goes (number + made_by act.fate) (left_by act.fate decisions) (max seen (number_of item.version.lineage site)))

  seen-same : (site : ℕ) (items : List UploadItem) (number : ℕ) (decisions : List Decision) (seen : ℕ) → fold (seen_with the_arrival site) seen items ≡ most_of site (acts_with number decisions items) seen
  seen-same site [] number decisions seen = refl
  seen-same site (item ∷ items) number decisions seen = seen-cons site number decisions item items (acts_in the_arrival item) refl (λ n ds s. seen-same site items n ds s) seen

  seen-all : (site number : ℕ) (decisions : List Decision) (seen : ℕ) → seen_by the_arrival m.items site seen ≡ seen_in (acts_with number decisions m.items) site seen
  unfolding seen_by
  seen-all site number decisions seen = seen-same site m.items number decisions seen

  taken-entry : (b : Bool) (site : ℕ) (state : SiteState) → (let entry : ℕ × SiteState = (site, (let s : SiteState = if b then record state { received = m.to; received_number = m.through } else state in s)) in entry) ≡ (let entry : ℕ × SiteState = if b then (site, record state { received = m.to; received_number = m.through }) else (site, state) in entry)
  taken-entry true site state = refl
  taken-entry false site state = refl

  sites-same : (number : ℕ) (decisions : List Decision) (sites : List (ℕ × SiteState)) → sites_with the_arrival m sites ≡ with_taken m (map (state_seeing (acts_with number decisions m.items)) sites)
  sites-same number decisions [] = refl
  sites-same number decisions (entry ∷ sites) =
      let most : ℕ = seen_in (acts_with number decisions m.items) entry.0 entry.1.seen in
      ap (λ (seen : ℕ). (entry.0, (let s : SiteState = if entry.0 == m.site.0 then record entry.1 { seen = seen; received = m.to; received_number = m.through } else record entry.1 { seen = seen } in s)) ∷ sites_with the_arrival m sites) (seen-all entry.0 number decisions entry.1.seen)
      ∙ ap (λ (e : ℕ × SiteState). e ∷ sites_with the_arrival m sites) (taken-entry (entry.0 == m.site.0) entry.0 (record entry.1 { seen = most }))
      ∙ ap (λ (es : List (ℕ × SiteState)). (let e : ℕ × SiteState = if entry.0 == m.site.0 then (entry.0, record entry.1 { seen = most; received = m.to; received_number = m.through }) else (entry.0, record entry.1 { seen = most }) in e) ∷ es) (sites-same number decisions sites)

  module _ (says : Saying) (tallies : List ℕ) where
    abbrev pub the_decisions : List Decision
    the_decisions = kept_decisions says tallies (upload_questions publication (by_numbers p) now m p)

    abbrev pub the_acts : List Act
    the_acts = acts_of (by_numbers p) m the_decisions (at_moment now p)

    abbrev all_questions : List Question
    all_questions = questions_in publication p.rows the_arrival m.items

    pub asked-same : all_questions ≡ upload_questions publication (by_numbers p) now m p
    asked-same = questions-same publication now m p says m.items

    -- the pass over all items
    pub whole-pass : after_items publication p.rows the_arrival says (pass_at (none_acted p) tallies) m.items
        ≡ pass_at (with_acts_from publication now m p says (none_acted p) the_acts) (tallies_after tallies (asked_on publication now m p))
    whole-pass = passed publication now m p says m.items (none_acted p) tallies
        ∙ ap (λ (questions : List Question). pass_at (with_acts_from publication now m p says (none_acted p) (acts_with (p.changes + 1) (kept_decisions says tallies questions) m.items)) (tallies_after tallies (map asked_of questions))) asked-same

    pub acting-whole : (acting : Acting) (after : List ℕ) → pass_at acting after ≡ after_items publication p.rows the_arrival says (pass_at (none_acted p) tallies) m.items
        → acting ≡ with_acts_from publication now m p says (none_acted p) the_acts
    acting-whole acting after is = ap (λ (pass : Pass). pass.acting) (is ∙ whole-pass)

    pub tallies-whole : (acting : Acting) (after : List ℕ) → pass_at acting after ≡ after_items publication p.rows the_arrival says (pass_at (none_acted p) tallies) m.items → after ≡ tallies_after tallies (asked_on publication now m p)
    tallies-whole acting after is = ap (λ (pass : Pass). pass.tallies) (is ∙ whole-pass)

    acted-same : acted_tables publication (by_numbers p) the_arrival m (with_acts_from publication now m p says (none_acted p) the_acts) p ≡ taken_in publication (by_numbers p) m the_acts (at_moment now p)
    acted-same = ap (λ (sites : List (ℕ × SiteState)). changed_by publication (by_numbers p) (changing_by m the_acts) (record (with_acts publication m the_acts (at_moment now p)) { sites = sites })) (sites-same (p.changes + 1) the_decisions p.sites)

    taken-same : (b : Bool) → (let a : PublisherTables = if b then acted_tables publication (by_numbers p) the_arrival m (with_acts_from publication now m p says (none_acted p) the_acts) p else record p { latest = later now p.latest } in a)
        ≡ (let a : PublisherTables = if b then taken_in publication (by_numbers p) m the_acts (at_moment now p) else at_moment now p in a)
    taken-same true = acted-same
    taken-same false = refl

    tables-same : (acting : Acting) → acting ≡ with_acts_from publication now m p says (none_acted p) the_acts → taken_tables publication (by_numbers p) the_arrival m acting p ≡ tables_after_upload publication (by_numbers p) m the_decisions (at_moment now p)
    unfolding taken_tables
    tables-same acting is = ap (λ (a : Acting). (let q : PublisherTables = if nat_lt the_arrival.received m.to then acted_tables publication (by_numbers p) the_arrival m a p else record p { latest = the_arrival.moment } in q)) is ∙ taken-same (nat_lt the_arrival.received m.to)

    made-here : (acting : Acting) (after : List ℕ) (p' : PublisherTables) → None ≡ upload_refusal publication (by_numbers p) now m p
        → pass_at acting after ≡ after_items publication p.rows the_arrival says (pass_at (none_acted p) tallies) m.items → p' ≡ taken_tables publication (by_numbers p) the_arrival m acting p
        → upload_by publication says tallies now m p ≡ Ok (p', record { seq = m.seq; received = max m.to the_arrival.received })
    made-here acting after p' none pass made =
        made-unless (upload_refusal publication (by_numbers p) now m p) (tables_after_upload publication (by_numbers p) m the_decisions (at_moment now p), record { seq = m.seq; received = max m.to the_arrival.received }) none
        ∙ ap (λ (q : PublisherTables). (let done : Result (PublisherTables × Uploaded) Refusal = Ok (q, record { seq = m.seq; received = max m.to the_arrival.received }) in done)) (sym (made ∙ tables-same acting (acting-whole acting after pass)))

-- the upload is made
pub upload-made : (publication : Publication) (now : Moment) (m : Upload) (p p' : PublisherTables) (says : Saying) (tallies after : List ℕ) (arrival : Arrival) (acting : Acting) (reply : Uploaded)
    → None ≡ upload_refusal publication (by_numbers p) now m p → arrival ≡ arrival_of now m p → pass_at acting after ≡ after_items publication p.rows arrival says (pass_at (none_acted p) tallies) m.items
    → p' ≡ taken_tables publication (by_numbers p) arrival m acting p → reply ≡ record { seq = m.seq; received = max m.to arrival.received } → upload_by publication says tallies now m p ≡ Ok (p', reply)
upload-made publication now m p p' says tallies after arrival acting reply none is pass made told =
    made-here publication now m p says tallies acting after p' none
    (subst (λ (a : Arrival). pass_at acting after ≡ after_items publication p.rows a says (pass_at (none_acted p) tallies) m.items) is pass)
    (subst (λ (a : Arrival). p' ≡ taken_tables publication (by_numbers p) a m acting p) is made)
    ∙ ap (λ (r : Uploaded). (let done : Result (PublisherTables × Uploaded) Refusal = Ok (p', r) in done)) (sym (subst (λ (a : Arrival). reply ≡ record { seq = m.seq; received = max m.to a.received }) is told))

-- or it is refused, whatever would be decided
pub upload-refused : (publication : Publication) (now : Moment) (m : Upload) (p : PublisherTables) (says : Saying) (tallies : List ℕ) (why : Refusal) → Some why ≡ upload_refusal publication (by_numbers p) now m p → upload_by publication says tallies now m p ≡ Err why
upload-refused publication now m p says tallies why some =
    refused-unless (upload_refusal publication (by_numbers p) now m p) (tables_after_upload publication (by_numbers p) m (kept_decisions says tallies (upload_questions publication (by_numbers p) now m p)) (at_moment now p), record { seq = m.seq; received = max m.to (arrival_of now m p).received }) why some

ok-not-err : {A : Type 0} (done : A) (why : Refusal) → Ok done ≡ Err why → ⊥
ok-not-err done why is = cc

-- one that nothing refuses is not
pub upload-allowed : (publication : Publication) (now : Moment) (m : Upload) (p : PublisherTables) (says : Saying) (tallies : List ℕ) (why : Refusal) → None ≡ upload_refusal publication (by_numbers p) now m p → upload_by publication says tallies now m p ≡ Err why → ⊥
upload-allowed publication now m p says tallies why none refused =
    let made = made-unless {A = PublisherTables × Uploaded} (upload_refusal publication (by_numbers p) now m p) (tables_after_upload publication (by_numbers p) m (kept_decisions says tallies (upload_questions publication (by_numbers p) now m p)) (at_moment now p), record { seq = m.seq; received = max m.to (arrival_of now m p).received }) none in
    ok-not-err _ why (sym made ∙ refused)

-- how often resolvers were asked
pub upload-asked : (publication : Publication) (now : Moment) (m : Upload) (p : PublisherTables) (says : Saying) (tallies after : List ℕ) (arrival : Arrival) (acting : Acting) → arrival ≡ arrival_of now m p
    → pass_at acting after ≡ after_items publication p.rows arrival says (pass_at (none_acted p) tallies) m.items → after ≡ tallies_after tallies (asked_on publication now m p)
upload-asked publication now m p says tallies after arrival acting is pass =
    tallies-whole publication now m p says tallies acting after (subst (λ (a : Arrival). pass_at acting after ≡ after_items publication p.rows a says (pass_at (none_acted p) tallies) m.items) is pass)

-- what was decided
pub upload-decided : (publication : Publication) (now : Moment) (m : Upload) (p : PublisherTables) (says : Saying) (tallies : List ℕ) (arrival : Arrival) (ds acted : List Decision) → arrival ≡ arrival_of now m p
    → ds ≡ acted → acted ≡ kept_decisions says tallies (questions_in publication p.rows arrival m.items) → ds ≡ decided_on publication says tallies now m p
upload-decided publication now m p says tallies arrival ds acted is same decided =
    same ∙ decided
    ∙ ap (λ (a : Arrival). kept_decisions says tallies (questions_in publication p.rows a m.items)) is
    ∙ ap (λ (questions : List Question). kept_decisions says tallies questions) (asked-same publication now m p says tallies)

pub upload-some : (publication : Publication) (now : Moment) (m : Upload) (p : PublisherTables) (says : Saying) (tallies after : List ℕ) (arrival : Arrival) → arrival ≡ arrival_of now m p
    → AskedSome tallies after (questions_in publication p.rows arrival m.items) → (n : ℕ) × (after ≡ tallies_after tallies (take n (asked_on publication now m p)))
upload-some publication now m p says tallies after arrival is some =
    subst (λ (questions : List Question). AskedSome tallies after questions) (ap (λ (a : Arrival). questions_in publication p.rows a m.items) is ∙ asked-same publication now m p says tallies) some
