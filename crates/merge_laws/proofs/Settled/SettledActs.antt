-- What each step of the publisher does for a site: rows stay as they were, or are touched behind what had closed.
use Rattle.std.specs.Prelude.{◌≡◌, ◌≤◌, ◌<◌, ◌==◌, ◌&&◌, ◌||◌, ◌⊎◌, ℕ, List, [], ◌∷◌, Bool, true, false, None, refl, if◌then◌else◌, cond, filter, is_some, map, nat_le, not}
use Rattle.std.proofs.Common.{arith, inl, inr, subst, sym, ap, ◌∙◌}
use Rattle.std.proofs.lemmas.Bool.Decides.{nat_tests}
use Rattle.merge_types.specs.declared.changes.Change.{Change}
use Rattle.merge_types.specs.declared.identifiers.SiteId.{SiteId}
use Rattle.merge_units.specs.declared.result.Decision.{Decision}
use Rattle.merge_ident.specs.declared.grants.GrantPlan.{GrantPlan}
use Rattle.merge_schema.specs.declared.publication.Publication.{Publication}
use Rattle.merge_schema.specs.Places.{is_subscription}
use Rattle.merge_batch.specs.declared.refusal.Refusal.TheVariants.{Gap, UnknownSite}
use Rattle.merge_batch.specs.declared.request.Download.{Download}
use Rattle.merge_batch.specs.declared.request.Join.{Join}
use Rattle.merge_batch.specs.declared.request.Upload.{Upload}
use Rattle.merge_batch.specs.declared.request.UploadItem.{UploadItem}
use Rattle.merge_model.specs.Publisher.Acts.{acts_of, key_of_item}
use Rattle.merge_model.specs.Judge.ByHistory.{by_past}
use Rattle.merge_model.specs.Judge.ByNumbers.{received_by_number}
use Rattle.merge_model.specs.History.{History, MadeChange, Past, is_done}
use Rattle.merge_model.specs.Judge.{PublisherJudge}
use Rattle.merge_model.specs.Tables.Keys.{at_number, has_key}
use Rattle.merge_model.specs.Laws.{AreSorted}
use Rattle.merge_model.specs.History.Model.{Model}
use Rattle.merge_model.specs.Laws.Promises.{base_of, is_expired_at, watermark_of}
use Rattle.merge_model.specs.Publisher.{last_closed, later, site_refusal, tables_after_close, unknown_site}
use Rattle.merge_model.specs.Publisher.PublisherDownload.{download_refusal, tables_after_download}
use Rattle.merge_model.specs.Publisher.PublisherJoin.{join_taken}
use Rattle.merge_model.specs.Publisher.PublisherLocal.{Drawn, made_locally}
use Rattle.merge_model.specs.Publisher.PublisherPurge.{purge}
use Rattle.merge_model.specs.Publisher.PublisherRanges.{with_grants}
use Rattle.merge_model.specs.Publisher.PublisherUpload.{taken_in, upload_refusal}
use Rattle.merge_model.specs.Tables.Refusals.{refused_if}
use Rattle.merge_types.specs.declared.row_key.RowKey.{RowKey as Key}
use Rattle.merge_model.specs.Tables.{PublisherTables, SubscriberTables}
use Rattle.merge_model.specs.World.{Saying, World}
use Rattle.merge_model.proofs.Publishers.Sorted.{closed_filling-rises}
use Rattle.merge_laws.specs.Facts.Settled.{SendsChanged, TouchedInOrder, changed_of, has_item, is_expired_by, site_view, touched_at}
use Rattle.merge_laws.proofs.Received.Arrivals.{not-refused, upload-known}
use Rattle.merge_model.proofs.Runs.Refusals.{first-none}
use Rattle.merge_laws.proofs.Received.BehindKept.{upload-sets}
use Rattle.merge_laws.proofs.Runs.Ground.{Ground}
use Rattle.merge_laws.proofs.Purges.PurgeModels.{old-is-past}
use Rattle.merge_laws.proofs.Received.Publishing.{asked-same, joined-received, upload-received}
use Rattle.merge_laws.proofs.Settled.SettledExpired.{expired-later, live-asked, live-here, live-joined, live-uploaded}
use Rattle.merge_laws.proofs.Settled.SettledSeen.{Forgets, Onward}
use Rattle.merge_laws.proofs.Settled.SettledSent.{up-to}
use Rattle.merge_laws.proofs.Received.Subscribing.{number-decided, same_number}
use Rattle.merge_laws.proofs.Numbered.Telling.{decided}
use Rattle.merge_laws.proofs.Touched.TouchTables.{IsForgotten, StaysAs, Touches, asked-touches, closed-touches, granted-touches, item-touched, joined-other, joined-owed, made-touches, moment-touches, purge-owed, purge-touched, taken-touches}
use Rattle.merge_laws.proofs.Walking.{here}
use Rattle.merge_laws.proofs.Received.Worlds.{no-gap}

touch-within : (publication : Publication) (p q : PublisherTables) (site : SiteId) (key : Key) → Touches publication p q site key → touched_at publication q site key ≤ last_closed p → StaysAs publication p q site key
touch-within publication p q site key (inl stays) low = stays
touch-within publication p q site key (inr above) low = absurd (omega (arith, above, low))

-- a step by which no generation of the site acts
touch-onward : (publication : Publication) (p q : PublisherTables) (made : List MadeChange) (n : ℕ) → (is_expired_by publication q n ≡ false → is_expired_by publication p n ≡ false) → last_closed p ≤ last_closed q → received_by_number q n ≡ received_by_number p n
    → ((key : Key) → Touches publication p q (record { 0 = n }) key) → Onward (site_view publication p made n) (site_view publication q made n)
touch-onward publication p q made n live closed received touches = record {
  live = live;
  closed = closed;
  changed = λ key. refl;
  taken = λ key up low. omega (arith, up, received);
  touched = λ key low. (touch-within publication p q (record { 0 = n }) key (touches key) low).2;
  owed = λ key low. (touch-within publication p q (record { 0 = n }) key (touches key) low).1;
}

-- An item whose generation has not acted is among those that act.

not-this : (acted : ℕ → Bool) (item : UploadItem) (items : List UploadItem) (key : Key) (generation : ℕ) → not (acted item.generation) ≡ false → acted generation ≡ false → has_item (item ∷ items) key generation ≡ true → has_item items key generation ≡ true
not-this acted item items key generation is new has = decided (item.generation == generation) (item.generation == generation) (has_item items key generation ≡ true) refl
    (λ same. (let e : item.generation ≡ generation = grind (arith, nat_tests, same) in let other = ap acted e in absurd (grind (arith, is, new, other))))
    (λ differs. grind (arith, has, differs))

acting-step : (acted : ℕ → Bool) (item : UploadItem) (items : List UploadItem) (key : Key) (generation : ℕ) (kept : Bool) → not (acted item.generation) ≡ kept → acted generation ≡ false
    → (has_item items key generation ≡ true → has_key (map key_of_item (filter (λ (x : UploadItem). not (acted x.generation)) items)) key ≡ true) → has_item (item ∷ items) key generation ≡ true
    → (let all : List UploadItem = cond kept (item ∷ filter (λ (x : UploadItem). not (acted x.generation)) items) (filter (λ (x : UploadItem). not (acted x.generation)) items) in has_key (map key_of_item all) key ≡ true)
acting-step acted item items key generation true is new each has = grind (arith, nat_tests, each, has)
acting-step acted item items key generation false is new each has = each (not-this acted item items key generation is new has)

acting-has : (acted : ℕ → Bool) (items : List UploadItem) (key : Key) (generation : ℕ) → acted generation ≡ false → has_item items key generation ≡ true → has_key (map key_of_item (filter (λ (item : UploadItem). not (acted item.generation)) items)) key ≡ true
acting-has acted [] key generation new has = absurd (grind (arith, has))
acting-has acted (item ∷ items) key generation new has = acting-step acted item items key generation (not (acted item.generation)) refl new (λ rest. acting-has acted items key generation new rest) has

module _ (publication : Publication) (says : Saying) (w : World) (h : History) (g : Ground publication w h) where
  abbrev p : PublisherTables
  p = w.publisher

  sorted-here : AreSorted (here w)
  sorted-here = record { rows_ascend = g.sorted.rows_ascend; mappings_ascend = g.sorted.mappings_ascend; sites_ascend = g.sorted.sites_ascend; generations_ascend = g.sorted.generations_ascend }

  pub here-onward : (made : List MadeChange) (n : ℕ) → Onward (site_view publication p made n) (site_view publication (here w) made n)
  here-onward made n = touch-onward publication p (here w) made n (live-here publication w n) (omega arith) refl (λ key. moment-touches publication w.moment p (record { 0 = n }) key)

  pub own-onward : (judge : PublisherJudge) (change : Change) (d : Drawn) (made : List MadeChange) (n : ℕ) → Onward (site_view publication p made n) (site_view publication (made_locally publication judge change d (here w)).0 made n)
  own-onward judge change d made n = touch-onward publication p (made_locally publication judge change d (here w)).0 made n (live-here publication w n) (omega arith) refl
      (λ key. made-touches publication judge change d (here w) g.valid sorted-here (record { 0 = n }) key)

  pub closing-onward : (made : List MadeChange) (n : ℕ) → Onward (site_view publication p made n) (site_view publication (tables_after_close (here w)) made n)
  closing-onward made n = touch-onward publication p (tables_after_close (here w)) made n (live-here publication w n) (closed_filling-rises p.gens.filling) refl (λ key. closed-touches publication (here w) (record { 0 = n }) key)

  pub granted-onward : (planned : List GrantPlan) (made : List MadeChange) (n : ℕ) → Onward (site_view publication p made n) (site_view publication (with_grants planned (here w)) made n)
  granted-onward planned made n = touch-onward publication p (with_grants planned (here w)) made n (live-here publication w n) (omega arith) refl (λ key. granted-touches publication planned (here w) (record { 0 = n }) key)

  pub asked-onward : (m : Download) → download_refusal publication w.moment m p ≡ None → (made : List MadeChange) (n : ℕ) → Onward (site_view publication p made n) (site_view publication (tables_after_download m (here w)) made n)
  asked-onward m fine made n = touch-onward publication p (tables_after_download m (here w)) made n (live-asked publication w m n (n == m.site.0) (number-decided n m.site.0) fine) (closed_filling-rises p.gens.filling) ((asked-same m (here w)).received n)
      (λ key. asked-touches publication m (here w) (record { 0 = n }) key)

  -- a join of another site
  pub join-onward : (m : Join) (made : List MadeChange) (n : ℕ) → (n ≡ m.site.0 → ⊥) → Onward (site_view publication p made n) (site_view publication (join_taken m (here w)) made n)
  join-onward m made n differs =
      let received : received_by_number (join_taken m (here w)) n ≡ received_by_number p n = joined-received m (here w) n false differs in record {
        live = live-joined publication w m n differs;
        closed = omega arith;
        changed = λ key. refl;
        taken = λ key up low. omega (arith, up, received);
        touched = λ key low. joined-other publication m (here w) sorted-here (record { 0 = n }) differs key;
        owed = λ key low. joined-owed publication m (here w) (record { 0 = n }) key;
      }

  -- An upload.
  module _ (incoming : List (Key × Past)) (m : Upload) (decisions : List Decision) (fine : upload_refusal publication (by_past h incoming) w.moment m p ≡ None) where
    abbrev judge : PublisherJudge
    judge = by_past h incoming

    abbrev q : PublisherTables
    q = taken_in publication judge m (acts_of judge m decisions (here w)) (here w)

    subscribes : is_subscription publication m.site.0 ≡ true
    subscribes =
        let all = first-none (site_refusal publication m.site m.seq w.moment p) _ fine in
        let site = first-none (unknown_site publication m.site) _ all.0 in
        let known : not (is_subscription publication m.site.0) ≡ false = not-refused (not (is_subscription publication m.site.0)) (UnknownSite m.site) site.0 in
        grind (arith, known)

    begins : m.from ≤ received_by_number p m.site.0
    begins = no-gap h p m.site.0 m.from g.received.done (
        let all = first-none (site_refusal publication m.site m.seq w.moment p) _ fine in
        let gap = first-none (refused_if (judge.is_gap m.site.0 m.from) (Gap m.from (judge.received m.site.0))) _ all.1 in
        not-refused (judge.is_gap m.site.0 m.from) (Gap m.from (judge.received m.site.0)) gap.0)

    touches : (n : ℕ) (key : Key) → Touches publication p q (record { 0 = n }) key
    touches n key = taken-touches publication judge m (acts_of judge m decisions (here w)) (here w) g.valid sorted-here (record { 0 = n }) key

    not-acted : (generation : ℕ) → received_by_number p m.site.0 < generation → is_done h m.site.0 generation ≡ false
    not-acted generation above = g.received.done m.site.0 generation (omega (arith, above)) ∙ (let later : nat_le generation (received_by_number p m.site.0) ≡ false = grind (arith, nat_tests, above) in later)

    -- what acts of the uploader is told behind what had closed
    acted-before : (made : List MadeChange) → SendsChanged (changed_of made) m → (key : Key) → changed_of made key ≤ m.to → touched_at publication q m.site key ≤ last_closed p → changed_of made key ≤ received_by_number p m.site.0
    acted-before made sends key up low = up-to (changed_of made key) (received_by_number p m.site.0) (λ above. (
        let has = sends.items key (let from = begins in omega (arith, from, above)) up in
        let acts = acting-has (judge.has_acted m.site.0) m.items key (changed_of made key) (not-acted (changed_of made key) above) has in
        let told = item-touched publication judge m decisions (here w) g.valid sorted-here subscribes key acts in
        omega (arith, told, low)))

    other-received : (n : ℕ) → (n ≡ m.site.0 → ⊥) → received_by_number q n ≡ received_by_number p n
    other-received n differs = upload-received m (acts_of judge m decisions (here w)) p.sites n
        ∙ ap (λ (b : Bool). if b then m.to else received_by_number p n) (let other : ((n == m.site.0) && is_some (at_number p.sites n)) ≡ false = grind (arith, nat_tests, differs) in other)

    sets : received_by_number q m.site.0 ≡ m.to
    sets = upload-sets publication says w m (acts_of judge m decisions (here w)) judge (upload-known publication judge w.moment m p fine).0

    own-upload : (made : List MadeChange) → SendsChanged (changed_of made) m → Onward (site_view publication p made m.site.0) (site_view publication q made m.site.0)
    own-upload made sends = record {
      live = live-uploaded publication w judge m (acts_of judge m decisions (here w)) m.site.0;
      closed = omega arith;
      changed = λ key. refl;
      taken = λ key up low. acted-before made sends key (let is = sets in omega (arith, up, is)) low;
      touched = λ key low. (touch-within publication p q m.site key (touches m.site.0 key) low).2;
      owed = λ key low. (touch-within publication p q m.site key (touches m.site.0 key) low).1;
    }

    pub upload-onward : (made : List MadeChange) (n : ℕ) (b : Bool) → same_number n m.site.0 b → (n ≡ m.site.0 → SendsChanged (changed_of made) m) → Onward (site_view publication p made n) (site_view publication q made n)
    upload-onward made n true same sends = subst (λ (k : ℕ). Onward (site_view publication p made k) (site_view publication q made k)) (sym same) (own-upload made (sends same))
    upload-onward made n false differs sends =
        touch-onward publication p q made n (live-uploaded publication w judge m (acts_of judge m decisions (here w)) n) (omega arith) (other-received n differs) (touches n)

  -- A purge.
  module _ (made : List MadeChange) (n : ℕ) (s : SubscriberTables) (order : TouchedInOrder publication p (base_of h (record { 0 = n })) (record { 0 = n })) (held : watermark_of w (record { 0 = n }) ≤ s.watermark) where
    abbrev site : SiteId
    site = record { 0 = n }

    abbrev after : PublisherTables
    after = (purge publication w.moment p).0

    abbrev Forgot : Key → Type 0
    Forgot key = IsForgotten publication w.moment p site key

    lower-by : (key : Key) → (touched_at publication after site key ≡ touched_at publication p site key) ⊎ Forgot key → touched_at publication after site key ≤ touched_at publication p site key
    lower-by key (inl same) = omega (arith, same)
    lower-by key (inr forgot) = (let none = forgot.1 in omega (arith, none))

    in-time : is_expired_by publication after n ≡ false → is_expired_at publication w site ≡ false
    in-time live = expired-later publication w.moment (later w.moment p.latest) (at_number p.sites n) (grind (arith, nat_tests)) live

    past-or : (generation watermark base mark : ℕ) → nat_le generation watermark || nat_le generation base ≡ true → watermark ≤ mark → mark < generation → base < generation → ⊥
    past-or generation watermark base mark past low above later = grind (arith, nat_tests, past, low, above, later)

    dropped-by : (key : Key) → (touched_at publication after site key ≡ touched_at publication p site key) ⊎ Forgot key → is_expired_by publication after n ≡ false → s.watermark < touched_at publication p site key
        → touched_at publication after site key ≡ touched_at publication p site key
    dropped-by key (inl same) live above = same
    dropped-by key (inr forgot) live above =
        let m : Model = record { world = w; history = h } in
        let past = (old-is-past publication m g.in_step site (touched_at publication p site key) (in-time live) forgot.2).reached in
        let later = order.left key forgot.0 (omega (arith, above)) in
        absurd (past-or (touched_at publication p site key) (watermark_of w site) (base_of h site) s.watermark past held above later)

    pub purge-forgets : Forgets (site_view publication p made n) (site_view publication after made n) s.watermark
    purge-forgets = record {
      live = live-here publication w n;
      received = refl;
      owed = λ key. purge-owed publication w.moment p g.sorted site key;
      lower = λ key. lower-by key (purge-touched publication w.moment p g.sorted site key);
      dropped = λ live key above. dropped-by key (purge-touched publication w.moment p g.sorted site key) live above;
    }
