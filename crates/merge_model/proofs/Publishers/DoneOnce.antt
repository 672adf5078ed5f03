-- No generation acts twice.
use Rattle.std.specs.Prelude.{◌≡◌, ◌≤◌, ◌+◌, ◌-◌, ◌<◌, ◌==◌, ◌&&◌, ℕ, zero, suc, List, [], ◌∷◌, ◌++◌, Bool, true, false, not, Option, Some, None, Result, Ok, Err, refl, if◌then◌else◌, map, filter, count_by, cond, flat_map}
use Rattle.std.specs.List.{fold, range_with_len, list_any, list_all}
use Rattle.std.proofs.Common.{arith, sym, subst, ap, ◌∙◌}
use Rattle.std.proofs.lemmas.Bool.Decides.{nat_tests}
use Rattle.std.proofs.lemmas.List.Sums.{sum_by-cons, sum_by-append}
use Rattle.merge_types.specs.declared.identifiers.SiteId.{SiteId}
use Rattle.merge_types.specs.declared.changes.Change.{Change}
use Rattle.merge_types.specs.declared.values.Value.{Value}
use Rattle.merge_types.specs.declared.identifiers.Dot.{Dot}
use Rattle.merge_units.specs.declared.version.Version.{Version}
use Rattle.merge_units.specs.declared.case.Case.{Case}
use Rattle.merge_units.specs.declared.result.Decision.{Decision}
use Rattle.merge_units.specs.declared.result.Decision.TheVariants.{KeepPublisher, TakeSubscriber, Custom}
use Rattle.merge_batch.specs.declared.refusal.Refusal.{Refusal}
use Rattle.merge_ident.specs.Holders.{Holder}
use Rattle.merge_batch.specs.declared.reply.Act.{Act as Order}
use Rattle.merge_batch.specs.declared.reply.Act.TheVariants as order
use Rattle.merge_batch.specs.declared.request.Join.{Join}
use Rattle.merge_batch.specs.declared.request.Upload.{Upload}
use Rattle.merge_batch.specs.declared.request.Request.{Request}
use Rattle.merge_batch.specs.declared.request.Request.TheVariants as request
use Rattle.merge_batch.specs.declared.reply.Reply.{Reply}
use Rattle.merge_batch.specs.declared.reply.Reply.TheVariants as reply
use Rattle.merge_batch.specs.declared.reply.DownloadItem.{DownloadItem}
use Rattle.merge_schema.specs.declared.publication.Publication.{Publication}
use Rattle.merge_model.specs.declared.event.Event.{Event}
use Rattle.merge_types.specs.declared.row_key.RowKey.{RowKey as Key}
use Rattle.merge_model.specs.Tables.{PublisherTables, SubscriberTables}
use Rattle.merge_model.specs.Judge.{PublisherJudge, SubscriberJudge}
use Rattle.merge_units.specs.Cases.{is_conflict}
use Rattle.merge_model.specs.Publisher.Acts.{Act, Fate, New, Unknown, Met, acts_of}
use Rattle.merge_model.specs.Publisher.Entries.{Entries}
use Rattle.merge_model.specs.Publisher.PublisherJoin.{join_acts}
use Rattle.merge_model.specs.Publisher.PublisherLocal.{draw_for_change, Drawn, next_dot}
use Rattle.merge_model.specs.Publisher.PublisherUpload.{brings_news}
use Rattle.merge_model.specs.Subscriber.{subscriber_drawn, subscriber_next_dot, subscriber_last_closed}
use Rattle.merge_model.specs.Publisher.{at_moment, last_closed}
use Rattle.merge_model.specs.Tables.Publications.{by_site}
use Rattle.merge_model.specs.Tables.Keys.{put_number}
use Rattle.merge_model.specs.History.Pasts.{past_by}
use Rattle.merge_model.specs.Subscriber.Taking.{key_of_download}
use Rattle.merge_model.specs.Subscriber.Reinit.{discarded_versions}
use Rattle.merge_model.specs.World.{World, Judges, Saying, letter_at, subscriber_at}
use Rattle.merge_model.specs.declared.letter.Letter.{Letter}
use Rattle.merge_model.specs.declared.letter.Message.{Message}
use Rattle.merge_model.specs.declared.letter.Message.TheVariants.{Asks, Replies}
use Rattle.merge_model.specs.World.Steps.{Action, Pass, Make, CloseAt, Send, Deliver, MakeAnew, Forget, Look, kept_decisions, upload_questions, step_by}
use Rattle.merge_model.specs.declared.outcome.Outcome.{Outcome}
use Rattle.merge_model.specs.declared.outcome.Outcome.TheVariants.{Posted}
use Rattle.merge_model.specs.History.{History, Past, Line, is_done, past_at, past_in, pasts_with}
use Rattle.merge_model.specs.History.Noting
use Rattle.merge_model.specs.History.Model.{Model, model, empty_model, model_step, with_posted, with_letter, noted_action, noted_if, did_something, noted_make, noted_letter, noted_request}
use Rattle.merge_model.specs.Judge.ByHistory.{by_history}
use Rattle.merge_model.specs.World.Events.{after}
use Rattle.merge_model.specs.Laws.Promises.{NoneActsTwice, is_generation_of, acting_generations}
use Rattle.merge_model.specs.Failing.{Slips, faulty}
use Rattle.merge_model.specs.Failing.Runs.{model_behind}
use Rattle.merge_model.proofs.Failing.KeptFailing.{runs-keep}

-- each of a site's generations comes at most once
abbrev pub Once : List (ℕ × ℕ) → Type 0
Once done = (site generation : ℕ) → count_by (is_generation_of site generation) done ≤ 1

counts-cons : {X : Type 0} (test : X → Bool) (x : X) (xs : List X) → count_by test (x ∷ xs) ≡ cond (test x) 1 0 + count_by test xs
counts-cons {X = X} test x xs = sum_by-cons (λ (y : X). cond (test y) 1 0) x xs

counts-append : {X : Type 0} (test : X → Bool) (xs ys : List X) → count_by test (xs ++ ys) ≡ count_by test xs + count_by test ys
counts-append {X = X} test xs ys = sum_by-append (λ (y : X). cond (test y) 1 0) xs ys

-- what is not among the generations that have acted is not counted
counted-done : (site generation : ℕ) (done : List (ℕ × ℕ)) → list_any (λ (entry : ℕ × ℕ). (entry.0 == site) && (entry.1 == generation)) done ≡ false → count_by (is_generation_of site generation) done ≡ 0
counted-done site generation [] e = refl
counted-done site generation (entry ∷ done) e = grind (arith, nat_tests, counted-done site generation done, counts-cons (is_generation_of site generation) entry done)

abbrev is_it : ℕ → ℕ → Bool
is_it generation g = g == generation

-- of a range each number comes once, and none before its begin
range-none : (from n generation : ℕ) → generation < from → count_by (is_it generation) (range_with_len from n) ≡ 0
range-none from zero generation below = refl
range-none from (suc n) generation below = grind (arith, nat_tests, range-none (from + 1) n generation, counts-cons (is_it generation) from (range_with_len (from + 1) n))

range-once : (from n generation : ℕ) → count_by (is_it generation) (range_with_len from n) ≤ 1
range-once from zero generation = omega arith
range-once from (suc n) generation = grind (arith, nat_tests, range-none (from + 1) n generation, range-once (from + 1) n generation, counts-cons (is_it generation) from (range_with_len (from + 1) n))

filter-step : (b : Bool) (test : ℕ → Bool) (x : ℕ) (kept xs : List ℕ) → count_by test kept ≤ count_by test xs → count_by test (cond b (x ∷ kept) kept) ≤ count_by test (x ∷ xs)
filter-step true test x kept xs h = omega (arith, counts-cons test x kept, counts-cons test x xs, h)
filter-step false test x kept xs h = omega (arith, counts-cons test x xs, h)

filter-fewer : (test keeps : ℕ → Bool) (xs : List ℕ) → count_by test (filter keeps xs) ≤ count_by test xs
filter-fewer test keeps [] = omega arith
filter-fewer test keeps (x ∷ xs) = filter-step (keeps x) test x (filter keeps xs) xs (filter-fewer test keeps xs)

none-step : (b : Bool) (generation x : ℕ) (kept : List ℕ) → (x ≡ generation → b ≡ false) → count_by (is_it generation) kept ≡ 0 → count_by (is_it generation) (cond b (x ∷ kept) kept) ≡ 0
none-step true generation x kept differs h = grind (arith, nat_tests, counts-cons (is_it generation) x kept, differs, h)
none-step false generation x kept differs h = h

filter-none : (keeps : ℕ → Bool) (generation : ℕ) (xs : List ℕ) → keeps generation ≡ false → count_by (is_it generation) (filter keeps xs) ≡ 0
filter-none keeps generation [] e = refl
filter-none keeps generation (x ∷ xs) e = none-step (keeps x) generation x (filter keeps xs) (λ same. ap keeps same ∙ e) (filter-none keeps generation xs e)

abbrev tag : ℕ → ℕ → ℕ × ℕ
tag site generation = (site, generation)

tagged-same : (site generation : ℕ) (xs : List ℕ) → count_by (is_generation_of site generation) (map (tag site) xs) ≡ count_by (is_it generation) xs
tagged-same site generation [] = refl
tagged-same site generation (x ∷ xs) = grind (arith, nat_tests, tagged-same site generation xs, counts-cons (is_generation_of site generation) (tag site x) (map (tag site) xs), counts-cons (is_it generation) x xs)

tagged-other : (site other generation : ℕ) (xs : List ℕ) → (other ≡ site → ⊥) → count_by (is_generation_of site generation) (map (tag other) xs) ≡ 0
tagged-other site other generation [] differs = refl
tagged-other site other generation (x ∷ xs) differs = grind (arith, nat_tests, tagged-other site other generation xs differs, counts-cons (is_generation_of site generation) (tag other x) (map (tag other) xs), differs)

-- generations join those that have acted where they are not among them

module _ (h : History) (site from to : ℕ) where
  abbrev added : List ℕ
  added = Noting.new_generations h site from to

  added-once : (generation : ℕ) → count_by (is_it generation) added ≤ 1
  added-once generation = omega (arith, filter-fewer (is_it generation) (λ (g : ℕ). not (is_done h site g)) (range_with_len (from + 1) (to - from)), range-once (from + 1) (to - from) generation)

  with-one : (generation : ℕ) (b : Bool) → is_done h site generation ≡ b → Once h.done → count_by (is_generation_of site generation) h.done + count_by (is_it generation) added ≤ 1
  with-one generation true e once =
      omega (arith, once site generation, filter-none (λ (g : ℕ). not (is_done h site g)) generation (range_with_len (from + 1) (to - from)) (ap not e))
  with-one generation false e once = omega (arith, counted-done site generation h.done e, added-once generation)

  with-any : (s generation : ℕ) (b : Bool) → (site == s) ≡ b → Once h.done → count_by (is_generation_of s generation) h.done + count_by (is_generation_of s generation) (map (tag site) added) ≤ 1
  with-any s generation true e once =
      let same : site ≡ s = grind (arith, nat_tests, e) in
      subst (λ (t : ℕ). count_by (is_generation_of t generation) h.done + count_by (is_generation_of t generation) (map (tag site) added) ≤ 1) same
      (omega (arith, with-one generation (is_done h site generation) refl once, tagged-same site generation added))
  with-any s generation false e once =
      let differs : site ≡ s → ⊥ = λ same. grind (arith, nat_tests, e, same) in
      omega (arith, once s generation, tagged-other s site generation added differs)

  with_done-once : Once h.done → Once (Noting.with_done site from to h).done
  with_done-once once s generation = omega (arith, counts-append (is_generation_of s generation) h.done (map (tag site) added), with-any s generation (site == s) refl once)

-- All else leaves them.

pub lines-done : (lines : List Line) (h : History) → (Noting.with_lines lines h).done ≡ h.done
lines-done [] h = refl
lines-done (line ∷ lines) h = lines-done lines (Noting.with_line h line)

loser-done : (decision : Decision) (key : Key) (ours theirs : Past) (h : History) → (Noting.with_loser decision key ours theirs h).done ≡ h.done
loser-done KeepPublisher key ours theirs h = refl
loser-done TakeSubscriber key ours theirs h = refl
loser-done (Custom values) key ours theirs h = refl

decided-done : (decision : Decision) (dot : Dot) (generation : ℕ) (key : Key) (case : Case) (past : Past) (h : History) → (Noting.with_decided decision dot generation key case past h).done ≡ h.done
decided-done KeepPublisher dot generation key case past h = refl
decided-done TakeSubscriber dot generation key case past h = refl
decided-done (Custom values) dot generation key case past h = refl

if-done : (b : Bool) (x y h : History) → x.done ≡ h.done → y.done ≡ h.done → (if b then x else y).done ≡ h.done
if-done true x y h first second = first
if-done false x y h first second = second

fate-done : (fate : Fate) (generation : ℕ) (key : Key) (incoming : Past) (h : History) → (Noting.with_fate fate generation key incoming h).done ≡ h.done
fate-done New generation key incoming h = refl
fate-done Unknown generation key incoming h = refl
fate-done (Met held case decision dot) generation key incoming h =
    let after : History = Noting.with_decided decision dot generation key case (past_by case decision dot (past_at h 0 key) incoming) h in
    if-done (is_conflict case) (Noting.with_loser decision key (past_at h 0 key) incoming after) after h
    (loser-done decision key (past_at h 0 key) incoming after ∙ decided-done decision dot generation key case (past_by case decision dot (past_at h 0 key) incoming) h)
    (decided-done decision dot generation key case (past_by case decision dot (past_at h 0 key) incoming) h)

pub acts-done : (incoming : List (Key × Past)) (entries : Entries) (acts : List Act) (h : History) → (fold (Noting.with_act incoming entries) h acts).done ≡ h.done
acts-done incoming entries [] h = refl
acts-done incoming entries (act ∷ acts) h = acts-done incoming entries acts (Noting.with_act incoming entries h act)
    ∙ fate-done act.fate (Noting.entry_generation entries act.key) act.key (past_in incoming act.key) h

order-done : (site : ℕ) (incoming : List (Key × Past)) (key : Key) (o : Order) (h : History) → (Noting.with_order_past site incoming key o h).done ≡ h.done
order-done site incoming key (order.Put lineage live) h = refl
order-done site incoming key order.RemoveDeleted h = refl
order-done site incoming key order.RemoveLeft h = refl

items-done : (judge : SubscriberJudge) (received site : ℕ) (incoming : List (Key × Past)) (items : List DownloadItem) (h : History) → (fold (Noting.with_item_past judge received site incoming) h items).done ≡ h.done
items-done judge received site incoming [] h = refl
items-done judge received site incoming (item ∷ items) h = items-done judge received site incoming items (Noting.with_item_past judge received site incoming h item)
    ∙ if-done (judge.is_unsent received (key_of_download item)) h (Noting.with_order_past site incoming (key_of_download item) item.act h) h refl (order-done site incoming (key_of_download item) item.act h)

reply-done : (judge : SubscriberJudge) (site : SiteId) (incoming : List (Key × Past)) (m : Reply) (h : History) → (Noting.noted_reply judge site incoming m h).done ≡ h.done
reply-done judge site incoming (reply.Downloaded m) h = items-done judge m.received site.0 incoming m.items h
reply-done judge site incoming (reply.Joined m) h = refl
reply-done judge site incoming (reply.Uploaded m) h = refl
reply-done judge site incoming (reply.Ranged m) h = refl
reply-done judge site incoming (reply.Refused number values) h = refl

discarded-done : (site : SiteId) (rows : List (Key × Version)) (h : History) → (fold (Noting.with_discarded site) h rows).done ≡ h.done
discarded-done site [] h = refl
discarded-done site (row ∷ rows) h = discarded-done site rows (Noting.with_discarded site h row)

purged-done : (keys : List Key) (h : History) → (fold Noting.with_purged h keys).done ≡ h.done
purged-done [] h = refl
purged-done (key ∷ keys) h = purged-done keys (Noting.with_purged h key)

-- What a step notes keeps each once.

abbrev same-once : (h k : History) → k.done ≡ h.done → Once h.done → Once k.done
same-once h k e once = subst (λ (done : List (ℕ × ℕ)). Once done) (sym e) once

publisher-done : (publication : Publication) (judge : PublisherJudge) (change : Change) (p : PublisherTables) (draw : Result Drawn Refusal) (h : History)
    → (let k : History = elim draw [
      | Err refusal ↦ h
      | Ok d ↦ Noting.with_lines (Noting.lines_of_entries (last_closed p + 1) (Noting.drawn_entries publication judge change p d)) (Noting.with_change publication (next_dot p) (last_closed p + 1) change d.value h)
    ] in k.done ≡ h.done)
publisher-done publication judge change p (Err refusal) h = refl
publisher-done publication judge change p (Ok d) h =
    lines-done (Noting.lines_of_entries (last_closed p + 1) (Noting.drawn_entries publication judge change p d)) (Noting.with_change publication (next_dot p) (last_closed p + 1) change d.value h)

subscriber-done : (publication : Publication) (change : Change) (s : SubscriberTables) (draw : Result (Value × List (ℕ × Holder)) Refusal) (h : History)
    → (let k : History = elim draw [
      | Err refusal ↦ h
      | Ok d ↦ Noting.with_change publication (subscriber_next_dot s) (subscriber_last_closed s + 1) change d.0 h
    ] in k.done ≡ h.done)
subscriber-done publication change s (Err refusal) h = refl
subscriber-done publication change s (Ok d) h = refl

made-done : (publication : Publication) (change : Change) (found : Option SubscriberTables) (h : History)
    → (let k : History = elim found [ None ↦ h | Some s ↦ Noting.noted_at_subscriber publication change s h ] in k.done ≡ h.done)
made-done publication change None h = refl
made-done publication change (Some s) h = subscriber-done publication change s (subscriber_drawn s change) h

pub make-done : (publication : Publication) (judges : Judges) (site : SiteId) (change : Change) (w : World) (h : History) → (noted_make publication judges site change w h).done ≡ h.done
make-done publication judges site change w h =
    if-done (site.0 == 0) (Noting.noted_at_publisher publication (judges.publisher 0) change (at_moment w.moment w.publisher) h)
    (let k : History = elim (subscriber_at w site) [ None ↦ h | Some s ↦ Noting.noted_at_subscriber publication change s h ] in k) h
    (publisher-done publication (judges.publisher 0) change (at_moment w.moment w.publisher) (draw_for_change publication (at_moment w.moment w.publisher) change) h)
    (made-done publication change (subscriber_at w site) h)

if-once : (b : Bool) (x y : History) → Once x.done → Once y.done → Once (if b then x else y).done
if-once true x y first second = first
if-once false x y first second = second

join-once : (judge : PublisherJudge) (m : Join) (p : PublisherTables) (h : History) → Once h.done → Once (Noting.noted_join judge m p h).done
join-once judge m p h once =
    let joined : History = record (Noting.with_done m.site.0 0 m.generation h) { bases = put_number h.bases m.site.0 (last_closed p) } in
    let lines : List Line = map (Noting.gone_line (last_closed p + 1)) (map (Noting.gone_for m.site) (Noting.left_rows judge m.site)) in
    if-once (join_acts m p) (Noting.with_lines lines joined) h
    (same-once joined (Noting.with_lines lines joined) (lines-done lines joined) (with_done-once h m.site.0 0 m.generation once)) once

upload-once : (publication : Publication) (judge : PublisherJudge) (m : Upload) (decisions : List Decision) (incoming : List (Key × Past)) (p : PublisherTables) (h : History) → Once h.done → Once (Noting.noted_upload publication judge m decisions incoming p h).done
upload-once publication judge m decisions incoming p h once =
    let acts : List Act = acts_of judge m decisions p in
    let entries : Entries = Noting.acts_entries publication judge m acts p in
    let acted : History = fold (Noting.with_act incoming entries) h acts in
    let lined : History = Noting.with_lines (Noting.lines_of_entries (last_closed p + 1) entries) acted in
    if-once (brings_news judge m) (Noting.with_acts_noted publication judge m acts incoming p h) h
    (with_done-once lined m.site.0 m.from m.to (same-once h lined (lines-done (Noting.lines_of_entries (last_closed p + 1) entries) acted ∙ acts-done incoming entries acts h) once)) once

request-once : (publication : Publication) (says : Saying) (judge : PublisherJudge) (incoming : List (Key × Past)) (w : World) (m : Request) (h : History) → Once h.done → Once (noted_request publication says judge incoming w m h).done
request-once publication says judge incoming w (request.Join m) h once = join-once judge m w.publisher h once
request-once publication says judge incoming w (request.Upload m) h once =
    upload-once publication judge m (kept_decisions says w.tallies (upload_questions publication judge w.moment m w.publisher)) incoming (at_moment w.moment w.publisher) h once
request-once publication says judge incoming w (request.Ranges m) h once = once
request-once publication says judge incoming w (request.Download m) h once = once

pub taker-done : (judges : Judges) (site : SiteId) (incoming : List (Key × Past)) (m : Reply) (found : Option SubscriberTables) (h : History)
    → (let k : History = elim found [ None ↦ h | Some s ↦ Noting.noted_reply (judges.subscriber site s) site incoming m h ] in k.done ≡ h.done)
taker-done judges site incoming m None h = refl
taker-done judges site incoming m (Some s) h = reply-done (judges.subscriber site s) site incoming m h

message-once : (publication : Publication) (says : Saying) (judges : Judges) (number : ℕ) (w : World) (site : SiteId) (message : Message) (h : History) → Once h.done
    → Once (noted_letter publication says judges number w (record { site = site; message = message }) h).done
message-once publication says judges number w site (Asks m) h once = request-once publication says (judges.publisher number) (pasts_with h number) w m h once
message-once publication says judges number w site (Replies m) h once = subst (λ (done : List (ℕ × ℕ)). Once done) (sym (taker-done judges site (pasts_with h number) m (subscriber_at w site) h)) once

letter-once : (publication : Publication) (says : Saying) (judges : Judges) (number : ℕ) (w : World) (found : Option Letter) (h : History) → Once h.done
    → (let k : History = elim found [ None ↦ h | Some letter ↦ noted_letter publication says judges number w letter h ] in Once k.done)
letter-once publication says judges number w None h once = once
letter-once publication says judges number w (Some letter) h once = message-once publication says judges number w letter.site letter.message h once

pub anew-done : (judges : Judges) (site : SiteId) (found : Option SubscriberTables) (h : History)
    → (let k : History = elim found [ None ↦ h | Some s ↦ Noting.noted_anew (judges.subscriber site s) s h ] in k.done ≡ h.done)
anew-done judges site None h = refl
anew-done judges site (Some s) h = discarded-done s.site (discarded_versions (judges.subscriber site s) s) h

pub purge-done : (publication : Publication) (judge : PublisherJudge) (p : PublisherTables) (h : History) → (Noting.noted_purge publication judge p h).done ≡ h.done
purge-done publication judge p h =
    let rows : List Key = Noting.old_tombstones publication p in
    let lines : List Line = map (Noting.gone_line (last_closed p + 1)) (flat_map (Noting.old_left publication judge p) (map Noting.site_of_subscription (by_site publication))) in
    lines-done lines (fold Noting.with_purged h rows) ∙ purged-done rows h

noted-once : (publication : Publication) (says : Saying) (judges : Judges) (w : World) (action : Action) (h : History) → Once h.done → Once (noted_action publication says judges w action h).done
noted-once publication says judges w (Pass seconds) h once = once
noted-once publication says judges w (Make site change) h once = same-once h (noted_make publication judges site change w h) (make-done publication judges site change w h) once
noted-once publication says judges w (CloseAt site) h once = once
noted-once publication says judges w (Send site sending) h once = once
noted-once publication says judges w (Deliver number) h once = letter-once publication says judges number w (letter_at w number) h once
noted-once publication says judges w (MakeAnew site) h once = subst (λ (done : List (ℕ × ℕ)). Once done) (sym (anew-done judges site (subscriber_at w site) h)) once
noted-once publication says judges w Forget h once = same-once h (Noting.noted_purge publication (judges.publisher 0) (at_moment w.moment w.publisher) h) (purge-done publication (judges.publisher 0) (at_moment w.moment w.publisher) h) once
noted-once publication says judges w Look h once = once

found-done : (found : Option Letter) (h : History) → (let k : History = elim found [ None ↦ h | Some letter ↦ with_letter letter h ] in k.done ≡ h.done)
found-done None h = refl
found-done (Some letter) h = refl

pub posted-done : (w : World) (outcome : Outcome) (h : History) → (with_posted w outcome h).done ≡ h.done
posted-done w (Posted number) h = found-done (letter_at w number) h
posted-done w outcome h = grind (arith)

if_noted-once : (b : Bool) (after before : History) → Once after.done → Once before.done → Once (noted_if b after before).done
if_noted-once true after before first second = first
if_noted-once false after before first second = second

pub step-once : (publication : Publication) (says : Saying) (m : Model) (action : Action) → Once m.history.done → Once (model_step publication says m action).0.history.done
step-once publication says m action once =
    let judges : Judges = by_history m.history in
    let done : World × Outcome = step_by publication says judges m.world action in
    let new : History = noted_action publication says judges m.world action m.history in
    let kept : History = noted_if (did_something done.1) new m.history in
    subst (λ (d : List (ℕ × ℕ)). Once d) (sym (posted-done done.0 done.1 kept))
    (if_noted-once (did_something done.1) new m.history (noted-once publication says judges m.world action m.history once) once)

pub none_acts_twice : (publication : Publication) (says : Saying) (tallies : List ℕ) (slips : Slips) (events : List Event) → NoneActsTwice (model_behind publication says tallies slips events)
none_acts_twice publication says tallies slips events =
    runs-keep publication (model publication says) (λ (m : Model). Once m.history.done) (λ m action h. step-once publication says m action h) (λ m others h. h) events (faulty (empty_model publication tallies) slips) (λ site generation. omega arith)

-- what a filter keeps passes its test
kept-step : (b : Bool) (keeps : ℕ → Bool) (x : ℕ) (kept : List ℕ) → keeps x ≡ b → list_all keeps kept ≡ true → list_all keeps (cond b (x ∷ kept) kept) ≡ true
kept-step true keeps x kept e h = grind (arith, e, h)
kept-step false keeps x kept e h = h

kept-all : (keeps : ℕ → Bool) (xs : List ℕ) → list_all keeps (filter keeps xs) ≡ true
kept-all keeps [] = refl
kept-all keeps (x ∷ xs) = kept-step (keeps x) keeps x (filter keeps xs) refl (kept-all keeps xs)

pub acting_are_new : (h : History) (m : Upload) → list_all (λ (generation : ℕ). not (is_done h m.site.0 generation)) (acting_generations h m) ≡ true
acting_are_new h m = kept-all (λ (generation : ℕ). not (is_done h m.site.0 generation)) (range_with_len (m.from + 1) (m.to - m.from))
