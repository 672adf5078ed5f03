-- Which values inserts took, as a step notes more: only a local insert takes one.
use Rattle.std.specs.Prelude.{◌≡◌, ◌==◌, ◌+◌, ◌&&◌, ◌∷◌, ℕ, ℤ, List, [], Bool, true, false, Option, Some, None, refl, if◌then◌else◌, map, flat_map, count_by, cond}
use Rattle.std.specs.List.{fold}
use Rattle.std.specs.Ordering.{int_eq}
use Rattle.std.proofs.Common.{arith, ap, ◌∙◌}
use Rattle.std.proofs.lemmas.Bool.Decides.{nat_tests}
use Rattle.merge_types.specs.declared.identifiers.Dot.{Dot}
use Rattle.merge_types.specs.declared.identifiers.SiteId.{SiteId}
use Rattle.merge_units.specs.declared.case.Case.{Case}
use Rattle.merge_units.specs.declared.result.Decision.{Decision}
use Rattle.merge_units.specs.declared.result.Decision.TheVariants.{Custom, KeepPublisher, TakeSubscriber}
use Rattle.merge_batch.specs.declared.reply.Reply.{Reply}
use Rattle.merge_batch.specs.declared.request.Join.{Join}
use Rattle.merge_batch.specs.declared.request.Upload.{Upload}
use Rattle.merge_schema.specs.declared.publication.Publication.{Publication}
use Rattle.merge_model.specs.Publisher.Acts.{Act, Fate, Met, New, Unknown}
use Rattle.merge_units.specs.Cases.{is_conflict}
use Rattle.merge_model.specs.Publisher.Entries.{Entries}
use Rattle.merge_model.specs.History.{History, Line, MadeChange, Past, past_at, past_in}
use Rattle.merge_model.specs.Judge.{PublisherJudge}
use Rattle.merge_model.specs.Tables.Keys.{put_number}
use Rattle.merge_model.specs.History.Noting
use Rattle.merge_model.specs.History.Pasts.{past_by}
use Rattle.merge_model.specs.Tables.Publications.{by_site}
use Rattle.merge_model.specs.Publisher.{last_closed}
use Rattle.merge_model.specs.Publisher.PublisherJoin.{join_acts}
use Rattle.merge_types.specs.declared.row_key.RowKey.{RowKey as Key}
use Rattle.merge_model.specs.Tables.{PublisherTables, SubscriberTables}
use Rattle.merge_model.specs.World.{Judges}
use Rattle.merge_laws.specs.Facts.Identities.{takes_at}
use Rattle.merge_laws.proofs.Identities.IdentityCalls.{counts-cons}
use Rattle.merge_laws.proofs.Walking.NotesLeave.{anew-leave, fold-leave, loser-leaves, taker-leave}

-- the same values were taken, by each site of each article
abbrev pub SameTaken : List MadeChange → List MadeChange → Type 0
SameTaken after before = (site article : ℕ) (value : ℤ) → count_by (takes_at site article value) after ≡ count_by (takes_at site article value) before

pub same-made : (after before : List MadeChange) → after ≡ before → SameTaken after before
same-made after before e site article value = ap (λ (made : List MadeChange). count_by (takes_at site article value) made) e

takes-none : (site article : ℕ) (value : ℤ) (change : MadeChange) → change.identity ≡ None → takes_at site article value change ≡ false
takes-none site article value change none = grind (arith, none)

-- a change that takes none
pub none-taken : (change : MadeChange) (made : List MadeChange) → change.identity ≡ None → SameTaken (change ∷ made) made
none-taken change made none site article value =
    counts-cons (takes_at site article value) change made ∙ ap (λ (b : Bool). cond b 1 0 + count_by (takes_at site article value) made) (takes-none site article value change none) ∙ omega arith

-- a change of a site that takes a value of an article, there and elsewhere
takes-one : (change : MadeChange) (value taken : ℤ) → change.identity ≡ Some taken → takes_at change.dot.site.0 change.key.article value change ≡ int_eq value taken
takes-one change value taken takes = grind (arith, nat_tests, takes)

pub one-taken : (change : MadeChange) (made : List MadeChange) (value taken : ℤ) → change.identity ≡ Some taken
    → count_by (takes_at change.dot.site.0 change.key.article value) (change ∷ made) ≡ count_by (takes_at change.dot.site.0 change.key.article value) made + cond (int_eq value taken) 1 0
one-taken change made value taken takes =
    counts-cons (takes_at change.dot.site.0 change.key.article value) change made
    ∙ ap (λ (b : Bool). cond b 1 0 + count_by (takes_at change.dot.site.0 change.key.article value) made) (takes-one change value taken takes) ∙ omega arith

takes-elsewhere : (site article : ℕ) (change : MadeChange) (value : ℤ) → ((site == change.dot.site.0) && (article == change.key.article)) ≡ false → takes_at site article value change ≡ false
takes-elsewhere site article change value differs = grind (arith, nat_tests, differs)

pub elsewhere-taken : (site article : ℕ) (change : MadeChange) (made : List MadeChange) (value : ℤ) → ((site == change.dot.site.0) && (article == change.key.article)) ≡ false
    → count_by (takes_at site article value) (change ∷ made) ≡ count_by (takes_at site article value) made
elsewhere-taken site article change made value differs =
    counts-cons (takes_at site article value) change made ∙ ap (λ (b : Bool). cond b 1 0 + count_by (takes_at site article value) made) (takes-elsewhere site article change value differs) ∙ omega arith

-- What steps note.

if-taken : (b : Bool) (x y : History) (before : List MadeChange) → SameTaken x.made before → SameTaken y.made before → SameTaken (if b then x else y).made before
if-taken true x y before first second = first
if-taken false x y before first second = second

pub lines-made : (lines : List Line) (h : History) → (Noting.with_lines lines h).made ≡ h.made
lines-made lines h = fold-leave (λ (x : History). x.made) Noting.with_line (λ x line. refl) lines h

-- uploads

decided-taken : (decision : Decision) (dot : Dot) (generation : ℕ) (key : Key) (case : Case) (past : Past) (h : History) → SameTaken (Noting.with_decided decision dot generation key case past h).made h.made
decided-taken KeepPublisher dot generation key case past h = λ site article value. refl
decided-taken TakeSubscriber dot generation key case past h = λ site article value. refl
decided-taken (Custom values) dot generation key case past h = none-taken (Noting.decided_change dot generation key case past) h.made refl

fate-taken : (fate : Fate) (generation : ℕ) (key : Key) (incoming : Past) (h : History) → SameTaken (Noting.with_fate fate generation key incoming h).made h.made
fate-taken New generation key incoming h = λ site article value. refl
fate-taken Unknown generation key incoming h = λ site article value. refl
fate-taken (Met held case decision dot) generation key incoming h =
    let ours : Past = past_at h 0 key in
    let met : Past = past_by case decision dot ours incoming in
    let after : History = Noting.with_decided decision dot generation key case met h in
    let decided : SameTaken after.made h.made = decided-taken decision dot generation key case met h in
    if-taken (is_conflict case) (Noting.with_loser decision key ours incoming after) after h.made
    (λ site article value. same-made (Noting.with_loser decision key ours incoming after).made after.made (loser-leaves (λ (x : History). x.made) (λ x lost. refl) decision key ours incoming after) site article value ∙ decided site article value) decided

acts-taken : (incoming : List (Key × Past)) (entries : Entries) (acts : List Act) (h : History) → SameTaken (fold (Noting.with_act incoming entries) h acts).made h.made
acts-taken incoming entries [] h = λ site article value. refl
acts-taken incoming entries (act ∷ acts) h = λ site article value. acts-taken incoming entries acts (Noting.with_act incoming entries h act) site article value
    ∙ fate-taken act.fate (Noting.entry_generation entries act.key) act.key (past_in incoming act.key) h site article value

pub upload-taken : (publication : Publication) (judge : PublisherJudge) (m : Upload) (acts : List Act) (incoming : List (Key × Past)) (p : PublisherTables) (h : History) (b : Bool)
    → (let k : History = if b then Noting.with_acts_noted publication judge m acts incoming p h else h in SameTaken k.made h.made)
upload-taken publication judge m acts incoming p h true =
    let entries : Entries = Noting.acts_entries publication judge m acts p in
    let acted : History = fold (Noting.with_act incoming entries) h acts in
    let more : List Line = Noting.lines_of_entries (last_closed p + 1) entries in
    λ site article value. same-made (Noting.with_lines more acted).made acted.made (lines-made more acted) site article value ∙ acts-taken incoming entries acts h site article value
upload-taken publication judge m acts incoming p h false = λ site article value. refl

-- joins

pub join-taken : (judge : PublisherJudge) (m : Join) (p : PublisherTables) (h : History) → SameTaken (Noting.noted_join judge m p h).made h.made
join-taken judge m p h =
    let joined : History = record (Noting.with_done m.site.0 0 m.generation h) { bases = put_number h.bases m.site.0 (last_closed p) } in
    let lines : List Line = map (Noting.gone_line (last_closed p + 1)) (map (Noting.gone_for m.site) (Noting.left_rows judge m.site)) in
    if-taken (join_acts m p) (Noting.with_lines lines joined) h h.made (same-made (Noting.with_lines lines joined).made h.made (lines-made lines joined)) (λ site article value. refl)

-- replies

pub taker-made : (judges : Judges) (site : SiteId) (incoming : List (Key × Past)) (m : Reply) (found : Option SubscriberTables) (h : History)
    → (let k : History = elim found [ None ↦ h | Some s ↦ Noting.noted_reply (judges.subscriber site s) site incoming m h ] in k.made ≡ h.made)
taker-made judges site incoming m found h = taker-leave (λ (x : History). x.made) (λ x pasts. refl) judges site incoming m found h

-- making anew, forgetting, and messages

pub anew-made : (judges : Judges) (site : SiteId) (found : Option SubscriberTables) (h : History)
    → (let k : History = elim found [ None ↦ h | Some s ↦ Noting.noted_anew (judges.subscriber site s) s h ] in k.made ≡ h.made)
anew-made judges site found h = anew-leave (λ (x : History). x.made) (λ x pasts. refl) (λ x lost. refl) judges site found h

pub purge-made : (publication : Publication) (judge : PublisherJudge) (p : PublisherTables) (h : History) → (Noting.noted_purge publication judge p h).made ≡ h.made
purge-made publication judge p h =
    let rows : List Key = Noting.old_tombstones publication p in
    let lines : List Line = map (Noting.gone_line (last_closed p + 1)) (flat_map (Noting.old_left publication judge p) (map Noting.site_of_subscription (by_site publication))) in
    lines-made lines (fold Noting.with_purged h rows) ∙ fold-leave (λ (x : History). x.made) Noting.with_purged (λ x key. refl) rows h
