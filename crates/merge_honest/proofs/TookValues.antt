-- Every step keeps that each identity article has a holder at each site, so that an insert of it took a value.
use Rattle.std.specs.BTreeMap.{is_at}
use Rattle.std.specs.List.{AllByRecursion, cons_option, enumerate_from, fold}
use Rattle.std.specs.Option.{option_and_then}
use Rattle.std.specs.Ordering.{nat_cmp}
use Rattle.std.specs.Prelude.{Bool, Err, IfOk, List, None, Ok, Option, Result, Some, [], cond, false, filter_map, flat_map, is_some, map, not, option_map, refl, slice_get, suc, true, zero, ℕ, ℤ, ◌+◌, ◌<◌, ◌==◌, ◌≡◌, ◌∷◌}
use Rattle.std.proofs.Common.{ap, arith, subst, sym, ◌∙◌}
use Rattle.std.proofs.lemmas.Bool.Decides.{nat_tests}
use Rattle.merge_types.specs.declared.changes.Change.{Change}
use Rattle.merge_types.specs.declared.changes.Change.TheVariants.{Delete, Insert, Update}
use Rattle.merge_types.specs.declared.identifiers.Dot.{Dot}
use Rattle.merge_types.specs.declared.identifiers.Moment.{Moment}
use Rattle.merge_types.specs.declared.identifiers.SiteId.{SiteId}
use Rattle.merge_types.specs.declared.row_key.RowKey.{RowKey as Key}
use Rattle.merge_types.specs.declared.values.Value.{Value}
use Rattle.merge_types.specs.declared.values.Value.TheVariants.{Null}
use Rattle.merge_units.specs.declared.version.Version.{Version}
use Rattle.merge_units.specs.declared.result.Decision.{Decision}
use Rattle.merge_ident.specs.Answers.{Answer, answer_of, grants_after}
use Rattle.merge_ident.specs.Holders.{Holder, after_receive, after_take, answer_to_take}
use Rattle.merge_ident.specs.declared.grants.Grant.{Grant}
use Rattle.merge_ident.specs.declared.grants.GrantAnswer.TheVariants.{Granted, Kept as KeptRange, NotDue}
use Rattle.merge_ident.specs.declared.ranges.IdentityUsedUp.{IdentityUsedUp as IdentityEnd}
use Rattle.merge_schema.specs.Valid.{IsValid}
use Rattle.merge_schema.specs.declared.publication.Article.{Article}
use Rattle.merge_schema.specs.declared.publication.Identity.{Identity}
use Rattle.merge_schema.specs.declared.publication.Publication.{Publication}
use Rattle.merge_batch.specs.LocalChanges.{identity_column, is_insert, key_of, version_after}
use Rattle.merge_batch.specs.Makers.{maker_of}
use Rattle.merge_batch.specs.Uploads.{whole_number}
use Rattle.merge_batch.specs.declared.refusal.Refusal.{Refusal}
use Rattle.merge_batch.specs.declared.reply.RangeGrant.{RangeGrant}
use Rattle.merge_batch.specs.declared.reply.Reply.{Reply}
use Rattle.merge_batch.specs.declared.reply.Reply.TheVariants as reply
use Rattle.merge_batch.specs.declared.request.Outstanding.TheVariants as ask
use Rattle.merge_batch.specs.declared.request.Request.TheVariants as request
use Rattle.merge_batch.specs.declared.request.Upload.{Upload}
use Rattle.merge_batch.specs.declared.request.UploadItem.{UploadItem}
use Rattle.merge_model.specs.Publisher.Acts.{Act, Fate, Met, New, Unknown, acting_items, acts_of, key_of_item}
use Rattle.merge_model.specs.Judge.ByHistory.{by_made, by_past}
use Rattle.merge_model.specs.Publisher.Entries.{Entries}
use Rattle.merge_model.specs.Failing.{Slips, faulty}
use Rattle.merge_model.specs.History.{History, Line, MadeChange, Past, has, past_at, past_in, pasts_with}
use Rattle.merge_model.specs.Judge.{PublisherJudge, SubscriberJudge}
use Rattle.merge_model.specs.Tables.Keys.{at_number, put_number}
use Rattle.merge_model.specs.History.Model.{Model, empty_model, model, model_step}
use Rattle.merge_model.specs.History.Noting
use Rattle.merge_model.specs.History.Pasts.{past_after}
use Rattle.merge_model.specs.Tables.Publications.{by_site, identity_of, rules_of}
use Rattle.merge_model.specs.Publisher.{holder_for, last_closed, new_holders, tables_after_close}
use Rattle.merge_model.specs.Publisher.PublisherDownload.{reply_to, tables_after_download}
use Rattle.merge_model.specs.Publisher.PublisherJoin.{join_taken}
use Rattle.merge_model.specs.Publisher.PublisherLocal.{Drawn, after_answer, draw_for_change, drawn_from, local_refusal, made_locally, next_dot, no_draw, own_ask, taken_from}
use Rattle.merge_model.specs.Publisher.PublisherPurge.{purge}
use Rattle.merge_model.specs.Publisher.PublisherRanges.{plans, reply_to_ranges, with_grants as with_ranges}
use Rattle.merge_model.specs.Publisher.PublisherUpload.{taken_in}
use Rattle.merge_model.specs.Subscriber.Reinit.{discarded_versions, result_of_reinit}
use Rattle.merge_model.specs.Failing.Runs.{model_behind, model_behind_actions}
use Rattle.merge_model.specs.Subscriber.Sending.{join_of, upload_sent, want_of, with_message}
use Rattle.merge_model.specs.World.Steps.{Action, kept_decisions, upload_questions}
use Rattle.merge_model.specs.Subscriber.{subscriber_at_moment, subscriber_closed, subscriber_drawn, subscriber_last_closed, subscriber_local_refusal, subscriber_made_locally, subscriber_next_dot, subscriber_version_at, taken_value, with_version_if}
use Rattle.merge_model.specs.Tables.{PublisherTables, SubscriberTables}
use Rattle.merge_model.specs.Subscriber.Taking.{tables_after_reply, with_grant}
use Rattle.merge_model.specs.World.{Saying, World, subscriber_at, with_publisher, with_subscriber}
use Rattle.merge_model.specs.declared.event.Event.{Event}
use Rattle.merge_model.specs.declared.letter.Letter.{Letter}
use Rattle.merge_model.specs.declared.letter.Message.{Message}
use Rattle.merge_model.specs.declared.letter.Message.TheVariants.{Asks, Replies}
use Rattle.merge_model.proofs.Lists.Finding.{at_put, letter-zip}
use Rattle.merge_model.proofs.Runs.Actions.{failing-actions-keep}
use Rattle.merge_model.proofs.Lists.{all-both, all-filter}
use Rattle.merge_laws.specs.Invariants.KnownMakers.{KnowsMaker}
use Rattle.merge_laws.specs.Facts.Knowledge.{AreNumbered, Knows, changes_of}
use Rattle.merge_laws.specs.Facts.LineagesStand.{OfMessage}
use Rattle.merge_laws.proofs.Known.KnownRows.{held-knows, letter-knows, past-knows}
use Rattle.merge_laws.proofs.Lineages.LineagesAlways.{Kept, ground, kept-always, kept-step, kept-tallied}
use Rattle.merge_laws.proofs.Makers.MakerChanges.{made-below, own-held, sub-held}
use Rattle.merge_laws.proofs.Makers.MakerUploads.{FateAbove, FateMakes, acts-made, from-above}
use Rattle.merge_laws.proofs.Received.Models.{begins-with}
use Rattle.merge_laws.proofs.Runs.OfActions.{of-events}
use Rattle.merge_laws.proofs.Walking.NotesLeave.{fold-leave, reply-leave}
use Rattle.merge_laws.proofs.Pasts.PastNotes.{acts-items}
use Rattle.merge_laws.proofs.Unsent.UnsentKept.{reply-site, version-site}
use Rattle.merge_laws.proofs.Walking.{Sends, StepsKeep, acts_in, comes, here, join_noted, own_noted, step-keeps, told_by, uploaded_world}
use Rattle.merge_owed.specs.Identity.{HasIdentity, IsMaker}
use Rattle.merge_owed.proofs.HeldThresholds.{version-held}
use Rattle.merge_honest.proofs.PutFound.{put-each}
use Rattle.merge_honest.proofs.RowsFit.{AllTook, TookValue}

-- Each article with an identity column has a holder.
abbrev IsHeld : List (ℕ × Holder) → ℕ → Type 0
IsHeld held article = is_some (at_number held article) ≡ true

abbrev Holds : Publication → List (ℕ × Holder) → Type 0
Holds publication held = (article : ℕ) → is_some (identity_column publication article) ≡ true → IsHeld held article

cond-some : {X : Type 0} (b : Bool) (x : X) (rest : Option X) → is_some rest ≡ true → is_some (let found : Option X = cond b (Some x) rest in found) ≡ true
cond-some true x rest is = refl
cond-some false x rest is = is

put-held : (held : List (ℕ × Holder)) (article other : ℕ) (holder : Holder) → IsHeld held other → IsHeld (put_number held article holder) other
put-held held article other holder is = ap (λ (found : Option Holder). is_some found) (at_put article other holder held) ∙ cond-some (is_at (nat_cmp other) article) holder (at_number held other) is

-- How it begins.

is-here : (n : ℕ) → is_at (nat_cmp n) n ≡ true
is-here n = grind (arith, nat_tests)

found-first : (n : ℕ) (entry : ℕ × Identity) (rest : List (ℕ × Holder)) → entry.0 ≡ n → IsHeld (holder_for entry ∷ rest) n
found-first n entry rest same = (let here = is-here n in grind (arith, nat_tests, same, here))

found-behind : (n : ℕ) (found : Option Identity) (place : ℕ) (rest : List (ℕ × Identity)) → IsHeld (map holder_for rest) n → IsHeld (map holder_for (cons_option (option_map (λ (identity : Identity). (place, identity)) found) rest)) n
found-behind n None place rest is = is
found-behind n (Some identity) place rest is = cond-some (is_at (nat_cmp n) place) (holder_for (place, identity)).1 (at_number (map holder_for rest) n) is

found-here : (n : ℕ) (found : Option Identity) (rest : List (ℕ × Identity)) → is_some (option_map (λ (identity : Identity). identity.column) found) ≡ true → IsHeld (map holder_for (cons_option (option_map (λ (identity : Identity). (n, identity)) found) rest)) n
found-here n None rest is = absurd cc
found-here n (Some identity) rest is = found-first n (n, identity) (map holder_for rest) refl

identities-held : (articles : List Article) (n k : ℕ) → is_some (option_map (λ (identity : Identity). identity.column) (option_and_then (λ (article : Article). article.identity) (slice_get articles k))) ≡ true
    → IsHeld (map holder_for (filter_map identity_of (enumerate_from n articles))) (n + k)
identities-held [] n k is = absurd cc
identities-held (article ∷ articles) n zero is =
    let same : n ≡ n + 0 = omega arith in
    subst (IsHeld (map holder_for (filter_map identity_of (enumerate_from n (article ∷ articles))))) same (found-here n article.identity (filter_map identity_of (enumerate_from (n + 1) articles)) is)
identities-held (article ∷ articles) n (suc k) is =
    let same : n + 1 + k ≡ n + suc k = omega arith in
    found-behind (n + suc k) article.identity n (filter_map identity_of (enumerate_from (n + 1) articles)) (subst (IsHeld (map holder_for (filter_map identity_of (enumerate_from (n + 1) articles)))) same (identities-held articles (n + 1) k is))

new-hold : (publication : Publication) → Holds publication (new_holders publication)
new-hold publication article is = (let same : 0 + article ≡ article = omega arith in subst (IsHeld (new_holders publication)) same (identities-held publication.articles 0 article is))

-- A value is drawn.

abbrev Draws : Publication → ℕ → List (ℕ × Holder) → Value → Type 0
Draws publication article held value = Holds publication held × (is_some (identity_column publication article) ≡ true → is_some (whole_number (Some value)) ≡ true)

module _ (publication : Publication) (p : PublisherTables) (article : ℕ) (holds : Holds publication p.held) where
  abbrev Draw : Result Drawn Refusal → Type 0
  Draw draw = IfOk draw (λ d. Draws publication article d.held d.value)

  taken-draws : (grants : List Grant) (holder : Holder) (result : Result ℤ IdentityEnd) → Draw (taken_from p grants article holder result)
  taken-draws grants holder (Ok value) = (λ other is. put-held p.held article other (after_take holder) (holds other is), λ is. refl)
  taken-draws grants holder (Err used_up) = tt

  answer-draws : (holder : Holder) (answer : Answer) → Draw (after_answer p article holder answer)
  answer-draws holder (Ok (Granted number range)) = taken-draws (grants_after p.grants (own_ask p article) (Ok (Granted number range))) (after_receive holder range) (answer_to_take (after_receive holder range))
  answer-draws holder (Ok (KeptRange number range)) = taken-draws p.grants holder (answer_to_take holder)
  answer-draws holder (Ok NotDue) = taken-draws p.grants holder (answer_to_take holder)
  answer-draws holder (Err fault) = taken-draws p.grants holder (answer_to_take holder)

  from-draws : (holder : Holder) (result : Result ℤ IdentityEnd) → Draw (drawn_from publication p article holder result)
  from-draws holder (Ok value) = taken-draws p.grants holder (Ok value)
  from-draws holder (Err used_up) = answer-draws holder (answer_of (rules_of publication) p.grants (own_ask p article))

  found-draws : (found : Option Holder) → at_number p.held article ≡ found → (let draw : Result Drawn Refusal = elim found [ None ↦ Ok (no_draw p) | Some holder ↦ drawn_from publication p article holder (answer_to_take holder) ] in Draw draw)
  found-draws None at = (holds, λ is. absurd (let here = holds article is in grind (arith, here, at)))
  found-draws (Some holder) at = from-draws holder (answer_to_take holder)

abbrev DrawsFor : Publication → Change → List (ℕ × Holder) → Value → Type 0
DrawsFor publication change held value = Holds publication held × ((dot : Dot) → is_insert change ≡ true → HasIdentity publication (key_of dot change) → is_some (whole_number (Some value)) ≡ true)

draws-for : {X : Type 0} (publication : Publication) (article : ℕ) (held : X → List (ℕ × Holder)) (value : X → Value) (Q : X → Type 0) (draw : Result X Refusal) → ((x : X) → Draws publication article (held x) (value x) → Q x) → IfOk draw (λ x. Draws publication article (held x) (value x)) → IfOk draw Q
draws-for publication article held value Q (Ok x) more is = more x is
draws-for publication article held value Q (Err why) more is = tt

own-draw : (publication : Publication) (p : PublisherTables) (change : Change) → Holds publication p.held → IfOk (draw_for_change publication p change) (λ d. DrawsFor publication change d.held d.value)
own-draw publication p (Insert article values) holds =
    draws-for publication article (λ (d : Drawn). d.held) (λ (d : Drawn). d.value) (λ (d : Drawn). DrawsFor publication (Insert article values) d.held d.value) (draw_for_change publication p (Insert article values)) (λ d draws. (draws.0, λ dot insert has. draws.1 has))
    (found-draws publication p article holds (at_number p.held article) refl)
own-draw publication p (Update article row values) holds = (holds, λ dot insert has. absurd cc)
own-draw publication p (Delete article row) holds = (holds, λ dot insert has. absurd cc)

module _ (publication : Publication) (s : SubscriberTables) (article : ℕ) (holds : Holds publication s.held) where
  abbrev SubscriberDraw : Result (Value × List (ℕ × Holder)) Refusal → Type 0
  SubscriberDraw draw = IfOk draw (λ d. Draws publication article d.1 d.0)

  value-draws : (holder : Holder) (result : Result ℤ IdentityEnd) → SubscriberDraw (taken_value s article holder result)
  value-draws holder (Ok value) = (λ other is. put-held s.held article other (after_take holder) (holds other is), λ is. refl)
  value-draws holder (Err used_up) = tt

  there-draws : (found : Option Holder) → at_number s.held article ≡ found → (let draw : Result (Value × List (ℕ × Holder)) Refusal = elim found [ None ↦ Ok (Null, s.held) | Some holder ↦ taken_value s article holder (answer_to_take holder) ] in SubscriberDraw draw)
  there-draws None at = (holds, λ is. absurd (let here = holds article is in grind (arith, here, at)))
  there-draws (Some holder) at = value-draws holder (answer_to_take holder)

sub-draw : (publication : Publication) (s : SubscriberTables) (change : Change) → Holds publication s.held → IfOk (subscriber_drawn s change) (λ d. DrawsFor publication change d.1 d.0)
sub-draw publication s (Insert article values) holds =
    draws-for publication article (λ (d : Value × List (ℕ × Holder)). d.1) (λ (d : Value × List (ℕ × Holder)). d.0) (λ (d : Value × List (ℕ × Holder)). DrawsFor publication (Insert article values) d.1 d.0) (subscriber_drawn s (Insert article values))
    (λ d draws. (draws.0, λ dot insert has. draws.1 has)) (there-draws publication s article holds (at_number s.held article) refl)
sub-draw publication s (Update article row values) holds = (holds, λ dot insert has. absurd cc)
sub-draw publication s (Delete article row) holds = (holds, λ dot insert has. absurd cc)

-- Ranges are received.

one-held : (publication : Publication) (held : List (ℕ × Holder)) (grant : RangeGrant) (found : Option Holder) → Holds publication held
    → (let after : List (ℕ × Holder) = elim found [ None ↦ held | Some holder ↦ put_number held grant.article (after_receive holder (record { begin = grant.begin; end = grant.end })) ] in Holds publication after)
one-held publication held grant None holds = holds
one-held publication held grant (Some holder) holds = λ other is. put-held held grant.article other (after_receive holder (record { begin = grant.begin; end = grant.end })) (holds other is)

all-held : (publication : Publication) (grants : List RangeGrant) (held : List (ℕ × Holder)) → Holds publication held → Holds publication (fold with_grant held grants)
all-held publication [] held holds = holds
all-held publication (grant ∷ grants) held holds = all-held publication grants (with_grant held grant) (one-held publication held grant (at_number held grant.article) holds)

reply-held : (publication : Publication) (judge : SubscriberJudge) (now : Moment) (m : Reply) (s : SubscriberTables) → Holds publication s.held → Holds publication (tables_after_reply judge now m s).held
reply-held publication judge now (reply.Joined m) s holds = holds
reply-held publication judge now (reply.Uploaded m) s holds = holds
reply-held publication judge now (reply.Ranged m) s holds = all-held publication m.grants s.held holds
reply-held publication judge now (reply.Downloaded m) s holds = holds
reply-held publication judge now (reply.Refused number values) s holds = holds

-- A change that is no insert did not make its row.

no-maker : (h : History) (count : ℕ → ℕ) → AreNumbered count h → (key : Key) (dot : Dot) (known : List Dot) → count dot.site.0 < dot.number → Knows h.made key known → KnowsMaker key known → maker_of key.row.0 ≡ Some dot → ⊥
no-maker h count numbered key dot known new knows makers maker = (let low = made-below count h key dot numbered (knows.made_here dot (makers dot maker)) in omega (arith, low, new))

took-made : (publication : Publication) (h : History) (count : ℕ → ℕ) → AreNumbered count h → (dot : Dot) (generation : ℕ) (change : Change) (value : Value) (past : Past) → count dot.site.0 < dot.number → Knows h.made (key_of dot change) past.known → (is_insert change ≡ false → KnowsMaker (key_of dot change) past.known)
    → (is_insert change ≡ true → HasIdentity publication (key_of dot change) → is_some (whole_number (Some value)) ≡ true) → TookValue publication (Noting.made_change publication dot generation change value (key_of dot change) (past_after publication dot change past))
took-made publication h count numbered dot generation (Insert article values) value past new knows makers takes = λ maker has. takes refl has
took-made publication h count numbered dot generation (Update article row values) value past new knows makers takes = λ maker has. absurd (no-maker h count numbered (key_of dot (Update article row values)) dot past.known new knows (makers refl) maker)
took-made publication h count numbered dot generation (Delete article row) value past new knows makers takes = λ maker has. absurd (no-maker h count numbered (key_of dot (Delete article row)) dot past.known new knows (makers refl) maker)

-- Nor did one that a decision made.

-- a fact of changes that made rows
abbrev pub OfMakers : (MadeChange → Type 0) → MadeChange → Type 0
OfMakers Has change = IsMaker change → Has change

decided-never : (Has : MadeChange → Type 0) (w : World) (h : History) → AreNumbered (changes_of w) h → (key : Key) (theirs : Past) (fate : Fate) → Knows h.made key theirs.known → KnowsMaker key theirs.known → FateAbove w.publisher.changes fate → FateMakes (OfMakers Has) key theirs fate
decided-never Has w h numbered key theirs New knows makers above = tt
decided-never Has w h numbered key theirs Unknown knows makers above = tt
decided-never Has w h numbered key theirs (Met held case decision dot) knows makers above = λ generation ours maker. absurd (
    let same : changes_of w dot.site.0 ≡ w.publisher.changes = ap (changes_of w) above.0 in
    let up = above.1 in
    no-maker h (changes_of w) numbered key dot theirs.known (omega (arith, same, up)) knows makers maker)

pub lines-on : (lines : List Line) (h : History) → (Noting.with_lines lines h).made ≡ h.made
lines-on lines h = fold-leave (λ (x : History). x.made) Noting.with_line (λ x line. refl) lines h

-- so the acts of an upload keep such a fact
pub acts-keep-makers : (Has : MadeChange → Type 0) (publication : Publication) (judge : PublisherJudge) (decisions : List Decision) (w : World) (h : History) (number : ℕ) (site : SiteId) (m : Upload) → Kept publication (record { world = w; history = h }) → comes w number site (Asks (request.Upload m))
    → AllByRecursion (OfMakers Has) h.made → AllByRecursion (OfMakers Has) (Noting.with_acts_noted publication judge m (acts_of judge m decisions (here w)) (pasts_with h number) (here w) h).made
acts-keep-makers Has publication judge decisions w h number site m b at all =
    let incoming : List (Key × Past) = pasts_with h number in
    let g = ground publication (record { world = w; history = h }) b in
    let p : PublisherTables = here w in
    let acts : List Act = acts_of judge m decisions p in
    let entries : Entries = Noting.acts_entries publication judge m acts p in
    let items : AllByRecursion (λ (item : UploadItem). KnowsMaker (key_of_item item) (past_in incoming (key_of_item item)).known) m.items =
    letter-zip (λ (x : Letter) (pasts : List (Key × Past)). OfMessage (λ (key : Key) (version : Version) (past : Past). KnowsMaker key past.known) pasts x.message) w h number (record { site = site; message = Asks (request.Upload m) }) b.accepted.makers.letters at in
    let came : AllByRecursion (λ (act : Act). KnowsMaker act.key (past_in incoming act.key).known) acts =
    acts-items (λ (key : Key). KnowsMaker key (past_in incoming key).known) judge m.site p (p.changes + 1) decisions (acting_items judge m)
    (all-filter (λ (item : UploadItem). KnowsMaker (key_of_item item) (past_in incoming (key_of_item item)).known) (λ (item : UploadItem). not (judge.has_acted m.site.0 item.generation)) m.items items) in
    let above : AllByRecursion (λ (act : Act). FateAbove w.publisher.changes act.fate) acts = from-above w.publisher.changes judge m.site p (p.changes + 1) decisions (acting_items judge m) (omega arith) in
    let done : AllByRecursion (OfMakers Has) (fold (Noting.with_act incoming entries) h acts).made = acts-made (OfMakers Has) incoming entries acts h
    (all-both (λ (act : Act). KnowsMaker act.key (past_in incoming act.key).known) (λ (act : Act). FateAbove w.publisher.changes act.fate) (λ (act : Act). FateMakes (OfMakers Has) act.key (past_in incoming act.key) act.fate)
    (λ act makers up. decided-never Has w h g.known.numbered act.key (past_in incoming act.key) act.fate (past-knows h.made act.key incoming (letter-knows h number g.known.knowledge)) makers up) acts came above) all in
    subst (AllByRecursion (OfMakers Has)) (sym (lines-on (Noting.lines_of_entries (last_closed p + 1) entries) (fold (Noting.with_act incoming entries) h acts))) done

-- Worlds.

pub record Took (publication : Publication) (w : World) (h : History) : Type 0 where
  pub own : Holds publication w.publisher.held
  pub each : (n : ℕ) (s : SubscriberTables) → at_number w.subscribers n ≡ Some s → Holds publication s.held
  pub made : AllTook publication h.made

module _ (publication : Publication) where
  abbrev Base : World → History → Type 0
  Base w h = Kept publication (record { world = w; history = h })

  abbrev In : World → History → Type 0
  In w h = Took publication w h

  made-is : (w v : World) (h k : History) → v.publisher.held ≡ w.publisher.held → v.subscribers ≡ w.subscribers → AllTook publication k.made → In w h → In v k
  made-is w v h k own subscribers made i = record {
    own = subst (Holds publication) (sym own) i.own;
    each = λ n s at. i.each n s (ap (λ (x : List (ℕ × SubscriberTables)). at_number x n) (sym subscribers) ∙ at);
    made = made;
  }

  same-made : (made : List MadeChange) (k : History) → k.made ≡ made → AllTook publication made → AllTook publication k.made
  same-made made k same all = subst (AllTook publication) (sym same) all

  -- a message is posted
  posts : (site : SiteId) (message : Message) (v : World) (w : World) (k : History) → v.publisher.held ≡ w.publisher.held → v.subscribers ≡ w.subscribers → In w k → Sends In site message v k
  posts site message v w k own subscribers i = record {
    own = subst (Holds publication) (sym own) i.own;
    each = λ n s at. i.each n s (ap (λ (x : List (ℕ × SubscriberTables)). at_number x n) (sym subscribers) ∙ at);
    made = i.made;
  }

  -- a subscriber is put
  put-on : (w : World) (h k : History) (s t : SubscriberTables) → t.site.0 ≡ s.site.0 → Holds publication t.held → AllTook publication k.made → In w h → In (record w { subscribers = put_number w.subscribers t.site.0 t }) k
  put-on w h k s t same new made i = record { own = i.own; each = put-each (λ (n : ℕ) (x : SubscriberTables). Holds publication x.held) w.subscribers s t same new i.each; made = made }

  module _ (says : Saying) where
    own-on : (w : World) (h : History) (change : Change) (d : Drawn) → Base w h → In w h → local_refusal publication change w.publisher ≡ None → draw_for_change publication w.publisher change ≡ Ok d
        → (let judge : PublisherJudge = by_past h (pasts_with h 0) in In (record w { publisher = (made_locally publication judge change d (here w)).0 }) (own_noted publication judge change d (here w) h))
    own-on w h change d b i fine is =
        let m : Model = record { world = w; history = h } in
        let judge : PublisherJudge = by_past h (pasts_with h 0) in
        let p : PublisherTables = here w in
        let dot : Dot = next_dot p in
        let draws : DrawsFor publication change d.held d.value = subst (λ (draw : Result Drawn Refusal). IfOk draw (λ x. DrawsFor publication change x.held x.value)) is (own-draw publication w.publisher change i.own) in
        let k : History = Noting.with_change publication dot (last_closed p + 1) change d.value h in
        let new = took-made publication h (changes_of w) (ground publication m b).known.numbered dot (last_closed p + 1) change d.value (past_at h 0 (key_of dot change)) (omega arith) (held-knows h 0 (key_of dot change) (ground publication m b).known.knowledge)
        (λ insert. b.accepted.makers.here (key_of dot change) (own-held publication change w.publisher fine insert)) (draws.1 dot) in
        record {
          own = draws.0;
          each = i.each;
          made = same-made k.made (own_noted publication judge change d p h) (lines-on (Noting.lines_of_entries (last_closed p + 1) (Noting.drawn_entries publication judge change p d)) k) (new, i.made);
        }

    counted-at : (w : World) (n : ℕ) (s : SubscriberTables) (b : Bool) → (n == 0) ≡ b → (n ≡ 0 → ⊥) → at_number w.subscribers n ≡ Some s → changes_of w n ≡ s.changes
    counted-at w n s true is named at = absurd (named (grind (arith, nat_tests, is)))
    counted-at w n s false is named at = grind (arith, is, at)

    sub-on : (w : World) (h : History) (s : SubscriberTables) (change : Change) (d : Value × List (ℕ × Holder)) → Base w h → In w h → subscriber_at w s.site ≡ Some s → (s.site.0 ≡ 0 → ⊥) → subscriber_local_refusal publication change s ≡ None → subscriber_drawn s change ≡ Ok d
        → (let t : SubscriberTables = (subscriber_made_locally publication change d (subscriber_at_moment w.moment s)).0 in In (record w { subscribers = put_number w.subscribers t.site.0 t }) (Noting.with_change publication (subscriber_next_dot s) (subscriber_last_closed s + 1) change d.0 h))
    sub-on w h s change d b i at named fine is =
        let m : Model = record { world = w; history = h } in
        let dot : Dot = subscriber_next_dot s in
        let key : Key = key_of dot change in
        let found : Option Version = version_after publication dot d.0 change (subscriber_version_at s key) in
        let u : SubscriberTables = record (subscriber_at_moment w.moment s) { changes = s.changes + 1; held = d.1 } in
        let draws : DrawsFor publication change d.1 d.0 = subst (λ (draw : Result (Value × List (ℕ × Holder)) Refusal). IfOk draw (λ x. DrawsFor publication change x.1 x.0)) is (sub-draw publication s change (i.each s.site.0 s at)) in
        let counted : changes_of w s.site.0 ≡ s.changes = counted-at w s.site.0 s (s.site.0 == 0) refl named at in
        let new = took-made publication h (changes_of w) (ground publication m b).known.numbered dot (subscriber_last_closed s + 1) change d.0 (past_at h s.site.0 key) (omega (arith, counted)) (held-knows h s.site.0 key (ground publication m b).known.knowledge)
        (λ insert. b.accepted.makers.there s.site.0 s at key (sub-held publication change s fine insert)) (draws.1 dot) in
        put-on w h (Noting.with_change publication dot (subscriber_last_closed s + 1) change d.0 h) s (with_version_if key found u) (version-site key found u) (subst (Holds publication) (sym (version-held key found u)) draws.0) (new, i.made) i

    took-keep : StepsKeep publication says Base In
    took-keep = record {
      moment = λ w h now b i. made-is w (record w { moment = now }) h h refl refl i.made i;
      own_change = λ w h change d b i fine is. own-on w h change d b i fine is;
      own_closing = λ w h b i. made-is w (with_publisher (tables_after_close (here w)) w) h h refl refl i.made i;
      forgetting = λ w h b i. (
          let judge : PublisherJudge = by_past h (pasts_with h 0) in
          let keys : List Key = Noting.old_tombstones publication (here w) in
          let lines : List Line = map (Noting.gone_line (last_closed (here w) + 1)) (flat_map (Noting.old_left publication judge (here w)) (map Noting.site_of_subscription (by_site publication))) in
          made-is w (with_publisher (purge publication w.moment w.publisher).0 w) h (Noting.noted_purge publication judge (here w) h) refl refl
          (same-made h.made (Noting.noted_purge publication judge (here w) h) (lines-on lines (fold Noting.with_purged h keys) ∙ fold-leave (λ (x : History). x.made) Noting.with_purged (λ x key. refl) keys h) i.made) i);
      same = λ w h s b i at. put-on w h h s s refl (i.each s.site.0 s at) i.made i;
      subscriber_change = λ w h s change d b i at named fine is. sub-on w h s change d b i at named fine is;
      subscriber_closing = λ w h s b i at. put-on w h h s (subscriber_closed (subscriber_at_moment w.moment s)) refl (i.each s.site.0 s at) i.made i;
      anew = λ w h s b i at. (let judge : SubscriberJudge = by_made h s.site in
          put-on w h (Noting.noted_anew judge s h) s (result_of_reinit judge (subscriber_at_moment w.moment s)).0 refl (i.each s.site.0 s at)
          (same-made h.made (Noting.noted_anew judge s h) (fold-leave (λ (x : History). x.made) (Noting.with_discarded s.site) (λ x row. refl) (discarded_versions judge s) h) i.made) i);
      sends_join = λ w h s b i at joining. (let t : SubscriberTables = with_message ask.Join s in let v : World = with_subscriber t w in
          posts s.site (Asks (request.Join (join_of s))) v v h refl refl (put-on w h h s t refl (i.each s.site.0 s at) i.made i));
      sends_upload = λ w h s b i at fine. (let made : SubscriberTables × Upload = upload_sent (by_made h s.site) (subscriber_closed (subscriber_at_moment w.moment s)) in let v : World = with_subscriber made.0 w in
          posts s.site (Asks (request.Upload made.1)) v v h refl refl (put-on w h h s made.0 refl (i.each s.site.0 s at) i.made i));
      sends_ranges = λ w h s b i at fine. (let t : SubscriberTables = with_message ask.Ranges s in let v : World = with_subscriber t w in
          posts s.site (Asks (request.Ranges (record { site = s.site; seq = s.seq + 1; wants = map want_of s.held }))) v v h refl refl (put-on w h h s t refl (i.each s.site.0 s at) i.made i));
      sends_ask = λ w h s b i at fine. (let t : SubscriberTables = with_message (ask.Download s.watermark) s in let v : World = with_subscriber t w in
          posts s.site (Asks (request.Download (record { site = s.site; seq = s.seq + 1; from = s.watermark }))) v v h refl refl (put-on w h h s t refl (i.each s.site.0 s at) i.made i));
      joins = λ w h number m b i at fine acts. (let k : History = join_noted (by_past h (pasts_with h number)) m w.publisher h in let v : World = with_publisher (join_taken m (here w)) w in
          posts m.site (Replies (reply.Joined (record { seq = m.seq }))) v v k refl refl
          (made-is w v h k refl refl (same-made h.made k (lines-on (map (Noting.gone_line (last_closed w.publisher + 1)) (map (Noting.gone_for m.site) (Noting.left_rows (by_past h (pasts_with h number)) m.site))) (record (Noting.with_done m.site.0 0 m.generation h) { bases = put_number h.bases m.site.0 (last_closed w.publisher) })) i.made) i));
      joins_again = λ w h number m b i at acts. posts m.site (Replies (reply.Joined (record { seq = m.seq }))) (with_publisher (here w) w) w h refl refl i;
      uploads = λ w h number m b i at fine news. (let judge : PublisherJudge = by_past h (pasts_with h number) in
          let q : PublisherTables = taken_in publication judge m (acts_in publication says judge m w) (here w) in
          let k : History = Noting.with_acts_noted publication judge m (acts_in publication says judge m w) (pasts_with h number) (here w) h in
          posts m.site (Replies (reply.Uploaded (told_by judge m))) (uploaded_world publication says judge m q w) (with_publisher q w) k refl refl
          (made-is w (with_publisher q w) h k refl refl
          (acts-keep-makers (λ (change : MadeChange). HasIdentity publication change.key → is_some change.identity ≡ true) publication judge (kept_decisions says w.tallies (upload_questions publication judge w.moment m w.publisher)) w h number m.site m b at i.made) i));
      uploads_again = λ w h number m b i at old. (let judge : PublisherJudge = by_past h (pasts_with h number) in posts m.site (Replies (reply.Uploaded (told_by judge m))) (uploaded_world publication says judge m (here w) w) w h refl refl i);
      answers_ranges = λ w h site m b i. posts site (Replies (reply.Ranged (reply_to_ranges m (plans publication m w.publisher)))) (with_publisher (with_ranges (plans publication m w.publisher) (here w)) w) w h refl refl i;
      answers_ask = λ w h number site m b i at fine. posts site (Replies (reply.Downloaded (reply_to publication (by_past h (pasts_with h number)) m (tables_after_download m (here w))))) (with_publisher (tables_after_download m (here w)) w) w h refl refl i;
      replies = λ w h s number m sent b i at there out fits. (let judge : SubscriberJudge = by_made h s.site in
          put-on w h (Noting.noted_reply judge s.site (pasts_with h number) m h) s (tables_after_reply judge w.moment m s) (reply-site judge w.moment m s) (reply-held publication judge w.moment m s (i.each s.site.0 s at))
          (same-made h.made (Noting.noted_reply judge s.site (pasts_with h number) m h) (reply-leave (λ (x : History). x.made) (λ x pasts. refl) judge s.site (pasts_with h number) m h) i.made) i);
    }

    -- Each step keeps it, and so does every list of actions, and of events.

    abbrev Known : Model → Type 0
    Known m = Kept publication m × Took publication m.world m.history

    pub took-step : (m : Model) (action : Action) → Known m → Known (model_step publication says m action).0
    took-step m action both = (kept-step publication m both.0 says action, step-keeps publication says Base In (λ w h b. (ground publication (record { world = w; history = h }) b).received) took-keep m action both.0 both.1)

    pub took-by-actions : (tallies : List ℕ) (slips : Slips) (actions : List Action) → (resolvers : ℕ) × IsValid resolvers publication → Known (model_behind_actions publication says tallies slips actions)
    took-by-actions tallies slips actions valid = failing-actions-keep publication (model publication says) Known (λ m action both. took-step m action both)
        (λ m others both. (kept-tallied publication m others both.0, record { own = both.1.own; each = both.1.each; made = both.1.made })) actions (faulty (empty_model publication tallies) slips)
        (kept-always publication valid says tallies [] [], record { own = new-hold publication; each = λ n s at. begins-with publication (λ (k : ℕ) (t : SubscriberTables). Holds publication t.held) (λ k site keyed. new-hold publication) n s at; made = tt })

    pub took-always : (tallies : List ℕ) (slips : Slips) (events : List Event) → (resolvers : ℕ) × IsValid resolvers publication → AllTook publication (model_behind publication says tallies slips events).history.made
    took-always tallies slips events valid = of-events publication says tallies slips events (λ (m : Model). AllTook publication m.history.made) (λ actions. (took-by-actions tallies slips actions valid).1.made)
