-- A call that commits nothing leaves the tables of its site as they are.
use Rattle.std.specs.Prelude.{◌≡◌, ◌==◌, ◌||◌, ◌++◌, ◌+◌, ◌-◌, ℕ, List, [], ◌∷◌, Bool, true, false, Option, Some, None, Result, Ok, Err, refl, if◌then◌else◌, is_some, max, map, nat_lt, cond, unwrap_or}
use Rattle.std.specs.BTreeMap.{is_at}
use Rattle.std.specs.Cmp.{nat_cmp_total}
use Rattle.std.specs.List.{list_any, range_with_len}
use Rattle.std.specs.List.Sorted.{IsStrictlySortedBy}
use Rattle.std.specs.Map.{keys_of}
use Rattle.std.specs.declared.cmp.Ordering.TheVariants.{Equal}
use Rattle.std.specs.Ordering.{nat_cmp}
use Rattle.std.proofs.Common.{arith, ap, sym, ◌∙◌}
use Rattle.std.proofs.lemmas.Bool.Decides.{nat_tests}
use Rattle.merge_types.specs.declared.identifiers.Moment.{Moment}
use Rattle.merge_table.proofs.LookUps.{rows_from_look_ups}
use Rattle.merge_table.proofs.Sorted.{sorted_put}
use Rattle.merge_gens.specs.Book.{Book, closed_now, closing_at, moved_to}
use Rattle.merge_gens.specs.declared.closings.Closing.{Closing}
use Rattle.merge_gens.specs.declared.filling.Filling.{Filling}
use Rattle.merge_gens.specs.declared.sites.SiteState.{SiteState}
use Rattle.merge_ident.specs.Answers.{Answer, grants_after, grants_with_all}
use Rattle.merge_ident.specs.declared.grants.Ask.{Ask}
use Rattle.merge_ident.specs.declared.grants.Grant.{Grant}
use Rattle.merge_ident.specs.declared.grants.GrantAnswer.TheVariants.{Granted, Kept, NotDue}
use Rattle.merge_ident.specs.declared.grants.GrantPlan.{GrantPlan}
use Rattle.merge_schema.specs.declared.publication.Publication.{Publication}
use Rattle.merge_batch.specs.declared.refusal.Refusal.{Refusal}
use Rattle.merge_batch.specs.declared.reply.Downloaded.{Downloaded}
use Rattle.merge_batch.specs.declared.reply.Joined.{Joined}
use Rattle.merge_batch.specs.declared.reply.Ranged.{Ranged}
use Rattle.merge_batch.specs.declared.reply.Reply.{Reply}
use Rattle.merge_batch.specs.declared.reply.Uploaded.{Uploaded}
use Rattle.merge_batch.specs.declared.request.Download.{Download}
use Rattle.merge_batch.specs.declared.reply.Reply.TheVariants as reply
use Rattle.merge_batch.specs.declared.request.Request.TheVariants as request
use Rattle.merge_units.specs.declared.result.Decision.{Decision}
use Rattle.merge_model.specs.Publisher.Acts.{acts_of}
use Rattle.merge_model.specs.Judge.ByNumbers.{by_numbers}
use Rattle.merge_model.specs.World.Calls.{as_reply, is_behind, is_later, is_new_grant, message_commits, message_or_none, taken_commits}
use Rattle.merge_model.specs.Tables.Keys.{at_number, put_number}
use Rattle.merge_model.specs.Laws.{AreSorted}
use Rattle.merge_model.specs.Publisher.{at_moment, counters, last_closed, later, no_state, site_refusal, state_of, state_refusal, tables_after_close, unknown_site, with_state}
use Rattle.merge_model.specs.Publisher.PublisherDownload.{download_refusal, in_step, reply_to, state_after_download, tables_after_download}
use Rattle.merge_model.specs.Publisher.PublisherJoin.{join_acts, join_refusal, join_taken, tables_after_join}
use Rattle.merge_model.specs.Publisher.PublisherRanges.{plans, ranges_refusal, reply_to_ranges, with_grants}
use Rattle.merge_model.specs.Publisher.PublisherUpload.{brings_news, tables_after_upload, taken_in, upload_refusal}
use Rattle.merge_model.specs.Tables.Refusals.{counter_end, unless}
use Rattle.merge_model.specs.Laws.Quiet.{QuietClosings, QuietReplies, QuietRequests, QuietSubscriberClosings}
use Rattle.merge_model.specs.Subscriber.{subscriber_at_moment, subscriber_closed, subscriber_counters, subscriber_last_closed}
use Rattle.merge_model.specs.World.Steps.{kept_decisions, upload_questions}
use Rattle.merge_model.specs.Tables.{PublisherTables, SubscriberTables}
use Rattle.merge_model.specs.Subscriber.Taking.{met_by, seq_of, tables_after_reply}
use Rattle.merge_model.specs.World.Faults.{reply_fault}
use Rattle.merge_model.specs.Judge.{SubscriberJudge}
use Rattle.merge_batch.specs.declared.request.Outstanding.{Outstanding}
use Rattle.merge_model.specs.declared.outcome.Taken.{Taken}
use Rattle.merge_model.specs.declared.outcome.Taken.TheVariants.{Acted, Missed}
use Rattle.merge_model.proofs.Lists.Finding.{at_put}
use Rattle.merge_model.proofs.Runs.Refusals.{first-none, state-known}
use Rattle.merge_model.proofs.Lists.Tests.{if-false, if-true, numbers-same}

neither : (a b : Bool) → (a || b) ≡ false → (a ≡ false) × (b ≡ false)
neither true b e = absurd cc
neither false b e = (refl, e)

-- What a step that is not refused leaves.

abbrev tables_in : {T A : Type 0} → T → Result (T × A) Refusal → T
tables_in p (Ok done) = done.0
tables_in p (Err why) = p

made-same : {T A : Type 0} (refusal : Option Refusal) (made p : T) (answer : A) (done : T × A) → (refusal ≡ None → made ≡ p) → unless refusal (made, answer) ≡ Ok done → done.0 ≡ p
made-same (Some why) made p answer done same e = absurd cc
made-same None made p answer done same e = ap (tables_in p) (sym e) ∙ same refl

reply-same : {A : Type 0} (message : A → Reply) (refusal : Option Refusal) (made p : PublisherTables) (answer : A) (done : PublisherTables × Reply) → (refusal ≡ None → made ≡ p)
    → as_reply message (unless refusal (made, answer)) ≡ Ok done → done.0 ≡ p
reply-same message (Some why) made p answer done same e = absurd cc
reply-same message None made p answer done same e = ap (tables_in p) (sym e) ∙ same refl

-- The moment.

greater-stays : (a b : ℕ) → nat_lt b a ≡ false → max a b ≡ b
greater-stays a b still = grind (arith, nat_tests, still)

lesser-stays : (a b : ℕ) → nat_lt a b ≡ false → max a b ≡ a
lesser-stays a b still = grind (arith, nat_tests, still)

pub moment-stays : (now : Moment) (p : PublisherTables) → is_later now p.latest ≡ false → at_moment now p ≡ p
moment-stays now p still = ap (λ (n : ℕ). (let q : PublisherTables = record p { latest = record { 0 = n } } in q)) (greater-stays now.0 p.latest.0 still)

pub sub-moment-stays : (now : Moment) (s : SubscriberTables) → is_later now s.latest ≡ false → subscriber_at_moment now s ≡ s
sub-moment-stays now s still = ap (λ (n : ℕ). (let t : SubscriberTables = record s { latest = record { 0 = n } } in t)) (greater-stays now.0 s.latest.0 still)

-- An open generation without entries.

not-filled : (n : ℕ) → nat_lt 0 n ≡ false → (n == 0) ≡ true
not-filled n empty = grind (arith, nat_tests, empty)

none-between : (n : ℕ) → n - n ≡ 0
none-between n = omega arith

append-nil : {X : Type 0} (xs : List X) → xs ++ [] ≡ xs
append-nil [] = refl
append-nil {X = X} (x ∷ xs) = ap (λ (rest : List X). x ∷ rest) (append-nil xs)

pub book-stays : (book : Book) (moment : Moment) → nat_lt 0 book.filling.filled ≡ false → closed_now book moment ≡ book
book-stays book moment empty =
    ap (λ (filling : Filling). moved_to book filling moment) (if-true (book.filling.filled == 0) book.filling (record { last_closed = book.filling.last_closed + 1; filled = 0 }) (not-filled book.filling.filled empty))
    ∙ ap (λ (n : ℕ). (let b : Book = record { filling = book.filling; closings = book.closings ++ map (closing_at moment) (range_with_len (book.filling.last_closed + 1) n) } in b)) (none-between book.filling.last_closed)
    ∙ ap (λ (closings : List Closing). (let b : Book = record { filling = book.filling; closings = closings } in b)) (append-nil book.closings)

closed-stays : (p : PublisherTables) → nat_lt 0 p.gens.filling.filled ≡ false → tables_after_close p ≡ p
closed-stays p empty = ap (λ (gens : Book). (let q : PublisherTables = record p { gens = gens } in q)) (book-stays p.gens p.latest empty)

sub-closed-stays : (s : SubscriberTables) → nat_lt 0 s.gens.filling.filled ≡ false → subscriber_closed s ≡ s
sub-closed-stays s empty = ap (λ (gens : Book). (let t : SubscriberTables = record s { gens = gens } in t)) (book-stays s.gens (record { 0 = s.changes }) empty)

pub closings-quiet : QuietClosings
closings-quiet now p done made quiet =
    let both = neither (is_later now p.latest) (nat_lt 0 p.gens.filling.filled) quiet in
    made-same (counter_end (counters p)) (tables_after_close (at_moment now p)) p (last_closed (tables_after_close (at_moment now p))) done
    (λ fine. ap tables_after_close (moment-stays now p both.0) ∙ closed-stays p both.1) made

pub sub-closings-quiet : QuietSubscriberClosings
sub-closings-quiet now s done made quiet =
    let both = neither (is_later now s.latest) (nat_lt 0 s.gens.filling.filled) quiet in
    made-same (counter_end (subscriber_counters s)) (subscriber_closed (subscriber_at_moment now s)) s (subscriber_last_closed (subscriber_closed (subscriber_at_moment now s))) done
    (λ fine. ap subscriber_closed (sub-moment-stays now s both.0) ∙ sub-closed-stays s both.1) made

-- Replies and messages.

abbrev taken_in_answer : Result (SubscriberTables × Taken) Refusal → Bool
taken_in_answer (Ok done) = taken_commits done.1
taken_in_answer (Err why) = false

acts-alone : (b : Bool) (refusal : Option Refusal) (acted s : SubscriberTables) (missed : Taken) (done : SubscriberTables × Taken)
    → (let result : Result (SubscriberTables × Taken) Refusal = if b then unless refusal (acted, Acted) else Ok (s, missed) in result) ≡ Ok done → taken_commits done.1 ≡ false → done.0 ≡ s
acts-alone true (Some why) acted s missed done made quiet = absurd cc
acts-alone true None acted s missed done made quiet = let no : true ≡ false = ap taken_in_answer made ∙ quiet in absurd cc
acts-alone false refusal acted s missed done made quiet = ap (tables_in s) (sym made)

met-quiet : (publication : Publication) (judge : SubscriberJudge) (now : Moment) (m : Reply) (s : SubscriberTables) (found : Option (ℕ × Outstanding)) (done : SubscriberTables × Taken)
    → met_by publication judge now m s found ≡ Ok done → taken_commits done.1 ≡ false → done.0 ≡ s
met-quiet publication judge now m s None done made quiet = ap (tables_in s) (sym made)
met-quiet publication judge now m s (Some sent) done made quiet =
    acts-alone (sent.0 == seq_of m) (reply_fault publication sent.1 m s) (tables_after_reply judge now m s) s (Missed (seq_of m) sent.0) done made quiet

pub replies-quiet : QuietReplies
replies-quiet publication judge now (reply.Joined m) s done made quiet = met-quiet publication judge now (reply.Joined m) s s.outstanding done made quiet
replies-quiet publication judge now (reply.Uploaded m) s done made quiet = met-quiet publication judge now (reply.Uploaded m) s s.outstanding done made quiet
replies-quiet publication judge now (reply.Ranged m) s done made quiet = met-quiet publication judge now (reply.Ranged m) s s.outstanding done made quiet
replies-quiet publication judge now (reply.Downloaded m) s done made quiet = met-quiet publication judge now (reply.Downloaded m) s s.outstanding done made quiet
replies-quiet publication judge now (reply.Refused number values) s done made quiet = ap (tables_in s) (sym made)

abbrev message_in_answer : {A : Type 0} → Result (SubscriberTables × Option A) Refusal → Bool
message_in_answer (Ok done) = message_commits done.1
message_in_answer (Err why) = false

-- a message that there is none to make of
pub messages-quiet : {A : Type 0} (s : SubscriberTables) (made : Result (Option (SubscriberTables × A)) Refusal) (done : SubscriberTables × Option A)
    → message_or_none s made ≡ Ok done → message_commits done.1 ≡ false → done.0 ≡ s
messages-quiet s (Err why) done made quiet = absurd cc
messages-quiet s (Ok None) done made quiet = ap (tables_in s) (sym made)
messages-quiet s (Ok (Some message)) done made quiet = let no : true ≡ false = ap message_in_answer made ∙ quiet in absurd cc

-- Ranges.

one-stays : (grants : List Grant) (ask : Ask) (answer : Answer) → is_new_grant answer ≡ false → grants_after grants ask answer ≡ grants
one-stays grants ask (Ok (Granted number range)) old = absurd cc
one-stays grants ask (Ok (Kept number range)) old = refl
one-stays grants ask (Ok NotDue) old = refl
one-stays grants ask (Err fault) old = refl

grants-stay : (grants : List Grant) (planned : List GrantPlan) → list_any (λ (plan : GrantPlan). is_new_grant plan.answer) planned ≡ false → grants_with_all grants planned ≡ grants
grants-stay grants [] old = refl
grants-stay grants (plan ∷ planned) old =
    let both = neither (is_new_grant plan.answer) (list_any (λ (other : GrantPlan). is_new_grant other.answer) planned) old in
    ap (λ (left : List Grant). grants_with_all left planned) (one-stays grants plan.ask plan.answer both.0) ∙ grants-stay grants planned both.1

-- A site's state.

synced-stays : (m : Download) (p : PublisherTables) (state : SiteState) → is_behind m p state ≡ false → state_after_download m p state ≡ state
synced-stays m p state even =
    let both = neither (nat_lt state.watermark m.from) (nat_lt state.last_sync (in_step m p)) even in
    ap (λ (n : ℕ). (let s : SiteState = record state { watermark = n; last_sync = max state.last_sync (in_step m p) } in s)) (lesser-stays state.watermark m.from both.0)
    ∙ ap (λ (n : ℕ). (let s : SiteState = record state { last_sync = n } in s)) (lesser-stays state.last_sync (in_step m p) both.1)

nat-tied : (a b : ℕ) → nat_cmp a b ≡ Equal → a ≡ b
nat-tied a b e = numbers-same a b (let same : (a == b) ≡ true = grind (arith, nat_tests, e) in same)

put-head : {V : Type 0} (n q : ℕ) (v : V) (es : List (ℕ × V)) (b : Bool) → is_at (nat_cmp q) n ≡ b → at_number es n ≡ Some v → cond b (Some v) (at_number es q) ≡ at_number es q
put-head n q v es true is at = sym at ∙ ap (λ (k : ℕ). at_number es k) (let same : n ≡ q = grind (arith, nat_tests, is) in same)
put-head n q v es false is at = refl

-- an entry that is put where it stands
pub put-stays : {V : Type 0} (es : List (ℕ × V)) (n : ℕ) (v : V) → IsStrictlySortedBy nat_cmp (keys_of es) → at_number es n ≡ Some v → put_number es n v ≡ es
put-stays es n v sorted at =
    rows_from_look_ups nat_cmp nat_cmp_total nat-tied (put_number es n v) es (sorted_put nat_cmp nat_cmp_total n v es sorted) sorted
    (λ q. at_put n q v es ∙ put-head n q v es (is_at (nat_cmp q) n) refl at)

state-found : (found : Option SiteState) (none : SiteState) → is_some found ≡ true → found ≡ Some (unwrap_or found none)
state-found None none is = absurd cc
state-found (Some state) none is = refl

site-fine : (publication : Publication) (now : Moment) (m : Download) (p : PublisherTables) → download_refusal publication now m p ≡ None → at_number p.sites m.site.0 ≡ Some (state_of p m.site)
site-fine publication now m p fine =
    let all = first-none (site_refusal publication m.site m.seq now p) _ fine in
    let site = first-none (unknown_site publication m.site) _ all.0 in
    let state = first-none (state_refusal publication m.seq (later now p.latest) (at_number p.sites m.site.0)) _ site.1 in
    state-found (at_number p.sites m.site.0) no_state (state-known publication m.seq (later now p.latest) (at_number p.sites m.site.0) state.0)

asked-stays : (publication : Publication) (now : Moment) (m : Download) (p : PublisherTables) → AreSorted p → download_refusal publication now m p ≡ None
    → is_behind m p (state_of p m.site) ≡ false → nat_lt 0 p.gens.filling.filled ≡ false → tables_after_download m p ≡ p
asked-stays publication now m p sorted fine even empty =
    ap (λ (state : SiteState). tables_after_close (with_state m.site state p)) (synced-stays m p (state_of p m.site) even)
    ∙ ap (λ (sites : List (ℕ × SiteState)). tables_after_close (let q : PublisherTables = record p { sites = sites } in q)) (put-stays p.sites m.site.0 (state_of p m.site) sorted.sites_ascend (site-fine publication now m p fine))
    ∙ closed-stays p empty

-- Each request.
pub requests-quiet : QuietRequests
requests-quiet publication says tallies now (request.Join m) p done sorted made quiet =
    let both = neither (is_later now p.latest) (join_acts m p) quiet in
    reply-same (λ (j : Joined). reply.Joined j) (join_refusal publication m p) (tables_after_join m (at_moment now p)) p (record { seq = m.seq }) done
    (λ fine. ap (tables_after_join m) (moment-stays now p both.0) ∙ if-false (join_acts m p) (join_taken m p) p both.1) made
requests-quiet publication says tallies now (request.Upload m) p done sorted made quiet =
    let both = neither (is_later now p.latest) (brings_news (by_numbers p) m) quiet in
    let decisions : List Decision = kept_decisions says tallies (upload_questions publication (by_numbers p) now m p) in
    let q : PublisherTables = at_moment now p in
    reply-same (λ (u : Uploaded). reply.Uploaded u) (upload_refusal publication (by_numbers p) now m p) (tables_after_upload publication (by_numbers p) m decisions q) p
    (record { seq = m.seq; received = max m.to ((by_numbers p).received m.site.0) }) done
    (λ fine. if-false (brings_news (by_numbers p) m) (taken_in publication (by_numbers p) m (acts_of (by_numbers p) m decisions q) q) q both.1 ∙ moment-stays now p both.0) made
requests-quiet publication says tallies now (request.Ranges m) p done sorted made quiet =
    let both = neither (is_later now p.latest) (list_any (λ (plan : GrantPlan). is_new_grant plan.answer) (plans publication m p)) quiet in
    reply-same (λ (r : Ranged). reply.Ranged r) (ranges_refusal publication (by_numbers p) now m p) (with_grants (plans publication m p) (at_moment now p)) p (reply_to_ranges m (plans publication m p)) done
    (λ fine. ap (λ (grants : List Grant). (let q : PublisherTables = record (at_moment now p) { grants = grants } in q)) (grants-stay p.grants (plans publication m p) both.1) ∙ moment-stays now p both.0) made
requests-quiet publication says tallies now (request.Download m) p done sorted made quiet =
    let both = neither (is_later now p.latest) (is_behind m p (state_of p m.site) || nat_lt 0 p.gens.filling.filled) quiet in
    let rest = neither (is_behind m p (state_of p m.site)) (nat_lt 0 p.gens.filling.filled) both.1 in
    let after : PublisherTables = tables_after_download m (at_moment now p) in
    reply-same (λ (d : Downloaded). reply.Downloaded d) (download_refusal publication now m p) after p (reply_to publication (by_numbers p) m after) done
    (λ fine. ap (tables_after_download m) (moment-stays now p both.0) ∙ asked-stays publication now m p sorted fine rest.0 rest.1) made
