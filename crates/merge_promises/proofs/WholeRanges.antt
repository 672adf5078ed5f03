-- Each range that a site holds, and each that a reply tells of, is one that was granted to someone, whole: every step keeps this.
use Rattle.std.specs.BTreeMap.{is_at}
use Rattle.std.specs.List.{AllByRecursion, fold}
use Rattle.std.specs.Ordering.{nat_cmp}
use Rattle.std.specs.declared.cmp.Ordering.{Ordering}
use Rattle.std.specs.declared.cmp.Ordering.TheVariants.{Equal, Greater, Less}
use Rattle.std.specs.Prelude.{Bool, Err, IfOk, List, None, Ok, Option, Result, Some, [], cond, count_by, false, filter_map, find, if◌then◌else◌, length, map, nat_le, option_map, pos, refl, suc, true, unwrap_or, zero, ◌++◌, ◌+◌, ◌-◌, ◌==◌, ◌≡◌, ◌≤◌, ◌∷◌, ℕ, ℤ}
use Rattle.std.proofs.Common.{arith, subst, sym}
use Rattle.merge_types.specs.declared.changes.Change.{Change}
use Rattle.merge_types.specs.declared.changes.Change.TheVariants.{Delete, Insert, Update}
use Rattle.merge_types.specs.declared.identifiers.SiteId.{SiteId}
use Rattle.merge_types.specs.declared.row_key.RowKey.{RowKey as Key}
use Rattle.merge_types.specs.declared.values.Value.{Value}
use Rattle.merge_types.specs.declared.values.Value.TheVariants.{Null}
use Rattle.merge_units.specs.declared.version.Version.{Version}
use Rattle.merge_ident.specs.Answers.{Answer, answer_by, answer_of, grants_after, grants_with, grants_with_all, kept_answer, new_grant, next_begin, next_end, plan_of, plans_of, rule_of, ruled_answer}
use Rattle.merge_ident.specs.Grants.{granted_to, greatest_end, is_numbered, is_of, natural}
use Rattle.merge_ident.specs.Holders.{Holder, Received as ReceivedRange, after_receive, after_take, answer_to_take, has_values, held_after_take, new_holder, unused, used_once_more}
use Rattle.merge_ident.specs.declared.grants.Ask.{Ask}
use Rattle.merge_ident.specs.declared.grants.Grant.{Grant}
use Rattle.merge_ident.specs.declared.grants.GrantAnswer.TheVariants.{Granted, Kept, NotDue}
use Rattle.merge_ident.specs.declared.grants.GrantPlan.{GrantPlan}
use Rattle.merge_ident.specs.declared.grants.IdentityFault.{IdentityFault}
use Rattle.merge_ident.specs.declared.grants.IdentityFault.TheVariants.{NoRange, TooMany}
use Rattle.merge_ident.specs.declared.grants.Range.{Range}
use Rattle.merge_ident.specs.declared.grants.Rule.{Rule}
use Rattle.merge_ident.specs.declared.ranges.IdentityUsedUp.{IdentityUsedUp as IdentityEnd}
use Rattle.merge_ident.proofs.Added.{count_by-with_grant}
use Rattle.merge_ident.proofs.Stored.{and-first, and-second}
use Rattle.merge_schema.specs.declared.publication.Identity.{Identity}
use Rattle.merge_schema.specs.declared.publication.Publication.{Publication}
use Rattle.merge_schema.specs.declared.publication.Subscription.{Subscription}
use Rattle.merge_batch.specs.declared.refusal.Refusal.{Refusal}
use Rattle.merge_batch.specs.declared.reply.RangeGrant.{RangeGrant}
use Rattle.merge_batch.specs.declared.reply.Reply.{Reply}
use Rattle.merge_batch.specs.declared.reply.Reply.TheVariants as reply
use Rattle.merge_batch.specs.declared.request.Outstanding.TheVariants as ask
use Rattle.merge_batch.specs.declared.request.RangeAsk.{RangeAsk}
use Rattle.merge_batch.specs.declared.request.Request.TheVariants as request
use Rattle.merge_batch.specs.declared.request.Upload.{Upload}
use Rattle.merge_model.specs.Failing.{Slips, faulty}
use Rattle.merge_model.specs.Failing.Runs.{model_behind_actions}
use Rattle.merge_model.specs.History.{History, pasts_with}
use Rattle.merge_model.specs.History.Model.{Model, empty_model, model}
use Rattle.merge_model.specs.Judge.ByHistory.{by_made, by_past}
use Rattle.merge_model.specs.Judge.{PublisherJudge, SubscriberJudge}
use Rattle.merge_model.specs.Publisher.{new_holders}
use Rattle.merge_model.specs.Publisher.PublisherDownload.{reply_to, tables_after_download}
use Rattle.merge_model.specs.Publisher.PublisherJoin.{join_taken}
use Rattle.merge_model.specs.Publisher.PublisherLocal.{Drawn, after_answer, draw_for_change, drawn_from, no_draw, own_ask, taken_from}
use Rattle.merge_model.specs.Publisher.PublisherRanges.{ask_by, granted_by, plans, reply_to_ranges, with_grants}
use Rattle.merge_model.specs.Publisher.PublisherUpload.{taken_in}
use Rattle.merge_model.specs.Subscriber.Reinit.{result_of_reinit}
use Rattle.merge_model.specs.Subscriber.Sending.{join_of, upload_sent, want_of, with_message}
use Rattle.merge_model.specs.Subscriber.Taking.{tables_after_reply, with_grant}
use Rattle.merge_model.specs.Subscriber.{empty_subscriber, subscriber_at_moment, subscriber_closed, subscriber_drawn, subscriber_made_locally, subscriber_next_dot, subscriber_version_at, taken_value, with_version_if}
use Rattle.merge_model.specs.Tables.Changes.{key_of, version_after}
use Rattle.merge_model.specs.Tables.Keys.{at_number, put_number}
use Rattle.merge_model.specs.Tables.Publications.{by_site, identities, rules_of}
use Rattle.merge_model.specs.Tables.{PublisherTables, SubscriberTables}
use Rattle.merge_model.specs.World.Steps.{Action, post}
use Rattle.merge_model.specs.World.{Saying, World, empty_subscribers, empty_world, subscriber_at, with_publisher, with_subscriber}
use Rattle.merge_model.specs.declared.letter.Letter.{Letter}
use Rattle.merge_model.specs.declared.letter.Message.{Message}
use Rattle.merge_model.specs.declared.letter.Message.TheVariants.{Asks, Replies}
use Rattle.merge_model.proofs.Entries.EntryLists.{all-dropped}
use Rattle.merge_model.proofs.Lists.Finding.{all-more, all-weaker, pool-at}
use Rattle.merge_model.proofs.Lists.Tests.{numbers-same}
use Rattle.merge_model.proofs.Lists.{OfSome, all-filter, all-filter_map}
use Rattle.merge_model.proofs.Runs.Actions.{failing-actions-keep}
use Rattle.merge_laws.specs.Facts.Identities.{held_at, holder_in, holders_at, told_range}
use Rattle.merge_laws.specs.Facts.Received.{Received}
use Rattle.merge_laws.proofs.Identities.IdentityCalls.{counts-cons}
use Rattle.merge_laws.proofs.Identities.IdentityGrants.{Grows, all-grow, with_new-grows}
use Rattle.merge_laws.proofs.Identities.IdentityPlaces.{article-put, found-held, found-holder, own-put, subscriber-put}
use Rattle.merge_laws.proofs.Received.Models.{model-fine, received-always}
use Rattle.merge_laws.proofs.Runs.Tallied.{received-tallied}
use Rattle.merge_laws.proofs.Walking.{StepsKeep, acts_in, here, step-keeps, told_by, uploaded_world}
use Rattle.merge_owed.proofs.HeldThresholds.{version-held}
use Rattle.merge_promises.specs.GrantedRanges.{gives_range}
use Rattle.merge_promises.proofs.RangesApart.{IsWhole, one-counts, range-itself}

abbrev pub HolderIsWhole : List Grant → ℕ → Holder → Type 0
HolderIsWhole grants article holder = AllByRecursion (λ (held : ReceivedRange). IsWhole grants article held.range) holder.held

abbrev pub Holds : List Grant → List (ℕ × Holder) → Type 0
Holds grants held = (article : ℕ) → HolderIsWhole grants article (holder_in held article)

abbrev pub IsTold : List Grant → RangeGrant → Type 0
IsTold grants told = IsWhole grants told.article (told_range told)

-- the ranges that a message tells of
abbrev pub ranges_told : Message → List RangeGrant
ranges_told (Replies (reply.Ranged m)) = m.grants
ranges_told message = []

abbrev pub LetterTells : List Grant → Letter → Type 0
LetterTells grants letter = AllByRecursion (IsTold grants) (ranges_told letter.message)

pub record WholeRanges (grants : List Grant) (own : List (ℕ × Holder)) (subscribers : List (ℕ × SubscriberTables)) (pool : List Letter) : Type 0 where
  pub held : (site article : ℕ) → HolderIsWhole grants article (holder_in (holders_at own subscribers site) article)
  pub letters : AllByRecursion (LetterTells grants) pool

abbrev pub Whole : World → Type 0
Whole w = WholeRanges w.publisher.grants w.publisher.held w.subscribers w.pool

-- As more is granted.

whole-grows : (grants more : List Grant) → Grows grants more → (article : ℕ) (range : Range) → IsWhole grants article range → IsWhole more article range
whole-grows grants more grow article range whole = (whole.0, omega (arith, whole.1, grow (gives_range whole.0 article range)))

holder-grows : (grants more : List Grant) → Grows grants more → (article : ℕ) (holder : Holder) → HolderIsWhole grants article holder → HolderIsWhole more article holder
holder-grows grants more grow article holder all = all-weaker (λ (held : ReceivedRange). IsWhole grants article held.range) (λ (held : ReceivedRange). IsWhole more article held.range)
    (λ held whole. whole-grows grants more grow article held.range whole) holder.held all

letters-grow : (grants more : List Grant) → Grows grants more → (pool : List Letter) → AllByRecursion (LetterTells grants) pool → AllByRecursion (LetterTells more) pool
letters-grow grants more grow pool all = all-weaker (LetterTells grants) (LetterTells more)
    (λ letter tells. all-weaker (IsTold grants) (IsTold more) (λ told whole. whole-grows grants more grow told.article (told_range told) whole) (ranges_told letter.message) tells) pool all

same-grants : (grants : List Grant) → Grows grants grants
same-grants grants test = omega arith

-- What an answer keeps was granted.

abbrev KeepsWhole : List Grant → ℕ → Answer → Type 0
KeepsWhole grants article (Ok (Kept number range)) = IsWhole grants article range
KeepsWhole grants article answer = Unit {0}

by-order : (grants : List Grant) (article : ℕ) (order : Ordering) (due : Bool) (kept too_many next : Answer) → KeepsWhole grants article kept → KeepsWhole grants article too_many → KeepsWhole grants article next
    → KeepsWhole grants article (answer_by order due kept too_many next)
by-order grants article Less due kept too_many next one two three = one
by-order grants article Greater due kept too_many next one two three = two
by-order grants article Equal false kept too_many next one two three = tt
by-order grants article Equal true kept too_many next one two three = three

first-counts : (site article number : ℕ) (grant : Grant) (grants : List Grant) → is_numbered article site number grant ≡ true → 1 ≤ count_by (gives_range site article grant.range) (grant ∷ grants)
first-counts site article number grant grants is =
    let of : is_of article site grant ≡ true = and-first (is_of article site grant) (grant.number == number) is in
    let given : gives_range site article grant.range grant ≡ true = range-itself grant site article
    (numbers-same grant.site.0 site (and-second (grant.article == article) (grant.site.0 == site) of)) (numbers-same grant.article article (and-first (grant.article == article) (grant.site.0 == site) of)) in
    omega (arith, counts-cons (gives_range site article grant.range) grant grants, one-counts (gives_range site article grant.range grant) given)

found-step : (b : Bool) (site article number : ℕ) (first : Grant) (grants : List Grant) (later : Option Grant) → is_numbered article site number first ≡ b → KeepsWhole grants article (kept_answer later)
    → KeepsWhole (first ∷ grants) article (kept_answer (let found : Option Grant = cond b (Some first) later in found))
found-step true site article number first grants later is keeps = (site, first-counts site article number first grants is)
found-step false site article number first grants None is keeps = tt
found-step false site article number first grants (Some grant) is keeps = whole-grows grants (first ∷ grants) (λ test. omega (arith, counts-cons test first grants)) article grant.range keeps

found-whole : (site article number : ℕ) (grants : List Grant) → KeepsWhole grants article (kept_answer (find (is_numbered article site number) grants))
found-whole site article number [] = tt
found-whole site article number (first ∷ grants) = found-step (is_numbered article site number first) site article number first grants (find (is_numbered article site number) grants) refl (found-whole site article number grants)

if-keeps : (grants : List Grant) (article : ℕ) (b : Bool) (number : ℕ) (range : Range) (fault : IdentityFault) → (let answer : Answer = if b then Ok (Granted number range) else Err fault in KeepsWhole grants article answer)
if-keeps grants article true number range fault = tt
if-keeps grants article false number range fault = tt

ruled-keeps : (grants : List Grant) (article : ℕ) (rule : Option Rule) (site number greatest : ℕ) → KeepsWhole grants article (ruled_answer rule site number greatest)
ruled-keeps grants article None site number greatest = tt
ruled-keeps grants article (Some rule) site number greatest =
    if-keeps grants article (nat_le (next_end rule site greatest) (natural rule.greatest)) number (record { begin = pos (next_begin rule greatest); end = pos (next_end rule site greatest) }) (NoRange (next_begin rule greatest) rule.greatest)

answer-keeps : (rules : List Rule) (grants : List Grant) (a : Ask) → KeepsWhole grants a.article (answer_of rules grants a)
answer-keeps rules grants a =
    let granted : ℕ = granted_to a.article a.site.0 grants in
    let kept : Answer = kept_answer (find (is_numbered a.article a.site.0 (a.have + 1)) grants) in
    let next : Answer = ruled_answer (rule_of rules a.article) a.site.0 (a.have + 1) (greatest_end a.article grants) in
    by-order grants a.article (nat_cmp a.have granted) a.due kept (Err (TooMany granted)) next
    (found-whole a.site.0 a.article (a.have + 1) grants) tt (ruled-keeps grants a.article (rule_of rules a.article) a.site.0 (a.have + 1) (greatest_end a.article grants))

-- What an answer tells of was granted, as a new range or before.

new-whole : (grants : List Grant) (a : Ask) (number : ℕ) (range : Range) → IsWhole (grants_after grants a (Ok (Granted number range))) a.article range
new-whole grants a number range =
    let new : Grant = record { article = a.article; site = a.site; number = number; range = range } in
    let given : gives_range a.site.0 a.article range new ≡ true = range-itself new a.site.0 a.article refl refl in
    let more : count_by (gives_range a.site.0 a.article range) (grants_after grants a (Ok (Granted number range))) ≡ cond (gives_range a.site.0 a.article range new) 1 0 + count_by (gives_range a.site.0 a.article range) grants =
    count_by-with_grant (gives_range a.site.0 a.article range) new grants in
    (a.site.0, omega (arith, more, one-counts (gives_range a.site.0 a.article range new) given))

answer-tells : (grants : List Grant) (a : Ask) (answer : Answer) → KeepsWhole grants a.article answer → OfSome (IsTold (grants_after grants a answer)) (granted_by a.article answer)
answer-tells grants a (Ok (Granted number range)) keeps = new-whole grants a number range
answer-tells grants a (Ok (Kept number range)) keeps = keeps
answer-tells grants a (Ok NotDue) keeps = tt
answer-tells grants a (Err fault) keeps = tt

some-grows : (grants more : List Grant) → Grows grants more → (found : Option RangeGrant) → OfSome (IsTold grants) found → OfSome (IsTold more) found
some-grows grants more grow None whole = tt
some-grows grants more grow (Some told) whole = whole-grows grants more grow told.article (told_range told) whole

abbrev telling : GrantPlan → Option RangeGrant
telling plan = granted_by plan.ask.article plan.answer

plans-tell : (rules : List Rule) (grants : List Grant) (asks : List Ask)
    → (let planned : List GrantPlan = plans_of rules grants asks in AllByRecursion (λ (plan : GrantPlan). OfSome (IsTold (grants_with_all grants planned)) (telling plan)) planned)
plans-tell rules grants [] = tt
plans-tell rules grants (a ∷ asks) =
    let next : List Grant = grants_with grants (plan_of rules grants a) in
    let answer : Answer = answer_of rules grants a in
    (some-grows next (grants_with_all next (plans_of rules next asks)) (all-grow rules next asks) (granted_by a.article answer) (answer-tells grants a answer (answer-keeps rules grants a)), plans-tell rules next asks)

plans-told : (rules : List Rule) (grants : List Grant) (asks : List Ask)
    → (let planned : List GrantPlan = plans_of rules grants asks in AllByRecursion (IsTold (grants_with_all grants planned)) (filter_map telling planned))
plans-told rules grants asks =
    let planned : List GrantPlan = plans_of rules grants asks in
    all-filter_map (λ (plan : GrantPlan). OfSome (IsTold (grants_with_all grants planned)) (telling plan)) (IsTold (grants_with_all grants planned)) telling (λ plan told. told) planned (plans-tell rules grants asks)

-- A value is taken, or a range received.

taken-all : (grants : List Grant) (article : ℕ) (held : List ReceivedRange) → AllByRecursion (λ (received : ReceivedRange). IsWhole grants article received.range) held → AllByRecursion (λ (received : ReceivedRange). IsWhole grants article received.range) (held_after_take held)
taken-all grants article [] all = tt
taken-all grants article (first ∷ rest) all = all-filter (λ (received : ReceivedRange). IsWhole grants article received.range) has_values (used_once_more first ∷ rest) all

take-whole : (grants : List Grant) (article : ℕ) (holder : Holder) → HolderIsWhole grants article holder → HolderIsWhole grants article (after_take holder)
take-whole grants article holder all = taken-all grants article holder.held all

receive-whole : (grants : List Grant) (article : ℕ) (holder : Holder) (range : Range) → HolderIsWhole grants article holder → IsWhole grants article range → HolderIsWhole grants article (after_receive holder range)
receive-whole grants article holder range all whole =
    let more : List ReceivedRange = holder.held ++ unused range ∷ [] in
    all-dropped (λ (received : ReceivedRange). IsWhole grants article received.range) (length more - 2) more (all-more (λ (received : ReceivedRange). IsWhole grants article received.range) holder.held (unused range) all whole)

-- The publisher draws a value, and grants itself a range where it has none.

module _ (publication : Publication) (p : PublisherTables) (subscribers : List (ℕ × SubscriberTables)) (pool : List Letter) (i : WholeRanges p.grants p.held subscribers pool) where
  abbrev After : List Grant → List (ℕ × Holder) → Type 0
  After grants own = WholeRanges grants own subscribers pool

  drawn-put : (grants : List Grant) → Grows p.grants grants → (article : ℕ) (holder : Holder) → HolderIsWhole grants article holder → After grants (put_number p.held article holder)
  drawn-put grants grow article holder whole = record {
    held = own-put (λ (site : ℕ) (held : List (ℕ × Holder)). Holds grants held) p.held (put_number p.held article holder) subscribers
        (article-put (λ (other : ℕ) (h : Holder). HolderIsWhole grants other h) p.held article holder whole (λ other differs. holder-grows p.grants grants grow other (holder_in p.held other) (i.held 0 other)))
        (λ site low other. holder-grows p.grants grants grow other (holder_in (holders_at p.held subscribers site) other) (i.held site other));
    letters = letters-grow p.grants grants grow pool i.letters;
  }

  from-taken : (grants : List Grant) → Grows p.grants grants → (article : ℕ) (holder : Holder) → HolderIsWhole grants article holder → (result : Result ℤ IdentityEnd) → IfOk (taken_from p grants article holder result) (λ d. After d.grants d.held)
  from-taken grants grow article holder whole (Ok value) = drawn-put grants grow article (after_take holder) (take-whole grants article holder whole)
  from-taken grants grow article holder whole (Err used_up) = tt

  after-answered : (article : ℕ) (holder : Holder) → HolderIsWhole p.grants article holder → (answer : Answer) → IfOk (after_answer p article holder answer) (λ d. After d.grants d.held)
  after-answered article holder whole (Ok (Granted number range)) =
      let grants : List Grant = grants_after p.grants (own_ask p article) (Ok (Granted number range)) in
      let grow : Grows p.grants grants = with_new-grows p.grants (new_grant (own_ask p article) (Ok (Granted number range))) in
      from-taken grants grow article (after_receive holder range)
      (receive-whole grants article holder range (holder-grows p.grants grants grow article holder whole) (new-whole p.grants (own_ask p article) number range)) (answer_to_take (after_receive holder range))
  after-answered article holder whole (Ok (Kept number range)) = from-taken p.grants (same-grants p.grants) article holder whole (answer_to_take holder)
  after-answered article holder whole (Ok NotDue) = from-taken p.grants (same-grants p.grants) article holder whole (answer_to_take holder)
  after-answered article holder whole (Err fault) = from-taken p.grants (same-grants p.grants) article holder whole (answer_to_take holder)

  from-drawn : (article : ℕ) (holder : Holder) → HolderIsWhole p.grants article holder → (result : Result ℤ IdentityEnd) → IfOk (drawn_from publication p article holder result) (λ d. After d.grants d.held)
  from-drawn article holder whole (Ok value) = from-taken p.grants (same-grants p.grants) article holder whole (Ok value)
  from-drawn article holder whole (Err used_up) = after-answered article holder whole (answer_of (rules_of publication) p.grants (own_ask p article))

  found-drawn : (article : ℕ) (found : Option Holder) → at_number p.held article ≡ found
      → (let draw : Result Drawn Refusal = elim found [ None ↦ Ok (no_draw p) | Some holder ↦ drawn_from publication p article holder (answer_to_take holder) ] in IfOk draw (λ d. After d.grants d.held))
  found-drawn article None at = i
  found-drawn article (Some holder) at =
      from-drawn article holder (subst (λ (h : Holder). HolderIsWhole p.grants article h) (found-holder p.held article holder at) (i.held 0 article)) (answer_to_take holder)

  draw-whole : (change : Change) → IfOk (draw_for_change publication p change) (λ d. After d.grants d.held)
  draw-whole (Insert article values) = found-drawn article (at_number p.held article) refl
  draw-whole (Update article row values) = i
  draw-whole (Delete article row) = i

-- A message is posted.
posted-whole : (site : SiteId) (message : Message) (w : World) → Whole w → AllByRecursion (IsTold w.publisher.grants) (ranges_told message) → Whole (post site message w).0
posted-whole site message w i tells = record { held = i.held; letters = all-more (LetterTells w.publisher.grants) w.pool (record { site = site; message = message }) i.letters tells }

-- A subscriber goes on.

version-site : (key : Key) (version : Option Version) (t : SubscriberTables) → (with_version_if key version t).site ≡ t.site
version-site key None t = refl
version-site key (Some version) t = refl

one-received : (grants : List Grant) (held : List (ℕ × Holder)) (told : RangeGrant) (found : Option Holder) → at_number held told.article ≡ found → IsTold grants told → Holds grants held
    → (let after : List (ℕ × Holder) = elim found [ None ↦ held | Some holder ↦ put_number held told.article (after_receive holder (told_range told)) ] in Holds grants after)
one-received grants held told None at whole holds = holds
one-received grants held told (Some holder) at whole holds =
    article-put (λ (article : ℕ) (h : Holder). HolderIsWhole grants article h) held told.article (after_receive holder (told_range told))
    (receive-whole grants told.article holder (told_range told) (subst (λ (h : Holder). HolderIsWhole grants told.article h) (found-holder held told.article holder at) (holds told.article)) whole)
    (λ other differs. holds other)

all-received : (grants : List Grant) (told : List RangeGrant) (held : List (ℕ × Holder)) → AllByRecursion (IsTold grants) told → Holds grants held → Holds grants (fold with_grant held told)
all-received grants [] held all holds = holds
all-received grants (first ∷ told) held all holds = all-received grants told (with_grant held first) all.1 (one-received grants held first (at_number held first.article) refl all.0 holds)

module _ (w : World) (i : Whole w) (s : SubscriberTables) (at : subscriber_at w s.site ≡ Some s) where
  abbrev HoldsHere : List (ℕ × Holder) → Type 0
  HoldsHere held = Holds w.publisher.grants held

  own-held : 1 ≤ s.site.0 → HoldsHere s.held
  own-held low = λ article. subst (λ (held : List (ℕ × Holder)). HolderIsWhole w.publisher.grants article (holder_in held article)) (found-held w.publisher.held w.subscribers s.site.0 s low at) (i.held s.site.0 article)

  holding : (t : SubscriberTables) → t.site ≡ s.site → (1 ≤ s.site.0 → HoldsHere t.held) → Whole (with_subscriber t w)
  holding t same holds =
      subst (λ (x : SiteId). WholeRanges w.publisher.grants w.publisher.held (put_number w.subscribers x.0 t) w.pool) (sym same) (record {
        held = subscriber-put (λ (site : ℕ) (held : List (ℕ × Holder)). HoldsHere held) w.publisher.held w.subscribers s.site.0 t holds (λ site differs. i.held site);
        letters = i.letters;
      })

  same-held : (t : SubscriberTables) → t.site ≡ s.site → t.held ≡ s.held → Whole (with_subscriber t w)
  same-held t same held = holding t same (λ low. subst (λ (x : List (ℕ × Holder)). HoldsHere x) (sym held) (own-held low))

  -- it takes a value
  value-took : (article : ℕ) (holder : Holder) → 1 ≤ s.site.0 → at_number s.held article ≡ Some holder → (result : Result ℤ IdentityEnd) → IfOk (taken_value s article holder result) (λ d. HoldsHere d.1)
  value-took article holder low found (Ok value) =
      article-put (λ (other : ℕ) (h : Holder). HolderIsWhole w.publisher.grants other h) s.held article (after_take holder)
      (take-whole w.publisher.grants article holder (subst (λ (h : Holder). HolderIsWhole w.publisher.grants article h) (found-holder s.held article holder found) (own-held low article)))
      (λ other differs. own-held low other)
  value-took article holder low found (Err used_up) = tt

  found-took : (article : ℕ) (found : Option Holder) → 1 ≤ s.site.0 → at_number s.held article ≡ found
      → (let draw : Result (Value × List (ℕ × Holder)) Refusal = elim found [ None ↦ Ok (Null, s.held) | Some holder ↦ taken_value s article holder (answer_to_take holder) ] in IfOk draw (λ d. HoldsHere d.1))
  found-took article None low at_none = own-held low
  found-took article (Some holder) low at_some = value-took article holder low at_some (answer_to_take holder)

  draw-took : (change : Change) → 1 ≤ s.site.0 → IfOk (subscriber_drawn s change) (λ d. HoldsHere d.1)
  draw-took (Insert article values) low = found-took article (at_number s.held article) low refl
  draw-took (Update article row values) low = own-held low
  draw-took (Delete article row) low = own-held low

  change-whole : (publication : Publication) (change : Change) (d : Value × List (ℕ × Holder)) → subscriber_drawn s change ≡ Ok d → Whole (with_subscriber (subscriber_made_locally publication change d (subscriber_at_moment w.moment s)).0 w)
  change-whole publication change d is =
      let t : SubscriberTables = subscriber_at_moment w.moment s in
      let key : Key = key_of (subscriber_next_dot s) change in
      let version : Option Version = version_after publication (subscriber_next_dot s) d.0 change (subscriber_version_at s key) in
      let u : SubscriberTables = record t { changes = t.changes + 1; held = d.1 } in
      holding (with_version_if key version u) (version-site key version u)
      (λ low. subst (λ (x : List (ℕ × Holder)). HoldsHere x) (sym (version-held key version u))
      (subst (λ (draw : Result (Value × List (ℕ × Holder)) Refusal). IfOk draw (λ x. HoldsHere x.1)) is (draw-took change low)))

  -- a reply comes that acts
  reply-acts : (judge : SubscriberJudge) (m : Reply) → AllByRecursion (IsTold w.publisher.grants) (ranges_told (Replies m)) → Whole (with_subscriber (tables_after_reply judge w.moment m s) w)
  reply-acts judge (reply.Joined m) tells = same-held (tables_after_reply judge w.moment (reply.Joined m) s) refl refl
  reply-acts judge (reply.Uploaded m) tells = same-held (tables_after_reply judge w.moment (reply.Uploaded m) s) refl refl
  reply-acts judge (reply.Ranged m) tells = holding (tables_after_reply judge w.moment (reply.Ranged m) s) refl (λ low. all-received w.publisher.grants m.grants s.held tells (own-held low))
  reply-acts judge (reply.Downloaded m) tells = same-held (tables_after_reply judge w.moment (reply.Downloaded m) s) refl refl
  reply-acts judge (reply.Refused number values) tells = same-held (tables_after_reply judge w.moment (reply.Refused number values) s) refl refl

-- The publisher answers an ask for ranges.
answers-ranges : (publication : Publication) (w : World) (site : SiteId) (m : RangeAsk) → Whole w
    → Whole (post site (Replies (reply.Ranged (reply_to_ranges m (plans publication m w.publisher)))) (with_publisher (with_grants (plans publication m w.publisher) (here w)) w)).0
answers-ranges publication w site m i =
    let grants : List Grant = w.publisher.grants in
    let asks : List Ask = map (ask_by m.site) m.wants in
    let more : List Grant = grants_with_all grants (plans_of (rules_of publication) grants asks) in
    let grow : Grows grants more = all-grow (rules_of publication) grants asks in
    posted-whole site (Replies (reply.Ranged (reply_to_ranges m (plans publication m w.publisher)))) (with_publisher (with_grants (plans publication m w.publisher) (here w)) w) (record {
      held = λ n article. holder-grows grants more grow article (holder_in (holders_at w.publisher.held w.subscribers n) article) (i.held n article);
      letters = letters-grow grants more grow w.pool i.letters;
    }) (plans-told (rules_of publication) grants asks)

-- Every step.

abbrev OfWhole : World → History → Type 0
OfWhole w h = Whole w

module _ (publication : Publication) (says : Saying) where
  whole-keep : StepsKeep publication says Received OfWhole
  whole-keep = record {
    moment = λ w h now r i. i;
    own_change = λ w h change d r i fine is. subst (λ (draw : Result Drawn Refusal). IfOk draw (λ x. WholeRanges x.grants x.held w.subscribers w.pool)) is (draw-whole publication w.publisher w.subscribers w.pool i change);
    own_closing = λ w h r i. i;
    forgetting = λ w h r i. i;
    same = λ w h s r i at. same-held w i s at s refl refl;
    subscriber_change = λ w h s change d r i at named fine is. change-whole w i s at publication change d is;
    subscriber_closing = λ w h s r i at. same-held w i s at (subscriber_closed (subscriber_at_moment w.moment s)) refl refl;
    anew = λ w h s r i at. same-held w i s at (result_of_reinit (by_made h s.site) (subscriber_at_moment w.moment s)).0 refl refl;
    sends_join = λ w h s r i at joining. (let t : SubscriberTables = with_message ask.Join s in posted-whole s.site (Asks (request.Join (join_of s))) (with_subscriber t w) (same-held w i s at t refl refl) tt);
    sends_upload = λ w h s r i at fine. (let made : SubscriberTables × Upload = upload_sent (by_made h s.site) (subscriber_closed (subscriber_at_moment w.moment s)) in
        posted-whole s.site (Asks (request.Upload made.1)) (with_subscriber made.0 w) (same-held w i s at made.0 refl refl) tt);
    sends_ranges = λ w h s r i at fine. (let t : SubscriberTables = with_message ask.Ranges s in
        posted-whole s.site (Asks (request.Ranges (record { site = s.site; seq = s.seq + 1; wants = map want_of s.held }))) (with_subscriber t w) (same-held w i s at t refl refl) tt);
    sends_ask = λ w h s r i at fine. (let t : SubscriberTables = with_message (ask.Download s.watermark) s in
        posted-whole s.site (Asks (request.Download (record { site = s.site; seq = s.seq + 1; from = s.watermark }))) (with_subscriber t w) (same-held w i s at t refl refl) tt);
    joins = λ w h number m r i at fine acts. posted-whole m.site (Replies (reply.Joined (record { seq = m.seq }))) (with_publisher (join_taken m (here w)) w) i tt;
    joins_again = λ w h number m r i at acts. posted-whole m.site (Replies (reply.Joined (record { seq = m.seq }))) (with_publisher (here w) w) i tt;
    uploads = λ w h number m r i at fine news. (let judge : PublisherJudge = by_past h (pasts_with h number) in
        posted-whole m.site (Replies (reply.Uploaded (told_by judge m))) (uploaded_world publication says judge m (taken_in publication judge m (acts_in publication says judge m w) (here w)) w) i tt);
    uploads_again = λ w h number m r i at none. (let judge : PublisherJudge = by_past h (pasts_with h number) in posted-whole m.site (Replies (reply.Uploaded (told_by judge m))) (uploaded_world publication says judge m (here w) w) i tt);
    answers_ranges = λ w h site m r i. answers-ranges publication w site m i;
    answers_ask = λ w h number site m r i at fine. posted-whole site (Replies (reply.Downloaded (reply_to publication (by_past h (pasts_with h number)) m (tables_after_download m (here w))))) (with_publisher (tables_after_download m (here w)) w) i tt;
    replies = λ w h s number m sent r i at there out none. reply-acts w i s at (by_made h s.site) m (pool-at (LetterTells w.publisher.grants) w number (record { site = s.site; message = Replies m }) there i.letters);
  }

-- How it begins: nothing is held.

found-in : {A B : Type 0} (of : A → B) (P : Option B → Type 0) (es : List (ℕ × A)) (n : ℕ) → P None → ((x : A) → P (Some (of x))) → P (at_number (map (λ (e : ℕ × A). (e.0, of e.1)) es) n)
found-in of P [] n none some = none
found-in {A = A} {B = B} of P (e ∷ es) n none some = elim (is_at (nat_cmp n) e.0) as (λ (b : Bool). P (let found : Option B = cond b (Some (of e.1)) (at_number (map (λ (x : ℕ × A). (x.0, of x.1)) es) n) in found)) [
  | true ↦ some e.1
  | false ↦ found-in of P es n none some
]

new-held : (publication : Publication) → Holds [] (new_holders publication)
new-held publication article = found-in (λ (identity : Identity). new_holder identity.threshold) (λ (found : Option Holder). HolderIsWhole [] article (unwrap_or found (new_holder 0))) (identities publication) article tt (λ identity. tt)

sites-held : (publication : Publication) (site : ℕ) → Holds [] (held_at (empty_subscribers publication) site)
sites-held publication site article = found-in (λ (subscription : Subscription). empty_subscriber publication subscription.site)
    (λ (found : Option SubscriberTables). HolderIsWhole [] article (holder_in (unwrap_or (option_map (λ (s : SubscriberTables). s.held) found) []) article)) (by_site publication) site tt (λ subscription. new-held publication article)

all-held : (publication : Publication) (site : ℕ) → Holds [] (holders_at (new_holders publication) (empty_subscribers publication) site)
all-held publication zero = new-held publication
all-held publication (suc k) = sites-held publication (suc k)

begins : (publication : Publication) (tallies : List ℕ) → Whole (empty_world publication tallies)
begins publication tallies = record { held = all-held publication; letters = tt }

-- Every list of actions.
pub whole-by-actions : (publication : Publication) (says : Saying) (tallies : List ℕ) (slips : Slips) (actions : List Action) → Whole (model_behind_actions publication says tallies slips actions).world
whole-by-actions publication says tallies slips actions =
    (failing-actions-keep publication (model publication says) (λ (m : Model). Received m.world m.history × Whole m.world)
    (λ m action both. (model-fine publication says m action both.0, step-keeps publication says Received OfWhole (λ w h r. r) (whole-keep publication says) m action both.0 both.1))
    (λ m others both. (received-tallied m.world others m.history both.0, both.1)) actions (faulty (empty_model publication tallies) slips)
    (received-always publication says tallies [] [], begins publication tallies)).1
