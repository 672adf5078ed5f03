-- Every step keeps that a site holds the identity articles in order, of each no more ranges than were granted to it.
use Rattle.std.specs.BTreeMap.{is_at}
use Rattle.std.specs.List.{AllByRecursion, cons_option, enumerate_from, fold, list_all, list_any}
use Rattle.std.specs.List.Sorted.{IsStrictlySortedBy}
use Rattle.std.specs.Map.{keys_of}
use Rattle.std.specs.Option.{option_map_or}
use Rattle.std.specs.Ordering.{nat_cmp}
use Rattle.std.specs.Prelude.{Bool, Err, IfOk, List, None, Ok, Option, Result, Some, [], cond, false, filter_map, is_some, map, option_map, refl, slice_get, suc, true, ℕ, ℤ, ◌++◌, ◌+◌, ◌-◌, ◌==◌, ◌≡◌, ◌≤◌, ◌∷◌}
use Rattle.std.specs.declared.cmp.Ordering.TheVariants.{Equal}
use Rattle.std.proofs.Common.{ap, arith, subst, sym, ◌∙◌}
use Rattle.std.proofs.lemmas.Bool.Decides.{nat_tests}
use Rattle.std.proofs.lemmas.Cmp.{nat_cmp_total}
use Rattle.merge_table.proofs.Room.{AreAbove}
use Rattle.merge_table.proofs.Sorted.{sorted_put}
use Rattle.merge_types.specs.declared.changes.Change.{Change}
use Rattle.merge_types.specs.declared.changes.Change.TheVariants.{Delete, Insert, Update}
use Rattle.merge_types.specs.declared.identifiers.Moment.{Moment}
use Rattle.merge_types.specs.declared.identifiers.SiteId.{SiteId}
use Rattle.merge_types.specs.declared.row_key.RowKey.{RowKey as Key}
use Rattle.merge_types.specs.declared.values.Value.{Value}
use Rattle.merge_types.specs.declared.values.Value.TheVariants.{Null}
use Rattle.merge_units.specs.declared.version.Version.{Version}
use Rattle.merge_ident.specs.Answers.{Answer, answer_of, grants_after, grants_with_all, new_grant}
use Rattle.merge_ident.specs.Books.{IsBook}
use Rattle.merge_ident.specs.Grants.{is_of}
use Rattle.merge_ident.specs.Holders.{Holder, after_receive, after_take, answer_to_take}
use Rattle.merge_ident.specs.declared.grants.Ask.{Ask}
use Rattle.merge_ident.specs.declared.grants.Grant.{Grant}
use Rattle.merge_ident.specs.declared.grants.GrantAnswer.TheVariants.{Granted, Kept, NotDue}
use Rattle.merge_ident.specs.declared.ranges.IdentityUsedUp.{IdentityUsedUp as IdentityEnd}
use Rattle.merge_ident.specs.declared.grants.Rule.{Rule}
use Rattle.merge_ident.proofs.Plans.{book-with_plan}
use Rattle.merge_ident.proofs.Stored.{no_grants}
use Rattle.merge_schema.specs.Valid.{IsValid}
use Rattle.merge_schema.specs.declared.publication.Article.{Article}
use Rattle.merge_schema.specs.declared.publication.Identity.{Identity}
use Rattle.merge_schema.specs.declared.publication.Publication.{Publication}
use Rattle.merge_batch.specs.Asks.{has_identity, wanted_article}
use Rattle.merge_batch.specs.Replies.{broken_by_reply, grant_fits, granted_article}
use Rattle.merge_batch.specs.Search.{are_distinct}
use Rattle.merge_batch.specs.declared.refusal.Refusal.{Refusal}
use Rattle.merge_batch.specs.declared.reply.Downloaded.{Downloaded}
use Rattle.merge_batch.specs.declared.reply.RangeGrant.{RangeGrant}
use Rattle.merge_batch.specs.declared.reply.Ranged.{Ranged}
use Rattle.merge_batch.specs.declared.reply.Reply.{Reply}
use Rattle.merge_batch.specs.declared.reply.Reply.TheVariants as reply
use Rattle.merge_batch.specs.declared.request.Outstanding.{Outstanding}
use Rattle.merge_batch.specs.declared.request.Outstanding.TheVariants as ask
use Rattle.merge_batch.specs.declared.request.RangeAsk.{RangeAsk}
use Rattle.merge_batch.specs.declared.request.Request.TheVariants as request
use Rattle.merge_model.specs.Judge.ByHistory.{by_made, by_past}
use Rattle.merge_model.specs.Tables.Changes.{key_of, version_after}
use Rattle.merge_model.specs.World.Faults.{reply_fault}
use Rattle.merge_model.specs.History.{History, no_history, pasts_with}
use Rattle.merge_model.specs.Judge.{SubscriberJudge}
use Rattle.merge_model.specs.Tables.Keys.{at_number, put_number}
use Rattle.merge_model.specs.History.Model.{Model, model_step}
use Rattle.merge_model.specs.Tables.Publications.{identities, identity_of, rules_of}
use Rattle.merge_model.specs.Publisher.{holder_for, new_holders}
use Rattle.merge_model.specs.Publisher.PublisherDownload.{reply_to, tables_after_download}
use Rattle.merge_model.specs.Publisher.PublisherLocal.{Drawn, after_answer, draw_for_change, drawn_from, no_draw, own_ask, taken_from}
use Rattle.merge_model.specs.Publisher.PublisherRanges.{ask_by, plans, reply_to_ranges}
use Rattle.merge_model.specs.Subscriber.Reinit.{result_of_reinit}
use Rattle.merge_model.specs.Subscriber.Sending.{join_of, upload_sent, want_of, with_message}
use Rattle.merge_model.specs.World.Steps.{Action}
use Rattle.merge_model.specs.Subscriber.{subscriber_at_moment, subscriber_closed, subscriber_drawn, subscriber_made_locally, subscriber_next_dot, subscriber_version_at, taken_value, with_version_if}
use Rattle.merge_model.specs.Tables.{PublisherTables, SubscriberTables}
use Rattle.merge_model.specs.Subscriber.Taking.{tables_after_reply, with_grant}
use Rattle.merge_model.specs.World.{Saying, World, empty_world, subscriber_at}
use Rattle.merge_model.specs.declared.letter.Letter.{Letter}
use Rattle.merge_model.specs.declared.letter.Message.{Message}
use Rattle.merge_model.specs.declared.letter.Message.TheVariants.{Asks, Replies}
use Rattle.merge_model.proofs.Entries.EntryLists.{all-put}
use Rattle.merge_model.proofs.Lists.Finding.{all-more, all-weaker, at_put_other, pool-at, some_same}
use Rattle.merge_model.proofs.Lists.{all-map}
use Rattle.merge_laws.specs.Facts.Identities.{told_range}
use Rattle.merge_laws.specs.Facts.Received.{Received}
use Rattle.merge_laws.proofs.Runs.Ground.{Ground}
use Rattle.merge_laws.proofs.Identities.IdentityTakes.{heard-other, heard_in, others-fit}
use Rattle.merge_laws.proofs.Received.Models.{begins-with}
use Rattle.merge_laws.proofs.Unsent.UnsentKept.{reply-site, version-site}
use Rattle.merge_laws.proofs.Runs.ValidRules.{valid-rules}
use Rattle.merge_laws.proofs.Walking.{StepsKeep, comes, here, told_by}
use Rattle.merge_owed.proofs.HeldThresholds.{version-held}
use Rattle.merge_honest.specs.HeldRanges.{AsksWell, HasGranted, HeldRanges, HolderHas, IsHeldWell, IsNumbered, MessageIsGranted, WantHas}
use Rattle.merge_honest.proofs.PutFound.{put-each}
use Rattle.merge_honest.proofs.RangeAnswers.{Grows, all-grow, new-grows, plans-book, plans-granted}
use Rattle.merge_honest.proofs.RangedWalk.{Before, RangedKeep, Silent, no-silence, ranged-step}

-- Grants only grow.

more-granted : (publication : Publication) (grants more : List Grant) (site article have : ℕ) → Grows grants more → HasGranted publication grants site article have → HasGranted publication more site article have
more-granted publication grants more site article have grow has = record { identity = has.identity; granted = (let low = has.granted in let up = grow (is_of article site) in omega (arith, low, up)) }

held-grows : (publication : Publication) (grants more : List Grant) (site : ℕ) (held : List (ℕ × Holder)) → Grows grants more → IsHeldWell publication grants site held → IsHeldWell publication more site held
held-grows publication grants more site held grow well = record {
  ascend = well.ascend;
  each = all-weaker (HolderHas publication grants site) (HolderHas publication more site) (λ entry has. more-granted publication grants more site entry.0 entry.1.have grow has) held well.each;
}

message-grows : (publication : Publication) (grants more : List Grant) (site : ℕ) (message : Message) → Grows grants more → MessageIsGranted publication grants site message → MessageIsGranted publication more site message
message-grows publication grants more site (Asks (request.Join m)) grow is = tt
message-grows publication grants more site (Asks (request.Upload m)) grow is = tt
message-grows publication grants more site (Asks (request.Download m)) grow is = tt
message-grows publication grants more site (Asks (request.Ranges m)) grow is = record {
  sender = is.sender;
  ascend = is.ascend;
  each = all-weaker (WantHas publication grants site) (WantHas publication more site) (λ want has. more-granted publication grants more site want.article want.have grow has) m.wants is.each;
}
message-grows publication grants more site (Replies (reply.Ranged m)) grow is = all-weaker (IsNumbered grants site) (IsNumbered more site) (λ told low. (let up = grow (is_of told.article site) in omega (arith, low, up))) m.grants is
message-grows publication grants more site (Replies (reply.Joined m)) grow is = tt
message-grows publication grants more site (Replies (reply.Uploaded m)) grow is = tt
message-grows publication grants more site (Replies (reply.Downloaded m)) grow is = tt
message-grows publication grants more site (Replies (reply.Refused number values)) grow is = tt

-- and stay those of a book, also by a range that the publisher grants itself
abbrev GoesOn : List Rule → List Grant → List Grant → Type 0
GoesOn rules grants more = Grows grants more × IsBook rules more

module _ (publication : Publication) (p : PublisherTables) (book : IsBook (rules_of publication) p.grants) where
  abbrev DrawGoes : Result Drawn Refusal → Type 0
  DrawGoes draw = IfOk draw (λ d. GoesOn (rules_of publication) p.grants d.grants)

  same-goes : GoesOn (rules_of publication) p.grants p.grants
  same-goes = (λ test. omega arith, book)

  taken-goes : (grants : List Grant) (article : ℕ) (holder : Holder) (result : Result ℤ IdentityEnd) → GoesOn (rules_of publication) p.grants grants → DrawGoes (taken_from p grants article holder result)
  taken-goes grants article holder (Ok value) goes = goes
  taken-goes grants article holder (Err used_up) goes = tt

  answer-goes : (article : ℕ) (holder : Holder) (answer : Answer) → answer_of (rules_of publication) p.grants (own_ask p article) ≡ answer → DrawGoes (after_answer p article holder answer)
  answer-goes article holder (Ok (Granted number range)) is =
      let own : Ask = own_ask p article in
      taken-goes (grants_after p.grants own (Ok (Granted number range))) article (after_receive holder range) (answer_to_take (after_receive holder range))
      (new-grows p.grants (new_grant own (Ok (Granted number range))), subst (λ (answer : Answer). IsBook (rules_of publication) (grants_after p.grants own answer)) is (book-with_plan (rules_of publication) p.grants own book))
  answer-goes article holder (Ok (Kept number range)) is = taken-goes p.grants article holder (answer_to_take holder) same-goes
  answer-goes article holder (Ok NotDue) is = taken-goes p.grants article holder (answer_to_take holder) same-goes
  answer-goes article holder (Err fault) is = taken-goes p.grants article holder (answer_to_take holder) same-goes

  from-goes : (article : ℕ) (holder : Holder) (result : Result ℤ IdentityEnd) → DrawGoes (drawn_from publication p article holder result)
  from-goes article holder (Ok value) = same-goes
  from-goes article holder (Err used_up) = answer-goes article holder (answer_of (rules_of publication) p.grants (own_ask p article)) refl

  found-goes : (article : ℕ) (found : Option Holder) → (let draw : Result Drawn Refusal = elim found [ None ↦ Ok (no_draw p) | Some holder ↦ drawn_from publication p article holder (answer_to_take holder) ] in DrawGoes draw)
  found-goes article None = same-goes
  found-goes article (Some holder) = from-goes article holder (answer_to_take holder)

draw-goes : (publication : Publication) (p : PublisherTables) (change : Change) → IsBook (rules_of publication) p.grants → IfOk (draw_for_change publication p change) (λ d. GoesOn (rules_of publication) p.grants d.grants)
draw-goes publication p (Insert article values) book = found-goes publication p book article (at_number p.held article)
draw-goes publication p (Update article row values) book = same-goes publication p book
draw-goes publication p (Delete article row) book = same-goes publication p book

-- What a site holds.

number-tied : (a b : ℕ) → nat_cmp a b ≡ Equal → a ≡ b
number-tied a b tied = grind (arith, nat_tests, tied)

module _ (publication : Publication) (grants : List Grant) (site : ℕ) where
  abbrev Well : List (ℕ × Holder) → Type 0
  Well held = IsHeldWell publication grants site held

  put-well : (held : List (ℕ × Holder)) (article : ℕ) (holder : Holder) → HasGranted publication grants site article holder.have → Well held → Well (put_number held article holder)
  put-well held article holder new well = record {
    ascend = sorted_put nat_cmp nat_cmp_total article holder held well.ascend;
    each = all-put (HolderHas publication grants site) nat_cmp article holder (λ other tied. subst (λ (a : ℕ). HasGranted publication grants site a holder.have) (number-tied article other tied) new) new held well.each;
  }

  here-by : (b : Bool) (article at : ℕ) (entry holder : Holder) (rest : Option Holder) → is_at (nat_cmp article) at ≡ b → HasGranted publication grants site at entry.have → (rest ≡ Some holder → HasGranted publication grants site article holder.have)
      → cond b (Some entry) rest ≡ Some holder → HasGranted publication grants site article holder.have
  here-by true article at entry holder rest is has later e =
      let same : at ≡ article = grind (arith, nat_tests, is) in
      subst (λ (a : ℕ). HasGranted publication grants site a holder.have) same (subst (λ (x : Holder). HasGranted publication grants site at x.have) (some_same entry holder e) has)
  here-by false article at entry holder rest is has later e = later e

  found-has : (held : List (ℕ × Holder)) (article : ℕ) (holder : Holder) → AllByRecursion (HolderHas publication grants site) held → at_number held article ≡ Some holder → HasGranted publication grants site article holder.have
  found-has [] article holder all e = absurd cc
  found-has (entry ∷ held) article holder all e = here-by (is_at (nat_cmp article) entry.0) article entry.0 entry.1 holder (at_number held article) refl all.0 (λ later. found-has held article holder all.1 later) e

  -- a value is taken
  value-well : (s : SubscriberTables) (article : ℕ) (holder : Holder) (result : Result ℤ IdentityEnd) → at_number s.held article ≡ Some holder → Well s.held → IfOk (taken_value s article holder result) (λ d. Well d.1)
  value-well s article holder (Ok value) at well = put-well s.held article (after_take holder) (found-has s.held article holder well.each at) well
  value-well s article holder (Err used_up) at well = tt

  found-well : (s : SubscriberTables) (article : ℕ) (found : Option Holder) → at_number s.held article ≡ found → Well s.held
      → (let draw : Result (Value × List (ℕ × Holder)) Refusal = elim found [ None ↦ Ok (Null, s.held) | Some holder ↦ taken_value s article holder (answer_to_take holder) ] in IfOk draw (λ d. Well d.1))
  found-well s article None at well = well
  found-well s article (Some holder) at well = value-well s article holder (answer_to_take holder) at well

  draw-well : (s : SubscriberTables) (change : Change) → Well s.held → IfOk (subscriber_drawn s change) (λ d. Well d.1)
  draw-well s (Insert article values) well = found-well s article (at_number s.held article) refl well
  draw-well s (Update article row values) well = well
  draw-well s (Delete article row) well = well

  -- ranges are received: each has the next number, which was granted
  one-well : (held : List (ℕ × Holder)) (told : RangeGrant) (found : Option Holder) → at_number held told.article ≡ found → grant_fits (heard_in held) told ≡ true → IsNumbered grants site told → Well held
      → (let after : List (ℕ × Holder) = elim found [ None ↦ held | Some holder ↦ put_number held told.article (after_receive holder (told_range told)) ] in Well after)
  one-well held told None at fits low well = well
  one-well held told (Some holder) at fits low well =
      let heard : heard_in held told.article ≡ Some holder.have = ap (λ (o : Option Holder). option_map (λ (h : Holder). h.have) o) at in
      let number : told.number ≡ holder.have + 1 = grind (arith, nat_tests, heard, fits) in
      let has = found-has held told.article holder well.each at in
      put-well held told.article (after_receive holder (told_range told)) (record { identity = has.identity; granted = omega (arith, number, low) }) well

  received-well : (told : List RangeGrant) (held : List (ℕ × Holder)) → list_all (grant_fits (heard_in held)) told ≡ true → are_distinct (map granted_article told) ≡ true → AllByRecursion (IsNumbered grants site) told → Well held → Well (fold with_grant held told)
  received-well [] held fits distinct all well = well
  received-well (first ∷ told) held fits distinct all well =
      received-well told (with_grant held first)
      (others-fit (heard_in held) (heard_in (with_grant held first)) first.article (λ other differs. heard-other held first (at_number held first.article) other differs) told (grind (arith, distinct)) (grind (arith, fits)))
      (grind (arith, distinct)) all.1 (one-well held first (at_number held first.article) refl (grind (arith, fits)) all.0 well)

  -- what makes a reply fit
  ranged-fits : (sent : Outstanding) (m : Ranged) (s : SubscriberTables) → reply_fault publication sent (reply.Ranged m) s ≡ None → (list_all (grant_fits (heard_in s.held)) m.grants ≡ true) × (are_distinct (map granted_article m.grants) ≡ true)
  unfolding broken_by_reply
  ranged-fits ask.Ranges m s e = (grind (arith, e), grind (arith, e))
  ranged-fits ask.Join m s e = absurd (grind (arith, e))
  ranged-fits (ask.Upload from to) m s e = absurd (grind (arith, e))
  ranged-fits (ask.Download from) m s e = absurd (grind (arith, e))

  reply-well : (judge : SubscriberJudge) (now : Moment) (sent : Outstanding) (m : Reply) (s : SubscriberTables) → reply_fault publication sent m s ≡ None → MessageIsGranted publication grants site (Replies m) → Well s.held → Well (tables_after_reply judge now m s).held
  reply-well judge now sent (reply.Joined m) s none is well = well
  reply-well judge now sent (reply.Uploaded m) s none is well = well
  reply-well judge now sent (reply.Ranged m) s none is well = (let fits = ranged-fits sent m s none in received-well m.grants s.held fits.0 fits.1 is well)
  reply-well judge now sent (reply.Downloaded m) s none is well = well
  reply-well judge now sent (reply.Refused number values) s none is well = well

  -- an ask tells what is held
  wants-well : (held : List (ℕ × Holder)) → AllByRecursion (HolderHas publication grants site) held → AllByRecursion (WantHas publication grants site) (map want_of held)
  wants-well held all = all-map (HolderHas publication grants site) (WantHas publication grants site) want_of (λ entry has. has) held all

wants-are : (held : List (ℕ × Holder)) → map wanted_article (map want_of held) ≡ keys_of held
wants-are [] = refl
wants-are (entry ∷ held) = ap (λ (keys : List ℕ). entry.0 ∷ keys) (wants-are held)

-- How it begins: with the articles that have an identity column, by place.

abbrev IsIdentityAt : List Article → ℕ → ℕ × Identity → Type 0
IsIdentityAt articles place entry = (place ≤ entry.0) × (option_map_or (λ (article : Article). is_some article.identity) (slice_get articles (entry.0 - place)) false ≡ true)

identity-behind : (article : Article) (articles : List Article) (place : ℕ) (entry : ℕ × Identity) → IsIdentityAt articles (place + 1) entry → IsIdentityAt (article ∷ articles) place entry
identity-behind article articles place entry is =
    let low = is.0 in
    let next : entry.0 - place ≡ suc (entry.0 - (place + 1)) = omega (arith, low) in
    (omega (arith, low), ap (λ (k : ℕ). option_map_or (λ (a : Article). is_some a.identity) (slice_get (article ∷ articles) k) false) next ∙ is.1)

identity-here : (article : Article) (articles : List Article) (place : ℕ) (identity : Identity) → article.identity ≡ Some identity → IsIdentityAt (article ∷ articles) place (place, identity)
identity-here article articles place identity is =
    let none : place - place ≡ 0 = omega arith in
    (omega arith, ap (λ (k : ℕ). option_map_or (λ (a : Article). is_some a.identity) (slice_get (article ∷ articles) k) false) none ∙ ap (λ (found : Option Identity). is_some found) is)

pub each-step : (P : ℕ × Identity → Type 0) (place : ℕ) (found : Option Identity) (rest : List (ℕ × Identity)) → ((identity : Identity) → found ≡ Some identity → P (place, identity)) → AllByRecursion P rest
    → AllByRecursion P (cons_option (option_map (λ (identity : Identity). (place, identity)) found) rest)
each-step P place None rest here all = all
each-step P place (Some identity) rest here all = (here identity refl, all)

identities-each : (articles : List Article) (place : ℕ) → AllByRecursion (IsIdentityAt articles place) (filter_map identity_of (enumerate_from place articles))
identities-each [] place = tt
identities-each (article ∷ articles) place =
    let rest : List (ℕ × Identity) = filter_map identity_of (enumerate_from (place + 1) articles) in
    each-step (IsIdentityAt (article ∷ articles) place) place article.identity rest (λ identity is. identity-here article articles place identity is)
    (all-weaker (IsIdentityAt articles (place + 1)) (IsIdentityAt (article ∷ articles) place) (λ entry is. identity-behind article articles place entry is) rest (identities-each articles (place + 1)))

keys-above : (place : ℕ) (entries : List (ℕ × Identity)) → AllByRecursion (λ (entry : ℕ × Identity). place + 1 ≤ entry.0) entries → AreAbove nat_cmp place (keys_of (map holder_for entries))
keys-above place [] all = tt
keys-above place (entry ∷ entries) all = (let low = all.0 in grind (arith, nat_tests, low), keys-above place entries all.1)

ascend-step : (place : ℕ) (found : Option Identity) (rest : List (ℕ × Identity)) → AreAbove nat_cmp place (keys_of (map holder_for rest)) → IsStrictlySortedBy nat_cmp (keys_of (map holder_for rest))
    → IsStrictlySortedBy nat_cmp (keys_of (map holder_for (cons_option (option_map (λ (identity : Identity). (place, identity)) found) rest)))
unfolding IsStrictlySortedBy
ascend-step place None rest above sorted = sorted
ascend-step place (Some identity) rest above sorted = (above, sorted)

identities-ascend : (articles : List Article) (place : ℕ) → IsStrictlySortedBy nat_cmp (keys_of (map holder_for (filter_map identity_of (enumerate_from place articles))))
unfolding IsStrictlySortedBy
identities-ascend [] place = tt
identities-ascend (article ∷ articles) place =
    let rest : List (ℕ × Identity) = filter_map identity_of (enumerate_from (place + 1) articles) in
    ascend-step place article.identity rest
    (keys-above place rest (all-weaker (IsIdentityAt articles (place + 1)) (λ (entry : ℕ × Identity). place + 1 ≤ entry.0) (λ entry is. is.0) rest (identities-each articles (place + 1))))
    (identities-ascend articles (place + 1))

pub new-well : (publication : Publication) (site : ℕ) → IsHeldWell publication [] site (new_holders publication)
new-well publication site = record {
  ascend = identities-ascend publication.articles 0;
  each = all-map (IsIdentityAt publication.articles 0) (HolderHas publication [] site) holder_for
      (λ entry is. record { identity = ap (λ (k : ℕ). has_identity publication k) (let same : entry.0 ≡ entry.0 - 0 = omega arith in same) ∙ is.1; granted = omega arith })
      (identities publication) (identities-each publication.articles 0);
}

-- Worlds.

module _ (publication : Publication) where
  abbrev LetterIs : List Grant → Letter → Type 0
  LetterIs grants letter = MessageIsGranted publication grants letter.site.0 letter.message

  grants-on : (grants more : List Grant) (subscribers : List (ℕ × SubscriberTables)) (pool : List Letter) → GoesOn (rules_of publication) grants more → HeldRanges publication grants subscribers pool → HeldRanges publication more subscribers pool
  grants-on grants more subscribers pool (grow, book) i = record {
    book = book;
    held = λ n s at. held-grows publication grants more n s.held grow (i.held n s at);
    letters = all-weaker (LetterIs grants) (LetterIs more) (λ letter is. message-grows publication grants more letter.site.0 letter.message grow is) pool i.letters;
  }

  letter-on : (grants : List Grant) (subscribers : List (ℕ × SubscriberTables)) (pool : List Letter) (site : SiteId) (message : Message) → MessageIsGranted publication grants site.0 message → HeldRanges publication grants subscribers pool
      → HeldRanges publication grants subscribers (pool ++ record { site = site; message = message } ∷ [])
  letter-on grants subscribers pool site message new i = record { book = i.book; held = i.held; letters = all-more (LetterIs grants) pool (record { site = site; message = message }) i.letters new }

  subscriber-on : (grants : List Grant) (subscribers : List (ℕ × SubscriberTables)) (pool : List Letter) (s t : SubscriberTables) → t.site.0 ≡ s.site.0 → IsHeldWell publication grants s.site.0 t.held → HeldRanges publication grants subscribers pool
      → HeldRanges publication grants (put_number subscribers t.site.0 t) pool
  subscriber-on grants subscribers pool s t same new i = record {
    book = i.book;
    held = put-each (λ (n : ℕ) (x : SubscriberTables). IsHeldWell publication grants n x.held) subscribers s t same new i.held;
    letters = i.letters;
  }

  module _ (says : Saying) where
    abbrev pub HeldIn : World → History → Type 0
    HeldIn w h = HeldRanges publication w.publisher.grants w.subscribers w.pool

    here-well : (w : World) (h : History) (s : SubscriberTables) → HeldIn w h → subscriber_at w s.site ≡ Some s → IsHeldWell publication w.publisher.grants s.site.0 s.held
    here-well w h s i at = i.held s.site.0 s at

    -- with what it holds as it was
    same-on : (w : World) (h : History) (s t : SubscriberTables) → HeldIn w h → subscriber_at w s.site ≡ Some s → t.site.0 ≡ s.site.0 → t.held ≡ s.held → HeldRanges publication w.publisher.grants (put_number w.subscribers t.site.0 t) w.pool
    same-on w h s t i at same held = subscriber-on w.publisher.grants w.subscribers w.pool s t same (subst (λ (x : List (ℕ × Holder)). IsHeldWell publication w.publisher.grants s.site.0 x) (sym held) (here-well w h s i at)) i

    message-on : (w : World) (h : History) (s t : SubscriberTables) (message : Message) → HeldIn w h → subscriber_at w s.site ≡ Some s → t.site.0 ≡ s.site.0 → t.held ≡ s.held → MessageIsGranted publication w.publisher.grants s.site.0 message
        → HeldRanges publication w.publisher.grants (put_number w.subscribers t.site.0 t) (w.pool ++ record { site = s.site; message = message } ∷ [])
    message-on w h s t message i at same held new = letter-on w.publisher.grants (put_number w.subscribers t.site.0 t) w.pool s.site message new (same-on w h s t i at same held)

    answer-on : (w : World) (h : History) (site : SiteId) (message : Message) → HeldIn w h → MessageIsGranted publication w.publisher.grants site.0 message → HeldRanges publication w.publisher.grants w.subscribers (w.pool ++ record { site = site; message = message } ∷ [])
    answer-on w h site message i new = letter-on w.publisher.grants w.subscribers w.pool site message new i

    change-on : (w : World) (h : History) (s : SubscriberTables) (change : Change) (d : Value × List (ℕ × Holder)) → HeldIn w h → subscriber_at w s.site ≡ Some s → subscriber_drawn s change ≡ Ok d
        → (let t : SubscriberTables = (subscriber_made_locally publication change d (subscriber_at_moment w.moment s)).0 in HeldRanges publication w.publisher.grants (put_number w.subscribers t.site.0 t) w.pool)
    change-on w h s change d i at is =
        let key : Key = key_of (subscriber_next_dot s) change in
        let found : Option Version = version_after publication (subscriber_next_dot s) d.0 change (subscriber_version_at s key) in
        let u : SubscriberTables = record (subscriber_at_moment w.moment s) { changes = s.changes + 1; held = d.1 } in
        let new : IsHeldWell publication w.publisher.grants s.site.0 d.1 = subst (λ (draw : Result (Value × List (ℕ × Holder)) Refusal). IfOk draw (λ x. IsHeldWell publication w.publisher.grants s.site.0 x.1)) is (draw-well publication w.publisher.grants s.site.0 s change (here-well w h s i at)) in
        subscriber-on w.publisher.grants w.subscribers w.pool s (with_version_if key found u) (version-site key found u) (subst (λ (x : List (ℕ × Holder)). IsHeldWell publication w.publisher.grants s.site.0 x) (sym (version-held key found u)) new) i

    -- an answer about ranges tells what is granted then
    ranges-on : (w : World) (h : History) (number : ℕ) (site : SiteId) (m : RangeAsk) → HeldIn w h → comes w number site (Asks (request.Ranges m))
        → (let more : List Grant = grants_with_all w.publisher.grants (plans publication m w.publisher) in HeldRanges publication more w.subscribers (w.pool ++ record { site = site; message = Replies (reply.Ranged (reply_to_ranges m (plans publication m w.publisher))) } ∷ []))
    ranges-on w h number site m i at =
        let more : List Grant = grants_with_all w.publisher.grants (plans publication m w.publisher) in
        let asks : AsksWell publication w.publisher.grants site.0 m = pool-at (LetterIs w.publisher.grants) w number (record { site = site; message = Asks (request.Ranges m) }) at i.letters in
        let told : List RangeGrant = (reply_to_ranges m (plans publication m w.publisher)).grants in
        letter-on more w.subscribers w.pool site (Replies (reply.Ranged (reply_to_ranges m (plans publication m w.publisher))))
        (subst (λ (n : ℕ). AllByRecursion (IsNumbered more n) told) asks.sender (plans-granted (rules_of publication) w.publisher.grants m.site m.wants))
        (grants-on w.publisher.grants more w.subscribers w.pool (all-grow (rules_of publication) w.publisher.grants (map (ask_by m.site) m.wants), plans-book (rules_of publication) w.publisher.grants (map (ask_by m.site) m.wants) i.book) i)

    kept-received : (w : World) (h : History) → Ground publication w h → Received w h
    kept-received w h g = g.received

    held-silent : (pool : List Letter) → StepsKeep publication says (Before publication says (Ground publication) HeldIn kept-received pool) (Silent publication says (Ground publication) HeldIn kept-received pool)
    held-silent pool = record {
      moment = λ w h now b p none. b.1.0;
      own_change = λ w h change d b p fine is none. grants-on w.publisher.grants d.grants w.subscribers w.pool (subst (λ (draw : Result Drawn Refusal). IfOk draw (λ x. GoesOn (rules_of publication) w.publisher.grants x.grants)) is (draw-goes publication w.publisher change b.1.0.book)) b.1.0;
      own_closing = λ w h b p none. b.1.0;
      forgetting = λ w h b p none. b.1.0;
      same = λ w h s b p at none. same-on w h s s b.1.0 at refl refl;
      subscriber_change = λ w h s change d b p at named fine is none. change-on w h s change d b.1.0 at is;
      subscriber_closing = λ w h s b p at none. same-on w h s (subscriber_closed (subscriber_at_moment w.moment s)) b.1.0 at refl refl;
      anew = λ w h s b p at none. same-on w h s (result_of_reinit (by_made h s.site) (subscriber_at_moment w.moment s)).0 b.1.0 at refl refl;
      sends_join = λ w h s b p at joining none. message-on w h s (with_message ask.Join s) (Asks (request.Join (join_of s))) b.1.0 at refl refl tt;
      sends_upload = λ w h s b p at fine none. (let made = upload_sent (by_made h s.site) (subscriber_closed (subscriber_at_moment w.moment s)) in message-on w h s made.0 (Asks (request.Upload made.1)) b.1.0 at refl refl tt);
      sends_ranges = λ w h s b p at fine none. message-on w h s (with_message ask.Ranges s) (Asks (request.Ranges (record { site = s.site; seq = s.seq + 1; wants = map want_of s.held }))) b.1.0 at refl refl (record {
        sender = refl;
        ascend = subst (λ (keys : List ℕ). IsStrictlySortedBy nat_cmp keys) (sym (wants-are s.held)) (here-well w h s b.1.0 at).ascend;
        each = wants-well publication w.publisher.grants s.site.0 s.held (here-well w h s b.1.0 at).each;
      });
      sends_ask = λ w h s b p at fine none. message-on w h s (with_message (ask.Download s.watermark) s) (Asks (request.Download (record { site = s.site; seq = s.seq + 1; from = s.watermark }))) b.1.0 at refl refl tt;
      joins = λ w h number m b p at fine acts none. answer-on w h m.site (Replies (reply.Joined (record { seq = m.seq }))) b.1.0 tt;
      joins_again = λ w h number m b p at acts none. answer-on w h m.site (Replies (reply.Joined (record { seq = m.seq }))) b.1.0 tt;
      uploads = λ w h number m b p at fine news none. answer-on w h m.site (Replies (reply.Uploaded (told_by (by_past h (pasts_with h number)) m))) b.1.0 tt;
      uploads_again = λ w h number m b p at old none. answer-on w h m.site (Replies (reply.Uploaded (told_by (by_past h (pasts_with h number)) m))) b.1.0 tt;
      answers_ranges = λ w h site m b p none. no-silence publication says (Ground publication) HeldIn kept-received pool w site m b.1.1 none;
      answers_ask = λ w h number site m b p at fine none. answer-on w h site (Replies (reply.Downloaded (reply_to publication (by_past h (pasts_with h number)) m (tables_after_download m (here w))))) b.1.0 tt;
      replies = λ w h s number m sent b p at there out fits none. (let judge : SubscriberJudge = by_made h s.site in
          subscriber-on w.publisher.grants w.subscribers w.pool s (tables_after_reply judge w.moment m s) (reply-site judge w.moment m s)
          (reply-well publication w.publisher.grants s.site.0 judge w.moment sent m s fits (pool-at (LetterIs w.publisher.grants) w number (record { site = s.site; message = Replies m }) there b.1.0.letters) (here-well w h s b.1.0 at)) b.1.0);
    }

    held-keeps : RangedKeep publication says (Ground publication) HeldIn kept-received
    held-keeps = record { silent = held-silent; answers = λ w h number site m g i at. ranges-on w h number site m i at }

    pub held-step : (m : Model) (action : Action) → Ground publication m.world m.history → HeldIn m.world m.history → (let n : Model = (model_step publication says m action).0 in HeldIn n.world n.history)
    held-step m action g i = ranged-step publication says (Ground publication) HeldIn kept-received held-keeps m action g i

    pub held-begins : (tallies : List ℕ) → (resolvers : ℕ) × IsValid resolvers publication → HeldIn (empty_world publication tallies) no_history
    held-begins tallies valid = record { book = record { rules_fit = valid-rules valid.0 publication valid.1; grants_fit = no_grants; in_order = tt }; held = λ n s at. begins-with publication (λ (k : ℕ) (t : SubscriberTables). IsHeldWell publication [] k t.held) (λ k site keyed. new-well publication k) n s at; letters = tt }
