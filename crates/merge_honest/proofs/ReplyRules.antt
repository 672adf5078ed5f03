-- That a reply which acts answers the outstanding message, and fits it, but for one to a download, of which DownloadRules says it.
use Rattle.std.specs.List.{AllByRecursion, list_all}
use Rattle.std.specs.Prelude.{Bool, None, Option, Some, false, int_le, refl, true, ℕ, ◌==◌, ◌≡◌, ◌≤◌}
use Rattle.std.proofs.Common.{ap, arith, subst, sym, ◌∙◌}
use Rattle.std.proofs.lemmas.Bool.Decides.{nat_tests}
use Rattle.std.proofs.lemmas.Int.{ints}
use Rattle.merge_types.specs.declared.identifiers.SiteId.{SiteId}
use Rattle.merge_schema.specs.declared.publication.Publication.{Publication}
use Rattle.merge_batch.specs.Replies.{broken_by_reply, grant_fits, ranged_fits, uploaded_fits}
use Rattle.merge_batch.specs.declared.reply.RangeGrant.{RangeGrant}
use Rattle.merge_batch.specs.declared.reply.Ranged.{Ranged}
use Rattle.merge_batch.specs.declared.reply.Reply.{Reply}
use Rattle.merge_batch.specs.declared.reply.Reply.TheVariants as reply
use Rattle.merge_batch.specs.declared.reply.Uploaded.{Uploaded}
use Rattle.merge_batch.specs.declared.request.Outstanding.{Outstanding}
use Rattle.merge_batch.specs.declared.request.Outstanding.TheVariants as ask
use Rattle.merge_model.specs.World.Faults.{heard_by, reply_fault, standing_of}
use Rattle.merge_model.specs.History.Model.{Model}
use Rattle.merge_model.specs.Failing.Runs.{model_behind}
use Rattle.merge_model.specs.Subscriber.{subscriber_last_closed}
use Rattle.merge_model.specs.Tables.{SubscriberTables}
use Rattle.merge_model.specs.Subscriber.Taking.{seq_of, tables_after_reply}
use Rattle.merge_model.specs.World.{subscriber_at}
use Rattle.merge_model.specs.declared.letter.Letter.{Letter}
use Rattle.merge_model.specs.declared.letter.Message.TheVariants.{Replies}
use Rattle.merge_model.proofs.Lists.Finding.{pool-at}
use Rattle.merge_model.proofs.Lists.{all-both}
use Rattle.merge_laws.specs.Facts.Behind.{TellsActed}
use Rattle.merge_laws.specs.Laws.{OfEveryValidRun}
use Rattle.merge_model.specs.Judge.ByNumbers.{received_by_number}
use Rattle.merge_honest.specs.Answered.{HasRanges, HasValue, IsNextOf, IsOutstanding, LetterAnswers, MessageAnswers, TakesAll}
use Rattle.merge_honest.specs.Replied.{IsReply, RepliesAnswer, answers}
use Rattle.merge_honest.proofs.KnownItems.{all-true}
use Rattle.merge_honest.proofs.Rules.{Known, known-always}

-- What fits: of an upload that was taken, what the site knows to be received, and what it closed.

uploaded-by : (publication : Publication) (sent : Outstanding) (m : Uploaded) (s : SubscriberTables) → TakesAll m.received sent → ((from to : ℕ) → sent ≡ ask.Upload from to → s.received ≤ to) → m.received ≤ subscriber_last_closed s → reply_fault publication sent (reply.Uploaded m) s ≡ None
unfolding broken_by_reply
uploaded-by publication ask.Join m s all goes up = absurd all
uploaded-by publication ask.Ranges m s all goes up = absurd all
uploaded-by publication (ask.Download from) m s all goes up = absurd all
uploaded-by publication (ask.Upload from to) m s all goes up =
    let low : s.received ≤ m.received = (let least = goes from to refl in omega (arith, least, all)) in
    let fits : uploaded_fits (standing_of s) to m ≡ true = grind (arith, nat_tests, all, low, up) in
    grind (arith, fits)

grant-fits : (s : SubscriberTables) (told : RangeGrant) → IsNextOf s told.article told.number → HasValue told → grant_fits (heard_by s) told ≡ true
grant-fits s told next value =
    let some : int_le told.begin told.end ≡ true = grind (arith, ints, nat_tests, value) in
    grind (arith, next, some)

ranged-by : (publication : Publication) (m : Ranged) (s : SubscriberTables) → ranged_fits (heard_by s) m ≡ true → reply_fault publication ask.Ranges (reply.Ranged m) s ≡ None
unfolding broken_by_reply
ranged-by publication m s fits = grind (arith, fits)

ranges-fit : (m : Ranged) (s : SubscriberTables) → AllByRecursion (λ (told : RangeGrant). IsNextOf s told.article told.number) m.grants → HasRanges (Replies (reply.Ranged m)) → ranged_fits (heard_by s) m ≡ true
ranges-fit m s next ranges =
    let all : list_all (grant_fits (heard_by s)) m.grants ≡ true = all-true (grant_fits (heard_by s)) m.grants
    (all-both (λ (told : RangeGrant). IsNextOf s told.article told.number) HasValue (λ (told : RangeGrant). grant_fits (heard_by s) told ≡ true) (λ told here value. grant-fits s told here value) m.grants next ranges.1) in
    let distinct = ranges.0 in
    grind (arith, all, distinct)

-- to a download
abbrev pub is_downloaded : Reply → Bool
is_downloaded (reply.Downloaded m) = true
is_downloaded other = false

-- what the tables of a site know of an upload's answer
abbrev KnowsUpload : SubscriberTables → Outstanding → Reply → Type 0
KnowsUpload s sent (reply.Uploaded m) = ((from to : ℕ) → sent ≡ ask.Upload from to → s.received ≤ to) × (m.received ≤ subscriber_last_closed s)
KnowsUpload s sent r = Unit {0}

fits-by : (publication : Publication) (sent : Outstanding) (r : Reply) (s : SubscriberTables) → is_downloaded r ≡ false → IsOutstanding s sent (Replies r) → HasRanges (Replies r) → KnowsUpload s sent r → reply_fault publication sent r s ≡ None
unfolding broken_by_reply
fits-by publication sent (reply.Joined m) s other is ranges knows = subst (λ (x : Outstanding). reply_fault publication x (reply.Joined m) s ≡ None) (sym is) refl
fits-by publication sent (reply.Uploaded m) s other is ranges knows = uploaded-by publication sent m s is knows.0 knows.1
fits-by publication sent (reply.Ranged m) s other is ranges knows = subst (λ (x : Outstanding). reply_fault publication x (reply.Ranged m) s ≡ None) (sym is.0) (ranged-by publication m s (ranges-fit m s is.1 ranges))
fits-by publication sent (reply.Downloaded m) s other is ranges knows = absurd cc
fits-by publication sent (reply.Refused number values) s other is ranges knows = refl

-- and is what was asked
asked-by : (s : SubscriberTables) (sent : Outstanding) (r : Reply) → IsOutstanding s sent (Replies r) → answers sent r ≡ true
asked-by s sent (reply.Joined m) is = ap (λ (x : Outstanding). answers x (reply.Joined m)) is
asked-by s sent (reply.Uploaded m) is = taken-by sent m is
  where
    taken-by : (sent : Outstanding) (m : Uploaded) → TakesAll m.received sent → answers sent (reply.Uploaded m) ≡ true
    taken-by ask.Join m all = absurd all
    taken-by ask.Ranges m all = absurd all
    taken-by (ask.Download from) m all = absurd all
    taken-by (ask.Upload from to) m all = grind (arith, nat_tests, all)
asked-by s sent (reply.Ranged m) is = ap (λ (x : Outstanding). answers x (reply.Ranged m)) is.0
asked-by s sent (reply.Downloaded m) is = ap (λ (x : Outstanding). answers x (reply.Downloaded m)) is.0 ∙ (let itself : (m.from == m.from) ≡ true = grind (arith, nat_tests) in itself)
asked-by s sent (reply.Refused number values) is = absurd is

-- Of a model behind a run.

module _ (publication : Publication) (m : Model) (k : Known publication m) (number : ℕ) (site : SiteId) (r : Reply) (at : IsReply m number site r) where
  abbrev letter : Letter
  letter = record { site = site; message = Replies r }

  pub answered-here : LetterAnswers m.world.subscribers letter
  answered-here = pool-at (LetterAnswers m.world.subscribers) m.world number letter at k.answered

  module _ (s : SubscriberTables) (sent : Outstanding) (there : subscriber_at m.world site ≡ Some s) (out : s.outstanding ≡ Some (seq_of r, sent)) where
    pub outstanding-here : IsOutstanding s sent (Replies r)
    outstanding-here = (subst (λ (found : Option SubscriberTables). MessageAnswers found (Replies r)) there answered-here.0).1 sent out

    knows-here : (r2 : Reply) → r2 ≡ r → KnowsUpload s sent r2
    knows-here (reply.Joined u) same = tt
    knows-here (reply.Uploaded u) same =
        let acted : TellsActed (received_by_number m.world.publisher site.0) site (Replies (reply.Uploaded u)) = subst (λ (x : Reply). TellsActed (received_by_number m.world.publisher site.0) site (Replies x)) (sym same)
        (pool-at (λ (l : Letter). TellsActed (received_by_number m.world.publisher l.site.0) l.site l.message) m.world number letter at k.whole.0.0.behind.letters) in
        let taken = (k.whole.0.0.received.subscribers site.0 s there).taken in (
          (λ from to is. (k.whole.0.0.numbered.subscribers site.0 s there).sent (seq_of r) from to (out ∙ ap (λ (x : Outstanding). (let found : Option (ℕ × Outstanding) = Some (seq_of r, x) in found)) is)),
          omega (arith, acted, taken),
        )
    knows-here (reply.Ranged u) same = tt
    knows-here (reply.Downloaded u) same = tt
    knows-here (reply.Refused code values) same = tt

    pub reply-fits : is_downloaded r ≡ false → reply_fault publication sent r s ≡ None
    reply-fits other = fits-by publication sent r s other outstanding-here answered-here.1 (knows-here r refl)

    pub reply-answers : answers sent r ≡ true
    reply-answers = asked-by s sent r outstanding-here

-- Every list of events.

pub replies-answer : OfEveryValidRun RepliesAnswer
replies-answer resolvers publication valid says tallies slips events number site r s sent at there out =
    let m : Model = model_behind publication says tallies slips events in
    reply-answers publication m (known-always publication says tallies slips events (resolvers, valid)) number site r at s sent there out
