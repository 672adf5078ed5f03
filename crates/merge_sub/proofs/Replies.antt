-- A reply that comes: whether it acts, and what fits in one that does.
use Rattle.std.specs.Option.{option_or}
use Rattle.std.specs.Prelude.{◌≡◌, ◌≤◌, ◌==◌, ◌&&◌, ℕ, Bool, true, false, Err, List, [], ◌∷◌, None, Ok, Option, Result, Some, if◌then◌else◌, option_map, refl}
use Rattle.std.proofs.Common.{ap, arith, subst, sym, ◌∙◌}
use Rattle.std.proofs.lemmas.Bool.Decides.{nat_tests}
use Rattle.std.proofs.lemmas.List.Elements.{recursion_from_All}
use Rattle.merge_types.specs.declared.identifiers.Moment.{Moment}
use Rattle.merge_schema.specs.declared.publication.Publication.{Publication}
use Rattle.merge_batch.specs.Heads.{answered_seq}
use Rattle.merge_batch.specs.Replies.{act_fits, broken_by_download, broken_by_misfit, broken_by_reply, downloaded_fits, item_fits, item_rules, maker_fits, ranged_fits, received_fits, row_rises, uploaded_fits}
use Rattle.merge_batch.specs.Makers.{maker_of}
use Rattle.merge_batch.specs.Search.{broken_by_items, first_broken}
use Rattle.merge_batch.specs.declared.refusal.Refusal.{Refusal}
use Rattle.merge_batch.specs.declared.reply.DownloadItem.{DownloadItem}
use Rattle.merge_batch.specs.declared.reply.Downloaded.{Downloaded}
use Rattle.merge_batch.specs.declared.reply.Ranged.{Ranged}
use Rattle.merge_batch.specs.declared.reply.Reply.{Reply}
use Rattle.merge_batch.specs.declared.reply.Reply.TheVariants as reply
use Rattle.merge_batch.specs.declared.reply.Uploaded.{Uploaded}
use Rattle.merge_batch.specs.declared.request.Outstanding.{Outstanding}
use Rattle.merge_batch.specs.declared.request.Outstanding.TheVariants as ask
use Rattle.merge_batch.specs.declared.rules.BrokenRule.{BrokenRule}
use Rattle.merge_batch.specs.declared.standing.Standing.{Standing}
use Rattle.merge_batch.proofs.AllMet.{all_good, none_first, none_second}
use Rattle.merge_model.specs.Judge.ByNumbers.{by_rows}
use Rattle.merge_model.specs.World.Calls.{reply_commits}
use Rattle.merge_model.specs.World.Faults.{fault_of, heard_by, reply_fault, standing_of}
use Rattle.merge_model.specs.Judge.{SubscriberJudge}
use Rattle.merge_model.specs.Publisher.{later}
use Rattle.merge_model.specs.Tables.Refusals.{unless}
use Rattle.merge_model.specs.Tables.{SubscriberTables}
use Rattle.merge_model.specs.Subscriber.Taking.{after_reply, met_by, seq_of, tables_after_reply, take_reply}
use Rattle.merge_model.specs.declared.outcome.Taken.{Taken}
use Rattle.merge_model.specs.declared.outcome.Taken.TheVariants.{Acted, Missed}
use Rattle.merge_model.proofs.Lists.Tests.{if-true}
use Rattle.merge_sub.specs.Drafts.{after}
use Rattle.merge_sub.specs.Held.{Held, tables_of}
use Rattle.merge_sub.specs.Taking.{AreOrders, answered}
use Rattle.merge_sub.specs.declared.changes.Changes.{Changes}

-- What fits.

fault-none : (broken : Option BrokenRule) → fault_of broken ≡ None → broken ≡ None
fault-none None none = refl
fault-none (Some broken) none = absurd cc

misfit-none : (fits : Bool) → broken_by_misfit fits ≡ None → fits ≡ true
misfit-none true none = refl
misfit-none false none = absurd cc

-- no reply fits but one to the message that is outstanding
misfit : {P : Type 0} → fault_of (broken_by_misfit false) ≡ None → P
misfit none = absurd (let no : false ≡ true = misfit-none false (fault-none (broken_by_misfit false) none) in cc)

-- the reply fits what was sent, whatever that is
abbrev pub FitsSent : Publication → Reply → SubscriberTables → Type 0
FitsSent publication m s = (sent : Outstanding) × (reply_fault publication sent m s ≡ None)

-- how far the publisher is
pub record IsOnward (s : SubscriberTables) (received : ℕ) : Type 0 where
  pub onward : s.received ≤ received
  pub closed : received ≤ s.gens.filling.last_closed

uploaded-by : (own : Standing) (to : ℕ) (m : Uploaded) → uploaded_fits own to m ≡ true → (own.received ≤ m.received) × (m.received ≤ own.closed)
uploaded-by own to m fits = (grind (arith, nat_tests, fits), grind (arith, nat_tests, fits))

uploaded-sent : (publication : Publication) (sent : Outstanding) (m : Uploaded) (s : SubscriberTables) → reply_fault publication sent (reply.Uploaded m) s ≡ None → IsOnward s m.received
unfolding broken_by_reply
uploaded-sent publication ask.Join m s none = misfit none
uploaded-sent publication (ask.Upload from to) m s none =
    let within = uploaded-by (standing_of s) to m (misfit-none (uploaded_fits (standing_of s) to m) (fault-none (broken_by_misfit (uploaded_fits (standing_of s) to m)) none)) in
    record { onward = within.0; closed = within.1 }
uploaded-sent publication ask.Ranges m s none = misfit none
uploaded-sent publication (ask.Download from) m s none = misfit none

pub uploaded-onward : (publication : Publication) (m : Reply) (s : SubscriberTables) → FitsSent publication m s → (uploaded : Uploaded) → m ≡ reply.Uploaded uploaded → IsOnward s uploaded.received
uploaded-onward publication m s fits uploaded is = uploaded-sent publication fits.0 uploaded s (subst (λ (r : Reply). reply_fault publication fits.0 r s ≡ None) is fits.1)

ranged-sent : (publication : Publication) (sent : Outstanding) (m : Ranged) (s : SubscriberTables) → reply_fault publication sent (reply.Ranged m) s ≡ None → ranged_fits (heard_by s) m ≡ true
unfolding broken_by_reply
ranged-sent publication ask.Join m s none = misfit none
ranged-sent publication (ask.Upload from to) m s none = misfit none
ranged-sent publication ask.Ranges m s none = misfit-none (ranged_fits (heard_by s) m) (fault-none (broken_by_misfit (ranged_fits (heard_by s) m)) none)
ranged-sent publication (ask.Download from) m s none = misfit none

pub ranged-fit : (publication : Publication) (m : Reply) (s : SubscriberTables) → FitsSent publication m s → (ranged : Ranged) → m ≡ reply.Ranged ranged → ranged_fits (heard_by s) ranged ≡ true
ranged-fit publication m s fits ranged is = ranged-sent publication fits.0 ranged s (subst (λ (r : Reply). reply_fault publication fits.0 r s ≡ None) is fits.1)

middle : (a b c : Bool) → ((a && b) && c) ≡ true → b ≡ true
middle true true c fits = refl
middle true false c fits = absurd cc
middle false b c fits = absurd cc

received-by : (own : Standing) (m : Downloaded) → received_fits own m ≡ true → (own.received ≤ m.received) × (m.received ≤ own.closed)
received-by own m fits = (grind (arith, nat_tests, fits), grind (arith, nat_tests, fits))

first-met : (fits : Bool) → first_broken ((0, fits) ∷ []) ≡ None → fits ≡ true
first-met true none = refl
first-met false none = absurd cc

order-fits : (publication : Publication) (own : Standing) (before : Option DownloadItem) (item : DownloadItem) → first_broken (item_rules publication own before item) ≡ None → act_fits publication own item.article item.act ≡ true
order-fits publication own before item none =
    middle (row_rises before item) (act_fits publication own item.article item.act) (maker_fits own (maker_of item.row.0)) (first-met (item_fits publication own before item) none)

-- what is downloaded
pub record IsDownload (publication : Publication) (s : SubscriberTables) (m : Downloaded) : Type 0 where
  pub within : IsOnward s m.received
  pub orders : AreOrders publication s m.items

download-by : (publication : Publication) (from : ℕ) (m : Downloaded) (s : SubscriberTables) → broken_by_download publication (standing_of s) from m ≡ None → IsDownload publication s m
download-by publication from m s none =
    let own : Standing = standing_of s in
    let whole : downloaded_fits own from m ≡ true = misfit-none (downloaded_fits own from m) (none_first (broken_by_misfit (downloaded_fits own from m)) (broken_by_items (item_rules publication own) m.items) none) in
    let items : broken_by_items (item_rules publication own) m.items ≡ None = none_second (broken_by_misfit (downloaded_fits own from m)) (broken_by_items (item_rules publication own) m.items) none in
    let received = received-by own m (grind (arith, whole)) in
    record {
      within = record { onward = received.0; closed = received.1 };
      orders =
          recursion_from_All (λ (item : DownloadItem). act_fits publication own item.article item.act ≡ true) m.items
          (all_good (λ (item : DownloadItem). act_fits publication own item.article item.act ≡ true) (item_rules publication own) (order-fits publication own) 1 None m.items items);
    }

download-sent : (publication : Publication) (sent : Outstanding) (m : Downloaded) (s : SubscriberTables) → reply_fault publication sent (reply.Downloaded m) s ≡ None → IsDownload publication s m
unfolding broken_by_reply
download-sent publication ask.Join m s none = misfit none
download-sent publication (ask.Upload from to) m s none = misfit none
download-sent publication ask.Ranges m s none = misfit none
download-sent publication (ask.Download from) m s none = download-by publication from m s (fault-none (broken_by_download publication (standing_of s) from m) none)

pub download-fit : (publication : Publication) (m : Reply) (s : SubscriberTables) → FitsSent publication m s → (downloaded : Downloaded) → m ≡ reply.Downloaded downloaded → IsDownload publication s downloaded
download-fit publication m s fits downloaded is = download-sent publication fits.0 downloaded s (subst (λ (r : Reply). reply_fault publication fits.0 r s ≡ None) is fits.1)

-- Whether it acts.

-- a reply with a number is met by the outstanding message
met : (publication : Publication) (judge : SubscriberJudge) (now : Moment) (m : Reply) (s : SubscriberTables) (seq : ℕ) → answered_seq m ≡ Some seq → (take_reply publication judge now m s ≡ met_by publication judge now m s s.outstanding) × (seq_of m ≡ seq)
met publication judge now (reply.Joined m) s seq is = (refl, (let same : m.seq ≡ seq = cc in same))
met publication judge now (reply.Uploaded m) s seq is = (refl, (let same : m.seq ≡ seq = cc in same))
met publication judge now (reply.Ranged m) s seq is = (refl, (let same : m.seq ≡ seq = cc in same))
met publication judge now (reply.Downloaded m) s seq is = (refl, (let same : m.seq ≡ seq = cc in same))
met publication judge now (reply.Refused number values) s seq is = absurd cc

reply-here : (publication : Publication) (judge : SubscriberJudge) (now : Moment) (m : Reply) (s : SubscriberTables) (seq own : ℕ) (sent : Outstanding) → answered_seq m ≡ Some seq → s.outstanding ≡ Some (own, sent) → own ≡ seq
    → take_reply publication judge now m s ≡ unless (reply_fault publication sent m s) (tables_after_reply judge now m s, Acted)
reply-here publication judge now m s seq own sent is out same =
    let meets = met publication judge now m s seq is in
    let here : (own == seq_of m) ≡ true = (let number : own ≡ seq_of m = same ∙ sym meets.1 in grind (arith, nat_tests, number)) in
    meets.0 ∙ ap (met_by publication judge now m s) out
    ∙ if-true (own == seq_of m) (unless (reply_fault publication sent m s) (tables_after_reply judge now m s, Acted)) (Ok (s, Missed (seq_of m) own)) here

reply-taken : (publication : Publication) (judge : SubscriberJudge) (now : Moment) (m : Reply) (s : SubscriberTables) (seq own : ℕ) (sent : Outstanding) → answered_seq m ≡ Some seq → s.outstanding ≡ Some (own, sent) → own ≡ seq
    → reply_fault publication sent m s ≡ None → (latest : Moment) → latest ≡ later now s.latest → (made : SubscriberTables) → made ≡ after_reply judge m (answered latest s) → take_reply publication judge now m s ≡ Ok (made, Acted)
reply-taken publication judge now m s seq own sent is out same fits latest late made done =
    reply-here publication judge now m s seq own sent is out same
    ∙ ap (λ (why : Option Refusal). unless why (tables_after_reply judge now m s, Acted)) fits
    ∙ ap (λ (t : SubscriberTables). (let did : Result (SubscriberTables × Taken) Refusal = Ok (t, Acted) in did)) (sym (done ∙ ap (λ (moment : Moment). after_reply judge m (answered moment s)) late))

-- The same for what is held.

pub reply-drafted : (old now : Held) → old ≡ now → (moment : Moment) (m : Reply) (seq own : ℕ) (sent : Outstanding) → answered_seq m ≡ Some seq → old.state.outstanding ≡ Some (own, sent) → own ≡ seq → reply_fault now.publication sent m (tables_of now) ≡ None
    → (latest : Moment) → latest ≡ later moment old.state.latest → (c : Changes) → after c (tables_of now) ≡ after_reply (by_rows (tables_of now)) m (answered latest (tables_of now))
    → take_reply now.publication (by_rows (tables_of now)) moment m (tables_of now) ≡ Ok (after c (tables_of now), Acted)
reply-drafted old now view moment m seq own sent is out same fits latest late c done =
    reply-taken now.publication (by_rows (tables_of now)) moment m (tables_of now) seq own sent is (subst (λ (x : Held). x.state.outstanding ≡ Some (own, sent)) view out) same fits
    latest (subst (λ (x : Held). latest ≡ later moment x.state.latest) view late) (after c (tables_of now)) done

-- Which replies change a record, and which are refused.

-- a reply with a number that acts changes a record
pub acted-commits : (m : Reply) (seq : ℕ) → answered_seq m ≡ Some seq → reply_commits m Acted ≡ true
acted-commits (reply.Joined m) seq is = refl
acted-commits (reply.Uploaded m) seq is = refl
acted-commits (reply.Ranged m) seq is = refl
acted-commits (reply.Downloaded m) seq is = refl
acted-commits (reply.Refused number values) seq is = absurd cc

abbrev taken_in : Result (SubscriberTables × Taken) Refusal → Taken
taken_in (Ok done) = done.1
taken_in (Err why) = Acted

module _ (old now : Held) (view : old ≡ now) (moment : Moment) (m : Reply) (seq own : ℕ) (sent : Outstanding) (is : answered_seq m ≡ Some seq) (out : old.state.outstanding ≡ Some (own, sent)) (same : own ≡ seq) where
  reply-meets : take_reply now.publication (by_rows (tables_of now)) moment m (tables_of now) ≡ unless (reply_fault now.publication sent m (tables_of now)) (tables_after_reply (by_rows (tables_of now)) moment m (tables_of now), Acted)
  reply-meets = reply-here now.publication (by_rows (tables_of now)) moment m (tables_of now) seq own sent is (subst (λ (x : Held). x.state.outstanding ≡ Some (own, sent)) view out) same

  -- one that fits and answers the outstanding message acts
  pub reply-commits : reply_fault now.publication sent m (tables_of now) ≡ None → (s : SubscriberTables) (done : Taken) → take_reply now.publication (by_rows (tables_of now)) moment m (tables_of now) ≡ Ok (s, done) → reply_commits m done ≡ true
  reply-commits fits s done took =
      let acts : take_reply now.publication (by_rows (tables_of now)) moment m (tables_of now) ≡ Ok (tables_after_reply (by_rows (tables_of now)) moment m (tables_of now), Acted) =
      reply-meets ∙ ap (λ (why : Option Refusal). unless why (tables_after_reply (by_rows (tables_of now)) moment m (tables_of now), Acted)) fits in
      subst (λ (t : Taken). reply_commits m t ≡ true) (ap taken_in (sym acts ∙ took)) (acted-commits m seq is)

  -- and one that does not fit is not taken
  pub reply-broken : (why : Refusal) → reply_fault now.publication sent m (tables_of now) ≡ Some why → (s : SubscriberTables) (done : Taken) → take_reply now.publication (by_rows (tables_of now)) moment m (tables_of now) ≡ Ok (s, done) → ⊥
  reply-broken why broken s done took =
      let breaks : take_reply now.publication (by_rows (tables_of now)) moment m (tables_of now) ≡ Err why =
      reply-meets ∙ ap (λ (other : Option Refusal). unless other (tables_after_reply (by_rows (tables_of now)) moment m (tables_of now), Acted)) broken in
      let no = sym took ∙ breaks in
      cc
