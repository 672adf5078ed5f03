-- Each reply that a subscriber takes keeps that it holds what it is to hold.
use Rattle.std.specs.Prelude.{◌≡◌, ◌≤◌, ◌<◌, ℕ, List, [], Bool, true, false, Option, Some, None, refl, map, nat_lt}
use Rattle.std.specs.List.Sorted.{IsStrictlySortedBy}
use Rattle.std.specs.Map.{keys_of}
use Rattle.std.proofs.Common.{arith, sym, ap, ◌∙◌}
use Rattle.std.proofs.lemmas.Bool.Decides.{nat_tests}
use Rattle.merge_types.specs.declared.identifiers.Moment.{Moment}
use Rattle.merge_units.specs.declared.version.Version.{Version}
use Rattle.merge_schema.specs.declared.publication.Publication.{Publication}
use Rattle.merge_batch.specs.Replies.{broken_by_reply}
use Rattle.merge_batch.specs.declared.reply.Act.{Act as Order}
use Rattle.merge_batch.specs.declared.reply.Downloaded.{Downloaded}
use Rattle.merge_batch.specs.declared.reply.Joined.{Joined}
use Rattle.merge_batch.specs.declared.reply.Reply.{Reply}
use Rattle.merge_batch.specs.declared.reply.Reply.TheVariants as reply
use Rattle.merge_batch.specs.declared.request.Outstanding.{Outstanding}
use Rattle.merge_batch.specs.declared.request.Outstanding.TheVariants as ask
use Rattle.merge_batch.specs.declared.request.Request.TheVariants as request
use Rattle.merge_model.specs.World.Faults.{reply_fault}
use Rattle.merge_model.specs.History.{MadeChange}
use Rattle.merge_model.specs.Judge.{SubscriberJudge}
use Rattle.merge_types.specs.RowKeys.{key_cmp}
use Rattle.merge_types.specs.declared.row_key.RowKey.{RowKey as Key}
use Rattle.merge_units.specs.declared.site_row.SubscriberRow.{SubscriberRow}
use Rattle.merge_model.specs.Tables.{SubscriberTables}
use Rattle.merge_model.specs.Subscriber.Taking.{row_above, seq_of, tables_after_reply}
use Rattle.merge_model.specs.declared.letter.Message.TheVariants.{Asks, Replies}
use Rattle.merge_model.specs.declared.letter.Message.{Message}
use Rattle.merge_laws.specs.Facts.Behind.{StaysBehind}
use Rattle.merge_laws.specs.Facts.Settled.{MessageSettles, ReplyHolds, SiteView, SiteHolds, changed_of, held_at, live_only, said_of}
use Rattle.merge_laws.specs.Invariants.Unsent.{is_changed_above}
use Rattle.merge_laws.proofs.Received.BehindKept.{has-joined}
use Rattle.merge_laws.proofs.Settled.SettledRows.{items-version, over, received-versions, said-nothing, said-something, version_in}
use Rattle.merge_laws.proofs.Settled.SettledSeen.{Keeps}
use Rattle.merge_laws.proofs.Settled.SettledSent.{none-unsent}
use Rattle.merge_laws.proofs.Settled.SettledTakes.{Quiet, quiet-keeps}
use Rattle.merge_laws.proofs.Numbered.Telling.{decided}
use Rattle.merge_laws.proofs.Unsent.Unsending.{received-sorted}

-- Nothing is outstanding afterwards.
message-answered : (v : SiteView) (s t : SubscriberTables) → t.seq ≡ s.seq → t.outstanding ≡ None → (message : Message) → MessageSettles v s message → MessageSettles v t message
message-answered v s t seq none (Asks (request.Join m)) f = tt
message-answered v s t seq none (Asks (request.Upload m)) f = f
message-answered v s t seq none (Asks (request.Ranges m)) f = tt
message-answered v s t seq none (Asks (request.Download m)) f = tt
message-answered v s t seq none (Replies (reply.Joined m)) f = tt
message-answered v s t seq none (Replies (reply.Uploaded m)) f = tt
message-answered v s t seq none (Replies (reply.Ranged m)) f = tt
message-answered v s t seq none (Replies (reply.Downloaded m)) f = record {
  made = let made = f.made in omega (arith, made, seq);
  up = f.up;
  to = f.to;
  fits = λ live joins out. absurd (grind (arith, none, out));
}
message-answered v s t seq none (Replies (reply.Refused number values)) f = tt

answered-quiet : (s t : SubscriberTables) → t.is_joined ≡ s.is_joined → ((key : Key) → held_at t key ≡ held_at s key) → (s.rows ≡ [] → t.rows ≡ []) → t.watermark ≡ s.watermark → t.seq ≡ s.seq → t.outstanding ≡ None → Quiet s t
answered-quiet s t joined held empty mark seq none = record {
  joined = joined;
  held = held;
  empty = empty;
  watermark = mark;
  seq = omega (arith, seq);
  out = λ q from low is. absurd (grind (arith, none, is));
}

-- The answer to a join: the site has nothing, and nothing that was never touched is in its partition.
module _ (v : SiteView) (judge : SubscriberJudge) (now : Moment) (m : Joined) (s : SubscriberTables) (unseen : (key : Key) → v.touched key ≤ 0 → v.owed key ≡ None) where
  abbrev after_join : SubscriberTables
  after_join = tables_after_reply judge now (reply.Joined m) s

  joined-equal : (b : Bool) → s.is_joined ≡ b → SiteHolds v s → v.is_expired ≡ false → (key : Key) → v.changed key ≤ v.received → v.touched key ≤ s.watermark → held_at after_join key ≡ v.owed key
  joined-equal true is f live key taken low = f.equal live is key taken low
  joined-equal false is f live key taken low =
      let none : s.watermark ≡ 0 = f.unmarked is in
      ap (λ (rows : List (Key × SubscriberRow)). live_only (version_in rows key)) (f.empty is) ∙ sym (unseen key (omega (arith, low, none)))

  site-joined : SiteHolds v s → SiteHolds v after_join
  site-joined f = record {
    equal = λ live joins key taken low. joined-equal s.is_joined refl f live key taken low;
    empty = λ none. absurd (grind (arith, none));
    unmarked = λ none. absurd (grind (arith, none));
    marks = f.marks;
  }

-- A reply to a download.
from-fits : (publication : Publication) (sent : Outstanding) (m : Downloaded) (s : SubscriberTables) → reply_fault publication sent (reply.Downloaded m) s ≡ None → sent ≡ ask.Download m.from
unfolding broken_by_reply
from-fits publication (ask.Download low) m s none = (let same : low ≡ m.from = grind (arith, nat_tests, none) in ap (λ (from : ℕ). ask.Download from) same)
from-fits publication ask.Join m s none = absurd (grind (arith, none))
from-fits publication ask.Ranges m s none = absurd (grind (arith, none))
from-fits publication (ask.Upload low to) m s none = absurd (grind (arith, none))

none-said : (said : Option Order) (from touched : ℕ) → ((item : Order) → said ≡ Some item → from < touched) → touched ≤ from → said ≡ None
none-said None from touched only low = refl
none-said (Some item) from touched only low = (let above = only item refl in absurd (omega (arith, above, low)))

not-later : (changed before received to touched : ℕ) → (before < changed → changed ≤ received → to < touched) → changed ≤ received → touched ≤ to → changed ≤ before
not-later changed before received to touched later taken low = grind (arith, nat_tests, later, taken, low)

module _ (v : SiteView) (judge : SubscriberJudge) (now : Moment) (made : List MadeChange) (m : Downloaded) (s : SubscriberTables) (r : ReplyHolds v s m) (changes : (key : Key) → v.changed key ≡ changed_of made key)
    (judges : (key : Key) → judge.is_unsent m.received key ≡ is_changed_above m.received key made) (sorted : IsStrictlySortedBy key_cmp (keys_of s.rows)) (joins : s.is_joined ≡ true)
    (out : s.outstanding ≡ Some (m.seq, ask.Download m.from)) (begins : m.from ≡ s.watermark) where
  abbrev told : SubscriberTables
  told = tables_after_reply judge now (reply.Downloaded m) s

  told-version : (key : Key) → v.changed key ≤ m.received → held_at told key ≡ live_only (over (said_of m.items key) (version_in s.rows key))
  told-version key up =
      let same = changes key in
      let fresh : judge.is_unsent m.received key ≡ false = judges key ∙ none-unsent m.received key made (omega (arith, up, same)) in
      ap live_only (items-version judge m.received key fresh m.items (map (row_above m.received) s.rows) (received-sorted m.received s.rows sorted)
      ∙ ap (λ (held : Option Version). over (said_of m.items key) held) (received-versions m.received s.rows key))

  told-equal : SiteHolds v s → v.is_expired ≡ false → (key : Key) → v.changed key ≤ v.received → v.touched key ≤ m.to → held_at told key ≡ v.owed key
  told-equal f live key taken low =
      let fits = r.fits live joins out in
      let up : v.changed key ≤ m.received = not-later (v.changed key) m.received v.received m.to (v.touched key) (fits.later key) taken low in
      told-version key up
      ∙ decided (nat_lt m.from (v.touched key)) (nat_lt m.from (v.touched key)) (live_only (over (said_of m.items key) (version_in s.rows key)) ≡ v.owed key) refl
      (λ is. said-something (said_of m.items key) (version_in s.rows key) (v.owed key) (fits.now key (grind (arith, nat_tests, is)) low))
      (λ is. (
      let below : v.touched key ≤ m.from = grind (arith, nat_tests, is) in
      ap live_only (said-nothing (said_of m.items key) (version_in s.rows key) (none-said (said_of m.items key) m.from (v.touched key) (fits.only key) below))
      ∙ f.equal live joins key taken (omega (arith, below, begins))))

  site-told : SiteHolds v s → SiteHolds v told
  site-told f = record {
    equal = λ live is key taken low. told-equal f live key taken low;
    empty = λ none. absurd (grind (arith, none, joins));
    unmarked = λ none. absurd (grind (arith, none, joins));
    marks = r.to;
  }

-- What is known of a reply that fits.
pub record Comes (publication : Publication) (v : SiteView) (judge : SubscriberJudge) (made : List MadeChange) (received joined : ℕ) (sent : Outstanding) (m : Reply) (s : SubscriberTables) : Type 0 where
  pub unseen : (key : Key) → v.touched key ≤ 0 → v.owed key ≡ None
  pub changes : (key : Key) → v.changed key ≡ changed_of made key
  pub judges : (key : Key) (up : ℕ) → judge.is_unsent up key ≡ is_changed_above up key made
  pub sorted : IsStrictlySortedBy key_cmp (keys_of s.rows)
  pub behind : StaysBehind received joined s
  pub asked : (seq from : ℕ) → s.outstanding ≡ Some (seq, ask.Download from) → from ≡ s.watermark
  pub out : s.outstanding ≡ Some (seq_of m, sent)
  pub fits : reply_fault publication sent m s ≡ None
  pub settles : MessageSettles v s (Replies m)

site-replied : (publication : Publication) (v : SiteView) (judge : SubscriberJudge) (now : Moment) (made : List MadeChange) (received joined : ℕ) (sent : Outstanding) (m : Reply) (s : SubscriberTables) → Comes publication v judge made received joined sent m s
    → SiteHolds v s → SiteHolds v (tables_after_reply judge now m s)
site-replied publication v judge now made received joined sent (reply.Joined m) s c = site-joined v judge now m s c.unseen
site-replied publication v judge now made received joined sent (reply.Uploaded m) s c =
    (quiet-keeps v s (tables_after_reply judge now (reply.Uploaded m) s)
    (answered-quiet s (tables_after_reply judge now (reply.Uploaded m) s) refl (λ key. ap live_only (received-versions m.received s.rows key)) (λ none. ap (λ (rows : List (Key × SubscriberRow)). map (row_above m.received) rows) none) refl refl refl)).site
site-replied publication v judge now made received joined sent (reply.Ranged m) s c =
    (quiet-keeps v s (tables_after_reply judge now (reply.Ranged m) s) (answered-quiet s (tables_after_reply judge now (reply.Ranged m) s) refl (λ key. refl) (λ none. none) refl refl refl)).site
site-replied publication v judge now made received joined sent (reply.Downloaded m) s c =
    let is : sent ≡ ask.Download m.from = from-fits publication sent m s c.fits in
    let out : s.outstanding ≡ Some (m.seq, ask.Download m.from) = c.out ∙ ap (λ (o : Outstanding). (let found : Option (ℕ × Outstanding) = Some (m.seq, o) in found)) is in
    let joins : s.is_joined ≡ true = has-joined publication received joined sent (reply.Downloaded m) s m.seq s.is_joined refl refl c.out c.fits c.behind in
    site-told v judge now made m s c.settles c.changes (λ key. c.judges key m.received) c.sorted joins out (c.asked m.seq m.from out)
site-replied publication v judge now made received joined sent (reply.Refused number values) s c =
    (quiet-keeps v s (tables_after_reply judge now (reply.Refused number values) s) (answered-quiet s (tables_after_reply judge now (reply.Refused number values) s) refl (λ key. refl) (λ none. none) refl refl refl)).site

reply-seq : (judge : SubscriberJudge) (now : Moment) (m : Reply) (s : SubscriberTables) → ((tables_after_reply judge now m s).seq ≡ s.seq) × ((tables_after_reply judge now m s).outstanding ≡ None)
reply-seq judge now (reply.Joined m) s = (refl, refl)
reply-seq judge now (reply.Uploaded m) s = (refl, refl)
reply-seq judge now (reply.Ranged m) s = (refl, refl)
reply-seq judge now (reply.Downloaded m) s = (refl, refl)
reply-seq judge now (reply.Refused number values) s = (refl, refl)

pub reply-keeps : (publication : Publication) (v : SiteView) (judge : SubscriberJudge) (now : Moment) (made : List MadeChange) (received joined : ℕ) (sent : Outstanding) (m : Reply) (s : SubscriberTables) → Comes publication v judge made received joined sent m s
    → Keeps v v s (tables_after_reply judge now m s)
reply-keeps publication v judge now made received joined sent m s c =
    let both = reply-seq judge now m s in record {
      site = site-replied publication v judge now made received joined sent m s c;
      letters = λ j site message fits. message-answered v s (tables_after_reply judge now m s) both.0 both.1 message;
    }
