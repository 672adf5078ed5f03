-- Each step of a subscriber keeps that it holds what it is to hold.
use Rattle.std.specs.Prelude.{◌≡◌, ◌≤◌, ◌<◌, ◌+◌, ℕ, List, [], ◌∷◌, true, false, Some, refl}
use Rattle.std.proofs.Common.{arith, sym, ap, ◌∙◌}
use Rattle.merge_types.specs.declared.identifiers.Moment.{Moment}
use Rattle.merge_types.specs.declared.identifiers.SiteId.{SiteId}
use Rattle.merge_schema.specs.declared.publication.Publication.{Publication}
use Rattle.merge_batch.specs.declared.reply.Downloaded.{Downloaded}
use Rattle.merge_batch.specs.declared.reply.Reply.TheVariants as reply
use Rattle.merge_batch.specs.declared.request.Outstanding.{Outstanding}
use Rattle.merge_batch.specs.declared.request.Outstanding.TheVariants as ask
use Rattle.merge_batch.specs.declared.request.Request.TheVariants as request
use Rattle.merge_batch.specs.declared.request.Upload.{Upload}
use Rattle.merge_model.specs.History.{MadeChange}
use Rattle.merge_model.specs.Judge.{SubscriberJudge}
use Rattle.merge_model.specs.Tables.Keys.{same_key}
use Rattle.merge_model.specs.Subscriber.Reinit.{result_of_reinit}
use Rattle.merge_model.specs.Subscriber.Sending.{with_message}
use Rattle.merge_model.specs.Subscriber.{subscriber_at_moment, subscriber_last_closed}
use Rattle.merge_types.specs.declared.row_key.RowKey.{RowKey as Key}
use Rattle.merge_units.specs.declared.site_row.SubscriberRow.{SubscriberRow}
use Rattle.merge_model.specs.Tables.{PublisherTables, SubscriberTables}
use Rattle.merge_model.specs.Judge.ByNumbers.{received_by_number}
use Rattle.merge_model.specs.declared.letter.Message.TheVariants.{Asks, Replies}
use Rattle.merge_model.specs.declared.letter.Message.{Message}
use Rattle.merge_laws.specs.Facts.Received.{MessageFits}
use Rattle.merge_laws.specs.Facts.Settled.{MessageSettles, ReplyFits, SiteView, SendsChanged, SiteHolds, changed_of, has_item, held_at, live_only, site_view}
use Rattle.merge_laws.proofs.Settled.SettledRows.{version_in}
use Rattle.merge_laws.proofs.Settled.SettledSeen.{Keeps}
use Rattle.merge_laws.proofs.Settled.SettledSent.{changed-other, changed-same}
use Rattle.merge_laws.proofs.Numbered.Telling.{decided}

-- A step that leaves what the site holds.
pub record Quiet (s t : SubscriberTables) : Type 0 where
  pub joined : t.is_joined ≡ s.is_joined
  pub held : (key : Key) → held_at t key ≡ held_at s key
  pub empty : s.rows ≡ [] → t.rows ≡ []
  pub watermark : t.watermark ≡ s.watermark
  pub seq : s.seq ≤ t.seq
  -- what is outstanding was so, or is new
  pub out : (seq from : ℕ) → seq ≤ s.seq → t.outstanding ≡ Some (seq, ask.Download from) → s.outstanding ≡ Some (seq, ask.Download from)

module _ (v : SiteView) (s t : SubscriberTables) (q : Quiet s t) where
  site-quiet : SiteHolds v s → SiteHolds v t
  site-quiet f = record {
    equal = λ live joins key taken low. (let mark = q.watermark in q.held key ∙ f.equal live (sym q.joined ∙ joins) key taken (omega (arith, low, mark)));
    empty = λ none. q.empty (f.empty (sym q.joined ∙ none));
    unmarked = λ none. q.watermark ∙ f.unmarked (sym q.joined ∙ none);
    marks = let mark = q.watermark in let below = f.marks in omega (arith, mark, below);
  }

  message-quiet : (message : Message) → MessageSettles v s message → MessageSettles v t message
  message-quiet (Asks (request.Join m)) f = tt
  message-quiet (Asks (request.Upload m)) f = f
  message-quiet (Asks (request.Ranges m)) f = tt
  message-quiet (Asks (request.Download m)) f = tt
  message-quiet (Replies (reply.Joined m)) f = tt
  message-quiet (Replies (reply.Uploaded m)) f = tt
  message-quiet (Replies (reply.Ranged m)) f = tt
  message-quiet (Replies (reply.Downloaded m)) f = record {
    made = let made = f.made in let up = q.seq in omega (arith, made, up);
    up = f.up;
    to = f.to;
    fits = λ live joins out. f.fits live (sym q.joined ∙ joins) (q.out m.seq m.from f.made out);
  }
  message-quiet (Replies (reply.Refused number values)) f = tt

  pub quiet-keeps : Keeps v v s t
  quiet-keeps = record { site = site-quiet; letters = λ joined site message fits. message-quiet message }

pub same-quiet : (s t : SubscriberTables) → t.is_joined ≡ s.is_joined → t.rows ≡ s.rows → t.watermark ≡ s.watermark → t.seq ≡ s.seq → t.outstanding ≡ s.outstanding → Quiet s t
same-quiet s t joined rows mark seq out = record {
  joined = joined;
  held = λ key. ap (λ (rs : List (Key × SubscriberRow)). live_only (version_in rs key)) rows;
  empty = λ none. rows ∙ none;
  watermark = mark;
  seq = omega (arith, seq);
  out = λ q from low is. sym out ∙ is;
}

-- a message is made
pub message-quiets : (sent : Outstanding) (s c : SubscriberTables) → c.is_joined ≡ s.is_joined → c.rows ≡ s.rows → c.watermark ≡ s.watermark → c.seq ≡ s.seq → Quiet s (with_message sent c)
message-quiets sent s c joined rows mark seq = record {
  joined = joined;
  held = λ key. ap (λ (rs : List (Key × SubscriberRow)). live_only (version_in rs key)) rows;
  empty = λ none. rows ∙ none;
  watermark = mark;
  seq = omega (arith, seq);
  out = λ q from low is. (let next : q ≡ c.seq + 1 = grind (arith, is) in absurd (omega (arith, next, low, seq)));
}

-- The site is made anew.
module _ (v : SiteView) (judge : SubscriberJudge) (now : Moment) (s : SubscriberTables) where
  abbrev anew : SubscriberTables
  anew = (result_of_reinit judge (subscriber_at_moment now s)).0

  message-anew : (message : Message) → MessageSettles v s message → MessageSettles v anew message
  message-anew (Asks (request.Join m)) f = tt
  message-anew (Asks (request.Upload m)) f = f
  message-anew (Asks (request.Ranges m)) f = tt
  message-anew (Asks (request.Download m)) f = tt
  message-anew (Replies (reply.Joined m)) f = tt
  message-anew (Replies (reply.Uploaded m)) f = tt
  message-anew (Replies (reply.Ranged m)) f = tt
  message-anew (Replies (reply.Downloaded m)) f = record { made = f.made; up = f.up; to = f.to; fits = λ live joins out. absurd (grind (arith, joins)) }
  message-anew (Replies (reply.Refused number values)) f = tt

  pub anew-keeps : Keeps v v s anew
  anew-keeps = record {
    site = λ f. record { equal = λ live joins. absurd (grind (arith, joins)); empty = λ none. refl; unmarked = λ none. refl; marks = omega arith };
    letters = λ joined site message fits. message-anew message;
  }

-- A local change: its row has not acted, and stands in no upload.
module _ (publication : Publication) (p : PublisherTables) (made : List MadeChange) (n : ℕ) (c : MadeChange) (s t : SubscriberTables) (opens : received_by_number p n < c.generation) (above : subscriber_last_closed s < c.generation)
    (joined : s.is_joined ≡ true) (held : (key : Key) → same_key key c.key ≡ false → held_at t key ≡ held_at s key) (flag : t.is_joined ≡ true) (mark : t.watermark ≡ s.watermark) (seq : t.seq ≡ s.seq) (sent : t.outstanding ≡ s.outstanding) where
  abbrev v : SiteView
  v = site_view publication p made n

  abbrev u : SiteView
  u = site_view publication p (c ∷ made) n

  other-row : (key : Key) (P : Type 0) (most : ℕ) → changed_of (c ∷ made) key ≤ most → most < c.generation → (same_key key c.key ≡ false → changed_of (c ∷ made) key ≡ changed_of made key → P) → P
  other-row key P most up low other = decided (same_key key c.key) (same_key key c.key) P refl (λ same. (let first = changed-same key c made same in absurd (omega (arith, first, up, low)))) (λ differs. other differs (changed-other key c made differs))

  site-changed : SiteHolds v s → SiteHolds u t
  site-changed f = record {
    equal = λ live joins key taken low. other-row key (held_at t key ≡ u.owed key) (received_by_number p n) taken opens (λ differs same.
        held key differs ∙ f.equal live joined key (omega (arith, taken, same)) (omega (arith, low, mark)));
    empty = λ none. absurd (grind (arith, none, flag));
    unmarked = λ none. absurd (grind (arith, none, flag));
    marks = let below = f.marks in omega (arith, mark, below);
  }

  sends-changed : (m : Upload) → m.to ≤ subscriber_last_closed s → SendsChanged v.changed m → SendsChanged u.changed m
  sends-changed m to f = record {
    items = λ key low up. other-row key (has_item m.items key (u.changed key) ≡ true) m.to up (omega (arith, to, above)) (λ differs same.
        ap (λ (generation : ℕ). has_item m.items key generation) same ∙ f.items key (omega (arith, low, same)) (omega (arith, up, same)));
  }

  reply-changed : (m : Downloaded) → ReplyFits v m → ReplyFits u m
  reply-changed m f = record {
    now = f.now;
    only = f.only;
    later = λ key low up. other-row key (m.to < v.touched key) (received_by_number p n) up opens (λ differs same. f.later key (omega (arith, low, same)) (omega (arith, up, same)));
  }

  message-changed : (joins : ℕ) (site : SiteId) (message : Message) → MessageFits joins site (Some s) message → MessageSettles v s message → MessageSettles u t message
  message-changed joins site (Asks (request.Join m)) fits f = tt
  message-changed joins site (Asks (request.Upload m)) fits f = sends-changed m fits.1 f
  message-changed joins site (Asks (request.Ranges m)) fits f = tt
  message-changed joins site (Asks (request.Download m)) fits f = tt
  message-changed joins site (Replies (reply.Joined m)) fits f = tt
  message-changed joins site (Replies (reply.Uploaded m)) fits f = tt
  message-changed joins site (Replies (reply.Ranged m)) fits f = tt
  message-changed joins site (Replies (reply.Downloaded m)) fits f = record {
    made = let made = f.made in omega (arith, made, seq);
    up = f.up;
    to = f.to;
    fits = λ live is out. reply-changed m (f.fits live joined (sym sent ∙ out));
  }
  message-changed joins site (Replies (reply.Refused number values)) fits f = tt

  pub change-keeps : Keeps v u s t
  change-keeps = record { site = site-changed; letters = message-changed }
