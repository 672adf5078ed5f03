-- What a site holds, and what is in the messages to it, stays true as the publisher goes on.
use Rattle.std.specs.Prelude.{◌≡◌, ◌≤◌, ◌<◌, ℕ, true, false, Option, Some}
use Rattle.std.proofs.Common.{arith, sym, ap, ◌∙◌}
use Rattle.std.proofs.lemmas.Bool.Decides.{nat_tests}
use Rattle.merge_types.specs.declared.identifiers.SiteId.{SiteId}
use Rattle.merge_units.specs.declared.version.Version.{Version}
use Rattle.merge_batch.specs.declared.reply.Downloaded.{Downloaded}
use Rattle.merge_batch.specs.declared.reply.Reply.TheVariants as reply
use Rattle.merge_batch.specs.declared.request.Outstanding.TheVariants as ask
use Rattle.merge_batch.specs.declared.request.Request.TheVariants as request
use Rattle.merge_batch.specs.declared.request.Upload.{Upload}
use Rattle.merge_types.specs.declared.row_key.RowKey.{RowKey as Key}
use Rattle.merge_model.specs.Tables.{SubscriberTables}
use Rattle.merge_model.specs.declared.letter.Message.TheVariants.{Asks, Replies}
use Rattle.merge_model.specs.declared.letter.Message.{Message}
use Rattle.merge_laws.specs.Facts.Received.{MessageFits}
use Rattle.merge_laws.specs.Facts.Settled.{MessageSettles, ReplyFits, ReplyHolds, SiteView, SendsChanged, SiteHolds}

-- what goes from a site as it was to it as it is, with what is in its messages
pub record Keeps (v u : SiteView) (s t : SubscriberTables) : Type 0 where
  pub site : SiteHolds v s → SiteHolds u t
  pub letters : (joined : ℕ) (site : SiteId) (message : Message) → MessageFits joined site (Some s) message → MessageSettles v s message → MessageSettles u t message

-- what may differ below does not
below-or : (x low a : ℕ) → (a ≤ low → x < a) → x ≤ low → x < a
below-or x low a f e = grind (arith, nat_tests, f, e)

-- The publisher goes on: each row stays as it was for the site, or is touched behind what had closed.
pub record Onward (v u : SiteView) : Type 0 where
  pub live : u.is_expired ≡ false → v.is_expired ≡ false
  pub closed : v.closed ≤ u.closed
  pub changed : (key : Key) → u.changed key ≡ v.changed key
  -- what acts now is told behind it
  pub taken : (key : Key) → u.changed key ≤ u.received → u.touched key ≤ v.closed → v.changed key ≤ v.received
  pub touched : (key : Key) → u.touched key ≤ v.closed → u.touched key ≡ v.touched key
  pub owed : (key : Key) → u.touched key ≤ v.closed → u.owed key ≡ v.owed key

sends-onward : (v u : SiteView) (m : Upload) → ((key : Key) → u.changed key ≡ v.changed key) → SendsChanged v.changed m → SendsChanged u.changed m
sends-onward v u m same f = record { items = λ key above low. (let e = same key in grind (arith, e, f.items key, above, low)) }

module _ (v u : SiteView) (o : Onward v u) where
  site-onward : (s : SubscriberTables) → SiteHolds v s → SiteHolds u s
  site-onward s f = record {
    equal = λ live joins key taken low. (
        let mark = f.marks in
        let within : u.touched key ≤ v.closed = omega (arith, low, mark) in
        let touched = o.touched key within in
        f.equal (o.live live) joins key (o.taken key taken within) (omega (arith, touched, low)) ∙ sym (o.owed key within));
    empty = f.empty;
    unmarked = f.unmarked;
    marks = let mark = f.marks in let up = o.closed in omega (arith, mark, up);
  }

  reply-onward : (m : Downloaded) → m.from ≤ m.to → m.to ≤ v.closed → ReplyFits v m → ReplyFits u m
  reply-onward m up to f = record {
    now = λ key above low. (
        let within : u.touched key ≤ v.closed = omega (arith, low, to) in
        let touched = o.touched key within in
        f.now key (omega (arith, touched, above)) (omega (arith, touched, low)) ∙ ap (λ (x : Option Version). (let found : Option (Option Version) = Some x in found)) (sym (o.owed key within)));
    only = λ key item said. below-or m.from v.closed (u.touched key) (λ within. (let touched = o.touched key within in let before = f.only key item said in omega (arith, touched, before))) (omega (arith, up, to));
    later = λ key above taken. below-or m.to v.closed (u.touched key) (λ within. (
        let touched = o.touched key within in
        let same = o.changed key in
        let before = f.later key (omega (arith, above, same)) (o.taken key taken within) in
        omega (arith, touched, before))) to;
  }

  holds-onward : (s : SubscriberTables) (m : Downloaded) → ReplyHolds v s m → ReplyHolds u s m
  holds-onward s m r = record {
    made = r.made;
    up = r.up;
    to = let to = r.to in let up = o.closed in omega (arith, to, up);
    fits = λ live joins out. reply-onward m r.up r.to (r.fits (o.live live) joins out);
  }

  message-onward : (s : SubscriberTables) (message : Message) → MessageSettles v s message → MessageSettles u s message
  message-onward s (Asks (request.Join m)) f = tt
  message-onward s (Asks (request.Upload m)) f = sends-onward v u m o.changed f
  message-onward s (Asks (request.Ranges m)) f = tt
  message-onward s (Asks (request.Download m)) f = tt
  message-onward s (Replies (reply.Joined m)) f = tt
  message-onward s (Replies (reply.Uploaded m)) f = tt
  message-onward s (Replies (reply.Ranged m)) f = tt
  message-onward s (Replies (reply.Downloaded m)) f = holds-onward s m f
  message-onward s (Replies (reply.Refused number values)) f = tt

  pub onward-keeps : (s : SubscriberTables) → Keeps v u s s
  onward-keeps s = record { site = site-onward s; letters = λ joined site message fits. message-onward s message }

-- A join of the site acts: the site is joining, and waits for the answer.
module _ (v u : SiteView) (s : SubscriberTables) (joins : s.is_joined ≡ false) (closed : v.closed ≤ u.closed) (changed : (key : Key) → u.changed key ≡ v.changed key) where
  not-joined : s.is_joined ≡ true → ⊥
  not-joined is = grind (arith, joins, is)

  message-joining : (message : Message) → MessageSettles v s message → MessageSettles u s message
  message-joining (Asks (request.Join m)) f = tt
  message-joining (Asks (request.Upload m)) f = sends-onward v u m changed f
  message-joining (Asks (request.Ranges m)) f = tt
  message-joining (Asks (request.Download m)) f = tt
  message-joining (Replies (reply.Joined m)) f = tt
  message-joining (Replies (reply.Uploaded m)) f = tt
  message-joining (Replies (reply.Ranged m)) f = tt
  message-joining (Replies (reply.Downloaded m)) f = record { made = f.made; up = f.up; to = let to = f.to in omega (arith, to, closed); fits = λ live is. absurd (not-joined is) }
  message-joining (Replies (reply.Refused number values)) f = tt

  pub joining-keeps : Keeps v u s s
  joining-keeps = record {
    site = λ f. record { equal = λ live is. absurd (not-joined is); empty = f.empty; unmarked = f.unmarked; marks = let mark = f.marks in omega (arith, mark, closed) };
    letters = λ joined site message fits. message-joining message;
  }

-- A purge: what is forgotten of a row was touched no later than the site's watermark.
pub record Forgets (v u : SiteView) (mark : ℕ) : Type 0 where
  pub live : u.is_expired ≡ false → v.is_expired ≡ false
  pub received : u.received ≡ v.received
  pub owed : (key : Key) → u.owed key ≡ v.owed key
  pub lower : (key : Key) → u.touched key ≤ v.touched key
  pub dropped : u.is_expired ≡ false → (key : Key) → mark < v.touched key → u.touched key ≡ v.touched key

still-low : (touched before mark : ℕ) → (mark < before → touched ≡ before) → touched ≤ mark → before ≤ mark
still-low touched before mark dropped low = grind (arith, nat_tests, dropped, low)

module _ (v u : SiteView) (s : SubscriberTables) (g : s.is_joined ≡ true → Forgets v u s.watermark) (closed : v.closed ≤ u.closed) (changed : (key : Key) → u.changed key ≡ v.changed key) (asks : (seq from : ℕ) → s.outstanding ≡ Some (seq, ask.Download from) → from ≡ s.watermark) where
  site-forgets : SiteHolds v s → SiteHolds u s
  site-forgets f = record {
    equal = λ live joins key taken low. (
        let o : Forgets v u s.watermark = g joins in
        let same = changed key in
        let received = o.received in
        f.equal (o.live live) joins key (omega (arith, taken, same, received)) (still-low (u.touched key) (v.touched key) s.watermark (o.dropped live key) low) ∙ sym (o.owed key));
    empty = f.empty;
    unmarked = f.unmarked;
    marks = let mark = f.marks in omega (arith, mark, closed);
  }

  reply-forgets : (m : Downloaded) → s.is_joined ≡ true → u.is_expired ≡ false → m.from ≡ s.watermark → m.from ≤ m.to → ReplyFits v m → ReplyFits u m
  reply-forgets m joins live begins up f =
      let o : Forgets v u s.watermark = g joins in record {
        now = λ key above low. (
            let lower = o.lower key in
            let touched = o.dropped live key (omega (arith, begins, above, lower)) in
            f.now key (omega (arith, touched, above)) (omega (arith, touched, low)) ∙ ap (λ (x : Option Version). (let found : Option (Option Version) = Some x in found)) (sym (o.owed key)));
        only = λ key item said. (
            let before = f.only key item said in
            let touched = o.dropped live key (omega (arith, begins, before)) in
            omega (arith, touched, before));
        later = λ key above taken. (
            let same = changed key in
            let received = o.received in
            let before = f.later key (omega (arith, above, same)) (omega (arith, taken, same, received)) in
            let touched = o.dropped live key (omega (arith, begins, up, before)) in
            omega (arith, touched, before));
      }

  message-forgets : (message : Message) → MessageSettles v s message → MessageSettles u s message
  message-forgets (Asks (request.Join m)) f = tt
  message-forgets (Asks (request.Upload m)) f = sends-onward v u m changed f
  message-forgets (Asks (request.Ranges m)) f = tt
  message-forgets (Asks (request.Download m)) f = tt
  message-forgets (Replies (reply.Joined m)) f = tt
  message-forgets (Replies (reply.Uploaded m)) f = tt
  message-forgets (Replies (reply.Ranged m)) f = tt
  message-forgets (Replies (reply.Downloaded m)) f = record {
    made = f.made;
    up = f.up;
    to = let to = f.to in omega (arith, to, closed);
    fits = λ live joins out. reply-forgets m joins live (asks m.seq m.from out) f.up (f.fits ((g joins).live live) joins out);
  }
  message-forgets (Replies (reply.Refused number values)) f = tt

  pub forgets-keeps : Keeps v u s s
  forgets-keeps = record { site = site-forgets; letters = λ joined site message fits. message-forgets message }
