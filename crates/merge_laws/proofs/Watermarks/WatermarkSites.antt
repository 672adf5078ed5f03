-- Each step of a subscriber keeps what the publisher takes it to hold.
use Rattle.std.specs.Prelude.{◌≡◌, ◌≤◌, ◌+◌, ℕ, List, Option, Some, None, refl}
use Rattle.std.proofs.Common.{arith, sym, ap, ◌∙◌}
use Rattle.std.proofs.lemmas.Bool.Decides.{nat_tests}
use Rattle.merge_types.specs.declared.identifiers.Moment.{Moment}
use Rattle.merge_types.specs.declared.changes.Change.{Change}
use Rattle.merge_types.specs.declared.values.Value.{Value}
use Rattle.merge_units.specs.declared.version.Version.{Version}
use Rattle.merge_ident.specs.Holders.{Holder}
use Rattle.merge_gens.specs.declared.sites.SiteState.{SiteState}
use Rattle.merge_batch.specs.Replies.{broken_by_reply}
use Rattle.merge_batch.specs.declared.reply.Downloaded.{Downloaded}
use Rattle.merge_batch.specs.declared.reply.Reply.{Reply}
use Rattle.merge_batch.specs.declared.reply.Reply.TheVariants as reply
use Rattle.merge_batch.specs.declared.request.Outstanding.{Outstanding}
use Rattle.merge_batch.specs.declared.request.Outstanding.TheVariants as ask
use Rattle.merge_schema.specs.declared.publication.Publication.{Publication}
use Rattle.merge_model.specs.Tables.Changes.{key_of, version_after}
use Rattle.merge_model.specs.World.Faults.{reply_fault}
use Rattle.merge_model.specs.Judge.{SubscriberJudge}
use Rattle.merge_model.specs.Subscriber.Reinit.{result_of_reinit}
use Rattle.merge_model.specs.Subscriber.Sending.{with_message}
use Rattle.merge_model.specs.Subscriber.{subscriber_at_moment, subscriber_made_locally, subscriber_next_dot, subscriber_version_at, with_version_if}
use Rattle.merge_types.specs.declared.row_key.RowKey.{RowKey as Key}
use Rattle.merge_model.specs.Tables.{SubscriberTables}
use Rattle.merge_model.specs.Subscriber.Taking.{seq_of, tables_after_reply}
use Rattle.merge_model.specs.declared.letter.Message.TheVariants.{Replies}
use Rattle.merge_laws.specs.Facts.Received.{MessageFits}
use Rattle.merge_laws.specs.Facts.Watermarks.{StateHolds}
use Rattle.merge_laws.proofs.Watermarks.WatermarkLists.{Moves}

module _ (state : SiteState) (s : SubscriberTables) (f : StateHolds state s) where
  -- a step that leaves all of this alone
  pub quiet : (t : SubscriberTables) → t.site ≡ s.site → t.seq ≡ s.seq → t.watermark ≡ s.watermark → t.is_joined ≡ s.is_joined → t.outstanding ≡ s.outstanding → Moves state s t
  quiet t site seq mark flag out = (
    site,
    record {
      at = omega (arith, f.at, seq);
      behind = λ joins. omega (arith, f.behind (sym flag ∙ joins), mark);
      anew = λ low. f.anew (omega (arith, low, seq));
      asked = λ q from e. f.asked q from (sym out ∙ e) ∙ sym mark;
    },
    λ m a. record { made = omega (arith, a.made, seq); low = λ later joins. omega (arith, a.low later (sym flag ∙ joins), mark) },
  )

  -- Local changes.

  version-moves : (key : Key) (version : Option Version) (u : SubscriberTables) → u.site ≡ s.site → u.seq ≡ s.seq → u.watermark ≡ s.watermark → u.is_joined ≡ s.is_joined → u.outstanding ≡ s.outstanding → Moves state s (with_version_if key version u)
  version-moves key None u site seq mark flag out = quiet u site seq mark flag out
  version-moves key (Some version) u site seq mark flag out = quiet (with_version_if key (Some version) u) site seq mark flag out

  pub made-moves : (publication : Publication) (now : Moment) (change : Change) (d : Value × List (ℕ × Holder)) → Moves state s (subscriber_made_locally publication change d (subscriber_at_moment now s)).0
  made-moves publication now change d =
      let t : SubscriberTables = subscriber_at_moment now s in
      version-moves (key_of (subscriber_next_dot t) change) (version_after publication (subscriber_next_dot t) d.0 change (subscriber_version_at t (key_of (subscriber_next_dot t) change))) (record t { changes = t.changes + 1; held = d.1 }) refl refl refl refl refl

  -- Messages.

  abbrev pub begins : Outstanding → ℕ → Type 0
  begins (ask.Download from) mark = from ≡ mark
  begins ask.Join mark = Unit {0}
  begins ask.Ranges mark = Unit {0}
  begins (ask.Upload from to) mark = Unit {0}

  begins-at : (sent : Outstanding) (from mark : ℕ) → sent ≡ ask.Download from → begins sent mark → from ≡ mark
  begins-at (ask.Download low) from mark is fits = (let same : low ≡ from = grind (arith, is) in sym same ∙ fits)
  begins-at ask.Join from mark is fits = absurd (grind (arith, is))
  begins-at ask.Ranges from mark is fits = absurd (grind (arith, is))
  begins-at (ask.Upload low to) from mark is fits = absurd (grind (arith, is))

  sent-same : (a b : ℕ × Outstanding) → Some a ≡ Some b → a.1 ≡ b.1
  sent-same a b e = (let same : a ≡ b = cc in ap (λ (x : ℕ × Outstanding). x.1) same)

  pub sent-moves : (sent : Outstanding) (c : SubscriberTables) → c.site ≡ s.site → c.seq ≡ s.seq → c.watermark ≡ s.watermark → c.is_joined ≡ s.is_joined → begins sent c.watermark → Moves state s (with_message sent c)
  sent-moves sent c site seq mark flag fits = (
    site,
    record {
      at = omega (arith, f.at, seq);
      behind = λ joins. omega (arith, f.behind (sym flag ∙ joins), mark);
      anew = λ low. absurd (omega (arith, low, seq, f.at));
      asked = λ q from e. begins-at sent from c.watermark (sent-same (c.seq + 1, sent) (q, ask.Download from) e) fits;
    },
    λ m a. record { made = omega (arith, a.made, seq); low = λ later joins. omega (arith, a.low later (sym flag ∙ joins), mark) },
  )

  -- Making anew.

  pub anew-moves : (judge : SubscriberJudge) (now : Moment) → Moves state s (result_of_reinit judge (subscriber_at_moment now s)).0
  anew-moves judge now = (
    refl,
    record { at = f.at; behind = λ joins. absurd (grind (arith, joins)); anew = f.anew; asked = λ q from e. absurd (grind (arith, e)) },
    λ m a. record { made = a.made; low = λ later joins. absurd (grind (arith, joins)) },
  )

  -- Replies.

  goes-up : (publication : Publication) (sent : Outstanding) (m : Downloaded) → reply_fault publication sent (reply.Downloaded m) s ≡ None → (from : ℕ) → sent ≡ ask.Download from → from ≤ m.to
  unfolding broken_by_reply
  goes-up publication (ask.Download low) m none from is = (let same : low ≡ from = grind (arith, is) in let up : low ≤ m.to = grind (arith, nat_tests, none) in omega (arith, same, up))
  goes-up publication ask.Join m none from is = absurd (grind (arith, is))
  goes-up publication ask.Ranges m none from is = absurd (grind (arith, is))
  goes-up publication (ask.Upload low to) m none from is = absurd (grind (arith, is))

  is-ask : (publication : Publication) (sent : Outstanding) (m : Downloaded) → reply_fault publication sent (reply.Downloaded m) s ≡ None → (from : ℕ) × (sent ≡ ask.Download from)
  unfolding broken_by_reply
  is-ask publication (ask.Download low) m none = (low, refl)
  is-ask publication ask.Join m none = absurd (grind (arith, none))
  is-ask publication ask.Ranges m none = absurd (grind (arith, none))
  is-ask publication (ask.Upload low to) m none = absurd (grind (arith, none))

  pub taken-moves : (publication : Publication) (judge : SubscriberJudge) (now : Moment) (q : ℕ) (sent : Outstanding) (m : Reply) → MessageFits state.joined_at s.site (Some s) (Replies m) → s.outstanding ≡ Some (q, sent) → s.seq ≡ seq_of m
      → reply_fault publication sent m s ≡ None → Moves state s (tables_after_reply judge now m s)
  taken-moves publication judge now q sent (reply.Joined m) fits out same none =
      let low : s.seq ≤ state.joined_at = omega (arith, fits, same) in (
        refl,
        record { at = f.at; behind = λ joins. omega (arith, f.anew low); anew = f.anew; asked = λ k from e. absurd (grind (arith, e)) },
        λ a x. record { made = x.made; low = λ later joins. absurd (omega (arith, later, x.made, low)) },
      )
  taken-moves publication judge now q sent (reply.Uploaded m) fits out same none = (
    refl,
    record { at = f.at; behind = f.behind; anew = f.anew; asked = λ k from e. absurd (grind (arith, e)) },
    λ a x. record { made = x.made; low = x.low },
  )
  taken-moves publication judge now q sent (reply.Ranged m) fits out same none = (
    refl,
    record { at = f.at; behind = f.behind; anew = f.anew; asked = λ k from e. absurd (grind (arith, e)) },
    λ a x. record { made = x.made; low = x.low },
  )
  taken-moves publication judge now q sent (reply.Downloaded m) fits out same none =
      let begun = is-ask publication sent m none in
      let low : begun.0 ≡ s.watermark = f.asked q begun.0 (out ∙ ap (λ (x : Outstanding). Some (q, x)) begun.1) in
      let up : begun.0 ≤ m.to = goes-up publication sent m none begun.0 begun.1 in (
        refl,
        record { at = f.at; behind = λ joins. omega (arith, f.behind joins, low, up); anew = f.anew; asked = λ k from e. absurd (grind (arith, e)) },
        λ a x. record { made = x.made; low = λ later joins. omega (arith, x.low later joins, low, up) },
      )
  taken-moves publication judge now q sent (reply.Refused number values) fits out same none = (
    refl,
    record { at = f.at; behind = f.behind; anew = f.anew; asked = λ k from e. absurd (grind (arith, e)) },
    λ a x. record { made = x.made; low = x.low },
  )
