-- What a step notes leaves alone each part of a history that it does not speak of.
use Rattle.std.specs.Prelude.{◌≡◌, ℕ, List, [], ◌∷◌, Bool, true, false, Option, Some, None, refl, if◌then◌else◌}
use Rattle.std.specs.List.{fold}
use Rattle.std.proofs.Common.{◌∙◌}
use Rattle.merge_types.specs.declared.identifiers.Dot.{Dot}
use Rattle.merge_types.specs.declared.identifiers.SiteId.{SiteId}
use Rattle.merge_units.specs.declared.case.Case.{Case}
use Rattle.merge_units.specs.declared.result.Decision.{Decision}
use Rattle.merge_units.specs.declared.result.Decision.TheVariants.{KeepPublisher, TakeSubscriber, Custom}
use Rattle.merge_units.specs.declared.version.Version.{Version}
use Rattle.merge_batch.specs.declared.reply.Act.{Act as Order}
use Rattle.merge_batch.specs.declared.reply.Act.TheVariants as order
use Rattle.merge_batch.specs.declared.reply.DownloadItem.{DownloadItem}
use Rattle.merge_batch.specs.declared.reply.Reply.{Reply}
use Rattle.merge_batch.specs.declared.reply.Reply.TheVariants as reply
use Rattle.merge_model.specs.Publisher.Acts.{Act, Fate, Met, New, Unknown}
use Rattle.merge_units.specs.Cases.{is_conflict}
use Rattle.merge_model.specs.Publisher.Entries.{Entries}
use Rattle.merge_model.specs.History.{History, Line, MadeChange, Past, past_at, past_in}
use Rattle.merge_model.specs.Judge.{SubscriberJudge}
use Rattle.merge_model.specs.History.Noting
use Rattle.merge_model.specs.History.Pasts.{past_by}
use Rattle.merge_model.specs.Subscriber.Reinit.{discarded_versions}
use Rattle.merge_types.specs.declared.row_key.RowKey.{RowKey as Key}
use Rattle.merge_model.specs.Tables.{SubscriberTables}
use Rattle.merge_model.specs.Subscriber.Taking.{key_of_download}
use Rattle.merge_model.specs.World.{Judges}

pub fold-leave : {A X : Type 0} (part : History → X) (f : History → A → History) → ((h : History) (a : A) → part (f h a) ≡ part h) → (xs : List A) (h : History) → part (fold f h xs) ≡ part h
fold-leave part f same [] h = refl
fold-leave part f same (x ∷ xs) h = fold-leave part f same xs (f h x) ∙ same h x

pub lines-accepted : (lines : List Line) (h : History) → (Noting.with_lines lines h).accepted ≡ h.accepted
lines-accepted lines h = fold-leave (λ (x : History). x.accepted) Noting.with_line (λ x line. refl) lines h

module _ {X : Type 0} (part : History → X) where
  pub if-leave : (b : Bool) (x y h : History) → part x ≡ part h → part y ≡ part h → part (if b then x else y) ≡ part h
  if-leave true x y h one other = one
  if-leave false x y h one other = other

  -- what the part does not speak of
  abbrev PastsLeave : Type 0
  PastsLeave = (h : History) (pasts : List (ℕ × List (Key × Past))) → part (record h { pasts = pasts }) ≡ part h

  abbrev LostLeaves : Type 0
  LostLeaves = (h : History) (lost : List (ℕ × (Key × Past))) → part (record h { lost = lost }) ≡ part h

  abbrev MadeLeaves : Type 0
  MadeLeaves = (h : History) (made : List MadeChange) (pasts : List (ℕ × List (Key × Past))) → part (record h { made = made; pasts = pasts }) ≡ part h

  -- Replies.

  order-leave : PastsLeave → (n : ℕ) (incoming : List (Key × Past)) (key : Key) (o : Order) (h : History) → part (Noting.with_order_past n incoming key o h) ≡ part h
  order-leave same n incoming key (order.Put lineage live) h = same h (Noting.with_past n key (past_in incoming key) h).pasts
  order-leave same n incoming key order.RemoveDeleted h = same h (Noting.without_past n key h).pasts
  order-leave same n incoming key order.RemoveLeft h = same h (Noting.without_past n key h).pasts

  pub items-leave : (judge : SubscriberJudge) (received n : ℕ) (incoming : List (Key × Past)) → PastsLeave → (items : List DownloadItem) (h : History) → part (fold (Noting.with_item_past judge received n incoming) h items) ≡ part h
  items-leave judge received n incoming same items h = fold-leave part (Noting.with_item_past judge received n incoming)
      (λ x item. if-leave (judge.is_unsent received (key_of_download item)) x (Noting.with_order_past n incoming (key_of_download item) item.act x) x refl (order-leave same n incoming (key_of_download item) item.act x)) items h

  pub reply-leave : PastsLeave → (judge : SubscriberJudge) (site : SiteId) (incoming : List (Key × Past)) (m : Reply) (h : History) → part (Noting.noted_reply judge site incoming m h) ≡ part h
  reply-leave same judge site incoming (reply.Downloaded m) h = items-leave judge m.received site.0 incoming same m.items h
  reply-leave same judge site incoming (reply.Joined m) h = refl
  reply-leave same judge site incoming (reply.Uploaded m) h = refl
  reply-leave same judge site incoming (reply.Ranged m) h = refl
  reply-leave same judge site incoming (reply.Refused number values) h = refl

  pub taker-leave : PastsLeave → (judges : Judges) (site : SiteId) (incoming : List (Key × Past)) (m : Reply) (found : Option SubscriberTables) (h : History)
      → (let k : History = elim found [ None ↦ h | Some s ↦ Noting.noted_reply (judges.subscriber site s) site incoming m h ] in part k ≡ part h)
  taker-leave same judges site incoming m None h = refl
  taker-leave same judges site incoming m (Some s) h = reply-leave same (judges.subscriber site s) site incoming m h

  -- Making anew.

  pub discarded-leave : LostLeaves → (site : SiteId) (rows : List (Key × Version)) (h : History) → part (fold (Noting.with_discarded site) h rows) ≡ part h
  discarded-leave same site rows h = fold-leave part (Noting.with_discarded site) (λ x row. same x (Noting.with_discarded site x row).lost) rows h

  pub anew-leave : PastsLeave → LostLeaves → (judges : Judges) (site : SiteId) (found : Option SubscriberTables) (h : History)
      → (let k : History = elim found [ None ↦ h | Some s ↦ Noting.noted_anew (judges.subscriber site s) s h ] in part k ≡ part h)
  anew-leave pasts lost judges site None h = refl
  anew-leave pasts lost judges site (Some s) h =
      let after : History = fold (Noting.with_discarded s.site) h (discarded_versions (judges.subscriber site s) s) in
      pasts after (Noting.noted_anew (judges.subscriber site s) s h).pasts ∙ discarded-leave lost s.site (discarded_versions (judges.subscriber site s) s) h

  -- Uploads.

  pub loser-leaves : LostLeaves → (decision : Decision) (key : Key) (ours theirs : Past) (h : History) → part (Noting.with_loser decision key ours theirs h) ≡ part h
  loser-leaves same KeepPublisher key ours theirs h = same h (Noting.with_lost 0 key theirs h).lost
  loser-leaves same TakeSubscriber key ours theirs h = same h (Noting.with_lost 0 key ours h).lost
  loser-leaves same (Custom values) key ours theirs h = same h (Noting.with_lost 0 key theirs (Noting.with_lost 0 key ours h)).lost

  pub decided-leaves : MadeLeaves → (decision : Decision) (dot : Dot) (generation : ℕ) (key : Key) (case : Case) (past : Past) (h : History) → part (Noting.with_decided decision dot generation key case past h) ≡ part h
  decided-leaves same KeepPublisher dot generation key case past h = same h h.made (Noting.with_past 0 key past h).pasts
  decided-leaves same TakeSubscriber dot generation key case past h = same h h.made (Noting.with_past 0 key past h).pasts
  decided-leaves same (Custom values) dot generation key case past h =
      let k : History = Noting.with_made (Noting.decided_change dot generation key case past) h in
      same h k.made k.pasts

  pub fate-leaves : LostLeaves → MadeLeaves → (fate : Fate) (generation : ℕ) (key : Key) (incoming : Past) (h : History) → part (Noting.with_fate fate generation key incoming h) ≡ part h
  fate-leaves lost made New generation key incoming h = made h h.made (Noting.with_past 0 key incoming h).pasts
  fate-leaves lost made Unknown generation key incoming h = lost h (Noting.with_lost 0 key incoming h).lost
  fate-leaves lost made (Met held case decision dot) generation key incoming h =
      let ours : Past = past_at h 0 key in
      let met : Past = past_by case decision dot ours incoming in
      let after : History = Noting.with_decided decision dot generation key case met h in
      let decided : part after ≡ part h = decided-leaves made decision dot generation key case met h in
      if-leave (is_conflict case) (Noting.with_loser decision key ours incoming after) after h (loser-leaves lost decision key ours incoming after ∙ decided) decided

  pub acts-leave : LostLeaves → MadeLeaves → ((h : History) (accepted : List Dot) → part (record h { accepted = accepted }) ≡ part h) → (incoming : List (Key × Past)) (entries : Entries) (acts : List Act) (h : History) → part (fold (Noting.with_act incoming entries) h acts) ≡ part h
  acts-leave lost made accepted incoming entries acts h = fold-leave part (Noting.with_act incoming entries)
      (λ x act. (let fate : History = Noting.with_fate act.fate (Noting.entry_generation entries act.key) act.key (past_in incoming act.key) x in
      accepted fate (Noting.with_accepted (past_in incoming act.key) fate).accepted ∙ fate-leaves lost made act.fate (Noting.entry_generation entries act.key) act.key (past_in incoming act.key) x)) acts h
