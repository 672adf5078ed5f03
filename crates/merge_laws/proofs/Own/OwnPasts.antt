-- The pasts of the other sites, and what a step notes in histories, part by part.
use Rattle.std.specs.Prelude.{◌≡◌, ◌∷◌, ℕ, List, [], Bool, true, false, Option, refl, if◌then◌else◌, unwrap_or}
use Rattle.std.specs.List.{fold}
use Rattle.std.proofs.Common.{subst, sym, ap, ◌∙◌}
use Rattle.merge_types.specs.declared.identifiers.SiteId.{SiteId}
use Rattle.merge_units.specs.declared.version.Version.{Version}
use Rattle.merge_batch.specs.declared.reply.Act.{Act as Order}
use Rattle.merge_batch.specs.declared.reply.Act.TheVariants as order
use Rattle.merge_batch.specs.declared.reply.DownloadItem.{DownloadItem}
use Rattle.merge_batch.specs.declared.reply.Reply.{Reply}
use Rattle.merge_batch.specs.declared.reply.Reply.TheVariants as reply
use Rattle.merge_model.specs.History.{History, Line, Past, past_at, past_in, pasts_at}
use Rattle.merge_model.specs.Judge.{SubscriberJudge}
use Rattle.merge_model.specs.Tables.Keys.{at_number, drop_row, put_number, put_row}
use Rattle.merge_model.specs.History.Noting
use Rattle.merge_types.specs.declared.row_key.RowKey.{RowKey as Key}
use Rattle.merge_model.specs.Subscriber.Taking.{key_of_download}
use Rattle.merge_model.proofs.Lists.Finding.{at_put_other}

-- The pasts of a site.

-- the pasts of one site may be others
abbrev pub SameBut : ℕ → List (ℕ × List (Key × Past)) → List (ℕ × List (Key × Past)) → Type 0
SameBut site before after = (n : ℕ) → (n ≡ site → ⊥) → at_number after n ≡ at_number before n

pub put-but : (site : ℕ) (pasts : List (Key × Past)) (before all : List (ℕ × List (Key × Past))) → SameBut site before all → SameBut site before (put_number all site pasts)
put-but site pasts before all same n differs = at_put_other site n pasts all differs ∙ same n differs

pub past-but : (site : ℕ) (h k : History) → SameBut site h.pasts k.pasts → (n : ℕ) (q : Key) → (n ≡ site → ⊥) → past_at k n q ≡ past_at h n q
past-but site h k same n q differs = ap (λ (found : Option (List (Key × Past))). past_in (unwrap_or found []) q) (same n differs)

-- What a step notes.

pub lines-on : (P : History → Type 0) (lines : List Line) (h : History) → ((others : List Line) → P (record h { lines = others })) → P (Noting.with_lines lines h)
lines-on P [] h each = each h.lines
lines-on P (line ∷ lines) h each = lines-on P lines (Noting.with_line h line) each

pub lost-on : (P : History → Type 0) (site : SiteId) (rows : List (Key × Version)) (h : History) → ((lost : List (ℕ × (Key × Past))) → P (record h { lost = lost })) → P (fold (Noting.with_discarded site) h rows)
lost-on P site [] h each = each h.lost
lost-on P site (row ∷ rows) h each = lost-on P site rows (Noting.with_discarded site h row) each

-- a reply: the pasts of its site
module _ (P : History → Type 0) (judge : SubscriberJudge) (received site : ℕ) (incoming : List (Key × Past)) where
  order-but : (key : Key) (o : Order) (b : Bool) (h : History) → SameBut site h.pasts (if b then h else Noting.with_order_past site incoming key o h).pasts
  order-but key o true h n differs = refl
  order-but key (order.Put lineage live) false h n differs = at_put_other site n (put_row (pasts_at h site) key (past_in incoming key)) h.pasts differs
  order-but key order.RemoveDeleted false h n differs = at_put_other site n (drop_row (pasts_at h site) key) h.pasts differs
  order-but key order.RemoveLeft false h n differs = at_put_other site n (drop_row (pasts_at h site) key) h.pasts differs

  order-parts : (key : Key) (o : Order) (b : Bool) (h : History) → (if b then h else Noting.with_order_past site incoming key o h) ≡ record h { pasts = (if b then h else Noting.with_order_past site incoming key o h).pasts }
  order-parts key o true h = refl
  order-parts key (order.Put lineage live) false h = refl
  order-parts key order.RemoveDeleted false h = refl
  order-parts key order.RemoveLeft false h = refl

  pub items-on : (items : List DownloadItem) (h : History) → ((pasts : List (ℕ × List (Key × Past))) → SameBut site h.pasts pasts → P (record h { pasts = pasts })) → P (fold (Noting.with_item_past judge received site incoming) h items)
  items-on [] h each = each h.pasts (λ n differs. refl)
  items-on (item ∷ items) h each =
      let key : Key = key_of_download item in
      let b : Bool = judge.is_unsent received key in
      let next : History = Noting.with_item_past judge received site incoming h item in
      items-on items next (λ pasts same. subst (λ (k : History). P (record k { pasts = pasts })) (sym (order-parts key item.act b h)) (each pasts (λ n differs. same n differs ∙ order-but key item.act b h n differs)))

pub reply-on : (P : History → Type 0) (judge : SubscriberJudge) (site : SiteId) (incoming : List (Key × Past)) (m : Reply) (h : History) → ((pasts : List (ℕ × List (Key × Past))) → SameBut site.0 h.pasts pasts → P (record h { pasts = pasts })) → P (Noting.noted_reply judge site incoming m h)
reply-on P judge site incoming (reply.Downloaded m) h each = items-on P judge m.received site.0 incoming m.items h each
reply-on P judge site incoming (reply.Joined m) h each = each h.pasts (λ n differs. refl)
reply-on P judge site incoming (reply.Uploaded m) h each = each h.pasts (λ n differs. refl)
reply-on P judge site incoming (reply.Ranged m) h each = each h.pasts (λ n differs. refl)
reply-on P judge site incoming (reply.Refused number values) h each = each h.pasts (λ n differs. refl)
