-- Every reply that a subscriber takes keeps what is accounted for.
use Rattle.std.specs.Prelude.{◌≡◌, ◌≤◌, ◌==◌, ℕ, List, [], ◌∷◌, Bool, true, false, Option, Some, None, refl, if◌then◌else◌, nat_le}
use Rattle.std.specs.List.{AllByRecursion, fold}
use Rattle.std.proofs.Common.{arith, subst, sym, ap, ◌∙◌}
use Rattle.std.proofs.lemmas.Bool.Decides.{nat_tests}
use Rattle.merge_types.specs.declared.identifiers.SiteId.{SiteId}
use Rattle.merge_units.specs.declared.version.Version.{Version}
use Rattle.merge_schema.specs.declared.publication.Publication.{Publication}
use Rattle.merge_batch.specs.declared.reply.DownloadItem.{DownloadItem}
use Rattle.merge_batch.specs.declared.reply.Reply.{Reply}
use Rattle.merge_batch.specs.declared.reply.Reply.TheVariants as reply
use Rattle.merge_batch.specs.declared.request.Outstanding.{Outstanding}
use Rattle.merge_model.specs.Judge.ByHistory.{by_made}
use Rattle.merge_model.specs.Judge.ByNumbers.{received_by_number}
use Rattle.merge_model.specs.World.Faults.{reply_fault}
use Rattle.merge_model.specs.History.{History, MadeChange, Past, is_done, past_in, pasts_with}
use Rattle.merge_model.specs.Judge.{SubscriberJudge}
use Rattle.merge_model.specs.Laws.{SubscriberIsSorted}
use Rattle.merge_model.specs.Tables.Keys.{at_number, put_number}
use Rattle.merge_model.specs.History.Noting
use Rattle.merge_model.specs.History.Pasts.{cell_count}
use Rattle.merge_model.specs.Publisher.PublisherLocal.{version_at}
use Rattle.merge_model.specs.Subscriber.{subscriber_at_moment}
use Rattle.merge_types.specs.declared.row_key.RowKey.{RowKey as Key}
use Rattle.merge_units.specs.declared.site_row.SubscriberRow.{SubscriberRow}
use Rattle.merge_model.specs.Tables.{SubscriberTables}
use Rattle.merge_model.specs.Subscriber.Taking.{key_of_download, seq_of, tables_after_reply, with_item, with_order, with_received}
use Rattle.merge_model.specs.World.{World, subscriber_at, with_subscriber}
use Rattle.merge_model.specs.declared.letter.Letter.{Letter}
use Rattle.merge_model.specs.declared.letter.Message.{Message}
use Rattle.merge_model.specs.declared.letter.Message.TheVariants.{Replies}
use Rattle.merge_laws.specs.Facts.Accounts.{Accounts, GrownAlone, IsSafe, IsTraced, OfAccounts, is_settled}
use Rattle.merge_laws.specs.Facts.Behind.{TellsActed}
use Rattle.merge_laws.specs.Facts.LineagesStand.{OfMessage, OfOrder, is_of}
use Rattle.merge_laws.proofs.Accounts.AccountBase.{Base}
use Rattle.merge_laws.proofs.Accounts.AccountLetters.{pasts-all}
use Rattle.merge_laws.proofs.Accounts.AccountNotes.{none-traced}
use Rattle.merge_laws.proofs.Accounts.AccountSending.{received-safe, site-away, stays-accounts}
use Rattle.merge_laws.proofs.Accounts.AccountSites.{held-made, sent-made, site-accounts}
use Rattle.merge_laws.proofs.Accounts.AccountTaking.{Takes, alike-accounts, order-takes, put-twice}
use Rattle.merge_model.proofs.Lists.Finding.{at_put_other, at_put_same, letter-zip, pool-at}
use Rattle.merge_laws.proofs.Runs.Ground.{Ground}
use Rattle.merge_laws.proofs.Known.KnownRows.{letter-knows, past-knows}
use Rattle.merge_model.proofs.Lists.{all-both}
use Rattle.merge_laws.proofs.Received.Replying.{downloaded-least, uploaded-least}
use Rattle.merge_laws.proofs.Told.ToldReplies.{versions-above}
use Rattle.merge_laws.proofs.Unsent.Unsending.{received-sorted}
use Rattle.merge_laws.proofs.Unsent.UnsentKept.{all-found}
use Rattle.merge_laws.proofs.Walking.{comes}

-- a site that is put as it was
put-itself : (sites : List (ℕ × SubscriberTables)) (site : ℕ) (s : SubscriberTables) (n : ℕ) (b : Bool) → at_number sites site ≡ Some s → (n == site) ≡ b → at_number (put_number sites site s) n ≡ at_number sites n
put-itself sites site s n true at is =
    let same : n ≡ site = grind (arith, nat_tests, is) in
    ap (λ (k : ℕ). at_number (put_number sites site s) k) same ∙ at_put_same site s sites ∙ sym at ∙ sym (ap (λ (k : ℕ). at_number sites k) same)
put-itself sites site s n false at is = at_put_other site n s sites (λ same. grind (arith, nat_tests, is, same))

module _ (publication : Publication) (found : Key → Option Version) (pool : List Letter) (site : SiteId) (away : site.0 ≡ 0 → ⊥) (base : History) (incoming : List (Key × Past)) (received : ℕ) where
  abbrev judge : SubscriberJudge
  judge = by_made base site

  abbrev ItemFits : DownloadItem → Type 0
  ItemFits item = OfOrder (λ (key : Key) (version : Version) (past : Past). GrownAlone (cell_count publication key.article) base.made key version.body past.chains) (key_of_download item) (past_in incoming (key_of_download item)) item.act

  abbrev Ends : List (ℕ × SubscriberTables) → SubscriberTables → List DownloadItem → List (Key × SubscriberRow) → History → Type 0
  Ends sites s items rows h =
      Accounts publication found (put_number sites site.0 (record s { rows = fold (with_item judge received) rows items })) pool (fold (Noting.with_item_past judge received site.0 incoming) h items)

  -- the items of a download
  pub items-take : (items : List DownloadItem) (sites : List (ℕ × SubscriberTables)) (s : SubscriberTables) (h : History) → Takes publication found pool site away base incoming received sites s h → AllByRecursion ItemFits items → Ends sites s items s.rows h
  items-take [] sites s h t fits = alike-accounts publication found sites (put_number sites site.0 s) pool h (λ n. put-itself sites site.0 s n (n == site.0) t.at refl) t.accounts
  items-take (item ∷ items) sites s h t fits =
      let key : Key = key_of_download item in
      elim (judge.is_unsent received key)
      as (λ (b : Bool). judge.is_unsent received key ≡ b → Ends sites s items (if b then s.rows else with_order key item.act s.rows) (if b then h else Noting.with_order_past site.0 incoming key item.act h)) [
        | true ↦ (λ unsent. items-take items sites s h t fits.1)
        | false ↦ (λ none. (
            let u : SubscriberTables = record s { rows = with_order key item.act s.rows } in
            let k : History = Noting.with_order_past site.0 incoming key item.act h in
            let new = subst (λ (made : List MadeChange). OfOrder (λ (x : Key) (version : Version) (past : Past). GrownAlone (cell_count publication x.article) made x version.body past.chains) key (past_in incoming key) item.act) (sym t.same) fits.0 in
            let next : Takes publication found pool site away base incoming received (put_number sites site.0 u) u k = order-takes publication found pool site away base incoming received sites s h t key none item.act new in
            let last : SubscriberTables = record s { rows = fold (with_item judge received) (with_order key item.act s.rows) items } in
            alike-accounts publication found (put_number (put_number sites site.0 u) site.0 last) (put_number sites site.0 last) pool (fold (Noting.with_item_past judge received site.0 incoming) k items)
            (λ n. put-twice sites site.0 u last n) (items-take items (put_number sites site.0 u) u k next fits.1)
            ))
      ] refl

module _ (publication : Publication) (w : World) (h : History) (s : SubscriberTables) (number : ℕ) (b : Base publication w h) (a : OfAccounts publication w h) (at : subscriber_at w s.site ≡ Some s) where
  abbrev g : Ground publication w h
  g = b.0

  away : s.site.0 ≡ 0 → ⊥
  away = site-away publication w h s b a at

  abbrev found : Key → Option Version
  found = version_at w.publisher

  -- what has acted is safe
  safe-by-number : (received : ℕ) (c : MadeChange) (first : Bool) → nat_le 1 c.generation ≡ first → received ≤ received_by_number w.publisher s.site.0 → (is_settled w.subscribers h c ≡ true → IsSafe h c) → (is_of s.site.0 c ≡ true → nat_le c.generation s.received ≡ true → IsSafe h c)
      → is_of s.site.0 c ≡ true → nat_le c.generation received ≡ true → IsSafe h c
  safe-by-number received c true first up settled old own low =
      let same : c.dot.site.0 ≡ s.site.0 = grind (arith, nat_tests, own) in
      let is = g.received.done s.site.0 c.generation (grind (arith, nat_tests, first)) in
      let done : is_done h c.dot.site.0 c.generation ≡ true = ap (λ (n : ℕ). is_done h n c.generation) same ∙ is ∙ (let within : nat_le c.generation (received_by_number w.publisher s.site.0) ≡ true = grind (arith, nat_tests, low, up) in within) in
      settled (grind (arith, done))
  safe-by-number received c false first up settled old own low = old own (grind (arith, nat_tests, first))

  acted-safe : (received : ℕ) → received ≤ received_by_number w.publisher s.site.0 → AllByRecursion (λ (c : MadeChange). is_of s.site.0 c ≡ true → nat_le c.generation received ≡ true → IsSafe h c) h.made
  acted-safe received up = all-both (λ (c : MadeChange). is_settled w.subscribers h c ≡ true → IsSafe h c) (λ (c : MadeChange). is_of s.site.0 c ≡ true → nat_le c.generation s.received ≡ true → IsSafe h c) (λ (c : MadeChange). is_of s.site.0 c ≡ true → nat_le c.generation received ≡ true → IsSafe h c)
      (λ c settled old. safe-by-number received c (nat_le 1 c.generation) refl up settled old) h.made a.settled (received-safe publication w h s b a at)

  tells : (message : Message) → comes w number s.site message → TellsActed (received_by_number w.publisher s.site.0) s.site message
  tells message there = pool-at (λ (x : Letter). TellsActed (received_by_number w.publisher x.site.0) x.site x.message) w number (record { site = s.site; message = message }) there g.behind.letters

  pub reply-accounts : (m : Reply) (sent : Outstanding) → comes w number s.site (Replies m) → s.outstanding ≡ Some (seq_of m, sent) → reply_fault publication sent m s ≡ None
      → (let judge : SubscriberJudge = by_made h s.site in OfAccounts publication (with_subscriber (tables_after_reply judge w.moment m s) w) (Noting.noted_reply judge s.site (pasts_with h number) m h))
  reply-accounts (reply.Joined m) sent there out none = stays-accounts publication w h s b a at (tables_after_reply (by_made h s.site) w.moment (reply.Joined m) s) (λ key. refl) refl
  reply-accounts (reply.Ranged m) sent there out none = stays-accounts publication w h s b a at (tables_after_reply (by_made h s.site) w.moment (reply.Ranged m) s) (λ key. refl) refl
  reply-accounts (reply.Refused code values) sent there out none = stays-accounts publication w h s b a at (tables_after_reply (by_made h s.site) w.moment (reply.Refused code values) s) (λ key. refl) refl
  reply-accounts (reply.Uploaded m) sent there out none =
      site-accounts publication found w.subscribers w.pool h a s.site.0 away s (tables_after_reply (by_made h s.site) w.moment (reply.Uploaded m) s) at (λ key. versions-above m.received s.rows key)
      (uploaded-least publication sent m s (seq_of (reply.Uploaded m)) none out (g.numbered.subscribers s.site.0 s at).sent) (acted-safe m.received (tells (Replies (reply.Uploaded m)) there))
  reply-accounts (reply.Downloaded m) sent there out none =
      let u : SubscriberTables = record (with_received m.received (record (subscriber_at_moment w.moment s) { outstanding = None })) { watermark = m.to } in
      let last : SubscriberTables = tables_after_reply (by_made h s.site) w.moment (reply.Downloaded m) s in
      let start : Accounts publication found (put_number w.subscribers s.site.0 u) w.pool h = site-accounts publication found w.subscribers w.pool h a s.site.0 away s u at (λ key. versions-above m.received s.rows key)
      (downloaded-least publication sent m s none) (acted-safe m.received (tells (Replies (reply.Downloaded m)) there)) in
      let takes : Takes publication found w.pool s.site away h (pasts_with h number) m.received (put_number w.subscribers s.site.0 u) u h = record {
        accounts = start;
        at = at_put_same s.site.0 u w.subscribers;
        ascends = received-sorted m.received s.rows (all-found SubscriberIsSorted w.subscribers s.site.0 s g.rows at).rows_ascend;
        receives = refl;
        same = refl;
        held_made = held-made h g.known.knowledge;
        sent_made = sent-made h g.known.knowledge;
        traced = pasts-all (λ (pasts : List (Key × Past)). (key : Key) → IsTraced h key (past_in pasts key)) h number (none-traced publication found w.subscribers w.pool h a) a.sent;
        made = λ key. (past-knows h.made key (pasts_with h number) (letter-knows h number g.known.knowledge)).made_here;
      } in
      let fits = letter-zip (λ (x : Letter) (pasts : List (Key × Past)). OfMessage (λ (key : Key) (version : Version) (past : Past). GrownAlone (cell_count publication key.article) h.made key version.body past.chains) pasts x.message) w h number
      (record { site = s.site; message = Replies (reply.Downloaded m) }) a.letters there in
      alike-accounts publication found (put_number (put_number w.subscribers s.site.0 u) s.site.0 last) (put_number w.subscribers s.site.0 last) w.pool (Noting.noted_reply (by_made h s.site) s.site (pasts_with h number) (reply.Downloaded m) h)
      (λ n. put-twice w.subscribers s.site.0 u last n) (items-take publication found w.pool s.site away h (pasts_with h number) m.received m.items (put_number w.subscribers s.site.0 u) u h takes fits)
