-- A reply, and making anew, keep what is known of own changes: a row that is put knows all that its site made of it.
use Rattle.std.specs.Prelude.{◌≡◌, ◌||◌, ◌≤◌, ◌==◌, ℕ, List, [], ◌∷◌, Bool, true, false, Option, Some, refl, cond, filter, if◌then◌else◌, is_some, map, nat_le}
use Rattle.std.specs.List.{AllByRecursion, fold}
use Rattle.std.specs.List.Sorted.{IsStrictlySortedBy}
use Rattle.std.specs.Map.{keys_of}
use Rattle.std.proofs.Common.{arith, subst, sym, ap, ◌∙◌}
use Rattle.std.proofs.lemmas.Bool.Decides.{nat_tests}
use Rattle.merge_types.specs.declared.identifiers.Dot.{Dot}
use Rattle.merge_units.specs.declared.version.Version.{Version}
use Rattle.merge_schema.specs.declared.publication.Publication.{Publication}
use Rattle.merge_batch.specs.declared.reply.Act.{Act as Order}
use Rattle.merge_batch.specs.declared.reply.Act.TheVariants as order
use Rattle.merge_batch.specs.declared.reply.DownloadItem.{DownloadItem}
use Rattle.merge_batch.specs.declared.reply.Reply.{Reply}
use Rattle.merge_batch.specs.declared.reply.Reply.TheVariants as reply
use Rattle.std.specs.BTreeMap.{is_at}
use Rattle.merge_table.proofs.Sorted.{sorted_put, sorted_take}
use Rattle.merge_model.specs.Judge.ByHistory.{by_made}
use Rattle.merge_model.specs.History.{History, MadeChange, Past, has, past_at, past_in, pasts_with}
use Rattle.merge_model.specs.Judge.{SubscriberJudge}
use Rattle.merge_types.specs.RowKeys.{key_cmp}
use Rattle.merge_model.specs.Tables.Keys.{drop_row, put_number, put_row, row_at, same_key}
use Rattle.merge_model.specs.Laws.{SubscriberIsSorted}
use Rattle.merge_model.specs.History.Model.{Model}
use Rattle.merge_model.specs.History.Noting
use Rattle.merge_model.specs.Subscriber.Reinit.{discarded_versions, result_of_reinit}
use Rattle.merge_model.specs.Subscriber.{subscriber_at_moment}
use Rattle.merge_types.specs.declared.row_key.RowKey.{RowKey as Key}
use Rattle.merge_units.specs.declared.site_row.SubscriberRow.{SubscriberRow}
use Rattle.merge_model.specs.Tables.{SubscriberTables}
use Rattle.merge_model.specs.Subscriber.Taking.{key_of_download, row_above, tables_after_reply, with_item, with_order}
use Rattle.merge_model.specs.World.{World, subscriber_at, with_subscriber}
use Rattle.merge_model.specs.declared.letter.Letter.{Letter}
use Rattle.merge_model.specs.declared.letter.Message.TheVariants.{Replies}
use Rattle.merge_model.proofs.Publishers.Sorted.{key_total}
use Rattle.merge_laws.specs.Facts.LineagesStand.{KnowsAll, OfOrder, ReplyAnswers, counts_in, is_of}
use Rattle.merge_laws.specs.Invariants.Unsent.{is_changed_above}
use Rattle.merge_model.proofs.Lists.Finding.{letter-zip}
use Rattle.merge_laws.proofs.Pasts.HeldRows.{above-held, held-put, some-none}
use Rattle.merge_model.proofs.Lists.KeyLookUps.{keys-same, row-dropped}
use Rattle.merge_model.proofs.Lists.{all-both}
use Rattle.merge_laws.proofs.Own.OwnBase.{Base}
use Rattle.merge_laws.proofs.Own.OwnKnowing.{KnowsOf}
use Rattle.merge_laws.proofs.Own.OwnParts.{NoneNew, Rest, at_model, replies-on, same-grows, up_to, uploads-on}
use Rattle.merge_laws.proofs.Own.OwnPasts.{SameBut, lost-on, past-but, put-but, reply-on}
use Rattle.merge_laws.proofs.Own.OwnQuiet.{AnyLetter, OwnsRows, any-letters, on-each}
use Rattle.merge_laws.proofs.Pasts.PastLookUps.{with-past-same, without-past-other}
use Rattle.merge_model.proofs.Lists.Tests.{if-either}
use Rattle.merge_laws.proofs.Unsent.Unsending.{received-sorted}
use Rattle.merge_laws.proofs.Unsent.UnsentKept.{all-found, reply-site}
use Rattle.merge_laws.proofs.Walking.{comes}

-- A row of which no change is above a generation: what knows those up to there knows all.

site-above : (site received : ℕ) (key : Key) (made : List MadeChange) → is_changed_above received key (filter (λ (c : MadeChange). c.dot.site.0 == site) made) ≡ false
    → AllByRecursion (λ (c : MadeChange). same_key key c.key ≡ true → is_of site c ≡ true → nat_le c.generation received ≡ true) made
site-above site received key [] none = tt
site-above site received key (c ∷ made) none =
    let rest : List MadeChange = filter (λ (x : MadeChange). x.dot.site.0 == site) made in
    elim (c.dot.site.0 == site) as (λ (b : Bool). (c.dot.site.0 == site) ≡ b → is_changed_above received key (cond b (c ∷ rest) rest) ≡ false
    → AllByRecursion (λ (x : MadeChange). same_key key x.key ≡ true → is_of site x ≡ true → nat_le x.generation received ≡ true) (c ∷ made)) [
      | true ↦ (λ is e. (λ row own. grind (arith, nat_tests, e, row), site-above site received key made (grind (arith, e))))
      | false ↦ (λ is e. (λ row own. absurd (grind (arith, is, own)), site-above site received key made e))
    ] refl none

module _ (made : List MadeChange) (counts : MadeChange → Bool) (site received : ℕ) where
  pub up-to-all : (key : Key) (known : List Dot) → is_changed_above received key (filter (λ (c : MadeChange). c.dot.site.0 == site) made) ≡ false → KnowsOf made counts key (up_to site received) known → KnowsOf made counts key (is_of site) known
  up-to-all key known none knows = all-both (λ (c : MadeChange). same_key key c.key ≡ true → is_of site c ≡ true → nat_le c.generation received ≡ true) (λ (c : MadeChange). same_key key c.key ≡ true → up_to site received c ≡ true → counts c ≡ true → has known c.dot ≡ true)
      (λ (c : MadeChange). same_key key c.key ≡ true → is_of site c ≡ true → counts c ≡ true → has known c.dot ≡ true)
      (λ c low knew row own counted. knew row (let up = low row own in grind (arith, own, up)) counted) made (site-above site received key made none) knows

  -- the rows and the pasts of the site, item by item
  module _ (judge : SubscriberJudge) (incoming : List (Key × Past)) (judges : (key : Key) → judge.is_unsent received key ≡ is_changed_above received key (filter (λ (c : MadeChange). c.dot.site.0 == site) made)) where
    abbrev Owned : List (Key × SubscriberRow) → History → Type 0
    Owned rows h = IsStrictlySortedBy key_cmp (keys_of rows) × ((key : Key) → is_some (row_at rows key) ≡ true → KnowsOf made counts key (is_of site) (past_at h site key).known)

    abbrev Answers : DownloadItem → Type 0
    Answers item = OfOrder (λ (key : Key) (version : Version) (past : Past). KnowsOf made counts key (up_to site received) past.known) (key_of_download item) (past_in incoming (key_of_download item)) item.act

    put-owned : (rows : List (Key × SubscriberRow)) (h : History) (key : Key) (row : SubscriberRow) (past : Past) → KnowsOf made counts key (is_of site) past.known → Owned rows h → Owned (put_row rows key row) (Noting.with_past site key past h)
    put-owned rows h key row past knows o = (
      sorted_put key_cmp key_total key row rows o.0,
      λ q there. subst (λ (x : Past). KnowsOf made counts q (is_of site) x.known) (sym (with-past-same h site key past q)) (if-either (λ (x : Past). KnowsOf made counts q (is_of site) x.known) (same_key q key) past (past_at h site q)
          (λ same. subst (λ (k : Key). KnowsOf made counts k (is_of site) past.known) (sym (keys-same q key same)) knows)
          (λ differs. o.1 q (let both : (same_key q key || is_some (row_at rows q)) ≡ true = sym (held-put rows key row q) ∙ there in grind (arith, both, differs)))),
    )

    drop-owned : (rows : List (Key × SubscriberRow)) (h : History) (key : Key) → Owned rows h → Owned (drop_row rows key) (Noting.without_past site key h)
    drop-owned rows h key o = (
      sorted_take key_cmp key_total (is_at (key_cmp key)) rows o.0,
      λ q there. (let left = some-none (same_key q key) (row_at rows q) (sym (ap (λ (found : Option SubscriberRow). is_some found) (row-dropped rows key q o.0)) ∙ there) in
          subst (λ (x : Past). KnowsOf made counts q (is_of site) x.known) (sym (without-past-other h site key q left.0)) (o.1 q left.1)),
    )

    order-owned : (rows : List (Key × SubscriberRow)) (h : History) (item : DownloadItem) (o : Order) (b : Bool) → judge.is_unsent received (key_of_download item) ≡ b → Answers (record item { act = o }) → Owned rows h
        → Owned (if b then rows else with_order (key_of_download item) o rows) (if b then h else Noting.with_order_past site incoming (key_of_download item) o h)
    order-owned rows h item o true is answers owned = owned
    order-owned rows h item (order.Put lineage live) false is answers owned =
        let key : Key = key_of_download item in
        put-owned rows h key _ (past_in incoming key) (up-to-all key (past_in incoming key).known (sym (judges key) ∙ is) answers) owned
    order-owned rows h item order.RemoveDeleted false is answers owned = drop-owned rows h (key_of_download item) owned
    order-owned rows h item order.RemoveLeft false is answers owned = drop-owned rows h (key_of_download item) owned

    pub items-owned : (items : List DownloadItem) (rows : List (Key × SubscriberRow)) (h : History) → AllByRecursion Answers items → Owned rows h
        → Owned (fold (with_item judge received) rows items) (fold (Noting.with_item_past judge received site incoming) h items)
    items-owned [] rows h answers owned = owned
    items-owned (item ∷ items) rows h answers owned = items-owned items (with_item judge received rows item) (Noting.with_item_past judge received site incoming h item) answers.1
        (order-owned rows h item item.act (judge.is_unsent received (key_of_download item)) refl answers.0 owned)

-- The pasts of one site become others.
pub pasts-change : (w : World) (h : History) (s t : SubscriberTables) (pasts : List (ℕ × List (Key × Past))) (lost : List (ℕ × (Key × Past))) → subscriber_at w s.site ≡ Some s → t.site.0 ≡ s.site.0 → SameBut s.site.0 h.pasts pasts
    → ((key : Key) → 1 ≤ s.site.0 → is_some (row_at t.rows key) ≡ true → KnowsOf h.made (counts_in (at_model w h)) key (is_of s.site.0) (past_at (record h { pasts = pasts }) s.site.0 key).known) → Rest w h
    → Rest (with_subscriber t w) (record h { pasts = pasts; lost = lost })
pasts-change w h s t pasts lost at same but here p =
    let v : World = with_subscriber t w in
    let k : History = record h { pasts = pasts; lost = lost } in
    let m : Model = at_model w h in
    let n : Model = at_model v k in
    record {
      making = p.making;
      own = λ site u key first found held. on-each (λ (i : ℕ) (x : SubscriberTables). OwnsRows v k i x.rows) w.subscribers s.site.0 t same here
          (λ i x differs is q one there. subst (λ (y : Past). KnowsAll n q (is_of i) y.known) (sym (past-but s.site.0 h k but i q differs)) (p.own i x q one is there)) site u found key first held;
      uploads = uploads-on m n NoneNew (same-grows h.made) (λ c is. is) AnyLetter (λ site. omega arith) (λ site u c fits new own up. absurd new) (λ site r c fits new own up. absurd new) w.pool h.letters (any-letters w.pool) p.uploads;
      replies = replies-on m n NoneNew (same-grows h.made) (λ c is. is) AnyLetter (λ site. omega arith) (λ site u c fits new own up. absurd new) (λ site r c fits new own up. absurd new) w.pool h.letters (any-letters w.pool) p.replies;
    }

-- A reply that is taken.

module _ (publication : Publication) (w : World) (h : History) (s : SubscriberTables) (number : ℕ) (m : Reply) (b : Base publication w h) (p : Rest w h) (at : subscriber_at w s.site ≡ Some s) (named : s.site.0 ≡ 0 → ⊥) where
  abbrev judge : SubscriberJudge
  judge = by_made h s.site

  abbrev site_after : SubscriberTables
  site_after = tables_after_reply judge w.moment m s

  low : 1 ≤ s.site.0
  low = grind (arith, nat_tests, named)

  abbrev Owning : Reply → Type 0
  Owning r = (key : Key) → is_some (row_at (tables_after_reply judge w.moment r s).rows key) ≡ true → KnowsOf h.made (counts_in (at_model w h)) key (is_of s.site.0) (past_at (Noting.noted_reply judge s.site (pasts_with h number) r h) s.site.0 key).known

  reply-owned : (r : Reply) → ReplyAnswers (at_model w h) s.site.0 (pasts_with h number) (Replies r) → Owning r
  reply-owned (reply.Downloaded r) answers key there =
      let sorted : SubscriberIsSorted s = all-found SubscriberIsSorted w.subscribers s.site.0 s b.0.0.rows at in
      (items-owned h.made (counts_in (at_model w h)) s.site.0 r.received judge (pasts_with h number) (λ q. refl) r.items (map (row_above r.received) s.rows) h answers
      (received-sorted r.received s.rows sorted.rows_ascend, λ q is. p.own s.site.0 s q low at (sym (above-held r.received s.rows q) ∙ is))).1 key there
  reply-owned (reply.Joined r) answers key there = p.own s.site.0 s key low at there
  reply-owned (reply.Uploaded r) answers key there = p.own s.site.0 s key low at (sym (above-held r.received s.rows key) ∙ there)
  reply-owned (reply.Ranged r) answers key there = p.own s.site.0 s key low at there
  reply-owned (reply.Refused code values) answers key there = p.own s.site.0 s key low at there

  pub reply-kept : comes w number s.site (Replies m) → Rest (with_subscriber site_after w) (Noting.noted_reply judge s.site (pasts_with h number) m h)
  reply-kept here =
      let v : World = with_subscriber site_after w in
      let letter : Letter = record { site = s.site; message = Replies m } in
      let answers : ReplyAnswers (at_model w h) s.site.0 (pasts_with h number) (Replies m) = letter-zip (λ (x : Letter) (pasts : List (Key × Past)). ReplyAnswers (at_model w h) x.site.0 pasts x.message) w h number letter p.replies here in
      reply-on (λ (k : History). ((key : Key) → is_some (row_at site_after.rows key) ≡ true → KnowsOf h.made (counts_in (at_model w h)) key (is_of s.site.0) (past_at k s.site.0 key).known) → Rest v k) judge s.site (pasts_with h number) m h
      (λ pasts but owns. pasts-change w h s site_after pasts h.lost at (reply-site judge w.moment m s) but (λ key first there. owns key there) p) (reply-owned m answers)

-- A site that is made anew holds nothing.
pub anew-kept : (w : World) (h : History) (s : SubscriberTables) → subscriber_at w s.site ≡ Some s → Rest w h
    → (let judge : SubscriberJudge = by_made h s.site in Rest (with_subscriber (result_of_reinit judge (subscriber_at_moment w.moment s)).0 w) (Noting.noted_anew judge s h))
anew-kept w h s at p =
    let judge : SubscriberJudge = by_made h s.site in
    let t : SubscriberTables = (result_of_reinit judge (subscriber_at_moment w.moment s)).0 in
    lost-on (λ (k : History). Rest (with_subscriber t w) (record k { pasts = put_number k.pasts s.site.0 [] })) s.site (discarded_versions judge s) h
    (λ lost. pasts-change w h s t (put_number h.pasts s.site.0 []) lost at refl (put-but s.site.0 [] h.pasts h.pasts (λ n apart. refl)) (λ key first there. absurd (grind (arith, there))) p)
