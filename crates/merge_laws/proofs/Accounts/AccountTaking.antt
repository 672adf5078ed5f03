-- A subscriber takes a reply: its rows and their pasts go on side by side, and what it now takes for received is safe.
use Rattle.std.specs.Prelude.{◌≡◌, ◌<◌, ◌==◌, ◌&&◌, ℕ, List, [], Bool, true, false, Option, Some, None, refl, cond, if◌then◌else◌, nat_le, nat_lt, option_map, unwrap_or}
use Rattle.std.specs.BTreeMap.{is_at}
use Rattle.std.specs.List.{AllByRecursion}
use Rattle.std.specs.List.Sorted.{IsStrictlySortedBy}
use Rattle.std.specs.Map.{keys_of}
use Rattle.std.specs.Ordering.{nat_cmp}
use Rattle.std.proofs.Common.{arith, subst, sym, ap, ◌∙◌}
use Rattle.std.proofs.lemmas.Bool.Decides.{nat_tests}
use Rattle.merge_types.specs.declared.identifiers.SiteId.{SiteId}
use Rattle.merge_units.specs.declared.version.Body.TheVariants.{Live}
use Rattle.merge_units.specs.declared.version.Version.{Version}
use Rattle.merge_table.proofs.Sorted.{sorted_put, sorted_take}
use Rattle.merge_schema.specs.declared.publication.Publication.{Publication}
use Rattle.merge_batch.specs.declared.reply.Act.{Act as Order}
use Rattle.merge_batch.specs.declared.reply.Act.TheVariants as order
use Rattle.merge_model.proofs.Publishers.Sorted.{key_total}
use Rattle.merge_model.specs.Judge.ByHistory.{by_made}
use Rattle.merge_model.specs.History.{History, MadeChange, Past, has, no_past, past_at, past_in, pasts_at}
use Rattle.merge_model.specs.Judge.{SubscriberJudge}
use Rattle.merge_types.specs.RowKeys.{key_cmp}
use Rattle.merge_model.specs.Tables.Keys.{at_number, drop_row, put_number, put_row, row_at, same_key}
use Rattle.merge_model.specs.History.Noting
use Rattle.merge_model.specs.History.Pasts.{cell_count}
use Rattle.merge_types.specs.declared.row_key.RowKey.{RowKey as Key}
use Rattle.merge_units.specs.declared.site_row.SubscriberRow.{SubscriberRow}
use Rattle.merge_model.specs.Tables.{SubscriberTables}
use Rattle.merge_model.specs.Subscriber.Taking.{with_order}
use Rattle.merge_model.specs.declared.letter.Letter.{Letter}
use Rattle.merge_laws.specs.Facts.Accounts.{Accounts, GrownAlone, IsSafe, IsTraced, is_settled, received_of}
use Rattle.merge_laws.specs.Facts.LineagesStand.{OfOrder, is_of}
use Rattle.merge_laws.proofs.Accounts.AccountElements.{IsIn, any-in, each-in}
use Rattle.merge_laws.proofs.Accounts.AccountHistory.{goes-traced}
use Rattle.merge_laws.proofs.Accounts.AccountSites.{AreMade, HeldMade, SentMade, nothing-traced, site-goes, sub-accounts}
use Rattle.merge_model.proofs.Lists.Finding.{all-weaker, at_put, at_put_same, some_same}
use Rattle.merge_model.proofs.Lists.KeyLookUps.{key-itself, keys-same, row-dropped}
use Rattle.merge_model.proofs.Lists.{all-both}
use Rattle.merge_laws.proofs.Pasts.PastLookUps.{past-left, past-put, put-there}
use Rattle.merge_laws.proofs.Told.ToldRows.{found-dropped, found-put, found_in}
use Rattle.merge_laws.proofs.Told.ToldSites.{own_version}

-- by what is found of each site alone
module _ (publication : Publication) (found : Key → Option Version) (sites other : List (ℕ × SubscriberTables)) (pool : List Letter) (h : History) (same : (n : ℕ) → at_number other n ≡ at_number sites n) (a : Accounts publication found sites pool h) where
  received-alike : (n : ℕ) → received_of other n ≡ received_of sites n
  received-alike n = ap (λ (o : Option SubscriberTables). unwrap_or (option_map (λ (s : SubscriberTables). s.received) o) 0) (same n)

  pub alike-accounts : Accounts publication found other pool h
  alike-accounts = record {
    publisher = a.publisher;
    subscribers = λ n s key version at. a.subscribers n s key version (sym (same n) ∙ at);
    letters = a.letters;
    absent = a.absent;
    sorted = a.sorted;
    named = λ n s at. a.named n s (sym (same n) ∙ at);
    held = a.held;
    sent = a.sent;
    unsent = λ n s at. a.unsent n s (sym (same n) ∙ at);
    uploads = a.uploads;
    settled = all-weaker (λ (c : MadeChange). is_settled sites h c ≡ true → IsSafe h c) (λ (c : MadeChange). is_settled other h c ≡ true → IsSafe h c)
        (λ c old settled. (let received = received-alike c.dot.site.0 in old (grind (arith, settled, received)))) h.made a.settled;
  }

pub put-twice : (sites : List (ℕ × SubscriberTables)) (site : ℕ) (t u : SubscriberTables) (n : ℕ) → at_number (put_number sites site u) n ≡ at_number (put_number (put_number sites site t) site u) n
put-twice sites site t u n = at_put site n u sites ∙ twice (is_at (nat_cmp n) site) ∙ sym (at_put site n u (put_number sites site t) ∙ ap (λ (rest : Option SubscriberTables). (let found : Option SubscriberTables = cond (is_at (nat_cmp n) site) (Some u) rest in found)) (at_put site n t sites))
  where
    twice : (b : Bool) → (let found : Option SubscriberTables = cond b (Some u) (at_number sites n) in found) ≡ (let inner : Option SubscriberTables = cond b (Some t) (at_number sites n) in let outer : Option SubscriberTables = cond b (Some u) inner in outer)
    twice true = refl
    twice false = refl

-- A row is put or dropped with its past.
module _ (publication : Publication) (found : Key → Option Version) (sites : List (ℕ × SubscriberTables)) (pool : List Letter) (h : History) (a : Accounts publication found sites pool h) (site : ℕ) (away : site ≡ 0 → ⊥) (s : SubscriberTables)
    (at : at_number sites site ≡ Some s) (held_made : HeldMade h) (sent_made : SentMade h) (ascends : IsStrictlySortedBy key_cmp (keys_of s.rows)) (key : Key)
    (sent : AllByRecursion (λ (c : MadeChange). is_of site c ≡ true → s.received < c.generation → same_key c.key key ≡ true → ⊥) h.made) where
  received-safe : AllByRecursion (λ (c : MadeChange). is_of site c ≡ true → nat_le c.generation s.received ≡ true → IsSafe h c) h.made
  received-safe = all-weaker (λ (c : MadeChange). is_settled sites h c ≡ true → IsSafe h c) (λ (c : MadeChange). is_of site c ≡ true → nat_le c.generation s.received ≡ true → IsSafe h c)
      (λ c old own low. (
      let same : c.dot.site.0 ≡ site = grind (arith, nat_tests, own) in
      let is : received_of sites c.dot.site.0 ≡ s.received = ap (λ (n : ℕ). received_of sites n) same ∙ ap (λ (o : Option SubscriberTables). unwrap_or (option_map (λ (t : SubscriberTables). t.received) o) 0) at in
      old (grind (arith, low, is))
      )) h.made a.settled

  -- with rows that have the pasts of others as they were
  module _ (pasts : List (Key × Past)) (rows : List (Key × SubscriberRow)) (others : (q : Key) → same_key q key ≡ false → past_in pasts q ≡ past_at h site q) (sorted : IsStrictlySortedBy key_cmp (keys_of pasts))
      (traced : IsTraced h key (past_in pasts key)) (made : AreMade h.made key (past_in pasts key))
      (grown : (q : Key) (version : Version) → found_in own_version rows q ≡ Some version → GrownAlone (cell_count publication q.article) h.made q version.body (past_in pasts q).chains) where
    abbrev after : History
    after = record h { pasts = put_number h.pasts site pasts }

    traced-by : (q : Key) (b : Bool) → same_key q key ≡ b → IsTraced h q (past_in pasts q)
    traced-by q true same = subst (λ (k : Key). IsTraced h k (past_in pasts k)) (sym (keys-same q key same)) traced
    traced-by q false differs = subst (λ (p : Past). IsTraced h q p) (sym (others q differs)) (a.held site q)

    made-by : (q : Key) (b : Bool) → same_key q key ≡ b → AreMade h.made q (past_in pasts q)
    made-by q true same = subst (λ (k : Key). AreMade h.made k (past_in pasts k)) (sym (keys-same q key same)) made
    made-by q false differs = subst (λ (p : Past). AreMade h.made q p) (sym (others q differs)) (held_made site q)

    unsent-by : (c : MadeChange) (b : Bool) → same_key c.key key ≡ b → (is_of site c ≡ true → s.received < c.generation → same_key c.key key ≡ true → ⊥) → (is_of site c ≡ true → s.received < c.generation → has (past_at h site c.key).known c.dot ≡ true)
        → is_of site c ≡ true → s.received < c.generation → has (past_in pasts c.key).known c.dot ≡ true
    unsent-by c true same none old own above = absurd (none own above same)
    unsent-by c false differs none old own above = subst (λ (p : Past). has p.known c.dot ≡ true) (sym (others c.key differs)) (old own above)

    pub taken-accounts : Accounts publication found (put_number sites site (record s { rows = rows })) pool after
    taken-accounts = sub-accounts publication found sites pool h a site away s (record s { rows = rows }) at None pasts h.lost (λ k place dot is. is) held_made sent_made tt tt sorted grown (λ q. traced-by q (same_key q key) refl)
        (all-both (λ (c : MadeChange). is_of site c ≡ true → s.received < c.generation → same_key c.key key ≡ true → ⊥) (λ (c : MadeChange). is_of site c ≡ true → s.received < c.generation → has (past_at h site c.key).known c.dot ≡ true)
        (λ (c : MadeChange). is_of site c ≡ true → s.received < c.generation → has (past_in pasts c.key).known c.dot ≡ true) (λ c none old. unsent-by c (same_key c.key key) refl none old) h.made sent (a.unsent site s at))
        received-safe a.uploads tt

    -- what it is by the history
    pub taken-held : HeldMade after
    taken-held n q = by-site (n == site) refl
      where
        by-site : (b : Bool) → (n == site) ≡ b → AreMade h.made q (past_at after n q)
        by-site true is =
            let same : site ≡ n = grind (arith, nat_tests, is) in
            let own : past_at after site q ≡ past_in pasts q = ap (λ (o : Option (List (Key × Past))). past_in (unwrap_or o []) q) (at_put_same site pasts h.pasts) in
            subst (λ (k : ℕ). AreMade h.made q (past_at after k q)) same (subst (λ (p : Past). AreMade h.made q p) (sym own) (made-by q (same_key q key) refl))
        by-site false is =
            let there : past_at after n q ≡ past_at h n q = ap (λ (es : List (Key × Past)). past_in es q) (put-there h.pasts site pasts n (λ same. grind (arith, nat_tests, is, same))) in
            subst (λ (p : Past). AreMade h.made q p) (sym there) (held_made n q)

    pub taken-traced : (q : Key) (past : Past) → IsTraced h q past → IsTraced after q past
    taken-traced q past is = goes-traced h after q past (site-goes publication found sites pool h a site away s (record s { rows = rows }) at None pasts h.lost (λ k place dot kept. kept)) is

-- The items of a download.
module _ (publication : Publication) (found : Key → Option Version) (pool : List Letter) (site : SiteId) (away : site.0 ≡ 0 → ⊥) (base : History) (incoming : List (Key × Past)) (received : ℕ) where
  abbrev judge : SubscriberJudge
  judge = by_made base site

  -- how far the items have come
  pub record Takes (sites : List (ℕ × SubscriberTables)) (s : SubscriberTables) (h : History) : Type 0 where
    pub accounts : Accounts publication found sites pool h
    pub at : at_number sites site.0 ≡ Some s
    pub ascends : IsStrictlySortedBy key_cmp (keys_of s.rows)
    pub receives : s.received ≡ received
    pub same : h.made ≡ base.made
    pub held_made : HeldMade h
    pub sent_made : SentMade h
    pub traced : (key : Key) → IsTraced h key (past_in incoming key)
    pub made : (key : Key) → AreMade h.made key (past_in incoming key)

  -- a row that is not unsent has no change above what is received
  none-above : (sites : List (ℕ × SubscriberTables)) (s : SubscriberTables) (h : History) (t : Takes sites s h) (key : Key) → judge.is_unsent received key ≡ false
      → AllByRecursion (λ (c : MadeChange). is_of site.0 c ≡ true → s.received < c.generation → same_key c.key key ≡ true → ⊥) h.made
  none-above sites s h t key none = each-in (λ (c : MadeChange). is_of site.0 c ≡ true → s.received < c.generation → same_key c.key key ≡ true → ⊥) h.made (λ c is own above same. (
      let receives = t.receives in
      let among : IsIn c base.made = subst (λ (made : List MadeChange). IsIn c made) t.same is in
      let unsent : judge.is_unsent received key ≡ true = any-in (λ (x : MadeChange). x.dot.site.0 == site.0) (λ (x : MadeChange). nat_lt received x.generation && same_key key x.key) base.made c among own (grind (arith, nat_tests, above, same, receives)) in
      absurd (grind (arith, none, unsent))
      ))

  module _ (sites : List (ℕ × SubscriberTables)) (s : SubscriberTables) (h : History) (t : Takes sites s h) (key : Key) (none : judge.is_unsent received key ≡ false) where
    sent : AllByRecursion (λ (c : MadeChange). is_of site.0 c ≡ true → s.received < c.generation → same_key c.key key ≡ true → ⊥) h.made
    sent = none-above sites s h t key none

    module _ (pasts : List (Key × Past)) (rows : List (Key × SubscriberRow)) (others : (q : Key) → same_key q key ≡ false → past_in pasts q ≡ past_at h site.0 q) (sorted : IsStrictlySortedBy key_cmp (keys_of pasts)) (ascends : IsStrictlySortedBy key_cmp (keys_of rows))
        (traced : IsTraced h key (past_in pasts key)) (made : AreMade h.made key (past_in pasts key))
        (grown : (q : Key) (version : Version) → found_in own_version rows q ≡ Some version → GrownAlone (cell_count publication q.article) h.made q version.body (past_in pasts q).chains) where
      item-takes : Takes (put_number sites site.0 (record s { rows = rows })) (record s { rows = rows }) (record h { pasts = put_number h.pasts site.0 pasts })
      item-takes = record {
        accounts = taken-accounts publication found sites pool h t.accounts site.0 away s t.at t.held_made t.sent_made t.ascends key sent pasts rows others sorted traced made grown;
        at = at_put_same site.0 (record s { rows = rows }) sites;
        ascends = ascends;
        receives = t.receives;
        same = t.same;
        held_made = taken-held publication found sites pool h t.accounts site.0 away s t.at t.held_made t.sent_made t.ascends key sent pasts rows others sorted traced made grown;
        sent_made = t.sent_made;
        traced = λ q. taken-traced publication found sites pool h t.accounts site.0 away s t.at t.held_made t.sent_made t.ascends key sent pasts rows others sorted traced made grown q (past_in incoming q) (t.traced q);
        made = t.made;
      }

    abbrev old_pasts : List (Key × Past)
    old_pasts = pasts_at h site.0

    -- a row that is put
    put-grown : (version : Version) (row : SubscriberRow) → row.version ≡ version → GrownAlone (cell_count publication key.article) h.made key version.body (past_in incoming key).chains → (q : Key) (v : Version) (b : Bool) → same_key q key ≡ b
        → found_in own_version (put_row s.rows key row) q ≡ Some v → GrownAlone (cell_count publication q.article) h.made q v.body (past_in (put_row old_pasts key (past_in incoming key)) q).chains
    put-grown version row is new q v true same at =
        let found_is : Some row.version ≡ Some v = sym (found-put own_version s.rows key row q ∙ ap (λ (b : Bool). (let o : Option Version = if b then Some row.version else found_in own_version s.rows q in o)) same) ∙ at in
        let v_is : version ≡ v = sym is ∙ some_same row.version v found_is in
        let past_is : past_in (put_row old_pasts key (past_in incoming key)) q ≡ past_in incoming key = past-put old_pasts key (past_in incoming key) q ∙ ap (λ (b : Bool). if b then past_in incoming key else past_in old_pasts q) same in
        subst (λ (p : Past). GrownAlone (cell_count publication q.article) h.made q v.body p.chains) (sym past_is)
        (subst (λ (x : Version). GrownAlone (cell_count publication q.article) h.made q x.body (past_in incoming key).chains) v_is
        (subst (λ (k : Key). GrownAlone (cell_count publication k.article) h.made k version.body (past_in incoming key).chains) (sym (keys-same q key same)) new))
    put-grown version row is new q v false differs at =
        let found_is : found_in own_version s.rows q ≡ Some v = sym (found-put own_version s.rows key row q ∙ ap (λ (b : Bool). (let o : Option Version = if b then Some row.version else found_in own_version s.rows q in o)) differs) ∙ at in
        let past_is : past_in (put_row old_pasts key (past_in incoming key)) q ≡ past_in old_pasts q = past-put old_pasts key (past_in incoming key) q ∙ ap (λ (b : Bool). if b then past_in incoming key else past_in old_pasts q) differs in
        subst (λ (p : Past). GrownAlone (cell_count publication q.article) h.made q v.body p.chains) (sym past_is) (t.accounts.subscribers site.0 s q v t.at found_is)

    put-takes : (row : SubscriberRow) → GrownAlone (cell_count publication key.article) h.made key row.version.body (past_in incoming key).chains
        → Takes (put_number sites site.0 (record s { rows = put_row s.rows key row })) (record s { rows = put_row s.rows key row }) (Noting.with_past site.0 key (past_in incoming key) h)
    put-takes row new =
        let own : past_in (put_row old_pasts key (past_in incoming key)) key ≡ past_in incoming key = past-put old_pasts key (past_in incoming key) key ∙ ap (λ (b : Bool). if b then past_in incoming key else past_in old_pasts key) (key-itself key) in
        item-takes (put_row old_pasts key (past_in incoming key)) (put_row s.rows key row)
        (λ q differs. past-put old_pasts key (past_in incoming key) q ∙ ap (λ (b : Bool). if b then past_in incoming key else past_in old_pasts q) differs)
        (sorted_put key_cmp key_total key (past_in incoming key) old_pasts (t.accounts.sorted site.0)) (sorted_put key_cmp key_total key row s.rows t.ascends)
        (subst (λ (p : Past). IsTraced h key p) (sym own) (t.traced key)) (subst (λ (p : Past). AreMade h.made key p) (sym own) (t.made key))
        (λ q v at. put-grown row.version row refl new q v (same_key q key) refl at)

    -- a row that is dropped
    dropped-past : past_in (drop_row old_pasts key) key ≡ no_past
    dropped-past = ap (λ (o : Option Past). unwrap_or o no_past) (row-dropped old_pasts key key (t.accounts.sorted site.0) ∙ ap (λ (b : Bool). (let o : Option Past = if b then None else row_at old_pasts key in o)) (key-itself key))

    drop-grown : (q : Key) (v : Version) (b : Bool) → same_key q key ≡ b → found_in own_version (drop_row s.rows key) q ≡ Some v → GrownAlone (cell_count publication q.article) h.made q v.body (past_in (drop_row old_pasts key) q).chains
    drop-grown q v true same at =
        let found_is : None ≡ Some v = sym (found-dropped own_version s.rows key q t.ascends ∙ ap (λ (b : Bool). (let o : Option Version = if b then None else found_in own_version s.rows q in o)) same) ∙ at in
        absurd cc
    drop-grown q v false differs at =
        let found_is : found_in own_version s.rows q ≡ Some v = sym (found-dropped own_version s.rows key q t.ascends ∙ ap (λ (b : Bool). (let o : Option Version = if b then None else found_in own_version s.rows q in o)) differs) ∙ at in
        subst (λ (p : Past). GrownAlone (cell_count publication q.article) h.made q v.body p.chains) (sym (past-left old_pasts key q differs)) (t.accounts.subscribers site.0 s q v t.at found_is)

    drop-takes : Takes (put_number sites site.0 (record s { rows = drop_row s.rows key })) (record s { rows = drop_row s.rows key }) (Noting.without_past site.0 key h)
    drop-takes = item-takes (drop_row old_pasts key) (drop_row s.rows key) (λ q differs. past-left old_pasts key q differs) (sorted_take key_cmp key_total (is_at (key_cmp key)) old_pasts (t.accounts.sorted site.0)) (sorted_take key_cmp key_total (is_at (key_cmp key)) s.rows t.ascends)
        (subst (λ (p : Past). IsTraced h key p) (sym dropped-past) (nothing-traced h.made h.lost h.purged (past_at h 0 key) key)) (subst (λ (p : Past). AreMade h.made key p) (sym dropped-past) (λ dot is. absurd cc))
        (λ q v at. drop-grown q v (same_key q key) refl at)

    pub order-takes : (o : Order) → OfOrder (λ (k : Key) (version : Version) (past : Past). GrownAlone (cell_count publication k.article) h.made k version.body past.chains) key (past_in incoming key) o
        → Takes (put_number sites site.0 (record s { rows = with_order key o s.rows })) (record s { rows = with_order key o s.rows }) (Noting.with_order_past site.0 incoming key o h)
    order-takes (order.Put lineage live) new = put-takes (record { version = record { lineage = lineage; body = Live live }; generations = [] }) new
    order-takes order.RemoveDeleted new = drop-takes
    order-takes order.RemoveLeft new = drop-takes
