-- A step of a subscriber keeps what its rows say of its changes.
use Rattle.std.specs.Prelude.{◌≡◌, ◌≤◌, ◌<◌, ◌&&◌, ◌||◌, ℕ, List, [], ◌∷◌, Bool, true, false, Option, Some, None, refl, if◌then◌else◌, cond, filter, find, map, nat_le, nat_lt, option_map}
use Rattle.std.specs.BTreeMap.{is_at}
use Rattle.std.specs.List.{fold, list_any}
use Rattle.std.specs.List.Sorted.{IsStrictlySortedBy}
use Rattle.std.specs.Map.{keys_of}
use Rattle.std.proofs.Common.{arith, subst, sym, ap, ◌∙◌}
use Rattle.std.proofs.lemmas.Bool.Decides.{nat_tests}
use Rattle.merge_units.specs.declared.version.Version.{Version}
use Rattle.merge_table.proofs.Sorted.{sorted_put, sorted_take}
use Rattle.merge_batch.specs.declared.reply.Act.{Act as Order}
use Rattle.merge_batch.specs.declared.reply.Act.TheVariants as order
use Rattle.merge_batch.specs.declared.reply.DownloadItem.{DownloadItem}
use Rattle.merge_model.specs.Judge.ByNumbers.{last_between}
use Rattle.merge_model.specs.History.{MadeChange}
use Rattle.merge_model.specs.Judge.{SubscriberJudge}
use Rattle.merge_types.specs.RowKeys.{key_cmp}
use Rattle.merge_model.specs.Tables.Keys.{drop_row, put_row, row_at, same_key}
use Rattle.merge_model.specs.Subscriber.{with_open}
use Rattle.merge_types.specs.declared.row_key.RowKey.{RowKey as Key}
use Rattle.merge_units.specs.declared.site_row.SubscriberRow.{SubscriberRow}
use Rattle.merge_model.specs.Subscriber.Taking.{key_of_download, row_above, with_item, with_order}
use Rattle.merge_model.proofs.Publishers.Sorted.{key_total}
use Rattle.merge_laws.specs.Facts.Numbered.{InOrder}
use Rattle.merge_laws.specs.Invariants.Unsent.{RowsTell, generations_in, is_changed_above, last_made}
use Rattle.merge_laws.proofs.Unsent.Changed.{gens_of}
use Rattle.merge_laws.proofs.Unsent.Generations.{above-kept, between-kept, none-above, none-between, open-above, open-behind, open-beyond, open-between, order-above}
use Rattle.merge_model.proofs.Lists.KeyLookUps.{keys-same, row-dropped, row-put}
use Rattle.merge_laws.proofs.Numbered.Telling.{decided}

-- The generations that are kept with a row.

gens-if : (b : Bool) (row : SubscriberRow) (rest : Option SubscriberRow) → gens_of (if b then Some row else rest) ≡ (if b then row.generations else gens_of rest)
gens-if true row rest = refl
gens-if false row rest = refl

gens-none-if : (b : Bool) (rest : Option SubscriberRow) → gens_of (if b then None else rest) ≡ (if b then [] else gens_of rest)
gens-none-if true rest = refl
gens-none-if false rest = refl

gens-put : (rows : List (Key × SubscriberRow)) (key : Key) (row : SubscriberRow) (q : Key) → generations_in (put_row rows key row) q ≡ (if same_key q key then row.generations else generations_in rows q)
gens-put rows key row q = ap (λ (found : Option SubscriberRow). gens_of found) (row-put rows key row q) ∙ gens-if (same_key q key) row (row_at rows q)

gens-dropped : (rows : List (Key × SubscriberRow)) (key q : Key) → IsStrictlySortedBy key_cmp (keys_of rows) → generations_in (drop_row rows key) q ≡ (if same_key q key then [] else generations_in rows q)
gens-dropped rows key q sorted = ap (λ (found : Option SubscriberRow). gens_of found) (row-dropped rows key q sorted) ∙ gens-none-if (same_key q key) (row_at rows q)

abbrev keeps_above : ℕ → List ℕ → List ℕ
keeps_above received gens = filter (λ (generation : ℕ). nat_lt received generation) gens

above-step : (b : Bool) (received : ℕ) (row : SubscriberRow) (rest more : Option SubscriberRow) → gens_of more ≡ keeps_above received (gens_of rest)
    → gens_of (let found : Option SubscriberRow = cond b (Some (record row { generations = keeps_above received row.generations })) more in found) ≡ keeps_above received (gens_of (let found : Option SubscriberRow = cond b (Some row) rest in found))
above-step true received row rest more h = refl
above-step false received row rest more h = h

gens-above : (received : ℕ) (rows : List (Key × SubscriberRow)) (q : Key) → generations_in (map (row_above received) rows) q ≡ keeps_above received (generations_in rows q)
gens-above received [] q = refl
gens-above received (row ∷ rows) q = above-step (is_at (key_cmp q) row.0) received row.1 (row_at rows q) (row_at (map (row_above received) rows) q) (gens-above received rows q)

-- Facts of one row, by what is kept with it.

abbrev tells_above : List MadeChange → Key → ℕ → List ℕ → Type 0
tells_above made key above gens = list_any (λ (generation : ℕ). nat_lt above generation) gens ≡ is_changed_above above key made

abbrev tells_between : List MadeChange → Key → ℕ → ℕ → List ℕ → Type 0
tells_between made key from to gens = last_between from to gens ≡ last_made from to key made

-- where the row is another one, it is as it was
if-above : (b : Bool) (made : List MadeChange) (key : Key) (above : ℕ) (gens other : List ℕ) → (b ≡ true → tells_above made key above gens) → (b ≡ false → tells_above made key above other) → tells_above made key above (if b then gens else other)
if-above true made key above gens other here there = here refl
if-above false made key above gens other here there = there refl

if-between : (b : Bool) (made : List MadeChange) (key : Key) (from to : ℕ) (gens other : List ℕ) → (b ≡ true → tells_between made key from to gens) → (b ≡ false → tells_between made key from to other) → tells_between made key from to (if b then gens else other)
if-between true made key from to gens other here there = here refl
if-between false made key from to gens other here there = there refl

-- What is received: less is kept.
pub received-rows : (made : List MadeChange) (before received : ℕ) (rows : List (Key × SubscriberRow)) → before ≤ received → RowsTell made before rows → RowsTell made received (map (row_above received) rows)
received-rows made before received rows rises f = record {
  unsent = λ key above up. ap (λ (gens : List ℕ). list_any (λ (generation : ℕ). nat_lt above generation) gens) (gens-above received rows key) ∙ above-kept received above (generations_in rows key) up ∙ f.unsent key above (omega (arith, rises, up));
  between = λ key from to up. ap (λ (gens : List ℕ). last_between from to gens) (gens-above received rows key) ∙ between-kept received from to (generations_in rows key) up ∙ f.between key from to (omega (arith, rises, up));
}

keys-above : (received : ℕ) (rows : List (Key × SubscriberRow)) → keys_of (map (row_above received) rows) ≡ keys_of rows
keys-above received [] = refl
keys-above received (row ∷ rows) = ap (λ (keys : List Key). row.0 ∷ keys) (keys-above received rows)

pub received-sorted : (received : ℕ) (rows : List (Key × SubscriberRow)) → IsStrictlySortedBy key_cmp (keys_of rows) → IsStrictlySortedBy key_cmp (keys_of (map (row_above received) rows))
received-sorted received rows sorted = subst (λ (keys : List Key). IsStrictlySortedBy key_cmp keys) (sym (keys-above received rows)) sorted

-- A row that is put or dropped has no change that was not received.
emptied-above : (made : List MadeChange) (received above : ℕ) (key q : Key) → same_key q key ≡ true → received ≤ above → is_changed_above received key made ≡ false → tells_above made q above []
emptied-above made received above key q same up none = sym (ap (λ (k : Key). is_changed_above above k made) (keys-same q key same) ∙ none-above received above key made up none)

emptied-between : (made : List MadeChange) (received from to : ℕ) (key q : Key) → same_key q key ≡ true → received ≤ from → is_changed_above received key made ≡ false → tells_between made q from to []
emptied-between made received from to key q same up none = sym (ap (λ (k : Key). last_made from to k made) (keys-same q key same) ∙ none-between received from to key made up none)

emptied-rows : (made : List MadeChange) (received : ℕ) (rows after : List (Key × SubscriberRow)) (key : Key) → ((q : Key) → generations_in after q ≡ (if same_key q key then [] else generations_in rows q)) → is_changed_above received key made ≡ false
    → RowsTell made received rows → RowsTell made received after
emptied-rows made received rows after key is none f = record {
  unsent = λ q above up. subst (λ (gens : List ℕ). tells_above made q above gens) (sym (is q))
      (if-above (same_key q key) made q above [] (generations_in rows q) (λ same. emptied-above made received above key q same up none) (λ differs. f.unsent q above up));
  between = λ q from to up. subst (λ (gens : List ℕ). tells_between made q from to gens) (sym (is q))
      (if-between (same_key q key) made q from to [] (generations_in rows q) (λ same. emptied-between made received from to key q same up none) (λ differs. f.between q from to up));
}

order-rows : (made : List MadeChange) (received : ℕ) (rows : List (Key × SubscriberRow)) (key : Key) (o : Order) → IsStrictlySortedBy key_cmp (keys_of rows) → is_changed_above received key made ≡ false → RowsTell made received rows → RowsTell made received (with_order key o rows)
order-rows made received rows key (order.Put lineage live) sorted none f = emptied-rows made received rows (with_order key (order.Put lineage live) rows) key (λ q. gens-put rows key _ q) none f
order-rows made received rows key order.RemoveDeleted sorted none f = emptied-rows made received rows (drop_row rows key) key (λ q. gens-dropped rows key q sorted) none f
order-rows made received rows key order.RemoveLeft sorted none f = emptied-rows made received rows (drop_row rows key) key (λ q. gens-dropped rows key q sorted) none f

pub order-sorted : (key : Key) (o : Order) (rows : List (Key × SubscriberRow)) → IsStrictlySortedBy key_cmp (keys_of rows) → IsStrictlySortedBy key_cmp (keys_of (with_order key o rows))
order-sorted key (order.Put lineage live) rows sorted = sorted_put key_cmp key_total key _ rows sorted
order-sorted key order.RemoveDeleted rows sorted = sorted_take key_cmp key_total (is_at (key_cmp key)) rows sorted
order-sorted key order.RemoveLeft rows sorted = sorted_take key_cmp key_total (is_at (key_cmp key)) rows sorted

-- the rows with what they say, in order
abbrev Told : List MadeChange → ℕ → List (Key × SubscriberRow) → Type 0
Told made received rows = RowsTell made received rows × IsStrictlySortedBy key_cmp (keys_of rows)

item-told : (made : List MadeChange) (received : ℕ) (rows : List (Key × SubscriberRow)) (key : Key) (o : Order) (b : Bool) → is_changed_above received key made ≡ b → Told made received rows → Told made received (if b then rows else with_order key o rows)
item-told made received rows key o true is f = f
item-told made received rows key o false is f = (order-rows made received rows key o f.1 is f.0, order-sorted key o rows f.1)

pub items-told : (made : List MadeChange) (judge : SubscriberJudge) (received : ℕ) (items : List DownloadItem) (rows : List (Key × SubscriberRow)) → ((key : Key) → judge.is_unsent received key ≡ is_changed_above received key made)
    → Told made received rows → Told made received (fold (with_item judge received) rows items)
items-told made judge received [] rows judges f = f
items-told made judge received (item ∷ items) rows judges f = items-told made judge received items (with_item judge received rows item) judges
    (item-told made received rows (key_of_download item) item.act (judge.is_unsent received (key_of_download item)) (sym (judges (key_of_download item))) f)

-- A site that is made anew has no row, and all its changes are received.
pub anew-rows : (number received : ℕ) (made : List MadeChange) → InOrder number received made → RowsTell made received []
anew-rows number received made o = record {
  unsent = λ key above up. sym (order-above number received above key made up o);
  between = λ key from to up. sym (none-between received from to key made up (order-above number received received key made (omega arith) o));
}

-- A local change: its row gets the open generation.

found-if : (b : Bool) (c : MadeChange) (rest : Option MadeChange) (test : Bool) → test ≡ b
    → option_map (λ (change : MadeChange). change.generation) (let found : Option MadeChange = cond test (Some c) rest in found) ≡ (if b then Some c.generation else option_map (λ (change : MadeChange). change.generation) rest)
found-if true c rest true e = refl
found-if true c rest false e = absurd (grind (arith, e))
found-if false c rest true e = absurd (grind (arith, e))
found-if false c rest false e = refl

module _ (number current : ℕ) (made : List MadeChange) (c : MadeChange) (stands : c.generation ≡ current) (o : InOrder number current made) where
  open-now-above : (q : Key) (above : ℕ) (gens : List ℕ) → same_key q c.key ≡ true → tells_above (c ∷ made) q above (with_open current gens)
  open-now-above q above gens same = open-above above current gens (is_changed_above above q made) (λ low. order-above number current above q made low o)
      ∙ (let now : (nat_lt above current || is_changed_above above q made) ≡ is_changed_above above q (c ∷ made) = grind (arith, stands, same) in now)

  found-now : (from to : ℕ) (q : Key) (b : Bool) → ((nat_lt from c.generation && nat_le c.generation to) && same_key q c.key) ≡ b → last_made from to q (c ∷ made) ≡ (if b then Some c.generation else last_made from to q made)
  found-now from to q b e = found-if b c (find (λ (change : MadeChange). (nat_lt from change.generation && nat_le change.generation to) && same_key q change.key) made) ((nat_lt from c.generation && nat_le c.generation to) && same_key q c.key) e

  open-now-between : (q : Key) (from to : ℕ) (gens : List ℕ) → same_key q c.key ≡ true → tells_between made q from to gens → tells_between (c ∷ made) q from to (with_open current gens)
  open-now-between q from to gens same old = decided (nat_le current from) (nat_le current from) (tells_between (c ∷ made) q from to (with_open current gens)) refl
      (λ low. (let beyond : current ≤ from = grind (arith, nat_tests, low) in
      open-beyond from to current gens beyond ∙ sym (none-between from from to q made (omega arith) (order-above number current from q made beyond o)) ∙ sym (found-now from to q false (grind (arith, nat_tests, stands, beyond)))))
      (λ above. (let behind : from < current = grind (arith, nat_tests, above) in decided (nat_le current to) (nat_le current to) (tells_between (c ∷ made) q from to (with_open current gens)) refl
      (λ up. (let within : current ≤ to = grind (arith, nat_tests, up) in
      open-between from to current gens behind within ∙ ap (λ (g : ℕ). (let found : Option ℕ = Some g in found)) (sym stands) ∙ sym (found-now from to q true (grind (arith, nat_tests, stands, behind, within, same)))))
      (λ over. (let past : to < current = grind (arith, nat_tests, over) in
      open-behind from to current gens past ∙ old ∙ sym (found-now from to q false (grind (arith, nat_tests, stands, past)))))))

  other-now-above : (q : Key) (above : ℕ) (gens : List ℕ) → same_key q c.key ≡ false → tells_above made q above gens → tells_above (c ∷ made) q above gens
  other-now-above q above gens differs old = old ∙ (let now : is_changed_above above q made ≡ is_changed_above above q (c ∷ made) = grind (arith, differs) in now)

  other-now-between : (q : Key) (from to : ℕ) (gens : List ℕ) → same_key q c.key ≡ false → tells_between made q from to gens → tells_between (c ∷ made) q from to gens
  other-now-between q from to gens differs old = old ∙ sym (found-now from to q false (grind (arith, differs)))

  pub change-rows : (received : ℕ) (rows : List (Key × SubscriberRow)) (version : Version) → RowsTell made received rows
      → RowsTell (c ∷ made) received (put_row rows c.key (record { version = version; generations = with_open current (generations_in rows c.key) }))
  change-rows received rows version f =
      let row : SubscriberRow = record { version = version; generations = with_open current (generations_in rows c.key) } in
      record {
        unsent = λ q above up. subst (λ (gens : List ℕ). tells_above (c ∷ made) q above gens) (sym (gens-put rows c.key row q))
            (if-above (same_key q c.key) (c ∷ made) q above row.generations (generations_in rows q) (λ same. open-now-above q above (generations_in rows c.key) same) (λ differs. other-now-above q above (generations_in rows q) differs (f.unsent q above up)));
        between = λ q from to up. subst (λ (gens : List ℕ). tells_between (c ∷ made) q from to gens) (sym (gens-put rows c.key row q))
            (if-between (same_key q c.key) (c ∷ made) q from to row.generations (generations_in rows q)
            (λ same. open-now-between q from to (generations_in rows c.key) same (subst (λ (k : Key). tells_between made q from to (generations_in rows k)) (keys-same q c.key same) (f.between q from to up)))
            (λ differs. other-now-between q from to (generations_in rows q) differs (f.between q from to up)));
      }
