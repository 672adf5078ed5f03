-- The edits of a step's commit make the records of what was stored those of what is stored afterwards.
use Rattle.std.proofs.Common.{◌≡◌, ◌∙◌, ℕ, ◌+◌, ◌%◌, ◌^◌, ◌<◌, Bool, true, false, List, [], ◌∷◌, ◌++◌, length, map, filter, refl, sym, ap, subst}
use Rattle.std.specs.Int.{w8, w16, w64, w128, byte_len, to_be_bytes}
use Rattle.std.specs.List.{AllByRecursion}
use Rattle.std.specs.List.Sorted.{IsStrictlySortedBy}
use Rattle.std.specs.Map.{keys_of, remove_entry}
use Rattle.std.specs.BTreeMap.{insert_entry}
use Rattle.std.specs.Prelude.{nat_le}
use Rattle.std.specs.Ordering.{nat_cmp, ordering_then}
use Rattle.std.specs.Cmp.{nat_cmp_is}
use Rattle.std.specs.Cmp.Lexicographic.{slice_cmp}
use Rattle.std.specs.declared.cmp.Ordering.{Ordering}
use Rattle.std.specs.declared.cmp.Ordering.TheVariants.{Less, Equal, Greater}
use Rattle.std.proofs.lemmas.List.{append-nil, length-append}
use Rattle.std.proofs.lemmas.Cmp.{nat_cmp_total}
use Rattle.std.proofs.lemmas.Map.Keys.{sorted_head, sorted_tail}
use Rattle.std.proofs.lemmas.Map.Lookups.{exact_unsigned}
use Rattle.merge_types.specs.RowKeys.{key_cmp, key_exact}
use Rattle.merge_types.specs.declared.row_key.RowKey.{RowKey}
use Rattle.merge_table.specs.declared.edit.Edit.{Edit}
use Rattle.merge_table.specs.declared.edit.Edit.TheVariants.{Put, Take}
use Rattle.merge_table.specs.Edits.{key_of, rows_after, rows_after_all}
use Rattle.merge_gens.specs.Moves.{row_site_cmp, row_site_exact}
use Rattle.merge_gens.specs.declared.moves.RowSite.{RowSite}
use Rattle.merge_gens.specs.declared.closings.Closing.{Closing}
use Rattle.merge_types.specs.declared.identifiers.Moment.{Moment}
use Rattle.merge_conflict.specs.declared.row.ConflictRow.{ConflictRow}
use Rattle.merge_ident.specs.Holders.{Holder}
use Rattle.merge_ident.specs.Grants.{with_grant, with_grants}
use Rattle.merge_ident.specs.declared.grants.Grant.{Grant}
use Rattle.merge_table.proofs.Sorted.{sorted_put}
use Rattle.merge_ports.specs.declared.entry.EntryKey.{EntryKey}
use Rattle.merge_ports.specs.Entries.{Map, entry_cmp, entry_exact}
use Rattle.merge_record.specs.Tables.{row_key_bytes, IsRowKey, row_site_bytes, IsRowSite, grant_key_at, grant_key_bytes, IsGrantKey}
use Rattle.merge_record.proofs.Codecs.{are_records}
use Rattle.merge_record.proofs.TableCodecs.{grant_key_is}
use Rattle.merge_keeper.specs.Encoded.{Part, KeepsOrder, AllKeys, AllEditKeys, encoded_entries, encoded_entry, encoded_edits, puts_of}
use Rattle.merge_keeper.specs.Entries.{row_entry_key, mapping_key, closing_key, conflict_key, held_key, grant_key_in, grant_key, grant_value, site_key, closing_value, conflict_value, closing_pair, closing_of, conflict_pair, conflict_of, was_received, held_value, held_entries, range_entries, closing_entries, conflict_entries}
use Rattle.merge_keeper.specs.Stored.{closings_after, conflicts_after, held_put, held_after, closing_edits, conflict_edits, held_edits, HasGrantKey, IsNew, AreNew}
use Rattle.merge_keeper.proofs.Bytes.{be_order, fronts_order, length-to_be_bytes}
use Rattle.merge_keeper.proofs.Encoding.{keys-insert, encoded-insert, encoded-after_all}
use Rattle.merge_keeper.proofs.KeptLemmas.{entry_total}
use Rattle.merge_keeper.proofs.Lists.{insert_swap}

-- ---- keys keep their order

same_front : (xs ys us vs : List ℕ) (o p : Ordering) → length xs ≡ length ys → slice_cmp nat_cmp xs ys ≡ o → slice_cmp nat_cmp us vs ≡ p → slice_cmp nat_cmp (xs ++ us) (ys ++ vs) ≡ ordering_then o p
same_front xs ys us vs o p len e f = fronts_order xs ys us vs len ∙ ap (λ (q : Ordering). ordering_then q (slice_cmp nat_cmp us vs)) e ∙ ap (λ (q : Ordering). ordering_then o q) f

row_bytes_order : (x y : RowKey) → IsRowKey x → IsRowKey y → slice_cmp nat_cmp (row_key_bytes x) (row_key_bytes y) ≡ key_cmp x y
row_bytes_order x y px py =
    same_front (to_be_bytes w8 x.article) (to_be_bytes w8 y.article) (to_be_bytes w128 x.row.0) (to_be_bytes w128 y.row.0) _ _ (length-to_be_bytes w8 x.article ∙ sym (length-to_be_bytes w8 y.article))
    (be_order w8 x.article y.article px.0 py.0) (be_order w128 x.row.0 y.row.0 px.1 py.1)

pub row_keys_order : KeepsOrder IsRowKey key_cmp entry_cmp row_entry_key
row_keys_order = record { same = row_bytes_order }

length-row_key_bytes : (x : RowKey) → length (row_key_bytes x) ≡ 17
length-row_key_bytes x = length-append (to_be_bytes w8 x.article) (to_be_bytes w128 x.row.0) ∙ ap (λ (n : ℕ). n + length (to_be_bytes w128 x.row.0)) (length-to_be_bytes w8 x.article) ∙ ap (λ (n : ℕ). 1 + n) (length-to_be_bytes w128 x.row.0)

pub mapping_keys_order : KeepsOrder IsRowSite row_site_cmp entry_cmp mapping_key
mapping_keys_order = record {
  same = λ x y px py.
      same_front (row_key_bytes x.key) (row_key_bytes y.key) (to_be_bytes w16 x.site) (to_be_bytes w16 y.site) _ _ (length-row_key_bytes x.key ∙ sym (length-row_key_bytes y.key))
      (row_bytes_order x.key y.key px.0 py.0) (be_order w16 x.site y.site px.1 py.1);
}

pub closing_keys_order : KeepsOrder (λ n. n < 2 ^ 64) nat_cmp entry_cmp closing_key
closing_keys_order = record { same = λ x y px py. be_order w64 x y px py }

pub conflict_keys_order : KeepsOrder (λ n. n < 2 ^ 64) nat_cmp entry_cmp conflict_key
conflict_keys_order = record { same = λ x y px py. be_order w64 x y px py }

pub held_keys_order : KeepsOrder (λ n. n < 2 ^ 8) nat_cmp entry_cmp held_key
held_keys_order = record { same = λ x y px py. be_order w8 x y px py }

pub site_keys_order : KeepsOrder (λ n. n < 2 ^ 16) nat_cmp entry_cmp site_key
site_keys_order = record { same = λ x y px py. be_order w16 x y px py }

-- ---- lists whose members hold their keys

-- a member that is made of a key and a value has their entry
paired_again : {X K V L W : Type 0} (pair : X → K × V) (of : K × V → X) (f : K → L) (g : K → V → W) → ((e : K × V) → encoded_entry f g (pair (of e)) ≡ encoded_entry f g e)
    → (es : List (K × V)) → encoded_entries f g (map pair (map of es)) ≡ encoded_entries f g es
paired_again pair of f g same [] = refl
paired_again {L = L} {W = W} pair of f g same (e ∷ es) = ap (λ (x : L × W). x ∷ encoded_entries f g (map pair (map of es))) (same e) ∙ ap (λ l. encoded_entry f g e ∷ l) (paired_again pair of f g same es)

pub closings_follow : (closings : List Closing) (edits : List (Edit ℕ Moment)) → AllKeys (λ n. n < 2 ^ 64) (map closing_pair closings) → AllEditKeys (λ n. n < 2 ^ 64) edits
    → closing_entries (closings_after closings edits) ≡ rows_after_all entry_cmp (closing_entries closings) (closing_edits edits)
closings_follow closings edits keys edit_keys =
    paired_again closing_pair closing_of closing_key closing_value (λ e. refl) (rows_after_all nat_cmp (map closing_pair closings) edits)
    ∙ encoded-after_all (λ n. n < 2 ^ 64) nat_cmp entry_cmp closing_key closing_value exact_unsigned closing_keys_order edits edit_keys (map closing_pair closings) keys

pub conflicts_follow : (conflicts : List ConflictRow) (edits : List (Edit ℕ ConflictRow)) → AllKeys (λ n. n < 2 ^ 64) (map conflict_pair conflicts) → AllEditKeys (λ n. n < 2 ^ 64) edits
    → conflict_entries (conflicts_after conflicts edits) ≡ rows_after_all entry_cmp (conflict_entries conflicts) (conflict_edits edits)
conflicts_follow conflicts edits keys edit_keys =
    paired_again conflict_pair conflict_of conflict_key conflict_value (λ e. refl) (rows_after_all nat_cmp (map conflict_pair conflicts) edits)
    ∙ encoded-after_all (λ n. n < 2 ^ 64) nat_cmp entry_cmp conflict_key conflict_value exact_unsigned conflict_keys_order edits edit_keys (map conflict_pair conflicts) keys

-- ---- what is held: members with no record are left out

keys_below_step : {V : Type 0} (k : ℕ) (keep : ℕ × V → Bool) (e : ℕ × V) (es : List (ℕ × V)) (v : V) → nat_cmp k e.0 ≡ Less → insert_entry nat_cmp (filter keep es) k v ≡ (k, v) ∷ filter keep es
    → (b : Bool) → keep e ≡ b → insert_entry nat_cmp (filter keep (e ∷ es)) k v ≡ (k, v) ∷ filter keep (e ∷ es)
keys_below_step k keep e es v lt ih true q = rw (q, lt) refl
keys_below_step k keep e es v lt ih false q = rw q ih

keys_below : {V : Type 0} (k : ℕ) (keep : ℕ × V → Bool) (es : List (ℕ × V)) → AllByRecursion (λ a. nat_cmp k a ≡ Less) (keys_of es) → (v : V) → insert_entry nat_cmp (filter keep es) k v ≡ (k, v) ∷ filter keep es
keys_below k keep [] h v = refl
keys_below k keep (e ∷ es) h v = keys_below_step k keep e es v h.0 (keys_below k keep es h.1 v) (keep e) refl

all_below : {V : Type 0} (k a : ℕ) (es : List (ℕ × V)) → nat_cmp k a ≡ Less → AllByRecursion (λ b. nat_cmp a b ≡ Less) (keys_of es) → AllByRecursion (λ b. nat_cmp k b ≡ Less) (keys_of es)
all_below k a [] lt h = tt
all_below k a (e ∷ es) lt h = (nat_cmp_total.trans k a e.0 lt h.0, all_below k a es lt h.1)

kept_insert_step : {V : Type 0} (keep : ℕ × V → Bool) (k a : ℕ) (v x : V) (es : List (ℕ × V)) → keep (k, v) ≡ true → AllByRecursion (λ b. nat_cmp a b ≡ Less) (keys_of es)
    → filter keep (insert_entry nat_cmp es k v) ≡ insert_entry nat_cmp (filter keep es) k v
    → (b : Bool) → keep (a, x) ≡ b → (o : Ordering) → nat_cmp k a ≡ o → filter keep (insert_entry nat_cmp ((a, x) ∷ es) k v) ≡ insert_entry nat_cmp (filter keep ((a, x) ∷ es)) k v
kept_insert_step keep k a v x es kept above ih true q Less e = rw (e, kept, q, e) refl
kept_insert_step keep k a v x es kept above ih true q Equal e = let same : k ≡ a = exact_unsigned k a e in rw (e, q, e) (rw (← same, kept) refl)
kept_insert_step keep k a v x es kept above ih true q Greater e = rw (e, q, e) (ap (λ l. (a, x) ∷ l) ih)
kept_insert_step keep k a v x es kept above ih false q Less e = rw (e, kept, q) (sym (keys_below k keep es (all_below k a es e above) v))
kept_insert_step keep k a v x es kept above ih false q Equal e = let same : k ≡ a = exact_unsigned k a e in rw (e, q) (rw (← same, kept) (sym (keys_below k keep es (subst (λ (n : ℕ). AllByRecursion (λ b. nat_cmp n b ≡ Less) (keys_of es)) (sym same) above) v)))
kept_insert_step keep k a v x es kept above ih false q Greater e = rw (e, q) ih

-- a member that is kept may be put before the others are left out, or after
pub kept_insert : {V : Type 0} (keep : ℕ × V → Bool) (k : ℕ) (v : V) → keep (k, v) ≡ true → (es : List (ℕ × V)) → IsStrictlySortedBy nat_cmp (keys_of es)
    → filter keep (insert_entry nat_cmp es k v) ≡ insert_entry nat_cmp (filter keep es) k v
kept_insert keep k v kept [] s = rw kept refl
kept_insert keep k v kept ((a, x) ∷ es) s =
    kept_insert_step keep k a v x es kept (sorted_head nat_cmp a (keys_of es) s) (kept_insert keep k v kept es (sorted_tail nat_cmp a (keys_of es) s)) (keep (a, x)) refl (nat_cmp k a) refl

-- ---- ranges: what is held, and grants, which stand in another order than their keys

keys_kept_step : {V : Type 0} (P : ℕ → Type 0) (keep : ℕ × V → Bool) (e : ℕ × V) (es : List (ℕ × V)) → P e.0 → AllKeys P (filter keep es) → (b : Bool) → keep e ≡ b → AllKeys P (filter keep (e ∷ es))
keys_kept_step P keep e es h ih true q = rw q (h, ih)
keys_kept_step P keep e es h ih false q = rw q ih

keys_kept : {V : Type 0} (P : ℕ → Type 0) (keep : ℕ × V → Bool) (es : List (ℕ × V)) → AllKeys P es → AllKeys P (filter keep es)
keys_kept P keep [] h = tt
keys_kept P keep (e ∷ es) h = keys_kept_step P keep e es h.0 (keys_kept P keep es h.1) (keep e) refl

pub held_follow : (puts held : List (ℕ × Holder)) → IsStrictlySortedBy nat_cmp (keys_of held) → AllKeys (λ n. n < 2 ^ 8) held → AllByRecursion (λ p. (p.0 < 2 ^ 8) × (was_received p ≡ true)) puts
    → held_entries (held_after held puts) ≡ rows_after_all entry_cmp (held_entries held) (held_edits puts)
held_follow [] held s h ps = refl
held_follow (p ∷ puts) held s h ps =
    held_follow puts (insert_entry nat_cmp held p.0 p.1) (sorted_put nat_cmp nat_cmp_total p.0 p.1 held s) (keys-insert (λ n. n < 2 ^ 8) nat_cmp p.0 p.1 ps.0.0 held h) ps.1
    ∙ ap (λ l. rows_after_all entry_cmp l (held_edits puts))
    (ap (encoded_entries held_key held_value) (kept_insert was_received p.0 p.1 ps.0.1 held s)
    ∙ encoded-insert (λ n. n < 2 ^ 8) nat_cmp entry_cmp held_key held_value exact_unsigned held_keys_order p.0 p.1 ps.0.0 (filter was_received held) (keys_kept (λ n. n < 2 ^ 8) was_received held h))

after_append : {L W : Type 0} (cmp : L → L → Ordering) (a b : List (Edit L W)) (es : List (L × W)) → rows_after_all cmp es (a ++ b) ≡ rows_after_all cmp (rows_after_all cmp es a) b
after_append cmp [] b es = refl
after_append cmp (e ∷ a) b es = after_append cmp a b (rows_after cmp es e)

-- an entry at a key that no other has may be put before the others, or after
pub put_past : {X W : Type 0} (f : X → EntryKey) (g : X → W) (k : EntryKey) (v : W) (xs : List X) → AllByRecursion (λ x. entry_cmp k (f x) ≡ Equal → Less ≡ Equal) xs → (es : List (EntryKey × W))
    → rows_after_all entry_cmp (insert_entry entry_cmp es k v) (puts_of f g xs) ≡ insert_entry entry_cmp (rows_after_all entry_cmp es (puts_of f g xs)) k v
put_past f g k v [] h es = refl
put_past f g k v (x ∷ xs) h es =
    ap (λ l. rows_after_all entry_cmp l (puts_of f g xs)) (insert_swap entry_cmp entry_total k (f x) v (g x) h.0 es)
    ∙ put_past f g k v xs h.1 (insert_entry entry_cmp es (f x) (g x))

then_less : (o : Ordering) → ordering_then o Less ≡ Equal → Less ≡ Equal
then_less Less e = e
then_less Equal e = e
then_less Greater e = absurd cc

-- a key of one byte is no key of eleven
pub held_apart : (article : ℕ) (grant : Grant) → entry_cmp (held_key article) (grant_key grant) ≡ Equal → Less ≡ Equal
held_apart article grant e = then_less (nat_cmp (article % 256) (grant.article % 256)) e

then_greater : (o : Ordering) → ordering_then o Greater ≡ Equal → Less ≡ Equal
then_greater Less e = e
then_greater Equal e = absurd cc
then_greater Greater e = absurd cc

pub grant_apart : (grant : Grant) (article : ℕ) → entry_cmp (grant_key grant) (held_key article) ≡ Equal → Less ≡ Equal
grant_apart grant article e = then_greater (nat_cmp (grant.article % 256) (article % 256)) e

all_apart : (article : ℕ) (grants : List Grant) → AllByRecursion (λ grant. entry_cmp (held_key article) (grant_key grant) ≡ Equal → Less ≡ Equal) grants
all_apart article [] = tt
all_apart article (grant ∷ grants) = (held_apart article grant, all_apart article grants)

held_past : (puts : List (ℕ × Holder)) (grants : List Grant) (es : Map)
    → rows_after_all entry_cmp (rows_after_all entry_cmp es (puts_of grant_key grant_value grants)) (held_edits puts) ≡ rows_after_all entry_cmp (rows_after_all entry_cmp es (held_edits puts)) (puts_of grant_key grant_value grants)
held_past [] grants es = refl
held_past (p ∷ puts) grants es =
    ap (λ l. rows_after_all entry_cmp l (held_edits puts)) (sym (put_past grant_key grant_value (held_key p.0) (held_value p.0 p.1) grants (all_apart p.0 grants) es))
    ∙ held_past puts grants (insert_entry entry_cmp es (held_key p.0) (held_value p.0 p.1))

-- grants with other keys have other entries
pub keys_apart : (a b : Grant) → IsGrantKey (grant_key_in a) → IsGrantKey (grant_key_in b) → (grant_key_in a ≡ grant_key_in b → ⊥) → entry_cmp (grant_key a) (grant_key b) ≡ Equal → Less ≡ Equal
keys_apart a b fa fb other e =
    let same : grant_key_bytes (grant_key_in a) ≡ grant_key_bytes (grant_key_in b) = ap (λ (k : EntryKey). k.key) (entry_exact (grant_key a) (grant_key b) e) in
    absurd (other ((are_records grant_key_bytes grant_key_at IsGrantKey grant_key_is).one_value (grant_key_bytes (grant_key_in a)) (grant_key_in a) (grant_key_in b) (fa, refl) (fb, same)))

new_apart : (new : Grant) (grants : List Grant) → IsGrantKey (grant_key_in new) → AllByRecursion HasGrantKey grants → IsNew new grants → AllByRecursion (λ grant. entry_cmp (grant_key new) (grant_key grant) ≡ Equal → Less ≡ Equal) grants
new_apart new [] fits h other = tt
new_apart new (grant ∷ grants) fits h other = (keys_apart new grant fits h.0 other.0, new_apart new grants fits h.1 other.1)

grant_step : (new grant : Grant) (grants : List Grant) (es : Map) → AllByRecursion (λ g. entry_cmp (grant_key new) (grant_key g) ≡ Equal → Less ≡ Equal) (grant ∷ grants)
    → rows_after_all entry_cmp (insert_entry entry_cmp es (grant_key grant) (grant_value grant)) (puts_of grant_key grant_value (with_grant grants new)) ≡ insert_entry entry_cmp (rows_after_all entry_cmp (insert_entry entry_cmp es (grant_key grant) (grant_value grant)) (puts_of grant_key grant_value grants)) (grant_key new) (grant_value new)
    → (b : Bool) → nat_le grant.article new.article ≡ b
    → rows_after_all entry_cmp es (puts_of grant_key grant_value (with_grant (grant ∷ grants) new)) ≡ insert_entry entry_cmp (rows_after_all entry_cmp es (puts_of grant_key grant_value (grant ∷ grants))) (grant_key new) (grant_value new)
grant_step new grant grants es apart ih true e = rw e ih
grant_step new grant grants es apart ih false e = rw e (put_past grant_key grant_value (grant_key new) (grant_value new) (grant ∷ grants) apart es)

one_granted : (new : Grant) (grants : List Grant) → AllByRecursion (λ g. entry_cmp (grant_key new) (grant_key g) ≡ Equal → Less ≡ Equal) grants → (es : Map)
    → rows_after_all entry_cmp es (puts_of grant_key grant_value (with_grant grants new)) ≡ insert_entry entry_cmp (rows_after_all entry_cmp es (puts_of grant_key grant_value grants)) (grant_key new) (grant_value new)
one_granted new [] h es = refl
one_granted new (grant ∷ grants) h es = grant_step new grant grants es h (one_granted new grants h.1 (insert_entry entry_cmp es (grant_key grant) (grant_value grant))) (nat_le grant.article new.article) refl

with_grant_step : (new grant : Grant) (grants : List Grant) → HasGrantKey new → AllByRecursion HasGrantKey (grant ∷ grants) → AllByRecursion HasGrantKey (with_grant grants new)
    → (b : Bool) → nat_le grant.article new.article ≡ b → AllByRecursion HasGrantKey (with_grant (grant ∷ grants) new)
with_grant_step new grant grants n h ih true e = rw e (h.0, ih)
with_grant_step new grant grants n h ih false e = rw e (n, h)

-- the keys of grants fit with one more
pub with_grant_keys : (new : Grant) (grants : List Grant) → HasGrantKey new → AllByRecursion HasGrantKey grants → AllByRecursion HasGrantKey (with_grant grants new)
with_grant_keys new [] n h = (n, tt)
with_grant_keys new (grant ∷ grants) n h = with_grant_step new grant grants n h (with_grant_keys new grants n h.1) (nat_le grant.article new.article) refl

all_granted : (news grants : List Grant) → AllByRecursion HasGrantKey grants → AllByRecursion HasGrantKey news → AreNew grants news → (es : Map)
    → rows_after_all entry_cmp (rows_after_all entry_cmp es (puts_of grant_key grant_value grants)) (puts_of grant_key grant_value news) ≡ rows_after_all entry_cmp es (puts_of grant_key grant_value (with_grants grants news))
all_granted [] grants h n new es = refl
all_granted (g ∷ news) grants h n new es =
    ap (λ l. rows_after_all entry_cmp l (puts_of grant_key grant_value news)) (sym (one_granted g grants (new_apart g grants n.0 h new.0) es))
    ∙ all_granted news (with_grant grants g) (with_grant_keys g grants n.0 h) n.1 new.1 es

pub ranges_follow : (puts held : List (ℕ × Holder)) (news grants : List Grant) → IsStrictlySortedBy nat_cmp (keys_of held) → AllKeys (λ n. n < 2 ^ 8) held → AllByRecursion (λ p. (p.0 < 2 ^ 8) × (was_received p ≡ true)) puts
    → AllByRecursion HasGrantKey grants → AllByRecursion HasGrantKey news → AreNew grants news
    → range_entries (held_after held puts) (with_grants grants news) ≡ rows_after_all entry_cmp (range_entries held grants) (held_edits puts ++ puts_of grant_key grant_value news)
ranges_follow puts held news grants s h ps gs ns new =
    sym (all_granted news grants gs ns new (held_entries (held_after held puts)))
    ∙ ap (λ l. rows_after_all entry_cmp (rows_after_all entry_cmp l (puts_of grant_key grant_value grants)) (puts_of grant_key grant_value news)) (held_follow puts held s h ps)
    ∙ ap (λ l. rows_after_all entry_cmp l (puts_of grant_key grant_value news)) (sym (held_past puts grants (held_entries held)))
    ∙ sym (after_append entry_cmp (held_edits puts) (puts_of grant_key grant_value news) (range_entries held grants))
