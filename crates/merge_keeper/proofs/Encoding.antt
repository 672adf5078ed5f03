-- Changes of entries in another form.
use Rattle.std.proofs.Common.{◌≡◌, ◌∙◌, Bool, true, false, cond, List, [], ◌∷◌, refl, sym, ap}
use Rattle.std.specs.declared.cmp.Ordering.{Ordering}
use Rattle.std.specs.declared.cmp.Ordering.TheVariants.{Less, Equal, Greater}
use Rattle.std.specs.Ordering.{is_eq}
use Rattle.std.specs.Map.{remove_entry}
use Rattle.std.specs.BTreeMap.{is_at, insert_entry}
use Rattle.merge_table.specs.declared.edit.Edit.{Edit}
use Rattle.merge_table.specs.declared.edit.Edit.TheVariants.{Put, Take}
use Rattle.merge_table.specs.Edits.{key_of, rows_after, rows_after_all}
use Rattle.merge_keeper.specs.Encoded.{encoded_entries, encoded_edit, encoded_edits, AllKeys, AllEditKeys, KeepsOrder}

keys_insert_step : {K V : Type 0} (P : K → Type 0) (cmp : K → K → Ordering) (k a : K) (v x : V) (es : List (K × V)) → P k → P a → AllKeys P es → AllKeys P (insert_entry cmp es k v)
    → (o : Ordering) → cmp k a ≡ o → AllKeys P (insert_entry cmp ((a, x) ∷ es) k v)
keys_insert_step P cmp k a v x es pk pa h ih Less e = rw e (pk, (pa, h))
keys_insert_step P cmp k a v x es pk pa h ih Equal e = rw e (pa, h)
keys_insert_step P cmp k a v x es pk pa h ih Greater e = rw e (pa, ih)

-- a value put at a key of a kind leaves keys of the kind
pub keys-insert : {K V : Type 0} (P : K → Type 0) (cmp : K → K → Ordering) (k : K) (v : V) → P k → (es : List (K × V)) → AllKeys P es → AllKeys P (insert_entry cmp es k v)
keys-insert P cmp k v pk [] h = (pk, tt)
keys-insert P cmp k v pk ((a, x) ∷ es) h = keys_insert_step P cmp k a v x es pk h.0 h.1 (keys-insert P cmp k v pk es h.1) (cmp k a) refl

keys_remove_step : {K V : Type 0} (P : K → Type 0) (test : K → Bool) (a : K) (x : V) (es : List (K × V)) → P a → AllKeys P es → AllKeys P (remove_entry test es)
    → (b : Bool) → test a ≡ b → AllKeys P (remove_entry test ((a, x) ∷ es))
keys_remove_step P test a x es pa h ih true e = rw e h
keys_remove_step P test a x es pa h ih false e = rw e (pa, ih)

pub keys-remove : {K V : Type 0} (P : K → Type 0) (test : K → Bool) (es : List (K × V)) → AllKeys P es → AllKeys P (remove_entry test es)
keys-remove P test [] h = tt
keys-remove P test ((a, x) ∷ es) h = keys_remove_step P test a x es h.0 h.1 (keys-remove P test es h.1) (test a) refl

pub keys-after : {K V : Type 0} (P : K → Type 0) (cmp : K → K → Ordering) (e : Edit K V) → P (key_of e) → (es : List (K × V)) → AllKeys P es → AllKeys P (rows_after cmp es e)
keys-after P cmp (Put k v) pk es h = keys-insert P cmp k v pk es h
keys-after P cmp (Take k) pk es h = keys-remove P (is_at (cmp k)) es h

pub keys-after_all : {K V : Type 0} (P : K → Type 0) (cmp : K → K → Ordering) (edits : List (Edit K V)) → AllEditKeys P edits → (es : List (K × V)) → AllKeys P es → AllKeys P (rows_after_all cmp es edits)
keys-after_all P cmp [] pk es h = h
keys-after_all P cmp (e ∷ edits) pk es h = keys-after_all P cmp edits pk.1 (rows_after cmp es e) (keys-after P cmp e pk.0 es h)

encoded_insert_step : {K L V W : Type 0} (cmp : K → K → Ordering) (cmp' : L → L → Ordering) (f : K → L) (g : K → V → W) (k a : K) (v x : V) (es : List (K × V))
    → (cmp k a ≡ Equal → k ≡ a)
    → cmp' (f k) (f a) ≡ cmp k a → encoded_entries f g (insert_entry cmp es k v) ≡ insert_entry cmp' (encoded_entries f g es) (f k) (g k v)
    → (o : Ordering) → cmp k a ≡ o → encoded_entries f g (insert_entry cmp ((a, x) ∷ es) k v) ≡ insert_entry cmp' (encoded_entries f g ((a, x) ∷ es)) (f k) (g k v)
encoded_insert_step cmp cmp' f g k a v x es exact same ih Less e = rw (same, e) refl
encoded_insert_step {K = K} cmp cmp' f g k a v x es exact same ih Equal e = rw (same, e) (ap (λ (q : K). (f a, g q v) ∷ encoded_entries f g es) (sym (exact e)))
encoded_insert_step cmp cmp' f g k a v x es exact same ih Greater e = rw (same, e) (ap (λ l. (f a, g a x) ∷ l) ih)

-- a value put, and then the other form, is the other form with the value's put
pub encoded-insert : {K L V W : Type 0} (P : K → Type 0) (cmp : K → K → Ordering) (cmp' : L → L → Ordering) (f : K → L) (g : K → V → W) → ((x y : K) → cmp x y ≡ Equal → x ≡ y) → KeepsOrder P cmp cmp' f
    → (k : K) (v : V) → P k → (es : List (K × V)) → AllKeys P es → encoded_entries f g (insert_entry cmp es k v) ≡ insert_entry cmp' (encoded_entries f g es) (f k) (g k v)
encoded-insert P cmp cmp' f g exact o k v pk [] h = refl
encoded-insert P cmp cmp' f g exact o k v pk ((a, x) ∷ es) h =
    encoded_insert_step cmp cmp' f g k a v x es (exact k a) (o.same k a pk h.0) (encoded-insert P cmp cmp' f g exact o k v pk es h.1) (cmp k a) refl

encoded_remove_step : {K L V W : Type 0} (cmp : K → K → Ordering) (cmp' : L → L → Ordering) (f : K → L) (g : K → V → W) (k a : K) (x : V) (es : List (K × V))
    → cmp' (f k) (f a) ≡ cmp k a → encoded_entries f g (remove_entry (is_at (cmp k)) es) ≡ remove_entry (is_at (cmp' (f k))) (encoded_entries f g es)
    → (o : Ordering) → cmp k a ≡ o → encoded_entries f g (remove_entry (is_at (cmp k)) ((a, x) ∷ es)) ≡ remove_entry (is_at (cmp' (f k))) (encoded_entries f g ((a, x) ∷ es))
encoded_remove_step cmp cmp' f g k a x es same ih Less e = rw (same, e) (ap (λ l. (f a, g a x) ∷ l) ih)
encoded_remove_step cmp cmp' f g k a x es same ih Equal e = rw (same, e) refl
encoded_remove_step cmp cmp' f g k a x es same ih Greater e = rw (same, e) (ap (λ l. (f a, g a x) ∷ l) ih)

pub encoded-remove : {K L V W : Type 0} (P : K → Type 0) (cmp : K → K → Ordering) (cmp' : L → L → Ordering) (f : K → L) (g : K → V → W) → KeepsOrder P cmp cmp' f
    → (k : K) → P k → (es : List (K × V)) → AllKeys P es → encoded_entries f g (remove_entry (is_at (cmp k)) es) ≡ remove_entry (is_at (cmp' (f k))) (encoded_entries f g es)
encoded-remove P cmp cmp' f g o k pk [] h = refl
encoded-remove P cmp cmp' f g o k pk ((a, x) ∷ es) h =
    encoded_remove_step cmp cmp' f g k a x es (o.same k a pk h.0) (encoded-remove P cmp cmp' f g o k pk es h.1) (cmp k a) refl

pub encoded-after : {K L V W : Type 0} (P : K → Type 0) (cmp : K → K → Ordering) (cmp' : L → L → Ordering) (f : K → L) (g : K → V → W) → ((x y : K) → cmp x y ≡ Equal → x ≡ y) → KeepsOrder P cmp cmp' f
    → (e : Edit K V) → P (key_of e) → (es : List (K × V)) → AllKeys P es → encoded_entries f g (rows_after cmp es e) ≡ rows_after cmp' (encoded_entries f g es) (encoded_edit f g e)
encoded-after P cmp cmp' f g exact o (Put k v) pk es h = encoded-insert P cmp cmp' f g exact o k v pk es h
encoded-after P cmp cmp' f g exact o (Take k) pk es h = encoded-remove P cmp cmp' f g o k pk es h

-- the other form after changes is the changes' other form after the other form
pub encoded-after_all : {K L V W : Type 0} (P : K → Type 0) (cmp : K → K → Ordering) (cmp' : L → L → Ordering) (f : K → L) (g : K → V → W) → ((x y : K) → cmp x y ≡ Equal → x ≡ y) → KeepsOrder P cmp cmp' f
    → (edits : List (Edit K V)) → AllEditKeys P edits → (es : List (K × V)) → AllKeys P es → encoded_entries f g (rows_after_all cmp es edits) ≡ rows_after_all cmp' (encoded_entries f g es) (encoded_edits f g edits)
encoded-after_all P cmp cmp' f g exact o [] pk es h = refl
encoded-after_all P cmp cmp' f g exact o (e ∷ edits) pk es h =
    encoded-after_all P cmp cmp' f g exact o edits pk.1 (rows_after cmp es e) (keys-after P cmp e pk.0 es h)
    ∙ ap (λ l. rows_after_all cmp' l (encoded_edits f g edits)) (encoded-after P cmp cmp' f g exact o e pk.0 es h)
