-- Changes of lists that stand behind one another.
use Rattle.std.proofs.Common.{◌≡◌, ◌∙◌, ℕ, ◌+◌, ◌<◌, ◌≤◌, Bool, true, false, cond, List, [], ◌∷◌, ◌++◌, refl, sym, ap, append_assoc, arith}
use Rattle.std.specs.declared.cmp.Ordering.{Ordering}
use Rattle.std.specs.declared.cmp.Ordering.TheVariants.{Less, Equal, Greater}
use Rattle.std.specs.Ordering.{is_eq, ordering_reverse}
use Rattle.std.specs.Map.{remove_entry}
use Rattle.std.specs.BTreeMap.{is_at, insert_entry}
use Rattle.std.specs.Cmp.{IsTotalOrder}
use Rattle.std.proofs.lemmas.List.{append-nil}
use Rattle.merge_table.specs.declared.edit.Edit.{Edit}
use Rattle.merge_table.specs.declared.edit.Edit.TheVariants.{Put, Take}
use Rattle.merge_table.specs.Edits.{key_of, rows_after, rows_after_all}
use Rattle.merge_keeper.specs.Encoded.{AllKeys, AllEditKeys, Part, AreFrom, all_entries, all_edits, all_after}
use Rattle.merge_keeper.proofs.Encoding.{keys-after_all, keys-after}

-- all keys of ys are above k, or all keys of xs below it
abbrev pub AreAbove : {L W : Type 0} → (L → L → Ordering) → L → List (L × W) → Type 0
AreAbove cmp k ys = AllKeys (λ y. cmp k y ≡ Less) ys

abbrev pub AreBelow : {L W : Type 0} → (L → L → Ordering) → L → List (L × W) → Type 0
AreBelow cmp k xs = AllKeys (λ x. cmp k x ≡ Greater) xs

insert_above : {L W : Type 0} (cmp : L → L → Ordering) (k : L) (v : W) (ys : List (L × W)) → AreAbove cmp k ys → insert_entry cmp ys k v ≡ (k, v) ∷ ys
insert_above cmp k v [] h = refl
insert_above cmp k v (y ∷ ys) h = rw h.0 refl

remove_above : {L W : Type 0} (cmp : L → L → Ordering) (k : L) (ys : List (L × W)) → AreAbove cmp k ys → remove_entry (is_at (cmp k)) ys ≡ ys
remove_above cmp k [] h = refl
remove_above cmp k (y ∷ ys) h = rw h.0 (ap (λ l. y ∷ l) (remove_above cmp k ys h.1))

insert_front_step : {L W : Type 0} (cmp : L → L → Ordering) (k a : L) (v x : W) (xs ys : List (L × W)) → insert_entry cmp (xs ++ ys) k v ≡ insert_entry cmp xs k v ++ ys
    → (o : Ordering) → cmp k a ≡ o → insert_entry cmp (((a, x) ∷ xs) ++ ys) k v ≡ insert_entry cmp ((a, x) ∷ xs) k v ++ ys
insert_front_step cmp k a v x xs ys ih Less e = rw e refl
insert_front_step cmp k a v x xs ys ih Equal e = rw e refl
insert_front_step cmp k a v x xs ys ih Greater e = rw e (ap (λ l. (a, x) ∷ l) ih)

insert_front : {L W : Type 0} (cmp : L → L → Ordering) (k : L) (v : W) (xs ys : List (L × W)) → AreAbove cmp k ys → insert_entry cmp (xs ++ ys) k v ≡ insert_entry cmp xs k v ++ ys
insert_front cmp k v [] ys h = insert_above cmp k v ys h
insert_front cmp k v ((a, x) ∷ xs) ys h = insert_front_step cmp k a v x xs ys (insert_front cmp k v xs ys h) (cmp k a) refl

remove_front_step : {L W : Type 0} (test : L → Bool) (a : L) (x : W) (xs ys : List (L × W)) → remove_entry test (xs ++ ys) ≡ remove_entry test xs ++ ys
    → (b : Bool) → test a ≡ b → remove_entry test (((a, x) ∷ xs) ++ ys) ≡ remove_entry test ((a, x) ∷ xs) ++ ys
remove_front_step test a x xs ys ih true e = rw e refl
remove_front_step test a x xs ys ih false e = rw e (ap (λ l. (a, x) ∷ l) ih)

remove_front : {L W : Type 0} (cmp : L → L → Ordering) (k : L) (xs ys : List (L × W)) → AreAbove cmp k ys → remove_entry (is_at (cmp k)) (xs ++ ys) ≡ remove_entry (is_at (cmp k)) xs ++ ys
remove_front cmp k [] ys h = remove_above cmp k ys h
remove_front cmp k ((a, x) ∷ xs) ys h = remove_front_step (is_at (cmp k)) a x xs ys (remove_front cmp k xs ys h) (is_at (cmp k) a) refl

insert_back : {L W : Type 0} (cmp : L → L → Ordering) (k : L) (v : W) (xs ys : List (L × W)) → AreBelow cmp k xs → insert_entry cmp (xs ++ ys) k v ≡ xs ++ insert_entry cmp ys k v
insert_back cmp k v [] ys h = refl
insert_back cmp k v (x ∷ xs) ys h = rw h.0 (ap (λ l. x ∷ l) (insert_back cmp k v xs ys h.1))

remove_back : {L W : Type 0} (cmp : L → L → Ordering) (k : L) (xs ys : List (L × W)) → AreBelow cmp k xs → remove_entry (is_at (cmp k)) (xs ++ ys) ≡ xs ++ remove_entry (is_at (cmp k)) ys
remove_back cmp k [] ys h = refl
remove_back cmp k (x ∷ xs) ys h = rw h.0 (ap (λ l. x ∷ l) (remove_back cmp k xs ys h.1))

after_front : {L W : Type 0} (cmp : L → L → Ordering) (e : Edit L W) (xs ys : List (L × W)) → AreAbove cmp (key_of e) ys → rows_after cmp (xs ++ ys) e ≡ rows_after cmp xs e ++ ys
after_front cmp (Put k v) xs ys h = insert_front cmp k v xs ys h
after_front cmp (Take k) xs ys h = remove_front cmp k xs ys h

after_back : {L W : Type 0} (cmp : L → L → Ordering) (e : Edit L W) (xs ys : List (L × W)) → AreBelow cmp (key_of e) xs → rows_after cmp (xs ++ ys) e ≡ xs ++ rows_after cmp ys e
after_back cmp (Put k v) xs ys h = insert_back cmp k v xs ys h
after_back cmp (Take k) xs ys h = remove_back cmp k xs ys h

-- the fronts are of one kind, and the backs of another, which is above
module _ {L W : Type 0} (cmp : L → L → Ordering) (total : IsTotalOrder cmp) (P Q : L → Type 0) (apart : (x y : L) → P x → Q y → cmp x y ≡ Less) where
  above : (k : L) → P k → (ys : List (L × W)) → AllKeys Q ys → AreAbove cmp k ys
  above k pk [] h = tt
  above k pk (y ∷ ys) h = (apart k y.0 pk h.0, above k pk ys h.1)

  below : (k : L) → Q k → (xs : List (L × W)) → AllKeys P xs → AreBelow cmp k xs
  below k qk [] h = tt
  below k qk (x ∷ xs) h = (total.antisymm k x.0 ∙ ap ordering_reverse (apart x.0 k h.0 qk), below k qk xs h.1)

  backs_after : (fs : List (Edit L W)) → AllEditKeys Q fs → (xs ys : List (L × W)) → AllKeys P xs → rows_after_all cmp (xs ++ ys) fs ≡ xs ++ rows_after_all cmp ys fs
  backs_after [] q xs ys h = refl
  backs_after (f ∷ fs) q xs ys h =
      ap (λ l. rows_after_all cmp l fs) (after_back cmp f xs ys (below (key_of f) q.0 xs h)) ∙ backs_after fs q.1 xs (rows_after cmp ys f) h

  pub both_after : (es fs : List (Edit L W)) → AllEditKeys P es → AllEditKeys Q fs → (xs ys : List (L × W)) → AllKeys P xs → AllKeys Q ys
      → rows_after_all cmp (xs ++ ys) (es ++ fs) ≡ rows_after_all cmp xs es ++ rows_after_all cmp ys fs
  both_after [] fs p q xs ys h g = backs_after fs q xs ys h
  both_after (e ∷ es) fs p q xs ys h g =
      ap (λ l. rows_after_all cmp l (es ++ fs)) (after_front cmp e xs ys (above (key_of e) p.0 ys g))
      ∙ both_after es fs p.1 q (rows_after cmp xs e) ys (keys-after P cmp e p.0 xs h) g

-- the keys of parts with numbers from n on are of such numbers
pub keys_join : {L W : Type 0} (Q : L → Type 0) (xs ys : List (L × W)) → AllKeys Q xs → AllKeys Q ys → AllKeys Q (xs ++ ys)
keys_join Q [] ys h g = g
keys_join Q (x ∷ xs) ys h g = (h.0, keys_join Q xs ys h.1 g)

pub edits_join : {L W : Type 0} (Q : L → Type 0) (xs ys : List (Edit L W)) → AllEditKeys Q xs → AllEditKeys Q ys → AllEditKeys Q (xs ++ ys)
edits_join Q [] ys h g = g
edits_join Q (x ∷ xs) ys h g = (h.0, edits_join Q xs ys h.1 g)

keys_weaken : {L W : Type 0} (P Q : L → Type 0) → ((k : L) → P k → Q k) → (xs : List (L × W)) → AllKeys P xs → AllKeys Q xs
keys_weaken P Q to [] h = tt
keys_weaken P Q to (x ∷ xs) h = (to x.0 h.0, keys_weaken P Q to xs h.1)

edits_weaken : {L W : Type 0} (P Q : L → Type 0) → ((k : L) → P k → Q k) → (xs : List (Edit L W)) → AllEditKeys P xs → AllEditKeys Q xs
edits_weaken P Q to [] h = tt
edits_weaken P Q to (x ∷ xs) h = (to (key_of x) h.0, edits_weaken P Q to xs h.1)

abbrev From : {L : Type 0} → (L → ℕ) → ℕ → L → Type 0
From number n k = n ≤ number k

entries_from : {L W : Type 0} (number : L → ℕ) (n : ℕ) (ps : List (Part L W)) → AreFrom number n ps → AllKeys (From number n) (all_entries ps)
entries_from number n [] h = tt
entries_from number n (p ∷ ps) h =
    keys_join (From number n) p.entries (all_entries ps) (keys_weaken (λ k. number k ≡ n) (From number n) (λ k e. omega arith) p.entries h.0.0)
    (keys_weaken (From number (n + 1)) (From number n) (λ k e. omega arith) (all_entries ps) (entries_from number (n + 1) ps h.1))

edits_from : {L W : Type 0} (number : L → ℕ) (n : ℕ) (ps : List (Part L W)) → AreFrom number n ps → AllEditKeys (From number n) (all_edits ps)
edits_from number n [] h = tt
edits_from number n (p ∷ ps) h =
    edits_join (From number n) p.edits (all_edits ps) (edits_weaken (λ k. number k ≡ n) (From number n) (λ k e. omega arith) p.edits h.0.1)
    (edits_weaken (From number (n + 1)) (From number n) (λ k e. omega arith) (all_edits ps) (edits_from number (n + 1) ps h.1))

-- The changes of all parts, one part's after the other's, leave of the whole what each part's leave of it.
pub parts_after : {L W : Type 0} (cmp : L → L → Ordering) → IsTotalOrder cmp → (number : L → ℕ) → ((x y : L) → number x < number y → cmp x y ≡ Less)
    → (n : ℕ) (ps : List (Part L W)) → AreFrom number n ps → rows_after_all cmp (all_entries ps) (all_edits ps) ≡ all_after cmp ps
parts_after cmp total number first n [] h = refl
parts_after cmp total number first n (p ∷ ps) h =
    both_after cmp total (λ k. number k ≡ n) (From number (n + 1)) (λ x y px qy. first x y (omega arith)) p.edits (all_edits ps) h.0.1 (edits_from number (n + 1) ps h.1) p.entries (all_entries ps) h.0.0 (entries_from number (n + 1) ps h.1)
    ∙ ap (λ l. rows_after_all cmp p.entries p.edits ++ l) (parts_after cmp total number first (n + 1) ps h.1)
