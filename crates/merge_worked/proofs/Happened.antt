-- What the Booleans and lists of a model say is what its promises ask.
use Rattle.std.proofs.Common.{ap, arith, refl, subst, ◌∙◌}
use Rattle.std.proofs.lemmas.Bool.Decides.{nat_tests}
use Rattle.std.proofs.lemmas.Option.{none-some}
use Rattle.std.specs.Bool.{beq}
use Rattle.std.specs.BTreeMap.{is_at}
use Rattle.std.specs.List.{list_all, zip}
use Rattle.std.specs.Ordering.{nat_cmp}
use Rattle.std.specs.Prelude.{All, Bool, List, Option, Some, [], cond, false, filter, length, map, slice_get, slice_index_or, suc, true, unwrap_or, zero, ℕ, ◌&&◌, ◌==◌, ◌∷◌, ◌≡◌}
use Rattle.merge_types.specs.declared.identifiers.Dot.{Dot}
use Rattle.merge_lineage.specs.Lineage.{knows}
use Rattle.merge_units.specs.declared.version.Version.{Version}
use Rattle.merge_conflict.specs.declared.row.ConflictRow.{ConflictRow}
use Rattle.merge_schema.specs.declared.publication.Publication.{Publication}
use Rattle.merge_model.specs.History.{MadeChange, Past, has, past_at, past_in}
use Rattle.merge_model.specs.Tables.Keys.{at_number, same_key}
use Rattle.merge_model.specs.History.Model.{Model}
use Rattle.merge_model.specs.Laws.Promises.{AllAccounted, AllStand, IsSettled, LetterStands, RowsStand, SettledHoldsPartition, StandsFor, TableStands, is_accounted, key_of_conflict, lineages_in, lost_at, publisher_versions, subscriber_versions, versions_held, versions_owed}
use Rattle.merge_types.specs.declared.row_key.RowKey.{RowKey as Key}
use Rattle.merge_model.specs.Tables.{SubscriberTables}
use Rattle.merge_model.specs.World.{letter_at}
use Rattle.merge_model.specs.declared.letter.Letter.{Letter}
use Rattle.merge_model.proofs.Lists.KeyLookUps.{keys-same}
use Rattle.merge_worked.specs.Happened.{all_are_accounted, all_letters_stand, all_rows_stand, all_tables_stand, held_at_settled, is_settled, letter_stands, lost_row_stands, owed_to_settled, row_stands, says_the_same, stands_for, table_stands}

-- Lists.

passes-head : (a b : Bool) → (a && b) ≡ true → a ≡ true
passes-head a b both = grind (arith, nat_tests, both)

passes-tail : (a b : Bool) → (a && b) ≡ true → b ≡ true
passes-tail a b both = grind (arith, nat_tests, both)

pub all-pass : {X : Type 0} (p : X → Bool) (xs : List X) → list_all p xs ≡ true → All (λ (x : X). p x ≡ true) xs
all-pass p [] pass i d lt = absurd (omega arith)
all-pass p (x ∷ xs) pass zero d lt = passes-head (p x) (list_all p xs) pass
all-pass p (x ∷ xs) pass (suc i) d lt = all-pass p xs (passes-tail (p x) (list_all p xs) pass) i d (omega arith)

-- what each entry of a list has is had by the one that is found
found-head : {X : Type 0} (P : X → Type 0) (b : Bool) (y x : X) (rest : Option X) → cond b (Some y) rest ≡ Some x → P y → (rest ≡ Some x → P x) → P x
found-head P true y x rest found here there = let same : y ≡ x = grind (arith, nat_tests, found) in subst P same here
found-head P false y x rest found here there = there found

found-passes : {X : Type 0} (p : X → Bool) (entries : List (ℕ × X)) (n : ℕ) (x : X) → list_all p (map (λ (entry : ℕ × X). entry.1) entries) ≡ true → at_number entries n ≡ Some x → p x ≡ true
found-passes p [] n x pass found = absurd (none-some x found)
found-passes {X = X} p (entry ∷ entries) n x pass found =
    let rest : Bool = list_all p (map (λ (e : ℕ × X). e.1) entries) in
    found-head (λ (y : X). p y ≡ true) (is_at (nat_cmp n) entry.0) entry.1 x (at_number entries n) found (passes-head (p entry.1) rest pass)
    (found-passes p entries n x (passes-tail (p entry.1) rest pass))

-- one that is taken from two lists of one length
taken-passes : {X Y : Type 0} (p : X × Y → Bool) (xs : List X) (ys : List Y) (other : Y) (place : ℕ) (x : X) → (length xs == length ys) ≡ true → list_all p (zip xs ys) ≡ true → slice_get xs place ≡ Some x → p (x, unwrap_or (slice_get ys place) other) ≡ true
taken-passes p [] ys other place x same pass taken = absurd (none-some x (grind (arith, nat_tests, taken)))
taken-passes p (y ∷ xs) [] other place x same pass taken = absurd (grind (arith, nat_tests, same))
taken-passes {X = X} {Y = Y} p (y ∷ xs) (z ∷ ys) other zero x same pass taken =
    let head : y ≡ x = grind (arith, nat_tests, taken) in
    subst (λ (w : X). p (w, z) ≡ true) head (passes-head (p (y, z)) (list_all p (zip xs ys)) pass)
taken-passes p (y ∷ xs) (z ∷ ys) other (suc place) x same pass taken =
    taken-passes p xs ys other place x (grind (arith, nat_tests, same)) (passes-tail (p (y, z)) (list_all p (zip xs ys)) pass) taken

-- Accounts.

pub accounted : (m : Model) → all_are_accounted m ≡ true → AllAccounted m
accounted m pass = all-pass (is_accounted m) m.history.made pass

-- Lineages.

booleans-same : (a b : Bool) → beq a b ≡ true → a ≡ b
booleans-same true true same = refl
booleans-same false false same = refl
booleans-same true false same = grind (arith, same)
booleans-same false true same = grind (arith, same)

stands : (m : Model) (key : Key) (lineage : List Dot) (past : Past) → stands_for m key lineage past ≡ true → StandsFor m key lineage past
stands m key lineage past pass i d lt of kept =
    let change : MadeChange = slice_index_or m.history.made i d in
    let said : says_the_same m key lineage past change ≡ true = all-pass (says_the_same m key lineage past) m.history.made pass i d lt in
    booleans-same (has past.known change.dot) (knows lineage change.dot) (grind (arith, nat_tests, said, of, kept))

rows : (m : Model) (site : ℕ) (versions : List (Key × Version)) → list_all (row_stands m site) versions ≡ true → RowsStand m site versions
rows m site versions pass i d lt =
    let row : Key × Version = slice_index_or versions i d in
    stands m row.0 row.1.lineage (past_at m.history site row.0) (all-pass (row_stands m site) versions pass i d lt)

letter : (m : Model) (number : ℕ) (letter : Letter) → all_letters_stand m ≡ true → letter_at m.world number ≡ Some letter → LetterStands m number letter
letter m zero sent pass found i d lt = absurd (none-some sent found)
letter m (suc number) sent pass found i d lt =
    let here : letter_stands m (sent, unwrap_or (slice_get m.history.letters number) []) ≡ true =
    taken-passes (letter_stands m) m.world.pool m.history.letters [] number sent (passes-head _ _ pass) (passes-tail _ _ pass) found in
    let pasts : List (Key × Past) = unwrap_or (slice_get m.history.letters number) [] in
    let entry : Key × List Dot = slice_index_or (lineages_in sent.message) i d in
    stands m entry.0 entry.1 (past_in pasts entry.0) (all-pass (λ (e : Key × List Dot). stands_for m e.0 e.1 (past_in pasts e.0)) (lineages_in sent.message) here i d lt)

same-rows : (m : Model) (conflicts : List ConflictRow) (lost : List (Key × Past)) → (length conflicts == length lost) ≡ true → list_all (lost_row_stands m) (zip conflicts lost) ≡ true → map key_of_conflict conflicts ≡ map (λ (row : Key × Past). row.0) lost
same-rows m [] [] same pass = refl
same-rows m [] (row ∷ lost) same pass = absurd (grind (arith, nat_tests, same))
same-rows m (conflict ∷ conflicts) [] same pass = absurd (grind (arith, nat_tests, same))
same-rows m (conflict ∷ conflicts) (row ∷ lost) same pass =
    let here : lost_row_stands m (conflict, row) ≡ true = passes-head _ _ pass in
    let key : key_of_conflict conflict ≡ row.0 = keys-same _ _ (passes-head _ _ here) in
    let others : map key_of_conflict conflicts ≡ map (λ (other : Key × Past). other.0) lost = same-rows m conflicts lost (grind (arith, nat_tests, same)) (passes-tail _ _ pass) in
    ap (λ (k : Key). k ∷ map key_of_conflict conflicts) key ∙ ap (λ (keys : List Key). row.0 ∷ keys) others

table : (m : Model) (site : ℕ) (conflicts : List ConflictRow) → table_stands m site conflicts ≡ true → TableStands m site conflicts
table m site conflicts pass = record {
  same_rows = same-rows m conflicts (lost_at m.history site) (passes-head _ _ pass) (passes-tail _ _ pass);
  stand = λ i d lt.
      let pair : ConflictRow × (Key × Past) = slice_index_or (zip conflicts (lost_at m.history site)) i d in
      stands m pair.1.0 pair.0.losing.lineage pair.1.1 (passes-tail _ _ (all-pass (lost_row_stands m) (zip conflicts (lost_at m.history site)) (passes-tail _ _ pass) i d lt));
}

pub all-stand : (m : Model) → all_rows_stand m ≡ true → all_letters_stand m ≡ true → all_tables_stand m ≡ true → AllStand m
all-stand m in_rows in_letters in_tables = record {
  publisher = rows m 0 (publisher_versions m.world) (passes-head _ _ in_rows);
  subscribers = λ s here. rows m s.site.0 (subscriber_versions s) (found-passes (λ (t : SubscriberTables). list_all (row_stands m t.site.0) (subscriber_versions t)) m.world.subscribers s.site.0 s (passes-tail _ _ in_rows) here);
  letters = λ number sent found. letter m number sent in_letters found;
  lost = table m 0 m.world.publisher.conflicts (passes-head _ _ in_tables);
  discarded = λ s here. table m s.site.0 s.conflicts (found-passes (λ (t : SubscriberTables). table_stands m t.site.0 t.conflicts) m.world.subscribers s.site.0 s (passes-tail _ _ in_tables) here);
}

-- Settled sites.

kept-head : {X Y : Type 0} (f g : X → Y) (b : Bool) (x : X) (xs : List X) → map f (cond b (x ∷ xs) xs) ≡ map g (cond b (x ∷ xs) xs) → b ≡ true → f x ≡ g x
kept-head f g true x xs same kept = grind (arith, same)
kept-head f g false x xs same kept = absurd (grind (arith, nat_tests, kept))

kept-tail : {X Y : Type 0} (f g : X → Y) (b : Bool) (x : X) (xs : List X) → map f (cond b (x ∷ xs) xs) ≡ map g (cond b (x ∷ xs) xs) → map f xs ≡ map g xs
kept-tail f g true x xs same = grind (arith, same)
kept-tail f g false x xs same = same

found-same : {X Y : Type 0} (f g : X → Y) (p : X → Bool) (entries : List (ℕ × X)) (n : ℕ) (x : X) → map f (filter p (map (λ (entry : ℕ × X). entry.1) entries)) ≡ map g (filter p (map (λ (entry : ℕ × X). entry.1) entries)) → at_number entries n ≡ Some x → p x ≡ true → f x ≡ g x
found-same f g p [] n x same found kept = absurd (none-some x found)
found-same {X = X} f g p (entry ∷ entries) n x same found kept =
    let rest : List X = filter p (map (λ (e : ℕ × X). e.1) entries) in
    found-head (λ (y : X). p y ≡ true → f y ≡ g y) (is_at (nat_cmp n) entry.0) entry.1 x (at_number entries n) found
    (kept-head f g (p entry.1) entry.1 rest same)
    (λ there. found-same f g p entries n x (kept-tail f g (p entry.1) entry.1 rest same) there)
    kept

settled-passes : (publication : Publication) (m : Model) (s : SubscriberTables) → IsSettled publication m s → is_settled publication m s ≡ true
settled-passes publication m s i = grind (arith, nat_tests, i.joined, i.in_time, i.nothing_unsent, i.all_held, i.none_open)

pub settled-hold : (publication : Publication) (m : Model) → held_at_settled publication m ≡ owed_to_settled publication m → SettledHoldsPartition publication m
settled-hold publication m same s i =
    found-same versions_held (λ (t : SubscriberTables). versions_owed publication m.world t.site) (is_settled publication m) m.world.subscribers s.site.0 s same i.is_here (settled-passes publication m s i)
