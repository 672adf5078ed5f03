-- The index of the entries of generations goes on with the tables.
use Rattle.std.proofs.Common.{◌≡◌, ◌∙◌, ℕ, ◌+◌, ◌<◌, ◌==◌, Bool, true, false, cond, List, [], ◌∷◌, ◌++◌, count_by, sum_by, unwrap_or, Option, Some, refl, sym, ap, arith}
use Rattle.std.specs.Map.{lookup}
use Rattle.std.specs.BTreeMap.{is_at, insert_entry}
use Rattle.std.specs.Ordering.{nat_cmp}
use Rattle.std.specs.Cmp.{unsigned_ties}
use Rattle.std.proofs.lemmas.Cmp.{nat_cmp_total}
use Rattle.std.proofs.lemmas.Bool.{eqb-true}
use Rattle.std.proofs.lemmas.List.Sums.{sum_by-cons}
use Rattle.merge_types.specs.declared.row_key.RowKey.{RowKey}
use Rattle.merge_units.specs.declared.site_row.PublisherRow.{PublisherRow}
use Rattle.merge_units.specs.declared.site_row.SubscriberRow.{SubscriberRow}
use Rattle.merge_gens.specs.declared.moves.Mapping.{Mapping}
use Rattle.merge_gens.specs.declared.moves.RowSite.{RowSite}
use Rattle.merge_table.proofs.LookUps.{lookup-insert_entry}
use Rattle.merge_keeper.specs.declared.counts.Counts.{Counts}
use Rattle.merge_keeper.specs.Counts.{count_at}
use Rattle.merge_keeper.specs.declared.stored.PublisherStored.{PublisherStored}
use Rattle.merge_keeper.specs.declared.stored.SubscriberStored.{SubscriberStored}
use Rattle.merge_keeper.specs.PublisherStart.{IsCounted}
use Rattle.merge_keeper.specs.SubscriberStart.{times_in, IsCounted as IsSubscriberCounted}

-- a list with one member more sums and counts it
pub sum_push : {X : Type 0} (f : X → ℕ) (xs : List X) (x : X) → sum_by f (xs ++ x ∷ []) ≡ sum_by f xs + f x
sum_push f [] x = omega (arith, sum_by-cons f x [])
sum_push f (y ∷ xs) x = omega (arith, sum_by-cons f y (xs ++ x ∷ []), sum_by-cons f y xs, sum_push f xs x)

pub count_push : {X : Type 0} (p : X → Bool) (xs : List X) (x : X) → count_by p (xs ++ x ∷ []) ≡ count_by p xs + cond (p x) 1 0
count_push p xs x = sum_push (λ y. cond (p y) 1 0) xs x

abbrev at : List (ℕ × ℕ) → ℕ → ℕ
at rows generation = unwrap_or (lookup (is_at (nat_cmp generation)) rows) 0

put_by_test : (b : Bool) (count : ℕ) (o : Option ℕ) → unwrap_or (cond b (Some count) o) 0 ≡ cond b count (unwrap_or o 0)
put_by_test true count o = refl
put_by_test false count o = refl

at_put : (rows : List (ℕ × ℕ)) (generation count other : ℕ) → at (insert_entry nat_cmp rows generation count) other ≡ cond (other == generation) count (at rows other)
at_put rows generation count other =
    ap (λ (o : Option ℕ). unwrap_or o 0) (lookup-insert_entry nat_cmp nat_cmp_total generation other count rows)
    ∙ ap (λ (b : Bool). unwrap_or (cond b (Some count) (lookup (is_at (nat_cmp other)) rows)) 0) (sym (unsigned_ties other generation))
    ∙ put_by_test (other == generation) count (lookup (is_at (nat_cmp other)) rows)

more_by_test : (rows : List (ℕ × ℕ)) (generation other : ℕ) (b : Bool) → (other == generation) ≡ b → cond b (at rows generation + 1) (at rows other) ≡ cond b (at rows other + 1) (at rows other)
more_by_test rows generation other true e = ap (λ (n : ℕ). at rows n + 1) (sym (eqb-true other generation e))
more_by_test rows generation other false e = refl

-- one more is told of one generation, and as many as before of each other
pub at_more : (old new : List (ℕ × ℕ)) (generation count : ℕ) → new ≡ insert_entry nat_cmp old generation count → count ≡ at old generation + 1 → (other : ℕ) → at new other ≡ cond (other == generation) (at old other + 1) (at old other)
at_more old new generation count rows is other =
    ap (λ (l : List (ℕ × ℕ)). at l other) rows ∙ at_put old generation count other
    ∙ ap (λ (n : ℕ). cond (other == generation) n (at old other)) is
    ∙ more_by_test old generation other (other == generation) refl

first_more : (b : Bool) (first last : ℕ) → cond b (first + last + 1) (first + last) ≡ (first + cond b 1 0) + last
first_more true first last = omega arith
first_more false first last = omega arith

last_more : (b : Bool) (first last : ℕ) → cond b (first + last + 1) (first + last) ≡ first + (last + cond b 1 0)
last_more true first last = omega arith
last_more false first last = omega arith

abbrev IsMore : Counts → Counts → ℕ → Type 0
IsMore old new generation = (other : ℕ) → count_at new other ≡ cond (other == generation) (count_at old other + 1) (count_at old other)

abbrev rows_in : PublisherStored → ℕ → ℕ
rows_in t generation = count_by (λ (row : RowKey × PublisherRow). generation == row.1.changed) t.rows

abbrev moves_in : PublisherStored → ℕ → ℕ
moves_in t generation = count_by (λ (move : RowSite × Mapping). generation == move.1.generation) t.mappings

-- the index goes on with a row more
pub row_counted : (old new : Counts) (t : PublisherStored) (key : RowKey) (row : PublisherRow) → IsCounted old t → IsMore old new row.changed → IsCounted new (record t { rows = t.rows ++ (key, row) ∷ [] })
row_counted old new t key row counted more g =
    more g ∙ ap (λ (n : ℕ). cond (g == row.changed) (n + 1) n) (counted g)
    ∙ first_more (g == row.changed) (rows_in t g) (moves_in t g)
    ∙ ap (λ (n : ℕ). n + moves_in t g) (sym (count_push (λ (row : RowKey × PublisherRow). g == row.1.changed) t.rows (key, row)))

-- and with a mapping more
pub move_counted : (old new : Counts) (t : PublisherStored) (place : RowSite) (move : Mapping) → IsCounted old t → IsMore old new move.generation → IsCounted new (record t { mappings = t.mappings ++ (place, move) ∷ [] })
move_counted old new t place move counted more g =
    more g ∙ ap (λ (n : ℕ). cond (g == move.generation) (n + 1) n) (counted g)
    ∙ last_more (g == move.generation) (rows_in t g) (moves_in t g)
    ∙ ap (λ (n : ℕ). rows_in t g + n) (sym (count_push (λ (move : RowSite × Mapping). g == move.1.generation) t.mappings (place, move)))

-- the index of a subscriber goes on with a row more
pub subscriber_row_counted : (old new : Counts) (t : SubscriberStored) (key : RowKey) (row : SubscriberRow) → IsSubscriberCounted old t
    → ((g : ℕ) → t.received < g → count_at new g ≡ count_at old g + times_in g (key, row)) → IsSubscriberCounted new (record t { rows = t.rows ++ (key, row) ∷ [] })
subscriber_row_counted old new t key row counted more g above =
    more g above ∙ ap (λ (n : ℕ). n + times_in g (key, row)) (counted g above) ∙ sym (sum_push (times_in g) t.rows (key, row))
