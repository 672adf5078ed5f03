-- Lists after the changes of a step.
use Rattle.std.proofs.Common.{◌≡◌, ◌∙◌, ℕ, zero, suc, ◌<◌, Bool, true, false, List, [], ◌∷◌, ◌++◌, length, map, filter, nat_lt, refl, sym, ap, subst, append_assoc, arith}
use Rattle.std.specs.declared.option.Option.{Option}
use Rattle.std.specs.declared.option.Option.TheVariants.{None, Some}
use Rattle.std.specs.declared.cmp.Ordering.TheVariants.{Less}
use Rattle.std.specs.Cmp.{nat_cmp_is}
use Rattle.std.specs.List.{AllByRecursion, AllPairs}
use Rattle.std.specs.List.Sorted.{IsStrictlySortedBy}
use Rattle.std.specs.Map.{keys_of}
use Rattle.std.specs.Ordering.{nat_cmp}
use Rattle.std.specs.Prelude.{slice_index_or}
use Rattle.std.proofs.lemmas.Cmp.{nat_cmp_total}
use Rattle.std.proofs.lemmas.List.{append-nil, map-append}
use Rattle.merge_types.specs.declared.identifiers.Moment.{Moment}
use Rattle.merge_table.specs.Edits.{rows_after, rows_after_all, takes_of}
use Rattle.merge_table.specs.declared.edit.Edit.{Edit}
use Rattle.merge_table.specs.declared.edit.Edit.TheVariants.{Take}
use Rattle.merge_table.proofs.Takes.{filter_is_takes, insert_last}
use Rattle.merge_gens.specs.Book.{Book, IsSound, forgotten_if_any}
use Rattle.merge_gens.specs.Plan.{book_after_plan}
use Rattle.merge_gens.specs.declared.closings.Closing.{Closing}
use Rattle.merge_gens.specs.declared.plan.GenerationPlan.{GenerationPlan}
use Rattle.merge_conflict.specs.Rising.{AreRising, RiseAbove}
use Rattle.merge_conflict.specs.declared.row.ConflictRow.{ConflictRow}
use Rattle.merge_keeper.specs.Entries.{closing_of, closing_pair, conflict_of, conflict_pair}
use Rattle.merge_keeper.specs.Stored.{closings_after, conflicts_after}
use Rattle.merge_site.specs.Lists.{book_left, closing_changes, closing_put, closing_takes_by, conflict_put, pair_put, stays, up_to}
use Rattle.merge_site.specs.declared.lists.Forgets.{Forgets}
use Rattle.merge_site.specs.declared.lists.Forgets.TheVariants.{Before, UpTo}

map_twice : {A B C : Type 0} (f : A → B) (g : B → C) (xs : List A) → map (λ x. g (f x)) xs ≡ map g (map f xs)
map_twice f g [] = refl
map_twice f g (x ∷ xs) = ap (λ l. g (f x) ∷ l) (map_twice f g xs)

-- changes, and then others
pub after_both : {V : Type 0} (a b : List (Edit ℕ V)) (es : List (ℕ × V)) → rows_after_all nat_cmp es (a ++ b) ≡ rows_after_all nat_cmp (rows_after_all nat_cmp es a) b
after_both [] b es = refl
after_both (e ∷ a) b es = after_both a b (rows_after nat_cmp es e)

-- entries whose numbers are above all that are there come behind them
puts_behind : {V : Type 0} (es news : List (ℕ × V)) → IsStrictlySortedBy nat_cmp (keys_of (es ++ news)) → rows_after_all nat_cmp es (map pair_put news) ≡ es ++ news
puts_behind es [] s = sym (append-nil es)
puts_behind {V = V} es (n ∷ news) s =
    ap (λ (l : List (ℕ × V)). rows_after_all nat_cmp l (map pair_put news)) (insert_last nat_cmp nat_cmp_total es n.0 n.1 news s)
    ∙ puts_behind (es ++ n ∷ []) news (subst (λ (l : List (ℕ × V)). IsStrictlySortedBy nat_cmp (keys_of l)) (sym (append_assoc es (n ∷ []) news)) s)
    ∙ append_assoc es (n ∷ []) news

-- so do members of a list that hold their numbers
members_behind : {X V : Type 0} (pair : X → ℕ × V) (xs news : List X) → IsStrictlySortedBy nat_cmp (keys_of (map pair (xs ++ news))) → rows_after_all nat_cmp (map pair xs) (map (λ x. pair_put (pair x)) news) ≡ map pair (xs ++ news)
members_behind {X = X} {V = V} pair xs news s =
    ap (rows_after_all nat_cmp (map pair xs)) (map_twice pair pair_put news)
    ∙ puts_behind (map pair xs) (map pair news) (subst (λ (l : List (ℕ × V)). IsStrictlySortedBy nat_cmp (keys_of l)) (map-append pair xs news) s)
    ∙ sym (map-append pair xs news)

-- ---- closed generations

generations_above : (g : ℕ) (cs : List Closing) → ((j : ℕ) (d : Closing) → j < length cs → let c = slice_index_or cs j d in g < c.generation) → AllByRecursion (λ k. nat_cmp g k ≡ Less) (keys_of (map closing_pair cs))
generations_above g [] h = tt
generations_above g (c ∷ cs) h = (sym (nat_cmp_is g c.generation Less (h zero c (omega arith))), generations_above g cs (λ j d lt. h (suc j) d (omega arith)))

sorted_closings : (cs : List Closing) → AllPairs (λ (a b : Closing). a.generation < b.generation) cs → IsStrictlySortedBy nat_cmp (keys_of (map closing_pair cs))
unfolding IsStrictlySortedBy
sorted_closings [] h = tt
sorted_closings (c ∷ cs) h =
    (generations_above c.generation cs (λ j d lt. h zero (suc j) d (omega arith) (omega arith)), sorted_closings cs (λ i j d lt len. h (suc i) (suc j) d (omega arith) (omega arith)))

takes_step : {V : Type 0} (keep : ℕ × V → Bool) (x : ℕ × V) (xs ys : List (ℕ × V)) → takes_of keep (xs ++ ys) ≡ takes_of keep xs ++ takes_of keep ys → (b : Bool) → keep x ≡ b
    → takes_of keep (x ∷ (xs ++ ys)) ≡ takes_of keep (x ∷ xs) ++ takes_of keep ys
takes_step keep x xs ys ih true e = rw e ih
takes_step {V = V} keep x xs ys ih false e = rw e (ap (λ (l : List (Edit ℕ V)). Take x.0 ∷ l) ih)

takes_join : {V : Type 0} (keep : ℕ × V → Bool) (xs ys : List (ℕ × V)) → takes_of keep (xs ++ ys) ≡ takes_of keep xs ++ takes_of keep ys
takes_join keep [] ys = refl
takes_join keep (x ∷ xs) ys = takes_step keep x xs ys (takes_join keep xs ys) (keep x) refl

left_step : (p : ℕ × Moment → Bool) (c : Closing) (cs : List Closing) → map closing_of (filter p (map closing_pair cs)) ≡ filter (λ (c : Closing). p (closing_pair c)) cs → (b : Bool) → p (closing_pair c) ≡ b
    → map closing_of (filter p (map closing_pair (c ∷ cs))) ≡ filter (λ (c : Closing). p (closing_pair c)) (c ∷ cs)
left_step p c cs ih true e = rw e (ap (λ l. c ∷ l) ih)
left_step p c cs ih false e = rw e ih

closings_left : (p : ℕ × Moment → Bool) (cs : List Closing) → map closing_of (filter p (map closing_pair cs)) ≡ filter (λ (c : Closing). p (closing_pair c)) cs
closings_left p [] = refl
closings_left p (c ∷ cs) = left_step p c cs (closings_left p cs) (p (closing_pair c)) refl

closings_back : (cs : List Closing) → map closing_of (map closing_pair cs) ≡ cs
closings_back [] = refl
closings_back (c ∷ cs) = ap (λ l. c ∷ l) (closings_back cs)

abbrev left_after : List (ℕ × Moment) → List (Edit ℕ Moment) → List Closing
left_after es edits = map closing_of (rows_after_all nat_cmp es edits)

in_turn : (kept : List Closing) (a b c : List (Edit ℕ Moment)) → closings_after kept (a ++ b ++ c) ≡ left_after (rows_after_all nat_cmp (map closing_pair kept) a) (b ++ c)
in_turn kept a b c =
    ap (map closing_of)
    (after_both (a ++ b) c (map closing_pair kept) ∙ ap (λ (l : List (ℕ × Moment)). rows_after_all nat_cmp l c) (after_both a b (map closing_pair kept)) ∙ sym (after_both b c (rows_after_all nat_cmp (map closing_pair kept) a)))

forgotten_by : (forgets : Forgets) (kept closed : List Closing) → IsStrictlySortedBy nat_cmp (keys_of (map closing_pair (kept ++ closed)))
    → left_after (map closing_pair (kept ++ closed)) (closing_takes_by forgets kept ++ closing_takes_by forgets closed) ≡ filter (λ (c : Closing). stays forgets (closing_pair c)) (kept ++ closed)
forgotten_by forgets kept closed s =
    ap (left_after (map closing_pair (kept ++ closed))) (sym (takes_join (stays forgets) (map closing_pair kept) (map closing_pair closed)) ∙ ap (takes_of (stays forgets)) (sym (map-append closing_pair kept closed)))
    ∙ ap (map closing_of) (filter_is_takes nat_cmp nat_cmp_total (stays forgets) (map closing_pair (kept ++ closed)) s)
    ∙ closings_left (stays forgets) (kept ++ closed)

book_stays : (book : Book) (forgets : Forgets) → filter (λ (c : Closing). stays forgets (closing_pair c)) book.closings ≡ (book_left book (Some forgets)).closings
book_stays book (UpTo generation) = refl
book_stays book (Before cutoff) = refl

-- the generations that are kept after a plan, and without those that are forgotten
pub closings-changed : (book : Book) (plan : GenerationPlan) (forgets : Option Forgets) → IsSound (book_after_plan book plan) → closings_after book.closings (closing_changes book.closings plan.closings forgets) ≡ (book_left (book_after_plan book plan) forgets).closings
closings-changed book plan None sound =
    in_turn book.closings (map closing_put plan.closings) [] []
    ∙ ap (map closing_of) (members_behind closing_pair book.closings plan.closings (sorted_closings (book.closings ++ plan.closings) sound.ascending))
    ∙ closings_back (book.closings ++ plan.closings)
closings-changed book plan (Some forgets) sound =
    let sorted = sorted_closings (book.closings ++ plan.closings) sound.ascending in
    in_turn book.closings (map closing_put plan.closings) (closing_takes_by forgets book.closings) (closing_takes_by forgets plan.closings)
    ∙ ap (λ (l : List (ℕ × Moment)). left_after l (closing_takes_by forgets book.closings ++ closing_takes_by forgets plan.closings)) (members_behind closing_pair book.closings plan.closings sorted)
    ∙ forgotten_by forgets book.closings plan.closings sorted
    ∙ book_stays (book_after_plan book plan) forgets

pub filling-left : (book : Book) (forgets : Option Forgets) → (book_left book forgets).filling ≡ book.filling
filling-left book None = refl
filling-left book (Some (UpTo generation)) = refl
filling-left book (Some (Before cutoff)) = refl

-- what a subscriber forgets
pub left-up_to : (book : Book) (done : Option ℕ) → book_left book (up_to done) ≡ forgotten_if_any book done
left-up_to book None = refl
left-up_to book (Some generation) = refl

-- ---- rows of the conflict table

rise_from : (m n : ℕ) (rows : List ConflictRow) → m < n → RiseAbove n rows → RiseAbove m rows
rise_from m n [] lt h = tt
rise_from m n (row ∷ rows) lt h = (omega (arith, h.0), h.1)

numbers_above : (n : ℕ) (rows : List ConflictRow) → RiseAbove n rows → AllByRecursion (λ k. nat_cmp n k ≡ Less) (keys_of (map conflict_pair rows))
numbers_above n [] h = tt
numbers_above n (row ∷ rows) h = (sym (nat_cmp_is n row.number Less h.0), numbers_above n rows (rise_from n row.number rows h.0 h.1))

sorted_conflicts : (n : ℕ) (rows : List ConflictRow) → RiseAbove n rows → IsStrictlySortedBy nat_cmp (keys_of (map conflict_pair rows))
unfolding IsStrictlySortedBy
sorted_conflicts n [] h = tt
sorted_conflicts n (row ∷ rows) h = (numbers_above row.number rows h.1, sorted_conflicts row.number rows h.1)

conflicts_back : (rows : List ConflictRow) → map conflict_of (map conflict_pair rows) ≡ rows
conflicts_back [] = refl
conflicts_back (row ∷ rows) = ap (λ l. row ∷ l) (conflicts_back rows)

pub conflicts-changed : (conflicts more : List ConflictRow) → AreRising (conflicts ++ more) → conflicts_after conflicts (map conflict_put more) ≡ conflicts ++ more
conflicts-changed conflicts more rising =
    ap (map conflict_of) (members_behind conflict_pair conflicts more (sorted_conflicts 0 (conflicts ++ more) rising)) ∙ conflicts_back (conflicts ++ more)
