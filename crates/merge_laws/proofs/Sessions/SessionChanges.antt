-- That nothing is unsent says of each change of the site that it stands in no generation above the one that the site takes for received.
use Rattle.std.specs.Prelude.{◌≡◌, ◌≤◌, ◌-◌, ◌+◌, ℕ, List, [], ◌∷◌, Bool, true, false, cond, filter, refl}
use Rattle.std.specs.List.{AllByRecursion, fold}
use Rattle.std.specs.Ordering.{match_ordering}
use Rattle.std.specs.declared.cmp.Ordering.{Ordering}
use Rattle.std.specs.declared.cmp.Ordering.TheVariants.{Equal, Greater, Less}
use Rattle.std.proofs.Common.{arith, ap, subst}
use Rattle.std.proofs.lemmas.Bool.Decides.{nat_tests}
use Rattle.merge_model.specs.Judge.ByHistory.{by_made, is_between_made, with_change_of}
use Rattle.merge_model.specs.History.{History, MadeChange, made_at}
use Rattle.merge_types.specs.RowKeys.{key_cmp}
use Rattle.merge_model.specs.Tables.Keys.{put_row}
use Rattle.merge_model.specs.Subscriber.Sending.{unsent_rows}
use Rattle.merge_model.specs.Subscriber.{subscriber_last_closed}
use Rattle.merge_types.specs.declared.row_key.RowKey.{RowKey as Key}
use Rattle.merge_model.specs.Tables.{SubscriberTables}
use Rattle.merge_laws.specs.Facts.Numbered.{InOrder}
use Rattle.merge_model.proofs.Lists.Finding.{all-weaker}

-- no change stands above a generation
abbrev pub UpTo : ℕ → List MadeChange → Type 0
UpTo generation made = AllByRecursion (λ (c : MadeChange). c.generation ≤ generation) made

pub order-up : (number generation : ℕ) (made : List MadeChange) → InOrder number generation made → UpTo generation made
order-up number generation [] o = tt
order-up number generation (c ∷ made) o =
    let head : c.generation ≤ generation = o.1.1.0 in
    (head, all-weaker (λ (x : MadeChange). x.generation ≤ c.generation) (λ (x : MadeChange). x.generation ≤ generation) (λ x low. omega (arith, low, head)) made (order-up (number - 1) c.generation made o.1.1.1.1))

-- none stands behind one and up to another
abbrev pub NoneBetween : ℕ → ℕ → List MadeChange → Type 0
NoneBetween from to made = AllByRecursion (λ (c : MadeChange). is_between_made from to c ≡ false) made

pub up-none : (bound from to : ℕ) (made : List MadeChange) → bound ≤ from → UpTo bound made → NoneBetween from to made
up-none bound from to made below up = all-weaker (λ (c : MadeChange). c.generation ≤ bound) (λ (c : MadeChange). is_between_made from to c ≡ false) (λ c low. grind (arith, nat_tests, low, below)) made up

pub none-later : (before after to : ℕ) (made : List MadeChange) → before ≤ after → NoneBetween before to made → NoneBetween after to made
none-later before after to made up none = all-weaker (λ (c : MadeChange). is_between_made before to c ≡ false) (λ (c : MadeChange). is_between_made after to c ≡ false) (λ c out. grind (arith, nat_tests, out, up)) made none

-- A list of changed rows is empty where it has no changes alone.
abbrev HasSome : {X : Type 0} → List X → Type 0
HasSome [] = ⊥
HasSome (x ∷ xs) = Unit {0}

placed-some : (o : Ordering) (less equal greater : List (Key × ℕ)) → HasSome less → HasSome equal → HasSome greater → HasSome (match_ordering o less equal greater)
placed-some Less less equal greater a b c = a
placed-some Equal less equal greater a b c = b
placed-some Greater less equal greater a b c = c

put-some : (rows : List (Key × ℕ)) (key : Key) (generation : ℕ) → HasSome (put_row rows key generation)
put-some [] key generation = tt
put-some (row ∷ rows) key generation = placed-some (key_cmp key row.0) _ _ _ tt tt tt

changed-some : (rows : List (Key × ℕ)) (changes : List MadeChange) → HasSome rows → HasSome (fold with_change_of rows changes)
changed-some rows [] some = some
changed-some rows (c ∷ changes) some = changed-some (with_change_of rows c) changes (put-some rows c.key _)

none-changed : (changes : List MadeChange) → fold with_change_of [] changes ≡ [] → changes ≡ []
none-changed [] none = refl
none-changed (c ∷ changes) none = absurd (subst (λ (rows : List (Key × ℕ)). HasSome rows) none (changed-some (with_change_of [] c) changes tt))

kept-none : (b : Bool) (c : MadeChange) (kept : List MadeChange) → cond b (c ∷ kept) kept ≡ [] → (b ≡ false) × (kept ≡ [])
kept-none true c kept none = absurd (grind (arith, none))
kept-none false c kept none = (refl, none)

none-kept : (b : Bool) (c : MadeChange) (kept : List MadeChange) → b ≡ false → kept ≡ [] → cond b (c ∷ kept) kept ≡ []
none-kept true c kept out none = absurd (grind (arith, out))
none-kept false c kept out none = none

filtered-none : (from to : ℕ) (made : List MadeChange) → filter (is_between_made from to) made ≡ [] → NoneBetween from to made
filtered-none from to [] none = tt
filtered-none from to (c ∷ made) none =
    let both = kept-none (is_between_made from to c) c (filter (is_between_made from to) made) none in
    (both.0, filtered-none from to made both.1)

none-filtered : (from to : ℕ) (made : List MadeChange) → NoneBetween from to made → filter (is_between_made from to) made ≡ []
none-filtered from to [] none = refl
none-filtered from to (c ∷ made) none = none-kept (is_between_made from to c) c (filter (is_between_made from to) made) none.0 (none-filtered from to made none.1)

-- of a site
pub nothing-none : (h : History) (s : SubscriberTables) → unsent_rows (by_made h s.site) s ≡ [] → NoneBetween s.received (subscriber_last_closed s + 1) (made_at h s.site.0)
nothing-none h s nothing = filtered-none s.received (subscriber_last_closed s + 1) (made_at h s.site.0) (none-changed (filter (is_between_made s.received (subscriber_last_closed s + 1)) (made_at h s.site.0)) nothing)

pub none-nothing : (h : History) (s : SubscriberTables) → NoneBetween s.received (subscriber_last_closed s + 1) (made_at h s.site.0) → unsent_rows (by_made h s.site) s ≡ []
none-nothing h s none = ap (λ (changes : List MadeChange). fold with_change_of [] changes) (none-filtered s.received (subscriber_last_closed s + 1) (made_at h s.site.0) none)
