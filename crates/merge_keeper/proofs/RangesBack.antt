-- Records of table 6 that ascend are those of what is held with their ranges and of their grants.
use Rattle.std.proofs.Common.{◌≡◌, ◌∙◌, ℕ, Bool, true, false, List, [], ◌∷◌, map, refl, sym, ap, arith}
use Rattle.std.specs.List.{AllByRecursion}
use Rattle.std.specs.List.Sorted.{IsStrictlySortedBy}
use Rattle.std.specs.Ordering.{ordering_reverse}
use Rattle.std.specs.BTreeMap.{insert_entry}
use Rattle.std.specs.declared.cmp.Ordering.TheVariants.{Less, Equal, Greater}
use Rattle.merge_table.specs.Edits.{rows_after_all}
use Rattle.merge_ident.specs.declared.grants.Grant.{Grant}
use Rattle.merge_ports.specs.declared.entry.EntryKey.{EntryKey}
use Rattle.merge_ports.specs.Entries.{entry_cmp}
use Rattle.merge_record.specs.declared.ranges.HeldRanges.{HeldRanges}
use Rattle.merge_keeper.specs.Encoded.{puts_of}
use Rattle.merge_keeper.specs.Entries.{grant_key, held_key}
use Rattle.merge_keeper.specs.Start.{begins_before, insert_by_begin}
use Rattle.merge_keeper.specs.declared.publisher_record.PublisherRecord.{PublisherRecord}
use Rattle.merge_keeper.specs.declared.publisher_record.PublisherRecord.TheVariants.{State, Row, Mapped, Closed, Lost, Held, Granted, Subscribed}
use Rattle.merge_keeper.proofs.Back.{key_at, Ascend}
use Rattle.merge_keeper.proofs.Begins.{all_put, put_all, put_step}
use Rattle.merge_keeper.proofs.Follow.{put_past}
use Rattle.merge_keeper.proofs.KeptLemmas.{entry_total}
use Rattle.merge_keeper.proofs.PublisherReads.{entry_of}
use Rattle.merge_keeper.proofs.Ranges.{grants_of, helds_of, insert_greater, insert_less, AreRanges, Pair}

abbrev pub granted : List Pair → List Grant → List Pair
granted es gs = rows_after_all entry_cmp es (puts_of grant_key Granted gs)

-- ---- the order in which grants are put does not matter

-- their keys are not the same
abbrev pub AreOther : Grant → Grant → Type 0
AreOther a b = entry_cmp (grant_key a) (grant_key b) ≡ Equal → Less ≡ Equal

one_put_step : (g x : Grant) (xs : List Grant) (es : List Pair) → AllByRecursion (AreOther g) (x ∷ xs)
    → granted (insert_entry entry_cmp es (grant_key x) (Granted x)) (insert_by_begin xs g) ≡ insert_entry entry_cmp (granted (insert_entry entry_cmp es (grant_key x) (Granted x)) xs) (grant_key g) (Granted g)
    → (b : Bool) → begins_before g x ≡ b → granted es (insert_by_begin (x ∷ xs) g) ≡ insert_entry entry_cmp (granted es (x ∷ xs)) (grant_key g) (Granted g)
one_put_step g x xs es other ih true e = ap (granted es) (put_step g x xs true e) ∙ put_past grant_key Granted (grant_key g) (Granted g) (x ∷ xs) other es
one_put_step g x xs es other ih false e = ap (granted es) (put_step g x xs false e) ∙ ih

one_put : (g : Grant) (gs : List Grant) → AllByRecursion (AreOther g) gs → (es : List Pair) → granted es (insert_by_begin gs g) ≡ insert_entry entry_cmp (granted es gs) (grant_key g) (Granted g)
one_put g [] other es = refl
one_put g (x ∷ xs) other es = one_put_step g x xs es other (one_put g xs other.1 (insert_entry entry_cmp es (grant_key x) (Granted x))) (begins_before g x) refl

-- each has another key than all before it
abbrev pub AllOther : List Grant → List Grant → Type 0
AllOther gs [] = Unit {0}
AllOther gs (x ∷ xs) = AllByRecursion (AreOther x) gs × AllOther (insert_by_begin gs x) xs

all_put_so : (xs gs : List Grant) → AllOther gs xs → (es : List Pair) → granted es (put_all gs xs) ≡ granted (granted es gs) xs
all_put_so [] gs other es = refl
all_put_so (x ∷ xs) gs other es =
    all_put_so xs (insert_by_begin gs x) other.1 es
    ∙ ap (λ (ps : List Pair). granted ps xs) (one_put x gs other.0 es)

-- put one after the other by key, or as they stand by begin
pub put_as_read : (xs : List Grant) → AllOther [] xs → (es : List Pair) → granted es (put_all [] xs) ≡ granted es xs
put_as_read xs other es = all_put_so xs [] other es

-- ---- records that ascend

abbrev pub pair_of : PublisherRecord → Pair
pair_of r = (key_at entry_of r, r)

abbrev pub ranges_pair : ℕ × HeldRanges → Pair
ranges_pair x = (held_key x.0, Held x.0 x.1)

-- all keys are above one
abbrev AreAbove : {X : Type 0} → EntryKey → (X → EntryKey) → List X → Type 0
AreAbove k key xs = AllByRecursion (λ x. entry_cmp k (key x) ≡ Less) xs

flipped : (k l : EntryKey) → entry_cmp k l ≡ Less → entry_cmp l k ≡ Greater
flipped k l e = entry_total.antisymm l k ∙ ap ordering_reverse e

first_stays : (k : EntryKey) (v : PublisherRecord) (gs : List Grant) → AreAbove k grant_key gs → (es : List Pair) → granted ((k, v) ∷ es) gs ≡ (k, v) ∷ granted es gs
first_stays k v [] above es = refl
first_stays k v (g ∷ gs) above es =
    ap (λ (ps : List Pair). granted ps gs) (insert_greater entry_cmp (grant_key g) (Granted g) (k, v) es (flipped k (grant_key g) above.0))
    ∙ first_stays k v gs above.1 (insert_entry entry_cmp es (grant_key g) (Granted g))

in_front : (k : EntryKey) (v : PublisherRecord) (xs : List (ℕ × HeldRanges)) → AreAbove k (λ x. held_key x.0) xs → insert_entry entry_cmp (map ranges_pair xs) k v ≡ (k, v) ∷ map ranges_pair xs
in_front k v [] above = refl
in_front k v (x ∷ xs) above = insert_less entry_cmp k v (ranges_pair x) (map ranges_pair xs) above.0

helds_above : (k : EntryKey) (rs : List PublisherRecord) → AreRanges rs → AllByRecursion (λ other. entry_cmp k other ≡ Less) (map (key_at entry_of) rs) → AreAbove k (λ (x : ℕ × HeldRanges). held_key x.0) (helds_of rs)
helds_above k [] h up = tt
helds_above k (State front ∷ rs) h up = helds_above k rs h.1 up.1
helds_above k (Row key row ∷ rs) h up = helds_above k rs h.1 up.1
helds_above k (Mapped place mapping ∷ rs) h up = helds_above k rs h.1 up.1
helds_above k (Closed c ∷ rs) h up = helds_above k rs h.1 up.1
helds_above k (Lost row ∷ rs) h up = helds_above k rs h.1 up.1
helds_above k (Held article held ∷ rs) h up = (up.0, helds_above k rs h.1 up.1)
helds_above k (Granted grant ∷ rs) h up = helds_above k rs h.1 up.1
helds_above k (Subscribed site state ∷ rs) h up = helds_above k rs h.1 up.1

grants_above : (k : EntryKey) (rs : List PublisherRecord) → AllByRecursion (λ other. entry_cmp k other ≡ Less) (map (key_at entry_of) rs) → AreAbove k grant_key (grants_of rs)
grants_above k [] up = tt
grants_above k (State front ∷ rs) up = grants_above k rs up.1
grants_above k (Row key row ∷ rs) up = grants_above k rs up.1
grants_above k (Mapped place mapping ∷ rs) up = grants_above k rs up.1
grants_above k (Closed c ∷ rs) up = grants_above k rs up.1
grants_above k (Lost row ∷ rs) up = grants_above k rs up.1
grants_above k (Held article held ∷ rs) up = grants_above k rs up.1
grants_above k (Granted grant ∷ rs) up = (up.0, grants_above k rs up.1)
grants_above k (Subscribed site state ∷ rs) up = grants_above k rs up.1

pub merged : (rs : List PublisherRecord) → AreRanges rs → Ascend entry_of rs → granted (map ranges_pair (helds_of rs)) (grants_of rs) ≡ map pair_of rs
unfolding IsStrictlySortedBy
merged [] h up = refl
merged (State front ∷ rs) h up = absurd (omega (arith, h.0))
merged (Row key row ∷ rs) h up = absurd (omega (arith, h.0))
merged (Mapped place mapping ∷ rs) h up = absurd (omega (arith, h.0))
merged (Closed c ∷ rs) h up = absurd (omega (arith, h.0))
merged (Lost row ∷ rs) h up = absurd (omega (arith, h.0))
merged (Held article held ∷ rs) h up =
    first_stays (held_key article) (Held article held) (grants_of rs) (grants_above (held_key article) rs up.0) (map ranges_pair (helds_of rs))
    ∙ ap (λ (ps : List Pair). pair_of (Held article held) ∷ ps) (merged rs h.1 up.1)
merged (Granted grant ∷ rs) h up =
    ap (λ (ps : List Pair). granted ps (grants_of rs)) (in_front (grant_key grant) (Granted grant) (helds_of rs) (helds_above (grant_key grant) rs h.1 up.0))
    ∙ first_stays (grant_key grant) (Granted grant) (grants_of rs) (grants_above (grant_key grant) rs up.0) (map ranges_pair (helds_of rs))
    ∙ ap (λ (ps : List Pair). pair_of (Granted grant) ∷ ps) (merged rs h.1 up.1)
merged (Subscribed site state ∷ rs) h up = absurd (omega (arith, h.0))

-- what is held ascends by article
pub helds_ascend : (rs : List PublisherRecord) → AreRanges rs → Ascend entry_of rs → IsStrictlySortedBy entry_cmp (map (λ (x : ℕ × HeldRanges). held_key x.0) (helds_of rs))
unfolding IsStrictlySortedBy
helds_ascend [] h up = tt
helds_ascend (State front ∷ rs) h up = helds_ascend rs h.1 up.1
helds_ascend (Row key row ∷ rs) h up = helds_ascend rs h.1 up.1
helds_ascend (Mapped place mapping ∷ rs) h up = helds_ascend rs h.1 up.1
helds_ascend (Closed c ∷ rs) h up = helds_ascend rs h.1 up.1
helds_ascend (Lost row ∷ rs) h up = helds_ascend rs h.1 up.1
helds_ascend (Held article held ∷ rs) h up = (over (held_key article) (helds_of rs) (helds_above (held_key article) rs h.1 up.0), helds_ascend rs h.1 up.1)
  where
    over : (k : EntryKey) (xs : List (ℕ × HeldRanges)) → AreAbove k (λ (x : ℕ × HeldRanges). held_key x.0) xs → AllByRecursion (λ other. entry_cmp k other ≡ Less) (map (λ (x : ℕ × HeldRanges). held_key x.0) xs)
    over k [] h = tt
    over k (x ∷ xs) h = (h.0, over k xs h.1)
helds_ascend (Granted grant ∷ rs) h up = helds_ascend rs h.1 up.1
helds_ascend (Subscribed site state ∷ rs) h up = helds_ascend rs h.1 up.1

-- and grants have other keys than those before them
others_behind : (x : Grant) (xs gs : List Grant) → AreAbove (grant_key x) grant_key xs → AllByRecursion (λ y. AllByRecursion (AreOther y) gs) xs → AllByRecursion (λ y. AllByRecursion (AreOther y) (insert_by_begin gs x)) xs
others_behind x [] gs above h = tt
others_behind x (y ∷ ys) gs above h = (all_put (AreOther y) x gs (λ e. absurd (no (sym (flipped (grant_key x) (grant_key y) above.0) ∙ e))) h.0, others_behind x ys gs above.1 h.1)
  where
    no : Greater ≡ Equal → ⊥
    no e = cc

pub others : (rs : List PublisherRecord) → Ascend entry_of rs → (gs : List Grant) → AllByRecursion (λ y. AllByRecursion (AreOther y) gs) (grants_of rs) → AllOther gs (grants_of rs)
unfolding IsStrictlySortedBy
others [] up gs h = tt
others (State front ∷ rs) up gs h = others rs up.1 gs h
others (Row key row ∷ rs) up gs h = others rs up.1 gs h
others (Mapped place mapping ∷ rs) up gs h = others rs up.1 gs h
others (Closed c ∷ rs) up gs h = others rs up.1 gs h
others (Lost row ∷ rs) up gs h = others rs up.1 gs h
others (Held article held ∷ rs) up gs h = others rs up.1 gs h
others (Granted grant ∷ rs) up gs h = (h.0, others rs up.1 (insert_by_begin gs grant) (others_behind grant (grants_of rs) gs (grants_above (grant_key grant) rs up.0) h.1))
others (Subscribed site state ∷ rs) up gs h = others rs up.1 gs h

pub others_none : (rs : List PublisherRecord) → Ascend entry_of rs → AllOther [] (grants_of rs)
others_none rs up = others rs up [] (nothing (grants_of rs))
  where
    nothing : (gs : List Grant) → AllByRecursion (λ y. AllByRecursion (AreOther y) []) gs
    nothing [] = tt
    nothing (g ∷ gs) = (tt, nothing gs)
