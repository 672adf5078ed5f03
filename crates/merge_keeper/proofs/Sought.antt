-- What a start seeks behind the state: the number of the last conflict.
use Rattle.std.proofs.Common.{◌≡◌, ◌∙◌, ℕ, ◌+◌, ◌^◌, ◌<◌, ◌≤◌, ◌==◌, ◌&&◌, nat_le, true, List, [], ◌∷◌, ◌++◌, length, map, Option, None, unwrap_or, refl, sym, ap, subst, arith}
use Rattle.std.specs.List.{AllByRecursion}
use Rattle.std.specs.Int.{w64, to_be_bytes}
use Rattle.std.proofs.lemmas.Bool.Decides.{nat_tests}
use Rattle.std.proofs.lemmas.List.{length-append}
use Rattle.merge_conflict.specs.declared.row.ConflictRow.{ConflictRow}
use Rattle.merge_schema.specs.declared.publication.Publication.{Publication}
use Rattle.merge_batch.specs.Lineages.{is_site}
use Rattle.merge_ports.specs.declared.entry.EntryKey.{EntryKey}
use Rattle.merge_ports.specs.Entries.{Map}
use Rattle.merge_record.specs.Codec.{IsBelow}
use Rattle.merge_record.specs.Reading.{number_at}
use Rattle.merge_keeper.specs.Entries.{conflict_key, conflict_value}
use Rattle.merge_keeper.specs.Start.{conflict_is_sound, last_conflict_behind, number_in, version_is_sound, KeepOneByOne}
use Rattle.merge_keeper.specs.SubscriberRules.{Numbered}
use Rattle.merge_keeper.proofs.Fronts.{and_first}
use Rattle.merge_keeper.proofs.Readings.{again, num64}

abbrev pub conflict_entry : ConflictRow → EntryKey × List ℕ
conflict_entry row = (conflict_key row.number, conflict_value row.number row)

pub last_skips : {X : Type 0} (entry : X → EntryKey × List ℕ) → ((x : X) → number_in (entry x).0 ≡ None) → (last : ℕ) (xs : List X) (rest : Map) → last_conflict_behind last (map entry xs ++ rest) ≡ last_conflict_behind last rest
last_skips entry none last [] rest = refl
last_skips entry none last (x ∷ xs) rest =
    ap (λ (o : Option ℕ). last_conflict_behind (unwrap_or o last) (map entry xs ++ rest)) (none x) ∙ last_skips entry none last xs rest

-- a row of the conflict table has its number in its key
one_last : (last : ℕ) (row : ConflictRow) (rest : Map) → row.number < 2 ^ 64 → last_conflict_behind last (conflict_entry row ∷ rest) ≡ last_conflict_behind row.number rest
one_last last row rest fits = ap (λ (o : Option ℕ). last_conflict_behind (unwrap_or o last) rest) (again (to_be_bytes w64) (number_at w64) (IsBelow (2 ^ 64)) num64 row.number fits)

pub last_is : (counter last : ℕ) (rows : List ConflictRow) (rest : Map) → AllByRecursion (λ row. row.number < 2 ^ 64) rows → Numbered counter last rows → last_conflict_behind last (map conflict_entry rows ++ rest) ≡ last_conflict_behind counter rest
last_is counter last [] rest fits h = ap (λ (n : ℕ). last_conflict_behind n rest) h
last_is counter last (row ∷ rows) rest fits h =
    one_last last row (map conflict_entry rows ++ rest) fits.0
    ∙ ap (λ (n : ℕ). last_conflict_behind n (map conflict_entry rows ++ rest)) h.0
    ∙ last_is counter (last + 1) rows rest fits.1 h.1

-- rows that keep the rules one behind the other are numbered up to the counter, where the last number is at least the counter
numbers_of : (publication : Publication) (before counter : ℕ) (row : ConflictRow) → conflict_is_sound publication before counter row ≡ true → (row.number ≡ before + 1) × (row.number ≤ counter)
unfolding conflict_is_sound
numbers_of publication before counter row h =
    let a = and_first (((row.number == before + 1) && nat_le row.number counter) && is_site publication row.from.0) (version_is_sound publication row.article row.losing) h in
    let b = and_first ((row.number == before + 1) && nat_le row.number counter) (is_site publication row.from.0) a in
    (grind (arith, nat_tests, b), grind (arith, nat_tests, b))

pub numbered_found : (publication : Publication) (counter : ℕ) (front rows : List ConflictRow)
    → KeepOneByOne (λ front row. (row.number < 2 ^ 64) × (conflict_is_sound publication (length front) counter row ≡ true)) front rows
    → length front ≤ counter → counter ≤ last_conflict_behind (length front) (map conflict_entry rows) → Numbered counter (length front) rows
numbered_found publication counter front [] h within most = omega (arith, within, most)
numbered_found publication counter front (row ∷ rows) h within most =
    let n = numbers_of publication (length front) counter row h.0.1 in
    let more : length (front ++ row ∷ []) ≡ length front + 1 = length-append front (row ∷ []) in
    let next : counter ≤ last_conflict_behind (length (front ++ row ∷ [])) (map conflict_entry rows)
    = subst (λ (n : ℕ). counter ≤ n) (one_last (length front) row (map conflict_entry rows) h.0.0 ∙ ap (λ (n : ℕ). last_conflict_behind n (map conflict_entry rows)) (n.0 ∙ sym more)) most in
    (n.0, subst (λ (k : ℕ). Numbered counter k rows) more (numbered_found publication counter (front ++ row ∷ []) rows h.1 (omega (arith, more, n.0, n.1)) next))

pub last_append : (last : ℕ) (front rest : Map) → last_conflict_behind last (front ++ rest) ≡ last_conflict_behind (last_conflict_behind last front) rest
last_append last [] rest = refl
last_append last (e ∷ front) rest = last_append (unwrap_or (number_in e.0) last) front rest

pub last_none : (last : ℕ) (es : Map) → AllByRecursion (λ (e : EntryKey × List ℕ). number_in e.0 ≡ None) es → last_conflict_behind last es ≡ last
last_none last [] h = refl
last_none last (e ∷ es) h = ap (λ (o : Option ℕ). last_conflict_behind (unwrap_or o last) es) h.0 ∙ last_none last es h.1
