-- Words that are joined at once, and one by one.
use Rattle.std.proofs.Common.{◌≡◌, ◌++◌, ◌∷◌, List, ℕ, [], arith, refl, sym, ap, ◌∙◌, map, drop, codes, decimal, append_assoc, append-nil}
use Rattle.std.specs.List.{flat_map}
use Rattle.std.proofs.lemmas.Grind.{common_steps, flat_map-append}
use Rattle.std.proofs.lemmas.List.Folds.{flat_map-map}
use Rattle.merge_types.specs.Literal.{printed}
use Rattle.merge_types.specs.declared.values.Value.{Value}
use Rattle.merge_units.specs.declared.version.Cell.{Cell}
use Rattle.merge_conflict.specs.declared.row.ConflictRow.{ConflictRow}
use Rattle.merge_batch.specs.declared.refusal.Refusal.{Refusal}
use Rattle.merge_batch.specs.declared.refusal.Refusal.TheVariants.{UnknownSite, Expired, Stale, Gap, BadBatch, WrongWatermark, StoreFault, NoRow, WrongType, RowTooLong, IdentityUsedUp, TooManyRows, IdentityColumn, Damaged, Joining, CounterEnd, NotJoined, UnknownName, NoMemory}
use Rattle.merge_types.specs.Rows.{row_text}
use Rattle.merge_units.specs.declared.version.Body.TheVariants.{Live}
use Rattle.merge_model.specs.declared.answer.ShownRow.{ShownRow}
use Rattle.merge_model.specs.Script.Text.{Names, body_words, cell_words, conflict_line, joined_words, refusal_words, row_line}
use Rattle.merge_report.specs.Words.{cells_text, first_word, lost_words, reason_words, spaced_words, spaced_word, value_word}

-- the first word, and a blank before each other one
pub joined_spaced : (word : List ℕ) (more : List (List ℕ)) → joined_words (word ∷ more) ≡ word ++ spaced_words more
joined_spaced word [] = sym (append-nil word)
joined_spaced word (next ∷ more) = ap (λ (rest : List ℕ). word ++ 32 ∷ rest) (joined_spaced next more)

pub spaced_values : (values : List Value) → spaced_words (map printed values) ≡ flat_map value_word values
spaced_values values = flat_map-map spaced_word printed values

pub spaced_cells : (cells : List Cell) → spaced_words (flat_map cell_words cells) ≡ cells_text cells
spaced_cells [] = refl
spaced_cells (cell ∷ cells) = grind (arith, common_steps, flat_map-append spaced_word (cell_words cell) (flat_map cell_words cells), spaced_values cell.values, spaced_cells cells)

-- a refusal has a first word
pub words_of_refusal : (column : ℕ → List ℕ) (refusal : Refusal) → refusal_words column refusal ≡ first_word (refusal_words column refusal) ∷ drop 1 (refusal_words column refusal)
words_of_refusal column (UnknownSite site) = refl
words_of_refusal column (Expired last_sync now) = refl
words_of_refusal column (Stale seq joined_at) = refl
words_of_refusal column (Gap from received) = refl
words_of_refusal column (BadBatch item rule) = refl
words_of_refusal column (WrongWatermark from last) = refl
words_of_refusal column StoreFault = refl
words_of_refusal column NoRow = refl
words_of_refusal column (WrongType place) = refl
words_of_refusal column (RowTooLong length) = refl
words_of_refusal column (IdentityUsedUp end) = refl
words_of_refusal column (TooManyRows count) = refl
words_of_refusal column (IdentityColumn place) = refl
words_of_refusal column (Damaged table key) = refl
words_of_refusal column Joining = refl
words_of_refusal column (CounterEnd value) = refl
words_of_refusal column NotJoined = refl
words_of_refusal column (UnknownName name) = refl
words_of_refusal column NoMemory = refl

-- the line of a refusal, by its first word and its fields
pub joined_refusal : (column : ℕ → List ℕ) (refusal : Refusal) → joined_words (refusal_words column refusal) ≡ first_word (refusal_words column refusal) ++ spaced_words (drop 1 (refusal_words column refusal))
joined_refusal column refusal = ap joined_words (words_of_refusal column refusal) ∙ joined_spaced (first_word (refusal_words column refusal)) (drop 1 (refusal_words column refusal))

-- words before a refusal
pub joined_before : (column : ℕ → List ℕ) (refusal : Refusal) (word : List ℕ) → joined_words (word ∷ refusal_words column refusal) ≡ word ++ 32 ∷ joined_words (refusal_words column refusal)
joined_before column refusal word = ap (λ (words : List (List ℕ)). joined_words (word ∷ words)) (words_of_refusal column refusal) ∙ sym (ap (λ (words : List (List ℕ)). word ++ 32 ∷ joined_words words) (words_of_refusal column refusal))

-- Texts that are added one behind the other.

pub two_added : (old one two : List ℕ) {first second all : List ℕ} → first ≡ old ++ one → second ≡ first ++ two → all ≡ one ++ two → second ≡ old ++ all
two_added old one two a b whole = b ∙ (ap (λ (text : List ℕ). text ++ two) a ∙ (append_assoc old one two ∙ ap (λ (more : List ℕ). old ++ more) (sym whole)))

pub three_added : (old one two three : List ℕ) {first second third all : List ℕ} → first ≡ old ++ one → second ≡ first ++ two → third ≡ second ++ three → all ≡ one ++ (two ++ three) → third ≡ old ++ all
three_added old one two three a b c whole = two_added old (one ++ two) three (two_added old one two a b refl) c (whole ∙ sym (append_assoc one two three))

-- Lines.

pub line_of_row : (row : ShownRow) → row_line row ≡ row_text row.row.0 ++ (flat_map value_word row.values ++ 10 ∷ [])
line_of_row row = ap (λ (words : List ℕ). words ++ 10 ∷ []) (joined_spaced (row_text row.row.0) (map printed row.values) ∙ ap (λ (rest : List ℕ). row_text row.row.0 ++ rest) (spaced_values row.values)) ∙ append_assoc (row_text row.row.0) (flat_map value_word row.values) (10 ∷ [])

pub words_of_live : (cells : List Cell) → spaced_words (body_words (Live cells)) ≡ codes " live" ++ cells_text cells
words_of_live cells = ap (λ (rest : List ℕ). codes " live" ++ rest) (spaced_cells cells)

pub line_of_conflict : (names : Names) (row : ConflictRow) → conflict_line names row ≡ (joined_words (lost_words names row) ++ spaced_words (reason_words row)) ++ (spaced_words (body_words row.losing.body) ++ 10 ∷ [])
line_of_conflict names row =
    let more : List (List ℕ) = names.article row.article ∷ row_text row.row.0 ∷ (reason_words row ++ body_words row.losing.body) in
    let joins : joined_words (decimal row.number ∷ more) ≡ decimal row.number ++ spaced_words more = joined_spaced (decimal row.number) more in
    let apart : decimal row.number ++ spaced_words more ≡ (joined_words (lost_words names row) ++ spaced_words (reason_words row)) ++ spaced_words (body_words row.losing.body) = simp append_assoc refl in
    ap (λ (words : List ℕ). words ++ 10 ∷ []) (joins ∙ apart) ∙ append_assoc (joined_words (lost_words names row) ++ spaced_words (reason_words row)) (spaced_words (body_words row.losing.body)) (10 ∷ [])
