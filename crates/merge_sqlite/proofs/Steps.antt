-- Edits and rows, one more at a time.
use Rattle.std.proofs.Common.{◌≡◌, ◌∙◌, ℕ, suc, ◌+◌, ◌<◌, ◌≤◌, List, [], ◌∷◌, ◌++◌, true, false, length, take, drop, get_or, IsTrue, Result, Ok, Err, inl, inr, refl, sym, ap, subst, subst₂, arith, drop-cons, take-append-drop}
use Rattle.std.specs.Prelude.{All, IfErr, IsErrAnd, IsErrOf, OnOk, fold}
use Rattle.std.proofs.lemmas.List.{take_all, take_more}
use Rattle.std.proofs.lemmas.List.Elements.{All-append, All-cons}
use Rattle.std.proofs.lemmas.List.Sums.{fold-append}
use Rattle.sqlite.specs.Order.{Row}
use Rattle.sqlite.specs.Store.{Ghosts}
use Rattle.sqlite.specs.Tree.{Trees}
use Rattle.sqlite.specs.Held.{Held, state}
use Rattle.sqlite.specs.State.{State, ExecutesInside, HasCleanDisk, KeepsCounts, Shows, Survives}
use Rattle.sqlite.specs.Steps.{FailsToCommit}
use Rattle.sqlite.specs.declared.error.Error.{Error}
use Rattle.sqlite.proofs.StateLemmas.{survives_then}
use Rattle.sqlite.proofs.Callers.{survives_begin}
use Rattle.merge_ports.specs.declared.entry.EntryEdit.{EntryEdit}
use Rattle.merge_sqlite.specs.Causes.{fault_of}
use Rattle.merge_sqlite.specs.Reading.{HasBadRow, IsEntry, IsNoEntry, entries_in, with_row}
use Rattle.merge_sqlite.specs.Writing.{Commits, FailsToWrite, RefusesEdit, RunsEdit, Writes, WritesAll, WritesWithin, statement_for, values_for}
use Rattle.merge_sqlite.specs.declared.keeper.Stop.{Stop}
use Rattle.merge_sqlite.specs.declared.keeper.Stop.TheVariants.{NoMemory, Refused}

-- an edit that is written behind others
pub writes_more : {S : Type 0} (store : Ghosts S) (put_by take_by : List ℕ) (edits : List EntryEdit) (edit : EntryEdit) (old mid new : Held S) → WritesAll store put_by take_by edits old mid → Writes store put_by take_by edit mid new → WritesAll store put_by take_by (edits ++ edit ∷ []) old new
writes_more store put_by take_by [] edit old mid new same written = (new, subst (λ (h : Held _). Writes store put_by take_by edit h new) same written, refl)
writes_more store put_by take_by (first ∷ edits) edit old mid new written last =
    (written.0, written.1, writes_more store put_by take_by edits edit written.0 mid new written.2 last)

one_more : (edits : List EntryEdit) (i : ℕ) (edit : EntryEdit) → i < length edits → edit ≡ get_or edits i edit → take i edits ++ edit ∷ [] ≡ take (i + 1) edits
one_more edits i edit within is = ap (λ (e : EntryEdit). take i edits ++ e ∷ []) is ∙ sym (take_more edits i edit within)

pub writes_next : {S : Type 0} (store : Ghosts S) (put_by take_by : List ℕ) (edits : List EntryEdit) (i : ℕ) (edit : EntryEdit) (old mid new : Held S) → i < length edits → edit ≡ get_or edits i edit → WritesWithin store put_by take_by (take i edits) old mid → Writes store put_by take_by edit mid new → WritesWithin store put_by take_by (take (i + 1) edits) old new
writes_next store put_by take_by edits i edit old mid new within is written last =
    subst (λ (es : List EntryEdit). WritesWithin store put_by take_by es old new) (one_more edits i edit within is) (writes_more store put_by take_by (take i edits) edit (record old { in_transaction = true }) mid new written last)

pub writes_whole : {S : Type 0} (store : Ghosts S) (put_by take_by : List ℕ) (edits : List EntryEdit) (i : ℕ) (old last : Held S) → length edits ≤ i → WritesWithin store put_by take_by (take i edits) old last → WritesWithin store put_by take_by edits old last
writes_whole store put_by take_by edits i old last passed written = subst (λ (es : List EntryEdit). WritesWithin store put_by take_by es old last) (take_all i edits passed) written

-- what a commit made, where it was made
pub committed : {S T : Type 0} (store : Ghosts S) (put_by take_by : List ℕ) (edits : List EntryEdit) (old last new : Held S) (result : Result T Error) → WritesWithin store put_by take_by edits old last
    → OnOk result (IsTrue (state store last).in_transaction × Shows (state store last) (state store new) (state store last).now (state store last).now false × KeepsCounts (state store last) (state store new) × ((state store new).marks ≡ [])) → OnOk result (Commits store put_by take_by edits old new)
committed store put_by take_by edits old last new (Ok done) written ok = (last, written, ok.1)
committed store put_by take_by edits old last new (Err e) written ok = ok

-- why it was not
pub uncommitted : {S T : Type 0} (store : Ghosts S) (put_by take_by : List ℕ) (edits : List EntryEdit) (old last new : Held S) (result : Result T Error) → WritesWithin store put_by take_by edits old last
    → IfErr result (FailsToCommit (state store last) (state store new)) → IfErr result (FailsToWrite store put_by take_by edits old new)
uncommitted store put_by take_by edits old last new (Ok done) written err = tt
uncommitted store put_by take_by edits old last new (Err e) written err = inr (last, written, err)

-- an edit that is refused behind others
pub refuses_next : {S : Type 0} (store : Ghosts S) (put_by take_by : List ℕ) (edits : List EntryEdit) (i : ℕ) (edit : EntryEdit) (old last stopped : Held S) (e : Error) → i < length edits → edit ≡ get_or edits i edit → WritesWithin store put_by take_by (take i edits) old last
    → RunsEdit store put_by take_by edit last stopped (Err e) → RefusesEdit store put_by take_by edits old e
refuses_next store put_by take_by edits i edit old last stopped e within is written refused = record {
  front = take i edits;
  edit = edit;
  behind = drop (suc i) edits;
  parts = sym (take-append-drop i edits) ∙ ap (λ (es : List EntryEdit). take i edits ++ es) (drop-cons edits i edit within ∙ ap (λ (x : EntryEdit). x ∷ drop (suc i) edits) (sym is));
  last = last;
  written = written;
  stopped = stopped;
  refused = refused;
}

-- a statement that was run with the text and the values for an edit
pub ran_as : {S : Type 0} (store : Ghosts S) (put_by take_by : List ℕ) (edit : EntryEdit) (old new : Held S) (result : Result ℕ Error) (statement : List ℕ) (given : Row) → ExecutesInside 0 statement given (state store old) (state store new) result
    → statement ≡ statement_for put_by take_by edit.value → given ≡ values_for edit.table edit.key edit.value → RunsEdit store put_by take_by edit old new result
ran_as store put_by take_by edit old new result statement given ran same_statement same_values =
    subst₂ (λ (s : List ℕ) (values : Row). ExecutesInside 0 s values (state store old) (state store new) result) same_statement same_values ran

-- what a `?` passes up
pub passed_up : {T E : Type 0} (r : Result T E) (e : E) (P : E → Type 0) → IsErrAnd r (λ y. y ≡ e) → P e → IfErr r P
passed_up (Ok value) e P is h = tt
passed_up (Err y) e P is h = subst P (sym is) h

-- a disk that is clean was clean before
pub was_clean : (old new : State) (P : Trees → Type 0) → Survives old new P → HasCleanDisk new → HasCleanDisk old
was_clean old new P step clean = let falls = step.clean in omega arith

-- what is cut off within a transaction, and behind it
pub cut_off : {S : Type 0} (store : Ghosts S) (old last : Held S) (new : State) (P Q : Trees → Type 0) → (HasCleanDisk new → (trees : Trees) → Q trees → P trees) → Survives (state store (record old { in_transaction = true })) (state store last) (λ _. ⊥) → Survives (state store last) new Q → Survives (state store old) new P
cut_off store old last new P Q leaves within ends =
    survives_begin store old new P (survives_then (state store (record old { in_transaction = true })) (state store last) new (λ _. ⊥) Q P (λ _ trees none. absurd none) leaves within ends)

only_entry : (row : Row) → IsEntry row → All IsEntry (row ∷ [])
only_entry row entry = All-cons IsEntry row [] entry (λ k d within. absurd (omega arith))

-- a row that is read behind others
pub rows_more : (rows : List Row) (i : ℕ) (row : Row) → i < length rows → row ≡ get_or rows i row → All IsEntry (take i rows) → IsEntry row → All IsEntry (take (i + 1) rows)
rows_more rows i row within is entries entry =
    subst (All IsEntry) (sym (take_more rows i row within)) (All-append IsEntry (take i rows) (get_or rows i row ∷ []) entries (only_entry (get_or rows i row) (subst IsEntry is entry)))

pub read_more : (rows : List Row) (i : ℕ) (row : Row) → i < length rows → row ≡ get_or rows i row → entries_in (take (i + 1) rows) ≡ with_row (entries_in (take i rows)) row
read_more rows i row within is =
    ap entries_in (take_more rows i row within) ∙ fold-append with_row [] (take i rows) (get_or rows i row ∷ []) ∙ ap (with_row (entries_in (take i rows))) (sym is)

-- a row that is refused is no entry, so not all rows are
pub row_is_bad : {T : Type 0} (stop : Stop) (rows : List Row) (i : ℕ) (row : Row) → i < length rows → row ≡ get_or rows i row → (IsErrOf {T = T} (Err stop) Refused → IsNoEntry row) → HasBadRow (fault_of stop) rows
row_is_bad NoMemory rows i row within is refuses = tt
row_is_bad Refused rows i row within is refuses = λ entries. refuses refl (subst IsEntry (sym is) (entries i row within))
