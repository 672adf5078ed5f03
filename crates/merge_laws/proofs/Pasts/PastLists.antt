-- The pasts of rows as rows are put and dropped with them.
use Rattle.std.specs.Prelude.{List}
use Rattle.std.specs.List.Sorted.{IsStrictlySortedBy}
use Rattle.std.specs.Map.{keys_of}
use Rattle.std.proofs.Common.{arith, subst, sym}
use Rattle.std.specs.BTreeMap.{is_at}
use Rattle.merge_table.proofs.Sorted.{sorted_put, sorted_take}
use Rattle.merge_model.specs.History.{Past, no_past, past_in}
use Rattle.merge_types.specs.RowKeys.{key_cmp}
use Rattle.merge_model.specs.Tables.Keys.{drop_row, put_row, same_key}
use Rattle.merge_types.specs.declared.row_key.RowKey.{RowKey as Key}
use Rattle.merge_model.proofs.Publishers.Sorted.{key_total}
use Rattle.merge_laws.specs.Invariants.KnownMakers.{Ascend, HeldKnow, KnowsMaker}
use Rattle.merge_laws.proofs.Pasts.HeldRows.{held-dropped, held-put}
use Rattle.merge_model.proofs.Lists.KeyLookUps.{keys-same}
use Rattle.merge_laws.proofs.Pasts.PastLookUps.{past-dropped, past-put}
use Rattle.merge_model.proofs.Lists.Tests.{if-either, if-false}

pub put-ascends : (rows : List (Key × Past)) (key : Key) (past : Past) → Ascend rows → Ascend (put_row rows key past)
put-ascends rows key past sorted = sorted_put key_cmp key_total key past rows sorted

pub drop-ascends : (rows : List (Key × Past)) (key : Key) → Ascend rows → Ascend (drop_row rows key)
drop-ascends rows key sorted = sorted_take key_cmp key_total (is_at (key_cmp key)) rows sorted

-- of each row's past
pub each-put : (P : Key → Past → Type 0) (rows : List (Key × Past)) (key : Key) (past : Past) → P key past → ((q : Key) → P q (past_in rows q)) → (q : Key) → P q (past_in (put_row rows key past) q)
each-put P rows key past new old q = subst (λ (x : Past). P q x) (sym (past-put rows key past q)) (if-either (P q) (same_key q key) past (past_in rows q) (λ same. subst (λ (k : Key). P k past) (sym (keys-same q key same)) new) (λ differs. old q))

pub each-dropped : (P : Key → Past → Type 0) (rows : List (Key × Past)) (key : Key) → Ascend rows → ((q : Key) → P q no_past) → ((q : Key) → P q (past_in rows q)) → (q : Key) → P q (past_in (drop_row rows key) q)
each-dropped P rows key sorted none old q = subst (λ (x : Past). P q x) (sym (past-dropped rows key q sorted)) (if-either (P q) (same_key q key) no_past (past_in rows q) (λ same. none q) (λ differs. old q))

-- The rows that are held, beside their pasts.

-- both are put, or both are dropped
pub know-put : {A : Type 0} (rows : List (Key × A)) (pasts : List (Key × Past)) (key : Key) (row : A) (past : Past) → KnowsMaker key past.known → HeldKnow rows pasts → HeldKnow (put_row rows key row) (put_row pasts key past)
know-put rows pasts key row past new old q is =
    subst (λ (x : Past). KnowsMaker q x.known) (sym (past-put pasts key past q)) (if-either (λ (x : Past). KnowsMaker q x.known) (same_key q key) past (past_in pasts q)
    (λ same. subst (λ (k : Key). KnowsMaker k past.known) (sym (keys-same q key same)) new) (λ differs. old q (let here = held-put rows key row q in grind (arith, here, is, differs))))

pub know-dropped : {A : Type 0} (rows : List (Key × A)) (pasts : List (Key × Past)) (key : Key) → IsStrictlySortedBy key_cmp (keys_of rows) → Ascend pasts → HeldKnow rows pasts → HeldKnow (drop_row rows key) (drop_row pasts key)
know-dropped rows pasts key sorted ascend old q is =
    let there = held-dropped rows key q sorted is in
    subst (λ (x : Past). KnowsMaker q x.known) (sym (past-dropped pasts key q ascend)) (subst (λ (x : Past). KnowsMaker q x.known) (sym (if-false (same_key q key) no_past (past_in pasts q) there.0)) (old q there.1))
