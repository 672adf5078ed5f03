-- A list read element by element.
use Rattle.std.proofs.Common.{◌≡◌, ℕ, ◌+◌, ◌<◌, List, [], ◌∷◌, ◌++◌, length, get_or, drop, map, codes, Option, Result, Ok, Err, refl, sym, ap, ◌∙◌, append_assoc}
use Rattle.std.proofs.lemmas.List.{drop_more}
use Rattle.toml.specs.Data.{Data, Members}
use Rattle.merge_types.specs.declared.values.Column.{Column}
use Rattle.merge_schema.specs.declared.fault.SchemaFault.{SchemaFault}
use Rattle.merge_schema.specs.declared.publication.Identity.{Identity}
use Rattle.merge_schema.specs.Steps.{◌>>=◌}
use Rattle.merge_schema.specs.FileTables.{each_table, columns_from, column_of}
use Rattle.merge_schema.specs.FileValues.{one_table}

-- elements, behind those that were read before
abbrev pub with_front : {B : Type 0} → List B → Result (List B) SchemaFault → Result (List B) SchemaFault
with_front front r = r >>= λ ys. Ok (front ++ ys)

-- columns, behind those that were read before
abbrev pub with_columns : List Column → Result (List Column × Option Identity) SchemaFault → Result (List Column × Option Identity) SchemaFault
with_columns front r = r >>= λ p. Ok (front ++ p.0, p.1)

parted : {V A : Type 0} (view : V → A) (vs : List V) (i : ℕ) (v : V) → i < length vs → v ≡ get_or vs i v → map view (drop i vs) ≡ view v ∷ map view (drop (i + 1) vs)
parted view vs i v less at = ap (map view) (drop_more vs i v less ∙ ap (λ u. u ∷ drop (i + 1) vs) (sym at))

regroup : {B : Type 0} (front : List B) (y : B) (r : Result (List B) SchemaFault) → with_front front (r >>= λ ys. Ok (y ∷ ys)) ≡ with_front (front ++ y ∷ []) r
regroup front y (Ok ys) = ap (λ zs. Ok zs) (simp append_assoc)
regroup front y (Err fault) = refl

next_table : {B : Type 0} (key : List ℕ) (step : Members → Result B SchemaFault) (front : List B) (d : Data) (ds : List Data) (ms : Members) (y : B) → one_table key d ≡ Ok ms → step ms ≡ Ok y
    → with_front front (each_table key step (d ∷ ds)) ≡ with_front (front ++ y ∷ []) (each_table key step ds)
next_table key step front d ds ms y table h =
    ap (λ r. with_front front (r >>= step >>= λ x. each_table key step ds >>= λ xs. Ok (x ∷ xs))) table ∙ ap (λ r. with_front front (r >>= λ x. each_table key step ds >>= λ xs. Ok (x ∷ xs))) h ∙ regroup front y (each_table key step ds)

-- one more table is read
pub tables_go_on : {V B : Type 0} (view : V → Data) (key : List ℕ) (step : Members → Result B SchemaFault) (front : List B) (vs : List V) (i : ℕ) (v : V) (ms : Members) (y : B) (total : Result (List B) SchemaFault)
    → i < length vs → v ≡ get_or vs i v → one_table key (view v) ≡ Ok ms → step ms ≡ Ok y
    → with_front front (each_table key step (map view (drop i vs))) ≡ total → with_front (front ++ y ∷ []) (each_table key step (map view (drop (i + 1) vs))) ≡ total
tables_go_on view key step front vs i v ms y total less at table h so_far =
    sym (ap (λ ds. with_front front (each_table key step ds)) (parted view vs i v less at) ∙ next_table key step front (view v) (map view (drop (i + 1) vs)) ms y table h) ∙ so_far

regroup_columns : (front : List Column) (column : Column) (r : Result (List Column × Option Identity) SchemaFault) → with_columns front (r >>= λ p. Ok (column ∷ p.0, p.1)) ≡ with_columns (front ++ column ∷ []) r
regroup_columns front column (Ok p) = ap (λ (cs : List Column). let r : Result (List Column × Option Identity) SchemaFault = Ok (cs, p.1) in r) (simp append_assoc)
regroup_columns front column (Err fault) = refl

next_column : (front : List Column) (place : ℕ) (so_far : Option Identity) (d : Data) (ds : List Data) (ms : Members) (column : Column) (now : Option Identity)
    → one_table (codes "column") d ≡ Ok ms → column_of place so_far ms ≡ Ok (column, now)
    → with_columns front (columns_from place so_far (d ∷ ds)) ≡ with_columns (front ++ column ∷ []) (columns_from (place + 1) now ds)
next_column front place so_far d ds ms column now table h =
    ap (λ r. with_columns front (r >>= column_of place so_far >>= λ first. columns_from (place + 1) first.1 ds >>= λ others. Ok (first.0 ∷ others.0, others.1))) table
    ∙ ap (λ r. with_columns front (r >>= λ first. columns_from (place + 1) first.1 ds >>= λ others. Ok (first.0 ∷ others.0, others.1))) h
    ∙ regroup_columns front column (columns_from (place + 1) now ds)

-- one more column is read
pub columns_go_on : {V : Type 0} (view : V → Data) (front : List Column) (place : ℕ) (so_far : Option Identity) (vs : List V) (i : ℕ) (v : V) (ms : Members) (column : Column) (now : Option Identity) (total : Result (List Column × Option Identity) SchemaFault)
    → i < length vs → v ≡ get_or vs i v → one_table (codes "column") (view v) ≡ Ok ms → column_of place so_far ms ≡ Ok (column, now)
    → with_columns front (columns_from place so_far (map view (drop i vs))) ≡ total → with_columns (front ++ column ∷ []) (columns_from (place + 1) now (map view (drop (i + 1) vs))) ≡ total
columns_go_on view front place so_far vs i v ms column now total less at table h before =
    sym (ap (λ ds. with_columns front (columns_from place so_far ds)) (parted view vs i v less at) ∙ next_column front place so_far (view v) (map view (drop (i + 1) vs)) ms column now table h) ∙ before
