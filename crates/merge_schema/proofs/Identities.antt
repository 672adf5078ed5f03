-- The identity column of an article stays what it is as further columns are read.
use Rattle.std.proofs.Common.{◌≡◌, ℕ, zero, suc, List, [], ◌∷◌, ◌++◌, ◌⊎◌, inl, inr, length, Option, Some, None, IsSome, sym, ap, subst}
use Rattle.merge_types.specs.declared.values.Column.{Column}
use Rattle.merge_types.specs.declared.values.ColumnType.TheVariants as types
use Rattle.merge_filter.specs.Types.{column_type}
use Rattle.merge_schema.specs.declared.publication.Identity.{Identity}
use Rattle.merge_schema.specs.Valid.{HasValidIdentity}
use Rattle.merge_schema.specs.ValidTables.{IsNewIdentity, IsColumnIdentity}

-- an identity comes only of a column that may bring one
pub brought : {T : Type 0} (place : ℕ) (column : Column) (so_far : Option Identity) (identity : Option Identity) (table : Option T)
    → (IsSome table → column.ty ≡ types.Int) → (identity ≡ so_far) ⊎ (IsSome table × IsNewIdentity place identity) → IsColumnIdentity place column so_far identity
brought place column so_far identity table of_int from = elim from [
  | inl same ↦ inl same
  | inr new ↦ inr (of_int new.0, new.1)
]

type_kept : (columns : List Column) (column : Column) (place : ℕ) → column_type columns place ≡ Some types.Int → column_type (columns ++ column ∷ []) place ≡ Some types.Int
type_kept [] column place h = absurd (no_column h)
  where
    no_column : None ≡ Some types.Int → ⊥
    no_column e = cc
type_kept (c ∷ columns) column zero h = h
type_kept (c ∷ columns) column (suc place) h = type_kept columns column place h

type_behind : (columns : List Column) (column : Column) → column.ty ≡ types.Int → column_type (columns ++ column ∷ []) (length columns) ≡ Some types.Int
type_behind [] column h = ap Some h
type_behind (c ∷ columns) column h = type_behind columns column h

valid_kept : (columns : List Column) (column : Column) (identity : Option Identity) → HasValidIdentity columns identity → HasValidIdentity (columns ++ column ∷ []) identity
valid_kept columns column None h = tt
valid_kept columns column (Some identity) h = (type_kept columns column identity.column h.0, h.1)

valid_new : (columns : List Column) (column : Column) (identity : Option Identity) → column.ty ≡ types.Int → IsNewIdentity (length columns) identity → HasValidIdentity (columns ++ column ∷ []) identity
valid_new columns column None of_int h = absurd h
valid_new columns column (Some identity) of_int h =
    (subst (λ (place : ℕ). column_type (columns ++ column ∷ []) place ≡ Some types.Int) (sym h.0) (type_behind columns column of_int), h.1)

pub kept_valid : (columns : List Column) (column : Column) (place : ℕ) (so_far identity : Option Identity)
    → HasValidIdentity columns so_far → length columns ≡ place → IsColumnIdentity place column so_far identity → HasValidIdentity (columns ++ column ∷ []) identity
kept_valid columns column place so_far identity valid counted from = elim from [
  | inl same ↦ subst (λ (i : Option Identity). HasValidIdentity (columns ++ column ∷ []) i) (sym same) (valid_kept columns column so_far valid)
  | inr new ↦ valid_new columns column identity new.0 (subst (λ (n : ℕ). IsNewIdentity n identity) (sym counted) new.1)
]
