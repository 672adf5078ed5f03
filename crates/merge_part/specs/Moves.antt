-- Which rows enter partitions and leave them.
use Rattle.std.specs.Prelude.{◌≡◌, ◌↔◌, ℕ, suc, Bool, true, false, not, List, [], ◌∷◌, ◌++◌, Contains}
use Rattle.std.specs.List.Sorted.{IsStrictlySortedBy}
use Rattle.std.specs.declared.cmp.Ordering.{Ordering}
use Rattle.std.specs.Ordering.{nat_cmp, ordering_then}
use Rattle.merge_types.specs.declared.identifiers.SiteId.{SiteId}
use Rattle.merge_schema.specs.declared.publication.Publication.{Publication}
use Rattle.merge_schema.specs.declared.publication.Subscription.{Subscription}
use Rattle.merge_schema.specs.Partition.{LiveRow, is_in_at}
use Rattle.merge_types.specs.declared.row_key.RowKey.{RowKey}
use Rattle.merge_part.specs.declared.sites.Sites.{Sites}
use Rattle.merge_part.specs.declared.change.Move.{Move}
use Rattle.merge_gens.specs.Moves.{is_left}
use Rattle.merge_gens.specs.declared.moves.MoveKind.{MoveKind}
use Rattle.merge_gens.specs.declared.moves.MoveKind.TheVariants.{Entered, Left}
use Rattle.merge_part.specs.Sites.{has_site}

abbrev pub kind_number : MoveKind → ℕ
kind_number Entered = 0
kind_number Left = 1

-- by article, row, site and kind
abbrev pub move_cmp : Move → Move → Ordering
move_cmp a b = ordering_then (nat_cmp a.article b.article) (ordering_then (nat_cmp a.row.0 b.row.0) (ordering_then (nat_cmp a.site.0 b.site.0) (nat_cmp (kind_number a.kind) (kind_number b.kind))))

-- the move of a row at one site, if it moves there
abbrev pub move_if : RowKey → SiteId → Bool → Bool → List Move
move_if key site false true = record { article = key.article; row = key.row; site = site; kind = Entered } ∷ []
move_if key site true false = record { article = key.article; row = key.row; site = site; kind = Left } ∷ []
move_if key site before after = []

-- the moves of a row at the subscribers from a place on
abbrev pub moves_from : RowKey → ℕ → List Subscription → Sites → Sites → List Move
moves_from key place [] before after = []
moves_from key place (subscription ∷ subscriptions) before after = move_if key subscription.site (has_site before place) (has_site after place) ++ moves_from key (suc place) subscriptions before after

-- the moves of all rows that get these marks
abbrev pub all_moves : List Subscription → (RowKey → Sites) → List (RowKey × Sites) → List Move
all_moves subscriptions marks [] = []
all_moves subscriptions marks ((key, after) ∷ entries) = moves_from key 0 subscriptions (marks key) after ++ all_moves subscriptions marks entries

-- The moves are exactly the differences of the partitions, by article, row and site, each once: a row that left was in before, and is not
-- in afterwards; one that entered the other way round.
pub record AreMoves (publication : Publication) (before after : List LiveRow) (moves : List Move) : Type 0 where
  pub ascending : IsStrictlySortedBy move_cmp moves
  pub each : (one : Move) → Contains moves one
      ↔ ((is_in_at publication one.site before one.article one.row ≡ is_left one.kind) × (is_in_at publication one.site after one.article one.row ≡ not (is_left one.kind)))
