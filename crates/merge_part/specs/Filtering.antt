-- Which subscribers' row filters a row passes.
use Rattle.std.specs.Prelude.{ℕ, Bool, false, ◌&&◌, nat_lt, List, length, Option, Some, None}
use Rattle.std.specs.List.{slice_get}
use Rattle.merge_types.specs.declared.values.Value.{Value}
use Rattle.merge_filter.specs.Syntax.{Syntax}
use Rattle.merge_filter.specs.Eval.{truth}
use Rattle.merge_schema.specs.declared.publication.Article.{Article}
use Rattle.merge_schema.specs.declared.publication.Subscription.{Subscription}
use Rattle.merge_schema.specs.Partition.{is_true, is_empty}
use Rattle.merge_schema.specs.Valid.{FilterFits}

abbrev pub true_for : Syntax → List Value → Option Subscription → Bool
true_for filter values None = false
true_for filter values (Some subscription) = is_true (truth filter values subscription.host)

-- whether the filter is true of the row at the host of the subscriber at the place
abbrev pub passes_at : Syntax → List Subscription → List Value → ℕ → Bool
passes_at filter subscriptions values place = true_for filter values (slice_get subscriptions place)

-- whether an article without filter is wholly in the partition of the subscriber at the place, or the filter is true
abbrev pub filter_at : Option Syntax → Bool → List Subscription → List Value → ℕ → Bool
filter_at (Some filter) alone subscriptions values place = passes_at filter subscriptions values place
filter_at None alone subscriptions values place = alone && nat_lt place (length subscriptions)

abbrev pub is_filtered : Article → List Subscription → List Value → ℕ → Bool
is_filtered article subscriptions values place = filter_at article.filter (is_empty article.joins) subscriptions values place

-- the values have the columns that the filter asks for
abbrev pub FitsFilter : Article → List Value → Type 0
FitsFilter article values = FilterFits article.filter (length values)
