-- What is asked about a conflict of a row.
use Rattle.std.specs.Prelude.{ℕ, Option, Some, None, List, [], map, filter_map, option_map, if◌then◌else◌}
use Rattle.std.specs.List.{enumerate_from}
use Rattle.merge_types.specs.declared.changes.Tracking.{Tracking}
use Rattle.merge_types.specs.declared.changes.Tracking.TheVariants as tracking
use Rattle.merge_types.specs.declared.values.ColumnType.{ColumnType}
use Rattle.merge_types.specs.declared.values.Column.{Column}
use Rattle.merge_schema.specs.declared.publication.Article.{Article}
use Rattle.merge_schema.specs.declared.publication.Identity.{Identity}
use Rattle.merge_units.specs.declared.version.Body.{Body}
use Rattle.merge_units.specs.declared.case.Case.{Case}
use Rattle.merge_units.specs.declared.case.Case.TheVariants as case
use Rattle.merge_units.specs.declared.case.Side.{Side}
use Rattle.merge_units.specs.declared.result.Decision.{Decision}
use Rattle.merge_units.specs.Cases.{is_both}
use Rattle.merge_resolve.specs.declared.case.CaseKind.{CaseKind}
use Rattle.merge_resolve.specs.declared.case.CaseKind.TheVariants as kind
use Rattle.merge_resolve.specs.declared.case.ConflictCase.{ConflictCase}
use Rattle.merge_resolve.specs.declared.asking.Question.{Question}
use Rattle.merge_resolve.specs.declared.question.Meeting.{Meeting}
use Rattle.merge_resolve.specs.Counted.{counted_decision}

-- a question as a pair of a place and a case
abbrev pub question_of : Question → ℕ × ConflictCase
question_of q = (q.place, q.case)

-- the kind of a case: by row, by column, or a change against a delete
abbrev pub tracking_kind : Tracking → CaseKind
tracking_kind tracking.Row = kind.ByRow
tracking_kind tracking.ByColumn = kind.ByColumn

abbrev pub kind_of : Tracking → Case → CaseKind
kind_of tracking case.LifeConflict = kind.Delete
kind_of tracking case = tracking_kind tracking

abbrev pub sides_of_case : Case → List Side
sides_of_case (case.Conflict sides) = sides
sides_of_case case = []

abbrev pub both_place : ℕ × Side → Option ℕ
both_place place = if is_both place.1 then Some place.0 else None

-- the places of the conflicting cells
abbrev pub conflicting_places : Case → List ℕ
conflicting_places case = filter_map both_place (enumerate_from 0 (sides_of_case case))

-- What an article says of its conflicts.
pub record Asked : Type 0 where
  pub tracking : Tracking
  -- the place of its resolver, and of the column by which this decides
  pub resolver : ℕ
  pub column : Option ℕ
  pub types : List ColumnType
  pub identity : Option ℕ

abbrev pub asked_of : Article → Asked
asked_of article = record {
  tracking = article.tracking;
  resolver = article.resolver;
  column = article.resolver_column;
  types = map (λ (column : Column). column.ty) article.columns;
  identity = option_map (λ (identity : Identity). identity.column) article.identity;
}

abbrev pub case_asked : Meeting → Asked → Body → Body → Case → ConflictCase
case_asked meeting asked publisher incoming case = record {
  article = meeting.article;
  row = meeting.row;
  kind = kind_of asked.tracking case;
  site = meeting.site;
  publisher = publisher;
  incoming = incoming;
  cells = conflicting_places case;
  publisher_priority = meeting.publisher_priority;
  incoming_priority = meeting.incoming_priority;
  column = asked.column;
  moment = meeting.moment;
}

abbrev pub question_asked : Meeting → Asked → Body → Body → Case → Question
question_asked meeting asked publisher incoming case = record {
  place = asked.resolver;
  case = case_asked meeting asked publisher incoming case;
  sides = sides_of_case case;
  types = asked.types;
  identity = asked.identity;
}

-- what a resolver's decision counts as
abbrev pub decision_for_question : Question → Decision → Decision
decision_for_question question decision = counted_decision question.types question.identity question.sides question.case decision
