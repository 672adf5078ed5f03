-- What a membership keeps.
use Rattle.std.specs.Prelude.{◌≡◌, ◌<◌, ℕ, true, List, [], ◌∷◌, ◌++◌, map, length, suc, Option, Some}
use Rattle.merge_schema.specs.declared.publication.Article.{Article}
use Rattle.merge_schema.specs.declared.publication.JoinFilter.{JoinFilter}
use Rattle.merge_schema.specs.declared.publication.Publication.{Publication}
use Rattle.merge_schema.specs.EvaluationOrder.{IsEvaluationOrder}
use Rattle.merge_schema.specs.ValidityLaws.{FiltersFit, SitesAreDistinct}
use Rattle.merge_types.specs.declared.row_key.RowKey.{RowKey}
use Rattle.merge_part.specs.declared.sites.Sites.{Sites}
use Rattle.merge_part.specs.declared.content.Content.{Content}
use Rattle.merge_part.specs.declared.index.Indexes.{Indexes}
use Rattle.merge_part.specs.declared.index.DraftIndexes.{DraftIndexes}
use Rattle.merge_part.specs.declared.link.Link.{Link}
use Rattle.merge_part.specs.declared.link.Rules.{Rules}
use Rattle.merge_table.specs.declared.edit.Edit.{Edit}
use Rattle.merge_table.specs.Edits.{rows_after_all}
use Rattle.merge_part.specs.declared.change.RowChange.{RowChange}
use Rattle.merge_types.specs.RowKeys.{key_cmp}
use Rattle.merge_part.specs.Live.{live_of, live_after_all}
use Rattle.merge_part.specs.Draft.{found, marks_of, rows_in}
use Rattle.merge_part.specs.Sites.{has_site}
use Rattle.merge_part.specs.Rule.{Meets}
use Rattle.merge_part.specs.Index.{Entries, AreExact, AreDrafted}
use Rattle.merge_part.specs.Settling.{AllMeet, pends, ParentsComeFirst, NoneFollowsItself, LinksAreWithin, is_among}
use Rattle.merge_part.specs.Taking.{filtered_in}

abbrev pub link_of : ℕ → JoinFilter → Link
link_of child join = record { child = child; column = join.column; parent = join.parent; parent_column = join.parent_column }

-- the joins of the articles from this place on
abbrev pub links_from : ℕ → List Article → List Link
links_from child [] = []
links_from child (article ∷ articles) = map (link_of child) article.joins ++ links_from (suc child) articles

abbrev pub links_of : Publication → List Link
links_of publication = links_from 0 publication.articles

-- the joins of a publication, and its articles in an order in which parents come first
pub record AreRules (publication : Publication) (rules : Rules) : Type 0 where
  pub few : length publication.subscriptions < 64
  pub filters : FiltersFit publication
  pub sites : SitesAreDistinct publication
  pub evaluation : (order : List ℕ) × IsEvaluationOrder publication order
  pub links_are : rules.links ≡ links_of publication
  pub order : ParentsComeFirst rules.links rules.order
  pub apart : NoneFollowsItself rules.links
  pub within : LinksAreWithin rules.links rules.order
  pub all : (article : ℕ) → article < length publication.articles → is_among rules.order article ≡ true

-- each row knows the subscribers whose row filter it passes
abbrev pub AreFiltered : Publication → (RowKey → Option Content) → Type 0
AreFiltered publication rows = (key : RowKey) (content : Content) → rows key ≡ Some content → (place : ℕ) → has_site content.filtered place ≡ filtered_in publication key.article content.values place

-- what is held of the rows, the partitions that they are in, and where they are found, agree
pub record IsKept (publication : Publication) (links : List Link) (children parents : Entries) (rows : List (RowKey × Content)) (marks : List (RowKey × Sites)) : Type 0 where
  pub met : (key : RowKey) → Meets links (found rows) (marks_of marks) key
  pub filtered : AreFiltered publication (found rows)
  pub indexed : AreExact links children parents (found rows)

-- the changes are made in the draft, and each row that does not wait meets the rule
pub record AreTaken (publication : Publication) (rules : Rules) (index : Indexes) (draft : DraftIndexes) (rows : List (RowKey × Content)) (marks : List (RowKey × Sites)) (changes : List RowChange) (edits : List (Edit RowKey Content)) (waiting : List RowKey) : Type 0 where
  pub live : live_of (rows_after_all key_cmp rows edits) ≡ live_after_all (live_of rows) changes
  pub filtered : AreFiltered publication (rows_in rows edits)
  pub drafted : AreDrafted rules.links index draft (rows_in rows edits)
  pub met : AllMeet rules.links (rows_in rows edits) (marks_of marks) (pends rules.order waiting)
