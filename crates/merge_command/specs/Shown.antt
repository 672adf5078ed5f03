-- What is written of the rows of one article.
use Rattle.std.specs.Prelude.{List, ℕ}
use Rattle.merge_types.specs.declared.identifiers.SiteId.{SiteId}
use Rattle.merge_model.specs.Script.Play.{names_of}
use Rattle.merge_model.specs.Script.Text.{text_of}
use Rattle.merge_world.specs.Reports.{told_at}
use Rattle.merge_world.specs.Views.{SitesView}
use Rattle.merge_world.specs.declared.reports.Report.TheVariants.{Rows}

-- the text of the live rows of an article at a site
abbrev pub shown_text : SitesView → SiteId → ℕ → List ℕ
shown_text v site article = text_of (names_of v.publication) (told_at v site (Rows article))
