-- Each decision of the bridge: what the publisher decides by numbers, and the case of an item that meets a row, are as the history has them.
use Rattle.std.specs.Prelude.{List, []}
use Rattle.merge_units.specs.declared.version.Version.{Version}
use Rattle.merge_schema.specs.declared.publication.Publication.{Publication}
use Rattle.merge_model.specs.Laws.Bridge.{CaseDecidesAlike, PublisherDecidesAlike}
use Rattle.merge_model.specs.History.{Past, past_at, past_in}
use Rattle.merge_model.specs.History.Model.{Model}
use Rattle.merge_types.specs.declared.row_key.RowKey.{RowKey as Key}
use Rattle.merge_laws.specs.Invariants.Seen.{Seen}
use Rattle.merge_laws.proofs.Alike.AlikeCases.{Meets, case-same, news-same}
use Rattle.merge_laws.proofs.Alike.AlikeFields.{acted-alike, gap-alike, left-alike, number-alike, received-alike, unmet-alike}
use Rattle.merge_laws.proofs.Alike.AlikeItems.{seen-alike}
use Rattle.merge_laws.proofs.Runs.Ground.{Ground}
use Rattle.merge_laws.proofs.LastLines.LastLineReads.{inside-by-line, outside-by-line}

pub publisher-decides-alike : (publication : Publication) (m : Model) → Ground publication m.world m.history → Seen m.world.publisher.sites m.history.accepted → PublisherDecidesAlike m
publisher-decides-alike publication m g seen = record {
  received = λ site. received-alike publication m.world m.history g site;
  received_number = λ site. number-alike publication m.world m.history g site;
  seen = λ site from. seen-alike publication m g [] site seen from;
  has_acted = λ site generation from. acted-alike publication m.world m.history g site generation from;
  is_gap = λ site from. gap-alike publication m.world m.history g site from;
  has_left = λ key site. left-alike publication m.world m.history g key site;
  touch_inside = λ key site held. inside-by-line publication m g.lines key site held;
  touch_outside = λ key site. outside-by-line publication m g.lines key site;
}

-- of a version that the publisher holds and one of the same row that an upload brings which can act
pub case-decides-alike : (publication : Publication) (m : Model) → Ground publication m.world m.history → (incoming : List (Key × Past)) (key : Key) (held there : Version) → Meets m key held (past_at m.history 0 key) → Meets m key there (past_in incoming key)
    → CaseDecidesAlike m incoming key held there
case-decides-alike publication m g incoming key held there ours theirs = record {
  same_case = case-same m key held there (past_at m.history 0 key) (past_in incoming key) ours theirs;
  same_news = news-same m key held there (past_at m.history 0 key) (past_in incoming key) ours theirs;
  same_new = λ site number from. unmet-alike publication m.world m.history g site number from;
}
