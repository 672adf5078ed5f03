use Rattle.merge_units.proofs.News.{case_by_knowing, covered_has_no_news, equal_is_nothing, covered_is_nothing, covering_is_taken}
use Rattle.merge_units.proofs.laws.case_laws.Goals as goal

pub returns : goal.returns
returns c = record {
  knowing = case_by_knowing;
  no_news = covered_has_no_news;
  equal = equal_is_nothing;
  covered = covered_is_nothing;
  covering = covering_is_taken;
}
