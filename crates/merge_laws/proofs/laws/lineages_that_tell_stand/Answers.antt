use Rattle.merge_laws.proofs.Lineages.LineagesStand.{lineages-stand}
use Rattle.merge_laws.proofs.Lineages.Standing.{case-alike, news-alike, standing-agrees, telling-stands}
use Rattle.merge_laws.proofs.Told.ToldVersions.{told-after, told-merged}
use Rattle.merge_laws.proofs.laws.lineages_that_tell_stand.Goals as goal

pub returns : goal.returns
returns c = record {
  stands = λ made counts key lineage known later knows tells. telling-stands made counts key lineage known knows tells later;
  after_change = told-after;
  after_merge = λ case decision dot ours theirs one other t u. told-merged case ours theirs dot one other t u decision;
  agrees = standing-agrees;
  case = λ here here_too there there_too ours theirs one other. case-alike here here_too there there_too ours theirs one other;
  news = λ there there_too body agrees. news-alike there there_too body agrees;
  invariant = lineages-stand;
}
