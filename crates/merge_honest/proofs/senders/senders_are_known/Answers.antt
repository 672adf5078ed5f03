use Rattle.merge_honest.proofs.KnownSenders.{no-unknown-sites, none-not-joined}
use Rattle.merge_honest.proofs.senders.senders_are_known.Goals as goal

pub returns : goal.returns
returns c = record {
  subscribe = no-unknown-sites;
  joined = none-not-joined;
}
