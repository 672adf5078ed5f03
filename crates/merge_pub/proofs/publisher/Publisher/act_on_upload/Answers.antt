use Rattle.std.proofs.Common.{arith}
use Rattle.merge_pub.specs.Held.{publication_of, tables_of}
use Rattle.merge_pub.specs.Uploaded.{none_acted}
use Rattle.merge_pub.proofs.UploadDecided.{pass-decided}
use Rattle.merge_pub.proofs.UploadHolds.{acted-holds, asked-at, changes-at, conflicts-at, items-at, keeps-fits-at, passed-at, rises-at, rows-at, valid-at}
use Rattle.merge_pub.proofs.Costs.{versions-few}
use Rattle.merge_pub.proofs.publisher.Publisher.act_on_upload.Goals as goal

pub act_on_all-requires : goal.act_on_all-requires
act_on_all-requires g c =
    let p = tables_of c.args.self.now in
    let publication = publication_of c.args.self.now in
    let there = c.publication-publication.ensures in
    let is = c.none_acted-acting.ensures in
    record {
      valid = valid-at c.publication-publication.result.now publication c.none_acted-acting.result p there is c.keeps_rules.ensures.valid.0 c.keeps_rules.ensures.valid.1;
      rows = rows-at c.publication-publication.result.now publication c.none_acted-acting.result p there is c.held_rows-rows.result.now.rows c.held_rows-rows.ensures c.keeps_rules.ensures.rules;
      items = items-at c.publication-publication.result.now publication c.none_acted-acting.result p there is c.args.upload.now c.as_slice-items.result.now c.as_slice-items.ensures c.requires.valid;
      few = rw c.as_slice-items.ensures c.requires.valid.few_items;
      changes = changes-at c.publication-publication.result.now publication c.none_acted-acting.result p there is c.requires.changes;
      conflicts = conflicts-at c.publication-publication.result.now publication c.none_acted-acting.result p there is c.requires.conflicts;
    }

pub returns-clause-passed : goal.returns-clause-passed
returns-clause-passed g c =
    passed-at c.publication-publication.result.now (publication_of c.args.self.now) c.none_acted-acting.result (tables_of c.args.self.now) c.publication-publication.ensures c.none_acted-acting.ensures
    c.held_rows-rows.result.now.rows c.args.arrival _ _ _ c.act_on_all.new.acting c.args.upload.now c.as_slice-items.result.now c.held_rows-rows.ensures c.as_slice-items.ensures c.in_ok-act_on_all.ensures.passed

pub returns-clause-acted : goal.returns-clause-acted
returns-clause-acted g c =
    let there = c.publication-publication.ensures in
    let is = c.none_acted-acting.ensures in
    acted-holds (publication_of c.args.self.now) c.requires.arrival.0 c.args.upload.now (tables_of c.args.self.now) _ _ _ c.args.arrival c.act_on_all.new.acting c.requires.arrival.1
    (passed-at c.publication-publication.result.now (publication_of c.args.self.now) c.none_acted-acting.result (tables_of c.args.self.now) there is
    c.held_rows-rows.result.now.rows c.args.arrival _ _ _ c.act_on_all.new.acting c.args.upload.now c.as_slice-items.result.now c.held_rows-rows.ensures c.as_slice-items.ensures c.in_ok-act_on_all.ensures.passed)
    c.requires.valid
    (keeps-fits-at c.publication-publication.result.now (publication_of c.args.self.now) c.none_acted-acting.result (tables_of c.args.self.now) there is c.act_on_all.new.acting c.in_ok-act_on_all.ensures.fits)
    (rises-at c.publication-publication.result.now (publication_of c.args.self.now) c.none_acted-acting.result (tables_of c.args.self.now) there is c.act_on_all.new.acting c.in_ok-act_on_all.ensures.rises)

pub returns-clause-decided : goal.returns-clause-decided
returns-clause-decided g c =
    pass-decided (publication_of c.args.self.now) (tables_of c.args.self.now).rows c.args.arrival _ c.args.upload.now.items (none_acted (tables_of c.args.self.now)) c.act_on_all.new.acting _ _
    (passed-at c.publication-publication.result.now (publication_of c.args.self.now) c.none_acted-acting.result (tables_of c.args.self.now) c.publication-publication.ensures c.none_acted-acting.ensures
    c.held_rows-rows.result.now.rows c.args.arrival _ _ _ c.act_on_all.new.acting c.args.upload.now c.as_slice-items.result.now c.held_rows-rows.ensures c.as_slice-items.ensures c.in_ok-act_on_all.ensures.passed)

pub returns-clause-asked : goal.returns-clause-asked
returns-clause-asked g c =
    asked-at c.publication-publication.result.now (publication_of c.args.self.now) c.none_acted-acting.result (tables_of c.args.self.now) c.publication-publication.ensures c.none_acted-acting.ensures
    c.held_rows-rows.result.now.rows c.args.arrival _ _ c.args.upload.now c.as_slice-items.result.now c.held_rows-rows.ensures c.as_slice-items.ensures c.act_on_all.ensures.asked

pub returns-in_err-act_on_all-clause-asked : goal.returns-in_err-act_on_all-clause-asked
returns-in_err-act_on_all-clause-asked g c =
    asked-at c.publication-publication.result.now (publication_of c.args.self.now) c.none_acted-acting.result (tables_of c.args.self.now) c.publication-publication.ensures c.none_acted-acting.ensures
    c.held_rows-rows.result.now.rows c.args.arrival _ _ c.args.upload.now c.as_slice-items.result.now c.held_rows-rows.ensures c.as_slice-items.ensures c.act_on_all.ensures.asked

pub returns-clause-few : goal.returns-clause-few
returns-clause-few g c = omega (
  arith,
  versions-few (publication_of c.args.self.now) (tables_of c.args.self.now).rows c.args.arrival _ c.act_on_all.new.acting _ _ _ c.args.upload.now.items
      (passed-at c.publication-publication.result.now (publication_of c.args.self.now) c.none_acted-acting.result (tables_of c.args.self.now) c.publication-publication.ensures c.none_acted-acting.ensures
      c.held_rows-rows.result.now.rows c.args.arrival _ _ _ c.act_on_all.new.acting c.args.upload.now c.as_slice-items.result.now c.held_rows-rows.ensures c.as_slice-items.ensures c.in_ok-act_on_all.ensures.passed),
)
