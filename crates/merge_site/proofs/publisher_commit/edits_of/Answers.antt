use Rattle.merge_units.specs.declared.site_row.PublisherRow.{PublisherRow}
use Rattle.merge_record.specs.Rows.{IsShortPublisherRow}
use Rattle.merge_site.proofs.PublisherEdited.{edits-lead, keyed-after}
use Rattle.merge_site.proofs.Printed.{lost-printable, rows-printable}
use Rattle.merge_site.proofs.publisher_commit.edits_of.Goals as goal

pub returns-clause-lead : goal.returns-clause-lead
returns-clause-lead c =
    edits-lead _ _ _ c.args.forgets _ _ c.closings.ensures.closings c.requires.keyed c.requires.gens.sound c.requires.conflicts.rising c.in_ok-stored.ensures c.in_ok-check_stored.ensures.fit c.grants.ensures.fit c.requires.grants.follows c.in_ok-edits.ensures

pub returns-clause-keyed : goal.returns-clause-keyed
returns-clause-keyed c =
    keyed-after _ _ _ c.args.forgets _ c.closings.ensures.closings c.requires.keyed c.requires.gens.sound c.requires.conflicts.rising c.in_ok-stored.ensures c.in_ok-check_stored.ensures.fit

pub returns-clause-printable : goal.returns-clause-printable
returns-clause-printable c =
    rows-printable (λ (row : PublisherRow). row.version) IsShortPublisherRow (λ row short. short) _ _ c.in_ok-stored.ensures.rows c.in_ok-check_stored.ensures.short.rows _ c.requires.printable

pub returns-clause-lost : goal.returns-clause-lost
returns-clause-lost c = lost-printable _ _ _ c.in_ok-stored.ensures.conflicts c.in_ok-check_stored.ensures.short.conflicts c.requires.lost
