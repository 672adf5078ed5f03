use Rattle.merge_units.specs.declared.site_row.SubscriberRow.{SubscriberRow}
use Rattle.merge_record.specs.Rows.{IsShortSubscriberRow}
use Rattle.merge_site.proofs.Edited.{edits-lead, keyed-after}
use Rattle.merge_site.proofs.Printed.{lost-printable, rows-printable}
use Rattle.merge_site.proofs.subscriber_commit.edits_of.Goals as goal

pub returns-clause-lead : goal.returns-clause-lead
returns-clause-lead c =
    edits-lead _ _ _ _ _ _ c.closings.ensures c.site.ensures c.requires.keyed c.requires.gens.sound c.requires.conflicts.rising c.in_ok-stored.ensures c.in_ok-check_stored.ensures.fit c.in_ok-edits.ensures

pub returns-clause-keyed : goal.returns-clause-keyed
returns-clause-keyed c =
    keyed-after _ _ _ _ c.closings.ensures c.requires.keyed c.requires.gens.sound c.requires.conflicts.rising c.in_ok-stored.ensures c.in_ok-check_stored.ensures.fit

pub returns-clause-printable : goal.returns-clause-printable
returns-clause-printable c =
    rows-printable (λ (row : SubscriberRow). row.version) IsShortSubscriberRow (λ row short. short.0) _ _ c.in_ok-stored.ensures.rows c.in_ok-check_stored.ensures.short.rows _ c.requires.printable

pub returns-clause-lost : goal.returns-clause-lost
returns-clause-lost c = lost-printable _ _ _ c.in_ok-stored.ensures.conflicts c.in_ok-check_stored.ensures.short.conflicts c.requires.lost
