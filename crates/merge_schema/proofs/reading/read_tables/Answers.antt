use Rattle.merge_schema.proofs.Validity.{valid_result}
use Rattle.merge_schema.proofs.reading.read_tables.Goals as goal

pub returns-clause-valid : goal.returns-clause-valid
returns-clause-valid c =
    valid_result c.args.resolvers c.in_ok-draft.draft c.publication_of.result c.in_ok-draft.ensures.valid c.in_ok-names_checked.ensures c.publication_of.ensures.publication c.publication_of.ensures.fits
