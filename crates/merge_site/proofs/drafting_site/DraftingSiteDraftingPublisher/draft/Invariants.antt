-- The ledger of the blank.
use Rattle.merge_site.proofs.drafting_site.DraftingSiteDraftingPublisher.draft.Given as goal

abbrev pub ghosts-draft_in_ledger : goal.ghosts-draft_in_ledger
ghosts-draft_in_ledger g a = record { name = a.blank.name; parts = a.blank.parts }
