use Rattle.std.specs.Prelude.{count_by, nat_lt}
use Rattle.std.proofs.Common.{ap, ◌∙◌}
use Rattle.merge_gens.specs.declared.closings.Closing.{Closing}
use Rattle.merge_pub.specs.Held.{Held, tables_of}
use Rattle.merge_pub.proofs.PurgeMade.{purge-counted, purge-drafted}
use Rattle.merge_pub.proofs.publisher.Publisher.draft_old.Goals as goal

pub returns-clause-made : goal.returns-clause-made
returns-clause-made c =
    purge-drafted _ _ c.self.view_is c.is_ordered.ensures.rows c.is_ordered-2.ensures.rows c.args.latest c.args.cutoff _ _ _ _ c.in_ok-edits.ensures.rows c.in_ok-edits.ensures.mappings c.in_ok-edits.ensures.sites c.in_ok-draft.ensures.made

pub returns-clause-forgotten : goal.returns-clause-forgotten
returns-clause-forgotten c =
    purge-counted (tables_of c.args.self.now) c.args.cutoff _ _ _ _ _ c.in_ok-edits.ensures.rows c.in_ok-edits.ensures.mappings c.len-rows.ensures c.len-mappings.ensures
    (c.count_before.ensures ∙ ap (λ (h : Held). count_by (λ (closing : Closing). nat_lt closing.moment.0 c.args.cutoff.0) h.gens.book.closings) c.self.view_is)
