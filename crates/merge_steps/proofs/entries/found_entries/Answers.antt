use Rattle.std.proofs.Common.{[], ap, ◌∙◌}
use Rattle.merge_gens.specs.Moves.{row_site_cmp}
use Rattle.merge_table.specs.Edits.{rows_after_all}
use Rattle.merge_part.specs.Live.{live_rows as listed}
use Rattle.merge_part.specs.View.{live_in}
use Rattle.merge_steps.proofs.KeyTables.{edits-by}
use Rattle.merge_steps.proofs.entries.found_entries.Goals as goal

pub returns : goal.returns
returns c =
    c.in_ok-entries.ensures
    ∙ ap (rows_after_all row_site_cmp [])
    (c.in_ok-edits.ensures
    ∙ edits-by c.args.membership.now.publication c.args.site (listed (live_in c.args.membership.now)) c.args.moves.now c.in_ok-keys.keys.slots c.args.changed.now c.in_ok-moved.moved.slots c.args.acted.now _
    c.in_ok-keys.ensures (rw (c.as_slice.ensures, c.in_ok-there.ensures) at c.in_ok-moved.ensures) (c.as_slice-2.ensures ∙ c.in_ok-outs.ensures))
