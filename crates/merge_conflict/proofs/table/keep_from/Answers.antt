use Rattle.std.proofs.Common.{◌≡◌, rules, nat_le, arith}
use Rattle.std.proofs.lemmas.Fn.{filter_same}
use Rattle.merge_conflict.specs.declared.row.ConflictRow.{ConflictRow}
use Rattle.merge_conflict.specs.Table.{kept_from}
use Rattle.merge_conflict.proofs.RisingRows.{count_kept}
use Rattle.merge_conflict.proofs.table.keep_from.Goals as goal

pub returns-clause-items : goal.returns-clause-items
returns-clause-items c = filter_same _ (λ (row : ConflictRow). nat_le c.args.cutoff.0 row.moment.0) _ (λ x b f' k. search rules) _ _ c.retain.ensures.filtered

pub returns-clause-len : goal.returns-clause-len
returns-clause-len c =
    let kept : c.retain.new.self.items ≡ kept_from c.args.cutoff c.args.rows.now.items = filter_same _ (λ (row : ConflictRow). nat_le c.args.cutoff.0 row.moment.0) _ (λ x b f' k. search rules) _ _ c.retain.ensures.filtered in
    grind (arith, kept, count_kept c.args.cutoff c.args.rows.now.items)
