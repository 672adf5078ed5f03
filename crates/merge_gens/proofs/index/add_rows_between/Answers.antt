use Rattle.std.proofs.Common.{ap, sym, ◌∙◌, map, ◌++◌, append-nil}
use Rattle.std.specs.Map.{keys_of}
use Rattle.merge_gens.specs.declared.index.IndexEntry.{IndexEntry}
use Rattle.std.proofs.Common.{List}
use Rattle.merge_gens.specs.Entries.{row_of}
use Rattle.merge_gens.proofs.RowLists.{none_between, walk_start, walk_step, walk_stop}
use Rattle.merge_gens.proofs.index.add_rows_between.Goals as goal

pub returns-then-from-to-clause-rows : goal.returns-then-from-to-clause-rows
returns-then-from-to-clause-rows c = sym (ap (λ (ks : List IndexEntry). c.args.rows.now.items ++ map row_of ks) (none_between c.args.from c.args.to _ c.if-from-to.true) ∙ append-nil c.args.rows.now.items)

pub loop-entry-init : goal.loop-entry-init
loop-entry-init c = walk_start c.args.from c.args.to c.args.entries.now.rows _ _ c.requires (c.into_iter-entry-iterator.ensures.into_iter_gives ∙ c.range-entry-items.ensures.between tt)

pub returns-then-entry-to-clause-rows : goal.returns-then-entry-to-clause-rows
returns-then-entry-to-clause-rows c = walk_stop _ _ _ _ _ c.in-Some.entry.now (keys_of c.next.new.self) c.if-entry-to.true (rw c.in-Some.ensures.steps at c.loop-entry.invariant)

pub loop-entry-preserved : goal.loop-entry-preserved
loop-entry-preserved c =
    rw c.in_ok-push.ensures.items (walk_step _ _ _ _ _ c.in-Some.entry.now (keys_of c.next.new.self) c.if-entry-to.false (rw c.in-Some.ensures.steps at c.loop-entry.invariant))
