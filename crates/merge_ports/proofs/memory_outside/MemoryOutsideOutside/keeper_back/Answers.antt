use Rattle.std.proofs.Common.{◌∙◌, ap}
use Rattle.std.specs.declared.option.Option.TheVariants.{Some}
use Rattle.std.specs.Map.{lookup}
use Rattle.std.specs.BTreeMap.{is_at}
use Rattle.std.specs.Ordering.{nat_cmp}
use Rattle.std.proofs.lemmas.Cmp.{nat_cmp_total}
use Rattle.merge_table.proofs.LookUps.{lookup-insert_entry}
use Rattle.merge_ports.proofs.Elsewhere.{elsewhere, told_here}
use Rattle.merge_ports.proofs.memory_outside.MemoryOutsideOutside.keeper_back.Goals as goal

pub returns-clause-map : goal.returns-clause-map
returns-clause-map g c = told_here g.K.Keeper.told c.args.self.now.stores.rows c.put.new.self.rows c.args.site c.args._path.now c.args.keeper c.requires.0 c.put.ensures.rows

pub returns-clause-others : goal.returns-clause-others
returns-clause-others g c =
    elsewhere g.K.Keeper.told c.args.self.now.stores.rows c.put.new.self.rows c.args.site c.args._path.now (Some c.args.keeper) c.requires.0
    (λ q. ap (lookup (is_at (nat_cmp q))) c.put.ensures.rows ∙ lookup-insert_entry nat_cmp nat_cmp_total c.args.site.0 q c.args.keeper c.args.self.now.stores.rows)
