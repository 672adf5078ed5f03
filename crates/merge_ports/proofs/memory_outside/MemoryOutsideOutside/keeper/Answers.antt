use Rattle.std.proofs.Common.{◌∙◌, ℕ, List, ap, sym, subst}
use Rattle.std.specs.Prelude.{IsTrue}
use Rattle.std.specs.declared.option.Option.TheVariants.{None}
use Rattle.std.specs.Map.{lookup}
use Rattle.std.specs.BTreeMap.{is_at}
use Rattle.std.specs.Ordering.{nat_cmp}
use Rattle.std.proofs.lemmas.Cmp.{nat_cmp_total}
use Rattle.merge_table.specs.Contents.{has_room}
use Rattle.merge_table.proofs.LookUps.{lookup-remove_entry}
use Rattle.merge_ports.proofs.Elsewhere.{elsewhere, no_path}
use Rattle.merge_ports.proofs.memory_outside.MemoryOutsideOutside.keeper.Goals as goal

pub returns-in-Some-clause-open : goal.returns-in-Some-clause-open
returns-in-Some-clause-open g c = (
  no_path c.args.path.now (sym c.has_no_path.ensures ∙ c.if-has_no_path.true),
  subst (λ (slots : List ℕ). IsTrue (has_room nat_cmp slots c.args.site.0)) (sym c.take.ensures.slots) (c.is_fresh.ensures.room c.if-is_fresh.true),
)

pub returns-in-Some-clause-others : goal.returns-in-Some-clause-others
returns-in-Some-clause-others g c =
    elsewhere g.K.Keeper.told c.args.self.now.stores.rows c.take.new.self.rows c.args.site c.args.path.now None (no_path c.args.path.now (sym c.has_no_path.ensures ∙ c.if-has_no_path.true))
    (λ q. ap (lookup (is_at (nat_cmp q))) c.take.ensures.rows ∙ lookup-remove_entry nat_cmp nat_cmp_total c.args.site.0 q c.args.self.now.stores.rows c.is_fresh.ensures.ordered)
