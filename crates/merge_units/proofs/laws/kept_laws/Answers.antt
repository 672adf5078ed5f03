use Rattle.merge_units.proofs.Tops.{result_knows_its_tops, change_knows_its_tops, insert_knows_its_tops}
use Rattle.merge_units.proofs.Shapes.{result_fits, change_fits, insert_fits}
use Rattle.merge_units.proofs.laws.kept_laws.Goals as goal

pub returns : goal.returns
returns c = record {
  result_tops = result_knows_its_tops;
  change_tops = change_knows_its_tops;
  insert_tops = insert_knows_its_tops;
  result_fits = result_fits;
  change_fits = change_fits;
  insert_fits = insert_fits;
}
