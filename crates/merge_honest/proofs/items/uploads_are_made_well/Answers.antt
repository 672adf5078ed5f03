use Rattle.merge_honest.proofs.MadeUploads.{no-many-generations, no-many-items, no-row-falls, no-upload-without, none-stands-outside}
use Rattle.merge_honest.proofs.items.uploads_are_made_well.Goals as goal

pub returns : goal.returns
returns c = record {
  some = no-upload-without;
  generations = no-many-generations;
  items = no-many-items;
  order = no-row-falls;
  interval = none-stands-outside;
}
