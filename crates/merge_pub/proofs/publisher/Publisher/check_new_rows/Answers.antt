use Rattle.std.proofs.Common.{◌≡◌, ◌∙◌}
use Rattle.merge_pub.specs.Held.{publication_of, tables_of}
use Rattle.merge_pub.proofs.UploadRules.{too-many-at}
use Rattle.merge_pub.proofs.publisher.Publisher.check_new_rows.Goals as goal

pub returns : goal.returns
returns c =
    c.check_count.ensures
    ∙ too-many-at (publication_of c.args.self.now) c.args.upload.now (tables_of c.args.self.now) c.args.arrival c.requires.arrival.0 c.held_rows-rows.result.now.rows c.as_slice-items.result.now _ c.rows_made-made.result c.requires.arrival.1 c.held_rows-rows.ensures
    c.as_slice-items.ensures c.len.ensures c.rows_made-made.ensures.made

pub rows_made-made-requires : goal.rows_made-made-requires
rows_made-made-requires c = rw c.as_slice-items.ensures c.requires.few
