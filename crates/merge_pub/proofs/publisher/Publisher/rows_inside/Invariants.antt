use Rattle.std.specs.Prelude.{◌≡◌, ◌++◌, filter}
use Rattle.std.specs.Map.{keys_of}
use Rattle.merge_model.specs.Tables.Keys.{has_key}
use Rattle.merge_model.specs.Publisher.PublisherDownload.{inside_keys}
use Rattle.merge_pub.specs.Held.{publication_of, tables_of}
use Rattle.merge_pub.proofs.publisher.Publisher.rows_inside.Given as goal

abbrev pub invariant-loop-key : goal.invariant-loop-key
invariant-loop-key l =
    let test = has_key (inside_keys (publication_of l.self) l.site (tables_of l.self)) in
    l.inside ++ filter test (keys_of l.key-iterator) ≡ filter test (keys_of (tables_of l.self).rows)
