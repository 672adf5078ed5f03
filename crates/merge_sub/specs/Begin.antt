-- The ranges with which a subscriber begins.
use Rattle.std.specs.List.{enumerate_from}
use Rattle.std.specs.Prelude.{List, None, Option, Some, ℕ, filter_map, map}
use Rattle.merge_ident.specs.Holders.{Holder, new_holder}
use Rattle.merge_schema.specs.declared.publication.Article.{Article}
use Rattle.merge_schema.specs.declared.publication.Identity.{Identity}
use Rattle.merge_model.specs.Tables.Keys.{put_number}
use Rattle.merge_model.specs.Tables.Publications.{identity_of}
use Rattle.merge_model.specs.Publisher.{holder_for}

-- of articles that are numbered from one on
abbrev pub holders_from : ℕ → List Article → List (ℕ × Holder)
holders_from number articles = map holder_for (filter_map identity_of (enumerate_from number articles))

-- with those of one article more, where it has an identity column
abbrev pub with_ranges : ℕ → Option Identity → List (ℕ × Holder) → List (ℕ × Holder)
with_ranges place None held = held
with_ranges place (Some identity) held = put_number held place (new_holder identity.threshold)
