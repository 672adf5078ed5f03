-- Publication files whose answers are computed from the definitions.
use Rattle.std.proofs.Common.{◌≡◌, ℕ, codes, List, Option, Some, None, Result, Ok, Err, refl}
use Rattle.toml.specs.Data.{Members}
use Rattle.toml.specs.Parse.{parse_document}
use Rattle.toml.proofs.OnLiterals.{toml_on_literals}
use Rattle.merge_schema.specs.declared.fault.SchemaFault.{SchemaFault}
use Rattle.merge_schema.specs.declared.fault.SchemaFault.TheVariants.{NotToml, Missing, BadValue, Duplicate, UnknownArticle}
use Rattle.merge_schema.specs.Answers.{checked_draft}
use Rattle.merge_schema.specs.Checks.{names_checked}
use Rattle.merge_schema.specs.Steps.{◌>>=◌}
use Rattle.merge_schema.specs.FileTables.{identity_of, column_of, join_of, article_of, subscription_of, draft_of}

-- what is said of a file, up to its filters
abbrev read_members : Option Members → Result (Unit {0}) SchemaFault
read_members None = Err NotToml
read_members (Some ms) = checked_draft 5 ms >>= λ _. Ok tt

abbrev told : List ℕ → Result (Unit {0}) SchemaFault
told text = read_members (parse_document text)

pub a_name_alone : told (codes "name = \"a\"\n") ≡ Err (Missing (codes "article"))
unfolding toml_on_literals identity_of column_of join_of article_of subscription_of draft_of names_checked
a_name_alone = refl

pub a_colour : told (codes "colour = 1\nname = \"p\"\n[[article]]\nname = \"item\"\n[[article.column]]\nname = \"qty\"\ntype = \"int\"\n") ≡ Err (BadValue (codes "colour"))
unfolding toml_on_literals identity_of column_of join_of article_of subscription_of draft_of names_checked
a_colour = refl

pub a_whole_file : told (codes "name = \"p\"\n[[article]]\nname = \"item\"\n[[article.column]]\nname = \"qty\"\ntype = \"int\"\n[[subscription]]\nsite = 1\nhost = \"h\"\n") ≡ Ok tt
unfolding toml_on_literals identity_of column_of join_of article_of subscription_of draft_of names_checked
a_whole_file = refl

pub an_article_twice : told (codes "name = \"p\"\narticle = [{ name = \"item\", column = [{ name = \"qty\", type = \"int\" }] }, { name = \"item\", column = [{ name = \"qty\", type = \"int\" }] }]\n") ≡ Err (Duplicate (codes "item"))
unfolding toml_on_literals identity_of column_of join_of article_of subscription_of draft_of names_checked
an_article_twice = refl

pub a_far_parent : told (codes "name = \"p\"\n[[article]]\nname = \"item\"\ncolumn = [{ name = \"qty\", type = \"int\" }]\njoin = [{ column = \"qty\", parent = \"far\", parent_column = \"x\" }]\n") ≡ Err (UnknownArticle (codes "far"))
unfolding toml_on_literals identity_of column_of join_of article_of subscription_of draft_of names_checked
a_far_parent = refl

-- an identity of a text column is refused before its table is read
pub a_text_identity : told (codes "name = \"p\"\n[[article]]\nname = \"item\"\ncolumn = [{ name = \"c\", type = \"text\", identity = { threshold = 101 } }]\n") ≡ Err (BadValue (codes "identity"))
unfolding toml_on_literals identity_of column_of join_of article_of subscription_of draft_of names_checked
a_text_identity = refl

-- a client has no priority, not even 0
pub a_client_with_priority : told (codes "name = \"p\"\n[[article]]\nname = \"item\"\ncolumn = [{ name = \"c\", type = \"text\" }]\n[[subscription]]\nsite = 1\nhost = \"h\"\npriority = 0\n") ≡ Err (BadValue (codes "priority"))
unfolding toml_on_literals identity_of column_of join_of article_of subscription_of draft_of names_checked
a_client_with_priority = refl

pub no_document : told (codes "name = a\n") ≡ Err NotToml
unfolding toml_on_literals identity_of column_of join_of article_of subscription_of draft_of names_checked
no_document = refl
