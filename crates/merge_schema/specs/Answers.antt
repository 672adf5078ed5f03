-- What a publication file says, or why it is none: the first refusal of thirteen steps, each over the
-- whole file before the next. The file is a document; the top table; each article with its columns and
-- joins; each subscription; no name twice; parents are articles; join columns, parent columns and
-- resolver columns are there; resolvers can decide by their columns; filters are filters; joins compare
-- like types; no article is its own ancestor.
use Rattle.std.specs.Prelude.{◌≡◌, ℕ, List, ◌⊎◌, IsUtf8, Some, None, Result, Ok, Err}
use Rattle.toml.specs.Data.{Members}
use Rattle.toml.specs.Parse.{parse_document}
use Rattle.merge_schema.specs.declared.draft.Draft.{Draft}
use Rattle.merge_schema.specs.declared.fault.SchemaFault.{SchemaFault}
use Rattle.merge_schema.specs.declared.fault.SchemaFault.TheVariants.{NotToml}
use Rattle.merge_schema.specs.declared.publication.Article.{Article}
use Rattle.merge_schema.specs.declared.publication.Publication.{Publication}
use Rattle.merge_schema.specs.Ancestors.{joins_checked}
use Rattle.merge_schema.specs.Building.{ArePlaced, publication_of}
use Rattle.merge_schema.specs.Checks.{names_checked}
use Rattle.merge_schema.specs.Steps.{◌>>=◌}
use Rattle.merge_schema.specs.FileTables.{draft_of}

-- the tables, with names that were checked
abbrev pub checked_draft : ℕ → Members → Result Draft SchemaFault
checked_draft resolvers ms = draft_of resolvers ms >>= λ draft. names_checked draft >>= λ _. Ok draft

abbrev pub accepted : Draft → Result (List Article) SchemaFault → Result Publication SchemaFault
accepted draft placed = placed >>= λ articles. joins_checked articles >>= λ _. Ok (publication_of draft articles)

-- the answer for tables that were checked
abbrev pub IsCheckedAnswer : Draft → Result Publication SchemaFault → Type 0
IsCheckedAnswer draft answer = (placed : Result (List Article) SchemaFault) × ArePlaced draft.articles placed × (answer ≡ accepted draft placed)

abbrev pub IsDraftAnswer : Result Draft SchemaFault → Result Publication SchemaFault → Type 0
IsDraftAnswer (Err fault) answer = answer ≡ Err fault
IsDraftAnswer (Ok draft) answer = IsCheckedAnswer draft answer

-- the text is the document with these members
abbrev pub IsDocument : List ℕ → Members → Type 0
IsDocument text ms = IsUtf8 text × (parse_document text ≡ Some ms)

-- the answer for a text, where so many resolvers are handed in
abbrev pub IsAnswer : ℕ → List ℕ → Result Publication SchemaFault → Type 0
IsAnswer resolvers text answer =
    ((ms : Members) × IsDocument text ms × IsDraftAnswer (checked_draft resolvers ms) answer)
    ⊎ ((IsUtf8 text → parse_document text ≡ None) × (answer ≡ Err NotToml))
