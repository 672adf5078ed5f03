-- The numbers and the words of faults.
use Rattle.std.specs.Prelude.{◌++◌, ◌∷◌, List, ℕ, Option, Some, None, codes}
use Rattle.std.specs.Fmt.{decimal}
use Rattle.merge_types.specs.Names.{shown_text}
use Rattle.merge_schema.specs.declared.fault.SchemaFault.{SchemaFault}
use Rattle.merge_schema.specs.declared.fault.SchemaFault.TheVariants.{NotToml, Missing, BadValue, Duplicate, UnknownArticle, JoinCycle, JoinTypes, TooMany, NoMemory}

abbrev pub number_of : SchemaFault → Option ℕ
number_of NotToml = Some 1
number_of (Missing key) = Some 2
number_of (BadValue key) = Some 3
number_of (Duplicate name) = Some 4
number_of (UnknownArticle name) = Some 5
number_of (JoinCycle article) = Some 6
number_of (JoinTypes article) = Some 7
number_of (TooMany what number) = Some 8
number_of NoMemory = None

-- What notes say of a fault. A key or a name that is no name is in quotes; what stands twice is as the text has it.
abbrev pub words_of : SchemaFault → List ℕ
words_of NotToml = codes "not toml"
words_of (Missing key) = codes "missing " ++ shown_text key
words_of (BadValue key) = codes "bad value " ++ shown_text key
words_of (Duplicate name) = codes "duplicate " ++ name
words_of (UnknownArticle name) = codes "unknown article " ++ shown_text name
words_of (JoinCycle article) = codes "join cycle " ++ shown_text article
words_of (JoinTypes article) = codes "join types " ++ shown_text article
words_of (TooMany what number) = codes "too many " ++ shown_text what ++ 32 ∷ decimal number
words_of NoMemory = codes "no memory"
