-- The words of each event, as a relation that knows no order of reading. Each name, number and row has one meaning, and each event the words that are told here.
use Rattle.std.specs.Prelude.{◌≡◌, ◌↔◌, ℕ, ◌^◌, ◌<◌, ◌≤◌, List, [], ◌∷◌, ◌++◌, length, true, codes, Ok, IsUtf8}
use Rattle.std.specs.Fmt.{decimal}
use Rattle.merge_types.specs.declared.identifiers.SiteId.{SiteId}
use Rattle.merge_types.specs.Literal.{IsLiteral}
use Rattle.merge_types.specs.Rows.{IsRowLiteral}
use Rattle.merge_script.specs.Names.{is_name_text}
use Rattle.merge_script.specs.Words.{words_of}
use Rattle.merge_model.specs.declared.event.NamedValue.{NamedValue}
use Rattle.merge_model.specs.declared.event.Event.{Event}
use Rattle.merge_model.specs.declared.event.Event.TheVariants.{Wait, Insert, Update, Delete, Close, Sync, SendJoin, SendUpload, SendRanges, SendDownload, Deliver, Reinit, Purge, Restart, Show, Partition, Conflicts, Ranges, Generations, Count}
use Rattle.merge_model.specs.declared.event.Line.TheVariants.{Event as Does}
use Rattle.merge_model.specs.Script.Reading.{event_in, line_of}

abbrev pub IsName : List ℕ → Type 0
IsName name = is_name_text name ≡ true

-- a site is a decimal up to 65535
abbrev pub IsSite : SiteId → Type 0
IsSite site = site.0 ≤ 65535

-- the word is COL=VALUE
pub record IsSetting (word : List ℕ) (setting : NamedValue) : Type 0 where
  pub literal : List ℕ
  pub spelled : word ≡ setting.column ++ 61 ∷ literal
  pub named : IsName setting.column
  pub meant : IsLiteral literal setting.value

-- each word is a setting
abbrev pub AreSettings : List (List ℕ) → List NamedValue → Type 0
AreSettings [] [] = Unit {0}
AreSettings [] (setting ∷ settings) = ⊥
AreSettings (word ∷ words) [] = ⊥
AreSettings (word ∷ words) (setting ∷ settings) = IsSetting word setting × AreSettings words settings

-- the words are a keyword and a site
abbrev pub AreOfSite : List (List ℕ) → List ℕ → SiteId → Type 0
AreOfSite words keyword site = (words ≡ keyword ∷ decimal site.0 ∷ []) × IsSite site

-- the words are `send`, a site and what it sends
abbrev pub AreOfSend : List (List ℕ) → SiteId → List ℕ → Type 0
AreOfSend words site message = (words ≡ codes "send" ∷ decimal site.0 ∷ message ∷ []) × IsSite site

-- the words of an event
abbrev pub AreWordsOf : List (List ℕ) → Event → Type 0
AreWordsOf words (Wait seconds) = (words ≡ codes "wait" ∷ decimal seconds ∷ []) × (seconds ≤ 4294967295)
AreWordsOf words (Insert site article values) =
    (settings : List (List ℕ)) × (words ≡ codes "insert" ∷ decimal site.0 ∷ article ∷ settings) × IsSite site × IsName article × AreSettings settings values
AreWordsOf words (Update site article row values) =
    (named : List ℕ) × (settings : List (List ℕ)) × (words ≡ codes "update" ∷ decimal site.0 ∷ article ∷ named ∷ settings)
    × IsSite site × IsName article × IsRowLiteral named row.0 × AreSettings settings values × (0 < length values)
AreWordsOf words (Delete site article row) =
    (named : List ℕ) × (words ≡ codes "delete" ∷ decimal site.0 ∷ article ∷ named ∷ []) × IsSite site × IsName article × IsRowLiteral named row.0
AreWordsOf words (Close site) = AreOfSite words (codes "close") site
AreWordsOf words (Sync site) = AreOfSite words (codes "sync") site
AreWordsOf words (SendJoin site) = AreOfSend words site (codes "join")
AreWordsOf words (SendUpload site) = AreOfSend words site (codes "upload")
AreWordsOf words (SendRanges site) = AreOfSend words site (codes "ranges")
AreWordsOf words (SendDownload site) = AreOfSend words site (codes "download")
AreWordsOf words (Deliver message) = (words ≡ codes "deliver" ∷ decimal message ∷ []) × (message < 2 ^ 64)
AreWordsOf words (Reinit site) = AreOfSite words (codes "reinit") site
AreWordsOf words Purge = words ≡ codes "purge" ∷ []
AreWordsOf words (Restart site) = AreOfSite words (codes "restart") site
AreWordsOf words (Show site article) = (words ≡ codes "show" ∷ decimal site.0 ∷ article ∷ []) × IsSite site × IsName article
AreWordsOf words (Partition site) = AreOfSite words (codes "partition") site
AreWordsOf words (Conflicts site) = AreOfSite words (codes "conflicts") site
AreWordsOf words (Ranges site) = AreOfSite words (codes "ranges") site
AreWordsOf words (Generations site) = AreOfSite words (codes "generations") site
AreWordsOf words (Count site) = AreOfSite words (codes "count") site

-- words are read as an event exactly where they are the words of it
abbrev pub ReadsEvents : Type 0
ReadsEvents = (words : List (List ℕ)) (event : Event) → (event_in words ≡ Ok event) ↔ AreWordsOf words event

-- a line is read as an event exactly where it is a text whose words are those of the event
abbrev pub ReadsLines : Type 0
ReadsLines = (line : List ℕ) (event : Event) → (line_of line ≡ Does event) ↔ (IsUtf8 line × AreWordsOf (words_of line) event)
