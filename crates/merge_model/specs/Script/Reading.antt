-- What the lines of a script say. Words are counted from 1, and a word that is missing counts as the one behind the last.
use Rattle.std.specs.Prelude.{◌≡◌, ◌≤◌, MatchOption, take, ℕ, ◌+◌, ◌-◌, List, [], ◌∷◌, Bool, true, false, nat_lt, nat_le, ◌==◌, ◌||◌, if◌then◌else◌, codes, length, drop, slice_get, Option, Some, None, option_map, option_and_then, Result, Ok, Err}
use Rattle.std.specs.List.{before_first, after_first}
use Rattle.std.specs.Str.{is_utf8}
use Rattle.merge_types.specs.declared.identifiers.SiteId.{SiteId}
use Rattle.merge_script.specs.Names.{decimal_of, is_name_text}
use Rattle.merge_script.specs.Words.{words_of, is_quiet_by}
use Rattle.merge_model.specs.declared.event.NamedValue.{NamedValue}
use Rattle.merge_model.specs.declared.event.Event.{Event}
use Rattle.merge_model.specs.declared.event.Event.TheVariants.{Wait, Insert, Update, Delete, Close, Sync, SendJoin, SendUpload, SendRanges, SendDownload, Deliver, Reinit, Purge, Restart, Show, Partition, Conflicts, Ranges, Generations, Count}
use Rattle.merge_model.specs.declared.event.Line.{Line}
use Rattle.merge_model.specs.declared.event.Line.TheVariants.{Quiet, Event as Does, NoEvent}
use Rattle.merge_model.specs.Script.Literals.{same, some_if, row_of_text, value_of_text}

-- What single words say.

-- a number up to a greatest one
abbrev pub number_up_to : ℕ → List ℕ → Option ℕ
number_up_to most word = option_and_then (λ n. some_if (nat_le n most) n) (decimal_of word)

abbrev pub seconds_of : List ℕ → Option ℕ
seconds_of word = number_up_to 4294967295 word

abbrev pub site_of : List ℕ → Option SiteId
site_of word = option_map (λ n. record { 0 = n }) (number_up_to 65535 word)

abbrev pub name_of : List ℕ → Option (List ℕ)
name_of word = some_if (is_name_text word) word

abbrev pub is_equals_sign : ℕ → Bool
is_equals_sign byte = byte == 61

-- COL=VALUE
abbrev pub setting_of : List ℕ → Option NamedValue
setting_of word =
    option_and_then
    (λ column. option_map (λ value. record { column = column; value = value }) (value_of_text (after_first is_equals_sign word)))
    (name_of (before_first is_equals_sign word))

-- what a site sends
abbrev pub message_of : List ℕ → Option (SiteId → Event)
message_of word =
    if same word (codes "join") then Some SendJoin
    else (if same word (codes "upload") then Some SendUpload
    else (if same word (codes "ranges") then Some SendRanges
    else (if same word (codes "download") then Some SendDownload
    else None)))

-- What lines say: an event, or the number of the first wrong word.

abbrev pub Read : Type 0 → Type 0
Read A = Result A ℕ

infixl 10 ◌>>=◌
abbrev pub ◌>>=◌ : {A B : Type 0} → Read A → (A → Read B) → Read B
Ok x >>= next = next x
Err number >>= next = Err number

-- what is made out of a word, which is wrong where nothing is
abbrev pub made_out : {A : Type 0} → ℕ → Option A → Read A
made_out number (Some x) = Ok x
made_out number None = Err number

-- the word with this number
abbrev pub word_at : ℕ → List (List ℕ) → Option (List ℕ)
word_at number words = slice_get words (number - 1)

abbrev pub read_at : {A : Type 0} → (List ℕ → Option A) → ℕ → List (List ℕ) → Read A
read_at read number words = made_out number (option_and_then read (word_at number words))

-- no word has this number
abbrev pub ends_before : ℕ → List (List ℕ) → Event → Read Event
ends_before number words event = if nat_lt (length words) number then Ok event else Err number

-- each word is COL=VALUE, of which the first has this number
abbrev pub settings_in : ℕ → List (List ℕ) → Read (List NamedValue)
settings_in number [] = Ok []
settings_in number (word ∷ more) = do
  setting ← made_out number (setting_of word)
  settings ← settings_in (number + 1) more
  Ok (setting ∷ settings)

-- the words from this number on
abbrev pub settings_from : ℕ → List (List ℕ) → Read (List NamedValue)
settings_from number words = settings_in number (drop (number - 1) words)

-- at least one
abbrev pub some_settings_from : ℕ → List (List ℕ) → Read (List NamedValue)
some_settings_from number words = if nat_lt (length words) number then Err number else settings_from number words

-- The events, each by the words of its line.

abbrev pub wait_in : List (List ℕ) → Read Event
wait_in words = do
  seconds ← read_at seconds_of 2 words
  ends_before 3 words (Wait seconds)

abbrev pub insert_in : List (List ℕ) → Read Event
insert_in words = do
  site ← read_at site_of 2 words
  article ← read_at name_of 3 words
  values ← settings_from 4 words
  Ok (Insert site article values)

abbrev pub update_in : List (List ℕ) → Read Event
update_in words = do
  site ← read_at site_of 2 words
  article ← read_at name_of 3 words
  row ← read_at row_of_text 4 words
  values ← some_settings_from 5 words
  Ok (Update site article row values)

abbrev pub delete_in : List (List ℕ) → Read Event
delete_in words = do
  site ← read_at site_of 2 words
  article ← read_at name_of 3 words
  row ← read_at row_of_text 4 words
  ends_before 5 words (Delete site article row)

abbrev pub send_in : List (List ℕ) → Read Event
send_in words = do
  site ← read_at site_of 2 words
  message ← read_at message_of 3 words
  ends_before 4 words (message site)

abbrev pub deliver_in : List (List ℕ) → Read Event
deliver_in words = do
  message ← read_at decimal_of 2 words
  ends_before 3 words (Deliver message)

abbrev pub show_in : List (List ℕ) → Read Event
show_in words = do
  site ← read_at site_of 2 words
  article ← read_at name_of 3 words
  ends_before 4 words (Show site article)

-- an event of a site alone
abbrev pub site_event_in : (SiteId → Event) → List (List ℕ) → Read Event
site_event_in event words = do
  site ← read_at site_of 2 words
  ends_before 3 words (event site)

abbrev pub purge_in : List (List ℕ) → Read Event
purge_in words = ends_before 2 words Purge

abbrev pub unknown_in : List (List ℕ) → Read Event
unknown_in words = Err 1

-- how the first word says that the words are read
abbrev pub reader_of : List ℕ → List (List ℕ) → Read Event
reader_of first =
    if same first (codes "wait") then wait_in
    else (if same first (codes "insert") then insert_in
    else (if same first (codes "update") then update_in
    else (if same first (codes "delete") then delete_in
    else (if same first (codes "close") then site_event_in Close
    else (if same first (codes "sync") then site_event_in Sync
    else (if same first (codes "send") then send_in
    else (if same first (codes "deliver") then deliver_in
    else (if same first (codes "reinit") then site_event_in Reinit
    else (if same first (codes "purge") then purge_in
    else (if same first (codes "restart") then site_event_in Restart
    else (if same first (codes "show") then show_in
    else (if same first (codes "partition") then site_event_in Partition
    else (if same first (codes "conflicts") then site_event_in Conflicts
    else (if same first (codes "ranges") then site_event_in Ranges
    else (if same first (codes "generations") then site_event_in Generations
    else (if same first (codes "count") then site_event_in Count
    else unknown_in))))))))))))))))

abbrev pub event_in : List (List ℕ) → Read Event
event_in [] = Err 1
event_in (first ∷ more) = reader_of first (first ∷ more)

abbrev pub line_by : Read Event → Line
line_by (Ok event) = Does event
line_by (Err number) = NoEvent number

-- what the words of a line say
abbrev pub line_of_words : List (List ℕ) → Line
line_of_words words = if is_quiet_by words then Quiet else line_by (event_in words)

-- what a line says
abbrev pub line_of : List ℕ → Line
line_of line = if is_utf8 line then line_of_words (words_of line) else NoEvent 0

-- Lines of a script, one after the other.

-- the event of a line before those of the lines behind it; a line that is no event hides these
abbrev pub events_by : Line → List Event → List Event
events_by Quiet behind = behind
events_by (Does event) behind = event ∷ behind
events_by (NoEvent word) behind = []

-- the events of the lines before the first that is no event
abbrev pub events_of : List (List ℕ) → List Event
events_of [] = []
events_of (line ∷ lines) = events_by (line_of line) (events_of lines)

-- the numbers of the line, if it is no event, and of its first wrong word
abbrev pub fault_by : ℕ → Line → Option (ℕ × ℕ) → Option (ℕ × ℕ)
fault_by number Quiet behind = behind
fault_by number (Does event) behind = behind
fault_by number (NoEvent word) behind = Some (number, word)

-- the first line that is no event, of lines that are counted from a number on, and its first wrong word
abbrev pub fault_from : ℕ → List (List ℕ) → Option (ℕ × ℕ)
fault_from number [] = None
fault_from number (line ∷ lines) = fault_by number (line_of line) (fault_from (number + 1) lines)

abbrev pub fault_of : List (List ℕ) → Option (ℕ × ℕ)
fault_of lines = fault_from 1 lines

abbrev pub is_no_event : Line → Bool
is_no_event Quiet = false
is_no_event (Does event) = false
is_no_event (NoEvent word) = true

-- some line is no event
abbrev pub has_no_event : List (List ℕ) → Bool
has_no_event [] = false
has_no_event (line ∷ lines) = is_no_event (line_of line) || has_no_event lines

-- the first line that is no event has this number, and its first wrong word has that one; the events are those of the lines before it
pub record IsFirstFault (lines : List (List ℕ)) (number word : ℕ) : Type 0 where
  pub from_one : 1 ≤ number
  pub says : option_map line_of (slice_get lines (number - 1)) ≡ Some (NoEvent word)
  pub before : has_no_event (take (number - 1) lines) ≡ false
  pub events : events_of lines ≡ events_of (take (number - 1) lines)

-- a fault is the first one, and where there is none each line is quiet or an event
abbrev pub FindsFirstFault : Type 0
FindsFirstFault = (lines : List (List ℕ)) → MatchOption (fault_of lines) (has_no_event lines ≡ false) (λ fault. IsFirstFault lines fault.0 fault.1)
