-- The events that a script says are typed: its literals are, and no wait is longer than 32 bits say.
use Rattle.std.specs.Char.{to_ascii_lowercase}
use Rattle.std.specs.Int.{from_be_bytes, w128, w32, w64}
use Rattle.std.specs.List.{AllByRecursion, after_first, before_first}
use Rattle.std.specs.Prelude.{Bool, Err, FitsSigned, IfOk, List, None, Ok, Option, Some, [], codes, drop, false, if◌then◌else◌, length, map, nat_le, nat_lt, negsuc, option_and_then, option_map, pos, refl, true, ℕ, ℤ, ◌&&◌, ◌*◌, ◌+◌, ◌-◌, ◌<◌, ◌^◌, ◌≡◌, ◌≤◌, ◌∷◌}
use Rattle.std.specs.Str.{is_utf8}
use Rattle.std.proofs.Common.{arith}
use Rattle.std.proofs.lemmas.Bool.Decides.{nat_tests}
use Rattle.jiff_core.proofs.SignedLemmas.{signed_arith}
use Rattle.uuid.specs.Text.{parsed}
use Rattle.merge_types.specs.declared.identifiers.RowId.{RowId}
use Rattle.merge_types.specs.declared.identifiers.SiteId.{SiteId}
use Rattle.merge_types.specs.declared.values.Value.{Value}
use Rattle.merge_types.specs.declared.values.Value.TheVariants.{Bit, Bytes, Day, Guid, Int, Null, Text}
use Rattle.merge_script.specs.Names.{decimal_of}
use Rattle.merge_script.specs.Words.{is_quiet_by, words_of}
use Rattle.merge_model.specs.Script.Literals.{bytes_of_text, day_of_text, day_written, fits_int, guid_of_text, guid_printed_as, int_of_text, is_day, number_written, or_else, pieces_mean, quoted_of_text, row_of_text, same, some_if, text_between, utf8_only, value_of_text, value_of_word}
use Rattle.merge_model.specs.Script.Reading.{Read, delete_in, deliver_in, ends_before, event_in, events_by, events_of, insert_in, is_equals_sign, line_by, line_of, line_of_words, made_out, message_of, name_of, purge_in, read_at, reader_of, seconds_of, send_in, setting_of, settings_from, settings_in, show_in, site_event_in, site_of, some_settings_from, unknown_in, update_in, wait_in, word_at, ◌>>=◌}
use Rattle.merge_model.specs.declared.event.Event.{Event}
use Rattle.merge_model.specs.declared.event.Event.TheVariants as event
use Rattle.merge_model.specs.declared.event.Line.{Line}
use Rattle.merge_model.specs.declared.event.Line.TheVariants.{Event as Does, NoEvent, Quiet}
use Rattle.merge_model.specs.declared.event.NamedValue.{NamedValue}
use Rattle.merge_model.proofs.Lists.{OfSome, some-map}
use Rattle.merge_typed.specs.Outside.{EventIsTyped, MomentsFit, NamedIsTyped, ValueIsTyped, moment_after}
use Rattle.merge_typed.specs.Scripts.{ScriptsAreTyped}

-- What may be made out.

module _ {X : Type 0} (P : X → Type 0) where
  or-some : (found rest : Option X) → OfSome P found → OfSome P rest → OfSome P (or_else found (λ (next : Unit {0}). rest))
  or-some None rest is more = more
  or-some (Some x) rest is more = is

  if-some : (b : Bool) (x : X) → (b ≡ true → P x) → OfSome P (some_if b x)
  if-some true x is = is refl
  if-some false x is = tt

  then-some : {Y : Type 0} (f : Y → Option X) (found : Option Y) → ((y : Y) → OfSome P (f y)) → OfSome P (option_and_then f found)
  then-some f None each = tt
  then-some f (Some y) each = each y

  made-ok : (number : ℕ) (found : Option X) → OfSome P found → IfOk (made_out number found) P
  made-ok number None is = tt
  made-ok number (Some x) is = is

any-some : {X : Type 0} (found : Option X) → OfSome (λ (x : X). Unit {0}) found
any-some None = tt
any-some (Some x) = tt

bind-ok : {X Y : Type 0} (P : X → Type 0) (Q : Y → Type 0) (read : Read X) (next : X → Read Y) → IfOk read P → ((x : X) → P x → IfOk (next x) Q) → IfOk (read >>= next) Q
bind-ok P Q (Ok x) next is each = each x is
bind-ok P Q (Err number) next is each = tt

-- Literals.

first-true : (a b : Bool) → (a && b) ≡ true → a ≡ true
first-true true b is = refl
first-true false b is = absurd cc

int-fits : (z : ℤ) → fits_int z ≡ true → FitsSigned w64 z
int-fits (pos n) is = let low : n < 2 ^ 63 = grind (arith, nat_tests, is) in omega (arith, signed_arith, low)
int-fits (negsuc n) is = let low : n < 2 ^ 63 = grind (arith, nat_tests, is) in omega (arith, signed_arith, low)

day-fits : (z : ℤ) → is_day z ≡ true → FitsSigned w32 z
day-fits (pos n) is = let low : n ≤ 2932896 = grind (arith, nat_tests, is) in omega (arith, signed_arith, low)
day-fits (negsuc n) is = let low : n < 719162 = grind (arith, nat_tests, is) in omega (arith, signed_arith, low)

below : (n limit : ℕ) → nat_lt n limit ≡ true → n < limit
below n limit is = grind (arith, nat_tests, is)

word-typed : (text : List ℕ) → OfSome ValueIsTyped (value_of_word text)
word-typed text = or-some ValueIsTyped (some_if (same text (codes "null")) Null) _ (if-some ValueIsTyped (same text (codes "null")) Null (λ is. tt))
    (or-some ValueIsTyped (some_if (same text (codes "true")) (Bit true)) _ (if-some ValueIsTyped (same text (codes "true")) (Bit true) (λ is. tt)) (if-some ValueIsTyped (same text (codes "false")) (Bit false) (λ is. tt)))

int-typed : (text : List ℕ) → OfSome (λ (z : ℤ). FitsSigned w64 z) (int_of_text text)
int-typed text = if-some (λ (z : ℤ). FitsSigned w64 z) _ (number_written text) (λ is. int-fits (number_written text) (first-true (fits_int (number_written text)) _ is))

day-typed : (text : List ℕ) → OfSome (λ (z : ℤ). FitsSigned w32 z) (day_of_text text)
day-typed text = if-some (λ (z : ℤ). FitsSigned w32 z) _ (day_written text) (λ is. day-fits (day_written text) (first-true (is_day (day_written text)) _ is))

guid-printed : (text : List ℕ) (number : ℕ) → OfSome (λ (n : ℕ). n < 2 ^ 128) (guid_printed_as text number)
guid-printed text number = if-some (λ (n : ℕ). n < 2 ^ 128) _ number (λ is. below number (2 ^ 128) (first-true (nat_lt number (2 ^ 128)) _ is))

guid-typed : (text : List ℕ) → OfSome (λ (n : ℕ). n < 2 ^ 128) (guid_of_text text)
guid-typed text = (let lower : List ℕ = map to_ascii_lowercase text in
    then-some (λ (n : ℕ). n < 2 ^ 128) (λ (bytes : List ℕ). guid_printed_as lower (from_be_bytes w128 bytes)) (parsed lower) (λ bytes. guid-printed lower (from_be_bytes w128 bytes)))

abbrev IsText : List ℕ → Type 0
IsText bytes = is_utf8 bytes ≡ true

text-typed : (text : List ℕ) → OfSome IsText (quoted_of_text text)
text-typed text = then-some IsText text_between _ (λ inner. then-some IsText utf8_only (pieces_mean (length inner) inner) (λ bytes. if-some IsText (is_utf8 bytes) bytes (λ is. is)))

pub literal-typed : (text : List ℕ) → OfSome ValueIsTyped (value_of_text text)
literal-typed text =
    or-some ValueIsTyped (value_of_word text) _ (word-typed text)
    (or-some ValueIsTyped (option_map (λ (number : ℤ). Int number) (int_of_text text)) _ (some-map (λ (z : ℤ). FitsSigned w64 z) ValueIsTyped (λ (number : ℤ). Int number) (λ z is. is) (int_of_text text) (int-typed text))
    (or-some ValueIsTyped (option_map (λ (day : ℤ). Day day) (day_of_text text)) _ (some-map (λ (z : ℤ). FitsSigned w32 z) ValueIsTyped (λ (day : ℤ). Day day) (λ z is. is) (day_of_text text) (day-typed text))
    (or-some ValueIsTyped (option_map (λ (number : ℕ). Guid number) (guid_of_text text)) _ (some-map (λ (n : ℕ). n < 2 ^ 128) ValueIsTyped (λ (number : ℕ). Guid number) (λ n is. is) (guid_of_text text) (guid-typed text))
    (or-some ValueIsTyped (option_map (λ (bytes : List ℕ). Text bytes) (quoted_of_text text)) _ (some-map IsText ValueIsTyped (λ (bytes : List ℕ). Text bytes) (λ bytes is. is) (quoted_of_text text) (text-typed text))
    (some-map (λ (bytes : List ℕ). Unit {0}) ValueIsTyped (λ (bytes : List ℕ). Bytes bytes) (λ bytes is. tt) (bytes_of_text text) (any-some (bytes_of_text text)))))))

-- Settings.

setting-typed : (word : List ℕ) → OfSome NamedIsTyped (setting_of word)
setting-typed word = then-some NamedIsTyped (λ (column : List ℕ). option_map (λ (value : Value). record { column = column; value = value }) (value_of_text (after_first is_equals_sign word))) (name_of (before_first is_equals_sign word))
    (λ column. some-map ValueIsTyped NamedIsTyped (λ (value : Value). record { column = column; value = value }) (λ value is. is) (value_of_text (after_first is_equals_sign word)) (literal-typed (after_first is_equals_sign word)))

abbrev AllNamed : List NamedValue → Type 0
AllNamed values = AllByRecursion NamedIsTyped values

settings-typed : (number : ℕ) (words : List (List ℕ)) → IfOk (settings_in number words) AllNamed
settings-typed number [] = tt
settings-typed number (word ∷ more) = bind-ok NamedIsTyped AllNamed (made_out number (setting_of word)) (λ (setting : NamedValue). settings_in (number + 1) more >>= λ (settings : List NamedValue). Ok (setting ∷ settings)) (made-ok NamedIsTyped number (setting_of word) (setting-typed word))
    (λ setting is. bind-ok AllNamed AllNamed (settings_in (number + 1) more) (λ (settings : List NamedValue). Ok (setting ∷ settings)) (settings-typed (number + 1) more) (λ settings all. (is, all)))

if-settings : (b : Bool) (number : ℕ) (words : List (List ℕ)) → (let read : Read (List NamedValue) = if b then Err number else settings_from number words in IfOk read AllNamed)
if-settings true number words = tt
if-settings false number words = settings-typed number (drop (number - 1) words)

-- Events, each of which moves the moment by 32 bits at most.

pub record IsSaid (e : Event) : Type 0 where
  pub typed : EventIsTyped e
  pub short : (moment : ℕ) → moment_after moment e ≤ moment + 4294967295

if-ok : (b : Bool) (number : ℕ) (e : Event) → IsSaid e → (let read : Read Event = if b then Ok e else Err number in IfOk read IsSaid)
if-ok true number e is = is
if-ok false number e is = tt

ends-ok : (number : ℕ) (words : List (List ℕ)) (e : Event) → IsSaid e → IfOk (ends_before number words e) IsSaid
ends-ok number words e is = if-ok (nat_lt (length words) number) number e is

stays : (moment : ℕ) → moment ≤ moment + 4294967295
stays moment = omega arith

waits : (seconds : ℕ) → seconds ≤ 4294967295 → (moment : ℕ) → moment + seconds ≤ moment + 4294967295
waits seconds is moment = omega (arith, is)

any-read : {X : Type 0} (read : List ℕ → Option X) (number : ℕ) (words : List (List ℕ)) → IfOk (read_at read number words) (λ (x : X). Unit {0})
any-read {X = X} read number words = made-ok (λ (x : X). Unit {0}) number (option_and_then read (word_at number words)) (any-some (option_and_then read (word_at number words)))

low : (n most : ℕ) → nat_le n most ≡ true → n ≤ most
low n most is = grind (arith, nat_tests, is)

abbrev IsShort : ℕ → Type 0
IsShort seconds = seconds ≤ 4294967295

seconds-short : (word : List ℕ) → OfSome IsShort (seconds_of word)
seconds-short word = then-some IsShort (λ (n : ℕ). some_if (nat_le n 4294967295) n) (decimal_of word) (λ n. if-some IsShort (nat_le n 4294967295) n (low n 4294967295))

wait-said : (words : List (List ℕ)) → IfOk (wait_in words) IsSaid
wait-said words = bind-ok IsShort IsSaid (read_at seconds_of 2 words) (λ (seconds : ℕ). ends_before 3 words (event.Wait seconds)) (made-ok IsShort 2 (option_and_then seconds_of (word_at 2 words)) (then-some IsShort seconds_of (word_at 2 words) seconds-short))
    (λ seconds is. ends-ok 3 words (event.Wait seconds) (record { typed = tt; short = waits seconds is }))

module _ (words : List (List ℕ)) where
  sited : (next : SiteId → Read Event) → ((site : SiteId) → IfOk (next site) IsSaid) → IfOk (read_at site_of 2 words >>= next) IsSaid
  sited next each = bind-ok (λ (site : SiteId). Unit {0}) IsSaid (read_at site_of 2 words) next (any-read site_of 2 words) (λ site none. each site)

  named : (next : List ℕ → Read Event) → ((name : List ℕ) → IfOk (next name) IsSaid) → IfOk (read_at name_of 3 words >>= next) IsSaid
  named next each = bind-ok (λ (name : List ℕ). Unit {0}) IsSaid (read_at name_of 3 words) next (any-read name_of 3 words) (λ name none. each name)

  abbrev insert_rest : SiteId → List ℕ → Read Event
  insert_rest site article = settings_from 4 words >>= λ (values : List NamedValue). Ok (event.Insert site article values)

  insert-said : IfOk (insert_in words) IsSaid
  insert-said = sited (λ (site : SiteId). read_at name_of 3 words >>= insert_rest site) (λ site. named (insert_rest site)
      (λ article. bind-ok AllNamed IsSaid (settings_from 4 words) (λ (values : List NamedValue). Ok (event.Insert site article values)) (settings-typed 4 (drop (4 - 1) words)) (λ values all. record { typed = all; short = stays })))

  abbrev update_row : SiteId → List ℕ → RowId → Read Event
  update_row site article row = some_settings_from 5 words >>= λ (values : List NamedValue). Ok (event.Update site article row values)

  abbrev update_rest : SiteId → List ℕ → Read Event
  update_rest site article = read_at row_of_text 4 words >>= update_row site article

  update-said : IfOk (update_in words) IsSaid
  update-said = sited (λ (site : SiteId). read_at name_of 3 words >>= update_rest site) (λ site. named (update_rest site)
      (λ article. bind-ok (λ (row : RowId). Unit {0}) IsSaid (read_at row_of_text 4 words) (update_row site article) (any-read row_of_text 4 words)
      (λ row none. bind-ok AllNamed IsSaid (some_settings_from 5 words) (λ (values : List NamedValue). Ok (event.Update site article row values)) (if-settings (nat_lt (length words) 5) 5 words) (λ values all. record { typed = all; short = stays }))))

  abbrev delete_row : SiteId → List ℕ → RowId → Read Event
  delete_row site article row = ends_before 5 words (event.Delete site article row)

  abbrev delete_rest : SiteId → List ℕ → Read Event
  delete_rest site article = read_at row_of_text 4 words >>= delete_row site article

  delete-said : IfOk (delete_in words) IsSaid
  delete-said = sited (λ (site : SiteId). read_at name_of 3 words >>= delete_rest site) (λ site. named (delete_rest site)
      (λ article. bind-ok (λ (row : RowId). Unit {0}) IsSaid (read_at row_of_text 4 words) (delete_row site article) (any-read row_of_text 4 words)
      (λ row none. ends-ok 5 words (event.Delete site article row) (record { typed = tt; short = stays }))))

  abbrev show_rest : SiteId → List ℕ → Read Event
  show_rest site article = ends_before 4 words (event.Show site article)

  show-said : IfOk (show_in words) IsSaid
  show-said = sited (λ (site : SiteId). read_at name_of 3 words >>= show_rest site) (λ site. named (show_rest site) (λ article. ends-ok 4 words (event.Show site article) (record { typed = tt; short = stays })))

  deliver-said : IfOk (deliver_in words) IsSaid
  deliver-said = bind-ok (λ (n : ℕ). Unit {0}) IsSaid (read_at decimal_of 2 words) (λ (number : ℕ). ends_before 3 words (event.Deliver number)) (any-read decimal_of 2 words) (λ number none. ends-ok 3 words (event.Deliver number) (record { typed = tt; short = stays }))

  site-said : (make : SiteId → Event) → ((site : SiteId) → IsSaid (make site)) → IfOk (site_event_in make words) IsSaid
  site-said make each = sited (λ (site : SiteId). ends_before 3 words (make site)) (λ site. ends-ok 3 words (make site) (each site))

  purge-said : IfOk (purge_in words) IsSaid
  purge-said = ends-ok 2 words event.Purge (record { typed = tt; short = stays })

abbrev Makes : (SiteId → Event) → Type 0
Makes make = (site : SiteId) → IsSaid (make site)

if-message : (b : Bool) (make : SiteId → Event) (rest : Option (SiteId → Event)) → Makes make → OfSome Makes rest → (let found : Option (SiteId → Event) = if b then Some make else rest in OfSome Makes found)
if-message true make rest is more = is
if-message false make rest is more = more

abbrev make_download : List ℕ → Option (SiteId → Event)
make_download word = if same word (codes "download") then Some event.SendDownload else None

abbrev make_ranges : List ℕ → Option (SiteId → Event)
make_ranges word = if same word (codes "ranges") then Some event.SendRanges else make_download word

abbrev make_upload : List ℕ → Option (SiteId → Event)
make_upload word = if same word (codes "upload") then Some event.SendUpload else make_ranges word

module _ (word : List ℕ) where
  download-made : OfSome Makes (make_download word)
  download-made = if-message (same word (codes "download")) event.SendDownload None (λ site. record { typed = tt; short = stays }) tt

  ranges-made : OfSome Makes (make_ranges word)
  ranges-made = if-message (same word (codes "ranges")) event.SendRanges (make_download word) (λ site. record { typed = tt; short = stays }) download-made

  upload-made : OfSome Makes (make_upload word)
  upload-made = if-message (same word (codes "upload")) event.SendUpload (make_ranges word) (λ site. record { typed = tt; short = stays }) ranges-made

  message-said : OfSome Makes (message_of word)
  message-said = if-message (same word (codes "join")) event.SendJoin (make_upload word) (λ site. record { typed = tt; short = stays }) upload-made

abbrev send_rest : List (List ℕ) → SiteId → (SiteId → Event) → Read Event
send_rest words site make = ends_before 4 words (make site)

send-said : (words : List (List ℕ)) → IfOk (send_in words) IsSaid
send-said words = sited words (λ (site : SiteId). read_at message_of 3 words >>= send_rest words site)
    (λ site. bind-ok Makes IsSaid (read_at message_of 3 words) (send_rest words site) (made-ok Makes 3 (option_and_then message_of (word_at 3 words)) (then-some Makes message_of (word_at 3 words) message-said)) (λ make is. ends-ok 4 words (make site) (is site)))

-- Lines.

abbrev Reader : Type 0
Reader = List (List ℕ) → Read Event

if-reader : (b : Bool) (one other : Reader) (words : List (List ℕ)) → IfOk (one words) IsSaid → IfOk (other words) IsSaid → (let reader : Reader = if b then one else other in IfOk (reader words) IsSaid)
if-reader true one other words is more = is
if-reader false one other words is more = more

-- The words that begin a line, from each on.

abbrev from_count : List ℕ → Reader
from_count first = if same first (codes "count") then site_event_in event.Count else unknown_in

abbrev from_generations : List ℕ → Reader
from_generations first = if same first (codes "generations") then site_event_in event.Generations else from_count first

abbrev from_ranges : List ℕ → Reader
from_ranges first = if same first (codes "ranges") then site_event_in event.Ranges else from_generations first

abbrev from_conflicts : List ℕ → Reader
from_conflicts first = if same first (codes "conflicts") then site_event_in event.Conflicts else from_ranges first

abbrev from_partition : List ℕ → Reader
from_partition first = if same first (codes "partition") then site_event_in event.Partition else from_conflicts first

abbrev from_show : List ℕ → Reader
from_show first = if same first (codes "show") then show_in else from_partition first

abbrev from_restart : List ℕ → Reader
from_restart first = if same first (codes "restart") then site_event_in event.Restart else from_show first

abbrev from_purge : List ℕ → Reader
from_purge first = if same first (codes "purge") then purge_in else from_restart first

abbrev from_reinit : List ℕ → Reader
from_reinit first = if same first (codes "reinit") then site_event_in event.Reinit else from_purge first

abbrev from_deliver : List ℕ → Reader
from_deliver first = if same first (codes "deliver") then deliver_in else from_reinit first

abbrev from_send : List ℕ → Reader
from_send first = if same first (codes "send") then send_in else from_deliver first

abbrev from_sync : List ℕ → Reader
from_sync first = if same first (codes "sync") then site_event_in event.Sync else from_send first

abbrev from_close : List ℕ → Reader
from_close first = if same first (codes "close") then site_event_in event.Close else from_sync first

abbrev from_delete : List ℕ → Reader
from_delete first = if same first (codes "delete") then delete_in else from_close first

abbrev from_update : List ℕ → Reader
from_update first = if same first (codes "update") then update_in else from_delete first

abbrev from_insert : List ℕ → Reader
from_insert first = if same first (codes "insert") then insert_in else from_update first

module _ (first : List ℕ) (words : List (List ℕ)) where
  count-on : IfOk (from_count first words) IsSaid
  count-on = if-reader (same first (codes "count")) (site_event_in event.Count) unknown_in words (site-said words event.Count (λ site. record { typed = tt; short = stays })) tt

  generations-on : IfOk (from_generations first words) IsSaid
  generations-on = if-reader (same first (codes "generations")) (site_event_in event.Generations) (from_count first) words (site-said words event.Generations (λ site. record { typed = tt; short = stays })) count-on

  ranges-on : IfOk (from_ranges first words) IsSaid
  ranges-on = if-reader (same first (codes "ranges")) (site_event_in event.Ranges) (from_generations first) words (site-said words event.Ranges (λ site. record { typed = tt; short = stays })) generations-on

  conflicts-on : IfOk (from_conflicts first words) IsSaid
  conflicts-on = if-reader (same first (codes "conflicts")) (site_event_in event.Conflicts) (from_ranges first) words (site-said words event.Conflicts (λ site. record { typed = tt; short = stays })) ranges-on

  partition-on : IfOk (from_partition first words) IsSaid
  partition-on = if-reader (same first (codes "partition")) (site_event_in event.Partition) (from_conflicts first) words (site-said words event.Partition (λ site. record { typed = tt; short = stays })) conflicts-on

  show-on : IfOk (from_show first words) IsSaid
  show-on = if-reader (same first (codes "show")) show_in (from_partition first) words (show-said words) partition-on

  restart-on : IfOk (from_restart first words) IsSaid
  restart-on = if-reader (same first (codes "restart")) (site_event_in event.Restart) (from_show first) words (site-said words event.Restart (λ site. record { typed = tt; short = stays })) show-on

  purge-on : IfOk (from_purge first words) IsSaid
  purge-on = if-reader (same first (codes "purge")) purge_in (from_restart first) words (purge-said words) restart-on

  reinit-on : IfOk (from_reinit first words) IsSaid
  reinit-on = if-reader (same first (codes "reinit")) (site_event_in event.Reinit) (from_purge first) words (site-said words event.Reinit (λ site. record { typed = tt; short = stays })) purge-on

  deliver-on : IfOk (from_deliver first words) IsSaid
  deliver-on = if-reader (same first (codes "deliver")) deliver_in (from_reinit first) words (deliver-said words) reinit-on

  send-on : IfOk (from_send first words) IsSaid
  send-on = if-reader (same first (codes "send")) send_in (from_deliver first) words (send-said words) deliver-on

  sync-on : IfOk (from_sync first words) IsSaid
  sync-on = if-reader (same first (codes "sync")) (site_event_in event.Sync) (from_send first) words (site-said words event.Sync (λ site. record { typed = tt; short = stays })) send-on

  close-on : IfOk (from_close first words) IsSaid
  close-on = if-reader (same first (codes "close")) (site_event_in event.Close) (from_sync first) words (site-said words event.Close (λ site. record { typed = tt; short = stays })) sync-on

  delete-on : IfOk (from_delete first words) IsSaid
  delete-on = if-reader (same first (codes "delete")) delete_in (from_close first) words (delete-said words) close-on

  update-on : IfOk (from_update first words) IsSaid
  update-on = if-reader (same first (codes "update")) update_in (from_delete first) words (update-said words) delete-on

  insert-on : IfOk (from_insert first words) IsSaid
  insert-on = if-reader (same first (codes "insert")) insert_in (from_update first) words (insert-said words) update-on

  reader-said : IfOk (reader_of first words) IsSaid
  reader-said = if-reader (same first (codes "wait")) wait_in (from_insert first) words (wait-said words) insert-on

words-said : (words : List (List ℕ)) → IfOk (event_in words) IsSaid
words-said [] = tt
words-said (first ∷ more) = reader-said first (first ∷ more)

abbrev LineIsSaid : Line → Type 0
LineIsSaid (Does e) = IsSaid e
LineIsSaid Quiet = Unit {0}
LineIsSaid (NoEvent number) = Unit {0}

by-read : (read : Read Event) → IfOk read IsSaid → LineIsSaid (line_by read)
by-read (Ok e) is = is
by-read (Err number) is = tt

if-line : (b : Bool) (one other : Line) → LineIsSaid one → LineIsSaid other → LineIsSaid (if b then one else other)
if-line true one other is more = is
if-line false one other is more = more

line-said : (line : List ℕ) → LineIsSaid (line_of line)
line-said line = if-line (is_utf8 line) (line_of_words (words_of line)) (NoEvent 0) (if-line (is_quiet_by (words_of line)) Quiet (line_by (event_in (words_of line))) tt (by-read (event_in (words_of line)) (words-said (words_of line)))) tt

-- Scripts.

by-line : (line : Line) (events : List Event) → LineIsSaid line → AllByRecursion EventIsTyped events → AllByRecursion EventIsTyped (events_by line events)
by-line Quiet events is all = all
by-line (Does e) events is all = (is.typed, all)
by-line (NoEvent number) events is all = tt

all-typed : (lines : List (List ℕ)) → AllByRecursion EventIsTyped (events_of lines)
all-typed [] = tt
all-typed (line ∷ lines) = by-line (line_of line) (events_of lines) (line-said line) (all-typed lines)

moments-by : (line : Line) (moment many : ℕ) (events : List Event) → LineIsSaid line → moment + (many + 1) * 4294967295 < 2 ^ 64 → ((later : ℕ) → later + many * 4294967295 < 2 ^ 64 → MomentsFit later events) → MomentsFit moment (events_by line events)
moments-by Quiet moment many events is few rest = rest moment (omega (arith, few))
moments-by (Does e) moment many events is few rest = (let up = is.short moment in (omega (arith, up, few), rest (moment_after moment e) (omega (arith, up, few))))
moments-by (NoEvent number) moment many events is few rest = tt

moments-fit : (lines : List (List ℕ)) (moment : ℕ) → moment + length lines * 4294967295 < 2 ^ 64 → MomentsFit moment (events_of lines)
moments-fit [] moment few = tt
moments-fit (line ∷ lines) moment few = moments-by (line_of line) moment (length lines) (events_of lines) (line-said line) (omega (arith, few)) (λ later low. moments-fit lines later low)

pub scripts-typed : ScriptsAreTyped
scripts-typed lines few = record { values = all-typed lines; moments = moments-fit lines 0 (omega (arith, few)) }
