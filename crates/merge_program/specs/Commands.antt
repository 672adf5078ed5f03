-- The commands of the program.
use Rattle.std.specs.Prelude.{Bool, List, None, Option, Some, [], codes, false, if◌then◌else◌, length, nat_eq, nat_le, not, option_and_then, option_map, true, ℕ, ◌&&◌, ◌==◌, ◌||◌, ◌∷◌}
use Rattle.std.specs.List.{list_all}
use Rattle.std.specs.Cmp.Lexicographic.{pointwise}
use Rattle.merge_types.specs.declared.identifiers.SiteId.{SiteId}
use Rattle.merge_script.specs.Names.{decimal_of}
use Rattle.merge_wire.specs.Written.{IsVisible}
use Rattle.merge_program.specs.declared.command.Command.{Command}
use Rattle.merge_program.specs.declared.command.Command.TheVariants.{Change, Make, Play, Show, Sync}
use Rattle.merge_program.specs.declared.command.Place.{Place}

-- how many customers a generated script has: a plain decimal from 1 to 20000
abbrev pub customers_of : List ℕ → Option ℕ
customers_of word = option_and_then (λ (n : ℕ). if nat_le 1 n && nat_le n 20000 then Some n else None) (decimal_of word)

abbrev pub by_word : List ℕ → Option Command
by_word word = if pointwise nat_eq word (codes "play") then Some Play else None

abbrev pub by_word_and_number : List ℕ → List ℕ → Option Command
by_word_and_number word number = if pointwise nat_eq word (codes "make") then option_map Make (customers_of number) else None

-- a site's number: a plain decimal up to 65535
abbrev pub site_in : List ℕ → Option SiteId
site_in word = option_and_then (λ (n : ℕ). if nat_le n 65535 then Some (record { 0 = n }) else None) (decimal_of word)

-- a word that begins with a dash stands for no path and no article
abbrev pub is_dashed : List ℕ → Bool
is_dashed [] = false
is_dashed (byte ∷ word) = byte == 45

abbrev pub place_by : (publication store site : List ℕ) → Option Place
place_by publication store site =
    if is_dashed publication || is_dashed store then None
    else option_map (λ (s : SiteId). record { publication = publication; store = store; site = s }) (site_in site)

abbrev pub by_change : (word publication store site : List ℕ) → Option Command
by_change word publication store site = if pointwise nat_eq word (codes "change") then option_map Change (place_by publication store site) else None

abbrev pub by_show : (word publication store site article : List ℕ) → Option Command
by_show word publication store site article =
    if pointwise nat_eq word (codes "show") && not (is_dashed article) then option_map (λ (place : Place). Show place article) (place_by publication store site) else None

-- an address has from 1 to 255 bytes, all visible characters of ASCII
abbrev pub is_visible_byte : ℕ → Bool
is_visible_byte byte = nat_le 33 byte && nat_le byte 126

abbrev pub is_address : List ℕ → Bool
is_address word = nat_le 1 (length word) && (nat_le (length word) 255 && list_all is_visible_byte word)

abbrev pub by_sync : (publication store site address : List ℕ) → Option Command
by_sync publication store site address =
    if is_address address && not (is_dashed address) then option_map (λ (place : Place). Sync place address) (place_by publication store site) else None

abbrev pub by_last : (word publication store site last : List ℕ) → Option Command
by_last word publication store site last =
    if pointwise nat_eq word (codes "sync") then by_sync publication store site last else by_show word publication store site last

-- the command that words say: `play` alone; `make` and a number; `change`, a publication's path, a store's path and a site; `show`, the
-- same and an article; or `sync`, the same and an address
abbrev pub command_of : List (List ℕ) → Option Command
command_of (word ∷ []) = by_word word
command_of (word ∷ number ∷ []) = by_word_and_number word number
command_of (word ∷ publication ∷ store ∷ site ∷ []) = by_change word publication store site
command_of (word ∷ publication ∷ store ∷ site ∷ last ∷ []) = by_last word publication store site last
command_of other = None

-- whether a command reads the input
abbrev pub reads_input : Option Command → Bool
reads_input (Some Play) = true
reads_input (Some (Change place)) = true
reads_input other = false

-- where a command has an address, it is one that a request can have
abbrev pub IsMeant : Command → Type 0
IsMeant (Sync place address) = IsVisible address
IsMeant other = Unit {0}
