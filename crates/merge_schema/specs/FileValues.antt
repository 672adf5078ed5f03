-- The kinds of values that stand at keys. Each refusal names the key.
use Rattle.std.specs.Prelude.{List, [], ◌∷◌, ℕ, ℤ, pos, negsuc, Bool, length, int_le, nat_le, ◌&&◌, if◌then◌else◌, Option, Some, None, option_map, is_some, Result, Ok, Err}
use Rattle.std.specs.List.{list_all}
use Rattle.toml.specs.Data.{Data, Items, no_items, item, Members, get_member, as_integer, as_str, as_table, as_array}
use Rattle.merge_script.specs.Names.{is_name_text}
use Rattle.merge_schema.specs.declared.fault.SchemaFault.{SchemaFault}
use Rattle.merge_schema.specs.declared.fault.SchemaFault.TheVariants.{Missing, BadValue, TooMany}
use Rattle.merge_schema.specs.Steps.{◌>>=◌}

abbrev pub or_missing : {A : Type 0} → List ℕ → Option A → Result A SchemaFault
or_missing key None = Err (Missing key)
or_missing key (Some x) = Ok x

abbrev pub or_bad : {A : Type 0} → List ℕ → Option A → Result A SchemaFault
or_bad key None = Err (BadValue key)
or_bad key (Some x) = Ok x

-- a value that must be there, of a kind
abbrev pub needed : {A : Type 0} → List ℕ → (List ℕ → Data → Result A SchemaFault) → Members → Result A SchemaFault
needed key kind ms = or_missing key (get_member key ms) >>= kind key

abbrev pub given_or : {A : Type 0} → A → (Data → Result A SchemaFault) → Option Data → Result A SchemaFault
given_or x kind None = Ok x
given_or x kind (Some d) = kind d

-- a value of a kind, with what stands where the key is absent
abbrev pub optional : {A : Type 0} → List ℕ → A → (List ℕ → Data → Result A SchemaFault) → Members → Result A SchemaFault
optional key default kind ms = given_or default (kind key) (get_member key ms)

-- kinds

abbrev pub kept_if : {A : Type 0} → List ℕ → (A → Bool) → A → Result A SchemaFault
kept_if key test x = if test x then Ok x else Err (BadValue key)

abbrev pub any_text : List ℕ → Data → Result (List ℕ) SchemaFault
any_text key d = or_bad key (as_str d)

abbrev pub some_text : List ℕ → Data → Result (Option (List ℕ)) SchemaFault
some_text key d = any_text key d >>= λ text. Ok (Some text)

-- a text of at most so many bytes
abbrev pub text_within : ℕ → List ℕ → Data → Result (List ℕ) SchemaFault
text_within most key d = any_text key d >>= kept_if key (λ text. nat_le (length text) most)

abbrev pub some_text_within : ℕ → List ℕ → Data → Result (Option (List ℕ)) SchemaFault
some_text_within most key d = text_within most key d >>= λ text. Ok (Some text)

abbrev pub name_text : List ℕ → Data → Result (List ℕ) SchemaFault
name_text key d = any_text key d >>= kept_if key is_name_text

abbrev pub integer_from : ℤ → ℤ → List ℕ → Data → Result ℤ SchemaFault
integer_from low high key d = or_bad key (as_integer d) >>= kept_if key (λ z. int_le low z && int_le z high)

abbrev pub natural : ℤ → Option ℕ
natural (pos n) = Some n
natural (negsuc n) = None

abbrev pub count_from : ℕ → ℕ → List ℕ → Data → Result ℕ SchemaFault
count_from low high key d = or_bad key (as_integer d) >>= λ z. or_bad key (natural z) >>= kept_if key (λ n. nat_le low n && nat_le n high)

abbrev pub list_of : Items → List Data
list_of no_items = []
list_of (item d ds) = d ∷ list_of ds

abbrev pub as_list : Data → Option (List Data)
as_list d = option_map list_of (as_array d)

abbrev pub is_table : Data → Bool
is_table d = is_some (as_table d)

abbrev pub not_above : ℕ → List ℕ → List Data → Result (List Data) SchemaFault
not_above most key ds = if nat_le (length ds) most then Ok ds else Err (TooMany key (length ds))

-- an array of tables; one that is too long is told as such before its elements are looked at
abbrev pub tables_from : ℕ → ℕ → List ℕ → Data → Result (List Data) SchemaFault
tables_from least most key d = or_bad key (as_list d) >>= kept_if key (λ ds. nat_le least (length ds)) >>= not_above most key >>= kept_if key (list_all is_table)

abbrev pub one_table : List ℕ → Data → Result Members SchemaFault
one_table key d = or_bad key (as_table d)
