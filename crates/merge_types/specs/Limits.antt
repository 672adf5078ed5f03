-- The limits of what sites hold and send: the numbers of `limits`, for definitions and contracts.
use Rattle.std.specs.Prelude.{ℕ, ◌^◌, ℤ, pos, neg_ℤ}

-- the most bytes that the content of a text, or of bytes, has
abbrev pub value_limit : ℕ
value_limit = 4000

-- the most bytes that the values of a row take where they are stored
abbrev pub row_limit : ℕ
row_limit = 8000

-- two versions of a row that would weigh more together conflict in every cell
abbrev pub united_limit : ℕ
united_limit = 7936

-- the most rows of a site, deleted ones whose tombstones it keeps among them
abbrev pub rows_limit : ℕ
rows_limit = 200_000

-- how many entries fill a generation
abbrev pub entry_limit : ℕ
entry_limit = 1000

-- the most generations of a batch
abbrev pub generation_limit : ℕ
generation_limit = 100

-- the most items of a batch
abbrev pub item_limit : ℕ
item_limit = 2000

-- where a counter of a site has come to this, the site takes no further step
abbrev pub counter_limit : ℕ
counter_limit = 2 ^ 61

-- the numbers that sites send one another lie below this
abbrev pub number_limit : ℕ
number_limit = 2 ^ 62

-- the most bytes of a name
abbrev pub name_limit : ℕ
name_limit = 64

-- the most bytes of a filter's text
abbrev pub filter_limit : ℕ
filter_limit = 4000

-- the most bytes of an input that is read whole
abbrev pub input_limit : ℕ
input_limit = 67108864

-- 0001-01-01 and 9999-12-31, counted from 1970-01-01
abbrev pub first_day : ℤ
first_day = neg_ℤ (pos 719_162)

abbrev pub last_day : ℤ
last_day = pos 2_932_896
