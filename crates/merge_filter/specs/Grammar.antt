-- The grammar: what each part is made of, the words that spell it, its tree, and the levels that it opens.
use Rattle.std.specs.Prelude.{◌≡◌, ℕ, suc, ◌≤◌, max, ℤ, pos, Bool, true, false, List, [], ◌∷◌, ◌++◌, Option, Some}
use Rattle.merge_types.specs.declared.values.Column.{Column}
use Rattle.merge_types.specs.declared.values.Value.TheVariants as values
use Rattle.merge_filter.specs.declared.word.Word.{Word}
use Rattle.merge_filter.specs.declared.word.Word.TheVariants as w
use Rattle.merge_filter.specs.declared.word.Sign.{Sign}
use Rattle.merge_filter.specs.declared.tree.Operand.{Operand}
use Rattle.merge_filter.specs.declared.tree.Operand.TheVariants as operands
use Rattle.merge_filter.specs.Names.{column_of}
use Rattle.merge_filter.specs.Syntax.{Syntax, Or, And, Not, Compare, IsNull, IsNotNull}

-- operand = column | HOST_NAME "(" ")" | integer | text | bytes | DATE text | GUID text | BIT ("0" | "1")
-- A text behind DATE is a literal of the day, and one behind GUID of the identifier.
pub data Term : Type 0 where
  column : (name : List ℕ) → Term
  host : Term
  integer : (z : ℤ) → Term
  text : (t : List ℕ) (day : Option ℤ) (guid : Option ℕ) → Term
  bytes : (bs : List ℕ) → Term
  day : (t : List ℕ) (z : ℤ) (guid : Option ℕ) → Term
  guid : (t : List ℕ) (day : Option ℤ) (n : ℕ) → Term
  bit : (b : Bool) → Term

mutual
  -- neg = NOT neg | "(" filter ")" | operand cmp operand | column IS NULL | column IS NOT NULL
  pub data Neg : Type 0 where
    negated : (n : Neg) → Neg
    brackets : (f : Filter) → Neg
    compared : (x : Term) (s : Sign) (place : ℕ) (y : Term) → Neg
    null : (name : List ℕ) → Neg
    not_null : (name : List ℕ) → Neg

  -- conj = neg { AND neg }
  pub data Conj : Type 0 where
    conj : (n : Neg) (ns : Ands) → Conj

  pub data Ands : Type 0 where
    no_and : Ands
    and : (n : Neg) (ns : Ands) → Ands

  -- filter = conj { OR conj }
  pub data Filter : Type 0 where
    filter : (c : Conj) (cs : Ors) → Filter

  pub data Ors : Type 0 where
    no_or : Ors
    or : (c : Conj) (cs : Ors) → Ors

abbrev pub bit_number : Bool → ℤ
bit_number false = pos 0
bit_number true = pos 1

abbrev pub term_words : Term → List Word
term_words (column name) = w.Name name ∷ []
term_words host = w.HostName ∷ w.Open ∷ w.Close ∷ []
term_words (integer z) = w.Int z ∷ []
term_words (text t d g) = w.Text t d g ∷ []
term_words (bytes bs) = w.Bytes bs ∷ []
term_words (day t z g) = w.Date ∷ w.Text t (Some z) g ∷ []
term_words (guid t d n) = w.Guid ∷ w.Text t d (Some n) ∷ []
term_words (bit b) = w.Bit ∷ w.Int (bit_number b) ∷ []

abbrev pub term_operand : List Column → Term → Operand
term_operand columns (column name) = operands.Column (column_of columns name)
term_operand columns host = operands.Host
term_operand columns (integer z) = operands.Literal (values.Int z)
term_operand columns (text t d g) = operands.Literal (values.Text t)
term_operand columns (bytes bs) = operands.Literal (values.Bytes bs)
term_operand columns (day t z g) = operands.Literal (values.Day z)
term_operand columns (guid t d n) = operands.Literal (values.Guid n)
term_operand columns (bit b) = operands.Literal (values.Bit b)

-- the words
abbrev mutual
  pub neg_words : Neg → List Word
  neg_words (negated n) = w.Not ∷ neg_words n
  neg_words (brackets f) = w.Open ∷ (filter_words f ++ w.Close ∷ [])
  neg_words (compared x s p y) = term_words x ++ w.Sign s p ∷ term_words y
  neg_words (null c) = w.Name c ∷ w.Is ∷ w.Null ∷ []
  neg_words (not_null c) = w.Name c ∷ w.Is ∷ w.Not ∷ w.Null ∷ []

  pub conj_words : Conj → List Word
  conj_words (conj n ns) = neg_words n ++ ands_words ns

  pub ands_words : Ands → List Word
  ands_words no_and = []
  ands_words (and n ns) = w.And ∷ (neg_words n ++ ands_words ns)

  pub filter_words : Filter → List Word
  filter_words (filter c cs) = conj_words c ++ ors_words cs

  pub ors_words : Ors → List Word
  ors_words no_or = []
  ors_words (or c cs) = w.Or ∷ (conj_words c ++ ors_words cs)

-- the tree, in which AND and OR group to the left
abbrev mutual
  pub neg_tree : List Column → Neg → Syntax
  neg_tree columns (negated n) = Not (neg_tree columns n)
  neg_tree columns (brackets f) = filter_tree columns f
  neg_tree columns (compared x s p y) = Compare (term_operand columns x) s p (term_operand columns y)
  neg_tree columns (null c) = IsNull (column_of columns c)
  neg_tree columns (not_null c) = IsNotNull (column_of columns c)

  pub conj_tree : List Column → Conj → Syntax
  conj_tree columns (conj n ns) = ands_tree columns ns (neg_tree columns n)

  pub ands_tree : List Column → Ands → Syntax → Syntax
  ands_tree columns no_and left = left
  ands_tree columns (and n ns) left = ands_tree columns ns (And left (neg_tree columns n))

  pub filter_tree : List Column → Filter → Syntax
  filter_tree columns (filter c cs) = ors_tree columns cs (conj_tree columns c)

  pub ors_tree : List Column → Ors → Syntax → Syntax
  ors_tree columns no_or left = left
  ors_tree columns (or c cs) left = ors_tree columns cs (Or left (conj_tree columns c))

-- how many levels are open at most
abbrev mutual
  pub neg_levels : Neg → ℕ
  neg_levels (negated n) = suc (neg_levels n)
  neg_levels (brackets f) = suc (filter_levels f)
  neg_levels (compared x s p y) = 0
  neg_levels (null c) = 0
  neg_levels (not_null c) = 0

  pub conj_levels : Conj → ℕ
  conj_levels (conj n ns) = max (neg_levels n) (ands_levels ns)

  pub ands_levels : Ands → ℕ
  ands_levels no_and = 0
  ands_levels (and n ns) = max (neg_levels n) (ands_levels ns)

  pub filter_levels : Filter → ℕ
  filter_levels (filter c cs) = max (conj_levels c) (ors_levels cs)

  pub ors_levels : Ors → ℕ
  ors_levels no_or = 0
  ors_levels (or c cs) = max (conj_levels c) (ors_levels cs)

-- the words are a filter of this tree, with at most so many levels open
abbrev pub IsFilter : List Column → ℕ → List Word → Syntax → Type 0
IsFilter columns levels words tree = (f : Filter) × (filter_words f ≡ words) × (filter_tree columns f ≡ tree) × (filter_levels f ≤ levels)

-- some filter with at most so many levels open begins with these words
abbrev pub Begins : ℕ → List Word → Type 0
Begins levels words = (f : Filter) × (more : List Word) × (filter_words f ≡ words ++ more) × (filter_levels f ≤ levels)

abbrev pub BeginsSome : List Word → Type 0
BeginsSome words = (f : Filter) × (more : List Word) × (filter_words f ≡ words ++ more)

-- no filter begins with these words
abbrev pub NoneBegins : List Word → Type 0
NoneBegins words = (f : Filter) (more : List Word) → filter_words f ≡ words ++ more → ⊥

-- no filter with at most so many levels open begins with these words
abbrev pub NoneBeginsWithin : ℕ → List Word → Type 0
NoneBeginsWithin levels words = (f : Filter) (more : List Word) → filter_levels f ≤ levels → filter_words f ≡ words ++ more → ⊥

-- no filter goes on with the first of the words that are left; where none is left, the words before are no filter
abbrev pub NoneGoesOn : List Word → List Word → Type 0
NoneGoesOn front [] = (f : Filter) → filter_words f ≡ front → ⊥
NoneGoesOn front (v ∷ left) = NoneBegins (front ++ v ∷ [])
