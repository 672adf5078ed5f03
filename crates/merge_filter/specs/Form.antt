-- Reading words from left to right, with the first fault that is met.
use Rattle.std.specs.Prelude.{◌≡◌, ℕ, zero, suc, ◌-◌, ◌^◌, ℤ, pos, Bool, true, false, List, [], ◌∷◌, length, Result, Ok, Err, Option, Some, None}
use Rattle.merge_types.specs.declared.values.Column.{Column}
use Rattle.merge_types.specs.declared.values.Value.{Value}
use Rattle.merge_types.specs.declared.values.Value.TheVariants as values
use Rattle.merge_filter.specs.declared.form.Stuck.{Stuck}
use Rattle.merge_filter.specs.declared.form.Stuck.TheVariants.{BadForm, TooDeep}
use Rattle.merge_filter.specs.declared.form.FormFault.{FormFault}
use Rattle.merge_filter.specs.declared.form.FormFault.TheVariants as faults
use Rattle.merge_filter.specs.declared.word.Word.{Word}
use Rattle.merge_filter.specs.declared.word.Word.TheVariants as w
use Rattle.merge_filter.specs.declared.tree.Operand.{Operand}
use Rattle.merge_filter.specs.declared.tree.Operand.TheVariants as operands
use Rattle.merge_filter.specs.Names.{column_of}
use Rattle.merge_filter.specs.Syntax.{Syntax, Or, And, Not, Compare, IsNull, IsNotNull}

infixl 10 ◌>>=◌
abbrev pub ◌>>=◌ : {A B : Type 0} → Result A Stuck → (A → Result B Stuck) → Result B Stuck
(Ok x) >>= f = f x
(Err e) >>= f = Err e

-- what a function returned, seen by view, is what reading gives, unless memory ran out
abbrev pub Fails : {Y : Type 0} → FormFault → Result Y Stuck → Type 0
Fails faults.NoMemory read = Unit {0}
Fails (faults.Stuck f) read = read ≡ Err f

abbrev pub Gives : {X Y : Type 0} → (X → Y) → Result X FormFault → Result Y Stuck → Type 0
Gives view (Ok x) read = read ≡ Ok (view x)
Gives view (Err e) read = Fails e read

-- what was read, and the words behind it
abbrev pub Read : Type 0 → Type 0
Read A = Result (A × List Word) Stuck

-- no filter goes on with these words
abbrev pub stuck_before : {A : Type 0} → List Word → Result A Stuck
stuck_before ws = Err (BadForm (length ws))

abbrev pub literal : Value → List Word → Read Operand
literal v ws = Ok (operands.Literal v, ws)

abbrev pub bit_of : ℤ → Option Bool
bit_of (pos zero) = Some false
bit_of (pos (suc zero)) = Some true
bit_of z = None

abbrev pub bit_with : Option Bool → List Word → List Word → Read Operand
bit_with None ws rest = stuck_before ws
bit_with (Some b) ws rest = literal (values.Bit b) rest

unfoldable pub bit_at : List Word → Read Operand
bit_at (w.Int z ∷ ws) = bit_with (bit_of z) (w.Int z ∷ ws) ws
bit_at ws = stuck_before ws

unfoldable pub operand_at : List Column → List Word → Read Operand
operand_at columns (w.Name name ∷ ws) = Ok (operands.Column (column_of columns name), ws)
operand_at columns (w.HostName ∷ w.Open ∷ w.Close ∷ ws) = Ok (operands.Host, ws)
operand_at columns (w.HostName ∷ w.Open ∷ ws) = stuck_before ws
operand_at columns (w.HostName ∷ ws) = stuck_before ws
operand_at columns (w.Int z ∷ ws) = literal (values.Int z) ws
operand_at columns (w.Text bytes day guid ∷ ws) = literal (values.Text bytes) ws
operand_at columns (w.Bytes bytes ∷ ws) = literal (values.Bytes bytes) ws
operand_at columns (w.Date ∷ w.Text bytes (Some day) guid ∷ ws) = literal (values.Day day) ws
operand_at columns (w.Date ∷ ws) = stuck_before ws
operand_at columns (w.Guid ∷ w.Text bytes day (Some guid) ∷ ws) = literal (values.Guid guid) ws
operand_at columns (w.Guid ∷ ws) = stuck_before ws
operand_at columns (w.Bit ∷ ws) = bit_at ws
operand_at columns ws = stuck_before ws

-- a sign and an operand, behind an operand
unfoldable pub sign_at : List Column → Operand → List Word → Read Syntax
sign_at columns x (w.Sign s place ∷ ws) = operand_at columns ws >>= λ y. Ok (Compare x s place y.0, y.1)
sign_at columns x ws = stuck_before ws

-- a test without brackets
unfoldable pub atom_at : List Column → List Word → Read Syntax
atom_at columns (w.Name name ∷ w.Is ∷ w.Null ∷ ws) = Ok (IsNull (column_of columns name), ws)
atom_at columns (w.Name name ∷ w.Is ∷ w.Not ∷ w.Null ∷ ws) = Ok (IsNotNull (column_of columns name), ws)
atom_at columns (w.Name name ∷ w.Is ∷ w.Not ∷ ws) = stuck_before ws
atom_at columns (w.Name name ∷ w.Is ∷ ws) = stuck_before ws
atom_at columns ws = operand_at columns ws >>= λ x. sign_at columns x.0 x.1

-- the words behind an AND, an OR and a closing bracket
unfoldable pub behind_and : List Word → Option (List Word)
behind_and (w.And ∷ ws) = Some ws
behind_and ws = None

unfoldable pub behind_or : List Word → Option (List Word)
behind_or (w.Or ∷ ws) = Some ws
behind_or ws = None

unfoldable pub behind_not : List Word → Option (List Word)
behind_not (w.Not ∷ ws) = Some ws
behind_not ws = None

unfoldable pub behind_open : List Word → Option (List Word)
behind_open (w.Open ∷ ws) = Some ws
behind_open ws = None

unfoldable pub behind_close : List Word → Result (List Word) Stuck
behind_close (w.Close ∷ ws) = Ok ws
behind_close ws = stuck_before ws

-- goes on with what is there, or else is done
abbrev pub go_or : {A B : Type 0} → Option A → B → (A → B) → B
go_or None done go = done
go_or (Some x) done go = go x

-- further parts, each behind its word, at most so many
unfoldable pub more : (List Word → Option (List Word)) → (Syntax → Syntax → Syntax) → (List Word → Read Syntax) → ℕ → Syntax → List Word → Read Syntax
more behind join item zero left ws = Ok (left, ws)
more behind join item (suc n) left ws = go_or (behind ws) (Ok (left, ws)) (λ after. item after >>= λ x. more behind join item n (join left x.0) x.1)

-- as many further parts as a text can have
abbrev pub many : ℕ
many = 2 ^ 64 - 1

unfoldable pub conj_of : (List Word → Read Syntax) → List Word → Read Syntax
conj_of item ws = item ws >>= λ x. more behind_and And item many x.0 x.1

unfoldable pub filter_of : (List Word → Read Syntax) → List Word → Read Syntax
filter_of item ws = conj_of item ws >>= λ x. more behind_or Or (conj_of item) many x.0 x.1

-- what stands in the level that the first of these words opens, or too deep where there is none
abbrev pub in_level : {A : Type 0} → List Word → Option (List Word → Read Syntax) → ((List Word → Read Syntax) → Result A Stuck) → Result A Stuck
in_level ws None go = Err (TooDeep (length ws))
in_level ws (Some deeper) go = go deeper

-- a part, where deeper reads a part of the next level
unfoldable pub neg_with : List Column → Option (List Word → Read Syntax) → List Word → Read Syntax
neg_with columns deeper ws =
    go_or (behind_not ws)
    (go_or (behind_open ws) (atom_at columns ws)
    (λ after. in_level ws deeper (λ item. filter_of item after >>= λ x. behind_close x.1 >>= λ rest. Ok (x.0, rest))))
    (λ after. in_level ws deeper (λ item. item after >>= λ x. Ok (Not x.0, x.1)))

-- a part of the next level, where so many more levels may be opened
unfoldable pub below : List Column → ℕ → Option (List Word → Read Syntax)
below columns zero = None
below columns (suc d) = Some (neg_with columns (below columns d))

-- a part, where so many more levels may be opened
abbrev pub neg_at : List Column → ℕ → List Word → Read Syntax
neg_at columns d = neg_with columns (below columns d)

-- all of the words
abbrev pub syntax_if_ended : Syntax → List Word → Result Syntax Stuck
syntax_if_ended x [] = Ok x
syntax_if_ended x (v ∷ ws) = stuck_before (v ∷ ws)

unfoldable pub all_of : List Column → ℕ → List Word → Result Syntax Stuck
all_of columns d ws = filter_of (neg_at columns d) ws >>= λ x. syntax_if_ended x.0 x.1
