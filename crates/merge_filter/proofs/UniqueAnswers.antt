-- A text has one answer.
use Rattle.std.proofs.Common.{◌≡◌, ℕ, suc, ◌≤◌, ◌<◌, List, [], ◌∷◌, ◌++◌, length, Result, Ok, Err, Option, Some, None, refl, sym, ap, ◌∙◌, arith, append_assoc, length-append, subst, ◌⊎◌, inl, inr, ⊎_elim}
use Rattle.std.proofs.lemmas.Bool.{cases_lt}
use Rattle.std.proofs.lemmas.List.{append-nil}
use Rattle.merge_types.specs.declared.values.Column.{Column}
use Rattle.merge_filter.specs.declared.fault.FilterFault.{FilterFault}
use Rattle.merge_filter.specs.declared.fault.FilterFault.TheVariants as faults
use Rattle.merge_filter.specs.declared.form.Stuck.{Stuck}
use Rattle.merge_filter.specs.declared.tokens.TokenFault.{TokenFault}
use Rattle.merge_filter.specs.declared.tokens.TokenFault.TheVariants as tokens
use Rattle.merge_filter.specs.declared.word.Word.{Word}
use Rattle.merge_filter.specs.Answers.{token_fault, name_fault, place_left, IsBadForm, IsTooDeep, IsReading, IsWordAnswer, IsAnswer}
use Rattle.merge_filter.specs.Form.{many}
use Rattle.merge_filter.specs.Grammar.{IsFilter, Begins, BeginsSome, NoneBeginsWithin, NoneGoesOn}
use Rattle.merge_filter.specs.Syntax.{Syntax}
use Rattle.merge_filter.specs.Tokens.{IsRefusedToken}
use Rattle.merge_filter.specs.Words.{AreAllWords, IsBadToken}
use Rattle.merge_filter.proofs.All.{only}
use Rattle.merge_filter.proofs.UniqueWords.{all_words_one, all_words_fit, bad_token_one, no_bad_token}

-- ---- the form

-- of two ways to part one list the second goes further, by at least a word
abbrev GoesBeyond : List Word → List Word → List Word → Type 0
GoesBeyond front bad front' = (v : Word) × (more : List Word) × (rest : List Word) × (front' ≡ front ++ v ∷ more) × (bad ≡ v ∷ rest)

heads : (u v : Word) (us vs : List Word) → u ∷ us ≡ v ∷ vs → (u ≡ v) × (us ≡ vs)
heads u v us vs e = (cc, cc)

beyond : (front bad front' bad' : List Word) → front ++ bad ≡ front' ++ bad' → length bad' < length bad → GoesBeyond front bad front'
beyond [] [] front' bad' e less = absurd (omega arith)
beyond [] (v ∷ bad) [] bad' e less = absurd (omega (arith, ap length e))
beyond [] (v ∷ bad) (u ∷ front') bad' e less = let h = heads v u bad (front' ++ bad') e in (v, front', bad, ap (λ (x : Word). x ∷ front') (sym h.0), refl)
beyond (u ∷ front) bad [] bad' e less = absurd (omega (arith, ap length e, length-append front bad))
beyond (u ∷ front) bad (v ∷ front') bad' e less =
    let h = heads u v (front ++ bad) (front' ++ bad') e in
    let b = beyond front bad front' bad' h.1 less in
    (b.0, b.1, b.2, ap (λ (x : Word). x ∷ front') (sym h.0) ∙ ap (λ (xs : List Word). u ∷ xs) b.3, b.4)

at_most : (m n : ℕ) → (n < m → ⊥) → m ≤ n
at_most m n never = ⊎_elim (λ less. absurd (never less)) (λ le. le) (cases_lt n m)

more_behind : (front more rest : List Word) (v : Word) → (front ++ v ∷ more) ++ rest ≡ (front ++ v ∷ []) ++ (more ++ rest)
more_behind front more rest v = append_assoc front (v ∷ more) rest ∙ sym (append_assoc front (v ∷ []) (more ++ rest))

-- no filter begins with words behind those at which none goes on
not_beyond : (front bad front' bad' : List Word) → front ++ bad ≡ front' ++ bad' → NoneGoesOn front bad → BeginsSome front' → length bad ≤ length bad'
not_beyond front bad front' bad' e ends (f, rest, s) = at_most (length bad) (length bad') never
  where
    stuck : (b : List Word) (v : Word) (more left : List Word) → NoneGoesOn front b → front' ≡ front ++ v ∷ more → b ≡ v ∷ left → ⊥
    stuck b v more left none same is =
        let here : NoneGoesOn front (v ∷ left) = subst (λ (x : List Word). NoneGoesOn front x) is none in
        here f (more ++ rest) (s ∙ ap (λ (xs : List Word). xs ++ rest) same ∙ more_behind front more rest v)

    never : length bad' < length bad → ⊥
    never less = let b = beyond front bad front' bad' e less in stuck bad b.0 b.1 b.2 ends b.3 b.4

-- no filter within the levels begins with words behind the one that opens a level too many
not_deeper : (front left front' bad' : List Word) (opens : Word) → front ++ opens ∷ left ≡ front' ++ bad' → NoneBeginsWithin 32 (front ++ opens ∷ []) → Begins 32 front' → length (opens ∷ left) ≤ length bad'
not_deeper front left front' bad' opens e none (f, rest, s, levels) = at_most (length (opens ∷ left)) (length bad') never
  where
    never : length bad' < length (opens ∷ left) → ⊥
    never less =
        let b = beyond front (opens ∷ left) front' bad' e less in
        let h = heads opens b.0 left b.2 b.4 in
        let same : front' ≡ front ++ opens ∷ b.1 = b.3 ∙ ap (λ (x : Word). front ++ x ∷ b.1) (sym h.0) in
        none f (b.1 ++ rest) levels (s ∙ ap (λ (xs : List Word). xs ++ rest) same ∙ more_behind front b.1 rest opens)

some_levels : (words : List Word) → Begins 32 words → BeginsSome words
some_levels words (f, more, s, levels) = (f, more, s)

bad_form_one : (text : List ℕ) (words : List Word) (places : List ℕ) (p q : ℕ) → IsBadForm text words places p → IsBadForm text words places q → p ≡ q
bad_form_one text words places p q b c =
    let e : b.front ++ b.bad ≡ c.front ++ c.bad = sym b.split ∙ c.split in
    let first : length b.bad ≤ length c.bad = not_beyond b.front b.bad c.front c.bad e b.ends (some_levels c.front c.begins) in
    let second : length c.bad ≤ length b.bad = not_beyond c.front c.bad b.front b.bad (sym e) c.ends (some_levels b.front b.begins) in
    let same : length b.bad ≡ length c.bad = omega arith in
    b.same ∙ ap (place_left text places) same ∙ sym c.same

whole : (columns : List Column) (words : List Word) (tree : Syntax) → IsFilter columns 32 words tree → Begins 32 words
whole columns words tree (f, s, t, levels) = (f, [], s ∙ sym (append-nil words), levels)

no_bad_form : (columns : List Column) (text : List ℕ) (words : List Word) (places : List ℕ) (tree : Syntax) (place : ℕ) → IsFilter columns 32 words tree → IsBadForm text words places place → ⊥
no_bad_form columns text words places tree place is b = by b.bad b.split b.ends
  where
    by : (bad : List Word) → words ≡ b.front ++ bad → NoneGoesOn b.front bad → ⊥
    by [] split ends = ends is.0 (is.1 ∙ split ∙ append-nil b.front)
    by (v ∷ bad) split ends =
        let none : suc (length bad) ≤ 0 = not_beyond b.front (v ∷ bad) words [] (sym split ∙ sym (append-nil words)) ends (some_levels words (whole columns words tree is)) in
        omega (arith, none)

no_depth : (columns : List Column) (words : List Word) (tree : Syntax) → IsFilter columns 32 words tree → IsTooDeep words → ⊥
no_depth columns words tree is d =
    let none : suc (length d.left) ≤ 0 = not_deeper d.front d.left words [] d.opens (sym d.split ∙ sym (append-nil words)) d.within (whole columns words tree is) in
    omega (arith, none)

not_both : (text : List ℕ) (words : List Word) (places : List ℕ) (place : ℕ) → IsBadForm text words places place → IsTooDeep words → ⊥
not_both text words places place b d =
    let e : d.front ++ d.opens ∷ d.left ≡ b.front ++ b.bad = sym d.split ∙ b.split in
    let above : suc (length d.left) ≤ length b.bad = not_deeper d.front d.left b.front b.bad d.opens e d.within b.begins in
    let below : length b.bad ≤ length d.left = not_beyond b.front b.bad (d.front ++ d.opens ∷ []) d.left (sym e ∙ sym (append_assoc d.front (d.opens ∷ []) d.left)) b.ends d.deeper in
    omega arith

-- ---- the answer for words

abbrev read : Syntax → Result Syntax Stuck
read tree = Ok tree

one_tree : (columns : List Column) (words : List Word) (t u : Syntax) → length words ≤ many → IsFilter columns 32 words t → IsFilter columns 32 words u → t ≡ u
one_tree columns words t u fits is other =
    let same : read t ≡ read u = sym (only columns 32 words t fits is) ∙ only columns 32 words u fits other in
    cc

abbrev Answer : Type 0
Answer = Result Syntax FilterFault

-- what is answered for a filter
abbrev named : Option FilterFault → Syntax → Answer
named None tree = Ok tree
named (Some fault) tree = Err fault

-- which of the three it is
data Sorted (text : List ℕ) (columns : List Column) (words : List Word) (places : List ℕ) (answer : Answer) : Type 0 where
  spelled : (tree : Syntax) → IsFilter columns 32 words tree → answer ≡ named (name_fault columns words places tree) tree → Sorted text columns words places answer
  misformed : (place : ℕ) → IsBadForm text words places place → answer ≡ Err (faults.BadForm place) → Sorted text columns words places answer
  deep : IsTooDeep words → answer ≡ Err faults.TooDeep → Sorted text columns words places answer

sorted : (text : List ℕ) (columns : List Column) (words : List Word) (places : List ℕ) (answer : Answer) → IsReading text columns words places answer → Sorted text columns words places answer
sorted text columns words places (Ok tree) (is, none) = spelled tree is (rw none refl)
sorted text columns words places (Err (faults.BadForm place)) is = misformed place is refl
sorted text columns words places (Err (faults.UnknownColumn place)) (tree, is, e) = spelled tree is (rw e refl)
sorted text columns words places (Err (faults.TypeMismatch place)) (tree, is, e) = spelled tree is (rw e refl)
sorted text columns words places (Err faults.TooDeep) is = deep is refl
sorted text columns words places (Err (faults.BadToken place)) is = absurd is
sorted text columns words places (Err faults.NoMemory) is = absurd is

same_sort : (text : List ℕ) (columns : List Column) (words : List Word) (places : List ℕ) (a b : Answer) → length words ≤ many → Sorted text columns words places a → Sorted text columns words places b → a ≡ b
same_sort text columns words places a b fits (spelled tree is e) (spelled other is' e') =
    let same = one_tree columns words tree other fits is is' in
    e ∙ ap (λ (x : Syntax). named (name_fault columns words places x) x) same ∙ sym e'
same_sort text columns words places a b fits (misformed p is e) (misformed q is' e') = e ∙ ap (λ (n : ℕ). Err (faults.BadForm n)) (bad_form_one text words places p q is is') ∙ sym e'
same_sort text columns words places a b fits (deep is e) (deep is' e') = e ∙ sym e'
same_sort text columns words places a b fits (spelled tree is e) (misformed p is' e') = absurd (no_bad_form columns text words places tree p is is')
same_sort text columns words places a b fits (misformed p is e) (spelled tree is' e') = absurd (no_bad_form columns text words places tree p is' is)
same_sort text columns words places a b fits (spelled tree is e) (deep is' e') = absurd (no_depth columns words tree is is')
same_sort text columns words places a b fits (deep is e) (spelled tree is' e') = absurd (no_depth columns words tree is' is)
same_sort text columns words places a b fits (misformed p is e) (deep is' e') = absurd (not_both text words places p is is')
same_sort text columns words places a b fits (deep is e) (misformed p is' e') = absurd (not_both text words places p is' is)

same_reading : (text : List ℕ) (columns : List Column) (words : List Word) (places : List ℕ) (a b : Answer) → length words ≤ many → IsReading text columns words places a → IsReading text columns words places b → a ≡ b
same_reading text columns words places a b fits is other = same_sort text columns words places a b fits (sorted text columns words places a is) (sorted text columns words places b other)

same_words : (columns : List Column) (text : List ℕ) (a b : Answer) → length text ≤ many → IsWordAnswer columns text a → IsWordAnswer columns text b → a ≡ b
same_words columns text a b fits (words, places, all, is) (words', places', all', is') =
    let s = all_words_one text words words' places places' all all' in
    let short : length words ≤ many = omega (arith, all_words_fit text words places all) in
    let first : IsReading text columns words places' b = subst (λ (ws : List Word). IsReading text columns ws places' b) (sym s.words_are) is' in
    let second : IsReading text columns words places b = subst (λ (ps : List ℕ). IsReading text columns words ps b) (sym s.places_are) first in
    same_reading text columns words places a b short is second

-- ---- the answer for a text

-- either no words can be read, or the words have the answer
data Read (columns : List Column) (text : List ℕ) (answer : Answer) : Type 0 where
  unread : (place : ℕ) → IsBadToken text place → answer ≡ Err (faults.BadToken place) → Read columns text answer
  worded : IsWordAnswer columns text answer → Read columns text answer

as_read : (columns : List Column) (text : List ℕ) (answer : Answer) → IsAnswer columns text answer → Read columns text answer
as_read columns text (Err (faults.BadToken place)) is = unread place is refl
as_read columns text (Err (faults.BadForm place)) is = worded is
as_read columns text (Err (faults.UnknownColumn place)) is = worded is
as_read columns text (Err (faults.TypeMismatch place)) is = worded is
as_read columns text (Err faults.TooDeep) is = worded is
as_read columns text (Err faults.NoMemory) is = worded is
as_read columns text (Ok tree) is = worded is

same_read : (columns : List Column) (text : List ℕ) (a b : Answer) → length text ≤ many → Read columns text a → Read columns text b → a ≡ b
same_read columns text a b fits (unread p is e) (unread q is' e') = e ∙ ap (λ (n : ℕ). Err (faults.BadToken n)) (bad_token_one text p q is is') ∙ sym e'
same_read columns text a b fits (worded is) (worded is') = same_words columns text a b fits is is'
same_read columns text a b fits (unread p is e) (worded (words, places, all, is')) = absurd (no_bad_token text words places p all is)
same_read columns text a b fits (worded (words, places, all, is)) (unread p is' e') = absurd (no_bad_token text words places p all is')

one_answer : (columns : List Column) (text : List ℕ) (a b : Answer) → length text ≤ many → IsAnswer columns text a → IsAnswer columns text b → a ≡ b
one_answer columns text a b fits is other = same_read columns text a b fits (as_read columns text a is) (as_read columns text b other)

-- what is answered, or want of memory
abbrev pub IsAnswerOr : List Column → List ℕ → Answer → Type 0
IsAnswerOr columns text answer = (answer ≡ Err faults.NoMemory) ⊎ IsAnswer columns text answer

as_answer : (columns : List Column) (text : List ℕ) (words : List Word) (places : List ℕ) (answer : Answer) → AreAllWords text words places → IsReading text columns words places answer → IsAnswer columns text answer
as_answer columns text words places (Ok tree) all is = (words, places, all, is)
as_answer columns text words places (Err (faults.BadToken place)) all is = absurd is
as_answer columns text words places (Err (faults.BadForm place)) all is = (words, places, all, is)
as_answer columns text words places (Err (faults.UnknownColumn place)) all is = (words, places, all, is)
as_answer columns text words places (Err (faults.TypeMismatch place)) all is = (words, places, all, is)
as_answer columns text words places (Err faults.TooDeep) all is = (words, places, all, is)
as_answer columns text words places (Err faults.NoMemory) all is = absurd is

pub words_answer : (columns : List Column) (text : List ℕ) (words : List Word) (places : List ℕ) (answer : Answer) → AreAllWords text words places → (answer ≡ Err faults.NoMemory) ⊎ IsReading text columns words places answer → IsAnswerOr columns text answer
words_answer columns text words places answer all is = ⊎_elim (λ e. inl e) (λ r. inr (as_answer columns text words places answer all r)) is

pub no_other : (columns : List Column) (text : List ℕ) (answer : Answer) → length text ≤ many → IsAnswerOr columns text answer → (other : Answer) → IsAnswer columns text other → (answer ≡ Err faults.NoMemory) ⊎ (answer ≡ other)
no_other columns text answer fits is other found = ⊎_elim (λ e. inl e) (λ a. inr (one_answer columns text answer other fits a found)) is

pub token_answer : (columns : List Column) (text : List ℕ) (fault : TokenFault) → IsRefusedToken text fault → IsAnswerOr columns text (Err (token_fault fault))
token_answer columns text tokens.NoMemory is = inl refl
token_answer columns text (tokens.BadToken place) is = inr is
