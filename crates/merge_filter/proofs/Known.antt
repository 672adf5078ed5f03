-- Where each name is a column, a row with a value for each column is wide enough for the tree.
use Rattle.std.proofs.Common.{◌≡◌, ℕ, suc, ◌≤◌, Bool, true, false, cond, List, [], ◌∷◌, ◌++◌, length, Option, Some, None, refl, sym, arith, subst, ltb}
use Rattle.std.specs.List.{position, position_or_len}
use Rattle.std.proofs.lemmas.Bool.Decides.{nat_tests}
use Rattle.merge_types.specs.declared.values.Column.{Column}
use Rattle.merge_filter.specs.declared.word.Word.{Word}
use Rattle.merge_filter.specs.declared.word.Word.TheVariants as w
use Rattle.merge_filter.specs.Answers.{name_fault, unknown_column_or, mismatch}
use Rattle.merge_filter.specs.Eval.{width, operand_width}
use Rattle.merge_filter.specs.Grammar.{IsFilter, Term, column, host, integer, text, bytes, day, guid, bit, Neg, negated, brackets, compared, null, not_null, Conj, conj, Ands, no_and, and, Filter, filter, Ors, no_or, or, term_words, term_operand, neg_words, conj_words, ands_words, filter_words, ors_words, neg_tree, conj_tree, ands_tree, filter_tree, ors_tree}
use Rattle.merge_filter.specs.Names.{column_of, is_unknown, unknown_name}
use Rattle.merge_filter.specs.Syntax.{Syntax, And, Or}
use Rattle.merge_filter.specs.Types.{unlike_sign}

-- no element passes the test
abbrev AllFail : {X : Type 0} → (X → Bool) → List X → Type 0
AllFail p [] = Unit {0}
AllFail p (x ∷ xs) = (p x ≡ false) × AllFail p xs

cond_none : (b : Bool) (n : ℕ) → cond b (Some n) None ≡ None → b ≡ false
cond_none true n e = absurd cc
cond_none false n e = refl

not_below : (a b : ℕ) → ltb a b ≡ false → b ≤ a
not_below a b e = grind (arith, nat_tests)

none_fails : {X : Type 0} (p : X → Bool) (xs : List X) → length xs ≤ position_or_len p xs → AllFail p xs
none_fails p [] h = tt
none_fails p (x ∷ xs) h = by (p x) refl (none_fails p xs)
  where
    by : (b : Bool) → p x ≡ b → (length xs ≤ position_or_len p xs → AllFail p xs) → (p x ≡ false) × AllFail p xs
    by true e ih = absurd (let k = rw e at h in omega arith)
    by false e ih = (e, ih (let k = rw e at h in omega arith))

all_fail : {X : Type 0} (p : X → Bool) (xs : List X) → position p xs ≡ None → AllFail p xs
all_fail p xs e = none_fails p xs (not_below (position_or_len p xs) (length xs) (cond_none (ltb (position_or_len p xs) (length xs)) (position_or_len p xs) e))

parts : {X : Type 0} (p : X → Bool) (xs ys : List X) → AllFail p (xs ++ ys) → AllFail p xs × AllFail p ys
parts p [] ys h = (tt, h)
parts p (x ∷ xs) ys h = let more = parts p xs ys h.1 in ((h.0, more.0), more.1)

module _ (columns : List Column) where
  abbrev Known : List Word → Type 0
  Known words = AllFail (is_unknown columns) words

  known : (name : List ℕ) → is_unknown columns (w.Name name) ≡ false → suc (column_of columns name) ≤ length columns
  known name e = grind (arith, nat_tests)

  term_width : (x : Term) → Known (term_words x) → operand_width (term_operand columns x) ≤ length columns
  term_width (column name) h = known name h.0
  term_width host h = omega arith
  term_width (integer z) h = omega arith
  term_width (text t d g) h = omega arith
  term_width (bytes bs) h = omega arith
  term_width (day t z g) h = omega arith
  term_width (guid t d n) h = omega arith
  term_width (bit b) h = omega arith

  mutual
    neg_width : (n : Neg) → Known (neg_words n) → width (neg_tree columns n) ≤ length columns
    neg_width (negated n) h = neg_width n h.1
    neg_width (brackets f) h = filter_width f (parts (is_unknown columns) (filter_words f) (w.Close ∷ []) h.1).0
    neg_width (compared x s p y) h =
        let both = parts (is_unknown columns) (term_words x) (w.Sign s p ∷ term_words y) h in
        omega (arith, term_width x both.0, term_width y both.1.1)
    neg_width (null c) h = known c h.0
    neg_width (not_null c) h = known c h.0

    conj_width : (c : Conj) → Known (conj_words c) → width (conj_tree columns c) ≤ length columns
    conj_width (conj n ns) h =
        let both = parts (is_unknown columns) (neg_words n) (ands_words ns) h in
        ands_width ns (neg_tree columns n) (neg_width n both.0) both.1

    ands_width : (ns : Ands) (left : Syntax) → width left ≤ length columns → Known (ands_words ns) → width (ands_tree columns ns left) ≤ length columns
    ands_width no_and left l h = l
    ands_width (and n ns) left l h =
        let both = parts (is_unknown columns) (neg_words n) (ands_words ns) h.1 in
        ands_width ns (And left (neg_tree columns n)) (omega (arith, neg_width n both.0)) both.1

    filter_width : (f : Filter) → Known (filter_words f) → width (filter_tree columns f) ≤ length columns
    filter_width (filter c cs) h =
        let both = parts (is_unknown columns) (conj_words c) (ors_words cs) h in
        ors_width cs (conj_tree columns c) (conj_width c both.0) both.1

    ors_width : (cs : Ors) (left : Syntax) → width left ≤ length columns → Known (ors_words cs) → width (ors_tree columns cs left) ≤ length columns
    ors_width no_or left l h = l
    ors_width (or c cs) left l h =
        let both = parts (is_unknown columns) (conj_words c) (ors_words cs) h.1 in
        ors_width cs (Or left (conj_tree columns c)) (omega (arith, conj_width c both.0)) both.1

no_unknown : (places : List ℕ) (o m : Option ℕ) → unknown_column_or places o (mismatch m) ≡ None → o ≡ None
no_unknown places None m e = refl
no_unknown places (Some index) m e = absurd cc

pub fits : (columns : List Column) (words : List Word) (places : List ℕ) (tree : Syntax) → IsFilter columns 32 words tree → name_fault columns words places tree ≡ None → width tree ≤ length columns
fits columns words places tree (f, spelled, same, levels) e =
    let none : unknown_name columns words ≡ None = no_unknown places (unknown_name columns words) (unlike_sign columns tree) e in
    let all : AllFail (is_unknown columns) (filter_words f) = subst (λ (ws : List Word). AllFail (is_unknown columns) ws) (sym spelled) (all_fail (is_unknown columns) words none) in
    rw (← same) (filter_width columns f all)
