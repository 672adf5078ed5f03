-- What the grammar spells is read.
use Rattle.std.proofs.Common.{◌≡◌, ◌≢◌, ℕ, zero, suc, ◌-◌, ◌≤◌, false, true, List, [], ◌∷◌, ◌++◌, length, Ok, None, refl, ap, ◌∙◌, arith, append_assoc, length-append}
use Rattle.merge_types.specs.declared.values.Column.{Column}
use Rattle.merge_filter.specs.declared.word.Word.{Word}
use Rattle.merge_filter.specs.declared.word.Word.TheVariants as w
use Rattle.merge_filter.specs.declared.word.Sign.{Sign}
use Rattle.merge_filter.specs.Names.{column_of}
use Rattle.merge_filter.specs.Syntax.{Syntax, Or, And, Not, Compare, IsNull, IsNotNull}
use Rattle.merge_filter.specs.Form.{Read, operand_at, bit_at, sign_at, atom_at, more, many, behind_and, behind_or, behind_not, behind_open, behind_close, conj_of, filter_of, neg_with, neg_at}
use Rattle.merge_filter.specs.Grammar.{Term, column, host, integer, text, bytes, day, guid, bit, Neg, negated, brackets, compared, null, not_null, Conj, conj, Ands, no_and, and, Filter, filter, Ors, no_or, or, term_words, term_operand, neg_words, conj_words, ands_words, filter_words, ors_words, neg_tree, conj_tree, ands_tree, filter_tree, ors_tree, neg_levels, conj_levels, ands_levels, filter_levels, ors_levels}
use Rattle.merge_filter.proofs.Loop.{at_not, at_open, more_none}

module _ (columns : List Column) where
  pub term_reads : (x : Term) (rest : List Word) → operand_at columns (term_words x ++ rest) ≡ Ok (term_operand columns x, rest)
  unfolding operand_at bit_at
  term_reads (column name) rest = refl
  term_reads host rest = refl
  term_reads (integer z) rest = refl
  term_reads (text t d g) rest = refl
  term_reads (bytes bs) rest = refl
  term_reads (day t z g) rest = refl
  term_reads (guid t d n) rest = refl
  term_reads (bit false) rest = refl
  term_reads (bit true) rest = refl

  -- a comparison, whatever follows
  compare_reads : (d : ℕ) (x : Term) (s : Sign) (p : ℕ) (y : Term) (rest : List Word)
      → neg_at columns d ((term_words x ++ w.Sign s p ∷ term_words y) ++ rest) ≡ Ok (Compare (term_operand columns x) s p (term_operand columns y), rest)
  unfolding neg_with behind_not behind_open atom_at operand_at bit_at sign_at
  compare_reads d (column name) s p y rest = rw (term_reads y rest) refl
  compare_reads d host s p y rest = rw (term_reads y rest) refl
  compare_reads d (integer z) s p y rest = rw (term_reads y rest) refl
  compare_reads d (text t u g) s p y rest = rw (term_reads y rest) refl
  compare_reads d (bytes bs) s p y rest = rw (term_reads y rest) refl
  compare_reads d (day t z g) s p y rest = rw (term_reads y rest) refl
  compare_reads d (guid t u n) s p y rest = rw (term_reads y rest) refl
  compare_reads d (bit false) s p y rest = rw (term_reads y rest) refl
  compare_reads d (bit true) s p y rest = rw (term_reads y rest) refl

  above : (k d : ℕ) → suc k ≤ d → d ≢ 0
  above k d h = λ e. omega arith

  no_and_before_or : (cs : Ors) (rest : List Word) → behind_and rest ≡ None → behind_and (ors_words cs ++ rest) ≡ None
  unfolding behind_and
  no_and_before_or no_or rest a = a
  no_and_before_or (or c cs) rest a = refl

  pub closes_and : (rest : List Word) → behind_and (w.Close ∷ rest) ≡ None
  unfolding behind_and
  closes_and rest = refl

  pub closes_or : (rest : List Word) → behind_or (w.Close ∷ rest) ≡ None
  unfolding behind_or
  closes_or rest = refl

  -- one step of each reader

  pub not_step : (d : ℕ) (ws rest : List Word) (t : Syntax) → d ≢ 0 → neg_at columns (d - 1) ws ≡ Ok (t, rest) → neg_at columns d (w.Not ∷ ws) ≡ Ok (Not t, rest)
  unfolding behind_not
  not_step d ws rest t p h = at_not columns d (w.Not ∷ ws) ws p refl ∙ rw h refl

  pub bracket_step : (d : ℕ) (ws rest : List Word) (t : Syntax) → d ≢ 0 → filter_of (neg_at columns (d - 1)) ws ≡ Ok (t, w.Close ∷ rest) → neg_at columns d (w.Open ∷ ws) ≡ Ok (t, rest)
  unfolding behind_not behind_open behind_close
  bracket_step d ws rest t p h = at_open columns d (w.Open ∷ ws) ws p refl refl ∙ rw h refl

  null_step : (d : ℕ) (c : List ℕ) (rest : List Word) → neg_at columns d (w.Name c ∷ w.Is ∷ w.Null ∷ rest) ≡ Ok (IsNull (column_of columns c), rest)
  unfolding neg_with behind_not behind_open atom_at
  null_step d c rest = refl

  not_null_step : (d : ℕ) (c : List ℕ) (rest : List Word) → neg_at columns d (w.Name c ∷ w.Is ∷ w.Not ∷ w.Null ∷ rest) ≡ Ok (IsNotNull (column_of columns c), rest)
  unfolding neg_with behind_not behind_open atom_at
  not_null_step d c rest = refl

  pub conj_step : (item : List Word → Read Syntax) (ws mid : List Word) (t : Syntax) (r : Read Syntax) → item ws ≡ Ok (t, mid) → more behind_and And item many t mid ≡ r → conj_of item ws ≡ r
  unfolding conj_of
  conj_step item ws mid t r h m = rw h m

  pub filter_step : (item : List Word → Read Syntax) (ws mid : List Word) (t : Syntax) (r : Read Syntax) → conj_of item ws ≡ Ok (t, mid) → more behind_or Or (conj_of item) many t mid ≡ r → filter_of item ws ≡ r
  unfolding filter_of
  filter_step item ws mid t r h m = rw h m

  pub and_step : (item : List Word → Read Syntax) (k : ℕ) (left t : Syntax) (ws mid : List Word) (r : Read Syntax) → item ws ≡ Ok (t, mid) → more behind_and And item k (And left t) mid ≡ r → more behind_and And item (suc k) left (w.And ∷ ws) ≡ r
  unfolding more behind_and
  and_step item k left t ws mid r h m = rw h m

  pub or_step : (item : List Word → Read Syntax) (k : ℕ) (left t : Syntax) (ws mid : List Word) (r : Read Syntax) → item ws ≡ Ok (t, mid) → more behind_or Or item k (Or left t) mid ≡ r → more behind_or Or item (suc k) left (w.Or ∷ ws) ≡ r
  unfolding more behind_or
  or_step item k left t ws mid r h m = rw h m

  mutual
    pub neg_reads : (n : Neg) (d : ℕ) (rest : List Word) → length (neg_words n) ≤ many → neg_levels n ≤ d → neg_at columns d (neg_words n ++ rest) ≡ Ok (neg_tree columns n, rest)
    neg_reads (negated n) d rest fits h =
        not_step d (neg_words n ++ rest) rest (neg_tree columns n) (above (neg_levels n) d h) (neg_reads n (d - 1) rest (omega arith) (omega arith))
    neg_reads (brackets f) d rest fits h =
        bracket_step d ((filter_words f ++ w.Close ∷ []) ++ rest) rest (filter_tree columns f) (above (filter_levels f) d h)
        (ap (filter_of (neg_at columns (d - 1))) (append_assoc (filter_words f) (w.Close ∷ []) rest)
        ∙ filter_reads f (d - 1) (w.Close ∷ rest) (omega (arith, length-append (filter_words f) (w.Close ∷ []))) (omega arith) (closes_and rest) (closes_or rest))
    neg_reads (compared x s p y) d rest fits h = compare_reads d x s p y rest
    neg_reads (null c) d rest fits h = null_step d c rest
    neg_reads (not_null c) d rest fits h = not_null_step d c rest

    pub conj_reads : (c : Conj) (d : ℕ) (rest : List Word) → length (conj_words c) ≤ many → conj_levels c ≤ d → behind_and rest ≡ None → conj_of (neg_at columns d) (conj_words c ++ rest) ≡ Ok (conj_tree columns c, rest)
    conj_reads (conj n ns) d rest fits h a =
        conj_step (neg_at columns d) ((neg_words n ++ ands_words ns) ++ rest) (ands_words ns ++ rest) (neg_tree columns n) _
        (ap (neg_at columns d) (append_assoc (neg_words n) (ands_words ns) rest) ∙ neg_reads n d (ands_words ns ++ rest) (omega (arith, length-append (neg_words n) (ands_words ns))) (omega arith))
        (ands_read ns d many (neg_tree columns n) rest (omega (arith, length-append (neg_words n) (ands_words ns))) (omega (arith, length-append (neg_words n) (ands_words ns))) (omega arith) a)

    pub ands_read : (ns : Ands) (d k : ℕ) (left : Syntax) (rest : List Word) → length (ands_words ns) ≤ k → length (ands_words ns) ≤ many → ands_levels ns ≤ d → behind_and rest ≡ None
        → more behind_and And (neg_at columns d) k left (ands_words ns ++ rest) ≡ Ok (ands_tree columns ns left, rest)
    ands_read no_and d k left rest fuel fits h a = more_none behind_and And (neg_at columns d) k left rest a
    ands_read (and n ns) d zero left rest fuel fits h a = absurd (omega arith)
    ands_read (and n ns) d (suc k) left rest fuel fits h a =
        and_step (neg_at columns d) k left (neg_tree columns n) ((neg_words n ++ ands_words ns) ++ rest) (ands_words ns ++ rest) _
        (ap (neg_at columns d) (append_assoc (neg_words n) (ands_words ns) rest) ∙ neg_reads n d (ands_words ns ++ rest) (omega (arith, length-append (neg_words n) (ands_words ns))) (omega arith))
        (ands_read ns d k (And left (neg_tree columns n)) rest (omega (arith, length-append (neg_words n) (ands_words ns))) (omega (arith, length-append (neg_words n) (ands_words ns))) (omega arith) a)

    pub filter_reads : (f : Filter) (d : ℕ) (rest : List Word) → length (filter_words f) ≤ many → filter_levels f ≤ d → behind_and rest ≡ None → behind_or rest ≡ None → filter_of (neg_at columns d) (filter_words f ++ rest) ≡ Ok (filter_tree columns f, rest)
    filter_reads (filter c cs) d rest fits h a o =
        filter_step (neg_at columns d) ((conj_words c ++ ors_words cs) ++ rest) (ors_words cs ++ rest) (conj_tree columns c) _
        (ap (conj_of (neg_at columns d)) (append_assoc (conj_words c) (ors_words cs) rest) ∙ conj_reads c d (ors_words cs ++ rest) (omega (arith, length-append (conj_words c) (ors_words cs))) (omega arith) (no_and_before_or cs rest a))
        (ors_read cs d many (conj_tree columns c) rest (omega (arith, length-append (conj_words c) (ors_words cs))) (omega (arith, length-append (conj_words c) (ors_words cs))) (omega arith) a o)

    pub ors_read : (cs : Ors) (d k : ℕ) (left : Syntax) (rest : List Word) → length (ors_words cs) ≤ k → length (ors_words cs) ≤ many → ors_levels cs ≤ d → behind_and rest ≡ None → behind_or rest ≡ None
        → more behind_or Or (conj_of (neg_at columns d)) k left (ors_words cs ++ rest) ≡ Ok (ors_tree columns cs left, rest)
    ors_read no_or d k left rest fuel fits h a o = more_none behind_or Or (conj_of (neg_at columns d)) k left rest o
    ors_read (or c cs) d zero left rest fuel fits h a o = absurd (omega arith)
    ors_read (or c cs) d (suc k) left rest fuel fits h a o =
        or_step (conj_of (neg_at columns d)) k left (conj_tree columns c) ((conj_words c ++ ors_words cs) ++ rest) (ors_words cs ++ rest) _
        (ap (conj_of (neg_at columns d)) (append_assoc (conj_words c) (ors_words cs) rest) ∙ conj_reads c d (ors_words cs ++ rest) (omega (arith, length-append (conj_words c) (ors_words cs))) (omega arith) (no_and_before_or cs rest a))
        (ors_read cs d k (Or left (conj_tree columns c)) rest (omega (arith, length-append (conj_words c) (ors_words cs))) (omega (arith, length-append (conj_words c) (ors_words cs))) (omega arith) a o)
