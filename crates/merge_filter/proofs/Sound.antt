-- What is read is spelled so by the grammar.
use Rattle.std.proofs.Common.{◌≡◌, ℕ, ℤ, pos, negsuc, zero, suc, ◌≤◌, false, true, List, [], ◌∷◌, ◌++◌, Result, Ok, Err, Option, Some, None, refl, sym, ap, ◌∙◌, arith, append_assoc}
use Rattle.merge_types.specs.declared.values.Column.{Column}
use Rattle.merge_filter.specs.declared.form.Stuck.{Stuck}
use Rattle.merge_filter.specs.declared.word.Word.{Word}
use Rattle.merge_filter.specs.declared.word.Word.TheVariants as w
use Rattle.merge_filter.specs.declared.tree.Operand.{Operand}
use Rattle.merge_filter.specs.Syntax.{Syntax, Or, And, Not, Compare}
use Rattle.merge_filter.specs.Form.{◌>>=◌, Read, bit_of, bit_with, bit_at, operand_at, sign_at, atom_at, more, many, go_or, in_level, behind_and, behind_or, behind_not, behind_open, behind_close, conj_of, filter_of, neg_with, below, neg_at}
use Rattle.merge_filter.specs.Grammar.{Term, column, host, integer, text, bytes, day, guid, bit, Neg, negated, brackets, compared, null, not_null, Conj, conj, Ands, no_and, and, Filter, filter, Ors, no_or, or, term_words, term_operand, neg_words, conj_words, ands_words, filter_words, ors_words, neg_tree, conj_tree, ands_tree, filter_tree, ors_tree, neg_levels, conj_levels, ands_levels, filter_levels, ors_levels}

-- the value of a step that did not fail
pub bind_ok : {A B : Type 0} (r : Result A Stuck) (f : A → Result B Stuck) (y : B) → (r >>= f) ≡ Ok y → (x : A) × (r ≡ Ok x) × (f x ≡ Ok y)
bind_ok (Ok x) f y e = (x, refl, e)
bind_ok (Err d) f y e = absurd cc

-- an answer of two parts
abbrev pub read : {A : Type 0} → A → List Word → Read A
read x ws = Ok (x, ws)

pub read_is : {A : Type 0} (x y : A) (ws us : List Word) → read x ws ≡ read y us → (x ≡ y) × (ws ≡ us)
read_is {A} x y ws us e =
    let p : A × List Word = (x, ws) in
    let q : A × List Word = (y, us) in
    let h : p ≡ q = cc in
    (ap (λ (v : A × List Word). v.0) h, ap (λ (v : A × List Word). v.1) h)

-- ---- the words that were passed

pub and_is : (ws after : List Word) → behind_and ws ≡ Some after → w.And ∷ after ≡ ws
unfolding behind_and
and_is [] after e = absurd cc
and_is (w.And ∷ ws) after e = cc
and_is (x ∷ ws) after e = absurd cc

pub or_is : (ws after : List Word) → behind_or ws ≡ Some after → w.Or ∷ after ≡ ws
unfolding behind_or
or_is [] after e = absurd cc
or_is (w.Or ∷ ws) after e = cc
or_is (x ∷ ws) after e = absurd cc

pub not_is : (ws after : List Word) → behind_not ws ≡ Some after → w.Not ∷ after ≡ ws
unfolding behind_not
not_is [] after e = absurd cc
not_is (w.Not ∷ ws) after e = cc
not_is (x ∷ ws) after e = absurd cc

pub open_is : (ws after : List Word) → behind_open ws ≡ Some after → w.Open ∷ after ≡ ws
unfolding behind_open
open_is [] after e = absurd cc
open_is (w.Open ∷ ws) after e = cc
open_is (x ∷ ws) after e = absurd cc

abbrev pub done : List Word → Result (List Word) Stuck
done ws = Ok ws

pub close_is : (ws after : List Word) → behind_close ws ≡ done after → w.Close ∷ after ≡ ws
unfolding behind_close
close_is [] after e = absurd cc
close_is (w.Close ∷ ws) after e = cc
close_is (x ∷ ws) after e = absurd cc

module _ (columns : List Column) where
  abbrev pub NegIs : ℕ → List Word → Syntax → List Word → Type 0
  NegIs d ws t rest = (n : Neg) × (neg_words n ++ rest ≡ ws) × (neg_tree columns n ≡ t) × (neg_levels n ≤ d)

  abbrev pub ConjIs : ℕ → List Word → Syntax → List Word → Type 0
  ConjIs d ws t rest = (c : Conj) × (conj_words c ++ rest ≡ ws) × (conj_tree columns c ≡ t) × (conj_levels c ≤ d)

  abbrev pub AndsAre : ℕ → List Word → Syntax → Syntax → List Word → Type 0
  AndsAre d ws left t rest = (ns : Ands) × (ands_words ns ++ rest ≡ ws) × (ands_tree columns ns left ≡ t) × (ands_levels ns ≤ d)

  abbrev pub FilterIs : ℕ → List Word → Syntax → List Word → Type 0
  FilterIs d ws t rest = (f : Filter) × (filter_words f ++ rest ≡ ws) × (filter_tree columns f ≡ t) × (filter_levels f ≤ d)

  abbrev pub OrsAre : ℕ → List Word → Syntax → Syntax → List Word → Type 0
  OrsAre d ws left t rest = (cs : Ors) × (ors_words cs ++ rest ≡ ws) × (ors_tree columns cs left ≡ t) × (ors_levels cs ≤ d)

  abbrev pub Sound : ℕ → (List Word → Read Syntax) → Type 0
  Sound d item = (ws rest : List Word) (t : Syntax) → item ws ≡ Ok (t, rest) → NegIs d ws t rest

  abbrev pub TermIs : List Word → Operand → List Word → Type 0
  TermIs ws x rest = (y : Term) × (term_words y ++ rest ≡ ws) × (term_operand columns y ≡ x)

  bit_sound : (z : ℤ) (ws : List Word) (x : Operand) (rest : List Word) → bit_with (bit_of z) (w.Int z ∷ ws) ws ≡ read x rest → TermIs (w.Bit ∷ w.Int z ∷ ws) x rest
  bit_sound (pos zero) ws x rest e = let p = read_is _ _ _ _ e in (bit false, rw (p.1) refl, p.0)
  bit_sound (pos (suc zero)) ws x rest e = let p = read_is _ _ _ _ e in (bit true, rw (p.1) refl, p.0)
  bit_sound (pos (suc (suc n))) ws x rest e = absurd cc
  bit_sound (negsuc n) ws x rest e = absurd cc

  bit_is : (ws : List Word) (x : Operand) (rest : List Word) → bit_at ws ≡ read x rest → TermIs (w.Bit ∷ ws) x rest
  unfolding bit_at
  bit_is [] x rest e = absurd cc
  bit_is (w.Int z ∷ ws) x rest e = bit_sound z ws x rest e
  bit_is (v ∷ ws) x rest e = absurd cc

  pub term_is : (ws : List Word) (x : Operand) (rest : List Word) → operand_at columns ws ≡ read x rest → TermIs ws x rest
  unfolding operand_at
  term_is [] x rest e = absurd cc
  term_is (w.Name name ∷ ws) x rest e = let p = read_is _ _ _ _ e in (column name, rw (p.1) refl, p.0)
  term_is (w.HostName ∷ w.Open ∷ w.Close ∷ ws) x rest e = let p = read_is _ _ _ _ e in (host, rw (p.1) refl, p.0)
  term_is (w.HostName ∷ w.Open ∷ ws) x rest e = absurd cc
  term_is (w.HostName ∷ ws) x rest e = absurd cc
  term_is (w.Int z ∷ ws) x rest e = let p = read_is _ _ _ _ e in (integer z, rw (p.1) refl, p.0)
  term_is (w.Text t d g ∷ ws) x rest e = let p = read_is _ _ _ _ e in (text t d g, rw (p.1) refl, p.0)
  term_is (w.Bytes bs ∷ ws) x rest e = let p = read_is _ _ _ _ e in (bytes bs, rw (p.1) refl, p.0)
  term_is (w.Date ∷ w.Text t (Some z) g ∷ ws) x rest e = let p = read_is _ _ _ _ e in (day t z g, rw (p.1) refl, p.0)
  term_is (w.Date ∷ ws) x rest e = absurd cc
  term_is (w.Guid ∷ w.Text t d (Some n) ∷ ws) x rest e = let p = read_is _ _ _ _ e in (guid t d n, rw (p.1) refl, p.0)
  term_is (w.Guid ∷ ws) x rest e = absurd cc
  term_is (w.Bit ∷ ws) x rest e = bit_is ws x rest e
  term_is (v ∷ ws) x rest e = absurd cc

  sign_sound : (d : ℕ) (x : Term) (ws rest : List Word) (t : Syntax) → sign_at columns (term_operand columns x) ws ≡ Ok (t, rest) → NegIs d (term_words x ++ ws) t rest
  unfolding sign_at
  sign_sound d x [] rest t e = absurd cc
  sign_sound d x (w.Sign s p ∷ ws) rest t e =
      let b = bind_ok (operand_at columns ws) (λ y. Ok (Compare (term_operand columns x) s p y.0, y.1)) (t, rest) e in
      let o = term_is ws b.0.0 b.0.1 b.1 in
      let q = read_is _ _ _ _ b.2 in (
        compared x s p o.0,
        append_assoc (term_words x) (w.Sign s p ∷ term_words o.0) rest ∙ ap (λ (us : List Word). term_words x ++ (w.Sign s p ∷ us)) (ap (λ (us : List Word). term_words o.0 ++ us) (sym q.1) ∙ o.1),
        ap (λ (y : Operand). Compare (term_operand columns x) s p y) o.2 ∙ q.0,
        omega arith,
      )
  sign_sound d x (v ∷ ws) rest t e = absurd cc

  compare_sound : (d : ℕ) (ws rest : List Word) (t : Syntax) → (operand_at columns ws >>= λ x. sign_at columns x.0 x.1) ≡ Ok (t, rest) → NegIs d ws t rest
  compare_sound d ws rest t e =
      let b = bind_ok (operand_at columns ws) (λ x. sign_at columns x.0 x.1) (t, rest) e in
      let o = term_is ws b.0.0 b.0.1 b.1 in
      rw (o.1) at (sign_sound d o.0 b.0.1 rest t (ap (λ (x : Operand). sign_at columns x b.0.1) o.2 ∙ b.2))

  pub atom_sound : (d : ℕ) (ws rest : List Word) (t : Syntax) → atom_at columns ws ≡ Ok (t, rest) → NegIs d ws t rest
  unfolding atom_at
  atom_sound d (w.Name c ∷ w.Is ∷ w.Null ∷ ws) rest t e = let p = read_is _ _ _ _ e in (null c, rw (p.1) refl, p.0, omega arith)
  atom_sound d (w.Name c ∷ w.Is ∷ w.Not ∷ w.Null ∷ ws) rest t e = let p = read_is _ _ _ _ e in (not_null c, rw (p.1) refl, p.0, omega arith)
  atom_sound d (w.Name c ∷ w.Is ∷ w.Not ∷ ws) rest t e = absurd cc
  atom_sound d (w.Name c ∷ w.Is ∷ ws) rest t e = absurd cc
  atom_sound d ws rest t e = compare_sound d ws rest t e

  -- ---- parts one after the other

  pub ands_sound : (d : ℕ) (item : List Word → Read Syntax) → Sound d item → (k : ℕ) (left : Syntax) (ws rest : List Word) (t : Syntax)
      → more behind_and And item k left ws ≡ Ok (t, rest) → AndsAre d ws left t rest
  unfolding more
  ands_sound d item s zero left ws rest t e = let p = read_is left t ws rest e in (no_and, sym p.1, p.0, omega arith)
  ands_sound d item s (suc k) left ws rest t e = by (behind_and ws) refl e (ands_sound d item s k)
    where
      by : (o : Option (List Word)) → behind_and ws ≡ o → go_or o (read left ws) (λ after. item after >>= λ x. more behind_and And item k (And left x.0) x.1) ≡ Ok (t, rest)
          → ((left : Syntax) (ws rest : List Word) (t : Syntax) → more behind_and And item k left ws ≡ Ok (t, rest) → AndsAre d ws left t rest) → AndsAre d ws left t rest
      by None o e ih = let p = read_is left t ws rest e in (no_and, sym p.1, p.0, omega arith)
      by (Some after) o e ih =
          let b = bind_ok (item after) (λ x. more behind_and And item k (And left x.0) x.1) (t, rest) e in
          let n = s after b.0.1 b.0.0 b.1 in
          let ns = ih (And left b.0.0) b.0.1 rest t b.2 in
          let spelled : w.And ∷ ((neg_words n.0 ++ ands_words ns.0) ++ rest) ≡ ws =
          ap (λ (us : List Word). w.And ∷ us) (append_assoc (neg_words n.0) (ands_words ns.0) rest ∙ ap (λ (us : List Word). neg_words n.0 ++ us) ns.1 ∙ n.1) ∙ and_is ws after o in
          (and n.0 ns.0, spelled, ap (λ (a : Syntax). ands_tree columns ns.0 (And left a)) n.2 ∙ ns.2, omega (arith, n.3, ns.3))

  pub conj_sound : (d : ℕ) (item : List Word → Read Syntax) → Sound d item → (ws rest : List Word) (t : Syntax) → conj_of item ws ≡ Ok (t, rest) → ConjIs d ws t rest
  unfolding conj_of
  conj_sound d item s ws rest t e =
      let b = bind_ok (item ws) (λ x. more behind_and And item many x.0 x.1) (t, rest) e in
      let n = s ws b.0.1 b.0.0 b.1 in
      let ns = ands_sound d item s many b.0.0 b.0.1 rest t b.2 in
      (conj n.0 ns.0, append_assoc (neg_words n.0) (ands_words ns.0) rest ∙ ap (λ (us : List Word). neg_words n.0 ++ us) ns.1 ∙ n.1, ap (ands_tree columns ns.0) n.2 ∙ ns.2, omega (arith, n.3, ns.3))

  pub ors_sound : (d : ℕ) (item : List Word → Read Syntax) → Sound d item → (k : ℕ) (left : Syntax) (ws rest : List Word) (t : Syntax)
      → more behind_or Or (conj_of item) k left ws ≡ Ok (t, rest) → OrsAre d ws left t rest
  unfolding more
  ors_sound d item s zero left ws rest t e = let p = read_is left t ws rest e in (no_or, sym p.1, p.0, omega arith)
  ors_sound d item s (suc k) left ws rest t e = by (behind_or ws) refl e (ors_sound d item s k)
    where
      by : (o : Option (List Word)) → behind_or ws ≡ o → go_or o (read left ws) (λ after. conj_of item after >>= λ x. more behind_or Or (conj_of item) k (Or left x.0) x.1) ≡ Ok (t, rest)
          → ((left : Syntax) (ws rest : List Word) (t : Syntax) → more behind_or Or (conj_of item) k left ws ≡ Ok (t, rest) → OrsAre d ws left t rest) → OrsAre d ws left t rest
      by None o e ih = let p = read_is left t ws rest e in (no_or, sym p.1, p.0, omega arith)
      by (Some after) o e ih =
          let b = bind_ok (conj_of item after) (λ x. more behind_or Or (conj_of item) k (Or left x.0) x.1) (t, rest) e in
          let n = conj_sound d item s after b.0.1 b.0.0 b.1 in
          let ns = ih (Or left b.0.0) b.0.1 rest t b.2 in
          let spelled : w.Or ∷ ((conj_words n.0 ++ ors_words ns.0) ++ rest) ≡ ws =
          ap (λ (us : List Word). w.Or ∷ us) (append_assoc (conj_words n.0) (ors_words ns.0) rest ∙ ap (λ (us : List Word). conj_words n.0 ++ us) ns.1 ∙ n.1) ∙ or_is ws after o in
          (or n.0 ns.0, spelled, ap (λ (a : Syntax). ors_tree columns ns.0 (Or left a)) n.2 ∙ ns.2, omega (arith, n.3, ns.3))

  pub filter_sound : (d : ℕ) (item : List Word → Read Syntax) → Sound d item → (ws rest : List Word) (t : Syntax) → filter_of item ws ≡ Ok (t, rest) → FilterIs d ws t rest
  unfolding filter_of
  filter_sound d item s ws rest t e =
      let b = bind_ok (conj_of item ws) (λ x. more behind_or Or (conj_of item) many x.0 x.1) (t, rest) e in
      let n = conj_sound d item s ws b.0.1 b.0.0 b.1 in
      let ns = ors_sound d item s many b.0.0 b.0.1 rest t b.2 in
      (filter n.0 ns.0, append_assoc (conj_words n.0) (ors_words ns.0) rest ∙ ap (λ (us : List Word). conj_words n.0 ++ us) ns.1 ∙ n.1, ap (ors_tree columns ns.0) n.2 ∙ ns.2, omega (arith, n.3, ns.3))

  -- ---- levels

  -- a part behind NOT or in brackets, or an atom, where deeper is sound
  level_sound : (d : ℕ) (deeper : Option (List Word → Read Syntax)) → ((item : List Word → Read Syntax) → deeper ≡ Some item → (e : ℕ) × (suc e ≡ d) × Sound e item)
      → (ws rest : List Word) (t : Syntax) → neg_with columns deeper ws ≡ Ok (t, rest) → NegIs d ws t rest
  unfolding neg_with
  level_sound d deeper s ws rest t e = by_not (behind_not ws) refl e
    where
      in_brackets : (after : List Word) → behind_open ws ≡ Some after → (o : Option (List Word → Read Syntax)) → deeper ≡ o
          → in_level ws o (λ item. filter_of item after >>= λ x. behind_close x.1 >>= λ rest. read x.0 rest) ≡ Ok (t, rest) → NegIs d ws t rest
      in_brackets after b None o e = absurd cc
      in_brackets after b (Some item) o e =
          let deep = s item o in
          let f = bind_ok (filter_of item after) (λ x. behind_close x.1 >>= λ rest. read x.0 rest) (t, rest) e in
          let c = bind_ok (behind_close f.0.1) (λ rest. read f.0.0 rest) (t, rest) f.2 in
          let p = read_is _ _ _ _ c.2 in
          let g = filter_sound deep.0 item deep.2 after f.0.1 f.0.0 f.1 in
          let closed : w.Close ∷ rest ≡ f.0.1 = ap (λ (us : List Word). w.Close ∷ us) (sym p.1) ∙ close_is f.0.1 c.0 c.1 in
          let spelled : w.Open ∷ ((filter_words g.0 ++ w.Close ∷ []) ++ rest) ≡ ws =
          ap (λ (us : List Word). w.Open ∷ us) (append_assoc (filter_words g.0) (w.Close ∷ []) rest ∙ ap (λ (us : List Word). filter_words g.0 ++ us) closed ∙ g.1) ∙ open_is ws after b in
          (brackets g.0, spelled, g.2 ∙ p.0, omega (arith, g.3, deep.1))

      in_not : (after : List Word) → behind_not ws ≡ Some after → (o : Option (List Word → Read Syntax)) → deeper ≡ o
          → in_level ws o (λ item. item after >>= λ x. read (Not x.0) x.1) ≡ Ok (t, rest) → NegIs d ws t rest
      in_not after b None o e = absurd cc
      in_not after b (Some item) o e =
          let deep = s item o in
          let f = bind_ok (item after) (λ x. read (Not x.0) x.1) (t, rest) e in
          let p = read_is _ _ _ _ f.2 in
          let g = deep.2 after f.0.1 f.0.0 f.1 in
          let spelled : w.Not ∷ (neg_words g.0 ++ rest) ≡ ws =
          ap (λ (us : List Word). w.Not ∷ us) (ap (λ (us : List Word). neg_words g.0 ++ us) (sym p.1) ∙ g.1) ∙ not_is ws after b in
          (negated g.0, spelled, ap Not g.2 ∙ p.0, omega (arith, g.3, deep.1))

      by_open : (b : Option (List Word)) → behind_open ws ≡ b
          → go_or b (atom_at columns ws) (λ after. in_level ws deeper (λ item. filter_of item after >>= λ x. behind_close x.1 >>= λ rest. read x.0 rest)) ≡ Ok (t, rest) → NegIs d ws t rest
      by_open None b e = atom_sound d ws rest t e
      by_open (Some after) b e = in_brackets after b deeper refl e

      by_not : (n : Option (List Word)) → behind_not ws ≡ n
          → go_or n (go_or (behind_open ws) (atom_at columns ws) (λ after. in_level ws deeper (λ item. filter_of item after >>= λ x. behind_close x.1 >>= λ rest. read x.0 rest)))
          (λ after. in_level ws deeper (λ item. item after >>= λ x. read (Not x.0) x.1)) ≡ Ok (t, rest) → NegIs d ws t rest
      by_not None n e = by_open (behind_open ws) refl e
      by_not (Some after) n e = in_not after n deeper refl e

  abbrev some : (List Word → Read Syntax) → Option (List Word → Read Syntax)
  some f = Some f

  same_reader : (f g : List Word → Read Syntax) → some f ≡ some g → f ≡ g
  same_reader f g e = cc

  pub neg_sound : (d : ℕ) → Sound d (neg_at columns d)
  unfolding below
  neg_sound zero ws rest t e = level_sound zero None (λ item h. absurd cc) ws rest t e
  neg_sound (suc d) ws rest t e =
      level_sound (suc d) (Some (neg_at columns d)) (λ item h. (d, refl, λ us vs u g. neg_sound d us vs u (ap (λ (r : List Word → Read Syntax). r us) (same_reader (neg_at columns d) item h) ∙ g))) ws rest t e

  pub all_sound : (d : ℕ) (ws rest : List Word) (t : Syntax) → filter_of (neg_at columns d) ws ≡ Ok (t, rest) → FilterIs d ws t rest
  all_sound d ws rest t e = filter_sound d (neg_at columns d) (neg_sound d) ws rest t e
