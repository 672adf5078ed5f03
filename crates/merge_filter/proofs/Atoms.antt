-- Where an operand or a test stops.
use Rattle.std.proofs.Common.{◌≡◌, ℕ, pos, negsuc, zero, suc, Bool, false, true, List, [], ◌∷◌, ◌++◌, Ok, Err, Some, None, refl, sym, ap, ◌∙◌, arith, append_assoc, subst, ⊎_elim}
use Rattle.merge_types.specs.declared.values.Column.{Column}
use Rattle.merge_filter.specs.declared.form.Stuck.{Stuck}
use Rattle.merge_filter.specs.declared.word.Word.{Word}
use Rattle.merge_filter.specs.declared.word.Word.TheVariants as w
use Rattle.merge_filter.specs.declared.tree.Operand.{Operand}
use Rattle.merge_filter.specs.declared.word.Sign.TheVariants.{Equal}
use Rattle.merge_filter.specs.declared.word.Sign.{Sign}
use Rattle.merge_filter.specs.Syntax.{Syntax, Compare}
use Rattle.merge_filter.specs.Form.{◌>>=◌, Read, bit_at, operand_at, sign_at, atom_at}
use Rattle.merge_filter.specs.Grammar.{Term, column, host, integer, text, bytes, day, guid, bit, Neg, compared, null, not_null, term_words, term_operand, neg_words, neg_levels}
use Rattle.merge_filter.proofs.Complete.{term_reads}
use Rattle.merge_filter.proofs.Sound.{term_is}
use Rattle.merge_filter.proofs.Refusal.{form, Readers, Dead, Refused, wrong, err_is, bind_err, dead_map, deep_map}

abbrev none : Term → ℕ
none x = 0

module _ (columns : List Column) where
  abbrev terms : Readers (Operand × List Word)
  terms e ws = operand_at columns ws

  abbrev TermRefused : ℕ → List Word → Stuck → Type 0
  TermRefused d ws e = Refused term_words none terms d ws e

  -- no term begins with the first word
  abbrev first_bad : (d : ℕ) (ws : List Word) (e : Stuck) → wrong {A = Operand × List Word} ws ≡ Err e → Dead terms d form [] ws → TermRefused d ws e
  first_bad d ws e h dead =
      record { kind = form; front = []; bad = ws; split = refl; same = sym (err_is _ _ h); viable = (host, term_words host, refl, omega arith); dead = dead; deep = tt }

  -- a term begins with the words before
  abbrev later_bad : (d : ℕ) (x : Term) (front rest bad : List Word) (e : Stuck) → wrong {A = Operand × List Word} bad ≡ Err e → term_words x ≡ front ++ rest → Dead terms d form front bad → TermRefused d (front ++ bad) e
  later_bad d x front rest bad e h s dead =
      record { kind = form; front = front; bad = bad; split = refl; same = sym (err_is _ _ h); viable = (x, rest, s, omega arith); dead = dead; deep = tt }

  bit_refused : (d : ℕ) (ws : List Word) (e : Stuck) → bit_at ws ≡ Err e → TermRefused d (w.Bit ∷ ws) e
  unfolding bit_at operand_at
  bit_refused d [] e h = later_bad d (bit false) (w.Bit ∷ []) (w.Int (pos 0) ∷ []) [] e h refl (λ e l. refl)
  bit_refused d (w.Int (pos zero) ∷ ws) e h = absurd cc
  bit_refused d (w.Int (pos (suc zero)) ∷ ws) e h = absurd cc
  bit_refused d (w.Int (pos (suc (suc n))) ∷ ws) e h = later_bad d (bit false) (w.Bit ∷ []) (w.Int (pos 0) ∷ []) (w.Int (pos (suc (suc n))) ∷ ws) e h refl (λ e l rest. refl)
  bit_refused d (w.Int (negsuc n) ∷ ws) e h = later_bad d (bit false) (w.Bit ∷ []) (w.Int (pos 0) ∷ []) (w.Int (negsuc n) ∷ ws) e h refl (λ e l rest. refl)
  bit_refused d (v ∷ ws) e h = later_bad d (bit false) (w.Bit ∷ []) (w.Int (pos 0) ∷ []) (v ∷ ws) e h refl (λ e l rest. refl)

  term_refused : (d : ℕ) (ws : List Word) (e : Stuck) → operand_at columns ws ≡ Err e → TermRefused d ws e
  unfolding operand_at
  term_refused d [] e h = first_bad d [] e h (λ e l. refl)
  term_refused d (w.Name name ∷ ws) e h = absurd cc
  term_refused d (w.HostName ∷ w.Open ∷ w.Close ∷ ws) e h = absurd cc
  term_refused d (w.HostName ∷ w.Open ∷ []) e h = later_bad d host (w.HostName ∷ w.Open ∷ []) (w.Close ∷ []) [] e h refl (λ e l. refl)
  term_refused d (w.HostName ∷ w.Open ∷ v ∷ ws) e h = later_bad d host (w.HostName ∷ w.Open ∷ []) (w.Close ∷ []) (v ∷ ws) e h refl (λ e l rest. refl)
  term_refused d (w.HostName ∷ []) e h = later_bad d host (w.HostName ∷ []) (w.Open ∷ w.Close ∷ []) [] e h refl (λ e l. refl)
  term_refused d (w.HostName ∷ v ∷ ws) e h = later_bad d host (w.HostName ∷ []) (w.Open ∷ w.Close ∷ []) (v ∷ ws) e h refl (λ e l rest. refl)
  term_refused d (w.Int z ∷ ws) e h = absurd cc
  term_refused d (w.Text t u g ∷ ws) e h = absurd cc
  term_refused d (w.Bytes bs ∷ ws) e h = absurd cc
  term_refused d (w.Date ∷ w.Text t (Some z) g ∷ ws) e h = absurd cc
  term_refused d (w.Date ∷ []) e h = later_bad d (day [] (pos 0) None) (w.Date ∷ []) (w.Text [] (Some (pos 0)) None ∷ []) [] e h refl (λ e l. refl)
  term_refused d (w.Date ∷ v ∷ ws) e h = later_bad d (day [] (pos 0) None) (w.Date ∷ []) (w.Text [] (Some (pos 0)) None ∷ []) (v ∷ ws) e h refl (λ e l rest. refl)
  term_refused d (w.Guid ∷ w.Text t u (Some n) ∷ ws) e h = absurd cc
  term_refused d (w.Guid ∷ []) e h = later_bad d (guid [] None 0) (w.Guid ∷ []) (w.Text [] None (Some 0) ∷ []) [] e h refl (λ e l. refl)
  term_refused d (w.Guid ∷ v ∷ ws) e h = later_bad d (guid [] None 0) (w.Guid ∷ []) (w.Text [] None (Some 0) ∷ []) (v ∷ ws) e h refl (λ e l rest. refl)
  term_refused d (w.Bit ∷ ws) e h = bit_refused d ws e h
  term_refused d (v ∷ ws) e h = first_bad d (v ∷ ws) e h (λ e l rest. refl)

  abbrev pub atoms : Readers (Syntax × List Word)
  atoms e ws = atom_at columns ws

  abbrev pub AtomRefused : ℕ → List Word → Stuck → Type 0
  AtomRefused d ws e = Refused neg_words neg_levels atoms d ws e

  abbrev two : List Word → Read Syntax
  two ws = operand_at columns ws >>= λ x. sign_at columns x.0 x.1

  -- a comparison's first operand and its sign
  atom_signed : (y : Term) (s : Sign) (p : ℕ) (us : List Word)
      → atom_at columns (term_words y ++ w.Sign s p ∷ us) ≡ (operand_at columns us >>= λ z. Ok (Compare (term_operand columns y) s p z.0, z.1))
  unfolding atom_at operand_at bit_at sign_at
  atom_signed (column name) s p us = refl
  atom_signed host s p us = refl
  atom_signed (integer z) s p us = refl
  atom_signed (text t u g) s p us = refl
  atom_signed (bytes bs) s p us = refl
  atom_signed (day t z g) s p us = refl
  atom_signed (guid t u n) s p us = refl
  atom_signed (bit false) s p us = refl
  atom_signed (bit true) s p us = refl

  -- whether it is a name and IS
  abbrev names_is : List Word → Bool
  names_is (w.Name name ∷ w.Is ∷ ws) = true
  names_is ws = false

  atom_else : (ws : List Word) → names_is ws ≡ false → atom_at columns ws ≡ two ws
  unfolding atom_at
  atom_else (w.Name name ∷ w.Is ∷ ws) n = absurd cc
  atom_else ws n = refl

  -- where the first operand is wrong
  no_names : (ws : List Word) (f : Stuck) → names_is ws ≡ true → operand_at columns ws ≡ Err f → ⊥
  unfolding operand_at
  no_names [] f n h = cc
  no_names (w.Name name ∷ ws) f n h = cc
  no_names (v ∷ ws) f n h = cc

  atom_err : (ws : List Word) (f : Stuck) → operand_at columns ws ≡ Err f → atom_at columns ws ≡ Err f
  atom_err ws f h = by (names_is ws) refl
    where
      by : (b : Bool) → names_is ws ≡ b → atom_at columns ws ≡ Err f
      by true n = absurd (no_names ws f n h)
      by false n = atom_else ws n ∙ rw h refl

  names_same : (y : Term) (v : Word) (us vs : List Word) → names_is (term_words y ++ v ∷ us) ≡ names_is (term_words y ++ v ∷ vs)
  names_same (column name) w.Is us vs = refl
  names_same (column name) v us vs = refl
  names_same host v us vs = refl
  names_same (integer z) v us vs = refl
  names_same (text t u g) v us vs = refl
  names_same (bytes bs) v us vs = refl
  names_same (day t z g) v us vs = refl
  names_same (guid t u n) v us vs = refl
  names_same (bit b) v us vs = refl

  -- any comparison will do behind an operand
  abbrev with_sign : Term → Neg
  with_sign y = compared y Equal 0 host

  -- where the sign or the second operand is wrong
  sign_refused : (d : ℕ) (y : Term) (mid : List Word) (e : Stuck) → names_is (term_words y ++ mid) ≡ false → sign_at columns (term_operand columns y) mid ≡ Err e
      → AtomRefused d (term_words y ++ mid) e
  unfolding sign_at
  sign_refused d y [] e n h =
      record {
        kind = form;
        front = term_words y;
        bad = [];
        split = refl;
        same = sym (err_is _ _ h);
        viable = (with_sign y, w.Sign Equal 0 ∷ term_words host, refl, omega arith);
        dead = λ e l. atom_else (term_words y ++ []) n ∙ rw (term_reads columns y []) refl;
        deep = tt;
      }
  sign_refused d y (w.Sign s p ∷ us) e n h = ⊎_elim (operand_wrong) (λ x. absurd (let no = x.2 in cc)) (bind_err (operand_at columns us) (λ z. Ok (Compare (term_operand columns y) s p z.0, z.1)) e h)
    where
      operand_wrong : operand_at columns us ≡ Err e → AtomRefused d (term_words y ++ w.Sign s p ∷ us) e
      operand_wrong o =
          let r = term_refused d us e o in
          record {
            kind = r.kind;
            front = term_words y ++ w.Sign s p ∷ r.front;
            bad = r.bad;
            split = ap (λ (vs : List Word). term_words y ++ w.Sign s p ∷ vs) r.split ∙ sym (append_assoc (term_words y) (w.Sign s p ∷ r.front) r.bad);
            same = r.same;
            viable = (
              compared y s p r.viable.0,
              r.viable.1,
              ap (λ (vs : List Word). term_words y ++ w.Sign s p ∷ vs) r.viable.2 ∙ sym (append_assoc (term_words y) (w.Sign s p ∷ r.front) r.viable.1),
              omega arith,
            );
            dead = dead_map terms atoms d r.kind r.front (term_words y ++ w.Sign s p ∷ r.front) r.bad
                (λ e l tail f g. ap (atom_at columns) (append_assoc (term_words y) (w.Sign s p ∷ r.front) (tail)) ∙ atom_signed y s p (r.front ++ tail) ∙ rw g refl) r.dead;
            deep = deep_map term_words neg_words r.kind r.front (term_words y ++ w.Sign s p ∷ r.front) r.bad
                (λ v rest c g. (compared y s p c, rest, ap (λ (vs : List Word). term_words y ++ w.Sign s p ∷ vs) g ∙ sym (append_assoc (term_words y) (w.Sign s p ∷ r.front) (v ∷ rest)))) r.deep;
          }
  sign_refused d y (v ∷ us) e n h =
      record {
        kind = form;
        front = term_words y;
        bad = v ∷ us;
        split = refl;
        same = sym (err_is _ _ h);
        viable = (with_sign y, w.Sign Equal 0 ∷ term_words host, refl, omega arith);
        dead = λ e l rest. atom_else (term_words y ++ v ∷ rest) (names_same y v rest us ∙ n) ∙ rw (term_reads columns y (v ∷ rest)) refl;
        deep = tt;
      }

  comp_refused : (d : ℕ) (ws : List Word) (e : Stuck) → names_is ws ≡ false → two ws ≡ Err e → AtomRefused d ws e
  comp_refused d ws e n h = ⊎_elim first second (bind_err (operand_at columns ws) (λ x. sign_at columns x.0 x.1) e h)
    where
      signed : (c : Term) (front rest : List Word) → term_words c ≡ front ++ rest → neg_words (with_sign c) ≡ front ++ (rest ++ w.Sign Equal 0 ∷ term_words host)
      signed c front rest g = ap (λ (vs : List Word). vs ++ w.Sign Equal 0 ∷ term_words host) g ∙ append_assoc front rest (w.Sign Equal 0 ∷ term_words host)

      first : operand_at columns ws ≡ Err e → AtomRefused d ws e
      first o =
          let r = term_refused d ws e o in
          record {
            kind = r.kind;
            front = r.front;
            bad = r.bad;
            split = r.split;
            same = r.same;
            viable = (with_sign r.viable.0, r.viable.1 ++ w.Sign Equal 0 ∷ term_words host, signed r.viable.0 r.front r.viable.1 r.viable.2, omega arith);
            dead = dead_map terms atoms d r.kind r.front r.front r.bad (λ e l tail f g. atom_err (r.front ++ tail) f g) r.dead;
            deep = deep_map term_words neg_words r.kind r.front r.front r.bad (λ v rest c g. (with_sign c, rest ++ w.Sign Equal 0 ∷ term_words host, signed c r.front (v ∷ rest) g)) r.deep;
          }

      second : (x : Operand × List Word) × (operand_at columns ws ≡ Ok x) × (sign_at columns x.0 x.1 ≡ Err e) → AtomRefused d ws e
      second (x, o, g) =
          let y = term_is columns ws x.0 x.1 o in
          subst (λ (vs : List Word). AtomRefused d vs e) y.1
          (sign_refused d y.0 x.1 e (ap names_is y.1 ∙ n) (ap (λ (z : Operand). sign_at columns z x.1) y.2 ∙ g))

  pub atom_refused : (d : ℕ) (ws : List Word) (e : Stuck) → atom_at columns ws ≡ Err e → AtomRefused d ws e
  unfolding atom_at
  atom_refused d (w.Name c ∷ w.Is ∷ w.Null ∷ ws) e h = absurd cc
  atom_refused d (w.Name c ∷ w.Is ∷ w.Not ∷ w.Null ∷ ws) e h = absurd cc
  atom_refused d (w.Name c ∷ w.Is ∷ w.Not ∷ []) e h =
      record { kind = form; front = w.Name c ∷ w.Is ∷ w.Not ∷ []; bad = []; split = refl; same = sym (err_is _ _ h); viable = (not_null c, w.Null ∷ [], refl, omega arith); dead = λ e l. refl; deep = tt }
  atom_refused d (w.Name c ∷ w.Is ∷ w.Not ∷ v ∷ ws) e h =
      record { kind = form; front = w.Name c ∷ w.Is ∷ w.Not ∷ []; bad = v ∷ ws; split = refl; same = sym (err_is _ _ h); viable = (not_null c, w.Null ∷ [], refl, omega arith); dead = λ e l rest. refl; deep = tt }
  atom_refused d (w.Name c ∷ w.Is ∷ []) e h =
      record { kind = form; front = w.Name c ∷ w.Is ∷ []; bad = []; split = refl; same = sym (err_is _ _ h); viable = (null c, w.Null ∷ [], refl, omega arith); dead = λ e l. refl; deep = tt }
  atom_refused d (w.Name c ∷ w.Is ∷ v ∷ ws) e h =
      record { kind = form; front = w.Name c ∷ w.Is ∷ []; bad = v ∷ ws; split = refl; same = sym (err_is _ _ h); viable = (null c, w.Null ∷ [], refl, omega arith); dead = λ e l rest. refl; deep = tt }
  atom_refused d ws e h = comp_refused d ws e refl h
