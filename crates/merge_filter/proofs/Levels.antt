-- Where a part with its levels stops.
use Rattle.std.proofs.Common.{◌≡◌, ℕ, zero, suc, ◌≤◌, List, [], ◌∷◌, ◌++◌, length, Ok, Err, Option, Some, None, refl, sym, ap, ◌∙◌, arith, append_assoc, length-append, subst, ⊎_elim}
use Rattle.merge_types.specs.declared.values.Column.{Column}
use Rattle.merge_filter.specs.declared.form.Stuck.{Stuck}
use Rattle.merge_filter.specs.declared.form.Stuck.TheVariants.{TooDeep}
use Rattle.merge_filter.specs.declared.word.Word.{Word}
use Rattle.merge_filter.specs.declared.word.Word.TheVariants as w
use Rattle.merge_filter.specs.Syntax.{Syntax, Not}
use Rattle.merge_filter.specs.Form.{◌>>=◌, atom_at, many, behind_and, behind_or, behind_not, behind_open, behind_close, filter_of, neg_with, below, neg_at}
use Rattle.merge_filter.specs.Grammar.{Neg, negated, brackets, null, conj, no_and, Filter, filter, no_or, neg_words, filter_words, filter_levels}
use Rattle.merge_filter.proofs.Complete.{filter_reads}
use Rattle.merge_filter.proofs.Sound.{read, not_is, open_is, neg_sound, filter_sound}
use Rattle.merge_filter.proofs.Refusal.{Fault, form, depth, fault_at, Lasts, Readers, Dead, err_is, bind_err, deep_map, lasts_le}
use Rattle.merge_filter.proofs.Heads.{no_word, and_head, or_head, not_same, open_same, close_wrong, close_end, close_nil}
use Rattle.merge_filter.proofs.Atoms.{atoms, atom_refused}
use Rattle.merge_filter.proofs.Parts.{negs, NegRefused, ItemRefused, filters, filter_refused, filter_stops}

module _ (columns : List Column) where
  abbrev any_neg : Neg
  any_neg = null []

  abbrev any_filter : Filter
  any_filter = filter (conj any_neg no_and) no_or

  lasts_below : (k : Fault) (d e : ℕ) → Lasts k (suc d) (suc e) → Lasts k d e
  lasts_below form d e l = omega arith
  lasts_below depth d e l = omega arith

  at_atom : (d : ℕ) (ws : List Word) → behind_not ws ≡ None → behind_open ws ≡ None → neg_at columns d ws ≡ atom_at columns ws
  unfolding neg_with
  at_atom d ws n o = rw (n, o) refl

  not_below : (d : ℕ) (ws : List Word) → neg_at columns (suc d) (w.Not ∷ ws) ≡ (neg_at columns d ws >>= λ x. Ok (Not x.0, x.1))
  unfolding neg_with below behind_not
  not_below d ws = refl

  open_below : (d : ℕ) (ws : List Word) → neg_at columns (suc d) (w.Open ∷ ws) ≡ (filter_of (neg_at columns d) ws >>= λ x. behind_close x.1 >>= λ rest. Ok (x.0, rest))
  unfolding neg_with below behind_not behind_open
  open_below d ws = refl

  not_none : (ws : List Word) → neg_at columns 0 (w.Not ∷ ws) ≡ Err (TooDeep (suc (length ws)))
  unfolding neg_with below behind_not
  not_none ws = refl

  open_none : (ws : List Word) → neg_at columns 0 (w.Open ∷ ws) ≡ Err (TooDeep (suc (length ws)))
  unfolding neg_with below behind_not behind_open
  open_none ws = refl

  atom_dead : (d : ℕ) (k : Fault) (ws front bad : List Word) → ws ≡ front ++ bad → behind_not ws ≡ None → behind_open ws ≡ None → Dead (atoms columns) d k front bad → Dead (negs columns) d k front bad
  atom_dead d k ws front [] s n o h = λ e l. at_atom e (front ++ []) (ap behind_not (sym s) ∙ n) (ap behind_open (sym s) ∙ o) ∙ h e l
  atom_dead d k ws front (v ∷ bad) s n o h = λ e l rest.
      at_atom e (front ++ v ∷ rest) (not_same front v bad rest (ap behind_not (sym s) ∙ n)) (open_same front v bad rest (ap behind_open (sym s) ∙ o)) ∙ h e l rest

  -- what is dead stays so one level higher, behind the word that opens the level
  down : {B : Type 0} (R : Readers B) (d : ℕ) (k : Fault) (u : Word) (front bad : List Word)
      → ((e : ℕ) (tail : List Word) (f : Stuck) → R e tail ≡ Err f → neg_at columns (suc e) (u ∷ tail) ≡ Err f) → Dead R d k front bad → Dead (negs columns) (suc d) k (u ∷ front) bad
  down R d k u front [] go h = by
    where
      by : (e : ℕ) → Lasts k (suc d) e → neg_at columns e (u ∷ (front ++ [])) ≡ Err (fault_at k 0)
      by zero l = absurd (let no = lasts_le k (suc d) 0 l in omega arith)
      by (suc e) l = go e (front ++ []) _ (h e (lasts_below k d e l))
  down R d k u front (v ∷ bad) go h = by
    where
      by : (e : ℕ) → Lasts k (suc d) e → (rest : List Word) → neg_at columns e (u ∷ (front ++ v ∷ rest)) ≡ Err (fault_at k (suc (length rest)))
      by zero l rest = absurd (let no = lasts_le k (suc d) 0 l in omega arith)
      by (suc e) l rest = go e (front ++ v ∷ rest) _ (h e (lasts_below k d e l) rest)

  not_refused : (d : ℕ) → ItemRefused columns d → (ws : List Word) (f : Stuck) → length ws ≤ many → neg_at columns (suc d) (w.Not ∷ ws) ≡ Err f → NegRefused columns (suc d) (w.Not ∷ ws) f
  not_refused d ih ws f fits h =
      ⊎_elim (λ g. let r = ih ws f fits g in
      record {
        kind = r.kind;
        front = w.Not ∷ r.front;
        bad = r.bad;
        split = ap (λ (vs : List Word). w.Not ∷ vs) r.split;
        same = r.same;
        viable = (negated r.viable.0, r.viable.1, ap (λ (vs : List Word). w.Not ∷ vs) r.viable.2, omega (arith, r.viable.3));
        dead = down (negs columns) d r.kind w.Not r.front r.bad (λ e tail f g. not_below e tail ∙ rw g refl) r.dead;
        deep = deep_map neg_words neg_words r.kind r.front (w.Not ∷ r.front) r.bad (λ v rest c g. (negated c, rest, ap (λ (vs : List Word). w.Not ∷ vs) g)) r.deep;
      })
      (λ x. absurd (let no = x.2 in cc))
      (bind_err (neg_at columns d ws) (λ x. Ok (Not x.0, x.1)) f (sym (not_below d ws) ∙ h))

  abbrev closings : Readers (Syntax × List Word)
  closings e ws = filter_of (neg_at columns e) ws >>= λ x. behind_close x.1 >>= λ rest. Ok (x.0, rest)

  not_closed : (d : ℕ) (c : Filter) (mid : List Word) (f : Stuck) → length (filter_words c) ≤ many → filter_levels c ≤ d → behind_and mid ≡ None → behind_or mid ≡ None → behind_close mid ≡ Err f → NegRefused columns (suc d) (w.Open ∷ (filter_words c ++ mid)) f
  not_closed d c [] f fits lev a o h =
      record {
        kind = form;
        front = w.Open ∷ filter_words c;
        bad = [];
        split = refl;
        same = close_end f h;
        viable = (brackets c, w.Close ∷ [], refl, omega arith);
        dead = down closings d form w.Open (filter_words c) [] (λ e tail f g. open_below e tail ∙ g) (λ e l. rw (filter_reads columns c e [] fits (omega arith) no_word.0 no_word.1, close_nil) refl);
        deep = tt;
      }
  not_closed d c (v ∷ us) f fits lev a o h =
      let p = close_wrong v us us f h in
      record {
        kind = form;
        front = w.Open ∷ filter_words c;
        bad = v ∷ us;
        split = refl;
        same = p.0;
        viable = (brackets c, w.Close ∷ [], refl, omega arith);
        dead = down closings d form w.Open (filter_words c) (v ∷ us) (λ e tail f g. open_below e tail ∙ g)
            (λ e l rest. let q = close_wrong v us rest f h in rw (filter_reads columns c e (v ∷ rest) fits (omega arith) (and_head v us rest a) (or_head v us rest o), q.1) refl);
        deep = tt;
      }

  open_refused : (d : ℕ) → ItemRefused columns d → (ws : List Word) (f : Stuck) → length ws ≤ many → neg_at columns (suc d) (w.Open ∷ ws) ≡ Err f → NegRefused columns (suc d) (w.Open ∷ ws) f
  open_refused d ih ws f fits h = ⊎_elim first second (bind_err (filter_of (neg_at columns d) ws) (λ x. behind_close x.1 >>= λ rest. read x.0 rest) f (sym (open_below d ws) ∙ h))
    where
      closed : (c : Filter) (front rest : List Word) → filter_words c ≡ front ++ rest → neg_words (brackets c) ≡ (w.Open ∷ front) ++ (rest ++ w.Close ∷ [])
      closed c front rest g = ap (λ (vs : List Word). w.Open ∷ vs) (ap (λ (vs : List Word). vs ++ w.Close ∷ []) g ∙ append_assoc front rest (w.Close ∷ []))

      first : filter_of (neg_at columns d) ws ≡ Err f → NegRefused columns (suc d) (w.Open ∷ ws) f
      first g =
          let r = filter_refused columns d ih ws f fits g in
          record {
            kind = r.kind;
            front = w.Open ∷ r.front;
            bad = r.bad;
            split = ap (λ (vs : List Word). w.Open ∷ vs) r.split;
            same = r.same;
            viable = (brackets r.viable.0, r.viable.1 ++ w.Close ∷ [], closed r.viable.0 r.front r.viable.1 r.viable.2, omega (arith, r.viable.3));
            dead = down (filters columns) d r.kind w.Open r.front r.bad (λ e tail f g. open_below e tail ∙ rw g refl) r.dead;
            deep = deep_map filter_words neg_words r.kind r.front (w.Open ∷ r.front) r.bad (λ v rest c g. (brackets c, rest ++ w.Close ∷ [], closed c r.front (v ∷ rest) g)) r.deep;
          }

      second : (x : Syntax × List Word) × (filter_of (neg_at columns d) ws ≡ Ok x) × ((behind_close x.1 >>= λ rest. read x.0 rest) ≡ Err f) → NegRefused columns (suc d) (w.Open ∷ ws) f
      second (x, o, g) =
          let c = filter_sound columns d (neg_at columns d) (neg_sound columns d) ws x.1 x.0 o in
          let stops = filter_stops columns d ws x fits o in
          let short : length (filter_words c.0) ≤ many = omega (arith, ap length c.1, length-append (filter_words c.0) x.1) in
          let shut : behind_close x.1 ≡ Err f = ⊎_elim (λ e. e) (λ y. absurd (let no = y.2 in cc)) (bind_err (behind_close x.1) (λ rest. read x.0 rest) f g) in
          subst (λ (vs : List Word). NegRefused columns (suc d) (w.Open ∷ vs) f) c.1 (not_closed d c.0 x.1 f short c.3 stops.0 stops.1 shut)

  deep_not : (ws : List Word) (f : Stuck) → neg_at columns 0 (w.Not ∷ ws) ≡ Err f → NegRefused columns 0 (w.Not ∷ ws) f
  deep_not ws f h =
      record {
        kind = depth;
        front = [];
        bad = w.Not ∷ ws;
        split = refl;
        same = err_is _ _ (sym h ∙ not_none ws);
        viable = (any_neg, neg_words any_neg, refl, omega arith);
        dead = λ e l rest. subst (λ (n : ℕ). neg_at columns n (w.Not ∷ rest) ≡ Err (TooDeep (suc (length rest)))) l (not_none rest);
        deep = (negated any_neg, neg_words any_neg, refl);
      }

  deep_open : (ws : List Word) (f : Stuck) → neg_at columns 0 (w.Open ∷ ws) ≡ Err f → NegRefused columns 0 (w.Open ∷ ws) f
  deep_open ws f h =
      record {
        kind = depth;
        front = [];
        bad = w.Open ∷ ws;
        split = refl;
        same = err_is _ _ (sym h ∙ open_none ws);
        viable = (any_neg, neg_words any_neg, refl, omega arith);
        dead = λ e l rest. subst (λ (n : ℕ). neg_at columns n (w.Open ∷ rest) ≡ Err (TooDeep (suc (length rest)))) l (open_none rest);
        deep = (brackets any_filter, filter_words any_filter ++ w.Close ∷ [], refl);
      }

  atom_level : (d : ℕ) (ws : List Word) (f : Stuck) → behind_not ws ≡ None → behind_open ws ≡ None → neg_at columns d ws ≡ Err f → NegRefused columns d ws f
  atom_level d ws f n o h =
      let r = atom_refused columns d ws f (sym (at_atom d ws n o) ∙ h) in
      record { kind = r.kind; front = r.front; bad = r.bad; split = r.split; same = r.same; viable = r.viable; dead = atom_dead d r.kind ws r.front r.bad r.split n o r.dead; deep = r.deep }

  -- a part, where the words that open a level are read by these
  by_head : (d : ℕ) (ws : List Word) (f : Stuck) → neg_at columns d ws ≡ Err f → ((us : List Word) → w.Not ∷ us ≡ ws → NegRefused columns d ws f) → ((us : List Word) → w.Open ∷ us ≡ ws → NegRefused columns d ws f) → NegRefused columns d ws f
  by_head d ws f h on_not on_open = by (behind_not ws) refl
    where
      then : (o : Option (List Word)) → behind_open ws ≡ o → behind_not ws ≡ None → NegRefused columns d ws f
      then None o n = atom_level d ws f n o h
      then (Some after) o n = on_open after (open_is ws after o)

      by : (o : Option (List Word)) → behind_not ws ≡ o → NegRefused columns d ws f
      by None n = then (behind_open ws) refl n
      by (Some after) n = on_not after (not_is ws after n)

  pub neg_refused : (d : ℕ) → ItemRefused columns d
  neg_refused zero ws f fits h =
      by_head 0 ws f h
      (λ us s. subst (λ (vs : List Word). NegRefused columns 0 vs f) s (deep_not us f (ap (neg_at columns 0) s ∙ h)))
      (λ us s. subst (λ (vs : List Word). NegRefused columns 0 vs f) s (deep_open us f (ap (neg_at columns 0) s ∙ h)))
  neg_refused (suc d) ws f fits h =
      by_head (suc d) ws f h
      (λ us s. subst (λ (vs : List Word). NegRefused columns (suc d) vs f) s (not_refused d (neg_refused d) us f (omega (arith, ap length s)) (ap (neg_at columns (suc d)) s ∙ h)))
      (λ us s. subst (λ (vs : List Word). NegRefused columns (suc d) vs f) s (open_refused d (neg_refused d) us f (omega (arith, ap length s)) (ap (neg_at columns (suc d)) s ∙ h)))
