-- Where parts one after the other stop, and what stands behind them.
use Rattle.std.proofs.Common.{◌≡◌, ℕ, zero, suc, ◌≤◌, List, [], ◌∷◌, ◌++◌, length, Ok, Err, Option, Some, None, refl, sym, ap, ◌∙◌, arith, append_assoc, length-append, subst, ⊎_elim}
use Rattle.std.proofs.lemmas.List.{append-nil}
use Rattle.merge_types.specs.declared.values.Column.{Column}
use Rattle.merge_filter.specs.declared.form.Stuck.{Stuck}
use Rattle.merge_filter.specs.declared.word.Word.{Word}
use Rattle.merge_filter.specs.declared.word.Word.TheVariants as w
use Rattle.merge_filter.specs.Syntax.{Syntax, Or, And}
use Rattle.merge_filter.specs.Form.{◌>>=◌, Read, more, many, go_or, behind_and, behind_or, conj_of, filter_of, neg_at}
use Rattle.merge_filter.specs.Grammar.{Neg, Conj, conj, no_and, and, filter, no_or, or, neg_words, conj_words, ands_words, filter_words, ors_words, neg_tree, conj_tree, neg_levels, conj_levels, ands_levels, filter_levels, ors_levels}
use Rattle.merge_filter.proofs.Complete.{neg_reads, conj_reads, and_step, or_step, conj_step, filter_step}
use Rattle.merge_filter.proofs.Sound.{bind_ok, read, read_is, and_is, or_is, neg_sound, conj_sound}
use Rattle.merge_filter.proofs.Refusal.{Readers, Refused, bind_err, dead_map, deep_map, lasts_le}
use Rattle.merge_filter.proofs.Heads.{no_word, no_and_at_or}

module _ (columns : List Column) where
  abbrev pub negs : Readers (Syntax × List Word)
  negs e ws = neg_at columns e ws

  abbrev pub NegRefused : ℕ → List Word → Stuck → Type 0
  NegRefused d ws e = Refused neg_words neg_levels negs d ws e

  abbrev pub ItemRefused : ℕ → Type 0
  ItemRefused d = (ws : List Word) (e : Stuck) → length ws ≤ many → neg_at columns d ws ≡ Err e → NegRefused d ws e

  abbrev ands : ℕ → Syntax → Readers (Syntax × List Word)
  ands k left e ws = more behind_and And (neg_at columns e) k left ws

  abbrev AndsRefused : ℕ → ℕ → Syntax → List Word → Stuck → Type 0
  AndsRefused d k left ws e = Refused ands_words ands_levels (ands k left) d ws e

  abbrev conjs : Readers (Syntax × List Word)
  conjs e ws = conj_of (neg_at columns e) ws

  abbrev ConjRefused : ℕ → List Word → Stuck → Type 0
  ConjRefused d ws e = Refused conj_words conj_levels conjs d ws e

  and_fails : (item : List Word → Read Syntax) (k : ℕ) (left : Syntax) (ws : List Word) (f : Stuck) → item ws ≡ Err f → more behind_and And item (suc k) left (w.And ∷ ws) ≡ Err f
  unfolding more behind_and
  and_fails item k left ws f h = rw h refl

  conj_fails : (item : List Word → Read Syntax) (ws : List Word) (f : Stuck) → item ws ≡ Err f → conj_of item ws ≡ Err f
  unfolding conj_of
  conj_fails item ws f h = rw h refl

  and_item : (d k : ℕ) (left : Syntax) (after : List Word) (f : Stuck) → NegRefused d after f → AndsRefused d (suc k) left (w.And ∷ after) f
  and_item d k left after f r =
      record {
        kind = r.kind;
        front = w.And ∷ r.front;
        bad = r.bad;
        split = ap (λ (vs : List Word). w.And ∷ vs) r.split;
        same = r.same;
        viable = (and r.viable.0 no_and, r.viable.1, ap (λ (vs : List Word). w.And ∷ vs) (append-nil (neg_words r.viable.0) ∙ r.viable.2), omega (arith, r.viable.3));
        dead = dead_map negs (ands (suc k) left) d r.kind r.front (w.And ∷ r.front) r.bad (λ e l tail f g. and_fails (neg_at columns e) k left (r.front ++ tail) f g) r.dead;
        deep = deep_map neg_words ands_words r.kind r.front (w.And ∷ r.front) r.bad (λ v rest c g. (and c no_and, rest, ap (λ (vs : List Word). w.And ∷ vs) (append-nil (neg_words c) ∙ g))) r.deep;
      }

  and_more : (d k : ℕ) (left : Syntax) (n : Neg) (t : Syntax) (after mid : List Word) (f : Stuck) → length after ≤ many → neg_words n ++ mid ≡ after → neg_tree columns n ≡ t → neg_levels n ≤ d
      → AndsRefused d k (And left t) mid f → AndsRefused d (suc k) left (w.And ∷ after) f
  and_more d k left n t after mid f fits s tree lev r =
      let short : length (neg_words n) ≤ many = omega (arith, ap length s, length-append (neg_words n) mid) in
      record {
        kind = r.kind;
        front = w.And ∷ (neg_words n ++ r.front);
        bad = r.bad;
        split = ap (λ (vs : List Word). w.And ∷ vs) (sym s ∙ ap (λ (vs : List Word). neg_words n ++ vs) r.split ∙ sym (append_assoc (neg_words n) r.front r.bad));
        same = r.same;
        viable = (and n r.viable.0, r.viable.1, ap (λ (vs : List Word). w.And ∷ vs) (ap (λ (vs : List Word). neg_words n ++ vs) r.viable.2 ∙ sym (append_assoc (neg_words n) r.front r.viable.1)), omega (arith, r.viable.3));
        dead = dead_map (ands k (And left t)) (ands (suc k) left) d r.kind r.front (w.And ∷ (neg_words n ++ r.front)) r.bad
            (λ e l tail f g. let le : neg_levels n ≤ e = omega (arith, lasts_le r.kind d e l) in
            and_step columns (neg_at columns e) k left t ((neg_words n ++ r.front) ++ tail) (r.front ++ tail) (Err f)
            (ap (neg_at columns e) (append_assoc (neg_words n) r.front (tail)) ∙ neg_reads columns n e (r.front ++ tail) short le ∙ ap (λ (x : Syntax). read x (r.front ++ tail)) tree) g) r.dead;
        deep = deep_map ands_words ands_words r.kind r.front (w.And ∷ (neg_words n ++ r.front)) r.bad
            (λ v rest c g. (and n c, rest, ap (λ (vs : List Word). w.And ∷ vs) (ap (λ (vs : List Word). neg_words n ++ vs) g ∙ sym (append_assoc (neg_words n) r.front (v ∷ rest))))) r.deep;
      }

  ands_refused : (d : ℕ) → ItemRefused d → (k : ℕ) (left : Syntax) (ws : List Word) (f : Stuck) → length ws ≤ many → more behind_and And (neg_at columns d) k left ws ≡ Err f → AndsRefused d k left ws f
  unfolding more
  ands_refused d ih zero left ws f fits h = absurd cc
  ands_refused d ih (suc k) left ws f fits h = by (behind_and ws) refl h (ands_refused d ih k)
    where
      by : (o : Option (List Word)) → behind_and ws ≡ o → go_or o (read left ws) (λ after. neg_at columns d after >>= λ x. more behind_and And (neg_at columns d) k (And left x.0) x.1) ≡ Err f
          → ((left : Syntax) (ws : List Word) (f : Stuck) → length ws ≤ many → more behind_and And (neg_at columns d) k left ws ≡ Err f → AndsRefused d k left ws f) → AndsRefused d (suc k) left ws f
      by None o h rec = absurd cc
      by (Some after) o h rec =
          let s = and_is ws after o in
          let short : length after ≤ many = omega (arith, ap length s) in
          subst (λ (vs : List Word). AndsRefused d (suc k) left vs f) s
          (⊎_elim (λ g. and_item d k left after f (ih after f short g))
          (λ x. let n = neg_sound columns d after x.0.1 x.0.0 x.1 in
          let less : length x.0.1 ≤ many = omega (arith, ap length n.1, length-append (neg_words n.0) x.0.1) in
          and_more d k left n.0 x.0.0 after x.0.1 f short n.1 n.2 n.3 (rec (And left x.0.0) x.0.1 f less x.2))
          (bind_err (neg_at columns d after) (λ x. more behind_and And (neg_at columns d) k (And left x.0) x.1) f h))

  conj_refused : (d : ℕ) → ItemRefused d → (ws : List Word) (f : Stuck) → length ws ≤ many → conj_of (neg_at columns d) ws ≡ Err f → ConjRefused d ws f
  unfolding conj_of
  conj_refused d ih ws f fits h = ⊎_elim first second (bind_err (neg_at columns d ws) (λ x. more behind_and And (neg_at columns d) many x.0 x.1) f h)
    where
      first : neg_at columns d ws ≡ Err f → ConjRefused d ws f
      first g =
          let r = ih ws f fits g in
          record {
            kind = r.kind;
            front = r.front;
            bad = r.bad;
            split = r.split;
            same = r.same;
            viable = (conj r.viable.0 no_and, r.viable.1, append-nil (neg_words r.viable.0) ∙ r.viable.2, omega (arith, r.viable.3));
            dead = dead_map negs conjs d r.kind r.front r.front r.bad (λ e l tail f g. conj_fails (neg_at columns e) (r.front ++ tail) f g) r.dead;
            deep = deep_map neg_words conj_words r.kind r.front r.front r.bad (λ v rest c g. (conj c no_and, rest, append-nil (neg_words c) ∙ g)) r.deep;
          }

      second : (x : Syntax × List Word) × (neg_at columns d ws ≡ Ok x) × (more behind_and And (neg_at columns d) many x.0 x.1 ≡ Err f) → ConjRefused d ws f
      second (x, o, g) =
          let n = neg_sound columns d ws x.1 x.0 o in
          let short : length (neg_words n.0) ≤ many = omega (arith, ap length n.1, length-append (neg_words n.0) x.1) in
          let less : length x.1 ≤ many = omega (arith, ap length n.1, length-append (neg_words n.0) x.1) in
          let r = ands_refused d ih many x.0 x.1 f less g in
          record {
            kind = r.kind;
            front = neg_words n.0 ++ r.front;
            bad = r.bad;
            split = sym n.1 ∙ ap (λ (vs : List Word). neg_words n.0 ++ vs) r.split ∙ sym (append_assoc (neg_words n.0) r.front r.bad);
            same = r.same;
            viable = (conj n.0 r.viable.0, r.viable.1, ap (λ (vs : List Word). neg_words n.0 ++ vs) r.viable.2 ∙ sym (append_assoc (neg_words n.0) r.front r.viable.1), omega (arith, n.3, r.viable.3));
            dead = dead_map (ands many x.0) conjs d r.kind r.front (neg_words n.0 ++ r.front) r.bad
                (λ e l tail f g. let le : neg_levels n.0 ≤ e = omega (arith, n.3, lasts_le r.kind d e l) in
                conj_step columns (neg_at columns e) ((neg_words n.0 ++ r.front) ++ tail) (r.front ++ tail) x.0 (Err f)
                (ap (neg_at columns e) (append_assoc (neg_words n.0) r.front (tail)) ∙ neg_reads columns n.0 e (r.front ++ tail) short le ∙ ap (λ (t : Syntax). read t (r.front ++ tail)) n.2) g) r.dead;
            deep = deep_map ands_words conj_words r.kind r.front (neg_words n.0 ++ r.front) r.bad
                (λ v rest c g. (conj n.0 c, rest, ap (λ (vs : List Word). neg_words n.0 ++ vs) g ∙ sym (append_assoc (neg_words n.0) r.front (v ∷ rest)))) r.deep;
          }

  abbrev ors : ℕ → Syntax → Readers (Syntax × List Word)
  ors k left e ws = more behind_or Or (conj_of (neg_at columns e)) k left ws

  -- what was passed begins with no AND
  abbrev OrsRefused : ℕ → ℕ → Syntax → List Word → Stuck → Type 0
  OrsRefused d k left ws e = (r : Refused ors_words ors_levels (ors k left) d ws e) × ((rest : List Word) → behind_and (r.front ++ rest) ≡ None)

  abbrev pub filters : Readers (Syntax × List Word)
  filters e ws = filter_of (neg_at columns e) ws

  abbrev pub FilterRefused : ℕ → List Word → Stuck → Type 0
  FilterRefused d ws e = Refused filter_words filter_levels filters d ws e

  or_fails : (item : List Word → Read Syntax) (k : ℕ) (left : Syntax) (ws : List Word) (f : Stuck) → item ws ≡ Err f → more behind_or Or item (suc k) left (w.Or ∷ ws) ≡ Err f
  unfolding more behind_or
  or_fails item k left ws f h = rw h refl

  filter_fails : (item : List Word → Read Syntax) (ws : List Word) (f : Stuck) → conj_of item ws ≡ Err f → filter_of item ws ≡ Err f
  unfolding filter_of
  filter_fails item ws f h = rw h refl

  or_item : (d k : ℕ) (left : Syntax) (after : List Word) (f : Stuck) → ConjRefused d after f → OrsRefused d (suc k) left (w.Or ∷ after) f
  or_item d k left after f r = (
    record {
      kind = r.kind;
      front = w.Or ∷ r.front;
      bad = r.bad;
      split = ap (λ (vs : List Word). w.Or ∷ vs) r.split;
      same = r.same;
      viable = (or r.viable.0 no_or, r.viable.1, ap (λ (vs : List Word). w.Or ∷ vs) (append-nil (conj_words r.viable.0) ∙ r.viable.2), omega (arith, r.viable.3));
      dead = dead_map conjs (ors (suc k) left) d r.kind r.front (w.Or ∷ r.front) r.bad (λ e l tail f g. or_fails (conj_of (neg_at columns e)) k left (r.front ++ tail) f g) r.dead;
      deep = deep_map conj_words ors_words r.kind r.front (w.Or ∷ r.front) r.bad (λ v rest c g. (or c no_or, rest, ap (λ (vs : List Word). w.Or ∷ vs) (append-nil (conj_words c) ∙ g))) r.deep;
    },
    λ rest. no_and_at_or (r.front ++ rest),
  )

  or_more : (d k : ℕ) (left : Syntax) (n : Conj) (t : Syntax) (after mid : List Word) (f : Stuck) → length after ≤ many → conj_words n ++ mid ≡ after → conj_tree columns n ≡ t → conj_levels n ≤ d
      → OrsRefused d k (Or left t) mid f → OrsRefused d (suc k) left (w.Or ∷ after) f
  or_more d k left n t after mid f fits s tree lev (r, starts) =
      let short : length (conj_words n) ≤ many = omega (arith, ap length s, length-append (conj_words n) mid) in (
        record {
          kind = r.kind;
          front = w.Or ∷ (conj_words n ++ r.front);
          bad = r.bad;
          split = ap (λ (vs : List Word). w.Or ∷ vs) (sym s ∙ ap (λ (vs : List Word). conj_words n ++ vs) r.split ∙ sym (append_assoc (conj_words n) r.front r.bad));
          same = r.same;
          viable = (or n r.viable.0, r.viable.1, ap (λ (vs : List Word). w.Or ∷ vs) (ap (λ (vs : List Word). conj_words n ++ vs) r.viable.2 ∙ sym (append_assoc (conj_words n) r.front r.viable.1)), omega (arith, r.viable.3));
          dead = dead_map (ors k (Or left t)) (ors (suc k) left) d r.kind r.front (w.Or ∷ (conj_words n ++ r.front)) r.bad
              (λ e l tail f g. let le : conj_levels n ≤ e = omega (arith, lasts_le r.kind d e l) in
              or_step columns (conj_of (neg_at columns e)) k left t ((conj_words n ++ r.front) ++ tail) (r.front ++ tail) (Err f)
              (ap (conj_of (neg_at columns e)) (append_assoc (conj_words n) r.front (tail)) ∙ conj_reads columns n e (r.front ++ tail) short le (starts (tail)) ∙ ap (λ (x : Syntax). read x (r.front ++ tail)) tree) g) r.dead;
          deep = deep_map ors_words ors_words r.kind r.front (w.Or ∷ (conj_words n ++ r.front)) r.bad
              (λ v rest c g. (or n c, rest, ap (λ (vs : List Word). w.Or ∷ vs) (ap (λ (vs : List Word). conj_words n ++ vs) g ∙ sym (append_assoc (conj_words n) r.front (v ∷ rest))))) r.deep;
        },
        λ rest. no_and_at_or ((conj_words n ++ r.front) ++ rest),
      )

  conj_is : (d : ℕ) (ws : List Word) (x : Syntax × List Word) → conj_of (neg_at columns d) ws ≡ Ok x → (c : Conj) × (conj_words c ++ x.1 ≡ ws) × (conj_tree columns c ≡ x.0) × (conj_levels c ≤ d)
  conj_is d ws x h = conj_sound columns d (neg_at columns d) (neg_sound columns d) ws x.1 x.0 h

  ors_refused : (d : ℕ) → ItemRefused d → (k : ℕ) (left : Syntax) (ws : List Word) (f : Stuck) → length ws ≤ many → more behind_or Or (conj_of (neg_at columns d)) k left ws ≡ Err f → OrsRefused d k left ws f
  unfolding more
  ors_refused d ih zero left ws f fits h = absurd cc
  ors_refused d ih (suc k) left ws f fits h = by (behind_or ws) refl h (ors_refused d ih k)
    where
      by : (o : Option (List Word)) → behind_or ws ≡ o → go_or o (read left ws) (λ after. conj_of (neg_at columns d) after >>= λ x. more behind_or Or (conj_of (neg_at columns d)) k (Or left x.0) x.1) ≡ Err f
          → ((left : Syntax) (ws : List Word) (f : Stuck) → length ws ≤ many → more behind_or Or (conj_of (neg_at columns d)) k left ws ≡ Err f → OrsRefused d k left ws f) → OrsRefused d (suc k) left ws f
      by None o h rec = absurd cc
      by (Some after) o h rec =
          let s = or_is ws after o in
          let short : length after ≤ many = omega (arith, ap length s) in
          subst (λ (vs : List Word). OrsRefused d (suc k) left vs f) s
          (⊎_elim (λ g. or_item d k left after f (conj_refused d ih after f short g))
          (λ x. let n = conj_is d after x.0 x.1 in
          let less : length x.0.1 ≤ many = omega (arith, ap length n.1, length-append (conj_words n.0) x.0.1) in
          or_more d k left n.0 x.0.0 after x.0.1 f short n.1 n.2 n.3 (rec (Or left x.0.0) x.0.1 f less x.2))
          (bind_err (conj_of (neg_at columns d) after) (λ x. more behind_or Or (conj_of (neg_at columns d)) k (Or left x.0) x.1) f h))

  pub filter_refused : (d : ℕ) → ItemRefused d → (ws : List Word) (f : Stuck) → length ws ≤ many → filter_of (neg_at columns d) ws ≡ Err f → FilterRefused d ws f
  unfolding filter_of
  filter_refused d ih ws f fits h = ⊎_elim first second (bind_err (conj_of (neg_at columns d) ws) (λ x. more behind_or Or (conj_of (neg_at columns d)) many x.0 x.1) f h)
    where
      first : conj_of (neg_at columns d) ws ≡ Err f → FilterRefused d ws f
      first g =
          let r = conj_refused d ih ws f fits g in
          record {
            kind = r.kind;
            front = r.front;
            bad = r.bad;
            split = r.split;
            same = r.same;
            viable = (filter r.viable.0 no_or, r.viable.1, append-nil (conj_words r.viable.0) ∙ r.viable.2, omega (arith, r.viable.3));
            dead = dead_map conjs filters d r.kind r.front r.front r.bad (λ e l tail f g. filter_fails (neg_at columns e) (r.front ++ tail) f g) r.dead;
            deep = deep_map conj_words filter_words r.kind r.front r.front r.bad (λ v rest c g. (filter c no_or, rest, append-nil (conj_words c) ∙ g)) r.deep;
          }

      second : (x : Syntax × List Word) × (conj_of (neg_at columns d) ws ≡ Ok x) × (more behind_or Or (conj_of (neg_at columns d)) many x.0 x.1 ≡ Err f) → FilterRefused d ws f
      second (x, o, g) =
          let n = conj_is d ws x o in
          let short : length (conj_words n.0) ≤ many = omega (arith, ap length n.1, length-append (conj_words n.0) x.1) in
          let less : length x.1 ≤ many = omega (arith, ap length n.1, length-append (conj_words n.0) x.1) in
          let both = ors_refused d ih many x.0 x.1 f less g in
          let r = both.0 in
          record {
            kind = r.kind;
            front = conj_words n.0 ++ r.front;
            bad = r.bad;
            split = sym n.1 ∙ ap (λ (vs : List Word). conj_words n.0 ++ vs) r.split ∙ sym (append_assoc (conj_words n.0) r.front r.bad);
            same = r.same;
            viable = (filter n.0 r.viable.0, r.viable.1, ap (λ (vs : List Word). conj_words n.0 ++ vs) r.viable.2 ∙ sym (append_assoc (conj_words n.0) r.front r.viable.1), omega (arith, n.3, r.viable.3));
            dead = dead_map (ors many x.0) filters d r.kind r.front (conj_words n.0 ++ r.front) r.bad
                (λ e l tail f g. let le : conj_levels n.0 ≤ e = omega (arith, n.3, lasts_le r.kind d e l) in
                filter_step columns (neg_at columns e) ((conj_words n.0 ++ r.front) ++ tail) (r.front ++ tail) x.0 (Err f)
                (ap (conj_of (neg_at columns e)) (append_assoc (conj_words n.0) r.front (tail)) ∙ conj_reads columns n.0 e (r.front ++ tail) short le (both.1 (tail)) ∙ ap (λ (t : Syntax). read t (r.front ++ tail)) n.2) g) r.dead;
            deep = deep_map ors_words filter_words r.kind r.front (conj_words n.0 ++ r.front) r.bad
                (λ v rest c g. (filter n.0 c, rest, ap (λ (vs : List Word). conj_words n.0 ++ vs) g ∙ sym (append_assoc (conj_words n.0) r.front (v ∷ rest)))) r.deep;
          }

  and_stops : (d k : ℕ) (left : Syntax) (ws : List Word) (t : Syntax) (mid : List Word) → length ws ≤ k → more behind_and And (neg_at columns d) k left ws ≡ Ok (t, mid) → behind_and mid ≡ None
  unfolding more
  and_stops d zero left [] t mid fits h = let p = read_is left t [] mid h in ap behind_and (sym p.1) ∙ no_word.0
  and_stops d zero left (v ∷ ws) t mid fits h = absurd (omega arith)
  and_stops d (suc k) left ws t mid fits h = by (behind_and ws) refl h (and_stops d k)
    where
      by : (o : Option (List Word)) → behind_and ws ≡ o → go_or o (read left ws) (λ after. neg_at columns d after >>= λ x. more behind_and And (neg_at columns d) k (And left x.0) x.1) ≡ Ok (t, mid)
          → ((left : Syntax) (ws : List Word) (t : Syntax) (mid : List Word) → length ws ≤ k → more behind_and And (neg_at columns d) k left ws ≡ Ok (t, mid) → behind_and mid ≡ None) → behind_and mid ≡ None
      by None o h rec = let p = read_is left t ws mid h in ap behind_and (sym p.1) ∙ o
      by (Some after) o h rec =
          let b = bind_ok (neg_at columns d after) (λ x. more behind_and And (neg_at columns d) k (And left x.0) x.1) (t, mid) h in
          let n = neg_sound columns d after b.0.1 b.0.0 b.1 in
          rec (And left b.0.0) b.0.1 t mid (omega (arith, ap length (and_is ws after o), ap length n.1, length-append (neg_words n.0) b.0.1)) b.2

  conj_stops : (d : ℕ) (ws : List Word) (x : Syntax × List Word) → length ws ≤ many → conj_of (neg_at columns d) ws ≡ Ok x → behind_and x.1 ≡ None
  unfolding conj_of
  conj_stops d ws x fits h =
      let b = bind_ok (neg_at columns d ws) (λ x. more behind_and And (neg_at columns d) many x.0 x.1) x h in
      let n = neg_sound columns d ws b.0.1 b.0.0 b.1 in
      and_stops d many b.0.0 b.0.1 x.0 x.1 (omega (arith, ap length n.1, length-append (neg_words n.0) b.0.1)) b.2

  or_stops : (d k : ℕ) (left : Syntax) (ws : List Word) (t : Syntax) (mid : List Word) → length ws ≤ k → length ws ≤ many → behind_and ws ≡ None → more behind_or Or (conj_of (neg_at columns d)) k left ws ≡ Ok (t, mid)
      → (behind_and mid ≡ None) × (behind_or mid ≡ None)
  unfolding more
  or_stops d zero left [] t mid fits whole a h = let p = read_is left t [] mid h in (ap behind_and (sym p.1) ∙ no_word.0, ap behind_or (sym p.1) ∙ no_word.1)
  or_stops d zero left (v ∷ ws) t mid fits whole a h = absurd (omega arith)
  or_stops d (suc k) left ws t mid fits whole a h = by (behind_or ws) refl h (or_stops d k)
    where
      by : (o : Option (List Word)) → behind_or ws ≡ o → go_or o (read left ws) (λ after. conj_of (neg_at columns d) after >>= λ x. more behind_or Or (conj_of (neg_at columns d)) k (Or left x.0) x.1) ≡ Ok (t, mid)
          → ((left : Syntax) (ws : List Word) (t : Syntax) (mid : List Word) → length ws ≤ k → length ws ≤ many → behind_and ws ≡ None → more behind_or Or (conj_of (neg_at columns d)) k left ws ≡ Ok (t, mid) → (behind_and mid ≡ None) × (behind_or mid ≡ None))
          → (behind_and mid ≡ None) × (behind_or mid ≡ None)
      by None o h rec = let p = read_is left t ws mid h in (ap behind_and (sym p.1) ∙ a, ap behind_or (sym p.1) ∙ o)
      by (Some after) o h rec =
          let b = bind_ok (conj_of (neg_at columns d) after) (λ x. more behind_or Or (conj_of (neg_at columns d)) k (Or left x.0) x.1) (t, mid) h in
          let n = conj_is d after b.0 b.1 in
          let short : length after ≤ many = omega (arith, ap length (or_is ws after o)) in
          rec (Or left b.0.0) b.0.1 t mid (omega (arith, ap length (or_is ws after o), ap length n.1, length-append (conj_words n.0) b.0.1)) (omega (arith, ap length (or_is ws after o), ap length n.1, length-append (conj_words n.0) b.0.1)) (conj_stops d after b.0 short b.1) b.2

  pub filter_stops : (d : ℕ) (ws : List Word) (x : Syntax × List Word) → length ws ≤ many → filter_of (neg_at columns d) ws ≡ Ok x → (behind_and x.1 ≡ None) × (behind_or x.1 ≡ None)
  unfolding filter_of
  filter_stops d ws x fits h =
      let b = bind_ok (conj_of (neg_at columns d) ws) (λ x. more behind_or Or (conj_of (neg_at columns d)) many x.0 x.1) x h in
      let n = conj_is d ws b.0 b.1 in
      let less : length b.0.1 ≤ many = omega (arith, ap length n.1, length-append (conj_words n.0) b.0.1) in
      or_stops d many b.0.0 b.0.1 x.0 x.1 less less (conj_stops d ws b.0 fits b.1) b.2
