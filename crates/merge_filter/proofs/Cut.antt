-- Where a filter begins with some words, a short one with no more levels does.
use Rattle.std.proofs.Common.{◌≡◌, ℕ, suc, ◌+◌, ◌*◌, ◌≤◌, List, [], ◌∷◌, ◌++◌, length, refl, sym, ap, ◌∙◌, arith, append_assoc, length-append, subst, ◌⊎◌, inl, inr, ⊎_elim}
use Rattle.std.proofs.lemmas.List.{append-nil}
use Rattle.merge_filter.specs.declared.word.Word.{Word}
use Rattle.merge_filter.specs.declared.word.Word.TheVariants as w
use Rattle.merge_filter.specs.Grammar.{Term, column, host, integer, text, bytes, day, guid, bit, Neg, negated, brackets, compared, null, not_null, Conj, conj, Ands, no_and, and, Filter, filter, Ors, no_or, or, term_words, neg_words, conj_words, ands_words, filter_words, ors_words, neg_levels, conj_levels, ands_levels, filter_levels, ors_levels}

-- a part that begins with the words, has few words behind them and opens at most so many levels
pub record Short {C : Type 0} (spell : C → List Word) (levels : C → ℕ) (words : List Word) (d : ℕ) : Type 0 where
  pub part : C
  pub more : List Word
  pub same : spell part ≡ words ++ more
  pub within : levels part ≤ d
  pub few : length more ≤ length words + 7

-- the words end in the first of two lists, or go on into the second
abbrev Cut : List Word → List Word → List Word → List Word → Type 0
Cut xs ys words more = ((mid : List Word) × (xs ≡ words ++ mid) × (mid ++ ys ≡ more)) ⊎ ((mid : List Word) × (words ≡ xs ++ mid) × (ys ≡ mid ++ more))

heads : (x y : Word) (xs ys : List Word) → x ∷ xs ≡ y ∷ ys → (x ≡ y) × (xs ≡ ys)
heads x y xs ys e = (cc, cc)

cut : (xs ys words more : List Word) → xs ++ ys ≡ words ++ more → Cut xs ys words more
cut xs ys [] more e = inl (xs, refl, e)
cut [] ys (v ∷ words) more e = inr (v ∷ words, refl, e)
cut (x ∷ xs) ys (v ∷ words) more e =
    let h = heads x v (xs ++ ys) (words ++ more) e in
    subst (λ (u : Word). Cut (x ∷ xs) ys (u ∷ words) more) h.0
    (⊎_elim (λ l. inl (l.0, ap (λ (us : List Word). x ∷ us) l.1, l.2)) (λ r. inr (r.0, ap (λ (us : List Word). x ∷ us) r.1, r.2)) (cut xs ys words more h.1))

term_len : (x : Term) → length (term_words x) ≤ 3
term_len (column name) = omega arith
term_len host = omega arith
term_len (integer z) = omega arith
term_len (text t d g) = omega arith
term_len (bytes bs) = omega arith
term_len (day t z g) = omega arith
term_len (guid t d n) = omega arith
term_len (bit b) = omega arith

abbrev any_neg : Neg
any_neg = null []

abbrev ShortNeg : List Word → ℕ → Type 0
ShortNeg words d = Short neg_words neg_levels words d

abbrev ShortConj : List Word → ℕ → Type 0
ShortConj words d = Short conj_words conj_levels words d

abbrev ShortAnds : List Word → ℕ → Type 0
ShortAnds words d = Short ands_words ands_levels words d

abbrev ShortFilter : List Word → ℕ → Type 0
ShortFilter words d = Short filter_words filter_levels words d

abbrev ShortOrs : List Word → ℕ → Type 0
ShortOrs words d = Short ors_words ors_levels words d

in_brackets : (f : Filter) (words more : List Word) → w.Open ∷ (filter_words f ++ w.Close ∷ []) ≡ w.Open ∷ (words ++ more)
    → ((words more : List Word) → filter_words f ≡ words ++ more → ShortFilter words (filter_levels f)) → ShortNeg (w.Open ∷ words) (suc (filter_levels f))
in_brackets f words more e shorter = ⊎_elim inside whole (cut (filter_words f) (w.Close ∷ []) words more (heads _ _ _ _ e).1)
  where
    inside : (mid : List Word) × (filter_words f ≡ words ++ mid) × (mid ++ w.Close ∷ [] ≡ more) → ShortNeg (w.Open ∷ words) (suc (filter_levels f))
    inside (mid, a, b) =
        let r = shorter words mid a in
        record {
          part = brackets r.part;
          more = r.more ++ w.Close ∷ [];
          same = ap (λ (us : List Word). w.Open ∷ us) (ap (λ (us : List Word). us ++ w.Close ∷ []) r.same ∙ append_assoc words r.more (w.Close ∷ []));
          within = omega (arith, r.within);
          few = omega (arith, r.few, length-append r.more (w.Close ∷ []));
        }

    whole : (mid : List Word) × (words ≡ filter_words f ++ mid) × (w.Close ∷ [] ≡ mid ++ more) → ShortNeg (w.Open ∷ words) (suc (filter_levels f))
    whole (mid, a, b) = record { part = brackets f; more = more; same = e; within = omega arith; few = omega (arith, ap length b, length-append mid more) }

-- a part and those behind it, where each can be cut
joined : (n : Neg) (ns : Ands) (words more : List Word) → neg_words n ++ ands_words ns ≡ words ++ more
    → ((words more : List Word) → neg_words n ≡ words ++ more → ShortNeg words (neg_levels n)) → ((words more : List Word) → ands_words ns ≡ words ++ more → ShortAnds words (ands_levels ns))
    → ShortConj words (conj_levels (conj n ns))
joined n ns words more e first others = ⊎_elim within beyond (cut (neg_words n) (ands_words ns) words more e)
  where
    within : (mid : List Word) × (neg_words n ≡ words ++ mid) × (mid ++ ands_words ns ≡ more) → ShortConj words (conj_levels (conj n ns))
    within (mid, a, b) =
        let r = first words mid a in
        record { part = conj r.part no_and; more = r.more; same = append-nil (neg_words r.part) ∙ r.same; within = omega (arith, r.within); few = r.few }

    beyond : (mid : List Word) × (words ≡ neg_words n ++ mid) × (ands_words ns ≡ mid ++ more) → ShortConj words (conj_levels (conj n ns))
    beyond (mid, a, b) =
        let r = others mid more b in
        record {
          part = conj n r.part;
          more = r.more;
          same = ap (λ (us : List Word). neg_words n ++ us) r.same ∙ sym (append_assoc (neg_words n) mid r.more) ∙ ap (λ (us : List Word). us ++ r.more) (sym a);
          within = omega (arith, r.within);
          few = omega (arith, r.few, ap length a, length-append (neg_words n) mid);
        }

behind_and_word : (c : Conj) → (a : Ands) × (ands_words a ≡ w.And ∷ conj_words c) × (ands_levels a ≡ conj_levels c)
behind_and_word (conj n ns) = (and n ns, refl, refl)

-- the same for conjunctions
either : (c : Conj) (cs : Ors) (words more : List Word) → conj_words c ++ ors_words cs ≡ words ++ more
    → ((words more : List Word) → conj_words c ≡ words ++ more → ShortConj words (conj_levels c)) → ((words more : List Word) → ors_words cs ≡ words ++ more → ShortOrs words (ors_levels cs))
    → ShortFilter words (filter_levels (filter c cs))
either c cs words more e first others = ⊎_elim within beyond (cut (conj_words c) (ors_words cs) words more e)
  where
    within : (mid : List Word) × (conj_words c ≡ words ++ mid) × (mid ++ ors_words cs ≡ more) → ShortFilter words (filter_levels (filter c cs))
    within (mid, a, b) =
        let r = first words mid a in
        record { part = filter r.part no_or; more = r.more; same = append-nil (conj_words r.part) ∙ r.same; within = omega (arith, r.within); few = r.few }

    beyond : (mid : List Word) × (words ≡ conj_words c ++ mid) × (ors_words cs ≡ mid ++ more) → ShortFilter words (filter_levels (filter c cs))
    beyond (mid, a, b) =
        let r = others mid more b in
        record {
          part = filter c r.part;
          more = r.more;
          same = ap (λ (us : List Word). conj_words c ++ us) r.same ∙ sym (append_assoc (conj_words c) mid r.more) ∙ ap (λ (us : List Word). us ++ r.more) (sym a);
          within = omega (arith, r.within);
          few = omega (arith, r.few, ap length a, length-append (conj_words c) mid);
        }

behind_or_word : (f : Filter) → (a : Ors) × (ors_words a ≡ w.Or ∷ filter_words f) × (ors_levels a ≡ filter_levels f)
behind_or_word (filter c cs) = (or c cs, refl, refl)

-- one word more in front
negate : (words : List Word) (d : ℕ) → ShortNeg words d → ShortNeg (w.Not ∷ words) (suc d)
negate words d r =
    record { part = negated r.part; more = r.more; same = ap (λ (us : List Word). w.Not ∷ us) r.same; within = omega (arith, r.within); few = omega (arith, r.few) }

add_and : (words : List Word) (d : ℕ) → ShortConj words d → ShortAnds (w.And ∷ words) d
add_and words d r =
    let a = behind_and_word r.part in
    record { part = a.0; more = r.more; same = a.1 ∙ ap (λ (us : List Word). w.And ∷ us) r.same; within = omega (arith, r.within, a.2); few = omega (arith, r.few) }

add_or : (words : List Word) (d : ℕ) → ShortFilter words d → ShortOrs (w.Or ∷ words) d
add_or words d r =
    let a = behind_or_word r.part in
    record { part = a.0; more = r.more; same = a.1 ∙ ap (λ (us : List Word). w.Or ∷ us) r.same; within = omega (arith, r.within, a.2); few = omega (arith, r.few) }

mutual
  neg_cut : (n : Neg) (words more : List Word) → neg_words n ≡ words ++ more → ShortNeg words (neg_levels n)
  neg_cut n [] more e = record { part = any_neg; more = neg_words any_neg; same = refl; within = omega arith; few = omega arith }
  neg_cut (negated n) (v ∷ words) more e =
      let h = heads w.Not v (neg_words n) (words ++ more) e in
      subst (λ (u : Word). ShortNeg (u ∷ words) (suc (neg_levels n))) h.0 (negate words (neg_levels n) (neg_cut n words more h.1))
  neg_cut (brackets f) (v ∷ words) more e =
      let h = heads w.Open v (filter_words f ++ w.Close ∷ []) (words ++ more) e in
      subst (λ (u : Word). ShortNeg (u ∷ words) (suc (filter_levels f))) h.0 (in_brackets f words more (ap (λ (us : List Word). w.Open ∷ us) h.1) (filter_cut f))
  neg_cut (compared x s p y) (v ∷ words) more e =
      record { part = compared x s p y; more = more; same = e; within = omega arith; few = omega (arith, ap length e, length-append (term_words x) (w.Sign s p ∷ term_words y), length-append (v ∷ words) more, term_len x, term_len y) }
  neg_cut (null c) (v ∷ words) more e =
      record { part = null c; more = more; same = e; within = omega arith; few = omega (arith, ap length e, length-append (v ∷ words) more) }
  neg_cut (not_null c) (v ∷ words) more e =
      record { part = not_null c; more = more; same = e; within = omega arith; few = omega (arith, ap length e, length-append (v ∷ words) more) }

  conj_cut : (c : Conj) (words more : List Word) → conj_words c ≡ words ++ more → ShortConj words (conj_levels c)
  conj_cut (conj n ns) words more e = joined n ns words more e (neg_cut n) (ands_cut ns)

  ands_cut : (ns : Ands) (words more : List Word) → ands_words ns ≡ words ++ more → ShortAnds words (ands_levels ns)
  ands_cut ns [] more e = record { part = no_and; more = []; same = refl; within = omega arith; few = omega arith }
  ands_cut no_and (v ∷ words) more e = absurd cc
  ands_cut (and n ns) (v ∷ words) more e =
      let h = heads w.And v (neg_words n ++ ands_words ns) (words ++ more) e in
      subst (λ (u : Word). ShortAnds (u ∷ words) (ands_levels (and n ns))) h.0 (add_and words (ands_levels (and n ns)) (joined n ns words more h.1 (neg_cut n) (ands_cut ns)))

  filter_cut : (f : Filter) (words more : List Word) → filter_words f ≡ words ++ more → ShortFilter words (filter_levels f)
  filter_cut (filter c cs) words more e = either c cs words more e (conj_cut c) (ors_cut cs)

  ors_cut : (cs : Ors) (words more : List Word) → ors_words cs ≡ words ++ more → ShortOrs words (ors_levels cs)
  ors_cut cs [] more e = record { part = no_or; more = []; same = refl; within = omega arith; few = omega arith }
  ors_cut no_or (v ∷ words) more e = absurd cc
  ors_cut (or c cs) (v ∷ words) more e =
      let h = heads w.Or v (conj_words c ++ ors_words cs) (words ++ more) e in
      subst (λ (u : Word). ShortOrs (u ∷ words) (ors_levels (or c cs))) h.0 (add_or words (ors_levels (or c cs)) (either c cs words more h.1 (conj_cut c) (ors_cut cs)))

pub shortened : (f : Filter) (words more : List Word) → filter_words f ≡ words ++ more → Short filter_words filter_levels words (filter_levels f)
shortened f words more e = filter_cut f words more e

pub short_len : (words : List Word) (d : ℕ) (r : Short filter_words filter_levels words d) → length (filter_words r.part) ≤ 2 * length words + 7
short_len words d r = omega (arith, ap length r.same, length-append words r.more, r.few)
