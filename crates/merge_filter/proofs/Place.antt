-- Where reading stops: some filter goes on there with another word, and none with this one.
use Rattle.std.proofs.Common.{◌≡◌, ℕ, suc, ◌+◌, ◌*◌, ◌≤◌, max, List, [], ◌∷◌, ◌++◌, length, Result, Ok, Err, None, refl, sym, ap, ◌∙◌, arith, append_assoc, length-append, subst, ⊎_elim}
use Rattle.std.proofs.lemmas.List.{append-nil}
use Rattle.merge_types.specs.declared.values.Column.{Column}
use Rattle.merge_filter.specs.declared.form.Stuck.{Stuck}
use Rattle.merge_filter.specs.declared.form.Stuck.TheVariants.{BadForm, TooDeep}
use Rattle.merge_filter.specs.declared.word.Word.{Word}
use Rattle.merge_filter.specs.Syntax.{Syntax}
use Rattle.merge_filter.specs.Form.{many, behind_and, behind_or, filter_of, neg_at, syntax_if_ended, all_of}
use Rattle.merge_filter.specs.Grammar.{Begins, NoneGoesOn, NoneBeginsWithin, Filter, filter_words, filter_tree, filter_levels}
use Rattle.merge_filter.specs.Answers.{IsBadForm, IsTooDeep, place_left}
use Rattle.merge_filter.proofs.All.{only}
use Rattle.merge_filter.proofs.Complete.{filter_reads}
use Rattle.merge_filter.proofs.Sound.{neg_sound, filter_sound}
use Rattle.merge_filter.proofs.Cut.{Short, shortened, short_len}
use Rattle.merge_filter.proofs.Refusal.{Fault, form, depth, fault_at, Readers, Dead, Deep, Refused, err_is, bind_err, dead_map, lasts_le}
use Rattle.merge_filter.proofs.Heads.{and_head, or_head}
use Rattle.merge_filter.proofs.Parts.{filters, filter_refused, filter_stops}
use Rattle.merge_filter.proofs.Levels.{neg_refused}

module _ (columns : List Column) where
  abbrev pub alls : Readers Syntax
  alls e ws = all_of columns e ws

  abbrev pub AllRefused : ℕ → List Word → Stuck → Type 0
  AllRefused d ws f = Refused filter_words filter_levels alls d ws f

  all_fails : (e : ℕ) (ws : List Word) (f : Stuck) → filter_of (neg_at columns e) ws ≡ Err f → all_of columns e ws ≡ Err f
  unfolding all_of
  all_fails e ws f h = rw h refl

  all_left : (e : ℕ) (ws : List Word) (t : Syntax) (v : Word) (us : List Word) → filter_of (neg_at columns e) ws ≡ Ok (t, v ∷ us) → all_of columns e ws ≡ Err (BadForm (suc (length us)))
  unfolding all_of
  all_left e ws t v us h = rw h refl

  not_ended : (d : ℕ) (c : Filter) (x : Syntax) (mid : List Word) (f : Stuck) → length (filter_words c) ≤ many → filter_levels c ≤ d → behind_and mid ≡ None → behind_or mid ≡ None → syntax_if_ended x mid ≡ Err f → AllRefused d (filter_words c ++ mid) f
  not_ended d c x [] f fits lev a o h = absurd cc
  not_ended d c x (v ∷ us) f fits lev a o h =
      record {
        kind = form;
        front = filter_words c;
        bad = v ∷ us;
        split = refl;
        same = sym (err_is _ _ h);
        viable = (c, [], sym (append-nil (filter_words c)), lev);
        dead = λ e l rest. all_left e (filter_words c ++ v ∷ rest) (filter_tree columns c) v rest (filter_reads columns c e (v ∷ rest) fits (omega (arith, lasts_le form d e l)) (and_head v us rest a) (or_head v us rest o));
        deep = tt;
      }

  pub all_refused : (d : ℕ) (ws : List Word) (f : Stuck) → length ws ≤ many → all_of columns d ws ≡ Err f → AllRefused d ws f
  unfolding all_of
  all_refused d ws f fits h = ⊎_elim first second (bind_err (filter_of (neg_at columns d) ws) (λ x. syntax_if_ended x.0 x.1) f h)
    where
      first : filter_of (neg_at columns d) ws ≡ Err f → AllRefused d ws f
      first g =
          let r = filter_refused columns d (neg_refused columns d) ws f fits g in
          record {
            kind = r.kind;
            front = r.front;
            bad = r.bad;
            split = r.split;
            same = r.same;
            viable = r.viable;
            dead = dead_map (filters columns) alls d r.kind r.front r.front r.bad (λ e l tail f g. all_fails e (r.front ++ tail) f g) r.dead;
            deep = r.deep;
          }

      second : (x : Syntax × List Word) × (filter_of (neg_at columns d) ws ≡ Ok x) × (syntax_if_ended x.0 x.1 ≡ Err f) → AllRefused d ws f
      second (x, o, g) =
          let c = filter_sound columns d (neg_at columns d) (neg_sound columns d) ws x.1 x.0 o in
          let stops = filter_stops columns d ws x fits o in
          let short : length (filter_words c.0) ≤ many = omega (arith, ap length c.1, length-append (filter_words c.0) x.1) in
          subst (λ (vs : List Word). AllRefused d vs f) c.1 (not_ended d c.0 x.0 x.1 f short c.3 stops.0 stops.1 g)

ok_not_err : {A : Type 0} (r : Result A Stuck) (t : A) (e : Stuck) → r ≡ Ok t → r ≡ Err e → ⊥
ok_not_err r t e g h = cc

-- a filter is read at each depth that it fits
reads_all : (columns : List Column) (e : ℕ) (f : Filter) → length (filter_words f) ≤ many → filter_levels f ≤ e → all_of columns e (filter_words f) ≡ Ok (filter_tree columns f)
reads_all columns e f short le = only columns e (filter_words f) (filter_tree columns f) short (f, refl, refl, le)

-- so few words that a short filter that begins with them and one word more can be read
abbrev pub AreFew : List Word → Type 0
AreFew words = 2 * length words + 9 ≤ many

one_behind : (front rest : List Word) (v : Word) → (front ++ v ∷ []) ++ rest ≡ front ++ v ∷ rest
one_behind front rest v = append_assoc front (v ∷ []) rest

-- a filter that begins with the words is not read where they are dead
never_read : (columns : List Column) (e : ℕ) (front : List Word) (v : Word) (r : Short filter_words filter_levels (front ++ v ∷ []) e) (k : Fault) → AreFew front
    → ((rest : List Word) → all_of columns e (front ++ v ∷ rest) ≡ Err (fault_at k (suc (length rest)))) → ⊥
never_read columns e front v r k few dead =
    let whole : filter_words r.part ≡ front ++ v ∷ r.more = r.same ∙ one_behind front r.more v in
    let short : length (filter_words r.part) ≤ many = omega (arith, short_len (front ++ v ∷ []) e r, length-append front (v ∷ [])) in
    ok_not_err (all_of columns e (filter_words r.part)) (filter_tree columns r.part) (fault_at k (suc (length r.more))) (reads_all columns e r.part short r.within) (ap (all_of columns e) whole ∙ dead r.more)

none_goes_on : (columns : List Column) (d : ℕ) (front bad : List Word) → AreFew front → Dead (alls columns) d form front bad → NoneGoesOn front bad
none_goes_on columns d front [] few dead = λ f same.
    let e = max d (filter_levels f) in
    let whole : filter_words f ≡ front ++ [] = same ∙ sym (append-nil front) in
    let short : length (filter_words f) ≤ many = omega (arith, ap length same) in
    ok_not_err (all_of columns e (filter_words f)) (filter_tree columns f) (BadForm 0) (reads_all columns e f short (omega arith)) (ap (all_of columns e) whole ∙ dead e (omega arith))
none_goes_on columns d front (v ∷ bad) few dead = λ f rest same.
    let e = max d (filter_levels f) in
    let r = shortened f (front ++ v ∷ []) rest same in
    let deeper : Short filter_words filter_levels (front ++ v ∷ []) e = record { part = r.part; more = r.more; same = r.same; within = omega (arith, r.within); few = r.few } in
    never_read columns e front v deeper form few (dead e (omega arith))

none_within : (columns : List Column) (d : ℕ) (front : List Word) (v : Word) (bad : List Word) → AreFew front → Dead (alls columns) d depth front (v ∷ bad) → NoneBeginsWithin d (front ++ v ∷ [])
none_within columns d front v bad few dead = λ f rest le same.
    let r = shortened f (front ++ v ∷ []) rest same in
    let within : Short filter_words filter_levels (front ++ v ∷ []) d = record { part = r.part; more = r.more; same = r.same; within = omega (arith, r.within); few = r.few } in
    never_read columns d front v within depth few (dead d refl)

front_few : (words front bad : List Word) → AreFew words → words ≡ front ++ bad → AreFew front
front_few words front bad few split = omega (arith, ap length split, length-append front bad)

bad_form_by : (columns : List Column) (content : List ℕ) (words : List Word) (places : List ℕ) (n : ℕ) (k : Fault) (front bad : List Word) → AreFew words → words ≡ front ++ bad → BadForm n ≡ fault_at k (length bad)
    → Begins 32 front → Dead (alls columns) 32 k front bad → IsBadForm content words places (place_left content places n)
bad_form_by columns content words places n form front bad few split same begins dead =
    let left : n ≡ length bad = cc in
    record { front = front; bad = bad; split = split; begins = begins; ends = none_goes_on columns 32 front bad (front_few words front bad few split) dead; same = ap (place_left content places) left }
bad_form_by columns content words places n depth front bad few split same begins dead = absurd cc

pub bad_form_is : (columns : List Column) (content : List ℕ) (words : List Word) (places : List ℕ) (n : ℕ) → AreFew words → all_of columns 32 words ≡ Err (BadForm n)
    → IsBadForm content words places (place_left content places n)
bad_form_is columns content words places n few h =
    let r = all_refused columns 32 words (BadForm n) (omega arith) h in
    bad_form_by columns content words places n r.kind r.front r.bad few r.split r.same r.viable r.dead

too_deep_by : (columns : List Column) (words : List Word) (n : ℕ) (k : Fault) (front bad : List Word) → AreFew words → words ≡ front ++ bad → TooDeep n ≡ fault_at k (length bad)
    → Begins 32 front → Dead (alls columns) 32 k front bad → Deep filter_words k front bad → IsTooDeep words
too_deep_by columns words n form front bad few split same begins dead deep = absurd cc
too_deep_by columns words n depth front [] few split same begins dead deep = absurd deep
too_deep_by columns words n depth front (v ∷ bad) few split same begins dead (f, rest, s) =
    record {
      front = front;
      opens = v;
      left = bad;
      split = split;
      begins = begins;
      deeper = (f, rest, s ∙ sym (one_behind front rest v));
      within = none_within columns 32 front v bad (front_few words front (v ∷ bad) few split) dead;
    }

pub too_deep_is : (columns : List Column) (words : List Word) (n : ℕ) → AreFew words → all_of columns 32 words ≡ Err (TooDeep n) → IsTooDeep words
too_deep_is columns words n few h =
    let r = all_refused columns 32 words (TooDeep n) (omega arith) h in
    too_deep_by columns words n r.kind r.front r.bad few r.split r.same r.viable r.dead r.deep
