-- What loads is made of records that keep the rules one behind the other, table behind table.
use Rattle.std.proofs.Common.{◌≡◌, ◌∙◌, ℕ, ◌+◌, ◌<◌, ◌≤◌, ◌==◌, Bool, true, false, List, [], ◌∷◌, ◌++◌, map, Option, Some, None, Ok, refl, sym, ap, subst, append_assoc, arith}
use Rattle.std.specs.List.{AllByRecursion}
use Rattle.std.specs.List.Sorted.{IsStrictlySortedBy}
use Rattle.std.specs.Ordering.{nat_cmp, ordering_then, MatchOrdering}
use Rattle.std.specs.Cmp.Lexicographic.{slice_cmp}
use Rattle.std.specs.declared.cmp.Ordering.{Ordering}
use Rattle.std.specs.declared.cmp.Ordering.TheVariants.{Less, Equal, Greater}
use Rattle.std.proofs.lemmas.Bool.{eqb-true}
use Rattle.std.proofs.lemmas.Bool.Decides.{nat_tests}
use Rattle.std.proofs.lemmas.Cmp.{ranked}
use Rattle.std.proofs.lemmas.List.{append-nil}
use Rattle.merge_ports.specs.declared.entry.EntryKey.{EntryKey}
use Rattle.merge_ports.specs.Entries.{Map, entry_cmp}
use Rattle.merge_keeper.specs.Given.{IsEntry}
use Rattle.merge_keeper.specs.Start.{Loading, go_on, loaded_behind, KeepOneByOne}
use Rattle.merge_keeper.proofs.First.{ok_is}

-- records that have their entries and keep the rules, each where the tables hold those before it
abbrev pub Sound : {T R : Type 0} → Loading T R → (R → Type 0) → T → List R → Type 0
Sound l Fits t [] = Unit {0}
Sound l Fits t (r ∷ rs) = (Fits r × (l.is_sound t r ≡ true)) × Sound l Fits (l.with_record t r) rs

-- the tables with all of them
abbrev pub after : {T R : Type 0} → Loading T R → T → List R → T
after l t [] = t
after l t (r ∷ rs) = after l (l.with_record t r) rs

pub record Found {T R : Type 0} (l : Loading T R) (entry : R → EntryKey × List ℕ) (Fits : R → Type 0) (t now : T) (es : Map) : Type 0 where
  pub records : List R
  pub entries : es ≡ map entry records
  pub sound : Sound l Fits t records
  pub now_is : after l t records ≡ now

module _ {T R : Type 0} (l : Loading T R) (entry : R → EntryKey × List ℕ) (Fits : R → Type 0) (reads : (e : EntryKey × List ℕ) → IsEntry e → (r : R) → l.reading e ≡ Some r → (e ≡ entry r) × Fits r) where
  abbrev Later : T → Map → Type 0
  Later now es = (next : T) → loaded_behind l next es ≡ Ok now → Found l entry Fits next now es

  one_more : (t now : T) (e : EntryKey × List ℕ) (es : Map) (r : R) → (e ≡ entry r) × Fits r → l.is_sound t r ≡ true → Found l entry Fits (l.with_record t r) now es → Found l entry Fits t now (e ∷ es)
  one_more t now e es r is sound f = record {
    records = r ∷ f.records;
    entries = ap (λ (x : EntryKey × List ℕ). (let m : Map = x ∷ es in m)) is.0 ∙ ap (λ (m : Map). entry r ∷ m) f.entries;
    sound = ((is.1, sound), f.sound);
    now_is = f.now_is;
  }

  by_sound : (t now : T) (e : EntryKey × List ℕ) (es : Map) (r : R) → (e ≡ entry r) × Fits r → Later now es → go_on l (λ next. loaded_behind l next es) t e.0 (Some r) ≡ Ok now → (b : Bool) → l.is_sound t r ≡ b → Found l entry Fits t now (e ∷ es)
  by_sound t now e es r is later h true s = one_more t now e es r is s (later (l.with_record t r) (rw s at h))
  by_sound t now e es r is later h false s = let no = rw s at h in absurd cc

  by_reading : (t now : T) (e : EntryKey × List ℕ) (es : Map) → IsEntry e → Later now es → (o : Option R) → l.reading e ≡ o → go_on l (λ next. loaded_behind l next es) t e.0 o ≡ Ok now → Found l entry Fits t now (e ∷ es)
  by_reading t now e es bytes later None read h = absurd cc
  by_reading t now e es bytes later (Some r) read h = by_sound t now e es r (reads e bytes r read) later h (l.is_sound t r) refl

  pub found : (es : Map) (t now : T) → AllByRecursion IsEntry es → loaded_behind l t es ≡ Ok now → Found l entry Fits t now es
  found [] t now bytes h = record { records = []; entries = refl; sound = tt; now_is = ok_is t now h }
  found (e ∷ es) t now bytes h = by_reading t now e es bytes.0 (λ next. found es next now bytes.1) (l.reading e) refl h

-- ---- the records of one table stand in front of those of later ones

table_step : (a b : EntryKey) (o : Ordering) → MatchOrdering o (a.table < b.table) (a.table ≡ b.table) (b.table < a.table) → ordering_then o (slice_cmp nat_cmp a.key b.key) ≡ Less → a.table ≤ b.table
table_step a b Less h e = omega (arith, h)
table_step a b Equal h e = omega (arith, h)
table_step a b Greater h e = absurd cc

table_ascends : (a b : EntryKey) → entry_cmp a b ≡ Less → a.table ≤ b.table
table_ascends a b e = table_step a b (nat_cmp a.table b.table) (ranked a.table b.table (nat_cmp a.table b.table) refl) e

module _ {R : Type 0} (entry : R → EntryKey × List ℕ) where
  abbrev pub key_at : R → EntryKey
  key_at r = (entry r).0

  -- the keys of the entries of records ascend
  abbrev pub Ascend : List R → Type 0
  Ascend rs = IsStrictlySortedBy entry_cmp (map key_at rs)

  -- all are of tables from one on
  abbrev pub AreFrom : ℕ → List R → Type 0
  AreFrom n rs = AllByRecursion (λ r. n ≤ (key_at r).table) rs

  all_behind : (n : ℕ) (k : EntryKey) (rs : List R) → n ≤ k.table → AllByRecursion (λ other. entry_cmp k other ≡ Less) (map key_at rs) → AreFrom n rs
  all_behind n k [] h less = tt
  all_behind n k (r ∷ rs) h less = (omega (arith, h, table_ascends k (key_at r) less.0), all_behind n k rs h less.1)

  pub from_first : (n : ℕ) (r : R) (rs : List R) → n ≤ (key_at r).table → Ascend (r ∷ rs) → AreFrom n (r ∷ rs)
  unfolding IsStrictlySortedBy
  from_first n r rs h up = (h, all_behind n (key_at r) rs h up.0)

  pub ascend_tail : (r : R) (rs : List R) → Ascend (r ∷ rs) → Ascend rs
  unfolding IsStrictlySortedBy
  ascend_tail r rs up = up.1

-- the members of a table, in front of the rest
pub record Split {T R X : Type 0} (l : Loading T R) (entry : R → EntryKey × List ℕ) (Fits : R → Type 0) (con : X → R) (with : List X → T) (n : ℕ) (front : List X) (rs : List R) : Type 0 where
  pub members : List X
  pub rest : List R
  pub parts : rs ≡ map con members ++ rest
  pub sound : KeepOneByOne (λ f x. Fits (con x) × (l.is_sound (with f) (con x) ≡ true)) front members
  pub rest_sound : Sound l Fits (with (front ++ members)) rest
  pub after_is : after l (with front) rs ≡ after l (with (front ++ members)) rest
  pub above : AreFrom entry (n + 1) rest

module _ {T R X : Type 0} (l : Loading T R) (entry : R → EntryKey × List ℕ) (Fits : R → Type 0) (con : X → R) (with : List X → T) (n : ℕ)
    (back : (r : R) → (entry r).0.table ≡ n → (x : X) × (r ≡ con x)) (adds : (front : List X) (x : X) → l.with_record (with front) (con x) ≡ with (front ++ x ∷ [])) where
  none_here : (front : List X) (rs : List R) → Sound l Fits (with front) rs → AreFrom entry (n + 1) rs → Split l entry Fits con with n front rs
  none_here front rs sound above = record {
    members = [];
    rest = rs;
    parts = refl;
    sound = tt;
    rest_sound = subst (λ (f : List X). Sound l Fits (with f) rs) (sym (append-nil front)) sound;
    after_is = ap (λ (f : List X). after l (with f) rs) (sym (append-nil front));
    above = above;
  }

  here : (front : List X) (x : X) (rs : List R) → Fits (con x) × (l.is_sound (with front) (con x) ≡ true) → Split l entry Fits con with n (front ++ x ∷ []) rs → Split l entry Fits con with n front (con x ∷ rs)
  here front x rs sound s = record {
    members = x ∷ s.members;
    rest = s.rest;
    parts = ap (λ (l : List R). con x ∷ l) s.parts;
    sound = (sound, s.sound);
    rest_sound = subst (λ (f : List X). Sound l Fits (with f) s.rest) (append_assoc front (x ∷ []) s.members) s.rest_sound;
    after_is = ap (λ (t : T). after l t rs) (adds front x) ∙ s.after_is ∙ ap (λ (f : List X). after l (with f) s.rest) (append_assoc front (x ∷ []) s.members);
    above = s.above;
  }

  by_table : (front : List X) (r : R) (rs : List R) → ((f : List X) → Sound l Fits (with f) rs → Split l entry Fits con with n f rs) → Ascend entry (r ∷ rs) → n ≤ (entry r).0.table → Sound l Fits (with front) (r ∷ rs)
      → (b : Bool) → ((entry r).0.table == n) ≡ b → Split l entry Fits con with n front (r ∷ rs)
  by_table front r rs later up from sound true e =
      let x = back r (eqb-true (entry r).0.table n e) in
      let now : Sound l Fits (with front) (con x.0 ∷ rs) = subst (λ (q : R). Sound l Fits (with front) (q ∷ rs)) x.1 sound in
      subst (λ (q : R). Split l entry Fits con with n front (q ∷ rs)) (sym x.1) (here front x.0 rs now.0 (later (front ++ x.0 ∷ []) (subst (λ (t : T). Sound l Fits t rs) (adds front x.0) now.1)))
  by_table front r rs later up from sound false e = none_here front (r ∷ rs) sound (from_first entry (n + 1) r rs (grind (arith, nat_tests, from, e)) up)

  pub split : (front : List X) (rs : List R) → Ascend entry rs → AreFrom entry n rs → Sound l Fits (with front) rs → Split l entry Fits con with n front rs
  split front [] up from sound = none_here front [] sound tt
  split front (r ∷ rs) up from sound =
      by_table front r rs (λ f. split f rs (ascend_tail entry r rs up) from.1) up from.0 sound ((entry r).0.table == n) refl
