-- The records of what is held and of grants, in the order of their keys.
use Rattle.std.proofs.Common.{◌≡◌, ◌∙◌, ℕ, ◌+◌, true, List, [], ◌∷◌, ◌++◌, map, filter_map, Option, Some, None, inr, refl, sym, ap, subst, arith}
use Rattle.std.specs.List.{cons_option, AllByRecursion}
use Rattle.std.specs.BTreeMap.{insert_entry}
use Rattle.std.specs.declared.cmp.Ordering.{Ordering}
use Rattle.std.specs.declared.cmp.Ordering.TheVariants.{Less, Equal, Greater}
use Rattle.merge_table.specs.Edits.{rows_after_all}
use Rattle.merge_ident.specs.Grants.{AreInOrder, Precedes}
use Rattle.merge_ident.specs.Holders.{Holder}
use Rattle.merge_ident.specs.declared.grants.Grant.{Grant}
use Rattle.merge_schema.specs.declared.publication.Publication.{Publication}
use Rattle.merge_ports.specs.declared.entry.EntryKey.{EntryKey}
use Rattle.merge_ports.specs.Entries.{entry_cmp}
use Rattle.merge_record.specs.declared.ranges.GrantKey.{GrantKey}
use Rattle.merge_record.specs.declared.ranges.HeldRanges.{HeldRanges}
use Rattle.merge_keeper.specs.Encoded.{puts_of}
use Rattle.merge_keeper.specs.Entries.{grant_key, grant_key_in}
use Rattle.merge_keeper.specs.PublisherRules.{held_pair, with_records}
use Rattle.merge_keeper.specs.PublisherStart.{with_record}
use Rattle.merge_keeper.specs.Start.{begins_before, insert_by_begin, with_held}
use Rattle.merge_keeper.specs.Stored.{HasGrantKey}
use Rattle.merge_keeper.specs.declared.publisher_record.PublisherRecord.{PublisherRecord}
use Rattle.merge_keeper.specs.declared.publisher_record.PublisherRecord.TheVariants.{State, Row, Mapped, Closed, Lost, Held, Granted, Subscribed}
use Rattle.merge_keeper.specs.declared.stored.PublisherStored.{PublisherStored}
use Rattle.merge_keeper.proofs.Begins.{first_last, put_all, AllBefore, AreApart}
use Rattle.merge_keeper.proofs.Follow.{grant_apart, keys_apart}
use Rattle.merge_keeper.proofs.HeldBack.{held_after}
use Rattle.merge_keeper.proofs.PublisherReads.{entry_of}

abbrev pub Pair : Type 0
Pair = EntryKey × PublisherRecord

-- what is held among records, and the grants
abbrev pub held_in : PublisherRecord → Option (ℕ × HeldRanges)
held_in (Held article held) = Some (article, held)
held_in r = None

abbrev pub grant_in : PublisherRecord → Option Grant
grant_in (Granted grant) = Some grant
grant_in r = None

abbrev pub helds_of : List PublisherRecord → List (ℕ × HeldRanges)
helds_of rs = filter_map held_in rs

abbrev pub grants_of : List PublisherRecord → List Grant
grants_of rs = filter_map grant_in rs

abbrev pub records_in : List Pair → List PublisherRecord
records_in ps = map (λ (p : Pair). p.1) ps

-- all are of table 6
abbrev pub AreRanges : List PublisherRecord → Type 0
AreRanges rs = AllByRecursion (λ r. (entry_of r).0.table ≡ 6) rs

-- ---- the tables with them

pub ranges_put : (publication : Publication) (t : PublisherStored) (rs : List PublisherRecord) → AreRanges rs → with_records publication t rs ≡ record t { held = held_after publication t.held (helds_of rs); grants = put_all t.grants (grants_of rs) }
ranges_put publication t [] h = refl
ranges_put publication t (State front ∷ rs) h = absurd (omega (arith, h.0))
ranges_put publication t (Row key row ∷ rs) h = absurd (omega (arith, h.0))
ranges_put publication t (Mapped place mapping ∷ rs) h = absurd (omega (arith, h.0))
ranges_put publication t (Closed c ∷ rs) h = absurd (omega (arith, h.0))
ranges_put publication t (Lost row ∷ rs) h = absurd (omega (arith, h.0))
ranges_put publication t (Held article held ∷ rs) h = ranges_put publication (record t { held = with_held publication t.held article held }) rs h.1
ranges_put publication t (Granted grant ∷ rs) h = ranges_put publication (record t { grants = insert_by_begin t.grants grant }) rs h.1
ranges_put publication t (Subscribed site state ∷ rs) h = absurd (omega (arith, h.0))

-- ---- entries that are put at keys that no other has

abbrev pub IsNewKey : {W : Type 0} → EntryKey → List (EntryKey × W) → Type 0
IsNewKey k es = AllByRecursion (λ e. entry_cmp k e.0 ≡ Equal → Less ≡ Equal) es

no_tie : (Less ≡ Equal) → ⊥
no_tie e = cc

pub insert_less : {K W : Type 0} (cmp : K → K → Ordering) (k : K) (v : W) (e : K × W) (es : List (K × W)) → cmp k e.0 ≡ Less → insert_entry cmp (e ∷ es) k v ≡ (k, v) ∷ e ∷ es
insert_less cmp k v e es q = rw q refl

pub insert_greater : {K W : Type 0} (cmp : K → K → Ordering) (k : K) (v : W) (e : K × W) (es : List (K × W)) → cmp k e.0 ≡ Greater → insert_entry cmp (e ∷ es) k v ≡ e ∷ insert_entry cmp es k v
insert_greater cmp k v e es q = rw q refl

module _ {W : Type 0} (P : EntryKey × W → Type 0) (k : EntryKey) (v : W) (here : P (k, v)) where
  all_insert_step : (e : EntryKey × W) (es : List (EntryKey × W)) → (entry_cmp k e.0 ≡ Equal → Less ≡ Equal) → P e → AllByRecursion P es → AllByRecursion P (insert_entry entry_cmp es k v)
      → (o : Ordering) → entry_cmp k e.0 ≡ o → AllByRecursion P (insert_entry entry_cmp (e ∷ es) k v)
  all_insert_step e es new pe h ih Less q = subst (AllByRecursion P) (sym (insert_less entry_cmp k v e es q)) (here, (pe, h))
  all_insert_step e es new pe h ih Equal q = absurd (no_tie (new q))
  all_insert_step e es new pe h ih Greater q = subst (AllByRecursion P) (sym (insert_greater entry_cmp k v e es q)) (pe, ih)

  all_insert : (es : List (EntryKey × W)) → IsNewKey k es → AllByRecursion P es → AllByRecursion P (insert_entry entry_cmp es k v)
  all_insert [] new h = (here, tt)
  all_insert (e ∷ es) new h = all_insert_step e es new.0 h.0 h.1 (all_insert es new.1 h.1) (entry_cmp k e.0) refl

-- ---- what is held stays as it is where grants are put

helds_stay_step : (g : Grant) (e : Pair) (es : List Pair) → (entry_cmp (grant_key g) e.0 ≡ Equal → Less ≡ Equal) → helds_of (records_in (insert_entry entry_cmp es (grant_key g) (Granted g))) ≡ helds_of (records_in es)
    → (o : Ordering) → entry_cmp (grant_key g) e.0 ≡ o → helds_of (records_in (insert_entry entry_cmp (e ∷ es) (grant_key g) (Granted g))) ≡ helds_of (records_in (e ∷ es))
helds_stay_step g e es new ih Less q = ap (λ (ps : List Pair). helds_of (records_in ps)) (insert_less entry_cmp (grant_key g) (Granted g) e es q)
helds_stay_step g e es new ih Equal q = absurd (no_tie (new q))
helds_stay_step g e es new ih Greater q =
    ap (λ (ps : List Pair). helds_of (records_in ps)) (insert_greater entry_cmp (grant_key g) (Granted g) e es q)
    ∙ ap (cons_option (held_in e.1)) ih

helds_stay : (g : Grant) (es : List Pair) → IsNewKey (grant_key g) es → helds_of (records_in (insert_entry entry_cmp es (grant_key g) (Granted g))) ≡ helds_of (records_in es)
helds_stay g [] new = refl
helds_stay g (e ∷ es) new = helds_stay_step g e es new.0 (helds_stay g es new.1) (entry_cmp (grant_key g) e.0) refl

-- ---- and the grants are those that were there with one more

abbrev pub IsApartFrom : Grant → PublisherRecord → Type 0
IsApartFrom g r = (h : Grant) → grant_in r ≡ Some h → AreApart g h

apart_in : (g : Grant) (es : List Pair) → AllByRecursion (λ e. IsApartFrom g e.1) es → AllByRecursion (AreApart g) (grants_of (records_in es))
apart_in g [] h = tt
apart_in g (e ∷ es) h = by_record (grant_in e.1) refl (apart_in g es h.1)
  where
    by_record : (o : Option Grant) → grant_in e.1 ≡ o → AllByRecursion (AreApart g) (grants_of (records_in es)) → AllByRecursion (AreApart g) (cons_option o (grants_of (records_in es)))
    by_record None q later = later
    by_record (Some h') q later = (h.0 h' q, later)

module _ (g : Grant) where
  abbrev with_it : List Pair → List Pair
  with_it es = insert_entry entry_cmp es (grant_key g) (Granted g)

  abbrev AddsIt : List Grant → List Grant → Type 0
  AddsIt news olds = (gs : List Grant) → put_all gs news ≡ insert_by_begin (put_all gs olds) g

  adds_behind : (o : Option Grant) (news olds : List Grant) → AddsIt news olds → AddsIt (cons_option o news) (cons_option o olds)
  adds_behind None news olds h gs = h gs
  adds_behind (Some x) news olds h gs = h (insert_by_begin gs x)

  adds_step : (e : Pair) (es : List Pair) → (entry_cmp (grant_key g) e.0 ≡ Equal → Less ≡ Equal) → AllByRecursion (λ e. IsApartFrom g e.1) (e ∷ es) → AddsIt (grants_of (records_in (with_it es))) (grants_of (records_in es))
      → (o : Ordering) → entry_cmp (grant_key g) e.0 ≡ o → AddsIt (grants_of (records_in (with_it (e ∷ es)))) (grants_of (records_in (e ∷ es)))
  adds_step e es new h ih Less q gs =
      ap (λ (ps : List Pair). put_all gs (grants_of (records_in ps))) (insert_less entry_cmp (grant_key g) (Granted g) e es q)
      ∙ first_last g (grants_of (records_in (e ∷ es))) (apart_in g (e ∷ es) h) gs
  adds_step e es new h ih Equal q gs = absurd (no_tie (new q))
  adds_step e es new h ih Greater q gs =
      ap (λ (ps : List Pair). put_all gs (grants_of (records_in ps))) (insert_greater entry_cmp (grant_key g) (Granted g) e es q)
      ∙ adds_behind (grant_in e.1) (grants_of (records_in (with_it es))) (grants_of (records_in es)) ih gs

  adds : (es : List Pair) → IsNewKey (grant_key g) es → AllByRecursion (λ e. IsApartFrom g e.1) es → AddsIt (grants_of (records_in (with_it es))) (grants_of (records_in es))
  adds [] new h gs = refl
  adds (e ∷ es) new h gs = adds_step e es new.0 h (adds es new.1 h.1) (entry_cmp (grant_key g) e.0) refl gs

-- ---- all grants, where their keys and begins differ

-- a grant's key and begin are none of an entry's
abbrev pub IsClear : Grant → Pair → Type 0
IsClear g e = (entry_cmp (grant_key g) e.0 ≡ Equal → Less ≡ Equal) × IsApartFrom g e.1

abbrev pub AreClear : Grant → Grant → Type 0
AreClear g h = IsClear h (grant_key g, Granted g)

abbrev pub AllClear : List Grant → Type 0
AllClear [] = Unit {0}
AllClear (g ∷ gs) = AllByRecursion (AreClear g) gs × AllClear gs

new_keys : (g : Grant) (es : List Pair) → AllByRecursion (IsClear g) es → IsNewKey (grant_key g) es
new_keys g [] h = tt
new_keys g (e ∷ es) h = (h.0.0, new_keys g es h.1)

begins_apart : (g : Grant) (es : List Pair) → AllByRecursion (IsClear g) es → AllByRecursion (λ e. IsApartFrom g e.1) es
begins_apart g [] h = tt
begins_apart g (e ∷ es) h = (h.0.1, begins_apart g es h.1)

still_clear : (g : Grant) (es : List Pair) → IsNewKey (grant_key g) es → (gs : List Grant) → AllByRecursion (AreClear g) gs → AllByRecursion (λ h. AllByRecursion (IsClear h) es) gs
    → AllByRecursion (λ h. AllByRecursion (IsClear h) (insert_entry entry_cmp es (grant_key g) (Granted g))) gs
still_clear g es new [] clear h = tt
still_clear g es new (x ∷ xs) clear h = (all_insert (IsClear x) (grant_key g) (Granted g) clear.0 es new h.0, still_clear g es new xs clear.1 h.1)

abbrev pub granted : List Pair → List Grant → List Pair
granted es gs = rows_after_all entry_cmp es (puts_of grant_key Granted gs)

pub grants_put : (gs : List Grant) (es : List Pair) → AllClear gs → AllByRecursion (λ g. AllByRecursion (IsClear g) es) gs → (from : List Grant) → put_all from (grants_of (records_in (granted es gs))) ≡ put_all (put_all from (grants_of (records_in es))) gs
grants_put [] es clear h from = refl
grants_put (g ∷ gs) es clear h from =
    let new = new_keys g es h.0 in
    grants_put gs (insert_entry entry_cmp es (grant_key g) (Granted g)) clear.1 (still_clear g es new gs clear.0 h.1) from
    ∙ ap (λ (l : List Grant). put_all l gs) (adds g es new (begins_apart g es h.0) from)

pub helds_put : (gs : List Grant) (es : List Pair) → AllClear gs → AllByRecursion (λ g. AllByRecursion (IsClear g) es) gs → helds_of (records_in (granted es gs)) ≡ helds_of (records_in es)
helds_put [] es clear h = refl
helds_put (g ∷ gs) es clear h =
    let new = new_keys g es h.0 in
    helds_put gs (insert_entry entry_cmp es (grant_key g) (Granted g)) clear.1 (still_clear g es new gs clear.0 h.1) ∙ helds_stay g es new

pub all_granted_so : (P : Pair → Type 0) (gs : List Grant) (es : List Pair) → AllClear gs → AllByRecursion (λ g. AllByRecursion (IsClear g) es) gs → ((g : Grant) → P (grant_key g, Granted g)) → AllByRecursion P es → AllByRecursion P (granted es gs)
all_granted_so P [] es clear h here all = all
all_granted_so P (g ∷ gs) es clear h here all =
    let new = new_keys g es h.0 in
    all_granted_so P gs (insert_entry entry_cmp es (grant_key g) (Granted g)) clear.1 (still_clear g es new gs clear.0 h.1) here (all_insert P (grant_key g) (Granted g) (here g) es new all)

-- what is held has other keys and no begins
held_clear : (g : Grant) (ps : List (ℕ × Holder)) → AllByRecursion (IsClear g) (map held_pair ps)
held_clear g [] = tt
held_clear g (p ∷ ps) = ((grant_apart g p.0, λ h e. absurd (no_grant h e)), held_clear g ps)
  where
    no_grant : (h : Grant) → (let o : Option Grant = None in o) ≡ Some h → ⊥
    no_grant h e = cc

pub all_held_clear : (ps : List (ℕ × Holder)) (gs : List Grant) → AllByRecursion (λ g. AllByRecursion (IsClear g) (map held_pair ps)) gs
all_held_clear ps [] = tt
all_held_clear ps (g ∷ gs) = (held_clear g ps, all_held_clear ps gs)

-- of a list in order
same_key : (a b : Grant) → Precedes a b → grant_key_in b ≡ grant_key_in a → ⊥
same_key a b p e =
    let article : a.article ≡ b.article = sym (ap (λ (k : GrantKey). k.article) e) in
    let site : a.site.0 ≡ b.site.0 = sym (ap (λ (k : GrantKey). k.site.0) e) in
    let number : b.number ≡ a.number = ap (λ (k : GrantKey). k.number) e in
    omega (arith, p.numbered article site, number)

some_is_one : (a b : Grant) → (let o : Option Grant = Some a in o) ≡ Some b → a ≡ b
some_is_one a b e = cc

one_clear : (g h : Grant) → HasGrantKey g → HasGrantKey h → Precedes g h → begins_before g h ≡ true → AreClear g h
one_clear g h kg kh p before = (keys_apart h g kh kg (same_key g h p), λ x e. subst (AreApart h) (some_is_one g x e) (inr before))

clear_behind : (g : Grant) (gs : List Grant) → HasGrantKey g → AllByRecursion HasGrantKey gs → AllByRecursion (Precedes g) gs → AllByRecursion (λ h. begins_before g h ≡ true) gs → AllByRecursion (AreClear g) gs
clear_behind g [] kg kgs p b = tt
clear_behind g (h ∷ gs) kg kgs p b = (one_clear g h kg kgs.0 p.0 b.0, clear_behind g gs kg kgs.1 p.1 b.1)

pub all_clear : (gs : List Grant) → AllByRecursion HasGrantKey gs → AreInOrder gs → AllBefore gs → AllClear gs
all_clear [] k o b = tt
all_clear (g ∷ gs) k o b = (clear_behind g gs k.0 k.1 o.0 b.0, all_clear gs k.1 o.1 b.1)

-- one record more
pub with_more : (publication : Publication) (t : PublisherStored) (front : List PublisherRecord) (r : PublisherRecord) → with_record publication (with_records publication t front) r ≡ with_records publication t (front ++ r ∷ [])
with_more publication t [] r = refl
with_more publication t (x ∷ front) r = with_more publication (with_record publication t x) front r
