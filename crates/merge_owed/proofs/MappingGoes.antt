-- How a mapping goes in the publisher's tables: by what a filter leaves, and by the entries of a step.
use Rattle.std.specs.List.{AllByRecursion, fold, list_any, zip}
use Rattle.std.specs.List.Sorted.{IsStrictlySortedBy}
use Rattle.std.specs.Map.{keys_of}
use Rattle.std.specs.Prelude.{Bool, List, None, Option, Some, [], cond, drop, false, filter, length, map, not, refl, true, ◌&&◌, ◌+◌, ◌==◌, ◌≡◌, ◌⊎◌, ◌∷◌, ℕ}
use Rattle.std.proofs.Common.{ap, arith, inl, inr, sym, ◌∙◌}
use Rattle.std.proofs.lemmas.Bool.Decides.{nat_tests}
use Rattle.merge_types.specs.declared.identifiers.SiteId.{SiteId}
use Rattle.merge_types.specs.declared.row_key.RowKey.{RowKey as Key}
use Rattle.merge_units.specs.declared.site_row.PublisherRow.{PublisherRow}
use Rattle.merge_gens.specs.Filling.{generations_of}
use Rattle.merge_gens.specs.Moves.{is_left, row_site_cmp}
use Rattle.merge_gens.specs.declared.moves.Mapping.{Mapping}
use Rattle.merge_gens.specs.declared.moves.MoveKind.{MoveKind}
use Rattle.merge_gens.specs.declared.moves.MoveKind.TheVariants.{Entered, Left}
use Rattle.merge_gens.specs.declared.moves.RowSite.{RowSite}
use Rattle.merge_resolve.specs.Priorities.{subscription_at}
use Rattle.merge_schema.specs.declared.publication.Publication.{Publication}
use Rattle.merge_model.specs.Publisher.Entries as entry
use Rattle.merge_model.specs.Publisher.Entries.{Changing, Parts, Touched, changed_by, comes_back, move_of, moves_of, parts_of, returned_rows, rows_after, touched_by, with_move}
use Rattle.merge_model.specs.Judge.{PublisherJudge}
use Rattle.merge_model.specs.Tables.Keys.{at_row_site, has_key, same_key}
use Rattle.merge_model.specs.Publisher.PublisherDownload.{inside_keys}
use Rattle.merge_model.specs.Tables.{PublisherTables}
use Rattle.merge_model.proofs.Entries.EntryLists.{all-flat, all-numbered, puts-hold}
use Rattle.merge_model.proofs.Lists.Finding.{all-weaker}
use Rattle.merge_model.proofs.Lists.KeyLookUps.{keys-same}
use Rattle.merge_model.proofs.Lists.{all-kept, all-map, all-of, any-leads}
use Rattle.merge_model.proofs.Lists.PlaceLookUps.{at-dropped, has_place, is_place, kept, lookup-filter, place-is, places-exact}
use Rattle.merge_model.proofs.Publishers.Sorted.{row_site_total}
use Rattle.merge_model.proofs.Entries.StepMoves.{IsMoveHere, moved_here, moves-are}
use Rattle.merge_model.proofs.Entries.StepParts.{CanBeSaid, IsPart, found_keys, parts-are}
use Rattle.merge_laws.proofs.LastLines.LastLineAdded.{moves-ascend}
use Rattle.merge_laws.proofs.Touched.TouchEntries.{inside-after}

-- Two moves are the same, or they differ.

same-generation : (kind : MoveKind) (a b : ℕ) (t : Bool) → (a == b) ≡ t → (let one : Mapping = record { kind = kind; generation = a } in let other : Mapping = record { kind = kind; generation = b } in (one ≡ other) ⊎ (one ≡ other → ⊥))
same-generation kind a b true is = inl (let same : a ≡ b = grind (arith, nat_tests, is) in ap (λ (n : ℕ). (let m : Mapping = record { kind = kind; generation = n } in m)) same)
same-generation kind a b false is = inr (λ e. (let same : a ≡ b = ap (λ (m : Mapping). m.generation) e in absurd (grind (arith, nat_tests, is, same))))

kinds-differ : (a b : Mapping) → is_left a.kind ≡ true → is_left b.kind ≡ false → a ≡ b → ⊥
kinds-differ a b one other same = (let moved : is_left a.kind ≡ is_left b.kind = ap (λ (m : Mapping). is_left m.kind) same in absurd (grind (arith, one, other, moved)))

same-or : (first second : MoveKind) (a b : ℕ) → (let one : Mapping = record { kind = first; generation = a } in let other : Mapping = record { kind = second; generation = b } in (one ≡ other) ⊎ (one ≡ other → ⊥))
same-or Entered Entered a b = same-generation Entered a b (a == b) refl
same-or Entered Left a b = inr (λ e. kinds-differ (record { kind = Left; generation = b }) (record { kind = Entered; generation = a }) refl refl (sym e))
same-or Left Entered a b = inr (λ e. kinds-differ (record { kind = Left; generation = a }) (record { kind = Entered; generation = b }) refl refl e)
same-or Left Left a b = same-generation Left a b (a == b) refl

-- What a filter leaves.

module _ (mappings : List (RowSite × Mapping)) (place : RowSite) (move : Mapping) (held : at_row_site mappings place ≡ Some move) (sorted : IsStrictlySortedBy row_site_cmp (keys_of mappings)) where
  abbrev pub Lost : (RowSite × Mapping → Bool) → Type 0
  Lost lost = (lost (place, move) ≡ true) × (at_row_site (filter (λ (e : RowSite × Mapping). not (lost e)) mappings) place ≡ None)

  lost-by : (lost : RowSite × Mapping → Bool) (b : Bool) → lost (place, move) ≡ b → at_row_site (filter (λ (e : RowSite × Mapping). not (lost e)) mappings) place ≡ cond (not b) (Some move) None
      → (at_row_site (filter (λ (e : RowSite × Mapping). not (lost e)) mappings) place ≡ Some move) ⊎ Lost lost
  lost-by lost true is left = inr (is, left)
  lost-by lost false is left = inl left

  pub left-or-lost : (lost : RowSite × Mapping → Bool) → (at_row_site (filter (λ (e : RowSite × Mapping). not (lost e)) mappings) place ≡ Some move) ⊎ Lost lost
  left-or-lost lost = lost-by lost (lost (place, move)) refl
      (lookup-filter row_site_cmp row_site_total places-exact (λ (e : RowSite × Mapping). not (lost e)) place mappings sorted
      ∙ ap (λ (found : Option Mapping). kept (λ (e : RowSite × Mapping). not (lost e)) place found) held)

-- Rows that come back.

pub record Back (judge : PublisherJudge) (key : Key) (n : ℕ) (before after : List Key) : Type 0 where
  pub outside : has_key before key ≡ false
  pub inside : has_key after key ≡ true
  pub left : judge.has_left key n ≡ true

module _ (judge : PublisherJudge) (touched : Touched) (key : Key) (n : ℕ) (before after : List Key) where
  abbrev BackTo : Type 0
  BackTo = Back judge key n before after

  abbrev place_for : Key → Parts → RowSite
  place_for k part = record { key = k; site = part.site }

  abbrev IsBack : RowSite → Type 0
  IsBack other = is_place key n other ≡ true → BackTo

  back-by : (was is changed left : Bool) → (not was && is && changed && left) ≡ true → (was ≡ false) × (is ≡ true) × (left ≡ true)
  back-by true is changed left all = absurd cc
  back-by false true true left all = (refl, refl, all)
  back-by false true false left all = absurd cc
  back-by false false changed left all = absurd cc

  back-here : (k : Key) (part : Parts) → IsPart n before after part → comes_back judge touched k part ≡ true → IsBack (place_for k part)
  back-here k part fits back there =
      let same : key ≡ k = keys-same key k (grind (arith, there)) in
      let is : (part.site == n) ≡ true = grind (arith, there) in
      let site : part.site ≡ n = grind (arith, nat_tests, is) in
      let here : comes_back judge touched key part ≡ true = ap (λ (x : Key). comes_back judge touched x part) same ∙ back in
      let facts = back-by (has_key part.before key) (has_key part.after key) (has_key touched.changed key) (judge.has_left key part.site) here in
      record {
        outside = ap (λ (keys : List Key). has_key keys key) (sym (fits is).0) ∙ facts.0;
        inside = ap (λ (keys : List Key). has_key keys key) (sym (fits is).1) ∙ facts.1;
        left = ap (λ (s : ℕ). judge.has_left key s) (sym site) ∙ facts.2;
      }

  row-back : (parts : List Parts) → AllByRecursion (IsPart n before after) parts → (k : Key) → AllByRecursion IsBack (map (place_for k) (filter (comes_back judge touched k) parts))
  row-back parts are k = all-map (λ (part : Parts). IsBack (place_for k part)) IsBack (place_for k) (λ part is. is) (filter (comes_back judge touched k) parts)
      (all-kept (λ (part : Parts). IsBack (place_for k part)) (comes_back judge touched k) parts
      (all-weaker (IsPart n before after) (λ (part : Parts). comes_back judge touched k part ≡ true → IsBack (place_for k part)) (λ part fits back. back-here k part fits back) parts are))

  pub back-facts : (parts : List Parts) (keys : List Key) → AllByRecursion (IsPart n before after) parts → has_place (returned_rows judge touched parts keys) key n ≡ true → BackTo
  back-facts parts keys are is = any-leads (is_place key n) BackTo (returned_rows judge touched parts keys)
      (all-flat IsBack (λ (k : Key). map (place_for k) (filter (comes_back judge touched k) parts)) (row-back parts are) keys) is

-- a move that is told says where the row is
move-where : (was is changed acted : Bool) (kind : MoveKind) → move_of was is changed acted ≡ Some kind → is ≡ not (is_left kind)
move-where true false changed acted Left e = refl
move-where true false changed acted Entered e = absurd cc
move-where false false changed true Left e = refl
move-where false false changed true Entered e = absurd cc
move-where false false changed false kind e = absurd cc
move-where false true true acted kind e = absurd cc
move-where false true false acted Left e = absurd cc
move-where false true false acted Entered e = refl
move-where true true changed acted kind e = absurd cc

-- By the entries of a step.

abbrev pub inside_at : Publication → RowSite → PublisherTables → Bool
inside_at publication place t = has_key (inside_keys publication (record { 0 = place.site }) t) place.key

-- whether the row is inside by the rows that the step goes over
abbrev pub inside_then : Publication → Changing → PublisherTables → RowSite → Bool
inside_then publication changing p place = has_key (found_keys publication (subscription_at publication place.site) (rows_after changing p.rows)) place.key

pub record BackHere (publication : Publication) (judge : PublisherJudge) (changing : Changing) (p : PublisherTables) (place : RowSite) (move : Mapping) : Type 0 where
  pub left : is_left move.kind ≡ true
  pub outside : inside_at publication place p ≡ false
  pub inside : inside_at publication place (changed_by publication judge changing p) ≡ true
  pub gone : at_row_site (changed_by publication judge changing p).mappings place ≡ None

-- what is found is another move, which says where the row is
pub record On (publication : Publication) (changing : Changing) (p : PublisherTables) (place : RowSite) (move : Mapping) (found : Option Mapping) : Type 0 where
  pub other : Mapping
  pub told : found ≡ Some other
  pub differs : other ≡ move → ⊥
  pub now : inside_then publication changing p place ≡ not (is_left other.kind)

module _ (publication : Publication) (valid : CanBeSaid publication) (judge : PublisherJudge) (changing : Changing) (p : PublisherTables) (place : RowSite) (move : Mapping)
    (held : at_row_site p.mappings place ≡ Some move) (sorted : IsStrictlySortedBy row_site_cmp (keys_of p.mappings)) (left_so : judge.has_left place.key place.site ≡ is_left move.kind) where
  abbrev touched : Touched
  touched = touched_by changing

  abbrev rows : List (Key × PublisherRow)
  rows = rows_after changing p.rows

  abbrev parts : List Parts
  parts = parts_of publication p.rows rows

  abbrev keys : List Key
  keys = entry.keys_of rows touched.acted

  abbrev moves : List (RowSite × MoveKind)
  moves = moves_of touched parts keys

  abbrev numbered : List ((RowSite × MoveKind) × ℕ)
  numbered = zip moves (drop (length touched.changed) (generations_of p.gens.filling (length touched.changed + length moves)))

  abbrev gone : List RowSite
  gone = returned_rows judge touched parts touched.changed

  abbrev q : PublisherTables
  q = changed_by publication judge changing p

  abbrev before : List Key
  before = found_keys publication (subscription_at publication place.site) p.rows

  abbrev after : List Key
  after = found_keys publication (subscription_at publication place.site) rows

  abbrev OnHere : Option Mapping → Type 0
  OnHere found = On publication changing p place move found

  are : AllByRecursion (IsPart place.site before after) parts
  are = parts-are publication place.site p.rows rows valid

  abbrev StaysOrOn : Option Mapping → Type 0
  StaysOrOn found = (found ≡ Some move) ⊎ OnHere found

  one-on : (other : Mapping) → (has_key after place.key ≡ not (is_left other.kind)) → (other ≡ move) ⊎ (other ≡ move → ⊥) → StaysOrOn (Some other)
  one-on other now (inl same) = inl (ap (λ (m : Mapping). (let found : Option Mapping = Some m in found)) same)
  one-on other now (inr differs) = inr (record { other = other; told = refl; differs = differs; now = now })

  all-any : (generations : List ℕ) → AllByRecursion (λ (generation : ℕ). Unit {0}) generations
  all-any generations = all-of (λ (generation : ℕ). Unit {0}) (λ generation. tt) generations

  moved : StaysOrOn (at_row_site (fold with_move p.mappings numbered) place)
  moved =
      let generations : List ℕ = drop (length touched.changed) (generations_of p.gens.filling (length touched.changed + length moves)) in
      puts-hold row_site_cmp row_site_total (λ (x : (RowSite × MoveKind) × ℕ). x.0.0) (λ (x : (RowSite × MoveKind) × ℕ). record { kind = x.0.1; generation = x.1 }) StaysOrOn place
      (λ (x : (RowSite × MoveKind) × ℕ). is_place place.key place.site x.0.0) (λ x. place-is place.key place.site x.0.0) numbered p.mappings
      (all-weaker (λ (x : (RowSite × MoveKind) × ℕ). IsMoveHere touched place.key place.site before after x.0 × Unit {0})
      (λ (x : (RowSite × MoveKind) × ℕ). is_place place.key place.site x.0.0 ≡ true → StaysOrOn (Some (record { kind = x.0.1; generation = x.1 })))
      (λ x both there. one-on (record { kind = x.0.1; generation = x.1 })
      (move-where (has_key before place.key) (has_key after place.key) (has_key touched.changed place.key) ((place.site == touched.uploader) && has_key touched.acted place.key) x.0.1 (both.0 there))
      (same-or x.0.1 move.kind x.1 move.generation)) numbered
      (all-numbered (IsMoveHere touched place.key place.site before after) (λ (generation : ℕ). Unit {0}) moves generations (moves-are touched place.key place.site before after parts keys are) (all-any generations)))
      (λ none. inl held)

  found-after : at_row_site q.mappings place ≡ cond (has_place gone place.key place.site) None (at_row_site (fold with_move p.mappings numbered) place)
  found-after = at-dropped gone (fold with_move p.mappings numbered) place.key place.site (moves-ascend numbered p.mappings sorted)

  abbrev Ends : Type 0
  Ends = (at_row_site q.mappings place ≡ Some move) ⊎ (BackHere publication judge changing p place move ⊎ (OnHere (at_row_site q.mappings place) × (inside_at publication place q ≡ has_key after place.key)))

  inside-now : inside_at publication place q ≡ has_key after place.key
  inside-now = ap (λ (ks : List Key). has_key ks place.key) (inside-after publication judge changing p (record { 0 = place.site }))

  ends-moved : at_row_site q.mappings place ≡ at_row_site (fold with_move p.mappings numbered) place → StaysOrOn (at_row_site (fold with_move p.mappings numbered) place) → Ends
  ends-moved same (inl is) = inl (same ∙ is)
  ends-moved same (inr on) = inr (inr (record { other = on.other; told = same ∙ on.told; differs = on.differs; now = on.now }, inside-now))

  ends-by : (b : Bool) → has_place gone place.key place.site ≡ b → at_row_site q.mappings place ≡ cond b None (at_row_site (fold with_move p.mappings numbered) place) → Ends
  ends-by true is now = (let back = back-facts judge touched place.key place.site before after parts touched.changed are is in inr (inl (record {
    left = sym left_so ∙ back.left;
    outside = back.outside;
    inside = inside-now ∙ back.inside;
    gone = now;
  })))
  ends-by false is now = ends-moved now moved

  pub entries-end : Ends
  entries-end = ends-by (has_place gone place.key place.site) refl found-after
