-- What the entries of a step make of one row for one site: which row and which mapping are found, and in which generations they stand.
use Rattle.std.specs.Prelude.{◌≡◌, ◌≤◌, ◌<◌, ◌==◌, ◌&&◌, ◌||◌, ◌+◌, ℕ, List, [], ◌∷◌, Bool, true, false, not, Option, Some, None, refl, cond, drop, is_some, length, map, option_map, take, unwrap_or}
use Rattle.std.specs.List.{AllByRecursion, fold, list_any, zip}
use Rattle.std.specs.List.Sorted.{IsStrictlySortedBy}
use Rattle.std.specs.Map.{keys_of}
use Rattle.std.proofs.Common.{arith, length-drop, subst, sym, ap, ◌∙◌}
use Rattle.std.proofs.lemmas.Bool.Decides.{nat_tests}
use Rattle.std.proofs.lemmas.List.{length-map, length-take}
use Rattle.std.proofs.lemmas.Slice.Zip.{length-zip}
use Rattle.merge_types.specs.declared.identifiers.SiteId.{SiteId}
use Rattle.merge_units.specs.declared.version.Version.{Version}
use Rattle.merge_gens.specs.Filling.{filled_by, generations_of}
use Rattle.merge_schema.specs.declared.publication.Publication.{Publication}
use Rattle.merge_schema.specs.declared.publication.Subscription.{Subscription}
use Rattle.merge_schema.proofs.Searches.{any_map}
use Rattle.merge_model.specs.Publisher.Entries as entry
use Rattle.merge_model.specs.Publisher.Entries.{Changing, Entries, Parts, Touched, changed_by, changing_entries, entry_count, live_rows, move_of, moves_of, parts_of, returned_rows, rows_after, touched_by, with_move, with_rows}
use Rattle.merge_model.specs.Judge.{PublisherJudge}
use Rattle.merge_types.specs.RowKeys.{key_cmp}
use Rattle.merge_gens.specs.Moves.{row_site_cmp}
use Rattle.merge_model.specs.Tables.Keys.{at_row_site, has_key, row_at, same_key}
use Rattle.merge_resolve.specs.Priorities.{subscription_at}
use Rattle.merge_model.specs.Publisher.PublisherDownload.{inside_keys}
use Rattle.merge_types.specs.declared.row_key.RowKey.{RowKey as Key}
use Rattle.merge_gens.specs.declared.moves.Mapping.{Mapping}
use Rattle.merge_gens.specs.declared.moves.MoveKind.{MoveKind}
use Rattle.merge_units.specs.declared.site_row.PublisherRow.{PublisherRow}
use Rattle.merge_gens.specs.declared.moves.RowSite.{RowSite}
use Rattle.merge_model.specs.Tables.{PublisherTables}
use Rattle.merge_model.proofs.Publishers.Sorted.{key_total, row_site_total}
use Rattle.merge_laws.specs.Facts.Settled.{last_used}
use Rattle.merge_model.proofs.Entries.Downloads.{inside-held}
use Rattle.merge_model.proofs.Lists.Finding.{all-weaker}
use Rattle.merge_model.proofs.Lists.KeyLookUps.{key-test}
use Rattle.merge_laws.proofs.LastLines.LastLineAdded.{moves-ascend}
use Rattle.merge_model.proofs.Lists.PlaceLookUps.{at-dropped, has_place, is_place, place-is}
use Rattle.merge_model.proofs.Lists.{all-of}
use Rattle.merge_model.proofs.Entries.EntryLists.{all-dropped, all-numbered, all-taken, any-numbered, none-all, puts-hold}
use Rattle.merge_laws.proofs.Touched.TouchLists.{IsNew, generations-many, generations-new, used-rises}
use Rattle.merge_model.proofs.Entries.StepMoves.{IsMoveHere, move-made, moved_here, moves-are, none-returned}
use Rattle.merge_model.proofs.Entries.StepParts.{CanBeSaid, IsPart, found-same, found_keys, keys-held, live-same, none-found, part-stands, parts-are, strangers-parts}

-- the generation of a row's last change, 0 where it is not held
abbrev pub changed_of : Option PublisherRow → ℕ
changed_of found = unwrap_or (option_map (λ (row : PublisherRow). row.changed) found) 0

-- the generation of a move, 0 where there is none
abbrev pub generation_of : Option Mapping → ℕ
generation_of found = unwrap_or (option_map (λ (mapping : Mapping). mapping.generation) found) 0

-- a move of this kind, in a generation behind this one
abbrev pub MovedTo : MoveKind → ℕ → Option Mapping → Type 0
MovedTo kind generation None = ⊥
MovedTo kind generation (Some mapping) = (mapping.kind ≡ kind) × (generation < mapping.generation)

-- A row for a site, before the entries of a step and after them: whether it was inside and is, whether it changed with an entry and whether
-- an item of the site acted on it, and whether the site subscribes.
pub record EntersHere (last : ℕ) (was is changed acted subscribes : Bool) (row_before row_after : Option PublisherRow) (move_before move_after : Option Mapping) : Type 0 where
  pub kept : changed ≡ false → row_after ≡ row_before
  pub changes : changed ≡ true → last < changed_of row_after
  pub held : is ≡ true → is_some row_after ≡ true
  pub moved : subscribes ≡ true → (kind : MoveKind) → move_of was is changed acted ≡ Some kind → MovedTo kind last move_after
  pub unmoved : move_of was is changed acted ≡ None → (not was && (is && changed)) ≡ false → move_after ≡ move_before
  pub strangers : subscribes ≡ false → (was ≡ false) × (is ≡ false) × (move_after ≡ move_before)

-- Lists.

renumbered : (versions : List (Key × Version)) (generations : List ℕ) → zip versions (map (λ (e : Key × ℕ). e.1) (zip (map (λ (row : Key × Version). row.0) versions) generations)) ≡ zip versions generations
renumbered [] generations = refl
renumbered (v ∷ versions) [] = refl
renumbered (v ∷ versions) (g ∷ generations) = ap (λ (rest : List ((Key × Version) × ℕ)). (v, g) ∷ rest) (renumbered versions generations)

-- Moves are of rows that are held, or on which an item acted, and such a row does not come back.

move-held : (was is changed acted : Bool) (kind : MoveKind) → move_of was is changed acted ≡ Some kind → (was || (is || acted)) ≡ true
move-held true is changed acted kind e = refl
move-held false true changed acted kind e = refl
move-held false false changed true kind e = refl
move-held false false changed false kind e = absurd cc

pub move-out : (was is changed acted : Bool) (kind : MoveKind) → move_of was is changed acted ≡ Some kind → (not was && (is && changed)) ≡ false
move-out true is changed acted kind e = refl
move-out false true true acted kind e = absurd cc
move-out false true false acted kind e = refl
move-out false false changed acted kind e = refl

in-keys : (was is acted held among : Bool) → (was ≡ true → held ≡ true) → (is ≡ true → held ≡ true) → (acted ≡ true → among ≡ true) → (was || (is || acted)) ≡ true → (held || among) ≡ true
in-keys true is acted held among first second third some = ap (λ (b : Bool). b || among) (first refl)
in-keys false true acted held among first second third some = ap (λ (b : Bool). b || among) (second refl)
in-keys false false true held among first second third some = grind (arith, third refl)
in-keys false false false held among first second third some = absurd cc

second-true : (a b : Bool) → (a && b) ≡ true → b ≡ true
second-true true b is = is
second-true false b is = absurd cc

self-among : (key : Key) → has_key (key ∷ []) key ≡ true
self-among key = grind (arith, nat_tests)

either-gone : (P : ℕ → Type 0) (b : Bool) (found : Option Mapping) → P 0 → P (generation_of found) → P (generation_of (cond b None found))
either-gone P true found none some = none
either-gone P false found none some = some

moved-new : (kind found : MoveKind) (last generation : ℕ) → Some kind ≡ Some found → last < generation → MovedTo kind last (Some (record { kind = found; generation = generation }))
moved-new kind found last generation same above = (let kinds : found ≡ kind = cc in kinds, above)

module _ (publication : Publication) (judge : PublisherJudge) (changing : Changing) (p : PublisherTables) where
  abbrev touched : Touched
  touched = touched_by changing

  abbrev rows : List (Key × PublisherRow)
  rows = rows_after changing p.rows

  abbrev parts : List Parts
  parts = parts_of publication p.rows rows

  abbrev keys : List Key
  keys = entry.keys_of rows touched.acted

  abbrev moves : List (RowSite × MoveKind)
  moves = moves_of touched parts keys

  abbrev count : ℕ
  count = length touched.changed + length moves

  abbrev generations : List ℕ
  generations = generations_of p.gens.filling count

  abbrev row_generations : List ℕ
  row_generations = take (length touched.changed) generations

  abbrev move_generations : List ℕ
  move_generations = drop (length touched.changed) generations

  abbrev gone : List RowSite
  gone = returned_rows judge touched parts touched.changed

  abbrev q : PublisherTables
  q = changed_by publication judge changing p

  abbrev last : ℕ
  last = p.gens.filling.last_closed

  abbrev New : ℕ → Type 0
  New generation = IsNew p.gens.filling count generation

  many : length generations ≡ count
  many = generations-many p.gens.filling count

  rows-enough : length touched.changed ≤ length row_generations
  rows-enough = omega (arith, length-take (length touched.changed) generations, many)

  versions-enough : length changing.versions ≤ length row_generations
  versions-enough = omega (arith, rows-enough, length-map changing.versions (λ (row : Key × Version). row.0))

  moves-enough : length moves ≤ length move_generations
  moves-enough = omega (arith, length-drop (length touched.changed) generations, many)

  all-counted : entry_count (changing_entries publication judge changing p) ≡ count
  all-counted = omega (arith, length-zip touched.changed row_generations, length-zip moves move_generations, rows-enough, moves-enough)

  pub used-after : last_used q.gens.filling ≡ last_used (filled_by p.gens.filling count)
  used-after = ap (λ (entries : ℕ). last_used (filled_by p.gens.filling entries)) all-counted

  pub used-more : last_used p.gens.filling ≤ last_used q.gens.filling
  used-more = subst (λ (used : ℕ). last_used p.gens.filling ≤ used) (sym used-after) (used-rises p.gens.filling count)

  -- rows that hold of the same bodies are in the same partitions
  rows-live : live_rows q.rows ≡ live_rows rows
  rows-live = ap (λ (xs : List ((Key × Version) × ℕ)). live_rows (with_rows p.rows xs)) (renumbered changing.versions row_generations) ∙ live-same changing.versions row_generations p.rows versions-enough

  pub inside-after : (site : SiteId) → inside_keys publication site q ≡ found_keys publication (subscription_at publication site.0) rows
  inside-after site = found-same publication (subscription_at publication site.0) q.rows rows rows-live

  module _ (key : Key) where
    abbrev entered : List ((Key × Version) × ℕ)
    entered = zip changing.versions row_generations

    abbrev changes_row : (Key × Version) × ℕ → Bool
    changes_row x = same_key key x.0.0

    any-changed : list_any changes_row entered ≡ has_key touched.changed key
    any-changed = any-numbered (λ (row : Key × Version). same_key key row.0) changing.versions row_generations versions-enough ∙ sym (any_map (λ (row : Key × Version). row.0) (same_key key) changing.versions)

    -- what holds of the row afterwards
    row-holds : (P : Option PublisherRow → Type 0) → AllByRecursion (λ (x : (Key × Version) × ℕ). changes_row x ≡ true → P (Some (record { version = x.0.1; changed = x.1 }))) entered
        → (has_key touched.changed key ≡ false → P (row_at p.rows key)) → P (row_at q.rows key)
    row-holds P each before =
        subst (λ (xs : List ((Key × Version) × ℕ)). P (row_at (with_rows p.rows xs) key)) (sym (renumbered changing.versions row_generations))
        (puts-hold key_cmp key_total (λ (x : (Key × Version) × ℕ). x.0.0) (λ (x : (Key × Version) × ℕ). record { version = x.0.1; changed = x.1 }) P key changes_row (λ x. key-test key x.0.0) entered p.rows
        each (λ none. before (sym any-changed ∙ none)))

    pub row-new : (P : ℕ → Type 0) → ((generation : ℕ) → New generation → P generation) → (has_key touched.changed key ≡ false → P (changed_of (row_at p.rows key))) → P (changed_of (row_at q.rows key))
    row-new P each before = row-holds (λ (found : Option PublisherRow). P (changed_of found))
        (all-weaker (λ (x : (Key × Version) × ℕ). Unit {0} × New x.1) (λ (x : (Key × Version) × ℕ). changes_row x ≡ true → P x.1) (λ x new same. each x.1 new.1) entered
        (all-numbered (λ (row : Key × Version). Unit {0}) New changing.versions row_generations (all-of (λ (row : Key × Version). Unit {0}) (λ row. tt) changing.versions)
        (all-taken New (length touched.changed) generations (generations-new p.gens.filling count)))) before

    row-kept : has_key touched.changed key ≡ false → row_at q.rows key ≡ row_at p.rows key
    row-kept same = row-holds (λ (found : Option PublisherRow). found ≡ row_at p.rows key)
        (none-all changes_row (λ (x : (Key × Version) × ℕ). Some (record { version = x.0.1; changed = x.1 }) ≡ row_at p.rows key) entered (any-changed ∙ same)) (λ none. refl)

    -- a row that was held is
    rows-stay : is_some (row_at p.rows key) ≡ true → is_some (row_at rows key) ≡ true
    rows-stay held = puts-hold key_cmp key_total (λ (x : (Key × Version) × ℕ). x.0.0) (λ (x : (Key × Version) × ℕ). record { version = x.0.1; changed = x.1 }) (λ (found : Option PublisherRow). is_some found ≡ true) key changes_row (λ x. key-test key x.0.0)
        (map (λ (row : Key × Version). (row, 0)) changing.versions) p.rows
        (all-of (λ (x : (Key × Version) × ℕ). changes_row x ≡ true → (let row : Option PublisherRow = Some (record { version = x.0.1; changed = x.1 }) in is_some row) ≡ true) (λ x same. refl) (map (λ (row : Key × Version). (row, 0)) changing.versions)) (λ none. held)

    module _ (sorted : IsStrictlySortedBy row_site_cmp (keys_of p.mappings)) (n : ℕ) where
      abbrev place : RowSite
      place = record { key = key; site = n }

      abbrev numbered : List ((RowSite × MoveKind) × ℕ)
      numbered = zip moves move_generations

      abbrev moves_row : (RowSite × MoveKind) × ℕ → Bool
      moves_row x = is_place key n x.0.0

      any-moved : list_any moves_row numbered ≡ list_any (λ (move : RowSite × MoveKind). is_place key n move.0) moves
      any-moved = any-numbered (λ (move : RowSite × MoveKind). is_place key n move.0) moves move_generations moves-enough

      all-new : AllByRecursion New move_generations
      all-new = all-dropped New (length touched.changed) generations (generations-new p.gens.filling count)

      found-after : at_row_site q.mappings place ≡ cond (has_place gone key n) None (at_row_site (fold with_move p.mappings numbered) place)
      found-after = at-dropped gone (fold with_move p.mappings numbered) key n (moves-ascend numbered p.mappings sorted)

      moved-holds : (P : Option Mapping → Type 0) → AllByRecursion (λ (x : (RowSite × MoveKind) × ℕ). moves_row x ≡ true → P (Some (record { kind = x.0.1; generation = x.1 }))) numbered
          → (list_any moves_row numbered ≡ false → P (at_row_site p.mappings place)) → P (at_row_site (fold with_move p.mappings numbered) place)
      moved-holds P each before = puts-hold row_site_cmp row_site_total (λ (x : (RowSite × MoveKind) × ℕ). x.0.0) (λ (x : (RowSite × MoveKind) × ℕ). record { kind = x.0.1; generation = x.1 }) P place moves_row (λ x. place-is key n x.0.0)
          numbered p.mappings each before

      -- whatever the moves are, their generations are new
      pub move-new : (P : ℕ → Type 0) → ((generation : ℕ) → New generation → P generation) → P 0 → P (generation_of (at_row_site p.mappings place)) → P (generation_of (at_row_site q.mappings place))
      move-new P each none before =
          subst (λ (found : Option Mapping). P (generation_of found)) (sym found-after)
          (either-gone P (has_place gone key n) (at_row_site (fold with_move p.mappings numbered) place) none
          (moved-holds (λ (found : Option Mapping). P (generation_of found))
          (all-weaker (λ (x : (RowSite × MoveKind) × ℕ). Unit {0} × New x.1) (λ (x : (RowSite × MoveKind) × ℕ). moves_row x ≡ true → P x.1) (λ x new same. each x.1 new.1) numbered
          (all-numbered (λ (move : RowSite × MoveKind). Unit {0}) New moves move_generations (all-of (λ (move : RowSite × MoveKind). Unit {0}) (λ move. tt) moves) all-new)) (λ same. before)))

      module _ (before after : List Key) (are : AllByRecursion (IsPart n before after) parts) where
        abbrev Out : Type 0
        Out = (not (has_key before key) && (has_key after key && has_key touched.changed key)) ≡ false

        not-gone : Out → at_row_site q.mappings place ≡ at_row_site (fold with_move p.mappings numbered) place
        not-gone out = found-after ∙ ap (λ (b : Bool). (let found : Option Mapping = cond b None (at_row_site (fold with_move p.mappings numbered) place) in found)) (none-returned touched key n before after judge out parts touched.changed are)

        abbrev Here : RowSite × MoveKind → Type 0
        Here move = IsMoveHere touched key n before after move

        here-new : AllByRecursion (λ (x : (RowSite × MoveKind) × ℕ). Here x.0 × New x.1) numbered
        here-new = all-numbered Here New moves move_generations (moves-are touched key n before after parts keys are) all-new

        moves-none : moved_here touched key n before after ≡ None → Out → at_row_site q.mappings place ≡ at_row_site p.mappings place
        moves-none none out = not-gone out ∙ moved-holds (λ (found : Option Mapping). found ≡ at_row_site p.mappings place)
            (all-weaker (λ (x : (RowSite × MoveKind) × ℕ). Here x.0 × New x.1) (λ (x : (RowSite × MoveKind) × ℕ). moves_row x ≡ true → Some (record { kind = x.0.1; generation = x.1 }) ≡ at_row_site p.mappings place)
            (λ x both there. absurd (let same = both.0 there in grind (arith, none, same))) numbered here-new) (λ same. refl)

        moves-to : (kind : MoveKind) → moved_here touched key n before after ≡ Some kind → Out → list_any (λ (part : Parts). part.site == n) parts ≡ true → has_key keys key ≡ true → MovedTo kind last (at_row_site q.mappings place)
        moves-to kind e out stands held = subst (MovedTo kind last) (sym (not-gone out)) (moved-holds (MovedTo kind last)
            (all-weaker (λ (x : (RowSite × MoveKind) × ℕ). Here x.0 × New x.1) (λ (x : (RowSite × MoveKind) × ℕ). moves_row x ≡ true → MovedTo kind last (Some (record { kind = x.0.1; generation = x.1 })))
            (λ x both there. moved-new kind x.0.1 last x.1 (sym e ∙ both.0 there) both.1.above) numbered here-new)
            (λ none. absurd (grind (arith, none, any-moved, move-made touched key n before after parts keys kind are stands held e))))

    -- All of it.
    module _ (valid : CanBeSaid publication) (sorted : IsStrictlySortedBy row_site_cmp (keys_of p.mappings)) (site : SiteId) where
      abbrev found : Option Subscription
      found = subscription_at publication site.0

      abbrev before : List Key
      before = found_keys publication found p.rows

      abbrev after : List Key
      after = found_keys publication found rows

      abbrev was : Bool
      was = has_key before key

      abbrev is : Bool
      is = has_key after key

      abbrev changed : Bool
      changed = has_key touched.changed key

      abbrev acted : Bool
      acted = (site.0 == touched.uploader) && has_key touched.acted key

      kept-here : (kind : MoveKind) → move_of was is changed acted ≡ Some kind → has_key keys key ≡ true
      kept-here kind e = keys-held rows touched.acted key
          ∙ in-keys was is acted (is_some (row_at rows key)) (has_key touched.acted key) (λ inn. rows-stay (inside-held publication site p key inn)) (λ inn. inside-held publication site (record p { rows = rows }) key inn)
          (second-true (site.0 == touched.uploader) (has_key touched.acted key)) (move-held was is changed acted kind e)

      pub enters : EntersHere last was is changed acted (is_some found) (row_at p.rows key) (row_at q.rows key) (at_row_site p.mappings (record { key = key; site = site.0 })) (at_row_site q.mappings (record { key = key; site = site.0 }))
      enters = record {
        kept = row-kept;
        changes = λ c. row-new (λ (g : ℕ). last < g) (λ g new. new.above) (λ none. absurd (grind (arith, c, none)));
        held = λ inn. inside-held publication site q key (ap (λ (ks : List Key). has_key ks key) (inside-after site) ∙ inn);
        moved = λ some kind e. moves-to sorted site.0 before after (parts-are publication site.0 p.rows rows valid) kind e (move-out was is changed acted kind e) (part-stands publication site.0 p.rows rows some) (kept-here kind e);
        unmoved = λ none out. moves-none sorted site.0 before after (parts-are publication site.0 p.rows rows valid) none out;
        strangers = λ none. (
          none-found publication found p.rows key none,
          none-found publication found rows key none,
          moves-none sorted site.0 (key ∷ []) (key ∷ []) (strangers-parts publication site.0 p.rows rows (key ∷ []) (key ∷ []) valid none)
              (ap (λ (b : Bool). move_of b b changed acted) (self-among key)) (ap (λ (b : Bool). not b && (b && changed)) (self-among key)),
        );
      }
