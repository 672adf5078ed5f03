-- What a step forgets of moves is what its lines say: rows that left the partition of a site that joins, and rows that left long ago.
use Rattle.std.specs.Prelude.{◌≡◌, ◌==◌, ◌&&◌, ◌||◌, ℕ, List, [], ◌∷◌, Bool, true, false, not, Option, Some, None, refl, cond, map, filter, find, flat_map, is_some, option_map}
use Rattle.std.specs.List.{fold, list_any}
use Rattle.std.specs.Option.{option_map_or}
use Rattle.std.specs.List.Sorted.{IsStrictlySortedBy}
use Rattle.std.specs.Map.{keys_of}
use Rattle.std.proofs.Common.{subst, sym, ap, ◌∙◌}
use Rattle.std.proofs.lemmas.List.Folds.{list_any-append}
use Rattle.std.proofs.Math.Bool.{and-false, and-true, and_comm, and-or_distrib_right}
use Rattle.merge_schema.proofs.Searches.{any_map}
use Rattle.merge_types.specs.declared.identifiers.SiteId.{SiteId}
use Rattle.merge_schema.specs.declared.publication.Publication.{Publication}
use Rattle.merge_types.specs.declared.row_key.RowKey.{RowKey as Key}
use Rattle.merge_gens.specs.declared.moves.RowSite.{RowSite}
use Rattle.merge_units.specs.declared.site_row.PublisherRow.{PublisherRow}
use Rattle.merge_gens.specs.declared.moves.Mapping.{Mapping}
use Rattle.merge_gens.specs.declared.moves.MoveKind.TheVariants.{Entered, Left}
use Rattle.merge_gens.specs.Moves.{is_left, row_site_cmp}
use Rattle.merge_types.specs.RowKeys.{key_cmp}
use Rattle.merge_model.proofs.Lists.KeyLists.{some-head, keys-once}
use Rattle.merge_model.specs.Tables.Keys.{same_key, has_key, row_at, at_row_site}
use Rattle.merge_model.specs.Publisher.Entries as entry
use Rattle.merge_model.specs.History.{Line, LineKind, Changed, EnteredFor, LeftFor, GoneFor}
use Rattle.merge_model.specs.Judge.ByHistory.{is_line_for, line_site, says_left, touched_outside}
use Rattle.merge_model.specs.History.Noting.{gone_line, gone_for}
use Rattle.merge_model.proofs.Publishers.Sorted.{key_total, row_site_total}
use Rattle.merge_laws.specs.Laws.LastLines.{move_told, move_in, MappingsFit, RowsFit, MovedForSubscribers}
use Rattle.merge_model.proofs.Lists.KeyLookUps.{keys-exact, keys-same}
use Rattle.merge_laws.proofs.LastLines.LastLineAdded.{added, gone-last}
use Rattle.merge_model.proofs.Lists.PlaceLookUps.{places-exact, is_place, has_place, kept, kept-found, lookup-filter}
use Rattle.merge_model.proofs.Lists.{any-same}
use Rattle.merge_model.proofs.Lists.Tests.{numbers-same, numbers-turned}

-- What some member passes.

filter-head : {X : Type 0} (keeps : Bool) (test : X → Bool) (x : X) (rest : List X) (more : Bool) → list_any test rest ≡ more → list_any test (let left : List X = cond keeps (x ∷ rest) rest in left) ≡ ((keeps && test x) || more)
filter-head true test x rest more same = ap (λ (b : Bool). test x || b) same
filter-head false test x rest more same = same

any-filter : {X : Type 0} (keep test : X → Bool) (xs : List X) → list_any test (filter keep xs) ≡ list_any (λ (x : X). keep x && test x) xs
any-filter keep test [] = refl
any-filter keep test (x ∷ xs) = filter-head (keep x) test x (filter keep xs) (list_any (λ (y : _). keep y && test y) xs) (any-filter keep test xs)

-- a test that passes a key alone, if any
any-key : (test : Key → Bool) (key : Key) (b : Bool) → ((k : Key) → test k ≡ (same_key key k && b)) → (keys : List Key) → list_any test keys ≡ (has_key keys key && b)
any-key test key b is [] = refl
any-key test key b is (k ∷ keys) =
    ap (λ (c : Bool). c || list_any test keys) (is k) ∙ ap (λ (c : Bool). (same_key key k && b) || c) (any-key test key b is keys) ∙ sym (and-or_distrib_right (same_key key k) (has_key keys key) b)

key-head : (keep : Key → Bool) (key k : Key) (c s : Bool) → same_key key k ≡ s → (keep k && (s && c)) ≡ (s && (keep key && c))
key-head keep key k c true is = ap (λ (q : Key). keep q && c) (sym (keys-same key k is))
key-head keep key k c false is = and-false (keep k)

-- a key among those that a test keeps
has-filter : (keep : Key → Bool) (key : Key) (keys : List Key) → has_key (filter keep keys) key ≡ (has_key keys key && keep key)
has-filter keep key keys =
    any-filter keep (same_key key) keys
    ∙ any-key (λ (k : Key). keep k && same_key key k) key (keep key)
    (λ k. ap (λ (b : Bool). keep k && b) (sym (and-true (same_key key k))) ∙ key-head keep key k true (same_key key k) refl ∙ ap (λ (b : Bool). same_key key k && b) (and-true (keep key))) keys

-- a place among those of a site
site-places : (keep : Key → Bool) (site : SiteId) (key : Key) (n : ℕ) (keys : List Key) → has_place (map (gone_for site) (filter keep keys)) key n ≡ (has_key keys key && (keep key && (site.0 == n)))
site-places keep site key n keys =
    any_map (gone_for site) (is_place key n) (filter keep keys) ∙ any-filter keep (λ (k : Key). is_place key n (gone_for site k)) keys
    ∙ any-key (λ (k : Key). keep k && is_place key n (gone_for site k)) key (keep key && (site.0 == n)) (λ k. key-head keep key k (site.0 == n) (same_key key k) refl) keys

-- The rows of which a line tells for a site.

some-any : (test : Line → Bool) (lines : List Line) → is_some (find test lines) ≡ list_any test lines
some-any test [] = refl
some-any test (line ∷ lines) = some-head (test line) line (find test lines) ∙ ap (λ (b : Bool). test line || b) (some-any test lines)

abbrev is_for : ℕ → Line → Bool
is_for site line = option_map_or (λ (other : ℕ). other == site) (line_site line) false

line-for : (key of : Key) (site : ℕ) (kind : LineKind) (generation : ℕ) → (let line : Line = record { key = of; kind = kind; generation = generation } in (is_for site line && same_key key line.key) ≡ is_line_for key site line)
line-for key of site Changed generation = sym (and-false (same_key key of))
line-for key of site (EnteredFor other) generation = and_comm (other == site) (same_key key of)
line-for key of site (LeftFor other) generation = and_comm (other == site) (same_key key of)
line-for key of site (GoneFor other) generation = and_comm (other == site) (same_key key of)

abbrev pub moved_in : List Line → ℕ → List Key
moved_in lines site = map (λ (line : Line). line.key) (filter (is_for site) lines)

pub told-of : (lines : List Line) (key : Key) (site : ℕ) → has_key (entry.keys_of [] (moved_in lines site)) key ≡ is_some (find (is_line_for key site) lines)
told-of lines key site =
    keys-once (moved_in lines site) key ∙ any_map (λ (line : Line). line.key) (same_key key) (filter (is_for site) lines)
    ∙ any-filter (is_for site) (λ (line : Line). same_key key line.key) lines
    ∙ any-same (λ (line : Line). is_for site line && same_key key line.key) (is_line_for key site) (λ line. line-for key line.key site line.kind line.generation) lines
    ∙ sym (some-any (is_line_for key site) lines)

-- What is told of a move, read as the lines' judges read it.

pub record Told (move : Mapping) (last : Option Line) : Type 0 where
  pub some : is_some last ≡ true
  pub left : says_left last ≡ is_left move.kind
  pub old : (test : ℕ → Bool) → (says_left last && option_map_or test (touched_outside last) false) ≡ (is_left move.kind && test move.generation)

same-move : (a b : Mapping) → Some a ≡ Some b → a ≡ b
same-move a b e = cc

kind-told : (move : Mapping) (of : Key) (kind : LineKind) (generation : ℕ) → (let last : Option Line = Some (record { key = of; kind = kind; generation = generation }) in move_told last ≡ Some move → Told move last)
kind-told move of Changed generation e = absurd cc
kind-told move of (EnteredFor site) generation e = subst (λ (m : Mapping). Told m (Some (record { key = of; kind = EnteredFor site; generation = generation })))
    (same-move (record { kind = Entered; generation = generation }) move e) (record { some = refl; left = refl; old = λ test. refl })
kind-told move of (LeftFor site) generation e = subst (λ (m : Mapping). Told m (Some (record { key = of; kind = LeftFor site; generation = generation })))
    (same-move (record { kind = Left; generation = generation }) move e) (record { some = refl; left = refl; old = λ test. refl })
kind-told move of (GoneFor site) generation e = absurd cc

pub told : (move : Mapping) (last : Option Line) → move_told last ≡ Some move → Told move last
told move None e = absurd cc
told move (Some line) e = kind-told move line.key line.kind line.generation e

-- What is forgotten.

gone-one : (lost : RowSite × Mapping → Bool) (place : RowSite) (move : Mapping) (gone loses : Bool) → lost (place, move) ≡ loses → gone ≡ loses → kept (λ (e : RowSite × Mapping). not (lost e)) place (Some move) ≡ cond gone None (Some move)
gone-one lost place move gone true is same = rw (is, same) refl
gone-one lost place move gone false is same = rw (is, same) refl

gone-found : (lost : RowSite × Mapping → Bool) (place : RowSite) (found : Option Mapping) (gone : Bool) → ((move : Mapping) → found ≡ Some move → gone ≡ lost (place, move)) → kept (λ (e : RowSite × Mapping). not (lost e)) place found ≡ cond gone None found
gone-found lost place None true is = refl
gone-found lost place None false is = refl
gone-found lost place (Some move) gone is = gone-one lost place move gone (lost (place, move)) refl (is move refl)

-- mappings without those that are told no more
pub forgotten-fit : (lost : RowSite × Mapping → Bool) (generation : ℕ) (places : List RowSite) (mappings : List (RowSite × Mapping)) (lines : List Line) → IsStrictlySortedBy row_site_cmp (keys_of mappings) → MappingsFit mappings lines
    → ((key : Key) (site : ℕ) (move : Mapping) → at_row_site mappings (record { key = key; site = site }) ≡ Some move → has_place places key site ≡ lost (record { key = key; site = site }, move))
    → MappingsFit (filter (λ (e : RowSite × Mapping). not (lost e)) mappings) (fold added lines (map (gone_line generation) places))
forgotten-fit lost generation places mappings lines sorted fits each key site =
    let place : RowSite = record { key = key; site = site } in
    lookup-filter row_site_cmp row_site_total places-exact (λ (e : RowSite × Mapping). not (lost e)) place mappings sorted
    ∙ gone-found lost place (at_row_site mappings place) (has_place places key site) (each key site)
    ∙ ap (λ (found : Option Mapping). (let now : Option Mapping = cond (has_place places key site) None found in now)) (fits key site)
    ∙ sym (gone-last generation places lines key site)

pub forgotten-sites : (publication : Publication) (keep : RowSite × Mapping → Bool) (mappings : List (RowSite × Mapping)) → IsStrictlySortedBy row_site_cmp (keys_of mappings) → MovedForSubscribers publication mappings → MovedForSubscribers publication (filter keep mappings)
forgotten-sites publication keep mappings sorted before key site held =
    let place : RowSite = record { key = key; site = site } in
    let now : at_row_site (filter keep mappings) place ≡ kept keep place (at_row_site mappings place) = lookup-filter row_site_cmp row_site_total places-exact keep place mappings sorted in
    let some : is_some (kept keep place (at_row_site mappings place)) ≡ true = ap (λ (found : Option Mapping). is_some found) (sym now) ∙ held in
    before key site (ap (λ (found : Option Mapping). is_some found) (sym (kept-found keep place (at_row_site mappings place) some)) ∙ some)

-- rows that stay have what they had
pub forgotten-rows : (keep : Key × PublisherRow → Bool) (rows : List (Key × PublisherRow)) (lines : List Line) → IsStrictlySortedBy key_cmp (keys_of rows) → RowsFit rows lines → RowsFit (filter keep rows) lines
forgotten-rows keep rows lines sorted fits key held =
    let now : row_at (filter keep rows) key ≡ kept keep key (row_at rows key) = lookup-filter key_cmp key_total keys-exact keep key rows sorted in
    let same : row_at (filter keep rows) key ≡ row_at rows key = now ∙ kept-found keep key (row_at rows key) (ap (λ (found : Option PublisherRow). is_some found) (sym now) ∙ held) in
    ap (λ (found : Option PublisherRow). option_map (λ (row : PublisherRow). row.changed) found) same ∙ fits key (ap (λ (found : Option PublisherRow). is_some found) (sym same) ∙ held)

-- Of a site that joins: the rows that left its partition.

abbrev left_in : List Line → ℕ → Key → Bool
left_in lines site key = says_left (find (is_line_for key site) lines)

join-truth : (has l c k d : Bool) → c ≡ d → (c ≡ true → has ≡ true) → (c ≡ true → l ≡ k) → (has && (l && c)) ≡ (d && k)
join-truth has l c k true e h s = rw (e, h e, s e) (and-true k)
join-truth has l c k false e h s = rw e (ap (λ (b : Bool). has && b) (and-false l) ∙ and-false has)

-- what is told of the place is told of the site
told-at : (lines : List Line) (key : Key) (move : Mapping) (site : SiteId) (n : ℕ) → move_in lines key n ≡ Some move → (site.0 == n) ≡ true → Told move (find (is_line_for key site.0) lines)
told-at lines key move site n is e = told move (find (is_line_for key site.0) lines) (ap (λ (k : ℕ). move_in lines key k) (numbers-same site.0 n e) ∙ is)

pub left-gone : (lines : List Line) (site : SiteId) (key : Key) (n : ℕ) (move : Mapping) → move_in lines key n ≡ Some move
    → has_place (map (gone_for site) (filter (left_in lines site.0) (entry.keys_of [] (moved_in lines site.0)))) key n ≡ ((n == site.0) && is_left move.kind)
left-gone lines site key n move is =
    let keys : List Key = entry.keys_of [] (moved_in lines site.0) in
    site-places (left_in lines site.0) site key n keys
    ∙ join-truth (has_key keys key) (left_in lines site.0 key) (site.0 == n) (is_left move.kind) (n == site.0) (numbers-turned site.0 n)
    (λ e. told-of lines key site.0 ∙ (told-at lines key move site n is e).some) (λ e. (told-at lines key move site n is e).left)

-- Of every site: the rows that left its partition in an old generation.

abbrev old_in : List Line → (ℕ → Bool) → ℕ → Key → Bool
old_in lines is_old site key = option_map_or is_old (touched_outside (find (is_line_for key site) lines)) false

abbrev pub old_places : List Line → (ℕ → Bool) → SiteId → List RowSite
old_places lines is_old site = map (gone_for site) (filter (old_in lines is_old site.0) (filter (left_in lines site.0) (entry.keys_of [] (moved_in lines site.0))))

old-truth : (has l o c k : Bool) → (c ≡ true → has ≡ true) → (c ≡ true → (l && o) ≡ k) → ((has && l) && (o && c)) ≡ (c && k)
old-truth has l o true k h s = rw (h refl) (ap (λ (b : Bool). l && b) (and-true o) ∙ s refl)
old-truth has l o false k h s = ap (λ (b : Bool). (has && l) && b) (and-false o) ∙ and-false (has && l)

old-gone : (lines : List Line) (is_old : ℕ → Bool) (site : SiteId) (key : Key) (n : ℕ) (move : Mapping) → move_in lines key n ≡ Some move
    → has_place (old_places lines is_old site) key n ≡ ((site.0 == n) && (is_left move.kind && is_old move.generation))
old-gone lines is_old site key n move is =
    let keys : List Key = entry.keys_of [] (moved_in lines site.0) in
    site-places (old_in lines is_old site.0) site key n (filter (left_in lines site.0) keys)
    ∙ ap (λ (b : Bool). b && (old_in lines is_old site.0 key && (site.0 == n))) (has-filter (left_in lines site.0) key keys)
    ∙ old-truth (has_key keys key) (left_in lines site.0 key) (old_in lines is_old site.0 key) (site.0 == n) (is_left move.kind && is_old move.generation)
    (λ e. told-of lines key site.0 ∙ (told-at lines key move site n is e).some) (λ e. (told-at lines key move site n is e).old is_old)

pub all-gone : (lines : List Line) (is_old : ℕ → Bool) (key : Key) (n : ℕ) (move : Mapping) → move_in lines key n ≡ Some move → (sites : List SiteId)
    → has_place (flat_map (old_places lines is_old) sites) key n ≡ (list_any (λ (other : SiteId). other.0 == n) sites && (is_left move.kind && is_old move.generation))
all-gone lines is_old key n move is [] = refl
all-gone lines is_old key n move is (site ∷ sites) =
    list_any-append (is_place key n) (old_places lines is_old site) (flat_map (old_places lines is_old) sites)
    ∙ ap (λ (b : Bool). b || has_place (flat_map (old_places lines is_old) sites) key n) (old-gone lines is_old site key n move is)
    ∙ ap (λ (b : Bool). ((site.0 == n) && (is_left move.kind && is_old move.generation)) || b) (all-gone lines is_old key n move is sites)
    ∙ sym (and-or_distrib_right (site.0 == n) (list_any (λ (other : SiteId). other.0 == n) sites) (is_left move.kind && is_old move.generation))
