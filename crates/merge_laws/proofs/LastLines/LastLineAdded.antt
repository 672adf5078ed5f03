-- What the last lines are where lines were added: of rows that changed, of moves, and of places of which nothing is told any more.
use Rattle.std.specs.Prelude.{◌≡◌, ◌&&◌, ℕ, List, [], ◌∷◌, Bool, true, false, Option, Some, None, refl, cond, map, find, is_some, option_map}
use Rattle.std.specs.List.{AllByRecursion, fold, zip}
use Rattle.std.specs.List.Sorted.{IsStrictlySortedBy}
use Rattle.std.specs.Map.{keys_of}
use Rattle.std.proofs.Common.{arith, subst, sym, ap, ◌∙◌}
use Rattle.std.proofs.lemmas.Bool.Decides.{nat_tests}
use Rattle.std.proofs.Math.Bool.{and-false}
use Rattle.merge_table.proofs.LookUps.{lookup-insert_entry}
use Rattle.merge_table.proofs.Sorted.{sorted_put}
use Rattle.merge_units.specs.declared.version.Version.{Version}
use Rattle.merge_schema.specs.declared.publication.Publication.{Publication}
use Rattle.merge_types.specs.declared.row_key.RowKey.{RowKey as Key}
use Rattle.merge_gens.specs.declared.moves.RowSite.{RowSite}
use Rattle.merge_units.specs.declared.site_row.PublisherRow.{PublisherRow}
use Rattle.merge_gens.specs.declared.moves.MoveKind.{MoveKind}
use Rattle.merge_gens.specs.declared.moves.MoveKind.TheVariants.{Entered, Left}
use Rattle.merge_gens.specs.declared.moves.Mapping.{Mapping}
use Rattle.merge_types.specs.RowKeys.{key_cmp}
use Rattle.merge_gens.specs.Moves.{row_site_cmp}
use Rattle.merge_model.specs.Tables.Keys.{same_key, row_at, put_row, at_row_site, drop_row_site, put_row_site}
use Rattle.merge_model.specs.Publisher.Entries.{with_move, with_rows}
use Rattle.merge_model.specs.History.{Line, History}
use Rattle.merge_model.specs.Judge.ByHistory.{is_line_for, is_change_of}
use Rattle.merge_model.specs.History.Noting.{with_line, with_lines, changed_line, moved_line, gone_line}
use Rattle.merge_model.proofs.Publishers.Sorted.{key_total, row_site_total}
use Rattle.merge_laws.specs.Laws.LastLines.{move_told, move_in, change_in, MappingsFit, RowsFit, subscribes, MovedForSubscribers}
use Rattle.merge_model.proofs.Lists.KeyLookUps.{key-test}
use Rattle.merge_model.proofs.Lists.PlaceLookUps.{is_place, place-is, has_place, drop-head, at-dropped}

abbrev pub added : List Line → Line → List Line
added lines line = line ∷ lines

pub lines-with : (more : List Line) (h : History) → (with_lines more h).lines ≡ fold added h.lines more
lines-with [] h = refl
lines-with (line ∷ more) h = lines-with more (with_line h line)

-- Lines that a test passes over leave what it finds.

past-head : (b : Bool) (line : Line) (found : Option Line) → b ≡ false → cond b (Some line) found ≡ found
past-head true line found is = absurd cc
past-head false line found is = refl

pub find-past : {X : Type 0} (test : Line → Bool) (f : X → Line) → ((x : X) → test (f x) ≡ false) → (xs : List X) (lines : List Line) → find test (fold added lines (map f xs)) ≡ find test lines
find-past test f past [] lines = refl
find-past test f past (x ∷ xs) lines = find-past test f past xs (f x ∷ lines) ∙ past-head (test (f x)) (f x) (find test lines) (past x)

move-no_change : (key : Key) (place : RowSite) (kind : MoveKind) (generation : ℕ) → is_change_of key (moved_line ((place, kind), generation)) ≡ false
move-no_change key place Entered generation = and-false (same_key key place.key)
move-no_change key place Left generation = and-false (same_key key place.key)

-- moves and what is told no more are no changes
rows-past : {X : Type 0} (f : X → Line) → ((key : Key) (x : X) → is_change_of key (f x) ≡ false) → (xs : List X) (rows : List (Key × PublisherRow)) (lines : List Line) → RowsFit rows lines → RowsFit rows (fold added lines (map f xs))
rows-past f past xs rows lines fits key held = fits key held ∙ sym (ap (λ (found : Option Line). option_map (λ (line : Line). line.generation) found) (find-past (is_change_of key) f (past key) xs lines))

pub rows-past_moves : (moves : List ((RowSite × MoveKind) × ℕ)) (rows : List (Key × PublisherRow)) (lines : List Line) → RowsFit rows lines → RowsFit rows (fold added lines (map moved_line moves))
rows-past_moves moves rows lines fits = rows-past moved_line (λ key move. move-no_change key move.0.0 move.0.1 move.1) moves rows lines fits

pub rows-past_gone : (generation : ℕ) (places : List RowSite) (rows : List (Key × PublisherRow)) (lines : List Line) → RowsFit rows lines → RowsFit rows (fold added lines (map (gone_line generation) places))
rows-past_gone generation places rows lines fits = rows-past (gone_line generation) (λ key place. and-false (same_key key place.key)) places rows lines fits

-- changes are told for no site
pub moves-past_changes : (changes : List (Key × ℕ)) (mappings : List (RowSite × Mapping)) (lines : List Line) → MappingsFit mappings lines → MappingsFit mappings (fold added lines (map changed_line changes))
moves-past_changes changes mappings lines fits key site = fits key site ∙ sym (ap move_told (find-past (is_line_for key site) changed_line (λ change. and-false (same_key key change.0)) changes lines))

-- Changes.

change-head : (b : Bool) (row : PublisherRow) (line : Line) (found : Option PublisherRow) (last : Option Line) → row.changed ≡ line.generation
    → (is_some found ≡ true → option_map (λ (r : PublisherRow). r.changed) found ≡ option_map (λ (l : Line). l.generation) last)
    → (let row_now : Option PublisherRow = cond b (Some row) found in let line_now : Option Line = cond (b && true) (Some line) last in
    is_some row_now ≡ true → option_map (λ (r : PublisherRow). r.changed) row_now ≡ option_map (λ (l : Line). l.generation) line_now)
change-head true row line found last same fits held = ap Some same
change-head false row line found last same fits held = fits held

change-fits : (key : Key) (version : Version) (generation : ℕ) (rows : List (Key × PublisherRow)) (lines : List Line) → RowsFit rows lines
    → RowsFit (put_row rows key (record { version = version; changed = generation })) (changed_line (key, generation) ∷ lines)
change-fits key version generation rows lines fits k =
    let row : PublisherRow = record { version = version; changed = generation } in
    let put : row_at (put_row rows key row) k ≡ cond (same_key k key) (Some row) (row_at rows k) =
    lookup-insert_entry key_cmp key_total key k row rows ∙ ap (λ (b : Bool). (let found : Option PublisherRow = cond b (Some row) (row_at rows k) in found)) (key-test k key) in
    subst (λ (found : Option PublisherRow). is_some found ≡ true → option_map (λ (r : PublisherRow). r.changed) found ≡ change_in (changed_line (key, generation) ∷ lines) k) (sym put)
    (change-head (same_key k key) row (changed_line (key, generation)) (row_at rows k) (find (is_change_of k) lines) refl (fits k))

-- the rows that a step changed, each with a generation as far as there are any
pub changes-fit : (versions : List (Key × Version)) (generations : List ℕ) (rows : List (Key × PublisherRow)) (lines : List Line) → RowsFit rows lines
    → (let changes : List (Key × ℕ) = zip (map (λ (row : Key × Version). row.0) versions) generations in
    RowsFit (with_rows rows (zip versions (map (λ (entry : Key × ℕ). entry.1) changes))) (fold added lines (map changed_line changes)))
changes-fit [] generations rows lines fits = fits
changes-fit (row ∷ versions) [] rows lines fits = fits
changes-fit (row ∷ versions) (generation ∷ generations) rows lines fits =
    changes-fit versions generations (put_row rows row.0 (record { version = row.1; changed = generation })) (changed_line (row.0, generation) ∷ lines) (change-fits row.0 row.1 generation rows lines fits)

-- Moves.

move-head : (b : Bool) (line : Line) (found : Option Line) → move_told (let last : Option Line = cond b (Some line) found in last) ≡ cond b (move_told (Some line)) (move_told found)
move-head true line found = refl
move-head false line found = refl

move-last : (place : RowSite) (kind : MoveKind) (generation : ℕ) (lines : List Line) (key : Key) (site : ℕ)
    → move_in (moved_line ((place, kind), generation) ∷ lines) key site ≡ cond (is_place key site place) (Some (record { kind = kind; generation = generation })) (move_in lines key site)
move-last place Entered generation lines key site = move-head (is_place key site place) (moved_line ((place, Entered), generation)) (find (is_line_for key site) lines)
move-last place Left generation lines key site = move-head (is_place key site place) (moved_line ((place, Left), generation)) (find (is_line_for key site) lines)

at-moved : (place : RowSite) (move : Mapping) (mappings : List (RowSite × Mapping)) (key : Key) (site : ℕ)
    → at_row_site (put_row_site mappings place move) (record { key = key; site = site }) ≡ cond (is_place key site place) (Some move) (at_row_site mappings (record { key = key; site = site }))
at-moved place move mappings key site =
    lookup-insert_entry row_site_cmp row_site_total place (record { key = key; site = site }) move mappings
    ∙ ap (λ (b : Bool). (let found : Option Mapping = cond b (Some move) (at_row_site mappings (record { key = key; site = site })) in found)) (place-is key site place)

move-fits : (place : RowSite) (kind : MoveKind) (generation : ℕ) (mappings : List (RowSite × Mapping)) (lines : List Line) → MappingsFit mappings lines
    → MappingsFit (with_move mappings ((place, kind), generation)) (moved_line ((place, kind), generation) ∷ lines)
move-fits place kind generation mappings lines fits key site =
    let move : Mapping = record { kind = kind; generation = generation } in
    at-moved place move mappings key site
    ∙ ap (λ (found : Option Mapping). (let now : Option Mapping = cond (is_place key site place) (Some move) found in now)) (fits key site)
    ∙ sym (move-last place kind generation lines key site)

pub moves-fit : (moves : List ((RowSite × MoveKind) × ℕ)) (mappings : List (RowSite × Mapping)) (lines : List Line) → MappingsFit mappings lines → MappingsFit (fold with_move mappings moves) (fold added lines (map moved_line moves))
moves-fit [] mappings lines fits = fits
moves-fit (move ∷ moves) mappings lines fits = moves-fit moves (with_move mappings move) (moved_line move ∷ lines) (move-fits move.0.0 move.0.1 move.1 mappings lines fits)

pub moves-ascend : (moves : List ((RowSite × MoveKind) × ℕ)) (mappings : List (RowSite × Mapping)) → IsStrictlySortedBy row_site_cmp (keys_of mappings) → IsStrictlySortedBy row_site_cmp (keys_of (fold with_move mappings moves))
moves-ascend [] mappings sorted = sorted
moves-ascend (move ∷ moves) mappings sorted = let new : Mapping = record { kind = move.0.1; generation = move.1 } in
    moves-ascend moves (with_move mappings move) (sorted_put row_site_cmp row_site_total move.0.0 new mappings sorted)

-- for whom they are told
site-head : (publication : Publication) (place : RowSite) (move : Mapping) (found : Option Mapping) (key : Key) (site : ℕ) (b : Bool) → is_place key site place ≡ b → subscribes publication place.site ≡ true
    → (is_some found ≡ true → subscribes publication site ≡ true) → is_some (let now : Option Mapping = cond b (Some move) found in now) ≡ true → subscribes publication site ≡ true
site-head publication place move found key site true is there before held = let same : place.site ≡ site = grind (arith, nat_tests, is) in subst (λ (n : ℕ). subscribes publication n ≡ true) same there
site-head publication place move found key site false is there before held = before held

pub moves-sites : (publication : Publication) (moves : List ((RowSite × MoveKind) × ℕ)) (mappings : List (RowSite × Mapping)) → AllByRecursion (λ (move : (RowSite × MoveKind) × ℕ). subscribes publication move.0.0.site ≡ true) moves
    → MovedForSubscribers publication mappings → MovedForSubscribers publication (fold with_move mappings moves)
moves-sites publication [] mappings all before = before
moves-sites publication (move ∷ moves) mappings all before =
    let new : Mapping = record { kind = move.0.1; generation = move.1 } in
    moves-sites publication moves (with_move mappings move) all.1
    (λ key site. subst (λ (found : Option Mapping). is_some found ≡ true → subscribes publication site ≡ true) (sym (at-moved move.0.0 new mappings key site))
    (site-head publication move.0.0 new (at_row_site mappings (record { key = key; site = site })) key site (is_place key site move.0.0) refl all.0 (before key site)))

-- What is told no more.

pub gone-last : (generation : ℕ) (places : List RowSite) (lines : List Line) (key : Key) (site : ℕ)
    → move_in (fold added lines (map (gone_line generation) places)) key site ≡ cond (has_place places key site) None (move_in lines key site)
gone-last generation [] lines key site = refl
gone-last generation (place ∷ places) lines key site =
    gone-last generation places (gone_line generation place ∷ lines) key site
    ∙ ap (λ (found : Option Mapping). (let now : Option Mapping = cond (has_place places key site) None found in now)) (move-head (is_place key site place) (gone_line generation place) (find (is_line_for key site) lines))
    ∙ drop-head (is_place key site place) (has_place places key site) (move_in lines key site)

pub drops-fit : (generation : ℕ) (places : List RowSite) (mappings : List (RowSite × Mapping)) (lines : List Line) → IsStrictlySortedBy row_site_cmp (keys_of mappings) → MappingsFit mappings lines
    → MappingsFit (fold drop_row_site mappings places) (fold added lines (map (gone_line generation) places))
drops-fit generation places mappings lines sorted fits key site =
    at-dropped places mappings key site sorted
    ∙ ap (λ (found : Option Mapping). (let now : Option Mapping = cond (has_place places key site) None found in now)) (fits key site)
    ∙ sym (gone-last generation places lines key site)

left-some : (b : Bool) (found : Option Mapping) → is_some (let now : Option Mapping = cond b None found in now) ≡ true → is_some found ≡ true
left-some true found held = absurd cc
left-some false found held = held

pub drops-sites : (publication : Publication) (places : List RowSite) (mappings : List (RowSite × Mapping)) → IsStrictlySortedBy row_site_cmp (keys_of mappings)
    → MovedForSubscribers publication mappings → MovedForSubscribers publication (fold drop_row_site mappings places)
drops-sites publication places mappings sorted before key site held =
    before key site (left-some (has_place places key site) (at_row_site mappings (record { key = key; site = site })) (ap (λ (found : Option Mapping). is_some found) (sym (at-dropped places mappings key site sorted)) ∙ held))
