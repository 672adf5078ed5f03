-- A local change, put together from its parts.
use Rattle.std.specs.Prelude.{◌≡◌, ◌⊎◌, ◌==◌, ◌+◌, ◌≤◌, ℕ, ℤ, List, [], ◌∷◌, ◌++◌, Bool, true, false, Option, Some, None, Result, Ok, Err, refl, cond, is_some, length, max, nat_le, map, nat_lt, option_map, unwrap_or, IsErrAnd}
use Rattle.std.specs.BTreeMap.{is_at}
use Rattle.std.specs.List.{AllByRecursion}
use Rattle.std.specs.Option.{option_to_list}
use Rattle.std.specs.Ordering.{nat_cmp}
use Rattle.std.proofs.Common.{arith, sym, ap, ◌∙◌, subst, inl, inr}
use Rattle.std.proofs.lemmas.Bool.Decides.{nat_tests}
use Rattle.std.proofs.lemmas.List.{append-nil}
use Rattle.merge_types.specs.RowKeys.{key_cmp}
use Rattle.merge_types.specs.declared.changes.Change.{Change}
use Rattle.merge_types.specs.declared.changes.Change.TheVariants.{Insert, Update, Delete}
use Rattle.merge_types.specs.declared.identifiers.Dot.{Dot}
use Rattle.merge_types.specs.declared.identifiers.Moment.{Moment}
use Rattle.merge_types.specs.declared.identifiers.RowId.{RowId}
use Rattle.merge_types.specs.declared.row_key.RowKey.{RowKey as Key}
use Rattle.merge_types.specs.declared.values.Value.{Value}
use Rattle.merge_table.specs.Edits.{rows_after_all}
use Rattle.merge_ident.specs.Answers.{grants_with_all}
use Rattle.merge_lineage.specs.Lineage.{knows, number_of, with_dot}
use Rattle.merge_units.specs.Changes.{ColumnsAscend, changed, new_row, removed}
use Rattle.merge_units.specs.declared.site_row.PublisherRow.{PublisherRow}
use Rattle.merge_units.specs.declared.version.Version.{Version}
use Rattle.merge_conflict.specs.declared.row.ConflictRow.{ConflictRow}
use Rattle.merge_schema.specs.declared.publication.Publication.{Publication}
use Rattle.merge_batch.specs.Articles.{fits_article, has_article}
use Rattle.merge_batch.specs.LocalChanges.{article_of, counter_end, key_of, new_values, settings_of, tracking_at, version_after}
use Rattle.merge_batch.specs.declared.refusal.Refusal.{Refusal}
use Rattle.merge_batch.specs.declared.refusal.Refusal.TheVariants.{NoMemory}
use Rattle.merge_change.specs.Allowed.{CanBeAsked, FitsHeld, IsNewAt}
use Rattle.merge_model.specs.Judge.ByNumbers.{by_numbers}
use Rattle.merge_model.specs.Publisher.Entries.{Changing, changed_by}
use Rattle.merge_model.specs.Tables.Keys.{at_number, row_at}
use Rattle.merge_model.specs.Publisher.{at_moment, counters, last_closed, later}
use Rattle.merge_model.specs.Publisher.PublisherLocal.{Drawn, changing_locally, draw_for_change, local, local_refusal, made_locally, next_dot, with_draw}
use Rattle.merge_model.specs.Tables.{PublisherTables}
use Rattle.merge_model.proofs.Lists.Finding.{some_same}
use Rattle.merge_model.proofs.Lists.KeyLookUps.{keys-exact}
use Rattle.merge_pub.specs.After.{after}
use Rattle.merge_steps.specs.Drawing.{Draws, Gives, KeepsHeld, drawn_by}
use Rattle.merge_steps.specs.Keeps.{FitsHere, KeepsRules, RowFits}
use Rattle.merge_pub.specs.Local.{Refuses, changed_version, held_version, rows_refusal, versions_after}
use Rattle.merge_pub.specs.Held.{Held, IsSound, publication_of, tables_of}
use Rattle.merge_pub.specs.Making.{IsMade, with_besides}
use Rattle.merge_steps.specs.Step.{changing}
use Rattle.merge_steps.specs.declared.changes.Besides.{Besides}
use Rattle.merge_steps.specs.declared.changes.Changes.{Changes}
use Rattle.merge_steps.specs.declared.drawing.Draw.{Draw}
use Rattle.merge_pub.proofs.Drafted.{same-rules}

-- what a local change does besides giving its row a version
abbrev pub besides_of : Moment → PublisherTables → Draw → Besides
besides_of now p d = record {
  changes = p.changes + 1;
  conflict_count = p.conflict_count;
  latest = later now p.latest;
  sites = [];
  conflicts = record { rows = [] };
  grants = d.grants;
  held = d.held;
}

abbrev with_conflicts : PublisherTables → List ConflictRow → PublisherTables
with_conflicts p conflicts = record p { conflicts = conflicts }

passes : (publication : Publication) (change : Change) (p : PublisherTables) → counter_end (counters p) ≡ None → rows_refusal publication (next_dot p) change p.rows ≡ None → local_refusal publication change p ≡ None
passes publication change p low allowed = rw (low, allowed) refl

refused-rows : (publication : Publication) (change : Change) (p : PublisherTables) (refusal : Refusal) → counter_end (counters p) ≡ None → rows_refusal publication (next_dot p) change p.rows ≡ Some refusal → local_refusal publication change p ≡ Some refusal
refused-rows publication change p refusal low is = rw (low, is) refl

local-made : (publication : Publication) (now : Moment) (change : Change) (p : PublisherTables) (d : Draw) (versions : List (Key × Version)) (c : Changes) → local_refusal publication change p ≡ None
    → Draws publication change p.grants p.held (Ok (drawn_by p.grants p.held d)) → versions ≡ versions_after publication (next_dot p) d.value change p.rows
    → IsMade publication (changing versions [] 0) p (besides_of now p d) c
    → local publication (by_numbers p) now change p ≡ Ok (after c p, (key_of (next_dot p) change).row)
unfolding IsMade Draws
local-made publication now change p d versions c allowed draws are made =
    let q : PublisherTables = with_draw (drawn_by p.grants p.held d) (at_moment now p) in
    let done : changed_by publication (by_numbers p) (changing_locally publication change d.value (at_moment now p)) q ≡ after c p =
    ap (λ (conflicts : List ConflictRow). changed_by publication (by_numbers p) (changing_locally publication change d.value (at_moment now p)) (with_conflicts q conflicts)) (sym (append-nil p.conflicts))
    ∙ ap (λ (vs : List (Key × Version)). changed_by publication (by_numbers p) (changing vs [] 0) (with_conflicts q (p.conflicts ++ []))) (sym are)
    ∙ made (by_numbers p) (λ key site. refl) in
    rw (local, allowed, draws p) (ap (λ (tables : PublisherTables). (let done : Result (PublisherTables × RowId) Refusal = Ok (tables, (key_of (next_dot p) change).row) in done)) done)

change-refused : (publication : Publication) (now : Moment) (change : Change) (p : PublisherTables) (refusal : Refusal) → local_refusal publication change p ≡ Some refusal → local publication (by_numbers p) now change p ≡ Err refusal
change-refused publication now change p refusal is = rw (local, is) refl

draw-refused : (publication : Publication) (now : Moment) (change : Change) (p : PublisherTables) (refusal : Refusal) → local_refusal publication change p ≡ None
    → Draws publication change p.grants p.held (Err refusal) → local publication (by_numbers p) now change p ≡ Err refusal
unfolding Draws
draw-refused publication now change p refusal allowed draws = rw (local, allowed, draws p) refl

counter-refused : (publication : Publication) (change : Change) (p : PublisherTables) (refusal : Refusal) → counter_end (counters p) ≡ Some refusal → local_refusal publication change p ≡ Some refusal
counter-refused publication change p refusal end = rw end refl

local-passes : (publication : Publication) (now : Moment) (change : Change) (p : PublisherTables) (d : Drawn) → local_refusal publication change p ≡ None → Draws publication change p.grants p.held (Ok d)
    → local publication (by_numbers p) now change p ≡ Ok (made_locally publication (by_numbers p) change d (at_moment now p))
unfolding Draws
local-passes publication now change p d allowed draws = rw (local, allowed, draws p) refl

-- A step has one answer.

never-refused : {A : Type 0} (r : Result A Refusal) (done : A) (refusal : Refusal) → r ≡ Ok done → r ≡ Err refusal → ⊥
never-refused r done refusal made refused = cc

same-refusal : {A : Type 0} (r : Result A Refusal) (found refusal : Refusal) → r ≡ Err found → r ≡ Err refusal → found ≡ refusal
same-refusal r found refusal one other = cc

-- what a call is refused for, handed on
pub err-by : {A : Type 0} (r : Result A Refusal) (found refusal : Refusal) → IsErrAnd r (λ e. e ≡ found) → found ≡ refusal → r ≡ Err refusal
err-by (Ok done) found refusal is same = absurd is
err-by (Err e) found refusal is same = (let first : e ≡ found = is in cc)

-- The row that is held.

found-step : (publication : Publication) (changes : ℕ) (key : Key) (row : Key × PublisherRow) (rest : Option PublisherRow) (found : PublisherRow) (b : Bool) → is_at (key_cmp key) row.0 ≡ b → RowFits publication changes row
    → (rest ≡ Some found → FitsHere publication changes (key, found.version)) → cond b (Some row.1) rest ≡ Some found → FitsHere publication changes (key, found.version)
found-step publication changes key row rest found true is fits later e =
    subst (λ (r : PublisherRow). FitsHere publication changes (key, r.version)) (some_same row.1 found e) (subst (λ (k : Key). FitsHere publication changes (k, row.1.version)) (sym (keys-exact key row.0 is)) fits)
found-step publication changes key row rest found false is fits later e = later e

found-fits : (publication : Publication) (changes : ℕ) (rows : List (Key × PublisherRow)) → AllByRecursion (RowFits publication changes) rows → (key : Key) (found : PublisherRow) → row_at rows key ≡ Some found → FitsHere publication changes (key, found.version)
found-fits publication changes [] all key found e = absurd cc
found-fits publication changes (row ∷ rows) all key found e = found-step publication changes key row (row_at rows key) found (is_at (key_cmp key) row.0) refl all.0 (found-fits publication changes rows all.1 key found) e

article-same : (dot : Dot) (change : Change) → (key_of dot change).article ≡ article_of change
article-same dot (Insert article values) = refl
article-same dot (Update article row values) = refl
article-same dot (Delete article row) = refl

held-by : (publication : Publication) (changes : ℕ) (key : Key) (article : ℕ) → key.article ≡ article → (found : Option PublisherRow) → ((row : PublisherRow) → found ≡ Some row → FitsHere publication changes (key, row.version))
    → FitsHeld publication article (option_map (λ (row : PublisherRow). row.version) found)
held-by publication changes key article same None fits = tt
held-by publication changes key article same (Some row) fits = rw (← same) (fits row refl).fits

held-fits : (publication : Publication) (changes : ℕ) (rows : List (Key × PublisherRow)) → AllByRecursion (RowFits publication changes) rows → (dot : Dot) (change : Change) → FitsHeld publication (article_of change) (held_version rows (key_of dot change))
held-fits publication changes rows all dot change =
    held-by publication changes (key_of dot change) (article_of change) (article-same dot change) (row_at rows (key_of dot change)) (λ row there. found-fits publication changes rows all (key_of dot change) row there)

new-by : (publication : Publication) (changes : ℕ) (key : Key) (dot : Dot) → dot.site.0 ≡ 0 → dot.number ≡ changes + 1 → (found : Option PublisherRow) → ((row : PublisherRow) → found ≡ Some row → FitsHere publication changes (key, row.version))
    → IsNewAt dot (option_map (λ (row : PublisherRow). row.version) found)
new-by publication changes key dot site number None fits = tt
new-by publication changes key dot site number (Some row) fits =
    let known = (fits row refl).known in
    ap (λ (s : ℕ). nat_le dot.number (number_of row.version.lineage s)) site ∙ (let above : nat_le dot.number (number_of row.version.lineage 0) ≡ false = grind (arith, nat_tests, number, known) in above)

is-new : (publication : Publication) (changes : ℕ) (rows : List (Key × PublisherRow)) → AllByRecursion (RowFits publication changes) rows → (dot : Dot) → dot.site.0 ≡ 0 → dot.number ≡ changes + 1 → (change : Change) → IsNewAt dot (held_version rows (key_of dot change))
is-new publication changes rows all dot site number change =
    new-by publication changes (key_of dot change) dot site number (row_at rows (key_of dot change)) (λ row there. found-fits publication changes rows all (key_of dot change) row there)

-- What the version knows afterwards.

with-step : (dot first : Dot) (rest more : List Dot) (b c : Bool) → (dot.site.0 == first.site.0) ≡ c → number_of more 0 ≤ max dot.number (number_of rest 0)
    → number_of (let new : List Dot = cond b (dot ∷ first ∷ rest) (cond c (record { site = first.site; number = max first.number dot.number } ∷ rest) (first ∷ more)) in new) 0 ≤ max dot.number (number_of (first ∷ rest) 0)
with-step dot first rest more true c is fewer = grind (arith, nat_tests, is, fewer)
with-step dot first rest more false true is fewer = grind (arith, nat_tests, is, fewer)
with-step dot first rest more false false is fewer = grind (arith, nat_tests, is, fewer)

known-with : (dot : Dot) (lineage : List Dot) → number_of (with_dot dot lineage) 0 ≤ max dot.number (number_of lineage 0)
known-with dot [] = grind (arith, nat_tests)
known-with dot (first ∷ rest) = with-step dot first rest (with_dot dot rest) (nat_lt dot.site.0 first.site.0) (dot.site.0 == first.site.0) refl (known-with dot rest)

still-known : (dot : Dot) (lineage : List Dot) (changes : ℕ) → dot.number ≡ changes + 1 → number_of lineage 0 ≤ changes → number_of (with_dot dot lineage) 0 ≤ changes + 1
still-known dot lineage changes number known = let bound = known-with dot lineage in omega (arith, bound, number, known)

fits-moved : (publication : Publication) (key : Key) (article changes : ℕ) (version : Version) → key.article ≡ article → fits_article publication article version.body ≡ true → number_of version.lineage 0 ≤ changes → FitsHere publication changes (key, version)
fits-moved publication key article changes version same fits known = record { fits = rw same fits; known = known }

updated-fits : (publication : Publication) (key : Key) (article changes : ℕ) (dot : Dot) (after : Version → Version) → key.article ≡ article → dot.number ≡ changes + 1 → ((version : Version) → (after version).lineage ≡ with_dot dot version.lineage)
    → (found : Option PublisherRow) → ((row : PublisherRow) → found ≡ Some row → FitsHere publication changes (key, row.version))
    → FitsHeld publication article (option_map after (option_map (λ (row : PublisherRow). row.version) found))
    → AllByRecursion (FitsHere publication (changes + 1)) (map (λ (version : Version). (key, version)) (option_to_list (option_map after (option_map (λ (row : PublisherRow). row.version) found))))
updated-fits publication key article changes dot after same number lineage None held fits = tt
updated-fits publication key article changes dot after same number lineage (Some row) held fits = (
  fits-moved publication key article (changes + 1) (after row.version) same fits (rw (lineage row.version) (still-known dot row.version.lineage changes number (held row refl).known)),
  tt,
)

versions-fit : (publication : Publication) (changes : ℕ) (rows : List (Key × PublisherRow)) → AllByRecursion (RowFits publication changes) rows → (dot : Dot) → dot.number ≡ changes + 1 → (identity : Value) (change : Change)
    → FitsHeld publication (article_of change) (version_after publication dot identity change (held_version rows (key_of dot change))) → AllByRecursion (FitsHere publication (changes + 1)) (versions_after publication dot identity change rows)
versions-fit publication changes rows all dot number identity (Insert article values) fits = (
  fits-moved publication (key_of dot (Insert article values)) article (changes + 1) (new_row dot (new_values publication article identity values) (tracking_at publication article)) refl fits (still-known dot [] changes number (omega arith)),
  tt,
)
versions-fit publication changes rows all dot number identity (Update article row values) fits =
    updated-fits publication (key_of dot (Update article row values)) article changes dot (λ (version : Version). changed version dot values (tracking_at publication article)) refl number (λ version. refl) (row_at rows (key_of dot (Update article row values)))
    (λ found there. found-fits publication changes rows all (key_of dot (Update article row values)) found there) fits
versions-fit publication changes rows all dot number identity (Delete article row) fits =
    updated-fits publication (key_of dot (Delete article row)) article changes dot (λ (version : Version). removed version dot) refl number (λ version. refl) (row_at rows (key_of dot (Delete article row)))
    (λ found there. found-fits publication changes rows all (key_of dot (Delete article row)) found there) fits

-- The rules are kept.

weaker-rows : (publication : Publication) (changes more : ℕ) → changes ≤ more → (rows : List (Key × PublisherRow)) → AllByRecursion (RowFits publication changes) rows → AllByRecursion (RowFits publication more) rows
weaker-rows publication changes more rises [] all = tt
weaker-rows publication changes more rises (row ∷ rows) all = (record { fits = all.0.fits; known = (let known = all.0.known in omega (arith, known, rises)) }, weaker-rows publication changes more rises rows all.1)

local-keeps : (publication : Publication) (now : Moment) (p : PublisherTables) (d : Draw) → KeepsRules publication p → KeepsHeld p.grants p.held d → KeepsRules publication (with_besides (besides_of now p d) p)
local-keeps publication now p d keeps kept = record {
  rows = weaker-rows publication p.changes (p.changes + 1) (omega arith) p.rows keeps.rows;
  rising = rw (append-nil p.conflicts) keeps.rising;
  conflicts = rw (append-nil p.conflicts) keeps.conflicts;
  held = λ article. kept.same article ∙ keeps.held article;
  heard = kept.heard;
}

-- Over all that a publisher holds, as it was when the change came.

-- the dot of the next change
abbrev pub dot_after : ℕ → Dot
dot_after changes = record { site = record { 0 = 0 }; number = changes + 1 }

-- a change can be asked for of what is held
pub asked-here : (h now : Held) → h ≡ now → IsSound h → (publication : Publication) (dot : Dot) (change : Change) → publication ≡ publication_of h → has_article (publication_of now) (article_of change) ≡ true → ColumnsAscend (settings_of change)
    → CanBeAsked publication change (changed_version dot change h.rows.rows)
asked-here h now is sound publication dot change same place ascend = rw same (record {
  valid = sound.valid;
  place = subst (λ (x : Held). has_article (publication_of x) (article_of change) ≡ true) (sym is) place;
  ascend = ascend;
  fits = held-fits (publication_of h) h.changes h.rows.rows sound.keeps.rows dot change;
})

-- the change's number is new to its row
pub new-here : (h : Held) → IsSound h → (dot : Dot) (change : Change) → dot ≡ next_dot (tables_of h) → IsNewAt dot (changed_version dot change h.rows.rows)
new-here h sound dot change numbered =
    is-new (publication_of h) h.changes h.rows.rows sound.keeps.rows dot (ap (λ (d : Dot). d.site.0) numbered) (ap (λ (d : Dot). d.number) numbered) change

refused-draw : (publication : Publication) (moment : Moment) (change : Change) (p : PublisherTables) (refusal : Refusal) → local_refusal publication change p ≡ None → Gives (Draws publication change p.grants p.held) p.grants p.held (Err refusal)
    → (refusal ≡ NoMemory) ⊎ (local publication (by_numbers p) moment change p ≡ Err refusal)
refused-draw publication moment change p refusal allowed (inl wants) = inl wants.1
refused-draw publication moment change p refusal allowed (inr draws) = inr (draw-refused publication moment change p refusal allowed draws)

refused-by : (publication : Publication) (moment : Moment) (change : Change) (p : PublisherTables) (refusal : Refusal) → counter_end (counters p) ≡ None → Refuses publication (next_dot p) change p.rows p.grants p.held refusal
    → (refusal ≡ NoMemory) ⊎ (local publication (by_numbers p) moment change p ≡ Err refusal)
refused-by publication moment change p refusal low (inl rows) = inr (change-refused publication moment change p refusal (refused-rows publication change p refusal low rows))
refused-by publication moment change p refusal low (inr behind) = refused-draw publication moment change p refusal (passes publication change p low behind.0) behind.1

here-refuses : (h : Held) (publication : Publication) (dot : Dot) (change : Change) (found : Refusal) → Refuses publication dot change h.rows.rows h.grants.grants h.held.rows found → publication ≡ publication_of h → dot ≡ next_dot (tables_of h)
    → Refuses (publication_of h) (next_dot (tables_of h)) change h.rows.rows h.grants.grants h.held.rows found
here-refuses h publication dot change found refuses here numbered =
    subst (λ (d : Dot). Refuses (publication_of h) d change h.rows.rows h.grants.grants h.held.rows found) numbered
    (subst (λ (x : Publication). Refuses x dot change h.rows.rows h.grants.grants h.held.rows found) here refuses)

pub refused-here : (h now : Held) → h ≡ now → (publication : Publication) (moment : Moment) (dot : Dot) (change : Change) (found refusal : Refusal) → Refuses publication dot change h.rows.rows h.grants.grants h.held.rows found → found ≡ refusal
    → publication ≡ publication_of h → dot ≡ next_dot (tables_of h) → (last : ℕ) → last ≡ last_closed (tables_of h) → counter_end (h.changes ∷ last ∷ h.conflict_count ∷ []) ≡ None
    → (refusal ≡ NoMemory) ⊎ (local (publication_of now) (by_numbers (tables_of now)) moment change (tables_of now) ≡ Err refusal)
refused-here h now is publication moment dot change found refusal refuses same here numbered last closed low =
    subst (λ (x : Held). (refusal ≡ NoMemory) ⊎ (local (publication_of x) (by_numbers (tables_of x)) moment change (tables_of x) ≡ Err refusal)) is
    (refused-by (publication_of h) moment change (tables_of h) refusal (rw closed at low)
    (subst (λ (r : Refusal). Refuses (publication_of h) (next_dot (tables_of h)) change h.rows.rows h.grants.grants h.held.rows r) same (here-refuses h publication dot change found refuses here numbered)))

-- What the definition refuses is refused for the same.

refuses-draw : (publication : Publication) (moment : Moment) (change : Change) (p : PublisherTables) (found refusal : Refusal) → local_refusal publication change p ≡ None → Gives (Draws publication change p.grants p.held) p.grants p.held (Err found)
    → local publication (by_numbers p) moment change p ≡ Err refusal → found ≡ refusal
refuses-draw publication moment change p found refusal allowed (inl wants) defined =
    absurd (never-refused (local publication (by_numbers p) moment change p) (made_locally publication (by_numbers p) change wants.0 (at_moment moment p)) refusal (local-passes publication moment change p wants.0 allowed wants.2) defined)
refuses-draw publication moment change p found refusal allowed (inr draws) defined =
    same-refusal (local publication (by_numbers p) moment change p) found refusal (draw-refused publication moment change p found allowed draws) defined

refuses-by : (publication : Publication) (moment : Moment) (change : Change) (p : PublisherTables) (found refusal : Refusal) → counter_end (counters p) ≡ None → Refuses publication (next_dot p) change p.rows p.grants p.held found
    → local publication (by_numbers p) moment change p ≡ Err refusal → found ≡ refusal
refuses-by publication moment change p found refusal low (inl rows) defined =
    same-refusal (local publication (by_numbers p) moment change p) found refusal (change-refused publication moment change p found (refused-rows publication change p found low rows)) defined
refuses-by publication moment change p found refusal low (inr behind) defined = refuses-draw publication moment change p found refusal (passes publication change p low behind.0) behind.1 defined

-- the definition refuses, said of what was held when the change came
abbrev IsLocalRefused : Moment → Change → Refusal → Held → Type 0
IsLocalRefused moment change refusal h = local (publication_of h) (by_numbers (tables_of h)) moment change (tables_of h) ≡ Err refusal

pub counter-here : (h now : Held) → h ≡ now → (moment : Moment) (change : Change) (found : Refusal) (last : ℕ) → last ≡ last_closed (tables_of h) → counter_end (h.changes ∷ last ∷ h.conflict_count ∷ []) ≡ Some found
    → (refusal : Refusal) → local (publication_of now) (by_numbers (tables_of now)) moment change (tables_of now) ≡ Err refusal → found ≡ refusal
counter-here h now is moment change found last closed end refusal defined =
    same-refusal (local (publication_of h) (by_numbers (tables_of h)) moment change (tables_of h)) found refusal
    (change-refused (publication_of h) moment change (tables_of h) found (counter-refused (publication_of h) change (tables_of h) found (rw closed at end)))
    (subst (IsLocalRefused moment change refusal) (sym is) defined)

pub refuses-here : (h now : Held) → h ≡ now → (publication : Publication) (moment : Moment) (dot : Dot) (change : Change) (found : Refusal) → Refuses publication dot change h.rows.rows h.grants.grants h.held.rows found
    → publication ≡ publication_of h → dot ≡ next_dot (tables_of h) → (last : ℕ) → last ≡ last_closed (tables_of h) → counter_end (h.changes ∷ last ∷ h.conflict_count ∷ []) ≡ None
    → (refusal : Refusal) → local (publication_of now) (by_numbers (tables_of now)) moment change (tables_of now) ≡ Err refusal → found ≡ refusal
refuses-here h now is publication moment dot change found refuses here numbered last closed low refusal defined =
    refuses-by (publication_of h) moment change (tables_of h) found refusal (rw closed at low) (here-refuses h publication dot change found refuses here numbered)
    (subst (IsLocalRefused moment change refusal) (sym is) defined)

-- where the change is let pass and its value is drawn, the definition refuses nothing
pub passed-here : (h now : Held) → h ≡ now → (publication : Publication) (moment : Moment) (dot : Dot) (change : Change) (d : Drawn) → rows_refusal publication dot change h.rows.rows ≡ None → Draws publication change h.grants.grants h.held.rows (Ok d)
    → publication ≡ publication_of h → dot ≡ next_dot (tables_of h) → (last : ℕ) → last ≡ last_closed (tables_of h) → counter_end (h.changes ∷ last ∷ h.conflict_count ∷ []) ≡ None
    → (refusal : Refusal) → local (publication_of now) (by_numbers (tables_of now)) moment change (tables_of now) ≡ Err refusal → ⊥
passed-here h now is publication moment dot change d allowed draws here numbered last closed low refusal defined =
    never-refused (local (publication_of h) (by_numbers (tables_of h)) moment change (tables_of h)) (made_locally (publication_of h) (by_numbers (tables_of h)) change d (at_moment moment (tables_of h))) refusal
    (local-passes (publication_of h) moment change (tables_of h) d (passes (publication_of h) change (tables_of h) (rw closed at low) (rw (here, numbered) at allowed)) (rw here at draws))
    (subst (IsLocalRefused moment change refusal) (sym is) defined)

-- the versions fit what is held
pub fit-here : (h : Held) → IsSound h → (publication other : Publication) (dot : Dot) (change : Change) (identity : Value) (versions : List (Key × Version)) (changes : ℕ)
    → FitsHeld publication (article_of change) (version_after publication dot identity change (changed_version dot change h.rows.rows)) → versions ≡ versions_after publication dot identity change h.rows.rows
    → publication ≡ publication_of h → other ≡ publication_of h → dot ≡ next_dot (tables_of h) → changes ≡ h.changes + 1 → AllByRecursion (FitsHere other changes) versions
fit-here h sound publication other dot change identity versions changes fits are here there numbered count =
    let fits' = rw here at fits in
    let are' = rw here at are in
    rw (are', there, count) (versions-fit (publication_of h) h.changes h.rows.rows sound.keeps.rows dot (ap (λ (d : Dot). d.number) numbered) identity change fits')

-- the rules are kept
pub keeps-here : (h : Held) → IsSound h → (moment : Moment) (d : Draw) → KeepsHeld h.grants.grants h.held.rows d → (publication : Publication) (q : PublisherTables) → publication ≡ publication_of h
    → q.changes ≡ h.changes + 1 → q.rows ≡ h.rows.rows → q.conflict_count ≡ h.conflict_count → q.conflicts ≡ h.conflicts.rows ++ [] → q.held ≡ rows_after_all nat_cmp h.held.rows d.held → q.grants ≡ grants_with_all h.grants.grants d.grants
    → KeepsRules publication q
keeps-here h sound moment d kept publication q here changes rows count conflicts held grants =
    rw here (same-rules (publication_of h) (with_besides (besides_of moment (tables_of h) d) (tables_of h)) q changes rows count conflicts held grants (local-keeps (publication_of h) moment (tables_of h) d sound.keeps kept))

-- the change is made
pub made-here : (h now : Held) → h ≡ now → (publication other : Publication) (moment : Moment) (dot : Dot) (change : Change) (d : Draw) (versions : List (Key × Version)) (acted : List Key) (p : PublisherTables) (besides : Besides) (c : Changes) (row : RowId)
    → Draws publication change h.grants.grants h.held.rows (Ok (drawn_by h.grants.grants h.held.rows d)) → rows_refusal publication dot change h.rows.rows ≡ None → versions ≡ versions_after publication dot d.value change h.rows.rows
    → IsMade other (changing versions acted 0) p besides c
    → publication ≡ publication_of h → other ≡ publication_of h → p ≡ tables_of h → acted ≡ [] → besides ≡ besides_of moment (tables_of h) d → dot ≡ next_dot (tables_of h) → (last : ℕ) → last ≡ last_closed (tables_of h) → counter_end (h.changes ∷ last ∷ h.conflict_count ∷ []) ≡ None → row ≡ (key_of dot change).row
    → local (publication_of now) (by_numbers (tables_of now)) moment change (tables_of now) ≡ Ok (after c (tables_of now), row)
made-here h now is publication other moment dot change d versions acted p besides c row draws allowed are made here there same none beside numbered last closed low key =
    subst (λ (x : Held). local (publication_of x) (by_numbers (tables_of x)) moment change (tables_of x) ≡ Ok (after c (tables_of x), row)) is
    (local-made (publication_of h) moment change (tables_of h) d versions c (passes (publication_of h) change (tables_of h) (rw closed at low) (rw (here, numbered) at allowed)) (rw here at draws) (rw (here, numbered) at are) (rw (there, same, beside, none) at made)
    ∙ ap (λ (r : RowId). (let done : Result (PublisherTables × RowId) Refusal = Ok (after c (tables_of h), r) in done)) (sym (rw numbered at key)))
