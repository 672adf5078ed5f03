-- A change that a site makes gives the cells of its row what it says.
use Rattle.std.specs.List.{enumerate_from}
use Rattle.std.specs.Prelude.{Bool, Err, IfOk, List, None, Ok, Option, Result, Some, [], cond, false, find, if◌then◌else◌, is_some, length, map, option_map, refl, true, unwrap_or, ℕ, ◌+◌, ◌==◌, ◌∷◌, ◌≡◌}
use Rattle.std.proofs.Common.{ap, arith, inl, inr, subst, sym, ◌∙◌}
use Rattle.std.proofs.lemmas.Bool.Decides.{nat_tests}
use Rattle.merge_types.specs.declared.changes.Change.{Change}
use Rattle.merge_types.specs.declared.changes.Change.TheVariants.{Delete, Insert, Update}
use Rattle.merge_types.specs.declared.changes.Setting.{Setting}
use Rattle.merge_types.specs.declared.changes.Tracking.{Tracking}
use Rattle.merge_types.specs.declared.changes.Tracking.TheVariants as tracking
use Rattle.merge_types.specs.declared.identifiers.Dot.{Dot}
use Rattle.merge_types.specs.declared.identifiers.Moment.{Moment}
use Rattle.merge_types.specs.declared.identifiers.RowId.{RowId}
use Rattle.merge_types.specs.declared.identifiers.SiteId.{SiteId}
use Rattle.merge_types.specs.declared.row_key.RowKey.{RowKey as Key}
use Rattle.merge_types.specs.declared.values.ColumnType.{ColumnType}
use Rattle.merge_types.specs.declared.values.Value.{Value}
use Rattle.merge_types.specs.declared.values.Value.TheVariants.{Null}
use Rattle.merge_units.specs.Changes.{cell_after, cells_after, changed, new_cell, new_cells, set_value, value_after, whole_row_after}
use Rattle.merge_units.specs.Version.{cells_of, is_live}
use Rattle.merge_units.specs.declared.site_row.SubscriberRow.{SubscriberRow}
use Rattle.merge_units.specs.declared.version.Body.{Body}
use Rattle.merge_units.specs.declared.version.Body.TheVariants.{Dead, Live}
use Rattle.merge_units.specs.declared.version.Cell.{Cell}
use Rattle.merge_units.specs.declared.version.Version.{Version}
use Rattle.merge_ident.specs.Holders.{Holder}
use Rattle.merge_schema.specs.declared.publication.Publication.{Publication}
use Rattle.merge_batch.specs.LocalChanges.{change_refusal, key_of, lives, new_value, no_row, version_after}
use Rattle.merge_batch.specs.declared.refusal.Refusal.{Refusal}
use Rattle.merge_batch.specs.declared.refusal.Refusal.TheVariants.{UnknownSite}
use Rattle.merge_model.specs.Judge.{PublisherJudge}
use Rattle.merge_model.specs.Publisher.PublisherLocal.{Drawn, changing_locally, draw_for_change, local, local_refusal, made_locally, next_dot, version_at, with_draw}
use Rattle.merge_model.specs.Publisher.{at_moment, counters}
use Rattle.merge_model.specs.Subscriber.{generations_at, is_joining, subscriber_at_moment, subscriber_counters, subscriber_drawn, subscriber_last_closed, subscriber_local, subscriber_local_refusal, subscriber_made_locally, subscriber_next_dot, subscriber_version_at, with_open, with_version_if}
use Rattle.merge_model.specs.Tables.Keys.{at_number, put_number, same_key}
use Rattle.merge_model.specs.Tables.Publications.{identity_column, tracking_at, types_at}
use Rattle.merge_model.specs.Tables.Refusals.{counter_end}
use Rattle.merge_model.specs.Tables.{PublisherTables, SubscriberTables}
use Rattle.merge_model.specs.World.Steps.{at_subscriber, make_at_publisher, make_at_subscriber, unless_refused}
use Rattle.merge_model.specs.World.{Judges, World, subscriber_at, with_publisher, with_subscriber}
use Rattle.merge_model.specs.declared.outcome.Outcome.TheVariants.{Made, Refuses}
use Rattle.merge_model.specs.declared.outcome.Outcome.{Outcome}
use Rattle.merge_model.proofs.Lists.Finding.{at_put_same, some_same}
use Rattle.merge_model.proofs.Lists.KeyLookUps.{key-itself}
use Rattle.merge_model.proofs.Runs.Refusals.{first-none}
use Rattle.merge_laws.proofs.Numbered.Telling.{no-refusal, row-there, version-there}
use Rattle.merge_laws.proofs.Told.ToldRows.{found-put, found_in, keyed, put_if}
use Rattle.merge_laws.proofs.Told.ToldTables.{changed-versions, one-put}
use Rattle.merge_laws.proofs.Unsent.UnsentKept.{version-site}
use Rattle.merge_promises.specs.Given.{AreAsNamed, AreCellsAfter, AreNewCells, AreNewValues, Gives, GivesHere, GivesThere, IsAsNamed, IsBodyAfter, IsColumnAfter, IsNewRow, IsNewValue, Names, NamesNone, PublisherGives, SubscribersGive, Updates}

-- What settings name is what they set.

first-set : (b : Bool) (setting : Setting) (rest : Option Setting) (given : Value) → b ≡ true → setting.value ≡ given
    → (let found : Option Setting = cond b (Some setting) rest in option_map (λ (edit : Setting). edit.value) found) ≡ Some given
first-set true setting rest given is same = ap (λ (value : Value). Some value) same
first-set false setting rest given is same = absurd (cc is)

later-set : (b : Bool) (setting : Setting) (rest : Option Setting) (set : Option Value) → b ≡ false → option_map (λ (edit : Setting). edit.value) rest ≡ set
    → (let found : Option Setting = cond b (Some setting) rest in option_map (λ (edit : Setting). edit.value) found) ≡ set
later-set true setting rest set is same = absurd (cc is)
later-set false setting rest set is same = same

test-fails : (a b : ℕ) (x : Bool) → (a == b) ≡ x → (a ≡ b → ⊥) → x ≡ false
test-fails a b true is differs = (let same : a ≡ b = grind (arith, nat_tests, is) in absurd (differs same))
test-fails a b false is differs = refl

named-set : (settings : List Setting) (column : ℕ) (given : Value) → Names settings column given → set_value settings column ≡ Some given
named-set [] column given names = absurd names
named-set (setting ∷ settings) column given (inl here) =
    let is : (setting.column == column) ≡ true = grind (arith, nat_tests, here.0) in
    first-set (setting.column == column) setting (find (λ (edit : Setting). edit.column == column) settings) given is here.1
named-set (setting ∷ settings) column given (inr later) =
    later-set (setting.column == column) setting (find (λ (edit : Setting). edit.column == column) settings) (Some given) (test-fails setting.column column (setting.column == column) refl later.0) (named-set settings column given later.1)

none-set : (settings : List Setting) (column : ℕ) → NamesNone settings column → set_value settings column ≡ None
none-set [] column none = refl
none-set (setting ∷ settings) column none =
    later-set (setting.column == column) setting (find (λ (edit : Setting). edit.column == column) settings) None (test-fails setting.column column (setting.column == column) refl none.0) (none-set settings column none.1)

names-by : (b : Bool) (setting : Setting) (settings : List Setting) (column : ℕ) (value : Value) → (setting.column == column) ≡ b
    → (let found : Option Setting = cond b (Some setting) (find (λ (edit : Setting). edit.column == column) settings) in option_map (λ (edit : Setting). edit.value) found) ≡ Some value
    → (set_value settings column ≡ Some value → Names settings column value) → Names (setting ∷ settings) column value
names-by true setting settings column value at is rest = (let same : setting.column ≡ column = grind (arith, nat_tests, at) in inl (same, some_same setting.value value is))
names-by false setting settings column value at is rest = inr ((λ same. absurd (grind (arith, nat_tests, at, same))), rest is)

set-names : (settings : List Setting) (column : ℕ) (value : Value) → set_value settings column ≡ Some value → Names settings column value
set-names [] column value is = absurd (cc is)
set-names (setting ∷ settings) column value is = names-by (setting.column == column) setting settings column value refl is (set-names settings column value)

as-named : (settings : List Setting) (column : ℕ) (former : Value) → IsAsNamed settings column former (unwrap_or (set_value settings column) former)
as-named settings column former = record {
  named = λ given names. ap (λ (set : Option Value). unwrap_or set former) (named-set settings column given names);
  others = λ none. ap (λ (set : Option Value). unwrap_or set former) (none-set settings column none);
}

-- Updates.

values-named : (settings : List Setting) (column : ℕ) (values : List Value) → AreAsNamed settings column values (map (value_after settings) (enumerate_from column values))
values-named settings column [] = tt
values-named settings column (value ∷ values) = (as-named settings column value, values-named settings (column + 1) values)

top-named : (dot : Dot) (settings : List Setting) (column : ℕ) (cell : Cell) (set : Option Value) → set_value settings column ≡ set → (cell.top ≡ dot → ⊥) → (new_cell dot set cell).top ≡ dot
    → (given : Value) × (Names settings column given × ((new_cell dot set cell).values ≡ given ∷ []))
top-named dot settings column cell None is fresh top = absurd (fresh top)
top-named dot settings column cell (Some value) is fresh top = (value, (set-names settings column value is, refl))

column-after : (dot : Dot) (settings : List Setting) (column : ℕ) (cell : Cell) → IsColumnAfter dot settings column cell (new_cell dot (set_value settings column) cell)
column-after dot settings column cell = record {
  named = λ given names. subst (λ (set : Option Value). ((new_cell dot set cell).top ≡ dot) × ((new_cell dot set cell).values ≡ given ∷ [])) (sym (named-set settings column given names)) (refl, refl);
  others = λ none. ap (λ (set : Option Value). new_cell dot set cell) (none-set settings column none);
  by_top = λ fresh top. top-named dot settings column cell (set_value settings column) refl fresh top;
}

rows-after : (dot : Dot) (settings : List Setting) (place : ℕ) (cells : List Cell) → AreCellsAfter tracking.Row dot settings place cells (map (whole_row_after dot settings) cells)
rows-after dot settings place [] = tt
rows-after dot settings place (cell ∷ cells) = ((refl, values-named settings 0 cell.values), rows-after dot settings (place + 1) cells)

columns-after : (dot : Dot) (settings : List Setting) (place : ℕ) (cells : List Cell) → AreCellsAfter tracking.ByColumn dot settings place cells (map (cell_after dot settings) (enumerate_from place cells))
columns-after dot settings place [] = tt
columns-after dot settings place (cell ∷ cells) = (column-after dot settings place cell, columns-after dot settings (place + 1) cells)

all-after : (tr : Tracking) (dot : Dot) (settings : List Setting) (cells : List Cell) → AreCellsAfter tr dot settings 0 cells (cells_after tr dot settings cells)
all-after tracking.Row dot settings cells = rows-after dot settings 0 cells
all-after tracking.ByColumn dot settings cells = columns-after dot settings 0 cells

body-after : (tr : Tracking) (dot : Dot) (settings : List Setting) (body : Body) → is_live body ≡ true → IsBodyAfter tr dot settings body (Live (cells_after tr dot settings (cells_of body)))
body-after tr dot settings (Live cells) live = all-after tr dot settings cells
body-after tr dot settings (Dead top) live = absurd (cc live)

updates : (tr : Tracking) (dot : Dot) (settings : List Setting) (held : Option Version) → lives held ≡ true → Updates tr dot settings held (option_map (λ (version : Version). changed version dot settings tr) held)
updates tr dot settings None live = absurd (cc live)
updates tr dot settings (Some version) live = body-after tr dot settings version.body live

-- Inserts.

module _ (dot : Dot) (draw : Value) (settings : List Setting) where
  own-or : (b : Bool) (identity column : ℕ) → (column == identity) ≡ b → IsNewValue (Some identity) draw settings column (if b then draw else unwrap_or (set_value settings column) Null)
  own-or true identity column is =
      let same : identity ≡ column = grind (arith, nat_tests, is) in
      record { own = λ at. refl; others = λ differs. absurd (differs (ap (λ (n : ℕ). Some n) same)) }
  own-or false identity column is = record {
    own = λ at. (let same : identity ≡ column = some_same identity column at in absurd (grind (arith, nat_tests, is, same)));
    others = λ differs. as-named settings column Null;
  }

  value-new : (identity : Option ℕ) (column : ℕ) → IsNewValue identity draw settings column (new_value identity draw settings column)
  value-new None column = record { own = λ at. absurd (cc at); others = λ differs. as-named settings column Null }
  value-new (Some identity) column = own-or (column == identity) identity column refl

  abbrev new_from : Option ℕ → ℕ → List ColumnType → List Value
  new_from identity column types = map (λ (place : ℕ × ColumnType). new_value identity draw settings place.0) (enumerate_from column types)

  values-new : (identity : Option ℕ) (column : ℕ) (types : List ColumnType) → AreNewValues identity draw settings column types (new_from identity column types)
  values-new identity column [] = tt
  values-new identity column (ty ∷ types) = (value-new identity column, values-new identity (column + 1) types)

  cells-new : (identity : Option ℕ) (column : ℕ) (types : List ColumnType) → AreNewCells dot identity draw settings column types (new_cells tracking.ByColumn dot (new_from identity column types))
  cells-new identity column [] = tt
  cells-new identity column (ty ∷ types) = (
    record { top = refl; value = new_value identity draw settings column; alone = refl; given = value-new identity column },
    cells-new identity (column + 1) types,
  )

  row-new : (tr : Tracking) (identity : Option ℕ) (types : List ColumnType) → IsNewRow tr dot identity draw settings types (new_cells tr dot (new_from identity 0 types))
  row-new tracking.Row identity types = (refl, values-new identity 0 types)
  row-new tracking.ByColumn identity types = cells-new identity 0 types

-- A change that finds its row.

removes : (publication : Publication) (dot : Dot) (draw : Value) (article : ℕ) (row : RowId) (held : Option Version) → lives held ≡ true
    → (let change : Change = Delete article row in Gives publication dot draw change held (version_after publication dot draw change held))
removes publication dot draw article row None live = absurd (cc live)
removes publication dot draw article row (Some version) live = refl

gives : (publication : Publication) (dot : Dot) (draw : Value) (change : Change) (held : Option Version) → no_row change held ≡ None → Gives publication dot draw change held (version_after publication dot draw change held)
gives publication dot draw (Insert article settings) held none = row-new dot draw settings (tracking_at publication article) (identity_column publication article) (types_at publication article)
gives publication dot draw (Update article row settings) held none = updates (tracking_at publication article) dot settings held (no-refusal (lives held) none)
gives publication dot draw (Delete article row) held none = removes publication dot draw article row held (no-refusal (lives held) none)

found-row : (publication : Publication) (dot : Dot) (change : Change) (held : Option Version) (rows : ℕ) → change_refusal publication dot change held rows ≡ None → no_row change held ≡ None
found-row publication dot change held rows fine = (first-none (no_row change held) _ fine).0

-- The version of its row behind a change.

pub version-here : (b : Bool) (version : Version) (rest : Option Version) → b ≡ true → (let found : Option Version = if b then Some version else rest in found) ≡ Some version
version-here true version rest is = refl
version-here false version rest is = absurd (cc is)

put-here : (key : Key) (found : Key → Option Version) (version : Option Version) → is_some version ≡ true → put_if found (keyed key version) key ≡ version
put-here key found None there = absurd (cc there)
put-here key found (Some version) there = version-here (same_key key key) version (found key) (key-itself key)

sub-put : (key : Key) (version : Option Version) (u : SubscriberTables) → is_some version ≡ true → subscriber_version_at (with_version_if key version u) key ≡ version
sub-put key None u there = absurd (cc there)
sub-put key (Some version) u there =
    let row : SubscriberRow = record { version = version; generations = with_open (subscriber_last_closed u + 1) (generations_at u key) } in
    found-put (λ (r : SubscriberRow). r.version) u.rows key row key ∙ version-here (same_key key key) version (found_in (λ (r : SubscriberRow). r.version) u.rows key) (key-itself key)

module _ (publication : Publication) (change : Change) where
  -- At the publisher.
  module _ (judge : PublisherJudge) (now : Moment) (p : PublisherTables) where
    abbrev dot : Dot
    dot = next_dot p

    abbrev key : Key
    key = key_of dot change

    abbrev held : Option Version
    held = version_at p key

    made-here : (d : Drawn) → is_some (version_after publication dot d.value change held) ≡ true → version_at (made_locally publication judge change d (at_moment now p)).0 key ≡ version_after publication dot d.value change held
    made-here d there =
        let q : PublisherTables = at_moment now p in
        changed-versions publication judge (changing_locally publication change d.value q) (with_draw d q) key
        ∙ one-put key (version_after publication dot d.value change held) (version_at p) key
        ∙ put-here key (version_at p) (version_after publication dot d.value change held) there

    row-found : local_refusal publication change p ≡ None → no_row change held ≡ None
    row-found fine =
        let counted = first-none (counter_end (counters p)) _ fine in
        let refused = first-none (change_refusal publication dot change held (length p.rows)) _ counted.1 in
        found-row publication dot change held (length p.rows) refused.0

    gives-here : (d : Drawn) → draw_for_change publication p change ≡ Ok d → local_refusal publication change p ≡ None → GivesHere publication change p (made_locally publication judge change d (at_moment now p)).0
    gives-here d draws fine =
        let none : no_row change held ≡ None = row-found fine in
        record {
          draw = d;
          draws = draws;
          gives = subst (λ (after : Option Version). Gives publication dot d.value change held after) (sym (made-here d (version-there publication dot d.value change held none))) (gives publication dot d.value change held none);
        }

    abbrev drawn_local : Result Drawn Refusal → Result (PublisherTables × RowId) Refusal
    drawn_local draw = elim draw [ Err why ↦ Err why | Ok d ↦ Ok (made_locally publication judge change d (at_moment now p)) ]

    drawn-gives : (draw : Result Drawn Refusal) → draw_for_change publication p change ≡ draw → local_refusal publication change p ≡ None → IfOk (drawn_local draw) (λ done. GivesHere publication change p done.0)
    drawn-gives (Err why) at fine = tt
    drawn-gives (Ok d) at fine = gives-here d at fine

    local-gives : (refusal : Option Refusal) → local_refusal publication change p ≡ refusal
        → (let done : Result (PublisherTables × RowId) Refusal = elim refusal [ Some why ↦ Err why | None ↦ drawn_local (draw_for_change publication p change) ] in IfOk done (λ a. GivesHere publication change p a.0))
    local-gives (Some why) fine = tt
    local-gives None fine = drawn-gives (draw_for_change publication p change) refl fine

    pub local-given : IfOk (local publication judge now change p) (λ done. GivesHere publication change p done.0)
    local-given = local-gives (local_refusal publication change p) refl

  made-gives : (w : World) (row : RowId) (result : Result (PublisherTables × RowId) Refusal) → IfOk result (λ done. GivesHere publication change w.publisher done.0)
      → (let done : World × Outcome = unless_refused w result (λ (a : PublisherTables × RowId). (with_publisher a.0 w, Made a.1)) in done.1 ≡ Made row → GivesHere publication change w.publisher done.0.publisher)
  made-gives w row (Ok done) given made = given
  made-gives w row (Err why) given made = absurd (cc made)

  publisher-site : (judges : Judges) (w : World) (site : SiteId) (row : RowId) (b : Bool) → b ≡ true
      → (let done : World × Outcome = if b then make_at_publisher publication judges change w else at_subscriber site w (make_at_subscriber publication change w) in
      done.1 ≡ Made row → GivesHere publication change w.publisher done.0.publisher)
  publisher-site judges w site row true is = made-gives w row (local publication (judges.publisher 0) w.moment change w.publisher) (local-given (judges.publisher 0) w.moment w.publisher)
  publisher-site judges w site row false is = absurd (cc is)

  -- At a subscriber.
  module _ (w : World) (s : SubscriberTables) where
    abbrev sub_dot : Dot
    sub_dot = subscriber_next_dot s

    abbrev sub_key : Key
    sub_key = key_of sub_dot change

    abbrev sub_held : Option Version
    sub_held = subscriber_version_at s sub_key

    abbrev sub_made : Value × List (ℕ × Holder) → SubscriberTables
    sub_made d = (subscriber_made_locally publication change d (subscriber_at_moment w.moment s)).0

    abbrev changing : Value × List (ℕ × Holder) → SubscriberTables
    changing d = record (subscriber_at_moment w.moment s) { changes = s.changes + 1; held = d.1 }

    made-there : (d : Value × List (ℕ × Holder)) → is_some (version_after publication sub_dot d.0 change sub_held) ≡ true → subscriber_version_at (sub_made d) sub_key ≡ version_after publication sub_dot d.0 change sub_held
    made-there d there = sub-put sub_key (version_after publication sub_dot d.0 change sub_held) (changing d) there

    sub-found : subscriber_local_refusal publication change s ≡ None → no_row change sub_held ≡ None
    sub-found fine =
        let joins = first-none (is_joining s) _ fine in
        let counted = first-none (counter_end (subscriber_counters s)) _ joins.1 in
        let refused = first-none (change_refusal publication sub_dot change sub_held (length s.rows)) _ counted.1 in
        found-row publication sub_dot change sub_held (length s.rows) refused.0

    found-there : (d : Value × List (ℕ × Holder)) → subscriber_at (with_subscriber (sub_made d) w) s.site ≡ Some (sub_made d)
    found-there d =
        let own : (sub_made d).site.0 ≡ s.site.0 = version-site sub_key (version_after publication sub_dot d.0 change sub_held) (changing d) in
        ap (λ (n : ℕ). at_number (put_number w.subscribers n (sub_made d)) s.site.0) own ∙ at_put_same s.site.0 (sub_made d) w.subscribers

    gives-there : (d : Value × List (ℕ × Holder)) → subscriber_drawn s change ≡ Ok d → subscriber_local_refusal publication change s ≡ None → GivesThere publication change s (with_subscriber (sub_made d) w)
    gives-there d draws fine =
        let none : no_row change sub_held ≡ None = sub-found fine in
        record {
          after = sub_made d;
          there = found-there d;
          draw = d;
          draws = draws;
          gives = subst (λ (after : Option Version). Gives publication sub_dot d.0 change sub_held after) (sym (made-there d (row-there publication change d.0 s fine))) (gives publication sub_dot d.0 change sub_held none);
        }

    abbrev sub_drawn : Result (Value × List (ℕ × Holder)) Refusal → Result (SubscriberTables × RowId) Refusal
    sub_drawn draw = elim draw [ Err why ↦ Err why | Ok d ↦ Ok (subscriber_made_locally publication change d (subscriber_at_moment w.moment s)) ]

    sub-drawn-gives : (draw : Result (Value × List (ℕ × Holder)) Refusal) → subscriber_drawn s change ≡ draw → subscriber_local_refusal publication change s ≡ None → IfOk (sub_drawn draw) (λ done. GivesThere publication change s (with_subscriber done.0 w))
    sub-drawn-gives (Err why) at fine = tt
    sub-drawn-gives (Ok d) at fine = gives-there d at fine

    sub-local-gives : (refusal : Option Refusal) → subscriber_local_refusal publication change s ≡ refusal
        → (let done : Result (SubscriberTables × RowId) Refusal = elim refusal [ Some why ↦ Err why | None ↦ sub_drawn (subscriber_drawn s change) ] in IfOk done (λ a. GivesThere publication change s (with_subscriber a.0 w)))
    sub-local-gives (Some why) fine = tt
    sub-local-gives None fine = sub-drawn-gives (subscriber_drawn s change) refl fine

    sub-made-gives : (row : RowId) (result : Result (SubscriberTables × RowId) Refusal) → IfOk result (λ done. GivesThere publication change s (with_subscriber done.0 w))
        → (let done : World × Outcome = unless_refused w result (λ (a : SubscriberTables × RowId). (with_subscriber a.0 w, Made a.1)) in done.1 ≡ Made row → GivesThere publication change s done.0)
    sub-made-gives row (Ok done) given made = given
    sub-made-gives row (Err why) given made = absurd (cc made)

    at-site : (site : SiteId) (row : RowId) → subscriber_at w site ≡ Some s
        → (let done : World × Outcome = at_subscriber site w (make_at_subscriber publication change w) in done.1 ≡ Made row → GivesThere publication change s done.0)
    at-site site row at = subst (λ (found : Option SubscriberTables). (let done : World × Outcome = elim found [ None ↦ (w, Refuses (UnknownSite site)) | Some t ↦ make_at_subscriber publication change w t ] in done.1 ≡ Made row → GivesThere publication change s done.0))
        (sym at) (sub-made-gives row (subscriber_local publication w.moment change s) (sub-local-gives (subscriber_local_refusal publication change s) refl))

    sub-site : (judges : Judges) (site : SiteId) (row : RowId) (b : Bool) → b ≡ false → subscriber_at w site ≡ Some s
        → (let done : World × Outcome = if b then make_at_publisher publication judges change w else at_subscriber site w (make_at_subscriber publication change w) in
        done.1 ≡ Made row → GivesThere publication change s done.0)
    sub-site judges site row true is at = absurd (cc is)
    sub-site judges site row false is at = at-site site row at

pub publisher-gives : PublisherGives
publisher-gives publication says judges w site change row own = publisher-site publication change judges w site row (site.0 == 0) (grind (arith, nat_tests, own))

pub subscribers-give : SubscribersGive
subscribers-give publication says judges w site s change row other at = sub-site publication change w s judges site row (site.0 == 0) (test-fails site.0 0 (site.0 == 0) refl other) at
