-- Each row and each mapping of the publisher has room in its generation: at most 1,000 stand in one, and in the open one no more than it has entries.
use Rattle.std.specs.BTreeMap.{insert_entry, is_at}
use Rattle.std.specs.List.{fold, range_with_len, zip}
use Rattle.std.specs.Map.{remove_entry}
use Rattle.std.specs.Ordering.{match_ordering}
use Rattle.std.specs.declared.cmp.Ordering.{Ordering}
use Rattle.std.specs.declared.cmp.Ordering.TheVariants.{Equal, Greater, Less}
use Rattle.std.specs.Prelude.{Bool, Err, IfOk, List, None, Ok, Option, Result, Some, [], cond, count_by, drop, false, filter, if◌then◌else◌, length, map, not, refl, suc, take, true, zero, ℕ, ◌%◌, ◌++◌, ◌+◌, ◌/◌, ◌<◌, ◌==◌, ◌≡◌, ◌≤◌, ◌∷◌}
use Rattle.std.proofs.Common.{ap, arith, subst, sym, ◌∙◌}
use Rattle.std.proofs.lemmas.Bool.Decides.{nat_tests}
use Rattle.std.proofs.lemmas.List.FromFn.{length-map-range_with_len, map-range_with_len_more}
use Rattle.std.proofs.lemmas.List.Sums.{sum_by-cons}
use Rattle.merge_types.specs.Limits.{entry_limit}
use Rattle.merge_types.specs.declared.changes.Change.{Change}
use Rattle.merge_types.specs.declared.identifiers.Moment.{Moment}
use Rattle.merge_types.specs.declared.identifiers.RowId.{RowId}
use Rattle.merge_types.specs.RowKeys.{key_cmp}
use Rattle.merge_types.specs.declared.row_key.RowKey.{RowKey as Key}
use Rattle.merge_units.specs.declared.result.Decision.{Decision}
use Rattle.merge_units.specs.declared.site_row.PublisherRow.{PublisherRow}
use Rattle.merge_units.specs.declared.version.Version.{Version}
use Rattle.merge_gens.specs.Filling as fill
use Rattle.merge_gens.specs.Filling.{generation_of, generations_of}
use Rattle.merge_gens.specs.Moves.{row_site_cmp}
use Rattle.merge_gens.specs.declared.filling.Filling.{Filling}
use Rattle.merge_gens.specs.declared.moves.Mapping.{Mapping}
use Rattle.merge_gens.specs.declared.moves.MoveKind.{MoveKind}
use Rattle.merge_gens.specs.declared.moves.RowSite.{RowSite}
use Rattle.merge_schema.specs.Valid.{IsValid}
use Rattle.merge_schema.specs.declared.publication.Publication.{Publication}
use Rattle.merge_batch.specs.declared.refusal.Refusal.{Refusal}
use Rattle.merge_batch.specs.declared.request.Join.{Join}
use Rattle.merge_batch.specs.declared.request.Upload.{Upload}
use Rattle.merge_model.specs.Publisher.Acts.{Act, acts_of}
use Rattle.merge_model.specs.Judge.ByHistory.{by_history}
use Rattle.merge_model.specs.Publisher.Entries.{Changing, Entries, changed_by, changing_entries, entry_count, moves_of, parts_of, keys_of as all_keys, rows_after, touched_by, with_move, with_rows}
use Rattle.merge_model.specs.Failing.{Slips}
use Rattle.merge_model.specs.History.{History}
use Rattle.merge_model.specs.Judge.{PublisherJudge}
use Rattle.merge_model.specs.Tables.Keys.{drop_row_site, put_row}
use Rattle.merge_model.specs.Publisher.{at_moment, counters, tables_after_close}
use Rattle.merge_model.specs.Publisher.PublisherDownload.{download_refusal, tables_after_download}
use Rattle.merge_model.specs.Publisher.PublisherJoin.{is_left_of, join_acts, join_refusal, join_taken, tables_after_join}
use Rattle.merge_model.specs.Publisher.PublisherLocal.{Drawn, changing_locally, draw_for_change, local_refusal, made_locally, with_draw}
use Rattle.merge_model.specs.Publisher.PublisherPurge.{is_old_left, is_old_tombstone, purge}
use Rattle.merge_model.specs.Publisher.PublisherRanges.{plans, ranges_refusal, with_grants}
use Rattle.merge_model.specs.Publisher.PublisherUpload.{brings_news, changing_by, tables_after_upload, taken_in, upload_refusal, with_acts}
use Rattle.merge_model.specs.Tables.Refusals.{counter_end, unless}
use Rattle.merge_model.specs.Failing.Runs.{model_behind}
use Rattle.merge_model.specs.Tables.{PublisherTables}
use Rattle.merge_model.specs.World.{Saying, World}
use Rattle.merge_model.specs.declared.event.Event.{Event}
use Rattle.merge_laws.proofs.Runs.Ground.{grounded-always}
use Rattle.merge_honest.proofs.Fillings.{none-yet as after-none}
use Rattle.merge_stored.specs.Entries.{room_of, times_kept}
use Rattle.merge_stored.proofs.Generations.{times-append, times-cons}
use Rattle.merge_stored.proofs.PublisherCalls.{PublisherCallsKeep, publisher-step}
use Rattle.merge_stored.proofs.SubscriberRows.{closed-room, entered-room}

-- How many of the values of a list stand in a generation.
abbrev pub counted : {K V : Type 0} → (V → ℕ) → ℕ → List (K × V) → ℕ
counted {K} {V} of g es = count_by (λ (e : K × V). g == of e.1) es

module _ {K V : Type 0} (of : V → ℕ) (g : ℕ) where
  abbrev here : K × V → ℕ
  here e = cond (g == of e.1) 1 0

  pub counted-cons : (e : K × V) (es : List (K × V)) → counted of g (e ∷ es) ≡ here e + counted of g es
  counted-cons e es = sum_by-cons (λ (x : K × V). here x) e es

  put-by : (o : Ordering) (a b c : K × V) (es put : List (K × V)) → here c ≡ here a → counted of g put ≤ counted of g es + here a → counted of g (match_ordering o (a ∷ b ∷ es) (c ∷ es) (b ∷ put)) ≤ counted of g (b ∷ es) + here a
  put-by Less a b c es put same low = (let one = counted-cons a (b ∷ es) in omega (arith, one))
  put-by Equal a b c es put same low = (let one = counted-cons c es in let other = counted-cons b es in omega (arith, one, other, same))
  put-by Greater a b c es put same low = (let one = counted-cons b put in let other = counted-cons b es in omega (arith, one, other, low))

  put-counted : (cmp : K → K → Ordering) (k : K) (v : V) (es : List (K × V)) → counted of g (insert_entry cmp es k v) ≤ counted of g es + cond (g == of v) 1 0
  put-counted cmp k v [] = (let nothing : List (K × V) = [] in let one = counted-cons (k, v) nothing in omega (arith, one))
  put-counted cmp k v (e ∷ es) = put-by (cmp k e.0) (k, v) e (e.0, v) es (insert_entry cmp es k v) refl (put-counted cmp k v es)

  removed-by : (b : Bool) (e : K × V) (es removed : List (K × V)) → counted of g removed ≤ counted of g es → counted of g (cond b es (e ∷ removed)) ≤ counted of g (e ∷ es)
  removed-by true e es removed low = (let one = counted-cons e es in omega (arith, one))
  removed-by false e es removed low = (let one = counted-cons e es in let other = counted-cons e removed in omega (arith, one, other, low))

  pub removed-counted : (test : K → Bool) (es : List (K × V)) → counted of g (remove_entry test es) ≤ counted of g es
  removed-counted test [] = omega arith
  removed-counted test (e ∷ es) = removed-by (test e.0) e es (remove_entry test es) (removed-counted test es)

  kept-by : (b : Bool) (e : K × V) (es kept : List (K × V)) → counted of g kept ≤ counted of g es → counted of g (cond b (e ∷ kept) kept) ≤ counted of g (e ∷ es)
  kept-by true e es kept low = (let one = counted-cons e es in let other = counted-cons e kept in omega (arith, one, other, low))
  kept-by false e es kept low = (let one = counted-cons e es in omega (arith, one, low))

  pub kept-counted : (keep : K × V → Bool) (es : List (K × V)) → counted of g (filter keep es) ≤ counted of g es
  kept-counted keep [] = omega arith
  kept-counted keep (e ∷ es) = kept-by (keep e) e es (filter keep es) (kept-counted keep es)

-- The generations of entries, one after the other.

filled-more : (last filled n : ℕ) → filled < entry_limit → last + (filled + (n + 1)) / entry_limit ≡ last + (filled + n) / entry_limit + ((filled + n) % entry_limit + 1) / entry_limit
filled-more last filled n low = omega arith

rest-more : (filled n : ℕ) → (filled + (n + 1)) % entry_limit ≡ ((filled + n) % entry_limit + 1) % entry_limit
rest-more filled n = omega arith

after-more : (f : Filling) (n : ℕ) → f.filled < entry_limit → fill.filled_by f (n + 1) ≡ fill.filled_by (fill.filled_by f n) 1
after-more f n low =
    ap (λ (last : ℕ). (let g : Filling = record { last_closed = last; filled = (f.filled + (n + 1)) % entry_limit } in g)) (filled-more f.last_closed f.filled n low)
    ∙ ap (λ (filled : ℕ). (let g : Filling = record { last_closed = f.last_closed + (f.filled + n) / entry_limit + ((f.filled + n) % entry_limit + 1) / entry_limit; filled = filled } in g)) (rest-more f.filled n)

unfilled-by : (f : Filling) (n : ℕ) → (fill.filled_by f n).filled < entry_limit
unfilled-by f n = omega arith

generations-more : (f : Filling) (from n : ℕ) → map (generation_of f) (range_with_len from (n + 1)) ≡ map (generation_of f) (range_with_len from n) ++ generation_of f (from + n) ∷ []
generations-more f from n = map-range_with_len_more (generation_of f) from n (from + n) refl

one-time : (g x : ℕ) → times_kept g (x ∷ []) ≡ cond (g == x) 1 0
one-time g x = (let nothing : List ℕ = [] in let one = times-cons g x nothing in omega (arith, one))

pub rooms-enough : (f : Filling) (g : ℕ) (n : ℕ) → f.filled < entry_limit → room_of f g + times_kept g (generations_of f n) ≤ room_of (fill.filled_by f n) g
rooms-enough f g zero low = (let same : room_of (fill.filled_by f 0) g ≡ room_of f g = ap (λ (x : Filling). room_of x g) (after-none f low) in omega (arith, same))
rooms-enough f g (suc n) low =
    let before : Filling = fill.filled_by f n in
    let rest = rooms-enough f g n low in
    let step = entered-room before g (unfilled-by f n) in
    let after : room_of (fill.filled_by f (n + 1)) g ≡ room_of (fill.filled_by before 1) g = ap (λ (x : Filling). room_of x g) (after-more f n low) in
    let more : times_kept g (generations_of f (n + 1)) ≡ times_kept g (generations_of f n) + cond (g == generation_of f (0 + n)) 1 0 =
    ap (times_kept g) (generations-more f 0 n) ∙ (times-append g (generations_of f n) (generation_of f (0 + n) ∷ []) ∙ ap (λ (k : ℕ). times_kept g (generations_of f n) + k) (one-time g (generation_of f (0 + n)))) in
    let same : generation_of f (0 + n) ≡ before.last_closed + 1 = omega arith in
    let here : cond (g == generation_of f (0 + n)) 1 0 ≡ cond (g == before.last_closed + 1) 1 0 = ap (λ (k : ℕ). (let c : ℕ = cond (g == k) 1 0 in c)) same in
    let last : suc n ≡ n + 1 = omega arith in
    subst (λ (k : ℕ). room_of f g + times_kept g (generations_of f k) ≤ room_of (fill.filled_by f k) g) (sym last) (omega (arith, rest, step, after, more, here))

-- What a step gives its generations.

zip-times : {X : Type 0} (g : ℕ) (xs : List X) (ys : List ℕ) → times_kept g (map (λ (e : X × ℕ). e.1) (zip xs ys)) ≤ times_kept g ys
zip-times g [] ys = omega arith
zip-times g (x ∷ xs) [] = omega arith
zip-times {X} g (x ∷ xs) (y ∷ ys) = (let rest = zip-times g xs ys in let one = times-cons g y (map (λ (e : X × ℕ). e.1) (zip xs ys)) in let other = times-cons g y ys in omega (arith, rest, one, other))

take-drop-times : (g n : ℕ) (xs : List ℕ) → times_kept g (take n xs) + times_kept g (drop n xs) ≤ times_kept g xs
take-drop-times g zero xs = omega arith
take-drop-times g (suc n) [] = omega arith
take-drop-times g (suc n) (x ∷ xs) = (let rest = take-drop-times g n xs in let one = times-cons g x (take n xs) in let other = times-cons g x xs in omega (arith, rest, one, other))

abbrev pub changed_in : PublisherRow → ℕ
changed_in row = row.changed

abbrev pub moved_in : Mapping → ℕ
moved_in mapping = mapping.generation

rows-counted : (g : ℕ) (rows : List (Key × PublisherRow)) (changed : List ((Key × Version) × ℕ)) → counted changed_in g (with_rows rows changed) ≤ counted changed_in g rows + times_kept g (map (λ (row : (Key × Version) × ℕ). row.1) changed)
rows-counted g rows [] = omega arith
rows-counted g rows (row ∷ changed) =
    let new : PublisherRow = record { version = row.0.1; changed = row.1 } in
    let first = put-counted changed_in g key_cmp row.0.0 new rows in
    let rest = rows-counted g (put_row rows row.0.0 new) changed in
    let one = times-cons g row.1 (map (λ (r : (Key × Version) × ℕ). r.1) changed) in
    omega (arith, first, rest, one)

moves-counted : (g : ℕ) (mappings : List (RowSite × Mapping)) (moved : List ((RowSite × MoveKind) × ℕ)) → counted moved_in g (fold with_move mappings moved) ≤ counted moved_in g mappings + times_kept g (map (λ (e : (RowSite × MoveKind) × ℕ). e.1) moved)
moves-counted g mappings [] = omega arith
moves-counted g mappings (e ∷ moved) =
    let new : Mapping = record { kind = e.0.1; generation = e.1 } in
    let first = put-counted moved_in g row_site_cmp e.0.0 new mappings in
    let rest = moves-counted g (with_move mappings e) moved in
    let one = times-cons g e.1 (map (λ (x : (RowSite × MoveKind) × ℕ). x.1) moved) in
    omega (arith, first, rest, one)

gone-counted : (g : ℕ) (mappings : List (RowSite × Mapping)) (gone : List RowSite) → counted moved_in g (fold drop_row_site mappings gone) ≤ counted moved_in g mappings
gone-counted g mappings [] = omega arith
gone-counted g mappings (place ∷ gone) = (let first = removed-counted moved_in g (is_at (row_site_cmp place)) mappings in let rest = gone-counted g (drop_row_site mappings place) gone in omega (arith, first, rest))

-- as many as it makes
zip-long : {X : Type 0} (xs : List X) (ys : List ℕ) → length xs ≤ length ys → length (zip xs ys) ≡ length xs
zip-long [] ys low = refl
zip-long (x ∷ xs) [] low = absurd (omega (arith, low))
zip-long (x ∷ xs) (y ∷ ys) low = (let rest = zip-long xs ys (omega (arith, low)) in omega (arith, rest))

take-long : (n : ℕ) (xs : List ℕ) → n ≤ length xs → n ≤ length (take n xs)
take-long zero xs low = omega arith
take-long (suc n) [] low = absurd (omega (arith, low))
take-long (suc n) (x ∷ xs) low = (let rest = take-long n xs (omega (arith, low)) in omega (arith, rest))

drop-long : (n m : ℕ) (xs : List ℕ) → n + m ≤ length xs → m ≤ length (drop n xs)
drop-long zero m xs low = omega (arith, low)
drop-long (suc n) m [] low = absurd (omega (arith, low))
drop-long (suc n) m (x ∷ xs) low = drop-long n m xs (omega (arith, low))

count-is : (f : Filling) (names : List Key) (moves : List (RowSite × MoveKind)) → (let gens : List ℕ = generations_of f (length names + length moves) in length (zip names (take (length names) gens)) + length (zip moves (drop (length names) gens)) ≡ length names + length moves)
count-is f names moves =
    let gens : List ℕ = generations_of f (length names + length moves) in
    let long : length gens ≡ length names + length moves = length-map-range_with_len (generation_of f) 0 (length names + length moves) in
    let one = zip-long names (take (length names) gens) (take-long (length names) gens (omega (arith, long))) in
    let two = zip-long moves (drop (length names) gens) (drop-long (length names) (length moves) gens (omega (arith, long))) in
    omega (arith, one, two)

-- The walk.

pub record HasRooms (p : PublisherTables) : Type 0 where
  pub unfilled : p.gens.filling.filled < entry_limit
  pub room : (g : ℕ) → counted changed_in g p.rows + counted moved_in g p.mappings ≤ room_of p.gens.filling g

abbrev S : PublisherTables → Type 0
S p = HasRooms p

less-on : (p q : PublisherTables) → q.gens.filling ≡ p.gens.filling → ((g : ℕ) → counted changed_in g q.rows + counted moved_in g q.mappings ≤ counted changed_in g p.rows + counted moved_in g p.mappings) → S p → S q
less-on p q filling less b = record {
  unfilled = subst (λ (f : Filling). f.filled < entry_limit) (sym filling) b.unfilled;
  room = λ g. (let up = less g in let low = b.room g in let same : room_of q.gens.filling g ≡ room_of p.gens.filling g = ap (λ (f : Filling). room_of f g) filling in omega (arith, up, low, same));
}

closed-unfilled : (filling : Filling) → filling.filled < entry_limit → (fill.filling_after_close filling).filled < entry_limit
closed-unfilled filling low = grind (arith, nat_tests, low)

close-on : (p q : PublisherTables) → q.rows ≡ p.rows → q.mappings ≡ p.mappings → q.gens.filling ≡ fill.filling_after_close p.gens.filling → S p → S q
close-on p q rows mappings filling b = record {
  unfilled = subst (λ (f : Filling). f.filled < entry_limit) (sym filling) (closed-unfilled p.gens.filling b.unfilled);
  room = λ g. (
      let low = b.room g in
      let up = closed-room p.gens.filling g b.unfilled in
      let one : counted changed_in g q.rows ≡ counted changed_in g p.rows = ap (λ (r : List (Key × PublisherRow)). counted changed_in g r) rows in
      let two : counted moved_in g q.mappings ≡ counted moved_in g p.mappings = ap (λ (r : List (RowSite × Mapping)). counted moved_in g r) mappings in
      let same : room_of q.gens.filling g ≡ room_of (fill.filling_after_close p.gens.filling) g = ap (λ (f : Filling). room_of f g) filling in omega (arith, low, up, one, two, same));
}

module _ (publication : Publication) where
  -- a step that gives rows versions
  changed-on : (judge : PublisherJudge) (changing : Changing) (p : PublisherTables) → S p → S (changed_by publication judge changing p)
  changed-on judge changing p b =
      let entries : Entries = changing_entries publication judge changing p in
      let names : List Key = map (λ (row : Key × Version). row.0) changing.versions in
      let moves = moves_of (touched_by changing) (parts_of publication p.rows (rows_after changing p.rows)) (all_keys (rows_after changing p.rows) changing.acted) in
      let gens : List ℕ = generations_of p.gens.filling (length names + length moves) in
      record {
        unfilled = unfilled-by p.gens.filling (entry_count entries);
        room = λ g. (
            let rows = rows-counted g p.rows (zip changing.versions (map (λ (entry : Key × ℕ). entry.1) entries.changed)) in
            let firsts = zip-times g changing.versions (map (λ (entry : Key × ℕ). entry.1) entries.changed) in
            let taken = zip-times g names (take (length names) gens) in
            let moved = moves-counted g p.mappings entries.moved in
            let seconds = zip-times g moves (drop (length names) gens) in
            let gone = gone-counted g (fold with_move p.mappings entries.moved) entries.gone in
            let parts = take-drop-times g (length names) gens in
            let low = b.room g in
            let enough = rooms-enough p.gens.filling g (length names + length moves) b.unfilled in
            let same : room_of (fill.filled_by p.gens.filling (entry_count entries)) g ≡ room_of (fill.filled_by p.gens.filling (length names + length moves)) g = ap (λ (n : ℕ). room_of (fill.filled_by p.gens.filling n) g) (count-is p.gens.filling names moves) in
            omega (arith, rows, firsts, taken, moved, seconds, gone, parts, low, enough, same));
      }

  unless-on : {A : Type 0} (refusal : Option Refusal) (q : PublisherTables) (a : A) → S q → (let done : Result (PublisherTables × A) Refusal = unless refusal (q, a) in IfOk done (λ x. S x.0))
  unless-on (Some why) q a is = tt
  unless-on None q a is = is

  at-on : (now : Moment) (p : PublisherTables) → S p → S (at_moment now p)
  at-on now p b = record { unfilled = b.unfilled; room = b.room }

  drawn-on : (judge : PublisherJudge) (now : Moment) (change : Change) (p : PublisherTables) (draw : Result Drawn Refusal) → S p
      → (let done : Result (PublisherTables × RowId) Refusal = elim draw [ Err refusal ↦ Err refusal | Ok d ↦ Ok (made_locally publication judge change d (at_moment now p)) ] in IfOk done (λ x. S x.0))
  drawn-on judge now change p (Err refusal) b = tt
  drawn-on judge now change p (Ok d) b = changed-on judge (changing_locally publication change d.value (at_moment now p)) (with_draw d (at_moment now p)) (record { unfilled = b.unfilled; room = b.room })

  local-on : (judge : PublisherJudge) (now : Moment) (change : Change) (p : PublisherTables) (found : Option Refusal) → S p
      → (let done : Result (PublisherTables × RowId) Refusal = elim found [ Some refusal ↦ Err refusal | None ↦ elim (draw_for_change publication p change) [ Err refusal ↦ Err refusal | Ok d ↦ Ok (made_locally publication judge change d (at_moment now p)) ] ] in IfOk done (λ x. S x.0))
  local-on judge now change p (Some refusal) b = tt
  local-on judge now change p None b = drawn-on judge now change p (draw_for_change publication p change) b

  upload-on : (judge : PublisherJudge) (m : Upload) (decisions : List Decision) (p : PublisherTables) (b : Bool) → S p → S (if b then taken_in publication judge m (acts_of judge m decisions p) p else p)
  upload-on judge m decisions p true b = (let acts : List Act = acts_of judge m decisions p in changed-on judge (changing_by m acts) (with_acts publication m acts p) (record { unfilled = b.unfilled; room = b.room }))
  upload-on judge m decisions p false b = b

  join-on : (m : Join) (p : PublisherTables) (b : Bool) → S p → S (if b then join_taken m p else p)
  join-on m p true b = less-on p (join_taken m p) refl (λ g. (let low = kept-counted moved_in g (λ (entry : RowSite × Mapping). not (is_left_of m.site entry)) p.mappings in omega (arith, low))) b
  join-on m p false b = b

  purge-on : (now : Moment) (p : PublisherTables) → S p → S (purge publication now p).0
  purge-on now p b = less-on p (purge publication now p).0 refl (λ g. (
      let rows = kept-counted changed_in g (λ (row : Key × PublisherRow). not (is_old_tombstone publication (at_moment now p) row)) p.rows in
      let moves = kept-counted moved_in g (λ (entry : RowSite × Mapping). not (is_old_left publication (at_moment now p) entry)) p.mappings in
      omega (arith, rows, moves))) b

  pub rooms-keep : PublisherCallsKeep publication S
  rooms-keep = record {
    of_local = λ judge now change p b. local-on judge now change p (local_refusal publication change p) b;
    of_close = λ now p b. unless-on (counter_end (counters p)) (tables_after_close (at_moment now p)) _ (close-on p (tables_after_close (at_moment now p)) refl refl refl b);
    of_join = λ now m p b. unless-on (join_refusal publication m p) (tables_after_join m (at_moment now p)) _ (join-on m (at_moment now p) (join_acts m (at_moment now p)) (at-on now p b));
    of_upload = λ judge now m decisions p b. unless-on (upload_refusal publication judge now m p) (tables_after_upload publication judge m decisions (at_moment now p)) _ (upload-on judge m decisions (at_moment now p) (brings_news judge m) (at-on now p b));
    of_ranges = λ judge now m p b. unless-on (ranges_refusal publication judge now m p) (with_grants (plans publication m p) (at_moment now p)) _ (record { unfilled = b.unfilled; room = b.room });
    of_ask = λ judge now m p b. unless-on (download_refusal publication now m p) (tables_after_download m (at_moment now p)) _ (close-on p (tables_after_download m (at_moment now p)) refl refl refl b);
    of_purge = λ now p b. purge-on now p b;
  }

  pub has-rooms : (says : Saying) (tallies : List ℕ) (slips : Slips) (events : List Event) → (resolvers : ℕ) × IsValid resolvers publication → S (model_behind publication says tallies slips events).world.publisher
  has-rooms says tallies slips events valid =
      (grounded-always publication says tallies slips events valid (λ (w : World) (h : History). S w.publisher) (λ m action g b. publisher-step publication S m.world b rooms-keep says (by_history m.history) action)
      (λ w h others b. b) (record { unfilled = omega arith; room = λ g. omega arith })).1
