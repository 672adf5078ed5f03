-- Tables that keep the rules of a start have counters, rows, mappings, conflicts, closed generations, rooms and sites as every call leaves them.
use Rattle.std.specs.List.{AllByRecursion}
use Rattle.std.specs.Prelude.{Bool, List, [], cond, false, if◌then◌else◌, length, nat_le, nat_lt, refl, true, ℕ, ◌&&◌, ◌++◌, ◌+◌, ◌<◌, ◌==◌, ◌^◌, ◌≡◌, ◌≤◌, ◌∷◌}
use Rattle.std.proofs.Common.{ap, arith}
use Rattle.std.proofs.lemmas.Bool.Decides.{nat_tests}
use Rattle.merge_types.specs.Limits.{entry_limit, number_limit}
use Rattle.merge_types.specs.declared.row_key.RowKey.{RowKey as Key}
use Rattle.merge_units.specs.declared.site_row.PublisherRow.{PublisherRow}
use Rattle.merge_gens.specs.declared.closings.Closing.{Closing}
use Rattle.merge_gens.specs.declared.filling.Filling.{Filling}
use Rattle.merge_gens.specs.declared.moves.Mapping.{Mapping}
use Rattle.merge_gens.specs.declared.moves.RowSite.{RowSite}
use Rattle.merge_gens.specs.declared.sites.SiteState.{SiteState}
use Rattle.merge_conflict.specs.declared.row.ConflictRow.{ConflictRow}
use Rattle.merge_schema.specs.Places.{is_subscription}
use Rattle.merge_schema.specs.Valid.{IsValid}
use Rattle.merge_schema.specs.declared.publication.Publication.{Publication}
use Rattle.merge_batch.specs.Articles.{has_article}
use Rattle.merge_batch.specs.Lineages.{is_site}
use Rattle.merge_keeper.specs.PublisherRules as of_publisher
use Rattle.merge_keeper.specs.PublisherStart as start_publisher
use Rattle.merge_keeper.specs.Start.{KeepOneByOne, conflict_is_sound, is_counter, row_was_made, version_is_sound}
use Rattle.merge_keeper.specs.declared.states.Front.{Front}
use Rattle.merge_keeper.specs.declared.stored.PublisherStored.{PublisherStored}
use Rattle.merge_model.specs.Laws.Promises.{key_of_conflict}
use Rattle.merge_model.specs.Publisher.{last_closed, new_holders}
use Rattle.merge_model.specs.Tables.{PublisherTables}
use Rattle.merge_model.proofs.Lists.Finding.{all-weaker}
use Rattle.merge_stored.specs.Entries.{room_of}
use Rattle.merge_stored.specs.Keeping.{PublisherKeeps}
use Rattle.merge_stored.specs.Lost.{LostLoads}
use Rattle.merge_stored.specs.PublisherLoading.{MappingLoads, PublisherRowLoads}
use Rattle.merge_stored.specs.Stored.{publisher_stored}
use Rattle.merge_stored.specs.Subscriptions.{SiteLoads}
use Rattle.merge_stored.proofs.PublisherEntries.{HasRooms, changed_in, counted, counted-cons, moved_in}
use Rattle.merge_stored.proofs.PublisherRowsLoad.{MoveFits, behind-more}
use Rattle.merge_stored.proofs.Sites.{subscription-low}
use Rattle.merge_stored.proofs.Subscriptions.{SiteIs}
use Rattle.merge_stored.proofs.AnyCalls.Acts.{LostStands}
use Rattle.merge_stored.proofs.AnyCalls.Base.{Base, ClosingIs, RowIs}
use Rattle.merge_stored.proofs.AnyCalls.Versions.{lost-from, row-from}

-- what holds of each behind those in front of it, as far as it does not speak of these
pub one-by-one : {X : Type 0} (P : List X → X → Type 0) (Q : X → Type 0) → ((front : List X) (x : X) → P front x → Q x) → (front xs : List X) → KeepOneByOne P front xs → AllByRecursion Q xs
one-by-one P Q each front [] all = tt
one-by-one P Q each front (x ∷ xs) all = (each front x all.0, one-by-one P Q each (front ++ x ∷ []) xs all.1)

three : (a b c : Bool) → (a && b && c) ≡ true → (a ≡ true) × (b ≡ true) × (c ≡ true)
three a b c is = (grind (arith, is), grind (arith, is), grind (arith, is))

four : (a b c d : Bool) → (a && b && c && d) ≡ true → (a ≡ true) × (b ≡ true) × (c ≡ true) × (d ≡ true)
four a b c d is = (grind (arith, is), grind (arith, is), grind (arith, is), grind (arith, is))

six : (a b c d e f : Bool) → (a && b && c && d && e && f) ≡ true → (a ≡ true) × (b ≡ true) × (c ≡ true) × (d ≡ true) × (e ≡ true) × (f ≡ true)
six a b c d e f is = (grind (arith, is), grind (arith, is), grind (arith, is), grind (arith, is), grind (arith, is), grind (arith, is))

counter-low : (n : ℕ) → is_counter n ≡ true → n < number_limit
counter-low n is = grind (arith, nat_tests, is)

-- The state.

record StateParts (last : ℕ) (state : Front) : Type 0 where
  changes : state.changes < number_limit
  closed : state.last_closed < number_limit
  conflicts : state.conflicts < number_limit
  unfilled : state.filled < entry_limit

state-parts : (last : ℕ) (state : Front) → start_publisher.state_is_sound last state ≡ true → StateParts last state
unfolding start_publisher.state_is_sound
state-parts last state sound =
    let all = six (state.site == 0) (is_counter state.changes) (is_counter state.last_closed) (is_counter state.conflicts) (nat_lt state.filled entry_limit) (nat_le state.conflicts last) sound in
    let low = all.4 in
    record { changes = counter-low state.changes all.1; closed = counter-low state.last_closed all.2; conflicts = counter-low state.conflicts all.3; unfilled = (let here : state.filled < entry_limit = grind (arith, nat_tests, low) in here) }

-- Where a start finds space there is room.

space-by : (entries : ℕ) (filling : Filling) (g : ℕ) (a b : Bool) → nat_le g filling.last_closed ≡ a → (g == filling.last_closed + 1) ≡ b → (nat_le g (filling.last_closed + 1) && nat_lt entries (if a then entry_limit else filling.filled)) ≡ true
    → (let room : ℕ = if a then entry_limit else (if b then filling.filled else 0) in entries < room)
space-by entries filling g true b closed is space = grind (arith, nat_tests, space)
space-by entries filling g false true closed is space = grind (arith, nat_tests, space)
space-by entries filling g false false closed is space =
    let above : filling.last_closed < g = grind (arith, nat_tests, closed) in
    let within : nat_le g (filling.last_closed + 1) ≡ true = grind (arith, space) in
    let low : g ≤ filling.last_closed + 1 = grind (arith, nat_tests, within) in
    let same : g ≡ filling.last_closed + 1 = omega (arith, above, low) in
    absurd (grind (arith, nat_tests, is, same))

space-room : (entries : ℕ) (filling : Filling) (g : ℕ) → (nat_le g (filling.last_closed + 1) && nat_lt entries (if nat_le g filling.last_closed then entry_limit else filling.filled)) ≡ true → entries < room_of filling g
space-room entries filling g space = space-by entries filling g (nat_le g filling.last_closed) (g == filling.last_closed + 1) refl refl space

-- one more stands in its own generation alone
more-by : (b : Bool) (g own before after room : ℕ) → (g == own) ≡ b → after ≡ before + cond b 1 0 → (g ≡ own → before < room) → before ≤ room → after ≤ room
more-by true g own before after room is more here up = (let low = here (let same : g ≡ own = grind (arith, nat_tests, is) in same) in omega (arith, more, low))
more-by false g own before after room is more here up = omega (arith, more, up)

module _ {K V : Type 0} (of : V → ℕ) where
  one-more : (g : ℕ) (front : List (K × V)) (e : K × V) → counted of g (front ++ e ∷ []) ≡ counted of g front + cond (g == of e.1) 1 0
  one-more g front e =
      let nothing : List (K × V) = [] in
      let all = behind-more of g front e nothing in
      let one = counted-cons of g e nothing in
      omega (arith, all, one)

module _ (publication : Publication) (p : PublisherTables) where
  abbrev filling : Filling
  filling = p.gens.filling

  abbrev row_front : List (Key × PublisherRow) → PublisherStored
  row_front front = of_publisher.with_rows (publisher_stored p) (new_holders publication) front

  abbrev move_front : List (RowSite × Mapping) → PublisherStored
  move_front front = of_publisher.with_mappings (publisher_stored p) (new_holders publication) front

  -- Rows.

  record RowParts (front : List (Key × PublisherRow)) (row : Key × PublisherRow) : Type 0 where
    sound : version_is_sound publication row.0.article row.1.version ≡ true
    made : row_was_made 0 p.changes row.0 row.1.version ≡ true
    space : start_publisher.has_space (row_front front) row.1.changed ≡ true

  row-parts : (front : List (Key × PublisherRow)) (row : Key × PublisherRow) → start_publisher.row_is_sound publication (row_front front) row.0 row.1 ≡ true → RowParts front row
  unfolding start_publisher.row_is_sound
  row-parts front row sound =
      let all = three (version_is_sound publication row.0.article row.1.version) (row_was_made 0 p.changes row.0 row.1.version) (start_publisher.has_space (row_front front) row.1.changed) sound in
      record { sound = all.0; made = all.1; space = all.2 }

  row-of : (front : List (Key × PublisherRow)) (row : Key × PublisherRow) → PublisherRowLoads publication p front row → RowIs publication p.changes row
  row-of front row loads = (let parts : RowParts front row = row-parts front row loads.2 in row-from publication p.changes row.0 row.1.version loads.0 loads.1.0 parts.sound parts.made)

  row-room : (front : List (Key × PublisherRow)) (row : Key × PublisherRow) → RowParts front row → counted changed_in row.1.changed front < room_of filling row.1.changed
  row-room front row parts =
      let nothing : List (RowSite × Mapping) = [] in
      let low = space-room (counted changed_in row.1.changed front + counted moved_in row.1.changed nothing) filling row.1.changed parts.space in
      omega (arith, low)

  rows-room : (front rows : List (Key × PublisherRow)) → KeepOneByOne (PublisherRowLoads publication p) front rows → ((g : ℕ) → counted changed_in g front ≤ room_of filling g) → (g : ℕ) → counted changed_in g front + counted changed_in g rows ≤ room_of filling g
  rows-room front [] all up g = (let low = up g in omega (arith, low))
  rows-room front (row ∷ rows) all up g =
      let parts : RowParts front row = row-parts front row all.0.2 in
      let here = row-room front row parts in
      let more = rows-room (front ++ row ∷ []) rows all.1 (λ k. more-by (k == row.1.changed) k row.1.changed (counted changed_in k front) (counted changed_in k (front ++ row ∷ [])) (room_of filling k) refl (one-more changed_in k front row)
      (λ same. (let there = ap (λ (n : ℕ). counted changed_in n front) same in let room = ap (room_of filling) same in omega (arith, here, there, room))) (up k)) g in
      let split = behind-more changed_in g front row rows in
      omega (arith, more, split)

  -- Mappings.

  record MoveParts (front : List (RowSite × Mapping)) (move : RowSite × Mapping) : Type 0 where
    article : has_article publication move.0.key.article ≡ true
    site : is_subscription publication move.0.site ≡ true
    space : start_publisher.has_space (move_front front) move.1.generation ≡ true

  move-parts : (front : List (RowSite × Mapping)) (move : RowSite × Mapping) → start_publisher.move_is_sound publication (move_front front) move.0 move.1 ≡ true → MoveParts front move
  unfolding start_publisher.move_is_sound
  move-parts front move sound =
      let all = three (has_article publication move.0.key.article) (is_subscription publication move.0.site) (start_publisher.has_space (move_front front) move.1.generation) sound in
      record { article = all.0; site = all.1; space = all.2 }

  move-of : (resolvers : ℕ) → IsValid resolvers publication → (front : List (RowSite × Mapping)) (move : RowSite × Mapping) → MappingLoads publication p front move → MoveFits publication move
  move-of resolvers valid front move loads = (let parts : MoveParts front move = move-parts front move loads.2 in
      record { key = loads.0.0; article = parts.article; site = parts.site; low = subscription-low resolvers publication valid move.0.site parts.site })

  move-room : (front : List (RowSite × Mapping)) (move : RowSite × Mapping) → MoveParts front move → counted changed_in move.1.generation p.rows + counted moved_in move.1.generation front < room_of filling move.1.generation
  move-room front move parts = space-room (counted changed_in move.1.generation p.rows + counted moved_in move.1.generation front) filling move.1.generation parts.space

  moves-room : (front moves : List (RowSite × Mapping)) → KeepOneByOne (MappingLoads publication p) front moves → ((g : ℕ) → counted changed_in g p.rows + counted moved_in g front ≤ room_of filling g) → (g : ℕ) → counted changed_in g p.rows + (counted moved_in g front + counted moved_in g moves) ≤ room_of filling g
  moves-room front [] all up g = (let low = up g in omega (arith, low))
  moves-room front (move ∷ moves) all up g =
      let parts : MoveParts front move = move-parts front move all.0.2 in
      let here = move-room front move parts in
      let next : (k : ℕ) → counted changed_in k p.rows + counted moved_in k (front ++ move ∷ []) ≤ room_of filling k = λ k. (let one = one-more moved_in k front move in
      more-by (k == move.1.generation) k move.1.generation (counted changed_in k p.rows + counted moved_in k front) (counted changed_in k p.rows + counted moved_in k (front ++ move ∷ [])) (room_of filling k) refl (omega (arith, one))
      (λ same. (let there = ap (λ (n : ℕ). counted changed_in n p.rows + counted moved_in n front) same in let room = ap (room_of filling) same in omega (arith, here, there, room))) (up k)) in
      let more = moves-room (front ++ move ∷ []) moves all.1 next g in
      let split = behind-more moved_in g front move moves in
      omega (arith, more, split)

  -- Conflicts.

  lost-of : (front : List ConflictRow) (row : ConflictRow) → LostLoads publication p.conflict_count front row → LostStands publication row
  unfolding conflict_is_sound
  lost-of front row loads =
      let parts = four (row.number == length front + 1) (nat_le row.number p.conflict_count) (is_site publication row.from.0) (version_is_sound publication row.article row.losing) loads.2 in
      (lost-from publication (key_of_conflict row) row.losing (loads.1.0.0.0, loads.1.0.0.1.0) loads.1.1 parts.3, parts.2)

  -- Closed generations, and sites.

  closing-of : (last : ℕ) (closing : Closing) → start_publisher.closing_is_sound last closing ≡ true → ClosingIs last closing
  unfolding start_publisher.closing_is_sound
  closing-of last closing sound = (grind (arith, nat_tests, sound), grind (arith, nat_tests, sound))

  site-of : (site : ℕ × SiteState) → SiteLoads publication p site → SiteIs publication (last_closed p) site
  unfolding start_publisher.site_is_sound
  site-of site loads =
      let all = six (is_subscription publication site.0) (is_counter site.1.joined_at) (is_counter site.1.received) (is_counter site.1.received_number) (is_counter site.1.seen) (nat_le site.1.watermark (last_closed p)) loads.2 in
      let mark = all.5 in
      (all.0, record { joined = counter-low site.1.joined_at all.1; received = counter-low site.1.received all.2; number = counter-low site.1.received_number all.3; seen = counter-low site.1.seen all.4; watermark = (let up : site.1.watermark ≤ last_closed p = grind (arith, nat_tests, mark) in up) })

  -- Together.

  module _ (resolvers : ℕ) (valid : IsValid resolvers publication) (rules : PublisherKeeps publication p) where
    state : StateParts p.conflict_count (of_publisher.state_of (publisher_stored p))
    state = state-parts p.conflict_count (of_publisher.state_of (publisher_stored p)) rules.state

    pub base-from : Base publication p
    base-from = record {
      changes = state.changes;
      closed = state.closed;
      conflict_count = state.conflicts;
      rows = one-by-one (PublisherRowLoads publication p) (RowIs publication p.changes) row-of [] p.rows rules.rows;
      moves = one-by-one (MappingLoads publication p) (MoveFits publication) (move-of resolvers valid) [] p.mappings rules.mappings;
      lost = one-by-one (LostLoads publication p.conflict_count) (LostStands publication) lost-of [] p.conflicts rules.conflicts;
      numbered = rules.numbered;
      closings = all-weaker (λ (closing : Closing). (closing.generation < 2 ^ 64) × (closing.moment.0 < 2 ^ 64) × (start_publisher.closing_is_sound (last_closed p) closing ≡ true)) (ClosingIs (last_closed p)) (λ closing is. closing-of (last_closed p) closing is.2) p.gens.closings rules.closings;
    }

    pub rooms-from : HasRooms p
    rooms-from = record {
      unfilled = state.unfilled;
      room = λ g. (let all = moves-room [] p.mappings rules.mappings (λ k. (let low = rows-room [] p.rows rules.rows (λ n. omega arith) k in omega (arith, low))) g in omega (arith, all));
    }

    pub sites-from : AllByRecursion (SiteIs publication (last_closed p)) p.sites
    sites-from = all-weaker (SiteLoads publication p) (SiteIs publication (last_closed p)) site-of p.sites rules.sites
