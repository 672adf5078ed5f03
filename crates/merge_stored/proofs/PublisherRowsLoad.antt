-- A start takes each row and each mapping of the publisher behind those in front of it.
use Rattle.std.specs.BTreeMap.{is_at}
use Rattle.std.specs.Cmp.{IsTotalOrder}
use Rattle.std.specs.List.{AllByRecursion, fold, list_any}
use Rattle.std.specs.Ordering.{is_eq, nat_cmp}
use Rattle.std.specs.declared.cmp.Ordering.{Ordering}
use Rattle.std.specs.Prelude.{Bool, List, [], cond, false, if◌then◌else◌, is_some, map, nat_le, nat_lt, refl, true, ℕ, ◌&&◌, ◌++◌, ◌+◌, ◌<◌, ◌==◌, ◌^◌, ◌||◌, ◌≡◌, ◌≤◌, ◌∷◌}
use Rattle.std.proofs.Common.{ap, arith, subst, ◌∙◌}
use Rattle.std.proofs.lemmas.Bool.Decides.{nat_tests}
use Rattle.std.proofs.lemmas.Cmp.{tied_itself}
use Rattle.std.proofs.lemmas.List.Sums.{sum_by_push}
use Rattle.merge_types.specs.Limits.{entry_limit, number_limit}
use Rattle.merge_types.specs.declared.identifiers.SiteId.{SiteId}
use Rattle.merge_types.specs.declared.row_key.RowKey.{RowKey as Key}
use Rattle.merge_units.specs.declared.site_row.PublisherRow.{PublisherRow}
use Rattle.merge_gens.specs.Moves.{row_site_cmp}
use Rattle.merge_gens.specs.declared.filling.Filling.{Filling}
use Rattle.merge_gens.specs.declared.moves.Mapping.{Mapping}
use Rattle.merge_gens.specs.declared.moves.RowSite.{RowSite}
use Rattle.merge_schema.specs.Places.{is_subscription}
use Rattle.merge_schema.specs.Valid.{IsValid}
use Rattle.merge_schema.specs.declared.publication.Publication.{Publication}
use Rattle.merge_schema.specs.declared.publication.Subscription.{Subscription}
use Rattle.merge_batch.specs.Articles.{has_article}
use Rattle.merge_batch.specs.Makers.{maker_of}
use Rattle.merge_record.specs.Tables.{IsRowKey}
use Rattle.merge_keeper.specs.PublisherRules as of_publisher
use Rattle.merge_keeper.specs.PublisherStart as start_publisher
use Rattle.merge_keeper.specs.Start.{KeepOneByOne, row_was_made, version_is_sound}
use Rattle.merge_keeper.specs.declared.stored.PublisherStored.{PublisherStored}
use Rattle.merge_model.specs.Tables.Keys.{at_row_site, put_number}
use Rattle.merge_model.specs.History.Model.{Model}
use Rattle.merge_model.specs.History.Noting.{site_of_subscription}
use Rattle.merge_model.specs.Tables.Publications.{by_site}
use Rattle.merge_model.specs.Publisher.{new_holders}
use Rattle.merge_model.specs.Failing.Runs.{model_behind}
use Rattle.merge_model.specs.Tables.{PublisherTables}
use Rattle.merge_model.proofs.Entries.EntryLists.{all-put}
use Rattle.merge_model.proofs.Lists.Finding.{all-weaker}
use Rattle.merge_model.proofs.Lists.KeyLists.{some-head}
use Rattle.merge_model.proofs.Lists.{all-both, each-found}
use Rattle.merge_model.proofs.Publishers.Sorted.{row_site_total}
use Rattle.merge_laws.specs.Laws.LastLines.{subscribes}
use Rattle.merge_laws.specs.Laws.{OfEveryValidRun}
use Rattle.merge_laws.proofs.Told.ToldSites.{Every}
use Rattle.merge_owed.proofs.VersionKept.{holds-always}
use Rattle.merge_honest.proofs.ArticlesExist.{AllExist, exist-always}
use Rattle.merge_honest.proofs.MadeKeys.{KeyIsMade, keys-always}
use Rattle.merge_honest.proofs.RemovedRows.{made-carried}
use Rattle.merge_honest.proofs.RowRules.{found-exists}
use Rattle.merge_honest.proofs.RowsFit.{AllTook, IsRight, right-goes_on}
use Rattle.merge_honest.proofs.Rules.{Known, known-always}
use Rattle.merge_honest.proofs.TookValues.{took-always}
use Rattle.merge_stored.specs.Entries.{room_of}
use Rattle.merge_stored.specs.PublisherLoading.{MappingLoads, PublisherRowLoads, PublisherRowsLoad}
use Rattle.merge_stored.specs.Stored.{publisher_stored}
use Rattle.merge_stored.specs.Versions.{VersionIsStored}
use Rattle.merge_stored.proofs.PublisherEntries.{changed_in, counted, counted-cons, has-rooms, moved_in}
use Rattle.merge_stored.proofs.Records.{row-fits}
use Rattle.merge_stored.proofs.Sites.{subscription-low}
use Rattle.merge_stored.proofs.States.{closed-low}
use Rattle.merge_stored.proofs.SubscriberRows.{room-above, room-closed, room-open}
use Rattle.merge_stored.proofs.SubscriberRowsLoad.{at-most-open}
use Rattle.merge_stored.proofs.Versions.{article-low, versions-load}

-- Where a generation has room for one more, a start says so.
has-space : (entries : ℕ) (filling : Filling) (g : ℕ) (a b : Bool) → nat_le g filling.last_closed ≡ a → (g == filling.last_closed + 1) ≡ b → entries < room_of filling g
    → (nat_le g (filling.last_closed + 1) && nat_lt entries (if nat_le g filling.last_closed then entry_limit else filling.filled)) ≡ true
has-space entries filling g true b closed is low =
    let here : g ≤ filling.last_closed = grind (arith, nat_tests, closed) in
    let room = room-closed filling g here in
    let up : entries < entry_limit = omega (arith, room, low) in
    grind (arith, nat_tests, here, up, closed)
has-space entries filling g false true closed is low =
    let here : g ≡ filling.last_closed + 1 = grind (arith, nat_tests, is) in
    let room = room-open filling g here in
    let up : entries < filling.filled = omega (arith, room, low) in
    grind (arith, nat_tests, here, up, closed)
has-space entries filling g false false closed is low =
    let above : filling.last_closed + 1 < g = grind (arith, nat_tests, closed, is) in
    let room = room-above filling g above in
    absurd (omega (arith, room, low))

module _ {K V : Type 0} (of : V → ℕ) where
  -- one stands in its own generation
  own-one : (e : K × V) (es : List (K × V)) → counted of (of e.1) (e ∷ es) ≡ 1 + counted of (of e.1) es
  own-one e es =
      let one = counted-cons of (of e.1) e es in
      let same : (let n : ℕ = cond (of e.1 == of e.1) 1 0 in n) ≡ 1 = (let itself : (of e.1 == of e.1) ≡ true = grind (arith, nat_tests) in ap (λ (b : Bool). (let n : ℕ = cond b 1 0 in n)) itself) in
      omega (arith, one, same)

  pub behind-more : (g : ℕ) (front : List (K × V)) (e : K × V) (es : List (K × V)) → counted of g (front ++ e ∷ []) + counted of g es ≡ counted of g front + counted of g (e ∷ es)
  behind-more g front e es =
      let push : counted of g (front ++ e ∷ []) ≡ counted of g front + (let n : ℕ = cond (g == of e.1) 1 0 in n) = sum_by_push (λ (x : K × V). (let n : ℕ = cond (g == of x.1) 1 0 in n)) front e in
      let one = counted-cons of g e es in
      omega (arith, push, one)

-- what is known of a mapping
pub record MoveFits (publication : Publication) (move : RowSite × Mapping) : Type 0 where
  pub key : IsRowKey move.0.key
  pub article : has_article publication move.0.key.article ≡ true
  pub site : is_subscription publication move.0.site ≡ true
  pub low : move.0.site ≤ 63

module _ (publication : Publication) (p : PublisherTables) (closed : p.gens.filling.last_closed < number_limit) where
  abbrev filling : Filling
  filling = p.gens.filling

  generation-low : (g : ℕ) → 0 < room_of filling g → g < 2 ^ 64
  generation-low g some = (let low = at-most-open filling g (nat_le g filling.last_closed) (g == filling.last_closed + 1) refl refl some in omega (arith, low, closed))

  -- Rows.

  abbrev row_front : List (Key × PublisherRow) → PublisherStored
  row_front front = of_publisher.with_rows (publisher_stored p) (new_holders publication) front

  row-sound : (front : List (Key × PublisherRow)) (row : Key × PublisherRow) → version_is_sound publication row.0.article row.1.version ≡ true → row_was_made 0 p.changes row.0 row.1.version ≡ true → start_publisher.has_space (row_front front) row.1.changed ≡ true
      → start_publisher.row_is_sound publication (row_front front) row.0 row.1 ≡ true
  unfolding start_publisher.row_is_sound
  row-sound front row sound made space = grind (arith, sound, made, space)

  row-space : (front : List (Key × PublisherRow)) (row : Key × PublisherRow) → counted changed_in row.1.changed front < room_of filling row.1.changed → start_publisher.has_space (row_front front) row.1.changed ≡ true
  row-space front row low =
      let g : ℕ = row.1.changed in
      let nothing : List (RowSite × Mapping) = [] in
      let entries : counted changed_in g front + counted moved_in g nothing < room_of filling g = omega (arith, low) in
      has-space (counted changed_in g front + counted moved_in g nothing) filling g (nat_le g filling.last_closed) (g == filling.last_closed + 1) refl refl entries

  pub rows-load : (front rows : List (Key × PublisherRow)) → ((g : ℕ) → counted changed_in g front + counted changed_in g rows ≤ room_of filling g) → AllByRecursion (λ (row : Key × PublisherRow). VersionIsStored publication 0 p.changes row.0 row.1.version) rows
      → KeepOneByOne (PublisherRowLoads publication p) front rows
  rows-load front [] room stored = tt
  rows-load front (row ∷ rows) room stored =
      let g : ℕ = row.1.changed in
      let up = room g in
      let own = own-one changed_in row rows in
      let low : counted changed_in g front < room_of filling g = omega (arith, up, own) in (
        (stored.0.loads.key_fits, (stored.0.loads.has_record, generation-low g (omega (arith, low))), row-sound front row stored.0.loads.sound stored.0.made (row-space front row low)),
        rows-load (front ++ row ∷ []) rows (λ k. (let more = behind-more changed_in k front row rows in let most = room k in omega (arith, more, most))) stored.1,
      )

  -- Mappings.

  abbrev move_front : List (RowSite × Mapping) → PublisherStored
  move_front front = of_publisher.with_mappings (publisher_stored p) (new_holders publication) front

  move-sound : (front : List (RowSite × Mapping)) (move : RowSite × Mapping) → MoveFits publication move → start_publisher.has_space (move_front front) move.1.generation ≡ true → start_publisher.move_is_sound publication (move_front front) move.0 move.1 ≡ true
  unfolding start_publisher.move_is_sound
  move-sound front move fits space = (let one = fits.article in let two = fits.site in grind (arith, one, two, space))

  move-space : (front : List (RowSite × Mapping)) (move : RowSite × Mapping) → counted changed_in move.1.generation p.rows + counted moved_in move.1.generation front < room_of filling move.1.generation → start_publisher.has_space (move_front front) move.1.generation ≡ true
  move-space front move low =
      let g : ℕ = move.1.generation in
      has-space (counted changed_in g p.rows + counted moved_in g front) filling g (nat_le g filling.last_closed) (g == filling.last_closed + 1) refl refl low

  pub moves-load : (front moves : List (RowSite × Mapping)) → ((g : ℕ) → counted changed_in g p.rows + (counted moved_in g front + counted moved_in g moves) ≤ room_of filling g) → AllByRecursion (MoveFits publication) moves → KeepOneByOne (MappingLoads publication p) front moves
  moves-load front [] room fits = tt
  moves-load front (move ∷ moves) room fits =
      let g : ℕ = move.1.generation in
      let up = room g in
      let own = own-one moved_in move moves in
      let low : counted changed_in g p.rows + counted moved_in g front < room_of filling g = omega (arith, up, own) in
      let site = fits.0.low in (
        ((fits.0.key, omega (arith, site)), (tt, generation-low g (omega (arith, low))), move-sound front move fits.0 (move-space front move low)),
        moves-load (front ++ move ∷ []) moves (λ k. (let more = behind-more moved_in k front move moves in let most = room k in omega (arith, more, most))) fits.1,
      )

-- Each mapping is found by its place.

or-true : (b c : Bool) → c ≡ true → (b || c) ≡ true
or-true b c is = grind (arith, is)

itself-at : {K : Type 0} (cmp : K → K → Ordering) → IsTotalOrder cmp → (k : K) → is_at (cmp k) k ≡ true
itself-at cmp total k = ap is_eq (tied_itself total k)

abbrev There : List (RowSite × Mapping) → RowSite × Mapping → Type 0
There mappings move = is_some (at_row_site mappings move.0) ≡ true

each-there : (mappings : List (RowSite × Mapping)) → AllByRecursion (There mappings) mappings
each-there [] = tt
each-there (move ∷ mappings) = (
  some-head (is_at (row_site_cmp move.0) move.0) move.1 (at_row_site mappings move.0) ∙ ap (λ (b : Bool). b || is_some (at_row_site mappings move.0)) (itself-at row_site_cmp row_site_total move.0),
  all-weaker (There mappings) (There (move ∷ mappings)) (λ other there. some-head (is_at (row_site_cmp other.0) move.0) move.1 (at_row_site mappings other.0) ∙ or-true (is_at (row_site_cmp other.0) move.0) (is_some (at_row_site mappings other.0)) there) mappings (each-there mappings),
)

-- A site that a purge goes over subscribes.

module _ (publication : Publication) where
  abbrev Subscribes : ℕ × Subscription → Type 0
  Subscribes entry = is_subscription publication entry.1.site.0 ≡ true

  all-subscribe : (entries : List (ℕ × Subscription)) (subscriptions : List Subscription) → AllByRecursion Subscribes entries → AllByRecursion (λ (s : Subscription). is_subscription publication s.site.0 ≡ true) subscriptions
      → AllByRecursion Subscribes (fold (λ (others : List (ℕ × Subscription)) (s : Subscription). put_number others s.site.0 s) entries subscriptions)
  all-subscribe entries [] all each = all
  all-subscribe entries (s ∷ subscriptions) all each = all-subscribe (put_number entries s.site.0 s) subscriptions (all-put Subscribes nat_cmp s.site.0 s (λ q tied. each.0) each.0 entries all) each.1

  pub each-subscribes : AllByRecursion (λ (s : Subscription). is_subscription publication s.site.0 ≡ true) publication.subscriptions
  each-subscribes = all-weaker (λ (s : Subscription). (test : Subscription → Bool) → test s ≡ true → list_any test publication.subscriptions ≡ true) (λ (s : Subscription). is_subscription publication s.site.0 ≡ true)
      (λ s found. found (λ (x : Subscription). x.site.0 == s.site.0) (grind (arith, nat_tests))) publication.subscriptions (each-found publication.subscriptions)

  one-subscribes : (b : Bool) (site other : ℕ) (rest : Bool) → (other == site) ≡ b → is_subscription publication other ≡ true → (rest ≡ true → is_subscription publication site ≡ true) → (b || rest) ≡ true → is_subscription publication site ≡ true
  one-subscribes true site other rest is here more some = subst (λ (n : ℕ). is_subscription publication n ≡ true) (let same : other ≡ site = grind (arith, nat_tests, is) in same) here
  one-subscribes false site other rest is here more some = more some

  among-subscribes : (entries : List (ℕ × Subscription)) (site : ℕ) → AllByRecursion Subscribes entries → list_any (λ (other : SiteId). other.0 == site) (map site_of_subscription entries) ≡ true → is_subscription publication site ≡ true
  among-subscribes [] site all some = absurd cc
  among-subscribes (entry ∷ entries) site all some = one-subscribes (entry.1.site.0 == site) site entry.1.site.0 (list_any (λ (other : SiteId). other.0 == site) (map site_of_subscription entries)) refl all.0 (among-subscribes entries site all.1) some

  subscribes-is : (site : ℕ) → subscribes publication site ≡ true → is_subscription publication site ≡ true
  subscribes-is site some = among-subscribes (by_site publication) site (all-subscribe [] publication.subscriptions tt each-subscribes) some

module _ (publication : Publication) (m : Model) (k : Known publication m) (exist : AllExist publication m.history.made) (rights : Every (IsRight publication m.history.made) m.world m.history) (took : AllTook publication m.history.made) (valid : (resolvers : ℕ) × IsValid resolvers publication) where
  move-fits : (move : RowSite × Mapping) → KeyIsMade m.history.made move.0.key → There m.world.publisher.mappings move → MoveFits publication move
  move-fits move made there =
      let both = made (made-carried publication m k exist rights took move.0.key) in
      let exists : has_article publication move.0.key.article ≡ true = found-exists publication m k exist rights took move.0.key (maker_of move.0.key.row.0) refl both.0 both.1 in
      let low = article-low publication.articles move.0.key.article exists in
      let few = valid.1.some_articles.1 in
      let site = subscribes-is publication move.0.site (k.whole.0.0.lines.sites move.0.key move.0.site there) in
      record { key = (omega (arith, low, few), row-fits move.0.key.row.0 (maker_of move.0.key.row.0) refl both.0); article = exists; site = site; low = subscription-low valid.0 publication valid.1 move.0.site site }

pub publisher-rows-load : OfEveryValidRun PublisherRowsLoad
publisher-rows-load resolvers publication valid says tallies slips events =
    let m : Model = model_behind publication says tallies slips events in
    let p : PublisherTables = m.world.publisher in
    let k : Known publication m = known-always publication says tallies slips events (resolvers, valid) in
    let exist = exist-always publication says tallies slips events (resolvers, valid) in
    let rights = (holds-always publication (IsRight publication) (right-goes_on resolvers publication valid) says tallies slips events (resolvers, valid)).1.0 in
    let took = took-always publication says tallies slips events (resolvers, valid) in
    let closed = closed-low p k.bounded.publisher in
    let rooms = has-rooms publication says tallies slips events (resolvers, valid) in record {
      rows = λ typed. rows-load publication p closed [] p.rows (λ g. (let up = rooms.room g in omega (arith, up))) ((versions-load resolvers publication valid says tallies slips events).publisher typed);
      mappings = moves-load publication p closed [] p.mappings (λ g. (let up = rooms.room g in omega (arith, up)))
          (all-both (λ (e : RowSite × Mapping). KeyIsMade m.history.made e.0.key) (There p.mappings) (MoveFits publication) (λ move made there. move-fits publication m k exist rights took (resolvers, valid) move made there) p.mappings
          (keys-always publication says tallies slips events (resolvers, valid)).moves (each-there p.mappings));
    }
