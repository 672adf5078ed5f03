-- The tables behind the first events of a script load.
use Rattle.std.proofs.Common.{Bool, List, Ok, [], ap, arith, count_by, false, length, subst, true, ℕ, ◌+◌, ◌++◌, ◌==◌, ◌^◌, ◌∙◌, ◌∷◌, ◌≡◌, ◌≤◌}
use Rattle.std.specs.List.{AllByRecursion, slice_split}
use Rattle.std.specs.Prelude.{if◌then◌else◌}
use Rattle.std.specs.Str.Lines.{lines_of_parts}
use Rattle.std.proofs.lemmas.List.Splits.{length-slice_split}
use Rattle.std.proofs.lemmas.List.Sums.{count_by-le-length}
use Rattle.merge_types.specs.declared.identifiers.SiteId.{SiteId}
use Rattle.merge_schema.specs.declared.publication.Publication.{Publication}
use Rattle.merge_script.specs.Lines.{is_line_feed, lines_of, parts_of}
use Rattle.merge_keeper.specs.PublisherStart.{publisher_loaded}
use Rattle.merge_keeper.specs.Stored.{publisher_records}
use Rattle.merge_model.specs.History.Model.{Model}
use Rattle.merge_model.specs.Publisher.{new_holders}
use Rattle.merge_model.specs.Tables.Keys.{at_number}
use Rattle.merge_model.specs.Tables.{PublisherTables}
use Rattle.merge_model.specs.World.{World}
use Rattle.merge_model.specs.declared.event.Event.{Event}
use Rattle.merge_typed.specs.Outside.{EventIsTyped, EventsAreTyped, MomentsFit, moment_after}
use Rattle.merge_stored.specs.TypedRuns.{StoresLoad}
use Rattle.merge_site.specs.Publishers.{publisher_stored}
use Rattle.merge_world.specs.Views.{SitesView, world_of}
use Rattle.merge_program.specs.Sited.{LoadsAs, LoadsAt}

-- The first of typed events are.

values-front : (xs ys : List Event) → AllByRecursion EventIsTyped (xs ++ ys) → AllByRecursion EventIsTyped xs
values-front [] ys all = tt
values-front (x ∷ xs) ys all = (all.0, values-front xs ys all.1)

moments-front : (moment : ℕ) (xs ys : List Event) → MomentsFit moment (xs ++ ys) → MomentsFit moment xs
moments-front moment [] ys fit = tt
moments-front moment (x ∷ xs) ys fit = (fit.0, moments-front (moment_after moment x) xs ys fit.1)

pub front-typed : (xs ys : List Event) → EventsAreTyped (xs ++ ys) → EventsAreTyped xs
front-typed xs ys typed = record { values = values-front xs ys typed.values; moments = moments-front 0 xs ys typed.moments }

-- A text has few lines: at most one more than it has bytes.

last-line : (none : Bool) (x : List ℕ) → length (if none then [] else x ∷ []) ≤ 1
last-line true x = omega arith
last-line false x = omega arith

lines-within : (parts : List (List ℕ)) → length (lines_of_parts parts) ≤ length parts
lines-within [] = omega arith
lines-within (x ∷ []) = last-line (length x == 0) x
lines-within (x ∷ y ∷ more) = let rest = lines-within (y ∷ more) in omega (arith, rest)

pub few-lines : (text : List ℕ) → length text ≤ 67108864 → length (lines_of text) ≤ 2 ^ 32
few-lines text short =
    let within : length (lines_of text) ≤ length (parts_of text) = lines-within (parts_of text) in
    let parts : length (parts_of text) ≡ count_by is_line_feed text + 1 = length-slice_split is_line_feed text in
    let few : count_by is_line_feed text ≤ length text = count_by-le-length is_line_feed text in
    omega (arith, within, parts, few, short)

-- The records of a world's tables load.
module _ (publication : Publication) (site : SiteId) (v : SitesView) (tallies : List ℕ) (m : Model) (same : m.world ≡ world_of v tallies) (stores : StoresLoad publication m) where
  loads-as : (is_publisher : Bool) → LoadsAs is_publisher publication site v
  loads-as true =
      subst (λ (p : PublisherTables). publisher_loaded publication (new_holders publication) (publisher_records (publisher_stored p)) ≡ Ok (publisher_stored p)) (ap (λ (w : World). w.publisher) same) stores.publisher
  loads-as false = λ s here. stores.subscribers site.0 s (ap (λ (w : World). at_number w.subscribers site.0) same ∙ here)

  pub loads-at : LoadsAt publication site v
  loads-at = loads-as (site.0 == 0)
