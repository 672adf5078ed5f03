-- Where sites hold what they are to hold, a settled site holds its partition.
use Rattle.std.specs.Prelude.{◌≡◌, ◌≤◌, ◌+◌, ℕ, List, [], ◌∷◌, Bool, true, false, Option, Some, None, refl, if◌then◌else◌, filter_map, map, option_map}
use Rattle.std.specs.List.{cons_option}
use Rattle.std.specs.Option.{option_and_then}
use Rattle.std.proofs.Common.{arith, sym, ap, ◌∙◌}
use Rattle.merge_units.specs.Version.{is_live}
use Rattle.merge_units.specs.declared.version.Version.{Version}
use Rattle.merge_schema.specs.Valid.{IsValid}
use Rattle.merge_schema.specs.declared.publication.Publication.{Publication}
use Rattle.merge_table.proofs.LookUps.{rows_from_look_ups}
use Rattle.merge_model.specs.Failing.{Slips}
use Rattle.merge_model.specs.Failing.Runs.{model_behind, model_behind_actions}
use Rattle.merge_model.specs.History.{MadeChange, made_at}
use Rattle.merge_types.specs.RowKeys.{key_cmp}
use Rattle.merge_model.specs.Tables.Keys.{at_number, has_key, row_at}
use Rattle.merge_model.specs.Laws.{SubscriberIsSorted}
use Rattle.merge_model.specs.History.Model.{Model, model_step}
use Rattle.merge_model.specs.Laws.Promises.{HoldsPartition, IsSettled, SettledHoldsPartition, base_of, live_version, version_if_in}
use Rattle.merge_model.specs.Publisher.PublisherDownload.{inside_keys}
use Rattle.merge_model.specs.World.Steps.{Action}
use Rattle.merge_model.specs.Subscriber.{subscriber_last_closed}
use Rattle.merge_types.specs.declared.row_key.RowKey.{RowKey as Key}
use Rattle.merge_units.specs.declared.site_row.PublisherRow.{PublisherRow}
use Rattle.merge_units.specs.declared.site_row.SubscriberRow.{SubscriberRow}
use Rattle.merge_model.specs.Tables.{SubscriberTables}
use Rattle.merge_model.specs.World.{Saying, World}
use Rattle.merge_model.specs.declared.event.Event.{Event}
use Rattle.merge_model.specs.Judge.ByNumbers.{received_by_number}
use Rattle.merge_model.proofs.Publishers.Sorted.{key_total}
use Rattle.merge_laws.specs.Laws.{OfEveryValidActions}
use Rattle.merge_laws.specs.Facts.Settled.{OfPublisher, OfSites, Settled, SiteHolds, TouchedInOrder, changed_of, held_at, live_only, made_in, owed_at, site_view}
use Rattle.merge_laws.specs.Invariants.Unsent.{last_made}
use Rattle.merge_laws.proofs.Unsent.Changed.{made-changed}
use Rattle.merge_laws.proofs.Runs.Ground.{Ground, grounded-by-actions}
use Rattle.merge_model.proofs.Lists.KeyLookUps.{keys-tied}
use Rattle.merge_laws.proofs.Settled.SettledExpired.{expired-later}
use Rattle.merge_laws.proofs.Settled.SettledRows.{kept-ascend, kept-at, kept_rows, with_value}
use Rattle.merge_laws.proofs.Settled.SettledSent.{none-changed}
use Rattle.merge_laws.proofs.Settled.SettledSteps.{Known, sites-begin, sites-keep}
use Rattle.merge_laws.proofs.Settled.SettledWorlds.{if-found}
use Rattle.merge_laws.proofs.Touched.TouchedSteps.{touched-begins, touched-keeps}
use Rattle.merge_laws.proofs.Unsent.UnsentKept.{all-found}
use Rattle.merge_laws.proofs.Walking.{step-keeps}
use Rattle.merge_laws.proofs.Runs.OfActions.{of-events}

-- The rows that a site holds, and those that it is to hold, as rows for which there is a value.

abbrev held_value : Key → SubscriberRow → Option Version
held_value key row = live_only (Some row.version)

abbrev owed_value : List Key → Key → PublisherRow → Option Version
owed_value inside key row = if has_key inside key then Some row.version else None

value-cons : (key : Key) (version : Version) (b : Bool) (rest : List (Key × Version)) → (let first : Option (Key × Version) = if b then Some (key, version) else None in cons_option first rest)
    ≡ (let found : Option Version = if b then Some version else None in with_value key found rest)
value-cons key version true rest = refl
value-cons key version false rest = refl

held-rows : (rows : List (Key × SubscriberRow)) → filter_map live_version (map (λ (row : Key × SubscriberRow). (row.0, row.1.version)) rows) ≡ kept_rows held_value rows
held-rows [] = refl
held-rows (row ∷ rows) =
    ap (λ (rest : List (Key × Version)). cons_option (live_version (row.0, row.1.version)) rest) (held-rows rows) ∙ value-cons row.0 row.1.version (is_live row.1.version.body) (kept_rows held_value rows)

owed-rows : (inside : List Key) (rows : List (Key × PublisherRow)) → filter_map (version_if_in inside) rows ≡ kept_rows (owed_value inside) rows
owed-rows inside [] = refl
owed-rows inside (row ∷ rows) =
    ap (λ (rest : List (Key × Version)). cons_option (version_if_in inside row) rest) (owed-rows inside rows) ∙ value-cons row.0 row.1.version (has_key inside row.0) (kept_rows (owed_value inside) rows)

held-found : (q : Key) (found : Option SubscriberRow) → option_and_then (held_value q) found ≡ live_only (option_map (λ (row : SubscriberRow). row.version) found)
held-found q None = refl
held-found q (Some row) = refl

none-either : (b : Bool) → (let found : Option Version = None in found) ≡ (if b then None else None)
none-either true = refl
none-either false = refl

owed-found : (inside : List Key) (q : Key) (found : Option PublisherRow) → option_and_then (owed_value inside q) found ≡ (if has_key inside q then option_map (λ (row : PublisherRow). row.version) found else None)
owed-found inside q None = none-either (has_key inside q)
owed-found inside q (Some row) = refl

module _ (publication : Publication) (m : Model) (g : Ground publication m.world m.history) (i : Settled publication m.world m.history) (s : SubscriberTables) (is : IsSettled publication m s) where
  abbrev w : World
  w = m.world

  abbrev n : ℕ
  n = s.site.0

  abbrev made : List MadeChange
  made = made_at m.history n

  named : n ≡ 0 → ⊥
  named zero_is = (let same = ap (λ (k : ℕ). at_number w.subscribers k) zero_is in let none = g.none in let here = is.is_here in grind (arith, same, none, here))

  -- nothing is unsent, so that the last change of each row has acted
  acted : (q : Key) → changed_of made q ≤ received_by_number w.publisher n
  acted q =
      let order = (g.numbered.subscribers n s is.is_here).order named in
      let none : last_made s.received (subscriber_last_closed s + 1) q made ≡ None =
      sym (made-changed s.received (subscriber_last_closed s + 1) s.changes (subscriber_last_closed s + 1) q made order) ∙ ap (λ (rows : List (Key × ℕ)). row_at rows q) is.nothing_unsent in
      let up = none-changed s.received (subscriber_last_closed s + 1) s.changes (subscriber_last_closed s + 1) q made order (omega arith) none in
      let behind = (g.behind.subscribers n s is.is_here).behind is.joined in
      omega (arith, up, behind)

  touched : TouchedInOrder publication w.publisher (base_of m.history s.site) s.site
  touched = if-found (λ x. TouchedInOrder publication w.publisher (base_of m.history x.site) x.site) (at_number w.subscribers n) s is.is_here (i.publisher n)

  holds : SiteHolds (site_view publication w.publisher (made_in m.history.made n) n) s
  holds = if-found (SiteHolds (site_view publication w.publisher (made_in m.history.made n) n)) (at_number w.subscribers n) s is.is_here (i.sites.sites n)

  rows-equal : (q : Key) → held_at s q ≡ owed_at publication w.publisher s.site q
  rows-equal q =
      let low = touched.unused is.none_open q in
      let mark = is.all_held in
      holds.equal (expired-later publication w.publisher.latest w.moment (at_number w.publisher.sites n) g.in_step.been is.in_time) is.joined q (acted q) (omega (arith, low, mark))

  abbrev inside : List Key
  inside = inside_keys publication s.site w.publisher

  pub holds-partition : HoldsPartition publication m s
  holds-partition =
      let sorted : SubscriberIsSorted s = all-found SubscriberIsSorted w.subscribers n s g.rows is.is_here in
      held-rows s.rows
      ∙ rows_from_look_ups key_cmp key_total keys-tied (kept_rows held_value s.rows) (kept_rows (owed_value inside) w.publisher.rows) (kept-ascend held_value s.rows sorted.rows_ascend) (kept-ascend (owed_value inside) w.publisher.rows g.sorted.rows_ascend)
      (λ q. kept-at held_value q s.rows sorted.rows_ascend ∙ held-found q (row_at s.rows q) ∙ rows-equal q ∙ sym (owed-found inside q (row_at w.publisher.rows q)) ∙ sym (kept-at (owed_value inside) q w.publisher.rows g.sorted.rows_ascend))
      ∙ sym (owed-rows inside w.publisher.rows)

-- The law, from what every list of events keeps.
pub settled-holds : (publication : Publication) (m : Model) → Ground publication m.world m.history → Settled publication m.world m.history → SettledHoldsPartition publication m
settled-holds publication m g i s is = holds-partition publication m g i s is

-- Every list of events keeps both parts.

pub settled-step : (publication : Publication) (says : Saying) (m : Model) (action : Action) → Ground publication m.world m.history → Settled publication m.world m.history → (let after : Model = (model_step publication says m action).0 in Settled publication after.world after.history)
settled-step publication says m action g i = record {
  sites = step-keeps publication says (Known publication) (OfSites publication) (λ w h b. b.0.received) (sites-keep publication says) m action (g, i.publisher) i.sites;
  publisher = step-keeps publication says (Ground publication) (OfPublisher publication) (λ w h b. b.received) (touched-keeps publication says) m action g i.publisher;
}

pub settled-by-actions : (publication : Publication) (says : Saying) (tallies : List ℕ) (slips : Slips) (actions : List Action) → (resolvers : ℕ) × IsValid resolvers publication
    → (let m : Model = model_behind_actions publication says tallies slips actions in Ground publication m.world m.history × Settled publication m.world m.history)
settled-by-actions publication says tallies slips actions valid = grounded-by-actions publication says tallies slips actions valid (Settled publication) (settled-step publication says) (λ w h others s. record { sites = s.sites; publisher = s.publisher })
    (record { sites = sites-begin publication tallies; publisher = touched-begins publication tallies })

pub settled-always : (publication : Publication) (says : Saying) (tallies : List ℕ) (slips : Slips) (events : List Event) → (resolvers : ℕ) × IsValid resolvers publication
    → (let m : Model = model_behind publication says tallies slips events in Ground publication m.world m.history × Settled publication m.world m.history)
settled-always publication says tallies slips events valid =
    of-events publication says tallies slips events (λ (m : Model). Ground publication m.world m.history × Settled publication m.world m.history) (λ actions. settled-by-actions publication says tallies slips actions valid)

pub settled-sites-hold : OfEveryValidActions (λ publication says m. SettledHoldsPartition publication m)
settled-sites-hold resolvers publication valid says tallies slips actions =
    let both = settled-by-actions publication says tallies slips actions (resolvers, valid) in
    settled-holds publication (model_behind_actions publication says tallies slips actions) both.0 both.1
