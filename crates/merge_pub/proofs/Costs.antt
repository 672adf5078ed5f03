-- How often filters are evaluated in a step.
use Rattle.std.specs.List.{fold}
use Rattle.std.specs.Option.{option_to_list}
use Rattle.std.specs.Prelude.{Bool, List, None, Option, Some, [], if◌then◌else◌, false, length, map, true, ℕ, ◌++◌, ◌+◌, ◌*◌, ◌≡◌, ◌≤◌, ◌∷◌}
use Rattle.std.proofs.Common.{ap, arith, length-append, subst, sym}
use Rattle.std.proofs.Math.Nat.{mul-le-mul_left}
use Rattle.merge_types.specs.declared.changes.Change.{Change}
use Rattle.merge_types.specs.declared.identifiers.Dot.{Dot}
use Rattle.merge_types.specs.declared.row_key.RowKey.{RowKey as Key}
use Rattle.merge_types.specs.declared.values.Value.{Value}
use Rattle.merge_units.specs.declared.site_row.PublisherRow.{PublisherRow}
use Rattle.merge_units.specs.declared.version.Version.{Version}
use Rattle.merge_schema.specs.declared.publication.Publication.{Publication}
use Rattle.merge_batch.specs.declared.request.UploadItem.{UploadItem}
use Rattle.merge_part.specs.Taking.{count_if_some, living}
use Rattle.merge_batch.specs.LocalChanges.{key_of, version_after}
use Rattle.merge_model.specs.Publisher.Acts.{Act, key_of_item, version_of_act}
use Rattle.merge_model.specs.Tables.Keys.{row_at}
use Rattle.merge_model.specs.World.{Saying}
use Rattle.merge_pub.specs.Held.{Held, publication_of}
use Rattle.merge_pub.specs.Local.{changed_version, versions_after}
use Rattle.merge_steps.specs.Uploading.{Pass, act_at, acts_in, after_act, after_item, after_items, pass_at}
use Rattle.merge_steps.specs.Working.{row_change}
use Rattle.merge_steps.specs.declared.acting.Acting.{Acting}
use Rattle.merge_steps.specs.declared.acting.Arrival.{Arrival}

one-lives : {X : Type 0} (new : Option X) → count_if_some new ≤ 1
one-lives None = omega arith
one-lives (Some x) = omega arith

pub living-few : (versions : List (Key × Version)) → living (map row_change versions) ≤ length versions
living-few [] = omega arith
living-few (row ∷ rows) = omega (arith, one-lives (row_change row).new, living-few rows)

-- a count that is within so many times the subscriptions is within more times
pub within-more : (subscriptions few most before after : ℕ) → few ≤ most → after ≤ before + subscriptions * few → after ≤ before + subscriptions * most
within-more subscriptions few most before after less within = omega (arith, within, mul-le-mul_left subscriptions less)

pub versions-cost : (there here : Publication) → there ≡ here → (versions given : List (Key × Version)) → versions ≡ given → (before after : ℕ)
    → after ≤ before + length there.subscriptions * living (map row_change versions) → after ≤ before + length here.subscriptions * length given
versions-cost there here same versions given are before after within = within-more (length here.subscriptions) (living (map row_change given)) (length given) before after (living-few given) (rw (same, are) at within)

-- A local change gives one version at most.

one-given : (key : Key) (o : Option Version) → length {A = Key × Version} (map (λ (version : Version). (key, version)) (option_to_list o)) ≤ 1
one-given key None = omega arith
one-given key (Some version) = omega arith

once-each : (subscriptions before after few : ℕ) → few ≤ 1 → after ≤ before + subscriptions * few → after ≤ before + subscriptions
once-each subscriptions before after few one within = omega (arith, within-more subscriptions few 1 before after one within)

pub local-cost : (h now : Held) → h ≡ now → (publication : Publication) (dot : Dot) (identity : Value) (change : Change) (rows : List (Key × PublisherRow)) (versions : List (Key × Version))
    → versions ≡ versions_after publication dot identity change rows → (before after : ℕ) → after ≤ before + length (publication_of h).subscriptions * living (map row_change versions)
    → after ≤ before + length (publication_of now).subscriptions
local-cost h now is publication dot identity change rows versions are before after within =
    let one : length versions ≤ 1 = subst (λ (given : List (Key × Version)). length given ≤ 1) (sym are) (one-given (key_of dot change) (version_after publication dot identity change (changed_version dot change rows))) in
    subst (λ (x : Held). after ≤ before + length (publication_of x).subscriptions) is
    (once-each (length (publication_of h).subscriptions) before after (living (map row_change versions)) (omega (arith, one, living-few versions)) within)

-- Each item that acts gives one version at most.

one-version : (o : Option (Key × Version)) → length (option_to_list o) ≤ 1
one-version None = omega arith
one-version (Some version) = omega arith

module _ (publication : Publication) (rows : List (Key × PublisherRow)) (arrival : Arrival) (says : Saying) where
  version-after-act : (pass : Pass) (item : UploadItem) (held : Option PublisherRow) → length (after_act publication arrival says pass item held).acting.versions ≤ length pass.acting.versions + 1
  version-after-act pass item held =
      let act : Act = act_at publication arrival says pass.tallies (pass.acting.changes + 1) item held in
      omega (arith, length-append pass.acting.versions (option_to_list (version_of_act act)), one-version (version_of_act act))

  version-if : (b : Bool) (pass : Pass) (item : UploadItem) (held : Option PublisherRow)
      → length (let after : Pass = if b then after_act publication arrival says pass item held else pass in after).acting.versions ≤ length pass.acting.versions + 1
  version-if true pass item held = version-after-act pass item held
  version-if false pass item held = omega arith

  versions-after : (items : List UploadItem) (pass : Pass) → length (fold (after_item publication rows arrival says) pass items).acting.versions ≤ length pass.acting.versions + length items
  versions-after [] pass = omega arith
  versions-after (item ∷ items) pass =
      omega (arith, versions-after items (after_item publication rows arrival says pass item), version-if (acts_in arrival item) pass item (row_at rows (key_of_item item)))

  pub versions-few : (acting start : Acting) (first after : List ℕ) (items : List UploadItem) → pass_at acting after ≡ after_items publication rows arrival says (pass_at start first) items
      → length acting.versions ≤ length start.versions + length items
  unfolding after_items
  versions-few acting start first after items passed =
      subst (λ (pass : Pass). length pass.acting.versions ≤ length start.versions + length items) (sym passed) (versions-after items (pass_at start first))
