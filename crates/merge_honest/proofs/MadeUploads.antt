-- The rules that an upload keeps by how it is made: 1, 2, 3, 5 and 8.
use Rattle.std.specs.List.Sorted.{IsStrictlySortedBy}
use Rattle.std.specs.Prelude.{List, None, Option, Some, [], length, map, nat_le, refl, true, ℕ, ◌+◌, ◌-◌, ◌≡◌, ◌≤◌, ◌∷◌}
use Rattle.std.specs.declared.cmp.Ordering.TheVariants.{Less}
use Rattle.std.proofs.Common.{arith}
use Rattle.std.proofs.lemmas.Bool.Decides.{nat_tests}
use Rattle.merge_table.proofs.Room.{AreAbove}
use Rattle.merge_types.specs.Limits.{generation_limit, item_limit}
use Rattle.merge_types.specs.RowKeys.{key_cmp}
use Rattle.merge_types.specs.declared.identifiers.SiteId.{SiteId}
use Rattle.merge_schema.specs.declared.publication.Publication.{Publication}
use Rattle.merge_batch.specs.Uploads.{has_few_generations, has_few_items, has_generations, is_in_interval, row_rises}
use Rattle.merge_batch.specs.declared.request.Request.TheVariants as request
use Rattle.merge_batch.specs.declared.request.Upload.{Upload}
use Rattle.merge_batch.specs.declared.request.UploadItem.{UploadItem}
use Rattle.merge_model.specs.Publisher.Acts.{key_of_item}
use Rattle.merge_model.specs.History.Model.{Model}
use Rattle.merge_model.specs.declared.letter.Letter.{Letter}
use Rattle.merge_model.specs.declared.letter.Message.TheVariants.{Asks}
use Rattle.merge_model.proofs.Lists.Finding.{pool-at}
use Rattle.merge_model.proofs.Lists.{all-unit}
use Rattle.merge_laws.specs.Laws.{OfEveryValidRun}
use Rattle.merge_honest.specs.Delivered.{IsRequest, NoneIsRefusedFor, breaks}
use Rattle.merge_honest.specs.Filled.{HasGeneration, OfUpload}
use Rattle.merge_honest.specs.SentWell.{IsMadeWell, StandsIn}
use Rattle.merge_honest.proofs.Breaking.{Follows, follows-all}
use Rattle.merge_honest.proofs.Rules.{Known, ItemMeets, UploadsKeep, head-met, of-uploads}
use Rattle.merge_honest.proofs.KnownSenders.{request-well}

made-well : (publication : Publication) (m : Model) (number : ℕ) (site : SiteId) (u : Upload) → Known publication m → IsRequest m number site (request.Upload u) → IsMadeWell u
made-well publication m number site u k at = (request-well publication m number site (request.Upload u) k.whole at).made

-- an upload that is made has a generation
begun-meet : (publication : Publication) (m : Model) → Known publication m → UploadsKeep 1 publication m
begun-meet publication m k number site u at fine =
    let goes : HasGeneration u = pool-at (λ (letter : Letter). OfUpload HasGeneration letter.message) m.world number (record { site = site; message = Asks (request.Upload u) }) at k.begun in
    let is : has_generations u ≡ true = grind (arith, nat_tests, goes) in
    (head-met 1 publication m number u (grind (arith, is)), follows-all (λ (item : UploadItem). Unit {0}) (ItemMeets 1 publication m number u) (λ before item unit. refl) None u.items (all-unit u.items))

few : (from to limit : ℕ) → to ≤ from + limit → nat_le (to - from) limit ≡ true
few from to limit up = grind (arith, nat_tests, up)

within : (n limit : ℕ) → n ≤ limit → nat_le n limit ≡ true
within n limit up = grind (arith, nat_tests, up)

generations-meet : (publication : Publication) (m : Model) → Known publication m → UploadsKeep 2 publication m
generations-meet publication m k number site u at fine =
    let is : has_few_generations u ≡ true = few u.from u.to generation_limit (made-well publication m number site u k at).few_generations in
    (head-met 2 publication m number u (grind (arith, is)), follows-all (λ (item : UploadItem). Unit {0}) (ItemMeets 2 publication m number u) (λ before item unit. refl) None u.items (all-unit u.items))

items-meet : (publication : Publication) (m : Model) → Known publication m → UploadsKeep 3 publication m
items-meet publication m k number site u at fine =
    let is : has_few_items u ≡ true = within (length u.items) item_limit (made-well publication m number site u k at).few_items in
    (head-met 3 publication m number u (grind (arith, is)), follows-all (λ (item : UploadItem). Unit {0}) (ItemMeets 3 publication m number u) (λ before item unit. refl) None u.items (all-unit u.items))

-- each row is above the one before
less-below : (a b : UploadItem) → key_cmp (key_of_item a) (key_of_item b) ≡ Less → row_rises (Some a) b ≡ true
less-below a b less = grind (arith, nat_tests, less)

abbrev IsAbove : Option UploadItem → List UploadItem → Type 0
IsAbove None items = Unit {0}
IsAbove (Some before) items = AreAbove key_cmp (key_of_item before) (map key_of_item items)

rises-first : (before : Option UploadItem) (item : UploadItem) (items : List UploadItem) → IsAbove before (item ∷ items) → row_rises before item ≡ true
rises-first None item items above = refl
rises-first (Some before) item items above = less-below before item above.0

rows-rise : (before : Option UploadItem) (items : List UploadItem) → IsAbove before items → IsStrictlySortedBy key_cmp (map key_of_item items) → Follows (λ (b : Option UploadItem) (item : UploadItem). row_rises b item ≡ true) before items
unfolding IsStrictlySortedBy
rows-rise before [] above sorted = tt
rows-rise before (item ∷ items) above sorted = (rises-first before item items above, rows-rise (Some item) items sorted.0 sorted.1)

follows-more : (P Q : Option UploadItem → UploadItem → Type 0) → ((before : Option UploadItem) (item : UploadItem) → P before item → Q before item) → (before : Option UploadItem) (items : List UploadItem) → Follows P before items → Follows Q before items
follows-more P Q each before [] all = tt
follows-more P Q each before (item ∷ items) all = (each before item all.0, follows-more P Q each (Some item) items all.1)

rows-meet : (publication : Publication) (m : Model) → Known publication m → UploadsKeep 5 publication m
rows-meet publication m k number site u at fine =
    (head-met 5 publication m number u refl, follows-more (λ (b : Option UploadItem) (item : UploadItem). row_rises b item ≡ true) (ItemMeets 5 publication m number u) (λ before item rises. grind (arith, rises)) None u.items (rows-rise None u.items tt (made-well publication m number site u k at).ascend))

stands-in : (u : Upload) (item : UploadItem) → StandsIn u item → is_in_interval u item ≡ true
stands-in u item stands = let low = stands.0 in let high = stands.1 in grind (arith, nat_tests, low, high)

intervals-meet : (publication : Publication) (m : Model) → Known publication m → UploadsKeep 8 publication m
intervals-meet publication m k number site u at fine =
    (head-met 8 publication m number u refl, follows-all (StandsIn u) (ItemMeets 8 publication m number u) (λ before item stands. (let is : is_in_interval u item ≡ true = stands-in u item stands in grind (arith, is))) None u.items (made-well publication m number site u k at).stand)

pub no-upload-without : OfEveryValidRun (NoneIsRefusedFor (breaks 1))
no-upload-without = of-uploads 1 refl refl begun-meet

pub no-many-generations : OfEveryValidRun (NoneIsRefusedFor (breaks 2))
no-many-generations = of-uploads 2 refl refl generations-meet

pub no-many-items : OfEveryValidRun (NoneIsRefusedFor (breaks 3))
no-many-items = of-uploads 3 refl refl items-meet

pub no-row-falls : OfEveryValidRun (NoneIsRefusedFor (breaks 5))
no-row-falls = of-uploads 5 refl refl rows-meet

pub none-stands-outside : OfEveryValidRun (NoneIsRefusedFor (breaks 8))
none-stands-outside = of-uploads 8 refl refl intervals-meet
