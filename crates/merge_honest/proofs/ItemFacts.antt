-- What is known of an upload's items: their lineages tell of what they know, which was made and, of other sites, accepted.
use Rattle.std.specs.List.{AllByRecursion, AllZip, list_any}
use Rattle.std.specs.Prelude.{Bool, List, None, Option, Some, [], cond, false, filter, if◌then◌else◌, is_some, map, refl, true, unwrap_or, zero, suc, ℕ, ◌+◌, ◌==◌, ◌&&◌, ◌≡◌, ◌≤◌, ◌∷◌}
use Rattle.std.proofs.Common.{ap, arith, subst, sym, ◌∙◌}
use Rattle.std.proofs.lemmas.Bool.Decides.{nat_tests}
use Rattle.merge_types.specs.declared.identifiers.Dot.{Dot}
use Rattle.merge_types.specs.declared.identifiers.SiteId.{SiteId}
use Rattle.merge_types.specs.declared.row_key.RowKey.{RowKey as Key}
use Rattle.merge_lineage.specs.Lineage.{IsAscending, number_at}
use Rattle.merge_lineage.proofs.Rising.{RisesFrom, rises_from_ascending}
use Rattle.merge_units.specs.declared.version.Version.{Version}
use Rattle.merge_schema.specs.Places.{is_subscription}
use Rattle.merge_schema.specs.declared.publication.Publication.{Publication}
use Rattle.merge_batch.specs.Lineages.{is_site}
use Rattle.merge_batch.specs.declared.request.Request.TheVariants as request
use Rattle.merge_batch.specs.declared.request.Upload.{Upload}
use Rattle.merge_batch.specs.declared.request.UploadItem.{UploadItem}
use Rattle.merge_model.specs.Publisher.Acts.{key_of_item}
use Rattle.merge_model.specs.History.{History, MadeChange, Past, has, is_accepted, made_at, no_past, past_in, pasts_with}
use Rattle.merge_model.specs.Tables.Keys.{at_number, row_at, same_key}
use Rattle.merge_model.specs.History.Model.{Model}
use Rattle.merge_model.specs.Tables.{SubscriberTables}
use Rattle.merge_model.specs.declared.letter.Letter.{Letter}
use Rattle.merge_model.specs.declared.letter.Message.TheVariants.{Asks}
use Rattle.merge_model.proofs.Lists.Finding.{all-weaker, letter-zip}
use Rattle.merge_model.proofs.Lists.{all-both}
use Rattle.merge_model.proofs.Lists.Tests.{number-itself, numbers-same}
use Rattle.merge_laws.specs.Invariants.Accepted.{SendsAccepted}
use Rattle.merge_laws.specs.Facts.Knowledge.{Knows, is_made, same_dot}
use Rattle.merge_laws.specs.Facts.LineagesStand.{OthersAccepted, counts_in}
use Rattle.merge_laws.specs.Facts.Standing.{IsKnownLater, Told}
use Rattle.merge_laws.proofs.Accounts.AccountElements.{IsIn, all-in, any-out, filter-in}
use Rattle.merge_laws.proofs.Pasts.DotTests.{dots-same}
use Rattle.merge_laws.proofs.Known.KnownRows.{letter-knows, past-knows}
use Rattle.merge_laws.proofs.Told.ToldLetters.{letter-fits}
use Rattle.merge_honest.specs.Delivered.{IsRequest}
use Rattle.merge_honest.proofs.Rules.{Known}

-- In an ascending lineage each number is that of its site.

all-above : (low : ℕ) (lineage : List Dot) → RisesFrom low lineage → AllByRecursion (λ (dot : Dot). low ≤ dot.site.0) lineage
all-above low [] rises = tt
all-above low (dot ∷ rest) rises =
    let first : low ≤ dot.site.0 = rises.0 in
    (first, all-weaker (λ (other : Dot). dot.site.0 + 1 ≤ other.site.0) (λ (other : Dot). low ≤ other.site.0) (λ other above. omega (arith, first, above)) rest (all-above (dot.site.0 + 1) rest rises.1))

abbrev pub IsNumbered : List Dot → Dot → Type 0
IsNumbered lineage dot = number_at lineage dot.site.0 ≡ Some dot.number

behind : (dot other : Dot) (rest : List Dot) → dot.site.0 + 1 ≤ other.site.0 → IsNumbered rest other → IsNumbered (dot ∷ rest) other
behind dot other rest above is = let differs : (dot.site.0 == other.site.0) ≡ false = grind (arith, nat_tests, above) in grind (arith, differs, is)

first-number : (dot : Dot) (rest : List Dot) → IsNumbered (dot ∷ rest) dot
first-number dot rest = grind (arith, number-itself dot.site.0)

rising-numbered : (low : ℕ) (lineage : List Dot) → RisesFrom low lineage → AllByRecursion (IsNumbered lineage) lineage
rising-numbered low [] rises = tt
rising-numbered low (dot ∷ rest) rises = (
  first-number dot rest,
  all-both (λ (other : Dot). dot.site.0 + 1 ≤ other.site.0) (IsNumbered rest) (IsNumbered (dot ∷ rest)) (λ other above is. behind dot other rest above is) rest
      (all-above (dot.site.0 + 1) rest rises.1) (rising-numbered (dot.site.0 + 1) rest rises.1),
)

pub lineage-numbered : (lineage : List Dot) → IsAscending lineage → AllByRecursion (IsNumbered lineage) lineage
lineage-numbered lineage ascending = rising-numbered 0 lineage (rises_from_ascending lineage ascending)

-- what is found among pasts that hold
past-cond : (P : Past → Type 0) (b : Bool) (past : Past) (rest : Option Past) → P past → P (unwrap_or rest no_past) → P (unwrap_or (let found : Option Past = cond b (Some past) rest in found) no_past)
past-cond P true past rest here more = here
past-cond P false past rest here more = more

pub past-holds : (P : Past → Type 0) → P no_past → (pasts : List (Key × Past)) (key : Key) → AllByRecursion (λ (row : Key × Past). P row.1) pasts → P (past_in pasts key)
past-holds P none [] key all = none
past-holds P none (row ∷ pasts) key all = past-cond P _ row.1 (row_at pasts key) all.0 (past-holds P none pasts key all.1)

-- A change that was made is of the publisher or of a site that subscribes, and is numbered from 1.
module _ (publication : Publication) (m : Model) (k : Known publication m) where
  abbrev h : History
  h = m.history

  none-in : (n : ℕ) (c : MadeChange) → made_at h n ≡ [] → IsIn c (made_at h n) → ⊥
  none-in n c none is = subst (λ (changes : List MadeChange). IsIn c changes) none is

  made-by : (n : ℕ) (c : MadeChange) (found : Option SubscriberTables) → at_number m.world.subscribers n ≡ found → IsIn c h.made → c.dot.site.0 ≡ n → (n ≡ 0 → ⊥) → is_subscription publication n ≡ true
  made-by n c None is inside same named =
      absurd (none-in n c (k.whole.0.0.numbered.strangers n named is) (filter-in (λ (change : MadeChange). change.dot.site.0 == n) h.made c inside (let here : (c.dot.site.0 == n) ≡ true = grind (arith, nat_tests, same) in here)))
  made-by n c (Some s) is inside same named = (k.whole.1.known n s is).subscribes

  low-by : (n : ℕ) (c : MadeChange) (found : Option SubscriberTables) → at_number m.world.subscribers n ≡ found → IsIn c h.made → c.dot.site.0 ≡ n → (n ≡ 0 → ⊥) → n ≤ 63
  low-by n c None is inside same named =
      absurd (none-in n c (k.whole.0.0.numbered.strangers n named is) (filter-in (λ (change : MadeChange). change.dot.site.0 == n) h.made c inside (let here : (c.dot.site.0 == n) ≡ true = grind (arith, nat_tests, same) in here)))
  low-by n c (Some s) is inside same named = k.kept.grounded.1.1.0 n s is

  made-low : (n : ℕ) (c : MadeChange) → IsIn c h.made → c.dot.site.0 ≡ n → n ≤ 63
  made-low zero c inside same = omega arith
  made-low (suc n) c inside same = low-by (suc n) c (at_number m.world.subscribers (suc n)) refl inside same (λ none. absurd (omega (arith, none)))

  made-site : (n : ℕ) (c : MadeChange) → IsIn c h.made → c.dot.site.0 ≡ n → is_site publication n ≡ true
  made-site zero c inside same = refl
  made-site (suc n) c inside same =
      let is : is_subscription publication (suc n) ≡ true = made-by (suc n) c (at_number m.world.subscribers (suc n)) refl inside same (λ none. absurd (omega (arith, none))) in
      grind (arith, is)

  pub record WasMade (dot : Dot) : Type 0 where
    pub site : is_site publication dot.site.0 ≡ true
    pub low : dot.site.0 ≤ 63
    pub numbered : 1 ≤ dot.number

  pub was-made : (key : Key) (dot : Dot) → is_made h.made key dot ≡ true → WasMade dot
  was-made key dot is = any-out (WasMade dot) (λ (change : MadeChange). same_dot change.dot dot && same_key key change.key) h.made is (λ c inside passes. (
      let same : c.dot ≡ dot = dots-same c.dot dot (let both : same_dot c.dot dot ≡ true = grind (arith, passes) in both) in
      let numbered : 1 ≤ c.dot.number = (all-in (IsKnownLater h.made (counts_in m)) h.made c k.kept.own.making inside).numbered in
      subst WasMade same (record { site = made-site c.dot.site.0 c inside refl; low = made-low c.dot.site.0 c inside refl; numbered = numbered })))

  -- Of an upload in the pool.
  module _ (number : ℕ) (site : SiteId) (u : Upload) (at : IsRequest m number site (request.Upload u)) where
    abbrev pub pasts : List (Key × Past)
    pasts = pasts_with h number

    abbrev pub known_to : UploadItem → List Dot
    known_to item = (past_in pasts (key_of_item item)).known

    abbrev pub letter : Letter
    letter = record { site = site; message = Asks (request.Upload u) }

    pub record ItemKnown (item : UploadItem) : Type 0 where
      pub told : Told item.version (known_to item)
      -- what it knows was made, of this row
      pub knows : Knows h.made (key_of_item item) (known_to item)
      pub made : (dot : Dot) → has (known_to item) dot ≡ true → WasMade dot
      -- and is accepted, but for the uploader's own
      pub others : OthersAccepted h u.site.0 (known_to item)

    sent-accepted : AllByRecursion (λ (row : Key × Past). OthersAccepted h u.site.0 row.1.known) pasts
    sent-accepted = letter-zip (λ (x : Letter) (ps : List (Key × Past)). SendsAccepted h ps x.message) m.world h number letter k.kept.accepted.accepted.sent at

    others-of : (key : Key) → OthersAccepted h u.site.0 (past_in pasts key).known
    others-of key = past-holds (λ (past : Past). OthersAccepted h u.site.0 past.known) (λ dot is differs. absurd (grind (arith, is))) pasts key sent-accepted

    knows-of : (key : Key) → Knows h.made key (past_in pasts key).known
    knows-of key = past-knows h.made key pasts (letter-knows h number k.whole.0.0.known.knowledge)

    pub items-known : AllByRecursion ItemKnown u.items
    items-known = all-weaker (λ (item : UploadItem). Told item.version (known_to item)) ItemKnown
        (λ item told. record { told = told; knows = knows-of (key_of_item item); made = λ dot is. was-made (key_of_item item) dot ((knows-of (key_of_item item)).made_here dot is); others = others-of (key_of_item item) }) u.items
        (letter-fits (λ (key : Key) (version : Version) (past : Past). Told version past.known) m.world h number letter at k.kept.told.letters)
