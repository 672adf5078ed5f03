-- What an upload accepts anew: the changes that its items know, each of the item's row.
use Rattle.std.specs.Prelude.{◌≡◌, ◌==◌, ◌&&◌, ℕ, List, [], ◌∷◌, Bool, true, false, Option, Some, None, refl, filter, if◌then◌else◌}
use Rattle.std.specs.List.{AllByRecursion, list_any}
use Rattle.std.proofs.Common.{arith, sym, ap, ◌∙◌}
use Rattle.std.proofs.lemmas.Bool.Decides.{nat_tests}
use Rattle.merge_types.specs.declared.identifiers.Dot.{Dot}
use Rattle.merge_types.specs.declared.identifiers.SiteId.{SiteId}
use Rattle.merge_batch.specs.Makers.{maker_of}
use Rattle.merge_batch.specs.declared.request.UploadItem.{UploadItem}
use Rattle.merge_model.specs.Publisher.Acts.{is_new_row, key_of_item}
use Rattle.merge_model.specs.Judge.ByHistory.{by_past}
use Rattle.merge_model.specs.History.{History, MadeChange, Past, has, is_accepted, is_done, made_at, past_in}
use Rattle.merge_model.specs.Tables.Keys.{same_key}
use Rattle.merge_types.specs.declared.row_key.RowKey.{RowKey as Key}
use Rattle.merge_laws.specs.Invariants.Accepting.{IsFine, accepts}
use Rattle.merge_laws.specs.Facts.Knowledge.{AllKnow, Knowledge, Knows, KnowsItsPast, same_dot}
use Rattle.merge_laws.proofs.Known.ChangeDots.{IsAlone}
use Rattle.merge_model.proofs.Lists.Finding.{all-weaker}
use Rattle.merge_laws.proofs.Accepted.GivenUp.{knows_of}
use Rattle.merge_model.proofs.Lists.KeyLookUps.{keys-same}
use Rattle.merge_laws.proofs.Known.Knowing.{made-was}
use Rattle.merge_laws.proofs.Known.KnownRows.{past-knows}
use Rattle.merge_model.proofs.Lists.{all-both, all-every, any-behind, any-first, any-mono}
use Rattle.merge_laws.proofs.Own.OwnKnowing.{found-change}
use Rattle.merge_laws.proofs.Own.OwnLocal.{KnowsMaker}
use Rattle.merge_laws.proofs.Pasts.DotTests.{dots-same}

-- an item of a row that knows a change, by the change's row
abbrev pub of_row : List (Key × Past) → Key → Dot → UploadItem → Bool
of_row incoming key dot item = same_key key (key_of_item item) && knows_of incoming dot (key_of_item item)

module _ (made : List MadeChange) (incoming : List (Key × Past)) (k : AllKnow made incoming) where
  -- what an item knows was made of its row
  any-row : (x : MadeChange) (items : List UploadItem) → IsAlone made x → list_any (λ (item : UploadItem). knows_of incoming x.dot (key_of_item item)) items ≡ true → list_any (of_row incoming x.key x.dot) items ≡ true
  any-row x items alone is = any-mono (λ (item : UploadItem). knows_of incoming x.dot (key_of_item item)) (of_row incoming x.key x.dot) items
      (λ item known. (let same = alone (key_of_item item) ((past-knows made (key_of_item item) incoming k).made_here x.dot known) in grind (arith, nat_tests, same, known))) is

  pub items-row : (items : List UploadItem) → AllByRecursion (IsAlone made) made
      → AllByRecursion (λ (x : MadeChange). list_any (λ (item : UploadItem). knows_of incoming x.dot (key_of_item item)) items ≡ true → list_any (of_row incoming x.key x.dot) items ≡ true) made
  items-row items alone = all-weaker (IsAlone made) (λ (x : MadeChange). list_any (λ (item : UploadItem). knows_of incoming x.dot (key_of_item item)) items ≡ true → list_any (of_row incoming x.key x.dot) items ≡ true) (λ x here. any-row x items here) made alone

  -- with a change an item knows what that knew
  pub items-closed : (items : List UploadItem)
      → AllByRecursion (λ (x : MadeChange). list_any (λ (item : UploadItem). knows_of incoming x.dot (key_of_item item)) items ≡ true → (dot : Dot) → has x.past.known dot ≡ true → list_any (λ (item : UploadItem). knows_of incoming dot (key_of_item item)) items ≡ true) made
  items-closed items = all-weaker (λ (x : MadeChange). (key : Key) → KnowsItsPast (past_in incoming key).known x)
      (λ (x : MadeChange). list_any (λ (item : UploadItem). knows_of incoming x.dot (key_of_item item)) items ≡ true → (dot : Dot) → has x.past.known dot ≡ true → list_any (λ (item : UploadItem). knows_of incoming dot (key_of_item item)) items ≡ true)
      (λ x closed some dot was. any-mono (λ (item : UploadItem). knows_of incoming x.dot (key_of_item item)) (λ (item : UploadItem). knows_of incoming dot (key_of_item item)) items (λ item is. closed (key_of_item item) is dot was) some)
      made (all-every (λ (key : Key) (x : MadeChange). KnowsItsPast (past_in incoming key).known x) made (λ key. (past-knows made key incoming k).closed))

  pub items-made : (dot : Dot) (items : List UploadItem) → list_any (λ (item : UploadItem). knows_of incoming dot (key_of_item item)) items ≡ true → list_any (λ (x : MadeChange). same_dot x.dot dot) made ≡ true
  items-made dot [] some = absurd (grind (arith, some))
  items-made dot (item ∷ items) some = elim (knows_of incoming dot (key_of_item item)) as (λ (b : Bool). knows_of incoming dot (key_of_item item) ≡ b → list_any (λ (x : MadeChange). same_dot x.dot dot) made ≡ true) [
    | true ↦ (λ e. made-was made (key_of_item item) dot ((past-knows made (key_of_item item) incoming k).made_here dot e))
    | false ↦ (λ e. items-made dot items (grind (arith, e, some)))
  ] refl

-- an item of the row that knows the change
pub row-item : (incoming : List (Key × Past)) (q : Key) (dot : Dot) (items : List UploadItem) → list_any (of_row incoming q dot) items ≡ true
    → (list_any (λ (item : UploadItem). same_key q (key_of_item item)) items ≡ true) × (has (past_in incoming q).known dot ≡ true)
row-item incoming q dot [] some = absurd (grind (arith, some))
row-item incoming q dot (item ∷ items) some = elim (of_row incoming q dot item) as (λ (b : Bool). of_row incoming q dot item ≡ b → (list_any (λ (x : UploadItem). same_key q (key_of_item x)) (item ∷ items) ≡ true) × (has (past_in incoming q).known dot ≡ true)) [
  | true ↦ (λ e. (let same : same_key q (key_of_item item) ≡ true = grind (arith, e) in
      (grind (arith, same), ap (λ (k : Key). has (past_in incoming k).known dot) (keys-same q (key_of_item item) same) ∙ grind (arith, e))))
  | false ↦ (λ e. (let rest = row-item incoming q dot items (grind (arith, e, some)) in (grind (arith, rest.0), rest.1)))
] refl

-- A row that is new: no change of it was accepted.

pub among-site : (site : ℕ) (made : List MadeChange) → AllByRecursion (λ (y : MadeChange). y.dot.site.0 ≡ site → (test : MadeChange → Bool) → test y ≡ true → list_any test (filter (λ (x : MadeChange). x.dot.site.0 == site) made) ≡ true) made
among-site site [] = tt
among-site site (c ∷ made) = (
  λ same test passes. any-first test (c.dot.site.0 == site) c (filter (λ (x : MadeChange). x.dot.site.0 == site) made) (grind (arith, nat_tests, same)) passes,
  all-weaker (λ (y : MadeChange). y.dot.site.0 ≡ site → (test : MadeChange → Bool) → test y ≡ true → list_any test (filter (λ (x : MadeChange). x.dot.site.0 == site) made) ≡ true)
      (λ (y : MadeChange). y.dot.site.0 ≡ site → (test : MadeChange → Bool) → test y ≡ true → list_any test (filter (λ (x : MadeChange). x.dot.site.0 == site) (c ∷ made)) ≡ true)
      (λ y found same test passes. any-behind test (c.dot.site.0 == site) c (filter (λ (x : MadeChange). x.dot.site.0 == site) made) (found same test passes)) made (among-site site made),
)

-- an insert that is accepted has acted
abbrev pub InsertActed : History → MadeChange → Type 0
InsertActed h change = maker_of change.key.row.0 ≡ Some change.dot → is_accepted h change.dot ≡ true → (change.dot.site.0 ≡ 0 → ⊥) → is_done h change.dot.site.0 change.generation ≡ true

module _ (h : History) (incoming : List (Key × Past)) (site : SiteId) (named : site.0 ≡ 0 → ⊥) (inserts : AllByRecursion (InsertActed h) h.made) where
  insert-met : (d : Dot) (key : Key) (y : MadeChange) → maker_of key.row.0 ≡ Some d → d.site.0 ≡ site.0 → accepts h.accepted d ≡ true → (by_past h incoming).is_unmet site.0 d.number ≡ true → InsertActed h y
      → (y.dot.site.0 ≡ site.0 → (test : MadeChange → Bool) → test y ≡ true → list_any test (made_at h site.0) ≡ true) → same_dot y.dot d ≡ true → same_key key y.key ≡ true → ⊥
  insert-met d key y makes same accept unmet acted among is row =
      let dot : y.dot ≡ d = dots-same y.dot d is in
      let keys : key ≡ y.key = keys-same key y.key row in
      let own : y.dot.site.0 ≡ site.0 = ap (λ (x : Dot). x.site.0) dot ∙ same in
      let done : is_done h y.dot.site.0 y.generation ≡ true = acted (ap (λ (x : Key). maker_of x.row.0) (sym keys) ∙ makes ∙ ap (λ (x : Dot). (let found : Option Dot = Some x in found)) (sym dot))
      (ap (λ (x : Dot). accepts h.accepted x) dot ∙ accept) (λ zero_site. named (sym own ∙ zero_site)) in
      let here : is_done h site.0 y.generation ≡ true = ap (λ (n : ℕ). is_done h n y.generation) (sym own) ∙ done in
      let number : (y.dot.number == d.number) ≡ true = grind (arith, nat_tests, is) in
      let found = among own (λ (c : MadeChange). (c.dot.number == d.number) && is_done h site.0 c.generation) (grind (arith, number, here)) in
      absurd (grind (arith, found, unmet))

  none-new : (found : Option Dot) (q : Key) (x : MadeChange) → maker_of q.row.0 ≡ found → (let new : Bool = elim found [ None ↦ false | Some dot ↦ if dot.site.0 == site.0 then (by_past h incoming).is_unmet site.0 dot.number else false ] in new ≡ true)
      → KnowsMaker x → Knows h.made x.key x.past.known → IsFine h.accepted x → same_key q x.key ≡ true → accepts h.accepted x.dot ≡ true → ⊥
  none-new None q x makes new knows well fine row accept = absurd (grind (arith, new))
  none-new (Some d) q x makes new knows well fine row accept =
      let keys : q ≡ x.key = keys-same q x.key row in
      let maker : maker_of x.key.row.0 ≡ Some d = ap (λ (k : Key). maker_of k.row.0) (sym keys) ∙ makes in
      let known : has x.past.known d ≡ true = knows d maker in
      let same : d.site.0 ≡ site.0 = grind (arith, nat_tests, new) in
      let unmet : (by_past h incoming).is_unmet site.0 d.number ≡ true = grind (arith, nat_tests, new) in
      found-change ⊥ h.made x.key d (all-both (InsertActed h) (λ (y : MadeChange). y.dot.site.0 ≡ site.0 → (test : MadeChange → Bool) → test y ≡ true → list_any test (made_at h site.0) ≡ true) (λ (y : MadeChange). same_dot y.dot d ≡ true → same_key x.key y.key ≡ true → ⊥)
      (λ y acted among is also. insert-met d x.key y maker same (fine.closed accept d known) unmet acted among is also) h.made inserts (among-site site.0 h.made))
      (well.made_here d known)

  -- so a row is not new of which a change is accepted
  pub new-unaccepted : AllByRecursion KnowsMaker h.made → Knowledge h → AllByRecursion (IsFine h.accepted) h.made
      → AllByRecursion (λ (x : MadeChange). (q : Key) → is_new_row (by_past h incoming) site q ≡ true → same_key q x.key ≡ true → accepts h.accepted x.dot ≡ true → ⊥) h.made
  new-unaccepted makers k fine =
      all-both (λ (x : MadeChange). KnowsMaker x × IsFine h.accepted x) (λ (x : MadeChange). Knows h.made x.key x.past.known) (λ (x : MadeChange). (q : Key) → is_new_row (by_past h incoming) site q ≡ true → same_key q x.key ≡ true → accepts h.accepted x.dot ≡ true → ⊥)
      (λ x both well q new row accept. none-new (maker_of q.row.0) q x refl new both.0 well both.1 row accept) h.made
      (all-both KnowsMaker (IsFine h.accepted) (λ (x : MadeChange). KnowsMaker x × IsFine h.accepted x) (λ x one other. (one, other)) h.made makers fine) k.making
