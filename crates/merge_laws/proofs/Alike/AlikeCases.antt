-- An item of an upload that can act is to the publisher's version by lineages what it is by known changes.
use Rattle.std.specs.Prelude.{◌≡◌, ◌==◌, ◌&&◌, ◌||◌, ℕ, List, [], ◌∷◌, Bool, true, false, Option, Some, refl, cond, nat_le, not}
use Rattle.std.specs.BTreeMap.{is_at}
use Rattle.std.specs.List.{AllByRecursion, list_any}
use Rattle.std.proofs.Common.{arith, subst, sym, ap, ◌∙◌}
use Rattle.std.proofs.lemmas.Bool.Decides.{nat_tests}
use Rattle.merge_lineage.specs.Lineage.{knows}
use Rattle.merge_types.specs.declared.identifiers.Dot.{Dot}
use Rattle.merge_types.specs.declared.identifiers.SiteId.{SiteId}
use Rattle.merge_units.specs.declared.version.Version.{Version}
use Rattle.merge_batch.specs.declared.request.Request.TheVariants as request
use Rattle.merge_batch.specs.declared.request.Upload.{Upload}
use Rattle.merge_batch.specs.declared.request.UploadItem.{UploadItem}
use Rattle.merge_model.specs.Publisher.Acts.{key_of_item}
use Rattle.merge_units.specs.Cases.{case_by}
use Rattle.merge_units.specs.Version.{new_tops, tops_of}
use Rattle.merge_model.specs.History.{History, MadeChange, Past, has, is_accepted, past_at, past_in, pasts_with}
use Rattle.merge_types.specs.RowKeys.{key_cmp}
use Rattle.merge_model.specs.Tables.Keys.{row_at, same_key}
use Rattle.merge_model.specs.History.Model.{Model}
use Rattle.merge_types.specs.declared.row_key.RowKey.{RowKey as Key}
use Rattle.merge_units.specs.declared.site_row.PublisherRow.{PublisherRow}
use Rattle.merge_model.specs.Tables.{PublisherTables}
use Rattle.merge_model.specs.Judge.ByNumbers.{received_number_by_number}
use Rattle.merge_model.specs.World.{letter_at}
use Rattle.merge_model.specs.declared.letter.Message.TheVariants.{Asks}
use Rattle.merge_model.specs.declared.letter.Letter.{Letter}
use Rattle.merge_laws.specs.Facts.Knowledge.{Knowledge, Knows, is_made, same_dot}
use Rattle.merge_model.specs.Laws.Promises.{is_given_up}
use Rattle.merge_laws.specs.Facts.LineagesStand.{AllTold, LineagesStand, OfMessage, Owns, UploadCounts, can_act, counts_in}
use Rattle.merge_laws.specs.Facts.Standing.{StandsFor, Told, is_counted}
use Rattle.merge_model.proofs.Lists.Finding.{all-weaker, letter-zip, some_same}
use Rattle.merge_model.proofs.Lists.KeyLookUps.{keys-exact}
use Rattle.merge_laws.proofs.Known.KnownRows.{held-knows, letter-knows, past-knows}
use Rattle.merge_model.proofs.Lists.{all-three}
use Rattle.merge_laws.proofs.Lineages.Standing.{case-alike, news-alike, standing-agrees}

-- What holds of all rows, and of all letters with their pasts, holds of one that is found.

row-test : {V : Type 0} (P : Key → V → Type 0) (b : Bool) (key at : Key) (held here : V) (rest : Option V) → is_at (key_cmp key) at ≡ b → P at here → (rest ≡ Some held → P key held) → (let found : Option V = cond b (Some here) rest in found) ≡ Some held → P key held
row-test P true key at held here rest is p more found = subst (λ (v : _). P key v) (some_same here held found) (subst (λ (k : Key). P k here) (sym (keys-exact key at is)) p)
row-test P false key at held here rest is p more found = more found

pub row-found : {V : Type 0} (P : Key → V → Type 0) (key : Key) (held : V) (rows : List (Key × V)) → AllByRecursion (λ (row : Key × V). P row.0 row.1) rows → row_at rows key ≡ Some held → P key held
row-found P key held [] all at = absurd (grind (arith, at))
row-found P key held (row ∷ rows) all at = row-test P (is_at (key_cmp key) row.0) key row.0 held row.1 (row_at rows key) refl all.0 (λ more. row-found P key held rows all.1 more) at

-- What is accepted is not given up, and the same dot is given up as the same.

abbrev given_at : PublisherTables → History → ℕ → ℕ → Bool
given_at p h site number = not ((site == 0) || list_any (λ (other : Dot). (other.site.0 == site) && (other.number == number)) h.accepted) && nat_le number (received_number_by_number p site)

given-same : (p : PublisherTables) (h : History) (a b : Dot) → same_dot a b ≡ true → is_given_up p h a ≡ is_given_up p h b
given-same p h a b is =
    let site : a.site.0 ≡ b.site.0 = grind (arith, nat_tests, is) in
    let number : a.number ≡ b.number = grind (arith, nat_tests, is) in
    ap (λ (n : ℕ). given_at p h n a.number) site ∙ ap (λ (n : ℕ). given_at p h b.site.0 n) number

accepted-stays : (p : PublisherTables) (h : History) (dot : Dot) → is_accepted h dot ≡ true → is_given_up p h dot ≡ false
accepted-stays p h dot is = ap (λ (b : Bool). not b && nat_le dot.number (received_number_by_number p dot.site.0)) is

counted-step : (d s c rest more : Bool) → (d ≡ true → c ≡ true) → (rest ≡ true → more ≡ true) → ((d && s) || rest) ≡ true → ((d && (s && c)) || more) ≡ true
counted-step true true c rest more count each is = ap (λ (b : Bool). b || more) (count refl)
counted-step true false c rest more count each is = each is
counted-step false s c rest more count each is = each is

made-counted : (m : Model) (key : Key) (top : Dot) → is_given_up m.world.publisher m.history top ≡ false → (made : List MadeChange) → is_made made key top ≡ true → is_counted made (counts_in m) key top ≡ true
made-counted m key top stays [] there = absurd (grind (arith, there))
made-counted m key top stays (x ∷ made) there = counted-step (same_dot x.dot top) (same_key key x.key) (counts_in m x) (is_made made key top) (is_counted made (counts_in m) key top)
    (λ same. ap not (given-same m.world.publisher m.history x.dot top same ∙ stays)) (made-counted m key top stays made) there

-- What is known of a version of a row that the publisher holds, or that an upload brings.
pub record Meets (m : Model) (key : Key) (version : Version) (past : Past) : Type 0 where
  pub told : Told version past.known
  pub stands : StandsFor m.history.made (counts_in m) key version.lineage past.known
  pub knows_well : Knows m.history.made key past.known
  pub counts : (dot : Dot) → has past.known dot ≡ true → is_given_up m.world.publisher m.history dot ≡ false

-- the changes that made its body were made of the row, and count
tops-count : (m : Model) (key : Key) (version : Version) (past : Past) → Meets m key version past → AllByRecursion (λ (top : Dot). is_counted m.history.made (counts_in m) key top ≡ true) (tops_of version.body)
tops-count m key version past meets = all-weaker (λ (top : Dot). has past.known top ≡ true) (λ (top : Dot). is_counted m.history.made (counts_in m) key top ≡ true)
    (λ top known. made-counted m key top (meets.counts top known) m.history.made (meets.knows_well.made_here top known)) (tops_of version.body) meets.told.tops

module _ (m : Model) (key : Key) (ours theirs : Version) (one other : Past) (held : Meets m key ours one) (there : Meets m key theirs other) where
  pub case-same : case_by (knows ours.lineage) (knows theirs.lineage) ours.body theirs.body ≡ case_by (has one.known) (has other.known) ours.body theirs.body
  case-same = case-alike (knows ours.lineage) (has one.known) (knows theirs.lineage) (has other.known) ours.body theirs.body
      (standing-agrees m.history.made (counts_in m) key theirs.lineage other.known ours.body there.stands (tops-count m key ours one held))
      (standing-agrees m.history.made (counts_in m) key ours.lineage one.known theirs.body held.stands (tops-count m key theirs other there))

  pub news-same : new_tops (knows theirs.lineage) ours.body ≡ new_tops (has other.known) ours.body
  news-same = news-alike (knows theirs.lineage) (has other.known) ours.body (standing-agrees m.history.made (counts_in m) key theirs.lineage other.known ours.body there.stands (tops-count m key ours one held))

-- The publisher's rows, and the items of an upload that can act.
module _ (m : Model) (k : Knowledge m.history) (told : AllTold m) (stand : LineagesStand m) (owns : Owns m) where
  own-counts : (key : Key) (dot : Dot) (b : Bool) → (dot.site.0 == 0) ≡ b → has (past_at m.history 0 key).known dot ≡ true → is_accepted m.history dot ≡ true
  own-counts key dot true is known = ap (λ (b : Bool). b || has m.history.accepted dot) is
  own-counts key dot false is known = owns.counts.here key dot known (λ own. absurd (grind (arith, nat_tests, own, is)))

  pub held-meets : (key : Key) (held : PublisherRow) → row_at m.world.publisher.rows key ≡ Some held → Meets m key held.version (past_at m.history 0 key)
  held-meets key held at = record {
    told = row-found (λ (q : Key) (row : PublisherRow). Told row.version (past_at m.history 0 q).known) key held m.world.publisher.rows told.publisher at;
    stands = row-found (λ (q : Key) (row : PublisherRow). StandsFor m.history.made (counts_in m) q row.version.lineage (past_at m.history 0 q).known) key held m.world.publisher.rows stand.publisher at;
    knows_well = held-knows m.history 0 key k;
    counts = λ dot known. accepted-stays m.world.publisher m.history dot (own-counts key dot (dot.site.0 == 0) refl known);
  }

  pub items-meet : (number : ℕ) (site : SiteId) (upload : Upload) → letter_at m.world number ≡ Some (record { site = site; message = Asks (request.Upload upload) }) → can_act m upload ≡ true
      → AllByRecursion (λ (item : UploadItem). Meets m (key_of_item item) item.version (past_in (pasts_with m.history number) (key_of_item item))) upload.items
  items-meet number site upload at acts =
      let letter : Letter = record { site = site; message = Asks (request.Upload upload) } in
      let pasts : List (Key × Past) = pasts_with m.history number in
      all-three (λ (item : UploadItem). Told item.version (past_in pasts (key_of_item item)).known)
      (λ (item : UploadItem). StandsFor m.history.made (counts_in m) (key_of_item item) item.version.lineage (past_in pasts (key_of_item item)).known)
      (λ (item : UploadItem). (dot : Dot) → has (past_in pasts (key_of_item item)).known dot ≡ true → is_given_up m.world.publisher m.history dot ≡ false)
      (λ (item : UploadItem). Meets m (key_of_item item) item.version (past_in pasts (key_of_item item)))
      (λ item tells stands counts. record { told = tells; stands = stands; knows_well = past-knows m.history.made (key_of_item item) pasts (letter-knows m.history number k); counts = counts }) upload.items
      (letter-zip (λ (x : Letter) (known : List (Key × Past)). OfMessage (λ (key : Key) (version : Version) (past : Past). Told version past.known) known x.message) m.world m.history number letter told.letters at)
      (letter-zip (λ (x : Letter) (known : List (Key × Past)). OfMessage (λ (key : Key) (version : Version) (past : Past). StandsFor m.history.made (counts_in m) key version.lineage past.known) known x.message) m.world m.history number letter stand.letters at)
      (letter-zip (λ (x : Letter) (known : List (Key × Past)). UploadCounts m known x.message) m.world m.history number letter owns.counts.counts at acts)
