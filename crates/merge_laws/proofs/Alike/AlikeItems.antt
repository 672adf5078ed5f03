-- The items of an upload that can act agree by lineages and by known changes, and so do the sites.
use Rattle.std.specs.Prelude.{◌≡◌, ◌≤◌, ◌<◌, ◌==◌, ℕ, zero, suc, List, [], Bool, true, false, Option, Some, None, refl, if◌then◌else◌, is_some, max}
use Rattle.std.specs.List.{AllByRecursion}
use Rattle.std.proofs.Common.{arith, ap, ◌∙◌}
use Rattle.std.proofs.lemmas.Bool.Decides.{nat_tests}
use Rattle.std.proofs.lemmas.List.Elements.{recursion_from_All}
use Rattle.merge_types.specs.declared.identifiers.Dot.{Dot}
use Rattle.merge_types.specs.declared.identifiers.Moment.{Moment}
use Rattle.merge_types.specs.declared.identifiers.SiteId.{SiteId}
use Rattle.merge_schema.specs.declared.publication.Publication.{Publication}
use Rattle.merge_batch.specs.Laws.{IsValidItem, IsValidUpload}
use Rattle.merge_batch.specs.Makers.{maker_of}
use Rattle.merge_batch.specs.Uploads.{broken_by_upload}
use Rattle.merge_batch.specs.declared.request.Request.TheVariants as request
use Rattle.merge_batch.specs.declared.request.Upload.{Upload}
use Rattle.merge_batch.specs.declared.request.UploadItem.{UploadItem}
use Rattle.merge_batch.proofs.Makers.{made-maker_of}
use Rattle.merge_batch.proofs.Valid.{valid_upload}
use Rattle.merge_model.specs.Publisher.Acts.{key_of_item}
use Rattle.merge_model.specs.Judge.ByHistory.{by_past}
use Rattle.merge_model.specs.Judge.ByNumbers.{by_numbers}
use Rattle.merge_model.specs.World.Faults.{known_by, upload_fault}
use Rattle.merge_model.specs.History.{History, Past, past_at, past_in, pasts_with}
use Rattle.merge_model.specs.Judge.{PublisherJudge}
use Rattle.merge_model.specs.Tables.Keys.{at_number, row_at}
use Rattle.merge_model.specs.History.Model.{Model}
use Rattle.merge_model.specs.Publisher.{later, site_refusal, state_refusal, unknown_site}
use Rattle.merge_types.specs.declared.row_key.RowKey.{RowKey as Key}
use Rattle.merge_units.specs.declared.site_row.PublisherRow.{PublisherRow}
use Rattle.merge_model.specs.World.{World, letter_at}
use Rattle.merge_model.specs.declared.letter.Message.TheVariants.{Asks}
use Rattle.merge_laws.specs.Facts.LineagesStand.{AllTold, LineagesStand, Owns, can_act}
use Rattle.merge_laws.specs.Facts.Received.{joined_at}
use Rattle.merge_laws.specs.Invariants.Seen.{Seen, greatest_in}
use Rattle.merge_laws.proofs.Alike.AlikeArrivals.{SitesAgree}
use Rattle.merge_laws.proofs.Alike.AlikeCases.{Meets, case-same, held-meets, items-meet, news-same}
use Rattle.merge_laws.proofs.Alike.AlikeFields.{acted-alike, gap-alike, left-alike, number-alike, received-alike, unmet-alike}
use Rattle.merge_laws.proofs.Alike.AlikeUploads.{ItemAgrees, MetAgrees}
use Rattle.merge_model.proofs.Runs.Refusals.{first-none}
use Rattle.merge_laws.proofs.Runs.Ground.{Ground}
use Rattle.merge_model.proofs.Lists.{all-both}
use Rattle.merge_laws.proofs.Told.ToldItems.{fault-none}
use Rattle.merge_laws.proofs.Watermarks.WatermarkModels.{state-later}

-- What a message that breaks no rule has.

pub sound-items : (publication : Publication) (judge : PublisherJudge) (m : Upload) (w : World) → upload_fault publication judge m w.publisher ≡ None → AllByRecursion (IsValidItem publication (known_by publication judge w.publisher) m) m.items
sound-items publication judge m w none =
    let known = known_by publication judge w.publisher in
    let valid : IsValidUpload publication known m = (valid_upload publication known m).0 (fault-none (broken_by_upload publication known m) none) in
    recursion_from_All _ m.items valid.items

-- a site that is not refused made the message after it joined
pub site-acts : (publication : Publication) (now : Moment) (m : Upload) (w : World) (h : History) → site_refusal publication m.site m.seq now w.publisher ≡ None → can_act (record { world = w; history = h }) m ≡ true
site-acts publication now m w h none =
    let site = first-none (unknown_site publication m.site) _ none in
    let state = first-none (state_refusal publication m.seq (later now w.publisher.latest) (at_number w.publisher.sites m.site.0)) [] site.1 in
    let after : joined_at w.publisher m.site < m.seq = state-later publication m.seq (later now w.publisher.latest) (at_number w.publisher.sites m.site.0) state.0 in
    grind (arith, nat_tests, after)

-- a row's maker is tested by its number, which is one from 1 on
if-unmet : (b : Bool) (x y : Bool) → x ≡ y → (if b then x else false) ≡ (if b then y else false)
if-unmet true x y same = same
if-unmet false x y same = refl

new-same : (one other : PublisherJudge) (site : SiteId) (found : Option Dot) → ((dot : Dot) → found ≡ Some dot → one.is_unmet site.0 dot.number ≡ other.is_unmet site.0 dot.number)
    → (let mine : Bool = elim found [ None ↦ false | Some dot ↦ if dot.site.0 == site.0 then one.is_unmet site.0 dot.number else false ] in mine)
    ≡ (let theirs : Bool = elim found [ None ↦ false | Some dot ↦ if dot.site.0 == site.0 then other.is_unmet site.0 dot.number else false ] in theirs)
new-same one other site None each = refl
new-same one other site (Some dot) each = if-unmet (dot.site.0 == site.0) (one.is_unmet site.0 dot.number) (other.is_unmet site.0 dot.number) (each dot refl)

module _ (publication : Publication) (m : Model) (g : Ground publication m.world m.history) (incoming : List (Key × Past)) where
  abbrev one : PublisherJudge
  one = by_numbers m.world.publisher

  abbrev other : PublisherJudge
  other = by_past m.history incoming

  -- what it has met, from site 1 on
  pub seen-alike : (site : ℕ) → Seen m.world.publisher.sites m.history.accepted → 1 ≤ site → one.seen site ≡ other.seen site
  seen-alike site seen from = seen.numbers site from ∙ ap (λ (k : ℕ). max (greatest_in m.history.accepted site) k) (number-alike publication m.world m.history g site)

  seen-same : (site : ℕ) → Seen m.world.publisher.sites m.history.accepted → is_some (at_number m.world.publisher.sites site) ≡ true → one.seen site ≡ other.seen site
  seen-same zero seen there = absurd (grind (arith, seen.own, there))
  seen-same (suc n) seen there = seen-alike (suc n) seen (omega arith)

  pub sites-agree : Seen m.world.publisher.sites m.history.accepted → SitesAgree m.world.publisher.sites one other
  sites-agree seen = record {
    received = λ site. received-alike publication m.world m.history g site;
    received_number = λ site. number-alike publication m.world m.history g site;
    seen = λ site there. seen-same site seen there;
    is_gap = λ site from. gap-alike publication m.world m.history g site from;
    has_left = λ key site. left-alike publication m.world m.history g key site;
  }

  met-agrees : (told : AllTold m) (stand : LineagesStand m) (owns : Owns m) (item : UploadItem) → Meets m (key_of_item item) item.version (past_in incoming (key_of_item item)) → (found : Option PublisherRow) → row_at m.world.publisher.rows (key_of_item item) ≡ found
      → MetAgrees one other item found
  met-agrees told stand owns item meets None at = tt
  met-agrees told stand owns item meets (Some held) at =
      let key : Key = key_of_item item in
      let here : Meets m key held.version (past_at m.history 0 key) = held-meets m g.known.knowledge told stand owns key held at in record {
        case = case-same m key held.version item.version (past_at m.history 0 key) (past_in incoming key) here meets;
        news = news-same m key held.version item.version (past_at m.history 0 key) (past_in incoming key) here meets;
      }

  item-agrees : (told : AllTold m) (stand : LineagesStand m) (owns : Owns m) (site : SiteId) (item : UploadItem) → Meets m (key_of_item item) item.version (past_in incoming (key_of_item item)) → 1 ≤ item.generation
      → ItemAgrees one other site m.world.publisher.rows item
  item-agrees told stand owns site item meets from = record {
    acted = acted-alike publication m.world m.history g site.0 item.generation from;
    new = new-same one other site (maker_of item.row.0) (λ dot made. unmet-alike publication m.world m.history g site.0 dot.number (made-maker_of item.row.0 dot made).from_one);
    met = met-agrees told stand owns item meets (row_at m.world.publisher.rows (key_of_item item)) refl;
  }

pub items-agree : (publication : Publication) (m : Model) → Ground publication m.world m.history → AllTold m → LineagesStand m → Owns m → (number : ℕ) (site : SiteId) (upload : Upload)
    → letter_at m.world number ≡ Some (record { site = site; message = Asks (request.Upload upload) }) → site_refusal publication upload.site upload.seq m.world.moment m.world.publisher ≡ None
    → (let judge : PublisherJudge = by_past m.history (pasts_with m.history number) in upload_fault publication judge upload m.world.publisher ≡ None
    → AllByRecursion (ItemAgrees (by_numbers m.world.publisher) judge upload.site m.world.publisher.rows) upload.items)
items-agree publication m g told stand owns number site upload at fine sound =
    let incoming : List (Key × Past) = pasts_with m.history number in
    let judge : PublisherJudge = by_past m.history incoming in
    all-both (λ (item : UploadItem). Meets m (key_of_item item) item.version (past_in incoming (key_of_item item))) (IsValidItem publication (known_by publication judge m.world.publisher) upload)
    (ItemAgrees (by_numbers m.world.publisher) judge upload.site m.world.publisher.rows)
    (λ item meets valid. item-agrees publication m g incoming told stand owns upload.site item meets (let low = valid.above_from in omega (arith, low))) upload.items
    (items-meet m g.known.knowledge told stand owns number site upload at (site-acts publication m.world.moment upload m.world m.history fine))
    (sound-items publication judge upload m.world sound)
