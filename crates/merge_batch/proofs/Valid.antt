-- What a message that breaks no rule has.
use Rattle.std.proofs.Common.{◌≡◌, ℕ, Bool, true, [], ◌∷◌, Option, Some, None, option_map, slice_get, refl, arith, suc, ◌-◌, ◌^◌, ◌<◌, ◌≤◌, ◌==◌, ◌||◌, ◌&&◌, not, false, nat_lt, nat_le, length, inl, inr}
use Rattle.std.proofs.lemmas.Bool.Decides.{nat_tests}
use Rattle.std.proofs.lemmas.Bool.{cases_lt}
use Rattle.merge_units.specs.Version.{has_news_over}
use Rattle.merge_schema.specs.declared.publication.Publication.{Publication}
use Rattle.merge_batch.specs.declared.standing.Standing.{Standing}
use Rattle.merge_batch.specs.declared.request.Upload.{Upload}
use Rattle.merge_batch.specs.declared.request.UploadItem.{UploadItem}
use Rattle.merge_batch.specs.declared.reply.DownloadItem.{DownloadItem}
use Rattle.merge_batch.specs.declared.reply.Downloaded.{Downloaded}
use Rattle.merge_batch.specs.Search.{first_broken, broken_at, broken_by_message, broken_by_items, is_above}
use Rattle.merge_batch.specs.Known.{Known, received_of, received_number_of}
use Rattle.merge_batch.specs.Lineages.{has_tops}
use Rattle.merge_batch.specs.Uploads.{row_of, row_rises, row_fits, lineage_fits, is_in_interval, tops_are_known, has_maker, lineage_is_honest, identity_is_right, upload_rules, item_rules, broken_by_upload, has_generations, has_few_generations, has_few_items, numbers_go_on}
use Rattle.merge_batch.specs.Replies.{interval_fits, received_fits, downloaded_fits, broken_by_misfit, broken_by_download, row_of as download_row, row_rises as download_rises, item_rules as download_rules}
use Rattle.merge_batch.specs.Laws.{item_before, IsValidUpload, IsFittingDownload, IsValidItem, ValidUpload, IsFittingItem, FittingDownload}
use Rattle.merge_batch.proofs.Firsts.{none_found, all-at, above-before}
use Rattle.merge_batch.proofs.AllMet.{all_met, none_broken, both_met, not-false, none_both, met-at, not-true, none_first, none_second, none_mapped, rows_rise, all_good}

and-first : (a b : Bool) → (a && b) ≡ true → a ≡ true
and-first true b both = refl
and-first false b both = both

and-second : (a b : Bool) → (a && b) ≡ true → b ≡ true
and-second true b both = both
and-second false b both = absurd cc

-- a rule at a place of an item's list is met
item_met : (publication : Publication) (known : Known) (upload : Upload) (before : Option UploadItem) (item : UploadItem)
    → first_broken (item_rules publication known upload before item) ≡ None
    → (k : ℕ) (rule : ℕ × Bool) → slice_get (item_rules publication known upload before item) k ≡ Some rule → rule.1 ≡ true
item_met publication known upload before item none k rule there =
    met-at (item_rules publication known upload before item) k rule (all_met (item_rules publication known upload before item) none) there

item-rises : (publication : Publication) (known : Known) (upload : Upload) (before : Option UploadItem) (item : UploadItem)
    → first_broken (item_rules publication known upload before item) ≡ None → is_above (option_map row_of before) (row_of item) ≡ true
item-rises publication known upload before item none = item_met publication known upload before item none 0 (5, row_rises before item) refl

item-valid : (publication : Publication) (known : Known) (upload : Upload) (before : Option UploadItem) (item : UploadItem)
    → first_broken (item_rules publication known upload before item) ≡ None → IsValidItem publication known upload item
item-valid publication known upload before item none =
    let met = item_met publication known upload before item none in
    let within : is_in_interval upload item ≡ true = met 3 (8, is_in_interval upload item) refl in
    record {
      fits = met 1 (6, row_fits publication item) refl;
      lineage = met 2 (7, lineage_fits publication upload item) refl;
      above_from = grind (arith, nat_tests, within);
      up_to = grind (arith, nat_tests, within);
      tops = not-true (has_news_over item.version item.version) (and-second (has_tops publication item.version.body) (not (has_news_over item.version item.version)) (met 4 (9, tops_are_known publication item) refl));
      made = and-first (has_tops publication item.version.body) (not (has_news_over item.version item.version)) (met 4 (9, tops_are_known publication item) refl);
      maker = met 5 (10, has_maker publication known upload item) refl;
      honest = met 6 (11, lineage_is_honest known upload item) refl;
      identity = met 7 (12, identity_is_right publication known item) refl;
    }

from_valid_upload : (publication : Publication) (known : Known) (upload : Upload) → broken_by_upload publication known upload ≡ None → IsValidUpload publication known upload
unfolding broken_by_upload
from_valid_upload publication known upload none =
    let of_message = broken_by_message (upload_rules known upload) in
    let of_items = broken_by_items (item_rules publication known upload) upload.items in
    let message = all_met (upload_rules known upload) (none_mapped (broken_at 0) (first_broken (upload_rules known upload)) (none_first of_message of_items none)) in
    let items = none_second of_message of_items none in
    record {
      generations = grind (arith, nat_tests, message);
      few_generations = grind (arith, nat_tests, message);
      few_items = grind (arith, nat_tests, message);
      to_fits = grind (arith, nat_tests, message);
      through_fits = grind (arith, nat_tests, message);
      goes_on = λ acts. grind (arith, nat_tests, message, acts);
      rows_rise = rows_rise row_of (item_rules publication known upload) (item-rises publication known upload) 1 None upload.items items;
      items = all_good (IsValidItem publication known upload) (item_rules publication known upload) (item-valid publication known upload) 1 None upload.items items;
    }

-- the rules of an item are met where it is valid and rows rise
item_rules-met : (publication : Publication) (known : Known) (upload : Upload) (before : Option UploadItem) (item : UploadItem)
    → row_rises before item ≡ true → IsValidItem publication known upload item → first_broken (item_rules publication known upload before item) ≡ None
item_rules-met publication known upload before item rises valid =
    let within : is_in_interval upload item ≡ true = grind (arith, nat_tests, valid.above_from, valid.up_to) in
    let tops : tops_are_known publication item ≡ true = both_met valid.made (not-false (has_news_over item.version item.version) valid.tops) in
    none_broken (item_rules publication known upload before item)
    (both_met rises (both_met valid.fits (both_met valid.lineage (both_met within (both_met tops
    (both_met valid.maker (both_met valid.honest (both_met valid.identity refl))))))))

goes_on-test : (to received number through : ℕ) → (received < to → number ≤ through) → (nat_le to received || nat_le number through) ≡ true
goes_on-test to received number through goes_on =
    elim (cases_lt received to) [
      | inl acts ↦ grind (arith, nat_tests, goes_on acts)
      | inr stays ↦ grind (arith, nat_tests, stays)
    ]

to_valid_upload : (publication : Publication) (known : Known) (upload : Upload) → IsValidUpload publication known upload → broken_by_upload publication known upload ≡ None
unfolding broken_by_upload
to_valid_upload publication known upload valid =
    let generations : has_generations upload ≡ true = grind (arith, nat_tests, valid.generations) in
    let few_generations : has_few_generations upload ≡ true = grind (arith, nat_tests, valid.few_generations) in
    let few_items : has_few_items upload ≡ true = grind (arith, nat_tests, valid.few_items) in
    let to_fits : nat_lt upload.to (2 ^ 62) ≡ true = grind (arith, nat_tests, valid.to_fits) in
    let through_fits : nat_lt upload.through (2 ^ 62) ≡ true = grind (arith, nat_tests, valid.through_fits) in
    let goes_on = goes_on-test upload.to (received_of known upload.site.0) (received_number_of known upload.site.0) upload.through valid.goes_on in
    let numbers : numbers_go_on known upload ≡ true = both_met (both_met to_fits through_fits) goes_on in
    let message = none_broken (upload_rules known upload) (both_met generations (both_met few_generations (both_met few_items (both_met numbers refl)))) in
    let items = none_found (item_rules publication known upload) 1 None upload.items
    (λ k item there. item_rules-met publication known upload (item_before None upload.items k) item
    (above-before row_of upload.items valid.rows_rise k item there) (all-at (IsValidItem publication known upload) upload.items valid.items k item there)) in
    none_both (broken_at 0) (first_broken (upload_rules known upload)) (broken_by_items (item_rules publication known upload) upload.items) message items

pub valid_upload : ValidUpload
valid_upload publication known upload = (from_valid_upload publication known upload, to_valid_upload publication known upload)

download-rises : (publication : Publication) (own : Standing) (before : Option DownloadItem) (item : DownloadItem)
    → first_broken (download_rules publication own before item) ≡ None → is_above (option_map download_row before) (download_row item) ≡ true
download-rises publication own before item none =
    let met = all_met (download_rules publication own before item) none in grind (arith, met)

download-fits : (publication : Publication) (own : Standing) (before : Option DownloadItem) (item : DownloadItem)
    → first_broken (download_rules publication own before item) ≡ None → IsFittingItem publication own item
download-fits publication own before item none =
    let met = all_met (download_rules publication own before item) none in
    record { act = grind (arith, met); maker = grind (arith, met) }

from_fitting_download : (publication : Publication) (own : Standing) (from : ℕ) (downloaded : Downloaded) → broken_by_download publication own from downloaded ≡ None → IsFittingDownload publication own from downloaded
from_fitting_download publication own from downloaded none =
    let of_reply = broken_by_misfit (downloaded_fits own from downloaded) in
    let of_items = broken_by_items (download_rules publication own) downloaded.items in
    let rule = (0, downloaded_fits own from downloaded) ∷ [] in
    let reply = all_met rule (none_mapped (broken_at 0) (first_broken rule) (none_first of_reply of_items none)) in
    let items = none_second of_reply of_items none in
    record {
      begins = grind (arith, nat_tests, reply);
      forward = grind (arith, nat_tests, reply);
      closed = grind (arith, nat_tests, reply);
      last_fits = grind (arith, nat_tests, reply);
      few_generations = grind (arith, nat_tests, reply);
      goes_on = λ more. grind (arith, nat_tests, reply, more);
      no_less = grind (arith, nat_tests, reply);
      no_more = grind (arith, nat_tests, reply);
      few_items = grind (arith, nat_tests, reply);
      rows_rise = rows_rise download_row (download_rules publication own) (download-rises publication own) 1 None downloaded.items items;
      items = all_good (IsFittingItem publication own) (download_rules publication own) (download-fits publication own) 1 None downloaded.items items;
    }

item_fits-met : (publication : Publication) (own : Standing) (before : Option DownloadItem) (item : DownloadItem)
    → download_rises before item ≡ true → IsFittingItem publication own item → first_broken (download_rules publication own before item) ≡ None
item_fits-met publication own before item rises fits =
    none_broken (download_rules publication own before item) (both_met (both_met (both_met rises fits.act) fits.maker) refl)

to_fitting_download : (publication : Publication) (own : Standing) (from : ℕ) (downloaded : Downloaded) → IsFittingDownload publication own from downloaded → broken_by_download publication own from downloaded ≡ None
to_fitting_download publication own from downloaded fits =
    let begins : (downloaded.from == from) ≡ true = grind (arith, nat_tests, fits.begins) in
    let forward : nat_le downloaded.from downloaded.to ≡ true = grind (arith, nat_tests, fits.forward) in
    let closed : nat_le downloaded.to downloaded.last ≡ true = grind (arith, nat_tests, fits.closed) in
    let last_fits : nat_lt downloaded.last (2 ^ 62) ≡ true = grind (arith, nat_tests, fits.last_fits) in
    let few_generations : nat_le (downloaded.to - downloaded.from) 100 ≡ true = grind (arith, nat_tests, fits.few_generations) in
    let goes_on = goes_on-test downloaded.last downloaded.from (suc downloaded.from) downloaded.to fits.goes_on in
    let no_less : nat_le own.received downloaded.received ≡ true = grind (arith, nat_tests, fits.no_less) in
    let no_more : nat_le downloaded.received own.closed ≡ true = grind (arith, nat_tests, fits.no_more) in
    let few_items : nat_le (length downloaded.items) 2000 ≡ true = grind (arith, nat_tests, fits.few_items) in
    let interval : interval_fits from downloaded ≡ true = both_met (both_met (both_met (both_met (both_met begins forward) closed) last_fits) few_generations) goes_on in
    let received : received_fits own downloaded ≡ true = both_met no_less no_more in
    let reply : downloaded_fits own from downloaded ≡ true = both_met (both_met interval received) few_items in
    let rule = (0, downloaded_fits own from downloaded) ∷ [] in
    let items = none_found (download_rules publication own) 1 None downloaded.items
    (λ k item there. item_fits-met publication own (item_before None downloaded.items k) item
    (above-before download_row downloaded.items fits.rows_rise k item there) (all-at (IsFittingItem publication own) downloaded.items fits.items k item there)) in
    none_both (broken_at 0) (first_broken rule) (broken_by_items (download_rules publication own) downloaded.items) (none_broken rule (both_met reply refl)) items

pub fitting_download : FittingDownload
fitting_download publication own from downloaded = (from_fitting_download publication own from downloaded, to_fitting_download publication own from downloaded)
