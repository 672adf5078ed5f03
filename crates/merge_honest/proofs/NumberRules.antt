-- The rules that a request keeps by how far numbers go: 4 and 7.
use Rattle.std.specs.List.{AllByRecursion, list_all}
use Rattle.std.specs.Option.{option_map_or}
use Rattle.std.specs.Prelude.{Bool, None, Option, Some, [], false, if◌then◌else◌, nat_le, nat_lt, option_map, refl, true, unwrap_or, ℕ, ◌+◌, ◌<◌, ◌==◌, ◌||◌, ◌≡◌, ◌≤◌, ◌∷◌}
use Rattle.std.proofs.Common.{ap, arith, subst, sym, ◌∙◌}
use Rattle.std.proofs.lemmas.Bool.Decides.{nat_tests}
use Rattle.merge_types.specs.Limits.{counter_limit, number_limit}
use Rattle.merge_types.specs.declared.identifiers.Dot.{Dot}
use Rattle.merge_types.specs.declared.identifiers.SiteId.{SiteId}
use Rattle.merge_lineage.specs.Lineage.{number_of}
use Rattle.merge_gens.specs.declared.sites.SiteState.{SiteState}
use Rattle.merge_schema.specs.declared.publication.Publication.{Publication}
use Rattle.merge_batch.specs.Asks.{broken_by_join, join_numbers_fit}
use Rattle.merge_batch.specs.Known.{received_number_of, received_of}
use Rattle.merge_batch.specs.Lineages.{has_pair_of, is_pair, sites_ascend}
use Rattle.merge_batch.specs.Search.{broken_by_message}
use Rattle.merge_batch.specs.Uploads.{has_generations, lineage_fits, numbers_go_on, upload_rules}
use Rattle.merge_batch.specs.declared.request.Join.{Join}
use Rattle.merge_batch.specs.declared.request.Request.TheVariants as request
use Rattle.merge_batch.specs.declared.request.Upload.{Upload}
use Rattle.merge_batch.specs.declared.request.UploadItem.{UploadItem}
use Rattle.merge_batch.specs.declared.rules.BrokenRule.{BrokenRule}
use Rattle.merge_batch.proofs.Ascending.{sites_ascend-ascending}
use Rattle.merge_model.specs.Judge.ByHistory.{received_by_done, received_number_by_done}
use Rattle.merge_model.specs.Judge.ByNumbers.{received_by_number}
use Rattle.merge_model.specs.World.Faults.{join_fault, judged_state}
use Rattle.merge_model.specs.History.{History, made_at}
use Rattle.merge_model.specs.Tables.Keys.{at_number}
use Rattle.merge_model.specs.History.Model.{Model}
use Rattle.merge_model.specs.Subscriber.{subscriber_last_closed}
use Rattle.merge_model.specs.Tables.{PublisherTables, SubscriberTables}
use Rattle.merge_model.specs.declared.letter.Letter.{Letter}
use Rattle.merge_model.specs.declared.letter.Message.TheVariants.{Asks}
use Rattle.merge_model.proofs.Lists.Finding.{all-weaker, found-named, pool-at}
use Rattle.merge_model.proofs.Lists.{all-three, all-unit}
use Rattle.merge_laws.specs.Laws.Effects.{history_judge}
use Rattle.merge_laws.specs.Facts.Knowledge.{changes_of}
use Rattle.merge_laws.specs.Laws.{OfEveryValidRun}
use Rattle.merge_laws.specs.Facts.Lineages.{IsOfMade}
use Rattle.merge_laws.specs.Facts.Numbered.{InOrder, JoinTells, LetterTells, UploadTells, last_of, last_through}
use Rattle.merge_laws.specs.Facts.Received.{JoinFits, LetterFits, UploadFits, joined_at}
use Rattle.merge_laws.proofs.Alike.AlikeFields.{number-alike, received-alike}
use Rattle.merge_laws.proofs.Numbered.Through.{last-rises, order-within}
use Rattle.merge_honest.specs.Bounded.{IsBounded}
use Rattle.merge_honest.specs.Delivered.{IsRequest, NoneIsRefusedFor, breaks}
use Rattle.merge_honest.specs.OwnPairs.{MessageHasOwn}
use Rattle.merge_honest.proofs.Breaking.{fault-never, follows-all, message-other}
use Rattle.merge_honest.proofs.ItemFacts.{IsNumbered, ItemKnown, items-known, lineage-numbered}
use Rattle.merge_honest.proofs.KnownItems.{all-true, lineages-made}
use Rattle.merge_honest.proofs.Refusing.{Never}
use Rattle.merge_honest.proofs.Rules.{HeadKeeps, ItemMeets, JoinsKeep, Known, UploadsKeep, head-met, held_against, none-breaks, of-uploads, ranges-other}
use Rattle.merge_honest.proofs.KnownSenders.{request-well}

low-number : (n : ℕ) → n ≤ counter_limit → nat_lt n number_limit ≡ true
low-number n up = grind (arith, nat_tests, up)

goes-truth : (to through r q received last : ℕ) → r ≡ received → q ≡ last → (received < to → last ≤ through) → (nat_le to r || nat_le q through) ≡ true
goes-truth to through r q received last one other goes_on = grind (arith, nat_tests, one, other, goes_on)

none-goes : (to through : ℕ) → (nat_le to 0 || nat_le 0 through) ≡ true
none-goes to through = grind (arith, nat_tests)

join-kept : (j : Join) → join_numbers_fit j ≡ true → Never (breaks 4) (join_fault j)
unfolding broken_by_join
join-kept j is = fault-never 4 _ (message-other 4 ((4, join_numbers_fit j) ∷ []) (grind (arith, is)))

module _ (publication : Publication) (m : Model) (k : Known publication m) where
  abbrev h : History
  h = m.history

  abbrev p : PublisherTables
  p = m.world.publisher

  -- the last change up to a generation is one of the site's
  last-low : (n to : ℕ) (s : SubscriberTables) → at_number m.world.subscribers n ≡ Some s → last_of to (made_at h n) ≤ counter_limit
  last-low n to s at =
      let named : n ≡ 0 → ⊥ = found-named m.world.subscribers n s k.whole.0.0.none at in
      let order : InOrder s.changes (subscriber_last_closed s + 1) (made_at h n) = (k.whole.0.0.numbered.subscribers n s at).order named in
      let within = order-within to s.changes (subscriber_last_closed s + 1) (made_at h n) order in
      let low = (k.bounded.subscribers n s at).changes in
      omega (arith, within, low)

  -- Joins.

  join-low : (n joined : ℕ) (site : SiteId) (j : Join) (found : Option SubscriberTables) → at_number m.world.subscribers n ≡ found → JoinFits joined site j found → JoinTells (made_at h n) j found → join_numbers_fit j ≡ true
  join-low n joined site j None is fits tells = absurd fits
  join-low n joined site j (Some s) is fits tells =
      let b : IsBounded s = k.bounded.subscribers n s is in
      let seq : nat_lt j.seq number_limit ≡ true = low-number j.seq (let up = fits.1 in let low = b.seq in omega (arith, up, low)) in
      let generation : nat_lt j.generation number_limit ≡ true = low-number j.generation (let up = tells.0 in let low = b.closed in omega (arith, up, low)) in
      let last = last-low n j.generation s is in
      let number : nat_lt j.number number_limit ≡ true = low-number j.number (let same = tells.1 in omega (arith, same, last)) in
      grind (arith, seq, generation, number)

  joins-keep : JoinsKeep 4 m
  joins-keep number site j at =
      let letter : Letter = record { site = site; message = Asks (request.Join j) } in
      let fits = pool-at (LetterFits m.world.subscribers p) m.world number letter at k.whole.0.0.received.letters in
      let tells = pool-at (LetterTells h m.world.subscribers) m.world number letter at k.whole.0.0.numbered.letters in
      let is : join_numbers_fit j ≡ true = join-low site.0 (joined_at p site) site j (at_number m.world.subscribers site.0) refl fits tells in
      join-kept j is

  -- Uploads.

  -- what the publisher keeps of a site, 0 where it remembers none
  goes-by : (site : ℕ) (number : ℕ) (to through : ℕ) (found : Option SiteState) → at_number p.sites site ≡ found → (received_by_number p site < to → last_through h site (received_by_number p site) ≤ through)
      → (nat_le to (option_map_or (λ (state : SiteState). state.received) (option_map (judged_state (history_judge m number) site) found) 0)
      || nat_le (option_map_or (λ (state : SiteState). state.received_number) (option_map (judged_state (history_judge m number) site) found) 0) through) ≡ true
  goes-by site number to through None is goes_on = none-goes to through
  goes-by site number to through (Some state) is goes_on =
      goes-truth to through (received_by_done h site) (received_number_by_done h site) (received_by_number p site) (last_through h site (received_by_number p site)) (sym (received-alike publication m.world h k.whole.0.0 site))
      (sym (number-alike publication m.world h k.whole.0.0 site) ∙ k.whole.0.0.numbered.taken site) goes_on

  upload-low : (number n : ℕ) (site : SiteId) (u : Upload) (found : Option SubscriberTables) → at_number m.world.subscribers n ≡ found → site.0 ≡ n → u.from ≤ received_by_number p n → UploadFits site u found → UploadTells (made_at h n) u found → u.from < u.to
      → numbers_go_on (held_against publication m number) u ≡ true
  upload-low number n site u None is same begins fits tells some = absurd fits
  upload-low number n site u (Some s) is same begins fits tells some =
      let b : IsBounded s = k.bounded.subscribers n s is in
      let to : nat_lt u.to number_limit ≡ true = low-number u.to (let up = fits.1 in let low = b.closed in omega (arith, up, low)) in
      let told : u.through ≡ last_of u.to (made_at h n) = tells.1 some in
      let last = last-low n u.to s is in
      let through : nat_lt u.through number_limit ≡ true = low-number u.through (omega (arith, told, last)) in
      let here : u.site.0 ≡ n = ap (λ (x : SiteId). x.0) fits.0 ∙ same in
      let goes_on = goes-by n number u.to u.through (at_number p.sites n) refl (λ later. (let rise = last-rises (received_by_number p n) u.to (made_at h n) (omega (arith, later)) in omega (arith, rise, told))) in
      let known = held_against publication m number in
      let goes : (nat_le u.to (received_of known u.site.0) || nat_le (received_number_of known u.site.0) u.through) ≡ true =
      subst (λ (x : ℕ). (nat_le u.to (received_of known x) || nat_le (received_number_of known x) u.through) ≡ true) (sym here) goes_on in
      grind (arith, to, through, goes)

  -- an upload without a generation breaks rule 1
  head-by : (number : ℕ) (u : Upload) (b : Bool) → has_generations u ≡ b → (u.from < u.to → numbers_go_on (held_against publication m number) u ≡ true) → HeadKeeps 4 publication m number u
  head-by number u true some goes =
      let is : numbers_go_on (held_against publication m number) u ≡ true = goes (grind (arith, nat_tests, some)) in
      head-met 4 publication m number u (grind (arith, is))
  head-by number u false none goes = λ broken e. (let rule : broken.rule ≡ 1 = first-rule broken e in grind (arith, nat_tests, rule))
    where
      first-rule : (broken : BrokenRule) → broken_by_message (upload_rules (held_against publication m number) u) ≡ Some broken → broken.rule ≡ 1
      first-rule broken e = grind (arith, none, e)

  numbers-keep : UploadsKeep 4 publication m
  numbers-keep number site u at fine =
      let letter : Letter = record { site = site; message = Asks (request.Upload u) } in
      let fits = pool-at (LetterFits m.world.subscribers p) m.world number letter at k.whole.0.0.received.letters in
      let tells = pool-at (LetterTells h m.world.subscribers) m.world number letter at k.whole.0.0.numbered.letters in
      let well = request-well publication m number site (request.Upload u) k.whole at in (
        head-by number u (has_generations u) refl (λ some. upload-low number site.0 site u (at_number m.world.subscribers site.0) refl refl well.begins fits tells some),
        follows-all (λ (item : UploadItem). Unit {0}) (ItemMeets 4 publication m number u) (λ before item unit. refl) None u.items (all-unit u.items),
      )

  -- Lineages.

  -- a number that a site counts is one that a change can have
  counted-by : (n : ℕ) (b : Bool) (found : Option SubscriberTables) → (n == 0) ≡ b → at_number m.world.subscribers n ≡ found → (if b then p.changes else unwrap_or (option_map (λ (s : SubscriberTables). s.changes) found) 0) < number_limit
  counted-by n true found own is = let low = k.bounded.publisher.changes in omega (arith, low)
  counted-by n false None own is = omega arith
  counted-by n false (Some s) own is = let low = (k.bounded.subscribers n s is).changes in omega (arith, low)

  pub counted-low : (n : ℕ) → changes_of m.world n < number_limit
  counted-low n = counted-by n (n == 0) (at_number m.world.subscribers n) refl refl

  module _ (number : ℕ) (site : SiteId) (u : Upload) (at : IsRequest m number site (request.Upload u)) where
    dot-fits : (item : UploadItem) → ItemKnown publication m k number site u at item → IsOfMade (changes_of m.world) item.version.lineage → (dot : Dot) → IsNumbered item.version.lineage dot → is_pair publication dot ≡ true
    dot-fits item i made dot is =
        let was = i.made dot (i.told.tells.reached dot is) in
        let count : number_of item.version.lineage dot.site.0 ≡ dot.number = ap (λ (found : Option ℕ). unwrap_or found 0) is in
        let bound = made.within dot.site.0 in
        let limit = counted-low dot.site.0 in
        let low : dot.number < number_limit = omega (arith, count, bound, limit) in
        let here = was.site in
        let from = was.numbered in
        grind (arith, nat_tests, here, from, low)

    lineage-well : (item : UploadItem) → ItemKnown publication m k number site u at item → IsOfMade (changes_of m.world) item.version.lineage → has_pair_of u.site.0 item.version.lineage ≡ true → lineage_fits publication u item ≡ true
    lineage-well item i made own =
        let ascend : sites_ascend item.version.lineage ≡ true = sites_ascend-ascending item.version.lineage made.ascends in
        let pairs : list_all (is_pair publication) item.version.lineage ≡ true = all-true (is_pair publication) item.version.lineage
        (all-weaker (IsNumbered item.version.lineage) (λ (dot : Dot). is_pair publication dot ≡ true) (λ dot is. dot-fits item i made dot is) item.version.lineage (lineage-numbered item.version.lineage made.ascends)) in
        grind (arith, ascend, pairs, own)

    pub items-fit : AllByRecursion (λ (item : UploadItem). lineage_fits publication u item ≡ true) u.items
    items-fit = all-three (ItemKnown publication m k number site u at) (λ (item : UploadItem). IsOfMade (changes_of m.world) item.version.lineage) (λ (item : UploadItem). has_pair_of u.site.0 item.version.lineage ≡ true) (λ (item : UploadItem). lineage_fits publication u item ≡ true)
        (λ item i made own. lineage-well item i made own) u.items (items-known publication m k number site u at) (lineages-made publication m k number site u at)
        (pool-at (λ (letter : Letter). MessageHasOwn letter.message) m.world number (record { site = site; message = Asks (request.Upload u) }) at k.pairs.letters)

lineages-keep : (publication : Publication) (m : Model) → Known publication m → UploadsKeep 7 publication m
lineages-keep publication m k number site u at fine =
    (head-met 7 publication m number u refl, follows-all (λ (item : UploadItem). lineage_fits publication u item ≡ true) (ItemMeets 7 publication m number u) (λ before item is. grind (arith, is)) None u.items (items-fit publication m k number site u at))

pub no-number-too-great : OfEveryValidRun (NoneIsRefusedFor (breaks 4))
no-number-too-great = none-breaks 4 (record {
  joins = λ publication m k. joins-keep publication m k;
  asks = λ publication m k number site a at fine. ranges-other 4 publication (history_judge m number) a m.world.publisher refl;
  uploads = λ publication m k. numbers-keep publication m k;
})

pub no-lineage-misfits : OfEveryValidRun (NoneIsRefusedFor (breaks 7))
no-lineage-misfits = of-uploads 7 refl refl lineages-keep
