-- What a reply to a download puts fits: each live version fits its article, and its lineage, its tops and the row's maker are of
-- changes that were made.
use Rattle.std.specs.List.{AllByRecursion, list_all}
use Rattle.std.specs.Option.{option_map_or}
use Rattle.std.specs.Prelude.{Bool, List, None, Option, Some, false, is_some, option_map, refl, true, unwrap_or, ℕ, ◌<◌, ◌==◌, ◌≡◌, ◌≤◌}
use Rattle.std.proofs.Common.{ap, arith, subst, sym, ◌∙◌}
use Rattle.std.proofs.lemmas.Bool.Decides.{nat_tests}
use Rattle.merge_types.specs.Limits.{number_limit}
use Rattle.merge_types.specs.declared.identifiers.Dot.{Dot}
use Rattle.merge_types.specs.declared.identifiers.SiteId.{SiteId}
use Rattle.merge_types.specs.declared.row_key.RowKey.{RowKey as Key}
use Rattle.merge_lineage.specs.Lineage.{knows, number_of}
use Rattle.merge_units.specs.Version.{has_news, tops_of}
use Rattle.merge_units.specs.declared.version.Body.TheVariants.{Live}
use Rattle.merge_units.specs.declared.version.Version.{Version}
use Rattle.merge_schema.specs.Places.{article_at}
use Rattle.merge_schema.specs.declared.publication.Publication.{Publication}
use Rattle.merge_batch.proofs.Ascending.{sites_ascend-ascending}
use Rattle.merge_batch.specs.Articles.{fits_article}
use Rattle.merge_batch.specs.Lineages.{has_tops, is_pair, is_top, is_well_formed, knows_tops, sites_ascend}
use Rattle.merge_batch.specs.Makers.{maker_of}
use Rattle.merge_batch.specs.Replies.{act_fits, maker_fits, was_made}
use Rattle.merge_batch.specs.declared.reply.Act.{Act as Order}
use Rattle.merge_batch.specs.declared.reply.Act.TheVariants as order
use Rattle.merge_batch.specs.declared.reply.DownloadItem.{DownloadItem}
use Rattle.merge_batch.specs.declared.reply.Downloaded.{Downloaded}
use Rattle.merge_batch.specs.declared.reply.Reply.TheVariants as reply
use Rattle.merge_model.specs.World.Faults.{standing_of}
use Rattle.merge_model.specs.History.{History, Past, has, past_in, pasts_with}
use Rattle.merge_model.specs.Tables.Keys.{at_number}
use Rattle.merge_model.specs.History.Model.{Model}
use Rattle.merge_model.specs.Failing.Runs.{model_behind}
use Rattle.merge_model.specs.Tables.{SubscriberTables}
use Rattle.merge_model.specs.Subscriber.Taking.{key_of_download}
use Rattle.merge_model.specs.World.{World}
use Rattle.merge_model.specs.declared.letter.Letter.{Letter}
use Rattle.merge_model.specs.declared.letter.Message.TheVariants.{Replies}
use Rattle.merge_model.proofs.Lists.Finding.{all-weaker, found-named, letter-zip, pool-at}
use Rattle.merge_model.proofs.Lists.{all-three}
use Rattle.merge_laws.specs.Facts.Knowledge.{Knows, changes_of, is_made}
use Rattle.merge_laws.specs.Invariants.KnownMakers.{KnowsMaker}
use Rattle.merge_laws.specs.Laws.{OfEveryValidRun}
use Rattle.merge_laws.specs.Facts.Lineages.{IsOfMade}
use Rattle.merge_laws.specs.Facts.Lineages.{OfMessage as OfLineage, OfOrder as OrderLineage}
use Rattle.merge_laws.specs.Facts.LineagesStand.{OfMessage, OfOrder}
use Rattle.merge_laws.specs.Facts.Standing.{Told}
use Rattle.merge_laws.proofs.Known.KnownRows.{letter-knows, past-knows}
use Rattle.merge_laws.proofs.Told.ToldLetters.{letter-fits}
use Rattle.merge_laws.proofs.Told.ToldSites.{Every}
use Rattle.merge_owed.proofs.VersionKept.{holds-always}
use Rattle.merge_honest.specs.Replied.{IsReply, PutsFit, put_fits}
use Rattle.merge_honest.proofs.ArticlesExist.{AllExist, exist-always}
use Rattle.merge_honest.proofs.ItemFacts.{IsNumbered, WasMade, lineage-numbered, was-made}
use Rattle.merge_honest.proofs.KnownItems.{all-true, body-topped, made-top, none-new}
use Rattle.merge_honest.proofs.Named.{AreCarried, IsNamed}
use Rattle.merge_honest.proofs.NumberRules.{counted-low}
use Rattle.merge_honest.proofs.RowRules.{found-exists, found-passes}
use Rattle.merge_honest.proofs.RowsFit.{AllTook, IsRight, right-goes_on}
use Rattle.merge_honest.proofs.Rules.{Known, known-always}
use Rattle.merge_honest.proofs.TookValues.{took-always}

-- A site counts the changes that it made.
module _ (publication : Publication) (m : Model) (k : Known publication m) where
  counted-at : (n : ℕ) (s : SubscriberTables) (b : Bool) → (n == 0) ≡ b → (n ≡ 0 → ⊥) → at_number m.world.subscribers n ≡ Some s → changes_of m.world n ≡ s.changes
  counted-at n s true is named at = absurd (named (grind (arith, nat_tests, is)))
  counted-at n s false is named at = grind (arith, is, at)

  pub counted-here : (site : SiteId) (s : SubscriberTables) → at_number m.world.subscribers site.0 ≡ Some s → changes_of m.world s.site.0 ≡ s.changes
  counted-here site s there =
      let keyed : s.site.0 ≡ site.0 = (k.whole.0.0.received.subscribers site.0 s there).keyed in
      ap (changes_of m.world) keyed ∙ counted-at site.0 s (site.0 == 0) refl (found-named m.world.subscribers site.0 s k.whole.0.0.none there) there

  pub own-made : (s : SubscriberTables) → changes_of m.world s.site.0 ≡ s.changes → (dot : Dot) (b : Bool) → (dot.site.0 == s.site.0) ≡ b → dot.number ≤ changes_of m.world dot.site.0 → was_made (standing_of s) dot ≡ true
  own-made s counted dot false is up = grind (arith, is)
  own-made s counted dot true is up =
      let same : dot.site.0 ≡ s.site.0 = grind (arith, nat_tests, is) in
      let below : dot.number ≤ changes_of m.world s.site.0 = subst (λ (n : ℕ). dot.number ≤ changes_of m.world n) same up in
      let low : dot.number ≤ s.changes = omega (arith, below, counted) in
      grind (arith, nat_tests, is, low)

module _ (publication : Publication) (m : Model) (k : Known publication m) (exist : AllExist publication m.history.made) (rights : Every (IsRight publication m.history.made) m.world m.history) (took : AllTook publication m.history.made) where
  abbrev h : History
  h = m.history

  -- what is known of a version that is put
  pub record IsPutWell (key : Key) (version : Version) (past : Past) : Type 0 where
    pub told : Told version past.known
    pub knowing : Knows h.made key past.known
    pub lineage : IsOfMade (changes_of m.world) version.lineage
    pub maker : KnowsMaker key past.known
    pub named : IsNamed key version past
    pub right : IsRight publication h.made key version past

  module _ (key : Key) (version : Version) (past : Past) (v : IsPutWell key version past) where
    pub known-made : (dot : Dot) → has past.known dot ≡ true → WasMade publication m k dot
    known-made dot is = was-made publication m k key dot (v.knowing.made_here dot is)

    pub known-counted : (dot : Dot) → has past.known dot ≡ true → dot.number ≤ changes_of m.world dot.site.0
    known-counted dot is =
        let told : knows version.lineage dot ≡ true = v.told.tells.below dot is in
        let up : dot.number ≤ number_of version.lineage dot.site.0 = grind (arith, nat_tests, told) in
        let bound = v.lineage.within dot.site.0 in
        omega (arith, up, bound)

    -- the lineage

    pub pair-counted : (dot : Dot) → IsNumbered version.lineage dot → dot.number ≤ changes_of m.world dot.site.0
    pair-counted dot is =
        let count : number_of version.lineage dot.site.0 ≡ dot.number = ap (λ (found : Option ℕ). unwrap_or found 0) is in
        let bound = v.lineage.within dot.site.0 in
        omega (arith, count, bound)

    pub pair-fits : (dot : Dot) → IsNumbered version.lineage dot → is_pair publication dot ≡ true
    pair-fits dot is =
        let was = known-made dot (v.told.tells.reached dot is) in
        let up = pair-counted dot is in
        let limit = counted-low publication m k dot.site.0 in
        let low : dot.number < number_limit = omega (arith, up, limit) in
        let here = was.site in
        let from = was.numbered in
        grind (arith, nat_tests, here, from, low)

    pub well : is_well_formed publication version.lineage ≡ true
    well =
        let ascend : sites_ascend version.lineage ≡ true = sites_ascend-ascending version.lineage v.lineage.ascends in
        let pairs : list_all (is_pair publication) version.lineage ≡ true = all-true (is_pair publication) version.lineage
        (all-weaker (IsNumbered version.lineage) (λ (dot : Dot). is_pair publication dot ≡ true) pair-fits version.lineage (lineage-numbered version.lineage v.lineage.ascends)) in
        grind (arith, ascend, pairs)

    -- the tops

    pub topped : has_tops publication version.body ≡ true
    topped = body-topped publication version.body (all-weaker (λ (top : Dot). has past.known top ≡ true) (λ (top : Dot). is_top publication top ≡ true) (λ top is. made-top publication m k top (known-made top is)) (tops_of version.body) v.told.tops)

    pub tops-known : knows_tops version.lineage version.body ≡ true
    tops-known =
        let none : has_news (knows version.lineage) version.body ≡ false = none-new (knows version.lineage) (tops_of version.body)
        (all-weaker (λ (top : Dot). has past.known top ≡ true) (λ (top : Dot). knows version.lineage top ≡ true) (λ top is. v.told.tells.below top is) (tops_of version.body) v.told.tops) in
        grind (arith, none)

    -- the maker

    pub carried : AreCarried past.known
    carried dot is =
        let was = known-made dot is in
        let up = known-counted dot is in
        let limit = counted-low publication m k dot.site.0 in
        record { site = (let low = was.low in omega (arith, low)); from_one = was.numbered; fits = omega (arith, up, limit) }

    pub fits : fits_article publication key.article version.body ≡ true
    fits = found-passes (article_at publication key.article) version.body
        (found-exists publication m k exist rights took key (maker_of key.row.0) refl (v.named carried) (λ maker is. v.knowing.made_here maker (v.maker maker is))) (v.right took)

    -- of a site that counts its changes
    module _ (s : SubscriberTables) (counted : changes_of m.world s.site.0 ≡ s.changes) where
      lineage-made : list_all (was_made (standing_of s)) version.lineage ≡ true
      lineage-made = all-true (was_made (standing_of s)) version.lineage
          (all-weaker (IsNumbered version.lineage) (λ (dot : Dot). was_made (standing_of s) dot ≡ true) (λ dot is. own-made publication m k s counted dot (dot.site.0 == s.site.0) refl (pair-counted dot is)) version.lineage (lineage-numbered version.lineage v.lineage.ascends))

      maker-by : (found : Option Dot) → maker_of key.row.0 ≡ found → maker_fits (standing_of s) found ≡ true
      maker-by None is = refl
      maker-by (Some maker) is = own-made publication m k s counted maker (maker.site.0 == s.site.0) refl (known-counted maker (v.maker maker is))

  put-fits : (s : SubscriberTables) → changes_of m.world s.site.0 ≡ s.changes → (item : DownloadItem) (act : Order) (past : Past) → OfOrder IsPutWell (key_of_download item) past act → put_fits publication (standing_of s) item.article item.row.0 act ≡ true
  put-fits s counted item (order.Put lineage live) past v =
      let key : Key = key_of_download item in
      let version : Version = record { lineage = lineage; body = Live live } in
      let one : fits_article publication item.article (Live live) ≡ true = fits key version past v in
      let two : is_well_formed publication lineage ≡ true = well key version past v in
      let three : has_tops publication (Live live) ≡ true = topped key version past v in
      let four : knows_tops lineage (Live live) ≡ true = tops-known key version past v in
      let five : list_all (was_made (standing_of s)) lineage ≡ true = lineage-made key version past v s counted in
      let six : maker_fits (standing_of s) (maker_of item.row.0) ≡ true = maker-by key version past v s counted (maker_of item.row.0) refl in
      grind (arith, one, two, three, four, five, six)
  put-fits s counted item order.RemoveDeleted past v = refl
  put-fits s counted item order.RemoveLeft past v = refl

  module _ (number : ℕ) (site : SiteId) (d : Downloaded) (at : IsReply m number site (reply.Downloaded d)) where
    abbrev letter : Letter
    letter = record { site = site; message = Replies (reply.Downloaded d) }

    abbrev past_of : DownloadItem → Past
    past_of item = past_in (pasts_with h number) (key_of_download item)

    abbrev Of : (Key → Version → Past → Type 0) → DownloadItem → Type 0
    Of P item = OfOrder P (key_of_download item) (past_of item) item.act

    abbrev FirstPart : DownloadItem → Type 0
    FirstPart item = Of (λ (key : Key) (version : Version) (past : Past). Told version past.known) item × (OrderLineage (IsOfMade (changes_of m.world)) item.act × Of (λ (key : Key) (version : Version) (past : Past). KnowsMaker key past.known) item)

    order-well : (key : Key) (past : Past) (act : Order) → Knows h.made key past.known → OfOrder (λ (key : Key) (version : Version) (past : Past). Told version past.known) key past act → OrderLineage (IsOfMade (changes_of m.world)) act → OfOrder (λ (key : Key) (version : Version) (past : Past). KnowsMaker key past.known) key past act
        → OfOrder IsNamed key past act → OfOrder (IsRight publication h.made) key past act → OfOrder IsPutWell key past act
    order-well key past (order.Put lineage live) knowing told of maker named right = record { told = told; knowing = knowing; lineage = of; maker = maker; named = named; right = right }
    order-well key past order.RemoveDeleted knowing told of maker named right = tt
    order-well key past order.RemoveLeft knowing told of maker named right = tt

    knows-of : (key : Key) → Knows h.made key (past_in (pasts_with h number) key).known
    knows-of key = past-knows h.made key (pasts_with h number) (letter-knows h number k.whole.0.0.known.knowledge)

    puts-well : AllByRecursion (Of IsPutWell) d.items
    puts-well = all-three FirstPart (Of IsNamed) (Of (IsRight publication h.made)) (Of IsPutWell)
        (λ item first named right. order-well (key_of_download item) (past_of item) item.act (knows-of (key_of_download item)) first.0 first.1.0 first.1.1 named right) d.items
        (all-three (Of (λ (key : Key) (version : Version) (past : Past). Told version past.known)) (λ (item : DownloadItem). OrderLineage (IsOfMade (changes_of m.world)) item.act) (Of (λ (key : Key) (version : Version) (past : Past). KnowsMaker key past.known)) FirstPart
        (λ item told of maker. (told, (of, maker))) d.items
        (letter-fits (λ (key : Key) (version : Version) (past : Past). Told version past.known) m.world h number letter at k.kept.told.letters)
        (pool-at (λ (x : Letter). OfLineage (IsOfMade (changes_of m.world)) x.message) m.world number letter at k.whole.0.0.lineages.letters)
        (letter-zip (λ (x : Letter) (ps : List (Key × Past)). OfMessage (λ (key : Key) (version : Version) (past : Past). KnowsMaker key past.known) ps x.message) m.world h number letter k.kept.accepted.makers.letters at))
        (letter-fits IsNamed m.world h number letter at k.named.letters)
        (letter-fits (IsRight publication h.made) m.world h number letter at rights.letters)

    pub puts-in : (s : SubscriberTables) → at_number m.world.subscribers site.0 ≡ Some s → list_all (λ (item : DownloadItem). put_fits publication (standing_of s) item.article item.row.0 item.act) d.items ≡ true
    puts-in s there =
        let counted : changes_of m.world s.site.0 ≡ s.changes = counted-here publication m k site s there in
        all-true (λ (item : DownloadItem). put_fits publication (standing_of s) item.article item.row.0 item.act) d.items
        (all-weaker (Of IsPutWell) (λ (item : DownloadItem). put_fits publication (standing_of s) item.article item.row.0 item.act ≡ true) (λ item v. put-fits s counted item item.act (past_of item) v) d.items puts-well)

pub puts-fit : OfEveryValidRun PutsFit
puts-fit resolvers publication valid says tallies slips events number site d s at there =
    let m : Model = model_behind publication says tallies slips events in
    puts-in publication m (known-always publication says tallies slips events (resolvers, valid)) (exist-always publication says tallies slips events (resolvers, valid))
    (holds-always publication (IsRight publication) (right-goes_on resolvers publication valid) says tallies slips events (resolvers, valid)).1.0 (took-always publication says tallies slips events (resolvers, valid)) number site d at s there
