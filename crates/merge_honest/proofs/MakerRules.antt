-- The rule that an upload keeps by its rows' makers: 10.
use Rattle.std.specs.List.{AllByRecursion, AllZip}
use Rattle.std.specs.Option.{option_map_or}
use Rattle.std.specs.Prelude.{Bool, List, None, Option, Some, false, is_some, nat_le, option_map, refl, suc, true, unwrap_or, zero, ℕ, ◌+◌, ◌<◌, ◌==◌, ◌&&◌, ◌||◌, ◌≡◌, ◌≤◌}
use Rattle.std.proofs.Common.{ap, arith, subst, sym, ◌∙◌}
use Rattle.std.proofs.lemmas.Bool.Decides.{nat_tests}
use Rattle.merge_types.specs.Limits.{number_limit}
use Rattle.merge_types.specs.declared.identifiers.Dot.{Dot}
use Rattle.merge_types.specs.declared.identifiers.SiteId.{SiteId}
use Rattle.merge_types.specs.declared.row_key.RowKey.{RowKey as Key}
use Rattle.merge_lineage.specs.Lineage.{knows, number_of}
use Rattle.merge_units.specs.declared.version.Version.{Version}
use Rattle.merge_gens.specs.declared.sites.SiteState.{SiteState}
use Rattle.merge_schema.specs.Places.{is_subscription}
use Rattle.merge_schema.specs.declared.publication.Publication.{Publication}
use Rattle.merge_batch.specs.Known.{received_number_of}
use Rattle.merge_batch.specs.Makers.{maker_of}
use Rattle.merge_batch.specs.Uploads.{has_maker, maker_is_heard_of}
use Rattle.merge_batch.specs.declared.request.Request.TheVariants as request
use Rattle.merge_batch.specs.declared.request.Upload.{Upload}
use Rattle.merge_batch.specs.declared.request.UploadItem.{UploadItem}
use Rattle.merge_model.specs.Publisher.Acts.{key_of_item}
use Rattle.merge_model.specs.Judge.ByNumbers.{received_by_number, received_number_by_number}
use Rattle.merge_model.specs.World.Faults.{judged_state}
use Rattle.merge_model.specs.History.{History, MadeChange, Past, has, is_accepted, is_done, made_at, past_in, pasts_with}
use Rattle.merge_model.specs.Tables.Keys.{at_number, same_key}
use Rattle.merge_model.specs.History.Model.{Model}
use Rattle.merge_model.specs.Tables.{PublisherTables}
use Rattle.merge_model.specs.declared.letter.Letter.{Letter}
use Rattle.merge_model.specs.declared.letter.Message.TheVariants.{Asks}
use Rattle.merge_model.proofs.Lists.Finding.{letter-zip}
use Rattle.merge_model.proofs.Lists.KeyLookUps.{keys-same}
use Rattle.merge_model.proofs.Lists.{all-both, all-three}
use Rattle.merge_model.proofs.Lists.Tests.{numbers-same}
use Rattle.merge_laws.specs.Laws.Effects.{history_judge}
use Rattle.merge_laws.specs.Facts.Knowledge.{changes_of, is_made, same_dot}
use Rattle.merge_laws.specs.Invariants.KnownMakers.{KnowsMaker}
use Rattle.merge_laws.specs.Laws.{OfEveryValidRun}
use Rattle.merge_laws.specs.Facts.Lineages.{IsOfMade}
use Rattle.merge_laws.specs.Facts.LineagesStand.{OfMessage}
use Rattle.merge_laws.specs.Facts.Numbered.{is_up_to, last_of}
use Rattle.merge_laws.proofs.Accounts.AccountElements.{IsIn, all-in, any-out, filter-in}
use Rattle.merge_laws.proofs.Alike.AlikeFields.{number-alike}
use Rattle.merge_laws.proofs.Pasts.DotTests.{dots-same}
use Rattle.merge_laws.proofs.Numbered.Through.{each-within}
use Rattle.merge_laws.proofs.Told.ToldLetters.{letter-fits}
use Rattle.merge_honest.specs.Delivered.{IsRequest, NoneIsRefusedFor, breaks}
use Rattle.merge_honest.proofs.Breaking.{follows-all}
use Rattle.merge_honest.proofs.ItemFacts.{ItemKnown, items-known, known_to}
use Rattle.merge_honest.proofs.KnownItems.{lineages-made}
use Rattle.merge_honest.proofs.Named.{AreCarried, HasMaker, IsCarried, IsNamed}
use Rattle.merge_honest.proofs.NumberRules.{counted-low}
use Rattle.merge_honest.proofs.Rules.{Known, ItemMeets, UploadsKeep, head-met, held_against, of-uploads}

module _ (publication : Publication) (m : Model) (k : Known publication m) where
  abbrev h : History
  h = m.history

  abbrev p : PublisherTables
  p = m.world.publisher

  -- A change that made a row and is accepted stands in a generation that has acted, so its number was taken.

  received-number : (number n : ℕ) (found : Option SiteState) → at_number p.sites n ≡ found
      → option_map_or (λ (state : SiteState). state.received_number) (option_map (judged_state (history_judge m number) n) found) 0 ≡ received_number_by_number p n
  received-number number n None is = sym (ap (λ (found : Option SiteState). unwrap_or (option_map (λ (state : SiteState). state.received_number) found) 0) is)
  received-number number n (Some state) is = sym (number-alike publication m.world h k.whole.0.0 n)

  done-taken : (c : MadeChange) → IsIn c h.made → is_done h c.dot.site.0 c.generation ≡ true → c.dot.number ≤ received_number_by_number p c.dot.site.0
  done-taken c inside done =
      let n : ℕ = c.dot.site.0 in
      let to : ℕ = received_by_number p n in
      let first = k.whole.0.0.numbered.first n in
      let from : 1 ≤ c.generation = from-one c.generation n done first in
      let is = k.whole.0.0.received.done n c.generation from in
      let within : is_up_to to c ≡ true = grind (arith, nat_tests, from, is, done) in
      let own : IsIn c (made_at h n) = filter-in (λ (change : MadeChange). change.dot.site.0 == n) h.made c inside (let itself : (c.dot.site.0 == n) ≡ true = grind (arith, nat_tests) in itself) in
      let low : c.dot.number ≤ last_of to (made_at h n) = all-in (λ (x : MadeChange). is_up_to to x ≡ true → x.dot.number ≤ last_of to (made_at h n)) (made_at h n) c (each-within to (made_at h n)) own within in
      let taken = k.whole.0.0.numbered.taken n in
      omega (arith, low, taken)
    where
      from-one : (generation n : ℕ) → is_done h n generation ≡ true → is_done h n 0 ≡ false → 1 ≤ generation
      from-one zero n done first = absurd (let both : true ≡ false = sym done ∙ first in cc)
      from-one (suc generation) n done first = omega arith

  maker-taken : (key : Key) (maker : Dot) → maker_of key.row.0 ≡ Some maker → is_made h.made key maker ≡ true → is_accepted h maker ≡ true → (maker.site.0 ≡ 0 → ⊥) → maker.number ≤ received_number_by_number p maker.site.0
  maker-taken key maker is made accepted named = any-out (maker.number ≤ received_number_by_number p maker.site.0) (λ (change : MadeChange). same_dot change.dot maker && same_key key change.key) h.made made
      (λ c inside passes. (
      let same : c.dot ≡ maker = dots-same c.dot maker (let both : same_dot c.dot maker ≡ true = grind (arith, passes) in both) in
      let row : key ≡ c.key = keys-same key c.key (let both : same_key key c.key ≡ true = grind (arith, passes) in both) in
      let inserted : maker_of c.key.row.0 ≡ Some c.dot = ap (λ (other : Key). maker_of other.row.0) (sym row) ∙ is ∙ ap (λ (dot : Dot). (let found : Option Dot = Some dot in found)) (sym same) in
      let done : is_done h c.dot.site.0 c.generation ≡ true =
      all-in (λ (change : MadeChange). maker_of change.key.row.0 ≡ Some change.dot → is_accepted h change.dot ≡ true → (change.dot.site.0 ≡ 0 → ⊥) → is_done h change.dot.site.0 change.generation ≡ true) h.made c k.kept.accepted.accepted.counts.inserts inside
      inserted (subst (λ (dot : Dot). is_accepted h dot ≡ true) (sym same) accepted) (λ zero_is. named (ap (λ (dot : Dot). dot.site.0) (sym same) ∙ zero_is)) in
      subst (λ (dot : Dot). dot.number ≤ received_number_by_number p dot.site.0) same (done-taken c inside done)))

  module _ (number : ℕ) (site : SiteId) (u : Upload) (at : IsRequest m number site (request.Upload u)) where
    -- what an item knows can be carried by an identifier
    dot-carried : (item : UploadItem) → ItemKnown publication m k number site u at item → IsOfMade (changes_of m.world) item.version.lineage → AreCarried (known_to publication m k number site u at item)
    dot-carried item i made dot is =
        let was = i.made dot is in
        let told : knows item.version.lineage dot ≡ true = i.told.tells.below dot is in
        let up : dot.number ≤ number_of item.version.lineage dot.site.0 = grind (arith, nat_tests, told) in
        let bound = made.within dot.site.0 in
        let limit = counted-low publication m k dot.site.0 in
        record { site = (let low = was.low in omega (arith, low)); from_one = was.numbered; fits = omega (arith, up, bound, limit) }

    own-count : (item : UploadItem) → ItemKnown publication m k number site u at item → IsOfMade (changes_of m.world) item.version.lineage → (maker : Dot) → has (known_to publication m k number site u at item) maker ≡ true → maker.site.0 ≡ 0 → maker.number ≤ p.changes
    own-count item i made maker is zero_is =
        let told : knows item.version.lineage maker ≡ true = i.told.tells.below maker is in
        let up : maker.number ≤ number_of item.version.lineage maker.site.0 = grind (arith, nat_tests, told) in
        let bound = made.within maker.site.0 in
        let counted : changes_of m.world maker.site.0 ≡ p.changes = ap (changes_of m.world) zero_is in
        omega (arith, up, bound, counted)

    heard-by : (item : UploadItem) → ItemKnown publication m k number site u at item → IsOfMade (changes_of m.world) item.version.lineage → (maker : Dot) → maker_of item.row.0 ≡ Some maker → has (known_to publication m k number site u at item) maker ≡ true
        → (b c : Bool) → (maker.site.0 == 0) ≡ b → (maker.site.0 == u.site.0) ≡ c → maker_is_heard_of publication (held_against publication m number) u.site.0 maker ≡ true
    heard-by item i made maker is known true c own mine = let low = own-count item i made maker known (numbers-same maker.site.0 0 own) in grind (arith, nat_tests, own, low)
    heard-by item i made maker is known false true own mine = let here = (i.made maker known).site in grind (arith, own, mine, here)
    heard-by item i made maker is known false false own mine =
        let here = (i.made maker known).site in
        let accepted : is_accepted h maker ≡ true = i.others maker known (λ same. absurd (grind (arith, nat_tests, same, mine))) in
        let taken = maker-taken (key_of_item item) maker is (i.knows.made_here maker known) accepted (λ none. absurd (grind (arith, nat_tests, none, own))) in
        let kept : received_number_of (held_against publication m number) maker.site.0 ≡ received_number_by_number p maker.site.0 = received-number number maker.site.0 (at_number p.sites maker.site.0) refl in
        grind (arith, nat_tests, own, mine, here, taken, kept)

    found-heard : (item : UploadItem) → ItemKnown publication m k number site u at item → IsOfMade (changes_of m.world) item.version.lineage → KnowsMaker (key_of_item item) (known_to publication m k number site u at item)
        → (found : Option Dot) → maker_of item.row.0 ≡ found → is_some found ≡ true → option_map_or (maker_is_heard_of publication (held_against publication m number) u.site.0) found false ≡ true
    found-heard item i made knows None is there = absurd cc
    found-heard item i made knows (Some maker) is there = heard-by item i made maker is (knows maker is) (maker.site.0 == 0) (maker.site.0 == u.site.0) refl refl

    makers-known : AllByRecursion (λ (item : UploadItem). KnowsMaker (key_of_item item) (known_to publication m k number site u at item)) u.items
    makers-known = letter-zip (λ (x : Letter) (ps : List (Key × Past)). OfMessage (λ (key : Key) (version : Version) (past : Past). KnowsMaker key past.known) ps x.message) m.world h number (record { site = site; message = Asks (request.Upload u) }) k.kept.accepted.makers.letters at

    rows-named : AllByRecursion (λ (item : UploadItem). IsNamed (key_of_item item) item.version (past_in (pasts_with h number) (key_of_item item))) u.items
    rows-named = letter-fits IsNamed m.world h number (record { site = site; message = Asks (request.Upload u) }) at k.named.letters

    -- each row has a maker, and was made by it
    pub items-named : AllByRecursion (λ (item : UploadItem). (is_some (maker_of item.row.0) ≡ true) × ((maker : Dot) → maker_of item.row.0 ≡ Some maker → is_made h.made (key_of_item item) maker ≡ true)) u.items
    items-named = all-both (λ (item : UploadItem). ItemKnown publication m k number site u at item × IsOfMade (changes_of m.world) item.version.lineage)
        (λ (item : UploadItem). KnowsMaker (key_of_item item) (known_to publication m k number site u at item) × IsNamed (key_of_item item) item.version (past_in (pasts_with h number) (key_of_item item)))
        (λ (item : UploadItem). (is_some (maker_of item.row.0) ≡ true) × ((maker : Dot) → maker_of item.row.0 ≡ Some maker → is_made h.made (key_of_item item) maker ≡ true))
        (λ item one other. (other.1 (dot-carried item one.0 one.1), λ maker is. one.0.knows.made_here maker (other.0 maker is))) u.items
        (all-both (ItemKnown publication m k number site u at) (λ (item : UploadItem). IsOfMade (changes_of m.world) item.version.lineage) (λ (item : UploadItem). ItemKnown publication m k number site u at item × IsOfMade (changes_of m.world) item.version.lineage) (λ item one other. (one, other)) u.items (items-known publication m k number site u at) (lineages-made publication m k number site u at))
        (all-both (λ (item : UploadItem). KnowsMaker (key_of_item item) (known_to publication m k number site u at item)) (λ (item : UploadItem). IsNamed (key_of_item item) item.version (past_in (pasts_with h number) (key_of_item item))) (λ (item : UploadItem). KnowsMaker (key_of_item item) (known_to publication m k number site u at item) × IsNamed (key_of_item item) item.version (past_in (pasts_with h number) (key_of_item item))) (λ item one other. (one, other)) u.items makers-known rows-named)

    pub items-made : AllByRecursion (λ (item : UploadItem). has_maker publication (held_against publication m number) u item ≡ true) u.items
    items-made = all-both (λ (item : UploadItem). ItemKnown publication m k number site u at item × IsOfMade (changes_of m.world) item.version.lineage)
        (λ (item : UploadItem). KnowsMaker (key_of_item item) (known_to publication m k number site u at item) × IsNamed (key_of_item item) item.version (past_in (pasts_with h number) (key_of_item item)))
        (λ (item : UploadItem). has_maker publication (held_against publication m number) u item ≡ true)
        (λ item one other. (let there : is_some (maker_of item.row.0) ≡ true = other.1 (dot-carried item one.0 one.1) in found-heard item one.0 one.1 other.0 (maker_of item.row.0) refl there)) u.items
        (all-both (ItemKnown publication m k number site u at) (λ (item : UploadItem). IsOfMade (changes_of m.world) item.version.lineage) (λ (item : UploadItem). ItemKnown publication m k number site u at item × IsOfMade (changes_of m.world) item.version.lineage) (λ item one other. (one, other)) u.items (items-known publication m k number site u at) (lineages-made publication m k number site u at))
        (all-both (λ (item : UploadItem). KnowsMaker (key_of_item item) (known_to publication m k number site u at item)) (λ (item : UploadItem). IsNamed (key_of_item item) item.version (past_in (pasts_with h number) (key_of_item item))) (λ (item : UploadItem). KnowsMaker (key_of_item item) (known_to publication m k number site u at item) × IsNamed (key_of_item item) item.version (past_in (pasts_with h number) (key_of_item item))) (λ item one other. (one, other)) u.items makers-known rows-named)

makers-keep : (publication : Publication) (m : Model) → Known publication m → UploadsKeep 10 publication m
makers-keep publication m k number site u at fine =
    (head-met 10 publication m number u refl, follows-all (λ (item : UploadItem). has_maker publication (held_against publication m number) u item ≡ true) (ItemMeets 10 publication m number u) (λ before item is. grind (arith, is)) None u.items (items-made publication m k number site u at))

pub no-unheard-maker : OfEveryValidRun (NoneIsRefusedFor (breaks 10))
no-unheard-maker = of-uploads 10 refl refl makers-keep
