-- What a start asks of a version but for its values, and what changes and merges keep of it.
use Rattle.std.specs.List.{AllByRecursion, list_all, list_any}
use Rattle.std.specs.Option.{option_map_or}
use Rattle.std.specs.Prelude.{Bool, List, None, Option, Some, [], false, if◌then◌else◌, length, map, max, nat_le, nat_lt, not, refl, true, unwrap_or, ℕ, ◌&&◌, ◌+◌, ◌==◌, ◌||◌, ◌≡◌, ◌≤◌, ◌∷◌}
use Rattle.std.proofs.Common.{ap, arith, subst, sym}
use Rattle.std.proofs.lemmas.Bool.Decides.{nat_tests}
use Rattle.merge_types.specs.declared.identifiers.Dot.{Dot}
use Rattle.merge_types.specs.declared.row_key.RowKey.{RowKey as Key}
use Rattle.merge_lineage.specs.Lineage.{IsAscending, joined, knows, number_at, number_of, with_dot}
use Rattle.merge_lineage.proofs.Ascending.{ascending_complete, ascending_sound}
use Rattle.merge_lineage.proofs.Covers.{advance_knows, join_knows}
use Rattle.merge_lineage.proofs.Rising.{rises_from_ascending}
use Rattle.merge_units.specs.Results.{case_body, result_by, result_lineage}
use Rattle.merge_units.specs.Version.{has_news, is_new, tops_of}
use Rattle.merge_units.specs.declared.case.Case.{Case}
use Rattle.merge_units.specs.declared.result.Decision.{Decision}
use Rattle.merge_units.specs.declared.result.Decision.TheVariants.{Custom, KeepPublisher, TakeSubscriber}
use Rattle.merge_units.specs.declared.version.Body.{Body}
use Rattle.merge_units.specs.declared.version.Body.TheVariants.{Dead, Live}
use Rattle.merge_units.specs.declared.version.Cell.{Cell}
use Rattle.merge_units.specs.declared.version.Version.{Version}
use Rattle.merge_schema.specs.Places.{article_at}
use Rattle.merge_schema.specs.Valid.{IsValid}
use Rattle.merge_schema.specs.declared.publication.Publication.{Publication}
use Rattle.merge_batch.specs.Articles.{fits_article, has_article}
use Rattle.merge_batch.specs.Lineages.{is_site, knows_tops}
use Rattle.merge_batch.specs.LocalChanges.{tracking_at, types_at}
use Rattle.merge_batch.specs.Makers.{maker_of}
use Rattle.merge_record.specs.Tables.{IsRowKey}
use Rattle.merge_record.specs.Versions.{IsBody, IsDot, IsLineage, IsVersion}
use Rattle.merge_keeper.specs.Start.{cell_site_is_known, dot_site_is_known, row_was_made, top_sites_are_known, version_is_sound, was_made}
use Rattle.merge_model.specs.Publisher.Acts.{decided_changes}
use Rattle.merge_model.proofs.Lists.Finding.{all-weaker}
use Rattle.merge_model.proofs.Lists.{all-both}
use Rattle.merge_typed.specs.Typed.{BodyIsTyped}
use Rattle.merge_laws.specs.Facts.Lineages.{IsOfMade}
use Rattle.merge_laws.proofs.Lineages.LineageLists.{made-dot, made-joined}
use Rattle.merge_laws.proofs.Told.ToldVersions.{OwnHolds, body-tops}
use Rattle.merge_honest.proofs.ItemFacts.{IsNumbered, lineage-numbered}
use Rattle.merge_honest.proofs.KnownItems.{all-true}
use Rattle.merge_honest.proofs.RowRules.{found-passes}
use Rattle.merge_honest.proofs.RowsFit.{RightAt, few}
use Rattle.merge_stored.specs.Versions.{VersionIsStored, VersionLoads}
use Rattle.merge_stored.proofs.Records.{cells-fit, rising-short}
use Rattle.merge_stored.proofs.Sites.{site-low}
use Rattle.merge_stored.proofs.AnyCalls.Bodies.{fits-right, fits-there}

-- the greatest number that a field has
abbrev pub most : ℕ
most = 18_446_744_073_709_551_615

-- of the publisher no change is known that it has yet to make
abbrev pub bound : ℕ → ℕ → ℕ
bound changes site = if site == 0 then changes else most

abbrev pub any : ℕ → ℕ
any site = most

pub bound-by : (b : Bool) (changes : ℕ) → changes ≤ most → (let n : ℕ = if b then changes else most in n ≤ most)
bound-by true changes low = low
bound-by false changes low = omega arith

pub bound-low : (changes : ℕ) → changes ≤ most → (site : ℕ) → bound changes site ≤ most
bound-low changes low site = bound-by (site == 0) changes low

pub up-by : (b : Bool) (changes later : ℕ) → changes ≤ later → (let n : ℕ = if b then changes else most in n ≤ (if b then later else most))
up-by true changes later up = up
up-by false changes later up = omega arith

pub bound-up : (changes later : ℕ) → changes ≤ later → (site : ℕ) → bound changes site ≤ bound later site
bound-up changes later up site = up-by (site == 0) changes later up

-- a change of the publisher
abbrev pub own_dot : ℕ → Dot
own_dot number = record { site = record { 0 = 0 }; number = number }

module _ (publication : Publication) where
  abbrev pub OfSite : Dot → Type 0
  OfSite dot = is_site publication dot.site.0 ≡ true

  abbrev pub TopStands : List Dot → Dot → Type 0
  TopStands lineage top = (is_site publication top.site.0 ≡ true) × (knows lineage top ≡ true)

  pub record VersionStands (made : ℕ → ℕ) (key : Key) (version : Version) : Type 0 where
    pub key_fits : IsRowKey key
    pub exists : has_article publication key.article ≡ true
    pub lineage : IsOfMade made version.lineage
    pub sites : AllByRecursion OfSite version.lineage
    pub right : RightAt publication key version.body
    pub tops : AllByRecursion (TopStands version.lineage) (tops_of version.body)

  -- a row of the publisher, which made so many changes
  pub record RowStands (changes : ℕ) (key : Key) (version : Version) : Type 0 where
    pub stands : VersionStands (bound changes) key version
    pub made : option_map_or (was_made 0 changes) (maker_of key.row.0) true ≡ true

  -- As more changes are made.

  made-weaker : (made other : ℕ → ℕ) → ((n : ℕ) → made n ≤ other n) → (lineage : List Dot) → IsOfMade made lineage → IsOfMade other lineage
  made-weaker made other up lineage of = record { ascends = of.ascends; within = λ n. (let low = of.within n in let high = up n in omega (arith, low, high)) }

  pub version-weaker : (made other : ℕ → ℕ) → ((n : ℕ) → made n ≤ other n) → (key : Key) (version : Version) → VersionStands made key version → VersionStands other key version
  version-weaker made other up key version v = record { key_fits = v.key_fits; exists = v.exists; lineage = made-weaker made other up version.lineage v.lineage; sites = v.sites; right = v.right; tops = v.tops }

  made-later : (b : Bool) (n changes later : ℕ) → changes ≤ later → (not b || nat_le n changes) ≡ true → (not b || nat_le n later) ≡ true
  made-later true n changes later up is = grind (arith, nat_tests, up, is)
  made-later false n changes later up is = refl

  maker-later : (found : Option Dot) (changes later : ℕ) → changes ≤ later → option_map_or (was_made 0 changes) found true ≡ true → option_map_or (was_made 0 later) found true ≡ true
  maker-later None changes later up is = refl
  maker-later (Some maker) changes later up is = made-later (maker.site.0 == 0) maker.number changes later up is

  pub row-later : (changes later : ℕ) → changes ≤ later → (key : Key) (version : Version) → RowStands changes key version → RowStands later key version
  row-later changes later up key version r = record { stands = version-weaker (bound changes) (bound later) (bound-up changes later up) key version r.stands; made = maker-later (maker_of key.row.0) changes later up r.made }

  -- Lineages.

  dots-by : (b c : Bool) (dot first : Dot) (rest more : List Dot) → OfSite dot → OfSite first → AllByRecursion OfSite rest → AllByRecursion OfSite more
      → (let dots : List Dot = if b then dot ∷ first ∷ rest else (if c then record { site = first.site; number = max first.number dot.number } ∷ rest else first ∷ more) in AllByRecursion OfSite dots)
  dots-by true c dot first rest more here one all others = (here, (one, all))
  dots-by false true dot first rest more here one all others = (one, all)
  dots-by false false dot first rest more here one all others = (one, others)

  pub dotted-sites : (dot : Dot) (lineage : List Dot) → OfSite dot → AllByRecursion OfSite lineage → AllByRecursion OfSite (with_dot dot lineage)
  dotted-sites dot [] here all = (here, tt)
  dotted-sites dot (first ∷ rest) here all = dots-by (nat_lt dot.site.0 first.site.0) (dot.site.0 == first.site.0) dot first rest (with_dot dot rest) here all.0 all.1 (dotted-sites dot rest here all.1)

  joined-sites : (ours theirs : List Dot) → AllByRecursion OfSite ours → AllByRecursion OfSite theirs → AllByRecursion OfSite (joined ours theirs)
  joined-sites [] theirs one other = other
  joined-sites (dot ∷ rest) theirs one other = dotted-sites dot (joined rest theirs) one.0 (joined-sites rest theirs one.1 other)

  pub dotted-more : (dot : Dot) (lineage : List Dot) → IsAscending lineage → (top : Dot) → TopStands lineage top → TopStands (with_dot dot lineage) top
  dotted-more dot lineage ascends top is = (is.0, (let all = (advance_knows lineage dot top ascends).1 in let known = is.1 in grind (arith, all, known)))

  pub dotted-own : (dot : Dot) (lineage : List Dot) → IsAscending lineage → OfSite dot → TopStands (with_dot dot lineage) dot
  dotted-own dot lineage ascends site = (site, (let all = (advance_knows lineage dot dot ascends).1 in grind (arith, nat_tests, all)))

  joined-left : (ours theirs : List Dot) → IsAscending ours → IsAscending theirs → (top : Dot) → TopStands ours top → TopStands (joined ours theirs) top
  joined-left ours theirs one other top is = (is.0, (let all = join_knows ours theirs top one other in let known = is.1 in grind (arith, all, known)))

  joined-right : (ours theirs : List Dot) → IsAscending ours → IsAscending theirs → (top : Dot) → TopStands theirs top → TopStands (joined ours theirs) top
  joined-right ours theirs one other top is = (is.0, (let all = join_knows ours theirs top one other in let known = is.1 in grind (arith, all, known)))

  -- A merge.

  result-made : (changes number : ℕ) (decision : Decision) (ours theirs : List Dot) → number ≡ changes + 1 → IsOfMade (bound changes) ours → IsOfMade (bound changes) theirs
      → IsOfMade (bound (changes + decided_changes decision)) (result_lineage ours theirs decision (own_dot number))
  result-made changes number KeepPublisher ours theirs next one other = made-weaker (bound changes) (bound (changes + 0)) (bound-up changes (changes + 0) (omega arith)) (joined ours theirs) (made-joined (bound changes) ours theirs one other)
  result-made changes number TakeSubscriber ours theirs next one other = made-weaker (bound changes) (bound (changes + 0)) (bound-up changes (changes + 0) (omega arith)) (joined ours theirs) (made-joined (bound changes) ours theirs one other)
  result-made changes number (Custom values) ours theirs next one other =
      made-dot (bound (changes + 1)) (own_dot number) (joined ours theirs) (let low : number ≤ changes + 1 = omega (arith, next) in low)
      (made-weaker (bound changes) (bound (changes + 1)) (bound-up changes (changes + 1) (omega arith)) (joined ours theirs) (made-joined (bound changes) ours theirs one other))

  result-sites : (number : ℕ) (decision : Decision) (ours theirs : List Dot) → AllByRecursion OfSite ours → AllByRecursion OfSite theirs → AllByRecursion OfSite (result_lineage ours theirs decision (own_dot number))
  result-sites number KeepPublisher ours theirs one other = joined-sites ours theirs one other
  result-sites number TakeSubscriber ours theirs one other = joined-sites ours theirs one other
  result-sites number (Custom values) ours theirs one other = dotted-sites (own_dot number) (joined ours theirs) refl (joined-sites ours theirs one other)

  -- what either side knows, and the own change where there is one
  record Known (ours theirs : List Dot) (decision : Decision) (number : ℕ) : Type 0 where
    left : (top : Dot) → TopStands ours top → TopStands (result_lineage ours theirs decision (own_dot number)) top
    right : (top : Dot) → TopStands theirs top → TopStands (result_lineage ours theirs decision (own_dot number)) top
    own : OwnHolds (TopStands (result_lineage ours theirs decision (own_dot number))) decision (own_dot number)

  result-known : (number : ℕ) (decision : Decision) (ours theirs : List Dot) → IsAscending ours → IsAscending theirs → IsAscending (joined ours theirs) → Known ours theirs decision number
  result-known number KeepPublisher ours theirs one other all = record { left = joined-left ours theirs one other; right = joined-right ours theirs one other; own = tt }
  result-known number TakeSubscriber ours theirs one other all = record { left = joined-left ours theirs one other; right = joined-right ours theirs one other; own = tt }
  result-known number (Custom values) ours theirs one other all = record {
    left = λ top is. dotted-more (own_dot number) (joined ours theirs) all top (joined-left ours theirs one other top is);
    right = λ top is. dotted-more (own_dot number) (joined ours theirs) all top (joined-right ours theirs one other top is);
    own = dotted-own (own_dot number) (joined ours theirs) all refl;
  }

  pub result-stands : (changes number : ℕ) (key : Key) (held incoming : Version) (c : Case) (decision : Decision) → number ≡ changes + 1 → RightAt publication key (case_body (own_dot number) decision c held.body incoming.body)
      → VersionStands (bound changes) key held → VersionStands (bound changes) key incoming → VersionStands (bound (changes + decided_changes decision)) key (result_by c held incoming decision (own_dot number))
  result-stands changes number key held incoming c decision next right one other =
      let both = made-joined (bound changes) held.lineage incoming.lineage one.lineage other.lineage in
      let known : Known held.lineage incoming.lineage decision number = result-known number decision held.lineage incoming.lineage one.lineage.ascends other.lineage.ascends both.ascends in
      let lineage : List Dot = result_lineage held.lineage incoming.lineage decision (own_dot number) in
      record {
        key_fits = one.key_fits;
        exists = one.exists;
        lineage = result-made changes number decision held.lineage incoming.lineage next one.lineage other.lineage;
        sites = result-sites number decision held.lineage incoming.lineage one.sites other.sites;
        right = right;
        tops = body-tops (TopStands lineage) (own_dot number) decision c held.body incoming.body known.own
            (all-weaker (TopStands held.lineage) (TopStands lineage) known.left (tops_of held.body) one.tops) (all-weaker (TopStands incoming.lineage) (TopStands lineage) known.right (tops_of incoming.body) other.tops);
      }

  -- It loads, where its values are typed.

  cells-known : (lineage : List Dot) (cells : List Cell) → AllByRecursion (TopStands lineage) (map (λ (cell : Cell). cell.top) cells) → list_all (cell_site_is_known publication) cells ≡ true
  cells-known lineage [] tops = refl
  cells-known lineage (cell ∷ cells) tops = (let first = tops.0.0 in let rest = cells-known lineage cells tops.1 in grind (arith, first, rest))

  tops-sites : (lineage : List Dot) (body : Body) → AllByRecursion (TopStands lineage) (tops_of body) → top_sites_are_known publication body ≡ true
  tops-sites lineage (Live cells) tops = cells-known lineage cells tops
  tops-sites lineage (Dead top) tops = tops.0.0

  none-new : (lineage tops : List Dot) → AllByRecursion (TopStands lineage) tops → list_any (is_new (knows lineage)) tops ≡ false
  none-new lineage [] all = refl
  none-new lineage (top ∷ tops) all = (let first = all.0.1 in let rest = none-new lineage tops all.1 in grind (arith, first, rest))

  version-sound : (made : ℕ → ℕ) (key : Key) (version : Version) → VersionStands made key version → version_is_sound publication key.article version ≡ true
  unfolding version_is_sound
  version-sound made key version v =
      let one : fits_article publication key.article version.body ≡ true = found-passes (article_at publication key.article) version.body v.exists v.right in
      let two : list_all (dot_site_is_known publication) version.lineage ≡ true = all-true (dot_site_is_known publication) version.lineage v.sites in
      let three : top_sites_are_known publication version.body ≡ true = tops-sites version.lineage version.body v.tops in
      let none : has_news (knows version.lineage) version.body ≡ false = none-new version.lineage (tops_of version.body) v.tops in
      let four : knows_tops version.lineage version.body ≡ true = grind (arith, none) in
      grind (arith, one, two, three, four)

  module _ (resolvers : ℕ) (valid : IsValid resolvers publication) (made : ℕ → ℕ) (low : (n : ℕ) → made n ≤ most) (key : Key) (version : Version) (v : VersionStands made key version) where
    dot-of : (dot : Dot) → OfSite dot → dot.number ≤ number_of version.lineage dot.site.0 → IsDot dot
    dot-of dot site up =
        let within = v.lineage.within dot.site.0 in
        let limit = low dot.site.0 in
        let few_sites = site-low resolvers publication valid dot.site.0 site in
        (omega (arith, few_sites), omega (arith, up, within, limit))

    pair-fits : (dot : Dot) → IsNumbered version.lineage dot → OfSite dot → IsDot dot
    pair-fits dot is site = (let count : number_of version.lineage dot.site.0 ≡ dot.number = ap (λ (found : Option ℕ). unwrap_or found 0) is in dot-of dot site (omega (arith, count)))

    top-fits : (top : Dot) → TopStands version.lineage top → IsDot top
    top-fits top is = (let known = is.1 in dot-of top is.0 (let up : top.number ≤ number_of version.lineage top.site.0 = grind (arith, nat_tests, known) in up))

    lineage-fits : IsLineage version.lineage
    lineage-fits =
        let numbered = lineage-numbered version.lineage v.lineage.ascends in
        let short = rising-short 0 version.lineage (rises_from_ascending version.lineage v.lineage.ascends) (all-weaker OfSite (λ (dot : Dot). dot.site.0 ≤ 63) (λ dot site. site-low resolvers publication valid dot.site.0 site) version.lineage v.sites) (omega arith) in
        ((omega (arith, short), all-both (IsNumbered version.lineage) OfSite IsDot pair-fits version.lineage numbered v.sites), ascending_complete version.lineage v.lineage.ascends)

    body-fits : (body : Body) → AllByRecursion IsDot (tops_of body) → RightAt publication key body → BodyIsTyped body → IsBody body
    body-fits (Live cells) tops right typed = cells-fit (tracking_at publication key.article) (length (types_at publication key.article)) cells (few resolvers publication valid key.article) right.shaped.0 tops typed
    body-fits (Dead top) tops right typed = tops.0

    pub version-loads : BodyIsTyped version.body → VersionLoads publication key version
    version-loads typed = record {
      key_fits = v.key_fits;
      has_record = (lineage-fits, body-fits version.body (all-weaker (TopStands version.lineage) IsDot top-fits (tops_of version.body) v.tops) v.right typed);
      sound = version-sound made key version v;
    }

  own-made : (changes : ℕ) (key : Key) (version : Version) → RowStands changes key version → row_was_made 0 changes key version ≡ true
  unfolding row_was_made
  own-made changes key version r =
      let up : number_of version.lineage 0 ≤ changes = r.stands.lineage.within 0 in
      let one : nat_le (number_of version.lineage 0) changes ≡ true = grind (arith, nat_tests, up) in
      let two = r.made in
      grind (arith, one, two)

  pub row-stored : (resolvers : ℕ) → IsValid resolvers publication → (changes : ℕ) → changes ≤ most → (key : Key) (version : Version) → RowStands changes key version → BodyIsTyped version.body → VersionIsStored publication 0 changes key version
  row-stored resolvers valid changes low key version r typed = record { loads = version-loads resolvers valid (bound changes) (bound-low changes low) key version r.stands typed; made = own-made changes key version r }

  -- And what loads stands.

  four : (a b c d : Bool) → (a && b && c && d) ≡ true → (a ≡ true) × (b ≡ true) × (c ≡ true) × (d ≡ true)
  four a b c d is = (grind (arith, is), grind (arith, is), grind (arith, is), grind (arith, is))

  abbrev Parts : Key → Version → Type 0
  Parts key version = (fits_article publication key.article version.body ≡ true) × (list_all (dot_site_is_known publication) version.lineage ≡ true) × (top_sites_are_known publication version.body ≡ true) × (knows_tops version.lineage version.body ≡ true)

  sound-parts : (key : Key) (version : Version) → version_is_sound publication key.article version ≡ true → Parts key version
  unfolding version_is_sound
  sound-parts key version sound = four (fits_article publication key.article version.body) (list_all (dot_site_is_known publication) version.lineage) (top_sites_are_known publication version.body) (knows_tops version.lineage version.body) sound

  each-site : (lineage : List Dot) → list_all (dot_site_is_known publication) lineage ≡ true → AllByRecursion OfSite lineage
  each-site [] all = tt
  each-site (dot ∷ lineage) all = (let here : dot_site_is_known publication dot ≡ true = grind (arith, all) in here, each-site lineage (grind (arith, all)))

  -- of each cell, where the lineage knows all
  known-site : (lineage : List Dot) (top : Dot) (rest : List Dot) → is_site publication top.site.0 ≡ true → list_any (is_new (knows lineage)) (top ∷ rest) ≡ false → TopStands lineage top
  known-site lineage top rest site none = (site, (let here : not (knows lineage top) ≡ false = grind (arith, none) in grind (arith, here)))

  later-none : (lineage : List Dot) (top : Dot) (rest : List Dot) → list_any (is_new (knows lineage)) (top ∷ rest) ≡ false → list_any (is_new (knows lineage)) rest ≡ false
  later-none lineage top rest none = grind (arith, none)

  cells-stand : (lineage : List Dot) (cells : List Cell) → list_all (cell_site_is_known publication) cells ≡ true → list_any (is_new (knows lineage)) (map (λ (cell : Cell). cell.top) cells) ≡ false → AllByRecursion (TopStands lineage) (map (λ (cell : Cell). cell.top) cells)
  cells-stand lineage [] sites none = tt
  cells-stand lineage (cell ∷ cells) sites none =
      let rest : List Dot = map (λ (cell : Cell). cell.top) cells in
      let here : cell_site_is_known publication cell ≡ true = grind (arith, sites) in
      (known-site lineage cell.top rest here none, cells-stand lineage cells (grind (arith, sites)) (later-none lineage cell.top rest none))

  pub tops-stand : (lineage : List Dot) (body : Body) → top_sites_are_known publication body ≡ true → has_news (knows lineage) body ≡ false → AllByRecursion (TopStands lineage) (tops_of body)
  tops-stand lineage (Live cells) sites none = cells-stand lineage cells sites none
  tops-stand lineage (Dead top) sites none = (known-site lineage top [] sites none, tt)

  number-by : (b : Bool) (dot : Dot) (rest : Option ℕ) → dot.number ≤ most → unwrap_or rest 0 ≤ most → (let found : Option ℕ = if b then Some dot.number else rest in unwrap_or found 0) ≤ most
  number-by true dot rest here more = here
  number-by false dot rest here more = more

  pub numbers-low : (lineage : List Dot) (n : ℕ) → AllByRecursion IsDot lineage → number_of lineage n ≤ most
  numbers-low [] n all = omega arith
  numbers-low (dot ∷ lineage) n all = number-by (dot.site.0 == n) dot (number_at lineage n) (let low = all.0.1 in omega (arith, low)) (numbers-low lineage n all.1)

  pub known-none : (lineage : List Dot) (body : Body) → knows_tops lineage body ≡ true → has_news (knows lineage) body ≡ false
  known-none lineage body known = grind (arith, known)

  pub version-from : (made : ℕ → ℕ) (key : Key) (version : Version) → ((n : ℕ) → number_of version.lineage n ≤ made n) → IsRowKey key → IsVersion version → version_is_sound publication key.article version ≡ true → VersionStands made key version
  version-from made key version within fits has sound =
      let parts : Parts key version = sound-parts key version sound in
      record {
        key_fits = fits;
        exists = fits-there publication key.article version.body parts.0;
        lineage = record { ascends = ascending_sound version.lineage has.0.1; within = within };
        sites = each-site version.lineage parts.1;
        right = fits-right publication key version.body parts.0;
        tops = tops-stand version.lineage version.body parts.2 (known-none version.lineage version.body parts.3);
      }

  -- a version that lost, whatever it knows
  pub lost-from : (key : Key) (version : Version) → IsRowKey key → IsVersion version → version_is_sound publication key.article version ≡ true → VersionStands any key version
  lost-from key version fits has sound = version-from any key version (λ n. numbers-low version.lineage n has.0.0.1) fits has sound

  -- a row
  own-within : (b : Bool) (lineage : List Dot) (changes n : ℕ) → (n == 0) ≡ b → number_of lineage 0 ≤ changes → number_of lineage n ≤ most → (let limit : ℕ = if b then changes else most in number_of lineage n ≤ limit)
  own-within true lineage changes n is own low = (let same : n ≡ 0 = grind (arith, nat_tests, is) in subst (λ (k : ℕ). number_of lineage k ≤ changes) (sym same) own)
  own-within false lineage changes n is own low = low

  two : (a b : Bool) → (a && b) ≡ true → (a ≡ true) × (b ≡ true)
  two a b is = (grind (arith, is), grind (arith, is))

  made-parts : (changes : ℕ) (key : Key) (version : Version) → row_was_made 0 changes key version ≡ true → (nat_le (number_of version.lineage 0) changes ≡ true) × (option_map_or (was_made 0 changes) (maker_of key.row.0) true ≡ true)
  unfolding row_was_made
  made-parts changes key version made = two (nat_le (number_of version.lineage 0) changes) (option_map_or (was_made 0 changes) (maker_of key.row.0) true) made

  pub row-from : (changes : ℕ) (key : Key) (version : Version) → IsRowKey key → IsVersion version → version_is_sound publication key.article version ≡ true → row_was_made 0 changes key version ≡ true → RowStands changes key version
  row-from changes key version fits has sound made =
      let both = made-parts changes key version made in
      let below = both.0 in
      let own : number_of version.lineage 0 ≤ changes = grind (arith, nat_tests, below) in
      record {
        stands = version-from (bound changes) key version (λ n. own-within (n == 0) version.lineage changes n refl own (numbers-low version.lineage n has.0.0.1)) fits has sound;
        made = both.1;
      }
