-- An upload and a join that act leave the publisher with the greatest number that it has met.
use Rattle.std.specs.Prelude.{◌≡◌, ◌≤◌, ◌<◌, ◌==◌, ◌&&◌, ◌||◌, ◌+◌, ℕ, zero, suc, List, [], ◌∷◌, Bool, true, false, Option, Some, None, refl, if◌then◌else◌, is_some, map, max, nat_le, option_map, unwrap_or}
use Rattle.std.specs.Option.{option_map_or}
use Rattle.std.specs.List.{AllByRecursion, fold, list_all}
use Rattle.std.proofs.Common.{arith, subst, sym, ap, ◌∙◌}
use Rattle.std.proofs.lemmas.Bool.Decides.{nat_tests}
use Rattle.merge_types.specs.declared.identifiers.Dot.{Dot}
use Rattle.merge_lineage.specs.Lineage.{number_at, number_of}
use Rattle.merge_units.specs.declared.result.Decision.{Decision}
use Rattle.merge_units.specs.declared.version.Version.{Version}
use Rattle.merge_gens.specs.declared.sites.SiteState.{SiteState}
use Rattle.merge_schema.specs.declared.publication.Publication.{Publication}
use Rattle.merge_batch.specs.Known.{Known, seen_of}
use Rattle.merge_batch.specs.Laws.{IsValidItem}
use Rattle.merge_batch.specs.Uploads.{was_seen}
use Rattle.merge_batch.specs.declared.request.Join.{Join}
use Rattle.merge_batch.specs.declared.request.Request.TheVariants as request
use Rattle.merge_batch.specs.declared.request.Upload.{Upload}
use Rattle.merge_batch.specs.declared.request.UploadItem.{UploadItem}
use Rattle.merge_model.specs.Publisher.Acts.{Act, acting_items}
use Rattle.merge_model.specs.Judge.ByHistory.{by_past}
use Rattle.merge_model.specs.Judge.ByNumbers.{received_by_number, received_number_by_number}
use Rattle.merge_model.specs.Publisher.Entries.{Entries}
use Rattle.merge_model.specs.World.Faults.{judged_state, known_by}
use Rattle.merge_model.specs.History.{History, Line, MadeChange, Past, made_at, pasts_with}
use Rattle.merge_model.specs.Judge.{PublisherJudge}
use Rattle.merge_model.specs.Tables.Keys.{at_number, put_number}
use Rattle.merge_model.specs.History.Model.{Model}
use Rattle.merge_model.specs.History.Noting
use Rattle.merge_model.specs.Publisher.{last_closed, state_of}
use Rattle.merge_model.specs.Publisher.PublisherJoin.{join_acts, join_taken, joined_state}
use Rattle.merge_model.specs.Publisher.PublisherUpload.{brings_news, taken_in, upload_refusal}
use Rattle.merge_model.specs.World.Steps.{kept_decisions, upload_questions}
use Rattle.merge_model.specs.Subscriber.{subscriber_last_closed}
use Rattle.merge_types.specs.declared.row_key.RowKey.{RowKey as Key}
use Rattle.merge_model.specs.Tables.{SubscriberTables}
use Rattle.merge_model.specs.World.{Saying, World, letter_at}
use Rattle.merge_model.specs.declared.letter.Message.TheVariants.{Asks}
use Rattle.merge_model.specs.declared.letter.Letter.{Letter}
use Rattle.merge_laws.specs.Facts.LineagesStand.{AllTold, OfMessage, Owns, UploadSends}
use Rattle.merge_laws.specs.Facts.Numbered.{JoinTells, LetterTells, last_of}
use Rattle.merge_laws.specs.Facts.Received.{JoinFits, LetterFits, joined_at}
use Rattle.merge_laws.specs.Invariants.Seen.{Seen, field_at, greatest_in}
use Rattle.merge_laws.specs.Facts.Standing.{Told}
use Rattle.merge_laws.proofs.Alike.AlikeArrivals.{not-refused}
use Rattle.merge_laws.proofs.Alike.AlikeFields.{number-alike}
use Rattle.merge_laws.proofs.Alike.AlikeItems.{site-acts, sound-items}
use Rattle.merge_laws.proofs.Received.Arrivals.{upload-known}
use Rattle.merge_laws.proofs.Received.Deliveries.{news-above}
use Rattle.merge_model.proofs.Lists.Finding.{all-at, all-weaker, at_put_other, letter-zip}
use Rattle.merge_laws.proofs.Runs.Ground.{Ground}
use Rattle.merge_model.proofs.Lists.{all-filter}
use Rattle.merge_laws.proofs.Walking.NotesLeave.{lines-accepted}
use Rattle.merge_laws.proofs.Numbered.Numbers.{upload-says}
use Rattle.merge_laws.proofs.Received.Publishing.{found-number, joined-number, sites_taken, upload-change}
use Rattle.merge_laws.proofs.Seen.SeenChanges.{last-sent}
use Rattle.merge_laws.proofs.Seen.SeenSites.{ItemTold, accepted-highest, acts-accepted, highest, highest-bound, highest-from, seen-items, taken-none, taken-seen}
use Rattle.merge_laws.proofs.Received.Subscribing.{number-decided, same_number}
use Rattle.merge_laws.proofs.Numbered.Through.{last-rises}
use Rattle.merge_laws.proofs.Walking.{acts_in, comes, here, join_noted}
use Rattle.merge_laws.proofs.Received.Worlds.{no-gap}

letter-in : (P : Letter → Type 0) (w : World) → AllByRecursion P w.pool → (number : ℕ) (letter : Letter) → letter_at w number ≡ Some letter → P letter
letter-in P w all zero letter at = absurd (grind (arith, at))
letter-in P w all (suc k) letter at = all-at P w.pool k letter at all

-- A join.

join-reached : (w : World) (h : History) (m : Join) (received : ℕ) (found : Option SubscriberTables) → ((s : SubscriberTables) → found ≡ Some s → received ≤ subscriber_last_closed s) → JoinFits (joined_at w.publisher m.site) m.site m found → joined_at w.publisher m.site < m.seq → received ≤ m.generation
join-reached w h m received None each fits later = absurd fits
join-reached w h m received (Some s) each fits later =
    let closed : received ≤ subscriber_last_closed s = each s refl in
    let is : m.generation ≡ subscriber_last_closed s = (fits.2 later).1 in
    omega (arith, closed, is)

join-last : (made : List MadeChange) (m : Join) (found : Option SubscriberTables) → JoinTells made m found → (m.number ≡ last_of m.generation made) × (found ≡ None → ⊥)
join-last made m None tells = absurd tells
join-last made m (Some s) tells = (tells.1, λ none. absurd cc)

join-most : (seen s a r number after : ℕ) → seen ≡ max s number → s ≡ max a r → after ≡ number → r ≤ number → seen ≡ max a after
join-most seen s a r number after is before same low = grind (arith, nat_tests, is, before, same, low)

module _ (publication : Publication) (w : World) (h : History) (g : Ground publication w h) (seen : Seen w.publisher.sites h.accepted) where
  abbrev sites : List (ℕ × SiteState)
  sites = w.publisher.sites

  join-number : (m : Join) (n : ℕ) (b : Bool) → same_number n m.site.0 b → 1 ≤ n → received_number_by_number w.publisher m.site.0 ≤ m.number
      → field_at (λ (state : SiteState). state.seen) (join_taken m (here w)).sites n ≡ max (greatest_in h.accepted n) (field_at (λ (state : SiteState). state.received_number) (join_taken m (here w)).sites n)
  join-number m n true same from low =
      let state : SiteState = state_of (here w) m.site in
      let is : field_at (λ (state : SiteState). state.seen) (join_taken m (here w)).sites n ≡ max state.seen m.number = joined-number (λ (x : SiteState). x.seen) m (here w) n true same in
      let was : state.seen ≡ field_at (λ (state : SiteState). state.seen) sites n = found-number (λ (x : SiteState). x.seen) refl (at_number sites m.site.0) ∙ ap (λ (k : ℕ). field_at (λ (state : SiteState). state.seen) sites k) (sym same) in
      let after : field_at (λ (state : SiteState). state.received_number) (join_taken m (here w)).sites n ≡ m.number = joined-number (λ (x : SiteState). x.received_number) m (here w) n true same in
      let up : field_at (λ (state : SiteState). state.received_number) sites n ≤ m.number = subst (λ (k : ℕ). field_at (λ (state : SiteState). state.received_number) sites k ≤ m.number) (sym same) low in
      join-most _ state.seen (greatest_in h.accepted n) (field_at (λ (state : SiteState). state.received_number) sites n) m.number _ is (was ∙ seen.numbers n from) after up
  join-number m n false differs from low =
      joined-number (λ (x : SiteState). x.seen) m (here w) n false differs ∙ seen.numbers n from
      ∙ ap (λ (k : ℕ). max (greatest_in h.accepted n) k) (sym (joined-number (λ (x : SiteState). x.received_number) m (here w) n false differs))

  pub join-seen : (number : ℕ) (m : Join) → comes w number m.site (Asks (request.Join m)) → join_acts m w.publisher ≡ true → (incoming : List (Key × Past))
      → Seen (join_taken m (here w)).sites (join_noted (by_past h incoming) m w.publisher h).accepted
  join-seen number m at acts incoming =
      let letter : Letter = record { site = m.site; message = Asks (request.Join m) } in
      let fits = letter-in (LetterFits w.subscribers w.publisher) w g.received.letters number letter at in
      let tells = letter-in (LetterTells h w.subscribers) w g.numbered.letters number letter at in
      let last = join-last (made_at h m.site.0) m (at_number w.subscribers m.site.0) tells in
      let later : joined_at w.publisher m.site < m.seq = grind (arith, nat_tests, acts) in
      let reached : received_by_number w.publisher m.site.0 ≤ m.generation = join-reached w h m (received_by_number w.publisher m.site.0) (at_number w.subscribers m.site.0) (λ s there. (g.received.subscribers m.site.0 s there).taken) fits later in
      let up : last_of (received_by_number w.publisher m.site.0) (made_at h m.site.0) ≤ last_of m.generation (made_at h m.site.0) = last-rises (received_by_number w.publisher m.site.0) m.generation (made_at h m.site.0) reached in
      let low : received_number_by_number w.publisher m.site.0 ≤ m.number = (let was = g.numbered.taken m.site.0 in let is = last.0 in omega (arith, was, is, up)) in
      let lines : List Line = map (Noting.gone_line (last_closed w.publisher + 1)) (map (Noting.gone_for m.site) (Noting.left_rows (by_past h incoming) m.site)) in
      let k : History = record (Noting.with_done m.site.0 0 m.generation h) { bases = put_number h.bases m.site.0 (last_closed w.publisher) } in
      subst (λ (accepted : List Dot). Seen (join_taken m (here w)).sites accepted) (sym (lines-accepted lines k)) (record {
        own = at_put_other m.site.0 0 (joined_state m (here w).latest (state_of (here w) m.site)) sites (λ zero_is. last.1 (ap (λ (k : ℕ). at_number w.subscribers k) (sym zero_is) ∙ g.none)) ∙ seen.own;
        numbers = λ n from. join-number m n (n == m.site.0) (number-decided n m.site.0) from low;
      })

-- An upload.

-- a lineage in order knows of another site no more than the publisher has met
honest-step : (own : Bool) (number rest bound n : ℕ) → (own ≡ true → number ≤ bound) → rest ≤ bound → (let found : ℕ = if own then number else rest in found) ≤ bound
honest-step true number rest bound n first more = first refl
honest-step false number rest bound n first more = more

number-first : (dot : Dot) (rest : List Dot) (n : ℕ) (own : Bool) → (dot.site.0 == n) ≡ own → number_of (dot ∷ rest) n ≡ (if own then dot.number else number_of rest n)
number-first dot rest n true is = ap (λ (b : Bool). unwrap_or (let found : Option ℕ = if b then Some dot.number else number_at rest n in found) 0) is
number-first dot rest n false is = ap (λ (b : Bool). unwrap_or (let found : Option ℕ = if b then Some dot.number else number_at rest n in found) 0) is

honest-test : (zero_is own_is : Bool) (a b : Bool) → zero_is ≡ false → own_is ≡ false → (if zero_is then a else (own_is || b)) ≡ true → b ≡ true
honest-test true own_is a b first second is = absurd cc
honest-test false true a b first second is = absurd cc
honest-test false false a b first second is = is

other-site : (a n uploader : ℕ) → a ≡ n → (n ≡ uploader → ⊥) → (a == uploader) ≡ false
other-site a n uploader same differs = grind (arith, nat_tests, same, differs)

honest-dot : (known : Known) (uploader n : ℕ) → 1 ≤ n → (n ≡ uploader → ⊥) → (dot : Dot) → (dot.site.0 == n) ≡ true → was_seen known uploader dot ≡ true → dot.number ≤ seen_of known n
honest-dot known uploader n from differs dot own is =
    let same : dot.site.0 ≡ n = grind (arith, nat_tests, own) in
    let met : nat_le dot.number (seen_of known dot.site.0) ≡ true = honest-test (dot.site.0 == 0) (dot.site.0 == uploader) (nat_le dot.number known.changes) (nat_le dot.number (seen_of known dot.site.0))
    (grind (arith, nat_tests, same, from)) (other-site dot.site.0 n uploader same differs) is in
    let low : dot.number ≤ seen_of known dot.site.0 = grind (arith, nat_tests, met) in
    subst (λ (k : ℕ). dot.number ≤ seen_of known k) same low

honest-number : (known : Known) (uploader n : ℕ) → 1 ≤ n → (n ≡ uploader → ⊥) → (lineage : List Dot) → list_all (was_seen known uploader) lineage ≡ true → number_of lineage n ≤ seen_of known n
honest-number known uploader n from differs [] is = omega arith
honest-number known uploader n from differs (dot ∷ rest) is =
    let more : number_of rest n ≤ seen_of known n = honest-number known uploader n from differs rest (grind (arith, is)) in
    let first : number_of (dot ∷ rest) n ≡ (if dot.site.0 == n then dot.number else number_of rest n) = number-first dot rest n (dot.site.0 == n) refl in
    subst (λ (k : ℕ). k ≤ seen_of known n) (sym first) (honest-step (dot.site.0 == n) dot.number (number_of rest n) (seen_of known n) n (λ own. honest-dot known uploader n from differs dot own (grind (arith, is))) more)

known-seen : (judge : PublisherJudge) (n : ℕ) (found : Option SiteState) → option_map_or (λ (state : SiteState). state.seen) (option_map (judged_state judge n) found) 0 ≤ judge.seen n
known-seen judge n None = omega arith
known-seen judge n (Some state) = omega arith

none-met : (found : Option SiteState) → is_some found ≡ false → unwrap_or (option_map (λ (state : SiteState). state.seen) found) 0 ≡ 0
none-met None is = refl
none-met (Some state) is = absurd (grind (arith, is))

upload-most : (own there : Bool) (s a r l through seen accepted after : ℕ) → seen ≡ (if there then max s l else 0) → accepted ≡ max a l → after ≡ (if own && there then through else r) → s ≡ max a r → (there ≡ false → s ≡ 0)
    → (own ≡ true → there ≡ true) → (own ≡ true → r ≤ through) → (own ≡ true → through ≤ max r l) → (own ≡ false → l ≤ s) → seen ≡ max accepted after
upload-most true true s a r l through seen accepted after is more later was none known low high less =
    let up : r ≤ through = low refl in
    let bound : through ≤ max r l = high refl in
    grind (arith, nat_tests, is, more, later, was, up, bound)
upload-most true false s a r l through seen accepted after is more later was none known low high less = absurd (grind (arith, known refl))
upload-most false true s a r l through seen accepted after is more later was none known low high less = grind (arith, nat_tests, is, more, later, was)
upload-most false false s a r l through seen accepted after is more later was none known low high less =
    let bound : l ≤ s = less refl in
    let zero_is : s ≡ 0 = none refl in
    grind (arith, nat_tests, is, more, later, was, bound, zero_is)

module _ (publication : Publication) (says : Saying) (w : World) (h : History) (g : Ground publication w h) (told : AllTold (record { world = w; history = h })) (owns : Owns (record { world = w; history = h })) (seen : Seen w.publisher.sites h.accepted)
    (number : ℕ) (m : Upload) (at : comes w number m.site (Asks (request.Upload m))) (fine : upload_refusal publication (by_past h (pasts_with h number)) w.moment m w.publisher ≡ None) (news : brings_news (by_past h (pasts_with h number)) m ≡ true) where
  abbrev reached : Model
  reached = record { world = w; history = h }

  abbrev incoming : List (Key × Past)
  incoming = pasts_with h number

  abbrev judge : PublisherJudge
  judge = by_past h incoming

  abbrev letter : Letter
  letter = record { site = m.site; message = Asks (request.Upload m) }

  items-told : AllByRecursion (ItemTold incoming) m.items
  items-told = letter-zip (λ (x : Letter) (known : List (Key × Past)). OfMessage (λ (key : Key) (version : Version) (past : Past). Told version past.known) known x.message) w h number letter told.letters at

  abbrev acting : List UploadItem
  acting = acting_items judge m

  acting-told : AllByRecursion (ItemTold incoming) acting
  acting-told = all-filter (ItemTold incoming) _ m.items items-told

  begins : m.from ≤ received_by_number w.publisher m.site.0
  begins = no-gap h w.publisher m.site.0 m.from g.received.done (upload-known publication judge w.moment m w.publisher fine).1

  goes_on : received_by_number w.publisher m.site.0 < m.to
  goes_on = news-above w h g.received incoming m news

  through-is : m.through ≡ last_of m.to (made_at h m.site.0)
  through-is = upload-says w h g.received g.numbered number m.site m at (let first = begins in let later = goes_on in omega (arith, first, later))

  through-low : received_number_by_number w.publisher m.site.0 ≤ m.through
  through-low =
      let was = g.numbered.taken m.site.0 in
      let is = through-is in
      let later = goes_on in
      let up : last_of (received_by_number w.publisher m.site.0) (made_at h m.site.0) ≤ last_of m.to (made_at h m.site.0) = last-rises (received_by_number w.publisher m.site.0) m.to (made_at h m.site.0) (omega (arith, later)) in
      omega (arith, was, is, up)

  through-high : m.through ≤ max (received_number_by_number w.publisher m.site.0) (highest acting m.site.0 0)
  through-high =
      let sends = letter-zip (λ (x : Letter) (known : List (Key × Past)). UploadSends reached known x.message) w h number letter owns.known.uploads at (site-acts publication w.moment m w h (not-refused publication judge w.moment m w.publisher fine).0) in
      let bound = last-sent reached m.site.0 m.from m.to (received_by_number w.publisher m.site.0) incoming m.items items-told (λ generation from. g.received.done m.site.0 generation from) begins (g.numbered.taken m.site.0) sends in
      let was = g.numbered.taken m.site.0 in
      let is = through-is in
      subst (λ (k : ℕ). m.through ≤ max k (highest acting m.site.0 0)) (sym was) (subst (λ (k : ℕ). k ≤ max (last_of (received_by_number w.publisher m.site.0) (made_at h m.site.0)) (highest acting m.site.0 0)) (sym is) bound)

  -- other sites' changes were met before
  others-met : (n : ℕ) → 1 ≤ n → (n == m.site.0) ≡ false → highest acting n 0 ≤ field_at (λ (state : SiteState). state.seen) w.publisher.sites n
  others-met n from differs =
      let known : Known = known_by publication judge w.publisher in
      let most : ℕ = field_at (λ (state : SiteState). state.seen) w.publisher.sites n in
      let is : judge.seen n ≡ most = sym (seen.numbers n from ∙ ap (λ (k : ℕ). max (greatest_in h.accepted n) k) (number-alike publication w h g n)) in
      let low : seen_of known n ≤ most = subst (λ (k : ℕ). seen_of known n ≤ k) is (known-seen judge n (at_number w.publisher.sites n)) in
      highest-bound acting n 0 most (omega arith) (all-filter (λ (item : UploadItem). number_of item.version.lineage n ≤ most) _ m.items
      (all-weaker (IsValidItem publication known m) (λ (item : UploadItem). number_of item.version.lineage n ≤ most)
      (λ item valid. (let honest : number_of item.version.lineage n ≤ seen_of known n = honest-number known m.site.0 n from (λ same. absurd (grind (arith, nat_tests, same, differs))) item.version.lineage valid.honest in omega (arith, honest, low)))
      m.items (sound-items publication judge m w (not-refused publication judge w.moment m w.publisher fine).1)))

  abbrev acts : List Act
  acts = acts_in publication says judge m w

  abbrev noted : History
  noted = Noting.with_acts_noted publication judge m acts incoming (here w) h

  accepted-more : (n : ℕ) → greatest_in noted.accepted n ≡ max (greatest_in h.accepted n) (highest acting n 0)
  accepted-more n =
      let decisions : List Decision = kept_decisions says w.tallies (upload_questions publication judge w.moment m w.publisher) in
      let entries : Entries = Noting.acts_entries publication judge m acts (here w) in
      let k : History = fold (Noting.with_act incoming entries) h acts in
      ap (λ (accepted : List Dot). greatest_in accepted n) (lines-accepted (Noting.lines_of_entries (last_closed (here w) + 1) entries) k
      ∙ acts-accepted judge m.site (here w) incoming entries ((here w).changes + 1) decisions acting h)
      ∙ accepted-highest incoming acting h.accepted n acting-told ∙ highest-from acting n (greatest_in h.accepted n)

  met-more : (n : ℕ) → field_at (λ (state : SiteState). state.seen) (sites_taken m acts w.publisher.sites) n
      ≡ (if is_some (at_number w.publisher.sites n) then max (field_at (λ (state : SiteState). state.seen) w.publisher.sites n) (highest acting n 0) else 0)
  met-more n =
      let decisions : List Decision = kept_decisions says w.tallies (upload_questions publication judge w.moment m w.publisher) in
      let most : ℕ = field_at (λ (state : SiteState). state.seen) w.publisher.sites n in
      taken-seen m acts w.publisher.sites n
      ∙ ap (λ (k : ℕ). if is_some (at_number w.publisher.sites n) then k else 0) (seen-items judge m.site (here w) ((here w).changes + 1) decisions acting n most ∙ highest-from acting n most)

  same-at : (n : ℕ) → (n == m.site.0) ≡ true → n ≡ m.site.0
  same-at n is = grind (arith, nat_tests, is)

  pub upload-seen : Seen (taken_in publication judge m acts (here w)).sites noted.accepted
  upload-seen = record {
    own = taken-none m acts w.publisher.sites 0 seen.own;
    numbers = λ n from. upload-most (n == m.site.0) (is_some (at_number w.publisher.sites n)) (field_at (λ (state : SiteState). state.seen) w.publisher.sites n) (greatest_in h.accepted n)
        (field_at (λ (state : SiteState). state.received_number) w.publisher.sites n) (highest acting n 0) m.through _ (greatest_in noted.accepted n) _
        (met-more n) (accepted-more n) (upload-change m acts w.publisher.sites n) (seen.numbers n from) (none-met (at_number w.publisher.sites n))
        (λ is. ap (λ (k : ℕ). is_some (at_number w.publisher.sites k)) (same-at n is) ∙ (upload-known publication judge w.moment m w.publisher fine).0)
        (λ is. subst (λ (k : ℕ). field_at (λ (state : SiteState). state.received_number) w.publisher.sites k ≤ m.through) (sym (same-at n is)) through-low)
        (λ is. subst (λ (k : ℕ). m.through ≤ max (field_at (λ (state : SiteState). state.received_number) w.publisher.sites k) (highest acting k 0)) (sym (same-at n is)) through-high)
        (λ is. others-met n from is);
  }
