-- An upload that acts gives nothing up: what it leaves behind as received, its items bring.
use Rattle.std.specs.Prelude.{◌≡◌, ◌≤◌, ◌<◌, ◌==◌, ◌&&◌, ◌||◌, ℕ, List, [], ◌∷◌, Bool, true, false, not, None, refl, filter, is_some, nat_le}
use Rattle.std.specs.List.{AllByRecursion, list_any}
use Rattle.std.proofs.Common.{arith, ap, ◌∙◌}
use Rattle.std.proofs.lemmas.Bool.Decides.{nat_tests}
use Rattle.merge_types.specs.declared.identifiers.Dot.{Dot}
use Rattle.merge_schema.specs.declared.publication.Publication.{Publication}
use Rattle.merge_batch.specs.declared.request.Request.TheVariants as request
use Rattle.merge_batch.specs.declared.request.Upload.{Upload}
use Rattle.merge_batch.specs.declared.request.UploadItem.{UploadItem}
use Rattle.merge_model.specs.Publisher.Acts.{acting_items, key_of_item}
use Rattle.merge_model.specs.Judge.ByHistory.{by_past}
use Rattle.merge_model.specs.Judge.ByNumbers.{received_by_number, received_number_by_number}
use Rattle.merge_model.specs.History.{History, MadeChange, Past, has, is_accepted, made_at, past_in, pasts_with}
use Rattle.merge_model.specs.Judge.{PublisherJudge}
use Rattle.merge_model.specs.Tables.Keys.{at_number, same_key}
use Rattle.merge_model.specs.History.Noting
use Rattle.merge_model.specs.Publisher.PublisherUpload.{brings_news, taken_in, upload_refusal}
use Rattle.merge_types.specs.declared.row_key.RowKey.{RowKey as Key}
use Rattle.merge_model.specs.Tables.{PublisherTables}
use Rattle.merge_model.specs.World.{Saying, World}
use Rattle.merge_model.specs.declared.letter.Message.TheVariants.{Asks}
use Rattle.merge_model.specs.declared.letter.Letter.{Letter}
use Rattle.merge_laws.specs.Facts.Knowledge.{was_made}
use Rattle.merge_model.specs.Laws.Promises.{is_given_up}
use Rattle.merge_laws.specs.Facts.LineagesStand.{OwnKnown, UploadSends, counts_in, is_of, is_sent}
use Rattle.merge_laws.specs.Facts.Numbered.{last_of}
use Rattle.merge_laws.proofs.Accepted.AcceptedOrder.{StandsUpTo, last-within, of-made, of-site, order-numbers, order-up-to}
use Rattle.merge_model.proofs.Lists.Finding.{letter-zip}
use Rattle.merge_laws.proofs.Accepted.GivenUp.{Reaches, knows_of, upload-accepts, upload-can-act, upload-number, upload-reaches}
use Rattle.merge_laws.proofs.Runs.Ground.{Ground}
use Rattle.merge_model.proofs.Lists.KeyLookUps.{keys-same}
use Rattle.merge_model.proofs.Lists.{all-three, any-behind, any-first}
use Rattle.merge_laws.proofs.Received.MessageFacts.{letter-fits, upload-sent}
use Rattle.merge_laws.proofs.Walking.{acts_in, comes, here}

-- An item that passes one test passes another, and is kept.

any-step : {A : Type 0} (test other keeps : A → Bool) (x : A) (xs : List A) (b : Bool) → test x ≡ b → ((y : A) → test y ≡ true → (keeps y ≡ true) × (other y ≡ true)) → (b || list_any test xs) ≡ true → (list_any test xs ≡ true → list_any other (filter keeps xs) ≡ true)
    → list_any other (filter keeps (x ∷ xs)) ≡ true
any-step test other keeps x xs true is each some rest = (let both = each x is in any-first other (keeps x) x (filter keeps xs) both.0 both.1)
any-step test other keeps x xs false is each some rest = any-behind other (keeps x) x (filter keeps xs) (rest (grind (arith, some)))

pub any-kept : {A : Type 0} (test other keeps : A → Bool) (xs : List A) → ((y : A) → test y ≡ true → (keeps y ≡ true) × (other y ≡ true)) → list_any test xs ≡ true → list_any other (filter keeps xs) ≡ true
any-kept test other keeps [] each some = absurd (grind (arith, some))
any-kept test other keeps (x ∷ xs) each some = any-step test other keeps x xs (test x) refl each some (λ more. any-kept test other keeps xs each more)

-- A number that counted counts still, where it is not received, or is accepted.
still-step : (was now : Bool) (number before after : ℕ) (low : Bool) → nat_le number after ≡ low → (was ≡ true → now ≡ true) → (was ≡ false → before < number → number ≤ after → now ≡ true) → (not was && nat_le number before) ≡ false → (not now && nat_le number after) ≡ false
still-step true now number before after low is more news counted = grind (arith, more refl)
still-step false now number before after true is more news counted = (let high : before < number = grind (arith, nat_tests, counted) in let up : number ≤ after = grind (arith, nat_tests, is) in let holds = news refl high up in grind (arith, holds))
still-step false now number before after false is more news counted = grind (arith, is)

pub still-counts : (p q : PublisherTables) (h k : History) (dot : Dot) → (is_accepted h dot ≡ true → is_accepted k dot ≡ true)
    → (is_accepted h dot ≡ false → received_number_by_number p dot.site.0 < dot.number → dot.number ≤ received_number_by_number q dot.site.0 → is_accepted k dot ≡ true) → is_given_up p h dot ≡ false → is_given_up q k dot ≡ false
still-counts p q h k dot more news counted = still-step (is_accepted h dot) (is_accepted k dot) dot.number (received_number_by_number p dot.site.0) (received_number_by_number q dot.site.0) (nat_le dot.number (received_number_by_number q dot.site.0)) refl more news counted

pub same-counts : (p q : PublisherTables) (h k : History) (dot : Dot) → received_number_by_number q dot.site.0 ≡ received_number_by_number p dot.site.0 → (is_accepted h dot ≡ true → is_accepted k dot ≡ true) → is_given_up p h dot ≡ false → is_given_up q k dot ≡ false
same-counts p q h k dot same more counted = still-counts p q h k dot more (λ none above below. absurd (omega (arith, same, above, below))) counted

zero-none : (w : World) (n : ℕ) → at_number w.subscribers 0 ≡ None → (at_number w.subscribers n ≡ None → ⊥) → n ≡ 0 → ⊥
zero-none w n none some zero = some (ap (λ (k : ℕ). at_number w.subscribers k) zero ∙ none)

above-low : (generation received number last : ℕ) (b : Bool) → nat_le generation received ≡ b → (generation ≤ received → number ≤ last) → last < number → received < generation
above-low generation received number last true is low above = (let below = low (grind (arith, nat_tests, is)) in absurd (omega (arith, below, above)))
above-low generation received number last false is low above = grind (arith, nat_tests, is)

module _ (publication : Publication) (says : Saying) (w : World) (h : History) (number : ℕ) (m : Upload) (g : Ground publication w h) (o : OwnKnown (record { world = w; history = h })) (at : comes w number m.site (Asks (request.Upload m)))
    (fine : upload_refusal publication (by_past h (pasts_with h number)) w.moment m w.publisher ≡ None) (news : brings_news (by_past h (pasts_with h number)) m ≡ true) where
  abbrev judge : PublisherJudge
  judge = by_past h (pasts_with h number)

  abbrev incoming : List (Key × Past)
  incoming = pasts_with h number

  abbrev pub after : PublisherTables
  after = taken_in publication judge m (acts_in publication says judge m w) (here w)

  abbrev pub noted : History
  noted = Noting.with_acts_noted publication judge m (acts_in publication says judge m w) incoming (here w) h

  pub reaches : Reaches w m (last_of m.to (made_at h m.site.0))
  reaches = upload-reaches publication w h number m g.received g.numbered at fine news

  pub not-own : m.site.0 ≡ 0 → ⊥
  not-own = zero-none w m.site.0 g.none (upload-sent m m.site (at_number w.subscribers m.site.0) (letter-fits w h number (record { site = m.site; message = Asks (request.Upload m) }) g.received at))

  pub accepts-more : (dot : Dot) → is_accepted h dot ≡ true → is_accepted noted dot ≡ true
  accepts-more dot is = (let accepts = upload-accepts publication says judge m incoming w h dot in grind (arith, accepts, is))

  pub accepts-items : (dot : Dot) → list_any (λ (item : UploadItem). knows_of incoming dot (key_of_item item)) (acting_items judge m) ≡ true → has noted.accepted dot ≡ true
  accepts-items dot some = (let accepts = upload-accepts publication says judge m incoming w h dot in grind (arith, accepts, some))

  pub number-other : (n : ℕ) → (n ≡ m.site.0 → ⊥) → received_number_by_number after n ≡ received_number_by_number w.publisher n
  number-other n differs = (let is = upload-number publication judge w m (acts_in publication says judge m w) n in grind (arith, nat_tests, is, differs))

  number-own : (n : ℕ) → n ≡ m.site.0 → received_number_by_number after n ≡ last_of m.to (made_at h m.site.0)
  number-own n same =
      let is = upload-number publication judge w m (acts_in publication says judge m w) n in
      let known : is_some (at_number w.publisher.sites n) ≡ true = ap (λ (k : ℕ). is_some (at_number w.publisher.sites k)) same ∙ reaches.known in
      let through : received_number_by_number after n ≡ m.through = grind (arith, nat_tests, is, known, same) in
      through ∙ reaches.says

  -- an item with a generation that has not acted acts
  sent-acts : (c : MadeChange) → received_by_number w.publisher m.site.0 < c.generation → is_sent incoming m.items c ≡ true → has noted.accepted c.dot ≡ true
  sent-acts c high sent = accepts-items c.dot (any-kept (λ (item : UploadItem). same_key (key_of_item item) c.key && nat_le c.generation item.generation && has (past_in incoming c.key).known c.dot)
      (λ (item : UploadItem). knows_of incoming c.dot (key_of_item item)) (λ (item : UploadItem). not (judge.has_acted m.site.0 item.generation)) m.items
      (λ item is. (
      let up : c.generation ≤ item.generation = grind (arith, nat_tests, is) in
      let done = g.received.done m.site.0 item.generation (omega (arith, high, up)) in
      let same : same_key (key_of_item item) c.key ≡ true = grind (arith, is) in
      let knows : has (past_in incoming c.key).known c.dot ≡ true = grind (arith, is) in
      (grind (arith, nat_tests, done, high, up), ap (λ (key : Key). has (past_in incoming key).known c.dot) (keys-same (key_of_item item) c.key same) ∙ knows))) sent)

  abbrev Sends : MadeChange → Type 0
  Sends c = is_of m.site.0 c ≡ true → m.from < c.generation → c.generation ≤ m.to → counts_in (record { world = w; history = h }) c ≡ true → is_sent incoming m.items c ≡ true

  sends : AllByRecursion Sends h.made
  sends = letter-zip (λ (x : Letter) (pasts : List (Key × Past)). UploadSends (record { world = w; history = h }) pasts x.message) w h number (record { site = m.site; message = Asks (request.Upload m) }) o.uploads at (upload-can-act publication judge w h m fine)

  abbrev pub Placed : MadeChange → Type 0
  Placed c = StandsUpTo m.to (made_at h m.site.0) c × ((1 ≤ c.generation) × (1 ≤ c.generation → c.generation ≤ received_by_number w.publisher m.site.0 → c.dot.number ≤ last_of (received_by_number w.publisher m.site.0) (made_at h m.site.0)))

  pub placed : AllByRecursion (λ (c : MadeChange). (c.dot.site.0 == m.site.0) ≡ true → Placed c) h.made
  placed = of-site Placed w h m.site.0 not-own g.numbered
      (λ last generation ordered. all-three (StandsUpTo m.to (made_at h m.site.0)) (λ (c : MadeChange). (1 ≤ c.generation) × (c.dot.number ≤ last))
      (λ (c : MadeChange). 1 ≤ c.generation → c.generation ≤ received_by_number w.publisher m.site.0 → c.dot.number ≤ last_of (received_by_number w.publisher m.site.0) (made_at h m.site.0)) Placed
      (λ c one two three. (one, (two.0, three))) (made_at h m.site.0) (order-up-to m.to last generation (made_at h m.site.0) ordered) (order-numbers last generation (made_at h m.site.0) ordered) (last-within (received_by_number w.publisher m.site.0) (made_at h m.site.0)))

  -- what has a number above the received one, and none above the upload's, is brought
  brought : (c : MadeChange) → (c.dot.site.0 == m.site.0) ≡ true → Placed c → Sends c → is_given_up w.publisher h c.dot ≡ false → received_number_by_number w.publisher c.dot.site.0 < c.dot.number → c.dot.number ≤ received_number_by_number after c.dot.site.0 → is_accepted noted c.dot ≡ true
  brought c own placed sends counted above below =
      let same : c.dot.site.0 ≡ m.site.0 = grind (arith, nat_tests, own) in
      let is = number-own c.dot.site.0 same in
      let up : c.generation ≤ m.to = placed.0 (omega (arith, below, is)) in
      let from : 1 ≤ c.generation = placed.1.0 in
      let was : received_number_by_number w.publisher c.dot.site.0 ≡ last_of (received_by_number w.publisher m.site.0) (made_at h m.site.0) = ap (λ (n : ℕ). received_number_by_number w.publisher n) same ∙ g.numbered.taken m.site.0 in
      let high : received_by_number w.publisher m.site.0 < c.generation = above-low c.generation (received_by_number w.publisher m.site.0) c.dot.number (last_of (received_by_number w.publisher m.site.0) (made_at h m.site.0)) (nat_le c.generation (received_by_number w.publisher m.site.0)) refl (λ low. placed.1.1 from low) (omega (arith, above, was)) in
      let begins = reaches.begins in
      let accepted = sent-acts c high (sends own (omega (arith, begins, high)) up (grind (arith, counted))) in
      grind (arith, accepted)

  counts-step : (c : MadeChange) (b : Bool) → (c.dot.site.0 == m.site.0) ≡ b → ((c.dot.site.0 == m.site.0) ≡ true → Placed c) → Sends c → is_given_up w.publisher h c.dot ≡ false → is_given_up after noted c.dot ≡ false
  counts-step c true own placed sends counted = still-counts w.publisher after h noted c.dot (accepts-more c.dot) (λ none above below. brought c own (placed own) sends counted above below) counted
  counts-step c false other placed sends counted = same-counts w.publisher after h noted c.dot (number-other c.dot.site.0 (λ same. grind (arith, nat_tests, other, same))) (accepts-more c.dot) counted

  each-counts : (made : List MadeChange) → AllByRecursion (λ (c : MadeChange). (c.dot.site.0 == m.site.0) ≡ true → Placed c) made → AllByRecursion Sends made → AllByRecursion (λ (c : MadeChange). is_given_up w.publisher h c.dot ≡ false → is_given_up after noted c.dot ≡ false) made
  each-counts [] all sent = tt
  each-counts (c ∷ made) all sent = (counts-step c (c.dot.site.0 == m.site.0) refl all.0 sent.0, each-counts made all.1 sent.1)

  -- so what was made and counts does so afterwards
  pub upload-counts : (dot : Dot) → was_made h.made dot ≡ true → is_given_up w.publisher h dot ≡ false → is_given_up after noted dot ≡ false
  upload-counts dot made = of-made (λ (x : Dot). is_given_up w.publisher h x ≡ false → is_given_up after noted x ≡ false) h.made dot made (each-counts h.made placed sends)
