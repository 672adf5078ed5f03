-- Why an upload is refused.
use Rattle.std.specs.List.{fold, list_any}
use Rattle.std.specs.Prelude.{◌≡◌, ◌&&◌, ◌||◌, ◌+◌, ◌==◌, ◌∷◌, ◌<◌, ◌≤◌, ℕ, Bool, true, false, List, [], Option, Some, None, Result, Ok, Err, OnOk, cond, count_by, filter, if◌then◌else◌, length, nat_lt, not, option_map, refl, unwrap_or}
use Rattle.std.proofs.Common.{arith, sym, ap, ◌∙◌, subst}
use Rattle.std.proofs.lemmas.Bool.Decides.{nat_tests}
use mathlib.Core.Path.{fun_ext}
use Rattle.merge_types.specs.Limits.{rows_limit}
use Rattle.merge_types.specs.declared.identifiers.Moment.{Moment}
use Rattle.merge_types.specs.declared.identifiers.SiteId.{SiteId}
use Rattle.merge_types.specs.declared.row_key.RowKey.{RowKey as Key}
use Rattle.merge_units.specs.declared.result.Decision.{Decision}
use Rattle.merge_units.specs.declared.site_row.PublisherRow.{PublisherRow}
use Rattle.merge_gens.specs.declared.sites.SiteState.{SiteState}
use Rattle.merge_schema.specs.declared.publication.Publication.{Publication}
use Rattle.merge_batch.specs.Known.{Known}
use Rattle.merge_batch.specs.LocalChanges.{refused_if}
use Rattle.merge_batch.specs.Uploads.{broken_by_upload}
use Rattle.merge_batch.specs.declared.refusal.Refusal.{Refusal}
use Rattle.merge_batch.specs.declared.refusal.Refusal.TheVariants.{Gap, TooManyRows, UnknownSite}
use Rattle.merge_batch.specs.declared.request.Upload.{Upload}
use Rattle.merge_batch.specs.declared.request.UploadItem.{UploadItem}
use Rattle.merge_batch.specs.declared.rules.BrokenRule.{BrokenRule}
use Rattle.merge_model.specs.Publisher.Acts.{Act, Fate, Met, New, Unknown, act_of, acts_from, acts_of, fate_by, key_of_item, left_by, made_by}
use Rattle.merge_model.specs.Judge.ByNumbers.{by_numbers}
use Rattle.merge_model.specs.World.Faults.{fault_of, judged_state, known_by, upload_fault}
use Rattle.merge_model.specs.Tables.Keys.{at_number, row_at}
use Rattle.merge_model.specs.Publisher.{later, site_refusal, state_refusal}
use Rattle.merge_model.specs.Tables.Refusals.{first_refusal}
use Rattle.merge_schema.specs.Places.{is_subscription}
use Rattle.merge_model.specs.Publisher.PublisherUpload.{is_new, too_many_new}
use Rattle.merge_model.specs.Tables.{PublisherTables}
use Rattle.merge_pub.specs.Refused.{refusal_of}
use Rattle.merge_pub.specs.Uploaded.{arrival_of, known_in}
use Rattle.merge_steps.specs.Uploading.{acts_in, is_made_by, makes_row, makes_row_in}
use Rattle.merge_steps.specs.declared.acting.Arrival.{Arrival}

-- What the rules ask for.

judged-found : (o : Option SiteState) → option_map (λ (state : SiteState). record state { received = unwrap_or (option_map (λ (s : SiteState). s.received) o) 0; received_number = unwrap_or (option_map (λ (s : SiteState). s.received_number) o) 0; seen = unwrap_or (option_map (λ (s : SiteState). s.seen) o) 0 }) o ≡ o
judged-found None = refl
judged-found (Some state) = refl

judged-same : (p : PublisherTables) (site : ℕ) → option_map (judged_state (by_numbers p) site) (at_number p.sites site) ≡ at_number p.sites site
judged-same p site = judged-found (at_number p.sites site)

pub known-same : (publication : Publication) (p : PublisherTables) → known_by publication (by_numbers p) p ≡ known_in publication p
known-same publication p = ap (λ (state : ℕ → Option SiteState). record (known_in publication p) { state = state }) (fun_ext (judged-same p))

pub fault-same : (publication : Publication) (p : PublisherTables) (m : Upload) (broken : Option BrokenRule) → broken ≡ broken_by_upload publication (known_in publication p) m → fault_of broken ≡ upload_fault publication (by_numbers p) m p
fault-same publication p m broken is = ap fault_of (is ∙ ap (λ (known : Known). broken_by_upload publication known m) (sym (known-same publication p)))

pub none-broken : (broken : Option BrokenRule) → None ≡ fault_of broken → broken ≡ None
none-broken None none = refl
none-broken (Some broken) none = absurd (cc none)

-- New rows.

fold-from : {X : Type 0} (f : X → Bool) (xs : List X) (n : ℕ) → fold (λ (a : ℕ) (x : X). a + cond (f x) 1 0) n xs ≡ n + count_by f xs
fold-from f [] n = omega arith
fold-from f (x ∷ xs) n = fold-from f xs (n + cond (f x) 1 0) ∙ omega (arith, fold-from f xs (0 + cond (f x) 1 0))

count-cons : {X : Type 0} (f : X → Bool) (x : X) (xs : List X) (b : Bool) → f x ≡ b → count_by f (x ∷ xs) ≡ (let n : ℕ = if b then 1 + count_by f xs else count_by f xs in n)
count-cons f x xs true is = fold-from f xs (0 + cond (f x) 1 0) ∙ ap (λ (b : Bool). 0 + cond b 1 0 + count_by f xs) is ∙ omega arith
count-cons f x xs false is = fold-from f xs (0 + cond (f x) 1 0) ∙ ap (λ (b : Bool). 0 + cond b 1 0 + count_by f xs) is ∙ omega arith

some-positive : (n : ℕ) → nat_lt 0 (1 + n) ≡ true
some-positive n = grind (arith, nat_tests)

any-item : {X : Type 0} (f : X → Bool) (x : X) (xs : List X) (b : Bool) → f x ≡ b → list_any f xs ≡ nat_lt 0 (count_by f xs) → list_any f (x ∷ xs) ≡ nat_lt 0 (count_by f (x ∷ xs))
any-item f x xs true is rest = ap (λ (b : Bool). b || list_any f xs) is ∙ sym (ap (nat_lt 0) (count-cons f x xs true is) ∙ some-positive (count_by f xs))
any-item f x xs false is rest = ap (λ (b : Bool). b || list_any f xs) is ∙ rest ∙ sym (ap (nat_lt 0) (count-cons f x xs false is))

any-count : {X : Type 0} (f : X → Bool) (xs : List X) → list_any f xs ≡ nat_lt 0 (count_by f xs)
any-count f [] = refl
any-count f (x ∷ xs) = any-item f x xs (f x) refl (any-count f xs)

module _ (publication : Publication) (now : Moment) (m : Upload) (p : PublisherTables) where
  abbrev the_arrival : Arrival
  the_arrival = arrival_of now m p

  new-fate : (number : ℕ) (decisions : List Decision) (item : UploadItem) (held : Option PublisherRow)
      → is_new (record { key = key_of_item item; incoming = item.version; fate = fate_by (by_numbers p) m.site number decisions item held }) ≡ makes_row the_arrival item held
  new-fate number decisions item (Some held) = refl
  new-fate number decisions item None = by (is_made_by the_arrival (key_of_item item))
    where
      by : (b : Bool) → is_new (record { key = key_of_item item; incoming = item.version; fate = (let f : Fate = if b then New else Unknown in f) }) ≡ b
      by true = refl
      by false = refl

  abbrev new_rows : List UploadItem → ℕ
  new_rows items = count_by (makes_row_in p.rows the_arrival) items

  new-cons : (number : ℕ) (decisions : List Decision) (item : UploadItem) (items : List UploadItem) (b : Bool) → acts_in the_arrival item ≡ b
      → ((n : ℕ) (ds : List Decision) → count_by is_new (acts_from (by_numbers p) m.site p n ds (filter (acts_in the_arrival) items)) ≡ new_rows items)
      → count_by is_new (acts_from (by_numbers p) m.site p number decisions (filter (acts_in the_arrival) (item ∷ items))) ≡ new_rows (item ∷ items)
  new-cons number decisions item items false is goes = rw is (goes number decisions)
  new-cons number decisions item items true is goes =
      let act : Act = act_of (by_numbers p) m.site p number decisions item in
      let others : List Act = acts_from (by_numbers p) m.site p (number + made_by act.fate) (left_by act.fate decisions) (filter (acts_in the_arrival) items) in
      let held : Option PublisherRow = row_at p.rows (key_of_item item) in
      let here : makes_row_in p.rows the_arrival item ≡ makes_row the_arrival item held = ap (λ (b : Bool). b && makes_row the_arrival item held) is in
      let rest : List UploadItem = filter (acts_in the_arrival) items in
      ap (λ (b : Bool). count_by is_new (acts_from (by_numbers p) m.site p number decisions (let xs : List UploadItem = if b then item ∷ rest else rest in xs))) is
      ∙ count-cons is_new act others (makes_row the_arrival item held) (new-fate number decisions item held)
      ∙ ap (λ (n : ℕ). (let k : ℕ = if makes_row the_arrival item held then 1 + n else n in k)) (goes (number + made_by act.fate) (left_by act.fate decisions))
      ∙ sym (count-cons (makes_row_in p.rows the_arrival) item items (makes_row the_arrival item held) here)

  new-count : (number : ℕ) (decisions : List Decision) (items : List UploadItem) → count_by is_new (acts_from (by_numbers p) m.site p number decisions (filter (acts_in the_arrival) items)) ≡ new_rows items
  new-count number decisions [] = refl
  new-count number decisions (item ∷ items) = new-cons number decisions item items (acts_in the_arrival item) refl (λ n ds. new-count n ds items)

  pub too-many-same : (made : ℕ) → made ≡ new_rows m.items → refused_if (nat_lt 0 made && nat_lt rows_limit (length p.rows + made)) (TooManyRows (length p.rows + made)) ≡ too_many_new (acts_of (by_numbers p) m [] p) p
  too-many-same made is =
      let acts : List Act = acts_of (by_numbers p) m [] p in
      let count : count_by is_new acts ≡ made = new-count (p.changes + 1) [] m.items ∙ sym is in
      let any : list_any is_new acts ≡ nat_lt 0 made = any-count is_new acts ∙ ap (nat_lt 0) count in
      ap (λ (b : Bool). refused_if (b && nat_lt rows_limit (length p.rows + made)) (TooManyRows (length p.rows + made))) (sym any)
      ∙ ap (λ (n : ℕ). refused_if (list_any is_new acts && nat_lt rows_limit (length p.rows + n)) (TooManyRows (length p.rows + n))) (sym count)

pub too-many-at : (publication : Publication) (m : Upload) (p : PublisherTables) (arrival : Arrival) (now : Moment) (rows : List (Key × PublisherRow)) (items : List UploadItem) (held made : ℕ) → arrival ≡ arrival_of now m p → rows ≡ p.rows → items ≡ m.items → held ≡ length rows
    → made ≡ count_by (makes_row_in rows arrival) items → refused_if (nat_lt 0 made && nat_lt rows_limit (held + made)) (TooManyRows (held + made)) ≡ too_many_new (acts_of (by_numbers p) m [] p) p
too-many-at publication m p arrival now rows items held made is same sent long counted =
    ap (λ (n : ℕ). refused_if (nat_lt 0 made && nat_lt rows_limit (n + made)) (TooManyRows (n + made))) (long ∙ ap length same)
    ∙ too-many-same publication now m p made (counted
    ∙ ap (λ (r : List (Key × PublisherRow)). count_by (makes_row_in r arrival) items) same
    ∙ ap (λ (a : Arrival). count_by (makes_row_in p.rows a) items) is
    ∙ ap (λ (xs : List UploadItem). count_by (makes_row_in p.rows (arrival_of now m p)) xs) sent)

pub gap-same : (p : PublisherTables) (site from : ℕ) (state : SiteState) → at_number p.sites site ≡ Some state → state.received ≡ (by_numbers p).received site
gap-same p site from state found = sym (ap (λ (o : Option SiteState). unwrap_or (option_map (λ (s : SiteState). s.received) o) 0) found)

pub arrival-same : (now : Moment) (m : Upload) (p : PublisherTables) (state : SiteState) (arrival : Arrival) → at_number p.sites m.site.0 ≡ Some state
    → arrival ≡ record { site = m.site; received = state.received; received_number = state.received_number; moment = later now p.latest } → arrival ≡ arrival_of now m p
arrival-same now m p state arrival found is =
    is ∙ ap (λ (o : Option SiteState). (let a : Arrival = record { site = m.site; received = unwrap_or (option_map (λ (s : SiteState). s.received) o) 0; received_number = unwrap_or (option_map (λ (s : SiteState). s.received_number) o) 0; moment = later now p.latest } in a)) (sym found)

pub gap-refusal : (p : PublisherTables) (site from : ℕ) (state : SiteState) → at_number p.sites site ≡ Some state
    → refused_if (nat_lt state.received from) (Gap from state.received) ≡ refused_if ((by_numbers p).is_gap site from) (Gap from ((by_numbers p).received site))
gap-refusal p site from state found = ap (λ (received : ℕ). refused_if (nat_lt received from) (Gap from received)) (gap-same p site from state found)

subscribes-if : (site : SiteId) (b : Bool) (rest : List (Option Refusal)) → None ≡ first_refusal (refused_if (not b) (UnknownSite site) ∷ rest) → b ≡ true
subscribes-if site true rest none = refl
subscribes-if site false rest none = absurd (cc none)

-- the site of an upload that is not refused subscribes
pub checked-subscribes : (publication : Publication) (site : SiteId) (seq : ℕ) (now : Moment) (p : PublisherTables) → None ≡ site_refusal publication site seq now p → is_subscription publication site.0 ≡ true
checked-subscribes publication site seq now p none =
    subscribes-if site (is_subscription publication site.0) (state_refusal publication seq (later now p.latest) (at_number p.sites site.0) ∷ []) none

pub fault-at : (there publication : Publication) (known : Known) (p : PublisherTables) (m : Upload) (broken : Option BrokenRule) → there ≡ publication → known ≡ known_in publication p → broken ≡ broken_by_upload there known m → broken ≡ broken_by_upload publication (known_in publication p) m
fault-at there publication known p m broken here is made =
    made ∙ ap (λ (x : Publication). broken_by_upload x known m) here ∙ ap (λ (x : Known). broken_by_upload publication x m) is

-- a check of rules that refuses nothing says that the upload is valid
pub valid-on-ok : {A : Type 0} (V : Type 0) (r : Result A Refusal) (broken : Option BrokenRule) → refusal_of r ≡ fault_of broken → (broken ≡ None → V) → OnOk r V
valid-on-ok V (Ok done) broken is valid = valid (none-broken broken is)
valid-on-ok V (Err refusal) broken is valid = tt

-- one refusal told is the other
pub refused-same : (e refusal : Refusal) (why : Option Refusal) {A : Type 0} → (let one : Result A Refusal = Err e in let other : Result A Refusal = Err refusal in one ≡ other) → Some e ≡ why → Some refusal ≡ why
refused-same e refusal why same told = let is : e ≡ refusal = cc same in ap Some (sym is) ∙ told
