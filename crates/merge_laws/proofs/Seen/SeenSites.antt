-- What an upload leaves of the numbers that the publisher has met of each site, and of the changes that it accepts.
use Rattle.std.specs.Prelude.{◌≡◌, ◌≤◌, ◌==◌, ◌&&◌, ◌||◌, ◌+◌, ◌++◌, ℕ, List, [], ◌∷◌, Bool, true, false, Option, Some, None, refl, if◌then◌else◌, cond, filter, is_some, map, max, nat_le, not, option_map, unwrap_or}
use Rattle.std.specs.BTreeMap.{is_at}
use Rattle.std.specs.List.{AllByRecursion, fold}
use Rattle.std.specs.Ordering.{nat_cmp}
use Rattle.std.proofs.Common.{arith, subst, sym, ap, ◌∙◌}
use Rattle.std.proofs.lemmas.Bool.Decides.{nat_tests}
use Rattle.merge_types.specs.declared.identifiers.Dot.{Dot}
use Rattle.merge_types.specs.declared.identifiers.SiteId.{SiteId}
use Rattle.merge_lineage.specs.Lineage.{number_of}
use Rattle.merge_units.specs.declared.result.Decision.{Decision}
use Rattle.merge_gens.specs.declared.sites.SiteState.{SiteState}
use Rattle.merge_batch.specs.declared.request.Upload.{Upload}
use Rattle.merge_batch.specs.declared.request.UploadItem.{UploadItem}
use Rattle.merge_model.specs.Publisher.Acts.{Act, act_of, acts_from, key_of_item, left_by, made_by}
use Rattle.merge_model.specs.Publisher.Entries.{Entries}
use Rattle.merge_model.specs.History.{History, MadeChange, Past, has, past_in}
use Rattle.merge_model.specs.Judge.{PublisherJudge}
use Rattle.merge_model.specs.Tables.Keys.{at_number, same_key}
use Rattle.merge_model.specs.History.Noting
use Rattle.merge_model.specs.Publisher.PublisherUpload.{seen_in, state_seeing, with_taken}
use Rattle.merge_types.specs.declared.row_key.RowKey.{RowKey as Key}
use Rattle.merge_model.specs.Tables.{PublisherTables}
use Rattle.merge_laws.specs.Facts.LineagesStand.{is_sent}
use Rattle.merge_laws.specs.Invariants.Seen.{field_at, greatest_in}
use Rattle.merge_laws.specs.Facts.Standing.{Told}
use Rattle.merge_model.proofs.Lists.KeyLookUps.{keys-same}
use Rattle.merge_laws.proofs.Walking.NotesLeave.{fate-leaves}
use Rattle.merge_laws.proofs.Received.Publishing.{seeing-some, sites_taken}
use Rattle.merge_laws.proofs.Seen.SeenDots.{greatest-both, known-number, told-greatest}

-- The sites.

abbrev seen_of : Option SiteState → ℕ
seen_of found = unwrap_or (option_map (λ (state : SiteState). state.seen) found) 0

seeing-step : (acts : List Act) (n : ℕ) (e : ℕ × SiteState) (b : Bool) (more rest : Option SiteState) → (b ≡ true → e.0 ≡ n) → seen_of more ≡ (if is_some rest then seen_in acts n (seen_of rest) else 0)
    → seen_of (let found : Option SiteState = cond b (Some (state_seeing acts e).1) more in found)
    ≡ (let found : Option SiteState = cond b (Some e.1) rest in if is_some found then seen_in acts n (seen_of found) else 0)
seeing-step acts n e true more rest same h = ap (λ (k : ℕ). seen_in acts k e.1.seen) (same refl)
seeing-step acts n e false more rest same h = h

at-same : (n k : ℕ) → is_at (nat_cmp n) k ≡ true → k ≡ n
at-same n k is = grind (arith, nat_tests, is)

seeing-seen : (acts : List Act) (sites : List (ℕ × SiteState)) (n : ℕ) → seen_of (at_number (map (state_seeing acts) sites) n) ≡ (if is_some (at_number sites n) then seen_in acts n (seen_of (at_number sites n)) else 0)
seeing-seen acts [] n = refl
seeing-seen acts (e ∷ es) n = seeing-step acts n e (is_at (nat_cmp n) e.0) (at_number (map (state_seeing acts) es) n) (at_number es n) (at-same n e.0) (seeing-seen acts es n)

-- what a taken site keeps
module _ {T : Type 0} (P : Option SiteState → T) (m : Upload) (keeps : (state : SiteState) → P (Some (record state { received = m.to; received_number = m.through })) ≡ P (Some state)) where
  found-kept : (b : Bool) (one other : SiteState) (more rest : Option SiteState) → P (Some one) ≡ P (Some other) → P more ≡ P rest → P (let found : Option SiteState = cond b (Some one) more in found) ≡ P (let found : Option SiteState = cond b (Some other) rest in found)
  found-kept true one other more rest first others = first
  found-kept false one other more rest first others = others

  abbrev entry_taken : Bool → ℕ × SiteState → ℕ × SiteState
  entry_taken b e = if b then (e.0, record e.1 { received = m.to; received_number = m.through }) else e

  taken-step : (b : Bool) (e : ℕ × SiteState) (n : ℕ) (more rest : Option SiteState) → P more ≡ P rest
      → P (let found : Option SiteState = cond (is_at (nat_cmp n) (entry_taken b e).0) (Some (entry_taken b e).1) more in found) ≡ P (let found : Option SiteState = cond (is_at (nat_cmp n) e.0) (Some e.1) rest in found)
  taken-step true e n more rest h = found-kept (is_at (nat_cmp n) e.0) (record e.1 { received = m.to; received_number = m.through }) e.1 more rest (keeps e.1) h
  taken-step false e n more rest h = found-kept (is_at (nat_cmp n) e.0) e.1 e.1 more rest refl h

  taken-kept : (es : List (ℕ × SiteState)) (n : ℕ) → P (at_number (with_taken m es) n) ≡ P (at_number es n)
  taken-kept [] n = refl
  taken-kept (e ∷ es) n = taken-step (e.0 == m.site.0) e n (at_number (with_taken m es) n) (at_number es n) (taken-kept es n)

pub taken-seen : (m : Upload) (acts : List Act) (sites : List (ℕ × SiteState)) (n : ℕ)
    → field_at (λ (state : SiteState). state.seen) (sites_taken m acts sites) n ≡ (if is_some (at_number sites n) then seen_in acts n (field_at (λ (state : SiteState). state.seen) sites n) else 0)
taken-seen m acts sites n = taken-kept seen_of m (λ state. refl) (map (state_seeing acts) sites) n ∙ seeing-seen acts sites n

none-is : (found : Option SiteState) → is_some found ≡ false → found ≡ None
none-is None is = refl
none-is (Some state) is = absurd (grind (arith, is))

pub taken-none : (m : Upload) (acts : List Act) (sites : List (ℕ × SiteState)) (n : ℕ) → at_number sites n ≡ None → at_number (sites_taken m acts sites) n ≡ None
taken-none m acts sites n none = none-is (at_number (sites_taken m acts sites) n)
    (taken-kept (λ (found : Option SiteState). is_some found) m (λ state. refl) (map (state_seeing acts) sites) n ∙ seeing-some acts sites n ∙ ap (λ (found : Option SiteState). is_some found) none)

-- The numbers that items tell of a site.

abbrev pub highest : List UploadItem → ℕ → ℕ → ℕ
highest items n most = fold (λ (k : ℕ) (item : UploadItem). max k (number_of item.version.lineage n)) most items

pub seen-items : (judge : PublisherJudge) (site : SiteId) (p : PublisherTables) (number : ℕ) (decisions : List Decision) (items : List UploadItem) (n most : ℕ) → seen_in (acts_from judge site p number decisions items) n most ≡ highest items n most
seen-items judge site p number decisions [] n most = refl
seen-items judge site p number decisions (item ∷ items) n most =
    let act : Act = act_of judge site p number decisions item in
    seen-items judge site p (number + made_by act.fate) (left_by act.fate decisions) items n (max most (number_of item.version.lineage n))

pub highest-from : (items : List UploadItem) (n most : ℕ) → highest items n most ≡ max most (highest items n 0)
highest-from [] n most = grind (arith, nat_tests)
highest-from (item ∷ items) n most =
    let first = highest-from items n (max most (number_of item.version.lineage n)) in
    let other = highest-from items n (max 0 (number_of item.version.lineage n)) in
    grind (arith, nat_tests, first, other)

pub highest-bound : (items : List UploadItem) (n most bound : ℕ) → most ≤ bound → AllByRecursion (λ (item : UploadItem). number_of item.version.lineage n ≤ bound) items → highest items n most ≤ bound
highest-bound [] n most bound up all = up
highest-bound (item ∷ items) n most bound up all = let first = all.0 in highest-bound items n (max most (number_of item.version.lineage n)) bound (grind (arith, nat_tests, up, first)) all.1

-- The accepted changes.

abbrev accepting : List (Key × Past) → List Dot → UploadItem → List Dot
accepting incoming accepted item = accepted ++ (past_in incoming (key_of_item item)).known

pub acts-accepted : (judge : PublisherJudge) (site : SiteId) (p : PublisherTables) (incoming : List (Key × Past)) (entries : Entries) (number : ℕ) (decisions : List Decision) (items : List UploadItem) (h : History)
    → (fold (Noting.with_act incoming entries) h (acts_from judge site p number decisions items)).accepted ≡ fold (accepting incoming) h.accepted items
acts-accepted judge site p incoming entries number decisions [] h = refl
acts-accepted judge site p incoming entries number decisions (item ∷ items) h =
    let act : Act = act_of judge site p number decisions item in
    acts-accepted judge site p incoming entries (number + made_by act.fate) (left_by act.fate decisions) items (Noting.with_act incoming entries h act)
    ∙ ap (λ (accepted : List Dot). fold (accepting incoming) (accepted ++ (past_in incoming (key_of_item item)).known) items)
    (fate-leaves (λ (x : History). x.accepted) (λ x lost. refl) (λ x made pasts. refl) act.fate (Noting.entry_generation entries act.key) act.key (past_in incoming act.key) h)

abbrev pub ItemTold : List (Key × Past) → UploadItem → Type 0
ItemTold incoming item = Told item.version (past_in incoming (key_of_item item)).known

pub accepted-highest : (incoming : List (Key × Past)) (items : List UploadItem) (accepted : List Dot) (n : ℕ) → AllByRecursion (ItemTold incoming) items → greatest_in (fold (accepting incoming) accepted items) n ≡ highest items n (greatest_in accepted n)
accepted-highest incoming [] accepted n all = refl
accepted-highest incoming (item ∷ items) accepted n all =
    let known : List Dot = (past_in incoming (key_of_item item)).known in
    accepted-highest incoming items (accepted ++ known) n all.1
    ∙ ap (λ (most : ℕ). highest items n most) (greatest-both n accepted known ∙ ap (λ (k : ℕ). max (greatest_in accepted n) k) (told-greatest item.version.lineage known n all.0.tells))

-- a change that an item brings which acts is no greater
highest-up : (items : List UploadItem) (n most low : ℕ) → low ≤ most → low ≤ highest items n most
highest-up items n most low up = let from = highest-from items n most in grind (arith, nat_tests, up, from)

sent-step : (hit keeps : Bool) (item : UploadItem) (kept : List UploadItem) (n most low : ℕ) → (hit ≡ true → keeps ≡ true) → (hit ≡ true → low ≤ number_of item.version.lineage n) → (hit ≡ false → (k : ℕ) → low ≤ highest kept n k)
    → low ≤ highest (let all : List UploadItem = cond keeps (item ∷ kept) kept in all) n most
sent-step true true item kept n most low acts first more =
    let here : low ≤ number_of item.version.lineage n = first refl in
    highest-up kept n (max most (number_of item.version.lineage n)) low (grind (arith, nat_tests, here))
sent-step true false item kept n most low acts first more = absurd (grind (arith, acts refl))
sent-step false true item kept n most low acts first more = more refl (max most (number_of item.version.lineage n))
sent-step false false item kept n most low acts first more = more refl most

or-rest : (a b : Bool) → (a || b) ≡ true → a ≡ false → b ≡ true
or-rest true b is not = absurd cc
or-rest false b is not = is

pub sent-highest : (incoming : List (Key × Past)) (c : MadeChange) (has_acted : ℕ → Bool) → ((generation : ℕ) → c.generation ≤ generation → has_acted generation ≡ false) → (items : List UploadItem) → AllByRecursion (ItemTold incoming) items → is_sent incoming items c ≡ true
    → (most : ℕ) → c.dot.number ≤ highest (filter (λ (item : UploadItem). not (has_acted item.generation)) items) c.dot.site.0 most
sent-highest incoming c has_acted acts [] all is most = absurd (grind (arith, is))
sent-highest incoming c has_acted acts (item ∷ items) all is most =
    let hit : Bool = same_key (key_of_item item) c.key && nat_le c.generation item.generation && has (past_in incoming c.key).known c.dot in
    sent-step hit (not (has_acted item.generation)) item (filter (λ (x : UploadItem). not (has_acted x.generation)) items) c.dot.site.0 most c.dot.number
    (λ e. ap not (acts item.generation (grind (arith, nat_tests, e))))
    (λ e. (let key : key_of_item item ≡ c.key = keys-same (key_of_item item) c.key (grind (arith, e)) in
    let told : ItemTold incoming item = all.0 in
    known-number item.version.lineage (past_in incoming (key_of_item item)).known c.dot told.tells (subst (λ (k : Key). has (past_in incoming k).known c.dot ≡ true) (sym key) (grind (arith, e)))))
    (λ e k. sent-highest incoming c has_acted acts items all.1 (or-rest hit (is_sent incoming items c) is e) k)
