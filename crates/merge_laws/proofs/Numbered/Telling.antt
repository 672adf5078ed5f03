-- A step of a subscriber keeps what its tables say of its last changes.
use Rattle.std.specs.Prelude.{◌≡◌, ◌≤◌, ◌<◌, ◌==◌, ◌+◌, ◌-◌, ℕ, List, ◌∷◌, Bool, true, false, Option, Some, None, refl, if◌then◌else◌, nat_le, is_some, length, not, option_map}
use Rattle.std.proofs.Common.{arith, subst, sym, ap, ◌∙◌}
use Rattle.std.proofs.lemmas.Bool.Decides.{nat_tests}
use Rattle.merge_types.specs.declared.changes.Change.{Change}
use Rattle.merge_types.specs.declared.changes.Change.TheVariants.{Insert, Update, Delete}
use Rattle.merge_types.specs.declared.identifiers.Dot.{Dot}
use Rattle.merge_types.specs.declared.identifiers.Moment.{Moment}
use Rattle.merge_types.specs.declared.values.Value.{Value}
use Rattle.merge_units.specs.declared.version.Version.{Version}
use Rattle.merge_units.specs.Changes.{changed, removed}
use Rattle.merge_gens.specs.declared.filling.Filling.{Filling}
use Rattle.merge_gens.specs.Filling as fill
use Rattle.merge_gens.specs.Book.{moment_of, moved_to}
use Rattle.merge_ident.specs.Holders.{Holder}
use Rattle.merge_schema.specs.declared.publication.Publication.{Publication}
use Rattle.merge_batch.specs.declared.refusal.Refusal.TheVariants.{NoRow}
use Rattle.merge_batch.specs.declared.request.Outstanding.{Outstanding}
use Rattle.merge_batch.specs.declared.request.Outstanding.TheVariants as ask
use Rattle.merge_model.specs.Tables.Changes.{change_refusal, key_of, lives, no_row, version_after}
use Rattle.merge_model.specs.History.{MadeChange}
use Rattle.merge_model.specs.Judge.{SubscriberJudge}
use Rattle.merge_model.specs.Tables.Publications.{tracking_at}
use Rattle.merge_model.specs.Tables.Refusals.{counter_end, refused_if}
use Rattle.merge_model.specs.Subscriber.Reinit.{result_of_reinit}
use Rattle.merge_model.specs.Subscriber.Sending.{with_message}
use Rattle.merge_model.specs.Subscriber.{is_joining, subscriber_at_moment, subscriber_closed, subscriber_counters, subscriber_last_closed, subscriber_local_refusal, subscriber_made_locally, subscriber_next_dot, subscriber_version_at, with_version_if}
use Rattle.merge_types.specs.declared.row_key.RowKey.{RowKey as Key}
use Rattle.merge_model.specs.Tables.{SubscriberTables}
use Rattle.merge_model.specs.Subscriber.Taking.{with_received}
use Rattle.merge_laws.specs.Facts.Numbered.{InOrder, Tells, last_of}
use Rattle.merge_model.proofs.Runs.Refusals.{first-none}
use Rattle.merge_laws.proofs.Received.Subscribing.{filling-closed, filling-rises}
use Rattle.merge_laws.proofs.Numbered.Through.{kept-above, last-newest, last-older, moved-new, moved-none, moved-old, order-later, order-within}

-- A book that moves on: the generations that close then keep the number.

pub decided : (b : Bool) (x : Bool) (P : Type 0) → x ≡ b → (x ≡ true → P) → (x ≡ false → P) → P
decided true x P e here there = here e
decided false x P e here there = there e

pub some-same : (a b : ℕ) → a ≡ b → (let found : Option ℕ = Some a in found) ≡ Some b
some-same a b e = ap (λ (n : ℕ). (let found : Option ℕ = Some n in found)) e

module _ (before after : List MadeChange) (n : ℕ) (s : SubscriberTables) (filling : Filling) (moment : Moment) (t : Tells before n s) (rises : subscriber_last_closed s ≤ filling.last_closed) where
  pub moved-keeps : ((generation : ℕ) → generation ≤ subscriber_last_closed s → last_of generation after ≡ last_of generation before)
      → ((generation : ℕ) → subscriber_last_closed s < generation → generation ≤ filling.last_closed → moment.0 ≡ last_of generation after)
      → (generation : ℕ) → s.received < generation → generation ≤ filling.last_closed → moment_of (moved_to s.gens filling moment).closings generation ≡ Some (last_of generation after)
  moved-keeps old new generation low up = decided (nat_le generation (subscriber_last_closed s)) (nat_le generation (subscriber_last_closed s)) (moment_of (moved_to s.gens filling moment).closings generation ≡ Some (last_of generation after)) refl
      (λ up_to. (let within : generation ≤ subscriber_last_closed s = grind (arith, nat_tests, up_to) in
      moved-old s.gens filling moment generation (last_of generation before) (t.keeps generation low within) ∙ some-same (last_of generation before) (last_of generation after) (sym (old generation within))))
      (λ later. (let beyond : subscriber_last_closed s < generation = grind (arith, nat_tests, later) in
      moved-new s.gens filling moment generation (t.above generation beyond) beyond up ∙ some-same moment.0 (last_of generation after) (new generation beyond up)))

  pub moved-above : (generation : ℕ) → filling.last_closed < generation → moment_of (moved_to s.gens filling moment).closings generation ≡ None
  moved-above generation beyond = moved-none s.gens filling moment generation (t.above generation (omega (arith, rises, beyond))) rises beyond

-- A closing.

closed-one : (filling : Filling) (generation : ℕ) → filling.last_closed < generation → generation ≤ (fill.filling_after_close filling).last_closed → (generation ≡ filling.last_closed + 1) × (filling.filled ≡ 0 → ⊥)
closed-one filling generation low up = (grind (arith, nat_tests, low, up), λ empty. grind (arith, nat_tests, low, up, empty))

closed-none : (filling : Filling) → filling.last_closed ≡ 0 → filling.filled ≡ 0 → (fill.filling_after_close filling).last_closed ≡ 0
closed-none filling last empty = grind (arith, nat_tests, last, empty)

closed-idle : (made : List MadeChange) (changes : ℕ) (filling : Filling) (b : Bool) → (filling.filled == 0) ≡ b → ((filling.filled ≡ 0 → ⊥) → changes ≡ last_of (filling.last_closed + 1) made) → (filling.filled ≡ 0 → changes ≡ last_of filling.last_closed made)
    → changes ≡ last_of (let after : Filling = if b then filling else record { last_closed = filling.last_closed + 1; filled = 0 } in after.last_closed) made
closed-idle made changes filling true e entered idle = idle (grind (arith, nat_tests, e))
closed-idle made changes filling false e entered idle = entered (λ empty. grind (arith, nat_tests, e, empty))

pub closing-tells : (made : List MadeChange) (n : ℕ) (now : Moment) (s : SubscriberTables) → Tells made n s → Tells made n (subscriber_closed (subscriber_at_moment now s))
closing-tells made n now s t =
    let filling : Filling = fill.filling_after_close s.gens.filling in
    let moment : Moment = record { 0 = s.changes } in
    let rises : subscriber_last_closed s ≤ filling.last_closed = filling-rises s.gens.filling in
    record {
      named = λ own. (closed-none s.gens.filling (t.named own).0 (t.named own).1, filling-closed s.gens.filling);
      order = λ differs. order-later s.changes (subscriber_last_closed s + 1) (filling.last_closed + 1) made (omega (arith, rises)) (t.order differs);
      entered = λ filled. absurd (filled (filling-closed s.gens.filling));
      idle = λ empty. closed-idle made s.changes s.gens.filling (s.gens.filling.filled == 0) refl t.entered t.idle;
      keeps = moved-keeps made made n s filling moment t rises (λ generation within. refl)
          (λ generation low up. (let one = closed-one s.gens.filling generation low up in t.entered one.1 ∙ ap (λ (g : ℕ). last_of g made) (sym one.0)));
      above = moved-above made made n s filling moment t rises;
      sent = t.sent;
    }

-- A message, and a moment.

pub moment-tells : (made : List MadeChange) (n : ℕ) (now : Moment) (s : SubscriberTables) → Tells made n s → Tells made n (subscriber_at_moment now s)
moment-tells made n now s t = record { named = t.named; order = t.order; entered = t.entered; idle = t.idle; keeps = t.keeps; above = t.above; sent = t.sent }

pub message-tells : (made : List MadeChange) (n : ℕ) (sent : Outstanding) (s : SubscriberTables) → ((from to : ℕ) → sent ≡ ask.Upload from to → s.received ≤ to) → Tells made n s → Tells made n (with_message sent s)
message-tells made n sent s fits t = record {
  named = t.named;
  order = t.order;
  entered = t.entered;
  idle = t.idle;
  keeps = t.keeps;
  above = t.above;
  sent = λ seq from to e. fits from to (grind (arith, e));
}

-- A reply: what is received is no longer kept.

pub received-tells : (made : List MadeChange) (n received : ℕ) (s : SubscriberTables) → s.received ≤ received → received ≤ subscriber_last_closed s → s.outstanding ≡ None → Tells made n s → Tells made n (with_received received s)
received-tells made n received s rises below none t = record {
  named = t.named;
  order = t.order;
  entered = t.entered;
  idle = t.idle;
  keeps = λ generation low up. kept-above received generation s.gens.closings low ∙ t.keeps generation (omega (arith, rises, low)) up;
  above = λ generation beyond. kept-above received generation s.gens.closings (omega (arith, below, beyond)) ∙ t.above generation beyond;
  sent = λ seq from to e. absurd (grind (arith, none, e));
}

pub answered-tells : (made : List MadeChange) (n : ℕ) (s : SubscriberTables) → Tells made n s → Tells made n (record s { outstanding = None })
answered-tells made n s t = record { named = t.named; order = t.order; entered = t.entered; idle = t.idle; keeps = t.keeps; above = t.above; sent = λ seq from to e. absurd (grind (arith, e)) }

-- Making anew.

pub anew-tells : (made : List MadeChange) (n : ℕ) (judge : SubscriberJudge) (now : Moment) (s : SubscriberTables) → Tells made n s → Tells made n (result_of_reinit judge (subscriber_at_moment now s)).0
anew-tells made n judge now s t =
    let c : Tells made n (subscriber_closed (subscriber_at_moment now s)) = closing-tells made n now s t in
    record {
      named = c.named;
      order = c.order;
      entered = c.entered;
      idle = c.idle;
      keeps = λ generation low up. absurd (omega (arith, low, up));
      above = λ generation beyond. refl;
      sent = λ seq from to e. absurd (grind (arith, e));
    }

-- A local change: it is the last one, in the open generation.

module _ (made : List MadeChange) (c : MadeChange) (s : SubscriberTables) (at : c.generation ≡ subscriber_last_closed s + 1) (numbered : c.dot.number ≡ s.changes + 1) where
  pub change-older : (to : ℕ) → to ≤ subscriber_last_closed s → last_of to (c ∷ made) ≡ last_of to made
  change-older to up = last-older to c made (omega (arith, at, up))

  change-newest : (to : ℕ) → subscriber_last_closed s < to → last_of to made ≤ s.changes → s.changes + 1 ≡ last_of to (c ∷ made)
  change-newest to low most = sym numbered ∙ sym (last-newest to c made (omega (arith, at)) (omega (arith, at, low)) (omega (arith, numbered, most)))

  -- an entry of it
  version-tells : (now : Moment) (held : List (ℕ × Holder)) (n : ℕ) (key : Key) (found : Option Version) → is_some found ≡ true → (n ≡ 0 → ⊥) → Tells made n s
      → (let u : SubscriberTables = record (subscriber_at_moment now s) { changes = s.changes + 1; held = held } in Tells (c ∷ made) n (with_version_if key found u))
  version-tells now held n key None there named t = absurd (grind (arith, there))
  version-tells now held n key (Some version) there named t =
      let filling : Filling = fill.filled_by s.gens.filling 1 in
      let moment : Moment = record { 0 = s.changes + 1 } in
      let rises : subscriber_last_closed s ≤ filling.last_closed = omega arith in
      let most : (to : ℕ) → last_of to made ≤ s.changes = λ to. order-within to s.changes (subscriber_last_closed s + 1) made (t.order named) in
      record {
        named = λ own. absurd (named own);
        order = λ differs. (numbered, (omega arith, (omega (arith, at, rises), (omega (arith, at), subst (λ (k : ℕ). InOrder k c.generation made) (let before : s.changes ≡ s.changes + 1 - 1 = omega arith in before) (order-later s.changes (subscriber_last_closed s + 1) c.generation made (omega (arith, at)) (t.order named))))));
        entered = λ filled. change-newest (filling.last_closed + 1) (omega (arith, rises)) (most (filling.last_closed + 1));
        idle = λ empty. change-newest filling.last_closed (omega (arith, empty)) (most filling.last_closed);
        keeps = moved-keeps made (c ∷ made) n s filling moment t rises change-older (λ generation low up. change-newest generation low (most generation));
        above = moved-above made (c ∷ made) n s filling moment t rises;
        sent = t.sent;
      }

-- what is not refused finds its row
pub no-refusal : (b : Bool) → refused_if (not b) NoRow ≡ None → b ≡ true
no-refusal true e = refl
no-refusal false e = absurd (grind (arith, e))

lives-there : (f : Version → Version) (found : Option Version) → lives found ≡ true → is_some (option_map f found) ≡ true
lives-there f None e = absurd (grind (arith, e))
lives-there f (Some version) e = refl

pub version-there : (publication : Publication) (dot : Dot) (value : Value) (change : Change) (found : Option Version) → no_row change found ≡ None → is_some (version_after publication dot value change found) ≡ true
version-there publication dot value (Insert article values) found none = refl
version-there publication dot value (Update article row values) found none = lives-there (λ (version : Version). changed version dot values (tracking_at publication article)) found (no-refusal (lives found) none)
version-there publication dot value (Delete article row) found none = lives-there (λ (version : Version). removed version dot) found (no-refusal (lives found) none)

pub row-there : (publication : Publication) (change : Change) (value : Value) (s : SubscriberTables) → subscriber_local_refusal publication change s ≡ None
    → is_some (version_after publication (subscriber_next_dot s) value change (subscriber_version_at s (key_of (subscriber_next_dot s) change))) ≡ true
row-there publication change value s none =
    let joins = first-none (is_joining s) _ none in
    let counters = first-none (counter_end (subscriber_counters s)) _ joins.1 in
    let found : Option Version = subscriber_version_at s (key_of (subscriber_next_dot s) change) in
    let refused = first-none (change_refusal publication (subscriber_next_dot s) change found (length s.rows)) _ counters.1 in
    version-there publication (subscriber_next_dot s) value change found (first-none (no_row change found) _ refused.0).0

pub change-tells : (publication : Publication) (change : Change) (now : Moment) (d : Value × List (ℕ × Holder)) (n : ℕ) (s : SubscriberTables) (made : List MadeChange) (c : MadeChange) → c.generation ≡ subscriber_last_closed s + 1 → c.dot.number ≡ s.changes + 1
    → (n ≡ 0 → ⊥) → subscriber_local_refusal publication change s ≡ None → Tells made n s → Tells (c ∷ made) n (subscriber_made_locally publication change d (subscriber_at_moment now s)).0
change-tells publication change now d n s made c at numbered named none t =
    version-tells made c s at numbered now d.1 n (key_of (subscriber_next_dot s) change) (version_after publication (subscriber_next_dot s) d.0 change (subscriber_version_at s (key_of (subscriber_next_dot s) change)))
    (row-there publication change d.0 s none) named t
