-- Every step keeps that a reply with the number of the outstanding message answers that message.
use Rattle.std.specs.List.{AllByRecursion}
use Rattle.std.specs.List.Sorted.{IsStrictlySortedBy}
use Rattle.std.specs.Map.{keys_of}
use Rattle.std.specs.Option.{option_map_or}
use Rattle.std.specs.Ordering.{nat_cmp}
use Rattle.std.specs.BTreeMap.{is_at}
use Rattle.std.specs.Prelude.{Bool, Err, IfOk, List, None, Ok, Option, Result, Some, [], cond, false, map, option_map, refl, true, ℕ, ℤ, ◌+◌, ◌==◌, ◌≡◌, ◌≤◌, ◌∷◌}
use Rattle.std.proofs.Common.{ap, arith, subst, sym, ◌∙◌}
use Rattle.std.proofs.lemmas.Bool.Decides.{nat_tests}
use Rattle.merge_table.proofs.Room.{AreAbove}
use Rattle.merge_types.specs.declared.changes.Change.{Change}
use Rattle.merge_types.specs.declared.changes.Change.TheVariants.{Delete, Insert, Update}
use Rattle.merge_types.specs.declared.identifiers.Moment.{Moment}
use Rattle.merge_types.specs.declared.row_key.RowKey.{RowKey as Key}
use Rattle.merge_types.specs.declared.values.Value.{Value}
use Rattle.merge_types.specs.declared.values.Value.TheVariants.{Null}
use Rattle.merge_units.specs.declared.version.Version.{Version}
use Rattle.merge_ident.specs.Holders.{Holder, after_take, answer_to_take}
use Rattle.merge_ident.specs.declared.ranges.IdentityUsedUp.{IdentityUsedUp as IdentityEnd}
use Rattle.merge_batch.specs.declared.refusal.Refusal.{Refusal}
use Rattle.merge_batch.specs.declared.reply.RangeGrant.{RangeGrant}
use Rattle.merge_batch.specs.declared.reply.Reply.{Reply}
use Rattle.merge_batch.specs.declared.reply.Reply.TheVariants as reply
use Rattle.merge_batch.specs.declared.request.Outstanding.{Outstanding}
use Rattle.merge_batch.specs.declared.request.Outstanding.TheVariants as ask
use Rattle.merge_batch.specs.declared.request.Request.{Request}
use Rattle.merge_batch.specs.declared.request.Request.TheVariants as request
use Rattle.merge_batch.specs.declared.request.Upload.{Upload}
use Rattle.merge_batch.specs.declared.request.Want.{Want}
use Rattle.merge_model.specs.World.Faults.{heard_by}
use Rattle.merge_model.specs.Judge.{SubscriberJudge}
use Rattle.merge_model.specs.Tables.Keys.{at_number, put_number}
use Rattle.merge_model.specs.Subscriber.Sending.{want_of, with_message}
use Rattle.merge_model.specs.Subscriber.{subscriber_at_moment, subscriber_drawn, taken_value, with_version_if}
use Rattle.merge_model.specs.Tables.{SubscriberTables}
use Rattle.merge_model.specs.Subscriber.Taking.{tables_after_reply}
use Rattle.merge_model.specs.declared.letter.Letter.{Letter}
use Rattle.merge_model.specs.declared.letter.Message.{Message}
use Rattle.merge_model.specs.declared.letter.Message.TheVariants.{Asks, Replies}
use Rattle.merge_model.proofs.Lists.Finding.{all-weaker, at_put_other, at_put_same, some_same}
use Rattle.merge_laws.proofs.Received.Subscribing.{number-decided, same_number}
use Rattle.merge_laws.proofs.Identities.IdentityTakes.{heard_in}
use Rattle.merge_honest.specs.Answered.{IsHeard, IsNextOf, IsOutstanding, LetterAnswers, LettersAnswer, MessageAnswers, TakesAll, number_in}

-- A subscriber goes on: an older message that is still outstanding was so before, and it heard of no more ranges since.
pub record Onward (s t : SubscriberTables) : Type 0 where
  pub site : t.site.0 ≡ s.site.0
  pub seq : s.seq ≤ t.seq
  pub still : (seq : ℕ) (sent : Outstanding) → t.outstanding ≡ Some (seq, sent) → seq ≤ s.seq → (s.outstanding ≡ Some (seq, sent)) × ((article : ℕ) → heard_by t article ≡ heard_by s article) × (t.received ≡ s.received)

next-onward : (s t : SubscriberTables) (article number : ℕ) → heard_by t article ≡ heard_by s article → IsNextOf s article number → IsNextOf t article number
next-onward s t article number same is = ap (λ (found : Option ℕ). option_map_or (λ (have : ℕ). number == have + 1) found false) same ∙ is

outstanding-onward : (s t : SubscriberTables) (sent : Outstanding) (message : Message) → ((article : ℕ) → heard_by t article ≡ heard_by s article) → t.received ≡ s.received → IsOutstanding s sent message → IsOutstanding t sent message
outstanding-onward s t sent (Asks (request.Join m)) same received is = is
outstanding-onward s t sent (Asks (request.Upload m)) same received is = is
outstanding-onward s t sent (Asks (request.Ranges m)) same received is = (is.0, all-weaker (IsHeard s) (IsHeard t) (λ want heard. same want.article ∙ heard) m.wants is.1)
outstanding-onward s t sent (Asks (request.Download m)) same received is = is
outstanding-onward s t sent (Replies (reply.Joined m)) same received is = is
outstanding-onward s t sent (Replies (reply.Uploaded m)) same received is = is
outstanding-onward s t sent (Replies (reply.Ranged m)) same received is = (
  is.0,
  all-weaker (λ (told : RangeGrant). IsNextOf s told.article told.number) (λ (told : RangeGrant). IsNextOf t told.article told.number)
      (λ told next. next-onward s t told.article told.number (same told.article) next) m.grants is.1,
)
outstanding-onward s t sent (Replies (reply.Downloaded m)) same received is = (is.0, (let low = is.1 in omega (arith, low, received)))
outstanding-onward s t sent (Replies (reply.Refused number values)) same received is = is

message-onward : (s t : SubscriberTables) (message : Message) → Onward s t → MessageAnswers (Some s) message → MessageAnswers (Some t) message
message-onward s t message o i = (
  (let low = i.0 in let up = o.seq in omega (arith, low, up)),
  λ sent is. (let still = o.still (number_in message) sent is i.0 in outstanding-onward s t sent message still.1 still.2 (i.1 sent still.0)),
)

letter-by : (subscribers : List (ℕ × SubscriberTables)) (s t : SubscriberTables) (letter : Letter) (b : Bool) → same_number letter.site.0 t.site.0 b → at_number subscribers s.site.0 ≡ Some s → Onward s t → LetterAnswers subscribers letter
    → LetterAnswers (put_number subscribers t.site.0 t) letter
letter-by subscribers s t letter true same at o i =
    let found : at_number subscribers letter.site.0 ≡ Some s = ap (λ (n : ℕ). at_number subscribers n) (same ∙ o.site) ∙ at in
    let put : at_number (put_number subscribers t.site.0 t) letter.site.0 ≡ Some t = ap (λ (n : ℕ). at_number (put_number subscribers t.site.0 t) n) same ∙ at_put_same t.site.0 t subscribers in
    (subst (λ (x : Option SubscriberTables). MessageAnswers x letter.message) (sym put) (message-onward s t letter.message o (subst (λ (x : Option SubscriberTables). MessageAnswers x letter.message) found i.0)), i.1)
letter-by subscribers s t letter false differs at o i =
    (subst (λ (x : Option SubscriberTables). MessageAnswers x letter.message) (sym (at_put_other t.site.0 letter.site.0 t subscribers differs)) i.0, i.1)

pub subscriber-on : (subscribers : List (ℕ × SubscriberTables)) (pool : List Letter) (s t : SubscriberTables) → at_number subscribers s.site.0 ≡ Some s → Onward s t → LettersAnswer subscribers pool → LettersAnswer (put_number subscribers t.site.0 t) pool
subscriber-on subscribers pool s t at o i = all-weaker (LetterAnswers subscribers) (LetterAnswers (put_number subscribers t.site.0 t)) (λ letter here. letter-by subscribers s t letter (letter.site.0 == t.site.0) (number-decided letter.site.0 t.site.0) at o here) pool i

-- How it goes on.

pub same-onward : (s t : SubscriberTables) → t.site.0 ≡ s.site.0 → t.seq ≡ s.seq → t.outstanding ≡ s.outstanding → ((article : ℕ) → heard_by t article ≡ heard_by s article) → t.received ≡ s.received → Onward s t
same-onward s t site seq out heard received = record { site = site; seq = omega (arith, seq); still = λ k sent is low. (sym out ∙ is, heard, received) }

-- nothing is outstanding then
pub none-onward : (s t : SubscriberTables) → t.site.0 ≡ s.site.0 → s.seq ≤ t.seq → t.outstanding ≡ None → Onward s t
none-onward s t site seq none = record { site = site; seq = seq; still = λ k sent is low. absurd (let no : (let found : Option (ℕ × Outstanding) = None in found) ≡ Some (k, sent) = sym none ∙ is in cc) }

-- a message is made
pub sent-number : (n k : ℕ) (made sent : Outstanding) → (let found : Option (ℕ × Outstanding) = Some (n, made) in found) ≡ Some (k, sent) → (k ≡ n) × (sent ≡ made)
sent-number n k made sent e =
    let pair : (let entry : ℕ × Outstanding = (n, made) in entry) ≡ (k, sent) = some_same (n, made) (k, sent) e in
    (sym (ap (λ (x : ℕ × Outstanding). x.0) pair), sym (ap (λ (x : ℕ × Outstanding). x.1) pair))

pub message-goes : (made : Outstanding) (s c : SubscriberTables) → c.site.0 ≡ s.site.0 → c.seq ≡ s.seq → Onward s (with_message made c)
message-goes made s c site seq = record {
  site = site;
  seq = omega (arith, seq);
  still = λ k sent is low. absurd (let same : k ≡ c.seq + 1 = (sent-number (c.seq + 1) k made sent is).0 in omega (arith, same, seq, low));
}

-- a value that is taken leaves what was heard of

take-by : (held : List (ℕ × Holder)) (place : ℕ) (holder : Holder) (article : ℕ) (b : Bool) → same_number article place b → at_number held place ≡ Some holder → heard_in (put_number held place (after_take holder)) article ≡ heard_in held article
take-by held place holder article true same at =
    let put : at_number (put_number held place (after_take holder)) place ≡ Some (after_take holder) = at_put_same place (after_take holder) held in
    ap (λ (n : ℕ). heard_in (put_number held place (after_take holder)) n) same ∙ ap (λ (found : Option Holder). option_map (λ (h : Holder). h.have) found) put
    ∙ sym (ap (λ (found : Option Holder). option_map (λ (h : Holder). h.have) found) at) ∙ sym (ap (λ (n : ℕ). heard_in held n) same)
take-by held place holder article false differs at = ap (λ (found : Option Holder). option_map (λ (h : Holder). h.have) found) (at_put_other place article (after_take holder) held differs)

value-heard : (s : SubscriberTables) (place : ℕ) (holder : Holder) (result : Result ℤ IdentityEnd) → at_number s.held place ≡ Some holder → IfOk (taken_value s place holder result) (λ d. (article : ℕ) → heard_in d.1 article ≡ heard_in s.held article)
value-heard s place holder (Ok value) at = λ article. take-by s.held place holder article (article == place) (number-decided article place) at
value-heard s place holder (Err used_up) at = tt

found-heard : (s : SubscriberTables) (place : ℕ) (found : Option Holder) → at_number s.held place ≡ found
    → (let draw : Result (Value × List (ℕ × Holder)) Refusal = elim found [ None ↦ Ok (Null, s.held) | Some holder ↦ taken_value s place holder (answer_to_take holder) ] in IfOk draw (λ d. (article : ℕ) → heard_in d.1 article ≡ heard_in s.held article))
found-heard s place None at = λ article. refl
found-heard s place (Some holder) at = value-heard s place holder (answer_to_take holder) at

draw-heard : (s : SubscriberTables) (change : Change) → IfOk (subscriber_drawn s change) (λ d. (article : ℕ) → heard_in d.1 article ≡ heard_in s.held article)
draw-heard s (Insert article values) = found-heard s article (at_number s.held article) refl
draw-heard s (Update article row values) = λ place. refl
draw-heard s (Delete article row) = λ place. refl

version-onward : (s : SubscriberTables) (key : Key) (found : Option Version) (u : SubscriberTables) → u.site.0 ≡ s.site.0 → u.seq ≡ s.seq → u.outstanding ≡ s.outstanding → ((article : ℕ) → heard_in u.held article ≡ heard_in s.held article) → u.received ≡ s.received → Onward s (with_version_if key found u)
version-onward s key None u site seq out heard received = same-onward s u site seq out heard received
version-onward s key (Some version) u site seq out heard received = same-onward s (with_version_if key (Some version) u) site seq out heard received

pub change-onward : (now : Moment) (s : SubscriberTables) (change : Change) (d : Value × List (ℕ × Holder)) (key : Key) (found : Option Version) → subscriber_drawn s change ≡ Ok d
    → Onward s (with_version_if key found (record (subscriber_at_moment now s) { changes = s.changes + 1; held = d.1 }))
change-onward now s change d key found is =
    version-onward s key found (record (subscriber_at_moment now s) { changes = s.changes + 1; held = d.1 }) refl refl refl
    (subst (λ (draw : Result (Value × List (ℕ × Holder)) Refusal). IfOk draw (λ x. (article : ℕ) → heard_in x.1 article ≡ heard_in s.held article)) is (draw-heard s change)) refl

pub taken-onward : (judge : SubscriberJudge) (now : Moment) (m : Reply) (s : SubscriberTables) → Onward s (tables_after_reply judge now m s)
taken-onward judge now (reply.Joined m) s = none-onward s (tables_after_reply judge now (reply.Joined m) s) refl (omega arith) refl
taken-onward judge now (reply.Uploaded m) s = none-onward s (tables_after_reply judge now (reply.Uploaded m) s) refl (omega arith) refl
taken-onward judge now (reply.Ranged m) s = none-onward s (tables_after_reply judge now (reply.Ranged m) s) refl (omega arith) refl
taken-onward judge now (reply.Downloaded m) s = none-onward s (tables_after_reply judge now (reply.Downloaded m) s) refl (omega arith) refl
taken-onward judge now (reply.Refused number values) s = none-onward s (tables_after_reply judge now (reply.Refused number values) s) refl (omega arith) refl

-- What is sent.

-- each article is found where it stands
entry-by : (b : Bool) (holder : Holder) (rest : Option Holder) (have : ℕ) → option_map (λ (h : Holder). h.have) rest ≡ Some have → b ≡ false → option_map (λ (h : Holder). h.have) (let found : Option Holder = cond b (Some holder) rest in found) ≡ Some have
entry-by true holder rest have later none = absurd cc
entry-by false holder rest have later none = later

heard-behind : (entry : ℕ × Holder) (held others : List (ℕ × Holder)) → AreAbove nat_cmp entry.0 (keys_of others) → AllByRecursion (λ (e : ℕ × Holder). heard_in held e.0 ≡ Some e.1.have) others → AllByRecursion (λ (e : ℕ × Holder). heard_in (entry ∷ held) e.0 ≡ Some e.1.have) others
heard-behind entry held [] above all = tt
heard-behind entry held (other ∷ others) above all =
    let less = above.0 in
    (entry-by (is_at (nat_cmp other.0) entry.0) entry.1 (at_number held other.0) other.1.have all.0 (grind (arith, nat_tests, less)), heard-behind entry held others above.1 all.1)

heard-first : (b : Bool) (holder : Holder) (rest : Option Holder) → b ≡ true → option_map (λ (h : Holder). h.have) (let found : Option Holder = cond b (Some holder) rest in found) ≡ Some holder.have
heard-first true holder rest is = refl
heard-first false holder rest is = absurd cc

heard-each : (held : List (ℕ × Holder)) → IsStrictlySortedBy nat_cmp (keys_of held) → AllByRecursion (λ (e : ℕ × Holder). heard_in held e.0 ≡ Some e.1.have) held
unfolding IsStrictlySortedBy
heard-each [] sorted = tt
heard-each (entry ∷ held) sorted = (heard-first (is_at (nat_cmp entry.0) entry.0) entry.1 (at_number held entry.0) (grind (arith, nat_tests)), heard-behind entry held held sorted.0 (heard-each held sorted.1))

wants-heard : (s t : SubscriberTables) (held : List (ℕ × Holder)) → t.held ≡ s.held → AllByRecursion (λ (e : ℕ × Holder). heard_in s.held e.0 ≡ Some e.1.have) held → AllByRecursion (IsHeard t) (map want_of held)
wants-heard s t [] same all = tt
wants-heard s t (entry ∷ held) same all = (ap (λ (x : List (ℕ × Holder)). heard_in x entry.0) same ∙ all.0, wants-heard s t held same all.1)

pub wants-outstanding : (s t : SubscriberTables) → t.held ≡ s.held → IsStrictlySortedBy nat_cmp (keys_of s.held) → AllByRecursion (IsHeard t) (map want_of s.held)
wants-outstanding s t same sorted = wants-heard s t s.held same (heard-each s.held sorted)

-- What is answered: it is of the message that is asked.

pub answer-by : (m : Request) (r : Reply) (found : Option SubscriberTables) → number_in (Replies r) ≡ number_in (Asks m) → ((s : SubscriberTables) (sent : Outstanding) → found ≡ Some s → s.outstanding ≡ Some (number_in (Asks m), sent) → IsOutstanding s sent (Asks m) → IsOutstanding s sent (Replies r))
    → MessageAnswers found (Asks m) → MessageAnswers found (Replies r)
answer-by m r None same each i = absurd i
answer-by m r (Some s) same each i = (
  (let low = i.0 in omega (arith, same, low)),
  λ sent is. (let out : s.outstanding ≡ Some (number_in (Asks m), sent) = subst (λ (n : ℕ). s.outstanding ≡ Some (n, sent)) same is in each s sent refl out (i.1 sent out)),
)

pub takes-all : (from to received : ℕ) (sent : Outstanding) → sent ≡ ask.Upload from to → to ≤ received → TakesAll received sent
takes-all from to received sent is up = subst (λ (x : Outstanding). TakesAll received x) (sym is) up

pub next-heard : (s : SubscriberTables) (want : Want) → IsHeard s want → IsNextOf s want.article (want.have + 1)
next-heard s want heard = ap (λ (found : Option ℕ). option_map_or (λ (have : ℕ). want.have + 1 == have + 1) found false) heard ∙ (let itself : (want.have + 1 == want.have + 1) ≡ true = grind (arith, nat_tests) in itself)
