-- Words are read as an event exactly where they are the words of it.
use Rattle.std.proofs.Common.{◌≡◌, ℕ, ◌+◌, ◌^◌, ◌<◌, ◌≤◌, ◌⊎◌, inl, inr, List, [], ◌∷◌, Bool, true, false, Option, Some, None, Ok, Err, refl, ap, subst, ◌∙◌, arith, length, length-drop, drop, nat_lt}
use Rattle.std.specs.Prelude.{codes, if◌then◌else◌, option_and_then, IsUtf8}
use Rattle.std.specs.Fmt.{decimal}
use Rattle.std.specs.Str.{is_utf8}
use Rattle.std.proofs.lemmas.Bool.Decides.{nat_tests}
use Rattle.std.proofs.lemmas.List.{drop_all}
use Rattle.std.proofs.lemmas.Str.{IsUtf8-from_is_utf8, is_utf8-from_IsUtf8}
use Rattle.merge_types.specs.declared.identifiers.RowId.{RowId}
use Rattle.merge_types.specs.declared.identifiers.SiteId.{SiteId}
use Rattle.merge_types.specs.Rows.{IsRowLiteral}
use Rattle.merge_script.specs.Names.{decimal_of}
use Rattle.merge_script.specs.Words.{words_of, is_quiet_by}
use Rattle.merge_script.proofs.Decimals.{decimal-decimal_of, decimal_of-decimal}
use Rattle.merge_model.specs.declared.event.NamedValue.{NamedValue}
use Rattle.merge_model.specs.declared.event.Event.{Event}
use Rattle.merge_model.specs.declared.event.Event.TheVariants.{Wait, Insert, Update, Delete, Close, Sync, SendJoin, SendUpload, SendRanges, SendDownload, Deliver, Reinit, Purge, Restart, Show, Partition, Conflicts, Ranges, Generations, Count}
use Rattle.merge_model.specs.declared.event.Line.{Line}
use Rattle.merge_model.specs.declared.event.Line.TheVariants.{Quiet, Event as Does, NoEvent}
use Rattle.merge_model.specs.Script.Grammar.{AreOfSend, AreOfSite, AreSettings, AreWordsOf, IsName, IsSite}
use Rattle.merge_model.specs.Script.Literals.{row_of_text, same}
use Rattle.merge_model.specs.Script.Reading.{Read, delete_in, deliver_in, ends_before, event_in, insert_in, line_by, line_of, line_of_words, message_of, name_of, purge_in, read_at, seconds_of, send_in, settings_from, show_in, site_event_in, site_of, some_settings_from, unknown_in, update_in, wait_in, word_at}
use Rattle.merge_model.proofs.Script.ReadLiterals.{and_then-is, same_text}
use Rattle.merge_model.proofs.Script.ReadRows.{IsRowLiteral-row_of_text, row_of_text-IsRowLiteral}
use Rattle.merge_model.proofs.Script.ReadWords.{decimal_of-fits, made_out-is, made_out-some, name_of-is, name_of-some, number_up_to-is, number_up_to-some, settings_in-is, settings_in-some, site_of-is, site_of-some, then-is, then-some}

-- Words at places.

read_at-is : {A : Type 0} (read : List ℕ → Option A) (number : ℕ) (words : List (List ℕ)) (x : A) → read_at read number words ≡ Ok x
    → (word : List ℕ) × (word_at number words ≡ Some word) × (read word ≡ Some x)
read_at-is read number words x e = and_then-is read (word_at number words) x (made_out-is number (option_and_then read (word_at number words)) x e)

read_at-some : {A : Type 0} (read : List ℕ → Option A) (number : ℕ) (words : List (List ℕ)) (word : List ℕ) (x : A) → word_at number words ≡ Some word → read word ≡ Some x → read_at read number words ≡ Ok x
read_at-some read number words word x at is = made_out-some number (option_and_then read (word_at number words)) x (ap (option_and_then read) at ∙ is)

test_ends : (b : Bool) (event made : Event) (number : ℕ) → (if b then Ok event else Err number) ≡ Ok made → (b ≡ true) × (event ≡ made)
test_ends true event made number e = (refl, cc)
test_ends false event made number e = absurd cc

lt_test : (a b : ℕ) → nat_lt a b ≡ true → a < b
lt_test a b e = grind (arith, nat_tests, e)

lt_true : (a b : ℕ) → a < b → nat_lt a b ≡ true
lt_true a b h = grind (arith, nat_tests, h)

lt_false : (a b : ℕ) → b ≤ a → nat_lt a b ≡ false
lt_false a b h = grind (arith, nat_tests, h)

ends_before-is : (number : ℕ) (words : List (List ℕ)) (event made : Event) → ends_before number words event ≡ Ok made → (length words < number) × (event ≡ made)
ends_before-is number words event made e =
    let h = test_ends (nat_lt (length words) number) event made number e in
    (lt_test (length words) number h.0, h.1)

-- the words behind the first, where there are just so many
no_more : (first : List ℕ) (more : List (List ℕ)) → length (first ∷ more) < 2 → more ≡ []
no_more first [] few = refl
no_more first (word ∷ more) few = absurd (omega arith)

one_more : (first a : List ℕ) (more : List (List ℕ)) → word_at 2 (first ∷ more) ≡ Some a → length (first ∷ more) < 3 → more ≡ a ∷ []
one_more first a [] second few = absurd cc
one_more first a (b ∷ []) second few = let h : b ≡ a = cc in ap (λ (x : List ℕ). x ∷ []) h
one_more first a (b ∷ word ∷ more) second few = absurd (omega arith)

two_ahead : (first a b : List ℕ) (more : List (List ℕ)) → word_at 2 (first ∷ more) ≡ Some a → word_at 3 (first ∷ more) ≡ Some b → more ≡ a ∷ b ∷ drop 3 (first ∷ more)
two_ahead first a b [] second third = absurd cc
two_ahead first a b (x ∷ []) second third = absurd cc
two_ahead first a b (x ∷ y ∷ more) second third =
    let h : x ≡ a = cc in
    let k : y ≡ b = cc in
    rw (h, k) refl

three_ahead : (first a b c : List ℕ) (more : List (List ℕ)) → word_at 2 (first ∷ more) ≡ Some a → word_at 3 (first ∷ more) ≡ Some b → word_at 4 (first ∷ more) ≡ Some c → more ≡ a ∷ b ∷ c ∷ drop 4 (first ∷ more)
three_ahead first a b c [] second third fourth = absurd cc
three_ahead first a b c (x ∷ []) second third fourth = absurd cc
three_ahead first a b c (x ∷ y ∷ []) second third fourth = absurd cc
three_ahead first a b c (x ∷ y ∷ z ∷ more) second third fourth =
    let h : x ≡ a = cc in
    let k : y ≡ b = cc in
    let l : z ≡ c = cc in
    rw (h, k, l) refl

nothing_behind : (words : List (List ℕ)) (number : ℕ) → length words < number + 1 → drop number words ≡ []
nothing_behind words number few = drop_all number words (omega arith)

-- What is read as an event are the words of it.

cons_same : (a b : List ℕ) (more rest : List (List ℕ)) → a ≡ b → more ≡ rest → a ∷ more ≡ b ∷ rest
cons_same a b more rest e f = rw (e, f) refl

made_event : (event made : Event) → ◌≡◌ {A = Read Event} (Ok event) (Ok made) → event ≡ made
made_event event made e = cc

wait_is : (first : List ℕ) (more : List (List ℕ)) (event : Event) → first ≡ codes "wait" → wait_in (first ∷ more) ≡ Ok event → AreWordsOf (first ∷ more) event
wait_is first more event is e =
    let seconds = then-is (read_at seconds_of 2 (first ∷ more)) _ event e in
    let end = ends_before-is 3 (first ∷ more) (Wait seconds.0) event seconds.2 in
    let word = read_at-is seconds_of 2 (first ∷ more) seconds.0 seconds.1 in
    let number = number_up_to-is 4294967295 word.0 seconds.0 word.2 in
    subst (AreWordsOf (first ∷ more)) end.1
    (cons_same first (codes "wait") more _ is (one_more first word.0 more word.1 end.0 ∙ ap (λ (w : List ℕ). w ∷ []) number.0), number.1)

deliver_is : (first : List ℕ) (more : List (List ℕ)) (event : Event) → first ≡ codes "deliver" → deliver_in (first ∷ more) ≡ Ok event → AreWordsOf (first ∷ more) event
deliver_is first more event is e =
    let message = then-is (read_at decimal_of 2 (first ∷ more)) _ event e in
    let end = ends_before-is 3 (first ∷ more) (Deliver message.0) event message.2 in
    let word = read_at-is decimal_of 2 (first ∷ more) message.0 message.1 in
    subst (AreWordsOf (first ∷ more)) end.1
    (cons_same first (codes "deliver") more _ is (one_more first word.0 more word.1 end.0 ∙ ap (λ (w : List ℕ). w ∷ []) (decimal-decimal_of word.0 message.0 word.2)), decimal_of-fits word.0 message.0 word.2)

purge_is : (first : List ℕ) (more : List (List ℕ)) (event : Event) → first ≡ codes "purge" → purge_in (first ∷ more) ≡ Ok event → AreWordsOf (first ∷ more) event
purge_is first more event is e =
    let end = ends_before-is 2 (first ∷ more) Purge event e in
    subst (AreWordsOf (first ∷ more)) end.1 (cons_same first (codes "purge") more _ is (no_more first more end.0))

of_site : (make : SiteId → Event) (keyword first : List ℕ) (more : List (List ℕ)) (event : Event)
    → ((site : SiteId) → AreOfSite (first ∷ more) keyword site → AreWordsOf (first ∷ more) (make site))
    → first ≡ keyword → site_event_in make (first ∷ more) ≡ Ok event → AreWordsOf (first ∷ more) event
of_site make keyword first more event words_of_site is e =
    let site = then-is (read_at site_of 2 (first ∷ more)) _ event e in
    let end = ends_before-is 3 (first ∷ more) (make site.0) event site.2 in
    let word = read_at-is site_of 2 (first ∷ more) site.0 site.1 in
    let said = site_of-is word.0 site.0 word.2 in
    subst (AreWordsOf (first ∷ more)) end.1
    (words_of_site site.0 (cons_same first keyword more _ is (one_more first word.0 more word.1 end.0 ∙ ap (λ (w : List ℕ). w ∷ []) said.0), said.1))

chosen : (b : Bool) (x y : SiteId → Event) (rest : Option (SiteId → Event)) → (if b then Some x else rest) ≡ Some y → ((b ≡ true) × (x ≡ y)) ⊎ (rest ≡ Some y)
chosen true x y rest e = inl (refl, cc)
chosen false x y rest e = inr e

sent : (words : List (List ℕ)) (site : SiteId) (word keyword : List ℕ) (make message : SiteId → Event)
    → (AreOfSend words site keyword → AreWordsOf words (make site)) → (same word keyword ≡ true) × (make ≡ message)
    → words ≡ codes "send" ∷ decimal site.0 ∷ word ∷ [] → IsSite site → AreWordsOf words (message site)
sent words site word keyword make message words_of_send is spelled site_is =
    subst (λ (m : SiteId → Event). AreWordsOf words (m site)) is.1
    (words_of_send (spelled ∙ ap (λ (w : List ℕ). codes "send" ∷ decimal site.0 ∷ w ∷ []) (same_text word keyword is.0), site_is))

of_message : (words : List (List ℕ)) (site : SiteId) (word : List ℕ) (message : SiteId → Event) → message_of word ≡ Some message
    → words ≡ codes "send" ∷ decimal site.0 ∷ word ∷ [] → IsSite site → AreWordsOf words (message site)
of_message words site word message e spelled site_is = elim (chosen (same word (codes "join")) SendJoin message _ e) [
  | inl is ↦ sent words site word (codes "join") SendJoin message (λ are. are) is spelled site_is
  | inr e ↦ elim (chosen (same word (codes "upload")) SendUpload message _ e) [
    | inl is ↦ sent words site word (codes "upload") SendUpload message (λ are. are) is spelled site_is
    | inr e ↦ elim (chosen (same word (codes "ranges")) SendRanges message _ e) [
      | inl is ↦ sent words site word (codes "ranges") SendRanges message (λ are. are) is spelled site_is
      | inr e ↦ elim (chosen (same word (codes "download")) SendDownload message None e) [
        | inl is ↦ sent words site word (codes "download") SendDownload message (λ are. are) is spelled site_is
        | inr e ↦ absurd cc
      ]
    ]
  ]
]

send_is : (first : List ℕ) (more : List (List ℕ)) (event : Event) → first ≡ codes "send" → send_in (first ∷ more) ≡ Ok event → AreWordsOf (first ∷ more) event
send_is first more event is e =
    let site = then-is (read_at site_of 2 (first ∷ more)) _ event e in
    let message = then-is (read_at message_of 3 (first ∷ more)) _ event site.2 in
    let end = ends_before-is 4 (first ∷ more) (message.0 site.0) event message.2 in
    let second = read_at-is site_of 2 (first ∷ more) site.0 site.1 in
    let third = read_at-is message_of 3 (first ∷ more) message.0 message.1 in
    let said = site_of-is second.0 site.0 second.2 in
    let behind : more ≡ decimal site.0.0 ∷ third.0 ∷ [] =
    two_ahead first second.0 third.0 more second.1 third.1 ∙ cons_same second.0 (decimal site.0.0) _ _ said.0 (ap (λ (ws : List (List ℕ)). third.0 ∷ ws) (nothing_behind (first ∷ more) 3 end.0)) in
    subst (AreWordsOf (first ∷ more)) end.1
    (of_message (first ∷ more) site.0 third.0 message.0 third.2 (cons_same first (codes "send") more _ is behind) said.1)

show_is : (first : List ℕ) (more : List (List ℕ)) (event : Event) → first ≡ codes "show" → show_in (first ∷ more) ≡ Ok event → AreWordsOf (first ∷ more) event
show_is first more event is e =
    let site = then-is (read_at site_of 2 (first ∷ more)) _ event e in
    let article = then-is (read_at name_of 3 (first ∷ more)) _ event site.2 in
    let end = ends_before-is 4 (first ∷ more) (Show site.0 article.0) event article.2 in
    let second = read_at-is site_of 2 (first ∷ more) site.0 site.1 in
    let third = read_at-is name_of 3 (first ∷ more) article.0 article.1 in
    let said = site_of-is second.0 site.0 second.2 in
    let name = name_of-is third.0 article.0 third.2 in
    let behind : more ≡ decimal site.0.0 ∷ article.0 ∷ [] =
    two_ahead first second.0 third.0 more second.1 third.1 ∙ cons_same second.0 (decimal site.0.0) _ _ said.0 (cons_same third.0 article.0 _ _ name.0 (nothing_behind (first ∷ more) 3 end.0)) in
    subst (AreWordsOf (first ∷ more)) end.1 (cons_same first (codes "show") more _ is behind, said.1, name.1)

insert_is : (first : List ℕ) (more : List (List ℕ)) (event : Event) → first ≡ codes "insert" → insert_in (first ∷ more) ≡ Ok event → AreWordsOf (first ∷ more) event
insert_is first more event is e =
    let site = then-is (read_at site_of 2 (first ∷ more)) _ event e in
    let article = then-is (read_at name_of 3 (first ∷ more)) _ event site.2 in
    let values = then-is (settings_from 4 (first ∷ more)) _ event article.2 in
    let made : Insert site.0 article.0 values.0 ≡ event = made_event _ event values.2 in
    let second = read_at-is site_of 2 (first ∷ more) site.0 site.1 in
    let third = read_at-is name_of 3 (first ∷ more) article.0 article.1 in
    let said = site_of-is second.0 site.0 second.2 in
    let name = name_of-is third.0 article.0 third.2 in
    let behind : more ≡ decimal site.0.0 ∷ article.0 ∷ drop 3 (first ∷ more) =
    two_ahead first second.0 third.0 more second.1 third.1 ∙ cons_same second.0 (decimal site.0.0) _ _ said.0 (cons_same third.0 article.0 _ _ name.0 refl) in
    subst (AreWordsOf (first ∷ more)) made
    (drop 3 (first ∷ more), cons_same first (codes "insert") more _ is behind, said.1, name.1, settings_in-is 4 (drop 3 (first ∷ more)) values.0 values.1)

lacking : {A : Type 0} (b : Bool) (number : ℕ) (r : Read A) (x : A) → (if b then Err number else r) ≡ Ok x → (b ≡ false) × (r ≡ Ok x)
lacking true number r x e = absurd cc
lacking false number r x e = (refl, e)

at_least : (a b : ℕ) → nat_lt a b ≡ false → b ≤ a
at_least a b e = grind (arith, nat_tests, e)

length-AreSettings : (words : List (List ℕ)) (settings : List NamedValue) → AreSettings words settings → length words ≡ length settings
length-AreSettings [] [] are = refl
length-AreSettings [] (setting ∷ settings) are = absurd are
length-AreSettings (word ∷ words) [] are = absurd are
length-AreSettings (word ∷ words) (setting ∷ settings) are = omega (arith, length-AreSettings words settings are.1)

update_is : (first : List ℕ) (more : List (List ℕ)) (event : Event) → first ≡ codes "update" → update_in (first ∷ more) ≡ Ok event → AreWordsOf (first ∷ more) event
update_is first more event is e =
    let site = then-is (read_at site_of 2 (first ∷ more)) _ event e in
    let article = then-is (read_at name_of 3 (first ∷ more)) _ event site.2 in
    let row = then-is (read_at row_of_text 4 (first ∷ more)) _ event article.2 in
    let values = then-is (some_settings_from 5 (first ∷ more)) _ event row.2 in
    let made : Update site.0 article.0 row.0 values.0 ≡ event = made_event _ event values.2 in
    let some = lacking (nat_lt (length (first ∷ more)) 5) 5 (settings_from 5 (first ∷ more)) values.0 values.1 in
    let second = read_at-is site_of 2 (first ∷ more) site.0 site.1 in
    let third = read_at-is name_of 3 (first ∷ more) article.0 article.1 in
    let fourth = read_at-is row_of_text 4 (first ∷ more) row.0 row.1 in
    let said = site_of-is second.0 site.0 second.2 in
    let name = name_of-is third.0 article.0 third.2 in
    let settings = settings_in-is 5 (drop 4 (first ∷ more)) values.0 some.1 in
    let behind : more ≡ decimal site.0.0 ∷ article.0 ∷ fourth.0 ∷ drop 4 (first ∷ more) =
    three_ahead first second.0 third.0 fourth.0 more second.1 third.1 fourth.1 ∙ cons_same second.0 (decimal site.0.0) _ _ said.0 (cons_same third.0 article.0 _ _ name.0 refl) in
    subst (AreWordsOf (first ∷ more)) made (
      fourth.0,
      drop 4 (first ∷ more),
      cons_same first (codes "update") more _ is behind,
      said.1,
      name.1,
      row_of_text-IsRowLiteral fourth.0 row.0 fourth.2,
      settings,
      omega (arith, length-AreSettings (drop 4 (first ∷ more)) values.0 settings, length-drop 4 (first ∷ more), at_least (length (first ∷ more)) 5 some.0),
    )

delete_is : (first : List ℕ) (more : List (List ℕ)) (event : Event) → first ≡ codes "delete" → delete_in (first ∷ more) ≡ Ok event → AreWordsOf (first ∷ more) event
delete_is first more event is e =
    let site = then-is (read_at site_of 2 (first ∷ more)) _ event e in
    let article = then-is (read_at name_of 3 (first ∷ more)) _ event site.2 in
    let row = then-is (read_at row_of_text 4 (first ∷ more)) _ event article.2 in
    let end = ends_before-is 5 (first ∷ more) (Delete site.0 article.0 row.0) event row.2 in
    let second = read_at-is site_of 2 (first ∷ more) site.0 site.1 in
    let third = read_at-is name_of 3 (first ∷ more) article.0 article.1 in
    let fourth = read_at-is row_of_text 4 (first ∷ more) row.0 row.1 in
    let said = site_of-is second.0 site.0 second.2 in
    let name = name_of-is third.0 article.0 third.2 in
    let behind : more ≡ decimal site.0.0 ∷ article.0 ∷ fourth.0 ∷ [] =
    three_ahead first second.0 third.0 fourth.0 more second.1 third.1 fourth.1
    ∙ cons_same second.0 (decimal site.0.0) _ _ said.0 (cons_same third.0 article.0 _ _ name.0 (ap (λ (ws : List (List ℕ)). fourth.0 ∷ ws) (nothing_behind (first ∷ more) 4 end.0))) in
    subst (AreWordsOf (first ∷ more)) end.1
    (fourth.0, cons_same first (codes "delete") more _ is behind, said.1, name.1, row_of_text-IsRowLiteral fourth.0 row.0 fourth.2)

keyword : (first word : List ℕ) (reader other : List (List ℕ) → Read Event) (words : List (List ℕ)) (event : Event)
    → (if same first word then reader else other) words ≡ Ok event → ((first ≡ word) × (reader words ≡ Ok event)) ⊎ (other words ≡ Ok event)
keyword first word reader other words event e = by (same first word) refl e
  where
    by : (b : Bool) → same first word ≡ b → (if b then reader else other) words ≡ Ok event → ((first ≡ word) × (reader words ≡ Ok event)) ⊎ (other words ≡ Ok event)
    by true is e = inl (same_text first word is, e)
    by false is e = inr e

pub event_in-AreWordsOf : (words : List (List ℕ)) (event : Event) → event_in words ≡ Ok event → AreWordsOf words event
event_in-AreWordsOf [] event e = absurd cc
event_in-AreWordsOf (first ∷ more) event e = elim (keyword first (codes "wait") wait_in _ (first ∷ more) event e) [
  | inl is ↦ wait_is first more event is.0 is.1
  | inr e ↦ elim (keyword first (codes "insert") insert_in _ (first ∷ more) event e) [
    | inl is ↦ insert_is first more event is.0 is.1
    | inr e ↦ elim (keyword first (codes "update") update_in _ (first ∷ more) event e) [
      | inl is ↦ update_is first more event is.0 is.1
      | inr e ↦ elim (keyword first (codes "delete") delete_in _ (first ∷ more) event e) [
        | inl is ↦ delete_is first more event is.0 is.1
        | inr e ↦ elim (keyword first (codes "close") (site_event_in Close) _ (first ∷ more) event e) [
          | inl is ↦ of_site Close (codes "close") first more event (λ site are. are) is.0 is.1
          | inr e ↦ elim (keyword first (codes "sync") (site_event_in Sync) _ (first ∷ more) event e) [
            | inl is ↦ of_site Sync (codes "sync") first more event (λ site are. are) is.0 is.1
            | inr e ↦ elim (keyword first (codes "send") send_in _ (first ∷ more) event e) [
              | inl is ↦ send_is first more event is.0 is.1
              | inr e ↦ elim (keyword first (codes "deliver") deliver_in _ (first ∷ more) event e) [
                | inl is ↦ deliver_is first more event is.0 is.1
                | inr e ↦ elim (keyword first (codes "reinit") (site_event_in Reinit) _ (first ∷ more) event e) [
                  | inl is ↦ of_site Reinit (codes "reinit") first more event (λ site are. are) is.0 is.1
                  | inr e ↦ elim (keyword first (codes "purge") purge_in _ (first ∷ more) event e) [
                    | inl is ↦ purge_is first more event is.0 is.1
                    | inr e ↦ elim (keyword first (codes "restart") (site_event_in Restart) _ (first ∷ more) event e) [
                      | inl is ↦ of_site Restart (codes "restart") first more event (λ site are. are) is.0 is.1
                      | inr e ↦ elim (keyword first (codes "show") show_in _ (first ∷ more) event e) [
                        | inl is ↦ show_is first more event is.0 is.1
                        | inr e ↦ elim (keyword first (codes "partition") (site_event_in Partition) _ (first ∷ more) event e) [
                          | inl is ↦ of_site Partition (codes "partition") first more event (λ site are. are) is.0 is.1
                          | inr e ↦ elim (keyword first (codes "conflicts") (site_event_in Conflicts) _ (first ∷ more) event e) [
                            | inl is ↦ of_site Conflicts (codes "conflicts") first more event (λ site are. are) is.0 is.1
                            | inr e ↦ elim (keyword first (codes "ranges") (site_event_in Ranges) _ (first ∷ more) event e) [
                              | inl is ↦ of_site Ranges (codes "ranges") first more event (λ site are. are) is.0 is.1
                              | inr e ↦ elim (keyword first (codes "generations") (site_event_in Generations) _ (first ∷ more) event e) [
                                | inl is ↦ of_site Generations (codes "generations") first more event (λ site are. are) is.0 is.1
                                | inr e ↦ elim (keyword first (codes "count") (site_event_in Count) unknown_in (first ∷ more) event e) [
                                  | inl is ↦ of_site Count (codes "count") first more event (λ site are. are) is.0 is.1
                                  | inr e ↦ absurd cc
                                ]
                              ]
                            ]
                          ]
                        ]
                      ]
                    ]
                  ]
                ]
              ]
            ]
          ]
        ]
      ]
    ]
  ]
]

-- The words of an event are read as it.

wait_some : (first : List ℕ) (seconds : ℕ) → seconds ≤ 4294967295 → wait_in (first ∷ decimal seconds ∷ []) ≡ Ok (Wait seconds)
wait_some first seconds most =
    then-some (read_at seconds_of 2 (first ∷ decimal seconds ∷ [])) _ seconds (Ok (Wait seconds))
    (read_at-some seconds_of 2 (first ∷ decimal seconds ∷ []) (decimal seconds) seconds refl (number_up_to-some 4294967295 seconds most (omega arith))) refl

deliver_some : (first : List ℕ) (message : ℕ) → message < 2 ^ 64 → deliver_in (first ∷ decimal message ∷ []) ≡ Ok (Deliver message)
deliver_some first message fits =
    then-some (read_at decimal_of 2 (first ∷ decimal message ∷ [])) _ message (Ok (Deliver message))
    (read_at-some decimal_of 2 (first ∷ decimal message ∷ []) (decimal message) message refl (decimal_of-decimal message fits)) refl

site_read : (words : List (List ℕ)) (site : SiteId) → word_at 2 words ≡ Some (decimal site.0) → IsSite site → read_at site_of 2 words ≡ Ok site
site_read words site at is = read_at-some site_of 2 words (decimal site.0) site at (site_of-some site is)

name_read : (words : List (List ℕ)) (name : List ℕ) → word_at 3 words ≡ Some name → IsName name → read_at name_of 3 words ≡ Ok name
name_read words name at is = read_at-some name_of 3 words name name at (name_of-some name is)

row_read : (words : List (List ℕ)) (named : List ℕ) (row : RowId) → word_at 4 words ≡ Some named → IsRowLiteral named row.0 → read_at row_of_text 4 words ≡ Ok row
row_read words named row at is = read_at-some row_of_text 4 words named row at (IsRowLiteral-row_of_text named row is)

site_some : (make : SiteId → Event) (first : List ℕ) (site : SiteId) → IsSite site → site_event_in make (first ∷ decimal site.0 ∷ []) ≡ Ok (make site)
site_some make first site is = then-some (read_at site_of 2 (first ∷ decimal site.0 ∷ [])) _ site (Ok (make site)) (site_read (first ∷ decimal site.0 ∷ []) site refl is) refl

send_some : (first : List ℕ) (site : SiteId) (word : List ℕ) (message : SiteId → Event) → IsSite site → message_of word ≡ Some message → send_in (first ∷ decimal site.0 ∷ word ∷ []) ≡ Ok (message site)
send_some first site word message is e =
    then-some (read_at site_of 2 (first ∷ decimal site.0 ∷ word ∷ [])) _ site (Ok (message site)) (site_read (first ∷ decimal site.0 ∷ word ∷ []) site refl is)
    (then-some (read_at message_of 3 (first ∷ decimal site.0 ∷ word ∷ [])) _ message (Ok (message site)) (read_at-some message_of 3 (first ∷ decimal site.0 ∷ word ∷ []) word message refl e) refl)

show_some : (first : List ℕ) (site : SiteId) (article : List ℕ) → IsSite site → IsName article → show_in (first ∷ decimal site.0 ∷ article ∷ []) ≡ Ok (Show site article)
show_some first site article is name =
    then-some (read_at site_of 2 (first ∷ decimal site.0 ∷ article ∷ [])) _ site (Ok (Show site article)) (site_read (first ∷ decimal site.0 ∷ article ∷ []) site refl is)
    (then-some (read_at name_of 3 (first ∷ decimal site.0 ∷ article ∷ [])) _ article (Ok (Show site article)) (name_read (first ∷ decimal site.0 ∷ article ∷ []) article refl name) refl)

insert_some : (first : List ℕ) (site : SiteId) (article : List ℕ) (settings : List (List ℕ)) (values : List NamedValue) → IsSite site → IsName article → AreSettings settings values
    → insert_in (first ∷ decimal site.0 ∷ article ∷ settings) ≡ Ok (Insert site article values)
insert_some first site article settings values is name are =
    then-some (read_at site_of 2 (first ∷ decimal site.0 ∷ article ∷ settings)) _ site (Ok (Insert site article values)) (site_read (first ∷ decimal site.0 ∷ article ∷ settings) site refl is)
    (then-some (read_at name_of 3 (first ∷ decimal site.0 ∷ article ∷ settings)) _ article (Ok (Insert site article values)) (name_read (first ∷ decimal site.0 ∷ article ∷ settings) article refl name)
    (then-some (settings_from 4 (first ∷ decimal site.0 ∷ article ∷ settings)) _ values (Ok (Insert site article values)) (settings_in-some 4 settings values are) refl))

delete_some : (first : List ℕ) (site : SiteId) (article named : List ℕ) (row : RowId) → IsSite site → IsName article → IsRowLiteral named row.0
    → delete_in (first ∷ decimal site.0 ∷ article ∷ named ∷ []) ≡ Ok (Delete site article row)
delete_some first site article named row is name literal =
    then-some (read_at site_of 2 (first ∷ decimal site.0 ∷ article ∷ named ∷ [])) _ site (Ok (Delete site article row)) (site_read (first ∷ decimal site.0 ∷ article ∷ named ∷ []) site refl is)
    (then-some (read_at name_of 3 (first ∷ decimal site.0 ∷ article ∷ named ∷ [])) _ article (Ok (Delete site article row)) (name_read (first ∷ decimal site.0 ∷ article ∷ named ∷ []) article refl name)
    (then-some (read_at row_of_text 4 (first ∷ decimal site.0 ∷ article ∷ named ∷ [])) _ row (Ok (Delete site article row)) (row_read (first ∷ decimal site.0 ∷ article ∷ named ∷ []) named row refl literal) refl))

some_settings : (first second third fourth : List ℕ) (settings : List (List ℕ)) (values : List NamedValue) → AreSettings settings values → 0 < length values
    → some_settings_from 5 (first ∷ second ∷ third ∷ fourth ∷ settings) ≡ Ok values
some_settings first second third fourth settings values are some =
    let enough : nat_lt (length (first ∷ second ∷ third ∷ fourth ∷ settings)) 5 ≡ false =
    lt_false (length (first ∷ second ∷ third ∷ fourth ∷ settings)) 5 (omega (arith, length-AreSettings settings values are, some)) in
    ap (λ (b : Bool). if b then Err 5 else settings_from 5 (first ∷ second ∷ third ∷ fourth ∷ settings)) enough ∙ settings_in-some 5 settings values are

update_some : (first : List ℕ) (site : SiteId) (article named : List ℕ) (row : RowId) (settings : List (List ℕ)) (values : List NamedValue)
    → IsSite site → IsName article → IsRowLiteral named row.0 → AreSettings settings values → 0 < length values
    → update_in (first ∷ decimal site.0 ∷ article ∷ named ∷ settings) ≡ Ok (Update site article row values)
update_some first site article named row settings values is name literal are some =
    then-some (read_at site_of 2 (first ∷ decimal site.0 ∷ article ∷ named ∷ settings)) _ site (Ok (Update site article row values)) (site_read (first ∷ decimal site.0 ∷ article ∷ named ∷ settings) site refl is)
    (then-some (read_at name_of 3 (first ∷ decimal site.0 ∷ article ∷ named ∷ settings)) _ article (Ok (Update site article row values)) (name_read (first ∷ decimal site.0 ∷ article ∷ named ∷ settings) article refl name)
    (then-some (read_at row_of_text 4 (first ∷ decimal site.0 ∷ article ∷ named ∷ settings)) _ row (Ok (Update site article row values)) (row_read (first ∷ decimal site.0 ∷ article ∷ named ∷ settings) named row refl literal)
    (then-some (some_settings_from 5 (first ∷ decimal site.0 ∷ article ∷ named ∷ settings)) _ values (Ok (Update site article row values)) (some_settings first (decimal site.0) article named settings values are some) refl)))

pub AreWordsOf-event_in : (words : List (List ℕ)) (event : Event) → AreWordsOf words event → event_in words ≡ Ok event
AreWordsOf-event_in words (Wait seconds) are = ap event_in are.0 ∙ wait_some (codes "wait") seconds are.1
AreWordsOf-event_in words (Insert site article values) are = ap event_in are.1 ∙ insert_some (codes "insert") site article are.0 values are.2 are.3 are.4
AreWordsOf-event_in words (Update site article row values) are = ap event_in are.2 ∙ update_some (codes "update") site article are.0 row are.1 values are.3 are.4 are.5 are.6 are.7
AreWordsOf-event_in words (Delete site article row) are = ap event_in are.1 ∙ delete_some (codes "delete") site article are.0 row are.2 are.3 are.4
AreWordsOf-event_in words (Close site) are = ap event_in are.0 ∙ site_some Close (codes "close") site are.1
AreWordsOf-event_in words (Sync site) are = ap event_in are.0 ∙ site_some Sync (codes "sync") site are.1
AreWordsOf-event_in words (Reinit site) are = ap event_in are.0 ∙ site_some Reinit (codes "reinit") site are.1
AreWordsOf-event_in words (Restart site) are = ap event_in are.0 ∙ site_some Restart (codes "restart") site are.1
AreWordsOf-event_in words (Partition site) are = ap event_in are.0 ∙ site_some Partition (codes "partition") site are.1
AreWordsOf-event_in words (Conflicts site) are = ap event_in are.0 ∙ site_some Conflicts (codes "conflicts") site are.1
AreWordsOf-event_in words (Ranges site) are = ap event_in are.0 ∙ site_some Ranges (codes "ranges") site are.1
AreWordsOf-event_in words (Generations site) are = ap event_in are.0 ∙ site_some Generations (codes "generations") site are.1
AreWordsOf-event_in words (Count site) are = ap event_in are.0 ∙ site_some Count (codes "count") site are.1
AreWordsOf-event_in words (SendJoin site) are = ap event_in are.0 ∙ send_some (codes "send") site (codes "join") SendJoin are.1 refl
AreWordsOf-event_in words (SendUpload site) are = ap event_in are.0 ∙ send_some (codes "send") site (codes "upload") SendUpload are.1 refl
AreWordsOf-event_in words (SendRanges site) are = ap event_in are.0 ∙ send_some (codes "send") site (codes "ranges") SendRanges are.1 refl
AreWordsOf-event_in words (SendDownload site) are = ap event_in are.0 ∙ send_some (codes "send") site (codes "download") SendDownload are.1 refl
AreWordsOf-event_in words (Deliver message) are = ap event_in are.0 ∙ deliver_some (codes "deliver") message are.1
AreWordsOf-event_in words Purge are = ap event_in are
AreWordsOf-event_in words (Show site article) are = ap event_in are.0 ∙ show_some (codes "show") site article are.1 are.2

-- Lines.

loud : (words : List (List ℕ)) (event : Event) → AreWordsOf words event → is_quiet_by words ≡ false
loud words (Insert site article values) are = ap is_quiet_by are.1
loud words (Update site article row values) are = ap is_quiet_by are.2
loud words (Delete site article row) are = ap is_quiet_by are.1
loud words Purge are = ap is_quiet_by are
loud words (Wait seconds) are = ap is_quiet_by are.0
loud words (Close site) are = ap is_quiet_by are.0
loud words (Sync site) are = ap is_quiet_by are.0
loud words (Reinit site) are = ap is_quiet_by are.0
loud words (Restart site) are = ap is_quiet_by are.0
loud words (Partition site) are = ap is_quiet_by are.0
loud words (Conflicts site) are = ap is_quiet_by are.0
loud words (Ranges site) are = ap is_quiet_by are.0
loud words (Generations site) are = ap is_quiet_by are.0
loud words (Count site) are = ap is_quiet_by are.0
loud words (SendJoin site) are = ap is_quiet_by are.0
loud words (SendUpload site) are = ap is_quiet_by are.0
loud words (SendRanges site) are = ap is_quiet_by are.0
loud words (SendDownload site) are = ap is_quiet_by are.0
loud words (Deliver message) are = ap is_quiet_by are.0
loud words (Show site article) are = ap is_quiet_by are.0

text_line : (b : Bool) (said : Line) (event : Event) → (if b then said else NoEvent 0) ≡ Does event → (b ≡ true) × (said ≡ Does event)
text_line true said event e = (refl, e)
text_line false said event e = absurd cc

loud_line : (b : Bool) (read : Read Event) (event : Event) → (if b then Quiet else line_by read) ≡ Does event → read ≡ Ok event
loud_line true read event e = absurd cc
loud_line false (Ok made) event e = cc
loud_line false (Err number) event e = absurd cc

pub line_of-AreWordsOf : (line : List ℕ) (event : Event) → line_of line ≡ Does event → IsUtf8 line × AreWordsOf (words_of line) event
line_of-AreWordsOf line event e =
    let text = text_line (is_utf8 line) (line_of_words (words_of line)) event e in
    (IsUtf8-from_is_utf8 line text.0, event_in-AreWordsOf (words_of line) event (loud_line (is_quiet_by (words_of line)) (event_in (words_of line)) event text.1))

words_said : (words : List (List ℕ)) (event : Event) → AreWordsOf words event → line_of_words words ≡ Does event
words_said words event are =
    ap (λ (b : Bool). if b then Quiet else line_by (event_in words)) (loud words event are) ∙ ap line_by (AreWordsOf-event_in words event are)

pub AreWordsOf-line_of : (line : List ℕ) (event : Event) → IsUtf8 line → AreWordsOf (words_of line) event → line_of line ≡ Does event
AreWordsOf-line_of line event text are =
    ap (λ (b : Bool). if b then line_of_words (words_of line) else NoEvent 0) (is_utf8-from_IsUtf8 line text) ∙ words_said (words_of line) event are
