-- Bytes that may end in a target: what stands behind their first space is its front.
use Rattle.std.proofs.Common.{◌≡◌, ◌∙◌, ◌<◌, ◌+◌, inl, inr, ℕ, Bool, true, false, not, cond, eqb, List, [], ◌∷◌, ◌++◌, length, drop, take_while, codes, IsUtf8, refl, sym, ap, subst, arith, append_assoc}
use Rattle.std.specs.List.{prefix_len}
use Rattle.std.proofs.lemmas.Bool.{true≢false, ne_eqb, eqb-true, not-false}
use Rattle.std.proofs.lemmas.List.{length-append}
use Rattle.std.proofs.lemmas.List.Elements.{All-nil, All-cons, All-head, All-tail, All-append}
use Rattle.std.proofs.lemmas.List.Folds.{length-prefix_len}
use Rattle.std.proofs.lemmas.Str.{IsUtf8-append}
use Rattle.std.proofs.Math.Seq.{drop-append-add}
use Rattle.httparse.specs.Grammar.{LineEnd, crlf, lf, print_end, print_blank, print_version, print_section, AllPass, IsToken, is_token_byte, is_uri_byte, print_request, MayBecomeRequest, EndsInTarget}
use Rattle.httparse.proofs.GrammarLemmas.{print_request-append}
use Rattle.httparse.proofs.PieceLemmas.{space_ends_token}
use Rattle.httparse.proofs.RunLemmas.{run_unique}
use Rattle.merge_wire.specs.Heads.{CanBecomeRequest, BeginsText, is_no_space}
use Rattle.merge_wire.proofs.HeadLemmas.{shortest, shortest_valid, slash_uri, slash_text}

-- ---- no space stands before a target's method ends

abbrev passes : ℕ → Type 0
passes b = is_no_space b ≡ true

spaceless : (test : ℕ → Bool) → test 32 ≡ false → (xs : List ℕ) → AllPass test xs → AllPass is_no_space xs
spaceless test fails [] all = All-nil passes
spaceless test fails (x ∷ xs) all =
    let other : passes x = ap not (ne_eqb x 32 (λ e. true≢false (sym (subst (λ (v : ℕ). test v ≡ true) e (All-head (λ v. test v ≡ true) x xs all)) ∙ fails))) in
    All-cons passes x xs other (spaceless test fails xs (All-tail (λ v. test v ≡ true) x xs all))

blank_spaceless : (es : List LineEnd) → AllPass is_no_space (print_blank es)
blank_spaceless [] = All-nil passes
blank_spaceless (crlf ∷ es) = All-cons passes 13 (10 ∷ print_blank es) refl (All-cons passes 10 (print_blank es) refl (blank_spaceless es))
blank_spaceless (lf ∷ es) = All-cons passes 10 (print_blank es) refl (blank_spaceless es)

word_spaceless : (blank : List LineEnd) (method : List ℕ) → IsToken method → AllPass is_no_space (print_blank blank ++ method)
word_spaceless blank method token = All-append passes (print_blank blank) method (blank_spaceless blank) (spaceless is_token_byte space_ends_token method token.1)

-- what stands before the first space is the method, and the empty lines before it
one_word : (word rest : List ℕ) (blank : List LineEnd) (method more : List ℕ) → AllPass is_no_space word → IsToken method
    → word ++ 32 ∷ rest ≡ (print_blank blank ++ method) ++ 32 ∷ more → (word ≡ print_blank blank ++ method) × (rest ≡ more)
one_word word rest blank method more all token e =
    let same = run_unique is_no_space word (print_blank blank ++ method) (32 ∷ rest) (32 ∷ more) all (word_spaceless blank method token) refl refl e in
    (same.0, ap (λ (l : List ℕ). drop 1 l) same.1)

-- ---- bytes that are cut behind their first space

-- so many bytes stand before it
abbrev Cut : List ℕ → ℕ → Type 0
Cut bytes n = (word : List ℕ) × (rest : List ℕ) × AllPass is_no_space word × (bytes ≡ word ++ 32 ∷ rest) × (n ≡ length word)

abbrev IsCut : List ℕ → Type 0
IsCut bytes = prefix_len is_no_space bytes < length bytes → Cut bytes (prefix_len is_no_space bytes)

cut : (bytes : List ℕ) → IsCut bytes
cut [] less = absurd (omega (arith, less))
cut (x ∷ xs) less = by (is_no_space x) refl (cut xs) less
  where
    by : (c : Bool) → is_no_space x ≡ c → IsCut xs → cond c (1 + prefix_len is_no_space xs) 0 < length (x ∷ xs) → Cut (x ∷ xs) (cond c (1 + prefix_len is_no_space xs) 0)
    by true e next less =
        let behind = next (omega (arith, less)) in
        (x ∷ behind.0, behind.1, All-cons passes x behind.0 e behind.2, ap (λ (l : List ℕ). x ∷ l) behind.3, omega (arith, behind.4))
    by false e next less = ([], xs, All-nil passes, ap (λ (v : ℕ). v ∷ xs) (eqb-true x 32 (not-false (eqb x 32) e)), refl)

cut_at : (bytes : List ℕ) (n : ℕ) → n ≡ length (take_while is_no_space bytes) → n < length bytes → Cut bytes n
cut_at bytes n is less =
    let same : n ≡ prefix_len is_no_space bytes = is ∙ length-prefix_len is_no_space bytes in
    subst (λ (k : ℕ). Cut bytes k) (sym same) (cut bytes (omega (arith, same, less)))

word_counts : (word rest : List ℕ) → AllPass is_no_space word → prefix_len is_no_space (word ++ 32 ∷ rest) ≡ length word
word_counts [] rest all = refl
word_counts (x ∷ word) rest all =
    ap (λ (c : Bool). cond c (1 + prefix_len is_no_space (word ++ 32 ∷ rest)) 0) (All-head passes x word all)
    ∙ omega (arith, word_counts word rest (All-tail passes x word all))

-- bytes without a space end in no target
pub spaceless_ends : (bytes : List ℕ) (n : ℕ) → n ≡ length (take_while is_no_space bytes) → n ≡ length bytes → EndsInTarget bytes → ⊥
spaceless_ends bytes n is all (blank, method, target, token, uri, e) =
    let word = print_blank blank ++ method in
    let whole : bytes ≡ word ++ 32 ∷ target = e in
    let counted : prefix_len is_no_space bytes ≡ length word = ap (λ (l : List ℕ). prefix_len is_no_space l) whole ∙ word_counts word target (word_spaceless blank method token) in
    omega (arith, is, all, length-prefix_len is_no_space bytes, counted, ap length whole, length-append word (32 ∷ target))

behind_is : (bytes : List ℕ) (n : ℕ) (c : Cut bytes n) → drop (n + 1) bytes ≡ c.1
behind_is bytes n (word, rest, all, e, long) =
    ap (λ (l : List ℕ). drop (n + 1) l) e ∙ ap (λ (k : ℕ). drop (k + 1) (word ++ 32 ∷ rest)) long ∙ drop-append-add word (32 ∷ rest) 1

-- those that end in a target have all its bytes behind their first space
in_target : (bytes behind : List ℕ) (n : ℕ) → n ≡ length (take_while is_no_space bytes) → n < length bytes → behind ≡ drop (n + 1) bytes → EndsInTarget bytes
    → (blank : List LineEnd) × (method : List ℕ) × IsToken method × AllPass is_uri_byte behind × (bytes ≡ (print_blank blank ++ method) ++ 32 ∷ behind)
in_target bytes behind n is less b (blank, method, target, token, uri, e) =
    let c = cut_at bytes n is less in
    let same : behind ≡ target = b ∙ behind_is bytes n c ∙ (one_word c.0 c.1 blank method target c.2 token (sym c.3 ∙ e)).1 in
    (blank, method, token, subst (λ (l : List ℕ). AllPass is_uri_byte l) (sym same) uri, e ∙ ap (λ (l : List ℕ). (print_blank blank ++ method) ++ 32 ∷ l) (sym same))

-- ---- a head that comes of a target

back_passes : (test : ℕ → Bool) (a b : List ℕ) → AllPass test (a ++ b) → AllPass test b
back_passes test [] b all = all
back_passes test (x ∷ a) b all = back_passes test a b (All-tail (λ v. test v ≡ true) x (a ++ b) all)

-- bytes of a target that stand where one stands are its front
front_of_target : (behind more target rest : List ℕ) → AllPass is_uri_byte behind → behind ++ more ≡ target ++ 32 ∷ rest → (k : List ℕ) × (target ≡ behind ++ k)
front_of_target [] more target rest all e = (target, refl)
front_of_target (x ∷ xs) more [] rest all e =
    let blank : x ≡ 32 = cc in
    absurd (true≢false (sym (subst (λ (v : ℕ). is_uri_byte v ≡ true) blank (All-head (λ v. is_uri_byte v ≡ true) x xs all))))
front_of_target (x ∷ xs) more (y ∷ target) rest all e =
    let same : y ≡ x = cc in
    let r = front_of_target xs more target rest (All-tail (λ v. is_uri_byte v ≡ true) x xs all) (cc) in
    (r.0, ap (λ (v : ℕ). v ∷ target) same ∙ ap (λ (l : List ℕ). x ∷ l) r.1)

text_of_head : (bytes word behind : List ℕ) → AllPass is_no_space word → bytes ≡ word ++ 32 ∷ behind → AllPass is_uri_byte behind → CanBecomeRequest bytes → BeginsText behind
text_of_head bytes word behind all e uri (more, h, rest, (valid, is)) =
    let same = one_word word (behind ++ more) h.blank h.method _ all valid.method (sym (append_assoc word (32 ∷ behind) more) ∙ ap (λ (l : List ℕ). l ++ more) (sym e) ∙ is ∙ print_request-append h rest ∙ sym (append_assoc (print_blank h.blank) h.method _)) in
    let t = front_of_target behind more h.target _ uri same.1 in
    (t.0, back_passes is_uri_byte behind t.0 (subst (λ (l : List ℕ). AllPass is_uri_byte l) t.1 valid.target.1), subst IsUtf8 t.1 valid.target_text)

-- what the shortest head has behind its target
abbrev ending : List ℕ
ending = 32 ∷ (print_version 1 ++ (print_end lf ++ (print_section [] lf ++ [])))

spelled : (blank : List LineEnd) (method target more : List ℕ) → ((print_blank blank ++ method) ++ 32 ∷ target) ++ (more ++ (codes "/" ++ ending)) ≡ print_request (shortest blank method ((target ++ more) ++ codes "/")) ++ []
spelled blank method target more =
    append_assoc (print_blank blank ++ method) (32 ∷ target) (more ++ (codes "/" ++ ending))
    ∙ append_assoc (print_blank blank) method (32 ∷ (target ++ (more ++ (codes "/" ++ ending))))
    ∙ ap (λ (l : List ℕ). print_blank blank ++ (method ++ 32 ∷ l)) (sym (append_assoc target more (codes "/" ++ ending)) ∙ sym (append_assoc (target ++ more) (codes "/") ending))
    ∙ sym (print_request-append (shortest blank method ((target ++ more) ++ codes "/")) [])

head_of_text : (blank : List LineEnd) (method target : List ℕ) → IsToken method → AllPass is_uri_byte target → BeginsText target → CanBecomeRequest ((print_blank blank ++ method) ++ 32 ∷ target)
head_of_text blank method target token uri (more, uris, text) =
    let one : length (codes "/") ≡ 1 = refl in
    let some : 0 < length ((target ++ more) ++ codes "/") = omega (arith, one, length-append (target ++ more) (codes "/")) in
    let all = All-append (λ b. is_uri_byte b ≡ true) (target ++ more) (codes "/") (All-append (λ b. is_uri_byte b ≡ true) target more uri uris) slash_uri in
    let valid = shortest_valid blank method ((target ++ more) ++ codes "/") token (some, all) (IsUtf8-append (target ++ more) (codes "/") text slash_text) in
    (more ++ (codes "/" ++ ending), shortest blank method ((target ++ more) ++ codes "/"), [], (valid, spelled blank method target more))

-- ---- bytes of which the parser wants more

pub unspaced_can : (bytes : List ℕ) (n : ℕ) → n ≡ length (take_while is_no_space bytes) → n ≡ length bytes → MayBecomeRequest bytes → CanBecomeRequest bytes
unspaced_can bytes n is all (inl (more, h, reads)) = (more, h, [], reads)
unspaced_can bytes n is all (inr target) = absurd (spaceless_ends bytes n is all target)

-- no target stands at their end
pub closed_can : (bytes behind : List ℕ) (n : ℕ) → n ≡ length (take_while is_no_space bytes) → n < length bytes → behind ≡ drop (n + 1) bytes → (AllPass is_uri_byte behind → ⊥) → MayBecomeRequest bytes → CanBecomeRequest bytes
closed_can bytes behind n is less b none (inl (more, h, reads)) = (more, h, [], reads)
closed_can bytes behind n is less b none (inr target) = let t = in_target bytes behind n is less b target in absurd (none t.3)

-- one may, and it can become a text
pub open_can : (bytes behind : List ℕ) (n : ℕ) → n ≡ length (take_while is_no_space bytes) → n < length bytes → behind ≡ drop (n + 1) bytes → BeginsText behind → MayBecomeRequest bytes → CanBecomeRequest bytes
open_can bytes behind n is less b text (inl (more, h, reads)) = (more, h, [], reads)
open_can bytes behind n is less b text (inr target) =
    let t = in_target bytes behind n is less b target in
    subst (λ (l : List ℕ). CanBecomeRequest l) (sym t.4) (head_of_text t.0 t.1 behind t.2 t.3 text)

pub open_text : (bytes behind : List ℕ) (n : ℕ) → n ≡ length (take_while is_no_space bytes) → n < length bytes → behind ≡ drop (n + 1) bytes → AllPass is_uri_byte behind → CanBecomeRequest bytes → BeginsText behind
open_text bytes behind n is less b uri can =
    let c = cut_at bytes n is less in
    text_of_head bytes c.0 behind c.2 (c.3 ∙ ap (λ (l : List ℕ). c.0 ++ 32 ∷ l) (sym (behind_is bytes n c) ∙ sym b)) uri can
