-- Bodies of requests are read just by their forms.
use Rattle.std.proofs.Common.{◌≡◌, ◌∙◌, ℕ, zero, suc, List, Bool, true, false, cond, Option, Some, None, Result, Ok, Err, refl, sym, ap, subst}
use Rattle.std.specs.Prelude.{IfOk, IfErr, bytes_eq}
use Rattle.std.proofs.lemmas.Slice.Eq.{bytes_eq-Decides}
use Rattle.serde_json.specs.Data.{Data}
use Rattle.merge_batch.specs.Heads.{kind_of}
use Rattle.merge_batch.specs.declared.request.Kind.{Kind}
use Rattle.merge_batch.specs.declared.request.Kind.TheVariants as kind
use Rattle.merge_batch.specs.declared.request.Request.{Request}
use Rattle.merge_batch.specs.declared.request.Request.TheVariants as request
use Rattle.merge_json.specs.declared.fault.BodyFault.{BodyFault}
use Rattle.merge_json.specs.declared.fault.BodyFault.TheVariants as fault
use Rattle.merge_json.specs.Reading.{placed}
use Rattle.merge_json.specs.Outcomes.{GivesAt}
use Rattle.merge_json.specs.Requests.{path_of, kind_at, request_at}
use Rattle.merge_json.specs.Bodies.{data_at, request_of, request_sent}
use Rattle.merge_json.specs.Sendable.{IsSendableRequest}
use Rattle.merge_json.specs.RequestForms.{IsRequest}
use Rattle.merge_json.specs.Messages.{IsButItems, IsSent, IsSentBad, IsFault}
use Rattle.merge_json.proofs.Readers.{some_same, placed_ok}
use Rattle.merge_json.proofs.Sent.{path_again}
use Rattle.merge_json.proofs.ProperMessages.{sent_proper}
use Rattle.merge_json.proofs.RequestForms.{request_found, request_only, request_rest, request_bad, upload_bad_only}

at_path : (path : List ℕ) (k j : Kind) (rest : Option Kind) → cond (bytes_eq path (path_of k)) (Some k) rest ≡ Some j → (rest ≡ Some j → path ≡ path_of j) → path ≡ path_of j
at_path path k j rest e later = by (bytes_eq path (path_of k)) refl e
  where
    by : (b : Bool) → bytes_eq path (path_of k) ≡ b → cond b (Some k) rest ≡ Some j → path ≡ path_of j
    by true is f = subst (λ (x : Kind). path ≡ path_of x) (some_same k j f) ((bytes_eq-Decides path (path_of k)).0 is)
    by false is f = later f

no_kind : (path : List ℕ) (j : Kind) → None ≡ Some j → path ≡ path_of j
no_kind path j e = absurd cc

kind_found : (path : List ℕ) (k : Kind) → kind_at path ≡ Some k → path ≡ path_of k
unfolding kind_at
kind_found path k e =
    at_path path kind.Join k _ e (λ f. at_path path kind.Upload k _ f (λ g. at_path path kind.Ranges k _ g (λ h. at_path path kind.Download k None h (no_kind path k))))

pub sent_found : (path body : List ℕ) (r : Request) → request_sent path body ≡ Ok r → IsSent path body r
unfolding request_sent request_of
sent_found path body r e =
    let s = placed_ok 0 (kind_at path) (λ k. placed 0 (data_at body) (request_at k)) r e in
    let t = placed_ok 0 (data_at body) (request_at s.0) r s.2 in
    let f = request_found s.0 t.0 r t.2 in
    (kind_found path s.0 s.1 ∙ ap path_of f.0, (t.0, t.1, f.1))

kind_is : (path : List ℕ) (r : Request) → path ≡ path_of (kind_of r) → kind_at path ≡ Some (kind_of r)
kind_is path r at = ap kind_at at ∙ path_again r

sent_only : (path body : List ℕ) (r : Request) → IsSent path body r → request_sent path body ≡ Ok r
unfolding request_sent request_of
sent_only path body r is = rw (kind_is path r is.0, is.1.1) (request_only is.1.0 r is.1.2)

pub sent_bad : (path body : List ℕ) (n : ℕ) → request_sent path body ≡ Err n → IsSentBad path body n
unfolding request_sent request_of
sent_bad path body zero e = λ r went tells.
    let split : request_sent path body ≡ request_at (kind_of r) tells.0 = rw (kind_is path r went, tells.1) refl in
    request_rest tells.0 r tells.2 (sym split ∙ e)
sent_bad path body (suc n) e = by (kind_at path) refl e
  where
    within : (k : Kind) (o : Option Data) → kind_at path ≡ Some k → data_at body ≡ o → placed 0 o (request_at k) ≡ Err (suc n) → IsSentBad path body (suc n)
    within k None at is f = absurd cc
    within k (Some d) at is f =
        let b = request_bad k d n f in
        (b.1, kind_found path k at ∙ ap path_of b.0, (d, is, (b.2, b.3)))

    by : (o : Option Kind) → kind_at path ≡ o → placed 0 o (λ k. placed 0 (data_at body) (request_at k)) ≡ Err (suc n) → IsSentBad path body (suc n)
    by None at f = absurd cc
    by (Some k) at f = within k (data_at body) at refl f

sent_bad_only : (path body : List ℕ) (n : ℕ) → IsSentBad path body n → request_sent path body ≡ Err n
unfolding request_sent request_of kind_at request_at
sent_bad_only path body zero bad = by (request_sent path body) refl
  where
    but_items : (d : Data) (r : Request) → IsRequest r d → IsButItems r d
    but_items d (request.Join join) is = is
    but_items d (request.Upload upload) is = (is.front, (is.items.2.0, is.items.1 ∙ ap (λ (v : Data). Some v) is.items.2.1, tt))
    but_items d (request.Ranges ask) is = is
    but_items d (request.Download download) is = is

    by : (o : Result Request ℕ) → request_sent path body ≡ o → o ≡ Err 0
    by (Ok r) e = let is = sent_found path body r e in absurd (bad r is.0 (is.1.0, is.1.1, but_items is.1.0 r is.1.2))
    by (Err zero) e = refl
    by (Err (suc n)) e = let is = sent_bad path body (suc n) e in absurd (bad (request.Upload is.0) is.1 (is.2.0, is.2.1, (is.2.2.0, (is.2.2.1.0, is.2.2.1.1, tt))))
sent_bad_only path body (suc n) bad = rw (ap kind_at bad.1, bad.2.1) (upload_bad_only bad.2.0 bad.0 n bad.2.2.0 bad.2.2.1)

-- ---- a body is of one request, or one place is bad

pub one_request : (path body : List ℕ) (r s : Request) → IsSent path body r → IsSent path body s → r ≡ s
one_request path body r s p q = let e : Ok r ≡ Ok s = sym (sent_only path body r p) ∙ sent_only path body s q in cc

pub sent_or_bad : (path body : List ℕ) (r : Request) (n : ℕ) → IsSent path body r → IsSentBad path body n → ⊥
sent_or_bad path body r n p q = let e : Ok r ≡ Err n = sym (sent_only path body r p) ∙ sent_bad_only path body n q in absurd cc

pub one_bad_place : (path body : List ℕ) (m n : ℕ) → IsSentBad path body m → IsSentBad path body n → m ≡ n
one_bad_place path body m n p q = let e : Err m ≡ Err n = sym (sent_bad_only path body m p) ∙ sent_bad_only path body n q in cc

-- ---- what a call returns

pub sent_read : (path body : List ℕ) (result : Result Request BodyFault) → GivesAt (λ r. r) result (request_sent path body) → IfOk result (IsSent path body)
sent_read path body (Ok r) h = sent_found path body r h
sent_read path body (Err e) h = tt

pub sent_fault : (path body : List ℕ) (result : Result Request BodyFault) → GivesAt (λ r. r) result (request_sent path body) → IfErr result (IsFault (IsSentBad path body))
sent_fault path body (Ok r) h = tt
sent_fault path body (Err (fault.BadBody n)) h = sent_bad path body n h
sent_fault path body (Err fault.NoMemory) h = tt

pub sent_sendable : (path body : List ℕ) (result : Result Request BodyFault) → GivesAt (λ r. r) result (request_sent path body) → IfOk result IsSendableRequest
sent_sendable path body (Ok r) h = sent_proper path body r h
sent_sendable path body (Err e) h = tt
