-- Bodies of replies are read just by their forms.
use Rattle.std.proofs.Common.{◌≡◌, ◌∙◌, ℕ, zero, suc, List, Option, Some, None, Result, Ok, Err, refl, sym, ap}
use Rattle.std.specs.Prelude.{IfOk, IfErr}
use Rattle.serde_json.specs.Data.{Data}
use Rattle.merge_batch.specs.Heads.{answered_kind}
use Rattle.merge_batch.specs.declared.request.Kind.{Kind}
use Rattle.merge_batch.specs.declared.reply.Reply.{Reply}
use Rattle.merge_batch.specs.declared.reply.Reply.TheVariants as reply
use Rattle.merge_json.specs.declared.fault.BodyFault.{BodyFault}
use Rattle.merge_json.specs.declared.fault.BodyFault.TheVariants as fault
use Rattle.merge_json.specs.Reading.{placed}
use Rattle.merge_json.specs.Outcomes.{GivesAt}
use Rattle.merge_json.specs.Replies.{reply_at}
use Rattle.merge_json.specs.Bodies.{data_at, reply_of}
use Rattle.merge_json.specs.Sendable.{IsSendableReply}
use Rattle.merge_json.specs.ReplyForms.{IsReply}
use Rattle.merge_json.specs.Messages.{IsReplyButItems, IsAnswered, IsAnsweredBad, IsFault}
use Rattle.merge_json.proofs.Readers.{placed_ok}
use Rattle.merge_json.proofs.ProperMessages.{replied_proper}
use Rattle.merge_json.proofs.ReplyForms.{reply_found, reply_only, reply_rest, reply_bad, downloaded_bad_only}

pub answered_found : (asked : Kind) (body : List ℕ) (r : Reply) → reply_of asked body ≡ Ok r → IsAnswered asked body r
unfolding reply_of
answered_found asked body r e =
    let t = placed_ok 0 (data_at body) (reply_at asked) r e in
    let f = reply_found asked t.0 r t.2 in
    (f.0, (t.0, t.1, f.1))

answered_only : (asked : Kind) (body : List ℕ) (r : Reply) → IsAnswered asked body r → reply_of asked body ≡ Ok r
unfolding reply_of
answered_only asked body r is = rw (is.0, is.1.1) (reply_only is.1.0 r is.1.2)

pub answered_bad : (asked : Kind) (body : List ℕ) (n : ℕ) → reply_of asked body ≡ Err n → IsAnsweredBad asked body n
unfolding reply_of
answered_bad asked body zero e = λ r same tells.
    let split : reply_of asked body ≡ reply_at (answered_kind r) tells.0 = rw (same, tells.1) refl in
    reply_rest tells.0 r tells.2 (sym split ∙ e)
answered_bad asked body (suc n) e = by (data_at body) refl e
  where
    by : (o : Option Data) → data_at body ≡ o → placed 0 o (reply_at asked) ≡ Err (suc n) → IsAnsweredBad asked body (suc n)
    by None is f = absurd cc
    by (Some d) is f = let b = reply_bad asked d n f in (b.1, b.0, (d, is, (b.2, b.3)))

answered_bad_only : (asked : Kind) (body : List ℕ) (n : ℕ) → IsAnsweredBad asked body n → reply_of asked body ≡ Err n
unfolding reply_of
answered_bad_only asked body zero bad = by (reply_of asked body) refl
  where
    but_items : (d : Data) (r : Reply) → IsReply r d → IsReplyButItems r d
    but_items d (reply.Joined joined) is = is
    but_items d (reply.Uploaded uploaded) is = is
    but_items d (reply.Ranged ranged) is = is
    but_items d (reply.Downloaded downloaded) is = (is.head, (is.items.2.0, is.items.1 ∙ ap (λ (v : Data). Some v) is.items.2.1, tt))
    but_items d (reply.Refused n values) is = is

    by : (o : Result Reply ℕ) → reply_of asked body ≡ o → o ≡ Err 0
    by (Ok r) e = let is = answered_found asked body r e in absurd (bad r is.0 (is.1.0, is.1.1, but_items is.1.0 r is.1.2))
    by (Err zero) e = refl
    by (Err (suc n)) e = let is = answered_bad asked body (suc n) e in absurd (bad (reply.Downloaded is.0) is.1 (is.2.0, is.2.1, (is.2.2.0, (is.2.2.1.0, is.2.2.1.1, tt))))
answered_bad_only asked body (suc n) bad = rw (bad.1, bad.2.1) (downloaded_bad_only bad.2.0 bad.0 n bad.2.2.0 bad.2.2.1)

-- ---- a body is of one reply of a kind, or one place is bad

pub one_reply : (asked : Kind) (body : List ℕ) (r s : Reply) → IsAnswered asked body r → IsAnswered asked body s → r ≡ s
one_reply asked body r s p q = let e : Ok r ≡ Ok s = sym (answered_only asked body r p) ∙ answered_only asked body s q in cc

pub answered_or_bad : (asked : Kind) (body : List ℕ) (r : Reply) (n : ℕ) → IsAnswered asked body r → IsAnsweredBad asked body n → ⊥
answered_or_bad asked body r n p q = let e : Ok r ≡ Err n = sym (answered_only asked body r p) ∙ answered_bad_only asked body n q in absurd cc

pub one_bad_place : (asked : Kind) (body : List ℕ) (m n : ℕ) → IsAnsweredBad asked body m → IsAnsweredBad asked body n → m ≡ n
one_bad_place asked body m n p q = let e : Err m ≡ Err n = sym (answered_bad_only asked body m p) ∙ answered_bad_only asked body n q in cc

-- ---- what a call returns

pub answered_read : (asked : Kind) (body : List ℕ) (result : Result Reply BodyFault) → GivesAt (λ r. r) result (reply_of asked body) → IfOk result (IsAnswered asked body)
answered_read asked body (Ok r) h = answered_found asked body r h
answered_read asked body (Err e) h = tt

pub answered_fault : (asked : Kind) (body : List ℕ) (result : Result Reply BodyFault) → GivesAt (λ r. r) result (reply_of asked body) → IfErr result (IsFault (IsAnsweredBad asked body))
answered_fault asked body (Ok r) h = tt
answered_fault asked body (Err (fault.BadBody n)) h = answered_bad asked body n h
answered_fault asked body (Err fault.NoMemory) h = tt

pub answered_sendable : (asked : Kind) (body : List ℕ) (result : Result Reply BodyFault) → GivesAt (λ r. r) result (reply_of asked body) → IfOk result IsSendableReply
answered_sendable asked body (Ok r) h = replied_proper asked body r h
answered_sendable asked body (Err e) h = tt
