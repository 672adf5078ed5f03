-- What a journal has of its seats is what one thread tells them.
use Rattle.std.proofs.Common.{[], Bool, List, ap, false, map, refl, sym, true, ℕ, ◌+◌, ◌==◌, ◌∙◌, ◌∷◌, ◌≡◌}
use Rattle.std.specs.Prelude.{if◌then◌else◌}
use Rattle.merge_schema.specs.declared.publication.Publication.{Publication}
use Rattle.merge_model.specs.Tables.{PublisherTables}
use Rattle.merge_desk.specs.Comparing.{AllToldAsKept, kept_marks}
use Rattle.merge_desk.specs.Marks.{mark_on}
use Rattle.merge_desk.specs.OneThread.{AllToldAsOne, told_from}
use Rattle.merge_desk.specs.Replay.{answer_to, mark_in, marks_from}
use Rattle.merge_desk.specs.Views.{SeatView}
use Rattle.merge_desk.specs.declared.entry.Entry.{Entry}
use Rattle.merge_desk.specs.declared.mark.Mark.{Mark}
use Rattle.merge_desk.proofs.Matching.{kept-of-another, kept-of-it}

pub head-of : {x y : Mark} {xs ys : List Mark} → x ∷ xs ≡ y ∷ ys → x ≡ y
head-of e = cc e

pub tail-of : {x y : Mark} {xs ys : List Mark} → x ∷ xs ≡ y ∷ ys → xs ≡ ys
tail-of e = cc e

-- an entry is of the seat, or it is not
as-one : (seat : ℕ) (e : Entry) (es : List Entry) (mark : Mark) (marks : List Mark) → e.mark ≡ mark → kept_marks seat es ≡ marks
    → (b : Bool) → (e.seat == seat) ≡ b → kept_marks seat (e ∷ es) ≡ (if e.seat == seat then mark ∷ marks else marks)
as-one seat e es mark marks own rest true is =
    kept-of-it seat e es is ∙ ap (λ (m : Mark). m ∷ kept_marks seat es) own ∙ ap (λ (ms : List Mark). mark ∷ ms) rest
    ∙ sym (ap (λ (c : Bool). if c then mark ∷ marks else marks) is)
as-one seat e es mark marks own rest false is =
    kept-of-another seat e es is ∙ rest ∙ sym (ap (λ (c : Bool). if c then mark ∷ marks else marks) is)

pub kept-as-one : (publication : Publication) (p : PublisherTables) (place seat : ℕ) (es : List Entry) → map mark_in es ≡ marks_from publication p place es
    → kept_marks seat es ≡ told_from publication p place seat es
kept-as-one publication p place seat [] same = refl
kept-as-one publication p place seat (e ∷ es) same =
    let done = answer_to publication p e in
    let own : e.mark ≡ mark_on place e.moment e.request done.1 = head-of same in
    let rest : kept_marks seat es ≡ told_from publication done.0 (place + 1) seat es = kept-as-one publication done.0 (place + 1) seat es (tail-of same) in
    as-one seat e es (mark_on place e.moment e.request done.1) (told_from publication done.0 (place + 1) seat es) own rest (e.seat == seat) refl

pub all-as-one : (publication : Publication) (opening : PublisherTables) (journal : List Entry) → map mark_in journal ≡ marks_from publication opening 1 journal
    → (seats : List SeatView) → AllToldAsKept journal seats → AllToldAsOne publication opening journal seats
all-as-one publication opening journal marks [] told = tt
all-as-one publication opening journal marks (s ∷ seats) told =
    (told.0 ∙ kept-as-one publication opening 1 s.number journal marks, all-as-one publication opening journal marks seats told.1)
