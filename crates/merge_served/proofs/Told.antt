-- A mark that a seat was told is that of an entry, and an entry's mark is that of one thread's reply.
use Rattle.std.proofs.Common.{◌≡◌, ◌+◌, ◌++◌, ◌==◌, ◌∷◌, ◌∙◌, [], Bool, List, ℕ, ap, arith, false, length, map, refl, subst, sym, true}
use Rattle.std.proofs.lemmas.Bool.{eqb-true}
use Rattle.std.proofs.lemmas.List.Elements.{All-contains, All-from_recursion}
use Rattle.merge_schema.specs.declared.publication.Publication.{Publication}
use Rattle.merge_model.specs.Tables.{PublisherTables}
use Rattle.merge_desk.proofs.Matching.{kept-of-another, kept-of-it}
use Rattle.merge_desk.proofs.OneThread.{head-of, tail-of}
use Rattle.merge_desk.specs.Comparing.{kept_marks}
use Rattle.merge_desk.specs.Marks.{mark_on}
use Rattle.merge_desk.specs.Replay.{answer_to, mark_in, marks_from, replay}
use Rattle.merge_desk.specs.Views.{SeatView}
use Rattle.merge_desk.specs.declared.entry.Entry.{Entry}
use Rattle.merge_desk.specs.declared.mark.Mark.{Mark}
use Rattle.merge_served.specs.Told.{RepliesAreOneThreads}

-- an entry of a seat with a mark
record Found (number : ℕ) (journal : List Entry) (m : Mark) : Type 0 where
  early : List Entry
  entry : Entry
  late : List Entry
  whole : journal ≡ early ++ entry ∷ late
  own : entry.seat ≡ number
  mark : entry.mark ≡ m

past : (number : ℕ) (x : Entry) (xs : List Entry) (m : Mark) → Found number xs m → Found number (x ∷ xs) m
past number x xs m f = record {
  early = x ∷ f.early;
  entry = f.entry;
  late = f.late;
  whole = ap (λ (l : List Entry). x ∷ l) f.whole;
  own = f.own;
  mark = f.mark;
}

none-before : (before after : List Mark) (m : Mark) → [] ≡ before ++ m ∷ after → ⊥
none-before [] after m e = cc e
none-before (k ∷ before) after m e = cc e

kept-by : (number : ℕ) (x : Entry) (xs : List Entry) (m : Mark) → ((before after : List Mark) → kept_marks number xs ≡ before ++ m ∷ after → Found number xs m)
    → (before after : List Mark) (b : Bool) → (x.seat == number) ≡ b → kept_marks number (x ∷ xs) ≡ before ++ m ∷ after → Found number (x ∷ xs) m
kept-by number x xs m more before after false is e = past number x xs m (more before after (sym (kept-of-another number x xs is) ∙ e))
kept-by number x xs m more [] after true is e =
    let here : x.mark ∷ kept_marks number xs ≡ m ∷ after = sym (kept-of-it number x xs is) ∙ e in record {
      early = [];
      entry = x;
      late = xs;
      whole = refl;
      own = eqb-true x.seat number is;
      mark = head-of here;
    }
kept-by number x xs m more (k ∷ before) after true is e =
    let here : x.mark ∷ kept_marks number xs ≡ k ∷ (before ++ m ∷ after) = sym (kept-of-it number x xs is) ∙ e in
    past number x xs m (more before after (tail-of here))

kept-in : (number : ℕ) (m : Mark) (journal : List Entry) (before after : List Mark) → kept_marks number journal ≡ before ++ m ∷ after → Found number journal m
kept-in number m [] before after e = absurd (none-before before after m e)
kept-in number m (x ∷ xs) before after e = kept-by number x xs m (λ b a h. kept-in number m xs b a h) before after (x.seat == number) refl e

marks-at : (publication : Publication) (p : PublisherTables) (place : ℕ) (early : List Entry) (e : Entry) (late : List Entry) → map mark_in (early ++ e ∷ late) ≡ marks_from publication p place (early ++ e ∷ late)
    → e.mark ≡ mark_on (place + length early) e.moment e.request (answer_to publication (replay publication p early) e).1
marks-at publication p place [] e late same =
    let here : place ≡ place + 0 = omega arith in
    head-of same ∙ ap (λ (n : ℕ). mark_on n e.moment e.request (answer_to publication p e).1) here
marks-at publication p place (x ∷ early) e late same =
    let there : place + 1 + length early ≡ place + length (x ∷ early) = omega arith in
    marks-at publication (answer_to publication p x).0 (place + 1) early e late (tail-of same)
    ∙ ap (λ (n : ℕ). mark_on n e.moment e.request (answer_to publication (replay publication (answer_to publication p x).0 early) e).1) there

pub told-as-one : RepliesAreOneThreads
told-as-one publication says opening now journal kept seats told s there before after place moment asked answer e =
    let own : s.told ≡ kept_marks s.number journal =
    All-contains (λ (t : SeatView). t.told ≡ kept_marks t.number journal) seats s (All-from_recursion (λ (t : SeatView). t.told ≡ kept_marks t.number journal) seats told) there in
    let f : Found s.number journal (mark_on place moment asked answer) = kept-in s.number (mark_on place moment asked answer) journal before after (sym own ∙ e) in
    let marks : map mark_in (f.early ++ f.entry ∷ f.late) ≡ marks_from publication opening 1 (f.early ++ f.entry ∷ f.late) =
    subst (λ (l : List Entry). map mark_in l ≡ marks_from publication opening 1 l) f.whole kept.marks in
    let same : mark_on (1 + length f.early) f.entry.moment f.entry.request (answer_to publication (replay publication opening f.early) f.entry).1 ≡ mark_on place moment asked answer =
    sym (marks-at publication opening 1 f.early f.entry f.late marks) ∙ f.mark in
    let placed : 1 + length f.early ≡ place = ap (λ (k : Mark). k.place) same in record {
      early = f.early;
      entry = f.entry;
      late = f.late;
      whole = f.whole;
      own = f.own;
      placed = omega (arith, placed);
      moment = ap (λ (k : Mark). k.moment) same;
      requested = ap (λ (k : Mark). k.asked) same;
      replied = ap (λ (k : Mark). k.digest) same;
    }
