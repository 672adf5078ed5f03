-- What the lines of a script changed so far, and what may be said of it when they stop.
use Rattle.std.proofs.Common.{◌≡◌, inl, inr, List, [], ◌∷◌, ◌++◌, take, length, refl, sym, append_assoc, ◌∙◌, ap, ◌+◌, arith, subst, map, true, false, Bool, if◌then◌else◌, Result, Err, Ok}
use Rattle.std.proofs.lemmas.List.{append-nil, map-append}
use Rattle.std.proofs.lemmas.Grind.{flat_map-append}
use Rattle.std.proofs.Math.Seq.{take-length, take-append-add}
use Rattle.std.specs.declared.option.Option.{Option}
use Rattle.std.specs.Prelude.{OnErr, Some, None, ℕ}
use Rattle.std.specs.Io.KnownBytes.{Appends}
use Rattle.merge_types.specs.declared.identifiers.Moment.{Moment}
use Rattle.merge_types.specs.declared.identifiers.SiteId.{SiteId}
use Rattle.merge_link.specs.Moments.{Moments}
use Rattle.merge_ports.specs.Parts.{AppendsFront}
use Rattle.merge_ports.proofs.Known.{Appends-append}
use Rattle.merge_script.specs.Lines.{lines_of}
use Rattle.merge_schema.specs.declared.publication.Publication.{Publication}
use Rattle.merge_model.specs.Script.Play.{names_of}
use Rattle.merge_model.specs.Script.Reading.{line_of}
use Rattle.merge_model.specs.Script.Text.{Names, text_of, texts_of}
use Rattle.merge_model.specs.declared.answer.Answer.{Answer}
use Rattle.merge_model.specs.declared.event.Event.{Event}
use Rattle.merge_model.specs.declared.event.Line.{Line}
use Rattle.merge_model.specs.declared.event.Line.TheVariants.{Quiet, Event as Does, NoEvent}
use Rattle.merge_world.proofs.Shows.{nobody}
use Rattle.merge_world.specs.Views.{IsOrdered, SitesView}
use Rattle.merge_command.specs.Changed.{Changed, ChangedInPart, IsSilent, LineAnswered, LineInPart}
use Rattle.merge_command.specs.Clocked.{AllHappenedAt, AreTold, EventIsTaken, TimedEvent, event_of, moment_of}
use Rattle.merge_command.specs.Taken.{halt_by, halt_from, halt_of, is_taken, taken_of}
use Rattle.merge_command.specs.declared.stop.Stop.{Stop}
use Rattle.merge_command.specs.declared.stop.Stop.TheVariants as stop
use Rattle.merge_command.proofs.Clocks.{and-then, nothing-yet, ordered-so, told-more}

-- the lines up to the rest are answered, and the sites are as they left them
pub record SoFar (here : SiteId) (lines rest : List (List ℕ)) (number : ℕ) (first now : SitesView) (began told : Option Moments) (was written : Option (List ℕ)) : Type 0 where
  pub timed : List TimedEvent
  pub split : taken_of here lines ≡ map event_of timed ++ taken_of here rest
  pub halt : halt_of here lines ≡ halt_from here number rest
  pub answers : List Answer
  pub happened : AllHappenedAt timed first now answers
  pub moments : AreTold (map moment_of timed) began told
  pub bytes : Appends was written (texts_of (names_of first.publication) answers)

-- the sites are still in their order
pub so-far-ordered : (here : SiteId) (lines rest : List (List ℕ)) (number : ℕ) (first now : SitesView) (began told : Option Moments) (was written : Option (List ℕ)) → SoFar here lines rest number first now began told was written → IsOrdered first → IsOrdered now
so-far-ordered here lines rest number first now began told was written s ordered = let h = s.happened in ordered-so first now h.publication h.sites h.publications ordered

pub Appends-nothing : (a : Option (List ℕ)) → Appends a a []
Appends-nothing None = tt
Appends-nothing (Some bytes) = sym (append-nil bytes)

texts-append : (names : Names) (answers : List Answer) (answer : Answer) → texts_of names (answers ++ answer ∷ []) ≡ texts_of names answers ++ text_of names answer
texts-append names answers answer = flat_map-append (text_of names) answers (answer ∷ []) ∙ ap (λ (x : List ℕ). texts_of names answers ++ x) (append-nil (text_of names answer))

pub so-far-at-start : (here : SiteId) (lines : List (List ℕ)) (v : SitesView) (k : Option Moments) (a : Option (List ℕ)) → SoFar here lines lines 1 v v k k a a
so-far-at-start here lines v k a = record {
  timed = [];
  split = refl;
  halt = refl;
  answers = [];
  happened = nothing-yet v;
  moments = refl;
  bytes = Appends-nothing a;
}

-- the bytes of one answer more
bytes-more : (p q : Publication) (answers : List Answer) (answer : Answer) (a b c : Option (List ℕ)) → q ≡ p → Appends a b (texts_of (names_of p) answers) → Appends b c (text_of (names_of q) answer)
    → Appends a c (texts_of (names_of p) (answers ++ answer ∷ []))
bytes-more p q answers answer a b c same so_far more =
    let here : Appends b c (text_of (names_of p) answer) = subst (λ (x : Publication). Appends b c (text_of (names_of x) answer)) same more in
    subst (λ (x : List ℕ). Appends a c x) (sym (texts-append (names_of p) answers answer)) (Appends-append a b c (texts_of (names_of p) answers) (text_of (names_of p) answer) so_far here)

-- and those of a front of it
bytes-front : (p q : Publication) (answers : List Answer) (answer : Answer) (n : ℕ) (a b c : Option (List ℕ)) → q ≡ p → Appends a b (texts_of (names_of p) answers) → Appends b c (take n (text_of (names_of q) answer))
    → Appends a c (take (length (texts_of (names_of p) answers) + n) (texts_of (names_of p) (answers ++ answer ∷ [])))
bytes-front p q answers answer n a b c same so_far more =
    let here : Appends b c (take n (text_of (names_of p) answer)) = subst (λ (x : Publication). Appends b c (take n (text_of (names_of x) answer))) same more in
    let whole : Appends a c (texts_of (names_of p) answers ++ take n (text_of (names_of p) answer)) = Appends-append a b c (texts_of (names_of p) answers) (take n (text_of (names_of p) answer)) so_far here in
    subst (λ (x : List ℕ). Appends a c x) (front (texts_of (names_of p) answers) (text_of (names_of p) answer) (texts_of (names_of p) (answers ++ answer ∷ [])) (texts-append (names_of p) answers answer)) whole
  where
    front : (xs ys zs : List ℕ) → zs ≡ xs ++ ys → xs ++ take n ys ≡ take (length xs + n) zs
    front xs ys zs e = sym (take-append-add xs ys n) ∙ ap (λ (l : List ℕ). take (length xs + n) l) (sym e)

-- what was done so far is a part
pub so-far-stops : (here : SiteId) (lines rest : List (List ℕ)) (number : ℕ) (first u v : SitesView) (began told later : Option Moments) (a b c : Option (List ℕ)) → SoFar here lines rest number first u began told a b → IsSilent u v told later b c → ChangedInPart here lines first v began later a c
so-far-stops here lines rest number first u v began told later a b c s idle = record {
  timed = s.timed;
  more = taken_of here rest;
  split = s.split;
  answers = s.answers;
  happened = rw idle.0.sites s.happened;
  moments = rw idle.0.clock s.moments;
  whole = s.answers;
  rest = [];
  parts = sym (append-nil s.answers);
  one = omega arith;
  count = length (texts_of (names_of first.publication) s.answers);
  enough = omega arith;
  bytes = rw (idle.1, take-length) s.bytes;
}

pub silent-here : (u : SitesView) (k : Option Moments) (a : Option (List ℕ)) → IsSilent u u k k a a
silent-here u k a = (record { sites = refl; clock = refl }, refl)

-- an event was taken, and its answer was written for the publication behind it
pub line-answered : (here : SiteId) (e : Event) (u v : SitesView) (k l : Option Moments) (answer : Answer) (p : Publication) (b c : Option (List ℕ)) → EventIsTaken here e u v k l answer → p ≡ v.publication
    → Appends b c (text_of (names_of p) answer) → LineAnswered here (Does e) u v k l b c
line-answered here e u v k l answer p b c took same more = (answer, took, subst (λ (x : Publication). Appends b c (text_of (names_of x) answer)) (same ∙ (took.happened nobody).publication) more)

pub line-in-part : (here : SiteId) (e : Event) (u v : SitesView) (k l : Option Moments) (answer : Answer) (p : Publication) (b c : Option (List ℕ)) → EventIsTaken here e u v k l answer → p ≡ v.publication
    → AppendsFront b c (text_of (names_of p) answer) → LineInPart here (Does e) u v k l b c
line-in-part here e u v k l answer p b c took same more = inr (answer, took, (more.0, subst (λ (x : Publication). Appends b c (take more.0 (text_of (names_of x) answer))) (same ∙ (took.happened nobody).publication) more.1))

module _ (here : SiteId) (lines : List (List ℕ)) (line : List ℕ) (rest : List (List ℕ)) (number : ℕ) (first u v : SitesView) (began k l : Option Moments) (a b c : Option (List ℕ)) where
  -- the events of the site up to one that is taken
  split-more : (timed : List TimedEvent) (e : Event) (moment : Moment) → is_taken here e ≡ true → line_of line ≡ Does e → taken_of here lines ≡ map event_of timed ++ taken_of here (line ∷ rest)
      → taken_of here lines ≡ map event_of (timed ++ (moment, e) ∷ []) ++ taken_of here rest
  split-more timed e moment own is split = rw (map-append, append_assoc) (rw (is, own) at split)

  halt-more : (e : Event) → is_taken here e ≡ true → line_of line ≡ Does e → halt_of here lines ≡ halt_from here number (line ∷ rest) → halt_of here lines ≡ halt_from here (number + 1) rest
  halt-more e own is halt = rw (is, own) at halt

  moments-more : (timed : List TimedEvent) (e : Event) (moment : Moment) → AreTold (map moment_of timed) began k → AreTold (moment ∷ []) k l → AreTold (map moment_of (timed ++ (moment, e) ∷ [])) began l
  moments-more timed e moment told more = rw map-append (told-more (map moment_of timed) began k l moment told more)

  -- one more line, which says this
  next : (said : Line) → line_of line ≡ said → SoFar here lines (line ∷ rest) number first u began k a b → LineAnswered here said u v k l b c → SoFar here lines rest (number + 1) first v began l a c
  next Quiet e s done = record {
    timed = s.timed;
    split = rw e at s.split;
    halt = rw e at s.halt;
    answers = s.answers;
    happened = rw done.0.sites s.happened;
    moments = rw done.0.clock s.moments;
    bytes = rw done.1 s.bytes;
  }
  next (Does event) e s (answer, took, written) = record {
    timed = s.timed ++ (took.moment, event) ∷ [];
    split = split-more s.timed event took.moment took.own e s.split;
    halt = halt-more event took.own e s.halt;
    answers = s.answers ++ answer ∷ [];
    happened = and-then s.timed first u v s.answers (took.moment, event) answer s.happened took.happened;
    moments = moments-more s.timed event took.moment s.moments took.clock;
    bytes = bytes-more first.publication u.publication s.answers answer a b c s.happened.publication s.bytes written;
  }
  next (NoEvent word) e s done = absurd done

  pub so-far-more : SoFar here lines (line ∷ rest) number first u began k a b → LineAnswered here (line_of line) u v k l b c → SoFar here lines rest (number + 1) first v began l a c
  so-far-more s done = next (line_of line) refl s done

  -- what the next line says was done in part, or not
  cut : (said : Line) → line_of line ≡ said → SoFar here lines (line ∷ rest) number first u began k a b → LineInPart here said u v k l b c → ChangedInPart here lines first v began l a c
  cut Quiet e s done = so-far-stops here lines (line ∷ rest) number first u v began k l a b c s done
  cut (NoEvent word) e s done = so-far-stops here lines (line ∷ rest) number first u v began k l a b c s done
  cut (Does event) e s (inl idle) = so-far-stops here lines (line ∷ rest) number first u v began k l a b c s idle
  cut (Does event) e s (inr (answer, took, written)) = record {
    timed = s.timed ++ (took.moment, event) ∷ [];
    more = taken_of here rest;
    split = split-more s.timed event took.moment took.own e s.split;
    answers = s.answers ++ answer ∷ [];
    happened = and-then s.timed first u v s.answers (took.moment, event) answer s.happened took.happened;
    moments = moments-more s.timed event took.moment s.moments took.clock;
    whole = s.answers;
    rest = answer ∷ [];
    parts = refl;
    one = omega arith;
    count = length (texts_of (names_of first.publication) s.answers) + written.0;
    enough = omega arith;
    bytes = bytes-front first.publication u.publication s.answers answer written.0 a b c s.happened.publication s.bytes written.1;
  }

  pub so-far-cut : SoFar here lines (line ∷ rest) number first u began k a b → LineInPart here (line_of line) u v k l b c → ChangedInPart here lines first v began l a c
  so-far-cut s done = cut (line_of line) refl s done

  -- and all before it is answered
  pub so-far-halted : (why : Stop) → halt_by here number (line_of line) None ≡ Some why → SoFar here lines (line ∷ rest) number first u began k a b → LineInPart here (line_of line) u v k l b c → Changed here lines first v began l a c
  so-far-halted why halts s part = by (line_of line) refl halts part
    where
      idle : taken_of here (line ∷ rest) ≡ [] → IsSilent u v k l b c → Changed here lines first v began l a c
      idle none i = record {
        timed = s.timed;
        events = sym (s.split ∙ (ap (λ (l : List Event). map event_of s.timed ++ l) none ∙ append-nil (map event_of s.timed)));
        answers = s.answers;
        happened = rw i.0.sites s.happened;
        moments = rw i.0.clock s.moments;
        bytes = rw i.1 s.bytes;
      }

      foreign : (e : Event) (own : Bool) → is_taken here e ≡ own → line_of line ≡ Does e → (if own then None else Some (stop.NotTaken number)) ≡ Some why → LineInPart here (Does e) u v k l b c → Changed here lines first v began l a c
      foreign e true own is halts part = absurd cc
      foreign e false own is halts (inl i) = idle (rw (is, own) refl) i
      foreign e false own is halts (inr (answer, took, written)) = let yes = took.own in absurd (cc (own, yes))

      by : (said : Line) → line_of line ≡ said → halt_by here number said None ≡ Some why → LineInPart here said u v k l b c → Changed here lines first v began l a c
      by Quiet is halts part = absurd cc
      by (Does e) is halts part = foreign e (is_taken here e) refl is halts part
      by (NoEvent word) is halts part = idle (rw is refl) part

module _ (here : SiteId) (lines : List (List ℕ)) (line : List ℕ) (rest : List (List ℕ)) (number : ℕ) (first u : SitesView) (began k : Option Moments) (a b : Option (List ℕ)) where
  -- the first line that is none of the site is this one
  pub so-far-halts : (why : Stop) → halt_by here number (line_of line) None ≡ Some why → SoFar here lines (line ∷ rest) number first u began k a b → halt_of here lines ≡ Some why
  so-far-halts why halts s = s.halt ∙ by (line_of line) halts
    where
      foreign : (own : Bool) (behind : Option Stop) → (if own then None else Some (stop.NotTaken number)) ≡ Some why → (if own then behind else Some (stop.NotTaken number)) ≡ Some why
      foreign true behind halts = absurd cc
      foreign false behind halts = halts

      by : (said : Line) → halt_by here number said None ≡ Some why → halt_by here number said (halt_from here (number + 1) rest) ≡ Some why
      by Quiet halts = absurd cc
      by (Does e) halts = foreign (is_taken here e) (halt_from here (number + 1) rest) halts
      by (NoEvent word) halts = halts

-- what holds at all holds of an error
pub on-err : {T E P : Type 0} (r : Result T E) → P → OnErr r P
on-err (Ok done) p = tt
on-err (Err fault) p = p

-- the line that is named
abbrev pub line-in : Result Unit Stop → ℕ
line-in (Err (stop.NotTaken line)) = line
line-in other = 0

-- all lines are answered, where nothing is left of the script
pub so-far-done : (here : SiteId) (lines : List (List ℕ)) (left : List ℕ) → length left ≡ 0 → (number : ℕ) (first u : SitesView) (k l : Option Moments) (a b : Option (List ℕ)) → SoFar here lines (lines_of left) number first u k l a b → Changed here lines first u k l a b
so-far-done here lines (byte ∷ left) none number first u k l a b s = absurd (omega (arith, none))
so-far-done here lines [] none number first u k l a b s =
    let split : taken_of here lines ≡ map event_of s.timed ++ [] = s.split in
    record { timed = s.timed; events = sym (rw append-nil at split); answers = s.answers; happened = s.happened; moments = s.moments; bytes = s.bytes }
