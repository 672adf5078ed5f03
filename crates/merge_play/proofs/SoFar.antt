-- What was played so far, and what may be said of it when the playing stops.
use Rattle.std.proofs.Common.{◌≡◌, ◌≤◌, ◌⊎◌, inl, inr, List, [], ◌∷◌, ◌++◌, take, length, refl, sym, append_assoc, ◌∙◌, ap, ◌+◌, arith, subst}
use Rattle.std.proofs.lemmas.List.{append-nil}
use Rattle.std.proofs.lemmas.Grind.{flat_map-append}
use Rattle.std.proofs.Math.Seq.{take-length, take-append-add}
use Rattle.std.specs.declared.option.Option.{Option}
use Rattle.std.specs.Prelude.{Some, None, Err, Result, true, ℕ}
use Rattle.std.specs.Io.KnownBytes.{Appends}
use Rattle.merge_ports.specs.Parts.{AppendsFront}
use Rattle.merge_ports.proofs.Known.{Appends-append}
use Rattle.merge_types.specs.declared.identifiers.SiteId.{SiteId}
use Rattle.merge_script.specs.Lines.{lines_of}
use Rattle.merge_schema.specs.declared.publication.Publication.{Publication}
use Rattle.merge_batch.specs.declared.refusal.Refusal.{Refusal}
use Rattle.merge_batch.specs.declared.refusal.Refusal.TheVariants.{Damaged}
use Rattle.merge_model.specs.Script.Play.{names_of}
use Rattle.merge_model.specs.Script.Reading.{events_of, fault_by, fault_from, fault_of, line_of}
use Rattle.merge_model.specs.Script.Text.{Names, text_of, texts_of}
use Rattle.merge_model.specs.World.Events.{is_site}
use Rattle.merge_model.specs.World.{Saying, World}
use Rattle.merge_model.specs.declared.answer.Answer.{Answer}
use Rattle.merge_model.specs.declared.event.Event.{Event}
use Rattle.merge_model.specs.declared.event.Event.TheVariants.{Restart}
use Rattle.merge_model.specs.declared.event.Line.{Line}
use Rattle.merge_model.specs.declared.event.Line.TheVariants.{Quiet, Event as Does, NoEvent}
use Rattle.merge_world.specs.Happenings.{Comes, Happened}
use Rattle.merge_world.specs.Playing.{AllHappened}
use Rattle.merge_world.specs.Restarts.{IsLost}
use Rattle.merge_world.specs.Resuming.{EndsRun}
use Rattle.merge_world.specs.Views.{HandedView, IsOrdered, SitesView, world_of}
use Rattle.merge_world.proofs.Playings.{and-then, nothing-yet, ordered-behind}
use Rattle.merge_play.specs.declared.stop.Stop.{Stop}
use Rattle.merge_play.specs.declared.stop.Stop.TheVariants as stop
use Rattle.merge_play.specs.Played.{LineAnswered, LineEnds, LineInPart, Played, PlayedInPart, PlayedToRestart}

-- the lines up to the rest are answered, and the sites are as they left them
pub record SoFar (lines rest : List (List ℕ)) (number : ℕ) (first now : SitesView) (before after : HandedView) (was written : Option (List ℕ)) : Type 0 where
  pub events : List Event
  pub split : events_of lines ≡ events ++ events_of rest
  pub fault : fault_of lines ≡ fault_from number rest
  pub answers : List Answer
  pub happened : AllHappened events first now before after answers
  pub bytes : Appends was written (texts_of (names_of first.publication) answers)

-- the sites are still in their order
pub so-far-ordered : (lines rest : List (List ℕ)) (number : ℕ) (first now : SitesView) (before after : HandedView) (was written : Option (List ℕ)) → SoFar lines rest number first now before after was written → IsOrdered first → IsOrdered now
so-far-ordered lines rest number first now before after was written s ordered = ordered-behind s.events first now before after s.answers s.happened ordered

-- faults are only counted up
pub rises-by : (p : Publication) (says : Saying) (w v : World) (e : Event) (answer : Answer) (a b : ℕ) → Comes p says w e v answer a b → a ≤ b
unfolding Comes
rises-by p says w v e answer a b comes = let few = comes.few in omega (arith, few)

Appends-nothing : (a : Option (List ℕ)) → Appends a a []
Appends-nothing None = tt
Appends-nothing (Some bytes) = sym (append-nil bytes)

texts-append : (names : Names) (answers : List Answer) (answer : Answer) → texts_of names (answers ++ answer ∷ []) ≡ texts_of names answers ++ text_of names answer
texts-append names answers answer = flat_map-append (text_of names) answers (answer ∷ []) ∙ ap (λ (x : List ℕ). texts_of names answers ++ x) (append-nil (text_of names answer))

pub so-far-at-start : (lines : List (List ℕ)) (v : SitesView) (h : HandedView) (a : Option (List ℕ)) → SoFar lines lines 1 v v h h a a
so-far-at-start lines v h a = record {
  events = [];
  split = refl;
  fault = refl;
  answers = [];
  happened = nothing-yet v h;
  bytes = Appends-nothing a;
}

-- the bytes of one answer more
bytes-more : (p q : Publication) (answers : List Answer) (answer : Answer) (a b c : Option (List ℕ)) → q ≡ p → Appends a b (texts_of (names_of p) answers) → Appends b c (text_of (names_of q) answer)
    → Appends a c (texts_of (names_of p) (answers ++ answer ∷ []))
bytes-more p q answers answer a b c same so_far more =
    let here : Appends b c (text_of (names_of p) answer) = subst (λ (x : Publication). Appends b c (text_of (names_of x) answer)) same more in
    subst (λ (x : List ℕ). Appends a c x) (sym (texts-append (names_of p) answers answer)) (Appends-append a b c (texts_of (names_of p) answers) (text_of (names_of p) answer) so_far here)

-- and those of a front of it
bytes-front : (p q : Publication) (answers : List Answer) (answer : Answer) (n : ℕ) (a b c : Option (List ℕ)) → q ≡ p → Appends a b (texts_of (names_of p) answers) → Appends b c (take n (text_of (names_of q) answer))
    → Appends a c (take (length (texts_of (names_of p) answers) + n) (texts_of (names_of p) (answers ++ answer ∷ [])))
bytes-front p q answers answer n a b c same so_far more =
    let here : Appends b c (take n (text_of (names_of p) answer)) = subst (λ (x : Publication). Appends b c (take n (text_of (names_of x) answer))) same more in
    let whole : Appends a c (texts_of (names_of p) answers ++ take n (text_of (names_of p) answer)) = Appends-append a b c (texts_of (names_of p) answers) (take n (text_of (names_of p) answer)) so_far here in
    subst (λ (x : List ℕ). Appends a c x) (front (texts_of (names_of p) answers) (text_of (names_of p) answer) (texts_of (names_of p) (answers ++ answer ∷ [])) (texts-append (names_of p) answers answer)) whole
  where
    front : (xs ys zs : List ℕ) → zs ≡ xs ++ ys → xs ++ take n ys ≡ take (length xs + n) zs
    front xs ys zs e = sym (take-append-add xs ys n) ∙ ap (λ (l : List ℕ). take (length xs + n) l) (sym e)

-- what was answered so far is a front, where nothing was done since
pub so-far-stops : (lines rest : List (List ℕ)) (number : ℕ) (first u v : SitesView) (k g h : HandedView) (a b c : Option (List ℕ)) → v ≡ u → h ≡ g → c ≡ b → SoFar lines rest number first u k g a b
    → PlayedInPart lines first v k h a c
so-far-stops lines rest number first u v k g h a b c stay still same s = record {
  events = s.events;
  more = events_of rest;
  split = s.split;
  answers = s.answers;
  last = v;
  happened = rw (stay, still) s.happened;
  left = inl refl;
  few = omega arith;
  whole = s.answers;
  rest = [];
  parts = sym (append-nil s.answers);
  one = omega arith;
  count = length (texts_of (names_of first.publication) s.answers);
  enough = omega arith;
  bytes = rw (same, take-length) s.bytes;
}

-- an event that happened was answered, where its answer was written for the publication behind it
pub line-answered : (e : Event) (u v : SitesView) (g h : HandedView) (answer : Answer) (p : Publication) (b c : Option (List ℕ)) → Happened e u v g h answer → p ≡ v.publication
    → Appends b c (text_of (names_of p) answer) → LineAnswered (Does e) u v g h b c
line-answered e u v g h answer p b c done same more = (answer, done, subst (λ (x : Publication). Appends b c (text_of (names_of x) answer)) (same ∙ done.publication) more)

pub line-in-part : (e : Event) (u v : SitesView) (g h : HandedView) (answer : Answer) (p : Publication) (b c : Option (List ℕ)) → Happened e u v g h answer → p ≡ v.publication
    → (c ≡ b) ⊎ AppendsFront b c (text_of (names_of p) answer) → LineInPart (Does e) u v g h b c
line-in-part e u v g h answer p b c done same (inl nothing) = inr (inr (answer, done, (0, subst (λ (x : Option (List ℕ)). Appends b x []) (sym nothing) (Appends-nothing b))))
line-in-part e u v g h answer p b c done same (inr more) = inr (inr (answer, done, (more.0, subst (λ (x : Publication). Appends b c (take more.0 (text_of (names_of x) answer))) (same ∙ done.publication) more.1)))

-- a line of which nothing was done
pub line-left : (said : Line) (u : SitesView) (g : HandedView) (b : Option (List ℕ)) → LineInPart said u u g g b b
line-left Quiet u g b = (refl, refl, refl)
line-left (NoEvent word) u g b = (refl, refl, refl)
line-left (Does event) u g b = inl (refl, refl, refl)

module _ (lines : List (List ℕ)) (line : List ℕ) (rest : List (List ℕ)) (number : ℕ) (first u v : SitesView) (k g h : HandedView) (a b c : Option (List ℕ)) where
  -- one more line, which says this
  next : (said : Line) → line_of line ≡ said → SoFar lines (line ∷ rest) number first u k g a b → LineAnswered said u v g h b c → SoFar lines rest (number + 1) first v k h a c
  next Quiet e s done = record {
    events = s.events;
    split = rw e at s.split;
    fault = rw e at s.fault;
    answers = s.answers;
    happened = rw (done.0, done.1) s.happened;
    bytes = rw done.2 s.bytes;
  }
  next (Does event) e s done = record {
    events = s.events ++ event ∷ [];
    split = rw append_assoc (rw e at s.split);
    fault = rw e at s.fault;
    answers = s.answers ++ done.0 ∷ [];
    happened = and-then s.events first u v k g h s.answers event done.0 s.happened done.1;
    bytes = bytes-more first.publication u.publication s.answers done.0 a b c s.happened.publication s.bytes done.2;
  }
  next (NoEvent word) e s done = absurd done

  pub so-far-more : SoFar lines (line ∷ rest) number first u k g a b → LineAnswered (line_of line) u v g h b c → SoFar lines rest (number + 1) first v k h a c
  so-far-more s done = next (line_of line) refl s done

  -- the answer to the next line was written in part, or not
  cut : (said : Line) → line_of line ≡ said → u.faults ≤ v.faults → SoFar lines (line ∷ rest) number first u k g a b → LineInPart said u v g h b c → PlayedInPart lines first v k h a c
  cut Quiet e le s done = so-far-stops lines (line ∷ rest) number first u v k g h a b c done.0 done.1 done.2 s
  cut (NoEvent word) e le s done = so-far-stops lines (line ∷ rest) number first u v k g h a b c done.0 done.1 done.2 s
  cut (Does event) e le s (inl done) = so-far-stops lines (line ∷ rest) number first u v k g h a b c done.0 done.1 done.2 s
  cut (Does event) e le s (inr (inl done)) =
      let split : events_of lines ≡ s.events ++ event ∷ events_of rest = rw e at s.split in
      record {
        events = s.events;
        more = event ∷ events_of rest;
        split = split;
        answers = s.answers;
        last = u;
        happened = rw done.2 s.happened;
        left = inr (event, events_of rest, done.0, refl, done.1);
        few = le;
        whole = s.answers;
        rest = [];
        parts = sym (append-nil s.answers);
        one = omega arith;
        count = length (texts_of (names_of first.publication) s.answers);
        enough = omega arith;
        bytes = rw (done.3, take-length) s.bytes;
      }
  cut (Does event) e le s (inr (inr done)) = record {
    events = s.events ++ event ∷ [];
    more = events_of rest;
    split = rw append_assoc (rw e at s.split);
    answers = s.answers ++ done.0 ∷ [];
    last = v;
    happened = and-then s.events first u v k g h s.answers event done.0 s.happened done.1;
    left = inl refl;
    few = omega arith;
    whole = s.answers;
    rest = done.0 ∷ [];
    parts = refl;
    one = omega arith;
    count = length (texts_of (names_of first.publication) s.answers) + done.2.0;
    enough = omega arith;
    bytes = bytes-front first.publication u.publication s.answers done.0 done.2.0 a b c s.happened.publication s.bytes done.2.1;
  }

  pub so-far-cut : u.faults ≤ v.faults → SoFar lines (line ∷ rest) number first u k g a b → LineInPart (line_of line) u v g h b c → PlayedInPart lines first v k h a c
  so-far-cut le s done = cut (line_of line) refl le s done

  -- the lines before one that is no event are answered
  wrong : (said : Line) (word : ℕ) → line_of line ≡ said → said ≡ NoEvent word → SoFar lines (line ∷ rest) number first u k g a b → LineInPart said u v g h b c → Played lines first v k h a c
  wrong Quiet word e is s done = absurd cc
  wrong (Does event) word e is s done = absurd cc
  wrong (NoEvent other) word e is s done =
      let split : events_of lines ≡ s.events ++ [] = rw e at s.split in
      record { answers = s.answers; happened = rw (done.0, done.1, split, append-nil) s.happened; bytes = rw done.2 s.bytes }

  pub so-far-wrong : (word : ℕ) → line_of line ≡ NoEvent word → SoFar lines (line ∷ rest) number first u k g a b → LineInPart (line_of line) u v g h b c → Played lines first v k h a c
  so-far-wrong word is s done = wrong (line_of line) word refl is s done

  pub so-far-fault : (word : ℕ) → line_of line ≡ NoEvent word → SoFar lines (line ∷ rest) number first u k g a b → fault_of lines ≡ Some (number, word)
  so-far-fault word is s = s.fault ∙ ap (λ (said : Line). fault_by number said (fault_from (number + 1) rest)) is

-- a line that says an event which ended the run
pub line-ends : (said : Line) (e : Event) → said ≡ Does e → (u v : SitesView) (why : Refusal) (b c : Option (List ℕ)) → EndsRun e u v why → c ≡ b → LineEnds said u v why b c
line-ends said e is u v why b c ends same = subst (λ (x : Line). LineEnds x u v why b c) (sym is) (ends, same)

module _ (line : List ℕ) (u v : SitesView) (b c : Option (List ℕ)) where
  -- a line that ends the run loses a site
  lost : (said : Line) (why : Refusal) → LineEnds said u v why b c → IsLost why u.faults v.faults
  lost Quiet why done = absurd done
  lost (NoEvent word) why done = absurd done
  lost (Does event) why done = done.0.lost

  pub line-lost : (why : Refusal) → LineEnds (line_of line) u v why b c → IsLost why u.faults v.faults
  line-lost why done = lost (line_of line) why done

  module _ (lines rest : List (List ℕ)) (number : ℕ) (first : SitesView) (k g : HandedView) (a : Option (List ℕ)) where
    module _ (IsDamaged : SiteId → ℕ → List ℕ → Type 0) (q : Result Unit Stop) (faults : ℕ) (why : Refusal)
        (damaged : (site : SiteId) (table : ℕ) (key : List ℕ) → line_of line ≡ Does (Restart site) → q ≡ Err (stop.Ended (Damaged table key)) → IsDamaged site table key) (met : q ≡ Err (stop.Ended why)) (le : u.faults ≤ faults) where
      -- a record of its site is damaged, where that is told
      damaged-there : (site : SiteId) → line_of line ≡ Does (Restart site) → (table : ℕ) (key : List ℕ) → why ≡ Damaged table key → IsDamaged site table key
      damaged-there site e table key same = damaged site table key e (met ∙ ap (λ (r : Refusal). (let x : Result Unit Stop = Err (stop.Ended r) in x)) same)

      -- the lines before it are answered, and it says a restart
      ended : (said : Line) → line_of line ≡ said → SoFar lines (line ∷ rest) number first u k g a b → LineEnds said u v why b c → IsLost why u.faults faults
          → (cut : PlayedToRestart lines first k why faults a c) × ((table : ℕ) (key : List ℕ) → why ≡ Damaged table key → IsDamaged cut.site table key) × ((tallies : List ℕ) → world_of v tallies ≡ world_of cut.last tallies)
      ended Quiet e s done gone = absurd done
      ended (NoEvent word) e s done gone = absurd done
      ended (Does event) e s done gone =
          let split : events_of lines ≡ s.events ++ event ∷ events_of rest = rw e at s.split in (
            record {
              events = s.events;
              site = done.0.site;
              more = events_of rest;
              split = split ∙ ap (λ (x : Event). s.events ++ x ∷ events_of rest) done.0.restarts;
              known = subst (λ (x : Publication). is_site x done.0.site ≡ true) s.happened.publication done.0.known;
              answers = s.answers;
              last = u;
              behind = g;
              happened = s.happened;
              few = le;
              lost = gone;
              bytes = subst (λ (x : Option (List ℕ)). Appends a x (texts_of (names_of first.publication) s.answers)) (sym done.1) s.bytes;
            },
            damaged-there done.0.site (e ∙ ap (λ (x : Event). Does x) done.0.restarts),
            done.0.same,
          )

      pub so-far-ends : SoFar lines (line ∷ rest) number first u k g a b → LineEnds (line_of line) u v why b c → IsLost why u.faults faults
          → (cut : PlayedToRestart lines first k why faults a c) × ((table : ℕ) (key : List ℕ) → why ≡ Damaged table key → IsDamaged cut.site table key) × ((tallies : List ℕ) → world_of v tallies ≡ world_of cut.last tallies)
      so-far-ends s done gone = ended (line_of line) refl s done gone

-- a stop for a refusal is for that one
abbrev refusal_in : Result Unit Stop → Refusal → Refusal
refusal_in (Err (stop.Ended why)) other = why
refusal_in r other = other

pub ended-as : (why met : Refusal) → (let r : Result Unit Stop = Err (stop.Ended why) in r) ≡ Err (stop.Ended met) → (let q : Result Answer Refusal = Err why in q) ≡ Err met
ended-as why met is = ap (λ (x : Refusal). (let q : Result Answer Refusal = Err x in q)) (ap (λ (r : Result Unit Stop). refusal_in r why) is)

-- a line says one event
abbrev event_in : Line → Event → Event
event_in (Does event) other = event
event_in said other = other

pub says-same : (said : Line) (e f : Event) → said ≡ Does e → said ≡ Does f → e ≡ f
says-same said e f one other = ap (λ (x : Line). event_in x e) (sym one ∙ other)

-- a loss is counted from before
pub lost-before : (why : Refusal) (a b c : ℕ) → a ≤ b → IsLost why b c → IsLost why a c
lost-before why a b c le (inl (is, rose)) = inl (is, omega (arith, le, rose))
lost-before why a b c le (inr (is, later)) = inr (is, omega (arith, le, later))

-- all lines are answered, where nothing is left of the script
pub so-far-done : (lines : List (List ℕ)) (left : List ℕ) → length left ≡ 0 → (number : ℕ) (first u : SitesView) (k g : HandedView) (a b : Option (List ℕ)) → SoFar lines (lines_of left) number first u k g a b → Played lines first u k g a b
so-far-done lines (byte ∷ left) none number first u k g a b s = absurd (omega (arith, none))
so-far-done lines [] none number first u k g a b s =
    let split : events_of lines ≡ s.events ++ [] = s.split in
    record { answers = s.answers; happened = rw (split, append-nil) s.happened; bytes = s.bytes }
