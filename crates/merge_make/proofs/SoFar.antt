-- What happened so far of the script, and what is told of it.
use Rattle.std.proofs.Common.{List, [], ap, append_assoc, arith, cond, count_by, inl, inr, length, map, refl, subst, sym, ℕ, ◌+◌, ◌++◌, ◌<◌, ◌^◌, ◌∙◌, ◌∷◌, ◌≡◌}
use Rattle.std.proofs.lemmas.Grind.{flat_map-append}
use Rattle.std.proofs.lemmas.List.{append-nil, length-append, length-map, map_push}
use Rattle.std.proofs.lemmas.List.Sums.{count_by-le-length, sum_by_push}
use Rattle.std.specs.List.{flat_map, zip}
use Rattle.std.specs.Iterator.{YieldsFirstBy}
use Rattle.std.specs.Prelude.{Err, None, Ok, OnErr, OnOk, Option, Result, Some, unwrap_or}
use Rattle.merge_model.specs.declared.answer.Answer.{Answer}
use Rattle.merge_model.specs.declared.event.Event.{Event}
use Rattle.merge_world.specs.Happenings.{Happened, seconds_of}
use Rattle.merge_world.specs.Playing.{AllHappened}
use Rattle.merge_world.specs.Views.{HandedView, IsOrdered, SitesView}
use Rattle.merge_world.proofs.Playings.{and-then, nothing-yet, ordered-behind}
use Rattle.merge_make.specs.Publication.{made_publication}
use Rattle.merge_make.specs.Rest.{rest}
use Rattle.merge_make.specs.Runs.{MadeInPart, StepDone, StepInPart, Summed}
use Rattle.merge_make.specs.Script.{script}
use Rattle.merge_make.specs.Steps.{event_of}
use Rattle.merge_make.specs.Summary.{answer_text, is_refusal, made_line, shown_in_summary, shown_of}
use Rattle.merge_make.specs.declared.script.Script.{Script}
use Rattle.merge_make.specs.declared.step.Step.{Step}
use Rattle.merge_make.specs.declared.step.Step.TheVariants as step
use Rattle.merge_make.specs.declared.tally.Tally.{Tally}
use Rattle.merge_make.proofs.Parts.{few-events}

pub record SoFar (customers : ℕ) (left : List Event) (first now : SitesView) (before after : HandedView) (tally : Tally) : Type 0 where
  pub events : List Event
  pub split : script customers ≡ events ++ left
  pub answers : List Answer
  pub paired : length events ≡ length answers
  pub happened : AllHappened events first now before after answers
  pub moment : now.moment.0 ≡ first.moment.0
  pub refusals : tally.refusals ≡ count_by is_refusal (map answer_text answers)
  pub reports : tally.reports ≡ flat_map shown_of (zip events (map answer_text answers))

-- no step moves the moment
still : (s : Step) → seconds_of (event_of s) ≡ 0
still (step.Customer place) = refl
still (step.Order place) = refl
still (step.Credit place) = refl
still (step.Clear place) = refl
still (step.Cancel place) = refl
still (step.Move place) = refl
still (step.Sync at) = refl
still (step.Upload at) = refl
still (step.Count at) = refl
still (step.Conflicts at) = refl

zip-more : {X Y : Type 0} (xs : List X) (ys : List Y) (x : X) (y : Y) → length xs ≡ length ys → zip (xs ++ x ∷ []) (ys ++ y ∷ []) ≡ zip xs ys ++ (x, y) ∷ []
zip-more [] [] x y is = refl
zip-more [] (b ∷ ys) x y is = absurd (omega (arith, is))
zip-more (a ∷ xs) [] x y is = absurd (omega (arith, is))
zip-more (a ∷ xs) (b ∷ ys) x y is = ap (λ (l : List (_ × _)). (a, b) ∷ l) (zip-more xs ys x y (omega (arith, is)))

pub so-far-at-start : (customers : ℕ) (left : List Event) (first : SitesView) (before : HandedView) (tally : Tally) → left ≡ script customers → tally.refusals ≡ 0 → tally.reports ≡ [] → SoFar customers left first first before before tally
so-far-at-start customers left first before tally whole none nothing = record {
  events = [];
  split = sym whole;
  answers = [];
  paired = refl;
  happened = nothing-yet first before;
  moment = refl;
  refusals = none;
  reports = nothing;
}

module _ (customers : ℕ) (step : Step) (left more : List Event) (first u v : SitesView) (k g h : HandedView) (was now : Tally) where
  -- one step more
  pub so-far-more : left ≡ event_of step ∷ more → SoFar customers left first u k g was → StepDone step u v g h was now → SoFar customers more first v k h now
  so-far-more next s done = record {
    events = s.events ++ event_of step ∷ [];
    split = s.split ∙ ap (λ (l : List Event). s.events ++ l) next ∙ sym (append_assoc s.events (event_of step ∷ []) more);
    answers = s.answers ++ done.answer ∷ [];
    paired = length-append s.events (event_of step ∷ []) ∙ ap (λ (n : ℕ). n + 1) s.paired ∙ sym (length-append s.answers (done.answer ∷ []));
    happened = and-then s.events first u v k g h s.answers (event_of step) done.answer s.happened done.happened;
    moment = let here = s.moment in let on = done.happened.moment in let no = still step in omega (arith, here, on, no);
    refusals = done.refusals ∙ ap (λ (n : ℕ). n + cond (is_refusal (answer_text done.answer)) 1 0) s.refusals ∙ sym (sum_by_push (λ (text : List ℕ). cond (is_refusal text) 1 0) (map answer_text s.answers) (answer_text done.answer)) ∙ ap (λ (l : List (List ℕ)). count_by is_refusal l) (sym (map_push answer_text s.answers done.answer));
    reports = done.reports ∙ ap (λ (l : List ℕ). l ++ shown_in_summary (event_of step) (answer_text done.answer)) s.reports ∙ sym one ∙ ap (λ (l : List (List ℕ)). flat_map shown_of (zip (s.events ++ event_of step ∷ []) l)) (sym (map_push answer_text s.answers done.answer));
  }
    where
      one : flat_map shown_of (zip (s.events ++ event_of step ∷ []) (map answer_text s.answers ++ answer_text done.answer ∷ [])) ≡ flat_map shown_of (zip s.events (map answer_text s.answers)) ++ shown_in_summary (event_of step) (answer_text done.answer)
      one =
          ap (λ (l : List (Event × List ℕ)). flat_map shown_of l) (zip-more s.events (map answer_text s.answers) (event_of step) (answer_text done.answer) (s.paired ∙ sym (length-map s.answers answer_text)))
          ∙ flat_map-append shown_of (zip s.events (map answer_text s.answers)) ((event_of step, answer_text done.answer) ∷ [])
          ∙ ap (λ (l : List ℕ). flat_map shown_of (zip s.events (map answer_text s.answers)) ++ l) (append-nil (shown_in_summary (event_of step) (answer_text done.answer)))

-- of the next step nothing was done, or its event happened
pub so-far-cut : (customers : ℕ) (step : Step) (left more : List Event) (first u v : SitesView) (k g h : HandedView) (tally : Tally) → left ≡ event_of step ∷ more → SoFar customers left first u k g tally
    → StepInPart step u v g h → MadeInPart customers first v k h
so-far-cut customers step left more first u v k g h tally next s (inl same) = record {
  events = s.events;
  more = left;
  split = s.split;
  answers = s.answers;
  happened = rw (same.0, same.1) s.happened;
}
so-far-cut customers step left more first u v k g h tally next s (inr (answer, done)) = record {
  events = s.events ++ event_of step ∷ [];
  more = more;
  split = s.split ∙ ap (λ (l : List Event). s.events ++ l) next ∙ sym (append_assoc s.events (event_of step ∷ []) more);
  answers = s.answers ++ answer ∷ [];
  happened = and-then s.events first u v k g h s.answers (event_of step) answer s.happened done;
}

-- what happened so far, where there is no summary of it
pub so-far-unsummed : {T E : Type 0} (r : Result T E) (customers : ℕ) (left : List Event) (first u : SitesView) (k g : HandedView) (tally : Tally) → SoFar customers left first u k g tally
    → OnErr r (MadeInPart customers first u k g)
so-far-unsummed (Ok text) customers left first u k g tally s = tt
so-far-unsummed (Err why) customers left first u k g tally s = record { events = s.events; more = left; split = s.split; answers = s.answers; happened = s.happened }

module _ (customers : ℕ) (left : List Event) (first u : SitesView) (k g : HandedView) (tally : Tally) (s : SoFar customers left first u k g tally) where
  pub so-far-ordered : IsOrdered first → IsOrdered u
  so-far-ordered ordered = ordered-behind s.events first u k g s.answers s.happened ordered

  pub so-far-made : first.publication ≡ made_publication → u.publication ≡ made_publication
  so-far-made is = s.happened.publication ∙ is

  -- few events are refused
  pub so-far-few : customers < 2 ^ 16 → tally.refusals < 2 ^ 32
  so-far-few small =
      let few = few-events customers small in
      let whole = ap (λ (l : List Event). length l) s.split ∙ length-append s.events left in
      let refusals = s.refusals in
      let least = count_by-le-length is_refusal (map answer_text s.answers) in
      let texts = length-map s.answers answer_text in
      let paired = s.paired in
      omega (arith, few, whole, refusals, least, texts, paired)

  -- the summary is that of all answers, where nothing is left
  pub so-far-done : left ≡ [] → (text : List ℕ) → text ≡ made_line customers (length (script customers)) tally.refusals ++ tally.reports → Summed customers first u k g text
  so-far-done none text is =
      let all : script customers ≡ s.events = s.split ∙ ap (λ (l : List Event). s.events ++ l) none ∙ append-nil s.events in
      record {
        answers = s.answers;
        happened = subst (λ (l : List Event). AllHappened l first u k g s.answers) (sym all) s.happened;
        told = is ∙ ap (λ (n : ℕ). made_line customers (length (script customers)) n ++ tally.reports) s.refusals
            ∙ ap (λ (l : List ℕ). made_line customers (length (script customers)) (count_by is_refusal (map answer_text s.answers)) ++ l) (s.reports ∙ ap (λ (l : List Event). flat_map shown_of (zip l (map answer_text s.answers))) (sym all));
      }

-- an event that happened was done, where its answer was added
pub step-done : {T E : Type 0} (r : Result T E) (s : Step) (e : Event) (u v : SitesView) (g h : HandedView) (was now : Tally) (answer : Answer) → e ≡ event_of s → Happened e u v g h answer
    → OnOk r (now.refusals ≡ was.refusals + cond (is_refusal (answer_text answer)) 1 0) → OnOk r (now.reports ≡ was.reports ++ shown_in_summary e (answer_text answer)) → OnOk r (StepDone s u v g h was now)
step-done (Ok done) s e u v g h was now answer is happened refusals reports = record {
  answer = answer;
  happened = subst (λ (x : Event). Happened x u v g h answer) is happened;
  refusals = refusals;
  reports = reports ∙ ap (λ (x : Event). was.reports ++ shown_in_summary x (answer_text answer)) is;
}
step-done (Err why) s e u v g h was now answer is happened refusals reports = tt

-- a step of which nothing was done
pub step-left : (s : Step) (u : SitesView) (g : HandedView) → StepInPart s u u g g
step-left s u g = inl (refl, refl)

-- the event happened, also where its answer was not added
pub step-in-part : {T E : Type 0} (r : Result T E) (s : Step) (e : Event) (u v : SitesView) (g h : HandedView) (answer : Answer) → e ≡ event_of s → Happened e u v g h answer → OnErr r (StepInPart s u v g h)
step-in-part (Ok done) s e u v g h answer is happened = tt
step-in-part (Err why) s e u v g h answer is happened = inr (answer, subst (λ (x : Event). Happened x u v g h answer) is happened)

-- what the script gives, and where it gives nothing more
pub one-more : (s t : Script) (o : Option Step) (x : Step) → o ≡ Some x → YieldsFirstBy event_of rest s o t → rest s ≡ event_of x ∷ rest t
one-more s t None x is gives = absurd (cc is)
one-more s t (Some y) x is gives = gives ∙ ap (λ (z : Option Step). event_of (unwrap_or z x) ∷ rest t) is

pub no-more : (s t : Script) (o : Option Step) → o ≡ None → YieldsFirstBy event_of rest s o t → rest s ≡ []
no-more s t None is gives = gives.0
no-more s t (Some y) is gives = absurd (cc is)
