-- A pass over an upload's items does what the acts of the model do.
use Rattle.std.specs.List.{cons_option, fold}
use Rattle.std.specs.Option.{option_to_list}
use Rattle.std.specs.Prelude.{◌≡◌, ◌++◌, ◌+◌, ◌∷◌, ℕ, Bool, true, false, List, [], Option, Some, None, filter, filter_map, if◌then◌else◌, length, map, refl, unwrap_or, slice_index}
use Rattle.std.proofs.Common.{arith, sym, ap, ◌∙◌, subst, append_assoc, append-nil, length-append}
use Rattle.std.proofs.lemmas.List.Elements.{filter_map-append}
use Rattle.merge_types.specs.declared.identifiers.Moment.{Moment}
use Rattle.merge_types.specs.declared.row_key.RowKey.{RowKey as Key}
use Rattle.merge_units.specs.Cases.{case_of, is_conflict}
use Rattle.merge_units.specs.declared.case.Case.{Case}
use Rattle.merge_units.specs.declared.result.Decision.{Decision}
use Rattle.merge_units.specs.declared.result.Decision.TheVariants.{KeepPublisher}
use Rattle.merge_units.specs.declared.site_row.PublisherRow.{PublisherRow}
use Rattle.merge_units.specs.declared.version.Version.{Version}
use Rattle.merge_conflict.specs.declared.row.ConflictRow.{ConflictRow}
use Rattle.merge_resolve.specs.Asked.{tallies_after, tallies_after_question}
use Rattle.merge_resolve.specs.Questions.{question_asked, question_of as asked_of}
use Rattle.merge_resolve.specs.declared.asking.Question.{Question}
use Rattle.merge_schema.specs.declared.publication.Publication.{Publication}
use Rattle.merge_batch.specs.declared.request.Upload.{Upload}
use Rattle.merge_batch.specs.declared.request.UploadItem.{UploadItem}
use Rattle.merge_conflict.specs.Losers.{publisher_site}
use Rattle.merge_model.specs.Publisher.Acts.{Act, Fate, Met, New, Unknown, act_of, asked_at, meeting_of, question_of, without_first, acts_from, changes_by, decision_for, fate_by, key_of_item, left_by, lost_by, lost_from, made_by, version_of_act, versions_of}
use Rattle.merge_model.specs.Judge.ByNumbers.{by_numbers}
use Rattle.merge_model.specs.Tables.Keys.{row_at}
use Rattle.merge_model.specs.Publisher.{at_moment, later}
use Rattle.merge_model.specs.World.Steps.{kept_decisions}
use Rattle.merge_model.specs.Tables.{PublisherTables}
use Rattle.merge_model.specs.World.{Saying}
use Rattle.merge_pub.specs.Uploaded.{arrival_of}
use Rattle.merge_steps.specs.Uploading.{Pass, act_at, acts_in, after_act, after_item, after_items, decided_by, decision_on, fate_at, is_made_by, pass_at, question_at, question_in, questions_in, tallies_on, with_act}
use Rattle.merge_steps.specs.declared.acting.Acting.{Acting}
use Rattle.merge_steps.specs.declared.acting.Arrival.{Arrival}

-- One decision.

no-decision : (case : Case) → is_conflict case ≡ false → (decisions : List Decision) → decision_for case decisions ≡ KeepPublisher
no-decision case not [] = refl
no-decision case not (decision ∷ decisions) = ap (λ (b : Bool). (let d : Decision = if b then decision else KeepPublisher in d)) not

-- the decision on the first question is that of the first conflict
first-decision : (case : Case) (b : Bool) → is_conflict case ≡ b → (question : Question) (says : Saying) (tallies : List ℕ) (questions : List Question)
    → decision_for case (kept_decisions says tallies (option_to_list (let q : Option Question = if b then Some question else None in q) ++ questions)) ≡ decision_on says tallies (let q : Option Question = if b then Some question else None in q)
first-decision case true is question says tallies questions =
    ap (λ (c : Bool). (let d : Decision = if c then decision_on says tallies (Some question) else KeepPublisher in d)) is
first-decision case false is question says tallies questions = no-decision case is (kept_decisions says tallies questions)

-- and the decisions on the others are left
rest-decisions : (case : Case) (b : Bool) → is_conflict case ≡ b → (question : Question) (says : Saying) (tallies : List ℕ) (questions : List Question)
    → (let q : Option Question = if b then Some question else None in let all : List Decision = kept_decisions says tallies (option_to_list q ++ questions) in (let left : List Decision = if is_conflict case then without_first all else all in left) ≡ kept_decisions says (tallies_on tallies q) questions)
rest-decisions case true is question says tallies questions =
    ap (λ (c : Bool). (let all : List Decision = kept_decisions says tallies (question ∷ questions) in let left : List Decision = if c then without_first all else all in left)) is
rest-decisions case false is question says tallies questions =
    ap (λ (c : Bool). (let all : List Decision = kept_decisions says tallies questions in let left : List Decision = if c then without_first all else all in left)) is

-- One item, of the tables before.

module _ (publication : Publication) (now : Moment) (m : Upload) (p : PublisherTables) (says : Saying) where
  abbrev arrival : Arrival
  arrival = arrival_of now m p

  abbrev the_question : UploadItem → PublisherRow → Question
  the_question item held = question_asked (meeting_of publication (by_numbers p) m.site (later now p.latest) (key_of_item item) held.version item.version) (asked_at publication item.article) held.version.body item.version.body (case_of held.version item.version)

  fate-same : (tallies : List ℕ) (number : ℕ) (item : UploadItem) (held : Option PublisherRow) (questions : List Question)
      → fate_by (by_numbers p) m.site number (kept_decisions says tallies (option_to_list (question_at publication arrival item held) ++ questions)) item held ≡ fate_at publication arrival says tallies number item held
  fate-same tallies number item None questions = refl
  fate-same tallies number item (Some held) questions =
      let case : Case = case_of held.version item.version in
      ap (λ (decision : Decision). Met held.version case decision (record { site = publisher_site; number = number }))
      (first-decision case (is_conflict case) refl (the_question item held) says tallies questions)

  left-same : (tallies : List ℕ) (number : ℕ) (item : UploadItem) (held : Option PublisherRow) (questions : List Question)
      → left_by (fate_at publication arrival says tallies number item held) (kept_decisions says tallies (option_to_list (question_at publication arrival item held) ++ questions))
      ≡ kept_decisions says (tallies_on tallies (question_at publication arrival item held)) questions
  left-same tallies number item None questions = by-made (is_made_by arrival (key_of_item item))
    where
      by-made : (b : Bool) → left_by (let f : Fate = if b then New else Unknown in f) (kept_decisions says tallies questions) ≡ kept_decisions says tallies questions
      by-made true = refl
      by-made false = refl
  left-same tallies number item (Some held) questions =
      let case : Case = case_of held.version item.version in
      rest-decisions case (is_conflict case) refl (the_question item held) says tallies questions

  -- The acts of an item and of those behind it.

  abbrev model_acts : ℕ → List ℕ → List Question → List UploadItem → List Act
  model_acts number tallies questions items = acts_from (by_numbers p) m.site (at_moment now p) number (kept_decisions says tallies questions) items

  abbrev act_here : List ℕ → ℕ → UploadItem → Act
  act_here tallies number item = act_at publication arrival says tallies number item (row_at p.rows (key_of_item item))

  acts-cons : (tallies : List ℕ) (number : ℕ) (item : UploadItem) (items : List UploadItem) (questions : List Question)
      → (let q : Option Question = question_at publication arrival item (row_at p.rows (key_of_item item)) in
      model_acts number tallies (option_to_list q ++ questions) (item ∷ items) ≡ act_here tallies number item ∷ model_acts (number + made_by (act_here tallies number item).fate) (tallies_on tallies q) questions items)
  acts-cons tallies number item items questions =
      let held : Option PublisherRow = row_at p.rows (key_of_item item) in
      let q : Option Question = question_at publication arrival item held in
      let ds : List Decision = kept_decisions says tallies (option_to_list q ++ questions) in
      ap (λ (fate : Fate). record { key = key_of_item item; incoming = item.version; fate = fate } ∷ acts_from (by_numbers p) m.site (at_moment now p) (number + made_by fate) (left_by fate ds) items) (fate-same tallies number item held questions)
      ∙ ap (λ (left : List Decision). act_here tallies number item ∷ acts_from (by_numbers p) m.site (at_moment now p) (number + made_by (act_here tallies number item).fate) left items) (left-same tallies number item held questions)

  -- What acts leave behind what is there.

  abbrev pub decisions_of : List Act → List Decision
  decisions_of acts = filter_map (λ (act : Act). decided_by act.fate) acts

  abbrev pub with_acts_from : Acting → List Act → Acting
  with_acts_from s acts = let lost = lost_from publication m.site (later now p.latest) (s.conflict_count + 1) acts in record {
    versions = s.versions ++ versions_of acts;
    acted = s.acted ++ map (λ (act : Act). act.key) acts;
    lost = s.lost ++ lost;
    decisions = s.decisions ++ decisions_of acts;
    changes = s.changes + changes_by acts;
    conflict_count = s.conflict_count + length lost;
  }

  onto-cons : {X Y : Type 0} (f : X → Option Y) (x : X) (xs : List X) → filter_map f (x ∷ xs) ≡ option_to_list (f x) ++ filter_map f xs
  onto-cons f x xs = filter_map-append f (x ∷ []) xs ∙ ap (λ ys. ys ++ filter_map f xs) (one f x)
    where
      one : {X Y : Type 0} (f : X → Option Y) (x : X) → filter_map f (x ∷ []) ≡ option_to_list (f x)
      one f x = by (f x)
        where
          by : {Y : Type 0} (o : Option Y) → (let ys : List Y = cons_option o [] in ys) ≡ option_to_list o
          by None = refl
          by (Some y) = refl

  acting-same : (a b c : List (Key × Version)) (ka kb : List Key) (la lb : List ConflictRow) (da db : List Decision) (na nb ca cb : ℕ) → a ≡ b → ka ≡ kb → la ≡ lb → da ≡ db → na ≡ nb → ca ≡ cb
      → (let one : Acting = record { versions = a; acted = ka; lost = la; decisions = da; changes = na; conflict_count = ca } in let other : Acting = record { versions = b; acted = kb; lost = lb; decisions = db; changes = nb; conflict_count = cb } in one ≡ other)
  acting-same a b c ka kb la lb da db na nb ca cb versions acted lost decisions changes count = cc

  acts-onto : (s : Acting) (act : Act) (acts : List Act) → with_acts_from (with_act publication arrival act s) acts ≡ with_acts_from s (act ∷ acts)
  acts-onto s act acts =
      let rows : List ConflictRow = lost_by publication m.site (later now p.latest) (s.conflict_count + 1) act act.fate in
      let rest : List ConflictRow = lost_from publication m.site (later now p.latest) (s.conflict_count + 1 + length rows) acts in
      let place : s.conflict_count + length rows + 1 ≡ s.conflict_count + 1 + length rows = omega arith in
      let same : lost_from publication m.site (later now p.latest) (s.conflict_count + length rows + 1) acts ≡ rest = ap (λ (n : ℕ). lost_from publication m.site (later now p.latest) n acts) place in
      acting-same _ _ [] _ _ _ _ _ _ _ _ _ _
      (append_assoc s.versions (option_to_list (version_of_act act)) (versions_of acts) ∙ ap (λ (vs : List (Key × Version)). s.versions ++ vs) (sym (onto-cons version_of_act act acts)))
      (append_assoc s.acted (act.key ∷ []) (map (λ (a : Act). a.key) acts))
      (ap (λ (more : List ConflictRow). (s.lost ++ rows) ++ more) same ∙ append_assoc s.lost rows rest)
      (append_assoc s.decisions (option_to_list (decided_by act.fate)) (decisions_of acts) ∙ ap (λ (ds : List Decision). s.decisions ++ ds) (sym (onto-cons (λ (a : Act). decided_by a.fate) act acts)))
      (omega arith)
      (ap (λ (more : List ConflictRow). s.conflict_count + length rows + length more) same ∙ omega (arith, length-append rows rest))

  acts-none : (s : Acting) → s ≡ with_acts_from s []
  acts-none s = acting-same _ _ [] _ _ _ _ _ _ _ _ _ _ (sym (append-nil s.versions)) (sym (append-nil s.acted)) (sym (append-nil s.lost)) (sym (append-nil s.decisions)) (omega arith) (omega arith)

  asked-onto : (tallies : List ℕ) (q : Option Question) (questions : List Question) → tallies_after (tallies_on tallies q) (map asked_of questions) ≡ tallies_after tallies (map asked_of (option_to_list q ++ questions))
  asked-onto tallies None questions = refl
  asked-onto tallies (Some question) questions = refl

  -- All items.

  abbrev the_questions : List UploadItem → List Question
  the_questions items = questions_in publication p.rows arrival items

  abbrev model_pass : Acting → List ℕ → List Question → List UploadItem → Pass
  model_pass s tallies questions items = pass_at (with_acts_from s (model_acts (s.changes + 1) tallies questions items)) (tallies_after tallies (map asked_of questions))

  abbrev goes_on : Acting → List ℕ → List UploadItem → Type 0
  goes_on s tallies items = fold (after_item publication p.rows arrival says) (pass_at s tallies) items ≡ model_pass s tallies (the_questions items) (filter (acts_in arrival) items)

  acted-item : (s : Acting) (tallies : List ℕ) (item : UploadItem) (items : List UploadItem)
      → (let held : Option PublisherRow = row_at p.rows (key_of_item item) in let q : Option Question = question_at publication arrival item held in
      let next : Pass = after_act publication arrival says (pass_at s tallies) item held in
      goes_on next.acting next.tallies items → fold (after_item publication p.rows arrival says) next items ≡ model_pass s tallies (option_to_list q ++ the_questions items) (item ∷ filter (acts_in arrival) items))
  acted-item s tallies item items goes =
      let held : Option PublisherRow = row_at p.rows (key_of_item item) in
      let q : Option Question = question_at publication arrival item held in
      let act : Act = act_here tallies (s.changes + 1) item in
      let others : List UploadItem = filter (acts_in arrival) items in
      let next : Acting = with_act publication arrival act s in
      let place : next.changes + 1 ≡ s.changes + 1 + made_by act.fate = omega arith in
      let acts : List Act = model_acts (s.changes + 1 + made_by act.fate) (tallies_on tallies q) (the_questions items) others in
      goes
      ∙ ap (λ (n : ℕ). pass_at (with_acts_from next (model_acts n (tallies_on tallies q) (the_questions items) others)) (tallies_after (tallies_on tallies q) (map asked_of (the_questions items)))) place
      ∙ ap (λ (a : Acting). pass_at a (tallies_after (tallies_on tallies q) (map asked_of (the_questions items)))) (acts-onto s act acts)
      ∙ ap (λ (ts : List ℕ). pass_at (with_acts_from s (act ∷ acts)) ts) (asked-onto tallies q (the_questions items))
      ∙ ap (λ (acted : List Act). pass_at (with_acts_from s acted) (tallies_after tallies (map asked_of (option_to_list q ++ the_questions items)))) (sym (acts-cons tallies (s.changes + 1) item others (the_questions items)))

  pass-item : (b : Bool) (s : Acting) (tallies : List ℕ) (item : UploadItem) (items : List UploadItem) → acts_in arrival item ≡ b
      → ((t : Acting) (ts : List ℕ) → goes_on t ts items) → goes_on s tallies (item ∷ items)
  pass-item false s tallies item items is goes =
      rw (onto-cons (question_in publication p.rows arrival) item items, is) (goes s tallies)
  pass-item true s tallies item items is goes =
      let held : Option PublisherRow = row_at p.rows (key_of_item item) in
      let next : Pass = after_act publication arrival says (pass_at s tallies) item held in
      rw (onto-cons (question_in publication p.rows arrival) item items, is) (acted-item s tallies item items (goes next.acting next.tallies))

  pub passes : (items : List UploadItem) (s : Acting) (tallies : List ℕ) → goes_on s tallies items
  passes [] s tallies = ap (λ (a : Acting). pass_at a tallies) (acts-none s)
  passes (item ∷ items) s tallies = pass-item (acts_in arrival item) s tallies item items refl (passes items)

  -- the pass is that of the model
  pub passed : (items : List UploadItem) (s : Acting) (tallies : List ℕ) → after_items publication p.rows arrival says (pass_at s tallies) items ≡ model_pass s tallies (the_questions items) (filter (acts_in arrival) items)
  unfolding after_items
  passed items s tallies = passes items s tallies

  questions-item : (item : UploadItem) (items : List UploadItem) → the_questions items ≡ filter_map (question_of publication (by_numbers p) m.site (at_moment now p)) (filter (acts_in arrival) items) → (b : Bool) → acts_in arrival item ≡ b
      → the_questions (item ∷ items) ≡ filter_map (question_of publication (by_numbers p) m.site (at_moment now p)) (filter (acts_in arrival) (item ∷ items))
  questions-item item items rest true is = rw is (ap (cons_option (question_at publication arrival item (row_at p.rows (key_of_item item)))) rest)
  questions-item item items rest false is = rw is rest

  -- and so are the questions
  pub questions-same : (items : List UploadItem) → the_questions items ≡ filter_map (question_of publication (by_numbers p) m.site (at_moment now p)) (filter (acts_in arrival) items)
  questions-same [] = refl
  questions-same (item ∷ items) = questions-item item items (questions-same items) (acts_in arrival item) refl
