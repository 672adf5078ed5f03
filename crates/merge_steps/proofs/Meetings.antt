-- An item meets the version that is held: questions, answers, and what they leave.
use Rattle.std.specs.List.{AllByRecursion}
use Rattle.std.specs.Option.{option_map_or, option_to_list}
use Rattle.std.specs.Prelude.{◌≡◌, ◌+◌, ◌++◌, ◌==◌, ◌∷◌, ◌<◌, ◌≤◌, ◌^◌, ℕ, zero, suc, Bool, true, false, List, [], Option, Some, None, filter_map, if◌then◌else◌, length, map, max, min, nat_le, option_map, refl, slice_get, slice_index, slice_set, take, unwrap_or, ◌-◌}
use Rattle.std.proofs.Common.{arith, sym, ap, ◌∙◌, subst}
use Rattle.std.proofs.lemmas.Bool.Decides.{nat_tests}
use Rattle.std.proofs.lemmas.List.{length-map}
use Rattle.merge_types.specs.declared.identifiers.Dot.{Dot}
use Rattle.merge_types.specs.declared.changes.Tracking.{Tracking}
use Rattle.merge_types.specs.declared.row_key.RowKey.{RowKey as Key}
use Rattle.merge_lineage.specs.Lineage.{IsAscending, greater, joined, knows, number_at, number_of, with_dot}
use Rattle.merge_lineage.proofs.Joined.{ascending-joined, joins-joined}
use Rattle.merge_lineage.proofs.Numbers.{number-with_dot}
use Rattle.merge_units.specs.Cases.{case_of, is_conflict}
use Rattle.merge_units.specs.Results.{FitsBodies, FitsDecision, IsNewWhereDecided, result_by, result_lineage}
use Rattle.merge_units.specs.Version.{HaveEqualCounts}
use Rattle.merge_units.specs.declared.case.Case.{Case}
use Rattle.merge_units.specs.declared.result.Decision.{Decision}
use Rattle.merge_units.specs.declared.result.Decision.TheVariants.{Custom, KeepPublisher, TakeSubscriber}
use Rattle.merge_units.specs.declared.version.Version.{Version}
use Rattle.merge_units.proofs.Fits.{fits_bodies}
use Rattle.merge_conflict.specs.Losers.{losing_rows}
use Rattle.merge_conflict.specs.declared.losers.Conflict.{Conflict}
use Rattle.merge_conflict.specs.declared.row.ConflictRow.{ConflictRow}
use Rattle.merge_resolve.specs.Asked.{says_at, tallies_after, tallies_after_question}
use Rattle.merge_resolve.specs.Counted.{counted_decision}
use Rattle.merge_resolve.specs.Questions.{Asked, asked_of, decision_for_question, question_asked, question_of as pair_of}
use Rattle.merge_resolve.specs.declared.asking.Question.{Question}
use Rattle.merge_resolve.specs.declared.case.ConflictCase.{ConflictCase}
use Rattle.merge_resolve.specs.declared.question.Meeting.{Meeting}
use Rattle.merge_schema.specs.Places.{article_at}
use Rattle.merge_schema.specs.Valid.{IsValid}
use Rattle.merge_schema.specs.declared.publication.Article.{Article}
use Rattle.merge_schema.specs.declared.publication.Publication.{Publication}
use Rattle.merge_batch.specs.Articles.{fits_article}
use Rattle.merge_batch.specs.LocalChanges.{tracking_at}
use Rattle.merge_batch.specs.declared.request.UploadItem.{UploadItem}
use Rattle.merge_model.specs.Publisher.Acts.{Fate, New, Unknown, asked_at, conflict_of, purged_row, decided_changes, key_of_item, meeting_of}
use Rattle.merge_model.specs.World.{Saying}
use Rattle.merge_steps.specs.Fits.{ItemFits, MayDecide}
use Rattle.merge_steps.specs.Keeps.{FitsHere}
use Rattle.merge_steps.specs.Uploading.{AskedSome, Grows, KeepsFits, Pass, after_act, is_made_by, by_lineages, decision_on, met_act, pass_at, question_met, row_with, tallies_on, with_act, with_parts}
use Rattle.merge_steps.specs.declared.acting.Acting.{Acting}
use Rattle.merge_steps.specs.declared.acting.Arrival.{Arrival}
use Rattle.merge_steps.proofs.DecidedRows.{may-count, may-keep}

-- A resolver that was not handed in.

none-past : {X : Type 0} (xs : List X) (k : ℕ) → length xs ≤ k → slice_get xs k ≡ None
none-past [] k past = refl
none-past (x ∷ xs) zero past = absurd (omega arith)
none-past (x ∷ xs) (suc k) past = none-past xs k (omega arith)

same-past : (xs : List ℕ) (k v : ℕ) → length xs ≤ k → slice_set xs k v ≡ xs
same-past [] k v past = refl
same-past (x ∷ xs) zero v past = absurd (omega arith)
same-past (x ∷ xs) (suc k) v past = ap (λ (ys : List ℕ). x ∷ ys) (same-past xs k v (omega arith))

pub raised-past : {X : Type 0} (tally : X → ℕ) (xs : List X) (k : ℕ) → length xs ≤ k → map tally xs ≡ tallies_after_question (map tally xs) k
raised-past tally xs k past = sym (same-past (map tally xs) k (min (slice_index (map tally xs) k + 1) (2 ^ 64 - 1)) (omega (arith, length-map xs tally)))

pub answered-past : {X : Type 0} (says : X → ℕ → ConflictCase → Decision) (xs : List X) (tallies : List ℕ) (q : Question) → length xs ≤ q.place → KeepPublisher ≡ decision_on (says_at says xs) tallies (Some q)
answered-past {X = X} says xs tallies q past =
    ap (λ (o : Option X). decision_for_question q (unwrap_or (option_map (λ x. says x (slice_index tallies q.place) q.case) o) KeepPublisher)) (sym (none-past xs q.place past))

-- one that was
pub answered-there : (says : Saying) (tallies : List ℕ) (q : Question) (raw d : Decision) → Some raw ≡ says q.place (slice_index tallies q.place) q.case → d ≡ counted_decision q.types q.identity q.sides q.case raw → d ≡ decision_on says tallies (Some q)
answered-there says tallies q raw d told is = is ∙ ap (λ (o : Option Decision). decision_for_question q (unwrap_or o KeepPublisher)) told

-- The question.

pub asked-same : (publication : Publication) (k : ℕ) (article : Article) → article_at publication k ≡ Some article → asked_at publication k ≡ asked_of article
asked-same publication k article is = rw is refl

pub question-none : (publication : Publication) (arrival : Arrival) (item : UploadItem) (held : Version) (case : Case) → case ≡ case_of held item.version → is_conflict case ≡ false → question_met publication arrival item held ≡ None
question-none publication arrival item held case is not =
    let here : is_conflict (case_of held item.version) ≡ false = subst (λ (c : Case). is_conflict c ≡ false) is not in
    rw here refl

abbrev pub meeting_on : Publication → Arrival → UploadItem → Version → Meeting
meeting_on publication arrival item held = meeting_of publication (by_lineages publication) arrival.site arrival.moment (key_of_item item) held item.version

abbrev pub the_question : Publication → Arrival → UploadItem → Version → Question
the_question publication arrival item held = question_asked (meeting_on publication arrival item held) (asked_at publication item.article) held.body item.version.body (case_of held item.version)

pub question-some : (publication : Publication) (arrival : Arrival) (item : UploadItem) (held : Version) (case : Case) → case ≡ case_of held item.version → is_conflict case ≡ true → question_met publication arrival item held ≡ Some (the_question publication arrival item held)
question-some publication arrival item held case is agrees =
    let here : is_conflict (case_of held item.version) ≡ true = subst (λ (c : Case). is_conflict c ≡ true) is agrees in
    rw here refl

pub question-made : (publication : Publication) (arrival : Arrival) (item : UploadItem) (held : Version) (case : Case) (article : Article) (meeting : Meeting) (q : Question) → article_at publication item.article ≡ Some article
    → case ≡ case_of held item.version → is_conflict case ≡ true → meeting ≡ meeting_on publication arrival item held → q ≡ question_asked meeting (asked_of article) held.body item.version.body case
    → Some q ≡ question_met publication arrival item held
question-made publication arrival item held case article meeting q found is agrees met made =
    ap Some (made
    ∙ ap (λ (a : Asked). question_asked meeting a held.body item.version.body case) (sym (asked-same publication item.article article found))
    ∙ ap (λ (m : Meeting). question_asked m (asked_at publication item.article) held.body item.version.body case) met
    ∙ ap (λ (c : Case). question_asked (meeting_on publication arrival item held) (asked_at publication item.article) held.body item.version.body c) is)
    ∙ sym (question-some publication arrival item held case is agrees)

-- a decision on it may be applied
pub answer-fits : (resolvers : ℕ) (publication : Publication) → IsValid resolvers publication → (arrival : Arrival) (item : UploadItem) (held : Version) (case : Case)
    → fits_article publication item.article held.body ≡ true → fits_article publication item.article item.version.body ≡ true → case ≡ case_of held item.version → is_conflict case ≡ true
    → (q : Question) → Some q ≡ question_met publication arrival item held → (says : Saying) (tallies : List ℕ) (d : Decision) → d ≡ decision_on says tallies (Some q) → MayDecide publication item.article held item.version d
answer-fits resolvers publication valid arrival item held case ours theirs is agrees q asked says tallies d told =
    let same : q ≡ the_question publication arrival item held = cc (asked ∙ question-some publication arrival item held case is agrees) in
    let here : is_conflict (case_of held item.version) ≡ true = subst (λ (c : Case). is_conflict c ≡ true) is agrees in
    let raw : Decision = unwrap_or (says q.place (slice_index tallies q.place) q.case) KeepPublisher in
    let counts : d ≡ decision_for_question (the_question publication arrival item held) raw = told ∙ ap (λ (p : Question). decision_for_question p raw) same in
    subst (MayDecide publication item.article held item.version) (sym counts) (may-count resolvers publication valid item.article held item.version ours theirs (meeting_on publication arrival item held) raw here)

-- How often resolvers were asked.

pub asked-none : (tallies : List ℕ) (questions : List Question) → AskedSome tallies tallies questions
asked-none tallies questions = (0, refl)

pub asked-one : (old new : List ℕ) (q : Question) (o : Option Question) → Some q ≡ o → new ≡ tallies_after_question old q.place → AskedSome old new (option_to_list o)
asked-one old new q o is raised_one = subst (λ (x : Option Question). AskedSome old new (option_to_list x)) is (1, raised_one)

pub tallies-one : (old new : List ℕ) (q : Question) (o : Option Question) → Some q ≡ o → new ≡ tallies_after_question old q.place → new ≡ tallies_on old o
tallies-one old new q o is raised_one = subst (λ (x : Option Question). new ≡ tallies_on old x) is raised_one

pub tallies-none : (old new : List ℕ) (o : Option Question) → o ≡ None → new ≡ old → new ≡ tallies_on old o
tallies-none old new o is same = subst (λ (x : Option Question). new ≡ tallies_on old x) (sym is) same

pub decision-none : (says : Saying) (tallies : List ℕ) (o : Option Question) → o ≡ None → KeepPublisher ≡ decision_on says tallies o
decision-none says tallies o is = subst (λ (x : Option Question). KeepPublisher ≡ decision_on says tallies x) (sym is) refl

pub decision-some : (says : Saying) (tallies : List ℕ) (q : Question) (o : Option Question) (d : Decision) → Some q ≡ o → d ≡ decision_on says tallies (Some q) → d ≡ decision_on says tallies o
decision-some says tallies q o d is told = subst (λ (x : Option Question). d ≡ decision_on says tallies x) is told

-- What loses.

pub losing-few : (conflict : Conflict) (held incoming : Version) (d : Decision) → length (losing_rows conflict held incoming d) ≤ 2
losing-few conflict held incoming KeepPublisher = omega arith
losing-few conflict held incoming TakeSubscriber = omega arith
losing-few conflict held incoming (Custom values) = omega arith

-- The publisher's numbers.

number-greater : (a b : Option ℕ) → unwrap_or (greater a b) 0 ≤ max (unwrap_or a 0) (unwrap_or b 0)
number-greater None None = omega arith
number-greater None (Some n) = omega arith
number-greater (Some m) None = omega arith
number-greater (Some m) (Some n) = omega arith

joined-number : (a b : List Dot) → IsAscending a → IsAscending b → number_of (joined a b) 0 ≤ max (number_of a 0) (number_of b 0)
joined-number a b rises other = rw (joins-joined a b rises other 0) (number-greater (number_at a 0) (number_at b 0))

dotted-number : (dots : List Dot) (dot : Dot) → IsAscending dots → number_of (with_dot dot dots) 0 ≤ max (number_of dots 0) dot.number
dotted-number dots dot rises =
    let one : number_of (dot ∷ []) 0 ≤ dot.number = elim (dot.site.0 == 0) as (λ b. unwrap_or (if b then Some dot.number else None) 0 ≤ dot.number) [ true ↦ omega arith | false ↦ omega arith ] in
    rw (number-with_dot dots rises dot 0) (omega (arith, number-greater (number_at dots 0) (number_at (dot ∷ []) 0), one))

pub new-dot : (held incoming : List Dot) (changes : ℕ) (d : Decision) (dot : Dot) → dot.site.0 ≡ 0 → dot.number ≡ changes + 1 → number_of held 0 ≤ changes → number_of incoming 0 ≤ changes → IsNewWhereDecided held incoming d dot
new-dot held incoming changes KeepPublisher dot site number here there = tt
new-dot held incoming changes TakeSubscriber dot site number here there = tt
new-dot held incoming changes (Custom values) dot site number here there =
    (unknown held here, unknown incoming there)
  where
    unknown : (dots : List Dot) → number_of dots 0 ≤ changes → knows dots dot ≡ false
    unknown dots below = rw site (grind (arith, nat_tests, number, below))

result-number : (held incoming : List Dot) (changes : ℕ) (d : Decision) (dot : Dot) → IsAscending held → IsAscending incoming → dot.number ≡ changes + 1 → number_of held 0 ≤ changes → number_of incoming 0 ≤ changes
    → number_of (result_lineage held incoming d dot) 0 ≤ changes + decided_changes d
result-number held incoming changes KeepPublisher dot ours theirs number here there = omega (arith, joined-number held incoming ours theirs)
result-number held incoming changes TakeSubscriber dot ours theirs number here there = omega (arith, joined-number held incoming ours theirs)
result-number held incoming changes (Custom values) dot ours theirs number here there =
    omega (arith, joined-number held incoming ours theirs, dotted-number (joined held incoming) dot (ascending-joined held incoming ours theirs))

-- What is there after the meeting.

pub grown : (old new : Acting) (key : Key) (version : Option (Key × Version)) (lost : List ConflictRow) (decided : Option Decision) (made : ℕ) → new ≡ with_parts old key version lost decided made → made ≤ 1 → length lost ≤ 2 → Grows old new
grown old new key version lost decided made is one two = subst (Grows old) (sym is) (record { changes = omega arith; one = omega arith; conflicts = omega arith; two = omega arith })

raise-fits : (publication : Publication) (low high : ℕ) (row : Key × Version) → low ≤ high → FitsHere publication low row → FitsHere publication high row
raise-fits publication low high row below fits = record { fits = fits.fits; known = omega (arith, fits.known) }

all-raised : (publication : Publication) (low high : ℕ) (versions : List (Key × Version)) → low ≤ high → AllByRecursion (FitsHere publication low) versions → AllByRecursion (FitsHere publication high) versions
all-raised publication low high [] below all = tt
all-raised publication low high (row ∷ versions) below all = (raise-fits publication low high row below all.0, all-raised publication low high versions below all.1)

all-pushed : (publication : Publication) (changes : ℕ) (versions : List (Key × Version)) (row : Key × Version) → AllByRecursion (FitsHere publication changes) versions → FitsHere publication changes row → AllByRecursion (FitsHere publication changes) (versions ++ row ∷ [])
all-pushed publication changes [] row all fits = (fits, tt)
all-pushed publication changes (one ∷ versions) row all fits = (all.0, all-pushed publication changes versions row all.1 fits)

pub kept-with : (publication : Publication) (old new : Acting) (key : Key) (version : Version) (lost : List ConflictRow) (decided : Option Decision) (made : ℕ) → new ≡ with_parts old key (Some (key, version)) lost decided made → FitsHere publication (old.changes + made) (key, version) → KeepsFits publication old new
kept-with publication old new key version lost decided made is fits =
    subst (KeepsFits publication old) (sym is) (λ all. all-pushed publication (old.changes + made) old.versions (key, version) (all-raised publication old.changes (old.changes + made) old.versions (omega arith) all) fits)

append-none : {X : Type 0} (xs : List X) → xs ++ [] ≡ xs
append-none [] = refl
append-none {X} (x ∷ xs) = ap (λ (ys : List X). x ∷ ys) (append-none xs)

pub kept-without : (publication : Publication) (old new : Acting) (key : Key) (lost : List ConflictRow) → new ≡ with_parts old key None lost None 0 → KeepsFits publication old new
kept-without publication old new key lost is =
    let count : old.changes ≡ old.changes + 0 = omega arith in
    subst (KeepsFits publication old) (sym is) (λ all. subst (λ (vs : List (Key × Version)). AllByRecursion (FitsHere publication (old.changes + 0)) vs) (sym (append-none old.versions)) (subst (λ (n : ℕ). AllByRecursion (FitsHere publication n) old.versions) count all))

-- the version that the row gets fits it
pub result-fits : (publication : Publication) (changes : ℕ) (item : UploadItem) (held version : Version) (case : Case) (d : Decision) (dot : Dot) → FitsHere publication changes (key_of_item item, held) → ItemFits publication changes item
    → IsAscending held.lineage → IsAscending item.version.lineage → case ≡ case_of held item.version → MayDecide publication item.article held item.version d → dot.number ≡ changes + 1
    → version ≡ result_by case held item.version d dot → FitsHere publication (changes + decided_changes d) (key_of_item item, version)
result-fits publication changes item held version case d dot ours theirs here there is may number made =
    let by_case : version ≡ result_by (case_of held item.version) held item.version d dot = made ∙ ap (λ (c : Case). result_by c held item.version d dot) is in
    subst (λ (v : Version). FitsHere publication (changes + decided_changes d) (key_of_item item, v)) (sym by_case)
    (record { fits = may.fits dot; known = result-number held.lineage item.version.lineage changes d dot here there number ours.known theirs.known })

pub met-fits : (publication : Publication) (item : UploadItem) (held : Version) (case : Case) (d : Decision) → case ≡ case_of held item.version → HaveEqualCounts held.body item.version.body → MayDecide publication item.article held item.version d → FitsBodies case held.body item.version.body d
met-fits publication item held case d is counts may = subst (λ (c : Case). FitsBodies c held.body item.version.body d) (sym is) (fits_bodies held item.version d counts may.decided)

-- the acting after the meeting
abbrev pub own_dot : Acting → Dot
own_dot old = record { site = record { 0 = 0 }; number = old.changes + 1 }

abbrev pub conflict_with : Arrival → UploadItem → Tracking → Acting → Conflict
conflict_with arrival item tracking old = record { number = old.conflict_count + 1; article = item.article; row = item.row; tracking = tracking; site = arrival.site; moment = arrival.moment }

abbrev lost_with : Case → Version → UploadItem → Decision → Conflict → List ConflictRow
lost_with case held item d conflict = if is_conflict case then losing_rows conflict held item.version d else []

abbrev decided_with : Case → Decision → Option Decision
decided_with case d = if is_conflict case then Some d else None

pub met-added : (publication : Publication) (arrival : Arrival) (item : UploadItem) (held version : Version) (case : Case) (d : Decision) (tracking : Tracking) (key : Key) (lost : List ConflictRow) (decided : Option Decision) (made : ℕ) (old new : Acting)
    → tracking ≡ tracking_at publication item.article → key ≡ key_of_item item → version ≡ result_by case held item.version d (own_dot old)
    → lost ≡ lost_with case held item d (conflict_with arrival item tracking old) → decided ≡ decided_with case d → made ≡ decided_changes d → new ≡ with_parts old key (Some (key, version)) lost decided made
    → new ≡ with_act publication arrival (met_act (old.changes + 1) item held case d) old
met-added publication arrival item held version case d tracking key lost decided made old new tracked keyed is loses keeps makes added =
    added
    ∙ ap (λ (k : Key). with_parts old k (Some (k, version)) lost decided made) keyed
    ∙ ap (λ (v : Version). with_parts old (key_of_item item) (Some (key_of_item item, v)) lost decided made) is
    ∙ ap (λ (rows : List ConflictRow). with_parts old (key_of_item item) (Some (key_of_item item, result_by case held item.version d (own_dot old))) rows decided made) (loses ∙ ap (λ (t : Tracking). lost_with case held item d (conflict_with arrival item t old)) tracked)
    ∙ ap (λ (o : Option Decision). with_parts old (key_of_item item) (Some (key_of_item item, result_by case held item.version d (own_dot old))) (lost_with case held item d (conflict_with arrival item (tracking_at publication item.article) old)) o made) keeps
    ∙ ap (λ (n : ℕ). with_parts old (key_of_item item) (Some (key_of_item item, result_by case held item.version d (own_dot old))) (lost_with case held item d (conflict_with arrival item (tracking_at publication item.article) old)) (decided_with case d) n) makes

pub met-kept : (publication : Publication) (item : UploadItem) (held version : Version) (case : Case) (d : Decision) (key : Key) (lost : List ConflictRow) (decided : Option Decision) (made : ℕ) (old new : Acting) → key ≡ key_of_item item → made ≡ decided_changes d
    → FitsHere publication old.changes (key_of_item item, held) → ItemFits publication old.changes item → IsAscending held.lineage → IsAscending item.version.lineage → case ≡ case_of held item.version → MayDecide publication item.article held item.version d
    → version ≡ result_by case held item.version d (own_dot old) → new ≡ with_parts old key (Some (key, version)) lost decided made → KeepsFits publication old new
met-kept publication item held version case d key lost decided made old new keyed makes ours theirs here there is may result added =
    let fits : FitsHere publication (old.changes + decided_changes d) (key_of_item item, version) = result-fits publication old.changes item held version case d (own_dot old) ours theirs here there is may refl result in
    kept-with publication old new key version lost decided made added
    (subst (λ (k : Key). FitsHere publication (old.changes + made) (k, version)) (sym keyed) (subst (λ (n : ℕ). FitsHere publication (old.changes + n) (key_of_item item, version)) (sym makes) fits))

pub meet-passed : (publication : Publication) (arrival : Arrival) (item : UploadItem) (held : Version) (case : Case) (d : Decision) (says : Saying) (tallies after : List ℕ) (old new : Acting) → case ≡ case_of held item.version
    → d ≡ decision_on says tallies (question_met publication arrival item held) → after ≡ tallies_on tallies (question_met publication arrival item held) → new ≡ with_act publication arrival (met_act (old.changes + 1) item held case d) old
    → pass_at new after ≡ after_act publication arrival says (pass_at old tallies) item (Some (row_with held))
meet-passed publication arrival item held case d says tallies after old new is told counted_on added =
    ap (λ (a : Acting). pass_at a after) (added
    ∙ ap (λ (c : Case). with_act publication arrival (met_act (old.changes + 1) item held c d) old) is
    ∙ ap (λ (x : Decision). with_act publication arrival (met_act (old.changes + 1) item held (case_of held item.version) x) old) told)
    ∙ ap (λ (ts : List ℕ). pass_at (with_act publication arrival (met_act (old.changes + 1) item held (case_of held item.version) (decision_on says tallies (question_met publication arrival item held))) old) ts) counted_on

-- A row that is not held.

abbrev with_fate : Publication → Arrival → UploadItem → Acting → List ℕ → Fate → Pass
with_fate publication arrival item old tallies fate = pass_at (with_act publication arrival (record { key = key_of_item item; incoming = item.version; fate = fate }) old) tallies

pub passed-new : (publication : Publication) (arrival : Arrival) (says : Saying) (tallies : List ℕ) (item : UploadItem) (old new : Acting) (version : Version) (lost : List ConflictRow) → is_made_by arrival (key_of_item item) ≡ true → lost ≡ [] → version ≡ item.version
    → new ≡ with_parts old (key_of_item item) (Some (key_of_item item, version)) lost None 0 → pass_at new tallies ≡ after_act publication arrival says (pass_at old tallies) item None
passed-new publication arrival says tallies item old new version lost made none copied added =
    ap (λ (a : Acting). pass_at a tallies) (added ∙ ap (λ (v : Version). with_parts old (key_of_item item) (Some (key_of_item item, v)) lost None 0) copied ∙ ap (λ (rows : List ConflictRow). with_parts old (key_of_item item) (Some (key_of_item item, item.version)) rows None 0) none)
    ∙ ap (λ (b : Bool). with_fate publication arrival item old tallies (let f : Fate = if b then New else Unknown in f)) (sym made)

pub passed-late : (publication : Publication) (arrival : Arrival) (says : Saying) (tallies : List ℕ) (item : UploadItem) (old new : Acting) (lost : List ConflictRow) → is_made_by arrival (key_of_item item) ≡ false
    → lost ≡ purged_row (old.conflict_count + 1) arrival.site arrival.moment (record { key = key_of_item item; incoming = item.version; fate = Unknown }) ∷ []
    → new ≡ with_parts old (key_of_item item) None lost None 0 → pass_at new tallies ≡ after_act publication arrival says (pass_at old tallies) item None
passed-late publication arrival says tallies item old new lost made purged added =
    ap (λ (a : Acting). pass_at a tallies) (added ∙ ap (λ (rows : List ConflictRow). with_parts old (key_of_item item) None rows None 0) purged)
    ∙ ap (λ (b : Bool). with_fate publication arrival item old tallies (let f : Fate = if b then New else Unknown in f)) (sym made)

-- where nothing conflicts
pub kept-when : (resolvers : ℕ) (publication : Publication) → IsValid resolvers publication → (item : UploadItem) (held : Version) → fits_article publication item.article held.body ≡ true → fits_article publication item.article item.version.body ≡ true
    → MayDecide publication item.article held item.version KeepPublisher
kept-when resolvers publication valid item held ours theirs = may-keep resolvers publication valid item.article held item.version ours theirs
