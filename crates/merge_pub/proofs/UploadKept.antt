-- The tables after an upload keep the rules.
use Rattle.std.specs.List.{AllByRecursion, list_any}
use Rattle.std.specs.Ordering.{nat_cmp}
use Rattle.std.specs.Prelude.{◌≡◌, ◌+◌, ◌++◌, ◌==◌, ◌∷◌, ◌<◌, ◌≤◌, ℕ, Bool, true, false, List, [], Option, Some, None, find, is_some, nat_lt, refl}
use Rattle.std.proofs.Common.{arith, sym, ap, ◌∙◌, subst}
use Rattle.std.proofs.lemmas.Bool.Decides.{nat_tests}
use Rattle.std.proofs.lemmas.List.Elements.{All-from_recursion}
use Rattle.merge_types.specs.declared.identifiers.Moment.{Moment}
use Rattle.merge_types.specs.declared.row_key.RowKey.{RowKey as Key}
use Rattle.merge_gens.specs.declared.sites.SiteState.{SiteState}
use Rattle.merge_conflict.specs.Rising.{AreRising}
use Rattle.merge_conflict.specs.declared.row.ConflictRow.{ConflictRow}
use Rattle.merge_conflict.specs.declared.table.ConflictPlan.{ConflictPlan}
use Rattle.merge_conflict.proofs.RisingRows.{go_on_above}
use Rattle.merge_schema.specs.Places.{is_subscription}
use Rattle.merge_schema.specs.declared.publication.Publication.{Publication}
use Rattle.merge_schema.specs.declared.publication.Subscription.{Subscription}
use Rattle.merge_table.specs.declared.edit.Edit.{Edit}
use Rattle.merge_table.specs.Edits.{rows_after_all}
use Rattle.merge_batch.specs.declared.request.Upload.{Upload}
use Rattle.merge_model.specs.Judge.ByNumbers.{by_numbers}
use Rattle.merge_model.specs.Publisher.Entries.{changed_by}
use Rattle.merge_model.specs.Tables.{PublisherTables}
use Rattle.merge_pub.specs.After.{after}
use Rattle.merge_units.specs.declared.version.Version.{Version}
use Rattle.merge_steps.specs.Keeps.{FitsHere, KeepsRules}
use Rattle.merge_pub.specs.Making.{IsMade, with_besides}
use Rattle.merge_steps.specs.Step.{Subscribes, changing}
use Rattle.merge_pub.specs.Uploaded.{IsActed, acted_tables, taken_tables, with_acting}
use Rattle.merge_steps.specs.Uploading.{sites_with}
use Rattle.merge_steps.specs.declared.acting.Acting.{Acting}
use Rattle.merge_steps.specs.declared.acting.Arrival.{Arrival}
use Rattle.merge_steps.specs.declared.changes.Besides.{Besides}
use Rattle.merge_steps.specs.declared.changes.Changes.{Changes}
use Rattle.merge_steps.proofs.Passing.{rows-raised}
use Rattle.merge_pub.proofs.UploadActed.{UpTo, both-up, raise-most}

found-head : {X : Type 0} (f : X → Bool) (x : X) (xs : List X) (b : Bool) → f x ≡ b → list_any f (x ∷ xs) ≡ true → (list_any f xs ≡ true → is_some (find f xs) ≡ true) → is_some (find f (x ∷ xs)) ≡ true
found-head f x xs true is any rest = rw is refl
found-head f x xs false is any rest = rw is (rest (rw is at any))

any-found : {X : Type 0} (f : X → Bool) (xs : List X) → list_any f xs ≡ true → is_some (find f xs) ≡ true
any-found f [] any = absurd (cc any)
any-found f (x ∷ xs) any = found-head f x xs (f x) refl any (any-found f xs)

-- the uploader subscribes
pub subscribed : (publication : Publication) (acted : List Key) (site : ℕ) → is_subscription publication site ≡ true → Subscribes publication acted site
subscribed publication acted site subscribes = λ key has. any-found (λ (subscription : Subscription). subscription.site.0 == site) publication.subscriptions subscribes

pub rising-on : (publication : Publication) (p : PublisherTables) (acting : Acting) → KeepsRules publication p → IsActed publication p acting → AreRising (p.conflicts ++ acting.lost)
rising-on publication p acting keeps acted =
    go_on_above p.conflict_count p.conflicts acting.lost keeps.rising (All-from_recursion (λ (row : ConflictRow). row.number ≤ p.conflict_count) p.conflicts keeps.conflicts) acted.rising

abbrev pub besides_with : Arrival → Acting → List (Edit ℕ SiteState) → ConflictPlan → Besides
besides_with arrival acting sites plan = record { changes = acting.changes; conflict_count = acting.conflict_count; latest = arrival.moment; sites = sites; conflicts = plan; grants = []; held = [] }

pub kept-acted : (publication : Publication) (p : PublisherTables) (arrival : Arrival) (acting : Acting) (sites : List (Edit ℕ SiteState)) (plan : ConflictPlan) → plan.rows ≡ acting.lost → KeepsRules publication p → IsActed publication p acting
    → KeepsRules publication (with_besides (besides_with arrival acting sites plan) p)
kept-acted publication p arrival acting sites plan lost keeps acted =
    record {
      rows = rows-raised publication p.changes acting.changes p.rows acted.changes keeps.rows;
      rising = rw lost (rising-on publication p acting keeps acted);
      conflicts = rw lost (both-up acting.conflict_count p.conflicts acting.lost (raise-most p.conflict_count acting.conflict_count p.conflicts acted.conflicts keeps.conflicts) acted.numbers);
      held = keeps.held;
      heard = keeps.heard;
    }

pub acted-made : (publication : Publication) (p : PublisherTables) (m : Upload) (arrival : Arrival) (acting : Acting) (sites : List (Edit ℕ SiteState)) (plan : ConflictPlan) (c : Changes) → plan.rows ≡ acting.lost → rows_after_all nat_cmp p.sites sites ≡ sites_with arrival m p.sites
    → IsMade publication (changing acting.versions acting.acted m.site.0) p (besides_with arrival acting sites plan) c → after c p ≡ acted_tables publication (by_numbers p) arrival m acting p
unfolding IsMade
acted-made publication p m arrival acting sites plan c lost edited made =
    sym (made (by_numbers p) (λ key site. refl))
    ∙ ap (λ (rows : List ConflictRow). changed_by publication (by_numbers p) (changing acting.versions acting.acted m.site.0) (record (with_besides (besides_with arrival acting sites plan) p) { conflicts = p.conflicts ++ rows })) lost
    ∙ ap (λ (states : List (ℕ × SiteState)). changed_by publication (by_numbers p) (changing acting.versions acting.acted m.site.0) (record (with_acting arrival m acting p) { sites = states })) edited

-- an upload with news, and one without
pub taken-news : (publication : Publication) (p p' : PublisherTables) (m : Upload) (arrival : Arrival) (acting : Acting) → arrival.received < m.to → p' ≡ acted_tables publication (by_numbers p) arrival m acting p → p' ≡ taken_tables publication (by_numbers p) arrival m acting p
unfolding taken_tables
taken-news publication p p' m arrival acting news made =
    let is : nat_lt arrival.received m.to ≡ true = grind (arith, nat_tests, news) in
    rw is made

pub taken-old : (publication : Publication) (p p' : PublisherTables) (m : Upload) (arrival : Arrival) (acting : Acting) → m.to ≤ arrival.received → p' ≡ record p { latest = arrival.moment } → p' ≡ taken_tables publication (by_numbers p) arrival m acting p
unfolding taken_tables
taken-old publication p p' m arrival acting old made =
    let is : nat_lt arrival.received m.to ≡ false = grind (arith, nat_tests, old) in
    rw is made

-- The same, where a publisher's parts stand for what was said of it.

pub keeps-at : (there publication : Publication) (besides b : Besides) (q p : PublisherTables) → there ≡ publication → besides ≡ b → q ≡ p → KeepsRules publication (with_besides b p) → KeepsRules there (with_besides besides q)
keeps-at there publication besides b q p here is same keeps =
    subst (λ (x : Publication). KeepsRules x (with_besides besides q)) (sym here)
    (subst (λ (x : Besides). KeepsRules publication (with_besides x q)) (sym is)
    (subst (λ (x : PublisherTables). KeepsRules publication (with_besides b x)) (sym same) keeps))

pub fits-at : (there publication : Publication) (n changes : ℕ) (xs versions : List (Key × Version)) → there ≡ publication → n ≡ changes → xs ≡ versions → AllByRecursion (FitsHere publication changes) versions → AllByRecursion (FitsHere there n) xs
fits-at there publication n changes xs versions here is same fits =
    subst (λ (x : Publication). AllByRecursion (FitsHere x n) xs) (sym here)
    (subst (λ (x : ℕ). AllByRecursion (FitsHere publication x) xs) (sym is)
    (subst (λ (x : List (Key × Version)). AllByRecursion (FitsHere publication changes) x) (sym same) fits))

pub made-at : (there publication : Publication) (besides b : Besides) (q p : PublisherTables) (xs versions : List (Key × Version)) (ks acted : List Key) (site : ℕ) (c : Changes) → there ≡ publication → besides ≡ b → q ≡ p → xs ≡ versions → ks ≡ acted
    → IsMade there (changing xs ks site) q besides c → IsMade publication (changing versions acted site) p b c
made-at there publication besides b q p xs versions ks acted site c here is same version_same acted_same made =
    subst (λ (x : Publication). IsMade x (changing versions acted site) p b c) here
    (subst (λ (x : Besides). IsMade there (changing versions acted site) p x c) is
    (subst (λ (x : PublisherTables). IsMade there (changing versions acted site) x besides c) same
    (subst (λ (x : List (Key × Version)). IsMade there (changing x acted site) q besides c) version_same
    (subst (λ (x : List Key). IsMade there (changing xs x site) q besides c) acted_same made))))

pub subscribes-at : (there publication : Publication) (acted : List Key) (site : ℕ) → there ≡ publication → is_subscription publication site ≡ true → Subscribes there acted site
subscribes-at there publication acted site here subscribes = subscribed there acted site (subst (λ (x : Publication). is_subscription x site ≡ true) (sym here) subscribes)
