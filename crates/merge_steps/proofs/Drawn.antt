-- What an insert draws: the definitions, by how a range is taken from, and what stays of the ranges.
use Rattle.std.specs.Prelude.{◌≡◌, ◌==◌, ◌&&◌, ◌+◌, ◌-◌, ◌<◌, ◌≤◌, ℕ, ℤ, List, [], ◌∷◌, ◌++◌, Bool, true, false, Option, Some, None, Result, Ok, Err, refl, cond, count_by, is_some, length, IfOk, IsOk, IsSome}
use Rattle.std.specs.BTreeMap.{is_at}
use Rattle.std.specs.Ordering.{nat_cmp}
use Rattle.std.proofs.Common.{arith, sym, ap, ◌∙◌, subst, inl, inr}
use Rattle.std.proofs.lemmas.Bool.Decides.{nat_tests}
use Rattle.std.proofs.lemmas.List.{length-append, length-drop}
use Rattle.merge_types.specs.declared.changes.Change.{Change}
use Rattle.merge_types.specs.declared.changes.Change.TheVariants.{Insert, Update, Delete}
use Rattle.merge_types.specs.declared.changes.Setting.{Setting}
use Rattle.merge_types.specs.declared.identifiers.RowId.{RowId}
use Rattle.merge_types.specs.declared.values.Value.{Value}
use Rattle.merge_types.specs.declared.values.Value.TheVariants.{Bit, Bytes, Day, Guid, Int, Null, Text}
use Rattle.merge_table.specs.declared.edit.Edit.{Edit}
use Rattle.merge_table.specs.declared.edit.Edit.TheVariants.{Put}
use Rattle.merge_ident.specs.Answers.{Answer, NeedsMemory, answer_of, ask_of, grants_after, grants_with_all, plan_of, rule_of}
use Rattle.merge_ident.specs.Grants.{granted_to, is_of, with_grant}
use Rattle.merge_ident.specs.Holders.{Holder, Received, after_receive, after_take, answer_by_held, answer_to_take, held_after_receive, next_of, unused}
use Rattle.merge_ident.specs.declared.grants.Grant.{Grant}
use Rattle.merge_ident.specs.declared.grants.GrantAnswer.TheVariants.{Granted, Kept, NotDue}
use Rattle.merge_ident.specs.declared.grants.IdentityFault.{IdentityFault}
use Rattle.merge_ident.specs.declared.grants.GrantPlan.{GrantPlan}
use Rattle.merge_ident.specs.declared.grants.Range.{Range}
use Rattle.merge_ident.specs.declared.grants.Rule.{Rule}
use Rattle.merge_ident.specs.declared.ranges.IdentityUsedUp.{IdentityUsedUp as IdentityEnd}
use Rattle.merge_ident.proofs.Added.{count_by-with_grant}
use Rattle.merge_schema.specs.declared.publication.Publication.{Publication}
use Rattle.merge_batch.specs.declared.refusal.Refusal.{Refusal}
use Rattle.merge_batch.specs.LocalChanges.{is_insert}
use Rattle.merge_batch.specs.declared.refusal.Refusal.TheVariants.{IdentityUsedUp, NoMemory}
use Rattle.merge_change.specs.Allowed.{HasIdentity, IsIdentity}
use Rattle.merge_model.specs.Tables.Keys.{at_number, put_number}
use Rattle.merge_model.specs.Tables.Publications.{identity_column, rules_of}
use Rattle.merge_model.specs.Publisher.PublisherLocal.{Drawn, after_answer, draw_for_change, drawn_from, own_ask, taken_from}
use Rattle.merge_model.specs.Tables.{PublisherTables}
use Rattle.merge_model.proofs.Lists.Finding.{at_put, some_same}
use Rattle.merge_steps.specs.Drawing.{Draws, Gives, KeepsHeld, Takes, TakesGranted, TakesNext, drawn_by, granted_range, is_whole}
use Rattle.merge_steps.specs.Keeps.{AreHeard, HaveColumns}
use Rattle.merge_steps.specs.declared.drawing.Draw.{Draw}
use Rattle.merge_steps.proofs.Identities.{has-rule}

-- the tables with these ranges and grants
abbrev with_held : List Grant → List (ℕ × Holder) → PublisherTables → PublisherTables
with_held grants held p = record p { held = held; grants = grants }

-- Where a range is granted, and where none is.

granted-by : (grants : List Grant) (held : List (ℕ × Holder)) (article : ℕ) (holder : Holder) (number : ℕ) (range : Range) (by : Result Drawn Refusal) (answer : Answer) → granted_range answer ≡ Some (number, range)
    → Takes (grants_after grants (ask_of (record { 0 = 0 }) article (granted_to article 0 grants) true) answer) held article (after_receive holder range) by
    → (p : PublisherTables) → after_answer (with_held grants held p) article holder answer ≡ by
unfolding Takes
granted-by grants held article holder number range by (Ok (Granted n r)) is takes p =
    let same : r ≡ range = ap (λ (x : ℕ × Range). x.1) (some_same (n, r) (number, range) is) in
    ap (λ (x : Range). taken_from (with_held grants held p) (grants_after grants (own_ask (with_held grants held p) article) (Ok (Granted n r))) article (after_receive holder x) (answer_to_take (after_receive holder x))) same ∙ takes (with_held grants held p)
granted-by grants held article holder number range by (Ok (Kept n r)) is takes p = absurd cc
granted-by grants held article holder number range by (Ok NotDue) is takes p = absurd cc
granted-by grants held article holder number range by (Err fault) is takes p = absurd cc

granted-taken : (rules : List Rule) (grants : List Grant) (held : List (ℕ × Holder)) (article : ℕ) (holder : Holder) (plan : GrantPlan) (number : ℕ) (range : Range) (by : Result Drawn Refusal)
    → plan ≡ plan_of rules grants (ask_of (record { 0 = 0 }) article (granted_to article 0 grants) true) → granted_range plan.answer ≡ Some (number, range)
    → Takes (grants_with_all grants (plan ∷ [])) held article (after_receive holder range) by → TakesGranted rules grants held article holder by
unfolding TakesGranted
granted-taken rules grants held article holder plan number range by is granted takes =
    let ask = ask_of (record { 0 = 0 }) article (granted_to article 0 grants) true in
    granted-by grants held article holder number range by (answer_of rules grants ask)
    (subst (λ (x : GrantPlan). granted_range x.answer ≡ Some (number, range)) is granted)
    (subst (λ (x : GrantPlan). Takes (grants_with_all grants (x ∷ [])) held article (after_receive holder range) by) is takes)

none-by : (grants : List Grant) (held : List (ℕ × Holder)) (article : ℕ) (holder : Holder) (by : Result Drawn Refusal) (answer : Answer) → granted_range answer ≡ None → Takes grants held article holder by
    → (p : PublisherTables) → after_answer (with_held grants held p) article holder answer ≡ by
unfolding Takes
none-by grants held article holder by (Ok (Granted n r)) is takes p = absurd cc
none-by grants held article holder by (Ok (Kept n r)) is takes p = takes (with_held grants held p)
none-by grants held article holder by (Ok NotDue) is takes p = takes (with_held grants held p)
none-by grants held article holder by (Err fault) is takes p = takes (with_held grants held p)

none-taken : (rules : List Rule) (grants : List Grant) (held : List (ℕ × Holder)) (article : ℕ) (holder : Holder) (plan : GrantPlan) (by : Result Drawn Refusal)
    → plan ≡ plan_of rules grants (ask_of (record { 0 = 0 }) article (granted_to article 0 grants) true) → granted_range plan.answer ≡ None
    → Takes grants held article holder by → TakesGranted rules grants held article holder by
unfolding TakesGranted
none-taken rules grants held article holder plan by is none takes =
    none-by grants held article holder by (answer_of rules grants (ask_of (record { 0 = 0 }) article (granted_to article 0 grants) true)) (subst (λ (x : GrantPlan). granted_range x.answer ≡ None) is none) takes

-- Where memory is wanting for what is drawn.

some-taken : (after : List Grant) (held : List (ℕ × Holder)) (article : ℕ) (holder : Holder) (value : ℤ) → answer_to_take holder ≡ Ok value
    → Takes after held article holder (Ok (record { value = Int value; held = put_number held article (after_take holder); grants = after }))
unfolding Takes
some-taken after held article holder value is = λ p. rw is refl

-- memory is wanting for a value that there is
pub take-wants : (before : List Grant) (held : List (ℕ × Holder)) (article : ℕ) (holder : Holder) (value : ℤ) (plans : List GrantPlan) → answer_to_take holder ≡ Ok value
    → Gives (Takes (grants_with_all before plans) held article holder) before held (Err NoMemory)
take-wants before held article holder value plans is =
    let draw : Drawn = record { value = Int value; held = put_number held article (after_take holder); grants = grants_with_all before plans } in
    inl (draw, refl, some-taken (grants_with_all before plans) held article holder value is)

first-value : (last : ℤ) (held : List Received) → 0 < length held → (value : ℤ) × (answer_by_held last held ≡ Ok value)
first-value last [] some = absurd (omega arith)
first-value last (first ∷ rest) some = (next_of first, refl)

received-some : (held : List Received) (range : Range) → 0 < length (held_after_receive held range)
received-some held range = omega (arith, length-drop (length (held ++ unused range ∷ []) - 2) (held ++ unused range ∷ []), length-append held (unused range ∷ []))

-- a holder has a value behind a range that came
received-value : (holder : Holder) (range : Range) → (value : ℤ) × (answer_to_take (after_receive holder range) ≡ Ok value)
received-value holder range = first-value range.end (held_after_receive holder.held range) (received-some holder.held range)

grant-draws : (grants : List Grant) (held : List (ℕ × Holder)) (article : ℕ) (holder : Holder) (answer : Answer) → NeedsMemory answer
    → (draw : Drawn) × ((p : PublisherTables) → after_answer (with_held grants held p) article holder answer ≡ Ok draw)
grant-draws grants held article holder (Ok (Granted number range)) needs =
    let value = received-value holder range in
    let after = grants_after grants (ask_of (record { 0 = 0 }) article (granted_to article 0 grants) true) (Ok (Granted number range)) in
    let draw : Drawn = record { value = Int value.0; held = put_number held article (after_take (after_receive holder range)); grants = after } in
    (draw, granted-by grants held article holder number range (Ok draw) (Ok (Granted number range)) refl (some-taken after held article (after_receive holder range) value.0 value.1))
grant-draws grants held article holder (Ok (Kept number range)) needs = absurd needs
grant-draws grants held article holder (Ok NotDue) needs = absurd needs
grant-draws grants held article holder (Err fault) needs = absurd needs

-- memory is wanting for a range that is granted
pub grant-wants : (rules : List Rule) (grants : List Grant) (held : List (ℕ × Holder)) (article : ℕ) (holder : Holder) (have : ℕ) → have ≡ granted_to article 0 grants
    → NeedsMemory (answer_of rules grants (ask_of (record { 0 = 0 }) article have true)) → Gives (TakesGranted rules grants held article holder) grants held (Err NoMemory)
unfolding TakesGranted
grant-wants rules grants held article holder have is needs =
    let draws = grant-draws grants held article holder (answer_of rules grants (ask_of (record { 0 = 0 }) article (granted_to article 0 grants) true))
    (subst (λ (n : ℕ). NeedsMemory (answer_of rules grants (ask_of (record { 0 = 0 }) article n true))) is needs) in
    inl (draws.0, refl, draws.1)

needs-by : (answer : Answer) (number : ℕ) (range : Range) → granted_range answer ≡ Some (number, range) → NeedsMemory answer
needs-by (Ok (Granted n r)) number range is = tt
needs-by (Ok (Kept n r)) number range is = absurd cc
needs-by (Ok NotDue) number range is = absurd cc
needs-by (Err fault) number range is = absurd cc

-- the same, where the range is planned
pub plan-wants : (rules : List Rule) (grants : List Grant) (held : List (ℕ × Holder)) (article : ℕ) (holder : Holder) (plan : GrantPlan) (number : ℕ) (range : Range)
    → plan ≡ plan_of rules grants (ask_of (record { 0 = 0 }) article (granted_to article 0 grants) true) → granted_range plan.answer ≡ Some (number, range)
    → Gives (TakesGranted rules grants held article holder) grants held (Err NoMemory)
plan-wants rules grants held article holder plan number range is granted =
    grant-wants rules grants held article holder (granted_to article 0 grants) refl
    (needs-by (answer_of rules grants (ask_of (record { 0 = 0 }) article (granted_to article 0 grants) true)) number range (subst (λ (x : GrantPlan). granted_range x.answer ≡ Some (number, range)) is granted))

-- Of a holder with values, and of one without.

taken-next : (publication : Publication) (q : PublisherTables) (article : ℕ) (holder : Holder) (answer : Result ℤ IdentityEnd) (value : ℤ) (by : Result Drawn Refusal) → answer ≡ Ok value → taken_from q q.grants article holder answer ≡ by
    → drawn_from publication q article holder answer ≡ by
taken-next publication q article holder (Ok found) value by is takes = takes
taken-next publication q article holder (Err used_up) value by is takes = absurd cc

next-taken : (rules : List Rule) (grants : List Grant) (held : List (ℕ × Holder)) (article : ℕ) (holder : Holder) (value : ℤ) (by : Result Drawn Refusal) → answer_to_take holder ≡ Ok value → Takes grants held article holder by → TakesNext rules grants held article holder by
unfolding Takes TakesNext
next-taken rules grants held article holder value by is takes = λ publication same p. taken-next publication (with_held grants held p) article holder (answer_to_take holder) value by is (takes (with_held grants held p))

ended-next : (publication : Publication) (q : PublisherTables) (article : ℕ) (holder : Holder) (answer : Result ℤ IdentityEnd) (end : IdentityEnd) (by : Result Drawn Refusal) → answer ≡ Err end
    → after_answer q article holder (answer_of (rules_of publication) q.grants (own_ask q article)) ≡ by → drawn_from publication q article holder answer ≡ by
ended-next publication q article holder (Ok found) end by is takes = absurd cc
ended-next publication q article holder (Err used_up) end by is takes = takes

next-granted : (rules : List Rule) (grants : List Grant) (held : List (ℕ × Holder)) (article : ℕ) (holder : Holder) (end : IdentityEnd) (by : Result Drawn Refusal) → answer_to_take holder ≡ Err end → TakesGranted rules grants held article holder by
    → TakesNext rules grants held article holder by
unfolding TakesGranted TakesNext
next-granted rules grants held article holder end by is takes = λ publication same p.
    ended-next publication (with_held grants held p) article holder (answer_to_take holder) end by is
    (ap (λ (rs : List Rule). after_answer (with_held grants held p) article holder (answer_of rs grants (own_ask (with_held grants held p) article))) same ∙ takes p)

-- Of an insert.

found-drawn : (publication : Publication) (q : PublisherTables) (article : ℕ) (values : List Setting) (found : Option Holder) (holder : Holder) (by : Result Drawn Refusal) → found ≡ Some holder → at_number q.held article ≡ found
    → drawn_from publication q article holder (answer_to_take holder) ≡ by → draw_for_change publication q (Insert article values) ≡ by
found-drawn publication q article values found holder by is there takes = rw (draw_for_change, there ∙ is) takes

insert-drawn : (publication : Publication) (rules : List Rule) (grants : List Grant) (held : List (ℕ × Holder)) (article : ℕ) (values : List Setting) (holder : Holder) (by : Result Drawn Refusal) → rules_of publication ≡ rules → at_number held article ≡ Some holder
    → TakesNext rules grants held article holder by → Draws publication (Insert article values) grants held by
unfolding TakesNext Draws
insert-drawn publication rules grants held article values holder by same there takes = λ p.
    found-drawn publication (with_held grants held p) article values (Some holder) holder by refl there (takes publication same p)

none-drawn : (publication : Publication) (grants : List Grant) (held : List (ℕ × Holder)) (article : ℕ) (values : List Setting) → at_number held article ≡ None
    → Draws publication (Insert article values) grants held (Ok (record { value = Null; held = held; grants = grants }))
unfolding Draws
none-drawn publication grants held article values there = λ p. rw (draw_for_change, there) refl

-- What stays of the ranges.

here-is : (q article : ℕ) → is_at (nat_cmp q) article ≡ true → q ≡ article
here-is q article is = grind (arith, nat_tests, is)

not-here : (q article : ℕ) → is_at (nat_cmp q) article ≡ false → q ≡ article → ⊥
not-here q article is same = grind (arith, nat_tests, is, same)

heard-by : (grants after : List Grant) (held : List (ℕ × Holder)) (article : ℕ) (new : Holder) → ((other : ℕ) → (other ≡ article → ⊥) → granted_to other 0 after ≡ granted_to other 0 grants) → new.have ≡ granted_to article 0 after
    → AreHeard grants held → (q : ℕ) (holder : Holder) (b : Bool) → is_at (nat_cmp q) article ≡ b → cond b (Some new) (at_number held q) ≡ Some holder → holder.have ≡ granted_to q 0 after
heard-by grants after held article new others own heard q holder true is found =
    ap (λ (h : Holder). h.have) (sym (some_same new holder found)) ∙ own ∙ ap (λ (n : ℕ). granted_to n 0 after) (sym (here-is q article is))
heard-by grants after held article new others own heard q holder false is found = heard q holder found ∙ sym (others q (not-here q article is))

heard-put : (grants after : List Grant) (held : List (ℕ × Holder)) (article : ℕ) (new : Holder) → ((other : ℕ) → (other ≡ article → ⊥) → granted_to other 0 after ≡ granted_to other 0 grants) → new.have ≡ granted_to article 0 after
    → AreHeard grants held → AreHeard after (put_number held article new)
heard-put grants after held article new others own heard = λ q holder found.
    heard-by grants after held article new others own heard q holder (is_at (nat_cmp q) article) refl (sym (at_put article q new held) ∙ found)

some-by : (held : List (ℕ × Holder)) (article : ℕ) (old new : Holder) → at_number held article ≡ Some old → (q : ℕ) (b : Bool) → is_at (nat_cmp q) article ≡ b → is_some (let o : Option Holder = cond b (Some new) (at_number held q) in o) ≡ is_some (at_number held q)
some-by held article old new there q true is = sym (ap (λ (o : Option Holder). is_some o) (ap (λ (n : ℕ). at_number held n) (here-is q article is) ∙ there))
some-by held article old new there q false is = refl

some-put : (held : List (ℕ × Holder)) (article : ℕ) (old new : Holder) → at_number held article ≡ Some old → (q : ℕ) → is_some (at_number (put_number held article new) q) ≡ is_some (at_number held q)
some-put held article old new there q = ap (λ (o : Option Holder). is_some o) (at_put article q new held) ∙ some-by held article old new there q (is_at (nat_cmp q) article) refl

-- no grant
kept-next : (grants : List Grant) (held : List (ℕ × Holder)) (article : ℕ) (holder : Holder) (d : Draw) → AreHeard grants held → at_number held article ≡ Some holder → d.held ≡ Put article (after_take holder) ∷ [] → d.grants ≡ [] → KeepsHeld grants held d
kept-next grants held article holder d heard there takes none = record {
  heard = rw (takes, none) (heard-put grants grants held article (after_take holder) (λ other differs. refl) (heard article holder there) heard);
  same = rw takes (some-put held article holder (after_take holder) there);
}

other-count : (other article number : ℕ) (range : Range) (grants : List Grant) → (other ≡ article → ⊥) → granted_to other 0 (with_grant grants (record { article = article; site = record { 0 = 0 }; number = number; range = range })) ≡ granted_to other 0 grants
other-count other article number range grants differs =
    let grant : Grant = record { article = article; site = record { 0 = 0 }; number = number; range = range } in
    let no : is_of other 0 grant ≡ false = grind (arith, nat_tests, differs) in
    let counted = count_by-with_grant (is_of other 0) grant grants ∙ ap (λ (b : Bool). (let one : ℕ = cond b 1 0 in one) + granted_to other 0 grants) no in
    grind (arith, counted)

own-count : (article number : ℕ) (range : Range) (grants : List Grant) → granted_to article 0 (with_grant grants (record { article = article; site = record { 0 = 0 }; number = number; range = range })) ≡ granted_to article 0 grants + 1
own-count article number range grants =
    let grant : Grant = record { article = article; site = record { 0 = 0 }; number = number; range = range } in
    let yes : is_of article 0 grant ≡ true = grind (arith, nat_tests) in
    let counted = count_by-with_grant (is_of article 0) grant grants ∙ ap (λ (b : Bool). (let one : ℕ = cond b 1 0 in one) + granted_to article 0 grants) yes in
    grind (arith, counted)

granted-kept : (grants : List Grant) (held : List (ℕ × Holder)) (article : ℕ) (holder : Holder) (range : Range) (number : ℕ) (d : Draw) (answer : Answer) → granted_range answer ≡ Some (number, range)
    → AreHeard grants held → at_number held article ≡ Some holder → d.held ≡ Put article (after_take (after_receive holder range)) ∷ []
    → grants_with_all grants d.grants ≡ grants_after grants (ask_of (record { 0 = 0 }) article (granted_to article 0 grants) true) answer → KeepsHeld grants held d
granted-kept grants held article holder range number d (Ok (Granted n r)) is heard there takes grant = record {
  heard = rw (takes, grant) (heard-put grants (with_grant grants (record { article = article; site = record { 0 = 0 }; number = n; range = r })) held article (after_take (after_receive holder range))
      (λ other differs. other-count other article n r grants differs) (ap (λ (have : ℕ). have + 1) (heard article holder there) ∙ sym (own-count article n r grants)) heard);
  same = rw takes (some-put held article holder (after_take (after_receive holder range)) there);
}
granted-kept grants held article holder range number d (Ok (Kept n r)) is heard there takes grant = absurd cc
granted-kept grants held article holder range number d (Ok NotDue) is heard there takes grant = absurd cc
granted-kept grants held article holder range number d (Err fault) is heard there takes grant = absurd cc

kept-granted : (rules : List Rule) (grants : List Grant) (held : List (ℕ × Holder)) (article : ℕ) (holder : Holder) (plan : GrantPlan) (number : ℕ) (range : Range) (d : Draw)
    → plan ≡ plan_of rules grants (ask_of (record { 0 = 0 }) article (granted_to article 0 grants) true) → granted_range plan.answer ≡ Some (number, range)
    → AreHeard grants held → at_number held article ≡ Some holder → d.held ≡ Put article (after_take (after_receive holder range)) ∷ [] → d.grants ≡ plan ∷ [] → KeepsHeld grants held d
kept-granted rules grants held article holder plan number range d is granted heard there takes plans =
    granted-kept grants held article holder range number d plan.answer granted heard there takes
    (ap (λ (ps : List GrantPlan). grants_with_all grants ps) plans ∙ ap (λ (x : GrantPlan). grants_after grants x.ask plan.answer) is)

-- The calls that draw: what one gives, of what another one gave.

gives-more : (Says More : Result Drawn Refusal → Type 0) (grants : List Grant) (held : List (ℕ × Holder)) → ((by : Result Drawn Refusal) → Says by → More by) → (r : Result Draw Refusal) → Gives Says grants held r → Gives More grants held r
gives-more Says More grants held more (Ok d) says = more (Ok (drawn_by grants held d)) says
gives-more Says More grants held more (Err refusal) (inl wants) = inl (wants.0, wants.1, more (Ok wants.0) wants.2)
gives-more Says More grants held more (Err refusal) (inr says) = inr (more (Err refusal) says)

pub take-made : (before : List Grant) (held : List (ℕ × Holder)) (article : ℕ) (holder : Holder) (value taken : ℤ) (edits : List (Edit ℕ Holder)) (plans : List GrantPlan) → answer_to_take holder ≡ Ok value → taken ≡ value → edits ≡ Put article (after_take holder) ∷ []
    → Takes (grants_with_all before plans) held article holder (Ok (drawn_by before held (record { value = Int taken; held = edits; grants = plans })))
unfolding Takes
take-made before held article holder value taken edits plans is same are = λ p. rw (is, same, are) refl

pub take-ended : (after : List Grant) (held : List (ℕ × Holder)) (article : ℕ) (holder : Holder) (used : IdentityEnd) (end : ℤ) → answer_to_take holder ≡ Err used → end ≡ used.end → Takes after held article holder (Err (IdentityUsedUp end))
unfolding Takes
take-ended after held article holder used end is same = λ p. rw (is, same) refl

pub granted-gives : (rules : List Rule) (grants : List Grant) (held : List (ℕ × Holder)) (article : ℕ) (holder now : Holder) (plan : GrantPlan) (plans : List GrantPlan) (number : ℕ) (range : Range) (r : Result Draw Refusal)
    → Gives (Takes (grants_with_all grants plans) held article now) grants held r
    → plan ≡ plan_of rules grants (ask_of (record { 0 = 0 }) article (granted_to article 0 grants) true) → granted_range plan.answer ≡ Some (number, range) → plans ≡ plan ∷ [] → now ≡ after_receive holder range
    → Gives (TakesGranted rules grants held article holder) grants held r
granted-gives rules grants held article holder now plan plans number range r gives is granted are received =
    gives-more (Takes (grants_with_all grants plans) held article now) (TakesGranted rules grants held article holder) grants held
    (λ by takes. granted-taken rules grants held article holder plan number range by is granted
    (subst (λ (ps : List GrantPlan). Takes (grants_with_all grants ps) held article (after_receive holder range) by) are (subst (λ (h : Holder). Takes (grants_with_all grants plans) held article h by) received takes)))
    r gives

pub none-gives : (rules : List Rule) (grants : List Grant) (held : List (ℕ × Holder)) (article : ℕ) (holder : Holder) (plan : GrantPlan) (plans : List GrantPlan) (r : Result Draw Refusal)
    → Gives (Takes (grants_with_all grants plans) held article holder) grants held r
    → plan ≡ plan_of rules grants (ask_of (record { 0 = 0 }) article (granted_to article 0 grants) true) → granted_range plan.answer ≡ None → plans ≡ []
    → Gives (TakesGranted rules grants held article holder) grants held r
none-gives rules grants held article holder plan plans r gives is granted are =
    gives-more (Takes (grants_with_all grants plans) held article holder) (TakesGranted rules grants held article holder) grants held
    (λ by takes. none-taken rules grants held article holder plan by is granted (subst (λ (ps : List GrantPlan). Takes (grants_with_all grants ps) held article holder by) are takes))
    r gives

pub next-gives : (rules : List Rule) (grants : List Grant) (held : List (ℕ × Holder)) (article : ℕ) (holder : Holder) (value : ℤ) (plans : List GrantPlan) (r : Result Draw Refusal)
    → Gives (Takes (grants_with_all grants plans) held article holder) grants held r → answer_to_take holder ≡ Ok value → plans ≡ [] → Gives (TakesNext rules grants held article holder) grants held r
next-gives rules grants held article holder value plans r gives is are =
    gives-more (Takes (grants_with_all grants plans) held article holder) (TakesNext rules grants held article holder) grants held
    (λ by takes. next-taken rules grants held article holder value by is (subst (λ (ps : List GrantPlan). Takes (grants_with_all grants ps) held article holder by) are takes))
    r gives

pub ended-gives : (rules : List Rule) (grants : List Grant) (held : List (ℕ × Holder)) (article : ℕ) (holder : Holder) (used : IdentityEnd) (r : Result Draw Refusal)
    → Gives (TakesGranted rules grants held article holder) grants held r → answer_to_take holder ≡ Err used → Gives (TakesNext rules grants held article holder) grants held r
ended-gives rules grants held article holder used r gives is =
    gives-more (TakesGranted rules grants held article holder) (TakesNext rules grants held article holder) grants held (λ by takes. next-granted rules grants held article holder used by is takes) r gives

pub insert-gives : (publication : Publication) (rules : List Rule) (grants : List Grant) (held : List (ℕ × Holder)) (change : Change) (article : ℕ) (values : List Setting) (holder : Holder) (r : Result Draw Refusal)
    → Gives (TakesNext rules grants held article holder) grants held r → change ≡ Insert article values → rules ≡ rules_of publication → at_number held article ≡ Some holder → Gives (Draws publication change grants held) grants held r
insert-gives publication rules grants held change article values holder r gives is same there =
    gives-more (TakesNext rules grants held article holder) (Draws publication change grants held) grants held
    (λ by takes. subst (λ (c : Change). Draws publication c grants held by) (sym is) (insert-drawn publication rules grants held article values holder by (sym same) there takes))
    r gives

-- Where nothing is drawn.

pub no-ranges-drawn : (publication : Publication) (grants : List Grant) (held : List (ℕ × Holder)) (change : Change) (article : ℕ) (values : List Setting) (d : Draw) → change ≡ Insert article values → at_number held article ≡ None → d ≡ record { value = Null; held = []; grants = [] }
    → Draws publication change grants held (Ok (drawn_by grants held d))
no-ranges-drawn publication grants held change article values d is there none = rw (is, none) (none-drawn publication grants held article values there)

pub update-drawn : (publication : Publication) (grants : List Grant) (held : List (ℕ × Holder)) (change : Change) (article : ℕ) (row : RowId) (values : List Setting) (d : Draw) → change ≡ Update article row values → d ≡ record { value = Null; held = []; grants = [] }
    → Draws publication change grants held (Ok (drawn_by grants held d))
unfolding Draws
update-drawn publication grants held change article row values d is none = rw (is, none) (λ p. refl)

pub delete-drawn : (publication : Publication) (grants : List Grant) (held : List (ℕ × Holder)) (change : Change) (article : ℕ) (row : RowId) (d : Draw) → change ≡ Delete article row → d ≡ record { value = Null; held = []; grants = [] }
    → Draws publication change grants held (Ok (drawn_by grants held d))
unfolding Draws
delete-drawn publication grants held change article row d is none = rw (is, none) (λ p. refl)

-- only an insert takes memory
pub not-insert : (change : Change) (article : ℕ) (values : List Setting) (r : Result Draw Refusal) → change ≡ Insert article values → is_insert change ≡ false → IsOk r
not-insert change article values r is other = (let insert : true ≡ false = ap (λ (c : Change). is_insert c) (sym is) ∙ other in absurd cc)

-- What stays of the ranges after a call.

pub next-keeps : (grants : List Grant) (held : List (ℕ × Holder)) (article : ℕ) (holder : Holder) (plans : List GrantPlan) (r : Result Draw Refusal) → AreHeard grants held → at_number held article ≡ Some holder
    → IfOk r (λ d. d.held ≡ Put article (after_take holder) ∷ []) → IfOk r (λ d. d.grants ≡ plans) → plans ≡ [] → IfOk r (λ d. KeepsHeld grants held d)
next-keeps grants held article holder plans (Ok d) heard there takes grant none = kept-next grants held article holder d heard there takes (grant ∙ none)
next-keeps grants held article holder plans (Err refusal) heard there takes grant none = tt

pub granted-keeps : (rules : List Rule) (grants : List Grant) (held : List (ℕ × Holder)) (article : ℕ) (holder now : Holder) (plan : GrantPlan) (plans : List GrantPlan) (number : ℕ) (range : Range) (r : Result Draw Refusal) → AreHeard grants held → at_number held article ≡ Some holder
    → IfOk r (λ d. d.held ≡ Put article (after_take now) ∷ []) → IfOk r (λ d. d.grants ≡ plans)
    → plan ≡ plan_of rules grants (ask_of (record { 0 = 0 }) article (granted_to article 0 grants) true) → granted_range plan.answer ≡ Some (number, range) → plans ≡ plan ∷ [] → now ≡ after_receive holder range → IfOk r (λ d. KeepsHeld grants held d)
granted-keeps rules grants held article holder now plan plans number range (Ok d) heard there takes grant is granted are received =
    kept-granted rules grants held article holder plan number range d is granted heard there (subst (λ (h : Holder). d.held ≡ Put article (after_take h) ∷ []) received takes) (grant ∙ are)
granted-keeps rules grants held article holder now plan plans number range (Err refusal) heard there takes grant is granted are received = tt

-- the ranges of one article change
one-put : (article : ℕ) (holder : Holder) (edits : List (Edit ℕ Holder)) → edits ≡ Put article holder ∷ [] → length edits ≤ 1
one-put article holder edits is = rw is (omega arith)

pub one-held : (article : ℕ) (holder : Holder) (r : Result Draw Refusal) → IfOk r (λ d. d.held ≡ Put article holder ∷ []) → IfOk r (λ d. length d.held ≤ 1)
one-held article holder (Ok d) is = one-put article holder d.held is
one-held article holder (Err refusal) is = tt

-- The value.

whole-is : (value : Value) → is_whole value ≡ true → (number : ℤ) × (value ≡ Int number)
whole-is (Int number) whole = (number, refl)
whole-is Null whole = absurd cc
whole-is (Bit bit) whole = absurd cc
whole-is (Text words) whole = absurd cc
whole-is (Day day) whole = absurd cc
whole-is (Guid guid) whole = absurd cc
whole-is (Bytes bytes) whole = absurd cc

whole-by : (column : Option ℕ) (value : Value) → is_whole value ≡ true → IsIdentity column value
whole-by None value whole = tt
whole-by (Some column) value whole = whole-is value whole

whole-identity : (publication : Publication) (change : Change) (value : Value) → is_whole value ≡ true → HasIdentity publication change value
whole-identity publication (Insert article values) value whole = whole-by (identity_column publication article) value whole
whole-identity publication (Update article row values) value whole = tt
whole-identity publication (Delete article row) value whole = tt

pub wholes-identity : (publication : Publication) (change : Change) (r : Result Draw Refusal) → IfOk r (λ d. is_whole d.value ≡ true) → IfOk r (λ d. HasIdentity publication change d.value)
wholes-identity publication change (Ok d) whole = whole-identity publication change d.value whole
wholes-identity publication change (Err refusal) whole = tt

no-column : (column : Option ℕ) (value : Value) → is_some column ≡ false → IsIdentity column value
no-column None value none = tt
no-column (Some column) value none = absurd cc

pub no-ranges-identity : (publication : Publication) (held : List (ℕ × Holder)) (change : Change) (article : ℕ) (values : List Setting) (value : Value) → change ≡ Insert article values → at_number held article ≡ None → HaveColumns publication held → HasIdentity publication change value
no-ranges-identity publication held change article values value is there columns =
    rw is (no-column (identity_column publication article) value (sym (columns article) ∙ ap (λ (o : Option Holder). is_some o) there))

-- The rule by which the publisher grants itself a range.

pub own-rule : (publication : Publication) (rules : List Rule) (held : List (ℕ × Holder)) (article : ℕ) (holder : Holder) → at_number held article ≡ Some holder → rules ≡ rules_of publication → HaveColumns publication held → IsSome (rule_of rules article)
own-rule publication rules held article holder there same columns =
    rw same (has-rule publication article (sym (columns article) ∙ ap (λ (o : Option Holder). is_some o) there))
