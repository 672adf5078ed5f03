-- What a draft needs, over all that a publisher holds.
use Rattle.std.specs.Prelude.{◌≡◌, All, IsSome, List, [], map, refl}
use Rattle.std.specs.List.Sorted.{IsStrictlySortedBy}
use Rattle.std.specs.Map.{keys_of}
use Rattle.std.proofs.Common.{sym, ap, ◌∙◌, subst}
use Rattle.merge_types.specs.RowKeys.{key_cmp}
use Rattle.merge_types.specs.declared.identifiers.Moment.{Moment}
use Rattle.merge_table.specs.Edits.{rows_after_all}
use Rattle.merge_table.specs.declared.edit.Edit.{Edit}
use Rattle.merge_ident.specs.Answers.{plans_of, rule_of}
use Rattle.merge_ident.specs.declared.grants.Ask.{Ask}
use Rattle.merge_ident.specs.declared.grants.GrantPlan.{GrantPlan}
use Rattle.merge_ident.specs.declared.grants.Rule.{Rule}
use Rattle.merge_gens.specs.Index.{entries_after_all}
use Rattle.merge_gens.specs.Moves.{row_site_cmp}
use Rattle.merge_gens.specs.declared.moves.Mapping.{Mapping}
use Rattle.merge_gens.specs.declared.moves.RowSite.{RowSite}
use Rattle.merge_schema.specs.declared.publication.Publication.{Publication}
use Rattle.merge_batch.specs.declared.request.RangeAsk.{RangeAsk}
use Rattle.merge_model.specs.Tables.Publications.{rules_of}
use Rattle.merge_model.specs.Publisher.PublisherRanges.{ask_by, plans, with_grants}
use Rattle.merge_model.specs.Tables.{PublisherTables}
use Rattle.merge_pub.specs.After.{after}
use Rattle.merge_pub.specs.Forgetting.{LeavesAll}
use Rattle.merge_pub.specs.Held.{Held, IsSound, publication_of, tables_of}
use Rattle.merge_steps.specs.Indexed.{AreIndexed, AreMoved}
use Rattle.merge_steps.specs.Keeps.{KeepsRules}
use Rattle.merge_steps.specs.LiveRows.{live_pairs}
use Rattle.merge_steps.specs.MoveEntries.{move_entry_cmp}
use Rattle.merge_pub.specs.Ranging.{AreRuled, IsForOthers}
use Rattle.merge_steps.specs.Rows.{moved_edits}
use Rattle.merge_steps.specs.Working.{AreApart, places_of}
use Rattle.merge_steps.specs.declared.changes.Changes.{Changes}
use Rattle.merge_pub.specs.declared.forgetting.Forgetting.{Forgetting}
use Rattle.merge_steps.specs.declared.site_moves.MoveEntry.{MoveEntry}
use Rattle.merge_steps.proofs.MoveFollows.{moves-follow}
use Rattle.merge_pub.proofs.RangePlans.{all-ruled, grants-keep, subscriber-other}

-- the index of mappings after edits of these
pub follows-after : (old new : List (RowSite × Mapping)) (entries now : List (MoveEntry × Unit {0})) (edits : List (Edit RowSite Mapping)) (moved : List (Edit MoveEntry (Unit {0}))) → new ≡ old → now ≡ entries → moved ≡ moved_edits old edits
    → AreApart (places_of edits) → IsStrictlySortedBy row_site_cmp (keys_of old) → IsStrictlySortedBy move_entry_cmp (keys_of entries) → AreMoved old entries
    → AreMoved (rows_after_all row_site_cmp new edits) (rows_after_all move_entry_cmp now moved)
follows-after old new entries now edits moved same same' are apart sorted ordered was =
    let fits : AreMoved (rows_after_all row_site_cmp old edits) (rows_after_all move_entry_cmp entries (moved_edits old edits)) = moves-follow old edits old entries apart (λ q there. refl) sorted ordered was in
    subst (λ (ms : List (RowSite × Mapping)). AreMoved (rows_after_all row_site_cmp ms edits) (rows_after_all move_entry_cmp now moved)) (sym same)
    (subst (λ (es : List (MoveEntry × Unit {0})). AreMoved (rows_after_all row_site_cmp old edits) (rows_after_all move_entry_cmp es moved)) (sym same')
    (subst (λ (xs : List (Edit MoveEntry (Unit {0}))). AreMoved (rows_after_all row_site_cmp old edits) (rows_after_all move_entry_cmp entries xs)) (sym are) fits))

-- a join takes mappings alone
pub leaves-join : (h now : Held) → h ≡ now → IsSound h → (edits : Forgetting) → edits.rows ≡ [] → edits.entries ≡ [] → AreApart (places_of edits.mappings) → LeavesAll now edits
leaves-join h now same sound edits rows entries apart = subst (λ (x : Held). LeavesAll x edits) same (record {
  live = ap (λ (es : List _). live_pairs (rows_after_all key_cmp h.rows.rows es)) rows;
  indexed =
      subst (λ (es : List _). AreIndexed (rows_after_all key_cmp h.rows.rows es) (entries_after_all h.changed.entries edits.entries)) (sym rows)
      (subst (λ (es : List _). AreIndexed h.rows.rows (entries_after_all h.changed.entries es)) (sym entries) sound.indexed);
  apart = apart;
  keeps = subst (λ (es : List _). KeepsRules (publication_of h) (record (tables_of h) { rows = rows_after_all key_cmp h.rows.rows es })) (sym rows) sound.keeps;
})

-- what a publisher keeps as a subscriber is granted ranges
pub granted-keeps : (h new now : Held) → h ≡ new → IsSound h → tables_of new ≡ tables_of now → publication_of new ≡ publication_of now → (m : RangeAsk) (planned : List GrantPlan) → IsForOthers (publication_of now) m.site
    → planned ≡ plans (publication_of now) m (tables_of now) → KeepsRules (publication_of new) (with_grants planned (tables_of new))
granted-keeps h new now same sound tables publication m planned others are =
    let sound' : IsSound new = subst IsSound same sound in
    let others' : IsForOthers (publication_of new) m.site = subst (λ (p : Publication). IsForOthers p m.site) (sym publication) others in
    let are' : planned ≡ plans (publication_of new) m (tables_of new) = are ∙ sym (ap (λ (p : Publication). plans p m (tables_of now)) publication) ∙ sym (ap (λ (t : PublisherTables). plans (publication_of new) m t) tables) in
    subst (λ (ps : List GrantPlan). KeepsRules (publication_of new) (with_grants ps (tables_of new))) (sym are')
    (grants-keep (publication_of new) m (tables_of new) (subscriber-other (publication_of new) sound'.valid.0 m.site.0 sound'.valid.1 others') sound'.keeps)

-- the same of equal tables
pub granted-at : (c : Changes) (planned : List GrantPlan) (latest : Moment) (q p : PublisherTables) → q ≡ p → after c q ≡ with_grants planned (record q { latest = latest }) → after c p ≡ with_grants planned (record p { latest = latest })
granted-at c planned latest q p same is = subst (λ (x : PublisherTables). after c x ≡ with_grants planned (record x { latest = latest })) same is

-- what is asked of the book of grants has rules, and what is planned is what the definitions plan
pub asks-ruled-held : (h now : Held) → h ≡ now → h.grants.rules ≡ rules_of (publication_of h) → (m : RangeAsk) (asks : List Ask) → asks ≡ map (ask_by m.site) m.wants → AreRuled (publication_of now) m
    → All (λ (ask : Ask). IsSome (rule_of h.grants.rules ask.article)) asks
asks-ruled-held h now same rules m asks are ruled =
    subst (λ (xs : List Ask). All (λ (ask : Ask). IsSome (rule_of h.grants.rules ask.article)) xs) (sym are)
    (all-ruled (publication_of h) m h.grants.rules rules (subst (λ (x : Held). AreRuled (publication_of x) m) (sym same) ruled))

pub planned-held : (h now : Held) → h ≡ now → h.grants.rules ≡ rules_of (publication_of h) → (m : RangeAsk) (asks : List Ask) (planned : List GrantPlan) → asks ≡ map (ask_by m.site) m.wants → planned ≡ plans_of h.grants.rules h.grants.grants asks
    → planned ≡ plans (publication_of now) m (tables_of now)
planned-held h now same rules m asks planned are is =
    subst (λ (x : Held). planned ≡ plans (publication_of x) m (tables_of x)) same
    (is ∙ ap (λ (rs : List Rule). plans_of rs h.grants.grants asks) rules ∙ ap (plans_of (rules_of (publication_of h)) h.grants.grants) are)
