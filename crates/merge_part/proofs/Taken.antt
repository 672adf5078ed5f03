-- What holds of the rows after a change is taken up.
use Rattle.std.proofs.Common.{◌≡◌, inl, inr, ℕ, Bool, true, false, cond, ◌||◌, ◌&&◌, List, [], ◌∷◌, ◌++◌, length, Option, Some, refl, sym, ap, ◌∙◌, subst}
use Rattle.std.specs.List.Sorted.{IsStrictlySortedBy}
use Rattle.std.specs.Map.{keys_of}
use Rattle.std.specs.BTreeMap.{is_at}
use Rattle.std.proofs.lemmas.List.Folds.{list_any-append}
use Rattle.merge_table.specs.declared.edit.Edit.{Edit}
use Rattle.merge_types.specs.declared.row_key.RowKey.{RowKey}
use Rattle.merge_part.specs.declared.sites.Sites.{Sites}
use Rattle.merge_part.specs.declared.content.Content.{Content}
use Rattle.merge_part.specs.declared.index.Indexes.{Indexes}
use Rattle.merge_part.specs.declared.index.DraftIndexes.{DraftIndexes}
use Rattle.merge_part.specs.declared.link.Link.{Link}
use Rattle.merge_types.specs.RowKeys.{key_cmp}
use Rattle.merge_part.specs.Draft.{rows_in, edit_to}
use Rattle.merge_part.specs.Rule.{value_at, parent_value, IsAt}
use Rattle.merge_part.specs.Entering.{IsChangedTo, IsEntered, StaysFound}
use Rattle.merge_part.specs.Index.{Entries, entry_for, HasEntry, AreChildrenIndexed, AreParentsIndexed, AreDrafted, children_found, parents_found}
use Rattle.merge_part.specs.Waiting.{waits, KeepsWaiting, AreSpared, ReachedByRow}
use Rattle.merge_part.specs.Settling.{AllMeet, is_among, pends, LinksAreWithin}
use Rattle.merge_join.specs.declared.entry.JoinEntry.{JoinEntry}
use Rattle.merge_join.specs.Entries.{entry_cmp}
use Rattle.merge_join.specs.Index.{has}
use Rattle.merge_part.proofs.Drafts.{rows_in-push}
use Rattle.merge_part.proofs.Entries.{between_all, found_by_value}
use Rattle.merge_part.proofs.Kept.{same_key, IsHandled, RowReaches, row_changed}
use Rattle.merge_part.proofs.Settled.{is_at-swap, is_at-itself, child_spared, both_true}

pub changed_to : (held : List (RowKey × Content)) → IsStrictlySortedBy key_cmp (keys_of held) → (edits : List (Edit RowKey Content)) (key : RowKey) (content : Option Content)
    → IsChangedTo key content (rows_in held edits) (rows_in held (edits ++ edit_to key content ∷ []))
changed_to held sorted edits key content = λ q. rows_in-push held sorted edits key content q ∙ ap (λ b. cond b content (rows_in held edits q)) (is_at-swap q key)

-- the entries are drafted as those of the rows after one has changed
pub drafted_after : (links : List Link) (index : Indexes) (old new : DraftIndexes) (key : RowKey) (was is : Option Content) (rows rows' : RowKey → Option Content) → IsStrictlySortedBy entry_cmp index.children.set → IsStrictlySortedBy entry_cmp index.parents.set
    → rows key ≡ was → IsChangedTo key is rows rows' → AreDrafted links index old rows
    → IsEntered (λ link. link.child) (λ link. link.column) links (length links) old.children new.children key was is → IsEntered (λ link. link.parent) (λ link. link.parent_column) links (length links) old.parents new.parents key was is
    → AreDrafted links index new rows'
drafted_after links index old new key was is rows rows' sorted_children sorted_parents at changed drafted child parent = record {
  exact = record {
    as_children = λ e.
        child.entries index.children.set sorted_children rows rows' at changed drafted.exact.as_children e ∙ between_all (λ (link : Link). link.child) (λ (link : Link). link.column) links rows rows' e;
    as_parents = λ e.
        parent.entries index.parents.set sorted_parents rows rows' at changed drafted.exact.as_parents e ∙ between_all (λ (link : Link). link.parent) (λ (link : Link). link.parent_column) links rows rows' e;
  };
  children_come = child.come drafted.children_come;
  parents_come = parent.come drafted.parents_come;
}

-- each row is found by its values
pub children_indexed : (links : List Link) (index : Indexes) (draft : DraftIndexes) (rows : RowKey → Option Content) → AreDrafted links index draft rows → AreChildrenIndexed links (children_found index draft) rows
children_indexed links index draft rows drafted = λ key content live number link at here.
    found_by_value (λ (l : Link). l.child) (λ (l : Link). l.column) links index.children.set draft.children rows drafted.exact.as_children drafted.children_come key content live number link at here

pub parents_indexed : (links : List Link) (index : Indexes) (draft : DraftIndexes) (rows : RowKey → Option Content) → AreDrafted links index draft rows → AreParentsIndexed links (parents_found index draft) rows
parents_indexed links index draft rows drafted = λ key content live number link at here.
    found_by_value (λ (l : Link). l.parent) (λ (l : Link). l.parent_column) links index.parents.set draft.parents rows drafted.exact.as_parents drafted.parents_come key content live number link at here

more_found : (set come come' : Entries) (e : JoinEntry) → (has come e ≡ true → has come' e ≡ true) → has (set ++ come) e ≡ true → has (set ++ come') e ≡ true
more_found set come come' e stay h =
    list_any-append (is_at (entry_cmp e)) set come' ∙ step (has set e) (has come e) (has come' e) stay (sym (list_any-append (is_at (entry_cmp e)) set come) ∙ h)
  where
    step : (a b c : Bool) → (b ≡ true → c ≡ true) → (a || b) ≡ true → (a || c) ≡ true
    step true b c more h = refl
    step false b c more h = more h

-- and goes on being so while more comes
pub still_indexed : (links : List Link) (index : Indexes) (old new : DraftIndexes) (rows : RowKey → Option Content) → AreDrafted links index old rows → StaysFound old.children new.children → AreChildrenIndexed links (children_found index new) rows
unfolding HasEntry
still_indexed links index old new rows drafted stay = λ key content live number link at here some.
    more_found index.children.set old.children.come.set new.children.come.set (entry_for number (value_at content.values link.column) key.row) (stay (entry_for number (value_at content.values link.column) key.row))
    (children_indexed links index old rows drafted key content live number link at here some)

module _ (links : List Link) (key : RowKey) (content : Option Content) (rows rows' : RowKey → Option Content) (changed : IsChangedTo key content rows rows') where
  itself : rows' key ≡ content
  itself = changed key ∙ ap (λ b. cond b content (rows key)) (is_at-itself key)

  other : (q : RowKey) → is_at (key_cmp key) q ≡ false → rows' q ≡ rows q
  other q apart = changed q ∙ ap (λ b. cond b content (rows q)) apart

  -- what waits after the children were reached
  module _ (children : Entries) (indexed : AreChildrenIndexed links children rows) (order : List ℕ) (within : LinksAreWithin links order) (among : is_among order key.article ≡ true) (waiting waited : List RowKey) (kept : KeepsWaiting waiting waited) (itself_waits : waits waited key ≡ true) where
    child_handled : (marks : RowKey → Sites) (k : RowKey) (number : ℕ) (link : Link) (x : Content) (held : Option Content) → IsAt links number link → link.child ≡ k.article → rows k ≡ Some x
        → AreSpared rows marks key (marks key) children number link (parent_value link held) waited → IsHandled key rows marks link (value_at x.values link.column) held (pends order waited k)
    child_handled marks k number link x held at below live spared joined place has =
        elim (child_spared links children rows indexed marks key (marks key) waited held k number link x at below live spared joined place has) [
          | inl here ↦
              let comes : is_among order k.article ≡ true = subst (λ a. is_among order a ≡ true) below (within number link at) in
              inl (both_true (is_among order k.article) (waits waited k) comes here)
          | inr given ↦ inr given
        ]

    row_reaches : (marks : RowKey → Sites) → ReachedByRow links (length links) rows marks key (marks key) children (rows key) content waited → RowReaches links key rows rows' marks (pends order waited)
    row_reaches marks reached k number link x at below above live =
        elim (reached number link at.0 at above) [
          | inl same ↦ inl (same ∙ ap (parent_value link) (sym itself))
          | inr wait ↦ inr (
            child_handled marks k number link x (rows key) at below live wait.0,
            subst (λ held. IsHandled key rows marks link (value_at x.values link.column) held (pends order waited k)) (sym itself) (child_handled marks k number link x content at below live wait.1),
          )
        ]

    not_true : (b : Bool) → (b ≡ true → true ≡ false) → b ≡ false
    not_true true h = h refl
    not_true false h = refl

    and_false_by : (a b c : Bool) → (b ≡ true → c ≡ true) → (a && c) ≡ false → (a && b) ≡ false
    and_false_by false b c more h = refl
    and_false_by true false c more h = refl
    and_false_by true true c more h = let bad : true ≡ false = sym (more refl) ∙ h in absurd cc

    fewer : (p : RowKey) → pends order waited p ≡ false → (is_at (key_cmp key) p ≡ false) × (pends order waiting p ≡ false)
    fewer p none = (
      not_true (is_at (key_cmp key) p) (λ is.
          let comes : is_among order p.article ≡ true = subst (λ (q : RowKey). is_among order q.article ≡ true) (same_key key p is) among in
          sym (both_true (is_among order p.article) (waits waited p) comes (subst (λ (q : RowKey). waits waited q ≡ true) (same_key key p is) itself_waits)) ∙ none),
      and_false_by (is_among order p.article) (waits waiting p) (waits waited p) (kept p) none,
    )

    -- each row that does not wait goes on meeting the rule
    pub met_after : (marks : RowKey → Sites) → ReachedByRow links (length links) rows marks key (marks key) children (rows key) content waited
        → AllMeet links rows marks (pends order waiting) → AllMeet links rows' marks (pends order waited)
    met_after marks reached all = row_changed links key rows rows' marks (pends order waiting) (pends order waited) other fewer (row_reaches marks reached) all
