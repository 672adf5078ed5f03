-- Values whose children wait, and values of which it is known what they give.
use Rattle.std.proofs.Common.{◌≡◌, ◌⊎◌, inl, inr, ℕ, ◌<◌, ◌+◌, Bool, true, false, cond, ◌||◌, ◌==◌, List, [], ◌∷◌, ◌++◌, length, Option, Some, None, refl, sym, ap, ◌∙◌, subst, arith}
use Rattle.std.specs.Prelude.{is_some}
use Rattle.std.specs.Map.{lookup, keys_of}
use Rattle.std.specs.BTreeMap.{is_at, insert_entry}
use Rattle.std.specs.BTreeSet.{insert_key}
use Rattle.std.proofs.lemmas.Bool.Decides.{nat_tests}
use Rattle.std.proofs.lemmas.List.Folds.{list_any-append}
use Rattle.merge_types.specs.declared.identifiers.RowId.{RowId}
use Rattle.merge_types.specs.declared.values.Value.{Value}
use Rattle.merge_types.specs.declared.values.Value.TheVariants.{Null}
use Rattle.merge_types.specs.declared.row_key.RowKey.{RowKey}
use Rattle.merge_types.specs.RowKeys.{key_cmp}
use Rattle.merge_table.proofs.LookUps.{lookup-insert_entry}
use Rattle.merge_table.proofs.Room.{has_room-insert_key}
use Rattle.merge_table.proofs.Slots.{keys-insert_entry}
use Rattle.merge_join.specs.declared.entry.JoinEntry.{JoinEntry}
use Rattle.merge_join.specs.Entries.{entry_cmp}
use Rattle.merge_join.specs.Index.{has}
use Rattle.merge_join.proofs.Members.{entry_total, at_exact}
use Rattle.merge_part.specs.declared.content.Content.{Content}
use Rattle.merge_part.specs.declared.index.DraftIndex.{DraftIndex}
use Rattle.merge_part.specs.declared.link.Link.{Link}
use Rattle.merge_part.specs.declared.sites.Sites.{Sites}
use Rattle.merge_part.specs.Entering.{IsEntered}
use Rattle.merge_part.specs.Index.{Entries, entry_for, first_of, at_link, HasEntry}
use Rattle.merge_part.specs.Rule.{IsAt, parent_value, row_gives, gives, parent_of}
use Rattle.merge_part.specs.Settling.{AreGiven, AreKnown, NoneFollowsItself}
use Rattle.merge_part.specs.Waiting.{waits, child_of, ChildrenWait, AreSpared, KeepsWaiting, AreReached, ReachedByMarks}
use Rattle.merge_part.proofs.Entries.{at_link-is}
use Rattle.merge_part.proofs.Kept.{same_key}
use Rattle.merge_part.proofs.Reached.{spared_kept}

or_cases : (a b : Bool) → (a || b) ≡ true → (a ≡ true) ⊎ (b ≡ true)
or_cases true b h = inl refl
or_cases false b h = inr h

-- the children of values wait on as more rows wait
pub reached_on : (links : List Link) (children values : Entries) (waiting waiting' : List RowKey) → KeepsWaiting waiting waiting' → AreReached links children values waiting → AreReached links children values waiting'
reached_on links children values waiting waiting' kept reached = λ number value there link at row entry some. kept (child_of link row) (reached number value there link at row entry some)

-- one value more is reached
pub reached_more : (links : List Link) (children : Entries) (values : List (JoinEntry × Unit {0})) (number : ℕ) (value : Value) (waiting : List RowKey) → AreReached links children (keys_of values) waiting
    → ((link : Link) → IsAt links number link → ChildrenWait children number link value waiting) → AreReached links children (keys_of (insert_entry entry_cmp values (first_of number value) tt)) waiting
reached_more links children values number value waiting reached here n v there link at =
    elim (or_cases (is_at (entry_cmp (first_of n v)) (first_of number value)) (has (keys_of values) (first_of n v))
    (sym (ap (λ (s : Entries). has s (first_of n v)) (keys-insert_entry entry_cmp (first_of number value) tt values) ∙ has_room-insert_key entry_cmp entry_total (first_of number value) (first_of n v) (keys_of values)) ∙ there)) [
      | inl same ↦
          let is : first_of n v ≡ first_of number value = at_exact (first_of n v) (first_of number value) same in
          let by_number : number ≡ n = ap (λ (e : JoinEntry). e.join) (sym is) in
          let by_value : value ≡ v = ap (λ (e : JoinEntry). e.value) (sym is) in
          subst (λ m. ChildrenWait children m link v waiting) by_number (subst (λ w. ChildrenWait children number link w waiting) by_value (here link (subst (λ m. IsAt links m link) (sym by_number) at)))
      | inr was ↦ reached n v was link at
    ]

-- what a value's look-up finds is reached
some_has : (values : List (JoinEntry × Unit {0})) (e : JoinEntry) → is_some (lookup (is_at (entry_cmp e)) values) ≡ true → has (keys_of values) e ≡ true
some_has [] e h = absurd cc
some_has ((k, u) ∷ values) e h = by (is_at (entry_cmp e) k) (some_has values e) h
  where
    by : (b : Bool) → (is_some (lookup (is_at (entry_cmp e)) values) ≡ true → has (keys_of values) e ≡ true) → is_some (cond b (Some u) (lookup (is_at (entry_cmp e)) values)) ≡ true → (b || has (keys_of values) e) ≡ true
    by true ih g = refl
    by false ih g = ih g

pub found_reached : (links : List Link) (children : Entries) (values : List (JoinEntry × Unit {0})) (number : ℕ) (value : Value) (waiting : List RowKey) → AreReached links children (keys_of values) waiting
    → is_some (lookup (is_at (entry_cmp (first_of number value))) values) ≡ true → (link : Link) → IsAt links number link → ChildrenWait children number link value waiting
found_reached links children values number value waiting reached there link at = reached number value (some_has values (first_of number value) there) link at

-- entries that come for a row that waits leave the others' children waiting
pub reached_entered : (links : List Link) (set values : Entries) (old new : DraftIndex) (key : RowKey) (was is : Option Content) (waiting : List RowKey) → IsEntered (λ link. link.child) (λ link. link.column) links (length links) old new key was is
    → waits waiting key ≡ true → AreReached links (set ++ old.come.set) values waiting → AreReached links (set ++ new.come.set) values waiting
unfolding HasEntry
reached_entered links set values old new key was is waiting entered here reached = λ number value there link at row entry some.
    let e : JoinEntry = entry_for number value row in
    let before : (has (set ++ old.come.set) e ≡ true) → waits waiting (child_of link row) ≡ true = λ h. reached number value there link at row (λ apart. h) some in
    elim (or_cases (has set e) (has new.come.set e) (sym (list_any-append (is_at (entry_cmp e)) set new.come.set) ∙ entry some)) [
      | inl held ↦ before (list_any-append (is_at (entry_cmp e)) set old.come.set ∙ left (has set e) (has old.come.set e) held)
      | inr come ↦
          elim (entered.fresh e come) [
            | inl earlier ↦ before (list_any-append (is_at (entry_cmp e)) set old.come.set ∙ right (has set e) (has old.come.set e) earlier)
            | inr now ↦
                let linked : (link.child == key.article) ≡ true = sym (at_link-is links number link (λ l. l.child == key.article) at) ∙ now.0 in
                let child : link.child ≡ key.article = grind (arith, nat_tests, linked) in
                let of_article : ℕ → RowKey = λ a. record { article = a; row = row } in
                let of_row : RowId → RowKey = λ r. record { article = key.article; row = r } in
                subst (λ (k : RowKey). waits waiting k ≡ true) (sym (ap of_article child ∙ ap of_row now.1)) here
          ]
    ]
  where
    left : (a b : Bool) → a ≡ true → (a || b) ≡ true
    left true b h = refl
    left false b h = absurd cc

    right : (a b : Bool) → b ≡ true → (a || b) ≡ true
    right true b h = refl
    right false b h = h

last_or_before : (k n : ℕ) → k < n + 1 → (k < n) ⊎ (k ≡ n)
last_or_before k n less = grind arith

-- with one link more the children that a row's marks reach wait
pub marks_next : (links : List Link) (rows : RowKey → Option Content) (marks : RowKey → Sites) (key : RowKey) (sites : Sites) (children : Entries) (n : ℕ) (content : Option Content) (before after : List RowKey) → KeepsWaiting before after
    → ((link : Link) → IsAt links n link → link.parent ≡ key.article → AreSpared rows marks key sites children n link (parent_value link content) after)
    → ReachedByMarks links n rows marks key sites children content before → ReachedByMarks links (n + 1) rows marks key sites children content after
marks_next links rows marks key sites children n content before after kept here so_far = λ number link less at parent.
    elim (last_or_before number n less) [
      | inl earlier ↦ spared_kept rows marks key sites children number link (parent_value link content) before after kept (so_far number link earlier at parent)
      | inr last ↦ subst (λ k. AreSpared rows marks key sites children k link (parent_value link content) after) (sym last) (here link (subst (λ k. IsAt links k link) last at) parent)
    ]

pub none_reached : (links : List Link) (children : Entries) (waiting : List RowKey) → AreReached links children [] waiting
none_reached links children waiting number value there link at = let bad : false ≡ true = there in absurd cc

-- nothing is known yet
pub none_known : (links : List Link) (entries : Entries) (rows : RowKey → Option Content) (marks : RowKey → Sites) (article : ℕ) → AreKnown links entries rows marks article []
none_known links entries rows marks article number value sites is link at child = let bad : None ≡ Some sites = is in absurd cc

known_by : (links : List Link) (entries : Entries) (rows : RowKey → Option Content) (marks : RowKey → Sites) (article number n : ℕ) (value v : Value) (sites s : Sites) (rest : Option Sites)
    → ((link : Link) → IsAt links number link → link.child ≡ article → AreGiven entries rows marks number link value sites)
    → (rest ≡ Some s → (link : Link) → IsAt links n link → link.child ≡ article → AreGiven entries rows marks n link v s)
    → (b : Bool) → is_at (entry_cmp (first_of n v)) (first_of number value) ≡ b → cond b (Some sites) rest ≡ Some s → (link : Link) → IsAt links n link → link.child ≡ article → AreGiven entries rows marks n link v s
known_by links entries rows marks article number n value v sites s rest here others true same is link at child =
    let e : first_of n v ≡ first_of number value = at_exact (first_of n v) (first_of number value) same in
    let by_number : number ≡ n = ap (λ (x : JoinEntry). x.join) (sym e) in
    let by_value : value ≡ v = ap (λ (x : JoinEntry). x.value) (sym e) in
    let by_sites : sites ≡ s = cc in
    subst (λ t. AreGiven entries rows marks n link v t) by_sites
    (subst (λ m. AreGiven entries rows marks m link v sites) by_number (subst (λ w. AreGiven entries rows marks number link w sites) by_value (here link (subst (λ m. IsAt links m link) (sym by_number) at) child)))
known_by links entries rows marks article number n value v sites s rest here others false same is link at child = others is link at child

-- one value more is known
pub known_more : (links : List Link) (entries : Entries) (rows : RowKey → Option Content) (marks : RowKey → Sites) (article : ℕ) (memo : List (JoinEntry × Sites)) (number : ℕ) (value : Value) (sites : Sites)
    → ((link : Link) → IsAt links number link → link.child ≡ article → AreGiven entries rows marks number link value sites)
    → AreKnown links entries rows marks article memo → AreKnown links entries rows marks article (insert_entry entry_cmp memo (first_of number value) sites)
known_more links entries rows marks article memo number value sites here known n v s is =
    known_by links entries rows marks article number n value v sites s (lookup (is_at (entry_cmp (first_of n v))) memo) here (known n v s) (is_at (entry_cmp (first_of n v)) (first_of number value)) refl
    (sym (lookup-insert_entry entry_cmp entry_total (first_of number value) (first_of n v) sites memo) ∙ is)

not_true : (b : Bool) → (b ≡ true → ⊥) → b ≡ false
not_true true none = absurd (none refl)
not_true false none = refl

module _ (links : List Link) (apart : NoneFollowsItself links) (entries : Entries) (rows : RowKey → Option Content) (marks marks' : RowKey → Sites) (key : RowKey) (others : (k : RowKey) → is_at (key_cmp key) k ≡ false → marks' k ≡ marks k) where
  same_gives : (number : ℕ) (link : Link) → IsAt links number link → link.child ≡ key.article → (value : Value) (place : ℕ) (row : RowId) → row_gives rows marks' value link place row ≡ row_gives rows marks value link place row
  same_gives number link at child value place row =
      let other : is_at (key_cmp key) (parent_of link row) ≡ false
      = not_true (is_at (key_cmp key) (parent_of link row)) (λ h. apart number link at (child ∙ ap (λ (k : RowKey). k.article) (same_key key (parent_of link row) h))) in
      ap (λ s. gives value link (rows (parent_of link row)) s place) (others (parent_of link row) other)

  -- what is known of an article's parents stays so while its own rows are settled
  pub known_on : (memo : List (JoinEntry × Sites)) → AreKnown links entries rows marks key.article memo → AreKnown links entries rows marks' key.article memo
  known_on memo known number value sites is link at child =
      let was = known number value sites is link at child in
      record {
        given = λ place h. let by = was.given place h in (by.0, same_gives number link at child value place by.0 ∙ by.1);
        all = λ place row entry h. was.all place row entry (sym (same_gives number link at child value place row) ∙ h);
      }
