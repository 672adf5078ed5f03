-- The items of an upload that act, one after the other: what the publisher's versions know then, and what its decided changes knew.
use Rattle.std.specs.Prelude.{◌≡◌, ◌≤◌, ◌<◌, ◌+◌, ◌++◌, ◌&&◌, ◌||◌, ℕ, List, [], ◌∷◌, Bool, true, false, Option, Some, None, refl, if◌then◌else◌, is_some}
use Rattle.std.specs.List.{AllByRecursion, fold, list_any}
use Rattle.std.proofs.Common.{arith, subst, sym, ap, ◌∙◌}
use Rattle.std.proofs.lemmas.Bool.Decides.{nat_tests}
use Rattle.std.proofs.lemmas.List.Folds.{list_any-append}
use Rattle.merge_types.specs.declared.identifiers.Dot.{Dot}
use Rattle.merge_types.specs.declared.identifiers.SiteId.{SiteId}
use Rattle.merge_units.specs.declared.case.Case.{Case}
use Rattle.merge_units.specs.declared.result.Decision.{Decision}
use Rattle.merge_units.specs.declared.result.Decision.TheVariants.{Custom, KeepPublisher, TakeSubscriber}
use Rattle.merge_units.specs.declared.version.Version.{Version}
use Rattle.merge_batch.specs.declared.request.UploadItem.{UploadItem}
use Rattle.merge_model.specs.Publisher.Acts.{Act, Fate, Met, New, Unknown, act_of, acts_from, case_met, changes_by, decided_changes, decision_for, fate_by, is_new_row, key_of_item, left_by, made_by}
use Rattle.merge_units.specs.Cases.{is_conflict}
use Rattle.merge_model.specs.Publisher.Entries.{Entries}
use Rattle.merge_model.specs.History.{History, MadeChange, Past, has, past_at, past_in}
use Rattle.merge_model.specs.Judge.{PublisherJudge}
use Rattle.merge_model.specs.Tables.Keys.{row_at, same_key}
use Rattle.merge_model.specs.History.Noting
use Rattle.merge_model.specs.History.Pasts.{past_by}
use Rattle.merge_types.specs.declared.row_key.RowKey.{RowKey as Key}
use Rattle.merge_units.specs.declared.site_row.PublisherRow.{PublisherRow}
use Rattle.merge_model.specs.Tables.{PublisherTables}
use Rattle.merge_laws.specs.Invariants.Accepting.{IsFine, KnowsAccepted, accepts}
use Rattle.merge_laws.specs.Facts.Knowledge.{same_dot}
use Rattle.merge_laws.specs.Facts.LineagesStand.{is_of}
use Rattle.merge_laws.specs.Facts.Standing.{IsKnownLater}
use Rattle.merge_model.proofs.Lists.Finding.{all-weaker}
use Rattle.merge_model.proofs.Lists.KeyLookUps.{keys-same}
use Rattle.merge_laws.proofs.Own.OwnKnowing.{IsBelow, making-more}
use Rattle.merge_laws.proofs.Own.OwnPasts.{SameBut, put-but}
use Rattle.merge_laws.proofs.Pasts.PastLookUps.{with-past-same}
use Rattle.merge_model.proofs.Lists.Tests.{if-either, or-onward, if-both}

-- What is known of the rows that the publisher held, with what it accepted before and what it accepts in the end.
pub record ActsKnow (rows : List (Key × PublisherRow)) (before accepted : List Dot) (counts : MadeChange → Bool) (base : List (ℕ × List (Key × Past))) (Q : MadeChange → Type 0) (number : ℕ) (h : History) : Type 0 where
  pub making : AllByRecursion (IsKnownLater h.made counts) h.made
  -- the publisher's next change has this number
  pub next : 1 ≤ number
  pub below : AllByRecursion (λ (x : MadeChange). x.dot.site.0 ≡ 0 → x.dot.number < number) h.made
  pub held : (key : Key) → is_some (row_at rows key) ≡ true → KnowsAccepted h.made before key (past_at h 0 key).known
  pub here : (key : Key) (dot : Dot) → has (past_at h 0 key).known dot ≡ true → accepts accepted dot ≡ true
  pub fine : AllByRecursion (IsFine accepted) h.made
  pub others : SameBut 0 base h.pasts
  -- and what else holds of changes of the publisher on rows that it holds
  pub also : AllByRecursion Q h.made

known-if : (b : Bool) (past other : Past) (dot : Dot) (X : Type 0) → (has past.known dot ≡ true → X) → (has other.known dot ≡ true → X) → has (if b then past else other).known dot ≡ true → X
known-if true past other dot X one two is = one is
known-if false past other dot X one two is = two is

pub accepted-more : (made : List MadeChange) (before : List Dot) (key : Key) (known more : List Dot) → ((dot : Dot) → has known dot ≡ true → has more dot ≡ true) → KnowsAccepted made before key known → KnowsAccepted made before key more
accepted-more made before key known more grows all = all-weaker (λ (c : MadeChange). same_key key c.key ≡ true → accepts before c.dot ≡ true → has known c.dot ≡ true) (λ (c : MadeChange). same_key key c.key ≡ true → accepts before c.dot ≡ true → has more c.dot ≡ true)
    (λ c old row is. grows c.dot (old row is)) made all

pub own-accepts : (accepted : List Dot) (dot : Dot) → dot.site.0 ≡ 0 → accepts accepted dot ≡ true
own-accepts accepted dot own = grind (arith, nat_tests, own)

append-known : (a b : List Dot) (dot : Dot) → has (a ++ b) dot ≡ (has a dot || has b dot)
append-known a b dot = list_any-append (λ (x : Dot). same_dot x dot) a b

module _ (rows : List (Key × PublisherRow)) (before accepted : List Dot) (counts : MadeChange → Bool) (base : List (ℕ × List (Key × Past))) (Q : MadeChange → Type 0)
    (each : (c : MadeChange) → c.dot.site.0 ≡ 0 → is_some (row_at rows c.key) ≡ true → Q c) where
  abbrev Knows : ℕ → History → Type 0
  Knows number h = ActsKnow rows before accepted counts base Q number h

  -- a version of a row is put
  put-knows : (number : ℕ) (h : History) (key : Key) (past : Past) → (is_some (row_at rows key) ≡ true → (dot : Dot) → has (past_at h 0 key).known dot ≡ true → has past.known dot ≡ true)
      → ((dot : Dot) → has past.known dot ≡ true → accepts accepted dot ≡ true) → Knows number h → Knows number (Noting.with_past 0 key past h)
  put-knows number h key past grows all a = record {
    making = a.making;
    next = a.next;
    below = a.below;
    held = λ q there. subst (λ (x : Past). KnowsAccepted h.made before q x.known) (sym (with-past-same h 0 key past q)) (if-either (λ (x : Past). KnowsAccepted h.made before q x.known) (same_key q key) past (past_at h 0 q)
        (λ same. (let is : q ≡ key = keys-same q key same in accepted-more h.made before q (past_at h 0 q).known past.known
        (λ dot known. grows (subst (λ (k : Key). is_some (row_at rows k) ≡ true) is there) dot (subst (λ (k : Key). has (past_at h 0 k).known dot ≡ true) is known)) (a.held q there)))
        (λ differs. a.held q there));
    here = λ q dot is. known-if (same_key q key) past (past_at h 0 q) dot (accepts accepted dot ≡ true) (all dot) (a.here q dot) (sym (ap (λ (x : Past). has x.known dot) (with-past-same h 0 key past q)) ∙ is);
    fine = a.fine;
    others = put-but 0 _ base h.pasts a.others;
    also = a.also;
  }

  lost-knows : (number : ℕ) (h : History) (key : Key) (past : Past) → Knows number h → Knows number (Noting.with_lost 0 key past h)
  lost-knows number h key past a = record { making = a.making; next = a.next; below = a.below; held = a.held; here = a.here; fine = a.fine; others = a.others; also = a.also }

  accepted-knows : (number : ℕ) (h : History) (past : Past) → Knows number h → Knows number (Noting.with_accepted past h)
  accepted-knows number h past a = record { making = a.making; next = a.next; below = a.below; held = a.held; here = a.here; fine = a.fine; others = a.others; also = a.also }

  again : (number other : ℕ) (h : History) → other ≡ number → Knows number h → Knows other h
  again number other h same a = subst (λ (n : ℕ). Knows n h) (sym same) a

  if-knows : (number : ℕ) (b : Bool) (x y : History) → Knows number x → Knows number y → Knows number (if b then x else y)
  if-knows number true x y one other = one
  if-knows number false x y one other = other

  loser-knows : (number : ℕ) (decision : Decision) (key : Key) (ours theirs : Past) (h : History) → Knows number h → Knows number (Noting.with_loser decision key ours theirs h)
  loser-knows number KeepPublisher key ours theirs h a = lost-knows number h key theirs a
  loser-knows number TakeSubscriber key ours theirs h a = lost-knows number h key ours a
  loser-knows number (Custom values) key ours theirs h a = lost-knows number (Noting.with_lost 0 key ours h) key theirs (lost-knows number h key ours a)

  -- decided values are a change of the publisher
  module _ (number : ℕ) (h : History) (c : MadeChange) (theirs : Past) (own : c.dot.site.0 ≡ 0) (at : c.dot.number ≡ number) (is : c.past.known ≡ c.dot ∷ (past_at h 0 c.key).known ++ theirs.known) (there : is_some (row_at rows c.key) ≡ true)
      (all : (dot : Dot) → has theirs.known dot ≡ true → accepts accepted dot ≡ true) (a : Knows number h) where
    decided-grows : (dot : Dot) → has (past_at h 0 c.key).known dot ≡ true → has c.past.known dot ≡ true
    decided-grows dot known = ap (λ (dots : List Dot). has dots dot) is ∙ (let both = append-known (past_at h 0 c.key).known theirs.known dot in grind (arith, both, known))

    decided-own : has c.past.known c.dot ≡ true
    decided-own = ap (λ (dots : List Dot). has dots c.dot) is ∙ grind (arith, nat_tests)

    decided-accepted : (dot : Dot) → has c.past.known dot ≡ true → accepts accepted dot ≡ true
    decided-accepted dot known =
        let parts : (same_dot c.dot dot || has ((past_at h 0 c.key).known ++ theirs.known) dot) ≡ true = sym (ap (λ (dots : List Dot). has dots dot) is) ∙ known in
        let both = append-known (past_at h 0 c.key).known theirs.known dot in
        grind (arith, nat_tests, parts, both, own, a.here c.key dot, all dot)

    decided-held : (q : Key) → is_some (row_at rows q) ≡ true → KnowsAccepted (c ∷ h.made) before q (if same_key q c.key then c.past else past_at h 0 q).known
    decided-held q at_q = if-either (λ (x : Past). KnowsAccepted (c ∷ h.made) before q x.known) (same_key q c.key) c.past (past_at h 0 q)
        (λ same. (let equal : q ≡ c.key = keys-same q c.key same in (λ row accept. decided-own, accepted-more h.made before q (past_at h 0 q).known c.past.known (λ dot known. decided-grows dot (subst (λ (k : Key). has (past_at h 0 k).known dot ≡ true) equal known)) (a.held q at_q))))
        (λ differs. (λ row accept. absurd (grind (arith, row, differs)), a.held q at_q))

    decided-making : AllByRecursion (IsKnownLater (c ∷ h.made) counts) (c ∷ h.made)
    decided-making = making-more h.made counts c (let low = a.next in omega (arith, low, at)) decided-own
        (all-weaker (λ (x : MadeChange). x.dot.site.0 ≡ 0 → x.dot.number < number) (IsBelow h.made counts c) (λ x low same. (let under : x.dot.number < number = low (same ∙ own) in omega (arith, under, at))) h.made a.below)
        (all-weaker (λ (x : MadeChange). same_key c.key x.key ≡ true → accepts before x.dot ≡ true → has (past_at h 0 c.key).known x.dot ≡ true) (λ (x : MadeChange). same_key c.key x.key ≡ true → is_of c.dot.site.0 x ≡ true → counts x ≡ true → has c.past.known x.dot ≡ true)
        (λ x knew row site counted. decided-grows x.dot (knew row (own-accepts before x.dot (let same : x.dot.site.0 ≡ c.dot.site.0 = grind (arith, nat_tests, site) in same ∙ own)))) h.made (a.held c.key there))
        a.making

    pub decided-knows : Knows (number + 1) (Noting.with_past 0 c.key c.past (record h { made = c ∷ h.made }))
    decided-knows = record {
      making = decided-making;
      next = omega arith;
      below = (λ zero. omega (arith, at), all-weaker (λ (x : MadeChange). x.dot.site.0 ≡ 0 → x.dot.number < number) (λ (x : MadeChange). x.dot.site.0 ≡ 0 → x.dot.number < number + 1) (λ x low zero. (let under : x.dot.number < number = low zero in omega (arith, under))) h.made a.below);
      held = λ q at_q. subst (λ (x : Past). KnowsAccepted (c ∷ h.made) before q x.known) (sym (with-past-same (record h { made = c ∷ h.made }) 0 c.key c.past q)) (decided-held q at_q);
      here = λ q dot known. known-if (same_key q c.key) c.past (past_at h 0 q) dot (accepts accepted dot ≡ true) (decided-accepted dot) (a.here q dot)
          (sym (ap (λ (x : Past). has x.known dot) (with-past-same (record h { made = c ∷ h.made }) 0 c.key c.past q)) ∙ known);
      fine = (record { others = λ dot known differs. decided-accepted dot known; closed = λ accept dot known. decided-accepted dot known }, a.fine);
      others = put-but 0 _ base h.pasts a.others;
      also = (each c own there, a.also);
    }

  -- an item meets the row that is held
  module _ (number generation : ℕ) (key : Key) (theirs : Past) (h : History) (there : is_some (row_at rows key) ≡ true) (all : (dot : Dot) → has theirs.known dot ≡ true → accepts accepted dot ≡ true) (a : Knows number h) where
    abbrev ours : Past
    ours = past_at h 0 key

    merged-grows : (dot : Dot) → has ours.known dot ≡ true → has (ours.known ++ theirs.known) dot ≡ true
    merged-grows dot known = let both = append-known ours.known theirs.known dot in grind (arith, both, known)

    merged-accepted : (dot : Dot) → has (ours.known ++ theirs.known) dot ≡ true → accepts accepted dot ≡ true
    merged-accepted dot known = let both = append-known ours.known theirs.known dot in grind (arith, both, known, a.here key dot, all dot)

    met-knows : (case : Case) (decision : Decision) (dot : Dot) → dot.site.0 ≡ 0 → dot.number ≡ number → Knows (number + decided_changes decision) (Noting.with_meeting case decision dot generation key ours theirs h)
    met-knows case KeepPublisher dot own at =
        let after : History = Noting.with_past 0 key (past_by case KeepPublisher dot ours theirs) h in
        let now : Knows (number + 0) after = again number (number + 0) after (omega arith) (put-knows number h key (past_by case KeepPublisher dot ours theirs) (λ held. merged-grows) merged-accepted a) in
        if-knows (number + 0) (is_conflict case) (Noting.with_loser KeepPublisher key ours theirs after) after (loser-knows (number + 0) KeepPublisher key ours theirs after now) now
    met-knows case TakeSubscriber dot own at =
        let after : History = Noting.with_past 0 key (past_by case TakeSubscriber dot ours theirs) h in
        let now : Knows (number + 0) after = again number (number + 0) after (omega arith) (put-knows number h key (past_by case TakeSubscriber dot ours theirs) (λ held. merged-grows) merged-accepted a) in
        if-knows (number + 0) (is_conflict case) (Noting.with_loser TakeSubscriber key ours theirs after) after (loser-knows (number + 0) TakeSubscriber key ours theirs after now) now
    met-knows case (Custom values) dot own at =
        let c : MadeChange = Noting.decided_change dot generation key case (past_by case (Custom values) dot ours theirs) in
        let after : History = Noting.with_past dot.site.0 key c.past (record h { made = c ∷ h.made }) in
        let now : Knows (number + 1) after = subst (λ (site : ℕ). Knows (number + 1) (Noting.with_past site key c.past (record h { made = c ∷ h.made }))) (sym own) (decided-knows number h c theirs own at refl there all a) in
        if-knows (number + 1) (is_conflict case) (Noting.with_loser (Custom values) key ours theirs after) after (loser-knows (number + 1) (Custom values) key ours theirs after now) now

  fate-knows : (judge : PublisherJudge) (site : SiteId) (number generation : ℕ) (decisions : List Decision) (item : UploadItem) (theirs : Past) (found : Option PublisherRow) (h : History) → row_at rows (key_of_item item) ≡ found
      → ((dot : Dot) → has theirs.known dot ≡ true → accepts accepted dot ≡ true) → Knows number h
      → (let fate : Fate = fate_by judge site number decisions item found in Knows (number + made_by fate) (Noting.with_fate fate generation (key_of_item item) theirs h))
  fate-knows judge site number generation decisions item theirs None h is all a =
      let key : Key = key_of_item item in
      elim (is_new_row judge site key) as (λ (b : Bool). (let fate : Fate = if b then New else Unknown in Knows (number + made_by fate) (Noting.with_fate fate generation key theirs h))) [
        | true ↦ again number (number + 0) (Noting.with_past 0 key theirs h) (omega arith) (put-knows number h key theirs (λ there. absurd (grind (arith, is, there))) all a)
        | false ↦ again number (number + 0) (Noting.with_lost 0 key theirs h) (omega arith) (lost-knows number h key theirs a)
      ]
  fate-knows judge site number generation decisions item theirs (Some held) h is all a =
      let key : Key = key_of_item item in
      let case : Case = case_met judge key held.version item.version in
      met-knows number generation key theirs h (grind (arith, is)) all a case (decision_for case decisions) (record { site = record { 0 = 0 }; number = number }) refl refl

  pub acts-know : (judge : PublisherJudge) (site : SiteId) (p : PublisherTables) (incoming : List (Key × Past)) (entries : Entries) (number : ℕ) (decisions : List Decision) (items : List UploadItem) (h : History) → p.rows ≡ rows
      → AllByRecursion (λ (item : UploadItem). (dot : Dot) → has (past_in incoming (key_of_item item)).known dot ≡ true → accepts accepted dot ≡ true) items → Knows number h
      → (let acts : List Act = acts_from judge site p number decisions items in Knows (number + changes_by acts) (fold (Noting.with_act incoming entries) h acts))
  acts-know judge site p incoming entries number decisions [] h same all a = again number (number + 0) h (omega arith) a
  acts-know judge site p incoming entries number decisions (item ∷ items) h same all a =
      let act : Act = act_of judge site p number decisions item in
      let acts : List Act = acts_from judge site p (number + made_by act.fate) (left_by act.fate decisions) items in
      let key : Key = key_of_item item in
      let past : Past = past_in incoming key in
      let next : History = Noting.with_act incoming entries h act in
      let found : row_at rows key ≡ row_at p.rows key = ap (λ (es : List (Key × PublisherRow)). row_at es key) (sym same) in
      let here : Knows (number + made_by act.fate) next =
      accepted-knows (number + made_by act.fate) (Noting.with_fate act.fate (Noting.entry_generation entries key) key past h) past
      (fate-knows judge site number (Noting.entry_generation entries key) decisions item past (row_at p.rows key) h found all.0 a) in
      again (number + made_by act.fate + changes_by acts) (number + (made_by act.fate + changes_by acts)) (fold (Noting.with_act incoming entries) next acts) (omega arith)
      (acts-know judge site p incoming entries (number + made_by act.fate) (left_by act.fate decisions) items next same all.1 here)

-- What an item knew of its row the publisher's version knows afterwards, where it put one.

abbrev pub is_brought : Fate → Bool
is_brought New = true
is_brought Unknown = false
is_brought (Met held case decision dot) = true

module _ (incoming : List (Key × Past)) (q : Key) (dot : Dot) (came : has (past_in incoming q).known dot ≡ true) where
  abbrev Known : History → Type 0
  Known h = has (past_at h 0 q).known dot ≡ true

  put-known : (h : History) (key : Key) (past : Past) → (same_key q key ≡ true → has past.known dot ≡ true) → (same_key q key ≡ false → Known h) → Known (Noting.with_past 0 key past h)
  put-known h key past one two = ap (λ (x : Past). has x.known dot) (with-past-same h 0 key past q) ∙ if-either (λ (x : Past). has x.known dot ≡ true) (same_key q key) past (past_at h 0 q) one two

  loser-known : (decision : Decision) (key : Key) (ours theirs : Past) (h : History) → Known h → Known (Noting.with_loser decision key ours theirs h)
  loser-known KeepPublisher key one two h k = k
  loser-known TakeSubscriber key one two h k = k
  loser-known (Custom values) key one two h k = k

  -- either the row is known so before, or the item is of this row
  merged-known : (h : History) (key : Key) (mine theirs more : List Dot) → mine ≡ (past_at h 0 key).known → theirs ≡ (past_in incoming key).known → (same_key q key ≡ false → Known h) → same_key q key ≡ true → has (more ++ (mine ++ theirs)) dot ≡ true
  merged-known h key mine theirs more one two before same =
      let is : q ≡ key = keys-same q key same in
      let there : has theirs dot ≡ true = ap (λ (dots : List Dot). has dots dot) two ∙ ap (λ (k : Key). has (past_in incoming k).known dot) (sym is) ∙ came in
      let first = append-known more (mine ++ theirs) dot in let second = append-known mine theirs dot in
      grind (arith, first, second, there)

  decided-known : (decision : Decision) (d : Dot) (generation : ℕ) (case : Case) (key : Key) (h : History) → d.site.0 ≡ 0 → (same_key q key ≡ false → Known h)
      → Known (Noting.with_decided decision d generation key case (past_by case decision d (past_at h 0 key) (past_in incoming key)) h)
  decided-known KeepPublisher d generation case key h own before = put-known h key (past_by case KeepPublisher d (past_at h 0 key) (past_in incoming key)) (merged-known h key (past_at h 0 key).known (past_in incoming key).known [] refl refl before) before
  decided-known TakeSubscriber d generation case key h own before = put-known h key (past_by case TakeSubscriber d (past_at h 0 key) (past_in incoming key)) (merged-known h key (past_at h 0 key).known (past_in incoming key).known [] refl refl before) before
  decided-known (Custom values) d generation case key h own before =
      let past : Past = past_by case (Custom values) d (past_at h 0 key) (past_in incoming key) in
      let c : MadeChange = Noting.decided_change d generation key case past in
      subst (λ (site : ℕ). Known (Noting.with_past site key past (record h { made = c ∷ h.made }))) (sym own)
      (put-known (record h { made = c ∷ h.made }) key past (merged-known h key (past_at h 0 key).known (past_in incoming key).known (d ∷ []) refl refl before) before)

  met-known : (held : Version) (case : Case) (decision : Decision) (d : Dot) (generation : ℕ) (key : Key) (h : History) → d.site.0 ≡ 0 → (same_key q key ≡ false → Known h)
      → Known (Noting.with_fate (Met held case decision d) generation key (past_in incoming key) h)
  met-known held case decision d generation key h own before =
      let after : History = Noting.with_decided decision d generation key case (past_by case decision d (past_at h 0 key) (past_in incoming key)) h in
      let now : Known after = decided-known decision d generation case key h own before in
      if-both Known (is_conflict case) (Noting.with_loser decision key (past_at h 0 key) (past_in incoming key) after) after (loser-known decision key (past_at h 0 key) (past_in incoming key) after now) now

  fate-known : (judge : PublisherJudge) (site : SiteId) (number generation : ℕ) (decisions : List Decision) (item : UploadItem) (found : Option PublisherRow) (h : History)
      → (let fate : Fate = fate_by judge site number decisions item found in ((same_key q (key_of_item item) && is_brought fate) ≡ false → Known h) → Known (Noting.with_fate fate generation (key_of_item item) (past_in incoming (key_of_item item)) h))
  fate-known judge site number generation decisions item None h =
      let key : Key = key_of_item item in
      elim (is_new_row judge site key) as (λ (b : Bool). (let fate : Fate = if b then New else Unknown in ((same_key q key && is_brought fate) ≡ false → Known h) → Known (Noting.with_fate fate generation key (past_in incoming key) h))) [
        | true ↦ (λ before. put-known h key (past_in incoming key) (λ same. ap (λ (k : Key). has (past_in incoming k).known dot) (sym (keys-same q key same)) ∙ came) (λ differs. before (grind (arith, differs))))
        | false ↦ (λ before. before (grind (arith)))
      ]
  fate-known judge site number generation decisions item (Some held) h =
      let key : Key = key_of_item item in
      let case : Case = case_met judge key held.version item.version in
      λ before. met-known held.version case (decision_for case decisions) (record { site = record { 0 = 0 }; number = number }) generation key h refl (λ differs. before (grind (arith, differs)))

  -- where it is known before, or one of the items brings it
  pub acts-bring : (judge : PublisherJudge) (site : SiteId) (p : PublisherTables) (entries : Entries) (number : ℕ) (decisions : List Decision) (items : List UploadItem) (h : History)
      → (let acts : List Act = acts_from judge site p number decisions items in (list_any (λ (act : Act). same_key q act.key && is_brought act.fate) acts ≡ false → Known h) → Known (fold (Noting.with_act incoming entries) h acts))
  acts-bring judge site p entries number decisions [] h before = before refl
  acts-bring judge site p entries number decisions (item ∷ items) h before =
      let act : Act = act_of judge site p number decisions item in
      let acts : List Act = acts_from judge site p (number + made_by act.fate) (left_by act.fate decisions) items in
      let key : Key = key_of_item item in
      acts-bring judge site p entries (number + made_by act.fate) (left_by act.fate decisions) items (Noting.with_act incoming entries h act)
      (λ none. fate-known judge site number (Noting.entry_generation entries key) decisions item (row_at p.rows key) h (λ other. before (grind (arith, none, other))))

-- Which rows are brought, and which are held afterwards.

-- an item of a row that is held, or new, brings it
brought-one : (judge : PublisherJudge) (site : SiteId) (number : ℕ) (decisions : List Decision) (item : UploadItem) (found : Option PublisherRow) → (is_some found || is_new_row judge site (key_of_item item)) ≡ true → is_brought (fate_by judge site number decisions item found) ≡ true
brought-one judge site number decisions item None is = elim (is_new_row judge site (key_of_item item)) as (λ (b : Bool). b ≡ true → is_brought (if b then New else Unknown) ≡ true) [
  | true ↦ (λ e. refl)
  | false ↦ (λ e. absurd (grind (arith, e)))
] is
brought-one judge site number decisions item (Some held) is = refl

brought-row : (judge : PublisherJudge) (site : SiteId) (p : PublisherTables) (number : ℕ) (decisions : List Decision) (q : Key) (item : UploadItem) → (is_some (row_at p.rows q) || is_new_row judge site q) ≡ true → same_key q (key_of_item item) ≡ true
    → is_brought (fate_by judge site number decisions item (row_at p.rows (key_of_item item))) ≡ true
brought-row judge site p number decisions q item is same = brought-one judge site number decisions item (row_at p.rows (key_of_item item)) (subst (λ (k : Key). (is_some (row_at p.rows k) || is_new_row judge site k) ≡ true) (keys-same q (key_of_item item) same) is)

or-behind : (a b c : Bool) → (a ≡ true → b ≡ true) → (a || c) ≡ true → ((a && b) || c) ≡ true
or-behind true b c one is = grind (arith, one)
or-behind false b c one is = is

pub items-brought : (judge : PublisherJudge) (site : SiteId) (p : PublisherTables) (number : ℕ) (decisions : List Decision) (items : List UploadItem) (q : Key) → (is_some (row_at p.rows q) || is_new_row judge site q) ≡ true
    → list_any (λ (item : UploadItem). same_key q (key_of_item item)) items ≡ true → list_any (λ (act : Act). same_key q act.key && is_brought act.fate) (acts_from judge site p number decisions items) ≡ true
items-brought judge site p number decisions [] q is some = absurd (grind (arith, some))
items-brought judge site p number decisions (item ∷ items) q is some =
    let act : Act = act_of judge site p number decisions item in
    let rest : List Act = acts_from judge site p (number + made_by act.fate) (left_by act.fate decisions) items in
    or-behind (same_key q (key_of_item item)) (is_brought act.fate) (list_any (λ (x : Act). same_key q x.key && is_brought x.fate) rest) (brought-row judge site p number decisions q item is)
    (or-onward (same_key q (key_of_item item)) (list_any (λ (x : UploadItem). same_key q (key_of_item x)) items) (list_any (λ (x : Act). same_key q x.key && is_brought x.fate) rest)
    (items-brought judge site p (number + made_by act.fate) (left_by act.fate decisions) items q is) some)
