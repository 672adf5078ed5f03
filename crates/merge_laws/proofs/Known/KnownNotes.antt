-- What a step notes keeps what is known, and counts each change that was made.
use Rattle.std.specs.Prelude.{◌≡◌, ◌==◌, ◌+◌, ◌++◌, ℕ, suc, List, [], ◌∷◌, Bool, true, false, Option, Some, None, refl, cond, map, if◌then◌else◌}
use Rattle.std.specs.List.{fold}
use Rattle.std.proofs.Common.{arith, subst, sym, ap, ◌∙◌}
use Rattle.std.proofs.lemmas.Bool.Decides.{nat_tests}
use Rattle.merge_types.specs.declared.identifiers.Dot.{Dot}
use Rattle.merge_types.specs.declared.identifiers.SiteId.{SiteId}
use Rattle.merge_types.specs.declared.changes.Change.{Change}
use Rattle.merge_types.specs.declared.changes.Change.TheVariants.{Delete, Insert, Update}
use Rattle.merge_types.specs.declared.values.Value.{Value}
use Rattle.merge_units.specs.declared.case.Case.{Case}
use Rattle.merge_units.specs.declared.result.Decision.{Decision}
use Rattle.merge_units.specs.declared.result.Decision.TheVariants.{Custom, KeepPublisher, TakeSubscriber}
use Rattle.merge_batch.specs.declared.request.UploadItem.{UploadItem}
use Rattle.merge_schema.specs.declared.publication.Publication.{Publication}
use Rattle.merge_model.specs.Publisher.Acts.{Act, Fate, New, Unknown, act_of, acts_from, changes_by, decided_changes, decision_for, case_met, fate_by, is_new_row, key_of_item, left_by, made_by}
use Rattle.merge_units.specs.Cases.{is_conflict}
use Rattle.merge_model.specs.Tables.Changes.{key_of}
use Rattle.merge_model.specs.Publisher.Entries.{Entries}
use Rattle.merge_model.specs.History.{History, Line, MadeChange, Past, made_at, past_at, past_in}
use Rattle.merge_model.specs.Judge.{PublisherJudge}
use Rattle.merge_model.specs.Tables.Keys.{row_at}
use Rattle.merge_model.specs.History.Pasts.{past_after, past_by}
use Rattle.merge_types.specs.declared.row_key.RowKey.{RowKey as Key}
use Rattle.merge_units.specs.declared.site_row.PublisherRow.{PublisherRow}
use Rattle.merge_model.specs.Tables.{PublisherTables}
use Rattle.merge_model.specs.History.Noting
use Rattle.merge_laws.specs.Facts.Knowledge.{AllKnow, Knowledge, Known, Knows, RowKnows, counts_down, number_of_change}
use Rattle.merge_model.proofs.Lists.Finding.{all-more, all-weaker}
use Rattle.merge_laws.proofs.Known.Knowing.{IsFresh, fresh-above, knows-both, knows-later, knows-new, knows-nothing}
use Rattle.merge_laws.proofs.Known.KnownRows.{drop-know, held-knows, past-knows, put-know, put-sites, site-know}
use Rattle.merge_model.proofs.Lists.Tests.{numbers-same, if-both}

-- A site's count with so many more.
abbrev pub raised : (ℕ → ℕ) → ℕ → ℕ → ℕ → ℕ
raised count site more n = if n == site then count n + more else count n

raised-none : (count : ℕ → ℕ) (n : ℕ) → raised count 0 0 n ≡ count n
raised-none count n = elim (n == 0) as (λ (b : Bool). (if b then count n + 0 else count n) ≡ count n) [
  | true ↦ omega arith
  | false ↦ refl
]

raised-twice : (count : ℕ → ℕ) (a b n : ℕ) → raised count 0 (a + b) n ≡ raised (raised count 0 a) 0 b n
raised-twice count a b n = elim (n == 0) as (λ (is : Bool). (if is then count n + (a + b) else count n) ≡ (if is then (if is then count n + a else count n) + b else (if is then count n + a else count n))) [
  | true ↦ omega arith
  | false ↦ refl
]

pub counted : (count other : ℕ → ℕ) (h : History) → ((n : ℕ) → other n ≡ count n) → Known count h → Known other h
counted count other h same k = record { numbered = λ site. k.numbered site ∙ ap counts_down (sym (same site)); knowledge = k.knowledge }

-- What becomes of the parts of a history.

pub past-known : (count : ℕ → ℕ) (h : History) (site : ℕ) (key : Key) (past : Past) → Knows h.made key past.known → Known count h → Known count (Noting.with_past site key past h)
past-known count h site key past knows k = record {
  numbered = k.numbered;
  knowledge = record {
    held = put-sites h.made site _ h.pasts (put-know h.made key past _ knows (site-know h.made site h.pasts k.knowledge.held)) k.knowledge.held;
    sent = k.knowledge.sent;
    lost = k.knowledge.lost;
    making = k.knowledge.making;
  };
}

pub dropped-known : (count : ℕ → ℕ) (h : History) (site : ℕ) (key : Key) → Known count h → Known count (Noting.without_past site key h)
dropped-known count h site key k = record {
  numbered = k.numbered;
  knowledge = record {
    held = put-sites h.made site _ h.pasts (drop-know h.made key _ (site-know h.made site h.pasts k.knowledge.held)) k.knowledge.held;
    sent = k.knowledge.sent;
    lost = k.knowledge.lost;
    making = k.knowledge.making;
  };
}

pub lost-known : (count : ℕ → ℕ) (h : History) (site : ℕ) (key : Key) (past : Past) → Knows h.made key past.known → Known count h → Known count (Noting.with_lost site key past h)
lost-known count h site key past knows k = record {
  numbered = k.numbered;
  knowledge = record {
    held = k.knowledge.held;
    sent = k.knowledge.sent;
    lost = all-more (λ (entry : ℕ × (Key × Past)). RowKnows h.made entry.1) h.lost (site, (key, past)) k.knowledge.lost knows;
    making = k.knowledge.making;
  };
}

pub lines-known : (count : ℕ → ℕ) (lines : List Line) (h : History) → Known count h → Known count (Noting.with_lines lines h)
lines-known count [] h k = k
lines-known count (line ∷ lines) h k = lines-known count lines (Noting.with_line h line) (record {
  numbered = k.numbered;
  knowledge = record { held = k.knowledge.held; sent = k.knowledge.sent; lost = k.knowledge.lost; making = k.knowledge.making };
})

-- the other parts of a history say nothing of what is known
pub others-known : (count : ℕ → ℕ) (h : History) (done : List (ℕ × ℕ)) (accepted : List Dot) (purged : List Key) (bases : List (ℕ × ℕ)) → Known count h → Known count (record h { done = done; accepted = accepted; purged = purged; bases = bases })
others-known count h done accepted purged bases k = record {
  numbered = k.numbered;
  knowledge = record { held = k.knowledge.held; sent = k.knowledge.sent; lost = k.knowledge.lost; making = k.knowledge.making };
}

-- A change more.

down-next : (n : ℕ) → counts_down (n + 1) ≡ (n + 1) ∷ counts_down n
down-next n = let one : n + 1 ≡ suc n = omega arith in ap counts_down one ∙ sym (ap (λ (k : ℕ). k ∷ counts_down n) one)

numbered-step : (c : MadeChange) (rest : List MadeChange) (n site : ℕ) (b d : Bool) → (c.dot.site.0 == site) ≡ b → (site == c.dot.site.0) ≡ d → (b ≡ true → c.dot.number ≡ n + 1) → map number_of_change rest ≡ counts_down n
    → map number_of_change (cond b (c ∷ rest) rest) ≡ counts_down (if d then n + 1 else n)
numbered-step c rest n site true true is other next down = ap (λ (k : ℕ). k ∷ map number_of_change rest) (next refl) ∙ ap (λ (ks : List ℕ). (n + 1) ∷ ks) down ∙ sym (down-next n)
numbered-step c rest n site false false is other next down = down
numbered-step c rest n site true false is other next down = absurd (grind (arith, nat_tests, is, other))
numbered-step c rest n site false true is other next down = absurd (grind (arith, nat_tests, is, other))

module _ (count : ℕ → ℕ) (h : History) (c : MadeChange) (next : c.dot.number ≡ count c.dot.site.0 + 1) (k : Known count h) where
  pub next-fresh : IsFresh h.made c.dot
  next-fresh = fresh-above count h c.dot k.numbered (omega (arith, next))

  pub rows-later : (rows : List (Key × Past)) → AllKnow h.made rows → AllKnow (c ∷ h.made) rows
  rows-later rows all = all-weaker (RowKnows h.made) (RowKnows (c ∷ h.made)) (λ row knows. knows-later h.made c row.0 row.1.known next-fresh knows) rows all

  made-knowledge : Knows (c ∷ h.made) c.key c.past.known → Knowledge (record h { made = c ∷ h.made })
  made-knowledge knows = record {
    held = all-weaker (λ (site : ℕ × List (Key × Past)). AllKnow h.made site.1) (λ (site : ℕ × List (Key × Past)). AllKnow (c ∷ h.made) site.1) (λ site all. rows-later site.1 all) h.pasts k.knowledge.held;
    sent = all-weaker (AllKnow h.made) (AllKnow (c ∷ h.made)) rows-later h.letters k.knowledge.sent;
    lost = all-weaker (λ (entry : ℕ × (Key × Past)). RowKnows h.made entry.1) (λ (entry : ℕ × (Key × Past)). RowKnows (c ∷ h.made) entry.1)
        (λ entry knows. knows-later h.made c entry.1.0 entry.1.1.known next-fresh knows) h.lost k.knowledge.lost;
    making = (
      knows,
      all-weaker (λ (x : MadeChange). Knows h.made x.key x.past.known) (λ (x : MadeChange). Knows (c ∷ h.made) x.key x.past.known)
          (λ x old. knows-later h.made c x.key x.past.known next-fresh old) h.made k.knowledge.making,
    );
  }

  pub made-known : (known : List Dot) → c.past.known ≡ c.dot ∷ known → Knows h.made c.key known → Known (raised count c.dot.site.0 1) (Noting.with_made c h)
  made-known known is before =
      let knows : Knows (c ∷ h.made) c.key c.past.known = subst (λ (dots : List Dot). Knows (c ∷ h.made) c.key dots) (sym is) (knows-new h.made c known is next-fresh before) in
      past-known (raised count c.dot.site.0 1) (record h { made = c ∷ h.made }) c.dot.site.0 c.key c.past knows (record {
        numbered = λ site. numbered-step c (made_at h site) (count site) site (c.dot.site.0 == site) (site == c.dot.site.0) refl refl
            (λ own. next ∙ ap (λ (n : ℕ). count n + 1) (numbers-same c.dot.site.0 site own)) (k.numbered site);
        knowledge = made-knowledge knows;
      })

-- a local change
pub change-known : (count : ℕ → ℕ) (publication : Publication) (dot : Dot) (generation : ℕ) (change : Change) (value : Value) (h : History) → dot.number ≡ count dot.site.0 + 1 → Known count h
    → Known (raised count dot.site.0 1) (Noting.with_change publication dot generation change value h)
change-known count publication dot generation (Insert article values) value h next k =
    let key : Key = key_of dot (Insert article values) in
    let past : Past = past_after publication dot (Insert article values) (past_at h dot.site.0 key) in
    made-known count h (Noting.made_change publication dot generation (Insert article values) value key past) next k [] refl (knows-nothing h.made key)
change-known count publication dot generation (Update article row values) value h next k =
    let key : Key = key_of dot (Update article row values) in
    let past : Past = past_at h dot.site.0 key in
    made-known count h (Noting.made_change publication dot generation (Update article row values) value key (past_after publication dot (Update article row values) past)) next k past.known refl (held-knows h dot.site.0 key k.knowledge)
change-known count publication dot generation (Delete article row) value h next k =
    let key : Key = key_of dot (Delete article row) in
    let past : Past = past_at h dot.site.0 key in
    made-known count h (Noting.made_change publication dot generation (Delete article row) value key (past_after publication dot (Delete article row) past)) next k past.known refl (held-knows h dot.site.0 key k.knowledge)

-- The items of an upload that act.

-- with what the versions that came know
abbrev pub Reached : (ℕ → ℕ) → List (Key × Past) → History → Type 0
Reached count incoming h = Known count h × AllKnow h.made incoming

module _ (count : ℕ → ℕ) (incoming : List (Key × Past)) (generation : ℕ) (key : Key) (theirs : Past) (h : History) (r : Reached count incoming h) (knows : Knows h.made key theirs.known) where
  own : Knows h.made key (past_at h 0 key).known
  own = held-knows h 0 key r.0.knowledge

  both : Knows h.made key ((past_at h 0 key).known ++ theirs.known)
  both = knows-both h.made key (past_at h 0 key).known theirs.known own knows

  met-reached : (case : Case) (decision : Decision) (dot : Dot) → dot.site.0 ≡ 0 → dot.number ≡ count 0 + 1 → Reached (raised count 0 (decided_changes decision)) incoming (Noting.with_meeting case decision dot generation key (past_at h 0 key) theirs h)
  met-reached case KeepPublisher dot zero next =
      let after : History = Noting.with_past 0 key (past_by case KeepPublisher dot (past_at h 0 key) theirs) h in
      let same : Known count after = past-known count h 0 key (past_by case KeepPublisher dot (past_at h 0 key) theirs) both r.0 in
      let now : Known (raised count 0 0) after = counted count (raised count 0 0) after (λ n. raised-none count n) same in
      if-both (Reached (raised count 0 0) incoming) (is_conflict case) (Noting.with_lost 0 key theirs after) after (lost-known (raised count 0 0) after 0 key theirs knows now, r.1) (now, r.1)
  met-reached case TakeSubscriber dot zero next =
      let after : History = Noting.with_past 0 key (past_by case TakeSubscriber dot (past_at h 0 key) theirs) h in
      let same : Known count after = past-known count h 0 key (past_by case TakeSubscriber dot (past_at h 0 key) theirs) both r.0 in
      let now : Known (raised count 0 0) after = counted count (raised count 0 0) after (λ n. raised-none count n) same in
      if-both (Reached (raised count 0 0) incoming) (is_conflict case) (Noting.with_lost 0 key (past_at h 0 key) after) after (lost-known (raised count 0 0) after 0 key (past_at h 0 key) own now, r.1) (now, r.1)
  met-reached case (Custom values) dot zero next =
      let c : MadeChange = Noting.decided_change dot generation key case (past_by case (Custom values) dot (past_at h 0 key) theirs) in
      let after : History = Noting.with_made c h in
      let follows : dot.number ≡ count dot.site.0 + 1 = next ∙ ap (λ (n : ℕ). count n + 1) (sym zero) in
      let fresh : IsFresh h.made dot = next-fresh count h c follows r.0 in
      let now : Known (raised count 0 1) after = subst (λ (n : ℕ). Known (raised count n 1) after) zero (made-known count h c follows r.0 ((past_at h 0 key).known ++ theirs.known) refl both) in
      let came : AllKnow (c ∷ h.made) incoming = rows-later count h c follows r.0 incoming r.1 in
      let lost : Known (raised count 0 1) (Noting.with_lost 0 key (past_at h 0 key) after) = lost-known (raised count 0 1) after 0 key (past_at h 0 key) (knows-later h.made c key (past_at h 0 key).known fresh own) now in
      if-both (Reached (raised count 0 1) incoming) (is_conflict case) (Noting.with_lost 0 key theirs (Noting.with_lost 0 key (past_at h 0 key) after)) after
      (lost-known (raised count 0 1) (Noting.with_lost 0 key (past_at h 0 key) after) 0 key theirs (knows-later h.made c key theirs.known fresh knows) lost, came) (now, came)

accepted-reached : (count : ℕ → ℕ) (incoming : List (Key × Past)) (past : Past) (h : History) → Reached count incoming h → Reached count incoming (Noting.with_accepted past h)
accepted-reached count incoming past h r = (others-known count h h.done (h.accepted ++ past.known) h.purged h.bases r.0, r.1)

raised-reached : (count other : ℕ → ℕ) (incoming : List (Key × Past)) (h : History) → ((n : ℕ) → other n ≡ count n) → Reached count incoming h → Reached other incoming h
raised-reached count other incoming h same r = (counted count other h same r.0, r.1)

fate-reached : (count : ℕ → ℕ) (incoming : List (Key × Past)) (judge : PublisherJudge) (site : SiteId) (number generation : ℕ) (decisions : List Decision) (item : UploadItem) (found : Option PublisherRow) (h : History)
    → Reached count incoming h → number ≡ count 0 + 1
    → (let fate : Fate = fate_by judge site number decisions item found in
    Reached (raised count 0 (made_by fate)) incoming (Noting.with_fate fate generation (key_of_item item) (past_in incoming (key_of_item item)) h))
fate-reached count incoming judge site number generation decisions item None h r next =
    let key : Key = key_of_item item in
    let past : Past = past_in incoming key in
    let knows : Knows h.made key past.known = past-knows h.made key incoming r.1 in
    elim (is_new_row judge site key)
    as (λ (b : Bool). (let fate : Fate = if b then New else Unknown in Reached (raised count 0 (made_by fate)) incoming (Noting.with_fate fate generation key past h))) [
      | true ↦ raised-reached count (raised count 0 0) incoming (Noting.with_past 0 key past h) (raised-none count) (past-known count h 0 key past knows r.0, r.1)
      | false ↦ raised-reached count (raised count 0 0) incoming (Noting.with_lost 0 key past h) (raised-none count) (lost-known count h 0 key past knows r.0, r.1)
    ]
fate-reached count incoming judge site number generation decisions item (Some held) h r next =
    let key : Key = key_of_item item in
    let case : Case = case_met judge key held.version item.version in
    met-reached count incoming generation key (past_in incoming key) h r (past-knows h.made key incoming r.1) case (decision_for case decisions) (record { site = record { 0 = 0 }; number = number }) refl next

-- the publisher's changes among them are numbered one after the other
pub acts-reached : (count : ℕ → ℕ) (incoming : List (Key × Past)) (entries : Entries) (judge : PublisherJudge) (site : SiteId) (p : PublisherTables) (number : ℕ) (decisions : List Decision) (items : List UploadItem) (h : History)
    → Reached count incoming h → number ≡ count 0 + 1
    → (let acts : List Act = acts_from judge site p number decisions items in Reached (raised count 0 (changes_by acts)) incoming (fold (Noting.with_act incoming entries) h acts))
acts-reached count incoming entries judge site p number decisions [] h r next = raised-reached count (raised count 0 0) incoming h (raised-none count) r
acts-reached count incoming entries judge site p number decisions (item ∷ items) h r next =
    let act : Act = act_of judge site p number decisions item in
    let acts : List Act = acts_from judge site p (number + made_by act.fate) (left_by act.fate decisions) items in
    let key : Key = key_of_item item in
    let before : History = Noting.with_fate act.fate (Noting.entry_generation entries key) key (past_in incoming key) h in
    let here : Reached (raised count 0 (made_by act.fate)) incoming (Noting.with_act incoming entries h act) =
    accepted-reached (raised count 0 (made_by act.fate)) incoming (past_in incoming key) before
    (fate-reached count incoming judge site number (Noting.entry_generation entries key) decisions item (row_at p.rows key) h r next) in
    raised-reached (raised (raised count 0 (made_by act.fate)) 0 (changes_by acts)) (raised count 0 (made_by act.fate + changes_by acts)) incoming (fold (Noting.with_act incoming entries) (Noting.with_act incoming entries h act) acts)
    (raised-twice count (made_by act.fate) (changes_by acts))
    (acts-reached (raised count 0 (made_by act.fate)) incoming entries judge site p (number + made_by act.fate) (left_by act.fate decisions) items (Noting.with_act incoming entries h act) here (omega (arith, next)))
