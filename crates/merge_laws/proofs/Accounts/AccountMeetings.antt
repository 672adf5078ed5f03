-- What an item of an upload makes of the row that it meets: all that both versions knew is in the chains of the result, or in what lost.
use Rattle.std.specs.Prelude.{◌≡◌, ◌&&◌, ◌||◌, ◌++◌, ℕ, List, [], ◌∷◌, Bool, true, false, not, Option, Some, None, refl, if◌then◌else◌}
use Rattle.std.specs.List.{AllByRecursion}
use Rattle.std.proofs.Common.{arith, subst, sym, ◌∙◌, inl}
use Rattle.std.proofs.lemmas.Bool.Decides.{nat_tests}
use Rattle.std.proofs.lemmas.List.Folds.{list_any-append}
use Rattle.merge_types.specs.declared.identifiers.Dot.{Dot}
use Rattle.merge_types.specs.declared.values.Value.{Value}
use Rattle.merge_units.specs.Results.{case_body}
use Rattle.merge_units.specs.declared.case.Case.{Case}
use Rattle.merge_units.specs.declared.result.Decision.{Decision}
use Rattle.merge_units.specs.declared.result.Decision.TheVariants.{Custom, KeepPublisher, TakeSubscriber}
use Rattle.merge_units.specs.declared.version.Body.{Body}
use Rattle.merge_conflict.specs.Losers.{publisher_site}
use Rattle.merge_units.specs.Cases.{case_by, is_conflict}
use Rattle.merge_units.specs.Version.{has_news, tops_of}
use Rattle.merge_model.specs.History.{History, MadeChange, Past, has}
use Rattle.merge_model.specs.Tables.Keys.{has_key, same_key}
use Rattle.merge_model.specs.History.Noting
use Rattle.merge_model.specs.History.Pasts.{chains_by, past_by}
use Rattle.merge_model.specs.Laws.Promises.{InCell, InRow, Place, descends}
use Rattle.merge_types.specs.declared.row_key.RowKey.{RowKey as Key}
use Rattle.merge_laws.specs.Facts.Accounts.{Grown, GrownAlone, Holds, Traced, is_kept_elsewhere, is_lost_at, is_made_at, is_past, makes}
use Rattle.merge_laws.specs.Facts.Knowledge.{KnowsItsPast, same_dot}
use Rattle.merge_laws.proofs.Accounts.AccountCells.{OwnGrown, loses}
use Rattle.merge_laws.proofs.Accounts.AccountChains.{grown-later}
use Rattle.merge_laws.proofs.Accounts.AccountDecided.{case-own}
use Rattle.merge_laws.proofs.Accounts.AccountHistory.{with_new}
use Rattle.merge_laws.proofs.Accounts.AccountHolds.{made-before, made-now}
use Rattle.merge_laws.proofs.Accounts.AccountMerges.{case-grown, case-holds, case-stays}
use Rattle.merge_laws.proofs.Accounts.AccountRows.{KeepsLost, gone_on}
use Rattle.merge_laws.proofs.Known.ChangeDots.{AreDistinct}
use Rattle.merge_laws.proofs.Known.Knowing.{IsFresh}
use Rattle.merge_laws.proofs.Pasts.DotTests.{dot-itself, dots-same}

-- what a meeting adds to the publisher's conflict table
abbrev pub lost_after : Bool → Decision → Key → Past → Past → List (ℕ × (Key × Past)) → List (ℕ × (Key × Past))
lost_after false decision key ours theirs lost = lost
lost_after true KeepPublisher key ours theirs lost = lost ++ (0, (key, theirs)) ∷ []
lost_after true TakeSubscriber key ours theirs lost = lost ++ (0, (key, ours)) ∷ []
lost_after true (Custom values) key ours theirs lost = (lost ++ (0, (key, ours)) ∷ []) ++ (0, (key, theirs)) ∷ []

abbrev pub own_dot : ℕ → Dot
own_dot number = record { site = publisher_site; number = number }

-- the change that it makes, where values were decided
abbrev pub decided_new : Decision → Dot → ℕ → Key → Case → Past → Option MadeChange
decided_new (Custom values) dot generation key case past = Some (Noting.decided_change dot generation key case past)
decided_new decision dot generation key case past = None

acted-by : (b : Bool) (decision : Decision) (number generation : ℕ) (key : Key) (case : Case) (ours theirs past : Past) (h : History)
    → Noting.with_accepted theirs (let after : History = Noting.with_decided decision (own_dot number) generation key case past h in if b then Noting.with_loser decision key ours theirs after else after)
    ≡ gone_on h (decided_new decision (own_dot number) generation key case past) key past (lost_after b decision key ours theirs h.lost) (h.accepted ++ theirs.known) h.lines
acted-by true KeepPublisher number generation key case ours theirs past h = refl
acted-by true TakeSubscriber number generation key case ours theirs past h = refl
acted-by true (Custom values) number generation key case ours theirs past h = refl
acted-by false KeepPublisher number generation key case ours theirs past h = refl
acted-by false TakeSubscriber number generation key case ours theirs past h = refl
acted-by false (Custom values) number generation key case ours theirs past h = refl

pub meeting-is : (case : Case) (decision : Decision) (number generation : ℕ) (key : Key) (ours theirs : Past) (h : History)
    → Noting.with_accepted theirs (Noting.with_meeting case decision (own_dot number) generation key ours theirs h)
    ≡ gone_on h (decided_new decision (own_dot number) generation key case (past_by case decision (own_dot number) ours theirs)) key (past_by case decision (own_dot number) ours theirs)
    (lost_after (is_conflict case) decision key ours theirs h.lost) (h.accepted ++ theirs.known) h.lines
meeting-is case decision number generation key ours theirs h = acted-by (is_conflict case) decision number generation key case ours theirs (past_by case decision (own_dot number) ours theirs) h

-- What is lost by it.
abbrev tests : Key → Place → Dot → ℕ × (Key × Past) → Bool
tests key place dot entry = same_key entry.1.0 key && descends entry.1.1.chains place dot

lost-grows : (lost : List (ℕ × (Key × Past))) (entry : ℕ × (Key × Past)) (purged : List Key) (key : Key) (place : Place) (dot : Dot) → is_kept_elsewhere lost purged key place dot ≡ true → is_kept_elsewhere (lost ++ entry ∷ []) purged key place dot ≡ true
lost-grows lost entry purged key place dot is = grind (arith, list_any-append (tests key place dot) lost (entry ∷ []), is)

pub lost-keeps : (b : Bool) (decision : Decision) (key : Key) (ours theirs : Past) (h : History) → KeepsLost h (lost_after b decision key ours theirs h.lost)
lost-keeps false decision key ours theirs h q place dot is = is
lost-keeps true KeepPublisher key ours theirs h q place dot is = lost-grows h.lost (0, (key, theirs)) h.purged q place dot is
lost-keeps true TakeSubscriber key ours theirs h q place dot is = lost-grows h.lost (0, (key, ours)) h.purged q place dot is
lost-keeps true (Custom values) key ours theirs h q place dot is = lost-grows (h.lost ++ (0, (key, ours)) ∷ []) (0, (key, theirs)) h.purged q place dot (lost-grows h.lost (0, (key, ours)) h.purged q place dot is)

pub lost-last : (lost : List (ℕ × (Key × Past))) (site : ℕ) (key : Key) (past : Past) (place : Place) (dot : Dot) → descends past.chains place dot ≡ true → is_lost_at (lost ++ (site, (key, past)) ∷ []) key place dot ≡ true
lost-last lost site key past place dot is =
    let same : same_key key key ≡ true = grind (arith, nat_tests) in
    grind (arith, list_any-append (tests key place dot) lost ((site, (key, past)) ∷ []), is, same)

lost-both : (lost : List (ℕ × (Key × Past))) (key : Key) (ours theirs : Past) (place : Place) (dot : Dot) (x y : Bool) → descends ours.chains place dot ≡ x → descends theirs.chains place dot ≡ y → (x || y) ≡ true
    → is_lost_at ((lost ++ (0, (key, ours)) ∷ []) ++ (0, (key, theirs)) ∷ []) key place dot ≡ true
lost-both lost key ours theirs place dot x true is_x is_y either = lost-last (lost ++ (0, (key, ours)) ∷ []) 0 key theirs place dot is_y
lost-both lost key ours theirs place dot true false is_x is_y either =
    grind (arith, list_any-append (tests key place dot) (lost ++ (0, (key, ours)) ∷ []) ((0, (key, theirs)) ∷ []), lost-last lost 0 key ours place dot is_x)
lost-both lost key ours theirs place dot false false is_x is_y either = absurd cc

lost-has : (b : Bool) (decision : Decision) (key : Key) (ours theirs : Past) (lost : List (ℕ × (Key × Past))) (place : Place) (dot : Dot) → (b && loses decision (descends ours.chains place dot) (descends theirs.chains place dot)) ≡ true
    → is_lost_at (lost_after b decision key ours theirs lost) key place dot ≡ true
lost-has false decision key ours theirs lost place dot is = absurd cc
lost-has true KeepPublisher key ours theirs lost place dot is = lost-last lost 0 key theirs place dot is
lost-has true TakeSubscriber key ours theirs lost place dot is = lost-last lost 0 key ours place dot is
lost-has true (Custom values) key ours theirs lost place dot is = lost-both lost key ours theirs place dot (descends ours.chains place dot) (descends theirs.chains place dot) refl refl is

kept-after : (x c t l e : Bool) → (x || (c || t)) ≡ true → (c ≡ true → l ≡ true) → (t ≡ true → (l || e) ≡ true) → (x || (l || e)) ≡ true
kept-after true c t l e is more keeps = refl
kept-after false true t l e is more keeps = grind (arith, more)
kept-after false false t l e is more keeps = keeps is

-- the result knows what both knew
pub knows-either : (case : Case) (decision : Decision) (new : Dot) (one other : Past) (dot : Dot) → (has one.known dot || has other.known dot) ≡ true → has (past_by case decision new one other).known dot ≡ true
knows-either case KeepPublisher new one other dot is = grind (arith, list_any-append (λ (x : Dot). same_dot x dot) one.known other.known, is)
knows-either case TakeSubscriber new one other dot is = grind (arith, list_any-append (λ (x : Dot). same_dot x dot) one.known other.known, is)
knows-either case (Custom values) new one other dot is = grind (arith, list_any-append (λ (x : Dot). same_dot x dot) one.known other.known, is)

-- a decision of values makes a change that is new
abbrev pub IsNew : History → Decision → ℕ → Type 0
IsNew h (Custom values) number = IsFresh h.made (own_dot number)
IsNew h decision number = Unit {0}

-- Two versions that meet, with the pasts that the history has of them.
module _ (cells : ℕ) (h : History) (key : Key) (one other : Past) (distinct : AreDistinct h.made) (closed_here : AllByRecursion (KnowsItsPast one.known) h.made) (closed_there : AllByRecursion (KnowsItsPast other.known) h.made)
    (ours theirs : Body) (grown : Grown cells h.made key ours one.chains) (alone : GrownAlone cells h.made key theirs other.chains) (tops : AllByRecursion (λ (top : Dot). has one.known top ≡ true) (tops_of ours)) where
  abbrev pub case_here : Case
  case_here = case_by (has one.known) (has other.known) ours theirs

  module _ (decision : Decision) (number generation : ℕ) where
    abbrev past : Past
    past = past_by case_here decision (own_dot number) one other

    abbrev lost : List (ℕ × (Key × Past))
    lost = lost_after (is_conflict case_here) decision key one other h.lost

    -- what was made before
    old-holds : (dot : Dot) (place : Place) (purged : Bool) → has_key h.purged key ≡ purged → Traced h.made h.lost h.purged one key other → Holds h.made h.lost h.purged key one
        → is_made_at h.made key dot place ≡ true → (has one.known dot || has other.known dot) ≡ true → (descends past.chains place dot || is_kept_elsewhere lost h.purged key place dot) ≡ true
    old-holds dot place true gone traced holds made known = grind (arith, gone)
    old-holds dot place false held traced holds made known =
        let ends : (x : Dot) → is_made_at h.made key x InRow ≡ true → has other.known x ≡ true → (descends other.chains InRow x || (has one.known x && not (descends one.chains InRow x))) ≡ true =
        λ x deleted knows. (let ended = traced.ends x deleted knows in grind (arith, ended, held)) in
        let merged = case-holds cells h.made key one.known other.known distinct closed_here closed_there (own_dot number) dot decision place (is_kept_elsewhere h.lost h.purged key place dot) known
        (has_news (has other.known) ours) (has_news (has one.known) theirs) ours theirs one.chains other.chains refl refl grown alone tops ends (holds dot place made) (traced.holds dot place made) in
        let more = lost-has (is_conflict case_here) decision key one other h.lost place dot in
        let keeps = lost-keeps (is_conflict case_here) decision key one other h key place dot in
        kept-after (descends past.chains place dot) (is_conflict case_here && loses decision (descends one.chains place dot) (descends other.chains place dot)) (is_kept_elsewhere h.lost h.purged key place dot)
        (is_lost_at lost key place dot) (has_key h.purged key) merged more keeps

    pub past-stays : (dot : Dot) → is_made_at h.made key dot InRow ≡ true → is_past one dot ≡ true → is_past past dot ≡ true
    past-stays dot deleted is =
        let known : has one.known dot ≡ true = grind (arith, is) in
        let live : descends one.chains InRow dot ≡ false = grind (arith, is) in
        let stays : descends past.chains InRow dot ≡ false = case-stays cells h.made key one.known other.known distinct closed_here closed_there (own_dot number) dot deleted known decision
        (has_news (has other.known) ours) (has_news (has one.known) theirs) ours theirs one.chains other.chains refl grown alone live in
        let knows : has past.known dot ≡ true = knows-either case_here decision (own_dot number) one other dot (grind (arith, known)) in
        grind (arith, knows, stays)

  -- With a decision that is none of values.
  module _ (number generation : ℕ) (traced : Traced h.made h.lost h.purged one key other) (holds : Holds h.made h.lost h.purged key one) where
    plain-known : (dot : Dot) → has (one.known ++ other.known) dot ≡ true → (has one.known dot || has other.known dot) ≡ true
    plain-known dot is = sym (list_any-append (λ (x : Dot). same_dot x dot) one.known other.known) ∙ is

    -- with values it is a change of the publisher
    module _ (values : List Value) (fresh : IsFresh h.made (own_dot number)) where
      abbrev change : MadeChange
      change = Noting.decided_change (own_dot number) generation key case_here (past_by case_here (Custom values) (own_dot number) one other)

      own-place : (place : Place) → makes change place ≡ true → descends (chains_by case_here (Custom values) (own_dot number) one.chains other.chains) place (own_dot number) ≡ true
      own-place InRow does = absurd cc
      own-place (InCell k) does =
          case-own cells h.made key (has one.known) (has other.known) (own_dot number) values k (has_news (has other.known) ours) (has_news (has one.known) theirs) ours theirs one.chains other.chains grown alone.0 (grind (arith, does))

      custom-holds : Holds (change ∷ h.made) (lost_after (is_conflict case_here) (Custom values) key one other h.lost) h.purged key (past_by case_here (Custom values) (own_dot number) one other)
      custom-holds dot place is known = by-test (same_dot (own_dot number) dot) refl
        where
          by-test : (b : Bool) → same_dot (own_dot number) dot ≡ b
              → (descends (chains_by case_here (Custom values) (own_dot number) one.chains other.chains) place dot || is_kept_elsewhere (lost_after (is_conflict case_here) (Custom values) key one other h.lost) h.purged key place dot) ≡ true
          by-test true e =
              let own : descends (chains_by case_here (Custom values) (own_dot number) one.chains other.chains) place dot ≡ true =
              subst (λ (x : Dot). descends (chains_by case_here (Custom values) (own_dot number) one.chains other.chains) place x ≡ true) (dots-same (own_dot number) dot e) (own-place place (made-now h.made change key fresh dot place e is)) in
              grind (arith, own)
          by-test false e = old-holds (Custom values) number generation dot place (has_key h.purged key) refl traced holds (made-before h.made change key fresh dot place e is) (plain-known dot (grind (arith, e, known)))

      custom-own : OwnGrown (change ∷ h.made) (own_dot number) (Custom values)
      custom-own others = record {
        rooted = inl (dot-itself (own_dot number), λ dot inside. grind (arith, inside));
        set = λ dot inside. grind (arith, inside);
      }

      pub custom-grown : Grown cells (change ∷ h.made) key (case_body (own_dot number) (Custom values) case_here ours theirs) (chains_by case_here (Custom values) (own_dot number) one.chains other.chains)
      custom-grown = case-grown cells (change ∷ h.made) key (has one.known) (has other.known) (own_dot number) (Custom values) (has_news (has other.known) ours) (has_news (has one.known) theirs) ours theirs one.chains other.chains custom-own
          (grown-later change cells h.made key ours one.chains grown) (grown-later change cells h.made key theirs other.chains alone.0)

    pub met-holds : (decision : Decision) → IsNew h decision number
        → (let past : Past = past_by case_here decision (own_dot number) one other in Holds (with_new (decided_new decision (own_dot number) generation key case_here past) h.made) (lost_after (is_conflict case_here) decision key one other h.lost) h.purged key past)
    met-holds KeepPublisher new dot place is known = old-holds KeepPublisher number generation dot place (has_key h.purged key) refl traced holds is (plain-known dot known)
    met-holds TakeSubscriber new dot place is known = old-holds TakeSubscriber number generation dot place (has_key h.purged key) refl traced holds is (plain-known dot known)
    met-holds (Custom values) new dot place is known = custom-holds values new dot place is known

    pub met-grown : (decision : Decision) → IsNew h decision number
        → (let past : Past = past_by case_here decision (own_dot number) one other in Grown cells (with_new (decided_new decision (own_dot number) generation key case_here past) h.made) key (case_body (own_dot number) decision case_here ours theirs) past.chains)
    met-grown KeepPublisher new =
        case-grown cells h.made key (has one.known) (has other.known) (own_dot number) KeepPublisher (has_news (has other.known) ours) (has_news (has one.known) theirs) ours theirs one.chains other.chains tt grown alone.0
    met-grown TakeSubscriber new =
        case-grown cells h.made key (has one.known) (has other.known) (own_dot number) TakeSubscriber (has_news (has other.known) ours) (has_news (has one.known) theirs) ours theirs one.chains other.chains tt grown alone.0
    met-grown (Custom values) new = custom-grown values new
