-- Earlier changes of a row are known to whoever knows a later one: where the later one was made they were known, and by lineages
-- their numbers are lower.
use Rattle.std.specs.Prelude.{Bool, false, nat_le, not, refl, suc, true, zero, ℕ, ◌&&◌, ◌==◌, ◌<◌, ◌≡◌, ◌≤◌}
use Rattle.std.proofs.Common.{ap, arith, subst, sym, ◌∙◌}
use Rattle.std.proofs.lemmas.Bool.Decides.{nat_tests}
use Rattle.merge_types.specs.declared.identifiers.Dot.{Dot}
use Rattle.merge_types.specs.declared.row_key.RowKey.{RowKey as Key}
use Rattle.merge_lineage.specs.Lineage.{knows, number_of}
use Rattle.merge_units.specs.declared.version.Version.{Version}
use Rattle.merge_ident.proofs.Stored.{and-first, and-second}
use Rattle.merge_schema.specs.declared.publication.Publication.{Publication}
use Rattle.merge_model.specs.History.{MadeChange, Past, has, is_accepted, past_at}
use Rattle.merge_model.specs.History.Model.{Model}
use Rattle.merge_model.specs.Judge.ByNumbers.{received_number_by_number}
use Rattle.merge_model.specs.Laws.Promises.{is_given_up}
use Rattle.merge_model.specs.Tables.Keys.{same_key}
use Rattle.merge_model.proofs.Lists.KeyLookUps.{keys-same}
use Rattle.merge_model.proofs.Lists.Tests.{number-itself}
use Rattle.merge_laws.specs.Facts.Knowledge.{Knows, KnowsItsPast, same_dot}
use Rattle.merge_laws.specs.Facts.LineagesStand.{KnownCounts, counts_in}
use Rattle.merge_laws.specs.Facts.Standing.{IsKnownLater, KnewEarlier, StandsAt, StandsFor, Told}
use Rattle.merge_laws.proofs.Accounts.AccountElements.{IsIn, all-in, any-out}
use Rattle.merge_laws.proofs.Known.KnownRows.{held-knows}
use Rattle.merge_laws.proofs.Lineages.LineagesAlways.{Kept, ground, stand}
use Rattle.merge_laws.proofs.Pasts.DotTests.{dots-same}
use Rattle.merge_owed.proofs.EveryVersions.{every-both}
use Rattle.merge_promises.specs.Earlier.{EveryKnowsEarlier, HeldKnowEarlier, IsEarlier, KnowsEarlier}
use Rattle.merge_promises.proofs.NeverNew.{maker-accepted, not-true}

-- a lineage that reaches a change reaches those with lower numbers
reached : (of number low : ℕ) → nat_le number of ≡ true → low < number → nat_le low of ≡ true
reached of number low is below = grind (arith, nat_tests, is, below)

accepted-kept : (accepted behind : Bool) → accepted ≡ true → (not accepted && behind) ≡ false
accepted-kept true behind is = refl
accepted-kept false behind is = absurd cc

-- a change with a dot, of a row
abbrev is_of_row : Key → Dot → MadeChange → Bool
is_of_row key dot change = same_dot change.dot dot && same_key key change.key

of-dot : (key : Key) (dot : Dot) (change : MadeChange) → is_of_row key dot change ≡ true → change.dot ≡ dot
of-dot key dot change is = dots-same change.dot dot (and-first (same_dot change.dot dot) (same_key key change.key) is)

of-key : (key : Key) (dot : Dot) (change : MadeChange) → is_of_row key dot change ≡ true → same_key key change.key ≡ true
of-key key dot change is = and-second (same_dot change.dot dot) (same_key key change.key) is

module _ (publication : Publication) (m : Model) (k : Kept publication m) where
  abbrev given_up : Dot → Bool
  given_up dot = is_given_up m.world.publisher m.history dot

  -- By what was known where the later one was made.

  knew : (key : Key) (dot earlier : Dot) (later first : MadeChange) → IsEarlier m key dot earlier → given_up earlier ≡ false → is_of_row key dot later ≡ true → is_of_row key earlier first ≡ true
      → IsIn later m.history.made → IsIn first m.history.made → has later.past.known earlier ≡ true
  knew key dot earlier later first is kept at_later at_first inside among =
      let one : later.dot ≡ dot = of-dot key dot later at_later in
      let two : first.dot ≡ earlier = of-dot key earlier first at_first in
      let row : key ≡ later.key = keys-same key later.key (of-key key dot later at_later) in
      let of_first : same_key key first.key ≡ true = of-key key earlier first at_first in
      let same_row : same_key later.key first.key ≡ true = subst (λ (q : Key). same_key q first.key ≡ true) row of_first in
      let sites : later.dot.site.0 ≡ first.dot.site.0 = ap (λ (d : Dot). d.site.0) one ∙ sym is.same ∙ sym (ap (λ (d : Dot). d.site.0) two) in
      let same_site : (later.dot.site.0 == first.dot.site.0) ≡ true = subst (λ (n : ℕ). (later.dot.site.0 == n) ≡ true) sites (number-itself later.dot.site.0) in
      let numbers : first.dot.number ≤ later.dot.number = omega (arith, ap (λ (d : Dot). d.number) one, ap (λ (d : Dot). d.number) two, is.before) in
      let counts_so : counts_in m first ≡ true = ap (λ (d : Dot). not (given_up d)) two ∙ ap not kept in
      let known_later : IsKnownLater m.history.made (counts_in m) first = all-in (IsKnownLater m.history.made (counts_in m)) m.history.made first k.own.making among in
      let known_first : has later.past.known first.dot ≡ true = all-in (KnewEarlier first) m.history.made later (known_later.later counts_so) inside same_row same_site numbers in
      subst (λ (d : Dot). has later.past.known d ≡ true) two known_first

  closed-by : (key : Key) (past : Past) → Knows m.history.made key past.known → KnowsEarlier m key past.known
  closed-by key past knows dot earlier is known kept =
      any-out (has past.known earlier ≡ true) (is_of_row key dot) m.history.made (knows.made_here dot known) (λ later inside at_later.
      any-out (has past.known earlier ≡ true) (is_of_row key earlier) m.history.made is.made (λ first among at_first. (
      let one : later.dot ≡ dot = of-dot key dot later at_later in
      let known_there : has past.known later.dot ≡ true = subst (λ (d : Dot). has past.known d ≡ true) (sym one) known in
      let knew_it : has later.past.known earlier ≡ true = knew key dot earlier later first is kept at_later at_first inside among in
      all-in (KnowsItsPast past.known) m.history.made later knows.closed inside known_there earlier knew_it)))

  -- What a site holds knows nothing that was given up.

  counts : KnownCounts m
  counts = k.accepted.accepted.counts

  held-kept : (site : ℕ) (key : Key) (dot : Dot) → has (past_at m.history site key).known dot ≡ true → given_up dot ≡ false
  held-kept zero key dot known = accepted-kept (is_accepted m.history dot) (nat_le dot.number (received_number_by_number m.world.publisher dot.site.0)) (maker-accepted publication m k key dot (dot.site.0 == 0) refl known)
  held-kept (suc n) key dot known = counts.holds (suc n) key dot (omega arith) known

  held-just : (site : ℕ) (key : Key) (dot earlier : Dot) (b : Bool) → given_up earlier ≡ b → IsEarlier m key dot earlier → has (past_at m.history site key).known dot ≡ true → has (past_at m.history site key).known earlier ≡ not b
  held-just site key dot earlier true gone is known = not-true (has (past_at m.history site key).known earlier) (λ knows_it. (let kept : given_up earlier ≡ false = held-kept site key earlier knows_it in cc (gone, kept)))
  held-just site key dot earlier false kept is known = closed-by key (past_at m.history site key) (held-knows m.history site key (ground publication m k).known.knowledge) dot earlier is known kept

  pub held-earlier : HeldKnowEarlier m
  held-earlier site key dot earlier is known = held-just site key dot earlier (given_up earlier) refl is known

  -- By lineages.

  abbrev IsTold : Key → Version → Past → Type 0
  IsTold key version past = Told version past.known

  abbrev Stands : Key → Version → Past → Type 0
  Stands key version past = StandsFor m.history.made (counts_in m) key version.lineage past.known

  told-closed : (key : Key) (version : Version) (past : Past) → IsTold key version past → Stands key version past → KnowsEarlier m key past.known
  told-closed key version past told stands dot earlier is known kept =
      any-out (has past.known earlier ≡ true) (is_of_row key earlier) m.history.made is.made (λ first among at_first. (
      let two : first.dot ≡ earlier = of-dot key earlier first at_first in
      let of_first : same_key key first.key ≡ true = of-key key earlier first at_first in
      let counts_so : counts_in m first ≡ true = ap (λ (d : Dot). not (given_up d)) two ∙ ap not kept in
      let low : nat_le earlier.number (number_of version.lineage dot.site.0) ≡ true = reached (number_of version.lineage dot.site.0) dot.number earlier.number (told.tells.below dot known) is.before in
      let below : knows version.lineage earlier ≡ true = ap (λ (n : ℕ). nat_le earlier.number (number_of version.lineage n)) is.same ∙ low in
      let here : knows version.lineage first.dot ≡ has past.known first.dot = all-in (StandsAt key version.lineage past.known (counts_in m)) m.history.made first stands among of_first counts_so in
      sym (ap (λ (d : Dot). has past.known d) two) ∙ sym here ∙ ap (λ (d : Dot). knows version.lineage d) two ∙ below))

  pub every-earlier : EveryKnowsEarlier m
  every-earlier = every-both IsTold Stands (λ (key : Key) (version : Version) (past : Past). KnowsEarlier m key past.known) told-closed m.world m.history k.told (stand publication m k)
