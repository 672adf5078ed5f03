-- Each range that a site holds, or is told of, was granted to it: it was granted whole to someone, and each of its values to this site.
use Rattle.std.specs.List.{AllByRecursion}
use Rattle.std.specs.Prelude.{List, [], count_by, true, ◌==◌, ◌≡◌, ◌≤◌, ◌∷◌, ℕ, ℤ}
use Rattle.std.proofs.Common.{arith}
use Rattle.std.proofs.lemmas.List.Elements.{recursion_from_All}
use Rattle.merge_ident.specs.Grants.{AreGrants, IsGranted, is_in}
use Rattle.merge_ident.specs.Holders.{Holder, Received as ReceivedRange}
use Rattle.merge_ident.specs.declared.grants.Grant.{Grant}
use Rattle.merge_schema.specs.declared.publication.Publication.{Publication}
use Rattle.merge_batch.specs.declared.reply.RangeGrant.{RangeGrant}
use Rattle.merge_batch.specs.declared.reply.Reply.TheVariants as reply
use Rattle.merge_model.specs.Failing.Runs.{model_behind_actions}
use Rattle.merge_model.specs.History.Model.{Model}
use Rattle.merge_model.specs.declared.letter.Letter.{Letter}
use Rattle.merge_model.specs.declared.letter.Message.TheVariants.{Replies}
use Rattle.merge_model.proofs.Lists.Finding.{pool-at}
use Rattle.merge_model.proofs.Lists.{all-both, all-every}
use Rattle.merge_laws.specs.Facts.Identities.{IsTold as HasValuesTold, LetterTells as LetterTellsValues, gives_numbered, gives_to, holder_in, holders_at, told_range}
use Rattle.merge_laws.specs.Laws.{OfEveryValidActions, OfEveryValidRun}
use Rattle.merge_laws.specs.Laws.RestsOn.{HeldWereGranted}
use Rattle.merge_laws.proofs.Identities.IdentityCalls.{counts-cons}
use Rattle.merge_laws.proofs.Identities.IdentitySteps.{Apart, identities-by-actions}
use Rattle.merge_laws.proofs.Runs.OfActions.{of-valid-runs}
use Rattle.merge_laws.proofs.Runs.RestsOnKept.{held-granted-always}
use Rattle.merge_laws.proofs.Runs.ValidRules.{valid-rules}
use Rattle.merge_promises.specs.GrantedRanges.{HeldRangesWereGranted, ToldRangesWereGranted, gives_range}
use Rattle.merge_promises.proofs.RangesApart.{IsWhole, and-counts, granted-whole}
use Rattle.merge_promises.proofs.WholeRanges.{IsTold, LetterTells, Whole, whole-by-actions}

ranges-granted : (publication : Publication) (m : Model) → Apart publication m.world m.history.made → Whole m.world → HeldWereGranted m → HeldRangesWereGranted m
ranges-granted publication m apart whole values site article =
    let grants : List Grant = m.world.publisher.grants in
    let holder : Holder = holder_in (holders_at m.world.publisher.held m.world.subscribers site) article in
    let fit : AreGrants grants = apart.book.grants_fit in
    let all : AllByRecursion IsGranted grants = recursion_from_All IsGranted grants fit.ranges in
    let each : AllByRecursion (λ (held : ReceivedRange). (value : ℤ) → is_in value held.range ≡ true → 1 ≤ count_by (gives_to site article value) grants) holder.held =
    all-every (λ (value : ℤ) (held : ReceivedRange). is_in value held.range ≡ true → 1 ≤ count_by (gives_to site article value) grants) holder.held (λ value. values site article value) in
    all-both (λ (held : ReceivedRange). IsWhole grants article held.range) (λ (held : ReceivedRange). (value : ℤ) → is_in value held.range ≡ true → 1 ≤ count_by (gives_to site article value) grants)
    (λ (held : ReceivedRange). count_by (gives_range site article held.range) grants ≡ 1)
    (λ held one given. granted-whole grants fit.disjoint all site article held.range one (given held.range.begin)) holder.held (whole.held site article) each

pub ranges-granted-by-actions : OfEveryValidActions (λ publication says m. HeldRangesWereGranted m)
ranges-granted-by-actions resolvers publication valid says tallies slips actions =
    ranges-granted publication (model_behind_actions publication says tallies slips actions)
    (identities-by-actions publication (valid-rules resolvers publication valid) says tallies slips actions) (whole-by-actions publication says tallies slips actions) (held-granted-always resolvers publication valid says tallies slips actions)

pub ranges-granted-always : OfEveryValidRun (λ publication says m. HeldRangesWereGranted m)
ranges-granted-always = of-valid-runs (λ publication says m. HeldRangesWereGranted m) ranges-granted-by-actions

-- Of what a reply tells.

numbered-gives : (site article number : ℕ) (value : ℤ) (grants : List Grant) → count_by (gives_numbered site article number value) grants ≤ count_by (gives_to site article value) grants
numbered-gives site article number value [] = omega arith
numbered-gives site article number value (grant ∷ grants) =
    omega (arith, numbered-gives site article number value grants, and-counts (grant.number == number) (gives_to site article value grant), counts-cons (gives_numbered site article number value) grant grants, counts-cons (gives_to site article value) grant grants)

told-granted : (publication : Publication) (m : Model) → Apart publication m.world m.history.made → Whole m.world → ToldRangesWereGranted m
told-granted publication m apart whole number site r at =
    let grants : List Grant = m.world.publisher.grants in
    let letter : Letter = record { site = site; message = Replies (reply.Ranged r) } in
    let fit : AreGrants grants = apart.book.grants_fit in
    let all : AllByRecursion IsGranted grants = recursion_from_All IsGranted grants fit.ranges in
    let tells : AllByRecursion (IsTold grants) r.grants = pool-at (LetterTells grants) m.world number letter at whole.letters in
    let values : AllByRecursion (HasValuesTold grants site.0) r.grants = pool-at (LetterTellsValues grants) m.world number letter at apart.letters in
    all-both (IsTold grants) (HasValuesTold grants site.0) (λ (told : RangeGrant). count_by (gives_range site.0 told.article (told_range told)) grants ≡ 1)
    (λ told one given. granted-whole grants fit.disjoint all site.0 told.article (told_range told) one
    (λ within. omega (arith, given (told_range told).begin within, numbered-gives site.0 told.article told.number (told_range told).begin grants))) r.grants tells values

pub told-granted-by-actions : OfEveryValidActions (λ publication says m. ToldRangesWereGranted m)
told-granted-by-actions resolvers publication valid says tallies slips actions =
    told-granted publication (model_behind_actions publication says tallies slips actions)
    (identities-by-actions publication (valid-rules resolvers publication valid) says tallies slips actions) (whole-by-actions publication says tallies slips actions)

pub told-granted-always : OfEveryValidRun (λ publication says m. ToldRangesWereGranted m)
told-granted-always = of-valid-runs (λ publication says m. ToldRangesWereGranted m) told-granted-by-actions
