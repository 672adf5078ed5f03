-- Each row has a maker: the change that its identifier carries, where the changes that its version knows can be carried.
use Rattle.std.specs.Prelude.{Bool, List, None, Option, Some, [], false, is_some, option_map, refl, true, ℕ, ◌&&◌, ◌++◌, ◌==◌, ◌^◌, ◌<◌, ◌||◌, ◌≡◌, ◌≤◌, ◌∷◌}
use Rattle.std.proofs.Common.{ap, arith, sym, ◌∙◌}
use Rattle.std.proofs.lemmas.Bool.Decides.{nat_tests}
use Rattle.merge_types.specs.Limits.{number_limit}
use Rattle.merge_types.specs.Rows.{IsMadeBy}
use Rattle.merge_types.specs.declared.changes.Change.{Change}
use Rattle.merge_types.specs.declared.changes.Change.TheVariants.{Delete, Insert, Update}
use Rattle.merge_types.specs.declared.identifiers.Dot.{Dot}
use Rattle.merge_types.specs.declared.row_key.RowKey.{RowKey as Key}
use Rattle.merge_types.specs.declared.values.Value.{Value}
use Rattle.merge_units.specs.Results.{result_by}
use Rattle.merge_units.specs.declared.case.Case.{Case}
use Rattle.merge_units.specs.declared.result.Decision.{Decision}
use Rattle.merge_units.specs.declared.version.Version.{Version}
use Rattle.merge_schema.specs.Valid.{IsValid}
use Rattle.merge_schema.specs.declared.publication.Publication.{Publication}
use Rattle.merge_units.specs.Changes.{changed, removed}
use Rattle.merge_batch.specs.LocalChanges.{key_of, tracking_at, version_after}
use Rattle.merge_batch.specs.Makers.{maker_of}
use Rattle.merge_batch.proofs.Makers.{maker_of-made}
use Rattle.merge_model.specs.Failing.{Slips}
use Rattle.merge_model.specs.History.{History, Past, has}
use Rattle.merge_model.specs.History.Model.{Model}
use Rattle.merge_model.specs.History.Pasts.{decided_dots, past_after, past_by}
use Rattle.merge_model.specs.Failing.Runs.{model_behind}
use Rattle.merge_model.specs.World.{Saying, World}
use Rattle.merge_model.specs.declared.event.Event.{Event}
use Rattle.merge_laws.specs.Facts.LineagesStand.{EveryVersion}
use Rattle.merge_laws.proofs.Pasts.DotTests.{dot-first}
use Rattle.merge_laws.proofs.Runs.Ground.{Ground, grounded-always}
use Rattle.merge_laws.proofs.Told.ToldRows.{HeldFits}
use Rattle.merge_laws.proofs.Told.ToldUploads.{GoesOn}
use Rattle.merge_laws.proofs.Told.ToldWalk.{every-begins, every-keeps}
use Rattle.merge_laws.proofs.Walking.{step-keeps}

-- an identifier can carry the change
pub record IsCarried (dot : Dot) : Type 0 where
  pub site : dot.site.0 < 2 ^ 16
  pub from_one : 1 ≤ dot.number
  pub fits : dot.number < number_limit

abbrev pub AreCarried : List Dot → Type 0
AreCarried known = (dot : Dot) → has known dot ≡ true → IsCarried dot

abbrev pub HasMaker : Key → Type 0
HasMaker key = is_some (maker_of key.row.0) ≡ true

-- what is known only grows, so this is kept
abbrev pub IsNamed : Key → Version → Past → Type 0
IsNamed key version past = AreCarried past.known → HasMaker key

carried-maker : (dot : Dot) (row : ℕ) → IsMadeBy row dot.site.0 dot.number → is_some (maker_of row) ≡ true
carried-maker dot row made = ap (λ (found : Option Dot). is_some found) (maker_of-made row dot.site.0 dot.number made)

known-more : (dot other : Dot) (known : List Dot) → has known other ≡ true → has (dot ∷ known) other ≡ true
known-more dot other known is = grind (arith, is)

held-named : (key : Key) (held : Option Version) (past : Past) (version : Version) → held ≡ Some version → HeldFits IsNamed key held past → IsNamed key version past
held-named key None past version is fits = absurd cc
held-named key (Some other) past version is fits = fits

behind-named : (key : Key) (dot : Dot) (held : Option Version) (past : Past) (after : Version → Version) (chained : Past) → chained.known ≡ dot ∷ past.known → HeldFits IsNamed key held past
    → HeldFits IsNamed key (option_map after held) chained
behind-named key dot None past after chained same fits = tt
behind-named key dot (Some version) past after chained same fits = λ carried. fits (λ other is. carried other (ap (λ (known : List Dot). has known other) same ∙ known-more dot other past.known is))

changed-named : (publication : Publication) (dot : Dot) (identity : Value) (change : Change) (held : Option Version) (past : Past) → HeldFits IsNamed (key_of dot change) held past
    → HeldFits IsNamed (key_of dot change) (version_after publication dot identity change held) (past_after publication dot change past)
changed-named publication dot identity (Insert article values) held past fits = λ carried. (let c : IsCarried dot = carried dot (dot-first dot []) in
    carried-maker dot _ (record { site_fits = c.site; from_one = c.from_one; fits = c.fits; same = refl }))
changed-named publication dot identity (Update article row values) held past fits = behind-named (record { article = article; row = row }) dot held past (λ (version : Version). changed version dot values (tracking_at publication article)) (past_after publication dot (Update article row values) past) refl fits
changed-named publication dot identity (Delete article row) held past fits = behind-named (record { article = article; row = row }) dot held past (λ (version : Version). removed version dot) (past_after publication dot (Delete article row) past) refl fits

-- of what is united
known-behind : (dots known : List Dot) (dot : Dot) → has known dot ≡ true → has (dots ++ known) dot ≡ true
known-behind [] known dot is = is
known-behind (other ∷ dots) known dot is = let rest = known-behind dots known dot is in grind (arith, rest)

known-before : (known others : List Dot) (dot : Dot) → has known dot ≡ true → has (known ++ others) dot ≡ true
known-before [] others dot is = absurd cc
known-before (other ∷ known) others dot is = before-by other known others dot _ refl is (λ later. known-before known others dot later)
  where
    before-by : (other : Dot) (known others : List Dot) (dot : Dot) (b : Bool) → ((other.site.0 == dot.site.0) && (other.number == dot.number)) ≡ b → has (other ∷ known) dot ≡ true → (has known dot ≡ true → has (known ++ others) dot ≡ true) → has (other ∷ known ++ others) dot ≡ true
    before-by other known others dot true here is later = grind (arith, here)
    before-by other known others dot false here is later = let rest = later (grind (arith, here, is)) in grind (arith, rest)

merged-named : (key : Key) (case : Case) (decision : Decision) (dot : Dot) (ours theirs : Version) (one other : Past) → IsNamed key ours one → IsNamed key (result_by case ours theirs decision dot) (past_by case decision dot one other)
merged-named key case decision dot ours theirs one other named = λ carried. named (λ known is. carried known (known-before (decided_dots decision dot ++ one.known) other.known known (known-behind (decided_dots decision dot) one.known known is)))

pub named-goes_on : (publication : Publication) → GoesOn publication IsNamed
named-goes_on publication = record {
  changed = λ dot identity change held rows past fine fits. changed-named publication dot identity change held past fits;
  merged = λ key case decision dot ours theirs one other is counts own t u. merged-named key case decision dot ours theirs one other t;
  put = λ key version past named. named;
}

abbrev pub AllNamed : Model → Type 0
AllNamed m = EveryVersion IsNamed m

abbrev OfNamed : World → History → Type 0
OfNamed w h = AllNamed (record { world = w; history = h })

pub named-always : (publication : Publication) (says : Saying) (tallies : List ℕ) (slips : Slips) (events : List Event) → (resolvers : ℕ) × IsValid resolvers publication → AllNamed (model_behind publication says tallies slips events)
named-always publication says tallies slips events valid =
    (grounded-always publication says tallies slips events valid OfNamed
    (λ m action g named. step-keeps publication says (Ground publication) OfNamed (λ w h ground. ground.received) (every-keeps publication says IsNamed (named-goes_on publication)) m action g named)
    (λ w h others t. record { publisher = t.publisher; subscribers = t.subscribers; letters = t.letters; conflicts = t.conflicts; discards = t.discards }) (every-begins IsNamed publication tallies)).1
