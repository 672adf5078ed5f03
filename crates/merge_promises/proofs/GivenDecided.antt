-- What was decided stands, since cells of one top have one list of values for good.
use Rattle.std.specs.Prelude.{List, None, Option, Some, [], drop, length, take, true, ℕ, ◌+◌, ◌∷◌, ◌≡◌}
use Rattle.std.proofs.Common.{sym, ◌∙◌}
use Rattle.merge_types.specs.declared.identifiers.Dot.{Dot}
use Rattle.merge_types.specs.declared.row_key.RowKey.{RowKey as Key}
use Rattle.merge_types.specs.declared.values.Value.{Value}
use Rattle.merge_units.specs.Results.{taken}
use Rattle.merge_units.specs.Version.{cells_of}
use Rattle.merge_units.specs.declared.case.Case.{Case}
use Rattle.merge_units.specs.declared.case.Case.TheVariants as case
use Rattle.merge_units.specs.declared.case.Side.{Side}
use Rattle.merge_units.specs.declared.case.Side.TheVariants as side
use Rattle.merge_units.specs.declared.result.Decision.{Decision}
use Rattle.merge_units.specs.declared.result.Decision.TheVariants.{Custom, KeepPublisher, TakeSubscriber}
use Rattle.merge_units.specs.declared.site_row.PublisherRow.{PublisherRow}
use Rattle.merge_units.specs.declared.version.Body.{Body}
use Rattle.merge_units.specs.declared.version.Body.TheVariants.{Dead, Live}
use Rattle.merge_units.specs.declared.version.Cell.{Cell}
use Rattle.merge_units.specs.declared.version.Version.{Version}
use Rattle.merge_schema.specs.declared.publication.Publication.{Publication}
use Rattle.merge_model.specs.Failing.{Slips}
use Rattle.merge_model.specs.Failing.Runs.{model_after_actions, model_behind_actions}
use Rattle.merge_model.specs.History.{Past, past_at}
use Rattle.merge_model.specs.History.Model.{Model, model_step}
use Rattle.merge_model.specs.Judge.ByHistory.{by_history}
use Rattle.merge_model.specs.Judge.{PublisherJudge}
use Rattle.merge_model.specs.Publisher.Acts.{Act, Fate, Met, New, Unknown}
use Rattle.merge_model.specs.Publisher.PublisherLocal.{version_at}
use Rattle.merge_model.specs.Tables.Keys.{same_key}
use Rattle.merge_model.specs.Tables.{PublisherTables}
use Rattle.merge_model.specs.World.Steps.{Action, Deliver}
use Rattle.merge_model.specs.World.{Saying}
use Rattle.merge_model.proofs.Lists.Finding.{all-weaker}
use Rattle.merge_laws.specs.Laws.{OfEveryValidActions}
use Rattle.merge_laws.proofs.Told.ToldRows.{HeldFits, rows-found}
use Rattle.merge_owed.specs.Values.{BodiesAgree, CellsAgree, ValuesStandForGoodByActions}
use Rattle.merge_owed.proofs.MadeStays.{every-weaker}
use Rattle.merge_promises.proofs.GivenDecisions.{decisions-give}
use Rattle.merge_promises.proofs.GivenStanding.{Agrees}
use Rattle.merge_promises.proofs.RunsGoOn.{holds-later}
use Rattle.merge_promises.specs.Given.{ActGives, AreDealt, FateGives, IsDealt, IsDecided, MetGives, acts_at}
use Rattle.merge_promises.specs.GivenForGood.{ActStands, DealtStand, DecidedStands, DecisionsStand, FateStands}

module _ (dot : Dot) (values : List Value) where
  dealt-cell : (before : ℕ) (s : Side) (p i cell there : Cell) → IsDealt dot (Custom values) before s p i cell → (cell.top ≡ there.top → cell.values ≡ there.values) → s ≡ side.Both → there.top ≡ dot → there.values ≡ take (length p.values) (drop before values)
  dealt-cell before side.Both p i cell there dealt agree is top = sym (agree (dealt.0 ∙ sym top)) ∙ dealt.1
  dealt-cell before side.Neither p i cell there dealt agree is top = absurd (cc is)
  dealt-cell before side.Publisher p i cell there dealt agree is top = absurd (cc is)
  dealt-cell before side.Incoming p i cell there dealt agree is top = absurd (cc is)

  dealt-stand : (before : ℕ) (sides : List Side) (ours theirs cells there : List Cell) → AreDealt dot (Custom values) before sides ours theirs cells → CellsAgree cells there → DealtStand dot values before sides ours theirs there
  dealt-stand before [] ours theirs cells there dealt agree = tt
  dealt-stand before (s ∷ sides) [] theirs cells there dealt agree = tt
  dealt-stand before (s ∷ sides) (p ∷ ours) [] cells there dealt agree = tt
  dealt-stand before (s ∷ sides) (p ∷ ours) (i ∷ theirs) [] there dealt agree = absurd dealt
  dealt-stand before (s ∷ sides) (p ∷ ours) (i ∷ theirs) (cell ∷ cells) [] dealt agree = tt
  dealt-stand before (s ∷ sides) (p ∷ ours) (i ∷ theirs) (cell ∷ cells) (other ∷ there) dealt agree = (
    dealt-cell before s p i cell other dealt.0 agree.0,
    dealt-stand (before + taken (Custom values) s p) sides ours theirs cells there dealt.1 agree.1,
  )

decided-stands : (dot : Dot) (decision : Decision) (c : Case) (ours theirs body there : Body) → IsDecided dot decision c ours theirs body → BodiesAgree body there → DecidedStands dot decision c ours theirs there
decided-stands dot (Custom values) (case.Conflict sides) ours theirs (Live cells) (Live there) decided agree = dealt-stand dot values 0 sides (cells_of ours) (cells_of theirs) cells there decided agree
decided-stands dot (Custom values) (case.Conflict sides) ours theirs (Live cells) (Dead top) decided agree = tt
decided-stands dot (Custom values) (case.Conflict sides) ours theirs (Dead top) there decided agree = absurd decided
decided-stands dot (Custom values) (case.Merge sides) ours theirs body there decided agree = tt
decided-stands dot (Custom values) case.Nothing ours theirs body there decided agree = tt
decided-stands dot (Custom values) case.Take ours theirs body there decided agree = tt
decided-stands dot (Custom values) case.Unite ours theirs body there decided agree = tt
decided-stands dot (Custom values) case.LifeConflict ours theirs body there decided agree = tt
decided-stands dot KeepPublisher c ours theirs body there decided agree = tt
decided-stands dot TakeSubscriber c ours theirs body there decided agree = tt

module _ (later : Model) where
  met-stands : (key : Key) (incoming held : Version) (c : Case) (decision : Decision) (dot : Dot) (found : Option Version) (past : Past) → MetGives held incoming c decision dot found → HeldFits (Agrees later) key found past → FateStands key incoming (Met held c decision dot) later
  met-stands key incoming held c decision dot None past gives fits = absurd gives
  met-stands key incoming held c decision dot (Some version) past gives fits =
      every-weaker (λ (other : Key) (there : Version) (known : Past). same_key key other ≡ true → BodiesAgree version.body there.body)
      (λ (other : Key) (there : Version) (known : Past). same_key key other ≡ true → DecidedStands dot decision c held.body incoming.body there.body)
      (λ other there known agree same. decided-stands dot decision c held.body incoming.body version.body there.body gives (agree same)) later.world later.history fits

  fate-stands : (key : Key) (incoming : Version) (fate : Fate) (found : Option Version) (past : Past) → FateGives incoming fate found → HeldFits (Agrees later) key found past → FateStands key incoming fate later
  fate-stands key incoming New found past gives fits = tt
  fate-stands key incoming Unknown found past gives fits = tt
  fate-stands key incoming (Met held c decision dot) found past gives fits = met-stands key incoming held c decision dot found past gives fits

decisions-stand : (publication : Publication) (says : Saying) (m : Model) → ((others : Slips) (more : List Action) → ValuesStandForGoodByActions publication says (model_after_actions publication says m others more)) → DecisionsStand publication says m
decisions-stand publication says m values number site u posted at made news slips actions =
    let judge : PublisherJudge = (by_history m.history).publisher number in
    let n : Model = (model_step publication says m (Deliver number)).0 in
    let q : PublisherTables = n.world.publisher in
    let later : Model = model_after_actions publication says n slips actions in
    let every = (values [] (Deliver number ∷ []) slips actions).publisher in
    all-weaker (λ (act : Act). ActGives act (version_at q act.key)) (ActStands later)
    (λ act gives. fate-stands later act.key act.incoming act.fate (version_at q act.key) (past_at n.history 0 act.key) gives (rows-found (λ (r : PublisherRow). r.version) (Agrees later) (past_at n.history 0) q.rows every act.key))
    (acts_at publication says judge u m.world) (decisions-give publication says (by_history m.history) m.world number site u posted at made news)

pub given-decided : OfEveryValidActions ValuesStandForGoodByActions → OfEveryValidActions DecisionsStand
given-decided law resolvers publication valid says tallies slips actions =
    decisions-stand publication says (model_behind_actions publication says tallies slips actions) (holds-later ValuesStandForGoodByActions law resolvers publication valid says tallies slips actions)
