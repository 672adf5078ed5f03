-- What typed actions keep, and the passing of time does, typed events keep, also where steps fail.
use Rattle.std.specs.List.{AllByRecursion}
use Rattle.std.specs.Ordering.{nat_cmp}
use Rattle.std.specs.Prelude.{Bool, Err, IfOk, List, None, Ok, Option, Result, Some, [], false, if◌then◌else◌, map, refl, take, true, ℕ, ◌+◌, ◌<◌, ◌^◌, ◌≡◌, ◌∷◌}
use Rattle.std.proofs.Common.{subst, sym}
use Rattle.merge_types.specs.declared.changes.Change.{Change}
use Rattle.merge_types.specs.declared.changes.Change.TheVariants.{Delete, Insert, Update}
use Rattle.merge_types.specs.declared.changes.Setting.{Setting}
use Rattle.merge_types.specs.declared.identifiers.RowId.{RowId}
use Rattle.merge_types.specs.declared.identifiers.SiteId.{SiteId}
use Rattle.merge_types.specs.declared.values.Column.{Column}
use Rattle.merge_types.specs.declared.values.Value.{Value}
use Rattle.merge_resolve.specs.Asked.{tallies_after}
use Rattle.merge_schema.specs.Places.{is_subscription}
use Rattle.merge_schema.specs.declared.publication.Publication.{Publication}
use Rattle.merge_batch.specs.declared.refusal.Refusal.TheVariants.{UnknownName, UnknownSite}
use Rattle.merge_model.specs.World.Events.{after, answered_action, answered_change, answered_look, answered_sync, happens, is_site, where_site, where_subscriber}
use Rattle.merge_model.specs.Failing.{Faulty, Slip, Slips, acting_with, fails, faulty_stepping, is_allowed, questions_by, slip_if}
use Rattle.merge_model.specs.Tables.Keys.{at_number, put_number}
use Rattle.merge_model.specs.Laws.{is_report}
use Rattle.merge_model.specs.World.Naming.{and_then, article_by, column_place, delete_by, insert_by, set_at, setting_of, settings_by, update_by, values_at_places}
use Rattle.merge_model.specs.Tables.Publications.{columns_at}
use Rattle.merge_model.specs.World.Session.{Stepping}
use Rattle.merge_model.specs.World.Steps.{Action, CloseAt, Deliver, Forget, Look, Make, MakeAnew, Pass, Send, SendDownload, SendJoin, SendRanges, SendUpload}
use Rattle.merge_model.specs.declared.answer.Answer.{Answer}
use Rattle.merge_model.specs.declared.answer.Answer.TheVariants.{Refused}
use Rattle.merge_model.specs.declared.event.Event.{Event}
use Rattle.merge_model.specs.declared.event.Event.TheVariants as event
use Rattle.merge_model.specs.declared.event.NamedValue.{NamedValue}
use Rattle.merge_model.specs.declared.outcome.Outcome.{Outcome}
use Rattle.merge_model.proofs.Lists.{all-map}
use Rattle.merge_model.proofs.Runs.Reports.{looking-leaves, report-looks}
use Rattle.merge_typed.specs.Outside.{ChangeIsTyped, EventIsTyped, MomentsFit, NamedIsTyped, SettingIsTyped, ValueIsTyped, moment_after}
use Rattle.merge_typed.proofs.Entries.{values-put}
use Rattle.merge_typed.proofs.Sessions.{session-keeps}
use Rattle.merge_typed.proofs.Walk.{ActionIsTyped}

-- A typed event makes a typed change: places stand for names.

then-is : {A B : Type 0} (Of : A → Type 0) (To : B → Type 0) (done : Result A (List ℕ)) (next : A → Result B (List ℕ)) → IfOk done Of → ((a : A) → Of a → IfOk (next a) To) → IfOk (and_then done next) To
then-is Of To (Ok a) next is each = each a is
then-is Of To (Err name) next is each = tt

any-article : (done : Result ℕ (List ℕ)) → IfOk done (λ article. Unit {0})
any-article (Ok article) = tt
any-article (Err name) = tt

abbrev PairsAreTyped : List (ℕ × Value) → Type 0
PairsAreTyped pairs = AllByRecursion (λ (pair : ℕ × Value). ValueIsTyped pair.1) pairs

set-by : (others : List (ℕ × Value)) (named : NamedValue) (place : ℕ) (found : Option Value) → NamedIsTyped named → PairsAreTyped others
    → (let set : Result (List (ℕ × Value)) (List ℕ) = elim found [ None ↦ Ok (put_number others place named.value) | Some value ↦ Err named.column ] in IfOk set PairsAreTyped)
set-by others named place None is typed = values-put ValueIsTyped nat_cmp place named.value others is typed
set-by others named place (Some value) is typed = tt

set-is : (others : List (ℕ × Value)) (named : NamedValue) (found : Option ℕ) → NamedIsTyped named → PairsAreTyped others → IfOk (set_at others named found) PairsAreTyped
set-is others named None is typed = tt
set-is others named (Some place) is typed = set-by others named place (at_number others place) is typed

placed-are : (columns : List Column) (others : List (ℕ × Value)) (named : List NamedValue) → AllByRecursion NamedIsTyped named → PairsAreTyped others → IfOk (values_at_places columns others named) PairsAreTyped
placed-are columns others [] all typed = typed
placed-are columns others (first ∷ named) all typed = then-is PairsAreTyped PairsAreTyped (set_at others first (column_place columns first.column)) (λ (more : List (ℕ × Value)). values_at_places columns more named)
    (set-is others first (column_place columns first.column) all.0 typed) (λ more is. placed-are columns more named all.1 is)

settings-are : (columns : List Column) (named : List NamedValue) → AllByRecursion NamedIsTyped named → IfOk (settings_by columns named) (λ settings. AllByRecursion SettingIsTyped settings)
settings-are columns named all = then-is PairsAreTyped (λ (settings : List Setting). AllByRecursion SettingIsTyped settings) (values_at_places columns [] named) (λ (pairs : List (ℕ × Value)). Ok (map setting_of pairs)) (placed-are columns [] named all tt)
    (λ pairs is. all-map (λ (pair : ℕ × Value). ValueIsTyped pair.1) SettingIsTyped setting_of (λ pair typed. typed) pairs is)

module _ (publication : Publication) (name : List ℕ) where
  inserted : (named : List NamedValue) → AllByRecursion NamedIsTyped named → IfOk (insert_by publication name named) ChangeIsTyped
  inserted named all = then-is (λ (article : ℕ). Unit {0}) ChangeIsTyped (article_by publication name) (λ (article : ℕ). and_then (settings_by (columns_at publication article) named) (λ (settings : List Setting). Ok (Insert article settings))) (any-article (article_by publication name))
      (λ article none. then-is (λ (settings : List Setting). AllByRecursion SettingIsTyped settings) ChangeIsTyped (settings_by (columns_at publication article) named) (λ (settings : List Setting). Ok (Insert article settings)) (settings-are (columns_at publication article) named all) (λ settings is. is))

  updated : (row : RowId) (named : List NamedValue) → AllByRecursion NamedIsTyped named → IfOk (update_by publication name row named) ChangeIsTyped
  updated row named all = then-is (λ (article : ℕ). Unit {0}) ChangeIsTyped (article_by publication name) (λ (article : ℕ). and_then (settings_by (columns_at publication article) named) (λ (settings : List Setting). Ok (Update article row settings))) (any-article (article_by publication name))
      (λ article none. then-is (λ (settings : List Setting). AllByRecursion SettingIsTyped settings) ChangeIsTyped (settings_by (columns_at publication article) named) (λ (settings : List Setting). Ok (Update article row settings)) (settings-are (columns_at publication article) named all) (λ settings is. is))

  deleted : (row : RowId) → IfOk (delete_by publication name row) ChangeIsTyped
  deleted row = then-is (λ (article : ℕ). Unit {0}) ChangeIsTyped (article_by publication name) (λ (article : ℕ). Ok (Delete article row)) (any-article (article_by publication name)) (λ article none. tt)

-- Events.

module _ {W : Type 0} (publication : Publication) (stepping : Stepping W) (P : ℕ → W → Type 0) (of_act : (latest : ℕ) (w : W) (action : Action) → latest < 2 ^ 64 → ActionIsTyped action → P latest w → P latest (stepping.act w action).0)
    (of_pass : (latest seconds : ℕ) (w : W) → P latest w → P (latest + seconds) (stepping.act w (Pass seconds)).0) where
  module _ (latest : ℕ) (low : latest < 2 ^ 64) where
    if-keeps : (b : Bool) (x y : W × Answer) → P latest x.0 → P latest y.0 → P latest (if b then x else y).0
    if-keeps true x y first second = first
    if-keeps false x y first second = second

    looking-keeps : (w : W) (answer : W → Answer) → P latest w → P latest (answered_look publication stepping answer w).0
    looking-keeps w answer h = subst (λ (v : W). P latest v) (sym (looking-leaves publication stepping answer w)) (of_act latest w Look low tt h)

    site-keeps : (site : SiteId) (w : W) (next : W → W × Answer) → P latest (next w).0 → P latest w → P latest (where_site publication stepping site w next).0
    site-keeps site w next keeps h = if-keeps (is_site publication site) (next w) (answered_look publication stepping (λ (v : W). Refused (UnknownSite site)) w) keeps (looking-keeps w (λ (v : W). Refused (UnknownSite site)) h)

    subscriber-keeps : (site : SiteId) (w : W) (next : W → W × Answer) → P latest (next w).0 → P latest w → P latest (where_subscriber publication stepping site w next).0
    subscriber-keeps site w next keeps h = if-keeps (is_subscription publication site.0) (next w) (answered_look publication stepping (λ (v : W). Refused (UnknownSite site)) w) keeps (looking-keeps w (λ (v : W). Refused (UnknownSite site)) h)

    changing-keeps : (site : SiteId) (w : W) (named : Result Change (List ℕ)) → IfOk named ChangeIsTyped → P latest w → P latest (answered_change publication stepping site w named).0
    changing-keeps site w (Err name) typed h = looking-keeps w (λ (v : W). Refused (UnknownName name)) h
    changing-keeps site w (Ok change) typed h = of_act latest w (Make site change) low typed h

    report-keeps : (w : W) (e : Event) → is_report e ≡ true → P latest w → P latest (happens publication stepping w e).0
    report-keeps w e is h = subst (λ (v : W). P latest v) (sym (report-looks publication stepping w e is)) (of_act latest w Look low tt h)

    pub event-keeps : (w : W) (e : Event) → EventIsTyped e → P latest w → P (moment_after latest e) (happens publication stepping w e).0
    event-keeps w (event.Wait seconds) typed h = of_pass latest seconds w h
    event-keeps w (event.Insert site article values) typed h = site-keeps site w (λ (v : W). answered_change publication stepping site v (insert_by publication article values)) (changing-keeps site w (insert_by publication article values) (inserted publication article values typed) h) h
    event-keeps w (event.Update site article row values) typed h = site-keeps site w (λ (v : W). answered_change publication stepping site v (update_by publication article row values)) (changing-keeps site w (update_by publication article row values) (updated publication article row values typed) h) h
    event-keeps w (event.Delete site article row) typed h = site-keeps site w (λ (v : W). answered_change publication stepping site v (delete_by publication article row)) (changing-keeps site w (delete_by publication article row) (deleted publication article row) h) h
    event-keeps w (event.Close site) typed h = site-keeps site w (answered_action publication stepping 0 (CloseAt site)) (of_act latest w (CloseAt site) low tt h) h
    event-keeps w (event.Sync site) typed h = subscriber-keeps site w (answered_sync publication stepping site) (session-keeps stepping (P latest) (λ v action is k. of_act latest v action low is k) site w h) h
    event-keeps w (event.SendJoin site) typed h = subscriber-keeps site w (answered_action publication stepping 0 (Send site SendJoin)) (of_act latest w (Send site SendJoin) low tt h) h
    event-keeps w (event.SendUpload site) typed h = subscriber-keeps site w (answered_action publication stepping 0 (Send site SendUpload)) (of_act latest w (Send site SendUpload) low tt h) h
    event-keeps w (event.SendRanges site) typed h = subscriber-keeps site w (answered_action publication stepping 0 (Send site SendRanges)) (of_act latest w (Send site SendRanges) low tt h) h
    event-keeps w (event.SendDownload site) typed h = subscriber-keeps site w (answered_action publication stepping 0 (Send site SendDownload)) (of_act latest w (Send site SendDownload) low tt h) h
    event-keeps w (event.Deliver number) typed h = of_act latest w (Deliver number) low tt h
    event-keeps w (event.Reinit site) typed h = subscriber-keeps site w (answered_action publication stepping 0 (MakeAnew site)) (of_act latest w (MakeAnew site) low tt h) h
    event-keeps w event.Purge typed h = of_act latest w Forget low tt h
    event-keeps w (event.Restart site) typed h = report-keeps w (event.Restart site) refl h
    event-keeps w (event.Show site article) typed h = report-keeps w (event.Show site article) refl h
    event-keeps w (event.Partition site) typed h = report-keeps w (event.Partition site) refl h
    event-keeps w (event.Conflicts site) typed h = report-keeps w (event.Conflicts site) refl h
    event-keeps w (event.Ranges site) typed h = report-keeps w (event.Ranges site) refl h
    event-keeps w (event.Generations site) typed h = report-keeps w (event.Generations site) refl h
    event-keeps w (event.Count site) typed h = report-keeps w (event.Count site) refl h

  pub events-keep : (events : List Event) (latest : ℕ) (w : W) → latest < 2 ^ 64 → AllByRecursion EventIsTyped events → MomentsFit latest events → P latest w → (last : ℕ) × P last (after publication stepping w events)
  events-keep [] latest w low typed moments h = (latest, h)
  events-keep (e ∷ events) latest w low typed moments h = events-keep events (moment_after latest e) (happens publication stepping w e).0 moments.0 typed.1 moments.1 (event-keeps latest low w e typed.0 h)

-- Where steps may fail.

module _ {W : Type 0} (publication : Publication) (stepping : Stepping W) (P : ℕ → W → Type 0) (of_act : (latest : ℕ) (w : W) (action : Action) → latest < 2 ^ 64 → ActionIsTyped action → P latest w → P latest (stepping.act w action).0)
    (of_pass : (latest seconds : ℕ) (w : W) → P latest w → P (latest + seconds) (stepping.act w (Pass seconds)).0) (of_tallies : (latest : ℕ) (w : W) (tallies : List ℕ) → P latest w → P latest (stepping.retally tallies w)) where
  slip-keeps : (latest : ℕ) (allowed : Bool) (slips : Slips) (slip : Slip) (action : Action) (w : W) (done : W × Outcome) → P latest w → P latest done.0 → P latest (slip_if publication stepping allowed slips slip action w done).0.world
  slip-keeps latest true slips slip action w done before behind = of_tallies latest w (tallies_after (stepping.look w).tallies (take slip.asked (questions_by publication (stepping.look w) action done.1))) before
  slip-keeps latest false slips slip action w done before behind = behind

  acting-keeps : (latest : ℕ) (slips : Slips) (action : Action) (w : W) (done : W × Outcome) → P latest w → P latest done.0 → P latest (acting_with publication stepping slips action w done).0.world
  acting-keeps latest [] action w done before behind = behind
  acting-keeps latest (None ∷ slips) action w done before behind = behind
  acting-keeps latest (Some slip ∷ slips) action w done before behind = slip-keeps latest (is_allowed publication (stepping.look w) action slip done.1) slips slip action w done before behind

  fails-keep : (latest : ℕ) (f : Faulty W) (action : Action) → latest < 2 ^ 64 → ActionIsTyped action → P latest f.world → P latest (fails publication stepping f action).0.world
  fails-keep latest f (Pass seconds) low typed h = absurd typed
  fails-keep latest f (Make site change) low typed h = acting-keeps latest f.slips (Make site change) f.world (stepping.act f.world (Make site change)) h (of_act latest f.world (Make site change) low typed h)
  fails-keep latest f (CloseAt site) low typed h = acting-keeps latest f.slips (CloseAt site) f.world (stepping.act f.world (CloseAt site)) h (of_act latest f.world (CloseAt site) low typed h)
  fails-keep latest f (Send site sending) low typed h = acting-keeps latest f.slips (Send site sending) f.world (stepping.act f.world (Send site sending)) h (of_act latest f.world (Send site sending) low typed h)
  fails-keep latest f (Deliver number) low typed h = acting-keeps latest f.slips (Deliver number) f.world (stepping.act f.world (Deliver number)) h (of_act latest f.world (Deliver number) low typed h)
  fails-keep latest f (MakeAnew site) low typed h = acting-keeps latest f.slips (MakeAnew site) f.world (stepping.act f.world (MakeAnew site)) h (of_act latest f.world (MakeAnew site) low typed h)
  fails-keep latest f Forget low typed h = acting-keeps latest f.slips Forget f.world (stepping.act f.world Forget) h (of_act latest f.world Forget low typed h)
  fails-keep latest f Look low typed h = acting-keeps latest f.slips Look f.world (stepping.act f.world Look) h (of_act latest f.world Look low typed h)

  pub runs-keep : (events : List Event) (latest : ℕ) (f : Faulty W) → latest < 2 ^ 64 → AllByRecursion EventIsTyped events → MomentsFit latest events → P latest f.world → (last : ℕ) × P last (after publication (faulty_stepping publication stepping) f events).world
  runs-keep events latest f low typed moments h = events-keep publication (faulty_stepping publication stepping) (λ (n : ℕ) (g : Faulty W). P n g.world) fails-keep (λ n seconds g k. of_pass n seconds g.world k) events latest f low typed moments h
