-- What comes from outside is of its types: the values and moments of events, and where identity ranges end.
use Rattle.std.specs.Int.{w32, w64}
use Rattle.std.specs.List.{AllByRecursion}
use Rattle.std.specs.Prelude.{FitsSigned, List, [], true, ℕ, ◌+◌, ◌<◌, ◌^◌, ◌≡◌, ◌∷◌}
use Rattle.std.specs.Str.{is_utf8}
use Rattle.merge_types.specs.declared.changes.Change.{Change}
use Rattle.merge_types.specs.declared.changes.Setting.{Setting}
use Rattle.merge_types.specs.declared.values.Value.{Value}
use Rattle.merge_types.specs.declared.values.Value.TheVariants.{Day, Guid, Int, Text}
use Rattle.merge_ident.specs.declared.grants.Rule.{Rule}
use Rattle.merge_schema.specs.declared.publication.Publication.{Publication}
use Rattle.merge_batch.specs.LocalChanges.{settings_of}
use Rattle.merge_model.specs.Tables.Publications.{rules_of}
use Rattle.merge_model.specs.declared.event.Event.{Event}
use Rattle.merge_model.specs.declared.event.Event.TheVariants as event
use Rattle.merge_model.specs.declared.event.NamedValue.{NamedValue}

-- What the type of values gives. How long a text is, and whether the calendar has a day, is a matter of rules.
abbrev pub ValueIsTyped : Value → Type 0
ValueIsTyped (Int number) = FitsSigned w64 number
ValueIsTyped (Text text) = is_utf8 text ≡ true
ValueIsTyped (Day day) = FitsSigned w32 day
ValueIsTyped (Guid guid) = guid < 2 ^ 128
ValueIsTyped value = Unit {0}

-- Events: the values that they set, and the moments to which they wait.

abbrev pub NamedIsTyped : NamedValue → Type 0
NamedIsTyped named = ValueIsTyped named.value

abbrev pub EventIsTyped : Event → Type 0
EventIsTyped (event.Insert site article values) = AllByRecursion NamedIsTyped values
EventIsTyped (event.Update site article row values) = AllByRecursion NamedIsTyped values
EventIsTyped other = Unit {0}

-- the moment behind an event
abbrev pub moment_after : ℕ → Event → ℕ
moment_after moment (event.Wait seconds) = moment + seconds
moment_after moment other = moment

abbrev pub MomentsFit : ℕ → List Event → Type 0
MomentsFit moment [] = Unit {0}
MomentsFit moment (e ∷ events) = (moment_after moment e < 2 ^ 64) × MomentsFit (moment_after moment e) events

pub record EventsAreTyped (events : List Event) : Type 0 where
  pub values : AllByRecursion EventIsTyped events
  pub moments : MomentsFit 0 events

-- a change, which has places for names
abbrev pub SettingIsTyped : Setting → Type 0
SettingIsTyped setting = ValueIsTyped setting.value

abbrev pub ChangeIsTyped : Change → Type 0
ChangeIsTyped change = AllByRecursion SettingIsTyped (settings_of change)

-- The greatest value of each identity column fits.
abbrev pub RuleIsTyped : Rule → Type 0
RuleIsTyped rule = FitsSigned w64 rule.greatest

abbrev pub PublicationIsTyped : Publication → Type 0
PublicationIsTyped publication = AllByRecursion RuleIsTyped (rules_of publication)
