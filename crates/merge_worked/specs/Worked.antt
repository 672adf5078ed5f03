-- A worked script: a publication, an input that the program gets behind it, and the answers.
use Rattle.std.specs.Prelude.{◌≡◌, ℕ, List}
use Rattle.merge_schema.specs.declared.publication.Publication.{Publication}
use Rattle.merge_model.specs.World.Events.{after, machine}
use Rattle.merge_model.specs.Script.Play.{machine_output, machine_text, model_output, model_text}
use Rattle.merge_model.specs.Script.Reading.{events_of}
use Rattle.merge_model.specs.World.{Saying, empty_world}
use Rattle.merge_script.specs.Input.{script_of}
use Rattle.merge_script.specs.Lines.{lines_of}

pub record WorkedScript : Type 0 where
  pub publication : Publication
  pub input : List ℕ
  pub answers : List ℕ

-- the machine, which decides by tables, writes the answers
abbrev pub IsPlayed : WorkedScript → Type 0
IsPlayed worked = machine_output worked.publication worked.input ≡ worked.answers

-- and so does the model, which decides by histories
abbrev pub IsTold : WorkedScript → Type 0
IsTold worked = model_output worked.publication worked.input ≡ worked.answers

-- The same where a program hands in other resolvers, of which none was asked before.

abbrev pub IsPlayedBy : Saying → List ℕ → WorkedScript → Type 0
IsPlayedBy says tallies worked = machine_text worked.publication says tallies (script_of worked.input) ≡ worked.answers

abbrev pub IsToldBy : Saying → List ℕ → WorkedScript → Type 0
IsToldBy says tallies worked = model_text worked.publication says tallies (script_of worked.input) ≡ worked.answers

-- how often each was asked
abbrev pub tallies_by : Saying → List ℕ → WorkedScript → List ℕ
tallies_by says tallies worked = (after worked.publication (machine worked.publication says) (empty_world worked.publication tallies) (events_of (lines_of (script_of worked.input)))).tallies
