-- What is written for a script.
use Rattle.std.specs.Prelude.{List, [], option_map, slice_get, unwrap_or, ℕ, ◌∷◌}
use Rattle.merge_types.specs.declared.values.Column.{Column}
use Rattle.merge_units.specs.Cases.{side_by}
use Rattle.merge_schema.specs.declared.publication.Article.{Article}
use Rattle.merge_schema.specs.declared.publication.Publication.{Publication}
use Rattle.merge_schema.specs.Places.{article_at}
use Rattle.merge_types.specs.Fitting.{has_type}
use Rattle.merge_batch.specs.Asks.{broken_by_join, broken_by_ranges}
use Rattle.merge_batch.specs.Makers.{maker_of}
use Rattle.merge_batch.specs.Replies.{broken_by_reply}
use Rattle.merge_batch.specs.Uploads.{broken_by_upload}
use Rattle.merge_model.specs.World.Events.{machine_answers}
use Rattle.merge_model.specs.Script.Literals.{opened}
use Rattle.merge_model.specs.History.Model.{model_answers}
use Rattle.merge_model.specs.Tables.Publications.{columns_at}
use Rattle.merge_model.specs.Script.Reading.{events_of}
use Rattle.merge_model.specs.Script.Resolvers.{rules_say}
use Rattle.merge_model.specs.Script.Text.{Names, texts_of}
use Rattle.merge_model.specs.World.{Saying}
use Rattle.merge_script.specs.Input.{script_of}
use Rattle.merge_script.specs.Lines.{lines_of}

abbrev pub article_name : Publication → ℕ → List ℕ
article_name publication place = unwrap_or (option_map (λ (article : Article). article.name) (article_at publication place)) []

abbrev pub column_name : Publication → ℕ → ℕ → List ℕ
column_name publication article place = unwrap_or (option_map (λ (column : Column). column.name) (slice_get (columns_at publication article) place)) []

abbrev pub names_of : Publication → Names
names_of publication = record {
  article = article_name publication;
  column = column_name publication;
}

-- the text of the machine's answers to the events of a script
abbrev pub machine_text : Publication → Saying → List ℕ → List ℕ → List ℕ
machine_text publication says tallies script = texts_of (names_of publication) (machine_answers publication says tallies (events_of (lines_of script)))

-- the same for the whole input of the program with its five resolvers, none of which was asked before
abbrev pub machine_output : Publication → List ℕ → List ℕ
machine_output publication input = machine_text publication rules_say (0 ∷ 0 ∷ 0 ∷ 0 ∷ 0 ∷ []) (script_of input)

-- the same by the model
abbrev pub model_text : Publication → Saying → List ℕ → List ℕ → List ℕ
model_text publication says tallies script = texts_of (names_of publication) (model_answers publication says tallies (events_of (lines_of script)))

abbrev pub model_output : Publication → List ℕ → List ℕ
model_output publication input = model_text publication rules_say (0 ∷ 0 ∷ 0 ∷ 0 ∷ 0 ∷ []) (script_of input)

-- all that computes here and is shut elsewhere
unfoldable pub opened_play : List ℕ
unfolding opened has_type maker_of broken_by_upload broken_by_join broken_by_ranges broken_by_reply side_by
opened_play = []
