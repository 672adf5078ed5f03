-- What is told of a run over the generated script: a function of the texts of its answers.
use Rattle.std.specs.Prelude.{Bool, List, [], codes, count_by, length, map, nat_eq, ℕ, ◌++◌, ◌||◌, ◌∷◌}
use Rattle.std.specs.List.{flat_map, starts_with, zip}
use Rattle.std.specs.Fmt.{decimal}
use Rattle.merge_script.specs.Lines.{lines_of}
use Rattle.merge_model.specs.Script.Play.{names_of}
use Rattle.merge_model.specs.Script.Text.{line, text_of}
use Rattle.merge_model.specs.declared.answer.Answer.{Answer}
use Rattle.merge_model.specs.declared.event.Event.{Event}
use Rattle.merge_model.specs.declared.event.Event.TheVariants as event
use Rattle.merge_make.specs.Publication.{made_publication}
use Rattle.merge_make.specs.Script.{script}

-- a text begins with another
abbrev pub begins : (front text : List ℕ) → Bool
begins front text = starts_with nat_eq text front

-- the answer to an event that was not done
abbrev pub is_refusal : List ℕ → Bool
is_refusal text = begins (codes "refused") text || (begins (codes "stopped") text || begins (codes "no memory") text)

-- the last of some lines, and where there is none the one before
abbrev pub last_from : List ℕ → List (List ℕ) → List ℕ
last_from before [] = before
last_from before (next ∷ more) = last_from next more

-- the last line of a text, with its end
abbrev pub last_line : List ℕ → List ℕ
last_line text = last_from [] (lines_of text) ++ 10 ∷ []

-- what the summary has of the answer to an event: the whole of a count, and of conflicts how many they are
abbrev pub shown_in_summary : Event → List ℕ → List ℕ
shown_in_summary (event.Count site) text = text
shown_in_summary (event.Conflicts site) text = last_line text
shown_in_summary other text = []

abbrev pub shown_of : Event × List ℕ → List ℕ
shown_of told = shown_in_summary told.0 told.1

abbrev pub made_line : (customers events refusals : ℕ) → List ℕ
made_line customers events refusals = line (codes "made" ∷ decimal customers ∷ codes "events" ∷ decimal events ∷ codes "refused" ∷ decimal refusals ∷ [])

-- the summary, by the texts of the answers to the script for so many customers
abbrev pub summary : (customers : ℕ) → List (List ℕ) → List ℕ
summary customers texts = made_line customers (length (script customers)) (count_by is_refusal texts) ++ flat_map shown_of (zip (script customers) texts)

-- the text of an answer, by the names of the script's publication
abbrev pub answer_text : Answer → List ℕ
answer_text answer = text_of (names_of made_publication) answer

-- the summary of answers
abbrev pub summary_of : (customers : ℕ) → List Answer → List ℕ
summary_of customers answers = summary customers (map answer_text answers)
