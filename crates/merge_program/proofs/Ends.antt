-- Why a run ends, by what ended a part of it; and the status by which that is told.
use Rattle.std.proofs.Common.{Err, List, None, Ok, Option, Some, ap, arith, inl, inr, length, refl, subst, sym, ℕ, ◌+◌, ◌++◌, ◌<◌, ◌∙◌, ◌≡◌, ◌≤◌, ◌⊎◌}
use Rattle.std.proofs.lemmas.List.{length-append}
use Rattle.std.specs.Prelude.{IfSome}
use Rattle.merge_types.specs.declared.identifiers.SiteId.{SiteId}
use Rattle.merge_ports.specs.Entries.{Map}
use Rattle.merge_ports.specs.Faults.{Rose}
use Rattle.merge_ports.specs.declared.whole.ReadFault.{ReadFault as Unread}
use Rattle.merge_ports.specs.declared.whole.ReadFault.TheVariants as reading
use Rattle.merge_schema.specs.Answers.{IsAnswer}
use Rattle.merge_schema.specs.declared.fault.SchemaFault.{SchemaFault}
use Rattle.merge_schema.specs.declared.fault.SchemaFault.TheVariants as schema
use Rattle.merge_schema.specs.declared.publication.Publication.{Publication}
use Rattle.merge_script.specs.Input.{IsCut, publication_of, script_of}
use Rattle.merge_script.specs.Lines.{lines_of}
use Rattle.merge_script.proofs.Cuts.{IsCut-input}
use Rattle.merge_world.specs.Views.{HandedView}
use Rattle.merge_program.specs.declared.ending.Ending.{Ending}
use Rattle.merge_program.specs.declared.ending.Ending.TheVariants.{BadReply, Damaged, Declined, Done, Expired, LinkFault, NoEvent, NoMemory, NotTaken, ReadFault, Refused, StoreFault, TooLong, UnknownArticle, UnknownSite, Usage, WriteFault}
use Rattle.merge_program.specs.Endings.{ending_of_reading, refused_for}
use Rattle.merge_program.specs.Headline.{AnsweredInPart, InputEnds, IsStopped, IsTaken, IsTakenInput, PlayEnds, PlayRunEnds, Sides, WrittenInPart, lines_of_input}

module _ (handed : HandedView) (input : List ℕ) (sides : Sides) (stored kept : SiteId → Option Map) (writes refused : ℕ) where
  abbrev Input : Ending → Type 0
  Input ending = InputEnds ending handed input sides stored kept writes refused

  module _ (publication : Publication) (taken : IsTaken (length handed.tallies) input publication) where
    -- a script that was played was that of the input
    pub input-ends : (ending : Ending) → PlayEnds ending publication handed (lines_of_input input) sides stored kept writes refused → Input ending
    input-ends Done p = record { publication = publication; taken = taken; events = p.0; empty = p.1; answered = p.2 }
    input-ends (NoEvent line word) p = record { publication = publication; taken = taken; no_event = p.0; empty = p.1; answered = p.2 }
    input-ends WriteFault p = ((publication, taken), p)
    input-ends StoreFault p = ((publication, taken, p.0), p.1)
    input-ends (Damaged table key) p = (publication, taken, p)
    input-ends NoMemory p = tt
    input-ends Usage p = absurd p
    input-ends (Refused fault) p = absurd p
    input-ends ReadFault p = absurd p
    input-ends TooLong p = absurd p
    input-ends (NotTaken line) p = absurd p
    input-ends UnknownSite p = absurd p
    input-ends UnknownArticle p = absurd p
    input-ends LinkFault p = absurd p
    input-ends (Expired last_sync now) p = absurd p
    input-ends (BadReply place) p = absurd p
    input-ends (Declined number) p = absurd p

  module _ (fits : length input ≤ 67108864) where
    -- the text before the script is no publication
    pub refused-ends : (fault : SchemaFault) → ((fault ≡ schema.NoMemory → ⊥) → IsAnswer (length handed.tallies) (publication_of input) (Err fault)) → Input (refused_for fault)
    refused-ends schema.NoMemory answer = tt
    refused-ends schema.NotToml answer = record { fits = fits; read = answer (λ e. absurd (cc e)); known = λ e. absurd (cc e) }
    refused-ends (schema.Missing key) answer = record { fits = fits; read = answer (λ e. absurd (cc e)); known = λ e. absurd (cc e) }
    refused-ends (schema.BadValue key) answer = record { fits = fits; read = answer (λ e. absurd (cc e)); known = λ e. absurd (cc e) }
    refused-ends (schema.Duplicate name) answer = record { fits = fits; read = answer (λ e. absurd (cc e)); known = λ e. absurd (cc e) }
    refused-ends (schema.UnknownArticle name) answer = record { fits = fits; read = answer (λ e. absurd (cc e)); known = λ e. absurd (cc e) }
    refused-ends (schema.JoinCycle article) answer = record { fits = fits; read = answer (λ e. absurd (cc e)); known = λ e. absurd (cc e) }
    refused-ends (schema.JoinTypes article) answer = record { fits = fits; read = answer (λ e. absurd (cc e)); known = λ e. absurd (cc e) }
    refused-ends (schema.TooMany what number) answer = record { fits = fits; read = answer (λ e. absurd (cc e)); known = λ e. absurd (cc e) }

    pub refused-by : (fault : SchemaFault) (ending : Ending) → ending ≡ refused_for fault → (resolvers : ℕ) → resolvers ≡ length handed.tallies → (text : List ℕ) → text ≡ publication_of input
        → ((fault ≡ schema.NoMemory → ⊥) → IsAnswer resolvers text (Err fault)) → Input ending
    refused-by fault ending is resolvers counted text same answer =
        subst Input (sym is) (refused-ends fault (λ known. subst (λ (t : List ℕ). IsAnswer (length handed.tallies) t (Err fault)) same (subst (λ (n : ℕ). IsAnswer n text (Err fault)) counted (answer known))))

-- the script was that of an input that was read, and the text before it is this publication
module _ (handed : HandedView) (input : List ℕ) (sides : Sides) (fits : length input ≤ 67108864) (resolvers : ℕ) (counted : resolvers ≡ length handed.tallies)
    (text : List ℕ) (before : text ≡ publication_of input) (publication : Publication) (answer : IsAnswer resolvers text (Ok publication)) (script : List ℕ) (behind : script ≡ script_of input) where
  taken-so : IsTaken (length handed.tallies) input publication
  taken-so = record {
    fits = fits;
    read = subst (λ (t : List ℕ). IsAnswer (length handed.tallies) t (Ok publication)) before (subst (λ (n : ℕ). IsAnswer n text (Ok publication)) counted answer);
  }

  pub played-ends : (stored kept : SiteId → Option Map) (writes refused : ℕ) (ending : Ending) → PlayEnds ending publication handed (lines_of script) sides stored kept writes refused → InputEnds ending handed input sides stored kept writes refused
  played-ends stored kept writes refused ending ends =
      input-ends handed input sides stored kept writes refused publication taken-so ending (subst (λ (l : List ℕ). PlayEnds ending publication handed (lines_of l) sides stored kept writes refused) behind ends)

  pub played-part : (sides.written ≡ sides.was) ⊎ AnsweredInPart publication handed (lines_of script) sides → WrittenInPart handed input sides
  played-part (inl same) = inl same
  played-part (inr part) = inr (publication, taken-so, subst (λ (l : List ℕ). AnsweredInPart publication handed (lines_of l) sides) behind part)

-- the script is a part of its input
pub short-script : (input script : List ℕ) → script ≡ script_of input → (limit : ℕ) → length input ≤ limit → length script ≤ limit
short-script input script is limit fits = let same = ap (λ (l : List ℕ). length l) is in let le = behind (publication_of input) (script_of input) (IsCut-input input) in omega (arith, same, le, fits)
  where
    behind : (front rest : List ℕ) → IsCut input front rest → length rest ≤ length input
    behind front rest (inl (line, whole, bar, lines, none)) =
        let all : length input ≡ length front + (length line + length rest) = ap (λ (l : List ℕ). length l) whole ∙ length-append front (line ++ rest) ∙ ap (λ (n : ℕ). length front + n) (length-append line rest) in
        omega (arith, all)
    behind front rest (inr (whole, none, more)) = let empty : length rest ≡ 0 = ap (λ (l : List ℕ). length l) none in omega (arith, empty)

-- what holds of the input that was read holds of what was left
pub some-of : (P : List ℕ → Type 0) (left : Option (List ℕ)) (input : List ℕ) → IfSome left (λ (l : List ℕ). input ≡ l) → P input → IfSome left P
some-of P None input same holds = tt
some-of P (Some l) input same holds = subst P same holds

pub any-of : (left : Option (List ℕ)) → IfSome left (λ (l : List ℕ). Unit {0})
any-of None = tt
any-of (Some l) = tt

pub in-part-of : (left : Option (List ℕ)) (input slice : List ℕ) (handed : HandedView) (sides : Sides) → slice ≡ input → WrittenInPart handed slice sides → IfSome left (λ (l : List ℕ). input ≡ l) → IfSome left (λ (l : List ℕ). WrittenInPart handed l sides)
in-part-of left input slice handed sides is part same = some-of (λ (l : List ℕ). WrittenInPart handed l sides) left input same (subst (λ (l : List ℕ). WrittenInPart handed l sides) is part)

module _ (left : Option (List ℕ)) (handed : HandedView) (sides : Sides) (stored kept : SiteId → Option Map) (writes refused reads failed : ℕ) where
  abbrev Ends : Ending → Type 0
  Ends ending = PlayRunEnds ending left handed sides stored kept writes refused reads failed

  read-ends : (input : List ℕ) → IfSome left (λ (l : List ℕ). input ≡ l) → (ending : Ending) → InputEnds ending handed input sides stored kept writes refused → Ends ending
  read-ends input same Done p = some-of (λ (l : List ℕ). InputEnds Done handed l sides stored kept writes refused) left input same p
  read-ends input same (Refused fault) p = some-of (λ (l : List ℕ). InputEnds (Refused fault) handed l sides stored kept writes refused) left input same p
  read-ends input same (NoEvent line word) p = some-of (λ (l : List ℕ). InputEnds (NoEvent line word) handed l sides stored kept writes refused) left input same p
  read-ends input same WriteFault p = (p.1, some-of (IsTakenInput (length handed.tallies)) left input same p.0)
  read-ends input same StoreFault p = (p.1, some-of (λ (l : List ℕ). IsStopped handed l sides 1) left input same p.0)
  read-ends input same (Damaged table key) p = some-of (λ (l : List ℕ). InputEnds (Damaged table key) handed l sides stored kept writes refused) left input same p
  read-ends input same NoMemory p = any-of left
  read-ends input same Usage p = absurd p
  read-ends input same ReadFault p = absurd p
  read-ends input same TooLong p = absurd p
  read-ends input same (NotTaken line) p = absurd p
  read-ends input same UnknownSite p = absurd p
  read-ends input same UnknownArticle p = absurd p
  read-ends input same LinkFault p = absurd p
  read-ends input same (Expired last_sync now) p = absurd p
  read-ends input same (BadReply place) p = absurd p
  read-ends input same (Declined number) p = absurd p

  pub ends-by-slice : (input slice : List ℕ) → slice ≡ input → IfSome left (λ (l : List ℕ). input ≡ l) → (ending : Ending) → InputEnds ending handed slice sides stored kept writes refused → Ends ending
  ends-by-slice input slice is same ending p = read-ends input same ending (subst (λ (l : List ℕ). InputEnds ending handed l sides stored kept writes refused) is p)

  unread-ends : (fault : Unread) → (fault ≡ reading.TooLong → IfSome left (λ (l : List ℕ). 67108864 < length l)) → (fault ≡ reading.Failed → Rose reads failed) → Ends (ending_of_reading fault)
  unread-ends reading.Failed long rose = rose refl
  unread-ends reading.TooLong long rose = long refl
  unread-ends reading.NoMemory long rose = any-of left

  pub ends-unread : (fault : Unread) (ending : Ending) → ending ≡ ending_of_reading fault → (fault ≡ reading.TooLong → IfSome left (λ (l : List ℕ). 67108864 < length l)) → (fault ≡ reading.Failed → Rose reads failed) → Ends ending
  ends-unread fault ending is long rose = subst Ends (sym is) (unread-ends fault long rose)

-- where nothing is written, that is a front of what could be
pub nothing-written : (left : Option (List ℕ)) (handed : HandedView) (sides : Sides) → sides.written ≡ sides.was → IfSome left (λ (l : List ℕ). WrittenInPart handed l sides)
nothing-written None handed sides same = tt
nothing-written (Some l) handed sides same = inl same
