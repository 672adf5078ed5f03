-- What a run over a generated script may write, and why it ends.
use Rattle.std.specs.Prelude.{Bool, IsTrue, List, Option, take, ℕ, ◌==◌, ◌||◌, ◌≡◌, ◌≢◌}
use Rattle.std.specs.Io.KnownBytes.{Appends}
use Rattle.merge_types.specs.declared.identifiers.SiteId.{SiteId}
use Rattle.merge_ports.specs.Entries.{Map}
use Rattle.merge_ports.specs.Faults.{Rose}
use Rattle.merge_ports.specs.Parts.{AppendsFront}
use Rattle.merge_model.specs.World.Events.{is_site}
use Rattle.merge_model.specs.declared.answer.Answer.{Answer}
use Rattle.merge_world.specs.Views.{HandedView}
use Rattle.merge_make.specs.Publication.{made_publication}
use Rattle.merge_make.specs.Script.{script}
use Rattle.merge_make.specs.Summary.{summary_of}
use Rattle.merge_program.specs.Runs.{IsRun, Sides}
use Rattle.merge_program.specs.Stores.{AreEmptyStores, IsUnstarted}
use Rattle.merge_program.specs.declared.ending.Ending.{Ending}
use Rattle.merge_program.specs.declared.ending.Ending.TheVariants.{Damaged, Done, NoMemory, StoreFault, WriteFault}

-- the summary of the answers in a run over the script for so many customers
pub record IsSummary (customers : ℕ) (handed : HandedView) (before after : ℕ) (text : List ℕ) : Type 0 where
  pub answers : List Answer
  pub run : IsRun made_publication handed (script customers) answers before after
  pub told : text ≡ summary_of customers answers

-- such a summary was written
pub record SummaryWritten (customers : ℕ) (handed : HandedView) (sides : Sides) : Type 0 where
  pub text : List ℕ
  pub summary : IsSummary customers handed sides.before sides.after text
  pub bytes : Appends sides.was sides.written text

-- a front of one was
pub record FrontWritten (customers : ℕ) (handed : HandedView) (sides : Sides) : Type 0 where
  pub text : List ℕ
  pub summary : IsSummary customers handed sides.before sides.after text
  pub count : ℕ
  pub bytes : Appends sides.was sides.written (take count text)

-- why there is no summary: a site did not start, or memory was wanting behind that
abbrev pub IsUnmade : Ending → (stored : SiteId → Option Map) → (before after : ℕ) → Type 0
IsUnmade StoreFault stored before after = Rose before after
IsUnmade (Damaged table key) stored before after = IsUnstarted (is_site made_publication) stored (Damaged table key) before after
IsUnmade NoMemory stored before after = Unit {0}
IsUnmade other stored before after = ⊥

-- a text was written whole, or a front of it, since a write failed
abbrev pub WriteEnds : Ending → List ℕ → (old new : Option (List ℕ)) → (writes refused : ℕ) → Type 0
WriteEnds Done text old new writes refused = Appends old new text
WriteEnds WriteFault text old new writes refused = AppendsFront old new text × Rose writes refused
WriteEnds other text old new writes refused = ⊥

-- Why the run ended, and what was written by then. `stored` is what is told of the stores before it; writes were refused from `writes` to
-- `refused`.
abbrev pub MakeEnds : Ending → ℕ → HandedView → Sides → (stored : SiteId → Option Map) → (writes refused : ℕ) → Type 0
MakeEnds Done customers handed sides stored writes refused = SummaryWritten customers handed sides × AreEmptyStores (is_site made_publication) stored
MakeEnds WriteFault customers handed sides stored writes refused = FrontWritten customers handed sides × Rose writes refused × AreEmptyStores (is_site made_publication) stored
MakeEnds other customers handed sides stored writes refused = IsUnmade other stored sides.before sides.after × (sides.written ≡ sides.was)

-- the statuses of `make`
abbrev pub is_make_status : ℕ → Bool
is_make_status n = (n == 0) || ((n == 5) || ((n == 6) || ((n == 10) || (n == 11))))

-- What `make` wrote, by the status with which it ended: the summary with 0, a front of it with 5, and else nothing.
pub record IsMade (status customers : ℕ) (handed : HandedView) (sides : Sides) : Type 0 where
  pub whole : status ≡ 0 → SummaryWritten customers handed sides
  pub front : status ≡ 5 → FrontWritten customers handed sides
  pub nothing : status ≢ 0 → status ≢ 5 → sides.written ≡ sides.was
  pub known : IsTrue (is_make_status status)
