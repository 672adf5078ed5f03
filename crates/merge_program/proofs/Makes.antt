-- How a run over a generated script ends.
use Rattle.std.proofs.Common.{List, Option, arith, subst, ◌≡◌, ℕ}
use Rattle.merge_types.specs.declared.identifiers.SiteId.{SiteId}
use Rattle.merge_ports.specs.Entries.{Map}
use Rattle.merge_model.specs.Laws.SlipLaws.{FailuresShow}
use Rattle.merge_model.specs.World.Events.{is_site}
use Rattle.merge_world.specs.Views.{HandedView, SitesView}
use Rattle.merge_make.specs.Publication.{made_publication}
use Rattle.merge_make.specs.Runs.{Summed}
use Rattle.merge_make.specs.Script.{script}
use Rattle.merge_make.proofs.Published.{made-valid}
use Rattle.merge_promises.specs.Promises.{OfEveryRunPromised}
use Rattle.merge_program.specs.declared.ending.Ending.{Ending}
use Rattle.merge_program.specs.declared.ending.Ending.TheVariants.{BadReply, Damaged, Declined, Done, Expired, LinkFault, NoEvent, NoMemory, NotTaken, ReadFault, Refused, StoreFault, TooLong, UnknownArticle, UnknownSite, Usage, WriteFault}
use Rattle.merge_program.specs.Fresh.{fresh_view}
use Rattle.merge_program.specs.Making.{IsSummary, IsUnmade, MakeEnds, WriteEnds}
use Rattle.merge_program.specs.Runs.{Sides}
use Rattle.merge_program.specs.Stores.{AreEmptyStores, IsUnstarted, RoseBy}
use Rattle.merge_program.proofs.Plays.{run-of}

-- the summary is one of a run from nothing
pub summary-of : OfEveryRunPromised → FailuresShow
    → (customers : ℕ) (old new : SitesView) (handed behind : HandedView) (text : List ℕ) → old ≡ fresh_view made_publication → Summed customers old new handed behind text
    → (before after : ℕ) → RoseBy new.faults before after → IsSummary customers handed before after text
summary-of promises shows customers old new handed behind text fresh summed before after rose =
    let s : Summed customers (fresh_view made_publication) new handed behind text = subst (λ (v : SitesView). Summed customers v new handed behind text) fresh summed in record {
      answers = s.answers;
      run = run-of promises shows made_publication (1, made-valid) handed new.faults before after rose (script customers) new behind s.answers s.happened (omega arith);
      told = s.told;
    }

-- sites that did not start give no summary
pub unmade : (stored : SiteId → Option Map) (ending : Ending) (before after : ℕ) → IsUnstarted (is_site made_publication) stored ending before after → IsUnmade ending stored before after
unmade stored StoreFault before after p = p
unmade stored (Damaged table key) before after p = p
unmade stored NoMemory before after p = tt
unmade stored Done before after p = p
unmade stored WriteFault before after p = p
unmade stored Usage before after p = p
unmade stored (Refused fault) before after p = p
unmade stored (NoEvent line word) before after p = p
unmade stored ReadFault before after p = p
unmade stored TooLong before after p = p
unmade stored (NotTaken line) before after p = p
unmade stored UnknownSite before after p = p
unmade stored UnknownArticle before after p = p
unmade stored LinkFault before after p = p
unmade stored (Expired last_sync now) before after p = p
unmade stored (BadReply place) before after p = p
unmade stored (Declined number) before after p = p

module _ (customers : ℕ) (handed : HandedView) (sides : Sides) (stored : SiteId → Option Map) (writes refused : ℕ) where
  abbrev Ends : Ending → Type 0
  Ends ending = MakeEnds ending customers handed sides stored writes refused

  written-ends : (text : List ℕ) → IsSummary customers handed sides.before sides.after text → AreEmptyStores (is_site made_publication) stored → (ending : Ending) → WriteEnds ending text sides.was sides.written writes refused → Ends ending
  written-ends text summary empty Done p = (record { text = text; summary = summary; bytes = p }, empty)
  written-ends text summary empty WriteFault p = (record { text = text; summary = summary; count = p.0.0; bytes = p.0.1 }, p.1, empty)
  written-ends text summary empty StoreFault p = absurd p
  written-ends text summary empty (Damaged table key) p = absurd p
  written-ends text summary empty NoMemory p = absurd p
  written-ends text summary empty Usage p = absurd p
  written-ends text summary empty (Refused fault) p = absurd p
  written-ends text summary empty (NoEvent line word) p = absurd p
  written-ends text summary empty ReadFault p = absurd p
  written-ends text summary empty TooLong p = absurd p
  written-ends text summary empty (NotTaken line) p = absurd p
  written-ends text summary empty UnknownSite p = absurd p
  written-ends text summary empty UnknownArticle p = absurd p
  written-ends text summary empty LinkFault p = absurd p
  written-ends text summary empty (Expired last_sync now) p = absurd p
  written-ends text summary empty (BadReply place) p = absurd p
  written-ends text summary empty (Declined number) p = absurd p

  -- the text that was written is a slice of it
  pub written-by-slice : (text slice : List ℕ) → slice ≡ text → IsSummary customers handed sides.before sides.after text → AreEmptyStores (is_site made_publication) stored → (ending : Ending) → WriteEnds ending slice sides.was sides.written writes refused → Ends ending
  written-by-slice text slice is summary empty ending p = written-ends text summary empty ending (subst (λ (l : List ℕ). WriteEnds ending l sides.was sides.written writes refused) is p)

  pub unmade-ends : (ending : Ending) → IsUnmade ending stored sides.before sides.after → sides.written ≡ sides.was → Ends ending
  unmade-ends StoreFault p same = (p, same)
  unmade-ends (Damaged table key) p same = (p, same)
  unmade-ends NoMemory p same = (p, same)
  unmade-ends Done p same = absurd p
  unmade-ends WriteFault p same = absurd p
  unmade-ends Usage p same = absurd p
  unmade-ends (Refused fault) p same = absurd p
  unmade-ends (NoEvent line word) p same = absurd p
  unmade-ends ReadFault p same = absurd p
  unmade-ends TooLong p same = absurd p
  unmade-ends (NotTaken line) p same = absurd p
  unmade-ends UnknownSite p same = absurd p
  unmade-ends UnknownArticle p same = absurd p
  unmade-ends LinkFault p same = absurd p
  unmade-ends (Expired last_sync now) p same = absurd p
  unmade-ends (BadReply place) p same = absurd p
  unmade-ends (Declined number) p same = absurd p
