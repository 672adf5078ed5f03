-- No invariant speaks of how often resolvers were asked, so each holds where only that changes: what a step leaves that failed.
use Rattle.std.specs.Prelude.{ℕ, List}
use Rattle.merge_types.specs.declared.identifiers.Dot.{Dot}
use Rattle.merge_model.specs.History.{History}
use Rattle.merge_model.specs.World.{World}
use Rattle.merge_laws.specs.Facts.Behind.{Behind}
use Rattle.merge_laws.specs.Invariants.KnownMakers.{KnownMakers}
use Rattle.merge_laws.specs.Invariants.LetterOrder.{LetterOrder}
use Rattle.merge_laws.specs.Facts.Lineages.{OfLineages}
use Rattle.merge_laws.specs.Facts.Numbered.{Numbered}
use Rattle.merge_laws.specs.Facts.Received.{Received}
use Rattle.merge_laws.specs.Invariants.TablesAgree.{TablesAgree}

module _ (w : World) (tallies : List ℕ) where
  abbrev pub tallied : World
  tallied = record w { tallies = tallies }

  pub received-tallied : (h : History) → Received w h → Received tallied h
  received-tallied h r = record { subscribers = r.subscribers; letters = r.letters; done = r.done }

  pub numbered-tallied : (h : History) → Numbered w h → Numbered tallied h
  numbered-tallied h i = record { subscribers = i.subscribers; letters = i.letters; taken = i.taken; unknown = i.unknown; strangers = i.strangers; first = i.first }

  pub behind-tallied : Behind w → Behind tallied
  behind-tallied i = record { subscribers = i.subscribers; letters = i.letters }

  pub lineages-tallied : (Q : List Dot → Type 0) → OfLineages Q w → OfLineages Q tallied
  lineages-tallied Q i = record { publisher = i.publisher; subscribers = i.subscribers; letters = i.letters }

  pub order-tallied : LetterOrder w → LetterOrder tallied
  order-tallied i = record { sent = i.sent; joins = i.joins }

  pub makers-tallied : (h : History) → KnownMakers w h → KnownMakers tallied h
  makers-tallied h i = record { sorted = i.sorted; makers = i.makers; firsts = i.firsts; here = i.here; there = i.there; letters = i.letters }

  pub tables-tallied : (h : History) → TablesAgree w h → TablesAgree tallied h
  tables-tallied h i = record { publisher = i.publisher; subscribers = i.subscribers }
