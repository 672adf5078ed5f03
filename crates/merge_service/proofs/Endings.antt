-- How a day at a store ends, by how its parts did.
use Rattle.std.proofs.Common.{Err, List, Ok, Option, Result, [], inl, inr, subst, sym, ℕ, ◌∙◌, ◌≡◌}
use Rattle.std.specs.Io.KnownBytes.{Appends}
use Rattle.std.specs.Prelude.{IfErr, OnOk}
use Rattle.merge_types.specs.declared.identifiers.SiteId.{SiteId}
use Rattle.merge_schema.specs.declared.publication.Publication.{Publication}
use Rattle.merge_ports.specs.Entries.{Map}
use Rattle.merge_model.specs.Publisher.{new_holders}
use Rattle.merge_model.specs.Tables.{PublisherTables}
use Rattle.merge_model.specs.World.{Saying}
use Rattle.merge_keeper.specs.PublisherStart.{publisher_loaded}
use Rattle.merge_desk.specs.Summary.{summary_text}
use Rattle.merge_desk.specs.Views.{IsJournal}
use Rattle.merge_desk.specs.declared.entry.Entry.{Entry}
use Rattle.merge_site.specs.Kept.{IsKept}
use Rattle.merge_site.specs.Loading.{IsRead}
use Rattle.merge_site.specs.Publishers.{publisher_stored, records_of}
use Rattle.merge_service.specs.Days.{IsDay, IsSomeDay}
use Rattle.merge_service.specs.Ends.{Ends, Served}
use Rattle.merge_service.specs.Stores.{Around, Held, IsUnstarted}
use Rattle.merge_service.specs.Written.{IsUnwritten}
use Rattle.merge_service.specs.declared.stop.Stop.{Stop}
use Rattle.merge_service.specs.declared.stop.Stop.TheVariants as stop
use Rattle.merge_service.proofs.Days.{day-of, no-journal}

module _ (publication : Publication) (says : Saying) (workers requests : ℕ) (around : Around) (was written : Option (List ℕ)) (writes refused : ℕ) where
  abbrev EndsSo : Result Unit Stop → Type 0
  EndsSo r = Ends publication says workers requests around was written writes refused r

  not-started : (s : Stop) → IsUnstarted publication s around.stored around.stores around.stores_after → around.kept ≡ around.stored → written ≡ was → around.doors_after ≡ around.doors → EndsSo (Err s)
  not-started stop.StoreFault p same silent closed = (silent, p, same, closed)
  not-started (stop.Damaged table key) p same silent closed = (silent, p, same, closed)
  not-started stop.NoMemory p same silent closed = (silent, inl same)
  not-started stop.DoorFault p same silent closed = absurd p
  not-started (stop.Differs d) p same silent closed = absurd p
  not-started stop.WriteFault p same silent closed = absurd p

  pub not-started-so : (s : Stop) (stored : Option Map) → stored ≡ around.stored → (before : ℕ) → before ≡ around.stores → IsUnstarted publication s stored before around.stores_after → around.kept ≡ stored → written ≡ was → around.doors_after ≡ around.doors → EndsSo (Err s)
  not-started-so s stored told before first p same silent closed = not-started s
      (subst (λ (n : ℕ). IsUnstarted publication s around.stored n around.stores_after) first (subst (λ (o : Option Map). IsUnstarted publication s o before around.stores_after) told p))
      (same ∙ told) silent closed

  module _ (old new : PublisherTables) (read : IsRead (publisher_loaded publication (new_holders publication)) around.stored (Ok (publisher_stored old))) (kept : IsKept (records_of new) around.kept) where
    held : {Led : PublisherTables → PublisherTables → Type 0} → Led old new → Held publication around Led
    held led = record { old = old; new = new; read = read; led = led; kept = kept }

    unmoved : new ≡ old → IsSomeDay publication says old new
    unmoved same = ([], subst (λ (t : PublisherTables). IsJournal publication says old [] t) (sym same) (no-journal publication says old))

    not-served : (s : Stop) → IsDay publication says old new workers requests around.handed around.doors around.doors_after (Err s) → written ≡ was → EndsSo (Err s)
    not-served stop.DoorFault p silent = (silent, p.0, held p.1)
    not-served (stop.Differs d) p silent = (silent, held p)
    not-served stop.NoMemory p silent = (silent, inr (held (unmoved p)))
    not-served stop.StoreFault p silent = absurd p
    not-served (stop.Damaged table key) p silent = absurd p
    not-served stop.WriteFault p silent = absurd p

    module _ (journal : List Entry) (day : IsDay publication says old new workers requests around.handed around.doors around.doors_after (Ok journal)) where
      served : Served publication says workers requests around journal
      served = record { held = held day.0; all = day.1; few = day.2 }

      all-served : (slice : List Entry) → slice ≡ journal → Appends was written (summary_text slice) → EndsSo (Ok tt)
      all-served slice is p = (journal, served, subst (λ (l : List Entry). Appends was written (summary_text l)) is p)

      not-written : (s : Stop) → IsUnwritten s (summary_text journal) was written writes refused → EndsSo (Err s)
      not-written stop.WriteFault p = ((journal, served, p.0), p.1)
      not-written stop.NoMemory p = (p, inr (held (journal, day.0.kept)))
      not-written stop.StoreFault p = absurd p
      not-written (stop.Damaged table key) p = absurd p
      not-written stop.DoorFault p = absurd p
      not-written (stop.Differs d) p = absurd p

      unsummed : (s : Stop) (slice : List Entry) → slice ≡ journal → IsUnwritten s (summary_text slice) was written writes refused → EndsSo (Err s)
      unsummed s slice is p = not-written s (subst (λ (l : List Entry). IsUnwritten s (summary_text l) was written writes refused) is p)

      summed : (slice : List Entry) → slice ≡ journal → (w : Result Unit Stop) → OnOk w (Appends was written (summary_text slice)) → IfErr w (λ (s : Stop). IsUnwritten s (summary_text slice) was written writes refused) → EndsSo w
      summed slice is (Ok done) ok err = all-served slice is ok
      summed slice is (Err s) ok err = unsummed s slice is err

    module _ (p : Publication) (s : Saying) (o : PublisherTables) (same : p ≡ publication) (said : s ≡ says) (began : o ≡ old) (r : Result (List Entry) Stop) (day : IsDay p s o new workers requests around.handed around.doors around.doors_after r) where
      pub not-served-so : (why : Stop) → r ≡ Err why → written ≡ was → EndsSo (Err why)
      not-served-so why is silent = not-served why (day-of p publication s says o old new workers requests around.handed around.doors around.doors_after r (Err why) same said began is day) silent

      pub summed-so : (journal : List Entry) → r ≡ Ok journal → (slice : List Entry) → slice ≡ journal → (w : Result Unit Stop)
          → OnOk w (Appends was written (summary_text slice)) → IfErr w (λ (why : Stop). IsUnwritten why (summary_text slice) was written writes refused) → EndsSo w
      summed-so journal is slice same_slice w ok err =
          summed journal (day-of p publication s says o old new workers requests around.handed around.doors around.doors_after r (Ok journal) same said began is day) slice same_slice w ok err

-- What a store told, and what it has.

pub kept-at : (new : PublisherTables) (told now : Option Map) → now ≡ told → IsKept (records_of new) told → IsKept (records_of new) now
kept-at new told now same kept = subst (IsKept (records_of new)) (sym same) kept

pub read-so : (publication : Publication) (tables : PublisherTables) (site : SiteId) (path : List ℕ) (told first : SiteId → List ℕ → Option Map) → told ≡ first
    → IsRead (publisher_loaded publication (new_holders publication)) (told site path) (Ok (publisher_stored tables)) → IsRead (publisher_loaded publication (new_holders publication)) (first site path) (Ok (publisher_stored tables))
read-so publication tables site path told first same read =
    subst (λ (f : SiteId → List ℕ → Option Map). IsRead (publisher_loaded publication (new_holders publication)) (f site path) (Ok (publisher_stored tables))) same read

-- what holds in any case holds of what is done
pub done-so : {A E P : Type 0} (r : Result A E) → P → OnOk r P
done-so (Ok done) p = p
done-so (Err why) p = tt
