-- What a load leaves, from what its query does.
use Rattle.std.proofs.Common.{◌≡◌, ℕ, false, List, [], None, Some, IsSome, Result, Ok, Err, inl, inr, refl, sym, subst}
use Rattle.sqlite.specs.Clock.{timed}
use Rattle.sqlite.specs.Given.{Returns}
use Rattle.sqlite.specs.Held.{Held, state}
use Rattle.sqlite.specs.Listing.{understood}
use Rattle.sqlite.specs.Order.{Row}
use Rattle.sqlite.specs.State.{State, CommitsShowing, FailsToQuery, FailsToShow, HasCleanDisk, IsNotRun, KeepsCommit, Shown, ShowsRows, Survives}
use Rattle.sqlite.specs.Store.{Ghosts}
use Rattle.sqlite.specs.declared.error.Error.{Error}
use Rattle.sqlite.proofs.InsideLemmas.{unchanged_keeps}
use Rattle.merge_ports.specs.Entries.{Map}
use Rattle.merge_ports.specs.declared.keeper.KeepFault.{KeepFault}
use Rattle.merge_sqlite.specs.Keeping.{HasLoaded}
use Rattle.merge_sqlite.specs.Reading.{FailsToLoad, Loads}

-- a statement that returns no rows of a write commits nothing
module _ (statement : List ℕ) (old new : State) (plain : ¬ Returns (understood old.now.schema statement)) where
  rows_keep : (c : _) (params : Row) (rows : List Row) (what : _) → ShowsRows old new statement c params rows what → ¬ IsSome what → KeepsCommit old new
  rows_keep c params rows None shown none = unchanged_keeps old new (inl shown.3)
  rows_keep c params rows (Some returning) shown none = absurd (none refl)

  shown_keeps : (rows : List Row) → Shown statement [] old new rows → KeepsCommit old new
  unfolding Shown
  shown_keeps rows shown =
      rows_keep shown.0 (timed [] shown.0.formats shown.1.now) rows shown.0.returning shown.2 (λ some. plain (subst Returns (sym shown.1.is) some))

  failure_keeps : (c : _) (params : Row) (e : Error) (what : _) → FailsToShow old new statement c params e what → ¬ IsSome what → KeepsCommit old new
  failure_keeps c params e None failed none = unchanged_keeps old new (inl failed.3)
  failure_keeps c params e (Some returning) failed none = absurd (none refl)

  query_keeps : (e : Error) → FailsToQuery statement [] old new e → KeepsCommit old new
  unfolding FailsToQuery IsNotRun
  query_keeps e (inl (inl refused)) = unchanged_keeps old new (inl refused.1)
  query_keeps e (inl (inr failed)) = unchanged_keeps old new (inr failed.3)
  query_keeps e (inr ran) =
      failure_keeps ran.0 (timed [] ran.0.formats ran.1.now) e ran.0.returning ran.2 (λ some. plain (subst Returns (sym ran.1.is) some))

  load_keeps : (entries : Map) → Loads statement old new entries → KeepsCommit old new
  load_keeps entries loads = shown_keeps loads.rows loads.shown

  failing_keeps : (fault : KeepFault) → FailsToLoad statement old new fault → KeepsCommit old new
  failing_keeps fault (inl failed) = query_keeps failed.0 failed.2
  failing_keeps fault (inr shown) = shown_keeps shown.0 shown.1

module _ {S : Type 0} (store : Ghosts S) (statement : List ℕ) (old new : Held S) where
  pub loaded : (entries : Map) → (HasCleanDisk (state store new) → Loads statement (state store old) (state store new) entries) → (old.in_transaction ≡ false → new.in_transaction ≡ false)
      → Survives (state store old) (state store new) (CommitsShowing statement [] (state store old)) → HasLoaded store statement old new (Ok entries)
  loaded entries read idle crash = record {
    read = read;
    err = λ _. tt;
    stays = λ clean plain. load_keeps statement (state store old) (state store new) plain entries (read clean);
    idle = idle;
    crash = crash;
  }

  pub not_loaded : (fault : KeepFault) (result : Result Map KeepFault) → result ≡ Err fault → (HasCleanDisk (state store new) → FailsToLoad statement (state store old) (state store new) fault)
      → (old.in_transaction ≡ false → new.in_transaction ≡ false) → Survives (state store old) (state store new) (CommitsShowing statement [] (state store old)) → HasLoaded store statement old new result
  not_loaded fault result is fails idle crash = record {
    read = λ _. rw is tt;
    err = λ clean. rw is (fails clean);
    stays = λ clean plain. failing_keeps statement (state store old) (state store new) plain fault (fails clean);
    idle = idle;
    crash = crash;
  }
