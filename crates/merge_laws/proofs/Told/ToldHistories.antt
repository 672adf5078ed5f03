-- The versions of one site with the pasts that a history has of them, as the history goes on: rows, and the conflict table.
use Rattle.std.specs.Prelude.{◌≡◌, ◌==◌, ◌++◌, ℕ, List, [], ◌∷◌, Bool, true, false, Option, None, refl, cond}
use Rattle.std.specs.List.{AllZip}
use Rattle.std.proofs.Common.{arith, subst, sym, ◌∙◌}
use Rattle.std.proofs.lemmas.Bool.Decides.{nat_tests}
use Rattle.std.proofs.lemmas.List.{append-nil}
use Rattle.std.proofs.lemmas.List.Elements.{filter-append}
use Rattle.std.proofs.lemmas.Slice.Zip.{all_zipped_more}
use Rattle.merge_types.specs.declared.identifiers.Dot.{Dot}
use Rattle.merge_units.specs.declared.version.Version.{Version}
use Rattle.merge_conflict.specs.declared.row.ConflictRow.{ConflictRow}
use Rattle.merge_model.specs.History.{History, Line, MadeChange, Past, past_at, past_in, pasts_at}
use Rattle.merge_model.specs.Tables.Keys.{drop_row, put_number, put_row, same_key}
use Rattle.merge_model.specs.History.Noting
use Rattle.merge_types.specs.declared.row_key.RowKey.{RowKey as Key}
use Rattle.merge_laws.specs.Facts.LineagesStand.{lost_at}
use Rattle.merge_laws.proofs.Pasts.PastLookUps.{put-here, put-there, with-past-same}
use Rattle.merge_model.proofs.Lists.Tests.{if-false}
use Rattle.merge_laws.proofs.Told.ToldRows.{AllFit, HeldFits, all-dropped, all-put, all-put_if, all-same, drop_version, keyed, put_if, put_version}

-- What was lost at a site, with one version more.

lost-step : (b : Bool) (entry : ℕ × (Key × Past)) (lost : List (ℕ × (Key × Past))) → b ≡ true → lost ++ cond b (entry ∷ []) [] ≡ lost ++ entry ∷ []
lost-step true entry lost is = refl
lost-step false entry lost is = absurd cc

other-step : (b : Bool) (entry : ℕ × (Key × Past)) (lost : List (ℕ × (Key × Past))) → b ≡ false → lost ++ cond b (entry ∷ []) [] ≡ lost
other-step true entry lost is = absurd cc
other-step false entry lost is = append-nil lost

pub lost-here : (h : History) (n : ℕ) (key : Key) (past : Past) → lost_at (Noting.with_lost n key past h) n ≡ lost_at h n ++ (n, (key, past)) ∷ []
lost-here h n key past = filter-append (λ (entry : ℕ × (Key × Past)). entry.0 == n) h.lost ((n, (key, past)) ∷ []) ∙ lost-step (n == n) (n, (key, past)) (lost_at h n) (grind (arith, nat_tests))

pub lost-there : (h : History) (n m : ℕ) (key : Key) (past : Past) → (m ≡ n → ⊥) → lost_at (Noting.with_lost n key past h) m ≡ lost_at h m
lost-there h n m key past differs = filter-append (λ (entry : ℕ × (Key × Past)). entry.0 == m) h.lost ((n, (key, past)) ∷ []) ∙ other-step (n == m) (n, (key, past)) (lost_at h m) (grind (arith, nat_tests, differs))

module _ (P : Key → Version → Past → Type 0) where
  -- the rows of a conflict table, with what was lost there
  abbrev pub LostFits : ConflictRow → ℕ × (Key × Past) → Type 0
  LostFits row lost = P lost.1.0 row.losing lost.1.1

  -- Since a history before, versions of one site were put, dropped and lost; those of the others stand as they did.
  pub record Goes (n : ℕ) (before : History) (found : Key → Option Version) (conflicts : List ConflictRow) (h : History) : Type 0 where
    pub held : AllFit P found (past_at h n)
    pub lost : AllZip LostFits conflicts (lost_at h n)
    pub pasts : (m : ℕ) → (m ≡ n → ⊥) → pasts_at h m ≡ pasts_at before m
    pub losts : (m : ℕ) → (m ≡ n → ⊥) → lost_at h m ≡ lost_at before m
    pub letters : h.letters ≡ before.letters

  pub goes-begins : (n : ℕ) (found : Key → Option Version) (conflicts : List ConflictRow) (h : History) → AllFit P found (past_at h n) → AllZip LostFits conflicts (lost_at h n) → Goes n h found conflicts h
  goes-begins n found conflicts h held lost = record { held = held; lost = lost; pasts = λ m differs. refl; losts = λ m differs. refl; letters = refl }

  module _ (n : ℕ) (before : History) (conflicts : List ConflictRow) where
    pub goes-same : (found other : Key → Option Version) (h : History) → ((key : Key) → other key ≡ found key) → Goes n before found conflicts h → Goes n before other conflicts h
    goes-same found other h same g = record { held = all-same P found other (past_at h n) same g.held; lost = g.lost; pasts = g.pasts; losts = g.losts; letters = g.letters }

    module _ (found : Key → Option Version) (h : History) (g : Goes n before found conflicts h) where
      goes-pasts : (other : Key → Option Version) (rows : List (Key × Past)) → AllFit P other (past_in rows) → Goes n before other conflicts (record h { pasts = put_number h.pasts n rows })
      goes-pasts other rows fits = record {
        held = subst (λ (pasts : List (Key × Past)). AllFit P other (past_in pasts)) (sym (put-here h.pasts n rows)) fits;
        lost = g.lost;
        pasts = λ m differs. put-there h.pasts n rows m differs ∙ g.pasts m differs;
        losts = g.losts;
        letters = g.letters;
      }

      pub goes-put : (key : Key) (version : Version) (past : Past) → P key version past → Goes n before (put_version found (key, version)) conflicts (Noting.with_past n key past h)
      goes-put key version past new = goes-pasts (put_version found (key, version)) (put_row (pasts_at h n) key past) (all-put P found (pasts_at h n) g.held key version past new)

      pub goes-put_if : (key : Key) (version : Option Version) (past : Past) → (version ≡ None → found key ≡ None) → HeldFits P key version past → Goes n before (put_if found (keyed key version)) conflicts (Noting.with_past n key past h)
      goes-put_if key version past none new = goes-pasts (put_if found (keyed key version)) (put_row (pasts_at h n) key past) (all-put_if P found (pasts_at h n) g.held key version past none new)

      pub goes-dropped : (key : Key) → Goes n before (drop_version found key) conflicts (Noting.without_past n key h)
      goes-dropped key = goes-pasts (drop_version found key) (drop_row (pasts_at h n) key) (all-dropped P found (pasts_at h n) g.held key)

      pub goes-emptied : Goes n before (λ (key : Key). None) conflicts (record h { pasts = put_number h.pasts n [] })
      goes-emptied = goes-pasts (λ (key : Key). None) [] (λ key. tt)

      pub goes-lost : (row : ConflictRow) (key : Key) (past : Past) → P key row.losing past → Goes n before found (conflicts ++ row ∷ []) (Noting.with_lost n key past h)
      goes-lost row key past new = record {
        held = g.held;
        lost = subst (λ (lost : List (ℕ × (Key × Past))). AllZip LostFits (conflicts ++ row ∷ []) lost) (sym (lost-here h n key past)) (all_zipped_more LostFits conflicts (lost_at h n) row (n, (key, past)) g.lost new);
        pasts = g.pasts;
        losts = λ m differs. lost-there h n m key past differs ∙ g.losts m differs;
        letters = g.letters;
      }

      -- the other parts of a history say nothing of versions
      pub goes-others : (made : List MadeChange) (lines : List Line) (done : List (ℕ × ℕ)) (accepted : List Dot) (purged : List Key) (bases : List (ℕ × ℕ))
          → Goes n before found conflicts (record h { made = made; lines = lines; done = done; accepted = accepted; purged = purged; bases = bases })
      goes-others made lines done accepted purged bases = record { held = g.held; lost = g.lost; pasts = g.pasts; losts = g.losts; letters = g.letters }

    pub goes-lines : (lines : List Line) (found : Key → Option Version) (h : History) → Goes n before found conflicts h → Goes n before found conflicts (Noting.with_lines lines h)
    goes-lines [] found h g = g
    goes-lines (line ∷ lines) found h g = goes-lines lines found (Noting.with_line h line) (goes-others found h g h.made (line ∷ h.lines) h.done h.accepted h.purged h.bases)

-- the past of a row is as it was where another one is put
pub past-elsewhere : (h : History) (n : ℕ) (key q : Key) (past : Past) → same_key q key ≡ false → past_at (Noting.with_past n key past h) n q ≡ past_at h n q
past-elsewhere h n key q past other = with-past-same h n key past q ∙ if-false (same_key q key) past (past_at h n q) other
