-- A local change at the publisher keeps what is accounted for.
use Rattle.std.specs.Prelude.{◌≡◌, ◌+◌, List, [], Bool, true, false, Option, Some, None, refl, length}
use Rattle.std.proofs.Common.{arith, subst, sym, ◌∙◌}
use Rattle.merge_types.specs.declared.changes.Change.{Change}
use Rattle.merge_types.specs.declared.identifiers.Dot.{Dot}
use Rattle.merge_units.specs.declared.version.Version.{Version}
use Rattle.merge_schema.specs.declared.publication.Publication.{Publication}
use Rattle.merge_model.specs.Judge.ByHistory.{by_past}
use Rattle.merge_model.specs.Tables.Changes.{change_refusal, is_insert, key_of, no_row, version_after}
use Rattle.merge_model.specs.History.{History, Line, MadeChange, Past, has, past_at, pasts_with}
use Rattle.merge_model.specs.Judge.{PublisherJudge}
use Rattle.merge_model.specs.History.Noting
use Rattle.merge_model.specs.Publisher.{counters, last_closed}
use Rattle.merge_model.specs.Publisher.PublisherLocal.{Drawn, changing_locally, local_refusal, made_locally, next_dot, version_at, with_draw}
use Rattle.merge_model.specs.Tables.Refusals.{counter_end}
use Rattle.merge_types.specs.declared.row_key.RowKey.{RowKey as Key}
use Rattle.merge_model.specs.Tables.{PublisherTables}
use Rattle.merge_model.specs.World.{World, with_publisher}
use Rattle.merge_laws.specs.Facts.Accounts.{Accounts, OfAccounts}
use Rattle.merge_laws.specs.Facts.Knowledge.{changes_of}
use Rattle.merge_laws.proofs.Accounts.AccountBase.{Base, tops-told}
use Rattle.merge_laws.proofs.Accounts.AccountFits.{ChangeFits, IsHeld, change-fits, made_of}
use Rattle.merge_laws.proofs.Accounts.AccountLetters.{uploads-away}
use Rattle.merge_laws.proofs.Accounts.AccountLocal.{none-made, with-some}
use Rattle.merge_laws.proofs.Accounts.AccountNotes.{lines-accounts, same-accounts}
use Rattle.merge_laws.proofs.Accounts.AccountRows.{at-key, row-accounts}
use Rattle.merge_laws.proofs.Accounts.AccountSites.{held-made}
use Rattle.merge_model.proofs.Runs.Refusals.{first-none}
use Rattle.merge_laws.proofs.Known.ChangeDots.{made-distinct}
use Rattle.merge_laws.proofs.Runs.Ground.{Ground}
use Rattle.merge_model.proofs.Lists.KeyLookUps.{key-itself}
use Rattle.merge_laws.proofs.Known.Knowing.{IsFresh}
use Rattle.merge_laws.proofs.Known.KnownRows.{held-knows}
use Rattle.merge_laws.proofs.Own.OwnLocal.{own-fresh, own-none}
use Rattle.merge_laws.proofs.Numbered.Telling.{version-there}
use Rattle.merge_laws.proofs.Told.ToldRows.{keyed, put_if, put_version}
use Rattle.merge_laws.proofs.Told.ToldTables.{changed-versions, one-put}
use Rattle.merge_laws.proofs.Walking.{here, own_noted}

module _ (publication : Publication) (w : World) (h : History) (change : Change) (d : Drawn) (b : Base publication w h) (a : OfAccounts publication w h) (fine : local_refusal publication change w.publisher ≡ None) where
  abbrev g : Ground publication w h
  g = b.0

  abbrev dot : Dot
  dot = next_dot (here w)

  abbrev key : Key
  key = key_of dot change

  abbrev past : Past
  past = past_at h 0 key

  abbrev c : MadeChange
  c = made_of publication dot (last_closed (here w) + 1) change d.value past

  abbrev judge : PublisherJudge
  judge = by_past h (pasts_with h 0)

  fresh : IsFresh h.made dot
  fresh = own-fresh publication w h change g.known

  refused : change_refusal publication dot change (version_at w.publisher key) (length w.publisher.rows) ≡ None
  refused =
      let counted = first-none (counter_end (counters w.publisher)) _ fine in
      (first-none (change_refusal publication dot change (version_at w.publisher key) (length w.publisher.rows)) [] counted.1).0

  new-nothing : is_insert change ≡ true → (other : Dot) → has past.known other ≡ false
  new-nothing is other = nothing (has past.known other) refl
    where
      nothing : (x : Bool) → has past.known other ≡ x → x ≡ false
      nothing true e =
          let there = held-made h g.known.knowledge 0 key other e in
          let none = none-made h.made key other (own-none publication w h change g.known b.1.1.counts.makers fine is) in
          absurd (grind (arith, there, none))
      nothing false e = refl

  held : IsHeld publication h key past (version_at w.publisher key)
  held = record {
    grown = λ version is. a.publisher key version is;
    tops = λ version is. tops-told w h b.1.0 key version is;
    closed = (held-knows h 0 key g.known.knowledge).closed;
    traced = a.held 0 key;
  }

  module _ (version : Version) (is : version_after publication dot d.value change (version_at w.publisher key) ≡ Some version) where
    fits : ChangeFits publication h key past c version
    fits = change-fits publication h dot (last_closed (here w) + 1) d.value fresh past change (version_at w.publisher key) (length w.publisher.rows) refused new-nothing held version is

    own-with : Accounts publication (put_version (version_at w.publisher) (key, version)) w.subscribers w.pool (Noting.with_change publication dot (last_closed (here w) + 1) change d.value h)
    own-with =
        let away = uploads-away w h g.received g.none in
        row-accounts publication (version_at w.publisher) w.subscribers w.pool h g.none away g.known.knowledge a (Some c) key c.past h.lost h.accepted h.lines (λ k place other kept. kept) fresh refl fits.grows
        (fits.stays (made-distinct (changes_of w) h g.known.numbered)) fits.holds version (put_version (version_at w.publisher) (key, version)) (λ k. refl) fits.grown.0
        (λ settled place does. (
        let at = at-key publication (version_at w.publisher) w.subscribers w.pool h g.none away g.known.knowledge a (Some c) key c.past h.lost h.accepted h.lines key (key-itself key) in
        let known : has (past_at (Noting.with_change publication dot (last_closed (here w) + 1) change d.value h) 0 key).known c.dot ≡ true = subst (λ (p : Past). has p.known c.dot ≡ true) (sym at) fits.knows in
        grind (arith, known)
        ))

  pub own-change-accounts : OfAccounts publication (with_publisher (made_locally publication judge change d (here w)).0 w) (own_noted publication judge change d (here w) h)
  own-change-accounts =
      let q : PublisherTables = (made_locally publication judge change d (here w)).0 in
      let k : History = Noting.with_change publication dot (last_closed (here w) + 1) change d.value h in
      let lines : List Line = Noting.lines_of_entries (last_closed (here w) + 1) (Noting.drawn_entries publication judge change (here w) d) in
      let found : Option Version = version_after publication dot d.value change (version_at w.publisher key) in
      let one : Accounts publication (put_if (version_at w.publisher) (keyed key found)) w.subscribers w.pool k = with-some (λ (o : Option Version). Accounts publication (put_if (version_at w.publisher) (keyed key o)) w.subscribers w.pool k)
      found (version-there publication dot d.value change (version_at w.publisher key) (first-none (no_row change (version_at w.publisher key)) _ refused).0) (λ version is. own-with version is) in
      let same : Accounts publication (version_at q) w.subscribers w.pool k = same-accounts publication (put_if (version_at w.publisher) (keyed key found)) w.subscribers w.pool k one (version_at q)
      (λ x. changed-versions publication judge (changing_locally publication change d.value (here w)) (with_draw d (here w)) x ∙ one-put key found (version_at w.publisher) x) in
      lines-accounts publication (version_at q) w.subscribers w.pool k same lines
