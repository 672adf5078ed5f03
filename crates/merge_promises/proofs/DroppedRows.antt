-- Each joined site that is not expired has passed a deleted row, and a mapping, that a purge drops, where all is promised of the model.
use Rattle.std.specs.Prelude.{Bool, None, Option, Some, false, if◌then◌else◌, nat_le, not, option_map, refl, true, ℕ, ◌<◌, ◌&&◌, ◌||◌, ◌≡◌, ◌≤◌, ◌⊎◌}
use Rattle.std.proofs.Common.{ap, arith, inl, inr, subst, ◌∙◌}
use Rattle.std.proofs.lemmas.Bool.Decides.{nat_tests}
use Rattle.merge_types.specs.declared.row_key.RowKey.{RowKey as Key}
use Rattle.merge_units.specs.Version.{is_live}
use Rattle.merge_units.specs.declared.site_row.PublisherRow.{PublisherRow}
use Rattle.merge_units.specs.declared.version.Version.{Version}
use Rattle.merge_gens.specs.Moves.{is_left}
use Rattle.merge_gens.specs.declared.moves.Mapping.{Mapping}
use Rattle.merge_schema.specs.declared.publication.Publication.{Publication}
use Rattle.merge_model.specs.Judge.ByNumbers.{received_by_number}
use Rattle.merge_model.specs.History.Model.{Model}
use Rattle.merge_model.specs.Laws.Promises.{IsPast, base_of, is_expired_at, watermark_of}
use Rattle.merge_model.specs.Publisher.PublisherDownload.{inside_keys}
use Rattle.merge_model.specs.Publisher.PublisherLocal.{version_at}
use Rattle.merge_model.specs.Publisher.PublisherPurge.{is_old}
use Rattle.merge_model.specs.Subscriber.{subscriber_version_at}
use Rattle.merge_model.specs.Tables.Keys.{has_key, row_at}
use Rattle.merge_model.specs.Tables.{SubscriberTables}
use Rattle.merge_model.specs.World.{Saying, subscriber_at}
use Rattle.merge_laws.specs.Facts.Settled.{changed_of, held_at, live_only, made_in, owed_at, touched_at}
use Rattle.merge_laws.specs.Laws.Promised.{Promised}
use Rattle.merge_model.proofs.Lists.Finding.{some_same}
use Rattle.merge_owed.specs.Forgotten.{going_over}
use Rattle.merge_promises.specs.Tombstones.{HasPassed, HasPassedLeaving, IsStillTold, IsUnsent, LeavingsArePassed, TombstonesArePassed}

-- A deleted row is held by none that holds what it is owed.

live-if : (b : Bool) (u v : Version) → is_live u.body ≡ b → (if b then Some u else None) ≡ Some v → is_live v.body ≡ true
live-if true u v live same = subst (λ (x : Version). is_live x.body ≡ true) (some_same u v same) live
live-if false u v live same = absurd (cc same)

live-held : (found : Option Version) (v : Version) → live_only found ≡ Some v → is_live v.body ≡ true
live-held None v same = absurd (cc same)
live-held (Some u) v same = live-if (is_live u.body) u v refl same

dead-none : (found : Option Version) (b : Bool) (v : Version) → is_live v.body ≡ false → live_only found ≡ (if b then Some v else None) → live_only found ≡ None
dead-none found true v dead same = (let live = live-held found v same in absurd (cc (dead, live)))
dead-none found false v dead same = same

-- both tests of a tombstone
both-true : (live old : Bool) → not live && old ≡ true → (live ≡ false) × (old ≡ true)
both-true true old is = absurd (cc is)
both-true false old is = (refl, is)

low-either : (generation watermark base : ℕ) (b : Bool) → nat_le generation watermark ≡ b → nat_le generation watermark || nat_le generation base ≡ true → (generation ≤ watermark) ⊎ (generation ≤ base)
low-either generation watermark base true is past = inl (grind (arith, nat_tests, is))
low-either generation watermark base false is past = inr (grind (arith, nat_tests, is, past))

-- and that of a mapping
second-true : (left old : Bool) → left && old ≡ true → old ≡ true
second-true true old is = is
second-true false old is = absurd (cc is)

module _ (publication : Publication) (says : Saying) (m : Model) (p : Promised publication says m) (key : Key) (s : SubscriberTables) (here : subscriber_at m.world s.site ≡ Some s) (joins : s.is_joined ≡ true) (live : is_expired_at publication m.world s.site ≡ false) where
  abbrev changed : ℕ
  changed = changed_of (made_in m.history.made s.site.0) key

  abbrev received : ℕ
  received = received_by_number m.world.publisher s.site.0

  abbrev touched : ℕ
  touched = touched_at publication m.world.publisher s.site key

  asked-for : (generation : ℕ) → is_old publication (going_over m) generation ≡ true → (generation ≤ watermark_of m.world s.site) ⊎ (generation ≤ base_of m.history s.site)
  asked-for generation old =
      let past : IsPast m s.site generation = p.old s.site generation live old in
      low-either generation (watermark_of m.world s.site) (base_of m.history s.site) (nat_le generation (watermark_of m.world s.site)) refl past.reached

  -- A row of which it is to hold nothing.
  module _ (none : held_at s key ≡ owed_at publication m.world.publisher s.site key → held_at s key ≡ None) where
    -- where the site has nothing unsent of it, and was told
    held-none : changed ≤ received → touched ≤ s.watermark → held_at s key ≡ None
    held-none taken told = none (p.equal s key here joins live taken told)

    told-by : (b : Bool) → nat_le touched s.watermark ≡ b → changed ≤ received → (held_at s key ≡ None) ⊎ (IsUnsent m s key ⊎ IsStillTold publication m s key)
    told-by true is taken = inl (held-none taken (grind (arith, nat_tests, is)))
    told-by false is taken = (let above : s.watermark < touched = grind (arith, nat_tests, is) in inr (inr (record { above = above; stays = (p.purges s key here joins live above).touched })))

    gone-by : (b : Bool) → nat_le changed received ≡ b → (held_at s key ≡ None) ⊎ (IsUnsent m s key ⊎ IsStillTold publication m s key)
    gone-by true is = told-by (nat_le touched s.watermark) refl (grind (arith, nat_tests, is))
    gone-by false is = inr (inl (grind (arith, nat_tests, is)))

  -- a deleted one
  dead-here : (row : PublisherRow) → row_at m.world.publisher.rows key ≡ Some row → is_live row.version.body ≡ false → held_at s key ≡ owed_at publication m.world.publisher s.site key → held_at s key ≡ None
  dead-here row found dead same =
      let inside : Bool = has_key (inside_keys publication s.site m.world.publisher) key in
      let owed : owed_at publication m.world.publisher s.site key ≡ (if inside then Some row.version else None) =
      ap (λ (x : Option PublisherRow). (let version : Option Version = option_map (λ (y : PublisherRow). y.version) x in if inside then version else None)) found in
      dead-none (subscriber_version_at s key) inside row.version dead (same ∙ owed)

  passed : (row : PublisherRow) → row_at m.world.publisher.rows key ≡ Some row → is_live row.version.body ≡ false → is_old publication (going_over m) row.changed ≡ true → HasPassed publication m s key row
  passed row found dead old = record {
    asked = asked-for row.changed old;
    marked = p.watermarks s.site.0 s here joins;
    gone = gone-by (dead-here row found dead) (nat_le changed received) refl;
  }

  -- and one that is outside
  outside-here : has_key (inside_keys publication s.site m.world.publisher) key ≡ false → held_at s key ≡ owed_at publication m.world.publisher s.site key → held_at s key ≡ None
  outside-here outside same =
      let version : Option Version = version_at m.world.publisher key in
      let owed : owed_at publication m.world.publisher s.site key ≡ None = ap (λ (inside : Bool). if inside then version else None) outside in
      same ∙ owed

  left-passed : (move : Mapping) → is_old publication (going_over m) move.generation ≡ true → HasPassedLeaving publication m s key move
  left-passed move old = record {
    asked = asked-for move.generation old;
    marked = p.watermarks s.site.0 s here joins;
    gone = λ outside. gone-by (outside-here outside) (nat_le changed received) refl;
  }

pub all-passed : (publication : Publication) (says : Saying) (m : Model) → Promised publication says m → TombstonesArePassed publication m
all-passed publication says m p key row s found drops here joins live =
    let both = both-true (is_live row.version.body) (is_old publication (going_over m) row.changed) drops in
    passed publication says m p key s here joins live row found both.0 both.1

pub all-left-passed : (publication : Publication) (says : Saying) (m : Model) → Promised publication says m → LeavingsArePassed publication m
all-left-passed publication says m p place move s kept drops here joins live =
    left-passed publication says m p place.key s here joins live move (second-true (is_left move.kind) (is_old publication (going_over m) move.generation) drops)
