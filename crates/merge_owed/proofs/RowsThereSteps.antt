-- Every step keeps that of each accepted change the publisher has the row, or it was purged.
use Rattle.std.specs.List.{fold, list_any}
use Rattle.std.specs.Prelude.{Bool, List, None, Some, false, filter, flat_map, is_some, map, not, refl, true, ◌+◌, ◌||◌, ◌≡◌}
use Rattle.std.proofs.Common.{arith, subst, sym}
use Rattle.merge_types.specs.declared.changes.Change.{Change}
use Rattle.merge_types.specs.declared.changes.Change.TheVariants.{Delete, Insert, Update}
use Rattle.merge_types.specs.declared.identifiers.Dot.{Dot}
use Rattle.merge_types.specs.declared.row_key.RowKey.{RowKey as Key}
use Rattle.merge_types.specs.declared.values.Value.{Value}
use Rattle.merge_units.specs.declared.site_row.PublisherRow.{PublisherRow}
use Rattle.merge_units.specs.declared.version.Version.{Version}
use Rattle.merge_schema.specs.declared.publication.Publication.{Publication}
use Rattle.merge_batch.specs.declared.request.Join.{Join}
use Rattle.merge_model.specs.Judge.ByHistory.{by_made, by_past}
use Rattle.merge_model.specs.Tables.Changes.{is_insert, key_of}
use Rattle.merge_model.specs.History.{History, MadeChange, pasts_with}
use Rattle.merge_model.specs.Judge.{PublisherJudge}
use Rattle.merge_model.specs.Tables.Keys.{has_key, put_number, row_at, same_key}
use Rattle.merge_model.specs.History.Noting
use Rattle.merge_model.specs.Tables.Publications.{by_site}
use Rattle.merge_model.specs.Publisher.{last_closed}
use Rattle.merge_model.specs.Publisher.PublisherLocal.{Drawn, changing_locally, local_refusal, made_locally, next_dot, with_draw}
use Rattle.merge_model.specs.Publisher.PublisherPurge.{is_old_tombstone, purge}
use Rattle.merge_model.specs.Subscriber.Reinit.{discarded_versions}
use Rattle.merge_model.specs.Subscriber.{subscriber_last_closed, subscriber_next_dot}
use Rattle.merge_model.specs.Tables.{PublisherTables, SubscriberTables}
use Rattle.merge_model.specs.World.{Saying, World, subscriber_at, with_publisher}
use Rattle.merge_model.proofs.Lists.KeyLookUps.{key-itself}
use Rattle.merge_laws.proofs.Lineages.LineagesAlways.{Kept}
use Rattle.merge_laws.proofs.Makers.MakerChanges.{own-held}
use Rattle.merge_laws.proofs.Walking.NotesLeave.{fold-leave}
use Rattle.merge_laws.proofs.Own.OwnAccepted.{sub-new}
use Rattle.merge_laws.proofs.Own.OwnPasts.{lines-on, lost-on, reply-on}
use Rattle.merge_laws.proofs.Told.ToldSites.{Every}
use Rattle.merge_laws.proofs.Walking.{StepsKeep, here, join_noted, own_noted}
use Rattle.merge_owed.proofs.HaveMakers.{HasMaker}
use Rattle.merge_owed.proofs.PurgedRows.{keys_old, left-or-old, purged-has}
use Rattle.merge_owed.proofs.RowsThere.{AllThere, RowsThere, all-there, changed-there, is_there, upload-there}

-- what is known besides
abbrev pub Base : Publication → World → History → Type 0
Base publication w h = Kept publication (record { world = w; history = h }) × Every (HasMaker h.made) w h

more-there : (rows more : List (Key × PublisherRow)) (purged : List Key) (q : Key) → (is_some (row_at rows q) ≡ true → is_some (row_at more q) ≡ true) → is_there rows purged q ≡ true → is_there more purged q ≡ true
more-there rows more purged q stays there = elim (is_some (row_at rows q)) as (λ (b : Bool). is_some (row_at rows q) ≡ b → is_there more purged q ≡ true) [
  | true ↦ (λ e. (let now = stays e in grind (arith, now)))
  | false ↦ (λ e. (let gone : has_key purged q ≡ true = grind (arith, there, e) in grind (arith, gone)))
] refl

-- A local change of the publisher: its row is put.

module _ (publication : Publication) (w : World) (h : History) (change : Change) (d : Drawn) (t : RowsThere w h) (fine : local_refusal publication change w.publisher ≡ None) where
  abbrev own_key : Key
  own_key = key_of (next_dot w.publisher) change

  own-put : (some : Change) → change ≡ some → (is_some (row_at w.publisher.rows own_key) || list_any (λ (row : Key × Version). same_key own_key row.0) (changing_locally publication change d.value (here w)).versions) ≡ true
  own-put (Insert article values) is =
      subst (λ (c : Change). (is_some (row_at w.publisher.rows (key_of (next_dot w.publisher) c)) || list_any (λ (row : Key × Version). same_key (key_of (next_dot w.publisher) c) row.0) (changing_locally publication c d.value (here w)).versions) ≡ true) (sym is)
      (let own = key-itself (key_of (next_dot w.publisher) (Insert article values)) in grind (arith, own))
  own-put (Update article row values) is = (let held = own-held publication change w.publisher fine (subst (λ (c : Change). is_insert c ≡ false) (sym is) refl) in grind (arith, held))
  own-put (Delete article row) is = (let held = own-held publication change w.publisher fine (subst (λ (c : Change). is_insert c ≡ false) (sym is) refl) in grind (arith, held))

  pub own-there : (let judge : PublisherJudge = by_past h (pasts_with h 0) in RowsThere (with_publisher (made_locally publication judge change d (here w)).0 w) (own_noted publication judge change d (here w) h))
  own-there =
      let judge : PublisherJudge = by_past h (pasts_with h 0) in
      let p : PublisherTables = here w in
      let rows : List (Key × PublisherRow) = (made_locally publication judge change d p).0.rows in
      let made : History = Noting.with_change publication (next_dot p) (last_closed p + 1) change d.value h in
      let now : is_some (row_at rows own_key) ≡ true = changed-there publication judge (changing_locally publication change d.value p) (with_draw d p) own_key (own-put change refl) in
      lines-on (λ (x : History). AllThere rows x.accepted x.purged x.made) (Noting.lines_of_entries (last_closed p + 1) (Noting.drawn_entries publication judge change p d)) made
      (λ others. (
        (λ accept. grind (arith, now)),
        all-there w.publisher.rows rows h.accepted h.purged h.purged h.made
            (λ key there. more-there w.publisher.rows rows h.purged key (λ held. changed-there publication judge (changing_locally publication change d.value p) (with_draw d p) key (grind (arith, held))) there) t,
      ))

-- A local change of a subscriber is not accepted yet.

sub-there : (publication : Publication) (w : World) (h : History) (s : SubscriberTables) (change : Change) (value : Value) → Base publication w h → RowsThere w h → subscriber_at w s.site ≡ Some s → (s.site.0 ≡ 0 → ⊥)
    → (let k : History = Noting.with_change publication (subscriber_next_dot s) (subscriber_last_closed s + 1) change value h in AllThere w.publisher.rows k.accepted k.purged k.made)
sub-there publication w h s change value b t at named =
    ((λ accept. absurd (let new = sub-new publication w h s change value (b.0.grounded.0, b.0.accepted.accepted.counts) b.0.grounded.1.0 at named in grind (arith, accept, new))), t)

-- A purge.

purge-there : (publication : Publication) (w : World) (h : History) (judge : PublisherJudge) → Base publication w h → RowsThere w h → RowsThere (with_publisher (purge publication w.moment w.publisher).0 w) (Noting.noted_purge publication judge (here w) h)
purge-there publication w h judge b t =
    let old : Key × PublisherRow → Bool = is_old_tombstone publication (here w) in
    let rows : List (Key × PublisherRow) = filter (λ (row : Key × PublisherRow). not (old row)) w.publisher.rows in
    let keys : List Key = keys_old old w.publisher.rows in
    let k : History = fold Noting.with_purged h keys in
    let made : k.made ≡ h.made = fold-leave (λ (x : History). x.made) Noting.with_purged (λ x key. refl) keys h in
    let accepted : k.accepted ≡ h.accepted = fold-leave (λ (x : History). x.accepted) Noting.with_purged (λ x key. refl) keys h in
    let stays : (key : Key) → is_there w.publisher.rows h.purged key ≡ true → is_there rows k.purged key ≡ true =
    λ key there. by-either (is_some (row_at w.publisher.rows key)) (has_key h.purged key) (is_some (row_at rows key)) (has_key keys key) (has_key k.purged key) there (left-or-old old w.publisher.rows key b.0.grounded.0.sorted.rows_ascend) (purged-has keys h key) in
    lines-on (λ (x : History). AllThere rows x.accepted x.purged x.made) (map (Noting.gone_line (last_closed (here w) + 1)) (flat_map (Noting.old_left publication judge (here w)) (map Noting.site_of_subscription (by_site publication)))) k
    (λ others. subst (λ (changes : List MadeChange). AllThere rows k.accepted k.purged changes) (sym made)
    (subst (λ (dots : List Dot). AllThere rows dots k.purged h.made) (sym accepted) (all-there w.publisher.rows rows h.accepted h.purged k.purged h.made stays t)))
  where
    by-either : (held purged left old now : Bool) → (held || purged) ≡ true → (held ≡ true → (left || old) ≡ true) → now ≡ (old || purged) → (left || now) ≡ true
    by-either true purged left old now there one is = (let both = one refl in grind (arith, both, is))
    by-either false purged left old now there one is = grind (arith, there, is)

-- A join.

join-there : (w : World) (h : History) (judge : PublisherJudge) (m : Join) → RowsThere w h → (let k : History = join_noted judge m w.publisher h in AllThere w.publisher.rows k.accepted k.purged k.made)
join-there w h judge m t = lines-on (λ (x : History). AllThere w.publisher.rows x.accepted x.purged x.made) (map (Noting.gone_line (last_closed w.publisher + 1)) (map (Noting.gone_for m.site) (Noting.left_rows judge m.site)))
    (record (Noting.with_done m.site.0 0 m.generation h) { bases = put_number h.bases m.site.0 (last_closed w.publisher) }) (λ others. t)

pub there-keeps : (publication : Publication) (says : Saying) → StepsKeep publication says (Base publication) RowsThere
there-keeps publication says = record {
  moment = λ w h now b t. t;
  own_change = λ w h change d b t fine is. own-there publication w h change d t fine;
  own_closing = λ w h b t. t;
  forgetting = λ w h b t. purge-there publication w h (by_past h (pasts_with h 0)) b t;
  same = λ w h s b t at. t;
  subscriber_change = λ w h s change d b t at named fine is. sub-there publication w h s change d.0 b t at named;
  subscriber_closing = λ w h s b t at. t;
  anew = λ w h s b t at. lost-on (λ (x : History). AllThere w.publisher.rows x.accepted x.purged x.made) s.site (discarded_versions (by_made h s.site) s) h (λ lost. t);
  sends_join = λ w h s b t at joining. t;
  sends_upload = λ w h s b t at fine. t;
  sends_ranges = λ w h s b t at fine. t;
  sends_ask = λ w h s b t at fine. t;
  joins = λ w h number m b t at fine acts. join-there w h (by_past h (pasts_with h number)) m t;
  joins_again = λ w h number m b t at acts. t;
  uploads = λ w h number m b t at fine news. upload-there publication says w h number m b.0 b.1 t at fine;
  uploads_again = λ w h number m b t at none. t;
  answers_ranges = λ w h site m b t. t;
  answers_ask = λ w h number site m b t at fine. t;
  replies = λ w h s number m sent b t at there out none. reply-on (λ (x : History). AllThere w.publisher.rows x.accepted x.purged x.made) (by_made h s.site) s.site (pasts_with h number) m h (λ pasts but. t);
}
