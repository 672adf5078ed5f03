-- Room for the keepers of sites.
use Rattle.std.proofs.Common.{List, Option, [], add-one, ap, append_assoc, arith, length, map, min, refl, subst, sum_by, sym, ℕ, ◌+◌, ◌++◌, ◌-◌, ◌^◌, ◌∙◌, ◌∷◌, ◌≡◌}
use Rattle.std.proofs.lemmas.List.{map-append, map-id}
use Rattle.std.proofs.lemmas.List.Sums.{sum_by-cons}
use Rattle.merge_ports.specs.Entries.{Map}
use Rattle.merge_ports.specs.Opened.{with_faults}
use Rattle.merge_ports.specs.declared.outside.Counts.{Counts}
use Rattle.merge_schema.specs.declared.publication.Publication.{Publication}
use Rattle.merge_schema.specs.declared.publication.Subscription.{Subscription}
use Rattle.merge_types.specs.declared.identifiers.SiteId.{SiteId}
use Rattle.merge_world.specs.Views.{SubscriberView, faults_of, site_of}
use Rattle.merge_program.specs.Elsewhere.{SameAtOthers}
use Rattle.merge_program.specs.Stores.{AreRooms, RoseBy, fresh_at, fresh_subscribers, untold_subscriber}
use Rattle.merge_program.proofs.Rises.{rose-on}

pub rooms-still : (old new : SiteId → List ℕ → Type 0) (path : List ℕ) → ((s : SiteId) (p : List ℕ) → old s p → new s p) → (sites : List ℕ) → AreRooms old path sites → AreRooms new path sites
rooms-still old new path still [] rooms = tt
rooms-still old new path still (site ∷ sites) rooms = (still (record { 0 = site }) path rooms.0, rooms-still old new path still sites rooms.1)

-- one site more
pub rooms-more : (room : SiteId → List ℕ → Type 0) (path : List ℕ) (s : SubscriberView) → room s.tables.site path → (ss : List SubscriberView) → AreRooms room path (map site_of ss) → AreRooms room path (map site_of (ss ++ s ∷ []))
rooms-more room path s there [] rooms = (there, tt)
rooms-more room path s there (t ∷ ss) rooms = (rooms.0, rooms-more room path s there ss rooms.1)

-- the keepers that are not given back yet, of which there are so many, and the faults of the others; the stores that were told and are told
pub record GivingBack (room : SiteId → List ℕ → Type 0) (path : List ℕ) (first : ℕ) (all rest : List SubscriberView) (count before now : ℕ) (were told : SiteId → List ℕ → Option Map) : Type 0 where
  pub rooms : AreRooms room path (map site_of rest)
  pub counted : count ≡ length rest
  pub given : ℕ
  pub sums : given + sum_by faults_of rest ≡ first + sum_by faults_of all
  pub rose : RoseBy given before now
  -- no store at another path was changed
  pub others : SameAtOthers path were told

module _ (old next : SiteId → List ℕ → Type 0) (path : List ℕ) (still : (t : SiteId) (p : List ℕ) → old t p → next t p) (first : ℕ) (all : List SubscriberView) where
  -- the publisher's keeper is given back
  pub begins-giving : (rest : List SubscriberView) → rest ≡ all → (count : ℕ) → count ≡ length all → (before now : Counts) (kept : ℕ) → now ≡ with_faults kept before → kept ≡ first → AreRooms old path (map site_of all)
      → (were told : SiteId → List ℕ → Option Map) → SameAtOthers path were told → GivingBack next path first all rest count before.stores now.stores were told
  begins-giving rest is count counted before now kept risen same rooms were told others =
      let stores : now.stores ≡ min (before.stores + kept) (2 ^ 64 - 1) = ap (λ (c : Counts). c.stores) risen in
      subst (λ (l : List SubscriberView). GivingBack next path first all l count before.stores now.stores were told) (sym is) (record {
        rooms = rooms-still old next path still (map site_of all) rooms;
        counted = counted;
        given = first;
        sums = refl;
        rose = omega (arith, stores, same);
        others = others;
      })

  one-back : (rest : List SubscriberView) (s : SubscriberView) (before now after kept : ℕ) → after ≡ min (now + kept) (2 ^ 64 - 1) → kept ≡ s.faults → (count less : ℕ) → count ≡ less + 1
      → (were mid told : SiteId → List ℕ → Option Map) → SameAtOthers path mid told → GivingBack old path first all (s ∷ rest) count before now were mid → GivingBack next path first all rest less before after were told
  one-back rest s before now after kept risen same count less fewer were mid told others g =
      let cons : sum_by faults_of (s ∷ rest) ≡ s.faults + sum_by faults_of rest = sum_by-cons faults_of s rest in
      let total : g.given + sum_by faults_of (s ∷ rest) ≡ first + sum_by faults_of all = g.sums in
      let many : count ≡ length rest + 1 = g.counted ∙ sym (add-one (length rest)) in record {
        rooms = rooms-still old next path still (map site_of rest) g.rooms.1;
        counted = omega (arith, many, fewer);
        given = g.given + s.faults;
        sums = omega (arith, total, cons);
        rose = rose-on g.given s.faults before now after g.rose (omega (arith, risen, same));
        others = λ t p other. others t p other ∙ g.others t p other;
      }

  -- one keeper more is given back
  pub gives-back : (left rest : List SubscriberView) (s : SubscriberView) → left ≡ s ∷ rest → (before : ℕ) (now after : Counts) (kept : ℕ) → after ≡ with_faults kept now → kept ≡ s.faults → (count less : ℕ) → count ≡ less + 1
      → (were mid told : SiteId → List ℕ → Option Map) → SameAtOthers path mid told → GivingBack old path first all left count before now.stores were mid → GivingBack next path first all rest less before after.stores were told
  gives-back left rest s is before now after kept risen same count less fewer were mid told others so_far =
      one-back rest s before now.stores after.stores kept (ap (λ (c : Counts). c.stores) risen) same count less fewer were mid told others (subst (λ (l : List SubscriberView). GivingBack old path first all l count before now.stores were mid) is so_far)

none-left : (rest : List SubscriberView) → length rest ≡ 0 → sum_by faults_of rest ≡ 0
none-left [] none = refl
none-left (s ∷ rest) none = absurd (omega (arith, none))

pub all-given : (room : SiteId → List ℕ → Type 0) (path : List ℕ) (first : ℕ) (all rest : List SubscriberView) (count : ℕ) → count ≡ 0 → (before now : ℕ) (were told : SiteId → List ℕ → Option Map) → GivingBack room path first all rest count before now were told
    → RoseBy (first + sum_by faults_of all) before now
all-given room path first all rest count none before now were told g =
    let left : sum_by faults_of rest ≡ 0 = none-left rest (sym g.counted ∙ none) in
    let total : g.given + sum_by faults_of rest ≡ first + sum_by faults_of all = g.sums in
    let rose : RoseBy g.given before now = g.rose in omega (arith, total, rose, left)

-- what is counted of all sites together
pub rose-all : (first : ℕ) (ss : List SubscriberView) (a b : ℕ) → RoseBy (first + sum_by faults_of ss) a b → RoseBy (first + sum_by faults_of (map (λ (s : SubscriberView). s) ss)) a b
rose-all first ss a b rose = subst (λ (l : List SubscriberView). RoseBy (first + sum_by faults_of l) a b) (sym (map-id ss)) rose

-- One subscriber more is started.
module _ (publication : Publication) (ss held now : List SubscriberView) (s : SubscriberView) (e : ℕ × Subscription) (same : held ≡ ss) (put : now ≡ held ++ s ∷ []) (fresh : untold_subscriber s ≡ fresh_at publication e) where
  pub more-started : (left rest : List (ℕ × Subscription)) → left ≡ e ∷ rest → map untold_subscriber ss ++ map (fresh_at publication) left ≡ fresh_subscribers publication → map untold_subscriber now ++ map (fresh_at publication) rest ≡ fresh_subscribers publication
  more-started left rest is so_far =
      let all : map untold_subscriber ss ++ fresh_at publication e ∷ map (fresh_at publication) rest ≡ fresh_subscribers publication =
      subst (λ (l : List (ℕ × Subscription)). map untold_subscriber ss ++ map (fresh_at publication) l ≡ fresh_subscribers publication) is so_far in
      let more : map untold_subscriber now ≡ map untold_subscriber ss ++ fresh_at publication e ∷ [] =
      ap (map untold_subscriber) (put ∙ ap (λ (l : List SubscriberView). l ++ s ∷ []) same) ∙ (map-append untold_subscriber ss (s ∷ []) ∙ ap (λ (x : SubscriberView). map untold_subscriber ss ++ x ∷ []) fresh) in
      ap (λ (l : List SubscriberView). l ++ map (fresh_at publication) rest) more ∙ (append_assoc (map untold_subscriber ss) (fresh_at publication e ∷ []) (map (fresh_at publication) rest) ∙ all)

  pub more-rooms : (old next : SiteId → List ℕ → Type 0) (path : List ℕ) → ((t : SiteId) (p : List ℕ) → old t p → next t p) → next e.1.site path → AreRooms old path (map site_of ss) → AreRooms next path (map site_of now)
  more-rooms old next path still there rooms = rw (put, same) (rooms-more next path s (subst (λ (v : SubscriberView). next v.tables.site path) (sym fresh) there) ss (rooms-still old next path still (map site_of ss) rooms))
