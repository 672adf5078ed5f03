-- How a run of `serve` finishes.
use Rattle.std.proofs.Common.{OnOk, Err, List, None, Ok, Option, Result, Some, ap, arith, inl, inr, length, subst, sym, unwrap_or, ℕ, ◌∙◌, ◌≡◌, ◌≤◌, ◌⊎◌}
use Rattle.std.specs.Prelude.{IfOk, IfSome, OnErr, not}
use Rattle.merge_types.specs.declared.identifiers.SiteId.{SiteId}
use Rattle.merge_ports.specs.Entries.{Map}
use Rattle.merge_ports.specs.Opened.{SameElsewhere}
use Rattle.merge_schema.specs.Answers.{IsAnswer}
use Rattle.merge_schema.specs.declared.publication.Publication.{Publication}
use Rattle.merge_model.specs.World.{Saying}
use Rattle.merge_service.specs.Days.{IsTornDay}
use Rattle.merge_service.specs.Ends.{Ends}
use Rattle.merge_service.specs.declared.stop.Stop.{Stop}
use Rattle.merge_service.specs.declared.stop.Stop.TheVariants as break
use Rattle.merge_program.specs.declared.ending.Ending.{Ending}
use Rattle.merge_program.specs.declared.ending.Ending.TheVariants.{Done, NoMemory, ReadFault, Refused, TooLong}
use Rattle.merge_program.specs.declared.finish.Finish.{Finish}
use Rattle.merge_program.specs.declared.finish.Finish.TheVariants.{Ended}
use Rattle.merge_program.specs.declared.order.Order.{Order}
use Rattle.merge_program.specs.Endings.{status_of}
use Rattle.merge_program.specs.Files.{IsAccepted, IsUnpublished, IsUnread}
use Rattle.merge_program.specs.Notes.{IsTold}
use Rattle.merge_program.specs.Serving.{Doorway, FinishIsTold, IsServed, IsUnordered, ServeEnds, TellsServed, around_order, finish_of, finish_status, publisher_site, workers_for}
use Rattle.merge_program.specs.Sited.{IsUntouched}
use Rattle.merge_program.specs.Visits.{Visit, sides_of}
use Rattle.merge_program.proofs.Changes.{accepted, refused-file}

-- What was read, and why not.

module _ (told : Option (List ℕ)) (resolvers : ℕ) (before after : ℕ) where
  abbrev Unordered : Ending → Type 0
  Unordered ending = IsUnordered ending told resolvers before after

  pub by-file : (ending : Ending) → IsUnread ending told before after → Unordered ending
  by-file ReadFault p = p
  by-file TooLong p = p
  by-file NoMemory p = tt
  by-file other p = absurd p

  module _ (text : List ℕ) (all : IfSome told (λ (left : List ℕ). text ≡ left)) (fits : length text ≤ 67108864) (slice : List ℕ) (is : slice ≡ text) where
    pub by-text : (ending : Ending) → IsUnpublished ending resolvers slice → Unordered ending
    by-text (Refused fault) p = refused-file told told resolvers publisher_site before after before after text all fits slice is fault p
    by-text NoMemory p = tt
    by-text other p = absurd p

    pub is-ordered : (publication : Publication) → IsAnswer resolvers slice (Ok publication) → IfSome told (IsAccepted resolvers publication)
    is-ordered publication answer = accepted told told resolvers publisher_site before after before after text all fits slice is publication answer

-- The whole.

module _ (order : Order) (resolvers : ℕ) (says : Saying) (v : Visit) (d : Doorway) where
  abbrev Serve : Finish → Type 0
  Serve finish = ServeEnds finish order resolvers says v d

  untouched : v.written ≡ v.was → v.kept ≡ v.stored → IsUntouched (v.stored publisher_site order.store) (v.kept publisher_site order.store) (sides_of v)
  untouched silent same = record { silent = silent; same = ap (λ (f : SiteId → List ℕ → Option Map). f publisher_site order.store) same }

  unordered-ends : (finish : Finish) (ending : Ending) → finish ≡ Ended ending → IsUnordered ending (v.offers.texts order.publication) resolvers v.old.texts v.new.texts → v.written ≡ v.was → v.kept ≡ v.stored → d.after ≡ d.before → Serve finish
  unordered-ends finish ending is cause silent same closed = inl (record { ending = ending; is = is; cause = cause; untouched = untouched silent same; closed = closed })

  -- so many resolvers were counted
  pub unordered-ends-so : (finish : Finish) (ending : Ending) → finish ≡ Ended ending → (count : ℕ) → count ≡ resolvers
      → IsUnordered ending (v.offers.texts order.publication) count v.old.texts v.new.texts → v.written ≡ v.was → v.kept ≡ v.stored → d.after ≡ d.before → Serve finish
  unordered-ends-so finish ending is count counted cause silent same closed =
      unordered-ends finish ending is (subst (λ (n : ℕ). IsUnordered ending (v.offers.texts order.publication) n v.old.texts v.new.texts) counted cause) silent same closed

  -- what is told around the service is told as before the file was read
  pub ordered-ends : (finish : Finish) (r : Result Unit Stop) → finish ≡ finish_of r → (publication : Publication)
      → (count : ℕ) → count ≡ resolvers → IfSome (v.offers.texts order.publication) (IsAccepted count publication)
      → (told : SiteId → List ℕ → Option Map) → told ≡ v.stored → (stores : ℕ) → stores ≡ v.old.stores → (saying : Saying) → saying ≡ says
      → (workers : ℕ) → workers ≡ workers_for order → Ends publication saying workers order.requests (record (around_order order v d) { stored = told publisher_site order.store; stores = stores }) v.was v.written v.writes v.refused r → Serve finish
  ordered-ends finish r is publication count counted read told stored stores same saying said workers ordered ends = inr (record {
    publication = publication;
    read = subst (λ (n : ℕ). IfSome (v.offers.texts order.publication) (IsAccepted n publication)) counted read;
    served = r;
    is = is;
    ends = subst (λ (n : ℕ). Ends publication says (workers_for order) order.requests (record (around_order order v d) { stores = n }) v.was v.written v.writes v.refused r) same
        (subst (λ (f : SiteId → List ℕ → Option Map). Ends publication says (workers_for order) order.requests (record (around_order order v d) { stored = f publisher_site order.store; stores = stores }) v.was v.written v.writes v.refused r) stored
        (subst (λ (s : Saying). Ends publication s (workers_for order) order.requests (record (around_order order v d) { stored = told publisher_site order.store; stores = stores }) v.was v.written v.writes v.refused r) said
        (subst (λ (n : ℕ). Ends publication saying n order.requests (record (around_order order v d) { stored = told publisher_site order.store; stores = stores }) v.was v.written v.writes v.refused r) ordered ends)));
  })

  -- with status 0 all was served

  not-unordered : (ending : Ending) → IsUnordered ending (v.offers.texts order.publication) resolvers v.old.texts v.new.texts → status_of ending ≡ 0 → ⊥
  not-unordered Done cause is = cause
  not-unordered other cause is = omega (arith, is)

  served-by : (publication : Publication) → IfSome (v.offers.texts order.publication) (IsAccepted resolvers publication) → (r : Result Unit Stop)
      → Ends publication says (workers_for order) order.requests (around_order order v d) v.was v.written v.writes v.refused r → finish_status (finish_of r) ≡ 0 → IsServed order resolvers says v d
  served-by publication read (Ok done) ends is = record { publication = publication; read = read; journal = ends.0; served = ends.1; written = ends.2 }
  served-by publication read (Err break.StoreFault) ends is = absurd (omega (arith, is))
  served-by publication read (Err (break.Damaged table key)) ends is = absurd (omega (arith, is))
  served-by publication read (Err break.DoorFault) ends is = absurd (omega (arith, is))
  served-by publication read (Err (break.Differs difference)) ends is = absurd (omega (arith, is))
  served-by publication read (Err break.WriteFault) ends is = absurd (omega (arith, is))
  served-by publication read (Err break.NoMemory) ends is = absurd (omega (arith, is))

  done-by : (finish : Finish) → Serve finish → finish_status finish ≡ 0 → IsServed order resolvers says v d
  done-by finish (inl u) is = absurd (not-unordered u.ending u.cause (sym (ap finish_status u.is) ∙ is))
  done-by finish (inr o) is = served-by o.publication o.read o.served o.ends (sym (ap finish_status o.is) ∙ is)

  -- with status 13 a connection came

  not-torn : (ending : Ending) → status_of ending ≡ 13 → ⊥
  not-torn Done is = omega (arith, is)
  not-torn other is = omega (arith, is)

  came-with : (handed : Option ℕ) (accepted : ℕ) → 1 ≤ accepted → IfSome handed (λ (n : ℕ). n ≡ accepted) → IfSome handed (λ (n : ℕ). 1 ≤ n)
  came-with None accepted some each = tt
  came-with (Some n) accepted some each = omega (arith, some, each)

  torn-by : (publication : Publication) (r : Result Unit Stop)
      → Ends publication says (workers_for order) order.requests (around_order order v d) v.was v.written v.writes v.refused r → finish_status (finish_of r) ≡ 13 → IfSome d.handed (λ (n : ℕ). 1 ≤ n)
  torn-by publication (Ok done) ends is = absurd (omega (arith, is))
  torn-by publication (Err break.StoreFault) ends is = absurd (omega (arith, is))
  torn-by publication (Err (break.Damaged table key)) ends is = absurd (omega (arith, is))
  torn-by publication (Err break.DoorFault) ends is = absurd (omega (arith, is))
  torn-by publication (Err (break.Differs difference)) ends is =
      let torn : IsTornDay publication says ends.1.old ends.1.new (workers_for order) order.requests d.handed difference = ends.1.led in
      came-with d.handed torn.accepted (omega (arith, torn.some, torn.paid)) torn.each
  torn-by publication (Err break.WriteFault) ends is = absurd (omega (arith, is))
  torn-by publication (Err break.NoMemory) ends is = absurd (omega (arith, is))

  torn-in : (finish : Finish) → Serve finish → finish_status finish ≡ 13 → IfSome d.handed (λ (n : ℕ). 1 ≤ n)
  torn-in finish (inl u) is = absurd (not-torn u.ending (sym (ap finish_status u.is) ∙ is))
  torn-in finish (inr o) is = torn-by o.publication o.served o.ends (sym (ap finish_status o.is) ∙ is)

  tells-served : (status : ℕ) (finish : Finish) → status ≡ finish_status finish → Serve finish → (old new : Option (List ℕ)) (before after : ℕ) → FinishIsTold finish old new before after
      → TellsServed status order resolvers says v d old new before after
  tells-served status finish is ends old new before after told = record {
    finish = finish;
    status_is = is;
    ends = ends;
    told = told;
    done = λ zero. done-by finish ends (sym is ∙ zero);
    came = λ torn. torn-in finish ends (sym is ∙ torn);
  }

  -- the same, of the order that the words said
  pub tells-of : (status : ℕ) (finish : Finish) → status ≡ finish_status finish → Serve finish → (old new : Option (List ℕ)) (before after : ℕ) → FinishIsTold finish old new before after
      → (other : Order) → order ≡ other → TellsServed status other resolvers says v d old new before after
  tells-of status finish is ends old new before after told other same =
      subst (λ (o : Order). TellsServed status o resolvers says v d old new before after) same (tells-served status finish is ends old new before after told)

  -- memory was wanting for the words
  pub wanting : (finish : Finish) → finish ≡ Ended NoMemory → v.written ≡ v.was → v.kept ≡ v.stored → d.after ≡ d.before → (status : ℕ) → status ≡ finish_status finish
      → (old new : Option (List ℕ)) (before after : ℕ) → FinishIsTold finish old new before after → TellsServed status order resolvers says v d old new before after
  wanting finish is silent same closed status as_told old new before after told = tells-served status finish as_told (unordered-ends finish NoMemory is tt silent same closed) old new before after told

-- A run with status 0 was served.

pub never-done : {P : Type 0} (ending : Ending) (told : Option (List ℕ)) (resolvers before after : ℕ) → IsUnordered ending told resolvers before after → status_of ending ≡ 0 → P
never-done Done told resolvers before after cause is = absurd cause
never-done other told resolvers before after cause is = absurd (omega (arith, is))

pub reached-by : {P : Type 0} (r : Result Unit Stop) → OnOk r P → finish_status (finish_of r) ≡ 0 → P
reached-by (Ok done) p is = p
reached-by (Err break.StoreFault) p is = absurd (omega (arith, is))
reached-by (Err (break.Damaged table key)) p is = absurd (omega (arith, is))
reached-by (Err break.DoorFault) p is = absurd (omega (arith, is))
reached-by (Err (break.Differs difference)) p is = absurd (omega (arith, is))
reached-by (Err break.WriteFault) p is = absurd (omega (arith, is))
reached-by (Err break.NoMemory) p is = absurd (omega (arith, is))

-- The order that the words said is the one.

pub one-order : (a b : Order) (said : Option Order) → Some a ≡ said → said ≡ Some b → a ≡ b
one-order a b said is say = ap (λ (o : Option Order). unwrap_or o a) (is ∙ say)

pub no-order : {P : Type 0} (a : Order) (said : Option Order) → Some a ≡ said → said ≡ None → P
no-order a said is none = absurd (cc (is, none))

pub elsewhere-of : (old new : SiteId → List ℕ → Option Map) (a b : Order) → a ≡ b → SameElsewhere publisher_site a.store old new → SameElsewhere publisher_site b.store old new
elsewhere-of old new a b is same = subst (λ (o : Order). SameElsewhere publisher_site o.store old new) is same

pub some-order : {P : Type 0} (b : Order) (said : Option Order) → None ≡ said → said ≡ Some b → P
some-order b said is some = absurd (cc (is, some))

-- a note that was put together, or none where memory was wanting
pub told-note : {T E : Type 0} (text : T → List ℕ) (want : List ℕ) (old new : Option (List ℕ)) (before after : ℕ) (r : Result T E) → IfOk r (λ note. text note ≡ want) → IfOk r (λ note. IsTold (text note) old new before after) → OnErr r (new ≡ old)
    → IsTold want old new before after ⊎ (new ≡ old)
told-note text want old new before after (Ok note) made t err = inl (subst (λ (l : List ℕ). IsTold l old new before after) made t)
told-note text want old new before after (Err e) made t err = inr err

pub finished : (finish other : Finish) (old new : Option (List ℕ)) (before after : ℕ) → finish ≡ other → FinishIsTold other old new before after → FinishIsTold finish old new before after
finished finish other old new before after is p = subst (λ (f : Finish). FinishIsTold f old new before after) (sym is) p
