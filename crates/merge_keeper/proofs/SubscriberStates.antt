-- The tables of a state that was read have this state.
use Rattle.std.proofs.Common.{◌≡◌, ◌∙◌, ℕ, zero, suc, ◌≤◌, ◌==◌, ◌&&◌, ◌||◌, nat_le, nat_lt, Bool, true, false, cond, List, Option, refl, sym, ap, arith}
use Rattle.std.proofs.lemmas.Bool.{eqb-true}
use Rattle.std.proofs.lemmas.Bool.Decides.{nat_tests}
use Rattle.merge_types.specs.Limits.{entry_limit}
use Rattle.merge_types.specs.declared.identifiers.SiteId.{SiteId}
use Rattle.merge_keeper.specs.Start.{is_counter}
use Rattle.merge_batch.specs.declared.request.Outstanding.{Outstanding}
use Rattle.merge_ident.specs.Holders.{Holder}
use Rattle.merge_keeper.specs.States.{asks, is_phase, IsSubscriberState}
use Rattle.merge_keeper.specs.Stored.{kind_of, outstanding_from, outstanding_number, outstanding_to, phase_number}
use Rattle.merge_keeper.specs.SubscriberRules.{state_of}
use Rattle.merge_keeper.specs.SubscriberStart.{outstanding_of, state_is_sound, tables_with, talk_is_sound}
use Rattle.merge_keeper.specs.declared.states.SubscriberState.{SubscriberState}
use Rattle.merge_keeper.specs.declared.states.Talk.{Talk}
use Rattle.merge_keeper.proofs.Fronts.{and_first, and_second, both_true}

-- ---- the state of the tables is the state that was read

abbrev told : ℕ → ℕ → ℕ → ℕ → Option (ℕ × Outstanding)
told kind outstanding from to = outstanding_of (record { seq = 0; outstanding = outstanding; from = from; to = to; received = 0; watermark = 0; kind = kind; phase = 0 })

record IsTold (kind outstanding from to : ℕ) (o : Option (ℕ × Outstanding)) : Type 0 where
  number : outstanding_number o ≡ outstanding
  from_is : outstanding_from o ≡ from
  to_is : outstanding_to o ≡ to
  kind_is : kind_of o ≡ kind

zeros : (from to : ℕ) → ((to == 0) && (from == 0)) ≡ true → (0 ≡ from) × (0 ≡ to)
zeros from to h = (sym (eqb-true from 0 (and_second (to == 0) (from == 0) h)), sym (eqb-true to 0 (and_first (to == 0) (from == 0) h)))

no_number : (outstanding : ℕ) (b : Bool) → (outstanding == 0) ≡ b → cond b true false ≡ true → 0 ≡ outstanding
no_number outstanding true e h = sym (eqb-true outstanding 0 e)
no_number outstanding false e h = absurd cc

is_told : (kind outstanding from to : ℕ) → asks kind from to ≡ true → cond (outstanding == 0) (kind == 0) (nat_lt 0 kind) ≡ true → IsTold kind outstanding from to (told kind outstanding from to)
is_told zero outstanding from to h n = let z = zeros from to h in record { number = no_number outstanding (outstanding == 0) refl n; from_is = z.0; to_is = z.1; kind_is = refl }
is_told (suc zero) outstanding from to h n = let z = zeros from to h in record { number = refl; from_is = z.0; to_is = z.1; kind_is = refl }
is_told (suc (suc zero)) outstanding from to h n = record { number = refl; from_is = refl; to_is = refl; kind_is = refl }
is_told (suc (suc (suc zero))) outstanding from to h n = let z = zeros from to h in record { number = refl; from_is = z.0; to_is = z.1; kind_is = refl }
is_told (suc (suc (suc (suc zero)))) outstanding from to h n = record { number = refl; from_is = refl; to_is = sym (eqb-true to 0 (and_first (to == 0) true h)); kind_is = refl }
is_told (suc (suc (suc (suc (suc kind))))) outstanding from to h n =
    let no : nat_le (suc (suc (suc (suc (suc kind))))) 4 ≡ true = and_first (nat_le (suc (suc (suc (suc (suc kind))))) 4) _ h in
    absurd (grind (arith, nat_tests, no))

phase_is : (phase : ℕ) → is_phase phase ≡ true → (b : Bool) → (phase == 2) ≡ b → phase_number b ≡ phase
phase_is phase h true e = sym (eqb-true phase 2 e)
phase_is phase h false e = sym (eqb-true phase 1 (first (phase == 1) (phase == 2) h e))
  where
    first : (a b : Bool) → (a || b) ≡ true → b ≡ false → a ≡ true
    first true b h e = refl
    first false b h e = sym e ∙ h

-- what the rules of the state say of it
pub record SoundState (site : SiteId) (last : ℕ) (s : SubscriberState) : Type 0 where
  pub site_is : s.front.site ≡ site.0
  pub conflicts : s.front.conflicts ≤ last
  pub talk : talk_is_sound s.talk ≡ true
  pub received : s.talk.received ≤ s.front.last_closed

pub sound_state : (site : SiteId) (last : ℕ) (s : SubscriberState) → state_is_sound site last s ≡ true → SoundState site last s
unfolding state_is_sound
sound_state site last s h =
    let closed : Bool = (s.front.site == site.0) && is_counter s.front.changes && is_counter s.front.last_closed && is_counter s.front.conflicts && nat_lt s.front.filled entry_limit in
    let conflicts : Bool = nat_le s.front.conflicts last in
    let talk : Bool = talk_is_sound s.talk in
    let received : Bool = nat_le s.talk.received s.front.last_closed in
    let a = and_first (closed && conflicts && talk) received h in
    let b = and_first (closed && conflicts) talk a in
    let c = and_first closed conflicts b in
    let d = and_first ((s.front.site == site.0) && is_counter s.front.changes && is_counter s.front.last_closed) (is_counter s.front.conflicts) (and_first _ (nat_lt s.front.filled entry_limit) c) in
    let e = and_first (s.front.site == site.0) (is_counter s.front.changes) (and_first _ (is_counter s.front.last_closed) d) in
    record {
      site_is = eqb-true s.front.site site.0 e;
      conflicts = grind (arith, nat_tests, and_second closed conflicts b);
      talk = and_second (closed && conflicts) talk a;
      received = grind (arith, nat_tests, and_second (closed && conflicts && talk) received h);
    }

number_sound : (t : Talk) → talk_is_sound t ≡ true → cond (t.outstanding == 0) (t.kind == 0) (nat_lt 0 t.kind) ≡ true
unfolding talk_is_sound
number_sound t h = and_second (is_counter t.seq) (cond (t.outstanding == 0) (t.kind == 0) (nat_lt 0 t.kind)) h

-- the counter of conflicts is at most itself
pub state_own : (site : SiteId) (last : ℕ) (s : SubscriberState) → state_is_sound site last s ≡ true → state_is_sound site s.front.conflicts s ≡ true
unfolding state_is_sound
state_own site last s h =
    let closed : Bool = (s.front.site == site.0) && is_counter s.front.changes && is_counter s.front.last_closed && is_counter s.front.conflicts && nat_lt s.front.filled entry_limit in
    let conflicts : Bool = nat_le s.front.conflicts last in
    let talk : Bool = talk_is_sound s.talk in
    let received : Bool = nat_le s.talk.received s.front.last_closed in
    let own : nat_le s.front.conflicts s.front.conflicts ≡ true = grind (arith, nat_tests) in
    let a = and_first (closed && conflicts && talk) received h in
    let b = and_first (closed && conflicts) talk a in
    both_true (closed && nat_le s.front.conflicts s.front.conflicts && talk) received
    (both_true (closed && nat_le s.front.conflicts s.front.conflicts) talk (both_true closed (nat_le s.front.conflicts s.front.conflicts) (and_first closed conflicts b) own) (and_second (closed && conflicts) talk a))
    (and_second (closed && conflicts && talk) received h)

-- the tables of a state have this state
pub state_back : (site : SiteId) (held : List (ℕ × Holder)) (last : ℕ) (s : SubscriberState) → IsSubscriberState s → state_is_sound site last s ≡ true → state_of (tables_with site held s) ≡ s
state_back site held last s fits sound =
    let h = sound_state site last s sound in
    let t = is_told s.talk.kind s.talk.outstanding s.talk.from s.talk.to (and_first (asks s.talk.kind s.talk.from s.talk.to) (is_phase s.talk.phase) fits.1.1) (number_sound s.talk h.talk) in
    let phase = phase_is s.talk.phase (and_second (asks s.talk.kind s.talk.from s.talk.to) (is_phase s.talk.phase) fits.1.1) (s.talk.phase == 2) refl in
    let o : Option (ℕ × Outstanding) = outstanding_of s.talk in
    ap (λ (n : ℕ). stated n (outstanding_number o) (outstanding_from o) (outstanding_to o) (kind_of o) (phase_number (s.talk.phase == 2))) (sym h.site_is)
    ∙ ap (λ (n : ℕ). stated s.front.site n (outstanding_from o) (outstanding_to o) (kind_of o) (phase_number (s.talk.phase == 2))) t.number
    ∙ ap (λ (n : ℕ). stated s.front.site s.talk.outstanding n (outstanding_to o) (kind_of o) (phase_number (s.talk.phase == 2))) t.from_is
    ∙ ap (λ (n : ℕ). stated s.front.site s.talk.outstanding s.talk.from n (kind_of o) (phase_number (s.talk.phase == 2))) t.to_is
    ∙ ap (λ (n : ℕ). stated s.front.site s.talk.outstanding s.talk.from s.talk.to n (phase_number (s.talk.phase == 2))) t.kind_is
    ∙ ap (λ (n : ℕ). stated s.front.site s.talk.outstanding s.talk.from s.talk.to s.talk.kind n) phase
  where
    stated : ℕ → ℕ → ℕ → ℕ → ℕ → ℕ → SubscriberState
    stated site outstanding from to kind phase = record {
      front = record s.front { site = site };
      talk = record s.talk { outstanding = outstanding; from = from; to = to; kind = kind; phase = phase };
    }
