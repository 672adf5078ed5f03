-- What of the publisher only rises: the received generations of sites, its closed generations, and the sites that it remembers.
use Rattle.std.specs.BTreeMap.{is_at}
use Rattle.std.specs.Ordering.{nat_cmp}
use Rattle.std.specs.Prelude.{Bool, List, None, Option, Some, [], cond, false, if◌then◌else◌, is_some, map, refl, true, unwrap_or, ℕ, ◌&&◌, ◌==◌, ◌≡◌, ◌≤◌, ◌<◌, ◌∷◌}
use Rattle.std.proofs.Common.{ap, arith, subst, sym, ◌∙◌}
use Rattle.std.proofs.lemmas.Bool.Decides.{nat_tests}
use Rattle.merge_gens.specs.declared.sites.SiteState.{SiteState}
use Rattle.merge_schema.specs.declared.publication.Publication.{Publication}
use Rattle.merge_batch.specs.declared.request.Download.{Download}
use Rattle.merge_batch.specs.declared.request.Join.{Join}
use Rattle.merge_batch.specs.declared.request.Upload.{Upload}
use Rattle.merge_model.specs.Publisher.Acts.{Act}
use Rattle.merge_model.specs.Judge.ByNumbers.{received_by_number}
use Rattle.merge_model.specs.Judge.{PublisherJudge}
use Rattle.merge_model.specs.Tables.Keys.{at_number, put_number}
use Rattle.merge_model.specs.Publisher.{last_closed, no_state, state_of}
use Rattle.merge_model.specs.Publisher.PublisherDownload.{state_after_download, tables_after_download}
use Rattle.merge_model.specs.Publisher.PublisherJoin.{join_acts, join_taken, joined_state}
use Rattle.merge_model.specs.Publisher.PublisherUpload.{state_seeing, taken_in, with_taken}
use Rattle.merge_model.specs.Tables.{PublisherTables}
use Rattle.merge_model.proofs.Lists.Finding.{at_put, at_put_same}
use Rattle.merge_laws.proofs.Received.Publishing.{asked-same, joined-received, same-sites, seeing-some, sites_taken, upload-received}
use Rattle.merge_laws.proofs.Received.Subscribing.{filling-rises, number-decided, same_number}
use Rattle.merge_honest.specs.SentWell.{IsRemembered}

pub record Rises (p q : PublisherTables) : Type 0 where
  pub received : (n : ℕ) → received_by_number p n ≤ received_by_number q n
  pub closed : last_closed p ≤ last_closed q
  pub states : (n : ℕ) → IsRemembered p n → IsRemembered q n

-- Where the states of sites stay.
pub same-rises : (p q : PublisherTables) → q.sites ≡ p.sites → last_closed p ≤ last_closed q → Rises p q
same-rises p q same up = record {
  received = λ n. (let e = (same-sites p q same).received n in omega (arith, e));
  closed = up;
  states = λ n is. ap (λ (sites : List (ℕ × SiteState)). is_some (at_number sites n)) same ∙ is;
}

-- A state is put.
cond-some : (b : Bool) (state : SiteState) (found : Option SiteState) → is_some found ≡ true → is_some (let now : Option SiteState = cond b (Some state) found in now) ≡ true
cond-some true state found is = refl
cond-some false state found is = is

put-some : (sites : List (ℕ × SiteState)) (site n : ℕ) (state : SiteState) → is_some (at_number sites n) ≡ true → is_some (at_number (put_number sites site state) n) ≡ true
put-some sites site n state is = ap (λ (found : Option SiteState). is_some found) (at_put site n state sites) ∙ cond-some (is_at (nat_cmp n) site) state (at_number sites n) is

join-number : (p : PublisherTables) (m : Join) (n : ℕ) (b : Bool) → same_number n m.site.0 b → received_by_number p m.site.0 ≤ m.generation → received_by_number p n ≤ received_by_number (join_taken m p) n
join-number p m n true same up =
    let is = joined-received m p n true same in
    let below : received_by_number p n ≤ m.generation = subst (λ (k : ℕ). received_by_number p k ≤ m.generation) (sym same) up in
    omega (arith, is, below)
join-number p m n false differs up = let is = joined-received m p n false differs in omega (arith, is)

pub join-rises : (p : PublisherTables) (m : Join) → received_by_number p m.site.0 ≤ m.generation → Rises p (join_taken m p)
join-rises p m up = record {
  received = λ n. join-number p m n (n == m.site.0) (number-decided n m.site.0) up;
  closed = omega arith;
  states = λ n is. put-some p.sites m.site.0 n (joined_state m p.latest (state_of p m.site)) is;
}

pub join-remembers : (p : PublisherTables) (m : Join) → IsRemembered (join_taken m p) m.site.0
join-remembers p m = ap (λ (found : Option SiteState). is_some found) (at_put_same m.site.0 (joined_state m p.latest (state_of p m.site)) p.sites)

-- a join that acted is remembered, since messages are numbered from 1
again-some : (p : PublisherTables) (m : Join) (found : Option SiteState) → at_number p.sites m.site.0 ≡ found → 1 ≤ m.seq → join_acts m p ≡ false → is_some found ≡ true
again-some p m None is low acts =
    let none : (state_of p m.site).joined_at ≡ 0 = ap (λ (found : Option SiteState). (unwrap_or found no_state).joined_at) is in
    absurd (grind (arith, nat_tests, acts, none, low))
again-some p m (Some state) is low acts = refl

pub again-remembered : (p : PublisherTables) (m : Join) → 1 ≤ m.seq → join_acts m p ≡ false → IsRemembered p m.site.0
again-remembered p m low acts = again-some p m (at_number p.sites m.site.0) refl low acts

-- a site asks
pub asked-rises : (p : PublisherTables) (m : Download) → Rises p (tables_after_download m p)
asked-rises p m = record {
  received = λ n. (let e = (asked-same m p).received n in omega (arith, e));
  closed = filling-rises p.gens.filling;
  states = λ n is. put-some p.sites m.site.0 n (state_after_download m p (state_of p m.site)) is;
}

-- An upload is taken.
abbrev taken_entry : Upload → Bool → ℕ × SiteState → ℕ × SiteState
taken_entry m b e = if b then (e.0, record e.1 { received = m.to; received_number = m.through }) else e

abbrev head_at : ℕ × SiteState → ℕ → Option SiteState → Option SiteState
head_at e n rest = cond (is_at (nat_cmp n) e.0) (Some e.1) rest

taken-head : (m : Upload) (e : ℕ × SiteState) (n : ℕ) (b : Bool) (rest more : Option SiteState) → is_some more ≡ is_some rest → is_some (head_at (taken_entry m b e) n more) ≡ is_some (head_at e n rest)
taken-head m e n true rest more h = grind (arith, h)
taken-head m e n false rest more h = grind (arith, h)

taken-some : (m : Upload) (sites : List (ℕ × SiteState)) (n : ℕ) → is_some (at_number (with_taken m sites) n) ≡ is_some (at_number sites n)
taken-some m [] n = refl
taken-some m (e ∷ sites) n = taken-head m e n (e.0 == m.site.0) (at_number sites n) (at_number (with_taken m sites) n) (taken-some m sites n)

if-up : (b : Bool) (to before x : ℕ) → x ≡ (if b then to else before) → (b ≡ true → before ≤ to) → before ≤ x
if-up true to before x is up = let below = up refl in omega (arith, is, below)
if-up false to before x is up = omega (arith, is)

same-of : (a b : ℕ) (c : Bool) → ((a == b) && c) ≡ true → b ≡ a
same-of a b c e = grind (arith, nat_tests, e)

pub upload-rises : (publication : Publication) (judge : PublisherJudge) (p : PublisherTables) (m : Upload) (acts : List Act) → received_by_number p m.site.0 < m.to → Rises p (taken_in publication judge m acts p)
upload-rises publication judge p m acts goes = record {
  received = λ n. if-up ((n == m.site.0) && is_some (at_number p.sites n)) m.to (received_by_number p n) (received_by_number (taken_in publication judge m acts p) n) (upload-received m acts p.sites n)
      (λ e. subst (λ (k : ℕ). received_by_number p k ≤ m.to) (same-of n m.site.0 (is_some (at_number p.sites n)) e) (omega (arith, goes)));
  closed = omega arith;
  states = λ n is. taken-some m (map (state_seeing acts) p.sites) n ∙ seeing-some acts p.sites n ∙ is;
}
