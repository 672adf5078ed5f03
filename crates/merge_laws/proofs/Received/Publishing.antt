-- What a step of the publisher does to the numbers of the sites, and to Done.
use Rattle.std.specs.Prelude.{◌≡◌, ◌≤◌, ◌==◌, ◌+◌, ◌-◌, ◌++◌, ◌&&◌, ◌||◌, ℕ, zero, suc, List, [], ◌∷◌, Bool, true, false, not, Option, Some, None, refl, if◌then◌else◌, filter, map, nat_le, nat_lt, cond, unwrap_or, option_map, max, is_some}
use Rattle.std.specs.List.{list_any, range_with_len, fold}
use Rattle.std.specs.BTreeMap.{is_at}
use Rattle.std.specs.Ordering.{nat_cmp}
use Rattle.std.proofs.Common.{arith, sym, ap, ◌∙◌}
use Rattle.std.proofs.lemmas.Bool.Decides.{nat_tests}
use Rattle.merge_types.specs.declared.identifiers.SiteId.{SiteId}
use Rattle.merge_gens.specs.declared.sites.SiteState.{SiteState}
use Rattle.merge_batch.specs.declared.request.Join.{Join}
use Rattle.merge_batch.specs.declared.request.Upload.{Upload}
use Rattle.merge_batch.specs.declared.request.Download.{Download}
use Rattle.merge_model.specs.Tables.{PublisherTables}
use Rattle.merge_model.specs.Tables.Keys.{at_number}
use Rattle.merge_model.specs.Judge.ByNumbers.{received_by_number, received_number_by_number}
use Rattle.merge_model.specs.Publisher.{state_of, no_state}
use Rattle.merge_model.specs.Publisher.PublisherJoin.{join_taken, joined_state}
use Rattle.merge_model.specs.Publisher.PublisherDownload.{state_after_download, tables_after_download}
use Rattle.merge_model.specs.Publisher.PublisherUpload.{with_taken, state_seeing}
use Rattle.merge_model.specs.Publisher.Acts.{Act}
use Rattle.merge_model.specs.History.{History, is_done}
use Rattle.merge_model.specs.History.Noting
use Rattle.merge_laws.specs.Facts.Received.{joined_at}
use Rattle.merge_model.proofs.Lists.Finding.{at_put_same, at_put_other}
use Rattle.merge_laws.proofs.Received.Subscribing.{same_number, number-decided}
use Rattle.merge_model.proofs.Lists.Tests.{numbers-same}

-- Done, with generations that join it

any-append : (test : ℕ × ℕ → Bool) (xs ys : List (ℕ × ℕ)) → list_any test (xs ++ ys) ≡ (list_any test xs || list_any test ys)
any-append test [] ys = refl
any-append test (x ∷ xs) ys = grind (arith, any-append test xs ys)

abbrev is_it : ℕ → ℕ → Bool
is_it generation g = g == generation

abbrev is_entry : ℕ → ℕ → ℕ × ℕ → Bool
is_entry n generation entry = (entry.0 == n) && (entry.1 == generation)

abbrev tag : ℕ → ℕ → ℕ × ℕ
tag site generation = (site, generation)

any-tagged : (site n generation : ℕ) (xs : List ℕ) → list_any (is_entry n generation) (map (tag site) xs) ≡ ((site == n) && list_any (is_it generation) xs)
any-tagged site n generation [] = grind (arith)
any-tagged site n generation (x ∷ xs) = grind (arith, any-tagged site n generation xs)

any-kept-step : (b : Bool) (generation x : ℕ) (kept xs : List ℕ) (keeps : Bool) → (x ≡ generation → b ≡ keeps) → list_any (is_it generation) kept ≡ (keeps && list_any (is_it generation) xs)
    → list_any (is_it generation) (cond b (x ∷ kept) kept) ≡ (keeps && list_any (is_it generation) (x ∷ xs))
any-kept-step true generation x kept xs keeps same h = grind (arith, nat_tests, same, h)
any-kept-step false generation x kept xs keeps same h = grind (arith, nat_tests, same, h)

any-kept : (keeps : ℕ → Bool) (generation : ℕ) (xs : List ℕ) → list_any (is_it generation) (filter keeps xs) ≡ (keeps generation && list_any (is_it generation) xs)
any-kept keeps generation [] = grind (arith)
any-kept keeps generation (x ∷ xs) = any-kept-step (keeps x) generation x (filter keeps xs) xs (keeps generation) (λ same. ap keeps same) (any-kept keeps generation xs)

any-range : (from n generation : ℕ) → list_any (is_it generation) (range_with_len from n) ≡ (nat_le from generation && nat_lt generation (from + n))
any-range from zero generation = grind (arith, nat_tests)
any-range from (suc n) generation = grind (arith, nat_tests, any-range (from + 1) n generation)

abbrev pub in_reach : ℕ → ℕ → ℕ → Bool
in_reach from to generation = nat_lt from generation && nat_le generation to

-- the truth of it, by what each part comes to
joined-truth : (whole d ds s t k r : Bool) (from to generation : ℕ) → whole ≡ (d || t) → t ≡ (s && k) → k ≡ (not ds && r) → r ≡ (nat_le (from + 1) generation && nat_lt generation (from + 1 + (to - from))) → from ≤ to
    → (s ≡ true → d ≡ ds) → whole ≡ (d || (s && in_reach from to generation))
joined-truth whole d ds s t k r from to generation a b c e up same = grind (arith, nat_tests, a, b, c, e, same)

-- a generation of the site has acted afterwards where it had, or where it lies in the interval
pub done-joins : (h : History) (site from to n generation : ℕ) → from ≤ to → is_done (Noting.with_done site from to h) n generation ≡ (is_done h n generation || ((site == n) && in_reach from to generation))
done-joins h site from to n generation up =
    let new : List ℕ = Noting.new_generations h site from to in
    joined-truth (is_done (Noting.with_done site from to h) n generation) (is_done h n generation) (is_done h site generation) (site == n)
    (list_any (is_entry n generation) (map (tag site) new)) (list_any (is_it generation) new) (list_any (is_it generation) (range_with_len (from + 1) (to - from))) from to generation
    (any-append (is_entry n generation) h.done (map (tag site) new)) (any-tagged site n generation new)
    (any-kept (λ (g : ℕ). not (is_done h site g)) generation (range_with_len (from + 1) (to - from))) (any-range (from + 1) (to - from) generation) up
    (λ same. ap (λ (k : ℕ). is_done h k generation) (sym (numbers-same site n same)))

-- The numbers of the sites.

-- a number that is kept of a site, 0 where none is
abbrev pub number_in : (SiteState → ℕ) → Option SiteState → ℕ
number_in field found = unwrap_or (option_map field found) 0

-- none of the numbers that a step reads has changed
pub record SameNumbers (p q : PublisherTables) : Type 0 where
  pub received : (n : ℕ) → received_by_number q n ≡ received_by_number p n
  pub number : (n : ℕ) → received_number_by_number q n ≡ received_number_by_number p n
  pub joined : (site : SiteId) → joined_at q site ≡ joined_at p site

pub same-sites : (p q : PublisherTables) → q.sites ≡ p.sites → SameNumbers p q
same-sites p q e = record {
  received = λ n. ap (λ (sites : List (ℕ × SiteState)). number_in (λ (state : SiteState). state.received) (at_number sites n)) e;
  number = λ n. ap (λ (sites : List (ℕ × SiteState)). number_in (λ (state : SiteState). state.received_number) (at_number sites n)) e;
  joined = λ site. ap (λ (sites : List (ℕ × SiteState)). (unwrap_or (at_number sites site.0) no_state).joined_at) e;
}

-- an ask moves the watermark alone
pub found-number : (field : SiteState → ℕ) → field no_state ≡ 0 → (found : Option SiteState) → field (unwrap_or found no_state) ≡ number_in field found
found-number field none None = none
found-number field none (Some x) = refl

pub asked-number : (field : SiteState → ℕ) → field no_state ≡ 0 → (m : Download) (p : PublisherTables) (n : ℕ) (b : Bool) → field (state_after_download m p (state_of p m.site)) ≡ field (state_of p m.site) → same_number n m.site.0 b
    → number_in field (at_number (tables_after_download m p).sites n) ≡ number_in field (at_number p.sites n)
asked-number field none m p n true kept same =
    let put = at_put_same m.site.0 (state_after_download m p (state_of p m.site)) p.sites in
    ap (λ (k : ℕ). number_in field (at_number (tables_after_download m p).sites k)) same
    ∙ ap (λ (found : Option SiteState). number_in field found) put
    ∙ kept
    ∙ found-number field none (at_number p.sites m.site.0)
    ∙ ap (λ (k : ℕ). number_in field (at_number p.sites k)) (sym same)
asked-number field none m p n false kept differs = ap (λ (found : Option SiteState). number_in field found) (at_put_other m.site.0 n (state_after_download m p (state_of p m.site)) p.sites differs)

asked-joined : (m : Download) (p : PublisherTables) (site : SiteId) (b : Bool) → same_number site.0 m.site.0 b → joined_at (tables_after_download m p) site ≡ joined_at p site
asked-joined m p site true same =
    ap (λ (k : ℕ). (unwrap_or (at_number (tables_after_download m p).sites k) no_state).joined_at) same
    ∙ ap (λ (found : Option SiteState). (unwrap_or found no_state).joined_at) (at_put_same m.site.0 (state_after_download m p (state_of p m.site)) p.sites)
    ∙ ap (λ (k : ℕ). (unwrap_or (at_number p.sites k) no_state).joined_at) (sym same)
asked-joined m p site false differs = ap (λ (found : Option SiteState). (unwrap_or found no_state).joined_at) (at_put_other m.site.0 site.0 (state_after_download m p (state_of p m.site)) p.sites differs)

pub asked-same : (m : Download) (p : PublisherTables) → SameNumbers p (tables_after_download m p)
asked-same m p = record {
  received = λ n. asked-number (λ (x : SiteState). x.received) refl m p n (n == m.site.0) refl (number-decided n m.site.0);
  number = λ n. asked-number (λ (x : SiteState). x.received_number) refl m p n (n == m.site.0) refl (number-decided n m.site.0);
  joined = λ site. asked-joined m p site (site.0 == m.site.0) (number-decided site.0 m.site.0);
}

-- a join that acts sets the numbers of its site
pub joined-number : (field : SiteState → ℕ) (m : Join) (p : PublisherTables) (n : ℕ) (b : Bool) → same_number n m.site.0 b
    → number_in field (at_number (join_taken m p).sites n) ≡ (if b then field (joined_state m p.latest (state_of p m.site)) else number_in field (at_number p.sites n))
joined-number field m p n true same =
    ap (λ (k : ℕ). number_in field (at_number (join_taken m p).sites k)) same
    ∙ ap (λ (found : Option SiteState). number_in field found) (at_put_same m.site.0 (joined_state m p.latest (state_of p m.site)) p.sites)
joined-number field m p n false differs = ap (λ (found : Option SiteState). number_in field found) (at_put_other m.site.0 n (joined_state m p.latest (state_of p m.site)) p.sites differs)

pub joined-received : (m : Join) (p : PublisherTables) (n : ℕ) (b : Bool) → same_number n m.site.0 b → received_by_number (join_taken m p) n ≡ (if b then m.generation else received_by_number p n)
joined-received m p n b same = joined-number (λ (x : SiteState). x.received) m p n b same

pub joined-change : (m : Join) (p : PublisherTables) (n : ℕ) (b : Bool) → same_number n m.site.0 b → received_number_by_number (join_taken m p) n ≡ (if b then m.number else received_number_by_number p n)
joined-change m p n b same = joined-number (λ (x : SiteState). x.received_number) m p n b same

pub joined-joined : (m : Join) (p : PublisherTables) (site : SiteId) (b : Bool) → same_number site.0 m.site.0 b → joined_at (join_taken m p) site ≡ (if b then m.seq else joined_at p site)
joined-joined m p site true same =
    ap (λ (k : ℕ). (unwrap_or (at_number (join_taken m p).sites k) no_state).joined_at) same
    ∙ ap (λ (found : Option SiteState). (unwrap_or found no_state).joined_at) (at_put_same m.site.0 (joined_state m p.latest (state_of p m.site)) p.sites)
joined-joined m p site false differs = ap (λ (found : Option SiteState). (unwrap_or found no_state).joined_at) (at_put_other m.site.0 site.0 (joined_state m p.latest (state_of p m.site)) p.sites differs)

-- an upload that acts sets how far its site was taken, where the site is known
abbrev seeing : List Act → ℕ → SiteState → SiteState
seeing acts n state = (state_seeing acts (n, state)).1

seeing-at : (acts : List Act) (es : List (ℕ × SiteState)) (n : ℕ) (P : Option SiteState → ℕ) → ((state : SiteState) (k : ℕ) → P (Some (seeing acts k state)) ≡ P (Some state)) → P (at_number (map (state_seeing acts) es) n) ≡ P (at_number es n)
seeing-at acts [] n P same = refl
seeing-at acts (e ∷ es) n P same = elim (is_at (nat_cmp n) e.0) as (λ (b : Bool). P (let found : Option SiteState = cond b (Some (seeing acts e.0 e.1)) (at_number (map (state_seeing acts) es) n) in found) ≡ P (let found : Option SiteState = cond b (Some e.1) (at_number es n) in found)) [
  | true ↦ same e.1 e.0
  | false ↦ seeing-at acts es n P same
]

pub seeing-some : (acts : List Act) (es : List (ℕ × SiteState)) (n : ℕ) → is_some (at_number (map (state_seeing acts) es) n) ≡ is_some (at_number es n)
seeing-some acts [] n = refl
seeing-some acts (e ∷ es) n = elim (is_at (nat_cmp n) e.0) as (λ (b : Bool). is_some (let found : Option SiteState = cond b (Some (seeing acts e.0 e.1)) (at_number (map (state_seeing acts) es) n) in found) ≡ is_some (let found : Option SiteState = cond b (Some e.1) (at_number es n) in found)) [
  | true ↦ refl
  | false ↦ seeing-some acts es n
]

abbrev taken_entry : Upload → Bool → ℕ × SiteState → ℕ × SiteState
taken_entry m b e = if b then (e.0, record e.1 { received = m.to; received_number = m.through }) else e

abbrev head_at : ℕ × SiteState → ℕ → Option SiteState → Option SiteState
head_at e n rest = cond (is_at (nat_cmp n) e.0) (Some e.1) rest

taken-head : (field : SiteState → ℕ) (v : ℕ) (m : Upload) (e : ℕ × SiteState) (n : ℕ) (b : Bool) → (e.0 == m.site.0) ≡ b → field (record e.1 { received = m.to; received_number = m.through }) ≡ v → (rest more : Option SiteState)
    → number_in field more ≡ (if (n == m.site.0) && is_some rest then v else number_in field rest)
    → number_in field (head_at (taken_entry m b e) n more) ≡ (if (n == m.site.0) && is_some (head_at e n rest) then v else number_in field (head_at e n rest))
taken-head field v m e n true eb set rest more h = grind (arith, nat_tests, eb, set, h)
taken-head field v m e n false eb set rest more h = grind (arith, nat_tests, eb, h)

taken-at : (field : SiteState → ℕ) (v : ℕ) (m : Upload) → ((state : SiteState) → field (record state { received = m.to; received_number = m.through }) ≡ v) → (es : List (ℕ × SiteState)) (n : ℕ)
    → number_in field (at_number (with_taken m es) n) ≡ (if (n == m.site.0) && is_some (at_number es n) then v else number_in field (at_number es n))
taken-at field v m set [] n = grind (arith)
taken-at field v m set (e ∷ es) n = taken-head field v m e n (e.0 == m.site.0) refl (set e.1) (at_number es n) (at_number (with_taken m es) n) (taken-at field v m set es n)

joined-head : (m : Upload) (e : ℕ × SiteState) (n : ℕ) (b : Bool) (rest more : Option SiteState) → (unwrap_or more no_state).joined_at ≡ (unwrap_or rest no_state).joined_at
    → (unwrap_or (head_at (taken_entry m b e) n more) no_state).joined_at ≡ (unwrap_or (head_at e n rest) no_state).joined_at
joined-head m e n true rest more h = grind (arith, h)
joined-head m e n false rest more h = grind (arith, h)

joined-kept : (m : Upload) (es : List (ℕ × SiteState)) (n : ℕ) → (unwrap_or (at_number (with_taken m es) n) no_state).joined_at ≡ (unwrap_or (at_number es n) no_state).joined_at
joined-kept m [] n = refl
joined-kept m (e ∷ es) n = joined-head m e n (e.0 == m.site.0) (at_number es n) (at_number (with_taken m es) n) (joined-kept m es n)

-- the sites after an upload's acts
abbrev pub sites_taken : Upload → List Act → List (ℕ × SiteState) → List (ℕ × SiteState)
sites_taken m acts sites = with_taken m (map (state_seeing acts) sites)

upload-number : (field : SiteState → ℕ) (v : ℕ) (m : Upload) (acts : List Act) → ((state : SiteState) → field (record state { received = m.to; received_number = m.through }) ≡ v) → ((state : SiteState) (k : ℕ) → field (seeing acts k state) ≡ field state)
    → (sites : List (ℕ × SiteState)) (n : ℕ) → number_in field (at_number (sites_taken m acts sites) n) ≡ (if (n == m.site.0) && is_some (at_number sites n) then v else number_in field (at_number sites n))
upload-number field v m acts set kept sites n =
    let seen = seeing-at acts sites n (λ (found : Option SiteState). number_in field found) kept in
    let some = seeing-some acts sites n in
    taken-at field v m set (map (state_seeing acts) sites) n
    ∙ ap (λ (b : Bool). if (n == m.site.0) && b then v else number_in field (at_number (map (state_seeing acts) sites) n)) some
    ∙ ap (λ (k : ℕ). if (n == m.site.0) && is_some (at_number sites n) then v else k) seen

pub upload-received : (m : Upload) (acts : List Act) (sites : List (ℕ × SiteState)) (n : ℕ)
    → number_in (λ (x : SiteState). x.received) (at_number (sites_taken m acts sites) n) ≡ (if (n == m.site.0) && is_some (at_number sites n) then m.to else number_in (λ (x : SiteState). x.received) (at_number sites n))
upload-received m acts sites n = upload-number (λ (x : SiteState). x.received) m.to m acts (λ state. refl) (λ state k. refl) sites n

pub upload-change : (m : Upload) (acts : List Act) (sites : List (ℕ × SiteState)) (n : ℕ)
    → number_in (λ (x : SiteState). x.received_number) (at_number (sites_taken m acts sites) n) ≡ (if (n == m.site.0) && is_some (at_number sites n) then m.through else number_in (λ (x : SiteState). x.received_number) (at_number sites n))
upload-change m acts sites n = upload-number (λ (x : SiteState). x.received_number) m.through m acts (λ state. refl) (λ state k. refl) sites n

pub upload-joined : (m : Upload) (acts : List Act) (sites : List (ℕ × SiteState)) (n : ℕ) → (unwrap_or (at_number (sites_taken m acts sites) n) no_state).joined_at ≡ (unwrap_or (at_number sites n) no_state).joined_at
upload-joined m acts sites n = joined-kept m (map (state_seeing acts) sites) n ∙ seeing-at acts sites n (λ (found : Option SiteState). (unwrap_or found no_state).joined_at) (λ state k. refl)

-- the greatest generation that has acted is the received one
pub greatest-step : (site most received : ℕ) (done : List (ℕ × ℕ)) → most ≤ received → ((generation : ℕ) → list_any (is_entry site generation) done ≡ true → generation ≤ received)
    → fold (λ (m : ℕ) (entry : ℕ × ℕ). if entry.0 == site then max m entry.1 else m) most done ≤ received
greatest-step site most received [] up each = up
greatest-step site most received (e ∷ done) up each =
    greatest-step site (if e.0 == site then max most e.1 else most) received done
    (grind (arith, nat_tests, up, each e.1)) (λ generation is. each generation (grind (arith, is)))

least-step : (site most generation : ℕ) (done : List (ℕ × ℕ)) → generation ≤ most → generation ≤ fold (λ (m : ℕ) (entry : ℕ × ℕ). if entry.0 == site then max m entry.1 else m) most done
least-step site most generation [] up = up
least-step site most generation (e ∷ done) up = least-step site (if e.0 == site then max most e.1 else most) generation done (grind (arith, nat_tests, up))

pub member-step : (site most generation : ℕ) (done : List (ℕ × ℕ)) → list_any (is_entry site generation) done ≡ true → generation ≤ fold (λ (m : ℕ) (entry : ℕ × ℕ). if entry.0 == site then max m entry.1 else m) most done
member-step site most generation [] is = absurd (grind (arith, is))
member-step site most generation (e ∷ done) is = elim (is_entry site generation e) as (λ (b : Bool). is_entry site generation e ≡ b → generation ≤ fold (λ (m : ℕ) (entry : ℕ × ℕ). if entry.0 == site then max m entry.1 else m) most (e ∷ done)) [
  | true ↦ (λ here. least-step site (if e.0 == site then max most e.1 else most) generation done (grind (arith, nat_tests, here)))
  | false ↦ (λ there. member-step site (if e.0 == site then max most e.1 else most) generation done (grind (arith, is, there)))
] refl
