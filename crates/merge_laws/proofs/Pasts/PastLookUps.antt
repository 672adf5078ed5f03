-- The pasts of each site, and the past of a row, after pasts are put and dropped.
use Rattle.std.specs.Prelude.{◌≡◌, ◌==◌, ℕ, List, [], Bool, true, false, Option, Some, None, refl, if◌then◌else◌, unwrap_or}
use Rattle.std.proofs.Common.{subst, sym, ap, ◌∙◌}
use Rattle.merge_model.specs.History.{Past, no_past, past_in, History, past_at, pasts_at}
use Rattle.merge_model.specs.Tables.Keys.{at_number, drop_row, put_number, put_row, row_at, same_key}
use Rattle.merge_model.specs.History.Noting
use Rattle.merge_types.specs.declared.row_key.RowKey.{RowKey as Key}
use Rattle.merge_laws.specs.Invariants.KnownMakers.{Ascend}
use Rattle.merge_model.proofs.Lists.Finding.{at_put_other, at_put_same}
use Rattle.merge_model.proofs.Lists.KeyLookUps.{row-dropped, row-left, row-put}
use Rattle.merge_laws.proofs.Received.Subscribing.{number-decided, same_number}

-- The pasts of each site.

abbrev pub rows_in : List (ℕ × List (Key × Past)) → ℕ → List (Key × Past)
rows_in pasts n = unwrap_or (at_number pasts n) []

pub put-here : (pasts : List (ℕ × List (Key × Past))) (n : ℕ) (rows : List (Key × Past)) → rows_in (put_number pasts n rows) n ≡ rows
put-here pasts n rows = ap (λ (found : Option (List (Key × Past))). unwrap_or found []) (at_put_same n rows pasts)

pub put-there : (pasts : List (ℕ × List (Key × Past))) (n : ℕ) (rows : List (Key × Past)) (m : ℕ) → (m ≡ n → ⊥) → rows_in (put_number pasts n rows) m ≡ rows_in pasts m
put-there pasts n rows m differs = ap (λ (found : Option (List (Key × Past))). unwrap_or found []) (at_put_other n m rows pasts differs)

site-cases : (S : ℕ → List (Key × Past) → Type 0) (pasts : List (ℕ × List (Key × Past))) (n : ℕ) (rows : List (Key × Past)) (m : ℕ) (b : Bool) → same_number m n b → S n rows → S m (rows_in pasts m) → S m (rows_in (put_number pasts n rows) m)
site-cases S pasts n rows m true same new old = subst (λ (k : ℕ). S k (rows_in (put_number pasts n rows) k)) (sym same) (subst (λ (found : List (Key × Past)). S n found) (sym (put-here pasts n rows)) new)
site-cases S pasts n rows m false differs new old = subst (λ (found : List (Key × Past)). S m found) (sym (put-there pasts n rows m differs)) old

-- what is said of each site's pasts
pub all-sites : (S : ℕ → List (Key × Past) → Type 0) (pasts : List (ℕ × List (Key × Past))) (n : ℕ) (rows : List (Key × Past)) → S n rows → ((m : ℕ) → S m (rows_in pasts m)) → (m : ℕ) → S m (rows_in (put_number pasts n rows) m)
all-sites S pasts n rows new old m = site-cases S pasts n rows m (m == n) (number-decided m n) new (old m)

-- The past of a row.

past-if : (b : Bool) (past : Past) (rest : Option Past) → unwrap_or (let found : Option Past = if b then Some past else rest in found) no_past ≡ (if b then past else unwrap_or rest no_past)
past-if true past rest = refl
past-if false past rest = refl

none-if : (b : Bool) (rest : Option Past) → unwrap_or (let found : Option Past = if b then None else rest in found) no_past ≡ (if b then no_past else unwrap_or rest no_past)
none-if true rest = refl
none-if false rest = refl

pub past-put : (rows : List (Key × Past)) (key : Key) (past : Past) (q : Key) → past_in (put_row rows key past) q ≡ (if same_key q key then past else past_in rows q)
past-put rows key past q = ap (λ (found : Option Past). unwrap_or found no_past) (row-put rows key past q) ∙ past-if (same_key q key) past (row_at rows q)

pub past-left : (pasts : List (Key × Past)) (key q : Key) → same_key q key ≡ false → past_in (drop_row pasts key) q ≡ past_in pasts q
past-left pasts key q other = ap (λ (found : Option Past). unwrap_or found no_past) (row-left q key pasts other)

pub past-dropped : (rows : List (Key × Past)) (key q : Key) → Ascend rows → past_in (drop_row rows key) q ≡ (if same_key q key then no_past else past_in rows q)
past-dropped rows key q sorted = ap (λ (found : Option Past). unwrap_or found no_past) (row-dropped rows key q sorted) ∙ none-if (same_key q key) (row_at rows q)

-- The past that a history has of a row at a site, after one is put or dropped.

pub with-past-same : (h : History) (site : ℕ) (key : Key) (past : Past) (q : Key) → past_at (Noting.with_past site key past h) site q ≡ (if same_key q key then past else past_at h site q)
with-past-same h site key past q = ap (λ (pasts : List (Key × Past)). past_in pasts q) (put-here h.pasts site (put_row (pasts_at h site) key past)) ∙ past-put (pasts_at h site) key past q

pub without-past-other : (h : History) (site : ℕ) (key q : Key) → same_key q key ≡ false → past_at (Noting.without_past site key h) site q ≡ past_at h site q
without-past-other h site key q differs = ap (λ (pasts : List (Key × Past)). past_in pasts q) (put-here h.pasts site (drop_row (pasts_at h site) key)) ∙ past-left (pasts_at h site) key q differs
