-- What is written is read again, and what is read was written so: a key and a value, and a row of the conflict table.
use Rattle.std.proofs.Common.{◌≡◌, ◌∙◌, ℕ, zero, suc, ◌^◌, ◌<◌, ◌≤◌, ◌==◌, false, List, Option, Some, None, refl, sym, ap, subst, arith}
use Rattle.std.specs.Option.{option_map}
use Rattle.std.specs.Int.{w8, w16, w64, to_be_bytes}
use Rattle.std.proofs.lemmas.Bool.Decides.{nat_tests}
use Rattle.merge_conflict.specs.Kinds.{number_of_kind, kind_of_number}
use Rattle.merge_conflict.specs.declared.kind.ConflictKind.{ConflictKind}
use Rattle.merge_conflict.specs.declared.kind.ConflictKind.TheVariants.{Discarded, RowUpdate, ColumnUpdate, DeleteWins, UpdateWins}
use Rattle.merge_conflict.specs.declared.row.ConflictRow.{ConflictRow}
use Rattle.merge_ports.specs.declared.entry.EntryKey.{EntryKey}
use Rattle.merge_record.specs.Reading.{◌>>=◌, Reader, number_at, whole_of}
use Rattle.merge_record.specs.Codec.{IsBelow, IsBytes, IsCodec}
use Rattle.merge_record.proofs.Codecs.{bind_some, number, record_again, record_found, some_is, wide8, wide16, wide64}
use Rattle.merge_keeper.specs.Entries.{conflict_bytes, in_table}
use Rattle.merge_keeper.specs.Start.{conflict_reading, conflict_row, pair_reading, row_of_kind}
use Rattle.merge_keeper.specs.States.{conflict_at, conflict_spelling, IsConflict}
use Rattle.merge_keeper.specs.SubscriberRules.{value_of}
use Rattle.merge_keeper.specs.declared.states.ConflictValue.{ConflictValue}
use Rattle.merge_keeper.proofs.StateCodecs.{conflict_is}

-- ---- what is written is read again

pub again : {A : Type 0} (s : A → List ℕ) (r : Reader A) (F : A → Type 0) → IsCodec s r F → (a : A) → F a → whole_of (r (s a)) ≡ Some a
again s r F p a fits = record_again s r F p (s a) a (fits, refl)

pub pair_again : {K V : Type 0} (s : K → List ℕ) (t : V → List ℕ) (r : Reader K) (q : Reader V) (F : K → Type 0) (G : V → Type 0) → IsCodec s r F → IsCodec t q G → (k : K) (v : V) → F k → G v → pair_reading r q (s k) (t v) ≡ Some (k, v)
pair_again {K = K} {V = V} s t r q F G p g k v fk gv =
    ap (λ (o : Option K). o >>= λ k. whole_of (q (t v)) >>= λ v. (let x : Option (K × V) = Some (k, v) in x)) (again s r F p k fk)
    ∙ ap (λ (o : Option V). o >>= λ v. (let x : Option (K × V) = Some (k, v) in x)) (again t q G g v gv)

pub num8 : IsCodec (to_be_bytes w8) (number_at w8) (IsBelow (2 ^ 8))
num8 = number w8 (2 ^ 8) wide8

pub num16 : IsCodec (to_be_bytes w16) (number_at w16) (IsBelow (2 ^ 16))
num16 = number w16 (2 ^ 16) wide16

pub num64 : IsCodec (to_be_bytes w64) (number_at w64) (IsBelow (2 ^ 64))
num64 = number w64 (2 ^ 64) wide64

kind_back : (kind : ConflictKind) → kind_of_number (number_of_kind kind) ≡ Some kind
kind_back Discarded = refl
kind_back RowUpdate = refl
kind_back ColumnUpdate = refl
kind_back DeleteWins = refl
kind_back UpdateWins = refl

pub conflict_again : (row : ConflictRow) → row.number < 2 ^ 64 → IsConflict (value_of row) → conflict_reading (to_be_bytes w64 row.number) (conflict_bytes row) ≡ Some row
conflict_again row hn hv =
    ap (λ (o : Option (ℕ × ConflictValue)). o >>= λ p. conflict_row p.0 p.1) (pair_again (to_be_bytes w64) conflict_spelling (number_at w64) conflict_at (IsBelow (2 ^ 64)) IsConflict num64 conflict_is row.number (value_of row) hn hv)
    ∙ ap (λ (o : Option ConflictKind). option_map (row_of_kind row.number (value_of row)) o) (kind_back row.kind)

-- ---- what is read was written so

pub mapped_some : {X Y : Type 0} (f : X → Y) (o : Option X) (y : Y) → option_map f o ≡ Some y → (x : X) × (o ≡ Some x) × (f x ≡ y)
mapped_some f None y e = absurd cc
mapped_some f (Some x) y e = (x, refl, some_is (f x) y e)

-- the entry in a table with the key and the value of a record
pub in_entry : (table : ℕ) (key key' value value' : List ℕ) → key ≡ key' → value ≡ value' → (let e : EntryKey × List ℕ = (in_table table key, value) in e) ≡ (in_table table key', value')
in_entry table key key' value value' k v =
    ap (λ (l : List ℕ). (let e : EntryKey × List ℕ = (in_table table l, value) in e)) k ∙ ap (λ (l : List ℕ). (let e : EntryKey × List ℕ = (in_table table key', l) in e)) v

-- a key and a value
pub record PairFound {K V : Type 0} (s : K → List ℕ) (t : V → List ℕ) (F : K → Type 0) (G : V → Type 0) (key value : List ℕ) (k : K) (v : V) : Type 0 where
  pub key_fits : F k
  pub value_fits : G v
  pub key_is : key ≡ s k
  pub value_is : value ≡ t v

pub pair_found : {K V : Type 0} (s : K → List ℕ) (t : V → List ℕ) (r : Reader K) (q : Reader V) (F : K → Type 0) (G : V → Type 0) → IsCodec s r F → IsCodec t q G
    → (key value : List ℕ) → IsBytes key → IsBytes value → (p : K × V) → pair_reading r q key value ≡ Some p → PairFound s t F G key value p.0 p.1
pair_found {K = K} {V = V} s t r q F G c d key value bk bv p e =
    let k = bind_some (whole_of (r key)) (λ k. whole_of (q value) >>= λ v. (let x : Option (K × V) = Some (k, v) in x)) p e in
    let v = bind_some (whole_of (q value)) (λ v. (let x : Option (K × V) = Some (k.0, v) in x)) p k.2 in
    let is : (k.0, v.0) ≡ p = some_is (k.0, v.0) p v.2 in
    let first : k.0 ≡ p.0 = ap (λ (x : K × V). x.0) is in
    let second : v.0 ≡ p.1 = ap (λ (x : K × V). x.1) is in
    let a = record_found s r F c key bk p.0 (k.1 ∙ ap (λ (x : K). (let o : Option K = Some x in o)) first) in
    let b = record_found t q G d value bv p.1 (v.1 ∙ ap (λ (x : V). (let o : Option V = Some x in o)) second) in
    record { key_fits = a.0; value_fits = b.0; key_is = a.1; value_is = b.1 }

above_four : (n m : ℕ) → m ≤ 4 → (suc (suc (suc (suc (suc n)))) == m) ≡ false
above_four n m within = grind (arith, nat_tests, within)

no_kind : (n : ℕ) → kind_of_number (suc (suc (suc (suc (suc n))))) ≡ None
no_kind n = rw (above_four n 0 (omega arith), above_four n 1 (omega arith), above_four n 2 (omega arith), above_four n 3 (omega arith), above_four n 4 (omega arith)) refl

kind_found : (n : ℕ) (kind : ConflictKind) → kind_of_number n ≡ Some kind → number_of_kind kind ≡ n
kind_found zero kind e = ap number_of_kind (sym (some_is Discarded kind e))
kind_found (suc zero) kind e = ap number_of_kind (sym (some_is RowUpdate kind e))
kind_found (suc (suc zero)) kind e = ap number_of_kind (sym (some_is ColumnUpdate kind e))
kind_found (suc (suc (suc zero))) kind e = ap number_of_kind (sym (some_is DeleteWins kind e))
kind_found (suc (suc (suc (suc zero)))) kind e = ap number_of_kind (sym (some_is UpdateWins kind e))
kind_found (suc (suc (suc (suc (suc n))))) kind e = let no = sym (no_kind n) ∙ e in absurd cc

-- a row of the conflict table
pub record ConflictFound (key value : List ℕ) (row : ConflictRow) : Type 0 where
  pub number_fits : row.number < 2 ^ 64
  pub value_fits : IsConflict (value_of row)
  pub key_is : key ≡ to_be_bytes w64 row.number
  pub value_is : value ≡ conflict_bytes row

row_found : (key value : List ℕ) (n : ℕ) (v : ConflictValue) (kind : ConflictKind) → PairFound (to_be_bytes w64) conflict_spelling (IsBelow (2 ^ 64)) IsConflict key value n v → kind_of_number v.head.kind ≡ Some kind → ConflictFound key value (row_of_kind n v kind)
row_found key value n v kind p e =
    let same : v ≡ value_of (row_of_kind n v kind) = ap (λ (m : ℕ). record v { head = record v.head { kind = m } }) (sym (kind_found v.head.kind kind e)) in
    record {
      number_fits = p.key_fits;
      value_fits = subst IsConflict same p.value_fits;
      key_is = p.key_is;
      value_is = p.value_is ∙ ap conflict_spelling same;
    }

pub conflict_found : (key value : List ℕ) → IsBytes key → IsBytes value → (row : ConflictRow) → conflict_reading key value ≡ Some row → ConflictFound key value row
conflict_found key value bk bv row e =
    let p = bind_some (pair_reading (number_at w64) conflict_at key value) (λ p. conflict_row p.0 p.1) row e in
    let pair = pair_found (to_be_bytes w64) conflict_spelling (number_at w64) conflict_at (IsBelow (2 ^ 64)) IsConflict num64 conflict_is key value bk bv p.0 p.1 in
    let k = mapped_some (row_of_kind p.0.0 p.0.1) (kind_of_number p.0.1.head.kind) row p.2 in
    subst (ConflictFound key value) k.2 (row_found key value p.0.0 p.0.1 k.0 pair k.1)
