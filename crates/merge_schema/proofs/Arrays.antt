-- Arrays beside the lists that contracts speak of.
use Rattle.std.proofs.Common.{◌≡◌, ℕ, ◌≤◌, length, List, [], ◌∷◌, map, Option, Some, option_map, Ok, Err, Bool, true, false, nat_le, le-leb, refl, sym, ap, subst, ◌∙◌}
use Rattle.std.specs.List.{list_all}
use Rattle.std.proofs.lemmas.List.{length-map}
use Rattle.std.proofs.lemmas.List.Folds.{list_all-map}
use Rattle.toml.specs.Data.{Data, as_array}
use Rattle.toml.specs.View.{view, items_of, items_view}
use Rattle.toml.specs.declared.value.Value.{Value}
use Rattle.merge_schema.specs.declared.fault.SchemaFault.TheVariants.{BadValue}
use Rattle.merge_schema.specs.FileValues.{list_of, as_list, is_table, tables_from, kept_if, not_above, or_bad}
use Rattle.merge_schema.specs.Steps.{◌>>=◌}

pub list_of-items_of : (ds : List Data) → list_of (items_of ds) ≡ ds
list_of-items_of [] = refl
list_of-items_of (d ∷ ds) = ap (λ es. d ∷ es) (list_of-items_of ds)

pub elements_seen : (d : Data) (vs : List Value) → Some (items_view vs) ≡ as_array d → Some (map view vs) ≡ as_list d
elements_seen d vs h = ap (λ ds. Some ds) (sym (list_of-items_of (map view vs))) ∙ ap (option_map list_of) h

pub tables_seen : (vs : List Value) → list_all is_table (map view vs) ≡ list_all (λ v. is_table (view v)) vs
tables_seen vs = list_all-map is_table view vs

-- a list of tables within its limits, and one that has something else
limited : (key : List ℕ) (least most : ℕ) (ds : List Data) (b : Bool) → nat_le least (length ds) ≡ true → nat_le (length ds) most ≡ true → list_all is_table ds ≡ b
    → (kept_if key (λ es. nat_le least (length es)) ds >>= not_above most key >>= kept_if key (list_all is_table)) ≡ kept_if key (λ es. b) ds
limited key least most ds b low high every = rw (low, high, every)

listed : (key : List ℕ) (least most : ℕ) (d : Data) (vs : List Value) (b : Bool) → Some (map view vs) ≡ as_list d → least ≤ length vs → length vs ≤ most → b ≡ list_all (λ v. is_table (view v)) vs
    → tables_from least most key d ≡ kept_if key (λ es. b) (map view vs)
listed key least most d vs b h low high every =
    let low' : nat_le least (length (map view vs)) ≡ true = le-leb least (length (map view vs)) (rw (length-map vs view) low) in
    let high' : nat_le (length (map view vs)) most ≡ true = le-leb (length (map view vs)) most (rw (length-map vs view) high) in
    let one = limited key least most (map view vs) b low' high' (tables_seen vs ∙ sym every) in
    subst (λ (o : Option (List Data)). (or_bad key o >>= kept_if key (λ es. nat_le least (length es)) >>= not_above most key >>= kept_if key (list_all is_table)) ≡ kept_if key (λ es. b) (map view vs)) h one

pub tables_read : (key : List ℕ) (d : Data) (least most : ℕ) (vs : List Value) → Some (map view vs) ≡ as_list d → least ≤ length vs → length vs ≤ most → true ≡ list_all (λ v. is_table (view v)) vs → tables_from least most key d ≡ Ok (map view vs)
tables_read key d least most vs h low high every = listed key least most d vs true h low high every

pub tables_unlike : (key : List ℕ) (d : Data) (least most : ℕ) (vs : List Value) → Some (map view vs) ≡ as_list d → least ≤ length vs → length vs ≤ most → false ≡ list_all (λ v. is_table (view v)) vs → tables_from least most key d ≡ Err (BadValue key)
tables_unlike key d least most vs h low high every = listed key least most d vs false h low high every
