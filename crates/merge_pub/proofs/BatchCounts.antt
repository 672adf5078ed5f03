-- How many rows a batch has, generation by generation, and what a site does with them.
use Rattle.std.specs.Prelude.{◌≡◌, ◌<◌, ◌≤◌, ◌+◌, ◌-◌, ◌++◌, ◌&&◌, ℕ, suc, Bool, true, false, List, [], ◌∷◌, Option, Some, None, refl, cond, count_by, filter, filter_map, get_or, is_some, length, map, min, nat_le, nat_lt, option_map, take}
use Rattle.std.specs.List.{cons_option}
use Rattle.std.specs.Option.{option_to_list}
use Rattle.std.proofs.Common.{arith, sym, ap, ◌∙◌, add-one, length-append, subst}
use Rattle.std.proofs.Math.Seq.{take-suc}
use Rattle.std.proofs.lemmas.Bool.Decides.{nat_tests}
use Rattle.std.proofs.lemmas.List.{take_all}
use Rattle.std.proofs.lemmas.List.Elements.{filter_map-append}
use Rattle.std.proofs.lemmas.List.Sums.{length-filter, sum_by-cons}
use Rattle.merge_types.specs.Limits.{generation_limit, item_limit}
use Rattle.merge_types.specs.declared.identifiers.SiteId.{SiteId}
use Rattle.merge_types.specs.declared.row_key.RowKey.{RowKey as Key}
use Rattle.merge_batch.specs.declared.reply.DownloadItem.{DownloadItem}
use Rattle.merge_schema.specs.declared.publication.Publication.{Publication}
use Rattle.merge_model.specs.Judge.ByNumbers.{by_numbers, touch_by_mapping}
use Rattle.merge_model.specs.Tables.Keys.{has_key}
use Rattle.merge_model.specs.Publisher.PublisherDownload.{TouchedRow, batch_end, inside_keys, is_between, item_of, touched_rows}
use Rattle.merge_model.specs.Tables.{PublisherTables}
use Rattle.merge_pub.specs.Touches.{HasTouched, is_in_between, item_at, item_between, kept_if, touched_between, touched_up_to}
use Rattle.merge_pub.specs.Walks.{walk}
use Rattle.merge_pub.proofs.Walks.{batch-walk}

-- What is given of one more.

one-of : {Y : Type 0} (found : Option Y) → cons_option found [] ≡ option_to_list found
one-of None = refl
one-of (Some y) = refl

one-given : {X Y : Type 0} (f : X → Option Y) (x : X) → filter_map f (x ∷ []) ≡ option_to_list (f x)
one-given f x = one-of (f x)

pub given-more : {X Y : Type 0} (f : X → Option Y) (xs : List X) (i : ℕ) (d : X) → i < length xs → filter_map f (take (i + 1) xs) ≡ filter_map f (take i xs) ++ option_to_list (f (get_or xs i d))
given-more f xs i d less =
    ap (λ (n : ℕ). filter_map f (take n xs)) (add-one i)
    ∙ ap (filter_map f) (take-suc xs i d less)
    ∙ filter_map-append f (take i xs) (get_or xs i d ∷ [])
    ∙ ap (λ (ys : List _). filter_map f (take i xs) ++ ys) (one-given f (get_or xs i d))

-- a list of what is given so far, with what is given of one more
pub given-step : {X Y : Type 0} (f : X → Option Y) (xs : List X) (i : ℕ) (d : X) (items new : List Y) → i < length xs → items ≡ filter_map f (take i xs) → new ≡ items ++ option_to_list (f (get_or xs i d)) → new ≡ filter_map f (take (i + 1) xs)
given-step f xs i d items new less so_far is = is ∙ ap (λ (ys : List _). ys ++ option_to_list (f (get_or xs i d))) so_far ∙ sym (given-more f xs i d less)

one-or-none : {Y : Type 0} (found : Option Y) → length (option_to_list found) ≡ cond (is_some found) 1 0
one-or-none None = refl
one-or-none (Some y) = refl

pub count-more : {X Y : Type 0} (f : X → Option Y) (xs : List X) (i : ℕ) (d : X) → i < length xs → length (filter_map f (take (i + 1) xs)) ≡ length (filter_map f (take i xs)) + cond (is_some (f (get_or xs i d))) 1 0
count-more f xs i d less =
    ap length (given-more f xs i d less)
    ∙ length-append (filter_map f (take i xs)) (option_to_list (f (get_or xs i d)))
    ∙ ap (λ (n : ℕ). length (filter_map f (take i xs)) + n) (one-or-none (f (get_or xs i d)))

some-map : {X Y : Type 0} (g : X → Y) (found : Option X) → is_some (option_map g found) ≡ is_some found
some-map g None = refl
some-map g (Some x) = refl

-- the rows so far are counted
pub record Counting (publication : Publication) (p : PublisherTables) (site : SiteId) (from to : ℕ) (keys : List Key) (at count : ℕ) : Type 0 where
  pub counted : count ≡ length (filter_map (touched_between publication p site from to) (take at keys))
  pub bound : count ≤ at

within : (b : Bool) (count at : ℕ) → count ≤ at → count + cond b 1 0 ≤ at + 1
within true count at e = omega (arith, e)
within false count at e = omega (arith, e)

pub counting-step : (publication : Publication) (p : PublisherTables) (site : SiteId) (from to : ℕ) (keys : List Key) (at count one : ℕ) (d : Key) → at < length keys
    → one ≡ cond (is_some (is_in_between publication p site from to (get_or keys at d))) 1 0 → Counting publication p site from to keys at count → Counting publication p site from to keys (at + 1) (count + one)
counting-step publication p site from to keys at count one d less is so_far =
    let f : Key → Option TouchedRow = touched_between publication p site from to in
    let b : Bool = is_some (f (get_or keys at d)) in
    let this : one ≡ cond b 1 0 = is ∙ ap (λ (c : Bool). cond c 1 0) (some-map (λ (row : TouchedRow). row.is_in) (f (get_or keys at d))) in
    let more : length (filter_map f (take (at + 1) keys)) ≡ length (filter_map f (take at keys)) + cond b 1 0 = count-more f keys at d less in
    record {
      counted = ap (λ (n : ℕ). count + n) this ∙ ap (λ (n : ℕ). n + cond b 1 0) so_far.counted ∙ sym more;
      bound = subst (λ (n : ℕ). count + n ≤ at + 1) (sym this) (within b count at so_far.bound);
    }

pub counting-end : (publication : Publication) (p : PublisherTables) (site : SiteId) (from to : ℕ) (keys : List Key) (at count : ℕ) → length keys ≤ at → Counting publication p site from to keys at count
    → count ≡ length (filter_map (touched_between publication p site from to) keys)
counting-end publication p site from to keys at count all so_far = so_far.counted ∙ ap (λ (ks : List Key). length (filter_map (touched_between publication p site from to) ks)) (take_all at keys all)

-- as many as were touched
pub touched-count : (publication : Publication) (p : PublisherTables) (site : SiteId) (from to : ℕ) (keys : List Key) → HasTouched publication p site from to keys
    → length (filter_map (touched_between publication p site from to) keys) ≡ touched_up_to publication p site from to
touched-count publication p site from to keys has = ap length (sym has) ∙ length-filter (is_between from to) (touched_rows publication (by_numbers p) site p)

-- From one generation to the next.

pub count-cons : {X : Type 0} (test : X → Bool) (x : X) (xs : List X) → count_by test (x ∷ xs) ≡ cond (test x) 1 0 + count_by test xs
count-cons {X = X} test x xs = sum_by-cons (λ (y : X). cond (test y) 1 0) x xs

up-to : (from mid to g : ℕ) (a b : ℕ) → from ≤ mid → mid ≤ to → cond (nat_lt from g && nat_le g to) 1 0 + (a + b) ≡ (cond (nat_lt from g && nat_le g mid) 1 0 + a) + (cond (nat_lt mid g && nat_le g to) 1 0 + b)
up-to from mid to g a b low high = grind (arith, nat_tests, low, high)

pub between-more : (from mid to : ℕ) (rows : List TouchedRow) → from ≤ mid → mid ≤ to → count_by (is_between from to) rows ≡ count_by (is_between from mid) rows + count_by (is_between mid to) rows
between-more from mid to [] low high = refl
between-more from mid to (row ∷ rows) low high =
    count-cons (is_between from to) row rows
    ∙ ap (λ (n : ℕ). cond (is_between from to row) 1 0 + n) (between-more from mid to rows low high)
    ∙ up-to from mid to row.generation (count_by (is_between from mid) rows) (count_by (is_between mid to) rows) low high
    ∙ sym (ap (λ (n : ℕ). n + count_by (is_between mid to) (row ∷ rows)) (count-cons (is_between from mid) row rows)
    ∙ ap (λ (n : ℕ). (cond (is_between from mid row) 1 0 + count_by (is_between from mid) rows) + n) (count-cons (is_between mid to) row rows))

none-here : (from g n : ℕ) → n ≡ 0 → cond (nat_lt from g && nat_le g from) 1 0 + n ≡ 0
none-here from g n none = grind (arith, nat_tests, none)

none-between : (from : ℕ) (rows : List TouchedRow) → count_by (is_between from from) rows ≡ 0
none-between from [] = refl
none-between from (row ∷ rows) = count-cons (is_between from from) row rows ∙ none-here from row.generation (count_by (is_between from from) rows) (none-between from rows)

not-less : (from a b g m n : ℕ) → a ≤ b → m ≤ n → cond (nat_lt from g && nat_le g a) 1 0 + m ≤ cond (nat_lt from g && nat_le g b) 1 0 + n
not-less from a b g m n up more = grind (arith, nat_tests, up, more)

between-rises : (from a b : ℕ) (rows : List TouchedRow) → a ≤ b → count_by (is_between from a) rows ≤ count_by (is_between from b) rows
between-rises from a b [] up = omega arith
between-rises from a b (row ∷ rows) up =
    let both = not-less from a b row.generation (count_by (is_between from a) rows) (count_by (is_between from b) rows) up (between-rises from a b rows up) in
    subst (λ (n : ℕ). n ≤ count_by (is_between from b) (row ∷ rows)) (sym (count-cons (is_between from a) row rows))
    (subst (λ (n : ℕ). cond (is_between from a row) 1 0 + count_by (is_between from a) rows ≤ n) (sym (count-cons (is_between from b) row rows)) both)

-- A walk that has come to a generation, with what it has counted.
pub record Reaching (f : ℕ → ℕ) (whole to end count : ℕ) : Type 0 where
  pub counted : count ≡ f to
  pub small : count ≤ item_limit
  pub rest : whole ≡ walk f to (end - to)

reach-more : (f : ℕ → ℕ) (to n m : ℕ) → n ≡ suc m → nat_le (f (to + 1)) item_limit ≡ true → walk f to n ≡ walk f (to + 1) m
reach-more f to n m is fits = ap (walk f to) is ∙ ap (λ (b : Bool). (let end : ℕ = cond b (walk f (to + 1) m) to in end)) fits

reach-none : (f : ℕ → ℕ) (to n m : ℕ) → n ≡ suc m → nat_le (f (to + 1)) item_limit ≡ false → walk f to n ≡ to
reach-none f to n m is over = ap (walk f to) is ∙ ap (λ (b : Bool). (let end : ℕ = cond b (walk f (to + 1) m) to in end)) over

module _ (publication : Publication) (p : PublisherTables) (site : SiteId) (from last : ℕ) where
  abbrev f : ℕ → ℕ
  f = touched_up_to publication p site from

  abbrev whole : ℕ
  whole = batch_end f from last

  pub reach-start : (end : ℕ) → from ≤ last → end ≡ from + min generation_limit (last - from) → Reaching f whole from end 0
  reach-start end order is = record {
    counted = sym (none-between from (touched_rows publication (by_numbers p) site p));
    small = omega arith;
    rest =
        batch-walk f (λ a b up. between-rises from a b (touched_rows publication (by_numbers p) site p) up) from last
        ∙ ap (walk f from) (let same : min generation_limit (last - from) ≡ end - from = omega (arith, is) in same);
  }

  next-is : (to count more : ℕ) → from ≤ to → count ≡ f to → more ≡ count_by (is_between to (to + 1)) (touched_rows publication (by_numbers p) site p) → count + more ≡ f (to + 1)
  next-is to count more low counted is =
      ap (λ (n : ℕ). n + more) counted ∙ ap (λ (n : ℕ). f to + n) is ∙ sym (between-more from to (to + 1) (touched_rows publication (by_numbers p) site p) low (omega arith))

  pub reach-step : (to end count more : ℕ) → from ≤ to → to < end → more ≡ count_by (is_between to (to + 1)) (touched_rows publication (by_numbers p) site p) → more ≤ item_limit - count
      → Reaching f whole to end count → Reaching f whole (to + 1) end (count + more)
  reach-step to end count more low less is within so_far =
      let fits : count + more ≤ item_limit = (let small = so_far.small in omega (arith, within, small)) in
      let next : count + more ≡ f (to + 1) = next-is to count more low so_far.counted is in
      let passes : nat_le (f (to + 1)) item_limit ≡ true = grind (arith, nat_tests, next, fits) in
      let steps : end - to ≡ suc (end - (to + 1)) = omega (arith, less) in
      record {
        counted = next;
        small = fits;
        rest = so_far.rest ∙ reach-more f to (end - to) (end - (to + 1)) steps passes;
      }

  pub reach-stop : (to end count more : ℕ) → from ≤ to → to < end → more ≡ count_by (is_between to (to + 1)) (touched_rows publication (by_numbers p) site p) → item_limit - count < more → Reaching f whole to end count → to ≡ whole
  reach-stop to end count more low less is above so_far =
      let over : item_limit < count + more = omega (arith, above) in
      let next : count + more ≡ f (to + 1) = next-is to count more low so_far.counted is in
      let fails : nat_le (f (to + 1)) item_limit ≡ false = grind (arith, nat_tests, next, over) in
      let steps : end - to ≡ suc (end - (to + 1)) = omega (arith, less) in
      sym (so_far.rest ∙ reach-none f to (end - to) (end - (to + 1)) steps fails)

  pub reach-end : (to end count : ℕ) → to ≤ end → end ≤ to → Reaching f whole to end count → end ≡ whole
  reach-end to end count low high so_far =
      let same : end ≡ to = omega (arith, low, high) in
      let none : end - to ≡ 0 = omega (arith, high) in
      same ∙ sym (so_far.rest ∙ ap (walk f to) none)

-- What a site does with the rows.

kept-item : (p : PublisherTables) (from to : ℕ) (key : Key) (is_in : Bool) (g : ℕ) (b : Bool)
    → (let row : Option TouchedRow = cond b (Some (record { key = key; is_in = is_in; generation = g })) None in option_map (item_of p) row ≡ option_map (item_at p key) (option_map (λ (r : TouchedRow). r.is_in) row))
kept-item p from to key is_in g true = refl
kept-item p from to key is_in g false = refl

found-item : (p : PublisherTables) (from to : ℕ) (key : Key) (is_in : Bool) (found : Option ℕ)
    → (let row : Option TouchedRow = kept_if (is_between from to) (option_map (λ (g : ℕ). (let r : TouchedRow = record { key = key; is_in = is_in; generation = g } in r)) found) in option_map (item_of p) row ≡ option_map (item_at p key) (option_map (λ (r : TouchedRow). r.is_in) row))
found-item p from to key is_in None = refl
found-item p from to key is_in (Some g) = kept-item p from to key is_in g (nat_lt from g && nat_le g to)

item-is : (publication : Publication) (p : PublisherTables) (site : SiteId) (from to : ℕ) (key : Key) → option_map (item_of p) (touched_between publication p site from to key) ≡ item_between publication p site from to key
item-is publication p site from to key =
    let is_in : Bool = has_key (inside_keys publication site p) key in
    found-item p from to key is_in (touch_by_mapping p key site.0 is_in)

cons-map : {X Y : Type 0} (g : X → Y) (found : Option X) (rest : List X) (more : List Y) → map g rest ≡ more → map g (cons_option found rest) ≡ cons_option (option_map g found) more
cons-map g None rest more same = same
cons-map g (Some x) rest more same = ap (λ (ys : List _). g x ∷ ys) same

given-items : (publication : Publication) (p : PublisherTables) (site : SiteId) (from to : ℕ) (keys : List Key) → map (item_of p) (filter_map (touched_between publication p site from to) keys) ≡ filter_map (item_between publication p site from to) keys
given-items publication p site from to [] = refl
given-items publication p site from to (key ∷ keys) =
    cons-map (item_of p) (touched_between publication p site from to key) (filter_map (touched_between publication p site from to) keys) (filter_map (item_between publication p site from to) keys) (given-items publication p site from to keys)
    ∙ ap (λ (found : Option DownloadItem). cons_option found (filter_map (item_between publication p site from to) keys)) (item-is publication p site from to key)

pub items-all : (publication : Publication) (p : PublisherTables) (site : SiteId) (from to : ℕ) (keys : List Key) (items : List DownloadItem) → HasTouched publication p site from to keys
    → items ≡ filter_map (item_between publication p site from to) keys → items ≡ map (item_of p) (filter (is_between from to) (touched_rows publication (by_numbers p) site p))
items-all publication p site from to keys items has is = is ∙ sym (given-items publication p site from to keys) ∙ ap (map (item_of p)) (sym has)
