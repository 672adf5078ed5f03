-- Reports of rows, row by row.
use Rattle.std.proofs.Common.{◌≡◌, ◌≤◌, ◌<◌, ◌+◌, ◌++◌, ℕ, Bool, true, false, cond, List, [], ◌∷◌, Option, Some, None, count_by, length, map, sum_by, refl, ap, sym, ◌∙◌, arith}
use Rattle.std.specs.List.{cons_option, filter, flat_map, range_with_len}
use Rattle.std.proofs.lemmas.List.{append-nil}
use Rattle.std.proofs.lemmas.List.FromFn.{map-range_with_len_more}
use Rattle.std.proofs.lemmas.List.Sums.{count_by-le-length, sum_by-cons}
use Rattle.merge_types.specs.declared.row_key.RowKey.{RowKey}
use Rattle.merge_units.specs.declared.site_row.PublisherRow.{PublisherRow}
use Rattle.merge_units.specs.declared.site_row.SubscriberRow.{SubscriberRow}
use Rattle.merge_units.specs.declared.version.Version.{Version}
use Rattle.merge_schema.specs.Partition.{LiveRow}
use Rattle.merge_schema.specs.declared.publication.Publication.{Publication}
use Rattle.merge_model.specs.Publisher.Entries.{live_row}
use Rattle.merge_model.specs.World.Reports.{counts_of, is_of_article, shown_rows}
use Rattle.merge_model.specs.Tables.{PublisherTables, SubscriberTables}
use Rattle.merge_model.specs.declared.answer.Answer.TheVariants as answer
use Rattle.merge_model.specs.declared.answer.ShownRow.{ShownRow}
use Rattle.merge_world.specs.Reports.{live_in, publisher_told, row_if_alive, subscriber_told}
use Rattle.merge_world.specs.declared.reports.Report.{Report}
use Rattle.merge_world.specs.declared.reports.Report.TheVariants.{Counts}

module _ (article : ℕ) where
  abbrev show : LiveRow → ShownRow
  show row = record { row = row.row; values = row.values }

  chosen : (b : Bool) (row : LiveRow) (rest : List LiveRow) → map show (cond b (row ∷ rest) rest) ≡ map show (cond b (row ∷ []) []) ++ map show rest
  chosen true row rest = refl
  chosen false row rest = refl

  shown-first : (row : Option LiveRow) (rest : List LiveRow) → shown_rows article (cons_option row rest) ≡ shown_rows article (row_if_alive row) ++ shown_rows article rest
  shown-first None rest = refl
  shown-first (Some row) rest = chosen (is_of_article article row) row (filter (is_of_article article) rest)

  -- 1 for a live row of the article
  abbrev test : LiveRow → ℕ
  test row = cond (is_of_article article row) 1 0

  counted-one : (row : LiveRow) (rest : List LiveRow) → sum_by test (row ∷ rest) ≡ sum_by test (row ∷ []) + sum_by test rest
  counted-one row rest =
      let all = sum_by-cons test row rest in
      let alone = sum_by-cons test row [] in
      let none : sum_by test [] ≡ 0 = refl in
      omega (arith, all, alone, none)

  counted-first : (row : Option LiveRow) (rest : List LiveRow) → count_by (is_of_article article) (cons_option row rest) ≡ count_by (is_of_article article) (row_if_alive row) + count_by (is_of_article article) rest
  counted-first None rest = omega arith
  counted-first (Some row) rest = counted-one row rest

  few : (row : Option LiveRow) → count_by (is_of_article article) (row_if_alive row) ≤ 1
  few None = omega arith
  few (Some row) = count_by-le-length (is_of_article article) (row ∷ [])

  module _ {R : Type 0} (version : R → Version) where
    -- what one row has for the report
    abbrev pub part : RowKey × R → List ShownRow
    part row = shown_rows article (row_if_alive (live_row row.0 (version row.1).body))

    abbrev pub one : RowKey × R → ℕ
    one row = count_by (is_of_article article) (row_if_alive (live_row row.0 (version row.1).body))

    shown-all : (rows : List (RowKey × R)) → flat_map part rows ≡ shown_rows article (live_in version rows)
    shown-all [] = refl
    shown-all (row ∷ rest) = ap (λ (l : List ShownRow). part row ++ l) (shown-all rest) ∙ sym (shown-first (live_row row.0 (version row.1).body) (live_in version rest))

    counted-all : (rows : List (RowKey × R)) → sum_by one rows ≡ count_by (is_of_article article) (live_in version rows)
    counted-all [] = refl
    counted-all (row ∷ rest) = sum_by-cons one row rest ∙ (ap (λ (n : ℕ). one row + n) (counted-all rest) ∙ sym (counted-first (live_row row.0 (version row.1).body) (live_in version rest)))

    counted-few : (rows : List (RowKey × R)) → sum_by one rows ≤ length rows
    counted-few [] = omega arith
    counted-few (row ∷ rest) =
        let first : one row ≤ 1 = few (live_row row.0 (version row.1).body) in
        let more = counted-few rest in
        let all = sum_by-cons one row rest in
        omega (arith, first, more, all)

    -- the loops
    pub shown-done : (shown : List ShownRow) (left rows : List (RowKey × R)) → shown ++ flat_map part left ≡ flat_map part rows → left ≡ [] → shown ≡ shown_rows article (live_in version rows)
    shown-done shown left rows so_far none = sym (append-nil shown) ∙ (ap (λ (l : List (RowKey × R)). shown ++ flat_map part l) (sym none) ∙ (so_far ∙ shown-all rows))

    pub counted-done : (count : ℕ) (left rows : List (RowKey × R)) → count + sum_by one left ≡ sum_by one rows → left ≡ [] → count ≡ count_by (is_of_article article) (live_in version rows)
    counted-done count left rows so_far none =
        let last : sum_by one left ≡ 0 = ap (λ (l : List (RowKey × R)). sum_by one l) none in
        let all = counted-all rows in
        omega (arith, so_far, all, last)

    pub counted-fits : (count more limit : ℕ) (key : RowKey) (row : R) (v : Version) (left next rows held : List (RowKey × R)) → count + sum_by one left ≡ sum_by one rows → left ≡ (key, row) ∷ next → v ≡ version row
        → more ≡ count_by (is_of_article article) (row_if_alive (live_row key v.body)) → held ≡ rows → length held < limit → count + more < limit
    counted-fits count more limit key row v left next rows held so_far is same counted at fits =
        let few = counted-few rows in
        let now : sum_by one left ≡ one (key, row) + sum_by one next = ap (λ (l : List (RowKey × R)). sum_by one l) is ∙ sum_by-cons one (key, row) next in
        let this : more ≡ one (key, row) = counted ∙ ap (λ (x : Version). count_by (is_of_article article) (row_if_alive (live_row key x.body))) same in
        let long = ap (λ (l : List (RowKey × R)). length l) at in
        omega (arith, so_far, few, now, this, long, fits)

-- one article more
pub counts-more : (f : ℕ → ℕ) (counts new : List ℕ) (n count : ℕ) → counts ≡ map f (range_with_len 0 n) → count ≡ f n → new ≡ counts ++ count ∷ [] → new ≡ map f (range_with_len 0 (n + 1))
counts-more f counts new n count so_far same pushed =
    let none : 0 + n ≡ n = omega arith in
    pushed ∙ (ap (λ (l : List ℕ). l ++ count ∷ []) so_far ∙ (ap (λ (c : ℕ). map f (range_with_len 0 n) ++ c ∷ []) same ∙ sym (map-range_with_len_more f 0 n n none)))

-- how many rows each article has, as a site tells it
pub publisher-counts : (p q : Publication) (report : Report) (t : PublisherTables) (rows : List (RowKey × PublisherRow)) (told : List ℕ) → told ≡ counts_of p (live_in (λ (row : PublisherRow). row.version) rows)
    → p ≡ q → rows ≡ t.rows → report ≡ Counts → answer.Counts told ≡ publisher_told q report t
publisher-counts p q report t rows told counted same at is =
    ap (λ (l : List ℕ). answer.Counts l) (counted ∙ (ap (λ (x : Publication). counts_of x (live_in (λ (row : PublisherRow). row.version) rows)) same
    ∙ ap (λ (l : List (RowKey × PublisherRow)). counts_of q (live_in (λ (row : PublisherRow). row.version) l)) at)) ∙ ap (λ (r : Report). publisher_told q r t) (sym is)

pub subscriber-counts : (p : Publication) (report : Report) (t : SubscriberTables) (rows : List (RowKey × SubscriberRow)) (told : List ℕ) → told ≡ counts_of p (live_in (λ (row : SubscriberRow). row.version) rows)
    → rows ≡ t.rows → report ≡ Counts → answer.Counts told ≡ subscriber_told p report t
subscriber-counts p report t rows told counted at is =
    ap (λ (l : List ℕ). answer.Counts l) (counted ∙ ap (λ (l : List (RowKey × SubscriberRow)). counts_of p (live_in (λ (row : SubscriberRow). row.version) l)) at) ∙ ap (λ (r : Report). subscriber_told p r t) (sym is)
