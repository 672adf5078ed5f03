-- The generations that rows keep: each has been open.
use Rattle.std.specs.Prelude.{◌≡◌, ◌+◌, ◌++◌, ◌/◌, ◌<◌, ◌≤◌, ◌==◌, ℕ, Bool, true, false, List, [], ◌∷◌, None, Option, Some, cond, filter, if◌then◌else◌, nat_lt, refl}
use Rattle.std.proofs.Common.{ap, arith, subst, sym, ◌∙◌}
use Rattle.merge_types.specs.Limits.{counter_limit, entry_limit, number_limit}
use Rattle.merge_types.specs.declared.identifiers.Moment.{Moment}
use Rattle.merge_types.specs.declared.row_key.RowKey.{RowKey}
use Rattle.merge_units.specs.declared.site_row.SubscriberRow.{SubscriberRow}
use Rattle.merge_gens.specs.Book.{Book, closed_now, forgotten_if_any}
use Rattle.merge_gens.specs.Filling.{filling_after_close}
use Rattle.merge_gens.specs.Plan.{book_after_plan}
use Rattle.merge_gens.specs.declared.filling.Filling.{Filling}
use Rattle.merge_gens.specs.declared.plan.GenerationPlan.{GenerationPlan}
use Rattle.merge_model.proofs.Lists.{all-append}
use Rattle.merge_model.specs.Tables.Keys.{put_row, row_at}
use Rattle.merge_model.specs.Subscriber.{with_open}
use Rattle.merge_sub.proofs.Rows.{each-put}
use Rattle.merge_sub.specs.Held.{HaveOpened, KeepOpened, Held, kept_by}

-- once more generations have closed
pub opened-later : (closed later : ℕ) → closed ≤ later → (generations : List ℕ) → HaveOpened closed generations → HaveOpened later generations
opened-later closed later less [] opened = tt
opened-later closed later less (generation ∷ generations) opened =
    let first = opened.0 in
    (omega (arith, less, first), opened-later closed later less generations opened.1)

pub kept-later : (closed later : ℕ) → closed ≤ later → (rows : List (RowKey × SubscriberRow)) → KeepOpened closed rows → KeepOpened later rows
unfolding KeepOpened
kept-later closed later less rows kept key row found = opened-later closed later less row.generations (kept key row found)

-- some of the generations
kept-step : (closed generation : ℕ) (kept : List ℕ) (passes : Bool) → generation ≤ closed + 1 → HaveOpened closed kept
    → HaveOpened closed (let more : List ℕ = cond passes (generation ∷ kept) kept in more)
kept-step closed generation kept true first opened = (first, opened)
kept-step closed generation kept false first opened = opened

pub opened-filter : (closed : ℕ) (test : ℕ → Bool) (generations : List ℕ) → HaveOpened closed generations → HaveOpened closed (filter test generations)
opened-filter closed test [] opened = tt
opened-filter closed test (generation ∷ generations) opened =
    kept-step closed generation (filter test generations) (test generation) opened.0 (opened-filter closed test generations opened.1)

-- with the open one
pub opened-open : (closed : ℕ) (generations : List ℕ) → HaveOpened closed generations → HaveOpened closed (with_open (closed + 1) generations)
opened-open closed generations opened =
    all-append (λ (generation : ℕ). generation ≤ closed + 1) (filter (λ (generation : ℕ). nat_lt generation (closed + 1)) generations) ((closed + 1) ∷ [])
    (opened-filter closed (λ (generation : ℕ). nat_lt generation (closed + 1)) generations opened) (omega arith, tt)

-- what is kept of a row, where there is one
pub kept-opened : (closed : ℕ) (rows : List (RowKey × SubscriberRow)) → KeepOpened closed rows → (key : RowKey) (found : Option SubscriberRow) → row_at rows key ≡ found → HaveOpened closed (kept_by found)
unfolding KeepOpened
kept-opened closed rows kept key None is = tt
kept-opened closed rows kept key (Some row) is = kept key row is

pub kept-put : (closed : ℕ) (rows : List (RowKey × SubscriberRow)) → KeepOpened closed rows → (key : RowKey) (row : SubscriberRow) → HaveOpened closed row.generations → KeepOpened closed (put_row rows key row)
unfolding KeepOpened
kept-put closed rows kept key row opened = each-put (λ (k : RowKey) (r : SubscriberRow). HaveOpened closed r.generations) rows kept key row opened

-- a row is changed in the open generation, and others may close by it
pub kept-changed : (closed later : ℕ) → closed ≤ later → (rows : List (RowKey × SubscriberRow)) → KeepOpened closed rows → (key : RowKey) (row : SubscriberRow) → row.generations ≡ with_open (closed + 1) (kept_by (row_at rows key))
    → KeepOpened later (put_row rows key row)
kept-changed closed later less rows kept key row is =
    kept-later closed later less (put_row rows key row)
    (kept-put closed rows kept key row
    (subst (λ (generations : List ℕ). HaveOpened closed generations) (sym is) (opened-open closed (kept_by (row_at rows key)) (kept-opened closed rows kept key (row_at rows key) refl))))

-- Generations only close, and one at a time.

-- the last closed one before a step and after it
pub record GoesOn (before after : ℕ) : Type 0 where
  pub rises : before ≤ after
  pub limited : before ≤ number_limit → after ≤ number_limit

closed-step : (filling : Filling) (empty : Bool) → filling.last_closed < counter_limit → GoesOn filling.last_closed (let after : Filling = if empty then filling else record { last_closed = filling.last_closed + 1; filled = 0 } in after).last_closed
closed-step filling true below = record { rises = omega arith; limited = λ low. low }
closed-step filling false below = record { rises = omega arith; limited = λ low. omega (arith, below) }

pub closing-goes-on : (h now : Held) → h ≡ now → (moment : Moment) (plan : GenerationPlan) → now.gens.book.filling.last_closed < counter_limit → book_after_plan h.gens.book plan ≡ closed_now h.gens.book moment
    → GoesOn h.gens.book.filling.last_closed plan.filling.last_closed
closing-goes-on h now view moment plan below is =
    let low : h.gens.book.filling.last_closed < counter_limit = subst (λ (x : Held). x.gens.book.filling.last_closed < counter_limit) (sym view) below in
    subst (λ (b : Book). GoesOn h.gens.book.filling.last_closed b.filling.last_closed) (sym is) (closed-step h.gens.book.filling (h.gens.book.filling.filled == 0) low)

-- where nothing changes
pub still-goes-on : (book : Book) (plan : GenerationPlan) → book_after_plan book plan ≡ book → GoesOn book.filling.last_closed plan.filling.last_closed
still-goes-on book plan is =
    let same : plan.filling.last_closed ≡ book.filling.last_closed = ap (λ (b : Book). b.filling.last_closed) is in
    record { rises = omega (arith, same); limited = λ low. omega (arith, same, low) }

-- one entry more
pub entry-goes-on : (closed filled : ℕ) → closed < counter_limit → filled < entry_limit → GoesOn closed (closed + (filled + 1) / entry_limit)
entry-goes-on closed filled below unfilled = record { rises = omega arith; limited = λ low. omega (arith, below, unfilled) }

pub closing-last : (book : Book) (moment : Moment) (plan : GenerationPlan) → book_after_plan book plan ≡ closed_now book moment → (last : ℕ) → last ≡ (filling_after_close book.filling).last_closed → last ≡ plan.filling.last_closed
closing-last book moment plan is last closes = closes ∙ ap (λ (b : Book). b.filling.last_closed) (sym is)

pub forgotten-filling : (book : Book) (up_to : Option ℕ) → (forgotten_if_any book up_to).filling ≡ book.filling
forgotten-filling book None = refl
forgotten-filling book (Some up_to) = refl
