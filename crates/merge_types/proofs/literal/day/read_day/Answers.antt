use Rattle.std.proofs.Common.{rules, ℕ, ℤ, ◌<◌, ◌+◌, ◌*◌, List, arith, Option, Some, None}
use Rattle.std.specs.Prelude.{IfSome, IfNone}
use Rattle.merge_types.specs.Day.{IsDateOf, IsDayText}
use Rattle.merge_types.proofs.DateTexts.{Reads, day_from, day_only}
use Rattle.merge_types.proofs.literal.day.read_day.Goals as goal

some_day : (t : List ℕ) (c y m d : ℕ) (o : Option ℤ) → c < 100 → y < 100 → Reads t c y m d → IfSome o (IsDateOf (c * 100 + y) m d) → IfSome o (IsDayText t)
some_day t c y m d (Some day) lc ly r is = day_from t c y m d day lc ly r is
some_day t c y m d None lc ly r is = tt

no_day : (t : List ℕ) (c y m d : ℕ) (o : Option ℤ) → Reads t c y m d → IfNone o ((day : ℤ) → IsDateOf (c * 100 + y) m d day → ⊥) → IfNone o ((day : ℤ) → IsDayText t day → ⊥)
no_day t c y m d (Some day) r none = tt
no_day t c y m d None r none = λ day is. none day (day_only t c y m d day r is)

pub returns-clause-some : goal.returns-clause-some
returns-clause-some c =
    let r : Reads c.args.text.now c.in_ok-century.century c.in_ok-year.year c.in_ok-month.month c.in_ok-date.date =
    record { len = omega arith; century_is = c.in_ok-century.ensures.some.1; year_is = c.in_ok-year.ensures.some.1; first_dash = search rules; month_is = c.in_ok-month.ensures.some.1; second_dash = search rules; date_is = c.in_ok-date.ensures.some.1 } in
    some_day c.args.text.now c.in_ok-century.century c.in_ok-year.year c.in_ok-month.month c.in_ok-date.date c.day_of.result c.in_ok-century.ensures.some.0 c.in_ok-year.ensures.some.0 r c.day_of.ensures.some

pub returns-clause-none : goal.returns-clause-none
returns-clause-none c =
    let r : Reads c.args.text.now c.in_ok-century.century c.in_ok-year.year c.in_ok-month.month c.in_ok-date.date =
    record { len = omega arith; century_is = c.in_ok-century.ensures.some.1; year_is = c.in_ok-year.ensures.some.1; first_dash = search rules; month_is = c.in_ok-month.ensures.some.1; second_dash = search rules; date_is = c.in_ok-date.ensures.some.1 } in
    no_day c.args.text.now c.in_ok-century.century c.in_ok-year.year c.in_ok-month.month c.in_ok-date.date c.day_of.result r c.day_of.ensures.none
