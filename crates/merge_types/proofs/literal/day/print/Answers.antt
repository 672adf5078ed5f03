-- The text is that of the day's own date.
use Rattle.std.proofs.Common.{◌≡◌, ◌∙◌, ap, w32}
use Rattle.std.proofs.lemmas.Int.{to_z-of_z}
use Rattle.merge_types.specs.Day.{year_of, month_of, date_of, day_text}
use Rattle.merge_types.proofs.literal.day.print.Goals as goal

pub returns : goal.returns
unfolding day_text
returns c =
    let back = to_z-of_z w32 c.args.day c.ranges.day in
    let of_day = c.civil_of-year.ensures.date in
    let year : c.civil_of-year.result.0 ≡ year_of c.args.day = of_day.0 ∙ ap year_of back in
    let month : c.civil_of-year.result.1 ≡ month_of c.args.day = of_day.1 ∙ ap month_of back in
    let date : c.civil_of-year.result.2 ≡ date_of c.args.day = of_day.2 ∙ ap date_of back in
    rw (← year, ← month, ← date) c.print_date.ensures
