-- The moments that a clock gives, where it tells them.
use Rattle.std.specs.Prelude.{List, [], ◌∷◌}
use Rattle.merge_types.specs.declared.identifiers.Moment.{Moment}

-- the moments that are to come, and the one that is given again when none of them is left
pub record Moments : Type 0 where
  pub coming : List Moment
  pub last : Moment

abbrev first_of : List Moment → Moment → Moment
first_of [] last = last
first_of (moment ∷ coming) last = moment

abbrev rest_of : List Moment → Moment → Moments
rest_of [] last = record { coming = []; last = last }
rest_of (moment ∷ coming) last = record { coming = coming; last = moment }

-- the moment that is given next
abbrev pub next_moment : Moments → Moment
next_moment moments = first_of moments.coming moments.last

-- what is to come behind it
abbrev pub later_moments : Moments → Moments
later_moments moments = rest_of moments.coming moments.last
