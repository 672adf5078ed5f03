-- The change that made a row is the one that its identifier carries.
use Rattle.std.proofs.Common.{◌≡◌, ℕ, Option, Some, None, refl, arith}
use Rattle.std.proofs.lemmas.Bool.Decides.{nat_tests}
use Rattle.merge_types.specs.declared.Dot.{Dot}
use Rattle.merge_types.specs.Rows.{IsMadeBy}
use Rattle.merge_batch.specs.Makers.{maker_of, site_part}

-- an identifier has the site above its 80 lowest bits
pub site_part-row : (row site number : ℕ) → IsMadeBy row site number → site_part row ≡ site
site_part-row row site number made = omega (arith, made.same, made.fits)

pub maker_of-made : (row site number : ℕ) → IsMadeBy row site number → maker_of row ≡ Some (record { site = record { 0 = site }; number = number })
unfolding maker_of
maker_of-made row site number made = grind (arith, nat_tests, site_part-row row site number made, made.same, made.from_one, made.fits, made.site_fits)

pub made-maker_of : (row : ℕ) (dot : Dot) → maker_of row ≡ Some dot → IsMadeBy row dot.site.0 dot.number
unfolding maker_of
made-maker_of row dot found = record {
  site_fits = grind (arith, nat_tests, found);
  from_one = grind (arith, nat_tests, found);
  fits = grind (arith, nat_tests, found);
  same = grind (arith, nat_tests, found);
}

-- none is found where no change makes the row
none_where_never : (row : ℕ) (found : Option Dot) → ((dot : Dot) → found ≡ Some dot → IsMadeBy row dot.site.0 dot.number)
    → ((site number : ℕ) → IsMadeBy row site number → ⊥) → found ≡ None
none_where_never row None made never = refl
none_where_never row (Some dot) made never = absurd (never dot.site.0 dot.number (made dot refl))

pub maker_of-none : (row : ℕ) → ((site number : ℕ) → IsMadeBy row site number → ⊥) → maker_of row ≡ None
maker_of-none row never = none_where_never row (maker_of row) (made-maker_of row) never
