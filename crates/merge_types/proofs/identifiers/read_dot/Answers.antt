-- The parts of the text are those of every change that it names.
use Rattle.std.proofs.Common.{rules, ◌≡◌, ◌<◌, ◌^◌, ◌∙◌, arith, sym}
use Rattle.std.proofs.lemmas.Fmt.{decimal_injective}
use Rattle.merge_types.proofs.Points.{parts_of, has_point}
use Rattle.merge_types.proofs.identifiers.read_dot.Goals as goal
use Rattle.merge_types.proofs.identifiers.read_dot.Goals.{then-site-ge65536-via-then-site-ge65536, then-site-ge65536-via-else-site-ge65536+then-number-eq0, then-site-ge65536-via-else-site-ge65536+else-number-eq0+then-number-ge-NUMBER_LIMIT}

pub returns-in_err-before-clause-none : goal.returns-in_err-before-clause-none
returns-in_err-before-clause-none c = rw c.from_residual.ensures (λ site number is. has_point c.args.text.now site number is c.in_err-before.ensures.none)

pub returns-in_err-site-clause-none : goal.returns-in_err-site-clause-none
returns-in_err-site-clause-none c = rw c.from_residual-in_err-site.ensures (λ site number is.
    c.in_err-site.ensures.none site (omega (arith, is.site_fits)) (parts_of c.args.text.now c.in_ok-before.before.now c.in_ok-before.behind.now site number c.in_ok-before.ensures.some is).0)

pub returns-in_err-number-clause-none : goal.returns-in_err-number-clause-none
returns-in_err-number-clause-none c = rw c.from_residual-in_err-number.ensures (λ site number is.
    c.in_err-number.ensures.none number (omega (arith, is.fits)) (parts_of c.args.text.now c.in_ok-before.before.now c.in_ok-before.behind.now site number c.in_ok-before.ensures.some is).1)

pub returns-then-site-ge65536-clause-none : goal.returns-then-site-ge65536-clause-none
returns-then-site-ge65536-clause-none c = λ site number is.
    let parts = parts_of c.args.text.now c.in_ok-before.before.now c.in_ok-before.behind.now site number c.in_ok-before.ensures.some is in
    let site_small : site < 2 ^ 64 = omega (arith, is.site_fits) in
    let number_small : number < 2 ^ 64 = omega (arith, is.fits) in
    let same_site : site ≡ c.in_ok-site.site = decimal_injective site c.in_ok-site.site site_small (search rules) (sym parts.0 ∙ c.in_ok-site.ensures.some) in
    let same_number : number ≡ c.in_ok-number.number = decimal_injective number c.in_ok-number.number number_small (search rules) (sym parts.1 ∙ c.in_ok-number.ensures.some) in
    elim c.then-site-ge65536.branch [
      | then-site-ge65536-via-then-site-ge65536 w ↦ omega (arith, is.site_fits)
      | then-site-ge65536-via-else-site-ge65536+then-number-eq0 w ↦ omega (arith, is.from_one)
      | then-site-ge65536-via-else-site-ge65536+else-number-eq0+then-number-ge-NUMBER_LIMIT w ↦ omega (arith, is.fits)
    ]
