-- What workers take connections from.
use Rattle.std.specs.Prelude.{IfSome, Option, ℕ, ◌+◌, ◌≡◌, ◌≤◌}

-- how many connections the door handed out, where it tells it, how often it failed, and how many connections were taken
pub record EntranceView : Type 0 where
  pub handed : Option ℕ
  pub faults : ℕ
  pub accepted : ℕ

-- No more were taken than so many, and each that was handed out. For each a permit was given, and there are parts for the others.
pub record IsCounted (most : ℕ) (handed : Option ℕ) (accepted given parts amount : ℕ) : Type 0 where
  pub few : accepted ≤ most
  pub each : IfSome handed (λ n. n ≡ accepted)
  pub paid : given ≡ accepted
  pub room : most ≤ parts + accepted
  pub none : amount ≡ 0
