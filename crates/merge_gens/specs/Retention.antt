-- Expiry.
use Rattle.std.specs.Prelude.{ℕ, ◌-◌, ◌*◌, Bool, nat_lt}
use Rattle.merge_types.specs.declared.Moment.{Moment}

-- more than the retention has passed
abbrev pub is_expired : Moment → Moment → ℕ → Bool
is_expired last_sync now retention_days = nat_lt (86400 * retention_days) (now.0 - last_sync.0)
