-- How a connection begins, and how it ends.
use Rattle.std.specs.Prelude.{IfSome, List, [], length, ℕ, ◌+◌, ◌++◌, ◌≡◌, ◌≤◌}
use Rattle.merge_types.specs.declared.identifiers.Moment.{Moment}
use Rattle.merge_desk.specs.Views.{SeatView}
use Rattle.merge_desk.specs.declared.mark.Mark.{Mark}
use Rattle.merge_serve.specs.Attending.{Answers, Traffic}
use Rattle.merge_serve.specs.declared.answer.Answer.{Answer}

-- nothing was read or written since it began, and nothing failed
pub record IsFresh (first now : Traffic) : Type 0 where
  pub same : now ≡ first
  pub unread : now.read_faults ≡ 0
  pub unfailed : now.write_faults ≡ 0
  pub unwritten : IfSome now.written (λ bytes. bytes ≡ [])

-- what a seat was told and the amounts of its shares were these as its last connection was closed
abbrev pub WasClosedAs : SeatView → SeatView → Type 0
WasClosedAs s t = (t.closed_told ≡ s.told) × (t.closed_calls ≡ s.calls) × (t.closed_faults ≡ s.faults)

-- Since a connection began, its whole response was written to the bytes that were taken, unless a read or a write failed. The seat is
-- what this made of it at some moment as it was when its last connection was closed.
abbrev pub IsServed : Traffic → Traffic → SeatView → Type 0
IsServed first now t = now.read_faults ≡ first.read_faults → now.write_faults ≡ first.write_faults
    → (moment : Moment) × (answer : Answer) × (s : SeatView) × WasClosedAs s t × Answers moment first now s t answer

-- the same seat, with more calls: as many as it was told marks
pub record IsLater (s t : SeatView) : Type 0 where
  pub number : t.number ≡ s.number
  pub call_parts : t.call_parts ≡ s.call_parts
  pub fault_parts : t.fault_parts ≡ s.fault_parts
  pub more : List Mark
  pub told : t.told ≡ s.told ++ more
  pub calls : t.calls ≡ s.calls + length more
  pub faults : s.faults ≤ t.faults
