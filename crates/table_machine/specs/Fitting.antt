-- The bounds of marks. Assumes nothing.
use Rattle.std.specs.Prelude.{◌+◌, ◌*◌, ◌≤◌}
use Rattle.stacks.specs.declared.marks.Marks.{Marks}

pub record Fitting (m : Marks) : Type 0 where
  pub looks_bound : m.done + m.looks ≤ 63
  pub size_bound : m.done + m.ahead ≤ 64
  pub base_bound : m.base ≤ 63 * m.frames
  pub depth_bound : m.frames ≤ 39
