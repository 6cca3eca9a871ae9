-- The lines of a text.
use Rattle.std.specs.Prelude.{◌≡◌, ℕ, ◌+◌, ◌-◌, ◌^◌, ◌<◌, Bool, not, [], length, min, take, drop, Some, None, Option, ◌==◌}
use Rattle.std.specs.List.{prefix_len}
use Rattle.console.specs.declared.text.Line.{Line}
use Rattle.console.specs.declared.text.Lines.{Lines}

-- a line goes on until a line feed
abbrev pub in_line : ℕ → Bool
in_line b = not (b == 10)

-- a line is the first of those that are left, and the others are left after it
pub record FirstLine (lines : Lines) (line : Line) (after : Lines) : Type 0 where
  pub some : 0 < length lines.text.now
  pub number : line.number ≡ lines.number
  pub bytes : line.bytes.now ≡ take (prefix_len in_line lines.text.now) lines.text.now
  pub next : after.number ≡ min (lines.number + 1) (2 ^ 64 - 1)
  pub rest : after.text.now ≡ drop (prefix_len in_line lines.text.now + 1) lines.text.now

-- the first of the lines that are left, if any is
abbrev pub NextLine : Lines → Option Line → Lines → Type 0
NextLine lines None after = (lines.text.now ≡ []) × (after ≡ lines)
NextLine lines (Some line) after = FirstLine lines line after
