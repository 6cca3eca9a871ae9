use Rattle.std.proofs.Common.{◌≡◌, ℕ, ◌^◌, ◌<◌, ◌++◌, length, take, drop}
use Rattle.share.specs.Turns.{Steps, awarded}
use Rattle.share.proofs.in_turn.award_in_turn.Given as goal

abbrev pub invariant-loop-place : goal.invariant-loop-place
invariant-loop-place g l =
    (l.left < 2 ^ 32)
    × ((s : ℕ → ℕ → ℕ × ℕ) → Steps (goal.F-post g l.step) s → (take l.place l.given ++ awarded s l.left (drop l.place l.sizes) ≡ awarded s l.q l.sizes) × (drop (length l.sizes) l.given ≡ drop (length l.sizes) l.initial.given))
