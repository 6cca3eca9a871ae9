-- Awards in rank order: the loop over the sizes, and the step of each rule.
use Rattle.std.proofs.Common.{◌≡◌, ℕ, ◌+◌, ◌-◌, ◌<◌, ◌≤◌, List, [], ◌∷◌, ◌++◌, length, get_or, take, drop, set, min, refl, sym, ap, arith}
use Rattle.share.specs.Writing.{write_on, write_end}
use Rattle.share.specs.Turns.{awarded}
use Rattle.share.specs.Filling.{first_come}
use Rattle.share.specs.Proration.{part, one_more, dealt}

awarded_step : (s : ℕ → ℕ → ℕ × ℕ) (left size : ℕ) (r : ℕ × ℕ) (ys : List ℕ) → r ≡ s size left → awarded s left (size ∷ ys) ≡ r.0 ∷ awarded s r.1 ys
unfolding awarded
awarded_step s left size r ys e = ap (λ p. p.0 ∷ awarded s p.1 ys) (sym e)

awarded_none : (s : ℕ → ℕ → ℕ × ℕ) (left : ℕ) → awarded s left [] ≡ []
unfolding awarded
awarded_none s left = refl

-- xs are the sizes, ws the awards so far over the list as it was
module _ (s : ℕ → ℕ → ℕ × ℕ) (xs ws old : List ℕ) (q i left : ℕ) (inv : (take i ws ++ awarded s left (drop i xs) ≡ awarded s q xs) × (drop (length xs) ws ≡ drop (length xs) old)) where
  pub award_on : i < length xs → length ws ≡ length old → length xs ≤ length old → (r : ℕ × ℕ) → r ≡ s (get_or xs i 0) left → (take (i + 1) (set ws i r.0) ++ awarded s r.1 (drop (i + 1) xs) ≡ awarded s q xs) × (drop (length xs) (set ws i r.0) ≡ drop (length xs) old)
  award_on h long room r e =
      write_on (awarded s left) (awarded s r.1) xs ws old (awarded s q xs) i r.0 inv h (omega arith) (λ ys. awarded_step s left (get_or xs i 0) r ys e)

  pub award_end : length xs ≤ i → i ≤ length xs → ws ≡ awarded s q xs ++ drop (length xs) old
  award_end h k = write_end (awarded s left) xs ws old (awarded s q xs) i inv (awarded_none s left) (omega arith)

-- first come
abbrev pub lesser : ℕ → ℕ → ℕ × ℕ
lesser size left = (min size left, left - min size left)

pub first_awarded : (sizes : List ℕ) (q : ℕ) → awarded lesser q sizes ≡ first_come sizes q
unfolding awarded first_come
first_awarded [] q = refl
first_awarded (size ∷ sizes) q = ap (λ vs. min size q ∷ vs) (first_awarded sizes (q - min size q))

-- pro rata
abbrev pub part_and_more : ℕ → ℕ → ℕ → ℕ → ℕ × ℕ
part_and_more sum q size left = (part sum q size + one_more size left, left - one_more size left)

pub dealt_awarded : (sum q : ℕ) (sizes : List ℕ) (left : ℕ) → awarded (part_and_more sum q) left sizes ≡ dealt sum q left sizes
unfolding awarded dealt
dealt_awarded sum q [] left = refl
dealt_awarded sum q (size ∷ sizes) left =
    ap (λ vs. (part sum q size + one_more size left) ∷ vs) (dealt_awarded sum q sizes (left - one_more size left))
