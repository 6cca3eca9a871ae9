-- Steps of a loop that writes an award for each size, from the first place on.
use Rattle.std.specs.Prelude.{◌≡◌, ℕ, ◌+◌, ◌<◌, ◌≤◌, List, [], ◌∷◌, ◌++◌, length, take, drop, slice_index, slice_set}
use Rattle.std.proofs.Common.{sym, ap, ◌∙◌, arith}
use Rattle.std.proofs.lemmas.List.{append_assoc, append-nil, at_drop_all, at_drop_more, drop-set-lt, take-append-drop, take_more_set}

-- F is what the rest of the sizes is given before the step, and G after it
pub write_on : (F G : List ℕ → List ℕ) (xs ws old whole : List ℕ) (i a : ℕ) → (take i ws ++ F (drop i xs) ≡ whole) × (drop (length xs) ws ≡ drop (length xs) old) → i < length xs → i < length ws → ((ys : List ℕ) → F (slice_index xs i ∷ ys) ≡ a ∷ G ys) → (take (i + 1) (slice_set ws i a) ++ G (drop (i + 1) xs) ≡ whole) × (drop (length xs) (slice_set ws i a) ≡ drop (length xs) old)
write_on F G xs ws old whole i a inv h k step = (
  ap (λ vs. vs ++ G (drop (i + 1) xs)) (take_more_set ws i a k)
      ∙ (append_assoc (take i ws) (a ∷ []) (G (drop (i + 1) xs))
      ∙ (ap (λ vs. take i ws ++ vs) (sym (at_drop_more F xs i 0 h ∙ step (drop (i + 1) xs))) ∙ inv.0)),
  drop-set-lt (length xs) ws i a h ∙ inv.1,
)

pub write_end : (F : List ℕ → List ℕ) (xs ws old whole : List ℕ) (i : ℕ) → (take i ws ++ F (drop i xs) ≡ whole) × (drop (length xs) ws ≡ drop (length xs) old) → F [] ≡ [] → i ≡ length xs → ws ≡ whole ++ drop (length xs) old
write_end F xs ws old whole i inv e same =
    let h : length xs ≤ i = omega arith in
    let front : take i ws ≡ whole =
    sym (append-nil (take i ws)) ∙ (ap (λ vs. take i ws ++ vs) (sym (at_drop_all F xs i h ∙ e)) ∙ inv.0) in
    sym (take-append-drop i ws)
    ∙ (ap (λ vs. vs ++ drop i ws) front
    ∙ (ap (λ n. whole ++ drop n ws) same ∙ ap (λ vs. whole ++ vs) inv.1))
