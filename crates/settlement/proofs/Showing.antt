-- Records shown one after the other in place.
use Rattle.std.proofs.Common.{◌≡◌, ℕ, ◌+◌, ◌<◌, List, ◌++◌, map, length, get_or, take, drop, set, ap, ◌∙◌}
use Rattle.std.proofs.lemmas.List.Edits.{map_over_more}
use Rattle.std.proofs.lemmas.List.{get_or_default}

module _ {X : Type 0} (f : X → X) (old now : List X) (i : ℕ) (inv : now ≡ map f (take i old) ++ drop i old) where
  module _ (h : i < length old) where
    pub shown_on : (d y : X) → i < length now → y ≡ f (get_or now i d) → set now i y ≡ map f (take (i + 1) old) ++ drop (i + 1) old
    shown_on d y k e = ap (set now i) e ∙ map_over_more f old now i (get_or now i d) h inv (read now i d k)
      where
        read : (xs : List X) (n : ℕ) (c : X) → n < length xs → get_or xs n c ≡ get_or xs n (get_or xs n c)
        read xs n c l = get_or_default xs n c (get_or xs n c) l
