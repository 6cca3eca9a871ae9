-- The loop that gathers the tops of a strategy's legs.
use Rattle.std.proofs.Common.{◌≡◌, ℕ, ◌+◌, ◌<◌, List, [], ◌∷◌, ◌++◌, map, length, get_or, take, sym, ap, ◌∙◌}
use Rattle.std.proofs.lemmas.List.{map_more, take-map}

-- what f makes of the elements read so far, with one more
pub gathered : {X Y : Type 0} (f : X → Y) (xs : List X) (ys : List Y) (i : ℕ) (d : X) (y : Y) → ys ≡ take i (map f xs) → i < length xs → y ≡ f (get_or xs i d) → ys ++ y ∷ [] ≡ take (i + 1) (map f xs)
gathered f xs ys i d y inv h e =
    ap (λ l. l ++ y ∷ []) inv
    ∙ (ap (λ z. take i (map f xs) ++ z ∷ []) e
    ∙ sym (take-map f (i + 1) xs ∙ (map_more f xs i d h ∙ ap (λ l. l ++ (f (get_or xs i d) ∷ [])) (sym (take-map f i xs)))))
