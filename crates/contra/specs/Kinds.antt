-- Items of one kind: of one level, or of one user. The first of each kind stands for it.
use Rattle.std.specs.Prelude.{Bool, cond, ◌&&◌, List, [], ◌∷◌, ◌++◌, ℤ, ◌==◌, int_le}
use Rattle.std.specs.List.{list_any}
use Rattle.ranked.specs.declared.contra.ContraItem.{ContraItem}

abbrev pub same_price : ℤ → ℤ → Bool
same_price a b = int_le a b && int_le b a

abbrev pub same_level : ContraItem → ContraItem → Bool
same_level x y = same_price x.level y.level

abbrev pub same_user : ContraItem → ContraItem → Bool
same_user x y = x.user == y.user

-- one of the list passes
unfoldable pub some : {X : Type 0} → (X → Bool) → List X → Bool
some p xs = list_any p xs

-- the first of each kind that is not among those seen before, in the order of the list
unfoldable pub firsts : {X : Type 0} → (X → X → Bool) → List X → List X → List X
firsts same seen [] = []
firsts same seen (x ∷ xs) =
    cond (some (same x) seen) (firsts same (seen ++ x ∷ []) xs) (x ∷ firsts same (seen ++ x ∷ []) xs)
