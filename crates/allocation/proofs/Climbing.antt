-- The levels that items begin climb, where the levels of the items rise.
use Rattle.std.proofs.Common.{◌≡◌, Bool, false, List, [], ◌∷◌, ◌++◌, ℤ, ◌≤ℤ◌, ◌<ℤ◌, filter, arith}
use Rattle.std.proofs.ByRecursion.{all_kept_by, All-weaker, kept_by_passes}
use Rattle.std.proofs.lemmas.Int.{ints}
use Rattle.std.proofs.lemmas.Bool.{cond_both}
use Rattle.std.specs.List.{AllByRecursion}
use Rattle.ranked.specs.declared.contra.ContraItem.{ContraItem}
use Rattle.contra.specs.Kinds.{firsts, same_level, same_price, some}
use Rattle.contra.proofs.Alike.{all_both, firsts_all, firsts_behind}
use Rattle.allocation.specs.Deals.{Deal}
use Rattle.allocation.specs.Laws.{Rising}
use Rattle.allocation.specs.Levels.{beginnings, below_stop}

-- each level is below all behind it
abbrev pub Climbs : List ContraItem → Type 0
Climbs [] = Unit {0}
Climbs (x ∷ xs) = AllByRecursion (λ y. x.level <ℤ y.level) xs × Climbs xs

apart_less : (a b : ℤ) → a ≤ℤ b → same_price b a ≡ false → a <ℤ b
apart_less a b h e = grind (arith, ints)

pub firsts_climb : (xs seen : List ContraItem) → Rising xs → Climbs (firsts same_level seen xs)
unfolding firsts
firsts_climb [] seen r = tt
firsts_climb (x ∷ xs) seen r =
    let rest : Climbs (firsts same_level (seen ++ x ∷ []) xs) = firsts_climb xs (seen ++ x ∷ []) r.1 in
    cond_both (some (same_level x) seen) _ _ Climbs (λ e. rest)
    (λ e. (all_both (λ y. x.level ≤ℤ y.level) (λ y. same_level y x ≡ false) (λ y. x.level <ℤ y.level) (λ y h k. apart_less x.level y.level h k) _ (firsts_all same_level _ xs (seen ++ x ∷ []) r.0) (firsts_behind same_level xs seen x), rest))

kept_climb : (p : ContraItem → Bool) (xs : List ContraItem) → Climbs xs → Climbs (filter p xs)
kept_climb p [] c = tt
kept_climb p (x ∷ xs) c =
    cond_both (p x) _ _ Climbs (λ e. (all_kept_by p _ xs c.0, kept_climb p xs c.1)) (λ e. kept_climb p xs c.1)

module _ (d : Deal) (items : List ContraItem) where
  pub beginnings_climb : Rising items → Climbs (beginnings d [] items)
  beginnings_climb r = kept_climb (below_stop d) _ (firsts_climb items [] r)

  pub beginnings_below : AllByRecursion (λ b. b.level <ℤ d.stop) (beginnings d [] items)
  beginnings_below = All-weaker _ _ (λ b e. grind (arith, ints)) _ (kept_by_passes (below_stop d) (firsts same_level [] items))
