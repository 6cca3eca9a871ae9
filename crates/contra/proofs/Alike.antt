-- Items of one kind, and the first of each kind.
use Rattle.std.proofs.Common.{◌≡◌, ◌≤◌, Bool, true, false, ◌||◌, List, [], ◌∷◌, ◌++◌, length, sym, ◌∙◌, arith}
use Rattle.std.specs.Cmp.{IsEquivalence}
use Rattle.std.specs.List.{AllByRecursion}
use Rattle.std.proofs.lemmas.List.Elements.{All-from_recursion}
use Rattle.std.proofs.lemmas.List.Folds.{list_any_none, list_any-append}
use Rattle.std.proofs.ByRecursion.{All-weaker}
use Rattle.std.proofs.lemmas.Int.{ints}
use Rattle.std.proofs.lemmas.Bool.{cond_both, or_left, or_parts, or_right}
use Rattle.std.proofs.lemmas.Bool.Decides.{nat_tests}
use Rattle.contra.specs.Kinds.{firsts, same_level, same_price, same_user, some}

-- two facts of each element make a third
pub all_both : {X : Type 0} (P Q R : X → Type 0) → ((x : X) → P x → Q x → R x) → (xs : List X) → AllByRecursion P xs → AllByRecursion Q xs → AllByRecursion R xs
all_both P Q R h [] a b = tt
all_both P Q R h (x ∷ xs) a b = (h x a.0 b.0, all_both P Q R h xs a.1 b.1)

module _ {X : Type 0} (p : X → Bool) where
  pub some_push : (xs : List X) (x : X) → some p (xs ++ x ∷ []) ≡ some p xs || p x
  unfolding some
  some_push xs x = let e = list_any-append p xs (x ∷ []) in grind arith

  pub none_passes : (xs : List X) → some p xs ≡ false → AllByRecursion (λ x. p x ≡ false) xs
  unfolding some
  none_passes [] e = tt
  none_passes (x ∷ xs) e = let a : p x ≡ false = grind arith in let b : some p xs ≡ false = grind arith in (a, none_passes xs b)

  pub passes_none : (xs : List X) → AllByRecursion (λ x. p x ≡ false) xs → some p xs ≡ false
  unfolding some
  passes_none xs a = list_any_none p xs (All-from_recursion _ xs a)

module _ {X : Type 0} (same : X → X → Bool) where
  pub firsts_few : (xs seen : List X) → length (firsts same seen xs) ≤ length xs
  unfolding firsts
  firsts_few [] seen = omega arith
  firsts_few (x ∷ xs) seen = let e = firsts_few xs (seen ++ x ∷ []) in grind arith

  pub firsts_all : (P : X → Type 0) (xs seen : List X) → AllByRecursion P xs → AllByRecursion P (firsts same seen xs)
  unfolding firsts
  firsts_all P [] seen a = tt
  firsts_all P (x ∷ xs) seen a =
      cond_both (some (same x) seen) _ _ (AllByRecursion P)
      (λ e. firsts_all P xs (seen ++ x ∷ []) a.1)
      (λ e. (a.0, firsts_all P xs (seen ++ x ∷ []) a.1))

  -- none is of a kind seen before
  pub firsts_new : (xs seen : List X) → AllByRecursion (λ y. some (same y) seen ≡ false) (firsts same seen xs)
  unfolding firsts
  firsts_new [] seen = tt
  firsts_new (x ∷ xs) seen =
      let back : (y : X) → some (same y) (seen ++ x ∷ []) ≡ false → some (same y) seen ≡ false = λ y e. (or_parts _ (same y x) (sym (some_push (same y) seen x) ∙ e)).0 in
      let rest : AllByRecursion (λ y. some (same y) seen ≡ false) (firsts same (seen ++ x ∷ []) xs) = All-weaker _ _ back _ (firsts_new xs (seen ++ x ∷ [])) in
      cond_both (some (same x) seen) _ _ (AllByRecursion (λ y. some (same y) seen ≡ false)) (λ e. rest) (λ e. (e, rest))

  -- no two are of one kind
  abbrev pub Apart : List X → Type 0
  Apart [] = Unit {0}
  Apart (x ∷ xs) = AllByRecursion (λ y. same y x ≡ false) xs × Apart xs

  pub firsts_behind : (xs seen : List X) (x : X) → AllByRecursion (λ y. same y x ≡ false) (firsts same (seen ++ x ∷ []) xs)
  firsts_behind xs seen x =
      All-weaker _ _ (λ y e. (or_parts (some (same y) seen) _ (sym (some_push (same y) seen x) ∙ e)).1) _ (firsts_new xs (seen ++ x ∷ []))

  pub firsts_apart : (xs seen : List X) → Apart (firsts same seen xs)
  unfolding firsts
  firsts_apart [] seen = tt
  firsts_apart (x ∷ xs) seen =
      cond_both (some (same x) seen) _ _ Apart (λ e. firsts_apart xs (seen ++ x ∷ [])) (λ e. (firsts_behind xs seen x, firsts_apart xs (seen ++ x ∷ [])))

  pub some_itself : (itself : (x : X) → same x x ≡ true) (xs : List X) → AllByRecursion (λ z. some (same z) xs ≡ true) xs
  unfolding some
  some_itself itself [] = tt
  some_itself itself (x ∷ xs) = (or_left _ _ (itself x), All-weaker _ _ (λ z e. or_right (same z x) _ e) xs (some_itself itself xs))

-- users part items into kinds, and so do levels
pub users : IsEquivalence same_user
users = record {
  refl = λ x. grind (arith, nat_tests);
  symm = λ x y. grind (arith, nat_tests);
  congr = λ x y z e. grind (arith, nat_tests);
}

pub prices : IsEquivalence same_price
prices = record {
  refl = λ a. grind (arith, ints);
  symm = λ a b. grind (arith, ints);
  congr = λ a b c e. grind (arith, ints);
}

pub levels : IsEquivalence same_level
levels = record {
  refl = λ x. prices.refl x.level;
  symm = λ x y. prices.symm x.level y.level;
  congr = λ x y z e. prices.congr x.level y.level z.level e;
}
