-- Picking the first of each kind out of a list, one after the other.
use Rattle.std.proofs.Common.{◌≡◌, ℕ, ◌+◌, ◌<◌, Bool, true, false, cond, List, [], ◌∷◌, ◌++◌, map, length, get_or, take, sym, refl, ap, ◌∙◌}
use Rattle.std.proofs.lemmas.List.{append_assoc, append-nil, map-append, take_more}
use Rattle.std.specs.List.{list_any}
use Rattle.ranked.specs.declared.contra.ContraItem.{ContraItem}
use Rattle.contra.specs.Kinds.{firsts, same_user, some}
use Rattle.settlement.specs.Groups.{users_in}

-- the first items of each kind, with one item more
firsts_more : {X : Type 0} (same : X → X → Bool) (seen xs : List X) (x : X) → firsts same seen (xs ++ x ∷ []) ≡ firsts same seen xs ++ cond (some (same x) (seen ++ xs)) [] (x ∷ [])
unfolding firsts
firsts_more same seen [] x = ap (λ l. cond (some (same x) l) [] (x ∷ [])) (sym (append-nil seen))
firsts_more same seen (y ∷ ys) x =
    let e = firsts_more same (seen ++ y ∷ []) ys x ∙ ap (λ l. firsts same (seen ++ y ∷ []) ys ++ cond (some (same x) l) [] (x ∷ [])) (append_assoc seen (y ∷ []) ys) in
    elim (some (same y) seen) as (λ b. cond b (firsts same (seen ++ y ∷ []) (ys ++ x ∷ [])) (y ∷ firsts same (seen ++ y ∷ []) (ys ++ x ∷ [])) ≡ cond b (firsts same (seen ++ y ∷ []) ys) (y ∷ firsts same (seen ++ y ∷ []) ys) ++ cond (some (same x) (seen ++ y ∷ ys)) [] (x ∷ [])) [
      | true ↦ e
      | false ↦ ap (λ l. y ∷ l) e
    ]

module _ {X : Type 0} (same : X → X → Bool) (xs found : List X) (i : ℕ) (inv : found ≡ firsts same [] (take i xs)) (d : X) (h : i < length xs) (b : Bool) (said : b ≡ list_any (same (get_or xs i d)) (take i xs)) where
  first_on : firsts same [] (take (i + 1) xs) ≡ found ++ cond b [] (get_or xs i d ∷ [])
  unfolding some
  first_on =
      ap (firsts same []) (take_more xs i d h)
      ∙ (firsts_more same [] (take i xs) (get_or xs i d)
      ∙ (ap (λ l. l ++ cond (some (same (get_or xs i d)) (take i xs)) [] (get_or xs i d ∷ [])) (sym inv)
      ∙ ap (λ c. found ++ cond c [] (get_or xs i d ∷ [])) (sym said)))

  first_found : false ≡ b → found ++ get_or xs i d ∷ [] ≡ firsts same [] (take (i + 1) xs)
  first_found e = sym (first_on ∙ ap (λ c. found ++ cond c [] (get_or xs i d ∷ [])) (sym e))

  none_found : true ≡ b → found ≡ firsts same [] (take (i + 1) xs)
  none_found e = sym (first_on ∙ (ap (λ c. found ++ cond c [] (get_or xs i d ∷ [])) (sym e) ∙ append-nil found))

no_firsts : {X : Type 0} (same : X → X → Bool) → firsts same [] [] ≡ []
unfolding firsts
no_firsts same = refl

-- the users of the first items, one place on
module _ (xs : List ContraItem) (users : List ℕ) (i : ℕ) (inv : users ≡ users_in (take i xs)) (d : ContraItem) (h : i < length xs) (b : Bool) (said : b ≡ list_any (same_user (get_or xs i d)) (take i xs)) where
  pub user_found : false ≡ b → users ++ (get_or xs i d).user ∷ [] ≡ users_in (take (i + 1) xs)
  user_found e =
      ap (λ l. l ++ (get_or xs i d).user ∷ []) inv
      ∙ (sym (map-append (λ x. x.user) (firsts same_user [] (take i xs)) (get_or xs i d ∷ []))
      ∙ ap (map (λ x. x.user)) (first_found same_user xs _ i refl d h b said e))

  pub user_known : true ≡ b → users ≡ users_in (take (i + 1) xs)
  user_known e = inv ∙ ap (map (λ x. x.user)) (none_found same_user xs _ i refl d h b said e)

pub no_users : users_in [] ≡ []
no_users = ap (map (λ x. x.user)) (no_firsts same_user)
